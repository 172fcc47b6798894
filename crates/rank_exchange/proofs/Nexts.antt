-- What a rank does next, by what the code keeps of it.
use Rattle.std.proofs.Common.{◌≡◌, ℕ, Bool, true, false, eqb, ◌&&◌, ◌||◌, not, refl, ap, sym, ◌∙◌, arith, subst}
use Rattle.std.specs.Prelude.{Option, Some, None}
use Rattle.std.specs.List.{list_any}
use Rattle.std.proofs.lemmas.Bool.{and_parts, eqb-true}
use Rattle.nbody_model.specs.Evolve.{is_empty}
use Rattle.rank_laws.specs.Machine.{Action, Build, Walk, Add, Share, Table, Sums, Members, Parts, Rank, action, chosen, has_all, is_some, knows_both, may_add, may_share, may_walk, ready, through}
use Rattle.rank_laws.specs.Whole.{rules_of}
use Rattle.rank_laws.proofs.Machine.{chosen-add, chosen-share, chosen-walk}
use Rattle.rank_walk.specs.Seats.{Seat}
use Rattle.rank_walk.specs.Walkers.{may_go_on}
use Rattle.rank_exchange.specs.Moments.{Moment, action_at, state_at}
use Rattle.rank_exchange.specs.Ranks.{AreForces, IsAt, KeepsWalk, MayTell, RankData, seat_at}
use Rattle.rank_exchange.proofs.Moves.{none_due}

-- ---- tests

pub ready_is : (m : Moment) (v : RankData) → IsAt m v → (v.built && eqb v.due.tables 0) ≡ ready (rules_of m.whole) m.rank (state_at m)
ready_is m v h = ap (λ b. b && eqb v.due.tables 0) h.most.built ∙ ap (λ t. (state_at m).built && t) (sym (none_due m Table (omega arith) v.due.tables h.most.due.tables))

pub may_add_is : (m : Moment) (v : RankData) → IsAt m v → (t : Bool) → t ≡ through (rules_of m.whole) (state_at m) → ((t && eqb v.due.sums 0) && not v.added) ≡ may_add (rules_of m.whole) m.rank (state_at m)
may_add_is m v h t e =
    ap (λ x. (x && eqb v.due.sums 0) && not v.added) e
    ∙ ap (λ x. (through (rules_of m.whole) (state_at m) && x) && not v.added) (sym (none_due m Sums (omega arith) v.due.sums h.most.due.sums))
    ∙ ap (λ x. (through (rules_of m.whole) (state_at m) && has_all (rules_of m.whole) Sums m.rank (state_at m)) && not x) h.most.added

pub may_share_is : (m : Moment) (v : RankData) → IsAt m v → ((v.added && eqb v.due.members 0) && not v.shared) ≡ may_share (rules_of m.whole) m.rank (state_at m)
may_share_is m v h =
    ap (λ x. (x && eqb v.due.members 0) && not v.shared) h.most.added
    ∙ ap (λ x. ((state_at m).added && x) && not v.shared) (sym (none_due m Members (omega arith) v.due.members h.most.due.members))
    ∙ ap (λ x. ((state_at m).added && has_all (rules_of m.whole) Members m.rank (state_at m)) && not x) h.most.shared

-- before its first walk it may go, and is not through
pub unwalked_goes : (z : Seat) (s : Rank) → KeepsWalk z s None → true ≡ may_go_on z s
unwalked_goes z s u = ap (λ b. not b || list_any (knows_both (rules_of z.whole) z.rank s.replies) s.list) (sym u.walked)

pub unwalked_not_through : (m : Moment) (z : Seat) (s : Rank) → KeepsWalk z s None → false ≡ through (rules_of m.whole) s
unwalked_not_through m z s u = ap (λ b. b && is_empty s.list) (sym u.walked)

-- ---- the next action

module _ (m : Moment) where
  abbrev w : Bool
  w = may_walk (rules_of m.whole) m.rank (state_at m)

  abbrev a : Bool
  a = may_add (rules_of m.whole) m.rank (state_at m)

  abbrev h : Bool
  h = may_share (rules_of m.whole) m.rank (state_at m)

  is_chosen : action_at m ≡ chosen (state_at m).built w a h
  unfolding action
  is_chosen = refl

  pub next_build : (state_at m).built ≡ false → action_at m ≡ Build
  next_build e = is_chosen ∙ ap (λ b. chosen b w a h) e

  pub next_walk : (state_at m).built ≡ true → w ≡ true → action_at m ≡ Walk
  next_walk e f = is_chosen ∙ ap (λ b. chosen b w a h) e ∙ ap (λ b. chosen true b a h) f

  pub next_add : (state_at m).built ≡ true → w ≡ false → a ≡ true → action_at m ≡ Add
  next_add e f g = is_chosen ∙ ap (λ b. chosen b w a h) e ∙ ap (λ b. chosen true b a h) f ∙ ap (λ b. chosen true false b h) g

  next_last : (state_at m).built ≡ true → w ≡ false → a ≡ false → action_at m ≡ chosen true false false h
  next_last e f g = is_chosen ∙ ap (λ b. chosen b w a h) e ∙ ap (λ b. chosen true b a h) f ∙ ap (λ b. chosen true false b h) g

  pub last_is : (state_at m).built ≡ true → w ≡ false → a ≡ false → is_some (action_at m) ≡ h
  last_is e f g = ap is_some (next_last e f g) ∙ by h refl
    where
      by : (b : Bool) → h ≡ b → is_some (chosen true false false h) ≡ h
      by true k = ap (λ b. is_some (chosen true false false b)) k ∙ sym k
      by false k = ap (λ b. is_some (chosen true false false b)) k ∙ sym k

  pub next_share : (state_at m).built ≡ true → w ≡ false → a ≡ false → is_some (action_at m) ≡ true → action_at m ≡ Share
  next_share e f g k = next_last e f g ∙ ap (λ b. chosen true false false b) (sym (last_is e f g) ∙ k)

  -- and what that says of it
  pub adds_when : action_at m ≡ Add → (through (rules_of m.whole) (state_at m) ≡ true) × (has_all (rules_of m.whole) Sums m.rank (state_at m) ≡ true)
  adds_when e = and_parts (through (rules_of m.whole) (state_at m)) (has_all (rules_of m.whole) Sums m.rank (state_at m)) (and_parts (through (rules_of m.whole) (state_at m) && has_all (rules_of m.whole) Sums m.rank (state_at m)) (not (state_at m).added) (chosen-add (state_at m).built w a h (sym is_chosen ∙ e))).0

  pub shares_when : action_at m ≡ Share → ((state_at m).added ≡ true) × (has_all (rules_of m.whole) Members m.rank (state_at m) ≡ true)
  shares_when e = and_parts (state_at m).added (has_all (rules_of m.whole) Members m.rank (state_at m)) (and_parts ((state_at m).added && has_all (rules_of m.whole) Members m.rank (state_at m)) (not (state_at m).shared) (chosen-share (state_at m).built w a h (sym is_chosen ∙ e))).0

-- ---- the forces

pub forces_there : (m : Moment) (v : RankData) → IsAt m v → MayTell m → AreForces m.whole m.rank (state_at m) v.forces.items
forces_there m v h t = h.forces t.shared (eqb-true v.due.parts 0 (sym (none_due m Parts (omega arith) v.due.parts h.most.due.parts) ∙ t.parts))
