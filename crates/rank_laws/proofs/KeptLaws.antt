-- What ranks make of the messages that they keep.
use Rattle.std.proofs.lemmas.Bool.{cond-true, cond-false, lt-ltb}
use Rattle.std.specs.Prelude.{nat_lt}
use Rattle.std.proofs.Common.{[], ◌≡◌, ℕ, ◌<◌, true, cond, eqb, List, ◌∷◌, map, sum_by, refl, ap, sym, ◌∙◌, arith, subst, ◌+ℤ◌, Bool, false, ◌||◌}
use Rattle.std.specs.List.{flat_map, list_any}
use Rattle.std.specs.List.Sorted.{IsPermutation}
use Rattle.std.proofs.lemmas.List.Sums.{sum_by-cons, sum_by-append}
use Rattle.std.proofs.lemmas.List.Sorted.{IsPermutation-trans, IsPermutation-cons, sum_by-IsPermutation}
use Rattle.fixed_point.specs.declared.V3.{V3}
use Rattle.fixed_point.specs.Vectors.{plus, sum_of}
use Rattle.cell_space.specs.Cells.{CellData, same_cell}
use Rattle.nbody_model.specs.Bodies.{BodyData}
use Rattle.nbody_model.specs.Nodes.{members}
use Rattle.nbody_model.specs.Force.{node_total, force_at, forces}
use Rattle.model_laws.proofs.Among.{Among, any-flat_map}
use Rattle.model_laws.proofs.Sums.{sum_by-flat_map, sum_by-mapped}
use Rattle.rank_laws.specs.Homes.{home}
use Rattle.rank_laws.specs.Protocol.{World, Move, state, enabled}
use Rattle.rank_laws.specs.Machine.{Kind, code_of, Sums, Members, Parts, Message, Rank, is_one, has_all, others, machine, start_world}
use Rattle.rank_laws.specs.Whole.{ranks, Whole, IsWhole, rules_of, ranks_of}
use Rattle.rank_laws.specs.Contents.{sum_at, sums_sent, total_at, wanted, member_of, members_in, members_sent, collected, given_to, parts_sent, gathered, touched}
use Rattle.rank_laws.specs.Runs.{Runs, unsent, received}
use Rattle.rank_laws.specs.Kept.{senders, added_up, listed_up, given_up, AddsTotals, HasMembers, HasForces, HasCells, FinishedHaveAll}
use Rattle.rank_laws.proofs.Protocol.{IsKept, run_kept}
use Rattle.rank_laws.proofs.Machine.{IsSteady, IsGood, left}
use Rattle.rank_laws.proofs.Taken.{first}
use Rattle.rank_laws.proofs.Run.{lawful, start_kept}
use Rattle.rank_laws.proofs.Stuck.{all_sums, all_members, all_parts}
use Rattle.rank_laws.proofs.Numbered.{no_action, no_delivery}
use Rattle.rank_laws.proofs.Fairness.{rules_fair, in_order-same}
use Rattle.rank_laws.proofs.Axes.{Axis, OnX, OnY, OnZ, on, on_sum, on_each}
use Rattle.rank_laws.proofs.Homing.{homes_have}
use Rattle.rank_laws.proofs.Collecting.{permuted, same_member, same_member-exact, collected_sum}
use Rattle.rank_laws.proofs.Gathering.{gathered_is, map_on}
use Rattle.rank_laws.proofs.KeptOnce.{number-exact, times_all, total_got, keeps_once}

on_plus : (a : Axis) (u v : V3) → on a (plus u v) ≡ on a u +ℤ on a v
on_plus OnX u v = refl
on_plus OnY u v = refl
on_plus OnZ u v = refl

pub finished_have : FinishedHaveAll
finished_have rules fair es w run e r lt =
    let k : IsKept (machine rules) (unsent rules) (received rules) (left rules) (IsSteady rules) (IsGood rules) (first rules fair) w =
    (run_kept (machine rules) (unsent rules) (received rules) (left rules) (IsSteady rules) (IsGood rules) (first rules fair) (lawful rules fair) (start_world rules) w es (start_kept rules fair) run).0 in
    record {
      sums = all_sums rules fair w k (no_action (machine rules) w e) (no_delivery (machine rules) w e) r lt;
      members = all_members rules fair w k (no_action (machine rules) w e) (no_delivery (machine rules) w e) r lt;
      parts = all_parts rules fair w k (no_action (machine rules) w e) (no_delivery (machine rules) w e) r lt;
    }

module _ (w : Whole) (whole : IsWhole w) (es : List Move) (z : World Rank Message) (run : Runs (rules_of w) es z) where
  abbrev at : ℕ → Rank
  at r = state (machine (rules_of w)) z r

  -- a sum of vectors over all ranks, as one rank makes it
  sum_got : (r : ℕ) → r < ranks_of w → (k : Kind) → code_of k < 5 → has_all (rules_of w) k r (at r) ≡ true → (f : ℕ → V3) → plus (f r) (sum_of f (senders k (at r))) ≡ sum_of f (ranks w)
  sum_got r lt k c e f = on_each (plus (f r) (sum_of f (senders k (at r)))) (sum_of f (ranks w)) (λ a.
      on_plus a (f r) (sum_of f (senders k (at r)))
      ∙ ap (λ t. on a (f r) +ℤ t) (on_sum a f (senders k (at r)))
      ∙ sym (total_got (rules_of w) (rules_fair w whole) es z run r lt k c e (λ q. on a (f q)))
      ∙ sym (on_sum a f (ranks w)))

  adds : (r : ℕ) → r < ranks_of w → has_all (rules_of w) Sums r (at r) ≡ true → (c : CellData) → home w.keys c ≡ r → added_up w r (at r) c ≡ node_total w.gravity w.bodies c
  unfolding total_at
  adds r lt e c h = sum_got r lt Sums (omega arith) e (λ q. sum_at c (sums_sent w q r)) ∙ subst (λ (t : ℕ). total_at w t c ≡ node_total w.gravity w.bodies c) h (homes_have w whole c)

  all_ranks : (r : ℕ) → r < ranks_of w → has_all (rules_of w) Members r (at r) ≡ true → IsPermutation (ranks w) (r ∷ senders Members (at r))
  all_ranks r lt e = IsPermutation-trans (ranks w) (r ∷ others (rules_of w) r) (r ∷ senders Members (at r))
      (permuted eqb number-exact (ranks w) (r ∷ others (rules_of w) r) (times_all r (ranks_of w) lt))
      (IsPermutation-cons r (others (rules_of w) r) (senders Members (at r)) (keeps_once (rules_of w) (rules_fair w whole) es z run r lt Members (omega arith) e))

  any_some : {X : Type 0} (t : X → Bool) (xs : List X) → list_any t xs ≡ nat_lt 0 (sum_by (λ x. cond (t x) 1 0) xs)
  any_some t [] = refl
  any_some t (x ∷ xs) = by (t x) refl (any_some t xs)
    where
      by : (b : Bool) → t x ≡ b → list_any t xs ≡ nat_lt 0 (sum_by (λ x. cond (t x) 1 0) xs) → (b || list_any t xs) ≡ nat_lt 0 (sum_by (λ x. cond (t x) 1 0) (x ∷ xs))
      by true e rest = sym (lt-ltb 0 (sum_by (λ x. cond (t x) 1 0) (x ∷ xs)) (omega (arith, sum_by-cons (λ x. cond (t x) 1 0) x xs, cond-true {A = ℕ} (t x) 1 0 e)))
      by false e rest = rest ∙ ap (nat_lt 0) (let u : sum_by (λ x. cond (t x) 1 0) xs ≡ sum_by (λ x. cond (t x) 1 0) (x ∷ xs) = omega (arith, sum_by-cons (λ x. cond (t x) 1 0) x xs, cond-false {A = ℕ} (t x) 1 0 e) in u)

  cells : (r : ℕ) → r < ranks_of w → has_all (rules_of w) Sums r (at r) ≡ true → (c : CellData) → is_one c (flat_map (λ q. touched w q r) (r ∷ senders Sums (at r))) ≡ is_one c (wanted w r)
  unfolding wanted
  cells r lt e c =
      let p : IsPermutation (ranks w) (r ∷ senders Sums (at r)) = IsPermutation-trans (ranks w) (r ∷ others (rules_of w) r) (r ∷ senders Sums (at r))
      (permuted eqb number-exact (ranks w) (r ∷ others (rules_of w) r) (times_all r (ranks_of w) lt))
      (IsPermutation-cons r (others (rules_of w) r) (senders Sums (at r)) (keeps_once (rules_of w) (rules_fair w whole) es z run r lt Sums (omega arith) e)) in
      any-flat_map (same_cell c) (λ q. touched w q r) (r ∷ senders Sums (at r))
      ∙ any_some (λ q. is_one c (touched w q r)) (r ∷ senders Sums (at r))
      ∙ ap (nat_lt 0) (sum_by-IsPermutation (λ q. cond (is_one c (touched w q r)) 1 0) (ranks w) (r ∷ senders Sums (at r)) p)
      ∙ sym (any_some (λ q. is_one c (touched w q r)) (ranks w))
      ∙ sym (any-flat_map (same_cell c) (λ q. touched w q r) (ranks w))
      ∙ sym (in_order-same w.keys c (flat_map (λ q. touched w q r) (ranks w)))

  collects : (r : ℕ) → r < ranks_of w → has_all (rules_of w) Members r (at r) ≡ true → (c : CellData) → is_one c (wanted w r) ≡ true → IsPermutation (map member_of (members w.bodies c)) (listed_up w r (at r) c)
  unfolding collected
  collects r lt e c n = permuted same_member same_member-exact (map member_of (members w.bodies c)) (listed_up w r (at r) c) (λ m.
      let g : ℕ → ℕ = λ q. sum_by (λ x. cond {A = ℕ} (same_member x m) 1 0) (members_in c (members_sent w q r)) in
      omega (
        arith,
        sum_by-mapped (λ x. cond (same_member x m) 1 0) member_of (members w.bodies c),
        collected_sum w whole r c n (λ x. cond (same_member x m) 1 0),
        sum_by-flat_map (λ x. cond (same_member x m) 1 0) (λ q. members_in c (members_sent w q r)) (ranks w),
        sum_by-IsPermutation (λ q. sum_by (λ x. cond (same_member x m) 1 0) (members_in c (members_sent w q r))) (ranks w) (r ∷ senders Members (at r)) (all_ranks r lt e),
        sum_by-cons (λ q. sum_by (λ x. cond (same_member x m) 1 0) (members_in c (members_sent w q r))) r (senders Members (at r)),
        sum_by-append (λ x. cond (same_member x m) 1 0) (members_in c (members_sent w r r)) (flat_map (λ q. members_in c (members_sent w q r)) (senders Members (at r))),
        sum_by-flat_map (λ x. cond (same_member x m) 1 0) (λ q. members_in c (members_sent w q r)) (senders Members (at r)),
      ))

  gathers : enabled (machine (rules_of w)) z ≡ 0 → (b : BodyData) → Among b w.bodies → given_up w (w.owner b.id) (at (w.owner b.id)) b ≡ force_at w.gravity w.bodies b
  unfolding gathered
  gathers e b i =
      sum_got (w.owner b.id) (whole.owned b.id) Parts (omega arith) (finished_have (rules_of w) (rules_fair w whole) es z run e (w.owner b.id) (whole.owned b.id)).parts (λ h. given_to b.id (parts_sent w h (w.owner b.id)))
      ∙ gathered_is w whole b i

  all_forces : enabled (machine (rules_of w)) z ≡ 0 → map (λ b. given_up w (w.owner b.id) (at (w.owner b.id)) b) w.bodies ≡ forces w.gravity w.bodies
  unfolding forces
  all_forces e = map_on (λ b. given_up w (w.owner b.id) (at (w.owner b.id)) b) (force_at w.gravity w.bodies) w.bodies (gathers e)

pub adds_totals : AddsTotals
adds_totals w whole es z run r lt e c h = adds w whole es z run r lt e c h

pub has_members : HasMembers
has_members w whole es z run r lt e c n = collects w whole es z run r lt e c n

pub has_forces : HasForces
has_forces w whole es z run e = all_forces w whole es z run e

pub has_cells : HasCells
has_cells w whole es z run r lt e c = cells w whole es z run r lt e c
