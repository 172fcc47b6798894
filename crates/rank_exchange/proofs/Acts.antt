-- What a rank does next finds what it needs kept.
use Rattle.std.proofs.Common.{Vec, Global, ◌≡◌, ℕ, ◌+◌, ◌<◌, Bool, true, false, eqb, not, List, length, map, ap, sym, ◌∙◌, arith, subst}
use Rattle.std.specs.List.{AllByRecursion, filter, flat_map, range_with_len}
use Rattle.std.specs.Prelude.{Option, Some, None}
use Rattle.std.proofs.lemmas.Bool.{and_parts, eq-eqb, false≢true}
use Rattle.nbody_model.specs.Evolve.{is_empty}
use Rattle.cell_space.specs.Cells.{CellData}
use Rattle.nbody_model.specs.Bodies.{BodyData}
use Rattle.rank_laws.specs.Machine.{Action, Add, Share, Walk, Kind, Message, Sums, Members, Parts, Rank, after, has_all, is_some, list_after, message, through, to_all}
use Rattle.rank_laws.specs.Whole.{own, ranks_of, rules_of}
use Rattle.rank_laws.specs.Contents.{Given, Listed, Summed, members_sent, parts_sent, sums_sent, wanted}
use Rattle.rank_walk.specs.declared.walker.Walker.{Walker}
use Rattle.rank_walk.specs.Walkers.{IsThrough}
use Rattle.rank_exchange.specs.declared.shares.Kept.{Kept}
use Rattle.rank_exchange.specs.Came.{HasMembers, HasParts, HasSums, came, home_totals, kept_from, members_kept}
use Rattle.rank_exchange.specs.Members.{AreOwn, listed_in}
use Rattle.rank_exchange.specs.Messages.{MessageData, filled}
use Rattle.rank_exchange.specs.Moments.{Moment, action_at, state_at}
use Rattle.rank_exchange.specs.Sums.{cells_in}
use Rattle.rank_exchange.specs.Ranks.{AreTotals, DoesNext, HasMost, HasWalked, IsAt, IsRank, KeepsWalk, RankData, SharesNext, seat_at}
use Rattle.rank_exchange.proofs.HomeMembers.{cells_are}
use Rattle.rank_exchange.proofs.Moves.{acted, none_due, state_acted}
use Rattle.rank_exchange.proofs.Nexts.{adds_when, shares_when}
use Rattle.rank_exchange.proofs.Ranked.{are_own, most_shared, sent_to_all}
use Rattle.rank_exchange.proofs.Seated.{through_at}

module _ (m : Moment) (v : RankData) where
  pub adds_through : DoesNext m Add v → (o : Walker) → v.walker ≡ Some o → IsThrough (seat_at m) (state_at m) o
  adds_through h o e = let k : KeepsWalk (seat_at m) (state_at m) (Some o) = subst (KeepsWalk (seat_at m) (state_at m)) e h.rank.most.walk in through_at m o k.1 (adds_when m h.next).0

  pub adds_walked : DoesNext m Add v → v.walker ≡ None → ⊥
  adds_walked h e =
      let u : KeepsWalk (seat_at m) (state_at m) None = subst (KeepsWalk (seat_at m) (state_at m)) e h.rank.most.walk in
      false≢true (sym u.walked ∙ (and_parts (state_at m).walked (is_empty (state_at m).list) (adds_when m h.next).0).0)

  pub has_sums : DoesNext m Add v → (own others : List Summed) → own ≡ sums_sent m.whole m.rank m.rank → others ≡ v.sums.items → HasSums m own others
  has_sums h own others e f = record { all = (adds_when m h.next).1; itself = e; came = f ∙ h.rank.most.sums }

  pub totals_kept : SharesNext m v → AreTotals m.whole m.rank v.totals.items
  totals_kept h = h.does.rank.most.totals (shares_when m h.does.next).0

  pub has_members : SharesNext m v → (totals : List Summed) (kept : List Kept) → totals ≡ v.totals.items → kept ≡ members_kept m → HasMembers m totals kept
  has_members h totals kept e f = subst (λ t. HasMembers m t kept) (sym e) (record {
    all = (shares_when m h.does.next).1;
    sums_are = (totals_kept h).are;
    climbs = (totals_kept h).climbs;
    boxed = (totals_kept h).boxed;
    kept_are = f;
  })

  pub has_parts : HasMost m.whole m.rank (state_at m) v → v.shared ≡ true → v.due.parts ≡ 0 → (own others : List Given) → own ≡ v.given.items → others ≡ v.parts.items → HasParts m own others
  has_parts h s d own others e f = record {
    all = none_due m Parts (omega arith) v.due.parts h.due.parts ∙ eq-eqb v.due.parts 0 d;
    itself = e ∙ h.given (sym h.shared ∙ s);
    came = f ∙ h.parts;
  }

  -- what it sends to all others
  pub all_sent : HasMost m.whole m.rank (state_at m) v → (k : Kind) (to : List ℕ) (sent : List MessageData) → to ≡ filter (λ q. not (eqb q v.number)) (range_with_len 0 v.ranks) →
      sent ≡ map (λ q. filled m.whole (message k v.number q)) to → sent ≡ map (filled m.whole) (to_all (rules_of m.whole) k m.rank)
  all_sent h k to sent e f =
      f ∙ ap (map (λ q. filled m.whole (message k v.number q))) e
      ∙ (λ i. map (λ q. filled m.whole (message k (h.number i) q)) (filter (λ q. not (eqb q (h.number i))) (range_with_len 0 (h.ranks i))))
      ∙ sent_to_all m.whole k m.rank

  pub all_ranks : HasMost m.whole m.rank (state_at m) v → (to : List ℕ) → AllByRecursion (λ q. q < v.ranks) to → AllByRecursion (λ q. q < ranks_of m.whole) to
  all_ranks h to a = subst (λ n. AllByRecursion (λ q. q < n) to) h.ranks a

  -- its own bodies, in order beside
  pub own_along : IsAt m v → v.sorted ≡ true → (bodies : List BodyData) → bodies ≡ v.along.items → AreOwn (own m.whole m.rank) bodies
  own_along h e bodies f = subst (AreOwn (own m.whole m.rank)) (sym f) (are_own m v h e)

  -- the members of its home's cells
  pub members_are : SharesNext m v → (totals : List Summed) (cells : List CellData) → totals ≡ v.totals.items → cells ≡ cells_in totals →
      (own_members : List Listed) → own_members ≡ flat_map (listed_in (own m.whole m.rank)) cells → own_members ≡ members_sent m.whole m.rank m.rank
  members_are h totals cells e f own_members g =
      g ∙ ap (flat_map (listed_in (own m.whole m.rank))) (f ∙ cells_are m totals (members_kept m) (has_members h totals (members_kept m) e (λ i. members_kept m)))

-- the moment after a rank shares
pub shares_some : (m : Moment) → action_at m ≡ Share → is_some (action_at m) ≡ true
shares_some m e = ap is_some e

pub state_shared : (m : Moment) (e : action_at m ≡ Share) → state_at (acted m (shares_some m e)) ≡ after (rules_of m.whole) m.rank (state_at m) Share
state_shared m e = state_acted m (shares_some m e) ∙ ap (after (rules_of m.whole) m.rank (state_at m)) e

pub most_after : (m : Moment) (v : RankData) (h : SharesNext m v) (given : Vec Given Global) → given.items ≡ parts_sent m.whole m.rank m.rank →
    HasMost m.whole m.rank (state_at (acted m (shares_some m h.does.next))) (record v { given = given; shared = true })
most_after m v h given g =
    subst (λ s. HasMost m.whole m.rank s (record v { given = given; shared = true })) (sym (state_shared m h.does.next)) (most_shared m.whole m.rank (state_at m) v given g h.does.rank.most)

-- the moment after a rank walks
pub walks_some : (m : Moment) → action_at m ≡ Walk → is_some (action_at m) ≡ true
walks_some m e = ap is_some e

state_walked : (m : Moment) (e : action_at m ≡ Walk) → state_at (acted m (walks_some m e)) ≡ after (rules_of m.whole) m.rank (state_at m) Walk
state_walked m e = state_acted m (walks_some m e) ∙ ap (after (rules_of m.whole) m.rank (state_at m)) e

module _ (m : Moment) (b : List ℕ) (v : RankData) (h : HasWalked m b v) where
  pub walked_at : IsAt (acted m (walks_some m h.next)) v
  walked_at = subst (λ s. IsRank m.whole m.rank s v) (sym (state_walked m h.next)) h.rank

  -- no pair waits then where the code says so
  pub none_waits : (t : Bool) → t ≡ through (rules_of m.whole) (state_at (acted m (walks_some m h.next))) → is_empty (list_after (rules_of m.whole) m.rank (state_at m)) ≡ t
  none_waits t e = sym (e ∙ ap (through (rules_of m.whole)) (state_walked m h.next))

  pub walker_through : (o : Walker) → v.walker ≡ Some o → true ≡ through (rules_of m.whole) (state_at (acted m (walks_some m h.next))) → IsThrough (seat_at m) (state_at (acted m (walks_some m h.next))) o
  walker_through o e t =
      let k : KeepsWalk (seat_at m) (state_at (acted m (walks_some m h.next))) (Some o) = subst (KeepsWalk (seat_at m) (state_at (acted m (walks_some m h.next)))) e walked_at.most.walk in
      through_at (acted m (walks_some m h.next)) o k.1 (sym t)
