-- A rank before its first walk.
use Rattle.std.proofs.Common.{◌≡◌, ℕ, zero, suc, ◌*◌, ◌<◌, ◌^◌, Bool, true, false, cond, ◌&&◌, ◌||◌, List, [], ◌∷◌, map, length, sum_by, get_or, refl, ap, sym, ◌∙◌, arith, subst}
use Rattle.std.specs.List.{AllByRecursion, list_any}
use Rattle.std.proofs.lemmas.Bool.{false≢true}
use Rattle.fixed_point.specs.Vectors.{origin, IsAtMost}
use Rattle.cell_space.specs.Cells.{CellData, same_cell}
use Rattle.rank_laws.specs.Homes.{in_span}
use Rattle.rank_laws.specs.Machine.{Rank, is_one, knows_both, todo}
use Rattle.rank_laws.specs.Whole.{counted_in, root_pair, start_of}
use Rattle.rank_walk.specs.declared.heard.Heard.{Heard}
use Rattle.rank_walk.specs.declared.places.Places.{Places}
use Rattle.rank_walk.specs.declared.walker.Walker.{Walker}
use Rattle.rank_walk.specs.Seats.{IsSeat, Seat, is_home, knows_cell, rules, side}
use Rattle.rank_walk.specs.Slots.{SlotData, slot_at, cell_at_place, cells_in, cells, flag_at, two, sum_at_place, value_at}
use Rattle.rank_walk.specs.Starts.{BeginsWith, knows_places}
use Rattle.rank_walk.specs.Tables.{IsIn, IsOpened, IsSlot, IsTable, known_at}
use Rattle.rank_walk.specs.Walked.{AreListed, IsHeard, Same, done_to, takes_part}
use Rattle.rank_walk.specs.Walkers.{IsUnwalked, IsWalker, weight_from}
use Rattle.rank_walk.proofs.Values.{none_at}

-- whether both cells of a pair on a list are known
pub knows_some : (z : Seat) (replies : List CellData) (h : Heard) → IsHeard (side z replies) h → (xs : List Places) → AllByRecursion (IsIn h.slots.items) xs → list_any (knows_places h.slots.items) xs ≡ list_any (knows_both (rules z) z.rank replies) (map (cells h.slots.items) xs)
knows_some z replies h was [] a = refl
knows_some z replies h was (x ∷ xs) a = λ i. (was.knows x.a a.0.first i && was.knows x.b a.0.second i) || knows_some z replies h was xs a.1 i

module _ (z : Seat) (seat : IsSeat z) (h : Heard) (b : BeginsWith h z) (s : Rank) (u : IsUnwalked s) where
  abbrev r : SlotData
  r = b.root

  one_slot : IsTable z (r ∷ [])
  one_slot = record {
    some = omega arith;
    short = omega arith;
    root = b.fresh.cell;
    each = each;
    opened = opened;
    born = λ j h k. absurd (omega (arith, h, k));
    distinct = λ i j h k e. omega (arith, h, k);
  }
    where
      each : (i : ℕ) → i < 1 → IsSlot z (slot_at (r ∷ []) i)
      each zero h = b.fresh.slot
      each (suc i) h = absurd (omega (arith, h))

      opened : (i : ℕ) → i < 1 → 0 < (slot_at (r ∷ []) i).number → IsOpened z (r ∷ []) i
      opened zero h k = absurd (omega (arith, k, b.fresh.closed))
      opened (suc i) h k = absurd (omega (arith, h))

  knows : (i : ℕ) → i < 1 → known_at (r ∷ []) i ≡ knows_cell (side z s.replies) (cell_at_place (r ∷ []) i)
  knows zero h = b.fresh.known ∙ off (is_home z r.cell) ∙ ap (λ rs. is_home z r.cell || is_one r.cell rs) (sym u.replies)
    where
      off : (a : Bool) → a ≡ (a || false)
      off true = refl
      off false = refl
  knows (suc i) h = absurd (omega (arith, h))

  pub heard_first : IsHeard (side z s.replies) h
  heard_first = record {
    whole = seat.whole;
    table = subst (IsTable z) (sym b.slots) one_slot;
    knows = λ i low. ap (λ t. known_at t i) b.slots ∙ knows i (omega (arith, low, ap length b.slots)) ∙ ap (λ t. knows_cell (side z s.replies) (cell_at_place t i)) (sym b.slots);
    stands = λ c e. absurd (false≢true (sym (ap (is_one c) u.replies) ∙ e));
    long = ap length b.sums ∙ ap length (sym b.slots);
    long_touched = ap length b.touched ∙ ap length (sym b.slots);
    long_asked = ap length b.asked ∙ ap length (sym b.slots);
  }

  first_listed : (m : Bool) → AreListed (r ∷ []) (cond m (two 0 0 ∷ []) [])
  first_listed true = record { within = (record { first = omega arith; second = omega arith }, tt); listed = (Same refl, tt) }
  first_listed false = record { within = tt; listed = tt }

  pairs_by : (m : Bool) → map (cells (r ∷ [])) (cond m (two 0 0 ∷ []) []) ≡ cond (m || m) (root_pair ∷ []) []
  pairs_by true = λ i. (b.fresh.cell i, b.fresh.cell i) ∷ []
  pairs_by false = refl

  first_pairs : map (cells (r ∷ [])) (cond r.mine (two 0 0 ∷ []) []) ≡ start_of z.whole z.rank
  first_pairs = pairs_by r.mine ∙ ap (λ m. cond (m || m) (root_pair ∷ []) []) (b.fresh.slot.mine ∙ ap (in_span z.whole.keys z.rank) b.fresh.cell)

  first_small : (i : ℕ) → IsAtMost (0 * 2 ^ 86) (sum_at_place (origin ∷ []) i)
  first_small zero = record { on_x = omega arith; on_y = omega arith; on_z = omega arith }
  first_small (suc i) = record { on_x = omega arith; on_y = omega arith; on_z = omega arith }

  no_flag : (c : CellData) → flag_at (r.cell ∷ []) (false ∷ []) c ≡ false
  no_flag c = by (same_cell c r.cell)
    where
      by : (a : Bool) → (a && false || false) ≡ false
      by true = refl
      by false = refl

  unasked : (i : ℕ) → get_or (false ∷ []) i false ≡ false
  unasked zero = refl
  unasked (suc i) = refl

  pub walker_begins : (w : Walker) → w.heard.slots.items ≡ h.slots.items → w.heard.sums.items ≡ h.sums.items → w.heard.touched.items ≡ h.touched.items → w.heard.asked.items ≡ h.asked.items → IsHeard (side z s.replies) w.heard →
      w.list.items ≡ cond (slot_at h.slots.items 0).mine (two 0 0 ∷ []) [] → w.counted ≡ 0 → w.walked ≡ false → w.more ≡ list_any (knows_places h.slots.items) w.list.items → IsWalker z s w
  walker_begins w slots sums touched asked heard list count walked more =
      let here : w.heard.slots.items ≡ r ∷ [] = slots ∙ b.slots in
      let its : w.list.items ≡ cond r.mine (two 0 0 ∷ []) [] = list ∙ ap (λ t. cond (slot_at t 0).mine (two 0 0 ∷ []) []) b.slots in
      let listed : AreListed w.heard.slots.items w.list.items = subst (λ t. AreListed t w.list.items) (sym here) (subst (AreListed (r ∷ [])) (sym its) (first_listed r.mine)) in
      let start : map (cells w.heard.slots.items) w.list.items ≡ start_of z.whole z.rank = (λ t. map (cells (here t)) (its t)) ∙ first_pairs in
      let to_do : todo (rules z) z.rank s ≡ start_of z.whole z.rank = ap (λ b. cond b s.list (start_of z.whole z.rank)) u.walked in
      record {
        heard = heard;
        listed = listed;
        pairs = start ∙ sym to_do;
        kept = record {
          counted = count ∙ sym (ap (λ t. length (counted_in z.whole z.rank t)) u.done);
          sums = λ c. (λ t. value_at (cells_in (here t)) ((sums ∙ b.sums) t) c) ∙ none_at (r.cell ∷ []) c ∙ sym (ap (λ t. done_to z (counted_in z.whole z.rank t) c) u.done);
          touched = λ c. (λ t. flag_at (cells_in (here t)) ((touched ∙ b.touched) t) c) ∙ no_flag c ∙ sym (ap (λ t. takes_part (counted_in z.whole z.rank t) c) u.done);
          asked = λ c. (λ t. flag_at (cells_in (here t)) ((asked ∙ b.asked) t) c) ∙ no_flag c ∙ sym (ap (is_one c) u.asked);
          small = λ i. subst (λ n. IsAtMost (n * 2 ^ 86) (sum_at_place w.heard.sums.items i)) (sym count) (subst (λ t. IsAtMost (0 * 2 ^ 86) (sum_at_place t i)) (sym (sums ∙ b.sums)) (first_small i));
        };
        run = record {
          settled = λ g. omega (arith, ap (sum_by g) u.done, ap (weight_from z g) to_do);
          answered = λ c e. absurd (false≢true (sym (ap (is_one c) u.replies) ∙ e));
          away = λ c e. absurd (false≢true (sym (ap (is_one c) u.asked) ∙ e));
        };
        found = λ i low e. absurd (false≢true (sym (ap (λ t. get_or t i false) (asked ∙ b.asked) ∙ unasked i) ∙ e));
        walked = walked ∙ sym u.walked;
        more = more ∙ ap (λ t. list_any (knows_places t) w.list.items) (sym slots) ∙ knows_some z s.replies w.heard heard w.list.items listed.within ∙ ap (list_any (knows_both (rules z) z.rank s.replies)) (start ∙ sym to_do);
      }
