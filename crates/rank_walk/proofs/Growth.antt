-- Slots and what stands beside them, where more slots came, and where a force was added.
use Rattle.std.proofs.Common.{◌≡◌, ℕ, zero, suc, ◌+◌, ◌<◌, ◌≤◌, Bool, true, false, ◌||◌, List, [], ◌∷◌, ◌++◌, map, length, refl, ap, sym, ◌∙◌, arith, ◌⊎◌, inl, inr, subst}
use Rattle.std.specs.List.{AllByRecursion}
use Rattle.std.proofs.lemmas.Bool.{false≢true, cases_lt, or_left}
use Rattle.fixed_point.specs.declared.V3.{V3}
use Rattle.fixed_point.specs.Vectors.{origin, IsAtMost}
use Rattle.cell_space.specs.Cells.{CellData, same_cell}
use Rattle.cell_space.proofs.Cells.{same_cell-exact}
use Rattle.model_laws.proofs.Among.{any-append}
use Rattle.rank_laws.specs.Machine.{is_one}
use Rattle.rank_walk.specs.declared.heard.Heard.{Heard}
use Rattle.rank_walk.specs.declared.places.Places.{Places}
use Rattle.rank_walk.specs.Seats.{Side, is_home, knows_cell}
use Rattle.rank_walk.specs.Slots.{SlotData, cell_at_place, cells_in, value_at, sum_at_place, flag_at}
use Rattle.rank_walk.specs.Tables.{IsTable, IsGrown, KnowsSlots, known_at}
use Rattle.rank_walk.specs.Walked.{IsHeard, IsListed, AreListed}
use Rattle.rank_walk.proofs.Given.{grown_long, cell_kept, cells_kept, all_in_kept}
use Rattle.rank_walk.proofs.Lists.{length_map}
use Rattle.rank_walk.proofs.Values.{value_grown, flag_grown}

pub length_append : {X : Type 0} (xs ys : List X) → length (xs ++ ys) ≡ length xs + length ys
length_append [] ys = omega arith
length_append (x ∷ xs) ys = omega (arith, length_append xs ys)

-- a cell stands at a place
pub record StandsAt (ss : List SlotData) (c : CellData) : Type 0 where
  pub place : ℕ
  pub low : place < length ss
  pub cell : cell_at_place ss place ≡ c

pub stands_at : (ss : List SlotData) (c : CellData) → is_one c (cells_in ss) ≡ true → StandsAt ss c
stands_at [] c h = absurd (false≢true h)
stands_at (s ∷ ss) c h = by (same_cell c s.cell) refl (λ k. stands_at ss c k) h
  where
    later : StandsAt ss c → StandsAt (s ∷ ss) c
    later a = record { place = suc a.place; low = omega (arith, a.low); cell = a.cell }

    by : (b : Bool) → same_cell c s.cell ≡ b → (is_one c (cells_in ss) ≡ true → StandsAt ss c) → (b || is_one c (cells_in ss)) ≡ true → StandsAt (s ∷ ss) c
    by true e rest k = record { place = 0; low = omega arith; cell = sym ((same_cell-exact c s.cell).0 e) }
    by false e rest k = later (rest k)

module _ (z : Side) (h k : Heard) (was : IsHeard z h) (g : IsGrown z.seat h k) where
  knows_new : KnowsSlots z k.slots.items
  knows_new i low = by (cases_lt i (length h.slots.items))
    where
      no_reply : length h.slots.items ≤ i → (b : Bool) → is_one (cell_at_place k.slots.items i) z.replies ≡ b → b ≡ false
      no_reply u true e =
          let a : StandsAt h.slots.items (cell_at_place k.slots.items i) = stands_at h.slots.items (cell_at_place k.slots.items i) (was.stands (cell_at_place k.slots.items i) e) in
          let s : a.place ≡ i = g.table.distinct a.place i (omega (arith, a.low, grown_long z.seat h k g)) low (cell_kept z.seat h k g a.place a.low ∙ a.cell) in
          absurd (omega (arith, s, u, a.low))
      no_reply u false e = refl

      off : (a : Bool) → a ≡ (a || false)
      off true = refl
      off false = refl

      by : (i < length h.slots.items) ⊎ (length h.slots.items ≤ i) → known_at k.slots.items i ≡ knows_cell z (cell_at_place k.slots.items i)
      by (inl u) = g.kept i u ∙ was.knows i u ∙ ap (knows_cell z) (sym (cell_kept z.seat h k g i u))
      by (inr u) = g.fresh i u low ∙ off (is_home z.seat (cell_at_place k.slots.items i)) ∙ ap (λ b. is_home z.seat (cell_at_place k.slots.items i) || b) (sym (no_reply u (is_one (cell_at_place k.slots.items i) z.replies) refl))

  long_of : {X : Type 0} (e : X) (xs ys : List X) → ys ≡ xs ++ map (λ (c : CellData). e) g.more → length xs ≡ length h.slots.items → length ys ≡ length k.slots.items
  long_of e xs ys p q = omega (arith, ap length p, length_append xs (map (λ (c : CellData). e) g.more), length_map (λ (c : CellData). e) g.more, grown_long z.seat h k g, q)

  pub heard_grown : IsHeard z k
  heard_grown = record {
    whole = was.whole;
    table = g.table;
    knows = knows_new;
    stands = λ c r. ap (is_one c) g.cells ∙ any-append (same_cell c) (cells_in h.slots.items) g.more ∙ or_left (is_one c (cells_in h.slots.items)) (is_one c g.more) (was.stands c r);
    long = long_of origin h.sums.items k.sums.items g.longer.sums was.long;
    long_touched = long_of false h.touched.items k.touched.items g.longer.touched was.long_touched;
    long_asked = long_of false h.asked.items k.asked.items g.longer.asked was.long_asked;
  }

  cells_long : {X : Type 0} (xs : List X) → length xs ≡ length h.slots.items → length xs ≡ length (cells_in h.slots.items)
  cells_long xs e = omega (arith, e, length_map (λ (s : SlotData). s.cell) h.slots.items)

  pub values_grown : (c : CellData) → value_at (cells_in k.slots.items) k.sums.items c ≡ value_at (cells_in h.slots.items) h.sums.items c
  values_grown c = (λ i. value_at (g.cells i) (g.longer.sums i) c) ∙ value_grown (cells_in h.slots.items) g.more h.sums.items c (cells_long h.sums.items was.long)

  pub touched_grown : (c : CellData) → flag_at (cells_in k.slots.items) k.touched.items c ≡ flag_at (cells_in h.slots.items) h.touched.items c
  touched_grown c = (λ i. flag_at (g.cells i) (g.longer.touched i) c) ∙ flag_grown (cells_in h.slots.items) g.more h.touched.items c (cells_long h.touched.items was.long_touched)

  pub asked_grown : (c : CellData) → flag_at (cells_in k.slots.items) k.asked.items c ≡ flag_at (cells_in h.slots.items) h.asked.items c
  asked_grown c = (λ i. flag_at (g.cells i) (g.longer.asked i) c) ∙ flag_grown (cells_in h.slots.items) g.more h.asked.items c (cells_long h.asked.items was.long_asked)

  pub small_grown : (n : ℕ) → ((i : ℕ) → IsAtMost n (sum_at_place h.sums.items i)) → (i : ℕ) → IsAtMost n (sum_at_place k.sums.items i)
  small_grown n small i = subst (λ t. IsAtMost n (sum_at_place t i)) (sym g.longer.sums) (append h.sums.items g.more i small)
    where
      none : (cs : List CellData) (i : ℕ) → IsAtMost n (sum_at_place (map (λ c. origin) cs) i)
      none [] i = record { on_x = omega arith; on_y = omega arith; on_z = omega arith }
      none (c ∷ cs) zero = record { on_x = omega arith; on_y = omega arith; on_z = omega arith }
      none (c ∷ cs) (suc i) = none cs i

      append : (vs : List V3) (cs : List CellData) (i : ℕ) → ((k : ℕ) → IsAtMost n (sum_at_place vs k)) → IsAtMost n (sum_at_place (vs ++ map (λ c. origin) cs) i)
      append [] cs i h = none cs i
      append (v ∷ vs) cs zero h = h 0
      append (v ∷ vs) cs (suc i) h = append vs cs i (λ k. h (suc k))

  pub listed_grown : (xs : List Places) → AreListed h.slots.items xs → AreListed k.slots.items xs
  listed_grown xs a = record { within = all_in_kept z.seat h k g xs a.within; listed = subst (AllByRecursion IsListed) (sym (cells_kept z.seat h k g xs a.within)) a.listed }

-- the same slots, and lists beside them of the same lengths
pub heard_same : (z : Side) (h k : Heard) → IsHeard z h → k.slots.items ≡ h.slots.items → length k.sums.items ≡ length h.sums.items → length k.touched.items ≡ length h.touched.items → length k.asked.items ≡ length h.asked.items → IsHeard z k
heard_same z h k was e a b d = record {
  whole = was.whole;
  table = subst (IsTable z.seat) (sym e) was.table;
  knows = subst (KnowsSlots z) (sym e) was.knows;
  stands = λ c r. ap (λ t. is_one c (cells_in t)) e ∙ was.stands c r;
  long = a ∙ was.long ∙ ap length (sym e);
  long_touched = b ∙ was.long_touched ∙ ap length (sym e);
  long_asked = d ∙ was.long_asked ∙ ap length (sym e);
}
