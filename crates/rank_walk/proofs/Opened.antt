-- A cell is opened: the table with its children behind it is a table.
use Rattle.std.proofs.Common.{◌≡◌, ◌≢◌, ℕ, zero, suc, ◌+◌, ◌-◌, ◌<◌, ◌≤◌, ◌^◌, true, false, cond, List, [], ◌∷◌, ◌++◌, map, set, length, get_or, refl, ap, sym, ◌∙◌, arith, ◌⊎◌, inl, inr, subst}
use Rattle.std.proofs.lemmas.List.{append-nil, map-append, get_or_append_left, get_or-append-add, get_or-set_same, get_or-set_other, length-set}
use Rattle.std.proofs.Math.Seq.{map-set_same}
use Rattle.std.proofs.lemmas.Bool.{cases_eq, cases_lt}
use Rattle.cell_space.specs.Cells.{CellData, child, below, root_cell, contains}
use Rattle.nbody_model.specs.Nodes.{is_node}
use Rattle.nbody_model.specs.Covers.{Opening, leaf}
use Rattle.std.specs.Prelude.{Some, None, is_some}
use Rattle.nbody_model.specs.Moments.{moments}
use Rattle.nbody_model.specs.Walks.{kids, down, has_member}
use Rattle.model_laws.proofs.Among.{Witness, any-witness}
use Rattle.model_laws.proofs.Leaves.{shallow}
use Rattle.model_laws.proofs.Apart.{AreApart, EachTwo, kids_two}
use Rattle.std.specs.List.{filter, range_with_len}
use Rattle.rank_laws.specs.Whole.{opening}
use Rattle.rank_laws.proofs.Fairness.{IsKid, kids_are}
use Rattle.rank_walk.specs.Slots.{SlotData, no_slot, slot_at, cell_at_place, cells_in}
use Rattle.rank_walk.specs.declared.heard.Heard.{Heard}
use Rattle.rank_walk.specs.Seats.{Seat, has_child, is_home, moments_of}
use Rattle.rank_walk.specs.Tables.{IsSlot, IsOpened, IsBorn, IsTable, IsGrown, IsDown, IsMaking, known_at, leaf_of, with_children}
use Rattle.rank_walk.proofs.Making.{same_long}
use Rattle.rank_walk.proofs.Lists.{each-at, length_map, filter_few, at_map, length_range, at_range, range_is, range_same}

pub some_member : (o : Opening) (a : CellData) → has_member o a ≡ true → Witness (contains a) o.positions
unfolding is_node
some_member o a e = any-witness (contains a) o.positions e

-- a cell with a member isn't apart from itself
not_apart : (o : Opening) (a : CellData) → AreApart o a a → ⊥
not_apart o a h = let w : Witness (contains a) o.positions = some_member o a h.first in h.apart w.it w.passes w.passes

two_at : (o : Opening) (e : CellData) (cs : List CellData) (k l : ℕ) → EachTwo (AreApart o) cs → k < l → l < length cs → AreApart o (get_or cs k e) (get_or cs l e)
two_at o e [] k l a h m = absurd (omega (arith, m))
two_at o e (c ∷ cs) zero zero a h m = absurd (omega (arith, h))
two_at o e (c ∷ cs) zero (suc l) a h m = each-at (AreApart o c) e cs l a.0 (omega (arith, m))
two_at o e (c ∷ cs) (suc k) zero a h m = absurd (omega (arith, h))
two_at o e (c ∷ cs) (suc k) (suc l) a h m = two_at o e cs k l a.1 (omega (arith, h)) (omega (arith, m))

-- no two children at different places are one
kids_differ : (o : Opening) (e c : CellData) → c.level < 32 → (k l : ℕ) → k < length (kids o c) → l < length (kids o c) → get_or (kids o c) k e ≡ get_or (kids o c) l e → k ≡ l
kids_differ o e c low k l h m s = by (cases_lt k l) (cases_lt l k)
  where
    by : (k < l) ⊎ (l ≤ k) → (l < k) ⊎ (k ≤ l) → k ≡ l
    by (inl u) v = absurd (not_apart o (get_or (kids o c) l e) (subst (λ a. AreApart o a (get_or (kids o c) l e)) s (two_at o e (kids o c) k l (kids_two o c low) u m)))
    by (inr u) (inl v) = absurd (not_apart o (get_or (kids o c) l e) (subst (λ a. AreApart o (get_or (kids o c) l e) a) s (two_at o e (kids o c) l k (kids_two o c low) v h)))
    by (inr u) (inr v) = omega (arith, u, v)

-- two cells with one child are one
child_up : (o : Opening) (c e d : CellData) → IsKid o c d → IsKid o e d → c ≡ e
child_up o c e d h k =
    let s : child c h.digit ≡ child e k.digit = sym h.it ∙ k.it in
    let level : c.level ≡ e.level = omega (arith, ap (λ t. t.level) s) in
    let x : c.x ≡ e.x = omega (arith, ap (λ t. t.x) s) in
    let y : c.y ≡ e.y = omega (arith, ap (λ t. t.y) s) in
    let z : c.z ≡ e.z = omega (arith, ap (λ t. t.z) s) in
    λ i. record { level = level i; x = x i; y = y i; z = z i }

-- what stands at a place in the range_with_len of an opened cell
pub child_at_place : (z : Seat) (ss : List SlotData) (a j : ℕ) → IsOpened z ss a → (slot_at ss a).first ≤ j → j < (slot_at ss a).first + (slot_at ss a).number → IsKid (opening z.whole) (cell_at_place ss a) (cell_at_place ss j)
child_at_place z ss a j h low high =
    let o : Opening = opening z.whole in
    let f : ℕ = (slot_at ss a).first in
    let t : ℕ = j - (slot_at ss a).first in
    let small : j - (slot_at ss a).first < (slot_at ss a).number = omega (arith, low, high) in
    let count : length (kids (opening z.whole) (cell_at_place ss a)) ≡ (slot_at ss a).number = ap length (sym h.kids) ∙ length_map (cell_at_place ss) (range_with_len (slot_at ss a).first (slot_at ss a).number) ∙ length_range (slot_at ss a).first (slot_at ss a).number in
    let here : get_or (kids (opening z.whole) (cell_at_place ss a)) (j - (slot_at ss a).first) root_cell ≡ cell_at_place ss j =
    ap (λ ks. get_or ks (j - (slot_at ss a).first) root_cell) (sym h.kids) ∙ at_range (cell_at_place ss) root_cell (slot_at ss a).first (slot_at ss a).number (j - (slot_at ss a).first) small
    ∙ ap (cell_at_place ss) (let s : (slot_at ss a).first + (j - (slot_at ss a).first) ≡ j = omega (arith, low) in s) in
    subst (IsKid (opening z.whole) (cell_at_place ss a)) here (each-at (IsKid (opening z.whole) (cell_at_place ss a)) root_cell (kids (opening z.whole) (cell_at_place ss a)) (j - (slot_at ss a).first) (kids_are (opening z.whole) (cell_at_place ss a)) (omega (arith, small, count)))

pub same_grown : (z : Seat) (h : Heard) → IsTable z h.slots.items → IsGrown z h h
same_grown z h table = record { table = table; more = []; cells = sym (append-nil (cells_in h.slots.items)); kept = λ i k. refl; fresh = λ i k l. absurd (omega (arith, k, l)); longer = same_long h }

down_parted : (o : Opening) (c : CellData) → leaf o c ≡ false → down o c ≡ kids o c
down_parted o c h = ap (λ b. cond b (c ∷ []) (kids o c)) h

down_leaf : (o : Opening) (c : CellData) → leaf o c ≡ true → down o c ≡ c ∷ []
down_leaf o c h = ap (λ b. cond b (c ∷ []) (kids o c)) h

pub leaf_down : (z : Seat) (ss : List SlotData) (i : ℕ) → i < length ss → leaf (opening z.whole) (cell_at_place ss i) ≡ true → IsDown z ss (cell_at_place ss i) i (i + 1)
leaf_down z ss i low h = record {
  up = omega arith;
  within = omega (arith, low);
  cells = ap (λ n. map (cell_at_place ss) (range_with_len i n)) (let s : i + 1 - i ≡ 1 = omega arith in s) ∙ sym (down_leaf (opening z.whole) (cell_at_place ss i) h);
}

pub opened_down : (z : Seat) (ss : List SlotData) (i : ℕ) → IsTable z ss → i < length ss → 0 < (slot_at ss i).number → leaf (opening z.whole) (cell_at_place ss i) ≡ false → IsDown z ss (cell_at_place ss i) (slot_at ss i).first ((slot_at ss i).first + (slot_at ss i).number)
opened_down z ss i table low some h =
    let o : IsOpened z ss i = table.opened i low some in
    record {
      up = omega arith;
      within = o.within;
      cells = ap (λ n. map (cell_at_place ss) (range_with_len (slot_at ss i).first n)) (let s : (slot_at ss i).first + (slot_at ss i).number - (slot_at ss i).first ≡ (slot_at ss i).number = omega arith in s) ∙ o.kids ∙ sym (down_parted (opening z.whole) (cell_at_place ss i) h);
    }

module _ (z : Seat) (h0 : Heard) (ss : List SlotData) (was : ss ≡ h0.slots.items) (table : IsTable z ss) (i : ℕ) (low : i < length ss) (parted : leaf (opening z.whole) (cell_at_place ss i) ≡ false) (closed : (slot_at ss i).number ≡ 0)
    (h1 : Heard) (ts : List SlotData) (now : ts ≡ h1.slots.items) (made : IsMaking z (cell_at_place ss i) h0 0 h1) where
  here : ts ≡ ss ++ made.made
  here = now ∙ made.slots ∙ ap (λ t. t ++ made.made) (sym was)

  children : kids (opening z.whole) (cell_at_place ss i) ≡ cells_in made.made
  children = sym made.cells ∙ append-nil (cells_in made.made)

  few : length made.made ≤ 8
  few = omega (arith, ap length children, length_map (λ (s : SlotData). s.cell) made.made, length_map (child (cell_at_place ss i)) (filter (has_child z (cell_at_place ss i)) (below 8)), filter_few (has_child z (cell_at_place ss i)) (below 8))

  long : length ts ≡ length ss + length made.made
  long = ap length here ∙ length-append-own ss made.made
    where
      length-append-own : (xs ys : List SlotData) → length (xs ++ ys) ≡ length xs + length ys
      length-append-own [] ys = omega arith
      length-append-own (x ∷ xs) ys = omega (arith, length-append-own xs ys)

  pub many : length ts ≤ length ss + 8
  many = omega (arith, long, few)

  old_at : (j : ℕ) → j < length ss → slot_at ts j ≡ slot_at ss j
  old_at j h = ap (λ t. get_or t j no_slot) here ∙ get_or_append_left ss made.made no_slot j h

  new_at : (j : ℕ) → length ss ≤ j → slot_at ts j ≡ slot_at made.made (j - length ss)
  new_at j h = ap (λ t. get_or t j no_slot) here ∙ ap (λ n. get_or (ss ++ made.made) n no_slot) (let s : j ≡ length ss + (j - length ss) = omega (arith, h) in s) ∙ get_or-append-add ss made.made (j - length ss) no_slot

  module _ (xs : List SlotData) (marked : xs ≡ set ts i (with_children (slot_at ts i) (length ss) (length ts - length ss))) where
    same_long_own : length xs ≡ length ts
    same_long_own = ap length marked ∙ length-set ts i (with_children (slot_at ts i) (length ss) (length ts - length ss))

    same_cells : cells_in xs ≡ cells_in ts
    same_cells = ap cells_in marked ∙ map-set_same (λ (s : SlotData). s.cell) ts i (with_children (slot_at ts i) (length ss) (length ts - length ss)) no_slot refl

    cell_is : (j : ℕ) → cell_at_place xs j ≡ cell_at_place ts j
    cell_is j = sym (at_map (λ (s : SlotData). s.cell) no_slot xs j) ∙ ap (λ cs. get_or cs j root_cell) same_cells ∙ at_map (λ (s : SlotData). s.cell) no_slot ts j

    old_cell : (j : ℕ) → j < length ss → cell_at_place xs j ≡ cell_at_place ss j
    old_cell j h = cell_is j ∙ ap (λ (s : SlotData). s.cell) (old_at j h)

    at_it : slot_at xs i ≡ with_children (slot_at ss i) (length ss) (length made.made)
    at_it = ap (λ t. get_or t i no_slot) marked ∙ get_or-set_same ts i (with_children (slot_at ts i) (length ss) (length ts - length ss)) no_slot (omega (arith, low, long))
        ∙ ap (λ (s : SlotData). with_children s (length ss) (length ts - length ss)) (old_at i low) ∙ ap (with_children (slot_at ss i) (length ss)) (let s : length ts - length ss ≡ length made.made = omega (arith, long) in s)

    at_other : (j : ℕ) → j ≢ i → slot_at xs j ≡ slot_at ts j
    at_other j h = ap (λ t. get_or t j no_slot) marked ∙ get_or-set_other ts i j (with_children (slot_at ts i) (length ss) (length ts - length ss)) no_slot h

    at_old : (j : ℕ) → j < length ss → j ≢ i → slot_at xs j ≡ slot_at ss j
    at_old j h n = at_other j n ∙ old_at j h

    at_new : (j : ℕ) → length ss ≤ j → slot_at xs j ≡ slot_at made.made (j - length ss)
    at_new j h = at_other j (λ e. omega (arith, e, h, low)) ∙ new_at j h

    slot_kept : (s : SlotData) (f n : ℕ) → IsSlot z s → IsSlot z (with_children s f n)
    slot_kept s f n h = record { shallow = h.shallow; standing = h.standing; known = h.known; below = h.below; mine = h.mine; here = h.here; home = h.home; order = h.order }

    each : (j : ℕ) → j < length xs → IsSlot z (slot_at xs j)
    each j h = by (cases_eq j i) (cases_lt j (length ss))
      where
        by : (j ≡ i) ⊎ (j ≢ i) → (j < length ss) ⊎ (length ss ≤ j) → IsSlot z (slot_at xs j)
        by (inl e) u = subst (λ k. IsSlot z (slot_at xs k)) (sym e) (subst (IsSlot z) (sym at_it) (slot_kept (slot_at ss i) (length ss) (length made.made) (table.each i low)))
        by (inr n) (inl u) = subst (IsSlot z) (sym (at_old j u n)) (table.each j u)
        by (inr n) (inr u) = subst (IsSlot z) (sym (at_new j u)) (each-at (λ s. IsSlot z s × (s.number ≡ 0) × (is_some s.moments ≡ is_home z s.cell)) no_slot made.made (j - length ss) made.each (omega (arith, h, same_long_own, long, u))).0

    new_closed : (j : ℕ) → length ss ≤ j → j < length xs → (slot_at xs j).number ≡ 0
    new_closed j u h = ap (λ (s : SlotData). s.number) (at_new j u) ∙ (each-at (λ s. IsSlot z s × (s.number ≡ 0) × (is_some s.moments ≡ is_home z s.cell)) no_slot made.made (j - length ss) made.each (omega (arith, h, same_long_own, long, u))).1

    new_cell : (j : ℕ) → length ss ≤ j → cell_at_place xs j ≡ get_or (kids (opening z.whole) (cell_at_place ss i)) (j - length ss) root_cell
    new_cell j u = ap (λ (s : SlotData). s.cell) (at_new j u) ∙ sym (at_map (λ (s : SlotData). s.cell) no_slot made.made (j - length ss)) ∙ ap (λ cs. get_or cs (j - length ss) root_cell) (sym children)

    kids_count : length (kids (opening z.whole) (cell_at_place ss i)) ≡ length made.made
    kids_count = ap length children ∙ length_map (λ (s : SlotData). s.cell) made.made

    kids_behind : map (cell_at_place xs) (range_with_len (length ss) (length made.made)) ≡ kids (opening z.whole) (cell_at_place ss i)
    kids_behind = ap (λ n. map (cell_at_place xs) (range_with_len (length ss) n)) (sym kids_count)
        ∙ range_is (cell_at_place xs) root_cell (length ss) (kids (opening z.whole) (cell_at_place ss i)) (λ k h. new_cell (length ss + k) (omega arith) ∙ ap (λ n. get_or (kids (opening z.whole) (cell_at_place ss i)) n root_cell) (let s : length ss + k - length ss ≡ k = omega arith in s))

    opened_old : (j : ℕ) → j < length ss → j ≢ i → IsOpened z ss j → IsOpened z xs j
    opened_old j u n h =
        let first : (slot_at xs j).first ≡ (slot_at ss j).first = ap (λ (s : SlotData). s.first) (at_old j u n) in
        let number : (slot_at xs j).number ≡ (slot_at ss j).number = ap (λ (s : SlotData). s.number) (at_old j u n) in
        record {
          within = omega (arith, h.within, first, number, same_long_own, long);
          kids = (λ t. map (cell_at_place xs) (range_with_len (first t) (number t))) ∙ range_same (cell_at_place xs) (cell_at_place ss) (slot_at ss j).first (slot_at ss j).number (λ k a b. old_cell k (omega (arith, b, h.within))) ∙ h.kids ∙ ap (kids (opening z.whole)) (sym (old_cell j u));
        }

    opened_it : IsOpened z xs i
    opened_it =
        let first : (slot_at xs i).first ≡ length ss = ap (λ (s : SlotData). s.first) at_it in
        let number : (slot_at xs i).number ≡ length made.made = ap (λ (s : SlotData). s.number) at_it in
        record {
          within = omega (arith, first, number, same_long_own, long);
          kids = (λ t. map (cell_at_place xs) (range_with_len (first t) (number t))) ∙ kids_behind ∙ ap (kids (opening z.whole)) (sym (old_cell i low));
        }

    opened : (j : ℕ) → j < length xs → 0 < (slot_at xs j).number → IsOpened z xs j
    opened j h some = by (cases_eq j i) (cases_lt j (length ss))
      where
        by : (j ≡ i) ⊎ (j ≢ i) → (j < length ss) ⊎ (length ss ≤ j) → IsOpened z xs j
        by (inl e) u = subst (IsOpened z xs) (sym e) opened_it
        by (inr n) (inl u) = opened_old j u n (table.opened j u (omega (arith, some, ap (λ (s : SlotData). s.number) (at_old j u n))))
        by (inr n) (inr u) = absurd (omega (arith, some, new_closed j u h))

    born : (j : ℕ) → j < length xs → 0 < j → IsBorn xs j
    born j h some = by (cases_lt j (length ss))
      where
        from_old : j < length ss → (b : IsBorn ss j) → (b.above ≡ i) ⊎ (b.above ≢ i) → IsBorn xs j
        from_old u b (inl e) = absurd (omega (arith, b.from, b.to, ap (λ k. (slot_at ss k).number) e, ap (λ k. (slot_at ss k).first) e, closed))
        from_old u b (inr n) =
            let first : (slot_at xs b.above).first ≡ (slot_at ss b.above).first = ap (λ (s : SlotData). s.first) (at_old b.above b.low n) in
            let number : (slot_at xs b.above).number ≡ (slot_at ss b.above).number = ap (λ (s : SlotData). s.number) (at_old b.above b.low n) in
            record { above = b.above; low = omega (arith, b.low, same_long_own, long); from = omega (arith, b.from, first); to = omega (arith, b.to, first, number) }

        by : (j < length ss) ⊎ (length ss ≤ j) → IsBorn xs j
        by (inl u) = from_old u (table.born j u some) (cases_eq (table.born j u some).above i)
        by (inr u) = record {
          above = i;
          low = omega (arith, low, same_long_own, long);
          from = omega (arith, u, ap (λ (s : SlotData). s.first) at_it);
          to = omega (arith, h, same_long_own, long, ap (λ (s : SlotData). s.first) at_it, ap (λ (s : SlotData). s.number) at_it);
        }

    new_kid : (j : ℕ) → length ss ≤ j → j < length xs → IsKid (opening z.whole) (cell_at_place ss i) (cell_at_place xs j)
    new_kid j u h = subst (IsKid (opening z.whole) (cell_at_place ss i)) (sym (new_cell j u)) (each-at (IsKid (opening z.whole) (cell_at_place ss i)) root_cell (kids (opening z.whole) (cell_at_place ss i)) (j - length ss) (kids_are (opening z.whole) (cell_at_place ss i)) (omega (arith, h, same_long_own, long, u, kids_count)))

    -- an old cell isn't a new one
    never : (j k : ℕ) → j < length ss → length ss ≤ k → k < length xs → cell_at_place xs j ≡ cell_at_place xs k → ⊥
    never j k u v h e = by (cases_lt 0 j)
      where
        kid : IsKid (opening z.whole) (cell_at_place ss i) (cell_at_place ss j)
        kid = subst (IsKid (opening z.whole) (cell_at_place ss i)) (sym e ∙ old_cell j u) (new_kid k v h)

        from_old : IsBorn ss j → ⊥
        from_old b =
            let other : IsKid (opening z.whole) (cell_at_place ss b.above) (cell_at_place ss j) = child_at_place z ss b.above j (table.opened b.above b.low (omega (arith, b.from, b.to))) b.from b.to in
            let one : b.above ≡ i = table.distinct b.above i b.low low (child_up (opening z.whole) (cell_at_place ss b.above) (cell_at_place ss i) (cell_at_place ss j) other kid) in
            omega (arith, b.from, b.to, ap (λ k. (slot_at ss k).number) one, ap (λ k. (slot_at ss k).first) one, closed)

        by : (0 < j) ⊎ (j ≤ 0) → ⊥
        by (inl some) = from_old (table.born j u some)
        by (inr none) = let zero_level : (cell_at_place ss j).level ≡ 0 = ap (λ k. (cell_at_place ss k).level) (let s : j ≡ 0 = omega (arith, none) in s) ∙ ap (λ (c : CellData). c.level) table.root in omega (arith, zero_level, ap (λ (c : CellData). c.level) kid.it)

    distinct : (j k : ℕ) → j < length xs → k < length xs → cell_at_place xs j ≡ cell_at_place xs k → j ≡ k
    distinct j k h m e = by (cases_lt j (length ss)) (cases_lt k (length ss))
      where
        by : (j < length ss) ⊎ (length ss ≤ j) → (k < length ss) ⊎ (length ss ≤ k) → j ≡ k
        by (inl u) (inl v) = table.distinct j k u v (sym (old_cell j u) ∙ e ∙ old_cell k v)
        by (inl u) (inr v) = absurd (never j k u v m e)
        by (inr u) (inl v) = absurd (never k j v u h (sym e))
        by (inr u) (inr v) = let s : j - length ss ≡ k - length ss = kids_differ (opening z.whole) root_cell (cell_at_place ss i) (shallow (opening z.whole) (cell_at_place ss i) parted) (j - length ss) (k - length ss) (omega (arith, h, same_long_own, long, u, kids_count)) (omega (arith, m, same_long_own, long, v, kids_count)) (sym (new_cell j u) ∙ e ∙ new_cell k v) in omega (arith, s, u, v)

    kept : (j : ℕ) → j < length ss → known_at xs j ≡ known_at ss j
    kept j u = by (cases_eq j i)
      where
        by : (j ≡ i) ⊎ (j ≢ i) → known_at xs j ≡ known_at ss j
        by (inl e) = ap (known_at xs) e ∙ ap (λ (s : SlotData). is_some s.moments) at_it ∙ ap (known_at ss) (sym e)
        by (inr n) = ap (λ (s : SlotData). is_some s.moments) (at_old j u n)

    new_known : (j : ℕ) → length ss ≤ j → j < length xs → known_at xs j ≡ is_home z (cell_at_place xs j)
    new_known j u h =
        ap (λ (s : SlotData). is_some s.moments) (at_new j u)
        ∙ (each-at (λ s. IsSlot z s × (s.number ≡ 0) × (is_some s.moments ≡ is_home z s.cell)) no_slot made.made (j - length ss) made.each (omega (arith, h, same_long_own, long, u))).2
        ∙ ap (λ (s : SlotData). is_home z s.cell) (sym (at_new j u))

    grown_table : length ss + 8 < 2 ^ 32 → IsTable z xs
    grown_table short = record {
      some = omega (arith, table.some, same_long_own, long);
      short = omega (arith, short, same_long_own, many);
      root = old_cell 0 table.some ∙ table.root;
      each = each;
      opened = opened;
      born = born;
      distinct = distinct;
    }

    grown_cells : cells_in xs ≡ cells_in ss ++ cells_in made.made
    grown_cells = same_cells ∙ ap cells_in here ∙ map-append (λ (s : SlotData). s.cell) ss made.made

    pub newly_down : IsDown z xs (cell_at_place ss i) (length ss) (length ts)
    newly_down = record {
      up = omega (arith, long);
      within = omega (arith, same_long_own);
      cells = ap (λ n. map (cell_at_place xs) (range_with_len (length ss) n)) (let s : length ts - length ss ≡ length made.made = omega (arith, long) in s) ∙ kids_behind ∙ sym (down_parted (opening z.whole) (cell_at_place ss i) parted);
    }

pub level_low : (o : Opening) (c d : CellData) → leaf o c ≡ false → d ≡ c → d.level < 32
level_low o c d h e = omega (arith, ap (λ (c : CellData). c.level) e, shallow o c h)

-- all of it, as the code tells it
module _ (z : Seat) (h : Heard) (table : IsTable z h.slots.items) (i : ℕ) (low : i < length h.slots.items) (parted : leaf (opening z.whole) (cell_at_place h.slots.items i) ≡ false) (closed : (slot_at h.slots.items i).number ≡ 0)
    (c : CellData) (it : c ≡ cell_at_place h.slots.items i) (k : Heard) (making : IsMaking z c h 0 k) where
  making_it : IsMaking z (cell_at_place h.slots.items i) h 0 k
  making_it = subst (λ c. IsMaking z c h 0 k) it making

  pub open_many : length k.slots.items ≤ length h.slots.items + 8
  open_many = many z h h.slots.items refl table i low parted closed k k.slots.items refl making_it

  module _ (xs : List SlotData) (from to : ℕ) (f : from ≡ length h.slots.items) (t : to ≡ length k.slots.items) (short : from ≤ 4294901760) (marked : xs ≡ set k.slots.items i (with_children (slot_at k.slots.items i) from (to - from))) where
    marked_it : xs ≡ set k.slots.items i (with_children (slot_at k.slots.items i) (length h.slots.items) (length k.slots.items - length h.slots.items))
    marked_it = marked ∙ (λ j. set k.slots.items i (with_children (slot_at k.slots.items i) (f j) (t j - f j)))

    pub open_grown : (l : Heard) → l.slots.items ≡ xs → l.sums.items ≡ k.sums.items → l.touched.items ≡ k.touched.items → l.asked.items ≡ k.asked.items → IsGrown z h l
    open_grown l same sums touched asked = record {
      table = grown_table z h h.slots.items refl table i low parted closed k k.slots.items refl making_it l.slots.items (same ∙ marked_it) (omega (arith, f, short));
      more = cells_in making_it.made;
      cells = grown_cells z h h.slots.items refl table i low parted closed k k.slots.items refl making_it l.slots.items (same ∙ marked_it);
      kept = kept z h h.slots.items refl table i low parted closed k k.slots.items refl making_it l.slots.items (same ∙ marked_it);
      fresh = new_known z h h.slots.items refl table i low parted closed k k.slots.items refl making_it l.slots.items (same ∙ marked_it);
      longer = record { sums = sums ∙ making_it.longer.sums; touched = touched ∙ making_it.longer.touched; asked = asked ∙ making_it.longer.asked };
    }

    pub open_down : IsDown z xs (cell_at_place h.slots.items i) from to
    open_down =
        let down : IsDown z xs (cell_at_place h.slots.items i) (length h.slots.items) (length k.slots.items) = newly_down z h h.slots.items refl table i low parted closed k k.slots.items refl making_it xs marked_it in
        subst (λ a. IsDown z xs (cell_at_place h.slots.items i) a to) (sym f) (subst (λ b. IsDown z xs (cell_at_place h.slots.items i) (length h.slots.items) b) (sym t) down)

pub leaf_is : (z : Seat) (ss : List SlotData) (i : ℕ) → IsTable z ss → i < length ss → known_at ss i ≡ true → leaf_of (slot_at ss i).moments ≡ leaf (opening z.whole) (cell_at_place ss i)
unfolding moments
leaf_is z ss i table low known = ap leaf_of ((table.each i low).known ∙ ap (λ b. cond b (Some (moments_of z (cell_at_place ss i))) None) known)
