-- Where the entries that tell of a cell stand in the order of a table.
use Rattle.std.proofs.Common.{◌≡◌, ℕ, zero, suc, ◌+◌, ◌-◌, ◌*◌, ◌/◌, ◌%◌, ◌^◌, ◌<◌, ◌≤◌, Bool, true, false, cond, ltb, List, [], ◌∷◌, map, take, length, get_or, refl, ap, sym, ◌∙◌, subst, arith, ◌⊎◌, inl, inr, Option, Some, None}
use Rattle.std.specs.Prelude.{slice_index_or, slice_index}
use Rattle.std.specs.List.{AllByRecursion, count_by}
use Rattle.std.specs.List.Sorted.{IsPermutation}
use Rattle.std.proofs.lemmas.Bool.{cases_lt, le-ltb}
use Rattle.std.proofs.lemmas.List.{take_more, take_all, get_or-map, length-map}
use Rattle.std.proofs.lemmas.List.Sums.{sum_by-cons}
use Rattle.std.proofs.lemmas.List.Sorted.{IsPermutation-map}
use Rattle.cell_space.specs.Cells.{CellData, cell_at, corner}
use Rattle.cell_space.proofs.Cells.{contains-exact}
use Rattle.cell_space.proofs.Nested.{corner_contained}
use Rattle.hilbert_keys.specs.Curve.{IsCell}
use Rattle.octree_build.specs.Slots.{keys_below}
use Rattle.octree_build.proofs.Edges.{at_each, count_at_most, below_count, from_count}
use Rattle.rank_laws.specs.Whole.{Whole, own}
use Rattle.rank_laws.specs.Contents.{EntryData, reply_sent}
use Rattle.rank_entry_laws.specs.Given.{at_one, together}
use Rattle.rank_entry_laws.proofs.OwnBodies.{own_bodies}
use Rattle.home_cells.specs.Tables.{code_of, marked, IsMarkOf, IsOrderOf}
use Rattle.home_cells.specs.Found.{IsHomeTable, part, gathered, along, gathered_below, MayJoin}
use Rattle.home_cells.proofs.Numbers.{marked_back}
use Rattle.home_cells.proofs.Own.{cell_of_box, node_cell}
use Rattle.home_cells.proofs.Together.{gathered_push, gathered_free}
use Rattle.home_cells.proofs.Sole.{tells_of, TellsOf, telling, raw_cell}
use Rattle.home_cells.proofs.Replies.{IsEntryOf, all_entries, all_tell, may_join, part_none}

-- ---- the numbers of a level

-- where the numbers of a level begin, and those of the leaves at the cell of a level around a cell
abbrev pub begins : ℕ → ℕ
begins l = l * 2 ^ 122

abbrev pub leaves_at : CellData → ℕ → ℕ
leaves_at c l = (code_of (cell_at l (corner c)) * 2 + 1) * 2 ^ 25

code_range : (d : CellData) → IsCell d → (d.level * 2 ^ 96 ≤ code_of d) × (code_of d < (d.level + 1) * 2 ^ 96)
code_range d i =
    let x : (corner d).x < 2 ^ 32 = i.in_box.below_x in
    let y : (corner d).y < 2 ^ 32 = i.in_box.below_y in
    let z : (corner d).z < 2 ^ 32 = i.in_box.below_z in
    by d.level (corner d).x (corner d).y (corner d).z x y z
  where
    by : (l x y z : ℕ) → x < 2 ^ 32 → y < 2 ^ 32 → z < 2 ^ 32 → (l * 2 ^ 96 ≤ ((l * 2 ^ 32 + x) * 2 ^ 32 + y) * 2 ^ 32 + z) × (((l * 2 ^ 32 + x) * 2 ^ 32 + y) * 2 ^ 32 + z < (l + 1) * 2 ^ 96)
    by l x y z p q r = (omega arith, omega (arith, p, q, r))

-- a number with a mark of a level lies among those of the level
in_level : (l k b n : ℕ) → l * 2 ^ 96 ≤ k → k < (l + 1) * 2 ^ 96 → b ≤ 1 → n / 2 ^ 25 ≡ k * 2 + b → (l * 2 ^ 122 ≤ n) × (n < (l + 1) * 2 ^ 122)
in_level l k b n p q r e = (omega (arith, p, e), omega (arith, q, r, e))

same_level : (l m n : ℕ) → l * 2 ^ 122 ≤ n → n < (l + 1) * 2 ^ 122 → m * 2 ^ 122 ≤ n → n < (m + 1) * 2 ^ 122 → m ≡ l
same_level l m n a b c d = omega (arith, a, b, c, d)

bit_small : (b : Bool) → cond {A = ℕ} b 1 0 ≤ 1
bit_small true = omega arith
bit_small false = omega arith

-- ---- lists

-- entries that give nothing may be passed over
passed : (c : CellData) (E : List EntryData) (a n : ℕ) (e : EntryData) → a + n ≤ length E → ((k : ℕ) → a ≤ k → k < a + n → part c (get_or E k e) ≡ None) → gathered c (take a E) ≡ gathered c (take (a + n) E)
passed c E a zero e h q = let z : a ≡ a + 0 = omega arith in ap (λ t. gathered c (take t E)) z
passed c E a (suc n) e h q =
    let s : a + suc n ≡ a + n + 1 = omega arith in
    passed c E a n e (omega (arith, h)) (λ k u v. q k u (omega (arith, v)))
    ∙ sym (ap (together (gathered c (take (a + n) E))) (q (a + n) (omega arith) (omega arith)) ∙ none_more (gathered c (take (a + n) E)))
    ∙ sym (ap (λ t. gathered c (take t E)) s ∙ ap (gathered c) (take_more E (a + n) e (omega (arith, h))) ∙ gathered_push c (take (a + n) E) (get_or E (a + n) e))
  where
    none_more : (x : Option EntryData) → together x None ≡ x
    none_more None = refl
    none_more (Some y) = refl

each_take : {X : Type 0} (P : X → Type 0) (k : ℕ) (xs : List X) → AllByRecursion P xs → AllByRecursion P (take k xs)
each_take P zero xs a = tt
each_take P (suc k) [] a = tt
each_take P (suc k) (x ∷ xs) a = (a.0, each_take P k xs a.1)

each_mapped : {X Y : Type 0} (P : X → Type 0) (Q : Y → Type 0) (f : X → Y) → ((x : X) → P x → Q (f x)) → (xs : List X) → AllByRecursion P xs → AllByRecursion Q (map f xs)
each_mapped P Q f h [] a = tt
each_mapped P Q f h (x ∷ xs) a = (h x a.0, each_mapped P Q f h xs a.1)

module _ (w : Whole) (es : List EntryData) (c : CellData) (order : List ℕ) (t : IsHomeTable w es c) (o : IsOrderOf es order) (ic : IsCell c) (d : EntryData) where
  abbrev low : c.level ≤ 32
  low = ic.shallow

  abbrev E : List EntryData
  E = along es order d

  abbrev number : ℕ → ℕ
  number k = slice_index order k

  abbrev entry : ℕ → EntryData
  entry k = slice_index_or es (slice_index order k % 2 ^ 25) d

  long : length (along es order d) ≡ length order
  long = length-map order (λ n. slice_index_or es (n % 2 ^ 25) d)

  mark_there : (k : ℕ) → k < length order → IsMarkOf es (slice_index order k)
  mark_there k h = at_each (IsMarkOf es) 0 order k h o.each

  is_entry : (k : ℕ) → k < length order → IsEntryOf w (slice_index_or es (slice_index order k % 2 ^ 25) d)
  is_entry k h = at_each (IsEntryOf w) d es (number k % 2 ^ 25) (mark_there k h).within (all_entries w es c t)

  entry_is : (k : ℕ) → k < length order → get_or (along es order d) k d ≡ slice_index_or es (slice_index order k % 2 ^ 25) d
  entry_is k h = get_or-map (λ n. slice_index_or es (n % 2 ^ 25) d) order k 0 d h

  -- the entries in the order are those of the table
  moved : IsPermutation es (along es order d)
  moved =
      subst (λ xs. IsPermutation xs (along es order d)) (marked_back es (omega (arith, o.few)) d)
      (IsPermutation-map (λ n. slice_index_or es (n % 2 ^ 25) d) (marked 0 es) order o.permuted)

  entries_along : AllByRecursion (IsEntryOf w) (along es order d)
  entries_along = each_mapped (IsMarkOf es) (IsEntryOf w) (λ n. slice_index_or es (n % 2 ^ 25) d) (λ n m. at_each (IsEntryOf w) d es (n % 2 ^ 25) m.within (all_entries w es c t)) order o.each

  -- ---- one entry

  module _ (k : ℕ) (h : k < length order) where
    abbrev it : IsEntryOf w (slice_index_or es (slice_index order k % 2 ^ 25) d)
    it = is_entry k h

    cell_is : (slice_index_or es (slice_index order k % 2 ^ 25) d).raw.cell ≡ it.cell
    cell_is = ap (λ (e : EntryData). e.raw.cell) it.is ∙ raw_cell w t.table.whole t.table.softenings it.rank it.cell

    level_is : (slice_index_or es (slice_index order k % 2 ^ 25) d).raw.cell.level ≡ it.cell.level
    level_is = ap (λ (x : CellData). x.level) cell_is

    in_its_level : (it.cell.level * 2 ^ 122 ≤ slice_index order k) × (slice_index order k < (it.cell.level + 1) * 2 ^ 122)
    in_its_level =
        let i : IsCell it.cell = node_cell (own w it.rank) it.cell (own_bodies w t.table.whole it.rank).in_box it.node.low it.node.node in
        let r : (it.cell.level * 2 ^ 96 ≤ code_of it.cell) × (code_of it.cell < (it.cell.level + 1) * 2 ^ 96) = code_range it.cell i in
        in_level it.cell.level (code_of it.cell) (cond (at_one (entry k).raw) 1 0) (number k) r.0 r.1 (bit_small (at_one (entry k).raw))
        ((mark_there k h).mark d ∙ ap (λ x. code_of x * 2 + cond (at_one (entry k).raw) 1 0) cell_is)

    tells : tells_of c (slice_index_or es (slice_index order k % 2 ^ 25) d) ≡ true → TellsOf w t.table.whole t.table.softenings it.rank c it.cell
    tells e = telling w t.table.whole t.table.softenings it.rank c it.cell low it.node.node (ap (tells_of c) (sym it.is) ∙ e)

    -- a leaf around the cell has its number among those of the leaves at the cell of its level
    leaf_there : (l : ℕ) → l < c.level → it.cell.level ≡ l → tells_of c (slice_index_or es (slice_index order k % 2 ^ 25) d) ≡ true → (leaves_at c l ≤ slice_index order k) × (slice_index order k < leaves_at c l + 2 ^ 25)
    leaf_there l u e v =
        let x : TellsOf w t.table.whole t.table.softenings it.rank c it.cell = tells v in
        let one : at_one (entry k).raw ≡ true = ap (λ (y : EntryData). at_one y.raw) it.is ∙ x.one (omega (arith, u, e)) in
        let place : it.cell ≡ cell_at l (corner c) = x.is ∙ ap (λ m. cell_at m (corner c)) e in
        let m : number k / 2 ^ 25 ≡ code_of (cell_at l (corner c)) * 2 + 1 = (mark_there k h).mark d ∙ (λ i. code_of ((cell_is ∙ place) i) * 2 + cond {A = ℕ} (one i) 1 0) in
        (omega (arith, m), omega (arith, m))

    -- an entry of the cell itself has its number among those of the cell
    own_there : c.level ≤ it.cell.level → tells_of c (slice_index_or es (slice_index order k % 2 ^ 25) d) ≡ true → (code_of c * 2 ^ 26 ≤ slice_index order k) × (slice_index order k < code_of c * 2 ^ 26 + 2 ^ 26)
    own_there u v =
        let x : TellsOf w t.table.whole t.table.softenings it.rank c it.cell = tells v in
        let l : it.cell.level ≡ c.level = omega (arith, u, x.level) in
        let place : it.cell ≡ c = x.is ∙ ap (λ m. cell_at m (corner c)) l ∙ (contains-exact c (corner c)).0 (corner_contained c) in
        let m : number k / 2 ^ 25 ≡ code_of c * 2 + cond {A = ℕ} (at_one (entry k).raw) 1 0 = (mark_there k h).mark d ∙ ap (λ y. code_of y * 2 + cond {A = ℕ} (at_one (entry k).raw) 1 0) (cell_is ∙ place) in
        (omega (arith, m), omega (arith, m, bit_small (at_one (entry k).raw)))

  -- ---- from a bound to another

  abbrev below : ℕ → ℕ
  below n = count_by (λ y. ltb y n) order

  -- where no entry between two bounds tells of the cell
  pub between : (n m : ℕ) → n ≤ m → ((k : ℕ) → k < length order → n ≤ slice_index order k → slice_index order k < m → tells_of c (slice_index_or es (slice_index order k % 2 ^ 25) d) ≡ true → ⊥) → gathered_below c es order d n ≡ gathered_below c es order d m
  unfolding keys_below
  between n m h q = over (cases_lt (below m) (below n))
    where
      quiet : (k : ℕ) → below n ≤ k → k < below m → part c (get_or (along es order d) k d) ≡ None
      quiet k u v =
          let l : k < length order = omega (arith, v, count_at_most (λ y. ltb y m) order) in
          ap (part c) (entry_is k l) ∙ part_none c (entry k) (no (tells_of c (entry k)) refl l)
        where
          no : (b : Bool) → tells_of c (entry k) ≡ b → k < length order → tells_of c (entry k) ≡ false
          no false e l = e
          no true e l = absurd (q k l (from_count (λ y. y) n 0 order k o.rises u l) (below_count (λ y. y) m 0 order k o.rises v) e)

      over : (below m < below n) ⊎ (below n ≤ below m) → gathered c (take (below n) (along es order d)) ≡ gathered c (take (below m) (along es order d))
      over (inr u) =
          let s : below n + (below m - below n) ≡ below m = omega (arith, u) in
          passed c (along es order d) (below n) (below m - below n) d (omega (arith, s, long, count_at_most (λ y. ltb y m) order)) (λ k v x. quiet k v (omega (arith, x, s)))
          ∙ ap (λ x. gathered c (take x (along es order d))) s
      over (inl u) =
          let l : below m < length order = omega (arith, u, count_at_most (λ y. ltb y n) order) in
          let a : slice_index order (below m) < n = below_count (λ y. y) n 0 order (below m) o.rises u in
          let b : m ≤ slice_index order (below m) = from_count (λ y. y) m 0 order (below m) o.rises (omega arith) l in
          absurd (omega (arith, a, b, h))

  -- the leaves at the cell of a level have numbers of the level
  room : (l : ℕ) → l ≤ 32 → (begins l ≤ leaves_at c l) × (leaves_at c l + 2 ^ 25 ≤ begins (l + 1))
  room l h =
      let r : (l * 2 ^ 96 ≤ code_of (cell_at l (corner c))) × (code_of (cell_at l (corner c)) < (l + 1) * 2 ^ 96) = code_range (cell_at l (corner c)) (cell_of_box l (corner c) h ic.in_box) in
      wide l (code_of (cell_at l (corner c))) r.0 r.1
    where
      wide : (l k : ℕ) → l * 2 ^ 96 ≤ k → k < (l + 1) * 2 ^ 96 → (l * 2 ^ 122 ≤ (k * 2 + 1) * 2 ^ 25) × ((k * 2 + 1) * 2 ^ 25 + 2 ^ 25 ≤ (l + 1) * 2 ^ 122)
      wide l k p q = (omega (arith, p), omega (arith, q))

  -- up to the leaves at the cell of a level, and behind them to the next level
  pub to_leaves : (l : ℕ) → l < c.level → gathered_below c es order d (begins l) ≡ gathered_below c es order d (leaves_at c l)
  to_leaves l u =
      let r : (begins l ≤ leaves_at c l) × (leaves_at c l + 2 ^ 25 ≤ begins (l + 1)) = room l (omega (arith, u, low)) in
      between (begins l) (leaves_at c l) r.0 (λ k h a b e.
      let i : (is_entry k h).cell.level * 2 ^ 122 ≤ slice_index order k = (in_its_level k h).0 in
      let j : slice_index order k < ((is_entry k h).cell.level + 1) * 2 ^ 122 = (in_its_level k h).1 in
      let x : (is_entry k h).cell.level ≡ l = same_level l (is_entry k h).cell.level (number k) a (omega (arith, b, r.1)) i j in
      let y : leaves_at c l ≤ slice_index order k = (leaf_there k h l u x e).0 in
      omega (arith, b, y))

  pub from_leaves : (l : ℕ) → l < c.level → gathered_below c es order d (leaves_at c l + 2 ^ 25) ≡ gathered_below c es order d (begins (l + 1))
  from_leaves l u =
      let r : (begins l ≤ leaves_at c l) × (leaves_at c l + 2 ^ 25 ≤ begins (l + 1)) = room l (omega (arith, u, low)) in
      between (leaves_at c l + 2 ^ 25) (begins (l + 1)) r.1 (λ k h a b e.
      let i : (is_entry k h).cell.level * 2 ^ 122 ≤ slice_index order k = (in_its_level k h).0 in
      let j : slice_index order k < ((is_entry k h).cell.level + 1) * 2 ^ 122 = (in_its_level k h).1 in
      let x : (is_entry k h).cell.level ≡ l = same_level l (is_entry k h).cell.level (number k) (omega (arith, a, r.0)) b i j in
      let y : slice_index order k < leaves_at c l + 2 ^ 25 = (leaf_there k h l u x e).1 in
      omega (arith, a, y))

  -- up to the cell's own entries, and behind them
  own_room : (begins c.level ≤ code_of c * 2 ^ 26) × (code_of c * 2 ^ 26 + 2 ^ 26 ≤ begins 33)
  own_room =
      let r : (c.level * 2 ^ 96 ≤ code_of c) × (code_of c < (c.level + 1) * 2 ^ 96) = code_range c ic in
      wide c.level (code_of c) r.0 r.1 low
    where
      wide : (l k : ℕ) → l * 2 ^ 96 ≤ k → k < (l + 1) * 2 ^ 96 → l ≤ 32 → (l * 2 ^ 122 ≤ k * 2 ^ 26) × (k * 2 ^ 26 + 2 ^ 26 ≤ 33 * 2 ^ 122)
      wide l k p q s = (omega (arith, p), omega (arith, q, s))

  deep : (l m n : ℕ) → l * 2 ^ 122 ≤ n → n < (m + 1) * 2 ^ 122 → l ≤ m
  deep l m n a b = omega (arith, a, b)

  pub to_own : gathered_below c es order d (begins c.level) ≡ gathered_below c es order d (code_of c * 2 ^ 26)
  to_own = between (begins c.level) (code_of c * 2 ^ 26) own_room.0 (λ k h a b e.
      let x : c.level ≤ (is_entry k h).cell.level = deep c.level (is_entry k h).cell.level (number k) a (in_its_level k h).1 in
      let y : code_of c * 2 ^ 26 ≤ slice_index order k = (own_there k h x e).0 in
      omega (arith, b, y))

  whole_below : gathered_below c es order d (begins 33) ≡ gathered c (along es order d)
  unfolding keys_below
  whole_below = ap (gathered c) (take_all (below (begins 33)) (along es order d) (omega (arith, long, all (cases_lt (below (begins 33)) (length order)))))
    where
      all : (below (begins 33) < length order) ⊎ (length order ≤ below (begins 33)) → length order ≤ below (begins 33)
      all (inr u) = u
      all (inl u) =
          let k : ℕ = below (begins 33) in
          let a : begins 33 ≤ slice_index order (below (begins 33)) = from_count (λ y. y) (begins 33) 0 order (below (begins 33)) o.rises (omega arith) u in
          let x : 33 ≤ (is_entry (below (begins 33)) u).cell.level = deep 33 (is_entry (below (begins 33)) u).cell.level (number k) a (in_its_level (below (begins 33)) u).1 in
          let y : (is_entry (below (begins 33)) u).cell.level ≤ 32 = (is_entry (below (begins 33)) u).node.low in
          absurd (omega (arith, x, y))

  pub from_own : gathered_below c es order d (code_of c * 2 ^ 26 + 2 ^ 26) ≡ reply_sent w c
  from_own =
      between (code_of c * 2 ^ 26 + 2 ^ 26) (begins 33) own_room.1 (λ k h a b e.
      let x : c.level ≤ (is_entry k h).cell.level = deep c.level (is_entry k h).cell.level (number k) (omega (arith, a, own_room.0)) (in_its_level k h).1 in
      let y : slice_index order k < code_of c * 2 ^ 26 + 2 ^ 26 = (own_there k h x e).1 in
      omega (arith, a, y))
      ∙ whole_below
      ∙ sym (gathered_free c es (along es order d) moved)
      ∙ all_tell w es c t low

  -- ---- the loop along the order

  pub nothing_yet : None ≡ gathered_below c es order d 0
  unfolding keys_below
  nothing_yet = sym (ap (λ n. gathered c (take n (along es order d))) (none order))
    where
      none : (xs : List ℕ) → count_by (λ y. ltb y 0) xs ≡ 0
      none [] = refl
      none (x ∷ xs) = omega (arith, sum_by-cons (λ y. cond (ltb y 0) 1 0) x xs, ap {B = ℕ} (λ b. cond b 1 0) (le-ltb x 0 (omega arith)), none xs)

  pub one_more : (k : ℕ) (sum one : Option EntryData) → k < length order → sum ≡ gathered c (take k (along es order d)) → one ≡ part c (slice_index_or es (slice_index order k % 2 ^ 25) d) → together sum one ≡ gathered c (take (k + 1) (along es order d))
  one_more k sum one h e f =
      (λ i. together (e i) ((f ∙ ap (part c) (sym (entry_is k h))) i))
      ∙ sym (ap (gathered c) (take_more (along es order d) k d (omega (arith, h, long))) ∙ gathered_push c (take k (along es order d)) (get_or (along es order d) k d))

  pub joins_more : (k : ℕ) (sum one : Option EntryData) → k < length order → sum ≡ gathered c (take k (along es order d)) → one ≡ part c (slice_index_or es (slice_index order k % 2 ^ 25) d) → MayJoin sum one
  joins_more k sum one h e f =
      let m : MayJoin (gathered c (take k (along es order d))) (part c (get_or (along es order d) k d)) =
      may_join w es c t low (along es order d) moved entries_along k d (omega (arith, h, long)) (each_take (IsEntryOf w) k (along es order d) entries_along) (subst (IsEntryOf w) (sym (entry_is k h)) (is_entry k h)) in
      subst (λ x. MayJoin x one) (sym e) (subst (λ x. MayJoin (gathered c (take k (along es order d))) x) (sym (f ∙ ap (part c) (sym (entry_is k h)))) m)
