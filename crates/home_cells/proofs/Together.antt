-- What entries tell of a cell together doesn't look at their order.
use Rattle.std.proofs.Common.{◌≡◌, ℕ, zero, suc, ◌+◌, ◌<◌, min, max, Bool, true, false, cond, ◌||◌, eqb, List, [], ◌∷◌, ◌++◌, refl, ap, sym, ◌∙◌, arith, ◌⊎◌, inl, inr, Option, Some, None}
use Rattle.std.specs.Prelude.{slice_index}
use Rattle.std.specs.List.{filter, list_any}
use Rattle.std.specs.List.Sorted.{IsPermutation}
use Rattle.std.proofs.lemmas.Bool.{cases_eq, eq-eqb, eqb-true}
use Rattle.cell_space.specs.Cells.{CellData, below, same_cell}
use Rattle.cell_space.proofs.Cells.{both_equal, same_cell-exact}
use Rattle.model_laws.proofs.Among.{Among, Witness, any-witness, any-among, among-kept, among-filter}
use Rattle.node_moments.specs.Sums.{RawData}
use Rattle.node_moments.specs.Joined.{joined}
use Rattle.rank_laws.specs.Contents.{EntryData}
use Rattle.rank_laws.proofs.ByIds.{filter_on}
use Rattle.rank_entry_laws.specs.Given.{in_either, together, is_around, seen_from}
use Rattle.rank_entry_laws.proofs.Given.{under_eight}
use Rattle.home_cells.specs.Found.{part, gathered, count_of, mass_in}
use Rattle.home_cells.proofs.Permuted.{along_permutation}

-- ---- sums

add_turn : (x y z : ℕ) → x + (y + z) ≡ y + (x + z)
add_turn x y z = omega arith

add_more : (x y z : ℕ) → x + (y + z) ≡ x + y + z
add_more x y z = omega arith

add_flip : (x y : ℕ) → x + y ≡ y + x
add_flip x y = omega arith

min_turn : (x y z : ℕ) → min x (min y z) ≡ min y (min x z)
min_turn x y z = omega arith

min_more : (x y z : ℕ) → min x (min y z) ≡ min (min x y) z
min_more x y z = omega arith

min_flip : (x y : ℕ) → min x y ≡ min y x
min_flip x y = omega arith

max_turn : (x y z : ℕ) → max x (max y z) ≡ max y (max x z)
max_turn x y z = omega arith

max_more : (x y z : ℕ) → max x (max y z) ≡ max (max x y) z
max_more x y z = omega arith

max_flip : (x y : ℕ) → max x y ≡ max y x
max_flip x y = omega arith

module _ (a b r : RawData) where
  abbrev at : (RawData → List ℕ) → (RawData → ℕ → ℕ)
  at f x k = slice_index (f x) k

  joined_turn : a.cell ≡ b.cell → joined a (joined b r) ≡ joined b (joined a r)
  joined_turn e =
      let first : (k : ℕ) → slice_index a.mx k + (slice_index b.mx k + slice_index r.mx k) ≡ slice_index b.mx k + (slice_index a.mx k + slice_index r.mx k) = λ k. add_turn (slice_index a.mx k) (slice_index b.mx k) (slice_index r.mx k) in
      let second : (k : ℕ) → slice_index a.mxx k + (slice_index b.mxx k + slice_index r.mxx k) ≡ slice_index b.mxx k + (slice_index a.mxx k + slice_index r.mxx k) = λ k. add_turn (slice_index a.mxx k) (slice_index b.mxx k) (slice_index r.mxx k) in
      let low : (k : ℕ) → min (slice_index a.lo k) (min (slice_index b.lo k) (slice_index r.lo k)) ≡ min (slice_index b.lo k) (min (slice_index a.lo k) (slice_index r.lo k)) = λ k. min_turn (slice_index a.lo k) (slice_index b.lo k) (slice_index r.lo k) in
      let high : (k : ℕ) → max (slice_index a.hi k) (max (slice_index b.hi k) (slice_index r.hi k)) ≡ max (slice_index b.hi k) (max (slice_index a.hi k) (slice_index r.hi k)) = λ k. max_turn (slice_index a.hi k) (slice_index b.hi k) (slice_index r.hi k) in
      λ i. record {
        cell = e i;
        count = add_turn a.count b.count r.count i;
        mass = add_turn a.mass b.mass r.mass i;
        mx = first 0 i ∷ first 1 i ∷ first 2 i ∷ [];
        mxx = second 0 i ∷ second 1 i ∷ second 2 i ∷ second 3 i ∷ second 4 i ∷ second 5 i ∷ [];
        lo = low 0 i ∷ low 1 i ∷ low 2 i ∷ [];
        hi = high 0 i ∷ high 1 i ∷ high 2 i ∷ [];
        eps = max_turn a.eps b.eps r.eps i;
      }

  joined_more : joined a (joined b r) ≡ joined (joined a b) r
  joined_more =
      let first : (k : ℕ) → slice_index a.mx k + (slice_index b.mx k + slice_index r.mx k) ≡ slice_index a.mx k + slice_index b.mx k + slice_index r.mx k = λ k. add_more (slice_index a.mx k) (slice_index b.mx k) (slice_index r.mx k) in
      let second : (k : ℕ) → slice_index a.mxx k + (slice_index b.mxx k + slice_index r.mxx k) ≡ slice_index a.mxx k + slice_index b.mxx k + slice_index r.mxx k = λ k. add_more (slice_index a.mxx k) (slice_index b.mxx k) (slice_index r.mxx k) in
      let low : (k : ℕ) → min (slice_index a.lo k) (min (slice_index b.lo k) (slice_index r.lo k)) ≡ min (min (slice_index a.lo k) (slice_index b.lo k)) (slice_index r.lo k) = λ k. min_more (slice_index a.lo k) (slice_index b.lo k) (slice_index r.lo k) in
      let high : (k : ℕ) → max (slice_index a.hi k) (max (slice_index b.hi k) (slice_index r.hi k)) ≡ max (max (slice_index a.hi k) (slice_index b.hi k)) (slice_index r.hi k) = λ k. max_more (slice_index a.hi k) (slice_index b.hi k) (slice_index r.hi k) in
      λ i. record {
        cell = a.cell;
        count = add_more a.count b.count r.count i;
        mass = add_more a.mass b.mass r.mass i;
        mx = first 0 i ∷ first 1 i ∷ first 2 i ∷ [];
        mxx = second 0 i ∷ second 1 i ∷ second 2 i ∷ second 3 i ∷ second 4 i ∷ second 5 i ∷ [];
        lo = low 0 i ∷ low 1 i ∷ low 2 i ∷ [];
        hi = high 0 i ∷ high 1 i ∷ high 2 i ∷ [];
        eps = max_more a.eps b.eps r.eps i;
      }

module _ (a b : RawData) where
  joined_flip : a.cell ≡ b.cell → joined a b ≡ joined b a
  joined_flip e =
      let first : (k : ℕ) → slice_index a.mx k + slice_index b.mx k ≡ slice_index b.mx k + slice_index a.mx k = λ k. add_flip (slice_index a.mx k) (slice_index b.mx k) in
      let second : (k : ℕ) → slice_index a.mxx k + slice_index b.mxx k ≡ slice_index b.mxx k + slice_index a.mxx k = λ k. add_flip (slice_index a.mxx k) (slice_index b.mxx k) in
      let low : (k : ℕ) → min (slice_index a.lo k) (slice_index b.lo k) ≡ min (slice_index b.lo k) (slice_index a.lo k) = λ k. min_flip (slice_index a.lo k) (slice_index b.lo k) in
      let high : (k : ℕ) → max (slice_index a.hi k) (slice_index b.hi k) ≡ max (slice_index b.hi k) (slice_index a.hi k) = λ k. max_flip (slice_index a.hi k) (slice_index b.hi k) in
      λ i. record {
        cell = e i;
        count = add_flip a.count b.count i;
        mass = add_flip a.mass b.mass i;
        mx = first 0 i ∷ first 1 i ∷ first 2 i ∷ [];
        mxx = second 0 i ∷ second 1 i ∷ second 2 i ∷ second 3 i ∷ second 4 i ∷ second 5 i ∷ [];
        lo = low 0 i ∷ low 1 i ∷ low 2 i ∷ [];
        hi = high 0 i ∷ high 1 i ∷ high 2 i ∷ [];
        eps = max_flip a.eps b.eps i;
      }

-- ---- sets of children

pub below_there : (k m : ℕ) → k < m → Among k (below m)
below_there k zero l = absurd (omega (arith, l))
below_there k (suc m) l = pick (cases_eq k m) (λ u. below_there k m u)
  where
    pick : (k ≡ m) ⊎ (k ≡ m → ⊥) → (k < m → Among k (below m)) → Among k (below (suc m))
    pick (inl e) rest = inl e
    pick (inr e) rest = inr (rest (omega (arith, l, e)))

-- a number below n stands in a filter where it passes
pub stands : (t : ℕ → Bool) (n k : ℕ) → k < n → list_any (λ j. eqb j k) (filter t (below n)) ≡ t k
stands t n k h = both_equal (list_any (λ j. eqb j k) (filter t (below n))) (t k)
    (λ e. let w : Witness (λ j. eqb j k) (filter t (below n)) = any-witness (λ j. eqb j k) (filter t (below n)) e in
    ap t (sym (eqb-true w.it k w.passes)) ∙ (among-kept t w.it (below n) w.«in»).1)
    (λ e. any-among (λ j. eqb j k) k (filter t (below n)) (among-filter t k (below n) (below_there k n h) e) (eq-eqb k k refl))

abbrev has : List ℕ → ℕ → Bool
has xs k = list_any (λ j. eqb j k) xs

or_turn : (p q s : Bool) → (p || (q || s)) ≡ (q || (p || s))
or_turn true true s = refl
or_turn true false s = refl
or_turn false q s = refl

or_more : (p q s : Bool) → (p || (q || s)) ≡ ((p || q) || s)
or_more true q s = refl
or_more false q s = refl

or_flip : (p q : Bool) → (p || q) ≡ (q || p)
or_flip true true = refl
or_flip true false = refl
or_flip false true = refl
or_flip false false = refl

either_has : (a b : List ℕ) (k : ℕ) → Among k (below 8) → list_any (λ j. eqb j k) (in_either a b) ≡ (list_any (λ j. eqb j k) a || list_any (λ j. eqb j k) b)
either_has a b k h = stands (λ k. list_any (λ j. eqb j k) a || list_any (λ j. eqb j k) b) 8 k (under_eight k 8 h)

either_turn : (a b v : List ℕ) → in_either a (in_either b v) ≡ in_either b (in_either a v)
either_turn a b v = filter_on (λ k. has a k || has (in_either b v) k) (λ k. has b k || has (in_either a v) k) (below 8)
    (λ k h. ap (λ t. has a k || t) (either_has b v k h) ∙ or_turn (has a k) (has b k) (has v k) ∙ sym (ap (λ t. has b k || t) (either_has a v k h)))

either_more : (a b v : List ℕ) → in_either a (in_either b v) ≡ in_either (in_either a b) v
either_more a b v = filter_on (λ k. has a k || has (in_either b v) k) (λ k. has (in_either a b) k || has v k) (below 8)
    (λ k h. ap (λ t. has a k || t) (either_has b v k h) ∙ or_more (has a k) (has b k) (has v k) ∙ sym (ap (λ t. t || has v k) (either_has a b k h)))

either_flip : (a b : List ℕ) → in_either a b ≡ in_either b a
either_flip a b = filter_on (λ k. has a k || has b k) (λ k. has b k || has a k) (below 8) (λ k h. or_flip (has a k) (has b k))

-- ---- answers

pub together_more : (x y z : Option EntryData) → together x (together y z) ≡ together (together x y) z
together_more None y z = refl
together_more (Some a) None z = refl
together_more (Some a) (Some b) None = refl
together_more (Some a) (Some b) (Some v) = λ i. Some (record { raw = joined_more a.raw b.raw v.raw i; children = either_more a.children b.children v.children i })

-- an answer is of a cell
abbrev OfCell : CellData → Option EntryData → Type 0
OfCell c x = (e : EntryData) → x ≡ Some e → e.raw.cell ≡ c

together_turn : (c : CellData) (x y z : Option EntryData) → OfCell c x → OfCell c y → together x (together y z) ≡ together y (together x z)
together_turn c None y z p q = refl
together_turn c (Some a) None z p q = refl
together_turn c (Some a) (Some b) None p q =
    let e : a.raw.cell ≡ b.raw.cell = p a refl ∙ sym (q b refl) in
    λ i. Some (record { raw = joined_flip a.raw b.raw e i; children = either_flip a.children b.children i })
together_turn c (Some a) (Some b) (Some v) p q =
    let e : a.raw.cell ≡ b.raw.cell = p a refl ∙ sym (q b refl) in
    λ i. Some (record { raw = joined_turn a.raw b.raw v.raw e i; children = either_turn a.children b.children v.children i })

some_is : (a b : EntryData) → ◌≡◌ {A = Option EntryData} (Some a) (Some b) → a ≡ b
some_is a b e = ap (λ (t : Option EntryData). from t) e
  where
    from : Option EntryData → EntryData
    from None = a
    from (Some x) = x

none_is : (a : EntryData) → ◌≡◌ {A = Option EntryData} None (Some a) → ⊥
none_is a e = cc

part_cell : (c : CellData) (e : EntryData) → OfCell c (part c e)
part_cell c e = by (same_cell e.raw.cell c) refl
  where
    seen : (b : Bool) (x : EntryData) → cond b (Some (seen_from c e)) None ≡ Some x → x.raw.cell ≡ c
    seen true x h = ap (λ (t : EntryData). t.raw.cell) (sym (some_is (seen_from c e) x h))
    seen false x h = absurd (none_is x h)

    by : (b : Bool) → same_cell e.raw.cell c ≡ b → (x : EntryData) → cond b (Some e) (cond (is_around c e) (Some (seen_from c e)) None) ≡ Some x → x.raw.cell ≡ c
    by true s x h = ap (λ (t : EntryData). t.raw.cell) (sym (some_is e x h)) ∙ (same_cell-exact e.raw.cell c).0 s
    by false s x h = seen (is_around c e) x h

-- what two lists tell is what both tell
pub gathered_both : (c : CellData) (xs ys : List EntryData) → gathered c (xs ++ ys) ≡ together (gathered c xs) (gathered c ys)
gathered_both c [] ys = refl
gathered_both c (x ∷ xs) ys = ap (together (part c x)) (gathered_both c xs ys) ∙ together_more (part c x) (gathered c xs) (gathered c ys)

together_none : (x : Option EntryData) → together x None ≡ x
together_none None = refl
together_none (Some a) = refl

pub gathered_push : (c : CellData) (xs : List EntryData) (e : EntryData) → gathered c (xs ++ e ∷ []) ≡ together (gathered c xs) (part c e)
gathered_push c xs e = gathered_both c xs (e ∷ []) ∙ ap (together (gathered c xs)) (together_none (part c e))

pub gathered_free : (c : CellData) (xs ys : List EntryData) → IsPermutation xs ys → gathered c xs ≡ gathered c ys
gathered_free c = along_permutation (λ xs ys. gathered c xs ≡ gathered c ys)
    (λ xs. refl)
    (λ x xs ys h. ap (together (part c x)) h)
    (λ x y xs. together_turn c (part c x) (part c y) (gathered c xs) (part_cell c x) (part_cell c y))
    (λ xs ys zs p q. p ∙ q)

-- counts and masses add up
pub count_both : (x y : Option EntryData) → count_of (together x y) ≡ count_of x + count_of y
count_both None y = omega arith
count_both (Some a) None = omega arith
count_both (Some a) (Some b) = refl

pub mass_both : (x y : Option EntryData) → mass_in (together x y) ≡ mass_in x + mass_in y
mass_both None y = omega arith
mass_both (Some a) None = omega arith
mass_both (Some a) (Some b) = refl
