-- Members by their numbers: those of one cell stand side by side, ascending in id, and share its total.
use Rattle.std.proofs.Common.{◌≡◌, ℕ, ◌+◌, ◌*◌, ◌%◌, ◌^◌, ◌<◌, ◌≤◌, Bool, true, false, cond, ◌||◌, ltb, List, [], ◌∷◌, ◌++◌, map, sum_by, count_by, length, take, get_or, zero, suc, refl, ap, ◌∙◌, sym, subst, arith}
use Rattle.std.specs.List.{AllByRecursion}
use Rattle.std.specs.List.Sorted.{IsPermutation, IsNonDecreasingBy}
use Rattle.std.proofs.lemmas.Bool.{cond-true, cond-false, lt-ltb, le-ltb, false≢true}
use Rattle.std.proofs.lemmas.List.Sorted.{All-permutation, IsPermutation-map}
use Rattle.std.proofs.lemmas.List.Elements.{All-from_recursion, recursion_from_All}
use Rattle.std.proofs.lemmas.List.Sums.{sum_by-cons}
use Rattle.cell_space.specs.Cells.{CellData, same_cell}
use Rattle.cell_space.proofs.Cells.{same_cell-exact}
use Rattle.model_laws.proofs.Sums.{sum_by-mapped}
use Rattle.octree_build.specs.Slots.{keys_below}
use Rattle.octree_build.proofs.Edges.{count_at_most}
use Rattle.rank_laws.specs.Machine.{is_one}
use Rattle.rank_laws.specs.Contents.{Summed}
use Rattle.rank_exchange.specs.declared.shares.Kept.{Kept}
use Rattle.rank_exchange.specs.Sums.{cells_in, place_of, Climbs}
use Rattle.rank_exchange.specs.Shares.{shared_in, shared_at, index_of, number_of, numbered, IsNumberOf, AreNumbers, AreSorted, kept_at, places_in}
use Rattle.rank_exchange.proofs.OwnMembers.{rises_from}

-- ---- numbers

pub below_few : (keys : List ℕ) (n : ℕ) → keys_below keys n ≤ length keys
unfolding keys_below
below_few keys n = count_at_most (λ k. ltb k n) keys

pub index_is : (ts : List Summed) (c : CellData) (places : List ℕ) (i n : ℕ) → places ≡ places_in ts → n ≡ place_of c → i ≡ keys_below places n → i ≡ index_of ts c
unfolding keys_below index_of
index_is ts c places i n e f g = g ∙ ap (λ t. count_by (λ k. ltb k t) places) f ∙ ap (count_by (λ k. ltb k (place_of c))) e ∙ sum_by-mapped (λ k. cond (ltb k (place_of c)) 1 0) (λ (t : Summed). place_of t.cell) ts

pub numbered_more : (ts : List Summed) (i : ℕ) (ks : List Kept) (k n : ℕ) → ((d : Kept) → n ≡ number_of ts (i + k) (get_or ks k d)) → k < length ks → (d : Kept) → numbered ts i (take (k + 1) ks) ≡ numbered ts i (take k ks) ++ n ∷ []
numbered_more ts i [] k n e h d = absurd (omega (arith, h))
numbered_more ts i (b ∷ ks) zero n e h d = let q : i + 0 ≡ i = omega arith in λ j. (sym (e d ∙ ap (λ t. number_of ts t b) q)) j ∷ []
numbered_more ts i (b ∷ ks) (suc k) n e h d =
    let q : i + suc k ≡ i + 1 + k = omega arith in
    let s : suc k + 1 ≡ suc (k + 1) = omega arith in
    ap (λ t. numbered ts i (take t (b ∷ ks))) s ∙ ap (λ t. number_of ts i b ∷ t) (numbered_more ts (i + 1) ks k n (λ d. e d ∙ ap (λ t. number_of ts t (get_or ks k d)) q) (omega (arith, h)) d)

ids_more : (ks : List Kept) (k : ℕ) → k < length ks → ((d : Kept) → (get_or ks k d).entry.member.0 < 2 ^ 64) → AllByRecursion (λ (k : Kept). k.entry.member.0 < 2 ^ 64) (take k ks) → Kept → AllByRecursion (λ (k : Kept). k.entry.member.0 < 2 ^ 64) (take (k + 1) ks)
ids_more [] k h e a d = absurd (omega (arith, h))
ids_more (b ∷ ks) zero h e a d = (e d, tt)
ids_more (b ∷ ks) (suc k) h e a d =
    let s : suc k + 1 ≡ suc (k + 1) = omega arith in
    subst (λ t. AllByRecursion (λ (k : Kept). k.entry.member.0 < 2 ^ 64) (take t (b ∷ ks))) (sym s) (a.0, ids_more ks k (omega (arith, h)) e a.1 d)

pub numbers_more : (ts : List Summed) (ks : List Kept) (k n : ℕ) (ns : List ℕ) → k < length ks → ((d : Kept) → n ≡ number_of ts k (get_or ks k d)) → ((d : Kept) → (get_or ks k d).entry.member.0 < 2 ^ 64) → Kept → AreNumbers ts (take k ks) ns → AreNumbers ts (take (k + 1) ks) (ns ++ n ∷ [])
numbers_more ts ks k n ns h e i d a = record {
  are = ap (λ t. t ++ n ∷ []) a.are ∙ sym (numbered_more ts 0 ks k n (λ d. let z : 0 + k ≡ k = omega arith in e d ∙ ap (λ t. number_of ts t (get_or ks k d)) (sym z)) h d);
  ids = ids_more ks k h i a.ids d;
}

at_place : (a b i : ℕ) → i < 2 ^ 32 → (a * 2 ^ 96 + (b * 2 ^ 32 + i)) % 2 ^ 32 ≡ i
at_place a b i h = omega (arith, h)

-- the numbers from a place on are those of the members there
module _ (ts : List Summed) (W : List Kept) (few : length W < 2 ^ 32) where
  abbrev Behind : ℕ → List Kept → Type 0
  Behind i rest = (j : ℕ) (d : Kept) → j < length rest → get_or W (i + j) d ≡ get_or rest j d

  behind_next : (i : ℕ) (k : Kept) (rest : List Kept) → Behind i (k ∷ rest) → Behind (i + 1) rest
  behind_next i k rest a j d h = let e : i + 1 + j ≡ i + suc j = omega arith in ap (λ t. get_or W t d) e ∙ a (suc j) d (omega (arith, h))

  here : (i : ℕ) (k : Kept) (rest : List Kept) → Behind i (k ∷ rest) → (d : Kept) → get_or W i d ≡ k
  here i k rest a d = let e : i ≡ i + 0 = omega arith in ap (λ t. get_or W t d) e ∙ a 0 d (omega arith)

  its_place : (i : ℕ) (k : Kept) → i < length W → number_of ts i k % 2 ^ 32 ≡ i
  its_place i k h = at_place (index_of ts k.entry.cell) k.entry.member.0 i (omega (arith, h, few))

  its_kept : (i : ℕ) (k : Kept) (rest : List Kept) → i < length W → Behind i (k ∷ rest) → (d : Kept) → kept_at W d (number_of ts i k) ≡ k
  its_kept i k rest h a d = ap (λ t. get_or W t d) (its_place i k h) ∙ here i k rest a d

  numbers_each : (i : ℕ) (rest : List Kept) → length W ≡ i + length rest → Behind i rest → AllByRecursion (IsNumberOf ts W) (numbered ts i rest)
  numbers_each i [] h a = tt
  numbers_each i (k ∷ rest) h a =
      let l : i < length W = omega (arith, h) in (
        record {
          within = omega (arith, its_place i k l, l);
          is = λ d. sym (ap (λ t. number_of ts t (get_or W t d)) (its_place i k l) ∙ ap (number_of ts i) (here i k rest a d));
        },
        numbers_each (i + 1) rest (omega (arith, h)) (behind_next i k rest a),
      )

  -- a sum over the numbers is one over the members
  pub sum_numbers : (P : Kept → Type 0) (f : ℕ → ℕ) (g : Kept → ℕ) → ((i : ℕ) (k : Kept) → i < length W → P k → ((d : Kept) → kept_at W d (number_of ts i k) ≡ k) → f (number_of ts i k) ≡ g k) → (i : ℕ) (rest : List Kept) → AllByRecursion P rest → length W ≡ i + length rest → Behind i rest → sum_by f (numbered ts i rest) ≡ sum_by g rest
  sum_numbers P f g e i [] u h a = refl
  sum_numbers P f g e i (k ∷ rest) u h a = omega (arith, sum_by-cons f (number_of ts i k) (numbered ts (i + 1) rest), sum_by-cons g k rest, e i k (omega (arith, h)) u.0 (its_kept i k rest (omega (arith, h)) a), sum_numbers P f g e (i + 1) rest u.1 (omega (arith, h)) (behind_next i k rest a))

  map_numbers : {Y : Type 0} (d : Kept) (f : Kept → Y) (i : ℕ) (rest : List Kept) → length W ≡ i + length rest → Behind i rest → map (λ n. f (kept_at W d n)) (numbered ts i rest) ≡ map f rest
  map_numbers d f i [] h a = refl
  map_numbers d f i (k ∷ rest) h a = λ j. f (its_kept i k rest (omega (arith, h)) a d j) ∷ map_numbers d f (i + 1) rest (omega (arith, h)) (behind_next i k rest a) j

  pub all_behind : Behind 0 W
  all_behind j d h = let e : 0 + j ≡ j = omega arith in ap (λ t. get_or W t d) e

pub numbers_sorted : (ts : List Summed) (ks : List Kept) (ns ms : List ℕ) → length ks < 2 ^ 32 → AreNumbers ts ks ns → IsPermutation ns ms → IsNonDecreasingBy (λ n. n) ms → AreSorted ts ks ms
numbers_sorted ts ks ns ms few a p r =
    let q : IsPermutation (numbered ts 0 ks) ms = subst (λ t. IsPermutation t ms) a.are p in
    record {
      permuted = q;
      rises = rises_from ms r;
      ids = a.ids;
      each = recursion_from_All (IsNumberOf ts ks) ms (All-permutation (IsNumberOf ts ks) (numbered ts 0 ks) ms q (All-from_recursion (IsNumberOf ts ks) (numbered ts 0 ks) (numbers_each ts ks few 0 ks (omega arith) (all_behind ts ks few))));
    }

-- all shares, in the order of the numbers, are all shares
pub shares_permuted : (ts : List Summed) (ks : List Kept) (d : Kept) (ns : List ℕ) → length ks < 2 ^ 32 → AreSorted ts ks ns → IsPermutation (map (shared_in ts ks) ks) (map (shared_at ts ks d) ns)
shares_permuted ts ks d ns few a = subst (λ t. IsPermutation t (map (shared_at ts ks d) ns)) (map_numbers ts ks few d (shared_in ts ks) 0 ks (omega arith) (all_behind ts ks few)) (IsPermutation-map (shared_at ts ks d) (numbered ts 0 ks) ns a.permuted)

-- ---- the index of a cell

climbs_index : (ts : List Summed) (c : CellData) → AllByRecursion (λ d. place_of c < place_of d) (cells_in ts) → index_of ts c ≡ 0
unfolding index_of
climbs_index [] c a = refl
climbs_index (t ∷ ts) c a =
    let l : place_of c < place_of t.cell = a.0 in
    omega (arith, sum_by-cons (λ (t : Summed). cond {A = ℕ} (ltb (place_of t.cell) (place_of c)) 1 0) t ts, cond-false {A = ℕ} (ltb (place_of t.cell) (place_of c)) 1 0 (le-ltb (place_of t.cell) (place_of c) (omega (arith, l))), climbs_index ts c a.1)

-- the cell at a place has this index
pub index_at : (ts : List Summed) → Climbs (cells_in ts) → (k : ℕ) (d : Summed) → k < length ts → index_of ts (get_or ts k d).cell ≡ k
unfolding index_of
index_at [] a k d h = absurd (omega (arith, h))
index_at (t ∷ ts) a zero d h =
    omega (arith, sum_by-cons (λ (x : Summed). cond {A = ℕ} (ltb (place_of x.cell) (place_of t.cell)) 1 0) t ts, cond-false {A = ℕ} (ltb (place_of t.cell) (place_of t.cell)) 1 0 (le-ltb (place_of t.cell) (place_of t.cell) (omega arith)), climbs_index ts t.cell a.0)
index_at (t ∷ ts) a (suc k) d h =
    let l : place_of t.cell < place_of (get_or ts k d).cell = behind ts a.0 k (omega (arith, h)) in
    omega (arith, sum_by-cons (λ (x : Summed). cond {A = ℕ} (ltb (place_of x.cell) (place_of (get_or ts k d).cell)) 1 0) t ts, cond-true {A = ℕ} (ltb (place_of t.cell) (place_of (get_or ts k d).cell)) 1 0 (lt-ltb (place_of t.cell) (place_of (get_or ts k d).cell) l), index_at ts a.1 k d (omega (arith, h)))
  where
    behind : (xs : List Summed) → AllByRecursion (λ c. place_of t.cell < place_of c) (cells_in xs) → (k : ℕ) → k < length xs → place_of t.cell < place_of (get_or xs k d).cell
    behind [] u k h = absurd (omega (arith, h))
    behind (x ∷ xs) u zero h = u.0
    behind (x ∷ xs) u (suc k) h = behind xs u.1 k (omega (arith, h))

-- the place of a cell that stands there
pub record Stands (ts : List Summed) (c : CellData) : Type 0 where
  pub place : ℕ
  pub within : place < length ts
  pub cell : (d : Summed) → (get_or ts place d).cell ≡ c

pub stands : (ts : List Summed) (c : CellData) → is_one c (cells_in ts) ≡ true → Stands ts c
stands [] c e = absurd (false≢true e)
stands (t ∷ ts) c e = by (same_cell c t.cell) refl (λ k. stands ts c k)
  where
    by : (b : Bool) → same_cell c t.cell ≡ b → (is_one c (cells_in ts) ≡ true → Stands ts c) → Stands (t ∷ ts) c
    by true u rest = record { place = 0; within = omega arith; cell = λ d. sym ((same_cell-exact c t.cell).0 u) }
    by false u rest =
        let s : Stands ts c = rest (sym (ap (λ b. b) (behind u)) ∙ e) in
        record { place = suc s.place; within = omega (arith, s.within); cell = s.cell }
      where
        behind : same_cell c t.cell ≡ false → is_one c (cells_in (t ∷ ts)) ≡ is_one c (cells_in ts)
        behind v = ap (λ b. b || is_one c (cells_in ts)) v
