-- The place of a body along the curve, by the sorted numbers of all.
use Rattle.std.proofs.Common.{◌≡◌, ℕ, zero, suc, ◌+◌, ◌-◌, ◌*◌, ◌/◌, ◌^◌, ◌<◌, ◌≤◌, Bool, true, false, cond, eqb, ltb, ◌&&◌, ◌||◌, List, [], ◌∷◌, length, map, refl, ap, sym, ◌∙◌, arith, ◌⊎◌, inl, inr}
use Rattle.std.specs.Prelude.{slice_index_or, slice_index}
use Rattle.std.specs.List.{count_by}
use Rattle.std.specs.List.Sorted.{IsStrictlyIncreasing}
use Rattle.std.proofs.Math.Nat.{div-lt_iff_lt-mul}
use Rattle.std.proofs.lemmas.Nat.{mul-le}
use Rattle.std.proofs.lemmas.Bool.{ltb-true, lt-ltb, le-ltb, eq-eqb, eqb-true, or_left, or_right, or_cases, and_from, and_parts, cases_order}
use Rattle.std.proofs.lemmas.List.{get_or-map, length-map}
use Rattle.std.proofs.lemmas.List.Sums.{sum_by-cons}
use Rattle.std.proofs.lemmas.List.Sorted.{sum_by-IsPermutation}
use Rattle.cell_space.proofs.Cells.{both_equal}
use Rattle.nbody_model.specs.Bodies.{BodyData}
use Rattle.model_laws.specs.Laws.{AreBodies}
use Rattle.octree_build.specs.Trees.{key_at}
use Rattle.octree_build.specs.Slots.{keys_below}
use Rattle.octree_build.specs.Order.{placed, IsNumbered}
use Rattle.domain_split.specs.Splits.{stands_before, place_along}

-- one number is below another by the key, and of one key by the place
number_test : (k m i j : ℕ) → i < 1048576 → j < 1048576 → ltb (k * 2 ^ 20 + i) (m * 2 ^ 20 + j) ≡ (ltb k m || (eqb k m && ltb i j))
number_test k m i j h l = both_equal (ltb (k * 2 ^ 20 + i) (m * 2 ^ 20 + j)) (ltb k m || (eqb k m && ltb i j)) there back
  where
    there : ltb (k * 2 ^ 20 + i) (m * 2 ^ 20 + j) ≡ true → (ltb k m || (eqb k m && ltb i j)) ≡ true
    there e = by (cases_order k m)
      where
        less : k * 2 ^ 20 + i < m * 2 ^ 20 + j
        less = ltb-true (k * 2 ^ 20 + i) (m * 2 ^ 20 + j) e

        by : (k ≡ m) ⊎ ((k < m) ⊎ (m < k)) → (ltb k m || (eqb k m && ltb i j)) ≡ true
        by (inl u) = or_right (ltb k m) (eqb k m && ltb i j) (and_from (eqb k m) (ltb i j) (eq-eqb k m u) (lt-ltb i j (omega (arith, less, u))))
        by (inr (inl u)) = or_left (ltb k m) (eqb k m && ltb i j) (lt-ltb k m u)
        by (inr (inr u)) = absurd (omega (arith, less, u, h, l))

    back : (ltb k m || (eqb k m && ltb i j)) ≡ true → ltb (k * 2 ^ 20 + i) (m * 2 ^ 20 + j) ≡ true
    back e = lt-ltb (k * 2 ^ 20 + i) (m * 2 ^ 20 + j) (by (or_cases (ltb k m) (eqb k m && ltb i j) e))
      where
        by : (ltb k m ≡ true) ⊎ ((eqb k m && ltb i j) ≡ true) → k * 2 ^ 20 + i < m * 2 ^ 20 + j
        by (inl u) = let v : k < m = ltb-true k m u in omega (arith, v, h)
        by (inr u) =
            let v : (eqb k m ≡ true) × (ltb i j ≡ true) = and_parts (eqb k m) (ltb i j) u in
            omega (arith, eqb-true k m v.0, ltb-true i j v.1)

-- as many numbers are below that of a body as bodies stand before it
counted : (b : BodyData) (j : ℕ) → j < 1048576 → (i : ℕ) (rest : List BodyData) → i + length rest ≤ 1048576 → ((k : ℕ) (d : BodyData) → k < length rest → ltb (i + k) j ≡ ltb (slice_index_or rest k d).id b.id) → count_by (λ n. ltb n (key_at b * 2 ^ 20 + j)) (placed i rest) ≡ count_by (λ a. stands_before a b) rest
counted b j h i [] few ids = refl
counted b j h i (a ∷ rest) few ids =
    let z : i ≡ i + 0 = omega arith in
    let one : ltb (key_at a * 2 ^ 20 + i) (key_at b * 2 ^ 20 + j) ≡ stands_before a b =
    number_test (key_at a) (key_at b) i j (omega (arith, few)) h ∙ ap (λ t. ltb (key_at a) (key_at b) || (eqb (key_at a) (key_at b) && t)) (ap (λ t. ltb t j) z ∙ ids 0 a (omega arith)) in
    let more : (k : ℕ) (d : BodyData) → k < length rest → ltb (i + 1 + k) j ≡ ltb (slice_index_or rest k d).id b.id = λ k d l. let e : i + 1 + k ≡ i + suc k = omega arith in ap (λ t. ltb t j) e ∙ ids (suc k) d (omega (arith, l)) in
    omega (
      arith,
      sum_by-cons (λ n. cond (ltb n (key_at b * 2 ^ 20 + j)) 1 0) (key_at a * 2 ^ 20 + i) (placed (i + 1) rest),
      sum_by-cons (λ a. cond (stands_before a b) 1 0) a rest,
      ap {B = ℕ} (λ t. cond t 1 0) one,
      counted b j h (i + 1) rest (omega (arith, few)) more,
    )

-- ids ascend with the places
ids_below : (ids : List ℕ) → IsStrictlyIncreasing ids → (i n : ℕ) → i + suc n < length ids → slice_index ids i < slice_index ids (i + suc n)
ids_below ids h i zero l = h i l
ids_below ids h i (suc n) l =
    let e : i + suc (suc n) ≡ i + suc n + 1 = omega arith in
    let k : slice_index ids (i + suc n) < slice_index ids (i + suc n + 1) = h (i + suc n) (omega (arith, l)) in
    omega (arith, ap (slice_index ids) e, k, ids_below ids h i n (omega (arith, l)))

module _ (B : List BodyData) (ids : IsStrictlyIncreasing (map (λ b. b.id) B)) where
  id_at : (k : ℕ) (d : BodyData) → k < length B → slice_index (map (λ b. b.id) B) k ≡ (slice_index_or B k d).id
  id_at k d h = get_or-map (λ b. b.id) B k d 0 h

  ascend : (i j : ℕ) (d e : BodyData) → i < j → j < length B → (slice_index_or B i d).id < (slice_index_or B j e).id
  ascend i j d e h l =
      let s : i + suc (j - i - 1) ≡ j = omega (arith, h) in
      let long : length (map (λ b. b.id) B) ≡ length B = length-map B (λ b. b.id) in
      let k : slice_index (map (λ b. b.id) B) i < slice_index (map (λ b. b.id) B) (i + suc (j - i - 1)) = ids_below (map (λ b. b.id) B) ids i (j - i - 1) (omega (arith, s, l, long)) in
      omega (arith, k, ap (slice_index (map (λ b. b.id) B)) s, id_at i d (omega (arith, h, l)), id_at j e l)

  id_test : (i j : ℕ) (d e : BodyData) → i < length B → j < length B → ltb i j ≡ ltb (slice_index_or B i d).id (slice_index_or B j e).id
  id_test i j d e h l = by (cases_order i j)
    where
      by : (i ≡ j) ⊎ ((i < j) ⊎ (j < i)) → ltb i j ≡ ltb (slice_index_or B i d).id (slice_index_or B j e).id
      by (inl u) =
          let q : (slice_index_or B i d).id ≡ (slice_index_or B j e).id = sym (id_at i d h) ∙ ap (slice_index (map (λ b. b.id) B)) u ∙ id_at j e l in
          le-ltb i j (omega (arith, u)) ∙ sym (le-ltb (slice_index_or B i d).id (slice_index_or B j e).id (omega (arith, q)))
      by (inr (inl u)) = lt-ltb i j u ∙ sym (lt-ltb (slice_index_or B i d).id (slice_index_or B j e).id (ascend i j d e u l))
      by (inr (inr u)) = let q : (slice_index_or B j e).id < (slice_index_or B i d).id = ascend j i e d u h in le-ltb i j (omega (arith, u)) ∙ sym (le-ltb (slice_index_or B i d).id (slice_index_or B j e).id (omega (arith, q)))

-- where one of a list doesn't pass, fewer pass than there are
count_short : {X : Type 0} (t : X → Bool) (xs : List X) (i : ℕ) (d : X) → i < length xs → t (slice_index_or xs i d) ≡ false → count_by t xs < length xs
count_short t [] i d h e = absurd (omega (arith, h))
count_short t (x ∷ xs) zero d h e = omega (arith, sum_by-cons (λ x. cond (t x) 1 0) x xs, ap {B = ℕ} (λ b. cond b 1 0) e, count_whole t xs)
  where
    count_whole : {X : Type 0} (t : X → Bool) (xs : List X) → count_by t xs ≤ length xs
    count_whole t [] = omega arith
    count_whole t (x ∷ xs) = by (t x) (sum_by-cons (λ x. cond (t x) 1 0) x xs) (count_whole t xs)
      where
        by : (b : Bool) → count_by t (x ∷ xs) ≡ cond b 1 0 + count_by t xs → count_by t xs ≤ length xs → count_by t (x ∷ xs) ≤ length (x ∷ xs)
        by true e r = omega (arith, e, r)
        by false e r = omega (arith, e, r)
count_short t (x ∷ xs) (suc i) d h e = by (t x) (sum_by-cons (λ x. cond (t x) 1 0) x xs) (count_short t xs i d (omega (arith, h)) e)
  where
    by : (b : Bool) → count_by t (x ∷ xs) ≡ cond b 1 0 + count_by t xs → count_by t xs < length xs → count_by t (x ∷ xs) < length (x ∷ xs)
    by true q r = omega (arith, q, r)
    by false q r = omega (arith, q, r)

not_before_itself : (b : BodyData) → stands_before b b ≡ false
not_before_itself b = (λ i. le-ltb (key_at b) (key_at b) (omega arith) i || (eq-eqb (key_at b) (key_at b) refl i && le-ltb b.id b.id (omega arith) i))

module _ (B : List BodyData) (sorted : List ℕ) (are : AreBodies B) (all : IsNumbered B sorted) (i : ℕ) (d : BodyData) (here : i < length B) where
  abbrev b : BodyData
  b = slice_index_or B i d

  pub place_is : (n p : ℕ) → n ≡ key_at (slice_index_or B i d) * 2 ^ 20 + i → p ≡ keys_below sorted n → p ≡ place_along B (slice_index_or B i d)
  unfolding keys_below
  place_is n p e q =
      q ∙ ap (λ t. count_by (λ k. ltb k t) sorted) e
      ∙ sum_by-IsPermutation (λ k. cond (ltb k (key_at b * 2 ^ 20 + i)) 1 0) (placed 0 B) sorted all.permuted
      ∙ counted b i (omega (arith, here, are.valid.few)) 0 B (omega (arith, are.valid.few)) (λ k f l. let z : 0 + k ≡ k = omega arith in ap (λ t. ltb t i) z ∙ id_test B are.valid.ascending k i f d l here)

  pub place_small : place_along B (slice_index_or B i d) < length B
  place_small = count_short (λ a. stands_before a b) B i d here (not_before_itself b)

pub owner_small : (p ranks n : ℕ) → p < n → 1 ≤ ranks → p * ranks / n < ranks
owner_small p ranks n h r = (div-lt_iff_lt-mul {k = n} {x = p * ranks} {y = ranks} (omega (arith, h))).1 (by)
  where
    by : p * ranks < ranks * n
    by = let a : (p + 1) * ranks ≤ n * ranks = mul-le (p + 1) ranks n ranks (omega (arith, h)) (omega arith) in let b : (p + 1) * ranks ≡ p * ranks + ranks = omega arith in let c : n * ranks ≡ ranks * n = omega arith in omega (arith, a, b, c, r)
