-- Bodies sorted by their numbers are in the order of the curve.
use Rattle.std.proofs.Common.{◌≡◌, ℕ, zero, suc, ◌+◌, ◌-◌, ◌*◌, ◌/◌, ◌%◌, ◌^◌, ◌<◌, ◌≤◌, List, [], ◌∷◌, ◌++◌, map, take, length, refl, ap, sym, ◌∙◌, subst, arith, slice_index}
use Rattle.std.specs.Prelude.{slice_index_or}
use Rattle.std.specs.List.{AllByRecursion}
use Rattle.std.specs.List.Sorted.{IsPermutation, IsNonDecreasingBy, IsStrictlyIncreasing}
use Rattle.std.proofs.lemmas.List.{take_all}
use Rattle.std.proofs.lemmas.List.Sorted.{All-permutation, IsPermutation-map}
use Rattle.std.proofs.lemmas.List.Elements.{recursion_from_All, All-from_recursion}
use Rattle.cell_space.specs.Cells.{InBox}
use Rattle.nbody_model.specs.Bodies.{BodyData}
use Rattle.model_laws.specs.Laws.{AreBodies}
use Rattle.octree_build.specs.Trees.{key_at, Rises, IsBefore, AreOrdered}
use Rattle.octree_build.specs.Order.{placed, IsNumberOf, IsNumbered, AreAlong}
use Rattle.octree_build.proofs.Opened.{blank}

-- ---- the numbers of bodies

number_place : (k i : ℕ) → i < 1048576 → (k * 2 ^ 20 + i) % 2 ^ 20 ≡ i
number_place k i h = omega (arith, h)

number_key : (k i : ℕ) → i < 1048576 → (k * 2 ^ 20 + i) / 2 ^ 20 ≡ k
number_key k i h = omega (arith, h)

shift_at : (W : List BodyData) (i : ℕ) (b : BodyData) (rest : List BodyData) → ((j : ℕ) (d : BodyData) → j < length (b ∷ rest) → slice_index_or W (i + j) d ≡ slice_index_or (b ∷ rest) j d) → (j : ℕ) (d : BodyData) → j < length rest → slice_index_or W (i + 1 + j) d ≡ slice_index_or rest j d
shift_at W i b rest a j d h = let e : i + 1 + j ≡ i + suc j = omega arith in ap (λ k. slice_index_or W k d) e ∙ a (suc j) d (omega (arith, h))

first_at : (W : List BodyData) (i : ℕ) (b : BodyData) (rest : List BodyData) → ((j : ℕ) (d : BodyData) → j < length (b ∷ rest) → slice_index_or W (i + j) d ≡ slice_index_or (b ∷ rest) j d) → (d : BodyData) → slice_index_or W i d ≡ b
first_at W i b rest a d = let e : i ≡ i + 0 = omega arith in ap (λ k. slice_index_or W k d) e ∙ a 0 d (omega arith)

numbers_each : (W : List BodyData) → length W ≤ 1048576 → (i : ℕ) (rest : List BodyData) → length W ≡ i + length rest → ((j : ℕ) (d : BodyData) → j < length rest → slice_index_or W (i + j) d ≡ slice_index_or rest j d) → AllByRecursion (IsNumberOf W) (placed i rest)
numbers_each W few i [] h a = tt
numbers_each W few i (b ∷ rest) h a =
    let l : i < 1048576 = omega (arith, few, h) in
    let p : (key_at b * 2 ^ 20 + i) % 2 ^ 20 ≡ i = number_place (key_at b) i l in (
      record {
        within = omega (arith, p, h);
        key = λ d. number_key (key_at b) i l ∙ ap key_at (sym (first_at W i b rest a d)) ∙ ap (λ k. key_at (slice_index_or W k d)) (sym p);
      },
      numbers_each W few (i + 1) rest (omega (arith, h)) (shift_at W i b rest a),
    )

abbrev body_at : List BodyData → BodyData → ℕ → BodyData
body_at W d n = slice_index_or W (n % 2 ^ 20) d

numbers_back : (W : List BodyData) → length W ≤ 1048576 → (d : BodyData) (i : ℕ) (rest : List BodyData) → length W ≡ i + length rest → ((j : ℕ) (d : BodyData) → j < length rest → slice_index_or W (i + j) d ≡ slice_index_or rest j d) → map (body_at W d) (placed i rest) ≡ rest
numbers_back W few d i [] h a = refl
numbers_back W few d i (b ∷ rest) h a =
    let p : (key_at b * 2 ^ 20 + i) % 2 ^ 20 ≡ i = number_place (key_at b) i (omega (arith, few, h)) in
    λ k. (ap (λ n. slice_index_or W n d) p ∙ first_at W i b rest a d) k ∷ numbers_back W few d (i + 1) rest (omega (arith, h)) (shift_at W i b rest a) k

same_at : (W : List BodyData) (j : ℕ) (d : BodyData) → j < length W → slice_index_or W (0 + j) d ≡ slice_index_or W j d
same_at W j d h = let e : 0 + j ≡ j = omega arith in ap (λ k. slice_index_or W k d) e

-- one number more
pub placed_more : (i : ℕ) (B : List BodyData) (k : ℕ) (n : ℕ) → ((d : BodyData) → n ≡ key_at (slice_index_or B k d) * 2 ^ 20 + (i + k)) → k < length B → placed i (take (k + 1) B) ≡ placed i (take k B) ++ n ∷ []
placed_more i [] k n e h = absurd (omega (arith, h))
placed_more i (b ∷ B) zero n e h = let q : i + 0 ≡ i = omega arith in λ j. (sym (e b ∙ ap (λ t. key_at b * 2 ^ 20 + t) q)) j ∷ []
placed_more i (b ∷ B) (suc k) n e h =
    let q : i + suc k ≡ i + 1 + k = omega arith in
    let s : suc k + 1 ≡ suc (k + 1) = omega arith in
    ap (λ t. placed i (take t (b ∷ B))) s ∙ ap (λ t. (key_at b * 2 ^ 20 + i) ∷ t) (placed_more (i + 1) B k n (λ d. e d ∙ ap (λ t. key_at (slice_index_or B k d) * 2 ^ 20 + t) q) (omega (arith, h)))

-- ---- after the sort

above_all : (x : ℕ) (xs : List ℕ) → ((k : ℕ) (d : ℕ) → k < length xs → x ≤ slice_index_or xs k d) → AllByRecursion (λ y. x ≤ y) xs
above_all x [] h = tt
above_all x (y ∷ ys) h = (h 0 0 (omega arith), above_all x ys (λ k d l. h (suc k) d (omega (arith, l))))

rises_from : (xs : List ℕ) → IsNonDecreasingBy (λ n. n) xs → Rises (λ n. n) xs
rises_from [] h = tt
rises_from (x ∷ xs) h = (above_all x xs (λ k d l. h 0 (suc k) d (omega arith) (omega (arith, l))), rises_from xs (λ i j d l m. h (suc i) (suc j) d (omega (arith, l)) (omega (arith, m))))

pub numbered : (B : List BodyData) (numbers sorted : List ℕ) → length B ≤ 1048576 → numbers ≡ placed 0 B → IsPermutation numbers sorted → IsNonDecreasingBy (λ n. n) sorted → IsNumbered B sorted
numbered B numbers sorted few e p r =
    let q : IsPermutation (placed 0 B) sorted = subst (λ t. IsPermutation t sorted) e p in
    let each : AllByRecursion (IsNumberOf B) (placed 0 B) = numbers_each B few 0 B (omega arith) (same_at B) in
    record {
      permuted = q;
      rises = rises_from sorted r;
      each = recursion_from_All (IsNumberOf B) sorted (All-permutation (IsNumberOf B) (placed 0 B) sorted q (All-from_recursion (IsNumberOf B) (placed 0 B) each));
    }

-- ids ascend with the places
ids_below : (ids : List ℕ) → IsStrictlyIncreasing ids → (i n : ℕ) → i + n < length ids → slice_index ids i ≤ slice_index ids (i + n)
ids_below ids h i zero l = let e : i + 0 ≡ i = omega arith in omega (arith, ap (slice_index ids) e)
ids_below ids h i (suc n) l =
    let e : i + suc n ≡ i + n + 1 = omega arith in
    let k : slice_index ids (i + n) < slice_index ids (i + n + 1) = h (i + n) (omega (arith, l)) in
    omega (arith, ap (slice_index ids) e, k, ids_below ids h i n (omega (arith, l)))

id_at : (B : List BodyData) (k : ℕ) (d : BodyData) → k < length B → slice_index (map (λ b. b.id) B) k ≡ (slice_index_or B k d).id
id_at [] k d h = absurd (omega (arith, h))
id_at (b ∷ B) zero d h = refl
id_at (b ∷ B) (suc k) d h = id_at B k d (omega (arith, h))

long_ids : (B : List BodyData) → length (map (λ b. b.id) B) ≡ length B
long_ids [] = refl
long_ids (b ∷ B) = let e : length (map (λ b. b.id) B) ≡ length B = long_ids B in omega (arith, e)

module _ (B : List BodyData) (ids : IsStrictlyIncreasing (map (λ b. b.id) B)) (d : BodyData) where
  before : (m n : ℕ) → IsNumberOf B m → IsNumberOf B n → m ≤ n → IsBefore (body_at B d m) (body_at B d n)
  before m n u v h = record {
    key = omega (arith, u.key d, v.key d, h);
    id = λ e.
        let i : ℕ = m % 2 ^ 20 in
        let j : ℕ = n % 2 ^ 20 in
        let l : m % 2 ^ 20 ≤ n % 2 ^ 20 = omega (arith, u.key d, v.key d, h, e) in
        let s : m % 2 ^ 20 + (n % 2 ^ 20 - m % 2 ^ 20) ≡ n % 2 ^ 20 = omega (arith, l) in
        let k : slice_index (map (λ b. b.id) B) i ≤ slice_index (map (λ b. b.id) B) (i + (j - i)) = ids_below (map (λ b. b.id) B) ids i (j - i) (omega (arith, s, v.within, long_ids B)) in
        omega (arith, k, ap (slice_index (map (λ b. b.id) B)) s, id_at B i d u.within, id_at B j d v.within);
  }

  before_each : (m : ℕ) (ns : List ℕ) → IsNumberOf B m → AllByRecursion (IsNumberOf B) ns → AllByRecursion (λ n. m ≤ n) ns → AllByRecursion (IsBefore (body_at B d m)) (map (body_at B d) ns)
  before_each m [] u a h = tt
  before_each m (n ∷ ns) u a h = (before m n u a.0 h.0, before_each m ns u a.1 h.1)

  ordered : (ns : List ℕ) → AllByRecursion (IsNumberOf B) ns → Rises (λ n. n) ns → AreOrdered (map (body_at B d) ns)
  ordered [] a r = tt
  ordered (n ∷ ns) a r = (before_each n ns a.0 a.1 r.0, ordered ns a.1 r.1)

  keys_are : (ns : List ℕ) → AllByRecursion (IsNumberOf B) ns → map (λ n. n / 2 ^ 20) ns ≡ map key_at (map (body_at B d) ns)
  keys_are [] a = refl
  keys_are (n ∷ ns) a = λ i. a.0.key d i ∷ keys_are ns a.1 i

keys_only : (b : BodyData) (S : List BodyData) → AllByRecursion (IsBefore b) S → AllByRecursion (λ y. key_at b ≤ key_at y) S
keys_only b [] a = tt
keys_only b (y ∷ S) a = (a.0.key, keys_only b S a.1)

pub rises_along : (S : List BodyData) → AreOrdered S → Rises key_at S
rises_along [] o = tt
rises_along (b ∷ S) o = (keys_only b S o.0, rises_along S o.1)

pub all_along : (B : List BodyData) (numbers keys : List ℕ) (S : List BodyData) → AreBodies B → IsNumbered B numbers → keys ≡ map (λ n. n / 2 ^ 20) numbers → ((d : BodyData) → S ≡ map (λ n. slice_index_or B (n % 2 ^ 20) d) numbers) → AreAlong B keys S
all_along B numbers keys S a n e f =
    let back : map (body_at B blank) (placed 0 B) ≡ B = numbers_back B a.valid.few blank 0 B (omega arith) (same_at B) in
    let moved : IsPermutation (map (body_at B blank) (placed 0 B)) (map (body_at B blank) numbers) = IsPermutation-map (body_at B blank) (placed 0 B) numbers n.permuted in
    let p : IsPermutation B S = subst (λ t. IsPermutation t S) back (subst (λ t. IsPermutation (map (body_at B blank) (placed 0 B)) t) (sym (f blank)) moved) in
    let o : AreOrdered S = subst AreOrdered (sym (f blank)) (ordered B a.valid.ascending blank numbers n.each n.rises) in
    record {
      along = record { permuted = p; ordered = o };
      keyed = record {
        are = e ∙ keys_are B a.valid.ascending blank numbers n.each ∙ ap (map key_at) (sym (f blank));
        rises = rises_along S o;
        in_box = recursion_from_All (λ b. InBox b.motion.pos) S (All-permutation (λ b. InBox b.motion.pos) B S p (All-from_recursion (λ b. InBox b.motion.pos) B a.in_box));
      };
    }

-- a list whose first elements are a part of another
pub mapped_more : {X Y : Type 0} (f : X → Y) (xs : List X) (ys : List Y) (k : ℕ) (d : X) (y : Y) → k < length xs → y ≡ f (slice_index_or xs k d) → ys ≡ map f (take k xs) → ys ++ y ∷ [] ≡ map f (take (k + 1) xs)
mapped_more {X = X} f xs ys k d y h g u = ap (λ t. t ++ y ∷ []) u ∙ by xs k h g
  where
    by : (xs : List X) (k : ℕ) → k < length xs → y ≡ f (slice_index_or xs k d) → map f (take k xs) ++ y ∷ [] ≡ map f (take (k + 1) xs)
    by [] k h e = absurd (omega (arith, h))
    by (z ∷ zs) zero h e = λ i. e i ∷ []
    by (z ∷ zs) (suc k) h e = let q : suc k + 1 ≡ suc (k + 1) = omega arith in ap (λ t. f z ∷ t) (by zs k (omega (arith, h)) e) ∙ ap (λ n. map f (take n (z ∷ zs))) (sym q)

pub all_mapped : {X Y : Type 0} (f : X → Y) (xs : List X) (ys : List Y) (k : ℕ) → length xs ≤ k → ys ≡ map f (take k xs) → ys ≡ map f xs
all_mapped f xs ys k h e = e ∙ ap (map f) (take_all k xs h)

pub number_more : (B : List BodyData) (k n : ℕ) (numbers : List ℕ) → ((d : BodyData) → n ≡ key_at (slice_index_or B k d) * 2 ^ 20 + k) → k < length B → numbers ≡ placed 0 (take k B) → numbers ++ n ∷ [] ≡ placed 0 (take (k + 1) B)
number_more B k n numbers e h u = let z : k ≡ 0 + k = omega arith in ap (λ t. t ++ n ∷ []) u ∙ sym (placed_more 0 B k n (λ d. e d ∙ ap (λ t. key_at (slice_index_or B k d) * 2 ^ 20 + t) z) h)
