-- Elements of lists by their places.
use Rattle.std.proofs.Common.{◌≡◌, ℕ, zero, suc, ◌+◌, ◌<◌, ◌≤◌, Bool, true, false, cond, List, [], ◌∷◌, map, length, get_or, refl, ap, ◌∙◌, arith}
use Rattle.std.specs.List.{filter, AllByRecursion, range_with_len}

pub each-at : {X : Type 0} (P : X → Type 0) (d : X) (xs : List X) (k : ℕ) → AllByRecursion P xs → k < length xs → P (get_or xs k d)
each-at P d [] k a h = absurd (omega (arith, h))
each-at P d (x ∷ xs) zero a h = a.0
each-at P d (x ∷ xs) (suc k) a h = each-at P d xs k a.1 (omega (arith, h))

pub length_map : {X Y : Type 0} (f : X → Y) (xs : List X) → length (map f xs) ≡ length xs
length_map f [] = refl
length_map f (x ∷ xs) = ap suc (length_map f xs)

few_step : {X : Type 0} (x : X) (xs ys : List X) (b : Bool) → length ys ≤ length xs → length (cond b (x ∷ ys) ys) ≤ length (x ∷ xs)
few_step x xs ys true h = omega (arith, h)
few_step x xs ys false h = omega (arith, h)

pub filter_few : {X : Type 0} (t : X → Bool) (xs : List X) → length (filter t xs) ≤ length xs
filter_few t [] = omega arith
filter_few t (x ∷ xs) = few_step x xs (filter t xs) (t x) (filter_few t xs)

pub at_map : {X Y : Type 0} (f : X → Y) (d : X) (xs : List X) (k : ℕ) → get_or (map f xs) k (f d) ≡ f (get_or xs k d)
at_map f d [] k = refl
at_map f d (x ∷ xs) zero = refl
at_map f d (x ∷ xs) (suc k) = at_map f d xs k

pub at_map_low : {X Y : Type 0} (f : X → Y) (d : X) (e : Y) (xs : List X) (k : ℕ) → k < length xs → get_or (map f xs) k e ≡ f (get_or xs k d)
at_map_low f d e [] k h = absurd (omega (arith, h))
at_map_low f d e (x ∷ xs) zero h = refl
at_map_low f d e (x ∷ xs) (suc k) h = at_map_low f d e xs k (omega (arith, h))

pub length_range : (f n : ℕ) → length (range_with_len f n) ≡ n
length_range f zero = refl
length_range f (suc n) = ap suc (length_range (f + 1) n)

pub at_range : {Y : Type 0} (g : ℕ → Y) (e : Y) (f n k : ℕ) → k < n → get_or (map g (range_with_len f n)) k e ≡ g (f + k)
at_range g e f zero k h = absurd (omega (arith, h))
at_range g e f (suc n) zero h = ap g (omega arith)
at_range g e f (suc n) (suc k) h = at_range g e (f + 1) n k (omega (arith, h)) ∙ ap g (omega arith)

-- what stands from a place on
pub range_is : {Y : Type 0} (g : ℕ → Y) (e : Y) (n : ℕ) (ys : List Y) → ((k : ℕ) → k < length ys → g (n + k) ≡ get_or ys k e) → map g (range_with_len n (length ys)) ≡ ys
range_is g e n [] h = refl
range_is g e n (y ∷ ys) h =
    let first : g n ≡ y = ap g (let s : n ≡ n + 0 = omega arith in s) ∙ h 0 (omega arith) in
    let rest : map g (range_with_len (n + 1) (length ys)) ≡ ys = range_is g e (n + 1) ys (λ k l. ap g (let s : n + 1 + k ≡ n + suc k = omega arith in s) ∙ h (suc k) (omega (arith, l))) in
    λ i. first i ∷ rest i

-- the same function on a range
pub range_same : {Y : Type 0} (g h : ℕ → Y) (f n : ℕ) → ((k : ℕ) → f ≤ k → k < f + n → g k ≡ h k) → map g (range_with_len f n) ≡ map h (range_with_len f n)
range_same g h f zero e = refl
range_same g h f (suc n) e =
    let first : g f ≡ h f = e f (omega arith) (omega arith) in
    let rest : map g (range_with_len (f + 1) n) ≡ map h (range_with_len (f + 1) n) = range_same g h (f + 1) n (λ k a b. e k (omega (arith, a)) (omega (arith, b))) in
    λ i. first i ∷ rest i
