-- How many keys a cell has, and where they lie.
use Rattle.std.proofs.Common.{◌≡◌, ℕ, zero, suc, ◌+◌, ◌-◌, ◌*◌, ◌/◌, ◌%◌, ◌^◌, ◌<◌, ◌≤◌, true, not, ◌&&◌, eqb, ltb, refl, ap, sym, ◌∙◌, subst, arith, ◌⊎◌, inl, inr}
use Rattle.std.proofs.lemmas.Bool.{false≢true, and_parts, and_from, eqb-true, eq-eqb, lt-ltb, le-ltb, ltb-true, cases_lt}
use Rattle.std.proofs.lemmas.Nat.{div-mul-add}
use Rattle.std.proofs.Math.Nat.{div-mul-le_self, lt-div-mul-add, div-div-eq-div-mul}
use Rattle.cell_space.proofs.Cells.{both_equal}
use Rattle.hilbert_keys.specs.Curve.{keys_in}

pub powers : (a b : ℕ) → 8 ^ a ≤ 8 ^ (a + b)
powers a zero = let e : a + 0 ≡ a = omega arith in let f : 8 ^ (a + 0) ≡ 8 ^ a = ap (λ t. 8 ^ t) e in omega (arith, f)
powers a (suc b) = let e : a + suc b ≡ suc (a + b) = omega arith in let f : 8 ^ (a + suc b) ≡ 8 * 8 ^ (a + b) = ap (λ t. 8 ^ t) e ∙ omega arith in omega (arith, f, powers a b)

pub eights : (n : ℕ) → 0 < 8 ^ n
eights zero = omega arith
eights (suc n) = let e : 8 ^ suc n ≡ 8 * 8 ^ n = omega arith in omega (arith, e, eights n)

pub twos : (n : ℕ) → 2 ^ (3 * n) ≡ 8 ^ n
twos zero = refl
twos (suc n) = let e : 3 * suc n ≡ suc (suc (suc (3 * n))) = omega arith in let f : 2 ^ (3 * suc n) ≡ 8 * 2 ^ (3 * n) = ap (λ t. 2 ^ t) e ∙ omega arith in let g : 8 ^ suc n ≡ 8 * 8 ^ n = omega arith in f ∙ ap (λ t. 8 * t) (twos n) ∙ sym g

pub some_keys : (l : ℕ) → 0 < keys_in l
some_keys l = eights (32 - l)

-- the number of keys as the code shifts it
pub width_at : (l : ℕ) → l ≤ 32 → 1 * 2 ^ (3 * (32 - l)) % 340282366920938463463374607431768211456 ≡ keys_in l
width_at l h =
    let e : (32 - l) + l ≡ 32 = omega (arith, h) in
    let f : 8 ^ (32 - l) ≤ 8 ^ 32 = subst (λ t. 8 ^ (32 - l) ≤ 8 ^ t) e (powers (32 - l) l) in
    let g : 2 ^ (3 * (32 - l)) ≡ 8 ^ (32 - l) = twos (32 - l) in
    let m : 1 * 2 ^ (3 * (32 - l)) % 340282366920938463463374607431768211456 ≡ 2 ^ (3 * (32 - l)) = omega (arith, f, g) in
    m ∙ g

-- one digit more of a key
pub next_digit : (key l w : ℕ) → l < 32 → w ≡ key / 2 ^ (3 * (31 - l)) % 8 → key / keys_in (l + 1) ≡ 8 * (key / keys_in l) + w
next_digit key l w h e =
    let s : 32 - (l + 1) ≡ 31 - l = omega arith in
    let t : 32 - l ≡ suc (31 - l) = omega (arith, h) in
    let a : key / keys_in (l + 1) ≡ key / 8 ^ (31 - l) = ap (λ n. key / 8 ^ n) s in
    let p : keys_in l ≡ 8 ^ (31 - l) * 8 = ap (λ n. 8 ^ n) t ∙ omega arith in
    let b : key / keys_in l ≡ key / 8 ^ (31 - l) / 8 = ap (λ n. key / n) p ∙ sym (div-div-eq-div-mul key (8 ^ (31 - l)) 8) in
    let c : w ≡ key / 8 ^ (31 - l) % 8 = e ∙ ap (λ n. key / n % 8) (twos (31 - l)) in
    omega (arith, a, b, c)

-- a quotient is n where the number lies in the n-th range
quotient_in : (k w n : ℕ) → 0 < w → k / w ≡ n → (n * w ≤ k) × (k < n * w + w)
quotient_in k w n p e = let a : k / w * w ≤ k = div-mul-le_self k w in let b : k < k / w * w + w = lt-div-mul-add p in let c : k / w * w ≡ n * w = ap (λ t. t * w) e in (omega (arith, a, c), omega (arith, b, c))

in_quotient : (k w n : ℕ) → n * w ≤ k → k < n * w + w → k / w ≡ n
in_quotient k w n l h = let e : n * w + (k - n * w) ≡ k = omega (arith, l) in ap (λ t. t / w) (sym e) ∙ div-mul-add n w (k - n * w) (omega (arith, l, h))

not_below : (k n : ℕ) → not (ltb k n) ≡ true → n ≤ k
not_below k n e = by (cases_lt k n)
  where
    by : (k < n) ⊎ (n ≤ k) → n ≤ k
    by (inl h) = absurd (false≢true (sym (ap not (lt-ltb k n h)) ∙ e))
    by (inr h) = h

pub quotient_is : (k w n : ℕ) → 0 < w → eqb (k / w) n ≡ (ltb k (n * w + w) && not (ltb k (n * w)))
quotient_is k w n p = both_equal (eqb (k / w) n) (ltb k (n * w + w) && not (ltb k (n * w)))
    (λ e. let q : (n * w ≤ k) × (k < n * w + w) = quotient_in k w n p (eqb-true (k / w) n e) in and_from (ltb k (n * w + w)) (not (ltb k (n * w))) (lt-ltb k (n * w + w) q.1) (ap not (le-ltb k (n * w) q.0)))
    (λ e. let u : (ltb k (n * w + w) ≡ true) × (not (ltb k (n * w)) ≡ true) = and_parts (ltb k (n * w + w)) (not (ltb k (n * w))) e in eq-eqb (k / w) n (in_quotient k w n (not_below k (n * w) u.1) (ltb-true k (n * w + w) u.0)))
