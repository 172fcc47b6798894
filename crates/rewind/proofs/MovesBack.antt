-- A coordinate before a drift, as the code computes it.
use Rattle.std.proofs.Common.{◌≡◌, ℕ, ℤ, pos, negsuc, ◌+◌, ◌-ℤ◌, ◌*ℤ◌, ◌<◌, ◌≤◌, ◌<ℤ◌, ◌^◌, ◌/◌, rules, arith, FitsSigned, to_z, of_z, w64, unsigned_abs, lit<, ap, ◌∙◌}
use Rattle.std.specs.Int.{w128, int_div_euclid, int_rem_euclid}
use Rattle.std.proofs.lemmas.Int.{ints, to_z-of_z, unsigned_abs-mul}
use Rattle.std.proofs.lemmas.Nat.{mul-le, mod_below, div-add-mod'}

plain : (w z : ℤ) → FitsSigned w128 z → w ≡ z → to_z w128 (of_z w128 w) ≡ z
plain w z f e = ap (λ t. to_z w128 (of_z w128 t)) e ∙ to_z-of_z w128 z f

-- the product of a momentum and a number of ticks
way_high : (ticks : ℕ) (p : ℤ) → ticks ≤ 2 ^ 20 → FitsSigned w64 p → unsigned_abs (pos ticks *ℤ p) ≤ 2 ^ 83
way_high ticks p t f = omega (arith, mul-le ticks (unsigned_abs p) (2 ^ 20) (2 ^ 63) t (omega (arith, ints)), unsigned_abs-mul (pos ticks) p)

quotient_high : (a b n : ℕ) → 0 < b → a ≤ n → a / b ≤ n
quotient_high a b n some h = omega (arith, mul-le (a / b) 1 (a / b) b (omega arith) some, div-add-mod' a b, h)

floor_high : (a b : ℤ) (n : ℕ) → pos 0 <ℤ b → unsigned_abs a ≤ n → unsigned_abs (int_div_euclid a b) ≤ n + 1
floor_high (pos a) (pos b) n some h = omega (arith, quotient_high a b n (omega (arith, ints)) h)
floor_high (negsuc a) (pos b) n some h = omega (arith, ints, quotient_high a b n (omega (arith, ints)) (omega (arith, h)))
floor_high a (negsuc b) n some h = absurd (omega (arith, ints))

rest_high : (a : ℤ) → unsigned_abs (int_rem_euclid a (pos (2 ^ 32))) < 2 ^ 32
rest_high (pos a) = mod_below a (2 ^ 32) (omega arith)
rest_high (negsuc a) = omega (arith, mod_below a (2 ^ 32) (omega arith))

small : (z : ℤ) (n : ℕ) → unsigned_abs z ≤ n → n < 2 ^ 127 → FitsSigned w128 z
small z n h k = search (rules, ints)

pub moved_back_is : (x ticks : ℕ) (p scaled a b e way res : ℤ) → x < 2 ^ 32 → ticks ≤ 2 ^ 20 → FitsSigned w64 p → FitsSigned w128 scaled → pos 0 <ℤ scaled → a ≡ pos ticks → b ≡ to_z w64 (of_z w64 p) → e ≡ pos x →
    way ≡ int_div_euclid (to_z w128 (of_z w128 (to_z w128 (of_z w128 a) *ℤ to_z w128 (of_z w128 b)))) (to_z w128 (of_z w128 scaled)) →
    res ≡ int_rem_euclid (to_z w128 (of_z w128 (to_z w128 (of_z w128 e) -ℤ to_z w128 (of_z w128 way)))) (pos (2 ^ 32)) →
    unsigned_abs (to_z w128 (of_z w128 res)) ≡ unsigned_abs (int_rem_euclid (pos x -ℤ int_div_euclid (pos ticks *ℤ p) scaled) (pos (2 ^ 32)))
moved_back_is x ticks p scaled a b e way res hx ht fp fs some ea eb ee ew er =
    let high : unsigned_abs (pos ticks *ℤ p) ≤ 2 ^ 83 = way_high ticks p ht fp in
    let pfits : FitsSigned w128 p = small p (2 ^ 63) (omega (arith, ints)) (lit< tt) in
    let ticking : to_z w128 (of_z w128 a) ≡ pos ticks = plain a (pos ticks) (small (pos ticks) (2 ^ 20) ht (lit< tt)) ea in
    let bs : to_z w128 (of_z w128 b) ≡ p = plain b p pfits (eb ∙ to_z-of_z w64 p fp) in
    let product : to_z w128 (of_z w128 (to_z w128 (of_z w128 a) *ℤ to_z w128 (of_z w128 b))) ≡ pos ticks *ℤ p =
    plain (to_z w128 (of_z w128 a) *ℤ to_z w128 (of_z w128 b)) (pos ticks *ℤ p) (small (pos ticks *ℤ p) (2 ^ 83) high (lit< tt)) (λ i. ticking i *ℤ bs i) in
    let quotient : way ≡ int_div_euclid (pos ticks *ℤ p) scaled = ew ∙ (λ i. int_div_euclid (product i) (to_z-of_z w128 scaled fs i)) in
    let floor : unsigned_abs (int_div_euclid (pos ticks *ℤ p) scaled) ≤ 2 ^ 83 + 1 = floor_high (pos ticks *ℤ p) scaled (2 ^ 83) some high in
    let ways : to_z w128 (of_z w128 way) ≡ int_div_euclid (pos ticks *ℤ p) scaled = plain way (int_div_euclid (pos ticks *ℤ p) scaled) (small _ (2 ^ 83 + 1) floor (lit< tt)) quotient in
    let xs : to_z w128 (of_z w128 e) ≡ pos x = plain e (pos x) (small (pos x) (2 ^ 32) (omega arith) (lit< tt)) ee in
    let sum : to_z w128 (of_z w128 (to_z w128 (of_z w128 e) -ℤ to_z w128 (of_z w128 way))) ≡ pos x -ℤ int_div_euclid (pos ticks *ℤ p) scaled =
    plain (to_z w128 (of_z w128 e) -ℤ to_z w128 (of_z w128 way)) (pos x -ℤ int_div_euclid (pos ticks *ℤ p) scaled) (sum_small x (int_div_euclid (pos ticks *ℤ p) scaled) hx floor) (λ i. xs i -ℤ ways i) in
    let rest : res ≡ int_rem_euclid (pos x -ℤ int_div_euclid (pos ticks *ℤ p) scaled) (pos (2 ^ 32)) = er ∙ (λ i. int_rem_euclid (sum i) (pos (2 ^ 32))) in
    ap unsigned_abs (plain res (int_rem_euclid (pos x -ℤ int_div_euclid (pos ticks *ℤ p) scaled) (pos (2 ^ 32))) (small _ (2 ^ 32) (omega (arith, rest_high (pos x -ℤ int_div_euclid (pos ticks *ℤ p) scaled))) (lit< tt)) rest)
  where
    sum_small : (x : ℕ) (z : ℤ) → x < 2 ^ 32 → unsigned_abs z ≤ 2 ^ 83 + 1 → FitsSigned w128 (pos x -ℤ z)
    sum_small x z h k = small (pos x -ℤ z) (2 ^ 84) (omega (arith, ints)) (lit< tt)
