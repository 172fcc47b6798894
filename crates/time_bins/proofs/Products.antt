-- How large the allowance of a body can be, and how it is compared.
use Rattle.std.proofs.Common.{◌≡◌, ℕ, ◌-◌, ◌*◌, ◌/◌, ◌<◌, ◌≤◌, ◌^◌, arith, min, nat_le, sym, ◌∙◌, ap}
use Rattle.std.proofs.lemmas.Nat.{mul-le, le-div, pow_pos, pow-add, mul-pow, div-add-mod'}
use Rattle.std.proofs.lemmas.Bool.Decides.{nat_tests}

pub allowance_high : (eta eps mass scale : ℕ) → eta ≤ 2 ^ 16 → eps ≤ 2 ^ 30 → mass < 2 ^ 32 → scale ≤ 2 ^ 40 → 2 * eta * eps * mass * scale < 2 ^ 120
allowance_high eta eps mass scale h k m s =
    let first = mul-le (2 * eta) eps (2 ^ 17) (2 ^ 30) (omega arith) k in
    let second = mul-le (2 * eta * eps) mass (2 ^ 47) (2 ^ 32 - 1) (omega (arith, first)) (omega arith) in
    omega (arith, mul-le (2 * eta * eps * mass) scale (2 ^ 47 * (2 ^ 32 - 1)) (2 ^ 40) (omega (arith, second)) s)

test_by : (a b c d : ℕ) → (a ≤ b → c ≤ d) → (c ≤ d → a ≤ b) → nat_le a b ≡ nat_le c d
test_by a b c d to from = grind (arith, nat_tests)

four_power : (bin : ℕ) → 4 ^ bin ≡ 2 ^ (2 * bin)
four_power bin = mul-pow 2 2 bin ∙ sym (pow-add 2 bin bin) ∙ ap (λ k. 2 ^ k) (omega arith)

quotient_test : (n most d : ℕ) → 0 < d → nat_le n (most / d) ≡ nat_le (n * d) most
quotient_test n most d some =
    test_by n (most / d) (n * d) most
    (λ h. omega (arith, mul-le n d (most / d) d h (omega arith), div-add-mod' most d))
    (λ h. le-div n most d some h)

pub shifted_test : (n most bin shift : ℕ) → shift ≡ bin → nat_le n (most / 2 ^ (2 * shift)) ≡ nat_le (n * 4 ^ bin) most
shifted_test n most bin shift e = rw (e, four_power bin) (quotient_test n most (2 ^ (2 * bin)) (pow_pos (2 * bin)))

-- a size that was cut at the greatest number is as large as no allowance
pub cut_test : (size most bin : ℕ) → most < 2 ^ 104 → nat_le (min size (2 ^ 128 - 1) * 4 ^ bin) most ≡ nat_le (size * 4 ^ bin) most
cut_test size most bin small =
    let some : 1 ≤ 4 ^ bin = rw (four_power bin) (pow_pos (2 * bin)) in
    test_by (min size (2 ^ 128 - 1) * 4 ^ bin) most (size * 4 ^ bin) most
    (λ h. let low : min size (2 ^ 128 - 1) ≤ most = omega (arith, mul-le (min size (2 ^ 128 - 1)) 1 (min size (2 ^ 128 - 1)) (4 ^ bin) (omega arith) some, h) in
    let same : min size (2 ^ 128 - 1) ≡ size = omega (arith, low, small) in
    rw (same) at h)
    (λ h. let low : size ≤ most = omega (arith, mul-le size 1 size (4 ^ bin) (omega arith) some, h) in
    let same : min size (2 ^ 128 - 1) ≡ size = omega (arith, low, small) in
    rw same h)
