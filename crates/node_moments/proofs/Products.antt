-- How large products are.
use Rattle.std.specs.Int.{w128}
use Rattle.std.proofs.lemmas.Int.{ints, to_z_pos, to_z-of_z}
use Rattle.std.proofs.Common.{◌≡◌, ◌+◌, ap, ◌∙◌, pos, ◌-ℤ◌, to_z, of_z, FitsSigned, ◌/◌, ℕ, ◌*◌, ◌<◌, ◌≤◌, ◌^◌, arith}
use Rattle.model_laws.proofs.Centres.{quotient_high}
use Rattle.std.proofs.lemmas.Nat.{mul-le}

pub first_small : (m d : ℕ) → d < 2 ^ 32 → m * d ≤ m * 2 ^ 32
first_small m d h = mul-le m d m (2 ^ 32) (omega arith) (omega arith)

pub second_small : (m d e : ℕ) → d < 2 ^ 32 → e < 2 ^ 32 → m * (d * e) ≤ m * 2 ^ 64
second_small m d e h k = let u : d * e ≤ 2 ^ 32 * 2 ^ 32 = mul-le d e (2 ^ 32) (2 ^ 32) (omega arith) (omega arith) in mul-le m (d * e) m (2 ^ 64) (omega arith) (omega (arith, u))

pub mean_small : (first mass : ℕ) → 0 < mass → first ≤ mass * 2 ^ 32 → first / mass ≤ 2 ^ 32
mean_small first mass h k = quotient_high first mass (2 ^ 32) h k

pub weight_small : (mass n k : ℕ) → mass ≤ 2 ^ 32 → n ≤ mass * 2 ^ k → n ≤ 2 ^ 32 * 2 ^ k
weight_small mass n k h j = let u : mass * 2 ^ k ≤ 2 ^ 32 * 2 ^ k = mul-le mass (2 ^ k) (2 ^ 32) (2 ^ k) h (omega arith) in omega (arith, j, u)

pub square_small : (d e : ℕ) → d ≤ 2 ^ 32 → e ≤ 2 ^ 32 → d * e ≤ 2 ^ 64
square_small d e h k = let u : d * e ≤ 2 ^ 32 * 2 ^ 32 = mul-le d e (2 ^ 32) (2 ^ 32) h k in omega (arith, u)

pub term_small : (m n : ℕ) → m ≤ 2 ^ 32 → n ≤ 2 ^ 64 → m * n ≤ 2 ^ 96
term_small m n h k = let u : m * n ≤ 2 ^ 32 * 2 ^ 64 = mul-le m n (2 ^ 32) (2 ^ 64) h k in omega (arith, u)

-- a difference of two numbers, computed in 128 bits
pub settled : (more less : ℕ) → more ≤ 2 ^ 98 → less ≤ 2 ^ 98 → to_z w128 (of_z w128 (to_z w128 more -ℤ to_z w128 less)) ≡ pos more -ℤ pos less
settled more less h k =
    let a : to_z w128 more ≡ pos more = to_z_pos w128 more (omega (arith, h)) in
    let b : to_z w128 less ≡ pos less = to_z_pos w128 less (omega (arith, k)) in
    let f : FitsSigned w128 (pos more -ℤ pos less) = omega (arith, ints, h, k) in
    ap (λ t. to_z w128 (of_z w128 (t -ℤ to_z w128 less))) a
    ∙ ap (λ t. to_z w128 (of_z w128 (pos more -ℤ t))) b
    ∙ to_z-of_z w128 (pos more -ℤ pos less) f

pub more_small : (second mass d e : ℕ) → second ≤ 2 ^ 96 → mass ≤ 2 ^ 32 → d ≤ 2 ^ 32 → e ≤ 2 ^ 32 → second + mass * (d * e) ≤ 2 ^ 98
more_small second mass d e h k i j = let u : mass * (d * e) ≤ 2 ^ 96 = term_small mass (d * e) k (square_small d e i j) in omega (arith, h, u)

pub less_small : (d e f g : ℕ) → d ≤ 2 ^ 32 → e ≤ 2 ^ 32 → f ≤ 2 ^ 64 → g ≤ 2 ^ 64 → d * g + e * f ≤ 2 ^ 98
less_small d e f g h k i j = let u : d * g ≤ 2 ^ 96 = term_small d g h j in let v : e * f ≤ 2 ^ 96 = term_small e f k i in omega (arith, u, v)

pub corner_small : (mass c : ℕ) → mass ≤ 2 ^ 32 → c < 2 ^ 32 → mass * c ≤ 2 ^ 64
corner_small mass c h k = square_small mass c h (omega (arith, k))
