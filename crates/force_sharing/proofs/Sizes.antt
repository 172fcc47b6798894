-- How much rounding down leaves, and how large a share is.
use Rattle.std.proofs.Common.{◌≡◌, ℕ, ◌+◌, ◌-◌, ◌*◌, ◌/◌, ◌%◌, ◌<◌, ◌≤◌, ◌^◌, List, [], ◌∷◌, length, sum_by, get_or, ap, sym, ◌∙◌, arith, All}
use Rattle.std.proofs.lemmas.List.Sums.{sum_by-cons, get_or-le-sum_by}
use Rattle.std.proofs.lemmas.Nat.{div-add-mod', mod_below, mul-le}
use Rattle.model_laws.proofs.Shares.{bounds}
use Rattle.force_sharing.specs.Sharing.{Member}

-- s times each mass, added up
times_all : (s : ℕ) (ms : List Member) → sum_by (λ m. s * m.1) ms ≡ s * sum_by (λ m. m.1) ms
times_all s [] = omega arith
times_all s (m ∷ ms) = omega (arith, sum_by-cons (λ m. s * m.1) m ms, ap (λ t. s * t) (sum_by-cons (λ m. m.1) m ms), times_all s ms)

parts_all : (s all : ℕ) (ms : List Member) → sum_by (λ m. s * m.1) ms ≡ all * sum_by (λ m. s * m.1 / all) ms + sum_by (λ m. s * m.1 % all) ms
parts_all s all [] = omega arith
parts_all s all (m ∷ ms) = omega (arith, sum_by-cons (λ m. s * m.1) m ms, ap (λ t. all * t) (sum_by-cons (λ m. s * m.1 / all) m ms), sum_by-cons (λ m. s * m.1 % all) m ms, parts_all s all ms, div-add-mod' (s * m.1) all)

rests_all : (s all : ℕ) (ms : List Member) → 0 < all → sum_by (λ m. s * m.1 % all) ms ≤ length ms * all
rests_all s all [] h = omega arith
rests_all s all (m ∷ ms) h = omega (arith, sum_by-cons (λ m. s * m.1 % all) m ms, rests_all s all ms h, mod_below (s * m.1) all h)

-- the parts, rounded down, are at most s, and leave at most 1 for each member
pub left_bounds : (s all : ℕ) (ms : List Member) → 0 < all → all ≡ sum_by (λ m. m.1) ms → (sum_by (λ m. s * m.1 / all) ms ≤ s) × (s - sum_by (λ m. s * m.1 / all) ms ≤ length ms)
left_bounds s all ms h e =
    bounds s all (sum_by (λ m. s * m.1 / all) ms) (sum_by (λ m. s * m.1 % all) ms) (length ms) h
    (ap (λ t. s * t) e ∙ sym (times_all s ms) ∙ parts_all s all ms)
    (rests_all s all ms h)

-- members have mass
pub some_mass : (ms : List Member) → 1 ≤ length ms → All (λ m. 1 ≤ m.1) ms → 0 < sum_by (λ m. m.1) ms
some_mass [] n h = absurd (omega (arith, n))
some_mass (m ∷ ms) n h = let u : 1 ≤ m.1 = h 0 (0, 0) (omega arith) in omega (arith, sum_by-cons (λ m. m.1) m ms)

-- a member's mass is part of all
pub one_of : (ms : List Member) (k : ℕ) → k < length ms → (get_or ms k (0, 0)).1 ≤ sum_by (λ m. m.1) ms
one_of ms k h = get_or-le-sum_by (λ m. m.1) ms k (0, 0) h

pub product_small : (q m all : ℕ) → m ≤ all → q * all < 2 ^ 114 → q * m < 2 ^ 114
product_small q m all h k = let u : q * m ≤ q * all = mul-le q m q all (omega arith) h in omega (arith, k)
