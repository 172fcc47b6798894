-- Two steps of the curve at once: the tables by computation, and that such steps are the curve's.
use Rattle.std.proofs.Common.{◌≡◌, ℕ, ◌+◌, ◌-◌, ◌*◌, ◌/◌, ◌%◌, ◌^◌, ◌<◌, ◌≤◌, Bool, true, eqb, refl, ap, sym, ◌∙◌, subst, arith, slice_index, slice_index_or}
use Rattle.std.proofs.lemmas.Bool.{eqb-true}
use Rattle.std.proofs.lemmas.Nat.{pow-add}
use Rattle.std.proofs.Math.Nat.{div-div-eq-div-mul}
use Rattle.cell_space.specs.Cells.{Position, bit_of, digit}
use Rattle.hilbert_keys.specs.Steps.{steps, spread, two_steps, upper_child, lower_child, byte_at, eight_levels, IsAt}
use Rattle.hilbert_keys.proofs.Stepped.{next_at, known_next}
use Rattle.hilbert_keys.proofs.Tables.{entries, spreads}
use Rattle.hilbert_keys.proofs.Turns.{all_under, under}
use Rattle.hilbert_keys.proofs.Widths.{powers}

abbrev is_entry : ℕ → ℕ → Bool
is_entry n i = eqb (slice_index_or entries (n * 64 + i) 0) (two_steps n i)

all_entries : all_under (λ n. all_under (is_entry n) 64) 24 ≡ true
unfolding entries steps two_steps
all_entries = refl

pub entry_at : (n i : ℕ) → n < 24 → i < 64 → slice_index_or entries (n * 64 + i) 0 ≡ two_steps n i
entry_at n i h l = eqb-true (slice_index_or entries (n * 64 + i) 0) (two_steps n i) (under (is_entry n) 64 (under (λ n. all_under (is_entry n) 64) 24 all_entries n h) i l)

abbrev is_spread : ℕ → Bool
is_spread n = eqb (slice_index_or spreads n 0) (spread n)

all_spreads : all_under is_spread 256 ≡ true
unfolding spreads
all_spreads = refl

pub spread_at : (n : ℕ) → n < 256 → slice_index_or spreads n 0 ≡ spread n
spread_at n h = eqb-true (slice_index_or spreads n 0) (spread n) (under is_spread 256 all_spreads n h)

-- the entry's parts
abbrev first : ℕ → ℕ → ℕ
first turn bits = slice_index steps (turn * 8 + upper_child bits)

abbrev second : ℕ → ℕ → ℕ
second turn bits = slice_index steps (first turn bits / 8 * 8 + lower_child bits)

places : (turn bits : ℕ) → two_steps turn bits % 64 ≡ first turn bits % 8 * 8 + second turn bits % 8
unfolding two_steps
places turn bits = omega arith

turns : (turn bits : ℕ) → two_steps turn bits / 64 ≡ second turn bits / 8
unfolding two_steps
turns turn bits = omega arith

pub known_after : (turn bits : ℕ) → turn < 24 → bits < 64 → two_steps turn bits / 64 < 24
known_after turn bits h l =
    let a : first turn bits / 8 < 24 = known_next turn (upper_child bits) h (omega (arith, l)) in
    let b : second turn bits / 8 < 24 = known_next (first turn bits / 8) (lower_child bits) a (omega (arith, l)) in
    omega (arith, turns turn bits, b)

record AreBits (p : Position) (l bits : ℕ) : Type 0 where
  upper : upper_child bits ≡ digit p l
  lower : lower_child bits ≡ digit p (l + 1)

two_on : (l : ℕ) (p : Position) (n turn bits : ℕ) → IsAt l p n turn → AreBits p l bits → IsAt (l + 2) p (n * 64 + two_steps turn bits % 64) (two_steps turn bits / 64)
two_on l p n turn bits i b =
    let a : IsAt (l + 1) p (n * 8 + first turn bits % 8) (first turn bits / 8) = next_at l p n turn (upper_child bits) i b.upper in
    let c : IsAt (l + 1 + 1) p ((n * 8 + first turn bits % 8) * 8 + second turn bits % 8) (second turn bits / 8) = next_at (l + 1) p (n * 8 + first turn bits % 8) (first turn bits / 8) (lower_child bits) a b.lower in
    let e : (n * 8 + first turn bits % 8) * 8 + second turn bits % 8 ≡ n * 64 + two_steps turn bits % 64 = omega (arith, places turn bits) in
    let f : l + 1 + 1 ≡ l + 2 = omega arith in
    subst (λ t. IsAt t p (n * 64 + two_steps turn bits % 64) (two_steps turn bits / 64)) f
    (subst (λ t. IsAt (l + 1 + 1) p t (two_steps turn bits / 64)) e
    (subst (λ t. IsAt (l + 1 + 1) p ((n * 8 + first turn bits % 8) * 8 + second turn bits % 8) t) (sym (turns turn bits)) c))

-- the bits of a byte are those of its coordinate
bit_in : (n l j : ℕ) → l ≤ 24 → j < 8 → bit_of n (l + j) ≡ n / 2 ^ (24 - l) / 2 ^ (7 - j) % 2
bit_in n l j h k =
    let e : 31 - (l + j) ≡ (24 - l) + (7 - j) = omega (arith, h, k) in
    ap (λ t. n / 2 ^ t % 2) e ∙ ap (λ t. n / t % 2) (pow-add 2 (24 - l) (7 - j)) ∙ ap (λ t. t % 2) (sym (div-div-eq-div-mul n (2 ^ (24 - l)) (2 ^ (7 - j))))

-- the two bits of a coordinate at a level and the next
abbrev two_bits : ℕ → ℕ → ℕ
two_bits n l = 2 * bit_of n l + bit_of n (l + 1)

record AreParts (n l : ℕ) : Type 0 where
  first : byte_at n l / 64 ≡ two_bits n l
  second : byte_at n l / 16 % 4 ≡ two_bits n (l + 2)
  third : byte_at n l / 4 % 4 ≡ two_bits n (l + 4)
  fourth : byte_at n l % 4 ≡ two_bits n (l + 6)

bit_next : (n l j : ℕ) → bit_of n (l + j + 1) ≡ bit_of n (l + (j + 1))
bit_next n l j = let e : l + j + 1 ≡ l + (j + 1) = omega arith in ap (λ t. bit_of n t) e

parts_of : (n l : ℕ) → l ≤ 24 → AreParts n l
parts_of n l h =
    let q : ℕ = n / 2 ^ (24 - l) in
    let z : l + 0 ≡ l = omega arith in
    let a : bit_of n l ≡ q / 128 % 2 = ap (λ t. bit_of n t) (sym z) ∙ bit_in n l 0 h (omega arith) in
    let b : bit_of n (l + 1) ≡ q / 64 % 2 = bit_in n l 1 h (omega arith) in
    let c : bit_of n (l + 2) ≡ q / 32 % 2 = bit_in n l 2 h (omega arith) in
    let d : bit_of n (l + 2 + 1) ≡ q / 16 % 2 = bit_next n l 2 ∙ bit_in n l 3 h (omega arith) in
    let e : bit_of n (l + 4) ≡ q / 8 % 2 = bit_in n l 4 h (omega arith) in
    let f : bit_of n (l + 4 + 1) ≡ q / 4 % 2 = bit_next n l 4 ∙ bit_in n l 5 h (omega arith) in
    let g : bit_of n (l + 6) ≡ q / 2 % 2 = bit_in n l 6 h (omega arith) in
    let k : bit_of n (l + 6 + 1) ≡ q % 2 = bit_next n l 6 ∙ bit_in n l 7 h (omega arith) ∙ omega arith in
    record {
      first = omega (arith, a, b);
      second = omega (arith, c, d);
      third = omega (arith, e, f);
      fourth = omega (arith, g, k);
    }

-- two bits of each coordinate
abbrev joined : ℕ → ℕ → ℕ → ℕ
joined z y x = 16 * z + (4 * y + x)

bits_at : (p : Position) (l bits : ℕ) → bits ≡ joined (two_bits p.z l) (two_bits p.y l) (two_bits p.x l) → AreBits p l bits
unfolding digit
bits_at p l bits e = record { upper = omega (arith, e); lower = omega (arith, e) }

record AreJoined (z y x : ℕ) : Type 0 where
  first : joined (spread z) (spread y) (spread x) / 262144 ≡ joined (z / 64) (y / 64) (x / 64)
  second : joined (spread z) (spread y) (spread x) / 4096 % 64 ≡ joined (z / 16 % 4) (y / 16 % 4) (x / 16 % 4)
  third : joined (spread z) (spread y) (spread x) / 64 % 64 ≡ joined (z / 4 % 4) (y / 4 % 4) (x / 4 % 4)
  fourth : joined (spread z) (spread y) (spread x) % 64 ≡ joined (z % 4) (y % 4) (x % 4)

-- sums of numbers below 64 that stand apart
apart : (n a b c d : ℕ) → n ≡ a * 262144 + (b * 4096 + (c * 64 + d)) → a < 64 → b < 64 → c < 64 → d < 64 → (n / 262144 ≡ a) × (n / 4096 % 64 ≡ b) × (n / 64 % 64 ≡ c) × (n % 64 ≡ d)
apart n a b c d e f g h i = (omega (arith, e, f, g, h, i), omega (arith, e, f, g, h, i), omega (arith, e, f, g, h, i), omega (arith, e, f, g, h, i))

four_below : (z y x : ℕ) → z < 4 → y < 4 → x < 4 → joined z y x < 64
four_below z y x a b c = omega (arith, a, b, c)

joined_apart : (z y x : ℕ) → joined (spread z) (spread y) (spread x) ≡ joined (z / 64) (y / 64) (x / 64) * 262144 + (joined (z / 16 % 4) (y / 16 % 4) (x / 16 % 4) * 4096 + (joined (z / 4 % 4) (y / 4 % 4) (x / 4 % 4) * 64 + joined (z % 4) (y % 4) (x % 4)))
joined_apart z y x = omega arith

are_joined : (z y x : ℕ) → z < 256 → y < 256 → x < 256 → AreJoined z y x
are_joined z y x a b c =
    let p = apart (joined (spread z) (spread y) (spread x)) (joined (z / 64) (y / 64) (x / 64)) (joined (z / 16 % 4) (y / 16 % 4) (x / 16 % 4)) (joined (z / 4 % 4) (y / 4 % 4) (x / 4 % 4)) (joined (z % 4) (y % 4) (x % 4)) (joined_apart z y x)
    (four_below (z / 64) (y / 64) (x / 64) (omega (arith, a)) (omega (arith, b)) (omega (arith, c)))
    (four_below (z / 16 % 4) (y / 16 % 4) (x / 16 % 4) (omega arith) (omega arith) (omega arith))
    (four_below (z / 4 % 4) (y / 4 % 4) (x / 4 % 4) (omega arith) (omega arith) (omega arith))
    (four_below (z % 4) (y % 4) (x % 4) (omega arith) (omega arith) (omega arith)) in
    record { first = p.0; second = p.1; third = p.2; fourth = p.3 }

eight_joined : (p : Position) (l : ℕ) → AreJoined (byte_at p.z l) (byte_at p.y l) (byte_at p.x l)
eight_joined p l = are_joined (byte_at p.z l) (byte_at p.y l) (byte_at p.x l) (omega arith) (omega arith) (omega arith)

pub eight_on : (l : ℕ) (p : Position) (n turn bits a b c d : ℕ) → l ≤ 24 → IsAt l p n turn → bits ≡ eight_levels p l → a ≡ two_steps turn (bits / 262144) → b ≡ two_steps (a / 64) (bits / 4096 % 64) → c ≡ two_steps (b / 64) (bits / 64 % 64) → d ≡ two_steps (c / 64) (bits % 64) → IsAt (l + 8) p (n * 16777216 + ((a % 64 * 64 + b % 64) * 4096 + (c % 64 * 64 + d % 64))) (d / 64)
eight_on l p n turn bits a b c d h i e u v w x =
    let j : AreJoined (byte_at p.z l) (byte_at p.y l) (byte_at p.x l) = eight_joined p l in
    let pz : AreParts p.z l = parts_of p.z l h in
    let py : AreParts p.y l = parts_of p.y l h in
    let px : AreParts p.x l = parts_of p.x l h in
    let ba : AreBits p l (bits / 262144) = bits_at p l (bits / 262144) (omega (arith, e, j.first, pz.first, py.first, px.first)) in
    let bb : AreBits p (l + 2) (bits / 4096 % 64) = bits_at p (l + 2) (bits / 4096 % 64) (omega (arith, e, j.second, pz.second, py.second, px.second)) in
    let bc : AreBits p (l + 4) (bits / 64 % 64) = bits_at p (l + 4) (bits / 64 % 64) (omega (arith, e, j.third, pz.third, py.third, px.third)) in
    let bd : AreBits p (l + 6) (bits % 64) = bits_at p (l + 6) (bits % 64) (omega (arith, e, j.fourth, pz.fourth, py.fourth, px.fourth)) in
    let na : ℕ = n * 64 + a % 64 in
    let nb : ℕ = na * 64 + b % 64 in
    let nc : ℕ = nb * 64 + c % 64 in
    let nd : ℕ = nc * 64 + d % 64 in
    let ia : IsAt (l + 2) p na (a / 64) = subst (λ t. IsAt (l + 2) p (n * 64 + t % 64) (t / 64)) (sym u) (two_on l p n turn (bits / 262144) i ba) in
    let ib : IsAt (l + 2 + 2) p nb (b / 64) = subst (λ t. IsAt (l + 2 + 2) p (na * 64 + t % 64) (t / 64)) (sym v) (two_on (l + 2) p na (a / 64) (bits / 4096 % 64) ia bb) in
    let fb : l + 2 + 2 ≡ l + 4 = omega arith in
    let ic : IsAt (l + 4 + 2) p nc (c / 64) = subst (λ t. IsAt (l + 4 + 2) p (nb * 64 + t % 64) (t / 64)) (sym w) (two_on (l + 4) p nb (b / 64) (bits / 64 % 64) (subst (λ t. IsAt t p nb (b / 64)) fb ib) bc) in
    let fc : l + 4 + 2 ≡ l + 6 = omega arith in
    let id : IsAt (l + 6 + 2) p nd (d / 64) = subst (λ t. IsAt (l + 6 + 2) p (nc * 64 + t % 64) (t / 64)) (sym x) (two_on (l + 6) p nc (c / 64) (bits % 64) (subst (λ t. IsAt t p nc (c / 64)) fc ic) bd) in
    let fd : l + 6 + 2 ≡ l + 8 = omega arith in
    let g : nd ≡ n * 16777216 + ((a % 64 * 64 + b % 64) * 4096 + (c % 64 * 64 + d % 64)) = omega arith in
    subst (λ t. IsAt (l + 8) p t (d / 64)) g (subst (λ t. IsAt t p nd (d / 64)) fd id)

-- so there is room for eight digits more
pub fits_eight : (l : ℕ) (p : Position) (n turn : ℕ) → l ≤ 24 → IsAt l p n turn → n < 2 ^ 72
fits_eight l p n turn h i = let e : l + (24 - l) ≡ 24 = omega (arith, h) in let f : 8 ^ l ≤ 8 ^ 24 = subst (λ t. 8 ^ l ≤ 8 ^ t) e (powers l (24 - l)) in omega (arith, i.few, f)
