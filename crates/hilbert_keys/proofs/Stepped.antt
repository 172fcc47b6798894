-- The table's steps are those of the curve.
use Rattle.std.proofs.Common.{◌≡◌, ℕ, suc, ◌+◌, ◌*◌, ◌/◌, ◌%◌, ◌^◌, ◌<◌, Bool, true, eqb, ltb, ◌&&◌, refl, ◌∙◌, subst, arith, slice_index}
use Rattle.std.proofs.lemmas.Bool.{and_parts, eqb-true, ltb-true}
use Rattle.cell_space.specs.Cells.{Position, digit}
use Rattle.cell_space.proofs.Cells.{digit_below}
use Rattle.hilbert_keys.specs.Curve.{Turn, place_of, next_turn, along, key}
use Rattle.hilbert_keys.specs.Steps.{steps, turn_numbered, IsAt}
use Rattle.hilbert_keys.proofs.Turns.{all_under, under}

-- the entry for a turn and a child is right
abbrev right : ℕ → ℕ → Bool
right n k = eqb (slice_index steps (n * 8 + k) % 8) (place_of (turn_numbered n) k)
    && (eqb (slice_index steps (n * 8 + k) / 8 / 3) (next_turn (turn_numbered n) (place_of (turn_numbered n) k)).corner
    && (eqb (slice_index steps (n * 8 + k) / 8 % 3) (next_turn (turn_numbered n) (place_of (turn_numbered n) k)).axis
    && ltb (slice_index steps (n * 8 + k) / 8) 24))

all_right : all_under (λ n. all_under (right n) 8) 24 ≡ true
unfolding place_of next_turn steps
all_right = refl

record IsRight (n k : ℕ) : Type 0 where
  place : slice_index steps (n * 8 + k) % 8 ≡ place_of (turn_numbered n) k
  next : turn_numbered (slice_index steps (n * 8 + k) / 8) ≡ next_turn (turn_numbered n) (place_of (turn_numbered n) k)
  known : slice_index steps (n * 8 + k) / 8 < 24

is_right : (n k : ℕ) → n < 24 → k < 8 → IsRight n k
is_right n k h l =
    let e : right n k ≡ true = under (right n) 8 (under (λ n. all_under (right n) 8) 24 all_right n h) k l in
    let v : ℕ = slice_index steps (n * 8 + k) in
    let t : Turn = next_turn (turn_numbered n) (place_of (turn_numbered n) k) in
    let a = and_parts (eqb (v % 8) (place_of (turn_numbered n) k)) (eqb (v / 8 / 3) t.corner && (eqb (v / 8 % 3) t.axis && ltb (v / 8) 24)) e in
    let b = and_parts (eqb (v / 8 / 3) t.corner) (eqb (v / 8 % 3) t.axis && ltb (v / 8) 24) a.1 in
    let c = and_parts (eqb (v / 8 % 3) t.axis) (ltb (v / 8) 24) b.1 in
    let x : v / 8 / 3 ≡ t.corner = eqb-true (v / 8 / 3) t.corner b.0 in
    let y : v / 8 % 3 ≡ t.axis = eqb-true (v / 8 % 3) t.axis c.0 in
    record { place = eqb-true (v % 8) (place_of (turn_numbered n) k) a.0; next = λ i. record { corner = x i; axis = y i }; known = ltb-true (v / 8) 24 c.1 }

next_along : (l : ℕ) (p : Position) (n turn k : ℕ) → n ≡ (along l p).number → turn_numbered turn ≡ (along l p).turn → turn < 24 → k ≡ digit p l → n < 8 ^ l → IsAt (suc l) p (n * 8 + slice_index steps (turn * 8 + k) % 8) (slice_index steps (turn * 8 + k) / 8)
unfolding along
next_along l p n turn k a b c d f =
    let r : IsRight turn k = is_right turn k c (omega (arith, d, digit_below p l)) in
    let w : slice_index steps (turn * 8 + k) % 8 ≡ place_of (along l p).turn (digit p l) = r.place ∙ (λ i. place_of (b i) (d i)) in
    let m : slice_index steps (turn * 8 + k) % 8 < 8 = omega arith in
    let g : 8 ^ suc l ≡ 8 * 8 ^ l = omega arith in
    record {
      counted = omega (arith, a, w);
      lies = r.next ∙ (λ i. next_turn (b i) (place_of (b i) (d i)));
      known = r.known;
      few = omega (arith, m, g, f);
    }

pub next_at : (l : ℕ) (p : Position) (n turn k : ℕ) → IsAt l p n turn → k ≡ digit p l → IsAt (l + 1) p (n * 8 + slice_index steps (turn * 8 + k) % 8) (slice_index steps (turn * 8 + k) / 8)
next_at l p n turn k i d = let e : suc l ≡ l + 1 = omega arith in subst (λ t. IsAt t p (n * 8 + slice_index steps (turn * 8 + k) % 8) (slice_index steps (turn * 8 + k) / 8)) e (next_along l p n turn k i.counted i.lies i.known d i.few)

pub known_next : (n k : ℕ) → n < 24 → k < 8 → slice_index steps (n * 8 + k) / 8 < 24
known_next n k h l = (is_right n k h l).known

pub start_at : (p : Position) → IsAt 0 p 0 0
unfolding along
start_at p = record { counted = refl; lies = refl; known = omega arith; few = omega arith }

pub ends_at : (p : Position) (n turn : ℕ) → IsAt 32 p n turn → (n ≡ key p) × (n < 2 ^ 96)
ends_at p n turn i = (i.counted, omega (arith, i.few))
