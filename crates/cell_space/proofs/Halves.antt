-- On one axis, the corner of a half of a cell.
use Rattle.std.proofs.Common.{◌≡◌, ℕ, ◌+◌, ◌-◌, ◌*◌, ◌/◌, ◌^◌, ◌<◌, ◌≤◌, refl, ap, sym, ◌∙◌, arith}
use Rattle.std.proofs.lemmas.Nat.{pow-add, mul-le, div_below, shl-shr, pow_pos}
use Rattle.cell_space.specs.Cells.{width_of}

double : (l : ℕ) → l < 32 → width_of l ≡ 2 * 2 ^ (31 - l)
double l h = ap (λ t. 2 ^ t) (omega arith) ∙ pow-add 2 1 (31 - l)

whole_box : (l : ℕ) → l < 32 → 2 ^ 32 ≡ 2 ^ l * width_of l
whole_box l h = let e : 32 ≡ l + (32 - l) = omega arith in ap (λ t. 2 ^ t) e ∙ pow-add 2 l (32 - l)

next_width : (l : ℕ) → l < 32 → width_of (l + 1) ≡ 2 ^ (31 - l)
next_width l h = ap (λ t. 2 ^ t) (omega arith)

half_fits : (corner l bit x w : ℕ) → l < 32 → bit < 2 → x * width_of l ≡ corner → x + 1 ≤ 2 ^ l → w ≡ 2 ^ (31 - l) → 0 < w → corner + bit * w < 2 ^ 32
half_fits corner l bit x w h b e k q pos =
    let d : width_of l ≡ 2 * w = double l h ∙ ap (λ t. 2 * t) (sym q) in
    let most : (x + 1) * width_of l ≤ 2 ^ l * width_of l = mul-le (x + 1) (width_of l) (2 ^ l) (width_of l) k (omega arith) in
    let all : 2 ^ 32 ≡ 2 ^ l * width_of l = whole_box l h in
    let spread : (x + 1) * width_of l ≡ x * width_of l + width_of l = omega arith in
    let less : bit * w ≤ 1 * w = mul-le bit w 1 w (omega arith) (omega arith) in
    omega (arith, d, most, all, spread, less, e)

pub corner_fits : (corner l bit : ℕ) → l < 32 → bit < 2 → corner / width_of l * width_of l ≡ corner → corner < 2 ^ 32 → corner + bit * 2 ^ (31 - l) < 2 ^ 32
corner_fits corner l bit h b e k =
    half_fits corner l bit (corner / width_of l) (2 ^ (31 - l)) h b e
    (let u : corner / width_of l < 2 ^ l = div_below corner (width_of l) (2 ^ l) (pow_pos (32 - l)) (omega (arith, whole_box l h, k)) in omega arith)
    refl (pow_pos (31 - l))

half_whole : (corner l bit : ℕ) → l < 32 → corner / width_of l * width_of l ≡ corner → corner + bit * 2 ^ (31 - l) ≡ (2 * (corner / width_of l) + bit) * width_of (l + 1)
half_whole corner l bit h e =
    let x = corner / width_of l in
    let w = 2 ^ (31 - l) in
    let d : width_of l ≡ 2 * w = double l h in
    let n : width_of (l + 1) ≡ w = next_width l h in
    let y : corner ≡ 2 * x * w = sym e ∙ ap (λ t. x * t) d ∙ omega arith in
    ap (λ t. t + bit * w) y ∙ omega arith ∙ ap (λ t. (2 * x + bit) * t) (sym n)

pub half_upper : (corner l bit : ℕ) → l < 32 → corner / width_of l * width_of l ≡ corner → (corner + bit * 2 ^ (31 - l)) / width_of (l + 1) ≡ 2 * (corner / width_of l) + bit
half_upper corner l bit h e = ap (λ t. t / width_of (l + 1)) (half_whole corner l bit h e) ∙ shl-shr (2 * (corner / width_of l) + bit) (32 - (l + 1))

pub half_corner : (corner l bit : ℕ) → l < 32 → corner / width_of l * width_of l ≡ corner → (corner + bit * 2 ^ (31 - l)) / width_of (l + 1) * width_of (l + 1) ≡ corner + bit * 2 ^ (31 - l)
half_corner corner l bit h e = ap (λ t. t * width_of (l + 1)) (half_upper corner l bit h e) ∙ sym (half_whole corner l bit h e)
