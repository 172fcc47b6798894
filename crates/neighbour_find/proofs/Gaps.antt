-- How far a cell is at least.
use Rattle.std.proofs.Common.{◌≡◌, ℕ, ◌+◌, ◌-◌, ◌*◌, ◌/◌, ◌%◌, ◌^◌, ◌<◌, ◌≤◌, cond, ltb, ap, ◌∙◌, arith, inl, inr, pos, negsuc}
use Rattle.std.specs.Prelude.{unsigned_abs, min, true, IsTrue, nat_lt}
use Rattle.std.proofs.lemmas.Bool.{cases_lt, lt-ltb, le-ltb}
use Rattle.std.proofs.lemmas.Bool.Decides.{nat_tests}
use Rattle.std.proofs.Math.Nat.{add-mul}
use Rattle.std.proofs.lemmas.Nat.{mul-le, pow-add, div-add-mod', mod_below}
use Rattle.fixed_point.specs.Fixed.{wrapped}
use Rattle.cell_space.specs.Cells.{CellData, Position, contains, width_of}
use Rattle.cell_space.proofs.Cells.{contains-exact}
use Rattle.nbody_model.specs.OpeningRule.{way, square}

abbrev turn : ℕ → ℕ → ℕ
turn a b = (b + 2 ^ 32 - a) % 2 ^ 32

abbrev size_of : ℕ → ℕ
size_of d = unsigned_abs (cond (ltb d (2 ^ 31)) (pos d) (negsuc (2 ^ 32 - 1 - d)))

size_is : (d : ℕ) → d < 2 ^ 32 → size_of d ≡ min d (2 ^ 32 - d)
size_is d l = elim (cases_lt d (2 ^ 31)) as (λ _. size_of d ≡ min d (2 ^ 32 - d)) [
  | inl h ↦ ap (λ b. unsigned_abs (cond b (pos d) (negsuc (2 ^ 32 - 1 - d)))) (lt-ltb d (2 ^ 31) h) ∙ omega (arith, h)
  | inr h ↦ ap (λ b. unsigned_abs (cond b (pos d) (negsuc (2 ^ 32 - 1 - d)))) (le-ltb d (2 ^ 31) h) ∙ omega (arith, h, l)
]

-- the size of the wrapped way, by the way straight on
size_up : (a b : ℕ) → a ≤ b → b < 2 ^ 32 → unsigned_abs (wrapped a b) ≡ min (b - a) (2 ^ 32 - (b - a))
size_up a b h l = let d : turn a b ≡ b - a = omega (arith, h, l) in size_is (turn a b) (omega (arith, d, l)) ∙ ap (λ d. min d (2 ^ 32 - d)) d

size_down : (a b : ℕ) → b < a → a < 2 ^ 32 → unsigned_abs (wrapped a b) ≡ min (a - b) (2 ^ 32 - (a - b))
size_down a b h l =
    let d : turn a b ≡ 2 ^ 32 - (a - b) = omega (arith, h, l) in
    size_is (turn a b) (omega (arith, d, h, l)) ∙ ap (λ d. min d (2 ^ 32 - d)) d ∙ omega (arith, h, l)

-- the nearest of a range that lies on one side is one of its ends
pub gap_left : (x low high y : ℕ) → x < low → low ≤ y → y ≤ high → high < 2 ^ 32 → min (unsigned_abs (wrapped x low)) (unsigned_abs (wrapped x high)) ≤ unsigned_abs (wrapped x y)
gap_left x low high y a b c l =
    let u = size_up x low (omega (arith, a)) (omega (arith, b, c, l)) in
    let v = size_up x high (omega (arith, a, b, c)) l in
    let w = size_up x y (omega (arith, a, b)) (omega (arith, c, l)) in
    omega (arith, u, v, w, a, b, c, l)

pub gap_right : (x low high y : ℕ) → high < x → low ≤ y → y ≤ high → x < 2 ^ 32 → min (unsigned_abs (wrapped x low)) (unsigned_abs (wrapped x high)) ≤ unsigned_abs (wrapped x y)
gap_right x low high y a b c l =
    let u = size_down x low (omega (arith, a, b, c)) l in
    let v = size_down x high a l in
    let w = size_down x y (omega (arith, a, c)) l in
    omega (arith, u, v, w, a, b, c, l)

-- a corner leaves room for its cell
pub corner_room : (l low : ℕ) → l ≤ 32 → low / width_of l * width_of l ≡ low → low < 2 ^ 32 → low + width_of l ≤ 2 ^ 32
corner_room l low h e s =
    let w : ℕ = width_of l in
    let q : ℕ = low / w in
    let all : 2 ^ 32 ≡ 2 ^ l * w = (let sum : 32 ≡ l + (32 - l) = omega (arith, h) in ap (λ n. 2 ^ n) sum ∙ pow-add 2 l (32 - l)) in
    elim (cases_lt q (2 ^ l)) as (λ _. low + w ≤ 2 ^ 32) [
      | inl below ↦ (let more : (q + 1) * w ≤ 2 ^ l * w = mul-le (q + 1) w (2 ^ l) w (omega (arith, below)) (omega arith) in let next : (q + 1) * w ≡ q * w + 1 * w = add-mul q 1 w in omega (arith, more, next, all, e))
      | inr above ↦ absurd (let more : 2 ^ l * w ≤ q * w = mul-le (2 ^ l) w q w above (omega arith) in omega (arith, more, all, e, s))
    ]

-- a coordinate of a cell's range
pub axis_low : (w low y : ℕ) → low / w * w ≡ low → y / w ≡ low / w → low ≤ y
axis_low w low y e s = omega (arith, div-add-mod' y w, ap (λ n. n * w) s, e)

pub axis_high : (w low y : ℕ) → 0 < w → low / w * w ≡ low → y / w ≡ low / w → y < low + w
axis_high w low y p e s = omega (arith, div-add-mod' y w, ap (λ n. n * w) s, e, mod_below y w p)

pub squares : (a b : ℕ) → a ≤ b → a * a ≤ b * b
squares a b h = mul-le a a b b h h

pub cell_axes : (c : CellData) (p : Position) → contains c p ≡ true → (p.x / width_of c.level ≡ c.x) × (p.y / width_of c.level ≡ c.y) × (p.z / width_of c.level ≡ c.z)
cell_axes c p e = let s = (contains-exact c p).0 e in (ap (λ (t : CellData). t.x) s, ap (λ (t : CellData). t.y) s, ap (λ (t : CellData). t.z) s)

-- a cell is far where the gaps on the axes are wide enough
pub record IsGap (x low w gap : ℕ) : Type 0 where
  pub near : (y : ℕ) → low ≤ y → y < low + w → gap ≤ unsigned_abs (wrapped x y)

pub axis_gap : (x low w gap y : ℕ) → 0 < w → low / w * w ≡ low → y / w ≡ low / w → IsGap x low w gap → gap * gap ≤ unsigned_abs (wrapped x y) * unsigned_abs (wrapped x y)
axis_gap x low w gap y p e s g = squares gap (unsigned_abs (wrapped x y)) (g.near y (axis_low w low y e s) (axis_high w low y p e s))

below_of : (m n : ℕ) → IsTrue (nat_lt m n) → m < n
below_of m n h = grind (arith, nat_tests)

-- where the gaps are wide, each position of the cell is far
pub far_by : (limit w : ℕ) (a : Position) (c : CellData) (lx ly lz gx gy gz sx sy sz : ℕ) → 0 < w → w ≡ width_of c.level → c.x ≡ lx / w → c.y ≡ ly / w → c.z ≡ lz / w → lx / w * w ≡ lx → ly / w * w ≡ ly → lz / w * w ≡ lz
    → IsGap a.x lx w gx → IsGap a.y ly w gy → IsGap a.z lz w gz → sx ≡ gx * gx → sy ≡ gy * gy → sz ≡ gz * gz → IsTrue (nat_lt limit (sx + sy + sz)) → (p : Position) → contains c p ≡ true → limit < square (way a p)
far_by limit w a c lx ly lz gx gy gz sx sy sz pw ew ex ey ez wx wy wz x y z fx fy fz t p e =
    let s = cell_axes c p e in
    let px : p.x / w ≡ lx / w = ap (λ n. p.x / n) ew ∙ s.0 ∙ ex in
    let py : p.y / w ≡ ly / w = ap (λ n. p.y / n) ew ∙ s.1 ∙ ey in
    let pz : p.z / w ≡ lz / w = ap (λ n. p.z / n) ew ∙ s.2 ∙ ez in
    let u : gx * gx ≤ unsigned_abs (wrapped a.x p.x) * unsigned_abs (wrapped a.x p.x) = axis_gap a.x lx w gx p.x pw wx px x in
    let v : gy * gy ≤ unsigned_abs (wrapped a.y p.y) * unsigned_abs (wrapped a.y p.y) = axis_gap a.y ly w gy p.y pw wy py y in
    let q : gz * gz ≤ unsigned_abs (wrapped a.z p.z) * unsigned_abs (wrapped a.z p.z) = axis_gap a.z lz w gz p.z pw wz pz z in
    omega (arith, below_of limit (sx + sy + sz) t, fx, fy, fz, u, v, q)
