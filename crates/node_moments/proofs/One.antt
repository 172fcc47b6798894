-- The sums over one body.
use Rattle.std.proofs.Common.{◌≡◌, ℕ, ◌*◌, ◌/◌, ◌<◌, ◌≤◌, ◌^◌, min, max, true, List, [], ◌∷◌, sum_by, slice_index, ap, arith}
use Rattle.std.proofs.lemmas.Nat.{div-add-mod'}
use Rattle.cell_space.specs.Cells.{Position, CellData, contains, corner, width_of}
use Rattle.cell_space.proofs.Cells.{contains-exact}
use Rattle.nbody_model.specs.Bodies.{BodyData}
use Rattle.node_moments.specs.Sums.{RawData, raw_of, from_x, from_y, from_z, at_x, at_y, at_z}

sum_one : (f : BodyData → ℕ) (b : BodyData) → f b ≡ sum_by f (b ∷ [])
sum_one f b = omega arith

min_one : (n : ℕ) → n < 2 ^ 32 → n ≡ min 4294967295 n
min_one n h = omega (arith, h)

max_one : (n : ℕ) → n ≡ max 0 n
max_one n = omega arith

-- the sums over one body, by its distances from the corner
abbrev pub alone : List ℕ → CellData → BodyData → RawData
alone soft c b =
    let x = from_x c b in
    let y = from_y c b in
    let z = from_z c b in
    record {
      cell = c;
      count = 1;
      mass = b.mass;
      mx = b.mass * x ∷ b.mass * y ∷ b.mass * z ∷ [];
      mxx = b.mass * (x * x) ∷ b.mass * (y * y) ∷ b.mass * (z * z) ∷ b.mass * (x * y) ∷ b.mass * (x * z) ∷ b.mass * (y * z) ∷ [];
      lo = at_x b ∷ at_y b ∷ at_z b ∷ [];
      hi = at_x b ∷ at_y b ∷ at_z b ∷ [];
      eps = slice_index soft b.kind;
    }

pub alone_is : (soft : List ℕ) (c : CellData) (b : BodyData) → at_x b < 2 ^ 32 → at_y b < 2 ^ 32 → at_z b < 2 ^ 32 → alone soft c b ≡ raw_of soft c (b ∷ [])
unfolding raw_of
alone_is soft c b hx hy hz =
    let f : (d : BodyData → ℕ) → b.mass * d b ≡ sum_by (λ b. b.mass * d b) (b ∷ []) = λ d. sum_one (λ b. b.mass * d b) b in
    let s : (d e : BodyData → ℕ) → b.mass * (d b * e b) ≡ sum_by (λ b. b.mass * (d b * e b)) (b ∷ []) = λ d e. sum_one (λ b. b.mass * (d b * e b)) b in
    let x : BodyData → ℕ = from_x c in
    let y : BodyData → ℕ = from_y c in
    let z : BodyData → ℕ = from_z c in
    λ i. record {
      cell = c;
      count = 1;
      mass = sum_one (λ b. b.mass) b i;
      mx = f x i ∷ f y i ∷ f z i ∷ [];
      mxx = s x x i ∷ s y y i ∷ s z z i ∷ s x y i ∷ s x z i ∷ s y z i ∷ [];
      lo = min_one (at_x b) hx i ∷ min_one (at_y b) hy i ∷ min_one (at_z b) hz i ∷ [];
      hi = max_one (at_x b) i ∷ max_one (at_y b) i ∷ max_one (at_z b) i ∷ [];
      eps = max_one (slice_index soft b.kind) i;
    }

-- a coordinate with this upper part is at least the corner's
pub above_corner : (n k w : ℕ) → n / w ≡ k → k * w ≤ n
above_corner n k w e = let d : n / w * w ≤ n = omega (arith, div-add-mod' n w) in let q : n / w * w ≡ k * w = ap (λ t. t * w) e in omega (arith, d, q)

pub above_corners : (c : CellData) (p : Position) → contains c p ≡ true → ((corner c).x ≤ p.x) × ((corner c).y ≤ p.y) × ((corner c).z ≤ p.z)
above_corners c p h =
    let e = (contains-exact c p).0 h in
    let w = width_of c.level in
    (above_corner p.x c.x w (ap (λ t. t.x) e), above_corner p.y c.y w (ap (λ t. t.y) e), above_corner p.z c.z w (ap (λ t. t.z) e))
