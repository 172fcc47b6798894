-- The correction out of the means, axis by axis.
use Rattle.std.proofs.Common.{◌≡◌, ℕ, ◌+◌, ◌-◌, ◌*◌, ◌≤◌, ◌^◌, ℤ, ap, subst, ◌∙◌, arith, SFits, to_z, of_z, to_z-of_z}
use Rattle.std.specs.Prelude.{unsigned_abs}
use Rattle.std.specs.Int.{w64, w128}
use Rattle.std.proofs.lemmas.Nat.{pow-add}
use Rattle.nbody_model.specs.Scaling.{◌÷◌}
use Rattle.nbody_model.specs.Tables.{TableData}
use Rattle.nbody_model.specs.Correction.{signed, spacing, step_of, weight}
use Rattle.ewald_table.specs.declared.place.Place.{Place}
use Rattle.ewald_table.proofs.Trilinear.{At}

cube : (k : ℕ) → 2 ^ (3 * k) ≡ 2 ^ k * 2 ^ k * 2 ^ k
cube k = let e : 3 * k ≡ k + k + k = omega arith in ap (λ n. 2 ^ n) e ∙ pow-add 2 (k + k) k ∙ ap (λ n. n * 2 ^ k) (pow-add 2 k k)

-- the cube of a table's spacing, as the shift of the code
pub cube_of : (t : TableData) (g : ℕ) → g ≡ t.g → 2 ^ (3 * (31 - g)) ≡ spacing t * spacing t * spacing t
cube_of t g e = cube (31 - g) ∙ ap (λ g. 2 ^ (31 - g) * 2 ^ (31 - g) * 2 ^ (31 - g)) e

-- the size of a mean, by the widths on the three axes
pub mean_small : (t : TableData) (g n x y z : ℕ) → g ≡ t.g → x ≡ spacing t → y ≡ spacing t → z ≡ spacing t → n ≤ z * (y * (x * 2 ^ 31)) → n ≤ 2 ^ (3 * (31 - g)) * 2 ^ 31
mean_small t g n x y z e a b c h =
    let all : z * (y * (x * 2 ^ 31)) ≡ spacing t * (spacing t * (spacing t * 2 ^ 31)) = λ i. c i * (b i * (a i * 2 ^ 31)) in
    omega (arith, h, all, ap (λ n. n * 2 ^ 31) (cube_of t g e))

pub at_size : (t : TableData) (p : Place) (u : ℕ) (d : ℤ) → SFits w64 d → u ≡ unsigned_abs (to_z w64 (of_z w64 d)) → p.step ≡ step_of t u → p.near ≡ weight t u 0 → p.far ≡ weight t u 1 → At t p (unsigned_abs d)
at_size t p u d f e s n r = subst (At t p) (e ∙ ap unsigned_abs (to_z-of_z f)) (record { step = s; near = n; far = r })

-- one axis, through the casts of the code
pub axis_is : (d s m e mean : ℤ) (shift n : ℕ) → SFits w64 d → SFits w64 s → SFits w64 e → SFits w128 m → e ≡ signed (to_z w64 (of_z w64 d)) (to_z w64 (of_z w64 s)) → s ≡ to_z w128 (of_z w128 m) ÷ 2 ^ shift
    → m ≡ mean → 2 ^ shift ≡ n → to_z w64 (of_z w64 e) ≡ signed d (mean ÷ n)
axis_is d s m e mean shift n fd fs fe fm ee es em en =
    to_z-of_z fe ∙ ee ∙ (λ i. signed (to_z-of_z fd i) (to_z-of_z fs i)) ∙ (λ i. signed d (es i)) ∙ (λ i. signed d (to_z-of_z fm i ÷ 2 ^ shift)) ∙ (λ i. signed d (em i ÷ en i))
