-- The force between two nodes (GADGET's monopole and quadrupole with its nearest image; the integers and their
-- truncations are this project's own).
use Rattle.std.specs.Prelude.{ℕ, ◌+◌, ◌*◌, ◌^◌, max, ℤ, ◌+ℤ◌, ◌-ℤ◌, ◌*ℤ◌, Option, Some, None}
use Rattle.fixed_point.specs.declared.V3.{V3}
use Rattle.fixed_point.specs.Fixed.{root}
use Rattle.fixed_point.specs.Vectors.{origin, each, plus}
use Rattle.nbody_model.specs.Scaling.{◌·◌, ◌÷◌}
use Rattle.nbody_model.specs.Tables.{TableData, Gravity}
use Rattle.nbody_model.specs.Moments.{Symmetric, MomentsData}
use Rattle.nbody_model.specs.OpeningRule.{way, square}
use Rattle.nbody_model.specs.Correction.{correction}

-- of the masses: strength is the constant of gravity times both masses
abbrev pub mono : ℕ → ℕ → ℕ → V3 → V3
mono strength r2 r d = each (λ e. strength · e ÷ (r2 * r)) d

-- f of two matrices, component by component
abbrev pub each6 : (ℤ → ℤ → ℤ) → Symmetric → Symmetric → Symmetric
each6 f p q = record { xx = f p.xx q.xx; yy = f p.yy q.yy; zz = f p.zz q.zz; xy = f p.xy q.xy; xz = f p.xz q.xz; yz = f p.yz q.yz }

-- a matrix times a vector
abbrev pub times : Symmetric → V3 → V3
times s n = record {
  x = s.xx *ℤ n.x +ℤ s.xy *ℤ n.y +ℤ s.xz *ℤ n.z;
  y = s.xy *ℤ n.x +ℤ s.yy *ℤ n.y +ℤ s.yz *ℤ n.z;
  z = s.xz *ℤ n.x +ℤ s.yz *ℤ n.y +ℤ s.zz *ℤ n.z;
}

abbrev pub dot : V3 → V3 → ℤ
dot v w = v.x *ℤ w.x +ℤ v.y *ℤ w.y +ℤ v.z *ℤ w.z

-- of the second moments: n is the direction in units of 2^-20, s the joint second moments over the squared way
abbrev pub quadrupole : ℕ → MomentsData → MomentsData → ℕ → ℕ → V3 → V3
quadrupole gravity A B r2 r d =
    let n = each (λ e. 2 ^ 20 · e ÷ r) d in
    let s = each6 (λ p q. (A.mass · q +ℤ B.mass · p) ÷ r2) A.quad B.quad in
    let b = times s n in
    let a = dot n b ÷ 2 ^ 40 in
    let t = s.xx +ℤ s.yy +ℤ s.zz in
    let e : ℤ → ℤ → ℤ = λ nj bj. 15 · a *ℤ nj -ℤ 3 · t *ℤ nj -ℤ 6 · bj in
    let out : ℤ → ℤ → ℤ = λ nj bj. gravity · e nj bj ÷ (r2 * 2 ^ 21) in
    record { x = out n.x b.x; y = out n.y b.y; z = out n.z b.z }

-- of the periodic images
abbrev pub images : ℕ → Option TableData → V3 → V3
images strength None d = origin
images strength (Some t) d = each (λ e. strength · e ÷ 2 ^ 94) (correction t d)

-- the force on the node A of smaller corner by the node B; the force on B is its negative
unfoldable pub pair : Gravity → MomentsData → MomentsData → V3
pair g A B =
    let d = way A.centre B.centre in
    let eps = max A.eps B.eps in
    let r2 = square d + eps * eps in
    let r = root r2 in
    let strength = g.setup.gravity * A.mass * B.mass in
    plus (plus (mono strength r2 r d) (quadrupole g.setup.gravity A B r2 r d)) (images strength g.table d)
