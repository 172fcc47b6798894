-- Bounds of the force of a pair.
use Rattle.std.proofs.Common.{◌≡◌, ℕ, ◌+◌, ◌*◌, ◌/◌, ◌^◌, ◌<◌, ◌≤◌, refl, arith, ◌⊎◌, inl, inr, ℤ, pos, negsuc, ◌+ℤ◌, ◌-ℤ◌, ◌*ℤ◌}
use Rattle.std.specs.Prelude.{unsigned_abs}
use Rattle.std.proofs.lemmas.Int.{ints, unsigned_abs-mul}
use Rattle.std.proofs.lemmas.Nat.{mul-le}
use Rattle.std.proofs.lemmas.Bool.{cases_lt}
use Rattle.fixed_point.specs.declared.V3.{V3}
use Rattle.fixed_point.specs.Vectors.{each, IsAtMost}
use Rattle.fixed_point.specs.Fixed.{IsRoot}
use Rattle.nbody_model.specs.Scaling.{◌·◌, ◌÷◌}
use Rattle.nbody_model.specs.Moments.{Symmetric, MomentsData}
use Rattle.nbody_model.specs.PairForce.{mono, times, dot, each6, quadrupole}
use Rattle.model_laws.specs.Laws.{IsWithinEach}
use Rattle.model_laws.proofs.Centres.{quotient_high}

-- ---- numbers times and over natural ones

pub times_size : (n : ℕ) (z : ℤ) → unsigned_abs (n · z) ≡ n * unsigned_abs z
times_size n z = unsigned_abs-mul (pos n) z

quot_size : (z : ℤ) (n : ℕ) → unsigned_abs (z ÷ n) ≡ unsigned_abs z / n
quot_size (pos a) n = refl
quot_size (negsuc a) n = omega (arith, ints)

pub quot_within : (z : ℤ) (n m : ℕ) → 0 < n → unsigned_abs z ≤ n * m → unsigned_abs (z ÷ n) ≤ m
quot_within z n m h k = let q : unsigned_abs z / n ≤ m = quotient_high (unsigned_abs z) n m h k in omega (arith, quot_size z n, q)

-- a number whose square is at most another's is at most as large
root_order : (x r : ℕ) → x * x < (r + 1) * (r + 1) → x ≤ r
root_order x r h = from (cases_lt r x)
  where
    from : (r < x) ⊎ (x ≤ r) → x ≤ r
    from (inl l) = let t : (r + 1) * (r + 1) ≤ x * x = mul-le (r + 1) (r + 1) x x (omega arith) (omega arith) in absurd (omega arith)
    from (inr l) = l

-- each component is at most the root of the square
pub axis_within : (x y z e r : ℕ) → IsRoot (x * x + y * y + z * z + e) r → (x ≤ r) × (y ≤ r) × (z ≤ r)
axis_within x y z e r h = (root_order x r (omega (arith, h.above)), root_order y r (omega (arith, h.above)), root_order z r (omega (arith, h.above)))

pub product_within : (x y : ℤ) (m n : ℕ) → unsigned_abs x ≤ m → unsigned_abs y ≤ n → unsigned_abs (x *ℤ y) ≤ m * n
product_within x y m n h k = let p : unsigned_abs x * unsigned_abs y ≤ m * n = mul-le (unsigned_abs x) (unsigned_abs y) m n h k in omega (arith, unsigned_abs-mul x y, p)

-- ---- of the masses

pub mono_axis : (strength r2 r : ℕ) (z : ℤ) → strength ≤ 2 ^ 94 → 2 ^ 16 ≤ r2 → 0 < r → unsigned_abs z ≤ r → unsigned_abs (strength · z ÷ (r2 * r)) ≤ 2 ^ 78
mono_axis strength r2 r z h k l u =
    let a : strength * unsigned_abs z ≤ 2 ^ 94 * r = mul-le strength (unsigned_abs z) (2 ^ 94) r h u in
    let b : 2 ^ 94 * r ≤ (r2 * 2 ^ 78) * r = mul-le (2 ^ 94) r (r2 * 2 ^ 78) r (omega arith) (omega arith) in
    let c : (r2 * 2 ^ 78) * r ≡ r2 * r * 2 ^ 78 = omega arith in
    let d : 1 * 1 ≤ r2 * r = mul-le 1 1 r2 r (omega arith) (omega arith) in
    quot_within (strength · z) (r2 * r) (2 ^ 78) (omega arith) (omega (arith, times_size strength z))

pub mono_within : (strength r2 r : ℕ) (d : V3) → strength ≤ 2 ^ 94 → 2 ^ 16 ≤ r2 → 0 < r → IsAtMost r d → IsAtMost (2 ^ 78) (mono strength r2 r d)
mono_within strength r2 r d h k l u = record { on_x = mono_axis strength r2 r d.x h k l u.on_x; on_y = mono_axis strength r2 r d.y h k l u.on_y; on_z = mono_axis strength r2 r d.z h k l u.on_z }

-- ---- of the second moments

pub direction_axis : (r : ℕ) (z : ℤ) → 0 < r → unsigned_abs z ≤ r → unsigned_abs (2 ^ 20 · z ÷ r) ≤ 2 ^ 20
direction_axis r z h u = quot_within (2 ^ 20 · z) r (2 ^ 20) h (omega (arith, times_size (2 ^ 20) z, u))

pub joint_axis : (z : ℤ) (r2 : ℕ) → 0 < r2 → unsigned_abs z ≤ 2 ^ 62 * r2 → unsigned_abs (z ÷ r2) ≤ 2 ^ 62
joint_axis z r2 h u = quot_within z r2 (2 ^ 62) h (omega arith)

pub row_within : (a b c x y z : ℤ) (m n : ℕ) → unsigned_abs a ≤ m → unsigned_abs b ≤ m → unsigned_abs c ≤ m → unsigned_abs x ≤ n → unsigned_abs y ≤ n → unsigned_abs z ≤ n → unsigned_abs (a *ℤ x +ℤ b *ℤ y +ℤ c *ℤ z) ≤ 3 * (m * n)
row_within a b c x y z m n ha hb hc hx hy hz =
    let p : unsigned_abs (a *ℤ x) ≤ m * n = product_within a x m n ha hx in
    let q : unsigned_abs (b *ℤ y) ≤ m * n = product_within b y m n hb hy in
    let r : unsigned_abs (c *ℤ z) ≤ m * n = product_within c z m n hc hz in
    omega (arith, ints, p, q, r)

pub times_within : (s : Symmetric) (v : V3) (m n : ℕ) → IsWithinEach m s → IsAtMost n v → IsAtMost (3 * (m * n)) (times s v)
times_within s v m n h k = record {
  on_x = row_within s.xx s.xy s.xz v.x v.y v.z m n h.on_xx h.on_xy h.on_xz k.on_x k.on_y k.on_z;
  on_y = row_within s.xy s.yy s.yz v.x v.y v.z m n h.on_xy h.on_yy h.on_yz k.on_x k.on_y k.on_z;
  on_z = row_within s.xz s.yz s.zz v.x v.y v.z m n h.on_xz h.on_yz h.on_zz k.on_x k.on_y k.on_z;
}

pub dot_within : (v w : V3) (m n : ℕ) → IsAtMost m v → IsAtMost n w → unsigned_abs (dot v w) ≤ 3 * (m * n)
dot_within v w m n h k = row_within v.x v.y v.z w.x w.y w.z m n h.on_x h.on_y h.on_z k.on_x k.on_y k.on_z

-- 15 a n - 3 t n - 6 b, where each of the three products is at most 45, 3 and 18 times 3 · 2^82
pub whole_axis : (a t n b : ℤ) → unsigned_abs a ≤ 9 * 2 ^ 62 → unsigned_abs t ≤ 3 * 2 ^ 62 → unsigned_abs n ≤ 2 ^ 20 → unsigned_abs b ≤ 3 * 2 ^ 82 → unsigned_abs (15 · a *ℤ n -ℤ 3 · t *ℤ n -ℤ 6 · b) ≤ 2 ^ 90
whole_axis a t n b ha ht hn hb =
    let fa : unsigned_abs (15 · a) ≤ 135 * 2 ^ 62 = omega (arith, times_size 15 a, ha) in
    let ft : unsigned_abs (3 · t) ≤ 9 * 2 ^ 62 = omega (arith, times_size 3 t, ht) in
    let fb : unsigned_abs (6 · b) ≤ 18 * 2 ^ 82 = omega (arith, times_size 6 b, hb) in
    let pa : unsigned_abs (15 · a *ℤ n) ≤ 135 * 2 ^ 62 * 2 ^ 20 = product_within (15 · a) n (135 * 2 ^ 62) (2 ^ 20) fa hn in
    let pt : unsigned_abs (3 · t *ℤ n) ≤ 9 * 2 ^ 62 * 2 ^ 20 = product_within (3 · t) n (9 * 2 ^ 62) (2 ^ 20) ft hn in
    minus_within (15 · a *ℤ n) (3 · t *ℤ n) (6 · b) pa pt fb
  where
    minus_within : (x y z : ℤ) → unsigned_abs x ≤ 135 * 2 ^ 62 * 2 ^ 20 → unsigned_abs y ≤ 9 * 2 ^ 62 * 2 ^ 20 → unsigned_abs z ≤ 18 * 2 ^ 82 → unsigned_abs (x -ℤ y -ℤ z) ≤ 2 ^ 90
    minus_within x y z h k l = omega (arith, ints)

pub out_axis : (gravity r2 : ℕ) (z : ℤ) → gravity ≤ 2 ^ 32 → 2 ^ 16 ≤ r2 → unsigned_abs z ≤ 2 ^ 90 → unsigned_abs (gravity · z ÷ (r2 * 2 ^ 21)) ≤ 2 ^ 85
out_axis gravity r2 z h k u =
    let a : gravity * unsigned_abs z ≤ 2 ^ 32 * 2 ^ 90 = mul-le gravity (unsigned_abs z) (2 ^ 32) (2 ^ 90) h u in
    quot_within (gravity · z) (r2 * 2 ^ 21) (2 ^ 85) (omega arith) (omega (arith, times_size gravity z))

pub quadrupole_within : (gravity : ℕ) (A B : MomentsData) (r2 r : ℕ) (d : V3) → gravity ≤ 2 ^ 32 → 2 ^ 16 ≤ r2 → 0 < r → IsAtMost r d → IsWithinEach (2 ^ 62 * r2) (each6 (λ p q. A.mass · q +ℤ B.mass · p) A.quad B.quad) → IsAtMost (2 ^ 85) (quadrupole gravity A B r2 r d)
quadrupole_within gravity A B r2 r d h k l u j =
    let n : V3 = each (λ e. 2 ^ 20 · e ÷ r) d in
    let s : Symmetric = each6 (λ p q. (A.mass · q +ℤ B.mass · p) ÷ r2) A.quad B.quad in
    let b : V3 = times s n in
    let a : ℤ = dot n b ÷ 2 ^ 40 in
    let t : ℤ = s.xx +ℤ s.yy +ℤ s.zz in
    let some : 0 < r2 = omega arith in
    let hn : IsAtMost (2 ^ 20) n = record { on_x = direction_axis r d.x l u.on_x; on_y = direction_axis r d.y l u.on_y; on_z = direction_axis r d.z l u.on_z } in
    let hs : IsWithinEach (2 ^ 62) s = record {
      on_xx = joint_axis (A.mass · B.quad.xx +ℤ B.mass · A.quad.xx) r2 some j.on_xx;
      on_yy = joint_axis (A.mass · B.quad.yy +ℤ B.mass · A.quad.yy) r2 some j.on_yy;
      on_zz = joint_axis (A.mass · B.quad.zz +ℤ B.mass · A.quad.zz) r2 some j.on_zz;
      on_xy = joint_axis (A.mass · B.quad.xy +ℤ B.mass · A.quad.xy) r2 some j.on_xy;
      on_xz = joint_axis (A.mass · B.quad.xz +ℤ B.mass · A.quad.xz) r2 some j.on_xz;
      on_yz = joint_axis (A.mass · B.quad.yz +ℤ B.mass · A.quad.yz) r2 some j.on_yz;
    } in
    let hb : IsAtMost (3 * (2 ^ 62 * 2 ^ 20)) b = times_within s n (2 ^ 62) (2 ^ 20) hs hn in
    let hd : unsigned_abs (dot n b) ≤ 3 * (2 ^ 20 * (3 * (2 ^ 62 * 2 ^ 20))) = dot_within n b (2 ^ 20) (3 * (2 ^ 62 * 2 ^ 20)) hn hb in
    let ha : unsigned_abs a ≤ 9 * 2 ^ 62 = quot_within (dot n b) (2 ^ 40) (9 * 2 ^ 62) (omega arith) hd in
    let ht : unsigned_abs t ≤ 3 * 2 ^ 62 = trace_within s.xx s.yy s.zz hs.on_xx hs.on_yy hs.on_zz in
    record {
      on_x = out_axis gravity r2 (15 · a *ℤ n.x -ℤ 3 · t *ℤ n.x -ℤ 6 · b.x) h k (whole_axis a t n.x b.x ha ht hn.on_x hb.on_x);
      on_y = out_axis gravity r2 (15 · a *ℤ n.y -ℤ 3 · t *ℤ n.y -ℤ 6 · b.y) h k (whole_axis a t n.y b.y ha ht hn.on_y hb.on_y);
      on_z = out_axis gravity r2 (15 · a *ℤ n.z -ℤ 3 · t *ℤ n.z -ℤ 6 · b.z) h k (whole_axis a t n.z b.z ha ht hn.on_z hb.on_z);
    }
  where
    trace_within : (x y z : ℤ) → unsigned_abs x ≤ 2 ^ 62 → unsigned_abs y ≤ 2 ^ 62 → unsigned_abs z ≤ 2 ^ 62 → unsigned_abs (x +ℤ y +ℤ z) ≤ 3 * 2 ^ 62
    trace_within x y z h k l = omega (arith, ints)
