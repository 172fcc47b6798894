-- A correction out of a table is at most 2^31 on each axis.
use Rattle.std.proofs.Common.{◌≡◌, ℕ, ◌+◌, ◌-◌, ◌*◌, ◌/◌, ◌%◌, ◌^◌, ◌<◌, ◌≤◌, min, Bool, true, false, cond, [], ◌∷◌, sum_by, ap, sym, subst, ◌∙◌, arith, ◌⊎◌, inl, inr, ℤ, pos, neg_ℤ, Some}
use Rattle.std.specs.Prelude.{unsigned_abs, int_lt, FitsSigned}
use Rattle.std.specs.Int.{w32}
use Rattle.std.specs.List.{AllByRecursion}
use Rattle.std.proofs.lemmas.Int.{ints}
use Rattle.std.proofs.lemmas.Nat.{mul-le, div-add-mod', mod_below, pow_pos, pow-add}
use Rattle.std.proofs.lemmas.Bool.{cases_lt}
use Rattle.std.proofs.lemmas.List.Sums.{sum_by-cons}
use Rattle.fixed_point.specs.declared.V3.{V3}
use Rattle.fixed_point.specs.Vectors.{each, IsAtMost}
use Rattle.cell_space.specs.Cells.{Position}
use Rattle.nbody_model.specs.Scaling.{◌·◌, ◌÷◌}
use Rattle.nbody_model.specs.Tables.{TableData, IsTable, IsEntry, entry_at, points}
use Rattle.nbody_model.specs.Correction.{spacing, step_of, weight, corners, mean, signed, correction}
use Rattle.model_laws.specs.Laws.{CorrectsLittle}
use Rattle.model_laws.proofs.Among.{Among, each-among}
use Rattle.model_laws.proofs.Sums.{sum_by-one}
use Rattle.model_laws.proofs.Signed.{total_by, totals_by, sum_of-totals}
use Rattle.model_laws.proofs.Bounds.{total_within}
use Rattle.model_laws.proofs.PairBounds.{times_size, quot_within}

-- the distance from a point of the grid is at most its spacing
left_cases : (u w n : ℕ) → 0 < w → 0 < n → u ≤ n * w → (u / w < n) ⊎ (n ≤ u / w) → u - min (u / w) (n - 1) * w ≤ w
left_cases u w n h k l (inl m) = let d : u / w * w + u % w ≡ u = div-add-mod' u w in let r : u % w < w = mod_below u w h in let e : min (u / w) (n - 1) ≡ u / w = omega arith in let f : min (u / w) (n - 1) * w ≡ u / w * w = ap (λ t. t * w) e in omega arith
left_cases u w n h k l (inr m) = let e : min (u / w) (n - 1) ≡ n - 1 = omega arith in let f : min (u / w) (n - 1) * w ≡ (n - 1) * w = ap (λ t. t * w) e in let g : (n - 1 + 1) * w ≡ (n - 1) * w + w = omega arith in let s : n - 1 + 1 ≡ n = omega arith in let t : (n - 1 + 1) * w ≡ n * w = ap (λ t. t * w) s in omega arith

left_within : (t : TableData) → IsTable t → (u : ℕ) → u ≤ 2 ^ 31 → u - step_of t u * spacing t ≤ spacing t
left_within t h u l =
    let e : 2 ^ 31 ≡ 2 ^ t.g * spacing t = (let f : 31 ≡ t.g + (31 - t.g) = (let g : t.g ≤ 6 = h.fine in omega arith) in ap (λ n. 2 ^ n) f ∙ pow-add 2 t.g (31 - t.g)) in
    left_cases u (spacing t) (2 ^ t.g) (pow_pos (31 - t.g)) (pow_pos t.g) (omega arith) (cases_lt (u / spacing t) (2 ^ t.g))

weights : (t : TableData) → IsTable t → (u : ℕ) → u ≤ 2 ^ 31 → weight t u 0 + weight t u 1 ≡ spacing t
weights t h u l = let v : u - step_of t u * spacing t ≤ spacing t = left_within t h u l in omega arith

eight : (a b c d e f n : ℕ) → a * c * e * n + (b * c * e * n + (a * d * e * n + (b * d * e * n + (a * c * f * n + (b * c * f * n + (a * d * f * n + b * d * f * n)))))) ≡ (a + b) * (c + d) * (e + f) * n
eight a b c d e f n = omega arith

fits_size : (z : ℤ) → FitsSigned w32 z → unsigned_abs z ≤ 2 ^ 31
fits_size z h = omega (arith, ints)

entry_within : (t : TableData) → IsTable t → (i j k : ℕ) → i < points t → j < points t → k < points t → IsAtMost (2 ^ 31) (entry_at t i j k)
entry_within t h i j k a b c =
    let e : IsEntry t i j k (entry_at t i j k) = h.each i j k a b c in
    record { on_x = fits_size (entry_at t i j k).x e.fits_x; on_y = fits_size (entry_at t i j k).y e.fits_y; on_z = fits_size (entry_at t i j k).z e.fits_z }

step_within : (t : TableData) (u c : ℕ) → c ≤ 1 → step_of t u + c < points t
step_within t u c h = let p : 0 < 2 ^ t.g = pow_pos t.g in omega arith

abbrev Low : Position → Type 0
Low c = (c.x ≤ 1) × (c.y ≤ 1) × (c.z ≤ 1)

zero_low : 0 ≤ 1
zero_low = omega arith

one_low : 1 ≤ 1
one_low = omega arith

lows : AllByRecursion Low corners
lows = ((zero_low, zero_low, zero_low), ((one_low, zero_low, zero_low), ((zero_low, one_low, zero_low), ((one_low, one_low, zero_low), ((zero_low, zero_low, one_low), ((one_low, zero_low, one_low), ((zero_low, one_low, one_low), ((one_low, one_low, one_low), tt))))))))

-- how much a corner counts, times the greatest entry
abbrev share_of_corner : TableData → ℕ → ℕ → ℕ → Position → ℕ
share_of_corner t u v w c = weight t u c.x * weight t v c.y * weight t w c.z * 2 ^ 31

corner_within : (get : V3 → ℤ) (t : TableData) (u v w : ℕ) (c : Position) (e : V3) → unsigned_abs (get e) ≤ 2 ^ 31 → unsigned_abs (weight t u c.x * weight t v c.y * weight t w c.z · get e) ≤ share_of_corner t u v w c
corner_within get t u v w c e h =
    let m : weight t u c.x * weight t v c.y * weight t w c.z * unsigned_abs (get e) ≤ weight t u c.x * weight t v c.y * weight t w c.z * 2 ^ 31 = mul-le (weight t u c.x * weight t v c.y * weight t w c.z) (unsigned_abs (get e)) (weight t u c.x * weight t v c.y * weight t w c.z) (2 ^ 31) (omega arith) h in
    omega (arith, m, times_size (weight t u c.x * weight t v c.y * weight t w c.z) (get e))

sum_eight : (g : Position → ℕ) (a b c d e f h k : Position) → sum_by g (a ∷ b ∷ c ∷ d ∷ e ∷ f ∷ h ∷ k ∷ []) ≡ g a + (g b + (g c + (g d + (g e + (g f + (g h + g k))))))
sum_eight g a b c d e f h k =
    omega (
      arith,
      sum_by-cons g a (b ∷ c ∷ d ∷ e ∷ f ∷ h ∷ k ∷ []),
      sum_by-cons g b (c ∷ d ∷ e ∷ f ∷ h ∷ k ∷ []),
      sum_by-cons g c (d ∷ e ∷ f ∷ h ∷ k ∷ []),
      sum_by-cons g d (e ∷ f ∷ h ∷ k ∷ []),
      sum_by-cons g e (f ∷ h ∷ k ∷ []),
      sum_by-cons g f (h ∷ k ∷ []),
      sum_by-cons g h (k ∷ []),
      sum_by-one g k,
    )

corners_sum : (t : TableData) → IsTable t → (u v w : ℕ) → u ≤ 2 ^ 31 → v ≤ 2 ^ 31 → w ≤ 2 ^ 31 → sum_by (share_of_corner t u v w) corners ≡ spacing t * spacing t * spacing t * 2 ^ 31
corners_sum t h u v w a b c =
    sum_eight (share_of_corner t u v w) (record { x = 0; y = 0; z = 0 }) (record { x = 1; y = 0; z = 0 }) (record { x = 0; y = 1; z = 0 }) (record { x = 1; y = 1; z = 0 }) (record { x = 0; y = 0; z = 1 }) (record { x = 1; y = 0; z = 1 }) (record { x = 0; y = 1; z = 1 }) (record { x = 1; y = 1; z = 1 })
    ∙ eight (weight t u 0) (weight t u 1) (weight t v 0) (weight t v 1) (weight t w 0) (weight t w 1) (2 ^ 31)
    ∙ (λ i. weights t h u a i * weights t h v b i * weights t h w c i * 2 ^ 31)

entry_there : (t : TableData) → IsTable t → (u v w : ℕ) (c : Position) → Among c corners → IsAtMost (2 ^ 31) (entry_at t (step_of t u + c.x) (step_of t v + c.y) (step_of t w + c.z))
entry_there t h u v w c k =
    let l : Low c = each-among Low c corners lows k in
    entry_within t h (step_of t u + c.x) (step_of t v + c.y) (step_of t w + c.z) (step_within t u c.x l.0) (step_within t v c.y l.1) (step_within t w c.z l.2)

mean_axis : (get : V3 → ℤ) → ((n : ℕ) (e : V3) → IsAtMost n e → unsigned_abs (get e) ≤ n) → (t : TableData) → IsTable t → (u v w : ℕ) → u ≤ 2 ^ 31 → v ≤ 2 ^ 31 → w ≤ 2 ^ 31 →
    unsigned_abs (total_by (λ c. weight t u c.x * weight t v c.y * weight t w c.z · get (entry_at t (step_of t u + c.x) (step_of t v + c.y) (step_of t w + c.z))) corners) ≤ spacing t * spacing t * spacing t * 2 ^ 31
mean_axis get most t h u v w a b c =
    omega (
      arith,
      total_within (λ c. weight t u c.x * weight t v c.y * weight t w c.z · get (entry_at t (step_of t u + c.x) (step_of t v + c.y) (step_of t w + c.z))) (share_of_corner t u v w) corners
          (λ c k. corner_within get t u v w c (entry_at t (step_of t u + c.x) (step_of t v + c.y) (step_of t w + c.z)) (most (2 ^ 31) (entry_at t (step_of t u + c.x) (step_of t v + c.y) (step_of t w + c.z)) (entry_there t h u v w c k))),
      corners_sum t h u v w a b c,
    )

mean_totals : (t : TableData) (u v w : ℕ) → mean t u v w ≡ totals_by (λ c. each (λ e. weight t u c.x * weight t v c.y * weight t w c.z · e) (entry_at t (step_of t u + c.x) (step_of t v + c.y) (step_of t w + c.z))) corners
unfolding mean
mean_totals t u v w = sum_of-totals (λ c. each (λ e. weight t u c.x * weight t v c.y * weight t w c.z · e) (entry_at t (step_of t u + c.x) (step_of t v + c.y) (step_of t w + c.z))) corners

mean_within : (t : TableData) → IsTable t → (u v w : ℕ) → u ≤ 2 ^ 31 → v ≤ 2 ^ 31 → w ≤ 2 ^ 31 → IsAtMost (spacing t * spacing t * spacing t * 2 ^ 31) (mean t u v w)
mean_within t h u v w a b c = subst (IsAtMost (spacing t * spacing t * spacing t * 2 ^ 31)) (sym (mean_totals t u v w)) (record {
  on_x = mean_axis (λ e. e.x) (λ n e m. m.on_x) t h u v w a b c;
  on_y = mean_axis (λ e. e.y) (λ n e m. m.on_y) t h u v w a b c;
  on_z = mean_axis (λ e. e.z) (λ n e m. m.on_z) t h u v w a b c;
})

signed_size : (d e : ℤ) (n : ℕ) → unsigned_abs e ≤ n → unsigned_abs (signed d e) ≤ n
signed_size d e n h = from (int_lt d (pos 0))
  where
    from : (b : Bool) → unsigned_abs (cond b (neg_ℤ e) e) ≤ n
    from true = omega (arith, ints)
    from false = h

pub corrects_little : (t : TableData) → IsTable t → CorrectsLittle (Some t)
unfolding correction
corrects_little t h d near =
    let m : V3 = mean t (unsigned_abs d.x) (unsigned_abs d.y) (unsigned_abs d.z) in
    let cube : ℕ = spacing t * spacing t * spacing t in
    let s : 0 < spacing t = pow_pos (31 - t.g) in
    let some : 1 * 1 * 1 ≤ cube = mul-le (1 * 1) 1 (spacing t * spacing t) (spacing t) (mul-le 1 1 (spacing t) (spacing t) (omega arith) (omega arith)) (omega arith) in
    let k : IsAtMost (cube * 2 ^ 31) m = mean_within t h (unsigned_abs d.x) (unsigned_abs d.y) (unsigned_abs d.z) near.on_x near.on_y near.on_z in
    record {
      on_x = signed_size d.x (m.x ÷ cube) (2 ^ 31) (quot_within m.x cube (2 ^ 31) (omega arith) k.on_x);
      on_y = signed_size d.y (m.y ÷ cube) (2 ^ 31) (quot_within m.y cube (2 ^ 31) (omega arith) k.on_y);
      on_z = signed_size d.z (m.z ÷ cube) (2 ^ 31) (quot_within m.z cube (2 ^ 31) (omega arith) k.on_z);
    }
