-- Sums of vectors, on one axis.
use Rattle.std.proofs.Common.{◌≡◌, ℕ, ◌<◌, cond, eqb, List, [], ◌∷◌, ◌++◌, refl, ap, ◌∙◌, arith, ℤ, pos, ◌+ℤ◌}
use Rattle.std.specs.List.{flat_map, range_with_len}
use Rattle.std.proofs.lemmas.Int.{ints}
use Rattle.fixed_point.specs.declared.V3.{V3}
use Rattle.fixed_point.specs.Vectors.{origin, sum_of}
use Rattle.model_laws.proofs.Sums.{sum_by-pick}
use Rattle.model_laws.proofs.Signed.{total_by, total-once, sum_of-totals}
use Rattle.rank_laws.proofs.Counted.{sum_range}

pub data Axis : Type 0 where
  OnX : Axis
  OnY : Axis
  OnZ : Axis

abbrev pub on : Axis → V3 → ℤ
on OnX v = v.x
on OnY v = v.y
on OnZ v = v.z

pub on_none : (a : Axis) → on a origin ≡ pos 0
on_none OnX = refl
on_none OnY = refl
on_none OnZ = refl

pub on_sum : {X : Type 0} (a : Axis) (f : X → V3) (xs : List X) → on a (sum_of f xs) ≡ total_by (λ x. on a (f x)) xs
on_sum OnX f xs = ap (λ v. v.x) (sum_of-totals f xs)
on_sum OnY f xs = ap (λ v. v.y) (sum_of-totals f xs)
on_sum OnZ f xs = ap (λ v. v.z) (sum_of-totals f xs)

pub on_each : (u v : V3) → ((a : Axis) → on a u ≡ on a v) → u ≡ v
on_each u v e =
    let x : u.x ≡ v.x = e OnX in
    let y : u.y ≡ v.y = e OnY in
    let z : u.z ≡ v.z = e OnZ in
    λ i. record { x = x i; y = y i; z = z i }

pub total-append : {X : Type 0} (f : X → ℤ) (xs ys : List X) → total_by f (xs ++ ys) ≡ total_by f xs +ℤ total_by f ys
total-append f [] ys = omega (arith, ints)
total-append f (x ∷ xs) ys = omega (arith, ints, total-append f xs ys)

pub total-flat_map : {X Y : Type 0} (f : Y → ℤ) (h : X → List Y) (xs : List X) → total_by f (flat_map h xs) ≡ total_by (λ x. total_by f (h x)) xs
total-flat_map f h [] = refl
total-flat_map f h (x ∷ xs) = omega (arith, ints, total-append f (h x) (flat_map h xs), total-flat_map f h xs)

-- a sum over the ranks of what is nothing but at one
pub total-one_rank : (h n : ℕ) (v : ℤ) → h < n → total_by (λ r. cond (eqb r h) v (pos 0)) (range_with_len 0 n) ≡ v
total-one_rank h n v l = total-once (λ r. eqb r h) v (range_with_len 0 n) (sum_range (λ r. cond (eqb r h) 1 0) n ∙ sum_by-pick (λ k. 1) h n l)
