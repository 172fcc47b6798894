-- Another motion changes no id and no mass.
use Rattle.std.proofs.Common.{◌≡◌, ℕ, zero, suc, ◌<◌, List, [], ◌∷◌, length, map, sum, sum_by, get_or, refl, ap, sym, ◌∙◌, arith}
use Rattle.std.proofs.Math.ListN.{set}
use Rattle.std.proofs.lemmas.List.Sums.{sum-map}
use Rattle.nbody_model.specs.Bodies.{BodyData, MotionData, IsValid}
use Rattle.particle_set.specs.Motions.{with_motion, with_motion_at}
use Rattle.particle_set.specs.Lent.{moved_at}

pub ids-with_motion_at : (bs : List BodyData) (i : ℕ) (m : MotionData) → map (λ b. b.id) (with_motion_at bs i m) ≡ map (λ b. b.id) bs
ids-with_motion_at [] i m = refl
ids-with_motion_at (b ∷ bs) zero m = refl
ids-with_motion_at (b ∷ bs) (suc i) m = ap (λ ks. b.id ∷ ks) (ids-with_motion_at bs i m)

pub length-with_motion_at : (bs : List BodyData) (i : ℕ) (m : MotionData) → length (with_motion_at bs i m) ≡ length bs
length-with_motion_at [] i m = refl
length-with_motion_at (b ∷ bs) zero m = refl
length-with_motion_at (b ∷ bs) (suc i) m = ap suc (length-with_motion_at bs i m)

mass_list-with_motion_at : (bs : List BodyData) (i : ℕ) (m : MotionData) → map (λ b. b.mass) (with_motion_at bs i m) ≡ map (λ b. b.mass) bs
mass_list-with_motion_at [] i m = refl
mass_list-with_motion_at (b ∷ bs) zero m = refl
mass_list-with_motion_at (b ∷ bs) (suc i) m = ap (λ ks. b.mass ∷ ks) (mass_list-with_motion_at bs i m)

pub masses-with_motion_at : (bs : List BodyData) (i : ℕ) (m : MotionData) → sum_by (λ b. b.mass) (with_motion_at bs i m) ≡ sum_by (λ b. b.mass) bs
masses-with_motion_at bs i m = sym (sum-map (λ (b : BodyData). b.mass) (with_motion_at bs i m)) ∙ ap sum (mass_list-with_motion_at bs i m) ∙ sum-map (λ (b : BodyData). b.mass) bs

pub IsValid-with_motion_at : (bs : List BodyData) (i : ℕ) (m : MotionData) → IsValid bs → IsValid (with_motion_at bs i m)
IsValid-with_motion_at bs i m v = record {
  ascending = rw (ids-with_motion_at bs i m) v.ascending;
  few = rw (length-with_motion_at bs i m) v.few;
  light = rw (masses-with_motion_at bs i m) v.light;
}

pub moved_at-body : (bs : List BodyData) (i : ℕ) (m : MotionData) (b : BodyData) → i < length bs → b ≡ get_or bs i b → with_motion b m ≡ moved_at bs i m
moved_at-body [] i m b h e = absurd (omega arith)
moved_at-body (x ∷ bs) zero m b h e = ap (λ y. with_motion y m) e
moved_at-body (x ∷ bs) (suc i) m b h e = moved_at-body bs i m b (omega arith) e

pub set-moved_at : (bs : List BodyData) (i : ℕ) (m : MotionData) → i < length bs → set bs i (moved_at bs i m) ≡ with_motion_at bs i m
set-moved_at [] i m h = absurd (omega arith)
set-moved_at (x ∷ bs) zero m h = refl
set-moved_at (x ∷ bs) (suc i) m h = ap (λ ys. x ∷ ys) (set-moved_at bs i m (omega arith))
