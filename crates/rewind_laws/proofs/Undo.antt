-- A drift and a kick and their taking back undo each other.
use Rattle.std.proofs.Common.{◌≡◌, ◌<◌, ℕ, ◌+◌, ◌-◌, ◌*◌, ◌%◌, ◌^◌, Bool, true, false, cond, ℤ, pos, negsuc, ◌+ℤ◌, ◌-ℤ◌, ◌*ℤ◌, unsigned_abs, List, [], ◌∷◌, refl, ap, ◌∙◌, arith}
use Rattle.std.specs.List.{AllByRecursion}
use Rattle.std.specs.Int.{int_div_euclid, int_rem_euclid}
use Rattle.std.proofs.lemmas.Int.{ints, int_rem_euclid_is}
use Rattle.fixed_point.specs.declared.V3.{V3}
use Rattle.fixed_point.specs.Vectors.{plus, negative}
use Rattle.cell_space.specs.Cells.{InBox}
use Rattle.nbody_model.specs.Scaling.{◌·◌}
use Rattle.nbody_model.specs.Bodies.{BodyData, has, only}
use Rattle.nbody_model.specs.Setups.{SetupData}
use Rattle.nbody_model.specs.Tables.{Gravity}
use Rattle.nbody_model.specs.Force.{force_at}
use Rattle.nbody_model.specs.Steps.{at_each, drifted, drift, change, kicked_by, kicked_bodies}
use Rattle.model_laws.specs.Still.{still, SamePlaces}
use Rattle.model_laws.proofs.Still.{map-mapped, map-same, momenta_dont_matter, parts_in_place}
use Rattle.rewind_laws.specs.Back.{unkicked_by, unkicked_bodies, undrifted, undrift}

-- ---- a coordinate

-- what a coordinate is after a way, and before it
abbrev onto : ℕ → ℤ → ℕ
onto x z = unsigned_abs (int_rem_euclid (pos x +ℤ z) (pos (2 ^ 32)))

abbrev off : ℕ → ℤ → ℕ
off x z = unsigned_abs (int_rem_euclid (pos x -ℤ z) (pos (2 ^ 32)))

by_rest : (z : ℤ) (k m : ℕ) → z +ℤ pos (k * 2 ^ 32) ≡ pos m → unsigned_abs (int_rem_euclid z (pos (2 ^ 32))) ≡ m % 2 ^ 32
by_rest z k m e = ap unsigned_abs (int_rem_euclid_is z (pos (2 ^ 32)) (2 ^ 32) k m (omega arith) refl e)

onto_up : (x a : ℕ) → onto x (pos a) ≡ (x + a) % 2 ^ 32
onto_up x a = by_rest (pos x +ℤ pos a) 0 (x + a) (omega (arith, ints))

onto_down : (x a : ℕ) → onto x (negsuc a) ≡ (x + ((a + 1) * 2 ^ 32 - (a + 1))) % 2 ^ 32
onto_down x a = by_rest (pos x +ℤ negsuc a) (a + 1) (x + ((a + 1) * 2 ^ 32 - (a + 1))) (omega (arith, ints))

off_up : (x a : ℕ) → off x (pos a) ≡ (x + (a * 2 ^ 32 - a)) % 2 ^ 32
off_up x a = by_rest (pos x -ℤ pos a) a (x + (a * 2 ^ 32 - a)) (omega (arith, ints))

off_down : (x a : ℕ) → off x (negsuc a) ≡ (x + (a + 1)) % 2 ^ 32
off_down x a = by_rest (pos x -ℤ negsuc a) 0 (x + (a + 1)) (omega (arith, ints))

-- up and down again, and down and up again
up_down : (x a : ℕ) → x < 2 ^ 32 → ((x + a) % 2 ^ 32 + (a * 2 ^ 32 - a)) % 2 ^ 32 ≡ x
up_down x a h = omega (arith, h)

down_up : (x a : ℕ) → x < 2 ^ 32 → ((x + (a * 2 ^ 32 - a)) % 2 ^ 32 + a) % 2 ^ 32 ≡ x
down_up x a h = omega (arith, h)

off_onto : (x : ℕ) (z : ℤ) → x < 2 ^ 32 → off (onto x z) z ≡ x
off_onto x (pos a) h = off_up (onto x (pos a)) a ∙ ap (λ y. (y + (a * 2 ^ 32 - a)) % 2 ^ 32) (onto_up x a) ∙ up_down x a h
off_onto x (negsuc a) h = off_down (onto x (negsuc a)) a ∙ ap (λ y. (y + (a + 1)) % 2 ^ 32) (onto_down x a) ∙ down_up x (a + 1) h

onto_off : (x : ℕ) (z : ℤ) → x < 2 ^ 32 → onto (off x z) z ≡ x
onto_off x (pos a) h = onto_up (off x (pos a)) a ∙ ap (λ y. (y + a) % 2 ^ 32) (off_up x a) ∙ down_up x a h
onto_off x (negsuc a) h = onto_down (off x (negsuc a)) a ∙ ap (λ y. (y + ((a + 1) * 2 ^ 32 - (a + 1))) % 2 ^ 32) (off_down x a) ∙ up_down x (a + 1) h

-- ---- a momentum

kick_less : (p d : ℤ) → (p +ℤ d) -ℤ d ≡ p
kick_less p d = omega (arith, ints)

less_kick : (p d : ℤ) → (p -ℤ d) +ℤ d ≡ p
less_kick p d = omega (arith, ints)

-- ---- a body

-- a body after a kick, and before one
abbrev pub pushed : ℕ → (BodyData → V3) → BodyData → BodyData
pushed h v b = record b { motion = record { pos = b.motion.pos; mom = kicked_by h b.motion.mom (v b) } }

abbrev pub pulled : ℕ → (BodyData → V3) → BodyData → BodyData
pulled h v b = record b { motion = record { pos = b.motion.pos; mom = unkicked_by h b.motion.mom (v b) } }

with_mom : BodyData → V3 → BodyData
with_mom b p = record b { motion = record { pos = b.motion.pos; mom = p } }

pulled_pushed : (h : ℕ) (v w : BodyData → V3) (b : BodyData) → w (pushed h v b) ≡ v b → pulled h w (pushed h v b) ≡ b
unfolding with_mom
pulled_pushed h v w b e =
    (λ i. with_mom b (unkicked_by h (kicked_by h b.motion.mom (v b)) (e i))) ∙
    (λ i. with_mom b (record { x = kick_less b.motion.mom.x (pos h *ℤ (v b).x) i; y = kick_less b.motion.mom.y (pos h *ℤ (v b).y) i; z = kick_less b.motion.mom.z (pos h *ℤ (v b).z) i }))

pushed_pulled : (h : ℕ) (v w : BodyData → V3) (b : BodyData) → w (pulled h v b) ≡ v b → pushed h w (pulled h v b) ≡ b
unfolding with_mom
pushed_pulled h v w b e =
    (λ i. with_mom b (kicked_by h (unkicked_by h b.motion.mom (v b)) (e i))) ∙
    (λ i. with_mom b (record { x = less_kick b.motion.mom.x (pos h *ℤ (v b).x) i; y = less_kick b.motion.mom.y (pos h *ℤ (v b).y) i; z = less_kick b.motion.mom.z (pos h *ℤ (v b).z) i }))

undrifted_drifted : (s : SetupData) (ticks : ℕ) (b : BodyData) → InBox b.motion.pos → undrifted s ticks (drifted s ticks b) ≡ b
undrifted_drifted s ticks b h =
    let mass = b.mass * 2 ^ s.velocity_shift in
    let way : ℤ → ℤ = λ p. int_div_euclid (ticks · p) (pos mass) in
    λ i. record b {
      motion = record {
        pos = record { x = off_onto b.motion.pos.x (way b.motion.mom.x) h.below_x i; y = off_onto b.motion.pos.y (way b.motion.mom.y) h.below_y i; z = off_onto b.motion.pos.z (way b.motion.mom.z) h.below_z i };
        mom = b.motion.mom;
      };
    }

drifted_undrifted : (s : SetupData) (ticks : ℕ) (b : BodyData) → InBox b.motion.pos → drifted s ticks (undrifted s ticks b) ≡ b
drifted_undrifted s ticks b h =
    let mass = b.mass * 2 ^ s.velocity_shift in
    let way : ℤ → ℤ = λ p. int_div_euclid (ticks · p) (pos mass) in
    λ i. record b {
      motion = record {
        pos = record { x = onto_off b.motion.pos.x (way b.motion.mom.x) h.below_x i; y = onto_off b.motion.pos.y (way b.motion.mom.y) h.below_y i; z = onto_off b.motion.pos.z (way b.motion.mom.z) h.below_z i };
        mom = b.motion.mom;
      };
    }

-- ---- some bodies change

undone_step : (P : List ℕ) (f g : BodyData → BodyData) (b : BodyData) (t : Bool) → has P b.id ≡ t → (f b).id ≡ b.id → g (f b) ≡ b →
    cond (has P (cond t (f b) b).id) (g (cond t (f b) b)) (cond t (f b) b) ≡ b
undone_step P f g b true e same undo = (λ i. cond ((ap (has P) same ∙ e) i) (g (f b)) (f b)) ∙ undo
undone_step P f g b false e same undo = λ i. cond (e i) (g b) b

-- where g undoes f on each body
pub undone : (P : List ℕ) (f g : BodyData → BodyData) → ((b : BodyData) → (f b).id ≡ b.id) → (B : List BodyData) → AllByRecursion (λ b. g (f b) ≡ b) B → at_each P g (at_each P f B) ≡ B
undone P f g same [] a = refl
undone P f g same (b ∷ B) a = λ i. undone_step P f g b (has P b.id) refl (same b) a.0 i ∷ undone P f g same B a.1 i

all_from : {X : Type 0} (Q R : X → Type 0) → ((x : X) → Q x → R x) → (xs : List X) → AllByRecursion Q xs → AllByRecursion R xs
all_from Q R f [] a = tt
all_from Q R f (x ∷ xs) a = (f x a.0, all_from Q R f xs a.1)

all_of : {X : Type 0} (R : X → Type 0) → ((x : X) → R x) → (xs : List X) → AllByRecursion R xs
all_of R f [] = tt
all_of R f (x ∷ xs) = (f x, all_of R f xs)

pub drift_undone : (s : SetupData) (P : List ℕ) (ticks : ℕ) (B : List BodyData) → AllByRecursion (λ b. InBox b.motion.pos) B → undrift s P ticks (drift s P ticks B) ≡ B
drift_undone s P ticks B a =
    undone P (drifted s ticks) (undrifted s ticks) (λ b. refl) B (all_from (λ b. InBox b.motion.pos) (λ b. undrifted s ticks (drifted s ticks b) ≡ b) (undrifted_drifted s ticks) B a)

pub undrift_redone : (s : SetupData) (P : List ℕ) (ticks : ℕ) (B : List BodyData) → AllByRecursion (λ b. InBox b.motion.pos) B → drift s P ticks (undrift s P ticks B) ≡ B
undrift_redone s P ticks B a =
    undone P (undrifted s ticks) (drifted s ticks) (λ b. refl) B (all_from (λ b. InBox b.motion.pos) (λ b. drifted s ticks (undrifted s ticks b) ≡ b) (drifted_undrifted s ticks) B a)

-- ---- changes don't look at momenta

pub change_still : (g : Gravity) (P F : List ℕ) (B C : List BodyData) → SamePlaces B C → (b c : BodyData) → still b ≡ still c → change g P F B b ≡ change g P F C c
unfolding change
change_still g P F B C e b c d =
    let slow : force_at g (only B P) b ≡ force_at g (only C P) c = (momenta_dont_matter g (only B P) (only C P) (parts_in_place P B C e)).each b c d in
    let quick : force_at g (only B F) b ≡ force_at g (only C F) c = (momenta_dont_matter g (only B F) (only C F) (parts_in_place F B C e)).each b c d in
    λ i. cond (has F (d i).id) (plus (slow i) (negative (quick i))) (slow i)

still_step : (f : BodyData → BodyData) → ((b : BodyData) → still (f b) ≡ still b) → (b : BodyData) (t : Bool) → still (cond t (f b) b) ≡ still b
still_step f e b true = e b
still_step f e b false = refl

pub at_each_still : (P : List ℕ) (f : BodyData → BodyData) → ((b : BodyData) → still (f b) ≡ still b) → (B : List BodyData) → SamePlaces (at_each P f B) B
at_each_still P f e B = map-mapped still (λ b. cond (has P b.id) (f b) b) B ∙ map-same (λ b. still (cond (has P b.id) (f b) b)) still (λ b. still_step f e b (has P b.id)) B

pub kick_undone : (g : Gravity) (P F : List ℕ) (h : ℕ) (B : List BodyData) → let C = kicked_bodies h P (change g P F B) B in unkicked_bodies h P (change g P F C) C ≡ B
kick_undone g P F h B =
    let v = change g P F B in
    let C = kicked_bodies h P v B in
    let w = change g P F C in
    let same : SamePlaces C B = at_each_still P (pushed h v) (λ b. refl) B in
    undone P (pushed h v) (pulled h w) (λ b. refl) B (all_of (λ b. pulled h w (pushed h v b) ≡ b) (λ b. pulled_pushed h v w b (change_still g P F C B same (pushed h v b) b refl)) B)

pub unkick_redone : (g : Gravity) (P F : List ℕ) (h : ℕ) (B : List BodyData) → let A = unkicked_bodies h P (change g P F B) B in kicked_bodies h P (change g P F A) A ≡ B
unkick_redone g P F h B =
    let v = change g P F B in
    let A = unkicked_bodies h P v B in
    let w = change g P F A in
    let same : SamePlaces A B = at_each_still P (pulled h v) (λ b. refl) B in
    undone P (pulled h v) (pushed h w) (λ b. refl) B (all_of (λ b. pushed h w (pulled h v b) ≡ b) (λ b. pushed_pulled h v w b (change_still g P F A B same (pulled h v b) b refl)) B)
