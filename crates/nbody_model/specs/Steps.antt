-- The step rule, the drift and the kick (GADGET's leapfrog in powers of two; the rule's test and the kick of a part
-- of the bodies by the forces among that part alone are this project's own).
use Rattle.std.specs.Prelude.{ℕ, ◌+◌, ◌*◌, ◌/◌, ◌^◌, ℤ, pos, ◌+ℤ◌, unsigned_abs, Bool, not, nat_le, List, [], ◌∷◌, map, filter, Option, Some, None, if◌then◌else◌}
use Rattle.std.specs.Int.{int_div_euclid, int_rem_euclid}
use Rattle.fixed_point.specs.declared.V3.{V3}
use Rattle.fixed_point.specs.Fixed.{kicked}
use Rattle.fixed_point.specs.Vectors.{plus, negative}
use Rattle.nbody_model.specs.Scaling.{◌·◌}
use Rattle.nbody_model.specs.Bodies.{BodyData, has, only}
use Rattle.nbody_model.specs.Setups.{SetupData}
use Rattle.nbody_model.specs.Tables.{Gravity}
use Rattle.nbody_model.specs.Moments.{soft_of}
use Rattle.nbody_model.specs.Force.{force_at}

-- ---- the step rule

-- the size of a force: its components without signs, added up
abbrev pub size : V3 → ℕ
size f = unsigned_abs f.x + unsigned_abs f.y + unsigned_abs f.z

-- how large the force on a body may be, times 4^bin
abbrev pub allowance : SetupData → BodyData → ℕ
allowance s b = 2 * s.eta * soft_of s b * b.mass * 2 ^ s.velocity_shift / 65536

-- a body with a force may make steps of 2^bin ticks
abbrev pub fits : SetupData → BodyData → V3 → ℕ → Bool
fits s b f bin = nat_le (size f * 4 ^ bin) (allowance s b)

-- the ids of those of B that don't fit a bin, by the forces among B
unfoldable pub fast : Gravity → ℕ → List BodyData → List ℕ
fast g bin B = map (λ b. b.id) (filter (λ b. not (fits g.setup b (force_at g B b) bin)) B)

-- ---- a part of the bodies, by their ids

-- f at the bodies whose ids are in P, the others as they are
abbrev pub at_each : List ℕ → (BodyData → BodyData) → List BodyData → List BodyData
at_each P f B = map (λ b. if has P b.id then f b else b) B

-- P without F
abbrev pub without : List ℕ → List ℕ → List ℕ
without F P = filter (λ id. not (has F id)) P

-- ---- the drift

-- a coordinate after a drift by a number of ticks: the mass is in units of 2^-shift
abbrev pub drifted_axis : ℕ → ℕ → ℕ → ℤ → ℕ
drifted_axis ticks mass x p = unsigned_abs (int_rem_euclid (pos x +ℤ int_div_euclid (ticks · p) (pos mass)) (pos (2 ^ 32)))

-- a body after a drift: each coordinate goes on by floor (p · ticks / (m · 2^shift)), round the box
abbrev pub drifted : SetupData → ℕ → BodyData → BodyData
drifted s ticks b =
    let mass = b.mass * 2 ^ s.velocity_shift in
    let from = b.motion.pos in
    let mom = b.motion.mom in
    record b {
      motion = record {
        pos = record { x = drifted_axis ticks mass from.x mom.x; y = drifted_axis ticks mass from.y mom.y; z = drifted_axis ticks mass from.z mom.z };
        mom = mom;
      };
    }

-- all bodies, after those of P drifted
abbrev pub drift : SetupData → List ℕ → ℕ → List BodyData → List BodyData
drift s P ticks B = at_each P (drifted s ticks) B

-- ---- the kick

-- what the forces among P change in a body, less those among F where it is in F
unfoldable pub change : Gravity → List ℕ → List ℕ → List BodyData → BodyData → V3
change g P F B b =
    let slow = force_at g (only B P) b in
    let quick = force_at g (only B F) b in
    if has F b.id then plus slow (negative quick) else slow

-- a momentum after a kick by h
abbrev pub kicked_by : ℕ → V3 → V3 → V3
kicked_by h p v = record { x = kicked p.x h v.x; y = kicked p.y h v.y; z = kicked p.z h v.z }

-- all bodies, after those of P got h times their change
abbrev pub kicked_bodies : ℕ → List ℕ → (BodyData → V3) → List BodyData → List BodyData
kicked_bodies h P v B = at_each P (λ b. record b { motion = record { pos = b.motion.pos; mom = kicked_by h b.motion.mom (v b) } }) B

-- a component of a momentum is within ±2^62
abbrev pub is_momentum : ℤ → Bool
is_momentum p = nat_le (unsigned_abs p) (2 ^ 62)

-- the first axis (0, 1, 2) on which a momentum is out of range
abbrev pub axis_out : V3 → Option ℕ
axis_out p = if not (is_momentum p.x) then Some 0 else (if not (is_momentum p.y) then Some 1 else (if not (is_momentum p.z) then Some 2 else None))

-- the first body whose momentum is out of range, by its id, and its first such axis
abbrev pub first_out : List BodyData → Option (ℕ × ℕ)
first_out [] = None
first_out (b ∷ B) =
    let later = first_out B in
    elim (axis_out b.motion.mom) [ Some axis ↦ Some (b.id, axis) | None ↦ later ]
