-- Fast parts inside each other, as the unfinished evolves of a step have them, and how depths tell them.
use Rattle.std.specs.Prelude.{◌≡◌, ◌≤◌, ⊤, ℕ, ◌+◌, ◌*◌, ◌^◌, List, [], ◌∷◌, ◌++◌, map, filter, Some, None}
use Rattle.std.specs.List.Sorted.{IsStrictlyIncreasing}
use Rattle.nbody_model.specs.Bodies.{BodyData, has, only}
use Rattle.nbody_model.specs.Setups.{SetupData}
use Rattle.nbody_model.specs.Tables.{Rules}
use Rattle.nbody_model.specs.Evolve.{Happening, Asked, Progress, Stepped, Going, Refused, Resting, depths_of, evolve}
use Rattle.nbody_model.specs.States.{StateData, low_zeros, unfinished, unfinished_fast}
use Rattle.nbody_model.specs.Continue.{continue}
use Rattle.model_laws.specs.Preserved.{IsPart}
use Rattle.model_laws.specs.Rests.{head_or}

-- more in front of what happened
abbrev pub led : List Happening → Progress → Progress
led pre p = record p { trail = pre ++ p.trail }

abbrev pub led_step : List Happening → Stepped → Stepped
led_step pre (Going p) = Going (led pre p)
led_step pre (Refused p e) = Refused (led pre p) e
led_step pre (Resting p tick Fs) = Resting (led pre p) tick Fs

abbrev pub ids_of : List BodyData → List ℕ
ids_of B = map (λ b. b.id) B

-- each list is a part of the next, the last one of P, and all of them are parts of the ids, in their order
abbrev pub Nested : List ℕ → List ℕ → List (List ℕ) → Type 0
Nested ids P [] = ⊤
Nested ids P (F ∷ Fs) = (filter (has F) ids ≡ F) × IsPart F (head_or P Fs) × Nested ids P Fs

-- by its depths a state has these fast parts in the bins from c up, each of a step of the next, the last one of P
abbrev pub Tells : SetupData → StateData → List ℕ → ℕ → List (List ℕ) → Type 0
Tells s σ P c [] = ⊤
Tells s σ P c (F ∷ Fs) = (unfinished_fast s σ c ≡ F) × (unfinished s σ c ≡ head_or P Fs) × Tells s σ P (c + 1) Fs

-- ---- a step that was stopped, and the rest of it

-- the rest state of a stopped step, whatever its counters
abbrev pub rest_state : StateData → Progress → ℕ → List (List ℕ) → StateData
rest_state σ q tick Fs = record σ { bodies = q.bodies; depths = depths_of Fs q.bodies; tick = tick }

-- the same end W comes of both: of the step that isn't stopped, behind what happened up to q, and of the rest of the
-- stopped one, behind the force that it asks first
pub record IsFinished (r : Rules) (σ : StateData) (q : Progress) (whole : Stepped) : Type 0 where
  pub end : Stepped
  pub step : whole ≡ led_step q.trail end
  pub rest : continue r None σ (record { bodies = q.bodies; trail = [] }) ≡ led_step (Asked (only q.bodies (unfinished_fast r.gravity.setup σ (low_zeros σ.tick + 1))) ∷ []) end

-- `continue` finishes a base step that was stopped at a resting point as it would have gone on
abbrev pub ContinueFinishes : Type 0
ContinueFinishes = (r : Rules) (u n : ℕ) (σ : StateData) (p q : Progress) (tick : ℕ) (Fs : List (List ℕ)) →
    IsStrictlyIncreasing (ids_of p.bodies) → r.gravity.setup.top_bin ≤ 64 →
    evolve r (Some u) r.gravity.setup.top_bin (ids_of p.bodies) (n * 2 ^ r.gravity.setup.top_bin) p ≡ Resting q tick Fs →
    IsFinished r (rest_state σ q tick Fs) q (evolve r None r.gravity.setup.top_bin (ids_of p.bodies) (n * 2 ^ r.gravity.setup.top_bin) p)
