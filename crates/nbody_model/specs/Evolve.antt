-- The recursion over bins: steps of 2^bin ticks, with finer steps for the bodies that need them. This project's own
-- scheme, also in that a kick uses the forces among the bodies of its own evolve alone; GADGET's is hierarchical too.
use Rattle.std.specs.Prelude.{ℕ, zero, suc, ◌+◌, ◌-◌, ◌^◌, Bool, true, false, not, ◌&&◌, ◌==◌, List, [], ◌∷◌, ◌++◌, length, slice_index, count_by, map, Option, Some, None, if◌then◌else◌}
use Rattle.std.specs.List.{flat_map}
use Rattle.nbody_model.specs.declared.kicks.Record.{Record}
use Rattle.nbody_model.specs.Bodies.{BodyData, has, only, total}
use Rattle.nbody_model.specs.Tables.{Rules}
use Rattle.nbody_model.specs.Covers.{opening_of, interactions}
use Rattle.nbody_model.specs.Factors.{kick_factor, drift_factor}
use Rattle.nbody_model.specs.Steps.{fast, without, drift, change, kicked_bodies, first_out}

-- ---- what happens in a step

-- the fast part of an evolve is known, by its ids; the forces among some bodies are asked; a kick is made; a
-- resting point is reached, by its tick
pub data Happening : Type 0 where
  Binned : List ℕ → Happening
  Asked : List BodyData → Happening
  Kicked : Record → Happening
  Rested : ℕ → Happening

-- the bodies now, and what happened, in order
pub record Progress : Type 0 where
  pub bodies : List BodyData
  pub trail : List Happening

abbrev pub tell : Happening → Progress → Progress
tell what p = record p { trail = p.trail ++ what ∷ [] }

-- of what happened the kicks, the bodies among which forces were asked, the fast parts and the resting points, in order
abbrev pub record_in : Happening → List Record
record_in (Kicked entry) = entry ∷ []
record_in (Binned F) = []
record_in (Asked B) = []
record_in (Rested tick) = []

abbrev pub records_of : List Happening → List Record
records_of trail = flat_map record_in trail

abbrev pub asked_in : Happening → List (List BodyData)
asked_in (Asked B) = B ∷ []
asked_in (Binned F) = []
asked_in (Kicked entry) = []
asked_in (Rested tick) = []

abbrev pub asked_of : List Happening → List (List BodyData)
asked_of trail = flat_map asked_in trail

abbrev pub bins_in : Happening → List (List ℕ)
bins_in (Binned F) = F ∷ []
bins_in (Asked B) = []
bins_in (Kicked entry) = []
bins_in (Rested tick) = []

abbrev pub bins_of : List Happening → List (List ℕ)
bins_of trail = flat_map bins_in trail

abbrev pub rest_in : Happening → List ℕ
rest_in (Rested tick) = tick ∷ []
rest_in (Binned F) = []
rest_in (Asked B) = []
rest_in (Kicked entry) = []

abbrev pub rests_of : List Happening → List ℕ
rests_of trail = flat_map rest_in trail

-- why a run is refused: a momentum out of range, at a tick, in a bin, by the least id and its least axis; or no bin
-- that is short enough, at a tick, by the least id
pub data Refusal : Type 0 where
  MomRange : ℕ → ℕ → ℕ → ℕ → Refusal
  StepRange : ℕ → ℕ → Refusal

-- how a step ends: it goes on; it is refused; or it was stopped at the resting point of a tick, and these are the
-- fast parts of the unfinished evolves, those of the least bin first
pub data Stepped : Type 0 where
  Going : Progress → Stepped
  Refused : Progress → Refusal → Stepped
  Resting : Progress → ℕ → List (List ℕ) → Stepped

-- what goes on, goes on by f
infixl 10 ◌>>=◌
abbrev pub ◌>>=◌ : Stepped → (Progress → Stepped) → Stepped
Going p >>= f = f p
Refused p e >>= f = Refused p e
Resting p tick Fs >>= f = Resting p tick Fs

-- inside the unfinished evolves with these fast parts
abbrev pub inside : List (List ℕ) → Stepped → Stepped
inside Gs (Going p) = Going p
inside Gs (Refused p e) = Refused p e
inside Gs (Resting p tick Fs) = Resting p tick (Fs ++ Gs)

-- the depth of a body: the number of unfinished evolves whose fast part holds it
abbrev pub depths_of : List (List ℕ) → List BodyData → List ℕ
depths_of Fs B = map (λ b. count_by (λ F. has F b.id) Fs) B

-- ---- the parts of an evolve

abbrev pub is_empty : {X : Type 0} → List X → Bool
is_empty [] = true
is_empty (_ ∷ _) = false

-- F, a part of P, isn't all of P
abbrev pub is_less : List ℕ → List ℕ → Bool
is_less F P = not (length F == length P)

-- the force among the bodies of P is asked, where the condition holds
abbrev pub ask_if : Bool → List ℕ → Progress → Progress
ask_if true P p = tell (Asked (only p.bodies P)) p
ask_if false P p = p

-- what is told of a kick of P with the fast part F: the counts by the bodies B before it, whom it doesn't move, and the
-- total momentum of the bodies C after it
abbrev pub record_of : Rules → ℕ → ℕ → List ℕ → List ℕ → List BodyData → List BodyData → Record
record_of r tick bin P F B C =
    let slow = only B P in
    let quick = only B F in
    let sum = total C in
    record {
      tick = tick;
      bin = bin;
      whole = length slow;
      fast = length quick;
      pairs = length (interactions (opening_of r.gravity.setup slow));
      fast_pairs = length (interactions (opening_of r.gravity.setup quick));
      total = sum.x ∷ sum.y ∷ sum.z ∷ [];
    }

-- the kick of P by h in a bin at a tick, with the fast part F: all or nothing, and by h = 0 nothing is refused
unfoldable pub kick : Rules → ℕ → List ℕ → List ℕ → ℕ → ℕ → Progress → Stepped
kick r bin P F tick h p =
    let kicked = kicked_bodies h P (change r.gravity P F p.bodies) p.bodies in
    let out : Option (ℕ × ℕ) = if h == 0 then None else first_out (only kicked P) in
    elim out [
      | Some first ↦ Refused p (MomRange tick bin first.0 first.1)
      | None ↦ Going (tell (Kicked (record_of r tick bin P F p.bodies kicked)) (record p { bodies = kicked }))
    ]

-- a resting point: the run rests here where this is the tick to stop at
abbrev pub rest : Option ℕ → ℕ → Progress → Stepped
rest stop tick p =
    let told = tell (Rested tick) p in
    elim stop [ Some s ↦ if s == tick then Resting told tick [] else Going told | None ↦ Going told ]

-- the second half of the step of P with the fast part F that began at t, from the finer steps on: the others drift,
-- and P is kicked at the positions reached, by forces that are asked unless they are known
unfoldable pub close : Rules → ℕ → List ℕ → List ℕ → ℕ → Progress → Stepped
close r bin P F t p =
    let half = 2 ^ (bin - 1) in
    let end = t + 2 ^ bin in
    let ticks = drift_factor r.expansion t end in
    let moved = record p { bodies = drift r.gravity.setup (without F P) ticks p.bodies } in
    kick r bin P F end (kick_factor r.expansion (t + half) end) (ask_if (is_less F P) P moved)

-- between the two kicks the fast part, if there is one, makes two finer steps, with a resting point between them
unfoldable pub between : Option ℕ → (List ℕ → ℕ → Progress → Stepped) → ℕ → List ℕ → ℕ → Progress → Stepped
between stop finer bin F t p =
    let half = 2 ^ (bin - 1) in
    if is_empty F then Going p else
    inside (F ∷ []) (finer F t p >>= (λ q. rest stop (t + half) q) >>= (λ q. finer F (t + half) q))

-- a step of P in a bin from t on, by the finer steps of the bin below
unfoldable pub step_by : Rules → Option ℕ → (List ℕ → ℕ → Progress → Stepped) → ℕ → List ℕ → ℕ → Progress → Stepped
step_by r stop finer bin P t p =
    let half = 2 ^ (bin - 1) in
    let F = fast r.gravity bin (only p.bodies P) in
    let known = ask_if (not (is_empty F) && is_less F P) F (tell (Binned F) p) in
    let first = kick r bin P F t (kick_factor r.expansion t (t + half)) known in
    if bin == r.gravity.setup.low_bin && not (is_empty F) then Refused p (StepRange t (slice_index F 0)) else
    (first >>= (λ q. between stop finer bin F t q) >>= (λ q. close r bin P F t q))

-- a step of 2^bin ticks of the bodies of P, from tick t on; it is stopped at the resting point of the tick `stop`.
-- Before it the force among P is known, and it ends with that force known at the new positions
unfoldable pub evolve : Rules → Option ℕ → ℕ → List ℕ → ℕ → Progress → Stepped
evolve r stop zero P t p = Going p
evolve r stop (suc c) P t p = step_by r stop (evolve r stop c) (c + 1) P t p
