-- Worked cases: what the definitions give for small lists of bodies, number by number.
use Rattle.std.specs.Prelude.{◌≡◌, ◌^◌, ℤ, ℕ, pos, negsuc, true, false, List, [], ◌∷◌, map, length, replicate, set, codes, None, Some}
use Rattle.fixed_point.specs.declared.V3.{V3}
use Rattle.fixed_point.specs.Vectors.{origin}
use Rattle.std.specs.List.{flat_map}
use Rattle.nbody_model.specs.Bodies.{BodyData}
use Rattle.nbody_model.specs.Tables.{TableData, Gravity, ExpansionData}
use Rattle.nbody_model.specs.Correction.{correction}
use Rattle.nbody_model.specs.Covers.{opening_of, interactions}
use Rattle.nbody_model.specs.Walks.{found}
use Rattle.nbody_model.specs.Force.{share, forces}
use Rattle.nbody_model.specs.Steps.{fits}
use Rattle.nbody_model.specs.Evolve.{MomRange, StepRange}
use Rattle.nbody_model.specs.States.{StateData}
use Rattle.nbody_model.specs.Session.{Plan, Written, Snapshot, Restart, SessionData, Done, Stopped, OutOfRange, session, records, asked, bins}
use Rattle.nbody_model.specs.Texts.{kick_text, bins_text, numbered}
use Rattle.nbody_model.specs.RestartText.{restart_text}

-- ---- bodies and setups

-- kind 1, with an id, a mass and a position, at rest
abbrev pub at_rest : ℕ → ℕ → ℕ → ℕ → BodyData
at_rest id mass x y = record { id = id; kind = 1; mass = mass; motion = record { pos = record { x = x; y = y; z = 0 }; mom = origin } }

-- two bodies of mass 1024 at x = 0 and x = 1000
abbrev pub two_bodies : List BodyData
two_bodies = at_rest 1 1024 0 0 ∷ at_rest 2 1024 1000 0 ∷ []

-- three bodies of mass 2^20: two of them at 2^29 from each other, the third one at a height
abbrev pub three_bodies : ℕ → List BodyData
three_bodies height = at_rest 1 1048576 0 0 ∷ at_rest 2 1048576 536870912 0 ∷ at_rest 3 1048576 268435456 height ∷ []

-- all softening lengths are this one
abbrev pub soft_lengths : ℕ → List ℕ
soft_lengths eps = 256 ∷ replicate 5 eps

-- an opening angle in 1/256 and a constant of gravity; a step of 2 ticks
abbrev pub gravity_of : ℕ → ℕ → Gravity
gravity_of theta gravity = record {
  setup = record { time_max = 2; low_bin = 1; top_bin = 1; theta = theta; eta = 65536; gravity = gravity; velocity_shift = 20; soft = soft_lengths 256 };
  table = None;
}

-- no opening angle and a constant of gravity of 2^20; the last tick, both bins, the shift of velocities and the
-- accuracy of steps
abbrev pub plan_of : ℕ → ℕ → ℕ → ℕ → ℕ → Plan
plan_of time_max low top shift eta = record {
  rules = record {
    gravity = record {
      setup = record { time_max = time_max; low_bin = low; top_bin = top; theta = 0; eta = eta; gravity = 1048576; velocity_shift = shift; soft = soft_lengths 256 };
      table = None;
    };
    expansion = None;
  };
  times = [];
  restart_every = 0;
}

-- a run of these bodies from tick 0, stopped at a tick or not
abbrev pub start : List BodyData → StateData
start B = record { bodies = B; depths = []; steps = 0; tick = 0; next_snapshot = 0; next_restart = 0; kicks = 0; interactions = 0 }

abbrev pub run_of : Plan → List BodyData → SessionData
run_of plan B = session plan false None (start B)

abbrev pub along_x : ℤ → V3
along_x f = record { x = f; y = pos 0; z = pos 0 }

abbrev pub places : List BodyData → List ℕ
places B = map (λ b. b.motion.pos.x) B

abbrev pub momenta : List BodyData → List ℤ
momenta B = map (λ b. b.motion.mom.x) B

-- ---- forces

-- two bodies 1000 apart attract each other by 999889
abbrev pub ForcesOfTwo : Type 0
ForcesOfTwo = forces (gravity_of 0 1048576) two_bodies ≡ along_x (pos 999889) ∷ along_x (negsuc 999888) ∷ []

-- and likewise across the edge of the box
abbrev pub ForcesAcross : Type 0
ForcesAcross =
    forces (gravity_of 0 1048576) (at_rest 1 1024 4294966796 0 ∷ at_rest 2 1024 500 0 ∷ []) ≡ along_x (pos 999889) ∷ along_x (negsuc 999888) ∷ []

-- half the box apart both ways are as long: the body of smaller corner is drawn to the lower side
abbrev pub ForcesAtHalf : Type 0
ForcesAtHalf =
    forces (gravity_of 0 4294967296) (at_rest 1 1048576 0 0 ∷ at_rest 2 1048576 2147483648 0 ∷ []) ≡ along_x (negsuc 1022) ∷ along_x (pos 1023) ∷ []

-- three bodies at one position share a force of 2: the smaller ids are served first
abbrev pub ForcesOfLeaf : Type 0
ForcesOfLeaf =
    forces (gravity_of 0 1048576) (at_rest 1 1 0 0 ∷ at_rest 2 1 0 0 ∷ at_rest 3 1 0 0 ∷ at_rest 4 1 1000 0 ∷ []) ≡
    along_x (pos 1) ∷ along_x (pos 1) ∷ along_x (pos 0) ∷ along_x (negsuc 1) ∷ []

-- two bodies far enough from a third act on it as a whole, by masses and second moments
abbrev pub ForcesOpened : Type 0
ForcesOpened =
    forces (gravity_of 256 4294967296) (three_bodies 1610612736) ≡
    record { x = pos 16383; y = pos 1745; z = pos 0 } ∷ record { x = negsuc 16382; y = pos 1744; z = pos 0 } ∷ record { x = pos 0; y = negsuc 3488; z = pos 0 } ∷ []

-- how many pairs act on each other, and how many a walk finds
abbrev pub acting : List BodyData → ℕ
acting B = length (interactions (opening_of (gravity_of 256 4294967296).setup B))

abbrev pub walked : List BodyData → ℕ
walked B = length (found (opening_of (gravity_of 256 4294967296).setup B))

-- there are two interactions then; where both sides of the opening rule are equal there are three
abbrev pub AcceptedAndNot : Type 0
AcceptedAndNot = acting (three_bodies 1610612736) ∷ walked (three_bodies 1610612736) ∷ acting (three_bodies 1073741824) ∷ walked (three_bodies 1073741824) ∷ [] ≡ 2 ∷ 2 ∷ 3 ∷ 3 ∷ []

-- the shares of -7 among three equal members
abbrev pub SharesOfMinusSeven : Type 0
SharesOfMinusSeven =
    let ms = at_rest 1 1 0 0 ∷ at_rest 2 1 0 0 ∷ at_rest 3 1 0 0 ∷ [] in
    map (share ms (negsuc 6)) ms ≡ negsuc 1 ∷ negsuc 1 ∷ negsuc 2 ∷ []

-- a table of two steps to half the box that has one entry other than 0, at a quarter of the box on x: the correction
-- there, and half way to it on the other side
abbrev pub small_table : TableData
small_table = record { g = 1; entries = set (replicate 27 origin) 1 (along_x (pos 1073741824)) }

abbrev pub Corrections : Type 0
Corrections =
    correction small_table (along_x (pos 1073741824)) ∷ correction small_table (along_x (negsuc 536870911)) ∷ [] ≡
    along_x (pos 1073741824) ∷ along_x (negsuc 536870911) ∷ []

-- ---- steps

-- a force of 999904 fits bin 1 here, and one of 999905 doesn't
abbrev pub FitsAtEdge : Type 0
FitsAtEdge =
    let s = (plan_of 2 1 1 4 31247).rules.gravity.setup in
    let b = at_rest 1 1024 0 0 in
    fits s b (along_x (pos 999904)) 1 ∷ fits s b (along_x (pos 999905)) 1 ∷ [] ≡ true ∷ false ∷ []

-- one base step of two bodies: a kick, a drift of -1 for the one that moves to the lower side, and a second kick
abbrev pub OneStep : Type 0
OneStep =
    let d = run_of (plan_of 2 1 1 20 65536) two_bodies in
    (places d.state.bodies ≡ 0 ∷ 999 ∷ []) × (momenta d.state.bodies ≡ pos 2001626 ∷ negsuc 2001625 ∷ [])

-- with a table of factors 0, then 1 for kicks and 0, then 2 for drifts, only the second kick counts
abbrev pub late_kicks : ExpansionData
late_kicks = record { s = 1; entries = record { kick = 0; drift = 0 } ∷ record { kick = 1; drift = 2 } ∷ [] }

abbrev pub ByFactors : Type 0
ByFactors =
    let plan = plan_of 2 1 1 20 65536 in
    let d = run_of (record plan { rules = record { gravity = plan.rules.gravity; expansion = Some late_kicks } }) two_bodies in
    (places d.state.bodies ≡ 0 ∷ 1000 ∷ []) × (momenta d.state.bodies ≡ pos 999889 ∷ negsuc 999888 ∷ [])

-- two bodies that don't fit bin 2 make two steps in bin 1: their places, their six kicks, three forces asked, and the
-- fast parts
abbrev pub two_bins : SessionData
two_bins = run_of (plan_of 4 1 2 4 65536) two_bodies

abbrev pub TwoBins : Type 0
TwoBins =
    (places two_bins.state.bodies ≡ 644 ∷ 354 ∷ []) ×
    (kick_text (records two_bins) ≡ codes "0 2 2 2 1 1 0 0 0\n0 1 2 0 1 0 0 0 0\n2 1 2 0 1 0 0 0 0\n2 1 2 0 1 0 0 0 0\n4 1 2 0 1 0 0 0 0\n4 2 2 2 1 1 0 0 0\n")

abbrev pub TwoBinsAsked : Type 0
TwoBinsAsked =
    (map places (asked two_bins) ≡ (0 ∷ 1000 ∷ []) ∷ (122 ∷ 877 ∷ []) ∷ (644 ∷ 354 ∷ []) ∷ []) ×
    (bins two_bins ≡ (1 ∷ 2 ∷ []) ∷ [] ∷ [] ∷ [])

-- where no bin is short enough the run ends at once
abbrev pub StepRefused : Type 0
StepRefused =
    let d = run_of (plan_of 2 1 1 4 31246) two_bodies in
    (d.end ≡ OutOfRange (StepRange 0 1)) × (records d ≡ [])

-- a momentum of 2^62 that would rise is refused, after the snapshot of tick 0
abbrev pub MomentumRefused : Type 0
MomentumRefused =
    let plan = plan_of 2 1 1 20 65536 in
    let b : BodyData = record { id = 1; kind = 1; mass = 1024; motion = record { pos = record { x = 0; y = 0; z = 0 }; mom = along_x (pos (2 ^ 62)) } } in
    let d = run_of (record plan { times = 0 ∷ [] }) (b ∷ at_rest 2 1024 1000 0 ∷ []) in
    (d.end ≡ OutOfRange (MomRange 0 1 1 0)) × (records d ≡ []) × (length d.written ≡ 1)

-- ---- sessions

-- stopped at the resting point of tick 2, the run with two bins has done three kicks, and both bodies are in one
-- unfinished evolve
abbrev pub stopped : SessionData
stopped = session (plan_of 4 1 2 4 65536) false (Some 2) (start two_bodies)

abbrev pub StoppedInside : Type 0
StoppedInside =
    let σ = stopped.state in
    (stopped.end ≡ Stopped) ×
    (places σ.bodies ≡ 122 ∷ 877 ∷ []) ×
    (momenta σ.bodies ≡ pos 2638708 ∷ negsuc 2638707 ∷ []) ×
    (σ.depths ≡ 1 ∷ 1 ∷ []) ×
    (σ.kicks ∷ σ.interactions ∷ [] ≡ 3 ∷ 4 ∷ []) ×
    (length (restart_text σ (plan_of 4 1 2 4 65536).rules.gravity.setup) ≡ 288)

-- resumed from there it makes the later three, and ends as the run that wasn't stopped
abbrev pub ResumedInside : Type 0
ResumedInside =
    let d = session (plan_of 4 1 2 4 65536) true None stopped.state in
    (d.end ≡ Done) ×
    (places d.state.bodies ≡ 644 ∷ 354 ∷ []) ×
    (kick_text (records d) ≡ codes "2 1 2 0 1 0 0 0 0\n4 1 2 0 1 0 0 0 0\n4 2 2 2 1 1 0 0 0\n")

-- four base steps of 1024 ticks to the last tick 4000, with five listed times and a restart file after each second
-- step: the files by their numbers and ticks
abbrev pub listed_plan : Plan
listed_plan = record {
  rules = record {
    gravity = record {
      setup = record { time_max = 4000; low_bin = 4; top_bin = 10; theta = 180; eta = 1638; gravity = 1048576; velocity_shift = 20; soft = 256 ∷ 4096 ∷ replicate 4 8192 };
      table = None;
    };
    expansion = None;
  };
  times = 0 ∷ 1000 ∷ 1500 ∷ 1600 ∷ 9000 ∷ [];
  restart_every = 2;
}

abbrev pub listed : SessionData
listed = run_of listed_plan two_bodies

-- a file by its number and its tick
abbrev pub snapshots_of : List Written → List (ℕ × ℕ)
snapshots_of ws = flat_map (λ w. elim w [ Snapshot n σ ↦ (n, σ.tick) ∷ [] | Restart n σ ↦ [] ]) ws

abbrev pub restarts_of : List Written → List (ℕ × ℕ)
restarts_of ws = flat_map (λ w. elim w [ Snapshot n σ ↦ [] | Restart n σ ↦ (n, σ.tick) ∷ [] ]) ws

abbrev pub FourSteps : Type 0
FourSteps =
    (listed.end ≡ Done) ×
    (snapshots_of listed.written ≡ (0, 0) ∷ (1, 1024) ∷ (2, 2048) ∷ (3, 4096) ∷ []) ×
    (restarts_of listed.written ≡ (0, 2048) ∷ []) ×
    (listed.questions ≡ 1024 ∷ 2048 ∷ 3072 ∷ []) ×
    (listed.state.kicks ∷ listed.state.interactions ∷ [] ≡ 8 ∷ 8 ∷ [])

-- ---- texts

-- without bodies a base step is told in two lines; names have three digits at least
abbrev pub TextsOfNothing : Type 0
TextsOfNothing =
    (kick_text (records (run_of (plan_of 1024 10 10 20 65536) [])) ≡ codes "0 10 0 0 0 0 0 0 0\n1024 10 0 0 0 0 0 0 0\n") ×
    (numbered (codes "snapshot") 0 ≡ codes "snapshot_000") ×
    (numbered (codes "snapshot") 1234 ≡ codes "snapshot_1234")

-- the fast parts of two bins take 44 bytes
abbrev pub BinsText : Type 0
BinsText = length (bins_text (bins two_bins)) ≡ 44
