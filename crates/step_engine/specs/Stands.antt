-- Where a step stands: what its calls see and change.
use Rattle.std.specs.Prelude.{◌≡◌, ◌≤◌, ℕ, ◌+◌, ◌*◌, ◌^◌, ℤ, List, [], ◌∷◌, length, sum_by, ◌==◌, Option, Some, None, IfSome, if◌then◌else◌}
use Rattle.std.specs.List.{All, AllByRecursion}
use Rattle.fixed_point.specs.declared.V3.{V3}
use Rattle.fixed_point.specs.Vectors.{IsAtMost}
use Rattle.nbody_model.specs.Steps.{first_out, fast}
use Rattle.kick_drift.specs.declared.kicks.KickErr.{KickErr}
use Rattle.kick_drift.specs.declared.kicks.KickErr.TheVariants.{MomRange}
use Rattle.nbody_model.specs.Bodies.{BodyData, only, total, components}
use Rattle.nbody_model.specs.Setups.{SetupData}
use Rattle.nbody_model.specs.Tables.{Gravity, ExpansionData, Reaches}
use Rattle.nbody_model.specs.Fields.{FieldData}
use Rattle.nbody_model.specs.Evolve.{Progress, records_of, depths_of}
use Rattle.model_laws.specs.Laws.{AreBodies, CorrectsLittle}
use Rattle.model_laws.specs.Preserved.{IsPart}
use Rattle.kick_drift.specs.Parts.{ids_at, AreAscending}
use Rattle.step_engine.specs.declared.work.Work.{Work}
use Rattle.step_engine.specs.Taken.{Taken, Tale, Adds}
use Rattle.step_engine.specs.Told.{Finder, AreForcesAmong, IsTold}

-- the bodies; what forces are found by, the numbers that no call changes, and their state; the counts and what was taken of
-- the taker; the depths; and the kicks and interactions so far
pub record Now : Type 0 where
  pub bodies : List BodyData
  pub gravity : Gravity
  pub fixed : List ℕ
  pub state : List ℕ
  pub faults : ℕ
  pub yes : ℕ
  pub took : Tale
  pub depth : List ℕ
  pub kicks : ℕ
  pub interactions : ℕ

abbrev pub now : List BodyData → Gravity → List ℕ → List ℕ → ℕ → ℕ → Tale → Work → Now
now B g fixed state faults yeses took w =
    record { bodies = B; gravity = g; fixed = fixed; state = state; faults = faults; yes = yeses; took = took; depth = w.depth.items; kicks = w.count.kicks; interactions = w.count.interactions }

-- a step may go on from here: forces stand for the setup, bodies keep their limits, the total is known, no depth is set
pub record IsReady (s : SetupData) (sum : List ℤ) (N : Now) : Type 0 where
  pub setup : N.gravity.setup ≡ s
  pub table : CorrectsLittle N.gravity.table
  pub bodies : AreBodies N.bodies
  pub kinds : AllByRecursion (λ b. b.kind ≤ 5) N.bodies
  pub total : sum ≡ components (total N.bodies)
  pub depth : N.depth ≡ depths_of [] N.bodies
  pub counted : N.interactions ≤ N.kicks * 2 ^ 65

-- a step of 2^bin ticks from a tick on lies within all limits, and there is room for its kicks
pub record IsTimely (e : Option ExpansionData) (bin tick kicks : ℕ) : Type 0 where
  pub some : 1 ≤ bin
  pub short : bin ≤ 20
  pub early : tick + 2 ^ bin ≤ 2 ^ 42
  pub spans : IfSome e (λ table. Reaches table (tick + 2 ^ bin))
  pub room : kicks + 2 ^ (bin + 1) ≤ 2 ^ 40

-- the bodies at some ascending places, with the forces among them
pub record IsGiven (g : Gravity) (B : List BodyData) (part : List ℕ) (f : FieldData) : Type 0 where
  pub places : AreAscending B part
  pub forces : AreForcesAmong g (only B (ids_at B part)) f

-- places of some of those at other places: all of them, if they are as many
pub record AreOf (B : List BodyData) (whole fast : List ℕ) : Type 0 where
  pub places : AreAscending B fast
  pub part : IsPart (ids_at B fast) (ids_at B whole)
  pub all : length fast ≡ length whole → ids_at B fast ≡ ids_at B whole

-- where the forces are those among the bodies at some places, these are the places of the fast ones
pub record AreFastOf (s : SetupData) (bin : ℕ) (B : List BodyData) (part : List ℕ) (f : FieldData) (places : List ℕ) : Type 0 where
  pub fast : (g : Gravity) → g.setup ≡ s → AreForcesAmong g (only B (ids_at B part)) f → ids_at B places ≡ fast g bin (only B (ids_at B part))
  pub of : (g : Gravity) → g.setup ≡ s → AreForcesAmong g (only B (ids_at B part)) f → AreOf B part places

-- there is one force for each place, none of them too large
pub record HasEach (part : List ℕ) (f : List V3) : Type 0 where
  pub equal : length f ≡ length part
  pub bounded : All (IsAtMost (2 ^ 118)) f

-- the first body of P, by its id, and its first axis, that a kick by h leaves out of range, if the kick isn't by 0
abbrev pub out_after : ℕ → List ℕ → List BodyData → Option (ℕ × ℕ)
out_after h P C = if h == 0 then None else first_out (only C P)

-- a kick is refused by that body
abbrev pub IsRefusedBy : Option (ℕ × ℕ) → KickErr → Type 0
IsRefusedBy out (MomRange id axis) = out ≡ Some (id, axis)

-- the progress p of a step, as it was told from a state a and behind what was taken before, stands here; the entries that
-- were taken are of some kind
pub record IsAt (passes : Finder) (a : List ℕ) (before : Tale) (Kind : List Taken → Type 0) (p : Progress) (N : Now) : Type 0 where
  pub entries : List Taken
  pub bodies : p.bodies ≡ N.bodies
  pub told : IsTold N.gravity (passes N.gravity N.fixed) a p.trail entries N.state
  pub took : Adds before N.took entries
  pub kind : Kind entries
  pub kicks : N.kicks ≡ length (records_of p.trail)
  pub interactions : N.interactions ≡ sum_by (λ k. k.pairs + k.fast_pairs) (records_of p.trail)
