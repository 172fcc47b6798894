-- What is told of a store, of forces and of a stopper.
use Rattle.std.specs.Prelude.{ℕ, List, Option}
use Rattle.store_io.specs.Files.{Files}
use Rattle.store_io.specs.Causes.{Call}
use Rattle.store_io.specs.declared.store.Store as store
use Rattle.store_io.specs.declared.stopper.Stopper as stopper

pub record World : Type 0 where
  pub files : Files
  pub closed : List (List ℕ)
  pub faults : ℕ
  pub last : Option Call
  pub state : List ℕ
  pub yes : ℕ
  pub left : Option ℕ

abbrev pub world : Files → List (List ℕ) → ℕ → Option Call → List ℕ → ℕ → Option ℕ → World
world files closed faults last state yeses left = record { files = files; closed = closed; faults = faults; last = last; state = state; yes = yeses; left = left }

-- of a store, by a state of forces and the counts of a stopper
abbrev pub store_world : {X : Type 0} → store.Ghosts X → X → List ℕ → ℕ → Option ℕ → World
store_world S s state yeses left = world (S.file s) (S.closed s) (S.faults s) (S.last s) state yeses left

-- of a store and a stopper, by a state of forces
abbrev pub world_by : {X Y : Type 0} → store.Ghosts X → stopper.Ghosts Y → X → Y → List ℕ → World
world_by S Q s q state = store_world S s state (Q.yes q) (Q.left q)
