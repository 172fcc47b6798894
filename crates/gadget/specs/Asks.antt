-- A command of the code stands for what the words ask.
use Rattle.std.specs.Prelude.{◌≡◌, ◌≤◌, ℕ}
use Rattle.gadget.specs.declared.command.Command.{Command}
use Rattle.gadget.specs.declared.command.Command.TheVariants.{Nothing, Run, Resume, Check, Show, Make, Groups, Links}
use Rattle.gadget.specs.Commands.{Asked, nothing, run, resume, check, show, make, groups, links}

-- so many ranks may be asked for
pub record IsCount (ranks : ℕ) : Type 0 where
  pub some : 1 ≤ ranks
  pub few : ranks ≤ 256

abbrev pub Means : Command → Asked → Type 0
Means Nothing a = a ≡ nothing
Means (Run param ranks) a = (a ≡ run param.now ranks) × IsCount ranks
Means (Resume param restart ranks) a = (a ≡ resume param.now restart.now ranks) × IsCount ranks
Means (Check param) a = a ≡ check param.now
Means (Show snapshot) a = a ≡ show snapshot.now
Means (Make count seed name) a = (a ≡ make count seed name.now) × (count ≤ 1048576)
Means (Groups snapshot reach least name) a = a ≡ groups snapshot.now reach least name.now
Means (Links first second name) a = a ≡ links first.now second.now name.now
