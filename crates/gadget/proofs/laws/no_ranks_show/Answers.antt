use Rattle.gadget.proofs.OneCall.{none_show_in_runs, none_show_in_resumed}
use Rattle.gadget.proofs.laws.no_ranks_show.Goals as goal

pub returns : goal.returns
returns c = record { runs = none_show_in_runs; resumed = none_show_in_resumed }
