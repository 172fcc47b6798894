use Rattle.std.proofs.Common.{refl}
use Rattle.std.specs.Prelude.{slice_index_or}
use Rattle.groups.proofs.Chained.{linked}
use Rattle.groups.proofs.chains.link.Goals as goal

pub returns : goal.returns
returns c =
    let head = slice_index_or c.args.heads.now c.args.k 0 in
    linked c.args.heads.now c.args.k c.args.first.now c.args.next.now c.requires.at c.requires.below c.requires.chains head (slice_index_or c.args.first.now head 0) refl refl
