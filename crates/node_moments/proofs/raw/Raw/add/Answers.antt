use Rattle.std.proofs.Common.{◌∙◌}
use Rattle.node_moments.proofs.Joined.{joined_sums}
use Rattle.node_moments.proofs.raw.Raw.add.Goals as goal

pub returns : goal.returns
returns c = λ soft ms ns h k. c.joined.ensures ∙ joined_sums soft c.args.self.now c.args.other.now ms ns c.requires.same_cell h k
