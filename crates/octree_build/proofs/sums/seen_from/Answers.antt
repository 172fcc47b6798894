use Rattle.octree_build.proofs.Seen.{seen_node, seen_low, seen_high, seen_is, seen_sum, setup_with}
use Rattle.octree_build.proofs.sums.seen_from.Goals as goal

pub shift-requires-clause-node : goal.shift-requires-clause-node
shift-requires-clause-node c = seen_node c.requires.0 c.requires.1 c.args.cell.now c.requires.2 c.args.raw.now c.requires.3

pub shift-requires-clause-low : goal.shift-requires-clause-low
shift-requires-clause-low c = seen_low c.requires.0 c.requires.1 c.args.cell.now c.requires.2 c.args.raw.now c.requires.3

pub shift-requires-clause-high : goal.shift-requires-clause-high
shift-requires-clause-high c = seen_high c.requires.0 c.requires.1 c.args.cell.now c.requires.2 c.args.raw.now c.requires.3

pub returns : goal.returns
returns c = λ soft S d h. seen_is soft S c.args.cell.now d c.args.raw.now h c.shift.result (c.shift.ensures (setup_with soft) h.whole.whole (seen_sum soft S c.args.cell.now d c.args.raw.now h))
