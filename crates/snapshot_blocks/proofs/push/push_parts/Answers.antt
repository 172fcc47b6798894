use Rattle.snapshot_blocks.proofs.Pushes.{joined}
use Rattle.fixed_point.proofs.Joins.{on_ok}
use Rattle.snapshot_blocks.proofs.push.push_parts.Goals as goal

pub returns-clause-ok : goal.returns-clause-ok
returns-clause-ok c =
    on_ok c.close_block.result (joined c.args.out.now.items c.args.name c.args.contents.now _ _ _ c.in_ok-open_block.ensures.ok c.in_ok-extend_from_slice.ensures.items) c.close_block.ensures.ok
