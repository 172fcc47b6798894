use Rattle.fixed_point.proofs.Joins.{on_ok}
use Rattle.snap_file.proofs.Writes.{head_block}
use Rattle.snap_file.proofs.write.push_head.Goals as goal

pub returns : goal.returns
returns c =
    on_ok c.close_block.result (head_block c.args.bodies.now c.args.tick c.args.number c.args.out.now.items _ _ _ c.in_ok-open_block.ensures.ok c.in_ok-push_head_contents.ensures) c.close_block.ensures.ok
