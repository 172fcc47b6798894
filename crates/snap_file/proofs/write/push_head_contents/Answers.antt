use Rattle.snap_file.proofs.Writes.{headed}
use Rattle.snap_file.proofs.write.push_head_contents.Goals as goal

pub returns : goal.returns
returns c =
    headed c.args.bodies.now c.args.tick c.args.number c.args.out.now.items _ _ _ _ _ c.in_ok-extend_from_slice.ensures.items c.in_ok-push_counts.ensures
    c.in_ok-push_word64.ensures c.in_ok-push_word32.ensures c.in_ok-extend_from_slice-2.ensures.items
