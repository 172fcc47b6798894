use Rattle.fixed_point.specs.Bytes.{bytes32, bytes64, signed_bytes64}
use Rattle.restart_files.proofs.Joins.{embodied}
use Rattle.fixed_point.proofs.Joins.{on_ok}
use Rattle.restart_files.proofs.write.push_body.Goals as goal

pub returns : goal.returns
returns c =
    let b = c.body.inside in
    let at = b.motion.pos in
    let mom = b.motion.mom in
    rw (← c.body.view_is) (on_ok c.push_three_signed.result (embodied (bytes64 b.id) (bytes32 b.kind) (bytes32 b.mass) (bytes32 at.x) (bytes32 at.y) (bytes32 at.z) (signed_bytes64 mom.x) (signed_bytes64 mom.y) (signed_bytes64 mom.z)
    c.args.out.now.items _ _ _ _ _ c.in_ok-push_word64.ensures (rw c.from.ensures at c.in_ok-push_word32.ensures) c.in_ok-push_word32-2.ensures (rw c.pos.ensures at c.in_ok-push_three_words.ensures))
    (rw c.mom.ensures.value at c.push_three_signed.ensures))
