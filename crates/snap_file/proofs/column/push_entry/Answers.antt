use Rattle.std.proofs.Common.{◌∙◌}
use Rattle.fixed_point.specs.Bytes.{bytes32, signed_bytes64}
use Rattle.fixed_point.proofs.Joins.{on_ok, regroup}
use Rattle.snap_file.proofs.column.push_entry.Goals as goal

pub returns-in-Positions : goal.returns-in-Positions
returns-in-Positions c =
    let at = c.body.inside.motion.pos in
    rw (c.in-Positions.is, ← c.body.view_is) (on_ok c.push_three_words.result (λ e. e ∙ regroup c.args.out.now.items (bytes32 at.x) (bytes32 at.y) (bytes32 at.z)) (rw c.pos.ensures at c.push_three_words.ensures))

pub returns-in-Momenta : goal.returns-in-Momenta
returns-in-Momenta c =
    let mom = c.body.inside.motion.mom in
    rw (c.in-Momenta.is, ← c.body.view_is) (on_ok c.push_three_signed.result (λ e. e ∙ regroup c.args.out.now.items (signed_bytes64 mom.x) (signed_bytes64 mom.y) (signed_bytes64 mom.z)) (rw c.mom.ensures.value at c.push_three_signed.ensures))
