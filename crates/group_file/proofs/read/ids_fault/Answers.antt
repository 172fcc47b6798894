use Rattle.std.proofs.Common.{sym, ap, ◌∙◌, ◌+◌, ◌*◌, cond, Some, None}
use Rattle.group_file.specs.declared.errors.GroupErr.TheVariants.{Field}
use Rattle.group_file.specs.GroupFile.{id_fault}
use Rattle.group_file.proofs.Faults.{first_here}
use Rattle.group_file.proofs.read.ids_fault.Goals as goal

pub returns-then-is_wrong_id : goal.returns-then-is_wrong_id
returns-then-is_wrong_id c =
    sym (first_here (id_fault c.args.bytes.now c.args.p) c.loop-k.k c.args.number (Field (c.args.p + 24 + 8 * c.loop-k.k)) c.loop-k-test.true c.loop-k.invariant
    (ap (λ b. cond b (Some (Field (c.args.p + 24 + 8 * c.loop-k.k))) None) (sym c.is_wrong_id.ensures ∙ c.if-is_wrong_id.true)))
