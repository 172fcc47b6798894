use Rattle.std.proofs.Common.{append_assoc}
use Rattle.gadget.proofs.texts.push_output_err.Goals as goal

pub returns-in_ok-extend_from_slice-in-NotNumber : goal.returns-in_ok-extend_from_slice-in-NotNumber
returns-in_ok-extend_from_slice-in-NotNumber c =
    rw (c.in_ok-extend_from_slice-in-NotNumber.ensures.items, c.in_ok-push_counted-in-NotNumber.ensures, c.in-NotNumber.is)
    (rw (c.from.ensures) (simp append_assoc))
