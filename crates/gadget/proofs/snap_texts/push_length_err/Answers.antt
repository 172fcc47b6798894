use Rattle.std.proofs.Common.{append_assoc}
use Rattle.gadget.proofs.snap_texts.push_length_err.Goals as goal

pub returns : goal.returns
returns c = rw (c.in_ok-push_spaced-2.ensures, c.in_ok-push_spaced.ensures, c.in_ok-push_named.ensures) (simp append_assoc)
