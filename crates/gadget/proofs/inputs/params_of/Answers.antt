use Rattle.std.proofs.Common.{inl, inr}
use Rattle.gadget.proofs.inputs.params_of.Goals as goal

pub returns-in_default : goal.returns-in_default
returns-in_default c = record { ok = tt; err = (c.in_default.not-Memory, elim c.in-Err.ensures.err [ inl e ↦ absurd (c.in_default.not-Memory e) | inr h ↦ h ]) }
