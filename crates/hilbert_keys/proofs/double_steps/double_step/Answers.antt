use Rattle.std.proofs.Common.{◌/◌, ◌<◌, subst, sym}
use Rattle.hilbert_keys.proofs.DoubleSteps.{entry_at, known_after}
use Rattle.hilbert_keys.proofs.Tables.{entries}
use Rattle.hilbert_keys.proofs.double_steps.double_step.Goals as goal

pub returns-clause-value : goal.returns-clause-value
unfolding entries
returns-clause-value c = entry_at c.args.turn c.args.bits c.requires.turn c.requires.bits

pub returns-clause-next : goal.returns-clause-next
unfolding entries
returns-clause-next c = subst (λ t. t / 64 < 24) (sym (entry_at c.args.turn c.args.bits c.requires.turn c.requires.bits)) (known_after c.args.turn c.args.bits c.requires.turn c.requires.bits)
