use Rattle.cell_space.specs.Cells.{place}
use Rattle.hilbert_keys.proofs.DoubleSteps.{eight_on}
use Rattle.hilbert_keys.proofs.keys.go_on.Goals as goal

pub returns : goal.returns
returns c = eight_on c.args.level (place c.args.pos) c.args.at.number c.args.at.turn c.interleaved-bits.result _ _ _ _ c.requires.level c.requires.at c.interleaved-bits.ensures.value c.double_step-first.ensures.value c.double_step-second.ensures.value c.double_step-third.ensures.value c.double_step-fourth.ensures.value
