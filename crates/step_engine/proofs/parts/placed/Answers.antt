use Rattle.std.proofs.Common.{map, get_or, ap, ◌∙◌}
use Rattle.std.proofs.lemmas.List.{take_all}
use Rattle.step_engine.proofs.parts.placed.Goals as goal

pub returns : goal.returns
returns c = c.loop-k.invariant ∙ ap (map (λ p. get_or c.args.part.now p 0)) (take_all c.loop-k.k-index c.args.chosen.now c.loop-k-test.false)
