use Rattle.std.proofs.Common.{map, ap, ◌∙◌, arith}
use Rattle.std.proofs.lemmas.List.{take_all}
use Rattle.rank_laws.specs.Machine.{Table, message}
use Rattle.rank_exchange.specs.Messages.{filled}
use Rattle.rank_exchange.proofs.build.all_tables.Goals as goal

pub returns : goal.returns
returns c = λ w o. c.loop-i.invariant w o ∙ ap (map (λ q. filled w (message Table c.args.rank q))) (take_all c.loop-i.i c.args.to.now (omega (arith, c.loop-i-test.false)))
