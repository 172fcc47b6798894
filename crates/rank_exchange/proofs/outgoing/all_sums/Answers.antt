use Rattle.std.proofs.Common.{map, ap, ◌∙◌}
use Rattle.std.proofs.lemmas.List.{take_all}
use Rattle.rank_laws.specs.Machine.{Sums, message}
use Rattle.rank_exchange.specs.Messages.{filled}
use Rattle.rank_exchange.proofs.outgoing.all_sums.Goals as goal

pub returns : goal.returns
returns c = λ z s h e. c.loop-home.invariant z s h e ∙ ap (map (λ q. filled z.whole (message Sums c.args.rank q))) (take_all c.loop-home.home-index c.args.to.now c.loop-home-test.false)
