use Rattle.std.proofs.Common.{◌+◌, take, sym, subst}
use Rattle.rank_exchange.specs.Shares.{AreNumbers}
use Rattle.rank_exchange.proofs.Groups.{nobody}
use Rattle.rank_exchange.proofs.Parted.{numbers_more}
use Rattle.rank_exchange.proofs.shares.numbers_of.Goals as goal

pub loop-i-preserved : goal.loop-i-preserved
loop-i-preserved c = λ ts e. subst (λ t. AreNumbers ts (take (c.loop-i.i + 1) c.args.kept.now) t) (sym c.in_ok-push.ensures.items) (numbers_more ts c.args.kept.now c.loop-i.i c.number_at.result c.loop-i.numbers.items c.loop-i-test.true (λ d. c.number_at.ensures.value ts d e) c.number_at.ensures.id nobody (c.loop-i.invariant ts e))
