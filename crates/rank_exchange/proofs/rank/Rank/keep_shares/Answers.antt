use Rattle.std.proofs.Common.{subst}
use Rattle.std.specs.Prelude.{OnOk}
use Rattle.rank_exchange.specs.Ranks.{IsRank}
use Rattle.rank_exchange.proofs.Acts.{most_after, shares_some, state_shared}
use Rattle.rank_exchange.proofs.Moves.{acted}
use Rattle.rank_exchange.proofs.rank.Rank.keep_shares.Goals as goal

pub gather-requires : goal.gather-requires
gather-requires c = (acted c.requires.0 (shares_some c.requires.0 c.requires.1.0.does.next), most_after c.requires.0 c.args.self.now c.requires.1.0 c.args.given c.requires.1.1)

pub returns : goal.returns
returns c = λ m h g. subst (λ s. OnOk c.gather.result (IsRank m.whole m.rank s c.gather.new.self)) (state_shared m h.does.next)
    (c.gather.ensures (acted m (shares_some m h.does.next)) (most_after m c.args.self.now h c.args.given g))
