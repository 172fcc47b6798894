use Rattle.std.proofs.Common.{◌≡◌, subst}
use Rattle.std.specs.Result.{IfOk}
use Rattle.rank_laws.specs.Contents.{sums_sent}
use Rattle.rank_exchange.specs.Moments.{state_at}
use Rattle.rank_exchange.specs.Ranks.{seat_at}
use Rattle.rank_exchange.proofs.Acts.{adds_through, adds_walked}
use Rattle.rank_exchange.proofs.rank.Rank.sums_kept.Goals as goal

pub unreachable-requires : goal.unreachable-requires
unreachable-requires c = adds_walked c.requires.0 c.args.self.now c.requires.1 c.in-None.is

pub sums_for-requires : goal.sums_for-requires
sums_for-requires c = (seat_at c.requires.0, (state_at c.requires.0, adds_through c.requires.0 c.args.self.now c.requires.1 c.in-Some.walker c.in-Some.is))

pub returns : goal.returns
returns c = λ m h. subst (λ q. IfOk c.sums_for.result (λ sums. sums.items ≡ sums_sent m.whole m.rank q)) h.rank.most.number
    (c.sums_for.ensures (seat_at m) (state_at m) (adds_through m c.args.self.now h c.in-Some.walker c.in-Some.is))
