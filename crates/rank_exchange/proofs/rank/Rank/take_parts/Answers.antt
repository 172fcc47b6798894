use Rattle.std.proofs.Common.{arith, subst}
use Rattle.std.specs.Prelude.{OnOk}
use Rattle.rank_laws.specs.Machine.{Parts}
use Rattle.rank_exchange.specs.Ranks.{IsRank}
use Rattle.rank_exchange.proofs.Moves.{arrived, state_arrived}
use Rattle.rank_exchange.proofs.Ranked.{one_due, parts_taken}
use Rattle.rank_exchange.proofs.rank.Rank.take_parts.Goals as goal

pub overflow_sub-self : goal.overflow_sub-self
overflow_sub-self c = one_due c.requires.0 Parts (omega arith) c.requires.1.0.kind c.args.self.now.due.parts c.requires.1.0.rank.most.due.parts

pub gather-requires : goal.gather-requires
gather-requires c = (arrived c.requires.0, parts_taken c.requires.0 c.args.self.now c.requires.1.0 c.args.parts.items _ c.requires.1.1 c.in_ok-append.ensures.items)

pub returns : goal.returns
returns c = λ a h e. subst (λ t. OnOk c.gather.result (IsRank a.moment.whole a.moment.rank t c.gather.new.self)) (state_arrived a) (c.gather.ensures (arrived a) (parts_taken a c.args.self.now h c.args.parts.items _ e c.in_ok-append.ensures.items))
