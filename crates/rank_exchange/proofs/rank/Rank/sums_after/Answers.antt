use Rattle.std.proofs.Common.{[], cond, true, map, ap, sym, ◌∙◌}
use Rattle.std.proofs.lemmas.Result.{IfOk-weaker}
use Rattle.rank_laws.specs.Machine.{Sums, to_all}
use Rattle.rank_laws.specs.Whole.{rules_of}
use Rattle.rank_exchange.specs.Messages.{filled}
use Rattle.rank_exchange.specs.Moments.{state_at}
use Rattle.rank_exchange.specs.Ranks.{seat_at}
use Rattle.rank_exchange.proofs.Acts.{all_sent, none_waits, walked_at, walker_through, walks_some}
use Rattle.rank_exchange.proofs.Moves.{acted}
use Rattle.rank_exchange.proofs.rank.Rank.sums_after.Goals as goal

pub returns-then-not-is_through : goal.returns-then-not-is_through
returns-then-not-is_through c = λ m h.
    c.new.ensures.items
    ∙ sym (ap (λ t. map (filled m.whole) (cond t (to_all (rules_of m.whole) Sums m.rank) []))
    (none_waits m c.args.bounds.now c.args.self.now h c.is_through.result (c.is_through.ensures (acted m (walks_some m h.next)) (walked_at m c.args.bounds.now c.args.self.now h)) ∙ c.if-not-is_through.true))

pub all_sums-requires : goal.all_sums-requires
all_sums-requires c =
    let m = c.requires.0 in
    let h = c.requires.1 in
    (seat_at m, (state_at (acted m (walks_some m h.next)), walker_through m c.args.bounds.now c.args.self.now h c.in-Some.walker c.in-Some.is (c.if-not-is_through.ensures (acted m (walks_some m h.next)) (walked_at m c.args.bounds.now c.args.self.now h))))

pub returns : goal.returns
returns c = λ m h.
    let w = walked_at m c.args.bounds.now c.args.self.now h in
    let t = c.if-not-is_through.ensures (acted m (walks_some m h.next)) w in
    IfOk-weaker c.all_sums.result _ _ (λ sent p. all_sent (acted m (walks_some m h.next)) c.args.self.now w.most Sums c.deref.result.now sent.items (c.deref.ensures.value ∙ c.in_ok-to.ensures.others) p
    ∙ sym (ap (λ x. map (filled m.whole) (cond x (to_all (rules_of m.whole) Sums m.rank) [])) (none_waits m c.args.bounds.now c.args.self.now h true t)))
    (c.all_sums.ensures (seat_at m) (state_at (acted m (walks_some m h.next))) (walker_through m c.args.bounds.now c.args.self.now h c.in-Some.walker c.in-Some.is t) (sym w.most.number))
