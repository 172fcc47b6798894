use Rattle.std.proofs.Common.{◌∙◌, ◌+◌, ◌*◌, ◌^◌, ◌++◌, map, ap, arith, pos, refl}
use Rattle.std.proofs.lemmas.List.{take_all}
use Rattle.rank_exchange.specs.Shares.{members_by, share_at}
use Rattle.rank_exchange.proofs.Groups.{share_more}
use Rattle.rank_exchange.proofs.shares.push_shares.Goals as goal

pub loop-i-preserved : goal.loop-i-preserved
loop-i-preserved c = λ d N axes. c.in_ok-push.ensures.items ∙ share_more c.args.kept.now d N (members_by c.args.kept.now d c.args.numbers.now) c.args.numbers.now c.args.x.now c.args.y.now c.args.z.now c.loop-i.i (pos 0) c.number_in.result c.kept_at-member.result c.loop-i.out.items c.args.out.now.items c.keyed.result axes refl c.loop-i-test.true (c.number_in.ensures c.number_in.result) (c.kept_at-member.ensures d) (c.keyed.ensures ∙ (λ j. record { key = c.kept_at-member.result.from * 2 ^ 64 + c.kept_at-member.result.entry.member.0; sum = c.vector_at.ensures (pos 0) j })) (c.loop-i.invariant d N axes)

pub returns : goal.returns
returns c = λ d N axes. c.loop-i.invariant d N axes ∙ ap (λ t. c.args.out.now.items ++ map (share_at c.args.kept.now d N (members_by c.args.kept.now d c.args.numbers.now)) t) (take_all c.loop-i.i c.args.numbers.now (omega (arith, c.loop-i-test.false)))
