use Rattle.std.proofs.Common.{refl, ap, ◌∙◌, ◌++◌, arith}
use Rattle.rank_laws.specs.Protocol.{state}
use Rattle.rank_laws.specs.Machine.{action, machine}
use Rattle.rank_laws.specs.Whole.{rules_of}
use Rattle.rank_field.specs.Machines.{moment_of}
use Rattle.rank_field.proofs.Next.{acted_ready, acts_next, attends, behind, has_acted, tells_mail}
use Rattle.rank_field.proofs.Readiness.{ready_after}
use Rattle.rank_field.proofs.machine.Machine.act_at.Goals as goal

pub act-requires : goal.act-requires
act-requires c =
    let w = c.requires.0 in
    let z = c.requires.1.0 in
    let h = c.requires.1.1 in
    let v = c.args.self.now in
    let n = acts_next w z v c.args.number h in
    (moment_of w z h.machine.run c.args.number n.within, (attends w z v h.machine c.args.number n.within c.index_mut-rank.result.now c.index_mut-rank.ensures.value, n.some))

pub mark-requires : goal.mark-requires
mark-requires c =
    let h = c.requires.1.1 in
    let n = acts_next c.requires.0 c.requires.1.0 c.args.self.now c.args.number h in
    omega (arith, n.within, h.machine.mail.all)

pub returns-clause-happened : goal.returns-clause-happened
returns-clause-happened c = λ w z h.
    let v = c.args.self.now in
    let r = c.args.number in
    let n = acts_next w z v r h in
    let m = moment_of w z h.machine.run r n.within in
    let seen = attends w z v h.machine r n.within c.index_mut-rank.result.now c.index_mut-rank.ensures.value in
    let done = c.in_ok-acted.ensures m seen n.some in
    let s = state (machine (rules_of w)) z r in
    let is = acted_ready w z v r h c.in_ok-acted.acted c.act.new.self done c.is_ready-is.result c.is_ready-is.ensures in
    let entries = tells_mail w z v h.machine r n.within (behind w z v r h c.in_ok-acted.acted c.act.new.self done) c.is_ready-was.result c.is_ready-is.result c.send_all.new.mail.ready
    (c.is_ready-was.ensures m seen.rank) is (ready_after (rules_of w) r s (action (rules_of w) r s)) (λ e f. c.in_ok-send_all.ensures.ready ∙ c.mark.ensures.ready e f) in
    has_acted w z v r h c.in_ok-acted.acted c.act.new.self done
    _ refl (c.in_ok-send_all.ensures.messages ∙ ap (λ ms. ms ++ c.in_ok-acted.acted.messages.items) c.mark.ensures.messages) entries refl refl refl refl
