use Rattle.std.proofs.Common.{◌<◌, ◌+◌, ◌≤◌, ◌^◌, ap, subst, ◌∙◌, arith, List, Bool, rules, cond, ℕ}
use Rattle.std.specs.List.{AllByRecursion}
use Rattle.rank_mail.specs.Mails.{may_come}
use Rattle.rank_mail.specs.Blocks.{IsCounted}
use Rattle.rank_mail.proofs.Counted.{kept_counted, more_fits, sent_counted}
use Rattle.rank_mail.proofs.mail.Mail.send.Goals as goal

pub invariant_of-self : goal.invariant_of-self
invariant_of-self c = kept_counted c.self.inside.ready.items c.self.inside.blocks.items c.put_last.new.blocks.items c.self.inside.coming c.self.inside.many c.self.invariant (subst (λ (r : List Bool). AllByRecursion (IsCounted r) c.put_last.new.blocks.items) c.deref-2.ensures.value c.put_last.ensures.counted) c.in_err-put_last.ensures.err

pub overflow_add-self : goal.overflow_add-self
overflow_add-self c =
    let f : c.self.inside.coming + c.more_by-more.result ≤ c.self.inside.many + 1 = more_fits c.self.inside.ready.items c.self.inside.blocks.items c.self.inside.coming c.self.inside.many c.more_by-more.result _ c.self.invariant c.more_by-more.ensures in
    let g : c.self.inside.coming + c.more_by-more.result < 2 ^ 64 = omega (arith, f, c.self.invariant.few) in
    search rules

pub invariant_of-self-2 : goal.invariant_of-self-2
invariant_of-self-2 c = sent_counted c.self.inside.ready.items c.self.inside.blocks.items c.put_last.new.blocks.items c.self.inside.coming c.self.inside.many c.more_by-more.result _ c.self.invariant (subst (λ (r : List Bool). AllByRecursion (IsCounted r) c.put_last.new.blocks.items) c.deref-2.ensures.value c.put_last.ensures.counted) c.in_ok-put_last.ensures.ok (c.more_by-more.ensures ∙ ap (λ (r : List Bool). cond {A = ℕ} (may_come r c.args.message) 1 0) c.deref.ensures.value) (omega (arith, c.self.invariant.few, c.if-self-eq-MOST.false))
