use Rattle.std.proofs.Common.{◌≡◌, subst, ◌∙◌, arith}
use Rattle.rank_mail.specs.Mails.{MailData, how_many}
use Rattle.rank_mail.proofs.Counted.{coming_all, coming_few}
use Rattle.rank_mail.proofs.mail.Mail.coming.Goals as goal

pub returns-clause-many : goal.returns-clause-many
returns-clause-many c = subst (λ (v : MailData). c.self.inside.coming ≡ how_many v.ready v.messages) c.self.view_is (c.self.invariant.come ∙ coming_all c.self.inside.ready.items c.self.inside.blocks.items c.self.invariant.each)

pub returns-clause-few : goal.returns-clause-few
returns-clause-few c = omega (arith, c.self.invariant.come, c.self.invariant.all, c.self.invariant.few, coming_few c.self.inside.ready.items c.self.inside.blocks.items c.self.invariant.each)
