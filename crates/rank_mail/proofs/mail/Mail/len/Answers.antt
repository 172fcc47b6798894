use Rattle.std.proofs.Common.{◌≡◌, length, subst}
use Rattle.rank_mail.specs.Mails.{MailData}
use Rattle.rank_mail.proofs.mail.Mail.len.Goals as goal

pub returns : goal.returns
returns c = subst (λ (v : MailData). c.self.inside.many ≡ length v.messages) c.self.view_is c.self.invariant.all
