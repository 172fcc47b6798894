use Rattle.std.proofs.Common.{ap, ◌∙◌, sym, subst}
use Rattle.rank_laws.specs.Contents.{OfParts, parts_sent}
use Rattle.rank_laws.specs.Machine.{Parts}
use Rattle.rank_laws.specs.Told.{told_kind}
use Rattle.rank_exchange.proofs.mail.parts.Goals as goal

pub returns : goal.returns
returns c = λ m h r n i. record { kind = told_kind Parts; «from» = c.args.home; to = c.args.owner; contents = OfParts ((c.in_ok-given.ensures ∙ h c.args.owner n ∙ ap (λ t. parts_sent m.whole t c.args.owner) r) i) }
