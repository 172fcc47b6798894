use Rattle.std.proofs.Common.{ap, ◌∙◌}
use Rattle.std.specs.List.{flat_map}
use Rattle.rank_laws.specs.Contents.{OfMembers}
use Rattle.rank_laws.specs.Machine.{Members}
use Rattle.rank_laws.specs.Told.{told_kind}
use Rattle.rank_laws.specs.Whole.{own}
use Rattle.rank_exchange.specs.Members.{listed_in}
use Rattle.rank_exchange.proofs.mail.listed.Goals as goal

pub returns : goal.returns
returns c = λ w h e i. record { kind = told_kind Members; «from» = c.args.rank; to = c.args.home; contents = OfMembers ((c.in_ok-members.ensures (own w c.args.rank) h ∙ ap (flat_map (listed_in (own w c.args.rank))) e) i) }
