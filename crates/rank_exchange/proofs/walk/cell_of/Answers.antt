use Rattle.std.proofs.Common.{ap, ◌∙◌, subst}
use Rattle.rank_exchange.specs.Posts.{Answers}
use Rattle.rank_exchange.proofs.Answered.{cell_is}
use Rattle.rank_exchange.proofs.walk.cell_of.Goals as goal

pub returns-in-Some : goal.returns-in-Some
returns-in-Some c = λ z d a. ap (λ t. t.raw.cell) c.entry-inside.view_is ∙ ap (λ t. t.raw.cell) c.entry.view_is ∙ cell_is z d c.in-Some.entry (subst (Answers z d) c.in-Some.is a)
