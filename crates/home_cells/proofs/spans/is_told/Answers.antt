use Rattle.std.proofs.Common.{◌<◌, subst, sym, ◌∙◌}
use Rattle.home_cells.proofs.Spanned.{told_home, told_else}
use Rattle.std.specs.Prelude.{slice_index_or}
use Rattle.home_cells.proofs.spans.is_told.Goals as goal

pub returns-then-is_home : goal.returns-then-is_home
returns-then-is_home c = λ b of d. told_home b c.args.to (slice_index_or c.args.tree.now.nodes c.args.i d).moments _ (of.each c.args.i (0, 0) d (subst (λ n. c.args.i < n) (sym c.requires.long) c.requires.place)) (sym c.is_home.ensures ∙ c.if-is_home.true)

pub returns : goal.returns
returns c = λ b of d. c.is_leaf_of.ensures d ∙ told_else b c.args.to (slice_index_or c.args.tree.now.nodes c.args.i d).moments _ (of.each c.args.i (0, 0) d (subst (λ n. c.args.i < n) (sym c.requires.long) c.requires.place)) (sym c.is_home.ensures ∙ c.if-is_home.false)
