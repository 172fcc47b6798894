use Rattle.std.proofs.Common.{eqb, ◌∙◌, arith}
use Rattle.std.specs.List.{list_any}
use Rattle.cell_space.specs.Cells.{digit}
use Rattle.octree_build.specs.Trees.{cell_of_node}
use Rattle.rank_laws.specs.Whole.{own}
use Rattle.home_cells.proofs.Sets.{filled_by}
use Rattle.home_cells.proofs.entries.children_at.Goals as goal

pub returns : goal.returns
returns c = λ w r h d.
    let cell = cell_of_node c.args.tree.now.nodes c.args.i d in
    let level = c.level_at-level.ensures.value d in
    let members = c.members.ensures.exact w.gravity.setup (own w r) h d in
    filled_by (own w r) c.args.tree.now.bodies cell c.children_of.result h.over.along.permuted (omega (arith, level, c.level_at-level.ensures.small, c.if-level-eq32.false))
    (λ k m. c.children_of.ensures k m ∙ (λ j. list_any (λ b. eqb (digit b.motion.pos (level j)) k) (members j)))
