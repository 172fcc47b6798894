use Rattle.std.proofs.Common.{ap, sym, subst, ◌∙◌}
use Rattle.node_moments.specs.Sums.{RawData}
use Rattle.node_moments.specs.Joined.{Joins}
use Rattle.rank_laws.specs.Contents.{EntryData}
use Rattle.rank_entry_laws.specs.Given.{in_either}
use Rattle.home_cells.proofs.Bits.{both_sets}
use Rattle.home_cells.proofs.Joining.{cells, joins}
use Rattle.home_cells.proofs.found.join.Goals as goal

pub add-requires-clause-same_cell : goal.add-requires-clause-same_cell
add-requires-clause-same_cell c = ap (λ (e : EntryData). e.raw.cell) c.a.view_is ∙ cells c.args.a.now c.args.b.now c.requires ∙ sym (ap (λ (e : EntryData). e.raw.cell) c.b.view_is)

pub returns-clause-raw : goal.returns-clause-raw
returns-clause-raw c =
    joins c.args.a.now c.args.b.now c.requires c.add.result
    (subst (λ (t : RawData). Joins t c.args.b.now.raw c.add.result) (ap (λ (e : EntryData). e.raw) c.a.view_is) (subst (λ (t : RawData). Joins c.a.inside.raw t c.add.result) (ap (λ (e : EntryData). e.raw) c.b.view_is) c.add.ensures))

pub returns-clause-children : goal.returns-clause-children
returns-clause-children c = both_sets c.a.inside.children c.b.inside.children ∙ (λ i. in_either (c.a.view_is i).children (c.b.view_is i).children)
