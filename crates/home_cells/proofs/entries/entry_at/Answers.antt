use Rattle.rank_laws.specs.Whole.{own}
use Rattle.home_cells.proofs.entries.entry_at.Goals as goal

pub returns : goal.returns
returns c = λ w r h d j. record { raw = c.raw.ensures w.gravity.setup (own w r) h d j; children = c.children_at.ensures w r h d j }
