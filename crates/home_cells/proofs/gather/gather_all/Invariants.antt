use Rattle.std.proofs.Common.{◌≡◌, ◌*◌, ◌^◌}
use Rattle.rank_laws.specs.Contents.{EntryData}
use Rattle.home_cells.specs.Found.{gathered_below}
use Rattle.home_cells.proofs.gather.gather_all.Given as goal

abbrev pub invariant-loop-level : goal.invariant-loop-level
invariant-loop-level l = (d : EntryData) → l.sum ≡ gathered_below l.cell l.kept.entries.now l.kept.order.now d (l.level * 2 ^ 122)
