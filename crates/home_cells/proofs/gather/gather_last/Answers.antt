use Rattle.std.proofs.Common.{◌+◌, ◌*◌, ◌^◌, ap, sym, ◌∙◌}
use Rattle.home_cells.specs.Found.{gathered_below}
use Rattle.home_cells.proofs.Joining.{empty}
use Rattle.home_cells.proofs.Search.{to_own, from_own}
use Rattle.home_cells.proofs.gather.gather_last.Goals as goal

pub gather-requires-clause-sum : goal.gather-requires-clause-sum
gather-requires-clause-sum c = λ d.
    c.requires.sum d
    ∙ to_own c.requires.told.0 c.args.kept.now.entries.now c.args.cell.now c.args.kept.now.order.now c.requires.told.1 c.requires.order c.is_of_box.ensures d
    ∙ ap (λ n. gathered_below c.args.cell.now c.args.kept.now.entries.now c.args.kept.now.order.now d (n * 2 ^ 26)) (sym c.code_of.ensures.value)

pub returns : goal.returns
returns c = λ w t.
    c.gather.ensures empty
    ∙ ap (λ n. gathered_below c.args.cell.now c.args.kept.now.entries.now c.args.kept.now.order.now empty (n * 2 ^ 26 + 2 ^ 26)) c.code_of.ensures.value
    ∙ from_own w c.args.kept.now.entries.now c.args.cell.now c.args.kept.now.order.now t c.requires.order c.is_of_box.ensures empty
