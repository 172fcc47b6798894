use Rattle.std.proofs.Common.{sym, ◌∙◌}
use Rattle.node_moments.proofs.Shifts.{shifts}
use Rattle.home_cells.proofs.found.moved.Goals as goal

pub returns : goal.returns
returns c =
    let n = c.requires.node in
    c.shift.ensures n.setup n.all n.sums ∙ sym (shifts n.setup n.all c.args.raw.now c.args.cell.now n.sums c.requires.inside)
