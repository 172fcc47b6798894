use Rattle.std.proofs.Common.{codes}
use Rattle.gadget.specs.Texts.{counted}
use Rattle.fixed_point.proofs.Joins.{join_four}
use Rattle.gadget.proofs.texts.push_mom_range.Goals as goal

pub returns : goal.returns
returns c =
    join_four c.args.line.now.items (counted (codes "momentum range tick") c.args.tick) (counted (codes " bin") c.args.bin) (counted (codes " id") c.args.id) (counted (codes " axis") c.args.axis)
    c.push_two.new.line.items c.push_two-2.new.line.items c.in_ok-push_two.ensures c.in_ok-push_two-2.ensures
