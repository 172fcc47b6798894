use Rattle.std.proofs.Common.{◌≡◌, ◌+◌, ◌-◌, subst, arith}
use Rattle.std.specs.Prelude.{slice_index}
use Rattle.std.proofs.lemmas.List.{get_or_default}
use Rattle.domain_split.proofs.Leasts.{AreLeast, least_goes_on}
use Rattle.domain_split.proofs.bounds.leasts_of.Goals as goal

pub loop-from-preserved : goal.loop-from-preserved
loop-from-preserved c =
    let here = c.loop-from.from - 1 in
    let e : c.loop-from.from ≡ c.loop-from.from - 1 + 1 = omega (arith, c.loop-from-test.true) in
    let w = c.loop-from.invariant.within in
    let b = slice_index c.args.bounds.now here in
    let small = c.type_inv.bounds here in
    least_goes_on c.args.bounds.now c.loop-from.rising.items c.insert.new.self.items c.loop-from.least c.min-least.result b here
    (subst (AreLeast c.args.bounds.now c.loop-from.rising.items c.loop-from.least) e c.loop-from.invariant) (omega (arith, small)) (get_or_default c.args.bounds.now here 0 b (omega (arith, w, c.loop-from-test.true)))
    c.min-least.ensures c.in_ok-insert.ensures.items
