use Rattle.std.proofs.Common.{◌≡◌, refl, ap, subst, ◌∙◌}
use Rattle.node_moments.specs.Sums.{RawData}
use Rattle.node_moments.specs.Shifted.{shifted}
use Rattle.node_moments.proofs.Shifts.{Kept, shifts, shift_kept, by_sums, equal_kept}
use Rattle.node_moments.proofs.raw.Raw.shift.Goals as goal

pub invariant_of-result : goal.invariant_of-result
invariant_of-result c =
    let r = c.args.self.now in
    let made : RawData = record { cell = c.args.cell.now; count = c.self.inside.count; mass = c.self.inside.mass; mx = c.firsts.result; mxx = c.seconds.result; lo = c.self.inside.lo; hi = c.self.inside.hi; eps = c.self.inside.eps } in
    let e : made ≡ shifted r c.args.cell.now = by_sums made (shifted r c.args.cell.now) refl (ap (λ r. r.count) c.self.view_is) (ap (λ r. r.mass) c.self.view_is) c.firsts.ensures c.seconds.ensures (ap (λ r. r.lo) c.self.view_is) (ap (λ r. r.hi) c.self.view_is) (ap (λ r. r.eps) c.self.view_is) in
    equal_kept made (shifted r c.args.cell.now) e (shift_kept r c.args.cell.now c.requires.node c.requires.low (subst Kept c.self.view_is c.self.invariant))

pub returns : goal.returns
returns c =
    let r = c.args.self.now in
    let made : RawData = record { cell = c.args.cell.now; count = c.self.inside.count; mass = c.self.inside.mass; mx = c.firsts.result; mxx = c.seconds.result; lo = c.self.inside.lo; hi = c.self.inside.hi; eps = c.self.inside.eps } in
    let e : made ≡ shifted r c.args.cell.now = by_sums made (shifted r c.args.cell.now) refl (ap (λ r. r.count) c.self.view_is) (ap (λ r. r.mass) c.self.view_is) c.firsts.ensures c.seconds.ensures (ap (λ r. r.lo) c.self.view_is) (ap (λ r. r.hi) c.self.view_is) (ap (λ r. r.eps) c.self.view_is) in
    λ s B h. e ∙ shifts s B r c.args.cell.now h c.requires.low
