use Rattle.std.proofs.Common.{◌≡◌, ap, ◌∙◌, arith}
use Rattle.cell_space.specs.Cells.{place}
use Rattle.nbody_model.specs.Moments.{MomentsData}
use Rattle.node_moments.specs.Computed.{moments_by}
use Rattle.node_moments.specs.Conditions.{symmetric}
use Rattle.node_moments.proofs.Nodes.{moments_are, keeps, equal_keeps, by_parts, some_mass, centre_small}
use Rattle.node_moments.proofs.raw.Raw.moments.Goals as goal

pub centre-requires-clause-heavy : goal.centre-requires-clause-heavy
centre-requires-clause-heavy c = some_mass c.args.self.now c.requires

pub centre-requires-clause-in_box : goal.centre-requires-clause-in_box
centre-requires-clause-in_box c = centre_small c.args.self.now c.requires

pub invariant_of-result : goal.invariant_of-result
invariant_of-result c =
    let r = c.args.self.now in
    let made : MomentsData = record { cell = c.self.inside.cell; leaf = c.is_one_place.result; mass = c.self.inside.mass; centre = place c.centre.result; quad = symmetric c.quad.result; eps = c.self.inside.eps } in
    let e : made ≡ moments_by r = by_parts made (moments_by r) (ap (λ r. r.cell) c.self.view_is) c.is_one_place.ensures (ap (λ r. r.mass) c.self.view_is) c.centre.ensures c.quad.ensures (ap (λ r. r.eps) c.self.view_is) in
    equal_keeps made (moments_by r) e (keeps r c.requires (omega (arith, ap (λ r. r.mass) c.self.view_is, c.self.invariant.light)))

pub returns : goal.returns
returns c =
    let r = c.args.self.now in
    let made : MomentsData = record { cell = c.self.inside.cell; leaf = c.is_one_place.result; mass = c.self.inside.mass; centre = place c.centre.result; quad = symmetric c.quad.result; eps = c.self.inside.eps } in
    let e : made ≡ moments_by r = by_parts made (moments_by r) (ap (λ r. r.cell) c.self.view_is) c.is_one_place.ensures (ap (λ r. r.mass) c.self.view_is) c.centre.ensures c.quad.ensures (ap (λ r. r.eps) c.self.view_is) in
    λ s B h. e ∙ moments_are s B r h
