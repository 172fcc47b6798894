use Rattle.std.proofs.Common.{ap, ◌∙◌, get_or, arith, FitsSigned}
use Rattle.std.specs.Int.{w128}
use Rattle.std.proofs.lemmas.Int.{to_z-of_z, fits_signed_from_abs}
use Rattle.nbody_model.specs.Nodes.{members}
use Rattle.nbody_model.specs.Force.{share}
use Rattle.force_field.proofs.shares.shares_in.Goals as goal

pub returns-clause-value : goal.returns-clause-value
returns-clause-value c = λ b.
    let ms = members c.args.bodies.now c.args.cell.now in
    let fits_x : FitsSigned w128 c.in_ok-x.x = fits_signed_from_abs w128 c.in_ok-x.x (omega (arith, c.in_ok-x.ensures.small)) in
    let fits_y : FitsSigned w128 c.in_ok-y.y = fits_signed_from_abs w128 c.in_ok-y.y (omega (arith, c.in_ok-y.ensures.small)) in
    let fits_z : FitsSigned w128 c.in_ok-z.z = fits_signed_from_abs w128 c.in_ok-z.z (omega (arith, c.in_ok-z.ensures.small)) in
    let x = to_z-of_z w128 c.in_ok-x.x fits_x ∙ c.in_ok-x.ensures.value b ∙ ap (λ t. share ms t (get_or c.args.bodies.now c.args.i b)) (to_z-of_z w128 c.args.total.now.x (fits_signed_from_abs w128 c.args.total.now.x (omega (arith, c.requires.size.on_x)))) in
    let y = to_z-of_z w128 c.in_ok-y.y fits_y ∙ c.in_ok-y.ensures.value b ∙ ap (λ t. share ms t (get_or c.args.bodies.now c.args.i b)) (to_z-of_z w128 c.args.total.now.y (fits_signed_from_abs w128 c.args.total.now.y (omega (arith, c.requires.size.on_y)))) in
    let z = to_z-of_z w128 c.in_ok-z.z fits_z ∙ c.in_ok-z.ensures.value b ∙ ap (λ t. share ms t (get_or c.args.bodies.now c.args.i b)) (to_z-of_z w128 c.args.total.now.z (fits_signed_from_abs w128 c.args.total.now.z (omega (arith, c.requires.size.on_z)))) in
    λ i. record { x = x i; y = y i; z = z i }
