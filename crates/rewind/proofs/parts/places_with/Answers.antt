use Rattle.std.proofs.Common.{◌≡◌, ◌++◌, ◌∷◌, [], cond, get_or, ap, sym, ◌∙◌}
use Rattle.std.proofs.lemmas.List.{take_all}
use Rattle.nbody_model.specs.Bodies.{has}
use Rattle.kick_drift.proofs.Chosen.{id_at}
use Rattle.rewind.proofs.Placed.{placed, placed_more}
use Rattle.rewind.proofs.parts.places_with.Goals as goal

pub loop-place-preserved : goal.loop-place-preserved
loop-place-preserved c =
    let B = c.args.set.now in
    let F = c.args.ids.now in
    let ps = c.args.part.now in
    let k = c.loop-place.place-index in
    let p = get_or ps k 0 in
    let test : c.has_id-wanted.result ≡ has F (id_at B p) = c.has_id-wanted.ensures in
    c.in_ok-push_where.ensures ∙ (λ i. c.loop-place.invariant i ++ cond (test i) (p ∷ []) []) ∙ sym (placed_more B F ps k c.loop-place-test.true)

pub returns : goal.returns
returns c = c.loop-place.invariant ∙ ap (placed c.args.set.now c.args.ids.now) (take_all c.loop-place.place-index c.args.part.now c.loop-place-test.false)
