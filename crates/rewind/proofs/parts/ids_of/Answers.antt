use Rattle.std.proofs.Common.{◌≡◌, ◌∷◌, [], ◌++◌, get_or, ap, sym, ◌∙◌}
use Rattle.nbody_model.specs.Bodies.{BodyData}
use Rattle.kick_drift.proofs.Chosen.{blank, got, ids_more, id_at, id_at_is}
use Rattle.rewind.proofs.parts.ids_of.Goals as goal

pub loop-place-preserved : goal.loop-place-preserved
loop-place-preserved c =
    let B = c.args.set.now in
    let ps = c.args.part.now in
    let k = c.loop-place.place-index in
    let found : get_or B (get_or ps k 0) blank ≡ c.get.result.now = got B (get_or ps k 0) c.get.result.now blank c.get.ensures in
    let named : id_at B (get_or ps k 0) ≡ c.behind-set.inside.id = id_at_is B (get_or ps k 0) blank (c.requires.within k c.loop-place-test.true) ∙ ap (λ (b : BodyData). b.id) (found ∙ sym c.behind-set.view_is) in
    c.in_ok-push.ensures.items ∙ (λ i. c.loop-place.invariant i ++ sym named i ∷ []) ∙ sym (ids_more B ps k c.loop-place-test.true)
