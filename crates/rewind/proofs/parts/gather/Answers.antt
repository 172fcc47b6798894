use Rattle.std.proofs.Common.{◌≡◌, ◌∷◌, [], ◌++◌, map, take, get_or, ap, sym, ◌∙◌}
use Rattle.std.proofs.lemmas.List.{take_more, take_all, map-append}
use Rattle.kick_drift.proofs.Chosen.{blank, got}
use Rattle.step_engine.proofs.Picks.{only_at}
use Rattle.rewind.proofs.parts.gather.Goals as goal

pub loop-place-preserved : goal.loop-place-preserved
loop-place-preserved c =
    let B = c.args.set.now in
    let ps = c.args.part.now in
    let k = c.loop-place.place-index in
    let found : get_or B (get_or ps k 0) blank ≡ c.get.result.now = got B (get_or ps k 0) c.get.result.now blank c.get.ensures in
    c.in_ok-push.ensures.items ∙ (λ i. c.loop-place.invariant i ++ sym found i ∷ []) ∙
    sym (ap (map (λ p. get_or B p blank)) (take_more ps k 0 c.loop-place-test.true) ∙ map-append (λ p. get_or B p blank) (take k ps) (get_or ps k 0 ∷ []))

pub returns : goal.returns
returns c =
    c.loop-place.invariant ∙ ap (map (λ p. get_or c.args.set.now p blank)) (take_all c.loop-place.place-index c.args.part.now c.loop-place-test.false) ∙ sym (only_at c.args.set.now c.args.part.now c.ids_ascend.ensures c.requires)
