use Rattle.std.proofs.Common.{refl, ap, cond, ◌∙◌, ◌∷◌, []}
use Rattle.std.specs.List.{list_any}
use Rattle.rank_walk.specs.Slots.{slot_at, two}
use Rattle.rank_walk.specs.Starts.{knows_places}
use Rattle.rank_walk.proofs.Begins.{heard_first, walker_begins}
use Rattle.rank_walk.proofs.walker.Walker.new.Goals as goal

pub returns : goal.returns
returns g c = λ z v s u. walker_begins z (g.met.S.Source.seated c.args.source.now z v).seat c.in_ok-heard.heard (c.in_ok-heard.ensures z v) s u _ refl refl refl refl (heard_first z (g.met.S.Source.seated c.args.source.now z v).seat c.in_ok-heard.heard (c.in_ok-heard.ensures z v) s u)
    (c.in_ok-list.ensures ∙ ap (λ t. cond (slot_at t 0).mine (two 0 0 ∷ []) []) c.deref.ensures.value) refl refl (c.knows_some-more.ensures ∙ (λ i. list_any (knows_places (c.deref-2.ensures.value i)) (c.deref-3.ensures.value i)))
