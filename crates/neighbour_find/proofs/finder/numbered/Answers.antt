use Rattle.std.proofs.Common.{rules, ◌≡◌, ◌++◌, ◌∷◌, [], ap, sym, subst, ◌∙◌, arith}
use Rattle.std.proofs.lemmas.List.{take_all}
use Rattle.nbody_model.specs.Bodies.{BodyData, IsValid}
use Rattle.neighbour_find.specs.Numbered.{numbered, with_id}
use Rattle.neighbour_find.proofs.Places.{numbered_more, numbered_valid}
use Rattle.neighbour_find.proofs.finder.numbered.Goals as goal

pub loop-i-preserved : goal.loop-i-preserved
loop-i-preserved c =
    let pushed : c.push.new.self.items ≡ c.loop-i.list.items ++ with_id c.index-bodies-i.result c.loop-i.i ∷ [] = c.in_ok-push.ensures.items ∙ ap (λ (b : BodyData). c.loop-i.list.items ++ b ∷ []) c.at_place.ensures in
    numbered_more c.args.bodies.now c.loop-i.i c.index-bodies-i.result c.loop-i.list.items c.push.new.self.items c.loop-i-test.true (search rules) c.loop-i.invariant pushed

pub returns-clause-valid : goal.returns-clause-valid
returns-clause-valid c = subst IsValid (sym (c.loop-i.invariant ∙ ap (numbered 0) (take_all c.loop-i.i c.args.bodies.now (omega (arith, c.loop-i-test.false))))) (numbered_valid c.args.bodies.now c.requires)
