use Rattle.std.proofs.Common.{rules, ◌≡◌, List, ℕ, get_or, ap, subst, ◌∙◌}
use Rattle.std.specs.Prelude.{IsPermutation}
use Rattle.cell_space.specs.Cells.{place}
use Rattle.nbody_model.specs.Bodies.{BodyData}
use Rattle.neighbour_find.specs.Near.{near, nobody}
use Rattle.neighbour_find.proofs.Places.{finds_near, small_ids}
use Rattle.neighbour_find.proofs.finder.Finder.find.Goals as goal

pub walk-requires-clause-ids : goal.walk-requires-clause-ids
walk-requires-clause-ids c = small_ids c.self.inside.bodies.items c.self.inside.tree.bodies c.self.invariant.valid c.self.invariant.tree.tree.over.along.permuted

pub returns : goal.returns
returns c =
    let B = c.self.inside.bodies.items in
    let view : c.self.inside.bodies.items ≡ c.args.self.now = search rules in
    let pos : place c.around-around.result.pos ≡ (get_or B c.args.i nobody).motion.pos = c.around-around.ensures.pos ∙ ap (λ (B : List BodyData). (get_or B c.args.i nobody).motion.pos) c.deref.ensures.value in
    subst (λ (B : List BodyData). c.sort.new.out.items ≡ near c.args.reach B c.args.i) view
    (finds_near c.args.reach B c.self.inside.tree.bodies c.args.i c.around-around.result c.sort.new.out.items c.around-around.ensures.id pos c.around-around.ensures.square c.self.invariant.tree.tree.over.along.permuted
    (subst (λ (xs : List ℕ). IsPermutation xs c.sort.new.out.items) c.in_ok-walk.ensures c.sort.ensures.permutation) c.sort.ensures.up)
