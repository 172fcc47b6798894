use Rattle.std.proofs.Common.{List, refl, sym, subst}
use Rattle.nbody_model.specs.Bodies.{BodyData}
use Rattle.nbody_model.specs.Setups.{SetupData, AreSoftenings}
use Rattle.octree_build.specs.Trees.{IsOver, IsTree, IsOfBodies, AreNodes}
use Rattle.octree_build.proofs.Seen.{setup_with}
use Rattle.octree_build.proofs.Made.{tree_within}
use Rattle.octree_build.proofs.tree.build.Goals as goal

pub tree_of-requires : goal.tree_of-requires
tree_of-requires c =
    let s : SetupData = setup_with c.args.soft.now in
    let B : List BodyData = c.args.bodies.now in
    let o : IsOver s.soft B c.in_ok-all.all.bodies.items = record { bodies = c.keep_limits.ensures.bodies; kinds = c.keep_limits.ensures.kinds; softenings = c.requires.softenings; along = c.in_ok-all.ensures.along } in
    let a : AreNodes s B c.in_ok-all.all.bodies.items c.in_ok-nodes.nodes.items = subst (λ S. AreNodes s B S c.in_ok-nodes.nodes.items) c.deref-2.ensures.value (c.in_ok-nodes.ensures s B refl (subst (IsOver s.soft B) (sym c.deref-2.ensures.value) o)) in
    tree_within s B c.in_ok-all.all.bodies.items c.in_ok-nodes.nodes.items c.args.soft.now o a

pub returns-clause-tree : goal.returns-clause-tree
returns-clause-tree c = λ s e.
    let B : List BodyData = c.args.bodies.now in
    let o : IsOver s.soft B c.in_ok-all.all.bodies.items = record { bodies = c.keep_limits.ensures.bodies; kinds = c.keep_limits.ensures.kinds; softenings = subst AreSoftenings (sym e) c.requires.softenings; along = c.in_ok-all.ensures.along } in
    let a : AreNodes s B c.in_ok-all.all.bodies.items c.in_ok-nodes.nodes.items = subst (λ S. AreNodes s B S c.in_ok-nodes.nodes.items) c.deref-2.ensures.value (c.in_ok-nodes.ensures s B e (subst (IsOver s.soft B) (sym c.deref-2.ensures.value) o)) in
    subst (IsTree s B) (sym c.tree_of.ensures) (record { over = o; soft = sym e; nodes = a })

pub returns-clause-whole : goal.returns-clause-whole
returns-clause-whole c =
    let s : SetupData = setup_with c.args.soft.now in
    let B : List BodyData = c.args.bodies.now in
    let o : IsOver s.soft B c.in_ok-all.all.bodies.items = record { bodies = c.keep_limits.ensures.bodies; kinds = c.keep_limits.ensures.kinds; softenings = c.requires.softenings; along = c.in_ok-all.ensures.along } in
    let a : AreNodes s B c.in_ok-all.all.bodies.items c.in_ok-nodes.nodes.items = subst (λ S. AreNodes s B S c.in_ok-nodes.nodes.items) c.deref-2.ensures.value (c.in_ok-nodes.ensures s B refl (subst (IsOver s.soft B) (sym c.deref-2.ensures.value) o)) in
    subst IsOfBodies (sym c.tree_of.ensures) (record { setup = s; whole = B; tree = record { over = o; soft = refl; nodes = a } })
