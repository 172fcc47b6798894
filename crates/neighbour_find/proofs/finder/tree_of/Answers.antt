use Rattle.std.proofs.Common.{List, ℕ, [], ◌∷◌, refl, subst, ◌∙◌}
use Rattle.nbody_model.specs.Bodies.{BodyData}
use Rattle.octree_build.specs.Trees.{IsTree}
use Rattle.octree_build.proofs.Seen.{setup_with}
use Rattle.neighbour_find.proofs.finder.tree_of.Goals as goal

soft : List ℕ
soft = 256 ∷ 256 ∷ 256 ∷ 256 ∷ 256 ∷ 256 ∷ []

pub returns : goal.returns
unfolding soft
returns c = record {
  setup = setup_with soft;
  tree = subst (λ (B : List BodyData). IsTree (setup_with soft) B c.in_ok-tree.tree) (c.deref.ensures.value ∙ c.in_ok-list.ensures.value) (c.in_ok-tree.ensures.tree (setup_with soft) refl);
}
