-- A rank's tree is that of its own bodies.
use Rattle.std.proofs.Common.{◌≡◌, ℕ, suc, List, [], ◌∷◌, map, length, refl, ap, sym, ◌∙◌, subst}
use Rattle.nbody_model.specs.Bodies.{BodyData, IsValid}
use Rattle.nbody_model.specs.Setups.{AreSoftenings, SetupData}
use Rattle.octree_build.specs.Trees.{IsTree, NodeData, TreeData}
use Rattle.rank_laws.specs.Contents.{own_nodes}
use Rattle.rank_laws.specs.Whole.{Whole}
use Rattle.rank_entry_laws.proofs.OwnBodies.{own_bodies}
use Rattle.home_cells.specs.Entries.{IsOfRank}
use Rattle.home_cells.proofs.Own.{nodes_are_own}
use Rattle.rank_exchange.specs.Built.{AreOfRank}

length_map : {X Y : Type 0} (f : X → Y) (xs : List X) → length (map f xs) ≡ length xs
length_map f [] = refl
length_map f (x ∷ xs) = ap suc (length_map f xs)

module _ (w : Whole) (r : ℕ) (bodies : List BodyData) (soft bounds : List ℕ) (o : AreOfRank w r bodies soft bounds) where
  pub own_valid : IsValid bodies
  own_valid = subst IsValid (sym o.own) (own_bodies w o.whole r).valid

  pub own_softenings : AreSoftenings soft
  own_softenings = subst AreSoftenings o.soft o.softenings.softenings

  pub of_rank : (t : TreeData) → ((s : SetupData) → s.soft ≡ soft → IsTree s bodies t) → IsOfRank w r t bounds
  of_rank t f = record { keys = o.keys; tree = subst (λ B. IsTree w.gravity.setup B t) o.own (f w.gravity.setup o.soft) }

  pub many_nodes : (t : TreeData) → ((s : SetupData) → s.soft ≡ soft → IsTree s bodies t) → length t.nodes ≡ length (own_nodes w r)
  many_nodes t f = sym (length_map (λ (n : NodeData). n.moments.cell) t.nodes) ∙ ap length (nodes_are_own w r t bounds (of_rank t f))
