use Rattle.std.proofs.Common.{refl, sym, ◌∙◌, subst}
use Rattle.model_laws.specs.Laws.{AreBodies}
use Rattle.octree_build.specs.Trees.{IsAlong}
use Rattle.rank_entry_laws.proofs.OwnBodies.{own_bodies}
use Rattle.rank_exchange.specs.Moments.{state_at}
use Rattle.rank_exchange.proofs.Ranked.{most_sorted}
use Rattle.rank_exchange.proofs.rank.Rank.sort_own.Goals as goal

pub along-requires : goal.along-requires
along-requires c = subst AreBodies (sym (c.deref.ensures.value ∙ c.requires.1.most.bodies)) (own_bodies c.requires.0.whole c.requires.0.is_whole c.requires.0.rank)

pub returns : goal.returns
returns c = λ m h. record {
  rank = record {
    most = most_sorted m.whole m.rank (state_at m) c.args.self.now c.in_ok-self.field-0 (subst (λ t. IsAlong t c.in_ok-self.field-0.items) (c.deref.ensures.value ∙ h.most.bodies) c.in_ok-self.ensures) h.most;
    forces = λ s n. h.forces s n;
  };
  sorted = refl;
}
