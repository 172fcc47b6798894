use Rattle.std.proofs.Common.{ap, sym, ◌∙◌, subst}
use Rattle.std.specs.Prelude.{slice_index_or}
use Rattle.rank_laws.specs.Whole.{own}
use Rattle.rank_exchange.specs.Keyed.{Climbs, keys_in, sum_at}
use Rattle.rank_exchange.proofs.Nexts.{forces_there}
use Rattle.rank_exchange.proofs.rank.Rank.force_at.Goals as goal

pub force_of-requires : goal.force_of-requires
force_of-requires c = subst (λ t. Climbs (keys_in t)) (sym c.deref.ensures.value) (forces_there c.requires.told.0 c.args.self.now c.requires.told.1.0 c.requires.told.1.1).climbs

pub returns : goal.returns
returns c = λ m d h t. c.force_of.ensures m (slice_index_or (own m.whole m.rank) c.args.i d)
    (λ b. ap (sum_at b.id) c.deref.ensures.value ∙ (forces_there m c.args.self.now h t).given b)
    (sym (c.id_at.ensures d ∙ ap (λ x. (slice_index_or x c.args.i d).id) (c.deref-2.ensures.value ∙ h.most.bodies)))
