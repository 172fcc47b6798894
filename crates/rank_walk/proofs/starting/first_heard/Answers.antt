use Rattle.std.proofs.Common.{◌++◌, ◌∷◌, [], false, ap, ◌∙◌, subst}
use Rattle.fixed_point.specs.Vectors.{origin}
use Rattle.rank_walk.specs.Tables.{IsFresh}
use Rattle.rank_walk.proofs.Hears.{root_stands}
use Rattle.rank_walk.proofs.starting.first_heard.Goals as goal

pub slot_of-requires : goal.slot_of-requires
slot_of-requires g c = (c.requires.0, (c.requires.1, root_stands c.requires.0 c.root.result c.root.ensures))

pub returns : goal.returns
returns g c = λ z v. record {
  root = c.slot_of.result;
  fresh = subst (λ d. IsFresh z d c.slot_of.result) c.root.ensures (c.slot_of.ensures z v (root_stands z c.root.result c.root.ensures));
  slots = c.in_ok-push.ensures.items ∙ ap (λ t. t ++ c.slot_of.result ∷ []) c.new-slots.ensures.items;
  sums = c.in_ok-push-2.ensures.items ∙ ap (λ t. t ++ origin ∷ []) c.new-sums.ensures.items;
  touched = c.in_ok-push-3.ensures.items ∙ ap (λ t. t ++ false ∷ []) c.new-touched.ensures.items;
  asked = c.in_ok-push-4.ensures.items ∙ ap (λ t. t ++ false ∷ []) c.new-asked.ensures.items;
}
