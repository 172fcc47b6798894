-- A play over the bodies as they are split.
use Rattle.std.proofs.Common.{◌≡◌, ℕ, List, [], refl, ap, ◌∙◌, subst, inl}
use Rattle.nbody_model.specs.declared.field.Event.{Event}
use Rattle.nbody_model.specs.Bodies.{BodyData}
use Rattle.nbody_model.specs.Tables.{Gravity}
use Rattle.domain_split.specs.Splits.{owners_of}
use Rattle.rank_laws.specs.Protocol.{World}
use Rattle.rank_laws.specs.Machine.{Message, Rank, start_world}
use Rattle.rank_laws.specs.Played.{IsPlayed, Picks}
use Rattle.rank_laws.specs.Whole.{Whole, rules_of}
use Rattle.rank_curve_laws.specs.Along.{bounds_of, divided}
use Rattle.rank_field.specs.Fields.{HasGoneOn, HasGoneOnAmong, IsPlayedAmong, split_among}

module _ (g : Gravity) (B : List BodyData) (ranks : ℕ) where
  -- bodies divided by the owners and the bounds that were made for them are the bodies as they are split
  pub is_split : (n : ℕ) (os ds bs : List ℕ) → n ≡ ranks → os ≡ owners_of n B → ds ≡ os → bs ≡ bounds_of B ds n → divided B g os bs ≡ split_among B g ranks
  is_split n os ds bs many owned same bounded =
      let owners : os ≡ owners_of ranks B = owned ∙ ap (λ (n : ℕ). owners_of n B) many in
      let bounds : bs ≡ bounds_of B (owners_of ranks B) ranks =
      bounded ∙ ap (λ (os : List ℕ). bounds_of B os n) (same ∙ owners) ∙ ap (bounds_of B (owners_of ranks B)) many in
      λ i. divided B g (owners i) (bounds i)

  module _ (p : Picks) (a b : List ℕ) where
    pub played_among : (w : Whole) (es : List Event) (last : World Rank Message) → w ≡ split_among B g ranks → IsPlayed p w (start_world (rules_of w)) a es last b → IsPlayedAmong p g ranks B a es b
    played_among w es last split played = record { last = last; played = subst (λ (w : Whole). IsPlayed p w (start_world (rules_of w)) a es last b) split played }

    pub gone_on_among : (w : Whole) → w ≡ split_among B g ranks → HasGoneOn p w (start_world (rules_of w)) a b → HasGoneOnAmong p g ranks B a b
    gone_on_among w split gone = subst (λ (w : Whole). HasGoneOn p w (start_world (rules_of w)) a b) split gone

  -- nothing was picked yet
  pub gone_nowhere : (p : Picks) (a : List ℕ) → HasGoneOnAmong p g ranks B a a
  gone_nowhere p a = record { events = []; now = start_world (rules_of (split_among B g ranks)); left = a; picked = (refl, refl); rest = inl refl }
