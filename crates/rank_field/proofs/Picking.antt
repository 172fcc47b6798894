-- Events that are picked one after another, until none is enabled.
use Rattle.std.proofs.Common.{◌≡◌, ℕ, ◌<◌, List, [], ◌∷◌, ◌++◌, refl, sym, ap, ◌∙◌, subst, arith, inl, inr}
use Rattle.nbody_model.specs.declared.field.Event.{Event}
use Rattle.rank_laws.specs.Protocol.{World, happens}
use Rattle.rank_laws.specs.Machine.{Message, Rank, machine}
use Rattle.rank_laws.specs.Told.{told}
use Rattle.rank_laws.specs.Played.{IsPlayed, Picks, picked}
use Rattle.rank_laws.specs.Whole.{Whole, rules_of}
use Rattle.rank_field.specs.Fields.{HasGoneOn, HasPlayed, IsPicked}
use Rattle.rank_field.specs.Machines.{CanFire, HasFired, IsMachine, MachineData, enabled_in}

-- a machine came so far by events that were picked
pub record HasPicked (p : Picks) (w : Whole) (z : World Rank Message) (a : List ℕ) (es : List Event) (b : List ℕ) (v : MachineData) : Type 0 where
  pub now : World Rank Message
  pub picked : IsPicked p w z a es now b
  pub machine : IsMachine w now v

module _ (p : Picks) (w : Whole) where
  abbrev next : World Rank Message → List ℕ → World Rank Message
  next m a = happens (machine (rules_of w)) m (picked p w m a)

  abbrev left : World Rank Message → List ℕ → List ℕ
  left m a = p.after a (enabled_in w m)

  -- one more is picked at the end
  picked_more : (m : World Rank Message) (a : List ℕ) (es : List Event) (y : World Rank Message) (c : List ℕ) (e : Event) → IsPicked p w m a es y c →
      p.answer c (enabled_in w y) < enabled_in w y → e ≡ told w y (picked p w y c) → IsPicked p w m a (es ++ e ∷ []) (next y c) (left y c)
  picked_more m a [] y c e h below is =
      subst (λ (m : World Rank Message). IsPicked p w m a (e ∷ []) (next y c) (left y c)) (sym h.0)
      (subst (λ (a : List ℕ). IsPicked p w y a (e ∷ []) (next y c) (left y c)) (sym h.1) (below, is, (refl, refl)))
  picked_more m a (f ∷ es) y c e h below is = (h.0, h.1, picked_more (next m a) (left m a) es y c e h.2 below is)

  -- where none is enabled, these are all
  picked_all : (m : World Rank Message) (a : List ℕ) (es : List Event) (z : World Rank Message) (b : List ℕ) → IsPicked p w m a es z b → enabled_in w z ≡ 0 → IsPlayed p w m a es z b
  picked_all m a [] z b h none = (ap (enabled_in w) h.0 ∙ none, h.0, h.1)
  picked_all m a (e ∷ es) z b h none = (h.0, h.1, picked_all (next m a) (left m a) es z b h.2 none)

  module _ (z : World Rank Message) (a : List ℕ) where
    pub begins : (v : MachineData) (es : List Event) → es ≡ [] → IsMachine w z v → HasPicked p w z a es a v
    begins v es none h = record {
      now = z;
      picked = subst (λ (es : List Event). IsPicked p w z a es z a) (sym none) (refl, refl);
      machine = h;
    }

    module _ (es : List Event) (b : List ℕ) (v : MachineData) (h : HasPicked p w z a es b v) where
      pub ends : enabled_in w h.now ≡ 0 → HasPlayed p w z a es b v
      ends none = record {
        last = h.now;
        played = picked_all z a es h.now b h.picked none;
        finished = record { machine = h.machine; ended = none };
      }

      pub can_fire : (k n : ℕ) → n ≡ enabled_in w h.now → k < n → CanFire w h.now k v
      can_fire k n many below = record { machine = h.machine; enabled = omega (arith, many, below) }

      -- one more event was done, of the number that was picked
      pub goes_on : (k n : ℕ) (e : Event) (u : MachineData) (c : List ℕ) (fs : List Event) → n ≡ enabled_in w h.now → k < n → k ≡ p.answer b n → c ≡ p.after b n →
          fs ≡ es ++ e ∷ [] → HasFired w h.now k e v u → HasPicked p w z a fs c u
      goes_on k n e u c fs many below is after pushed fired =
          let answered : k ≡ p.answer b (enabled_in w h.now) = is ∙ ap (p.answer b) many in
          let one : HasFired w h.now (p.answer b (enabled_in w h.now)) e v u = subst (λ (k : ℕ). HasFired w h.now k e v u) answered fired in
          let all : IsPicked p w z a (es ++ e ∷ []) (next h.now b) (left h.now b) = picked_more z a es h.now b e h.picked (omega (arith, answered, many, below)) one.event in
          let done : IsPicked p w z a fs (next h.now b) (left h.now b) = subst (λ (es : List Event). IsPicked p w z a es (next h.now b) (left h.now b)) (sym pushed) all in
          record {
            now = next h.now b;
            picked = subst (λ (c : List ℕ). IsPicked p w z a fs (next h.now b) c) (sym (after ∙ ap (p.after b) many)) done;
            machine = one.machine;
          }

      -- the state between two picks, and that after one more
      pub gone_so_far : HasGoneOn p w z a b
      gone_so_far = record { events = es; now = h.now; left = b; picked = h.picked; rest = inl refl }

      pub gone_by_one : (n : ℕ) (c : List ℕ) → n ≡ enabled_in w h.now → 0 < n → c ≡ p.after b n → HasGoneOn p w z a c
      gone_by_one n c many some after = record { events = es; now = h.now; left = b; picked = h.picked; rest = inr (omega (arith, many, some), after ∙ ap (p.after b) many) }
