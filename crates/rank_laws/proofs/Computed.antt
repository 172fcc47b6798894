-- The play from a start, computed.
use Rattle.std.proofs.Common.{◌≡◌, ℕ, zero, suc, ◌<◌, ◌≤◌, false, cond, eqb, List, [], ◌∷◌, refl, ap, sym, subst, ◌∙◌, arith, ◌⊎◌, inl, inr}
use Rattle.std.proofs.lemmas.Bool.{eq-eqb, ne_eqb, cases_lt}
use Rattle.nbody_model.specs.declared.field.Event.{Event}
use Rattle.rank_laws.specs.Protocol.{World, happens, enabled}
use Rattle.rank_laws.specs.Machine.{Message, Rank, machine}
use Rattle.rank_laws.specs.Whole.{Whole, rules_of}
use Rattle.rank_laws.specs.Told.{told}
use Rattle.rank_laws.specs.Played.{Picks, IsInRange, PlaysTo, picked, IsPlayed, events_by, end_by, PlaysAreComputed}

module _ (p : Picks) (w : Whole) where
  abbrev next : World Rank Message → List ℕ → World Rank Message
  next m a = happens (machine (rules_of w)) m (picked p w m a)

  abbrev later : World Rank Message → List ℕ → List ℕ
  later m a = p.after a (enabled (machine (rules_of w)) m)

  -- where no event is enabled
  no_events : (n : ℕ) (m : World Rank Message) (a : List ℕ) → enabled (machine (rules_of w)) m ≡ 0 → [] ≡ events_by p w n m a
  unfolding events_by
  no_events zero m a e = refl
  no_events (suc n) m a e = sym (ap (λ b. cond b [] (told w m (picked p w m a) ∷ events_by p w n (next m a) (later m a))) (eq-eqb (enabled (machine (rules_of w)) m) 0 e))

  same_end : (n : ℕ) (m : World Rank Message) (a : List ℕ) → enabled (machine (rules_of w)) m ≡ 0 → m ≡ end_by p w n m a
  unfolding end_by
  same_end zero m a e = refl
  same_end (suc n) m a e = sym (ap (λ b. cond b m (end_by p w n (next m a) (later m a))) (eq-eqb (enabled (machine (rules_of w)) m) 0 e))

  -- where one is
  one_event : (n : ℕ) (m : World Rank Message) (a : List ℕ) → eqb (enabled (machine (rules_of w)) m) 0 ≡ false → events_by p w (suc n) m a ≡ told w m (picked p w m a) ∷ events_by p w n (next m a) (later m a)
  unfolding events_by
  one_event n m a e = ap (λ b. cond b [] (told w m (picked p w m a) ∷ events_by p w n (next m a) (later m a))) e

  later_end : (n : ℕ) (m : World Rank Message) (a : List ℕ) → eqb (enabled (machine (rules_of w)) m) 0 ≡ false → end_by p w (suc n) m a ≡ end_by p w n (next m a) (later m a)
  unfolding end_by
  later_end n m a e = ap (λ b. cond b m (end_by p w n (next m a) (later m a))) e

  too_short : (m : World Rank Message) (a : List ℕ) → enabled (machine (rules_of w)) (end_by p w 0 m a) ≡ 0 → enabled (machine (rules_of w)) m ≡ 0
  unfolding end_by
  too_short m a e = e

  pub computed : (n : ℕ) (m : World Rank Message) (a : List ℕ) → enabled (machine (rules_of w)) (end_by p w n m a) ≡ 0 → (es : List Event) (z : World Rank Message) (b : List ℕ) → IsPlayed p w m a es z b → (es ≡ events_by p w n m a) × (z ≡ end_by p w n m a)
  computed n m a k [] z b h = (no_events n m a h.0, sym h.1 ∙ same_end n m a h.0)
  computed zero m a k (e ∷ es) z b h = absurd (omega (arith, too_short m a k, h.0))
  computed (suc n) m a k (e ∷ es) z b h =
      let off : eqb (enabled (machine (rules_of w)) m) 0 ≡ false = ne_eqb (enabled (machine (rules_of w)) m) 0 (λ u. omega (arith, u, h.0)) in
      let r : (es ≡ events_by p w n (next m a) (later m a)) × (z ≡ end_by p w n (next m a) (later m a)) =
      computed n (next m a) (later m a) (ap (enabled (machine (rules_of w))) (sym (later_end n m a off)) ∙ k) es z b h.2 in
      (ap (λ u. u ∷ es) h.1 ∙ ap (λ us. told w m (picked p w m a) ∷ us) r.0 ∙ sym (one_event n m a off), r.1 ∙ sym (later_end n m a off))

module _ (p : Picks) (w : Whole) (r : IsInRange p) where
  there_by : (n : ℕ) (m : World Rank Message) (a : List ℕ) → enabled (machine (rules_of w)) (end_by p w n m a) ≡ 0 → PlaysTo p w m a (events_by p w n m a) (end_by p w n m a)
  there_by zero m a k = at_once 0 m a (too_short p w m a k)
    where
      at_once : (n : ℕ) (m : World Rank Message) (a : List ℕ) → enabled (machine (rules_of w)) m ≡ 0 → PlaysTo p w m a (events_by p w n m a) (end_by p w n m a)
      at_once n m a e = subst (λ es. PlaysTo p w m a es (end_by p w n m a)) (no_events p w n m a e) (subst (λ z. PlaysTo p w m a [] z) (same_end p w n m a e) (record { left = a; played = (e, refl, refl) }))
  there_by (suc n) m a k = by (cases_lt 0 (enabled (machine (rules_of w)) m)) (λ e. there_by n (next p w m a) (later p w m a) e)
    where
      by : (0 < enabled (machine (rules_of w)) m) ⊎ (enabled (machine (rules_of w)) m ≤ 0) → (enabled (machine (rules_of w)) (end_by p w n (next p w m a) (later p w m a)) ≡ 0 → PlaysTo p w (next p w m a) (later p w m a) (events_by p w n (next p w m a) (later p w m a)) (end_by p w n (next p w m a) (later p w m a))) → PlaysTo p w m a (events_by p w (suc n) m a) (end_by p w (suc n) m a)
      by (inl h) rest =
          let off : eqb (enabled (machine (rules_of w)) m) 0 ≡ false = ne_eqb (enabled (machine (rules_of w)) m) 0 (λ u. omega (arith, u, h)) in
          let f : PlaysTo p w (next p w m a) (later p w m a) (events_by p w n (next p w m a) (later p w m a)) (end_by p w n (next p w m a) (later p w m a)) = rest (ap (enabled (machine (rules_of w))) (sym (later_end p w n m a off)) ∙ k) in
          subst (λ es. PlaysTo p w m a es (end_by p w (suc n) m a)) (sym (one_event p w n m a off))
          (subst (λ z. PlaysTo p w m a (told w m (picked p w m a) ∷ events_by p w n (next p w m a) (later p w m a)) z) (sym (later_end p w n m a off)) (record { left = f.left; played = (r a (enabled (machine (rules_of w)) m) h, refl, f.played) }))
      by (inr h) rest =
          let e : enabled (machine (rules_of w)) m ≡ 0 = omega (arith, h) in
          subst (λ es. PlaysTo p w m a es (end_by p w (suc n) m a)) (no_events p w (suc n) m a e) (subst (λ z. PlaysTo p w m a [] z) (same_end p w (suc n) m a e) (record { left = a; played = (e, refl, refl) }))

pub plays_computed : PlaysAreComputed
plays_computed p w n m a k = record { there = λ r. there_by p w r n m a k; only = λ es z b h. computed p w n m a k es z b h }
