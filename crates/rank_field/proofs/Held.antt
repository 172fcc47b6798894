-- The ranks of a machine, and which event a number names.
use Rattle.std.proofs.Common.{◌≡◌, ℕ, ◌+◌, ◌-◌, ◌<◌, ◌≤◌, Bool, cond, List, length, get_or, ap, sym, ◌∙◌, arith, subst}
use Rattle.std.proofs.lemmas.Bool.{lt-ltb, le-ltb}
use Rattle.rank_laws.specs.Protocol.{World, Move, Acts, Comes, enabled, may, numbered, state}
use Rattle.rank_laws.specs.Machine.{Message, Rank, machine}
use Rattle.rank_laws.specs.Whole.{Whole, rules_of}
use Rattle.rank_laws.proofs.Numbered.{numbered_may}
use Rattle.rank_exchange.specs.Ranks.{IsRank, RankData}
use Rattle.rank_field.specs.Machines.{CanDeliver, CanHappen, CanFire, HoldsRanks, IsMachine, MachineData, acting_in, coming_in, enabled_in, move_of}

module _ (w : Whole) (z : World Rank Message) where
  module _ (v : MachineData) (h : IsMachine w z v) where
    pub ranks_held : (vs : List RankData) → vs ≡ v.ranks.items → HoldsRanks w z vs
    ranks_held vs e = record {
      run = h.run;
      all = ap length e ∙ h.ranks;
      each = λ r d lt. subst (λ (xs : List RankData). IsRank w r (state (machine (rules_of w)) z r) (get_or xs r d)) (sym e) (h.each r d lt);
    }

  pub as_enabled : (a b : ℕ) → a ≡ length (acting_in w z) → b ≡ length (coming_in w z) → a + b ≡ enabled_in w z
  unfolding enabled
  as_enabled a b e f = omega (arith, e, f)

  module _ (k : ℕ) where
    pub acts_first : k < length (acting_in w z) → move_of w z k ≡ Acts (get_or (acting_in w z) k 0)
    unfolding numbered
    acts_first h = ap (λ (b : Bool). cond b (Acts (get_or (acting_in w z) k 0)) (Comes (get_or (coming_in w z) (k - length (acting_in w z)) 0))) (lt-ltb k (length (acting_in w z)) h)

    pub comes_later : length (acting_in w z) ≤ k → move_of w z k ≡ Comes (get_or (coming_in w z) (k - length (acting_in w z)) 0)
    unfolding numbered
    comes_later h = ap (λ (b : Bool). cond b (Acts (get_or (acting_in w z) k 0)) (Comes (get_or (coming_in w z) (k - length (acting_in w z)) 0))) (le-ltb k (length (acting_in w z)) h)

    pub left_coming : k < enabled_in w z → length (acting_in w z) ≤ k → k - length (acting_in w z) < length (coming_in w z)
    unfolding enabled
    left_coming h l = omega (arith, h, l)

    pub moves_act : (n number : ℕ) → n ≡ length (acting_in w z) → k < n → (k < length (acting_in w z) → number ≡ get_or (acting_in w z) k 0) → move_of w z k ≡ Acts number
    moves_act n number e h at = let few : k < length (acting_in w z) = omega (arith, e, h) in acts_first few ∙ ap Acts (sym (at few))

    pub moves_come : (n : ℕ) → n ≡ length (acting_in w z) → n ≤ k → move_of w z k ≡ Comes (get_or (coming_in w z) (k - n) 0)
    moves_come n e h = comes_later (omega (arith, e, h)) ∙ ap (λ (n : ℕ). Comes (get_or (coming_in w z) (k - n) 0)) (sym e)

    pub can_deliver : (v : MachineData) (n : ℕ) → n ≡ length (acting_in w z) → n ≤ k → CanFire w z k v → CanDeliver w z (k - n) v
    can_deliver v n e l h = record {
      machine = h.machine;
      comes = let f : length (acting_in w z) ≤ k = omega (arith, e, l) in omega (arith, e, left_coming h.enabled f);
    }

    pub can_do : (v : MachineData) (x : Move) → move_of w z k ≡ x → CanFire w z k v → CanHappen w z x v
    can_do v x e h = record { may = ap (may (machine (rules_of w)) z) (sym e) ∙ numbered_may (machine (rules_of w)) z k h.enabled; machine = h.machine }
