-- The moments that follow a moment: after an action of its rank, and after a message came to it. How many are still to send.
use Rattle.std.proofs.Common.{◌≡◌, ℕ, ◌+◌, ◌<◌, ◌≤◌, Bool, true, false, eqb, List, [], ◌∷◌, ◌++◌, length, reverse, refl, ap, sym, ◌∙◌, arith, subst}
use Rattle.std.specs.Prelude.{Some, slice_get, slice_index_or, slice_set, nat_lt}
use Rattle.std.specs.List.Sorted.{IsPermutation}
use Rattle.std.proofs.lemmas.Bool.{false≢true, and_from, eqb-true, eq-eqb, ne_eqb, lt-ltb}
use Rattle.std.proofs.lemmas.List.{get_or-set_same, length-reverse}
use Rattle.std.proofs.lemmas.List.FromFn.{length-range_with_len}
use Rattle.std.proofs.lemmas.List.Sorted.{length_permutation}
use Rattle.rank_laws.specs.Protocol.{Protocol, World, Move, Acts, Comes, IsRun, comes, happens, may, may_come, state}
use Rattle.rank_laws.specs.Machine.{Kind, Message, Rank, blank, code_of, has_all, is_some, after, accepted, kept, machine}
use Rattle.rank_laws.specs.Whole.{ranks, ranks_of, rules_of}
use Rattle.rank_laws.specs.Kept.{senders}
use Rattle.rank_laws.proofs.Fairness.{rules_fair}
use Rattle.rank_exchange.specs.Came.{came}
use Rattle.rank_exchange.specs.Moments.{Arrival, Moment, action_at, state_at}
use Rattle.rank_exchange.proofs.PartsOwed.{from_every}
use Rattle.rank_exchange.proofs.Senders.{all_by_count, few_senders, is_kept}

pub run_more : {S M : Type 0} (p : Protocol S M) (w z : World S M) (es : List Move) (e : Move) → IsRun p w es z → may p z e ≡ true → IsRun p w (es ++ e ∷ []) (happens p z e)
run_more p w z [] e r h = (ap (λ t. may p t e) r ∙ h, ap (λ t. happens p t e) r)
run_more p w z (x ∷ es) e r h = (r.0, run_more p (happens p w x) z es e r.1 h)

-- the moment after an event
abbrev pub moved : (m : Moment) (e : Move) → may (machine (rules_of m.whole)) m.world e ≡ true → Moment
moved m e h = record {
  whole = m.whole;
  events = m.events ++ e ∷ [];
  world = happens (machine (rules_of m.whole)) m.world e;
  rank = m.rank;
  is_whole = m.is_whole;
  softenings = m.softenings;
  along = m.along;
  small = m.small;
  few = m.few;
  run = run_more (machine (rules_of m.whole)) _ m.world m.events e m.run h;
  within = m.within;
}

states_long : (m : Moment) → m.rank < length m.world.states
states_long m = omega (arith, (is_kept (rules_of m.whole) (rules_fair m.whole m.is_whole) m.events m.world m.run).size, m.within)

pub may_act : (m : Moment) → is_some (action_at m) ≡ true → may (machine (rules_of m.whole)) m.world (Acts m.rank) ≡ true
may_act m h = and_from (nat_lt m.rank (ranks_of m.whole)) (is_some (action_at m)) (lt-ltb m.rank (ranks_of m.whole) m.within) h

-- after an action
abbrev pub acted : (m : Moment) → is_some (action_at m) ≡ true → Moment
acted m h = moved m (Acts m.rank) (may_act m h)

pub state_acted : (m : Moment) (h : is_some (action_at m) ≡ true) → state_at (acted m h) ≡ after (rules_of m.whole) m.rank (state_at m) (action_at m)
state_acted m h = get_or-set_same m.world.states m.rank (after (rules_of m.whole) m.rank (state_at m) (action_at m)) blank (states_long m)

pub may_arrive : (a : Arrival) → may (machine (rules_of a.moment.whole)) a.moment.world (Comes a.place) ≡ true
may_arrive a =
    ap (may_come (machine (rules_of a.moment.whole)) a.moment.world) a.there
    ∙ ap (λ t. accepted (rules_of a.moment.whole) a.message (state (machine (rules_of a.moment.whole)) a.moment.world t) a.message.kind) a.to
    ∙ a.accepted

-- after a message came
abbrev pub arrived : Arrival → Moment
arrived a = moved a.moment (Comes a.place) (may_arrive a)

pub state_arrived : (a : Arrival) → state_at (arrived a) ≡ kept (rules_of a.moment.whole) a.message (state_at a.moment) a.message.kind
state_arrived a =
    ap (λ o. state (machine (rules_of a.moment.whole)) (comes (machine (rules_of a.moment.whole)) a.moment.world a.place o) a.moment.rank) a.there
    ∙ subst (λ t. slice_index_or (slice_set a.moment.world.states t (after_it t)) a.moment.rank blank ≡ after_it a.moment.rank) (sym a.to) (get_or-set_same a.moment.world.states a.moment.rank (after_it a.moment.rank) blank (states_long a.moment))
  where
    after_it : ℕ → Rank
    after_it t = kept (rules_of a.moment.whole) a.message (state (machine (rules_of a.moment.whole)) a.moment.world t) a.message.kind

-- ---- at a moment

pub few_came : (m : Moment) (k : Kind) → code_of k < 5 → length (senders k (state_at m)) + 1 ≤ ranks_of m.whole
few_came m k c = few_senders (rules_of m.whole) (rules_fair m.whole m.is_whole) m.events m.world m.run m.rank m.within k c

-- a rank has a kind from all exactly where none is still to send it
pub none_due : (m : Moment) (k : Kind) → code_of k < 5 → (due : ℕ) → length (senders k (state_at m)) + 1 + due ≡ ranks_of m.whole → has_all (rules_of m.whole) k m.rank (state_at m) ≡ eqb due 0
none_due m k c due e = by (eqb due 0) refl
  where
    has : Bool
    has = has_all (rules_of m.whole) k m.rank (state_at m)

    missing : (h : Bool) → has ≡ h → (due ≡ 0 → ⊥) → h ≡ false
    missing false f n = refl
    missing true f n =
        let l : length (m.rank ∷ came k (state_at m)) ≡ length (ranks m.whole) = length_permutation (ranks m.whole) (m.rank ∷ came k (state_at m)) (from_every m k c f) in
        absurd (n (omega (arith, e, l, length-range_with_len 0 (ranks_of m.whole), length-reverse (senders k (state_at m)))))

    by : (b : Bool) → eqb due 0 ≡ b → has ≡ eqb due 0
    by true f = all_by_count (rules_of m.whole) (rules_fair m.whole m.is_whole) m.events m.world m.run m.rank m.within k c (let u : due ≡ 0 = eqb-true due 0 f in omega (arith, e, u)) ∙ sym f
    by false f = missing has refl (λ u. false≢true (sym f ∙ eq-eqb due 0 u)) ∙ sym f
