-- The enabled events, by number.
use Rattle.std.proofs.Common.{◌≡◌, ℕ, zero, suc, ◌+◌, ◌-◌, ◌<◌, Bool, true, false, cond, List, [], ◌∷◌, length, sum_by, refl, ap, sym, ◌∙◌, arith, inl, inr, get_or}
use Rattle.std.specs.Prelude.{Some, slice_get, nat_lt}
use Rattle.std.specs.List.{filter, range_with_len}
use Rattle.std.proofs.lemmas.Bool.{and_from, ltb-true, ltb-false, lt-ltb}
use Rattle.model_laws.proofs.Among.{Among, among-filter, among-kept}
use Rattle.rank_laws.specs.Protocol.{Protocol, World, Move, Acts, Comes, state, may, may_come, acting, coming, enabled, numbered}
use Rattle.rank_laws.specs.Machine.{Message, Rank, Rules, machine, start_world}
use Rattle.rank_laws.specs.Runs.{IsFair, Runs, unsent, received, GoesOn, IsNumbered}
use Rattle.rank_laws.proofs.Protocol.{IsKept, run_kept, with_answers, over}
use Rattle.rank_laws.proofs.Machine.{IsSteady, IsGood, left}
use Rattle.rank_laws.proofs.Taken.{first}
use Rattle.rank_laws.proofs.Run.{lawful, start_kept}
use Rattle.rank_laws.proofs.Stuck.{range_below, among_range, mail_empty, received_all, all_shared}

nth_among : (xs : List ℕ) (k : ℕ) → k < length xs → Among (get_or xs k 0) xs
nth_among [] k h = absurd (omega (arith, h))
nth_among (x ∷ xs) zero h = inl refl
nth_among (x ∷ xs) (suc k) h = inr (nth_among xs k (omega (arith, h)))

module _ {S M : Type 0} (p : Protocol S M) (w : World S M) where
  numbered_by : (n : ℕ) (b : Bool) → nat_lt n (length (acting p w)) ≡ b → n < length (acting p w) + length (coming p w) → may p w (cond b (Acts (get_or (acting p w) n 0)) (Comes (get_or (coming p w) (n - length (acting p w)) 0))) ≡ true
  numbered_by n true e h =
      let f : Among (get_or (acting p w) n 0) (range_with_len 0 p.ranks) × (p.acts (get_or (acting p w) n 0) (state p w (get_or (acting p w) n 0)) ≡ true) = among-kept (λ r. p.acts r (state p w r)) (get_or (acting p w) n 0) (range_with_len 0 p.ranks) (nth_among (acting p w) n (ltb-true n (length (acting p w)) e)) in
      let l : get_or (acting p w) n 0 < p.ranks = omega (arith, range_below 0 p.ranks (get_or (acting p w) n 0) f.0) in
      and_from (nat_lt (get_or (acting p w) n 0) p.ranks) (p.acts (get_or (acting p w) n 0) (state p w (get_or (acting p w) n 0))) (lt-ltb (get_or (acting p w) n 0) p.ranks l) f.1
  numbered_by n false e h =
      (among-kept (λ k. may_come p w (slice_get w.mail k)) (get_or (coming p w) (n - length (acting p w)) 0) (range_with_len 0 (length w.mail)) (nth_among (coming p w) (n - length (acting p w)) (omega (arith, h, ltb-false n (length (acting p w)) e)))).1

  pub numbered_may : (n : ℕ) → n < enabled p w → may p w (numbered p w n) ≡ true
  unfolding enabled numbered
  numbered_may n h = numbered_by n (nat_lt n (length (acting p w))) refl h

  none_in : (t : ℕ → Bool) (xs : List ℕ) (k : ℕ) → length (filter t xs) ≡ 0 → Among k xs → t k ≡ false
  none_in t xs k e a = case (t k) refl
    where
      empty : (ys : List ℕ) → length ys ≡ 0 → Among k ys → ⊥
      empty [] e h = h
      empty (y ∷ ys) e h = absurd (omega (arith, e))

      case : (b : Bool) → t k ≡ b → b ≡ false
      case true h = absurd (empty (filter t xs) e (among-filter t k xs a h))
      case false h = refl

  pub no_action : enabled p w ≡ 0 → (r : ℕ) → r < p.ranks → p.acts r (state p w r) ≡ false
  unfolding enabled
  no_action e r lt = none_in (λ r. p.acts r (state p w r)) (range_with_len 0 p.ranks) r (omega arith) (among_range 0 p.ranks r (omega arith) (omega (arith, lt)))

  in_mail : (ms : List M) (k : ℕ) (m : M) → slice_get ms k ≡ Some m → k < length ms
  in_mail [] k m h = cc
  in_mail (x ∷ xs) zero m h = omega arith
  in_mail (x ∷ xs) (suc k) m h = omega (arith, in_mail xs k m h)

  pub no_delivery : enabled p w ≡ 0 → (k : ℕ) (m : M) → slice_get w.mail k ≡ Some m → p.accepts m (state p w (p.to m)) ≡ false
  unfolding enabled
  no_delivery e k m h = ap (may_come p w) (sym h) ∙ none_in (λ k. may_come p w (slice_get w.mail k)) (range_with_len 0 (length w.mail)) k (omega arith) (among_range 0 (length w.mail) k (omega arith) (omega (arith, in_mail w.mail k m h)))

pub is_numbered : IsNumbered
is_numbered rules w n h = numbered_may (machine rules) w n h

pub goes_on : GoesOn
goes_on rules fair es w run e =
    let k : IsKept (machine rules) (unsent rules) (received rules) (left rules) (IsSteady rules) (IsGood rules) (first rules fair) w =
    (run_kept (machine rules) (unsent rules) (received rules) (left rules) (IsSteady rules) (IsGood rules) (first rules fair) (lawful rules fair) (start_world rules) w es (start_kept rules fair) run).0 in
    record {
      shared = all_shared rules fair w k (no_action (machine rules) w e) (no_delivery (machine rules) w e);
      mail = mail_empty rules fair w k (no_action (machine rules) w e) (no_delivery (machine rules) w e);
    }

-- in a finished run each message has been delivered once, with its answers
pub delivers : (rules : Rules) (fair : IsFair rules) (events : List Move) (w : World Rank Message) → Runs rules events w → enabled (machine rules) w ≡ 0 → (g : Message → ℕ) → over (machine rules) (λ r s. sum_by g (received rules r s)) 0 w.states ≡ sum_by (with_answers (machine rules) g) (first rules fair)
delivers rules fair es w run e =
    let k : IsKept (machine rules) (unsent rules) (received rules) (left rules) (IsSteady rules) (IsGood rules) (first rules fair) w =
    (run_kept (machine rules) (unsent rules) (received rules) (left rules) (IsSteady rules) (IsGood rules) (first rules fair) (lawful rules fair) (start_world rules) w es (start_kept rules fair) run).0 in
    received_all rules fair w k (no_action (machine rules) w e) (no_delivery (machine rules) w e)
