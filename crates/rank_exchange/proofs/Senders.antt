-- Who sent a rank the messages that it got of a kind, in any run: others, each once at most; and the moments that follow one.
use Rattle.std.proofs.Common.{◌≡◌, ℕ, zero, suc, ◌+◌, ◌<◌, ◌≤◌, Bool, true, false, cond, eqb, ◌&&◌, ◌||◌, not, List, [], ◌∷◌, ◌++◌, length, map, sum_by, refl, ap, sym, ◌∙◌, arith, ◌⊎◌, inl, inr, subst}
use Rattle.std.specs.Prelude.{Option, Some, None as Nothing, nat_lt, replicate, slice_get, slice_index_or, slice_set}
use Rattle.std.specs.List.{filter, list_any, list_all, remove, range_with_len, AllByRecursion}
use Rattle.std.specs.List.Sorted.{IsPermutation}
use Rattle.std.proofs.lemmas.Bool.{false≢true, and_from, and_parts, eqb-true, eqb-false, eq-eqb, ne_eqb, cases_lt, ltb-true}
use Rattle.std.proofs.lemmas.List.FromFn.{length-range_with_len}
use Rattle.std.proofs.lemmas.List.Sums.{sum_by-cons, sum_by-append}
use Rattle.cell_space.specs.Cells.{CellData, root_cell, same_cell}
use Rattle.cell_space.proofs.Cells.{same_cell-exact}
use Rattle.model_laws.proofs.Among.{Among, Witness, any-witness, any-among, among-all, among-kept, each-among, each-append, each-filter, each-map}
use Rattle.model_laws.proofs.Counts.{times, any-times}
use Rattle.model_laws.proofs.Sums.{sum_by-mapped, sum_by-plus, sum_by-same, sum_by-zero}
use Rattle.model_laws.proofs.Walk.{filter_sum}
use Rattle.rank_laws.specs.Protocol.{World, Move, Acts, Comes, IsRun, comes, happens, may, may_come, state}
use Rattle.rank_laws.specs.Machine.{blank, Kind, Table, Sums, Want, Members, Parts, Ask, Reply, Message, Rank, Rules, Action, Build, Walk, Add, Share, None, code_of, same_message, message, others, to_all, has_all, fresh, ask, action, after, sent, answers_of, kept, list_after, machine, start_world}
use Rattle.nbody_model.specs.Evolve.{is_empty}
use Rattle.rank_laws.specs.Runs.{unsent, received, IsFair}
use Rattle.rank_laws.specs.Kept.{senders}
use Rattle.rank_laws.proofs.Protocol.{IsKept, run_kept, over-part, share, with_answers}
use Rattle.rank_laws.proofs.Machine.{IsSteady, IsGood, left}
use Rattle.rank_laws.proofs.Taken.{first, mark, message_once, reply, sum-le}
use Rattle.rank_laws.proofs.Run.{each-range, lawful, start_kept}
use Rattle.rank_laws.proofs.KeptOnce.{number-exact, times_range}
use Rattle.rank_laws.proofs.Stuck.{range_below}

-- ---- numbers below a number, each once at most, are no more than it

turned : (x y : ℕ) → eqb x y ≡ eqb y x
turned x y = by (eqb x y) refl
  where
    by : (b : Bool) → eqb x y ≡ b → eqb x y ≡ eqb y x
    by true e = e ∙ sym (eq-eqb y x (sym (eqb-true x y e)))
    by false e = e ∙ sym (ne_eqb y x (λ u. eqb-false x y e (sym u)))

-- how often a number stands there
abbrev pub often : ℕ → List ℕ → ℕ
often q xs = times eqb number-exact q xs

all_often : (n : ℕ) (xs : List ℕ) → AllByRecursion (λ x. x < n) xs → sum_by (λ q. often q xs) (range_with_len 0 n) ≡ length xs
all_often n [] a = sum_by-zero (λ q. often q []) (λ q. refl) (range_with_len 0 n)
all_often n (x ∷ xs) a = omega (
  arith,
  sum_by-same (λ q. often q (x ∷ xs)) (λ q. cond (eqb q x) 1 0 + often q xs) (λ q. sum_by-cons (λ y. cond (eqb y q) 1 0) x xs ∙ ap (λ b. cond {A = ℕ} b 1 0 + often q xs) (turned x q)) (range_with_len 0 n),
  sum_by-plus (λ q. cond (eqb q x) 1 0) (λ q. often q xs) (range_with_len 0 n),
  times_range x n a.0,
  all_often n xs a.1,
)

ones : (xs : List ℕ) → sum_by (λ x. 1) xs ≡ length xs
ones [] = refl
ones (x ∷ xs) = omega (arith, sum_by-cons (λ (x : ℕ). 1) x xs, ones xs)

pub few_of : (n : ℕ) (xs : List ℕ) → AllByRecursion (λ x. x < n) xs → ((q : ℕ) → often q xs ≤ 1) → length xs ≤ n
few_of n xs a once = omega (arith, all_often n xs a, sum-le (λ q. often q xs) (λ q. 1) once (range_with_len 0 n), ones (range_with_len 0 n), length-range_with_len 0 n)

-- one more that isn't there
often_more : (x : ℕ) (xs : List ℕ) → often x xs ≡ 0 → ((q : ℕ) → often q xs ≤ 1) → (q : ℕ) → often q (x ∷ xs) ≤ 1
often_more x xs new once q = by (eqb x q) refl
  where
    by : (b : Bool) → eqb x q ≡ b → often q (x ∷ xs) ≤ 1
    by true e = let u : cond {A = ℕ} (eqb x q) 1 0 ≡ 1 = ap (λ b. cond b 1 0) e in let v : often q xs ≡ 0 = subst (λ (t : ℕ). often t xs ≡ 0) (eqb-true x q e) new in omega (arith, sum_by-cons (λ y. cond (eqb y q) 1 0) x xs, u, v)
    by false e = let u : cond {A = ℕ} (eqb x q) 1 0 ≡ 0 = ap (λ b. cond b 1 0) e in omega (arith, sum_by-cons (λ y. cond (eqb y q) 1 0) x xs, u, once q)

nowhere : (q : ℕ) (xs : List ℕ) → list_any (eqb q) xs ≡ false → often q xs ≡ 0
nowhere q xs e = by (cases_lt 0 (often q xs))
  where
    by : (0 < often q xs) ⊎ (often q xs ≤ 0) → often q xs ≡ 0
    by (inl l) = absurd (false≢true (sym e ∙ any-times eqb number-exact q xs l))
    by (inr l) = omega (arith, l)

-- ---- messages of a run

-- a message goes from a rank to a rank; where it is one that all send to all, these are two, and it has no cell of its own
pub record IsPlain (rules : Rules) (m : Message) : Type 0 where
  pub to_in : m.to < rules.ranks
  pub from_in : m.from < rules.ranks
  pub root : code_of m.kind < 5 → m.cell ≡ root_cell
  pub differ : code_of m.kind < 5 → m.from ≡ m.to → ⊥

module _ (rules : Rules) (fair : IsFair rules) where
  abbrev ArePlain : List Message → Type 0
  ArePlain ms = AllByRecursion (IsPlain rules) ms

  to_all_plain : (k : Kind) (r : ℕ) → r < rules.ranks → ArePlain (to_all rules k r)
  to_all_plain k r lt = each (range_with_len 0 rules.ranks) (each-range 0 rules.ranks rules.ranks (omega arith))
    where
      each : (qs : List ℕ) → AllByRecursion (λ q. q < rules.ranks) qs → ArePlain (map (λ q. message k r q) (filter (λ q. not (eqb q r)) qs))
      each [] a = tt
      each (q ∷ qs) a = by (eqb q r) refl (each qs a.1)
        where
          more : List ℕ
          more = filter (λ q. not (eqb q r)) qs

          by : (b : Bool) → eqb q r ≡ b → ArePlain (map (λ q. message k r q) more) → ArePlain (map (λ q. message k r q) (cond (not (eqb q r)) (q ∷ more) more))
          by true e rest = subst (λ b. ArePlain (map (λ q. message k r q) (cond (not b) (q ∷ more) more))) (sym e) rest
          by false e rest = subst (λ b. ArePlain (map (λ q. message k r q) (cond (not b) (q ∷ more) more))) (sym e) (record { to_in = a.0; from_in = lt; root = λ c. refl; differ = λ c u. eqb-false q r e (sym u) }, rest)

  asks_plain : (r : ℕ) → r < rules.ranks → (cs : List CellData) → ArePlain (map (ask rules r) cs)
  asks_plain r lt [] = tt
  asks_plain r lt (c ∷ cs) = (record { to_in = fair.home_in c; from_in = lt; root = λ k. absurd (omega (arith, k)); differ = λ k u. omega (arith, k) }, asks_plain r lt cs)

  sent_plain : (r : ℕ) (s : Rank) → r < rules.ranks → (a : Action) → ArePlain (sent rules r s a)
  sent_plain r s lt Build = to_all_plain Table r lt
  sent_plain r s lt Walk = each-append (IsPlain rules) (map (ask rules r) (fresh rules r s)) (cond (is_empty (list_after rules r s)) (to_all rules Sums r) []) (asks_plain r lt (fresh rules r s)) (by (is_empty (list_after rules r s)))
    where
      by : (b : Bool) → ArePlain (cond b (to_all rules Sums r) [])
      by true = to_all_plain Sums r lt
      by false = tt
  sent_plain r s lt Add = to_all_plain Want r lt
  sent_plain r s lt Share = to_all_plain Parts r lt
  sent_plain r s lt None = tt

  answers_plain : (m : Message) → IsPlain rules m → (k : Kind) → m.kind ≡ k → ArePlain (answers_of rules m k)
  answers_plain m p Ask e = (record { to_in = p.from_in; from_in = p.to_in; root = λ c. absurd (omega (arith, c)); differ = λ c u. omega (arith, c) }, tt)
  answers_plain m p Want e = (record { to_in = p.from_in; from_in = p.to_in; root = λ c. refl; differ = λ c u. p.differ (subst (λ k. code_of k < 5) (sym e) (omega arith)) (sym u) }, tt)
  answers_plain m p Table e = tt
  answers_plain m p Sums e = tt
  answers_plain m p Members e = tt
  answers_plain m p Parts e = tt
  answers_plain m p Reply e = tt

  abbrev IsPlainRank : Rank → Type 0
  IsPlainRank s = ArePlain s.got

  after_plain : (r : ℕ) (s : Rank) → IsPlainRank s → (a : Action) → IsPlainRank (after rules r s a)
  after_plain r s p Build = p
  after_plain r s p Walk = p
  after_plain r s p Add = p
  after_plain r s p Share = p
  after_plain r s p None = p

  kept_plain : (m : Message) (s : Rank) → IsPlain rules m → IsPlainRank s → (k : Kind) → IsPlainRank (kept rules m s k)
  kept_plain m s h p Reply = p
  kept_plain m s h p Ask = (h, p)
  kept_plain m s h p Want = (h, p)
  kept_plain m s h p Table = (h, p)
  kept_plain m s h p Sums = (h, p)
  kept_plain m s h p Members = (h, p)
  kept_plain m s h p Parts = (h, p)

  each-set : (ss : List Rank) (k : ℕ) (s : Rank) → AllByRecursion IsPlainRank ss → IsPlainRank s → AllByRecursion IsPlainRank (slice_set ss k s)
  each-set [] k s a h = tt
  each-set (t ∷ ts) zero s a h = (h, a.1)
  each-set (t ∷ ts) (suc k) s a h = (a.0, each-set ts k s a.1 h)

  each-state : (ss : List Rank) (k : ℕ) → AllByRecursion IsPlainRank ss → IsPlainRank (slice_index_or ss k blank)
  each-state [] k a = tt
  each-state (t ∷ ts) zero a = a.0
  each-state (t ∷ ts) (suc k) a = each-state ts k a.1

  each-remove : (ms : List Message) (k : ℕ) → ArePlain ms → ArePlain (remove ms k)
  each-remove [] zero a = tt
  each-remove [] (suc k) a = tt
  each-remove (x ∷ xs) zero a = a.1
  each-remove (x ∷ xs) (suc k) a = (a.0, each-remove xs k a.1)

  each-get : (ms : List Message) (k : ℕ) (m : Message) → ArePlain ms → slice_get ms k ≡ Some m → IsPlain rules m
  each-get [] k m a h = cc
  each-get (x ∷ xs) zero m a h = let e : x ≡ m = cc in subst (IsPlain rules) e a.0
  each-get (x ∷ xs) (suc k) m a h = each-get xs k m a.1 h

  abbrev IsPlainWorld : World Rank Message → Type 0
  IsPlainWorld w = AllByRecursion IsPlainRank w.states × ArePlain w.mail

  step_plain : (w : World Rank Message) (e : Move) → IsPlainWorld w → may (machine rules) w e ≡ true → IsPlainWorld (happens (machine rules) w e)
  step_plain w (Acts r) a y =
      let lt : r < rules.ranks = below (and_parts (nat_lt r rules.ranks) _ y).0 in (
        each-set w.states r (after rules r (state (machine rules) w r) (action rules r (state (machine rules) w r))) a.0 (after_plain r (state (machine rules) w r) (each-state w.states r a.0) (action rules r (state (machine rules) w r))),
        each-append (IsPlain rules) w.mail (sent rules r (state (machine rules) w r) (action rules r (state (machine rules) w r))) a.1 (sent_plain r (state (machine rules) w r) lt (action rules r (state (machine rules) w r))),
      )
    where
      below : nat_lt r rules.ranks ≡ true → r < rules.ranks
      below e = ltb-true r rules.ranks e
  step_plain w (Comes k) a y = one (slice_get w.mail k) refl y
    where
      one : (o : Option Message) → slice_get w.mail k ≡ o → may_come (machine rules) w o ≡ true → IsPlainWorld (comes (machine rules) w k o)
      one Nothing e y = absurd (false≢true y)
      one (Some m) e y =
          let p : IsPlain rules m = each-get w.mail k m a.1 e in (
            each-set w.states m.to (kept rules m (state (machine rules) w m.to) m.kind) a.0 (kept_plain m (state (machine rules) w m.to) p (each-state w.states m.to a.0) m.kind),
            each-append (IsPlain rules) (remove w.mail k) (answers_of rules m m.kind) (each-remove w.mail k a.1) (answers_plain m p m.kind refl),
          )

  run_plain : (w z : World Rank Message) (es : List Move) → IsPlainWorld w → IsRun (machine rules) w es z → IsPlainWorld z
  run_plain w z [] a e = subst IsPlainWorld e a
  run_plain w z (e ∷ es) a y = run_plain (happens (machine rules) w e) z es (step_plain w e a y.0) y.1

  start_plain : IsPlainWorld (start_world rules)
  start_plain = (copies rules.ranks, tt)
    where
      copies : (n : ℕ) → AllByRecursion IsPlainRank (replicate n blank)
      copies zero = tt
      copies (suc n) = (tt, copies n)

-- in every run
module _ (rules : Rules) (fair : IsFair rules) (es : List Move) (w : World Rank Message) (run : IsRun (machine rules) (start_world rules) es w) where
  pub is_kept : IsKept (machine rules) (unsent rules) (received rules) (left rules) (IsSteady rules) (IsGood rules) (first rules fair) w
  is_kept = (run_kept (machine rules) (unsent rules) (received rules) (left rules) (IsSteady rules) (IsGood rules) (first rules fair) (lawful rules fair) (start_world rules) w es (start_kept rules fair) run).0

  abbrev at : ℕ → Rank
  at r = state (machine rules) w r

  got_plain : (r : ℕ) → AllByRecursion (IsPlain rules) (at r).got
  got_plain r = each-state rules fair w.states r (run_plain rules fair (start_world rules) w es (start_plain rules fair) run).0

  module _ (r : ℕ) (lt : r < rules.ranks) (k : Kind) (c : code_of k < 5) where
    ours : (m : Message) → Among m (at r).got → m.to ≡ r
    ours m i = (each-among (λ (m : Message). (m.to ≡ r) × (m.kind ≡ Reply → ⊥)) m (at r).got (is_kept.local r lt).ours i).0

    -- a message of the kind from q is the one that q sends
    is_it : (q : ℕ) (m : Message) → Among m (at r).got → eqb (code_of m.kind) (code_of k) ≡ true → eqb m.from q ≡ true → same_message (message k q r) m ≡ true
    is_it q m i e f = and_from (eqb (code_of k) (code_of m.kind)) (eqb q m.from && (eqb r m.to && same_cell root_cell m.cell)) (turned (code_of k) (code_of m.kind) ∙ e)
        (and_from (eqb q m.from) (eqb r m.to && same_cell root_cell m.cell) (turned q m.from ∙ f)
        (and_from (eqb r m.to) (same_cell root_cell m.cell) (eq-eqb r m.to (sym (ours m i)))
        ((same_cell-exact root_cell m.cell).1 (sym ((each-among (IsPlain rules) m (at r).got (got_plain r) i).root (subst (λ (t : ℕ). t < 5) (sym (eqb-true (code_of m.kind) (code_of k) e)) c))))))

    sender_weight : (q : ℕ) → often q (senders k (at r)) ≤ sum_by (mark (message k q r)) (at r).got
    sender_weight q = omega (
      arith,
      sum_by-mapped (λ x. cond (eqb x q) 1 0) (λ (m : Message). m.from) (filter (λ (m : Message). eqb (code_of m.kind) (code_of k)) (at r).got),
      filter_sum (λ (m : Message). eqb (code_of m.kind) (code_of k)) (λ (m : Message). cond (eqb m.from q) 1 0) (at r).got,
      on (at r).got (λ m i. i),
    )
      where
        one : (m : Message) → Among m (at r).got → (a b : Bool) → eqb (code_of m.kind) (code_of k) ≡ a → eqb m.from q ≡ b → cond {A = ℕ} a (cond b 1 0) 0 ≤ mark (message k q r) m
        one m i true true e f = let u : mark (message k q r) m ≡ 1 = ap (λ b. cond {A = ℕ} b 1 0) (is_it q m i e f) in omega (arith, u)
        one m i true false e f = omega arith
        one m i false b e f = omega arith

        on : (ms : List Message) → ((m : Message) → Among m ms → Among m (at r).got) → sum_by (λ (m : Message). cond (eqb (code_of m.kind) (code_of k)) (cond (eqb m.from q) 1 0) 0) ms ≤ sum_by (mark (message k q r)) ms
        on [] i = omega arith
        on (m ∷ ms) i = omega (
          arith,
          sum_by-cons (λ (m : Message). cond (eqb (code_of m.kind) (code_of k)) (cond (eqb m.from q) 1 0) 0) m ms,
          sum_by-cons (mark (message k q r)) m ms,
          one m (i m (inl refl)) (eqb (code_of m.kind) (code_of k)) (eqb m.from q) refl refl,
          on ms (λ n j. i n (inr j)),
        )

    -- each sends at most one
    pub sent_once : (q : ℕ) → often q (senders k (at r)) ≤ 1
    sent_once q = omega (
      arith,
      sender_weight q,
      is_kept.every (mark (message k q r)),
      over-part (machine rules) (share (machine rules) (unsent rules) (received rules) (left rules) (IsSteady rules) (IsGood rules) (first rules fair) (mark (message k q r))) w.states r (omega (arith, is_kept.size, lt)),
      sum_by-append (mark (message k q r)) (map (λ c. reply rules r c) (at r).replies) (at r).got,
      message_once rules fair k q r root_cell,
    )

    sender_plain : (ms : List Message) → ((m : Message) → Among m ms → Among m (at r).got) → AllByRecursion (λ q. (q < rules.ranks) × (q ≡ r → ⊥)) (map (λ (m : Message). m.from) (filter (λ (m : Message). eqb (code_of m.kind) (code_of k)) ms))
    sender_plain [] i = tt
    sender_plain (m ∷ ms) i = by (eqb (code_of m.kind) (code_of k)) refl (sender_plain ms (λ n j. i n (inr j)))
      where
        rest : List Message
        rest = filter (λ (m : Message). eqb (code_of m.kind) (code_of k)) ms

        by : (b : Bool) → eqb (code_of m.kind) (code_of k) ≡ b → AllByRecursion (λ q. (q < rules.ranks) × (q ≡ r → ⊥)) (map (λ (m : Message). m.from) rest) → AllByRecursion (λ q. (q < rules.ranks) × (q ≡ r → ⊥)) (map (λ (m : Message). m.from) (cond (eqb (code_of m.kind) (code_of k)) (m ∷ rest) rest))
        by false e others = subst (λ b. AllByRecursion (λ q. (q < rules.ranks) × (q ≡ r → ⊥)) (map (λ (m : Message). m.from) (cond b (m ∷ rest) rest))) (sym e) others
        by true e others =
            let p : IsPlain rules m = each-among (IsPlain rules) m (at r).got (got_plain r) (i m (inl refl)) in
            let l : code_of m.kind < 5 = subst (λ (t : ℕ). t < 5) (sym (eqb-true (code_of m.kind) (code_of k) e)) c in
            subst (λ b. AllByRecursion (λ q. (q < rules.ranks) × (q ≡ r → ⊥)) (map (λ (m : Message). m.from) (cond b (m ∷ rest) rest))) (sym e)
            ((p.from_in, λ u. p.differ l (u ∙ sym (ours m (i m (inl refl))))), others)

    senders_in : AllByRecursion (λ q. (q < rules.ranks) × (q ≡ r → ⊥)) (senders k (at r))
    senders_in = sender_plain (at r).got (λ m i. i)

    below_all : (qs : List ℕ) → AllByRecursion (λ q. (q < rules.ranks) × (q ≡ r → ⊥)) qs → AllByRecursion (λ q. q < rules.ranks) qs
    below_all [] a = tt
    below_all (q ∷ qs) a = (a.0.0, below_all qs a.1)

    itself_not : list_any (eqb r) (senders k (at r)) ≡ false
    itself_not = by (list_any (eqb r) (senders k (at r))) refl
      where
        by : (b : Bool) → list_any (eqb r) (senders k (at r)) ≡ b → b ≡ false
        by false e = refl
        by true e =
            let v : Witness (eqb r) (senders k (at r)) = any-witness (eqb r) (senders k (at r)) e in
            absurd ((each-among (λ q. (q < rules.ranks) × (q ≡ r → ⊥)) v.it (senders k (at r)) senders_in v.«in»).1 (sym (eqb-true r v.it v.passes)))

    with_itself : (q : ℕ) → often q (r ∷ senders k (at r)) ≤ 1
    with_itself = often_more r (senders k (at r)) (nowhere r (senders k (at r)) itself_not) sent_once

    -- so these are fewer than the ranks
    pub few_senders : length (senders k (at r)) + 1 ≤ rules.ranks
    few_senders = let l : length (r ∷ senders k (at r)) ≤ rules.ranks = few_of rules.ranks (r ∷ senders k (at r)) (lt, below_all (senders k (at r)) senders_in) with_itself in omega (arith, l)

    -- and where none is missing, the rank has that kind from all
    pub all_by_count : length (senders k (at r)) + 1 ≡ rules.ranks → has_all rules k r (at r) ≡ true
    all_by_count e = each (range_with_len 0 rules.ranks) (λ q i. omega (arith, range_below 0 rules.ranks q i))
      where
        in_senders : (q : ℕ) → q < rules.ranks → eqb q r ≡ false → list_any (eqb q) (senders k (at r)) ≡ true
        in_senders q l n = by (list_any (eqb q) (senders k (at r))) refl
          where
            by : (b : Bool) → list_any (eqb q) (senders k (at r)) ≡ b → b ≡ true
            by true h = refl
            by false h =
                let new : list_any (eqb q) (r ∷ senders k (at r)) ≡ false = ap (λ b. b || list_any (eqb q) (senders k (at r))) n ∙ h in
                let m : length (q ∷ r ∷ senders k (at r)) ≤ rules.ranks = few_of rules.ranks (q ∷ r ∷ senders k (at r)) (l, (lt, below_all (senders k (at r)) senders_in)) (often_more q (r ∷ senders k (at r)) (nowhere q (r ∷ senders k (at r)) new) with_itself) in
                absurd (omega (arith, m, e))

        from_mapped : (q : ℕ) (ms : List Message) → list_any (eqb q) (map (λ (m : Message). m.from) ms) ≡ true → Witness (λ (m : Message). eqb q m.from) ms
        from_mapped q ms h = any-witness (λ (m : Message). eqb q m.from) ms (back ms ∙ h)
          where
            back : (ns : List Message) → list_any (λ (m : Message). eqb q m.from) ns ≡ list_any (eqb q) (map (λ (m : Message). m.from) ns)
            back [] = refl
            back (n ∷ ns) = ap (λ b. eqb q n.from || b) (back ns)

        got_from : (q : ℕ) → q < rules.ranks → eqb q r ≡ false → list_any (same_message (message k q r)) (at r).got ≡ true
        got_from q l n =
            let v : Witness (λ (m : Message). eqb q m.from) (filter (λ (m : Message). eqb (code_of m.kind) (code_of k)) (at r).got) = from_mapped q (filter (λ (m : Message). eqb (code_of m.kind) (code_of k)) (at r).got) (in_senders q l n) in
            let i : Among v.it (at r).got × (eqb (code_of v.it.kind) (code_of k) ≡ true) = among-kept (λ (m : Message). eqb (code_of m.kind) (code_of k)) v.it (at r).got v.«in» in
            any-among (same_message (message k q r)) v.it (at r).got i.0 (is_it q v.it i.0 i.1 (turned v.it.from q ∙ v.passes))

        each : (qs : List ℕ) → ((q : ℕ) → Among q qs → q < rules.ranks) → list_all (λ q. list_any (same_message (message k q r)) (at r).got) (filter (λ q. not (eqb q r)) qs) ≡ true
        each [] i = refl
        each (q ∷ qs) i = by (eqb q r) refl (each qs (λ p j. i p (inr j)))
          where
            more : List ℕ
            more = filter (λ q. not (eqb q r)) qs

            by : (b : Bool) → eqb q r ≡ b → list_all (λ q. list_any (same_message (message k q r)) (at r).got) more ≡ true → list_all (λ q. list_any (same_message (message k q r)) (at r).got) (cond (not (eqb q r)) (q ∷ more) more) ≡ true
            by true n rest = ap (λ b. list_all (λ q. list_any (same_message (message k q r)) (at r).got) (cond (not b) (q ∷ more) more)) n ∙ rest
            by false n rest = ap (λ b. list_all (λ q. list_any (same_message (message k q r)) (at r).got) (cond (not b) (q ∷ more) more)) n
                ∙ and_from (list_any (same_message (message k q r)) (at r).got) (list_all (λ q. list_any (same_message (message k q r)) (at r).got) more) (got_from q (i q (inl refl)) n) rest
