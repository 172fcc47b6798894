-- What a rank keeps of the messages that all send to all: of each sender one.
use Rattle.std.proofs.Common.{◌≡◌, ℕ, ◌+◌, ◌<◌, ◌≤◌, Bool, true, false, cond, eqb, ◌&&◌, not, List, [], ◌∷◌, map, sum_by, refl, ap, sym, ◌∙◌, arith, ◌⊎◌, inl, inr, subst, ℤ, ◌+ℤ◌}
use Rattle.std.specs.Bool.{Decides}
use Rattle.std.specs.List.{filter, list_any, range_with_len}
use Rattle.std.proofs.lemmas.Bool.{false≢true, and_parts, eqb-true, eq-eqb, cases_lt}
use Rattle.std.proofs.lemmas.List.Sums.{sum_by-cons, sum_by-append}
use Rattle.cell_space.specs.Cells.{CellData, same_cell}
use Rattle.model_laws.proofs.Among.{Among, Witness, any-witness, among-all, among-le, each-among, among-kept}
use Rattle.model_laws.proofs.Sums.{sum_by-same, sum_by-zero, sum_by-flat_map, sum_by-mapped, sum_by-pick, cond_sum}
use Rattle.model_laws.proofs.Signed.{total_by}
use Rattle.model_laws.proofs.Counts.{times, same_total, any-times}
use Rattle.model_laws.proofs.Walk.{filter_sum}
use Rattle.rank_laws.specs.Protocol.{World, Move, IsRun, state}
use Rattle.rank_laws.specs.Machine.{blank, Kind, Table, Sums, Want, Members, Parts, Ask, Reply, Message, Rank, Rules, code_of, same_message, message, is_one, others, to_all, has_all, need, ask, machine, start_world}
use Rattle.rank_laws.specs.Runs.{unsent, received, IsFair}
use Rattle.rank_laws.specs.Kept.{senders, KeepsEachOnce}
use Rattle.rank_laws.proofs.Protocol.{IsKept, run_kept, over-part, share, with_answers}
use Rattle.rank_laws.proofs.Machine.{IsSteady, IsGood, unsent_sum, left}
use Rattle.rank_laws.proofs.Taken.{first, reply}
use Rattle.rank_laws.proofs.Run.{lawful, start_kept}
use Rattle.rank_laws.proofs.Stuck.{range_below}
use Rattle.rank_laws.proofs.Counted.{sum_range}
use Rattle.rank_laws.proofs.Collecting.{permuted}

pub number-exact : (x y : ℕ) → Decides (eqb x y) (x ≡ y)
number-exact x y = (λ e. eqb-true x y e, λ e. eq-eqb x y e)

turned : (x y : ℕ) → eqb x y ≡ eqb y x
turned x y = by (eqb x y) (eqb y x) refl refl
  where
    by : (p q : Bool) → eqb x y ≡ p → eqb y x ≡ q → p ≡ q
    by true true e f = refl
    by false false e f = refl
    by true false e f = absurd (false≢true (sym f ∙ eq-eqb y x (sym (eqb-true x y e))))
    by false true e f = absurd (false≢true (sym e ∙ eq-eqb x y (sym (eqb-true y x f))))

-- how often a rank stands among all, and among the others
pub times_range : (q n : ℕ) → q < n → times eqb number-exact q (range_with_len 0 n) ≡ 1
times_range q n h = sum_range (λ x. cond (eqb x q) 1 0) n ∙ sum_by-pick (λ k. 1) q n h

but_at : (q r x : ℕ) (b : Bool) → eqb x q ≡ b → cond {A = ℕ} (not (eqb x r)) (cond b 1 0) 0 ≡ cond (not (eqb q r)) (cond b 1 0) 0
but_at q r x true e = ap {B = ℕ} (λ t. cond (not (eqb t r)) 1 0) (eqb-true x q e)
but_at q r x false e = nothing (not (eqb x r)) (not (eqb q r))
  where
    nothing : (p q : Bool) → cond {A = ℕ} p 0 0 ≡ cond q 0 0
    nothing true true = refl
    nothing true false = refl
    nothing false true = refl
    nothing false false = refl

pub times_but : (q r n : ℕ) → times eqb number-exact q (filter (λ x. not (eqb x r)) (range_with_len 0 n)) ≡ cond (not (eqb q r)) (times eqb number-exact q (range_with_len 0 n)) 0
times_but q r n =
    filter_sum (λ x. not (eqb x r)) (λ x. cond (eqb x q) 1 0) (range_with_len 0 n)
    ∙ sum_by-same (λ x. cond (not (eqb x r)) (cond (eqb x q) 1 0) 0) (λ x. cond (not (eqb q r)) (cond (eqb x q) 1 0) 0) (λ x. but_at q r x (eqb x q) refl) (range_with_len 0 n)
    ∙ cond_sum (not (eqb q r)) (λ x. cond (eqb x q) 1 0) (range_with_len 0 n)

-- a rank and the others are all
pub times_all : (r n : ℕ) → r < n → (q : ℕ) → times eqb number-exact q (range_with_len 0 n) ≡ times eqb number-exact q (r ∷ filter (λ x. not (eqb x r)) (range_with_len 0 n))
times_all r n h q = sym (sum_by-cons (λ x. cond (eqb x q) 1 0) r (filter (λ x. not (eqb x r)) (range_with_len 0 n)) ∙ ap (λ t. cond (eqb r q) 1 0 + t) (times_but q r n) ∙ by (eqb r q) refl)
  where
    by : (b : Bool) → eqb r q ≡ b → cond b 1 0 + cond (not (eqb q r)) (times eqb number-exact q (range_with_len 0 n)) 0 ≡ times eqb number-exact q (range_with_len 0 n)
    by true e = let u : r ≡ q = eqb-true r q e in let v : eqb q r ≡ true = eq-eqb q r (sym u) in let t : times eqb number-exact q (range_with_len 0 n) ≡ 1 = times_range q n (omega (arith, h, u)) in
        ap {B = ℕ} (λ b. 1 + cond (not b) (times eqb number-exact q (range_with_len 0 n)) 0) v ∙ (omega (arith, t))
    by false e = ap {B = ℕ} (λ b. 0 + cond (not b) (times eqb number-exact q (range_with_len 0 n)) 0) (turned q r ∙ e) ∙ (omega arith)

pub total_all : (f : ℕ → ℤ) (r n : ℕ) → r < n → total_by f (range_with_len 0 n) ≡ f r +ℤ total_by f (filter (λ x. not (eqb x r)) (range_with_len 0 n))
total_all f r n h = same_total eqb number-exact f (range_with_len 0 n) (r ∷ filter (λ x. not (eqb x r)) (range_with_len 0 n)) (times_all r n h)

-- a weight that marks what q sends to r of a kind
abbrev from_to : Kind → ℕ → ℕ → Message → ℕ
from_to k q r m = cond (eqb (code_of m.kind) (code_of k) && (eqb m.to r && eqb m.from q)) 1 0

module _ (rules : Rules) (fair : IsFair rules) where
  abbrev W : (Message → ℕ) → Message → ℕ
  W g m = with_answers (machine rules) g m

  none_of : (k : Kind) (g : Message → ℕ) (a : ℕ) → ((p : ℕ) → g (message k a p) ≡ 0) → sum_by g (to_all rules k a) ≡ 0
  none_of k g a e = sum_by-mapped g (λ p. message k a p) (others rules a) ∙ sum_by-zero (λ p. g (message k a p)) e (others rules a)

  no_asks : (g : Message → ℕ) (a : ℕ) → ((c : CellData) → g (ask rules a c) ≡ 0) → (cs : List CellData) → sum_by g (map (ask rules a) cs) ≡ 0
  no_asks g a e cs = sum_by-mapped g (ask rules a) cs ∙ sum_by-zero (λ c. g (ask rules a c)) e cs

  -- sent to the others by each: what goes from q to r
  one_way : (q r a : ℕ) → r < rules.ranks → sum_by (λ p. cond {A = ℕ} (eqb p r && eqb a q) 1 0) (others rules a) ≡ cond (not (eqb a r)) (cond (eqb a q) 1 0) 0
  one_way q r a h =
      sum_by-same (λ p. cond {A = ℕ} (eqb p r && eqb a q) 1 0) (λ p. cond (eqb a q) (cond (eqb p r) 1 0) 0) (λ p. swap (eqb p r) (eqb a q)) (others rules a)
      ∙ cond_sum (eqb a q) (λ p. cond (eqb p r) 1 0) (others rules a)
      ∙ ap (λ t. cond (eqb a q) t 0) (times_but r a rules.ranks ∙ ap {B = ℕ} (λ t. cond (not (eqb r a)) t 0) (times_range r rules.ranks h))
      ∙ ap {B = ℕ} (λ b. cond (eqb a q) (cond (not b) 1 0) 0) (turned r a)
      ∙ flip (eqb a q) (not (eqb a r))
    where
      swap : (x y : Bool) → cond {A = ℕ} (x && y) 1 0 ≡ cond y (cond x 1 0) 0
      swap true true = refl
      swap true false = refl
      swap false true = refl
      swap false false = refl

      flip : (x y : Bool) → cond {A = ℕ} x (cond y 1 0) 0 ≡ cond y (cond x 1 0) 0
      flip true true = refl
      flip true false = refl
      flip false true = refl
      flip false false = refl

  all_ways : (q r : ℕ) → r < rules.ranks → sum_by (λ a. sum_by (λ p. cond {A = ℕ} (eqb p r && eqb a q) 1 0) (others rules a)) (range_with_len 0 rules.ranks) ≡ times eqb number-exact q (others rules r)
  all_ways q r h = sum_by-same (λ a. sum_by (λ p. cond {A = ℕ} (eqb p r && eqb a q) 1 0) (others rules a)) (λ a. cond (not (eqb a r)) (cond (eqb a q) 1 0) 0) (λ a. one_way q r a h) (range_with_len 0 rules.ranks) ∙ sym (filter_sum (λ x. not (eqb x r)) (λ x. cond (eqb x q) 1 0) (range_with_len 0 rules.ranks))

  -- and back
  back_ways : (q r : ℕ) → r < rules.ranks → sum_by (λ a. sum_by (λ p. cond {A = ℕ} (eqb a r && eqb p q) 1 0) (others rules a)) (range_with_len 0 rules.ranks) ≡ times eqb number-exact q (others rules r)
  back_ways q r h =
      sum_by-same (λ a. sum_by (λ p. cond {A = ℕ} (eqb a r && eqb p q) 1 0) (others rules a)) (λ a. cond (eqb a r) (times eqb number-exact q (others rules a)) 0)
      (λ a. sum_by-same (λ p. cond {A = ℕ} (eqb a r && eqb p q) 1 0) (λ p. cond (eqb a r) (cond (eqb p q) 1 0) 0) (λ p. both (eqb a r) (eqb p q)) (others rules a) ∙ cond_sum (eqb a r) (λ p. cond (eqb p q) 1 0) (others rules a)) (range_with_len 0 rules.ranks)
      ∙ sum_range (λ a. cond (eqb a r) (times eqb number-exact q (others rules a)) 0) rules.ranks
      ∙ sum_by-pick (λ a. times eqb number-exact q (others rules a)) r rules.ranks h
    where
      both : (x y : Bool) → cond {A = ℕ} (x && y) 1 0 ≡ cond x (cond y 1 0) 0
      both true y = refl
      both false y = refl

  piece : (g : Message → ℕ) (k : Kind) (a : ℕ) (f : ℕ → ℕ) → ((p : ℕ) → g (message k a p) ≡ f p) → sum_by g (to_all rules k a) ≡ sum_by f (others rules a)
  piece g k a f e = sum_by-mapped g (λ p. message k a p) (others rules a) ∙ sum_by-same (λ p. g (message k a p)) f e (others rules a)

  -- of all messages one goes from q to r, if they differ
  all_from_to : (k : Kind) → code_of k < 5 → (q r : ℕ) → r < rules.ranks → sum_by (W (from_to k q r)) (first rules fair) ≡ times eqb number-exact q (others rules r)
  all_from_to Table s q r h =
      sum_by-flat_map (W (from_to Table q r)) (λ a. unsent rules a blank) (range_with_len 0 rules.ranks)
      ∙ sum_by-same (λ a. sum_by (W (from_to Table q r)) (unsent rules a blank)) (λ a. sum_by (λ p. cond {A = ℕ} (eqb p r && eqb a q) 1 0) (others rules a)) (λ a. omega (
        arith,
        unsent_sum rules fair a blank (W (from_to Table q r)),
        piece (W (from_to Table q r)) Table a (λ p. cond {A = ℕ} (eqb p r && eqb a q) 1 0) (λ p. omega arith),
        none_of Sums (W (from_to Table q r)) a (λ p. refl),
        none_of Want (W (from_to Table q r)) a (λ p. refl),
        none_of Parts (W (from_to Table q r)) a (λ p. refl),
        no_asks (W (from_to Table q r)) a (λ c. refl) (filter (λ c. not (is_one c [])) (need rules a)),
      )) (range_with_len 0 rules.ranks)
      ∙ all_ways q r h
  all_from_to Sums s q r h =
      sum_by-flat_map (W (from_to Sums q r)) (λ a. unsent rules a blank) (range_with_len 0 rules.ranks)
      ∙ sum_by-same (λ a. sum_by (W (from_to Sums q r)) (unsent rules a blank)) (λ a. sum_by (λ p. cond {A = ℕ} (eqb p r && eqb a q) 1 0) (others rules a)) (λ a. omega (
        arith,
        unsent_sum rules fair a blank (W (from_to Sums q r)),
        piece (W (from_to Sums q r)) Sums a (λ p. cond {A = ℕ} (eqb p r && eqb a q) 1 0) (λ p. omega arith),
        none_of Table (W (from_to Sums q r)) a (λ p. refl),
        none_of Want (W (from_to Sums q r)) a (λ p. refl),
        none_of Parts (W (from_to Sums q r)) a (λ p. refl),
        no_asks (W (from_to Sums q r)) a (λ c. refl) (filter (λ c. not (is_one c [])) (need rules a)),
      )) (range_with_len 0 rules.ranks)
      ∙ all_ways q r h
  all_from_to Want s q r h =
      sum_by-flat_map (W (from_to Want q r)) (λ a. unsent rules a blank) (range_with_len 0 rules.ranks)
      ∙ sum_by-same (λ a. sum_by (W (from_to Want q r)) (unsent rules a blank)) (λ a. sum_by (λ p. cond {A = ℕ} (eqb p r && eqb a q) 1 0) (others rules a)) (λ a. omega (
        arith,
        unsent_sum rules fair a blank (W (from_to Want q r)),
        piece (W (from_to Want q r)) Want a (λ p. cond {A = ℕ} (eqb p r && eqb a q) 1 0) (λ p. omega arith),
        none_of Table (W (from_to Want q r)) a (λ p. refl),
        none_of Sums (W (from_to Want q r)) a (λ p. refl),
        none_of Parts (W (from_to Want q r)) a (λ p. refl),
        no_asks (W (from_to Want q r)) a (λ c. refl) (filter (λ c. not (is_one c [])) (need rules a)),
      )) (range_with_len 0 rules.ranks)
      ∙ all_ways q r h
  all_from_to Members s q r h =
      sum_by-flat_map (W (from_to Members q r)) (λ a. unsent rules a blank) (range_with_len 0 rules.ranks)
      ∙ sum_by-same (λ a. sum_by (W (from_to Members q r)) (unsent rules a blank)) (λ a. sum_by (λ p. cond {A = ℕ} (eqb a r && eqb p q) 1 0) (others rules a)) (λ a. omega (
        arith,
        unsent_sum rules fair a blank (W (from_to Members q r)),
        piece (W (from_to Members q r)) Want a (λ p. cond {A = ℕ} (eqb a r && eqb p q) 1 0) (λ p. omega arith),
        none_of Table (W (from_to Members q r)) a (λ p. refl),
        none_of Sums (W (from_to Members q r)) a (λ p. refl),
        none_of Parts (W (from_to Members q r)) a (λ p. refl),
        no_asks (W (from_to Members q r)) a (λ c. refl) (filter (λ c. not (is_one c [])) (need rules a)),
      )) (range_with_len 0 rules.ranks)
      ∙ back_ways q r h
  all_from_to Parts s q r h =
      sum_by-flat_map (W (from_to Parts q r)) (λ a. unsent rules a blank) (range_with_len 0 rules.ranks)
      ∙ sum_by-same (λ a. sum_by (W (from_to Parts q r)) (unsent rules a blank)) (λ a. sum_by (λ p. cond {A = ℕ} (eqb p r && eqb a q) 1 0) (others rules a)) (λ a. omega (
        arith,
        unsent_sum rules fair a blank (W (from_to Parts q r)),
        piece (W (from_to Parts q r)) Parts a (λ p. cond {A = ℕ} (eqb p r && eqb a q) 1 0) (λ p. omega arith),
        none_of Table (W (from_to Parts q r)) a (λ p. refl),
        none_of Sums (W (from_to Parts q r)) a (λ p. refl),
        none_of Want (W (from_to Parts q r)) a (λ p. refl),
        no_asks (W (from_to Parts q r)) a (λ c. refl) (filter (λ c. not (is_one c [])) (need rules a)),
      )) (range_with_len 0 rules.ranks)
      ∙ all_ways q r h
  all_from_to Ask s q r h = absurd (omega (arith, s))
  all_from_to Reply s q r h = absurd (omega (arith, s))

  -- what a rank got, by senders
  got_from : (k : Kind) (q r : ℕ) (s : Rank) → IsSteady rules r s → times eqb number-exact q (senders k s) ≡ sum_by (from_to k q r) s.got
  got_from k q r s st =
      sum_by-mapped (λ x. cond (eqb x q) 1 0) (λ (m : Message). m.from) (filter (λ (m : Message). eqb (code_of m.kind) (code_of k)) s.got)
      ∙ filter_sum (λ (m : Message). eqb (code_of m.kind) (code_of k)) (λ (m : Message). cond (eqb m.from q) 1 0) s.got
      ∙ on s.got (λ m i. (each-among (λ (m : Message). (m.to ≡ r) × (m.kind ≡ Reply → ⊥)) m s.got st.ours i).0)
    where
      three : (a b c : Bool) → b ≡ true → cond {A = ℕ} a (cond c 1 0) 0 ≡ cond (a && (b && c)) 1 0
      three true true c e = refl
      three false true c e = refl
      three a false c e = absurd (false≢true e)

      on : (ms : List Message) → ((m : Message) → Among m ms → m.to ≡ r) → sum_by (λ (m : Message). cond (eqb (code_of m.kind) (code_of k)) (cond (eqb m.from q) 1 0) 0) ms ≡ sum_by (from_to k q r) ms
      on [] e = refl
      on (m ∷ ms) e = omega (
        arith,
        sum_by-cons (λ (m : Message). cond (eqb (code_of m.kind) (code_of k)) (cond (eqb m.from q) 1 0) 0) m ms,
        sum_by-cons (from_to k q r) m ms,
        three (eqb (code_of m.kind) (code_of k)) (eqb m.to r) (eqb m.from q) (eq-eqb m.to r (e m (inl refl))),
        on ms (λ n i. e n (inr i)),
      )

  -- a message from q stands there, if all are there
  at_least : (k : Kind) (q r : ℕ) (s : Rank) → has_all rules k r s ≡ true → Among q (others rules r) → 1 ≤ sum_by (from_to k q r) s.got
  at_least k q r s e i =
      let t : list_any (same_message (message k q r)) s.got ≡ true = among-all (λ q. list_any (same_message (message k q r)) s.got) q (others rules r) e i in
      let v : Witness (same_message (message k q r)) s.got = any-witness (same_message (message k q r)) s.got t in
      let a : (eqb (code_of k) (code_of v.it.kind) ≡ true) × ((eqb q v.it.from && (eqb r v.it.to && same_cell (message k q r).cell v.it.cell)) ≡ true) = and_parts (eqb (code_of k) (code_of v.it.kind)) (eqb q v.it.from && (eqb r v.it.to && same_cell (message k q r).cell v.it.cell)) v.passes in
      let b : (eqb q v.it.from ≡ true) × ((eqb r v.it.to && same_cell (message k q r).cell v.it.cell) ≡ true) = and_parts (eqb q v.it.from) (eqb r v.it.to && same_cell (message k q r).cell v.it.cell) a.1 in
      let c : (eqb r v.it.to ≡ true) × (same_cell (message k q r).cell v.it.cell ≡ true) = and_parts (eqb r v.it.to) (same_cell (message k q r).cell v.it.cell) b.1 in
      let u : from_to k q r v.it ≡ 1 = one (eqb (code_of v.it.kind) (code_of k)) (eqb v.it.to r) (eqb v.it.from q) (turned (code_of v.it.kind) (code_of k) ∙ a.0) (turned v.it.to r ∙ c.0) (turned v.it.from q ∙ b.0) in
      omega (arith, u, among-le (from_to k q r) v.it s.got v.«in»)
    where
      one : (a b c : Bool) → a ≡ true → b ≡ true → c ≡ true → cond {A = ℕ} (a && (b && c)) 1 0 ≡ 1
      one true true true e f g = refl
      one false b c e f g = absurd (false≢true e)
      one true false c e f g = absurd (false≢true f)
      one true true false e f g = absurd (false≢true g)

  module _ (w : World Rank Message) (h : IsKept (machine rules) (unsent rules) (received rules) (left rules) (IsSteady rules) (IsGood rules) (first rules fair) w) (r : ℕ) (lt : r < rules.ranks) where
    at_most : (k : Kind) → code_of k < 5 → (q : ℕ) → sum_by (from_to k q r) (state (machine rules) w r).got ≤ times eqb number-exact q (others rules r)
    at_most k c q = omega (
      arith,
      h.every (from_to k q r),
      over-part (machine rules) (share (machine rules) (unsent rules) (received rules) (left rules) (IsSteady rules) (IsGood rules) (first rules fair) (from_to k q r)) w.states r (omega (arith, h.size, lt)),
      sum_by-append (from_to k q r) (map (λ c. reply rules r c) (state (machine rules) w r).replies) (state (machine rules) w r).got,
      all_from_to k c q r lt,
    )

    few : (b : Bool) → cond {A = ℕ} b 1 0 ≤ 1
    few true = omega arith
    few false = omega arith

    there : (q : ℕ) (xs : List ℕ) → list_any (eqb q) xs ≡ true → Among q xs
    there q xs e = let v : Witness (eqb q) xs = any-witness (eqb q) xs e in subst (λ (t : ℕ). Among t xs) (sym (eqb-true q v.it v.passes)) v.«in»

    nowhere : (q : ℕ) (xs : List ℕ) → list_any (eqb q) xs ≡ false → times eqb number-exact q xs ≡ 0
    nowhere q xs e = by (cases_lt 0 (times eqb number-exact q xs))
      where
        by : (0 < times eqb number-exact q xs) ⊎ (times eqb number-exact q xs ≤ 0) → times eqb number-exact q xs ≡ 0
        by (inl l) = absurd (false≢true (sym e ∙ any-times eqb number-exact q xs l))
        by (inr l) = omega (arith, l)

    pub each_sender : (k : Kind) → code_of k < 5 → has_all rules k r (state (machine rules) w r) ≡ true → (q : ℕ) → times eqb number-exact q (others rules r) ≡ times eqb number-exact q (senders k (state (machine rules) w r))
    each_sender k c e q = by (list_any (eqb q) (others rules r)) refl
      where
        by : (b : Bool) → list_any (eqb q) (others rules r) ≡ b → times eqb number-exact q (others rules r) ≡ times eqb number-exact q (senders k (state (machine rules) w r))
        by true f =
            let i : Among q (others rules r) = there q (others rules r) f in
            let l : q < rules.ranks = omega (arith, range_below 0 rules.ranks q (among-kept (λ x. not (eqb x r)) q (range_with_len 0 rules.ranks) i).0) in
            let t : times eqb number-exact q (others rules r) ≡ cond (not (eqb q r)) 1 0 = times_but q r rules.ranks ∙ ap {B = ℕ} (λ t. cond (not (eqb q r)) t 0) (times_range q rules.ranks l) in
            omega (arith, t, few (not (eqb q r)), at_least k q r (state (machine rules) w r) e i, at_most k c q, got_from k q r (state (machine rules) w r) (h.local r lt))
        by false f = omega (arith, nowhere q (others rules r) f, at_most k c q, got_from k q r (state (machine rules) w r) (h.local r lt))

-- in every run
module _ (rules : Rules) (fair : IsFair rules) (es : List Move) (w : World Rank Message) (run : IsRun (machine rules) (start_world rules) es w) where
  pub sender_times : (r : ℕ) → r < rules.ranks → (k : Kind) → code_of k < 5 → has_all rules k r (state (machine rules) w r) ≡ true → (q : ℕ) → times eqb number-exact q (others rules r) ≡ times eqb number-exact q (senders k (state (machine rules) w r))
  sender_times r lt k c e q =
      let h : IsKept (machine rules) (unsent rules) (received rules) (left rules) (IsSteady rules) (IsGood rules) (first rules fair) w =
      (run_kept (machine rules) (unsent rules) (received rules) (left rules) (IsSteady rules) (IsGood rules) (first rules fair) (lawful rules fair) (start_world rules) w es (start_kept rules fair) run).0 in
      each_sender rules fair w h r lt k c e q

  -- a sum over all ranks is that at one and over what it got
  pub total_got : (r : ℕ) → r < rules.ranks → (k : Kind) → code_of k < 5 → has_all rules k r (state (machine rules) w r) ≡ true → (f : ℕ → ℤ) → total_by f (range_with_len 0 rules.ranks) ≡ f r +ℤ total_by f (senders k (state (machine rules) w r))
  total_got r lt k c e f = total_all f r rules.ranks lt ∙ ap (λ t. f r +ℤ t) (same_total eqb number-exact f (others rules r) (senders k (state (machine rules) w r)) (sender_times r lt k c e))

pub keeps_once : KeepsEachOnce
keeps_once rules fair es w run r lt k c e = permuted eqb number-exact (others rules r) (senders k (state (machine rules) w r)) (sender_times rules fair es w run r lt k c e)
