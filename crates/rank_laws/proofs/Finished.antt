-- A finished machine has no enabled event; what the events of a finished run deliver; the bound in closed form.
use Rattle.std.proofs.Common.{◌≡◌, ℕ, zero, suc, ◌+◌, ◌*◌, ◌<◌, ◌≤◌, Bool, true, false, cond, eqb, ◌&&◌, ◌||◌, not, List, [], ◌∷◌, length, map, sum_by, refl, ap, sym, ◌∙◌, arith, ◌⊎◌, inl, inr, subst}
use Rattle.std.specs.Prelude.{slice_get, replicate}
use Rattle.std.specs.List.{filter, flat_map, list_any, AllByRecursion, range_with_len}
use Rattle.std.proofs.lemmas.Bool.{false≢true, and_parts, and_right, ne_eqb, eq-eqb, cases_eq}
use Rattle.std.proofs.lemmas.List.Sums.{sum_by-cons, sum_by-append}
use Rattle.std.proofs.lemmas.List.FromFn.{length-range_with_len}
use Rattle.cell_space.specs.Cells.{CellData}
use Rattle.model_laws.proofs.Sums.{sum_by-flat_map, sum_by-mapped, sum_by-plus, sum_by-same, sum_by-zero}
use Rattle.model_laws.proofs.Among.{each-weaker}
use Rattle.nbody_model.specs.Evolve.{is_empty}
use Rattle.rank_laws.specs.Protocol.{World, Move, IsRun, state, acting, coming, may_come, enabled, delivered}
use Rattle.rank_laws.specs.Machine.{blank, Kind, Table, Sums, Want, Members, Parts, Ask, Reply, Message, Rank, Rules, message, is_one, others, to_all, need, knows_both, has_all, ask, ready, may_walk, through, may_add, may_share, Action, Build, Walk, Add, Share, None, chosen, action, is_some, answers_of, kept, machine, start_world, after}
use Rattle.rank_laws.specs.Runs.{all_messages, each_with_answers, unsent, received, IsFair, EndsAll, EventsDeliverEach, DeliversEach, IsBounded, KeepsMessages, MessagesDiffer, all_needed, is_of}
use Rattle.rank_laws.proofs.Protocol.{IsKept, run_kept, run_got, each-state, each-run, with_answers, over, over-ranks}
use Rattle.rank_laws.proofs.Machine.{IsSteady, IsGood, chosen-walk, chosen-add, chosen-share, unsent_sum, left}
use Rattle.rank_laws.proofs.Taken.{first, mark, message_once}
use Rattle.rank_laws.proofs.Run.{lawful, start_kept, few_events, each-range, most_events}
use Rattle.rank_laws.proofs.Numbered.{delivers}

-- a rank shares after it added, adds after it came through, and walks after it built
pub record InTurn (rules : Rules) (s : Rank) : Type 0 where
  pub shares : s.shared ≡ true → s.added ≡ true
  pub adds : s.added ≡ true → through rules s ≡ true
  pub walks : s.walked ≡ true → s.built ≡ true

chosen-built : (b w a h : Bool) → chosen b w a h ≡ Walk → b ≡ true
chosen-built false w a h e = cc
chosen-built true w a h e = refl

through_or : {X : Type 0} (walked : Bool) (list : List X) (t : X → Bool) → (walked && is_empty list) ≡ true → (not walked || list_any t list) ≡ false
through_or true [] t h = refl
through_or true (x ∷ xs) t h = absurd (false≢true h)
through_or false xs t h = absurd (false≢true h)

module _ (rules : Rules) where
  walk_first : (r : ℕ) (s : Rank) → InTurn rules s → may_walk rules r s ≡ true → s.added ≡ false
  walk_first r s t e = by s.added refl
    where
      by : (b : Bool) → s.added ≡ b → b ≡ false
      by true k = absurd (false≢true (sym (through_or s.walked s.list (knows_both rules r s.replies) (t.adds k)) ∙ (and_parts (ready rules r s) (not s.walked || list_any (knows_both rules r s.replies) s.list) e).1))
      by false k = refl

  turn_after : (r : ℕ) (s : Rank) → InTurn rules s → (a : Action) → action rules r s ≡ a → InTurn rules (after rules r s a)
  unfolding action
  turn_after r s t Build e = record { shares = t.shares; adds = t.adds; walks = λ k. refl }
  turn_after r s t Walk e =
      let w : may_walk rules r s ≡ true = chosen-walk s.built (may_walk rules r s) (may_add rules r s) (may_share rules r s) e in
      record {
        shares = t.shares;
        adds = λ k. absurd (false≢true (sym (walk_first r s t w) ∙ k));
        walks = λ k. chosen-built s.built (may_walk rules r s) (may_add rules r s) (may_share rules r s) e;
      }
  turn_after r s t Add e =
      let w : may_add rules r s ≡ true = chosen-add s.built (may_walk rules r s) (may_add rules r s) (may_share rules r s) e in
      record {
        shares = λ k. refl;
        adds = λ k. (and_parts (through rules s) (has_all rules Sums r s) (and_parts (through rules s && has_all rules Sums r s) (not s.added) w).0).0;
        walks = t.walks;
      }
  turn_after r s t Share e =
      let w : may_share rules r s ≡ true = chosen-share s.built (may_walk rules r s) (may_add rules r s) (may_share rules r s) e in
      record {
        shares = λ k. (and_parts s.added (has_all rules Members r s) (and_parts (s.added && has_all rules Members r s) (not s.shared) w).0).0;
        adds = t.adds;
        walks = t.walks;
      }
  turn_after r s t None e = t

  turn_kept : (m : Message) (s : Rank) → InTurn rules s → (k : Kind) → InTurn rules (kept rules m s k)
  turn_kept m s t Reply = record { shares = t.shares; adds = t.adds; walks = t.walks }
  turn_kept m s t Ask = record { shares = t.shares; adds = t.adds; walks = t.walks }
  turn_kept m s t Want = record { shares = t.shares; adds = t.adds; walks = t.walks }
  turn_kept m s t Table = record { shares = t.shares; adds = t.adds; walks = t.walks }
  turn_kept m s t Sums = record { shares = t.shares; adds = t.adds; walks = t.walks }
  turn_kept m s t Members = record { shares = t.shares; adds = t.adds; walks = t.walks }
  turn_kept m s t Parts = record { shares = t.shares; adds = t.adds; walks = t.walks }

  turn_blank : InTurn rules blank
  turn_blank = record { shares = λ k. absurd (false≢true k); adds = λ k. absurd (false≢true k); walks = λ k. absurd (false≢true k) }

  each-copy : (n : ℕ) → AllByRecursion (InTurn rules) (replicate n blank)
  each-copy zero = tt
  each-copy (suc n) = (turn_blank, each-copy n)

  pub in_turn : (es : List Move) (w : World Rank Message) → IsRun (machine rules) (start_world rules) es w → (r : ℕ) → InTurn rules (state (machine rules) w r)
  in_turn es w run r =
      each-state (machine rules) (InTurn rules) (λ r s t e. turn_after r s t (action rules r s) refl) (λ m s t. turn_kept m s t m.kind) w.states r turn_blank
      (each-run (machine rules) (InTurn rules) (λ r s t e. turn_after r s t (action rules r s) refl) (λ m s t. turn_kept m s t m.kind) (start_world rules) w es turn_blank (each-copy rules.ranks) run)

  shared_quiet : (r : ℕ) (s : Rank) → InTurn rules s → s.shared ≡ true → is_some (action rules r s) ≡ false
  unfolding action
  shared_quiet r s t e =
      let a : s.added ≡ true = t.shares e in
      let h : through rules s ≡ true = t.adds a in
      let b : s.built ≡ true = t.walks (and_parts s.walked (is_empty s.list) h).0 in
      let w : may_walk rules r s ≡ false = and_right (ready rules r s) (not s.walked || list_any (knows_both rules r s.replies) s.list) (through_or s.walked s.list (knows_both rules r s.replies) h) in
      let m : may_add rules r s ≡ false = and_right (through rules s && has_all rules Sums r s) (not s.added) (ap not a) in
      let n : may_share rules r s ≡ false = and_right (s.added && has_all rules Members r s) (not s.shared) (ap not e) in
      quiet s.built (may_walk rules r s) (may_add rules r s) (may_share rules r s) b w m n
    where
      quiet : (b w m n : Bool) → b ≡ true → w ≡ false → m ≡ false → n ≡ false → is_some (chosen b w m n) ≡ false
      quiet true true m n e f g h = cc
      quiet true false true n e f g h = cc
      quiet true false false true e f g h = cc
      quiet true false false false e f g h = refl
      quiet false w m n e f g h = cc

none_kept : (t : ℕ → Bool) (xs : List ℕ) → AllByRecursion (λ x. t x ≡ false) xs → length (filter t xs) ≡ 0
none_kept t [] a = refl
none_kept t (x ∷ xs) a = ap (λ b. length (cond b (x ∷ filter t xs) (filter t xs))) a.0 ∙ none_kept t xs a.1

-- a finished machine has no enabled event
pub ends_all : EndsAll
unfolding enabled
ends_all rules es w run f =
    let p : length (acting (machine rules) w) ≡ 0 = none_kept (λ r. is_some (action rules r (state (machine rules) w r))) (range_with_len 0 rules.ranks)
    (each-weaker (λ q. q < rules.ranks) (λ r. is_some (action rules r (state (machine rules) w r)) ≡ false) (λ r lt. shared_quiet rules r (state (machine rules) w r) (in_turn rules es w run r) (f.shared r lt)) (range_with_len 0 rules.ranks) (each-range 0 rules.ranks rules.ranks (omega arith))) in
    let e : length w.mail ≡ 0 = ap length f.mail in
    let q : length (coming (machine rules) w) ≡ 0 = ap (λ (n : ℕ). length (filter (λ k. may_come (machine rules) w (slice_get w.mail k)) (range_with_len 0 n))) e in
    omega (arith, p, q)

-- ---- what the events of a finished run deliver

-- a sum over messages with their answers
with_sum : (rules : Rules) (g : Message → ℕ) (ms : List Message) → sum_by g (each_with_answers rules ms) ≡ sum_by (with_answers (machine rules) g) ms
with_sum rules g ms = sum_by-flat_map g (λ m. m ∷ answers_of rules m m.kind) ms ∙ sum_by-same (λ m. sum_by g (m ∷ answers_of rules m m.kind)) (with_answers (machine rules) g) (λ m. sum_by-cons g m (answers_of rules m m.kind)) ms

module _ (rules : Rules) (fair : IsFair rules) where
  others_count : (k : Kind) (g : Message → ℕ) (q : ℕ) → ((p : ℕ) → g (message k q p) ≡ 0) → sum_by g (to_all rules k q) ≡ 0
  others_count k g q e = sum_by-mapped g (λ p. message k q p) (others rules q) ∙ sum_by-zero (λ p. g (message k q p)) e (others rules q)

  asks_of : (g : Message → ℕ) (q : ℕ) → ((c : CellData) → g (ask rules q c) ≡ 1) → (cs : List CellData) → sum_by g (map (ask rules q) (filter (λ c. not (is_one c [])) cs)) ≡ length cs
  asks_of g q e [] = refl
  asks_of g q e (c ∷ cs) = omega (arith, sum_by-cons g (ask rules q c) (map (ask rules q) (filter (λ c. not (is_one c [])) cs)), e c, asks_of g q e cs)

  -- a weight that is 1 at asks and 0 at all other first messages
  first_asks : (g : Message → ℕ) → ((q : ℕ) (c : CellData) → g (ask rules q c) ≡ 1) → ((q p : ℕ) → g (message Table q p) ≡ 0) → ((q p : ℕ) → g (message Sums q p) ≡ 0) → ((q p : ℕ) → g (message Want q p) ≡ 0) → ((q p : ℕ) → g (message Parts q p) ≡ 0) → sum_by g (first rules fair) ≡ all_needed rules
  first_asks g a t s w p =
      sum_by-flat_map g (λ q. unsent rules q blank) (range_with_len 0 rules.ranks)
      ∙ sum_by-same (λ q. sum_by g (unsent rules q blank)) (λ q. length (need rules q)) (λ q. omega (
        arith,
        unsent_sum rules fair q blank g,
        others_count Table g q (t q),
        others_count Sums g q (s q),
        others_count Want g q (w q),
        others_count Parts g q (p q),
        asks_of g q (a q) (need rules q),
      )) (range_with_len 0 rules.ranks)

  over-blank : (g : Message → ℕ) (i n : ℕ) → over (machine rules) (λ r s. sum_by g (received rules r s)) i (replicate n blank) ≡ 0
  over-blank g i zero = refl
  over-blank g i (suc n) = omega (arith, over-blank g (i + 1) n)

  came : (es : List Move) (w : World Rank Message) → IsRun (machine rules) (start_world rules) es w → enabled (machine rules) w ≡ 0 → (g : Message → ℕ) → sum_by g (delivered (machine rules) (start_world rules) es) ≡ sum_by (with_answers (machine rules) g) (first rules fair)
  came es w run e g = omega (
    arith,
    run_got (machine rules) (unsent rules) (received rules) (left rules) (IsSteady rules) (IsGood rules) (first rules fair) (lawful rules fair) (start_world rules) w es (start_kept rules fair) run g,
    over-blank g 0 rules.ranks,
    delivers rules fair es w run e g,
  )

  each_delivered : (es : List Move) (w : World Rank Message) → IsRun (machine rules) (start_world rules) es w → enabled (machine rules) w ≡ 0 → DeliversEach rules es
  each_delivered es w run e = record {
    each = λ g. came es w run e g ∙ sym (with_sum rules g (first rules fair));
    asks = came es w run e (is_of Ask) ∙ first_asks (with_answers (machine rules) (is_of Ask)) (λ q c. refl) (λ q p. refl) (λ q p. refl) (λ q p. refl) (λ q p. refl);
    replies = came es w run e (is_of Reply) ∙ first_asks (with_answers (machine rules) (is_of Reply)) (λ q c. refl) (λ q p. refl) (λ q p. refl) (λ q p. refl) (λ q p. refl);
  }

  -- ---- the bound

  all_others : (r f n : ℕ) → r < f → length (filter (λ q. not (eqb q r)) (range_with_len f n)) ≡ n
  all_others r f zero h = refl
  all_others r f (suc n) h = ap (λ b. length (cond (not b) (f ∷ filter (λ q. not (eqb q r)) (range_with_len (f + 1) n)) (filter (λ q. not (eqb q r)) (range_with_len (f + 1) n)))) (ne_eqb f r (λ e. omega arith)) ∙ ap suc (all_others r (f + 1) n (omega arith))

  but_one : (r f n : ℕ) → f ≤ r → r < f + n → length (filter (λ q. not (eqb q r)) (range_with_len f n)) + 1 ≡ n
  but_one r f zero h k = absurd (omega arith)
  but_one r f (suc n) h k = by (cases_eq f r) (λ l. but_one r (f + 1) n l (omega arith))
    where
      by : (f ≡ r) ⊎ (f ≡ r → ⊥) → (f + 1 ≤ r → length (filter (λ q. not (eqb q r)) (range_with_len (f + 1) n)) + 1 ≡ n) → length (filter (λ q. not (eqb q r)) (f ∷ range_with_len (f + 1) n)) + 1 ≡ suc n
      by (inl e) rest = ap (λ b. length (cond (not b) (f ∷ filter (λ q. not (eqb q r)) (range_with_len (f + 1) n)) (filter (λ q. not (eqb q r)) (range_with_len (f + 1) n))) + 1) (eq-eqb f r e) ∙ (let u : length (filter (λ q. not (eqb q r)) (range_with_len (f + 1) n)) ≡ n = all_others r (f + 1) n (omega arith) in omega (arith, u))
      by (inr ne) rest = ap (λ b. length (cond (not b) (f ∷ filter (λ q. not (eqb q r)) (range_with_len (f + 1) n)) (filter (λ q. not (eqb q r)) (range_with_len (f + 1) n))) + 1) (ne_eqb f r ne) ∙ (let u : length (filter (λ q. not (eqb q r)) (range_with_len (f + 1) n)) + 1 ≡ n = rest (omega arith) in omega (arith, u))

  most_over : (n : ℕ) (xs : List ℕ) → AllByRecursion (λ q. length (others rules q) + 1 ≡ n) xs → sum_by (λ q. 4 + (5 * length (others rules q) + 3 * length (need rules q))) xs + length xs ≡ 5 * n * length xs + 3 * sum_by (λ q. length (need rules q)) xs
  most_over n [] a = omega arith
  most_over n (q ∷ qs) a =
      let e : length (others rules q) + 1 ≡ n = a.0 in
      let s : 5 * n * suc (length qs) ≡ 5 * n * length qs + 5 * n = omega arith in
      omega (
        arith,
        e,
        s,
        sum_by-cons (λ q. 4 + (5 * length (others rules q) + 3 * length (need rules q))) q qs,
        sum_by-cons (λ q. length (need rules q)) q qs,
        most_over n qs a.1,
      )

  bounded : (es : List Move) (w : World Rank Message) → IsRun (machine rules) (start_world rules) es w → length es + rules.ranks ≤ 5 * rules.ranks * rules.ranks + 3 * all_needed rules
  bounded es w run =
      let n : ℕ = rules.ranks in
      let a : AllByRecursion (λ q. length (others rules q) + 1 ≡ rules.ranks) (range_with_len 0 rules.ranks) = each-weaker (λ q. q < rules.ranks) (λ q. length (others rules q) + 1 ≡ rules.ranks) (λ q lt. but_one q 0 rules.ranks (omega arith) (omega (arith, lt))) (range_with_len 0 rules.ranks) (each-range 0 rules.ranks rules.ranks (omega arith)) in
      let l : length (range_with_len 0 rules.ranks) ≡ rules.ranks = length-range_with_len 0 rules.ranks in
      let m : most_events rules + rules.ranks ≡ 5 * rules.ranks * rules.ranks + 3 * all_needed rules = subst (λ (t : ℕ). most_events rules + t ≡ 5 * rules.ranks * t + 3 * all_needed rules) l (most_over rules.ranks (range_with_len 0 rules.ranks) a) in
      omega (arith, m, few_events rules fair es w run)

pub events_deliver : EventsDeliverEach
events_deliver rules fair es w run e = each_delivered rules fair es w run e

pub is_bounded : IsBounded
is_bounded rules fair es w run = bounded rules fair es w run

-- ---- at each moment

pub messages_differ : MessagesDiffer
messages_differ rules fair m =
    let e : sum_by (mark m) (all_messages rules) ≡ sum_by (with_answers (machine rules) (mark m)) (first rules fair) = with_sum rules (mark m) (first rules fair) in
    let l : sum_by (with_answers (machine rules) (mark m)) (first rules fair) ≤ 1 = message_once rules fair m.kind m.from m.to m.cell in
    omega (arith, e, l)

pub keeps_messages : KeepsMessages
keeps_messages rules fair es w run g =
    let k : IsKept (machine rules) (unsent rules) (received rules) (left rules) (IsSteady rules) (IsGood rules) (first rules fair) w =
    (run_kept (machine rules) (unsent rules) (received rules) (left rules) (IsSteady rules) (IsGood rules) (first rules fair) (lawful rules fair) (start_world rules) w es (start_kept rules fair) run).0 in
    let at : ℕ → Rank = state (machine rules) w in
    let rs : List ℕ = range_with_len 0 rules.ranks in
    let each : sum_by (λ r. sum_by (with_answers (machine rules) g) (unsent rules r (state (machine rules) w r)) + sum_by g (received rules r (state (machine rules) w r))) (range_with_len 0 (length w.states)) ≡ sum_by (λ r. sum_by (with_answers (machine rules) g) (unsent rules r (state (machine rules) w r)) + sum_by g (received rules r (state (machine rules) w r))) (range_with_len 0 rules.ranks) =
    ap (λ (n : ℕ). sum_by (λ r. sum_by (with_answers (machine rules) g) (unsent rules r (state (machine rules) w r)) + sum_by g (received rules r (state (machine rules) w r))) (range_with_len 0 n)) k.size in
    omega (
      arith,
      k.every g,
      over-ranks (machine rules) (λ r s. sum_by (with_answers (machine rules) g) (unsent rules r s) + sum_by g (received rules r s)) w,
      each,
      sum_by-plus (λ r. sum_by (with_answers (machine rules) g) (unsent rules r (state (machine rules) w r))) (λ r. sum_by g (received rules r (state (machine rules) w r))) (range_with_len 0 rules.ranks),
      sum_by-append g (each_with_answers rules (flat_map (λ r. unsent rules r (state (machine rules) w r)) (range_with_len 0 rules.ranks))) (flat_map (λ m. answers_of rules m m.kind) w.mail),
      with_sum rules g (flat_map (λ r. unsent rules r (state (machine rules) w r)) (range_with_len 0 rules.ranks)),
      sum_by-flat_map (with_answers (machine rules) g) (λ r. unsent rules r (state (machine rules) w r)) (range_with_len 0 rules.ranks),
      sum_by-flat_map g (λ m. answers_of rules m m.kind) w.mail,
      sum_by-flat_map g (λ r. received rules r (state (machine rules) w r)) (range_with_len 0 rules.ranks),
      sum_by-plus g (λ m. sum_by g (answers_of rules m m.kind)) w.mail,
      with_sum rules g (first rules fair),
    )
