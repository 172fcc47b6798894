-- Every run of the rank machine.
use Rattle.std.proofs.Common.{◌≡◌, ℕ, zero, suc, ◌+◌, ◌*◌, ◌<◌, ◌≤◌, Bool, true, false, cond, eqb, not, List, [], ◌∷◌, length, map, sum_by, refl, ap, sym, ◌∙◌, arith, inl, inr, subst, get_or}
use Rattle.std.specs.List.{filter, AllByRecursion, range_with_len}
use Rattle.std.proofs.lemmas.Bool.{false≢true}
use Rattle.std.proofs.lemmas.List.Sums.{sum_by-cons}
use Rattle.std.specs.Prelude.{replicate}
use Rattle.cell_space.specs.Cells.{CellData}
use Rattle.model_laws.proofs.Among.{Among, each-append, each-map, each-filter}
use Rattle.model_laws.proofs.Sums.{sum_by-flat_map, sum_by-mapped, sum_by-same}
use Rattle.nbody_model.specs.Evolve.{is_empty}
use Rattle.rank_laws.specs.Protocol.{World, Move, IsRun}
use Rattle.rank_laws.specs.Machine.{blank, Kind, Table, Sums, Want, Members, Parts, Ask, Reply, Message, Rank, Rules, message, is_one, others, to_all, need, list_after, is_fresh, fresh, ask, Action, Build, Walk, Add, Share, None, action, sent, answers_of, machine, start_world}
use Rattle.rank_laws.specs.Runs.{unsent, received, IsFair}
use Rattle.rank_laws.proofs.Protocol.{IsLawful, IsKept, share, still, potential, run_kept, with_answers, over}
use Rattle.rank_laws.proofs.Machine.{IsSteady, IsGood, Done, acted_done, among_one, unsent_sum, left}
use Rattle.rank_laws.proofs.Taken.{first, Took, took_got, took_reply}

-- the most events of a run
abbrev pub most_events : Rules → ℕ
most_events rules = sum_by (λ q. 4 + (5 * length (others rules q) + 3 * length (need rules q))) (range_with_len 0 rules.ranks)

-- the numbers of a range are below its end
pub each-range : (f n k : ℕ) → f + n ≤ k → AllByRecursion (λ q. q < k) (range_with_len f n)
each-range f zero k h = tt
each-range f (suc n) k h = (omega arith, each-range (f + 1) n k (omega arith))

each-self : (xs : List CellData) → AllByRecursion (λ c. is_one c xs ≡ true) xs
each-self xs = from xs (λ c h. among_one c xs h)
  where
    from : (ys : List CellData) → ((c : CellData) → Among c ys → is_one c xs ≡ true) → AllByRecursion (λ c. is_one c xs ≡ true) ys
    from [] h = tt
    from (y ∷ ys) h = (h y (inl refl), from ys (λ c k. h c (inr k)))

module _ (rules : Rules) (fair : IsFair rules) where
  good_all : (k : Kind) (r : ℕ) → r < rules.ranks → (k ≡ Ask → ⊥) → (k ≡ Reply → ⊥) → AllByRecursion (IsGood rules) (to_all rules k r)
  good_all k r lt na nr =
      each-map (λ q. q < rules.ranks) (IsGood rules) (λ q. message k r q) (λ q h. record { to_in = h; from_in = lt; asks = λ e. absurd (na e); replies = λ e. absurd (nr e) }) (others rules r)
      (each-filter (λ q. q < rules.ranks) (λ q. not (eqb q r)) (range_with_len 0 rules.ranks) (each-range 0 rules.ranks rules.ranks (omega arith)))

  good_asks : (r : ℕ) (s : Rank) → r < rules.ranks → AllByRecursion (IsGood rules) (map (ask rules r) (fresh rules r s))
  good_asks r s lt =
      each-map (λ c. is_one c (need rules r) ≡ true) (IsGood rules) (ask rules r) (λ c h. record { to_in = fair.home_in c; from_in = lt; asks = λ e. (h, refl); replies = λ e. cc }) (fresh rules r s)
      (each-filter (λ c. is_one c (need rules r) ≡ true) (is_fresh rules r s) (need rules r) (each-self (need rules r)))

  good_either : (b : Bool) (r : ℕ) → r < rules.ranks → AllByRecursion (IsGood rules) (cond b (to_all rules Sums r) [])
  good_either true r lt = good_all Sums r lt (λ e. cc) (λ e. cc)
  good_either false r lt = tt

  good_sent : (r : ℕ) (s : Rank) → r < rules.ranks → (a : Action) → AllByRecursion (IsGood rules) (sent rules r s a)
  good_sent r s lt Build = good_all Table r lt (λ e. cc) (λ e. cc)
  good_sent r s lt Walk = each-append (IsGood rules) (map (ask rules r) (fresh rules r s)) (cond (is_empty (list_after rules r s)) (to_all rules Sums r) []) (good_asks r s lt) (good_either (is_empty (list_after rules r s)) r lt)
  good_sent r s lt Add = good_all Want r lt (λ e. cc) (λ e. cc)
  good_sent r s lt Share = good_all Parts r lt (λ e. cc) (λ e. cc)
  good_sent r s lt None = tt

  good_answers : (m : Message) → IsGood rules m → (k : Kind) → m.kind ≡ k → AllByRecursion (IsGood rules) (answers_of rules m k)
  good_answers m g Table e = tt
  good_answers m g Sums e = tt
  good_answers m g Want e = (record { to_in = g.from_in; from_in = g.to_in; asks = λ k. cc; replies = λ k. cc }, tt)
  good_answers m g Members e = tt
  good_answers m g Parts e = tt
  good_answers m g Ask e = (record { to_in = g.from_in; from_in = g.to_in; asks = λ k. cc; replies = λ k. ((g.asks e).0, (g.asks e).1) }, tt)
  good_answers m g Reply e = tt

  took_by : (m : Message) (s : Rank) → IsGood rules m → IsSteady rules m.to s → ((g : Message → ℕ) → sum_by (with_answers (machine rules) g) (unsent rules m.to s) + sum_by g (received rules m.to s) + with_answers (machine rules) g m ≤ sum_by (with_answers (machine rules) g) (first rules fair)) →
      (k : Kind) → m.kind ≡ k → Took rules fair m s k
  took_by m s g h fits Reply e = took_reply rules fair m s g h e fits
  took_by m s g h fits Table e = took_got rules fair m s g h (λ k. cc)
  took_by m s g h fits Sums e = again (took_got rules fair m s g h (λ k. cc))
    where
      again : Took rules fair m s Table → Took rules fair m s Sums
      again t = record { kept_same = t.kept_same; got_more = t.got_more; fewer = t.fewer; local = t.local }
  took_by m s g h fits Want e = let t : Took rules fair m s Table = took_got rules fair m s g h (λ k. cc) in record { kept_same = t.kept_same; got_more = t.got_more; fewer = t.fewer; local = t.local }
  took_by m s g h fits Members e = let t : Took rules fair m s Table = took_got rules fair m s g h (λ k. cc) in record { kept_same = t.kept_same; got_more = t.got_more; fewer = t.fewer; local = t.local }
  took_by m s g h fits Parts e = let t : Took rules fair m s Table = took_got rules fair m s g h (λ k. cc) in record { kept_same = t.kept_same; got_more = t.got_more; fewer = t.fewer; local = t.local }
  took_by m s g h fits Ask e = let t : Took rules fair m s Table = took_got rules fair m s g h (λ k. cc) in record { kept_same = t.kept_same; got_more = t.got_more; fewer = t.fewer; local = t.local }

  no_more_by : (m : Message) (g : Message → ℕ) (k : Kind) → sum_by (with_answers (machine rules) g) (answers_of rules m k) ≡ sum_by g (answers_of rules m k)
  no_more_by m g Table = refl
  no_more_by m g Sums = refl
  no_more_by m g Want = omega arith
  no_more_by m g Members = refl
  no_more_by m g Parts = refl
  no_more_by m g Ask = omega arith
  no_more_by m g Reply = refl

  pub lawful : IsLawful (machine rules) (unsent rules) (received rules) (left rules) (IsSteady rules) (IsGood rules) (first rules fair)
  lawful = record {
    acted = λ r s lt h e. let d : Done rules fair r s (action rules r s) = acted_done rules fair r s h e in record { kept = d.kept; got_same = d.got_same; fewer = d.fewer; local = d.local; good = good_sent r s lt (action rules r s) };
    taken = λ s m g h a fits. let t : Took rules fair m s m.kind = took_by m s g h fits m.kind refl in record { kept = t.kept_same; got_more = t.got_more; fewer = t.fewer; local = t.local; good = good_answers m g m.kind refl };
    reaches = λ m g. g.to_in;
    no_more = λ m g. no_more_by m g m.kind;
  }

  over-copies : (f : ℕ → Rank → ℕ) (i n : ℕ) → over (machine rules) f i (replicate n blank) ≡ sum_by (λ q. f q blank) (range_with_len i n)
  over-copies f i zero = refl
  over-copies f i (suc n) = omega (arith, over-copies f (i + 1) n, sum_by-cons (λ q. f q blank) i (range_with_len (i + 1) n))

  length-copies : (n : ℕ) → length (replicate n blank) ≡ n
  length-copies zero = refl
  length-copies (suc n) = ap suc (length-copies n)

  get-copies : (n r : ℕ) → get_or (replicate n blank) r blank ≡ blank
  get-copies zero r = refl
  get-copies (suc n) zero = refl
  get-copies (suc n) (suc r) = get-copies n r

  blank_steady : (r : ℕ) → IsSteady rules r blank
  blank_steady r = record {
    settled = λ g. omega arith;
    listed = λ c h e. absurd (false≢true h);
    answered = λ c h. absurd (false≢true h);
    known_done = λ c h e. absurd (false≢true h);
    ours = tt;
  }

  pub start_kept : IsKept (machine rules) (unsent rules) (received rules) (left rules) (IsSteady rules) (IsGood rules) (first rules fair) (start_world rules)
  start_kept = record {
    size = length-copies rules.ranks;
    good = tt;
    local = λ r lt. subst (IsSteady rules r) (sym (get-copies rules.ranks r)) (blank_steady r);
    every = λ g. omega (
      arith,
      over-copies (share (machine rules) (unsent rules) (received rules) (left rules) (IsSteady rules) (IsGood rules) (first rules fair) g) 0 rules.ranks,
      sum_by-flat_map (with_answers (machine rules) g) (λ q. unsent rules q blank) (range_with_len 0 rules.ranks),
      sum_by-same (λ q. share (machine rules) (unsent rules) (received rules) (left rules) (IsSteady rules) (IsGood rules) (first rules fair) g q blank) (λ q. sum_by (with_answers (machine rules) g) (unsent rules q blank)) (λ q. omega arith) (range_with_len 0 rules.ranks),
    );
  }

  ones : (n : ℕ) {X : Type 0} (f : X → ℕ) → ((x : X) → f x ≡ n) → (xs : List X) → sum_by f xs ≡ n * length xs
  ones n f e [] = omega arith
  ones n f e (x ∷ xs) = omega (arith, sum_by-cons f x xs, e x, ones n f e xs)

  every-kept : (xs : List CellData) → length (filter (λ c. not (is_one c [])) xs) ≡ length xs
  every-kept [] = refl
  every-kept (x ∷ xs) = ap suc (every-kept xs)

  piece : (k : Kind) (n : ℕ) → ((q p : ℕ) → with_answers (machine rules) (λ m. 1) (message k q p) ≡ n) → (q : ℕ) → sum_by (with_answers (machine rules) (λ m. 1)) (to_all rules k q) ≡ n * length (others rules q)
  piece k n e q = sum_by-mapped (with_answers (machine rules) (λ m. 1)) (λ p. message k q p) (others rules q) ∙ ones n (λ p. with_answers (machine rules) (λ m. 1) (message k q p)) (λ p. e q p) (others rules q)

  start_left : (q : ℕ) → still (machine rules) (unsent rules) (received rules) (left rules) (IsSteady rules) (IsGood rules) (first rules fair) q blank ≡ 4 + (5 * length (others rules q) + 3 * length (need rules q))
  start_left q =
      omega (
        arith,
        unsent_sum rules fair q blank (with_answers (machine rules) (λ m. 1)),
        piece Table 1 (λ q p. refl) q,
        piece Sums 1 (λ q p. refl) q,
        piece Want 2 (λ q p. refl) q,
        piece Parts 1 (λ q p. refl) q,
        sum_by-mapped (with_answers (machine rules) (λ m. 1)) (ask rules q) (filter (λ c. not (is_one c [])) (need rules q)),
        ones 2 (λ c. with_answers (machine rules) (λ m. 1) (ask rules q c)) (λ c. refl) (filter (λ c. not (is_one c [])) (need rules q)),
        every-kept (need rules q),
        ones 1 (λ c. cond {A = ℕ} (is_one c []) 0 1) (λ c. refl) (need rules q),
      )

  -- in every run there are no more events than this
  pub few_events : (es : List Move) (z : World Rank Message) → IsRun (machine rules) (start_world rules) es z → length es ≤ most_events rules
  few_events es z run =
      let k : IsKept (machine rules) (unsent rules) (received rules) (left rules) (IsSteady rules) (IsGood rules) (first rules fair) z
      × (length es + potential (machine rules) (unsent rules) (received rules) (left rules) (IsSteady rules) (IsGood rules) (first rules fair) z ≤ potential (machine rules) (unsent rules) (received rules) (left rules) (IsSteady rules) (IsGood rules) (first rules fair) (start_world rules))
      = run_kept (machine rules) (unsent rules) (received rules) (left rules) (IsSteady rules) (IsGood rules) (first rules fair) lawful (start_world rules) z es start_kept run in
      omega (
        arith,
        k.1,
        over-copies (still (machine rules) (unsent rules) (received rules) (left rules) (IsSteady rules) (IsGood rules) (first rules fair)) 0 rules.ranks,
        sum_by-same (λ q. still (machine rules) (unsent rules) (received rules) (left rules) (IsSteady rules) (IsGood rules) (first rules fair) q blank) (λ q. 4 + (5 * length (others rules q) + 3 * length (need rules q))) start_left (range_with_len 0 rules.ranks),
      )
