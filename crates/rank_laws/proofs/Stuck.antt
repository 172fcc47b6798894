-- A machine in which no event may happen is finished.
use Rattle.std.proofs.Common.{◌≡◌, ◌≢◌, ℕ, zero, suc, ◌+◌, ◌<◌, ◌≤◌, Bool, true, false, cond, eqb, ◌&&◌, ◌||◌, not, List, [], ◌∷◌, ◌++◌, length, map, sum_by, refl, ap, sym, ◌∙◌, arith, ◌⊎◌, inl, inr, subst, get_or, zero-add}
use Rattle.std.specs.Prelude.{Some, slice_get}
use Rattle.std.specs.List.{flat_map, filter, list_any, list_all, AllByRecursion, range_with_len}
use Rattle.std.proofs.lemmas.Bool.{false≢true, and_parts, and_from, cond-true, cond-false, eqb-true, eq-eqb, ne_eqb, cases_eq, or_left, or_right}
use Rattle.std.proofs.lemmas.List.Sums.{sum_by-cons, sum_by-append}
use Rattle.cell_space.specs.Cells.{CellData, root_cell, same_cell}
use Rattle.model_laws.proofs.Among.{Among, among-le, among-kept, among-filter, among-zero}
use Rattle.model_laws.proofs.Sums.{sum_by-flat_map, sum_by-mapped, sum_by-same, sum_by-zero}
use Rattle.cell_space.proofs.Cells.{same_cell-exact}
use Rattle.nbody_model.specs.Evolve.{is_empty}
use Rattle.rank_laws.specs.Trees.{all_from}
use Rattle.rank_laws.specs.Protocol.{Protocol, World, state}
use Rattle.rank_laws.specs.Machine.{blank, Pair, Kind, Table, Sums, Want, Members, Parts, Ask, Reply, Message, Rank, Rules, code_of, same_message, message, is_one, cells_of, others, to_all, has_all, ready, need, knows, knows_both, todo, ask, may_walk, through, may_add, may_share, chosen, action, is_some, answers_of, accepted, machine}
use Rattle.rank_laws.specs.Runs.{unsent, received, IsFair}
use Rattle.rank_laws.proofs.Protocol.{IsKept, share, with_answers, over}
use Rattle.rank_laws.proofs.Machine.{among_one, IsSteady, IsGood, one_among, unsent_sum, needed, left}
use Rattle.rank_laws.proofs.Taken.{first, reply, mark, sum-le, same_itself}
use Rattle.rank_laws.proofs.Waiting.{often, often_some, some_often, reached_more}

chosen-none : (b w a h : Bool) → is_some (chosen b w a h) ≡ false → (b ≡ true) × (w ≡ false) × (a ≡ false) × (h ≡ false)
chosen-none false w a h e = absurd (false≢true (sym e))
chosen-none true true a h e = absurd (false≢true (sym e))
chosen-none true false true h e = absurd (false≢true (sym e))
chosen-none true false false true e = absurd (false≢true (sym e))
chosen-none true false false false e = (refl, refl, refl, refl)

and_false : (a b : Bool) → (a && b) ≡ false → a ≡ true → b ≡ false
and_false true b h e = h
and_false false b h e = absurd (false≢true e)

or_parts : (a b : Bool) → (a || b) ≡ false → (a ≡ false) × (b ≡ false)
or_parts true b h = absurd (false≢true (sym h))
or_parts false b h = (refl, h)

not_false : (b : Bool) → not b ≡ false → b ≡ true
not_false true e = refl
not_false false e = absurd (false≢true (sym e))

range_step : (f k : ℕ) (ks : List ℕ) → (k ≡ f) ⊎ (k ≡ f → ⊥) → (k ≢ f → Among k ks) → (k ≡ f) ⊎ Among k ks
range_step f k ks (inl e) h = inl e
range_step f k ks (inr n) h = inr (h n)

pub among_range : (f n k : ℕ) → f ≤ k → k < f + n → Among k (range_with_len f n)
among_range f zero k h l = absurd (omega arith)
among_range f (suc n) k h l = range_step f k (range_with_len (f + 1) n) (cases_eq k f) (λ ne. among_range (f + 1) n k (omega arith) (omega arith))

pub range_below : (f n k : ℕ) → Among k (range_with_len f n) → k < f + n
range_below f zero k h = absurd h
range_below f (suc n) k (inl e) = omega arith
range_below f (suc n) k (inr h) = omega (arith, range_below (f + 1) n k h)

among_append_left : {X : Type 0} (x : X) (xs ys : List X) → list_any (λ (b : Bool). b) [] ≡ false → Among x xs → Among x (xs ++ ys)
among_append_left x [] ys e h = absurd h
among_append_left x (z ∷ zs) ys e (inl k) = inl k
among_append_left x (z ∷ zs) ys e (inr k) = inr (among_append_left x zs ys e k)

each-index : {X : Type 0} (P : X → Type 0) (xs : List X) → ((k : ℕ) (x : X) → slice_get xs k ≡ Some x → P x) → AllByRecursion P xs
each-index P [] h = tt
each-index P (x ∷ xs) h = (h 0 x refl, each-index P xs (λ k y e. h (suc k) y e))

zero_each : {X : Type 0} (P : X → Type 0) (f : X → ℕ) → ((x : X) → P x → f x ≡ 0) → (xs : List X) → AllByRecursion P xs → sum_by f xs ≡ 0
zero_each P f e [] a = refl
zero_each P f e (x ∷ xs) a = omega (arith, sum_by-cons f x xs, e x a.0, zero_each P f e xs a.1)

-- what is marked in a list stands there
marked_any : (m : Message) (xs : List Message) → 0 < sum_by (mark m) xs → list_any (same_message m) xs ≡ true
marked_any m [] h = absurd (omega (arith, h))
marked_any m (x ∷ xs) h = case (same_message m x) refl (λ k. marked_any m xs k)
  where
    case : (b : Bool) → same_message m x ≡ b → (0 < sum_by (mark m) xs → list_any (same_message m) xs ≡ true) → (b || list_any (same_message m) xs) ≡ true
    case true e rest = refl
    case false e rest = rest (omega (arith, h, sum_by-cons (mark m) x xs, cond-false {A = ℕ} (same_message m x) 1 0 e))

all_each : {X : Type 0} (t : X → Bool) (xs : List X) → ((x : X) → Among x xs → t x ≡ true) → list_all t xs ≡ true
all_each t [] h = refl
all_each t (x ∷ xs) h = and_from (t x) (list_all t xs) (h x (inl refl)) (all_each t xs (λ y k. h y (inr k)))

module _ {S M : Type 0} (p : Protocol S M) where
  over-none : (f : ℕ → S → ℕ) (i : ℕ) (ss : List S) → ((j : ℕ) → j < length ss → f (i + j) (get_or ss j p.blank) ≡ 0) → over p f i ss ≡ 0
  over-none f i [] h = refl
  over-none f i (s ∷ ss) h = let a : f i s ≡ 0 = subst (λ (t : ℕ). f t s ≡ 0) (let e : i + 0 ≡ i = omega arith in e) (h 0 (omega arith)) in
      omega (arith, a, over-none f (i + 1) ss (λ j l. subst (λ (t : ℕ). f t (get_or ss j p.blank) ≡ 0) (let e : i + suc j ≡ i + 1 + j = omega arith in e) (h (suc j) (omega (arith, l)))))

  over-some : (f : ℕ → S → ℕ) (i : ℕ) (ss : List S) (k : ℕ) → ((j : ℕ) → j < length ss → j ≢ k → f (i + j) (get_or ss j p.blank) ≡ 0) → 0 < over p f i ss → 0 < f (i + k) (get_or ss k p.blank)
  over-some f i [] k h l = absurd (omega (arith, l))
  over-some f i (s ∷ ss) zero h l = subst (λ (t : ℕ). 0 < f t s) (let e : i ≡ i + 0 = omega arith in e) (omega (arith, l, over-none f (i + 1) ss (λ j q. subst (λ (t : ℕ). f t (get_or ss j p.blank) ≡ 0) (let e : i + suc j ≡ i + 1 + j = omega arith in e) (h (suc j) (omega (arith, q)) (λ x. cc)))))
  over-some f i (s ∷ ss) (suc k) h l =
      let a : f i s ≡ 0 = subst (λ (t : ℕ). f t s ≡ 0) (let e : i + 0 ≡ i = omega arith in e) (h 0 (omega arith) (λ x. cc)) in
      subst (λ (t : ℕ). 0 < f t (get_or ss k p.blank)) (let e : i + 1 + k ≡ i + suc k = omega arith in e)
      (over-some f (i + 1) ss k (λ j q n. subst (λ (t : ℕ). f t (get_or ss j p.blank) ≡ 0) (let e : i + suc j ≡ i + 1 + j = omega arith in e) (h (suc j) (omega (arith, q)) (λ x. n (omega arith)))) (omega (arith, l, a)))

module _ (rules : Rules) (fair : IsFair rules) (w : World Rank Message)
    (h : IsKept (machine rules) (unsent rules) (received rules) (left rules) (IsSteady rules) (IsGood rules) (first rules fair) w)
    (quiet : (r : ℕ) → r < rules.ranks → is_some (action rules r (state (machine rules) w r)) ≡ false)
    (silent : (k : ℕ) (m : Message) → slice_get w.mail k ≡ Some m → accepted rules m (state (machine rules) w m.to) m.kind ≡ false)
  where
    abbrev at : ℕ → Rank
    at r = state (machine rules) w r

    abbrev W : (Message → ℕ) → Message → ℕ
    W g m = with_answers (machine rules) g m

    none_of : (r : ℕ) → r < rules.ranks → ((at r).built ≡ true) × (may_walk rules r (at r) ≡ false) × (may_add rules r (at r) ≡ false) × (may_share rules r (at r) ≡ false)
    unfolding action
    none_of r lt = chosen-none (at r).built (may_walk rules r (at r)) (may_add rules r (at r)) (may_share rules r (at r)) (quiet r lt)

    zero_to : (m : Message) (q : ℕ) → m.to ≢ q → (x : Message) → x.to ≡ q → mark m x ≡ 0
    zero_to m q n x e = case (same_message m x) refl
      where
        case : (b : Bool) → same_message m x ≡ b → cond {A = ℕ} b 1 0 ≡ 0
        case true k = absurd (n (eqb-true m.to x.to (and_parts (eqb m.to x.to) (same_cell m.cell x.cell) (and_parts (eqb m.from x.from) (eqb m.to x.to && same_cell m.cell x.cell) (and_parts (eqb (code_of m.kind) (code_of x.kind)) (eqb m.from x.from && (eqb m.to x.to && same_cell m.cell x.cell)) k).1).1).0 ∙ e))
        case false k = refl

    not_received : (m : Message) (q : ℕ) → q < rules.ranks → m.to ≢ q → sum_by (mark m) (received rules q (at q)) ≡ 0
    not_received m q lt n =
        omega (
          arith,
          sum_by-append (mark m) (map (λ c. reply rules q c) (at q).replies) (at q).got,
          sum_by-mapped (mark m) (λ c. reply rules q c) (at q).replies,
          sum_by-same (λ c. mark m (reply rules q c)) (λ c. 0) (λ c. zero_to m q n (reply rules q c) refl) (at q).replies,
          sum_by-zero {X = CellData} (λ c. 0) (λ c. refl) (at q).replies,
          zero_each (λ x. (x.to ≡ q) × (x.kind ≡ Reply → ⊥)) (mark m) (λ x o. zero_to m q n x o.0) (at q).got (h.local q lt).ours,
        )

    -- what nobody has still to send, and isn't in the mail, has come
    has_come : (m : Message) → m.to < rules.ranks → 0 < sum_by (W (mark m)) (first rules fair) → ((q : ℕ) → q < rules.ranks → sum_by (W (mark m)) (unsent rules q (at q)) ≡ 0) → sum_by (W (mark m)) w.mail ≡ 0 → 0 < sum_by (mark m) (received rules m.to (at m.to))
    has_come m lt some none mail =
        let f : ℕ → Rank → ℕ = share (machine rules) (unsent rules) (received rules) (left rules) (IsSteady rules) (IsGood rules) (first rules fair) (mark m) in
        let r : 0 < share (machine rules) (unsent rules) (received rules) (left rules) (IsSteady rules) (IsGood rules) (first rules fair) (mark m) (0 + m.to) (get_or w.states m.to blank) =
        over-some (machine rules) (share (machine rules) (unsent rules) (received rules) (left rules) (IsSteady rules) (IsGood rules) (first rules fair) (mark m)) 0 w.states m.to
        (λ j q n. let l : j < rules.ranks = omega (arith, q, h.size) in subst (λ (t : ℕ). share (machine rules) (unsent rules) (received rules) (left rules) (IsSteady rules) (IsGood rules) (first rules fair) (mark m) t (get_or w.states j blank) ≡ 0) (sym (zero-add j)) (omega (arith, none j l, not_received m j l (λ e. n (sym e)))))
        (omega (arith, h.every (mark m), some, mail)) in
        let u : 0 < share (machine rules) (unsent rules) (received rules) (left rules) (IsSteady rules) (IsGood rules) (first rules fair) (mark m) m.to (get_or w.states m.to blank) =
        subst (λ (t : ℕ). 0 < share (machine rules) (unsent rules) (received rules) (left rules) (IsSteady rules) (IsGood rules) (first rules fair) (mark m) t (get_or w.states m.to blank)) (zero-add m.to) r in
        omega (arith, u, none m.to lt)

    none_kind : (m : Message) (k : Kind) → ((q p : ℕ) → W (mark m) (message k q p) ≡ 0) → (q : ℕ) (b : Bool) → sum_by (W (mark m)) (cond b [] (to_all rules k q)) ≡ 0
    none_kind m k e q true = refl
    none_kind m k e q false = sum_by-mapped (W (mark m)) (λ p. message k q p) (others rules q) ∙ sum_by-zero (λ p. W (mark m) (message k q p)) (λ p. e q p) (others rules q)

    none_asks : (m : Message) → ((q : ℕ) (d : CellData) → W (mark m) (ask rules q d) ≡ 0) → (q : ℕ) (cs : List CellData) → sum_by (W (mark m)) (map (ask rules q) cs) ≡ 0
    none_asks m e q cs = sum_by-mapped (W (mark m)) (ask rules q) cs ∙ sum_by-zero (λ d. W (mark m) (ask rules q d)) (λ d. e q d) cs

    none_sent : (m : Message) (k : Kind) (q : ℕ) (b : Bool) → b ≡ true → sum_by (W (mark m)) (cond b [] (to_all rules k q)) ≡ 0
    none_sent m k q b e = ap (λ t. sum_by (W (mark m)) (cond t [] (to_all rules k q))) e

    others_in : (q r : ℕ) → Among q (others rules r) → (q < rules.ranks) × (eqb q r ≡ false)
    others_in q r a = let f : Among q (range_with_len 0 rules.ranks) × (not (eqb q r) ≡ true) = among-kept (λ x. not (eqb x r)) q (range_with_len 0 rules.ranks) a in (omega (arith, range_below 0 rules.ranks q f.0), off (eqb q r) f.1)
      where
        off : (b : Bool) → not b ≡ true → b ≡ false
        off true e = absurd (false≢true e)
        off false e = refl

    other_way : (q r : ℕ) → r < rules.ranks → eqb q r ≡ false → Among r (others rules q)
    other_way q r lt e = among-filter (λ x. not (eqb x q)) r (range_with_len 0 rules.ranks) (among_range 0 rules.ranks r (omega arith) (omega (arith, lt))) (ap not (ne_eqb r q (λ p. false≢true (sym e ∙ eq-eqb q r (sym p)))))

    -- a first message of q, or its answer, is among all
    first_some : (m : Message) (k : Kind) (q p : ℕ) → q < rules.ranks → Among p (others rules q) → 0 < W (mark m) (message k q p) → sum_by (W (mark m)) (to_all rules k q) ≤ sum_by (W (mark m)) (unsent rules q blank) → 0 < sum_by (W (mark m)) (first rules fair)
    first_some m k q p lt a here piece =
        omega (
          arith,
          here,
          piece,
          sum_by-mapped (W (mark m)) (λ p. message k q p) (others rules q),
          among-le (λ p. W (mark m) (message k q p)) p (others rules q) a,
          sum_by-flat_map (W (mark m)) (λ q. unsent rules q blank) (range_with_len 0 rules.ranks),
          among-le (λ q. sum_by (W (mark m)) (unsent rules q blank)) q (range_with_len 0 rules.ranks) (among_range 0 rules.ranks q (omega arith) (omega (arith, lt))),
        )

    itself : (m : Message) → mark m m ≡ 1
    itself m = cond-true {A = ℕ} (same_message m m) 1 0 (same_itself rules fair m.to m.cell m)

    in_got : (m : Message) → ((c : CellData) → mark m (reply rules m.to c) ≡ 0) → 0 < sum_by (mark m) (received rules m.to (at m.to)) → list_any (same_message m) (at m.to).got ≡ true
    in_got m e some = marked_any m (at m.to).got (omega (
      arith,
      some,
      sum_by-append (mark m) (map (λ c. reply rules m.to c) (at m.to).replies) (at m.to).got,
      sum_by-mapped (mark m) (λ c. reply rules m.to c) (at m.to).replies,
      sum_by-zero (λ c. mark m (reply rules m.to c)) e (at m.to).replies,
    ))

    accepted_ask : (m : Message) (s : Rank) (k : Kind) → m.kind ≡ k → accepted rules m s k ≡ false → (m.kind ≡ Ask) × (ready rules m.to s ≡ false)
    accepted_ask m s Ask e a = (e, a)
    accepted_ask m s Table e a = absurd (false≢true (sym a))
    accepted_ask m s Sums e a = absurd (false≢true (sym a))
    accepted_ask m s Want e a = absurd (false≢true (sym a))
    accepted_ask m s Members e a = absurd (false≢true (sym a))
    accepted_ask m s Parts e a = absurd (false≢true (sym a))
    accepted_ask m s Reply e a = absurd (false≢true (sym a))

    asks_only : AllByRecursion (λ m. (m.kind ≡ Ask) × (ready rules m.to (at m.to) ≡ false)) w.mail
    asks_only = each-index (λ m. (m.kind ≡ Ask) × (ready rules m.to (at m.to) ≡ false)) w.mail (λ k m e. accepted_ask m (at m.to) m.kind refl (silent k m e))

    ask_zero : (q r : ℕ) (x : Message) → x.kind ≡ Ask → W (mark (message Table q r)) x ≡ 0
    ask_zero q r x e = subst (λ (k : Kind). cond {A = ℕ} (eqb 0 (code_of k) && (eqb q x.from && (eqb r x.to && same_cell root_cell x.cell))) 1 0 + sum_by (mark (message Table q r)) (answers_of rules x k) ≡ 0) (sym e) refl

    tables : (r : ℕ) → r < rules.ranks → has_all rules Table r (at r) ≡ true
    tables r lt = all_each (λ q. list_any (same_message (message Table q r)) (at r).got) (others rules r) (λ q a.
        let o : (q < rules.ranks) × (eqb q r ≡ false) = others_in q r a in
        in_got (message Table q r) (λ c. refl) (has_come (message Table q r) lt
        (first_some (message Table q r) Table q r o.0 (other_way q r lt o.1) (omega (arith, itself (message Table q r))) (omega (arith, unsent_sum rules fair q blank (W (mark (message Table q r))))))
        (λ p l. omega (
          arith,
          unsent_sum rules fair p (at p) (W (mark (message Table q r))),
          none_sent (message Table q r) Table p (at p).built (none_of p l).0,
          none_kind (message Table q r) Sums (λ a b. refl) p (through rules (at p)),
          none_kind (message Table q r) Want (λ a b. refl) p (at p).added,
          none_kind (message Table q r) Parts (λ a b. refl) p (at p).shared,
          none_asks (message Table q r) (λ a b. refl) p (filter (λ c. not (is_one c (at p).asked)) (need rules p)),
        ))
        (zero_each (λ m. (m.kind ≡ Ask) × (ready rules m.to (at m.to) ≡ false)) (W (mark (message Table q r))) (λ x u. ask_zero q r x u.0) w.mail asks_only)))

    all_ready : (r : ℕ) → r < rules.ranks → ready rules r (at r) ≡ true
    all_ready r lt = and_from (at r).built (has_all rules Table r (at r)) (none_of r lt).0 (tables r lt)

    pub mail_empty : w.mail ≡ []
    mail_empty = case w.mail asks_only h.good
      where
        case : (ms : List Message) → AllByRecursion (λ m. (m.kind ≡ Ask) × (ready rules m.to (at m.to) ≡ false)) ms → AllByRecursion (IsGood rules) ms → ms ≡ []
        case [] a g = refl
        case (m ∷ ms) a g = absurd (false≢true (sym a.0.1 ∙ all_ready m.to g.0.to_in))

    nothing : (g : Message → ℕ) → sum_by g w.mail ≡ 0
    nothing g = ap (sum_by g) mail_empty

    walk_off : (r : ℕ) → r < rules.ranks → ((at r).walked ≡ true) × (list_any (knows_both rules r (at r).replies) (at r).list ≡ false)
    walk_off r lt =
        let e : (not (at r).walked || list_any (knows_both rules r (at r).replies) (at r).list) ≡ false = and_false (ready rules r (at r)) (not (at r).walked || list_any (knows_both rules r (at r).replies) (at r).list) (none_of r lt).1 (all_ready r lt) in
        let p : (not (at r).walked ≡ false) × (list_any (knows_both rules r (at r).replies) (at r).list ≡ false) = or_parts (not (at r).walked) (list_any (knows_both rules r (at r).replies) (at r).list) e in
        (not_false (at r).walked p.0, p.1)

    -- a cell on the list that isn't of home r was asked for, and its reply has come
    module _ (r : ℕ) (lt : r < rules.ranks) (c : CellData) (on : is_one c (flat_map cells_of (at r).list) ≡ true) (away : eqb (rules.home c) r ≡ false) where
      G : Pair → ℕ
      G y = often same_cell same_cell-exact c (cells_of y)

      is_needed : is_one c (need rules r) ≡ true
      is_needed =
          let L : List Pair = (at r).list in
          let t : sum_by (λ x. sum_by (λ y. often same_cell same_cell-exact c (cells_of y)) (all_from rules.depth (rules.next r) x)) (todo rules r (at r)) ≡ sum_by (λ x. sum_by (λ y. often same_cell same_cell-exact c (cells_of y)) (all_from rules.depth (rules.next r) x)) (at r).list =
          ap (λ b. sum_by (λ x. sum_by (λ y. often same_cell same_cell-exact c (cells_of y)) (all_from rules.depth (rules.next r) x)) (cond b (at r).list (rules.start r))) (walk_off r lt).0 in
          needed rules fair r (at r) c (omega (
            arith,
            (h.local r lt).settled (λ y. often same_cell same_cell-exact c (cells_of y)),
            t,
            reached_more rules.depth (rules.next r) (fair.falls r) (λ b. true) (λ y. often same_cell same_cell-exact c (cells_of y)) (at r).list,
            sum_by-flat_map (λ d. cond (same_cell c d) 1 0) cells_of (at r).list,
            often_some same_cell same_cell-exact c (flat_map cells_of (at r).list) on,
          )) away

      was_asked : is_one c (at r).asked ≡ true
      was_asked = (h.local r lt).listed c on away

      reply_some : 0 < sum_by (W (mark (reply rules r c))) (first rules fair)
      reply_some =
          omega (
            arith,
            sum_by-flat_map (W (mark (reply rules r c))) (λ q. unsent rules q blank) (range_with_len 0 rules.ranks),
            among-le (λ q. sum_by (W (mark (reply rules r c))) (unsent rules q blank)) r (range_with_len 0 rules.ranks) (among_range 0 rules.ranks r (omega arith) (omega (arith, lt))),
            unsent_sum rules fair r blank (W (mark (reply rules r c))),
            sum_by-mapped (W (mark (reply rules r c))) (ask rules r) (filter (λ d. not (is_one d [])) (need rules r)),
            among-le (λ d. W (mark (reply rules r c)) (ask rules r d)) c (filter (λ d. not (is_one d [])) (need rules r)) (among-filter (λ d. not (is_one d [])) c (need rules r) (one_among c (need rules r) is_needed) refl),
            itself (reply rules r c),
          )

      not_unsent : (q : ℕ) (d : CellData) → not (is_one d (at q).asked) ≡ true → mark (reply rules r c) (reply rules q d) ≡ 0
      not_unsent q d e = case (same_message (reply rules r c) (reply rules q d)) refl
        where
          case : (b : Bool) → same_message (reply rules r c) (reply rules q d) ≡ b → cond {A = ℕ} b 1 0 ≡ 0
          case false k = refl
          case true k =
              let p : (eqb r q ≡ true) × (same_cell c d ≡ true) = and_parts (eqb r q) (same_cell c d) (and_parts (eqb (rules.home c) (rules.home d)) (eqb r q && same_cell c d) k).1 in
              absurd (false≢true (sym (ap not (ap (λ t. is_one d (at t).asked) (sym (eqb-true r q p.0)) ∙ ap (λ t. is_one t (at r).asked) (sym ((same_cell-exact c d).0 p.1)) ∙ was_asked)) ∙ e))

      each-kept : (t : CellData → Bool) (ds : List CellData) → AllByRecursion (λ d. t d ≡ true) (filter t ds)
      each-kept t [] = tt
      each-kept t (d ∷ ds) = one (t d) refl (each-kept t ds)
        where
          one : (b : Bool) → t d ≡ b → AllByRecursion (λ d. t d ≡ true) (filter t ds) → AllByRecursion (λ d. t d ≡ true) (cond b (d ∷ filter t ds) (filter t ds))
          one true e rest = (e, rest)
          one false e rest = rest

      none_unsent : (q : ℕ) → q < rules.ranks → sum_by (W (mark (reply rules r c))) (unsent rules q (at q)) ≡ 0
      none_unsent q l =
          omega (
            arith,
            unsent_sum rules fair q (at q) (W (mark (reply rules r c))),
            none_kind (reply rules r c) Table (λ a b. refl) q (at q).built,
            none_kind (reply rules r c) Sums (λ a b. refl) q (through rules (at q)),
            none_kind (reply rules r c) Want (λ a b. refl) q (at q).added,
            none_kind (reply rules r c) Parts (λ a b. refl) q (at q).shared,
            sum_by-mapped (W (mark (reply rules r c))) (ask rules q) (filter (λ d. not (is_one d (at q).asked)) (need rules q)),
            zero_each (λ d. not (is_one d (at q).asked) ≡ true) (λ d. W (mark (reply rules r c)) (ask rules q d)) (λ d e. omega (arith, not_unsent q d e)) (filter (λ d. not (is_one d (at q).asked)) (need rules q)) (each-kept (λ d. not (is_one d (at q).asked)) (need rules q)),
          )

      reply_le : (d : CellData) → mark (reply rules r c) (reply rules r d) ≤ cond {A = ℕ} (same_cell c d) 1 0
      reply_le d = case (same_message (reply rules r c) (reply rules r d)) refl
        where
          case : (b : Bool) → same_message (reply rules r c) (reply rules r d) ≡ b → cond {A = ℕ} b 1 0 ≤ cond {A = ℕ} (same_cell c d) 1 0
          case false k = omega arith
          case true k = omega (arith, cond-true {A = ℕ} (same_cell c d) 1 0 (and_parts (eqb r r) (same_cell c d) (and_parts (eqb (rules.home c) (rules.home d)) (eqb r r && same_cell c d) k).1).1)

      other_kind : (x : Message) → (x.kind ≡ Reply → ⊥) → mark (reply rules r c) x ≡ 0
      other_kind x n = case x.kind refl
        where
          at_kind : (k : Kind) → (k ≡ Reply → ⊥) → cond {A = ℕ} (eqb 6 (code_of k) && (eqb (rules.home c) x.from && (eqb r x.to && same_cell c x.cell))) 1 0 ≡ 0
          at_kind Table e = refl
          at_kind Sums e = refl
          at_kind Want e = refl
          at_kind Members e = refl
          at_kind Parts e = refl
          at_kind Ask e = refl
          at_kind Reply e = absurd (e refl)

          case : (k : Kind) → x.kind ≡ k → cond {A = ℕ} (eqb 6 (code_of x.kind) && (eqb (rules.home c) x.from && (eqb r x.to && same_cell c x.cell))) 1 0 ≡ 0
          case k e = at_kind x.kind n

      pub is_known : is_one c (at r).replies ≡ true
      is_known = some_often same_cell same_cell-exact c (at r).replies (omega (
        arith,
        has_come (reply rules r c) lt reply_some none_unsent (nothing (W (mark (reply rules r c)))),
        sum_by-append (mark (reply rules r c)) (map (λ d. reply rules r d) (at r).replies) (at r).got,
        sum_by-mapped (mark (reply rules r c)) (λ d. reply rules r d) (at r).replies,
        sum-le (λ d. mark (reply rules r c) (reply rules r d)) (λ d. cond (same_cell c d) 1 0) reply_le (at r).replies,
        zero_each (λ x. (x.to ≡ r) × (x.kind ≡ Reply → ⊥)) (mark (reply rules r c)) (λ x o. other_kind x o.1) (at r).got (h.local r lt).ours,
      ))

    list_empty : (r : ℕ) → r < rules.ranks → (at r).list ≡ []
    list_empty r lt = case (at r).list refl
      where
        known : (L : List Pair) → (at r).list ≡ L → (c : CellData) → is_one c (flat_map cells_of L) ≡ true → knows rules r (at r).replies c ≡ true
        known L e c on = by (eqb (rules.home c) r) refl
          where
            by : (b : Bool) → eqb (rules.home c) r ≡ b → (b || is_one c (at r).replies) ≡ true
            by true k = refl
            by false k = is_known r lt c (ap (λ l. is_one c (flat_map cells_of l)) e ∙ on) k

        case : (L : List Pair) → (at r).list ≡ L → L ≡ []
        case [] e = refl
        case (x ∷ xs) e =
            let off : (knows_both rules r (at r).replies x || list_any (knows_both rules r (at r).replies) xs) ≡ false = sym (ap (list_any (knows_both rules r (at r).replies)) e) ∙ (walk_off r lt).1 in
            absurd (false≢true (sym (or_parts (knows_both rules r (at r).replies x) (list_any (knows_both rules r (at r).replies) xs) off).0 ∙ and_from (knows rules r (at r).replies x.0) (knows rules r (at r).replies x.1)
            (known (x ∷ xs) e x.0 (or_left (same_cell x.0 x.0) (same_cell x.0 x.1 || is_one x.0 (flat_map cells_of xs)) ((same_cell-exact x.0 x.0).1 refl)))
            (known (x ∷ xs) e x.1 (or_right (same_cell x.1 x.0) (same_cell x.1 x.1 || is_one x.1 (flat_map cells_of xs)) (or_left (same_cell x.1 x.1) (is_one x.1 (flat_map cells_of xs)) ((same_cell-exact x.1 x.1).1 refl))))))

    all_through : (r : ℕ) → r < rules.ranks → through rules (at r) ≡ true
    all_through r lt = and_from (at r).walked (is_empty (at r).list) (walk_off r lt).0 (ap is_empty (list_empty r lt))

    -- a kind that each rank has sent has come from all
    come_all : (k : Kind) (first_kind : Kind) → (r : ℕ) → r < rules.ranks → ((q : ℕ) (c : CellData) → mark (message k q r) (reply rules r c) ≡ 0) →
        ((q : ℕ) → q < rules.ranks → eqb q r ≡ false → 0 < sum_by (W (mark (message k q r))) (first rules fair)) →
        ((q p : ℕ) → p < rules.ranks → sum_by (W (mark (message k q r))) (unsent rules p (at p)) ≡ 0) → has_all rules k r (at r) ≡ true
    come_all k f r lt plain some none = all_each (λ q. list_any (same_message (message k q r)) (at r).got) (others rules r) (λ q a.
        let o : (q < rules.ranks) × (eqb q r ≡ false) = others_in q r a in
        in_got (message k q r) (plain q) (has_come (message k q r) lt (some q o.0 o.1) (λ p l. none q p l) (nothing (W (mark (message k q r))))))

    pub all_sums : (r : ℕ) → r < rules.ranks → has_all rules Sums r (at r) ≡ true
    all_sums r lt = come_all Sums Sums r lt (λ q c. refl)
        (λ q l e. first_some (message Sums q r) Sums q r l (other_way q r lt e) (omega (arith, itself (message Sums q r))) (omega (arith, unsent_sum rules fair q blank (W (mark (message Sums q r))))))
        (λ q p l. omega (
          arith,
          unsent_sum rules fair p (at p) (W (mark (message Sums q r))),
          none_sent (message Sums q r) Sums p (through rules (at p)) (all_through p l),
          none_kind (message Sums q r) Table (λ a b. refl) p (at p).built,
          none_kind (message Sums q r) Want (λ a b. refl) p (at p).added,
          none_kind (message Sums q r) Parts (λ a b. refl) p (at p).shared,
          none_asks (message Sums q r) (λ a b. refl) p (filter (λ c. not (is_one c (at p).asked)) (need rules p)),
        ))

    all_added : (r : ℕ) → r < rules.ranks → (at r).added ≡ true
    all_added r lt = not_false (at r).added (and_false (through rules (at r) && has_all rules Sums r (at r)) (not (at r).added) (none_of r lt).2 (and_from (through rules (at r)) (has_all rules Sums r (at r)) (all_through r lt) (all_sums r lt)))

    pub all_members : (r : ℕ) → r < rules.ranks → has_all rules Members r (at r) ≡ true
    all_members r lt = come_all Members Want r lt (λ q c. refl)
        (λ q l e. first_some (message Members q r) Want r q lt (among-filter (λ x. not (eqb x r)) q (range_with_len 0 rules.ranks) (among_range 0 rules.ranks q (omega arith) (omega (arith, l))) (ap not e)) (omega (arith, itself (message Members q r))) (omega (arith, unsent_sum rules fair r blank (W (mark (message Members q r))))))
        (λ q p l. omega (
          arith,
          unsent_sum rules fair p (at p) (W (mark (message Members q r))),
          none_sent (message Members q r) Want p (at p).added (all_added p l),
          none_kind (message Members q r) Table (λ a b. refl) p (at p).built,
          none_kind (message Members q r) Sums (λ a b. refl) p (through rules (at p)),
          none_kind (message Members q r) Parts (λ a b. refl) p (at p).shared,
          none_asks (message Members q r) (λ a b. refl) p (filter (λ c. not (is_one c (at p).asked)) (need rules p)),
        ))

    pub all_shared : (r : ℕ) → r < rules.ranks → (at r).shared ≡ true
    all_shared r lt = not_false (at r).shared (and_false ((at r).added && has_all rules Members r (at r)) (not (at r).shared) (none_of r lt).3 (and_from (at r).added (has_all rules Members r (at r)) (all_added r lt) (all_members r lt)))

    pub all_parts : (r : ℕ) → r < rules.ranks → has_all rules Parts r (at r) ≡ true
    all_parts r lt = come_all Parts Parts r lt (λ q c. refl)
        (λ q l e. first_some (message Parts q r) Parts q r l (other_way q r lt e) (omega (arith, itself (message Parts q r))) (omega (arith, unsent_sum rules fair q blank (W (mark (message Parts q r))))))
        (λ q p l. omega (
          arith,
          unsent_sum rules fair p (at p) (W (mark (message Parts q r))),
          none_sent (message Parts q r) Parts p (at p).shared (all_shared p l),
          none_kind (message Parts q r) Table (λ a b. refl) p (at p).built,
          none_kind (message Parts q r) Sums (λ a b. refl) p (through rules (at p)),
          none_kind (message Parts q r) Want (λ a b. refl) p (at p).added,
          none_asks (message Parts q r) (λ a b. refl) p (filter (λ c. not (is_one c (at p).asked)) (need rules p)),
        ))

    -- every cell that a rank needs has come, so was asked for
    all_known : (r : ℕ) → r < rules.ranks → (c : CellData) → is_one c (need rules r) ≡ true → is_one c (at r).replies ≡ true
    unfolding need
    all_known r lt c n =
        let G : Pair → ℕ = λ y. often same_cell same_cell-exact c (cells_of y) in
        let all : List Pair = flat_map (all_from rules.depth (rules.next r)) (rules.start r) in
        let f : Among c (flat_map cells_of (flat_map (all_from rules.depth (rules.next r)) (rules.start r))) × (not (eqb (rules.home c) r) ≡ true) =
        among-kept (λ d. not (eqb (rules.home d) r)) c (flat_map cells_of (flat_map (all_from rules.depth (rules.next r)) (rules.start r)))
        (one_among c (filter (λ d. not (eqb (rules.home d) r)) (flat_map cells_of (flat_map (all_from rules.depth (rules.next r)) (rules.start r)))) (sym (fair.in_order c (filter (λ d. not (eqb (rules.home d) r)) (flat_map cells_of (flat_map (all_from rules.depth (rules.next r)) (rules.start r))))) ∙ n)) in
        let t : sum_by (λ x. sum_by (λ y. often same_cell same_cell-exact c (cells_of y)) (all_from rules.depth (rules.next r) x)) (todo rules r (at r)) ≡ 0 =
        ap (λ b. sum_by (λ x. sum_by (λ y. often same_cell same_cell-exact c (cells_of y)) (all_from rules.depth (rules.next r) x)) (cond b (at r).list (rules.start r))) (walk_off r lt).0
        ∙ ap (sum_by (λ x. sum_by (λ y. often same_cell same_cell-exact c (cells_of y)) (all_from rules.depth (rules.next r) x))) (list_empty r lt) in
        (h.local r lt).known_done c (some_often same_cell same_cell-exact c (flat_map cells_of (at r).done) (omega (
          arith,
          t,
          (h.local r lt).settled (λ y. often same_cell same_cell-exact c (cells_of y)),
          sum_by-flat_map (λ d. cond (same_cell c d) 1 0) cells_of (at r).done,
          sum_by-flat_map (λ d. cond (same_cell c d) 1 0) cells_of (flat_map (all_from rules.depth (rules.next r)) (rules.start r)),
          sum_by-flat_map (λ y. often same_cell same_cell-exact c (cells_of y)) (all_from rules.depth (rules.next r)) (rules.start r),
          often_some same_cell same_cell-exact c (flat_map cells_of (flat_map (all_from rules.depth (rules.next r)) (rules.start r))) (among_one c (flat_map cells_of (flat_map (all_from rules.depth (rules.next r)) (rules.start r))) f.0),
        ))) (off_not (eqb (rules.home c) r) f.1)
      where
        off_not : (b : Bool) → not b ≡ true → b ≡ false
        off_not true e = absurd (false≢true e)
        off_not false e = refl

    none_open : (r : ℕ) → r < rules.ranks → (g : Message → ℕ) → sum_by g (map (ask rules r) (filter (λ c. not (is_one c (at r).asked)) (need rules r))) ≡ 0
    none_open r lt g = sum_by-mapped g (ask rules r) (filter (λ c. not (is_one c (at r).asked)) (need rules r)) ∙ among-zero (λ c. g (ask rules r c)) (filter (λ c. not (is_one c (at r).asked)) (need rules r)) (λ c a.
        let f : Among c (need rules r) × (not (is_one c (at r).asked) ≡ true) = among-kept (λ d. not (is_one d (at r).asked)) c (need rules r) a in
        absurd (false≢true (sym (ap not ((h.local r lt).answered c (all_known r lt c (among_one c (need rules r) f.0)))) ∙ f.1)))

    gone : (g : Message → ℕ) (k : Kind) (q : ℕ) (b : Bool) → b ≡ true → sum_by g (cond b [] (to_all rules k q)) ≡ 0
    gone g k q b e = ap (λ t. sum_by g (cond t [] (to_all rules k q))) e

    none_left : (g : Message → ℕ) (r : ℕ) → r < rules.ranks → sum_by g (unsent rules r (at r)) ≡ 0
    none_left g r lt = omega (
      arith,
      unsent_sum rules fair r (at r) g,
      gone g Table r (at r).built (none_of r lt).0,
      gone g Sums r (through rules (at r)) (all_through r lt),
      gone g Want r (at r).added (all_added r lt),
      gone g Parts r (at r).shared (all_shared r lt),
      none_open r lt g,
    )

    over-same : {S M : Type 0} (p : Protocol S M) (f g : ℕ → S → ℕ) (i : ℕ) (ss : List S) → ((j : ℕ) → j < length ss → f (i + j) (get_or ss j p.blank) ≡ g (i + j) (get_or ss j p.blank)) → over p f i ss ≡ over p g i ss
    over-same p f g i [] e = refl
    over-same p f g i (s ∷ ss) e =
        let a : f i s ≡ g i s = subst (λ (t : ℕ). f t s ≡ g t s) (let q : i + 0 ≡ i = omega arith in q) (e 0 (omega arith)) in
        omega (arith, a, over-same p f g (i + 1) ss (λ j l. subst (λ (t : ℕ). f t (get_or ss j p.blank) ≡ g t (get_or ss j p.blank)) (let q : i + suc j ≡ i + 1 + j = omega arith in q) (e (suc j) (omega (arith, l)))))

    -- every message, first or answer, has been delivered once: any sum
    pub received_all : (g : Message → ℕ) → over (machine rules) (λ r s. sum_by g (received rules r s)) 0 w.states ≡ sum_by (W g) (first rules fair)
    received_all g =
        omega (
          arith,
          h.every g,
          nothing (W g),
          over-same (machine rules) (share (machine rules) (unsent rules) (received rules) (left rules) (IsSteady rules) (IsGood rules) (first rules fair) g) (λ r s. sum_by g (received rules r s)) 0 w.states
              (λ j l. let lt : j < rules.ranks = omega (arith, l, h.size) in
              subst (λ (t : ℕ). sum_by (W g) (unsent rules t (get_or w.states j blank)) + sum_by g (received rules t (get_or w.states j blank)) ≡ sum_by g (received rules t (get_or w.states j blank))) (sym (zero-add j)) (omega (arith, none_left (W g) j lt))),
        )
