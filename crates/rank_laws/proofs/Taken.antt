-- A message that comes to a rank.
use Rattle.std.proofs.Common.{◌≡◌, ℕ, zero, suc, ◌+◌, ◌<◌, ◌≤◌, Bool, true, false, cond, eqb, ◌&&◌, ◌||◌, not, List, [], ◌∷◌, map, sum_by, refl, ap, sym, ◌∙◌, arith}
use Rattle.std.specs.List.{flat_map, filter, list_any, range_with_len}
use Rattle.std.proofs.lemmas.Bool.{false≢true, and_from, cond-true, cond-false, eqb-true, eq-eqb, ne_eqb}
use Rattle.std.proofs.lemmas.List.Sums.{sum_by-cons, sum_by-append}
use Rattle.cell_space.specs.Cells.{CellData, root_cell, same_cell}
use Rattle.model_laws.proofs.Sums.{sum_by-flat_map, sum_by-mapped, sum_by-plus, sum_by-same, sum_by-zero, cond_sum}
use Rattle.cell_space.proofs.Cells.{same_cell-exact}
use Rattle.model_laws.proofs.Among.{among-filter}
use Rattle.model_laws.proofs.Walk.{filter_sum}
use Rattle.rank_laws.specs.Trees.{all_from}
use Rattle.rank_laws.specs.Machine.{blank, Kind, Table, Sums, Want, Members, Parts, Ask, Reply, Message, Rank, Rules, code_of, same_message, message, is_one, cells_of, others, to_all, need, knows_both, ask, kept, machine}
use Rattle.rank_laws.specs.Runs.{unsent, received, IsFair}
use Rattle.rank_laws.proofs.Waiting.{often, often_some}
use Rattle.rank_laws.proofs.Machine.{IsSteady, IsGood, among_one, one_among, unsent_sum, left}
use Rattle.rank_laws.proofs.Protocol.{with_answers}

abbrev pub reply : Rules → ℕ → CellData → Message
reply rules r c = record { kind = Reply; from = rules.home c; to = r; cell = c }

-- a weight that marks one message
abbrev pub mark : Message → Message → ℕ
mark m x = cond (same_message m x) 1 0

pub sum-le : {X : Type 0} (f g : X → ℕ) → ((x : X) → f x ≤ g x) → (xs : List X) → sum_by f xs ≤ sum_by g xs
sum-le f g e [] = omega arith
sum-le f g e (x ∷ xs) = omega (arith, sum_by-cons f x xs, sum_by-cons g x xs, e x, sum-le f g e xs)

pub filter-le : {X : Type 0} (t : X → Bool) (f : X → ℕ) (xs : List X) → sum_by f (filter t xs) ≤ sum_by f xs
filter-le t f xs = omega (arith, filter_sum t f xs, sum-le (λ x. cond (t x) (f x) 0) f (λ x. at (t x) (f x)) xs)
  where
    at : (b : Bool) (n : ℕ) → cond b n 0 ≤ n
    at true n = omega arith
    at false n = omega arith

and_weight : (x y z : Bool) → cond {A = ℕ} (x && (y && z)) 1 0 ≤ cond y (cond z 1 0) 0
and_weight true y z = at y z
  where
    at : (y z : Bool) → cond {A = ℕ} (y && z) 1 0 ≤ cond y (cond z 1 0) 0
    at true z = omega arith
    at false z = omega arith
and_weight false y z = omega arith

and_first : (x y z : Bool) → cond {A = ℕ} (x && (y && z)) 1 0 ≤ cond x (cond y 1 0) 0
and_first true true true = omega arith
and_first true true false = omega arith
and_first true false z = omega arith
and_first false y z = omega arith

and_second : (x y z : Bool) → cond {A = ℕ} (x && (y && z)) 1 0 ≤ cond y (cond x 1 0) 0
and_second true true true = omega arith
and_second true true false = omega arith
and_second true false z = omega arith
and_second false true z = omega arith
and_second false false z = omega arith

and_outer : (x y z : Bool) → cond {A = ℕ} (x && (y && z)) 1 0 ≤ cond x (cond z 1 0) 0
and_outer true true true = omega arith
and_outer true true false = omega arith
and_outer true false true = omega arith
and_outer true false false = omega arith
and_outer false y z = omega arith

range_none : (r f n : ℕ) → r < f → sum_by (λ q. cond {A = ℕ} (eqb r q) 1 0) (range_with_len f n) ≡ 0
range_none r f zero h = refl
range_none r f (suc n) h = let off : eqb r f ≡ false = ne_eqb r f (λ e. omega arith) in omega (arith, sum_by-cons (λ q. cond {A = ℕ} (eqb r q) 1 0) f (range_with_len (f + 1) n), cond-false {A = ℕ} (eqb r f) 1 0 off, range_none r (f + 1) n (omega arith))

range_once : (r f n : ℕ) → sum_by (λ q. cond {A = ℕ} (eqb r q) 1 0) (range_with_len f n) ≤ 1
range_once r f zero = omega arith
range_once r f (suc n) = case (eqb r f) refl (range_once r (f + 1) n)
  where
    case : (b : Bool) → eqb r f ≡ b → sum_by (λ q. cond {A = ℕ} (eqb r q) 1 0) (range_with_len (f + 1) n) ≤ 1 → sum_by (λ q. cond {A = ℕ} (eqb r q) 1 0) (range_with_len f (suc n)) ≤ 1
    case true e k = omega (arith, sum_by-cons (λ q. cond {A = ℕ} (eqb r q) 1 0) f (range_with_len (f + 1) n), cond-true {A = ℕ} (eqb r f) 1 0 e, range_none r (f + 1) n (let s : r ≡ f = eqb-true r f e in omega arith))
    case false e k = omega (arith, sum_by-cons (λ q. cond {A = ℕ} (eqb r q) 1 0) f (range_with_len (f + 1) n), cond-false {A = ℕ} (eqb r f) 1 0 e, k)

module _ (rules : Rules) (fair : IsFair rules) where
  -- all messages of a run that aren't answers
  abbrev pub first : List Message
  first = flat_map (λ q. unsent rules q blank) (range_with_len 0 rules.ranks)

  others_once : (t a : ℕ) → sum_by (λ p. cond {A = ℕ} (eqb t p) 1 0) (others rules a) ≤ 1
  others_once t a = omega (arith, filter-le (λ p. not (eqb p a)) (λ p. cond {A = ℕ} (eqb t p) 1 0) (range_with_len 0 rules.ranks), range_once t 0 rules.ranks)

  cond_le : (b : Bool) (n : ℕ) → n ≤ 1 → cond b n 0 ≤ cond b 1 0
  cond_le true n h = h
  cond_le false n h = omega arith

  -- a message among all those that aren't answers, and their answers
  module _ (m : Message) where
    abbrev W : Message → ℕ
    W x = with_answers (machine rules) (mark m) x

    none_to : (k : Kind) → ((a p : ℕ) → W (message k a p) ≡ 0) → (a : ℕ) → sum_by W (to_all rules k a) ≡ 0
    none_to k e a = sum_by-mapped W (λ p. message k a p) (others rules a) ∙ sum_by-zero (λ p. W (message k a p)) (λ p. e a p) (others rules a)

    none_asked : ((a : ℕ) (d : CellData) → W (ask rules a d) ≡ 0) → (a : ℕ) → sum_by W (map (ask rules a) (filter (λ d. not (is_one d [])) (need rules a))) ≡ 0
    none_asked e a = sum_by-mapped W (ask rules a) (filter (λ d. not (is_one d [])) (need rules a)) ∙ sum_by-zero (λ d. W (ask rules a d)) (λ d. e a d) (filter (λ d. not (is_one d [])) (need rules a))

    one_to : (k : Kind) (s t a : ℕ) → ((p : ℕ) → W (message k a p) ≤ cond (eqb s a) (cond (eqb t p) 1 0) 0) → sum_by W (to_all rules k a) ≤ cond (eqb s a) 1 0
    one_to k s t a e = omega (
      arith,
      sum_by-mapped W (λ p. message k a p) (others rules a),
      sum-le (λ p. W (message k a p)) (λ p. cond (eqb s a) (cond (eqb t p) 1 0) 0) e (others rules a),
      cond_sum (eqb s a) (λ p. cond {A = ℕ} (eqb t p) 1 0) (others rules a),
      cond_le (eqb s a) (sum_by (λ p. cond {A = ℕ} (eqb t p) 1 0) (others rules a)) (others_once t a),
    )

    one_asked : (s a : ℕ) (c : CellData) → ((d : CellData) → W (ask rules a d) ≤ cond (eqb s a) (cond (same_cell c d) 1 0) 0) → sum_by W (map (ask rules a) (filter (λ d. not (is_one d [])) (need rules a))) ≤ cond (eqb s a) 1 0
    unfolding need
    one_asked s a c e =
        omega (
          arith,
          sum_by-mapped W (ask rules a) (filter (λ d. not (is_one d [])) (need rules a)),
          filter-le (λ d. not (is_one d [])) (λ d. W (ask rules a d)) (need rules a),
          sum-le (λ d. W (ask rules a d)) (λ d. cond (eqb s a) (cond (same_cell c d) 1 0) 0) e (need rules a),
          cond_sum (eqb s a) (λ d. cond {A = ℕ} (same_cell c d) 1 0) (need rules a),
          cond_le (eqb s a) (often same_cell same_cell-exact c (need rules a)) (fair.once c (filter (λ c. not (eqb (rules.home c) a)) (flat_map cells_of (flat_map (all_from rules.depth (rules.next a)) (rules.start a))))),
        )

    -- only one rank sends it, or asks for it
    by_one : (s : ℕ) → ((a : ℕ) → sum_by W (unsent rules a blank) ≤ cond (eqb s a) 1 0) → sum_by W first ≤ 1
    by_one s e = omega (
      arith,
      sum_by-flat_map W (λ a. unsent rules a blank) (range_with_len 0 rules.ranks),
      sum-le (λ a. sum_by W (unsent rules a blank)) (λ a. cond (eqb s a) 1 0) e (range_with_len 0 rules.ranks),
      range_once s 0 rules.ranks,
    )

  abbrev it : Kind → ℕ → ℕ → CellData → Message
  it k q r c = record { kind = k; from = q; to = r; cell = c }

  -- each message is there once at most
  pub message_once : (k : Kind) (q r : ℕ) (c : CellData) → sum_by (with_answers (machine rules) (mark (it k q r c))) first ≤ 1
  message_once Table q r c = by_one (it Table q r c) q (λ a. omega (
    arith,
    unsent_sum rules fair a blank (W (it Table q r c)),
    one_to (it Table q r c) Table q r a (λ p. omega (arith, and_first (eqb q a) (eqb r p) (same_cell c root_cell))),
    none_to (it Table q r c) Sums (λ a p. refl) a,
    none_to (it Table q r c) Want (λ a p. refl) a,
    none_to (it Table q r c) Parts (λ a p. refl) a,
    none_asked (it Table q r c) (λ a d. refl) a,
  ))
  message_once Sums q r c = by_one (it Sums q r c) q (λ a. omega (
    arith,
    unsent_sum rules fair a blank (W (it Sums q r c)),
    one_to (it Sums q r c) Sums q r a (λ p. omega (arith, and_first (eqb q a) (eqb r p) (same_cell c root_cell))),
    none_to (it Sums q r c) Table (λ a p. refl) a,
    none_to (it Sums q r c) Want (λ a p. refl) a,
    none_to (it Sums q r c) Parts (λ a p. refl) a,
    none_asked (it Sums q r c) (λ a d. refl) a,
  ))
  message_once Want q r c = by_one (it Want q r c) q (λ a. omega (
    arith,
    unsent_sum rules fair a blank (W (it Want q r c)),
    one_to (it Want q r c) Want q r a (λ p. omega (arith, and_first (eqb q a) (eqb r p) (same_cell c root_cell))),
    none_to (it Want q r c) Table (λ a p. refl) a,
    none_to (it Want q r c) Sums (λ a p. refl) a,
    none_to (it Want q r c) Parts (λ a p. refl) a,
    none_asked (it Want q r c) (λ a d. refl) a,
  ))
  message_once Members q r c = by_one (it Members q r c) r (λ a. omega (
    arith,
    unsent_sum rules fair a blank (W (it Members q r c)),
    one_to (it Members q r c) Want r q a (λ p. omega (arith, and_second (eqb q p) (eqb r a) (same_cell c root_cell))),
    none_to (it Members q r c) Table (λ a p. refl) a,
    none_to (it Members q r c) Sums (λ a p. refl) a,
    none_to (it Members q r c) Parts (λ a p. refl) a,
    none_asked (it Members q r c) (λ a d. refl) a,
  ))
  message_once Parts q r c = by_one (it Parts q r c) q (λ a. omega (
    arith,
    unsent_sum rules fair a blank (W (it Parts q r c)),
    one_to (it Parts q r c) Parts q r a (λ p. omega (arith, and_first (eqb q a) (eqb r p) (same_cell c root_cell))),
    none_to (it Parts q r c) Table (λ a p. refl) a,
    none_to (it Parts q r c) Sums (λ a p. refl) a,
    none_to (it Parts q r c) Want (λ a p. refl) a,
    none_asked (it Parts q r c) (λ a d. refl) a,
  ))
  message_once Ask q r c = by_one (it Ask q r c) q (λ a. omega (
    arith,
    unsent_sum rules fair a blank (W (it Ask q r c)),
    one_asked (it Ask q r c) q a c (λ d. omega (arith, and_outer (eqb q a) (eqb r (rules.home d)) (same_cell c d))),
    none_to (it Ask q r c) Table (λ a p. refl) a,
    none_to (it Ask q r c) Sums (λ a p. refl) a,
    none_to (it Ask q r c) Want (λ a p. refl) a,
    none_to (it Ask q r c) Parts (λ a p. refl) a,
  ))
  message_once Reply q r c = by_one (it Reply q r c) r (λ a. omega (
    arith,
    unsent_sum rules fair a blank (W (it Reply q r c)),
    one_asked (it Reply q r c) r a c (λ d. omega (arith, and_weight (eqb q (rules.home d)) (eqb r a) (same_cell c d))),
    none_to (it Reply q r c) Table (λ a p. refl) a,
    none_to (it Reply q r c) Sums (λ a p. refl) a,
    none_to (it Reply q r c) Want (λ a p. refl) a,
    none_to (it Reply q r c) Parts (λ a p. refl) a,
  ))

  module _ (r : ℕ) (c : CellData) where
    -- each reply is there once at most
    reply_once : sum_by (with_answers (machine rules) (mark (reply rules r c))) first ≤ 1
    reply_once = message_once Reply (rules.home c) r c

    pub same_itself : (m : Message) → same_message m m ≡ true
    same_itself m = and_from (eqb (code_of m.kind) (code_of m.kind)) (eqb m.from m.from && (eqb m.to m.to && same_cell m.cell m.cell)) (eq-eqb (code_of m.kind) (code_of m.kind) refl)
        (and_from (eqb m.from m.from) (eqb m.to m.to && same_cell m.cell m.cell) (eq-eqb m.from m.from refl) (and_from (eqb m.to m.to) (same_cell m.cell m.cell) (eq-eqb m.to m.to refl) ((same_cell-exact m.cell m.cell).1 refl)))

    pub reply_marked : (d : CellData) → cond {A = ℕ} (same_cell c d) 1 0 ≤ mark (reply rules r c) (reply rules r d)
    reply_marked d = case (same_cell c d) refl
      where
        case : (b : Bool) → same_cell c d ≡ b → cond {A = ℕ} b 1 0 ≤ mark (reply rules r c) (reply rules r d)
        case true e = omega (arith, cond-true {A = ℕ} (same_message (reply rules r c) (reply rules r d)) 1 0 (ap (λ t. same_message (reply rules r c) (reply rules r t)) (sym ((same_cell-exact c d).0 e)) ∙ same_itself (reply rules r c)))
        case false e = omega arith

    module _ (s : Rank) (fits : sum_by (with_answers (machine rules) (mark (reply rules r c))) (unsent rules r s) + sum_by (mark (reply rules r c)) (received rules r s) + 1 ≤ sum_by (with_answers (machine rules) (mark (reply rules r c))) first) where
      not_come : is_one c s.replies ≡ false
      not_come = case (is_one c s.replies) refl
        where
          case : (b : Bool) → is_one c s.replies ≡ b → b ≡ false
          case true e = absurd (omega (
            arith,
            fits,
            reply_once,
            sum_by-append (mark (reply rules r c)) (map (λ d. reply rules r d) s.replies) s.got,
            sum_by-mapped (mark (reply rules r c)) (λ d. reply rules r d) s.replies,
            sum-le (λ d. cond (same_cell c d) 1 0) (λ d. mark (reply rules r c) (reply rules r d)) reply_marked s.replies,
            often_some same_cell same_cell-exact c s.replies e,
          ))
          case false e = refl

      was_asked : is_one c (need rules r) ≡ true → is_one c s.asked ≡ true
      was_asked n = case (is_one c s.asked) refl
        where
          case : (b : Bool) → is_one c s.asked ≡ b → b ≡ true
          case true e = refl
          case false e =
              let F : List CellData = filter (λ d. not (is_one d s.asked)) (need rules r) in
              let in_F : is_one c (filter (λ d. not (is_one d s.asked)) (need rules r)) ≡ true = among_one c (filter (λ d. not (is_one d s.asked)) (need rules r)) (among-filter (λ d. not (is_one d s.asked)) c (need rules r) (one_among c (need rules r) n) (ap not e)) in
              absurd (omega (
                arith,
                fits,
                reply_once,
                unsent_sum rules fair r s (with_answers (machine rules) (mark (reply rules r c))),
                sum_by-mapped (with_answers (machine rules) (mark (reply rules r c))) (ask rules r) (filter (λ d. not (is_one d s.asked)) (need rules r)),
                sum-le (λ d. cond (same_cell c d) 1 0) (λ d. with_answers (machine rules) (mark (reply rules r c)) (ask rules r d)) (λ d. omega (arith, reply_marked d)) (filter (λ d. not (is_one d s.asked)) (need rules r)),
                often_some same_cell same_cell-exact c (filter (λ d. not (is_one d s.asked)) (need rules r)) in_F,
              ))

  pub record Took (m : Message) (s : Rank) (k : Kind) : Type 0 where
    pub kept_same : (g : Message → ℕ) → sum_by g (unsent rules m.to (kept rules m s k)) ≡ sum_by g (unsent rules m.to s)
    pub got_more : (g : Message → ℕ) → sum_by g (received rules m.to (kept rules m s k)) ≡ g m + sum_by g (received rules m.to s)
    pub fewer : left rules m.to (kept rules m s k) ≤ left rules m.to s
    pub local : IsSteady rules m.to (kept rules m s k)

  module _ (m : Message) (s : Rank) (good : IsGood rules m) (h : IsSteady rules m.to s) where
    -- every kind but a reply
    pub took_got : (m.kind ≡ Reply → ⊥) → Took m s Table
    took_got other = record {
      kept_same = λ g. refl;
      got_more = λ g. omega (arith, sum_by-append g (map (λ d. reply rules m.to d) s.replies) (m ∷ s.got), sum_by-append g (map (λ d. reply rules m.to d) s.replies) s.got, sum_by-cons g m s.got);
      fewer = omega arith;
      local = record { settled = h.settled; listed = h.listed; answered = h.answered; known_done = h.known_done; ours = ((refl, other), h.ours) };
    }

    flag_le : (b d : Bool) → cond {A = ℕ} b 1 0 ≤ 1 + cond {A = ℕ} d 1 0
    flag_le true d = omega arith
    flag_le false d = omega arith

    is_reply : m.kind ≡ Reply → m ≡ reply rules m.to m.cell
    is_reply e i = record { kind = e i; from = (good.replies e).1 i; to = m.to; cell = m.cell }

    one_less : is_one m.cell s.replies ≡ false → (d : CellData) → cond {A = ℕ} (is_one d s.replies) 0 1 ≡ cond {A = ℕ} (is_one d (m.cell ∷ s.replies)) 0 1 + cond {A = ℕ} (same_cell m.cell d) 1 0
    one_less new d = case (same_cell d m.cell) (same_cell m.cell d) refl refl
      where
        case : (a b : Bool) → same_cell d m.cell ≡ a → same_cell m.cell d ≡ b → cond {A = ℕ} (is_one d s.replies) 0 1 ≡ cond {A = ℕ} (a || is_one d s.replies) 0 1 + cond {A = ℕ} b 1 0
        case true true e f = cond-false {A = ℕ} (is_one d s.replies) 0 1 (ap (λ t. is_one t s.replies) ((same_cell-exact d m.cell).0 e) ∙ new)
        case true false e f = absurd (false≢true (sym f ∙ (same_cell-exact m.cell d).1 (sym ((same_cell-exact d m.cell).0 e))))
        case false true e f = absurd (false≢true (sym e ∙ (same_cell-exact d m.cell).1 (sym ((same_cell-exact m.cell d).0 f))))
        case false false e f = omega arith

    pub took_reply : m.kind ≡ Reply → ((g : Message → ℕ) → sum_by (with_answers (machine rules) g) (unsent rules m.to s) + sum_by g (received rules m.to s) + with_answers (machine rules) g m ≤ sum_by (with_answers (machine rules) g) first) → Took m s Reply
    took_reply e fits =
        let n : is_one m.cell (need rules m.to) ≡ true = (good.replies e).0 in
        let f : sum_by (with_answers (machine rules) (mark (reply rules m.to m.cell))) (unsent rules m.to s) + sum_by (mark (reply rules m.to m.cell)) (received rules m.to s) + 1 ≤ sum_by (with_answers (machine rules) (mark (reply rules m.to m.cell))) first =
        omega (arith, fits (mark (reply rules m.to m.cell)), ap (mark (reply rules m.to m.cell)) (is_reply e), cond-true {A = ℕ} (same_message (reply rules m.to m.cell) (reply rules m.to m.cell)) 1 0 (same_itself m.to m.cell (reply rules m.to m.cell))) in
        let new : is_one m.cell s.replies ≡ false = not_come m.to m.cell s f in
        record {
          kept_same = λ g. refl;
          got_more = λ g. omega (
            arith,
            sum_by-append g (map (λ d. reply rules m.to d) (m.cell ∷ s.replies)) s.got,
            sum_by-append g (map (λ d. reply rules m.to d) s.replies) s.got,
            sum_by-cons g (reply rules m.to m.cell) (map (λ d. reply rules m.to d) s.replies),
            ap g (is_reply e),
          );
          fewer = omega (
            arith,
            flag_le (list_any (knows_both rules m.to (m.cell ∷ s.replies)) s.list) (list_any (knows_both rules m.to s.replies) s.list),
            sum_by-same (λ d. cond {A = ℕ} (is_one d s.replies) 0 1) (λ d. cond {A = ℕ} (is_one d (m.cell ∷ s.replies)) 0 1 + cond {A = ℕ} (same_cell m.cell d) 1 0) (one_less new) (need rules m.to),
            sum_by-plus (λ d. cond {A = ℕ} (is_one d (m.cell ∷ s.replies)) 0 1) (λ d. cond {A = ℕ} (same_cell m.cell d) 1 0) (need rules m.to),
            often_some same_cell same_cell-exact m.cell (need rules m.to) n,
          );
          local = record {
            settled = h.settled;
            listed = h.listed;
            answered = λ d k. answered_by d (same_cell d m.cell) refl k (was_asked m.to m.cell s f n);
            known_done = λ d k away. or_true (same_cell d m.cell) (is_one d s.replies) (h.known_done d k away);
            ours = h.ours;
          };
        }
      where
        or_true : (a b : Bool) → b ≡ true → (a || b) ≡ true
        or_true true b x = refl
        or_true false b x = x

        answered_by : (d : CellData) (b : Bool) → same_cell d m.cell ≡ b → (b || is_one d s.replies) ≡ true → is_one m.cell s.asked ≡ true → is_one d s.asked ≡ true
        answered_by d true e k a = ap (λ t. is_one t s.asked) ((same_cell-exact d m.cell).0 e) ∙ a
        answered_by d false e k a = h.answered d k
