-- The rank machine with nodes on demand is a lawful protocol.
use Rattle.std.proofs.Common.{◌≡◌, ℕ, ◌+◌, ◌<◌, Bool, true, false, cond, eqb, ◌&&◌, ◌||◌, not, List, [], ◌∷◌, ◌++◌, map, sum_by, refl, ap, sym, ◌∙◌, arith, ◌⊎◌, inl, inr}
use Rattle.std.specs.List.{flat_map, filter, list_any, AllByRecursion}
use Rattle.std.proofs.lemmas.Bool.{false≢true, and_parts, and_from, or_left, or_right}
use Rattle.std.proofs.lemmas.List.Sums.{sum_by-append}
use Rattle.std.proofs.lemmas.List.Concat.{flat_map-append}
use Rattle.cell_space.specs.Cells.{CellData, same_cell}
use Rattle.model_laws.proofs.Among.{Among, any-append, among-filter}
use Rattle.model_laws.proofs.Sums.{sum_by-flat_map, sum_by-mapped, sum_by-plus}
use Rattle.cell_space.proofs.Cells.{same_cell-exact}
use Rattle.model_laws.proofs.Walk.{filter_sum}
use Rattle.model_laws.proofs.Ranks.{sum_by-on}
use Rattle.nbody_model.specs.Evolve.{is_empty}
use Rattle.rank_laws.specs.Trees.{all_from, worked, next_known}
use Rattle.rank_laws.specs.Machine.{Pair, Table, Sums, Want, Members, Parts, Ask, Reply, Message, Rank, Rules, is_one, cells_of, to_all, has_all, ready, need, knows, knows_both, todo, list_after, done_after, is_fresh, fresh, ask, may_walk, through, may_add, may_share, after_walk, Action, chosen, Build, Walk, Add, Share, None, action, is_some, sent, after}
use Rattle.rank_laws.specs.Runs.{IsFair, unsent, received}
use Rattle.rank_laws.proofs.Waiting.{none_known, settled_list, reached_more, often, often_some, some_often, each-trees}

-- the events that a rank can still do of its own, but for deliveries
abbrev pub left : (rules : Rules) → ℕ → Rank → ℕ
left rules r s = cond s.built 0 1 + (cond s.walked 0 1 + (cond s.added 0 1 + (cond s.shared 0 1 + (cond (list_any (knows_both rules r s.replies) s.list) 1 0 + sum_by (λ c. cond (is_one c s.replies) 0 1) (need rules r)))))

pub one_among : (c : CellData) (xs : List CellData) → is_one c xs ≡ true → Among c xs
one_among c [] h = absurd (false≢true h)
one_among c (x ∷ xs) h = case (same_cell c x) refl (λ k. one_among c xs k) h
  where
    case : (b : Bool) → same_cell c x ≡ b → (is_one c xs ≡ true → Among c xs) → (b || is_one c xs) ≡ true → (c ≡ x) ⊎ Among c xs
    case true e rest k = inl ((same_cell-exact c x).0 e)
    case false e rest k = inr (rest k)

pub among_one : (c : CellData) (xs : List CellData) → Among c xs → is_one c xs ≡ true
among_one c [] h = absurd h
among_one c (x ∷ xs) (inl e) = or_left (same_cell c x) (is_one c xs) ((same_cell-exact c x).1 e)
among_one c (x ∷ xs) (inr h) = or_right (same_cell c x) (is_one c xs) (among_one c xs h)

filter_among : {X : Type 0} (t : X → Bool) (x : X) (xs : List X) → Among x (filter t xs) → t x ≡ true
filter_among t x [] h = absurd h
filter_among t x (y ∷ ys) h = case (t y) refl (λ k. filter_among t x ys k) h
  where
    case : (b : Bool) → t y ≡ b → (Among x (filter t ys) → t x ≡ true) → Among x (cond b (y ∷ filter t ys) (filter t ys)) → t x ≡ true
    case true u rest (inl k) = ap t k ∙ u
    case true u rest (inr k) = rest k
    case false u rest k = rest k

-- of a list without repeats, what is not asked parts into what is asked now and what is not asked then
parted_at : (a w f : Bool) (x : ℕ) → (w ≡ true → a ≡ false) → f ≡ w → cond (not a) x 0 ≡ cond w x 0 + cond (not (a || f)) x 0
parted_at true true f x h e = absurd (false≢true (sym (h refl)))
parted_at true false f x h e = refl
parted_at false true true x h e = omega arith
parted_at false true false x h e = absurd (false≢true e)
parted_at false false true x h e = absurd (false≢true (sym e))
parted_at false false false x h e = omega arith

module _ (needed asked : List CellData) (w : CellData → Bool) (free : (c : CellData) → w c ≡ true → is_one c asked ≡ false) where
  in_fresh : (c : CellData) → Among c needed → is_one c (filter w needed) ≡ w c
  in_fresh c h = case (w c) refl
    where
      case : (b : Bool) → w c ≡ b → is_one c (filter w needed) ≡ b
      case true e = among_one c (filter w needed) (among-filter w c needed h e)
      case false e = other (is_one c (filter w needed)) refl
        where
          other : (b : Bool) → is_one c (filter w needed) ≡ b → b ≡ false
          other true k = absurd (false≢true (sym e ∙ filter_among w c needed (one_among c (filter w needed) k)))
          other false k = refl

  parted : (g : CellData → ℕ) → sum_by g (filter (λ c. not (is_one c asked)) needed) ≡ sum_by g (filter w needed) + sum_by g (filter (λ c. not (is_one c (asked ++ filter w needed))) needed)
  parted g =
      omega (
        arith,
        filter_sum (λ c. not (is_one c asked)) g needed,
        filter_sum w g needed,
        filter_sum (λ c. not (is_one c (asked ++ filter w needed))) g needed,
        sum_by-plus (λ c. cond (w c) (g c) 0) (λ c. cond (not (is_one c (asked ++ filter w needed))) (g c) 0) needed,
        sum_by-on (λ c. cond (not (is_one c asked)) (g c) 0) (λ c. cond (w c) (g c) 0 + cond (not (is_one c (asked ++ filter w needed))) (g c) 0) needed
            (λ c h. parted_at (is_one c asked) (w c) (is_one c (filter w needed)) (g c) (free c) (in_fresh c h) ∙ ap (λ b. cond (w c) (g c) 0 + cond (not b) (g c) 0) (sym (any-append (same_cell c) asked (filter w needed)))),
      )

-- a rank's state in a run
pub record IsSteady (rules : Rules) (r : ℕ) (s : Rank) : Type 0 where
  pub settled : (g : Pair → ℕ) → sum_by g s.done + sum_by (λ x. sum_by g (all_from rules.depth (rules.next r) x)) (todo rules r s) ≡ sum_by (λ x. sum_by g (all_from rules.depth (rules.next r) x)) (rules.start r)
  pub listed : (c : CellData) → is_one c (flat_map cells_of s.list) ≡ true → eqb (rules.home c) r ≡ false → is_one c s.asked ≡ true
  pub answered : (c : CellData) → is_one c s.replies ≡ true → is_one c s.asked ≡ true
  pub known_done : (c : CellData) → is_one c (flat_map cells_of s.done) ≡ true → eqb (rules.home c) r ≡ false → is_one c s.replies ≡ true
  pub ours : AllByRecursion (λ m. (m.to ≡ r) × (m.kind ≡ Reply → ⊥)) s.got

-- a message of a run
pub record IsGood (rules : Rules) (m : Message) : Type 0 where
  pub to_in : m.to < rules.ranks
  pub from_in : m.from < rules.ranks
  pub asks : m.kind ≡ Ask → (is_one m.cell (need rules m.from) ≡ true) × (m.to ≡ rules.home m.cell)
  pub replies : m.kind ≡ Reply → (is_one m.cell (need rules m.to) ≡ true) × (m.from ≡ rules.home m.cell)

module _ (rules : Rules) (fair : IsFair rules) where
  module _ (r : ℕ) (s : Rank) where
    -- a cell of a reached pair with another home is needed
    pub needed : (c : CellData) → 0 < sum_by (λ x. sum_by (λ y. often same_cell same_cell-exact c (cells_of y)) (all_from rules.depth (rules.next r) x)) (rules.start r) → eqb (rules.home c) r ≡ false → is_one c (need rules r) ≡ true
    unfolding need
    needed c h e =
        let G : Pair → ℕ = λ y. often same_cell same_cell-exact c (cells_of y) in
        let all : List Pair = flat_map (all_from rules.depth (rules.next r)) (rules.start r) in
        let some : is_one c (flat_map cells_of all) ≡ true = some_often same_cell same_cell-exact c (flat_map cells_of all)
        (omega (arith, h, sum_by-flat_map (λ d. cond (same_cell c d) 1 0) cells_of all, sum_by-flat_map G (all_from rules.depth (rules.next r)) (rules.start r))) in
        fair.in_order c (filter (λ d. not (eqb (rules.home d) r)) (flat_map cells_of all))
        ∙ among_one c (filter (λ d. not (eqb (rules.home d) r)) (flat_map cells_of all)) (among-filter (λ d. not (eqb (rules.home d) r)) c (flat_map cells_of all) (one_among c (flat_map cells_of all) some) (ap not e))

    module _ (h : IsSteady rules r s) where
      settled_after : (g : Pair → ℕ) → sum_by g (s.done ++ done_after rules r s) + sum_by (λ x. sum_by g (all_from rules.depth (rules.next r) x)) (list_after rules r s) ≡ sum_by (λ x. sum_by g (all_from rules.depth (rules.next r) x)) (rules.start r)
      unfolding list_after done_after
      settled_after g = omega (arith, h.settled g, sum_by-append g s.done (flat_map (worked rules.depth (rules.next r) (knows_both rules r s.replies)) (todo rules r s)), settled_list rules.depth (rules.next r) (fair.falls r) (knows_both rules r s.replies) g (todo rules r s))

      on_list_needed : (c : CellData) → is_one c (flat_map cells_of (list_after rules r s)) ≡ true → eqb (rules.home c) r ≡ false → is_one c (need rules r) ≡ true
      on_list_needed c k e =
          let G : Pair → ℕ = λ y. often same_cell same_cell-exact c (cells_of y) in
          needed c (omega (
            arith,
            often_some same_cell same_cell-exact c (flat_map cells_of (list_after rules r s)) k,
            sum_by-flat_map (λ d. cond (same_cell c d) 1 0) cells_of (list_after rules r s),
            reached_more rules.depth (rules.next r) (fair.falls r) (knows_both rules r s.replies) G (list_after rules r s),
            settled_after G,
          )) e

      listed_after : (c : CellData) → is_one c (flat_map cells_of (list_after rules r s)) ≡ true → eqb (rules.home c) r ≡ false → is_one c (s.asked ++ fresh rules r s) ≡ true
      listed_after c k e = any-append (same_cell c) s.asked (fresh rules r s) ∙ case (is_one c s.asked) (is_one c s.replies) refl refl
        where
          is_new : is_one c s.asked ≡ false → is_one c s.replies ≡ false → is_fresh rules r s c ≡ true
          is_new a b = and_from (is_one c (flat_map cells_of (list_after rules r s))) (not (knows rules r s.replies c) && not (is_one c s.asked)) k
              (and_from (not (knows rules r s.replies c)) (not (is_one c s.asked)) (ap (λ t. not (t || is_one c s.replies)) e ∙ ap not b) (ap not a))

          case : (a b : Bool) → is_one c s.asked ≡ a → is_one c s.replies ≡ b → (is_one c s.asked || is_one c (fresh rules r s)) ≡ true
          case true b p q = or_left (is_one c s.asked) (is_one c (fresh rules r s)) p
          case false true p q = absurd (false≢true (sym p ∙ h.answered c q))
          case false false p q = or_right (is_one c s.asked) (is_one c (fresh rules r s)) (among_one c (fresh rules r s) (among-filter (is_fresh rules r s) c (need rules r) (one_among c (need rules r) (on_list_needed c k e)) (is_new p q)))

      each_known : AllByRecursion (λ x. knows_both rules r s.replies x ≡ true) (done_after rules r s)
      unfolding done_after
      each_known = each-trees (λ x. knows_both rules r s.replies x ≡ true) rules.depth (λ y. cond (knows_both rules r s.replies y) (y ∷ []) []) (next_known rules.depth (rules.next r) (knows_both rules r s.replies)) (λ y. one y (knows_both rules r s.replies y) refl) (todo rules r s)
        where
          one : (y : Pair) (b : Bool) → knows_both rules r s.replies y ≡ b → AllByRecursion (λ x. knows_both rules r s.replies x ≡ true) (cond b (y ∷ []) [])
          one y true e = (e, tt)
          one y false e = tt

      known_cell : (c : CellData) (xs : List Pair) → AllByRecursion (λ x. knows_both rules r s.replies x ≡ true) xs → is_one c (flat_map cells_of xs) ≡ true → knows rules r s.replies c ≡ true
      known_cell c [] a e = absurd (false≢true e)
      known_cell c (x ∷ xs) a e =
          let p : (knows rules r s.replies x.0 ≡ true) × (knows rules r s.replies x.1 ≡ true) = and_parts (knows rules r s.replies x.0) (knows rules r s.replies x.1) a.0 in
          case (same_cell c x.0) (same_cell c x.1) refl refl p.0 p.1 (λ k. known_cell c xs a.1 k) e
        where
          case : (u v : Bool) → same_cell c x.0 ≡ u → same_cell c x.1 ≡ v → knows rules r s.replies x.0 ≡ true → knows rules r s.replies x.1 ≡ true → (is_one c (flat_map cells_of xs) ≡ true → knows rules r s.replies c ≡ true) → (u || (v || is_one c (flat_map cells_of xs))) ≡ true → knows rules r s.replies c ≡ true
          case true v p q a b rest k = ap (knows rules r s.replies) ((same_cell-exact c x.0).0 p) ∙ a
          case false true p q a b rest k = ap (knows rules r s.replies) ((same_cell-exact c x.1).0 q) ∙ b
          case false false p q a b rest k = rest k

      known_after : (c : CellData) → is_one c (flat_map cells_of (s.done ++ done_after rules r s)) ≡ true → eqb (rules.home c) r ≡ false → is_one c s.replies ≡ true
      known_after c e away = case (is_one c (flat_map cells_of s.done)) refl (sym (ap (is_one c) (flat_map-append cells_of s.done (done_after rules r s)) ∙ any-append (same_cell c) (flat_map cells_of s.done) (flat_map cells_of (done_after rules r s))) ∙ e)
        where
          case : (b : Bool) → is_one c (flat_map cells_of s.done) ≡ b → (is_one c (flat_map cells_of s.done) || is_one c (flat_map cells_of (done_after rules r s))) ≡ true → is_one c s.replies ≡ true
          case true p k = h.known_done c p away
          case false p k = sym (ap (λ b. b || is_one c s.replies) away) ∙ known_cell c (done_after rules r s) each_known (sym (ap (λ b. b || is_one c (flat_map cells_of (done_after rules r s))) p) ∙ k)

      steady_walk : IsSteady rules r (after_walk rules r s)
      steady_walk = record {
        settled = settled_after;
        listed = listed_after;
        answered = λ c k. any-append (same_cell c) s.asked (fresh rules r s) ∙ or_left (is_one c s.asked) (is_one c (fresh rules r s)) (h.answered c k);
        known_done = known_after;
        ours = h.ours;
      }

      fresh_free : (c : CellData) → is_fresh rules r s c ≡ true → is_one c s.asked ≡ false
      fresh_free c e = case (is_one c s.asked) refl
        where
          case : (b : Bool) → is_one c s.asked ≡ b → b ≡ false
          case true k = absurd (false≢true (sym (ap not k) ∙ (and_parts (not (knows rules r s.replies c)) (not (is_one c s.asked)) (and_parts (is_one c (flat_map cells_of (list_after rules r s))) (not (knows rules r s.replies c) && not (is_one c s.asked)) e).1).1))
          case false k = refl

      none_left : list_any (knows_both rules r s.replies) (list_after rules r s) ≡ false
      unfolding list_after
      none_left = none_known rules.depth (rules.next r) (fair.falls r) (knows_both rules r s.replies) (todo rules r s)

-- ---- one action
chosen-build : (b w a h : Bool) → chosen b w a h ≡ Build → b ≡ false
chosen-build false w a h e = refl
chosen-build true true a h e = cc
chosen-build true false true h e = cc
chosen-build true false false true e = cc
chosen-build true false false false e = cc

pub chosen-walk : (b w a h : Bool) → chosen b w a h ≡ Walk → w ≡ true
chosen-walk false w a h e = cc
chosen-walk true true a h e = refl
chosen-walk true false true h e = cc
chosen-walk true false false true e = cc
chosen-walk true false false false e = cc

pub chosen-add : (b w a h : Bool) → chosen b w a h ≡ Add → a ≡ true
chosen-add false w a h e = cc
chosen-add true true a h e = cc
chosen-add true false true h e = refl
chosen-add true false false true e = cc
chosen-add true false false false e = cc

pub chosen-share : (b w a h : Bool) → chosen b w a h ≡ Share → h ≡ true
chosen-share false w a h e = cc
chosen-share true true a h e = cc
chosen-share true false true h e = cc
chosen-share true false false true e = refl
chosen-share true false false false e = cc

not_true : (b : Bool) → not b ≡ true → b ≡ false
not_true true e = absurd (false≢true e)
not_true false e = refl

either_way : {X : Type 0} (g : X → ℕ) (xs : List X) (b : Bool) → sum_by g xs ≡ sum_by g (cond b xs []) + sum_by g (cond b [] xs)
either_way g xs true = omega arith
either_way g xs false = omega arith

-- a walk is made before the rank is through
not_through : {X : Type 0} (walked : Bool) (known : X → Bool) (list : List X) → (not walked || list_any known list) ≡ true → (walked && is_empty list) ≡ false
not_through false known list e = refl
not_through true known [] e = absurd (false≢true e)
not_through true known (x ∷ xs) e = refl

first_walk : (walked any : Bool) → (not walked || any) ≡ true → 0 < cond {A = ℕ} walked 0 1 + cond {A = ℕ} any 1 0
first_walk false any e = omega arith
first_walk true true e = omega arith
first_walk true false e = absurd (false≢true e)

module _ (rules : Rules) (fair : IsFair rules) where
  pub record Done (r : ℕ) (s : Rank) (a : Action) : Type 0 where
    pub kept : (g : Message → ℕ) → sum_by g (unsent rules r s) ≡ sum_by g (sent rules r s a) + sum_by g (unsent rules r (after rules r s a))
    pub got_same : (g : Message → ℕ) → sum_by g (received rules r (after rules r s a)) ≡ sum_by g (received rules r s)
    pub fewer : left rules r (after rules r s a) < left rules r s
    pub local : IsSteady rules r (after rules r s a)

  parts_sum : (g : Message → ℕ) (a b c d e : List Message) → sum_by g (a ++ (b ++ (c ++ (d ++ e)))) ≡ sum_by g a + (sum_by g b + (sum_by g c + (sum_by g d + sum_by g e)))
  parts_sum g a b c d e = omega (arith, sum_by-append g a (b ++ (c ++ (d ++ e))), sum_by-append g b (c ++ (d ++ e)), sum_by-append g c (d ++ e), sum_by-append g d e)

  pub unsent_sum : (r : ℕ) (t : Rank) (g : Message → ℕ) → sum_by g (unsent rules r t) ≡ sum_by g (cond t.built [] (to_all rules Table r)) + (sum_by g (cond (through rules t) [] (to_all rules Sums r)) + (sum_by g (cond t.added [] (to_all rules Want r)) + (sum_by g (cond t.shared [] (to_all rules Parts r)) + sum_by g (map (ask rules r) (filter (λ c. not (is_one c t.asked)) (need rules r))))))
  unsent_sum r t g = parts_sum g (cond t.built [] (to_all rules Table r)) (cond (through rules t) [] (to_all rules Sums r)) (cond t.added [] (to_all rules Want r)) (cond t.shared [] (to_all rules Parts r)) (map (ask rules r) (filter (λ c. not (is_one c t.asked)) (need rules r)))

  module _ (r : ℕ) (s : Rank) (h : IsSteady rules r s) where
    when_off : (g : Message → ℕ) (xs : List Message) (b : Bool) → b ≡ false → sum_by g (cond b [] xs) ≡ sum_by g xs
    when_off g xs b e = ap (λ t. sum_by g (cond t [] xs)) e

    one_off : (b : Bool) → b ≡ false → cond {A = ℕ} b 0 1 ≡ 1
    one_off b e = ap {B = ℕ} (λ t. cond t 0 1) e

    done-build : s.built ≡ false → Done r s Build
    done-build e = record {
      kept = λ g. omega (arith, unsent_sum r s g, unsent_sum r (record s { built = true }) g, when_off g (to_all rules Table r) s.built e);
      got_same = λ g. refl;
      fewer = omega (arith, one_off s.built e);
      local = record { settled = h.settled; listed = h.listed; answered = h.answered; known_done = h.known_done; ours = h.ours };
    }

    done-add : s.added ≡ false → Done r s Add
    done-add e = record {
      kept = λ g. omega (arith, unsent_sum r s g, unsent_sum r (record s { added = true }) g, when_off g (to_all rules Want r) s.added e);
      got_same = λ g. refl;
      fewer = omega (arith, one_off s.added e);
      local = record { settled = h.settled; listed = h.listed; answered = h.answered; known_done = h.known_done; ours = h.ours };
    }

    done-share : s.shared ≡ false → Done r s Share
    done-share e = record {
      kept = λ g. omega (arith, unsent_sum r s g, unsent_sum r (record s { shared = true }) g, when_off g (to_all rules Parts r) s.shared e);
      got_same = λ g. refl;
      fewer = omega (arith, one_off s.shared e);
      local = record { settled = h.settled; listed = h.listed; answered = h.answered; known_done = h.known_done; ours = h.ours };
    }

    done-walk : (not s.walked || list_any (knows_both rules r s.replies) s.list) ≡ true → Done r s Walk
    done-walk e = record {
      kept = λ g. omega (
        arith,
        unsent_sum r s g,
        unsent_sum r (after_walk rules r s) g,
        when_off g (to_all rules Sums r) (through rules s) (not_through s.walked (knows_both rules r s.replies) s.list e),
        sum_by-append g (map (ask rules r) (fresh rules r s)) (cond (is_empty (list_after rules r s)) (to_all rules Sums r) []),
        either_way g (to_all rules Sums r) (is_empty (list_after rules r s)),
        parted (need rules r) s.asked (is_fresh rules r s) (fresh_free rules fair r s h) (λ c. g (ask rules r c)),
        sum_by-mapped g (ask rules r) (filter (λ c. not (is_one c s.asked)) (need rules r)),
        sum_by-mapped g (ask rules r) (fresh rules r s),
        sum_by-mapped g (ask rules r) (filter (λ c. not (is_one c (s.asked ++ fresh rules r s))) (need rules r)),
      );
      got_same = λ g. refl;
      fewer = omega (arith, first_walk s.walked (list_any (knows_both rules r s.replies) s.list) e, ap {B = ℕ} (λ t. cond t 1 0) (none_left rules fair r s h));
      local = steady_walk rules fair r s h;
    }

    done_by : (a : Action) → action rules r s ≡ a → is_some a ≡ true → Done r s a
    unfolding action
    done_by Build e i = done-build (chosen-build s.built (may_walk rules r s) (may_add rules r s) (may_share rules r s) e)
    done_by Walk e i = done-walk (and_parts (ready rules r s) (not s.walked || list_any (knows_both rules r s.replies) s.list) (chosen-walk s.built (may_walk rules r s) (may_add rules r s) (may_share rules r s) e)).1
    done_by Add e i = done-add (not_true s.added (and_parts (through rules s && has_all rules Sums r s) (not s.added) (chosen-add s.built (may_walk rules r s) (may_add rules r s) (may_share rules r s) e)).1)
    done_by Share e i = done-share (not_true s.shared (and_parts (s.added && has_all rules Members r s) (not s.shared) (chosen-share s.built (may_walk rules r s) (may_add rules r s) (may_share rules r s) e)).1)
    done_by None e i = absurd (false≢true i)

    pub acted_done : is_some (action rules r s) ≡ true → Done r s (action rules r s)
    acted_done i = done_by (action rules r s) refl i
