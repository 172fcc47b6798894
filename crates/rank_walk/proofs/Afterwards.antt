-- A rank after a walk.
use Rattle.std.proofs.Common.{◌≡◌, ℕ, ◌+◌, ◌*◌, ◌<◌, ◌≤◌, ◌^◌, eqb, ltb, suc, ℤ, Bool, true, false, cond, ◌&&◌, ◌||◌, not, List, [], ◌∷◌, ◌++◌, map, length, sum_by, get_or, ◌+ℤ◌, refl, ap, sym, ◌∙◌, arith, ◌⊎◌, inl, inr, subst}
use Rattle.std.specs.Prelude.{Option, Some}
use Rattle.std.specs.List.{filter, flat_map, list_any, AllByRecursion}
use Rattle.std.specs.List.Sorted.{IsNonDecreasingBy, IsPermutation}
use Rattle.std.specs.BTreeMap.{BTreeMap, get}
use Rattle.std.specs.Ordering.{nat_cmp}
use Rattle.std.proofs.lemmas.Bool.{false≢true, and_parts, cases_lt, le-ltb, or_left, eq-eqb, eqb-true}
use Rattle.std.proofs.lemmas.List.{map-append, get_or_append_left}
use Rattle.std.proofs.lemmas.List.Elements.{filter-append}
use Rattle.std.proofs.lemmas.List.Concat.{flat_map-append}
use Rattle.std.proofs.lemmas.List.Sorted.{sum_by-IsPermutation, IsPermutation-map}
use Rattle.fixed_point.specs.Vectors.{plus, IsAtMost}
use Rattle.cell_space.specs.Cells.{CellData, root_cell, same_cell}
use Rattle.cell_space.proofs.Cells.{same_cell-exact}
use Rattle.nbody_model.specs.Covers.{orient}
use Rattle.nbody_model.specs.Force.{pair_force, force_on}
use Rattle.model_laws.proofs.Among.{Among, any-append}
use Rattle.model_laws.proofs.Signed.{total_by}
use Rattle.model_laws.proofs.Walk.{filter_sum}
use Rattle.model_laws.proofs.Sums.{sum_by-flat_map, sum_by-zero}
use Rattle.model_laws.proofs.Ranks.{sum_by-on}
use Rattle.rank_laws.specs.Homes.{Keys}
use Rattle.rank_laws.specs.Trees.{worked, waiting}
use Rattle.rank_laws.specs.Machine.{Pair, Rank, cells_of, done_after, is_fresh, is_one, knows, knows_both, list_after, need, todo}
use Rattle.rank_laws.specs.Whole.{IsInOrder, counted_in, depth_of, goes_first, is_counted, next_of}
use Rattle.rank_laws.proofs.Axes.{on, on_sum, on_each, total-append}
use Rattle.rank_laws.proofs.Fairness.{in_order-same, in_order-times, next_falls, rules_fair}
use Rattle.rank_laws.proofs.Machine.{among_one, needed, one_among}
use Rattle.rank_laws.proofs.Order.{ascends, one_order}
use Rattle.rank_laws.proofs.Waiting.{none_known, often_none, often_some, reached_more, some_often}
use Rattle.rank_walk.specs.declared.heard.Heard.{Heard}
use Rattle.rank_walk.specs.declared.places.Places.{Places}
use Rattle.rank_walk.specs.declared.ranked.Ranked.{Ranked}
use Rattle.rank_walk.specs.declared.walker.Walker.{Walker}
use Rattle.rank_walk.specs.Asked.{AreDistinct, IsAskedFor, IsRanked, cells_at, known_cell, noted, on_list, times}
use Rattle.rank_walk.specs.Seats.{IsPlaced, IsSeat, Seat, is_home, order_of, rules, side}
use Rattle.rank_walk.specs.Slots.{SlotData, no_slot, slot_at, cell_at_place, cells_in, cells, flag_at, sum_at_place, value_at}
use Rattle.rank_walk.specs.Tables.{IsIn, IsTable}
use Rattle.rank_walk.specs.Walked.{AreListed, IsWorkedOff, MayWork, all_counted, all_waiting, all_worked, done_to, takes_part}
use Rattle.rank_walk.specs.Walkers.{IsInRun, IsWalker, asks_of, counted_of, walked_on, walked_size}
use Rattle.rank_walk.proofs.Few.{few_counted, settled_then}
use Rattle.rank_walk.proofs.Growth.{StandsAt, heard_same, length_append, stands_at}
use Rattle.rank_walk.proofs.Lists.{at_map, length_map}
use Rattle.rank_walk.proofs.Unasked.{each_permuted, flag_here, flag_stands, known_here}
use Rattle.rank_walk.proofs.Values.{on_plus}

-- ---- what is worked off of a list, and what waits, are the machine's

module _ (z : Seat) (s : Rank) where
  worked_is : (xs : List Pair) → xs ≡ todo (rules z) z.rank s → all_worked (side z s.replies) xs ≡ done_after (rules z) z.rank s
  unfolding all_worked done_after
  worked_is xs e = ap (flat_map (worked depth_of (next_of z.whole z.rank) (knows_both (rules z) z.rank s.replies))) e

  waiting_is : (xs : List Pair) → xs ≡ todo (rules z) z.rank s → all_waiting (side z s.replies) xs ≡ list_after (rules z) z.rank s
  unfolding all_waiting list_after
  waiting_is xs e = ap (flat_map (waiting depth_of (next_of z.whole z.rank) (knows_both (rules z) z.rank s.replies))) e

  none_waits_known : list_any (knows_both (rules z) z.rank s.replies) (list_after (rules z) z.rank s) ≡ false
  unfolding list_after
  none_waits_known = none_known depth_of (next_of z.whole z.rank) (next_falls z.whole z.rank) (knows_both (rules z) z.rank s.replies) (todo (rules z) z.rank s)

counted_more : (z : Seat) (xs ys : List Pair) → counted_in z.whole z.rank (xs ++ ys) ≡ counted_in z.whole z.rank xs ++ counted_in z.whole z.rank ys
counted_more z xs ys = ap (map orient) (filter-append (is_counted z.whole z.rank) xs ys) ∙ map-append orient (filter (is_counted z.whole z.rank) xs) (filter (is_counted z.whole z.rank) ys)

done_both : (z : Seat) (xs ys : List Pair) (c : CellData) → done_to z (xs ++ ys) c ≡ plus (done_to z xs c) (done_to z ys c)
done_both z xs ys c = on_each (done_to z (xs ++ ys) c) (plus (done_to z xs c) (done_to z ys c)) (λ a.
    let f : Pair → ℤ = λ x. on a (force_on (pair_force z.whole.gravity z.whole.bodies) c x) in
    let p : on a (done_to z xs c) ≡ total_by (λ x. on a (force_on (pair_force z.whole.gravity z.whole.bodies) c x)) xs = on_sum a (force_on (pair_force z.whole.gravity z.whole.bodies) c) xs in
    let q : on a (done_to z ys c) ≡ total_by (λ x. on a (force_on (pair_force z.whole.gravity z.whole.bodies) c x)) ys = on_sum a (force_on (pair_force z.whole.gravity z.whole.bodies) c) ys in
    on_sum a (force_on (pair_force z.whole.gravity z.whole.bodies) c) (xs ++ ys) ∙ total-append (λ x. on a (force_on (pair_force z.whole.gravity z.whole.bodies) c x)) xs ys
    ∙ (λ i. sym p i +ℤ sym q i) ∙ sym (on_plus a (done_to z xs c) (done_to z ys c)))

part_both : (xs ys : List Pair) (c : CellData) → takes_part (xs ++ ys) c ≡ (takes_part xs c || takes_part ys c)
part_both xs ys c = ap (is_one c) (flat_map-append cells_of xs ys) ∙ any-append (same_cell c) (flat_map cells_of xs) (flat_map cells_of ys)

pub may_work : (z : Seat) → IsSeat z → (s : Rank) (w : Walker) → IsWalker z s w → MayWork (side z s.replies) w.heard w.list.items w.counted
may_work z seat s w h = record {
  heard = h.heard;
  listed = h.listed;
  small = h.kept.small;
  few = omega (
    arith,
    few_counted z seat s h.run,
    h.kept.counted,
    ap length (counted_more z s.done (done_after (rules z) z.rank s)),
    length_append (counted_in z.whole z.rank s.done) (counted_in z.whole z.rank (done_after (rules z) z.rank s)),
    ap (λ t. length (counted_in z.whole z.rank t)) (worked_is z s (map (cells w.heard.slots.items) w.list.items) h.pairs),
  );
}

-- as the code tells it
pub worked_by : (z : Seat) → IsSeat z → (s : Rank) (w : Walker) → IsWalker z s w → (list : List Places) → list ≡ w.list.items → (k : Heard) (wait : List Places) (n : ℕ) →
    ((replies : List CellData) → MayWork (side z replies) w.heard list w.counted → IsWorkedOff (side z replies) w.heard list w.counted k wait n) → IsWorkedOff (side z s.replies) w.heard w.list.items w.counted k wait n
worked_by z seat s w h list e k wait n f =
    subst (λ t. IsWorkedOff (side z s.replies) w.heard t w.counted k wait n) e (f s.replies (subst (λ t. MayWork (side z s.replies) w.heard t w.counted) (sym e) (may_work z seat s w h)))

pub asked_by : (ss ts : List SlotData) → ts ≡ ss → (xs ys : List Places) → ys ≡ xs → (start asked : List Bool) (before after : BTreeMap ℕ ℕ) (cs : List CellData) → IsAskedFor ts start before ys asked after cs → IsAskedFor ss start before xs asked after cs
asked_by ss ts e xs ys f start asked before after cs a = subst (λ t. IsAskedFor t start before xs asked after cs) e (subst (λ t. IsAskedFor ts start before t asked after cs) f a)

-- ---- what is fresh

-- a cell that stands at a place
pub placed : (z : Seat) (ss : List SlotData) → IsTable z ss → (i : ℕ) → i < length ss → IsPlaced z.whole (cell_at_place ss i)
placed z ss table i low = record { shallow = (table.each i low).shallow; standing = (table.each i low).standing }

-- cells whose numbers differ
module _ (z : Seat) (seat : IsSeat z) where
  first_goes : (l m f g : ℕ) → f < 2 ^ 96 → g < 2 ^ 96 → l * 2 ^ 96 + f ≤ m * 2 ^ 96 + g → (ltb m l || (eqb m l && ltb g f)) ≡ false
  first_goes l m f g h k e = by (cases_lt m l)
    where
      level : l ≤ m → (b : Bool) → eqb m l ≡ b → (b && ltb g f) ≡ false
      level u true q = let s : m ≡ l = eqb-true m l q in le-ltb g f (omega (arith, e, s))
      level u false q = refl

      by : (m < l) ⊎ (l ≤ m) → (ltb m l || (eqb m l && ltb g f)) ≡ false
      by (inl u) = absurd (omega (arith, u, h, k, e))
      by (inr u) = ap (λ b. b || (eqb m l && ltb g f)) (le-ltb m l u) ∙ level u (eqb m l) refl

  pub goes_by_number : (c d : CellData) → IsPlaced z.whole c → IsPlaced z.whole d → order_of z.whole.keys c ≤ order_of z.whole.keys d → goes_first z.whole.keys d c ≡ false
  goes_by_number c d h k e = first_goes c.level d.level (z.whole.keys.first c) (z.whole.keys.first d) (seat.keys c h) (seat.keys d k) e

  pub one_number : (c d : CellData) → IsPlaced z.whole c → IsPlaced z.whole d → order_of z.whole.keys c ≡ order_of z.whole.keys d → c ≡ d
  one_number c d h k e = seat.told c d h k (goes_by_number d c k h (omega (arith, e))) (goes_by_number c d h k (omega (arith, e)))

  module _ (ss : List SlotData) (table : IsTable z ss) where
    number_at : (r : Ranked) → IsRanked ss r → r.order ≡ order_of z.whole.keys (cell_at_place ss r.place)
    number_at r h = h.order ∙ (table.each r.place h.low).order

    in_rank : (rs : List Ranked) → AllByRecursion (IsRanked ss) rs → IsNonDecreasingBy (λ (r : Ranked). r.order) rs → IsInOrder z.whole.keys (cells_at ss rs)
    in_rank [] a up = tt
    in_rank (r ∷ rs) a up = (behind rs a.1 (λ k e l. up 0 (suc k) e (omega arith) (omega (arith, l))), in_rank rs a.1 (λ i j e h l. up (suc i) (suc j) e (omega (arith, h)) (omega (arith, l))))
      where
        behind : (qs : List Ranked) → AllByRecursion (IsRanked ss) qs → ((k : ℕ) (e : Ranked) → k < length qs → r.order ≤ (get_or qs k e).order) → AllByRecursion (λ d. goes_first z.whole.keys d (cell_at_place ss r.place) ≡ false) (cells_at ss qs)
        behind [] b h = tt
        behind (q ∷ qs) b h = (
          goes_by_number (cell_at_place ss r.place) (cell_at_place ss q.place) (placed z ss table r.place a.0.low) (placed z ss table q.place b.0.low) (omega (arith, number_at r a.0, number_at q b.0, h 0 q (omega arith))),
          behind qs b.1 (λ k e l. h (suc k) e (omega (arith, l))),
        )

    has_members : (rs : List Ranked) → AllByRecursion (IsRanked ss) rs → (c : CellData) → Among c (cells_at ss rs) → IsPlaced z.whole c
    has_members [] a c h = absurd h
    has_members (r ∷ rs) a c (inl e) = subst (IsPlaced z.whole) (sym e) (placed z ss table r.place a.0.low)
    has_members (r ∷ rs) a c (inr h) = has_members rs a.1 c h

    -- places put in order are a list in order that has the same cells as often
    pub one_list : (found rs : List Ranked) → AllByRecursion (IsRanked ss) found → IsPermutation found rs → IsNonDecreasingBy (λ (r : Ranked). r.order) rs → (ds : List CellData) → IsInOrder z.whole.keys ds →
        ((c : CellData) → Among c ds → IsPlaced z.whole c) → ((c : CellData) → times c (cells_at ss found) ≡ times c ds) → cells_at ss rs ≡ ds
    one_list found rs each p up ds ordered members same =
        let all : AllByRecursion (IsRanked ss) rs = each_permuted (IsRanked ss) found rs p each in
        one_order z.whole.keys (cells_at ss rs) ds (in_rank rs all up) ordered (λ c d h k. seat.told c d (has_members rs all c h) (members d k))
        (λ c. sum_by-IsPermutation (λ d. cond {A = ℕ} (same_cell c d) 1 0) (cells_at ss found) (cells_at ss rs) (IsPermutation-map (λ (r : Ranked). cell_at_place ss r.place) found rs p) ∙ same c)

each_kept : (P : CellData → Type 0) (t : CellData → Bool) (cs : List CellData) → AllByRecursion P cs → AllByRecursion P (filter t cs)
each_kept P t [] a = tt
each_kept P t (c ∷ cs) a = by (t c) (each_kept P t cs a.1)
  where
    by : (b : Bool) → AllByRecursion P (filter t cs) → AllByRecursion P (cond b (c ∷ filter t cs) (filter t cs))
    by true r = (a.0, r)
    by false r = r

order_kept : (keys : Keys CellData) (t : CellData → Bool) (cs : List CellData) → IsInOrder keys cs → IsInOrder keys (filter t cs)
order_kept keys t [] a = tt
order_kept keys t (c ∷ cs) a = by (t c) (each_kept (λ d. goes_first keys d c ≡ false) t cs a.0) (order_kept keys t cs a.1)
  where
    by : (b : Bool) → AllByRecursion (λ d. goes_first keys d c ≡ false) (filter t cs) → IsInOrder keys (filter t cs) → IsInOrder keys (cond b (c ∷ filter t cs) (filter t cs))
    by true u r = (u, r)
    by false u r = r

filter_among : {X : Type 0} (t : X → Bool) (x : X) (xs : List X) → Among x (filter t xs) → t x ≡ true
filter_among t x [] h = absurd h
filter_among t x (y ∷ ys) h = by (t y) refl (λ k. filter_among t x ys k) h
  where
    by : (b : Bool) → t y ≡ b → (Among x (filter t ys) → t x ≡ true) → Among x (cond b (y ∷ filter t ys) (filter t ys)) → t x ≡ true
    by true u rest (inl k) = ap t k ∙ u
    by true u rest (inr k) = rest k
    by false u rest k = rest k

-- how often a cell passes a test in a list
times_kept : (t : CellData → Bool) (c : CellData) (cs : List CellData) → times c (filter t cs) ≡ cond (t c) (times c cs) 0
times_kept t c cs = filter_sum t (λ d. cond {A = ℕ} (same_cell c d) 1 0) cs ∙ sum_by-on (λ d. cond {A = ℕ} (t d) (cond (same_cell c d) 1 0) 0) (λ d. cond {A = ℕ} (t c) (cond (same_cell c d) 1 0) 0) cs (λ d h. one d (same_cell c d) refl) ∙ all (t c) cs
  where
    one : (d : CellData) (b : Bool) → same_cell c d ≡ b → cond {A = ℕ} (t d) (cond b 1 0) 0 ≡ cond {A = ℕ} (t c) (cond b 1 0) 0
    one d true e = ap (λ x. cond {A = ℕ} (t x) 1 0) (sym ((same_cell-exact c d).0 e))
    one d false e = zero_both (t d) (t c)
      where
        zero_both : (a b : Bool) → ◌≡◌ {A = ℕ} (cond a 0 0) (cond b 0 0)
        zero_both true true = refl
        zero_both true false = refl
        zero_both false true = refl
        zero_both false false = refl

    all : (b : Bool) (cs : List CellData) → sum_by (λ d. cond {A = ℕ} b (cond (same_cell c d) 1 0) 0) cs ≡ cond b (times c cs) 0
    all true cs = refl
    all false cs = sum_by-zero (λ d. 0) (λ d. refl) cs

module _ (z : Seat) (seat : IsSeat z) (s : Rank) (run : IsInRun z s) where
  -- an unknown cell on the list is needed
  on_list_needed : (c : CellData) → is_one c (flat_map cells_of (list_after (rules z) z.rank s)) ≡ true → is_home z c ≡ false → is_one c (need (rules z) z.rank) ≡ true
  on_list_needed c k e =
      let g : Pair → ℕ = λ y. sum_by (λ d. cond {A = ℕ} (same_cell c d) 1 0) (cells_of y) in
      needed (rules z) (rules_fair z.whole seat.whole) z.rank s c (omega (
        arith,
        often_some same_cell same_cell-exact c (flat_map cells_of (list_after (rules z) z.rank s)) k,
        sum_by-flat_map (λ d. cond {A = ℕ} (same_cell c d) 1 0) cells_of (list_after (rules z) z.rank s),
        reached_more depth_of (next_of z.whole z.rank) (next_falls z.whole z.rank) (knows_both (rules z) z.rank s.replies) (λ y. sum_by (λ d. cond {A = ℕ} (same_cell c d) 1 0) (cells_of y)) (list_after (rules z) z.rank s),
        settled_then z seat s run (λ y. sum_by (λ d. cond {A = ℕ} (same_cell c d) 1 0) (cells_of y)),
      )) e

  fresh_needed : (c : CellData) (b : Bool) → is_fresh (rules z) z.rank s c ≡ b → cond {A = ℕ} b (times c (need (rules z) z.rank)) 0 ≡ cond b 1 0
  unfolding need
  fresh_needed c false e = refl
  fresh_needed c true e =
      let on : is_one c (flat_map cells_of (list_after (rules z) z.rank s)) ≡ true = (and_parts (is_one c (flat_map cells_of (list_after (rules z) z.rank s))) (not (knows (rules z) z.rank s.replies c) && not (is_one c s.asked)) e).0 in
      let un : not (knows (rules z) z.rank s.replies c) ≡ true = (and_parts (not (knows (rules z) z.rank s.replies c)) (not (is_one c s.asked)) (and_parts (is_one c (flat_map cells_of (list_after (rules z) z.rank s))) (not (knows (rules z) z.rank s.replies c) && not (is_one c s.asked)) e).1).0 in
      twice c (in_order-times z.whole.keys c _) (on_list_needed c on (away (is_home z c) (is_one c s.replies) un)) (in_order-same z.whole.keys c _)
    where
      away : (a b : Bool) → not (a || b) ≡ true → a ≡ false
      away true b h = absurd (false≢true h)
      away false b h = refl

      twice : (c : CellData) → {n : ℕ} {b : Bool} {m : Bool} → n ≡ cond b 1 0 → m ≡ true → m ≡ b → n ≡ 1
      twice c h k l = h ∙ ap {B = ℕ} (λ b. cond b 1 0) (sym l ∙ k)

  pub fresh_times : (c : CellData) → times c (asks_of z s) ≡ cond (is_fresh (rules z) z.rank s c) 1 0
  fresh_times c = times_kept (is_fresh (rules z) z.rank s) c (need (rules z) z.rank) ∙ fresh_needed c (is_fresh (rules z) z.rank s c) refl

  pub fresh_order : IsInOrder z.whole.keys (asks_of z s)
  unfolding need
  fresh_order = order_kept z.whole.keys (is_fresh (rules z) z.rank s) (need (rules z) z.rank) (ascends z.whole.keys _)

  -- a cell is among the fresh ones if it is fresh
  pub one_fresh : (c : CellData) → is_one c (asks_of z s) ≡ is_fresh (rules z) z.rank s c
  one_fresh c = by (is_one c (asks_of z s)) (is_fresh (rules z) z.rank s c) refl refl
    where
      by : (a b : Bool) → is_one c (asks_of z s) ≡ a → is_fresh (rules z) z.rank s c ≡ b → a ≡ b
      by true true p q = refl
      by false false p q = refl
      by true false p q = sym (sym q ∙ filter_among (is_fresh (rules z) z.rank s) c (need (rules z) z.rank) (one_among c (asks_of z s) p))
      by false true p q = absurd (omega (arith, fresh_times c, ap {B = ℕ} (λ b. cond b 1 0) q, often_none same_cell same_cell-exact c (asks_of z s) p))

-- ---- where the cells stand that were asked for

noted_is : (rs : List Ranked) (o i : ℕ) (p : Option ℕ) → AllByRecursion (λ (r : Ranked). r.order ≡ o → r.place ≡ i) rs → (p ≡ Some i) ⊎ Among o (map (λ (r : Ranked). r.order) rs) → noted rs o p ≡ Some i
noted_is [] o i p a (inl e) = e
noted_is [] o i p a (inr h) = absurd h
noted_is (r ∷ rs) o i p a h = by (eqb r.order o) refl h (λ q k. noted_is rs o i q a.1 k)
  where
    by : (b : Bool) → eqb r.order o ≡ b → (p ≡ Some i) ⊎ Among o (map (λ (r : Ranked). r.order) (r ∷ rs)) → ((q : Option ℕ) → (q ≡ Some i) ⊎ Among o (map (λ (r : Ranked). r.order) rs) → noted rs o q ≡ Some i) → noted rs o (cond b (Some r.place) p) ≡ Some i
    by true e k rest = rest (Some r.place) (inl (ap Some (a.0 (eqb-true r.order o e))))
    by false e (inl k) rest = rest p (inl k)
    by false e (inr (inl k)) rest = absurd (false≢true (sym e ∙ eq-eqb r.order o (sym k)))
    by false e (inr (inr k)) rest = rest p (inr k)

module _ (z : Seat) (seat : IsSeat z) (ss : List SlotData) (table : IsTable z ss) (start asked : List Bool) (before after : BTreeMap ℕ ℕ) (list : List Places) (cs : List CellData) (a : IsAskedFor ss start before list asked after cs)
    (long : length start ≡ length ss) (was : (i : ℕ) → i < length ss → get_or start i false ≡ true → get nat_cmp before (slot_at ss i).order ≡ Some i) where
  all : AllByRecursion (IsRanked ss) a.ranked
  all = each_permuted (IsRanked ss) a.found a.ranked a.permuted a.asking.each

  one_place : (i : ℕ) → i < length ss → (rs : List Ranked) → AllByRecursion (IsRanked ss) rs → AllByRecursion (λ (r : Ranked). r.order ≡ (slot_at ss i).order → r.place ≡ i) rs
  one_place i low [] b = tt
  one_place i low (r ∷ rs) b = (
    λ e. table.distinct r.place i b.0.low low (one_number z seat (cell_at_place ss r.place) (cell_at_place ss i) (placed z ss table r.place b.0.low) (placed z ss table i low) (sym (number_at z seat ss table r b.0) ∙ e ∙ (table.each i low).order)),
    one_place i low rs b.1,
  )

  stands_ranked : (rs : List Ranked) → AllByRecursion (IsRanked ss) rs → (i : ℕ) → i < length ss → Among (cell_at_place ss i) (cells_at ss rs) → Among (slot_at ss i).order (map (λ (r : Ranked). r.order) rs)
  stands_ranked [] b i low h = absurd h
  stands_ranked (r ∷ rs) b i low (inl e) = inl (let s : i ≡ r.place = table.distinct i r.place low b.0.low e in ap (λ k. (slot_at ss k).order) s ∙ sym b.0.order)
  stands_ranked (r ∷ rs) b i low (inr h) = inr (stands_ranked rs b.1 i low h)

  among_times : (c : CellData) (ds : List CellData) → times c ds ≡ 1 → Among c ds
  among_times c ds e = one_among c ds (some_often same_cell same_cell-exact c ds (omega (arith, e)))

  pub found_after : (i : ℕ) → i < length ss → get_or asked i false ≡ true → get nat_cmp after (slot_at ss i).order ≡ Some i
  found_after i low h = a.noted (slot_at ss i).order ∙ noted_is a.ranked (slot_at ss i).order i (get nat_cmp before (slot_at ss i).order) (one_place i low a.ranked all) (by (get_or start i false) refl)
    where
      flag_now : flag_at (cells_in ss) asked (cell_at_place ss i) ≡ true
      flag_now = flag_here ss asked i table.distinct a.asking.long low ∙ h

      new : get_or start i false ≡ false → times (cell_at_place ss i) (cells_at ss a.found) ≡ 1
      new e = a.asking.once (cell_at_place ss i) ∙ (λ t. cond {A = ℕ} (flag_now t && not ((flag_here ss start i table.distinct long low ∙ e) t)) 1 0)

      by : (b : Bool) → get_or start i false ≡ b → (get nat_cmp before (slot_at ss i).order ≡ Some i) ⊎ Among (slot_at ss i).order (map (λ (r : Ranked). r.order) a.ranked)
      by true e = inl (was i low e)
      by false e = inr (stands_ranked a.ranked all i low (among_times (cell_at_place ss i) (cells_at ss a.ranked)
          (sum_by-IsPermutation (λ d. cond {A = ℕ} (same_cell (cell_at_place ss i) d) 1 0) (cells_at ss a.found) (cells_at ss a.ranked) (IsPermutation-map (λ (r : Ranked). cell_at_place ss r.place) a.found a.ranked a.permuted) ∙ new e)))

-- ---- a walk

module _ (z : Seat) (seat : IsSeat z) (s : Rank) (w : Walker) (h : IsWalker z s w) (k : Heard) (wait : List Places) (n : ℕ) (work : IsWorkedOff (side z s.replies) w.heard w.list.items w.counted k wait n) where
  now_waits : map (cells k.slots.items) wait ≡ list_after (rules z) z.rank s
  now_waits = work.waiting ∙ waiting_is z s (map (cells w.heard.slots.items) w.list.items) h.pairs

  now_done : all_counted (side z s.replies) (map (cells w.heard.slots.items) w.list.items) ≡ counted_in z.whole z.rank (done_after (rules z) z.rank s)
  now_done = ap (counted_in z.whole z.rank) (worked_is z s (map (cells w.heard.slots.items) w.list.items) h.pairs)

  now_counted : counted_of z (walked_on z s) ≡ counted_of z s ++ all_counted (side z s.replies) (map (cells w.heard.slots.items) w.list.items)
  now_counted = counted_more z s.done (done_after (rules z) z.rank s) ∙ ap (λ t. counted_of z s ++ t) (sym now_done)

  pub size_is : n ≡ w.counted + walked_size z s
  size_is = work.counted ∙ ap (λ t. w.counted + length t) now_done

  distinct : AreDistinct k.slots.items
  distinct = work.heard.table.distinct

  stays : (j : ℕ) → j < length w.heard.slots.items → cell_at_place k.slots.items j ≡ cell_at_place w.heard.slots.items j
  stays j low = sym (at_map (λ (s : SlotData). s.cell) no_slot k.slots.items j) ∙ ap (λ cs. get_or cs j root_cell) work.grew.is
      ∙ get_or_append_left (cells_in w.heard.slots.items) work.grew.more root_cell j (omega (arith, low, length_map (λ (s : SlotData). s.cell) w.heard.slots.items)) ∙ at_map (λ (s : SlotData). s.cell) no_slot w.heard.slots.items j

  longer : length w.heard.slots.items ≤ length k.slots.items
  longer = omega (arith, ap length work.grew.is, length_append (cells_in w.heard.slots.items) work.grew.more, length_map (λ (s : SlotData). s.cell) w.heard.slots.items, length_map (λ (s : SlotData). s.cell) k.slots.items)

  was_found : (i : ℕ) → i < length k.slots.items → get_or k.asked.items i false ≡ true → get nat_cmp w.places (slot_at k.slots.items i).order ≡ Some i
  was_found i low e =
      let flag : flag_at (cells_in w.heard.slots.items) w.heard.asked.items (cell_at_place k.slots.items i) ≡ true = sym (work.asked (cell_at_place k.slots.items i)) ∙ flag_here k.slots.items k.asked.items i distinct work.heard.long_asked low ∙ e in
      let t : StandsAt w.heard.slots.items (cell_at_place k.slots.items i) = stands_at w.heard.slots.items (cell_at_place k.slots.items i) (flag_stands (cells_in w.heard.slots.items) w.heard.asked.items (cell_at_place k.slots.items i) flag) in
      let same : t.place ≡ i = distinct t.place i (omega (arith, t.low, longer)) low (stays t.place t.low ∙ t.cell) in
      let asked : get_or w.heard.asked.items t.place false ≡ true = sym (flag_here w.heard.slots.items w.heard.asked.items t.place h.heard.table.distinct h.heard.long_asked t.low) ∙ ap (flag_at (cells_in w.heard.slots.items) w.heard.asked.items) t.cell ∙ flag in
      ap (get nat_cmp w.places) ((work.heard.table.each i low).order ∙ ap (order_of z.whole.keys) (sym t.cell) ∙ sym (h.heard.table.each t.place t.low).order) ∙ h.found t.place t.low asked ∙ ap Some same

  module _ (asked : List Bool) (places : BTreeMap ℕ ℕ) (cs : List CellData) (a : IsAskedFor k.slots.items k.asked.items w.places wait asked places cs) where
    -- a cell that stands on the list is known where the rank knows it
    on_known : (c : CellData) → on_list k.slots.items wait c ≡ true → known_cell k.slots.items c ≡ knows (rules z) z.rank s.replies c
    on_known c e =
        let t : StandsAt k.slots.items c = listed_stands wait work.listed.within c e in
        ap (known_cell k.slots.items) (sym t.cell) ∙ known_here k.slots.items t.place distinct t.low ∙ work.heard.knows t.place t.low ∙ ap (knows (rules z) z.rank s.replies) t.cell
      where
        listed_stands : (xs : List Places) → AllByRecursion (IsIn k.slots.items) xs → (c : CellData) → on_list k.slots.items xs c ≡ true → StandsAt k.slots.items c
        listed_stands [] b c e = absurd (false≢true e)
        listed_stands (x ∷ xs) b c e = by (same_cell c (cell_at_place k.slots.items x.a)) (same_cell c (cell_at_place k.slots.items x.b)) refl refl e (λ u. listed_stands xs b.1 c u)
          where
            by : (p q : Bool) → same_cell c (cell_at_place k.slots.items x.a) ≡ p → same_cell c (cell_at_place k.slots.items x.b) ≡ q → (p || (q || on_list k.slots.items xs c)) ≡ true → (on_list k.slots.items xs c ≡ true → StandsAt k.slots.items c) → StandsAt k.slots.items c
            by true q u v f rest = record { place = x.a; low = b.0.first; cell = sym ((same_cell-exact c (cell_at_place k.slots.items x.a)).0 u) }
            by false true u v f rest = record { place = x.b; low = b.0.second; cell = sym ((same_cell-exact c (cell_at_place k.slots.items x.b)).0 v) }
            by false false u v f rest = rest f

    on_is : (c : CellData) → on_list k.slots.items wait c ≡ is_one c (flat_map cells_of (list_after (rules z) z.rank s))
    on_is c = ap (λ t. is_one c (flat_map cells_of t)) now_waits

    asked_is : (c : CellData) → flag_at (cells_in k.slots.items) k.asked.items c ≡ is_one c s.asked
    asked_is c = work.asked c ∙ h.kept.asked c

    new_is : (c : CellData) → (not (known_cell k.slots.items c) && on_list k.slots.items wait c && not (is_one c s.asked)) ≡ is_fresh (rules z) z.rank s c
    new_is c = by (on_list k.slots.items wait c) refl ∙ ap (λ b. b && (not (knows (rules z) z.rank s.replies c) && not (is_one c s.asked))) (on_is c)
      where
        bools : (k o a : Bool) → (not k && true && not a) ≡ (true && (not k && not a))
        bools true o a = refl
        bools false o a = refl

        nothing : (k a : Bool) → (not k && false && not a) ≡ false
        nothing true a = refl
        nothing false true = refl
        nothing false false = refl

        by : (o : Bool) → on_list k.slots.items wait c ≡ o → (not (known_cell k.slots.items c) && on_list k.slots.items wait c && not (is_one c s.asked)) ≡ (on_list k.slots.items wait c && (not (knows (rules z) z.rank s.replies c) && not (is_one c s.asked)))
        by true e = (λ t. not (on_known c e t) && e t && not (is_one c s.asked)) ∙ bools (knows (rules z) z.rank s.replies c) true (is_one c s.asked) ∙ ap (λ b. b && (not (knows (rules z) z.rank s.replies c) && not (is_one c s.asked))) (sym e)
        by false e = ap (λ b. not (known_cell k.slots.items c) && b && not (is_one c s.asked)) e ∙ nothing (known_cell k.slots.items c) (is_one c s.asked) ∙ ap (λ b. b && (not (knows (rules z) z.rank s.replies c) && not (is_one c s.asked))) (sym e)

    found_times : (c : CellData) → times c (cells_at k.slots.items a.found) ≡ times c (asks_of z s)
    found_times c =
        a.asking.once c
        ∙ (λ t. cond {A = ℕ} (a.asking.flags c t && not (flag_at (cells_in k.slots.items) k.asked.items c)) 1 0)
        ∙ (λ t. cond {A = ℕ} ((asked_is c t || (not (known_cell k.slots.items c) && on_list k.slots.items wait c)) && not (asked_is c t)) 1 0)
        ∙ ap (λ b. cond {A = ℕ} b 1 0) (bools (is_one c s.asked) (not (known_cell k.slots.items c)) (on_list k.slots.items wait c) ∙ new_is c)
        ∙ sym (fresh_times z seat s h.run c)
      where
        bools : (a k o : Bool) → ((a || (k && o)) && not a) ≡ (k && o && not a)
        bools true true true = refl
        bools true true false = refl
        bools true false o = refl
        bools false true true = refl
        bools false true false = refl
        bools false false o = refl

    fresh_stands : (c : CellData) → is_one c (asks_of z s) ≡ true → IsPlaced z.whole c
    fresh_stands c e =
        let f : is_fresh (rules z) z.rank s c ≡ true = sym (one_fresh z seat s h.run c) ∙ e in
        let on : on_list k.slots.items wait c ≡ true = on_is c ∙ (and_parts (is_one c (flat_map cells_of (list_after (rules z) z.rank s))) (not (knows (rules z) z.rank s.replies c) && not (is_one c s.asked)) f).0 in
        let flag : flag_at (cells_in k.slots.items) asked c ≡ true = a.asking.flags c ∙ ap (λ b. flag_at (cells_in k.slots.items) k.asked.items c || b) (ap (λ b. not (known_cell k.slots.items c) && b) on) ∙ known_or c f on in
        let t : StandsAt k.slots.items c = stands_at k.slots.items c (flag_stands (cells_in k.slots.items) asked c flag) in
        subst (IsPlaced z.whole) t.cell (placed z k.slots.items work.heard.table t.place t.low)
      where
        known_or : (c : CellData) → is_fresh (rules z) z.rank s c ≡ true → on_list k.slots.items wait c ≡ true → (flag_at (cells_in k.slots.items) k.asked.items c || (not (known_cell k.slots.items c) && true)) ≡ true
        known_or c f on =
            let un : not (knows (rules z) z.rank s.replies c) ≡ true = (and_parts (not (knows (rules z) z.rank s.replies c)) (not (is_one c s.asked)) (and_parts (is_one c (flat_map cells_of (list_after (rules z) z.rank s))) (not (knows (rules z) z.rank s.replies c) && not (is_one c s.asked)) f).1).0 in
            (λ t. flag_at (cells_in k.slots.items) k.asked.items c || (not (on_known c on t) && true)) ∙ (λ t. flag_at (cells_in k.slots.items) k.asked.items c || (un t && true)) ∙ last (flag_at (cells_in k.slots.items) k.asked.items c)
          where
            last : (b : Bool) → (b || (true && true)) ≡ true
            last true = refl
            last false = refl

    pub asks_are : cs ≡ asks_of z s
    asks_are = a.cells ∙ one_list z seat k.slots.items work.heard.table a.found a.ranked a.asking.each a.permuted a.up (asks_of z s) (fresh_order z seat s h.run) (λ c i. fresh_stands c (among_one c (asks_of z s) i)) found_times

    asked_then : (c : CellData) → flag_at (cells_in k.slots.items) asked c ≡ is_one c (s.asked ++ asks_of z s)
    asked_then c =
        a.asking.flags c
        ∙ ap (λ b. b || (not (known_cell k.slots.items c) && on_list k.slots.items wait c)) (asked_is c)
        ∙ bools (is_one c s.asked) (not (known_cell k.slots.items c)) (on_list k.slots.items wait c)
        ∙ ap (λ b. is_one c s.asked || b) (new_is c ∙ sym (one_fresh z seat s h.run c))
        ∙ sym (any-append (same_cell c) s.asked (asks_of z s))
      where
        bools : (a k o : Bool) → (a || (k && o)) ≡ (a || (k && o && not a))
        bools true k o = refl
        bools false true true = refl
        bools false true false = refl
        bools false false o = refl

    now_away : (c : CellData) → is_one c (s.asked ++ asks_of z s) ≡ true → is_home z c ≡ false
    now_away c e = by (is_one c s.asked) (is_home z c) refl refl
      where
        parts : (o a b d : Bool) → (o && (not (a || b) && d)) ≡ true → a ≡ false
        parts true true b d h = absurd (false≢true h)
        parts false true b d h = absurd (false≢true h)
        parts o false b d h = refl

        by : (p q : Bool) → is_one c s.asked ≡ p → is_home z c ≡ q → q ≡ false
        by true q u v = sym v ∙ h.run.away c u
        by false q u v = sym v ∙ parts (is_one c (flat_map cells_of (list_after (rules z) z.rank s))) (is_home z c) (is_one c s.replies) (not (is_one c s.asked))
            (sym (one_fresh z seat s h.run c) ∙ sym (any-append (same_cell c) s.asked (asks_of z s) ∙ ap (λ b. b || is_one c (asks_of z s)) u) ∙ e)

    pub walked_state : (v : Walker) → v.heard.slots.items ≡ k.slots.items → v.heard.sums.items ≡ k.sums.items → v.heard.touched.items ≡ k.touched.items → v.heard.asked.items ≡ asked → v.list.items ≡ wait → v.counted ≡ n → v.places ≡ places → v.walked ≡ true → v.more ≡ false →
        IsWalker z (walked_on z s) v
    walked_state v slots sums touched flags list count index walked more = record {
      heard = heard_same (side z s.replies) k v.heard work.heard slots (ap length sums) (ap length touched) (ap length flags ∙ a.asking.long ∙ sym work.heard.long_asked);
      listed = subst (λ t. AreListed t v.list.items) (sym slots) (subst (AreListed k.slots.items) (sym list) work.listed);
      pairs = (λ t. map (cells (slots t)) (list t)) ∙ now_waits;
      kept = record {
        counted = count ∙ work.counted ∙ (let e : w.counted ≡ length (counted_of z s) = h.kept.counted in ap (λ t. t + length (all_counted (side z s.replies) (map (cells w.heard.slots.items) w.list.items))) e)
            ∙ sym (ap length now_counted ∙ length_append (counted_of z s) (all_counted (side z s.replies) (map (cells w.heard.slots.items) w.list.items)));
        sums = λ c. (λ t. value_at (cells_in (slots t)) (sums t) c) ∙ work.sums c ∙ ap (λ t. plus t (done_to z (all_counted (side z s.replies) (map (cells w.heard.slots.items) w.list.items)) c)) (h.kept.sums c)
            ∙ sym (done_both z (counted_of z s) (all_counted (side z s.replies) (map (cells w.heard.slots.items) w.list.items)) c) ∙ ap (λ t. done_to z t c) (sym now_counted);
        touched = λ c. (λ t. flag_at (cells_in (slots t)) (touched t) c) ∙ work.touched c ∙ ap (λ b. b || takes_part (all_counted (side z s.replies) (map (cells w.heard.slots.items) w.list.items)) c) (h.kept.touched c)
            ∙ sym (part_both (counted_of z s) (all_counted (side z s.replies) (map (cells w.heard.slots.items) w.list.items)) c) ∙ ap (λ t. takes_part t c) (sym now_counted);
        asked = λ c. (λ t. flag_at (cells_in (slots t)) (flags t) c) ∙ asked_then c;
        small = λ i. subst (λ t. IsAtMost (t * 2 ^ 86) (sum_at_place v.heard.sums.items i)) (sym count) (subst (λ t. IsAtMost (n * 2 ^ 86) (sum_at_place t i)) (sym sums) (work.small i));
      };
      run = record {
        settled = settled_then z seat s h.run;
        answered = λ c e. any-append (same_cell c) s.asked (asks_of z s) ∙ or_left (is_one c s.asked) (is_one c (asks_of z s)) (h.run.answered c e);
        away = now_away;
      };
      found = λ i low e. (λ t. get nat_cmp (index t) (slot_at (slots t) i).order)
          ∙ found_after z seat k.slots.items work.heard.table k.asked.items asked w.places places wait cs a work.heard.long_asked was_found i (omega (arith, low, ap length slots)) (sym (ap (λ t. get_or t i false) flags) ∙ e);
      walked = walked;
      more = more ∙ sym (none_waits_known z s);
    }
