-- The sums that a rank sends are those of the definition.
use Rattle.std.proofs.Common.{◌≡◌, ℕ, zero, suc, ◌+◌, ◌<◌, ◌≤◌, eqb, Bool, true, false, cond, ◌&&◌, ◌||◌, List, [], ◌∷◌, ◌++◌, map, length, sum_by, ℤ, pos, ◌+ℤ◌, refl, ap, sym, ◌∙◌, arith, ◌⊎◌, inl, inr, subst}
use Rattle.std.specs.List.{filter, flat_map, AllByRecursion, range_with_len}
use Rattle.std.specs.List.Sorted.{IsPermutation}
use Rattle.std.proofs.lemmas.Bool.{false≢true, and_parts, cases_lt}
use Rattle.std.proofs.lemmas.Int.{ints}
use Rattle.std.proofs.lemmas.List.{append-nil, map-append}
use Rattle.std.proofs.lemmas.List.Elements.{filter-append}
use Rattle.std.proofs.lemmas.List.Sums.{sum_by-cons}
use Rattle.fixed_point.specs.declared.V3.{V3}
use Rattle.fixed_point.specs.Vectors.{origin, plus}
use Rattle.cell_space.specs.Cells.{CellData, same_cell}
use Rattle.cell_space.proofs.Cells.{same_cell-exact}
use Rattle.nbody_model.specs.Covers.{orient, same_pair}
use Rattle.nbody_model.specs.Evolve.{is_empty}
use Rattle.nbody_model.specs.Force.{pair_force, force_on}
use Rattle.model_laws.proofs.Among.{Among}
use Rattle.model_laws.proofs.Counts.{same_total}
use Rattle.model_laws.proofs.Signed.{total_by}
use Rattle.model_laws.proofs.Sums.{sum_by-flat_map}
use Rattle.model_laws.proofs.Turned.{same_pair-exact}
use Rattle.rank_laws.specs.Contents.{Summed as Sum, part_on, sums_sent, touched}
use Rattle.rank_laws.specs.Homes.{home}
use Rattle.rank_laws.specs.Machine.{Pair, Rank, cells_of, is_one, through, todo}
use Rattle.rank_laws.specs.Whole.{IsInOrder, counted, is_counted, start_of}
use Rattle.rank_laws.proofs.Axes.{on, on_sum, on_each}
use Rattle.rank_laws.proofs.Fairness.{in_order-times}
use Rattle.rank_laws.proofs.Machine.{among_one}
use Rattle.rank_laws.proofs.Order.{ascends}
use Rattle.rank_laws.proofs.Waiting.{often_none, often_some}
use Rattle.rank_walk.specs.declared.ranked.Ranked.{Ranked}
use Rattle.rank_walk.specs.declared.sending.Summed.{Summed}
use Rattle.rank_walk.specs.declared.walker.Walker.{Walker}
use Rattle.rank_walk.specs.Asked.{AreDistinct, IsRanked, cells_at, ranked_at, times}
use Rattle.rank_walk.specs.Seats.{IsPlaced, IsSeat, Seat, rules}
use Rattle.rank_walk.specs.Sent.{IsSending, picks_at, sum_of_place}
use Rattle.rank_walk.specs.Slots.{SlotData, cell_at_place, cells_in, flag_at, sum_at_place, value_at}
use Rattle.rank_walk.specs.Tables.{IsTable}
use Rattle.rank_walk.specs.Walked.{done_to, takes_part}
use Rattle.rank_walk.specs.Walkers.{IsInRun, IsWalker, counted_of, weight_from}
use Rattle.rank_walk.proofs.Afterwards.{one_list, placed}
use Rattle.rank_walk.proofs.Few.{counted_all, counted_weight}
use Rattle.rank_walk.proofs.Growth.{StandsAt, stands_at}
use Rattle.rank_walk.proofs.Unasked.{each_permuted, flag_here, flag_stands}

-- ---- a rank that is through has counted all that it counts

module _ (z : Seat) (s : Rank) (run : IsInRun z s) (e : through (rules z) s ≡ true) where
  none_to_do : (g : Pair → ℕ) → weight_from z g (todo (rules z) z.rank s) ≡ 0
  none_to_do g = by s.walked s.list e
    where
      by : (walked : Bool) (list : List Pair) → (walked && is_empty list) ≡ true → weight_from z g (cond walked list (start_of z.whole z.rank)) ≡ 0
      by true [] h = refl
      by true (x ∷ xs) h = absurd (false≢true h)
      by false list h = absurd (false≢true h)

  done_sum : (h : Pair → ℕ) → sum_by h (counted_of z s) ≡ sum_by h (counted z.whole z.rank)
  done_sum h = omega (
    arith,
    counted_weight z.whole z.rank h s.done,
    run.settled (λ x. cond (is_counted z.whole z.rank x) (h (orient x)) 0),
    none_to_do (λ x. cond (is_counted z.whole z.rank x) (h (orient x)) 0),
    counted_all z.whole z.rank h,
  )

  done_total : (f : Pair → ℤ) → total_by f (counted_of z s) ≡ total_by f (counted z.whole z.rank)
  done_total f = same_total same_pair same_pair-exact f (counted_of z s) (counted z.whole z.rank) (λ x. done_sum (λ y. cond (same_pair y x) 1 0))

  pub done_part : (c : CellData) → done_to z (counted_of z s) c ≡ part_on z.whole z.rank c
  unfolding part_on
  done_part c = on_each (done_to z (counted_of z s) c) (done_to z (counted z.whole z.rank) c) (λ a.
      on_sum a (force_on (pair_force z.whole.gravity z.whole.bodies) c) (counted_of z s)
      ∙ done_total (λ x. on a (force_on (pair_force z.whole.gravity z.whole.bodies) c x))
      ∙ sym (on_sum a (force_on (pair_force z.whole.gravity z.whole.bodies) c) (counted z.whole z.rank)))

  often_part : (c : CellData) (xs : List Pair) → sum_by (λ d. cond {A = ℕ} (same_cell c d) 1 0) (flat_map cells_of xs) ≡ sum_by (λ x. sum_by (λ d. cond {A = ℕ} (same_cell c d) 1 0) (cells_of x)) xs
  often_part c xs = sum_by-flat_map (λ d. cond {A = ℕ} (same_cell c d) 1 0) cells_of xs

  pub done_takes : (c : CellData) → takes_part (counted_of z s) c ≡ takes_part (counted z.whole z.rank) c
  done_takes c = by (takes_part (counted_of z s) c) (takes_part (counted z.whole z.rank) c) refl refl
    where
      same : sum_by (λ d. cond {A = ℕ} (same_cell c d) 1 0) (flat_map cells_of (counted_of z s)) ≡ sum_by (λ d. cond {A = ℕ} (same_cell c d) 1 0) (flat_map cells_of (counted z.whole z.rank))
      same = often_part c (counted_of z s) ∙ done_sum (λ x. sum_by (λ d. cond {A = ℕ} (same_cell c d) 1 0) (cells_of x)) ∙ sym (often_part c (counted z.whole z.rank))

      by : (a b : Bool) → takes_part (counted_of z s) c ≡ a → takes_part (counted z.whole z.rank) c ≡ b → a ≡ b
      by true true p q = refl
      by false false p q = refl
      by true false p q = absurd (omega (arith, same, often_some same_cell same_cell-exact c (flat_map cells_of (counted_of z s)) p, often_none same_cell same_cell-exact c (flat_map cells_of (counted z.whole z.rank)) q))
      by false true p q = absurd (omega (arith, same, often_none same_cell same_cell-exact c (flat_map cells_of (counted_of z s)) p, often_some same_cell same_cell-exact c (flat_map cells_of (counted z.whole z.rank)) q))

-- ---- what stands at a place is what stands at its cell

none_stands : (cs : List CellData) (vs : List V3) (c : CellData) → is_one c cs ≡ false → value_at cs vs c ≡ origin
none_stands [] vs c e = refl
none_stands (d ∷ cs) [] c e = refl
none_stands (d ∷ cs) (v ∷ vs) c e = by (same_cell c d) refl e (λ k. none_stands cs vs c k)
  where
    by : (b : Bool) → same_cell c d ≡ b → (b || is_one c cs) ≡ false → (is_one c cs ≡ false → value_at cs vs c ≡ origin) → plus (cond b v origin) (value_at cs vs c) ≡ origin
    by true p h rest = absurd (false≢true (sym h))
    by false p h rest = ap (plus origin) (rest h)

plus_none : (v : V3) → plus v origin ≡ v
plus_none v =
    let x : v.x +ℤ pos 0 ≡ v.x = omega (arith, ints) in
    let y : v.y +ℤ pos 0 ≡ v.y = omega (arith, ints) in
    let z : v.z +ℤ pos 0 ≡ v.z = omega (arith, ints) in
    λ i. record { x = x i; y = y i; z = z i }

none_plus : (v : V3) → plus origin v ≡ v
none_plus v =
    let x : pos 0 +ℤ v.x ≡ v.x = omega (arith, ints) in
    let y : pos 0 +ℤ v.y ≡ v.y = omega (arith, ints) in
    let z : pos 0 +ℤ v.z ≡ v.z = omega (arith, ints) in
    λ i. record { x = x i; y = y i; z = z i }

value_here : (ss : List SlotData) (vs : List V3) (i : ℕ) → AreDistinct ss → length vs ≡ length ss → i < length ss → value_at (cells_in ss) vs (cell_at_place ss i) ≡ sum_at_place vs i
value_here [] vs i d e h = absurd (omega (arith, h))
value_here (s ∷ ss) [] i d e h = absurd (omega (arith, e))
value_here (s ∷ ss) (v ∷ vs) zero d e h =
    (λ t. plus (cond ((same_cell-exact s.cell s.cell).1 refl t) v origin) (none_stands (cells_in ss) vs s.cell (alone (is_one s.cell (cells_in ss)) refl) t)) ∙ plus_none v
  where
    alone : (b : Bool) → is_one s.cell (cells_in ss) ≡ b → b ≡ false
    alone true k =
        let a : StandsAt ss s.cell = stands_at ss s.cell k in
        let n : suc a.place ≡ 0 = d (suc a.place) 0 (omega (arith, a.low)) h a.cell in
        absurd (omega (arith, n))
    alone false k = refl
value_here (s ∷ ss) (v ∷ vs) (suc i) d e h = by (same_cell (cell_at_place ss i) s.cell) refl (value_here ss vs i (λ j k a b c. less (d (suc j) (suc k) (omega (arith, a)) (omega (arith, b)) c)) (omega (arith, e)) (omega (arith, h)))
  where
    less : {j k : ℕ} → suc j ≡ suc k → j ≡ k
    less {j} {k} e = omega (arith, e)

    by : (b : Bool) → same_cell (cell_at_place ss i) s.cell ≡ b → value_at (cells_in ss) vs (cell_at_place ss i) ≡ sum_at_place vs i → plus (cond b v origin) (value_at (cells_in ss) vs (cell_at_place ss i)) ≡ sum_at_place vs i
    by true k rest = let n : suc i ≡ 0 = d (suc i) 0 h (omega arith) ((same_cell-exact (cell_at_place ss i) s.cell).0 k) in absurd (omega (arith, n))
    by false k rest = none_plus (value_at (cells_in ss) vs (cell_at_place ss i)) ∙ rest

-- ---- the places that are picked

pub picked_low : (ss : List SlotData) (flags : List Bool) (q : ℕ) (n a : ℕ) → a + n ≤ length ss → AllByRecursion (IsRanked ss) (map (ranked_at ss) (filter (picks_at ss flags q) (range_with_len a n)))
picked_low ss flags q zero a h = tt
picked_low ss flags q (suc n) a h = by (picks_at ss flags q a) (picked_low ss flags q n (a + 1) (omega (arith, h)))
  where
    by : (b : Bool) → AllByRecursion (IsRanked ss) (map (ranked_at ss) (filter (picks_at ss flags q) (range_with_len (a + 1) n))) →
        AllByRecursion (IsRanked ss) (map (ranked_at ss) (cond b (a ∷ filter (picks_at ss flags q) (range_with_len (a + 1) n)) (filter (picks_at ss flags q) (range_with_len (a + 1) n))))
    by true rest = (record { low = omega (arith, h); order = refl }, rest)
    by false rest = rest

module _ (z : Seat) (ss : List SlotData) (table : IsTable z ss) (flags : List Bool) (long : length flags ≡ length ss) (q : ℕ) where
  picks : ℕ → Bool
  picks i = picks_at ss flags q i

  -- how often a cell stands at the picked places from a on
  abbrev picked_times : CellData → ℕ → ℕ → ℕ
  picked_times c n a = times c (cells_at ss (map (ranked_at ss) (filter (picks_at ss flags q) (range_with_len a n))))

  times_step : (c : CellData) (n a : ℕ) → picked_times c (suc n) a ≡ cond (picks_at ss flags q a && same_cell c (cell_at_place ss a)) 1 0 + picked_times c n (a + 1)
  times_step c n a = by (picks_at ss flags q a)
    where
      by : (b : Bool) → times c (cells_at ss (map (ranked_at ss) (cond b (a ∷ filter (picks_at ss flags q) (range_with_len (a + 1) n)) (filter (picks_at ss flags q) (range_with_len (a + 1) n))))) ≡ cond (b && same_cell c (cell_at_place ss a)) 1 0 + picked_times c n (a + 1)
      by true = sum_by-cons (λ d. cond {A = ℕ} (same_cell c d) 1 0) (cell_at_place ss a) (cells_at ss (map (ranked_at ss) (filter (picks_at ss flags q) (range_with_len (a + 1) n))))
      by false = omega arith

  none_else : (c : CellData) (i : ℕ) → i < length ss → cell_at_place ss i ≡ c → (n a : ℕ) → a + n ≤ length ss → (i < a) ⊎ (a + n ≤ i) → picked_times c n a ≡ 0
  none_else c i low e zero a h o = refl
  none_else c i low e (suc n) a h o = omega (arith, times_step c n a, none_else c i low e n (a + 1) (omega (arith, h)) (further o), apart (same_cell c (cell_at_place ss a)) refl)
    where
      further : (i < a) ⊎ (a + suc n ≤ i) → (i < a + 1) ⊎ (a + 1 + n ≤ i)
      further (inl u) = inl (omega (arith, u))
      further (inr u) = inr (omega (arith, u))

      other : (i < a) ⊎ (a + suc n ≤ i) → i ≡ a → ⊥
      other (inl u) f = omega (arith, u, f)
      other (inr u) f = omega (arith, u, f)

      apart : (b : Bool) → same_cell c (cell_at_place ss a) ≡ b → ◌≡◌ {A = ℕ} (cond (picks_at ss flags q a && same_cell c (cell_at_place ss a)) 1 0) 0
      apart true p = absurd (other o (table.distinct i a low (omega (arith, h)) (e ∙ (same_cell-exact c (cell_at_place ss a)).0 p)))
      apart false p = off (picks_at ss flags q a) p
        where
          off : (x : Bool) {y : Bool} → y ≡ false → ◌≡◌ {A = ℕ} (cond (x && y) 1 0) 0
          off true e = ap {B = ℕ} (λ b. cond b 1 0) e
          off false e = refl

  one_here : (c : CellData) (i : ℕ) → i < length ss → cell_at_place ss i ≡ c → (n a : ℕ) → a + n ≤ length ss → a ≤ i → i < a + n → picked_times c n a ≡ cond (picks_at ss flags q i) 1 0
  one_here c i low e zero a h u v = absurd (omega (arith, u, v))
  one_here c i low e (suc n) a h u v = by (cases_lt a i) (λ w. one_here c i low e n (a + 1) (omega (arith, h)) (omega (arith, w)) (omega (arith, v)))
    where
      by : (a < i) ⊎ (i ≤ a) → (a < i → picked_times c n (a + 1) ≡ cond (picks_at ss flags q i) 1 0) → picked_times c (suc n) a ≡ cond (picks_at ss flags q i) 1 0
      by (inl w) rest = omega (arith, times_step c n a, rest w, apart (same_cell c (cell_at_place ss a)) refl)
        where
          apart : (b : Bool) → same_cell c (cell_at_place ss a) ≡ b → ◌≡◌ {A = ℕ} (cond (picks_at ss flags q a && same_cell c (cell_at_place ss a)) 1 0) 0
          apart true p = let s : i ≡ a = table.distinct i a low (omega (arith, h)) (e ∙ (same_cell-exact c (cell_at_place ss a)).0 p) in absurd (omega (arith, s, w))
          apart false p = off (picks_at ss flags q a) p
            where
              off : (x : Bool) {y : Bool} → y ≡ false → ◌≡◌ {A = ℕ} (cond (x && y) 1 0) 0
              off true e = ap {B = ℕ} (λ b. cond b 1 0) e
              off false e = refl
      by (inr w) rest =
          let s : i ≡ a = omega (arith, u, w) in
          omega (arith, times_step c n a, none_else c i low e n (a + 1) (omega (arith, h)) (inl (omega (arith, s))), here s)
        where
          on_it : (x : Bool) {y : Bool} → y ≡ true → ◌≡◌ {A = ℕ} (cond (x && y) 1 0) (cond x 1 0)
          on_it true e = ap {B = ℕ} (λ b. cond b 1 0) e
          on_it false e = refl

          here : i ≡ a → ◌≡◌ {A = ℕ} (cond (picks_at ss flags q a && same_cell c (cell_at_place ss a)) 1 0) (cond (picks_at ss flags q i) 1 0)
          here s = on_it (picks_at ss flags q a) ((same_cell-exact c (cell_at_place ss a)).1 (sym e ∙ ap (cell_at_place ss) s)) ∙ ap {B = ℕ} (λ k. cond (picks_at ss flags q k) 1 0) (sym s)

  none_at_all : (c : CellData) → is_one c (cells_in ss) ≡ false → (n a : ℕ) → a + n ≤ length ss → picked_times c n a ≡ 0
  none_at_all c e zero a h = refl
  none_at_all c e (suc n) a h = omega (arith, times_step c n a, none_at_all c e n (a + 1) (omega (arith, h)), apart (same_cell c (cell_at_place ss a)) refl)
    where
      stands : (ss : List SlotData) (a : ℕ) → a < length ss → is_one (cell_at_place ss a) (cells_in ss) ≡ true
      stands [] a h = absurd (omega (arith, h))
      stands (s ∷ ss) zero h = ap (λ b. b || is_one s.cell (cells_in ss)) ((same_cell-exact s.cell s.cell).1 refl)
      stands (s ∷ ss) (suc a) h = ap (λ b. same_cell (cell_at_place ss a) s.cell || b) (stands ss a (omega (arith, h))) ∙ last (same_cell (cell_at_place ss a) s.cell)
        where
          last : (b : Bool) → (b || true) ≡ true
          last true = refl
          last false = refl

      apart : (b : Bool) → same_cell c (cell_at_place ss a) ≡ b → ◌≡◌ {A = ℕ} (cond (picks_at ss flags q a && same_cell c (cell_at_place ss a)) 1 0) 0
      apart true p = absurd (false≢true (sym e ∙ ap (λ d. is_one d (cells_in ss)) ((same_cell-exact c (cell_at_place ss a)).0 p) ∙ stands ss a (omega (arith, h))))
      apart false p = off (picks_at ss flags q a) p
        where
          off : (x : Bool) {y : Bool} → y ≡ false → ◌≡◌ {A = ℕ} (cond (x && y) 1 0) 0
          off true e = ap {B = ℕ} (λ b. cond b 1 0) e
          off false e = refl

  -- a cell is picked once if it took part and has this home
  pub all_picked : (c : CellData) → picked_times c (length ss) 0 ≡ cond (flag_at (cells_in ss) flags c && eqb (home z.whole.keys c) q) 1 0
  all_picked c = by (is_one c (cells_in ss)) refl
    where
      by : (b : Bool) → is_one c (cells_in ss) ≡ b → picked_times c (length ss) 0 ≡ cond (flag_at (cells_in ss) flags c && eqb (home z.whole.keys c) q) 1 0
      by true e =
          let a : StandsAt ss c = stands_at ss c e in
          one_here c a.place a.low a.cell (length ss) 0 (omega arith) (omega arith) (omega (arith, a.low))
          ∙ (λ t. cond {A = ℕ} (sym (flag_here ss flags a.place table.distinct long a.low) t && eqb ((table.each a.place a.low).home t) q) 1 0)
          ∙ ap (λ d. cond {A = ℕ} (flag_at (cells_in ss) flags d && eqb (home z.whole.keys d) q) 1 0) a.cell
      by false e = none_at_all c e (length ss) 0 (omega arith) ∙ sym (ap {B = ℕ} (λ b. cond (b && eqb (home z.whole.keys c) q) 1 0) (unflagged (flag_at (cells_in ss) flags c) refl))
        where
          unflagged : (b : Bool) → flag_at (cells_in ss) flags c ≡ b → b ≡ false
          unflagged true k = absurd (false≢true (sym e ∙ flag_stands (cells_in ss) flags c k))
          unflagged false k = refl

-- ---- all of it

one_kept : (t : CellData → Bool) (c : CellData) (cs : List CellData) → is_one c (filter t cs) ≡ (is_one c cs && t c)
one_kept t c [] = refl
one_kept t c (d ∷ cs) = by (t d) (same_cell c d) refl refl (one_kept t c cs)
  where
    off : (x y : Bool) → y ≡ false → (x && y) ≡ false
    off true y e = e
    off false y e = refl

    bools : (a b : Bool) → b ≡ true → (true || a) ≡ (true && b)
    bools a b e = sym e

    by : (u v : Bool) → t d ≡ u → same_cell c d ≡ v → is_one c (filter t cs) ≡ (is_one c cs && t c) → is_one c (cond u (d ∷ filter t cs) (filter t cs)) ≡ ((same_cell c d || is_one c cs) && t c)
    by true true p q rest = ap (λ b. b || is_one c (filter t cs)) q ∙ bools (is_one c (filter t cs)) (t c) (ap t ((same_cell-exact c d).0 q) ∙ p) ∙ ap (λ b. (b || is_one c cs) && t c) (sym q)
    by true false p q rest = ap (λ b. b || is_one c (filter t cs)) q ∙ rest ∙ ap (λ b. (b || is_one c cs) && t c) (sym q)
    by false true p q rest = rest ∙ off (is_one c cs) (t c) (ap t ((same_cell-exact c d).0 q) ∙ p) ∙ sym (off (same_cell c d || is_one c cs) (t c) (ap t ((same_cell-exact c d).0 q) ∙ p))
    by false false p q rest = rest ∙ ap (λ b. (b || is_one c cs) && t c) (sym q)

module _ (z : Seat) (seat : IsSeat z) (s : Rank) (w : Walker) (h : IsWalker z s w) (e : through (rules z) s ≡ true) (q : ℕ) (out : List Summed) (sending : IsSending w.heard.slots.items w.heard.touched.items w.heard.sums.items q out) where
  abbrev ss : List SlotData
  ss = w.heard.slots.items

  flag_is : (c : CellData) → flag_at (cells_in ss) w.heard.touched.items c ≡ takes_part (counted z.whole z.rank) c
  flag_is c = h.kept.touched c ∙ done_takes z s h.run e c

  touched_times : (c : CellData) → times c (touched z.whole z.rank q) ≡ cond (takes_part (counted z.whole z.rank) c && eqb (home z.whole.keys c) q) 1 0
  unfolding touched
  touched_times c =
      in_order-times z.whole.keys c (filter (λ d. eqb (home z.whole.keys d) q) (flat_map cells_of (counted z.whole z.rank)))
      ∙ ap {B = ℕ} (λ b. cond b 1 0) (one_kept (λ d. eqb (home z.whole.keys d) q) c (flat_map cells_of (counted z.whole z.rank)))

  touched_order : IsInOrder z.whole.keys (touched z.whole z.rank q)
  unfolding touched
  touched_order = ascends z.whole.keys (filter (λ d. eqb (home z.whole.keys d) q) (flat_map cells_of (counted z.whole z.rank)))

  touched_member : (c : CellData) → Among c (touched z.whole z.rank q) → IsPlaced z.whole c
  touched_member c i =
      let n : 0 < times c (touched z.whole z.rank q) = often_some same_cell same_cell-exact c (touched z.whole z.rank q) (among_one c (touched z.whole z.rank q) i) in
      let f : (takes_part (counted z.whole z.rank) c && eqb (home z.whole.keys c) q) ≡ true = positive (takes_part (counted z.whole z.rank) c && eqb (home z.whole.keys c) q) (omega (arith, n, touched_times c)) in
      let a : StandsAt ss c = stands_at ss c (flag_stands (cells_in ss) w.heard.touched.items c (flag_is c ∙ (and_parts (takes_part (counted z.whole z.rank) c) (eqb (home z.whole.keys c) q) f).0)) in
      subst (IsPlaced z.whole) a.cell (placed z ss h.heard.table a.place a.low)
    where
      positive : (b : Bool) → 0 < cond {A = ℕ} b 1 0 → b ≡ true
      positive true l = refl
      positive false l = absurd (omega (arith, l))

  pub cells_are : cells_at ss sending.ranked ≡ touched z.whole z.rank q
  cells_are = one_list z seat ss h.heard.table (map (ranked_at ss) (filter (picks_at ss w.heard.touched.items q) (range_with_len 0 (length ss)))) sending.ranked
      (picked_low ss w.heard.touched.items q (length ss) 0 (omega arith)) sending.permuted sending.up (touched z.whole z.rank q) touched_order touched_member
      (λ c. all_picked z ss h.heard.table w.heard.touched.items h.heard.long_touched q c ∙ ap {B = ℕ} (λ b. cond (b && eqb (home z.whole.keys c) q) 1 0) (flag_is c) ∙ sym (touched_times c))

  all_low : AllByRecursion (IsRanked ss) sending.ranked
  all_low = each_permuted (IsRanked ss) (map (ranked_at ss) (filter (picks_at ss w.heard.touched.items q) (range_with_len 0 (length ss)))) sending.ranked sending.permuted
      (picked_low ss w.heard.touched.items q (length ss) 0 (omega arith))

  -- what stands in a sum, as the definition has it
  abbrev as_sent : Summed → Sum
  as_sent m = record { cell = m.cell; sum = m.sum }

  sums_by : (rs : List Ranked) → AllByRecursion (IsRanked ss) rs → map as_sent (map (λ (r : Ranked). sum_of_place ss w.heard.sums.items r.place) rs) ≡ map (λ c. record { cell = c; sum = part_on z.whole z.rank c }) (cells_at ss rs)
  sums_by [] a = refl
  sums_by (r ∷ rs) a = λ t. record { cell = cell_at_place ss r.place; sum = here t } ∷ sums_by rs a.1 t
    where
      here : sum_at_place w.heard.sums.items r.place ≡ part_on z.whole z.rank (cell_at_place ss r.place)
      here = sym (value_here ss w.heard.sums.items r.place h.heard.table.distinct h.heard.long a.0.low) ∙ h.kept.sums (cell_at_place ss r.place) ∙ done_part z s h.run e (cell_at_place ss r.place)

  pub sums_are : map (λ (m : Summed). record { cell = m.cell; sum = m.sum }) out ≡ sums_sent z.whole z.rank q
  sums_are = ap (map as_sent) sending.sums ∙ sums_by sending.ranked all_low ∙ ap (map (λ c. record { cell = c; sum = part_on z.whole z.rank c })) cells_are

-- ---- as the code tells it

range_more : (a n : ℕ) → range_with_len a (n + 1) ≡ range_with_len a n ++ (a + n) ∷ []
range_more a zero = ap (λ k. k ∷ []) (let s : a ≡ a + 0 = omega arith in s)
range_more a (suc n) =
    ap (range_with_len a) (let s : suc n + 1 ≡ suc (n + 1) = omega arith in s) ∙ ap (λ t. a ∷ t) (range_more (a + 1) n) ∙ ap (λ k. a ∷ (range_with_len (a + 1) n ++ k ∷ [])) (let s : a + 1 + n ≡ a + suc n = omega arith in s)

pub picked_next : (ss : List SlotData) (flags : List Bool) (q i : ℕ) (out new : List Ranked) → out ≡ map (ranked_at ss) (filter (picks_at ss flags q) (range_with_len 0 i)) →
    new ≡ cond (picks_at ss flags q i) (out ++ ranked_at ss i ∷ []) out → new ≡ map (ranked_at ss) (filter (picks_at ss flags q) (range_with_len 0 (i + 1)))
picked_next ss flags q i out new e f =
    f ∙ by (picks_at ss flags q i) refl ∙ ap (map (ranked_at ss)) (sym (filter-append (picks_at ss flags q) (range_with_len 0 i) (i ∷ [])) ∙ ap (filter (picks_at ss flags q)) (sym (range_more 0 i ∙ ap (λ k. range_with_len 0 i ++ k ∷ []) (let s : 0 + i ≡ i = omega arith in s))))
  where
    by : (b : Bool) → picks_at ss flags q i ≡ b → cond (picks_at ss flags q i) (out ++ ranked_at ss i ∷ []) out ≡ map (ranked_at ss) (filter (picks_at ss flags q) (range_with_len 0 i) ++ cond (picks_at ss flags q i) (i ∷ []) [])
    by true p = (λ t. cond (p t) (e t ++ ranked_at ss i ∷ []) (e t)) ∙ sym (map-append (ranked_at ss) (filter (picks_at ss flags q) (range_with_len 0 i)) (i ∷ [])) ∙ ap (λ b. map (ranked_at ss) (filter (picks_at ss flags q) (range_with_len 0 i) ++ cond b (i ∷ []) [])) (sym p)
    by false p = (λ t. cond (p t) (e t ++ ranked_at ss i ∷ []) (e t)) ∙ ap (map (ranked_at ss)) (sym (append-nil (filter (picks_at ss flags q) (range_with_len 0 i)))) ∙ ap (λ b. map (ranked_at ss) (filter (picks_at ss flags q) (range_with_len 0 i) ++ cond b (i ∷ []) [])) (sym p)

pub sorted_low : (ss : List SlotData) (flags : List Bool) (q : ℕ) (out rs ts : List Ranked) → out ≡ map (ranked_at ss) (filter (picks_at ss flags q) (range_with_len 0 (length ss))) → IsPermutation out rs → ts ≡ rs → AllByRecursion (IsRanked ss) ts
sorted_low ss flags q out rs ts e p f = subst (AllByRecursion (IsRanked ss)) (sym f) (each_permuted (IsRanked ss) out rs p (subst (AllByRecursion (IsRanked ss)) (sym e) (picked_low ss flags q (length ss) 0 (omega arith))))

pub sending_by : (xs ts : List SlotData) → ts ≡ xs → (fs gs : List Bool) → gs ≡ fs → (vs us : List V3) → us ≡ vs → (q : ℕ) (out : List Summed) → IsSending ts gs us q out → IsSending xs fs vs q out
sending_by xs ts e fs gs f vs us g q out a = subst (λ t. IsSending t fs vs q out) e (subst (λ t. IsSending ts t vs q out) f (subst (λ t. IsSending ts gs t q out) g a))
