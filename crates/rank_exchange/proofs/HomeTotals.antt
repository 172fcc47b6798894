-- What a home adds up are the totals of its cells.
use Rattle.std.proofs.Common.{◌≡◌, ℕ, ◌+◌, ◌*◌, ◌^◌, ◌≤◌, Bool, true, false, cond, eqb, ◌||◌, List, [], ◌∷◌, ◌++◌, map, sum_by, count_by, length, reverse, refl, ap, ◌∙◌, sym, arith, ℤ, pos, ◌+ℤ◌, unsigned_abs, not, suc}
use Rattle.std.specs.List.{filter, flat_map, list_any, range_with_len, AllByRecursion}
use Rattle.std.specs.List.Sorted.{IsPermutation}
use Rattle.std.proofs.lemmas.Bool.{cond-true, cond-false, eqb-true}
use Rattle.std.proofs.lemmas.List.{map-append}
use Rattle.std.proofs.lemmas.List.Sorted.{IsPermutation-reverse, IsPermutation-trans, IsPermutation-cons, IsPermutation-sym, sum_by-IsPermutation, list_any-IsPermutation}
use Rattle.std.proofs.lemmas.List.Sums.{sum_by-cons, sum_by-append}
use Rattle.fixed_point.specs.declared.V3.{V3}
use Rattle.fixed_point.specs.Vectors.{origin, negative, plus, sum_of, IsAtMost}
use Rattle.cell_space.specs.Cells.{CellData, same_cell}
use Rattle.cell_space.proofs.Cells.{same_cell-exact}
use Rattle.hilbert_keys.specs.Curve.{IsCell}
use Rattle.nbody_model.specs.Covers.{interactions}
use Rattle.nbody_model.specs.Force.{node_total, pair_force, force_on}
use Rattle.nbody_model.specs.Nodes.{positions_of}
use Rattle.nbody_model.specs.Bodies.{BodyData}
use Rattle.fixed_point.proofs.VectorLemmas.{abs_negative}
use Rattle.model_laws.specs.Laws.{has_cell}
use Rattle.model_laws.proofs.Bounds.{total_within}
use Rattle.model_laws.proofs.Ranks.{sum_by-le-on}
use Rattle.model_laws.proofs.Among.{Among, Witness, any-witness, any-append, any-flat_map, each-among, among-kept}
use Rattle.model_laws.proofs.Pairs.{all_among}
use Rattle.model_laws.proofs.Partners.{partners_few}
use Rattle.model_laws.proofs.Signed.{total_by, total-filter, total-same}
use Rattle.model_laws.proofs.Sums.{sum_by-flat_map, sum_by-mapped}
use Rattle.model_laws.proofs.Walk.{filter_sum}
use Rattle.rank_laws.specs.Homes.{home}
use Rattle.rank_laws.specs.Machine.{Pair, Sums, cells_of, is_one}
use Rattle.rank_laws.specs.Whole.{Whole, IsWhole, opening, in_order, ranks, ranks_of, rules_of, counted}
use Rattle.rank_laws.specs.Contents.{Summed, sum_at, sums_sent, part_on, touched, wanted}
use Rattle.rank_laws.specs.Kept.{senders, added_up}
use Rattle.rank_laws.proofs.Axes.{Axis, OnX, OnY, OnZ, on, on_each, on_sum, total-append, total-flat_map}
use Rattle.rank_laws.proofs.Collecting.{permuted}
use Rattle.rank_laws.proofs.Counted.{all_counted, sound}
use Rattle.rank_laws.proofs.Fairness.{rules_fair, in_order-same, in_order-times}
use Rattle.rank_laws.proofs.Gathering.{map_on}
use Rattle.rank_laws.proofs.KeptLaws.{adds_totals, has_cells}
use Rattle.rank_laws.proofs.KeptOnce.{keeps_once, number-exact, times_all}
use Rattle.rank_laws.proofs.Machine.{one_among, among_one}
use Rattle.rank_curve_laws.specs.Along.{keys_along}
use Rattle.rank_curve_laws.proofs.Keys.{one_order_of}
use Rattle.rank_exchange.specs.Came.{HasSums, came, home_totals, sums_came}
use Rattle.rank_exchange.specs.Moments.{Moment, state_at, PairsAreSmall}
use Rattle.rank_exchange.specs.Sums.{cells_in, extent, extent_at, totals_of, IsLight}
use Rattle.rank_exchange.proofs.Totals.{total-permuted}

-- ---- sums at a cell, over several lists

abbrev weight : Axis → CellData → Summed → ℤ
weight a c e = cond (same_cell c e.cell) (on a e.sum) (pos 0)

along_at : (a : Axis) (c : CellData) (es : List Summed) → on a (sum_at c es) ≡ total_by (weight a c) es
along_at a c es = on_sum a (λ (e : Summed). e.sum) (filter (λ (e : Summed). same_cell c e.cell) es) ∙ total-filter (λ (e : Summed). same_cell c e.cell) (λ (e : Summed). on a e.sum) es

pub on_plus : (a : Axis) (u v : V3) → on a (plus u v) ≡ on a u +ℤ on a v
on_plus OnX u v = refl
on_plus OnY u v = refl
on_plus OnZ u v = refl

all_came : (a : Axis) (c : CellData) (f : ℕ → List Summed) (qs : List ℕ) → total_by (weight a c) (flat_map f (reverse qs)) ≡ on a (sum_of (λ q. sum_at c (f q)) qs)
all_came a c f qs =
    total-flat_map (weight a c) f (reverse qs)
    ∙ total-permuted (λ q. total_by (weight a c) (f q)) qs (reverse qs) (IsPermutation-reverse qs)
    ∙ total-same (λ q. total_by (weight a c) (f q)) (λ q. on a (sum_at c (f q))) (λ q. sym (along_at a c (f q))) qs
    ∙ sym (on_sum a (λ q. sum_at c (f q)) qs)

-- ---- cells of a home

touched_home : (w : Whole) (q r : ℕ) (c : CellData) → is_one c (touched w q r) ≡ true → home w.keys c ≡ r
unfolding touched
touched_home w q r c e =
    let i : Among c (filter (λ c. eqb (home w.keys c) r) (flat_map cells_of (counted w q))) = one_among c (filter (λ c. eqb (home w.keys c) r) (flat_map cells_of (counted w q))) (sym (in_order-same w.keys c (filter (λ c. eqb (home w.keys c) r) (flat_map cells_of (counted w q)))) ∙ e) in
    eqb-true (home w.keys c) r (among-kept (λ c. eqb (home w.keys c) r) c (flat_map cells_of (counted w q)) i).1

pub wanted_home : (w : Whole) (r : ℕ) (c : CellData) → is_one c (wanted w r) ≡ true → home w.keys c ≡ r
unfolding wanted
wanted_home w r c e =
    let u : list_any (λ q. is_one c (touched w q r)) (ranks w) ≡ true = sym (any-flat_map (same_cell c) (λ q. touched w q r) (ranks w)) ∙ sym (in_order-same w.keys c (flat_map (λ q. touched w q r) (ranks w))) ∙ e in
    let v : Witness (λ q. is_one c (touched w q r)) (ranks w) = any-witness (λ q. is_one c (touched w q r)) (ranks w) u in
    touched_home w v.it r c v.passes

cells_back : (w : Whole) (q r : ℕ) (cs : List CellData) → cells_in (map (λ c. record { cell = c; sum = part_on w q c }) cs) ≡ cs
cells_back w q r [] = refl
cells_back w q r (c ∷ cs) = ap (λ t. c ∷ t) (cells_back w q r cs)

cells_of_all : (f : ℕ → List Summed) (qs : List ℕ) → cells_in (flat_map f qs) ≡ flat_map (λ q. cells_in (f q)) qs
cells_of_all f [] = refl
cells_of_all f (q ∷ qs) = map-append (λ (e : Summed). e.cell) (f q) (flat_map f qs) ∙ ap (λ t. cells_in (f q) ++ t) (cells_of_all f qs)

-- ---- sizes

abbrev size_at : CellData → Summed → ℕ
size_at c e = cond (same_cell c e.cell) (extent e.sum) 0

sizes_at : (c : CellData) (es : List Summed) → extent_at c es ≡ sum_by (size_at c) es
sizes_at c es = filter_sum (λ (e : Summed). same_cell c e.cell) (λ (e : Summed). extent e.sum) es

nowhere : (c : CellData) (g : CellData → ℕ) (cs : List CellData) → sum_by (λ d. cond {A = ℕ} (same_cell c d) 1 0) cs ≡ 0 → sum_by (λ d. cond (same_cell c d) (g d) 0) cs ≡ 0
nowhere c g [] h = refl
nowhere c g (d ∷ cs) h = by (same_cell c d) refl (λ k. nowhere c g cs k)
  where
    by : (b : Bool) → same_cell c d ≡ b → (sum_by (λ d. cond {A = ℕ} (same_cell c d) 1 0) cs ≡ 0 → sum_by (λ d. cond (same_cell c d) (g d) 0) cs ≡ 0) → sum_by (λ d. cond (same_cell c d) (g d) 0) (d ∷ cs) ≡ 0
    by true e rest = absurd (omega (arith, h, sum_by-cons (λ d. cond {A = ℕ} (same_cell c d) 1 0) d cs, cond-true {A = ℕ} (same_cell c d) 1 0 e))
    by false e rest = omega (arith, sum_by-cons (λ d. cond (same_cell c d) (g d) 0) d cs, cond-false {A = ℕ} (same_cell c d) (g d) 0 e, rest (omega (arith, h, sum_by-cons (λ d. cond {A = ℕ} (same_cell c d) 1 0) d cs)))

once_at_most : (c : CellData) (g : CellData → ℕ) (cs : List CellData) → sum_by (λ d. cond {A = ℕ} (same_cell c d) 1 0) cs ≤ 1 → sum_by (λ d. cond (same_cell c d) (g d) 0) cs ≤ g c
once_at_most c g [] h = omega arith
once_at_most c g (d ∷ cs) h = by (same_cell c d) refl (λ k. once_at_most c g cs k)
  where
    by : (b : Bool) → same_cell c d ≡ b → (sum_by (λ d. cond {A = ℕ} (same_cell c d) 1 0) cs ≤ 1 → sum_by (λ d. cond (same_cell c d) (g d) 0) cs ≤ g c) → sum_by (λ d. cond (same_cell c d) (g d) 0) (d ∷ cs) ≤ g c
    by true e rest =
        let none : sum_by (λ d. cond {A = ℕ} (same_cell c d) 1 0) cs ≡ 0 = omega (arith, h, sum_by-cons (λ d. cond {A = ℕ} (same_cell c d) 1 0) d cs, cond-true {A = ℕ} (same_cell c d) 1 0 e) in
        omega (arith, sum_by-cons (λ d. cond (same_cell c d) (g d) 0) d cs, cond-true {A = ℕ} (same_cell c d) (g d) 0 e, ap g ((same_cell-exact c d).0 e), nowhere c g cs none)
    by false e rest = omega (arith, sum_by-cons (λ d. cond (same_cell c d) (g d) 0) d cs, cond-false {A = ℕ} (same_cell c d) (g d) 0 e, rest (omega (arith, h, sum_by-cons (λ d. cond {A = ℕ} (same_cell c d) 1 0) d cs)))

few : (b : Bool) → cond {A = ℕ} b 1 0 ≤ 1
few true = omega arith
few false = omega arith

axis_small : (a : Axis) (v : V3) → unsigned_abs (on a v) ≤ extent v
axis_small OnX v = omega arith
axis_small OnY v = omega arith
axis_small OnZ v = omega arith

pub most_of : (n : ℕ) (v : V3) → ((a : Axis) → unsigned_abs (on a v) ≤ n) → extent v ≤ n
most_of n v h = let x : unsigned_abs v.x ≤ n = h OnX in let y : unsigned_abs v.y ≤ n = h OnY in let z : unsigned_abs v.z ≤ n = h OnZ in omega (arith, x, y, z)

pub extent_sum : {X : Type 0} (f : X → V3) (xs : List X) → extent (sum_of f xs) ≤ sum_by (λ x. extent (f x)) xs
extent_sum f xs = most_of (sum_by (λ x. extent (f x)) xs) (sum_of f xs) (λ a.
    let e : on a (sum_of f xs) ≡ total_by (λ x. on a (f x)) xs = on_sum a f xs in
    let h : unsigned_abs (total_by (λ x. on a (f x)) xs) ≤ sum_by (λ x. extent (f x)) xs = total_within (λ x. on a (f x)) (λ x. extent (f x)) xs (λ x i. axis_small a (f x)) in
    omega (arith, h, ap unsigned_abs e))

-- how much the interactions that a rank counts do to a cell
abbrev done_by : Whole → CellData → ℕ → ℕ
done_by w c q = sum_by (λ x. extent (force_on (pair_force w.gravity w.bodies) c x)) (counted w q)

part_size : (w : Whole) (c : CellData) (q r : ℕ) → sum_by (size_at c) (sums_sent w q r) ≤ done_by w c q
unfolding part_on touched
part_size w c q r =
    let cs : List CellData = in_order w.keys (filter (λ c. eqb (home w.keys c) r) (flat_map cells_of (counted w q))) in
    let once : sum_by (λ d. cond {A = ℕ} (same_cell c d) 1 0) (in_order w.keys (filter (λ c. eqb (home w.keys c) r) (flat_map cells_of (counted w q)))) ≤ 1 = omega (arith, in_order-times w.keys c (filter (λ c. eqb (home w.keys c) r) (flat_map cells_of (counted w q))), few (is_one c (filter (λ c. eqb (home w.keys c) r) (flat_map cells_of (counted w q))))) in
    omega (
      arith,
      sum_by-mapped (size_at c) (λ d. record { cell = d; sum = part_on w q d }) (in_order w.keys (filter (λ c. eqb (home w.keys c) r) (flat_map cells_of (counted w q)))),
      once_at_most c (λ d. extent (part_on w q d)) (in_order w.keys (filter (λ c. eqb (home w.keys c) r) (flat_map cells_of (counted w q)))) once,
      extent_sum (force_on (pair_force w.gravity w.bodies) c) (counted w q),
    )

sizes_flat : (c : CellData) (w : Whole) (r : ℕ) (qs : List ℕ) → sum_by (size_at c) (flat_map (λ q. sums_sent w q r) qs) ≤ sum_by (done_by w c) qs
sizes_flat c w r qs = omega (arith, sum_by-flat_map (size_at c) (λ q. sums_sent w q r) qs, sum_by-le-on (λ q. sum_by (size_at c) (sums_sent w q r)) (done_by w c) qs (λ q i. part_size w c q r))

acts : (f : Pair → V3) (c : CellData) (x : Pair) → extent (f x) ≤ 2 ^ 86 → (a b : Bool) → extent (cond a (f x) (cond b (negative (f x)) origin)) ≤ cond (a || b) (2 ^ 86) 0
acts f c x h true b = h
acts f c x h false true = omega (arith, h, abs_negative (f x).x, abs_negative (f x).y, abs_negative (f x).z)
acts f c x h false false = omega arith

pub counted_times : {X : Type 0} (t : X → Bool) (m : ℕ) (xs : List X) → sum_by (λ x. cond (t x) m 0) xs ≡ count_by t xs * m
counted_times t m [] = omega arith
counted_times t m (x ∷ xs) = by (t x) refl (counted_times t m xs)
  where
    by : (b : Bool) → t x ≡ b → sum_by (λ x. cond (t x) m 0) xs ≡ count_by t xs * m → sum_by (λ x. cond (t x) m 0) (x ∷ xs) ≡ count_by t (x ∷ xs) * m
    by true e rest =
        let c : count_by t (x ∷ xs) ≡ count_by t xs + 1 = omega (arith, sum_by-cons (λ x. cond {A = ℕ} (t x) 1 0) x xs, cond-true {A = ℕ} (t x) 1 0 e) in
        omega (arith, sum_by-cons (λ x. cond (t x) m 0) x xs, cond-true {A = ℕ} (t x) m 0 e, rest, ap (λ n. n * m) c)
    by false e rest =
        let c : count_by t (x ∷ xs) ≡ count_by t xs = omega (arith, sum_by-cons (λ x. cond {A = ℕ} (t x) 1 0) x xs, cond-false {A = ℕ} (t x) 1 0 e) in
        omega (arith, sum_by-cons (λ x. cond (t x) m 0) x xs, cond-false {A = ℕ} (t x) m 0 e, rest, ap (λ n. n * m) c)

long_positions : (B : List BodyData) → length (positions_of B) ≡ length B
long_positions [] = refl
long_positions (b ∷ B) = ap suc (long_positions B)

all_small : (w : Whole) → IsWhole w → PairsAreSmall w → (c : CellData) → sum_by (λ x. extent (force_on (pair_force w.gravity w.bodies) c x)) (interactions (opening w)) ≤ 2 ^ 106
unfolding force_on
all_small w whole small c =
    let le : sum_by (λ x. extent (force_on (pair_force w.gravity w.bodies) c x)) (interactions (opening w)) ≤ sum_by (λ x. cond (has_cell c x) (2 ^ 86) 0) (interactions (opening w)) =
    sum_by-le-on (λ x. extent (force_on (pair_force w.gravity w.bodies) c x)) (λ x. cond (has_cell c x) (2 ^ 86) 0) (interactions (opening w)) (λ x i.
    let s : IsAtMost (2 ^ 86) (pair_force w.gravity w.bodies x) = each-among (λ x. IsAtMost (2 ^ 86) (pair_force w.gravity w.bodies x)) x (interactions (opening w)) small i in
    acts (pair_force w.gravity w.bodies) c x (omega (arith, s.on_x, s.on_y, s.on_z)) (same_cell c x.0) (same_cell c x.1)) in
    let n : count_by (has_cell c) (interactions (opening w)) ≤ length (positions_of w.bodies) = partners_few (opening w) (sound w whole) c in
    omega (arith, le, counted_times (has_cell c) (2 ^ 86) (interactions (opening w)), n, long_positions w.bodies, whole.bodies.valid.few)

-- ---- at a moment

module _ (m : Moment) (own others : List Summed) (h : HasSums m own others) where
  abbrev w : Whole
  w = m.whole

  abbrev qs : List ℕ
  qs = senders Sums (state_at m)

  pub home_sum : (c : CellData) → home m.whole.keys c ≡ m.rank → sum_at c (own ++ others) ≡ node_total m.whole.gravity m.whole.bodies c
  home_sum c e =
      on_each (sum_at c (own ++ others)) (added_up m.whole m.rank (state_at m) c) (λ a.
      along_at a c (own ++ others)
      ∙ total-append (weight a c) own others
      ∙ ap (λ t. total_by (weight a c) t +ℤ total_by (weight a c) others) h.itself
      ∙ ap (λ t. total_by (weight a c) (sums_sent m.whole m.rank m.rank) +ℤ total_by (weight a c) t) h.came
      ∙ ap (λ t. t +ℤ total_by (weight a c) (sums_came m)) (sym (along_at a c (sums_sent m.whole m.rank m.rank)))
      ∙ ap (λ t. on a (sum_at c (sums_sent m.whole m.rank m.rank)) +ℤ t) (all_came a c (λ q. sums_sent m.whole q m.rank) (senders Sums (state_at m)))
      ∙ sym (on_plus a (sum_at c (sums_sent m.whole m.rank m.rank)) (sum_of (λ q. sum_at c (sums_sent m.whole q m.rank)) (senders Sums (state_at m)))))
      ∙ adds_totals m.whole m.is_whole m.events m.world m.run m.rank m.within h.all c e

  same_cells : (c : CellData) → is_one c (cells_in (own ++ others)) ≡ is_one c (wanted m.whole m.rank)
  same_cells c =
      ap (is_one c) (map-append (λ (e : Summed). e.cell) own others)
      ∙ any-append (same_cell c) (cells_in own) (cells_in others)
      ∙ ap (λ t. is_one c t || is_one c (cells_in others)) (ap cells_in h.itself ∙ cells_back m.whole m.rank m.rank (touched m.whole m.rank m.rank))
      ∙ ap (λ t. is_one c (touched m.whole m.rank m.rank) || t) (
      ap (is_one c) (ap cells_in h.came ∙ cells_of_all (λ q. sums_sent m.whole q m.rank) (came Sums (state_at m)))
      ∙ any-flat_map (same_cell c) (λ q. cells_in (sums_sent m.whole q m.rank)) (came Sums (state_at m))
      ∙ list_any-IsPermutation (λ q. is_one c (cells_in (sums_sent m.whole q m.rank))) (came Sums (state_at m)) (senders Sums (state_at m)) (IsPermutation-sym (senders Sums (state_at m)) (came Sums (state_at m)) (IsPermutation-reverse (senders Sums (state_at m))))
      ∙ any_same (senders Sums (state_at m))
      ∙ sym (any-flat_map (same_cell c) (λ q. touched m.whole q m.rank) (senders Sums (state_at m))))
      ∙ sym (any-append (same_cell c) (touched m.whole m.rank m.rank) (flat_map (λ q. touched m.whole q m.rank) (senders Sums (state_at m))))
      ∙ has_cells m.whole m.is_whole m.events m.world m.run m.rank m.within h.all c
    where
      any_same : (xs : List ℕ) → list_any (λ q. is_one c (cells_in (sums_sent m.whole q m.rank))) xs ≡ list_any (λ q. is_one c (touched m.whole q m.rank)) xs
      any_same [] = refl
      any_same (x ∷ xs) = (λ i. is_one c (cells_back m.whole x m.rank (touched m.whole x m.rank) i) || any_same xs i)

  in_order_wanted : AllByRecursion IsCell (cells_in (own ++ others)) → in_order (keys_along m.whole.keys.bounds) (cells_in (own ++ others)) ≡ wanted m.whole m.rank
  unfolding wanted
  in_order_wanted boxed =
      let ds : List CellData = flat_map (λ q. touched m.whole q m.rank) (ranks m.whole) in
      let same : (c : CellData) → is_one c (cells_in (own ++ others)) ≡ is_one c (flat_map (λ q. touched m.whole q m.rank) (ranks m.whole)) = λ c. same_cells c ∙ in_order-same m.whole.keys c (flat_map (λ q. touched m.whole q m.rank) (ranks m.whole)) in
      one_order_of m.whole.keys.bounds (cells_in (own ++ others)) (flat_map (λ q. touched m.whole q m.rank) (ranks m.whole)) boxed
      (all_among IsCell (flat_map (λ q. touched m.whole q m.rank) (ranks m.whole)) (λ d i. each-among IsCell d (cells_in (own ++ others)) boxed (one_among d (cells_in (own ++ others)) (same d ∙ among_one d (flat_map (λ q. touched m.whole q m.rank) (ranks m.whole)) i))))
      same
      ∙ ap (λ k. in_order k (flat_map (λ q. touched m.whole q m.rank) (ranks m.whole))) (sym m.along)

  pub totals_are : AllByRecursion IsCell (cells_in (own ++ others)) → totals_of (keys_along m.whole.keys.bounds) (own ++ others) ≡ home_totals m.whole m.rank
  unfolding totals_of
  totals_are boxed =
      ap (map (λ c. record { cell = c; sum = sum_at c (own ++ others) })) (in_order_wanted boxed)
      ∙ map_on (λ c. record { cell = c; sum = sum_at c (own ++ others) }) (λ c. record { cell = c; sum = node_total m.whole.gravity m.whole.bodies c }) (wanted m.whole m.rank) (λ c i.
      let s : sum_at c (own ++ others) ≡ node_total m.whole.gravity m.whole.bodies c = home_sum c (wanted_home m.whole m.rank c (among_one c (wanted m.whole m.rank) i)) in λ j. record { cell = c; sum = s j })

  from_all : IsPermutation (ranks m.whole) (m.rank ∷ senders Sums (state_at m))
  from_all = IsPermutation-trans (ranks m.whole) (m.rank ∷ others_of) (m.rank ∷ senders Sums (state_at m))
      (permuted eqb number-exact (ranks m.whole) (m.rank ∷ others_of) (times_all m.rank (ranks_of m.whole) m.within))
      (IsPermutation-cons m.rank others_of (senders Sums (state_at m)) (keeps_once (rules_of m.whole) (rules_fair m.whole m.is_whole) m.events m.world m.run m.rank m.within Sums (omega arith) h.all))
    where
      others_of : List ℕ
      others_of = filter (λ q. not (eqb q m.rank)) (range_with_len 0 (ranks_of m.whole))

  pub are_light : IsLight (own ++ others)
  are_light c = omega (
    arith,
    sizes_at c (own ++ others),
    sum_by-append (size_at c) own others,
    ap (sum_by (size_at c)) h.itself,
    ap (sum_by (size_at c)) h.came,
    part_size m.whole c m.rank m.rank,
    sizes_flat c m.whole m.rank (came Sums (state_at m)),
    sum_by-IsPermutation (done_by m.whole c) (senders Sums (state_at m)) (came Sums (state_at m)) (IsPermutation-reverse (senders Sums (state_at m))),
    sum_by-cons (done_by m.whole c) m.rank (senders Sums (state_at m)),
    sum_by-IsPermutation (done_by m.whole c) (ranks m.whole) (m.rank ∷ senders Sums (state_at m)) from_all,
    all_counted m.whole m.is_whole (λ x. extent (force_on (pair_force m.whole.gravity m.whole.bodies) c x)),
    all_small m.whole m.is_whole m.small c,
  )
