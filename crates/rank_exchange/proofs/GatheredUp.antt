-- What a rank adds up of the parts that came is what it has for its bodies, and it fits.
use Rattle.std.proofs.Common.{◌≡◌, ℕ, ◌+◌, ◌*◌, ◌^◌, ◌≤◌, cond, eqb, List, [], ◌∷◌, ◌++◌, map, sum_by, reverse, zero, suc, refl, ap, true, ◌∙◌, sym, subst, arith, ℤ, pos, ◌+ℤ◌, inl, inr, ◌⊎◌}
use Rattle.std.specs.List.{filter, flat_map, list_any, AllByRecursion}
use Rattle.std.specs.List.Sorted.{IsPermutation}
use Rattle.std.proofs.lemmas.List.Sorted.{IsPermutation-reverse, sum_by-IsPermutation}
use Rattle.std.proofs.lemmas.List.Sums.{sum_by-cons, sum_by-append}
use Rattle.fixed_point.specs.Vectors.{plus, sum_of}
use Rattle.cell_space.specs.Cells.{CellData, below, contains, same_cell}
use Rattle.nbody_model.specs.Bodies.{BodyData}
use Rattle.nbody_model.specs.Covers.{interactions}
use Rattle.model_laws.proofs.Among.{Among, Witness, any-witness, any-flat_map, among-kept}
use Rattle.model_laws.proofs.Pairs.{all_among}
use Rattle.model_laws.proofs.Partners.{Acts, acts}
use Rattle.model_laws.proofs.Ranks.{sum_by-le-on}
use Rattle.model_laws.proofs.Shares.{Ascending, ascending-from, ascending-filter}
use Rattle.model_laws.proofs.Signed.{total_by, total-same, total-filter, total-mapped}
use Rattle.model_laws.proofs.Sums.{sum_by-flat_map, sum_by-mapped}
use Rattle.model_laws.proofs.Walk.{filter_sum}
use Rattle.rank_laws.specs.Machine.{Pair, Parts, cells_of, is_one}
use Rattle.rank_laws.specs.Whole.{Whole, IsWhole, opening, own, ranks, ranks_of, counted}
use Rattle.rank_laws.specs.Contents.{Given, given_to, part_for, parts_sent, share_at, touched, wanted}
use Rattle.rank_laws.specs.Kept.{given_up, senders}
use Rattle.rank_laws.proofs.Axes.{Axis, on, on_each, on_sum, total-append, total-flat_map}
use Rattle.rank_laws.proofs.Counted.{sound, sum_range}
use Rattle.rank_laws.proofs.Fairness.{in_order-same}
use Rattle.rank_laws.proofs.Machine.{one_among, among_one}
use Rattle.rank_exchange.specs.declared.keyed.Keyed.{Keyed}
use Rattle.rank_exchange.specs.Came.{HasParts, came, parts_came}
use Rattle.rank_exchange.specs.Handed.{by_id}
use Rattle.rank_exchange.specs.Keyed.{AreSums, IsLight, extent_at, sum_at}
use Rattle.rank_exchange.specs.Moments.{Moment, state_at, PairsAreSmall}
use Rattle.rank_exchange.specs.Sums.{extent}
use Rattle.rank_exchange.proofs.HomeMembers.{counted_among, touched_pair}
use Rattle.rank_exchange.proofs.HomeTotals.{extent_sum, on_plus}
use Rattle.rank_exchange.proofs.PartsOwed.{from_every}
use Rattle.rank_exchange.proofs.ShareSizes.{around, around_small, one_at}
use Rattle.rank_exchange.proofs.Totals.{total-permuted}

-- ---- what stands at an id

abbrev weight : Axis → ℕ → Given → ℤ
weight a id g = cond (eqb id g.id) (on a g.sum) (pos 0)

given_axis : (a : Axis) (id : ℕ) (gs : List Given) → on a (given_to id gs) ≡ total_by (weight a id) gs
given_axis a id gs = on_sum a (λ (g : Given). g.sum) (filter (λ (g : Given). eqb id g.id) gs) ∙ total-filter (λ (g : Given). eqb id g.id) (λ (g : Given). on a g.sum) gs

keyed_axis : (a : Axis) (id : ℕ) (gs : List Given) → on a (sum_at id (map by_id gs)) ≡ total_by (weight a id) gs
keyed_axis a id gs =
    on_sum a (λ (e : Keyed). e.sum) (filter (λ (e : Keyed). eqb id e.key) (map by_id gs))
    ∙ total-filter (λ (e : Keyed). eqb id e.key) (λ (e : Keyed). on a e.sum) (map by_id gs)
    ∙ total-mapped (λ (e : Keyed). cond (eqb id e.key) (on a e.sum) (pos 0)) by_id gs

all_came : (a : Axis) (id : ℕ) (f : ℕ → List Given) (qs : List ℕ) → total_by (weight a id) (flat_map f (reverse qs)) ≡ on a (sum_of (λ q. given_to id (f q)) qs)
all_came a id f qs =
    total-flat_map (weight a id) f (reverse qs)
    ∙ total-permuted (λ q. total_by (weight a id) (f q)) qs (reverse qs) (IsPermutation-reverse qs)
    ∙ total-same (λ q. total_by (weight a id) (f q)) (λ q. on a (given_to id (f q))) (λ q. sym (given_axis a id (f q))) qs
    ∙ sym (on_sum a (λ q. given_to id (f q)) qs)

-- ---- cells that a home wants are of the 33 levels

low_of_pair : (w : Whole) → IsWhole w → (x : Pair) → Among x (interactions (opening w)) → (c : CellData) → is_one c (cells_of x) ≡ true → c.level ≤ 32
low_of_pair w whole x i c e = by (one_among c (cells_of x) e)
  where
    t : Acts (opening w) x
    t = acts (opening w) (sound w whole) x i

    by : Among c (cells_of x) → c.level ≤ 32
    by (inl u) = subst (λ (d : CellData). d.level ≤ 32) (sym u) t.on.low_first
    by (inr (inl u)) = subst (λ (d : CellData). d.level ≤ 32) (sym u) t.on.low_second
    by (inr (inr u)) = absurd u

low_wanted : (w : Whole) → IsWhole w → (h : ℕ) (c : CellData) → is_one c (wanted w h) ≡ true → c.level ≤ 32
unfolding wanted
low_wanted w whole h c e =
    let u : list_any (λ q. is_one c (touched w q h)) (ranks w) ≡ true = sym (any-flat_map (same_cell c) (λ q. touched w q h) (ranks w)) ∙ sym (in_order-same w.keys c (flat_map (λ q. touched w q h) (ranks w))) ∙ e in
    let v : Witness (λ q. is_one c (touched w q h)) (ranks w) = any-witness (λ q. is_one c (touched w q h)) (ranks w) u in
    let x : Witness (λ x. is_one c (cells_of x)) (counted w v.it) = any-witness (λ x. is_one c (cells_of x)) (counted w v.it) (sym (any-flat_map (same_cell c) cells_of (counted w v.it)) ∙ touched_pair w v.it h c v.passes) in
    low_of_pair w whole x.it (counted_among w whole v.it x.it v.«in» x.«in») c x.passes

all_low : (w : Whole) → IsWhole w → (h : ℕ) → AllByRecursion (λ (c : CellData). c.level ≤ 32) (wanted w h)
all_low w whole h = all_among (λ (c : CellData). c.level ≤ 32) (wanted w h) (λ c i. low_wanted w whole h c (among_one c (wanted w h) i))

-- ---- sizes

abbrev size_at : ℕ → Given → ℕ
size_at id g = cond (eqb id g.id) (extent g.sum) 0

sizes_at : (id : ℕ) (gs : List Given) → extent_at id (map by_id gs) ≡ sum_by (size_at id) gs
sizes_at id gs = filter_sum (λ (e : Keyed). eqb id e.key) (λ (e : Keyed). extent e.sum) (map by_id gs) ∙ sum_by-mapped (λ (e : Keyed). cond (eqb id e.key) (extent e.sum) 0) by_id gs

part_extent : (w : Whole) (h : ℕ) (b : BodyData) → extent (part_for w h b) ≤ around w h b
unfolding part_for
part_extent w h b = omega (arith, extent_sum (λ c. share_at w h c b) (filter (λ c. contains c b.motion.pos) (wanted w h)), filter_sum (λ c. contains c b.motion.pos) (λ c. extent (share_at w h c b)) (wanted w h))

part_size : (w : Whole) → IsWhole w → PairsAreSmall w → (id h q : ℕ) → sum_by (size_at id) (parts_sent w h q) ≤ 2 ^ 113
part_size w whole small id h q =
    let bs : List BodyData = filter (λ b. list_any (λ c. contains c b.motion.pos) (wanted w h)) (own w q) in
    let up : Ascending (filter (λ b. list_any (λ c. contains c b.motion.pos) (wanted w h)) (own w q)) = ascending-filter (λ b. list_any (λ c. contains c b.motion.pos) (wanted w h)) (own w q) (ascending-filter (λ (b : BodyData). eqb (w.owner b.id) q) w.bodies (ascending-from w.bodies whole.bodies.valid.ascending)) in
    let le : sum_by (λ b. cond (eqb id b.id) (extent (part_for w h b)) 0) (filter (λ b. list_any (λ c. contains c b.motion.pos) (wanted w h)) (own w q)) ≤ 2 ^ 113 =
    one_at id (2 ^ 113) (λ b. extent (part_for w h b)) (filter (λ b. list_any (λ c. contains c b.motion.pos) (wanted w h)) (own w q)) up (λ b i.
    let k : Among b w.bodies = (among-kept (λ (b : BodyData). eqb (w.owner b.id) q) b w.bodies (among-kept (λ b. list_any (λ c. contains c b.motion.pos) (wanted w h)) b (own w q) i).0).0 in
    omega (arith, part_extent w h b, around_small w whole small h (all_low w whole h) b k)) in
    omega (arith, le, sum_by-mapped (size_at id) (λ (b : BodyData). record { id = b.id; sum = part_for w h b }) (filter (λ b. list_any (λ c. contains c b.motion.pos) (wanted w h)) (own w q)))

each_rank : (n : ℕ) → sum_by (λ (q : ℕ). 2 ^ 113) (below n) ≡ n * 2 ^ 113
each_rank zero = refl
each_rank (suc n) = omega (arith, sum_by-cons (λ (q : ℕ). 2 ^ 113) n (below n), each_rank n)

-- ---- at a moment

module _ (m : Moment) (own_parts others : List Given) (h : HasParts m own_parts others) where
  parts_up : (b : BodyData) → sum_at b.id (map by_id (own_parts ++ others)) ≡ given_up m.whole m.rank (state_at m) b
  parts_up b = on_each (sum_at b.id (map by_id (own_parts ++ others))) (given_up m.whole m.rank (state_at m) b) (λ a.
      keyed_axis a b.id (own_parts ++ others)
      ∙ total-append (weight a b.id) own_parts others
      ∙ ap (λ t. total_by (weight a b.id) t +ℤ total_by (weight a b.id) others) h.itself
      ∙ ap (λ t. total_by (weight a b.id) (parts_sent m.whole m.rank m.rank) +ℤ total_by (weight a b.id) t) h.came
      ∙ ap (λ t. t +ℤ total_by (weight a b.id) (parts_came m)) (sym (given_axis a b.id (parts_sent m.whole m.rank m.rank)))
      ∙ ap (λ t. on a (given_to b.id (parts_sent m.whole m.rank m.rank)) +ℤ t) (all_came a b.id (λ q. parts_sent m.whole q m.rank) (senders Parts (state_at m)))
      ∙ sym (on_plus a (given_to b.id (parts_sent m.whole m.rank m.rank)) (sum_of (λ q. given_to b.id (parts_sent m.whole q m.rank)) (senders Parts (state_at m)))))

  pub gives_up : (all sums : List Keyed) → all ≡ map by_id (own_parts ++ others) → AreSums all sums → (b : BodyData) → sum_at b.id sums ≡ given_up m.whole m.rank (state_at m) b
  gives_up all sums e s b = s.sums b.id ∙ ap (sum_at b.id) e ∙ parts_up b

  pub parts_light : IsLight (map by_id (own_parts ++ others))
  parts_light k =
      let few : ranks_of m.whole ≤ 256 = m.few in
      let le : sum_by (λ q. sum_by (size_at k) (parts_sent m.whole q m.rank)) (ranks m.whole) ≤ sum_by (λ (q : ℕ). 2 ^ 113) (ranks m.whole) =
      sum_by-le-on (λ q. sum_by (size_at k) (parts_sent m.whole q m.rank)) (λ (q : ℕ). 2 ^ 113) (ranks m.whole) (λ q i. part_size m.whole m.is_whole m.small k q m.rank) in
      omega (
        arith,
        few,
        le,
        sizes_at k (own_parts ++ others),
        sum_by-append (size_at k) own_parts others,
        ap (sum_by (size_at k)) h.itself,
        ap (sum_by (size_at k)) h.came,
        sum_by-flat_map (size_at k) (λ q. parts_sent m.whole q m.rank) (came Parts (state_at m)),
        sum_by-cons (λ q. sum_by (size_at k) (parts_sent m.whole q m.rank)) m.rank (came Parts (state_at m)),
        sum_by-IsPermutation (λ q. sum_by (size_at k) (parts_sent m.whole q m.rank)) (ranks m.whole) (m.rank ∷ came Parts (state_at m)) (from_every m Parts (omega arith) h.all),
        sum_range (λ (q : ℕ). 2 ^ 113) (ranks_of m.whole),
        each_rank (ranks_of m.whole),
      )
