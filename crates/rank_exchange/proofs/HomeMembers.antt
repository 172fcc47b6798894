-- What a home has of totals and members may be shared.
use Rattle.std.proofs.Common.{◌≡◌, ℕ, ◌+◌, ◌*◌, ◌^◌, ◌<◌, ◌≤◌, Bool, true, false, cond, eqb, List, [], ◌∷◌, map, sum_by, length, zero, suc, refl, ap, ◌∙◌, sym, subst, arith, inl, inr, slice_index}
use Rattle.std.specs.List.{filter, flat_map, list_any, AllByRecursion}
use Rattle.std.specs.List.Sorted.{IsPermutation, IsStrictlyIncreasing}
use Rattle.std.proofs.lemmas.Bool.{cond-true}
use Rattle.std.proofs.lemmas.List.{length-map}
use Rattle.std.proofs.lemmas.List.Elements.{All-from_recursion}
use Rattle.std.proofs.lemmas.List.Sorted.{IsPermutation-reverse, sum_by-IsPermutation}
use Rattle.std.proofs.lemmas.List.Sums.{sum_by-cons, sum_by-append}
use Rattle.fixed_point.specs.Vectors.{IsAtMost, IsBelow}
use Rattle.cell_space.specs.Cells.{CellData, same_cell, contains}
use Rattle.nbody_model.specs.Bodies.{BodyData}
use Rattle.nbody_model.specs.Covers.{interactions, same_pair}
use Rattle.nbody_model.specs.Force.{node_total}
use Rattle.nbody_model.specs.Nodes.{is_node, members, positions_of}
use Rattle.model_laws.specs.Laws.{AreBodies, IsPairOfNodes}
use Rattle.model_laws.proofs.Among.{Among, Witness, any-witness, any-flat_map, among-kept, among-le, each-among, each-append, each-filter, each-flat_map, each-map}
use Rattle.model_laws.proofs.Bounds.{node_bounded}
use Rattle.model_laws.proofs.Counts.{any-times}
use Rattle.model_laws.proofs.Pairs.{all_among, pairs_of_nodes}
use Rattle.model_laws.proofs.Turned.{same_pair-exact}
use Rattle.model_laws.proofs.Shares.{Ascending, ascending-from, ascending-filter}
use Rattle.model_laws.proofs.Sums.{sum_by-flat_map, sum_by-mapped, sum_by-same}
use Rattle.model_laws.proofs.Walk.{filter_sum}
use Rattle.octree_build.proofs.Few.{node_some}
use Rattle.force_sharing.specs.Sharing.{Member, AreMembers}
use Rattle.rank_laws.specs.Homes.{home}
use Rattle.rank_laws.specs.Kept.{senders, listed_up}
use Rattle.rank_laws.specs.Machine.{Pair, Members, cells_of, is_one}
use Rattle.rank_laws.specs.Whole.{Whole, IsWhole, opening, own, ranks, counted}
use Rattle.rank_laws.proofs.Collecting.{permuted, same_member, same_member-exact}
use Rattle.rank_laws.proofs.Counted.{sound, together}
use Rattle.rank_laws.proofs.Fairness.{in_order-same}
use Rattle.rank_laws.proofs.Gathering.{among_flat}
use Rattle.rank_laws.proofs.KeptLaws.{has_members}
use Rattle.rank_laws.proofs.Machine.{one_among, among_one}
use Rattle.rank_exchange.specs.declared.shares.Kept.{Kept}
use Rattle.rank_exchange.specs.Came.{HasMembers, came, kept_from, members_kept}
use Rattle.rank_exchange.specs.Moments.{Moment, state_at}
use Rattle.rank_exchange.specs.Shares.{MayShare, listed, members_at}
use Rattle.rank_exchange.specs.Sums.{cells_in}
use Rattle.rank_laws.specs.Contents.{member_of, wanted, touched, Summed, Listed, members_sent, members_in}
use Rattle.rank_exchange.proofs.OwnMembers.{less_kept}

-- ---- the members of a cell, as members

increasing_from : (ms : List BodyData) → Ascending ms → IsStrictlyIncreasing (map (λ b. b.id) ms)
increasing_from [] a k h = absurd (omega (arith, h))
increasing_from (m ∷ []) a k h = absurd (omega (arith, h))
increasing_from (m ∷ n ∷ ms) a zero h = a.0.0
increasing_from (m ∷ n ∷ ms) a (suc k) h =
    let e : suc k + 1 ≡ suc (k + 1) = omega arith in
    let r : slice_index (map (λ b. b.id) (n ∷ ms)) k < slice_index (map (λ b. b.id) (n ∷ ms)) (k + 1) = increasing_from (n ∷ ms) a.1 k (omega (arith, h)) in
    subst (λ t. slice_index (map (λ b. b.id) (m ∷ n ∷ ms)) (suc k) < slice_index (map (λ b. b.id) (m ∷ n ∷ ms)) t) (sym e) r

ids_back : (ms : List BodyData) → map (λ (m : Member). m.0) (map member_of ms) ≡ map (λ b. b.id) ms
ids_back [] = refl
ids_back (m ∷ ms) = ap (λ t. m.id ∷ t) (ids_back ms)

fewer : {X : Type 0} (t : X → Bool) (xs : List X) → length (filter t xs) ≤ length xs
fewer t [] = omega arith
fewer t (x ∷ xs) = by (t x) (fewer t xs)
  where
    by : (b : Bool) → length (filter t xs) ≤ length xs → length (cond b (x ∷ filter t xs) (filter t xs)) ≤ length (x ∷ xs)
    by true h = omega (arith, h)
    by false h = omega (arith, h)

pub members_are : (B : List BodyData) (c : CellData) → AreBodies B → is_node (positions_of B) c ≡ true → AreMembers (map member_of (members B c))
members_are B c a e = record {
  some = omega (arith, node_some B c e, length-map (members B c) member_of);
  ascending = subst IsStrictlyIncreasing (sym (ids_back (members B c))) (increasing_from (members B c) (ascending-filter (λ b. contains c b.motion.pos) B (ascending-from B a.valid.ascending)));
  heavy = All-from_recursion (λ (m : Member). 1 ≤ m.1) (map member_of (members B c)) (each-map (λ (b : BodyData). 1 ≤ b.mass) (λ (m : Member). 1 ≤ m.1) member_of (λ b h. h) (members B c) (each-filter (λ (b : BodyData). 1 ≤ b.mass) (λ b. contains c b.motion.pos) B a.heavy));
  few = omega (arith, fewer (λ (b : BodyData). contains c b.motion.pos) B, a.valid.few, length-map (members B c) member_of);
  light = omega (arith, sum_by-mapped (λ (m : Member). m.1) member_of (members B c), less_kept (λ b. b.mass) (λ b. contains c b.motion.pos) B, a.valid.light);
}

-- ---- a wanted cell is a node

pub counted_among : (w : Whole) → IsWhole w → (r : ℕ) (x : Pair) → Among r (ranks w) → Among x (counted w r) → Among x (interactions (opening w))
counted_among w whole r x i h =
    let there : Among x (flat_map (counted w) (ranks w)) = among_flat (counted w) x r (ranks w) i h in
    let some : cond {A = ℕ} (same_pair x x) 1 0 ≤ sum_by (λ y. cond (same_pair y x) 1 0) (flat_map (counted w) (ranks w)) = among-le (λ y. cond (same_pair y x) 1 0) x (flat_map (counted w) (ranks w)) there in
    let e : cond {A = ℕ} (same_pair x x) 1 0 ≡ 1 = cond-true {A = ℕ} (same_pair x x) 1 0 ((same_pair-exact x x).1 refl) in
    let s : sum_by (λ y. cond (same_pair y x) 1 0) (flat_map (counted w) (ranks w)) ≡ sum_by (λ y. cond (same_pair y x) 1 0) (interactions (opening w)) = together w whole (λ y. cond (same_pair y x) 1 0) in
    let v : Witness (same_pair x) (interactions (opening w)) = any-witness (same_pair x) (interactions (opening w)) (any-times same_pair same_pair-exact x (interactions (opening w)) (omega (arith, some, e, s))) in
    subst (λ t. Among t (interactions (opening w))) (sym ((same_pair-exact x v.it).0 v.passes)) v.«in»

pub touched_pair : (w : Whole) (q r : ℕ) (c : CellData) → is_one c (touched w q r) ≡ true → is_one c (flat_map cells_of (counted w q)) ≡ true
unfolding touched
touched_pair w q r c e =
    let i : Among c (filter (λ c. eqb (home w.keys c) r) (flat_map cells_of (counted w q))) = one_among c (filter (λ c. eqb (home w.keys c) r) (flat_map cells_of (counted w q))) (sym (in_order-same w.keys c (filter (λ c. eqb (home w.keys c) r) (flat_map cells_of (counted w q)))) ∙ e) in
    among_one c (flat_map cells_of (counted w q)) (among-kept (λ c. eqb (home w.keys c) r) c (flat_map cells_of (counted w q)) i).0

node_of_pair : (w : Whole) → IsWhole w → (x : Pair) → Among x (interactions (opening w)) → (c : CellData) → is_one c (cells_of x) ≡ true → is_node (positions_of w.bodies) c ≡ true
node_of_pair w whole x i c e = by (one_among c (cells_of x) e)
  where
    p : IsPairOfNodes (opening w) x
    p = each-among (IsPairOfNodes (opening w)) x (interactions (opening w)) (pairs_of_nodes (opening w) (sound w whole)).interactions_each i

    by : Among c (cells_of x) → is_node (positions_of w.bodies) c ≡ true
    by (inl u) = ap (is_node (positions_of w.bodies)) u ∙ p.first
    by (inr (inl u)) = ap (is_node (positions_of w.bodies)) u ∙ p.second
    by (inr (inr u)) = absurd u

pub wanted_node : (w : Whole) → IsWhole w → (h : ℕ) (c : CellData) → is_one c (wanted w h) ≡ true → is_node (positions_of w.bodies) c ≡ true
unfolding wanted
wanted_node w whole h c e =
    let u : list_any (λ q. is_one c (touched w q h)) (ranks w) ≡ true = sym (any-flat_map (same_cell c) (λ q. touched w q h) (ranks w)) ∙ sym (in_order-same w.keys c (flat_map (λ q. touched w q h) (ranks w))) ∙ e in
    let v : Witness (λ q. is_one c (touched w q h)) (ranks w) = any-witness (λ q. is_one c (touched w q h)) (ranks w) u in
    let x : Witness (λ x. is_one c (cells_of x)) (counted w v.it) = any-witness (λ x. is_one c (cells_of x)) (counted w v.it) (sym (any-flat_map (same_cell c) cells_of (counted w v.it)) ∙ touched_pair w v.it h c v.passes) in
    node_of_pair w whole x.it (counted_among w whole v.it x.it v.«in» x.«in») c x.passes

-- ---- what was kept of a cell

abbrev weight : CellData → (Member → ℕ) → Listed → ℕ
weight c f e = cond (same_cell c e.cell) (f e.member) 0

sum_in : (c : CellData) (f : Member → ℕ) (es : List Listed) → sum_by f (members_in c es) ≡ sum_by (weight c f) es
sum_in c f es = sum_by-mapped f (λ (e : Listed). e.member) (filter (λ (e : Listed). same_cell c e.cell) es) ∙ filter_sum (λ (e : Listed). same_cell c e.cell) (λ (e : Listed). f e.member) es

sum_kept : (c : CellData) (f : Member → ℕ) (g : ℕ → List Listed) (qs : List ℕ) → sum_by f (members_at c (flat_map (λ q. map (kept_from q) (g q)) qs)) ≡ sum_by (λ q. sum_by f (members_in c (g q))) qs
sum_kept c f g qs =
    sum_in c f (listed (flat_map (λ q. map (kept_from q) (g q)) qs))
    ∙ sum_by-mapped (weight c f) (λ (k : Kept). k.entry) (flat_map (λ q. map (kept_from q) (g q)) qs)
    ∙ sum_by-flat_map (λ (k : Kept). weight c f k.entry) (λ q. map (kept_from q) (g q)) qs
    ∙ sum_by-same (λ q. sum_by (λ (k : Kept). weight c f k.entry) (map (kept_from q) (g q))) (λ q. sum_by f (members_in c (g q))) (λ q. sum_by-mapped (λ (k : Kept). weight c f k.entry) (kept_from q) (g q) ∙ sym (sum_in c f (g q))) qs

module _ (m : Moment) (totals : List Summed) (kept : List Kept) (h : HasMembers m totals kept) where
  pub cells_are : cells_in totals ≡ wanted m.whole m.rank
  cells_are = ap cells_in h.sums_are ∙ back (wanted m.whole m.rank)
    where
      back : (cs : List CellData) → cells_in (map (λ c. record { cell = c; sum = node_total m.whole.gravity m.whole.bodies c }) cs) ≡ cs
      back [] = refl
      back (c ∷ cs) = ap (λ t. c ∷ t) (back cs)

  all_small : AllByRecursion (λ (t : Summed). IsBelow (2 ^ 112) t.sum) totals
  all_small = subst (AllByRecursion (λ (t : Summed). IsBelow (2 ^ 112) t.sum)) (sym h.sums_are) (each (wanted m.whole m.rank))
    where
      one : (c : CellData) → IsBelow (2 ^ 112) (node_total m.whole.gravity m.whole.bodies c)
      one c =
          let b : IsAtMost (length m.whole.bodies * 2 ^ 86) (node_total m.whole.gravity m.whole.bodies c) = node_bounded m.whole.gravity m.whole.bodies m.is_whole.bodies (2 ^ 86) m.small c in
          record { on_x = omega (arith, b.on_x, m.is_whole.bodies.valid.few); on_y = omega (arith, b.on_y, m.is_whole.bodies.valid.few); on_z = omega (arith, b.on_z, m.is_whole.bodies.valid.few) }

      each : (cs : List CellData) → AllByRecursion (λ (t : Summed). IsBelow (2 ^ 112) t.sum) (map (λ c. record { cell = c; sum = node_total m.whole.gravity m.whole.bodies c }) cs)
      each [] = tt
      each (c ∷ cs) = (one c, each cs)

  all_wanted : AllByRecursion (λ (k : Kept). is_one k.entry.cell (cells_in totals) ≡ true) kept
  all_wanted = subst (AllByRecursion (λ (k : Kept). is_one k.entry.cell (cells_in totals) ≡ true)) (sym h.kept_are) (subst (λ cs. AllByRecursion (λ (k : Kept). is_one k.entry.cell cs ≡ true) (members_kept m)) (sym cells_are) (over (m.rank ∷ came Members (state_at m))))
    where
      own_cells : (q : ℕ) (cs : List CellData) → AllByRecursion (λ c. is_one c (wanted m.whole m.rank) ≡ true) cs → AllByRecursion (λ (k : Kept). is_one k.entry.cell (wanted m.whole m.rank) ≡ true) (map (kept_from q) (flat_map (λ c. map (λ b. record { cell = c; member = member_of b }) (members (own m.whole q) c)) cs))
      own_cells q cs a = each-map (λ (e : Listed). is_one e.cell (wanted m.whole m.rank) ≡ true) (λ (k : Kept). is_one k.entry.cell (wanted m.whole m.rank) ≡ true) (kept_from q) (λ e u. u)
          (flat_map (λ c. map (λ b. record { cell = c; member = member_of b }) (members (own m.whole q) c)) cs)
          (each-flat_map (λ c. is_one c (wanted m.whole m.rank) ≡ true) (λ (e : Listed). is_one e.cell (wanted m.whole m.rank) ≡ true) (λ c. map (λ b. record { cell = c; member = member_of b }) (members (own m.whole q) c)) (λ c u. same_all c u (members (own m.whole q) c)) cs a)
        where
          same_all : (c : CellData) → is_one c (wanted m.whole m.rank) ≡ true → (bs : List BodyData) → AllByRecursion (λ (e : Listed). is_one e.cell (wanted m.whole m.rank) ≡ true) (map (λ b. record { cell = c; member = member_of b }) bs)
          same_all c u [] = tt
          same_all c u (b ∷ bs) = (u, same_all c u bs)

      over : (qs : List ℕ) → AllByRecursion (λ (k : Kept). is_one k.entry.cell (wanted m.whole m.rank) ≡ true) (flat_map (λ q. map (kept_from q) (members_sent m.whole q m.rank)) qs)
      over [] = tt
      over (q ∷ qs) = each-append (λ (k : Kept). is_one k.entry.cell (wanted m.whole m.rank) ≡ true) (map (kept_from q) (members_sent m.whole q m.rank)) (flat_map (λ q. map (kept_from q) (members_sent m.whole q m.rank)) qs) (own_cells q (wanted m.whole m.rank) (all_among (λ c. is_one c (wanted m.whole m.rank) ≡ true) (wanted m.whole m.rank) (λ c i. among_one c (wanted m.whole m.rank) i))) (over qs)

  pub kept_alike : (c : CellData) → is_one c (wanted m.whole m.rank) ≡ true → (f : Member → ℕ) → sum_by f (map member_of (members m.whole.bodies c)) ≡ sum_by f (members_at c kept)
  kept_alike c e f =
      let p : IsPermutation (map member_of (members m.whole.bodies c)) (listed_up m.whole m.rank (state_at m) c) = has_members m.whole m.is_whole m.events m.world m.run m.rank m.within h.all c e in
      omega (
        arith,
        sum_by-IsPermutation f (map member_of (members m.whole.bodies c)) (listed_up m.whole m.rank (state_at m) c) p,
        sum_by-append f (members_in c (members_sent m.whole m.rank m.rank)) (flat_map (λ q. members_in c (members_sent m.whole q m.rank)) (senders Members (state_at m))),
        sum_by-flat_map f (λ q. members_in c (members_sent m.whole q m.rank)) (senders Members (state_at m)),
        ap (λ t. sum_by f (members_at c t)) h.kept_are,
        sum_kept c f (λ q. members_sent m.whole q m.rank) (m.rank ∷ came Members (state_at m)),
        sum_by-cons (λ q. sum_by f (members_in c (members_sent m.whole q m.rank))) m.rank (came Members (state_at m)),
        sum_by-IsPermutation (λ q. sum_by f (members_in c (members_sent m.whole q m.rank))) (senders Members (state_at m)) (came Members (state_at m)) (IsPermutation-reverse (senders Members (state_at m))),
      )

  pub may_share : MayShare totals kept
  may_share = record {
    climbs = h.climbs;
    boxed = h.boxed;
    small = all_small;
    wanted = all_wanted;
    members = λ c e.
        let u : is_one c (wanted m.whole m.rank) ≡ true = ap (is_one c) (sym cells_are) ∙ e in
        record {
          order = map member_of (members m.whole.bodies c);
          permuted = permuted same_member same_member-exact (map member_of (members m.whole.bodies c)) (members_at c kept) (λ z. kept_alike c u (λ x. cond (same_member x z) 1 0));
          members = members_are m.whole.bodies c m.is_whole.bodies (wanted_node m.whole m.is_whole m.rank c u);
        };
  }
