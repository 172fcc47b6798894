-- What a home hands out of the sums of shares are the parts that it owes to each rank.
use Rattle.std.proofs.Common.{◌≡◌, ℕ, ◌+◌, ◌*◌, ◌/◌, ◌%◌, ◌^◌, ◌<◌, ◌≤◌, Bool, true, false, cond, eqb, ◌&&◌, ◌||◌, List, [], ◌∷◌, map, sum_by, count_by, refl, ap, ◌∙◌, sym, subst, arith, ℤ, pos, ◌⊎◌, inl, inr, not, unsigned_abs}
use Rattle.std.specs.Int.{int_rem_euclid}
use Rattle.std.specs.List.{filter, list_any, range_with_len, AllByRecursion}
use Rattle.std.specs.List.Sorted.{IsPermutation}
use Rattle.std.proofs.lemmas.Bool.{cases_lt, cond-true, eqb-true, eqb-false, eq-eqb, ne_eqb, false≢true}
use Rattle.std.proofs.lemmas.Int.{ints}
use Rattle.std.proofs.lemmas.List.Sorted.{IsPermutation-map, IsPermutation-reverse, IsPermutation-trans, IsPermutation-cons, sum_by-IsPermutation, list_any-IsPermutation}
use Rattle.fixed_point.specs.declared.V3.{V3}
use Rattle.hilbert_keys.specs.Curve.{IsCell}
use Rattle.cell_space.specs.Cells.{CellData, same_cell, contains}
use Rattle.cell_space.proofs.Cells.{same_cell-exact}
use Rattle.nbody_model.specs.Bodies.{BodyData}
use Rattle.nbody_model.specs.Force.{share, small_share, share_of, node_total, is_served_before}
use Rattle.nbody_model.specs.Moments.{mass_of}
use Rattle.nbody_model.specs.Nodes.{members}
use Rattle.model_laws.proofs.Among.{Among, Witness, any-witness, any-among, any-flat_map, among-filter, among-kept, among-map, each-among, each-map, each-weaker}
use Rattle.model_laws.proofs.Walk.{filter_sum}
use Rattle.model_laws.proofs.Counts.{any-times}
use Rattle.model_laws.proofs.Pairs.{all_among}
use Rattle.model_laws.proofs.Shares.{Ascending, ascending-from, ascending-filter}
use Rattle.model_laws.proofs.Signed.{total_by, total-same, total-on, total-zero, total-once, total-nowhere, total-pos, total-filter, total-mapped, total-exchange}
use Rattle.model_laws.proofs.Sums.{sum_by-mapped, sum_by-pick_none}
use Rattle.force_sharing.specs.Sharing.{body_of}
use Rattle.rank_laws.specs.Homes.{home}
use Rattle.rank_laws.specs.Machine.{Kind, Members, code_of, has_all, is_one}
use Rattle.rank_laws.specs.Whole.{Whole, IsWhole, own, ranks, ranks_of, rules_of}
use Rattle.rank_laws.specs.Contents.{Listed, Summed, collected, member_of, members_sent, part_for, parts_sent, share_at, shared_around, sum_at as total_in, total_at, wanted}
use Rattle.rank_laws.specs.Kept.{senders}
use Rattle.rank_laws.proofs.Axes.{Axis, on, on_each, on_sum, total-flat_map, total-one_rank}
use Rattle.rank_laws.proofs.Collecting.{collected_sum, permuted, times_wanted}
use Rattle.rank_laws.proofs.Counted.{sum_range}
use Rattle.rank_laws.proofs.Fairness.{rules_fair}
use Rattle.rank_laws.proofs.Gathering.{among_flat}
use Rattle.rank_laws.proofs.KeptOnce.{keeps_once, number-exact, times_all, times_range}
use Rattle.rank_laws.proofs.Machine.{among_one}
use Rattle.rank_exchange.specs.declared.keyed.Keyed.{Keyed}
use Rattle.rank_exchange.specs.declared.shares.Kept.{Kept}
use Rattle.rank_exchange.specs.Came.{HasMembers, came, kept_from}
use Rattle.rank_exchange.specs.Handed.{given_at, handed_to}
use Rattle.rank_exchange.specs.Keyed.{AreSums, Climbs, IsLight, has_key, keys_in, sum_at}
use Rattle.rank_exchange.specs.Sums.{extent}
use Rattle.rank_exchange.specs.Moments.{Moment, state_at}
use Rattle.rank_exchange.specs.Shares.{members_at, share_in, shared_in}
use Rattle.rank_exchange.proofs.HomeMembers.{cells_are, kept_alike}
use Rattle.rank_exchange.proofs.KeyedLists.{one_passing}
use Rattle.rank_exchange.proofs.Totals.{total-permuted, sum_of-permuted}
use Rattle.rank_exchange.proofs.RankKeys.{any_mapped, any_on, any_same, alike, both, swap, cond_total, key_of, same_keys, one_rank_keys, rank_in, id_in, in_two, low_small}
use Rattle.rank_exchange.proofs.ShareSizes.{around, around_small, as_pos, one_at, true_total}

-- ---- all ranks

pub from_every : (m : Moment) (k : Kind) → code_of k < 5 → has_all (rules_of m.whole) k m.rank (state_at m) ≡ true → IsPermutation (ranks m.whole) (m.rank ∷ came k (state_at m))
from_every m k few all = IsPermutation-trans (ranks m.whole) (m.rank ∷ senders k (state_at m)) (m.rank ∷ came k (state_at m))
    (IsPermutation-trans (ranks m.whole) (m.rank ∷ others_of) (m.rank ∷ senders k (state_at m))
    (permuted eqb number-exact (ranks m.whole) (m.rank ∷ others_of) (times_all m.rank (ranks_of m.whole) m.within))
    (IsPermutation-cons m.rank others_of (senders k (state_at m)) (keeps_once (rules_of m.whole) (rules_fair m.whole m.is_whole) m.events m.world m.run m.rank m.within k few all)))
    (IsPermutation-cons m.rank (senders k (state_at m)) (came k (state_at m)) (IsPermutation-reverse (senders k (state_at m))))
  where
    others_of : List ℕ
    others_of = filter (λ q. not (eqb q m.rank)) (range_with_len 0 (ranks_of m.whole))

-- ---- what a rank sends of members, summed

abbrev listed_of : CellData → BodyData → Listed
listed_of c b = record { cell = c; member = member_of b }

over_sent : (w : Whole) (r q : ℕ) (f : Listed → ℤ) → total_by f (members_sent w q r) ≡ total_by (λ c. total_by (λ b. cond (contains c b.motion.pos) (f (listed_of c b)) (pos 0)) (own w q)) (wanted w r)
over_sent w r q f =
    total-flat_map f (λ c. map (listed_of c) (members (own w q) c)) (wanted w r)
    ∙ total-same (λ c. total_by f (map (listed_of c) (members (own w q) c))) (λ c. total_by (λ b. cond (contains c b.motion.pos) (f (listed_of c b)) (pos 0)) (own w q))
    (λ c. total-mapped f (listed_of c) (members (own w q) c) ∙ total-filter (λ (b : BodyData). contains c b.motion.pos) (λ b. f (listed_of c b)) (own w q)) (wanted w r)

part_axis : (w : Whole) (a : Axis) (r : ℕ) (b : BodyData) → on a (part_for w r b) ≡ total_by (λ c. cond (contains c b.motion.pos) (on a (share_at w r c b)) (pos 0)) (wanted w r)
unfolding part_for
part_axis w a r b = on_sum a (λ c. share_at w r c b) (shared_around w r b) ∙ total-filter (λ c. contains c b.motion.pos) (λ c. on a (share_at w r c b)) (wanted w r)

-- what members are sent with at an id, by bodies
sent_by : (w : Whole) (r q id : ℕ) (v : Listed → ℤ) (g : CellData → BodyData → ℤ) → ((c : CellData) (b : BodyData) → Among c (wanted w r) → v (listed_of c b) ≡ g c b) →
    total_by (λ e. cond (eqb id e.member.0) (v e) (pos 0)) (members_sent w q r) ≡ total_by (λ b. cond (eqb id b.id) (total_by (λ c. cond (contains c b.motion.pos) (g c b) (pos 0)) (wanted w r)) (pos 0)) (own w q)
sent_by w r q id v g same =
    over_sent w r q (λ e. cond (eqb id e.member.0) (v e) (pos 0))
    ∙ total-on (λ c. total_by (λ b. cond (contains c b.motion.pos) (cond (eqb id b.id) (v (listed_of c b)) (pos 0)) (pos 0)) (own w q)) (λ c. total_by (λ b. cond (eqb id b.id) (cond (contains c b.motion.pos) (g c b) (pos 0)) (pos 0)) (own w q)) (wanted w r)
    (λ c i. total-same (λ b. cond (contains c b.motion.pos) (cond (eqb id b.id) (v (listed_of c b)) (pos 0)) (pos 0)) (λ b. cond (eqb id b.id) (cond (contains c b.motion.pos) (g c b) (pos 0)) (pos 0))
    (λ b. swap (contains c b.motion.pos) (eqb id b.id) (v (listed_of c b)) ∙ ap (λ t. cond (eqb id b.id) (cond (contains c b.motion.pos) t (pos 0)) (pos 0)) (same c b i)) (own w q))
    ∙ total-exchange (λ c (b : BodyData). cond (eqb id b.id) (cond (contains c b.motion.pos) (g c b) (pos 0)) (pos 0)) (wanted w r) (own w q)
    ∙ total-same (λ b. total_by (λ c. cond (eqb id b.id) (cond (contains c b.motion.pos) (g c b) (pos 0)) (pos 0)) (wanted w r)) (λ b. cond (eqb id b.id) (total_by (λ c. cond (contains c b.motion.pos) (g c b) (pos 0)) (wanted w r)) (pos 0))
    (λ b. cond_total (eqb id b.id) (λ c. cond (contains c b.motion.pos) (g c b) (pos 0)) (wanted w r)) (own w q)

-- ---- a share by what came is the share at the home

share_turned : (xs ys : List BodyData) → ((f : BodyData → ℕ) → sum_by f xs ≡ sum_by f ys) → (N : ℤ) (b : BodyData) → share xs N b ≡ share ys N b
unfolding share small_share
share_turned xs ys same N b =
    let M : mass_of xs ≡ mass_of ys = same (λ b. b.mass) in
    let floors : (s all : ℕ) → sum_by (λ a. s * a.mass / all) xs ≡ sum_by (λ a. s * a.mass / all) ys = λ s all. same (λ a. s * a.mass / all) in
    let counts : (s all : ℕ) → count_by (is_served_before s all b) xs ≡ count_by (is_served_before s all b) ys = λ s all. same (λ a. cond (is_served_before s all b a) 1 0) in
    let s : ℕ = unsigned_abs (int_rem_euclid N (pos (mass_of ys))) in
    rw (M, floors s (mass_of ys), counts s (mass_of ys)) refl

shares_turned : (xs ys : List BodyData) → ((f : BodyData → ℕ) → sum_by f xs ≡ sum_by f ys) → (N : V3) (b : BodyData) → share_of xs N b ≡ share_of ys N b
shares_turned xs ys same N b =
    let x : share xs N.x b ≡ share ys N.x b = share_turned xs ys same N.x b in
    let y : share xs N.y b ≡ share ys N.y b = share_turned xs ys same N.y b in
    let z : share xs N.z b ≡ share ys N.z b = share_turned xs ys same N.z b in
    λ i. record { x = x i; y = y i; z = z i }

abbrev total_of : Whole → CellData → Summed
total_of w c = record { cell = c; sum = node_total w.gravity w.bodies c }

-- what stands at a wanted cell among the totals of a home is its total
home_total : (w : Whole) → IsWhole w → (r : ℕ) (c : CellData) → is_one c (wanted w r) ≡ true → total_in c (map (total_of w) (wanted w r)) ≡ total_at w r c
home_total w whole r c e =
    on_each (total_in c (map (total_of w) (wanted w r))) (node_total w.gravity w.bodies c) (λ a.
    on_sum a (λ (t : Summed). t.sum) (filter (λ (t : Summed). same_cell c t.cell) (map (total_of w) (wanted w r)))
    ∙ total-filter (λ (t : Summed). same_cell c t.cell) (λ (t : Summed). on a t.sum) (map (total_of w) (wanted w r))
    ∙ total-mapped (λ (t : Summed). cond (same_cell c t.cell) (on a t.sum) (pos 0)) (total_of w) (wanted w r)
    ∙ total-same (λ d. cond (same_cell c d) (on a (node_total w.gravity w.bodies d)) (pos 0)) (λ d. cond (same_cell c d) (on a (node_total w.gravity w.bodies c)) (pos 0)) (λ d. here a d (same_cell c d) refl) (wanted w r)
    ∙ total-once (same_cell c) (on a (node_total w.gravity w.bodies c)) (wanted w r) (times_wanted w r c ∙ cond-true {A = ℕ} (is_one c (wanted w r)) 1 0 e))
    ∙ sym (true_total w whole r c e)
  where
    here : (a : Axis) (d : CellData) (b : Bool) → same_cell c d ≡ b → cond b (on a (node_total w.gravity w.bodies d)) (pos 0) ≡ cond b (on a (node_total w.gravity w.bodies c)) (pos 0)
    here a d true u = ap (λ t. on a (node_total w.gravity w.bodies t)) (sym ((same_cell-exact c d).0 u))
    here a d false u = refl

-- ---- at a moment

module _ (m : Moment) (totals : List Summed) (kept : List Kept) (h : HasMembers m totals kept) where
  abbrev mine : ℕ → BodyData → Bool
  mine q b = list_any (λ c. contains c b.motion.pos) (wanted m.whole m.rank)

  -- the bodies of a rank that get something
  abbrev owed : ℕ → List BodyData
  owed q = filter (λ b. list_any (λ c. contains c b.motion.pos) (wanted m.whole m.rank)) (own m.whole q)

  abbrev owed_at : ℕ → BodyData → Keyed
  owed_at q b = record { key = key_of q b.id; sum = part_for m.whole m.rank b }

  share_is : (q : ℕ) (c : CellData) (b : BodyData) → is_one c (wanted m.whole m.rank) ≡ true → share_in totals kept (kept_from q (listed_of c b)) ≡ share_at m.whole m.rank c b
  unfolding share_in
  share_is q c b e =
      shares_turned (map body_of (members_at c kept)) (map body_of (collected m.whole m.rank c)) (λ f.
      sum_by-mapped f body_of (members_at c kept)
      ∙ sym (kept_alike m totals kept h c e (λ x. f (body_of x)))
      ∙ sum_by-mapped (λ x. f (body_of x)) member_of (members m.whole.bodies c)
      ∙ sym (collected_sum m.whole m.is_whole m.rank c e (λ x. f (body_of x)))
      ∙ sym (sum_by-mapped f body_of (collected m.whole m.rank c))) (total_in c totals) (body_of (member_of b))
      ∙ ap (λ t. share_of (map body_of (collected m.whole m.rank c)) (total_in c t) (body_of (member_of b))) h.sums_are
      ∙ ap (λ t. share_of (map body_of (collected m.whole m.rank c)) t (body_of (member_of b))) (home_total m.whole m.is_whole m.rank c e)

  abbrev qs : List ℕ
  qs = m.rank ∷ came Members (state_at m)

  every : IsPermutation (ranks m.whole) (m.rank ∷ came Members (state_at m))
  every = from_every m Members (omega arith) h.all

  module _ (small : AllByRecursion (λ (k : Kept). k.entry.member.0 < 2 ^ 64) kept) where
    key_is : (q id : ℕ) (k : Kept) → id < 2 ^ 64 → Among k kept → eqb (key_of q id) (shared_in totals kept k).key ≡ (eqb q k.«from» && eqb id k.entry.member.0)
    key_is q id k l i = same_keys q k.«from» id k.entry.member.0 l (each-among (λ (k : Kept). k.entry.member.0 < 2 ^ 64) k kept small i)

    -- ---- what stands at a key

    -- what is kept with at a key, by the bodies of the rank in the key
    over_ranks : (value : Kept → ℤ) (q id : ℕ) → id < 2 ^ 64 → total_by (λ k. cond (eqb (key_of q id) (shared_in totals kept k).key) (value k) (pos 0)) kept
        ≡ total_by (λ p. cond (eqb p q) (total_by (λ e. cond (eqb id e.member.0) (value (kept_from q e)) (pos 0)) (members_sent m.whole q m.rank)) (pos 0)) (ranks m.whole)
    over_ranks value q id l =
        total-on (λ k. cond (eqb (key_of q id) (shared_in totals kept k).key) (value k) (pos 0)) weight kept (λ k i. ap (λ b. cond b (value k) (pos 0)) (key_is q id k l i) ∙ in_turn (eqb q k.«from») (eqb id k.entry.member.0) (value k))
        ∙ ap (total_by weight) h.kept_are
        ∙ total-flat_map weight (λ p. map (kept_from p) (members_sent m.whole p m.rank)) (m.rank ∷ came Members (state_at m))
        ∙ total-same (λ p. total_by weight (map (kept_from p) (members_sent m.whole p m.rank))) (λ p. cond (eqb p q) whole_sum (pos 0)) of_rank (m.rank ∷ came Members (state_at m))
        ∙ total-permuted (λ p. cond (eqb p q) whole_sum (pos 0)) (ranks m.whole) (m.rank ∷ came Members (state_at m)) every
      where
        weight : Kept → ℤ
        weight k = cond (eqb q k.«from») (cond (eqb id k.entry.member.0) (value k) (pos 0)) (pos 0)

        whole_sum : ℤ
        whole_sum = total_by (λ e. cond (eqb id e.member.0) (value (kept_from q e)) (pos 0)) (members_sent m.whole q m.rank)

        in_turn : (s t : Bool) (v : ℤ) → cond (s && t) v (pos 0) ≡ cond s (cond t v (pos 0)) (pos 0)
        in_turn true t v = refl
        in_turn false t v = refl

        of_rank : (p : ℕ) → total_by weight (map (kept_from p) (members_sent m.whole p m.rank)) ≡ cond (eqb p q) whole_sum (pos 0)
        of_rank p =
            total-mapped weight (kept_from p) (members_sent m.whole p m.rank)
            ∙ cond_total (eqb q p) (λ e. cond (eqb id e.member.0) (value (kept_from p e)) (pos 0)) (members_sent m.whole p m.rank)
            ∙ by (eqb q p) (eqb p q) refl refl
          where
            by : (s t : Bool) → eqb q p ≡ s → eqb p q ≡ t → cond s (total_by (λ e. cond (eqb id e.member.0) (value (kept_from p e)) (pos 0)) (members_sent m.whole p m.rank)) (pos 0) ≡ cond t whole_sum (pos 0)
            by true true u v = ap (λ x. total_by (λ e. cond (eqb id e.member.0) (value (kept_from x e)) (pos 0)) (members_sent m.whole x m.rank)) (eqb-true p q v)
            by false false u v = refl
            by true false u v = absurd (eqb-false p q v (sym (eqb-true q p u)))
            by false true u v = absurd (eqb-false q p u (sym (eqb-true p q v)))

    over_kept : (value : Kept → ℤ) (g : CellData → BodyData → ℤ) (q id : ℕ) → id < 2 ^ 64 → q < ranks_of m.whole → ((c : CellData) (b : BodyData) → is_one c (wanted m.whole m.rank) ≡ true → value (kept_from q (listed_of c b)) ≡ g c b) →
        total_by (λ k. cond (eqb (key_of q id) (shared_in totals kept k).key) (value k) (pos 0)) kept ≡ total_by (λ b. cond (eqb id b.id) (total_by (λ c. cond (contains c b.motion.pos) (g c b) (pos 0)) (wanted m.whole m.rank)) (pos 0)) (own m.whole q)
    over_kept value g q id l n same =
        over_ranks value q id l
        ∙ total-one_rank q (ranks_of m.whole) (total_by (λ e. cond (eqb id e.member.0) (value (kept_from q e)) (pos 0)) (members_sent m.whole q m.rank)) n
        ∙ sent_by m.whole m.rank q id (λ e. value (kept_from q e)) g (λ c b i. same c b (among_one c (wanted m.whole m.rank) i))

    over_none : (value : Kept → ℤ) (q id : ℕ) → id < 2 ^ 64 → ranks_of m.whole ≤ q → total_by (λ k. cond (eqb (key_of q id) (shared_in totals kept k).key) (value k) (pos 0)) kept ≡ pos 0
    over_none value q id l n =
        over_ranks value q id l
        ∙ total-nowhere (λ p. eqb p q) (total_by (λ e. cond (eqb id e.member.0) (value (kept_from q e)) (pos 0)) (members_sent m.whole q m.rank)) (ranks m.whole) (sum_range (λ p. cond (eqb p q) 1 0) (ranks_of m.whole) ∙ sum_by-pick_none (λ p. 1) q (ranks_of m.whole) n)

    axis_sum : (a : Axis) (q id : ℕ) → id < 2 ^ 64 → q < ranks_of m.whole → on a (sum_at (key_of q id) (map (shared_in totals kept) kept)) ≡ total_by (λ b. cond (eqb id b.id) (on a (part_for m.whole m.rank b)) (pos 0)) (own m.whole q)
    axis_sum a q id l n =
        on_sum a (λ (e : Keyed). e.sum) (filter (λ (e : Keyed). eqb (key_of q id) e.key) (map (shared_in totals kept) kept))
        ∙ total-filter (λ (e : Keyed). eqb (key_of q id) e.key) (λ (e : Keyed). on a e.sum) (map (shared_in totals kept) kept)
        ∙ total-mapped (λ (e : Keyed). cond (eqb (key_of q id) e.key) (on a e.sum) (pos 0)) (shared_in totals kept) kept
        ∙ over_kept (λ k. on a (share_in totals kept k)) (λ c b. on a (share_at m.whole m.rank c b)) q id l n (λ c b e. ap (on a) (share_is q c b e))
        ∙ total-same (λ b. cond (eqb id b.id) (total_by (λ c. cond (contains c b.motion.pos) (on a (share_at m.whole m.rank c b)) (pos 0)) (wanted m.whole m.rank)) (pos 0)) (λ b. cond (eqb id b.id) (on a (part_for m.whole m.rank b)) (pos 0)) (λ b. ap (λ t. cond (eqb id b.id) t (pos 0)) (sym (part_axis m.whole a m.rank b))) (own m.whole q)

    owed_sum : (a : Axis) (q id : ℕ) → on a (sum_at (key_of q id) (map (owed_at q) (owed q))) ≡ total_by (λ b. cond (eqb id b.id) (on a (part_for m.whole m.rank b)) (pos 0)) (own m.whole q)
    owed_sum a q id =
        on_sum a (λ (e : Keyed). e.sum) (filter (λ (e : Keyed). eqb (key_of q id) e.key) (map (owed_at q) (owed q)))
        ∙ total-filter (λ (e : Keyed). eqb (key_of q id) e.key) (λ (e : Keyed). on a e.sum) (map (owed_at q) (owed q))
        ∙ total-mapped (λ (e : Keyed). cond (eqb (key_of q id) e.key) (on a e.sum) (pos 0)) (owed_at q) (owed q)
        ∙ total-filter (mine q) (λ b. cond (eqb (key_of q id) (key_of q b.id)) (on a (part_for m.whole m.rank b)) (pos 0)) (own m.whole q)
        ∙ total-same (λ b. cond (mine q b) (cond (eqb (key_of q id) (key_of q b.id)) (on a (part_for m.whole m.rank b)) (pos 0)) (pos 0)) (λ b. cond (eqb id b.id) (on a (part_for m.whole m.rank b)) (pos 0)) (λ b. by b (mine q b) refl) (own m.whole q)
      where
        none_of : (b : BodyData) (cs : List CellData) → list_any (λ c. contains c b.motion.pos) cs ≡ false → total_by (λ c. cond (contains c b.motion.pos) (on a (share_at m.whole m.rank c b)) (pos 0)) cs ≡ pos 0
        none_of b cs e = sym (total-filter (λ c. contains c b.motion.pos) (λ c. on a (share_at m.whole m.rank c b)) cs) ∙ ap (total_by (λ c. on a (share_at m.whole m.rank c b))) (empty cs e)
          where
            empty : (cs : List CellData) → list_any (λ c. contains c b.motion.pos) cs ≡ false → filter (λ c. contains c b.motion.pos) cs ≡ []
            empty [] e = refl
            empty (c ∷ cs) e = at (contains c b.motion.pos) e (empty cs)
              where
                at : (t : Bool) → (t || list_any (λ c. contains c b.motion.pos) cs) ≡ false → (list_any (λ c. contains c b.motion.pos) cs ≡ false → filter (λ c. contains c b.motion.pos) cs ≡ []) → cond t (c ∷ filter (λ c. contains c b.motion.pos) cs) (filter (λ c. contains c b.motion.pos) cs) ≡ []
                at true e r = absurd (false≢true (sym e))
                at false e r = r e

        by : (b : BodyData) (t : Bool) → mine q b ≡ t → cond t (cond (eqb (key_of q id) (key_of q b.id)) (on a (part_for m.whole m.rank b)) (pos 0)) (pos 0) ≡ cond (eqb id b.id) (on a (part_for m.whole m.rank b)) (pos 0)
        by b true e = ap (λ t. cond t (on a (part_for m.whole m.rank b)) (pos 0)) (one_rank_keys q id b.id)
        by b false e = sym (ap (λ t. cond (eqb id b.id) t (pos 0)) (part_axis m.whole a m.rank b ∙ none_of b (wanted m.whole m.rank) e) ∙ nothing (eqb id b.id))
          where
            nothing : (t : Bool) → cond t (pos 0) (pos 0) ≡ pos 0
            nothing true = refl
            nothing false = refl

    sums_owed : (q id : ℕ) → id < 2 ^ 64 → q < ranks_of m.whole → sum_at (key_of q id) (map (shared_in totals kept) kept) ≡ sum_at (key_of q id) (map (owed_at q) (owed q))
    sums_owed q id l n = on_each (sum_at (key_of q id) (map (shared_in totals kept) kept)) (sum_at (key_of q id) (map (owed_at q) (owed q))) (λ a. axis_sum a q id l n ∙ sym (owed_sum a q id))

    -- ---- which keys stand there

    in_ranks : (q : ℕ) → q < ranks_of m.whole → Among q (m.rank ∷ came Members (state_at m))
    in_ranks q n =
        let t : list_any (eqb q) (ranks m.whole) ≡ true = any-times eqb number-exact q (ranks m.whole) (omega (arith, times_range q (ranks_of m.whole) n)) in
        let v : Witness (eqb q) (m.rank ∷ came Members (state_at m)) = any-witness (eqb q) (m.rank ∷ came Members (state_at m)) (sym (list_any-IsPermutation (eqb q) (ranks m.whole) (m.rank ∷ came Members (state_at m)) every) ∙ t) in
        subst (λ x. Among x (m.rank ∷ came Members (state_at m))) (sym (eqb-true q v.it v.passes)) v.«in»

    kept_has : (q : ℕ) (c : CellData) (b : BodyData) → q < ranks_of m.whole → Among c (wanted m.whole m.rank) → Among b (own m.whole q) → contains c b.motion.pos ≡ true → Among (kept_from q (listed_of c b)) kept
    kept_has q c b n ic ib e = subst (Among (kept_from q (listed_of c b))) (sym h.kept_are) (among_flat (λ p. map (kept_from p) (members_sent m.whole p m.rank)) (kept_from q (listed_of c b)) q (m.rank ∷ came Members (state_at m)) (in_ranks q n)
        (among-map (kept_from q) (listed_of c b) (members_sent m.whole q m.rank) (among_flat (λ d. map (listed_of d) (members (own m.whole q) d)) (listed_of c b) c (wanted m.whole m.rank) ic (among-map (listed_of c) b (members (own m.whole q) c) (among-filter (λ (b : BodyData). contains c b.motion.pos) b (own m.whole q) ib e)))))

    ids_owed : (q : ℕ) → q < ranks_of m.whole → AllByRecursion (λ (b : BodyData). b.id < 2 ^ 64) (owed q)
    ids_owed q n = all_among (λ (b : BodyData). b.id < 2 ^ 64) (owed q) (λ b i.
        let k : Among b (own m.whole q) × (mine q b ≡ true) = among-kept (mine q) b (own m.whole q) i in
        let v : Witness (λ c. contains c b.motion.pos) (wanted m.whole m.rank) = any-witness (λ c. contains c b.motion.pos) (wanted m.whole m.rank) k.1 in
        each-among (λ (k : Kept). k.entry.member.0 < 2 ^ 64) (kept_from q (listed_of v.it b)) kept small (kept_has q v.it b n v.«in» k.0 v.passes))

    abbrev stands : ℕ → ℕ → ℕ → CellData → Bool
    stands q id p c = list_any (λ b. eqb q p && eqb id b.id) (members (own m.whole p) c)

    all_keys : (q id : ℕ) → id < 2 ^ 64 → has_key (key_of q id) (map (shared_in totals kept) kept) ≡ list_any (λ p. list_any (stands q id p) (wanted m.whole m.rank)) (m.rank ∷ came Members (state_at m))
    all_keys q id l =
        any_mapped (eqb (key_of q id)) (λ (e : Keyed). e.key) (map (shared_in totals kept) kept)
        ∙ any_mapped (λ (e : Keyed). eqb (key_of q id) e.key) (shared_in totals kept) kept
        ∙ any_on (λ k. eqb (key_of q id) (shared_in totals kept k).key) test kept (λ k i. key_is q id k l i)
        ∙ ap (list_any test) h.kept_are
        ∙ any-flat_map test (λ p. map (kept_from p) (members_sent m.whole p m.rank)) (m.rank ∷ came Members (state_at m))
        ∙ any_same (λ p. list_any test (map (kept_from p) (members_sent m.whole p m.rank))) (λ p. list_any (stands q id p) (wanted m.whole m.rank)) (m.rank ∷ came Members (state_at m)) (λ p.
        any_mapped test (kept_from p) (members_sent m.whole p m.rank)
        ∙ any-flat_map (λ e. test (kept_from p e)) (λ c. map (listed_of c) (members (own m.whole p) c)) (wanted m.whole m.rank)
        ∙ any_same (λ c. list_any (λ e. test (kept_from p e)) (map (listed_of c) (members (own m.whole p) c))) (stands q id p) (wanted m.whole m.rank) (λ c. any_mapped (λ e. test (kept_from p e)) (listed_of c) (members (own m.whole p) c)))
      where
        test : Kept → Bool
        test k = eqb q k.«from» && eqb id k.entry.member.0

    owed_keys : (q id : ℕ) → has_key (key_of q id) (map (owed_at q) (owed q)) ≡ list_any (λ b. eqb id b.id) (owed q)
    owed_keys q id =
        any_mapped (eqb (key_of q id)) (λ (e : Keyed). e.key) (map (owed_at q) (owed q))
        ∙ any_mapped (λ (e : Keyed). eqb (key_of q id) e.key) (owed_at q) (owed q)
        ∙ any_same (λ b. eqb (key_of q id) (key_of q b.id)) (λ b. eqb id b.id) (owed q) (λ b. one_rank_keys q id b.id)

    keys_owed : (q id : ℕ) → id < 2 ^ 64 → q < ranks_of m.whole → has_key (key_of q id) (map (shared_in totals kept) kept) ≡ has_key (key_of q id) (map (owed_at q) (owed q))
    keys_owed q id l n =
        all_keys q id l
        ∙ alike (list_any (λ p. list_any (stands q id p) (wanted m.whole m.rank)) (m.rank ∷ came Members (state_at m))) (list_any (λ b. eqb id b.id) (owed q)) there back
        ∙ sym (owed_keys q id)
      where
        there : list_any (λ p. list_any (stands q id p) (wanted m.whole m.rank)) (m.rank ∷ came Members (state_at m)) ≡ true → list_any (λ b. eqb id b.id) (owed q) ≡ true
        there e =
            let v : Witness (λ p. list_any (stands q id p) (wanted m.whole m.rank)) (m.rank ∷ came Members (state_at m)) = any-witness (λ p. list_any (stands q id p) (wanted m.whole m.rank)) (m.rank ∷ came Members (state_at m)) e in
            let u : Witness (stands q id v.it) (wanted m.whole m.rank) = any-witness (stands q id v.it) (wanted m.whole m.rank) v.passes in
            let x : Witness (λ b. eqb q v.it && eqb id b.id) (members (own m.whole v.it) u.it) = any-witness (λ b. eqb q v.it && eqb id b.id) (members (own m.whole v.it) u.it) u.passes in
            let t : (eqb q v.it ≡ true) × (eqb id x.it.id ≡ true) = both (eqb q v.it) (eqb id x.it.id) x.passes in
            let k : Among x.it (own m.whole v.it) × (contains u.it x.it.motion.pos ≡ true) = among-kept (λ (b : BodyData). contains u.it b.motion.pos) x.it (own m.whole v.it) x.«in» in
            any-among (λ b. eqb id b.id) x.it (owed q)
            (among-filter (mine q) x.it (own m.whole q) (subst (λ y. Among x.it (own m.whole y)) (sym (eqb-true q v.it t.0)) k.0) (any-among (λ c. contains c x.it.motion.pos) u.it (wanted m.whole m.rank) u.«in» k.1)) t.1

        back : list_any (λ b. eqb id b.id) (owed q) ≡ true → list_any (λ p. list_any (stands q id p) (wanted m.whole m.rank)) (m.rank ∷ came Members (state_at m)) ≡ true
        back e =
            let x : Witness (λ b. eqb id b.id) (owed q) = any-witness (λ b. eqb id b.id) (owed q) e in
            let k : Among x.it (own m.whole q) × (mine q x.it ≡ true) = among-kept (mine q) x.it (own m.whole q) x.«in» in
            let u : Witness (λ c. contains c x.it.motion.pos) (wanted m.whole m.rank) = any-witness (λ c. contains c x.it.motion.pos) (wanted m.whole m.rank) k.1 in
            any-among (λ p. list_any (stands q id p) (wanted m.whole m.rank)) q (m.rank ∷ came Members (state_at m)) (in_ranks q n)
            (any-among (stands q id q) u.it (wanted m.whole m.rank) u.«in»
            (any-among (λ b. eqb q q && eqb id b.id) x.it (members (own m.whole q) u.it) (among-filter (λ (b : BodyData). contains u.it b.motion.pos) x.it (own m.whole q) k.0 u.passes) (ap (λ t. t && eqb id x.it.id) (eq-eqb q q refl) ∙ x.passes)))

    -- ---- the parts

    keys_climb : (q : ℕ) (bs : List BodyData) → Ascending bs → Climbs (keys_in (map (owed_at q) bs))
    keys_climb q [] a = tt
    keys_climb q (b ∷ bs) a = (above bs a.0, keys_climb q bs a.1)
      where
        above : (ds : List BodyData) → AllByRecursion (λ (d : BodyData). b.id < d.id) ds → AllByRecursion (λ j. key_of q b.id < j) (keys_in (map (owed_at q) ds))
        above [] u = tt
        above (d ∷ ds) u = let l : b.id < d.id = u.0 in (omega (arith, l), above ds u.1)

    parts_back : (q : ℕ) (bs : List BodyData) → AllByRecursion (λ (b : BodyData). b.id < 2 ^ 64) bs → map given_at (map (owed_at q) bs) ≡ map (λ (b : BodyData). record { id = b.id; sum = part_for m.whole m.rank b }) bs
    parts_back q [] a = refl
    parts_back q (b ∷ bs) a = λ i. record { id = id_in q b.id a.0 i; sum = part_for m.whole m.rank b } ∷ parts_back q bs a.1 i

    pub parts_handed : (shares sums : List Keyed) → IsPermutation (map (shared_in totals kept) kept) shares → AreSums shares sums → (q : ℕ) → q < ranks_of m.whole → handed_to sums q ≡ parts_sent m.whole m.rank q
    parts_handed shares sums p s q n =
        ap (map given_at) (one_passing (λ k. eqb (k / 2 ^ 64) q) sums (map (owed_at q) (owed q)) s.climbs climbs pass keys adds)
        ∙ parts_back q (owed q) (ids_owed q n)
      where
        climbs : Climbs (keys_in (map (owed_at q) (owed q)))
        climbs = keys_climb q (owed q) (ascending-filter (mine q) (own m.whole q) (ascending-filter (λ (b : BodyData). eqb (m.whole.owner b.id) q) m.whole.bodies (ascending-from m.whole.bodies m.is_whole.bodies.valid.ascending)))

        pass : AllByRecursion (λ (e : Keyed). eqb (e.key / 2 ^ 64) q ≡ true) (map (owed_at q) (owed q))
        pass = each-map (λ (b : BodyData). b.id < 2 ^ 64) (λ (e : Keyed). eqb (e.key / 2 ^ 64) q ≡ true) (owed_at q) (λ b l. eq-eqb (key_of q b.id / 2 ^ 64) q (rank_in q b.id l)) (owed q) (ids_owed q n)

        keys : (k : ℕ) → eqb (k / 2 ^ 64) q ≡ true → has_key k sums ≡ has_key k (map (owed_at q) (owed q))
        keys k u =
            s.keys k
            ∙ sym (list_any-IsPermutation (eqb k) (keys_in (map (shared_in totals kept) kept)) (keys_in shares) (IsPermutation-map (λ (e : Keyed). e.key) (map (shared_in totals kept) kept) shares p))
            ∙ subst (λ t. has_key t (map (shared_in totals kept) kept) ≡ has_key t (map (owed_at q) (owed q))) (sym (in_two k q (eqb-true (k / 2 ^ 64) q u))) (keys_owed q (k % 2 ^ 64) (low_small k) n)

        adds : (k : ℕ) → eqb (k / 2 ^ 64) q ≡ true → sum_at k sums ≡ sum_at k (map (owed_at q) (owed q))
        adds k u =
            s.sums k
            ∙ sum_of-permuted (λ (e : Keyed). eqb k e.key) (λ (e : Keyed). e.sum) (map (shared_in totals kept) kept) shares p
            ∙ subst (λ t. sum_at t (map (shared_in totals kept) kept) ≡ sum_at t (map (owed_at q) (owed q))) (sym (in_two k q (eqb-true (k / 2 ^ 64) q u))) (sums_owed q (k % 2 ^ 64) (low_small k) n)

    -- ---- what is shared adds up within 128 bits

    low_wanted : AllByRecursion (λ (c : CellData). c.level ≤ 32) (wanted m.whole m.rank)
    low_wanted = each-weaker IsCell (λ (c : CellData). c.level ≤ 32) (λ c k. k.shallow) (wanted m.whole m.rank) (subst (AllByRecursion IsCell) (cells_are m totals kept h) h.boxed)

    size_of_key : (q id : ℕ) → id < 2 ^ 64 → sum_by (λ k. cond (eqb (key_of q id) (shared_in totals kept k).key) (extent (share_in totals kept k)) 0) kept ≤ 2 ^ 113
    size_of_key q id l = by (cases_lt q (ranks_of m.whole))
      where
        in_whole : total_by (λ k. cond (eqb (key_of q id) (shared_in totals kept k).key) (pos (extent (share_in totals kept k))) (pos 0)) kept ≡ pos (sum_by (λ k. cond (eqb (key_of q id) (shared_in totals kept k).key) (extent (share_in totals kept k)) 0) kept)
        in_whole = total-same (λ k. cond (eqb (key_of q id) (shared_in totals kept k).key) (pos (extent (share_in totals kept k))) (pos 0)) (λ k. pos (cond (eqb (key_of q id) (shared_in totals kept k).key) (extent (share_in totals kept k)) 0)) (λ k. as_pos (eqb (key_of q id) (shared_in totals kept k).key) (extent (share_in totals kept k))) kept
            ∙ total-pos (λ k. cond (eqb (key_of q id) (shared_in totals kept k).key) (extent (share_in totals kept k)) 0) kept

        back : (b : BodyData) → cond (eqb id b.id) (total_by (λ c. cond (contains c b.motion.pos) (pos (extent (share_at m.whole m.rank c b))) (pos 0)) (wanted m.whole m.rank)) (pos 0) ≡ pos (cond (eqb id b.id) (around m.whole m.rank b) 0)
        back b = ap (λ t. cond (eqb id b.id) t (pos 0)) (
            total-same (λ c. cond (contains c b.motion.pos) (pos (extent (share_at m.whole m.rank c b))) (pos 0)) (λ c. pos (cond (contains c b.motion.pos) (extent (share_at m.whole m.rank c b)) 0)) (λ c. as_pos (contains c b.motion.pos) (extent (share_at m.whole m.rank c b))) (wanted m.whole m.rank)
            ∙ total-pos (λ c. cond (contains c b.motion.pos) (extent (share_at m.whole m.rank c b)) 0) (wanted m.whole m.rank)) ∙ as_pos (eqb id b.id) (around m.whole m.rank b)

        by : (q < ranks_of m.whole) ⊎ (ranks_of m.whole ≤ q) → sum_by (λ k. cond (eqb (key_of q id) (shared_in totals kept k).key) (extent (share_in totals kept k)) 0) kept ≤ 2 ^ 113
        by (inr n) = omega (arith, ints, in_whole, over_none (λ k. pos (extent (share_in totals kept k))) q id l n)
        by (inl n) =
            let e : pos (sum_by (λ k. cond (eqb (key_of q id) (shared_in totals kept k).key) (extent (share_in totals kept k)) 0) kept) ≡ pos (sum_by (λ b. cond (eqb id b.id) (around m.whole m.rank b) 0) (own m.whole q)) =
            sym in_whole
            ∙ over_kept (λ k. pos (extent (share_in totals kept k))) (λ c b. pos (extent (share_at m.whole m.rank c b))) q id l n (λ c b e. ap (λ t. pos (extent t)) (share_is q c b e))
            ∙ total-same (λ b. cond (eqb id b.id) (total_by (λ c. cond (contains c b.motion.pos) (pos (extent (share_at m.whole m.rank c b))) (pos 0)) (wanted m.whole m.rank)) (pos 0)) (λ b. pos (cond (eqb id b.id) (around m.whole m.rank b) 0)) back (own m.whole q)
            ∙ total-pos (λ b. cond (eqb id b.id) (around m.whole m.rank b) 0) (own m.whole q) in
            let le : sum_by (λ b. cond (eqb id b.id) (around m.whole m.rank b) 0) (own m.whole q) ≤ 2 ^ 113 =
            one_at id (2 ^ 113) (around m.whole m.rank) (own m.whole q) (ascending-filter (λ (b : BodyData). eqb (m.whole.owner b.id) q) m.whole.bodies (ascending-from m.whole.bodies m.is_whole.bodies.valid.ascending)) (λ b i.
            around_small m.whole m.is_whole m.small m.rank low_wanted b (among-kept (λ (b : BodyData). eqb (m.whole.owner b.id) q) b m.whole.bodies i).0) in
            omega (arith, ints, e, le)

    pub shares_light : (shares : List Keyed) → IsPermutation (map (shared_in totals kept) kept) shares → IsLight shares
    shares_light shares p k =
        let q : ℕ = k / 2 ^ 64 in
        let id : ℕ = k % 2 ^ 64 in
        let e : k ≡ key_of (k / 2 ^ 64) (k % 2 ^ 64) = in_two k (k / 2 ^ 64) refl in
        let le : sum_by (λ x. cond (eqb k (shared_in totals kept x).key) (extent (share_in totals kept x)) 0) kept ≤ 2 ^ 113 = subst (λ t. sum_by (λ x. cond (eqb t (shared_in totals kept x).key) (extent (share_in totals kept x)) 0) kept ≤ 2 ^ 113) (sym e) (size_of_key (k / 2 ^ 64) (k % 2 ^ 64) (low_small k)) in
        omega (
          arith,
          le,
          filter_sum (λ (x : Keyed). eqb k x.key) (λ (x : Keyed). extent x.sum) shares,
          sum_by-IsPermutation (λ (x : Keyed). cond (eqb k x.key) (extent x.sum) 0) (map (shared_in totals kept) kept) shares p,
          sum_by-mapped (λ (x : Keyed). cond (eqb k x.key) (extent x.sum) 0) (shared_in totals kept) kept,
        )
