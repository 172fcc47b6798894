-- How many pairs there are, and how great the places may get.
use Rattle.std.proofs.Common.{◌≡◌, ℕ, zero, suc, ◌+◌, ◌*◌, ◌^◌, ◌-◌, ◌<◌, ◌≤◌, Bool, true, false, cond, ◌||◌, List, [], ◌∷◌, map, length, sum_by, refl, ap, sym, subst, ◌∙◌, arith, ℤ, ◌+ℤ◌, neg_ℤ, eqb, length-append}
use Rattle.std.specs.Prelude.{unsigned_abs}
use Rattle.std.specs.List.{filter, flat_map, list_any, count_by, AllByRecursion}
use Rattle.std.proofs.lemmas.Int.{ints}
use Rattle.std.proofs.lemmas.Nat.{mul-le}
use Rattle.std.proofs.lemmas.List.{length-map}
use Rattle.std.proofs.lemmas.List.Sums.{sum_by-cons, count_by-le-length, length-filter}
use Rattle.fixed_point.specs.declared.V3.{V3}
use Rattle.fixed_point.specs.Vectors.{origin, plus, negative, sum_of, IsAtMost, IsBelow}
use Rattle.cell_space.specs.Cells.{Position, CellData, same_cell, same_place, root_cell, digit, child}
use Rattle.nbody_model.specs.Nodes.{positions_of}
use Rattle.nbody_model.specs.Covers.{Opening, final, step, orient, same_pair, distinct, of_two, over_two, chain_apart, chain_same, chain, cover, interactions, visited}
use Rattle.nbody_model.specs.Force.{force_on}
use Rattle.model_laws.specs.Laws.{has_cell}
use Rattle.model_laws.proofs.Among.{each-among}
use Rattle.model_laws.proofs.Bounds.{total_within}
use Rattle.model_laws.proofs.Partners.{ones, partners_few}
use Rattle.model_laws.proofs.Signed.{total_by, sum_of-totals}
use Rattle.model_laws.proofs.Walk.{filter_sum}
use Rattle.octree_build.specs.Trees.{TreeData, IsTree}
use Rattle.dual_walk.specs.declared.pairs.Pair.{Pair}
use Rattle.dual_walk.specs.Places.{value_at}
use Rattle.dual_walk.specs.Courses.{Course, opening_by, force_by, taken_by, asked_by, is_asked, cell_in}
use Rattle.dual_walk.specs.Steps.{IsAt}
use Rattle.dual_walk.proofs.Bridge.{IsTurned, sound}

-- ---- how many pairs there are

distinct_few : {X : Type 0} (same : X → X → Bool) (xs : List X) → length (distinct same xs) ≤ length xs
distinct_few same [] = omega arith
distinct_few same (x ∷ xs) = by (list_any (same x) xs) (distinct_few same xs)
  where
    by : (b : Bool) → length (distinct same xs) ≤ length xs → length (cond b (distinct same xs) (x ∷ distinct same xs)) ≤ suc (length xs)
    by true h = omega (arith, h)
    by false h = omega (arith, h)

flat_few : {X Y : Type 0} (f : X → List Y) (m : ℕ) → ((x : X) → length (f x) ≤ m) → (xs : List X) → length (flat_map f xs) ≤ length xs * m
flat_few f m h [] = omega arith
flat_few f m h (x ∷ xs) =
    let a : suc (length xs) * m ≡ m + length xs * m = omega arith in
    omega (arith, a, length-append (f x) (flat_map f xs), h x, flat_few f m h xs)

two_few : {X : Type 0} (f : Position → Position → List X) (m : ℕ) → ((p q : Position) → length (f p q) ≤ m) → (ps : List Position) → length (over_two f ps) ≤ length ps * (length ps * m)
two_few f m h ps = flat_few (λ p. flat_map (of_two f p) ps) (length ps * m) (λ p. flat_few (of_two f p) m (λ q. one p q (same_place p q)) ps) ps
  where
    one : (p q : Position) (b : Bool) → length (cond b [] (f p q)) ≤ m
    one p q true = omega arith
    one p q false = h p q

-- a million bodies or fewer
few_pairs : (n m : ℕ) → n ≤ 1048576 → m ≤ 64 → n * (n * m) ≤ 2 ^ 46
few_pairs n m h k = omega (arith, mul-le n (n * m) 1048576 (1048576 * 64) h (mul-le n m 1048576 64 h k))

chain_apart_few : (o : Opening) (n : ℕ) (p q : Position) (a b : CellData) → length (chain_apart o n p q a b) ≤ n + 1
unfolding chain_apart
chain_apart_few o zero p q a b = omega arith
chain_apart_few o (suc n) p q a b = by (final o a b) (chain_apart_few o n p q (step o p a) (step o q b))
  where
    by : (t : Bool) → length (chain_apart o n p q (step o p a) (step o q b)) ≤ n + 1 → length (cond t ((a, b) ∷ []) ((a, b) ∷ chain_apart o n p q (step o p a) (step o q b))) ≤ suc n + 1
    by true h = omega arith
    by false h = omega (arith, h)

chain_same_few : (o : Opening) (n : ℕ) (p q : Position) (c : CellData) → length (chain_same o n p q c) ≤ n + 1
unfolding chain_same
chain_same_few o zero p q c = omega arith
chain_same_few o (suc n) p q c = by (eqb (digit p c.level) (digit q c.level)) (chain_same_few o n p q (child c (digit p c.level))) (chain_apart_few o n p q (child c (digit p c.level)) (child c (digit q c.level)))
  where
    by : (t : Bool) → length (chain_same o n p q (child c (digit p c.level))) ≤ n + 1 → length (chain_apart o n p q (child c (digit p c.level)) (child c (digit q c.level))) ≤ n + 1 →
        length (cond t (chain_same o n p q (child c (digit p c.level))) (chain_apart o n p q (child c (digit p c.level)) (child c (digit q c.level)))) ≤ suc n + 1
    by true h k = omega (arith, h)
    by false h k = omega (arith, k)

chain_few : (o : Opening) (p q : Position) → length (map orient (chain o p q)) ≤ 64
unfolding chain
chain_few o p q = omega (arith, length-map (chain o p q) orient, chain_same_few o 32 p q root_cell)

kept_few : {X : Type 0} (t : X → Bool) (xs : List X) → length (filter t xs) ≤ length xs
kept_few t xs = omega (arith, length-filter t xs, count_by-le-length t xs)

module _ (w : Course) (t : TreeData) (tree : IsTree w.setup w.bodies t) where
  abbrev o : Opening
  o = opening_by w

  few_bodies : length (positions_of w.bodies) ≤ 1048576
  few_bodies = omega (arith, tree.over.bodies.valid.few, length-map w.bodies (λ b. b.motion.pos))

  pub few_taken : length (taken_by w) ≤ 2 ^ 46
  unfolding taken_by interactions
  few_taken =
      omega (
        arith,
        kept_few (λ x. w.mine x.0) (interactions o),
        distinct_few same_pair (over_two (λ p q. orient (cover o p q) ∷ []) (positions_of w.bodies)),
        two_few (λ p q. orient (cover o p q) ∷ []) 1 (λ p q. omega arith) (positions_of w.bodies),
        few_pairs (length (positions_of w.bodies)) 1 few_bodies (omega arith),
      )

  pub few_asked : length (asked_by w) ≤ 2 ^ 46
  unfolding asked_by visited
  few_asked =
      omega (
        arith,
        kept_few (is_asked w) (visited o),
        distinct_few same_pair (over_two (λ p q. map orient (chain o p q)) (positions_of w.bodies)),
        two_few (λ p q. map orient (chain o p q)) 64 (λ p q. chain_few o p q) (positions_of w.bodies),
        few_pairs (length (positions_of w.bodies)) 64 few_bodies (omega arith),
      )

  cond_less : (a b : Bool) → cond a (cond b 1 0) 0 ≤ cond b 1 0
  cond_less true b = omega arith
  cond_less false true = omega arith
  cond_less false false = omega arith

  kept_less : (t u : CellData × CellData → Bool) (xs : List (CellData × CellData)) → sum_by (λ x. cond (u x) (cond (t x) 1 0) 0) xs ≤ count_by t xs
  kept_less t u [] = omega arith
  kept_less t u (x ∷ xs) = omega (arith, sum_by-cons (λ x. cond (u x) (cond (t x) 1 0) 0) x xs, sum_by-cons (λ x. cond (t x) 1 0) x xs, cond_less (u x) (t x), kept_less t u xs)

  -- few of those taken have one cell
  pub few_of_cell : IsTurned w → (c : CellData) → sum_by (λ x. cond (has_cell c x) 1 0) (taken_by w) ≤ 1048576
  unfolding taken_by
  few_of_cell h c =
      omega (
        arith,
        filter_sum (λ x. w.mine x.0) (λ x. cond (has_cell c x) 1 0) (interactions o),
        kept_less (has_cell c) (λ x. w.mine x.0) (interactions o),
        partners_few o (sound w t tree h) c,
        few_bodies,
      )

-- ---- sums of forces

force_size : (c : CellData) (f : CellData × CellData → V3) (m : ℕ) (x : CellData × CellData) (axis : V3 → ℤ) → unsigned_abs (axis (f x)) ≤ m → unsigned_abs (axis (negative (f x))) ≤ m → unsigned_abs (axis origin) ≡ 0 → unsigned_abs (axis (force_on f c x)) ≤ cond (has_cell c x) m 0
unfolding force_on
force_size c f m x axis h k z = by (same_cell c x.0) (same_cell c x.1)
  where
    by : (a b : Bool) → unsigned_abs (axis (cond a (f x) (cond b (negative (f x)) origin))) ≤ cond (a || b) m 0
    by true b = h
    by false true = k
    by false false = omega (arith, z)

count_times : {X : Type 0} (t : X → Bool) (m : ℕ) (xs : List X) → sum_by (λ x. cond (t x) m 0) xs ≡ count_by t xs * m
count_times t m [] = omega arith
count_times t m (x ∷ xs) = sum_by-cons (λ x. cond (t x) m 0) x xs ∙ ap (λ n. cond (t x) m 0 + n) (count_times t m xs) ∙ one (t x) ∙ ap (λ n. n * m) (sym (sum_by-cons (λ x. cond (t x) 1 0) x xs))
  where
    one : (b : Bool) → cond b m 0 + count_by t xs * m ≡ (cond b 1 0 + count_by t xs) * m
    one true = omega arith
    one false = omega arith

opposite_size : (a : ℤ) (m : ℕ) → unsigned_abs a ≤ m → unsigned_abs (neg_ℤ a) ≤ m
opposite_size a m h = omega (arith, ints, h)

pub sum_size : (c : CellData) (f : CellData × CellData → V3) (m : ℕ) (xs : List (CellData × CellData)) → AllByRecursion (λ x. IsAtMost m (f x)) xs → IsAtMost (count_by (has_cell c) xs * m) (sum_of (force_on f c) xs)
sum_size c f m xs a =
    let x : unsigned_abs (total_by (λ e. (force_on f c e).x) xs) ≤ sum_by (λ e. cond (has_cell c e) m 0) xs =
    total_within (λ e. (force_on f c e).x) (λ e. cond (has_cell c e) m 0) xs (λ e k. let s : IsAtMost m (f e) = each-among (λ x. IsAtMost m (f x)) e xs a k in force_size c f m e (λ v. v.x) s.on_x (opposite_size (f e).x m s.on_x) refl) in
    let y : unsigned_abs (total_by (λ e. (force_on f c e).y) xs) ≤ sum_by (λ e. cond (has_cell c e) m 0) xs =
    total_within (λ e. (force_on f c e).y) (λ e. cond (has_cell c e) m 0) xs (λ e k. let s : IsAtMost m (f e) = each-among (λ x. IsAtMost m (f x)) e xs a k in force_size c f m e (λ v. v.y) s.on_y (opposite_size (f e).y m s.on_y) refl) in
    let z : unsigned_abs (total_by (λ e. (force_on f c e).z) xs) ≤ sum_by (λ e. cond (has_cell c e) m 0) xs =
    total_within (λ e. (force_on f c e).z) (λ e. cond (has_cell c e) m 0) xs (λ e k. let s : IsAtMost m (f e) = each-among (λ x. IsAtMost m (f x)) e xs a k in force_size c f m e (λ v. v.z) s.on_z (opposite_size (f e).z m s.on_z) refl) in
    let n : sum_by (λ e. cond (has_cell c e) m 0) xs ≡ count_by (has_cell c) xs * m = count_times (has_cell c) m xs in
    subst (IsAtMost (count_by (has_cell c) xs * m)) (sym (sum_of-totals (force_on f c) xs)) (record { on_x = omega (arith, x, n); on_y = omega (arith, y, n); on_z = omega (arith, z, n) })

-- a place that was below 2^100 stays below 2^112
add_size : (a b : ℤ) (n : ℕ) → n ≤ 1048576 → unsigned_abs a < 2 ^ 100 → unsigned_abs b ≤ n * (2 ^ 87 - 1) → unsigned_abs (a +ℤ b) < 2 ^ 112
add_size a b n h k l = let m : n * (2 ^ 87 - 1) ≤ 1048576 * (2 ^ 87 - 1) = mul-le n (2 ^ 87 - 1) 1048576 (2 ^ 87 - 1) h (omega arith) in omega (arith, ints, k, l, m)

plus_size : (u v : V3) (n : ℕ) → n ≤ 1048576 → IsBelow (2 ^ 100) u → IsAtMost (n * (2 ^ 87 - 1)) v → IsBelow (2 ^ 112) (plus u v)
plus_size u v n h k l = record { on_x = add_size u.x v.x n h k.on_x l.on_x; on_y = add_size u.y v.y n h k.on_y l.on_y; on_z = add_size u.z v.z n h k.on_z l.on_z }

each_value : (n : ℕ) → 0 < n → (places : List V3) → AllByRecursion (IsBelow n) places → (k : ℕ) → k < length places → IsBelow n (value_at places k)
each_value n h [] a k l = absurd (omega (arith, l))
each_value n h (v ∷ vs) a zero l = a.0
each_value n h (v ∷ vs) a (suc k) l = each_value n h vs a.1 k (omega (arith, l))

module _ (w : Course) (t : TreeData) (tree : IsTree w.setup w.bodies t) (turned : IsTurned w) (list : List Pair) (start places : List V3) (accepts asked count : ℕ) (a : IsAt w t.nodes list start places accepts asked count) where
  pub place_small : AllByRecursion (IsBelow (2 ^ 100)) start → (k : ℕ) → k < length start → IsBelow (2 ^ 112) (value_at places k)
  place_small s k h =
      let c : CellData = cell_in t.nodes k in
      let n : count_by (has_cell c) a.taken ≤ 1048576 = omega (arith, a.worked (λ x. cond (has_cell c x) 1 0), few_of_cell w t tree turned c) in
      subst (IsBelow (2 ^ 112)) (sym (a.forces.each k h)) (plus_size (value_at start k) (sum_of (force_on (force_by w) c) a.taken) (count_by (has_cell c) a.taken) n (each_value (2 ^ 100) (omega arith) start s k h) (sum_size c (force_by w) (2 ^ 87 - 1) a.taken a.small))

  pub count_small : count ≤ 2 ^ 46
  count_small = omega (arith, a.counted, ones a.taken, a.worked (λ x. 1), ones (taken_by w), few_taken w t tree)

  pub asked_small : asked ≤ accepts + 2 ^ 46
  asked_small = omega (arith, a.looked, few_asked w t tree)
