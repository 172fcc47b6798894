-- Bounds of node totals, shares and forces, from one on the forces of pairs.
use Rattle.std.proofs.Common.{◌≡◌, ℕ, suc, ◌+◌, ◌*◌, ◌/◌, ◌<◌, ◌≤◌, Bool, true, false, cond, ltb, ◌||◌, List, [], ◌∷◌, length, map, sum_by, refl, ap, sym, subst, ◌∙◌, arith, inl, inr, ℤ, pos, negsuc, ◌+ℤ◌, ◌*ℤ◌, neg_ℤ}
use Rattle.std.specs.Prelude.{unsigned_abs}
use Rattle.std.specs.List.{count_by, filter, AllByRecursion, range_with_len}
use Rattle.std.specs.Int.{int_div_euclid, int_rem_euclid}
use Rattle.std.proofs.lemmas.Int.{ints}
use Rattle.std.proofs.lemmas.Nat.{mod_below, mul-le, div_below}
use Rattle.std.proofs.Math.IntN.{pos-*ℤ-pos, negsuc-*ℤ-pos}
use Rattle.std.proofs.lemmas.List.Sums.{sum_by-cons}
use Rattle.fixed_point.specs.declared.V3.{V3}
use Rattle.fixed_point.specs.Vectors.{origin, negative, IsAtMost}
use Rattle.fixed_point.proofs.Euclid.{euclid_sum}
use Rattle.cell_space.specs.Cells.{CellData, cell_at, contains, same_cell}
use Rattle.cell_space.proofs.Cells.{cell_at-contains}
use Rattle.nbody_model.specs.Bodies.{BodyData}
use Rattle.nbody_model.specs.Tables.{Gravity}
use Rattle.nbody_model.specs.Nodes.{members, positions_of}
use Rattle.nbody_model.specs.Moments.{mass_of}
use Rattle.nbody_model.specs.Covers.{opening_of, interactions}
use Rattle.nbody_model.specs.Force.{is_served_before, left_of, small_share, share, share_of, pair_force, force_on, node_total, cells_around, force_at}
use Rattle.model_laws.specs.Laws.{AreBodies, has_cell}
use Rattle.model_laws.proofs.Among.{Among, each-among, among-le, among-filter}
use Rattle.model_laws.proofs.Signed.{total_by, totals_by, total-mapped, sum_of-totals}
use Rattle.model_laws.proofs.Shares.{rest_is}
use Rattle.model_laws.proofs.Cancel.{node_totals}
use Rattle.model_laws.proofs.Fair.{opening_sound}
use Rattle.model_laws.proofs.Partners.{partners_few}

-- ---- a node's total

pub total_within : {X : Type 0} (f : X → ℤ) (g : X → ℕ) (xs : List X) → ((x : X) → Among x xs → unsigned_abs (f x) ≤ g x) → unsigned_abs (total_by f xs) ≤ sum_by g xs
total_within f g [] h = omega (arith, ints)
total_within f g (x ∷ xs) h = omega (arith, ints, sum_by-cons g x xs, h x (inl refl), total_within f g xs (λ y k. h y (inr k)))

count_times : {X : Type 0} (t : X → Bool) (m : ℕ) (xs : List X) → sum_by (λ x. cond (t x) m 0) xs ≡ count_by t xs * m
count_times t m [] = omega arith
count_times t m (x ∷ xs) = sum_by-cons (λ x. cond (t x) m 0) x xs ∙ ap (λ n. cond (t x) m 0 + n) (count_times t m xs) ∙ one (t x) ∙ ap (λ n. n * m) (sym (sum_by-cons (λ x. cond (t x) 1 0) x xs))
  where
    one : (b : Bool) → cond b m 0 + count_by t xs * m ≡ (cond b 1 0 + count_by t xs) * m
    one true = omega arith
    one false = omega arith

acts_within : (get : V3 → ℤ) (most : ℕ) → get origin ≡ pos 0 → ((v : V3) → get (negative v) ≡ neg_ℤ (get v)) → (v : V3) → unsigned_abs (get v) ≤ most → (a b : Bool) → unsigned_abs (get (cond a v (cond b (negative v) origin))) ≤ cond (a || b) most 0
acts_within get most none turned v h true b = h
acts_within get most none turned v h false true = let e : get (negative v) ≡ neg_ℤ (get v) = turned v in omega (arith, ints)
acts_within get most none turned v h false false = omega (arith, ints, none)

length_map : {X Y : Type 0} (h : X → Y) (xs : List X) → length (map h xs) ≡ length xs
length_map h [] = refl
length_map h (x ∷ xs) = ap suc (length_map h xs)

node_axis : (get : V3 → ℤ) → get origin ≡ pos 0 → ((v : V3) → get (negative v) ≡ neg_ℤ (get v)) → (g : Gravity) (B : List BodyData) → AreBodies B → (most : ℕ) →
    ((x : CellData × CellData) → Among x (interactions (opening_of g.setup B)) → unsigned_abs (get (pair_force g B x)) ≤ most) → (c : CellData) →
    unsigned_abs (total_by (λ x. get (force_on (pair_force g B) c x)) (interactions (opening_of g.setup B))) ≤ length B * most
unfolding force_on
node_axis get none turned g B a most h c =
    let few : count_by (has_cell c) (interactions (opening_of g.setup B)) ≤ length (positions_of B) = partners_few (opening_of g.setup B) (opening_sound g.setup B a.in_box) c in
    let same : length (positions_of B) ≡ length B = length_map (λ b. b.motion.pos) B in
    let times : count_by (has_cell c) (interactions (opening_of g.setup B)) * most ≤ length B * most = mul-le (count_by (has_cell c) (interactions (opening_of g.setup B))) most (length B) most (omega arith) (omega arith) in
    omega (
      arith,
      times,
      count_times (has_cell c) most (interactions (opening_of g.setup B)),
      total_within (λ x. get (force_on (pair_force g B) c x)) (λ x. cond (has_cell c x) most 0) (interactions (opening_of g.setup B)) (λ x k. acts_within get most none turned (pair_force g B x) (h x k) (same_cell c x.0) (same_cell c x.1)),
    )

pub node_bounded : (g : Gravity) (B : List BodyData) → AreBodies B → (most : ℕ) → AllByRecursion (λ x. IsAtMost most (pair_force g B x)) (interactions (opening_of g.setup B)) → (c : CellData) → IsAtMost (length B * most) (node_total g B c)
node_bounded g B a most h c =
    let at : (x : CellData × CellData) → Among x (interactions (opening_of g.setup B)) → IsAtMost most (pair_force g B x) = λ x k. each-among (λ x. IsAtMost most (pair_force g B x)) x (interactions (opening_of g.setup B)) h k in
    subst (IsAtMost (length B * most)) (sym (node_totals g B c)) (record {
      on_x = node_axis (λ v. v.x) refl (λ v. refl) g B a most (λ x k. (at x k).on_x) c;
      on_y = node_axis (λ v. v.y) refl (λ v. refl) g B a most (λ x k. (at x k).on_y) c;
      on_z = node_axis (λ v. v.z) refl (λ v. refl) g B a most (λ x k. (at x k).on_z) c;
    })

-- ---- a share

more_one : (b : Bool) → cond b 1 0 ≤ 1
more_one true = omega arith
more_one false = omega arith

part_most : (s m M : ℕ) → 0 < M → m ≤ M → s * m / M ≤ s
part_most s m M h k = let t : s * m ≤ s * M = mul-le s m s M (omega arith) k in let u : s * m / M < s + 1 = div_below (s * m) M (s + 1) h (omega arith) in omega arith

share_within : (q N : ℤ) (s m M small : ℕ) → N ≡ q *ℤ pos M +ℤ pos s → s < M → m ≤ M → small ≤ s + 1 → unsigned_abs (q *ℤ pos m +ℤ pos small) ≤ unsigned_abs N + M
share_within (pos q) N s m M small e h k l =
    let a : pos q *ℤ pos m ≡ pos (q * m) = pos-*ℤ-pos q m in
    let b : pos q *ℤ pos M ≡ pos (q * M) = pos-*ℤ-pos q M in
    let c : q * m ≤ q * M = mul-le q m q M (omega arith) k in
    omega (arith, ints)
share_within (negsuc q) N s m M small e h k l =
    let a : negsuc q *ℤ pos m ≡ neg_ℤ (pos (suc q * m)) = negsuc-*ℤ-pos q m in
    let b : negsuc q *ℤ pos M ≡ neg_ℤ (pos (suc q * M)) = negsuc-*ℤ-pos q M in
    let c : suc q * m ≤ suc q * M = mul-le (suc q) m (suc q) M (omega arith) k in
    let d : 1 * M ≤ suc q * M = mul-le 1 M (suc q) M (omega arith) (omega arith) in
    omega (arith, ints)

rest_below : (N : ℤ) (M : ℕ) → 0 < M → unsigned_abs (int_rem_euclid N (pos M)) < M
rest_below (pos a) M h = mod_below a M h
rest_below (negsuc a) M h = omega (arith, ints, mod_below a M h)

small_within : (s : ℕ) (ms : List BodyData) (b : BodyData) → 0 < mass_of ms → b.mass ≤ mass_of ms → small_share s ms b ≤ s + 1
unfolding small_share
small_within s ms b h k = omega (arith, part_most s b.mass (mass_of ms) h k, more_one (ltb (count_by (is_served_before s (mass_of ms) b) ms) (left_of s ms)))

pub share_bounded : (ms : List BodyData) (N : ℤ) (b : BodyData) → 0 < mass_of ms → Among b ms → unsigned_abs (share ms N b) ≤ unsigned_abs N + mass_of ms
unfolding share
share_bounded ms N b h k =
    let M : ℕ = mass_of ms in
    let q : ℤ = int_div_euclid N (pos M) in
    let s : ℕ = unsigned_abs (int_rem_euclid N (pos M)) in
    let light : b.mass ≤ M = among-le (λ b. b.mass) b ms k in
    share_within q N s b.mass M (small_share s ms b) (sym (ap (λ t. q *ℤ pos M +ℤ t) (rest_is N M) ∙ euclid_sum N (pos M) (omega (arith, ints)))) (rest_below N M h) light (small_within s ms b h light)

-- ---- a force

mass_filter_step : (b : BodyData) (ys : List BodyData) (t : Bool) (n : ℕ) → mass_of ys ≤ n → mass_of (cond t (b ∷ ys) ys) ≤ b.mass + n
mass_filter_step b ys true n h = omega (arith, sum_by-cons (λ b. b.mass) b ys, h)
mass_filter_step b ys false n h = omega (arith, h)

mass_filter : (t : BodyData → Bool) (B : List BodyData) → mass_of (filter t B) ≤ mass_of B
mass_filter t [] = omega arith
mass_filter t (b ∷ bs) = omega (arith, mass_filter_step b (filter t bs) (t b) (mass_of bs) (mass_filter t bs), sum_by-cons (λ b. b.mass) b bs)

constant : {X : Type 0} (n : ℕ) (xs : List X) → sum_by (λ x. n) xs ≡ length xs * n
constant n [] = omega arith
constant {X} n (x ∷ xs) = sum_by-cons {X = X} (λ y. n) x xs ∙ omega (arith, constant n xs)

force_axis : (B : List BodyData) → AllByRecursion (λ b. 1 ≤ b.mass) B → (total : CellData → ℤ) (most : ℕ) → ((c : CellData) → unsigned_abs (total c) ≤ most) → (b : BodyData) → Among b B → (levels : List ℕ) →
    unsigned_abs (total_by (λ l. share (members B (cell_at l b.motion.pos)) (total (cell_at l b.motion.pos)) b) levels) ≤ length levels * (most + mass_of B)
force_axis B heavy total most h b k levels =
    let at : (l : ℕ) → unsigned_abs (share (members B (cell_at l b.motion.pos)) (total (cell_at l b.motion.pos)) b) ≤ most + mass_of B = λ l.
    let c : CellData = cell_at l b.motion.pos in
    let there : Among b (members B c) = among-filter (λ b. contains c b.motion.pos) b B k (cell_at-contains l b.motion.pos) in
    let some : 0 < mass_of (members B c) = omega (arith, among-le (λ b. b.mass) b (members B c) there, each-among (λ b. 1 ≤ b.mass) b B heavy k) in
    omega (arith, share_bounded (members B c) (total c) b some there, h c, mass_filter (λ b. contains c b.motion.pos) B) in
    omega (arith, total_within (λ l. share (members B (cell_at l b.motion.pos)) (total (cell_at l b.motion.pos)) b) (λ l. most + mass_of B) levels (λ l _. at l), constant (most + mass_of B) levels)

force_levels : (g : Gravity) (B : List BodyData) (b : BodyData) → force_at g B b ≡ totals_by (λ c. share_of (members B c) (node_total g B c) b) (cells_around b.motion.pos)
unfolding force_at
force_levels g B b = sum_of-totals (λ c. share_of (members B c) (node_total g B c) b) (cells_around b.motion.pos)

around_within : (B : List BodyData) → AllByRecursion (λ b. 1 ≤ b.mass) B → (total : CellData → ℤ) (most : ℕ) → ((c : CellData) → unsigned_abs (total c) ≤ most) → (b : BodyData) → Among b B →
    unsigned_abs (total_by (λ c. share (members B c) (total c) b) (cells_around b.motion.pos)) ≤ 33 * (most + mass_of B)
around_within B heavy total most h b k =
    let mapped : total_by (λ c. share (members B c) (total c) b) (map (λ l. cell_at l b.motion.pos) (range_with_len 0 33)) ≡ total_by (λ l. share (members B (cell_at l b.motion.pos)) (total (cell_at l b.motion.pos)) b) (range_with_len 0 33) =
    total-mapped (λ c. share (members B c) (total c) b) (λ l. cell_at l b.motion.pos) (range_with_len 0 33) in
    subst (λ t. unsigned_abs t ≤ 33 * (most + mass_of B)) (sym mapped) (force_axis B heavy total most h b k (range_with_len 0 33))

pub force_bounded : (g : Gravity) (B : List BodyData) → AreBodies B → (most : ℕ) → AllByRecursion (λ x. IsAtMost most (pair_force g B x)) (interactions (opening_of g.setup B)) → (b : BodyData) → Among b B →
    IsAtMost (33 * (length B * most + mass_of B)) (force_at g B b)
force_bounded g B a most h b k =
    let n : (c : CellData) → IsAtMost (length B * most) (node_total g B c) = node_bounded g B a most h in
    subst (IsAtMost (33 * (length B * most + mass_of B))) (sym (force_levels g B b)) (record {
      on_x = around_within B a.heavy (λ c. (node_total g B c).x) (length B * most) (λ c. (n c).on_x) b k;
      on_y = around_within B a.heavy (λ c. (node_total g B c).y) (length B * most) (λ c. (n c).on_y) b k;
      on_z = around_within B a.heavy (λ c. (node_total g B c).z) (length B * most) (λ c. (n c).on_z) b k;
    })

all_from : (P : BodyData → Type 0) (xs : List BodyData) → ((x : BodyData) → Among x xs → P x) → AllByRecursion P xs
all_from P [] h = tt
all_from P (x ∷ xs) h = (h x (inl refl), all_from P xs (λ y k. h y (inr k)))

pub forces_bounded : (g : Gravity) (B : List BodyData) → AreBodies B → (most : ℕ) → AllByRecursion (λ x. IsAtMost most (pair_force g B x)) (interactions (opening_of g.setup B)) → AllByRecursion (λ b. IsAtMost (33 * (length B * most + mass_of B)) (force_at g B b)) B
forces_bounded g B a most h = all_from (λ b. IsAtMost (33 * (length B * most + mass_of B)) (force_at g B b)) B (force_bounded g B a most h)
