-- Ranges of bodies in the order of the curve, and the sums over them.
use Rattle.std.proofs.Common.{◌≡◌, ℕ, ◌+◌, ◌-◌, ◌<◌, ◌≤◌, ◌^◌, true, List, [], ◌∷◌, ◌++◌, length, take, drop, get_or, sum_by, refl, ap, sym, ◌∙◌, arith}
use Rattle.std.specs.Prelude.{slice_index_or}
use Rattle.std.proofs.lemmas.List.{take_more, take-append-drop, get_or-drop, length-drop}
use Rattle.std.proofs.lemmas.List.Sums.{sum_by-append, sum_by-cons}
use Rattle.cell_space.specs.Cells.{CellData, contains}
use Rattle.nbody_model.specs.Bodies.{BodyData}
use Rattle.nbody_model.specs.Nodes.{members}
use Rattle.nbody_model.specs.Moments.{mass_of}
use Rattle.node_moments.specs.Sums.{RawData, raw_of}
use Rattle.octree_build.specs.Sums.{IsRange}
use Rattle.octree_build.proofs.Edges.{lies_in}
use Rattle.octree_build.proofs.Runs.{members_range}
use Rattle.octree_build.proofs.LeafTests.{some_there, within_all}
use Rattle.octree_build.proofs.Opens.{drop_at}
use Rattle.octree_build.proofs.Opened.{blank}

-- ---- what sums tell of their bodies

pub sum_cell : (soft : List ℕ) (c : CellData) (ms : List BodyData) (r : RawData) → r ≡ raw_of soft c ms → r.cell ≡ c
unfolding raw_of
sum_cell soft c ms r e = ap (λ (t : RawData). t.cell) e

pub sum_count : (soft : List ℕ) (c : CellData) (ms : List BodyData) (r : RawData) → r ≡ raw_of soft c ms → r.count ≡ length ms
unfolding raw_of
sum_count soft c ms r e = ap (λ (t : RawData). t.count) e

pub sum_mass : (soft : List ℕ) (c : CellData) (ms : List BodyData) (r : RawData) → r ≡ raw_of soft c ms → r.mass ≡ mass_of ms
unfolding raw_of
sum_mass soft c ms r e = ap (λ (t : RawData). t.mass) e

-- two sums in one cell are added
pub added : (soft : List ℕ) (c : CellData) (ms ns : List BodyData) (a b both : RawData) → ((ss : List ℕ) (xs ys : List BodyData) → a ≡ raw_of ss a.cell xs → b ≡ raw_of ss b.cell ys → both ≡ raw_of ss a.cell (xs ++ ys)) → a ≡ raw_of soft c ms → b ≡ raw_of soft c ns → both ≡ raw_of soft c (ms ++ ns)
added soft c ms ns a b both add e f =
    let x : a.cell ≡ c = sum_cell soft c ms a e in
    let y : b.cell ≡ c = sum_cell soft c ns b f in
    add soft ms ns (e ∙ ap (λ t. raw_of soft t ms) (sym x)) (f ∙ ap (λ t. raw_of soft t ns) (sym y)) ∙ ap (λ t. raw_of soft t (ms ++ ns)) x

-- ---- ranges

abbrev pub part : List BodyData → ℕ → ℕ → List BodyData
part S low k = take (k - low) (drop low S)

pub part_one : (S : List BodyData) (low : ℕ) (b : BodyData) → low < length S → b ≡ slice_index_or S low b → part S low (low + 1) ≡ b ∷ []
part_one S low b h e =
    let n : low + 1 - low ≡ 1 = omega arith in
    ap (λ t. take t (drop low S)) n ∙ ap (take 1) (drop_at b S low h) ∙ ap (λ t. t ∷ []) (sym e)

pub part_more : (S : List BodyData) (low k : ℕ) (b : BodyData) → low ≤ k → k < length S → b ≡ slice_index_or S k b → part S low (k + 1) ≡ part S low k ++ b ∷ []
part_more S low k b h l e =
    let n : k + 1 - low ≡ k - low + 1 = omega (arith, h) in
    let m : low + (k - low) ≡ k = omega (arith, h) in
    ap (λ t. take t (drop low S)) n ∙ take_more (drop low S) (k - low) b (omega (arith, length-drop low S, h, l)) ∙ ap (λ t. part S low k ++ t ∷ []) (get_or-drop low S (k - low) b ∙ ap (λ t. get_or S t b) m ∙ sym e)

pub sum_taken : {X : Type 0} (f : X → ℕ) (n : ℕ) (xs : List X) → sum_by f (take n xs) ≤ sum_by f xs
sum_taken f n xs = omega (arith, sum_by-append f (take n xs) (drop n xs), ap (sum_by f) (take-append-drop n xs))

sum_dropped : {X : Type 0} (f : X → ℕ) (n : ℕ) (xs : List X) → sum_by f (drop n xs) ≤ sum_by f xs
sum_dropped f n xs = omega (arith, sum_by-append f (take n xs) (drop n xs), ap (sum_by f) (take-append-drop n xs))

one_more : (f : BodyData → ℕ) (S : List BodyData) (low k : ℕ) (b : BodyData) → low ≤ k → k < length S → b ≡ slice_index_or S k b → sum_by f (part S low k) + f b ≤ sum_by f S
one_more f S low k b h l e =
    let u : sum_by f (b ∷ []) ≡ f b = omega (arith, sum_by-cons f b []) in
    omega (arith, u, sum_by-append f (part S low k) (b ∷ []), ap (sum_by f) (part_more S low k b h l e), sum_taken f (k + 1 - low) (drop low S), sum_dropped f low S)

pub ones_are : {X : Type 0} (xs : List X) → length xs ≡ sum_by (λ x. 1) xs
ones_are [] = refl
ones_are (x ∷ xs) = omega (arith, sum_by-cons (λ x. 1) x xs, ones_are xs)

-- ---- a node's range

module _ (S : List BodyData) (c : CellData) (low high : ℕ) (r : IsRange S c low high) where
  pub range_some : low < high
  range_some = omega (arith, r.begins, r.ends, some_there S c r.node r.limited.in_box r.limited.rises blank)

  pub range_within : high ≤ length S
  range_within = omega (arith, r.ends, within_all S c r.node r.limited.in_box r.limited.rises blank)

  pub range_inside : (k : ℕ) (d : BodyData) → low ≤ k → k < high → contains c (slice_index_or S k d).motion.pos ≡ true
  range_inside k d h l = lies_in S c r.node.cell r.limited.in_box r.limited.rises d k (omega (arith, r.begins, h)) (omega (arith, r.ends, l))

  pub range_all : part S low high ≡ members S c
  range_all = (λ i. part S (r.begins i) (r.ends i)) ∙ sym (members_range S r.limited.in_box r.limited.rises c r.node.cell)

  module _ (soft : List ℕ) (k : ℕ) (sum : RawData) (b : BodyData) (h : low ≤ k) (l : k < high) (e : b ≡ slice_index_or S k b) (is : sum ≡ raw_of soft c (part S low k)) where
    pub range_room : sum.count < 1048576
    range_room = omega (arith, sum_count soft c (part S low k) sum is, ones_are (part S low k), ones_are S, one_more (λ b. 1) S low k b h (omega (arith, l, range_within)) e, r.limited.few)

    pub range_light : sum.mass + b.mass ≤ 2 ^ 32
    range_light = omega (arith, sum_mass soft c (part S low k) sum is, one_more (λ b. b.mass) S low k b h (omega (arith, l, range_within)) e, r.limited.light)
