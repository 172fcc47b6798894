-- The members of a node are those of its children, one child after another.
use Rattle.std.proofs.Common.{◌≡◌, ℕ, zero, suc, ◌+◌, ◌-◌, ◌<◌, ◌≤◌, Bool, true, false, cond, ◌||◌, ◌*◌, List, [], ◌∷◌, ◌++◌, length, map, take, drop, sum_by, refl, ap, sym, ◌∙◌, subst, arith}
use Rattle.std.specs.Prelude.{slice_index_or}
use Rattle.std.specs.List.{filter, flat_map, list_any}
use Rattle.std.proofs.lemmas.List.{take_more, take-append-drop, append-nil}
use Rattle.std.proofs.lemmas.List.Concat.{flat_map-append}
use Rattle.std.proofs.lemmas.List.Sums.{sum_by-append}
use Rattle.std.proofs.lemmas.Bool.{false≢true}
use Rattle.std.proofs.lemmas.Nat.{mul-le}
use Rattle.cell_space.specs.Cells.{CellData, contains}
use Rattle.hilbert_keys.specs.Curve.{child_along, children_along, number_of, keys_in, IsCell}
use Rattle.hilbert_keys.proofs.Curves.{child_along_is}
use Rattle.nbody_model.specs.Bodies.{BodyData}
use Rattle.nbody_model.specs.Nodes.{positions_of, members, is_node, is_leaf}
use Rattle.octree_build.specs.Trees.{key_at, opened}
use Rattle.octree_build.specs.Slots.{edge, IsNode}
use Rattle.octree_build.specs.Sums.{AreLimited}
use Rattle.octree_build.proofs.Runs.{members_range}
use Rattle.octree_build.proofs.Edges.{child_low, child_high, edge_first, edge_last, count_more, place_at}
use Rattle.model_laws.proofs.Leaves.{shallow}

-- two ranges one behind the other
two_parts : {X : Type 0} (a b : ℕ) (xs : List X) → take a xs ++ take b (drop a xs) ≡ take (a + b) xs
two_parts zero b xs = let e : 0 + b ≡ b = omega arith in ap (λ n. take n xs) (sym e)
two_parts (suc a) b [] = nothing b ∙ sym (nothing (suc a + b))
  where
    nothing : {X : Type 0} (n : ℕ) → take {A = X} n [] ≡ []
    nothing zero = refl
    nothing (suc n) = refl
two_parts (suc a) b (x ∷ xs) = let e : suc a + b ≡ suc (a + b) = omega arith in ap (λ t. x ∷ t) (two_parts a b xs) ∙ ap (λ n. take n (x ∷ xs)) (sym e)

drop_twice : {X : Type 0} (a b : ℕ) (xs : List X) → drop b (drop a xs) ≡ drop (a + b) xs
drop_twice zero b xs = let e : 0 + b ≡ b = omega arith in ap (λ n. drop n xs) (sym e)
drop_twice (suc a) b [] = nothing b ∙ sym (nothing (suc a + b))
  where
    nothing : {X : Type 0} (n : ℕ) → drop {A = X} n [] ≡ []
    nothing zero = refl
    nothing (suc n) = refl
drop_twice (suc a) b (x ∷ xs) = let e : suc a + b ≡ suc (a + b) = omega arith in drop_twice a b xs ∙ ap (λ n. drop n (x ∷ xs)) (sym e)

abbrev range : List BodyData → ℕ → ℕ → List BodyData
range S low high = take (high - low) (drop low S)

join_ranges : (S : List BodyData) (a b d : ℕ) → a ≤ b → b ≤ d → range S a b ++ range S b d ≡ range S a d
join_ranges S a b d h l =
    let e : a + (b - a) ≡ b = omega (arith, h) in
    let f : b - a + (d - b) ≡ d - a = omega (arith, h, l) in
    ap (λ t. range S a b ++ take (d - b) t) (ap (λ n. drop n S) (sym e) ∙ sym (drop_twice a (b - a) S)) ∙ two_parts (b - a) (d - b) (drop a S) ∙ ap (λ n. take n (drop a S)) f

abbrev eight : List ℕ
eight = 0 ∷ 1 ∷ 2 ∷ 3 ∷ 4 ∷ 5 ∷ 6 ∷ 7 ∷ []

module _ (S : List BodyData) (c : CellData) (l : AreLimited S) (i : IsCell c) (h : c.level < 32) where
  child_members : (w : ℕ) → w < 8 → members S (child_along c w) ≡ range S (edge S c w) (edge S c (w + 1))
  child_members w k = members_range S l.in_box l.rises (child_along c w) (child_along_is c i h w k).0 ∙ (λ j. range S (child_low S c i h w k j) (child_high S c i h w k j))

  abbrev e : ℕ → ℕ
  e w = edge S c w

  edges_rise : (w : ℕ) → e w ≤ e (w + 1)
  edges_rise w = count_more key_at _ _ (edge_keys w) S
    where
      edge_keys : (w : ℕ) → (8 * number_of c + w) * keys_in (c.level + 1) ≤ (8 * number_of c + (w + 1)) * keys_in (c.level + 1)
      edge_keys w = mul-le (8 * number_of c + w) (keys_in (c.level + 1)) (8 * number_of c + (w + 1)) (keys_in (c.level + 1)) (omega arith) (omega arith)

  upto : (w : ℕ) → e 0 ≤ e w
  upto zero = omega arith
  upto (suc w) = let q : w + 1 ≡ suc w = omega arith in let r : e w ≤ e (suc w) = subst (λ t. e w ≤ e t) q (edges_rise w) in omega (arith, upto w, r)

  -- the members of the first children are a range
  first_children : (w : ℕ) → w ≤ 8 → flat_map (λ k. members S (child_along c k)) (take w eight) ≡ range S (e 0) (e w)
  first_children zero k = let z : e 0 - e 0 ≡ 0 = omega arith in ap (λ n. take n (drop (e 0) S)) (sym z)
  first_children (suc w) k =
      let q : suc w ≡ w + 1 = omega arith in
      let lt : w < 8 = omega (arith, k) in
      ap (λ t. flat_map (λ k. members S (child_along c k)) (take t eight)) q
      ∙ ap (flat_map (λ k. members S (child_along c k))) (take_more eight w 0 (omega (arith, lt)) ∙ ap (λ t. take w eight ++ t ∷ []) (place_at w lt))
      ∙ flat_map-append (λ k. members S (child_along c k)) (take w eight) (w ∷ [])
      ∙ (λ j. first_children w (omega (arith, lt)) j ++ append-nil (members S (child_along c w)) j)
      ∙ ap (λ t. range S (e 0) (e w) ++ t) (child_members w lt)
      ∙ join_ranges S (e 0) (e w) (e (w + 1)) (upto w) (edges_rise w)
      ∙ ap (λ t. range S (e 0) (e t)) (sym q)

  all_children : flat_map (members S) (children_along c) ≡ members S c
  all_children =
      mapped eight
      ∙ first_children 8 (omega arith)
      ∙ (λ j. range S (sym (edge_first S c h) j) (sym (edge_last S c h) j))
      ∙ sym (members_range S l.in_box l.rises c i)
    where
      mapped : (ws : List ℕ) → flat_map (members S) (map (child_along c) ws) ≡ flat_map (λ k. members S (child_along c k)) ws
      mapped [] = refl
      mapped (w ∷ ws) = ap (λ t. members S (child_along c w) ++ t) (mapped ws)

-- a cell that is no node has no members
no_members : (c : CellData) (S : List BodyData) → list_any (contains c) (positions_of S) ≡ false → members S c ≡ []
no_members c [] e = refl
no_members c (b ∷ S) e = ap (λ t. cond t (b ∷ members S c) (members S c)) parts.0 ∙ no_members c S parts.1
  where
    neither : (x y : Bool) → (x || y) ≡ false → (x ≡ false) × (y ≡ false)
    neither true y u = absurd (false≢true (sym u))
    neither false y u = (refl, u)

    parts : (contains c b.motion.pos ≡ false) × (list_any (contains c) (positions_of S) ≡ false)
    parts = neither (contains c b.motion.pos) (list_any (contains c) (positions_of S)) e

kept_members : (S : List BodyData) (cs : List CellData) → flat_map (members S) (filter (is_node (positions_of S)) cs) ≡ flat_map (members S) cs
unfolding is_node
kept_members S [] = refl
kept_members S (c ∷ cs) = by (list_any (contains c) (positions_of S)) refl (kept_members S cs)
  where
    by : (x : Bool) → list_any (contains c) (positions_of S) ≡ x → flat_map (members S) (filter (is_node (positions_of S)) cs) ≡ flat_map (members S) cs → flat_map (members S) (cond x (c ∷ filter (is_node (positions_of S)) cs) (filter (is_node (positions_of S)) cs)) ≡ members S c ++ flat_map (members S) cs
    by true u rest = ap (λ t. members S c ++ t) rest
    by false u rest = rest ∙ ap (λ t. t ++ flat_map (members S) cs) (sym (no_members c S u))

pub opened_members : (S : List BodyData) (c : CellData) → AreLimited S → IsNode (positions_of S) c → is_leaf (positions_of S) c ≡ false → flat_map (members S) (opened (positions_of S) c) ≡ members S c
unfolding opened
opened_members S c l n e =
    ap (λ t. flat_map (members S) (cond t [] (filter (is_node (positions_of S)) (children_along c)))) e
    ∙ kept_members S (children_along c)
    ∙ all_children S c l n.cell (shallow (record { positions = positions_of S; accept = λ a b. false }) c e)

pub flat_more : (S : List BodyData) (cs : List CellData) (j : ℕ) (x : CellData) → j < length cs → x ≡ slice_index_or cs j x → flat_map (members S) (take (j + 1) cs) ≡ flat_map (members S) (take j cs) ++ members S x
flat_more S cs j x h q =
    ap (flat_map (members S)) (take_more cs j x h ∙ ap (λ t. take j cs ++ t ∷ []) (sym q))
    ∙ flat_map-append (members S) (take j cs) (x ∷ [])
    ∙ ap (λ t. flat_map (members S) (take j cs) ++ t) (append-nil (members S x))

-- what a part of the children gives
pub some_opened : (f : BodyData → ℕ) (S : List BodyData) (c : CellData) (j : ℕ) (x : CellData) → AreLimited S → IsNode (positions_of S) c → is_leaf (positions_of S) c ≡ false → j < length (opened (positions_of S) c) → x ≡ slice_index_or (opened (positions_of S) c) j x
    → sum_by f (flat_map (members S) (take j (opened (positions_of S) c))) + sum_by f (members S x) ≤ sum_by f (members S c)
some_opened f S c j x l n e h q =
    let cs : List CellData = opened (positions_of S) c in
    let all : flat_map (members S) cs ≡ members S c = opened_members S c l n e in
    let more : flat_map (members S) (take (j + 1) cs) ≡ flat_map (members S) (take j cs) ++ members S x = flat_more S cs j x h q in
    let split : flat_map (members S) (take (j + 1) cs) ++ flat_map (members S) (drop (j + 1) cs) ≡ flat_map (members S) cs = sym (flat_map-append (members S) (take (j + 1) cs) (drop (j + 1) cs)) ∙ ap (flat_map (members S)) (take-append-drop (j + 1) cs) in
    omega (
      arith,
      sum_by-append f (flat_map (members S) (take j cs)) (members S x),
      ap (sum_by f) more,
      sum_by-append f (flat_map (members S) (take (j + 1) cs)) (flat_map (members S) (drop (j + 1) cs)),
      ap (sum_by f) split,
      ap (sum_by f) all,
    )
