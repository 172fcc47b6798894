-- A tree has at most 33 nodes for each body.
use Rattle.std.proofs.Common.{◌≡◌, ℕ, zero, suc, ◌+◌, ◌-◌, ◌*◌, ◌≤◌, Bool, true, false, cond, List, [], ◌∷◌, ◌++◌, length, sum_by, refl, ap, sym, ◌∙◌, subst, arith, inl, inr}
use Rattle.std.specs.List.{filter, flat_map, AllByRecursion}
use Rattle.std.proofs.lemmas.Nat.{mul-le}
use Rattle.std.proofs.lemmas.List.Sums.{sum_by-cons, sum_by-append, length-filter, count_by-le-length}
use Rattle.cell_space.specs.Cells.{Position, CellData, root_cell, contains}
use Rattle.hilbert_keys.specs.Curve.{children_along, turn_of, child_at, IsCell}
use Rattle.hilbert_keys.proofs.Curves.{child_is_cell}
use Rattle.nbody_model.specs.Bodies.{BodyData}
use Rattle.nbody_model.specs.Nodes.{positions_of, members, is_node, is_leaf}
use Rattle.model_laws.proofs.Among.{Among, Witness, any-witness, among-filter}
use Rattle.model_laws.proofs.Cancel.{BodyAt, body_at}
use Rattle.model_laws.proofs.Sums.{sum_by-flat_map}
use Rattle.octree_build.specs.Trees.{opened, top, IsGrown}
use Rattle.octree_build.specs.Slots.{IsNode, size_in}
use Rattle.octree_build.specs.Sums.{AreLimited}
use Rattle.octree_build.proofs.Once.{FromOpened, Opened, from_opened, have_nodes, root_is_cell}
use Rattle.octree_build.proofs.Joined.{opened_members}
use Rattle.octree_build.proofs.Parts.{ones_are}

-- how many cells stand at a cell and below it
abbrev size : List Position → CellData → ℕ
size ps c = size_in ps (33 - c.level) c

sizes_at : (ps : List Position) (n : ℕ) (xs : List CellData) → ((x : CellData) → Among x xs → 33 - x.level ≡ n) → sum_by (size ps) xs ≡ sum_by (size_in ps n) xs
sizes_at ps n [] k = refl
sizes_at ps n (x ∷ xs) k = omega (arith, sum_by-cons (size ps) x xs, sum_by-cons (size_in ps n) x xs, ap (λ n. size_in ps n x) (k x (inl refl)), sizes_at ps n xs (λ y l. k y (inr l)))

size_is : (ps : List Position) (c : CellData) → c.level ≤ 32 → size ps c ≡ suc (sum_by (size ps) (opened ps c))
unfolding size_in
size_is ps c h =
    let e : 33 - c.level ≡ suc (32 - c.level) = omega (arith, h) in
    ap (λ t. size_in ps t c) e ∙ ap suc (sym (sizes_at ps (32 - c.level) (opened ps c) (λ x l. level x (from_opened ps c x l))))
  where
    level : (x : CellData) → FromOpened ps c x → 33 - x.level ≡ 32 - c.level
    level x (Opened f s w l u n) = let v : x.level ≡ c.level + 1 = ap (λ t. t.level) u in omega (arith, v)

all_sizes : (ps : List Position) (xs : List CellData) → AllByRecursion IsCell xs → sum_by (size ps) xs ≡ length xs + sum_by (λ c. sum_by (size ps) (opened ps c)) xs
all_sizes ps [] a = refl
all_sizes ps (x ∷ xs) a = omega (arith, sum_by-cons (size ps) x xs, sum_by-cons (λ c. sum_by (size ps) (opened ps c)) x xs, size_is ps x a.0.shallow, all_sizes ps xs a.1)

-- a grown list is as long as the root's size
pub length_is : (ps : List Position) (cells : List CellData) → IsGrown ps cells → length cells ≡ sum_by (size ps) (top ps)
length_is ps cells g =
    let a : sum_by (size ps) cells ≡ sum_by (size ps) (top ps) + sum_by (size ps) (flat_map (opened ps) cells) = ap (sum_by (size ps)) g.grown ∙ sum_by-append (size ps) (top ps) (flat_map (opened ps) cells) in
    let b : sum_by (size ps) (flat_map (opened ps) cells) ≡ sum_by (λ c. sum_by (size ps) (opened ps c)) cells = sum_by-flat_map (size ps) (opened ps) cells in
    omega (arith, a, b, all_sizes ps cells (have_nodes ps cells g).each)

-- ---- a cell's size, by its members

some_among : (b : BodyData) (ms : List BodyData) → Among b ms → 1 ≤ length ms
some_among b [] h = absurd h
some_among b (m ∷ ms) h = omega arith

pub node_some : (S : List BodyData) (c : CellData) → is_node (positions_of S) c ≡ true → 1 ≤ length (members S c)
unfolding is_node
node_some S c e =
    let w : Witness (contains c) (positions_of S) = any-witness (contains c) (positions_of S) e in
    let b : BodyAt w.it S = body_at w.it S w.«in» in
    some_among b.it (members S c) (among-filter (λ b. contains c b.motion.pos) b.it S b.«in» (ap (contains c) b.at ∙ w.passes))

members_below : (S : List BodyData) (xs : List CellData) → sum_by (λ x. length (members S x)) xs ≡ length (flat_map (members S) xs)
members_below S xs = by xs
  where
    by : (xs : List CellData) → sum_by (λ x. length (members S x)) xs ≡ length (flat_map (members S) xs)
    by [] = refl
    by (x ∷ xs) = omega (arith, sum_by-cons (λ x. length (members S x)) x xs, by xs, ones_are (members S x ++ flat_map (members S) xs), sum_by-append (λ b. 1) (members S x) (flat_map (members S) xs), ones_are (members S x), ones_are (flat_map (members S) xs))

pub no_opened : (ps : List Position) (c : CellData) → is_leaf ps c ≡ true → opened ps c ≡ []
unfolding opened
no_opened ps c e = ap (λ b. cond b [] (filter (is_node ps) (children_along c))) e

module _ (S : List BodyData) (l : AreLimited S) where
  abbrev ps : List Position
  ps = positions_of S

  abbrev many : CellData → ℕ
  many c = length (members S c)

  bounded_each : (n : ℕ) (xs : List CellData) → ((x : CellData) → Among x xs → size_in ps n x ≤ n * many x) → sum_by (size_in ps n) xs ≤ n * sum_by many xs
  bounded_each n [] h = omega arith
  bounded_each n (x ∷ xs) h =
      let e : n * (many x + sum_by many xs) ≡ n * many x + n * sum_by many xs = omega arith in
      omega (arith, sum_by-cons (size_in ps n) x xs, ap (λ t. n * t) (sum_by-cons many x xs), e, h x (inl refl), bounded_each n xs (λ y i. h y (inr i)))

  size_step : (n : ℕ) (c : CellData) → IsNode ps c → (b : Bool) → is_leaf ps c ≡ b → ((x : CellData) → Among x (opened ps c) → size_in ps n x ≤ n * many x) → suc (sum_by (size_in ps n) (opened ps c)) ≤ suc n * many c
  size_step n c i true e h =
      let z : sum_by (size_in ps n) (opened ps c) ≡ 0 = ap (sum_by (size_in ps n)) (no_opened ps c e) in
      let m : suc n * 1 ≤ suc n * many c = mul-le (suc n) 1 (suc n) (many c) (omega arith) (node_some S c i.node) in
      omega (arith, z, m)
  size_step n c i false e h =
      let s : sum_by many (opened ps c) ≡ many c = members_below S (opened ps c) ∙ ap length (opened_members S c l i e) in
      let m : sum_by (size_in ps n) (opened ps c) ≤ n * many c = subst (λ t. sum_by (size_in ps n) (opened ps c) ≤ n * t) s (bounded_each n (opened ps c) h) in
      let f : suc n * many c ≡ many c + n * many c = omega arith in
      omega (arith, m, f, node_some S c i.node)

  size_within : (n : ℕ) (c : CellData) → IsNode ps c → c.level + n ≡ 33 → size_in ps n c ≤ n * many c
  unfolding size_in
  size_within zero c i e = absurd (omega (arith, e, i.cell.shallow))
  size_within (suc n) c i e = size_step n c i (is_leaf ps c) refl (λ x h. by (λ x i e. size_within n x i e) x (from_opened ps c x h))
    where
      by : ((x : CellData) → IsNode ps x → x.level + n ≡ 33 → size_in ps n x ≤ n * many x) → (x : CellData) → FromOpened ps c x → size_in ps n x ≤ n * many x
      by rest x (Opened f s w k u m) =
          let v : x.level ≡ c.level + 1 = ap (λ t. t.level) u in
          rest x (record { cell = subst IsCell (sym u) (child_is_cell c (child_at (turn_of c) w) i.cell s); node = m }) (omega (arith, v, e))

  pub cells_few : (cells : List CellData) → IsGrown ps cells → length cells ≤ 33 * length S
  cells_few cells g = by (is_node ps root_cell) refl
    where
      all_of : many root_cell ≤ length S
      all_of = omega (arith, length-filter (λ b. contains root_cell b.motion.pos) S, count_by-le-length (λ b. contains root_cell b.motion.pos) S)

      by : (b : Bool) → is_node ps root_cell ≡ b → length cells ≤ 33 * length S
      by true e =
          let t : sum_by (size ps) (top ps) ≡ size ps root_cell = ap (λ b. sum_by (size ps) (cond b (root_cell ∷ []) [])) e ∙ omega (arith, sum_by-cons (size ps) root_cell []) in
          let k : size_in ps 33 root_cell ≤ 33 * many root_cell = size_within 33 root_cell (record { cell = root_is_cell; node = e }) refl in
          omega (arith, length_is ps cells g, t, k, all_of)
      by false e = let t : sum_by (size ps) (top ps) ≡ 0 = ap (λ b. sum_by (size ps) (cond b (root_cell ∷ []) [])) e in omega (arith, length_is ps cells g, t)
