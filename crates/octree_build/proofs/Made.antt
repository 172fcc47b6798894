-- The nodes of a whole tree.
use Rattle.std.proofs.Common.{◌≡◌, ℕ, suc, ◌+◌, ◌-◌, ◌*◌, ◌<◌, ◌≤◌, Bool, true, false, List, [], ◌∷◌, ◌++◌, length, take, drop, refl, ap, sym, ◌∙◌, subst, arith, ◌⊎◌, inl, inr}
use Rattle.std.specs.Prelude.{slice_index_or}
use Rattle.std.specs.List.{flat_map, AllByRecursion}
use Rattle.std.proofs.lemmas.Bool.{cases_lt}
use Rattle.std.proofs.lemmas.List.{take_more, take_all, map-append, length-append, length-map, append_assoc, append-nil, get_or_push, get_or_append_left, get_or_default, get_or-take, get_or-drop}
use Rattle.std.proofs.lemmas.List.Concat.{flat_map-append}
use Rattle.cell_space.specs.Cells.{Position, CellData}
use Rattle.nbody_model.specs.Bodies.{BodyData}
use Rattle.nbody_model.specs.Setups.{SetupData}
use Rattle.nbody_model.specs.Nodes.{positions_of, is_node, is_leaf}
use Rattle.nbody_model.specs.Moments.{MomentsData, moments}
use Rattle.node_moments.specs.Sums.{RawData}
use Rattle.node_moments.specs.Conditions.{IsSumOf, IsOfNode}
use Rattle.octree_build.specs.Trees.{opened, top, IsGrown, first_child, low_of, high_of, IsOver, NodeData, cells_of, IsNodeOf, AreNodes, IsWithin, AreWithin}
use Rattle.octree_build.specs.Laws.{AreBeside}
use Rattle.octree_build.specs.Slots.{SlotData, cells_in, IsNode, IsGrowth}
use Rattle.octree_build.specs.Sums.{AreLimited, AreSums, HaveWhole, HaveChildSums, IsMade, IsRange, sum_in}
use Rattle.octree_build.proofs.Grown.{are_beside}
use Rattle.octree_build.proofs.Opens.{as_many, at_slot, cell_at_place}
use Rattle.octree_build.proofs.Alike.{opened_alike, grown_alike, first_alike}
use Rattle.octree_build.proofs.Parts.{sum_cell, range_some, range_within}
use Rattle.octree_build.proofs.Seen.{limited, sum_of, setup_with}
use Rattle.octree_build.proofs.Few.{cells_few, no_opened}
use Rattle.octree_build.proofs.Listed.{listed_node}
use Rattle.std.proofs.lemmas.List.Sorted.{IsPermutation-sym}

-- where the children of the next cell begin
pub first_next : (ps : List Position) (cells : List CellData) (i : ℕ) (d : CellData) → i < length cells → first_child ps cells (i + 1) ≡ first_child ps cells i + length (opened ps (slice_index_or cells i d))
first_next ps cells i d h =
    let here : List CellData = opened ps (slice_index_or cells i d) in
    let a : flat_map (opened ps) (take (i + 1) cells) ≡ flat_map (opened ps) (take i cells) ++ opened ps (slice_index_or cells i d) = ap (flat_map (opened ps)) (take_more cells i d h) ∙ flat_map-append (opened ps) (take i cells) (slice_index_or cells i d ∷ []) ∙ ap (λ t. flat_map (opened ps) (take i cells) ++ t) (append-nil here) in
    ap (λ t. length (top ps ++ t)) a ∙ ap length (sym (append_assoc (top ps) (flat_map (opened ps) (take i cells)) here)) ∙ length-append (top ps ++ flat_map (opened ps) (take i cells)) here

all_at : {X : Type 0} (P : X → Type 0) (xs : List X) → ((i : ℕ) (d : X) → i < length xs → P (slice_index_or xs i d)) → AllByRecursion P xs
all_at P [] h = tt
all_at P (x ∷ xs) h = (h 0 x (omega arith), all_at P xs (λ i d l. h (suc i) d (omega (arith, l))))

-- ---- what is known of the cell at a place
module _ (soft : List ℕ) (S : List BodyData) (slots : List SlotData) (firsts : List ℕ) (w : HaveWhole soft S) (g : IsGrowth S slots firsts) (i : ℕ) (h : i < length slots) (x : SlotData) (q : x ≡ slice_index_or slots i x) where
  abbrev cells : List CellData
  cells = cells_in slots

  kept : AreLimited S
  kept = limited soft w.whole S w.over

  pub slot_facts : (x.low ≡ low_of S x.cell) × (x.high ≡ high_of S x.cell) × IsNode (positions_of S) x.cell
  slot_facts = at_slot S slots g.tree.ranges g.tree.nodes x i h q

  within_cells : i < length cells
  within_cells = omega (arith, h, as_many slots)

  pub cell_there : (d : CellData) → x.cell ≡ slice_index_or cells i d
  cell_there d = ap (λ t. t.cell) q ∙ sym (cell_at_place x slots i h) ∙ get_or_default cells i x.cell d within_cells

  pub slot_range : IsRange S x.cell x.low x.high
  slot_range = record { limited = kept; node = slot_facts.2; begins = slot_facts.0; ends = slot_facts.1 }

  pub few_cells : length slots ≤ 33 * 1048576
  few_cells = omega (arith, as_many slots, cells_few S kept cells g.tree.grown, kept.few)

  pub beside : AreBeside (positions_of S) cells i x.cell
  beside = subst (AreBeside (positions_of S) cells i) (sym (cell_there x.cell)) (are_beside (positions_of S) cells g.tree.grown x.cell i within_cells)

  module _ (first end : ℕ) (f : first ≡ slice_index_or firsts i first) (e : end ≡ first_child (positions_of S) cells (i + 1)) where
    pub first_is : first ≡ first_child (positions_of S) cells i
    first_is = f ∙ g.begins.each i first h

    pub number_is : end ≡ first + length (opened (positions_of S) x.cell)
    number_is = e ∙ first_next (positions_of S) cells i x.cell within_cells ∙ (λ j. sym first_is j + length (opened (positions_of S) (sym (cell_there x.cell) j)))

    pub end_within : end ≤ length slots
    end_within = omega (arith, number_is, first_is, beside.within, as_many slots)

    pub first_later : i < first
    first_later = omega (arith, f, g.begins.later i first h)

    -- the sums of the children, where those of all cells after the node are known
    pub child_sums : (raws : List RawData) → AreSums soft S cells (i + 1) raws → (first ≡ end → ⊥) → HaveChildSums soft S x.cell raws (length slots - first) (end - first)
    child_sums raws u apart = record {
      whole = w;
      node = slot_facts.2;
      inner = not_leaf (is_leaf (positions_of S) x.cell) refl;
      all = omega (arith, number_is);
      within = omega (arith, first_later, u.long, as_many slots);
      below = omega (arith, end_within);
      each = λ j d e l.
          let k : ℕ = first + j in
          let m : length slots - first - 1 - j ≡ length cells - 1 - (first + j) = omega (arith, as_many slots) in
          let n : j < length (opened (positions_of S) x.cell) = omega (arith, l, number_is) in
          ap (λ t. slice_index_or raws t d) m
          ∙ u.each k d e (omega (arith, first_later)) (omega (arith, l, end_within, as_many slots))
          ∙ ap (sum_in soft S) ((λ t. slice_index_or cells (first_is t + j) e)
          ∙ sym (get_or-drop (first_child (positions_of S) cells i) cells j e)
          ∙ sym (get_or-take (length (opened (positions_of S) x.cell)) (drop (first_child (positions_of S) cells i) cells) j e n)
          ∙ ap (λ xs. slice_index_or xs j e) beside.are);
    }
      where
        not_leaf : (b : Bool) → is_leaf (positions_of S) x.cell ≡ b → b ≡ false
        not_leaf true q = absurd (apart (omega (arith, number_is, ap length (no_opened (positions_of S) x.cell q))))
        not_leaf false q = refl

  module _ (raws : List RawData) (u : AreSums soft S cells 0 raws) (r : RawData) (v : r ≡ slice_index_or raws (length raws - 1 - i) r) where
    pub sum_there : r ≡ sum_in soft S x.cell
    sum_there =
        let l : length raws - 1 - i ≡ length cells - 1 - i = omega (arith, u.long) in
        v ∙ ap (λ t. slice_index_or raws t r) l ∙ u.each i r x.cell (omega arith) within_cells ∙ ap (sum_in soft S) (sym (cell_there x.cell))

    pub raw_node : IsOfNode r
    raw_node = record { setup = setup_with soft; all = w.whole; sums = sum_of (setup_with soft) w.whole S r x.cell w.over slot_facts.2.node sum_there }

-- the node that is made is that of the tree
pub node_made : (s : SetupData) (B S : List BodyData) (slots : List SlotData) (firsts : List ℕ) (raws : List RawData) (m : IsMade s.soft S slots firsts raws) (o : IsOver s.soft B S) (i : ℕ) (h : i < length slots) (x : SlotData) (q : x ≡ slice_index_or slots i x)
    (first end : ℕ) → first ≡ slice_index_or firsts i first → end ≡ first_child (positions_of S) (cells_in slots) (i + 1) → (r : RawData) → r ≡ slice_index_or raws (length raws - 1 - i) r
    → (a : MomentsData) → (IsSumOf s B r → a ≡ moments s B r.cell) → IsNodeOf s B S (cells_in slots) i (record { moments = a; first = first; number = end - first; low = x.low; high = x.high })
unfolding moments
node_made s B S slots firsts raws m o i h x q first end f e r g a k =
    let node : is_node (positions_of S) x.cell ≡ true = (slot_facts s.soft S slots firsts m.whole m.growth i h x q).2.node in
    let sum : r ≡ sum_in s.soft S x.cell = sum_there s.soft S slots firsts m.whole m.growth i h x q raws m.sums r g in
    let at : r.cell ≡ x.cell = sum_cell s.soft x.cell _ r sum in
    let is : a ≡ moments s B x.cell = k (sum_of s B S r x.cell o node sum) ∙ ap (moments s B) at in
    let cell : a.cell ≡ x.cell = ap (λ t. t.cell) is ∙ cell_of_moments s B x.cell in
    let n : end - first ≡ length (opened (positions_of S) x.cell) = omega (arith, number_is s.soft S slots firsts m.whole m.growth i h x q first end f e) in
    record {
      cell = λ d. cell ∙ cell_there s.soft S slots firsts m.whole m.growth i h x q d;
      moments = is ∙ ap (moments s B) (sym cell);
      first = first_is s.soft S slots firsts m.whole m.growth i h x q first end f e ∙ sym (first_alike B S o.along.permuted (cells_in slots) i);
      later = first_later s.soft S slots firsts m.whole m.growth i h x q first end f e;
      number = n ∙ (λ j. length (sym (opened_alike B S o.along.permuted) j (sym cell j)));
      low = (slot_facts s.soft S slots firsts m.whole m.growth i h x q).0 ∙ ap (low_of S) (sym cell);
      high = (slot_facts s.soft S slots firsts m.whole m.growth i h x q).1 ∙ ap (high_of S) (sym cell);
    }
  where
    cell_of_moments : (s : SetupData) (B : List BodyData) (c : CellData) → (moments s B c).cell ≡ c
    cell_of_moments s B c = refl

-- ---- all nodes

pub record HasFirst (s : SetupData) (B S : List BodyData) (cells : List CellData) (i : ℕ) (nodes : List NodeData) : Type 0 where
  pub are : cells_of nodes ≡ take i cells
  pub long : length nodes ≡ i
  pub each : (d : NodeData) (k : ℕ) → k < i → IsNodeOf s B S cells k (slice_index_or nodes k d)

pub none_yet : (s : SetupData) (B S : List BodyData) (cells : List CellData) (nodes : List NodeData) → nodes ≡ [] → HasFirst s B S cells 0 nodes
none_yet s B S cells nodes e = record { are = ap cells_of e; long = ap length e; each = λ d k h. absurd (omega (arith, h)) }

pub one_more_node : (s : SetupData) (B S : List BodyData) (cells : List CellData) (i : ℕ) (nodes : List NodeData) (n : NodeData) → i < length cells → HasFirst s B S cells i nodes → IsNodeOf s B S cells i n → HasFirst s B S cells (i + 1) (nodes ++ n ∷ [])
one_more_node s B S cells i nodes n h f o = record {
  are = map-append (λ n. n.moments.cell) nodes (n ∷ []) ∙ (λ j. f.are j ++ o.cell n.moments.cell j ∷ []) ∙ sym (take_more cells i n.moments.cell h);
  long = length-append nodes (n ∷ []) ∙ ap (λ t. t + 1) f.long;
  each = λ d k l. by d k l (cases_lt k i);
}
  where
    by : (d : NodeData) (k : ℕ) → k < i + 1 → (k < i) ⊎ (i ≤ k) → IsNodeOf s B S cells k (slice_index_or (nodes ++ n ∷ []) k d)
    by d k l (inl u) = subst (IsNodeOf s B S cells k) (sym (get_or_append_left nodes (n ∷ []) d k (omega (arith, u, f.long)))) (f.each d k u)
    by d k l (inr u) =
        let e : i ≡ k = omega (arith, l, u) in
        subst (λ t. IsNodeOf s B S cells t (slice_index_or (nodes ++ n ∷ []) t d)) e (subst (IsNodeOf s B S cells i) (sym (get_or_push nodes n d i f.long)) o)

pub all_nodes : (s : SetupData) (B S : List BodyData) (slots : List SlotData) (firsts : List ℕ) (raws : List RawData) (i : ℕ) (nodes : List NodeData) → IsMade s.soft S slots firsts raws → IsOver s.soft B S → length slots ≤ i → i ≤ length slots → HasFirst s B S (cells_in slots) i nodes → AreNodes s B S nodes
all_nodes s B S slots firsts raws i nodes m o h l f =
    let e : cells_of nodes ≡ cells_in slots = f.are ∙ take_all i (cells_in slots) (omega (arith, h, as_many slots)) in
    record {
      grown = subst (IsGrown (positions_of B)) (sym e) (grown_alike S B (IsPermutation-sym B S o.along.permuted) (cells_in slots) m.growth.tree.grown);
      each = λ d k u. subst (λ t. IsNodeOf s B S t k (slice_index_or nodes k d)) (sym e) (f.each d k (omega (arith, u, f.long)));
    }

-- ---- what the tree keeps

pub tree_within : (s : SetupData) (B S : List BodyData) (nodes : List NodeData) (soft : List ℕ) → IsOver s.soft B S → AreNodes s B S nodes → AreWithin (record { bodies = S; nodes = nodes; soft = soft })
tree_within s B S nodes soft o a = record {
  few = omega (arith, many, kept.few);
  each = all_at (IsWithin (length S) (length nodes)) nodes (λ i d h. one i d h (a.each d i h));
}
  where
    kept : AreLimited S
    kept = limited s.soft B S o

    grown : IsGrown (positions_of S) (cells_of nodes)
    grown = grown_alike B S o.along.permuted (cells_of nodes) a.grown

    long : length (cells_of nodes) ≡ length nodes
    long = length-map nodes (λ n. n.moments.cell)

    many : length nodes ≤ 33 * length S
    many = omega (arith, long, cells_few S kept (cells_of nodes) grown)

    one : (i : ℕ) (d : NodeData) → i < length nodes → IsNodeOf s B S (cells_of nodes) i (slice_index_or nodes i d) → IsWithin (length S) (length nodes) (slice_index_or nodes i d)
    one i d h n =
        let x : NodeData = slice_index_or nodes i d in
        let c : CellData = x.moments.cell in
        let r : IsRange S c x.low x.high = record { limited = kept; node = listed_node (positions_of S) (cells_of nodes) grown i c (omega (arith, h, long)) (n.cell c); begins = n.low; ends = n.high } in
        let b : AreBeside (positions_of B) (cells_of nodes) i c = subst (AreBeside (positions_of B) (cells_of nodes) i) (sym (n.cell c)) (are_beside (positions_of B) (cells_of nodes) a.grown c i (omega (arith, h, long))) in
        record {
          some = range_some S c x.low x.high r;
          members = range_within S c x.low x.high r;
          children = omega (arith, n.first, n.number, b.within, long);
        }

-- an element that is read with a default of 0
pub at_any : (xs : List ℕ) (i : ℕ) → i < length xs → slice_index_or xs i 0 ≡ slice_index_or xs i (slice_index_or xs i 0)
at_any xs i h = get_or_default xs i 0 (slice_index_or xs i 0) h
