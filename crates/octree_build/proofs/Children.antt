-- The sums of a node by those of its children.
use Rattle.std.proofs.Common.{◌≡◌, ℕ, zero, suc, ◌+◌, ◌-◌, ◌<◌, ◌≤◌, ◌^◌, false, not, List, [], ◌∷◌, ◌++◌, length, take, sum_by, refl, ap, sym, ◌∙◌, arith}
use Rattle.std.specs.Prelude.{slice_index_or}
use Rattle.std.specs.List.{flat_map}
use Rattle.std.proofs.lemmas.List.{take_all}
use Rattle.std.proofs.lemmas.List.Filters.{sum_by-filter_both}
use Rattle.cell_space.specs.Cells.{CellData, contains}
use Rattle.cell_space.proofs.Cells.{child_within}
use Rattle.hilbert_keys.specs.Curve.{turn_of, child_at}
use Rattle.hilbert_keys.proofs.Turns.{is_good}
use Rattle.hilbert_keys.proofs.Curves.{is_turn}
use Rattle.nbody_model.specs.Bodies.{BodyData}
use Rattle.nbody_model.specs.Nodes.{positions_of, members, is_leaf}
use Rattle.node_moments.specs.Sums.{RawData, raw_of}
use Rattle.octree_build.specs.Trees.{opened}
use Rattle.octree_build.specs.Slots.{IsNode}
use Rattle.octree_build.specs.Sums.{AreLimited, HaveChildSums, IsChildSum, sum_in}
use Rattle.octree_build.proofs.Edges.{among-at}
use Rattle.octree_build.proofs.Once.{FromOpened, Opened, from_opened}
use Rattle.octree_build.proofs.Joined.{opened_members, some_opened, flat_more}
use Rattle.octree_build.proofs.Few.{node_some}
use Rattle.octree_build.proofs.Parts.{added, ones_are, sum_cell, sum_count, sum_mass}
use Rattle.octree_build.proofs.Seen.{limited}

kept_at_most : (f : BodyData → ℕ) (S : List BodyData) (c : CellData) → sum_by f (members S c) ≤ sum_by f S
kept_at_most f S c = omega (arith, sum_by-filter_both (λ b. contains c b.motion.pos) (λ b. not (contains c b.motion.pos)) (λ _. refl) f S)

-- a node that is no leaf has a child
pub some_child : (S : List BodyData) (c : CellData) → AreLimited S → IsNode (positions_of S) c → is_leaf (positions_of S) c ≡ false → 0 < length (opened (positions_of S) c)
some_child S c l n e = by (opened (positions_of S) c) refl
  where
    by : (cs : List CellData) → opened (positions_of S) c ≡ cs → 0 < length (opened (positions_of S) c)
    by [] q =
        let m : members S c ≡ [] = sym (opened_members S c l n e) ∙ ap (flat_map (members S)) q in
        absurd (omega (arith, node_some S c n.node, ap length m))
    by (x ∷ xs) q = let u : length (opened (positions_of S) c) ≡ length (x ∷ xs) = ap length q in omega (arith, u)

module _ (soft : List ℕ) (S : List BodyData) (c : CellData) (raws : List RawData) (top number : ℕ) (h : HaveChildSums soft S c raws top number) where
  abbrev cs : List CellData
  cs = opened (positions_of S) c

  kept : AreLimited S
  kept = limited soft h.whole.whole S h.whole.over

  pub child_some : 0 < number
  child_some = omega (arith, h.all, some_child S c kept h.node h.inner)

  abbrev pub child : ℕ → CellData
  child j = slice_index_or cs j c

  pub child_sum : (j : ℕ) (r : RawData) → j < number → r ≡ slice_index_or raws (top - 1 - j) r → IsChildSum soft S c (child j) r
  child_sum j r l e = by (from_opened (positions_of S) c (child j) (among-at c cs j (omega (arith, l, h.all))))
    where
      by : FromOpened (positions_of S) c (child j) → IsChildSum soft S c (child j) r
      by (Opened f s w k u n) = record {
        whole = h.whole;
        node = n;
        inside = λ p i. child_within c (child_at (turn_of c) w) p s (is_good (turn_of c) w (is_turn c.level _) k).child (ap (λ t. contains t p) (sym u) ∙ i);
        sum = e ∙ h.each j r c l;
      }

  pub child_same : (j : ℕ) → child j ≡ slice_index_or cs j (child j)
  child_same j = by cs j
    where
      by : (xs : List CellData) (j : ℕ) → slice_index_or xs j c ≡ slice_index_or xs j (slice_index_or xs j c)
      by [] j = refl
      by (x ∷ xs) zero = refl
      by (x ∷ xs) (suc j) = by xs j

  pub first_sum : (r : RawData) → r ≡ slice_index_or raws (top - 1) r → IsChildSum soft S c (child 0) r
  first_sum r e = let z : top - 1 ≡ top - 1 - 0 = omega arith in child_sum 0 r child_some (e ∙ ap (λ t. slice_index_or raws t r) z)

  pub first_child_sum : (r x : RawData) → r ≡ slice_index_or raws (top - 1) r → ((s : List ℕ) (T : List BodyData) (d : CellData) → IsChildSum s T c d r → x ≡ raw_of s c (members T d)) → x ≡ raw_of soft c (flat_map (members S) (take 1 cs))
  first_child_sum r x e f =
      f soft S (child 0) (first_sum r e)
      ∙ ap (raw_of soft c) (sym (flat_more S cs 0 (child 0) (omega (arith, child_some, h.all)) (child_same 0)))

  module _ (j : ℕ) (r x sum : RawData) (l : j < number) (e : r ≡ slice_index_or raws (top - 1 - j) r)
      (f : (s : List ℕ) (T : List BodyData) (d : CellData) → IsChildSum s T c d r → x ≡ raw_of s c (members T d)) (is : sum ≡ raw_of soft c (flat_map (members S) (take j cs))) where
    shifted_is : x ≡ raw_of soft c (members S (child j))
    shifted_is = f soft S (child j) (child_sum j r l e)

    pub same_cells : sum.cell ≡ x.cell
    same_cells = sum_cell soft c (flat_map (members S) (take j cs)) sum is ∙ sym (sum_cell soft c (members S (child j)) x shifted_is)

    taken : List BodyData
    taken = flat_map (members S) (take j cs)

    within_all : (g : BodyData → ℕ) → sum_by g (flat_map (members S) (take j cs)) + sum_by g (members S (child j)) ≤ sum_by g S
    within_all g =
        let u : sum_by g (flat_map (members S) (take j cs)) + sum_by g (members S (child j)) ≤ sum_by g (members S c) = some_opened g S c j (child j) kept h.node h.inner (omega (arith, l, h.all)) (child_same j) in
        omega (arith, u, kept_at_most g S c)

    pub children_room : sum.count + x.count ≤ 1048576
    children_room = omega (
      arith,
      sum_count soft c (flat_map (members S) (take j cs)) sum is,
      sum_count soft c (members S (child j)) x shifted_is,
      ones_are (flat_map (members S) (take j cs)),
      ones_are (members S (child j)),
      ones_are S,
      within_all (λ b. 1),
      kept.few,
    )

    pub children_light : sum.mass + x.mass ≤ 2 ^ 32
    children_light = omega (
      arith,
      sum_mass soft c (flat_map (members S) (take j cs)) sum is,
      sum_mass soft c (members S (child j)) x shifted_is,
      within_all (λ b. b.mass),
      kept.light,
    )

    pub next_child_sum : (both : RawData) → ((ss : List ℕ) (xs ys : List BodyData) → sum ≡ raw_of ss sum.cell xs → x ≡ raw_of ss x.cell ys → both ≡ raw_of ss sum.cell (xs ++ ys)) → both ≡ raw_of soft c (flat_map (members S) (take (j + 1) cs))
    next_child_sum both g =
        added soft c (flat_map (members S) (take j cs)) (members S (child j)) sum x both g is shifted_is
        ∙ ap (raw_of soft c) (sym (flat_more S cs j (child j) (omega (arith, l, h.all)) (child_same j)))

  pub all_child_sums : (j : ℕ) (sum : RawData) → number ≤ j → sum ≡ raw_of soft c (flat_map (members S) (take j cs)) → sum ≡ sum_in soft S c
  all_child_sums j sum l is = is ∙ ap (λ t. raw_of soft c (flat_map (members S) t)) (take_all j cs (omega (arith, l, h.all))) ∙ ap (raw_of soft c) (opened_members S c kept h.node h.inner)
