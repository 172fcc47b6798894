-- The spans of a tree's nodes, one by one.
use Rattle.std.proofs.Common.{◌≡◌, ℕ, ◌+◌, ◌<◌, true, false, eqb, leb, ◌&&◌, ◌||◌, List, [], ◌∷◌, ◌++◌, length, ap, sym, ◌∙◌, subst, arith, inl, inr}
use Rattle.std.specs.Prelude.{slice_index_or}
use Rattle.std.proofs.lemmas.Bool.{cases_lt}
use Rattle.std.proofs.lemmas.List.{get_or_append_left, get_or_push, length_push}
use Rattle.nbody_model.specs.Moments.{MomentsData}
use Rattle.octree_build.specs.Trees.{NodeData, TreeData, cell_of_node}
use Rattle.home_cells.specs.Entries.{AreSpansOf, IsSpanOf, is_told_by}

-- a node's span tells to whom it is told
told_by : (bounds : List ℕ) (to : ℕ) (m : MomentsData) (s : ℕ × ℕ) → IsSpanOf bounds m.cell s → (eqb s.1 to || (m.leaf && (leb s.0 to && leb to s.1))) ≡ is_told_by bounds to m
told_by bounds to m s h = λ j. eqb (h.home j) to || (m.leaf && sym (h.exact to) j)

-- the home is told, and another rank as far as it lies in a leaf's span
pub told_home : (bounds : List ℕ) (to : ℕ) (m : MomentsData) (s : ℕ × ℕ) → IsSpanOf bounds m.cell s → eqb s.1 to ≡ true → true ≡ is_told_by bounds to m
told_home bounds to m s h e = ap (λ b. b || (m.leaf && (leb s.0 to && leb to s.1))) (sym e) ∙ told_by bounds to m s h

pub told_else : (bounds : List ℕ) (to : ℕ) (m : MomentsData) (s : ℕ × ℕ) → IsSpanOf bounds m.cell s → eqb s.1 to ≡ false → (m.leaf && (leb s.0 to && leb to s.1)) ≡ is_told_by bounds to m
told_else bounds to m s h e = ap (λ b. b || (m.leaf && (leb s.0 to && leb to s.1))) (sym e) ∙ told_by bounds to m s h

-- the spans of the first nodes
pub record AreFirstSpans (t : TreeData) (bounds : List ℕ) (n : ℕ) (spans : List (ℕ × ℕ)) : Type 0 where
  pub long : length spans ≡ n
  pub each : (k : ℕ) (s : ℕ × ℕ) (d : NodeData) → k < n → IsSpanOf bounds (cell_of_node t.nodes k d) (slice_index_or spans k s)

pub more_spans : (t : TreeData) (bounds : List ℕ) (n : ℕ) (spans : List (ℕ × ℕ)) (x : ℕ × ℕ) → AreFirstSpans t bounds n spans → ((d : NodeData) → IsSpanOf bounds (cell_of_node t.nodes n d) x) → AreFirstSpans t bounds (n + 1) (spans ++ x ∷ [])
more_spans t bounds n spans x h is = record {
  long = length_push spans x ∙ ap (λ k. k + 1) h.long;
  each = λ k s d lt. elim (cases_lt k n) [
    | inl low ↦ subst (λ y. IsSpanOf bounds (cell_of_node t.nodes k d) y) (sym (get_or_append_left spans (x ∷ []) s k (omega (arith, low, h.long)))) (h.each k s d low)
    | inr high ↦ (let same : n ≡ k = omega (arith, lt, high) in subst (λ m. IsSpanOf bounds (cell_of_node t.nodes m d) (slice_index_or (spans ++ x ∷ []) m s)) same (subst (λ y. IsSpanOf bounds (cell_of_node t.nodes n d) y) (sym (get_or_push spans x s n h.long)) (is d)))
  ];
}

pub all_spans : (t : TreeData) (bounds : List ℕ) (n : ℕ) (spans : List (ℕ × ℕ)) → n ≡ length t.nodes → AreFirstSpans t bounds n spans → AreSpansOf t bounds spans
all_spans t bounds n spans e h = record { long = h.long ∙ e; each = λ k s d lt. h.each k s d (omega (arith, lt, h.long)) }
