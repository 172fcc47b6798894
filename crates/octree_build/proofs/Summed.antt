-- The sums of one cell more.
use Rattle.std.proofs.Common.{◌≡◌, ℕ, ◌+◌, ◌-◌, ◌<◌, ◌≤◌, List, [], ◌∷◌, ◌++◌, length, ap, sym, ◌∙◌, subst, arith, ◌⊎◌, inl, inr}
use Rattle.std.specs.Prelude.{slice_index_or}
use Rattle.std.proofs.lemmas.Bool.{cases_lt}
use Rattle.std.proofs.lemmas.List.{get_or_push, get_or_append_left, length_push}
use Rattle.cell_space.specs.Cells.{CellData}
use Rattle.nbody_model.specs.Bodies.{BodyData}
use Rattle.nbody_model.specs.Nodes.{positions_of}
use Rattle.node_moments.specs.Sums.{RawData}
use Rattle.octree_build.specs.Trees.{low_of, high_of}
use Rattle.octree_build.specs.Slots.{IsNode}
use Rattle.octree_build.specs.Sums.{AreSums, IsRange, sum_in}

pub none_summed : (soft : List ℕ) (S : List BodyData) (cells : List CellData) (i : ℕ) (raws : List RawData) → i ≡ length cells → raws ≡ [] → AreSums soft S cells i raws
none_summed soft S cells i raws e f = record { from = omega (arith, e); long = ap length f ∙ omega (arith, e); each = λ k d x h l. absurd (omega (arith, e, h, l)) }

pub sums_more : (soft : List ℕ) (S : List BodyData) (cells : List CellData) (i j : ℕ) (raws : List RawData) (r : RawData) → i ≡ j + 1 → j < length cells → AreSums soft S cells i raws → ((e : CellData) → r ≡ sum_in soft S (slice_index_or cells j e)) → AreSums soft S cells j (raws ++ r ∷ [])
sums_more soft S cells i j raws r q h a e = record {
  from = omega (arith, h);
  long = length_push raws r ∙ omega (arith, a.long, q, h);
  each = λ k d x u v. by k d x u v (cases_lt j k);
}
  where
    by : (k : ℕ) (d : RawData) (x : CellData) → j ≤ k → k < length cells → (j < k) ⊎ (k ≤ j) → slice_index_or (raws ++ r ∷ []) (length cells - 1 - k) d ≡ sum_in soft S (slice_index_or cells k x)
    by k d x u v (inl w) = get_or_append_left raws (r ∷ []) d (length cells - 1 - k) (omega (arith, a.long, q, w, v)) ∙ a.each k d x (omega (arith, q, w)) v
    by k d x u v (inr w) = let p : j ≡ k = omega (arith, u, w) in get_or_push raws r d (length cells - 1 - k) (omega (arith, a.long, q, p, h)) ∙ e x ∙ ap (λ t. sum_in soft S (slice_index_or cells t x)) p

-- a node's range, by other names
pub range_as : (S : List BodyData) (c d : CellData) (low high m n : ℕ) → IsRange S d m n → c ≡ d → low ≡ m → high ≡ n → IsRange S c low high
range_as S c d low high m n r e f g = record { limited = r.limited; node = subst (IsNode (positions_of S)) (sym e) r.node; begins = f ∙ r.begins ∙ ap (low_of S) (sym e); ends = g ∙ r.ends ∙ ap (high_of S) (sym e) }
