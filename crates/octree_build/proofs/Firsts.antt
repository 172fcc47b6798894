-- Where the children of each cell begin, and how many cells there are.
use Rattle.std.proofs.Common.{◌≡◌, ℕ, ◌+◌, ◌<◌, ◌≤◌, List, [], ◌∷◌, ◌++◌, length, ap, sym, ◌∙◌, subst, arith, ◌⊎◌, inl, inr}
use Rattle.std.specs.Prelude.{slice_index_or}
use Rattle.std.specs.List.{flat_map}
use Rattle.std.proofs.lemmas.Bool.{cases_lt}
use Rattle.std.proofs.lemmas.List.{length_push, get_or_push, get_or_append_left}
use Rattle.nbody_model.specs.Bodies.{BodyData}
use Rattle.nbody_model.specs.Nodes.{positions_of}
use Rattle.octree_build.specs.Trees.{opened, top, first_child}
use Rattle.octree_build.specs.Slots.{SlotData, cells_in, IsGrowing, IsStep, IsGrowth, AreFirsts}
use Rattle.octree_build.proofs.Opens.{as_many, all_grown}

pub no_firsts : (S : List BodyData) (slots : List SlotData) (firsts : List ℕ) → firsts ≡ [] → AreFirsts S slots firsts 0
no_firsts S slots firsts e = record { long = ap length e; each = λ k d h. absurd (omega (arith, h)); later = λ k d h. absurd (omega (arith, h)) }

pub firsts_more : (S : List BodyData) (slots new : List SlotData) (firsts : List ℕ) (i n : ℕ) → IsGrowing S slots i → AreFirsts S slots firsts i → i < length slots → n ≡ length slots → IsStep S slots new i → AreFirsts S new (firsts ++ n ∷ []) (i + 1)
firsts_more S slots new firsts i n g f h e s = record {
  long = length_push firsts n ∙ ap (λ t. t + 1) f.long;
  each = λ k d l. by k d l (cases_lt k i);
  later = λ k d l. behind k d l (cases_lt k i);
}
  where
    same : (k : ℕ) → k ≤ length slots → first_child (positions_of S) (cells_in slots) k ≡ first_child (positions_of S) (cells_in new) k
    same k l = ap (λ t. length (top (positions_of S) ++ flat_map (opened (positions_of S)) t)) (sym (s.kept k l))

    behind : (k d : ℕ) → k < i + 1 → (k < i) ⊎ (i ≤ k) → k < slice_index_or (firsts ++ n ∷ []) k d
    behind k d l (inl u) = omega (arith, get_or_append_left firsts (n ∷ []) d k (omega (arith, f.long, u)), f.later k d u)
    behind k d l (inr u) = omega (arith, l, u, h, e, get_or_push firsts n d k (omega (arith, f.long, l, u)))

    by : (k d : ℕ) → k < i + 1 → (k < i) ⊎ (i ≤ k) → slice_index_or (firsts ++ n ∷ []) k d ≡ first_child (positions_of S) (cells_in new) k
    by k d l (inl u) = get_or_append_left firsts (n ∷ []) d k (omega (arith, f.long, u)) ∙ f.each k d u ∙ same k (omega (arith, u, h))
    by k d l (inr u) =
        let q : k ≡ i = omega (arith, u, l) in
        get_or_push firsts n d k (omega (arith, f.long, q)) ∙ e ∙ sym (as_many slots) ∙ ap length g.grown ∙ ap (first_child (positions_of S) (cells_in slots)) (sym q) ∙ same k (omega (arith, q, h))

pub growth_ends : (S : List BodyData) (slots : List SlotData) (firsts : List ℕ) (i : ℕ) → IsGrowing S slots i → AreFirsts S slots firsts i → i ≤ length slots → length slots ≤ i → IsGrowth S slots firsts
growth_ends S slots firsts i g f h l = let e : i ≡ length slots = omega (arith, h, l) in record { tree = all_grown S slots i g l; begins = subst (AreFirsts S slots firsts) e f }
