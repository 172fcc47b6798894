-- The numbers of entries, sorted.
use Rattle.std.proofs.Common.{◌≡◌, ℕ, zero, suc, ◌+◌, ◌*◌, ◌/◌, ◌%◌, ◌^◌, ◌<◌, ◌≤◌, List, [], ◌∷◌, ◌++◌, map, take, length, refl, ap, sym, ◌∙◌, subst, arith}
use Rattle.std.specs.Prelude.{slice_index_or}
use Rattle.std.specs.List.{AllByRecursion}
use Rattle.std.specs.List.Sorted.{IsPermutation, IsNonDecreasingBy}
use Rattle.std.proofs.lemmas.List.{length-append, append_assoc}
use Rattle.std.proofs.lemmas.List.Sorted.{All-permutation, IsPermutation-trans, IsPermutation-append_left, IsPermutation-refl}
use Rattle.std.proofs.lemmas.List.Elements.{recursion_from_All, All-from_recursion}
use Rattle.cell_space.specs.Cells.{IsCorner, place, corner}
use Rattle.hilbert_keys.specs.Steps.{seen}
use Rattle.hilbert_keys.proofs.Ranges.{corner_place}
use Rattle.octree_build.specs.Trees.{Rises}
use Rattle.rank_laws.specs.Contents.{EntryData}
use Rattle.home_cells.specs.Tables.{code_of, mark_of, marked, IsMarkOf, IsOrderOf}

pub code_is : (l x y z n : ℕ) → IsCorner l (x ∷ y ∷ z ∷ []) → n ≡ ((l * 2 ^ 32 + x) * 2 ^ 32 + y) * 2 ^ 32 + z → n ≡ code_of (seen l (x ∷ y ∷ z ∷ []))
code_is l x y z n h e =
    let q : place (x ∷ y ∷ z ∷ []) ≡ corner (seen l (x ∷ y ∷ z ∷ [])) = corner_place l (x ∷ y ∷ z ∷ []) h in
    e ∙ (λ i. ((l * 2 ^ 32 + (q i).x) * 2 ^ 32 + (q i).y) * 2 ^ 32 + (q i).z)

number_place : (k i : ℕ) → i < 33554432 → (k * 2 ^ 25 + i) % 2 ^ 25 ≡ i
number_place k i h = omega (arith, h)

number_mark : (k i : ℕ) → i < 33554432 → (k * 2 ^ 25 + i) / 2 ^ 25 ≡ k
number_mark k i h = omega (arith, h)

module _ (W : List EntryData) (few : length W ≤ 33554432) where
  -- the rest of a list, from a place on
  abbrev IsRest : ℕ → List EntryData → Type 0
  IsRest i rest = (j : ℕ) (d : EntryData) → j < length rest → slice_index_or W (i + j) d ≡ slice_index_or rest j d

  shift_at : (i : ℕ) (e : EntryData) (rest : List EntryData) → IsRest i (e ∷ rest) → IsRest (i + 1) rest
  shift_at i e rest a j d h = let q : i + 1 + j ≡ i + suc j = omega arith in ap (λ k. slice_index_or W k d) q ∙ a (suc j) d (omega (arith, h))

  first_at : (i : ℕ) (e : EntryData) (rest : List EntryData) → IsRest i (e ∷ rest) → (d : EntryData) → slice_index_or W i d ≡ e
  first_at i e rest a d = let q : i ≡ i + 0 = omega arith in ap (λ k. slice_index_or W k d) q ∙ a 0 d (omega arith)

  marks_each : (i : ℕ) (rest : List EntryData) → length W ≡ i + length rest → IsRest i rest → AllByRecursion (IsMarkOf W) (marked i rest)
  marks_each i [] h a = tt
  marks_each i (e ∷ rest) h a =
      let l : i < 33554432 = omega (arith, few, h) in
      let p : (mark_of e * 2 ^ 25 + i) % 2 ^ 25 ≡ i = number_place (mark_of e) i l in (
        record {
          within = omega (arith, p, h);
          mark = λ d. number_mark (mark_of e) i l ∙ ap mark_of (sym (first_at i e rest a d)) ∙ ap (λ k. mark_of (slice_index_or W k d)) (sym p);
        },
        marks_each (i + 1) rest (omega (arith, h)) (shift_at i e rest a),
      )

  marks_back : (d : EntryData) (i : ℕ) (rest : List EntryData) → length W ≡ i + length rest → IsRest i rest → map (λ n. slice_index_or W (n % 2 ^ 25) d) (marked i rest) ≡ rest
  marks_back d i [] h a = refl
  marks_back d i (e ∷ rest) h a =
      let p : (mark_of e * 2 ^ 25 + i) % 2 ^ 25 ≡ i = number_place (mark_of e) i (omega (arith, few, h)) in
      λ k. (ap (λ n. slice_index_or W n d) p ∙ first_at i e rest a d) k ∷ marks_back d (i + 1) rest (omega (arith, h)) (shift_at i e rest a) k

  same_at : IsRest 0 W
  same_at j d h = let e : 0 + j ≡ j = omega arith in ap (λ k. slice_index_or W k d) e

  pub all_marked : AllByRecursion (IsMarkOf W) (marked 0 W)
  all_marked = marks_each 0 W (omega arith) same_at

  pub marked_back : (d : EntryData) → map (λ n. slice_index_or W (n % 2 ^ 25) d) (marked 0 W) ≡ W
  marked_back d = marks_back d 0 W (omega arith) same_at

-- ---- more entries behind others

pub marked_more : (i : ℕ) (es : List EntryData) (k n : ℕ) → ((d : EntryData) → n ≡ mark_of (slice_index_or es k d) * 2 ^ 25 + (i + k)) → k < length es → marked i (take (k + 1) es) ≡ marked i (take k es) ++ n ∷ []
marked_more i [] k n e h = absurd (omega (arith, h))
marked_more i (x ∷ es) zero n e h = let q : i + 0 ≡ i = omega arith in λ j. (sym (e x ∙ ap (λ t. mark_of x * 2 ^ 25 + t) q)) j ∷ []
marked_more i (x ∷ es) (suc k) n e h =
    let q : i + suc k ≡ i + 1 + k = omega arith in
    let s : suc k + 1 ≡ suc (k + 1) = omega arith in
    ap (λ t. marked i (take t (x ∷ es))) s ∙ ap (λ t. (mark_of x * 2 ^ 25 + i) ∷ t) (marked_more (i + 1) es k n (λ d. e d ∙ ap (λ t. mark_of (slice_index_or es k d) * 2 ^ 25 + t) q) (omega (arith, h)))

pub number_more : (order : List ℕ) (count : ℕ) (es : List EntryData) (k n : ℕ) (numbers : List ℕ) → ((d : EntryData) → n ≡ mark_of (slice_index_or es k d) * 2 ^ 25 + (count + k)) → k < length es → numbers ≡ order ++ marked count (take k es) → numbers ++ n ∷ [] ≡ order ++ marked count (take (k + 1) es)
number_more order count es k n numbers e h u = ap (λ t. t ++ n ∷ []) u ∙ append_assoc order (marked count (take k es)) (n ∷ []) ∙ ap (λ t. order ++ t) (sym (marked_more count es k n e h))

marked_both : (i : ℕ) (xs ys : List EntryData) → marked i (xs ++ ys) ≡ marked i xs ++ marked (i + length xs) ys
marked_both i [] ys = let e : i ≡ i + 0 = omega arith in ap (λ t. marked t ys) e
marked_both i (x ∷ xs) ys = let e : i + 1 + length xs ≡ i + length (x ∷ xs) = omega arith in ap (λ t. (mark_of x * 2 ^ 25 + i) ∷ t) (marked_both (i + 1) xs ys ∙ ap (λ t. marked (i + 1) xs ++ marked t ys) e)

above_all : (x : ℕ) (xs : List ℕ) → ((k : ℕ) (d : ℕ) → k < length xs → x ≤ slice_index_or xs k d) → AllByRecursion (λ y. x ≤ y) xs
above_all x [] h = tt
above_all x (y ∷ ys) h = (h 0 0 (omega arith), above_all x ys (λ k d l. h (suc k) d (omega (arith, l))))

rises_from : (xs : List ℕ) → IsNonDecreasingBy (λ n. n) xs → Rises (λ n. n) xs
rises_from [] h = tt
rises_from (x ∷ xs) h = (above_all x xs (λ k d l. h 0 (suc k) d (omega arith) (omega (arith, l))), rises_from xs (λ i j d l m. h (suc i) (suc j) d (omega (arith, l)) (omega (arith, m))))

pub ordered_with : (old es : List EntryData) (order numbers sorted : List ℕ) → IsOrderOf old order → length old + length es ≤ 2 ^ 25 → numbers ≡ order ++ marked (length old) es → IsPermutation numbers sorted → IsNonDecreasingBy (λ n. n) sorted → IsOrderOf (old ++ es) sorted
ordered_with old es order numbers sorted o few e p r =
    let all : List EntryData = old ++ es in
    let size : length (old ++ es) ≤ 33554432 = omega (arith, few, length-append old es) in
    let both : marked 0 (old ++ es) ≡ marked 0 old ++ marked (length old) es = marked_both 0 old es ∙ ap (λ t. marked 0 old ++ marked t es) (omega arith) in
    let moved : IsPermutation (marked 0 old ++ marked (length old) es) (order ++ marked (length old) es) = IsPermutation-append_left (marked (length old) es) (marked 0 old) order o.permuted in
    let whole : IsPermutation (marked 0 (old ++ es)) sorted =
    subst (λ t. IsPermutation t sorted) (sym both) (IsPermutation-trans (marked 0 old ++ marked (length old) es) (order ++ marked (length old) es) sorted moved (subst (λ t. IsPermutation t sorted) e p)) in
    record {
      few = size;
      permuted = whole;
      rises = rises_from sorted r;
      each = recursion_from_All (IsMarkOf all) sorted (All-permutation (IsMarkOf all) (marked 0 all) sorted whole (All-from_recursion (IsMarkOf all) (marked 0 all) (all_marked all size)));
    }

pub nothing_ordered : IsOrderOf [] []
nothing_ordered = record { few = omega arith; permuted = IsPermutation-refl []; rises = tt; each = tt }
