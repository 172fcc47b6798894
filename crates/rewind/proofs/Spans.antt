-- Fast parts that lie one behind another.
use Rattle.std.proofs.Common.{◌≡◌, ◌≤◌, ℕ, suc, ◌+◌, ◌-◌, List, [], ◌∷◌, ◌++◌, length, take, drop, refl, ap, ◌∙◌, arith}
use Rattle.std.proofs.lemmas.List.{drop-append-le, take-append-le, length-drop, map-append}
use Rattle.std.proofs.Math.Seq.{drop-append_seam}
use Rattle.rewind.specs.Kept.{SpanData, cut, IsInside, AreInside}

inside_still : (ids more : List ℕ) (s : SpanData) → IsInside ids s → take (s.to - s.from) (drop s.from (ids ++ more)) ≡ take (s.to - s.from) (drop s.from ids)
inside_still ids more s h =
    let room : s.to - s.from ≤ length (drop s.from ids) = omega (arith, h.order, h.inside, length-drop s.from ids) in
    ap (take (s.to - s.from)) (drop-append-le s.from ids more (omega (arith, h.order, h.inside))) ∙ take-append-le (s.to - s.from) (drop s.from ids) more room

pub cut_still : (ids more : List ℕ) (spans : List SpanData) → AreInside ids spans → cut (ids ++ more) spans ≡ cut ids spans
cut_still ids more [] h = refl
cut_still ids more (s ∷ spans) h =
    λ i. inside_still ids more s (h 0 s (omega arith)) i ∷ cut_still ids more spans (λ k d l. h (suc k) d (omega (arith, l))) i

whole_at_end : (ids more : List ℕ) (to : ℕ) → to ≡ length ids + length more → take (to - length ids) (drop (length ids) (ids ++ more)) ≡ more
whole_at_end ids more to e =
    let n : to - length ids ≡ length more = omega (arith, e) in
    ap (take (to - length ids)) (drop-append_seam ids more) ∙ ap (λ k. take k more) n ∙ all_of more
  where
    all_of : (xs : List ℕ) → take (length xs) xs ≡ xs
    all_of [] = refl
    all_of (x ∷ xs) = ap (λ ys. x ∷ ys) (all_of xs)

-- one more behind the others
pub cut_more : (ids more : List ℕ) (spans : List SpanData) (s : SpanData) → AreInside ids spans → s.from ≡ length ids → s.to ≡ length ids + length more → cut (ids ++ more) (spans ++ s ∷ []) ≡ cut ids spans ++ more ∷ []
cut_more ids more spans s h from to =
    map-append (λ s. take (s.to - s.from) (drop s.from (ids ++ more))) spans (s ∷ []) ∙
    (λ i. cut_still ids more spans h i ++ (ap (λ n. take (s.to - n) (drop n (ids ++ more))) from ∙ whole_at_end ids more s.to to) i ∷ [])
