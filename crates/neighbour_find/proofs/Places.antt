-- Bodies whose ids are their places, and what is near by them.
use Rattle.std.proofs.Common.{◌≡◌, ℕ, zero, suc, ◌+◌, ◌*◌, ◌<◌, ◌^◌, ◌==◌, ◌&&◌, not, List, [], ◌∷◌, ◌++◌, length, get_or, map, take, filter, sum_by, cond, Bool, true, false, refl, sym, ap, ◌∙◌, arith}
use Rattle.std.specs.Prelude.{nat_le, All, IsPermutation}
use Rattle.std.specs.List.{range_with_len}
use Rattle.std.specs.List.Sorted.{IsNonDecreasing}
use Rattle.std.proofs.lemmas.List.{get_or-map, length-map, length-take-le, take_more}
use Rattle.std.proofs.lemmas.List.Sums.{sum_by-cons}
use Rattle.std.proofs.lemmas.List.Sorted.{All-permutation, sum_by-IsPermutation}
use Rattle.cell_space.specs.Cells.{place}
use Rattle.nbody_model.specs.Bodies.{BodyData, IsValid}
use Rattle.nbody_model.specs.OpeningRule.{way, square}
use Rattle.neighbour_find.specs.declared.walk.Around.{Around}
use Rattle.neighbour_find.specs.Around.{found, is_found}
use Rattle.neighbour_find.specs.Near.{nobody, linked, is_link, near}
use Rattle.neighbour_find.specs.Numbered.{numbered, with_id}
use Rattle.neighbour_find.proofs.Sorts.{times, same_sorted, filter_up}

-- ---- bodies numbered by their places

pub numbered_long : (n : ℕ) (B : List BodyData) → length (numbered n B) ≡ length B
numbered_long n [] = refl
numbered_long n (b ∷ B) = ap suc (numbered_long (n + 1) B)

numbered_id : (n : ℕ) (B : List BodyData) (k : ℕ) (d : BodyData) → k < length B → (get_or (numbered n B) k d).id ≡ n + k
numbered_id n [] k d l = absurd (omega (arith, l))
numbered_id n (b ∷ B) zero d l = omega arith
numbered_id n (b ∷ B) (suc k) d l = numbered_id (n + 1) B k d (omega (arith, l)) ∙ omega arith

numbered_mass : (n : ℕ) (B : List BodyData) → sum_by (λ (b : BodyData). b.mass) (numbered n B) ≡ sum_by (λ (b : BodyData). b.mass) B
numbered_mass n [] = refl
numbered_mass n (b ∷ B) = sum_by-cons (λ (b : BodyData). b.mass) (with_id b n) (numbered (n + 1) B) ∙ ap (λ m. b.mass + m) (numbered_mass (n + 1) B) ∙ sym (sum_by-cons (λ (b : BodyData). b.mass) b B)

pub numbered_valid : (B : List BodyData) → IsValid B → IsValid (numbered 0 B)
numbered_valid B v = record {
  ascending = λ k l.
      let long : k + 1 < length B = omega (arith, l, length-map (numbered 0 B) (λ (b : BodyData). b.id), numbered_long 0 B) in
      omega (arith, get_or-map (λ (b : BodyData). b.id) (numbered 0 B) k nobody 0 (omega (arith, long, numbered_long 0 B)), get_or-map (λ (b : BodyData). b.id) (numbered 0 B) (k + 1) nobody 0 (omega (arith, long, numbered_long 0 B)), numbered_id 0 B k nobody (omega (arith, long)), numbered_id 0 B (k + 1) nobody long);
  few = omega (arith, v.few, numbered_long 0 B);
  light = omega (arith, v.light, numbered_mass 0 B);
}

pub small_ids : (B S : List BodyData) → IsValid B → IsPermutation (numbered 0 B) S → All (λ (b : BodyData). b.id < 2 ^ 32) S
small_ids B S v p = All-permutation (λ (b : BodyData). b.id < 2 ^ 32) (numbered 0 B) S p (λ k d l. omega (arith, numbered_id 0 B k d (omega (arith, l, numbered_long 0 B)), l, numbered_long 0 B, v.few))

numbered_push : (n : ℕ) (C : List BodyData) (b : BodyData) → numbered n (C ++ b ∷ []) ≡ numbered n C ++ with_id b (n + length C) ∷ []
numbered_push n [] b = let same : n ≡ n + 0 = omega arith in ap (λ m. with_id b m ∷ []) same
numbered_push n (c ∷ C) b = let same : n + 1 + length C ≡ n + suc (length C) = omega arith in ap (λ xs. with_id c n ∷ xs) (numbered_push (n + 1) C b ∙ ap (λ m. numbered (n + 1) C ++ with_id b m ∷ []) same)

pub numbered_more : (B : List BodyData) (i : ℕ) (b : BodyData) (list more : List BodyData) → i < length B → get_or B i b ≡ b → list ≡ numbered 0 (take i B) → more ≡ list ++ with_id b i ∷ [] → more ≡ numbered 0 (take (i + 1) B)
numbered_more B i b list more l e o m =
    let len : length (take i B) ≡ i = length-take-le i B (omega (arith, l)) in
    let long : 0 + length (take i B) ≡ i = omega (arith, len) in
    m ∙ ap (λ xs. xs ++ with_id b i ∷ []) o ∙ ap (λ n. numbered 0 (take i B) ++ with_id b n ∷ []) (sym long) ∙ sym (numbered_push 0 (take i B) b) ∙ ap (λ x. numbered 0 (take i B ++ x ∷ [])) (sym e) ∙ ap (numbered 0) (sym (take_more B i b l))

-- ---- what is found, in another order

times_found : (a : Around) (k : ℕ) (S : List BodyData) → times k (found a S) ≡ sum_by (λ (b : BodyData). cond (is_found a b) (cond (b.id == k) 1 0) 0) S
times_found a k [] = refl
times_found a k (b ∷ S) = by (is_found a b) (times_found a k S) ∙ sym (sum_by-cons (λ (b : BodyData). cond (is_found a b) (cond (b.id == k) 1 0) 0) b S)
  where
    by : (t : Bool) → times k (found a S) ≡ sum_by (λ (b : BodyData). cond (is_found a b) (cond (b.id == k) 1 0) 0) S
        → times k (map (λ (b : BodyData). b.id) (cond t (b ∷ filter (is_found a) S) (filter (is_found a) S))) ≡ cond t (cond (b.id == k) 1 0) 0 + sum_by (λ (b : BodyData). cond (is_found a b) (cond (b.id == k) 1 0) 0) S
    by true e = sum_by-cons (λ j. cond (j == k) 1 0) b.id (found a S) ∙ ap (λ n. cond (b.id == k) 1 0 + n) e
    by false e = e ∙ omega arith

-- ---- what is found is what is near

found_numbered : (a : Around) (p : ℕ → Bool) (n : ℕ) (C : List BodyData) → ((k : ℕ) → k < length C → is_found a (with_id (get_or C k nobody) (n + k)) ≡ p (n + k)) → found a (numbered n C) ≡ filter p (range_with_len n (length C))
found_numbered a p n [] f = refl
found_numbered a p n (b ∷ C) f =
    let same : n + 0 ≡ n = omega arith in
    let here : is_found a (with_id b n) ≡ p n = ap (λ m. is_found a (with_id b m)) (sym same) ∙ f 0 (omega arith) ∙ ap p same in
    let rest : found a (numbered (n + 1) C) ≡ filter p (range_with_len (n + 1) (length C)) = found_numbered a p (n + 1) C (λ k l. (let q : n + 1 + k ≡ n + suc k = omega arith in ap (λ m. is_found a (with_id (get_or C k nobody) m)) q ∙ f (suc k) (omega (arith, l)) ∙ ap p (sym q))) in
    by (is_found a (with_id b n)) (p n) here rest
  where
    by : (s t : Bool) → s ≡ t → found a (numbered (n + 1) C) ≡ filter p (range_with_len (n + 1) (length C))
        → map (λ (b : BodyData). b.id) (cond s (with_id b n ∷ filter (is_found a) (numbered (n + 1) C)) (filter (is_found a) (numbered (n + 1) C))) ≡ cond t (n ∷ filter p (range_with_len (n + 1) (length C))) (filter p (range_with_len (n + 1) (length C)))
    by true true e r = ap (λ xs. n ∷ xs) r
    by true false e r = absurd (no_true (sym e)) where
      no_true : false ≡ true → ⊥
      no_true e = cc
    by false true e r = absurd (no_true e) where
      no_true : false ≡ true → ⊥
      no_true e = cc
    by false false e r = r

pub finds_near : (reach : ℕ) (B S : List BodyData) (i : ℕ) (a : Around) (out : List ℕ) → a.id ≡ i → place a.pos ≡ (get_or B i nobody).motion.pos → a.square ≡ reach * reach → IsPermutation (numbered 0 B) S → IsPermutation (found a S) out → IsNonDecreasing out → out ≡ near reach B i
unfolding near is_link linked
finds_near reach B S i a out e f g p q up =
    let each : (k : ℕ) → k < length B → is_found a (with_id (get_or B k nobody) (0 + k)) ≡ is_link reach B i (0 + k) =
    λ k l. (let z : 0 + k ≡ k = omega arith in
    ap (λ m. is_found a (with_id (get_or B k nobody) m)) z ∙ (λ t. not (e t == k) && nat_le (square (way (f t) (get_or B k nobody).motion.pos)) (g t)) ∙ ap (is_link reach B i) (sym z)) in
    let all : found a (numbered 0 B) ≡ filter (is_link reach B i) (range_with_len 0 (length B)) = found_numbered a (is_link reach B i) 0 B each in
    same_sorted out (filter (is_link reach B i) (range_with_len 0 (length B))) up (filter_up (is_link reach B i) (length B))
    (λ k. sum_by-IsPermutation (λ j. cond (j == k) 1 0) (found a S) out q ∙ times_found a k S ∙ sum_by-IsPermutation (λ (b : BodyData). cond (is_found a b) (cond (b.id == k) 1 0) 0) (numbered 0 B) S p ∙ sym (times_found a k (numbered 0 B)) ∙ ap (times k) all)
