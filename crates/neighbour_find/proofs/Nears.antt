-- The places that a body is linked to.
use Rattle.std.proofs.Common.{◌≡◌, ℕ, zero, suc, ◌+◌, List, [], ◌∷◌, ◌++◌, length, filter, cond, ap, sym, ◌∙◌, true, false, Bool, arith}
use Rattle.std.specs.List.{range_with_len}
use Rattle.std.proofs.lemmas.List.{append-nil}
use Rattle.std.proofs.lemmas.List.Elements.{filter-append}
use Rattle.nbody_model.specs.Bodies.{BodyData}
use Rattle.neighbour_find.specs.Near.{is_link, near}

pub range_more : (a n : ℕ) → range_with_len a (suc n) ≡ range_with_len a n ++ ((a + n) ∷ [])
range_more a zero = ap (λ t. t ∷ []) (omega arith)
range_more a (suc n) = ap (λ xs. a ∷ xs) (range_more (a + 1) n) ∙ ap (λ t. a ∷ (range_with_len (a + 1) n ++ (t ∷ []))) (omega arith)

filter_one : (p : ℕ → Bool) (j : ℕ) (b : Bool) → p j ≡ b → filter p (j ∷ []) ≡ cond b (j ∷ []) []
filter_one p j b e = ap (λ b. cond b (j ∷ []) []) e

pub filter_more : (p : ℕ → Bool) (n : ℕ) (b : Bool) → p n ≡ b → filter p (range_with_len 0 (n + 1)) ≡ filter p (range_with_len 0 n) ++ cond b (n ∷ []) []
filter_more p n b e =
    let up : n + 1 ≡ suc n = omega arith in
    let zero_less : 0 + n ≡ n = omega arith in
    ap (λ m. filter p (range_with_len 0 m)) up ∙ ap (filter p) (range_more 0 n ∙ ap (λ m. range_with_len 0 n ++ (m ∷ [])) zero_less) ∙ filter-append p (range_with_len 0 n) (n ∷ []) ∙ ap (λ xs. filter p (range_with_len 0 n) ++ xs) (filter_one p n b e)

pub near_yes : (reach : ℕ) (B : List BodyData) (i j : ℕ) (out : List ℕ) → out ≡ filter (is_link reach B i) (range_with_len 0 j) → is_link reach B i j ≡ true → out ++ (j ∷ []) ≡ filter (is_link reach B i) (range_with_len 0 (j + 1))
near_yes reach B i j out h e = ap (λ xs. xs ++ (j ∷ [])) h ∙ sym (filter_more (is_link reach B i) j true e)

pub near_no : (reach : ℕ) (B : List BodyData) (i j : ℕ) (out : List ℕ) → out ≡ filter (is_link reach B i) (range_with_len 0 j) → is_link reach B i j ≡ false → out ≡ filter (is_link reach B i) (range_with_len 0 (j + 1))
near_no reach B i j out h e = h ∙ sym (append-nil _) ∙ sym (filter_more (is_link reach B i) j false e)

pub near_all : (reach : ℕ) (B : List BodyData) (i j : ℕ) (out : List ℕ) → out ≡ filter (is_link reach B i) (range_with_len 0 j) → j ≡ length B → out ≡ near reach B i
unfolding near
near_all reach B i j out h e = h ∙ ap (λ n. filter (is_link reach B i) (range_with_len 0 n)) e
