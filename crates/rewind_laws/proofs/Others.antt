-- The first difference of two ascending lists is the least number that is in one and not in the other.
use Rattle.std.proofs.Common.{◌≡◌, ◌<◌, ◌≤◌, ℕ, Bool, true, false, cond, ◌||◌, ◌==◌, nat_lt, List, [], ◌∷◌, Option, Some, None, refl, ap, sym, ◌∙◌, subst, arith}
use Rattle.std.specs.List.Sorted.{IsStrictlyIncreasing}
use Rattle.std.proofs.lemmas.Bool.{true≢false, eqb-true, eq-eqb, ne_eqb, ltb-true, ltb-false}
use Rattle.nbody_model.specs.Bodies.{has}
use Rattle.rewind_laws.specs.Back.{first_other}
use Rattle.rewind_laws.specs.Rewound.{not_same, IsOther, FirstOtherIsLeast}
use Rattle.rewind_laws.proofs.Filed.{tail_rises, later, own_has}
use Rattle.rewind_laws.proofs.Again.{lists_same}

some_same : (a b : ℕ) → Some a ≡ Some b → a ≡ b
some_same a b e = ap value e
  where
    value : Option ℕ → ℕ
    value None = 0
    value (Some x) = x

-- nothing up to the first number is in the rest of an ascending list
none_later : (x : ℕ) (xs : List ℕ) → IsStrictlyIncreasing (x ∷ xs) → (k : ℕ) → k ≤ x → has xs k ≡ false
none_later x xs inc k l = by (has xs k) refl
  where
    by : (b : Bool) → has xs k ≡ b → has xs k ≡ false
    by true e = absurd (omega (arith, l, later x xs inc k e))
    by false e = e

-- nothing below the first number is in an ascending list
none_below : (x : ℕ) (xs : List ℕ) → IsStrictlyIncreasing (x ∷ xs) → (k : ℕ) → k < x → has (x ∷ xs) k ≡ false
none_below x xs inc k l = (λ i. ne_eqb x k (omega (arith, l)) i || has xs k) ∙ none_later x xs inc k (omega (arith, l))

others : (F G : List ℕ) → IsStrictlyIncreasing F → IsStrictlyIncreasing G → (id : ℕ) → first_other F G ≡ Some id → IsOther F G id × ((k : ℕ) → k < id → has F k ≡ has G k)
others [] [] f g id e = absurd cc
others [] (y ∷ ys) f g id e =
    let s : y ≡ id = some_same y id e in
    subst (λ n. IsOther [] (y ∷ ys) n × ((k : ℕ) → k < n → has [] k ≡ has (y ∷ ys) k)) s (own_has y ys, λ k l. sym (none_below y ys g k l))
others (x ∷ xs) [] f g id e =
    let s : x ≡ id = some_same x id e in
    subst (λ n. IsOther (x ∷ xs) [] n × ((k : ℕ) → k < n → has (x ∷ xs) k ≡ has [] k)) s (ap (λ b. not_same b false) (own_has x xs), λ k l. none_below x xs f k l)
others (x ∷ xs) (y ∷ ys) f g id e = by (x == y) refl e (λ h. others xs ys (tail_rises x xs f) (tail_rises y ys g) id h)
  where
    apart : (b : Bool) → (x == y) ≡ false → nat_lt x y ≡ b → Some (cond b x y) ≡ Some id → IsOther (x ∷ xs) (y ∷ ys) id × ((k : ℕ) → k < id → has (x ∷ xs) k ≡ has (y ∷ ys) k)
    apart true d l h =
        let s : x ≡ id = some_same x id h in
        let below : x < y = ltb-true x y l in
        subst (λ n. IsOther (x ∷ xs) (y ∷ ys) n × ((k : ℕ) → k < n → has (x ∷ xs) k ≡ has (y ∷ ys) k)) s (
          (λ i. not_same (own_has x xs i) (none_below y ys g x below i)),
          λ k m. none_below x xs f k m ∙ sym (none_below y ys g k (omega (arith, m, below))),
        )
    apart false d l h =
        let s : y ≡ id = some_same y id h in
        let n : y ≤ x = ltb-false x y l in
        let below : y < x = omega (arith, n, different) in
        subst (λ n. IsOther (x ∷ xs) (y ∷ ys) n × ((k : ℕ) → k < n → has (x ∷ xs) k ≡ has (y ∷ ys) k)) s (
          (λ i. not_same (none_below x xs f y below i) (own_has y ys i)),
          λ k m. none_below x xs f k (omega (arith, m, below)) ∙ sym (none_below y ys g k m),
        )
      where
        different : x ≡ y → ⊥
        different q = absurd (true≢false (sym (eq-eqb x y q) ∙ d))

    by : (b : Bool) → (x == y) ≡ b → cond b (first_other xs ys) (Some (cond (nat_lt x y) x y)) ≡ Some id → (first_other xs ys ≡ Some id → IsOther xs ys id × ((k : ℕ) → k < id → has xs k ≡ has ys k)) →
        IsOther (x ∷ xs) (y ∷ ys) id × ((k : ℕ) → k < id → has (x ∷ xs) k ≡ has (y ∷ ys) k)
    by false d h rec = apart (nat_lt x y) d refl h
    by true d h rec =
        let same : x ≡ y = eqb-true x y d in
        let r = rec h in (
          beyond (x == id) refl r.0,
          λ k l. (λ i. (same i == k) || r.1 k l i),
        )
      where
        beyond : (b : Bool) → (x == id) ≡ b → IsOther xs ys id → IsOther (x ∷ xs) (y ∷ ys) id
        beyond false q o =
            let same : x ≡ y = eqb-true x y d in
            (λ i. not_same (q i || has xs id) (((λ j. sym same j == id) ∙ q) i || has ys id)) ∙ o
        beyond true q o =
            let at : x ≡ id = eqb-true x id q in
            let same : x ≡ y = eqb-true x y d in
            absurd (true≢false (sym o ∙ (λ i. not_same (none_later x xs f id (omega (arith, at)) i) (none_later y ys g id (omega (arith, at, same)) i))))

pub first_other_is_least : FirstOtherIsLeast
first_other_is_least F G f g = record { one = lists_same F G; other = λ id e. (others F G f g id e).0; least = λ id k e l. (others F G f g id e).1 k l }
