-- Whether each number is below the next.
use Rattle.std.proofs.Common.{◌≡◌, ◌<◌, ◌≤◌, ℕ, zero, suc, ◌+◌, Bool, true, false, ◌&&◌, nat_lt, List, [], ◌∷◌, length, get_or, refl, ◌∙◌, subst, arith}
use Rattle.std.specs.List.Sorted.{IsStrictlyIncreasing}
use Rattle.std.proofs.lemmas.Bool.{lt-ltb, ltb-true}
use Rattle.rewind_laws.specs.Bins.{ascends}
use Rattle.rewind_laws.proofs.Filed.{and_both, tail_rises}

pub ascends_true : (xs : List ℕ) → IsStrictlyIncreasing xs → ascends xs ≡ true
ascends_true [] inc = refl
ascends_true (x ∷ []) inc = refl
ascends_true (x ∷ y ∷ ys) inc =
    let below : x < y = inc 0 (omega arith) in
    (λ i. lt-ltb x y below i && ascends (y ∷ ys)) ∙ ascends_true (y ∷ ys) (tail_rises x (y ∷ ys) inc)

pub true_ascends : (xs : List ℕ) → ascends xs ≡ true → IsStrictlyIncreasing xs
true_ascends [] e k l = absurd (omega (arith, l))
true_ascends (x ∷ []) e k l = absurd (omega (arith, l))
true_ascends (x ∷ y ∷ ys) e zero l = ltb-true x y (and_both (nat_lt x y) (ascends (y ∷ ys)) e).0
true_ascends (x ∷ y ∷ ys) e (suc k) l =
    let f : suc (k + 1) ≡ suc k + 1 = omega arith in
    subst (λ n. get_or (y ∷ ys) k 0 < get_or (x ∷ y ∷ ys) n 0) f (true_ascends (y ∷ ys) (and_both (nat_lt x y) (ascends (y ∷ ys)) e).1 k (omega (arith, l)))

-- a number that isn't below the next
pub falls : (xs : List ℕ) (k : ℕ) → k + 1 < length xs → get_or xs (k + 1) 0 ≤ get_or xs k 0 → ascends xs ≡ false
falls xs k l h = by (ascends xs) refl
  where
    by : (b : Bool) → ascends xs ≡ b → b ≡ false
    by true e = absurd (let up = true_ascends xs e k l in omega (arith, up, h))
    by false e = refl
