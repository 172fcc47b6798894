-- Sets of children as bits: of one child, and of two sets together.
use Rattle.std.proofs.Common.{◌≡◌, ℕ, zero, suc, ◌*◌, ◌%◌, ◌^◌, ◌<◌, max, eqb, ◌||◌, [], ◌∷◌, bit_or, refl, ap, sym, ◌∙◌, arith, ◌⊎◌, inl, inr}
use Rattle.std.specs.Int.{bit_at}
use Rattle.std.specs.List.{list_any}
use Rattle.std.proofs.lemmas.Bool.{cases_eq}
use Rattle.std.proofs.lemmas.Nat.Bits.{bit_at_or, bit_at-lt}
use Rattle.cell_space.specs.Cells.{below}
use Rattle.rank_laws.proofs.ByIds.{filter_on}
use Rattle.rank_entry_laws.specs.Given.{in_either}
use Rattle.rank_entry_laws.proofs.Given.{under_eight}
use Rattle.home_cells.specs.Entries.{numbers_in}
use Rattle.home_cells.proofs.Together.{stands}

one_bit : (n : ℕ) → n < 8 → numbers_in (1 * 2 ^ n % 2 ^ 8) ≡ n ∷ []
one_bit zero h = refl
one_bit (suc zero) h = refl
one_bit (suc (suc zero)) h = refl
one_bit (suc (suc (suc zero))) h = refl
one_bit (suc (suc (suc (suc zero)))) h = refl
one_bit (suc (suc (suc (suc (suc zero))))) h = refl
one_bit (suc (suc (suc (suc (suc (suc zero)))))) h = refl
one_bit (suc (suc (suc (suc (suc (suc (suc zero))))))) h = refl
one_bit (suc (suc (suc (suc (suc (suc (suc (suc n)))))))) h = absurd (omega (arith, h))

pub alone : (n m : ℕ) → n < 8 → n ≡ m → numbers_in (1 * 2 ^ n % 2 ^ 8) ≡ m ∷ []
alone n m h e = one_bit n h ∙ ap (λ t. t ∷ []) e

one_or_none : (x : ℕ) → x < 2 → (x ≡ 0) ⊎ (x ≡ 1)
one_or_none x h = by (cases_eq x 0)
  where
    by : (x ≡ 0) ⊎ (x ≡ 0 → ⊥) → (x ≡ 0) ⊎ (x ≡ 1)
    by (inl e) = inl e
    by (inr e) = inr (omega (arith, h, e))

greater_is : (x y : ℕ) → x < 2 → y < 2 → eqb (max x y) 1 ≡ (eqb x 1 || eqb y 1)
greater_is x y h k = by (one_or_none x h) (one_or_none y k)
  where
    by : (x ≡ 0) ⊎ (x ≡ 1) → (y ≡ 0) ⊎ (y ≡ 1) → eqb (max x y) 1 ≡ (eqb x 1 || eqb y 1)
    by (inl u) (inl v) = (λ i. eqb (max (u i) (v i)) 1) ∙ sym (λ i. eqb (u i) 1 || eqb (v i) 1)
    by (inl u) (inr v) = (λ i. eqb (max (u i) (v i)) 1) ∙ sym (λ i. eqb (u i) 1 || eqb (v i) 1)
    by (inr u) (inl v) = (λ i. eqb (max (u i) (v i)) 1) ∙ sym (λ i. eqb (u i) 1 || eqb (v i) 1)
    by (inr u) (inr v) = (λ i. eqb (max (u i) (v i)) 1) ∙ sym (λ i. eqb (u i) 1 || eqb (v i) 1)

pub both_sets : (a b : ℕ) → numbers_in (bit_or a b) ≡ in_either (numbers_in a) (numbers_in b)
both_sets a b = filter_on (λ k. eqb (bit_at (bit_or a b) k) 1) (λ k. list_any (λ j. eqb j k) (numbers_in a) || list_any (λ j. eqb j k) (numbers_in b)) (below 8)
    (λ k h.
    ap (λ t. eqb t 1) (bit_at_or a b k) ∙ greater_is (bit_at a k) (bit_at b k) (bit_at-lt a k) (bit_at-lt b k)
    ∙ sym (λ i. stands (λ k. eqb (bit_at a k) 1) 8 k (under_eight k 8 h) i || stands (λ k. eqb (bit_at b k) 1) 8 k (under_eight k 8 h) i))
