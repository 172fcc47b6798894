-- Numbers in decimal are read as they are, and are visible.
use Rattle.std.proofs.Common.{◌≡◌, ℕ, ◌+◌, ◌-◌, ◌*◌, ◌/◌, ◌%◌, ◌<◌, ◌≤◌, ◌^◌, true, false, List, [], ◌∷◌, ◌++◌, length, Ok, refl, ap, ◌∙◌, arith, length-append}
use Rattle.std.specs.Prelude.{decimal, ◌==◌, nat_lt}
use Rattle.std.specs.List.{list_all}
use Rattle.std.specs.Char.{is_ascii_digit}
use Rattle.std.proofs.lemmas.Bool.{and_parts, and_from}
use Rattle.std.proofs.lemmas.Bool.Decides.{nat_tests}
use Rattle.std.proofs.lemmas.Fmt.{decimal_by_steps}
use Rattle.std.proofs.lemmas.List.Folds.{list_all-append}
use Rattle.std.proofs.lemmas.List.Sums.{fold_push}
use Rattle.store_io.specs.Names.{is_visible}
use Rattle.text_words.specs.Numbers.{value_of, whole_number}

pub record DecimalIs (n : ℕ) (ds : List ℕ) : Type 0 where
  pub some : 0 < length ds
  pub digits : list_all is_ascii_digit ds ≡ true
  pub value : value_of ds ≡ n

digit_is : (n : ℕ) → n < 10 → is_ascii_digit (48 + n) ≡ true
digit_is n h = grind (arith, nat_tests)

one : (n : ℕ) → n < 10 → DecimalIs n ((48 + n) ∷ [])
one n h = record { some = omega arith; digits = and_from _ _ (digit_is n h) refl; value = omega arith }

more : (n : ℕ) (ds : List ℕ) → 10 ≤ n → DecimalIs (n / 10) ds → DecimalIs n (ds ++ ((48 + n % 10) ∷ []))
more n ds h d =
    let some = d.some in
    record {
      some = omega (arith, length-append ds ((48 + n % 10) ∷ []));
      digits = list_all-append is_ascii_digit ds ((48 + n % 10) ∷ []) ∙ and_from _ _ d.digits (and_from _ _ (digit_is (n % 10) (omega arith)) refl);
      value = fold_push (λ m b. m * 10 + (b - 48)) 0 ds (48 + n % 10) ∙ ap (λ m. m * 10 + (48 + n % 10 - 48)) d.value ∙ omega arith;
    }

pub decimal_is : (n : ℕ) → n < 2 ^ 64 → DecimalIs n (decimal n)
decimal_is n h = decimal_by_steps DecimalIs one more n h

above_0 : (n : ℕ) → 0 < n → (n == 0) ≡ false
above_0 n h = grind (arith, nat_tests)

below_is : (m n : ℕ) → m < n → nat_lt m n ≡ true
below_is m n h = grind (arith, nat_tests)

pub whole_decimal : (n : ℕ) → n < 2 ^ 64 → whole_number (decimal n) ≡ Ok n
whole_decimal n h =
    let d = decimal_is n h in
    rw (above_0 (length (decimal n)) d.some, d.digits, d.value, below_is n (2 ^ 64) h) refl

digit_visible : (b : ℕ) → is_ascii_digit b ≡ true → is_visible b ≡ true
digit_visible b h = grind (arith, nat_tests)

digits_visible : (ds : List ℕ) → list_all is_ascii_digit ds ≡ true → list_all is_visible ds ≡ true
digits_visible [] e = refl
digits_visible (b ∷ ds) e =
    let p = and_parts (is_ascii_digit b) (list_all is_ascii_digit ds) e in
    and_from _ _ (digit_visible b p.0) (digits_visible ds p.1)

pub decimal_visible : (n : ℕ) → n < 2 ^ 64 → list_all is_visible (decimal n) ≡ true
decimal_visible n h = digits_visible (decimal n) (decimal_is n h).digits
