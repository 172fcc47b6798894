-- Names with one base and different numbers are different.
use Rattle.std.proofs.Common.{◌≡◌, ◌<◌, ◌^◌, ◌-◌, ℕ, zero, suc, List, ◌++◌, length, refl, sym, ap, ◌∙◌}
use Rattle.std.specs.Prelude.{replicate, codes, decimal}
use Rattle.std.proofs.lemmas.List.{append_cancel_left}
use Rattle.text_words.specs.Numbers.{value_of}
use Rattle.nbody_model.specs.Texts.{numbered, three_digits}
use Rattle.param_file.proofs.Decimals.{decimal_is}

-- zeros in front are worth nothing
padded : (k : ℕ) (ds : List ℕ) → value_of (replicate k 48 ++ ds) ≡ value_of ds
padded zero ds = refl
padded (suc k) ds = padded k ds

three_is : (n : ℕ) → n < 2 ^ 64 → value_of (three_digits n) ≡ n
three_is n l = padded (3 - length (decimal n)) (decimal n) ∙ (decimal_is n l).value

pub number_once : (base : List ℕ) (n m : ℕ) → n < 2 ^ 64 → m < 2 ^ 64 → numbered base n ≡ numbered base m → n ≡ m
number_once base n m a b e =
    let ends : three_digits n ≡ three_digits m = append_cancel_left (base ++ codes "_") (three_digits n) (three_digits m) e in
    sym (three_is n a) ∙ ap value_of ends ∙ three_is m b
