-- Words of a line behind its first one.
use Rattle.std.specs.Prelude.{ℕ, ℤ, List, decimal}
use Rattle.std.specs.List.{flat_map}
use Rattle.std.specs.Fmt.{signed_decimal}
use Rattle.text_words.specs.Spaced.{spaced}

-- numbers, each after a space
unfoldable pub spaced_numbers : List ℕ → List ℕ
spaced_numbers numbers = flat_map (λ n. spaced (decimal n)) numbers

unfoldable pub spaced_signed : List ℤ → List ℕ
spaced_signed numbers = flat_map (λ z. spaced (signed_decimal z)) numbers
