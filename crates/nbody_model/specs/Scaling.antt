-- Signed numbers times and over natural ones.
use Rattle.std.specs.Prelude.{ℕ, ℤ, pos, ◌*ℤ◌, int_div}

-- a multiple
infixl 7 ◌·◌
abbrev pub ◌·◌ : ℕ → ℤ → ℤ
n · z = pos n *ℤ z

-- the quotient, truncated toward zero
infixl 7 ◌÷◌
abbrev pub ◌÷◌ : ℤ → ℕ → ℤ
z ÷ n = int_div z (pos n)
