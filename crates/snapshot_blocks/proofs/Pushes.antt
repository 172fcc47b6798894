-- What is appended, part by part.
use Rattle.std.proofs.Common.{◌≡◌, ℕ, List, [], ◌∷◌, ◌++◌, length, get_or, Result, Ok, Err, OnOk, refl, ap, ◌∙◌, append_assoc, arith}
use Rattle.fixed_point.specs.Bytes.{bytes32, framed}
use Rattle.snapshot_blocks.specs.Opening.{opening}

-- four bytes are the list of them
pub four : (xs : List ℕ) → length xs ≡ 4 → xs ≡ get_or xs 0 0 ∷ get_or xs 1 0 ∷ get_or xs 2 0 ∷ get_or xs 3 0 ∷ []
four [] e = absurd (omega arith)
four (a ∷ []) e = absurd (omega arith)
four (a ∷ b ∷ []) e = absurd (omega arith)
four (a ∷ b ∷ c ∷ []) e = absurd (omega arith)
four (a ∷ b ∷ c ∷ d ∷ []) e = refl
four (a ∷ b ∷ c ∷ d ∷ x ∷ xs) e = absurd (omega arith)

regroup : (old opened contents closed : List ℕ) → ((old ++ opened) ++ contents) ++ closed ≡ old ++ ((opened ++ contents) ++ closed)
regroup old opened contents closed = simp append_assoc

-- the opening, the contents and the length behind them are the block
pub framed_parts : (name contents : List ℕ) → (opening name (length contents) ++ contents) ++ bytes32 (length contents) ≡ framed name contents
unfolding opening framed
framed_parts name contents = simp append_assoc

pub joined : (old name contents opened extended closed : List ℕ) → opened ≡ old ++ opening name (length contents) → extended ≡ opened ++ contents
    → closed ≡ extended ++ bytes32 (length contents) → closed ≡ old ++ framed name contents
joined old name contents opened extended closed e f g =
    g ∙ ap (λ x. x ++ bytes32 (length contents)) (f ∙ ap (λ x. x ++ contents) e) ∙ regroup old (opening name (length contents)) contents (bytes32 (length contents)) ∙ ap (λ x. old ++ x) (framed_parts name contents)
