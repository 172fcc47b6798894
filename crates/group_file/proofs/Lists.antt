-- Pieces of text, one behind the other.
use Rattle.std.proofs.Common.{◌≡◌, ℕ, List, [], ◌∷◌, ◌++◌, ◌+◌, ◌<◌, length, take, suc, get_or, ap, sym, ◌∙◌, arith}
use Rattle.std.specs.List.{flat_map}
use Rattle.std.proofs.Math.Seq.{take-suc}
use Rattle.std.proofs.lemmas.List.{append_assoc, append-nil}
use Rattle.std.proofs.lemmas.List.Concat.{flat_map-append}
use Rattle.group_file.specs.Catalogues.{GroupData}

pub join_four : (out a b c d x y z w : List ℕ) → x ≡ out ++ a → y ≡ x ++ b → z ≡ y ++ c → w ≡ z ++ d → w ≡ out ++ (a ++ b ++ c ++ d)
join_four out a b c d x y z w e f g h =
    h ∙ ap (λ q. q ++ d) (g ∙ ap (λ q. q ++ c) (f ∙ ap (λ q. q ++ b) e)) ∙ ap (λ x. x ++ d) (ap (λ x. x ++ c) (append_assoc out a b) ∙ append_assoc out (a ++ b) c) ∙ append_assoc out (a ++ b ++ c) d

pub bytes_more : (f : GroupData → List ℕ) (C : List GroupData) (i : ℕ) (g : GroupData) (head out more : List ℕ) → i < length C → get_or C i g ≡ g → out ≡ head ++ flat_map f (take i C) → more ≡ out ++ f g → more ≡ head ++ flat_map f (take (i + 1) C)
bytes_more f C i g head out more h at e n =
    let up : i + 1 ≡ suc i = omega arith in
    let one : flat_map f (take (i + 1) C) ≡ flat_map f (take i C) ++ f g = ap (λ n. flat_map f (take n C)) up ∙ ap (flat_map f) (take-suc C i g h) ∙ flat_map-append f (take i C) (get_or C i g ∷ []) ∙ ap (λ xs. flat_map f (take i C) ++ xs) (append-nil (f (get_or C i g)) ∙ ap f at) in
    n ∙ ap (λ xs. xs ++ f g) e ∙ append_assoc head (flat_map f (take i C)) (f g) ∙ ap (λ xs. head ++ xs) (sym one)
