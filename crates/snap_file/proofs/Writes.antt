-- The parts of a snapshot's text, joined.
use Rattle.std.proofs.Common.{◌≡◌, ℕ, ◌+◌, ◌*◌, List, [], ◌∷◌, ◌++◌, length, refl, sym, subst, append_assoc, length-append, arith}
use Rattle.std.specs.List.{flat_map}
use Rattle.std.specs.Prelude.{replicate}
use Rattle.std.proofs.lemmas.Grind.{flat_map-append}
use Rattle.fixed_point.specs.Bytes.{bytes32, bytes64, framed}
use Rattle.snapshot_blocks.specs.Opening.{opening}
use Rattle.snapshot_blocks.proofs.Pushes.{joined}
use Rattle.nbody_model.specs.Bodies.{BodyData}
use Rattle.nbody_model.specs.SnapshotText.{of_kind, by_kind, counts_text, head_text, column_text, snapshot_text, snapshot_tag, head_name, position_name, momentum_name, id_name, mass_name, position_text, momentum_text, id_text, mass_text}
use Rattle.snap_file.specs.declared.column.Column.{Column}
use Rattle.snap_file.specs.declared.column.Column.TheVariants.{Positions, Momenta, Ids, Masses}
use Rattle.snap_file.specs.Columns.{entry_of, width_of}

pub length-by_kind : (B : List BodyData) → length (by_kind B) ≡ length (of_kind B 1) + length (of_kind B 2) + length (of_kind B 3) + length (of_kind B 4) + length (of_kind B 5)
unfolding by_kind
length-by_kind B = simp length-append (omega arith)

pub entries : (f : BodyData → List ℕ) (B : List BodyData) (o p q r s t : List ℕ) → p ≡ o ++ flat_map f (of_kind B 1) → q ≡ p ++ flat_map f (of_kind B 2)
    → r ≡ q ++ flat_map f (of_kind B 3) → s ≡ r ++ flat_map f (of_kind B 4) → t ≡ s ++ flat_map f (of_kind B 5) → t ≡ o ++ flat_map f (by_kind B)
unfolding by_kind
entries f B o p q r s t e1 e2 e3 e4 e5 = rw (e5, e4, e3, e2, e1) (simp (flat_map-append, append_assoc))

pub counted : (B : List BodyData) (o p q r s t u : List ℕ) → p ≡ o ++ bytes32 0 → q ≡ p ++ bytes32 (length (of_kind B 1)) → r ≡ q ++ bytes32 (length (of_kind B 2))
    → s ≡ r ++ bytes32 (length (of_kind B 3)) → t ≡ s ++ bytes32 (length (of_kind B 4)) → u ≡ t ++ bytes32 (length (of_kind B 5)) → u ≡ o ++ counts_text B
unfolding counts_text
counted B o p q r s t u e1 e2 e3 e4 e5 e6 = rw (e6, e5, e4, e3, e2, e1) (simp append_assoc)

pub headed : (B : List BodyData) (tick number : ℕ) (o p q r s t : List ℕ) → p ≡ o ++ snapshot_tag → q ≡ p ++ counts_text B → r ≡ q ++ bytes64 tick → s ≡ r ++ bytes32 number
    → t ≡ s ++ replicate 212 0 → t ≡ o ++ head_text B tick number
unfolding head_text
headed B tick number o p q r s t e1 e2 e3 e4 e5 = rw (e5, e4, e3, e2, e1) (simp append_assoc)

pub length-head : (B : List BodyData) (tick number : ℕ) → length (head_text B tick number) ≡ 256
unfolding head_text counts_text
length-head B tick number = refl

pub head_block : (B : List BodyData) (tick number : ℕ) (o p q r : List ℕ) → p ≡ o ++ opening head_name 256 → q ≡ p ++ head_text B tick number → r ≡ q ++ bytes32 256
    → r ≡ o ++ framed head_name (head_text B tick number)
head_block B tick number o p q r e f g =
    joined o head_name (head_text B tick number) p q r (subst (λ n. p ≡ o ++ opening head_name n) (sym (length-head B tick number)) e) f
    (subst (λ n. r ≡ q ++ bytes32 n) (sym (length-head B tick number)) g)

entry_width : (column : Column) (b : BodyData) → length (entry_of column b) ≡ width_of column
entry_width Positions b = refl
entry_width Momenta b = refl
entry_width Ids b = refl
entry_width Masses b = refl

pub length-entries : (column : Column) (bs : List BodyData) → length (flat_map (entry_of column) bs) ≡ width_of column * length bs
length-entries column [] = omega arith
length-entries column (b ∷ bs) =
    let more : length (flat_map (entry_of column) (b ∷ bs)) ≡ length (entry_of column b) + length (flat_map (entry_of column) bs) = simp length-append in
    let rest : length (flat_map (entry_of column) bs) ≡ width_of column * length bs = length-entries column bs in
    let step : width_of column * length (b ∷ bs) ≡ width_of column + width_of column * length bs = omega arith in
    omega (arith, more, rest, step, entry_width column b)

pub texts : (B : List BodyData) (tick number : ℕ) (o p q r s : List ℕ) → o ≡ [] ++ framed head_name (head_text B tick number) → p ≡ o ++ column_text position_name position_text B
    → q ≡ p ++ column_text momentum_name momentum_text B → r ≡ q ++ column_text id_name id_text B → s ≡ r ++ column_text mass_name mass_text B → s ≡ snapshot_text B tick number
unfolding snapshot_text
texts B tick number o p q r s e1 e2 e3 e4 e5 = rw (e5, e4, e3, e2, e1) (simp append_assoc)
