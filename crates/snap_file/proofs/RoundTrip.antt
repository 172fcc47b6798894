-- A snapshot that was written is read to its head and its bodies.
use Rattle.std.proofs.Common.{◌≡◌, ℕ, ◌+◌, ◌*◌, ◌<◌, ◌≤◌, ◌^◌, ◌==◌, Bool, false, cond, not, nat_lt, List, [], ◌∷◌, length, map, sum, All, IsPermutation, Option, Some, None, refl, sym, ap, subst, ◌∙◌, append_assoc, append-nil, arith, eq-eqb, le-ltb, pos}
use Rattle.std.proofs.lemmas.List.{get_or-map, length-map}
use Rattle.std.proofs.lemmas.List.FromFn.{fill_by_all}
use Rattle.std.proofs.lemmas.List.Sorted.{All-permutation, IsPermutation-sym, length_permutation}
use Rattle.fixed_point.specs.Bytes.{word32_at, word64_at}
use Rattle.fixed_point.proofs.ReadBack.{word32_back, word64_back}
use Rattle.snapshot_blocks.specs.Written.{written}
use Rattle.nbody_model.specs.Bodies.{BodyData, IsValid}
use Rattle.nbody_model.specs.SnapshotText.{of_kind, by_kind, counts_text, head_text, column_text, snapshot_text}
use Rattle.particle_set.specs.declared.row.Row.{Row}
use Rattle.particle_set.specs.Rows.{IsSetOf, HasMass, HasMomentum, body_of}
use Rattle.snap_file.specs.declared.column.Column.TheVariants.{Positions, Momenta, Ids, Masses}
use Rattle.snap_file.specs.Snapshots.{ColumnTexts, HasHead, HasColumns, SpellsHead, SpellsSnapshot, head_in, head_fault, counts_fault, lengths_fault, row_in, rows_in}
use Rattle.particle_set.specs.Stored.{IsStorable}
use Rattle.particle_set.proofs.StoredRows.{row_of, bodies_of_rows, rows_massive, rows_in_range}
use Rattle.snap_file.specs.Stored.{ReadsWritten, head_of}
use Rattle.snap_file.proofs.Entries.{columns_of, row_back}
use Rattle.snap_file.proofs.FiveBlocks.{part, parts_of, blocks_of, AreShort, AreFound, are_blocks, are_found}
use Rattle.snap_file.proofs.InKinds.{counts_of, sum_of_counts, kind_back, by_kind_moves}
use Rattle.snap_file.proofs.Writes.{length-head, length-entries, length-by_kind}

no_fault : (B : List BodyData) (tick number : ℕ) → head_fault (head_text B tick number) ≡ None
unfolding head_text counts_text
no_fault B tick number = refl

-- a count of bodies by kind is below 2^32
few_of_kind : (B : List BodyData) → length (by_kind B) ≤ 1048576
    → (length (of_kind B 1) < 2 ^ 32) × (length (of_kind B 2) < 2 ^ 32) × (length (of_kind B 3) < 2 ^ 32) × (length (of_kind B 4) < 2 ^ 32) × (length (of_kind B 5) < 2 ^ 32)
few_of_kind B l =
    let e : length (by_kind B) ≡ length (of_kind B 1) + length (of_kind B 2) + length (of_kind B 3) + length (of_kind B 4) + length (of_kind B 5) = length-by_kind B in
    (omega (arith, e, l), omega (arith, e, l), omega (arith, e, l), omega (arith, e, l), omega (arith, e, l))

head_back : (B : List BodyData) (tick number : ℕ) → length (by_kind B) ≤ 1048576 → tick < 2 ^ 64 → number < 2 ^ 32 → head_in (head_text B tick number) ≡ head_of B tick number
unfolding head_text counts_text
head_back B tick number l t n =
    let few : (length (of_kind B 1) < 2 ^ 32) × (length (of_kind B 2) < 2 ^ 32) × (length (of_kind B 3) < 2 ^ 32) × (length (of_kind B 4) < 2 ^ 32) × (length (of_kind B 5) < 2 ^ 32) = few_of_kind B l in
    let text : List ℕ = head_text B tick number in
    let c0 : word32_at text 8 ≡ 0 = word32_back text _ 8 0 refl (omega arith) in
    let c1 : word32_at text 12 ≡ length (of_kind B 1) = word32_back text _ 12 (length (of_kind B 1)) refl few.0 in
    let c2 : word32_at text 16 ≡ length (of_kind B 2) = word32_back text _ 16 (length (of_kind B 2)) refl few.1 in
    let c3 : word32_at text 20 ≡ length (of_kind B 3) = word32_back text _ 20 (length (of_kind B 3)) refl few.2 in
    let c4 : word32_at text 24 ≡ length (of_kind B 4) = word32_back text _ 24 (length (of_kind B 4)) refl few.3 in
    let c5 : word32_at text 28 ≡ length (of_kind B 5) = word32_back text _ 28 (length (of_kind B 5)) refl few.4 in
    let ct : word64_at text 32 ≡ tick = word64_back text _ 32 tick refl t in
    let cn : word32_at text 40 ≡ number = word32_back text _ 40 number refl n in
    λ j. record { counts = c0 j ∷ c1 j ∷ c2 j ∷ c3 j ∷ c4 j ∷ c5 j ∷ []; tick = ct j; number = cn j }

-- the text is that of five blocks
five_parts : (B : List BodyData) (tick number : ℕ) → written (parts_of (head_text B tick number) (columns_of (by_kind B))) ≡ snapshot_text B tick number
unfolding snapshot_text column_text part parts_of columns_of
five_parts B tick number = simp (append_assoc, append-nil) refl

-- the columns have the lengths of the bodies
record HaveWidths (cs : List BodyData) (n : ℕ) : Type 0 where
  pub positions : length (columns_of cs).positions ≡ 12 * n
  pub momenta : length (columns_of cs).momenta ≡ 24 * n
  pub ids : length (columns_of cs).ids ≡ 8 * n
  pub masses : length (columns_of cs).masses ≡ 4 * n

widths : (cs : List BodyData) → HaveWidths cs (length cs)
unfolding columns_of
widths cs = record { positions = length-entries Positions cs; momenta = length-entries Momenta cs; ids = length-entries Ids cs; masses = length-entries Masses cs }

short : (B : List BodyData) (tick number : ℕ) (cs : List BodyData) → length cs ≤ 1048576 → AreShort (head_text B tick number) (columns_of cs)
short B tick number cs l =
    let w : HaveWidths cs (length cs) = widths cs in
    record {
      head = omega (arith, length-head B tick number);
      positions = omega (arith, w.positions, l);
      momenta = omega (arith, w.momenta, l);
      ids = omega (arith, w.ids, l);
      masses = omega (arith, w.masses, l);
    }

passed : {E : Type 0} (a b : ℕ) (e : E) (rest : Option E) → a ≡ b → rest ≡ None → cond (not (a == b)) (Some e) rest ≡ None
passed a b e rest f g = ap (λ t. cond (not t) (Some e) rest) (eq-eqb a b f) ∙ g

right_lengths : (cs : List BodyData) (n : ℕ) → n ≡ length cs → lengths_fault n (columns_of cs) ≡ None
right_lengths cs n e =
    let w : HaveWidths cs n = subst (HaveWidths cs) (sym e) (widths cs) in
    passed (length (columns_of cs).positions) (12 * n) _ _ w.positions
    (passed (length (columns_of cs).momenta) (24 * n) _ _ w.momenta
    (passed (length (columns_of cs).ids) (8 * n) _ _ w.ids
    (passed (length (columns_of cs).masses) (4 * n) _ _ w.masses refl)))

unmet : {E : Type 0} (t : Bool) (e : E) → t ≡ false → cond t (Some e) None ≡ None
unmet t e f = ap (λ s. cond s (Some e) None) f

right_counts : (B : List BodyData) → length (by_kind B) ≤ 1048576 → counts_fault (counts_of B) ≡ None
unfolding counts_of
right_counts B l = unmet (nat_lt 1048576 (sum (counts_of B))) _ (le-ltb 1048576 (sum (counts_of B)) (omega (arith, l, sum_of_counts B)))

blank : BodyData
blank = record { id = 0; kind = 1; mass = 1; motion = record { pos = record { x = 0; y = 0; z = 0 }; mom = record { x = pos 0; y = pos 0; z = pos 0 } } }

-- the rows are those of the bodies
rows_back : (B : List BodyData) → All IsStorable (by_kind B) → rows_in (counts_of B) (columns_of (by_kind B)) ≡ map row_of (by_kind B)
rows_back B s =
    let cs : List BodyData = by_kind B in
    sym (fill_by_all (row_in (counts_of B) (columns_of cs)) (map row_of cs) (sum (counts_of B)) (row_of blank) (length-map cs row_of ∙ sym (sum_of_counts B)) (λ k l.
    let inside : k < length cs = omega (arith, l, sum_of_counts B) in
    get_or-map row_of cs k blank (row_of blank) inside ∙ sym (row_back (counts_of B) cs k blank inside (kind_back B k blank inside) (s k blank inside))))

-- so they are a set of them
set_of_rows : (B : List BodyData) (rows : List Row) → IsValid B → All IsStorable B → All IsStorable (by_kind B) → rows ≡ map row_of (by_kind B) → IsSetOf rows B
set_of_rows B rows v s t e = record {
  bodies = subst (λ bs. IsPermutation bs B) (sym (ap (map body_of) e ∙ bodies_of_rows (by_kind B))) (by_kind_moves B s);
  valid = v;
  massive = subst (All HasMass) (sym e) (rows_massive (by_kind B) t);
  in_range = subst (All HasMomentum) (sym e) (rows_in_range (by_kind B) t);
}

pub reads_written : ReadsWritten
unfolding counts_of
reads_written B tick number v s t n =
    let moves : IsPermutation (by_kind B) B = by_kind_moves B s in
    let few : length (by_kind B) ≤ 1048576 = omega (arith, length_permutation (by_kind B) B moves, v.few) in
    let sorted : All IsStorable (by_kind B) = All-permutation IsStorable B (by_kind B) (IsPermutation-sym (by_kind B) B moves) s in
    let h : List ℕ = head_text B tick number in
    let cols : ColumnTexts = columns_of (by_kind B) in
    let bytes : List ℕ = written (parts_of h cols) in
    let found : AreFound bytes h cols = are_found h cols (short B tick number (by_kind B) few) in
    let has : HasHead bytes (blocks_of h cols) (head_of B tick number) =
    record { blocks_are = are_blocks h cols (short B tick number (by_kind B) few); text = h; found = found.head; sound = no_fault B tick number; is = sym (head_back B tick number few t n) } in
    let columns : HasColumns bytes (blocks_of h cols) (head_of B tick number) cols =
    record { has_head = has; found = found.columns; counts_sound = right_counts B few; lengths_sound = right_lengths (by_kind B) (sum (counts_of B)) (sum_of_counts B) } in
    let text : bytes ≡ snapshot_text B tick number = five_parts B tick number in
    record {
      head = subst (λ x. SpellsHead x (head_of B tick number)) text (record { blocks = blocks_of h cols; has = has });
      bodies = subst (λ x. SpellsSnapshot x B) text
          (record { blocks = blocks_of h cols; head = head_of B tick number; columns = cols; has = columns; bodies = set_of_rows B (rows_in (counts_of B) cols) v s sorted (rows_back B sorted) });
    }
