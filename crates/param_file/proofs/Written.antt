-- Written lines are cut into what was written.
use Rattle.std.proofs.Common.{◌≡◌, ℕ, Bool, true, false, not, ◌==◌, List, [], ◌∷◌, ◌++◌, Option, None, Some, refl, ap, ◌∙◌, arith, append_assoc}
use Rattle.std.specs.List.{list_all, flat_map}
use Rattle.std.proofs.lemmas.Bool.{and_parts, and_from}
use Rattle.std.proofs.lemmas.Bool.Decides.{nat_tests}
use Rattle.std.proofs.lemmas.List.Folds.{list_all-append}
use Rattle.store_io.specs.Names.{is_visible}
use Rattle.text_words.specs.Comments.{Line, lines_in}
use Rattle.text_words.specs.Pieces.{lines_of, words_of, is_blank}
use Rattle.std.specs.Prelude.{IfSome}
use Rattle.param_file.specs.Rows.{name_of}
use Rattle.param_file.specs.Settings.{Value}
use Rattle.param_file.proofs.Plain.{IsPlain}
use Rattle.param_file.specs.declared.names.ParamName.{ParamName}
use Rattle.param_file.specs.Writing.{row_text, word_of}

within_line : ℕ → Bool
within_line b = not (b == 10)

visible_not_end : (b : ℕ) → is_visible b ≡ true → (b == 10) ≡ false
visible_not_end b h = grind (arith, nat_tests)

visible_not_blank : (b : ℕ) → is_visible b ≡ true → is_blank b ≡ false
visible_not_blank b h = grind (arith, nat_tests)

visible_within : (w : List ℕ) → list_all is_visible w ≡ true → list_all within_line w ≡ true
unfolding within_line
visible_within [] e = refl
visible_within (b ∷ w) e =
    let p = and_parts (is_visible b) (list_all is_visible w) e in
    and_from _ _ (rw (visible_not_end b p.0) refl) (visible_within w p.1)

line_cut : (w ys : List ℕ) → list_all within_line w ≡ true → lines_of (w ++ 10 ∷ ys) ≡ w ∷ lines_of ys
unfolding within_line
line_cut [] ys e = refl
line_cut (b ∷ w) ys e =
    let p = and_parts (not (b == 10)) (list_all within_line w) e in
    rw (not_is (b == 10) p.0, line_cut w ys p.1) refl
  where
    not_is : (v : Bool) → not v ≡ true → v ≡ false
    not_is true e = cc
    not_is false e = refl

-- a word behind which a space stands is cut off
word_cut : (w ys : List ℕ) → IsPlain w → words_of (w ++ 32 ∷ ys) ≡ w ∷ words_of ys
word_cut [] ys p = let some = p.some in absurd (omega arith)
word_cut (b ∷ []) ys p =
    let v = and_parts (is_visible b) true p.visible in
    rw (visible_not_blank b v.0) refl
word_cut (b ∷ x ∷ w) ys p =
    let v = and_parts (is_visible b) (list_all is_visible (x ∷ w)) p.visible in
    let u = and_parts (is_visible x) (list_all is_visible w) v.1 in
    let ih = rw (visible_not_blank x u.0) at (word_cut (x ∷ w) ys (record { some = omega arith; visible = v.1 })) in
    rw (visible_not_blank b v.0, visible_not_blank x u.0, ih) refl

-- a word at the end is a word
last_word : (w : List ℕ) → IsPlain w → words_of w ≡ w ∷ []
last_word [] p = let some = p.some in absurd (omega arith)
last_word (b ∷ []) p =
    let v = and_parts (is_visible b) true p.visible in
    rw (visible_not_blank b v.0) refl
last_word (b ∷ x ∷ w) p =
    let v = and_parts (is_visible b) (list_all is_visible (x ∷ w)) p.visible in
    let u = and_parts (is_visible x) (list_all is_visible w) v.1 in
    let ih = rw (visible_not_blank x u.0) at (last_word (x ∷ w) (record { some = omega arith; visible = v.1 })) in
    rw (visible_not_blank b v.0, visible_not_blank x u.0, ih) refl

-- the lines that are written of a row
unfoldable pub row_lines : List ℕ → Option Value → List Line
row_lines name None = []
row_lines name (Some value) = (name ∷ word_of value ∷ []) ∷ []

regroup : (a b c d : List ℕ) → (a ++ 32 ∷ b ++ 10 ∷ c) ++ d ≡ (a ++ 32 ∷ b) ++ 10 ∷ (c ++ d)
regroup a b c d = simp append_assoc refl

row_within : (name w : List ℕ) → IsPlain name → IsPlain w → list_all within_line (name ++ 32 ∷ w) ≡ true
unfolding within_line
row_within name w p q = list_all-append within_line name (32 ∷ w) ∙ and_from _ _ (visible_within name p.visible) (visible_within w q.visible)

row_cut : (name : List ℕ) (value : Option Value) (ys : List ℕ) → IsPlain name → IfSome value (λ v. IsPlain (word_of v))
    → lines_in (row_text name value ++ ys) ≡ row_lines name value ++ lines_in ys
unfolding row_lines
row_cut name None ys p q = refl
row_cut name (Some v) ys p q =
    rw (regroup name (word_of v) [] ys, line_cut (name ++ 32 ∷ word_of v) ys (row_within name (word_of v) p q), word_cut name (word_of v) p, last_word (word_of v) q) refl

-- the lines that are written of these rows
unfoldable pub rows_lines : (ParamName → Option Value) → List ParamName → List Line
rows_lines V rows = flat_map (λ row. row_lines (name_of row) (V row)) rows

pub rows_cut : (V : ParamName → Option Value) (rows : List ParamName) → ((row : ParamName) → IsPlain (name_of row)) → ((row : ParamName) → IfSome (V row) (λ v. IsPlain (word_of v)))
    → lines_in (flat_map (λ row. row_text (name_of row) (V row)) rows) ≡ rows_lines V rows
unfolding rows_lines
rows_cut V [] p q = refl
rows_cut V (row ∷ rows) p q =
    row_cut (name_of row) (V row) (flat_map (λ x. row_text (name_of x) (V x)) rows) (p row) (q row)
    ∙ ap (λ ls. row_lines (name_of row) (V row) ++ ls) (rows_cut V rows p q)
