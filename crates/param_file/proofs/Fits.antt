-- Every value behind a scan lies in the range of its row.
use Rattle.std.proofs.Common.{◌≡◌, ℕ, ◌+◌, Bool, true, false, List, [], ◌∷◌, ◌++◌, Option, Some, None, Ok, refl, ap, ◌∙◌, subst, cond, get_or}
use Rattle.std.specs.Prelude.{IfSome, option_map}
use Rattle.std.specs.Option.{option_to_list, option_or}
use Rattle.std.specs.List.{find}
use Rattle.std.specs.Str.{bytes_eq}
use Rattle.std.proofs.lemmas.Slice.Eq.{bytes_eq-Decides}
use Rattle.text_words.specs.Comments.{Line, begins_comment}
use Rattle.param_file.specs.Known.{after_fault, scan}
use Rattle.param_file.specs.Reading.{Said, said, fault_behind, row_fault, stands, value_fault, word_of_row}
use Rattle.param_file.specs.Rows.{default_of, name_of, range_of, row_named}
use Rattle.param_file.specs.declared.errors.ParamKind.{ParamKind}
use Rattle.param_file.specs.declared.names.ParamName.{ParamName}
use Rattle.param_file.proofs.Table.{row_named_of, default_fits}

-- equal bytes are the same list
pub bytes_same : (xs ys : List ℕ) → bytes_eq xs ys ≡ true → xs ≡ ys
bytes_same xs ys e = (bytes_eq-Decides xs ys).0 e

-- what names the row has a value in its range
abbrev pub Fits : ParamName → Option Said → Type 0
Fits row s = IfSome s (λ x. bytes_eq x.name (name_of row) ≡ true → value_fault (range_of row) x.value ≡ None)

FoundFits : ParamName → List Said → Type 0
FoundFits row known = IfSome (find (λ s. bytes_eq s.name (name_of row)) known) (λ x. value_fault (range_of row) x.value ≡ None)

found_push : (row : ParamName) (known : List Said) (s : Option Said) → FoundFits row known → Fits row s → FoundFits row (known ++ option_to_list s)
unfolding FoundFits
found_push row [] None h f = tt
found_push row [] (Some s) h f = by (bytes_eq s.name (name_of row)) refl
  where
    by : (b : Bool) → bytes_eq s.name (name_of row) ≡ b → IfSome (cond (bytes_eq s.name (name_of row)) (Some s) None) (λ x. value_fault (range_of row) x.value ≡ None)
    by true e = rw e (f e)
    by false e = rw e tt
found_push row (x ∷ known) s h f = by (bytes_eq x.name (name_of row)) refl h (λ g. found_push row known s g f)
  where
    by : (b : Bool) → bytes_eq x.name (name_of row) ≡ b
        → IfSome (cond (bytes_eq x.name (name_of row)) (Some x) (find (λ s. bytes_eq s.name (name_of row)) known)) (λ x. value_fault (range_of row) x.value ≡ None)
        → (FoundFits row known → FoundFits row (known ++ option_to_list s))
        → IfSome (cond (bytes_eq x.name (name_of row)) (Some x) (find (λ s. bytes_eq s.name (name_of row)) (known ++ option_to_list s))) (λ x. value_fault (range_of row) x.value ≡ None)
    by true e g more = rw e (rw e at g)
    by false e g more = rw e (more (rw e at g))

row_fits : (r : Option ParamName) (stood : Bool) (words : List (List ℕ)) (row : ParamName) → r ≡ Some row → row_fault r stood words ≡ None
    → value_fault (range_of row) (get_or words 0 []) ≡ None
row_fits None stood words row e h = cc
row_fits (Some x) true words row e h = cc
row_fits (Some x) false [] row e h = cc
row_fits (Some x) false (value ∷ words) row e h = let same : x ≡ row = cc in subst (λ r. value_fault (range_of r) value ≡ None) same h

line_fits : (row : ParamName) (n : ℕ) (known : List Said) (line : Line) → fault_behind known line ≡ None → Fits row (said n line)
line_fits row n known [] h = tt
line_fits row n known (name ∷ words) h = by (begins_comment name) refl h
  where
    by : (b : Bool) → begins_comment name ≡ b → cond (begins_comment name) None (row_fault (row_named name) (stands known name) words) ≡ None
        → Fits row (cond (begins_comment name) None (Some (record { line = n; name = name; value = get_or words 0 [] })))
    by true e g = rw e tt
    by false e g = rw e (λ same.
        let name_is : name ≡ name_of row = bytes_same name (name_of row) same in
        row_fits (row_named name) (stands known name) words row (ap row_named name_is ∙ row_named_of row) (rw e at g))

scan_found : (row : ParamName) (n : ℕ) (known : List Said) (lines : List Line) (last : List Said) → scan n known lines ≡ Ok last → FoundFits row known → FoundFits row last
scan_found row n known [] last e h = let same : known ≡ last = cc in subst (FoundFits row) same h
scan_found row n known (line ∷ lines) last e h = by (fault_behind known line) refl e
    (λ g more. scan_found row (n + 1) (known ++ option_to_list (said (n + 1) line)) lines last g more)
  where
    by : (f : Option ParamKind) → fault_behind known line ≡ f → after_fault (fault_behind known line) n (scan (n + 1) (known ++ option_to_list (said (n + 1) line)) lines) ≡ Ok last
        → (scan (n + 1) (known ++ option_to_list (said (n + 1) line)) lines ≡ Ok last → FoundFits row (known ++ option_to_list (said (n + 1) line)) → FoundFits row last) → FoundFits row last
    by None f g rest = rest (rw f at g) (found_push row known (said (n + 1) line) h (line_fits row (n + 1) known line f))
    by (Some kind) f g rest = let never = rw f at g in absurd (cc)

-- the value of each row lies in its range
pub scan_fits : (lines : List Line) (known : List Said) → scan 0 [] lines ≡ Ok known → (row : ParamName) → IfSome (word_of_row known row) (λ word. value_fault (range_of row) word ≡ None)
unfolding FoundFits
scan_fits lines known e row = by (find (λ s. bytes_eq s.name (name_of row)) known) (default_of row) (scan_found row 0 [] lines known e tt) (default_fits row)
  where
    by : (s : Option Said) (d : Option (List ℕ)) → IfSome s (λ x. value_fault (range_of row) x.value ≡ None) → IfSome d (λ word. value_fault (range_of row) word ≡ None)
        → IfSome (option_map (λ x. x.value) (option_or s (option_map (λ value. record { line = 0; name = name_of row; value = value }) d))) (λ word. value_fault (range_of row) word ≡ None)
    by (Some s) d h g = h
    by None None h g = tt
    by None (Some word) h g = g
