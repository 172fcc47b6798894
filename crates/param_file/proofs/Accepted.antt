-- What accepted lines say of each row.
use Rattle.std.proofs.Common.{◌≡◌, ℕ, zero, suc, ◌<◌, ◌≤◌, ◌^◌, Bool, true, false, not, ◌&&◌, List, [], ◌∷◌, length, get_or, Option, Some, None, Result, Ok, Err, refl, sym, ap, subst, cond, IsTrue, arith}
use Rattle.std.specs.Prelude.{IfSome, is_some, option_map, nat_le, nat_lt, ◌==◌}
use Rattle.std.specs.Option.{option_or}
use Rattle.std.specs.List.{find, list_all}
use Rattle.std.specs.Char.{is_ascii_digit}
use Rattle.std.specs.Str.{bytes_eq}
use Rattle.std.proofs.lemmas.Bool.Decides.{nat_tests}
use Rattle.store_io.specs.Names.{is_name}
use Rattle.text_words.specs.Numbers.{value_of, whole_number}
use Rattle.text_words.specs.declared.number.NumErr.{NumErr}
use Rattle.text_words.specs.declared.number.NumErr.TheVariants.{Empty, NotDigit, TooLarge}
use Rattle.param_file.specs.Checks.{IsAccepted}
use Rattle.param_file.specs.Reading.{Said, as_value, default_said, is_absent, missing, number_fault, number_of_word, number_or_0, stands, value_fault, word_of_row}
use Rattle.param_file.specs.Rows.{all_rows, default_of, is_required, name_of, range_of}
use Rattle.param_file.specs.Settings.{number}
use Rattle.param_file.specs.declared.errors.ParamKind.TheVariants.{OutOfRange}
use Rattle.param_file.specs.declared.names.ParamName.{ParamName}
use Rattle.param_file.specs.declared.names.ParamName.TheVariants.{InitCondFile}
use Rattle.param_file.specs.declared.names.Range.{Range}
use Rattle.param_file.specs.declared.names.Range.TheVariants.{Name, Number}
use Rattle.param_file.proofs.Table.{place, place-lt, row_at_place}

find_none : {X : Type 0} (p : X → Bool) (xs : List X) (i : ℕ) (d : X) → find p xs ≡ None → i < length xs → p (get_or xs i d) ≡ false
find_none p [] i d e h = absurd (omega arith)
find_none p (x ∷ xs) i d e h = by (p x) refl i h e (λ j f l. find_none p xs j d f l)
  where
    by : (b : Bool) → p x ≡ b → (j : ℕ) → j < length (x ∷ xs) → cond (p x) (Some x) (find p xs) ≡ None
        → ((k : ℕ) → find p xs ≡ None → k < length xs → p (get_or xs k d) ≡ false) → p (get_or (x ∷ xs) j d) ≡ false
    by true f j l g more = let never = rw f at g in absurd (cc)
    by false f zero l g more = f
    by false f (suc j) l g more = more j (rw f at g) (omega arith)

find_stands : (known : List Said) (name : List ℕ) → stands known name ≡ true → is_some (find (λ s. bytes_eq s.name name) known) ≡ true
find_stands [] name e = cc
find_stands (s ∷ known) name e = by (bytes_eq s.name name) refl e (λ g. find_stands known name g)
  where
    by : (b : Bool) → bytes_eq s.name name ≡ b → stands (s ∷ known) name ≡ true → (stands known name ≡ true → is_some (find (λ s. bytes_eq s.name name) known) ≡ true)
        → is_some (cond (bytes_eq s.name name) (Some s) (find (λ s. bytes_eq s.name name) known)) ≡ true
    by true f g more = rw f refl
    by false f g more = rw f (more (rw f at g))

not_absent : (known : List Said) (row : ParamName) → is_absent known row ≡ false → is_required row ≡ true → stands known (name_of row) ≡ true
unfolding is_absent
not_absent known row e r = by (stands known (name_of row)) (rw r at e)
  where
    by : (b : Bool) → not b ≡ false → b ≡ true
    by true f = refl
    by false f = cc

-- a required row that isn't missing has a value
pub present : (known : List Said) (row : ParamName) → missing known ≡ None → is_required row ≡ true → is_some (word_of_row known row) ≡ true
present known row m r =
    let absent = rw (row_at_place row) at (find_none (is_absent known) all_rows (place row) InitCondFile m (place-lt row)) in
    by (find (λ s. bytes_eq s.name (name_of row)) known) (default_said row) (find_stands known (name_of row) (not_absent known row absent r))
  where
    by : (s d : Option Said) → is_some s ≡ true → is_some (option_map (λ x. x.value) (option_or s d)) ≡ true
    by (Some s) d e = refl
    by None d e = cc

-- a row with a default has a value
pub present_default : (known : List Said) (row : ParamName) → is_some (default_of row) ≡ true → is_some (word_of_row known row) ≡ true
present_default known row e = by (find (λ s. bytes_eq s.name (name_of row)) known) (default_of row) e
  where
    by : (s : Option Said) (d : Option (List ℕ)) → is_some d ≡ true
        → is_some (option_map (λ x. x.value) (option_or s (option_map (λ value. record { line = 0; name = name_of row; value = value }) d))) ≡ true
    by (Some s) d e = refl
    by None (Some d) e = refl
    by None None e = cc

-- a number in its range
pub record NumberIn (range : Range) (word : Option (List ℕ)) (low high : ℕ) : Type 0 where
  pub low_end : low ≤ number_of_word word
  pub high_end : number_of_word word ≤ high
  pub value : option_map (as_value range) word ≡ Some (number (number_of_word word))

record InRange (word : List ℕ) (low high : ℕ) : Type 0 where
  low_end : low ≤ number_or_0 (whole_number word)
  high_end : number_or_0 (whole_number word) ≤ high
  value : number_or_0 (whole_number word) ≡ value_of word

whole_is : (word : List ℕ) (n : ℕ) → whole_number word ≡ Ok n → n ≡ value_of word
whole_is word n e = by (length word == 0) (list_all is_ascii_digit word) (nat_lt (value_of word) (2 ^ 64)) e
  where
    by : (a b c : Bool) → cond a (Err Empty) (cond b (cond c (Ok (value_of word)) (Err TooLarge)) (Err NotDigit)) ≡ Ok n → n ≡ value_of word
    by true b c e = cc
    by false false c e = cc
    by false true false e = cc
    by false true true e = cc

ends : (low n high : ℕ) → cond (nat_le low n && nat_le n high) None (Some OutOfRange) ≡ None → (low ≤ n) × (n ≤ high)
ends low n high e = (grind (arith, nat_tests), grind (arith, nat_tests))

in_range : (word : List ℕ) (low high : ℕ) → number_fault low high (whole_number word) ≡ None → InRange word low high
in_range word low high e = by (whole_number word) refl e
  where
    by : (r : Result ℕ NumErr) → whole_number word ≡ r → number_fault low high (whole_number word) ≡ None → InRange word low high
    by (Ok n) f g = let h = ends low n high (rw f at g) in record { low_end = rw f h.0; high_end = rw f h.1; value = rw f (whole_is word n f) }
    by (Err Empty) f g = let never = rw f at g in absurd (cc)
    by (Err NotDigit) f g = let never = rw f at g in absurd (cc)
    by (Err TooLarge) f g = let never = rw f at g in absurd (cc)

pub number_in : (range : Range) (word : Option (List ℕ)) (low high : ℕ) → range ≡ Number low high → IfSome word (λ w. value_fault range w ≡ None) → is_some word ≡ true
    → NumberIn range word low high
number_in Name word low high r f e = absurd (cc)
number_in (Number l h) None low high r f e = absurd (cc)
number_in (Number l h) (Some word) low high r f e =
    let i = in_range word l h f in
    let low_is : l ≡ low = cc in
    let high_is : h ≡ high = cc in
    let low_end = i.low_end in
    let high_end = i.high_end in
    record { low_end = omega arith; high_end = omega arith; value = ap (λ n. Some (number n)) (sym i.value) }

-- a number of accepted lines lies in its range
pub number_at : (known : List Said) → IsAccepted known → (row : ParamName) (low high : ℕ) → range_of row ≡ Number low high → is_some (word_of_row known row) ≡ true
    → NumberIn (range_of row) (word_of_row known row) low high
number_at known a row low high r e = number_in (range_of row) (word_of_row known row) low high r (a.fits row) e

named_in : (range : Range) (word : Option (List ℕ)) → range ≡ Name → IfSome word (λ w. value_fault range w ≡ None) → IfSome word (λ w. IsTrue (is_name w))
named_in (Number l h) word r f = absurd (cc)
named_in Name None r f = tt
named_in Name (Some word) r f = by (is_name word) f
  where
    by : (b : Bool) → cond b None (Some OutOfRange) ≡ None → b ≡ true
    by true e = refl
    by false e = cc

-- a name of accepted lines is one
pub named_at : (known : List Said) → IsAccepted known → (row : ParamName) (word : Option (List ℕ)) → range_of row ≡ Name → word_of_row known row ≡ word → IfSome word (λ w. IsTrue (is_name w))
named_at known a row word r e = subst (λ w. IfSome w (λ n. IsTrue (is_name n))) e (named_in (range_of row) (word_of_row known row) r (a.fits row))
