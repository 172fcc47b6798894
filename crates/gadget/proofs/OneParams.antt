-- Lines that are no settings have one first fault.
use Rattle.std.proofs.Common.{◌≡◌, ◌<◌, ◌≤◌, ℕ, max, true, false, true≢false, List, [], length, get_or, take, Option, Some, None, inl, inr, refl, sym, ap, subst, ◌∙◌, arith}
use Rattle.text_words.specs.Comments.{Line}
use Rattle.param_file.specs.Reading.{Said, all_said, fault_behind, line_of_name, line_of_row, missing, number_of_row, word_of_row, AreGood, IsAtLine, IsFirstClash, IsFirstFault, Spell}
use Rattle.param_file.specs.Settings.{clash_at}
use Rattle.param_file.specs.declared.errors.ParamErr.{ParamErr}
use Rattle.param_file.specs.declared.errors.ParamKind.{ParamKind}
use Rattle.param_file.specs.declared.errors.ParamKind.TheVariants.{Missing, OutOfRange, Clash}
use Rattle.param_file.specs.declared.names.ParamName.{ParamName}
use Rattle.param_file.specs.declared.names.ParamName.TheVariants.{LowBin, TopBin}
use Rattle.param_file.proofs.OneReading.{one_value, no_fault}
use Rattle.gadget.proofs.Exact.{IsExact, Either, OneWay, either_one, check_exact, mapped}

made : ℕ → ParamKind → ParamErr
made line kind = record { line = line; kind = kind }

one_err : (a b : ParamErr) → a.line ≡ b.line → a.kind ≡ b.kind → a ≡ b
unfolding made
one_err a b e f = ap (λ l. made l a.kind) e ∙ ap (made b.line) f

-- ---- a line at fault

none_some : {A : Type 0} {x : A} {o : Option A} → o ≡ None → o ≡ Some x → 1 ≤ 0
none_some e f = absurd (cc)

some_one : {A : Type 0} {x y : A} {o : Option A} → o ≡ Some x → o ≡ Some y → x ≡ y
some_one e f = cc

earlier : (lines : List Line) (a b : ParamErr) (f : IsAtLine lines a.line a.kind) (g : IsAtLine lines b.line b.kind) → f.index < g.index → 1 ≤ 0
earlier lines a b f g l = none_some (g.before f.index l) f.is

one_line : (lines : List Line) → OneWay (λ (e : ParamErr). IsAtLine lines e.line e.kind)
one_line lines a b f g =
    let no : f.index < g.index → 1 ≤ 0 = earlier lines a b f g in
    let none : g.index < f.index → 1 ≤ 0 = earlier lines b a g f in
    let places : f.index ≡ g.index = grind arith in
    let kinds : a.kind ≡ b.kind = some_one (subst (λ k. fault_behind (all_said (take k lines)) (get_or lines k []) ≡ Some a.kind) places f.is) g.is in
    let counts : a.line ≡ b.line = omega (arith, f.counted, g.counted) in
    one_err a b counts kinds

line_exact : (lines : List Line) → IsExact (λ (e : ParamErr). IsAtLine lines e.line e.kind) (λ (u : Unit {0}). AreGood lines (length lines))
line_exact lines = record {
  one_refusal = one_line lines;
  one_value = λ u v p q. refl;
  apart = λ e u f good. let never : 1 ≤ 0 = none_some (good f.index f.inside) f.is in omega arith;
}

-- ---- a row that is missing

abbrev Lacks : List Said → ParamErr → Type 0
Lacks known e = (row : ParamName) × (e ≡ made 0 (Missing row)) × (missing known ≡ Some row)

missing_exact : (known : List Said) → IsExact (Lacks known) (λ (u : Unit {0}). missing known ≡ None)
missing_exact known = mapped (λ row. missing known ≡ Some row) _ (λ row. made 0 (Missing row)) (check_exact (missing known))

-- ---- bins that are crossed

abbrev Crossed : List Said → ParamErr → Type 0
Crossed known e = (e ≡ made (max (line_of_row known LowBin) (line_of_row known TopBin)) OutOfRange) × (number_of_row known TopBin < number_of_row known LowBin)

crossed_exact : (known : List Said) → IsExact (Crossed known) (λ (u : Unit {0}). number_of_row known LowBin ≤ number_of_row known TopBin)
crossed_exact known = record {
  one_refusal = λ a b p q. p.0 ∙ sym q.0;
  one_value = λ u v p q. refl;
  apart = λ a u p q. omega (arith, p.1, q);
}

-- ---- names that clash

abbrev Clashing : List Said → ParamErr → Type 0
Clashing known e = (i : ℕ) × (j : ℕ) × (e ≡ made (max (line_of_name known i) (line_of_name known j)) Clash) × IsFirstClash known i j

true_false : (known : List Said) (i j : ℕ) → clash_at (word_of_row known) i j ≡ true → clash_at (word_of_row known) i j ≡ false → 1 ≤ 0
true_false known i j e f = absurd (true≢false (sym e ∙ f))

one_clash : (known : List Said) (i j k l : ℕ) → IsFirstClash known i j → IsFirstClash known k l → (i ≡ k) × (j ≡ l)
one_clash known i j k l f g =
    let no : i < k → 1 ≤ 0 = λ m. true_false known i j f.clash (g.before i j m f.ordered f.inside) in
    let none : k < i → 1 ≤ 0 = λ m. true_false known k l g.clash (f.before k l m g.ordered g.inside) in
    let first : i ≡ k = grind arith in
    let never : j < l → 1 ≤ 0 = λ m. true_false known i j f.clash (subst (λ n. clash_at (word_of_row known) n j ≡ false) (sym first) (g.between j (subst (λ n. n < j) first f.ordered) m)) in
    let neither : l < j → 1 ≤ 0 = λ m. true_false known k l g.clash (subst (λ n. clash_at (word_of_row known) n l ≡ false) first (f.between l (subst (λ n. n < l) (sym first) g.ordered) m)) in
    (first, grind arith)

clash_one : (known : List Said) → OneWay (Clashing known)
clash_one known a b p q =
    let same = one_clash known p.0 p.1 q.0 q.1 p.3 q.3 in
    p.2 ∙ ap (λ i. made (max (line_of_name known i) (line_of_name known p.1)) Clash) same.0
    ∙ ap (λ j. made (max (line_of_name known q.0) (line_of_name known j)) Clash) same.1 ∙ sym q.2

-- ---- all of them

abbrev Bins : List Said → ParamErr → Type 0
Bins known = Either (Crossed known) (λ (u : Unit {0}). number_of_row known LowBin ≤ number_of_row known TopBin) (λ u. Clashing known)

abbrev Complete : List Said → ParamErr → Type 0
Complete known = Either (Lacks known) (λ (u : Unit {0}). missing known ≡ None) (λ u. Bins known)

abbrev Faults : List Line → ParamErr → Type 0
Faults lines = Either (λ e. IsAtLine lines e.line e.kind) (λ (u : Unit {0}). AreGood lines (length lines)) (λ u. Complete (all_said lines))

faults_one : (lines : List Line) → OneWay (Faults lines)
faults_one lines =
    either_one _ _ (λ u. Complete (all_said lines)) (line_exact lines)
    (λ u. either_one _ _ (λ v. Bins (all_said lines)) (missing_exact (all_said lines))
    (λ v. either_one _ _ (λ w. Clashing (all_said lines)) (crossed_exact (all_said lines)) (λ w. clash_one (all_said lines))))

is_fault : (lines : List Line) (e : ParamErr) → IsFirstFault lines e.line e.kind → Faults lines e
unfolding made
is_fault lines e (inl f) = inl f
is_fault lines e (inr (inl f)) = inr (tt, f.good, inl (f.row, one_err e (made 0 (Missing f.row)) f.counted f.is, f.first))
is_fault lines e (inr (inr (inl f))) =
    let known = all_said lines in
    inr (tt, f.good, inr (tt, f.complete, inl (one_err e (made (max (line_of_row known LowBin) (line_of_row known TopBin)) OutOfRange) f.counted f.is, f.crossed)))
is_fault lines e (inr (inr (inr f))) =
    let known = all_said lines in
    inr (
      tt,
      f.good,
      inr (
        tt,
        f.complete,
        inr (
          tt,
          f.ordered,
          (
            f.first_row,
            f.second_row,
            one_err e (made (max (line_of_name known f.first_row) (line_of_name known f.second_row)) Clash) f.counted f.is,
            f.first,
          ),
        ),
      ),
    )

pub params_exact : (lines : List Line) → IsExact (λ (e : ParamErr). IsFirstFault lines e.line e.kind) (Spell lines)
params_exact lines = record {
  one_refusal = λ a b p q. faults_one lines a b (is_fault lines a p) (is_fault lines b q);
  one_value = one_value lines;
  apart = λ e p f s. no_fault lines p e.line e.kind s f;
}
