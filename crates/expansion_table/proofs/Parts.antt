-- The sum of a column between two entries.
use Rattle.std.proofs.Common.{◌≡◌, ◌⊎◌, ℕ, ◌+◌, ◌-◌, ◌*◌, ◌/◌, ◌%◌, ◌<◌, ◌≤◌, ◌^◌, length, refl, sym, ap, subst, ◌∙◌, inl, inr, arith, Option, Some, None}
use Rattle.std.proofs.Math.Nat.{zero-div}
use Rattle.std.proofs.lemmas.Nat.{div-add-mod', mul-le}
use Rattle.std.proofs.lemmas.Bool.{cases_lt}
use Rattle.nbody_model.specs.Tables.{ExpansionEntry, ExpansionData, expansion_at, Rises, Reaches, IsExpansion}
use Rattle.nbody_model.specs.Factors.{factor}
use Rattle.model_laws.specs.Laws.{Spans, AreBounded}
use Rattle.model_laws.proofs.Factors.{factors_bounded}
use Rattle.expansion_table.specs.declared.factors.Column.{Column}
use Rattle.expansion_table.specs.declared.factors.Column.TheVariants.{Kicks, Drifts}
use Rattle.expansion_table.specs.Columns.{sum_in}

-- what the code takes for the rest of a tick
pub rest_is : (tick s : ℕ) → tick < 2 ^ 64 → tick - tick / 2 ^ s * 2 ^ s % 18446744073709551616 ≡ tick % 2 ^ s
rest_is tick s h = omega (arith, div-add-mod' tick (2 ^ s))

-- at an entry nothing is added
nothing_added : (x y rest w : ℕ) → rest ≡ 0 → x + y * rest / w ≡ x
nothing_added x y rest w e = let none : y * rest ≡ 0 = ap (λ n. y * n) e ∙ omega arith in let q : y * rest / w ≡ 0 = ap (λ n. n / w) none ∙ zero-div w in omega (arith, q)

pub at_entry : (column : Column) (e : ExpansionData) (s tick here : ℕ) → s ≡ e.s → here ≡ sum_in column (expansion_at e (tick / 2 ^ s)) → tick % 2 ^ s ≡ 0 → here ≡ factor (sum_in column) (Some e) tick
unfolding factor
at_entry column e s tick here same h none =
    h ∙ ap (λ s. sum_in column (expansion_at e (tick / 2 ^ s))) same
    ∙ sym (nothing_added (sum_in column (expansion_at e (tick / 2 ^ e.s))) _ (tick % 2 ^ e.s) (2 ^ e.s) (ap (λ s. tick % 2 ^ s) (sym same) ∙ none))

pub after_entry : (column : Column) (e : ExpansionData) (s tick here next more rest : ℕ) → s ≡ e.s → here ≡ sum_in column (expansion_at e (tick / 2 ^ s)) → next ≡ sum_in column (expansion_at e (tick / 2 ^ s + 1))
    → more ≡ next - here → rest ≡ tick % 2 ^ s → here + more * rest / 2 ^ s ≡ factor (sum_in column) (Some e) tick
unfolding factor
after_entry column e s tick here next more rest same h n m r =
    (λ i. h i + m i * r i / 2 ^ s) ∙ (λ i. sum_in column (expansion_at e (tick / 2 ^ s)) + (n i - h i) * (tick % 2 ^ s) / 2 ^ s)
    ∙ ap (λ s. sum_in column (expansion_at e (tick / 2 ^ s)) + (sum_in column (expansion_at e (tick / 2 ^ s + 1)) - sum_in column (expansion_at e (tick / 2 ^ s))) * (tick % 2 ^ s) / 2 ^ s) same

-- from an entry to the next a column goes up
rises : (column : Column) (ticks : ℕ) (a b : ExpansionEntry) → Rises ticks a b → sum_in column a ≤ sum_in column b
rises Kicks ticks a b r = r.kick_up
rises Drifts ticks a b r = r.drift_up

-- behind an entry there is another one, as far as the table reaches
next_inside : (tick w n : ℕ) → tick ≤ (n - 1) * w → (tick % w ≡ 0 → ⊥) → (tick / w < n - 1) ⊎ (n - 1 ≤ tick / w) → tick / w + 1 < n
next_inside tick w n h some (inl l) = omega arith
next_inside tick w n h some (inr l) =
    let below : (n - 1) * w ≤ tick / w * w = mul-le (n - 1) w (tick / w) w l (omega arith) in
    let split : tick / w * w + tick % w ≡ tick = div-add-mod' tick w in
    let none : tick % w ≡ 0 = omega arith in
    absurd (some none)

pub goes_on : (column : Column) (e : ExpansionData) (s tick here next : ℕ) → IsExpansion e → Reaches e tick → s ≡ e.s → here ≡ sum_in column (expansion_at e (tick / 2 ^ s)) → next ≡ sum_in column (expansion_at e (tick / 2 ^ s + 1))
    → (tick % 2 ^ s ≡ 0 → ⊥) → here ≤ next
goes_on column e s tick here next is reach same h n some =
    let i : ℕ = tick / 2 ^ s in
    let wide : tick ≤ (length e.entries - 1) * 2 ^ s = subst (λ s. tick ≤ (length e.entries - 1) * 2 ^ s) (sym same) reach in
    let inside : i + 1 < length e.entries = next_inside tick (2 ^ s) (length e.entries) wide some (cases_lt i (length e.entries - 1)) in
    omega (arith, h, n, rises column (2 ^ e.s) (expansion_at e i) (expansion_at e (i + 1)) (is.each i inside))

-- a column never falls, and goes up by at most the ticks between
pub bounded : (column : Column) (table : Option ExpansionData) (from to : ℕ) → from ≤ to → Spans table to
    → (factor (sum_in column) table from ≤ factor (sum_in column) table to) × (factor (sum_in column) table to - factor (sum_in column) table from ≤ to - from)
bounded Kicks table from to h s = let b : AreBounded table from to = factors_bounded table from to h s in (omega (arith, b.kick_adds), b.kick_most)
bounded Drifts table from to h s = let b : AreBounded table from to = factors_bounded table from to h s in (omega (arith, b.drift_adds), b.drift_most)

-- without a table each tick counts
pub all_count : (column : Column) (from to : ℕ) → to - from ≡ factor (sum_in column) None to - factor (sum_in column) None from
unfolding factor
all_count column from to = refl
