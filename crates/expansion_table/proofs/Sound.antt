-- Bytes without a fault spell a table that keeps its limits.
use Rattle.std.proofs.Common.{◌≡◌, ℕ, ◌+◌, ◌-◌, ◌<◌, ◌≤◌, ◌^◌, ◌==◌, ◌&&◌, Bool, true, false, List, length, Some, None, find, not, if◌then◌else◌, refl, sym, ap, subst, ◌∙◌, arith}
use Rattle.std.specs.List.{range_with_len}
use Rattle.std.specs.Option.{option_map}
use Rattle.std.proofs.lemmas.Bool.Decides.{nat_tests}
use Rattle.std.proofs.lemmas.List.FromFn.{length-map-range_with_len, get_or-map-range_with_len}
use Rattle.nbody_model.specs.Tables.{ExpansionEntry, expansion_at, Rises, IsExpansion}
use Rattle.expansion_table.specs.declared.errors.ExpErr.TheVariants.{Entry}
use Rattle.expansion_table.specs.ExpansionFile.{spacing_in, count_in, entry_in, table_in, goes_up, may_stand, entry_fault}
use Rattle.expansion_table.proofs.Firsts.{FailsBelow, first_found, none_found}

-- every entry may stand at its index
abbrev pub AllStand : List ℕ → ℕ → Type 0
AllStand bytes n = (index : ℕ) → index < n → may_stand bytes index ≡ true

up : (ticks a b : ℕ) → goes_up ticks a b ≡ true → (a ≤ b) × (b ≤ a + ticks)
up ticks a b e = (grind (arith, nat_tests), grind (arith, nat_tests))

both : (a b : Bool) → (a && b) ≡ true → (a ≡ true) × (b ≡ true)
both true b e = (refl, e)
both false b e = absurd cc

zero_of : (n : ℕ) → (n == 0) ≡ true → n ≡ 0
zero_of n e = grind (arith, nat_tests)

no_zero : (n : ℕ) → (n + 1 == 0) ≡ false
no_zero n = grind (arith, nat_tests)

start : (bytes : List ℕ) → may_stand bytes 0 ≡ true → ((entry_in bytes 0).kick ≡ 0) × ((entry_in bytes 0).drift ≡ 0)
unfolding may_stand
start bytes e = let parts = both ((entry_in bytes 0).kick == 0) ((entry_in bytes 0).drift == 0) e in (zero_of (entry_in bytes 0).kick parts.0, zero_of (entry_in bytes 0).drift parts.1)

-- how the entry behind another one may stand
follows : List ℕ → ExpansionEntry → ExpansionEntry → Bool
follows bytes a b = goes_up (2 ^ spacing_in bytes) a.kick b.kick && goes_up (2 ^ spacing_in bytes) a.drift b.drift

later : (bytes : List ℕ) (index : ℕ) → may_stand bytes (index + 1) ≡ true → Rises (2 ^ spacing_in bytes) (entry_in bytes index) (entry_in bytes (index + 1))
unfolding may_stand follows
later bytes index e =
    let a : ExpansionEntry = entry_in bytes index in
    let b : ExpansionEntry = entry_in bytes (index + 1) in
    let same : index ≡ index + 1 - 1 = omega arith in
    let is : follows bytes a b ≡ true =
    ap (λ i. follows bytes (entry_in bytes i) b) same
    ∙ sym (ap (λ t. if t then b.kick == 0 && b.drift == 0 else follows bytes (entry_in bytes (index + 1 - 1)) b) (no_zero index)) ∙ e in
    let parts = both (goes_up (2 ^ spacing_in bytes) a.kick b.kick) (goes_up (2 ^ spacing_in bytes) a.drift b.drift) is in
    let kicks = up (2 ^ spacing_in bytes) a.kick b.kick parts.0 in
    let drifts = up (2 ^ spacing_in bytes) a.drift b.drift parts.1 in
    record { kick_up = kicks.0; kick_most = kicks.1; drift_up = drifts.0; drift_most = drifts.1 }

-- where some entry may not stand, the first is the fault; where each may, there is none
some_count : (bytes : List ℕ) → 0 < count_in bytes → entry_fault bytes ≡ option_map (λ index. Entry index) (find (λ index. not (may_stand bytes index)) (range_with_len 0 (count_in bytes)))
some_count bytes some = ap (λ t. if t then Some (Entry 0) else option_map (λ index. Entry index) (find (λ index. not (may_stand bytes index)) (range_with_len 0 (count_in bytes)))) (not_none (count_in bytes) some)
  where
    not_none : (n : ℕ) → 0 < n → (n == 0) ≡ false
    not_none n h = grind (arith, nat_tests)

pub fault_at : (bytes : List ℕ) (index : ℕ) → index < count_in bytes → FailsBelow (λ index. not (may_stand bytes index)) index → may_stand bytes index ≡ false → entry_fault bytes ≡ Some (Entry index)
fault_at bytes index l before here =
    some_count bytes (omega arith) ∙ ap (option_map (λ index. Entry index)) (first_found (λ index. not (may_stand bytes index)) (count_in bytes) index l before (ap not here))

pub faultless : (bytes : List ℕ) → 0 < count_in bytes → FailsBelow (λ index. not (may_stand bytes index)) (count_in bytes) → entry_fault bytes ≡ None
faultless bytes some each = some_count bytes some ∙ ap (option_map (λ index. Entry index)) (none_found (λ index. not (may_stand bytes index)) (count_in bytes) each)

sound : (bytes : List ℕ) → spacing_in bytes ≤ 40 → 0 < count_in bytes → AllStand bytes (count_in bytes) → IsExpansion (table_in bytes)
sound bytes narrow some all = record {
  spaced = narrow;
  some = omega (arith, some, len);
  start_kick = ap (λ e. e.kick) (at 0 some) ∙ (start bytes (all 0 some)).0;
  start_drift = ap (λ e. e.drift) (at 0 some) ∙ (start bytes (all 0 some)).1;
  each = λ i l. let inside : i + 1 < count_in bytes = omega (arith, len, l) in
      subst (λ a. Rises (2 ^ spacing_in bytes) a (expansion_at (table_in bytes) (i + 1))) (sym (at i (omega (arith, inside))))
      (subst (λ b. Rises (2 ^ spacing_in bytes) (entry_in bytes i) b) (sym (at (i + 1) inside)) (later bytes i (all (i + 1) inside)));
}
  where
    n : ℕ
    n = count_in bytes

    len : length (table_in bytes).entries ≡ count_in bytes
    len = length-map-range_with_len (entry_in bytes) 0 (count_in bytes)

    at : (i : ℕ) → i < count_in bytes → expansion_at (table_in bytes) i ≡ entry_in bytes i
    at i l = get_or-map-range_with_len (entry_in bytes) 0 (count_in bytes) i i _ l (omega arith)

pub stands : (bytes : List ℕ) (n : ℕ) → FailsBelow (λ index. not (may_stand bytes index)) n → AllStand bytes n
stands bytes n h index l = not_false (may_stand bytes index) (h index l)
  where
    not_false : (b : Bool) → not b ≡ false → b ≡ true
    not_false true e = refl
    not_false false e = absurd cc

-- the same of the parts of a table, which then reaches the ticks up to its last entry
pub record IsSound (bytes : List ℕ) (s count : ℕ) (entries : List ExpansionEntry) : Type 0 where
  pub is : IsExpansion (record { s = s; entries = entries })
  pub long : length entries ≡ count

pub sound_parts : (bytes : List ℕ) (s count : ℕ) (entries : List ExpansionEntry) → s ≡ spacing_in bytes → s ≤ 40 → count ≡ count_in bytes → entries ≡ (table_in bytes).entries → 0 < count → AllStand bytes count
    → IsSound bytes s count entries
sound_parts bytes s count entries es narrow ec ee some all = record {
  is = subst (λ es. IsExpansion (record { s = s; entries = es })) (sym ee)
      (subst (λ s. IsExpansion (record { s = s; entries = (table_in bytes).entries })) (sym es)
      (sound bytes (subst (λ s. s ≤ 40) es narrow) (subst (λ n. 0 < n) ec some) (subst (AllStand bytes) ec all)));
  long = ap length ee ∙ length-map-range_with_len (entry_in bytes) 0 (count_in bytes) ∙ sym ec;
}
