-- What holds of groups and catalogues without a fault.
use Rattle.std.proofs.Common.{◌≡◌, ℕ, zero, suc, ◌+◌, ◌-◌, ◌*◌, ◌<◌, ◌≤◌, ◌==◌, List, [], length, get_or, map, Bool, true, false, not, cond, Option, Some, None, take, refl, sym, ap, subst, ◌∙◌, arith}
use Rattle.std.specs.Prelude.{nat_lt, nat_le, option_map}
use Rattle.std.specs.Option.{option_or}
use Rattle.std.specs.Str.{bytes_eq}
use Rattle.std.specs.List.Sorted.{IsStrictlyIncreasing}
use Rattle.std.proofs.lemmas.Bool.{cond-false}
use Rattle.std.proofs.lemmas.Bool.Decides.{nat_tests}
use Rattle.std.proofs.lemmas.List.{get_or-map, length-map}
use Rattle.std.proofs.lemmas.List.FromFn.{length-map-range_with_len, get_or-map-range_with_len}
use Rattle.group_file.specs.declared.errors.GroupErr.{GroupErr}
use Rattle.group_file.specs.declared.errors.GroupErr.TheVariants.{Tag, Truncated, Field, Repeated}
use Rattle.group_file.specs.Catalogues.{GroupData, IsGroup, IsGood}
use Rattle.group_file.specs.GroupFile.{count_in, label_at, number_at, id_at, ids_at, group_at, start, first_groups, groups_in, first_of, is_wrong_id, id_fault, is_low, group_fault, label_before, fault_of_group, groups_fault, repeated_in, repeated_fault, group_tag, head_fault, rest_fault, Spell}
use Rattle.group_file.proofs.Faults.{each_none, both_none}
use Rattle.group_file.proofs.Twice.{are_apart}

none_some : (e : GroupErr) → Some e ≡ None → ⊥
none_some e h = cc

past_test : (t : Bool) (e : GroupErr) (r : Option GroupErr) → cond t (Some e) r ≡ None → (t ≡ false) × (r ≡ None)
past_test true e r h = absurd (none_some e h)
past_test false e r h = (refl, h)

at_least : (a b : ℕ) → nat_lt a b ≡ false → b ≤ a
at_least a b h = grind (arith, nat_tests)

above : (a b : ℕ) → nat_le a b ≡ false → b < a
above a b h = grind (arith, nat_tests)

some_of : (n : ℕ) → (n == 0) ≡ false → 1 ≤ n
some_of n h = grind (arith, nat_tests)

same_of : (a b : ℕ) → not (a == b) ≡ false → a ≡ b
same_of a b h = grind (arith, nat_tests)

-- a group without a fault
pub record IsSound (bytes : List ℕ) (before : Option ℕ) (p : ℕ) : Type 0 where
  pub whole : p + 24 + 8 * number_at bytes p ≤ length bytes
  pub low : is_low before (label_at bytes p) ≡ false
  pub some : 1 ≤ number_at bytes p
  pub few : number_at bytes p ≤ 1048576
  pub ids : (k : ℕ) → k < number_at bytes p → is_wrong_id bytes p k ≡ false

pub sound : (bytes : List ℕ) (before : Option ℕ) (p : ℕ) → p ≤ length bytes → group_fault bytes before p ≡ None → IsSound bytes before p
unfolding group_fault
sound bytes before p l h =
    let n : ℕ = number_at bytes p in
    let a = past_test (nat_lt (length bytes - p) 24) (Truncated p) _ h in
    let b = past_test (is_low before (label_at bytes p)) (Field p) _ a.1 in
    let c = past_test (n == 0) (Field (p + 16)) _ b.1 in
    let d = past_test (nat_lt 1048576 n) (Field (p + 16)) _ c.1 in
    let e = past_test (nat_lt (length bytes - (p + 24)) (8 * n)) (Truncated (p + 24)) _ d.1 in
    record {
      whole = omega (arith, l, at_least (length bytes - p) 24 a.0, at_least (length bytes - (p + 24)) (8 * n) e.0);
      low = b.0;
      some = some_of n c.0;
      few = at_least 1048576 n d.0;
      ids = λ k m. (past_test (is_wrong_id bytes p k) (Field (p + 24 + 8 * k)) None (each_none (id_fault bytes p) n e.1 k m)).0;
    }

-- ---- as a group

rises : (bytes : List ℕ) (p k : ℕ) → is_wrong_id bytes p (k + 1) ≡ false → id_at bytes p k < id_at bytes p (k + 1)
rises bytes p k h =
    let later : (k + 1 == 0) ≡ false = grind (arith, nat_tests) in
    let before : k + 1 - 1 ≡ k = omega arith in
    let test : nat_le (id_at bytes p (k + 1)) (id_at bytes p (k + 1 - 1)) ≡ false = sym (cond-false (k + 1 == 0) (not (id_at bytes p 0 == label_at bytes p)) _ later) ∙ h in
    subst (λ j. id_at bytes p j < id_at bytes p (k + 1)) before (above (id_at bytes p (k + 1)) (id_at bytes p (k + 1 - 1)) test)

ids_long : (bytes : List ℕ) (p n : ℕ) → length (ids_at bytes p n) ≡ n
ids_long bytes p n = length-map-range_with_len (id_at bytes p) 0 n

id_of : (bytes : List ℕ) (p n k : ℕ) → k < n → get_or (ids_at bytes p n) k 0 ≡ id_at bytes p k
id_of bytes p n k l = get_or-map-range_with_len (id_at bytes p) 0 n k k 0 l (omega arith)

pub is_group : (bytes : List ℕ) (before : Option ℕ) (p : ℕ) → IsSound bytes before p → IsGroup (group_at bytes p)
unfolding group_at
is_group bytes before p s =
    let n : ℕ = number_at bytes p in
    record {
      some = omega (arith, ids_long bytes p n, s.some);
      few = omega (arith, ids_long bytes p n, s.few);
      ascending = λ k l. (
          let m : k + 1 < n = omega (arith, l, ids_long bytes p n) in
          omega (arith, id_of bytes p n k (omega (arith, m)), id_of bytes p n (k + 1) m, rises bytes p k (s.ids (k + 1) m)));
      first = id_of bytes p n 0 (omega (arith, s.some)) ∙ same_of (id_at bytes p 0) (label_at bytes p) (s.ids 0 (omega (arith, s.some)));
    }

-- ---- as a catalogue

-- each group begins within the bytes
starts_within : (bytes : List ℕ) (n : ℕ) → 16 ≤ length bytes → first_of (fault_of_group bytes) n ≡ None → (k : ℕ) → k ≤ n → start bytes k ≤ length bytes
starts_within bytes n l h zero m = l
starts_within bytes n l h (suc k) m = (sound bytes (label_before bytes k) (start bytes k) (starts_within bytes n l h k (omega (arith, m))) (each_none (fault_of_group bytes) n h k (omega (arith, m)))).whole

pub sound_at : (bytes : List ℕ) (n : ℕ) → 16 ≤ length bytes → first_of (fault_of_group bytes) n ≡ None → (k : ℕ) → k < n → IsSound bytes (label_before bytes k) (start bytes k)
sound_at bytes n l h k m = sound bytes (label_before bytes k) (start bytes k) (starts_within bytes n l h k (omega (arith, m))) (each_none (fault_of_group bytes) n h k m)

label_of : (bytes : List ℕ) (p : ℕ) → (group_at bytes p).label ≡ label_at bytes p
unfolding group_at
label_of bytes p = refl

pub groups_long : (bytes : List ℕ) (n : ℕ) → length (first_groups bytes n) ≡ n
groups_long bytes n = length-map-range_with_len (λ k. group_at bytes (start bytes k)) 0 n

group_of : (bytes : List ℕ) (n k : ℕ) (d : GroupData) → k < n → get_or (first_groups bytes n) k d ≡ group_at bytes (start bytes k)
group_of bytes n k d l = get_or-map-range_with_len (λ k. group_at bytes (start bytes k)) 0 n k k d l (omega arith)

a_group : GroupData
a_group = record { label = 0; mass = 0; ids = [] }

label_in : (bytes : List ℕ) (n k : ℕ) → k < n → get_or (map (λ g. g.label) (first_groups bytes n)) k 0 ≡ label_at bytes (start bytes k)
label_in bytes n k l = get_or-map (λ (g : GroupData). g.label) (first_groups bytes n) k a_group 0 (omega (arith, l, groups_long bytes n)) ∙ ap (λ (g : GroupData). g.label) (group_of bytes n k a_group l) ∙ label_of bytes (start bytes k)

labels_rise : (bytes : List ℕ) (n : ℕ) → 16 ≤ length bytes → first_of (fault_of_group bytes) n ≡ None → IsStrictlyIncreasing (map (λ g. g.label) (first_groups bytes n))
labels_rise bytes n l h k m =
    let within : k + 1 < n = omega (arith, m, length-map (first_groups bytes n) (λ (g : GroupData). g.label), groups_long bytes n) in
    let up : suc k ≡ k + 1 = omega arith in
    let s : IsSound bytes (label_before bytes (suc k)) (start bytes (suc k)) = subst (λ j. IsSound bytes (label_before bytes j) (start bytes j)) (sym up) (sound_at bytes n l h (k + 1) within) in
    let lower : label_at bytes (start bytes k) < label_at bytes (start bytes (suc k)) = above (label_at bytes (start bytes (suc k))) (label_at bytes (start bytes k)) s.low in
    let at : label_at bytes (start bytes (suc k)) ≡ label_at bytes (start bytes (k + 1)) = ap (λ j. label_at bytes (start bytes j)) up in
    omega (arith, label_in bytes n k (omega (arith, within)), label_in bytes n (k + 1) within, lower, at)

none_of : (o : Option ℕ) → option_map (λ id. Repeated id) o ≡ None → o ≡ None
none_of None h = refl
none_of (Some id) h = absurd (none_some (Repeated id) h)

pub catalogue_good : (bytes : List ℕ) (n : ℕ) → 16 ≤ length bytes → first_of (fault_of_group bytes) n ≡ None → repeated_fault (first_groups bytes n) ≡ None → IsGood (first_groups bytes n)
catalogue_good bytes n l h r = record {
  ascending = labels_rise bytes n l h;
  each = λ k d m. (
      let within : k < n = omega (arith, m, groups_long bytes n) in
      subst IsGroup (sym (group_of bytes n k d within)) (is_group bytes (label_before bytes k) (start bytes k) (sound_at bytes n l h k within)));
  apart = are_apart (first_groups bytes n) (none_of (repeated_in (first_groups bytes n)) r);
}

-- bytes without a fault spell a good catalogue
pub spelled_good : (bytes : List ℕ) (C : List GroupData) → Spell bytes C → IsGood C
spelled_good bytes C s =
    let a = both_none (head_fault bytes) (option_or (option_or (groups_fault bytes) (rest_fault bytes)) (repeated_fault (groups_in bytes))) s.faultless in
    let b = both_none (option_or (groups_fault bytes) (rest_fault bytes)) (repeated_fault (groups_in bytes)) a.1 in
    let c = both_none (groups_fault bytes) (rest_fault bytes) b.0 in
    let t = past_test (not (bytes_eq (take 8 bytes) group_tag)) Tag _ a.0 in
    let u = past_test (nat_lt (length bytes) 16) (Truncated 8) None t.1 in
    subst IsGood (sym s.is) (catalogue_good bytes (count_in bytes) (at_least (length bytes) 16 u.0) c.0 b.1)
