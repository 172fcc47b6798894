-- A catalogue that was written is read back.
use Rattle.std.proofs.Common.{◌≡◌, ℕ, zero, suc, ◌+◌, ◌-◌, ◌*◌, ◌^◌, ◌<◌, ◌≤◌, ◌==◌, Bool, true, false, not, cond, List, [], ◌∷◌, ◌++◌, length, get_or, map, drop, All, Option, Some, None, refl, ap, sym, subst, ◌∙◌, arith}
use Rattle.std.specs.Prelude.{⊤, slice_index, option_map, nat_lt, nat_le}
use Rattle.std.specs.Option.{option_or}
use Rattle.std.specs.List.{AllByRecursion, flat_map, range_with_len}
use Rattle.std.specs.List.Sorted.{IsStrictlyIncreasing}
use Rattle.std.proofs.lemmas.Bool.{cond-false}
use Rattle.std.proofs.lemmas.Bool.Decides.{nat_tests}
use Rattle.std.proofs.lemmas.List.{length-append, length-drop, ext_get_or}
use Rattle.std.proofs.lemmas.List.FromFn.{length-map-range_with_len, get_or-map-range_with_len}
use Rattle.std.proofs.lemmas.List.Elements.{recursion_from_All}
use Rattle.fixed_point.specs.Bytes.{bytes32, bytes64, word32_at, word64_at}
use Rattle.fixed_point.proofs.ReadBack.{word32_back, word64_back, behind}
use Rattle.group_file.specs.declared.errors.GroupErr.{GroupErr}
use Rattle.group_file.specs.declared.errors.GroupErr.TheVariants.{Repeated}
use Rattle.group_file.specs.Catalogues.{GroupData, IsGroup, IsGood, FitsWords}
use Rattle.group_file.specs.GroupFile.{group_bytes, catalogue_text, count_in, number_at, label_at, id_at, ids_at, group_at, start, groups_in, first_of, head_fault, is_wrong_id, id_fault, is_low, group_fault, label_before, fault_of_group, groups_fault, rest_fault, repeated_fault, first_fault, ReadsWritten}
use Rattle.group_file.proofs.Faults.{first_more}
use Rattle.group_file.proofs.Twice.{none_repeated}

-- what stands behind a part
past : (bytes a rest : List ℕ) (p n : ℕ) → drop p bytes ≡ a ++ rest → length a ≡ n → drop (p + n) bytes ≡ rest
past bytes a rest p n e l = behind bytes a rest p (p + n) e (omega (arith, l))

-- the ids, one by one
ids_back : (bytes : List ℕ) (ids rest : List ℕ) (p : ℕ) → drop p bytes ≡ flat_map bytes64 ids ++ rest → All (λ id. id < 2 ^ 64) ids → (k : ℕ) → k < length ids → word64_at bytes (p + 8 * k) ≡ get_or ids k 0
ids_back bytes [] rest p e f k h = absurd (omega (arith, h))
ids_back bytes (id ∷ ids) rest p e f zero h = word64_back bytes (flat_map bytes64 ids ++ rest) (p + 8 * 0) id (ap (λ n. drop n bytes) (omega arith) ∙ e) (f 0 0 (omega arith))
ids_back bytes (id ∷ ids) rest p e f (suc k) h =
    let next : drop (p + 8) bytes ≡ flat_map bytes64 ids ++ rest = past bytes (bytes64 id) (flat_map bytes64 ids ++ rest) p 8 e refl in
    let same : p + 8 * suc k ≡ p + 8 + 8 * k = omega arith in
    ap (word64_at bytes) same ∙ ids_back bytes ids rest (p + 8) next (λ k d h. f (suc k) d (omega (arith, h))) k (omega (arith, h))

-- the parts of a group that begins at p
record StandsAt (bytes : List ℕ) (p : ℕ) (g : GroupData) (rest : List ℕ) : Type 0 where
  label : word64_at bytes p ≡ g.label
  mass : word64_at bytes (p + 8) ≡ g.mass
  count : word64_at bytes (p + 16) ≡ length g.ids
  ids : (k : ℕ) → k < length g.ids → word64_at bytes (p + 24 + 8 * k) ≡ get_or g.ids k 0
  room : p + 24 + 8 * length g.ids ≤ length bytes
  after : drop (p + 24 + 8 * length g.ids) bytes ≡ rest

length_ids : (ids : List ℕ) → length (flat_map bytes64 ids) ≡ 8 * length ids
length_ids [] = refl
length_ids (id ∷ ids) = omega (arith, length_ids ids)

length_bytes : (g : GroupData) → length (group_bytes g) ≡ 24 + 8 * length g.ids
length_bytes g = omega (arith, length_ids g.ids)

stands : (bytes : List ℕ) (p : ℕ) (g : GroupData) (rest : List ℕ) → drop p bytes ≡ group_bytes g ++ rest → IsGroup g → FitsWords g → StandsAt bytes p g rest
stands bytes p g rest e h f =
    let l : g.label < 2 ^ 64 = subst (λ n. n < 2 ^ 64) h.first (f.ids 0 0 (omega (arith, h.some))) in
    let ids : List ℕ = flat_map bytes64 g.ids in
    let a : drop p bytes ≡ bytes64 g.label ++ (bytes64 g.mass ++ (bytes64 (length g.ids) ++ (ids ++ rest))) = e in
    let b : drop (p + 8) bytes ≡ bytes64 g.mass ++ (bytes64 (length g.ids) ++ (ids ++ rest)) = past bytes (bytes64 g.label) _ p 8 a refl in
    let m : drop (p + 8 + 8) bytes ≡ bytes64 (length g.ids) ++ (ids ++ rest) = past bytes (bytes64 g.mass) _ (p + 8) 8 b refl in
    let n : drop (p + 8 + 8 + 8) bytes ≡ ids ++ rest = past bytes (bytes64 (length g.ids)) _ (p + 8 + 8) 8 m refl in
    let second : p + 16 ≡ p + 8 + 8 = omega arith in
    let third : p + 24 ≡ p + 8 + 8 + 8 = omega arith in
    let n' : drop (p + 24) bytes ≡ ids ++ rest = ap (λ k. drop k bytes) third ∙ n in
    record {
      label = word64_back bytes _ p g.label a l;
      mass = word64_back bytes _ (p + 8) g.mass b f.mass;
      count = ap (word64_at bytes) second ∙ word64_back bytes _ (p + 8 + 8) (length g.ids) m (omega (arith, h.few));
      ids = ids_back bytes g.ids rest (p + 24) n' f.ids;
      room = omega (arith, length-drop p bytes, ap length e, length-append (group_bytes g) rest, length_bytes g);
      after = past bytes ids rest (p + 24) (8 * length g.ids) n' (length_ids g.ids);
    }

-- the group is read back
group_back : (bytes : List ℕ) (p : ℕ) (g : GroupData) (rest : List ℕ) → StandsAt bytes p g rest → group_at bytes p ≡ g
unfolding group_at
group_back bytes p g rest s =
    let count : length (ids_at bytes p (length g.ids)) ≡ length g.ids = length-map-range_with_len (id_at bytes p) 0 (length g.ids) in
    let each : ids_at bytes p (length g.ids) ≡ g.ids = ext_get_or 0 _ _ count (λ i h. (let n : i < length g.ids = omega (arith, h, count) in get_or-map-range_with_len (id_at bytes p) 0 (length g.ids) i i 0 n (omega arith) ∙ s.ids i n)) in
    let ids : ids_at bytes p (number_at bytes p) ≡ g.ids = ap (ids_at bytes p) s.count ∙ each in
    λ i. record { label = s.label i; mass = s.mass i; ids = ids i }

-- ---- no fault

not_lt : (a b : ℕ) → b ≤ a → nat_lt a b ≡ false
not_lt a b h = grind (arith, nat_tests)

not_le : (a b : ℕ) → b < a → nat_le a b ≡ false
not_le a b h = grind (arith, nat_tests)

not_zero : (a : ℕ) → 1 ≤ a → (a == 0) ≡ false
not_zero a h = grind (arith, nat_tests)

not_wrong : (bytes : List ℕ) (p k : ℕ) (g : GroupData) (rest : List ℕ) → StandsAt bytes p g rest → IsGroup g → k < length g.ids → is_wrong_id bytes p k ≡ false
not_wrong bytes p zero g rest s h l =
    let first : id_at bytes p 0 ≡ label_at bytes p = s.ids 0 l ∙ h.first ∙ sym s.label in
    let test : (id_at bytes p 0 == label_at bytes p) ≡ true = grind (arith, nat_tests) in
    ap not test
not_wrong bytes p (suc k) g rest s h l =
    let now : id_at bytes p (suc k) ≡ get_or g.ids (suc k) 0 = s.ids (suc k) l in
    let place : suc k - 1 ≡ k = omega arith in
    let before : id_at bytes p (suc k - 1) ≡ get_or g.ids k 0 = ap (id_at bytes p) place ∙ s.ids k (omega (arith, l)) in
    let up : k + 1 ≡ suc k = omega arith in
    let rising : get_or g.ids k 0 < get_or g.ids (suc k) 0 = subst (λ n. get_or g.ids k 0 < get_or g.ids n 0) up (h.ascending k (omega (arith, l))) in
    cond-false (suc k == 0) _ _ (not_zero (suc k) (omega arith)) ∙ not_le (id_at bytes p (suc k)) (id_at bytes p (suc k - 1)) (omega (arith, now, before, rising))

first_none : (f : ℕ → Option GroupErr) (n : ℕ) → ((k : ℕ) → k < n → f k ≡ None) → first_of f n ≡ None
first_none f zero h = refl
first_none f (suc n) h = ap (λ o. option_or o (f n)) (first_none f n (λ k l. h k (omega (arith, l)))) ∙ h n (omega arith)

no_fault : (bytes : List ℕ) (before : Option ℕ) (p : ℕ) (g : GroupData) (rest : List ℕ) → StandsAt bytes p g rest → IsGroup g → is_low before g.label ≡ false → group_fault bytes before p ≡ None
unfolding group_fault
no_fault bytes before p g rest s h low =
    let n : ℕ = number_at bytes p in
    cond-false _ _ _ (not_lt (length bytes - p) 24 (omega (arith, s.room)))
    ∙ cond-false _ _ _ (ap (is_low before) s.label ∙ low)
    ∙ cond-false _ _ _ (not_zero n (omega (arith, s.count, h.some)))
    ∙ cond-false _ _ _ (not_lt 1048576 n (omega (arith, s.count, h.few)))
    ∙ cond-false _ _ _ (not_lt (length bytes - (p + 24)) (8 * n) (omega (arith, s.room, s.count)))
    ∙ first_none (id_fault bytes p) n (λ k l. cond-false (is_wrong_id bytes p k) _ _ (not_wrong bytes p k g rest s h (omega (arith, l, s.count))))

-- ---- one group behind the other

-- each label is above the one before
abbrev AreAbove : Option ℕ → List GroupData → Type 0
AreAbove before [] = ⊤
AreAbove before (g ∷ C) = (is_low before g.label ≡ false) × AreAbove (Some g.label) C

-- the groups from an index on
record AreBack (bytes : List ℕ) (k : ℕ) (C : List GroupData) : Type 0 where
  groups : map (λ j. group_at bytes (start bytes j)) (range_with_len k (length C)) ≡ C
  none : first_of (fault_of_group bytes) k ≡ None → first_of (fault_of_group bytes) (k + length C) ≡ None
  end : length bytes ≤ start bytes (k + length C)

are_back : (bytes : List ℕ) (C : List GroupData) (k : ℕ) → drop (start bytes k) bytes ≡ flat_map group_bytes C → AllByRecursion IsGroup C → AllByRecursion FitsWords C → AreAbove (label_before bytes k) C → AreBack bytes k C
are_back bytes [] k e h f up =
    let same : k + 0 ≡ k = omega arith in
    record {
      groups = refl;
      none = λ n. ap (first_of (fault_of_group bytes)) same ∙ n;
      end = subst (λ j. length bytes ≤ start bytes j) (sym same) (omega (arith, length-drop (start bytes k) bytes, ap length e));
    }
are_back bytes (g ∷ C) k e h f up =
    let p : ℕ = start bytes k in
    let s : StandsAt bytes p g (flat_map group_bytes C) = stands bytes p g (flat_map group_bytes C) e h.0 f.0 in
    let none : group_fault bytes (label_before bytes k) p ≡ None = no_fault bytes (label_before bytes k) p g (flat_map group_bytes C) s h.0 up.0 in
    let more : k + 1 ≡ suc k = omega arith in
    let next : p + 24 + 8 * length g.ids ≡ start bytes (suc k) = omega (arith, s.count) in
    let after : drop (start bytes (k + 1)) bytes ≡ flat_map group_bytes C = ap (λ j. drop (start bytes j) bytes) more ∙ ap (λ q. drop q bytes) (sym next) ∙ s.after in
    let above : AreAbove (label_before bytes (k + 1)) C = subst (λ o. AreAbove o C) (sym (ap (label_before bytes) more ∙ ap (λ n. Some n) s.label)) up.1 in
    let rest : AreBack bytes (k + 1) C = are_back bytes C (k + 1) after h.1 f.1 above in
    let far : k + suc (length C) ≡ k + 1 + length C = omega arith in
    record {
      groups = ap (λ g. g ∷ map (λ j. group_at bytes (start bytes j)) (range_with_len (k + 1) (length C))) (group_back bytes p g (flat_map group_bytes C) s) ∙ ap (λ xs. g ∷ xs) rest.groups;
      none = λ n. ap (first_of (fault_of_group bytes)) far ∙ rest.none (first_more (fault_of_group bytes) k n none);
      end = subst (λ j. length bytes ≤ start bytes j) (sym far) rest.end;
    }

-- ---- the whole

above_next : (g : GroupData) (C : List GroupData) → IsStrictlyIncreasing (map (λ g. g.label) (g ∷ C)) → AreAbove (Some g.label) C
above_next g [] up = tt
above_next g (h ∷ C) up = (not_le h.label g.label (up 0 (omega arith)), above_next h C (λ k l. (let e : suc k + 1 ≡ suc (k + 1) = omega arith in subst (λ n. slice_index (map (λ g. g.label) (g ∷ h ∷ C)) (suc k) < slice_index (map (λ g. g.label) (g ∷ h ∷ C)) n) e (up (suc k) (omega (arith, l))))))

all_above : (C : List GroupData) → IsStrictlyIncreasing (map (λ g. g.label) C) → AreAbove None C
all_above [] up = tt
all_above (g ∷ C) up = (refl, above_next g C up)

or_none : (a b : Option GroupErr) → a ≡ None → b ≡ None → option_or a b ≡ None
or_none a b e f = ap (λ o. option_or o b) e ∙ f

pub reads_written : ReadsWritten
unfolding catalogue_text
reads_written C small g f =
    let bytes : List ℕ = catalogue_text C in
    let count : count_in bytes ≡ length C = word32_back bytes (bytes32 0 ++ flat_map group_bytes C) 8 (length C) refl small in
    let back : AreBack bytes 0 C = are_back bytes C 0 refl (recursion_from_All IsGroup C g.each) (recursion_from_All FitsWords C f) (all_above C g.ascending) in
    let groups : groups_in bytes ≡ C = ap (λ n. map (λ j. group_at bytes (start bytes j)) (range_with_len 0 n)) count ∙ back.groups in
    let zero_less : 0 + length C ≡ count_in bytes = omega (arith, count) in
    let head : head_fault bytes ≡ None = cond-false _ _ _ (not_lt (length bytes) 16 (omega arith)) in
    let sound : groups_fault bytes ≡ None = ap (first_of (fault_of_group bytes)) (sym zero_less) ∙ back.none refl in
    let ends : length bytes ≤ start bytes (count_in bytes) = subst (λ n. length bytes ≤ start bytes n) zero_less back.end in
    let whole : rest_fault bytes ≡ None = cond-false _ _ _ (not_lt (start bytes (count_in bytes)) (length bytes) ends) in
    let once : repeated_fault (groups_in bytes) ≡ None = ap repeated_fault groups ∙ ap (λ o. option_map (λ id. Repeated id) o) (none_repeated C g.apart) in
    record {
      faultless = or_none (head_fault bytes) _ head (or_none (option_or (groups_fault bytes) (rest_fault bytes)) _ (or_none (groups_fault bytes) _ sound whole) once);
      is = sym groups;
    }
