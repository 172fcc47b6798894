-- The text of fast parts spells them, and what is spelled are fast parts.
use Rattle.std.proofs.Common.{◌≡◌, ◌<◌, ◌≤◌, ℕ, zero, suc, ◌+◌, ◌-◌, ◌*◌, ◌^◌, Bool, true, false, cond, not, ◌&&◌, ◌||◌, ◌==◌, nat_le, nat_lt, List, [], ◌∷◌, ◌++◌, length, map, take, drop, get_or, Option, Some, None, refl, ap, sym, ◌∙◌, subst, arith, append_assoc, drop-drop}
use Rattle.std.specs.List.{AllByRecursion, flat_map, list_all, range_with_len}
use Rattle.std.specs.List.Sorted.{IsStrictlyIncreasing}
use Rattle.std.specs.Str.{bytes_eq}
use Rattle.std.proofs.lemmas.Bool.{false≢true, le-leb, lt-ltb, ltb-true, eqb-true, eq-eqb}
use Rattle.std.proofs.lemmas.Grind.{flat_map-append}
use Rattle.std.proofs.lemmas.List.{length-append, length-drop}
use Rattle.std.proofs.lemmas.Slice.Eq.{bytes_eq-Decides}
use Rattle.fixed_point.specs.Bytes.{bytes32, bytes64, word64_at}
use Rattle.fixed_point.proofs.ReadBack.{word32_back, word64_back}
use Rattle.nbody_model.specs.Bodies.{has}
use Rattle.nbody_model.specs.Setups.{SetupData, IsSetup}
use Rattle.nbody_model.specs.Texts.{bins_record, bins_text}
use Rattle.nbody_model.specs.Evolve.{is_empty}
use Rattle.nbody_model.specs.Session.{session}
use Rattle.model_laws.specs.Preserved.{IsPart}
use Rattle.model_laws.specs.Nests.{ids_of}
use Rattle.rewind_laws.specs.Back.{StepParts, Alone, With, listed, AreParts, base_steps}
use Rattle.rewind_laws.specs.Bins.{bins_tag, bins_mark, size_at, ids_at, end_of, ascends, is_record, Read, UpTo, Bad, read_on, step_at, steps_at, BinsErr, Tag, Record, EndMark, all_steps_at, Spell}
use Rattle.rewind_laws.specs.Filed.{HaveRoom, BinFilesAreRead, SpelledAreParts, BinFilesLeadBack}
use Rattle.rewind_laws.proofs.Runs.{runs_are_taken_back}

-- ---- what stands at a place

drop_front : (part rest : List ℕ) → drop (length part) (part ++ rest) ≡ rest
drop_front [] rest = refl
drop_front (x ∷ part) rest = drop_front part rest

past : (bytes part rest : List ℕ) (at : ℕ) → drop at bytes ≡ part ++ rest → drop (at + length part) bytes ≡ rest
past bytes part rest at e = sym (drop-drop (length part) at bytes) ∙ ap (drop (length part)) e ∙ drop_front part rest

ids_back : (bytes rest : List ℕ) (p k : ℕ) (F : List ℕ) → AllByRecursion (λ id. id < 2 ^ 64) F → drop (p + 8 * k) bytes ≡ flat_map bytes64 F ++ rest → map (λ i. word64_at bytes (p + 8 * i)) (range_with_len k (length F)) ≡ F
ids_back bytes rest p k [] a e = refl
ids_back bytes rest p k (x ∷ F) a e =
    let f : drop (p + 8 * k) bytes ≡ bytes64 x ++ (flat_map bytes64 F ++ rest) = e ∙ append_assoc (bytes64 x) (flat_map bytes64 F) rest in
    let at : p + 8 * k + length (bytes64 x) ≡ p + 8 * (k + 1) = omega arith in
    let g : drop (p + 8 * (k + 1)) bytes ≡ flat_map bytes64 F ++ rest = ap (λ n. drop n bytes) (sym at) ∙ past bytes (bytes64 x) (flat_map bytes64 F ++ rest) (p + 8 * k) f in
    λ i. word64_back bytes (flat_map bytes64 F ++ rest) (p + 8 * k) x f a.0 i ∷ ids_back bytes rest p (k + 1) F a.1 g i

long64 : (F : List ℕ) → length (flat_map bytes64 F) ≡ 8 * length F
long64 [] = refl
long64 (x ∷ F) = length-append (bytes64 x) (flat_map bytes64 F) ∙ omega (arith, long64 F)

-- the record of F stands at a place, and what follows it
record IsThere (bytes rest : List ℕ) (at : ℕ) (F : List ℕ) : Type 0 where
  ids : ids_at bytes at ≡ F
  end : end_of bytes at ≡ at + 4 + 8 * length F
  long : at + 4 + 8 * length F ≤ length bytes
  after : drop (end_of bytes at) bytes ≡ rest

there : (bytes rest : List ℕ) (at : ℕ) (F : List ℕ) → length F < 2 ^ 32 → AllByRecursion (λ id. id < 2 ^ 64) F → drop at bytes ≡ bins_record F ++ rest → IsThere bytes rest at F
unfolding ids_at
there bytes rest at F few a e =
    let f : drop at bytes ≡ bytes32 (length F) ++ (flat_map bytes64 F ++ rest) = e ∙ append_assoc (bytes32 (length F)) (flat_map bytes64 F) rest in
    let size : size_at bytes at ≡ length F = word32_back bytes (flat_map bytes64 F ++ rest) at (length F) f few in
    let g : drop (at + 4) bytes ≡ flat_map bytes64 F ++ rest = past bytes (bytes32 (length F)) (flat_map bytes64 F ++ rest) at f in
    let h : drop (at + 4 + 8 * 0) bytes ≡ flat_map bytes64 F ++ rest = ap (λ n. drop n bytes) (omega arith) ∙ g in
    let end : end_of bytes at ≡ at + 4 + 8 * length F = ap (λ n. at + 4 + 8 * n) size in
    let len : length bytes - at ≡ 4 + (8 * length F + length rest) = sym (length-drop at bytes) ∙ ap length f ∙ length-append (bytes32 (length F)) (flat_map bytes64 F ++ rest) ∙ ap (λ n. 4 + n) (length-append (flat_map bytes64 F) rest ∙ ap (λ n. n + length rest) (long64 F)) in
    record {
      ids = ap (λ n. map (λ i. word64_at bytes (at + 4 + 8 * i)) (range_with_len 0 n)) size ∙ ids_back bytes rest (at + 4) 0 F a h;
      end = end;
      long = omega (arith, len);
      after = ap (λ n. drop n bytes) (end ∙ ap (λ n. at + 4 + n) (sym (long64 F))) ∙ past bytes (flat_map bytes64 F) rest (at + 4) g;
    }

-- ---- tests of a record

pub tail_rises : (x : ℕ) (xs : List ℕ) → IsStrictlyIncreasing (x ∷ xs) → IsStrictlyIncreasing xs
tail_rises x [] inc k l = absurd (omega (arith, l))
tail_rises x (y ∷ ys) inc k l =
    let e : suc k + 1 ≡ suc (k + 1) = omega arith in
    subst (λ n. get_or (y ∷ ys) k 0 < get_or (x ∷ y ∷ ys) n 0) e (inc (suc k) (omega (arith, l)))

ascends_true : (xs : List ℕ) → IsStrictlyIncreasing xs → ascends xs ≡ true
ascends_true [] inc = refl
ascends_true (x ∷ []) inc = refl
ascends_true (x ∷ y ∷ ys) inc =
    let below : x < y = inc 0 (omega arith) in
    (λ i. lt-ltb x y below i && ascends (y ∷ ys)) ∙ ascends_true (y ∷ ys) (tail_rises x (y ∷ ys) inc)

pub and_both : (a b : Bool) → (a && b) ≡ true → (a ≡ true) × (b ≡ true)
and_both true true e = (refl, refl)
and_both true false e = absurd (false≢true e)
and_both false b e = absurd (false≢true e)

true_ascends : (xs : List ℕ) → ascends xs ≡ true → IsStrictlyIncreasing xs
true_ascends [] e k l = absurd (omega (arith, l))
true_ascends (x ∷ []) e k l = absurd (omega (arith, l))
true_ascends (x ∷ y ∷ ys) e zero l = ltb-true x y (and_both (nat_lt x y) (ascends (y ∷ ys)) e).0
true_ascends (x ∷ y ∷ ys) e (suc k) l =
    let f : suc (k + 1) ≡ suc k + 1 = omega arith in
    subst (λ n. get_or (y ∷ ys) k 0 < get_or (x ∷ y ∷ ys) n 0) f (true_ascends (y ∷ ys) (and_both (nat_lt x y) (ascends (y ∷ ys)) e).1 k (omega (arith, l)))

pub own_has : (x : ℕ) (xs : List ℕ) → has (x ∷ xs) x ≡ true
own_has x xs = ap (λ b. b || has xs x) (eq-eqb x x refl)

or_true : (a b : Bool) → b ≡ true → (a || b) ≡ true
or_true true b e = refl
or_true false b e = e

part_true : (P F : List ℕ) → IsPart F P → list_all (has P) F ≡ true
part_true P [] h = refl
part_true P (x ∷ F) h = (λ i. h x (own_has x F) i && list_all (has P) F) ∙ part_true P F (λ id e. h id (or_true (x == id) (has F id) e))

true_part : (P F : List ℕ) → list_all (has P) F ≡ true → IsPart F P
true_part P [] e id h = absurd (false≢true h)
true_part P (x ∷ F) e id h = by (x == id) refl h (true_part P F (and_both (has P x) (list_all (has P) F) e).1 id)
  where
    by : (b : Bool) → (x == id) ≡ b → (b || has F id) ≡ true → (has F id ≡ true → has P id ≡ true) → has P id ≡ true
    by true f g k = subst (λ n. has P n ≡ true) (eqb-true x id f) (and_both (has P x) (list_all (has P) F) e).0
    by false f g k = k g

all_true : (a b c d e : Bool) → a ≡ true → b ≡ true → c ≡ true → d ≡ true → e ≡ true → ((a && b) && ((c && d) && e)) ≡ true
all_true true true true true true f g h j k = refl
all_true false b c d e f g h j k = absurd (false≢true f)
all_true true false c d e f g h j k = absurd (false≢true g)
all_true true true false d e f g h j k = absurd (false≢true h)
all_true true true true false e f g h j k = absurd (false≢true j)
all_true true true true true false f g h j k = absurd (false≢true k)

record_true : (low bin : ℕ) (P bytes : List ℕ) (at : ℕ) (F rest : List ℕ) → IsThere bytes rest at F → IsStrictlyIncreasing F → IsPart F P → (is_empty F || nat_lt low bin) ≡ true → is_record low bin P bytes at ≡ true
unfolding is_record
record_true low bin P bytes at F rest t inc part end =
    (λ i. (nat_le (at + 4) (length bytes) && nat_le (end_of bytes at) (length bytes)) && ((ascends (t.ids i) && list_all (has P) (t.ids i)) && (is_empty (t.ids i) || nat_lt low bin))) ∙
    all_true (nat_le (at + 4) (length bytes)) (nat_le (end_of bytes at) (length bytes)) (ascends F) (list_all (has P) F) (is_empty F || nat_lt low bin)
    (le-leb (at + 4) (length bytes) (omega (arith, t.long))) (le-leb (end_of bytes at) (length bytes) (omega (arith, t.long, t.end))) (ascends_true F inc) (part_true P F part) end

-- ---- a part has room where the whole has

-- nothing of an ascending list is below or at its first number, but that itself
pub later : (x : ℕ) (xs : List ℕ) → IsStrictlyIncreasing (x ∷ xs) → (id : ℕ) → has xs id ≡ true → x < id
later x [] inc id h = absurd (false≢true h)
later x (y ∷ ys) inc id h = by (y == id) refl h (later y ys (tail_rises x (y ∷ ys) inc) id)
  where
    below : x < y
    below = inc 0 (omega arith)

    by : (b : Bool) → (y == id) ≡ b → (b || has ys id) ≡ true → (has ys id ≡ true → y < id) → x < id
    by true e f g = subst (λ n. x < n) (eqb-true y id e) below
    by false e f g = omega (arith, below, g f)

below_all : (F : List ℕ) (P : List ℕ) → IsPart F P → AllByRecursion (λ id. id < 2 ^ 64) P → AllByRecursion (λ id. id < 2 ^ 64) F
below_all [] P h a = tt
below_all (x ∷ F) P h a = (one P a (h x (own_has x F)), below_all F P (λ id e. h id (or_true (x == id) (has F id) e)) a)
  where
    one : (Q : List ℕ) → AllByRecursion (λ id. id < 2 ^ 64) Q → has Q x ≡ true → x < 2 ^ 64
    one [] b e = absurd (false≢true e)
    one (q ∷ Q) b e = by (q == x) refl e (one Q b.1)
      where
        by : (c : Bool) → (q == x) ≡ c → (c || has Q x) ≡ true → (has Q x ≡ true → x < 2 ^ 64) → x < 2 ^ 64
        by true f g k = subst (λ n. n < 2 ^ 64) (eqb-true q x f) b.0
        by false f g k = k g

-- an ascending part of an ascending list isn't longer
no_longer : (F P : List ℕ) → IsStrictlyIncreasing F → IsStrictlyIncreasing P → IsPart F P → length F ≤ length P
no_longer [] P inf inp h = omega arith
no_longer (x ∷ F) [] inf inp h = absurd (false≢true (h x (own_has x F)))
no_longer (x ∷ F) (p ∷ P) inf inp h = by (p == x) refl (no_longer F P (tail_rises x F inf) (tail_rises p P inp)) (no_longer (x ∷ F) P inf (tail_rises p P inp))
  where
    -- what is above p and in the whole list, is behind it
    behind : (id : ℕ) → p < id → has (p ∷ P) id ≡ true → has P id ≡ true
    behind id l e = only_later (p == id) refl e
      where
        only_later : (b : Bool) → (p == id) ≡ b → (b || has P id) ≡ true → has P id ≡ true
        only_later true f g = absurd (omega (arith, l, eqb-true p id f))
        only_later false f g = g

    first : has (p ∷ P) x ≡ true
    first = h x (own_has x F)

    by : (b : Bool) → (p == x) ≡ b → (IsPart F P → length F ≤ length P) → (IsPart (x ∷ F) P → suc (length F) ≤ length P) → suc (length F) ≤ suc (length P)
    by true e f g =
        let same : p ≡ x = eqb-true p x e in
        let k = f (λ id i. behind id (subst (λ n. n < id) (sym same) (later x F inf id i)) (h id (or_true (x == id) (has F id) i))) in
        omega (arith, k)
    by false e f g =
        let up : has P x ≡ true = (λ i. sym e i || has P x) ∙ first in
        let above : p < x = later p P inp x up in
        let k = g (λ id i. behind id (higher (x == id) id refl i above) (h id i)) in
        omega (arith, k)
      where
        higher : (b : Bool) (id : ℕ) → (x == id) ≡ b → (b || has F id) ≡ true → p < x → p < id
        higher true id u v above = subst (λ n. p < n) (eqb-true x id u) above
        higher false id u v above = let w = later x F inf id v in omega (arith, above, w)

part_room : (F P : List ℕ) → HaveRoom P → IsStrictlyIncreasing F → IsPart F P → HaveRoom F
part_room F P r inc part = record { ascending = inc; each = below_all F P part r.each; few = let l = no_longer F P inc r.ascending part in omega (arith, l, r.few) }

-- ---- the records of a step

record StepIsThere (low bin : ℕ) (P bytes rest : List ℕ) (at : ℕ) (parts : StepParts) : Type 0 where
  end : ℕ
  is : step_at low bin P bytes at ≡ UpTo parts end
  after : drop end bytes ≡ rest

-- what a step's record leads to, by two tests
abbrev pub by_tests : {X : Type 0} → Bool → Bool → X → X → X → X
by_tests good empty bad alone finer = cond (not good) bad (cond empty alone finer)

step_there : (low bin : ℕ) (P bytes rest : List ℕ) (at : ℕ) (parts : StepParts) → 1 ≤ low → low ≤ bin → HaveRoom P → AreParts low bin P parts → drop at bytes ≡ flat_map bins_record (listed parts) ++ rest → StepIsThere low bin P bytes rest at parts
unfolding step_at
step_there low zero P bytes rest at parts some under room good e = absurd (omega (arith, some, under))
step_there low (suc c) P bytes rest at Alone some under room good e =
    let t = there bytes rest at [] (omega arith) tt (e ∙ append_assoc (bins_record []) [] rest) in
    let F = ids_at bytes at in
    let r : is_record low (c + 1) P bytes at ≡ true = record_true low (c + 1) P bytes at [] rest t (λ k l. absurd (omega (arith, l))) (λ id h. absurd (false≢true h)) refl in
    let next = end_of bytes at in
    let finer : Read StepParts = read_on (step_at low c F bytes next) (λ one n. read_on (step_at low c F bytes n) (λ two m. UpTo (With F one two) m)) in
    record {
      end = next;
      is = (λ i. by_tests (r i) (is_empty F) (Bad at) (UpTo Alone next) finer) ∙ (λ i. cond (is_empty (t.ids i)) (UpTo Alone next) finer);
      after = t.after;
    }
step_there low (suc c) P bytes rest at (With G one two) some under room good e =
    let k = good.0 in
    let roomG : HaveRoom G = part_room G P room k.ascending k.part in
    let one_text = flat_map bins_record (listed one) in
    let two_text = flat_map bins_record (listed two) in
    let text : flat_map bins_record (listed (With G one two)) ++ rest ≡ bins_record G ++ (one_text ++ (two_text ++ rest)) =
    ap (λ zs. (bins_record G ++ zs) ++ rest) (flat_map-append bins_record (listed one) (listed two)) ∙ append_assoc (bins_record G) (one_text ++ two_text) rest ∙ ap (λ zs. bins_record G ++ zs) (append_assoc one_text two_text rest) in
    let t = there bytes (one_text ++ (two_text ++ rest)) at G roomG.few roomG.each (e ∙ text) in
    let F = ids_at bytes at in
    let above : low < c + 1 = omega (arith, k.above) in
    let low_here : low ≤ c = omega (arith, k.above) in
    let r : is_record low (c + 1) P bytes at ≡ true = record_true low (c + 1) P bytes at G (one_text ++ (two_text ++ rest)) t k.ascending k.part (or_true (is_empty G) (nat_lt low (c + 1)) (lt-ltb low (c + 1) above)) in
    let next = end_of bytes at in
    let minus : suc c - 1 ≡ c = omega arith in
    let a = step_there low c G bytes (two_text ++ rest) next one some low_here roomG (subst (λ n. AreParts low n G one) minus good.1) t.after in
    let b = step_there low c G bytes rest a.end two some low_here roomG (subst (λ n. AreParts low n G two) minus good.2) a.after in
    let finer : List ℕ → Read StepParts = λ H. read_on (step_at low c H bytes next) (λ x n. read_on (step_at low c H bytes n) (λ y m. UpTo (With H x y) m)) in
    record {
      end = b.end;
      is =
          (λ i. by_tests (r i) (is_empty F) (Bad at) (UpTo Alone next) (finer F)) ∙
          (λ i. cond (is_empty (t.ids i)) (UpTo Alone next) (finer (t.ids i))) ∙
          (λ i. cond (k.some i) (UpTo Alone next) (finer G)) ∙
          (λ i. read_on (a.is i) (λ x n. read_on (step_at low c G bytes n) (λ y m. UpTo (With G x y) m))) ∙
          (λ i. read_on (b.is i) (λ y m. UpTo (With G one y) m));
      after = b.after;
    }

record StepsAreThere (s : SetupData) (n : ℕ) (P bytes rest : List ℕ) (at : ℕ) (steps : List StepParts) : Type 0 where
  end : ℕ
  is : steps_at s n P bytes at ≡ UpTo steps end
  after : drop end bytes ≡ rest

steps_there : (s : SetupData) (P bytes rest : List ℕ) (at : ℕ) (steps : List StepParts) → IsSetup s → HaveRoom P → AllByRecursion (AreParts s.low_bin s.top_bin P) steps → drop at bytes ≡ flat_map bins_record (flat_map listed steps) ++ rest →
    StepsAreThere s (length steps) P bytes rest at steps
unfolding steps_at
steps_there s P bytes rest at [] ok room good e = record { end = at; is = refl; after = e }
steps_there s P bytes rest at (parts ∷ steps) ok room good e =
    let text : flat_map bins_record (flat_map listed (parts ∷ steps)) ++ rest ≡ flat_map bins_record (listed parts) ++ (flat_map bins_record (flat_map listed steps) ++ rest) =
    ap (λ zs. zs ++ rest) (flat_map-append bins_record (listed parts) (flat_map listed steps)) ∙ append_assoc (flat_map bins_record (listed parts)) (flat_map bins_record (flat_map listed steps)) rest in
    let a = step_there s.low_bin s.top_bin P bytes (flat_map bins_record (flat_map listed steps) ++ rest) at parts ok.bin_low ok.bins_ordered room good.0 (e ∙ text) in
    let b = steps_there s P bytes rest a.end steps ok room good.1 a.after in
    record {
      end = b.end;
      is = (λ i. read_on (a.is i) (λ x m. read_on (steps_at s (length steps) P bytes m) (λ xs k. UpTo (x ∷ xs) k))) ∙ (λ i. read_on (b.is i) (λ xs k. UpTo (parts ∷ xs) k));
      after = b.after;
    }

same_bytes : (a b : List ℕ) → a ≡ b → bytes_eq a b ≡ true
same_bytes a b e = (bytes_eq-Decides a b).1 e

-- what the end of the records says
abbrev pub end_fault : List ℕ → Read (List StepParts) → Option BinsErr
end_fault bytes x = elim x [ UpTo steps at ↦ cond (bytes_eq bins_mark (drop at bytes)) None (Some EndMark) | Bad at ↦ Some (Record at) ]

pub bin_files_are_read : BinFilesAreRead
bin_files_are_read s B steps ok room good =
    let body = flat_map bins_record (flat_map listed steps) in
    let bytes = bins_text (flat_map listed steps) in
    let whole : bytes ≡ bins_tag ++ (body ++ bins_mark) = append_assoc bins_tag body bins_mark in
    let start : drop 8 bytes ≡ body ++ bins_mark = ap (drop 8) whole in
    let a = steps_there s (ids_of B) bytes bins_mark 8 steps ok room good.each start in
    let all : all_steps_at s B bytes ≡ UpTo steps a.end = ap (λ n. steps_at s n (ids_of B) bytes 8) (sym good.all) ∙ a.is in
    let tag : bytes_eq bins_tag (take 8 bytes) ≡ true = same_bytes bins_tag (take 8 bytes) (sym (ap (take 8) whole)) in
    let mark : bytes_eq bins_mark (drop a.end bytes) ≡ true = same_bytes bins_mark (drop a.end bytes) (sym a.after) in
    record {
      end = a.end;
      faultless = (λ i. cond (not (tag i)) (Some Tag) (end_fault bytes (all_steps_at s B bytes))) ∙ ap (end_fault bytes) all ∙ (λ i. cond (mark i) None (Some EndMark));
      are = all;
    }

-- ---- what is spelled are parts

pub record ReadOn {X Y : Type 0} (x : Read X) (f : X → ℕ → Read Y) (y : Y) (end : ℕ) : Type 0 where
  pub first : X
  pub at : ℕ
  pub was : x ≡ UpTo first at
  pub then : f first at ≡ UpTo y end

pub read_through : {X Y : Type 0} (x : Read X) (f : X → ℕ → Read Y) (y : Y) (end : ℕ) → read_on x f ≡ UpTo y end → ReadOn x f y end
read_through (UpTo a n) f y end e = record { first = a; at = n; was = refl; then = e }
read_through (Bad n) f y end e = absurd cc

parts_in : Read StepParts → StepParts
parts_in (UpTo parts at) = parts
parts_in (Bad at) = Alone

pub same_parts : (a b : StepParts) (m n : ℕ) → UpTo a m ≡ UpTo b n → a ≡ b
unfolding parts_in
same_parts a b m n e = ap parts_in e

steps_in : Read (List StepParts) → List StepParts
steps_in (UpTo steps at) = steps
steps_in (Bad at) = []

pub same_steps : (a b : List StepParts) (m n : ℕ) → UpTo a m ≡ UpTo b n → a ≡ b
unfolding steps_in
same_steps a b m n e = ap steps_in e

record IsGood (low bin : ℕ) (P F : List ℕ) : Type 0 where
  ascending : IsStrictlyIncreasing F
  part : IsPart F P
  end : (is_empty F || nat_lt low bin) ≡ true

good_record : (low bin : ℕ) (P bytes : List ℕ) (at : ℕ) → is_record low bin P bytes at ≡ true → IsGood low bin P (ids_at bytes at)
unfolding is_record
good_record low bin P bytes at e =
    let F = ids_at bytes at in
    let a = and_both (nat_le (at + 4) (length bytes) && nat_le (end_of bytes at) (length bytes)) ((ascends F && list_all (has P) F) && (is_empty F || nat_lt low bin)) e in
    let b = and_both (ascends F && list_all (has P) F) (is_empty F || nat_lt low bin) a.1 in
    let c = and_both (ascends F) (list_all (has P) F) b.0 in
    record { ascending = true_ascends F c.0; part = true_part P F c.1; end = b.1 }

above_low : (low bin : ℕ) (F : List ℕ) → is_empty F ≡ false → (is_empty F || nat_lt low bin) ≡ true → low < bin
above_low low bin F e f = ltb-true low bin (ap (λ b. b || nat_lt low bin) (sym e) ∙ f)

step_good : (low bin : ℕ) (P bytes : List ℕ) (at : ℕ) (parts : StepParts) (end : ℕ) → step_at low bin P bytes at ≡ UpTo parts end → AreParts low bin P parts
unfolding step_at
step_good low zero P bytes at parts end e = absurd cc
step_good low (suc c) P bytes at parts end e =
    let F = ids_at bytes at in
    let next = end_of bytes at in
    by (is_record low (c + 1) P bytes at) (is_empty F) refl refl e (λ x n h. step_good low c F bytes next x n h) (λ m x n h. step_good low c F bytes m x n h)
  where
    by : (good empty : Bool) → is_record low (c + 1) P bytes at ≡ good → is_empty (ids_at bytes at) ≡ empty →
        by_tests good empty (Bad at) (UpTo Alone (end_of bytes at)) (read_on (step_at low c (ids_at bytes at) bytes (end_of bytes at)) (λ one n. read_on (step_at low c (ids_at bytes at) bytes n) (λ two m. UpTo (With (ids_at bytes at) one two) m))) ≡ UpTo parts end →
        ((x : StepParts) (n : ℕ) → step_at low c (ids_at bytes at) bytes (end_of bytes at) ≡ UpTo x n → AreParts low c (ids_at bytes at) x) →
        ((m : ℕ) (x : StepParts) (n : ℕ) → step_at low c (ids_at bytes at) bytes m ≡ UpTo x n → AreParts low c (ids_at bytes at) x) → AreParts low (suc c) P parts
    by false empty g h e f k = absurd cc
    by true true g h e f k = subst (AreParts low (suc c) P) (same_parts Alone parts (end_of bytes at) end e) tt
    by true false g h e f k =
        let F = ids_at bytes at in
        let r = good_record low (c + 1) P bytes at g in
        let a = read_through (step_at low c F bytes (end_of bytes at)) (λ one n. read_on (step_at low c F bytes n) (λ two m. UpTo (With F one two) m)) parts end e in
        let b = read_through (step_at low c F bytes a.at) (λ two m. UpTo (With F a.first two) m) parts end a.then in
        let minus : c ≡ suc c - 1 = omega arith in
        let above : low < c + 1 = above_low low (c + 1) F h r.end in
        subst (AreParts low (suc c) P) (same_parts (With F a.first b.first) parts b.at end b.then) (
          record { some = h; above = omega (arith, above); ascending = r.ascending; part = r.part },
          subst (λ n. AreParts low n F a.first) minus (f a.first a.at a.was),
          subst (λ n. AreParts low n F b.first) minus (k a.at b.first b.at b.was),
        )

steps_good : (s : SetupData) (n : ℕ) (P bytes : List ℕ) (at : ℕ) (steps : List StepParts) (end : ℕ) → steps_at s n P bytes at ≡ UpTo steps end → (length steps ≡ n) × AllByRecursion (AreParts s.low_bin s.top_bin P) steps
unfolding steps_at
steps_good s zero P bytes at steps end e = let f = same_steps [] steps at end e in subst (λ xs. (length xs ≡ 0) × AllByRecursion (AreParts s.low_bin s.top_bin P) xs) f (refl, tt)
steps_good s (suc n) P bytes at steps end e =
    let a = read_through (step_at s.low_bin s.top_bin P bytes at) (λ parts m. read_on (steps_at s n P bytes m) (λ xs k. UpTo (parts ∷ xs) k)) steps end e in
    let b = read_through (steps_at s n P bytes a.at) (λ xs k. UpTo (a.first ∷ xs) k) steps end a.then in
    let k = steps_good s n P bytes a.at b.first b.at b.was in
    subst (λ xs. (length xs ≡ suc n) × AllByRecursion (AreParts s.low_bin s.top_bin P) xs) (same_steps (a.first ∷ b.first) steps b.at end b.then) (ap suc k.0, (step_good s.low_bin s.top_bin P bytes at a.first a.at a.was, k.1))

pub spelled_are_parts : SpelledAreParts
spelled_are_parts bytes s B steps spell =
    let k = steps_good s (base_steps s) (ids_of B) bytes 8 steps spell.end spell.are in
    record { all = k.0; each = k.1 }

-- ---- the bin file of a run

pub bin_files_lead_back : BinFilesLeadBack
bin_files_lead_back plan stop σ z within room ok done =
    let s = plan.rules.gravity.setup in
    let d = session plan false stop σ in
    let a = runs_are_taken_back plan stop σ z within ok done in
    let last : HaveRoom (ids_of d.state.bodies) = subst HaveRoom (sym a.ids) room in
    record {
      steps = a.steps;
      spell = subst (λ xs. Spell (bins_text xs) s d.state.bodies a.steps) (sym a.told) (bin_files_are_read s d.state.bodies a.steps ok last a.good);
      back = a.back;
    }
