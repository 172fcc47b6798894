-- What stands at a place, record by record, and step by step.
use Rattle.std.proofs.Common.{◌≡◌, ◌≤◌, ◌<◌, ℕ, zero, suc, ◌+◌, ◌-◌, ◌*◌, Bool, true, false, cond, not, ◌&&◌, ◌||◌, nat_le, nat_lt, List, [], ◌∷◌, ◌++◌, length, refl, ap, sym, ◌∙◌, arith, append_assoc}
use Rattle.std.specs.List.{flat_map, list_all}
use Rattle.std.specs.List.Sorted.{IsStrictlyIncreasing}
use Rattle.std.proofs.lemmas.Bool.{false≢true, leb-true, ltb-true}
use Rattle.std.proofs.lemmas.Grind.{flat_map-append}
use Rattle.std.proofs.lemmas.List.FromFn.{length-map-range_with_len}
use Rattle.fixed_point.specs.Bytes.{word64_at}
use Rattle.nbody_model.specs.Bodies.{has}
use Rattle.nbody_model.specs.Evolve.{is_empty}
use Rattle.nbody_model.specs.Setups.{SetupData}
use Rattle.rewind_laws.specs.Back.{StepParts, Alone, With, base_steps}
use Rattle.rewind_laws.specs.Bins.{size_at, ids_at, end_of, ascends, is_record, Read, UpTo, Bad, read_on, step_at, steps_at}
use Rattle.rewind_laws.proofs.Filed.{and_both}
use Rattle.rewind.specs.Kept.{by_end}
use Rattle.rewind.specs.declared.errors.RewindErr.{RewindErr}
use Rattle.rewind.specs.declared.errors.RewindErr.TheVariants.{Tick, Tag, Record, EndMark, MomRange, BinsDiffer, Memory}
use Rattle.rewind.specs.Reading.{IsRecordAt, IsNoRecordAt, IsBad, StepIsRead, StepsAreRead}
use Rattle.rewind.proofs.Ascending.{true_ascends}

-- ---- one record

-- the tests of a record, one by one
pub record Tests (low b : ℕ) (P bytes : List ℕ) (at : ℕ) : Type 0 where
  pub size : nat_le (at + 4) (length bytes) ≡ true
  pub room : nat_le (end_of bytes at) (length bytes) ≡ true
  pub rising : ascends (ids_at bytes at) ≡ true
  pub part : list_all (has P) (ids_at bytes at) ≡ true
  pub low_enough : (is_empty (ids_at bytes at) || nat_lt low b) ≡ true

pub tests : (low bin : ℕ) (P bytes : List ℕ) (at : ℕ) → is_record low bin P bytes at ≡ true → Tests low bin P bytes at
unfolding is_record
tests low bin P bytes at e =
    let F = ids_at bytes at in
    let one = and_both (nat_le (at + 4) (length bytes) && nat_le (end_of bytes at) (length bytes)) ((ascends F && list_all (has P) F) && (is_empty F || nat_lt low bin)) e in
    let front = and_both (nat_le (at + 4) (length bytes)) (nat_le (end_of bytes at) (length bytes)) one.0 in
    let back = and_both (ascends F && list_all (has P) F) (is_empty F || nat_lt low bin) one.1 in
    let ids = and_both (ascends F) (list_all (has P) F) back.0 in
    record { size = front.0; room = front.1; rising = ids.0; part = ids.1; low_enough = back.1 }

all_true : (a b c d e : Bool) → a ≡ true → b ≡ true → c ≡ true → d ≡ true → e ≡ true → ((a && b) && ((c && d) && e)) ≡ true
all_true a b c d e p q r s t = (λ i. (p i && q i) && ((r i && s i) && t i))

pub tested : (low bin : ℕ) (P bytes : List ℕ) (at : ℕ) → Tests low bin P bytes at → is_record low bin P bytes at ≡ true
unfolding is_record
tested low bin P bytes at t =
    all_true (nat_le (at + 4) (length bytes)) (nat_le (end_of bytes at) (length bytes)) (ascends (ids_at bytes at)) (list_all (has P) (ids_at bytes at)) (is_empty (ids_at bytes at) || nat_lt low bin)
    t.size t.room t.rising t.part t.low_enough

-- one of the tests fails
pub no_room : (low bin : ℕ) (P bytes : List ℕ) (at : ℕ) → (nat_le (at + 4) (length bytes) && nat_le (end_of bytes at) (length bytes)) ≡ false → is_record low bin P bytes at ≡ false
unfolding is_record
no_room low bin P bytes at e = ap (λ b. b && ((ascends (ids_at bytes at) && list_all (has P) (ids_at bytes at)) && (is_empty (ids_at bytes at) || nat_lt low bin))) e

fails : (low bin : ℕ) (P bytes : List ℕ) (at : ℕ) → (is_record low bin P bytes at ≡ true → false ≡ true) → is_record low bin P bytes at ≡ false
fails low bin P bytes at h = by (is_record low bin P bytes at) refl
  where
    by : (b : Bool) → is_record low bin P bytes at ≡ b → b ≡ false
    by true e = sym (h e)
    by false e = refl

pub no_order : (low bin : ℕ) (P bytes : List ℕ) (at : ℕ) → ascends (ids_at bytes at) ≡ false → is_record low bin P bytes at ≡ false
no_order low bin P bytes at e = fails low bin P bytes at (λ g. sym e ∙ (tests low bin P bytes at g).rising)

pub no_part : (low bin : ℕ) (P bytes : List ℕ) (at : ℕ) → list_all (has P) (ids_at bytes at) ≡ false → is_record low bin P bytes at ≡ false
no_part low bin P bytes at e = fails low bin P bytes at (λ g. sym e ∙ (tests low bin P bytes at g).part)

pub no_bin : (low bin : ℕ) (P bytes : List ℕ) (at : ℕ) → (is_empty (ids_at bytes at) || nat_lt low bin) ≡ false → is_record low bin P bytes at ≡ false
no_bin low bin P bytes at e = fails low bin P bytes at (λ g. sym e ∙ (tests low bin P bytes at g).low_enough)

-- how many ids there are
pub many_ids : (bytes : List ℕ) (at : ℕ) → length (ids_at bytes at) ≡ size_at bytes at
unfolding ids_at
many_ids bytes at = length-map-range_with_len (λ i. word64_at bytes (at + 4 + 8 * i)) 0 (size_at bytes at)

-- where the record of these ids ends
pub ends_at : (bytes ids : List ℕ) (at : ℕ) → ids ≡ ids_at bytes at → at + 4 + 8 * length ids ≡ end_of bytes at
ends_at bytes ids at e = ap (λ n. at + 4 + 8 * n) (ap length e ∙ many_ids bytes at)

pub ends_within : (low bin : ℕ) (P bytes : List ℕ) (at : ℕ) (ids : List ℕ) → IsRecordAt low bin P bytes at ids → at + 4 + 8 * length ids ≤ length bytes
ends_within low bin P bytes at ids r =
    let e = ends_at bytes ids at r.are in
    let l : end_of bytes at ≤ length bytes = leb-true _ _ (tests low bin P bytes at r.good).room in
    omega (arith, e, l)

pub ids_rise : (low bin : ℕ) (P bytes : List ℕ) (at : ℕ) (ids : List ℕ) → IsRecordAt low bin P bytes at ids → IsStrictlyIncreasing ids
ids_rise low bin P bytes at ids r = true_ascends ids (ap ascends r.are ∙ (tests low bin P bytes at r.good).rising)

-- what isn't empty stands above the least bin
pub is_above : (low bin : ℕ) (P bytes : List ℕ) (at : ℕ) (ids : List ℕ) → IsRecordAt low bin P bytes at ids → is_empty ids ≡ false → low < bin
is_above low bin P bytes at ids r e = ltb-true low bin ((λ i. empty i || nat_lt low bin) ∙ (tests low bin P bytes at r.good).low_enough)
  where
    empty : false ≡ is_empty (ids_at bytes at)
    empty = sym e ∙ ap is_empty r.are

-- ---- a step

abbrev by_tests : {X : Type 0} → Bool → Bool → X → X → X → X
by_tests good empty bad alone finer = cond (not good) bad (cond empty alone finer)

abbrev finer_at : ℕ → ℕ → List ℕ → List ℕ → ℕ → Read StepParts
finer_at low c F bytes next = read_on (step_at low c F bytes next) (λ one n. read_on (step_at low c F bytes n) (λ two m. UpTo (With F one two) m))

pub bad_step : (low bin : ℕ) (P bytes : List ℕ) (at : ℕ) → is_record low bin P bytes at ≡ false → step_at low bin P bytes at ≡ Bad at
unfolding step_at
bad_step low zero P bytes at e = refl
bad_step low (suc c) P bytes at e =
    let one : suc c ≡ c + 1 = omega arith in
    ap (λ b. by_tests b (is_empty (ids_at bytes at)) (Bad at) (UpTo Alone (end_of bytes at)) (finer_at low c (ids_at bytes at) bytes (end_of bytes at))) (ap (λ n. is_record low n P bytes at) (sym one) ∙ e)

pub empty_step : (low bin : ℕ) (P bytes : List ℕ) (at : ℕ) (ids : List ℕ) → 1 ≤ bin → IsRecordAt low bin P bytes at ids → is_empty ids ≡ true → step_at low bin P bytes at ≡ UpTo Alone (end_of bytes at)
unfolding step_at
empty_step low zero P bytes at ids some r e = absurd (omega (arith, some))
empty_step low (suc c) P bytes at ids some r e =
    let one : suc c ≡ c + 1 = omega arith in
    let good : is_record low (c + 1) P bytes at ≡ true = ap (λ n. is_record low n P bytes at) (sym one) ∙ r.good in
    let empty : is_empty (ids_at bytes at) ≡ true = ap is_empty (sym r.are) ∙ e in
    λ i. by_tests (good i) (empty i) (Bad at) (UpTo Alone (end_of bytes at)) (finer_at low c (ids_at bytes at) bytes (end_of bytes at))

pub full_step : (low bin : ℕ) (P bytes : List ℕ) (at : ℕ) (ids : List ℕ) → 1 ≤ bin → IsRecordAt low bin P bytes at ids → is_empty ids ≡ false → step_at low bin P bytes at ≡ finer_at low (bin - 1) ids bytes (end_of bytes at)
unfolding step_at
full_step low zero P bytes at ids some r e = absurd (omega (arith, some))
full_step low (suc c) P bytes at ids some r e =
    let one : suc c ≡ c + 1 = omega arith in
    let less : c ≡ suc c - 1 = omega arith in
    let good : is_record low (c + 1) P bytes at ≡ true = ap (λ n. is_record low n P bytes at) (sym one) ∙ r.good in
    let empty : is_empty (ids_at bytes at) ≡ false = ap is_empty (sym r.are) ∙ e in
    (λ i. by_tests (good i) (empty i) (Bad at) (UpTo Alone (end_of bytes at)) (finer_at low c (ids_at bytes at) bytes (end_of bytes at))) ∙
    (λ i. finer_at low (less i) (sym r.are i) bytes (end_of bytes at))

-- a step without finer ones was read
pub alone_read : (low bin : ℕ) (P bytes : List ℕ) (at : ℕ) (ids : List ℕ) (before : List (List ℕ)) → 1 ≤ bin → IsRecordAt low bin P bytes at ids → ids ≡ [] → StepIsRead low bin P bytes at before (at + 4 + 8 * length ids) (before ++ ids ∷ [])
alone_read low bin P bytes at ids before some r e =
    record {
      parts = Alone;
      are = empty_step low bin P bytes at ids some r (ap is_empty e) ∙ ap (UpTo Alone) (sym (ends_at bytes ids at r.are));
      added = ap (λ F. before ++ F ∷ []) e;
      within = ends_within low bin P bytes at ids r;
    }

-- a step was read with its two finer ones
pub with_read : (low bin : ℕ) (P bytes : List ℕ) (at : ℕ) (ids : List ℕ) (before between after : List (List ℕ)) (middle end : ℕ) → 1 ≤ bin → IsRecordAt low bin P bytes at ids → is_empty ids ≡ false →
    StepIsRead low (bin - 1) ids bytes (at + 4 + 8 * length ids) before middle between → StepIsRead low (bin - 1) ids bytes middle between end after → StepIsRead low bin P bytes at before end (after ++ ids ∷ [])
with_read low bin P bytes at ids before between after middle end some r e one two =
    let place = ends_at bytes ids at r.are in
    let first : step_at low (bin - 1) ids bytes (end_of bytes at) ≡ UpTo one.parts middle = ap (step_at low (bin - 1) ids bytes) (sym place) ∙ one.are in
    record {
      parts = With ids one.parts two.parts;
      are =
          full_step low bin P bytes at ids some r e ∙
          ap (λ a. read_on a (λ x n. read_on (step_at low (bin - 1) ids bytes n) (λ y m. UpTo (With ids x y) m))) first ∙
          ap (λ a. read_on a (λ y m. UpTo (With ids one.parts y) m)) two.are;
      added =
          ap (λ xs. xs ++ ids ∷ []) (two.added ∙ ap (λ xs. xs ++ by_end two.parts) one.added ∙ append_assoc before (by_end one.parts) (by_end two.parts)) ∙
          append_assoc before (by_end one.parts ++ by_end two.parts) (ids ∷ []);
      within = two.within;
    }

-- the first or the second of the finer ones is bad
pub first_bad : (low bin : ℕ) (P bytes : List ℕ) (at : ℕ) (ids : List ℕ) (place : ℕ) → 1 ≤ bin → IsRecordAt low bin P bytes at ids → is_empty ids ≡ false → step_at low (bin - 1) ids bytes (at + 4 + 8 * length ids) ≡ Bad place → step_at low bin P bytes at ≡ Bad place
first_bad low bin P bytes at ids place some r e bad =
    full_step low bin P bytes at ids some r e ∙
    ap (λ a. read_on a (λ x n. read_on (step_at low (bin - 1) ids bytes n) (λ y m. UpTo (With ids x y) m))) (ap (step_at low (bin - 1) ids bytes) (sym (ends_at bytes ids at r.are)) ∙ bad)

pub second_bad : (low bin : ℕ) (P bytes : List ℕ) (at : ℕ) (ids : List ℕ) (before between : List (List ℕ)) (middle place : ℕ) → 1 ≤ bin → IsRecordAt low bin P bytes at ids → is_empty ids ≡ false →
    StepIsRead low (bin - 1) ids bytes (at + 4 + 8 * length ids) before middle between → step_at low (bin - 1) ids bytes middle ≡ Bad place → step_at low bin P bytes at ≡ Bad place
second_bad low bin P bytes at ids before between middle place some r e one bad =
    full_step low bin P bytes at ids some r e ∙
    ap (λ a. read_on a (λ x n. read_on (step_at low (bin - 1) ids bytes n) (λ y m. UpTo (With ids x y) m))) (ap (step_at low (bin - 1) ids bytes) (sym (ends_at bytes ids at r.are)) ∙ one.are) ∙
    ap (λ a. read_on a (λ y m. UpTo (With ids one.parts y) m)) bad

-- why a step isn't read
pub fault_at_record : (low bin : ℕ) (P bytes : List ℕ) (at : ℕ) (e : RewindErr) → IsNoRecordAt low bin P bytes at e → IsBad (step_at low bin P bytes at) e
fault_at_record low bin P bytes at (Record place) h = bad_step low bin P bytes at h.0 ∙ ap Bad (sym h.1)
fault_at_record low bin P bytes at Memory h = tt
fault_at_record low bin P bytes at Tag h = h
fault_at_record low bin P bytes at EndMark h = h
fault_at_record low bin P bytes at (Tick want got) h = h
fault_at_record low bin P bytes at (MomRange id axis) h = h
fault_at_record low bin P bytes at (BinsDiffer tick id) h = h

-- a fault of what is read first, or in between, is one of the whole
pub handed_on : {X Y : Type 0} (a : Read X) (b : Read Y) (e : RewindErr) → ((place : ℕ) → a ≡ Bad place → b ≡ Bad place) → IsBad a e → IsBad b e
handed_on a b (Record place) f h = f place h
handed_on a b Memory f h = tt
handed_on a b Tag f h = h
handed_on a b EndMark f h = h
handed_on a b (Tick want got) f h = h
handed_on a b (MomRange id axis) f h = h
handed_on a b (BinsDiffer tick id) f h = h

-- ---- base steps

-- the first steps were read, up to a place
pub record StepsSoFar (s : SetupData) (P bytes : List ℕ) (count at : ℕ) (lists : List (List ℕ)) : Type 0 where
  pub done : List StepParts
  pub told : steps_at s (base_steps s) P bytes 8 ≡ read_on (steps_at s (base_steps s - count) P bytes at) (λ steps m. UpTo (done ++ steps) m)
  pub are : lists ≡ flat_map by_end done
  pub within : at ≤ length bytes

pub none_read : (s : SetupData) (P bytes : List ℕ) (lists : List (List ℕ)) → lists ≡ [] → 8 ≤ length bytes → StepsSoFar s P bytes 0 8 lists
none_read s P bytes lists e l =
    let all : base_steps s - 0 ≡ base_steps s = omega arith in
    record {
      done = [];
      told = by (steps_at s (base_steps s) P bytes 8) ∙ ap (λ n. read_on (steps_at s n P bytes 8) (λ steps m. UpTo ([] ++ steps) m)) (sym all);
      are = e;
      within = l;
    }
  where
    by : (r : Read (List StepParts)) → r ≡ read_on r (λ steps m. UpTo ([] ++ steps) m)
    by (UpTo steps m) = refl
    by (Bad at) = refl

later : (s : SetupData) (n : ℕ) (P bytes : List ℕ) (at : ℕ) → 1 ≤ n → steps_at s n P bytes at ≡ read_on (step_at s.low_bin s.top_bin P bytes at) (λ parts m. read_on (steps_at s (n - 1) P bytes m) (λ steps k. UpTo (parts ∷ steps) k))
unfolding steps_at
later s zero P bytes at h = absurd (omega (arith, h))
later s (suc n) P bytes at h =
    let less : n ≡ suc n - 1 = omega arith in
    ap (λ i. read_on (step_at s.low_bin s.top_bin P bytes at) (λ parts m. read_on (steps_at s i P bytes m) (λ steps k. UpTo (parts ∷ steps) k))) less

pub one_more : (s : SetupData) (P bytes : List ℕ) (count at next : ℕ) (lists more : List (List ℕ)) → count < base_steps s → StepsSoFar s P bytes count at lists → StepIsRead s.low_bin s.top_bin P bytes at lists next more → StepsSoFar s P bytes (count + 1) next more
one_more s P bytes count at next lists more l f r =
    let less : base_steps s - count - 1 ≡ base_steps s - (count + 1) = omega (arith, l) in
    let k = base_steps s - (count + 1) in
    let go = λ (a : Read StepParts). read_on (read_on a (λ parts m. read_on (steps_at s (base_steps s - count - 1) P bytes m) (λ steps k. UpTo (parts ∷ steps) k))) (λ steps m. UpTo (f.done ++ steps) m) in
    record {
      done = f.done ++ r.parts ∷ [];
      told =
          f.told ∙ ap (λ a. read_on a (λ steps m. UpTo (f.done ++ steps) m)) (later s (base_steps s - count) P bytes at (omega (arith, l))) ∙ ap go r.are ∙
          ap (λ n. read_on (read_on (steps_at s n P bytes next) (λ steps k. UpTo (r.parts ∷ steps) k)) (λ steps m. UpTo (f.done ++ steps) m)) less ∙ by f.done r.parts (steps_at s k P bytes next);
      are = r.added ∙ ap (λ xs. xs ++ by_end r.parts) f.are ∙ sym (flat_map-append by_end f.done (r.parts ∷ []) ∙ ap (λ xs. flat_map by_end f.done ++ xs) (nothing (by_end r.parts)));
      within = r.within;
    }
  where
    by : (done : List StepParts) (parts : StepParts) (a : Read (List StepParts)) → read_on (read_on a (λ steps k. UpTo (parts ∷ steps) k)) (λ steps m. UpTo (done ++ steps) m) ≡ read_on a (λ steps m. UpTo ((done ++ parts ∷ []) ++ steps) m)
    by done parts (UpTo steps m) = ap (λ xs. UpTo xs m) (sym (append_assoc done (parts ∷ []) steps))
    by done parts (Bad at) = refl

    nothing : (xs : List (List ℕ)) → xs ++ [] ≡ xs
    nothing [] = refl
    nothing (x ∷ xs) = ap (λ ys. x ∷ ys) (nothing xs)

pub one_bad : (s : SetupData) (P bytes : List ℕ) (count at place : ℕ) (lists : List (List ℕ)) → count < base_steps s → StepsSoFar s P bytes count at lists → step_at s.low_bin s.top_bin P bytes at ≡ Bad place → steps_at s (base_steps s) P bytes 8 ≡ Bad place
one_bad s P bytes count at place lists l f bad =
    f.told ∙ ap (λ a. read_on a (λ steps m. UpTo (f.done ++ steps) m)) (later s (base_steps s - count) P bytes at (omega (arith, l))) ∙
    ap (λ a. read_on (read_on a (λ parts m. read_on (steps_at s (base_steps s - count - 1) P bytes m) (λ steps k. UpTo (parts ∷ steps) k))) (λ steps m. UpTo (f.done ++ steps) m)) bad

pub all_read : (s : SetupData) (P bytes : List ℕ) (count at : ℕ) (lists : List (List ℕ)) → base_steps s ≤ count → StepsSoFar s P bytes count at lists → StepsAreRead s P bytes at lists
unfolding steps_at
all_read s P bytes count at lists l f =
    let none : base_steps s - count ≡ 0 = omega (arith, l) in
    record {
      steps = f.done ++ [];
      are = f.told ∙ ap (λ n. read_on (steps_at s n P bytes at) (λ steps m. UpTo (f.done ++ steps) m)) none;
      listed = f.are ∙ ap (flat_map by_end) (sym (nothing f.done));
      within = f.within;
    }
  where
    nothing : (xs : List StepParts) → xs ++ [] ≡ xs
    nothing [] = refl
    nothing (x ∷ xs) = ap (λ ys. x ∷ ys) (nothing xs)

-- what a test of emptiness tells
pub empty_is : (ids : List ℕ) → is_empty ids ≡ true → ids ≡ []
empty_is [] e = refl
empty_is (x ∷ ids) e = absurd (false≢true e)

pub full_is : (ids : List ℕ) → (ids ≡ [] → false ≡ true) → is_empty ids ≡ false
full_is [] h = sym (h refl)
full_is (x ∷ ids) h = refl
