-- Bytes that are a text of a state have no fault.
use Rattle.std.proofs.Common.{◌≡◌, ℕ, zero, suc, ◌+◌, ◌-◌, ◌*◌, ◌<◌, ◌≤◌, ◌^◌, ◌==◌, ◌&&◌, Bool, true, false, cond, not, nat_le, nat_lt, List, ◌++◌, length, get_or, slice_index, take, drop, map, All, Option, Some, None, refl, sym, ap, ◌∙◌, arith, eq-eqb, drop_at, length-append}
use Rattle.std.specs.List.Sorted.{IsStrictlyIncreasing}
use Rattle.std.specs.Option.{option_or}
use Rattle.std.specs.Str.{bytes_eq}
use Rattle.std.proofs.lemmas.Bool.Decides.{nat_tests}
use Rattle.std.proofs.lemmas.List.{get_or-map, length-map}
use Rattle.fixed_point.specs.Bytes.{word32_at, word64_at}
use Rattle.nbody_model.specs.Bodies.{BodyData}
use Rattle.nbody_model.specs.Setups.{SetupData, IsSetup}
use Rattle.nbody_model.specs.States.{StateData}
use Rattle.nbody_model.specs.RestartText.{restart_head}
use Rattle.restart_files.specs.declared.errors.RestartErr.{RestartErr}
use Rattle.restart_files.specs.declared.errors.RestartErr.TheVariants.{Field}
use Rattle.particle_set.specs.Stored.{IsStorable}
use Rattle.restart_files.specs.Stored.{AreStorable}
use Rattle.restart_files.specs.RestartFile.{NoFaultBelow, body_fault, body_place, count_in, end_mark, first_fault, has_wrong_depth, has_wrong_id, has_wrong_kind, head_fault, is_count, is_from_to, is_tick, is_version, low_bin_in, restart_tag, rules_fault, softening_fault, tick_fault, version_in, width_of}
use Rattle.restart_files.proofs.EachBody.{none_wrong}
use Rattle.restart_files.proofs.Front.{IsFront, front_back, text}
use Rattle.restart_files.proofs.Joins.{blank}
use Rattle.restart_files.proofs.BodyWords.{IsBodyAt}

pub passed : {E : Type 0} (t : Bool) (e : E) (rest : Option E) → t ≡ true → rest ≡ None → cond (not t) (Some e) rest ≡ None
passed t e rest f g = ap (λ s. cond (not s) (Some e) rest) f ∙ g

pub unmet : {E : Type 0} (t : Bool) (e : E) (rest : Option E) → t ≡ false → rest ≡ None → cond t (Some e) rest ≡ None
unmet t e rest f g = ap (λ s. cond s (Some e) rest) f ∙ g

or_none : (a b : Option RestartErr) → a ≡ None → b ≡ None → option_or a b ≡ None
or_none a b e f = ap (λ o. option_or o b) e ∙ f

-- ---- what the bytes begin and end with, and how long they are

pub record IsText (bytes : List ℕ) (version : ℕ) (σ : StateData) (s : SetupData) : Type 0 where
  pub front : IsFront bytes version σ s
  pub tag : bytes_eq restart_tag (take 8 bytes) ≡ true
  pub long : length bytes ≡ 176 + width_of version * length σ.bodies
  pub end : bytes_eq end_mark (drop (length bytes - 8) bytes) ≡ true

pub is_text : (version : ℕ) (σ : StateData) (s : SetupData) (bodies : List ℕ) → version ≤ 2 → length σ.bodies ≤ 1048576 → AreStorable σ → IsSetup s → length bodies ≡ width_of version * length σ.bodies
    → IsText (text version σ s bodies) version σ s
is_text version σ s bodies v n r h w =
    let b : List ℕ = text version σ s bodies in
    let begin : List ℕ = restart_head version σ s ++ bodies in
    let first : length begin ≡ 168 + length bodies = length-append (restart_head version σ s) bodies in
    let whole : length b ≡ length begin + 8 = length-append begin end_mark in
    let back : length b - 8 ≡ length begin = omega (arith, whole) in
    record {
      front = front_back version σ s bodies v n r h;
      tag = refl;
      long = omega (arith, first, whole, w);
      end = ap (λ n. bytes_eq end_mark (drop n b)) back ∙ ap (bytes_eq end_mark) (drop_at begin end_mark (length begin) refl);
    }

pub head_none : (bytes : List ℕ) (version : ℕ) (σ : StateData) (s : SetupData) → IsText bytes version σ s → is_version version ≡ true → is_count version (length σ.bodies) ≡ true → head_fault bytes ≡ None
head_none bytes version σ s t v n =
    let same : 176 + width_of (version_in bytes) * count_in bytes ≡ 176 + width_of version * length σ.bodies = (λ i. 176 + width_of (t.front.version i) * t.front.count i) in
    let long : length bytes ≡ 176 + width_of (version_in bytes) * count_in bytes = t.long ∙ sym same in
    passed (bytes_eq restart_tag (take 8 bytes)) _ _ t.tag (unmet (nat_lt (length bytes) 176) _ _ (not_below (length bytes) 176 (omega (arith, t.long)))
    (passed (is_version (version_in bytes)) _ _ (ap is_version t.front.version ∙ v) (passed (is_count (version_in bytes) (count_in bytes)) _ _ ((λ i. is_count (t.front.version i) (t.front.count i)) ∙ n)
    (passed (length bytes == 176 + width_of (version_in bytes) * count_in bytes) _ _ (eq-eqb _ _ long) (passed (bytes_eq end_mark (drop (length bytes - 8) bytes)) _ _ t.end refl)))))
  where
    not_below : (a b : ℕ) → b ≤ a → nat_lt a b ≡ false
    not_below a b l = grind (arith, nat_tests)

-- ---- the settings

from_to : (bytes : List ℕ) (at low n high : ℕ) → word64_at bytes at ≡ n → low ≤ n → n ≤ high → is_from_to bytes at low high ≡ true
from_to bytes at low n high e l h = ap (λ m. nat_le low m && nat_le m high) e ∙ both low n high l h
  where
    both : (low n high : ℕ) → low ≤ n → n ≤ high → (nat_le low n && nat_le n high) ≡ true
    both low n high l h = grind (arith, nat_tests)

pub rules_none : (bytes : List ℕ) (version : ℕ) (σ : StateData) (s : SetupData) → IsFront bytes version σ s → IsSetup s → rules_fault bytes ≡ None
rules_none bytes version σ s f h =
    passed (is_from_to bytes 72 0 (2 ^ 40)) _ _ (from_to bytes 72 0 s.time_max (2 ^ 40) f.time_max (omega arith) h.time_high)
    (passed (is_from_to bytes 80 1 20) _ _ (from_to bytes 80 1 s.low_bin 20 f.low_bin h.bin_low (omega (arith, h.bins_ordered, h.bin_high)))
    (passed (is_from_to bytes 88 (low_bin_in bytes) 20) _ _ (from_to bytes 88 (low_bin_in bytes) s.top_bin 20 f.top_bin (omega (arith, f.low_bin, h.bins_ordered)) h.bin_high)
    (passed (is_from_to bytes 96 0 256) _ _ (from_to bytes 96 0 s.theta 256 f.theta (omega arith) h.theta_high)
    (passed (is_from_to bytes 104 1 65536) _ _ (from_to bytes 104 1 s.eta 65536 f.eta h.eta_low h.eta_high)
    (passed (is_from_to bytes 112 0 (2 ^ 32)) _ _ (from_to bytes 112 0 s.gravity (2 ^ 32) f.gravity (omega arith) h.gravity_high)
    (passed (is_from_to bytes 120 0 40) _ _ (from_to bytes 120 0 s.velocity_shift 40 f.velocity_shift (omega arith) h.shift_high) refl))))))

pub softenings_none : (bytes : List ℕ) (version : ℕ) (σ : StateData) (s : SetupData) → IsFront bytes version σ s → IsSetup s → softening_fault bytes ≡ None
softenings_none bytes version σ s f h =
    passed (is_from_to bytes 128 256 (2 ^ 30)) _ _ (soft 128 1 (omega arith) f.soft_1)
    (passed (is_from_to bytes 136 256 (2 ^ 30)) _ _ (soft 136 2 (omega arith) f.soft_2)
    (passed (is_from_to bytes 144 256 (2 ^ 30)) _ _ (soft 144 3 (omega arith) f.soft_3)
    (passed (is_from_to bytes 152 256 (2 ^ 30)) _ _ (soft 152 4 (omega arith) f.soft_4)
    (passed (is_from_to bytes 160 256 (2 ^ 30)) _ _ (soft 160 5 (omega arith) f.soft_5) refl))))
  where
    soft : (at k : ℕ) → k < 6 → word64_at bytes at ≡ slice_index s.soft k → is_from_to bytes at 256 (2 ^ 30) ≡ true
    soft at k l e = from_to bytes at 256 (slice_index s.soft k) (2 ^ 30) e (h.softenings.each k l).low (h.softenings.each k l).high

-- ---- the bodies

-- each body stands in its place
abbrev pub HasBodies : List ℕ → List BodyData → Type 0
HasBodies bytes bs = (i : ℕ) (d : BodyData) → i < length bs → IsBodyAt bytes (body_place bytes i) (get_or bs i d)

rises : (bs : List BodyData) (i : ℕ) → IsStrictlyIncreasing (map (λ b. b.id) bs) → i + 1 < length bs → (get_or bs i blank).id < (get_or bs (i + 1) blank).id
rises bs i h l =
    let ids : List ℕ = map (λ b. b.id) bs in
    let a : slice_index ids i ≡ (get_or bs i blank).id = get_or-map (λ b. b.id) bs i blank 0 (omega (arith, l)) in
    let b : slice_index ids (i + 1) ≡ (get_or bs (i + 1) blank).id = get_or-map (λ b. b.id) bs (i + 1) blank 0 l in
    omega (arith, a, b, h i (omega (arith, l, length-map bs (λ b. b.id))))

and_not : (t u : Bool) → u ≡ false → (t && u) ≡ false
and_not true u e = e
and_not false u e = refl

above : (a b : ℕ) → b < a → nat_le a b ≡ false
above a b l = grind (arith, nat_tests)

id_right : (bytes : List ℕ) (bs : List BodyData) (i : ℕ) → HasBodies bytes bs → IsStrictlyIncreasing (map (λ b. b.id) bs) → i < length bs → has_wrong_id bytes i ≡ false
id_right bytes bs zero h r l = refl
id_right bytes bs (suc i) h r l =
    let e : suc i ≡ i + 1 = omega arith in
    let f : suc i - 1 ≡ i = omega arith in
    let here : word64_at bytes (body_place bytes (suc i)) ≡ (get_or bs (i + 1) blank).id = ap (λ n. word64_at bytes (body_place bytes n)) e ∙ (h (i + 1) blank (omega (arith, l))).id in
    let before : word64_at bytes (body_place bytes (suc i - 1)) ≡ (get_or bs i blank).id = ap (λ n. word64_at bytes (body_place bytes n)) f ∙ (h i blank (omega (arith, l))).id in
    and_not (not (suc i == 0)) _ ((λ j. nat_le (here j) (before j)) ∙ above _ _ (rises bs i r (omega (arith, l))))

kind_right : (bytes : List ℕ) (at : ℕ) (b : BodyData) → word32_at bytes at ≡ b.kind → IsStorable b → not (nat_le 1 (word32_at bytes at) && nat_le (word32_at bytes at) 5) ≡ false
kind_right bytes at b e s = ap (λ k. not (nat_le 1 k && nat_le k 5)) e ∙ within b.kind s.kind_low s.kind_high
  where
    within : (k : ℕ) → 1 ≤ k → k ≤ 5 → not (nat_le 1 k && nat_le k 5) ≡ false
    within k l h = grind (arith, nat_tests)

pub no_body_fault : (bytes : List ℕ) (bs : List BodyData) → HasBodies bytes bs → IsStrictlyIncreasing (map (λ b. b.id) bs) → All IsStorable bs → ((i : ℕ) → i < length bs → has_wrong_depth bytes i ≡ false) → NoFaultBelow bytes (length bs)
unfolding body_fault
no_body_fault bytes bs h r s d i l =
    unmet (has_wrong_id bytes i) _ _ (id_right bytes bs i h r l) (unmet (has_wrong_kind bytes i) _ _ (kind_right bytes (body_place bytes i + 8) (get_or bs i blank) (h i blank l).kind (s i blank l))
    (unmet (has_wrong_depth bytes i) _ _ (d i l) refl))

-- ---- together

pub record AllRight (bytes : List ℕ) : Type 0 where
  pub head : head_fault bytes ≡ None
  pub tick : is_tick bytes ≡ true
  pub rules : rules_fault bytes ≡ None
  pub softenings : softening_fault bytes ≡ None
  pub bodies : NoFaultBelow bytes (count_in bytes)

pub faultless : (bytes : List ℕ) → AllRight bytes → first_fault bytes ≡ None
faultless bytes r =
    or_none (head_fault bytes) _ r.head (or_none (tick_fault bytes) _ (ap (λ t. cond t None (Some (Field 24))) r.tick) (or_none (rules_fault bytes) _ r.rules (or_none (softening_fault bytes) _ r.softenings (none_wrong bytes r.bodies))))
