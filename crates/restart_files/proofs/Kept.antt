-- Bytes without a fault spell a state from which a run goes on.
use Rattle.std.proofs.Common.{◌≡◌, ◌⊎◌, ℕ, zero, suc, ◌+◌, ◌*◌, ◌/◌, ◌^◌, ◌<◌, ◌≤◌, ◌==◌, ◌&&◌, min, Bool, true, false, cond, not, nat_le, nat_lt, List, [], length, map, Option, Some, None, refl, sym, ap, subst, ◌∙◌, inl, inr, arith, eq-eqb}
use Rattle.std.specs.List.{AllByRecursion, range_with_len}
use Rattle.std.specs.Option.{option_or}
use Rattle.std.proofs.lemmas.Bool.Decides.{nat_tests}
use Rattle.std.proofs.lemmas.List.{length-map}
use Rattle.std.proofs.lemmas.List.FromFn.{length-map-range_with_len}
use Rattle.std.proofs.lemmas.List.Sorted.{length_permutation}
use Rattle.nbody_model.specs.Bodies.{BodyData}
use Rattle.nbody_model.specs.States.{low_zeros}
use Rattle.particle_set.specs.declared.row.SetErr.{SetErr}
use Rattle.particle_set.specs.declared.row.SetErr.TheVariants.{TooMany, Repeated, ZeroMass, MassTotal, MomRange, Memory as NoRoom}
use Rattle.particle_set.specs.Rows.{IsFirstRefusal, IsSetOf, body_of}
use Rattle.restart_files.specs.declared.errors.RestartErr.{RestartErr}
use Rattle.restart_files.specs.declared.errors.RestartErr.TheVariants.{Field}
use Rattle.restart_files.specs.declared.head.Head.{Head}
use Rattle.restart_files.specs.Stored.{HasDepths, IsKept}
use Rattle.restart_files.specs.RestartFile.{HasHead, HasNoSet, IsFirstFault, NoFaultBelow, bodies_fault, count_in, deepest_in, depth_in, depths_in, first_fault, head_fault, is_between_steps, is_from_to, is_inside_step, is_tick, low_bin_in, refusal_of, row_in, rows_in, rules_fault, setup_in, softening_fault, state_in, steps_in, tick_fault, tick_in, time_max_in, top_bin_in, version_in}
use Rattle.restart_files.proofs.EachBody.{depth_of, split}

both : (a b : Bool) → (a && b) ≡ true → (a ≡ true) × (b ≡ true)
both true b e = (refl, e)
both false b e = absurd cc

no_fault : (a b : Option RestartErr) → option_or a b ≡ None → (a ≡ None) × (b ≡ None)
no_fault None b e = (refl, e)
no_fault (Some x) b e = absurd cc

passes : (t : Bool) (e : RestartErr) → cond t None (Some e) ≡ None → t ≡ true
passes true e s = refl
passes false e s = absurd cc

-- ---- the bins lie in their ranges

pub record AreBins (bytes : List ℕ) : Type 0 where
  pub low_high : low_bin_in bytes ≤ 20
  pub top_high : top_bin_in bytes ≤ 20

within : (low n high : ℕ) → not (nat_le low n && nat_le n high) ≡ false → n ≤ high
within low n high e = grind (arith, nat_tests)

pub are_bins : (bytes : List ℕ) → rules_fault bytes ≡ None → AreBins bytes
are_bins bytes e =
    let a = split (not (is_from_to bytes 72 0 (2 ^ 40))) (Field 72) _ e in
    let b = split (not (is_from_to bytes 80 1 20)) (Field 80) _ a.1 in
    let c = split (not (is_from_to bytes 88 (low_bin_in bytes) 20)) (Field 88) _ b.1 in
    record { low_high = within 1 (low_bin_in bytes) 20 b.0; top_high = within (low_bin_in bytes) (top_bin_in bytes) 20 c.0 }

-- ---- the tick

pub small : (n : ℕ) → n ≤ 20 → min n 20 ≡ n
small n l = omega (arith, l)

equal : (a b : ℕ) → (a == b) ≡ true → a ≡ b
equal a b e = grind (arith, nat_tests)

below : (a b : ℕ) → nat_lt a b ≡ true → a < b
below a b e = grind (arith, nat_tests)

up_to : (a b : ℕ) → nat_le a b ≡ true → a ≤ b
up_to a b e = grind (arith, nat_tests)

whole_tick : (bytes : List ℕ) → version_in bytes ≡ 1 → AreBins bytes → is_tick bytes ≡ true → is_between_steps (steps_in bytes) (tick_in bytes) (time_max_in bytes) (top_bin_in bytes) ≡ true
whole_tick bytes v b e =
    sym (ap (is_between_steps (steps_in bytes) (tick_in bytes) (time_max_in bytes)) (small (top_bin_in bytes) b.top_high))
    ∙ sym (ap (λ t. cond t (is_between_steps (steps_in bytes) (tick_in bytes) (time_max_in bytes) (min (top_bin_in bytes) 20)) (is_inside_step (steps_in bytes) (tick_in bytes) (time_max_in bytes) (min (low_bin_in bytes) 20) (min (top_bin_in bytes) 20))) (eq-eqb (version_in bytes) 1 v)) ∙ e

pub not_one : (n : ℕ) → n ≡ 2 → (n == 1) ≡ false
not_one n e = grind (arith, nat_tests)

rest_tick : (bytes : List ℕ) → version_in bytes ≡ 2 → AreBins bytes → is_tick bytes ≡ true → is_inside_step (steps_in bytes) (tick_in bytes) (time_max_in bytes) (low_bin_in bytes) (top_bin_in bytes) ≡ true
rest_tick bytes v b e =
    (λ i. is_inside_step (steps_in bytes) (tick_in bytes) (time_max_in bytes) (sym (small (low_bin_in bytes) b.low_high) i) (sym (small (top_bin_in bytes) b.top_high) i))
    ∙ sym (ap (λ t. cond t (is_between_steps (steps_in bytes) (tick_in bytes) (time_max_in bytes) (min (top_bin_in bytes) 20)) (is_inside_step (steps_in bytes) (tick_in bytes) (time_max_in bytes) (min (low_bin_in bytes) 20) (min (top_bin_in bytes) 20))) (not_one (version_in bytes) v)) ∙ e

-- ---- the depths

pub no_depths : (bytes : List ℕ) → version_in bytes ≡ 1 → depths_in bytes ≡ []
no_depths bytes v = ap (λ t. cond t [] (map (depth_in bytes) (range_with_len 0 (count_in bytes)))) (eq-eqb (version_in bytes) 1 v)

pub all_depths : (bytes : List ℕ) → version_in bytes ≡ 2 → depths_in bytes ≡ map (depth_in bytes) (range_with_len 0 (count_in bytes))
all_depths bytes v = ap (λ t. cond t [] (map (depth_in bytes) (range_with_len 0 (count_in bytes)))) (not_one (version_in bytes) v)

shallow : (f : ℕ → ℕ) (most a n : ℕ) → ((i : ℕ) → i < n → f (a + i) ≤ most) → AllByRecursion (λ depth. depth ≤ most) (map f (range_with_len a n))
shallow f most a zero h = tt
shallow f most a (suc n) h =
    let here : a + 0 ≡ a = omega arith in
    (subst (λ i. f i ≤ most) here (h 0 (omega arith)), shallow f most (a + 1) n (λ i l. let e : a + suc i ≡ a + 1 + i = omega arith in subst (λ i. f i ≤ most) e (h (suc i) (omega (arith, l)))))

-- there are as many bodies as the head says
bodies_count : (bytes : List ℕ) (B : List BodyData) → IsSetOf (rows_in bytes) B → length B ≡ count_in bytes
bodies_count bytes B h = length_permutation (map body_of (rows_in bytes)) B h.bodies ∙ length-map (rows_in bytes) body_of ∙ length-map-range_with_len (row_in bytes) 0 (count_in bytes)

pub has_depths : (bytes : List ℕ) (head : Head) (B : List BodyData) (depths : List ℕ) → HasHead bytes head → IsSetOf (rows_in bytes) B → depths ≡ depths_in bytes → HasDepths B depths
has_depths bytes head B depths h b e = by h.known
  where
    by : (head.version ≡ 1) ⊎ (head.version ≡ 2) → HasDepths B depths
    by (inl v) = inl (e ∙ no_depths bytes (sym h.version ∙ v))
    by (inr v) = inr (ap length e ∙ ap length (all_depths bytes (sym h.version ∙ v)) ∙ length-map-range_with_len (depth_in bytes) 0 (count_in bytes) ∙ sym (bodies_count bytes B b))

-- ---- both together

pub kept : (bytes : List ℕ) (head : Head) (B : List BodyData) → HasHead bytes head → first_fault bytes ≡ None → NoFaultBelow bytes head.count → IsSetOf (rows_in bytes) B → IsKept (setup_in bytes) (state_in bytes B)
kept bytes head B h e sound b = by h.known
  where
    after_head : option_or (tick_fault bytes) (option_or (rules_fault bytes) (option_or (softening_fault bytes) (bodies_fault bytes))) ≡ None
    after_head = (no_fault (head_fault bytes) _ e).1

    ticks : is_tick bytes ≡ true
    ticks = passes (is_tick bytes) (Field 24) (no_fault (tick_fault bytes) _ after_head).0

    bins : AreBins bytes
    bins = are_bins bytes (no_fault (rules_fault bytes) _ (no_fault (tick_fault bytes) _ after_head).1).0

    whole : version_in bytes ≡ 1 → IsKept (setup_in bytes) (state_in bytes B)
    whole v =
        let t = both (tick_in bytes == steps_in bytes * 2 ^ top_bin_in bytes) _ (whole_tick bytes v bins ticks) in
        inl (record { depths = no_depths bytes v; tick = equal _ _ t.0; running = below _ _ t.1 })

    rest : version_in bytes ≡ 2 → IsKept (setup_in bytes) (state_in bytes B)
    rest v =
        let t = both (steps_in bytes == tick_in bytes / 2 ^ top_bin_in bytes) _ (rest_tick bytes v bins ticks) in
        let u = both (nat_lt (steps_in bytes * 2 ^ top_bin_in bytes) (time_max_in bytes)) _ t.1 in
        let w = both (nat_le (low_bin_in bytes) (low_zeros (tick_in bytes))) _ u.1 in
        let counted : length B ≡ count_in bytes = bodies_count bytes B b in
        inr (record {
          some = omega (arith, counted, h.some (h.version ∙ v), h.count);
          each = ap length (all_depths bytes v) ∙ length-map-range_with_len (depth_in bytes) 0 (count_in bytes) ∙ sym counted;
          steps = equal _ _ t.0;
          running = below _ _ u.0;
          not_finest = up_to _ _ w.0;
          not_whole = below _ _ w.1;
          shallow = subst (AllByRecursion (λ depth. depth ≤ deepest_in bytes)) (sym (all_depths bytes v))
              (shallow (depth_in bytes) (deepest_in bytes) 0 (count_in bytes) (λ i l. let e : 0 + i ≡ i = omega arith in subst (λ i. depth_in bytes i ≤ deepest_in bytes) (sym e)
              (depth_of bytes i v (sound i (omega (arith, l, h.count))))));
        })

    by : (head.version ≡ 1) ⊎ (head.version ≡ 2) → IsKept (setup_in bytes) (state_in bytes B)
    by (inl v) = whole (sym h.version ∙ v)
    by (inr v) = rest (sym h.version ∙ v)

no_set : (bytes : List ℕ) (e : SetErr) → first_fault bytes ≡ None → IsFirstRefusal (rows_in bytes) e → HasNoSet bytes e
no_set bytes e f r = record { faultless = f; refused = r }

-- a refusal of the bodies is the first fault of bytes that have no other
pub from_bodies : (bytes : List ℕ) (e : SetErr) → first_fault bytes ≡ None → IsFirstRefusal (rows_in bytes) e → IsFirstFault bytes (refusal_of e)
from_bodies bytes (TooMany n) f r = no_set bytes (TooMany n) f r
from_bodies bytes (Repeated id) f r = no_set bytes (Repeated id) f r
from_bodies bytes (ZeroMass id) f r = no_set bytes (ZeroMass id) f r
from_bodies bytes (MassTotal sum) f r = no_set bytes (MassTotal sum) f r
from_bodies bytes (MomRange id) f r = no_set bytes (MomRange id) f r
from_bodies bytes NoRoom f r = tt
