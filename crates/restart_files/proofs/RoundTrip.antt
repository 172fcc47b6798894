-- The text of a state from which a run goes on spells that state.
use Rattle.std.proofs.Common.{◌≡◌, ℕ, zero, suc, ◌+◌, ◌-◌, ◌*◌, ◌/◌, ◌<◌, ◌≤◌, ◌^◌, ◌==◌, ◌&&◌, min, Bool, true, false, cond, not, nat_le, nat_lt, List, [], ◌∷◌, length, get_or, slice_index, map, All, IsPermutation, refl, sym, ap, subst, ◌∙◌, inl, inr, arith, length-append, le_of_suc-le-suc}
use Rattle.std.specs.List.{AllByRecursion, flat_map, zip}
use Rattle.std.proofs.lemmas.Bool.Decides.{nat_tests}
use Rattle.std.proofs.lemmas.List.{get_or-map, length-map}
use Rattle.std.proofs.lemmas.List.Elements.{All-head, All-tail}
use Rattle.std.proofs.lemmas.List.FromFn.{fill_by_all}
use Rattle.std.proofs.lemmas.List.Sorted.{IsPermutation-refl}
use Rattle.std.proofs.lemmas.Slice.Zip.{length-zip}
use Rattle.fixed_point.specs.Bytes.{word32_at}
use Rattle.nbody_model.specs.Bodies.{BodyData, IsValid}
use Rattle.nbody_model.specs.Setups.{SetupData, IsSetup}
use Rattle.nbody_model.specs.States.{StateData, IsSynchronisation, IsRest, low_zeros}
use Rattle.nbody_model.specs.RestartText.{body_bytes, restart_text, rest_text, whole_text}
use Rattle.particle_set.specs.declared.row.Row.{Row}
use Rattle.particle_set.specs.Rows.{IsSetOf, HasMass, HasMomentum, body_of}
use Rattle.restart_files.specs.Texts.{deep_body_bytes}
use Rattle.particle_set.specs.Stored.{IsStorable}
use Rattle.restart_files.specs.Stored.{AreStorable, IsKept}
use Rattle.restart_files.specs.RestartFile.{Spell, body_place, count_in, deepest_in, depth_in, depths_in, end_mark, is_between_steps, is_inside_step, is_tick, low_bin_in, row_in, rows_in, setup_in, state_in, steps_in, tick_in, time_max_in, top_bin_in, version_in, width_of}
use Rattle.restart_files.proofs.Front.{IsFront}
use Rattle.restart_files.proofs.BodyWords.{IsBodyAt, IsDeepBodyAt, deep_body, plain_body}
use Rattle.restart_files.proofs.Joins.{blank, without, with_some}
use Rattle.restart_files.proofs.Kept.{all_depths, no_depths, not_one, small}
use Rattle.restart_files.proofs.Spelled.{HasBodies, IsText, faultless, head_none, is_text, no_body_fault, rules_none, softenings_none}

-- ---- the bodies and the settings

row_of : BodyData → Row
row_of b =
    record {
      id = b.id;
      kind = b.kind;
      mass = b.mass;
      pos = b.motion.pos.x ∷ b.motion.pos.y ∷ b.motion.pos.z ∷ [];
      mom = b.motion.mom.x ∷ b.motion.mom.y ∷ b.motion.mom.z ∷ [];
    }

row_back : (bytes : List ℕ) (i : ℕ) (b : BodyData) → IsBodyAt bytes (body_place bytes i) b → row_in bytes i ≡ row_of b
unfolding row_in row_of
row_back bytes i b h = λ j. record { id = h.id j; kind = h.kind j; mass = h.mass j; pos = h.x j ∷ h.y j ∷ h.z j ∷ []; mom = h.px j ∷ h.py j ∷ h.pz j ∷ [] }

bodies_of_rows : (bs : List BodyData) → map body_of (map row_of bs) ≡ bs
unfolding row_of
bodies_of_rows [] = refl
bodies_of_rows (b ∷ bs) = ap (λ xs. b ∷ xs) (bodies_of_rows bs)

all_rows : (P : Row → Type 0) → ((b : BodyData) → IsStorable b → P (row_of b)) → (bs : List BodyData) → All IsStorable bs → All P (map row_of bs)
all_rows P f [] s k d l = absurd (omega (arith, l))
all_rows P f (b ∷ bs) s zero d l = f b (All-head IsStorable b bs s)
all_rows P f (b ∷ bs) s (suc k) d l = all_rows P f bs (All-tail IsStorable b bs s) k d (le_of_suc-le-suc l)

has_mass : (b : BodyData) → IsStorable b → HasMass (row_of b)
unfolding row_of
has_mass b s = record { low = s.heavy }

has_momentum : (b : BodyData) → IsStorable b → HasMomentum (row_of b)
unfolding row_of
has_momentum b s = record { in_range = s.momentum }

rows_back : (bytes : List ℕ) (bs : List BodyData) → count_in bytes ≡ length bs → HasBodies bytes bs → rows_in bytes ≡ map row_of bs
rows_back bytes bs n h =
    sym (fill_by_all (row_in bytes) (map row_of bs) (count_in bytes) (row_of blank) (length-map bs row_of ∙ sym n) (λ k l.
    let inside : k < length bs = omega (arith, l, n) in
    get_or-map row_of bs k blank (row_of blank) inside ∙ sym (row_back bytes k (get_or bs k blank) (h k blank inside))))

set_back : (bytes : List ℕ) (bs : List BodyData) → count_in bytes ≡ length bs → HasBodies bytes bs → IsValid bs → All IsStorable bs → IsSetOf (rows_in bytes) bs
set_back bytes bs n h v s =
    let rows : rows_in bytes ≡ map row_of bs = rows_back bytes bs n h in
    record {
      bodies = subst (λ xs. IsPermutation xs bs) (sym (ap (map body_of) rows ∙ bodies_of_rows bs)) (IsPermutation-refl bs);
      valid = v;
      massive = subst (All HasMass) (sym rows) (all_rows HasMass has_mass bs s);
      in_range = subst (All HasMomentum) (sym rows) (all_rows HasMomentum has_momentum bs s);
    }

six : (xs : List ℕ) → length xs ≡ 6 → slice_index xs 0 ≡ 256 → 256 ∷ slice_index xs 1 ∷ slice_index xs 2 ∷ slice_index xs 3 ∷ slice_index xs 4 ∷ slice_index xs 5 ∷ [] ≡ xs
six [] l e = absurd (omega arith)
six (a ∷ []) l e = absurd (omega arith)
six (a ∷ b ∷ []) l e = absurd (omega arith)
six (a ∷ b ∷ c ∷ []) l e = absurd (omega arith)
six (a ∷ b ∷ c ∷ d ∷ []) l e = absurd (omega arith)
six (a ∷ b ∷ c ∷ d ∷ f ∷ []) l e = absurd (omega arith)
six (a ∷ b ∷ c ∷ d ∷ f ∷ g ∷ []) l e = ap (λ n. n ∷ b ∷ c ∷ d ∷ f ∷ g ∷ []) (sym e)
six (a ∷ b ∷ c ∷ d ∷ f ∷ g ∷ h ∷ xs) l e = absurd (omega arith)

setup_back : (bytes : List ℕ) (v : ℕ) (σ : StateData) (s : SetupData) → IsFront bytes v σ s → IsSetup s → s ≡ setup_in bytes
setup_back bytes v σ s f h =
    let soft = sym (six s.soft h.softenings.six h.softenings.unused) ∙ (λ i. 256 ∷ sym f.soft_1 i ∷ sym f.soft_2 i ∷ sym f.soft_3 i ∷ sym f.soft_4 i ∷ sym f.soft_5 i ∷ []) in
    λ i. record {
      time_max = sym f.time_max i;
      low_bin = sym f.low_bin i;
      top_bin = sym f.top_bin i;
      theta = sym f.theta i;
      eta = sym f.eta i;
      gravity = sym f.gravity i;
      velocity_shift = sym f.velocity_shift i;
      soft = soft i;
    }

state_back : (bytes : List ℕ) (v : ℕ) (σ : StateData) (s : SetupData) → IsFront bytes v σ s → depths_in bytes ≡ σ.depths → σ ≡ state_in bytes σ.bodies
state_back bytes v σ s f d = λ i. record {
  bodies = σ.bodies;
  depths = sym d i;
  steps = sym f.steps i;
  tick = sym f.tick i;
  next_snapshot = sym f.next_snapshot i;
  next_restart = sym f.next_restart i;
  kicks = sym f.kicks i;
  interactions = sym f.interactions i;
}

-- ---- between two base steps

equal : (a b : ℕ) → a ≡ b → (a == b) ≡ true
equal a b e = grind (arith, nat_tests)

below : (a b : ℕ) → a < b → nat_lt a b ≡ true
below a b l = grind (arith, nat_tests)

up_to : (a b : ℕ) → a ≤ b → nat_le a b ≡ true
up_to a b l = grind (arith, nat_tests)

both : (t u : Bool) → t ≡ true → u ≡ true → (t && u) ≡ true
both t u e f = ap (λ b. b && u) e ∙ f

whole_tick : (bytes : List ℕ) (σ : StateData) (s : SetupData) → IsFront bytes 1 σ s → IsSetup s → IsSynchronisation s σ → is_tick bytes ≡ true
whole_tick bytes σ s f h k =
    ap (λ t. cond t (is_between_steps (steps_in bytes) (tick_in bytes) (time_max_in bytes) (min (top_bin_in bytes) 20)) (is_inside_step (steps_in bytes) (tick_in bytes) (time_max_in bytes) (min (low_bin_in bytes) 20) (min (top_bin_in bytes) 20))) (equal (version_in bytes) 1 f.version)
    ∙ (λ i. is_between_steps (f.steps i) (f.tick i) (f.time_max i) (min (f.top_bin i) 20)) ∙ ap (is_between_steps σ.steps σ.tick s.time_max) (small s.top_bin h.bin_high)
    ∙ both (σ.tick == σ.steps * 2 ^ s.top_bin) (nat_lt σ.tick s.time_max) (equal _ _ k.tick) (below _ _ k.running)

not_two : (n : ℕ) (u : Bool) → n ≡ 1 → (n == 2 && u) ≡ false
not_two n u e = ap (λ m. m == 2 && u) e

length-plain : (bs : List BodyData) → length (flat_map body_bytes bs) ≡ 52 * length bs
length-plain [] = refl
length-plain (b ∷ bs) = let more : length (flat_map body_bytes (b ∷ bs)) ≡ 52 + length (flat_map body_bytes bs) = length-append (body_bytes b) (flat_map body_bytes bs) in omega (arith, more, length-plain bs)

pub whole_back : (σ : StateData) (s : SetupData) → IsValid σ.bodies → All IsStorable σ.bodies → AreStorable σ → IsSetup s → IsSynchronisation s σ → Spell (whole_text σ s) σ s
whole_back σ s v b r h k =
    let bytes : List ℕ = whole_text σ s in
    let bs : List BodyData = σ.bodies in
    let t : IsText bytes 1 σ s = is_text 1 σ s (flat_map body_bytes bs) (omega arith) v.few r h (length-plain bs) in
    let version : version_in bytes ≡ 1 = t.front.version in
    let here : HasBodies bytes bs = λ i d l.
    subst (λ v. IsBodyAt bytes (168 + width_of v * i) (get_or bs i d)) (sym version) (plain_body bytes end_mark bs i d refl l (b i d l)) in
    let count : count_in bytes ≡ length bs = t.front.count in
    record {
      faultless = faultless bytes (record {
        head = head_none bytes 1 σ s t refl (both (nat_le (length bs) 1048576) true (up_to _ _ v.few) refl);
        tick = whole_tick bytes σ s t.front h k;
        rules = rules_none bytes 1 σ s t.front h;
        softenings = softenings_none bytes 1 σ s t.front h;
        bodies = λ i l. no_body_fault bytes bs here v.ascending b (λ i l. not_two (version_in bytes) _ version) i (omega (arith, l, count));
      });
      bodies = set_back bytes bs count here v b;
      state = state_back bytes 1 σ s t.front (no_depths bytes version ∙ sym k.depths);
      setup = setup_back bytes 1 σ s t.front h;
    }

-- ---- inside a base step

rest_tick : (bytes : List ℕ) (σ : StateData) (s : SetupData) → IsFront bytes 2 σ s → IsSetup s → IsRest s σ → is_tick bytes ≡ true
rest_tick bytes σ s f h k =
    ap (λ t. cond t (is_between_steps (steps_in bytes) (tick_in bytes) (time_max_in bytes) (min (top_bin_in bytes) 20)) (is_inside_step (steps_in bytes) (tick_in bytes) (time_max_in bytes) (min (low_bin_in bytes) 20) (min (top_bin_in bytes) 20))) (not_one (version_in bytes) f.version)
    ∙ (λ i. is_inside_step (f.steps i) (f.tick i) (f.time_max i) (min (f.low_bin i) 20) (min (f.top_bin i) 20))
    ∙ (λ i. is_inside_step σ.steps σ.tick s.time_max (small s.low_bin (omega (arith, h.bins_ordered, h.bin_high)) i) (small s.top_bin h.bin_high i))
    ∙ both (σ.steps == σ.tick / 2 ^ s.top_bin) _ (equal _ _ k.steps) (both (nat_lt (σ.steps * 2 ^ s.top_bin) s.time_max) _ (below _ _ k.running)
    (both (nat_le s.low_bin (low_zeros σ.tick)) (nat_lt (low_zeros σ.tick) s.top_bin) (up_to _ _ k.not_finest) (below _ _ k.not_whole)))

length-deep : (xs : List (BodyData × ℕ)) → length (flat_map deep_body_bytes xs) ≡ 56 * length xs
length-deep [] = refl
length-deep (x ∷ xs) = let more : length (flat_map deep_body_bytes (x ∷ xs)) ≡ 56 + length (flat_map deep_body_bytes xs) = length-append (deep_body_bytes x) (flat_map deep_body_bytes xs) in omega (arith, more, length-deep xs)

shallow_at : (most : ℕ) (ds : List ℕ) (i : ℕ) → AllByRecursion (λ depth. depth ≤ most) ds → i < length ds → get_or ds i 0 ≤ most
shallow_at most [] i h l = absurd (omega arith)
shallow_at most (d ∷ ds) zero h l = h.0
shallow_at most (d ∷ ds) (suc i) h l = shallow_at most ds i h.1 (le_of_suc-le-suc l)

not_deeper : (t : Bool) (a b : ℕ) → b ≤ a → (t && nat_lt a b) ≡ false
not_deeper true a b l = grind (arith, nat_tests)
not_deeper false a b l = refl

pub rest_back : (σ : StateData) (s : SetupData) → IsValid σ.bodies → All IsStorable σ.bodies → AreStorable σ → IsSetup s → IsRest s σ → Spell (rest_text σ s) σ s
rest_back σ s v b r h k =
    let bytes : List ℕ = rest_text σ s in
    let bs : List BodyData = σ.bodies in
    let ds : List ℕ = σ.depths in
    let pairs : length (zip bs ds) ≡ length bs = omega (arith, length-zip bs ds, k.each) in
    let t : IsText bytes 2 σ s = is_text 2 σ s (flat_map deep_body_bytes (zip bs ds)) (omega arith) v.few r h (length-deep (zip bs ds) ∙ ap (λ n. 56 * n) pairs) in
    let version : version_in bytes ≡ 2 = t.front.version in
    let count : count_in bytes ≡ length bs = t.front.count in
    let deepest : deepest_in bytes ≡ s.top_bin - low_zeros σ.tick = (λ i. t.front.top_bin i - low_zeros (t.front.tick i)) in
    let least : (i : ℕ) → i < length bs → get_or ds i 0 ≤ s.top_bin - low_zeros σ.tick = λ i l. shallow_at _ ds i k.shallow (omega (arith, l, k.each)) in
    let deep : (i : ℕ) (d : BodyData) → i < length bs → IsDeepBodyAt bytes (168 + 56 * i) (get_or bs i d) (get_or ds i 0) = λ i d l.
    deep_body bytes end_mark bs ds i d refl (omega (arith, l, pairs)) l (omega (arith, l, k.each)) (b i d l) (omega (arith, least i l, h.bin_high)) in
    let here : HasBodies bytes bs = λ i d l. subst (λ v. IsBodyAt bytes (168 + width_of v * i) (get_or bs i d)) (sym version) (deep i d l).body in
    let depth : (i : ℕ) → i < length bs → depth_in bytes i ≡ get_or ds i 0 = λ i l. ap (λ v. depth_at bytes (168 + width_of v * i)) version ∙ (deep i blank l).behind in
    record {
      faultless = faultless bytes (record {
        head = head_none bytes 2 σ s t refl (both (nat_le (length bs) 1048576) (not (length bs == 0)) (up_to _ _ v.few) (some (length bs) k.some));
        tick = rest_tick bytes σ s t.front h k;
        rules = rules_none bytes 2 σ s t.front h;
        softenings = softenings_none bytes 2 σ s t.front h;
        bodies = λ i l. no_body_fault bytes bs here v.ascending b (λ i l. not_deeper (version_in bytes == 2) (deepest_in bytes) (depth_in bytes i) (omega (arith, least i l, depth i l, deepest))) i (omega (arith, l, count));
      });
      bodies = set_back bytes bs count here v b;
      state = state_back bytes 2 σ s t.front (all_depths bytes version ∙ sym (fill_by_all (depth_in bytes) ds (count_in bytes) 0 (k.each ∙ sym count) (λ i l. sym (depth i (omega (arith, l, count))))));
      setup = setup_back bytes 2 σ s t.front h;
    }
  where
    depth_at : List ℕ → ℕ → ℕ
    depth_at bytes at = word32_at bytes (at + 52)

    some : (n : ℕ) → 1 ≤ n → not (n == 0) ≡ true
    some n l = grind (arith, nat_tests)

-- ---- both

pub reads_written : (σ : StateData) (s : SetupData) → IsValid σ.bodies → All IsStorable σ.bodies → AreStorable σ → IsSetup s → IsKept s σ → Spell (restart_text σ s) σ s
reads_written σ s v b r h (inl k) = subst (λ t. Spell t σ s) (without σ s (ap length k.depths)) (whole_back σ s v b r h k)
reads_written σ s v b r h (inr k) = subst (λ t. Spell t σ s) (with_some σ s (λ e. omega (arith, e, k.each, k.some))) (rest_back σ s v b r h k)
