-- The base steps of a run, taken back one by one.
use Rattle.std.proofs.Common.{◌≡◌, ◌≤◌, ◌<◌, ℕ, zero, suc, ◌+◌, ◌-◌, ◌*◌, ◌/◌, ◌^◌, Option, List, [], ◌∷◌, ◌++◌, length, take, drop, get_or, refl, ap, sym, ◌∙◌, subst, arith}
use Rattle.std.specs.List.{AllByRecursion, flat_map}
use Rattle.std.proofs.lemmas.Grind.{flat_map-append}
use Rattle.std.proofs.lemmas.List.{take_more, drop_more}
use Rattle.std.proofs.Math.Seq.{take-length}
use Rattle.nbody_model.specs.Bodies.{BodyData, only}
use Rattle.nbody_model.specs.Fields.{FieldData}
use Rattle.model_laws.specs.Nests.{ids_of}
use Rattle.kick_drift.specs.Parts.{ids_at}
use Rattle.step_engine.specs.Told.{AreForcesAmong}
use Rattle.std.specs.Prelude.{IfSome}
use Rattle.std.proofs.lemmas.Nat.{pow_pos, mul-le, div-add-mod'}
use Rattle.nbody_model.specs.Setups.{SetupData, IsSetup, last_tick}
use Rattle.nbody_model.specs.Tables.{Gravity, Rules, ExpansionData, Reaches}
use Rattle.step_engine.specs.Stands.{IsTimely}
use Rattle.step_engine.proofs.Times.{twice, whole_most, spans_before}
use Rattle.rewind_laws.specs.Back.{StepParts, Alone, AreParts, Reached, ◌>>-◌, back, back_steps, base_steps}
use Rattle.rewind.specs.declared.errors.RewindErr.{RewindErr}
use Rattle.rewind.specs.Kept.{by_end}
use Rattle.rewind.specs.Rewinding.{IsRefusedBy, IsLeft, IsUndone, IsNotUndone, AreOfRun, IsRewound, IsRefusedRun}
use Rattle.rewind.proofs.Undone.{fails_on, refused_as}

-- the steps from one of them on were taken back, and the lists of those before it are left
pub record StepsUndone (r : Rules) (all : List ℕ) (steps : List StepParts) (B : List BodyData) (k : ℕ) (lists : List (List ℕ)) (C : List BodyData) (left : ℕ) : Type 0 where
  pub reached : back_steps r all k (drop k steps) B ≡ Reached C
  pub are : take left lists ≡ flat_map by_end (take k steps)
  pub within : left ≤ length lists

drop_here : (steps : List StepParts) (k : ℕ) → k < length steps → drop k steps ≡ get_or steps k Alone ∷ drop (k + 1) steps
drop_here steps k l = drop_more steps k Alone l

pub each_at : (P : StepParts → Type 0) (steps : List StepParts) (k : ℕ) → k < length steps → AllByRecursion P steps → P (get_or steps k Alone)
each_at P [] k l a = absurd (omega (arith, l))
each_at P (s ∷ steps) zero l a = a.0
each_at P (s ∷ steps) (suc k) l a = each_at P steps k (omega (arith, l)) a.1

nothing : (xs : List (List ℕ)) → xs ++ [] ≡ xs
nothing [] = refl
nothing (x ∷ xs) = ap (λ ys. x ∷ ys) (nothing xs)

pub one_more : (steps : List StepParts) (parts : StepParts) → flat_map by_end (steps ++ parts ∷ []) ≡ flat_map by_end steps ++ by_end parts
one_more steps parts = flat_map-append by_end steps (parts ∷ []) ∙ ap (λ xs. flat_map by_end steps ++ xs) (nothing (by_end parts))

-- the step before it is left
abbrev pub next_left : (low bin : ℕ) (P : List ℕ) (steps : List StepParts) (k : ℕ) (lists : List (List ℕ)) (left : ℕ) → k < length steps → AllByRecursion (AreParts low bin P) steps → take left lists ≡ flat_map by_end (take (k + 1) steps) → left ≤ length lists → IsLeft low bin P lists left
next_left low bin P steps k lists left l a e w =
    record {
      parts = get_or steps k Alone;
      before = flat_map by_end (take k steps);
      good = each_at (AreParts low bin P) steps k l a;
      are = e ∙ ap (flat_map by_end) (take_more steps k Alone l) ∙ one_more (take k steps) (get_or steps k Alone);
      within = w;
    }

-- and is taken back
pub step_undone : (r : Rules) (all : List ℕ) (steps : List StepParts) (B : List BodyData) (k : ℕ) (lists : List (List ℕ)) (C D : List BodyData) (left rest : ℕ) → (l : k < length steps) → (a : AllByRecursion (AreParts r.gravity.setup.low_bin r.gravity.setup.top_bin all) steps) →
    StepsUndone r all steps B (k + 1) lists C left → IsUndone r r.gravity.setup.top_bin all (k * 2 ^ r.gravity.setup.top_bin) lists C left D rest → StepsUndone r all steps B k lists D rest
step_undone r all steps B k lists C D left rest l a u f =
    let top = r.gravity.setup.top_bin in
    let done = f (next_left r.gravity.setup.low_bin top all steps k lists left l a u.are u.within) in
    record {
      reached = ap (λ xs. back_steps r all k xs B) (drop_here steps k l) ∙ ap (λ x. x >>- (λ C. back r top (get_or steps k Alone) all (k * 2 ^ top) C)) u.reached ∙ done.reached;
      are = done.are;
      within = done.within;
    }

pub step_fails : (r : Rules) (all : List ℕ) (steps : List StepParts) (B : List BodyData) (k : ℕ) (lists : List (List ℕ)) (C : List BodyData) (left : ℕ) (e : RewindErr) → (l : k < length steps) → (a : AllByRecursion (AreParts r.gravity.setup.low_bin r.gravity.setup.top_bin all) steps) →
    StepsUndone r all steps B (k + 1) lists C left → IsNotUndone r r.gravity.setup.top_bin all (k * 2 ^ r.gravity.setup.top_bin) lists C left e → IsRefusedBy (back_steps r all k (drop k steps) B) e
step_fails r all steps B k lists C left e l a u f =
    let top = r.gravity.setup.top_bin in
    refused_as _ _ e (sym (ap (λ xs. back_steps r all k xs B) (drop_here steps k l) ∙ ap (λ x. x >>- (λ C. back r top (get_or steps k Alone) all (k * 2 ^ top) C)) u.reached)) (f (next_left r.gravity.setup.low_bin top all steps k lists left l a u.are u.within))

-- where a later step fails, all of them fail
pub all_fail : (r : Rules) (all : List ℕ) (steps : List StepParts) (B : List BodyData) (k : ℕ) (e : RewindErr) → k ≤ length steps → IsRefusedBy (back_steps r all k (drop k steps) B) e → IsRefusedBy (back_steps r all 0 steps B) e
all_fail r all steps B zero e l h = h
all_fail r all steps B (suc k) e l h =
    let top = r.gravity.setup.top_bin in
    let up : suc k ≡ k + 1 = omega arith in
    let lt : k < length steps = omega (arith, l) in
    let later : IsRefusedBy (back_steps r all (k + 1) (drop (k + 1) steps) B) e = subst (λ n. IsRefusedBy (back_steps r all n (drop n steps) B) e) up h in
    all_fail r all steps B k e (omega (arith, l))
    (refused_as _ _ e (sym (ap (λ xs. back_steps r all k xs B) (drop_here steps k lt))) (fails_on (back_steps r all (k + 1) (drop (k + 1) steps) B) (λ C. back r top (get_or steps k Alone) all (k * 2 ^ top) C) e later))

-- ---- the ticks

-- base steps end where the run ends
quotient_fits : (a d : ℕ) → 1 ≤ d → a / d * d ≤ a
quotient_fits a d some = omega (arith, div-add-mod' a d)

pub steps_reach : (s : SetupData) → base_steps s * 2 ^ s.top_bin ≤ last_tick s
steps_reach s = quotient_fits (last_tick s) (2 ^ s.top_bin) (pow_pos s.top_bin)

pub last_early : (s : SetupData) → IsSetup s → last_tick s ≤ 2 ^ 41
last_early s h =
    let some : 1 ≤ 2 ^ s.top_bin = pow_pos s.top_bin in
    let fits = quotient_fits (s.time_max + 2 ^ s.top_bin - 1) (2 ^ s.top_bin) some in
    let wide : 2 ^ s.top_bin ≤ 2 ^ 20 = whole_most s.top_bin h.bin_high in
    omega (arith, fits, wide, h.time_high)

pub timely_step : (e : Option ExpansionData) (s : SetupData) (k : ℕ) → IsSetup s → k < base_steps s → IfSome e (λ x. Reaches x (last_tick s)) → IsTimely e s.top_bin (k * 2 ^ s.top_bin) 0
timely_step e s k h lt spans =
    let wide : 2 ^ s.top_bin ≤ 2 ^ 20 = whole_most s.top_bin h.bin_high in
    let n : s.top_bin + 1 - 1 ≡ s.top_bin = omega arith in
    let wider : 2 ^ (s.top_bin + 1) ≡ 2 ^ s.top_bin + 2 ^ s.top_bin = twice (s.top_bin + 1) (omega arith) ∙ ap (λ k. 2 ^ k + 2 ^ k) n in
    let more : (k + 1) * 2 ^ s.top_bin ≤ base_steps s * 2 ^ s.top_bin = mul-le (k + 1) (2 ^ s.top_bin) (base_steps s) (2 ^ s.top_bin) (omega (arith, lt)) (omega arith) in
    let end : k * 2 ^ s.top_bin + 2 ^ s.top_bin ≤ last_tick s = omega (arith, more, steps_reach s) in
    record {
      some = omega (arith, h.bin_low, h.bins_ordered);
      short = h.bin_high;
      early = omega (arith, end, last_early s h);
      spans = spans_before e (k * 2 ^ s.top_bin + 2 ^ s.top_bin) (last_tick s) end spans;
      room = omega (arith, wider, wide);
    }

-- ---- all base steps

-- so many base steps were taken back, from the bodies B to the bodies C; these forces are known among them
pub record SoFar (r : Rules) (g : Gravity) (lists : List (List ℕ)) (B : List BodyData) (part : List ℕ) (done : ℕ) (C : List BodyData) (known : FieldData) (left : ℕ) : Type 0 where
  pub same : g ≡ r.gravity
  pub ids : ids_of C ≡ ids_of B
  pub among : AreForcesAmong r.gravity (only C (ids_at B part)) known
  pub undone : (a : AreOfRun r.gravity.setup B lists) → StepsUndone r (ids_of B) a.steps B (base_steps r.gravity.setup - done) lists C left

take_whole : {X : Type 0} (xs : List X) (n : ℕ) → length xs ≡ n → take n xs ≡ xs
take_whole xs n e = ap (λ k. take k xs) (sym e) ∙ take-length xs

drop_whole : {X : Type 0} (xs : List X) (n : ℕ) → length xs ≡ n → drop n xs ≡ []
drop_whole [] n e = ap (λ k. drop k []) (sym e)
drop_whole (x ∷ xs) n e = ap (λ k. drop k (x ∷ xs)) (sym e) ∙ drop_whole xs (length xs) refl

pub begins : (r : Rules) (lists : List (List ℕ)) (B : List BodyData) (part : List ℕ) (known : FieldData) (left : ℕ) → AreForcesAmong r.gravity (only B (ids_at B part)) known → left ≡ length lists → SoFar r r.gravity lists B part 0 B known left
begins r lists B part known left k e =
    record {
      same = refl;
      ids = refl;
      among = k;
      undone = λ a.
          let n : base_steps r.gravity.setup - 0 ≡ base_steps r.gravity.setup = omega arith in
          let all : length a.steps ≡ base_steps r.gravity.setup - 0 = a.good.all ∙ sym n in
          record {
            reached = ap (λ xs. back_steps r (ids_of B) (base_steps r.gravity.setup - 0) xs B) (drop_whole a.steps (base_steps r.gravity.setup - 0) all);
            are = take_whole lists left (sym e) ∙ a.are ∙ ap (flat_map by_end) (sym (take_whole a.steps (base_steps r.gravity.setup - 0) all));
            within = omega (arith, e);
          };
    }

here : (n done : ℕ) → done < n → n - done ≡ n - (done + 1) + 1
here n done l = omega (arith, l)

pub next_is_left : (r : Rules) (g : Gravity) (lists : List (List ℕ)) (B : List BodyData) (part : List ℕ) (done : ℕ) (C : List BodyData) (known : FieldData) (left : ℕ) → done < base_steps r.gravity.setup → SoFar r g lists B part done C known left → AreOfRun r.gravity.setup B lists →
    IsLeft r.gravity.setup.low_bin r.gravity.setup.top_bin (ids_of B) lists left
next_is_left r g lists B part done C known left l f a =
    let n = base_steps r.gravity.setup in
    let u = f.undone a in
    next_left r.gravity.setup.low_bin r.gravity.setup.top_bin (ids_of B) a.steps (n - (done + 1)) lists left (omega (arith, l, a.good.all)) a.good.each (u.are ∙ ap (λ k. flat_map by_end (take k a.steps)) (here n done l)) u.within

at_next : (r : Rules) (all : List ℕ) (steps : List StepParts) (B : List BodyData) (lists : List (List ℕ)) (C : List BodyData) (left n done : ℕ) → done < n → StepsUndone r all steps B (n - done) lists C left → StepsUndone r all steps B (n - (done + 1) + 1) lists C left
at_next r all steps B lists C left n done l u = subst (λ k. StepsUndone r all steps B k lists C left) (here n done l) u

pub goes_on : (r : Rules) (g g' : Gravity) (lists : List (List ℕ)) (B : List BodyData) (part : List ℕ) (done : ℕ) (C D : List BodyData) (known known' : FieldData) (left rest : ℕ) → done < base_steps r.gravity.setup → SoFar r g lists B part done C known left → g' ≡ g → ids_of D ≡ ids_of C →
    AreForcesAmong r.gravity (only D (ids_at B part)) known' → IsUndone r r.gravity.setup.top_bin (ids_of B) ((base_steps r.gravity.setup - (done + 1)) * 2 ^ r.gravity.setup.top_bin) lists C left D rest → SoFar r g' lists B part (done + 1) D known' rest
goes_on r g g' lists B part done C D known known' left rest l f same ids k u =
    let n = base_steps r.gravity.setup in
    record {
      same = same ∙ f.same;
      ids = ids ∙ f.ids;
      among = k;
      undone = λ a. step_undone r (ids_of B) a.steps B (n - (done + 1)) lists C D left rest (omega (arith, l, a.good.all)) a.good.each (at_next r (ids_of B) a.steps B lists C left n done l (f.undone a)) u;
    }

pub stops : (r : Rules) (g : Gravity) (lists : List (List ℕ)) (B : List BodyData) (part : List ℕ) (done : ℕ) (C : List BodyData) (known : FieldData) (left : ℕ) (e : RewindErr) → done < base_steps r.gravity.setup → SoFar r g lists B part done C known left →
    IsNotUndone r r.gravity.setup.top_bin (ids_of B) ((base_steps r.gravity.setup - (done + 1)) * 2 ^ r.gravity.setup.top_bin) lists C left e → IsRefusedRun r lists B e
stops r g lists B part done C known left e l f u a =
    let n = base_steps r.gravity.setup in
    let k : n - (done + 1) < length a.steps = omega (arith, l, a.good.all) in
    all_fail r (ids_of B) a.steps B (n - (done + 1)) e (omega (arith, k)) (step_fails r (ids_of B) a.steps B (n - (done + 1)) lists C left e k a.good.each (at_next r (ids_of B) a.steps B lists C left n done l (f.undone a)) u)

pub ends : (r : Rules) (g : Gravity) (lists : List (List ℕ)) (B : List BodyData) (part : List ℕ) (done : ℕ) (C : List BodyData) (known : FieldData) (left : ℕ) → base_steps r.gravity.setup ≤ done → SoFar r g lists B part done C known left → IsRewound r lists B C
ends r g lists B part done C known left l f a =
    let none : base_steps r.gravity.setup - done ≡ 0 = omega (arith, l) in
    ap (λ k. back_steps r (ids_of B) k (drop k a.steps) B) (sym none) ∙ (f.undone a).reached
