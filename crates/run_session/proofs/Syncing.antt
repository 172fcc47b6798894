-- A synchronisation, part by part.
use Rattle.std.proofs.Common.{◌≡◌, ℕ, ◌+◌, ◌==◌, nat_lt, Bool, true, false, cond, not, ◌&&◌, ◌||◌, List, [], ◌∷◌, ◌++◌, length, Option, Some, None, refl, ap, sym, ◌∙◌, subst, arith}
use Rattle.std.proofs.lemmas.List.{length-append}
use Rattle.std.proofs.lemmas.Bool.{true≢false}
use Rattle.store_io.specs.Causes.{Rose}
use Rattle.store_io.specs.Stops.{Asks, Counted}
use Rattle.model_laws.proofs.Resumed.{never}
use Rattle.nbody_model.specs.States.{StateData}
use Rattle.nbody_model.specs.Session.{Plan, SessionData, Done, Stopped, is_running, is_stop, is_due, is_kept, with_snapshot, with_restart, synchronised, asked}
use Rattle.run_session.specs.Stages.{Basis, HasFiles, IsLeft, Matches, IsBrokenIn, GrowsTo, asks_at, kept_after, IsAnswer, IsLast, IsHalted, GoesOn, SyncEnds, SyncBreaks}
use Rattle.run_session.specs.Own.{Stands}
use Rattle.run_session.specs.Outputs.{session_texts, with_written}
use Rattle.nbody_model.specs.Passes.{PassesAll, Passes}
use Rattle.std.proofs.lemmas.Bool.Decides.{nat_tests}
use Rattle.run_session.proofs.FirstParts.{first_all, first_more, grows_none, grows_on, restart_grows}
use Rattle.run_session.specs.Worlds.{World}

-- ---- the definition by its parts

-- the question, where there is one
abbrev pub told_of : Bool → ℕ → SessionData → SessionData
told_of asks tick d = cond asks (record d { questions = d.questions ++ tick ∷ [] }) d

abbrev pub shown_at : Plan → Option ℕ → SessionData → SessionData
shown_at plan before d = with_snapshot (is_due plan before d.state.tick || not (is_running plan d.state)) d

abbrev pub told_at : Plan → Option ℕ → SessionData → SessionData
told_at plan before d = told_of (asks_at before (is_running plan d.state)) d.state.tick (shown_at plan before d)

abbrev pub saved_at : Plan → Option ℕ → Bool → SessionData → SessionData
saved_at plan before stops d = with_restart (is_kept plan d.state || stops) (told_at plan before d)

abbrev finished : Plan → Option ℕ → Bool → SessionData → SessionData
finished plan before stops d = record (saved_at plan before stops d) { states = d.states ++ (shown_at plan before d).state ∷ []; end = cond stops Stopped Done }

asks_same : (before : Option ℕ) (b : Bool) → elim before [ None ↦ false | Some w ↦ b ] ≡ asks_at before b
asks_same None b = refl
asks_same (Some w) b = refl

sync_is : (plan : Plan) (stop before : Option ℕ) (d : SessionData) (stops : Bool) → (asks_at before (is_running plan d.state) && is_stop stop d.state.tick) ≡ stops → synchronised plan stop before d ≡ finished plan before stops d
unfolding synchronised
sync_is plan stop None d stops e = λ i. finished plan None (e i) d
sync_is plan stop (Some w) d stops e = λ i. finished plan (Some w) (e i) d

-- ---- parts that keep what is in the files

told_files : (C : Basis) (passes : Passes) (asks : Bool) (tick : ℕ) (d : SessionData) (Z : World) → HasFiles C passes d Z → HasFiles C passes (told_of asks tick d) Z
told_files C passes true tick d Z h = record { events = h.events; found = h.found; files = h.files; closed = h.closed }
told_files C passes false tick d Z h = h

told_state : (asks : Bool) (tick : ℕ) (d : SessionData) → (told_of asks tick d).state ≡ d.state
told_state true tick d = refl
told_state false tick d = refl

finished_files : (C : Basis) (passes : Passes) (plan : Plan) (before : Option ℕ) (stops : Bool) (d : SessionData) (Z : World) → HasFiles C passes (saved_at plan before stops d) Z → HasFiles C passes (finished plan before stops d) Z
finished_files C passes plan before stops d Z h = record { events = h.events; found = h.found; files = h.files; closed = h.closed }

-- the same in worlds that differ in the stopper alone
pub files_same : (C : Basis) (passes : Passes) (d : SessionData) (A Z : World) → Z.files ≡ A.files → Z.closed ≡ A.closed → Z.state ≡ A.state → HasFiles C passes d A → HasFiles C passes d Z
files_same C passes d A Z f k s h = record {
  events = h.events;
  found = subst (λ z. PassesAll passes (asked d) C.start.state h.events z) (sym s) h.found;
  files = λ told. subst (λ W. Stands C.own (session_texts d h.events) (with_written C.params d.written C.start.files) W) (sym f) (h.files told);
  closed = λ told. k ∙ h.closed told;
}

-- ---- the question

left_less : (A : Option ℕ) (n : ℕ) (l m : Option ℕ) → IsLeft A n l → Counted false l m → IsLeft A (n + 1) m
left_less None n None None h k = tt
left_less None n None (Some m) h k = absurd k
left_less None n (Some l) m h k = absurd h
left_less (Some a) n None m h k = absurd h
left_less (Some a) n (Some l) None h k = absurd k
left_less (Some a) n (Some l) (Some m) h k = omega (arith, h, k)

left_last : (A : Option ℕ) (n : ℕ) (l m : Option ℕ) → IsLeft A n l → Counted true l m → IsLast A n
left_last None n l m h k = tt
left_last (Some a) n None m h k = absurd h
left_last (Some a) n (Some l) None h k = absurd k
left_last (Some a) n (Some l) (Some m) h k = omega (arith, h, k)

-- no question was left there, also before the snapshot
last_shown : (b : Bool) (e : SessionData) (A l m : Option ℕ) → IsLeft A (length (with_snapshot b e).questions) l → Counted true l m → IsLast A (length e.questions)
last_shown true e A l m h k = left_last A (length e.questions) l m h k
last_shown false e A l m h k = left_last A (length e.questions) l m h k

asked_length : (asks : Bool) (tick : ℕ) (d : SessionData) → length (told_of asks tick d).questions ≡ cond asks (length d.questions + 1) (length d.questions)
asked_length true tick d = length-append d.questions (tick ∷ [])
asked_length false tick d = refl

answered_no : (asks : Bool) (tick : ℕ) (d : SessionData) (A : World) (y z : ℕ) (l m : Option ℕ) → IsAnswer asks false y z l m → y ≡ A.yes → IsLeft A.left (length d.questions) l → (z ≡ A.yes) × IsLeft A.left (length (told_of asks tick d).questions) m
answered_no true tick d A y z l m a e h = (a.yes ∙ e, subst (λ n. IsLeft A.left n m) (sym (asked_length true tick d)) (left_less A.left (length d.questions) l m h a.counted))
answered_no false tick d A y z l m a e h = (a.1.0 ∙ e, subst (λ x. IsLeft A.left (length d.questions) x) (sym a.1.1) h)

answered_yes : (asks : Bool) (y z : ℕ) (l m : Option ℕ) → IsAnswer asks true y z l m → (asks ≡ true) × Asks true y z l m
answered_yes true y z l m a = (refl, a)
answered_yes false y z l m a = absurd (true≢false a.0)

same_tick : (n : ℕ) → (n == n) ≡ true
same_tick n = grind (arith, nat_tests)

-- ---- the whole

-- it goes on: the snapshot stands in A, and the restart file after it in Z
module _ (C : Basis) (passes : Passes) (before : Option ℕ) (d : SessionData) (shown τ : StateData) (A Z : World) where
  abbrev asks : Bool
  asks = asks_at before (is_running C.plan d.state)

  abbrev told : SessionData
  told = told_at C.plan before d

  pub goes_on : Matches C passes (shown_at C.plan before d) shown A → IsAnswer asks false A.yes Z.yes A.left Z.left → Z.faults ≡ A.faults → Z.last ≡ A.last →
      (with_restart (is_kept C.plan d.state || false) told).state ≡ τ → HasFiles C passes (with_restart (is_kept C.plan d.state || false) told) Z →
      (stop : Option ℕ) → is_stop stop d.state.tick ≡ false → GoesOn C passes before d τ Z stop
  goes_on m a f l same h stop e =
      let stops : (asks && is_stop stop d.state.tick) ≡ false = ap (λ b. asks && b) e ∙ never asks in
      let is = sym (sync_is C.plan stop before d false stops) in
      let quiet = answered_no asks d.state.tick (shown_at C.plan before d) C.start A.yes Z.yes A.left Z.left a m.quiet.yes m.quiet.left in
      let all : Matches C passes (finished C.plan before false d) τ Z = record {
        state = same;
        files = finished_files C passes C.plan before false d Z h;
        quiet = record { faults = f ∙ m.quiet.faults; last = l ∙ m.quiet.last; yes = quiet.0; left = restart_left (is_kept C.plan d.state || false) told C.start.left Z.left quiet.1 };
      } in
      record { matches = subst (λ e. Matches C passes e τ Z) is all; end = subst (λ (e : SessionData). e.end ≡ Done) is refl }
    where
      restart_left : (b : Bool) (e : SessionData) (l m : Option ℕ) → IsLeft l (length e.questions) m → IsLeft l (length (with_restart b e).questions) m
      restart_left true e l m h = h
      restart_left false e l m h = h

  -- it is stopped
  pub halts : Matches C passes (shown_at C.plan before d) shown A → IsAnswer asks true A.yes Z.yes A.left Z.left → Z.faults ≡ A.faults → Z.last ≡ A.last →
      (with_restart (is_kept C.plan d.state || true) told).state ≡ τ → HasFiles C passes (with_restart (is_kept C.plan d.state || true) told) Z → IsHalted C passes before d τ Z
  halts m a f l same h =
      let yes = answered_yes asks A.yes Z.yes A.left Z.left a in
      let stops : (asks && is_stop (Some d.state.tick) d.state.tick) ≡ true = (λ i. yes.0 i && same_tick d.state.tick i) in
      let is = sym (sync_is C.plan (Some d.state.tick) before d true stops) in
      record {
        state = subst (λ (e : SessionData). e.state ≡ τ) is same;
        end = subst (λ (e : SessionData). e.end ≡ Stopped) is refl;
        files = subst (λ e. HasFiles C passes e Z) is (finished_files C passes C.plan before true d Z h);
        faults = f ∙ m.quiet.faults;
        last = l ∙ m.quiet.last;
        yes = subst (λ y. Rose y Z.yes) m.quiet.yes yes.1.yes;
        asked = yes.0;
        question = last_shown (is_due C.plan before d.state.tick || not (is_running C.plan d.state)) d C.start.left A.left Z.left m.quiet.left yes.1.counted;
      }

-- ---- broken off

told_grows : (asks : Bool) (tick : ℕ) (d : SessionData) → GrowsTo d (told_of asks tick d)
told_grows true tick d = record { written = first_all d.written; trail = first_all d.trail; questions = first_more d.questions (tick ∷ []) }
told_grows false tick d = grows_none d

end_grows : (plan : Plan) (before : Option ℕ) (stops : Bool) (d : SessionData) → GrowsTo (saved_at plan before stops d) (finished plan before stops d)
end_grows plan before stops d = let g = grows_none (saved_at plan before stops d) in record { written = g.written; trail = g.trail; questions = g.questions }

pub broken_on : (C : Basis) (passes : Passes) (d e : SessionData) (fault : Option (List ℕ)) (Z : World) → GrowsTo d e → IsBrokenIn C passes d fault Z → IsBrokenIn C passes e fault Z
broken_on C passes d e fault Z g h = record { going = λ f k. h.going f (grows_on d e f g k) }

module _ (C : Basis) (passes : Passes) (before : Option ℕ) (d : SessionData) (fault : Option (List ℕ)) (Z : World) where
  -- in the snapshot
  pub breaks_showing : Z.yes ≡ C.start.yes → IsBrokenIn C passes (shown_at C.plan before d) fault Z → SyncBreaks C passes before d false fault Z
  breaks_showing y h =
      let stops : (asks_at before (is_running C.plan d.state) && false) ≡ false = never (asks_at before (is_running C.plan d.state)) in
      let told = told_at C.plan before d in
      let grows : GrowsTo (shown_at C.plan before d) (finished C.plan before false d) =
      grows_on (shown_at C.plan before d) (saved_at C.plan before false d) (finished C.plan before false d)
      (grows_on (shown_at C.plan before d) told (saved_at C.plan before false d) (told_grows (asks_at before (is_running C.plan d.state)) d.state.tick (shown_at C.plan before d)) (restart_grows (is_kept C.plan d.state || false) told))
      (end_grows C.plan before false d) in
      record {
        answered = y;
        broken = subst (λ e. IsBrokenIn C passes e fault Z) (sym (sync_is C.plan None before d false stops)) (broken_on C passes (shown_at C.plan before d) (finished C.plan before false d) fault Z grows h);
      }

  -- in the restart file
  pub breaks_saving : (shown : StateData) (A : World) (answer : Bool) → Matches C passes (shown_at C.plan before d) shown A → IsAnswer (asks_at before (is_running C.plan d.state)) answer A.yes Z.yes A.left Z.left →
      IsBrokenIn C passes (saved_at C.plan before answer d) fault Z → SyncBreaks C passes before d answer fault Z
  breaks_saving shown A false m a h =
      let stops : (asks_at before (is_running C.plan d.state) && false) ≡ false = never (asks_at before (is_running C.plan d.state)) in
      let quiet = answered_no (asks_at before (is_running C.plan d.state)) d.state.tick (shown_at C.plan before d) C.start A.yes Z.yes A.left Z.left a m.quiet.yes m.quiet.left in
      record {
        answered = quiet.0;
        broken = subst (λ e. IsBrokenIn C passes e fault Z) (sym (sync_is C.plan None before d false stops)) (broken_on C passes (saved_at C.plan before false d) (finished C.plan before false d) fault Z (end_grows C.plan before false d) h);
      }
  breaks_saving shown A true m a h =
      let yes = answered_yes (asks_at before (is_running C.plan d.state)) A.yes Z.yes A.left Z.left a in
      let stops : (asks_at before (is_running C.plan d.state) && is_stop (Some d.state.tick) d.state.tick) ≡ true = (λ i. yes.0 i && same_tick d.state.tick i) in
      record {
        answered = (
          subst (λ y. Rose y Z.yes) m.quiet.yes yes.1.yes,
          yes.0,
          last_shown (is_due C.plan before d.state.tick || not (is_running C.plan d.state)) d C.start.left A.left Z.left m.quiet.left yes.1.counted,
        );
        broken = subst (λ e. IsBrokenIn C passes e fault Z) (sym (sync_is C.plan (Some d.state.tick) before d true stops)) (broken_on C passes (saved_at C.plan before true d) (finished C.plan before true d) fault Z (end_grows C.plan before true d) h);
      }

-- ---- what the tests of the code are

pub running_is : (plan : Plan) (d : SessionData) (σ : StateData) (time : ℕ) (running : Bool) → d.state ≡ σ → plan.rules.gravity.setup.time_max ≡ time → running ≡ nat_lt σ.tick time → running ≡ is_running plan d.state
running_is plan d σ time running s t r = r ∙ sym (λ i. nat_lt (s i).tick (t i))

pub due_is : (plan : Plan) (before : Option ℕ) (d : SessionData) (σ : StateData) (due running : Bool) → d.state ≡ σ → running ≡ is_running plan d.state → due ≡ (is_due plan before σ.tick || not running) → with_snapshot due d ≡ shown_at plan before d
due_is plan before d σ due running s r e = ap (λ b. with_snapshot b d) (e ∙ sym (λ i. is_due plan before (s i).tick || not (sym r i)))

pub kept_is : (plan : Plan) (d : SessionData) (σ : StateData) (kept running : Bool) → d.state ≡ σ → running ≡ is_running plan d.state → kept ≡ kept_after plan.restart_every σ.steps running → kept ≡ is_kept plan d.state
kept_is plan d σ kept running s r e = e ∙ sym (λ i. kept_after plan.restart_every (s i).steps (sym r i))

pub told_state_at : (plan : Plan) (before : Option ℕ) (d : SessionData) (shown : StateData) → (shown_at plan before d).state ≡ shown → (told_at plan before d).state ≡ shown
told_state_at plan before d shown s = told_state (asks_at before (is_running plan d.state)) d.state.tick (shown_at plan before d) ∙ s

pub told_files_at : (C : Basis) (passes : Passes) (before : Option ℕ) (d : SessionData) (A : World) → HasFiles C passes (shown_at C.plan before d) A → HasFiles C passes (told_at C.plan before d) A
told_files_at C passes before d A h = told_files C passes (asks_at before (is_running C.plan d.state)) d.state.tick (shown_at C.plan before d) A h

pub saves_is : (plan : Plan) (before : Option ℕ) (d : SessionData) (saves kept stops : Bool) → saves ≡ (kept || stops) → kept ≡ is_kept plan d.state → with_restart saves (told_at plan before d) ≡ saved_at plan before stops d
saves_is plan before d saves kept stops e k = ap (λ b. with_restart b (told_at plan before d)) (e ∙ ap (λ b. b || stops) k)

pub answer_is : (plan : Plan) (before : Option ℕ) (d : SessionData) (running answer : Bool) (y z : ℕ) (l m : Option ℕ) → running ≡ is_running plan d.state → IsAnswer (asks_at before running) answer y z l m → IsAnswer (asks_at before (is_running plan d.state)) answer y z l m
answer_is plan before d running answer y z l m e a = subst (λ b. IsAnswer (asks_at before b) answer y z l m) e a

-- how it ends, by the answer
pub sync_ends : (C : Basis) (passes : Passes) (before : Option ℕ) (d : SessionData) (shown τ : StateData) (A Z : World) (stops : Bool) →
    Matches C passes (shown_at C.plan before d) shown A → IsAnswer (asks_at before (is_running C.plan d.state)) stops A.yes Z.yes A.left Z.left → Z.faults ≡ A.faults → Z.last ≡ A.last →
    (saved_at C.plan before stops d).state ≡ τ → HasFiles C passes (saved_at C.plan before stops d) Z → SyncEnds C passes before d τ stops Z
sync_ends C passes before d shown τ A Z false m a f l s h = goes_on C passes before d shown τ A Z m a f l s h
sync_ends C passes before d shown τ A Z true m a f l s h = halts C passes before d shown τ A Z m a f l s h

-- the question that is asked there is one of the session
pub sync_asks : (plan : Plan) (before : Option ℕ) (d : SessionData) → asks_at before (is_running plan d.state) ≡ true → (synchronised plan None before d).questions ≡ d.questions ++ d.state.tick ∷ []
sync_asks plan before d e =
    ap (λ (x : SessionData). x.questions) (sync_is plan None before d false (never (asks_at before (is_running plan d.state)))) ∙
    restart_questions (is_kept plan d.state || false) (told_at plan before d) ∙
    (λ i. (told_of (e i) d.state.tick (shown_at plan before d)).questions) ∙
    ap (λ xs. xs ++ d.state.tick ∷ []) (snapshot_questions (is_due plan before d.state.tick || not (is_running plan d.state)) d)
  where
    restart_questions : (b : Bool) (x : SessionData) → (with_restart b x).questions ≡ x.questions
    restart_questions true x = refl
    restart_questions false x = refl

    snapshot_questions : (b : Bool) (x : SessionData) → (with_snapshot b x).questions ≡ x.questions
    snapshot_questions true x = refl
    snapshot_questions false x = refl
