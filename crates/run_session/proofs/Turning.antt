-- A session after a base step, by how that step ended.
use Rattle.std.proofs.Common.{◌==◌, ◌≡◌, ◌<◌, ◌≤◌, ℕ, suc, ◌+◌, ◌-◌, ◌*◌, ◌^◌, Bool, true, false, cond, not, ◌&&◌, IsTrue, List, [], ◌∷◌, ◌++◌, length, Option, Some, None, refl, ap, sym, ◌∙◌, subst, arith, append_assoc}
use Rattle.std.proofs.lemmas.Bool.{true≢false, false≢true, ltb-true, eqb-true}
use Rattle.std.proofs.lemmas.List.{length-append}
use Rattle.store_io.specs.Files.{Files}
use Rattle.store_io.specs.Causes.{Rose}
use Rattle.nbody_model.specs.Evolve.{Happening, Progress, Refusal, rests_of, is_empty}
use Rattle.nbody_model.specs.States.{StateData}
use Rattle.nbody_model.specs.Session.{Plan, SessionData, End, Stopped, OutOfRange, Restart, raised64, kept, asked, is_running, advanced, with_trail, with_restart, base_step, synchronised, session_from, is_done, is_stop}
use Rattle.nbody_model.specs.Passes.{Passes}
use Rattle.param_file.specs.Settings.{ParamsData}
use Rattle.run_session.specs.Causes.{IsAmong}
use Rattle.run_session.specs.Own.{Own, OwnTexts, Stands, StandsPart, followed, own_names}
use Rattle.run_session.specs.Outputs.{HoldsParts, file_name, with_written, session_texts}
use Rattle.run_session.specs.Broken.{IsGoing, begun_texts}
use Rattle.run_session.specs.RunEnds.{IsAnsweredYes}
use Rattle.run_session.specs.Stages.{Basis, IsFirst, GrowsTo, HasFiles, IsQuietly, IsLeft, IsLastOf, IsLogged, HasCome, IsAtSync, HasStopped, IsBrokenIn, IsWhole, IsAtRest, IsOut}
use Rattle.run_session.proofs.Turns.{is_over, goes_on, synced, refused, turn_going, turn_refused, turn_resting}
use Rattle.run_session.proofs.FirstParts.{grows_none, grows_on, restart_grows, session_grows, synced_grows, goes_on_grows}
use Rattle.step_engine.specs.Ends.{trail_of}
use Rattle.model_laws.specs.Resumed.{SameTimes}
use Rattle.run_session.specs.Stages.{HasEnded, RestsIn, WritesFile, WritesPart, Matches, GoesOn, IsHalted, IsLast, IsLater, IsFrom, SyncEnds, SyncBreaks, asks_at, onwards}
use Rattle.run_session.specs.Turned.{Comes, ComesToSync, HasBroken}
use Rattle.run_session.proofs.Matching.{restart_files, restart_breaks}
use Rattle.run_session.proofs.Syncing.{broken_on, sync_asks}
use Rattle.run_session.proofs.Breaking.{breaks_here, breaks_part}
use Rattle.run_session.proofs.Pauses.{base_rests, pause_rests, pause_grows}
use Rattle.run_session.proofs.Questions.{EndsIn, left_on, answered_yes, last_question}
use Rattle.run_session.proofs.ToldTexts.{passes_length, passes_more, stands_logged, parts_logged}
use Rattle.run_session.specs.Worlds.{World}

-- ---- the files after a step

-- what was kept of a step was put behind the open files
abbrev pub Appends : Basis → OwnTexts → World → World → Type 0
Appends C log A Z = (t : OwnTexts) (W : Files) → IsTrue C.told → Stands C.own t W A.files → Stands C.own (followed t log) W Z.files

-- or a first part of it
abbrev pub AppendsPart : Basis → OwnTexts → World → World → Type 0
AppendsPart C log A Z = (t : OwnTexts) (W : Files) → IsTrue C.told → Stands C.own t W A.files → StandsPart C.own (followed t log) W Z.files

module _ (C : Basis) (passes : Passes) (d : SessionData) (trail : List Happening) (log : OwnTexts) (A Z : World) where
  pub files_after : HasFiles C passes d A → IsLogged C.own passes trail A.state Z.state log → Z.closed ≡ A.closed → Appends C log A Z → HasFiles C passes (with_trail trail d) Z
  files_after h l k a = record {
    events = h.events ++ l.events;
    found = passes_more passes d trail C.start.state h.events A.state l.events Z.state h.found l.found;
    files = λ told. stands_logged C.own d trail h.events l.events log (with_written C.params d.written C.start.files) Z.files (passes_length passes (asked d) C.start.state h.events A.state h.found) l.same
        (a (session_texts d h.events) (with_written C.params d.written C.start.files) told (h.files told));
    closed = λ told. k ∙ h.closed told;
  }

  pub breaks_after : (fault : Option (List ℕ)) → IsAmong (own_names C.own) fault → HasFiles C passes d A → IsLogged C.own passes trail A.state Z.state log → Z.closed ≡ A.closed → AppendsPart C log A Z → IsBrokenIn C passes (with_trail trail d) fault Z
  breaks_after fault b h l k a = breaks_part C passes (with_trail trail d) fault Z (h.events ++ l.events) Z.state b
      (passes_more passes d trail C.start.state h.events A.state l.events Z.state h.found l.found)
      (λ told. parts_logged C.own d trail h.events l.events log (with_written C.params d.written C.start.files) Z.files (passes_length passes (asked d) C.start.state h.events A.state h.found) l.same
      (a (session_texts d h.events) (with_written C.params d.written C.start.files) told (h.files told)))
      (λ told. k ∙ h.closed told)

-- of sessions in which the same happened and the same was written
pub files_as : (C : Basis) (passes : Passes) (d : SessionData) (τ : StateData) (states : List StateData) (Z : World) (why : End) → HasFiles C passes d Z → HasFiles C passes (record d { state = τ; states = states; end = why }) Z
files_as C passes d τ states Z why h = record { events = h.events; found = h.found; files = h.files; closed = h.closed }

-- ---- a step is left

-- base steps are left where the session isn't over
some_left : (plan : Plan) (σ : StateData) (n : ℕ) → is_over plan σ ≡ false → plan.rules.gravity.setup.time_max ≤ σ.tick + n → (is_empty σ.depths ≡ false → 1 ≤ n) → 1 ≤ n
some_left plan σ n over enough some = by (is_empty σ.depths) (is_running plan σ) refl refl
  where
    by : (e r : Bool) → is_empty σ.depths ≡ e → is_running plan σ ≡ r → 1 ≤ n
    by false r x y = some x
    by true true x y = let h = ltb-true σ.tick plan.rules.gravity.setup.time_max y in omega (arith, h, enough)
    by true false x y = absurd (false≢true (sym over ∙ (λ i. x i && not (y i))))

-- the session so far, its state in words
abbrev in_state : StateData → SessionData → SessionData
in_state σ d = record d { state = σ }

module _ (C : Basis) (passes : Passes) (sessions : Option ℕ → SessionData) (σ : StateData) (known : Bool) (A : World) (stop : Option ℕ) (h : HasCome C passes sessions σ known A stop) where
  pub here : SessionData
  here = in_state σ h.d

  pub come_same : h.d ≡ in_state σ h.d
  come_same = λ i. record h.d { state = h.matches.state i }

  pub come_files : HasFiles C passes (in_state σ h.d) A
  come_files = subst (λ d. HasFiles C passes d A) come_same h.matches.files

  pub come_is : is_over C.plan σ ≡ false → sessions stop ≡ session_from (suc (h.n - 1)) C.plan stop known (in_state σ h.d)
  come_is over =
      let some = some_left C.plan σ h.n over h.enough h.some in
      let e : h.n ≡ suc (h.n - 1) = omega (arith, some) in
      h.same ∙ (λ i. session_from (e i) C.plan stop known (come_same i))

-- ---- a whole step

abbrev top_width : Basis → ℕ
top_width C = 2 ^ C.plan.rules.gravity.setup.top_bin

still : (C : Basis) (d e : SessionData) (rests : List ℕ) (A Z : World) → e.questions ≡ d.questions ++ rests → Z.faults ≡ A.faults → Z.last ≡ A.last → Z.yes ≡ A.yes → IsLeft A.left (length rests) Z.left → IsQuietly C.start A (length d.questions) → IsQuietly C.start Z (length e.questions)
still C d e rests A Z same f l y k q = record {
  faults = f ∙ q.faults;
  last = l ∙ q.last;
  yes = y ∙ q.yes;
  left = subst (λ n. IsLeft C.start.left n Z.left) (sym (ap length same ∙ length-append d.questions rests)) (left_on C.start.left A.left Z.left (length d.questions) (length rests) q.left k);
}

module _ (C : Basis) (passes : Passes) (sessions : Option ℕ → SessionData) (σ τ : StateData) (known : Bool) (log : OwnTexts) (A Z : World) where
  -- the session comes to the synchronisation that follows
  pub whole_comes : (stop : Option ℕ) → HasCome C passes sessions σ known A stop → is_over C.plan σ ≡ false → IsWhole C.plan C.own passes known σ τ log A Z stop → σ.tick < τ.tick →
      Z.closed ≡ A.closed → Appends C log A Z → Z.faults ≡ A.faults → Z.last ≡ A.last → Z.yes ≡ A.yes → IsAtSync C passes sessions (Some (σ.steps * top_width C)) τ true Z stop
  whole_comes stop h over w later k a f l y =
      let d = in_state σ h.d in
      let e : SessionData = record (with_trail w.p.trail d) { state = advanced C.plan w.p σ } in
      let files : HasFiles C passes (with_trail w.p.trail d) Z = files_after C passes d w.p.trail log A Z (come_files C passes sessions σ known A stop h) w.logged k a in
      let enough = h.enough in
      record {
        d = e;
        n = h.n - 1;
        same = come_is C passes sessions σ known A stop h over ∙ turn_going (h.n - 1) C.plan stop known d over w.p w.is;
        matches = record {
          state = sym w.state;
          files = files_as C passes (with_trail w.p.trail d) (advanced C.plan w.p σ) d.states Z d.end files;
          quiet = still C h.d e (rests_of w.p.trail) A Z refl f l y w.left h.matches.quiet;
        };
        enough = let some = some_left C.plan σ h.n over h.enough h.some in omega (arith, enough, later, some);
      }

  -- what was kept of it couldn't be put into the files
  pub whole_breaks : (fault : Option (List ℕ)) → IsAmong (own_names C.own) fault → HasCome C passes sessions σ known A None → is_over C.plan σ ≡ false → IsWhole C.plan C.own passes known σ τ log A Z None → Z.closed ≡ A.closed → AppendsPart C log A Z → IsBrokenIn C passes (sessions None) fault Z
  whole_breaks fault b h over w k a =
      let d = in_state σ h.d in
      let same = come_is C passes sessions σ known A None h over ∙ turn_going (h.n - 1) C.plan None known d over w.p w.is in
      let grows : GrowsTo (with_trail w.p.trail d) (sessions None) = subst (λ s. GrowsTo (with_trail w.p.trail d) s) (sym same)
      (grows_on (with_trail w.p.trail d) (synced C.plan None d w.p) (goes_on (h.n - 1) C.plan None (synced C.plan None d w.p)) (synced_grows C.plan None d w.p) (goes_on_grows (h.n - 1) C.plan None (synced C.plan None d w.p))) in
      broken_on C passes (with_trail w.p.trail d) (sessions None) fault Z grows (breaks_after C passes d w.p.trail log A Z fault b (come_files C passes sessions σ known A None h) w.logged k a)

-- ---- a step that rests

-- the session that is stopped there, before its restart file
abbrev rests_as : Basis → StateData → Progress → SessionData → SessionData
rests_as C τ p d = record (with_trail p.trail d) { state = τ; states = d.states ++ τ ∷ []; end = Stopped }

last_of : (left : Option ℕ) (tick : ℕ) (rests front : List ℕ) → rests ≡ front ++ tick ∷ [] → IsLastOf left rests → EndsIn left tick rests
last_of None tick rests front e h = record { front = front; is = e; count = tt }
last_of (Some l) tick rests front e h = let n = ap length e ∙ length-append front (tick ∷ []) in record { front = front; is = e; count = omega (arith, h, n) }

module _ (C : Basis) (passes : Passes) (sessions : Option ℕ → SessionData) (σ τ : StateData) (known : Bool) (log : OwnTexts) (A Z : World) (stopped_at : HasCome C passes sessions σ known A (Some τ.tick)) (over : is_over C.plan σ ≡ false) (r : IsAtRest C.plan C.own passes known σ τ log A Z) where
  abbrev pub at_rest : SessionData
  at_rest = rests_as C τ r.p (in_state σ stopped_at.d)

  pub rest_is : sessions (Some τ.tick) ≡ with_restart true at_rest
  rest_is = come_is C passes sessions σ known A (Some τ.tick) stopped_at over ∙ turn_resting (stopped_at.n - 1) C.plan (Some τ.tick) known (in_state σ stopped_at.d) over r.p τ.tick r.parts r.is ∙
      ap (λ ρ. with_restart true (rests_as C ρ r.p (in_state σ stopped_at.d))) (sym r.state)

  pub rest_files : Z.closed ≡ A.closed → Appends C log A Z → HasFiles C passes at_rest Z
  rest_files k a = files_as C passes (with_trail r.p.trail (in_state σ stopped_at.d)) τ (stopped_at.d.states ++ τ ∷ []) Z Stopped
      (files_after C passes (in_state σ stopped_at.d) r.p.trail log A Z (come_files C passes sessions σ known A (Some τ.tick) stopped_at) r.logged k a)

  -- the question is that of the session without a stop
  pub rest_question : HasCome C passes sessions σ known A None → IsAnsweredYes C.start.left (sessions None).questions τ.tick
  rest_question h =
      let d = in_state σ h.d in
      let pause = base_rests τ.tick C.plan known σ r.p τ.tick r.parts r.is in
      let ends = last_of A.left τ.tick (rests_of r.p.trail) (rests_of pause.front) (pause_rests τ.tick r.p τ.tick (trail_of (base_step C.plan None known σ)) pause) r.left in
      let grows = pause_grows τ.tick (h.n - 1) C.plan known d r.p τ.tick r.parts over r.is in
      subst (λ (s : SessionData). IsAnsweredYes C.start.left s.questions τ.tick) (sym (come_is C passes sessions σ known A None h over))
      (answered_yes C.start.left A.left τ.tick d.questions (rests_of r.p.trail) (session_from (suc (h.n - 1)) C.plan None known d).questions h.matches.quiet.left ends grows.questions)

  -- it is stopped, once the restart file stands
  pub rest_stops : (τ' : StateData) (Y : World) → HasCome C passes sessions σ known A None → HasFiles C passes (with_restart true at_rest) Y → (with_restart true at_rest).state ≡ τ' → τ'.tick ≡ τ.tick →
      Y.faults ≡ C.start.faults → Y.last ≡ C.start.last → Rose C.start.yes Y.yes → HasStopped C passes sessions τ' Y
  rest_stops τ' Y h files same tick f l y =
      let is : sessions (Some τ'.tick) ≡ with_restart true at_rest = ap (λ u. sessions (Some u)) tick ∙ rest_is in
      record {
        state = subst (λ (s : SessionData). s.state ≡ τ') (sym is) same;
        end = subst (λ (s : SessionData). s.end ≡ Stopped) (sym is) refl;
        files = subst (λ s. HasFiles C passes s Y) (sym is) files;
        faults = f;
        last = l;
        yes = y;
        question = subst (λ u. IsAnsweredYes C.start.left (sessions None).questions u) (sym tick) (rest_question h);
      }

  -- what was kept of it couldn't be put into the files
  pub rest_breaks : (fault : Option (List ℕ)) → IsAmong (own_names C.own) fault → Z.closed ≡ A.closed → AppendsPart C log A Z → IsBrokenIn C passes (sessions (Some τ.tick)) fault Z
  rest_breaks fault b k a =
      let d = in_state σ stopped_at.d in
      let g : GrowsTo (with_trail r.p.trail d) at_rest = let n = grows_none (with_trail r.p.trail d) in record { written = n.written; trail = n.trail; questions = n.questions } in
      broken_on C passes (with_trail r.p.trail d) (sessions (Some τ.tick)) fault Z (subst (λ s. GrowsTo (with_trail r.p.trail d) s) (sym rest_is) (grows_on (with_trail r.p.trail d) at_rest (with_restart true at_rest) g (restart_grows true at_rest)))
      (breaks_after C passes d r.p.trail log A Z fault b (come_files C passes sessions σ known A (Some τ.tick) stopped_at) r.logged k a)

-- ---- a step that is refused
module _ (C : Basis) (passes : Passes) (sessions : Option ℕ → SessionData) (σ : StateData) (known : Bool) (why : Refusal) (log : OwnTexts) (A Z : World) (h : HasCome C passes sessions σ known A None) (over : is_over C.plan σ ≡ false) (r : IsOut C.plan C.own passes known σ why log A Z) where
  out_is : sessions None ≡ refused (in_state σ h.d) r.p why
  out_is = come_is C passes sessions σ known A None h over ∙ turn_refused (h.n - 1) C.plan None known (in_state σ h.d) over r.p why r.is

  -- the session has ended so
  pub out_ends : Z.closed ≡ A.closed → Appends C log A Z → Z.faults ≡ A.faults → Z.last ≡ A.last → Z.yes ≡ A.yes → HasEnded C passes (sessions None) (OutOfRange why) Z
  out_ends k a f l y =
      let d = in_state σ h.d in
      let files = files_after C passes d r.p.trail log A Z (come_files C passes sessions σ known A None h) r.logged k a in
      subst (λ s. HasEnded C passes s (OutOfRange why) Z) (sym out_is) (record {
        end = refl;
        files = files_as C passes (with_trail r.p.trail d) σ d.states Z (OutOfRange why) files;
        quiet = still C h.d (refused d r.p why) (rests_of r.p.trail) A Z refl f l y r.left h.matches.quiet;
      })

  pub out_breaks : (fault : Option (List ℕ)) → IsAmong (own_names C.own) fault → Z.closed ≡ A.closed → AppendsPart C log A Z → IsBrokenIn C passes (sessions None) fault Z
  out_breaks fault b k a =
      let d = in_state σ h.d in
      let g : GrowsTo (with_trail r.p.trail d) (refused d r.p why) = let n = grows_none (with_trail r.p.trail d) in record { written = n.written; trail = n.trail; questions = n.questions } in
      broken_on C passes (with_trail r.p.trail d) (sessions None) fault Z (subst (λ s. GrowsTo (with_trail r.p.trail d) s) (sym out_is) g)
      (breaks_after C passes d r.p.trail log A Z fault b (come_files C passes sessions σ known A None h) r.logged k a)

-- ---- want of memory in a step

same_going : (p : ParamsData) (o : Own) (passes : Passes) (told : Bool) (e : SessionData) (S A Z : World) → Z.files ≡ A.files → Z.closed ≡ A.closed → IsGoing p o passes told e None S A → IsGoing p o passes told e None S Z
same_going p o passes told e S A Z f k x = record {
  finished = x.finished;
  later = x.later;
  written = x.written;
  blamed = tt;
  forces = x.forces;
  unasked = x.unasked;
  events = x.events;
  reached = x.reached;
  order = x.order;
  found = x.found;
  files = λ t. subst (λ W. HoldsParts p o (begun_texts e x.forces x.events) x.finished x.later S.files W) (sym f) (x.files t);
  closed = λ t. k ∙ x.closed t;
}

pub come_breaks : (C : Basis) (passes : Passes) (sessions : Option ℕ → SessionData) (σ : StateData) (known : Bool) (A Z : World) → HasCome C passes sessions σ known A None → Z.files ≡ A.files → Z.closed ≡ A.closed → IsBrokenIn C passes (sessions None) None Z
come_breaks C passes sessions σ known A Z h f k =
    let stay = breaks_here C passes h.d None A tt h.matches.files in
    broken_on C passes h.d (sessions None) None Z (subst (λ s. GrowsTo h.d s) (sym h.same) (session_grows h.n C.plan None known h.d))
    (record { going = λ e g. same_going C.params C.own passes C.told e C.start A Z f k (stay.going e g) })

-- ---- a synchronisation

-- a session goes on from it, or has ended
goes_on_by : (n : ℕ) (plan : Plan) (stop : Option ℕ) (known : Bool) (e : SessionData) → GrowsTo e (onwards n plan stop known e)
goes_on_by n plan stop known e = by (is_done e.end)
  where
    by : (b : Bool) → GrowsTo e (cond b (session_from n plan stop known e) e)
    by true = session_grows n plan stop known e
    by false = grows_none e

-- the question that was asked there is one of the session without a stop
sync_question : (C : Basis) (passes : Passes) (sessions : Option ℕ → SessionData) (before : Option ℕ) (σ : StateData) (known : Bool) (A : World) (w : IsAtSync C passes sessions before σ known A None) → asks_at before (is_running C.plan w.d.state) ≡ true → IsLast C.start.left (length w.d.questions) →
    IsAnsweredYes C.start.left (sessions None).questions σ.tick
sync_question C passes sessions before σ known A w asks last =
    let there : w.d.state.tick ≡ σ.tick = ap (λ (ρ : StateData). ρ.tick) w.matches.state in
    let grows = goes_on_by w.n C.plan None known (synchronised C.plan None before w.d) in
    let asked = sync_asks C.plan before w.d asks in
    subst (λ u. IsAnsweredYes C.start.left (sessions None).questions u) there
    (last_question C.start.left w.d.questions w.d.state.tick (sessions None).questions last
    (subst (λ (x : SessionData). IsFirst (w.d.questions ++ w.d.state.tick ∷ []) x.questions) (sym w.same) (subst (λ xs. IsFirst xs (onwards w.n C.plan None known (synchronised C.plan None before w.d)).questions) asked grows.questions)))

module _ (C : Basis) (passes : Passes) (sessions : Option ℕ → SessionData) (before : Option ℕ) (σ τ : StateData) (known : Bool) (A Z : World) where
  -- the session goes on
  pub sync_comes : (stop : Option ℕ) → (h : IsAtSync C passes sessions before σ known A stop) → GoesOn C passes before h.d τ Z stop → τ.tick ≡ σ.tick → is_empty τ.depths ≡ true → HasCome C passes sessions τ known Z stop
  sync_comes stop h g tick flat = let enough = h.enough in record {
    d = synchronised C.plan stop before h.d;
    n = h.n;
    same = h.same ∙ (λ i. cond (is_done (g.end i)) (session_from h.n C.plan stop known (synchronised C.plan stop before h.d)) (synchronised C.plan stop before h.d));
    matches = g.matches;
    end = g.end;
    enough = omega (arith, enough, tick);
    some = λ e. absurd (true≢false (sym flat ∙ e));
  }

  -- it is stopped here
  pub sync_stops : (h : IsAtSync C passes sessions before σ known A (Some σ.tick)) → (w : IsAtSync C passes sessions before σ known A None) → IsHalted C passes before h.d τ Z → IsHalted C passes before w.d τ Z → τ.tick ≡ σ.tick → HasStopped C passes sessions τ Z
  sync_stops h w s t tick =
      let here : h.d.state.tick ≡ σ.tick = ap (λ (ρ : StateData). ρ.tick) h.matches.state in
      let e = synchronised C.plan (Some h.d.state.tick) before h.d in
      let is : sessions (Some τ.tick) ≡ e =
      ap (λ u. sessions (Some u)) tick ∙ h.same ∙ ap (λ u. onwards h.n C.plan (Some u) known (synchronised C.plan (Some u) before h.d)) (sym here) ∙
      (λ i. cond (is_done (s.end i)) (session_from h.n C.plan (Some h.d.state.tick) known e) e) in
      record {
        state = subst (λ (x : SessionData). x.state ≡ τ) (sym is) s.state;
        end = subst (λ (x : SessionData). x.end ≡ Stopped) (sym is) s.end;
        files = subst (λ x. HasFiles C passes x Z) (sym is) s.files;
        faults = s.faults;
        last = s.last;
        yes = s.yes;
        question = subst (λ u. IsAnsweredYes C.start.left (sessions None).questions u) (sym tick) (sync_question C passes sessions before σ known A w t.asked t.question);
      }

  -- it was broken off here
  pub sync_breaks : (stop : Option ℕ) (fault : Option (List ℕ)) → (h : IsAtSync C passes sessions before σ known A stop) → IsBrokenIn C passes (synchronised C.plan stop before h.d) fault Z → IsBrokenIn C passes (sessions stop) fault Z
  sync_breaks stop fault h b =
      broken_on C passes (synchronised C.plan stop before h.d) (sessions stop) fault Z
      (subst (λ s. GrowsTo (synchronised C.plan stop before h.d) s) (sym h.same) (goes_on_by h.n C.plan stop known (synchronised C.plan stop before h.d))) b

-- ---- a synchronisation, whatever stop comes

-- a stop that comes later isn't here
not_here : (tick : ℕ) (stop : Option ℕ) → IsLater tick stop → is_stop stop tick ≡ false
not_here tick None h = refl
not_here tick (Some u) h = by (u == tick) refl
  where
    by : (b : Bool) → (u == tick) ≡ b → (u == tick) ≡ false
    by true e = let same = eqb-true u tick e in absurd (omega (arith, same, h))
    by false e = e

later_from : (tick : ℕ) (stop : Option ℕ) → IsLater tick stop → IsFrom tick stop
later_from tick None h = tt
later_from tick (Some u) h = omega (arith, h)

-- how the synchronisation ended, of each session so far that has this state
abbrev Syncs : Basis → Passes → Option ℕ → StateData → StateData → Bool → World → World → Type 0
Syncs C passes before σ τ answer A Z = (d : SessionData) → Matches C passes d σ A → SyncEnds C passes before d τ answer Z

module _ (C : Basis) (passes : Passes) (sessions : Option ℕ → SessionData) (before : Option ℕ) (σ τ : StateData) (known : Bool) (A Z : World) (comes : ComesToSync C passes sessions before σ known A) where
  pub syncs_on : Syncs C passes before σ τ false A Z → SameTimes τ σ → is_empty σ.depths ≡ true → Comes C passes sessions τ known Z
  syncs_on s t flat stop later =
      let there : IsLater σ.tick stop = subst (λ u. IsLater u stop) t.tick later in
      let h = comes stop (later_from σ.tick stop there) in
      let at : is_stop stop h.d.state.tick ≡ false = ap (λ (ρ : StateData). is_stop stop ρ.tick) h.matches.state ∙ not_here σ.tick stop there in
      sync_comes C passes sessions before σ τ known A Z stop h (s h.d h.matches stop at) t.tick (ap is_empty t.depths ∙ flat)

  pub syncs_stop : Syncs C passes before σ τ true A Z → SameTimes τ σ → HasStopped C passes sessions τ Z
  syncs_stop s t =
      let h = comes (Some σ.tick) (omega arith) in
      let w = comes None tt in
      sync_stops C passes sessions before σ τ known A Z h w (s h.d h.matches) (s w.d w.matches) t.tick

  pub syncs_break : (answer : Bool) (fault : Option (List ℕ)) → ((d : SessionData) → Matches C passes d σ A → SyncBreaks C passes before d answer fault Z) → HasBroken C passes sessions fault Z
  syncs_break false fault s = let h = comes None tt in let b = s h.d h.matches in record { stop = None; question = b.answered; broken = sync_breaks C passes sessions before σ σ known A Z None fault h b.broken }
  syncs_break true fault s =
      let h = comes (Some σ.tick) (omega arith) in
      let w = comes None tt in
      let b = s h.d h.matches in
      let said = (s w.d w.matches).answered in
      let here : h.d.state.tick ≡ σ.tick = ap (λ (ρ : StateData). ρ.tick) h.matches.state in
      record {
        stop = Some σ.tick;
        question = (said.0, sync_question C passes sessions before σ known A w said.1 said.2);
        broken = sync_breaks C passes sessions before σ σ known A Z (Some σ.tick) fault h (subst (λ u. IsBrokenIn C passes (synchronised C.plan (Some u) before h.d) fault Z) here b.broken);
      }

-- ---- the restart file of a rest

restart_tick : (b : Bool) (d : SessionData) (τ' τ : StateData) → (with_restart b d).state ≡ τ' → d.state ≡ τ → τ'.tick ≡ τ.tick
restart_tick true d τ' τ e f = ap (λ (ρ : StateData). ρ.tick) (sym e) ∙ ap (λ (ρ : StateData). ρ.tick) f
restart_tick false d τ' τ e f = ap (λ (ρ : StateData). ρ.tick) (sym e) ∙ ap (λ (ρ : StateData). ρ.tick) f

module _ (C : Basis) (passes : Passes) (sessions : Option ℕ → SessionData) (τ : StateData) (A Z : World) (r : RestsIn C passes sessions τ A) where
  pub rest_saved : (τ' : StateData) → τ' ≡ record τ { next_restart = raised64 τ.next_restart 1 } → Z.state ≡ A.state → Z.faults ≡ A.faults → Z.last ≡ A.last → Z.yes ≡ A.yes →
      WritesFile C.params C.own (Restart τ.next_restart (record τ { next_restart = raised64 τ.next_restart 1 })) C.told A.files Z.files A.closed Z.closed → HasStopped C passes sessions τ' Z
  rest_saved τ' same fs f l y w =
      let kept : (with_restart true r.d).state ≡ τ' = (λ i. record (r.state i) { next_restart = raised64 (r.state i).next_restart 1 }) ∙ sym same in
      let tick = restart_tick true r.d τ' τ kept r.state in
      let is : sessions (Some τ'.tick) ≡ with_restart true r.d = ap (λ u. sessions (Some u)) tick ∙ r.is in
      record {
        state = subst (λ (s : SessionData). s.state ≡ τ') (sym is) kept;
        end = subst (λ (s : SessionData). s.end ≡ Stopped) (sym is) r.end;
        files = subst (λ s. HasFiles C passes s Z) (sym is) (restart_files C passes r.d τ A Z fs r.state r.files w);
        faults = f ∙ r.faults;
        last = l ∙ r.last;
        yes = subst (λ n. Rose C.start.yes n) (sym y) r.yes;
        question = subst (λ u. IsAnsweredYes C.start.left (sessions None).questions u) (sym tick) r.question;
      }

  pub rest_cut : (fault : Option (List ℕ)) → IsAmong (file_name C.params (Restart τ.next_restart (kept τ)) ∷ []) fault → Z.yes ≡ A.yes → WritesPart C.params C.own (Restart τ.next_restart (record τ { next_restart = raised64 τ.next_restart 1 })) C.told A.files Z.files A.closed Z.closed → HasBroken C passes sessions fault Z
  rest_cut fault b y w = record {
    stop = Some τ.tick;
    question = (subst (λ n. Rose C.start.yes n) (sym y) r.yes, r.question);
    broken = subst (λ s. IsBrokenIn C passes s fault Z) (sym r.is) (restart_breaks C passes r.d τ fault A Z b r.state r.files w);
  }
