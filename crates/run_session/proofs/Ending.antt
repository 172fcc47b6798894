-- The end of a run.
use Rattle.std.proofs.Common.{◌≡◌, ◌≤◌, inl, inr, ℕ, Bool, true, false, not, ◌&&◌, nat_lt, IsTrue, List, [], ◌++◌, length, take, Option, Some, None, refl, ap, sym, ◌∙◌, subst, arith}
use Rattle.std.specs.Prelude.{IfSome}
use Rattle.std.specs.List.{AllByRecursion}
use Rattle.std.proofs.lemmas.List.{append-nil}
use Rattle.std.proofs.lemmas.Bool.{ltb-true}
use Rattle.nbody_model.specs.Bodies.{total}
use Rattle.nbody_model.specs.Passes.{PassesAll, Passes}
use Rattle.nbody_model.specs.Evolve.{is_empty}
use Rattle.nbody_model.specs.States.{StateData}
use Rattle.nbody_model.specs.Session.{SessionData, End, Done, OutOfRange, asked, records, is_done, is_running, tells}
use Rattle.step_engine.specs.BaseSteps.{is_known}
use Rattle.store_io.specs.Files.{Files}
use Rattle.store_io.specs.Causes.{Rose}
use Rattle.run_session.specs.declared.turn.Turn.{Turn}
use Rattle.run_session.specs.declared.turn.Turn.TheVariants as turns
use Rattle.run_session.specs.Own.{Own, OwnTexts, Stands, OpensPart, IsPartly, first_texts, followed, own_files, own_names}
use Rattle.run_session.specs.Outputs.{FinishesSome, IsMarked, Leaves, end_mark, session_texts, with_written}
use Rattle.run_session.specs.Broken.{IsOpening, LeavesPart}
use Rattle.run_session.specs.RunEnds.{IsBrokenOff, IsEnded, IsStopOf, IsWhole, NoneLeft}
use Rattle.run_session.specs.Stages.{Basis, HasEnded, HasFiles, IsLeft, Matches}
use Rattle.run_session.specs.Steps.{refusal_of}
use Rattle.run_session.specs.Sessions.{SessionEnds, came_to_last, start_session}
use Rattle.run_session.specs.Turned.{Comes, HasBroken, StepsEnd}
use Rattle.run_session.proofs.Turns.{is_over, rests_here}
use Rattle.run_session.proofs.FirstParts.{grows_none}
use Rattle.run_session.proofs.Questions.{left_none}
use Rattle.run_session.proofs.ToldTexts.{texts_first}
use Rattle.run_session.specs.Worlds.{World}

-- ---- the beginning

-- the files that are kept open were made
pub opened_matches : (C : Basis) (passes : Passes) (σ : StateData) (Z : World) → (IsTrue C.told → Stands C.own first_texts C.start.files Z.files) → Z.closed ≡ C.start.closed → Z.faults ≡ C.start.faults → Z.last ≡ C.start.last → Z.state ≡ C.start.state → Z.yes ≡ C.start.yes → Z.left ≡ C.start.left →
    Matches C passes (start_session σ) σ Z
opened_matches C passes σ Z files closed faults last state said left = record {
  state = refl;
  files = record {
    events = [];
    found = sym state;
    files = λ told. subst (λ t. Stands C.own t C.start.files Z.files) (sym (texts_first (start_session σ) refl)) (files told);
    closed = λ told. closed ∙ sym (append-nil C.start.closed);
  };
  quiet = record { faults = faults; last = last; yes = said; left = subst (λ l. IsLeft C.start.left 0 l) (sym left) (left_none C.start.left) };
}

-- ---- at the last tick

no_less : (a b : ℕ) (t : Bool) → nat_lt a b ≡ t → b ≤ a → nat_lt a b ≡ false
no_less a b true e h = let l = ltb-true a b e in absurd (omega (arith, l, h))
no_less a b false e h = e

pub over_ends : (C : Basis) (passes : Passes) (sessions : Option ℕ → SessionData) (σ : StateData) (known : Bool) (Z : World) → Comes C passes sessions σ known Z → C.plan.rules.gravity.setup.time_max ≤ σ.tick → σ.depths ≡ [] →
    HasEnded C passes (sessions None) Done Z × ((sessions None).state ≡ σ)
over_ends C passes sessions σ known Z comes late flat =
    let h = comes None tt in
    let still : is_running C.plan σ ≡ false = no_less σ.tick C.plan.rules.gravity.setup.time_max (nat_lt σ.tick C.plan.rules.gravity.setup.time_max) refl late in
    let here : is_over C.plan h.d.state ≡ true = ap (is_over C.plan) h.matches.state ∙ (λ i. is_empty (flat i) && not (still i)) in
    let is : sessions None ≡ h.d = h.same ∙ rests_here h.n C.plan None known h.d here in
    (subst (λ d. HasEnded C passes d Done Z) (sym is) (record { end = h.end; files = h.matches.files; quiet = h.matches.quiet }), ap (λ (d : SessionData). d.state) is ∙ h.matches.state)

-- ---- finished

-- each kick of these sessions tells the momentum at the start
abbrev pub AreKept : StateData → (Option ℕ → SessionData) → Type 0
AreKept σ sessions = (stop : Option ℕ) → AllByRecursion (tells (total σ.bodies)) (records (sessions stop))

none_left : (left now : Option ℕ) (questions : List ℕ) → IsLeft left (length questions) now → NoneLeft left questions
none_left None now questions h = tt
none_left (Some l) None questions h = absurd h
none_left (Some l) (Some n) questions h = omega (arith, h)

module _ (C : Basis) (passes : Passes) (resumed : Bool) (σ : StateData) (sessions : Option ℕ → SessionData) (own : C.own ≡ own_files C.params resumed σ) (kept : AreKept σ sessions) (B Z : World) (same : Z.state ≡ B.state) (said : Z.yes ≡ B.yes) (left : Z.left ≡ B.left) where
  -- the open files were finished
  ended : (d : SessionData) (done : Bool) → AllByRecursion (tells (total σ.bodies)) (records d) → HasFiles C passes d B → ((t : OwnTexts) (W : Files) → IsTrue C.told → Stands C.own t W B.files → Stands C.own (followed t (end_mark done)) W Z.files) → (IsTrue C.told → Z.closed ≡ B.closed ++ own_names C.own) →
      Z.faults ≡ C.start.faults → Z.last ≡ C.start.last → IsEnded C.params resumed σ passes C.told done d C.start Z
  ended d done k h f n faults last = record {
    events = h.events;
    found = subst (λ s. PassesAll passes (asked d) C.start.state h.events s) (sym same) h.found;
    files = λ told. subst (λ o. Leaves C.params o d h.events done C.start.files Z.files C.start.closed Z.closed) own (record {
      files = f (session_texts d h.events) (with_written C.params d.written C.start.files) told (h.files told);
      closed = n told ∙ ap (λ xs. xs ++ own_names C.own) (h.closed told);
    });
    kept = k;
    faults = faults;
    last = last;
  }

  whole : (d : SessionData) (done : Bool) (why : End) → AllByRecursion (tells (total σ.bodies)) (records d) → HasEnded C passes d why B → ((t : OwnTexts) (W : Files) → IsTrue C.told → Stands C.own t W B.files → Stands C.own (followed t (end_mark done)) W Z.files) → (IsTrue C.told → Z.closed ≡ B.closed ++ own_names C.own) →
      Z.faults ≡ B.faults → Z.last ≡ B.last → IsWhole C.params resumed σ passes C.told done why d C.start Z
  whole d done why k h f n faults last = record {
    end = h.end;
    ended = ended d done k h.files f n (faults ∙ h.quiet.faults) (last ∙ h.quiet.last);
    yes = said ∙ h.quiet.yes;
    questions = none_left C.start.left B.left d.questions h.quiet.left;
  }

  pub finished : (t : Turn) → StepsEnd C passes sessions B t → ((u : OwnTexts) (W : Files) → IsTrue C.told → Stands C.own u W B.files → Stands C.own (followed u (end_mark (came_to_last t))) W Z.files) → (IsTrue C.told → Z.closed ≡ B.closed ++ own_names C.own) →
      Z.faults ≡ B.faults → Z.last ≡ B.last → SessionEnds C.params resumed σ passes C.told sessions C.start Z t
  finished (turns.On last) e f n faults quiet =
      let over = over_ends C passes sessions last.state (is_known last.known) B e.0 e.1.0 e.1.1 in
      (whole (sessions None) true Done (kept None) over.0 f n faults quiet, over.1)
  finished (turns.Stopped τ) e f n faults quiet = (
    record {
      end = e.end;
      ended = ended (sessions (Some τ.tick)) false (kept (Some τ.tick)) e.files f n (faults ∙ e.faults) (quiet ∙ e.last);
      yes = subst (λ y. Rose C.start.yes y) (sym said) e.yes;
      question = e.question;
    },
    e.state,
  )
  finished (turns.Refused why) e f n faults quiet = whole (sessions None) false (OutOfRange (refusal_of why)) (kept None) e f n faults quiet

  -- ---- or not

  cut : (d : SessionData) (stop : Option ℕ) (fault : Option (List ℕ)) → d ≡ sessions stop → IsStopOf C.start.left (sessions None).questions C.start.yes Z.yes stop → LeavesPart C.params C.own passes C.told d fault C.start Z → IsBrokenOff C.params resumed σ passes C.told sessions fault C.start Z
  cut d stop fault is question leaves = record {
    stop = stop;
    question = question;
    leaves = subst (λ o. LeavesPart C.params o passes C.told (sessions stop) fault C.start Z) own (subst (λ e. LeavesPart C.params C.own passes C.told e fault C.start Z) is leaves);
    kept = kept stop;
  }

  -- a fault came while they were finished
  unfinished : (d : SessionData) (done : Bool) (fault : Option (List ℕ)) → is_done d.end ≡ done → HasFiles C passes d B → FinishesSome C.own done C.told fault B.files Z.files B.closed Z.closed → LeavesPart C.params C.own passes C.told d fault C.start Z
  unfinished d done fault is h f = inr (inr (record {
    events = h.events;
    found = subst (λ s. PassesAll passes (asked d) C.start.state h.events s) (sym same) h.found;
    some = record {
      ended = f.some.ended;
      blamed = f.some.blamed;
      closed = λ told. f.some.closed told ∙ ap (λ xs. xs ++ take f.some.ended (own_names C.own)) (h.closed told);
    };
    files = λ told. subst (λ b. IsMarked C.own (session_texts d h.events) b f.some.ended (with_written C.params d.written C.start.files) Z.files) (sym is) (f.files (session_texts d h.events) (with_written C.params d.written C.start.files) told (h.files told));
  }))

  pub not_finished : (t : Turn) (fault : Option (List ℕ)) → StepsEnd C passes sessions B t → FinishesSome C.own (came_to_last t) C.told fault B.files Z.files B.closed Z.closed → IsBrokenOff C.params resumed σ passes C.told sessions fault C.start Z
  not_finished (turns.On last) fault e f =
      let over = over_ends C passes sessions last.state (is_known last.known) B e.0 e.1.0 e.1.1 in
      cut (sessions None) None fault refl (said ∙ over.0.quiet.yes) (unfinished (sessions None) true fault (ap is_done over.0.end) over.0.files f)
  not_finished (turns.Stopped τ) fault e f =
      cut (sessions (Some τ.tick)) (Some τ.tick) fault refl (subst (λ y. Rose C.start.yes y) (sym said) e.yes, e.question) (unfinished (sessions (Some τ.tick)) false fault (ap is_done e.end) e.files f)
  not_finished (turns.Refused why) fault e f = cut (sessions None) None fault refl (said ∙ e.quiet.yes) (unfinished (sessions None) false fault (ap is_done e.end) e.files f)

  -- it was broken off before
  pub was_broken : (fault : Option (List ℕ)) → HasBroken C passes sessions fault Z → IsBrokenOff C.params resumed σ passes C.told sessions fault C.start Z
  was_broken fault h = cut (sessions h.stop) h.stop fault refl h.question (inr (inl (h.broken.going (sessions h.stop) (grows_none (sessions h.stop)))))

  -- while the open files were made
  pub not_opened : (fault : Option (List ℕ)) → IsOpening C.own C.told fault C.start Z → IsBrokenOff C.params resumed σ passes C.told sessions fault C.start Z
  not_opened fault h = cut (sessions None) None fault refl h.yes (inl h)

-- nothing was made at all
partly_here : (name : Option (List ℕ)) (files : Files) (text : List ℕ) → IfSome name (λ n. IsPartly (files n) (files n) text)
partly_here None files text = tt
partly_here (Some n) files text = inl refl

pub nothing_made : (o : Own) (files : Files) → OpensPart o files files
nothing_made o files = record { kicks = inl refl; trace = partly_here o.trace files first_texts.trace; bins = partly_here o.bins files first_texts.bins; others = λ q other. refl }
