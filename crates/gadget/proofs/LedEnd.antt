-- A run that is resumed from a restart file of a run ends as that run does.
use Rattle.std.proofs.Common.{◌≡◌, ℕ, Bool, true, false, List, Option, None, refl, sym, ap, subst, ◌∙◌}
use Rattle.store_io.specs.Files.{Files}
use Rattle.store_io.specs.Sinks.{Follows}
use Rattle.nbody_model.specs.Bodies.{BodyData, components, total}
use Rattle.nbody_model.specs.Evolve.{MomRange as MomentumOut, StepRange as StepOut}
use Rattle.nbody_model.specs.Passes.{Passes}
use Rattle.nbody_model.specs.Setups.{SetupData, IsSetup}
use Rattle.nbody_model.specs.States.{StateData}
use Rattle.nbody_model.specs.Tables.{Gravity}
use Rattle.nbody_model.specs.Session.{SessionData, End, OutOfRange, is_done, session}
use Rattle.nbody_model.specs.Session.{Done as SessionDone}
use Rattle.nbody_model.specs.RestartText.{restart_text}
use Rattle.model_laws.specs.Conserved.{IsConserved}
use Rattle.model_laws.specs.Resumed.{GoesOn, plain}
use Rattle.model_laws.proofs.Conserved.{sessions_conserve}
use Rattle.param_file.specs.Settings.{ParamsData, setup_of}
use Rattle.restart_files.specs.RestartFile.{Spell}
use Rattle.restart_laws.proofs.Bodies.{safe_first}
use Rattle.restart_chain_laws.proofs.Laws.{go_on as chain_files_go_on}
use Rattle.rank_field.specs.Fields.{IsPlayedAmong}
use Rattle.run_session.specs.declared.ended.Ended.{Ended}
use Rattle.run_session.specs.declared.ended.End.{End as RunEnd}
use Rattle.run_session.specs.declared.ended.End.TheVariants as ends
use Rattle.run_session.specs.RunEnds.{EndsBy, IsEnded, IsWhole, TellsState}
use Rattle.run_session.specs.Worlds.{World}
use Rattle.gadget.specs.declared.outcome.Outcome.{Outcome}
use Rattle.gadget.specs.declared.outcome.Outcome.TheVariants.{Ran, Checked, Shown, Made, Grouped, Linked, Refused}
use Rattle.gadget.specs.Texts.{done_text}
use Rattle.gadget.specs.Outcomes.{status_at, text_at}
use Rattle.gadget.specs.Inputs.{InputsData}
use Rattle.gadget.specs.Begins.{GoesOnFrom, first_state, plan_by}
use Rattle.gadget.specs.Answers.{ResumeDoes, SessionEnds, going_on, seeded_by, shown}
use Rattle.gadget.specs.Decided.{IsDecided}
use Rattle.gadget.specs.Headline.{Report}
use Rattle.gadget.specs.LeadOn.{HoldsKept, KeptLeadOn, LeadsOn, end_of, told_of}
use Rattle.gadget.proofs.OneAnswer.{Start, TellSame, done_one, resume_start}
use Rattle.gadget.proofs.OneCall.{IsSaid, said}
use Rattle.gadget.proofs.OneReading.{ResumeValue, resume_value, resume_exact, resume_given, resume_refused}
use Rattle.gadget.proofs.Leading.{IsLed, are_bodies, in_range, led, led_bodies, spelled_short}

-- ---- an end that words and files decide is that of the session without a stop

module _ (p : ParamsData) (resumed : Bool) (σ : StateData) (v : Passes) (told : Bool) (sessions : Option ℕ → SessionData) (A Z : World) where
  turn : (done : Bool) (why : End) → is_done why ≡ done → IsWhole p resumed σ v told done why (sessions None) A Z → IsWhole p resumed σ v told (is_done (sessions None).end) (sessions None).end (sessions None) A Z
  turn done why e h = record {
    end = refl;
    ended = subst (λ b. IsEnded p resumed σ v told b (sessions None) A Z) (sym e ∙ ap is_done (sym h.end)) h.ended;
    yes = h.yes;
    questions = h.questions;
  }

  whole_of : (e : Ended) (end : RunEnd) → EndsBy p resumed σ v told sessions A Z e end → IsDecided (status_at e end) → IsWhole p resumed σ v told (is_done (sessions None).end) (sessions None).end (sessions None) A Z
  whole_of e ends.Done h d = turn true SessionDone refl h.0
  whole_of e ends.Stopped h d = absurd d
  whole_of e (ends.WriteFault name) h d = absurd d
  whole_of e (ends.MomRange tick bin id axis) h d = turn false (OutOfRange (MomentumOut tick bin id axis)) refl h
  whole_of e (ends.StepRange tick id) h d = turn false (OutOfRange (StepOut tick id)) refl h
  whole_of e ends.Memory h d = absurd d

  -- it is told as that of any session with this end, where a run that is done tells the same
  record ToldAs (e : Ended) (end : RunEnd) (T : Ended) (last : End) : Type 0 where
    status : status_at e end ≡ status_at T (end_of last)
    text : (top most : ℕ) → text_at top e (status_at e end) ≡ text_at most T (status_at T (end_of last))

  told_as : (e : Ended) (end : RunEnd) (T : Ended) (last : End) → EndsBy p resumed σ v told sessions A Z e end → IsDecided (status_at e end) → last ≡ (sessions None).end
      → (last ≡ SessionDone → TellsState (sessions None) e → done_text e ≡ done_text T) → ToldAs e end T last
  told_as e ends.Done T last h d same f =
      let w : last ≡ SessionDone = same ∙ h.0.end in
      record { status = ap (λ z. status_at T (end_of z)) (sym w); text = λ top most. f w h.1 ∙ ap (λ z. text_at most T (status_at T (end_of z))) (sym w) }
  told_as e ends.Stopped T last h d same f = absurd d
  told_as e (ends.WriteFault name) T last h d same f = absurd d
  told_as e (ends.MomRange tick bin id axis) T last h d same f =
      let w : last ≡ OutOfRange (MomentumOut tick bin id axis) = same ∙ h.end in
      record { status = ap (λ z. status_at T (end_of z)) (sym w); text = λ top most. ap (λ z. text_at most T (status_at T (end_of z))) (sym w) }
  told_as e (ends.StepRange tick id) T last h d same f =
      let w : last ≡ OutOfRange (StepOut tick id) = same ∙ h.end in
      record { status = ap (λ z. status_at T (end_of z)) (sym w); text = λ top most. ap (λ z. text_at most T (status_at T (end_of z))) (sym w) }
  told_as e ends.Memory T last h d same f = absurd d

-- ---- a session that goes on tells what the whole one does

same_total : (σ ρ : StateData) (W E : SessionData) → IsConserved σ.bodies W.state.bodies W.trail → IsConserved ρ.bodies E.state.bodies E.trail → plain W.state ≡ plain E.state → total ρ.bodies ≡ total σ.bodies
same_total σ ρ W E a b e = sym b.momentum ∙ ap (λ (x : StateData). total x.bodies) (sym e) ∙ a.momentum

tells_same : (σ ρ : StateData) (W E : SessionData) (e : Ended) → IsConserved σ.bodies W.state.bodies W.trail → IsConserved ρ.bodies E.state.bodies E.trail → plain W.state ≡ plain E.state → e.momentum ≡ components (total ρ.bodies) → TellsState E e → TellSame e (told_of σ W)
tells_same σ ρ W E e a b same m t = record {
  tick = t.tick ∙ ap (λ (x : StateData). x.tick) (sym same);
  steps = t.steps ∙ ap (λ (x : StateData). x.steps) (sym same);
  snapshots = t.snapshots ∙ ap (λ (x : StateData). x.next_snapshot) (sym same);
  kicks = t.kicks ∙ ap (λ (x : StateData). x.kicks) (sym same);
  interactions = t.interactions ∙ ap (λ (x : StateData). x.interactions) (sym same);
  momentum = m ∙ ap components (same_total σ ρ W E a b same);
}

-- ---- the call

module _ (ranks : ℕ) (i : InputsData) (B : List BodyData) (x : Report) (restart : List ℕ) (setup : IsSetup (setup_of i.params)) (k : HoldsKept i B x.edge.old.files restart) where
  abbrev whole : SessionData
  whole = session (plan_by i) false None (first_state B)

  abbrev rest : SessionData
  rest = session (plan_by i) true None k.state

  abbrev told_whole : Ended
  told_whole = told_of (first_state B) whole

  from : IsLed (plan_by i) (first_state B) k.state
  from = led (plan_by i) (first_state B) k.first setup k.times k.state k.kept

  goes : GoesOn whole rest
  goes = chain_files_go_on (plan_by i) (restart_text k.state (setup_of i.params)) k.state (setup_of i.params) setup from.read (first_state B) from.begun from.links from.chain
      (ap (λ ρ. restart_text ρ (setup_of i.params)) from.is)

  leads : (o : Outcome) (ended : Ended) (u : SetupData) → o ≡ Ran ended u → SessionEnds (going_on ranks) x.edge i k.state ended → IsSaid o x → LeadsOn ranks i B x
  leads o ended u is h y =
      let g : Gravity = record { setup = setup_of i.params; table = i.table } in
      let v : Passes = IsPlayedAmong x.edge.order.picks g ranks in
      let A : World = seeded_by x.edge i.params.delivery_seed in
      let sessions : Option ℕ → SessionData = λ stop. session (plan_by i) true stop k.state in
      let z : IsSaid (Ran ended u) x = subst (λ q. IsSaid q x) is y in
      let first = sessions_conserve (plan_by i) false None (first_state B) (are_bodies B k.first.valid (safe_first B k.first.storable).each) in
      let second = sessions_conserve (plan_by i) true None k.state (led_bodies (plan_by i) (first_state B) k.state setup from) in
      let told = told_as i.params true k.state v x.edge.tells sessions A x.edge.new ended ended.end told_whole whole.end h.by_session z.decided goes.ends.end
      (λ done t. done_one ended told_whole (tells_same (first_state B) k.state whole rest ended first second (goes.ends.state done) h.momentum t)) in
      record {
        state = k.state;
        goes_on = goes;
        whole = whole_of i.params true k.state v x.edge.tells sessions A x.edge.new ended ended.end h.by_session z.decided;
        status = z.is ∙ told.status;
        printed = subst (λ t. Follows x.said.old.written x.said.new.written t) (told.text u.top_bin (setup_of i.params).top_bin) z.printed;
      }

pub kept_lead_on : KeptLeadOn
kept_lead_on ranks param restart i B x t accepts k h decided = by h.outcome h.does (said h.outcome x h.prints decided)
  where
    files : Files
    files = x.edge.old.files

    setup : IsSetup (setup_of i.params)
    setup = in_range i.params accepts.params.spelled.accepted

    read : Spell (restart_text k.state (setup_of i.params)) k.state (setup_of i.params)
    read = (led (plan_by i) (first_state B) k.first setup k.times k.state k.kept).read

    given : GoesOnFrom files param restart i k.state
    given = record { accepted = accepts; state = record { bytes = restart_text k.state (setup_of i.params); read = record { stands = k.stands; short = spelled_short _ _ _ read }; spelled = read } }

    by : (o : Outcome) → ResumeDoes ranks x.edge param restart o → IsSaid o x → LeadsOn ranks i B x
    by (Ran ended u) d y =
        let mine : ResumeValue = resume_value d.inputs d.state in
        let other : ResumeValue = resume_value i k.state in
        let values : mine ≡ other = (resume_exact files param restart).one_value mine other (resume_given files param restart d.inputs d.state (d.accepted t)) (resume_given files param restart i k.state given) in
        let starts : resume_start mine ≡ resume_start other = ap resume_start values in
        leads ranks i B x restart setup k (Ran ended u) ended u refl (subst (λ (z : Start). SessionEnds (going_on ranks) x.edge z.0 z.1 ended) starts d.ends) y
    by (Refused status) d y = absurd ((resume_exact files param restart).apart status (resume_value i k.state) (resume_refused (shown x.edge) param restart t status y.decided d.0) (resume_given files param restart i k.state given))
    by (Checked C) d y = absurd d
    by (Shown head C) d y = absurd d
    by (Made n m) d y = absurd d
    by (Grouped n m) d y = absurd d
    by (Linked n) d y = absurd d
