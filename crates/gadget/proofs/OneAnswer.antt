-- Words and files have one answer that they decide.
use Rattle.std.proofs.Common.{◌≡◌, ℕ, Bool, true, false, List, Option, None, refl, sym, ap, subst, ◌∙◌}
use Rattle.store_io.specs.Files.{Files}
use Rattle.nbody_model.specs.Bodies.{BodyData}
use Rattle.nbody_model.specs.Setups.{SetupData}
use Rattle.nbody_model.specs.States.{StateData}
use Rattle.nbody_model.specs.Tables.{Gravity}
use Rattle.nbody_model.specs.Evolve.{MomRange as MomentumOut, StepRange as StepOut}
use Rattle.nbody_model.specs.Session.{SessionData, End, OutOfRange, session}
use Rattle.nbody_model.specs.Session.{Done as SessionDone, Stopped as SessionStopped}
use Rattle.param_file.specs.Settings.{ParamsData, setup_of}
use Rattle.nbody_model.specs.Passes.{Passes}
use Rattle.rank_field.specs.Fields.{IsPlayedAmong}
use Rattle.gadget.specs.declared.sessions.Way.{Way}
use Rattle.snap_file.specs.declared.head.Head.{Head}
use Rattle.snap_file.specs.Snapshots.{SpellsHead, SpellsSnapshot}
use Rattle.snap_file.proofs.NoFault.{reads_one_way}
use Rattle.run_session.specs.declared.ended.Ended.{Ended}
use Rattle.run_session.specs.declared.ended.End.{End as RunEnd}
use Rattle.run_session.specs.declared.ended.End.TheVariants as ends
use Rattle.run_session.specs.RunEnds.{EndsBy, IsEnded, TellsState}
use Rattle.run_session.specs.Worlds.{World}
use Rattle.gadget.specs.declared.status.Status.{Status}
use Rattle.gadget.specs.declared.status.Status.TheVariants.{Done, MomRange, StepRange, Snapshot, Usage}
use Rattle.gadget.specs.declared.outcome.Outcome.{Outcome}
use Rattle.gadget.specs.declared.outcome.Outcome.TheVariants.{Ran, Checked, Shown, Made, Grouped, Linked, Refused}
use Rattle.gadget.specs.Texts.{check_text, done_text, show_text, status_text}
use Rattle.gadget.specs.Outcomes.{status_at, text_at, status_of, text_of}
use Rattle.gadget.specs.Decided.{FindOneFolder, IsDecided}
use Rattle.gadget.specs.Snapshots.{NamesSnapshot, longest_snapshot}
use Rattle.gadget.specs.Reads.{FileSpells, seen}
use Rattle.gadget.specs.Inputs.{InputsData}
use Rattle.gadget.specs.Begins.{BeginsWith, GoesOnFrom, first_state, plan_by}
use Rattle.gadget.specs.Answers.{CheckDoes, Edge, RefusesAtOnce, ResumeDoes, RunDoes, SessionEnds, ShowDoes, Untouched, seeded_by, shown as shown_by}
use Rattle.gadget.proofs.Exact.{IsExact}
use Rattle.gadget.proofs.OneSnapshot.{IsNoSnapshot, snapshot_exact}
use Rattle.gadget.proofs.OneFile.{SnapshotRefuses, file_exact, snapshot_refused}
use Rattle.gadget.proofs.OneReading.{RunStages, RunGiven, RunValue, run_value, run_exact, run_refused, run_given, ResumeStages, ResumeGiven, ResumeValue, resume_value, resume_exact, resume_refused, resume_given}

-- ---- the end of a session

-- the status that an end of the model has, where a stop has none of its own
model_status : End → Status
model_status SessionDone = Done
model_status SessionStopped = Usage
model_status (OutOfRange (MomentumOut tick bin id axis)) = MomRange tick bin id axis
model_status (OutOfRange (StepOut tick id)) = StepRange tick id

status_is : (p : ParamsData) (resumed : Bool) (σ : StateData) (passes : Passes) (told : Bool) (sessions : Option ℕ → SessionData) (A Z : World) (e : Ended) (end : RunEnd) → IsDecided (status_at e end) → EndsBy p resumed σ passes told sessions A Z e end → status_at e end ≡ model_status (sessions None).end
unfolding model_status
status_is p resumed σ passes told sessions A Z e ends.Done d h = sym (ap model_status h.0.end)
status_is p resumed σ passes told sessions A Z e ends.Stopped d h = absurd d
status_is p resumed σ passes told sessions A Z e (ends.WriteFault name) d h = absurd d
status_is p resumed σ passes told sessions A Z e (ends.MomRange tick bin id axis) d h = sym (ap model_status h.end)
status_is p resumed σ passes told sessions A Z e (ends.StepRange tick id) d h = sym (ap model_status h.end)
status_is p resumed σ passes told sessions A Z e ends.Memory d h = absurd d

-- what two runs tell that are done
pub record TellSame (e f : Ended) : Type 0 where
  pub tick : e.tick ≡ f.tick
  pub steps : e.steps ≡ f.steps
  pub snapshots : e.snapshots ≡ f.snapshots
  pub kicks : e.kicks ≡ f.kicks
  pub interactions : e.interactions ≡ f.interactions
  pub momentum : e.momentum ≡ f.momentum

pub done_one : (e f : Ended) → TellSame e f → done_text e ≡ done_text f
done_one e f h =
    let tick = h.tick in
    let steps = h.steps in
    let snapshots = h.snapshots in
    let kicks = h.kicks in
    let interactions = h.interactions in
    let momentum = h.momentum in
    cc

both_done : (d : SessionData) (e f : Ended) → e.momentum ≡ f.momentum → TellsState d e → TellsState d f → TellSame e f
both_done d e f m h k = record {
  tick = h.tick ∙ sym k.tick;
  steps = h.steps ∙ sym k.steps;
  snapshots = h.snapshots ∙ sym k.snapshots;
  kicks = h.kicks ∙ sym k.kicks;
  interactions = h.interactions ∙ sym k.interactions;
  momentum = m;
}

-- two ends of one session, whatever found its forces, each with what it tells where it is done
record AreEnds (p : ParamsData) (resumed : Bool) (σ : StateData) (v w : Passes) (t u : Bool) (sessions : Option ℕ → SessionData) (A Y B Z : World) (e f : Ended) (a b : RunEnd) : Type 0 where
  first : EndsBy p resumed σ v t sessions A Y e a
  second : EndsBy p resumed σ w u sessions B Z f b
  momentum : e.momentum ≡ f.momentum

text_one : (p : ParamsData) (resumed : Bool) (σ : StateData) (v w : Passes) (t u : Bool) (sessions : Option ℕ → SessionData) (A Y B Z : World) (top : ℕ) (e f : Ended) (a b : RunEnd) → AreEnds p resumed σ v w t u sessions A Y B Z e f a b → status_at e a ≡ status_at f b → IsDecided (status_at e a) → IsDecided (status_at f b) → text_at top e (status_at e a) ≡ text_at top f (status_at f b)
text_one p resumed σ v w t u sessions A Y B Z top e f ends.Done ends.Done h same i j = done_one e f (both_done (sessions None) e f h.momentum h.first.1 h.second.1)
text_one p resumed σ v w t u sessions A Y B Z top e f ends.Done ends.Stopped h same i j = absurd j
text_one p resumed σ v w t u sessions A Y B Z top e f ends.Done (ends.WriteFault n2) h same i j = absurd j
text_one p resumed σ v w t u sessions A Y B Z top e f ends.Done (ends.MomRange t2 b2 i2 x2) h same i j = absurd (cc)
text_one p resumed σ v w t u sessions A Y B Z top e f ends.Done (ends.StepRange t2 i2) h same i j = absurd (cc)
text_one p resumed σ v w t u sessions A Y B Z top e f ends.Done ends.Memory h same i j = absurd j
text_one p resumed σ v w t u sessions A Y B Z top e f ends.Stopped b h same i j = absurd i
text_one p resumed σ v w t u sessions A Y B Z top e f (ends.WriteFault n1) b h same i j = absurd i
text_one p resumed σ v w t u sessions A Y B Z top e f (ends.MomRange t1 b1 i1 x1) ends.Done h same i j = absurd (cc)
text_one p resumed σ v w t u sessions A Y B Z top e f (ends.MomRange t1 b1 i1 x1) ends.Stopped h same i j = absurd j
text_one p resumed σ v w t u sessions A Y B Z top e f (ends.MomRange t1 b1 i1 x1) (ends.WriteFault n2) h same i j = absurd j
text_one p resumed σ v w t u sessions A Y B Z top e f (ends.MomRange t1 b1 i1 x1) (ends.MomRange t2 b2 i2 x2) h same i j = ap status_text same
text_one p resumed σ v w t u sessions A Y B Z top e f (ends.MomRange t1 b1 i1 x1) (ends.StepRange t2 i2) h same i j = absurd (cc)
text_one p resumed σ v w t u sessions A Y B Z top e f (ends.MomRange t1 b1 i1 x1) ends.Memory h same i j = absurd j
text_one p resumed σ v w t u sessions A Y B Z top e f (ends.StepRange t1 i1) ends.Done h same i j = absurd (cc)
text_one p resumed σ v w t u sessions A Y B Z top e f (ends.StepRange t1 i1) ends.Stopped h same i j = absurd j
text_one p resumed σ v w t u sessions A Y B Z top e f (ends.StepRange t1 i1) (ends.WriteFault n2) h same i j = absurd j
text_one p resumed σ v w t u sessions A Y B Z top e f (ends.StepRange t1 i1) (ends.MomRange t2 b2 i2 x2) h same i j = absurd (cc)
text_one p resumed σ v w t u sessions A Y B Z top e f (ends.StepRange t1 i1) (ends.StepRange t2 i2) h same i j = ap status_text same
text_one p resumed σ v w t u sessions A Y B Z top e f (ends.StepRange t1 i1) ends.Memory h same i j = absurd j
text_one p resumed σ v w t u sessions A Y B Z top e f ends.Memory b h same i j = absurd i

-- what they leave, where two that came to their end leave it
files_by : (R : Type 0) (p : ParamsData) (resumed : Bool) (σ : StateData) (v w : Passes) (t u : Bool) (sessions : Option ℕ → SessionData) (A Y B Z : World) → ((done : Bool) (d : SessionData) → IsEnded p resumed σ v t done d A Y → IsEnded p resumed σ w u done d B Z → R)
    → (e f : Ended) (a b : RunEnd) → AreEnds p resumed σ v w t u sessions A Y B Z e f a b → status_at e a ≡ status_at f b → IsDecided (status_at e a) → IsDecided (status_at f b) → R
files_by R p resumed σ v w t u sessions A Y B Z leave e f ends.Done ends.Done h same i j = leave true (sessions None) h.first.0.ended h.second.0.ended
files_by R p resumed σ v w t u sessions A Y B Z leave e f ends.Done ends.Stopped h same i j = absurd j
files_by R p resumed σ v w t u sessions A Y B Z leave e f ends.Done (ends.WriteFault n2) h same i j = absurd j
files_by R p resumed σ v w t u sessions A Y B Z leave e f ends.Done (ends.MomRange t2 b2 i2 x2) h same i j = absurd (cc)
files_by R p resumed σ v w t u sessions A Y B Z leave e f ends.Done (ends.StepRange t2 i2) h same i j = absurd (cc)
files_by R p resumed σ v w t u sessions A Y B Z leave e f ends.Done ends.Memory h same i j = absurd j
files_by R p resumed σ v w t u sessions A Y B Z leave e f ends.Stopped b h same i j = absurd i
files_by R p resumed σ v w t u sessions A Y B Z leave e f (ends.WriteFault n1) b h same i j = absurd i
files_by R p resumed σ v w t u sessions A Y B Z leave e f (ends.MomRange t1 b1 i1 x1) ends.Done h same i j = absurd (cc)
files_by R p resumed σ v w t u sessions A Y B Z leave e f (ends.MomRange t1 b1 i1 x1) ends.Stopped h same i j = absurd j
files_by R p resumed σ v w t u sessions A Y B Z leave e f (ends.MomRange t1 b1 i1 x1) (ends.WriteFault n2) h same i j = absurd j
files_by R p resumed σ v w t u sessions A Y B Z leave e f (ends.MomRange t1 b1 i1 x1) (ends.MomRange t2 b2 i2 x2) h same i j = leave false (sessions None) h.first.ended h.second.ended
files_by R p resumed σ v w t u sessions A Y B Z leave e f (ends.MomRange t1 b1 i1 x1) (ends.StepRange t2 i2) h same i j = absurd (cc)
files_by R p resumed σ v w t u sessions A Y B Z leave e f (ends.MomRange t1 b1 i1 x1) ends.Memory h same i j = absurd j
files_by R p resumed σ v w t u sessions A Y B Z leave e f (ends.StepRange t1 i1) ends.Done h same i j = absurd (cc)
files_by R p resumed σ v w t u sessions A Y B Z leave e f (ends.StepRange t1 i1) ends.Stopped h same i j = absurd j
files_by R p resumed σ v w t u sessions A Y B Z leave e f (ends.StepRange t1 i1) (ends.WriteFault n2) h same i j = absurd j
files_by R p resumed σ v w t u sessions A Y B Z leave e f (ends.StepRange t1 i1) (ends.MomRange t2 b2 i2 x2) h same i j = absurd (cc)
files_by R p resumed σ v w t u sessions A Y B Z leave e f (ends.StepRange t1 i1) (ends.StepRange t2 i2) h same i j = leave false (sessions None) h.first.ended h.second.ended
files_by R p resumed σ v w t u sessions A Y B Z leave e f (ends.StepRange t1 i1) ends.Memory h same i j = absurd j
files_by R p resumed σ v w t u sessions A Y B Z leave e f ends.Memory b h same i j = absurd i

-- two outcomes have one status and one text, and of the files this holds
pub record AreAlike (R : Type 0) (o q : Outcome) : Type 0 where
  pub status : status_of o ≡ status_of q
  pub text : text_of o ≡ text_of q
  pub files : R

-- ---- runs

-- what a run goes by, and the state that it begins with
abbrev pub Start : Type 0
Start = InputsData × StateData

-- how it ends, and how it ends where it comes to its end
abbrev pub EndsFrom : Way → Start → Edge → Ended → Type 0
EndsFrom way x e ended = SessionEnds way e x.0 x.1 ended

abbrev pub EndedFrom : Way → Start → Edge → Bool → SessionData → Type 0
EndedFrom way x e done d =
    let g : Gravity = record { setup = setup_of x.0.params; table = x.0.table } in
    IsEnded x.0.params way.resumed x.1 (IsPlayedAmong e.order.picks g way.ranks) e.tells done d (seeded_by e x.0.params.delivery_seed) e.new

-- of two that came to their end this holds
abbrev pub BothGive : Type 0 → Bool → ℕ → ℕ → Start → Edge → Edge → Type 0
BothGive R resumed n m x d e =
    (done : Bool) (z : SessionData) → EndedFrom (record { resumed = resumed; ranks = n }) x d done z → EndedFrom (record { resumed = resumed; ranks = m }) x e done z → R

-- of all that was read
abbrev run_start : RunValue → Start
run_start z = (record { params = z.0; times = z.1.0; table = z.1.1.0; factors = z.1.1.1.0 }, first_state z.1.1.1.1)

abbrev pub resume_start : ResumeValue → Start
resume_start z = (record { params = z.0; times = z.1.0; table = z.1.1.0; factors = z.1.1.1.0 }, z.1.1.1.1.0.0)

same_start : (R : Type 0) (resumed : Bool) (n m : ℕ) (x : Start) (d e : Edge) (E F : Ended) (s : SetupData) → BothGive R resumed n m x d e
    → EndsFrom (record { resumed = resumed; ranks = n }) x d E → EndsFrom (record { resumed = resumed; ranks = m }) x e F → IsDecided (status_at E E.end) → IsDecided (status_at F F.end) → AreAlike R (Ran E s) (Ran F s)
same_start R resumed n m x d e E F s give h k i j =
    let p = x.0.params in
    let σ = x.1 in
    let g : Gravity = record { setup = setup_of p; table = x.0.table } in
    let v : Passes = IsPlayedAmong d.order.picks g n in
    let w : Passes = IsPlayedAmong e.order.picks g m in
    let A : World = seeded_by d p.delivery_seed in
    let B : World = seeded_by e p.delivery_seed in
    let sessions : Option ℕ → SessionData = λ stop. session (plan_by x.0) resumed stop σ in
    let statuses : status_at E E.end ≡ status_at F F.end =
    status_is p resumed σ v d.tells sessions A d.new E E.end i h.by_session ∙ sym (status_is p resumed σ w e.tells sessions B e.new F F.end j k.by_session) in
    let both : AreEnds p resumed σ v w d.tells e.tells sessions A d.new B e.new E F E.end F.end = record { first = h.by_session; second = k.by_session; momentum = h.momentum ∙ sym k.momentum } in
    record {
      status = statuses;
      text = text_one p resumed σ v w d.tells e.tells sessions A d.new B e.new s.top_bin E F E.end F.end both statuses i j;
      files = files_by R p resumed σ v w d.tells e.tells sessions A d.new B e.new give E F E.end F.end both statuses i j;
    }

ran_one : (R : Type 0) (resumed : Bool) (n m : ℕ) (x y : Start) (d e : Edge) (E F : Ended) (s t : SetupData) → BothGive R resumed n m y d e → x ≡ y → s ≡ setup_of x.0.params → t ≡ setup_of y.0.params
    → EndsFrom (record { resumed = resumed; ranks = n }) x d E → EndsFrom (record { resumed = resumed; ranks = m }) y e F → IsDecided (status_at E E.end) → IsDecided (status_at F F.end) → AreAlike R (Ran E s) (Ran F t)
ran_one R resumed n m x y d e E F s t give same u v h k i j =
    let setups : s ≡ t = u ∙ ap (λ (z : Start). setup_of z.0.params) same ∙ sym v in
    subst (λ z. AreAlike R (Ran E s) (Ran F z)) setups
    (same_start R resumed n m y d e E F s give (subst (λ z. EndsFrom (record { resumed = resumed; ranks = n }) z d E) same h) k i j)

-- nothing changes the files
abbrev pub Same : World → World → Type 0
Same Y Z = (n : List ℕ) → Y.files n ≡ Z.files n

untouched_one : (A Y B Z : World) → B.files ≡ A.files → Untouched A Y → Untouched B Z → Same Y Z
untouched_one A Y B Z same h k n = ap (λ F. F n) (h.files ∙ sym same ∙ sym k.files)

-- refused in one way
refused_one : (R : Type 0) (Refuses : Status → Type 0) (A Y B Z : World) (a b : Status) → (Same Y Z → R) → B.files ≡ A.files → ((a b : Status) → Refuses a → Refuses b → a ≡ b) → Refuses a → Refuses b → Untouched A Y → Untouched B Z → AreAlike R (Refused a) (Refused b)
refused_one R Refuses A Y B Z a b give same one p q h k = record { status = one a b p q; text = ap status_text (one a b p q); files = give (untouched_one A Y B Z same h k) }

pub run_one : (R : Type 0) (n m : ℕ) (d e : Edge) (name : List ℕ) (o q : Outcome) → FindOneFolder d e → (Same d.new e.new → R)
    → ((i : InputsData) (C : List BodyData) → BeginsWith d.old.files name i C → BothGive R false n m (i, first_state C) d e)
    → RunDoes n d name o → RunDoes m e name q → IsDecided (status_of o) → IsDecided (status_of q) → AreAlike R o q
run_one R n m d e name (Ran E s) (Ran F t) one give both h k i j =
    let x : RunValue = run_value h.inputs h.bodies in
    let y : RunValue = run_value k.inputs k.bodies in
    let mine : RunGiven d.old.files name x = run_given d.old.files name h.inputs h.bodies (h.accepted one.first) in
    let begun : BeginsWith d.old.files name k.inputs k.bodies = subst (λ W. BeginsWith W name k.inputs k.bodies) one.files (k.accepted one.second) in
    let values : x ≡ y = (run_exact d.old.files name).one_value x y mine (run_given d.old.files name k.inputs k.bodies begun) in
    ran_one R false n m (h.inputs, first_state h.bodies) (k.inputs, first_state k.bodies) d e E F s t (both k.inputs k.bodies begun) (ap run_start values) h.setup k.setup h.ends k.ends i j
run_one R n m d e name (Ran E s) (Refused b) one give both h k i j =
    absurd ((run_exact d.old.files name).apart b (run_value h.inputs h.bodies) (subst (λ W. RunStages W name b) one.files (run_refused (shown_by e) name one.second b j k.0)) (run_given d.old.files name h.inputs h.bodies (h.accepted one.first)))
run_one R n m d e name (Refused a) (Ran F t) one give both h k i j =
    absurd ((run_exact e.old.files name).apart a (run_value k.inputs k.bodies) (subst (λ W. RunStages W name a) (sym one.files) (run_refused (shown_by d) name one.first a i h.0)) (run_given e.old.files name k.inputs k.bodies (k.accepted one.second)))
run_one R n m d e name (Refused a) (Refused b) one give both h k i j =
    refused_one R (RunStages d.old.files name) d.old d.new e.old e.new a b give one.files (run_exact d.old.files name).one_refusal (run_refused (shown_by d) name one.first a i h.0) (subst (λ W. RunStages W name b) one.files (run_refused (shown_by e) name one.second b j k.0)) h.1 k.1
run_one R n m d e name (Checked C) q one give both h k i j = absurd h
run_one R n m d e name (Shown head C) q one give both h k i j = absurd h
run_one R n m d e name (Made l c) q one give both h k i j = absurd h
run_one R n m d e name (Grouped x y) q one give both h k i j = absurd h
run_one R n m d e name (Linked x) q one give both h k i j = absurd h
run_one R n m d e name (Ran E s) (Checked C) one give both h k i j = absurd k
run_one R n m d e name (Ran E s) (Shown head C) one give both h k i j = absurd k
run_one R n m d e name (Ran E s) (Made l c) one give both h k i j = absurd k
run_one R n m d e name (Ran E s) (Grouped x y) one give both h k i j = absurd k
run_one R n m d e name (Ran E s) (Linked x) one give both h k i j = absurd k
run_one R n m d e name (Refused a) (Checked C) one give both h k i j = absurd k
run_one R n m d e name (Refused a) (Shown head C) one give both h k i j = absurd k
run_one R n m d e name (Refused a) (Made l c) one give both h k i j = absurd k
run_one R n m d e name (Refused a) (Grouped x y) one give both h k i j = absurd k
run_one R n m d e name (Refused a) (Linked x) one give both h k i j = absurd k

pub resume_one : (R : Type 0) (n m : ℕ) (d e : Edge) (name restart : List ℕ) (o q : Outcome) → FindOneFolder d e → (Same d.new e.new → R)
    → ((i : InputsData) (σ : StateData) → GoesOnFrom d.old.files name restart i σ → BothGive R true n m (i, σ) d e)
    → ResumeDoes n d name restart o → ResumeDoes m e name restart q → IsDecided (status_of o) → IsDecided (status_of q) → AreAlike R o q
resume_one R n m d e name restart (Ran E s) (Ran F t) one give both h k i j =
    let x : ResumeValue = resume_value h.inputs h.state in
    let y : ResumeValue = resume_value k.inputs k.state in
    let mine : ResumeGiven d.old.files name restart x = resume_given d.old.files name restart h.inputs h.state (h.accepted one.first) in
    let begun : GoesOnFrom d.old.files name restart k.inputs k.state = subst (λ W. GoesOnFrom W name restart k.inputs k.state) one.files (k.accepted one.second) in
    let values : x ≡ y = (resume_exact d.old.files name restart).one_value x y mine (resume_given d.old.files name restart k.inputs k.state begun) in
    ran_one R true n m (h.inputs, h.state) (k.inputs, k.state) d e E F s t (both k.inputs k.state begun) (ap resume_start values) h.setup k.setup h.ends k.ends i j
resume_one R n m d e name restart (Ran E s) (Refused b) one give both h k i j =
    absurd ((resume_exact d.old.files name restart).apart b (resume_value h.inputs h.state) (subst (λ W. ResumeStages W name restart b) one.files (resume_refused (shown_by e) name restart one.second b j k.0)) (resume_given d.old.files name restart h.inputs h.state (h.accepted one.first)))
resume_one R n m d e name restart (Refused a) (Ran F t) one give both h k i j =
    absurd ((resume_exact e.old.files name restart).apart a (resume_value k.inputs k.state) (subst (λ W. ResumeStages W name restart a) (sym one.files) (resume_refused (shown_by d) name restart one.first a i h.0)) (resume_given e.old.files name restart k.inputs k.state (k.accepted one.second)))
resume_one R n m d e name restart (Refused a) (Refused b) one give both h k i j =
    refused_one R (ResumeStages d.old.files name restart) d.old d.new e.old e.new a b give one.files (resume_exact d.old.files name restart).one_refusal (resume_refused (shown_by d) name restart one.first a i h.0) (subst (λ W. ResumeStages W name restart b) one.files (resume_refused (shown_by e) name restart one.second b j k.0)) h.1 k.1
resume_one R n m d e name restart (Checked C) q one give both h k i j = absurd h
resume_one R n m d e name restart (Shown head C) q one give both h k i j = absurd h
resume_one R n m d e name restart (Made l c) q one give both h k i j = absurd h
resume_one R n m d e name restart (Grouped x y) q one give both h k i j = absurd h
resume_one R n m d e name restart (Linked x) q one give both h k i j = absurd h
resume_one R n m d e name restart (Ran E s) (Checked C) one give both h k i j = absurd k
resume_one R n m d e name restart (Ran E s) (Shown head C) one give both h k i j = absurd k
resume_one R n m d e name restart (Ran E s) (Made l c) one give both h k i j = absurd k
resume_one R n m d e name restart (Ran E s) (Grouped x y) one give both h k i j = absurd k
resume_one R n m d e name restart (Ran E s) (Linked x) one give both h k i j = absurd k
resume_one R n m d e name restart (Refused a) (Checked C) one give both h k i j = absurd k
resume_one R n m d e name restart (Refused a) (Shown head C) one give both h k i j = absurd k
resume_one R n m d e name restart (Refused a) (Made l c) one give both h k i j = absurd k
resume_one R n m d e name restart (Refused a) (Grouped x y) one give both h k i j = absurd k
resume_one R n m d e name restart (Refused a) (Linked x) one give both h k i j = absurd k

-- ---- the commands that write nothing

pub check_one : (A Y B Z : World) (name : List ℕ) (o q : Outcome) → B.files ≡ A.files → CheckDoes (seen true A Y) name o → CheckDoes (seen true B Z) name q → Untouched A Y → Untouched B Z → IsDecided (status_of o) → IsDecided (status_of q) → AreAlike (Same Y Z) o q
check_one A Y B Z name (Checked C) (Checked D) same h k l m i j =
    let a = h.1 refl in
    let b = k.1 refl in
    let x : RunValue = run_value a.inputs C in
    let y : RunValue = run_value b.inputs D in
    let mine : RunGiven A.files name x = run_given A.files name a.inputs C a.accepted in
    let other : RunGiven B.files name y = run_given B.files name b.inputs D b.accepted in
    let values : x ≡ y = (run_exact A.files name).one_value x y mine (subst (λ F. RunGiven F name y) same other) in
    record { status = refl; text = ap (λ (z : RunValue). check_text z.1.1.1.1) values; files = untouched_one A Y B Z same l m }
check_one A Y B Z name (Checked C) (Refused b) same h k l m i j =
    let a = h.1 refl in
    absurd ((run_exact A.files name).apart b (run_value a.inputs C) (subst (λ F. RunStages F name b) same (run_refused (seen true B Z) name refl b j k)) (run_given A.files name a.inputs C a.accepted))
check_one A Y B Z name (Refused a) (Checked D) same h k l m i j =
    let b = k.1 refl in
    absurd ((run_exact B.files name).apart a (run_value b.inputs D) (subst (λ F. RunStages F name a) (sym same) (run_refused (seen true A Y) name refl a i h)) (run_given B.files name b.inputs D b.accepted))
check_one A Y B Z name (Refused a) (Refused b) same h k l m i j =
    refused_one (Same Y Z) (RunStages A.files name) A Y B Z a b (λ f. f) same (run_exact A.files name).one_refusal (run_refused (seen true A Y) name refl a i h) (subst (λ F. RunStages F name b) same (run_refused (seen true B Z) name refl b j k)) l m
check_one A Y B Z name (Ran e u) q same h k l m i j = absurd h
check_one A Y B Z name (Shown head C) q same h k l m i j = absurd h
check_one A Y B Z name (Made n b) q same h k l m i j = absurd h
check_one A Y B Z name (Grouped x y) q same h k l m i j = absurd h
check_one A Y B Z name (Linked x) q same h k l m i j = absurd h
check_one A Y B Z name (Checked C) (Ran e u) same h k l m i j = absurd k
check_one A Y B Z name (Checked C) (Shown head D) same h k l m i j = absurd k
check_one A Y B Z name (Checked C) (Made n b) same h k l m i j = absurd k
check_one A Y B Z name (Checked C) (Grouped x y) same h k l m i j = absurd k
check_one A Y B Z name (Checked C) (Linked x) same h k l m i j = absurd k
check_one A Y B Z name (Refused a) (Ran e u) same h k l m i j = absurd k
check_one A Y B Z name (Refused a) (Shown head D) same h k l m i j = absurd k
check_one A Y B Z name (Refused a) (Made n b) same h k l m i j = absurd k
check_one A Y B Z name (Refused a) (Grouped x y) same h k l m i j = absurd k
check_one A Y B Z name (Refused a) (Linked x) same h k l m i j = absurd k

-- a snapshot with its head
abbrev Spells : List ℕ → Head × List BodyData → Type 0
Spells bytes x = SpellsHead bytes x.0 × SpellsSnapshot bytes x.1

spells_exact : (bytes : List ℕ) → IsExact (IsNoSnapshot bytes) (Spells bytes)
spells_exact bytes = record {
  one_refusal = (snapshot_exact bytes).one_refusal;
  one_value = λ x y p q.
      let heads : x.0 ≡ y.0 = (reads_one_way bytes).one_head x.0 y.0 p.0 q.0 in
      let bodies : x.1 ≡ y.1 = (snapshot_exact bytes).one_value x.1 y.1 p.1 q.1 in
      λ i. (heads i, bodies i);
  apart = λ a x p q. (snapshot_exact bytes).apart a x.1 p q.1;
}

show_exact : (files : Files) (name : List ℕ) → IsExact (SnapshotRefuses files name) (FileSpells files name longest_snapshot Spells)
show_exact files name = file_exact files name longest_snapshot IsNoSnapshot Spells Snapshot spells_exact

shown : (files : Files) (name : List ℕ) (head : Head) (C : List BodyData) → NamesSnapshot files name head C → FileSpells files name longest_snapshot Spells (head, C)
shown files name head C n = record { bytes = n.bytes; read = n.read; spelled = (n.head_is, n.spelled) }

pub show_one : (A Y B Z : World) (name : List ℕ) (o q : Outcome) → B.files ≡ A.files → ShowDoes (seen true A Y) name o → ShowDoes (seen true B Z) name q → Untouched A Y → Untouched B Z → IsDecided (status_of o) → IsDecided (status_of q) → AreAlike (Same Y Z) o q
show_one A Y B Z name (Shown a C) (Shown b D) same h k l m i j =
    let values : (a, C) ≡ (b, D) = (show_exact A.files name).one_value (a, C) (b, D) (shown A.files name a C (h.1 refl)) (subst (λ F. FileSpells F name longest_snapshot Spells (b, D)) same (shown B.files name b D (k.1 refl))) in
    record { status = refl; text = ap (λ (z : Head × List BodyData). show_text z.0 z.1) values; files = untouched_one A Y B Z same l m }
show_one A Y B Z name (Shown a C) (Refused b) same h k l m i j =
    absurd ((show_exact A.files name).apart b (a, C) (subst (λ F. SnapshotRefuses F name b) same (snapshot_refused (seen true B Z) name refl b j k)) (shown A.files name a C (h.1 refl)))
show_one A Y B Z name (Refused a) (Shown b D) same h k l m i j =
    absurd ((show_exact B.files name).apart a (b, D) (subst (λ F. SnapshotRefuses F name a) (sym same) (snapshot_refused (seen true A Y) name refl a i h)) (shown B.files name b D (k.1 refl)))
show_one A Y B Z name (Refused a) (Refused b) same h k l m i j =
    refused_one (Same Y Z) (SnapshotRefuses A.files name) A Y B Z a b (λ f. f) same (show_exact A.files name).one_refusal (snapshot_refused (seen true A Y) name refl a i h) (subst (λ F. SnapshotRefuses F name b) same (snapshot_refused (seen true B Z) name refl b j k)) l m
show_one A Y B Z name (Ran e u) q same h k l m i j = absurd h
show_one A Y B Z name (Checked C) q same h k l m i j = absurd h
show_one A Y B Z name (Made n b) q same h k l m i j = absurd h
show_one A Y B Z name (Grouped x y) q same h k l m i j = absurd h
show_one A Y B Z name (Linked x) q same h k l m i j = absurd h
show_one A Y B Z name (Shown a C) (Ran e u) same h k l m i j = absurd k
show_one A Y B Z name (Shown a C) (Checked D) same h k l m i j = absurd k
show_one A Y B Z name (Shown a C) (Made n b) same h k l m i j = absurd k
show_one A Y B Z name (Shown a C) (Grouped x y) same h k l m i j = absurd k
show_one A Y B Z name (Shown a C) (Linked x) same h k l m i j = absurd k
show_one A Y B Z name (Refused a) (Ran e u) same h k l m i j = absurd k
show_one A Y B Z name (Refused a) (Checked D) same h k l m i j = absurd k
show_one A Y B Z name (Refused a) (Made n b) same h k l m i j = absurd k
show_one A Y B Z name (Refused a) (Grouped x y) same h k l m i j = absurd k
show_one A Y B Z name (Refused a) (Linked x) same h k l m i j = absurd k

-- ---- every command

pub at_once : (A Y B Z : World) (o q : Outcome) (status : Status) → B.files ≡ A.files → RefusesAtOnce A Y o status → RefusesAtOnce B Z q status → AreAlike (Same Y Z) o q
at_once A Y B Z o q status same h k = record { status = ap status_of (h.0 ∙ sym k.0); text = ap text_of (h.0 ∙ sym k.0); files = untouched_one A Y B Z same h.1 k.1 }
