-- All that a run reads is refused in one way at most, or gives one value.
use Rattle.std.proofs.Common.{◌≡◌, ◌⊎◌, ℕ, Bool, true, false, not, ◌==◌, IsTrue, List, [], ◌∷◌, ◌++◌, Option, Some, None, inl, inr, refl, sym, ap, subst, ◌∙◌, cond}
use Rattle.std.specs.Prelude.{find, option_map}
use Rattle.std.proofs.lemmas.Bool.Decides.{nat_tests}
use Rattle.store_io.specs.Files.{Files}
use Rattle.nbody_model.specs.Bodies.{BodyData}
use Rattle.nbody_model.specs.Setups.{SetupData, last_tick}
use Rattle.nbody_model.specs.States.{StateData}
use Rattle.nbody_model.specs.Tables.{TableData, ExpansionData}
use Rattle.param_file.specs.Settings.{ParamsData, setup_of}
use Rattle.snap_file.specs.Snapshots.{SpellsSnapshot}
use Rattle.restart_files.specs.Differences.{Setting, differing, first_difference, rules, softenings}
use Rattle.gadget.specs.declared.status.Status.{Status}
use Rattle.gadget.specs.declared.status.Status.TheVariants.{Differs}
use Rattle.gadget.specs.Decided.{IsDecided}
use Rattle.gadget.specs.Reads.{Seen, FileSpells}
use Rattle.gadget.specs.Inputs.{InputsData, SpellsParams, Accepts, FirstRefusal, GivesTimes, longest_parameters}
use Rattle.gadget.specs.Tables.{GivesTable}
use Rattle.gadget.specs.Factors.{GivesFactors}
use Rattle.gadget.specs.Snapshots.{longest_snapshot}
use Rattle.gadget.specs.Restarts.{SpellsState, DiffersIn, longest_restart}
use Rattle.gadget.specs.Begins.{BeginsWith, GoesOnFrom, ResumeRefusal, RunRefusal}
use Rattle.gadget.proofs.Exact.{IsExact, Either, Both, both_exact}
use Rattle.gadget.proofs.OneFile.{ParamStage, params_file, params_refused, ListRefuses, list_file, list_refused, TableRefuses, table_file, table_refused, FactorsRefuse, factors_file, factors_refused, SnapshotRefuses, snapshot_file, snapshot_refused, RestartRefuses, restart_file, restart_refused}

-- ---- the parameter file, the list and the tables, and what is read behind them

-- why what comes behind is refused, by what was read
abbrev pub Refusing : Type 1
Refusing = ParamsData → List ℕ → Option TableData → Option ExpansionData → Status → Type 0

abbrev FactorStage : Files → Refusing → ParamsData → List ℕ → Option TableData → Status → Type 0
FactorStage files Next p times table = Either (FactorsRefuse files (last_tick (setup_of p)) p.expansion_table_file) (GivesFactors files (last_tick (setup_of p)) p.expansion_table_file) (λ factors. Next p times table factors)

abbrev TableStage : Files → Refusing → ParamsData → List ℕ → Status → Type 0
TableStage files Next p times = Either (TableRefuses files p.ewald_table_file) (GivesTable files p.ewald_table_file) (λ table. FactorStage files Next p times table)

abbrev ListStage : Files → Refusing → ParamsData → Status → Type 0
ListStage files Next p = Either (ListRefuses files p.output_list_filename) (GivesTimes files p.output_list_filename) (λ times. TableStage files Next p times)

abbrev pub Stages : Files → List ℕ → Refusing → Status → Type 0
Stages files name Next = ParamStage files name (λ p. ListStage files Next p)

-- what comes behind, by what was read
abbrev pub Giving : Type 0 → Type 1
Giving W = ParamsData → List ℕ → Option TableData → Option ExpansionData → W → Type 0

abbrev FactorGives : {W : Type 0} → Files → Giving W → ParamsData → List ℕ → Option TableData → Option ExpansionData × W → Type 0
FactorGives {W} files Gives p times table = Both (GivesFactors files (last_tick (setup_of p)) p.expansion_table_file) (λ factors. Gives p times table factors)

abbrev TableGives : {W : Type 0} → Files → Giving W → ParamsData → List ℕ → Option TableData × (Option ExpansionData × W) → Type 0
TableGives {W} files Gives p times = Both (GivesTable files p.ewald_table_file) (λ table. FactorGives files Gives p times table)

abbrev ListGives : {W : Type 0} → Files → Giving W → ParamsData → List ℕ × (Option TableData × (Option ExpansionData × W)) → Type 0
ListGives {W} files Gives p = Both (GivesTimes files p.output_list_filename) (λ times. TableGives files Gives p times)

abbrev pub AllGiven : {W : Type 0} → Files → List ℕ → Giving W → ParamsData × (List ℕ × (Option TableData × (Option ExpansionData × W))) → Type 0
AllGiven {W} files name Gives = Both (FileSpells files name longest_parameters SpellsParams) (λ p. ListGives files Gives p)

pub stages_exact : {W : Type 0} (files : Files) (name : List ℕ) (Next : Refusing) (Gives : Giving W) → ((p : ParamsData) (times : List ℕ) (table : Option TableData) (factors : Option ExpansionData) → IsExact (Next p times table factors) (Gives p times table factors)) → IsExact (Stages files name Next) (AllGiven files name Gives)
stages_exact {W} files name Next Gives h =
    both_exact _ _ _ _ (params_file files name)
    (λ p. both_exact _ _ _ _ (list_file files p.output_list_filename)
    (λ times. both_exact _ _ _ _ (table_file files p.ewald_table_file)
    (λ table. both_exact _ _ _ _ (factors_file files (last_tick (setup_of p)) p.expansion_table_file)
    (λ factors. h p times table factors))))

-- what is refused behind inputs that are accepted
pub behind : (files : Files) (name : List ℕ) (Next : Refusing) (i : InputsData) (status : Status) → Accepts files name i → Next i.params i.times i.table i.factors status → Stages files name Next status
behind files name Next i status a n =
    inr (i.params, a.params, inr (i.times, a.listed, inr (i.table, a.corrected, inr (i.factors, a.expanded, n))))

pub all_given : {W : Type 0} (files : Files) (name : List ℕ) (Gives : Giving W) (i : InputsData) (w : W) → Accepts files name i → Gives i.params i.times i.table i.factors w → AllGiven files name Gives (i.params, (i.times, (i.table, (i.factors, w))))
all_given {W} files name Gives i w a g = (a.params, (a.listed, (a.corrected, (a.expanded, g))))

pub first_refused : (s : Seen) (name : List ℕ) (Next : Refusing) → IsTrue s.tells → (status : Status) → IsDecided status → FirstRefusal s name status → Stages s.files name Next status
first_refused s name Next t status d (inl r) = params_refused s name (λ p. ListStage s.files Next p) t status d r
first_refused s name Next t status d (inr (inl r)) =
    let p = r.params in
    inr (p, r.named t, inl (list_refused s p.output_list_filename t status d r.refused))
first_refused s name Next t status d (inr (inr (inl r))) =
    let p = r.params in
    inr (p, r.named t, inr (r.times, r.listed t, inl (table_refused s p.ewald_table_file t status d r.refused)))
first_refused s name Next t status d (inr (inr (inr r))) =
    let p = r.params in
    inr (
      p,
      r.named t,
      inr (r.times, r.listed t, inr (r.table, r.corrected t, inl (factors_refused s (last_tick (setup_of p)) p.expansion_table_file t status d r.refused))),
    )

-- ---- a run

abbrev NoBodies : Files → Refusing
NoBodies files p times table factors = SnapshotRefuses files p.init_cond_file

abbrev GivesBodies : Files → Giving (List BodyData)
GivesBodies files p times table factors = FileSpells files p.init_cond_file longest_snapshot SpellsSnapshot

abbrev pub RunStages : Files → List ℕ → Status → Type 0
RunStages files name = Stages files name (NoBodies files)

abbrev pub RunValue : Type 0
RunValue = ParamsData × (List ℕ × (Option TableData × (Option ExpansionData × List BodyData)))

abbrev pub run_value : InputsData → List BodyData → RunValue
run_value i B = (i.params, (i.times, (i.table, (i.factors, B))))

abbrev pub RunGiven : Files → List ℕ → RunValue → Type 0
RunGiven files name = AllGiven files name (GivesBodies files)

pub run_exact : (files : Files) (name : List ℕ) → IsExact (RunStages files name) (RunGiven files name)
run_exact files name = stages_exact files name (NoBodies files) (GivesBodies files) (λ p times table factors. snapshot_file files p.init_cond_file)

pub run_refused : (s : Seen) (name : List ℕ) → IsTrue s.tells → (status : Status) → IsDecided status → RunRefusal s name status → RunStages s.files name status
run_refused s name t status d (inl r) = first_refused s name (NoBodies s.files) t status d r
run_refused s name t status d (inr r) =
    behind s.files name (NoBodies s.files) r.inputs status (r.accepted t) (snapshot_refused s r.inputs.params.init_cond_file t status d r.refused)

pub run_given : (files : Files) (name : List ℕ) (i : InputsData) (B : List BodyData) → BeginsWith files name i B → RunGiven files name (run_value i B)
run_given files name i B b = all_given files name (GivesBodies files) i B b.accepted b.bodies

-- ---- a run that is resumed

same_number : (n : ℕ) → not (n == n) ≡ false
same_number n = grind (Rattle.std.proofs.Common.arith, nat_tests)

none_differs : (settings : List Setting) (s : SetupData) → differing settings s s ≡ None
none_differs [] s = refl
none_differs (x ∷ settings) s =
    ap (λ b. option_map (λ (y : Setting). y.name) (cond b (Some x) (find (λ (y : Setting). not (y.number s == y.number s)) settings))) (same_number (x.number s)) ∙ none_differs settings s

none_some : {A : Type 0} {x : A} {o : Option A} → o ≡ None → o ≡ Some x → ⊥
none_some e f = cc

some_one : {A : Type 0} {x y : A} {o : Option A} → o ≡ Some x → o ≡ Some y → x ≡ y
some_one e f = cc

settings_exact : (s now : SetupData) → IsExact (DiffersIn s now) (λ (u : Unit {0}). s ≡ now)
settings_exact s now = record {
  one_refusal = λ a b p q. p.2 ∙ ap Differs (some_one p.1 q.1) ∙ sym q.2;
  one_value = λ u v p q. refl;
  apart = λ a u p e. none_some (subst (λ x. first_difference s x ≡ None) e (none_differs (rules ++ softenings) s)) p.1;
}

abbrev NoState : Files → List ℕ → Refusing
NoState files restart p times table factors = Either (RestartRefuses files restart) (FileSpells files restart longest_restart SpellsState) (λ x. DiffersIn x.1 (setup_of p))

abbrev GivesState : Files → List ℕ → Giving ((StateData × SetupData) × Unit {0})
GivesState files restart p times table factors = Both (FileSpells files restart longest_restart SpellsState) (λ x u. x.1 ≡ setup_of p)

abbrev pub ResumeStages : Files → List ℕ → List ℕ → Status → Type 0
ResumeStages files name restart = Stages files name (NoState files restart)

abbrev pub ResumeValue : Type 0
ResumeValue = ParamsData × (List ℕ × (Option TableData × (Option ExpansionData × ((StateData × SetupData) × Unit {0}))))

abbrev pub resume_value : InputsData → StateData → ResumeValue
resume_value i σ = (i.params, (i.times, (i.table, (i.factors, ((σ, setup_of i.params), tt)))))

abbrev pub ResumeGiven : Files → List ℕ → List ℕ → ResumeValue → Type 0
ResumeGiven files name restart = AllGiven files name (GivesState files restart)

pub resume_exact : (files : Files) (name restart : List ℕ) → IsExact (ResumeStages files name restart) (ResumeGiven files name restart)
resume_exact files name restart =
    stages_exact files name (NoState files restart) (GivesState files restart)
    (λ p times table factors. both_exact _ _ _ _ (restart_file files restart) (λ x. settings_exact x.1 (setup_of p)))

pub resume_refused : (s : Seen) (name restart : List ℕ) → IsTrue s.tells → (status : Status) → IsDecided status → ResumeRefusal s name restart status → ResumeStages s.files name restart status
resume_refused s name restart t status d (inl r) = first_refused s name (NoState s.files restart) t status d r
resume_refused s name restart t status d (inr (inl r)) =
    behind s.files name (NoState s.files restart) r.inputs status (r.accepted t) (inl (restart_refused s restart t status d r.refused))
resume_refused s name restart t status d (inr (inr r)) =
    behind s.files name (NoState s.files restart) r.inputs status (r.accepted t) (inr ((r.state, r.setup), r.kept t, r.refused))

pub resume_given : (files : Files) (name restart : List ℕ) (i : InputsData) (σ : StateData) → GoesOnFrom files name restart i σ → ResumeGiven files name restart (resume_value i σ)
resume_given files name restart i σ b = all_given files name (GivesState files restart) i ((σ, setup_of i.params), tt) b.accepted (b.state, refl)
