-- One file is refused in one way at most, or gives one value.
use Rattle.std.proofs.Common.{◌≡◌, ◌⊎◌, ◌<◌, ℕ, IsTrue, List, length, Option, Some, None, inl, inr, refl, sym, ap, ◌∙◌, arith}
use Rattle.store_io.specs.Files.{Files}
use Rattle.text_words.specs.Comments.{lines_in}
use Rattle.nbody_model.specs.Tables.{TableData, ExpansionData}
use Rattle.param_file.specs.Settings.{ParamsData}
use Rattle.ewald_table.specs.TableFile.{Spell as SpellTable}
use Rattle.snap_file.specs.Snapshots.{SpellsSnapshot}
use Rattle.gadget.specs.declared.status.Status.{Status}
use Rattle.gadget.specs.declared.status.Status.TheVariants.{Done, Stopped, Usage, Memory, ReadFault, WriteFault, ConsoleFault, Absent, TooLong, Param, Outputs, Table, Snapshot, Restart, Differs, Expansion, Catalogue, MomRange, StepRange}
use Rattle.gadget.specs.Decided.{IsDecided}
use Rattle.gadget.specs.Reads.{Seen, WasRead, FileSpells, IsLong, NotRead}
use Rattle.gadget.specs.Inputs.{SpellsParams, IsBadParams, ParamRefusal, SpellsTimes, GivesTimes, ListRefusal, NamedListRefusal, longest_list, longest_parameters}
use Rattle.gadget.specs.Tables.{GivesTable, NamedTableRefusal, TableRefusal, longest_table}
use Rattle.gadget.specs.Factors.{SpellsFactors, GivesFactors, NamedFactorsRefusal, FactorsRefusal}
use Rattle.gadget.specs.Snapshots.{SnapshotRefusal, longest_snapshot}
use Rattle.gadget.specs.Restarts.{SpellsState, RestartRefusal, longest_restart}
use Rattle.gadget.proofs.Exact.{IsExact, Either, both_exact, mapped}
use Rattle.gadget.proofs.OneParams.{params_exact}
use Rattle.gadget.proofs.OneList.{IsNoList, list_exact}
use Rattle.gadget.proofs.OneTable.{IsNoTable, table_exact, IsNoFactors, factors_exact}
use Rattle.gadget.proofs.OneSnapshot.{IsNoSnapshot, snapshot_exact}
use Rattle.gadget.proofs.OneRestart.{IsNoRestart, restart_exact}

-- ---- any file

-- a file isn't read, by what the files say
pub record IsAbsent (files : Files) (name : List ℕ) (status : Status) : Type 0 where
  pub none : files name ≡ None
  pub is : status ≡ Absent name

pub record IsTooLong (files : Files) (name : List ℕ) (limit : ℕ) (status : Status) : Type 0 where
  pub len : ℕ
  pub over : limit < len
  pub long : IsLong files name limit len
  pub is : status ≡ TooLong name len

abbrev pub NotThere : Files → List ℕ → ℕ → Status → Type 0
NotThere files name limit status = IsAbsent files name status ⊎ IsTooLong files name limit status

some_one : {A : Type 0} {x y : A} {o : Option A} → o ≡ Some x → o ≡ Some y → x ≡ y
some_one e f = cc

none_some : {A : Type 0} {x : A} {o : Option A} → o ≡ None → o ≡ Some x → ⊥
none_some e f = cc

not_there_one : (files : Files) (name : List ℕ) (limit : ℕ) (a b : Status) → NotThere files name limit a → NotThere files name limit b → a ≡ b
not_there_one files name limit a b (inl p) (inl q) = p.is ∙ sym q.is
not_there_one files name limit a b (inl p) (inr q) = absurd (none_some p.none q.long.stands)
not_there_one files name limit a b (inr p) (inl q) = absurd (none_some q.none p.long.stands)
not_there_one files name limit a b (inr p) (inr q) =
    let same : p.len ≡ q.len = p.long.is ∙ ap length (some_one p.long.stands q.long.stands) ∙ sym q.long.is in
    p.is ∙ ap (TooLong name) same ∙ sym q.is

there : (files : Files) (name : List ℕ) (limit : ℕ) (a : Status) (bytes : List ℕ) → NotThere files name limit a → WasRead files name limit bytes → ⊥
there files name limit a bytes (inl p) r = none_some p.none r.stands
there files name limit a bytes (inr p) r =
    let same : length p.long.bytes ≡ length bytes = ap length (some_one p.long.stands r.stands) in
    omega (arith, p.over, p.long.is, r.short, same)

read_exact : (files : Files) (name : List ℕ) (limit : ℕ) → IsExact (NotThere files name limit) (WasRead files name limit)
read_exact files name limit = record {
  one_refusal = not_there_one files name limit;
  one_value = λ v w p q. some_one p.stands q.stands;
  apart = there files name limit;
}

-- a file whose bytes are read by a reader: why it is refused, and what it gives
abbrev pub FileRefuses : {F : Type 0} → Files → List ℕ → ℕ → (List ℕ → F → Type 0) → (F → Status) → Status → Type 0
FileRefuses {F} files name limit Fault called = Either (NotThere files name limit) (WasRead files name limit) (λ bytes status. (e : F) × (status ≡ called e) × Fault bytes e)

pub file_exact : {F V : Type 0} (files : Files) (name : List ℕ) (limit : ℕ) (Fault : List ℕ → F → Type 0) (Spells : List ℕ → V → Type 0) (called : F → Status) → ((bytes : List ℕ) → IsExact (Fault bytes) (Spells bytes)) → IsExact (FileRefuses files name limit Fault called) (FileSpells files name limit Spells)
file_exact {F} {V} files name limit Fault Spells called h =
    let both = both_exact {V = List ℕ} {W = V} (NotThere files name limit) (WasRead files name limit) (λ bytes status. (e : F) × (status ≡ called e) × Fault bytes e) Spells (read_exact files name limit) (λ bytes. mapped (Fault bytes) (Spells bytes) called (h bytes)) in
    record {
      one_refusal = both.one_refusal;
      one_value = λ v w p q. ap (λ x. x.1) (both.one_value (p.bytes, v) (q.bytes, w) (p.read, p.spelled) (q.read, q.spelled));
      apart = λ a v p q. both.apart a (q.bytes, v) p (q.read, q.spelled);
    }

-- why a file wasn't read, where that is decided
pub not_read : (s : Seen) (name : List ℕ) (limit : ℕ) → IsTrue s.tells → (status : Status) → IsDecided status → NotRead s name limit status → NotThere s.files name limit status
not_read s name limit t Done d r = absurd r
not_read s name limit t (Stopped a b) d r = absurd d
not_read s name limit t Usage d r = absurd r
not_read s name limit t Memory d r = absurd d
not_read s name limit t (ReadFault a) d r = absurd d
not_read s name limit t (WriteFault a) d r = absurd d
not_read s name limit t ConsoleFault d r = absurd d
not_read s name limit t (Absent a) d r = inl (record { none = r.1 t; is = ap Absent r.0 })
not_read s name limit t (TooLong a b) d r = inr (record { len = b; over = r.1; long = r.2 t; is = ap (λ n. TooLong n b) r.0 })
not_read s name limit t (Param a) d r = absurd r
not_read s name limit t (Outputs a) d r = absurd r
not_read s name limit t (Table a) d r = absurd r
not_read s name limit t (Snapshot a) d r = absurd r
not_read s name limit t (Restart a) d r = absurd r
not_read s name limit t (Differs a) d r = absurd r
not_read s name limit t (Catalogue n e) d r = absurd r
not_read s name limit t (Expansion a) d r = absurd r
not_read s name limit t (MomRange a b c axis) d r = absurd r
not_read s name limit t (StepRange a b) d r = absurd r

-- ---- the parameter file

abbrev pub ParamsRefuse : Files → List ℕ → Status → Type 0
ParamsRefuse files name = FileRefuses files name longest_parameters IsBadParams Param

pub params_file : (files : Files) (name : List ℕ) → IsExact (ParamsRefuse files name) (FileSpells files name longest_parameters SpellsParams)
params_file files name = file_exact files name longest_parameters IsBadParams SpellsParams Param (λ bytes. params_exact (lines_in bytes))

abbrev pub ParamStage : Files → List ℕ → (ParamsData → Status → Type 0) → Status → Type 0
ParamStage files name Next = Either (ParamsRefuse files name) (FileSpells files name longest_parameters SpellsParams) Next

pub params_refused : (s : Seen) (name : List ℕ) (Next : ParamsData → Status → Type 0) → IsTrue s.tells → (status : Status) → IsDecided status → ParamRefusal s name status → ParamStage s.files name Next status
params_refused s name Next t Done d r = absurd r
params_refused s name Next t (Stopped a b) d r = absurd d
params_refused s name Next t Usage d r = absurd r
params_refused s name Next t Memory d r = absurd d
params_refused s name Next t (ReadFault a) d r = absurd d
params_refused s name Next t (WriteFault a) d r = absurd d
params_refused s name Next t ConsoleFault d r = absurd d
params_refused s name Next t (Absent a) d r = inl (inl (not_read s name longest_parameters t (Absent a) d r))
params_refused s name Next t (TooLong a b) d r = inl (inl (not_read s name longest_parameters t (TooLong a b) d r))
params_refused s name Next t (Param a) d r = let f = r.1 t in inl (inr (f.bytes, f.read, (a, refl, f.fault)))
params_refused s name Next t (Outputs a) d r = absurd r
params_refused s name Next t (Table a) d r = absurd r
params_refused s name Next t (Snapshot a) d r = absurd r
params_refused s name Next t (Restart a) d r = absurd r
params_refused s name Next t (Differs a) d r = absurd r
params_refused s name Next t (Catalogue n e) d r = absurd r
params_refused s name Next t (Expansion a) d r = absurd r
params_refused s name Next t (MomRange a b c axis) d r = absurd r
params_refused s name Next t (StepRange a b) d r = absurd r

-- ---- the output list

abbrev pub ListRefuses : Files → Option (List ℕ) → Status → Type 0
ListRefuses files None status = ⊥
ListRefuses files (Some name) status = FileRefuses files name longest_list (λ bytes. IsNoList (lines_in bytes)) Outputs status

pub list_file : (files : Files) (o : Option (List ℕ)) → IsExact (ListRefuses files o) (GivesTimes files o)
list_file files None = record { one_refusal = λ a b p q. absurd p; one_value = λ v w p q. p ∙ sym q; apart = λ a v p q. p }
list_file files (Some name) = file_exact files name longest_list (λ bytes. IsNoList (lines_in bytes)) SpellsTimes Outputs (λ bytes. list_exact (lines_in bytes))

named_list_refused : (s : Seen) (name : List ℕ) → IsTrue s.tells → (status : Status) → IsDecided status → NamedListRefusal s name status → ListRefuses s.files (Some name) status
named_list_refused s name t Done d r = absurd r
named_list_refused s name t (Stopped a b) d r = absurd d
named_list_refused s name t Usage d r = absurd r
named_list_refused s name t Memory d r = absurd d
named_list_refused s name t (ReadFault a) d r = absurd d
named_list_refused s name t (WriteFault a) d r = absurd d
named_list_refused s name t ConsoleFault d r = absurd d
named_list_refused s name t (Absent a) d r = inl (not_read s name longest_list t (Absent a) d r)
named_list_refused s name t (TooLong a b) d r = inl (not_read s name longest_list t (TooLong a b) d r)
named_list_refused s name t (Param a) d r = absurd r
named_list_refused s name t (Outputs a) d r = let f = r.1 t in inr (f.bytes, f.read, (a, refl, record { plain = r.0; fault = f.fault }))
named_list_refused s name t (Table a) d r = absurd r
named_list_refused s name t (Snapshot a) d r = absurd r
named_list_refused s name t (Restart a) d r = absurd r
named_list_refused s name t (Differs a) d r = absurd r
named_list_refused s name t (Catalogue n e) d r = absurd r
named_list_refused s name t (Expansion a) d r = absurd r
named_list_refused s name t (MomRange a b c axis) d r = absurd r
named_list_refused s name t (StepRange a b) d r = absurd r

pub list_refused : (s : Seen) (o : Option (List ℕ)) → IsTrue s.tells → (status : Status) → IsDecided status → ListRefusal s o status → ListRefuses s.files o status
list_refused s None t status d r = absurd r
list_refused s (Some name) t status d r = named_list_refused s name t status d r

-- ---- the table of corrections

abbrev pub TableRefuses : Files → Option (List ℕ) → Status → Type 0
TableRefuses files None status = ⊥
TableRefuses files (Some name) status = FileRefuses files name longest_table IsNoTable Table status

one_table : (files : Files) (name : List ℕ) (v w : Option TableData) → GivesTable files (Some name) v → GivesTable files (Some name) w → v ≡ w
one_table files name None w p q = absurd p
one_table files name (Some v) None p q = absurd q
one_table files name (Some v) (Some w) p q =
    ap Some ((file_exact files name longest_table IsNoTable SpellTable Table table_exact).one_value v w p q)

no_table : (files : Files) (name : List ℕ) (a : Status) (v : Option TableData) → TableRefuses files (Some name) a → GivesTable files (Some name) v → ⊥
no_table files name a None p q = q
no_table files name a (Some v) p q = (file_exact files name longest_table IsNoTable SpellTable Table table_exact).apart a v p q

pub table_file : (files : Files) (o : Option (List ℕ)) → IsExact (TableRefuses files o) (GivesTable files o)
table_file files None = record { one_refusal = λ a b p q. absurd p; one_value = λ v w p q. p ∙ sym q; apart = λ a v p q. p }
table_file files (Some name) = record {
  one_refusal = (file_exact files name longest_table IsNoTable SpellTable Table table_exact).one_refusal;
  one_value = one_table files name;
  apart = no_table files name;
}

named_table_refused : (s : Seen) (name : List ℕ) → IsTrue s.tells → (status : Status) → IsDecided status → NamedTableRefusal s name status → TableRefuses s.files (Some name) status
named_table_refused s name t Done d r = absurd r
named_table_refused s name t (Stopped a b) d r = absurd d
named_table_refused s name t Usage d r = absurd r
named_table_refused s name t Memory d r = absurd d
named_table_refused s name t (ReadFault a) d r = absurd d
named_table_refused s name t (WriteFault a) d r = absurd d
named_table_refused s name t ConsoleFault d r = absurd d
named_table_refused s name t (Absent a) d r = inl (not_read s name longest_table t (Absent a) d r)
named_table_refused s name t (TooLong a b) d r = inl (not_read s name longest_table t (TooLong a b) d r)
named_table_refused s name t (Param a) d r = absurd r
named_table_refused s name t (Outputs a) d r = absurd r
named_table_refused s name t (Table a) d r = let f = r.1 t in inr (f.bytes, f.read, (a, refl, record { plain = r.0; fault = f.fault }))
named_table_refused s name t (Snapshot a) d r = absurd r
named_table_refused s name t (Restart a) d r = absurd r
named_table_refused s name t (Differs a) d r = absurd r
named_table_refused s name t (Catalogue n e) d r = absurd r
named_table_refused s name t (Expansion a) d r = absurd r
named_table_refused s name t (MomRange a b c axis) d r = absurd r
named_table_refused s name t (StepRange a b) d r = absurd r

pub table_refused : (s : Seen) (o : Option (List ℕ)) → IsTrue s.tells → (status : Status) → IsDecided status → TableRefusal s o status → TableRefuses s.files o status
table_refused s None t status d r = absurd r
table_refused s (Some name) t status d r = named_table_refused s name t status d r

-- ---- the table of factors

abbrev pub FactorsRefuse : Files → ℕ → Option (List ℕ) → Status → Type 0
FactorsRefuse files last None status = ⊥
FactorsRefuse files last (Some name) status = FileRefuses files name longest_table (λ bytes. IsNoFactors bytes last) Expansion status

factors_read : (files : Files) (last : ℕ) (name : List ℕ) → IsExact (FactorsRefuse files last (Some name)) (FileSpells files name longest_table (SpellsFactors last))
factors_read files last name = file_exact files name longest_table (λ bytes. IsNoFactors bytes last) (SpellsFactors last) Expansion (λ bytes. factors_exact bytes last)

one_factors : (files : Files) (last : ℕ) (name : List ℕ) (v w : Option ExpansionData) → GivesFactors files last (Some name) v → GivesFactors files last (Some name) w → v ≡ w
one_factors files last name None w p q = absurd p
one_factors files last name (Some v) None p q = absurd q
one_factors files last name (Some v) (Some w) p q =
    ap Some ((factors_read files last name).one_value v w p q)

no_factors : (files : Files) (last : ℕ) (name : List ℕ) (a : Status) (v : Option ExpansionData) → FactorsRefuse files last (Some name) a → GivesFactors files last (Some name) v → ⊥
no_factors files last name a None p q = q
no_factors files last name a (Some v) p q = (factors_read files last name).apart a v p q

pub factors_file : (files : Files) (last : ℕ) (o : Option (List ℕ)) → IsExact (FactorsRefuse files last o) (GivesFactors files last o)
factors_file files last None = record { one_refusal = λ a b p q. absurd p; one_value = λ v w p q. p ∙ sym q; apart = λ a v p q. p }
factors_file files last (Some name) = record {
  one_refusal = (factors_read files last name).one_refusal;
  one_value = one_factors files last name;
  apart = no_factors files last name;
}

named_factors_refused : (s : Seen) (last : ℕ) (name : List ℕ) → IsTrue s.tells → (status : Status) → IsDecided status → NamedFactorsRefusal s last name status → FactorsRefuse s.files last (Some name) status
named_factors_refused s last name t Done d r = absurd r
named_factors_refused s last name t (Stopped a b) d r = absurd d
named_factors_refused s last name t Usage d r = absurd r
named_factors_refused s last name t Memory d r = absurd d
named_factors_refused s last name t (ReadFault a) d r = absurd d
named_factors_refused s last name t (WriteFault a) d r = absurd d
named_factors_refused s last name t ConsoleFault d r = absurd d
named_factors_refused s last name t (Absent a) d r = inl (not_read s name longest_table t (Absent a) d r)
named_factors_refused s last name t (TooLong a b) d r = inl (not_read s name longest_table t (TooLong a b) d r)
named_factors_refused s last name t (Param a) d r = absurd r
named_factors_refused s last name t (Outputs a) d r = absurd r
named_factors_refused s last name t (Table a) d r = absurd r
named_factors_refused s last name t (Snapshot a) d r = absurd r
named_factors_refused s last name t (Restart a) d r = absurd r
named_factors_refused s last name t (Differs a) d r = absurd r
named_factors_refused s last name t (Catalogue n e) d r = absurd r
named_factors_refused s last name t (Expansion a) d r = let f = r.1 t in inr (f.bytes, f.read, (a, refl, record { plain = r.0; fault = f.fault }))
named_factors_refused s last name t (MomRange a b c axis) d r = absurd r
named_factors_refused s last name t (StepRange a b) d r = absurd r

pub factors_refused : (s : Seen) (last : ℕ) (o : Option (List ℕ)) → IsTrue s.tells → (status : Status) → IsDecided status → FactorsRefusal s last o status → FactorsRefuse s.files last o status
factors_refused s last None t status d r = absurd r
factors_refused s last (Some name) t status d r = named_factors_refused s last name t status d r

-- ---- the snapshot

abbrev pub SnapshotRefuses : Files → List ℕ → Status → Type 0
SnapshotRefuses files name = FileRefuses files name longest_snapshot IsNoSnapshot Snapshot

pub snapshot_file : (files : Files) (name : List ℕ) → IsExact (SnapshotRefuses files name) (FileSpells files name longest_snapshot SpellsSnapshot)
snapshot_file files name = file_exact files name longest_snapshot IsNoSnapshot SpellsSnapshot Snapshot snapshot_exact

pub snapshot_refused : (s : Seen) (name : List ℕ) → IsTrue s.tells → (status : Status) → IsDecided status → SnapshotRefusal s name status → SnapshotRefuses s.files name status
snapshot_refused s name t Done d r = absurd r
snapshot_refused s name t (Stopped a b) d r = absurd d
snapshot_refused s name t Usage d r = absurd r
snapshot_refused s name t Memory d r = absurd d
snapshot_refused s name t (ReadFault a) d r = absurd d
snapshot_refused s name t (WriteFault a) d r = absurd d
snapshot_refused s name t ConsoleFault d r = absurd d
snapshot_refused s name t (Absent a) d r = inl (not_read s name longest_snapshot t (Absent a) d r)
snapshot_refused s name t (TooLong a b) d r = inl (not_read s name longest_snapshot t (TooLong a b) d r)
snapshot_refused s name t (Param a) d r = absurd r
snapshot_refused s name t (Outputs a) d r = absurd r
snapshot_refused s name t (Table a) d r = absurd r
snapshot_refused s name t (Snapshot a) d r = let f = r.1 t in inr (f.bytes, f.read, (a, refl, record { plain = r.0; fault = f.fault }))
snapshot_refused s name t (Restart a) d r = absurd r
snapshot_refused s name t (Differs a) d r = absurd r
snapshot_refused s name t (Catalogue n e) d r = absurd r
snapshot_refused s name t (Expansion a) d r = absurd r
snapshot_refused s name t (MomRange a b c axis) d r = absurd r
snapshot_refused s name t (StepRange a b) d r = absurd r

-- ---- the restart file

abbrev pub RestartRefuses : Files → List ℕ → Status → Type 0
RestartRefuses files name = FileRefuses files name longest_restart IsNoRestart Restart

pub restart_file : (files : Files) (name : List ℕ) → IsExact (RestartRefuses files name) (FileSpells files name longest_restart SpellsState)
restart_file files name = file_exact files name longest_restart IsNoRestart SpellsState Restart restart_exact

pub restart_refused : (s : Seen) (name : List ℕ) → IsTrue s.tells → (status : Status) → IsDecided status → RestartRefusal s name status → RestartRefuses s.files name status
restart_refused s name t Done d r = absurd r
restart_refused s name t (Stopped a b) d r = absurd d
restart_refused s name t Usage d r = absurd r
restart_refused s name t Memory d r = absurd d
restart_refused s name t (ReadFault a) d r = absurd d
restart_refused s name t (WriteFault a) d r = absurd d
restart_refused s name t ConsoleFault d r = absurd d
restart_refused s name t (Absent a) d r = inl (not_read s name longest_restart t (Absent a) d r)
restart_refused s name t (TooLong a b) d r = inl (not_read s name longest_restart t (TooLong a b) d r)
restart_refused s name t (Param a) d r = absurd r
restart_refused s name t (Outputs a) d r = absurd r
restart_refused s name t (Table a) d r = absurd r
restart_refused s name t (Snapshot a) d r = absurd r
restart_refused s name t (Restart a) d r = let f = r.1 t in inr (f.bytes, f.read, (a, refl, record { plain = r.0; fault = f.fault }))
restart_refused s name t (Differs a) d r = absurd r
restart_refused s name t (Catalogue n e) d r = absurd r
restart_refused s name t (Expansion a) d r = absurd r
restart_refused s name t (MomRange a b c axis) d r = absurd r
restart_refused s name t (StepRange a b) d r = absurd r
