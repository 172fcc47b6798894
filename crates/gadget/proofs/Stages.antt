-- A refusal at a later stage of reading is one of the whole reading.
use Rattle.std.proofs.Common.{◌≡◌, ℕ, Bool, IsTrue, List, Option, sym, subst, ◌∙◌, inl, inr}
use Rattle.store_io.specs.Causes.{Call}
use Rattle.store_io.specs.Files.{Files}
use Rattle.nbody_model.specs.Setups.{last_tick}
use Rattle.nbody_model.specs.Tables.{TableData}
use Rattle.param_file.specs.Settings.{ParamsData, setup_of}
use Rattle.gadget.specs.declared.status.Status.{Status}
use Rattle.gadget.specs.Reads.{Seen}
use Rattle.gadget.specs.Tables.{GivesTable, TableRefusal}
use Rattle.gadget.specs.Factors.{FactorsRefusal}
use Rattle.gadget.specs.Inputs.{NamesParams, GivesTimes, FirstRefusal}

-- what is seen from a stage on
abbrev pub seen : Bool → Files → ℕ → ℕ → Option Call → Seen
seen tells files faults now last = record { tells = tells; files = files; faults = faults; faults_new = now; last = last }

pub seen_is : (t1 t : Bool) (d1 d : Files) (n1 n now : ℕ) (last : Option Call) → t1 ≡ t → d1 ≡ d → n1 ≡ n → seen t1 d1 n1 now last ≡ seen t d n now last
seen_is t1 t d1 d n1 n now last a b c = λ i. record { tells = a i; files = b i; faults = c i; faults_new = now; last = last }

-- what holds of the files at a stage holds of them at the first
pub held : (P : Files → Type 0) (t1 t : Bool) (d1 d : Files) → t1 ≡ t → d1 ≡ d → (IsTrue t1 → P d1) → IsTrue t → P d
held P t1 t d1 d a b h k = subst P b (h (subst (λ (b : Bool). IsTrue b) (sym a) k))

pub table_refused : (t t1 t2 : Bool) (d d1 d2 : Files) (n n1 n2 now : ℕ) (last : Option Call) (name : List ℕ) (p : ParamsData) (times : List ℕ) (status : Status)
    → t1 ≡ t → t2 ≡ t1 → d1 ≡ d → d2 ≡ d1 → n1 ≡ n → n2 ≡ n1
    → (IsTrue t → NamesParams d name p)
    → (IsTrue t1 → GivesTimes d1 p.output_list_filename times)
    → TableRefusal (seen t2 d2 n2 now last) p.ewald_table_file status
    → FirstRefusal (seen t d n now last) name status
table_refused t t1 t2 d d1 d2 n n1 n2 now last name p times status a1 a2 b1 b2 c1 c2 named listed refused =
    inr (inr (inl (record {
      params = p;
      named = named;
      times = times;
      listed = held (λ F. GivesTimes F p.output_list_filename times) t1 t d1 d a1 b1 listed;
      refused = subst (λ (s : Seen). TableRefusal s p.ewald_table_file status) (seen_is t2 t d2 d n2 n now last (a2 ∙ a1) (b2 ∙ b1) (c2 ∙ c1)) refused;
    })))

pub factors_refused : (t t1 t2 t3 : Bool) (d d1 d2 d3 : Files) (n n1 n2 n3 now : ℕ) (last : Option Call) (name : List ℕ) (p : ParamsData) (times : List ℕ) (table : Option TableData) (status : Status)
    → t1 ≡ t → t2 ≡ t1 → t3 ≡ t2 → d1 ≡ d → d2 ≡ d1 → d3 ≡ d2 → n1 ≡ n → n2 ≡ n1 → n3 ≡ n2
    → (IsTrue t → NamesParams d name p)
    → (IsTrue t1 → GivesTimes d1 p.output_list_filename times)
    → (IsTrue t2 → GivesTable d2 p.ewald_table_file table)
    → FactorsRefusal (seen t3 d3 n3 now last) (last_tick (setup_of p)) p.expansion_table_file status
    → FirstRefusal (seen t d n now last) name status
factors_refused t t1 t2 t3 d d1 d2 d3 n n1 n2 n3 now last name p times table status a1 a2 a3 b1 b2 b3 c1 c2 c3 named listed corrected refused =
    inr (inr (inr (record {
      params = p;
      named = named;
      times = times;
      listed = held (λ F. GivesTimes F p.output_list_filename times) t1 t d1 d a1 b1 listed;
      table = table;
      corrected = held (λ F. GivesTable F p.ewald_table_file table) t2 t d2 d (a2 ∙ a1) (b2 ∙ b1) corrected;
      refused = subst (λ (s : Seen). FactorsRefusal s (last_tick (setup_of p)) p.expansion_table_file status) (seen_is t3 t d3 d n3 n now last (a3 ∙ a2 ∙ a1) (b3 ∙ b2 ∙ b1) (c3 ∙ c2 ∙ c1)) refused;
    })))
