-- Bytes that are no restart file have one first fault.
use Rattle.std.proofs.Common.{◌≡◌, ℕ, List, Some, None, inl, inr, refl}
use Rattle.particle_set.specs.declared.row.SetErr.{SetErr}
use Rattle.particle_set.specs.Rows.{IsSetOf}
use Rattle.restart_files.specs.declared.errors.RestartErr.{RestartErr}
use Rattle.restart_files.specs.declared.errors.RestartErr.TheVariants.{Tag, Length, Version, Field, EndMark, Bodies as InBodies, Memory}
use Rattle.restart_files.specs.Exact.{IsWantOfMemory}
use Rattle.restart_files.specs.RestartFile.{IsFirstFault, first_fault, rows_in}
use Rattle.restart_files.proofs.OneReading.{reads_one_way}
use Rattle.gadget.specs.Restarts.{SpellsState}
use Rattle.gadget.proofs.Exact.{IsExact, Either, OneWay, either_one, check_exact, mapped}
use Rattle.gadget.proofs.OneRefusal.{IsRefused, rows_exact}

abbrev Rows : List ℕ → RestartErr → Type 0
Rows bytes e = (r : SetErr) × (e ≡ InBodies r) × IsRefused (rows_in bytes) r

abbrev Faults : List ℕ → RestartErr → Type 0
Faults bytes = Either (λ e. first_fault bytes ≡ Some e) (λ (u : Unit {0}). first_fault bytes ≡ None) (λ u. Rows bytes)

faults_one : (bytes : List ℕ) → OneWay (Faults bytes)
faults_one bytes = either_one _ _ (λ u. Rows bytes) (check_exact (first_fault bytes)) (λ u. (mapped (IsRefused (rows_in bytes)) (IsSetOf (rows_in bytes)) InBodies (rows_exact (rows_in bytes))).one_refusal)

is_fault : (bytes : List ℕ) (e : RestartErr) → (IsWantOfMemory e → ⊥) → IsFirstFault bytes e → Faults bytes e
is_fault bytes Tag p f = inl f
is_fault bytes (Length want got) p f = inl f
is_fault bytes (Version v) p f = inl f
is_fault bytes (Field at) p f = inl f
is_fault bytes EndMark p f = inl f
is_fault bytes (InBodies e) p f = inr (tt, f.faultless, (e, refl, record { plain = p; first = f.refused }))
is_fault bytes Memory p f = absurd (p tt)

-- the bytes aren't a restart file, by this error, which isn't want of memory
pub record IsNoRestart (bytes : List ℕ) (e : RestartErr) : Type 0 where
  pub plain : IsWantOfMemory e → ⊥
  pub fault : IsFirstFault bytes e

pub restart_exact : (bytes : List ℕ) → IsExact (IsNoRestart bytes) (SpellsState bytes)
restart_exact bytes = record {
  one_refusal = λ a b p q. faults_one bytes a b (is_fault bytes a p.plain p.fault) (is_fault bytes b q.plain q.fault);
  one_value = λ x y p q.
      let states : x.0 ≡ y.0 = (reads_one_way bytes).one_state x.0 y.0 x.1 y.1 p q in
      let setups : x.1 ≡ y.1 = (reads_one_way bytes).one_setup x.0 y.0 x.1 y.1 p q in
      λ i. (states i, setups i);
  apart = λ e x p h. p.plain ((reads_one_way bytes).apart x.0 x.1 e h p.fault);
}
