-- Bytes spell at most one state, and then have no fault.
use Rattle.std.proofs.Common.{◌≡◌, ℕ, List, Option, Some, None, sym, ap, ◌∙◌}
use Rattle.nbody_model.specs.Setups.{SetupData}
use Rattle.nbody_model.specs.States.{StateData}
use Rattle.particle_set.proofs.OneSet.{no_refusal, one_set}
use Rattle.restart_files.specs.declared.errors.RestartErr.{RestartErr}
use Rattle.restart_files.specs.declared.errors.RestartErr.TheVariants.{Tag, Length, Version, Field, EndMark, Bodies as InBodies, Memory}
use Rattle.restart_files.specs.Exact.{IsWantOfMemory, ReadOneWay}
use Rattle.restart_files.specs.RestartFile.{IsFirstFault, Spell, rows_in, state_in}

none_some : {A : Type 0} (o : Option A) (x : A) → o ≡ None → o ≡ Some x → ⊥
none_some o x e f = cc

apart : (bytes : List ℕ) (σ : StateData) (s : SetupData) (e : RestartErr) → Spell bytes σ s → IsFirstFault bytes e → IsWantOfMemory e
apart bytes σ s Tag h f = none_some _ Tag h.faultless f
apart bytes σ s (Length want got) h f = none_some _ (Length want got) h.faultless f
apart bytes σ s (Version v) h f = none_some _ (Version v) h.faultless f
apart bytes σ s (Field at) h f = none_some _ (Field at) h.faultless f
apart bytes σ s EndMark h f = none_some _ EndMark h.faultless f
apart bytes σ s (InBodies e) h f = no_refusal (rows_in bytes) σ.bodies e h.bodies f.refused
apart bytes σ s Memory h f = tt

pub reads_one_way : (bytes : List ℕ) → ReadOneWay bytes
reads_one_way bytes = record {
  one_state = λ σ τ s t h k. h.state ∙ ap (state_in bytes) (one_set (rows_in bytes) σ.bodies τ.bodies h.bodies k.bodies) ∙ sym k.state;
  one_setup = λ σ τ s t h k. h.setup ∙ sym k.setup;
  apart = apart bytes;
}
