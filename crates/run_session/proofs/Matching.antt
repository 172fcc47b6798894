-- Where a run stands after each of its parts.
use Rattle.std.proofs.Common.{◌≡◌, ℕ, true, List, [], ◌∷◌, ◌++◌, map, length, Option, refl, ap, sym, ◌∙◌, subst, append_assoc}
use Rattle.nbody_model.specs.Passes.{PassesAll, Passes}
use Rattle.nbody_model.specs.States.{StateData}
use Rattle.nbody_model.specs.Session.{SessionData, Written, Snapshot, Restart, raised64, with_snapshot, with_restart, asked, kept}
use Rattle.run_session.specs.Causes.{IsAmong}
use Rattle.run_session.specs.Own.{Stands}
use Rattle.run_session.specs.Outputs.{file_name, with_written, session_texts}
use Rattle.run_session.specs.Stages.{Basis, HasFiles, IsQuietly, IsLeft, Matches, IsBrokenIn, WritesFile, WritesPart}
use Rattle.run_session.proofs.FileFacts.{written_more}
use Rattle.run_session.proofs.Breaking.{breaks_next}
use Rattle.run_session.specs.Worlds.{World}

map_more : {X Y : Type 0} (f : X → Y) (xs : List X) (x : X) → map f (xs ++ x ∷ []) ≡ map f xs ++ f x ∷ []
map_more f [] x = refl
map_more f (y ∷ ys) x = ap (λ zs. f y ∷ zs) (map_more f ys x)

-- a further file was written
module _ (C : Basis) (passes : Passes) (d : SessionData) (w : Written) (τ : StateData) (A Z : World) where
  abbrev with_one : SessionData
  with_one = record d { written = d.written ++ w ∷ []; state = τ }

  pub files_more : HasFiles C passes d A → Z.state ≡ A.state → WritesFile C.params C.own w C.told A.files Z.files A.closed Z.closed → HasFiles C passes with_one Z
  files_more h same f = record {
    events = h.events;
    found = subst (λ s. PassesAll passes (asked d) C.start.state h.events s) (sym same) h.found;
    files = λ told. subst (λ W. Stands C.own (session_texts d h.events) W Z.files) (sym (written_more C.params d.written w C.start.files))
        (f.files (session_texts d h.events) (with_written C.params d.written C.start.files) told (h.files told));
    closed = λ told. f.closed told ∙ ap (λ xs. xs ++ file_name C.params w ∷ []) (h.closed told) ∙ append_assoc C.start.closed (map (file_name C.params) d.written) (file_name C.params w ∷ []) ∙ ap (λ xs. C.start.closed ++ xs) (sym (map_more (file_name C.params) d.written w));
  }

-- a snapshot, if there is to be one
pub snapshot_matches : (C : Basis) (passes : Passes) (d : SessionData) (σ : StateData) (A Z : World) → Z.state ≡ A.state → Z.faults ≡ A.faults → Z.last ≡ A.last → Z.yes ≡ A.yes → Z.left ≡ A.left →
    Matches C passes d σ A → WritesFile C.params C.own (Snapshot σ.next_snapshot σ) C.told A.files Z.files A.closed Z.closed → Matches C passes (with_snapshot true d) (record σ { next_snapshot = raised64 σ.next_snapshot 1 }) Z
snapshot_matches C passes d σ A Z fs f l y t m w =
    let τ : StateData = record d.state { next_snapshot = raised64 d.state.next_snapshot 1 } in
    record {
      state = λ i. record (m.state i) { next_snapshot = raised64 (m.state i).next_snapshot 1 };
      files = files_more C passes d (Snapshot d.state.next_snapshot d.state) τ A Z m.files fs (subst (λ (ρ : StateData). WritesFile C.params C.own (Snapshot ρ.next_snapshot ρ) C.told A.files Z.files A.closed Z.closed) (sym m.state) w);
      quiet = still_quiet C.start A Z d f l y t m.quiet;
    }
  where
    still_quiet : (S A Z : World) (d : SessionData) → Z.faults ≡ A.faults → Z.last ≡ A.last → Z.yes ≡ A.yes → Z.left ≡ A.left → IsQuietly S A (length d.questions) → IsQuietly S Z (length d.questions)
    still_quiet S A Z d f l y t q = record { faults = f ∙ q.faults; last = l ∙ q.last; yes = y ∙ q.yes; left = subst (λ x. IsLeft S.left (length d.questions) x) (sym t) q.left }

pub snapshot_breaks : (C : Basis) (passes : Passes) (d : SessionData) (σ : StateData) (fault : Option (List ℕ)) (A Z : World) → IsAmong (file_name C.params (Snapshot σ.next_snapshot σ) ∷ []) fault →
    Matches C passes d σ A → WritesPart C.params C.own (Snapshot σ.next_snapshot σ) C.told A.files Z.files A.closed Z.closed → IsBrokenIn C passes (with_snapshot true d) fault Z
snapshot_breaks C passes d σ fault A Z b m w =
    breaks_next C passes d (with_snapshot true d) (Snapshot d.state.next_snapshot d.state) fault A Z refl refl refl (subst (λ (ρ : StateData). IsAmong (file_name C.params (Snapshot ρ.next_snapshot ρ) ∷ []) fault) (sym m.state) b) m.files
    (subst (λ (ρ : StateData). WritesPart C.params C.own (Snapshot ρ.next_snapshot ρ) C.told A.files Z.files A.closed Z.closed) (sym m.state) w)

-- a restart file
pub restart_files : (C : Basis) (passes : Passes) (d : SessionData) (σ : StateData) (A Z : World) → Z.state ≡ A.state → d.state ≡ σ →
    HasFiles C passes d A → WritesFile C.params C.own (Restart σ.next_restart (record σ { next_restart = raised64 σ.next_restart 1 })) C.told A.files Z.files A.closed Z.closed → HasFiles C passes (with_restart true d) Z
restart_files C passes d σ A Z fs s h w =
    files_more C passes d (Restart d.state.next_restart (kept d.state)) (kept d.state) A Z h fs (subst (λ (ρ : StateData). WritesFile C.params C.own (Restart ρ.next_restart (kept ρ)) C.told A.files Z.files A.closed Z.closed) (sym s) w)

pub restart_breaks : (C : Basis) (passes : Passes) (d : SessionData) (σ : StateData) (fault : Option (List ℕ)) (A Z : World) → IsAmong (file_name C.params (Restart σ.next_restart (kept σ)) ∷ []) fault → d.state ≡ σ →
    HasFiles C passes d A → WritesPart C.params C.own (Restart σ.next_restart (record σ { next_restart = raised64 σ.next_restart 1 })) C.told A.files Z.files A.closed Z.closed → IsBrokenIn C passes (with_restart true d) fault Z
restart_breaks C passes d σ fault A Z b s h w =
    breaks_next C passes d (with_restart true d) (Restart d.state.next_restart (kept d.state)) fault A Z refl refl refl (subst (λ (ρ : StateData). IsAmong (file_name C.params (Restart ρ.next_restart (kept ρ)) ∷ []) fault) (sym s) b) h
    (subst (λ (ρ : StateData). WritesPart C.params C.own (Restart ρ.next_restart (kept ρ)) C.told A.files Z.files A.closed Z.closed) (sym s) w)
