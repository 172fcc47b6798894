-- What a run keeps can be read, and a session that is resumed from it goes on as the run does.
use Rattle.std.proofs.Common.{◌≡◌, ◌<◌, ◌⊎◌, inl, inr, ℕ, ◌*◌, ◌^◌, min, Bool, true, false, cond, ◌&&◌, ◌==◌, nat_lt, List, [], ◌∷◌, length, Option, Some, None, refl, ap, sym, ◌∙◌, subst, arith, eq-eqb}
use Rattle.std.specs.List.{AllByRecursion, flat_map}
use Rattle.std.specs.Option.{option_or}
use Rattle.std.proofs.lemmas.Bool.{ltb-true}
use Rattle.nbody_model.specs.Bodies.{BodyData, IsValid}
use Rattle.nbody_model.specs.Setups.{SetupData, IsSetup}
use Rattle.nbody_model.specs.States.{StateData}
use Rattle.nbody_model.specs.RestartText.{body_bytes, restart_text, whole_text}
use Rattle.nbody_model.specs.Session.{Restart, session, kept}
use Rattle.model_laws.specs.Resumed.{IsOneOf, GoesOn}
use Rattle.model_laws.proofs.Resumed.{sessions_go_on}
use Rattle.restart_files.specs.declared.errors.RestartErr.{RestartErr}
use Rattle.restart_files.specs.declared.errors.RestartErr.TheVariants.{Field}
use Rattle.particle_set.specs.Stored.{IsStorable}
use Rattle.restart_files.specs.Stored.{AreStorable, IsKept}
use Rattle.restart_files.specs.RestartFile.{Spell, bodies_fault, head_fault, is_between_steps, is_inside_step, is_tick, low_bin_in, rules_fault, softening_fault, steps_in, tick_fault, tick_in, time_max_in, top_bin_in, version_in}
use Rattle.restart_files.proofs.Front.{IsFront, front_back}
use Rattle.restart_files.proofs.Joins.{without}
use Rattle.restart_files.proofs.OneReading.{reads_one_way}
use Rattle.restart_files.proofs.RoundTrip.{reads_written}
use Rattle.restart_laws.specs.Kept.{RestartFilesAreRead, RestartFilesGoOn}
use Rattle.restart_laws.proofs.Bodies.{still_valid, together}
use Rattle.restart_laws.proofs.Sessions.{IsFine, IsGood, IsGoodFile, IsOver, run_keeps}

pub found : {X : Type 0} (P : X → Type 0) (x : X) (xs : List X) → AllByRecursion P xs → IsOneOf x xs → P x
found P x [] a h = absurd h
found P x (y ∷ ys) a (inl e) = subst P (sym e) a.0
found P x (y ∷ ys) a (inr h) = found P x ys a.1 h

pub good_spells : (s : SetupData) (B : List BodyData) (σ : StateData) → IsSetup s → IsValid B → IsGood s B σ → Spell (restart_text σ s) σ s
good_spells s B σ h v g = reads_written σ s (still_valid B σ.bodies g.safe v) (together IsStorable σ.bodies g.safe.each) g.room h g.goes

pub are_read : RestartFilesAreRead
are_read plan stop σ f h n ρ w =
    let s = plan.rules.gravity.setup in
    good_spells s σ.bodies ρ h f.valid (found (IsGoodFile s σ.bodies) (Restart n ρ) (session plan false stop σ).written (run_keeps plan stop σ f h).files w)

-- ---- the state at the end of a run: its restart file spells nothing

later : (a b : Option RestartErr) → option_or a b ≡ None → (a ≡ None) × (b ≡ None)
later None b e = (refl, e)
later (Some x) b e = absurd cc

passes : (t : Bool) (e : RestartErr) → cond t None (Some e) ≡ None → t ≡ true
passes true e s = refl
passes false e s = absurd cc

both : (a b : Bool) → (a && b) ≡ true → b ≡ true
both true b e = e
both false b e = absurd cc

in_time : (bytes : List ℕ) (σ : StateData) (s : SetupData) → IsFront bytes 1 σ s → is_tick bytes ≡ true → σ.tick < s.time_max
in_time bytes σ s f e =
    let top = min (top_bin_in bytes) 20 in
    let t : is_between_steps (steps_in bytes) (tick_in bytes) (time_max_in bytes) top ≡ true =
    sym (ap (λ b. cond b (is_between_steps (steps_in bytes) (tick_in bytes) (time_max_in bytes) top) (is_inside_step (steps_in bytes) (tick_in bytes) (time_max_in bytes) (min (low_bin_in bytes) 20) top)) (eq-eqb (version_in bytes) 1 f.version)) ∙ e in
    let l : tick_in bytes < time_max_in bytes = ltb-true (tick_in bytes) (time_max_in bytes) (both (tick_in bytes == steps_in bytes * 2 ^ top) (nat_lt (tick_in bytes) (time_max_in bytes)) t) in
    omega (arith, l, f.tick, f.time_max)

over_spells_nothing : (σ : StateData) (s : SetupData) → IsValid σ.bodies → AreStorable σ → IsSetup s → IsOver s σ → (ρ : StateData) (t : SetupData) → Spell (restart_text σ s) ρ t → ⊥
over_spells_nothing σ s v r h o ρ t k =
    let bytes : List ℕ = whole_text σ s in
    let w : Spell bytes ρ t = subst (λ b. Spell b ρ t) (sym (without σ s (ap length o.depths))) k in
    let f : IsFront bytes 1 σ s = front_back 1 σ s (flat_map body_bytes σ.bodies) (omega arith) v.few r h in
    let after : option_or (tick_fault bytes) (option_or (rules_fault bytes) (option_or (softening_fault bytes) (bodies_fault bytes))) ≡ None = (later (head_fault bytes) _ w.faultless).1 in
    let l : σ.tick < s.time_max = in_time bytes σ s f (passes (is_tick bytes) (Field 24) (later (tick_fault bytes) _ after).0) in
    omega (arith, l, o.late)

-- ---- whatever spells the state of a run

pub spelled_is : (s : SetupData) (B : List BodyData) (τ : StateData) → IsSetup s → IsValid B → IsFine s B τ → (ρ : StateData) (t : SetupData) → Spell (restart_text (kept τ) s) ρ t → ρ ≡ kept τ
spelled_is s B τ h v f ρ t k = by f.goes
  where
    by : IsKept s (kept τ) ⊎ IsOver s τ → ρ ≡ kept τ
    by (inl g) = (reads_one_way (restart_text (kept τ) s)).one_state ρ (kept τ) t s k (good_spells s B (kept τ) h v (record { safe = f.safe; room = f.room; goes = g }))
    by (inr o) = absurd (over_spells_nothing (kept τ) s (still_valid B τ.bodies f.safe v) f.room h (record { depths = o.depths; late = o.late }) ρ t k)

pub go_on : RestartFilesGoOn
go_on plan bytes ρ t h k stop σ τ f w e =
    let s = plan.rules.gravity.setup in
    let fine : IsFine s σ.bodies τ = found (IsFine s σ.bodies) τ (session plan false stop σ).states (run_keeps plan stop σ f h).states w in
    let same : ρ ≡ kept τ = spelled_is s σ.bodies τ h f.valid fine ρ t (subst (λ b. Spell b ρ t) e k) in
    subst (λ x. GoesOn (session plan false None σ) (session plan true None x)) (sym same) (sessions_go_on plan stop σ f.start f.valid.ascending h τ w)
