-- What calls finish as restart files are those of their runs, and a call that is resumed from one leads on.
use Rattle.std.proofs.Common.{◌≡◌, ◌<◌, ◌≤◌, ◌*◌, ◌+◌, ◌-◌, ◌^◌, ℕ, zero, suc, Bool, true, false, cond, not, ◌==◌, nat_le, nat_lt, List, [], ◌∷◌, ◌++◌, length, Option, Some, None, refl, sym, ap, subst, ◌∙◌, arith}
use Rattle.std.specs.Prelude.{take, drop}
use Rattle.std.specs.Str.{bytes_eq}
use Rattle.std.specs.List.{AllByRecursion}
use Rattle.std.specs.Option.{option_or}
use Rattle.std.proofs.lemmas.Bool.{and_parts, eqb-true, leb-true}
use Rattle.std.proofs.lemmas.Nat.{mul-le}
use Rattle.store_io.specs.Files.{Files}
use Rattle.cell_space.specs.Cells.{InBox}
use Rattle.nbody_model.specs.Bodies.{BodyData, IsValid}
use Rattle.nbody_model.specs.Setups.{SetupData, IsSetup}
use Rattle.nbody_model.specs.States.{StateData}
use Rattle.nbody_model.specs.Tables.{Gravity}
use Rattle.nbody_model.specs.Session.{Plan, session, kept}
use Rattle.nbody_model.specs.RestartText.{restart_text}
use Rattle.model_laws.specs.Laws.{AreBodies}
use Rattle.model_laws.specs.Resumed.{IsOneOf}
use Rattle.param_file.specs.Settings.{ParamsData, IsParams, setup_of}
use Rattle.param_file.proofs.Setups.{softenings}
use Rattle.particle_set.specs.Stored.{IsStorable}
use Rattle.restart_files.specs.RestartFile.{Spell, count_in, end_mark, head_fault, is_count, is_version, restart_tag, version_in, width_of}
use Rattle.restart_files.specs.declared.errors.RestartErr.{RestartErr}
use Rattle.restart_files.specs.declared.errors.RestartErr.TheVariants.{Tag, Length, Version, Field, EndMark}
use Rattle.restart_files.proofs.OneReading.{reads_one_way}
use Rattle.restart_laws.specs.Kept.{IsFirst}
use Rattle.restart_laws.proofs.Bodies.{still_valid}
use Rattle.restart_laws.proofs.Sessions.{IsFine}
use Rattle.restart_laws.proofs.Laws.{are_read as run_files_are_read}
use Rattle.chain_laws.specs.Chains.{AreLinked, Link, last_state}
use Rattle.chain_laws.proofs.Written.{restart_files_are_of_states}
use Rattle.restart_chain_laws.specs.ChainFiles.{IsChain}
use Rattle.restart_chain_laws.proofs.Laws.{are_read as chain_files_are_read, chain_stands}
use Rattle.rank_field.specs.Fields.{IsPlayedAmong}
use Rattle.gadget.specs.Restarts.{NamesState, longest_restart}
use Rattle.gadget.specs.Inputs.{InputsData}
use Rattle.gadget.specs.Begins.{first_state, plan_by}
use Rattle.gadget.specs.Answers.{seeded_by}
use Rattle.gadget.specs.LeadOn.{HoldsKept, IsKeptAfter, IsKeptIn, ResumedKeep, RunsKeep}
use Rattle.gadget.proofs.Finishing.{finished_stands, finishes}

-- ---- settings in range

pub in_range : (p : ParamsData) → IsParams p → IsSetup (setup_of p)
in_range p h =
    record {
      time_high = h.time_max_high;
      bin_low = h.low_bin_low;
      bins_ordered = h.bins_ordered;
      bin_high = h.top_bin_high;
      theta_high = h.err_tol_theta_high;
      eta_low = h.err_tol_int_accuracy_low;
      eta_high = h.err_tol_int_accuracy_high;
      gravity_high = h.gravity_constant_internal_high;
      shift_high = h.velocity_shift_high;
      softenings = softenings _ _ _ _ _ (record { low = h.softening_type1_low; high = h.softening_type1_high }) (record { low = h.softening_type2_low; high = h.softening_type2_high })
          (record { low = h.softening_type3_low; high = h.softening_type3_high }) (record { low = h.softening_type4_low; high = h.softening_type4_high }) (record { low = h.softening_type5_low; high = h.softening_type5_high });
    }

-- ---- what is kept stands at the end of a chain

linked_more : (plan : Plan) (τ : StateData) (ls : List Link) (l : Link) → AreLinked plan τ ls → IsOneOf l.state (session plan true l.stop (kept (last_state τ ls))).states → AreLinked plan τ (ls ++ l ∷ [])
linked_more plan τ [] l h k = (k, tt)
linked_more plan τ (m ∷ ms) l h k = (h.0, linked_more plan m.state ms l h.1 k)

last_more : (τ : StateData) (ls : List Link) (l : Link) → last_state τ (ls ++ l ∷ []) ≡ l.state
last_more τ [] l = refl
last_more τ (m ∷ ms) l = last_more m.state ms l

pub record IsLed (plan : Plan) (σ ρ : StateData) : Type 0 where
  pub begun : StateData
  pub links : List Link
  pub chain : IsChain plan σ begun links
  pub is : ρ ≡ kept (last_state begun links)
  pub read : Spell (restart_text ρ plan.rules.gravity.setup) ρ plan.rules.gravity.setup

pub led : (plan : Plan) (σ : StateData) → IsFirst σ → IsSetup plan.rules.gravity.setup → (n : ℕ) (ρ : StateData) → IsKeptAfter n plan σ ρ → IsLed plan σ ρ
led plan σ f h zero ρ k =
    let state = restart_files_are_of_states plan false k.stop σ k.number ρ k.one in
    record {
      begun = state.state;
      links = [];
      chain = record { first = f; stop = k.stop; begins = state.one; linked = tt };
      is = state.is;
      read = run_files_are_read plan k.stop σ f h k.number ρ k.one;
    }
led plan σ f h (suc n) ρ k =
    let τ = k.0 in
    let from = led plan σ f h n τ k.1 in
    let last = last_state from.begun from.links in
    let in_last : IsKeptIn plan true (kept last) ρ = subst (λ x. IsKeptIn plan true x ρ) from.is k.2 in
    let state = restart_files_are_of_states plan true in_last.stop (kept last) in_last.number ρ in_last.one in
    let link : Link = record { stop = in_last.stop; state = state.state } in
    record {
      begun = from.begun;
      links = from.links ++ link ∷ [];
      chain = record { first = f; stop = from.chain.stop; begins = from.chain.begins; linked = linked_more plan from.begun from.links link from.chain.linked state.one };
      is = state.is ∙ ap kept (sym (last_more from.begun from.links link));
      read = chain_files_are_read plan in_last.stop σ from.begun from.links from.chain h in_last.number ρ in_last.one;
    }

led_fine : (plan : Plan) (σ ρ : StateData) → IsSetup plan.rules.gravity.setup → (k : IsLed plan σ ρ) → IsFine plan.rules.gravity.setup σ.bodies (last_state k.begun k.links)
led_fine plan σ ρ h k = (chain_stands plan σ k.begun k.links h k.chain).fine

led_low : (plan : Plan) (σ ρ : StateData) → IsSetup plan.rules.gravity.setup → IsLed plan σ ρ → ρ.next_restart < 2 ^ 64
led_low plan σ ρ h k = subst (λ (x : StateData). x.next_restart < 2 ^ 64) (sym k.is) (led_fine plan σ ρ h k).room.next_restart

-- its bodies keep the limits
pub each_of : {X : Type 0} (P Q : X → Type 0) → ((x : X) → P x → Q x) → (xs : List X) → AllByRecursion P xs → AllByRecursion Q xs
each_of P Q f [] h = tt
each_of P Q f (x ∷ xs) h = (f x h.0, each_of P Q f xs h.1)

pub are_bodies : (B : List BodyData) → IsValid B → AllByRecursion IsStorable B → AreBodies B
are_bodies B v h = record { valid = v; heavy = each_of IsStorable (λ b. 1 ≤ b.mass) (λ b s. s.heavy) B h; in_box = each_of IsStorable (λ b. InBox b.motion.pos) (λ b s. s.in_box) B h }

pub led_bodies : (plan : Plan) (σ ρ : StateData) → IsSetup plan.rules.gravity.setup → IsLed plan σ ρ → AreBodies ρ.bodies
led_bodies plan σ ρ h k =
    let safe = (led_fine plan σ ρ h k).safe in
    let last = last_state k.begun k.links in
    subst (λ (x : StateData). AreBodies x.bodies) (sym k.is)
    (are_bodies last.bodies (still_valid σ.bodies last.bodies safe k.chain.first.valid) safe.each)

-- ---- a restart file is short enough to be read

none_of : (a b : Option RestartErr) → option_or a b ≡ None → a ≡ None
none_of None b e = refl
none_of (Some x) b e = absurd cc

-- of six tests the fourth and the fifth are met
fifth_met : (a b c d e f : Bool) (s t u v w x : RestartErr) → ◌≡◌ {A = Option RestartErr} (cond a (Some s) (cond b (Some t) (cond c (Some u) (cond d (Some v) (cond e (Some w) (cond f (Some x) None)))))) None → (d ≡ false) × (e ≡ false)
fifth_met false false false false false f s t u v w x h = (refl, refl)
fifth_met false false false false true f s t u v w x h = absurd cc
fifth_met false false false true e f s t u v w x h = absurd cc
fifth_met false false true d e f s t u v w x h = absurd cc
fifth_met false true c d e f s t u v w x h = absurd cc
fifth_met true b c d e f s t u v w x h = absurd cc

un_not : (b : Bool) → not b ≡ false → b ≡ true
un_not true e = refl
un_not false e = absurd cc

width_low : (v : ℕ) → width_of v ≤ 56
width_low v = by (v == 1)
  where
    by : (b : Bool) → cond b 52 56 ≤ 56
    by true = omega arith
    by false = omega arith

pub spelled_short : (bytes : List ℕ) (ρ : StateData) (s : SetupData) → Spell bytes ρ s → length bytes ≤ longest_restart
spelled_short bytes ρ s k =
    let v = version_in bytes in
    let n = count_in bytes in
    let want = 176 + width_of v * n in
    let tests = fifth_met (not (bytes_eq restart_tag (take 8 bytes))) (nat_lt (length bytes) 176) (not (is_version v)) (not (is_count v n)) (not (length bytes == want))
    (not (bytes_eq end_mark (drop (length bytes - 8) bytes))) Tag (Length 176 (length bytes)) (Version v) (Field 12) (Length want (length bytes)) EndMark
    (none_of (head_fault bytes) _ k.faultless) in
    let count : n ≤ 1048576 = leb-true n 1048576 (and_parts (nat_le n 1048576) _ (un_not (is_count v n) tests.0)).0 in
    let long : length bytes ≡ want = eqb-true (length bytes) want (un_not (length bytes == want) tests.1) in
    omega (arith, long, mul-le (width_of v) n 56 1048576 (width_low v) count)

-- ---- the same state is read

pub same_state : (files : Files) (i : InputsData) (B : List BodyData) (restart : List ℕ) (τ : StateData) → IsSetup (setup_of i.params) → NamesState files restart τ (setup_of i.params) → (k : HoldsKept i B files restart) → τ ≡ k.state
same_state files i B restart τ h names k =
    let s = setup_of i.params in
    let from = led (plan_by i) (first_state B) k.first h k.times k.state k.kept in
    let bytes : names.bytes ≡ restart_text k.state s = some_same (sym names.read.stands ∙ k.stands) in
    (reads_one_way (restart_text k.state s)).one_state τ k.state s s (subst (λ b. Spell b τ s) bytes names.spelled) from.read
  where
    some_same : {x y : List ℕ} → ◌≡◌ {A = Option (List ℕ)} (Some x) (Some y) → x ≡ y
    some_same e = cc

-- ---- what calls finish

pub runs_keep : RunsKeep
runs_keep ranks e param ended s r t name f =
    let i = r.inputs in
    let p = i.params in
    let σ = first_state r.bodies in
    let g : Gravity = record { setup = setup_of p; table = i.table } in
    let params : IsParams p = (r.accepted t).accepted.params.spelled.accepted in
    let made = finishes p false σ (IsPlayedAmong e.order.picks g ranks) e.tells (λ stop. session (plan_by i) false stop σ) (seeded_by e p.delivery_seed) e.new ended ended.end t r.ends.by_session in
    let found = finished_stands (plan_by i) p false σ params (in_range p params) (omega arith) made.stop (seeded_by e p.delivery_seed) e.new f.number f.added made.some f.closed (subst (λ n. IsOneOf n f.added) f.named f.among) in
    record {
      first = r.first;
      times = 0;
      state = found.state;
      kept = record { stop = made.stop; number = found.number; one = found.one };
      stands = ap e.new.files f.named ∙ found.stands;
    }

pub resumed_keep : ResumedKeep
resumed_keep ranks e param restart ended s r t B k name f =
    let i = r.inputs in
    let p = i.params in
    let σ = r.state in
    let g : Gravity = record { setup = setup_of p; table = i.table } in
    let params : IsParams p = (r.accepted t).accepted.params.spelled.accepted in
    let setup = in_range p params in
    let same : σ ≡ k.state = same_state e.old.files i B restart σ setup (r.accepted t).state k in
    let from = led (plan_by i) (first_state B) k.first setup k.times k.state k.kept in
    let low : σ.next_restart < 2 ^ 64 = subst (λ (x : StateData). x.next_restart < 2 ^ 64) (sym same) (led_low (plan_by i) (first_state B) k.state setup from) in
    let made = finishes p true σ (IsPlayedAmong e.order.picks g ranks) e.tells (λ stop. session (plan_by i) true stop σ) (seeded_by e p.delivery_seed) e.new ended ended.end t r.ends.by_session in
    let found = finished_stands (plan_by i) p true σ params setup low made.stop (seeded_by e p.delivery_seed) e.new f.number f.added made.some f.closed (subst (λ n. IsOneOf n f.added) f.named f.among) in
    let mine : IsKeptIn (plan_by i) true σ found.state = record { stop = made.stop; number = found.number; one = found.one } in
    record {
      first = k.first;
      times = suc k.times;
      state = found.state;
      kept = (k.state, k.kept, subst (λ x. IsKeptIn (plan_by i) true x found.state) same mine);
      stands = ap e.new.files f.named ∙ found.stands;
    }
