-- A turn of a run: from its base step to what follows.
use Rattle.std.proofs.Common.{◌≡◌, ◌<◌, ◌≤◌, inl, inr, ℕ, ◌+◌, ◌*◌, ◌/◌, ◌^◌, Bool, true, false, not, ◌&&◌, nat_lt, IsTrue, List, [], ◌∷◌, length, Option, Some, None, refl, ap, sym, ◌∙◌, subst, arith, mod-eq_of_lt}
use Rattle.std.specs.Prelude.{IfSome}
use Rattle.std.proofs.lemmas.Bool.{lt-ltb}
use Rattle.std.proofs.lemmas.Nat.{pow_pos}
use Rattle.std.proofs.Math.Pow.{pow_mono}
use Rattle.std.proofs.Math.Nat.{lt-div-mul-add, le-mul_of_pos_right}
use Rattle.nbody_model.specs.Evolve.{is_empty}
use Rattle.nbody_model.specs.Setups.{SetupData}
use Rattle.model_laws.proofs.Resumed.{never}
use Rattle.nbody_model.specs.States.{StateData}
use Rattle.nbody_model.specs.Session.{Plan, SessionData, raised64, is_running}
use Rattle.param_file.specs.Settings.{ParamsData, IsParams, setup_of}
use Rattle.restart_files.specs.Stored.{IsKept}
use Rattle.step_engine.specs.Told.{AreForcesAmong}
use Rattle.nbody_model.specs.Passes.{Passes}
use Rattle.step_engine.specs.BaseSteps.{is_known}
use Rattle.store_io.specs.Files.{Files, bytes_of}
use Rattle.store_io.specs.Causes.{Call, Rose}
use Rattle.step_engine.specs.Ends.{IsOutside}
use Rattle.run_session.specs.declared.step.Made.{Made}
use Rattle.run_session.specs.declared.step.Made.TheVariants as made
use Rattle.run_session.specs.declared.turn.Turn.{Turn}
use Rattle.run_session.specs.declared.turn.Turn.TheVariants as turns
use Rattle.run_session.specs.Causes.{IsAmong}
use Rattle.run_session.specs.Own.{Own, OwnTexts, Stands, followed, own_names}
use Rattle.run_session.specs.Stages.{KeepsOwn, Basis, IsAtSync, IsLater, IsFrom, IsWhole}
use Rattle.run_session.specs.Steps.{StepMade, step_end, refusal_of}
use Rattle.run_session.specs.Turned.{CanFollow, Comes, FollowsMade, GoesLater, HasBroken, IsMadeIn, AreStanding}
use Rattle.run_session.proofs.Turns.{is_over}
use Rattle.run_session.proofs.Writing.{text_of, there_stands}
use Rattle.run_session.proofs.OwnChanges.{are_there}
use Rattle.run_session.proofs.Turning.{Appends, AppendsPart, at_rest, come_breaks, whole_comes, whole_breaks, rest_is, rest_files, rest_question, rest_breaks, out_ends, out_breaks}
use Rattle.run_session.specs.Worlds.{World, world}

-- ---- numbers

-- a base step begins before the time asked for
pub begins_early : (p : ParamsData) (σ : StateData) → IsParams p → IsKept (setup_of p) σ → σ.steps * 2 ^ p.top_bin < 2 ^ 40
begins_early p σ ok (inl k) = let t = k.tick in let r = k.running in let h = ok.time_max_high in omega (arith, t, r, h)
begins_early p σ ok (inr k) = let r = k.running in let h = ok.time_max_high in omega (arith, r, h)

-- and not behind its own state
pub begins_before : (p : ParamsData) (σ : StateData) → IsKept (setup_of p) σ → σ.tick < (σ.steps + 1) * 2 ^ p.top_bin
begins_before p σ (inl k) = let t = k.tick in let h = pow_pos p.top_bin in omega (arith, t, h)
begins_before p σ (inr k) =
    let h = pow_pos p.top_bin in
    subst (λ n. σ.tick < (n + 1) * 2 ^ p.top_bin) (sym k.steps) (below_next σ.tick (2 ^ p.top_bin) h)
  where
    below_next : (t w : ℕ) → 0 < w → t < (t / w + 1) * w
    below_next t w h = let l = lt-div-mul-add {a = t} {b = w} h in omega (arith, l)

few_steps : (p : ParamsData) (σ : StateData) → σ.steps * 2 ^ p.top_bin < 2 ^ 40 → σ.steps < 2 ^ 40
few_steps p σ h = let w = pow_pos p.top_bin in let m = le-mul_of_pos_right {m = 2 ^ p.top_bin} σ.steps w in omega (arith, h, m)

raised_once : (n : ℕ) → n < 2 ^ 40 → raised64 n 1 ≡ n + 1
raised_once n h = mod-eq_of_lt (omega (arith, h))

not_empty : (xs : List ℕ) → 1 ≤ length xs → is_empty xs ≡ false
not_empty [] h = absurd (omega (arith, h))
not_empty (x ∷ xs) h = refl

-- the session isn't over
pub going : (p : ParamsData) (plan : Plan) (σ : StateData) → plan.rules.gravity.setup ≡ setup_of p → IsKept (setup_of p) σ → is_over plan σ ≡ false
going p plan σ s (inl k) = by (is_running plan σ) refl
  where
    runs : nat_lt σ.tick plan.rules.gravity.setup.time_max ≡ true
    runs = lt-ltb σ.tick plan.rules.gravity.setup.time_max (subst (λ (x : SetupData). σ.tick < x.time_max) (sym s) k.running)

    by : (b : Bool) → is_running plan σ ≡ b → is_over plan σ ≡ false
    by b e = (λ i. is_empty σ.depths && not (runs i)) ∙ never (is_empty σ.depths)
going p plan σ s (inr k) = (λ i. full i && not (is_running plan σ))
  where
    full : is_empty σ.depths ≡ false
    full = not_empty σ.depths (let e = k.each in let o = k.some in omega (arith, e, o))

-- ---- after the texts of a step

module _ (C : Basis) (passes : Passes) (sessions : Option ℕ → SessionData) (p : ParamsData) (σ : StateData) (known : Bool) (log : OwnTexts) (A Z : World) (params : C.params ≡ p) (setup : C.plan.rules.gravity.setup ≡ setup_of p) (limits : IsParams p) (kept : IsKept (setup_of p) σ) (comes : Comes C passes sessions σ known A) where
  over : is_over C.plan σ ≡ false
  over = going p C.plan σ setup kept

  width_is : 2 ^ C.plan.rules.gravity.setup.top_bin ≡ 2 ^ p.top_bin
  width_is = λ i. 2 ^ (setup i).top_bin

  -- when a whole step ends
  end_is : step_end C.plan σ ≡ (σ.steps + 1) * 2 ^ p.top_bin
  end_is = ap (λ w. (σ.steps + 1) * w) width_is

  whole_tick : (τ : StateData) (B Y : World) → IsWhole C.plan C.own passes known σ τ log B Y None → τ.tick ≡ (σ.steps + 1) * 2 ^ p.top_bin
  whole_tick τ B Y w =
      ap (λ (ρ : StateData). ρ.tick) w.state ∙ ap (λ n. n * 2 ^ C.plan.rules.gravity.setup.top_bin) (raised_once σ.steps (few_steps p σ (begins_early p σ limits kept))) ∙ end_is

  whole_steps : (τ : StateData) (B Y : World) → IsWhole C.plan C.own passes known σ τ log B Y None → τ.steps ≡ σ.steps + 1
  whole_steps τ B Y w = ap (λ (ρ : StateData). ρ.steps) w.state ∙ raised_once σ.steps (few_steps p σ (begins_early p σ limits kept))

  outside : (tick : ℕ) (stop : Option ℕ) → tick ≡ (σ.steps + 1) * 2 ^ p.top_bin → IsFrom tick stop → IsOutside σ.tick (step_end C.plan σ) stop
  outside tick None e h = tt
  outside tick (Some u) e h = inr (omega (arith, e, h, end_is))

  from_later : (tick : ℕ) (stop : Option ℕ) → σ.tick < tick → IsFrom tick stop → IsLater σ.tick stop
  from_later tick None h k = tt
  from_later tick (Some u) h k = omega (arith, h, k)

  -- what the store and the objects told before
  quiet_at : (stop : Option ℕ) → IsLater σ.tick stop → (A.faults ≡ C.start.faults) × ((A.last ≡ C.start.last) × (A.yes ≡ C.start.yes))
  quiet_at stop later = let q = (comes stop later).matches.quiet in (q.faults, (q.last, q.yes))

  -- the texts stand in the files
  pub made_in : (m : Made) → StepMade C.plan C.own passes known σ log A Z m → Z.closed ≡ A.closed → Appends C log A Z → Z.faults ≡ A.faults → Z.last ≡ A.last → IsMadeIn C passes sessions (σ.steps * 2 ^ p.top_bin) Z m
  made_in (made.Whole next) m k a f l = λ stop from.
      let tick = whole_tick next.state A Z (m.whole None tt) in
      let later : σ.tick < next.state.tick = let b = begins_before p σ kept in omega (arith, b, tick) in
      subst (λ b. IsAtSync C passes sessions (Some b) next.state true Z stop) (ap (λ w. σ.steps * w) width_is)
      (whole_comes C passes sessions σ next.state known log A Z stop (comes stop (from_later next.state.tick stop later from)) over (m.whole stop (outside next.state.tick stop tick from)) later k a f l m.yes)
  made_in (made.Rested τ) m k a f l =
      let h = comes (Some τ.tick) m.0 in
      let q = quiet_at None tt in
      record {
        d = at_rest C passes sessions σ τ known log A Z h over m.2;
        is = rest_is C passes sessions σ τ known log A Z h over m.2;
        state = refl;
        end = refl;
        files = rest_files C passes sessions σ τ known log A Z h over m.2 k a;
        faults = f ∙ q.0;
        last = l ∙ q.1.0;
        yes = subst (λ y. Rose y Z.yes) q.1.1 m.2.yes;
        question = rest_question C passes sessions σ τ known log A Z h over m.2 (comes None tt);
      }
  made_in (made.Refused why) m k a f l = out_ends C passes sessions σ known (refusal_of why) log A Z (comes None tt) over m.0 k a f l m.1

  -- a first part of them does
  pub made_breaks : (fault : Option (List ℕ)) → IsAmong (own_names C.own) fault → (m : Made) → StepMade C.plan C.own passes known σ log A Z m → Z.closed ≡ A.closed → AppendsPart C log A Z → HasBroken C passes sessions fault Z
  made_breaks fault b (made.Whole next) m k a =
      record { stop = None; question = m.yes ∙ (quiet_at None tt).1.1; broken = whole_breaks C passes sessions σ next.state known log A Z fault b (comes None tt) over (m.whole None tt) k a }
  made_breaks fault b (made.Rested τ) m k a =
      let h = comes (Some τ.tick) m.0 in
      record {
        stop = Some τ.tick;
        question = (subst (λ y. Rose y Z.yes) (quiet_at None tt).1.1 m.2.yes, rest_question C passes sessions σ τ known log A Z h over m.2 (comes None tt));
        broken = rest_breaks C passes sessions σ τ known log A Z h over m.2 fault b k a;
      }
  made_breaks fault b (made.Refused why) m k a =
      record { stop = None; question = m.1 ∙ (quiet_at None tt).1.1; broken = out_breaks C passes sessions σ known (refusal_of why) log A Z (comes None tt) over m.0 fault b k a }

  -- there was no memory for the step
  pub none_breaks : Z.files ≡ A.files → Z.closed ≡ A.closed → Z.yes ≡ A.yes → HasBroken C passes sessions None Z
  none_breaks f k y = record { stop = None; question = y ∙ (quiet_at None tt).1.1; broken = come_breaks C passes sessions σ known A Z (comes None tt) f k }

-- ---- what is so whatever the session is

module _ (plan : Plan) (o : Own) (passes : Passes) (p : ParamsData) (σ : StateData) (known : Bool) (log : OwnTexts) (A Z : World) (setup : plan.rules.gravity.setup ≡ setup_of p) (limits : IsParams p) (kept : IsKept (setup_of p) σ) where
  raised_here : raised64 σ.steps 1 ≡ σ.steps + 1
  raised_here = raised_once σ.steps (few_steps p σ (begins_early p σ limits kept))

  next_tick : (τ : StateData) (B Y : World) → IsWhole plan o passes known σ τ log B Y None → τ.tick ≡ (σ.steps + 1) * 2 ^ p.top_bin
  next_tick τ B Y w = ap (λ (ρ : StateData). ρ.tick) w.state ∙ ap (λ n. n * 2 ^ plan.rules.gravity.setup.top_bin) raised_here ∙ (λ i. (σ.steps + 1) * 2 ^ (setup i).top_bin)

  pub can_follow : (m : Made) → StepMade plan o passes known σ log A Z m → CanFollow m
  can_follow (made.Whole next) m =
      let w = m.whole None tt in
      let t = next_tick next.state A Z w in
      let e = begins_early p σ limits kept in
      let h = limits.top_bin_high in
      let top : 2 ^ p.top_bin ≤ 2 ^ 20 = pow_mono {i = p.top_bin} {j = 20} h in
      (ap (λ (ρ : StateData). ρ.depths) w.state, omega (arith, t, e, top))
  can_follow (made.Rested τ) m = tt
  can_follow (made.Refused why) m = tt

  pub goes_later : (m : Made) (t : Turn) → StepMade plan o passes known σ log A Z m → FollowsMade m t → GoesLater plan.rules.gravity p σ.tick t
  goes_later (made.Whole run) (turns.On next) m f =
      let w = m.whole None tt in
      let tick = next_tick run.state A Z w in
      let b = begins_before p σ kept in
      let at = f.1.tick in (
        record {
          depths = f.1.depths ∙ ap (λ (ρ : StateData). ρ.depths) w.state;
          tick = at ∙ tick ∙ ap (λ n. n * 2 ^ p.top_bin) (sym (f.1.steps ∙ ap (λ (ρ : StateData). ρ.steps) w.state ∙ raised_here));
          has_forces = ap is_known f.0 ∙ m.has_forces;
          forces = subst (λ B. IfSome next.known (AreForcesAmong plan.rules.gravity B)) (sym f.1.bodies) (subst (λ k. IfSome k (AreForcesAmong plan.rules.gravity run.state.bodies)) (sym f.0) m.forces);
        },
        omega (arith, at, tick, b),
      )
  goes_later (made.Rested τ) (turns.On next) m f = absurd f
  goes_later (made.Refused why) (turns.On next) m f = absurd f
  goes_later m (turns.Stopped τ) k f = tt
  goes_later m (turns.Refused why) k f = tt

-- the files that are kept open stand after the texts of a step, and go on standing
pub stands_on : (o : Own) (told : Bool) (log : OwnTexts) (old mid new : Files) → AreStanding o told old → ((u : OwnTexts) (W : Files) → IsTrue told → Stands o u W old → Stands o (followed u log) W mid) → KeepsOwn o told mid new → AreStanding o told new
stands_on o told log old mid new there a k h =
    let u : OwnTexts = record { kicks = bytes_of (old o.kicks); trace = text_of o.trace old; bins = text_of o.bins old } in
    k h (are_there o (followed u log) old mid (a u old h (there_stands o old (there h))))

-- what is told of the store doesn't matter to a step
pub made_at : (plan : Plan) (o : Own) (passes : Passes) (known : Bool) (σ : StateData) (log : OwnTexts) (f e h : Files) (k j i : List (List ℕ)) (n m u : ℕ) (l t v : Option Call) (a z : List ℕ) (y x : ℕ) (b d : Option ℕ) (step : Made) →
    StepMade plan o passes known σ log (world f k n l a y b) (world f k n l z x d) step → StepMade plan o passes known σ log (world e j m t a y b) (world h i u v z x d) step
made_at plan o passes known σ log f e h k j i n m u l t v a z y x b d (made.Whole next) s = record {
  whole = λ stop out. let w = s.whole stop out in record { p = w.p; is = w.is; state = w.state; logged = w.logged; left = w.left };
  yes = s.yes;
  has_forces = s.has_forces;
  forces = s.forces;
}
made_at plan o passes known σ log f e h k j i n m u l t v a z y x b d (made.Rested τ) s =
    let r = s.2 in (s.0, s.1, record { p = r.p; parts = r.parts; is = r.is; state = r.state; logged = r.logged; yes = r.yes; left = r.left })
made_at plan o passes known σ log f e h k j i n m u l t v a z y x b d (made.Refused why) s =
    let r = s.0 in (record { p = r.p; is = r.is; logged = r.logged; left = r.left }, s.1)
