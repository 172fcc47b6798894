-- The beginning of a run.
use Rattle.std.proofs.Common.{◌≡◌, ℕ, ◌+◌, true, false, cond, Option, None, refl, sym, ◌∙◌, arith}
use Rattle.nbody_model.specs.States.{StateData}
use Rattle.nbody_model.specs.Session.{Plan, is_done, synchronised, session_from, session}
use Rattle.nbody_model.specs.Passes.{Passes}
use Rattle.run_session.specs.Stages.{Basis, Matches}
use Rattle.run_session.specs.Sessions.{start_session}
use Rattle.run_session.specs.Turned.{Comes, ComesToSync}
use Rattle.run_session.proofs.Turns.{sync_end}
use Rattle.run_session.specs.Worlds.{World}

resumed_is : (plan : Plan) (stop : Option ℕ) (σ : StateData) → session plan true stop σ ≡ session_from (plan.rules.gravity.setup.time_max + 1) plan stop false (start_session σ)
unfolding session
resumed_is plan stop σ = refl

begun_is : (plan : Plan) (stop : Option ℕ) (σ : StateData) → session plan false stop σ ≡ session_from (plan.rules.gravity.setup.time_max + 1) plan stop false (synchronised plan stop None (start_session σ))
unfolding session
begun_is plan stop σ = refl

-- a resumed run has come to its first state
pub resumed_comes : (C : Basis) (passes : Passes) (σ : StateData) (Z : World) → Matches C passes (start_session σ) σ Z → Comes C passes (λ stop. session C.plan true stop σ) σ false Z
resumed_comes C passes σ Z m stop later = record {
  d = start_session σ;
  n = C.plan.rules.gravity.setup.time_max + 1;
  same = resumed_is C.plan stop σ;
  matches = m;
  end = refl;
  enough = omega arith;
  some = λ e. omega arith;
}

-- any other has come to the synchronisation of tick 0
pub begun_comes : (C : Basis) (passes : Passes) (σ : StateData) (Z : World) → Matches C passes (start_session σ) σ Z → ComesToSync C passes (λ stop. session C.plan false stop σ) None σ false Z
begun_comes C passes σ Z m stop from =
    let n = C.plan.rules.gravity.setup.time_max + 1 in
    let e = synchronised C.plan stop None (start_session σ) in
    record {
      d = start_session σ;
      n = n;
      same = begun_is C.plan stop σ ∙ sym (λ i. cond (is_done (sync_end C.plan stop None (start_session σ) i)) (session_from n C.plan stop false e) e);
      matches = m;
      enough = omega arith;
    }
