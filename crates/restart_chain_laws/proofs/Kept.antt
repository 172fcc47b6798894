-- What a resumed session keeps, from whatever state it is resumed.
use Rattle.std.proofs.Common.{◌≡◌, ◌⊎◌, inl, inr, ℕ, ◌+◌, true, false, List, [], ◌∷◌, length, Option, ap, sym, ◌∙◌, subst, arith}
use Rattle.std.proofs.lemmas.Bool.{false≢true, le-ltb}
use Rattle.std.proofs.lemmas.Nat.{pow_pos}
use Rattle.nbody_model.specs.Bodies.{BodyData}
use Rattle.nbody_model.specs.Setups.{SetupData, IsSetup}
use Rattle.nbody_model.specs.Evolve.{is_empty}
use Rattle.nbody_model.specs.States.{StateData, IsSynchronisation, IsRest}
use Rattle.nbody_model.specs.Continue.{continue}
use Rattle.nbody_model.specs.Session.{Plan, session, kept}
use Rattle.model_laws.proofs.Resumed.{IsTimed, onward, halted}
use Rattle.restart_files.specs.Stored.{IsKept}
use Rattle.restart_laws.proofs.Laws.{found}
use Rattle.restart_laws.proofs.Sessions.{IsGood, IsOver, IsFine, AreKept, Stands, IsGoing, further, onward_keeps}
use Rattle.chain_laws.specs.Chains.{Link, AreLinked, last_state}
use Rattle.chain_laws.proofs.Chains.{IsMid, IsReady, fresh, mid_session, one_link, led_none}
use Rattle.restart_chain_laws.proofs.Inside.{continue_facts}

none_kept : (s : SetupData) (B : List BodyData) (σ : StateData) → AreKept s B (fresh σ)
none_kept s B σ = record { states = tt; files = tt }

-- from a synchronisation
synced_keeps : (plan : Plan) (stop : Option ℕ) (B : List BodyData) (σ : StateData) → IsSetup plan.rules.gravity.setup → IsGood plan.rules.gravity.setup B σ → IsSynchronisation plan.rules.gravity.setup σ → AreKept plan.rules.gravity.setup B (session plan true stop σ)
unfolding session
synced_keeps plan stop B σ h g k =
    let s = plan.rules.gravity.setup in
    let stands : Stands s B σ = record {
      safe = g.safe;
      depths = k.depths;
      tick = k.tick;
      near = omega (arith, k.running, pow_pos s.top_bin);
      next_snapshot = g.room.next_snapshot;
      next_restart = g.room.next_restart;
      kicks = g.room.kicks;
      interactions = g.room.interactions;
    } in
    further plan stop B (s.time_max + 1) h false (fresh σ) (record { stands = stands; keeps = none_kept s B σ })

-- from inside a base step
rest_keeps : (plan : Plan) (stop : Option ℕ) (B : List BodyData) (σ : StateData) → IsSetup plan.rules.gravity.setup → IsGood plan.rules.gravity.setup B σ → IsRest plan.rules.gravity.setup σ → IsMid plan σ → AreKept plan.rules.gravity.setup B (session plan true stop σ)
rest_keeps plan stop B σ h g k mid =
    let r = plan.rules in
    let s = r.gravity.setup in
    let step = continue r stop σ (record { bodies = σ.bodies; trail = [] }) in
    let going : IsGoing s B σ = record {
      safe = g.safe;
      begun = k.running;
      next_snapshot = g.room.next_snapshot;
      next_restart = g.room.next_restart;
      kicks = g.room.kicks;
      interactions = g.room.interactions;
    } in
    subst (AreKept s B) (sym (mid_session plan stop σ mid ∙ ap (onward s.time_max plan stop (fresh σ)) (led_none step)))
    (onward_keeps plan stop B s.time_max h (further plan stop B s.time_max h) (fresh σ) going (none_kept s B σ) step (continue_facts plan stop B σ h g.safe k mid))

no_depth : (σ : StateData) → σ.depths ≡ [] → is_empty σ.depths ≡ false → ⊥
no_depth σ e h = false≢true (sym h ∙ ap is_empty e)

-- by where the state stands
kept_keeps : (plan : Plan) (stop : Option ℕ) (B : List BodyData) (σ : StateData) → IsSetup plan.rules.gravity.setup → IsGood plan.rules.gravity.setup B σ → IsSynchronisation plan.rules.gravity.setup σ ⊎ IsRest plan.rules.gravity.setup σ → IsTimed plan σ ⊎ IsMid plan σ →
    AreKept plan.rules.gravity.setup B (session plan true stop σ)
kept_keeps plan stop B σ h g (inl k) place = synced_keeps plan stop B σ h g k
kept_keeps plan stop B σ h g (inr k) (inr mid) = rest_keeps plan stop B σ h g k mid
kept_keeps plan stop B σ h g (inr k) (inl timed) = absurd (omega (arith, k.some, k.each, ap length timed.depths))

-- the run is over, and nothing is made
over_keeps : (plan : Plan) (stop : Option ℕ) (B : List BodyData) (σ : StateData) → IsOver plan.rules.gravity.setup σ → AreKept plan.rules.gravity.setup B (session plan true stop σ)
unfolding session
over_keeps plan stop B σ o =
    let s = plan.rules.gravity.setup in
    subst (AreKept s B) (sym (halted (s.time_max + 1) plan stop false (fresh σ) o.depths (le-ltb σ.tick s.time_max o.late))) (none_kept s B σ)

pub resumed_keeps : (plan : Plan) (stop : Option ℕ) (B : List BodyData) (τ : StateData) → IsSetup plan.rules.gravity.setup → IsFine plan.rules.gravity.setup B τ → IsReady plan (kept τ) → AreKept plan.rules.gravity.setup B (session plan true stop (kept τ))
resumed_keeps plan stop B τ h f ready = by f.goes
  where
    by : IsKept plan.rules.gravity.setup (kept τ) ⊎ IsOver plan.rules.gravity.setup τ → AreKept plan.rules.gravity.setup B (session plan true stop (kept τ))
    by (inl g) = kept_keeps plan stop B (kept τ) h (record { safe = f.safe; room = f.room; goes = g }) g ready.stands
    by (inr o) = over_keeps plan stop B (kept τ) (record { depths = o.depths; late = o.late })

-- ---- chains

-- of the state of the last link
pub record StandsLast (plan : Plan) (B : List BodyData) (τ : StateData) : Type 0 where
  pub fine : IsFine plan.rules.gravity.setup B τ
  pub ready : IsReady plan (kept τ)

pub last_stands : (plan : Plan) (B : List BodyData) → IsSetup plan.rules.gravity.setup → (τ : StateData) (ls : List Link) → StandsLast plan B τ → AreLinked plan τ ls → StandsLast plan B (last_state τ ls)
last_stands plan B h τ [] k linked = k
last_stands plan B h τ (l ∷ ls) k linked =
    let s = plan.rules.gravity.setup in
    let keeps = resumed_keeps plan l.stop B τ h k.fine k.ready in
    let link = one_link plan l.stop (kept τ) l.state h k.ready.ascending k.ready.stands linked.0 in
    last_stands plan B h l.state ls (record { fine = found (IsFine s B) l.state (session plan true l.stop (kept τ)).states keeps.states linked.0; ready = link.ready }) linked.1
