-- One turn of a session: a base step, and what a session makes of its end.
use Rattle.std.proofs.Common.{◌≡◌, ℕ, zero, suc, ◌*◌, ◌^◌, Bool, true, false, cond, not, ◌&&◌, ◌||◌, List, [], ◌∷◌, ◌++◌, Option, Some, None, refl, ap, ◌∙◌}
use Rattle.nbody_model.specs.Evolve.{Progress, Refusal, Stepped, Going, Refused, Resting, is_empty}
use Rattle.nbody_model.specs.States.{StateData}
use Rattle.model_laws.proofs.Resumed.{onward, stops_here, sync_done}
use Rattle.nbody_model.specs.Session.{Plan, SessionData, Done, Stopped, OutOfRange, is_running, is_stop, is_due, is_kept, with_snapshot, with_restart, synchronised, advanced, rested, with_trail, base_step, is_done, session_from}

-- ---- what a session makes of a base step's end

-- after a whole base step it is synchronised
abbrev pub synced : Plan → Option ℕ → SessionData → Progress → SessionData
synced plan stop d p = synchronised plan stop (Some (d.state.steps * 2 ^ plan.rules.gravity.setup.top_bin)) (record (with_trail p.trail d) { state = advanced plan p d.state })

-- a base step that is refused ends it
abbrev pub refused : SessionData → Progress → Refusal → SessionData
refused d p x = record (with_trail p.trail d) { end = OutOfRange x }

-- at the resting point of a tick it is stopped, and a restart file is written
abbrev pub stopped : SessionData → Progress → ℕ → List (List ℕ) → SessionData
stopped d p tick Fs = let ρ = rested p tick Fs d.state in with_restart true (record (with_trail p.trail d) { state = ρ; states = d.states ++ ρ ∷ []; end = Stopped })

-- it goes on where it isn't stopped
abbrev pub goes_on : ℕ → Plan → Option ℕ → SessionData → SessionData
goes_on n plan stop e = cond (is_done e.end) (session_from n plan stop true e) e

-- nothing is left to be done: a base step ended, and the last tick is reached
abbrev pub is_over : Plan → StateData → Bool
is_over plan σ = is_empty σ.depths && not (is_running plan σ)

-- ---- a turn

pub turn : (n : ℕ) (plan : Plan) (stop : Option ℕ) (known : Bool) (d : SessionData) → is_over plan d.state ≡ false → session_from (suc n) plan stop known d ≡ onward n plan stop d (base_step plan stop known d.state)
unfolding session_from
turn n plan stop known d h = λ i. cond (h i) d (onward n plan stop d (base_step plan stop known d.state))

pub rests_here : (n : ℕ) (plan : Plan) (stop : Option ℕ) (known : Bool) (d : SessionData) → is_over plan d.state ≡ true → session_from n plan stop known d ≡ d
unfolding session_from
rests_here zero plan stop known d h = refl
rests_here (suc n) plan stop known d h = λ i. cond (h i) d (onward n plan stop d (base_step plan stop known d.state))

pub no_turn : (plan : Plan) (stop : Option ℕ) (known : Bool) (d : SessionData) → session_from 0 plan stop known d ≡ d
unfolding session_from
no_turn plan stop known d = refl

-- ---- by the end of the base step

module _ (n : ℕ) (plan : Plan) (stop : Option ℕ) (known : Bool) (d : SessionData) (going : is_over plan d.state ≡ false) where
  turn_by : (s : Stepped) → base_step plan stop known d.state ≡ s → session_from (suc n) plan stop known d ≡ onward n plan stop d s
  turn_by s e = turn n plan stop known d going ∙ ap (onward n plan stop d) e

  pub turn_going : (p : Progress) → base_step plan stop known d.state ≡ Going p → session_from (suc n) plan stop known d ≡ goes_on n plan stop (synced plan stop d p)
  turn_going p e = turn_by (Going p) e

  -- the synchronisation isn't a stop
  pub turn_on : (p : Progress) → base_step plan stop known d.state ≡ Going p → (synced plan stop d p).end ≡ Done → session_from (suc n) plan stop known d ≡ session_from n plan stop true (synced plan stop d p)
  turn_on p e h = turn_by (Going p) e ∙ (λ i. cond (is_done (h i)) (session_from n plan stop true (synced plan stop d p)) (synced plan stop d p))

  -- it is one
  pub turn_stop : (p : Progress) → base_step plan stop known d.state ≡ Going p → is_done (synced plan stop d p).end ≡ false → session_from (suc n) plan stop known d ≡ synced plan stop d p
  turn_stop p e h = turn_by (Going p) e ∙ (λ i. cond (h i) (session_from n plan stop true (synced plan stop d p)) (synced plan stop d p))

  pub turn_refused : (p : Progress) (x : Refusal) → base_step plan stop known d.state ≡ Refused p x → session_from (suc n) plan stop known d ≡ refused d p x
  turn_refused p x e = turn_by (Refused p x) e

  pub turn_resting : (p : Progress) (tick : ℕ) (Fs : List (List ℕ)) → base_step plan stop known d.state ≡ Resting p tick Fs → session_from (suc n) plan stop known d ≡ stopped d p tick Fs
  turn_resting p tick Fs e = turn_by (Resting p tick Fs) e

-- ---- where a synchronisation stops

pub sync_end : (plan : Plan) (stop before : Option ℕ) (d : SessionData) → (synchronised plan stop before d).end ≡ cond (stops_here plan stop before d) Stopped Done
unfolding synchronised
sync_end plan stop before d = refl

-- without a stop a session goes on after each base step
pub turn_none : (n : ℕ) (plan : Plan) (known : Bool) (d : SessionData) → is_over plan d.state ≡ false → (p : Progress) → base_step plan None known d.state ≡ Going p → session_from (suc n) plan None known d ≡ session_from n plan None true (synced plan None d p)
turn_none n plan known d h p e = turn_on n plan None known d h p e (sync_done plan (Some (d.state.steps * 2 ^ plan.rules.gravity.setup.top_bin)) (record (with_trail p.trail d) { state = advanced plan p d.state }))
