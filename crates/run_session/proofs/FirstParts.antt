-- Lists that only grow: what a session has written, told and asked stays the first part of what it has later.
use Rattle.std.proofs.Common.{◌≡◌, ℕ, zero, suc, ◌*◌, ◌^◌, Bool, true, false, cond, not, ◌&&◌, ◌||◌, List, [], ◌∷◌, ◌++◌, map, Option, Some, None, refl, ap, sym, ◌∙◌, append_assoc}
use Rattle.std.specs.List.{flat_map}
use Rattle.std.proofs.lemmas.Grind.{flat_map-append}
use Rattle.std.proofs.lemmas.List.{append-nil}
use Rattle.nbody_model.specs.Evolve.{Happening, rests_of, Progress, Stepped, Going, Refused, Resting}
use Rattle.nbody_model.specs.Session.{Plan, SessionData, is_running, is_stop, with_snapshot, with_restart, is_due, is_kept, synchronised, advanced, with_trail, base_step, is_done, session_from}
use Rattle.step_engine.specs.Ends.{trail_of}
use Rattle.run_session.specs.Stages.{IsFirst, GrowsTo}
use Rattle.model_laws.proofs.Resumed.{onward}
use Rattle.run_session.proofs.Turns.{synced, goes_on, is_over}

-- ---- first parts

pub first_all : {X : Type 0} (xs : List X) → IsFirst xs xs
first_all xs = record { more = []; is = sym (append-nil xs) }

pub first_none : {X : Type 0} (xs : List X) → IsFirst [] xs
first_none xs = record { more = xs; is = refl }

pub first_more : {X : Type 0} (xs ys : List X) → IsFirst xs (xs ++ ys)
first_more xs ys = record { more = ys; is = refl }

pub first_on : {X : Type 0} (xs ys zs : List X) → IsFirst xs ys → IsFirst ys zs → IsFirst xs zs
first_on xs ys zs a b = record { more = a.more ++ b.more; is = b.is ∙ ap (λ ws. ws ++ b.more) a.is ∙ append_assoc xs a.more b.more }

pub first_added : {X : Type 0} (xs ys more : List X) → IsFirst xs ys → IsFirst xs (ys ++ more)
first_added xs ys more a = first_on xs ys (ys ++ more) a (first_more ys more)

pub first_behind : {X : Type 0} (front xs ys : List X) → IsFirst xs ys → IsFirst (front ++ xs) (front ++ ys)
first_behind front xs ys a = record { more = a.more; is = ap (λ ws. front ++ ws) a.is ∙ sym (append_assoc front xs a.more) }

pub first_flat : {X Y : Type 0} (f : X → List Y) (xs ys : List X) → IsFirst xs ys → IsFirst (flat_map f xs) (flat_map f ys)
first_flat f xs ys a = record { more = flat_map f a.more; is = ap (flat_map f) a.is ∙ flat_map-append f xs a.more }

map_append : {X Y : Type 0} (f : X → Y) (xs ys : List X) → map f (xs ++ ys) ≡ map f xs ++ map f ys
map_append f [] ys = refl
map_append f (x ∷ xs) ys = ap (λ zs. f x ∷ zs) (map_append f xs ys)

pub first_map : {X Y : Type 0} (f : X → Y) (xs ys : List X) → IsFirst xs ys → IsFirst (map f xs) (map f ys)
first_map f xs ys a = record { more = map f a.more; is = ap (map f) a.is ∙ map_append f xs a.more }

-- ---- sessions grow

pub grows_none : (d : SessionData) → GrowsTo d d
grows_none d = record { written = first_all d.written; trail = first_all d.trail; questions = first_all d.questions }

pub grows_on : (d e f : SessionData) → GrowsTo d e → GrowsTo e f → GrowsTo d f
grows_on d e f a b = record {
  written = first_on d.written e.written f.written a.written b.written;
  trail = first_on d.trail e.trail f.trail a.trail b.trail;
  questions = first_on d.questions e.questions f.questions a.questions b.questions;
}

pub snapshot_grows : (b : Bool) (d : SessionData) → GrowsTo d (with_snapshot b d)
snapshot_grows true d = record { written = first_more d.written _; trail = first_all d.trail; questions = first_all d.questions }
snapshot_grows false d = grows_none d

pub restart_grows : (b : Bool) (d : SessionData) → GrowsTo d (with_restart b d)
restart_grows true d = record { written = first_more d.written _; trail = first_all d.trail; questions = first_all d.questions }
restart_grows false d = grows_none d

pub trail_grows : (trail : List Happening) (d : SessionData) → GrowsTo d (with_trail trail d)
trail_grows trail d = record { written = first_all d.written; trail = first_more d.trail trail; questions = first_more d.questions (rests_of trail) }

asked_grows : (b : Bool) (tick : ℕ) (d : SessionData) → GrowsTo d (cond b (record d { questions = d.questions ++ tick ∷ [] }) d)
asked_grows true tick d = record { written = first_all d.written; trail = first_all d.trail; questions = first_more d.questions (tick ∷ []) }
asked_grows false tick d = grows_none d

pub sync_grows : (plan : Plan) (stop before : Option ℕ) (d : SessionData) → GrowsTo d (synchronised plan stop before d)
unfolding synchronised
sync_grows plan stop before d =
    let asks : Bool = elim before [ None ↦ false | Some w ↦ is_running plan d.state ] in
    let bd = is_due plan before d.state.tick || not (is_running plan d.state) in
    let sd = with_snapshot bd d in
    let td : SessionData = cond asks (record sd { questions = sd.questions ++ d.state.tick ∷ [] }) sd in
    let kd = is_kept plan d.state || (asks && is_stop stop d.state.tick) in
    let all : GrowsTo d (with_restart kd td) = grows_on d td (with_restart kd td) (grows_on d sd td (snapshot_grows bd d) (asked_grows asks d.state.tick sd)) (restart_grows kd td) in
    record { written = all.written; trail = all.trail; questions = all.questions }

either_grows : (b : Bool) (d e f : SessionData) → GrowsTo d e → GrowsTo d f → GrowsTo d (cond b e f)
either_grows true d e f h g = h
either_grows false d e f h g = g

-- ---- through a turn

-- each later part of a session adds
abbrev Later : ℕ → Plan → Option ℕ → Type 0
Later n plan stop = (known : Bool) (d : SessionData) → GrowsTo d (session_from n plan stop known d)

pub synced_grows : (plan : Plan) (stop : Option ℕ) (d : SessionData) (p : Progress) → GrowsTo (with_trail p.trail d) (synced plan stop d p)
synced_grows plan stop d p =
    let told : SessionData = record (with_trail p.trail d) { state = advanced plan p d.state } in
    let g : GrowsTo told (synced plan stop d p) = sync_grows plan stop (Some (d.state.steps * 2 ^ plan.rules.gravity.setup.top_bin)) told in
    record { written = g.written; trail = g.trail; questions = g.questions }

turn_grows : (n : ℕ) (plan : Plan) (stop : Option ℕ) → Later n plan stop → (d : SessionData) (s : Stepped) → GrowsTo (with_trail (trail_of s) d) (onward n plan stop d s)
turn_grows n plan stop later d (Going p) =
    let a = with_trail p.trail d in
    let e = synced plan stop d p in
    let g : GrowsTo a e = synced_grows plan stop d p in
    either_grows (is_done e.end) a (session_from n plan stop true e) e (grows_on a e (session_from n plan stop true e) g (later true e)) g
turn_grows n plan stop later d (Refused p x) = record { written = first_all d.written; trail = first_all (d.trail ++ p.trail); questions = first_all (d.questions ++ rests_of p.trail) }
turn_grows n plan stop later d (Resting p tick Fs) = record { written = first_more d.written _; trail = first_all (d.trail ++ p.trail); questions = first_all (d.questions ++ rests_of p.trail) }

pub session_grows : (n : ℕ) (plan : Plan) (stop : Option ℕ) (known : Bool) (d : SessionData) → GrowsTo d (session_from n plan stop known d)
unfolding session_from
session_grows zero plan stop known d = grows_none d
session_grows (suc n) plan stop known d =
    let s = base_step plan stop known d.state in
    either_grows (is_over plan d.state) d d (onward n plan stop d s) (grows_none d)
    (grows_on d (with_trail (trail_of s) d) (onward n plan stop d s) (trail_grows (trail_of s) d) (turn_grows n plan stop (λ k e. session_grows n plan stop k e) d s))

-- a session after a base step begins with the session before it and with what happened in that step
pub onward_grows : (n : ℕ) (plan : Plan) (stop : Option ℕ) (d : SessionData) (s : Stepped) → GrowsTo (with_trail (trail_of s) d) (onward n plan stop d s)
onward_grows n plan stop d s = turn_grows n plan stop (session_grows n plan stop) d s

-- and so does what follows a synchronisation
pub goes_on_grows : (n : ℕ) (plan : Plan) (stop : Option ℕ) (e : SessionData) → GrowsTo e (goes_on n plan stop e)
goes_on_grows n plan stop e = either_grows (is_done e.end) e (session_from n plan stop true e) e (session_grows n plan stop true e) (grows_none e)
