-- A step that is stopped at a resting point beside the same step that isn't.
use Rattle.std.proofs.Common.{◌≡◌, ℕ, zero, suc, ◌+◌, ◌-◌, ◌^◌, Bool, true, false, cond, not, ◌&&◌, ◌==◌, nat_le, List, [], ◌∷◌, ◌++◌, fold, map, slice_index, Option, Some, None, refl, ap, sym, ◌∙◌, subst}
use Rattle.std.specs.List.{range_with_len}
use Rattle.std.proofs.lemmas.Bool.{eqb-true}
use Rattle.std.proofs.lemmas.Grind.{flat_map-append}
use Rattle.nbody_model.specs.Bodies.{only}
use Rattle.nbody_model.specs.Tables.{Rules}
use Rattle.nbody_model.specs.Factors.{kick_factor, drift_factor}
use Rattle.nbody_model.specs.Steps.{fast, without, drift, change, kicked_bodies, first_out}
use Rattle.nbody_model.specs.Evolve.{Happening, Binned, Asked, Kicked, Rested, rest_in, rests_of, Progress, tell, Refusal, MomRange, StepRange, Stepped, Going, Refused, Resting, ◌>>=◌, inside, is_empty, is_less, ask_if, record_of, kick, rest, close, between, step_by, evolve}
use Rattle.nbody_model.specs.States.{StateData, low_zeros, began, unfinished, unfinished_fast, fast_parts}
use Rattle.nbody_model.specs.Continue.{round, continue}
use Rattle.nbody_model.specs.Session.{Plan, SessionData, with_trail, base_step, session_from}
use Rattle.model_laws.proofs.Rests.{Moves, kick_moves, close_moves}
use Rattle.step_engine.specs.Ends.{trail_of}
use Rattle.model_laws.proofs.Resumed.{onward}
use Rattle.run_session.proofs.Turns.{is_over, turn}
use Rattle.run_session.specs.Stages.{IsFirst, GrowsTo}
use Rattle.run_session.proofs.FirstParts.{first_all, first_more, first_on, first_behind, first_flat, grows_on, onward_grows}

-- ---- every part of a step only adds to what happened

abbrev pub Adds : (Progress → Stepped) → Type 0
Adds f = (p : Progress) → IsFirst p.trail (trail_of (f p))

bind_adds : (base : List Happening) (s : Stepped) (f : Progress → Stepped) → IsFirst base (trail_of s) → Adds f → IsFirst base (trail_of (s >>= f))
bind_adds base (Going p) f h a = first_on base p.trail (trail_of (f p)) h (a p)
bind_adds base (Refused p e) f h a = h
bind_adds base (Resting p tick Fs) f h a = h

inside_trail : (Gs : List (List ℕ)) (s : Stepped) → trail_of (inside Gs s) ≡ trail_of s
inside_trail Gs (Going p) = refl
inside_trail Gs (Refused p e) = refl
inside_trail Gs (Resting p tick Fs) = refl

inside_adds : (base : List Happening) (Gs : List (List ℕ)) (s : Stepped) → IsFirst base (trail_of s) → IsFirst base (trail_of (inside Gs s))
inside_adds base Gs s h = subst (IsFirst base) (sym (inside_trail Gs s)) h

cond_adds : (base : List Happening) (b : Bool) (s t : Stepped) → IsFirst base (trail_of s) → IsFirst base (trail_of t) → IsFirst base (trail_of (cond b s t))
cond_adds base true s t h k = h
cond_adds base false s t h k = k

ask_adds : (b : Bool) (P : List ℕ) (p : Progress) → IsFirst p.trail (ask_if b P p).trail
ask_adds true P p = first_more p.trail (Asked (only p.bodies P) ∷ [])
ask_adds false P p = first_all p.trail

out_adds : (base : List Happening) (p q : Progress) (bin tick : ℕ) (out : Option (ℕ × ℕ)) → IsFirst base p.trail → IsFirst base q.trail → IsFirst base (trail_of (elim out [ Some first ↦ Refused p (MomRange tick bin first.0 first.1) | None ↦ Going q ]))
out_adds base p q bin tick None h k = k
out_adds base p q bin tick (Some first) h k = h

kick_adds : (r : Rules) (bin : ℕ) (P F : List ℕ) (tick h : ℕ) → Adds (kick r bin P F tick h)
unfolding kick
kick_adds r bin P F tick h p =
    let C = kicked_bodies h P (change r.gravity P F p.bodies) p.bodies in
    let what = Kicked (record_of r tick bin P F p.bodies C) in
    out_adds p.trail p (tell what (record p { bodies = C })) bin tick (cond (h == 0) None (first_out (only C P))) (first_all p.trail) (first_more p.trail (what ∷ []))

close_adds : (r : Rules) (bin : ℕ) (P F : List ℕ) (t : ℕ) → Adds (close r bin P F t)
unfolding close
close_adds r bin P F t p =
    let end = t + 2 ^ bin in
    let moved : Progress = record p { bodies = drift r.gravity.setup (without F P) (drift_factor r.expansion t end) p.bodies } in
    let asked = ask_if (is_less F P) P moved in
    let kicks = kick r bin P F end (kick_factor r.expansion (t + 2 ^ (bin - 1)) end) in
    first_on p.trail asked.trail (trail_of (kicks asked)) (ask_adds (is_less F P) P moved) (kick_adds r bin P F end (kick_factor r.expansion (t + 2 ^ (bin - 1)) end) asked)

rest_adds : (tick : ℕ) → Adds (rest None tick)
rest_adds tick p = first_more p.trail (Rested tick ∷ [])

between_adds : (finer : List ℕ → ℕ → Progress → Stepped) → ((F : List ℕ) (t : ℕ) → Adds (finer F t)) → (bin : ℕ) (F : List ℕ) (t : ℕ) → Adds (between None finer bin F t)
unfolding between
between_adds finer f bin F t p =
    let middle = t + 2 ^ (bin - 1) in
    let two = finer F t p >>= (λ q. rest None middle q) in
    cond_adds p.trail (is_empty F) (Going p) (inside (F ∷ []) (two >>= (λ q. finer F middle q))) (first_all p.trail)
    (inside_adds p.trail (F ∷ []) (two >>= (λ q. finer F middle q))
    (bind_adds p.trail two (λ q. finer F middle q) (bind_adds p.trail (finer F t p) (λ q. rest None middle q) (f F t p) (rest_adds middle)) (f F middle)))

step_adds : (r : Rules) (finer : List ℕ → ℕ → Progress → Stepped) → ((F : List ℕ) (t : ℕ) → Adds (finer F t)) → (bin : ℕ) (P : List ℕ) (t : ℕ) → Adds (step_by r None finer bin P t)
unfolding step_by
step_adds r finer f bin P t p =
    let F = fast r.gravity bin (only p.bodies P) in
    let told = tell (Binned F) p in
    let known = ask_if (not (is_empty F) && is_less F P) F told in
    let h = kick_factor r.expansion t (t + 2 ^ (bin - 1)) in
    let first = kick r bin P F t h known in
    let second = first >>= (λ q. between None finer bin F t q) in
    let begun = first_on p.trail told.trail known.trail (first_more p.trail (Binned F ∷ [])) (ask_adds (not (is_empty F) && is_less F P) F told) in
    cond_adds p.trail (bin == r.gravity.setup.low_bin && not (is_empty F)) (Refused p (StepRange t (slice_index F 0))) (second >>= (λ q. close r bin P F t q)) (first_all p.trail)
    (bind_adds p.trail second (λ q. close r bin P F t q)
    (bind_adds p.trail first (λ q. between None finer bin F t q) (first_on p.trail known.trail (trail_of first) begun (kick_adds r bin P F t h known)) (between_adds finer f bin F t))
    (close_adds r bin P F t))

pub evolve_adds : (r : Rules) (bin : ℕ) (P : List ℕ) (t : ℕ) → Adds (evolve r None bin P t)
unfolding evolve
evolve_adds r zero P t p = first_all p.trail
evolve_adds r (suc c) P t p = step_adds r (evolve r None c) (λ F u q. evolve_adds r c F u q) (c + 1) P t p

-- ---- a step that may stop at u beside the same step that doesn't

-- it was stopped at u, at a resting point; what happened till then is the first part of what happens
pub record IsPause (u : ℕ) (q : Progress) (tick : ℕ) (whole : List Happening) : Type 0 where
  pub at : tick ≡ u
  pub front : List Happening
  pub is : q.trail ≡ front ++ Rested u ∷ []
  pub first : IsFirst q.trail whole

abbrev pub Pauses : ℕ → Stepped → Stepped → Type 0
Pauses u (Going p) s = s ≡ Going p
Pauses u (Refused p e) s = s ≡ Refused p e
Pauses u (Resting q tick Fs) s = IsPause u q tick (trail_of s)

longer : (u : ℕ) (q : Progress) (tick : ℕ) (xs ys : List Happening) → IsPause u q tick xs → IsFirst xs ys → IsPause u q tick ys
longer u q tick xs ys h f = record { at = h.at; front = h.front; is = h.is; first = first_on q.trail xs ys h.first f }

moving_pauses : (u : ℕ) (s : Stepped) → Moves s → Pauses u s s
moving_pauses u (Going p) m = refl
moving_pauses u (Refused p e) m = refl
moving_pauses u (Resting q tick Fs) m = absurd m

bind_pauses : (u : ℕ) (s w : Stepped) (f g : Progress → Stepped) → Pauses u s w → ((p : Progress) → Pauses u (f p) (g p)) → Adds g → Pauses u (s >>= f) (w >>= g)
bind_pauses u (Going p) w f g h k a = subst (λ v. Pauses u (f p) (v >>= g)) (sym h) (k p)
bind_pauses u (Refused p e) w f g h k a = ap (λ v. v >>= g) h
bind_pauses u (Resting q tick Fs) w f g h k a = longer u q tick (trail_of w) (trail_of (w >>= g)) h (bind_adds (trail_of w) w g (first_all (trail_of w)) a)

inside_pauses : (u : ℕ) (Gs : List (List ℕ)) (s w : Stepped) → Pauses u s w → Pauses u (inside Gs s) (inside Gs w)
inside_pauses u Gs (Going p) w h = ap (inside Gs) h
inside_pauses u Gs (Refused p e) w h = ap (inside Gs) h
inside_pauses u Gs (Resting q tick Fs) w h = subst (IsPause u q tick) (sym (inside_trail Gs w)) h

cond_pauses : (u : ℕ) (b : Bool) (s t v w : Stepped) → Pauses u s v → Pauses u t w → Pauses u (cond b s t) (cond b v w)
cond_pauses u true s t v w h k = h
cond_pauses u false s t v w h k = k

rest_by : (u : ℕ) (p : Progress) (tick : ℕ) (b : Bool) → (u == tick) ≡ b → Pauses u (cond b (Resting (tell (Rested tick) p) tick []) (Going (tell (Rested tick) p))) (Going (tell (Rested tick) p))
rest_by u p tick true e = let h = eqb-true u tick e in record { at = sym h; front = p.trail; is = ap (λ t. p.trail ++ Rested t ∷ []) (sym h); first = first_all (p.trail ++ Rested tick ∷ []) }
rest_by u p tick false e = refl

rest_pauses : (u tick : ℕ) (p : Progress) → Pauses u (rest (Some u) tick p) (rest None tick p)
rest_pauses u tick p = rest_by u p tick (u == tick) refl

close_pauses : (u : ℕ) (r : Rules) (bin : ℕ) (P F : List ℕ) (t : ℕ) (p : Progress) → Pauses u (close r bin P F t p) (close r bin P F t p)
close_pauses u r bin P F t p = moving_pauses u (close r bin P F t p) (close_moves r bin P F t p)

between_pauses : (u : ℕ) (finer whole : List ℕ → ℕ → Progress → Stepped) → ((F : List ℕ) (t : ℕ) (p : Progress) → Pauses u (finer F t p) (whole F t p)) → ((F : List ℕ) (t : ℕ) → Adds (whole F t)) →
    (bin : ℕ) (F : List ℕ) (t : ℕ) (p : Progress) → Pauses u (between (Some u) finer bin F t p) (between None whole bin F t p)
unfolding between
between_pauses u finer whole f a bin F t p =
    let middle = t + 2 ^ (bin - 1) in
    let two = finer F t p >>= (λ q. rest (Some u) middle q) in
    let both = whole F t p >>= (λ q. rest None middle q) in
    cond_pauses u (is_empty F) (Going p) (inside (F ∷ []) (two >>= (λ q. finer F middle q))) (Going p) (inside (F ∷ []) (both >>= (λ q. whole F middle q))) refl
    (inside_pauses u (F ∷ []) (two >>= (λ q. finer F middle q)) (both >>= (λ q. whole F middle q))
    (bind_pauses u two both (λ q. finer F middle q) (λ q. whole F middle q)
    (bind_pauses u (finer F t p) (whole F t p) (λ q. rest (Some u) middle q) (λ q. rest None middle q) (f F t p) (rest_pauses u middle) (rest_adds middle))
    (f F middle) (a F middle)))

step_pauses : (u : ℕ) (r : Rules) (finer whole : List ℕ → ℕ → Progress → Stepped) → ((F : List ℕ) (t : ℕ) (p : Progress) → Pauses u (finer F t p) (whole F t p)) → ((F : List ℕ) (t : ℕ) → Adds (whole F t)) →
    (bin : ℕ) (P : List ℕ) (t : ℕ) (p : Progress) → Pauses u (step_by r (Some u) finer bin P t p) (step_by r None whole bin P t p)
unfolding step_by
step_pauses u r finer whole f a bin P t p =
    let F = fast r.gravity bin (only p.bodies P) in
    let known = ask_if (not (is_empty F) && is_less F P) F (tell (Binned F) p) in
    let h = kick_factor r.expansion t (t + 2 ^ (bin - 1)) in
    let k = kick r bin P F t h known in
    let stopping : Progress → Stepped = λ q. between (Some u) finer bin F t q in
    let going : Progress → Stepped = λ q. between None whole bin F t q in
    let closes : Progress → Stepped = λ q. close r bin P F t q in
    let out = Refused p (StepRange t (slice_index F 0)) in
    cond_pauses u (bin == r.gravity.setup.low_bin && not (is_empty F)) out (k >>= stopping >>= closes) out (k >>= going >>= closes) refl
    (bind_pauses u (k >>= stopping) (k >>= going) closes closes
    (bind_pauses u k k stopping going (moving_pauses u k (kick_moves r bin P F t h known)) (between_pauses u finer whole f a bin F t) (between_adds whole a bin F t))
    (close_pauses u r bin P F t) (close_adds r bin P F t))

pub evolve_pauses : (u : ℕ) (r : Rules) (bin : ℕ) (P : List ℕ) (t : ℕ) (p : Progress) → Pauses u (evolve r (Some u) bin P t p) (evolve r None bin P t p)
unfolding evolve
evolve_pauses u r zero P t p = refl
evolve_pauses u r (suc c) P t p = step_pauses u r (evolve r (Some u) c) (evolve r None c) (λ F v q. evolve_pauses u r c F v q) (λ F v. evolve_adds r c F v) (c + 1) P t p

-- ---- the rest of a base step

round_adds : (r : Rules) (σ : StateData) (bin : ℕ) → Adds (round r None σ bin)
unfolding round
round_adds r σ bin p =
    let s = r.gravity.setup in
    let t = began bin σ.tick in
    let middle = t + 2 ^ (bin - 1) in
    let F = unfinished_fast s σ bin in
    let ready : Stepped = cond (bin == low_zeros σ.tick + 1) (Going p) (rest None middle p) in
    let finer = inside (fast_parts s σ bin) (ready >>= (λ q. evolve r None (bin - 1) F middle q)) in
    bind_adds p.trail (cond (nat_le σ.tick middle) finer (Going p)) (λ q. close r bin (unfinished s σ bin) F t q)
    (cond_adds p.trail (nat_le σ.tick middle) finer (Going p)
    (inside_adds p.trail (fast_parts s σ bin) (ready >>= (λ q. evolve r None (bin - 1) F middle q))
    (bind_adds p.trail ready (λ q. evolve r None (bin - 1) F middle q)
    (cond_adds p.trail (bin == low_zeros σ.tick + 1) (Going p) (rest None middle p) (first_all p.trail) (rest_adds middle p))
    (evolve_adds r (bin - 1) F middle)))
    (first_all p.trail))
    (close_adds r bin (unfinished s σ bin) F t)

pub round_pauses : (u : ℕ) (r : Rules) (σ : StateData) (bin : ℕ) (p : Progress) → Pauses u (round r (Some u) σ bin p) (round r None σ bin p)
unfolding round
round_pauses u r σ bin p =
    let s = r.gravity.setup in
    let t = began bin σ.tick in
    let middle = t + 2 ^ (bin - 1) in
    let F = unfinished_fast s σ bin in
    let stopping : Progress → Stepped = λ q. evolve r (Some u) (bin - 1) F middle q in
    let going : Progress → Stepped = λ q. evolve r None (bin - 1) F middle q in
    let ready : Stepped = cond (bin == low_zeros σ.tick + 1) (Going p) (rest (Some u) middle p) in
    let steady : Stepped = cond (bin == low_zeros σ.tick + 1) (Going p) (rest None middle p) in
    let finer = inside (fast_parts s σ bin) (ready >>= stopping) in
    let whole = inside (fast_parts s σ bin) (steady >>= going) in
    let closes : Progress → Stepped = λ q. close r bin (unfinished s σ bin) F t q in
    bind_pauses u (cond (nat_le σ.tick middle) finer (Going p)) (cond (nat_le σ.tick middle) whole (Going p)) closes closes
    (cond_pauses u (nat_le σ.tick middle) finer (Going p) whole (Going p)
    (inside_pauses u (fast_parts s σ bin) (ready >>= stopping) (steady >>= going)
    (bind_pauses u ready steady stopping going
    (cond_pauses u (bin == low_zeros σ.tick + 1) (Going p) (rest (Some u) middle p) (Going p) (rest None middle p) refl (rest_pauses u middle p))
    (evolve_pauses u r (bin - 1) F middle) (evolve_adds r (bin - 1) F middle)))
    refl)
    (close_pauses u r bin (unfinished s σ bin) F t) (close_adds r bin (unfinished s σ bin) F t)

folds_pauses : (u : ℕ) (f g : ℕ → Progress → Stepped) → ((bin : ℕ) (p : Progress) → Pauses u (f bin p) (g bin p)) → ((bin : ℕ) → Adds (g bin)) → (s w : Stepped) (bins : List ℕ) → Pauses u s w →
    Pauses u (fold (λ step bin. step >>= f bin) s bins) (fold (λ step bin. step >>= g bin) w bins)
folds_pauses u f g h a s w [] k = k
folds_pauses u f g h a s w (bin ∷ bins) k = folds_pauses u f g h a (s >>= f bin) (w >>= g bin) bins (bind_pauses u s w (f bin) (g bin) k (h bin) (a bin))

pub continue_pauses : (u : ℕ) (r : Rules) (σ : StateData) (p : Progress) → Pauses u (continue r (Some u) σ p) (continue r None σ p)
unfolding continue
continue_pauses u r σ p =
    let s = r.gravity.setup in
    let v = low_zeros σ.tick in
    let start = Going (ask_if true (unfinished_fast s σ (v + 1)) p) in
    folds_pauses u (λ bin q. round r (Some u) σ bin q) (λ bin q. round r None σ bin q) (round_pauses u r σ) (round_adds r σ) start start (range_with_len (v + 1) (s.top_bin - v)) refl

pub base_pauses : (u : ℕ) (plan : Plan) (known : Bool) (σ : StateData) → Pauses u (base_step plan (Some u) known σ) (base_step plan None known σ)
unfolding base_step
base_pauses u plan known σ =
    let all = map (λ b. b.id) σ.bodies in
    let start : Progress = record { bodies = σ.bodies; trail = [] } in
    let r = plan.rules in
    let top = r.gravity.setup.top_bin in
    let asked = ask_if (not known) all start in
    cond_pauses u (is_empty σ.depths) (evolve r (Some u) top all σ.tick asked) (continue r (Some u) σ start) (evolve r None top all σ.tick asked) (continue r None σ start)
    (evolve_pauses u r top all σ.tick asked) (continue_pauses u r σ start)

-- ---- what an answer of a base step says of the one without a stop

at_rest : (u : ℕ) (q : Progress) (tick : ℕ) (Fs : List (List ℕ)) (s w : Stepped) → s ≡ Resting q tick Fs → Pauses u s w → IsPause u q tick (trail_of w)
at_rest u q tick Fs s w e h = subst (λ v. Pauses u v w) e h

pub base_rests : (u : ℕ) (plan : Plan) (known : Bool) (σ : StateData) (q : Progress) (tick : ℕ) (Fs : List (List ℕ)) → base_step plan (Some u) known σ ≡ Resting q tick Fs → IsPause u q tick (trail_of (base_step plan None known σ))
base_rests u plan known σ q tick Fs e = at_rest u q tick Fs (base_step plan (Some u) known σ) (base_step plan None known σ) e (base_pauses u plan known σ)

pub base_goes : (u : ℕ) (plan : Plan) (known : Bool) (σ : StateData) (p : Progress) → base_step plan (Some u) known σ ≡ Going p → base_step plan None known σ ≡ Going p
base_goes u plan known σ p e = subst (λ v. Pauses u v (base_step plan None known σ)) e (base_pauses u plan known σ)

pub base_refused : (u : ℕ) (plan : Plan) (known : Bool) (σ : StateData) (p : Progress) (x : Refusal) → base_step plan (Some u) known σ ≡ Refused p x → base_step plan None known σ ≡ Refused p x
base_refused u plan known σ p x e = subst (λ v. Pauses u v (base_step plan None known σ)) e (base_pauses u plan known σ)

-- the last of the resting points that were reached is u
pub pause_rests : (u : ℕ) (q : Progress) (tick : ℕ) (whole : List Happening) → (h : IsPause u q tick whole) → rests_of q.trail ≡ rests_of h.front ++ u ∷ []
pause_rests u q tick whole h = ap rests_of h.is ∙ flat_map-append rest_in h.front (Rested u ∷ [])

-- a session that isn't stopped there begins with what happened till then
pub pause_grows : (u n : ℕ) (plan : Plan) (known : Bool) (d : SessionData) (q : Progress) (tick : ℕ) (Fs : List (List ℕ)) → is_over plan d.state ≡ false → base_step plan (Some u) known d.state ≡ Resting q tick Fs →
    GrowsTo (with_trail q.trail d) (session_from (suc n) plan None known d)
pause_grows u n plan known d q tick Fs over e =
    let s = base_step plan None known d.state in
    let first = (base_rests u plan known d.state q tick Fs e).first in
    let more : GrowsTo (with_trail q.trail d) (with_trail (trail_of s) d) = record {
      written = first_all d.written;
      trail = first_behind d.trail q.trail (trail_of s) first;
      questions = first_behind d.questions (rests_of q.trail) (rests_of (trail_of s)) (first_flat rest_in q.trail (trail_of s) first);
    } in
    subst (GrowsTo (with_trail q.trail d)) (sym (turn n plan None known d over)) (grows_on (with_trail q.trail d) (with_trail (trail_of s) d) (onward n plan None d s) more (onward_grows n plan None d s))
