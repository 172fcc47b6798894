-- What happened before a step doesn't matter to it: with more in front of the trail it does the same.
use Rattle.std.proofs.Common.{◌≡◌, ℕ, zero, suc, ◌+◌, ◌-◌, ◌^◌, Bool, true, false, cond, not, ◌&&◌, ◌==◌, nat_le, List, [], ◌∷◌, fold, slice_index, Option, Some, None, refl, ap, ◌∙◌, append_assoc}
use Rattle.std.specs.List.{range_with_len}
use Rattle.nbody_model.specs.Bodies.{only}
use Rattle.nbody_model.specs.Tables.{Rules}
use Rattle.nbody_model.specs.Factors.{kick_factor, drift_factor}
use Rattle.nbody_model.specs.Steps.{fast, without, drift, change, kicked_bodies, first_out}
use Rattle.nbody_model.specs.Evolve.{Happening, Binned, Asked, Kicked, Rested, Progress, tell, MomRange, StepRange, Stepped, Going, Refused, Resting, ◌>>=◌, inside, is_empty, is_less, ask_if, record_of, kick, rest, close, between, step_by, evolve}
use Rattle.nbody_model.specs.States.{StateData, low_zeros, began, unfinished, unfinished_fast, fast_parts}
use Rattle.nbody_model.specs.Continue.{round, continue}
use Rattle.model_laws.specs.Rests.{rest_of_step, head_or, rest_of_steps}
use Rattle.model_laws.specs.Nests.{led, led_step}

abbrev pub Leads : (Progress → Stepped) → Type 0
Leads f = (pre : List Happening) (p : Progress) → f (led pre p) ≡ led_step pre (f p)

tell_led : (what : Happening) (pre : List Happening) (p : Progress) → tell what (led pre p) ≡ led pre (tell what p)
tell_led what pre p = λ i. record p { trail = append_assoc pre p.trail (what ∷ []) i }

bind_led : (f : Progress → Stepped) → Leads f → (pre : List Happening) (s : Stepped) → led_step pre s >>= f ≡ led_step pre (s >>= f)
bind_led f h pre (Going p) = h pre p
bind_led f h pre (Refused p e) = refl
bind_led f h pre (Resting p tick Fs) = refl

inside_led : (Gs : List (List ℕ)) (pre : List Happening) (s : Stepped) → inside Gs (led_step pre s) ≡ led_step pre (inside Gs s)
inside_led Gs pre (Going p) = refl
inside_led Gs pre (Refused p e) = refl
inside_led Gs pre (Resting p tick Fs) = refl

cond_led : (pre : List Happening) (b : Bool) (s t : Stepped) → cond b (led_step pre s) (led_step pre t) ≡ led_step pre (cond b s t)
cond_led pre true s t = refl
cond_led pre false s t = refl

ask_led : (b : Bool) (P : List ℕ) (pre : List Happening) (p : Progress) → ask_if b P (led pre p) ≡ led pre (ask_if b P p)
ask_led true P pre p = tell_led (Asked (only p.bodies P)) pre p
ask_led false P pre p = refl

rest_led : (stop : Option ℕ) (tick : ℕ) → Leads (rest stop tick)
rest_led None tick pre p = ap Going (tell_led (Rested tick) pre p)
rest_led (Some s) tick pre p =
    (λ i. cond (s == tick) (Resting (tell_led (Rested tick) pre p i) tick []) (Going (tell_led (Rested tick) pre p i))) ∙
    cond_led pre (s == tick) (Resting (tell (Rested tick) p) tick []) (Going (tell (Rested tick) p))

kick_out_led : (pre : List Happening) (p q : Progress) (bin tick : ℕ) (out : Option (ℕ × ℕ)) →
    (elim out [ Some first ↦ Refused (led pre p) (MomRange tick bin first.0 first.1) | None ↦ Going (led pre q) ]) ≡
    led_step pre (elim out [ Some first ↦ Refused p (MomRange tick bin first.0 first.1) | None ↦ Going q ])
kick_out_led pre p q bin tick None = refl
kick_out_led pre p q bin tick (Some first) = refl

kick_led : (r : Rules) (bin : ℕ) (P F : List ℕ) (tick h : ℕ) → Leads (kick r bin P F tick h)
unfolding kick
kick_led r bin P F tick h pre p =
    let C = kicked_bodies h P (change r.gravity P F p.bodies) p.bodies in
    let q : Progress = record p { bodies = C } in
    let what = Kicked (record_of r tick bin P F p.bodies C) in
    let out : Option (ℕ × ℕ) = cond (h == 0) None (first_out (only C P)) in
    let ended : Progress → Stepped = λ told. elim out [ Some first ↦ Refused (led pre p) (MomRange tick bin first.0 first.1) | None ↦ Going told ] in
    ap ended (tell_led what pre q) ∙ kick_out_led pre p (tell what q) bin tick out

close_led : (r : Rules) (bin : ℕ) (P F : List ℕ) (t : ℕ) → Leads (close r bin P F t)
unfolding close
close_led r bin P F t pre p =
    let end = t + 2 ^ bin in
    let h = kick_factor r.expansion (t + 2 ^ (bin - 1)) end in
    let moved : Progress = record p { bodies = drift r.gravity.setup (without F P) (drift_factor r.expansion t end) p.bodies } in
    ap (kick r bin P F end h) (ask_led (is_less F P) P pre moved) ∙ kick_led r bin P F end h pre (ask_if (is_less F P) P moved)

between_led : (stop : Option ℕ) (finer : List ℕ → ℕ → Progress → Stepped) → ((F : List ℕ) (t : ℕ) → Leads (finer F t)) → (bin : ℕ) (F : List ℕ) (t : ℕ) → Leads (between stop finer bin F t)
unfolding between
between_led stop finer f bin F t pre p =
    let middle = t + 2 ^ (bin - 1) in
    let one = finer F t p in
    let two = one >>= (λ q. rest stop middle q) in
    let three = two >>= (λ q. finer F middle q) in
    let e : (finer F t (led pre p) >>= (λ q. rest stop middle q) >>= (λ q. finer F middle q)) ≡ led_step pre three =
    ap (λ s. s >>= (λ q. rest stop middle q) >>= (λ q. finer F middle q)) (f F t pre p) ∙
    ap (λ s. s >>= (λ q. finer F middle q)) (bind_led (λ q. rest stop middle q) (rest_led stop middle) pre one) ∙
    bind_led (λ q. finer F middle q) (f F middle) pre two in
    (λ i. cond (is_empty F) (Going (led pre p)) (inside (F ∷ []) (e i))) ∙
    (λ i. cond (is_empty F) (Going (led pre p)) (inside_led (F ∷ []) pre three i)) ∙
    cond_led pre (is_empty F) (Going p) (inside (F ∷ []) three)

step_led : (r : Rules) (stop : Option ℕ) (finer : List ℕ → ℕ → Progress → Stepped) → ((F : List ℕ) (t : ℕ) → Leads (finer F t)) → (bin : ℕ) (P : List ℕ) (t : ℕ) → Leads (step_by r stop finer bin P t)
unfolding step_by
step_led r stop finer f bin P t pre p =
    let half = 2 ^ (bin - 1) in
    let F = fast r.gravity bin (only p.bodies P) in
    let asked = not (is_empty F) && is_less F P in
    let h = kick_factor r.expansion t (t + half) in
    let after : Progress → Stepped = λ known. kick r bin P F t h known >>= (λ q. between stop finer bin F t q) >>= (λ q. close r bin P F t q) in
    let known = ask_if asked F (tell (Binned F) p) in
    let refused = bin == r.gravity.setup.low_bin && not (is_empty F) in
    let first = kick r bin P F t h known in
    let second = first >>= (λ q. between stop finer bin F t q) in
    let e : after (ask_if asked F (tell (Binned F) (led pre p))) ≡ led_step pre (after known) =
    ap (λ q. after (ask_if asked F q)) (tell_led (Binned F) pre p) ∙
    ap after (ask_led asked F pre (tell (Binned F) p)) ∙
    ap (λ s. s >>= (λ q. between stop finer bin F t q) >>= (λ q. close r bin P F t q)) (kick_led r bin P F t h pre known) ∙
    ap (λ s. s >>= (λ q. close r bin P F t q)) (bind_led (λ q. between stop finer bin F t q) (between_led stop finer f bin F t) pre first) ∙
    bind_led (λ q. close r bin P F t q) (close_led r bin P F t) pre second in
    (λ i. cond refused (Refused (led pre p) (StepRange t (slice_index F 0))) (e i)) ∙
    cond_led pre refused (Refused p (StepRange t (slice_index F 0))) (after known)

pub evolve_led : (r : Rules) (stop : Option ℕ) (bin : ℕ) (P : List ℕ) (t : ℕ) → Leads (evolve r stop bin P t)
unfolding evolve
evolve_led r stop zero P t pre p = refl
evolve_led r stop (suc c) P t pre p = step_led r stop (evolve r stop c) (λ F u. evolve_led r stop c F u) (c + 1) P t pre p

round_led : (r : Rules) (stop : Option ℕ) (σ : StateData) (bin : ℕ) → Leads (round r stop σ bin)
unfolding round
round_led r stop σ bin pre p =
    let s = r.gravity.setup in
    let t = began bin σ.tick in
    let middle = t + 2 ^ (bin - 1) in
    let F = unfinished_fast s σ bin in
    let Gs = fast_parts s σ bin in
    let first = bin == low_zeros σ.tick + 1 in
    let ready : Stepped = cond first (Going p) (rest stop middle p) in
    let finer = inside Gs (ready >>= (λ q. evolve r stop (bin - 1) F middle q)) in
    let reached : Stepped = cond (nat_le σ.tick middle) finer (Going p) in
    let e : cond first (Going (led pre p)) (rest stop middle (led pre p)) ≡ led_step pre ready =
    (λ i. cond first (Going (led pre p)) (rest_led stop middle pre p i)) ∙ cond_led pre first (Going p) (rest stop middle p) in
    let g : inside Gs (cond first (Going (led pre p)) (rest stop middle (led pre p)) >>= (λ q. evolve r stop (bin - 1) F middle q)) ≡ led_step pre finer =
    ap (λ s. inside Gs (s >>= (λ q. evolve r stop (bin - 1) F middle q))) e ∙
    ap (inside Gs) (bind_led (λ q. evolve r stop (bin - 1) F middle q) (evolve_led r stop (bin - 1) F middle) pre ready) ∙
    inside_led Gs pre (ready >>= (λ q. evolve r stop (bin - 1) F middle q)) in
    let k : cond (nat_le σ.tick middle) (inside Gs (cond first (Going (led pre p)) (rest stop middle (led pre p)) >>= (λ q. evolve r stop (bin - 1) F middle q))) (Going (led pre p)) ≡ led_step pre reached =
    (λ i. cond (nat_le σ.tick middle) (g i) (Going (led pre p))) ∙ cond_led pre (nat_le σ.tick middle) finer (Going p) in
    ap (λ s. s >>= (λ q. close r bin (unfinished r.gravity.setup σ bin) F t q)) k ∙
    bind_led (λ q. close r bin (unfinished r.gravity.setup σ bin) F t q) (close_led r bin (unfinished r.gravity.setup σ bin) F t) pre reached

fold_led : (f : ℕ → Progress → Stepped) → ((bin : ℕ) → Leads (f bin)) → (pre : List Happening) (s : Stepped) (bins : List ℕ) → fold (λ step bin. step >>= f bin) (led_step pre s) bins ≡ led_step pre (fold (λ step bin. step >>= f bin) s bins)
fold_led f h pre s [] = refl
fold_led f h pre s (bin ∷ bins) = ap (λ t. fold (λ step bin. step >>= f bin) t bins) (bind_led (f bin) (h bin) pre s) ∙ fold_led f h pre (s >>= f bin) bins

pub continue_led : (r : Rules) (stop : Option ℕ) (σ : StateData) → Leads (continue r stop σ)
unfolding continue
continue_led r stop σ pre p =
    let s = r.gravity.setup in
    let v = low_zeros σ.tick in
    let F = unfinished_fast s σ (v + 1) in
    let bins = range_with_len (v + 1) (s.top_bin - v) in
    ap (λ q. fold (λ step bin. step >>= (λ q. round r stop σ bin q)) (Going q) bins) (ask_led true F pre p) ∙
    fold_led (λ bin q. round r stop σ bin q) (round_led r stop σ) pre (Going (ask_if true F p)) bins

rest_step_led : (r : Rules) (u bin : ℕ) (P F : List ℕ) → Leads (rest_of_step r u bin P F)
rest_step_led r u bin P F pre p =
    let t = began bin u in
    let middle = t + 2 ^ (bin - 1) in
    let first = bin == low_zeros u + 1 in
    let ready : Stepped = cond first (Going p) (rest None middle p) in
    let finer = ready >>= (λ q. evolve r None (bin - 1) F middle q) in
    let reached : Stepped = cond (nat_le u middle) finer (Going p) in
    let e : cond first (Going (led pre p)) (rest None middle (led pre p)) ≡ led_step pre ready =
    (λ i. cond first (Going (led pre p)) (rest_led None middle pre p i)) ∙ cond_led pre first (Going p) (rest None middle p) in
    let g : cond first (Going (led pre p)) (rest None middle (led pre p)) >>= (λ q. evolve r None (bin - 1) F middle q) ≡ led_step pre finer =
    ap (λ s. s >>= (λ q. evolve r None (bin - 1) F middle q)) e ∙ bind_led (λ q. evolve r None (bin - 1) F middle q) (evolve_led r None (bin - 1) F middle) pre ready in
    let k : cond (nat_le u middle) (cond first (Going (led pre p)) (rest None middle (led pre p)) >>= (λ q. evolve r None (bin - 1) F middle q)) (Going (led pre p)) ≡ led_step pre reached =
    (λ i. cond (nat_le u middle) (g i) (Going (led pre p))) ∙ cond_led pre (nat_le u middle) finer (Going p) in
    ap (λ s. s >>= (λ q. close r bin P F t q)) k ∙ bind_led (λ q. close r bin P F t q) (close_led r bin P F t) pre reached

pub rest_steps_led : (r : Rules) (u : ℕ) (P : List ℕ) (bin : ℕ) (Fs : List (List ℕ)) (pre : List Happening) (s : Stepped) → rest_of_steps r u P bin Fs (led_step pre s) ≡ led_step pre (rest_of_steps r u P bin Fs s)
rest_steps_led r u P bin [] pre s = refl
rest_steps_led r u P bin (F ∷ Fs) pre s =
    ap (rest_of_steps r u P (bin + 1) Fs) (bind_led (λ p. rest_of_step r u bin (head_or P Fs) F p) (rest_step_led r u bin (head_or P Fs) F) pre s) ∙
    rest_steps_led r u P (bin + 1) Fs pre (s >>= (λ p. rest_of_step r u bin (head_or P Fs) F p))
