-- A step that was taken back makes again what it was taken back from.
use Rattle.std.proofs.Common.{◌≡◌, ◌≤◌, ℕ, zero, suc, ◌+◌, ◌-◌, ◌^◌, Bool, true, false, cond, not, ◌&&◌, ◌==◌, nat_lt, List, [], ◌∷◌, ◌++◌, slice_index, Option, Some, None, refl, ap, sym, ◌∙◌, subst, arith, append_assoc, append-nil, add-one}
use Rattle.std.specs.List.Sorted.{IsStrictlyIncreasing}
use Rattle.std.proofs.lemmas.Bool.{eqb-true, ne_eqb}
use Rattle.std.proofs.lemmas.Grind.{flat_map-append}
use Rattle.nbody_model.specs.Bodies.{BodyData, only}
use Rattle.nbody_model.specs.Setups.{SetupData}
use Rattle.nbody_model.specs.Tables.{Rules, Gravity}
use Rattle.nbody_model.specs.Factors.{kick_factor, drift_factor}
use Rattle.nbody_model.specs.Steps.{fast, without, drift, change, kicked_bodies, first_out}
use Rattle.nbody_model.specs.Evolve.{Happening, Binned, Asked, Kicked, Rested, bins_in, bins_of, Progress, tell, MomRange, StepRange, Stepped, Going, Refused, Resting, ◌>>=◌, inside, is_empty, is_less, ask_if, record_of, kick, rest, close, between, step_by, evolve}
use Rattle.model_laws.specs.Nests.{ids_of}
use Rattle.model_laws.proofs.Nests.{ids_same}
use Rattle.model_laws.proofs.Rests.{bind_assoc, less_one}
use Rattle.rewind_laws.specs.Back.{StepParts, Alone, With, fast_of, listed, AreParts, Fault, Back, Reached, Failed, BinsDiffer, MomentumOut, ◌>>-◌, unkicked_bodies, back_kick, undrifted, undrift, first_other, as_told, back_close, back_between, back_by, back}
use Rattle.rewind_laws.proofs.Undo.{pulled, unkick_redone, undrift_redone}
use Rattle.rewind_laws.proofs.Fits.{AreFit, none_out, each_out, undrift_fits, places_of}
use Rattle.rewind_laws.proofs.Forth.{bins_more, finer_listed, listed_is}
use Rattle.rewind_laws.proofs.Told.{reached_same}

-- it goes on, and this holds
abbrev pub Goes : (Progress → Type 0) → Stepped → Type 0
Goes I (Going p) = I p
Goes I (Refused p e) = ⊥
Goes I (Resting p tick Fs) = ⊥

goes_on : (I J : Progress → Type 0) (s : Stepped) (f : Progress → Stepped) → Goes I s → ((p : Progress) → I p → Goes J (f p)) → Goes J (s >>= f)
goes_on I J (Going p) f h g = g p h
goes_on I J (Refused p e) f h g = h
goes_on I J (Resting p tick Fs) f h g = h

pub goes_as : (I J : Progress → Type 0) (s : Stepped) → Goes I s → ((p : Progress) → I p → J p) → Goes J s
goes_as I J (Going p) h g = g p h
goes_as I J (Refused p e) h g = h
goes_as I J (Resting p tick Fs) h g = h

goes_inside : (I : Progress → Type 0) (Gs : List (List ℕ)) (s : Stepped) → Goes I s → Goes I (inside Gs s)
goes_inside I Gs (Going p) h = h
goes_inside I Gs (Refused p e) h = h
goes_inside I Gs (Resting p tick Fs) h = h

-- these bodies were made, and these fast parts told
pub record Made (bins : List (List ℕ)) (B : List BodyData) (p q : Progress) : Type 0 where
  pub bodies : q.bodies ≡ B
  pub told : bins_of q.trail ≡ bins_of p.trail ++ bins

-- where f takes bodies back, what it comes to fits, and g makes them again
pub record Redone (g : Progress → Stepped) (bins : List (List ℕ)) (p : Progress) (B : List BodyData) : Type 0 where
  pub fit : AreFit p.bodies
  pub ids : ids_of p.bodies ≡ ids_of B
  pub goes : Goes (Made bins B p) (g p)

abbrev pub Redo : (List BodyData → Back) → (Progress → Stepped) → List (List ℕ) → Type 0
Redo f g bins = (p : Progress) (B : List BodyData) → AreFit B → f B ≡ Reached p.bodies → Redone g bins p B

-- ---- one after the other

pub record Through (f g : List BodyData → Back) (B A : List BodyData) : Type 0 where
  pub at : List BodyData
  pub first : g B ≡ Reached at
  pub then : f at ≡ Reached A

failed_not : {X : Type 0} (e : Fault) (A : List BodyData) → Failed e ≡ Reached A → X
failed_not e A h = absurd cc

pub through : (f g : List BodyData → Back) (B A : List BodyData) → (g B >>- f) ≡ Reached A → Through f g B A
through f g B A h = by (g B) refl h
  where
    by : (x : Back) → g B ≡ x → (x >>- f) ≡ Reached A → Through f g B A
    by (Reached C) e h = record { at = C; first = e; then = h }
    by (Failed x) e h = failed_not x A h

made_on : (xs ys : List (List ℕ)) (B C : List BodyData) (p q s : Progress) → Made xs C p q → Made ys B q s → Made (xs ++ ys) B p s
made_on xs ys B C p q s a b = record { bodies = b.bodies; told = b.told ∙ ap (λ zs. zs ++ ys) a.told ∙ append_assoc (bins_of p.trail) xs ys }

redo_on : (f g : List BodyData → Back) (c d : Progress → Stepped) (xs ys : List (List ℕ)) → Redo f c xs → Redo g d ys → Redo (λ B. g B >>- f) (λ p. c p >>= d) (xs ++ ys)
redo_on f g c d xs ys one two p B fit h =
    let t = through f g B p.bodies h in
    let later = two (record { bodies = t.at; trail = [] }) B fit t.first in
    let here = one p t.at later.fit t.then in
    record {
      fit = here.fit;
      ids = here.ids ∙ later.ids;
      goes = goes_on (Made xs t.at p) (Made (xs ++ ys) B p) (c p) d here.goes
          (λ q a. goes_as (Made ys B q) (Made (xs ++ ys) B p) (d q) (two q B fit (t.first ∙ ap Reached (sym a.bodies))).goes (λ s b. made_on xs ys B t.at p q s a b));
    }

redo_quiet : (f g : List BodyData → Back) (c d : Progress → Stepped) (xs : List (List ℕ)) → Redo f c xs → Redo g d [] → Redo (λ B. g B >>- f) (λ p. c p >>= d) xs
redo_quiet f g c d xs one two = subst (Redo (λ B. g B >>- f) (λ p. c p >>= d)) (append-nil xs) (redo_on f g c d xs [] one two)

-- after something that leaves the bodies and tells these fast parts
record Leaves (bins : List (List ℕ)) (p q : Progress) : Type 0 where
  bodies : q.bodies ≡ p.bodies
  told : bins_of q.trail ≡ bins_of p.trail ++ bins

redo_after : (f : List BodyData → Back) (c : Progress → Stepped) (h : Progress → Progress) (xs ys : List (List ℕ)) → ((p : Progress) → Leaves xs p (h p)) → Redo f c ys → Redo f (λ p. c (h p)) (xs ++ ys)
redo_after f c h xs ys leaves redo p B fit e =
    let l = leaves p in
    let r = redo (h p) B fit (e ∙ ap Reached (sym l.bodies)) in
    record {
      fit = subst AreFit l.bodies r.fit;
      ids = ap ids_of (sym l.bodies) ∙ r.ids;
      goes = goes_as (Made ys B (h p)) (Made (xs ++ ys) B p) (c (h p)) r.goes (λ q a. record { bodies = a.bodies; told = a.told ∙ ap (λ zs. zs ++ ys) l.told ∙ append_assoc (bins_of p.trail) xs ys });
    }

none_more : (trail : List Happening) (what : Happening) → bins_in what ≡ [] → bins_of (trail ++ what ∷ []) ≡ bins_of trail ++ []
none_more trail what e = bins_more trail what e ∙ sym (append-nil (bins_of trail))

ask_leaves : (b : Bool) (P : List ℕ) (p : Progress) → Leaves [] p (ask_if b P p)
ask_leaves true P p = record { bodies = refl; told = none_more p.trail (Asked (only p.bodies P)) refl }
ask_leaves false P p = record { bodies = refl; told = sym (append-nil (bins_of p.trail)) }

-- ---- a kick

record Unkicked (P : List ℕ) (A before : List BodyData) : Type 0 where
  none : first_out (only before P) ≡ None
  is : before ≡ A

unkicked_by_cases : (P : List ℕ) (A before : List BodyData) (out : Option (ℕ × ℕ)) → first_out (only before P) ≡ out → (elim out [ Some first ↦ Failed (MomentumOut first.0 first.1) | None ↦ Reached before ]) ≡ Reached A → Unkicked P A before
unkicked_by_cases P A before None e h = record { none = e; is = reached_same before A h }
unkicked_by_cases P A before (Some first) e h = failed_not (MomentumOut first.0 first.1) A h

unkicked_is : (g : Gravity) (P F : List ℕ) (h : ℕ) (B A : List BodyData) → back_kick g P F h B ≡ Reached A → Unkicked P A (unkicked_bodies h P (change g P F B) B)
unfolding back_kick
unkicked_is g P F h B A e = unkicked_by_cases P A (unkicked_bodies h P (change g P F B) B) (first_out (only (unkicked_bodies h P (change g P F B) B) P)) refl e

none_if : (b : Bool) (out : Option (ℕ × ℕ)) → out ≡ None → ◌≡◌ {A = Option (ℕ × ℕ)} (cond b None out) None
none_if true out e = refl
none_if false out e = e

goes_unless : (I : Progress → Type 0) (p q : Progress) (bin tick : ℕ) (out : Option (ℕ × ℕ)) → out ≡ None → I q → Goes I (elim out [ Some first ↦ Refused p (MomRange tick bin first.0 first.1) | None ↦ Going q ])
goes_unless I p q bin tick None e h = h
goes_unless I p q bin tick (Some first) e h = absurd cc

kick_redone : (r : Rules) (bin : ℕ) (P F : List ℕ) (tick h : ℕ) → Redo (back_kick r.gravity P F h) (λ p. kick r bin P F tick h p) []
unfolding kick
kick_redone r bin P F tick h p B fit e =
    let g = r.gravity in
    let v = change g P F B in
    let u = unkicked_is g P F h B p.bodies e in
    let A = unkicked_bodies h P v B in
    let ids : ids_of A ≡ ids_of B = ids_same (pulled h v) (λ b. refl) P B in
    let fits : AreFit A = record { each = each_out P (pulled h v) (λ b. refl) (λ b. refl) B fit.each u.none; ascending = subst IsStrictlyIncreasing (sym ids) fit.ascending } in
    let C = kicked_bodies h P (change g P F p.bodies) p.bodies in
    let again : C ≡ B = (λ i. kicked_bodies h P (change g P F (sym u.is i)) (sym u.is i)) ∙ unkick_redone g P F h B in
    let q : Progress = tell (Kicked (record_of r tick bin P F p.bodies C)) (record p { bodies = C }) in
    record {
      fit = subst AreFit u.is fits;
      ids = ap ids_of (sym u.is) ∙ ids;
      goes = goes_unless (Made [] B p) p q bin tick (cond (h == 0) None (first_out (only C P))) (none_if (h == 0) (first_out (only C P)) (ap (λ D. first_out (only D P)) again ∙ none_out P B fit.each))
          (record { bodies = again; told = none_more p.trail (Kicked (record_of r tick bin P F p.bodies C)) refl });
    }

-- ---- the second half

drift_redone : (s : SetupData) (P : List ℕ) (ticks : ℕ) → Redo (λ C. Reached (undrift s P ticks C)) (λ p. Going (record p { bodies = drift s P ticks p.bodies })) []
drift_redone s P ticks p B fit e =
    let is : undrift s P ticks B ≡ p.bodies = reached_same (undrift s P ticks B) p.bodies e in
    let ids : ids_of (undrift s P ticks B) ≡ ids_of B = ids_same (undrifted s ticks) (λ b. refl) P B in
    record {
      fit = subst AreFit is (record { each = undrift_fits s P ticks B fit.each; ascending = subst IsStrictlyIncreasing (sym ids) fit.ascending });
      ids = ap ids_of (sym is) ∙ ids;
      goes = record { bodies = ap (drift s P ticks) (sym is) ∙ undrift_redone s P ticks B (places_of B fit.each); told = sym (append-nil (bins_of p.trail)) };
    }

close_redone : (r : Rules) (bin : ℕ) (P F : List ℕ) (t : ℕ) → Redo (back_close r bin P F t) (λ p. close r bin P F t p) []
unfolding close back_close
close_redone r bin P F t =
    let half = 2 ^ (bin - 1) in
    let end = t + 2 ^ bin in
    let ticks = drift_factor r.expansion t end in
    let h = kick_factor r.expansion (t + half) end in
    let s = r.gravity.setup in
    redo_quiet (λ C. Reached (undrift s (without F P) ticks C)) (back_kick r.gravity P F h) (λ p. Going (record p { bodies = drift s (without F P) ticks p.bodies })) (λ q. kick r bin P F end h (ask_if (is_less F P) P q)) []
    (drift_redone s (without F P) ticks)
    (redo_after (back_kick r.gravity P F h) (λ q. kick r bin P F end h q) (ask_if (is_less F P) P) [] [] (ask_leaves (is_less F P) P) (kick_redone r bin P F end h))

-- ---- a step

abbrev Finer : Rules → ℕ → Type 0
Finer r c = (parts : StepParts) (F : List ℕ) (t : ℕ) → r.gravity.setup.low_bin ≤ c → AreParts r.gravity.setup.low_bin c F parts → Redo (back r c parts F t) (λ p. evolve r None c F t p) (listed parts)

nothing_redone : Redo (λ B. Reached B) (λ p. Going p) []
nothing_redone p B fit e =
    let is : B ≡ p.bodies = reached_same B p.bodies e in
    record { fit = subst AreFit is fit; ids = ap ids_of (sym is); goes = record { bodies = sym is; told = sym (append-nil (bins_of p.trail)) } }

rest_leaves : (tick : ℕ) (p : Progress) → Leaves [] p (tell (Rested tick) p)
rest_leaves tick p = record { bodies = refl; told = none_more p.trail (Rested tick) refl }

-- what goes inside an unfinished evolve
redo_inside : (f : List BodyData → Back) (c : Progress → Stepped) (Gs : List (List ℕ)) (xs : List (List ℕ)) → Redo f c xs → Redo f (λ p. inside Gs (c p)) xs
redo_inside f c Gs xs redo p B fit e =
    let r = redo p B fit e in
    record { fit = r.fit; ids = r.ids; goes = goes_inside (Made xs B p) Gs (c p) r.goes }

redo_as : (f : List BodyData → Back) (c d : Progress → Stepped) (xs : List (List ℕ)) → ((p : Progress) → c p ≡ d p) → Redo f c xs → Redo f d xs
redo_as f c d xs same redo p B fit e =
    let r = redo p B fit e in
    record { fit = r.fit; ids = r.ids; goes = subst (Goes (Made xs B p)) (same p) r.goes }

between_redone : (r : Rules) (c : ℕ) → Finer r c → (P : List ℕ) (parts : StepParts) (t : ℕ) → AreParts r.gravity.setup.low_bin (c + 1) P parts →
    Redo (back_between (back r c) (c + 1) parts t) (λ q. between None (evolve r None c) (c + 1) (fast_of parts) t q) (finer_listed parts)
unfolding back_between between
between_redone r c finer P Alone t good = nothing_redone
between_redone r c finer P (With F one two) t good =
    let low = r.gravity.setup.low_bin in
    let middle = t + 2 ^ (c + 1 - 1) in
    let k = good.0 in
    let above : low ≤ c = omega (arith, k.above) in
    let a = finer one F t above (subst (λ n. AreParts low n F one) (less_one c) good.1) in
    let b = finer two F middle above (subst (λ n. AreParts low n F two) (less_one c) good.2) in
    let after : Redo (back r c two F middle) (λ q. rest None middle q >>= (λ s. evolve r None c F middle s)) (listed two) =
    redo_after (back r c two F middle) (λ q. evolve r None c F middle q) (tell (Rested middle)) [] (listed two) (rest_leaves middle) b in
    let both : Redo (λ B. back r c two F middle B >>- back r c one F t) (λ p. evolve r None c F t p >>= (λ q. rest None middle q >>= (λ s. evolve r None c F middle s))) (listed one ++ listed two) =
    redo_on (back r c one F t) (back r c two F middle) (λ p. evolve r None c F t p) (λ q. rest None middle q >>= (λ s. evolve r None c F middle s)) (listed one) (listed two) a after in
    redo_as (λ B. back r c two F middle B >>- back r c one F t)
    (λ p. inside (F ∷ []) (evolve r None c F t p >>= (λ q. rest None middle q >>= (λ s. evolve r None c F middle s))))
    (λ p. cond (is_empty F) (Going p) (inside (F ∷ []) (evolve r None c F t p >>= (λ q. rest None middle q) >>= (λ q. evolve r None c F middle q)))) (listed one ++ listed two)
    (λ p. ap (inside (F ∷ [])) (sym (bind_assoc (evolve r None c F t p) (λ q. rest None middle q) (λ q. evolve r None c F middle q))) ∙
    (λ i. cond (sym k.some i) (Going p) (inside (F ∷ []) (evolve r None c F t p >>= (λ q. rest None middle q) >>= (λ q. evolve r None c F middle q)))))
    (redo_inside (λ B. back r c two F middle B >>- back r c one F t) (λ p. evolve r None c F t p >>= (λ q. rest None middle q >>= (λ s. evolve r None c F middle s))) (F ∷ []) (listed one ++ listed two) both)

-- the fast part is as told
record IsTold (g : Gravity) (bin : ℕ) (P F : List ℕ) (A B : List BodyData) : Type 0 where
  same : B ≡ A
  fast : F ≡ fast g bin (only B P)

pub lists_same : (F G : List ℕ) → first_other F G ≡ None → F ≡ G
lists_same [] [] e = refl
lists_same [] (y ∷ ys) e = absurd cc
lists_same (x ∷ xs) [] e = absurd cc
lists_same (x ∷ xs) (y ∷ ys) e = by (x == y) refl (lists_same xs ys) e
  where
    by : (b : Bool) → (x == y) ≡ b → (first_other xs ys ≡ None → xs ≡ ys) → cond b (first_other xs ys) (Some (cond (nat_lt x y) x y)) ≡ None → x ∷ xs ≡ y ∷ ys
    by true h f e = λ i. eqb-true x y h i ∷ f e i
    by false h f e = absurd cc

told_cases : (g : Gravity) (bin : ℕ) (P F : List ℕ) (t : ℕ) (A B : List BodyData) (other : Option ℕ) → first_other F (fast g bin (only B P)) ≡ other → (elim other [ Some id ↦ Failed (BinsDiffer t id) | None ↦ Reached B ]) ≡ Reached A → IsTold g bin P F A B
told_cases g bin P F t A B None e h = record { same = reached_same B A h; fast = lists_same F (fast g bin (only B P)) e }
told_cases g bin P F t A B (Some id) e h = failed_not (BinsDiffer t id) A h

told_is : (g : Gravity) (bin : ℕ) (P F : List ℕ) (t : ℕ) (A B : List BodyData) → as_told g bin P F t B ≡ Reached A → IsTold g bin P F A B
unfolding as_told
told_is g bin P F t A B e = told_cases g bin P F t A B (first_other F (fast g bin (only B P))) refl e

told_redone : (g : Gravity) (bin : ℕ) (P F : List ℕ) (t : ℕ) → Redo (λ A. as_told g bin P F t A) (λ p. Going (tell (Binned F) p)) (F ∷ [])
told_redone g bin P F t p B fit e =
    let is = (told_is g bin P F t p.bodies B e).same in
    record { fit = subst AreFit is fit; ids = ap ids_of (sym is); goes = record { bodies = sym is; told = flat_map-append bins_in p.trail (Binned F ∷ []) } }

-- a step with this fast part
abbrev step_with : Rules → ℕ → List ℕ → List ℕ → ℕ → Progress → Stepped
step_with r c P F t p =
    let bin = c + 1 in
    kick r bin P F t (kick_factor r.expansion t (t + 2 ^ (bin - 1))) (ask_if (not (is_empty F) && is_less F P) F (tell (Binned F) p)) >>=
    (λ q. between None (evolve r None c) bin F t q) >>= (λ q. close r bin P F t q)

step_redone : (r : Rules) (c : ℕ) → Finer r c → (P : List ℕ) (parts : StepParts) (t : ℕ) → AreParts r.gravity.setup.low_bin (c + 1) P parts → Redo (back_by r (back r c) (c + 1) parts P t) (step_with r c P (fast_of parts) t) (listed parts)
unfolding back_by
step_redone r c finer P parts t good =
    let g = r.gravity in
    let bin = c + 1 in
    let F = fast_of parts in
    let h = kick_factor r.expansion t (t + 2 ^ (bin - 1)) in
    let b = not (is_empty F) && is_less F P in
    let f : List BodyData → Back = λ A. as_told g bin P F t A in
    let k : List BodyData → Back = λ D. back_kick g P F h D >>- f in
    let m : List BodyData → Back = λ C. back_between (back r c) bin parts t C >>- k in
    let one : Redo k (λ p. kick r bin P F t h (ask_if b F (tell (Binned F) p))) (F ∷ []) =
    redo_quiet f (back_kick g P F h) (λ p. Going (tell (Binned F) p)) (λ q. kick r bin P F t h (ask_if b F q)) (F ∷ []) (told_redone g bin P F t)
    (redo_after (back_kick g P F h) (λ q. kick r bin P F t h q) (ask_if b F) [] [] (ask_leaves b F) (kick_redone r bin P F t h)) in
    let first : Progress → Stepped = λ p. kick r bin P F t h (ask_if b F (tell (Binned F) p)) in
    let second : Progress → Stepped = λ q. between None (evolve r None c) bin F t q in
    let two : Redo m (λ p. first p >>= second) (F ∷ finer_listed parts) = redo_on k (back_between (back r c) bin parts t) first second (F ∷ []) (finer_listed parts) one (between_redone r c finer P parts t good) in
    let three : Redo (λ B. back_close r bin P F t B >>- m) (λ p. first p >>= second >>= (λ q. close r bin P F t q)) (F ∷ finer_listed parts) =
    redo_quiet m (back_close r bin P F t) (λ p. first p >>= second) (λ q. close r bin P F t q) (F ∷ finer_listed parts) two (close_redone r bin P F t) in
    subst (Redo (λ B. back_close r bin P F t B >>- m) (λ p. first p >>= second >>= (λ q. close r bin P F t q))) (listed_is parts) three

-- the step itself has this fast part
fast_told : (r : Rules) (c : ℕ) (parts : StepParts) (P : List ℕ) (t : ℕ) (B A : List BodyData) → back_by r (back r c) (c + 1) parts P t B ≡ Reached A → fast_of parts ≡ fast r.gravity (c + 1) (only A P)
unfolding back_by
fast_told r c parts P t B A e =
    let g = r.gravity in
    let bin = c + 1 in
    let F = fast_of parts in
    let h = kick_factor r.expansion t (t + 2 ^ (bin - 1)) in
    let f : List BodyData → Back = λ A. as_told g bin P F t A in
    let k : List BodyData → Back = λ D. back_kick g P F h D >>- f in
    let m : List BodyData → Back = λ C. back_between (back r c) bin parts t C >>- k in
    let x = through m (back_close r bin P F t) B A e in
    let y = through k (back_between (back r c) bin parts t) x.at A x.then in
    let z = through f (back_kick g P F h) y.at A y.then in
    let w = told_is g bin P F t A z.at z.then in
    w.fast ∙ ap (λ C. fast g bin (only C P)) w.same

never_lowest : (low bin : ℕ) (P : List ℕ) (parts : StepParts) → AreParts low bin P parts → (bin == low && not (is_empty (fast_of parts))) ≡ false
never_lowest low bin P Alone good = none (bin == low)
  where
    none : (b : Bool) → (b && false) ≡ false
    none true = refl
    none false = refl
never_lowest low bin P (With F one two) good = ap (λ b. b && not (is_empty F)) (ne_eqb bin low (omega (arith, good.0.above)))

evolve_step : (r : Rules) (c : ℕ) (parts : StepParts) (P : List ℕ) (t : ℕ) (p : Progress) → AreParts r.gravity.setup.low_bin (c + 1) P parts → fast_of parts ≡ fast r.gravity (c + 1) (only p.bodies P) → step_with r c P (fast_of parts) t p ≡ step_by r None (evolve r None c) (c + 1) P t p
unfolding step_by
evolve_step r c parts P t p good e =
    (λ i. cond (sym (never_lowest r.gravity.setup.low_bin (c + 1) P parts good) i) (Refused p (StepRange t (slice_index (fast_of parts) 0))) (step_with r c P (fast_of parts) t p)) ∙
    (λ i. cond (c + 1 == r.gravity.setup.low_bin && not (is_empty (e i))) (Refused p (StepRange t (slice_index (e i) 0))) (step_with r c P (e i) t p))

pub evolve_redone : (r : Rules) → 1 ≤ r.gravity.setup.low_bin → (bin : ℕ) → Finer r bin
unfolding evolve back
evolve_redone r some zero parts P t low good p B fit e = absurd (omega (arith, some, low))
evolve_redone r some (suc c) parts P t low good p B fit e =
    let here = subst (λ k. AreParts r.gravity.setup.low_bin k P parts) (sym (add-one c)) good in
    let s = step_redone r c (evolve_redone r some c) P parts t here p B fit e in
    record { fit = s.fit; ids = s.ids; goes = subst (Goes (Made (listed parts) B p)) (evolve_step r c parts P t p here (fast_told r c parts P t B p.bodies e)) s.goes }
