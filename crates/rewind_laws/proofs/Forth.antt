-- Taking back what a step made gives the bodies back.
use Rattle.std.proofs.Common.{◌≡◌, ◌<◌, ◌≤◌, ℕ, zero, suc, ◌+◌, ◌-◌, ◌^◌, Bool, true, false, cond, not, ◌&&◌, ◌==◌, nat_lt, List, [], ◌∷◌, ◌++◌, slice_index, Option, Some, None, refl, ap, sym, ◌∙◌, subst, arith, append_assoc, append-nil, add-one}
use Rattle.std.specs.Prelude.{⊤}
use Rattle.std.specs.List.{AllByRecursion}
use Rattle.std.specs.List.Sorted.{IsStrictlyIncreasing}
use Rattle.std.proofs.lemmas.Bool.{false≢true, true≢false, eq-eqb, eqb-true}
use Rattle.std.proofs.lemmas.Grind.{flat_map-append}
use Rattle.nbody_model.specs.Bodies.{BodyData, only}
use Rattle.nbody_model.specs.Setups.{SetupData}
use Rattle.nbody_model.specs.Tables.{Rules, Gravity}
use Rattle.nbody_model.specs.Factors.{kick_factor, drift_factor}
use Rattle.nbody_model.specs.Steps.{fast, without, drifted, drift, change, kicked_bodies, first_out}
use Rattle.nbody_model.specs.Evolve.{Happening, Binned, Asked, Kicked, Rested, bins_in, bins_of, Progress, tell, Refusal, MomRange, StepRange, Stepped, Going, Refused, Resting, ◌>>=◌, inside, is_empty, is_less, ask_if, record_of, kick, rest, close, between, step_by, evolve}
use Rattle.model_laws.specs.Nests.{ids_of}
use Rattle.model_laws.proofs.Nests.{ids_same}
use Rattle.model_laws.proofs.Preserved.{fast_is_part}
use Rattle.model_laws.proofs.Rests.{less_one}
use Rattle.rewind_laws.specs.Back.{StepParts, Alone, With, fast_of, listed, IsFast, AreParts, Back, Reached, Failed, BinsDiffer, MomentumOut, ◌>>-◌, unkicked_bodies, back_kick, undrift, first_other, as_told, back_close, back_between, back_by, back}
use Rattle.rewind_laws.proofs.Undo.{pushed, kick_undone, drift_undone}
use Rattle.rewind_laws.proofs.Fits.{IsFit, AreFit, fast_ascends, none_out, each_out, not_kicked, drift_fits, places_of}

-- ---- what goes on

-- it holds of a step that goes on
abbrev pub Comes : (Progress → Type 0) → Stepped → Type 0
Comes I (Going p) = I p
Comes I (Refused p e) = ⊤
Comes I (Resting p tick Fs) = ⊤

pub comes_on : (I J : Progress → Type 0) (s : Stepped) (f : Progress → Stepped) → Comes I s → ((p : Progress) → I p → Comes J (f p)) → Comes J (s >>= f)
comes_on I J (Going p) f h g = g p h
comes_on I J (Refused p e) f h g = tt
comes_on I J (Resting p tick Fs) f h g = tt

pub comes_as : (I J : Progress → Type 0) (s : Stepped) → Comes I s → ((p : Progress) → I p → J p) → Comes J s
comes_as I J (Going p) h g = g p h
comes_as I J (Refused p e) h g = tt
comes_as I J (Resting p tick Fs) h g = tt

comes_inside : (I : Progress → Type 0) (Gs : List (List ℕ)) (s : Stepped) → Comes I s → Comes I (inside Gs s)
comes_inside I Gs (Going p) h = h
comes_inside I Gs (Refused p e) h = tt
comes_inside I Gs (Resting p tick Fs) h = tt

-- from p to q these fast parts were told, and f takes the bodies back
pub record Turned (f : List BodyData → Back) (bins : List (List ℕ)) (p q : Progress) : Type 0 where
  pub told : bins_of q.trail ≡ bins_of p.trail ++ bins
  pub back : f q.bodies ≡ Reached p.bodies
  pub fit : AreFit q.bodies
  pub ids : ids_of q.bodies ≡ ids_of p.bodies

pub turned_on : (f g : List BodyData → Back) (xs ys : List (List ℕ)) (p q s : Progress) → Turned f xs p q → Turned g ys q s → Turned (λ B. g B >>- f) (xs ++ ys) p s
turned_on f g xs ys p q s a b = record {
  told = b.told ∙ ap (λ zs. zs ++ ys) a.told ∙ append_assoc (bins_of p.trail) xs ys;
  back = ap (λ z. z >>- f) b.back ∙ a.back;
  fit = b.fit;
  ids = b.ids ∙ a.ids;
}

-- with nothing told
turned_quiet : (f g : List BodyData → Back) (xs : List (List ℕ)) (p q s : Progress) → Turned f xs p q → Turned g [] q s → Turned (λ B. g B >>- f) xs p s
turned_quiet f g xs p q s a b = subst (λ zs. Turned (λ B. g B >>- f) zs p s) (append-nil xs) (turned_on f g xs [] p q s a b)

-- the same bodies, and no further fast part
record SameThere (p q : Progress) : Type 0 where
  bodies : q.bodies ≡ p.bodies
  bins : bins_of q.trail ≡ bins_of p.trail

turned_there : (f : List BodyData → Back) (xs : List (List ℕ)) (p q s : Progress) → Turned f xs p q → SameThere q s → Turned f xs p s
turned_there f xs p q s a b = record {
  told = b.bins ∙ a.told;
  back = ap f b.bodies ∙ a.back;
  fit = subst AreFit (sym b.bodies) a.fit;
  ids = ap ids_of b.bodies ∙ a.ids;
}

turned_from : (f : List BodyData → Back) (xs : List (List ℕ)) (p q s : Progress) → SameThere p q → Turned f xs q s → Turned f xs p s
turned_from f xs p q s b a = record {
  told = a.told ∙ ap (λ zs. zs ++ xs) b.bins;
  back = a.back ∙ ap Reached b.bodies;
  fit = a.fit;
  ids = a.ids ∙ ap ids_of b.bodies;
}

-- what tells no fast part
pub bins_more : (trail : List Happening) (what : Happening) → bins_in what ≡ [] → bins_of (trail ++ what ∷ []) ≡ bins_of trail
bins_more trail what e = flat_map-append bins_in trail (what ∷ []) ∙ ap (λ zs. bins_of trail ++ (zs ++ [])) e ∙ append-nil (bins_of trail)

asked_there : (b : Bool) (P : List ℕ) (p : Progress) → SameThere p (ask_if b P p)
asked_there true P p = record { bodies = refl; bins = bins_more p.trail (Asked (only p.bodies P)) refl }
asked_there false P p = record { bodies = refl; bins = refl }

rest_there : (stop : Option ℕ) (tick : ℕ) (p : Progress) → Comes (SameThere p) (rest stop tick p)
rest_there None tick p = record { bodies = refl; bins = bins_more p.trail (Rested tick) refl }
rest_there (Some s) tick p = at (s == tick)
  where
    at : (b : Bool) → Comes (SameThere p) (cond b (Resting (tell (Rested tick) p) tick []) (Going (tell (Rested tick) p)))
    at true = tt
    at false = record { bodies = refl; bins = bins_more p.trail (Rested tick) refl }

-- ---- a kick

back_kick_is : (g : Gravity) (P F : List ℕ) (h : ℕ) (B A : List BodyData) → AreFit A → unkicked_bodies h P (change g P F B) B ≡ A → back_kick g P F h B ≡ Reached A
unfolding back_kick
back_kick_is g P F h B A fit e =
    (λ i. elim (first_out (only (e i) P)) [ Some first ↦ Failed (MomentumOut first.0 first.1) | None ↦ Reached (e i) ]) ∙
    (λ i. elim (none_out P A fit.each i) [ Some first ↦ Failed (MomentumOut first.0 first.1) | None ↦ Reached A ])

kick_fit : (h : ℕ) (P : List ℕ) (g : Gravity) (F : List ℕ) (B : List BodyData) → AreFit B → (b : Bool) → (h == 0) ≡ b →
    ◌≡◌ {A = Option (ℕ × ℕ)} (cond b None (first_out (only (kicked_bodies h P (change g P F B) B) P))) None → AllByRecursion (λ b. IsFit b) (kicked_bodies h P (change g P F B) B)
kick_fit h P g F B fit true e n = subst (AllByRecursion (λ b. IsFit b)) (sym (not_kicked h P (change g P F B) B (eqb-true h 0 e))) fit.each
kick_fit h P g F B fit false e n = each_out P (pushed h (change g P F B)) (λ b. refl) (λ b. refl) B fit.each n

unless_out : (I : Progress → Type 0) (p q : Progress) (bin tick : ℕ) (out : Option (ℕ × ℕ)) → (out ≡ None → I q) → Comes I (elim out [ Some first ↦ Refused p (MomRange tick bin first.0 first.1) | None ↦ Going q ])
unless_out I p q bin tick None f = f refl
unless_out I p q bin tick (Some first) f = tt

kick_turned : (r : Rules) (bin : ℕ) (P F : List ℕ) (tick h : ℕ) (p : Progress) → AreFit p.bodies → Comes (Turned (back_kick r.gravity P F h) [] p) (kick r bin P F tick h p)
unfolding kick
kick_turned r bin P F tick h p fit =
    let v = change r.gravity P F p.bodies in
    let C = kicked_bodies h P v p.bodies in
    let q : Progress = tell (Kicked (record_of r tick bin P F p.bodies C)) (record p { bodies = C }) in
    let ids : ids_of C ≡ ids_of p.bodies = ids_same (pushed h v) (λ b. refl) P p.bodies in
    let out : Option (ℕ × ℕ) = cond (h == 0) None (first_out (only C P)) in
    unless_out (Turned (back_kick r.gravity P F h) [] p) p q bin tick out (λ n. record {
      told = bins_more p.trail (Kicked (record_of r tick bin P F p.bodies C)) refl ∙ sym (append-nil (bins_of p.trail));
      back = back_kick_is r.gravity P F h C p.bodies fit (kick_undone r.gravity P F h p.bodies);
      fit = record { each = kick_fit h P r.gravity F p.bodies fit (h == 0) refl n; ascending = subst IsStrictlyIncreasing (sym ids) fit.ascending };
      ids = ids;
    })

-- ---- the second half

drift_turned : (s : SetupData) (P : List ℕ) (ticks : ℕ) (p : Progress) → AreFit p.bodies → Turned (λ C. Reached (undrift s P ticks C)) [] p (record p { bodies = drift s P ticks p.bodies })
drift_turned s P ticks p fit =
    let ids : ids_of (drift s P ticks p.bodies) ≡ ids_of p.bodies = ids_same (drifted s ticks) (λ b. refl) P p.bodies in
    record {
      told = sym (append-nil (bins_of p.trail));
      back = ap Reached (drift_undone s P ticks p.bodies (places_of p.bodies fit.each));
      fit = record { each = drift_fits s P ticks p.bodies fit.each; ascending = subst IsStrictlyIncreasing (sym ids) fit.ascending };
      ids = ids;
    }

close_turned : (r : Rules) (bin : ℕ) (P F : List ℕ) (t : ℕ) (p : Progress) → AreFit p.bodies → Comes (Turned (back_close r bin P F t) [] p) (close r bin P F t p)
unfolding close back_close
close_turned r bin P F t p fit =
    let half = 2 ^ (bin - 1) in
    let end = t + 2 ^ bin in
    let ticks = drift_factor r.expansion t end in
    let h = kick_factor r.expansion (t + half) end in
    let moved : Progress = record p { bodies = drift r.gravity.setup (without F P) ticks p.bodies } in
    let known = ask_if (is_less F P) P moved in
    let f : List BodyData → Back = λ C. Reached (undrift r.gravity.setup (without F P) ticks C) in
    let a : Turned f [] p known = turned_there f [] p moved known (drift_turned r.gravity.setup (without F P) ticks p fit) (asked_there (is_less F P) P moved) in
    comes_as (Turned (back_kick r.gravity P F h) [] known) (Turned (λ B. back_kick r.gravity P F h B >>- f) [] p) (kick r bin P F end h known) (kick_turned r bin P F end h known a.fit)
    (λ q b. turned_quiet f (back_kick r.gravity P F h) [] p known q a b)

-- ---- a step

pub record Undone (r : Rules) (bin : ℕ) (P : List ℕ) (t : ℕ) (p q : Progress) : Type 0 where
  pub parts : StepParts
  pub good : AreParts r.gravity.setup.low_bin bin P parts
  pub turned : Turned (back r bin parts P t) (listed parts) p q

abbrev pub finer_listed : StepParts → List (List ℕ)
finer_listed Alone = []
finer_listed (With F one two) = listed one ++ listed two

pub listed_is : (parts : StepParts) → fast_of parts ∷ finer_listed parts ≡ listed parts
listed_is Alone = refl
listed_is (With F one two) = refl

record Between (r : Rules) (c : ℕ) (P F : List ℕ) (t : ℕ) (p q : Progress) : Type 0 where
  parts : StepParts
  fast : fast_of parts ≡ F
  good : AreParts r.gravity.setup.low_bin (c + 1) P parts
  turned : Turned (back_between (back r c) (c + 1) parts t) (finer_listed parts) p q

-- what is known of finer steps
abbrev Finer : Rules → Option ℕ → ℕ → Type 0
Finer r stop c = (F : List ℕ) (t : ℕ) (p : Progress) → r.gravity.setup.low_bin ≤ c → AreFit p.bodies → Comes (Undone r c F t p) (evolve r stop c F t p)

empty_is : (F : List ℕ) → is_empty F ≡ true → [] ≡ F
empty_is [] e = refl
empty_is (x ∷ xs) e = absurd (false≢true e)

between_parts : (r : Rules) (c : ℕ) (P F : List ℕ) (t : ℕ) (p q m s : Progress) → IsFast r.gravity.setup.low_bin (c + 1) P F → Undone r c F t p q → SameThere q m → Undone r c F (t + 2 ^ (c + 1 - 1)) m s → Between r c P F t p s
unfolding back_between
between_parts r c P F t p q m s is a b d =
    let low = r.gravity.setup.low_bin in
    let f = back r c a.parts F t in
    let g = back r c d.parts F (t + 2 ^ (c + 1 - 1)) in
    record {
      parts = With F a.parts d.parts;
      fast = refl;
      good = (is, subst (λ k. AreParts low k F a.parts) (sym (less_one c)) a.good, subst (λ k. AreParts low k F d.parts) (sym (less_one c)) d.good);
      turned = turned_on f g (listed a.parts) (listed d.parts) p m s (turned_there f (listed a.parts) p q m a.turned b) d.turned;
    }

-- at the resting point between the finer steps
record MiddleOf (r : Rules) (c : ℕ) (F : List ℕ) (t : ℕ) (p m : Progress) : Type 0 where
  first : Progress
  undone : Undone r c F t p first
  same : SameThere first m

between_comes : (r : Rules) (stop : Option ℕ) (c : ℕ) → Finer r stop c → (P F : List ℕ) (t : ℕ) (p : Progress) → AreFit p.bodies → (b : Bool) → is_empty F ≡ b → (is_empty F ≡ false → IsFast r.gravity.setup.low_bin (c + 1) P F) →
    Comes (Between r c P F t p) (cond b (Going p) (inside (F ∷ []) (evolve r stop c F t p >>= (λ q. rest stop (t + 2 ^ (c + 1 - 1)) q) >>= (λ q. evolve r stop c F (t + 2 ^ (c + 1 - 1)) q))))
unfolding back_between
between_comes r stop c finer P F t p fit true e is = record {
  parts = Alone;
  fast = empty_is F e;
  good = tt;
  turned = record { told = sym (append-nil (bins_of p.trail)); back = refl; fit = fit; ids = refl };
}
between_comes r stop c finer P F t p fit false e is =
    let middle = t + 2 ^ (c + 1 - 1) in
    let k = is e in
    let low : r.gravity.setup.low_bin ≤ c = omega (arith, k.above) in
    let one = evolve r stop c F t p in
    let two = one >>= (λ q. rest stop middle q) in
    let Middle : Progress → Type 0 = λ m. MiddleOf r c F t p m in
    comes_inside (Between r c P F t p) (F ∷ []) (two >>= (λ q. evolve r stop c F middle q))
    (comes_on Middle (Between r c P F t p) two (λ q. evolve r stop c F middle q)
    (comes_on (Undone r c F t p) Middle one (λ q. rest stop middle q) (finer F t p low fit)
    (λ q a. comes_as (SameThere q) Middle (rest stop middle q) (rest_there stop middle q) (λ m b. record { first = q; undone = a; same = b })))
    (λ m h. comes_as (Undone r c F middle m) (Between r c P F t p) (evolve r stop c F middle m)
    (finer F middle m low (subst AreFit (sym h.same.bodies) h.undone.turned.fit))
    (λ s d. between_parts r c P F t p h.first m s k h.undone h.same d)))

-- ---- a step as a whole

same_lists : (F : List ℕ) → first_other F F ≡ None
same_lists [] = refl
same_lists (x ∷ xs) = (λ i. cond (eq-eqb x x refl i) (first_other xs xs) (Some (cond (nat_lt x x) x x))) ∙ same_lists xs

told_right : (g : Gravity) (bin : ℕ) (P F : List ℕ) (t : ℕ) (B : List BodyData) → fast g bin (only B P) ≡ F → as_told g bin P F t B ≡ Reached B
unfolding as_told
told_right g bin P F t B e =
    (λ i. elim (first_other F (e i)) [ Some id ↦ Failed (BinsDiffer t id) | None ↦ Reached B ]) ∙
    (λ i. elim (same_lists F i) [ Some id ↦ Failed (BinsDiffer t id) | None ↦ Reached B ])

-- a step is taken back with this fast part
abbrev back_with : Rules → (StepParts → List ℕ → ℕ → List BodyData → Back) → ℕ → StepParts → List ℕ → List ℕ → ℕ → List BodyData → Back
back_with r finer bin parts P F t B =
    back_close r bin P F t B >>- (λ C. back_between finer bin parts t C >>- (λ D.
    back_kick r.gravity P F (kick_factor r.expansion t (t + 2 ^ (bin - 1))) D >>- (λ A. as_told r.gravity bin P F t A)))

record StepUndone (r : Rules) (c : ℕ) (P : List ℕ) (t : ℕ) (p q : Progress) : Type 0 where
  parts : StepParts
  good : AreParts r.gravity.setup.low_bin (c + 1) P parts
  turned : Turned (back_by r (back r c) (c + 1) parts P t) (listed parts) p q

with_is : (r : Rules) (c : ℕ) (parts : StepParts) (P F : List ℕ) (t : ℕ) (p q : Progress) → fast_of parts ≡ F → Turned (back_with r (back r c) (c + 1) parts P F t) (F ∷ finer_listed parts) p q →
    Turned (back_by r (back r c) (c + 1) parts P t) (listed parts) p q
unfolding back_by
with_is r c parts P F t p q e a =
    let b : Turned (back_with r (back r c) (c + 1) parts P (fast_of parts) t) (fast_of parts ∷ finer_listed parts) p q = subst (λ G. Turned (back_with r (back r c) (c + 1) parts P G t) (G ∷ finer_listed parts) p q) (sym e) a in
    subst (λ zs. Turned (back_with r (back r c) (c + 1) parts P (fast_of parts) t) zs p q) (listed_is parts) b

-- a first half, a middle and a second half
record HalfWay (r : Rules) (c : ℕ) (P F : List ℕ) (t : ℕ) (p q : Progress) : Type 0 where
  parts : StepParts
  fast : fast_of parts ≡ F
  good : AreParts r.gravity.setup.low_bin (c + 1) P parts
  turned : Turned (λ C. back_between (back r c) (c + 1) parts t C >>- (λ D. back_kick r.gravity P F (kick_factor r.expansion t (t + 2 ^ (c + 1 - 1))) D >>- (λ A. as_told r.gravity (c + 1) P F t A))) (F ∷ finer_listed parts) p q

unless_refused : (I : Progress → Type 0) (b : Bool) (p : Progress) (e : Refusal) (s : Stepped) → (b ≡ false → Comes I s) → Comes I (cond b (Refused p e) s)
unless_refused I true p e s f = tt
unless_refused I false p e s f = f refl

not_lowest : (bin low : ℕ) (b : Bool) → low ≤ bin → (bin == low && not b) ≡ false → b ≡ false → low < bin
not_lowest bin low true h e f = absurd (true≢false f)
not_lowest bin low false h e f = apart (bin == low) refl e
  where
    apart : (d : Bool) → (bin == low) ≡ d → (d && true) ≡ false → low < bin
    apart true g k = absurd (true≢false k)
    apart false g k = omega (arith, h, unlike)
      where
        unlike : bin ≡ low → ⊥
        unlike same = absurd (true≢false (sym (eq-eqb bin low same) ∙ g))

step_undone : (r : Rules) (stop : Option ℕ) (c : ℕ) → r.gravity.setup.low_bin ≤ c + 1 → Finer r stop c → (P : List ℕ) (t : ℕ) (p : Progress) → AreFit p.bodies →
    Comes (StepUndone r c P t p) (step_by r stop (evolve r stop c) (c + 1) P t p)
unfolding step_by between
step_undone r stop c low finer P t p fit =
    let g = r.gravity in
    let bin = c + 1 in
    let half = 2 ^ (bin - 1) in
    let h = kick_factor r.expansion t (t + half) in
    let F = fast g bin (only p.bodies P) in
    let told = tell (Binned F) p in
    let b = not (is_empty F) && is_less F P in
    let known = ask_if b F told in
    let first = kick r bin P F t h known in
    let second = first >>= (λ q. between stop (evolve r stop c) bin F t q) in
    let f : List BodyData → Back = λ A. as_told g bin P F t A in
    let k : List BodyData → Back = λ D. back_kick g P F h D >>- f in
    let zero : Turned f (F ∷ []) p told = record { told = flat_map-append bins_in p.trail (Binned F ∷ []); back = told_right g bin P F t p.bodies refl; fit = fit; ids = refl } in
    let one : Turned f (F ∷ []) p known = turned_there f (F ∷ []) p told known zero (asked_there b F told) in
    unless_refused (StepUndone r c P t p) (bin == g.setup.low_bin && not (is_empty F)) p (StepRange t (slice_index F 0)) (second >>= (λ q. close r bin P F t q)) (λ n.
    let is : is_empty F ≡ false → IsFast g.setup.low_bin bin P F = λ e. record { some = e; above = not_lowest bin g.setup.low_bin (is_empty F) low n e; ascending = fast_ascends g bin P p.bodies fit.ascending; part = fast_is_part g bin P p.bodies } in
    comes_on (HalfWay r c P F t p) (StepUndone r c P t p) second (λ q. close r bin P F t q)
    (comes_on (Turned k (F ∷ []) p) (HalfWay r c P F t p) first (λ q. between stop (evolve r stop c) bin F t q)
    (comes_as (Turned (back_kick g P F h) [] known) (Turned k (F ∷ []) p) first (kick_turned r bin P F t h known one.fit) (λ q a. turned_quiet f (back_kick g P F h) (F ∷ []) p known q one a))
    (λ q a. comes_as (Between r c P F t q) (HalfWay r c P F t p) (between stop (evolve r stop c) bin F t q) (between_comes r stop c finer P F t q a.fit (is_empty F) refl is)
    (λ s d. record { parts = d.parts; fast = d.fast; good = d.good; turned = turned_on k (back_between (back r c) bin d.parts t) (F ∷ []) (finer_listed d.parts) p q s a d.turned })))
    (λ q a. comes_as (Turned (back_close r bin P F t) [] q) (StepUndone r c P t p) (close r bin P F t q) (close_turned r bin P F t q a.turned.fit)
    (λ s d. record {
      parts = a.parts;
      good = a.good;
      turned = with_is r c a.parts P F t p s a.fast
          (turned_quiet (λ C. back_between (back r c) bin a.parts t C >>- k) (back_close r bin P F t) (F ∷ finer_listed a.parts) p q s a.turned d);
    })))

pub evolve_undone : (r : Rules) (stop : Option ℕ) → 1 ≤ r.gravity.setup.low_bin → (bin : ℕ) → Finer r stop bin
unfolding evolve back
evolve_undone r stop some zero P t p low fit = absurd (omega (arith, some, low))
evolve_undone r stop some (suc c) P t p low fit =
    comes_as (StepUndone r c P t p) (Undone r (suc c) P t p) (step_by r stop (evolve r stop c) (c + 1) P t p)
    (step_undone r stop c (omega (arith, low)) (evolve_undone r stop some c) P t p fit)
    (λ q a. record { parts = a.parts; good = subst (λ k. AreParts r.gravity.setup.low_bin k P a.parts) (add-one c) a.good; turned = a.turned })
