-- The second half of a step by its parts.
use Rattle.std.proofs.Common.{◌≡◌, ◌≢◌, ◌==◌, ◌||◌, ◌+◌, ◌-◌, ◌^◌, ℕ, ℤ, Bool, true, false, cond, not, List, [], ◌∷◌, length, filter, Option, Result, Ok, Err, refl, ap, sym, ◌∙◌, subst, arith}
use Rattle.std.proofs.lemmas.Bool.{ne_eqb, eq-eqb, false≢true}
use Rattle.nbody_model.specs.Bodies.{BodyData, has, only}
use Rattle.nbody_model.specs.Setups.{SetupData}
use Rattle.nbody_model.specs.Tables.{Gravity, Rules}
use Rattle.nbody_model.specs.Fields.{FieldData}
use Rattle.nbody_model.specs.Factors.{kick_factor, drift_factor}
use Rattle.nbody_model.specs.Steps.{drifted, drift, without}
use Rattle.nbody_model.specs.Evolve.{Asked, Progress, tell, Stepped, Going, ◌>>=◌, is_less, ask_if, kick, close}
use Rattle.model_laws.specs.Preserved.{IsPart}
use Rattle.model_laws.specs.Still.{SamePlaces, SameForces}
use Rattle.model_laws.proofs.Still.{momenta_dont_matter, parts_in_place}
use Rattle.kick_drift.proofs.Chosen.{none}
use Rattle.step_engine.specs.declared.halt.Halt.{Halt}
use Rattle.step_engine.specs.Told.{Finder, AreForcesAmong}
use Rattle.step_engine.specs.Stands.{Now, IsReady}
use Rattle.step_engine.specs.Ends.{Makes}
use Rattle.step_engine.proofs.Joins.{joined, halted, same}
use Rattle.step_engine.proofs.Keeps.{ready_on}
use Rattle.step_engine.proofs.Adds.{kick_adds}

-- ---- forces that stay

pub forces_still : (g : Gravity) (P : List ℕ) (f : FieldData) (B C : List BodyData) → SamePlaces C B → AreForcesAmong g (only B P) f → AreForcesAmong g (only C P) f
forces_still g P f B C e k =
    let s : SameForces g (only C P) (only B P) = momenta_dont_matter g (only C P) (only B P) (parts_in_place P C B e) in
    record { forces = k.forces ∙ sym s.all; interactions = k.interactions ∙ sym (ap length s.acting) }

without_step : (F : List ℕ) (p id : ℕ) (Q : List ℕ) (t : Bool) → has F p ≡ t → has F id ≡ true → has Q id ≡ false → has (cond (not t) (p ∷ Q) Q) id ≡ false
without_step F p id Q true e h k = k
without_step F p id Q false e h k = ap (λ b. b || has Q id) (ne_eqb p id (λ s. false≢true (sym e ∙ ap (has F) s ∙ h))) ∙ k

-- what isn't among the others
pub has_without : (F P : List ℕ) (id : ℕ) → has F id ≡ true → has (without F P) id ≡ false
has_without F [] id h = refl
has_without F (p ∷ P) id h = without_step F p id (without F P) (has F p) refl h (has_without F P id h)

drift_step : (s : SetupData) (ticks : ℕ) (F Q : List ℕ) (b : BodyData) (xs ys : List BodyData) (t u : Bool) → has F b.id ≡ t → has Q b.id ≡ u → (t ≡ true → u ≡ false) → xs ≡ ys →
    cond (has F (cond u (drifted s ticks b) b).id) ((cond u (drifted s ticks b) b) ∷ xs) xs ≡ cond (has F b.id) (b ∷ ys) ys
drift_step s ticks F Q b xs ys t false e h k m = λ i. cond (has F b.id) (b ∷ m i) (m i)
drift_step s ticks F Q b xs ys true true e h k m = absurd (false≢true (sym (k refl)))
drift_step s ticks F Q b xs ys false true e h k m = (λ i. cond (e i) (drifted s ticks b ∷ xs) xs) ∙ m ∙ sym (λ i. cond (e i) (b ∷ ys) ys)

drift_apart : (s : SetupData) (ticks : ℕ) (F Q : List ℕ) (B : List BodyData) → ((id : ℕ) → has F id ≡ true → has Q id ≡ false) → only (drift s Q ticks B) F ≡ only B F
drift_apart s ticks F Q [] h = refl
drift_apart s ticks F Q (b ∷ B) h = drift_step s ticks F Q b (only (drift s Q ticks B) F) (only B F) (has F b.id) (has Q b.id) refl refl (h b.id) (drift_apart s ticks F Q B h)

-- the drift of the others moves no body of F
pub forces_apart : (g : Gravity) (s : SetupData) (F P : List ℕ) (ticks : ℕ) (f : FieldData) (B : List BodyData) → AreForcesAmong g (only B F) f → AreForcesAmong g (only (drift s (without F P) ticks B) F) f
forces_apart g s F P ticks f B k = subst (λ C. AreForcesAmong g C f) (sym (drift_apart s ticks F (without F P) B (λ id. has_without F P id))) k

-- ---- where all are fast

filter_none : (t : ℕ → Bool) (P : List ℕ) → ((id : ℕ) → has P id ≡ true → t id ≡ false) → filter t P ≡ []
filter_none t [] h = refl
filter_none t (p ∷ P) h =
    let first : t p ≡ false = h p (ap (λ b. b || has P p) (eq-eqb p p refl)) in
    ap (λ b. cond b (p ∷ filter t P) (filter t P)) first ∙ filter_none t P (λ id e. h id (later (p == id) (has P id) e))
  where
    later : (a b : Bool) → b ≡ true → (a || b) ≡ true
    later true b e = refl
    later false b e = e

without_all : (P : List ℕ) → without P P ≡ []
without_all P = filter_none (λ id. not (has P id)) P (λ id e. ap not e)

pub close_all_is : (r : Rules) (bin : ℕ) (P F : List ℕ) (t : ℕ) (p : Progress) → F ≡ P → close r bin P F t p ≡ kick r bin P F (t + 2 ^ bin) (kick_factor r.expansion (t + 2 ^ (bin - 1)) (t + 2 ^ bin)) p
unfolding close
close_all_is r bin P F t p e =
    let ticks = drift_factor r.expansion t (t + 2 ^ bin) in
    let h = kick_factor r.expansion (t + 2 ^ (bin - 1)) (t + 2 ^ bin) in
    let nobody : without F P ≡ [] = ap (λ X. without X P) e ∙ without_all P in
    let stays : drift r.gravity.setup (without F P) ticks p.bodies ≡ p.bodies = ap (λ Q. drift r.gravity.setup Q ticks p.bodies) nobody ∙ none p.bodies (drifted r.gravity.setup ticks) in
    let known : is_less F P ≡ false = ap not (eq-eqb (length F) (length P) (ap length e)) in
    (λ i. kick r bin P F (t + 2 ^ bin) h (ask_if (known i) P (record p { bodies = stays i })))

-- ---- where some aren't

abbrev pub moves_on : Rules → ℕ → List ℕ → List ℕ → ℕ → Option ℕ → Progress → Stepped
moves_on r bin P F t stop p = Going (record p { bodies = drift r.gravity.setup (without F P) (drift_factor r.expansion t (t + 2 ^ bin)) p.bodies })

abbrev pub asks_for : List ℕ → Option ℕ → Progress → Stepped
asks_for P stop p = Going (tell (Asked (only p.bodies P)) p)

abbrev pub kicks_last : Rules → ℕ → List ℕ → List ℕ → ℕ → Option ℕ → Progress → Stepped
kicks_last r bin P F t stop p = kick r bin P F (t + 2 ^ bin) (kick_factor r.expansion (t + 2 ^ (bin - 1)) (t + 2 ^ bin)) p

pub close_some_is : (r : Rules) (bin : ℕ) (P F : List ℕ) (t : ℕ) (stop : Option ℕ) (p : Progress) → length F ≢ length P → close r bin P F t p ≡ (moves_on r bin P F t stop p >>= asks_for P stop) >>= kicks_last r bin P F t stop
unfolding close
close_some_is r bin P F t stop p e =
    let h = kick_factor r.expansion (t + 2 ^ (bin - 1)) (t + 2 ^ bin) in
    let less : is_less F P ≡ true = ap not (ne_eqb (length F) (length P) e) in
    (λ i. kick r bin P F (t + 2 ^ bin) h (ask_if (less i) P (record p { bodies = drift r.gravity.setup (without F P) (drift_factor r.expansion t (t + 2 ^ bin)) p.bodies })))

-- the same kick, its tick and its factor otherwise said
pub retimed : {T : Type 0} (passes : Finder) (n : ℕ) (r : Rules) (bin : ℕ) (P F : List ℕ) (e u h k : ℕ) (answer : Result T Halt) (A Z : Now) → e ≡ u → h ≡ k → Makes {T = T} passes n 1 e e (λ stop p. kick r bin P F e h p) answer A Z →
    Makes {T = T} passes n 1 u u (λ stop p. kick r bin P F u k p) answer A Z
retimed passes n r bin P F e u h k answer A Z d f m =
    subst (λ x. Makes passes n 1 x x (λ stop p. kick r bin P F x k p) answer A Z) d (subst (λ x. Makes passes n 1 e e (λ stop p. kick r bin P F e x p) answer A Z) f m)

module _ (passes : Finder) where
  pub ready_made : {T : Type 0} (n most f t : ℕ) (X : Option ℕ → Progress → Stepped) (x : T) (s : SetupData) (sum : List ℤ) (A M : Now) → Makes {T = T} passes n most f t X (Ok x) A M → IsReady s sum A → IsReady s sum M
  ready_made n most f t X x s sum A M m r = ready_on s sum A M r m.gravity m.conserved m.cause.depth m.counted

  pub closed : {T U V : Type 0} (n : ℕ) (r : Rules) (bin : ℕ) (P F : List ℕ) (t e : ℕ) (x : T) (y : U) (answer : Result V Halt) (A M N Z : Now) → length F ≢ length P →
      Makes {T = T} passes n 0 e e (moves_on r bin P F t) (Ok x) A M → Makes {T = U} passes n 0 e e (asks_for P) (Ok y) M N → Makes {T = V} passes n 1 e e (kicks_last r bin P F t) answer N Z →
      Makes {T = V} passes n 1 e e (λ stop p. close r bin P F t p) answer A Z
  closed n r bin P F t e x y answer A M N Z less one two three =
      same passes n 1 e e (λ stop p. close r bin P F t p) (λ stop p. (moves_on r bin P F t stop p >>= asks_for P stop) >>= kicks_last r bin P F t stop) answer A Z (λ stop p b. close_some_is r bin P F t stop p less)
      (joined passes n 0 1 e e e e (λ stop p. moves_on r bin P F t stop p >>= asks_for P stop) (kicks_last r bin P F t) y answer A N Z (omega arith) (omega arith) (omega arith)
      (joined passes n 0 0 e e e e (moves_on r bin P F t) (asks_for P) x (Ok y) A M N (omega arith) (omega arith) (omega arith) one two) three)

  pub closed_asking : {T U V : Type 0} (n : ℕ) (r : Rules) (bin : ℕ) (P F : List ℕ) (t e : ℕ) (x : T) (h : Halt) (A M Z : Now) → length F ≢ length P → IsPart F P →
      Makes {T = T} passes n 0 e e (moves_on r bin P F t) (Ok x) A M → Makes {T = U} passes n 0 e e (asks_for P) (Err h) M Z → Makes {T = V} passes n 1 e e (λ stop p. close r bin P F t p) (Err h) A Z
  closed_asking {U = U} {V = V} n r bin P F t e x h A M Z less part one two =
      same passes n 1 e e (λ stop p. close r bin P F t p) (λ stop p. (moves_on r bin P F t stop p >>= asks_for P stop) >>= kicks_last r bin P F t stop) (Err h) A Z (λ stop p b. close_some_is r bin P F t stop p less)
      (halted passes {T = U} {U = V} n 0 1 e e e e (λ stop p. moves_on r bin P F t stop p >>= asks_for P stop) (kicks_last r bin P F t) h A Z (omega arith) (omega arith) (omega arith) (kick_adds r bin P F (t + 2 ^ bin) (kick_factor r.expansion (t + 2 ^ (bin - 1)) (t + 2 ^ bin)) part)
      (joined passes n 0 0 e e e e (moves_on r bin P F t) (asks_for P) x (Err h) A M Z (omega arith) (omega arith) (omega arith) one two))
