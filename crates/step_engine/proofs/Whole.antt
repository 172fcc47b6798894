-- The step of all bodies.
use Rattle.std.proofs.Common.{◌≡◌, ◌+◌, ◌^◌, ℕ, Bool, List, [], length, Option, None, Result, Ok, Err, ap, sym, ◌∙◌, subst, arith}
use Rattle.std.specs.Prelude.{IfSome, IfOk}
use Rattle.std.proofs.lemmas.List.{length-map}
use Rattle.nbody_model.specs.Bodies.{BodyData, has, only}
use Rattle.nbody_model.specs.Tables.{Gravity, Rules, ExpansionData}
use Rattle.nbody_model.specs.Fields.{FieldData}
use Rattle.nbody_model.specs.Evolve.{Progress, Stepped, Going, ask_if, evolve}
use Rattle.model_laws.specs.Conserved.{IsConserved}
use Rattle.model_laws.specs.Nests.{ids_of}
use Rattle.kick_drift.specs.Parts.{ids_at, AreAscending}
use Rattle.kick_drift.proofs.Chosen.{Ascend, id_at}
use Rattle.step_engine.specs.declared.halt.Halt.{Halt}
use Rattle.step_engine.specs.declared.halt.Halt.TheVariants as halts
use Rattle.step_engine.specs.Told.{Finder, AreForcesAmong}
use Rattle.step_engine.specs.Stands.{Now}
use Rattle.step_engine.specs.Stages.{rules}
use Rattle.step_engine.specs.Ends.{Makes}
use Rattle.step_engine.proofs.Picks.{length_only_at}
use Rattle.step_engine.proofs.FastParts.{filter_full}
use Rattle.step_engine.proofs.Keeps.{same_ids, same_places}
use Rattle.step_engine.proofs.Joins.{joined, halted, OnlyAdds}
use Rattle.step_engine.proofs.Leaves.{Leads, wanting}
use Rattle.step_engine.proofs.Adds.{evolve_adds}
use Rattle.step_engine.proofs.Stepping.{most_of, adds_on, ask_adds}

-- all bodies are those whose ids are among all ids
pub only_all : (B : List BodyData) (ps : List ℕ) → Ascend B → AreAscending B ps → ids_at B ps ≡ ids_of B → only B (ids_at B ps) ≡ B
only_all B ps up a e =
    let long : length ps ≡ length B = sym (length-map ps (id_at B)) ∙ ap length e ∙ length-map B (λ b. b.id) in
    filter_full (λ b. has (ids_at B ps) b.id) B (length_only_at B ps up a ∙ long)

-- places of all bodies stay such
pub all_still : (B C : List BodyData) (ps : List ℕ) → IsConserved B C [] → ids_at B ps ≡ ids_of B → ids_at C ps ≡ ids_of C
all_still B C ps k e = same_places B C ps k ∙ e ∙ sym (same_ids B C k)

pub forces_of_all : (r : Result FieldData Halt) (g h : Gravity) (B C : List BodyData) → g ≡ h → B ≡ C → IfOk r (AreForcesAmong g B) → IfOk r (AreForcesAmong h C)
forces_of_all r g h B C e f k = subst (λ D. IfOk r (AreForcesAmong h D)) f (subst (λ x. IfOk r (AreForcesAmong x B)) e k)

pub known_of_all : (k : Option FieldData) (g : Gravity) (B C : List BodyData) → B ≡ C → IfSome k (AreForcesAmong g B) → IfSome k (AreForcesAmong g C)
known_of_all k g B C e h = subst (λ D. IfSome k (AreForcesAmong g D)) e h

module _ (passes : Finder) where
  -- a step of all bodies, the forces among them asked first where the condition holds
  abbrev pub asked_step : Rules → ℕ → List ℕ → ℕ → Bool → Option ℕ → Progress → Stepped
  asked_step r bin P t b stop p = evolve r stop bin P t (ask_if b P p)

  asked_adds : (r : Rules) (bin : ℕ) (P : List ℕ) (t : ℕ) (b : Bool) → OnlyAdds (asked_step r bin P t b None)
  asked_adds r bin P t b q = adds_on (Going (ask_if b P q)) (evolve r None bin P t) q.trail (evolve_adds r bin P t) (ask_adds b P q)

  pub whole_wants : {T : Type 0} (r : Rules) (bin : ℕ) (P : List ℕ) (t : ℕ) (b : Bool) (A Z : Now) → Leads (most_of bin) A Z → Z.took ≡ A.took → Z.faults ≡ A.faults → Makes {T = T} passes bin (most_of bin) t (t + 2 ^ bin) (asked_step r bin P t b) (Err halts.Memory) A Z
  whole_wants {T = T} r bin P t b A Z l k f = wanting passes T bin (most_of bin) t (t + 2 ^ bin) (asked_step r bin P t b) A Z l (asked_adds r bin P t b) k f

  pub whole_halts : {T U : Type 0} (r : Rules) (bin : ℕ) (P Q : List ℕ) (t : ℕ) (b : Bool) (h : Halt) (A Z : Now) → P ≡ Q → Makes {T = T} passes bin 0 t t (λ stop p. Going (ask_if b P p)) (Err h) A Z → Makes {T = U} passes bin (most_of bin) t (t + 2 ^ bin) (asked_step r bin Q t b) (Err h) A Z
  whole_halts {T = T} {U = U} r bin P Q t b h A Z e one =
      subst (λ R. Makes {T = U} passes bin (most_of bin) t (t + 2 ^ bin) (asked_step r bin R t b) (Err h) A Z) e
      (halted passes {T = T} {U = U} bin 0 (most_of bin) t t t (t + 2 ^ bin) (λ stop p. Going (ask_if b P p)) (λ stop q. evolve r stop bin P t q) h A Z (omega arith) (omega arith) (omega arith) (evolve_adds r bin P t) one)

  pub whole_made : {T U : Type 0} (e : Option ExpansionData) (bin top : ℕ) (P Q : List ℕ) (t : ℕ) (b : Bool) (x : T) (answer : Result U Halt) (A B Z : Now) → P ≡ Q → bin ≡ top → Makes {T = T} passes top 0 t t (λ stop p. Going (ask_if b P p)) (Ok x) A B →
      Makes {T = U} passes bin (most_of bin) t (t + 2 ^ bin) (λ stop p. evolve (rules B.gravity e) stop bin P t p) answer B Z → Makes {T = U} passes top (most_of top) t (t + 2 ^ top) (asked_step (rules A.gravity e) top Q t b) answer A Z
  whole_made {U = U} e bin top P Q t b x answer A B Z d f one two =
      let count : 0 + most_of top ≡ most_of top = omega arith in
      let two' : Makes {T = U} passes top (most_of top) t (t + 2 ^ top) (λ stop p. evolve (rules A.gravity e) stop top P t p) answer B Z =
      subst (λ g. Makes {T = U} passes top (most_of top) t (t + 2 ^ top) (λ stop p. evolve (rules g e) stop top P t p) answer B Z) one.gravity
      (subst (λ n. Makes {T = U} passes n (most_of n) t (t + 2 ^ n) (λ stop p. evolve (rules B.gravity e) stop n P t p) answer B Z) f two) in
      subst (λ R. Makes {T = U} passes top (most_of top) t (t + 2 ^ top) (asked_step (rules A.gravity e) top R t b) answer A Z) d
      (subst (λ n. Makes {T = U} passes top n t (t + 2 ^ top) (asked_step (rules A.gravity e) top P t b) answer A Z) count
      (joined passes top 0 (most_of top) t t t (t + 2 ^ top) (λ stop p. Going (ask_if b P p)) (λ stop q. evolve (rules A.gravity e) stop top P t q) x answer A B Z (omega arith) (omega arith) (omega arith) one two'))
