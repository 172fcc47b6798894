-- What drifts and kicks keep, and where a step may go on.
use Rattle.std.proofs.Common.{◌≡◌, ◌≤◌, ◌<◌, ℕ, ◌*◌, ◌^◌, ℤ, List, [], ◌∷◌, length, map, get_or, None, refl, ap, sym, ◌∙◌, subst, arith}
use Rattle.std.specs.List.{AllByRecursion}
use Rattle.std.proofs.lemmas.List.{length-map}
use Rattle.nbody_model.specs.Bodies.{BodyData, components}
use Rattle.nbody_model.specs.Setups.{SetupData}
use Rattle.nbody_model.specs.Tables.{Gravity, Rules}
use Rattle.nbody_model.specs.Steps.{change, kicked_bodies, drift}
use Rattle.nbody_model.specs.Evolve.{depths_of}
use Rattle.kick_drift.specs.Parts.{ids_at, AreAscending}
use Rattle.model_laws.specs.Laws.{AreBodies, CorrectsLittle}
use Rattle.model_laws.specs.Preserved.{IsPart}
use Rattle.model_laws.specs.Conserved.{unmoved, IsConserved}
use Rattle.model_laws.proofs.Still.{map-mapped}
use Rattle.model_laws.proofs.Conserved.{drift_goes, kick_goes}
use Rattle.step_engine.specs.Stands.{Now, IsReady, AreOf}
use Rattle.step_engine.proofs.Leaves.{conserved_same}

-- a kick of P, with a part F of it, keeps what steps keep
pub kick_conserves : (g : Gravity) (h : ℕ) (P F : List ℕ) (B : List BodyData) → AreBodies B → IsPart F P → IsConserved B (kicked_bodies h P (change g P F B) B) []
kick_conserves g h P F B b part =
    let r : Rules = record { gravity = g; expansion = None } in
    let k = kick_goes r B 0 0 h P F (record { bodies = B; trail = [] }) part (conserved_same B b) in
    record { bodies = k.bodies; same = k.same; momentum = k.momentum; told = tt }

pub drift_conserves : (s : SetupData) (P : List ℕ) (ticks : ℕ) (B : List BodyData) → AreBodies B → IsConserved B (drift s P ticks B) []
drift_conserves s P ticks B b =
    let k = drift_goes s B P ticks (record { bodies = B; trail = [] }) (conserved_same B b) in
    record { bodies = k.bodies; same = k.same; momentum = k.momentum; told = tt }

-- ---- what follows for parts

unmoved_ids : (B : List BodyData) → map (λ b. b.id) (map unmoved B) ≡ map (λ b. b.id) B
unmoved_ids B = map-mapped (λ b. b.id) unmoved B

pub same_ids : (B C : List BodyData) → IsConserved B C [] → map (λ b. b.id) C ≡ map (λ b. b.id) B
same_ids B C k = sym (unmoved_ids C) ∙ ap (map (λ b. b.id)) k.same ∙ unmoved_ids B

pub same_length : (B C : List BodyData) → IsConserved B C [] → length C ≡ length B
same_length B C k = sym (length-map C (λ b. b.id)) ∙ ap length (same_ids B C k) ∙ length-map B (λ b. b.id)

-- places have the ids that they had
pub same_places : (B C : List BodyData) (ps : List ℕ) → IsConserved B C [] → ids_at C ps ≡ ids_at B ps
same_places B C ps k = ap (λ ids. map (λ p. get_or ids p 0) ps) (same_ids B C k)

pub ascending_on : (B C : List BodyData) (ps : List ℕ) → IsConserved B C [] → AreAscending B ps → AreAscending C ps
ascending_on B C ps k a = record { within = λ j lt. subst (λ n. get_or ps j 0 < n) (sym (same_length B C k)) (a.within j lt); ascending = a.ascending }

pub of_on : (B C : List BodyData) (whole fast : List ℕ) → IsConserved B C [] → AreOf B whole fast → AreOf C whole fast
of_on B C whole fast k a =
    let w : ids_at C whole ≡ ids_at B whole = same_places B C whole k in
    let f : ids_at C fast ≡ ids_at B fast = same_places B C fast k in
    record {
      places = ascending_on B C fast k a.places;
      part = subst (λ P. IsPart (ids_at C fast) P) (sym w) (subst (λ F. IsPart F (ids_at B whole)) (sym f) a.part);
      all = λ e. f ∙ a.all e ∙ sym w;
    }

all_unmoved : (B : List BodyData) → AllByRecursion (λ b. b.kind ≤ 5) (map unmoved B) → AllByRecursion (λ b. b.kind ≤ 5) B
all_unmoved [] a = tt
all_unmoved (b ∷ B) a = (a.0, all_unmoved B a.1)

unmoved_all : (B : List BodyData) → AllByRecursion (λ b. b.kind ≤ 5) B → AllByRecursion (λ b. b.kind ≤ 5) (map unmoved B)
unmoved_all [] a = tt
unmoved_all (b ∷ B) a = (a.0, unmoved_all B a.1)

-- depths that aren't set depend on how many bodies there are
no_depth : (B C : List BodyData) → length C ≡ length B → depths_of [] C ≡ depths_of [] B
no_depth [] [] e = refl
no_depth [] (c ∷ C) e = absurd (omega (arith, e))
no_depth (b ∷ B) [] e = absurd (omega (arith, e))
no_depth (b ∷ B) (c ∷ C) e = ap (λ ds. 0 ∷ ds) (no_depth B C (omega (arith, e)))

-- a step goes on after a part that was made to its end
pub ready_on : (s : SetupData) (sum : List ℤ) (A Z : Now) → IsReady s sum A → Z.gravity ≡ A.gravity → IsConserved A.bodies Z.bodies [] → Z.depth ≡ A.depth → (A.interactions ≤ A.kicks * 2 ^ 65 → Z.interactions ≤ Z.kicks * 2 ^ 65) → IsReady s sum Z
ready_on s sum A Z r g k d c = record {
  setup = ap (λ (g : Gravity). g.setup) g ∙ r.setup;
  table = subst (λ (g : Gravity). CorrectsLittle g.table) (sym g) r.table;
  bodies = k.bodies;
  kinds = all_unmoved Z.bodies (subst (AllByRecursion (λ b. b.kind ≤ 5)) (sym k.same) (unmoved_all A.bodies r.kinds));
  total = r.total ∙ ap components (sym k.momentum);
  depth = d ∙ r.depth ∙ sym (no_depth A.bodies Z.bodies (same_length A.bodies Z.bodies k));
  counted = c r.counted;
}
