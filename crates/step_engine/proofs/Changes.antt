-- A kick by the forces that were found is the kick of the definition.
use Rattle.std.proofs.Common.{◌≡◌, ◌≤◌, ◌<◌, ◌==◌, ℕ, zero, suc, ◌+◌, ◌*◌, ◌^◌, Bool, true, false, cond, ℤ, pos, ◌+ℤ◌, ◌*ℤ◌, List, [], ◌∷◌, length, map, refl, ap, sym, ◌∙◌, subst, arith, inl, inr}
use Rattle.std.specs.List.{All, AllByRecursion}
use Rattle.std.proofs.lemmas.Bool.{ne_eqb, eq-eqb, eqb-true}
use Rattle.std.proofs.lemmas.Int.{ints}
use Rattle.std.proofs.lemmas.List.{length-map}
use Rattle.std.proofs.Math.IntN.{zero-*ℤ}
use Rattle.fixed_point.specs.declared.V3.{V3}
use Rattle.fixed_point.specs.Vectors.{IsAtMost, plus, negative}
use Rattle.nbody_model.specs.Bodies.{BodyData, has, only}
use Rattle.nbody_model.specs.Setups.{IsSetup}
use Rattle.nbody_model.specs.Tables.{Gravity}
use Rattle.nbody_model.specs.Fields.{FieldData}
use Rattle.nbody_model.specs.Moments.{mass_of}
use Rattle.nbody_model.specs.Force.{force_at, forces}
use Rattle.nbody_model.specs.Steps.{change, kicked_by, kicked_bodies}
use Rattle.model_laws.specs.Laws.{AreBodies, CorrectsLittle}
use Rattle.model_laws.proofs.Among.{Among, among-filter, each-filter, each-weaker}
use Rattle.model_laws.proofs.Shares.{Ascending, ascending-from}
use Rattle.model_laws.proofs.Kept.{only_bodies}
use Rattle.model_laws.proofs.Conserved.{mapped_all}
use Rattle.model_laws.proofs.Bounds.{forces_bounded}
use Rattle.model_laws.proofs.PairLimits.{pairs_bounded}
use Rattle.kick_drift.specs.Parts.{ids_at, force_for, change_of, after_kick, AreAscending}
use Rattle.step_engine.specs.Told.{AreForcesAmong}
use Rattle.step_engine.specs.Stands.{HasEach}
use Rattle.step_engine.proofs.Picks.{ids_only_at, length_only_at}

-- ---- the force of a body by its id

later_id : (b c : BodyData) (C : List BodyData) → AllByRecursion (λ k. c.id < k.id) C → Among b C → c.id < b.id
later_id b c [] a h = absurd h
later_id b c (d ∷ C) a (inl e) = rw (ap (λ (x : BodyData). x.id) e) a.0
later_id b c (d ∷ C) a (inr h) = later_id b c C a.1 h

force_is : (u : BodyData → V3) (C : List BodyData) (b : BodyData) → Ascending C → Among b C → force_for (map (λ b. b.id) C) (map u C) b.id ≡ u b
force_is u [] b a h = absurd h
force_is u (c ∷ C) b a (inl e) = ap (λ t. cond t (u c) (force_for (map (λ b. b.id) C) (map u C) b.id)) (eq-eqb c.id b.id (ap (λ (x : BodyData). x.id) (sym e))) ∙ ap u (sym e)
force_is u (c ∷ C) b a (inr h) = ap (λ t. cond t (u c) (force_for (map (λ b. b.id) C) (map u C) b.id)) (ne_eqb c.id b.id (λ e. omega (arith, e, later_id b c C a.0 h))) ∙ force_is u C b a.1 h

-- ---- the change of a body

map_on : (f g : BodyData → BodyData) (B : List BodyData) → ((b : BodyData) → Among b B → f b ≡ g b) → map f B ≡ map g B
map_on f g [] h = refl
map_on f g (b ∷ B) h = λ i. h b (inl refl) i ∷ map_on f g B (λ c k. h c (inr k)) i

-- the force among the bodies at some places of one of them
found : (g : Gravity) (B : List BodyData) (ps : List ℕ) (f : FieldData) (b : BodyData) → AreBodies B → AreAscending B ps → AreForcesAmong g (only B (ids_at B ps)) f → Among b B → has (ids_at B ps) b.id ≡ true →
    force_for (ids_at B ps) f.forces b.id ≡ force_at g (only B (ids_at B ps)) b
unfolding forces
found g B ps f b bodies a k among here =
    let C = only B (ids_at B ps) in
    (λ i. force_for (sym (ids_only_at B ps bodies.valid.ascending a) i) (k.forces i) b.id) ∙
    force_is (force_at g C) C b (ascending-from C (only_bodies (ids_at B ps) B bodies).valid.ascending) (among-filter (λ b. has (ids_at B ps) b.id) b B among here)

less_step : (t : Bool) (slow slow' quick quick' : V3) → slow ≡ slow' → (t ≡ true → quick ≡ quick') → cond t (plus slow (negative quick)) slow ≡ cond t (plus slow' (negative quick')) slow'
less_step true slow slow' quick quick' e f = λ i. plus (e i) (negative (f refl i))
less_step false slow slow' quick quick' e f = e

kick_step : (t : Bool) (h : ℕ) (b : BodyData) (v w : V3) → (t ≡ true → v ≡ w) →
    cond t (record b { motion = record { pos = b.motion.pos; mom = kicked_by h b.motion.mom v } }) b ≡ cond t (record b { motion = record { pos = b.motion.pos; mom = kicked_by h b.motion.mom w } }) b
kick_step true h b v w e = ap (λ (u : V3). record b { motion = record { pos = b.motion.pos; mom = kicked_by h b.motion.mom u } }) (e refl)
kick_step false h b v w e = refl

pub after_is : (g : Gravity) (h : ℕ) (whole fast : List ℕ) (f q : FieldData) (B : List BodyData) → AreBodies B → AreAscending B whole → AreAscending B fast → AreForcesAmong g (only B (ids_at B whole)) f → AreForcesAmong g (only B (ids_at B fast)) q →
    after_kick h whole f.forces fast q.forces B ≡ kicked_bodies h (ids_at B whole) (change g (ids_at B whole) (ids_at B fast) B) B
unfolding change
after_is g h whole fast f q B bodies w a k l =
    let P = ids_at B whole in
    let F = ids_at B fast in
    let v : BodyData → V3 = change_of P f.forces F q.forces in
    let u : BodyData → V3 = change g P F B in
    map_on (λ b. cond (has P b.id) (record b { motion = record { pos = b.motion.pos; mom = kicked_by h b.motion.mom (v b) } }) b) (λ b. cond (has P b.id) (record b { motion = record { pos = b.motion.pos; mom = kicked_by h b.motion.mom (u b) } }) b) B
    (λ b among. kick_step (has P b.id) h b (v b) (u b) (λ here.
    less_step (has F b.id) (force_for P f.forces b.id) (force_at g (only B P) b) (force_for F q.forces b.id) (force_at g (only B F) b) (found g B whole f b bodies w k among here) (found g B fast q b bodies a l among)))

-- ---- a kick by 0

still_axis : (p v : ℤ) → p +ℤ (pos 0 *ℤ v) ≡ p
still_axis p v = ap (λ z. p +ℤ z) (zero-*ℤ v) ∙ omega (arith, ints)

still_step : (t : Bool) (b : BodyData) (v : V3) → cond t (record b { motion = record { pos = b.motion.pos; mom = kicked_by 0 b.motion.mom v } }) b ≡ b
still_step true b v = λ i. record b { motion = record { pos = b.motion.pos; mom = record { x = still_axis b.motion.mom.x v.x i; y = still_axis b.motion.mom.y v.y i; z = still_axis b.motion.mom.z v.z i } } }
still_step false b v = refl

pub kick_by_none : (P : List ℕ) (v : BodyData → V3) (B : List BodyData) → kicked_bodies 0 P v B ≡ B
kick_by_none P v [] = refl
kick_by_none P v (b ∷ B) = λ i. still_step (has P b.id) b (v b) i ∷ kick_by_none P v B i

-- ---- bounds

all_of : {X : Type 0} (Q : X → Type 0) (xs : List X) → AllByRecursion Q xs → All Q xs
all_of Q [] a k d lt = absurd (omega arith)
all_of Q (x ∷ xs) a zero d lt = a.0
all_of Q (x ∷ xs) a (suc k) d lt = all_of Q xs a.1 k d (omega (arith, lt))

lower : (n m : ℕ) (v : V3) → n ≤ m → IsAtMost n v → IsAtMost m v
lower n m v h a = record { on_x = omega (arith, h, a.on_x); on_y = omega (arith, h, a.on_y); on_z = omega (arith, h, a.on_z) }

-- every force that was found is below 2^118
pub forces_small : (g : Gravity) (C : List BodyData) (f : FieldData) → IsSetup g.setup → CorrectsLittle g.table → AreBodies C → AllByRecursion (λ b. b.kind ≤ 5) C → AreForcesAmong g C f → All (IsAtMost (2 ^ 118)) f.forces
unfolding forces
forces_small g C f s t bodies kinds k =
    let bound = forces_bounded g C bodies (2 ^ 86) (pairs_bounded g C s bodies kinds t) in
    let heavy : mass_of C ≤ 2 ^ 32 = bodies.valid.light in
    let most : length C * 2 ^ 86 ≤ 1048576 * 2 ^ 86 = omega (arith, bodies.valid.few) in
    let small : 33 * (length C * 2 ^ 86 + mass_of C) ≤ 2 ^ 118 = omega (arith, heavy, most) in
    subst (All (IsAtMost (2 ^ 118))) (sym k.forces) (all_of (IsAtMost (2 ^ 118)) (map (force_at g C) C) (mapped_all (IsAtMost (2 ^ 118)) (force_at g C) C (each-weaker (λ b. IsAtMost (33 * (length C * 2 ^ 86 + mass_of C)) (force_at g C b)) (λ b. IsAtMost (2 ^ 118) (force_at g C b)) (λ b. lower (33 * (length C * 2 ^ 86 + mass_of C)) (2 ^ 118) (force_at g C b) small) C bound)))

-- and there is one for each body
pub forces_length : (g : Gravity) (C : List BodyData) (f : FieldData) → AreForcesAmong g C f → length f.forces ≡ length C
unfolding forces
forces_length g C f k = ap length k.forces ∙ length-map C (force_at g C)

-- ---- the kick that was made, or refused

made_by : (t : Bool) (g : Gravity) (h : ℕ) (whole fast : List ℕ) (f q : FieldData) (B S : List BodyData) → AreBodies B → AreAscending B whole → AreAscending B fast → AreForcesAmong g (only B (ids_at B whole)) f → AreForcesAmong g (only B (ids_at B fast)) q →
    (h == 0) ≡ t → S ≡ cond t B (after_kick h whole f.forces fast q.forces B) → S ≡ kicked_bodies h (ids_at B whole) (change g (ids_at B whole) (ids_at B fast) B) B
made_by true g h whole fast f q B S bodies w a k l z e =
    let u = change g (ids_at B whole) (ids_at B fast) B in
    e ∙ sym (ap (λ n. kicked_bodies n (ids_at B whole) u B) (eqb-true h 0 z) ∙ kick_by_none (ids_at B whole) u B)
made_by false g h whole fast f q B S bodies w a k l z e = e ∙ after_is g h whole fast f q B bodies w a k l

pub made_is : (g : Gravity) (h : ℕ) (whole fast : List ℕ) (f q : FieldData) (B S : List BodyData) → AreBodies B → AreAscending B whole → AreAscending B fast → AreForcesAmong g (only B (ids_at B whole)) f → AreForcesAmong g (only B (ids_at B fast)) q →
    S ≡ cond (h == 0) B (after_kick h whole f.forces fast q.forces B) → S ≡ kicked_bodies h (ids_at B whole) (change g (ids_at B whole) (ids_at B fast) B) B
made_is g h whole fast f q B S bodies w a k l e = made_by (h == 0) g h whole fast f q B S bodies w a k l refl e

-- as many places as bodies at most
pub places_few : (B : List BodyData) (ps : List ℕ) → AreBodies B → AreAscending B ps → length ps ≤ 1048576
places_few B ps bodies a = omega (arith, length_only_at B ps bodies.valid.ascending a, (only_bodies (ids_at B ps) B bodies).valid.few)

each_only : (P : List ℕ) (B : List BodyData) → AllByRecursion (λ b. b.kind ≤ 5) B → AllByRecursion (λ b. b.kind ≤ 5) (only B P)
each_only P B a = each-filter (λ b. b.kind ≤ 5) (λ b. has P b.id) B a

-- forces at some places, one for each
pub has_each : (g : Gravity) (B : List BodyData) (ps : List ℕ) (f : FieldData) → IsSetup g.setup → CorrectsLittle g.table → AreBodies B → AllByRecursion (λ b. b.kind ≤ 5) B → AreAscending B ps → AreForcesAmong g (only B (ids_at B ps)) f → HasEach ps f.forces
has_each g B ps f s t bodies kinds a k =
    let C = only B (ids_at B ps) in
    record {
      equal = forces_length g C f k ∙ length_only_at B ps bodies.valid.ascending a;
      bounded = forces_small g C f s t (only_bodies (ids_at B ps) B bodies) (each_only (ids_at B ps) B kinds) k;
    }
