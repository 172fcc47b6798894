-- A kick that is taken back by the forces that were found is the definition's.
use Rattle.std.proofs.Common.{◌≡◌, ◌<◌, ℕ, Bool, true, false, cond, subst, List, [], ◌∷◌, map, Some, None, refl, ap, sym, ◌∙◌, arith, inl, inr}
use Rattle.std.specs.List.{AllByRecursion}
use Rattle.std.proofs.lemmas.Bool.{ne_eqb, eq-eqb}
use Rattle.fixed_point.specs.declared.V3.{V3}
use Rattle.fixed_point.specs.Vectors.{plus, negative}
use Rattle.nbody_model.specs.Bodies.{BodyData, has, only}
use Rattle.nbody_model.specs.Tables.{Gravity}
use Rattle.nbody_model.specs.Fields.{FieldData}
use Rattle.nbody_model.specs.Force.{force_at, forces}
use Rattle.nbody_model.specs.Steps.{change, fast, first_out}
use Rattle.model_laws.specs.Laws.{AreBodies}
use Rattle.model_laws.specs.Still.{SamePlaces}
use Rattle.model_laws.proofs.Among.{Among, among-filter}
use Rattle.model_laws.proofs.Shares.{Ascending, ascending-from}
use Rattle.model_laws.proofs.Kept.{only_bodies}
use Rattle.kick_drift.specs.Parts.{ids_at, force_for, change_of, AreAscending}
use Rattle.step_engine.specs.Told.{AreForcesAmong}
use Rattle.step_engine.proofs.Picks.{ids_only_at}
use Rattle.rewind_laws.specs.Back.{unkicked_by, unkicked_bodies, Reached, Failed, MomentumOut, BinsDiffer as OthersFast, first_other, as_told, back_kick}
use Rattle.rewind_laws.proofs.Undo.{at_each_still}
use Rattle.rewind.specs.declared.errors.RewindErr.{RewindErr}
use Rattle.rewind.specs.declared.errors.RewindErr.TheVariants.{Tick, Tag, Record, EndMark, MomRange, BinsDiffer, Memory}
use Rattle.rewind.specs.Undoing.{before_kick, IsOutBefore}
use Rattle.rewind.specs.Rewinding.{IsRefusedBy}

-- ---- the force of a body by its id

later_id : (b c : BodyData) (C : List BodyData) → AllByRecursion (λ k. c.id < k.id) C → Among b C → c.id < b.id
later_id b c [] a h = absurd h
later_id b c (d ∷ C) a (inl e) = rw (ap (λ (x : BodyData). x.id) e) a.0
later_id b c (d ∷ C) a (inr h) = later_id b c C a.1 h

force_is : (u : BodyData → V3) (C : List BodyData) (b : BodyData) → Ascending C → Among b C → force_for (map (λ b. b.id) C) (map u C) b.id ≡ u b
force_is u [] b a h = absurd h
force_is u (c ∷ C) b a (inl e) = ap (λ t. cond t (u c) (force_for (map (λ b. b.id) C) (map u C) b.id)) (eq-eqb c.id b.id (ap (λ (x : BodyData). x.id) (sym e))) ∙ ap u (sym e)
force_is u (c ∷ C) b a (inr h) = ap (λ t. cond t (u c) (force_for (map (λ b. b.id) C) (map u C) b.id)) (ne_eqb c.id b.id (λ e. omega (arith, e, later_id b c C a.0 h))) ∙ force_is u C b a.1 h

-- ---- the change of a body

map_on : (f g : BodyData → BodyData) (B : List BodyData) → ((b : BodyData) → Among b B → f b ≡ g b) → map f B ≡ map g B
map_on f g [] h = refl
map_on f g (b ∷ B) h = λ i. h b (inl refl) i ∷ map_on f g B (λ c k. h c (inr k)) i

found : (g : Gravity) (B : List BodyData) (ps : List ℕ) (f : FieldData) (b : BodyData) → AreBodies B → AreAscending B ps → AreForcesAmong g (only B (ids_at B ps)) f → Among b B → has (ids_at B ps) b.id ≡ true →
    force_for (ids_at B ps) f.forces b.id ≡ force_at g (only B (ids_at B ps)) b
unfolding forces
found g B ps f b bodies a k among here =
    let C = only B (ids_at B ps) in
    (λ i. force_for (sym (ids_only_at B ps bodies.valid.ascending a) i) (k.forces i) b.id) ∙
    force_is (force_at g C) C b (ascending-from C (only_bodies (ids_at B ps) B bodies).valid.ascending) (among-filter (λ b. has (ids_at B ps) b.id) b B among here)

less_step : (t : Bool) (slow slow' quick quick' : V3) → slow ≡ slow' → (t ≡ true → quick ≡ quick') → cond t (plus slow (negative quick)) slow ≡ cond t (plus slow' (negative quick')) slow'
less_step true slow slow' quick quick' e f = λ i. plus (e i) (negative (f refl i))
less_step false slow slow' quick quick' e f = e

back_step : (t : Bool) (h : ℕ) (b : BodyData) (v w : V3) → (t ≡ true → v ≡ w) →
    cond t (record b { motion = record { pos = b.motion.pos; mom = unkicked_by h b.motion.mom v } }) b ≡ cond t (record b { motion = record { pos = b.motion.pos; mom = unkicked_by h b.motion.mom w } }) b
back_step true h b v w e = ap (λ (u : V3). record b { motion = record { pos = b.motion.pos; mom = unkicked_by h b.motion.mom u } }) (e refl)
back_step false h b v w e = refl

pub before_is : (g : Gravity) (h : ℕ) (whole fast : List ℕ) (f q : FieldData) (B : List BodyData) → AreBodies B → AreAscending B whole → AreAscending B fast → AreForcesAmong g (only B (ids_at B whole)) f → AreForcesAmong g (only B (ids_at B fast)) q →
    before_kick h whole f.forces fast q.forces B ≡ unkicked_bodies h (ids_at B whole) (change g (ids_at B whole) (ids_at B fast) B) B
unfolding change
before_is g h whole fast f q B bodies w a k l =
    let P = ids_at B whole in
    let F = ids_at B fast in
    let v : BodyData → V3 = change_of P f.forces F q.forces in
    let u : BodyData → V3 = change g P F B in
    map_on (λ b. cond (has P b.id) (record b { motion = record { pos = b.motion.pos; mom = unkicked_by h b.motion.mom (v b) } }) b) (λ b. cond (has P b.id) (record b { motion = record { pos = b.motion.pos; mom = unkicked_by h b.motion.mom (u b) } }) b) B
    (λ b among. back_step (has P b.id) h b (v b) (u b) (λ here.
    less_step (has F b.id) (force_for P f.forces b.id) (force_at g (only B P) b) (force_for F q.forces b.id) (force_at g (only B F) b) (found g B whole f b bodies w k among here) (found g B fast q b bodies a l among)))

-- ---- the stage

-- it was taken back
pub kick_reached : (g : Gravity) (P F : List ℕ) (h : ℕ) (B C : List BodyData) → C ≡ unkicked_bodies h P (change g P F B) B → first_out (only C P) ≡ None → back_kick g P F h B ≡ Reached C
unfolding back_kick
kick_reached g P F h B C e n =
    (λ i. elim (first_out (only (sym e i) P)) [ Some first ↦ Failed (MomentumOut first.0 first.1) | None ↦ Reached (sym e i) ]) ∙
    (λ i. elim (n i) [ Some first ↦ Failed (MomentumOut first.0 first.1) | None ↦ Reached C ])

pub kick_failed : (g : Gravity) (P F : List ℕ) (h : ℕ) (B C : List BodyData) (e : RewindErr) → C ≡ unkicked_bodies h P (change g P F B) B → IsOutBefore (first_out (only C P)) e → IsRefusedBy (back_kick g P F h B) e
unfolding back_kick
kick_failed g P F h B C (MomRange id axis) e n =
    (λ i. elim (first_out (only (sym e i) P)) [ Some first ↦ Failed (MomentumOut first.0 first.1) | None ↦ Reached (sym e i) ]) ∙
    (λ i. elim (n i) [ Some first ↦ Failed (MomentumOut first.0 first.1) | None ↦ Reached C ])
kick_failed g P F h B C Memory e n = tt
kick_failed g P F h B C Tag e n = absurd n
kick_failed g P F h B C EndMark e n = absurd n
kick_failed g P F h B C (Tick want got) e n = absurd n
kick_failed g P F h B C (Record at) e n = absurd n
kick_failed g P F h B C (BinsDiffer tick id) e n = absurd n

-- it moves no body
pub kick_still : (g : Gravity) (P F : List ℕ) (h : ℕ) (B C : List BodyData) → C ≡ unkicked_bodies h P (change g P F B) B → SamePlaces C B
kick_still g P F h B C e =
    let v = change g P F B in
    subst (λ D. SamePlaces D B) (sym e) (at_each_still P (λ b. record b { motion = record { pos = b.motion.pos; mom = unkicked_by h b.motion.mom (v b) } }) (λ b. refl) B)

-- ---- a look at the fast bodies

pub told_reached : (g : Gravity) (bin : ℕ) (P F : List ℕ) (t : ℕ) (B : List BodyData) → first_other F (fast g bin (only B P)) ≡ None → as_told g bin P F t B ≡ Reached B
unfolding as_told
told_reached g bin P F t B e = λ i. elim (e i) [ Some id ↦ Failed (OthersFast t id) | None ↦ Reached B ]

pub told_failed : (g : Gravity) (bin : ℕ) (P F : List ℕ) (t : ℕ) (B : List BodyData) (id : ℕ) → first_other F (fast g bin (only B P)) ≡ Some id → as_told g bin P F t B ≡ Failed (OthersFast t id)
unfolding as_told
told_failed g bin P F t B id e = λ i. elim (e i) [ Some id ↦ Failed (OthersFast t id) | None ↦ Reached B ]
