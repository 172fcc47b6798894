-- The halves of a step that is taken back, stage by stage.
use Rattle.std.proofs.Common.{◌≡◌, ◌<◌, ℕ, ◌+◌, ◌-◌, ◌^◌, Bool, true, false, cond, List, [], ◌∷◌, length, get_or, map, Option, refl, ap, sym, ◌∙◌, subst}
use Rattle.std.proofs.lemmas.Bool.{false≢true}
use Rattle.std.proofs.lemmas.List.{length-map}
use Rattle.nbody_model.specs.Bodies.{BodyData, has, only}
use Rattle.nbody_model.specs.Setups.{SetupData}
use Rattle.nbody_model.specs.Tables.{Gravity, ExpansionData}
use Rattle.nbody_model.specs.Fields.{FieldData}
use Rattle.nbody_model.specs.Factors.{kick_factor, drift_factor}
use Rattle.nbody_model.specs.Steps.{without}
use Rattle.model_laws.specs.Nests.{ids_of}
use Rattle.model_laws.specs.Still.{still, SamePlaces}
use Rattle.model_laws.specs.Preserved.{IsPart}
use Rattle.kick_drift.specs.Parts.{ids_at, AreAscending}
use Rattle.step_engine.specs.Stands.{AreOf}
use Rattle.step_engine.specs.Told.{AreForcesAmong}
use Rattle.step_engine.specs.Stages.{rules}
use Rattle.step_engine.proofs.Closing.{has_without}
use Rattle.rewind_laws.specs.Back.{Reached, ◌>>-◌, undrifted, undrift, back_kick, as_told, back_close}
use Rattle.rewind.specs.declared.errors.RewindErr.{RewindErr}
use Rattle.rewind.specs.Rewinding.{IsRefusedBy, back_open}
use Rattle.rewind.proofs.Undone.{fails_on, refused_as}

-- ---- the second half

pub close_reached : (g : Gravity) (e : Option ExpansionData) (s : SetupData) (bin : ℕ) (P F : List ℕ) (t h ticks : ℕ) (B C D : List BodyData) → g.setup ≡ s → h ≡ kick_factor e (t + 2 ^ (bin - 1)) (t + 2 ^ bin) → ticks ≡ drift_factor e t (t + 2 ^ bin) →
    back_kick g P F h B ≡ Reached C → D ≡ undrift s (without F P) ticks C → back_close (rules g e) bin P F t B ≡ Reached D
unfolding back_close
close_reached g e s bin P F t h ticks B C D same hs ds one two =
    ap (λ k. back_kick g P F k B >>- (λ C. Reached (undrift g.setup (without F P) (drift_factor e t (t + 2 ^ bin)) C))) (sym hs) ∙ ap (λ x. x >>- (λ C. Reached (undrift g.setup (without F P) (drift_factor e t (t + 2 ^ bin)) C))) one ∙
    ap Reached ((λ i. undrift (same i) (without F P) (sym ds i) C) ∙ sym two)

pub close_failed : (g : Gravity) (e : Option ExpansionData) (bin : ℕ) (P F : List ℕ) (t h : ℕ) (B : List BodyData) (err : RewindErr) → h ≡ kick_factor e (t + 2 ^ (bin - 1)) (t + 2 ^ bin) → IsRefusedBy (back_kick g P F h B) err → IsRefusedBy (back_close (rules g e) bin P F t B) err
unfolding back_close
close_failed g e bin P F t h B err hs f =
    fails_on (back_kick g P F (kick_factor e (t + 2 ^ (bin - 1)) (t + 2 ^ bin)) B) (λ C. Reached (undrift g.setup (without F P) (drift_factor e t (t + 2 ^ bin)) C)) err (refused_as _ _ err (ap (λ k. back_kick g P F k B) hs) f)

-- ---- the first half

pub open_reached : (g : Gravity) (e : Option ExpansionData) (bin : ℕ) (P F : List ℕ) (t h : ℕ) (B C : List BodyData) → h ≡ kick_factor e t (t + 2 ^ (bin - 1)) → back_kick g P F h B ≡ Reached C → as_told g bin P F t C ≡ Reached C → back_open (rules g e) bin P F t B ≡ Reached C
open_reached g e bin P F t h B C hs one two = ap (λ k. back_kick g P F k B >>- (λ A. as_told g bin P F t A)) (sym hs) ∙ ap (λ x. x >>- (λ A. as_told g bin P F t A)) one ∙ two

pub open_kick_failed : (g : Gravity) (e : Option ExpansionData) (bin : ℕ) (P F : List ℕ) (t h : ℕ) (B : List BodyData) (err : RewindErr) → h ≡ kick_factor e t (t + 2 ^ (bin - 1)) → IsRefusedBy (back_kick g P F h B) err → IsRefusedBy (back_open (rules g e) bin P F t B) err
open_kick_failed g e bin P F t h B err hs f = fails_on (back_kick g P F (kick_factor e t (t + 2 ^ (bin - 1))) B) (λ A. as_told g bin P F t A) err (refused_as _ _ err (ap (λ k. back_kick g P F k B) hs) f)

pub open_told_failed : (g : Gravity) (e : Option ExpansionData) (bin : ℕ) (P F : List ℕ) (t h : ℕ) (B C : List BodyData) (err : RewindErr) → h ≡ kick_factor e t (t + 2 ^ (bin - 1)) → back_kick g P F h B ≡ Reached C → IsRefusedBy (as_told g bin P F t C) err → IsRefusedBy (back_open (rules g e) bin P F t B) err
open_told_failed g e bin P F t h B C err hs one f = refused_as _ _ err (sym (ap (λ k. back_kick g P F k B >>- (λ A. as_told g bin P F t A)) (sym hs) ∙ ap (λ x. x >>- (λ A. as_told g bin P F t A)) one)) f

-- ---- ids, and forces among the fast bodies

still_ids : (B : List BodyData) → map (λ b. b.id) (map still B) ≡ ids_of B
still_ids [] = refl
still_ids (b ∷ B) = ap (λ xs. b.id ∷ xs) (still_ids B)

pub same_ids : (B C : List BodyData) → SamePlaces C B → ids_of C ≡ ids_of B
same_ids B C e = sym (still_ids C) ∙ ap (map (λ b. b.id)) e ∙ still_ids B

pub undrift_ids : (s : SetupData) (P : List ℕ) (ticks : ℕ) (B : List BodyData) → ids_of (undrift s P ticks B) ≡ ids_of B
undrift_ids s P ticks [] = refl
undrift_ids s P ticks (b ∷ B) = λ i. one (has P b.id) i ∷ undrift_ids s P ticks B i
  where
    one : (t : Bool) → (cond t (undrifted s ticks b) b).id ≡ b.id
    one true = refl
    one false = refl

apart_step : (s : SetupData) (ticks : ℕ) (F Q : List ℕ) (b : BodyData) (xs ys : List BodyData) (t u : Bool) → has F b.id ≡ t → has Q b.id ≡ u → (t ≡ true → u ≡ false) → xs ≡ ys →
    cond (has F (cond u (undrifted s ticks b) b).id) ((cond u (undrifted s ticks b) b) ∷ xs) xs ≡ cond (has F b.id) (b ∷ ys) ys
apart_step s ticks F Q b xs ys t false e h k m = λ i. cond (has F b.id) (b ∷ m i) (m i)
apart_step s ticks F Q b xs ys true true e h k m = absurd (false≢true (sym (k refl)))
apart_step s ticks F Q b xs ys false true e h k m = (λ i. cond (e i) (undrifted s ticks b ∷ xs) xs) ∙ m ∙ sym (λ i. cond (e i) (b ∷ ys) ys)

apart : (s : SetupData) (ticks : ℕ) (F Q : List ℕ) (B : List BodyData) → ((id : ℕ) → has F id ≡ true → has Q id ≡ false) → only (undrift s Q ticks B) F ≡ only B F
apart s ticks F Q [] h = refl
apart s ticks F Q (b ∷ B) h = apart_step s ticks F Q b (only (undrift s Q ticks B) F) (only B F) (has F b.id) (has Q b.id) refl refl (h b.id) (apart s ticks F Q B h)

-- that the others move back moves no body of F
pub forces_apart : (g : Gravity) (s : SetupData) (F P : List ℕ) (ticks : ℕ) (f : FieldData) (B : List BodyData) → AreForcesAmong g (only B F) f → AreForcesAmong g (only (undrift s (without F P) ticks B) F) f
forces_apart g s F P ticks f B k = subst (λ C. AreForcesAmong g C f) (sym (apart s ticks F (without F P) B (λ id. has_without F P id))) k

-- ---- places of bodies with the same ids

pub named_same : (B C : List BodyData) (ps : List ℕ) → ids_of C ≡ ids_of B → ids_at C ps ≡ ids_at B ps
named_same B C ps e = ap (λ ids. map (λ p. get_or ids p 0) ps) e

long_same : (B C : List BodyData) → ids_of C ≡ ids_of B → length C ≡ length B
long_same B C e = sym (length-map C (λ b. b.id)) ∙ ap length e ∙ length-map B (λ b. b.id)

pub ascending_same : (B C : List BodyData) (ps : List ℕ) → ids_of C ≡ ids_of B → AreAscending B ps → AreAscending C ps
ascending_same B C ps e a = record { within = λ k l. subst (λ n. get_or ps k 0 < n) (sym (long_same B C e)) (a.within k l); ascending = a.ascending }

pub of_same : (B C : List BodyData) (whole fast : List ℕ) → ids_of C ≡ ids_of B → AreOf B whole fast → AreOf C whole fast
of_same B C whole fast e a =
    record {
      places = ascending_same B C fast e a.places;
      part = subst (λ X. IsPart X (ids_at C whole)) (sym (named_same B C fast e)) (subst (IsPart (ids_at B fast)) (sym (named_same B C whole e)) a.part);
      all = λ l. named_same B C fast e ∙ a.all l ∙ sym (named_same B C whole e);
    }
