-- A run that ended so, told in other words.
use Rattle.std.proofs.Common.{◌≡◌, ◌∷◌, ℕ, Bool, List, Option, subst}
use Rattle.store_io.specs.Causes.{Call}
use Rattle.store_io.specs.Files.{Files}
use Rattle.nbody_model.specs.Passes.{Passes}
use Rattle.nbody_model.specs.Session.{Plan}
use Rattle.nbody_model.specs.States.{StateData}
use Rattle.nbody_model.specs.Tables.{Gravity}
use Rattle.param_file.specs.Settings.{ParamsData}
use Rattle.rank_laws.specs.Played.{Picks}
use Rattle.rank_field.specs.Fields.{IsPlayedAmong, passes_among}
use Rattle.run_session.specs.declared.ended.Ended.{Ended}
use Rattle.run_session.specs.RunEnds.{RunEnds}
use Rattle.run_session.specs.Worlds.{World, world}
use Rattle.gadget.specs.declared.sessions.Way.{Way}
use Rattle.gadget.specs.Inputs.{InputsData}
use Rattle.gadget.specs.Answers.{Order, SessionEnds}

-- by a plan, forces and worlds
pub same_run : (plan other : Plan) (p : ParamsData) (resumed : Bool) (σ : StateData) (v w : Passes) (told : Bool) (A B Y Z : World) (e : Ended)
    → plan ≡ other → v ≡ w → A ≡ B → Y ≡ Z → RunEnds plan p resumed σ v told A Y e → RunEnds other p resumed σ w told B Z e
same_run plan other p resumed σ v w told A B Y Z e a b c d h =
    subst (λ x. RunEnds other p resumed σ w told B x e) d
    (subst (λ x. RunEnds other p resumed σ w told x Y e) c
    (subst (λ x. RunEnds other p resumed σ x told A Y e) b
    (subst (λ x. RunEnds x p resumed σ v told A Y e) a h)))

-- the forces of so many ranks, by the first of their numbers
pub same_passes : (picks : Picks) (g h : Gravity) (ranks many : ℕ) (more : List ℕ) → g ≡ h → ranks ≡ many → passes_among picks g (ranks ∷ more) ≡ IsPlayedAmong picks h many
same_passes picks g h ranks many more a b = λ i. IsPlayedAmong picks (a i) (b i)

-- before its inputs were read, which changes no file and counts no fault
pub ends_from_start : (way : Way) (told : Bool) (k : Order) (A Z : World) (told_now : Bool) (files : Files) (closed : List (List ℕ)) (faults : ℕ) (last : Option Call) (i : InputsData) (σ : StateData) (e : Ended)
    → told_now ≡ told → files ≡ A.files → closed ≡ A.closed → faults ≡ A.faults → last ≡ A.last
    → SessionEnds way (record { tells = told_now; order = k; old = world files closed faults last A.state A.yes A.left; new = Z }) i σ e
    → SessionEnds way (record { tells = told; order = k; old = A; new = Z }) i σ e
ends_from_start way told k A Z told_now files closed faults last i σ e a b c d f h =
    let start : world files closed faults last A.state A.yes A.left ≡ A = λ j. world (b j) (c j) (d j) (f j) A.state A.yes A.left in
    subst (λ t. SessionEnds way (record { tells = t; order = k; old = A; new = Z }) i σ e) a
    (subst (λ W. SessionEnds way (record { tells = told_now; order = k; old = W; new = Z }) i σ e) start h)
