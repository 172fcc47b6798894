-- Clauses on sessions, carried from forces and a store to those that stand as before.
use Rattle.std.proofs.Common.{◌≡◌, ℕ, Bool, List, Option, subst}
use Rattle.nbody_model.specs.Tables.{Gravity}
use Rattle.nbody_model.specs.Session.{SessionData}
use Rattle.nbody_model.specs.States.{StateData}
use Rattle.nbody_model.specs.Passes.{Passes}
use Rattle.run_session.specs.declared.course.Course.{Course}
use Rattle.run_session.specs.Stages.{Basis}
use Rattle.run_session.specs.Courses.{basis_of}
use Rattle.run_session.specs.Turned.{Comes}
use Rattle.run_session.specs.Worlds.{World}

-- of every start and all sessions that come to a state, something holds afterwards
abbrev pub Leads : ((C : Basis) (f : Passes) (sessions : Option ℕ → SessionData) → Type 0) → (Gravity → List ℕ → Passes) → Course → StateData → Bool → World → Gravity → List ℕ → Bool → Type 0
Leads Then passes course σ known W g f a = (A : World) (sessions : Option ℕ → SessionData) → Comes (basis_of g course a A) (passes g f) sessions σ known W → Then (basis_of g course a A) (passes g f) sessions

pub leads_same : (Then : (C : Basis) (f : Passes) (sessions : Option ℕ → SessionData) → Type 0) (passes : Gravity → List ℕ → Passes) (course : Course) (σ : StateData) (known : Bool) (W : World) (g h : Gravity) (f k : List ℕ) (a b : Bool) → g ≡ h → f ≡ k → a ≡ b →
    Leads Then passes course σ known W g f a → Leads Then passes course σ known W h k b
leads_same Then passes course σ known W g h f k a b p q r s =
    subst (λ x. Leads Then passes course σ known W h k x) r (subst (λ x. Leads Then passes course σ known W h x a) q (subst (λ x. Leads Then passes course σ known W x f a) p s))
