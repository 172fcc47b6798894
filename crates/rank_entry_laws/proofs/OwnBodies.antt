-- The bodies of one rank keep the limits, and those of all ranks are all bodies.
use Rattle.std.proofs.Common.{◌≡◌, ℕ, ◌≤◌, eqb, List, map, refl, ap, sym, ◌∙◌}
use Rattle.std.specs.List.{filter, AllByRecursion}
use Rattle.std.proofs.lemmas.Bool.{eqb-true, eq-eqb}
use Rattle.cell_space.proofs.Cells.{both_equal}
use Rattle.nbody_model.specs.Bodies.{BodyData, only, has}
use Rattle.model_laws.specs.Laws.{AreBodies}
use Rattle.model_laws.proofs.Among.{Witness, any-witness, any-among, among-kept, among-filter, among-map, each-filter}
use Rattle.model_laws.proofs.Kept.{only_bodies}
use Rattle.rank_laws.specs.Whole.{Whole, IsWhole, own}
use Rattle.rank_laws.proofs.ByIds.{filter_on}
use Rattle.rank_entry_laws.specs.Given.{HasSoftenings}

-- the ids of a rank's bodies
abbrev ids_of : Whole → ℕ → List ℕ
ids_of w r = filter (λ id. eqb (w.owner id) r) (map (λ b. b.id) w.bodies)

own_only : (w : Whole) (r : ℕ) → own w r ≡ only w.bodies (ids_of w r)
own_only w r = filter_on (λ (b : BodyData). eqb (w.owner b.id) r) (λ (b : BodyData). has (ids_of w r) b.id) w.bodies (λ b h.
    both_equal (eqb (w.owner b.id) r) (has (ids_of w r) b.id)
    (λ e. any-among (λ p. eqb p b.id) b.id (ids_of w r) (among-filter (λ id. eqb (w.owner id) r) b.id (map (λ b. b.id) w.bodies) (among-map (λ (b : BodyData). b.id) b w.bodies h) e) (eq-eqb b.id b.id refl))
    (λ e. let v : Witness (λ p. eqb p b.id) (ids_of w r) = any-witness (λ p. eqb p b.id) (ids_of w r) e in
    ap (λ t. eqb (w.owner t) r) (sym (eqb-true v.it b.id v.passes)) ∙ (among-kept (λ id. eqb (w.owner id) r) v.it (map (λ b. b.id) w.bodies) v.«in»).1))

pub own_bodies : (w : Whole) → IsWhole w → (r : ℕ) → AreBodies (own w r)
own_bodies w whole r = rw (own_only w r) (only_bodies (ids_of w r) w.bodies whole.bodies)

pub own_kinds : (w : Whole) → HasSoftenings w → (r : ℕ) → AllByRecursion (λ b. b.kind ≤ 5) (own w r)
own_kinds w h r = each-filter (λ (b : BodyData). b.kind ≤ 5) (λ (b : BodyData). eqb (w.owner b.id) r) w.bodies h.kinds
