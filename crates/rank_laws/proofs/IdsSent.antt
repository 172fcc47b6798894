-- The ids that come to a home for a cell are those of the bodies in it.
use Rattle.std.proofs.Common.{◌≡◌, ℕ, ◌<◌, Bool, true, false, cond, eqb, ◌||◌, List, [], ◌∷◌, sum_by, refl, ap, sym, subst, ◌∙◌, arith, inl, inr}
use Rattle.std.specs.Prelude.{nat_lt}
use Rattle.std.specs.List.{list_any, AllByRecursion}
use Rattle.std.proofs.lemmas.Bool.{cond-true, cond-false, lt-ltb, eq-eqb, ne_eqb}
use Rattle.std.proofs.lemmas.List.Sums.{sum_by-cons}
use Rattle.fixed_point.specs.Vectors.{sum_of}
use Rattle.cell_space.specs.Cells.{CellData, contains}
use Rattle.nbody_model.specs.Bodies.{BodyData}
use Rattle.force_sharing.specs.Sharing.{Member}
use Rattle.model_laws.proofs.Among.{Among, each-among}
use Rattle.model_laws.proofs.Sums.{sum_by-same}
use Rattle.model_laws.proofs.Shares.{Ascending, ascending-from}
use Rattle.model_laws.proofs.Walk.{filter_sum}
use Rattle.rank_laws.specs.Machine.{is_one}
use Rattle.rank_laws.specs.Whole.{Whole, IsWhole}
use Rattle.rank_laws.specs.Contents.{wanted, collected, share_at, part_for}
use Rattle.rank_laws.specs.Kept.{part_by, PartsAreById}
use Rattle.rank_laws.proofs.Machine.{among_one}
use Rattle.rank_laws.proofs.Collecting.{collected_sum}
use Rattle.rank_laws.proofs.Gathering.{map_on}
use Rattle.rank_laws.proofs.ByIds.{filter_on}

any_some : {X : Type 0} (t : X → Bool) (xs : List X) → list_any t xs ≡ nat_lt 0 (sum_by (λ x. cond (t x) 1 0) xs)
any_some t [] = refl
any_some t (x ∷ xs) = by (t x) refl (any_some t xs)
  where
    by : (b : Bool) → t x ≡ b → list_any t xs ≡ nat_lt 0 (sum_by (λ x. cond (t x) 1 0) xs) → (b || list_any t xs) ≡ nat_lt 0 (sum_by (λ x. cond (t x) 1 0) (x ∷ xs))
    by true e rest = sym (lt-ltb 0 (sum_by (λ x. cond (t x) 1 0) (x ∷ xs)) (omega (arith, sum_by-cons (λ x. cond (t x) 1 0) x xs, cond-true {A = ℕ} (t x) 1 0 e)))
    by false e rest = rest ∙ ap (nat_lt 0) (let u : sum_by (λ x. cond (t x) 1 0) xs ≡ sum_by (λ x. cond (t x) 1 0) (x ∷ xs) = omega (arith, sum_by-cons (λ x. cond (t x) 1 0) x xs, cond-false {A = ℕ} (t x) 1 0 e) in u)

later_none : (b : BodyData) (t : BodyData → ℕ) (ms : List BodyData) → AllByRecursion (λ k. b.id < k.id) ms → sum_by (λ m. cond (eqb m.id b.id) (t m) 0) ms ≡ 0
later_none b t [] a = refl
later_none b t (m ∷ ms) a =
    let l : b.id < m.id = a.0 in
    omega (arith, sum_by-cons (λ m. cond (eqb m.id b.id) (t m) 0) m ms, cond-false {A = ℕ} (eqb m.id b.id) (t m) 0 (ne_eqb m.id b.id (λ e. omega (arith, l, e))), later_none b t ms a.1)

by_id : (b : BodyData) (t : BodyData → ℕ) (ms : List BodyData) → Ascending ms → Among b ms → sum_by (λ m. cond (eqb m.id b.id) (t m) 0) ms ≡ t b
by_id b t [] a h = absurd h
by_id b t (m ∷ ms) a (inl e) =
    let l : AllByRecursion (λ k. b.id < k.id) ms = subst (λ (d : BodyData). AllByRecursion (λ k. d.id < k.id) ms) (sym e) a.0 in
    omega (arith, sum_by-cons (λ m. cond (eqb m.id b.id) (t m) 0) m ms, cond-true {A = ℕ} (eqb m.id b.id) (t m) 0 (eq-eqb m.id b.id (ap (λ (d : BodyData). d.id) (sym e))), ap t e, later_none b t ms l)
by_id b t (m ∷ ms) a (inr h) =
    let l : m.id < b.id = each-among (λ k. m.id < k.id) b ms a.0 h in
    omega (arith, sum_by-cons (λ m. cond (eqb m.id b.id) (t m) 0) m ms, cond-false {A = ℕ} (eqb m.id b.id) (t m) 0 (ne_eqb m.id b.id (λ e. omega (arith, l, e))), by_id b t ms a.1 h)

flip : (p q : Bool) → cond {A = ℕ} p (cond q 1 0) 0 ≡ cond q (cond p 1 0) 0
flip true true = refl
flip true false = refl
flip false true = refl
flip false false = refl

one_or_none : (b : Bool) → nat_lt 0 (cond b 1 0) ≡ b
one_or_none true = refl
one_or_none false = refl

-- an id came for a wanted cell exactly where its body is in it
pub came_for : (w : Whole) → IsWhole w → (h : ℕ) (b : BodyData) → Among b w.bodies → (c : CellData) → is_one c (wanted w h) ≡ true → list_any (λ (m : Member). eqb m.0 b.id) (collected w h c) ≡ contains c b.motion.pos
came_for w whole h b i c e =
    any_some (λ (m : Member). eqb m.0 b.id) (collected w h c)
    ∙ ap (nat_lt 0) (
    collected_sum w whole h c e (λ (m : Member). cond (eqb m.0 b.id) 1 0)
    ∙ filter_sum (λ d. contains c d.motion.pos) (λ d. cond (eqb d.id b.id) 1 0) w.bodies
    ∙ sum_by-same (λ d. cond (contains c d.motion.pos) (cond (eqb d.id b.id) 1 0) 0) (λ d. cond (eqb d.id b.id) (cond (contains c d.motion.pos) 1 0) 0) (λ d. flip (contains c d.motion.pos) (eqb d.id b.id)) w.bodies
    ∙ by_id b (λ d. cond (contains c d.motion.pos) 1 0) w.bodies (ascending-from w.bodies whole.bodies.valid.ascending) i)
    ∙ one_or_none (contains c b.motion.pos)

pub parts_by : PartsAreById
unfolding part_for
parts_by w whole h = map_on (part_by w h) (part_for w h) w.bodies (λ b i.
    ap (sum_of (λ c. share_at w h c b)) (filter_on (λ c. list_any (λ (m : Member). eqb m.0 b.id) (collected w h c)) (λ c. contains c b.motion.pos) (wanted w h) (λ c k. came_for w whole h b i c (among_one c (wanted w h) k))))
