-- Two sums in either order; the members of the children of a cell.
use Rattle.std.proofs.Common.{◌≡◌, ℕ, ◌+◌, ◌<◌, Bool, true, false, cond, eqb, ◌&&◌, List, [], ◌∷◌, sum_by, refl, ap, sym, ◌∙◌, arith}
use Rattle.std.proofs.lemmas.List.Sums.{sum_by-cons}
use Rattle.cell_space.specs.Cells.{CellData, digit, child, contains, below}
use Rattle.cell_space.proofs.Cells.{contains_child, digit_below}
use Rattle.nbody_model.specs.Bodies.{BodyData}
use Rattle.nbody_model.specs.Nodes.{members}
use Rattle.model_laws.proofs.Sums.{sum_by-same, sum_by-zero, sum_by-plus, sum_by-pick}
use Rattle.model_laws.proofs.Walk.{filter_sum}
use Rattle.model_laws.proofs.Same.{sum-below}

pub sum-exchange : {X Y : Type 0} (f : X → Y → ℕ) (xs : List X) (ys : List Y) → sum_by (λ x. sum_by (λ y. f x y) ys) xs ≡ sum_by (λ y. sum_by (λ x. f x y) xs) ys
sum-exchange f [] ys = sym (sum_by-zero (λ y. 0) (λ y. refl) ys)
sum-exchange f (x ∷ xs) ys =
    omega (
      arith,
      sum_by-cons (λ x. sum_by (λ y. f x y) ys) x xs,
      sum-exchange f xs ys,
      sum_by-same (λ y. sum_by (λ x. f x y) (x ∷ xs)) (λ y. f x y + sum_by (λ x. f x y) xs) (λ y. sum_by-cons (λ x. f x y) x xs) ys,
      sum_by-plus (λ y. f x y) (λ y. sum_by (λ x. f x y) xs) ys,
    )

swap : (a b : Bool) (n : ℕ) → cond (a && b) n 0 ≡ cond a (cond b n 0) 0
swap true b n = refl
swap false b n = refl

-- of the children of a cell one has a body of the cell
child_weight : (weight : BodyData → ℕ) (c : CellData) → c.level < 32 → (b : BodyData) → sum_by (λ k. cond (contains (child c k) b.motion.pos) (weight b) 0) (below 8) ≡ cond (contains c b.motion.pos) (weight b) 0
child_weight weight c low b =
    sum-below (λ k. cond (contains (child c k) b.motion.pos) (weight b) 0) (λ k. cond (eqb k (digit b.motion.pos c.level)) (cond (contains c b.motion.pos) (weight b) 0) 0) 8
    (λ k l. ap (λ t. cond t (weight b) 0) (contains_child c k b.motion.pos low l) ∙ swap (eqb k (digit b.motion.pos c.level)) (contains c b.motion.pos) (weight b))
    ∙ sum_by-pick (λ k. cond (contains c b.motion.pos) (weight b) 0) (digit b.motion.pos c.level) 8 (digit_below b.motion.pos c.level)

pub members_part : (B : List BodyData) (c : CellData) → c.level < 32 → (weight : BodyData → ℕ) → sum_by (λ k. sum_by weight (members B (child c k))) (below 8) ≡ sum_by weight (members B c)
members_part B c low weight =
    sum_by-same (λ k. sum_by weight (members B (child c k))) (λ k. sum_by (λ b. cond (contains (child c k) b.motion.pos) (weight b) 0) B) (λ k. filter_sum (λ b. contains (child c k) b.motion.pos) weight B) (below 8)
    ∙ sum-exchange (λ k b. cond (contains (child c k) b.motion.pos) (weight b) 0) (below 8) B
    ∙ sum_by-same (λ b. sum_by (λ k. cond (contains (child c k) b.motion.pos) (weight b) 0) (below 8)) (λ b. cond (contains c b.motion.pos) (weight b) 0) (child_weight weight c low) B
    ∙ sym (filter_sum (λ b. contains c b.motion.pos) weight B)
