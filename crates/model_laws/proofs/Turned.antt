-- Unordered pairs of cells.
use Rattle.std.proofs.Common.{◌≡◌, ℕ, ◌+◌, Bool, true, false, cond, refl, ap, sym, ◌∙◌, arith, ◌⊎◌, inl, inr}
use Rattle.std.specs.Bool.{Decides}
use Rattle.std.proofs.lemmas.Bool.{and_parts, and_from}
use Rattle.cell_space.specs.Cells.{CellData, same_cell, before}
use Rattle.cell_space.proofs.Cells.{same_cell-exact}
use Rattle.cell_space.proofs.Orders.{Placed, Same, Earlier, Later, placed}
use Rattle.nbody_model.specs.Covers.{orient, same_pair}

pub same_pair-exact : (x y : CellData × CellData) → Decides (same_pair x y) (x ≡ y)
same_pair-exact x y = (
  λ e. let u : (same_cell x.0 y.0 ≡ true) × (same_cell x.1 y.1 ≡ true) = and_parts (same_cell x.0 y.0) (same_cell x.1 y.1) e in
      let a : x.0 ≡ y.0 = (same_cell-exact x.0 y.0).0 u.0 in let b : x.1 ≡ y.1 = (same_cell-exact x.1 y.1).0 u.1 in λ i. (a i, b i),
  λ e. and_from (same_cell x.0 y.0) (same_cell x.1 y.1) ((same_cell-exact x.0 y.0).1 (ap (λ t. t.0) e)) ((same_cell-exact x.1 y.1).1 (ap (λ t. t.1) e)),
)

even_from : (a b : CellData) → Placed a b → orient (a, b) ≡ orient (b, a)
even_from a b (Same h) = λ i. orient (h i, sym h i)
even_from a b (Earlier h u) = ap (λ t. cond {A = CellData × CellData} t (b, a) (a, b)) u ∙ sym (ap (λ t. cond {A = CellData × CellData} t (a, b) (b, a)) h)
even_from a b (Later h u) = ap (λ t. cond {A = CellData × CellData} t (b, a) (a, b)) u ∙ sym (ap (λ t. cond {A = CellData × CellData} t (a, b) (b, a)) h)

pub orient-even : (a b : CellData) → orient (a, b) ≡ orient (b, a)
orient-even a b = even_from a b (placed a b)

abbrev turned : CellData × CellData → CellData × CellData
turned x = (x.1, x.0)

cond_either : (b : Bool) (x y : CellData × CellData) → (cond b x y ≡ x) ⊎ (cond b x y ≡ y)
cond_either true x y = inl refl
cond_either false x y = inr refl

pub orient-either : (x : CellData × CellData) → (orient x ≡ (x.1, x.0)) ⊎ (orient x ≡ x)
orient-either x = cond_either (before x.1 x.0) (turned x) x

parts_from : (x y u v : CellData × CellData) → u ≡ v → (u ≡ turned x) ⊎ (u ≡ x) → (v ≡ turned y) ⊎ (v ≡ y) → (x ≡ y) ⊎ (x ≡ turned y)
parts_from x y u v e (inl a) (inl b) = inl (ap turned (sym a ∙ e ∙ b))
parts_from x y u v e (inl a) (inr b) = inr (ap turned (sym a ∙ e ∙ b))
parts_from x y u v e (inr a) (inl b) = inr (sym a ∙ e ∙ b)
parts_from x y u v e (inr a) (inr b) = inl (sym a ∙ e ∙ b)

pub orient-parts : (x y : CellData × CellData) → orient x ≡ orient y → (x ≡ y) ⊎ (x ≡ (y.1, y.0))
orient-parts x y e = parts_from x y (orient x) (orient y) e (orient-either x) (orient-either y)

-- the levels of two cells together
abbrev pub depth : CellData × CellData → ℕ
depth x = x.0.level + x.1.level

depth_from : (x y : CellData × CellData) → (y ≡ (x.1, x.0)) ⊎ (y ≡ x) → depth y ≡ depth x
depth_from x y (inl e) = ap depth e ∙ omega arith
depth_from x y (inr e) = ap depth e

pub orient-depth : (x : CellData × CellData) → depth (orient x) ≡ depth x
orient-depth x = depth_from x (orient x) (orient-either x)
