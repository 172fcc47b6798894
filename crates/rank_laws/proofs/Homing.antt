-- The home of a cell gets its total.
use Rattle.std.proofs.Common.{◌≡◌, ℕ, Bool, true, false, cond, eqb, ◌||◌, List, [], ◌∷◌, map, sum_by, refl, ap, sym, ◌∙◌, arith, ℤ, pos}
use Rattle.std.specs.List.{filter, flat_map}
use Rattle.std.proofs.lemmas.Int.{ints}
use Rattle.std.proofs.lemmas.Bool.{false≢true, eq-eqb}
use Rattle.fixed_point.specs.declared.V3.{V3}
use Rattle.fixed_point.specs.Vectors.{origin, negative}
use Rattle.cell_space.specs.Cells.{CellData, same_cell}
use Rattle.cell_space.proofs.Cells.{same_cell-exact}
use Rattle.nbody_model.specs.Covers.{interactions}
use Rattle.nbody_model.specs.Force.{pair_force, force_on, node_total}
use Rattle.model_laws.proofs.Signed.{total_by, total-same, total-filter, total-mapped, total-once, total-nowhere}
use Rattle.rank_laws.specs.Homes.{home}
use Rattle.rank_laws.specs.Machine.{Pair, is_one, cells_of}
use Rattle.rank_laws.specs.Whole.{ranks, Whole, IsWhole, opening, counted}
use Rattle.rank_laws.specs.Contents.{part_on, touched, Summed, sums_sent, sum_at, total_at}
use Rattle.rank_laws.proofs.Fairness.{in_order-times, in_order-same}
use Rattle.rank_laws.proofs.Counted.{totals_together}
use Rattle.rank_laws.proofs.Axes.{Axis, on, on_none, on_sum, on_each, total-flat_map}

-- what stands at a cell in a list of cells with their sums, each once
module _ (a : Axis) (part : CellData → V3) (c : CellData) where
  same_part : (d : CellData) (b : Bool) → same_cell c d ≡ b → cond b (on a (part d)) (pos 0) ≡ cond b (on a (part c)) (pos 0)
  same_part d true e = ap (λ t. on a (part t)) (sym ((same_cell-exact c d).0 e))
  same_part d false e = refl

  sum_at-marked : (cs : List CellData) → on a (sum_at c (map (λ d. record { cell = d; sum = part d }) cs)) ≡ total_by (λ d. cond (same_cell c d) (on a (part c)) (pos 0)) cs
  sum_at-marked cs =
      on_sum a (λ (e : Summed). e.sum) (filter (λ (e : Summed). same_cell c e.cell) (map (λ d. record { cell = d; sum = part d }) cs))
      ∙ total-filter (λ (e : Summed). same_cell c e.cell) (λ (e : Summed). on a e.sum) (map (λ d. record { cell = d; sum = part d }) cs)
      ∙ total-mapped (λ (e : Summed). cond (same_cell c e.cell) (on a e.sum) (pos 0)) (λ d. record { cell = d; sum = part d }) cs
      ∙ total-same (λ d. cond (same_cell c d) (on a (part d)) (pos 0)) (λ d. cond (same_cell c d) (on a (part c)) (pos 0)) (λ d. same_part d (same_cell c d) refl) cs

  pub sum_at-once : (cs : List CellData) (b : Bool) → sum_by (λ d. cond {A = ℕ} (same_cell c d) 1 0) cs ≡ cond b 1 0 → on a (sum_at c (map (λ d. record { cell = d; sum = part d }) cs)) ≡ cond b (on a (part c)) (pos 0)
  sum_at-once cs true e = sum_at-marked cs ∙ total-once (same_cell c) (on a (part c)) cs e
  sum_at-once cs false e = sum_at-marked cs ∙ total-nowhere (same_cell c) (on a (part c)) cs e

-- a cell that no pair of a list has gets nothing from it
one_not : (c d : CellData) (rest : Bool) → (same_cell c d || rest) ≡ false → (same_cell c d ≡ false) × (rest ≡ false)
one_not c d rest e = by (same_cell c d) rest e
  where
    by : (p q : Bool) → (p || q) ≡ false → (p ≡ false) × (q ≡ false)
    by true q e = cc
    by false q e = (refl, e)

none_on : (a : Axis) (f : Pair → V3) (c : CellData) (xs : List Pair) → is_one c (flat_map cells_of xs) ≡ false → total_by (λ x. on a (force_on f c x)) xs ≡ pos 0
unfolding force_on
none_on a f c [] e = refl
none_on a f c (x ∷ xs) e =
    let u : (same_cell c x.0 ≡ false) × ((same_cell c x.1 || is_one c (flat_map cells_of xs)) ≡ false) = one_not c x.0 (same_cell c x.1 || is_one c (flat_map cells_of xs)) e in
    let v : (same_cell c x.1 ≡ false) × (is_one c (flat_map cells_of xs) ≡ false) = one_not c x.1 (is_one c (flat_map cells_of xs)) u.1 in
    let z : on a (force_on f c x) ≡ pos 0 = nothing u.0 v.0 in
    let r : total_by (λ y. on a (force_on f c y)) xs ≡ pos 0 = none_on a f c xs v.1 in
    omega (arith, ints, z, r)
  where
    nothing : same_cell c x.0 ≡ false → same_cell c x.1 ≡ false → on a (force_on f c x) ≡ pos 0
    nothing e h = ap (λ t. on a (cond t (f x) (cond (same_cell c x.1) (negative (f x)) origin))) e ∙ ap (λ t. on a (cond t (negative (f x)) origin)) h ∙ on_none a

-- a cell of home h is touched for h exactly where a pair has it
touched_same : (w : Whole) (r h : ℕ) (c : CellData) → home w.keys c ≡ h → is_one c (filter (λ d. eqb (home w.keys d) h) (flat_map cells_of (counted w r))) ≡ is_one c (flat_map cells_of (counted w r))
touched_same w r h c e = kept (flat_map cells_of (counted w r))
  where
    inside : (d : CellData) (ds : List CellData) (b : Bool) → eqb (home w.keys d) h ≡ b → is_one c (filter (λ d. eqb (home w.keys d) h) ds) ≡ is_one c ds → is_one c (cond b (d ∷ filter (λ d. eqb (home w.keys d) h) ds) (filter (λ d. eqb (home w.keys d) h) ds)) ≡ (same_cell c d || is_one c ds)
    inside d ds true k rest = ap (λ t. same_cell c d || t) rest
    inside d ds false k rest = other (same_cell c d) refl
      where
        other : (b : Bool) → same_cell c d ≡ b → is_one c (filter (λ d. eqb (home w.keys d) h) ds) ≡ (b || is_one c ds)
        other true u = absurd (false≢true (sym k ∙ ap (λ t. eqb (home w.keys t) h) (sym ((same_cell-exact c d).0 u)) ∙ eq-eqb (home w.keys c) h e))
        other false u = rest

    kept : (ds : List CellData) → is_one c (filter (λ d. eqb (home w.keys d) h) ds) ≡ is_one c ds
    kept [] = refl
    kept (d ∷ ds) = inside d ds (eqb (home w.keys d) h) refl (kept ds)

pub one_touched : (w : Whole) (r h : ℕ) (c : CellData) → home w.keys c ≡ h → is_one c (touched w r h) ≡ is_one c (flat_map cells_of (counted w r))
unfolding touched
one_touched w r h c e = in_order-same w.keys c (filter (λ d. eqb (home w.keys d) h) (flat_map cells_of (counted w r))) ∙ touched_same w r h c e

times_touched : (w : Whole) (r h : ℕ) (c : CellData) → home w.keys c ≡ h → sum_by (λ d. cond {A = ℕ} (same_cell c d) 1 0) (touched w r h) ≡ cond (is_one c (flat_map cells_of (counted w r))) 1 0
unfolding touched
times_touched w r h c e = in_order-times w.keys c (filter (λ d. eqb (home w.keys d) h) (flat_map cells_of (counted w r))) ∙ ap {B = ℕ} (λ b. cond b 1 0) (touched_same w r h c e)

-- what a rank's counted pairs do to a cell, on an axis
abbrev pub part_along : Whole → Axis → CellData → ℕ → ℤ
part_along w a c r = total_by (λ x. on a (force_on (pair_force w.gravity w.bodies) c x)) (counted w r)

part_axis : (w : Whole) (a : Axis) (c : CellData) (r : ℕ) → on a (part_on w r c) ≡ part_along w a c r
unfolding part_on
part_axis w a c r = on_sum a (force_on (pair_force w.gravity w.bodies) c) (counted w r)

pub part_none : (w : Whole) (a : Axis) (c : CellData) (r : ℕ) → is_one c (flat_map cells_of (counted w r)) ≡ false → part_along w a c r ≡ pos 0
part_none w a c r e = none_on a (pair_force w.gravity w.bodies) c (counted w r) e

sent_axis : (w : Whole) (a : Axis) (c : CellData) (r h : ℕ) → home w.keys c ≡ h → on a (sum_at c (sums_sent w r h)) ≡ part_along w a c r
sent_axis w a c r h e = sum_at-once a (part_on w r) c (touched w r h) (is_one c (flat_map cells_of (counted w r))) (times_touched w r h c e) ∙ by (is_one c (flat_map cells_of (counted w r))) refl
  where
    by : (b : Bool) → is_one c (flat_map cells_of (counted w r)) ≡ b → cond b (on a (part_on w r c)) (pos 0) ≡ part_along w a c r
    by true k = part_axis w a c r
    by false k = sym (part_none w a c r k)

pub node_axis : (w : Whole) → IsWhole w → (a : Axis) (c : CellData) → total_by (part_along w a c) (ranks w) ≡ on a (node_total w.gravity w.bodies c)
unfolding node_total
node_axis w whole a c =
    sym (total-flat_map (λ x. on a (force_on (pair_force w.gravity w.bodies) c x)) (counted w) (ranks w))
    ∙ totals_together w whole (λ x. on a (force_on (pair_force w.gravity w.bodies) c x))
    ∙ sym (on_sum a (force_on (pair_force w.gravity w.bodies) c) (interactions (opening w)))

pub homes_have : (w : Whole) → IsWhole w → (c : CellData) → total_at w (home w.keys c) c ≡ node_total w.gravity w.bodies c
unfolding total_at
homes_have w whole c = on_each (total_at w (home w.keys c) c) (node_total w.gravity w.bodies c) (λ a.
    on_sum a (λ r. sum_at c (sums_sent w r (home w.keys c))) (ranks w)
    ∙ total-same (λ r. on a (sum_at c (sums_sent w r (home w.keys c)))) (part_along w a c) (λ r. sent_axis w a c r (home w.keys c) refl) (ranks w)
    ∙ node_axis w whole a c)
