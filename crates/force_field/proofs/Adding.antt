-- A running total of each of the nodes around a body.
use Rattle.std.proofs.Common.{◌≡◌, ℕ, ◌+◌, ◌*◌, ◌<◌, ◌≤◌, ◌^◌, Bool, true, false, cond, eqb, List, length, take, get_or, set, ap, sym, subst, ◌∙◌, arith, pos, ◌+ℤ◌, ◌⊎◌, inl, inr, length-set}
use Rattle.std.specs.List.{count_by}
use Rattle.std.proofs.lemmas.Bool.{cond-true, cond-false, cases_eq, eq-eqb, ne_eqb}
use Rattle.std.proofs.lemmas.Int.{ints}
use Rattle.std.proofs.lemmas.List.{get_or-set_same, get_or-set_other, take_all}
use Rattle.std.proofs.lemmas.List.Sums.{fold_more, sum_by_more}
use Rattle.fixed_point.specs.declared.V3.{V3}
use Rattle.fixed_point.specs.Vectors.{origin, plus, sum_of, IsAtMost, FitsEach}
use Rattle.fixed_point.proofs.VectorLemmas.{IsAtMost-plus, FitsEach-from_bound}
use Rattle.cell_space.specs.Cells.{cell_at}
use Rattle.cell_space.proofs.Cells.{cell_at-contains}
use Rattle.nbody_model.specs.Bodies.{BodyData}
use Rattle.nbody_model.specs.Tables.{Gravity}
use Rattle.nbody_model.specs.Covers.{opening_of}
use Rattle.model_laws.specs.Laws.{AreBodies}
use Rattle.model_laws.specs.Firsts.{part_of_total, stands_for}
use Rattle.model_laws.proofs.Firsts.{totals_by_bodies}
use Rattle.force_field.specs.declared.totals.Part.{Part}
use Rattle.force_field.specs.Pairs.{IsPart, AreTotals}
use Rattle.force_field.proofs.At.{among-at}

plus-zero : (v : V3) → plus v origin ≡ v
plus-zero v =
    let x : v.x +ℤ pos 0 ≡ v.x = omega (arith, ints) in
    let y : v.y +ℤ pos 0 ≡ v.y = omega (arith, ints) in
    let z : v.z +ℤ pos 0 ≡ v.z = omega (arith, ints) in
    λ i. record { x = x i; y = y i; z = z i }

-- what stands at a level after a force was added at one
set_cases : (xs : List V3) (k m : ℕ) (f : V3) → k < length xs → (m ≡ k) ⊎ (m ≡ k → ⊥) → get_or (set xs k (plus (get_or xs k origin) f)) m origin ≡ plus (get_or xs m origin) (cond (eqb m k) f origin)
set_cases xs k m f h (inl e) =
    ap (λ t. get_or (set xs k (plus (get_or xs k origin) f)) t origin) e
    ∙ get_or-set_same xs k (plus (get_or xs k origin) f) origin h
    ∙ ap (λ t. plus (get_or xs t origin) f) (sym e)
    ∙ ap (plus (get_or xs m origin)) (sym (cond-true (eqb m k) f origin (eq-eqb m k e)))
set_cases xs k m f h (inr n) =
    get_or-set_other xs k m (plus (get_or xs k origin) f) origin n
    ∙ sym (plus-zero (get_or xs m origin))
    ∙ ap (plus (get_or xs m origin)) (sym (cond-false (eqb m k) f origin (ne_eqb m k n)))

-- what is found over the first j bodies
pub record IsFound (g : Gravity) (B : List BodyData) (b : BodyData) (j : ℕ) (totals : List V3) (count : ℕ) : Type 0 where
  pub sums : (m : ℕ) → m < 33 → get_or totals m origin ≡ sum_of (part_of_total g B b (cell_at m b.motion.pos)) (take j B)
  pub counted : count ≡ count_by (stands_for (opening_of g.setup B) B b) (take j B)

-- no total is too great
pub record AreSmall (j : ℕ) (totals : List V3) : Type 0 where
  pub long : length totals ≡ 33
  pub each : (m : ℕ) → m < 33 → IsAtMost (j * 2 ^ 87) (get_or totals m origin)

next_most : (j : ℕ) (v w : V3) → IsAtMost (j * 2 ^ 87) v → IsAtMost (2 ^ 87) w → IsAtMost ((j + 1) * 2 ^ 87) (plus v w)
next_most j v w h k = let e : j * 2 ^ 87 + 2 ^ 87 ≡ (j + 1) * 2 ^ 87 = omega arith in rw (← e) (IsAtMost-plus (j * 2 ^ 87) (2 ^ 87) v w h k)

pub next-fits : (j k : ℕ) (totals : List V3) (f : V3) → j < 1048576 → k < 33 → AreSmall j totals → IsAtMost (2 ^ 87) f → FitsEach (plus (get_or totals k origin) f)
next-fits j k totals f few low small h = FitsEach-from_bound ((j + 1) * 2 ^ 87) (plus (get_or totals k origin) f) (omega (arith, few)) (next_most j (get_or totals k origin) f (small.each k low) h)

most_cases : (t : Bool) (f : V3) → IsAtMost (2 ^ 87) f → IsAtMost (2 ^ 87) (cond t f origin)
most_cases true f h = h
most_cases false f h = record { on_x = omega arith; on_y = omega arith; on_z = omega arith }

pub next-small : (j k : ℕ) (totals after : List V3) (f : V3) → k < 33 → AreSmall j totals → IsAtMost (2 ^ 87) f → after ≡ set totals k (plus (get_or totals k origin) f) → AreSmall (j + 1) after
next-small j k totals after f low small h e = record {
  long = ap length e ∙ length-set totals k (plus (get_or totals k origin) f) ∙ small.long;
  each = λ m lt.
      let at : get_or after m origin ≡ plus (get_or totals m origin) (cond (eqb m k) f origin) = ap (λ t. get_or t m origin) e ∙ set_cases totals k m f (omega (arith, low, small.long)) (cases_eq m k) in
      subst (IsAtMost ((j + 1) * 2 ^ 87)) (sym at) (next_most j (get_or totals m origin) (cond (eqb m k) f origin) (small.each m lt) (most_cases (eqb m k) f h));
}

pub next-found : (g : Gravity) (B : List BodyData) (b d : BodyData) (j : ℕ) (totals after : List V3) (count next : ℕ) (p : Part) → j < length B → length totals ≡ 33 → IsPart g B b (get_or B j d) p →
    after ≡ set totals p.level (plus (get_or totals p.level origin) p.force) → next ≡ count + cond p.counts 1 0 → IsFound g B b j totals count → IsFound g B b (j + 1) after next
next-found g B b d j totals after count next p lt long part e counts found = record {
  sums = λ m low.
      ap (λ t. get_or t m origin) e
      ∙ set_cases totals p.level m p.force (omega (arith, part.shallow, long)) (cases_eq m p.level)
      ∙ ap (λ t. plus t (cond (eqb m p.level) p.force origin)) (found.sums m low)
      ∙ ap (plus (sum_of (part_of_total g B b (cell_at m b.motion.pos)) (take j B))) (sym (part.adds m))
      ∙ sym (fold_more (λ total x. plus total (part_of_total g B b (cell_at m b.motion.pos) x)) origin B j d lt);
  counted =
      counts ∙ ap (λ t. t + cond p.counts 1 0) found.counted
      ∙ ap (λ t. count_by (stands_for (opening_of g.setup B) B b) (take j B) + cond t 1 0) part.counted
      ∙ sym (sum_by_more (λ x. cond (stands_for (opening_of g.setup B) B b x) 1 0) B j d lt);
}

pub all-found : (g : Gravity) (B : List BodyData) (i : ℕ) (b : BodyData) (j : ℕ) (totals : List V3) (count : ℕ) → AreBodies B → i < length B → length B ≤ j → j ≤ 1048576 → IsFound g B (get_or B i b) j totals count → AreSmall j totals →
    AreTotals g B (get_or B i b) totals
all-found g B i b j totals count all lt le few found small = record {
  totals_are = λ m low.
      found.sums m low
      ∙ ap (sum_of (part_of_total g B (get_or B i b) (cell_at m (get_or B i b).motion.pos))) (take_all j B le)
      ∙ sym (totals_by_bodies g B all (get_or B i b) (among-at B i b lt) (cell_at m (get_or B i b).motion.pos) (cell_at-contains m (get_or B i b).motion.pos));
  small = λ m low. let h : IsAtMost (j * 2 ^ 87) (get_or totals m origin) = small.each m low in
      record { on_x = omega (arith, h.on_x, few); on_y = omega (arith, h.on_y, few); on_z = omega (arith, h.on_z, few) };
}
