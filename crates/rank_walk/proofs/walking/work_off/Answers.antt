use Rattle.std.proofs.Common.{◌≡◌, ◌<◌, ◌++◌, ◌∷◌, [], ℕ, zero, suc, true, false, refl, length, map, sym, subst, arith, List}
use Rattle.std.proofs.lemmas.Bool.{false≢true}
use Rattle.cell_space.specs.Cells.{CellData}
use Rattle.rank_walk.specs.declared.places.Places.{Places}
use Rattle.rank_walk.specs.Seats.{Seat, side}
use Rattle.rank_walk.specs.Slots.{cells}
use Rattle.rank_walk.specs.Walked.{IsAt, IsNearer, MayWork, work}
use Rattle.rank_walk.proofs.Steps.{at_begin, at_end, none_left, plan_of}
use Rattle.rank_walk.proofs.walking.work_off.Goals as goal

pub loop-x-init : goal.loop-x-init
loop-x-init g c = λ z s replies may. subst (λ (w : List Places). IsAt (side z replies) (plan_of (side z replies) c.args.heard.now c.args.list.now c.args.count.now) c.args.heard.now c.in_ok-stack.stack.items w c.args.count.now) (sym c.new-wait.ensures.items)
    (at_begin (side z replies) c.args.heard.now c.args.list.now c.in_ok-stack.stack.items c.args.count.now may c.in_ok-stack.ensures)

pub step-requires-clause-at : goal.step-requires-clause-at
step-requires-clause-at g c = (
  c.requires.may.0,
  (
    c.requires.may.1.0,
    (
      c.requires.may.1.1.0,
      (
        plan_of (side c.requires.may.0 c.requires.may.1.1.0) c.args.heard.now c.args.list.now c.args.count.now,
        subst (λ (s : List Places). IsAt (side c.requires.may.0 c.requires.may.1.1.0) (plan_of (side c.requires.may.0 c.requires.may.1.1.0) c.args.heard.now c.args.list.now c.args.count.now) c.loop-x.heard s c.loop-x.wait.items c.loop-x.count) c.in-Some.ensures.items
            (c.loop-x.invariant c.requires.may.0 c.requires.may.1.0 c.requires.may.1.1.0 c.requires.may.1.1.1),
      ),
    ),
  ),
)

abbrev Next : (g : _) → goal.In_ok-step g → Seat → List CellData → Type 0
Next g c z replies = IsNearer (side z replies) (plan_of (side z replies) c.args.heard.now c.args.list.now c.args.count.now) c.loop-x.heard (c.pop.new.self.items ++ c.in-Some.x ∷ []) c.step.new.heard c.step.new.stack.items c.step.new.wait.items c.step.new.count

next : (g : _) (c : goal.In_ok-step g) (z : Seat) → g.S.Source.serves c.args.source.now z → (replies : List CellData) → MayWork (side z replies) c.args.heard.now c.args.list.now c.args.count.now → Next g c z replies
next g c z s replies may = c.in_ok-step.ensures.at z s replies (plan_of (side z replies) c.args.heard.now c.args.list.now c.args.count.now)
    (subst (λ (s : List Places). IsAt (side z replies) (plan_of (side z replies) c.args.heard.now c.args.list.now c.args.count.now) c.loop-x.heard s c.loop-x.wait.items c.loop-x.count) c.in-Some.ensures.items (c.loop-x.invariant z s replies may))

pub loop-x-preserved : goal.loop-x-preserved
loop-x-preserved g c = λ z s replies may. (next g c z s replies may).at

pub loop-x-smaller : goal.loop-x-smaller
loop-x-smaller g c = subst (λ (s : List Places). work (map (cells c.step.new.heard.slots.items) c.step.new.stack.items) < work (map (cells c.loop-x.heard.slots.items) s)) (sym c.in-Some.ensures.items) (next g c c.requires.may.0 c.requires.may.1.0 c.requires.may.1.1.0 c.requires.may.1.1.1).less

not_some : (n : ℕ) → (0 < n → false ≡ true) → n ≡ 0
not_some zero h = refl
not_some (suc n) h = absurd (false≢true (h (omega arith)))

pub returns : goal.returns
returns g c =
    let e : length c.loop-x.stack.items ≡ 0 = not_some (length c.loop-x.stack.items) c.in_default.ensures.variant.1 in
    λ z s replies may. at_end (side z replies) c.args.heard.now c.args.list.now c.args.count.now c.loop-x.heard c.loop-x.stack.items c.loop-x.wait.items c.loop-x.count (none_left c.loop-x.stack.items e) (c.loop-x.invariant z s replies may)
