use Rattle.std.proofs.Common.{◌≡◌, ◌≤◌, ◌<◌, ◌+◌, ◌^◌, ap, sym, ◌∙◌, subst, arith}
use Rattle.cell_space.specs.Cells.{CellData}
use Rattle.hilbert_keys.specs.Curve.{keys_in, child_along}
use Rattle.octree_build.specs.Slots.{IsChildAt}
use Rattle.octree_build.proofs.Edges.{opens, opens_next, bound_fits, ends_within, child_there, opened_all}
use Rattle.octree_build.proofs.grow.push_children.Goals as goal

pub loop-place-init : goal.loop-place-init
loop-place-init c = λ d k. opens c.args.bodies.now d k.cell (omega (arith, k.there, c.requires.level)) c.args.low c.args.from c.args.out.now.items k.begins k.key

pub overflow_add-bound : goal.overflow_add-bound
overflow_add-bound c =
    let d : CellData = c.requires.cell.0 in
    let k = c.requires.cell.1 in
    let f : c.loop-place.bound + c.keys_in-width.result ≤ 2 ^ 96 = bound_fits c.args.bodies.now d k.cell (omega (arith, k.there, c.requires.level)) c.loop-place._place c.loop-place.at c.loop-place.bound c.keys_in-width.result c.args.out.now.items c.loop-place.out.items c.loop-place-test.true (c.loop-place.invariant d k) (c.keys_in-width.ensures.value ∙ ap (λ l. keys_in (l + 1)) (sym k.there)) in
    omega (arith, f)

pub push_child-requires-clause-child : goal.push_child-requires-clause-child
push_child-requires-clause-child c =
    let d : CellData = c.requires.cell.0 in
    let k = c.requires.cell.1 in
    let there : IsChildAt c.args.bodies.now (d.level + 1) c.loop-place.at (c.loop-place.bound + c.keys_in-width.result) (child_along d c.loop-place._place) = child_there c.args.bodies.now d k.cell (omega (arith, k.there, c.requires.level)) c.loop-place._place c.loop-place.at c.loop-place.bound c.keys_in-width.result c.args.out.now.items c.loop-place.out.items c.loop-place-test.true (c.loop-place.invariant d k) (c.keys_in-width.ensures.value ∙ ap (λ l. keys_in (l + 1)) (sym k.there)) in
    (child_along d c.loop-place._place, subst (λ l. IsChildAt c.args.bodies.now (l + 1) c.loop-place.at (c.loop-place.bound + c.keys_in-width.result) (child_along d c.loop-place._place)) k.there there)

pub push_child-requires-clause-high : goal.push_child-requires-clause-high
push_child-requires-clause-high c =
    let d : CellData = c.requires.cell.0 in
    let k = c.requires.cell.1 in
    ends_within c.args.bodies.now d k.cell (omega (arith, k.there, c.requires.level)) c.args.keys.now c.args.high c.loop-place._place c.loop-place.at c.loop-place.bound c.keys_in-width.result c.args.out.now.items c.loop-place.out.items c.requires.keyed k.ends c.loop-place-test.true (c.loop-place.invariant d k) (c.keys_in-width.ensures.value ∙ ap (λ l. keys_in (l + 1)) (sym k.there))

pub loop-place-preserved : goal.loop-place-preserved
loop-place-preserved c = λ d k.
    let w : c.keys_in-width.result ≡ keys_in (d.level + 1) = c.keys_in-width.ensures.value ∙ ap (λ l. keys_in (l + 1)) (sym k.there) in
    let s : d.level < 32 = omega (arith, k.there, c.requires.level) in
    let there : IsChildAt c.args.bodies.now (d.level + 1) c.loop-place.at (c.loop-place.bound + c.keys_in-width.result) (child_along d c.loop-place._place) = child_there c.args.bodies.now d k.cell s c.loop-place._place c.loop-place.at c.loop-place.bound c.keys_in-width.result c.args.out.now.items c.loop-place.out.items c.loop-place-test.true (c.loop-place.invariant d k) w in
    let r = c.in_ok-at.ensures (child_along d c.loop-place._place) (subst (λ l. IsChildAt c.args.bodies.now (l + 1) c.loop-place.at (c.loop-place.bound + c.keys_in-width.result) (child_along d c.loop-place._place)) k.there there) in
    opens_next c.args.bodies.now d k.cell s c.loop-place._place c.loop-place.at c.loop-place.bound c.keys_in-width.result c.in_ok-at.at c.args.out.now.items c.loop-place.out.items c.push_child.new.out.items c.loop-place-test.true (c.loop-place.invariant d k) w r.0 r.1

pub returns : goal.returns
returns c = λ d k. let e : c.loop-place._place ≡ 8 = omega (arith, c.loop-place-test.false, c.loop-place.auto._place-end) in opened_all c.args.bodies.now d c.loop-place._place c.loop-place.at c.loop-place.bound c.args.out.now.items c.loop-place.out.items e (c.loop-place.invariant d k)
