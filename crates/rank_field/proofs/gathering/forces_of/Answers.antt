use Rattle.std.proofs.Common.{◌≡◌, ℕ, ◌∙◌, ap, length, replicate, rules, arith}
use Rattle.rank_field.proofs.Forced.{begins, ends, goes_on, has_place, may_be_told, next_inside, place_fits, rank_inside}
use Rattle.rank_field.proofs.gathering.forces_of.Goals as goal

pub loop-owner-init : goal.loop-owner-init
loop-owner-init c = λ w z h.
    let empty : c.in_ok-next.next.items ≡ replicate c.len.result 0 = search rules in
    let long : c.len.result ≡ length c.args.machine.now.ranks.items = omega (arith, c.len.ensures, c.args.machine.now.ranks.ok.0) in
    begins w z _ h _ _ (empty ∙ ap (λ (n : ℕ). replicate n 0) long) c.in_ok-forces.ensures.items

pub index-place-requires : goal.index-place-requires
index-place-requires c =
    let w = c.requires.0 in
    let z = c.requires.1.0 in
    let h = c.requires.1.1 in
    omega (arith, next_inside w z _ h _ c.deref-owner-items.ensures.value _ c.loop-owner-test.true _ _ (c.loop-owner.invariant w z h), c.loop-owner.next.ok.0)

pub index-requires : goal.index-requires
index-requires c =
    let w = c.requires.0 in
    let z = c.requires.1.0 in
    let h = c.requires.1.1 in
    omega (arith, rank_inside w z _ h _ c.deref-owner-items.ensures.value _ c.loop-owner-test.true _ _ (c.loop-owner.invariant w z h), c.args.machine.now.ranks.ok.0)

pub force_at-requires-clause-place : goal.force_at-requires-clause-place
force_at-requires-clause-place c =
    let w = c.requires.0 in
    let z = c.requires.1.0 in
    let h = c.requires.1.1 in
    has_place w z _ h _ c.deref-owner-items.ensures.value _ c.loop-owner-test.true _ _ (c.loop-owner.invariant w z h) _ c.index-place.ensures _ c.index.ensures

pub force_at-requires-clause-told : goal.force_at-requires-clause-told
force_at-requires-clause-told c =
    let w = c.requires.0 in
    let z = c.requires.1.0 in
    let h = c.requires.1.1 in
    may_be_told w z _ h _ c.deref-owner-items.ensures.value _ c.loop-owner-test.true _ _ (c.loop-owner.invariant w z h) _ c.index-place.ensures _ c.index.ensures

pub overflow_add-place : goal.overflow_add-place
overflow_add-place c =
    let w = c.requires.0 in
    let z = c.requires.1.0 in
    let h = c.requires.1.1 in
    omega (arith, place_fits w z _ h _ c.deref-owner-items.ensures.value _ c.loop-owner-test.true _ _ (c.loop-owner.invariant w z h) _ c.index-place.ensures)

pub index_mut-requires : goal.index_mut-requires
index_mut-requires c =
    let w = c.requires.0 in
    let z = c.requires.1.0 in
    let h = c.requires.1.1 in
    omega (arith, next_inside w z _ h _ c.deref-owner-items.ensures.value _ c.loop-owner-test.true _ _ (c.loop-owner.invariant w z h), c.loop-owner.next.ok.0)

pub loop-owner-preserved : goal.loop-owner-preserved
loop-owner-preserved c = λ w z h.
    goes_on w z _ h _ c.deref-owner-items.ensures.value _ c.loop-owner-test.true _ _ (c.loop-owner.invariant w z h) _ c.index-place.ensures _ c.index.ensures _ c.force_at.ensures _ c.in_ok-push.ensures.items

pub returns : goal.returns
returns c = λ w z h. ends w z _ h _ c.deref-owner-items.ensures.value _ _ _ (omega arith) (c.loop-owner.invariant w z h)
