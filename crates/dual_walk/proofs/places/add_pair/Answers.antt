use Rattle.std.proofs.Common.{◌^◌, ap, ◌∙◌, ◌≡◌, arith, subst}
use Rattle.fixed_point.specs.declared.V3.{V3}
use Rattle.fixed_point.specs.Vectors.{IsBelow, sum_of}
use Rattle.dual_walk.specs.Places.{value_at}
use Rattle.dual_walk.proofs.Moves.{fits_lowered, moved_first, moved_second, read_back, read_front, sum_moved}
use Rattle.dual_walk.proofs.places.add_pair.Goals as goal

pub plus-lowered-requires : goal.plus-lowered-requires
plus-lowered-requires c =
    let e : value_at c.args.places.now c.args.j ≡ value_at c.split_at_mut-front.result.1.now 0 = ap (λ t. value_at t c.args.j) c.split_at_mut-front.ensures.value ∙ read_back c.split_at_mut-front.result.0.now c.split_at_mut-front.result.1.now c.args.j c.split_at_mut-front.ensures.front_len in
    fits_lowered (value_at c.split_at_mut-front.result.1.now 0) c.args.force c.negated.result c.negated.ensures (subst (IsBelow (2 ^ 112)) e c.requires.lowered) c.requires.force

pub plus-lowered-requires-else-i-j : goal.plus-lowered-requires-else-i-j
plus-lowered-requires-else-i-j c =
    let e : value_at c.args.places.now c.args.j ≡ value_at c.split_at_mut-front-else-i-j.result.0.now c.args.j = ap (λ t. value_at t c.args.j) c.split_at_mut-front-else-i-j.ensures.value ∙ read_front c.split_at_mut-front-else-i-j.result.0.now c.split_at_mut-front-else-i-j.result.1.now c.args.j c.args.i c.split_at_mut-front-else-i-j.ensures.front_len (omega arith) in
    fits_lowered (value_at c.split_at_mut-front-else-i-j.result.0.now c.args.j) c.args.force c.negated-else-i-j.result c.negated-else-i-j.ensures (subst (IsBelow (2 ^ 112)) e c.requires.lowered) c.requires.force

pub returns-then-i-j-clause-moved : goal.returns-then-i-j-clause-moved
returns-then-i-j-clause-moved c = moved_first c.args.places.now c.split_at_mut-front.result.0.now c.split_at_mut-front.result.1.now c.args.i c.args.j c.plus-raised.result c.plus-lowered.result c.args.force c.negated.result
    c.split_at_mut-front.ensures.value c.split_at_mut-front.ensures.front_len c.if-i-j.true c.plus-raised.ensures c.negated.ensures c.plus-lowered.ensures

pub returns-then-i-j-clause-kept : goal.returns-then-i-j-clause-kept
returns-then-i-j-clause-kept c = ap (λ ps. sum_of {X = V3} (λ v. v) ps) (returns-then-i-j-clause-moved c) ∙ sum_moved c.args.places.now c.args.i c.args.j c.args.force c.requires.first c.requires.second c.requires.differ

pub returns-else-i-j-clause-moved : goal.returns-else-i-j-clause-moved
returns-else-i-j-clause-moved c = moved_second c.args.places.now c.split_at_mut-front-else-i-j.result.0.now c.split_at_mut-front-else-i-j.result.1.now c.args.i c.args.j c.plus-raised-else-i-j.result c.plus-lowered-else-i-j.result c.args.force c.negated-else-i-j.result
    c.split_at_mut-front-else-i-j.ensures.value c.split_at_mut-front-else-i-j.ensures.front_len (omega arith) c.plus-raised-else-i-j.ensures c.negated-else-i-j.ensures c.plus-lowered-else-i-j.ensures

pub returns-else-i-j-clause-kept : goal.returns-else-i-j-clause-kept
returns-else-i-j-clause-kept c = ap (λ ps. sum_of {X = V3} (λ v. v) ps) (returns-else-i-j-clause-moved c) ∙ sum_moved c.args.places.now c.args.i c.args.j c.args.force c.requires.first c.requires.second c.requires.differ
