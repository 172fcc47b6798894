use Rattle.std.proofs.Common.{◌/◌, ◌%◌, ◌^◌, map, ap, ◌∙◌}
use Rattle.std.specs.Prelude.{slice_index_or}
use Rattle.octree_build.proofs.Placed.{all_along}
use Rattle.octree_build.proofs.order.in_order.Goals as goal

pub returns : goal.returns
returns c = all_along c.args.bodies.now c.in_ok-numbers.numbers.items c.in_ok-keys.keys.items c.in_ok-copies.copies.items c.requires c.in_ok-numbers.ensures
    (c.in_ok-keys.ensures ∙ ap (map (λ n. n / 2 ^ 20)) c.deref-2.ensures.value)
    (λ d. c.in_ok-copies.ensures d ∙ ap (map (λ n. slice_index_or c.args.bodies.now (n % 2 ^ 20) d)) c.deref.ensures.value)
