use Rattle.std.proofs.Common.{◌/◌, ◌%◌, ◌^◌, map, refl, ap, ◌∙◌}
use Rattle.std.specs.Prelude.{slice_index_or}
use Rattle.octree_build.proofs.Placed.{all_along}
use Rattle.rank_exchange.proofs.along.along.Goals as goal

pub returns : goal.returns
returns c = (all_along c.args.bodies.now c.in_ok-numbers.numbers.items (map (λ n. n / 2 ^ 20) c.in_ok-numbers.numbers.items) c.in_ok-along.along.items c.requires c.in_ok-numbers.ensures refl
    (λ d. c.in_ok-along.ensures d ∙ ap (map (λ n. slice_index_or c.args.bodies.now (n % 2 ^ 20) d)) c.deref.ensures.value)).along
