use Rattle.std.proofs.Common.{◌^◌, min, fold, map, length, ap, ◌∙◌, arith}
use Rattle.std.proofs.lemmas.List.FromFn.{length-map-range_with_len}
use Rattle.octree_build.specs.Trees.{key_at}
use Rattle.rank_laws.specs.Owners.{handed_to}
use Rattle.domain_split.specs.Splits.{leasts}
use Rattle.domain_split.proofs.bounds.Bounds.of.Goals as goal

pub returns-clause-each : goal.returns-clause-each
returns-clause-each c = ap length c.in_ok-bounds.ensures ∙ length-map-range_with_len (λ r. fold min (2 ^ 96) (map key_at (handed_to c.args.bodies.now c.args.owner.now r))) 0 c.args.ranks

pub invariant_of-result : goal.invariant_of-result
invariant_of-result c =
    let e = ap length c.in_ok-bounds.ensures ∙ length-map-range_with_len (λ r. fold min (2 ^ 96) (map key_at (handed_to c.args.bodies.now c.args.owner.now r))) 0 c.args.ranks in
    record { some = omega (arith, e, c.requires.some); few = omega (arith, e, c.requires.few); rising = c.in_ok-rising.ensures ∙ ap leasts c.deref.ensures.value }
