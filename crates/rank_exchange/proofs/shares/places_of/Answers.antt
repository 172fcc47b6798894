use Rattle.std.proofs.Common.{◌∙◌}
use Rattle.fixed_point.specs.Vectors.{origin}
use Rattle.cell_space.specs.Cells.{root_cell}
use Rattle.octree_build.proofs.Placed.{mapped_more}
use Rattle.rank_laws.specs.Contents.{Summed}
use Rattle.rank_exchange.specs.Sums.{place_of}
use Rattle.rank_exchange.proofs.shares.places_of.Goals as goal

pub loop-i-preserved : goal.loop-i-preserved
loop-i-preserved c = let blank : Summed = record { cell = root_cell; sum = origin } in
    c.in_ok-push.ensures.items ∙ mapped_more (λ (t : Summed). place_of t.cell) c.args.totals.now c.loop-i.places.items c.loop-i.i blank c.place_at.result c.loop-i-test.true (c.place_at.ensures blank) c.loop-i.invariant
