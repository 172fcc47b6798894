use Rattle.std.proofs.Common.{◌∙◌, to_z-of_z}
use Rattle.std.specs.Int.{w128}
use Rattle.rank_exchange.proofs.shares.vector_at.Goals as goal

pub returns : goal.returns
returns c = λ d i. record {
  x = (to_z-of_z {w = w128} (record { sfits = c.axis_at-on_x.type_inv }) ∙ c.axis_at-on_x.ensures d) i;
  y = (to_z-of_z {w = w128} (record { sfits = c.axis_at-on_y.type_inv }) ∙ c.axis_at-on_y.ensures d) i;
  z = (to_z-of_z {w = w128} (record { sfits = c.axis_at-on_z.type_inv }) ∙ c.axis_at-on_z.ensures d) i;
}
