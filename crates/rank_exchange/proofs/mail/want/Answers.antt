use Rattle.std.proofs.Common.{◌≡◌, List, [], ◌∷◌, map, refl, ap, ◌∙◌}
use Rattle.cell_space.specs.Cells.{CellData}
use Rattle.nbody_model.specs.Force.{node_total}
use Rattle.rank_laws.specs.Contents.{OfWant, wanted}
use Rattle.rank_laws.specs.Machine.{Want}
use Rattle.rank_laws.specs.Told.{told_kind}
use Rattle.rank_laws.specs.Whole.{Whole}
use Rattle.rank_exchange.specs.Sums.{cells_in}
use Rattle.rank_exchange.proofs.mail.want.Goals as goal

cells_back : (w : Whole) (cs : List CellData) → cells_in (map (λ c. record { cell = c; sum = node_total w.gravity w.bodies c }) cs) ≡ cs
cells_back w [] = refl
cells_back w (c ∷ cs) = ap (λ t. c ∷ t) (cells_back w cs)

pub returns : goal.returns
returns c = λ w e i. record { kind = told_kind Want; «from» = c.args.home; to = c.args.rank; contents = OfWant ((c.in_ok-cells.ensures ∙ ap cells_in e ∙ cells_back w (wanted w c.args.home)) i) }
