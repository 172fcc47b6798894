use Rattle.rank_laws.specs.Contents.{OfTable}
use Rattle.rank_laws.specs.Machine.{Table}
use Rattle.rank_laws.specs.Told.{told_kind}
use Rattle.rank_exchange.proofs.mail.table.Goals as goal

pub returns : goal.returns
returns c = λ w h i. record { kind = told_kind Table; «from» = c.args.rank; to = c.args.home; contents = OfTable (c.in_ok-entries.ensures w c.args.rank h i) }
