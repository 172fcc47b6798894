use Rattle.std.proofs.Common.{arith}
use Rattle.rank_laws.specs.Machine.{Table}
use Rattle.rank_exchange.proofs.Ranked.{one_due, table_taken}
use Rattle.rank_exchange.proofs.rank.Rank.take_table.Goals as goal

pub overflow_sub-self : goal.overflow_sub-self
overflow_sub-self c = one_due c.requires.0 Table (omega arith) c.requires.1.kind c.args.self.now.due.tables c.requires.1.rank.most.due.tables

pub returns : goal.returns
returns c = λ a h e. table_taken a c.args.self.now h c.args.entries.items _ e c.in_ok-keep.ensures.ok
