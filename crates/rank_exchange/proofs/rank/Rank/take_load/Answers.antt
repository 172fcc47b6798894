use Rattle.std.proofs.Common.{refl, sym, ◌∙◌}
use Rattle.rank_laws.specs.Machine.{Table, Sums, Members, Parts, Reply}
use Rattle.rank_exchange.proofs.Ranked.{none_answered}
use Rattle.rank_exchange.proofs.Takes.{brings_ask, brings_members, brings_parts, brings_reply, brings_sums, brings_table, brings_want}
use Rattle.rank_exchange.proofs.rank.Rank.take_load.Goals as goal

pub take_table-requires : goal.take_table-requires
take_table-requires c = (c.requires.0, (brings_table c.requires.0 c.args.load c.args.from c.args.self.now c.requires.1 c.in-Entries.entries c.in-Entries.is).0)

pub take_sums-requires : goal.take_sums-requires
take_sums-requires c = (c.requires.0, (brings_sums c.requires.0 c.args.load c.args.from c.args.self.now c.requires.1 c.in-Sums.sums c.in-Sums.is).0)

pub take_want-requires : goal.take_want-requires
take_want-requires c = (c.requires.0, (brings_want c.requires.0 c.args.load c.args.from c.args.self.now c.requires.1 c.in-Cells.cells c.in-Cells.is).0)

pub take_members-requires : goal.take_members-requires
take_members-requires c = (c.requires.0, (brings_members c.requires.0 c.args.load c.args.from c.args.self.now c.requires.1 c.in-Members.members c.in-Members.is).0)

pub take_parts-requires : goal.take_parts-requires
take_parts-requires c = (c.requires.0, brings_parts c.requires.0 c.args.load c.args.from c.args.self.now c.requires.1 c.in-Shares.parts c.in-Shares.is)

pub take_ask-requires : goal.take_ask-requires
take_ask-requires c = (c.requires.0, brings_ask c.requires.0 c.args.load c.args.from c.args.self.now c.requires.1 c.in-Cell.cell c.in-Cell.is)

pub take_reply-requires : goal.take_reply-requires
take_reply-requires c = (c.requires.0, brings_reply c.requires.0 c.args.load c.args.from c.args.self.now c.requires.1 c.in-Answer.entry c.in-Answer.is)
