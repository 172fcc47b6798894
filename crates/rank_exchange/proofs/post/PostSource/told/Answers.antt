use Rattle.rank_exchange.proofs.Telling.{asks, tells}
use Rattle.rank_exchange.proofs.post.PostSource.told.Goals as goal

pub known_at-requires : goal.known_at-requires
known_at-requires c = (c.requires.0, asks c.args.self.now c.requires.0 c.requires.1.0 c.args.cell c.requires.1.1 c.span-from.result.1 c.span-from.ensures.home)

pub returns : goal.returns
returns c = λ z v s. tells c.args.self.now z v c.args.cell c.span-from.result.0 c.span-from.result.1 c.cell_key_range-first.result.0 c.known_at.result c.span-from.ensures.home c.span-from.ensures.exact c.cell_key_range-first.ensures.first c.lies_in.result c.lies_in.ensures
    (c.known_at.ensures z (asks c.args.self.now z v c.args.cell s c.span-from.result.1 c.span-from.ensures.home))
