use Rattle.rank_exchange.proofs.Hearing.{answered, awaits}
use Rattle.rank_exchange.proofs.walk.hear.Goals as goal

pub known_of-requires : goal.known_of-requires
known_of-requires c = (c.requires.0, (c.args.cell, answered c.requires.0 c.requires.1.0 c.args.walker.now c.args.cell c.args.answer c.requires.1.1))

pub hear-requires : goal.hear-requires
hear-requires c = record {
  seat = (
    c.requires.0,
    (
      c.requires.1.0,
      awaits c.requires.0 c.requires.1.0 c.args.walker.now c.args.cell c.args.answer c.requires.1.1 c.cell_key_range-first.result.0 c.cell_key_range-first.ensures.first c.known_of.result
          (c.known_of.ensures c.requires.0 c.args.cell (answered c.requires.0 c.requires.1.0 c.args.walker.now c.args.cell c.args.answer c.requires.1.1)),
    ),
  );
}

pub returns : goal.returns
returns c = λ z s a. c.hear.ensures z s
    (awaits z s c.args.walker.now c.args.cell c.args.answer a c.cell_key_range-first.result.0 c.cell_key_range-first.ensures.first c.known_of.result (c.known_of.ensures z c.args.cell (answered z s c.args.walker.now c.args.cell c.args.answer a)))
