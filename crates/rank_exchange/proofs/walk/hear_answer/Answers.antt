use Rattle.std.proofs.Common.{sym, subst}
use Rattle.rank_walk.specs.Walkers.{IsWalker, replied}
use Rattle.rank_exchange.specs.Walks.{AwaitsAnswer}
use Rattle.rank_exchange.proofs.Hearing.{answered}
use Rattle.rank_exchange.proofs.walk.hear_answer.Goals as goal

pub hear-requires : goal.hear-requires
hear-requires c = (
  c.requires.0,
  (
    c.requires.1.0,
    subst (λ t. AwaitsAnswer c.requires.0 c.requires.1.0 c.args.walker.now t c.args.answer) (sym (c.cell_of-cell.ensures c.requires.0 c.requires.1.1.0 (answered c.requires.0 c.requires.1.0 c.args.walker.now c.requires.1.1.0 c.args.answer c.requires.1.1.1)))
        c.requires.1.1.1,
  ),
)

pub returns : goal.returns
returns c = λ z s d a. subst (λ t. IsWalker z (replied s t) c.hear.new.walker) (c.cell_of-cell.ensures z d (answered z s c.args.walker.now d c.args.answer a))
    (c.hear.ensures z s (subst (λ t. AwaitsAnswer z s c.args.walker.now t c.args.answer) (sym (c.cell_of-cell.ensures z d (answered z s c.args.walker.now d c.args.answer a))) a))
