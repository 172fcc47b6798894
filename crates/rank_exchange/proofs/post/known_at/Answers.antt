use Rattle.rank_exchange.proofs.Telling.{home_answers, home_table, known_here}
use Rattle.rank_exchange.proofs.post.known_at.Goals as goal

pub at-requires : goal.at-requires
at-requires c = (c.requires.0.whole, home_table c.args.post.now c.args.cell.now c.args.home c.requires.0 c.requires.1 c.if-home-post.false)

pub known_of-requires : goal.known_of-requires
known_of-requires c = (c.requires.0, (c.args.cell.now, home_answers c.args.post.now c.args.cell.now c.args.home c.requires.0 c.requires.1 c.if-home-post.false c.at.result (c.at.ensures c.requires.0.whole (home_table c.args.post.now c.args.cell.now c.args.home c.requires.0 c.requires.1 c.if-home-post.false))))

pub returns : goal.returns
returns c = λ z a. known_here c.args.post.now c.args.cell.now c.args.home z a c.if-home-post.false c.known_of.result
    (c.known_of.ensures z c.args.cell.now (home_answers c.args.post.now c.args.cell.now c.args.home z a c.if-home-post.false c.at.result (c.at.ensures z.whole (home_table c.args.post.now c.args.cell.now c.args.home z a c.if-home-post.false))))
