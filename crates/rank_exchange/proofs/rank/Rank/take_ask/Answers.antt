use Rattle.std.proofs.Common.{◌≡◌, ◌∷◌, [], map, ap, sym, ◌∙◌, subst}
use Rattle.rank_laws.specs.Machine.{Ask, answers_of}
use Rattle.rank_laws.specs.Whole.{rules_of}
use Rattle.rank_exchange.specs.Messages.{filled}
use Rattle.home_cells.specs.Found.{IsHomeTable}
use Rattle.rank_exchange.proofs.Ranked.{ask_answered, ask_taken, table_at_ask}
use Rattle.rank_exchange.proofs.rank.Rank.take_ask.Goals as goal

pub reply-requires : goal.reply-requires
reply-requires c = (c.requires.0.moment.whole, subst (IsHomeTable c.requires.0.moment.whole c.args.self.now.table) c.requires.1.1 (table_at_ask c.requires.0 c.args.self.now c.requires.1.0))

pub returns : goal.returns
returns c = λ a h f e. record {
  rank = ask_taken a c.args.self.now h;
  answer = ask_answered a c.args.self.now h c.args.asker c.args.cell f e c.reply.result (c.reply.ensures a.moment.whole (subst (IsHomeTable a.moment.whole c.args.self.now.table) e (table_at_ask a c.args.self.now h)));
}
