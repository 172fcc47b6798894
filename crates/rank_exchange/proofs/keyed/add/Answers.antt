use Rattle.std.proofs.Common.{◌∷◌, [], ◌++◌, sym, subst}
use Rattle.rank_exchange.specs.Keyed.{IsAdded}
use Rattle.rank_exchange.proofs.KeyedUp.{add_same, add_fresh, last_light}
use Rattle.rank_exchange.proofs.keyed.add.Goals as goal

pub returns-then-last-entry : goal.returns-then-last-entry
returns-then-last-entry c = λ es h n. subst (λ t. IsAdded (es ++ c.args.entry ∷ []) (c.args.out.now.items ++ t ∷ [])) (sym c.joined.ensures) (add_same es c.args.out.now.items c.args.last c.args.entry c.if-last-entry.true h)

pub joined-requires : goal.joined-requires
joined-requires c = last_light c.requires.0 c.args.out.now.items c.args.last c.args.entry c.if-last-entry.true c.requires.1 c.requires.3

pub returns : goal.returns
returns c = λ es h n. subst (λ t. IsAdded (es ++ c.args.entry ∷ []) (t ++ c.args.entry ∷ [])) (sym c.in_ok-push.ensures.items) (add_fresh es c.args.out.now.items c.args.last c.args.entry c.if-last-entry.false n h)
