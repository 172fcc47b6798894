use Rattle.std.proofs.Common.{◌∷◌, [], ◌++◌, sym, subst, ◌∙◌}
use Rattle.std.proofs.lemmas.Bool.{false≢true}
use Rattle.rank_exchange.specs.Sums.{IsAdded}
use Rattle.rank_exchange.proofs.AddedUp.{add_same, add_fresh, last_light}
use Rattle.rank_exchange.proofs.sums.add.Goals as goal

pub returns-then-of_one : goal.returns-then-of_one
returns-then-of_one c = λ es h n. subst (λ t. IsAdded (es ++ c.args.entry ∷ []) (c.args.out.now.items ++ t ∷ [])) (sym c.joined.ensures) (add_same es c.args.out.now.items c.args.last c.args.entry (c.of_one.ensures.0 c.if-of_one.true) h)

pub joined-requires : goal.joined-requires
joined-requires c = last_light c.requires.0 c.args.out.now.items c.args.last c.args.entry (c.of_one.ensures.0 c.if-of_one.true) c.requires.1 c.requires.3

pub returns : goal.returns
returns c = λ es h n. subst (λ t. IsAdded (es ++ c.args.entry ∷ []) (t ++ c.args.entry ∷ [])) (sym c.in_ok-push.ensures.items) (add_fresh es c.args.out.now.items c.args.last c.args.entry (λ e. false≢true (sym c.if-of_one.false ∙ c.of_one.ensures.1 e)) n h)
