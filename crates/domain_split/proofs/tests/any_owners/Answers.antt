use Rattle.std.proofs.Common.{◌+◌, ◌<◌, ◌∷◌, [], subst, sym, ap, ◌∙◌, length, arith}
use Rattle.std.specs.List.{AllByRecursion}
use Rattle.std.proofs.lemmas.List.{length_push}
use Rattle.model_laws.proofs.Among.{each-append}
use Rattle.domain_split.proofs.tests.any_owners.Goals as goal

pub loop-place-preserved : goal.loop-place-preserved
loop-place-preserved c = (
  ap length c.in_ok-push.ensures.items ∙ length_push c.loop-place.owners.items c.any_rank.result ∙ ap (λ t. t + 1) c.loop-place.invariant.0,
  subst (AllByRecursion (λ o. o < c.args.ranks)) (sym c.in_ok-push.ensures.items) (each-append (λ o. o < c.args.ranks) c.loop-place.owners.items (c.any_rank.result ∷ []) c.loop-place.invariant.1 (c.any_rank.ensures, tt)),
)

pub returns-clause-each : goal.returns-clause-each
returns-clause-each c = c.loop-place.invariant.0 ∙ omega (arith, c.loop-place-test.false, c.loop-place.auto._place-end)

pub returns-clause-ranks : goal.returns-clause-ranks
returns-clause-ranks c = c.loop-place.invariant.1
