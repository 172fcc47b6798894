use Rattle.std.proofs.Common.{◌<◌, ◌∷◌, [], sym, subst, ◌∙◌, arith}
use Rattle.std.specs.List.{AllByRecursion}
use Rattle.model_laws.proofs.Among.{each-append}
use Rattle.octree_build.proofs.Opened.{blank}
use Rattle.octree_build.proofs.Placed.{mapped_more, all_mapped}
use Rattle.domain_split.specs.Splits.{owner_of, owners_of}
use Rattle.domain_split.proofs.owners.split.Goals as goal

pub loop-i-preserved : goal.loop-i-preserved
loop-i-preserved c = (
  c.in_ok-push.ensures.items ∙ mapped_more (owner_of c.args.ranks c.args.bodies.now) c.args.bodies.now c.loop-i.owners.items c.loop-i.i blank c.owner_at.result c.loop-i-test.true (c.owner_at.ensures.owner blank) c.loop-i.invariant.0,
  subst (AllByRecursion (λ o. o < c.args.ranks)) (sym c.in_ok-push.ensures.items) (each-append (λ o. o < c.args.ranks) c.loop-i.owners.items (c.owner_at.result ∷ []) c.loop-i.invariant.1 (c.owner_at.ensures.rank, tt)),
)

pub returns-clause-owners : goal.returns-clause-owners
unfolding owners_of
returns-clause-owners c = all_mapped (owner_of c.args.ranks c.args.bodies.now) c.args.bodies.now c.loop-i.owners.items c.loop-i.i (omega (arith, c.loop-i-test.false)) c.loop-i.invariant.0
