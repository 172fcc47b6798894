use Rattle.std.proofs.Common.{◌+◌, ap, sym, subst, ◌∙◌, ◌++◌, ◌∷◌, [], get_or, arith}
use Rattle.std.proofs.lemmas.Bool.{eq-eqb, ne_eqb}
use Rattle.octree_build.proofs.Opened.{blank}
use Rattle.home_cells.proofs.Divided.{AreHanded, none_handed, handed_more, handed_no_more, all_handed}
use Rattle.home_cells.proofs.tests.own_of.Goals.{then-owners-i+in_ok-push, else-owners-i}
use Rattle.home_cells.proofs.tests.own_of.Goals as goal

pub loop-i-init : goal.loop-i-init
loop-i-init c = none_handed c.args.bodies.now c.args.owners.now c.args.rank c.new-own.result.items c.new-own.ensures.items

pub loop-i-preserved : goal.loop-i-preserved
loop-i-preserved c = elim c.if-owners-i.branch [
  | then-owners-i+in_ok-push x ↦
      subst (AreHanded c.args.bodies.now c.args.owners.now c.args.rank (c.loop-i.i + 1))
      (sym (ap (λ v. v.items) x.own-is ∙ x.in_ok-push.ensures.items ∙ ap (λ b. c.loop-i.own.items ++ b ∷ []) (x.body_at.ensures blank)))
      (handed_more c.args.bodies.now c.args.owners.now c.args.rank c.loop-i.i blank c.loop-i.own.items c.loop-i-test.true c.requires c.loop-i.invariant (eq-eqb (get_or c.args.owners.now c.loop-i.i 0) c.args.rank x.if-owners-i.true))
  | else-owners-i x ↦
      subst (AreHanded c.args.bodies.now c.args.owners.now c.args.rank (c.loop-i.i + 1)) (sym (ap (λ v. v.items) x.own-is))
      (handed_no_more c.args.bodies.now c.args.owners.now c.args.rank c.loop-i.i blank c.loop-i.own.items c.loop-i-test.true c.requires c.loop-i.invariant (ne_eqb (get_or c.args.owners.now c.loop-i.i 0) c.args.rank x.if-owners-i.false))
]

pub returns : goal.returns
returns c = all_handed c.args.bodies.now c.args.owners.now c.args.rank c.loop-i.i c.loop-i.own.items (omega (arith, c.loop-i-test.false)) c.loop-i.invariant
