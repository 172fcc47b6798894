use Rattle.std.proofs.Common.{refl, ap, sym, length, take, arith}
use Rattle.rank_field.proofs.Handing.{all_out, handed_on, long_handed, none_yet, owner_within}
use Rattle.rank_field.proofs.division.hand_out.Goals as goal

pub loop-i-init : goal.loop-i-init
loop-i-init c = none_yet c.args.ranks c.in_ok-lists.lists.items c.in_ok-lists.ensures

pub loop-i-preserved : goal.loop-i-preserved
loop-i-preserved c =
    handed_on c.args.bodies.now c.args.owners.now c.args.ranks c.loop-i.i c.index-bodies-i.result _ c.loop-i-test.true (omega (arith, c.loop-i-test.true, c.requires.each)) (sym c.index-bodies-i.is) refl
    (owner_within c.args.ranks c.args.owners.now c.loop-i.i c.requires.ranks (omega (arith, c.loop-i-test.true, c.requires.each))) c.loop-i.lists.items c.hand.new.lists.items c.loop-i.invariant c.in_ok-hand.ensures

pub hand-requires : goal.hand-requires
hand-requires c = omega (
  arith,
  owner_within c.args.ranks c.args.owners.now c.loop-i.i c.requires.ranks (omega (arith, c.loop-i-test.true, c.requires.each)),
  ap length c.loop-i.invariant,
  long_handed (take c.loop-i.i c.args.bodies.now) (take c.loop-i.i c.args.owners.now) c.args.ranks,
)

pub returns : goal.returns
returns c = all_out c.args.bodies.now c.args.owners.now c.args.ranks c.loop-i.i c.loop-i.lists.items c.loop-i-test.false c.requires.each c.loop-i.invariant
