use Rattle.std.proofs.Common.{◌≡◌, suc, ◌+◌, arith, subst}
use Rattle.rank_walk.specs.Tables.{IsFresh}
use Rattle.rank_walk.proofs.Hears.{child_stands}
use Rattle.rank_walk.proofs.Making.{making_pushed}
use Rattle.rank_walk.proofs.opening.push_child.Goals as goal

pub slot_of-requires : goal.slot_of-requires
slot_of-requires g c = (c.requires.member.0, (c.requires.member.1.0, child_stands c.requires.member.0 c.args.cell c.child-child.result c.args.k c.child-child.ensures c.requires.member.1.1))

pub returns : goal.returns
returns g c = λ start z s e made.
    making_pushed z c.args.cell start (c.args.k + 1) c.args.k c.args.heard.now _ c.slot_of.result
    (let n : c.args.k + 1 ≡ suc c.args.k = omega arith in n) e
    (subst (λ d. IsFresh z d c.slot_of.result) c.child-child.ensures (c.slot_of.ensures z s (child_stands z c.args.cell c.child-child.result c.args.k c.child-child.ensures e)))
    c.in_ok-push.ensures.items c.in_ok-push-2.ensures.items c.in_ok-push-3.ensures.items c.in_ok-push-4.ensures.items made
