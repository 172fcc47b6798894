use Rattle.std.proofs.Common.{sym, subst}
use Rattle.std.specs.Result.{IfOk}
use Rattle.rank_laws.specs.Protocol.{Acts}
use Rattle.rank_field.specs.Machines.{HasHappened}
use Rattle.rank_field.proofs.Held.{can_deliver, can_do, moves_act, moves_come, ranks_held}
use Rattle.rank_field.proofs.machine.Machine.fire.Goals as goal

pub act_at-requires : goal.act_at-requires
act_at-requires c =
    let w = c.requires.0 in
    let z = c.requires.1.0 in
    let h = c.requires.1.1 in
    let v = c.args.self.now in
    let n = c.count_acting-acting.ensures.count w z (ranks_held w z v h.machine c.deref.result.now c.deref.ensures.value) in
    let at = c.nth_acting-number.ensures w z (ranks_held w z v h.machine c.deref-then-k-acting.result.now c.deref-then-k-acting.ensures.value) in
    (w, (z, can_do w z c.args.k v (Acts c.nth_acting-number.result) (moves_act w z c.args.k c.count_acting-acting.result c.nth_acting-number.result n c.if-k-acting.true at) h))

pub returns-then-k-acting-clause-fired : goal.returns-then-k-acting-clause-fired
returns-then-k-acting-clause-fired c = λ w z h.
    let v = c.args.self.now in
    let n = c.count_acting-acting.ensures.count w z (ranks_held w z v h.machine c.deref.result.now c.deref.ensures.value) in
    let at = c.nth_acting-number.ensures w z (ranks_held w z v h.machine c.deref-then-k-acting.result.now c.deref-then-k-acting.ensures.value) in
    let moves = moves_act w z c.args.k c.count_acting-acting.result c.nth_acting-number.result n c.if-k-acting.true at in
    subst (λ x. IfOk c.act_at.result (λ e. HasHappened w z x e v c.act_at.new.self)) (sym moves) (c.act_at.ensures.happened w z (can_do w z c.args.k v (Acts c.nth_acting-number.result) moves h))

pub deliver-requires : goal.deliver-requires
deliver-requires c =
    let w = c.requires.0 in
    let z = c.requires.1.0 in
    let h = c.requires.1.1 in
    let v = c.args.self.now in
    let n = c.count_acting-acting.ensures.count w z (ranks_held w z v h.machine c.deref.result.now c.deref.ensures.value) in
    (w, (z, can_deliver w z c.args.k v c.count_acting-acting.result n c.if-k-acting.false h))

pub returns-clause-fired : goal.returns-clause-fired
returns-clause-fired c = λ w z h.
    let v = c.args.self.now in
    let acting = c.count_acting-acting.result in
    let n = c.count_acting-acting.ensures.count w z (ranks_held w z v h.machine c.deref.result.now c.deref.ensures.value) in
    let comes = moves_come w z c.args.k acting n c.if-k-acting.false in
    subst (λ x. IfOk c.deliver.result (λ e. HasHappened w z x e v c.deliver.new.self)) (sym comes) (c.deliver.ensures.delivered w z (can_deliver w z c.args.k v acting n c.if-k-acting.false h))
