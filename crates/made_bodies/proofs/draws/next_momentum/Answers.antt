use Rattle.std.proofs.Common.{◌≡◌, ap, ◌∙◌, rules}
use Rattle.store_io.specs.SeededSchedule.{seed_of}
use Rattle.made_bodies.specs.Draws.{draw, momentum_of}
use Rattle.made_bodies.proofs.Drawing.{second_draw, third_draw, third_state}
use Rattle.made_bodies.proofs.draws.next_momentum.Goals as goal

pub returns-clause-value : goal.returns-clause-value
returns-clause-value c =
    let s = seed_of c.args.order.now in
    let x : c.momentum_of.result ≡ momentum_of (draw s 0) = c.momentum_of.ensures ∙ ap momentum_of c.next-x.ensures.value in
    let y : c.momentum_of-2.result ≡ momentum_of (draw s 1) = c.momentum_of-2.ensures ∙ ap momentum_of (second_draw s _ _ c.next-x.ensures.state c.next-y.ensures.value) in
    let z : c.momentum_of-3.result ≡ momentum_of (draw s 2) = c.momentum_of-3.ensures ∙ ap momentum_of (third_draw s _ _ _ c.next-x.ensures.state c.next-y.ensures.state c.next-z.ensures.value) in
    search (rules, x, y, z)

pub returns-clause-state : goal.returns-clause-state
returns-clause-state c = third_state (seed_of c.args.order.now) _ _ _ c.next-x.ensures.state c.next-y.ensures.state c.next-z.ensures.state
