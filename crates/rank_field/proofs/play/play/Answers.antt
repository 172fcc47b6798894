use Rattle.std.proofs.Common.{◌≡◌, ◌+◌, length, ap, sym, ◌∙◌, arith}
use Rattle.std.proofs.lemmas.List.{length_push}
use Rattle.rank_field.specs.Fields.{picks_of}
use Rattle.rank_field.proofs.Picking.{begins, can_fire, ends, goes_on, gone_by_one, gone_so_far}
use Rattle.rank_field.proofs.play.play.Goals as goal

pub loop-alloc-init : goal.loop-alloc-init
loop-alloc-init g c = λ w z h. begins (picks_of g.K.Schedule) w z _ _ _ c.new-events.ensures.items h

pub returns-then-enabled-eq0-clause-played : goal.returns-then-enabled-eq0-clause-played
returns-then-enabled-eq0-clause-played g c = λ w z h.
    let so_far = c.loop-alloc.invariant w z h in
    ends (picks_of g.K.Schedule) w z _ _ _ _ so_far (sym (c.enabled-enabled.ensures.enabled w so_far.now so_far.machine) ∙ c.if-enabled-eq0.true)

pub fire-requires : goal.fire-requires
fire-requires g c =
    let w = c.requires.0 in
    let z = c.requires.1.0 in
    let so_far = c.loop-alloc.invariant w z c.requires.1.1 in
    (w, (so_far.now, can_fire (picks_of g.K.Schedule) w z _ _ _ _ so_far _ _ (c.enabled-enabled.ensures.enabled w so_far.now so_far.machine) c.pick-k.ensures.below))

pub loop-alloc-smaller : goal.loop-alloc-smaller
loop-alloc-smaller g c =
    let longer : length c.push.new.self.items ≡ length c.loop-alloc.events.items + 1 = ap length c.in_ok-push.ensures.items ∙ length_push _ _ in
    omega (arith, longer, c.push.new.self.small)

pub loop-alloc-preserved : goal.loop-alloc-preserved
loop-alloc-preserved g c = λ w z h.
    let p = picks_of g.K.Schedule in
    let so_far = c.loop-alloc.invariant w z h in
    let many = c.enabled-enabled.ensures.enabled w so_far.now so_far.machine in
    let fires = can_fire p w z _ _ _ _ so_far _ _ many c.pick-k.ensures.below in
    goes_on p w z _ _ _ _ so_far _ _ _ _ _ _ many c.pick-k.ensures.below c.pick-k.ensures.answer c.pick-k.ensures.after c.in_ok-push.ensures.items (c.in_ok-fire.ensures.fired w so_far.now fires)

pub returns-then-enabled-eq0-clause-gone_on : goal.returns-then-enabled-eq0-clause-gone_on
returns-then-enabled-eq0-clause-gone_on g c = λ w z h. gone_so_far (picks_of g.K.Schedule) w z _ _ _ _ (c.loop-alloc.invariant w z h)

pub returns-in_err-fire-clause-gone_on : goal.returns-in_err-fire-clause-gone_on
returns-in_err-fire-clause-gone_on g c = λ w z h.
    let so_far = c.loop-alloc.invariant w z h in
    gone_by_one (picks_of g.K.Schedule) w z _ _ _ _ so_far _ _ (c.enabled-enabled.ensures.enabled w so_far.now so_far.machine) (omega (arith, c.pick-k.ensures.below)) c.pick-k.ensures.after

pub returns-in_err-push-clause-gone_on : goal.returns-in_err-push-clause-gone_on
returns-in_err-push-clause-gone_on g c = λ w z h.
    let so_far = c.loop-alloc.invariant w z h in
    gone_by_one (picks_of g.K.Schedule) w z _ _ _ _ so_far _ _ (c.enabled-enabled.ensures.enabled w so_far.now so_far.machine) (omega (arith, c.pick-k.ensures.below)) c.pick-k.ensures.after
