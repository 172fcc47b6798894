use Rattle.std.proofs.Common.{◌<◌, arith}
use Rattle.rank_laws.specs.Protocol.{happens}
use Rattle.rank_laws.specs.Machine.{machine}
use Rattle.rank_laws.specs.Whole.{rules_of}
use Rattle.rank_field.specs.Machines.{CanFire, enabled_in, move_of}
use Rattle.rank_field.proofs.tests.machines.fire_first.Goals as goal

pub fire-requires : goal.fire-requires
fire-requires c =
    let w = c.loop.invariant.0 in
    let z = c.loop.invariant.1.0 in
    let h = c.loop.invariant.1.1 in
    let some : 0 < enabled_in w z = omega (arith, c.if-enabled-eq0.false, c.enabled.ensures.enabled w z h) in
    (w, (z, record { machine = h; enabled = some }))

pub loop-preserved : goal.loop-preserved
loop-preserved c =
    let w = c.loop.invariant.0 in
    let z = c.loop.invariant.1.0 in
    let h = c.loop.invariant.1.1 in
    let some : 0 < enabled_in w z = omega (arith, c.if-enabled-eq0.false, c.enabled.ensures.enabled w z h) in
    let can : CanFire w z 0 c.loop.machine = record { machine = h; enabled = some } in
    (w, (happens (machine (rules_of w)) z (move_of w z 0), (c.in_ok-fire.ensures.fired w z can).machine))
