use Rattle.std.proofs.Common.{◌≡◌, ◌+◌, ◌-◌, ap, sym, ◌∙◌, subst, arith}
use Rattle.nbody_model.specs.declared.field.Field.{Field}
use Rattle.nbody_model.specs.Bodies.{only}
use Rattle.nbody_model.specs.Setups.{SetupData}
use Rattle.nbody_model.specs.States.{low_zeros}
use Rattle.nbody_model.specs.Evolve.{Asked, Going, tell}
use Rattle.kick_drift.specs.Parts.{AreAscending, ids_at}
use Rattle.step_engine.specs.Stands.{now}
use Rattle.step_engine.specs.Ends.{Makes}
use Rattle.step_engine.specs.Resumed.{deep_from, quick_places}
use Rattle.step_engine.proofs.Layers.{deep_ascending}
use Rattle.step_engine.proofs.rounds.first_forces.Goals as goal

pub ask-requires-clause-part : goal.ask-requires-clause-part
ask-requires-clause-part g c =
    let top = c.args.course.now.setup.now.top_bin in
    let ds = c.args.pause.now.depth.now in
    let v = low_zeros c.args.pause.now.tick in
    let tops = ap (λ (s : SetupData). s.top_bin) c.setup.view_is in
    let least : c.setup.inside.top_bin - c.zeros.result ≡ top - (v + 1) + 1 = omega (arith, tops, c.zeros.ensures.value, c.requires.inside.not_whole) in
    let fast : c.deref.result.now ≡ quick_places top ds (v + 1) = c.deref.ensures.value ∙ c.in-Ok.ensures ∙ ap (λ n. deep_from n 0 ds) least in
    subst (AreAscending c.args.set.now) (sym fast) (deep_ascending c.args.set.now (top - (v + 1) + 1) ds c.requires.inside.each)

pub returns-clause-makes : goal.returns-clause-makes
returns-clause-makes g c = λ w n tick.
    let top = c.args.course.now.setup.now.top_bin in
    let ds = c.args.pause.now.depth.now in
    let B = c.args.set.now in
    let v = low_zeros c.args.pause.now.tick in
    let tops = ap (λ (s : SetupData). s.top_bin) c.setup.view_is in
    let least : c.setup.inside.top_bin - c.zeros.result ≡ top - (v + 1) + 1 = omega (arith, tops, c.zeros.ensures.value, c.requires.inside.not_whole) in
    let fast : c.deref.result.now ≡ quick_places top ds (v + 1) = c.deref.ensures.value ∙ c.in-Ok.ensures ∙ ap (λ n. deep_from n 0 ds) least in
    let a = now B (g.F.Forces.gravity c.args.forces.now) (g.F.Forces.fixed c.args.forces.now) (g.F.Forces.state c.args.forces.now) (g.O.KickOut.faults c.args.out.now) (g.O.KickOut.yes c.args.out.now) (g.O.KickOut.took c.args.out.now) w in
    let z = now B (g.F.Forces.gravity c.ask.new.forces) (g.F.Forces.fixed c.ask.new.forces) (g.F.Forces.state c.ask.new.forces) (g.O.KickOut.faults c.ask.new.out) (g.O.KickOut.yes c.ask.new.out) (g.O.KickOut.took c.ask.new.out) w in
    subst (λ ps. Makes {T = Field} g.F.Forces.passes n 0 tick tick (λ stop p. Going (tell (Asked (only p.bodies (ids_at B ps))) p)) c.ask.result a z) fast (c.ask.ensures.makes w n tick)
