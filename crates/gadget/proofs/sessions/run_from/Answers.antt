use Rattle.std.proofs.Common.{rules, ◌≡◌, [], ◌∷◌}
use Rattle.nbody_model.specs.Tables.{Gravity}
use Rattle.param_file.specs.Settings.{setup_of}
use Rattle.rank_field.specs.Fields.{picks_of}
use Rattle.gadget.specs.Inputs.{inputs_of}
use Rattle.gadget.proofs.SameRun.{same_run, same_passes}
use Rattle.gadget.proofs.sessions.run_from.Goals as goal

pub returns-clause-ends : goal.returns-clause-ends
returns-clause-ends g c =
    let i = inputs_of c.args.inputs.now in
    let gravity : Gravity = record { setup = setup_of i.params; table = i.table } in
    let is : c.new-forces.result.kit.now ≡ gravity = search rules in
    same_run _ _ _ _ _ _ _ _ _ _ _ _ _ (search rules) (same_passes (picks_of g.K.Schedule) c.new-forces.result.kit.now gravity _ _ (c.new-forces.result.order.ghost_name ∷ []) is (search rules)) (search rules) (search rules) c.run.ensures.ends
