use Rattle.std.proofs.Common.{refl}
use Rattle.param_file.specs.Known.{known_by}
use Rattle.param_file.specs.declared.names.ParamName.TheVariants.{InitCondFile, SnapshotFileBase}
use Rattle.param_file.proofs.Accepted.{present}
use Rattle.param_file.proofs.Made.{is_params, gives}
use Rattle.param_file.proofs.reader.make_params.Goals as goal

pub name_of-requires : goal.name_of-requires
name_of-requires c = present (known_by c.args.known.now) InitCondFile c.requires.complete refl

pub name_of-requires-2 : goal.name_of-requires-2
name_of-requires-2 c = present (known_by c.args.known.now) SnapshotFileBase c.requires.complete refl

pub invariant_of-result : goal.invariant_of-result
invariant_of-result c = is_params (known_by c.args.known.now) _ c.requires (record {
  init_cond_file = c.in_ok-name_of.ensures;
  snapshot_file_base = c.in_ok-name_of-2.ensures;
  output_list_filename = c.in_ok-name_if_any.ensures;
  ewald_table_file = c.in_ok-name_if_any-2.ensures;
  restart_file_base = c.in_ok-name_of-3.ensures;
  kick_file = c.in_ok-name_of-4.ensures;
  rank_trace_file = c.in_ok-name_of-5.ensures;
  time_max = c.number_of.ensures;
  low_bin = c.number_of-2.ensures;
  top_bin = c.number_of-3.ensures;
  err_tol_theta = c.number_of-4.ensures;
  err_tol_int_accuracy = c.number_of-5.ensures;
  gravity_constant_internal = c.number_of-6.ensures;
  velocity_shift = c.number_of-7.ensures;
  softening_type1 = c.number_of-8.ensures;
  softening_type2 = c.number_of-9.ensures;
  softening_type3 = c.number_of-10.ensures;
  softening_type4 = c.number_of-11.ensures;
  softening_type5 = c.number_of-12.ensures;
  restart_every = c.number_of-13.ensures;
  rank_trace = c.number_of-14.ensures;
  delivery_seed = c.number_of-15.ensures;
  expansion_table_file = c.in_ok-name_if_any-3.ensures;
  bin_file = c.in_ok-name_if_any-4.ensures;
})

pub returns-clause-gives : goal.returns-clause-gives
returns-clause-gives c = gives (known_by c.args.known.now) _ c.requires (record {
  init_cond_file = c.in_ok-name_of.ensures;
  snapshot_file_base = c.in_ok-name_of-2.ensures;
  output_list_filename = c.in_ok-name_if_any.ensures;
  ewald_table_file = c.in_ok-name_if_any-2.ensures;
  restart_file_base = c.in_ok-name_of-3.ensures;
  kick_file = c.in_ok-name_of-4.ensures;
  rank_trace_file = c.in_ok-name_of-5.ensures;
  time_max = c.number_of.ensures;
  low_bin = c.number_of-2.ensures;
  top_bin = c.number_of-3.ensures;
  err_tol_theta = c.number_of-4.ensures;
  err_tol_int_accuracy = c.number_of-5.ensures;
  gravity_constant_internal = c.number_of-6.ensures;
  velocity_shift = c.number_of-7.ensures;
  softening_type1 = c.number_of-8.ensures;
  softening_type2 = c.number_of-9.ensures;
  softening_type3 = c.number_of-10.ensures;
  softening_type4 = c.number_of-11.ensures;
  softening_type5 = c.number_of-12.ensures;
  restart_every = c.number_of-13.ensures;
  rank_trace = c.number_of-14.ensures;
  delivery_seed = c.number_of-15.ensures;
  expansion_table_file = c.in_ok-name_if_any-3.ensures;
  bin_file = c.in_ok-name_if_any-4.ensures;
})

pub returns-clause-accepted : goal.returns-clause-accepted
returns-clause-accepted c = is_params (known_by c.args.known.now) _ c.requires (record {
  init_cond_file = c.in_ok-name_of.ensures;
  snapshot_file_base = c.in_ok-name_of-2.ensures;
  output_list_filename = c.in_ok-name_if_any.ensures;
  ewald_table_file = c.in_ok-name_if_any-2.ensures;
  restart_file_base = c.in_ok-name_of-3.ensures;
  kick_file = c.in_ok-name_of-4.ensures;
  rank_trace_file = c.in_ok-name_of-5.ensures;
  time_max = c.number_of.ensures;
  low_bin = c.number_of-2.ensures;
  top_bin = c.number_of-3.ensures;
  err_tol_theta = c.number_of-4.ensures;
  err_tol_int_accuracy = c.number_of-5.ensures;
  gravity_constant_internal = c.number_of-6.ensures;
  velocity_shift = c.number_of-7.ensures;
  softening_type1 = c.number_of-8.ensures;
  softening_type2 = c.number_of-9.ensures;
  softening_type3 = c.number_of-10.ensures;
  softening_type4 = c.number_of-11.ensures;
  softening_type5 = c.number_of-12.ensures;
  restart_every = c.number_of-13.ensures;
  rank_trace = c.number_of-14.ensures;
  delivery_seed = c.number_of-15.ensures;
  expansion_table_file = c.in_ok-name_if_any-3.ensures;
  bin_file = c.in_ok-name_if_any-4.ensures;
})
