-- The settings of a run, as data.
use Rattle.std.specs.Prelude.{◌≡◌, ℕ, ◌<◌, ◌≤◌, ◌^◌, Bool, false, ◌||◌, ◌&&◌, ◌==◌, nat_lt, IsTrue, List, [], ◌∷◌, length, get_or, take, Option, None, Some, IfSome, option_map}
use Rattle.std.specs.Str.{bytes_eq}
use Rattle.nbody_model.specs.Setups.{SetupData}
use Rattle.store_io.specs.Names.{is_name}
use Rattle.param_file.specs.Rows.{name_rows}
use Rattle.param_file.specs.declared.names.ParamName.{ParamName}
use Rattle.param_file.specs.declared.names.ParamName.TheVariants.{InitCondFile, SnapshotFileBase, OutputListFilename, EwaldTableFile, RestartFileBase, KickFile, RankTraceFile, TimeMax, LowBin, TopBin, ErrTolTheta, ErrTolIntAccuracy, GravityConstantInternal, VelocityShift, SofteningType1, SofteningType2, SofteningType3, SofteningType4, SofteningType5, RestartEvery, RankTrace, DeliverySeed, ExpansionTableFile, BinFile}

-- one field per row of the table of parameters, in its order
pub record ParamsData : Type 0 where
  pub init_cond_file : List ℕ
  pub snapshot_file_base : List ℕ
  pub output_list_filename : Option (List ℕ)
  pub ewald_table_file : Option (List ℕ)
  pub restart_file_base : List ℕ
  pub kick_file : List ℕ
  pub rank_trace_file : List ℕ
  pub time_max : ℕ
  pub low_bin : ℕ
  pub top_bin : ℕ
  pub err_tol_theta : ℕ
  pub err_tol_int_accuracy : ℕ
  pub gravity_constant_internal : ℕ
  pub velocity_shift : ℕ
  pub softening_type1 : ℕ
  pub softening_type2 : ℕ
  pub softening_type3 : ℕ
  pub softening_type4 : ℕ
  pub softening_type5 : ℕ
  pub restart_every : ℕ
  pub rank_trace : ℕ
  pub delivery_seed : ℕ
  pub expansion_table_file : Option (List ℕ)
  pub bin_file : Option (List ℕ)

-- the value of a row: a name of a file or a number
pub data Value : Type 0 where
  text : List ℕ → Value
  number : ℕ → Value

-- the value of each row, if it has one
abbrev pub value_in : ParamsData → ParamName → Option Value
value_in p InitCondFile = Some (text p.init_cond_file)
value_in p SnapshotFileBase = Some (text p.snapshot_file_base)
value_in p OutputListFilename = option_map text p.output_list_filename
value_in p EwaldTableFile = option_map text p.ewald_table_file
value_in p RestartFileBase = Some (text p.restart_file_base)
value_in p KickFile = Some (text p.kick_file)
value_in p RankTraceFile = Some (text p.rank_trace_file)
value_in p TimeMax = Some (number p.time_max)
value_in p LowBin = Some (number p.low_bin)
value_in p TopBin = Some (number p.top_bin)
value_in p ErrTolTheta = Some (number p.err_tol_theta)
value_in p ErrTolIntAccuracy = Some (number p.err_tol_int_accuracy)
value_in p GravityConstantInternal = Some (number p.gravity_constant_internal)
value_in p VelocityShift = Some (number p.velocity_shift)
value_in p SofteningType1 = Some (number p.softening_type1)
value_in p SofteningType2 = Some (number p.softening_type2)
value_in p SofteningType3 = Some (number p.softening_type3)
value_in p SofteningType4 = Some (number p.softening_type4)
value_in p SofteningType5 = Some (number p.softening_type5)
value_in p RestartEvery = Some (number p.restart_every)
value_in p RankTrace = Some (number p.rank_trace)
value_in p DeliverySeed = Some (number p.delivery_seed)
value_in p ExpansionTableFile = option_map text p.expansion_table_file
value_in p BinFile = option_map text p.bin_file

-- the name of a file that a row has, if it has one
abbrev pub name_in : ParamsData → ParamName → Option (List ℕ)
name_in p InitCondFile = Some p.init_cond_file
name_in p SnapshotFileBase = Some p.snapshot_file_base
name_in p OutputListFilename = p.output_list_filename
name_in p EwaldTableFile = p.ewald_table_file
name_in p RestartFileBase = Some p.restart_file_base
name_in p KickFile = Some p.kick_file
name_in p RankTraceFile = Some p.rank_trace_file
name_in p TimeMax = None
name_in p LowBin = None
name_in p TopBin = None
name_in p ErrTolTheta = None
name_in p ErrTolIntAccuracy = None
name_in p GravityConstantInternal = None
name_in p VelocityShift = None
name_in p SofteningType1 = None
name_in p SofteningType2 = None
name_in p SofteningType3 = None
name_in p SofteningType4 = None
name_in p SofteningType5 = None
name_in p RestartEvery = None
name_in p RankTrace = None
name_in p DeliverySeed = None
name_in p ExpansionTableFile = p.expansion_table_file
name_in p BinFile = p.bin_file

-- the second name begins with the first followed by `_` (95)
abbrev pub is_base_of : List ℕ → List ℕ → Bool
is_base_of base name = nat_lt (length base) (length name) && bytes_eq (take (length base) name) base && get_or name (length base) 0 == 95

-- two names are one, or one of them begins with the other followed by `_`
abbrev pub are_clashing : List ℕ → List ℕ → Bool
are_clashing v w = bytes_eq v w || is_base_of v w || is_base_of w v

abbrev pub clash_if_any : Option (List ℕ) → Option (List ℕ) → Bool
clash_if_any None w = false
clash_if_any (Some v) None = false
clash_if_any (Some v) (Some w) = are_clashing v w

-- the names of the i-th and the j-th row of names clash
abbrev pub clash_at : (ParamName → Option (List ℕ)) → ℕ → ℕ → Bool
clash_at names i j = clash_if_any (names (get_or name_rows i InitCondFile)) (names (get_or name_rows j InitCondFile))

-- every number lies in its range, the bins are in order, every name is one, and no two names clash
pub record IsParams (p : ParamsData) : Type 0 where
  pub time_max_high : p.time_max ≤ 2 ^ 40
  pub low_bin_low : 1 ≤ p.low_bin
  pub low_bin_high : p.low_bin ≤ 20
  pub top_bin_low : 1 ≤ p.top_bin
  pub top_bin_high : p.top_bin ≤ 20
  pub err_tol_theta_high : p.err_tol_theta ≤ 256
  pub err_tol_int_accuracy_low : 1 ≤ p.err_tol_int_accuracy
  pub err_tol_int_accuracy_high : p.err_tol_int_accuracy ≤ 65536
  pub gravity_constant_internal_high : p.gravity_constant_internal ≤ 2 ^ 32
  pub velocity_shift_high : p.velocity_shift ≤ 40
  pub softening_type1_low : 256 ≤ p.softening_type1
  pub softening_type1_high : p.softening_type1 ≤ 2 ^ 30
  pub softening_type2_low : 256 ≤ p.softening_type2
  pub softening_type2_high : p.softening_type2 ≤ 2 ^ 30
  pub softening_type3_low : 256 ≤ p.softening_type3
  pub softening_type3_high : p.softening_type3 ≤ 2 ^ 30
  pub softening_type4_low : 256 ≤ p.softening_type4
  pub softening_type4_high : p.softening_type4 ≤ 2 ^ 30
  pub softening_type5_low : 256 ≤ p.softening_type5
  pub softening_type5_high : p.softening_type5 ≤ 2 ^ 30
  pub restart_every_high : p.restart_every ≤ 1000000
  pub rank_trace_high : p.rank_trace ≤ 1
  pub delivery_seed_high : p.delivery_seed < 2 ^ 64
  pub bins_ordered : p.low_bin ≤ p.top_bin
  pub named : (row : ParamName) → IfSome (name_in p row) (λ name. IsTrue (is_name name))
  pub apart : (i j : ℕ) → i < j → j < 9 → clash_at (name_in p) i j ≡ false

-- the settings that fix forces and steps
abbrev pub setup_of : ParamsData → SetupData
setup_of p = record {
  time_max = p.time_max;
  low_bin = p.low_bin;
  top_bin = p.top_bin;
  theta = p.err_tol_theta;
  eta = p.err_tol_int_accuracy;
  gravity = p.gravity_constant_internal;
  velocity_shift = p.velocity_shift;
  soft = 256 ∷ p.softening_type1 ∷ p.softening_type2 ∷ p.softening_type3 ∷ p.softening_type4 ∷ p.softening_type5 ∷ [];
}
