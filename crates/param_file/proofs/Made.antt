-- Settings that are made of accepted lines, row by row.
use Rattle.std.proofs.Common.{◌≡◌, ℕ, zero, suc, ◌<◌, true, false, List, get_or, Some, refl, sym, ap, ◌∙◌, arith}
use Rattle.std.specs.Prelude.{IfSome, option_map}
use Rattle.store_io.specs.Names.{is_name}
use Rattle.param_file.specs.Checks.{AreApart, Gives, IsAccepted}
use Rattle.param_file.specs.Reading.{Said, as_value, number_of_row, word_of_row}
use Rattle.param_file.specs.Rows.{name_rows, range_of}
use Rattle.param_file.specs.Settings.{ParamsData, IsParams, clash_at, clash_if_any, name_in, number, value_in}
use Rattle.param_file.specs.declared.names.ParamName.{ParamName}
use Rattle.param_file.specs.declared.names.ParamName.TheVariants.{InitCondFile, SnapshotFileBase, OutputListFilename, EwaldTableFile, RestartFileBase, KickFile, RankTraceFile, TimeMax, LowBin, TopBin, ErrTolTheta, ErrTolIntAccuracy, GravityConstantInternal, VelocityShift, SofteningType1, SofteningType2, SofteningType3, SofteningType4, SofteningType5, RestartEvery, RankTrace, DeliverySeed, ExpansionTableFile, BinFile}
use Rattle.param_file.specs.declared.names.Range.TheVariants.{Name}
use Rattle.param_file.proofs.Accepted.{named_at, number_at, present, present_default}

-- each field has what the lines say of its row
pub record Matches (known : List Said) (p : ParamsData) : Type 0 where
  pub init_cond_file : word_of_row known InitCondFile ≡ Some p.init_cond_file
  pub snapshot_file_base : word_of_row known SnapshotFileBase ≡ Some p.snapshot_file_base
  pub output_list_filename : word_of_row known OutputListFilename ≡ p.output_list_filename
  pub ewald_table_file : word_of_row known EwaldTableFile ≡ p.ewald_table_file
  pub restart_file_base : word_of_row known RestartFileBase ≡ Some p.restart_file_base
  pub kick_file : word_of_row known KickFile ≡ Some p.kick_file
  pub rank_trace_file : word_of_row known RankTraceFile ≡ Some p.rank_trace_file
  pub time_max : p.time_max ≡ number_of_row known TimeMax
  pub low_bin : p.low_bin ≡ number_of_row known LowBin
  pub top_bin : p.top_bin ≡ number_of_row known TopBin
  pub err_tol_theta : p.err_tol_theta ≡ number_of_row known ErrTolTheta
  pub err_tol_int_accuracy : p.err_tol_int_accuracy ≡ number_of_row known ErrTolIntAccuracy
  pub gravity_constant_internal : p.gravity_constant_internal ≡ number_of_row known GravityConstantInternal
  pub velocity_shift : p.velocity_shift ≡ number_of_row known VelocityShift
  pub softening_type1 : p.softening_type1 ≡ number_of_row known SofteningType1
  pub softening_type2 : p.softening_type2 ≡ number_of_row known SofteningType2
  pub softening_type3 : p.softening_type3 ≡ number_of_row known SofteningType3
  pub softening_type4 : p.softening_type4 ≡ number_of_row known SofteningType4
  pub softening_type5 : p.softening_type5 ≡ number_of_row known SofteningType5
  pub restart_every : p.restart_every ≡ number_of_row known RestartEvery
  pub rank_trace : p.rank_trace ≡ number_of_row known RankTrace
  pub delivery_seed : p.delivery_seed ≡ number_of_row known DeliverySeed
  pub expansion_table_file : word_of_row known ExpansionTableFile ≡ p.expansion_table_file
  pub bin_file : word_of_row known BinFile ≡ p.bin_file

pub name_row : (i : ℕ) → range_of (get_or name_rows i InitCondFile) ≡ Name
name_row zero = refl
name_row (suc zero) = refl
name_row (suc (suc zero)) = refl
name_row (suc (suc (suc zero))) = refl
name_row (suc (suc (suc (suc zero)))) = refl
name_row (suc (suc (suc (suc (suc zero))))) = refl
name_row (suc (suc (suc (suc (suc (suc zero)))))) = refl
name_row (suc (suc (suc (suc (suc (suc (suc zero))))))) = refl
name_row (suc (suc (suc (suc (suc (suc (suc (suc zero)))))))) = refl
name_row (suc (suc (suc (suc (suc (suc (suc (suc (suc i))))))))) = refl

names_agree : (known : List Said) (p : ParamsData) → Matches known p → (row : ParamName) → range_of row ≡ Name → name_in p row ≡ word_of_row known row
names_agree known p m InitCondFile r = sym m.init_cond_file
names_agree known p m SnapshotFileBase r = sym m.snapshot_file_base
names_agree known p m OutputListFilename r = sym m.output_list_filename
names_agree known p m EwaldTableFile r = sym m.ewald_table_file
names_agree known p m RestartFileBase r = sym m.restart_file_base
names_agree known p m KickFile r = sym m.kick_file
names_agree known p m RankTraceFile r = sym m.rank_trace_file
names_agree known p m TimeMax r = absurd (cc)
names_agree known p m LowBin r = absurd (cc)
names_agree known p m TopBin r = absurd (cc)
names_agree known p m ErrTolTheta r = absurd (cc)
names_agree known p m ErrTolIntAccuracy r = absurd (cc)
names_agree known p m GravityConstantInternal r = absurd (cc)
names_agree known p m VelocityShift r = absurd (cc)
names_agree known p m SofteningType1 r = absurd (cc)
names_agree known p m SofteningType2 r = absurd (cc)
names_agree known p m SofteningType3 r = absurd (cc)
names_agree known p m SofteningType4 r = absurd (cc)
names_agree known p m SofteningType5 r = absurd (cc)
names_agree known p m RestartEvery r = absurd (cc)
names_agree known p m RankTrace r = absurd (cc)
names_agree known p m DeliverySeed r = absurd (cc)
names_agree known p m ExpansionTableFile r = sym m.expansion_table_file
names_agree known p m BinFile r = sym m.bin_file

names_apart : (known : List Said) (p : ParamsData) → Matches known p → AreApart known → (i j : ℕ) → i < j → j < 9 → clash_at (name_in p) i j ≡ false
names_apart known p m a i j l h =
    let first = names_agree known p m (get_or name_rows i InitCondFile) (name_row i) in
    let second = names_agree known p m (get_or name_rows j InitCondFile) (name_row j) in
    ap (λ n. clash_if_any n (name_in p (get_or name_rows j InitCondFile))) first ∙ ap (clash_if_any (word_of_row known (get_or name_rows i InitCondFile))) second ∙ a.apart i j l h

all_named : (known : List Said) (p : ParamsData) → IsAccepted known → Matches known p → (row : ParamName) → IfSome (name_in p row) (λ name. is_name name ≡ true)
all_named known p a m InitCondFile = named_at known a InitCondFile (Some p.init_cond_file) refl m.init_cond_file
all_named known p a m SnapshotFileBase = named_at known a SnapshotFileBase (Some p.snapshot_file_base) refl m.snapshot_file_base
all_named known p a m OutputListFilename = named_at known a OutputListFilename p.output_list_filename refl m.output_list_filename
all_named known p a m EwaldTableFile = named_at known a EwaldTableFile p.ewald_table_file refl m.ewald_table_file
all_named known p a m RestartFileBase = named_at known a RestartFileBase (Some p.restart_file_base) refl m.restart_file_base
all_named known p a m KickFile = named_at known a KickFile (Some p.kick_file) refl m.kick_file
all_named known p a m RankTraceFile = named_at known a RankTraceFile (Some p.rank_trace_file) refl m.rank_trace_file
all_named known p a m TimeMax = tt
all_named known p a m LowBin = tt
all_named known p a m TopBin = tt
all_named known p a m ErrTolTheta = tt
all_named known p a m ErrTolIntAccuracy = tt
all_named known p a m GravityConstantInternal = tt
all_named known p a m VelocityShift = tt
all_named known p a m SofteningType1 = tt
all_named known p a m SofteningType2 = tt
all_named known p a m SofteningType3 = tt
all_named known p a m SofteningType4 = tt
all_named known p a m SofteningType5 = tt
all_named known p a m RestartEvery = tt
all_named known p a m RankTrace = tt
all_named known p a m DeliverySeed = tt
all_named known p a m ExpansionTableFile = named_at known a ExpansionTableFile p.expansion_table_file refl m.expansion_table_file
all_named known p a m BinFile = named_at known a BinFile p.bin_file refl m.bin_file

pub is_params : (known : List Said) (p : ParamsData) → IsAccepted known → Matches known p → IsParams p
is_params known p a m = record {
  time_max_high = let n = number_at known a TimeMax 0 1099511627776 refl (present known TimeMax a.complete refl) in let high_end = n.high_end in omega (arith, m.time_max);
  low_bin_low = let n = number_at known a LowBin 1 20 refl (present known LowBin a.complete refl) in let low_end = n.low_end in omega (arith, m.low_bin);
  low_bin_high = let n = number_at known a LowBin 1 20 refl (present known LowBin a.complete refl) in let high_end = n.high_end in omega (arith, m.low_bin);
  top_bin_low = let n = number_at known a TopBin 1 20 refl (present known TopBin a.complete refl) in let low_end = n.low_end in omega (arith, m.top_bin);
  top_bin_high = let n = number_at known a TopBin 1 20 refl (present known TopBin a.complete refl) in let high_end = n.high_end in omega (arith, m.top_bin);
  err_tol_theta_high = let n = number_at known a ErrTolTheta 0 256 refl (present known ErrTolTheta a.complete refl) in let high_end = n.high_end in omega (arith, m.err_tol_theta);
  err_tol_int_accuracy_low = let n = number_at known a ErrTolIntAccuracy 1 65536 refl (present known ErrTolIntAccuracy a.complete refl) in let low_end = n.low_end in omega (arith, m.err_tol_int_accuracy);
  err_tol_int_accuracy_high = let n = number_at known a ErrTolIntAccuracy 1 65536 refl (present known ErrTolIntAccuracy a.complete refl) in let high_end = n.high_end in omega (arith, m.err_tol_int_accuracy);
  gravity_constant_internal_high = let n = number_at known a GravityConstantInternal 0 4294967296 refl (present known GravityConstantInternal a.complete refl) in let high_end = n.high_end in omega (arith, m.gravity_constant_internal);
  velocity_shift_high = let n = number_at known a VelocityShift 0 40 refl (present known VelocityShift a.complete refl) in let high_end = n.high_end in omega (arith, m.velocity_shift);
  softening_type1_low = let n = number_at known a SofteningType1 256 1073741824 refl (present_default known SofteningType1 refl) in let low_end = n.low_end in omega (arith, m.softening_type1);
  softening_type1_high = let n = number_at known a SofteningType1 256 1073741824 refl (present_default known SofteningType1 refl) in let high_end = n.high_end in omega (arith, m.softening_type1);
  softening_type2_low = let n = number_at known a SofteningType2 256 1073741824 refl (present_default known SofteningType2 refl) in let low_end = n.low_end in omega (arith, m.softening_type2);
  softening_type2_high = let n = number_at known a SofteningType2 256 1073741824 refl (present_default known SofteningType2 refl) in let high_end = n.high_end in omega (arith, m.softening_type2);
  softening_type3_low = let n = number_at known a SofteningType3 256 1073741824 refl (present_default known SofteningType3 refl) in let low_end = n.low_end in omega (arith, m.softening_type3);
  softening_type3_high = let n = number_at known a SofteningType3 256 1073741824 refl (present_default known SofteningType3 refl) in let high_end = n.high_end in omega (arith, m.softening_type3);
  softening_type4_low = let n = number_at known a SofteningType4 256 1073741824 refl (present_default known SofteningType4 refl) in let low_end = n.low_end in omega (arith, m.softening_type4);
  softening_type4_high = let n = number_at known a SofteningType4 256 1073741824 refl (present_default known SofteningType4 refl) in let high_end = n.high_end in omega (arith, m.softening_type4);
  softening_type5_low = let n = number_at known a SofteningType5 256 1073741824 refl (present_default known SofteningType5 refl) in let low_end = n.low_end in omega (arith, m.softening_type5);
  softening_type5_high = let n = number_at known a SofteningType5 256 1073741824 refl (present_default known SofteningType5 refl) in let high_end = n.high_end in omega (arith, m.softening_type5);
  restart_every_high = let n = number_at known a RestartEvery 0 1000000 refl (present_default known RestartEvery refl) in let high_end = n.high_end in omega (arith, m.restart_every);
  rank_trace_high = let n = number_at known a RankTrace 0 1 refl (present_default known RankTrace refl) in let high_end = n.high_end in omega (arith, m.rank_trace);
  delivery_seed_high = let n = number_at known a DeliverySeed 0 18446744073709551615 refl (present_default known DeliverySeed refl) in let high_end = n.high_end in omega (arith, m.delivery_seed);
  bins_ordered = omega (arith, a.ordered, m.low_bin, m.top_bin);
  named = all_named known p a m;
  apart = names_apart known p m a.apart;
}

pub gives : (known : List Said) (p : ParamsData) → IsAccepted known → Matches known p → Gives known p
gives known p a m = record { values = values }
  where
    values : (row : ParamName) → option_map (as_value (range_of row)) (word_of_row known row) ≡ value_in p row
    values InitCondFile = rw m.init_cond_file refl
    values SnapshotFileBase = rw m.snapshot_file_base refl
    values OutputListFilename = rw m.output_list_filename refl
    values EwaldTableFile = rw m.ewald_table_file refl
    values RestartFileBase = rw m.restart_file_base refl
    values KickFile = rw m.kick_file refl
    values RankTraceFile = rw m.rank_trace_file refl
    values TimeMax = (number_at known a TimeMax 0 1099511627776 refl (present known TimeMax a.complete refl)).value ∙ ap (λ n. Some (number n)) (sym m.time_max)
    values LowBin = (number_at known a LowBin 1 20 refl (present known LowBin a.complete refl)).value ∙ ap (λ n. Some (number n)) (sym m.low_bin)
    values TopBin = (number_at known a TopBin 1 20 refl (present known TopBin a.complete refl)).value ∙ ap (λ n. Some (number n)) (sym m.top_bin)
    values ErrTolTheta = (number_at known a ErrTolTheta 0 256 refl (present known ErrTolTheta a.complete refl)).value ∙ ap (λ n. Some (number n)) (sym m.err_tol_theta)
    values ErrTolIntAccuracy = (number_at known a ErrTolIntAccuracy 1 65536 refl (present known ErrTolIntAccuracy a.complete refl)).value ∙ ap (λ n. Some (number n)) (sym m.err_tol_int_accuracy)
    values GravityConstantInternal = (number_at known a GravityConstantInternal 0 4294967296 refl (present known GravityConstantInternal a.complete refl)).value ∙ ap (λ n. Some (number n)) (sym m.gravity_constant_internal)
    values VelocityShift = (number_at known a VelocityShift 0 40 refl (present known VelocityShift a.complete refl)).value ∙ ap (λ n. Some (number n)) (sym m.velocity_shift)
    values SofteningType1 = (number_at known a SofteningType1 256 1073741824 refl (present_default known SofteningType1 refl)).value ∙ ap (λ n. Some (number n)) (sym m.softening_type1)
    values SofteningType2 = (number_at known a SofteningType2 256 1073741824 refl (present_default known SofteningType2 refl)).value ∙ ap (λ n. Some (number n)) (sym m.softening_type2)
    values SofteningType3 = (number_at known a SofteningType3 256 1073741824 refl (present_default known SofteningType3 refl)).value ∙ ap (λ n. Some (number n)) (sym m.softening_type3)
    values SofteningType4 = (number_at known a SofteningType4 256 1073741824 refl (present_default known SofteningType4 refl)).value ∙ ap (λ n. Some (number n)) (sym m.softening_type4)
    values SofteningType5 = (number_at known a SofteningType5 256 1073741824 refl (present_default known SofteningType5 refl)).value ∙ ap (λ n. Some (number n)) (sym m.softening_type5)
    values RestartEvery = (number_at known a RestartEvery 0 1000000 refl (present_default known RestartEvery refl)).value ∙ ap (λ n. Some (number n)) (sym m.restart_every)
    values RankTrace = (number_at known a RankTrace 0 1 refl (present_default known RankTrace refl)).value ∙ ap (λ n. Some (number n)) (sym m.rank_trace)
    values DeliverySeed = (number_at known a DeliverySeed 0 18446744073709551615 refl (present_default known DeliverySeed refl)).value ∙ ap (λ n. Some (number n)) (sym m.delivery_seed)
    values ExpansionTableFile = rw m.expansion_table_file refl
    values BinFile = rw m.bin_file refl
