-- What is written is read as it was.
use Rattle.std.proofs.Common.{◌≡◌, ℕ, ◌+◌, ◌<◌, ◌≤◌, ◌^◌, Bool, true, false, not, ◌&&◌, ◌||◌, List, [], ◌∷◌, ◌++◌, length, Option, None, Some, Ok, refl, sym, ap, subst, ◌∙◌, arith, cond}
use Rattle.std.specs.Prelude.{IfSome, option_map, nat_le}
use Rattle.std.specs.Option.{option_or}
use Rattle.std.specs.List.{find, list_all}
use Rattle.std.specs.Str.{bytes_eq}
use Rattle.std.proofs.lemmas.Bool.{and_parts}
use Rattle.std.proofs.lemmas.Bool.Decides.{nat_tests}
use Rattle.std.proofs.lemmas.Slice.Eq.{bytes_eq-Decides}
use Rattle.store_io.specs.Names.{is_name, is_visible}
use Rattle.text_words.specs.Comments.{lines_in}
use Rattle.param_file.specs.Known.{scan}
use Rattle.param_file.specs.Reading.{Said, said, said_from, all_said, as_value, default_said, fault_behind, stands, value_fault, word_of_row, Spell}
use Rattle.param_file.specs.Rows.{all_rows, default_of, name_of, range_of}
use Rattle.param_file.specs.Settings.{ParamsData, IsParams, Value, text, number, value_in}
use Rattle.param_file.specs.Writing.{params_text, word_of}
use Rattle.param_file.specs.declared.errors.ParamKind.TheVariants.{OutOfRange}
use Rattle.param_file.specs.declared.names.ParamName.{ParamName}
use Rattle.param_file.specs.declared.names.ParamName.TheVariants.{InitCondFile, SnapshotFileBase, OutputListFilename, EwaldTableFile, RestartFileBase, KickFile, RankTraceFile, TimeMax, LowBin, TopBin, ErrTolTheta, ErrTolIntAccuracy, GravityConstantInternal, VelocityShift, SofteningType1, SofteningType2, SofteningType3, SofteningType4, SofteningType5, RestartEvery, RankTrace, DeliverySeed, ExpansionTableFile, BinFile}
use Rattle.param_file.specs.declared.names.Range.TheVariants.{Name, Number}
use Rattle.param_file.proofs.Decimals.{decimal_is, decimal_visible, whole_decimal}
use Rattle.param_file.proofs.Plain.{IsPlain}
use Rattle.param_file.proofs.Scans.{scan_ok}
use Rattle.param_file.proofs.Table.{has, has_all, are_distinct, all_distinct, same_row, no_comment, name_plain, row_named_of}
use Rattle.param_file.proofs.Written.{row_lines, rows_lines, rows_cut}

-- a value of a row may be written, and is read as it was
record IsReadBack (row : ParamName) (v : Value) : Type 0 where
  plain : IsPlain (word_of v)
  fits : value_fault (range_of row) (word_of v) ≡ None
  means : as_value (range_of row) (word_of v) ≡ v

name_parts : (w : List ℕ) → is_name w ≡ true → IsPlain w
name_parts w e =
    let p = and_parts (nat_le 1 (length w) && nat_le (length w) 200) (list_all is_visible w) e in
    let q = and_parts (nat_le 1 (length w)) (nat_le (length w) 200) p.0 in
    record { some = some_bytes (length w) q.0; visible = p.1 }
  where
    some_bytes : (n : ℕ) → nat_le 1 n ≡ true → 0 < n
    some_bytes n h = grind (arith, nat_tests)

name_back : (row : ParamName) (w : List ℕ) → range_of row ≡ Name → is_name w ≡ true → IsReadBack row (text w)
name_back row w r e = record { plain = name_parts w e; fits = rw r (name_fits (is_name w) e); means = rw r refl }
  where
    name_fits : (b : Bool) → b ≡ true → cond b None (Some OutOfRange) ≡ None
    name_fits true e = refl
    name_fits false e = cc

number_back : (row : ParamName) (n low high : ℕ) → range_of row ≡ Number low high → low ≤ n → n ≤ high → n < 2 ^ 64 → IsReadBack row (number n)
number_back row n low high r l h b = record {
  plain = record { some = (decimal_is n b).some; visible = decimal_visible n b };
  fits = rw (r, whole_decimal n b) (fits_in low n high l h);
  means = rw r (ap number (decimal_is n b).value);
}
  where
    fits_in : (low n high : ℕ) → low ≤ n → n ≤ high → cond (nat_le low n && nat_le n high) None (Some OutOfRange) ≡ None
    fits_in low n high l h = grind (arith, nat_tests)

-- the values of rows that may be written
record AreReadBack (V : ParamName → Option Value) : Type 0 where
  each : (row : ParamName) → IfSome (V row) (λ v. IsReadBack row v)
  absent : (row : ParamName) → V row ≡ None → default_of row ≡ None

-- none of these rows stands among what is known
Free : List Said → List ParamName → Type 0
Free known rows = (y : ParamName) → has y rows ≡ true → stands known (name_of y) ≡ false

stands_push : (known : List Said) (s : Said) (name : List ℕ) → stands (known ++ s ∷ []) name ≡ (stands known name || bytes_eq s.name name)
stands_push [] s name = or_false (bytes_eq s.name name)
  where
    or_false : (b : Bool) → (b || false) ≡ b
    or_false true = refl
    or_false false = refl
stands_push (x ∷ known) s name =
    elim (bytes_eq x.name name) as (λ b. (b || stands (known ++ s ∷ []) name) ≡ ((b || stands known name) || bytes_eq s.name name))
    [ true ↦ refl | false ↦ stands_push known s name ]

none_free : (rows : List ParamName) → Free [] rows
unfolding Free
none_free rows y h = refl

free_rest : (known : List Said) (x : ParamName) (rows : List ParamName) → Free known (x ∷ rows) → Free known rows
unfolding Free
free_rest known x rows f y h = f y (or_from (bytes_eq (name_of x) (name_of y)) (has y rows) h)
  where
    or_from : (a b : Bool) → b ≡ true → (a || b) ≡ true
    or_from true b e = refl
    or_from false b e = e

free_more : (known : List Said) (x : ParamName) (rows : List ParamName) (s : Said) → s.name ≡ name_of x → are_distinct (x ∷ rows) ≡ true → Free known (x ∷ rows) → Free (known ++ s ∷ []) rows
unfolding Free
free_more known x rows s n d f y h =
    stands_push known s (name_of y)
    ∙ rw (free_rest known x rows f y h, n) (by (bytes_eq (name_of x) (name_of y)) refl)
  where
    no_other : not (has x rows) ≡ true
    no_other = (and_parts (not (has x rows)) (are_distinct rows) d).0

    by : (b : Bool) → bytes_eq (name_of x) (name_of y) ≡ b → b ≡ false
    by false e = refl
    by true e =
        let same : x ≡ y = same_row x y e in
        let here : has x rows ≡ true = subst (λ r. has r rows ≡ true) (sym same) h in
        let never : not true ≡ true = rw here at no_other in
        absurd (cc)

free_here : (known : List Said) (x : ParamName) (rows : List ParamName) → Free known (x ∷ rows) → stands known (name_of x) ≡ false
unfolding Free
free_here known x rows f = f x (or_first (bytes_eq (name_of x) (name_of x)) (has x rows) ((bytes_eq-Decides (name_of x) (name_of x)).1 refl))
  where
    or_first : (a b : Bool) → a ≡ true → (a || b) ≡ true
    or_first true b e = refl
    or_first false b e = cc

-- a written line is without fault behind lines that don't name its row
line_good : (known : List Said) (x : ParamName) (v : Value) → stands known (name_of x) ≡ false → IsReadBack x v → fault_behind known (name_of x ∷ word_of v ∷ []) ≡ None
line_good known x v f b = rw (no_comment x, row_named_of x, f) b.fits

line_said : (n : ℕ) (x : ParamName) (v : Value) → said n (name_of x ∷ word_of v ∷ []) ≡ Some (record { line = n; name = name_of x; value = word_of v })
line_said n x v = rw (no_comment x) refl

-- written lines are without fault
scan_written : (V : ParamName → Option Value) (rows : List ParamName) (n : ℕ) (known : List Said) → AreReadBack V → are_distinct rows ≡ true → Free known rows
    → (last : List Said) × (scan n known (rows_lines V rows) ≡ Ok last)
unfolding rows_lines row_lines
scan_written V [] n known a d f = (known, refl)
scan_written V (x ∷ rows) n known a d f = by (V x) refl (a.each x)
    (λ m k g. scan_written V rows m k a (and_parts (not (has x rows)) (are_distinct rows) d).1 g)
  where
    by : (o : Option Value) → V x ≡ o → IfSome (V x) (λ v. IsReadBack x v)
        → ((m : ℕ) (k : List Said) → Free k rows → (last : List Said) × (scan m k (rows_lines V rows) ≡ Ok last))
        → (last : List Said) × (scan n known (row_lines (name_of x) (V x) ++ rows_lines V rows) ≡ Ok last)
    by None e b more = rw e (more n known (free_rest known x rows f))
    by (Some v) e b more =
        rw (e, line_good known x v (free_here known x rows f) (rw e at b), line_said (n + 1) x v)
        (more (n + 1) (known ++ record { line = n + 1; name = name_of x; value = word_of v } ∷ []) (free_more known x rows _ refl d f))

found_in : ParamName → List Said → Option Said
found_in r known = find (λ s. bytes_eq s.name (name_of r)) known

-- a row without a value is found nowhere
found_none : (V : ParamName → Option Value) (r : ParamName) → V r ≡ None → (rows : List ParamName) (n : ℕ) → found_in r (said_from n (rows_lines V rows)) ≡ None
unfolding rows_lines row_lines found_in
found_none V r e [] n = refl
found_none V r e (x ∷ rows) n = by (V x) refl (λ m. found_none V r e rows m)
  where
    by : (o : Option Value) → V x ≡ o → ((m : ℕ) → found_in r (said_from m (rows_lines V rows)) ≡ None)
        → found_in r (said_from n (row_lines (name_of x) (V x) ++ rows_lines V rows)) ≡ None
    by None f more = rw f (more n)
    by (Some v) f more = rw (f, line_said (n + 1) x v) (other (bytes_eq (name_of x) (name_of r)) refl)
      where
        other : (b : Bool) → bytes_eq (name_of x) (name_of r) ≡ b
            → cond (bytes_eq (name_of x) (name_of r)) (Some (record { line = n + 1; name = name_of x; value = word_of v })) (found_in r (said_from (n + 1) (rows_lines V rows))) ≡ None
        other false g = rw g (more (n + 1))
        other true g =
            let same : V x ≡ V r = ap V (same_row x r g) in
            let never : Some v ≡ None = sym f ∙ same ∙ e in
            absurd (cc)

-- a row with a value is found with it
found_some : (V : ParamName → Option Value) (r : ParamName) (u : Value) → V r ≡ Some u → (rows : List ParamName) (n : ℕ) → has r rows ≡ true
    → option_map (λ s. s.value) (found_in r (said_from n (rows_lines V rows))) ≡ Some (word_of u)
unfolding rows_lines row_lines found_in
found_some V r u e [] n h = cc
found_some V r u e (x ∷ rows) n h = by (bytes_eq (name_of x) (name_of r)) refl h (λ m g. found_some V r u e rows m g)
  where
    by : (b : Bool) → bytes_eq (name_of x) (name_of r) ≡ b → (bytes_eq (name_of x) (name_of r) || has r rows) ≡ true
        → ((m : ℕ) → has r rows ≡ true → option_map (λ s. s.value) (found_in r (said_from m (rows_lines V rows))) ≡ Some (word_of u))
        → option_map (λ s. s.value) (found_in r (said_from n (row_lines (name_of x) (V x) ++ rows_lines V rows))) ≡ Some (word_of u)
    by true g k more =
        let f : V x ≡ Some u = ap V (same_row x r g) ∙ e in
        rw (f, line_said (n + 1) x u, g) refl
    by false g k more = here (V x) refl
      where
        rest : has r rows ≡ true
        rest = rw g at k

        here : (o : Option Value) → V x ≡ o → option_map (λ s. s.value) (found_in r (said_from n (row_lines (name_of x) (V x) ++ rows_lines V rows))) ≡ Some (word_of u)
        here None f = rw f (more n rest)
        here (Some v) f = rw (f, line_said (n + 1) x v, g) (more (n + 1) rest)

-- the value of each row is read as it was
value_back : (V : ParamName → Option Value) → AreReadBack V → (row : ParamName) → option_map (as_value (range_of row)) (word_of_row (all_said (rows_lines V all_rows)) row) ≡ V row
unfolding found_in
value_back V a row = by (V row) refl
  where
    none : (s : Option Said) (d : Option (List ℕ)) → s ≡ None → d ≡ None
        → option_map (as_value (range_of row)) (option_map (λ x. x.value) (option_or s (option_map (λ value. record { line = 0; name = name_of row; value = value }) d))) ≡ None
    none None None e f = refl
    none None (Some x) e f = cc
    none (Some s) d e f = cc

    some : (s d : Option Said) (u : Value) → option_map (λ x. x.value) s ≡ Some (word_of u) → as_value (range_of row) (word_of u) ≡ u
        → option_map (as_value (range_of row)) (option_map (λ x. x.value) (option_or s d)) ≡ Some u
    some None d u e f = cc
    some (Some s) d u e f = let same : s.value ≡ word_of u = cc in rw same (ap Some f)

    by : (o : Option Value) → V row ≡ o → option_map (as_value (range_of row)) (word_of_row (all_said (rows_lines V all_rows)) row) ≡ V row
    by None e = rw e (none (found_in row (all_said (rows_lines V all_rows))) (default_of row) (found_none V row e all_rows 0) (a.absent row e))
    by (Some u) e = rw e (some (found_in row (all_said (rows_lines V all_rows))) (default_said row) u (found_some V row u e all_rows 0 (has_all row)) (rw e at (a.each row)).means)

names_read_back : (row : ParamName) (o : Option (List ℕ)) → range_of row ≡ Name → IfSome o (λ w. is_name w ≡ true) → IfSome (option_map text o) (λ v. IsReadBack row v)
names_read_back row None r h = tt
names_read_back row (Some w) r h = name_back row w r h

params_read_back : (p : ParamsData) → IsParams p → AreReadBack (value_in p)
params_read_back p i = record { each = each; absent = absent }
  where
    each : (row : ParamName) → IfSome (value_in p row) (λ v. IsReadBack row v)
    each InitCondFile = name_back InitCondFile p.init_cond_file refl (i.named InitCondFile)
    each SnapshotFileBase = name_back SnapshotFileBase p.snapshot_file_base refl (i.named SnapshotFileBase)
    each OutputListFilename = names_read_back OutputListFilename p.output_list_filename refl (i.named OutputListFilename)
    each EwaldTableFile = names_read_back EwaldTableFile p.ewald_table_file refl (i.named EwaldTableFile)
    each RestartFileBase = name_back RestartFileBase p.restart_file_base refl (i.named RestartFileBase)
    each KickFile = name_back KickFile p.kick_file refl (i.named KickFile)
    each RankTraceFile = name_back RankTraceFile p.rank_trace_file refl (i.named RankTraceFile)
    each TimeMax = number_back TimeMax p.time_max 0 1099511627776 refl (omega arith) (omega (arith, i.time_max_high)) (omega (arith, i.time_max_high))
    each LowBin = number_back LowBin p.low_bin 1 20 refl (omega (arith, i.low_bin_low)) (omega (arith, i.low_bin_high)) (omega (arith, i.low_bin_high))
    each TopBin = number_back TopBin p.top_bin 1 20 refl (omega (arith, i.top_bin_low)) (omega (arith, i.top_bin_high)) (omega (arith, i.top_bin_high))
    each ErrTolTheta = number_back ErrTolTheta p.err_tol_theta 0 256 refl (omega arith) (omega (arith, i.err_tol_theta_high)) (omega (arith, i.err_tol_theta_high))
    each ErrTolIntAccuracy = number_back ErrTolIntAccuracy p.err_tol_int_accuracy 1 65536 refl (omega (arith, i.err_tol_int_accuracy_low)) (omega (arith, i.err_tol_int_accuracy_high)) (omega (arith, i.err_tol_int_accuracy_high))
    each GravityConstantInternal = number_back GravityConstantInternal p.gravity_constant_internal 0 4294967296 refl (omega arith) (omega (arith, i.gravity_constant_internal_high)) (omega (arith, i.gravity_constant_internal_high))
    each VelocityShift = number_back VelocityShift p.velocity_shift 0 40 refl (omega arith) (omega (arith, i.velocity_shift_high)) (omega (arith, i.velocity_shift_high))
    each SofteningType1 = number_back SofteningType1 p.softening_type1 256 1073741824 refl (omega (arith, i.softening_type1_low)) (omega (arith, i.softening_type1_high)) (omega (arith, i.softening_type1_high))
    each SofteningType2 = number_back SofteningType2 p.softening_type2 256 1073741824 refl (omega (arith, i.softening_type2_low)) (omega (arith, i.softening_type2_high)) (omega (arith, i.softening_type2_high))
    each SofteningType3 = number_back SofteningType3 p.softening_type3 256 1073741824 refl (omega (arith, i.softening_type3_low)) (omega (arith, i.softening_type3_high)) (omega (arith, i.softening_type3_high))
    each SofteningType4 = number_back SofteningType4 p.softening_type4 256 1073741824 refl (omega (arith, i.softening_type4_low)) (omega (arith, i.softening_type4_high)) (omega (arith, i.softening_type4_high))
    each SofteningType5 = number_back SofteningType5 p.softening_type5 256 1073741824 refl (omega (arith, i.softening_type5_low)) (omega (arith, i.softening_type5_high)) (omega (arith, i.softening_type5_high))
    each RestartEvery = number_back RestartEvery p.restart_every 0 1000000 refl (omega arith) (omega (arith, i.restart_every_high)) (omega (arith, i.restart_every_high))
    each RankTrace = number_back RankTrace p.rank_trace 0 1 refl (omega arith) (omega (arith, i.rank_trace_high)) (omega (arith, i.rank_trace_high))
    each DeliverySeed = number_back DeliverySeed p.delivery_seed 0 18446744073709551615 refl (omega arith) (omega (arith, i.delivery_seed_high)) (omega (arith, i.delivery_seed_high))
    each ExpansionTableFile = names_read_back ExpansionTableFile p.expansion_table_file refl (i.named ExpansionTableFile)
    each BinFile = names_read_back BinFile p.bin_file refl (i.named BinFile)

    absent : (row : ParamName) → value_in p row ≡ None → default_of row ≡ None
    absent InitCondFile e = refl
    absent SnapshotFileBase e = refl
    absent OutputListFilename e = refl
    absent EwaldTableFile e = refl
    absent RestartFileBase e = cc
    absent KickFile e = cc
    absent RankTraceFile e = cc
    absent TimeMax e = refl
    absent LowBin e = refl
    absent TopBin e = refl
    absent ErrTolTheta e = refl
    absent ErrTolIntAccuracy e = refl
    absent GravityConstantInternal e = refl
    absent VelocityShift e = refl
    absent SofteningType1 e = cc
    absent SofteningType2 e = cc
    absent SofteningType3 e = cc
    absent SofteningType4 e = cc
    absent SofteningType5 e = cc
    absent RestartEvery e = cc
    absent RankTrace e = cc
    absent DeliverySeed e = cc
    absent ExpansionTableFile e = refl
    absent BinFile e = refl

-- the written lines spell the settings
pub written_spells : (p : ParamsData) (out : List ℕ) → IsParams p → out ≡ params_text p → Spell (lines_in out) p
unfolding params_text rows_lines
written_spells p out i e =
    let a = params_read_back p i in
    let cut : lines_in out ≡ rows_lines (value_in p) all_rows = ap lines_in e ∙ rows_cut (value_in p) all_rows name_plain (plain a) in
    let scanned = scan_written (value_in p) all_rows 0 [] a all_distinct free_none in
    subst (λ lines. Spell lines p) (sym cut) (record {
      good = (scan_ok (rows_lines (value_in p) all_rows) scanned.0 scanned.1).0;
      values = value_back (value_in p) a;
      accepted = i;
    })
  where
    plain : AreReadBack (value_in p) → (row : ParamName) → IfSome (value_in p row) (λ v. IsPlain (word_of v))
    plain a row = if_plain (value_in p row) (a.each row)
      where
        if_plain : (o : Option Value) → IfSome o (λ v. IsReadBack row v) → IfSome o (λ v. IsPlain (word_of v))
        if_plain None h = tt
        if_plain (Some v) h = h.plain

    free_none : Free [] all_rows
    free_none = none_free all_rows
