-- Lines spell at most one settings, and then they have no fault.
use Rattle.std.proofs.Common.{◌≡◌, ℕ, Bool, true, false, not, List, [], ◌∷◌, length, get_or, Option, None, Some, Result, Ok, Err, refl, sym, ap, subst, ◌∙◌, arith, cond, inl, inr}
use Rattle.std.specs.Prelude.{IfSome, option_map, is_some}
use Rattle.std.specs.Option.{option_or}
use Rattle.std.specs.List.{find}
use Rattle.std.specs.Str.{bytes_eq}
use Rattle.std.proofs.lemmas.Bool.{and_parts}
use Rattle.text_words.specs.Comments.{Line}
use Rattle.param_file.specs.Known.{scan}
use Rattle.param_file.specs.Reading.{Said, all_said, as_value, is_absent, missing, number_of_row, stands, value_fault, word_of_row, AreBinsCrossed, AreGood, IsAtLine, IsClashing, IsFirstFault, Spell}
use Rattle.param_file.specs.Rows.{all_rows, default_of, is_required, name_of, name_rows, range_of}
use Rattle.param_file.specs.Settings.{ParamsData, Value, text, number, clash_at, clash_if_any, name_in, value_in}
use Rattle.param_file.specs.declared.errors.ParamKind.{ParamKind}
use Rattle.param_file.specs.declared.names.ParamName.{ParamName}
use Rattle.param_file.specs.declared.names.ParamName.TheVariants.{InitCondFile, SnapshotFileBase, OutputListFilename, EwaldTableFile, RestartFileBase, KickFile, RankTraceFile, TimeMax, LowBin, TopBin, ErrTolTheta, ErrTolIntAccuracy, GravityConstantInternal, VelocityShift, SofteningType1, SofteningType2, SofteningType3, SofteningType4, SofteningType5, RestartEvery, RankTrace, DeliverySeed, ExpansionTableFile, BinFile}
use Rattle.param_file.specs.declared.names.Range.TheVariants.{Name, Number}
use Rattle.param_file.proofs.Accepted.{number_in, present}
use Rattle.param_file.proofs.Fits.{scan_fits}
use Rattle.param_file.proofs.Made.{name_row}
use Rattle.param_file.proofs.Scans.{scan_ok, scan_err}

same_if_any : (a b : Option (List ℕ)) → option_map text a ≡ option_map text b → a ≡ b
same_if_any None None e = refl
same_if_any None (Some b) e = cc
same_if_any (Some a) None e = cc
same_if_any (Some a) (Some b) e = cc

same_text : (a b : List ℕ) → Some (text a) ≡ Some (text b) → a ≡ b
same_text a b e = cc

same_number : (a b : ℕ) → Some (number a) ≡ Some (number b) → a ≡ b
same_number a b e = cc

-- settings with the same values are the same
same_params : (p q : ParamsData) → ((row : ParamName) → value_in p row ≡ value_in q row) → p ≡ q
same_params p q e =
    let e_init_cond_file = same_text p.init_cond_file q.init_cond_file (e InitCondFile) in
    let e_snapshot_file_base = same_text p.snapshot_file_base q.snapshot_file_base (e SnapshotFileBase) in
    let e_output_list_filename = same_if_any p.output_list_filename q.output_list_filename (e OutputListFilename) in
    let e_ewald_table_file = same_if_any p.ewald_table_file q.ewald_table_file (e EwaldTableFile) in
    let e_restart_file_base = same_text p.restart_file_base q.restart_file_base (e RestartFileBase) in
    let e_kick_file = same_text p.kick_file q.kick_file (e KickFile) in
    let e_rank_trace_file = same_text p.rank_trace_file q.rank_trace_file (e RankTraceFile) in
    let e_time_max = same_number p.time_max q.time_max (e TimeMax) in
    let e_low_bin = same_number p.low_bin q.low_bin (e LowBin) in
    let e_top_bin = same_number p.top_bin q.top_bin (e TopBin) in
    let e_err_tol_theta = same_number p.err_tol_theta q.err_tol_theta (e ErrTolTheta) in
    let e_err_tol_int_accuracy = same_number p.err_tol_int_accuracy q.err_tol_int_accuracy (e ErrTolIntAccuracy) in
    let e_gravity_constant_internal = same_number p.gravity_constant_internal q.gravity_constant_internal (e GravityConstantInternal) in
    let e_velocity_shift = same_number p.velocity_shift q.velocity_shift (e VelocityShift) in
    let e_softening_type1 = same_number p.softening_type1 q.softening_type1 (e SofteningType1) in
    let e_softening_type2 = same_number p.softening_type2 q.softening_type2 (e SofteningType2) in
    let e_softening_type3 = same_number p.softening_type3 q.softening_type3 (e SofteningType3) in
    let e_softening_type4 = same_number p.softening_type4 q.softening_type4 (e SofteningType4) in
    let e_softening_type5 = same_number p.softening_type5 q.softening_type5 (e SofteningType5) in
    let e_restart_every = same_number p.restart_every q.restart_every (e RestartEvery) in
    let e_rank_trace = same_number p.rank_trace q.rank_trace (e RankTrace) in
    let e_delivery_seed = same_number p.delivery_seed q.delivery_seed (e DeliverySeed) in
    let e_expansion_table_file = same_if_any p.expansion_table_file q.expansion_table_file (e ExpansionTableFile) in
    let e_bin_file = same_if_any p.bin_file q.bin_file (e BinFile) in
    λ i. record {
      init_cond_file = e_init_cond_file i;
      snapshot_file_base = e_snapshot_file_base i;
      output_list_filename = e_output_list_filename i;
      ewald_table_file = e_ewald_table_file i;
      restart_file_base = e_restart_file_base i;
      kick_file = e_kick_file i;
      rank_trace_file = e_rank_trace_file i;
      time_max = e_time_max i;
      low_bin = e_low_bin i;
      top_bin = e_top_bin i;
      err_tol_theta = e_err_tol_theta i;
      err_tol_int_accuracy = e_err_tol_int_accuracy i;
      gravity_constant_internal = e_gravity_constant_internal i;
      velocity_shift = e_velocity_shift i;
      softening_type1 = e_softening_type1 i;
      softening_type2 = e_softening_type2 i;
      softening_type3 = e_softening_type3 i;
      softening_type4 = e_softening_type4 i;
      softening_type5 = e_softening_type5 i;
      restart_every = e_restart_every i;
      rank_trace = e_rank_trace i;
      delivery_seed = e_delivery_seed i;
      expansion_table_file = e_expansion_table_file i;
      bin_file = e_bin_file i;
    }

-- lines spell at most one settings
pub one_value : (lines : List Line) (p q : ParamsData) → Spell lines p → Spell lines q → p ≡ q
one_value lines p q s t = same_params p q (λ row. sym (s.values row) ∙ t.values row)

not_at_line : (lines : List Line) (line : ℕ) (kind : ParamKind) → AreGood lines (length lines) → IsAtLine lines line kind → ⊥
not_at_line lines line kind good f =
    let none = good f.index f.inside in
    let never = sym none ∙ f.is in
    absurd (cc)

find_some : (known : List Said) (rows : List ParamName) (row : ParamName) → find (is_absent known) rows ≡ Some row → is_absent known row ≡ true
find_some known [] row e = cc
find_some known (x ∷ rows) row e = by (is_absent known x) refl e (λ g. find_some known rows row g)
  where
    by : (b : Bool) → is_absent known x ≡ b → cond (is_absent known x) (Some x) (find (is_absent known) rows) ≡ Some row
        → (find (is_absent known) rows ≡ Some row → is_absent known row ≡ true) → is_absent known row ≡ true
    by true f g more = let same : x ≡ row = cc_of (rw f at g) in subst (λ r. is_absent known r ≡ true) same f
      where
        cc_of : Some x ≡ Some row → x ≡ row
        cc_of h = cc
    by false f g more = more (rw f at g)

stands_find : (known : List Said) (name : List ℕ) → stands known name ≡ false → find (λ s. bytes_eq s.name name) known ≡ None
stands_find [] name e = refl
stands_find (s ∷ known) name e = by (bytes_eq s.name name) refl e (λ g. stands_find known name g)
  where
    by : (b : Bool) → bytes_eq s.name name ≡ b → stands (s ∷ known) name ≡ false → (stands known name ≡ false → find (λ s. bytes_eq s.name name) known ≡ None)
        → cond (bytes_eq s.name name) (Some s) (find (λ s. bytes_eq s.name name) known) ≡ None
    by true f g more = let never = rw f at g in absurd (cc)
    by false f g more = rw f (more (rw f at g))

-- a required row has a value and no default
required_value : (p : ParamsData) (row : ParamName) → is_required row ≡ true → (default_of row ≡ None) × (is_some (value_in p row) ≡ true)
required_value p InitCondFile e = (refl, refl)
required_value p SnapshotFileBase e = (refl, refl)
required_value p OutputListFilename e = absurd (cc)
required_value p EwaldTableFile e = absurd (cc)
required_value p RestartFileBase e = absurd (cc)
required_value p KickFile e = absurd (cc)
required_value p RankTraceFile e = absurd (cc)
required_value p TimeMax e = (refl, refl)
required_value p LowBin e = (refl, refl)
required_value p TopBin e = (refl, refl)
required_value p ErrTolTheta e = (refl, refl)
required_value p ErrTolIntAccuracy e = (refl, refl)
required_value p GravityConstantInternal e = (refl, refl)
required_value p VelocityShift e = (refl, refl)
required_value p SofteningType1 e = absurd (cc)
required_value p SofteningType2 e = absurd (cc)
required_value p SofteningType3 e = absurd (cc)
required_value p SofteningType4 e = absurd (cc)
required_value p SofteningType5 e = absurd (cc)
required_value p RestartEvery e = absurd (cc)
required_value p RankTrace e = absurd (cc)
required_value p DeliverySeed e = absurd (cc)
required_value p ExpansionTableFile e = absurd (cc)
required_value p BinFile e = absurd (cc)

absent_parts : (known : List Said) (row : ParamName) → is_absent known row ≡ true → (is_required row ≡ true) × (stands known (name_of row) ≡ false)
unfolding is_absent
absent_parts known row e =
    let p = and_parts (is_required row) (not (stands known (name_of row))) e in
    (p.0, by (stands known (name_of row)) p.1)
  where
    by : (b : Bool) → not b ≡ true → b ≡ false
    by true f = cc
    by false f = refl

not_missing : (lines : List Line) (p : ParamsData) (row : ParamName) → Spell lines p → missing (all_said lines) ≡ Some row → ⊥
not_missing lines p row s e =
    let a = absent_parts (all_said lines) row (find_some (all_said lines) all_rows row e) in
    let v = required_value p row a.0 in
    let none = no_word (find (λ s. bytes_eq s.name (name_of row)) (all_said lines)) (default_of row) (stands_find (all_said lines) (name_of row) a.1) v.0 in
    by (value_in p row) (sym (s.values row) ∙ ap (option_map (as_value (range_of row))) none) v.1
  where
    no_word : (s : Option Said) (d : Option (List ℕ)) → s ≡ None → d ≡ None
        → option_map (λ x. x.value) (option_or s (option_map (λ value. record { line = 0; name = name_of row; value = value }) d)) ≡ None
    no_word None None e f = refl
    no_word None (Some x) e f = cc
    no_word (Some x) d e f = cc

    by : (o : Option Value) → o ≡ None → is_some o ≡ true → ⊥
    by None e f = absurd (cc)
    by (Some x) e f = absurd (cc)

number_is : (lines : List Line) (p : ParamsData) (row : ParamName) (low high n : ℕ) → Spell lines p → missing (all_said lines) ≡ None → is_required row ≡ true → range_of row ≡ Number low high
    → value_in p row ≡ Some (number n) → number_of_row (all_said lines) row ≡ n
number_is lines p row low high n s m r e v = by (scan 0 [] lines) refl
  where
    by : (r : Result (List Said) (ℕ × ParamKind)) → scan 0 [] lines ≡ r → number_of_row (all_said lines) row ≡ n
    by (Err fault) f = absurd (not_at_line lines fault.0 fault.1 s.good (scan_err lines fault.0 fault.1 f))
    by (Ok known) f =
        let whole = scan_ok lines known f in
        let fits = subst (λ k. IfSome (word_of_row k row) (λ word. value_fault (range_of row) word ≡ None)) whole.1 (scan_fits lines known f row) in
        let is = number_in (range_of row) (word_of_row (all_said lines) row) low high e fits (present (all_said lines) row m r) in
        same_number _ _ (sym is.value ∙ s.values row ∙ v)

not_crossed : (lines : List Line) (p : ParamsData) (line : ℕ) (kind : ParamKind) → Spell lines p → AreBinsCrossed lines line kind → ⊥
not_crossed lines p line kind s f =
    let low = number_is lines p LowBin 1 20 p.low_bin s f.complete refl refl refl in
    let top = number_is lines p TopBin 1 20 p.top_bin s f.complete refl refl refl in
    let crossed = f.crossed in
    let ordered = s.accepted.bins_ordered in
    omega arith

names_are : (lines : List Line) (p : ParamsData) → Spell lines p → (row : ParamName) → range_of row ≡ Name → word_of_row (all_said lines) row ≡ name_in p row
names_are lines p s InitCondFile r = same_if_any (word_of_row (all_said lines) InitCondFile) (Some p.init_cond_file) (s.values InitCondFile)
names_are lines p s SnapshotFileBase r = same_if_any (word_of_row (all_said lines) SnapshotFileBase) (Some p.snapshot_file_base) (s.values SnapshotFileBase)
names_are lines p s OutputListFilename r = same_if_any _ _ (s.values OutputListFilename)
names_are lines p s EwaldTableFile r = same_if_any _ _ (s.values EwaldTableFile)
names_are lines p s RestartFileBase r = same_if_any (word_of_row (all_said lines) RestartFileBase) (Some p.restart_file_base) (s.values RestartFileBase)
names_are lines p s KickFile r = same_if_any (word_of_row (all_said lines) KickFile) (Some p.kick_file) (s.values KickFile)
names_are lines p s RankTraceFile r = same_if_any (word_of_row (all_said lines) RankTraceFile) (Some p.rank_trace_file) (s.values RankTraceFile)
names_are lines p s TimeMax r = absurd (cc)
names_are lines p s LowBin r = absurd (cc)
names_are lines p s TopBin r = absurd (cc)
names_are lines p s ErrTolTheta r = absurd (cc)
names_are lines p s ErrTolIntAccuracy r = absurd (cc)
names_are lines p s GravityConstantInternal r = absurd (cc)
names_are lines p s VelocityShift r = absurd (cc)
names_are lines p s SofteningType1 r = absurd (cc)
names_are lines p s SofteningType2 r = absurd (cc)
names_are lines p s SofteningType3 r = absurd (cc)
names_are lines p s SofteningType4 r = absurd (cc)
names_are lines p s SofteningType5 r = absurd (cc)
names_are lines p s RestartEvery r = absurd (cc)
names_are lines p s RankTrace r = absurd (cc)
names_are lines p s DeliverySeed r = absurd (cc)
names_are lines p s ExpansionTableFile r = same_if_any _ _ (s.values ExpansionTableFile)
names_are lines p s BinFile r = same_if_any _ _ (s.values BinFile)

not_clashing : (lines : List Line) (p : ParamsData) (line : ℕ) (kind : ParamKind) → Spell lines p → IsClashing lines line kind → ⊥
not_clashing lines p line kind s f =
    let i = f.first_row in
    let j = f.second_row in
    let first = names_are lines p s (get_or name_rows i InitCondFile) (name_row i) in
    let second = names_are lines p s (get_or name_rows j InitCondFile) (name_row j) in
    let same : clash_at (word_of_row (all_said lines)) i j ≡ clash_at (name_in p) i j =
    ap (λ n. clash_if_any n (word_of_row (all_said lines) (get_or name_rows j InitCondFile))) first ∙ ap (clash_if_any (name_in p (get_or name_rows i InitCondFile))) second in
    let never : true ≡ false = sym f.first.clash ∙ same ∙ s.accepted.apart i j f.first.ordered f.first.inside in
    absurd (cc)

-- lines that spell settings have no fault
pub no_fault : (lines : List Line) (p : ParamsData) (line : ℕ) (kind : ParamKind) → Spell lines p → IsFirstFault lines line kind → ⊥
no_fault lines p line kind s (inl f) = not_at_line lines line kind s.good f
no_fault lines p line kind s (inr (inl f)) = not_missing lines p f.row s f.first
no_fault lines p line kind s (inr (inr (inl f))) = not_crossed lines p line kind s f
no_fault lines p line kind s (inr (inr (inr f))) = not_clashing lines p line kind s f
