use Rattle.std.proofs.Common.{◌≡◌, ◌≤◌, None, subst, inr}
use Rattle.std.proofs.lemmas.Result.{err_from_is_err_and}
use Rattle.text_words.specs.Comments.{lines_in}
use Rattle.param_file.specs.Checks.{AreApart, Gives, IsBinFault, IsClashFault, IsMissingFault}
use Rattle.param_file.specs.Known.{known_by}
use Rattle.param_file.specs.Reading.{missing, number_of_row}
use Rattle.param_file.specs.declared.names.ParamName.TheVariants.{LowBin, TopBin}
use Rattle.param_file.proofs.Faults.{accepted, bin_fault, clash_fault, line_fault, missing_fault, spelled}
use Rattle.param_file.proofs.reader.read_params.Goals as goal

pub returns-in_err-known-clause-err : goal.returns-in_err-known-clause-err
returns-in_err-known-clause-err c =
    let p = err_from_is_err_and c.from_residual.result c.from_residual.ensures.1 in
    rw (p.1, p.2) (line_fault _ _ _ c.in_err-known.ensures.err)

pub returns-in_err-check_missing-clause-err : goal.returns-in_err-check_missing-clause-err
returns-in_err-check_missing-clause-err c =
    let p = err_from_is_err_and c.from_residual-in_err-check_missing.result c.from_residual-in_err-check_missing.ensures.1 in
    let e = c.in_err-check_missing.field-0.0 in
    let fault = subst (λ xs. IsMissingFault (known_by xs) e.line e.kind) c.deref.ensures.value c.in_err-check_missing.ensures.err in
    rw (p.1, p.2) (inr (missing_fault _ _ _ _ c.in_ok-known.ensures.ok fault))

pub returns-in_err-check_bins-clause-err : goal.returns-in_err-check_bins-clause-err
returns-in_err-check_bins-clause-err c =
    let p = err_from_is_err_and c.from_residual-in_err-check_bins.result c.from_residual-in_err-check_bins.ensures.1 in
    let e = c.in_err-check_bins.field-0.0 in
    let complete = subst (λ xs. missing (known_by xs) ≡ None) c.deref.ensures.value c.in_ok-check_missing.ensures.ok in
    let fault = subst (λ xs. IsBinFault (known_by xs) e.line e.kind) c.deref-2.ensures.value c.in_err-check_bins.ensures.err in
    rw (p.1, p.2) (inr (bin_fault _ _ _ _ c.in_ok-known.ensures.ok complete fault))

pub returns-in_err-check_clash-clause-err : goal.returns-in_err-check_clash-clause-err
returns-in_err-check_clash-clause-err c =
    let p = err_from_is_err_and c.from_residual-in_err-check_clash.result c.from_residual-in_err-check_clash.ensures.1 in
    let e = c.in_err-check_clash.field-0.0 in
    let complete = subst (λ xs. missing (known_by xs) ≡ None) c.deref.ensures.value c.in_ok-check_missing.ensures.ok in
    let ordered = subst (λ xs. number_of_row (known_by xs) LowBin ≤ number_of_row (known_by xs) TopBin) c.deref-2.ensures.value c.in_ok-check_bins.ensures.ok in
    let fault = subst (λ xs. IsClashFault (known_by xs) e.line e.kind) c.deref-3.ensures.value c.in_err-check_clash.ensures.err in
    rw (p.1, p.2) (inr (clash_fault _ _ _ _ c.in_ok-known.ensures.ok complete ordered fault))

pub make_params-requires : goal.make_params-requires
make_params-requires c =
    let complete = subst (λ xs. missing (known_by xs) ≡ None) c.deref.ensures.value c.in_ok-check_missing.ensures.ok in
    let ordered = subst (λ xs. number_of_row (known_by xs) LowBin ≤ number_of_row (known_by xs) TopBin) c.deref-2.ensures.value c.in_ok-check_bins.ensures.ok in
    let apart = subst (λ xs. AreApart (known_by xs)) c.deref-3.ensures.value c.in_ok-check_clash.ensures.ok in
    rw c.deref-4.ensures.value (accepted (lines_in c.args.bytes.now) _ c.in_ok-known.ensures.ok complete ordered apart)

pub returns-clause-ok : goal.returns-clause-ok
returns-clause-ok c =
    let gives = subst (λ xs. Gives (known_by xs) c.in_ok-make_params.field-0) c.deref-4.ensures.value c.in_ok-make_params.ensures.gives in
    spelled _ _ _ c.in_ok-known.ensures.ok gives c.in_ok-make_params.ensures.accepted
