use Rattle.std.proofs.Common.{◌∷◌}
use Rattle.std.proofs.lemmas.Result.{err_from_is_err_and}
use Rattle.run_session.proofs.Blamed.{among_last, among_middle}
use Rattle.run_session.proofs.OwnChanges.{err_by}
use Rattle.run_session.proofs.open_files.open_own.Goals as goal

pub returns-in_err-create_if-clause-fault : goal.returns-in_err-create_if-clause-fault
returns-in_err-create_if-clause-fault g c =
    let p = err_from_is_err_and c.from_residual-in_err-create_if.result c.from_residual-in_err-create_if.ensures.1 in
    rw (p.1, p.2, ← c.own.view_is) (among_middle _ _ _ _ c.in_err-create_if.ensures.fault)

pub returns-clause-fault : goal.returns-clause-fault
returns-clause-fault g c = rw (← c.own.view_is) (err_by c.open_bins.result _ _ (λ e h. among_last (_ ∷ _) _ _ h) c.open_bins.ensures.fault)
