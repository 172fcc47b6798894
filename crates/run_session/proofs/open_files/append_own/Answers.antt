use Rattle.std.proofs.Common.{◌∙◌, ◌∷◌}
use Rattle.store_io.proofs.Maps.{on_err_from}
use Rattle.std.proofs.lemmas.Result.{err_from_is_err_and}
use Rattle.run_session.proofs.Blamed.{among_first, among_last, among_middle}
use Rattle.run_session.proofs.OwnChanges.{appended, err_by, not_grown}
use Rattle.run_session.proofs.open_files.append_own.Goals as goal

pub returns-in_err-append_some-clause-err : goal.returns-in_err-append_some-clause-err
returns-in_err-append_some-clause-err g c =
    rw (← c.own.view_is, ← c.log.view_is) (on_err_from c.from_residual.result (λ t W told.
    appended _ _ _ _ _ _ (rw (← c.own.view_is) at c.requires.apart) ((rw c.deref.ensures.value at c.in_err-append_some.ensures.part) told) (not_grown _ _ _) (not_grown _ _ _) t W))

pub returns-in_err-append_if-clause-err : goal.returns-in_err-append_if-clause-err
returns-in_err-append_if-clause-err g c =
    let first = c.in_ok-append_some.ensures in
    rw (← c.own.view_is, ← c.log.view_is) (on_err_from c.from_residual-in_err-append_if.result (λ t W told.
    appended _ _ _ _ _ _ (rw (← c.own.view_is) at c.requires.apart) ((rw c.deref.ensures.value at first.part) told)
    ((rw c.deref-2.ensures.value at c.in_err-append_if.ensures.part) (first.tells ∙ told)) (not_grown _ _ _) t W))

pub returns-clause-err : goal.returns-clause-err
returns-clause-err g c =
    let first = c.in_ok-append_some.ensures in
    let second = c.in_ok-append_if.ensures in
    rw (← c.own.view_is, ← c.log.view_is) (on_err_from c.append_if-2.result (λ t W told.
    appended _ _ _ _ _ _ (rw (← c.own.view_is) at c.requires.apart) ((rw c.deref.ensures.value at first.part) told)
    ((rw c.deref-2.ensures.value at second.part) (first.tells ∙ told)) ((rw c.deref-3.ensures.value at c.append_if-2.ensures.part) (second.tells ∙ first.tells ∙ told)) t W))

pub returns-in_err-append_if-clause-fault : goal.returns-in_err-append_if-clause-fault
returns-in_err-append_if-clause-fault g c =
    let p = err_from_is_err_and c.from_residual-in_err-append_if.result c.from_residual-in_err-append_if.ensures.1 in
    rw (p.1, p.2, ← c.own.view_is) (among_middle _ _ _ _ c.in_err-append_if.ensures.fault)

pub returns-clause-fault : goal.returns-clause-fault
returns-clause-fault g c = rw (← c.own.view_is) (err_by c.append_if-2.result _ _ (λ e h. among_last (_ ∷ _) _ _ h) c.append_if-2.ensures.fault)
