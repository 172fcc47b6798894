use Rattle.std.proofs.Common.{false, ◌≡◌, refl, sym, subst}
use Rattle.nbody_model.specs.Session.{with_restart, SessionData, with_restart}
use Rattle.run_session.specs.Stages.{Matches, HasFiles, IsBrokenIn}
use Rattle.run_session.specs.Courses.{basis_of}
use Rattle.run_session.proofs.Syncing.{shown_at, told_at, told_state_at, told_files_at, files_same, breaks_showing, breaks_saving, running_is, due_is, kept_is, saves_is, answer_is, sync_ends}
use Rattle.run_session.specs.Worlds.{store_world}
use Rattle.run_session.specs.Causes.{fault_of}
use Rattle.run_session.proofs.sync.synchronise.Goals as goal

pub returns-in-Err-clause-err : goal.returns-in-Err-clause-err
returns-in-Err-clause-err g c = (
  false,
  λ gr fixed A fs d gs m.
      let C = basis_of gr c.args.course.now (g.S.Store.tells c.args.store.now) A in
      let passes = g.F.Forces.passes gr fixed in
      let y = g.Q.Stopper.yes c.args.stop.now in
      let l = g.Q.Stopper.left c.args.stop.now in
      let new = store_world g.S.Store c.show_if.new.store fs y l in
      let running = running_is C.plan d c.args.state c.args.course.now.params.now.time_max c.is_running-running.result m.state (λ i. (gs i).time_max) c.is_running-running.ensures in
      let due = due_is C.plan c.args.before d c.args.state c.shows-due.result c.is_running-running.result m.state running (c.shows-due.ensures C.plan refl) in
      breaks_showing C passes c.args.before d (fault_of c.in-Err.failure) new m.quiet.yes (subst (λ e. IsBrokenIn C passes e (fault_of c.in-Err.failure) new) due (c.in-Err.ensures.err gr fixed A fs y l d m)),
)

pub returns-in-Ok-save_if-clause-ok : goal.returns-in-Ok-save_if-clause-ok
returns-in-Ok-save_if-clause-ok g c = λ gr fixed A fs d gs m.
    let C = basis_of gr c.args.course.now (g.S.Store.tells c.args.store.now) A in
    let passes = g.F.Forces.passes gr fixed in
    let before = c.args.before in
    let y = g.Q.Stopper.yes c.args.stop.now in
    let l = g.Q.Stopper.left c.args.stop.now in
    let z = g.Q.Stopper.yes c.asks-stops.new.stop in
    let k = g.Q.Stopper.left c.asks-stops.new.stop in
    let one = store_world g.S.Store c.show_if.new.store fs y l in
    let two = store_world g.S.Store c.show_if.new.store fs z k in
    let new = store_world g.S.Store c.save_if.new.store fs z k in
    let running = running_is C.plan d c.args.state c.args.course.now.params.now.time_max c.is_running-running.result m.state (λ i. (gs i).time_max) c.is_running-running.ensures in
    let due = due_is C.plan before d c.args.state c.shows-due.result c.is_running-running.result m.state running (c.shows-due.ensures C.plan refl) in
    let kept = kept_is C.plan d c.args.state c.is_kept-kept.result c.is_running-running.result m.state running c.is_kept-kept.ensures in
    let saves = saves_is C.plan before d c.either-saves.result c.is_kept-kept.result c.asks-stops.result c.either-saves.ensures kept in
    let shown : Matches C passes (shown_at C.plan before d) c.in-Ok.shown one = subst (λ e. Matches C passes e c.in-Ok.shown one) due (c.in-Ok.ensures.ok gr fixed A fs y l d m) in
    let told : HasFiles C passes (told_at C.plan before d) two = files_same C passes (told_at C.plan before d) one two refl refl refl (told_files_at C passes before d one shown.files) in
    let same = told_state_at C.plan before d c.in-Ok.shown shown.state in
    let answer = answer_is C.plan before d c.is_running-running.result c.asks-stops.result y z l k running c.asks-stops.ensures in
    sync_ends C passes before d c.in-Ok.shown c.in-Ok-save_if.saved one new c.asks-stops.result shown answer c.in-Ok-save_if.ensures.cause.faults c.in-Ok-save_if.ensures.cause.last
    (subst (λ (e : SessionData). e.state ≡ c.in-Ok-save_if.saved) saves (c.in-Ok-save_if.ensures.state (told_at C.plan before d) same))
    (subst (λ e. HasFiles C passes e new) saves (subst (λ b. HasFiles (basis_of gr c.args.course.now b A) passes (with_restart c.either-saves.result (told_at C.plan before d)) new) c.in-Ok.ensures.tells
    (c.in-Ok-save_if.ensures.ok gr fixed A fs z k (told_at C.plan before d) same (subst (λ b. HasFiles (basis_of gr c.args.course.now b A) passes (told_at C.plan before d) two) (sym c.in-Ok.ensures.tells) told))))

pub returns-in-Err-save_if-clause-err : goal.returns-in-Err-save_if-clause-err
returns-in-Err-save_if-clause-err g c = (
  c.asks-stops.result,
  λ gr fixed A fs d gs m.
      let C = basis_of gr c.args.course.now (g.S.Store.tells c.args.store.now) A in
      let passes = g.F.Forces.passes gr fixed in
      let before = c.args.before in
      let y = g.Q.Stopper.yes c.args.stop.now in
      let l = g.Q.Stopper.left c.args.stop.now in
      let z = g.Q.Stopper.yes c.asks-stops.new.stop in
      let k = g.Q.Stopper.left c.asks-stops.new.stop in
      let one = store_world g.S.Store c.show_if.new.store fs y l in
      let two = store_world g.S.Store c.show_if.new.store fs z k in
      let new = store_world g.S.Store c.save_if.new.store fs z k in
      let running = running_is C.plan d c.args.state c.args.course.now.params.now.time_max c.is_running-running.result m.state (λ i. (gs i).time_max) c.is_running-running.ensures in
      let due = due_is C.plan before d c.args.state c.shows-due.result c.is_running-running.result m.state running (c.shows-due.ensures C.plan refl) in
      let kept = kept_is C.plan d c.args.state c.is_kept-kept.result c.is_running-running.result m.state running c.is_kept-kept.ensures in
      let saves = saves_is C.plan before d c.either-saves.result c.is_kept-kept.result c.asks-stops.result c.either-saves.ensures kept in
      let shown : Matches C passes (shown_at C.plan before d) c.in-Ok.shown one = subst (λ e. Matches C passes e c.in-Ok.shown one) due (c.in-Ok.ensures.ok gr fixed A fs y l d m) in
      let told : HasFiles C passes (told_at C.plan before d) two = files_same C passes (told_at C.plan before d) one two refl refl refl (told_files_at C passes before d one shown.files) in
      let same = told_state_at C.plan before d c.in-Ok.shown shown.state in
      let answer = answer_is C.plan before d c.is_running-running.result c.asks-stops.result y z l k running c.asks-stops.ensures in
      breaks_saving C passes before d (fault_of c.in-Err-save_if.failure) new c.in-Ok.shown one c.asks-stops.result shown answer
      (subst (λ e. IsBrokenIn C passes e (fault_of c.in-Err-save_if.failure) new) saves (subst (λ b. IsBrokenIn (basis_of gr c.args.course.now b A) passes (with_restart c.either-saves.result (told_at C.plan before d)) (fault_of c.in-Err-save_if.failure) new) c.in-Ok.ensures.tells
      (c.in-Err-save_if.ensures.err gr fixed A fs z k (told_at C.plan before d) same (subst (λ b. HasFiles (basis_of gr c.args.course.now b A) passes (told_at C.plan before d) two) (sym c.in-Ok.ensures.tells) told)))),
)
