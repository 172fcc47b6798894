use Rattle.std.proofs.Common.{◌≡◌, ◌≤◌, ◌<◌, List, ℕ, ap, sym, ◌∙◌, subst, rules}
use Rattle.nbody_model.specs.Setups.{SetupData}
use Rattle.rewind_laws.specs.Back.{base_steps}
use Rattle.rewind_laws.specs.Bins.{step_at, steps_at}
use Rattle.rewind.specs.Reading.{StepIsRead}
use Rattle.rewind.proofs.StepsRead.{one_more, one_bad, all_read, handed_on}
use Rattle.rewind.proofs.read.read_steps.Goals as goal

pub returns-in-Err-clause-err : goal.returns-in-Err-clause-err
returns-in-Err-clause-err c =
    let s : SetupData = c.args.setup.now in
    let P : List ℕ = c.args.all.now in
    let bytes : List ℕ = c.args.source.now.bytes.now in
    let low : c.args.source.now.low_bin ≡ s.low_bin = c.requires.low in
    let top : c.setup.inside.top_bin ≡ s.top_bin = ap (λ (s : SetupData). s.top_bin) c.setup.view_is in
    let lt : c.loop-step._step < base_steps s = search rules in
    handed_on (step_at c.args.source.now.low_bin c.setup.inside.top_bin P bytes c.loop-step.at) (steps_at s (base_steps s) P bytes 8) c.in-Err.fault
    (λ place e. one_bad s P bytes c.loop-step._step c.loop-step.at place c.loop-step.bins lt c.loop-step.invariant ((λ i. step_at (sym low i) (sym top i) P bytes c.loop-step.at) ∙ e)) c.in-Err.ensures.err

pub loop-step-preserved : goal.loop-step-preserved
loop-step-preserved c =
    let s : SetupData = c.args.setup.now in
    let P : List ℕ = c.args.all.now in
    let bytes : List ℕ = c.args.source.now.bytes.now in
    let low : c.args.source.now.low_bin ≡ s.low_bin = c.requires.low in
    let top : c.setup.inside.top_bin ≡ s.top_bin = ap (λ (s : SetupData). s.top_bin) c.setup.view_is in
    let lt : c.loop-step._step < base_steps s = search rules in
    let r : StepIsRead s.low_bin s.top_bin P bytes c.loop-step.at c.loop-step.bins c.in-Ok.next c.read_step.new.bins =
    subst (λ n. StepIsRead n s.top_bin P bytes c.loop-step.at c.loop-step.bins c.in-Ok.next c.read_step.new.bins) low
    (subst (λ n. StepIsRead c.args.source.now.low_bin n P bytes c.loop-step.at c.loop-step.bins c.in-Ok.next c.read_step.new.bins) top c.in-Ok.ensures.ok) in
    one_more s P bytes c.loop-step._step c.loop-step.at c.in-Ok.next c.loop-step.bins c.read_step.new.bins lt c.loop-step.invariant r

pub returns-clause-ok : goal.returns-clause-ok
returns-clause-ok c =
    let s : SetupData = c.args.setup.now in
    let over : base_steps s ≤ c.loop-step._step = search rules in
    all_read s c.args.all.now c.args.source.now.bytes.now c.loop-step._step c.loop-step.at c.loop-step.bins over c.loop-step.invariant
