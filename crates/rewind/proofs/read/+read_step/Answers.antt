use Rattle.std.proofs.Common.{◌≡◌, ◌≤◌, ◌+◌, ◌-◌, ◌*◌, ◌++◌, ◌∷◌, [], false, length, List, ℕ, ap, sym, ◌∙◌, subst, arith, rules}
use Rattle.nbody_model.specs.Evolve.{is_empty}
use Rattle.rewind_laws.specs.Bins.{step_at}
use Rattle.rewind.specs.Reading.{StepIsRead}
use Rattle.rewind.proofs.StepsRead.{alone_read, with_read, fault_at_record, handed_on, first_bad, second_bad, empty_is, full_is}
use Rattle.rewind.proofs.read.+read_step.Goals as goal

pub returns-in-Err-clause-err : goal.returns-in-Err-clause-err
returns-in-Err-clause-err t c = fault_at_record c.args.source.now.low_bin c.args.bin c.args.part.now c.args.source.now.bytes.now c.args.at c.in-Err.fault c.in-Err.ensures.err

pub returns-then-is_empty-clause-ok : goal.returns-then-is_empty-clause-ok
returns-then-is_empty-clause-ok t c =
    let ids : List ℕ = c.in-Ok.fast.items in
    let low : ℕ = c.args.source.now.low_bin in
    let bytes : List ℕ = c.args.source.now.bytes.now in
    let some : 1 ≤ c.args.bin = omega (arith, c.requires.low, c.requires.bin) in
    let none : ids ≡ [] = empty_is ids (search rules) in
    let more : c.push.new.self ≡ c.args.bins.now ++ ids ∷ [] = search rules in
    let long : length ids ≡ c.len.result = search rules in
    let r : StepIsRead low c.args.bin c.args.part.now bytes c.args.at c.args.bins.now (c.args.at + 4 + 8 * length ids) (c.args.bins.now ++ ids ∷ []) =
    alone_read low c.args.bin c.args.part.now bytes c.args.at ids c.args.bins.now some c.in-Ok.ensures.ok none in
    subst (λ xs. StepIsRead low c.args.bin c.args.part.now bytes c.args.at c.args.bins.now (c.args.at + 4 + 8 * c.len.result) xs) (sym more)
    (subst (λ n. StepIsRead low c.args.bin c.args.part.now bytes c.args.at c.args.bins.now (c.args.at + 4 + 8 * n) (c.args.bins.now ++ ids ∷ [])) long r)

pub returns-in-Err-read_step-clause-err : goal.returns-in-Err-read_step-clause-err
returns-in-Err-read_step-clause-err t c =
    let ids : List ℕ = c.in-Ok.fast.items in
    let low : ℕ = c.args.source.now.low_bin in
    let bytes : List ℕ = c.args.source.now.bytes.now in
    let some : 1 ≤ c.args.bin = omega (arith, c.requires.low, c.requires.bin) in
    let full : is_empty ids ≡ false = full_is ids (search rules) in
    let long : c.len.result ≡ length ids = search rules in
    let part : c.deref-2.result.now ≡ ids = search rules in
    handed_on (step_at low (c.args.bin - 1) c.deref-2.result.now bytes (c.args.at + 4 + 8 * c.len.result)) (step_at low c.args.bin c.args.part.now bytes c.args.at) c.in-Err-read_step.fault
    (λ place e. first_bad low c.args.bin c.args.part.now bytes c.args.at ids place some c.in-Ok.ensures.ok full ((λ i. step_at low (c.args.bin - 1) (sym part i) bytes (c.args.at + 4 + 8 * sym long i)) ∙ e)) c.in-Err-read_step.ensures.err

pub returns-in-Err-read_step-2-clause-err : goal.returns-in-Err-read_step-2-clause-err
returns-in-Err-read_step-2-clause-err t c =
    let ids : List ℕ = c.in-Ok.fast.items in
    let low : ℕ = c.args.source.now.low_bin in
    let bytes : List ℕ = c.args.source.now.bytes.now in
    let some : 1 ≤ c.args.bin = omega (arith, c.requires.low, c.requires.bin) in
    let full : is_empty ids ≡ false = full_is ids (search rules) in
    let long : c.len.result ≡ length ids = search rules in
    let part : c.deref-2.result.now ≡ ids = search rules in
    let again : c.deref-3.result.now ≡ ids = search rules in
    let one : StepIsRead low (c.args.bin - 1) ids bytes (c.args.at + 4 + 8 * length ids) c.args.bins.now c.in-Ok-read_step.middle c.read_step.new.bins =
    subst (λ n. StepIsRead low (c.args.bin - 1) ids bytes (c.args.at + 4 + 8 * n) c.args.bins.now c.in-Ok-read_step.middle c.read_step.new.bins) long
    (subst (λ G. StepIsRead low (c.args.bin - 1) G bytes (c.args.at + 4 + 8 * c.len.result) c.args.bins.now c.in-Ok-read_step.middle c.read_step.new.bins) part c.in-Ok-read_step.ensures.ok) in
    handed_on (step_at low (c.args.bin - 1) c.deref-3.result.now bytes c.in-Ok-read_step.middle) (step_at low c.args.bin c.args.part.now bytes c.args.at) c.in-Err-read_step-2.fault
    (λ place e.
    second_bad low c.args.bin c.args.part.now bytes c.args.at ids c.args.bins.now c.read_step.new.bins c.in-Ok-read_step.middle place some c.in-Ok.ensures.ok full one
    (ap (λ G. step_at low (c.args.bin - 1) G bytes c.in-Ok-read_step.middle) (sym again) ∙ e))
    c.in-Err-read_step-2.ensures.err

pub returns-clause-ok : goal.returns-clause-ok
returns-clause-ok t c =
    let ids : List ℕ = c.in-Ok.fast.items in
    let low : ℕ = c.args.source.now.low_bin in
    let bytes : List ℕ = c.args.source.now.bytes.now in
    let some : 1 ≤ c.args.bin = omega (arith, c.requires.low, c.requires.bin) in
    let full : is_empty ids ≡ false = full_is ids (search rules) in
    let long : c.len.result ≡ length ids = search rules in
    let part : c.deref-2.result.now ≡ ids = search rules in
    let again : c.deref-3.result.now ≡ ids = search rules in
    let more : c.push-2.new.self ≡ c.read_step-2.new.bins ++ ids ∷ [] = search rules in
    let one : StepIsRead low (c.args.bin - 1) ids bytes (c.args.at + 4 + 8 * length ids) c.args.bins.now c.in-Ok-read_step.middle c.read_step.new.bins =
    subst (λ n. StepIsRead low (c.args.bin - 1) ids bytes (c.args.at + 4 + 8 * n) c.args.bins.now c.in-Ok-read_step.middle c.read_step.new.bins) long
    (subst (λ G. StepIsRead low (c.args.bin - 1) G bytes (c.args.at + 4 + 8 * c.len.result) c.args.bins.now c.in-Ok-read_step.middle c.read_step.new.bins) part c.in-Ok-read_step.ensures.ok) in
    let two : StepIsRead low (c.args.bin - 1) ids bytes c.in-Ok-read_step.middle c.read_step.new.bins c.in-Ok-read_step-2.end c.read_step-2.new.bins =
    subst (λ G. StepIsRead low (c.args.bin - 1) G bytes c.in-Ok-read_step.middle c.read_step.new.bins c.in-Ok-read_step-2.end c.read_step-2.new.bins) again c.in-Ok-read_step-2.ensures.ok in
    subst (λ xs. StepIsRead low c.args.bin c.args.part.now bytes c.args.at c.args.bins.now c.in-Ok-read_step-2.end xs) (sym more)
    (with_read low c.args.bin c.args.part.now bytes c.args.at ids c.args.bins.now c.read_step.new.bins c.read_step-2.new.bins c.in-Ok-read_step.middle c.in-Ok-read_step-2.end some c.in-Ok.ensures.ok full one two)
