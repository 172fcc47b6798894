use Rattle.std.proofs.Common.{◌-◌, ◌∙◌, Some, IfSome, ap, sym, subst, arith}
use Rattle.std.specs.Option.{option_copied}
use Rattle.nbody_model.specs.Tables.{Reaches}
use Rattle.nbody_model.specs.Factors.{factor}
use Rattle.expansion_table.specs.Columns.{sum_in}
use Rattle.expansion_table.proofs.Parts.{bounded, all_count}
use Rattle.expansion_table.proofs.factors.between.Goals as goal

reached : (c : goal.After-sum_at-in-Some) → Reaches c.in-Some.table.now c.args.to
reached c = subst (λ t. IfSome (option_copied t) (λ e. Reaches e c.args.to)) c.in-Some.is c.requires.reach

pub overflow_sub-result : goal.overflow_sub-result
overflow_sub-result c =
    omega (arith, c.sum_at.ensures.value, c.sum_at-in-Some.ensures.value, (bounded c.args.column (Some c.in-Some.table.now) c.args.from c.args.to c.requires.order (c.sum_at.ensures.sound, reached c)).0)

pub returns-in-Some-clause-small : goal.returns-in-Some-clause-small
returns-in-Some-clause-small c =
    omega (arith, c.sum_at.ensures.value, c.sum_at-in-Some.ensures.value, (bounded c.args.column (Some c.in-Some.table.now) c.args.from c.args.to c.requires.order (c.sum_at.ensures.sound, reached c)).1)

pub returns-in-None-clause-value : goal.returns-in-None-clause-value
returns-in-None-clause-value c =
    all_count c.args.column c.args.from c.args.to ∙ ap (λ t. factor (sum_in c.args.column) (option_copied t) c.args.to - factor (sum_in c.args.column) (option_copied t) c.args.from) (sym c.in-None.is)
