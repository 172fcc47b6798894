use Rattle.std.proofs.Common.{◌∙◌, ap, sym, subst}
use Rattle.nbody_model.specs.Tables.{ExpansionData, IsExpansion}
use Rattle.expansion_table.proofs.Parts.{rest_is, at_entry, after_entry, goes_on}
use Rattle.expansion_table.proofs.factors.sum_at.Goals as goal

pub returns-then-rest-eq0-clause-value : goal.returns-then-rest-eq0-clause-value
returns-then-rest-eq0-clause-value c =
    let same = ap (λ (e : ExpansionData). e.s) c.table.view_is in
    at_entry c.args.column c.args.table.now c.table.inside.s c.args.tick c.sum_of-here.result same c.sum_of-here.ensures (sym (rest_is c.args.tick c.table.inside.s c.ranges.tick.fits) ∙ c.if-rest-eq0.true)

pub overflow_sub-next : goal.overflow_sub-next
overflow_sub-next c =
    let same = ap (λ (e : ExpansionData). e.s) c.table.view_is in
    goes_on c.args.column c.args.table.now c.table.inside.s c.args.tick c.sum_of-here.result c.sum_of-next.result (subst IsExpansion c.table.view_is c.table.invariant) c.requires same c.sum_of-here.ensures c.sum_of-next.ensures
    (λ none. c.if-rest-eq0.false (rest_is c.args.tick c.table.inside.s c.ranges.tick.fits ∙ none))

pub returns-clause-value : goal.returns-clause-value
returns-clause-value c =
    let same = ap (λ (e : ExpansionData). e.s) c.table.view_is in
    after_entry c.args.column c.args.table.now c.table.inside.s c.args.tick c.sum_of-here.result c.sum_of-next.result c.from.result c.from-2.result same c.sum_of-here.ensures c.sum_of-next.ensures c.from.ensures
    (c.from-2.ensures ∙ rest_is c.args.tick c.table.inside.s c.ranges.tick.fits)
