use Rattle.std.proofs.Common.{◌≡◌, ◌++◌, ◌∙◌, ap, sym, subst}
use Rattle.hilbert_keys.specs.Curve.{IsCell}
use Rattle.std.specs.List.{AllByRecursion}
use Rattle.rank_curve_laws.specs.Along.{keys_along}
use Rattle.rank_exchange.specs.Sums.{IsLight, cells_in, totals_of}
use Rattle.rank_exchange.proofs.HomeTotals.{are_light, totals_are}
use Rattle.rank_exchange.proofs.adding.home_totals.Goals as goal

pub totals_of-requires : goal.totals_of-requires
totals_of-requires c = subst IsLight (sym (c.deref.ensures.value ∙ c.in_ok-extend_from_slice.ensures.items)) (are_light c.requires.0 c.args.own.items c.args.others.now c.requires.1)

pub returns-clause-totals : goal.returns-clause-totals
returns-clause-totals c = λ m h.
    let same : c.deref.result.now ≡ c.args.own.items ++ c.args.others.now = c.deref.ensures.value ∙ c.in_ok-extend_from_slice.ensures.items in
    c.in_ok-totals.ensures.totals m.whole.keys.bounds ∙ ap (totals_of (keys_along m.whole.keys.bounds)) same
    ∙ totals_are m c.args.own.items c.args.others.now h (subst (λ t. AllByRecursion IsCell (cells_in t)) same c.in_ok-totals.ensures.boxed)
