use Rattle.std.proofs.Common.{◌≡◌, ◌++◌, map, ap, ◌∙◌, sym, subst}
use Rattle.rank_exchange.specs.Handed.{by_id}
use Rattle.rank_exchange.specs.Keyed.{IsLight}
use Rattle.rank_exchange.proofs.GatheredUp.{gives_up, parts_light}
use Rattle.rank_exchange.proofs.forces.gathered.Goals as goal

pub sums_of-requires : goal.sums_of-requires
sums_of-requires c =
    let same : c.in_ok-all.all.items ≡ map by_id (c.args.own.items ++ c.args.others.now) = c.in_ok-all.ensures ∙ ap (map by_id) (c.deref.ensures.value ∙ c.in_ok-extend_from_slice.ensures.items) in
    subst IsLight (sym same) (parts_light c.requires.0 c.args.own.items c.args.others.now c.requires.1)

pub returns-clause-sums : goal.returns-clause-sums
returns-clause-sums c = λ m h b.
    let same : c.in_ok-all.all.items ≡ map by_id (c.args.own.items ++ c.args.others.now) = c.in_ok-all.ensures ∙ ap (map by_id) (c.deref.ensures.value ∙ c.in_ok-extend_from_slice.ensures.items) in
    gives_up m c.args.own.items c.args.others.now h c.in_ok-all.all.items c.in_ok-sums.sums.items same c.in_ok-sums.ensures b
