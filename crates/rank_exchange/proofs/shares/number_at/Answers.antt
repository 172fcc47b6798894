use Rattle.std.proofs.Common.{◌≡◌, ◌+◌, ◌*◌, ◌^◌, ◌<◌, get_or, ap, ◌∙◌, arith}
use Rattle.rank_exchange.specs.Shares.{index_of}
use Rattle.rank_exchange.proofs.Parted.{below_few, index_is}
use Rattle.rank_exchange.proofs.shares.number_at.Goals as goal

pub overflow_mul-result : goal.overflow_mul-result
overflow_mul-result c = let few : c.count_below-index.result < 2 ^ 32 = omega (arith, c.requires.few, c.count_below-index.ensures, below_few c.args.places.now c.place_of.result) in omega (arith, few)

pub overflow_add-result-2 : goal.overflow_add-result-2
overflow_add-result-2 c = let few : c.count_below-index.result < 2 ^ 32 = omega (arith, c.requires.few, c.count_below-index.ensures, below_few c.args.places.now c.place_of.result) in omega (arith, few, c.requires.place, c.requires.long)

pub returns-clause-value : goal.returns-clause-value
returns-clause-value c = λ ts d e.
    let i : c.count_below-index.result ≡ index_of ts c.parts_at-cell.result.0 = index_is ts c.parts_at-cell.result.0 c.args.places.now c.count_below-index.result c.place_of.result e c.place_of.ensures.value c.count_below-index.ensures in
    ap (λ t. t * 2 ^ 96 + (c.parts_at-cell.result.1 * 2 ^ 32 + c.args.i)) (i ∙ ap (index_of ts) (c.parts_at-cell.ensures.cell d)) ∙ ap (λ t. index_of ts (get_or c.args.kept.now c.args.i d).entry.cell * 2 ^ 96 + (t * 2 ^ 32 + c.args.i)) (c.parts_at-cell.ensures.id d)
