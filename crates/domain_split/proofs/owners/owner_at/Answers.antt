use Rattle.std.proofs.Common.{◌*◌, ◌/◌, length, ap, arith}
use Rattle.std.proofs.lemmas.Nat.{mul-le}
use Rattle.octree_build.proofs.Opened.{blank}
use Rattle.domain_split.proofs.Counted.{place_is, place_small, owner_small}
use Rattle.domain_split.proofs.owners.owner_at.Goals as goal

is : goal.returns-clause-owner
is c = λ d. ap (λ t. t * c.args.ranks / length c.args.bodies.now) (place_is c.args.bodies.now c.args.sorted.now c.requires.bodies c.requires.sorted c.args.i d c.requires.place c.number_at.result c.count_below-place.result (c.number_at.ensures d) c.count_below-place.ensures)

pub overflow_mul-result : goal.overflow_mul-result
overflow_mul-result c =
    let p = place_is c.args.bodies.now c.args.sorted.now c.requires.bodies c.requires.sorted c.args.i blank c.requires.place c.number_at.result c.count_below-place.result (c.number_at.ensures blank) c.count_below-place.ensures in
    let s = place_small c.args.bodies.now c.args.sorted.now c.requires.bodies c.requires.sorted c.args.i blank c.requires.place in
    let m = mul-le c.count_below-place.result c.args.ranks 1048576 256 (omega (arith, p, s, c.requires.bodies.valid.few)) c.requires.few in
    omega (arith, m)

pub overflow_cast-result-2 : goal.overflow_cast-result-2
overflow_cast-result-2 c =
    let p = place_is c.args.bodies.now c.args.sorted.now c.requires.bodies c.requires.sorted c.args.i blank c.requires.place c.number_at.result c.count_below-place.result (c.number_at.ensures blank) c.count_below-place.ensures in
    let s = place_small c.args.bodies.now c.args.sorted.now c.requires.bodies c.requires.sorted c.args.i blank c.requires.place in
    let q = owner_small c.count_below-place.result c.args.ranks (length c.args.bodies.now) (omega (arith, p, s)) c.requires.some in
    omega (arith, q, c.requires.few)

pub returns-clause-owner : goal.returns-clause-owner
returns-clause-owner c = is c

pub returns-clause-rank : goal.returns-clause-rank
returns-clause-rank c =
    let p = place_is c.args.bodies.now c.args.sorted.now c.requires.bodies c.requires.sorted c.args.i blank c.requires.place c.number_at.result c.count_below-place.result (c.number_at.ensures blank) c.count_below-place.ensures in
    let s = place_small c.args.bodies.now c.args.sorted.now c.requires.bodies c.requires.sorted c.args.i blank c.requires.place in
    owner_small c.count_below-place.result c.args.ranks (length c.args.bodies.now) (omega (arith, p, s)) c.requires.some
