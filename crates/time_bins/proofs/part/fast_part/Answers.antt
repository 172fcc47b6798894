use Rattle.std.proofs.Common.{◌∙◌, rules}
use Rattle.time_bins.proofs.Places.{fast_more, slow_more, whole}
use Rattle.std.proofs.Common.{ℕ, List, length, map, get_or, ap, sym, subst, ◌<◌}
use Rattle.std.specs.List.Sorted.{IsStrictlyIncreasing}
use Rattle.time_bins.proofs.Fast.{get_or_id, fast_ids, unfit_rising, unfit_within}
use Rattle.time_bins.proofs.part.fast_part.Goals as goal
use Rattle.time_bins.proofs.part.fast_part.Goals.{then-not-fits+in_ok-push, else-not-fits}

pub loop-i-preserved : goal.loop-i-preserved
loop-i-preserved c =
    let more = fast_more c.args.setup.now c.args.bin c.args.bodies.now c.args.forces.now c.loop-i.i c.index-bodies-i.result _ c.fits.result c.loop-i.places.items c.if-not-fits.places.items c.loop-i-test.true c.requires.equal c.index-bodies-i.is c.fits.ensures c.loop-i.invariant in
    let same = slow_more c.args.setup.now c.args.bin c.args.bodies.now c.args.forces.now c.loop-i.i c.index-bodies-i.result _ c.fits.result c.loop-i.places.items c.if-not-fits.places.items c.loop-i-test.true c.requires.equal c.index-bodies-i.is c.fits.ensures c.loop-i.invariant in
    elim c.if-not-fits.branch [ then-not-fits+in_ok-push w ↦ more (search rules) (search rules) | else-not-fits w ↦ same (search rules) (search rules) ]

pub returns-clause-places : goal.returns-clause-places
returns-clause-places c = whole c.args.setup.now c.args.bin c.args.bodies.now c.args.forces.now c.loop-i.i c.loop-i.places.items c.loop-i-test.false c.requires.equal c.loop-i.invariant

pub returns-clause-ascending : goal.returns-clause-ascending
returns-clause-ascending c =
    subst IsStrictlyIncreasing (sym (whole c.args.setup.now c.args.bin c.args.bodies.now c.args.forces.now c.loop-i.i c.loop-i.places.items c.loop-i-test.false c.requires.equal c.loop-i.invariant)) (unfit_rising c.args.setup.now c.args.bin c.args.bodies.now c.args.forces.now)

pub returns-clause-within : goal.returns-clause-within
returns-clause-within c =
    subst (λ (ps : List ℕ). (k : ℕ) → k < length ps → get_or ps k 0 < length c.args.bodies.now) (sym (whole c.args.setup.now c.args.bin c.args.bodies.now c.args.forces.now c.loop-i.i c.loop-i.places.items c.loop-i-test.false c.requires.equal c.loop-i.invariant))
    (unfit_within c.args.setup.now c.args.bin c.args.bodies.now c.args.forces.now c.requires.equal)

pub returns-clause-fast : goal.returns-clause-fast
returns-clause-fast c = λ g es ef.
    ap (map (get_or_id c.args.bodies.now)) (whole c.args.setup.now c.args.bin c.args.bodies.now c.args.forces.now c.loop-i.i c.loop-i.places.items c.loop-i-test.false c.requires.equal c.loop-i.invariant)
    ∙ fast_ids c.args.setup.now c.args.bin c.args.bodies.now c.args.forces.now g es ef
