use Rattle.std.proofs.Common.{◌^◌, replicate, refl, arith}
use Rattle.std.specs.Prelude.{slice_index, slice_index_or}
use Rattle.std.proofs.lemmas.List.{get_or_default}
use Rattle.octree_build.proofs.Opened.{blank}
use Rattle.domain_split.proofs.Lowered.{lowered_goes_on, all_lowered}
use Rattle.domain_split.proofs.bounds.least_keys.Goals as goal

pub loop-i-preserved : goal.loop-i-preserved
loop-i-preserved c =
    let b = slice_index_or c.args.bodies.now c.loop-i.i blank in
    let o = slice_index c.args.owner.now c.loop-i.i in
    lowered_goes_on (replicate c.args.ranks (2 ^ 96)) c.loop-i.bounds.items c.lower.new.bounds.items c.args.bodies.now c.args.owner.now c.loop-i.i b o c.key_at.result
    c.loop-i.invariant c.loop-i-test.true c.requires.each
    (get_or_default c.args.bodies.now c.loop-i.i blank b c.loop-i-test.true) (get_or_default c.args.owner.now c.loop-i.i 0 o (omega (arith, c.loop-i-test.true, c.requires.each)))
    (c.key_at.ensures blank) c.lower.ensures

pub returns : goal.returns
returns c = all_lowered (replicate c.args.ranks (2 ^ 96)) c.loop-i.bounds.items c.args.bodies.now c.args.owner.now c.loop-i.i c.args.ranks c.loop-i.invariant (omega (arith, c.loop-i-test.false)) refl
