use Rattle.std.proofs.Common.{rules, arith, ap, length, ◌≡◌, ◌∙◌, ◌++◌}
use Rattle.std.specs.List.{range_with_len}
use Rattle.std.proofs.lemmas.List.FromFn.{length-range_with_len}
use Rattle.groups.specs.Groups.{kept}
use Rattle.groups.proofs.Good.{catalogue_good}
use Rattle.groups.proofs.Members.{groups_few, is_catalogue, kept_more}
use Rattle.groups.proofs.catalogue.groups.Goals as goal

pub loop-p-preserved : goal.loop-p-preserved
loop-p-preserved c =
    let added : c.add_group.new.groups.items ≡ c.loop-p.groups.items ++ kept c.args.least c.args.bodies.now c.in_ok-heads.heads.items c.loop-p.p = search rules in
    added ∙ kept_more c.args.least c.args.bodies.now c.in_ok-heads.heads.items c.loop-p.p c.loop-p.groups.items c.loop-p.invariant

pub returns-clause-few : goal.returns-clause-few
returns-clause-few c =
    omega (arith, ap length c.loop-p.invariant, groups_few c.args.least c.args.bodies.now c.in_ok-heads.heads.items (range_with_len 0 c.loop-p.p), length-range_with_len 0 c.loop-p.p, c.loop-p.auto.p-end, c.requires.few)

pub returns-clause-good : goal.returns-clause-good
returns-clause-good c =
    let B = c.args.bodies.now in
    catalogue_good c.args.reach c.args.least B c.loop-p.groups.items c.requires
    (is_catalogue c.args.reach c.args.least B c.in_ok-heads.heads.items c.loop-p.p c.loop-p.groups.items c.in_ok-heads.ensures c.loop-p.invariant (omega (arith, c.loop-p-test.false, c.loop-p.auto.p-end)))
