use Rattle.std.proofs.Common.{rules, ◌≡◌, ◌≤◌, None, length, ap, sym, ◌∙◌, arith}
use Rattle.group_file.specs.GroupFile.{count_in, first_of, fault_of_group, group_fault}
use Rattle.group_file.proofs.Sound.{groups_long, sound}
use Rattle.group_file.proofs.Steps.{of_bytes, fault_here, no_next_fault, next_groups, next_start, next_label, no_rest, rest_here}
use Rattle.group_file.proofs.read.groups_of.Goals as goal

pub returns-in-Some-clause-err : goal.returns-in-Some-clause-err
returns-in-Some-clause-err c =
    let bytes = c.args.bytes.now in
    of_bytes c.in-Some.fault _
    (fault_here bytes c.loop-k._k c.loop-k.at c.loop-k.before c.in-Some.fault (omega (arith, c.loop-k-test.true, c.requires.count)) c.loop-k.invariant.3 c.loop-k.invariant.0 c.loop-k.invariant.1
    (sym c.group_fault.ensures ∙ c.in-Some.is))

pub group_at-requires : goal.group_at-requires
group_at-requires c = let none : group_fault c.args.bytes.now c.loop-k.before c.loop-k.at ≡ None = search rules in (sound c.args.bytes.now c.loop-k.before c.loop-k.at c.loop-k.invariant.4 none).whole

pub end_of-at-requires : goal.end_of-at-requires
end_of-at-requires c = let none : group_fault c.args.bytes.now c.loop-k.before c.loop-k.at ≡ None = search rules in (sound c.args.bytes.now c.loop-k.before c.loop-k.at c.loop-k.invariant.4 none).whole

pub loop-k-preserved : goal.loop-k-preserved
loop-k-preserved c =
    let bytes = c.args.bytes.now in
    let at = c.loop-k.at in
    let k = c.loop-k._k in
    let none : group_fault bytes c.loop-k.before at ≡ None = search rules in (
      c.end_of-at.ensures ∙ next_start bytes k at c.loop-k.invariant.0,
      next_label bytes k at c.word64.result c.loop-k.invariant.0 c.word64.ensures,
      next_groups bytes k at c.in_ok-group.group c.loop-k.groups.items c.push.new.self.items c.in_ok-push.ensures.items c.loop-k.invariant.2 c.loop-k.invariant.0 c.in_ok-group.ensures,
      no_next_fault bytes k at c.loop-k.before c.loop-k.invariant.3 c.loop-k.invariant.0 c.loop-k.invariant.1 none,
      omega (arith, c.end_of-at.ensures, (sound bytes c.loop-k.before at c.loop-k.invariant.4 none).whole),
    )

pub returns-then-at-bytes-clause-err : goal.returns-then-at-bytes-clause-err
returns-then-at-bytes-clause-err c =
    rest_here c.args.bytes.now c.loop-k._k c.loop-k.at (omega (arith, c.loop-k-test.false, c.loop-k.auto._k-end, c.requires.count)) c.loop-k.invariant.3 c.loop-k.invariant.0 c.if-at-bytes.true

pub returns-clause-sound : goal.returns-clause-sound
returns-clause-sound c =
    let all : c.loop-k._k ≡ count_in c.args.bytes.now = omega (arith, c.loop-k-test.false, c.loop-k.auto._k-end, c.requires.count) in
    ap (first_of (fault_of_group c.args.bytes.now)) (sym all) ∙ c.loop-k.invariant.3

pub returns-clause-whole : goal.returns-clause-whole
returns-clause-whole c =
    no_rest c.args.bytes.now c.loop-k._k c.loop-k.at (omega (arith, c.loop-k-test.false, c.loop-k.auto._k-end, c.requires.count)) c.loop-k.invariant.0 (omega (arith, c.if-at-bytes.false))

pub word64-requires : goal.word64-requires
word64-requires c = let none : group_fault c.args.bytes.now c.loop-k.before c.loop-k.at ≡ None = search rules in omega (arith, (sound c.args.bytes.now c.loop-k.before c.loop-k.at c.loop-k.invariant.4 none).whole)

pub returns-clause-as_many : goal.returns-clause-as_many
returns-clause-as_many c =
    let all : c.loop-k._k ≡ c.args.count = omega (arith, c.loop-k-test.false, c.loop-k.auto._k-end) in
    ap length c.loop-k.invariant.2 ∙ groups_long c.args.bytes.now c.loop-k._k ∙ all
