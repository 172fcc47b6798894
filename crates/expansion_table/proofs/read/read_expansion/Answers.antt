use Rattle.std.proofs.Common.{◌≤◌, ◌-◌, ◌*◌, ◌^◌, sym, subst}
use Rattle.expansion_table.proofs.Sound.{IsSound, sound_parts}
use Rattle.expansion_table.proofs.read.read_expansion.Goals as goal

is_sound : (c : goal.In_ok-reach_of) → IsSound c.args.bytes.now c.in_ok-head.head.s c.in_ok-head.head.count c.in_ok-entries.entries.items
is_sound c =
    sound_parts c.args.bytes.now c.in_ok-head.head.s c.in_ok-head.head.count c.in_ok-entries.entries.items c.in_ok-head.ensures.spacing.0 c.in_ok-head.ensures.spacing.1 c.in_ok-head.ensures.whole.0 c.in_ok-entries.ensures.ok
    c.in_ok-entries.ensures.each.0 c.in_ok-entries.ensures.each.1

pub invariant_of-result : goal.invariant_of-result
invariant_of-result c = (is_sound c).is

pub returns-clause-reach : goal.returns-clause-reach
returns-clause-reach c = subst (λ n. c.args.last ≤ (n - 1) * 2 ^ c.in_ok-head.head.s) (sym (is_sound c).long) c.in_ok-reach_of.ensures.ok
