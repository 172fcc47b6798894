use Rattle.std.proofs.Common.{rules, subst, ◌≡◌, List, ℕ}
use Rattle.groups.specs.Groups.{web}
use Rattle.groups.specs.Spreading.{IsWritten}
use Rattle.groups.proofs.Classes.{done_class}
use Rattle.groups.proofs.Nears.{links_even}
use Rattle.groups.proofs.heads.mark_class.Goals as goal

pub returns-clause-ok : goal.returns-clause-ok
returns-clause-ok c =
    let list : c.deref.result.now ≡ c.spread.new.list.items = search rules in
    let written : IsWritten c.args.p c.deref.result.now c.args.heads.now c.write_head.new.heads = c.write_head.ensures in
    done_class (web c.args.reach c.args.finder.now) c.args.p c.args.seen.now c.spread.new.seen c.spread.new.list.items c.args.heads.now c.write_head.new.heads (links_even c.args.reach c.args.finder.now c.requires.in_box) c.requires.at c.requires.done c.in_ok-spread.ensures.ok
    (subst (λ (xs : List ℕ). IsWritten c.args.p xs c.args.heads.now c.write_head.new.heads) list written)
