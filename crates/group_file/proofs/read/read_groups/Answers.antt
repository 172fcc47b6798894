use Rattle.std.proofs.Common.{rules, ◌≡◌, List, subst, sym, ap, ◌∙◌, None}
use Rattle.group_file.specs.Catalogues.{GroupData, IsGood}
use Rattle.group_file.specs.GroupFile.{count_in, groups_in, repeated_fault}
use Rattle.group_file.proofs.Sound.{catalogue_good}
use Rattle.group_file.proofs.read.read_groups.Goals as goal

pub returns-clause-good : goal.returns-clause-good
returns-clause-good c =
    let bytes = c.args.bytes.now in
    let groups : c.in_ok-groups.groups.items ≡ groups_in bytes = c.in_ok-groups.ensures.ok in
    let once : repeated_fault c.deref.result.now ≡ None = c.in_ok-no_repeats.ensures.ok in
    let at : c.deref.result.now ≡ groups_in bytes = search rules in
    subst IsGood (sym groups) (catalogue_good bytes (count_in bytes) c.in_ok-count.ensures.long c.in_ok-groups.ensures.sound (subst (λ (C : List GroupData). repeated_fault C ≡ None) at once))
