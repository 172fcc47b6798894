use Rattle.std.proofs.Common.{rules, length}
use Rattle.std.specs.List.{flat_map}
use Rattle.fixed_point.specs.Bytes.{bytes64}
use Rattle.group_file.proofs.Lists.{join_four}
use Rattle.group_file.proofs.write.push_group.Goals as goal

pub returns : goal.returns
returns c = join_four c.args.out.now.items (bytes64 c.args.group.now.label) (bytes64 c.args.group.now.mass) (bytes64 (length c.args.group.now.ids)) (flat_map bytes64 c.args.group.now.ids)
    c.push_word64.new.out.items c.push_word64-2.new.out.items c.push_word64-3.new.out.items c.push_ids.new.out.items (search rules) (search rules) (search rules) (search rules)
