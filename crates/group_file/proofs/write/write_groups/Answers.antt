use Rattle.std.proofs.Common.{rules, ◌++◌, length}
use Rattle.fixed_point.specs.Bytes.{bytes32}
use Rattle.group_file.specs.GroupFile.{group_tag, group_bytes}
use Rattle.group_file.proofs.Lists.{bytes_more}
use Rattle.group_file.proofs.write.write_groups.Goals as goal

pub loop-i-preserved : goal.loop-i-preserved
loop-i-preserved c = bytes_more group_bytes c.args.c.now c.loop-i.i c.index-group.result.now (group_tag ++ bytes32 (length c.args.c.now) ++ bytes32 0) c.loop-i.out.items c.push_group.new.out.items (search rules) (search rules) c.loop-i.invariant (search rules)
