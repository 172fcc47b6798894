use Rattle.std.proofs.Common.{◌≡◌, Some, sym, ◌∙◌, rules}
use Rattle.std.specs.Str.{bytes_eq}
use Rattle.snapshot_blocks.specs.Blocks.{IsWithin}
use Rattle.snap_file.specs.Snapshots.{block_named}
use Rattle.snap_file.proofs.Found.{find_holds}
use Rattle.snap_file.proofs.find.contents.Goals as goal

pub overflow_add-result : goal.overflow_add-result
overflow_add-result c =
    let block = c.in-Some.block in
    let found : block_named c.args.name c.args.blocks.now ≡ Some block = sym c.find_block.ensures ∙ c.in-Some.is in
    let within = find_holds (IsWithin c.args.bytes.now) (λ b. bytes_eq b.name c.args.name) c.args.blocks.now block c.requires found in
    search (rules, within.ends)

pub slice_bounds-result-end : goal.slice_bounds-result-end
slice_bounds-result-end c =
    let block = c.in-Some.block in
    let found : block_named c.args.name c.args.blocks.now ≡ Some block = sym c.find_block.ensures ∙ c.in-Some.is in
    let within = find_holds (IsWithin c.args.bytes.now) (λ b. bytes_eq b.name c.args.name) c.args.blocks.now block c.requires found in
    search (rules, within.ends)
