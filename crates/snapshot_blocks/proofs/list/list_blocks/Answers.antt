use Rattle.std.proofs.Common.{arith}
use Rattle.std.proofs.lemmas.List.Elements.{All-push}
use Rattle.snapshot_blocks.specs.Blocks.{IsWithin}
use Rattle.snapshot_blocks.proofs.Framing.{Fill-push}
use Rattle.snapshot_blocks.proofs.list.list_blocks.Goals as goal

pub loop-p-preserved : goal.loop-p-preserved
loop-p-preserved c =
    let stands = c.in_ok-block.ensures.ok in (
      rw (c.push.ensures.items, ← c.in_ok-map_err.ensures.variant) (Fill-push _ _ _ _ c.loop-p.blocks.items _ c.loop-p.invariant.0 stands (omega arith)),
      omega (arith, stands.within),
      rw (c.push.ensures.items, ← c.in_ok-map_err.ensures.variant) (All-push (IsWithin c.args.bytes.now) c.loop-p.blocks.items c.in_ok-block.block c.loop-p.invariant.2 (record { ends = omega (arith, stands.at, stands.within) })),
    )
