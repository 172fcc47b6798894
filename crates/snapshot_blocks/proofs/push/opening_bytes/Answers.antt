use Rattle.std.proofs.Common.{ℕ, List, ap, sym, arith}
use Rattle.snapshot_blocks.specs.Opening.{opening}
use Rattle.snapshot_blocks.proofs.Pushes.{four}
use Rattle.snapshot_blocks.proofs.push.opening_bytes.Goals as goal

pub returns : goal.returns
unfolding opening
returns c =
    let spelled = four c.args.name (omega arith) in
    rw (c.to_le_bytes-skip.ensures, c.to_le_bytes-first.ensures) (ap (λ (name : List ℕ). opening name c.args.len) (sym spelled))
