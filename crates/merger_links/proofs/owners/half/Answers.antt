use Rattle.std.proofs.Common.{◌+◌, ◌-◌, ◌/◌, arith}
use Rattle.merger_links.proofs.Owned.{lower_half, upper_half}
use Rattle.merger_links.proofs.owners.half.Goals as goal

pub returns-then-owners-middle-clause-between : goal.returns-then-owners-middle-clause-between
returns-then-owners-middle-clause-between c =
    upper_half c.args.owners.now c.args.id c.args.low c.args.high (c.args.low + (c.args.high - c.args.low) / 2) _ c.requires.up c.requires.between (omega (arith, c.requires.some)) c.if-owners-middle.true

pub returns-clause-between : goal.returns-clause-between
returns-clause-between c =
    lower_half c.args.owners.now c.args.id c.args.low c.args.high (c.args.low + (c.args.high - c.args.low) / 2) _ c.requires.up c.requires.between (omega arith) (omega (arith, c.requires.some)) c.if-owners-middle.false
