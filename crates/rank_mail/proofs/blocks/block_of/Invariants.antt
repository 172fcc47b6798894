use Rattle.std.proofs.Common.{◌≡◌, ◌+◌, take}
use Rattle.rank_mail.specs.Blocks.{coming_in}
use Rattle.rank_mail.proofs.blocks.block_of.Given as goal

abbrev pub invariant-loop-at : goal.invariant-loop-at
invariant-loop-at l = coming_in (take l.at l.blocks) + l.left ≡ l.fn.k
