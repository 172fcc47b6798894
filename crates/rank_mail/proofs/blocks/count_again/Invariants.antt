use Rattle.std.proofs.Common.{◌≡◌, length, take}
use Rattle.std.specs.List.{AllByRecursion}
use Rattle.rank_mail.specs.Blocks.{IsCounted, coming_in, messages_in}
use Rattle.rank_mail.proofs.blocks.count_again.Given as goal

abbrev pub invariant-loop-at : goal.invariant-loop-at
invariant-loop-at l = (messages_in l.blocks.items ≡ messages_in l.initial.blocks.items) × AllByRecursion (IsCounted l.ready) (take l.at l.blocks.items) × (l.many ≡ coming_in (take l.at l.blocks.items)) × (length l.blocks.items ≡ l.at-end)
