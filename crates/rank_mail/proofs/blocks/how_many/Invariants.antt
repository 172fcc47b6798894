use Rattle.std.proofs.Common.{◌≡◌, take}
use Rattle.rank_mail.specs.Mails.{how_many}
use Rattle.rank_mail.proofs.blocks.how_many.Given as goal

abbrev pub invariant-loop-i : goal.invariant-loop-i
invariant-loop-i l = l.many ≡ how_many l.ready (take l.i l.messages)
