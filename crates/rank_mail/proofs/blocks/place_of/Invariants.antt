use Rattle.std.proofs.Common.{◌≡◌, ◌+◌, take}
use Rattle.rank_mail.specs.Mails.{how_many}
use Rattle.rank_mail.proofs.blocks.place_of.Given as goal

abbrev pub invariant-loop-i : goal.invariant-loop-i
invariant-loop-i l = how_many l.ready (take l.i l.messages) + l.left ≡ l.fn.k
