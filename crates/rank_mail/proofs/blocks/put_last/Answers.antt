use Rattle.std.proofs.Common.{◌≡◌, ◌+◌, ◌-◌, length, arith, ap, ◌∙◌, ◌++◌, ◌∷◌, [], refl, subst}
use Rattle.std.proofs.lemmas.List.{get_or_read}
use Rattle.std.proofs.lemmas.Result.{on_ok_weaker}
use Rattle.rank_mail.specs.Blocks.{BlockData, HasRoom}
use Rattle.rank_mail.proofs.Counted.{put_in}
use Rattle.rank_mail.proofs.blocks.put_last.Goals as goal

pub returns-then-has_room-clause-ok : goal.returns-then-has_room-clause-ok
returns-then-has_room-clause-ok c =
    let bs = c.args.blocks.now.items in
    let last = c.len-last.result - 1 in
    let room : HasRoom bs = subst HasRoom c.deref.ensures.value (c.if-has_room.ensures refl) in
    let n : last + 1 ≡ length bs = omega (arith, c.len-last.ensures, room.some, c.args.blocks.now.ok) in
    on_ok_weaker c.put.result (λ e. put_in bs last c.put.new.self c.args.message n (λ d. e ∙ ap (λ (b : BlockData). b.messages ++ c.args.message ∷ []) (get_or_read bs last c.index_mut-block.result.now (omega (arith, n)) c.index_mut-block.ensures.value d))) c.put.ensures.ok
