use Rattle.std.proofs.Common.{◌∷◌, [], decimal}
use Rattle.run_session.proofs.LineWords.{both_joined}
use Rattle.run_session.proofs.lines.kick_line.Goals as goal

pub returns : goal.returns
returns c =
    let k = c.args.kick.now in
    both_joined c.new-line.result.items c.push_unsigned.new.out.items _ _ _ (decimal k.tick) (k.bin ∷ k.whole ∷ k.fast ∷ k.pairs ∷ k.fast_pairs ∷ []) k.total
    c.new-line.ensures.items (rw c.from.ensures at c.in_ok-push_unsigned.ensures.ok) (rw (c.from-2.ensures, c.from-3.ensures, c.from-4.ensures) at c.in_ok-push_all.ensures)
    c.in_ok-push_vector.ensures c.in_ok-push.ensures.items
