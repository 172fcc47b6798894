use Rattle.std.proofs.Common.{rules, arith, pos, ℤ, get_or, ap, ◌∙◌}
use Rattle.std.specs.Int.{w128}
use Rattle.std.proofs.lemmas.Int.{to_z-of_z}
use Rattle.force_sharing.specs.Turns.{share_by}
use Rattle.force_sharing.proofs.Written.{written_all}
use Rattle.force_sharing.proofs.sharing.write_shares.Goals as goal

pub returns : goal.returns
returns c =
    let a = c.args in
    written_all (share_by a.quotient a.s a.mass a.last) a.members.now c.loop-i.out (0, 0) (pos 0)
    (search rules)
    (λ k h. c.loop-i.invariant.written k (omega (arith, c.loop-i-test.false, h)) ∙ ap (λ (q : ℤ). share_by q a.s a.mass a.last (get_or a.members.now k (0, 0))) (to_z-of_z w128 a.quotient c.ranges.quotient))
