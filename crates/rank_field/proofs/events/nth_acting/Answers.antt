use Rattle.std.proofs.Common.{◌≡◌, ◌<◌, true, false, length, ap, sym, ◌∙◌, arith}
use Rattle.rank_laws.specs.Whole.{ranks_of}
use Rattle.rank_field.specs.Machines.{acts_in}
use Rattle.rank_field.proofs.Passed.{count_more, passed, stands_at}
use Rattle.rank_field.proofs.events.nth_acting.Goals as goal
use Rattle.rank_field.proofs.events.nth_acting.Goals.{then-can_act+else-before-n, else-can_act}

pub loop-number-preserved : goal.loop-number-preserved
loop-number-preserved c =
    elim c.if-can_act.branch [
      | then-can_act+else-before-n u ↦ record {
        bound = omega arith;
        count = λ w z h. count_more (acts_in w z) c.loop-number.number c.loop-number.before c.if-can_act.before true (sym u.if-can_act.true ∙ c.can_act.ensures w z h) (c.loop-number.invariant.count w z h) (omega (arith, u.before-is));
      }
      | else-can_act u ↦ record {
        bound = omega arith;
        count = λ w z h. count_more (acts_in w z) c.loop-number.number c.loop-number.before c.if-can_act.before false (sym u.if-can_act.false ∙ c.can_act.ensures w z h) (c.loop-number.invariant.count w z h) (omega (arith, u.before-is));
      }
    ]

pub returns-then-before-n : goal.returns-then-before-n
returns-then-before-n c = λ w z h k.
    let within : c.loop-number.number < ranks_of w = omega (arith, c.loop-number-test.true, h.all) in
    sym (stands_at (acts_in w z) c.loop-number.number (ranks_of w) within (sym (c.can_act.ensures w z h) ∙ c.if-can_act.true) c.args.n (omega (arith, c.if-before-n.true, c.loop-number.invariant.count w z h)))

pub returns : goal.returns
returns c = λ w z h k.
    let end : c.loop-number.number ≡ ranks_of w = omega (arith, c.loop-number-test.false, c.loop-number.auto.number-end, h.all) in
    absurd (omega (arith, k, c.loop-number.invariant.bound, c.loop-number.invariant.count w z h, ap (λ n. length (passed (acts_in w z) n)) end))
