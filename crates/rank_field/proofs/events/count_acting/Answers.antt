use Rattle.std.proofs.Common.{◌≡◌, ◌+◌, length, ap, ◌∙◌, arith}
use Rattle.rank_laws.specs.Whole.{ranks_of}
use Rattle.rank_field.specs.Machines.{acts_in}
use Rattle.rank_field.proofs.Passed.{bit_small, count_more, passed}
use Rattle.rank_field.proofs.events.count_acting.Goals as goal

pub loop-number-preserved : goal.loop-number-preserved
loop-number-preserved c = record {
  bound = omega (arith, bit_small c.can_act.result, c.from-count.ensures);
  count = λ w z h. count_more (acts_in w z) c.loop-number.number c.loop-number.count (c.loop-number.count + c.from-count.result) c.can_act.result (c.can_act.ensures w z h) (c.loop-number.invariant.count w z h) (ap (λ k. c.loop-number.count + k) c.from-count.ensures);
}

pub returns-clause-count : goal.returns-clause-count
returns-clause-count c = λ w z h.
    let end : c.loop-number.number ≡ ranks_of w = omega (arith, c.loop-number-test.false, c.loop-number.auto.number-end, h.all) in
    c.loop-number.invariant.count w z h ∙ ap (λ n. length (passed (acts_in w z) n)) end
