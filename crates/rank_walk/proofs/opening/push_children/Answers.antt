use Rattle.std.proofs.Common.{◌≡◌, ◌<◌, ◌-◌, ◌+◌, suc, arith, sym, ◌∙◌, subst}
use Rattle.rank_walk.specs.Tables.{IsMaking}
use Rattle.rank_walk.proofs.Making.{making_start, making_none}
use Rattle.rank_walk.proofs.opening.push_children.Goals as goal

pub loop-k-init : goal.loop-k-init
loop-k-init g c = record { small = omega arith; made = λ z s b. making_start z c.args.cell c.args.heard.now }

pub push_child-requires-clause-member : goal.push_child-requires-clause-member
push_child-requires-clause-member g c =
    let k : c.loop-k.k - 1 < 8 = omega (arith, c.loop-k.invariant.small, c.loop-k-test.true) in
    (c.requires.below.0, (c.requires.below.1.0, sym (c.requires.below.1.1 c.requires.level (c.loop-k.k - 1) k) ∙ sym c.bit.ensures ∙ c.if-bit.true))

pub returns : goal.returns
returns g c = λ z s b. subst (λ k. IsMaking z c.args.cell c.args.heard.now k c.loop-k.heard) (let e : c.loop-k.k ≡ 0 = omega (arith, c.loop-k-test.false) in e) (c.loop-k.invariant.made z s b)

pub loop-k-preserved-in-Continue-1 : goal.loop-k-preserved-in-Continue-1
loop-k-preserved-in-Continue-1 g c =
    let k : c.loop-k.k - 1 < 8 = omega (arith, c.loop-k.invariant.small, c.loop-k-test.true) in
    record {
      small = omega (arith, c.loop-k.invariant.small);
      made = λ z s b. c.in_ok-push_child.ensures c.args.heard.now z s (sym (b c.requires.level (c.loop-k.k - 1) k) ∙ sym c.bit.ensures ∙ c.if-bit.true)
          (subst (λ k. IsMaking z c.args.cell c.args.heard.now k c.loop-k.heard) (let e : c.loop-k.k ≡ c.loop-k.k - 1 + 1 = omega (arith, c.loop-k-test.true) in e) (c.loop-k.invariant.made z s b));
    }

pub loop-k-preserved : goal.loop-k-preserved
loop-k-preserved g c =
    let k : c.loop-k.k - 1 < 8 = omega (arith, c.loop-k.invariant.small, c.loop-k-test.true) in
    record {
      small = omega (arith, c.loop-k.invariant.small);
      made = λ z s b. making_none z c.args.cell c.args.heard.now c.loop-k.k (c.loop-k.k - 1) c.loop-k.heard (let e : c.loop-k.k ≡ suc (c.loop-k.k - 1) = omega (arith, c.loop-k-test.true) in e)
          (sym (b c.requires.level (c.loop-k.k - 1) k) ∙ sym c.bit.ensures ∙ c.if-bit.false) (c.loop-k.invariant.made z s b);
    }
