use Rattle.std.proofs.Common.{◌≡◌, ◌+◌, length, subst, arith, List, Bool}
use Rattle.std.specs.List.{AllByRecursion}
use Rattle.rank_mail.specs.Blocks.{IsCounted, messages_in}
use Rattle.rank_mail.proofs.Counted.{in_blocks, one_left}
use Rattle.rank_mail.proofs.mail.Mail.take.Goals as goal

pub overflow_sub-self : goal.overflow_sub-self
overflow_sub-self c = omega (arith, c.self.invariant.come, in_blocks _ c.self.inside.ready.items c.self.inside.blocks.items c.args.k c.self.view_is c.self.invariant.each c.requires)

pub take_from-requires-clause-number : goal.take_from-requires-clause-number
take_from-requires-clause-number c = in_blocks _ c.self.inside.ready.items c.self.inside.blocks.items c.args.k c.self.view_is c.self.invariant.each c.requires

pub invariant_of-self : goal.invariant_of-self
invariant_of-self c =
    let t : length (messages_in c.take_from.new.blocks.items) + 1 ≡ length (messages_in c.self.inside.blocks.items) = one_left c.deref.result.now c.args.k (messages_in c.self.inside.blocks.items) (messages_in c.take_from.new.blocks.items) c.take_from.result c.take_from.ensures.taken in
    record {
      each = subst (λ (r : List Bool). AllByRecursion (IsCounted r) c.take_from.new.blocks.items) c.deref.ensures.value c.take_from.ensures.counted;
      come = omega (arith, c.self.invariant.come, c.take_from.ensures.coming);
      all = omega (arith, c.self.invariant.all, t);
      few = omega (arith, c.self.invariant.few);
    }
