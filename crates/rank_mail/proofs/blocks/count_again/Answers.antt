use Rattle.std.proofs.Common.{◌≡◌, ◌<◌, ◌+◌, ◌≤◌, length, ap, ◌∙◌, arith, take, get_or, List, rules, ◌^◌}
use Rattle.std.proofs.lemmas.List.{get_or_read, length-set}
use Rattle.rank_exchange.specs.Messages.{MessageData}
use Rattle.rank_mail.specs.Blocks.{BlockData, coming_in, messages_in}
use Rattle.rank_mail.proofs.Counted.{same_in, counted_more, coming_more, coming_fits}
use Rattle.rank_mail.proofs.blocks.count_again.Goals as goal

within : (c : goal.After-blocks-1) → c.loop-at.at < length c.loop-at.blocks.items
within c = omega (arith, c.loop-at.invariant.3, c.loop-at-test.true)

same : (c : goal.After-blocks-1) (d : BlockData) → c.count-many.new.self.messages ≡ (get_or c.loop-at.blocks.items c.loop-at.at d).messages
same c d = c.count-many.ensures.same ∙ ap (λ (b : BlockData). b.messages) (get_or_read c.loop-at.blocks.items c.loop-at.at c.index_mut-block.result.now (within c) c.index_mut-block.ensures.value d)

pub overflow_add-many : goal.overflow_add-many
overflow_add-many c =
    let b = c.count-many.new.self in
    let f : coming_in (take c.loop-at.at c.loop-at.blocks.items) + b.coming ≤ length (messages_in c.loop-at.blocks.items) = coming_fits c.args.ready.now c.loop-at.blocks.items c.loop-at.at b (within c) c.loop-at.invariant.1 c.count-many.ensures.counted (same c) in
    let all : length (messages_in c.loop-at.blocks.items) ≡ length (messages_in c.args.blocks.now.items) = ap {A = List MessageData} length c.loop-at.invariant.0 in
    let g : c.loop-at.many + c.count-many.result < 2 ^ 64 = omega (arith, f, all, c.requires, c.loop-at.invariant.2, c.count-many.ensures.many) in
    search rules

pub loop-at-preserved : goal.loop-at-preserved
loop-at-preserved c =
    let b = c.count-many.new.self in
    let l = within c in (
      same_in c.loop-at.blocks.items c.loop-at.at b l (same c) ∙ c.loop-at.invariant.0,
      counted_more c.args.ready.now c.loop-at.blocks.items c.loop-at.at b l c.loop-at.invariant.1 c.count-many.ensures.counted,
      omega (arith, coming_more c.loop-at.blocks.items c.loop-at.at b l, c.loop-at.invariant.2, c.count-many.ensures.many),
      length-set c.loop-at.blocks.items c.loop-at.at b ∙ c.loop-at.invariant.3,
    )
