use Rattle.std.proofs.Common.{List, subst}
use Rattle.std.proofs.lemmas.List.{get_or_read}
use Rattle.rank_mail.specs.Mails.{IsTaken}
use Rattle.rank_mail.specs.Blocks.{BlockData, IsWithin}
use Rattle.rank_mail.proofs.Counted.{taken_block}
use Rattle.rank_mail.proofs.blocks.take_from.Goals as goal

pub returns-clause-taken : goal.returns-clause-taken
returns-clause-taken c =
    let w : IsWithin c.args.blocks.now.items c.args.k c.block_of-at.result.0 c.block_of-at.result.1 = subst (λ (t : List BlockData). IsWithin t c.args.k c.block_of-at.result.0 c.block_of-at.result.1) c.deref.ensures.value c.block_of-at.ensures in
    taken_block c.args.ready.now c.args.blocks.now.items c.args.k c.block_of-at.result.0 c.block_of-at.result.1 c.take.result c.take.new.self c.requires.counted w
    (λ d. subst (λ (b : BlockData). IsTaken c.args.ready.now c.block_of-at.result.1 b.messages c.take.result c.take.new.self.messages) (get_or_read c.args.blocks.now.items c.block_of-at.result.0 c.index_mut-block.result.now w.within c.index_mut-block.ensures.value d) c.take.ensures.taken)
