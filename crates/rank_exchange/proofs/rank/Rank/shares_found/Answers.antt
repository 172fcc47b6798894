use Rattle.std.proofs.Common.{◌∙◌}
use Rattle.rank_exchange.proofs.Acts.{has_members}
use Rattle.rank_exchange.proofs.rank.Rank.shares_found.Goals as goal

pub home_parts-requires : goal.home_parts-requires
home_parts-requires c = (c.requires.0, has_members c.requires.0 c.args.self.now c.requires.1 c.deref.result.now c.deref-2.result.now c.deref.ensures.value (c.deref-2.ensures.value ∙ c.in_ok-kept.ensures c.requires.0 c.requires.1))

pub returns : goal.returns
returns c = λ m h. c.home_parts.ensures.parts m (has_members m c.args.self.now h c.deref.result.now c.deref-2.result.now c.deref.ensures.value (c.deref-2.ensures.value ∙ c.in_ok-kept.ensures m h))
