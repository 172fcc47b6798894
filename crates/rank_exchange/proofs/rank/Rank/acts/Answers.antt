use Rattle.std.proofs.Common.{ap, sym, ◌∙◌}
use Rattle.rank_laws.specs.Machine.{is_some}
use Rattle.rank_exchange.proofs.Nexts.{last_is, next_add, next_build, next_walk}
use Rattle.rank_exchange.proofs.rank.Rank.acts.Goals as goal

pub returns-then-not-self : goal.returns-then-not-self
returns-then-not-self c = λ m h. sym (ap is_some (next_build m (sym h.most.built ∙ c.if-not-self.true)))

pub returns-then-may_walk : goal.returns-then-may_walk
returns-then-may_walk c = λ m h. sym (ap is_some (next_walk m (sym h.most.built ∙ c.if-not-self.false) (sym (c.if-may_walk.ensures m h))))

pub returns-then-may_add : goal.returns-then-may_add
returns-then-may_add c = λ m h. sym (ap is_some (next_add m (sym h.most.built ∙ c.if-not-self.false) (sym (c.if-may_walk.ensures m h)) (sym (c.if-may_add.ensures m h))))

pub returns : goal.returns
returns c = λ m h. c.may_share.ensures m h ∙ sym (last_is m (sym h.most.built ∙ c.if-not-self.false) (sym (c.if-may_walk.ensures m h)) (sym (c.if-may_add.ensures m h)))
