use Rattle.std.proofs.Common.{sym, ◌∙◌, subst}
use Rattle.std.specs.Result.{IfOk}
use Rattle.rank_exchange.specs.Ranks.{HasDone}
use Rattle.rank_exchange.proofs.Nexts.{next_add, next_build, next_share, next_walk}
use Rattle.rank_exchange.proofs.rank.Rank.act.Goals as goal

pub build-requires : goal.build-requires
build-requires c = (c.requires.0, record { attends = c.requires.1.0; next = next_build c.requires.0 (sym c.requires.1.0.rank.most.built ∙ c.if-not-self.true) })

pub returns-then-not-self : goal.returns-then-not-self
returns-then-not-self c = λ m h s. subst (λ x. IfOk c.build.result (λ a. HasDone m x a c.build.new.self)) (sym (next_build m (sym h.rank.most.built ∙ c.if-not-self.true)))
    (c.build.ensures m (record { attends = h; next = next_build m (sym h.rank.most.built ∙ c.if-not-self.true) }))

pub walk-requires : goal.walk-requires
walk-requires c = (c.requires.0, record { attends = c.requires.1.0; next = next_walk c.requires.0 (sym c.requires.1.0.rank.most.built ∙ c.if-not-self.false) (sym (c.if-may_walk.ensures c.requires.0 c.requires.1.0.rank)) })

pub returns-then-may_walk : goal.returns-then-may_walk
returns-then-may_walk c = λ m h s. subst (λ x. IfOk c.walk.result (λ a. HasDone m x a c.walk.new.self)) (sym (next_walk m (sym h.rank.most.built ∙ c.if-not-self.false) (sym (c.if-may_walk.ensures m h.rank))))
    (c.walk.ensures m (record { attends = h; next = next_walk m (sym h.rank.most.built ∙ c.if-not-self.false) (sym (c.if-may_walk.ensures m h.rank)) }))

pub add-requires : goal.add-requires
add-requires c = (c.requires.0, record { rank = c.requires.1.0.rank; next = next_add c.requires.0 (sym c.requires.1.0.rank.most.built ∙ c.if-not-self.false) (sym (c.if-may_walk.ensures c.requires.0 c.requires.1.0.rank)) (sym (c.if-may_add.ensures c.requires.0 c.requires.1.0.rank)) })

pub returns-then-may_add : goal.returns-then-may_add
returns-then-may_add c = λ m h s. subst (λ x. IfOk c.add.result (λ a. HasDone m x a c.add.new.self)) (sym (next_add m (sym h.rank.most.built ∙ c.if-not-self.false) (sym (c.if-may_walk.ensures m h.rank)) (sym (c.if-may_add.ensures m h.rank))))
    (c.add.ensures m (record { rank = h.rank; next = next_add m (sym h.rank.most.built ∙ c.if-not-self.false) (sym (c.if-may_walk.ensures m h.rank)) (sym (c.if-may_add.ensures m h.rank)) }))

pub share-requires : goal.share-requires
share-requires c = (c.requires.0, record { rank = c.requires.1.0.rank; next = next_share c.requires.0 (sym c.requires.1.0.rank.most.built ∙ c.if-not-self.false) (sym (c.if-may_walk.ensures c.requires.0 c.requires.1.0.rank)) (sym (c.if-may_add.ensures c.requires.0 c.requires.1.0.rank)) c.requires.1.1 })

pub returns : goal.returns
returns c = λ m h s. subst (λ x. IfOk c.share.result (λ a. HasDone m x a c.share.new.self)) (sym (next_share m (sym h.rank.most.built ∙ c.if-not-self.false) (sym (c.if-may_walk.ensures m h.rank)) (sym (c.if-may_add.ensures m h.rank)) s))
    (c.share.ensures m (record { rank = h.rank; next = next_share m (sym h.rank.most.built ∙ c.if-not-self.false) (sym (c.if-may_walk.ensures m h.rank)) (sym (c.if-may_add.ensures m h.rank)) s }))
