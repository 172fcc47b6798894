use Rattle.std.proofs.Common.{◌++◌, map, ap, ◌∙◌, sym}
use Rattle.rank_laws.specs.Contents.{members_sent}
use Rattle.rank_laws.specs.Whole.{own}
use Rattle.rank_exchange.specs.Came.{kept_from}
use Rattle.rank_exchange.proofs.Acts.{members_are, own_along}
use Rattle.rank_exchange.proofs.rank.Rank.members_found.Goals as goal

pub members_of-requires : goal.members_of-requires
members_of-requires c = (own c.requires.0.whole c.requires.0.rank, own_along c.requires.0 c.args.self.now c.requires.1.does.rank c.requires.1.sorted c.deref-2.result.now c.deref-2.ensures.value)

pub returns : goal.returns
returns c = λ m h.
    c.in_ok-extend_from_slice.ensures.items
    ∙ (λ i. c.in_ok-keep_members.ensures i ++ c.deref-5.ensures.value i)
    ∙ (λ i. (c.in_ok-kept.ensures.items i ++ map (kept_from (h.does.rank.most.number i)) (c.deref-4.ensures.value i)) ++ c.args.self.now.members.items)
    ∙ ap (λ t. map (kept_from m.rank) t ++ c.args.self.now.members.items) (members_are m c.args.self.now h c.deref.result.now c.deref-3.result.now c.deref.ensures.value (c.deref-3.ensures.value ∙ c.in_ok-cells.ensures) c.in_ok-own.own.items
    (c.in_ok-own.ensures (own m.whole m.rank) (own_along m c.args.self.now h.does.rank h.sorted c.deref-2.result.now c.deref-2.ensures.value)))
    ∙ ap (λ t. map (kept_from m.rank) (members_sent m.whole m.rank m.rank) ++ t) h.does.rank.most.members
