use Rattle.std.proofs.Common.{rules, ◌≡◌, List, get_or, subst}
use Rattle.group_file.specs.Catalogues.{GroupData}
use Rattle.merger_links.specs.Links.{IsLink}
use Rattle.merger_links.specs.Ties.{no_group}
use Rattle.merger_links.proofs.Best.{zip_more}
use Rattle.merger_links.proofs.list.links.Goals as goal

pub loop-i-preserved : goal.loop-i-preserved
loop-i-preserved c =
    let first : c.deref-4.result.now ≡ c.args.first.now = search rules in
    let second : c.deref-5.result.now ≡ c.args.second.now = search rules in
    let here : IsLink c.args.first.now c.deref-5.result.now (get_or c.args.first.now c.loop-i.i no_group) c.link_at-link.result =
    subst (λ (C : List GroupData). IsLink C c.deref-5.result.now (get_or C c.loop-i.i no_group) c.link_at-link.result) first c.link_at-link.ensures in
    zip_more c.args.first.now c.args.second.now c.loop-i.i c.loop-i.links.items c.push.new.self.items c.link_at-link.result (search rules) c.loop-i.invariant c.in_ok-push.ensures.items
    (subst (λ (D : List GroupData). IsLink c.args.first.now D (get_or c.args.first.now c.loop-i.i no_group) c.link_at-link.result) second here)
