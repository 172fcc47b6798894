use Rattle.std.proofs.Common.{rules, ◌≡◌, List, subst}
use Rattle.merger_links.specs.declared.owners.Owner.{Owner}
use Rattle.merger_links.specs.Owners.{AreOwners}
use Rattle.merger_links.proofs.Best.{ties_more}
use Rattle.merger_links.proofs.ties.ties_of.Goals as goal

pub loop-i-preserved : goal.loop-i-preserved
loop-i-preserved c =
    let same : c.in_ok-owners.owners.items ≡ c.deref.result.now = search rules in
    let owners : AreOwners c.args.second.now c.deref.result.now = subst (λ (os : List Owner). AreOwners c.args.second.now os) same c.in_ok-owners.ensures in
    ties_more c.args.first.now c.args.second.now c.loop-i.i c.loop-i.ties.items c.push.new.self.items c.index-first-i.result c.in_ok-tie.tie (search rules) (search rules) c.loop-i.invariant c.in_ok-push.ensures.items (c.in_ok-tie.ensures c.args.second.now c.requires.good owners)
