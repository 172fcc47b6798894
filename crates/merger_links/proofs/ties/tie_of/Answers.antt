use Rattle.std.proofs.Common.{rules, ◌≡◌, List, ℕ, subst}
use Rattle.std.specs.List.{filter_map}
use Rattle.merger_links.specs.Owners.{owner_in}
use Rattle.merger_links.specs.Ties.{IsMostOften}
use Rattle.merger_links.proofs.Often.{is_tie}
use Rattle.merger_links.proofs.ties.tie_of.Goals as goal

pub returns : goal.returns
returns c D good owners =
    let ids : c.deref.result.now ≡ c.args.group.now.ids = search rules in
    is_tie D c.args.group.now c.in_ok-tie.tie good (subst (λ (xs : List ℕ). IsMostOften (filter_map (owner_in D) xs) c.in_ok-tie.tie) ids (c.in_ok-tie.ensures D good owners))
