use Rattle.std.proofs.Common.{◌++◌, List, ℕ, ap, ◌∙◌, arith}
use Rattle.std.specs.List.{filter_map}
use Rattle.std.proofs.lemmas.List.{take_all}
use Rattle.merger_links.specs.Owners.{owner_in}
use Rattle.merger_links.proofs.Owned.{found_next}
use Rattle.merger_links.proofs.ties.find_all.Goals as goal

pub loop-i-preserved : goal.loop-i-preserved
loop-i-preserved c D good owners = found_next D c.args.ids.now c.loop-i.i 0 c.args.found.now.items c.loop-i.found.items c.push_owner.new.found.items c.loop-i-test.true (c.loop-i.invariant D good owners) (c.in_ok-push_owner.ensures D good owners)

pub returns : goal.returns
returns c D good owners = c.loop-i.invariant D good owners ∙ ap (λ (xs : List ℕ). c.args.found.now.items ++ filter_map (owner_in D) xs) (take_all c.loop-i.i c.args.ids.now (omega (arith, c.loop-i-test.false)))
