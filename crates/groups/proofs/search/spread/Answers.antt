use Rattle.std.proofs.Common.{rules, subst, sym, ◌≡◌, ◌<◌, List, ℕ, length, get_or}
use Rattle.std.proofs.Math.ListN.{set}
use Rattle.std.specs.Prelude.{true}
use Rattle.neighbour_find.specs.Near.{near}
use Rattle.groups.specs.Groups.{web}
use Rattle.groups.specs.Spreading.{IsTaken, IsSpread, AllBelow}
use Rattle.groups.proofs.Steps.{spread_start, spread_next, spread_done}
use Rattle.groups.proofs.Nears.{are_near, near_below, links_even}
use Rattle.groups.proofs.search.spread.Goals as goal

pub loop-cursor-init : goal.loop-cursor-init
loop-cursor-init c = subst (λ (xs : List ℕ). IsSpread (web c.args.reach c.args.finder.now) c.args.p c.args.seen.now (set c.args.seen.now c.args.p true) xs 0) (sym (search rules)) (spread_start (web c.args.reach c.args.finder.now) c.args.p c.args.seen.now c.requires.as_long c.requires.at c.requires.new)

pub take_all-requires : goal.take_all-requires
take_all-requires c = subst (AllBelow (length c.loop-cursor.seen)) (sym (search rules)) (near_below c.args.reach c.args.finder.now c.index.result.now (length c.loop-cursor.seen) c.loop-cursor.invariant.as_long)

pub loop-cursor-preserved : goal.loop-cursor-preserved
loop-cursor-preserved c =
    let out : c.deref.result.now ≡ near c.args.reach c.args.finder.now c.index.result.now = search rules in
    let at : get_or c.loop-cursor.list.items c.loop-cursor.cursor c.index.result.now ≡ c.index.result.now = search rules in
    let within : c.loop-cursor.cursor < length c.loop-cursor.list.items = search rules in
    let taken : IsTaken (near c.args.reach c.args.finder.now c.index.result.now) c.loop-cursor.seen c.take_all.new.seen c.loop-cursor.list.items c.take_all.new.list.items = subst (λ (xs : List ℕ). IsTaken xs c.loop-cursor.seen c.take_all.new.seen c.loop-cursor.list.items c.take_all.new.list.items) out c.in_ok-take_all.ensures.ok in
    spread_next (web c.args.reach c.args.finder.now) c.args.p c.args.seen.now c.loop-cursor.seen c.take_all.new.seen c.loop-cursor.list.items c.take_all.new.list.items c.loop-cursor.cursor c.index.result.now (near c.args.reach c.args.finder.now c.index.result.now) c.loop-cursor.invariant within at (are_near c.args.reach c.args.finder.now c.index.result.now) taken

pub returns-clause-ok : goal.returns-clause-ok
returns-clause-ok c = spread_done (web c.args.reach c.args.finder.now) c.args.p c.args.seen.now c.loop-cursor.seen c.loop-cursor.list.items c.loop-cursor.cursor c.loop-cursor.invariant (search rules) (links_even c.args.reach c.args.finder.now c.requires.in_box) c.requires.closed
