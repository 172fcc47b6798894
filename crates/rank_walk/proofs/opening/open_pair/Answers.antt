use Rattle.std.proofs.Common.{◌-◌, ◌++◌, reverse, length, ap, ◌∙◌, arith, subst}
use Rattle.std.specs.List.{filter, range_with_len}
use Rattle.rank_walk.specs.Slots.{cell_at_place, meets, same, both}
use Rattle.rank_walk.specs.Tables.{IsDown, IsReplaced}
use Rattle.rank_walk.proofs.Given.{grown_long, grown_twice, cell_kept, down_kept, places_differ, pushed_same, pushed_both}
use Rattle.rank_walk.proofs.opening.open_pair.Goals as goal

pub open-requires-clause-open : goal.open-requires-clause-open
open-requires-clause-open g c = (c.requires.open.0, (c.requires.open.1.0, record { table = c.requires.open.1.1.table; parted = c.requires.open.1.1.gives.parted c.if-x.true }))

pub push_same-requires-clause-up : goal.push_same-requires-clause-up
push_same-requires-clause-up g c = (c.in_ok-from.ensures c.requires.open.0 c.requires.open.1.0 (record { table = c.requires.open.1.1.table; parted = c.requires.open.1.1.gives.parted c.if-x.true })).down.up

pub push_same-requires-clause-within : goal.push_same-requires-clause-within
push_same-requires-clause-within g c = omega (arith, (c.in_ok-from.ensures c.requires.open.0 c.requires.open.1.0 (record { table = c.requires.open.1.1.table; parted = c.requires.open.1.1.gives.parted c.if-x.true })).down.within, ap length c.deref.ensures.value)

pub returns-then-x : goal.returns-then-x
returns-then-x g c = λ z s m.
    let r : IsReplaced c.args.heard.now c.args.x.a c.open.new.heard c.in_ok-from.from c.in_ok-from.to z = c.in_ok-from.ensures z s (record { table = m.table; parted = m.gives.parted c.if-x.true }) in
    record {
      grown = r.grown;
      pushed = pushed_same z c.open.new.heard.slots.items r.grown.table (cell_at_place c.args.heard.now.slots.items c.args.x.a) (cell_at_place c.args.heard.now.slots.items c.args.x.b) c.args.stack.now.items c.push_same.new.stack.items c.in_ok-from.from c.in_ok-from.to
          (ap (cell_at_place c.args.heard.now.slots.items) c.if-x.true) (m.gives.parted c.if-x.true) r.down
          (c.in_ok-push_same.ensures ∙ ap (λ t. c.args.stack.now.items ++ reverse (filter (meets t) (same (range_with_len c.in_ok-from.from (c.in_ok-from.to - c.in_ok-from.from))))) c.deref.ensures.value);
    }

pub down-requires-clause-table : goal.down-requires-clause-table
down-requires-clause-table g c = (c.requires.open.0, (c.requires.open.1.0, c.requires.open.1.1.table))

pub down-requires-clause-known : goal.down-requires-clause-known
down-requires-clause-known g c = c.requires.open.1.1.gives.first

pub down-requires-2-clause-within : goal.down-requires-2-clause-within
down-requires-2-clause-within g c = omega (arith, c.requires.within.second, grown_long c.requires.open.0 c.args.heard.now c.down.new.heard (c.in_ok-first.ensures c.requires.open.0 c.requires.open.1.0 c.requires.open.1.1.table).grown)

pub down-requires-2-clause-known : goal.down-requires-2-clause-known
down-requires-2-clause-known g c = (c.in_ok-first.ensures c.requires.open.0 c.requires.open.1.0 c.requires.open.1.1.table).grown.kept c.args.x.b c.requires.within.second ∙ c.requires.open.1.1.gives.second

pub down-requires-2-clause-table : goal.down-requires-2-clause-table
down-requires-2-clause-table g c = (c.requires.open.0, (c.requires.open.1.0, (c.in_ok-first.ensures c.requires.open.0 c.requires.open.1.0 c.requires.open.1.1.table).grown.table))

pub push_both-requires-clause-up_first : goal.push_both-requires-clause-up_first
push_both-requires-clause-up_first g c = (c.in_ok-first.ensures c.requires.open.0 c.requires.open.1.0 c.requires.open.1.1.table).down.up

pub push_both-requires-clause-within_first : goal.push_both-requires-clause-within_first
push_both-requires-clause-within_first g c = omega (
  arith,
  (c.in_ok-first.ensures c.requires.open.0 c.requires.open.1.0 c.requires.open.1.1.table).down.within,
  ap length c.deref-2.ensures.value,
  grown_long c.requires.open.0 c.down.new.heard c.down-2.new.heard (c.in_ok-second.ensures c.requires.open.0 c.requires.open.1.0 (c.in_ok-first.ensures c.requires.open.0 c.requires.open.1.0 c.requires.open.1.1.table).grown.table).grown,
)

pub push_both-requires-clause-up_second : goal.push_both-requires-clause-up_second
push_both-requires-clause-up_second g c = (c.in_ok-second.ensures c.requires.open.0 c.requires.open.1.0 (c.in_ok-first.ensures c.requires.open.0 c.requires.open.1.0 c.requires.open.1.1.table).grown.table).down.up

pub push_both-requires-clause-within_second : goal.push_both-requires-clause-within_second
push_both-requires-clause-within_second g c = omega (arith, (c.in_ok-second.ensures c.requires.open.0 c.requires.open.1.0 (c.in_ok-first.ensures c.requires.open.0 c.requires.open.1.0 c.requires.open.1.1.table).grown.table).down.within, ap length c.deref-2.ensures.value)

pub returns : goal.returns
returns g c = λ z s m.
    let one : IsReplaced c.args.heard.now c.args.x.a c.down.new.heard c.in_ok-first.first.0 c.in_ok-first.first.1 z = c.in_ok-first.ensures z s m.table in
    let two : IsReplaced c.down.new.heard c.args.x.b c.down-2.new.heard c.in_ok-second.second.0 c.in_ok-second.second.1 z = c.in_ok-second.ensures z s (c.in_ok-first.ensures z s m.table).grown.table in
    let first : IsDown z c.down-2.new.heard.slots.items (cell_at_place c.args.heard.now.slots.items c.args.x.a) c.in_ok-first.first.0 c.in_ok-first.first.1 =
    down_kept z c.down.new.heard c.down-2.new.heard (cell_at_place c.args.heard.now.slots.items c.args.x.a) c.in_ok-first.first.0 c.in_ok-first.first.1 two.grown one.down in
    let second : IsDown z c.down-2.new.heard.slots.items (cell_at_place c.args.heard.now.slots.items c.args.x.b) c.in_ok-second.second.0 c.in_ok-second.second.1 =
    subst (λ d. IsDown z c.down-2.new.heard.slots.items d c.in_ok-second.second.0 c.in_ok-second.second.1) (cell_kept z c.args.heard.now c.down.new.heard one.grown c.args.x.b c.requires.within.second) two.down in
    record {
      grown = grown_twice z c.args.heard.now c.down.new.heard c.down-2.new.heard one.grown two.grown;
      pushed = pushed_both z c.down-2.new.heard.slots.items two.grown.table (cell_at_place c.args.heard.now.slots.items c.args.x.a) (cell_at_place c.args.heard.now.slots.items c.args.x.b) c.args.stack.now.items c.push_both.new.stack.items
          c.in_ok-first.first.0 c.in_ok-first.first.1 c.in_ok-second.second.0 c.in_ok-second.second.1
          (places_differ z c.args.heard.now.slots.items m.table c.args.x c.requires.within c.if-x.false) (m.gives.between c.if-x.false) first second
          (c.in_ok-push_both.ensures ∙ ap (λ t. c.args.stack.now.items ++ reverse (filter (meets t) (both (range_with_len c.in_ok-first.first.0 (c.in_ok-first.first.1 - c.in_ok-first.first.0)) (range_with_len c.in_ok-second.second.0 (c.in_ok-second.second.1 - c.in_ok-second.second.0))))) c.deref-2.ensures.value);
    }
