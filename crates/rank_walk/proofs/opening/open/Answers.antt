use Rattle.std.proofs.Common.{◌≡◌, ◌≤◌, ◌+◌, length, refl, ap, ◌∙◌, arith}
use Rattle.rank_walk.specs.Slots.{slot_at, cell_at_place}
use Rattle.rank_walk.proofs.Opened.{open_grown, open_down, open_many}
use Rattle.rank_walk.proofs.Replaced.{below_at, level_at, made_longer, making_at, opened_already}
use Rattle.rank_walk.proofs.opening.open.Goals as goal

pub push_children-requires-clause-level : goal.push_children-requires-clause-level
push_children-requires-clause-level g c = level_at c.requires.open.0 c.args.heard.now c.args.i c.requires.within c.requires.known c.deref.result.now c.deref.ensures.value c.entry_at-cell.result.0 c.entry_at-cell.ensures.cell c.requires.open.1.1

pub push_children-requires-clause-below : goal.push_children-requires-clause-below
push_children-requires-clause-below g c = (c.requires.open.0, (c.requires.open.1.0, below_at c.requires.open.0 c.args.heard.now c.args.i c.requires.within c.requires.known c.deref.result.now c.deref.ensures.value c.entry_at-cell.result.0 c.entry_at-cell.result.1 c.entry_at-cell.ensures.cell c.entry_at-cell.ensures.below c.requires.open.1.1.table))

pub overflow_sub-to : goal.overflow_sub-to
overflow_sub-to g c =
    let more : length c.args.heard.now.slots.items ≤ length c.push_children.new.heard.slots.items = made_longer c.requires.open.0 c.entry_at-cell.result.0 c.args.heard.now c.push_children.new.heard (making_at c.requires.open.0 c.args.heard.now c.args.i c.requires.within c.requires.known c.deref.result.now c.deref.ensures.value c.entry_at-cell.result.0 c.entry_at-cell.result.1 c.entry_at-cell.ensures.cell c.entry_at-cell.ensures.below c.push_children.new.heard (c.in_ok-push_children.ensures c.requires.open.0 c.requires.open.1.0) c.requires.open.1.1.table) in
    omega (arith, more, c.len-to.ensures, c.len-from.ensures, c.push_children.new.heard.slots.ok, c.args.heard.now.slots.ok)

pub mark-requires : goal.mark-requires
mark-requires g c =
    let more : length c.args.heard.now.slots.items ≤ length c.push_children.new.heard.slots.items = made_longer c.requires.open.0 c.entry_at-cell.result.0 c.args.heard.now c.push_children.new.heard (making_at c.requires.open.0 c.args.heard.now c.args.i c.requires.within c.requires.known c.deref.result.now c.deref.ensures.value c.entry_at-cell.result.0 c.entry_at-cell.result.1 c.entry_at-cell.ensures.cell c.entry_at-cell.ensures.below c.push_children.new.heard (c.in_ok-push_children.ensures c.requires.open.0 c.requires.open.1.0) c.requires.open.1.1.table) in
    omega (arith, more, c.requires.within)

pub overflow_cast-to : goal.overflow_cast-to
overflow_cast-to g c =
    let closed : (slot_at c.args.heard.now.slots.items c.args.i).number ≡ 0 = omega (arith, c.if-number-gt0.false, c.entry_at-cell.ensures.number, ap (λ t. (slot_at t c.args.i).number) c.deref.ensures.value) in
    let few : length c.push_children.new.heard.slots.items ≤ length c.args.heard.now.slots.items + 8 =
    open_many c.requires.open.0 c.args.heard.now c.requires.open.1.1.table c.args.i c.requires.within c.requires.open.1.1.parted closed c.entry_at-cell.result.0 (c.entry_at-cell.ensures.cell ∙ ap (λ t. cell_at_place t c.args.i) c.deref.ensures.value) c.push_children.new.heard (making_at c.requires.open.0 c.args.heard.now c.args.i c.requires.within c.requires.known c.deref.result.now c.deref.ensures.value c.entry_at-cell.result.0 c.entry_at-cell.result.1 c.entry_at-cell.ensures.cell c.entry_at-cell.ensures.below c.push_children.new.heard (c.in_ok-push_children.ensures c.requires.open.0 c.requires.open.1.0) c.requires.open.1.1.table) in
    omega (arith, few, c.len-to.ensures, c.len-from.ensures, c.push_children.new.heard.slots.ok, c.args.heard.now.slots.ok)

pub overflow_cast-result-3 : goal.overflow_cast-result-3
overflow_cast-result-3 g c =
    let closed : (slot_at c.args.heard.now.slots.items c.args.i).number ≡ 0 = omega (arith, c.if-number-gt0.false, c.entry_at-cell.ensures.number, ap (λ t. (slot_at t c.args.i).number) c.deref.ensures.value) in
    let few : length c.push_children.new.heard.slots.items ≤ length c.args.heard.now.slots.items + 8 =
    open_many c.requires.open.0 c.args.heard.now c.requires.open.1.1.table c.args.i c.requires.within c.requires.open.1.1.parted closed c.entry_at-cell.result.0 (c.entry_at-cell.ensures.cell ∙ ap (λ t. cell_at_place t c.args.i) c.deref.ensures.value) c.push_children.new.heard (making_at c.requires.open.0 c.args.heard.now c.args.i c.requires.within c.requires.known c.deref.result.now c.deref.ensures.value c.entry_at-cell.result.0 c.entry_at-cell.result.1 c.entry_at-cell.ensures.cell c.entry_at-cell.ensures.below c.push_children.new.heard (c.in_ok-push_children.ensures c.requires.open.0 c.requires.open.1.0) c.requires.open.1.1.table) in
    omega (arith, few, c.len-to.ensures, c.len-from.ensures, c.push_children.new.heard.slots.ok, c.args.heard.now.slots.ok, c.if-from-gt4294901760.false)

pub returns : goal.returns
returns g c =
    let closed : (slot_at c.args.heard.now.slots.items c.args.i).number ≡ 0 = omega (arith, c.if-number-gt0.false, c.entry_at-cell.ensures.number, ap (λ t. (slot_at t c.args.i).number) c.deref.ensures.value) in
    let from : c.len-from.result ≡ length c.args.heard.now.slots.items = omega (arith, c.len-from.ensures, c.args.heard.now.slots.ok) in
    let to : c.len-to.result ≡ length c.push_children.new.heard.slots.items = omega (arith, c.len-to.ensures, c.push_children.new.heard.slots.ok) in
    λ z s m. record {
      grown = open_grown z c.args.heard.now m.table c.args.i c.requires.within m.parted closed c.entry_at-cell.result.0 (c.entry_at-cell.ensures.cell ∙ ap (λ t. cell_at_place t c.args.i) c.deref.ensures.value) c.push_children.new.heard (making_at z c.args.heard.now c.args.i c.requires.within c.requires.known c.deref.result.now c.deref.ensures.value c.entry_at-cell.result.0 c.entry_at-cell.result.1 c.entry_at-cell.ensures.cell c.entry_at-cell.ensures.below c.push_children.new.heard (c.in_ok-push_children.ensures z s) m.table)
          _ c.len-from.result c.len-to.result from to c.if-from-gt4294901760.false c.mark.ensures _ refl refl refl refl;
      down = open_down z c.args.heard.now m.table c.args.i c.requires.within m.parted closed c.entry_at-cell.result.0 (c.entry_at-cell.ensures.cell ∙ ap (λ t. cell_at_place t c.args.i) c.deref.ensures.value) c.push_children.new.heard (making_at z c.args.heard.now c.args.i c.requires.within c.requires.known c.deref.result.now c.deref.ensures.value c.entry_at-cell.result.0 c.entry_at-cell.result.1 c.entry_at-cell.ensures.cell c.entry_at-cell.ensures.below c.push_children.new.heard (c.in_ok-push_children.ensures z s) m.table)
          _ c.len-from.result c.len-to.result from to c.if-from-gt4294901760.false c.mark.ensures;
    }

pub returns-then-number-gt0 : goal.returns-then-number-gt0
returns-then-number-gt0 g c = λ z s m. opened_already z c.args.heard.now c.args.i c.requires.within c.requires.known c.deref.result.now c.deref.ensures.value c.entry_at-cell.result.2 c.entry_at-cell.result.3 _ c.entry_at-cell.ensures.first c.entry_at-cell.ensures.number c.if-number-gt0.true refl m
