use Rattle.std.proofs.Common.{◌≡◌, ◌+◌, length, refl, sym, ap, ◌∙◌, subst, arith, List}
use Rattle.std.specs.List.{AllByRecursion}
use Rattle.rank_walk.specs.declared.places.Places.{Places}
use Rattle.rank_walk.specs.Asked.{AreDistinct}
use Rattle.rank_walk.specs.Seats.{side}
use Rattle.rank_walk.specs.Slots.{SlotData}
use Rattle.rank_walk.specs.Tables.{IsIn}
use Rattle.rank_walk.specs.Walked.{IsWorkedOff, MayWork}
use Rattle.rank_walk.specs.Walkers.{walked_size}
use Rattle.rank_walk.proofs.Afterwards.{asked_by, asks_are, may_work, size_is, walked_state, worked_by}
use Rattle.rank_walk.proofs.walker.Walker.walk.Goals as goal

pub work_off-requires-clause-may : goal.work_off-requires-clause-may
work_off-requires-clause-may g c = (c.requires.rank.0, (c.requires.rank.1.0, (c.requires.rank.1.1.0.replies, subst (λ (t : List Places). MayWork (side c.requires.rank.0 c.requires.rank.1.1.0.replies) c.args.self.now.heard t c.args.self.now.counted) (sym c.deref.ensures.value) (may_work c.requires.rank.0 (g.met.S.Source.seated c.args.source.now c.requires.rank.0 c.requires.rank.1.0).seat c.requires.rank.1.1.0 c.args.self.now c.requires.rank.1.1.1))))

pub ask-requires-clause-distinct : goal.ask-requires-clause-distinct
ask-requires-clause-distinct g c = let w : IsWorkedOff (side c.requires.rank.0 c.requires.rank.1.1.0.replies) c.args.self.now.heard c.args.self.now.list.items c.args.self.now.counted c.work_off.new.heard c.in_ok-wait.wait.items c.work_off.new.count = (worked_by c.requires.rank.0 (g.met.S.Source.seated c.args.source.now c.requires.rank.0 c.requires.rank.1.0).seat c.requires.rank.1.1.0 c.args.self.now c.requires.rank.1.1.1 c.deref.result.now c.deref.ensures.value c.work_off.new.heard c.in_ok-wait.wait.items c.work_off.new.count (c.in_ok-wait.ensures c.requires.rank.0 c.requires.rank.1.0)) in subst (λ (t : List SlotData). AreDistinct t) (sym c.deref-2.ensures.value) w.heard.table.distinct

pub ask-requires-clause-long : goal.ask-requires-clause-long
ask-requires-clause-long g c = let w : IsWorkedOff (side c.requires.rank.0 c.requires.rank.1.1.0.replies) c.args.self.now.heard c.args.self.now.list.items c.args.self.now.counted c.work_off.new.heard c.in_ok-wait.wait.items c.work_off.new.count = (worked_by c.requires.rank.0 (g.met.S.Source.seated c.args.source.now c.requires.rank.0 c.requires.rank.1.0).seat c.requires.rank.1.1.0 c.args.self.now c.requires.rank.1.1.1 c.deref.result.now c.deref.ensures.value c.work_off.new.heard c.in_ok-wait.wait.items c.work_off.new.count (c.in_ok-wait.ensures c.requires.rank.0 c.requires.rank.1.0)) in w.heard.long_asked ∙ ap length (sym c.deref-2.ensures.value)

pub ask-requires-clause-within : goal.ask-requires-clause-within
ask-requires-clause-within g c =
    let w : IsWorkedOff (side c.requires.rank.0 c.requires.rank.1.1.0.replies) c.args.self.now.heard c.args.self.now.list.items c.args.self.now.counted c.work_off.new.heard c.in_ok-wait.wait.items c.work_off.new.count = (worked_by c.requires.rank.0 (g.met.S.Source.seated c.args.source.now c.requires.rank.0 c.requires.rank.1.0).seat c.requires.rank.1.1.0 c.args.self.now c.requires.rank.1.1.1 c.deref.result.now c.deref.ensures.value c.work_off.new.heard c.in_ok-wait.wait.items c.work_off.new.count (c.in_ok-wait.ensures c.requires.rank.0 c.requires.rank.1.0)) in
    subst (λ (t : List SlotData). AllByRecursion (IsIn t) c.deref-3.result.now) (sym c.deref-2.ensures.value) (subst (AllByRecursion (IsIn c.work_off.new.heard.slots.items)) (sym c.deref-3.ensures.value) w.listed.within)

pub overflow_sub-result : goal.overflow_sub-result
overflow_sub-result g c = omega (arith, size_is c.requires.rank.0 (g.met.S.Source.seated c.args.source.now c.requires.rank.0 c.requires.rank.1.0).seat c.requires.rank.1.1.0 c.args.self.now c.requires.rank.1.1.1 c.work_off.new.heard c.in_ok-wait.wait.items c.work_off.new.count (worked_by c.requires.rank.0 (g.met.S.Source.seated c.args.source.now c.requires.rank.0 c.requires.rank.1.0).seat c.requires.rank.1.1.0 c.args.self.now c.requires.rank.1.1.1 c.deref.result.now c.deref.ensures.value c.work_off.new.heard c.in_ok-wait.wait.items c.work_off.new.count (c.in_ok-wait.ensures c.requires.rank.0 c.requires.rank.1.0)))

pub returns-clause-state : goal.returns-clause-state
returns-clause-state g c = λ z v s h. walked_state z (g.met.S.Source.seated c.args.source.now z v).seat s c.args.self.now h c.work_off.new.heard c.in_ok-wait.wait.items c.work_off.new.count (worked_by z (g.met.S.Source.seated c.args.source.now z v).seat s c.args.self.now h c.deref.result.now c.deref.ensures.value c.work_off.new.heard c.in_ok-wait.wait.items c.work_off.new.count (c.in_ok-wait.ensures z v)) c.ask.new.asked.items c.ask.new.places c.in_ok-asks.asks.items (asked_by c.work_off.new.heard.slots.items c.deref-2.result.now c.deref-2.ensures.value c.in_ok-wait.wait.items c.deref-3.result.now c.deref-3.ensures.value c.work_off.new.heard.asked.items c.ask.new.asked.items c.args.self.now.places c.ask.new.places c.in_ok-asks.asks.items c.in_ok-asks.ensures)
    _ refl refl refl refl refl refl refl refl refl

pub returns-clause-size : goal.returns-clause-size
returns-clause-size g c = λ z v s h. (let e : c.work_off.new.count ≡ c.args.self.now.counted + walked_size z s = size_is z (g.met.S.Source.seated c.args.source.now z v).seat s c.args.self.now h c.work_off.new.heard c.in_ok-wait.wait.items c.work_off.new.count (worked_by z (g.met.S.Source.seated c.args.source.now z v).seat s c.args.self.now h c.deref.result.now c.deref.ensures.value c.work_off.new.heard c.in_ok-wait.wait.items c.work_off.new.count (c.in_ok-wait.ensures z v)) in omega (arith, e))

pub returns-clause-asks : goal.returns-clause-asks
returns-clause-asks g c = λ z v s h. asks_are z (g.met.S.Source.seated c.args.source.now z v).seat s c.args.self.now h c.work_off.new.heard c.in_ok-wait.wait.items c.work_off.new.count (worked_by z (g.met.S.Source.seated c.args.source.now z v).seat s c.args.self.now h c.deref.result.now c.deref.ensures.value c.work_off.new.heard c.in_ok-wait.wait.items c.work_off.new.count (c.in_ok-wait.ensures z v)) c.ask.new.asked.items c.ask.new.places c.in_ok-asks.asks.items (asked_by c.work_off.new.heard.slots.items c.deref-2.result.now c.deref-2.ensures.value c.in_ok-wait.wait.items c.deref-3.result.now c.deref-3.ensures.value c.work_off.new.heard.asked.items c.ask.new.asked.items c.args.self.now.places c.ask.new.places c.in_ok-asks.asks.items c.in_ok-asks.ensures)
