use Rattle.std.proofs.Common.{length, refl, ap, sym, arith}
use Rattle.rank_walk.specs.declared.verdict.Verdict.TheVariants as verdicts
use Rattle.rank_walk.specs.Seats.{side}
use Rattle.rank_walk.specs.Tables.{IsIn, MayOpenPair}
use Rattle.rank_walk.specs.Walked.{Means}
use Rattle.rank_walk.proofs.Steps.{within, at_waits, counts_room, step_drops, step_opens, step_counts, step_means, step_fit}
use Rattle.rank_walk.proofs.walking.step.Goals as goal

pub judged-requires-clause-first : goal.judged-requires-clause-first
judged-requires-clause-first g c = let h : IsIn c.args.heard.now.slots.items c.args.x = within (side c.requires.at.0 c.requires.at.1.1.0) c.requires.at.1.1.1.0 c.args.heard.now c.args.stack.now.items c.args.wait.now.items c.args.x c.args.count.now c.requires.at.1.1.1.1 in omega (arith, h.first, ap length c.deref.ensures.value)

pub judged-requires-clause-second : goal.judged-requires-clause-second
judged-requires-clause-second g c = let h : IsIn c.args.heard.now.slots.items c.args.x = within (side c.requires.at.0 c.requires.at.1.1.0) c.requires.at.1.1.1.0 c.args.heard.now c.args.stack.now.items c.args.wait.now.items c.args.x c.args.count.now c.requires.at.1.1.1.1 in omega (arith, h.second, ap length c.deref.ensures.value)

pub judged-requires-clause-fit : goal.judged-requires-clause-fit
judged-requires-clause-fit g c = step_fit (side c.requires.at.0 c.requires.at.1.1.0) c.requires.at.1.1.1.0 c.args.heard.now c.args.stack.now.items c.args.wait.now.items c.args.x c.args.count.now c.requires.at.1.1.1.1 (g.S.Source.gravity c.args.source.now) (sym (g.met.S.Source.seated c.args.source.now c.requires.at.0 c.requires.at.1.0).gravity) c.deref.result.now c.deref.ensures.value

pub open_pair-requires-clause-within : goal.open_pair-requires-clause-within
open_pair-requires-clause-within g c = within (side c.requires.at.0 c.requires.at.1.1.0) c.requires.at.1.1.1.0 c.args.heard.now c.args.stack.now.items c.args.wait.now.items c.args.x c.args.count.now c.requires.at.1.1.1.1

pub open_pair-requires-clause-open : goal.open_pair-requires-clause-open
open_pair-requires-clause-open g c =
    let m : Means (side c.requires.at.0 c.requires.at.1.1.0) c.args.heard.now.slots.items c.args.x verdicts.Opens = (step_means (side c.requires.at.0 c.requires.at.1.1.0) c.requires.at.1.1.1.0 c.args.heard.now c.args.stack.now.items c.args.wait.now.items c.args.x c.args.count.now c.requires.at.1.1.1.1 (g.S.Source.gravity c.args.source.now) (sym (g.met.S.Source.seated c.args.source.now c.requires.at.0 c.requires.at.1.0).gravity) c.deref.result.now c.deref.ensures.value verdicts.Opens c.in-Opens.ensures.value) in
    let open_here : MayOpenPair c.args.heard.now c.args.x c.requires.at.0 = record { table = c.requires.at.1.1.1.1.heard.table; gives = m.2 } in
    (c.requires.at.0, (c.requires.at.1.0, open_here))

pub count_pair-requires-clause-differ : goal.count_pair-requires-clause-differ
count_pair-requires-clause-differ g c =
    let m : Means (side c.requires.at.0 c.requires.at.1.1.0) c.args.heard.now.slots.items c.args.x (verdicts.Counts c.in-Counts.turned c.in-Counts.force) = (step_means (side c.requires.at.0 c.requires.at.1.1.0) c.requires.at.1.1.1.0 c.args.heard.now c.args.stack.now.items c.args.wait.now.items c.args.x c.args.count.now c.requires.at.1.1.1.1 (g.S.Source.gravity c.args.source.now) (sym (g.met.S.Source.seated c.args.source.now c.requires.at.0 c.requires.at.1.0).gravity) c.deref.result.now c.deref.ensures.value (verdicts.Counts c.in-Counts.turned c.in-Counts.force) c.in-Counts.ensures.value) in
    m.5

pub count_pair-requires-clause-first : goal.count_pair-requires-clause-first
count_pair-requires-clause-first g c = let h : IsIn c.args.heard.now.slots.items c.args.x = within (side c.requires.at.0 c.requires.at.1.1.0) c.requires.at.1.1.1.0 c.args.heard.now c.args.stack.now.items c.args.wait.now.items c.args.x c.args.count.now c.requires.at.1.1.1.1 in omega (arith, h.first, c.requires.at.1.1.1.1.heard.long)

pub count_pair-requires-clause-second : goal.count_pair-requires-clause-second
count_pair-requires-clause-second g c = let h : IsIn c.args.heard.now.slots.items c.args.x = within (side c.requires.at.0 c.requires.at.1.1.0) c.requires.at.1.1.1.0 c.args.heard.now c.args.stack.now.items c.args.wait.now.items c.args.x c.args.count.now c.requires.at.1.1.1.1 in omega (arith, h.second, c.requires.at.1.1.1.1.heard.long)

pub count_pair-requires-clause-few : goal.count_pair-requires-clause-few
count_pair-requires-clause-few g c = counts_room (side c.requires.at.0 c.requires.at.1.1.0) c.requires.at.1.1.1.0 c.args.heard.now c.args.stack.now.items c.args.wait.now.items c.args.x c.args.count.now c.requires.at.1.1.1.1 c.in-Counts.turned c.in-Counts.force (step_means (side c.requires.at.0 c.requires.at.1.1.0) c.requires.at.1.1.1.0 c.args.heard.now c.args.stack.now.items c.args.wait.now.items c.args.x c.args.count.now c.requires.at.1.1.1.1 (g.S.Source.gravity c.args.source.now) (sym (g.met.S.Source.seated c.args.source.now c.requires.at.0 c.requires.at.1.0).gravity) c.deref.result.now c.deref.ensures.value (verdicts.Counts c.in-Counts.turned c.in-Counts.force) c.in-Counts.ensures.value)

pub count_pair-requires-clause-small : goal.count_pair-requires-clause-small
count_pair-requires-clause-small g c = c.requires.at.1.1.1.1.small

pub touch-requires-clause-first : goal.touch-requires-clause-first
touch-requires-clause-first g c = let h : IsIn c.args.heard.now.slots.items c.args.x = within (side c.requires.at.0 c.requires.at.1.1.0) c.requires.at.1.1.1.0 c.args.heard.now c.args.stack.now.items c.args.wait.now.items c.args.x c.args.count.now c.requires.at.1.1.1.1 in omega (arith, h.first, c.requires.at.1.1.1.1.heard.long_touched)

pub touch-requires-clause-second : goal.touch-requires-clause-second
touch-requires-clause-second g c = let h : IsIn c.args.heard.now.slots.items c.args.x = within (side c.requires.at.0 c.requires.at.1.1.0) c.requires.at.1.1.1.0 c.args.heard.now c.args.stack.now.items c.args.wait.now.items c.args.x c.args.count.now c.requires.at.1.1.1.1 in omega (arith, h.second, c.requires.at.1.1.1.1.heard.long_touched)

pub returns-in_ok-push-in-Waits : goal.returns-in_ok-push-in-Waits
returns-in_ok-push-in-Waits g c = record {
  at = λ z s replies p was. at_waits (side z replies) p c.args.heard.now c.args.stack.now.items c.args.wait.now.items c.args.x c.args.count.now was c.push.new.self.items c.in_ok-push-in-Waits.ensures.items (step_means (side z replies) p c.args.heard.now c.args.stack.now.items c.args.wait.now.items c.args.x c.args.count.now was (g.S.Source.gravity c.args.source.now) (sym (g.met.S.Source.seated c.args.source.now z s).gravity) c.deref.result.now c.deref.ensures.value verdicts.Waits c.in-Waits.ensures.value);
}

pub returns-in-Drops : goal.returns-in-Drops
returns-in-Drops g c = record {
  at = λ z s replies p was. step_drops (side z replies) p c.args.heard.now c.args.stack.now.items c.args.wait.now.items c.args.x c.args.count.now was (step_means (side z replies) p c.args.heard.now c.args.stack.now.items c.args.wait.now.items c.args.x c.args.count.now was (g.S.Source.gravity c.args.source.now) (sym (g.met.S.Source.seated c.args.source.now z s).gravity) c.deref.result.now c.deref.ensures.value verdicts.Drops c.in-Drops.ensures.value);
}

pub returns-in_ok-open_pair-in-Opens : goal.returns-in_ok-open_pair-in-Opens
returns-in_ok-open_pair-in-Opens g c = record {
  at = λ z s replies p was.
      let m : Means (side z replies) c.args.heard.now.slots.items c.args.x verdicts.Opens = (step_means (side z replies) p c.args.heard.now c.args.stack.now.items c.args.wait.now.items c.args.x c.args.count.now was (g.S.Source.gravity c.args.source.now) (sym (g.met.S.Source.seated c.args.source.now z s).gravity) c.deref.result.now c.deref.ensures.value verdicts.Opens c.in-Opens.ensures.value) in
      let may : MayOpenPair c.args.heard.now c.args.x z = record { table = was.heard.table; gives = m.2 } in
      step_opens (side z replies) p c.args.heard.now c.args.stack.now.items c.args.wait.now.items c.args.x c.args.count.now was m c.open_pair.new.heard c.open_pair.new.stack.items
      (c.in_ok-open_pair-in-Opens.ensures z s may).grown (c.in_ok-open_pair-in-Opens.ensures z s may).pushed;
}

pub returns-in-Counts : goal.returns-in-Counts
returns-in-Counts g c = record {
  at = λ z s replies p was. step_counts (side z replies) p c.args.heard.now c.args.stack.now.items c.args.wait.now.items c.args.x c.args.count.now was c.in-Counts.turned c.in-Counts.force (step_means (side z replies) p c.args.heard.now c.args.stack.now.items c.args.wait.now.items c.args.x c.args.count.now was (g.S.Source.gravity c.args.source.now) (sym (g.met.S.Source.seated c.args.source.now z s).gravity) c.deref.result.now c.deref.ensures.value (verdicts.Counts c.in-Counts.turned c.in-Counts.force) c.in-Counts.ensures.value) c.in-Counts.ensures.small
      _ refl c.count_pair.ensures.sums c.touch.ensures refl c.count_pair.new.count c.count_pair.ensures.count;
}
