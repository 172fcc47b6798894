use Rattle.std.proofs.Common.{rules}
use Rattle.gadget.specs.Inputs.{inputs_of}
use Rattle.gadget.specs.Begins.{first_state}
use Rattle.gadget.specs.Answers.{anew, order_by, world}
use Rattle.gadget.proofs.SameRun.{ends_from_start}
use Rattle.gadget.proofs.sessions.run.Goals as goal

pub returns-clause-does : goal.returns-clause-does
returns-clause-does g c =
    let S = g.S.Store in
    let start = c.args.store.now in
    let read = c.load_run.new.store in
    let i = inputs_of c.in-Ok.begun.0 in
    let keeps = c.in-Ok.ensures.keeps in
    let quiet = c.in-Ok.ensures.quiet in
    record {
      inputs = i;
      bodies = c.in-Ok.begun.1;
      accepted = c.in-Ok.ensures.ok;
      first = rw (← c.first_state-state.ensures.is) (c.first_state-state.ensures.first);
      ends = ends_from_start (anew c.args.ranks) (S.tells start) (order_by g.K.Schedule) (world S g.K.Schedule g.Q.Stopper start c.args.order.now c.args.stop.now) _
          (S.tells read) (S.file read) (S.closed read) (S.faults read) (S.last read) i (first_state c.in-Ok.begun.1) _ keeps.tells keeps.files keeps.closed quiet.0 quiet.1
          (rw (← c.first_state-state.ensures.is) (c.run_from-ended.ensures.ends));
      setup = search rules;
    }
