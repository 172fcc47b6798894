use Rattle.std.proofs.Common.{rules}
use Rattle.gadget.specs.Inputs.{inputs_of}
use Rattle.gadget.specs.Answers.{going_on, order_by, world}
use Rattle.gadget.proofs.Resumes.{goes_on}
use Rattle.gadget.proofs.SameRun.{ends_from_start}
use Rattle.gadget.proofs.sessions.resume.Goals as goal

pub returns-clause-does : goal.returns-clause-does
returns-clause-does g c =
    let S = g.S.Store in
    let start = c.args.store.now in
    let read = c.load_resume.new.store in
    let i = inputs_of c.in-Ok.begun.0 in
    let keeps = c.in-Ok.ensures.keeps in
    let quiet = c.in-Ok.ensures.quiet in
    record {
      inputs = i;
      state = c.in-Ok.begun.1;
      accepted = c.in-Ok.ensures.ok;
      goes_on = λ t. goes_on (S.file start) c.args.param.now c.args.restart.now i c.in-Ok.begun.1 c.setup_of-setup.ensures.ranges (c.in-Ok.ensures.ok t);
      ends = ends_from_start (going_on c.args.ranks) (S.tells start) (order_by g.K.Schedule) (world S g.K.Schedule g.Q.Stopper start c.args.order.now c.args.stop.now) _
          (S.tells read) (S.file read) (S.closed read) (S.faults read) (S.last read) i c.in-Ok.begun.1 _ keeps.tells keeps.files keeps.closed quiet.0 quiet.1
          c.run_from-ended.ensures.ends;
      setup = search rules;
    }
