use Rattle.std.proofs.Common.{codes, ◌∙◌, ap}
use Rattle.std.specs.Prelude.{◌++◌, List, ℕ}
use Rattle.nbody_model.specs.Bodies.{vector}
use Rattle.gadget.specs.Texts.{counted, vector_text}
use Rattle.gadget.proofs.Joins.{join_done}
use Rattle.gadget.proofs.run_texts.done_line.Goals as goal

pub returns : goal.returns
returns c =
    let run = c.args.run.now in
    let first = c.in_ok-push_two.ensures ∙ ap (λ (l : List ℕ). l ++ (counted (codes "done tick") run.tick ++ counted (codes " steps") run.steps)) c.new-line.ensures.items in
    join_done (counted (codes "done tick") run.tick) (counted (codes " steps") run.steps) (counted (codes " snapshots") run.snapshots) (counted (codes " kicks") run.kicks)
    (counted (codes " interactions") run.interactions) (codes " momentum") (vector_text (vector run.momentum)) (codes "\n")
    c.push_two.new.line.items c.push_two-2.new.line.items c.push_counted.new.line.items c.extend_from_slice.new.self.items c.push_vector.new.line.items c.push.new.self.items
    first c.in_ok-push_two-2.ensures c.in_ok-push_counted.ensures c.in_ok-extend_from_slice.ensures.items c.in_ok-push_vector.ensures c.in_ok-push.ensures.items
