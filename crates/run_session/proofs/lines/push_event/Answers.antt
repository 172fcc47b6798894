use Rattle.std.proofs.Common.{◌∷◌, [], ◌++◌, ap, ◌∙◌}
use Rattle.nbody_model.specs.Texts.{event_word, event_ranks}
use Rattle.run_session.proofs.LineWords.{event_joined}
use Rattle.run_session.proofs.lines.push_event.Goals as goal

pub returns : goal.returns
returns c =
    let e = c.args.event.now in
    event_joined c.args.lines.now.items _ _ _ (event_word e.kind) (event_ranks e ++ e.size ∷ [])
    (c.in_ok-extend_from_slice.ensures.items ∙ ap (λ word. c.args.lines.now.items ++ word) c.event_word.ensures)
    c.in_ok-push_ranks.ensures c.in_ok-push.ensures.items
