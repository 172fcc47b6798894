use Rattle.std.proofs.Common.{◌≡◌, ◌++◌, get_or, slice_index, sym, ap, ◌∙◌}
use Rattle.std.proofs.lemmas.Option.{get_or_from_slice_get}
use Rattle.fixed_point.specs.Bytes.{bytes32}
use Rattle.nbody_model.specs.RestartText.{body_bytes}
use Rattle.fixed_point.proofs.Joins.{on_ok, two}
use Rattle.restart_files.proofs.write.push_deep_body.Goals as goal

pub returns : goal.returns
returns c =
    let bodies = c.state.inside.set in
    let depths = c.state.inside.depth in
    let i = c.args.index in
    let depth : c.from.result ≡ slice_index depths i = c.from.ensures ∙ c.get-2.ensures in
    rw (← c.state.view_is) (on_ok c.push_word32.result (λ e d.
    let body : get_or bodies i d ≡ c.get.result.now = get_or_from_slice_get bodies i c.get.result.now d c.get.ensures in
    two (body_bytes (get_or bodies i d)) (bytes32 (slice_index depths i)) c.args.out.now.items _ _ (c.in_ok-push_body.ensures ∙ ap (λ b. c.args.out.now.items ++ body_bytes b) (sym body))
    (e ∙ ap (λ n. c.push_body.new.out.items ++ bytes32 n) depth)) c.push_word32.ensures)
