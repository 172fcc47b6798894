use Rattle.std.proofs.Common.{◌≡◌, ◌++◌, length, codes, ap, ◌∙◌}
use Rattle.std.specs.List.{flat_map}
use Rattle.fixed_point.specs.Bytes.{bytes32, bytes64, bytes128}
use Rattle.nbody_model.specs.RestartText.{setup_numbers}
use Rattle.restart_files.specs.Texts.{counters_text}
use Rattle.restart_files.proofs.Joins.{headed}
use Rattle.fixed_point.proofs.Joins.{on_ok}
use Rattle.restart_files.proofs.write.push_head.Goals as goal

pub returns : goal.returns
unfolding counters_text
returns c =
    let σ = c.args.state.now in
    let s = c.args.setup.now in
    let count : c.len.result ≡ length σ.bodies = c.len.ensures.value ∙ ap (λ t. length t.bodies) c.state.view_is in
    on_ok c.push_numbers.result (λ e.
    headed (codes "I4RESTRT") (bytes32 c.args.version) (bytes32 (length σ.bodies)) (bytes64 σ.steps) (bytes64 σ.tick) (bytes64 σ.next_snapshot) (bytes64 σ.next_restart) (bytes64 σ.kicks) (bytes128 σ.interactions)
    (flat_map bytes64 (setup_numbers s)) c.args.out.now.items _ _ _ _ _ c.in_ok-push_bytes.ensures c.in_ok-push_word32.ensures
    (c.in_ok-push_word32-2.ensures ∙ ap (λ n. c.push_word32.new.out.items ++ bytes32 n) count) c.in_ok-push_counters.ensures
    (e ∙ ap (λ ns. c.push_counters.new.out.items ++ flat_map bytes64 ns) c.numbers_of.ensures)) c.push_numbers.ensures
