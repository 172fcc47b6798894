use Rattle.std.proofs.Common.{◌≡◌, ◌<◌, ◌++◌, length, get_or, ap, sym, ◌∙◌, arith}
use Rattle.std.specs.List.{flat_map, zip}
use Rattle.std.proofs.lemmas.List.{take_all}
use Rattle.std.proofs.lemmas.Slice.Zip.{get_or-zip, length-zip}
use Rattle.restart_files.specs.Texts.{deep_body_bytes}
use Rattle.restart_files.proofs.Joins.{blank, one_more}
use Rattle.restart_files.proofs.write.push_deep_bodies.Goals as goal

pub loop-index-preserved : goal.loop-index-preserved
loop-index-preserved c =
    let bodies = c.args.state.now.bodies in
    let depths = c.args.state.now.depths in
    let i = c.loop-index.index in
    let long : c.len-index-end.result ≡ length bodies = c.len-index-end.ensures.value ∙ ap (λ t. length t.bodies) c.state.view_is in
    let inside : i < length bodies = omega (arith, long, c.loop-index-test.true) in
    let deep : i < length depths = omega (arith, inside, c.requires) in
    let pair : get_or (zip bodies depths) i (blank, 0) ≡ (get_or bodies i blank, get_or depths i 0) = get_or-zip bodies depths i (blank, 0) inside deep in
    one_more deep_body_bytes (zip bodies depths) i (blank, 0) _ _ _ (omega (arith, length-zip bodies depths, inside, deep)) c.loop-index.invariant
    (c.in_ok-push_deep_body.ensures blank ∙ ap (λ x. c.loop-index.out.items ++ deep_body_bytes x) (sym pair))

pub returns : goal.returns
returns c =
    let bodies = c.args.state.now.bodies in
    let depths = c.args.state.now.depths in
    let long : c.len-index-end.result ≡ length bodies = c.len-index-end.ensures.value ∙ ap (λ t. length t.bodies) c.state.view_is in
    c.loop-index.invariant
    ∙ ap (λ xs. c.args.out.now.items ++ flat_map deep_body_bytes xs) (take_all c.loop-index.index (zip bodies depths) (omega (arith, length-zip bodies depths, long, c.requires, c.loop-index-test.false)))
