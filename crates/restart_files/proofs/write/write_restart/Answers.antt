use Rattle.std.proofs.Common.{◌≡◌, IfOk, length, subst, sym, ap, ◌∙◌}
use Rattle.restart_files.proofs.Joins.{without, with_some}
use Rattle.restart_files.proofs.write.write_restart.Goals as goal

pub returns-then-len-eq0 : goal.returns-then-len-eq0
returns-then-len-eq0 c =
    let long : c.len.result ≡ length c.args.state.now.depths = c.len.ensures ∙ ap (λ t. length t.depths) c.state.view_is in
    subst (λ t. IfOk c.whole_text.result (λ text. text.items ≡ t)) (without c.args.state.now c.args.setup.now (sym long ∙ c.if-len-eq0.true)) c.whole_text.ensures

pub returns : goal.returns
returns c =
    let long : c.len.result ≡ length c.args.state.now.depths = c.len.ensures ∙ ap (λ t. length t.depths) c.state.view_is in
    subst (λ t. IfOk c.rest_text.result (λ text. text.items ≡ t)) (with_some c.args.state.now c.args.setup.now (λ e. c.if-len-eq0.false (long ∙ e))) c.rest_text.ensures
