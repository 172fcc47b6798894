use Rattle.std.proofs.Common.{◌++◌, [], ◌∷◌, ap, sym, ◌∙◌, append_assoc}
use Rattle.rank_field.proofs.posting.send_all.Goals as goal

pub loop-message-preserved : goal.loop-message-preserved
loop-message-preserved c =
    let done = c.loop-message.yielded in
    let message = c.in-Some.message in
    let rest = c.next.new.self.rest.items in
    let old = c.args.mail.now.messages in
    record {
      can_next = tt;
      is_finite = tt;
      taken = append_assoc done (message ∷ []) rest ∙ ap (λ ms. done ++ ms) (sym c.in-Some.ensures.steps.0) ∙ c.loop-message.invariant.taken;
      sent = c.in_ok-send.ensures.ok ∙ ap (λ ms. ms ++ message ∷ []) c.loop-message.invariant.sent ∙ append_assoc old done (message ∷ []);
      ready = c.in_ok-send.ensures.ready ∙ c.loop-message.invariant.ready;
    }

pub returns-in_err-send-clause-ready : goal.returns-in_err-send-clause-ready
returns-in_err-send-clause-ready c = c.in_err-send.ensures.ready ∙ c.loop-message.invariant.ready
