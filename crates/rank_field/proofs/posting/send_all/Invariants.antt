use Rattle.std.proofs.Common.{◌≡◌, ◌++◌}
use Rattle.rank_field.proofs.posting.send_all.Given as goal

abbrev pub invariant-loop-message : goal.invariant-loop-message
invariant-loop-message l = record {
  can_next : (goal.iterator-loop-message).can_next l.message-iterator;
  is_finite : (goal.iterator-loop-message).is_finite l.message-iterator;
  taken : l.yielded ++ l.message-iterator.rest.items ≡ l.fn.messages.items;
  sent : l.mail.messages ≡ l.fn.mail.messages ++ l.yielded;
  ready : l.mail.ready ≡ l.fn.mail.ready;
}
