use Rattle.std.proofs.Common.{arith}
use Rattle.std.proofs.lemmas.List.Sorted.{All-permutation, length_permutation}
use Rattle.particle_set.specs.Rows.{HasKind}
use Rattle.particle_set.proofs.Refusals.{if_ok, if_err, IsSetOf-permutation, IsFirstRefusal-permutation}
use Rattle.particle_set.proofs.body_set.BodySet.from_list.Goals as goal

pub from_sorted-requires-clause-kinds : goal.from_sorted-requires-clause-kinds
from_sorted-requires-clause-kinds c = rw c.deref.ensures.value (All-permutation HasKind c.args.rows.items c.sort_by_id.new.rows.items c.sort_by_id.ensures.permutation c.requires)

pub from_sorted-requires-clause-few : goal.from_sorted-requires-clause-few
from_sorted-requires-clause-few c = rw c.deref.ensures.value (omega (arith, length_permutation c.args.rows.items c.sort_by_id.new.rows.items c.sort_by_id.ensures.permutation))

pub returns-clause-ok : goal.returns-clause-ok
returns-clause-ok c = if_ok c.from_sorted.result (λ B h. IsSetOf-permutation c.args.rows.items c.sort_by_id.new.rows.items B c.sort_by_id.ensures.permutation (rw c.deref.ensures.value at h)) c.from_sorted.ensures.ok

pub returns-clause-err : goal.returns-clause-err
returns-clause-err c = if_err c.from_sorted.result (λ e h. IsFirstRefusal-permutation c.args.rows.items c.sort_by_id.new.rows.items e c.sort_by_id.ensures.permutation (rw c.deref.ensures.value at h)) c.from_sorted.ensures.err
