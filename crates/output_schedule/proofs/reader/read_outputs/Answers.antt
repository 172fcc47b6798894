use Rattle.std.proofs.Common.{length, ap, arith}
use Rattle.std.proofs.lemmas.List.Filters.{dedup_is}
use Rattle.std.proofs.lemmas.List.Kept.{Contains-dedup_nat, Contains-from_dedup}
use Rattle.std.proofs.lemmas.List.Sorted.{Contains-permutation, IsPermutation-sym}
use Rattle.std.proofs.lemmas.Map.Keys.{IsStrictlyIncreasing-dedup}
use Rattle.std.proofs.lemmas.Result.{err_from_is_err_and}
use Rattle.output_schedule.proofs.Firsts.{good_all, fault_read}
use Rattle.output_schedule.proofs.reader.read_outputs.Goals as goal

pub returns-in_err-times-clause-err : goal.returns-in_err-times-clause-err
returns-in_err-times-clause-err c =
    let p = err_from_is_err_and c.from_residual.result c.from_residual.ensures.1 in
    rw (p.1, p.2) (fault_read _ _ c.in_err-times.ensures.err)

pub returns-then-len-gt-MOST-clause-err : goal.returns-then-len-gt-MOST-clause-err
returns-then-len-gt-MOST-clause-err c =
    let read = ap length c.in_ok-times.ensures.times in
    record {
      good = good_all _ c.in_ok-times.ensures.good;
      counted = omega (arith, c.in_ok-times.times.ok);
      many = omega arith;
    }

pub returns-clause-ok : goal.returns-clause-ok
returns-clause-ok c =
    let is = dedup_is _ _ _ c.dedup.ensures.filtered in
    let moved = c.sort_unstable.ensures.permutation in
    let read = c.in_ok-times.ensures.times in
    let counted = ap length read in
    record {
      good = good_all _ c.in_ok-times.ensures.good;
      few = omega (arith, c.in_ok-times.times.ok);
      ascending = rw is (IsStrictlyIncreasing-dedup _ c.sort_unstable.ensures.sorted);
      same = λ time. (
        λ h. rw (← read) (Contains-permutation _ _ time (IsPermutation-sym _ _ moved) (Contains-from_dedup _ _ time (rw is at h))),
        (λ h. rw is (Contains-dedup_nat _ time (Contains-permutation _ _ time moved (rw (← read) at h)))),
      );
    }
