use Rattle.std.proofs.Common.{◌≡◌, ◌≤◌, ◌<◌, ◌+◌, ◌-◌, ℕ, length, get_or, subst, sym, arith, rules}
use Rattle.rewind.proofs.Ascending.{ascends_true, falls}
use Rattle.rewind.proofs.records.ascends.Goals as goal

pub returns-then-ids-i : goal.returns-then-ids-i
returns-then-ids-i c =
    let i : ℕ = c.loop-i.i in
    let one : 1 ≤ i = search rules in
    let lt : i < length c.args.ids.now = search rules in
    let up : i - 1 + 1 ≡ i = omega (arith, one) in
    let le : get_or c.args.ids.now i 0 ≤ get_or c.args.ids.now (i - 1) 0 = search rules in
    sym (falls c.args.ids.now (i - 1) (omega (arith, up, lt)) (subst (λ n. get_or c.args.ids.now n 0 ≤ get_or c.args.ids.now (i - 1) 0) (sym up) le))

pub returns : goal.returns
returns c =
    let all : length c.args.ids.now ≤ c.loop-i.i = search rules in
    sym (ascends_true c.args.ids.now (λ k l. c.loop-i.invariant k (omega (arith, l, all))))
