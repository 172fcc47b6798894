use Rattle.std.proofs.Common.{rules, arith, subst, sym, ◌≡◌, ◌<◌, ◌+◌, ◌++◌, ◌∷◌, [], length, get_or}
use Rattle.groups.specs.Chains.{IsFollowed, IsFirst}
use Rattle.groups.proofs.Chained.{followed_more, followed_all}
use Rattle.groups.proofs.chains.follow.Goals as goal

pub loop-place-preserved : goal.loop-place-preserved
loop-place-preserved c =
    let place = c.loop-place.place in
    let next = c.index-place-in-loop-place.result.now in
    let h : place < length c.args.heads.now = omega (arith, c.loop-place-test.true) in
    let at : get_or c.args.chains.now.next.items place next ≡ next = search rules in
    let more : c.push.new.self.items ≡ c.loop-place.list.items ++ (place ∷ []) = search rules in
    let goes : IsFirst c.args.heads.now (get_or c.args.heads.now place 0) (place + 1) next = subst (IsFirst c.args.heads.now (get_or c.args.heads.now place 0) (place + 1)) at (c.requires.chains.goes place next (omega arith) h) in
    subst (IsFollowed c.args.heads.now c.args.p next) (sym more) (followed_more c.args.heads.now c.args.p place next c.loop-place.list.items h c.loop-place.invariant goes)

pub returns : goal.returns
returns c = followed_all c.args.heads.now c.args.p c.loop-place.place c.loop-place.list.items (omega (arith, c.loop-place-test.false)) c.loop-place.invariant
