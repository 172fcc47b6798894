use Rattle.std.proofs.Common.{pos, get_or, ap, rules, FitsSigned}
use Rattle.std.specs.Int.{w128}
use Rattle.nbody_model.specs.Steps.{kicked_by}
use Rattle.kick_drift.proofs.Axes.{out_x, out_y, out_z, out_none, plain, moves, leaves}
use Rattle.kick_drift.proofs.motion.kicked.Goals as goal

pub returns-in_default-clause-err : goal.returns-in_default-clause-err
returns-in_default-clause-err c =
    let v = c.mom-mom.ensures.value in
    let r = c.mom-mom.ensures.range in
    let f : FitsSigned w128 c.args.change.x = search rules in
    let x = plain _ c.args.motion.now.mom.x c.args.h c.args.change.x (ap (λ xs. get_or xs 0 (pos 0)) v) r.on_x f in
    out_x (kicked_by c.args.h c.args.motion.now.mom c.args.change) (leaves _ _ x c.in_default.ensures)

pub returns-in_default-scale_in_range-clause-err : goal.returns-in_default-scale_in_range-clause-err
returns-in_default-scale_in_range-clause-err c =
    let v = c.mom-mom.ensures.value in
    let r = c.mom-mom.ensures.range in
    let f : FitsSigned w128 c.args.change.x = search rules in
    let g : FitsSigned w128 c.args.change.y = search rules in
    let x = plain _ c.args.motion.now.mom.x c.args.h c.args.change.x (ap (λ xs. get_or xs 0 (pos 0)) v) r.on_x f in
    let y = plain _ c.args.motion.now.mom.y c.args.h c.args.change.y (ap (λ xs. get_or xs 1 (pos 0)) v) r.on_y g in
    out_y (kicked_by c.args.h c.args.motion.now.mom c.args.change) (moves _ _ x c.in-Some.ensures.0) (leaves _ _ y c.in_default-scale_in_range.ensures)

pub returns-in_default-scale_in_range-2-clause-err : goal.returns-in_default-scale_in_range-2-clause-err
returns-in_default-scale_in_range-2-clause-err c =
    let v = c.mom-mom.ensures.value in
    let r = c.mom-mom.ensures.range in
    let f : FitsSigned w128 c.args.change.x = search rules in
    let g : FitsSigned w128 c.args.change.y = search rules in
    let h : FitsSigned w128 c.args.change.z = search rules in
    let x = plain _ c.args.motion.now.mom.x c.args.h c.args.change.x (ap (λ xs. get_or xs 0 (pos 0)) v) r.on_x f in
    let y = plain _ c.args.motion.now.mom.y c.args.h c.args.change.y (ap (λ xs. get_or xs 1 (pos 0)) v) r.on_y g in
    let z = plain _ c.args.motion.now.mom.z c.args.h c.args.change.z (ap (λ xs. get_or xs 2 (pos 0)) v) r.on_z h in
    out_z (kicked_by c.args.h c.args.motion.now.mom c.args.change) (moves _ _ x c.in-Some.ensures.0) (moves _ _ y c.in-Some-scale_in_range.ensures.0) (leaves _ _ z c.in_default-scale_in_range-2.ensures)

pub returns-clause-in_range : goal.returns-clause-in_range
returns-clause-in_range c =
    let v = c.mom-mom.ensures.value in
    let r = c.mom-mom.ensures.range in
    let f : FitsSigned w128 c.args.change.x = search rules in
    let g : FitsSigned w128 c.args.change.y = search rules in
    let h : FitsSigned w128 c.args.change.z = search rules in
    let x = plain _ c.args.motion.now.mom.x c.args.h c.args.change.x (ap (λ xs. get_or xs 0 (pos 0)) v) r.on_x f in
    let y = plain _ c.args.motion.now.mom.y c.args.h c.args.change.y (ap (λ xs. get_or xs 1 (pos 0)) v) r.on_y g in
    let z = plain _ c.args.motion.now.mom.z c.args.h c.args.change.z (ap (λ xs. get_or xs 2 (pos 0)) v) r.on_z h in
    out_none (kicked_by c.args.h c.args.motion.now.mom c.args.change) (moves _ _ x c.in-Some.ensures.0) (moves _ _ y c.in-Some-scale_in_range.ensures.0) (moves _ _ z c.in-Some-scale_in_range-2.ensures.0)
