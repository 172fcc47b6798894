use Rattle.std.proofs.Common.{◌+◌, ◌/◌, ◌%◌, sym, subst, arith}
use Rattle.cell_space.specs.Cells.{CellData, child}
use Rattle.hilbert_keys.specs.Steps.{IsOnWay}
use Rattle.hilbert_keys.proofs.Descents.{goes_down, room}
use Rattle.hilbert_keys.proofs.positions.go_down.Goals as goal

pub overflow_mul-result : goal.overflow_mul-result
overflow_mul-result c = omega (arith, (room c.args.key c.args.level c.args.spot.turn (record { level = c.args.level; x = c.args.spot.x; y = c.args.spot.y; z = c.args.spot.z }) c.requires.level c.requires.spot).0)

pub overflow_add-result : goal.overflow_add-result
overflow_add-result c = omega (arith, (room c.args.key c.args.level c.args.spot.turn (record { level = c.args.level; x = c.args.spot.x; y = c.args.spot.y; z = c.args.spot.z }) c.requires.level c.requires.spot).0)

pub overflow_mul-result-2 : goal.overflow_mul-result-2
overflow_mul-result-2 c = omega (arith, (room c.args.key c.args.level c.args.spot.turn (record { level = c.args.level; x = c.args.spot.x; y = c.args.spot.y; z = c.args.spot.z }) c.requires.level c.requires.spot).1)

pub overflow_add-result-2 : goal.overflow_add-result-2
overflow_add-result-2 c = omega (arith, (room c.args.key c.args.level c.args.spot.turn (record { level = c.args.level; x = c.args.spot.x; y = c.args.spot.y; z = c.args.spot.z }) c.requires.level c.requires.spot).1)

pub overflow_mul-result-3 : goal.overflow_mul-result-3
overflow_mul-result-3 c = omega (arith, (room c.args.key c.args.level c.args.spot.turn (record { level = c.args.level; x = c.args.spot.x; y = c.args.spot.y; z = c.args.spot.z }) c.requires.level c.requires.spot).2)

pub overflow_add-result-3 : goal.overflow_add-result-3
overflow_add-result-3 c = omega (arith, (room c.args.key c.args.level c.args.spot.turn (record { level = c.args.level; x = c.args.spot.x; y = c.args.spot.y; z = c.args.spot.z }) c.requires.level c.requires.spot).2)

pub returns : goal.returns
returns c =
    let d : CellData = record { level = c.args.level; x = c.args.spot.x; y = c.args.spot.y; z = c.args.spot.z } in
    subst (λ v. IsOnWay c.args.key (c.args.level + 1) (v / 8) (child d (v % 8))) (sym c.descent-next.ensures)
    (goes_down c.args.key c.args.level c.args.spot.turn c.digit_of.result d c.requires.level c.requires.spot c.digit_of.ensures.value c.digit_of.ensures.small)
