use Rattle.std.proofs.Common.{ℕ, ◌≤◌, ◌+◌, ◌*◌, ◌^◌, SFits, ℤ, rules, to_z-of_z, to_z, of_z, arith, ◌∙◌}
use Rattle.std.specs.Prelude.{unsigned_abs}
use Rattle.std.specs.Int.{w32, w128}
use Rattle.ewald_table.specs.Mixed.{mixed, number}
use Rattle.ewald_table.proofs.Mixes.{pair_read, size_read}
use Rattle.ewald_table.proofs.correct.mean.Goals as goal

small_mix : (c : goal.After-mix_wide-high) → (unsigned_abs c.mix_wide-low.result ≤ 2 ^ 93) × (unsigned_abs c.mix_wide-high.result ≤ 2 ^ 93)
small_mix c =
    let a : unsigned_abs (to_z w128 (of_z w128 c.mix.result)) ≤ 2 ^ 62 = size_read c.mix.result (2 ^ 62) (record { sfits = c.mix.type_inv }) (omega (arith, c.mix.ensures.size, c.args.x.light)) in
    let b : unsigned_abs (to_z w128 (of_z w128 c.mix-2.result)) ≤ 2 ^ 62 = size_read c.mix-2.result (2 ^ 62) (record { sfits = c.mix-2.type_inv }) (omega (arith, c.mix-2.ensures.size, c.args.x.light)) in
    let d : unsigned_abs (to_z w128 (of_z w128 c.mix-3.result)) ≤ 2 ^ 62 = size_read c.mix-3.result (2 ^ 62) (record { sfits = c.mix-3.type_inv }) (omega (arith, c.mix-3.ensures.size, c.args.x.light)) in
    let e : unsigned_abs (to_z w128 (of_z w128 c.mix-4.result)) ≤ 2 ^ 62 = size_read c.mix-4.result (2 ^ 62) (record { sfits = c.mix-4.type_inv }) (omega (arith, c.mix-4.ensures.size, c.args.x.light)) in
    (omega (arith, c.mix_wide-low.ensures.size (2 ^ 62) a b, c.args.y.light), omega (arith, c.mix_wide-high.ensures.size (2 ^ 62) d e, c.args.y.light))

pub mix_wide-requires-clause-near : goal.mix_wide-requires-clause-near
mix_wide-requires-clause-near c = size_read c.mix_wide-low.result (2 ^ 93) (record { sfits = c.mix_wide-low.type_inv }) (small_mix c).0

pub mix_wide-requires-clause-far : goal.mix_wide-requires-clause-far
mix_wide-requires-clause-far c = size_read c.mix_wide-high.result (2 ^ 93) (record { sfits = c.mix_wide-high.type_inv }) (small_mix c).1

pub returns-clause-value : goal.returns-clause-value
returns-clause-value c =
    let n : ℕ → ℤ = number c.args.numbers in
    let f0 : SFits w32 (n 0) = search rules in
    let f1 : SFits w32 (n 1) = search rules in
    let f2 : SFits w32 (n 2) = search rules in
    let f3 : SFits w32 (n 3) = search rules in
    let f4 : SFits w32 (n 4) = search rules in
    let f5 : SFits w32 (n 5) = search rules in
    let f6 : SFits w32 (n 6) = search rules in
    let f7 : SFits w32 (n 7) = search rules in
    let m1 = pair_read w32 c.args.x c.mix.result (n 0) (n 1) f0 f1 c.mix.ensures.value in
    let m2 = pair_read w32 c.args.x c.mix-2.result (n 2) (n 3) f2 f3 c.mix-2.ensures.value in
    let m3 = pair_read w32 c.args.x c.mix-3.result (n 4) (n 5) f4 f5 c.mix-3.ensures.value in
    let m4 = pair_read w32 c.args.x c.mix-4.result (n 6) (n 7) f6 f7 c.mix-4.ensures.value in
    let low = pair_read w128 c.args.y c.mix_wide-low.result c.mix.result c.mix-2.result (record { sfits = c.mix.type_inv }) (record { sfits = c.mix-2.type_inv }) c.mix_wide-low.ensures.value ∙ (λ i. mixed c.args.y (m1 i) (m2 i)) in
    let high = pair_read w128 c.args.y c.mix_wide-high.result c.mix-3.result c.mix-4.result (record { sfits = c.mix-3.type_inv }) (record { sfits = c.mix-4.type_inv }) c.mix_wide-high.ensures.value ∙ (λ i. mixed c.args.y (m3 i) (m4 i)) in
    let fits : SFits w128 c.mix_wide.result = record { sfits = c.mix_wide.type_inv } in
    to_z-of_z fits ∙ pair_read w128 c.args.z c.mix_wide.result c.mix_wide-low.result c.mix_wide-high.result (record { sfits = c.mix_wide-low.type_inv }) (record { sfits = c.mix_wide-high.type_inv }) c.mix_wide.ensures.value
    ∙ (λ i. mixed c.args.z (low i) (high i))

pub returns-clause-size : goal.returns-clause-size
returns-clause-size c =
    let n : ℕ = (c.args.x.near + c.args.x.far) * 2 ^ 31 in
    let m : ℕ = (c.args.y.near + c.args.y.far) * n in
    let low = c.mix_wide-low.ensures.size n (size_read c.mix.result n (record { sfits = c.mix.type_inv }) c.mix.ensures.size) (size_read c.mix-2.result n (record { sfits = c.mix-2.type_inv }) c.mix-2.ensures.size) in
    let high = c.mix_wide-high.ensures.size n (size_read c.mix-3.result n (record { sfits = c.mix-3.type_inv }) c.mix-3.ensures.size) (size_read c.mix-4.result n (record { sfits = c.mix-4.type_inv }) c.mix-4.ensures.size) in
    size_read c.mix_wide.result ((c.args.z.near + c.args.z.far) * m) (record { sfits = c.mix_wide.type_inv })
    (c.mix_wide.ensures.size m (size_read c.mix_wide-low.result m (record { sfits = c.mix_wide-low.type_inv }) low) (size_read c.mix_wide-high.result m (record { sfits = c.mix_wide-high.type_inv }) high))
