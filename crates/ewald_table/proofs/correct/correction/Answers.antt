use Rattle.std.proofs.Common.{ℕ, ◌≡◌, ◌-◌, ◌*◌, ◌^◌, ℤ, pos, get_or, SFits, rules, sym, ap, ◌∙◌}
use Rattle.std.specs.Prelude.{unsigned_abs}
use Rattle.std.specs.Int.{w64}
use Rattle.nbody_model.specs.Tables.{TableData}
use Rattle.nbody_model.specs.Correction.{spacing, mean, correction}
use Rattle.ewald_table.specs.Mixed.{mixed_all}
use Rattle.ewald_table.proofs.Mixes.{size_read}
use Rattle.ewald_table.proofs.Trilinear.{At, nested_is, mean_x, mean_y, mean_z}
use Rattle.ewald_table.proofs.Joined.{cube_of, mean_small, at_size, axis_is}
use Rattle.ewald_table.proofs.correct.correction.Goals as goal

pub shifted-requires-clause-small : goal.shifted-requires-clause-small
shifted-requires-clause-small c =
    size_read c.mean.result (2 ^ (3 * (31 - c.table.inside.g)) * 2 ^ 31) (record { sfits = c.mean.type_inv })
    (mean_small c.args.table.now c.table.inside.g (unsigned_abs c.mean.result) _ _ _ (ap (λ (t : TableData). t.g) c.table.view_is) c.place_of-x.ensures.whole c.place_of-y.ensures.whole c.place_of-z.ensures.whole c.mean.ensures.size)

pub shifted-requires-2-clause-small : goal.shifted-requires-2-clause-small
shifted-requires-2-clause-small c =
    size_read c.mean-2.result (2 ^ (3 * (31 - c.table.inside.g)) * 2 ^ 31) (record { sfits = c.mean-2.type_inv })
    (mean_small c.args.table.now c.table.inside.g (unsigned_abs c.mean-2.result) _ _ _ (ap (λ (t : TableData). t.g) c.table.view_is) c.place_of-x.ensures.whole c.place_of-y.ensures.whole c.place_of-z.ensures.whole c.mean-2.ensures.size)

pub shifted-requires-3-clause-small : goal.shifted-requires-3-clause-small
shifted-requires-3-clause-small c =
    size_read c.mean-3.result (2 ^ (3 * (31 - c.table.inside.g)) * 2 ^ 31) (record { sfits = c.mean-3.type_inv })
    (mean_small c.args.table.now c.table.inside.g (unsigned_abs c.mean-3.result) _ _ _ (ap (λ (t : TableData). t.g) c.table.view_is) c.place_of-x.ensures.whole c.place_of-y.ensures.whole c.place_of-z.ensures.whole c.mean-3.ensures.size)

pub returns-clause-value : goal.returns-clause-value
unfolding correction
returns-clause-value c =
    let t : TableData = c.args.table.now in
    let d0 : ℤ = get_or c.args.d 0 (pos 0) in
    let d1 : ℤ = get_or c.args.d 1 (pos 0) in
    let d2 : ℤ = get_or c.args.d 2 (pos 0) in
    let f0 : SFits w64 d0 = search rules in
    let f1 : SFits w64 d1 = search rules in
    let f2 : SFits w64 d2 = search rules in
    let at_x : At t c.place_of-x.result (unsigned_abs d0) = at_size t c.place_of-x.result c.unsigned_abs.result d0 f0 c.unsigned_abs.ensures.value c.place_of-x.ensures.step c.place_of-x.ensures.near c.place_of-x.ensures.far in
    let at_y : At t c.place_of-y.result (unsigned_abs d1) = at_size t c.place_of-y.result c.unsigned_abs-2.result d1 f1 c.unsigned_abs-2.ensures.value c.place_of-y.ensures.step c.place_of-y.ensures.near c.place_of-y.ensures.far in
    let at_z : At t c.place_of-z.result (unsigned_abs d2) = at_size t c.place_of-z.result c.unsigned_abs-3.result d2 f2 c.unsigned_abs-3.ensures.value c.place_of-z.ensures.step c.place_of-z.ensures.near c.place_of-z.ensures.far in
    let cube : 2 ^ (3 * (31 - c.table.inside.g)) ≡ spacing t * spacing t * spacing t = cube_of t c.table.inside.g (ap (λ (t : TableData). t.g) c.table.view_is) in
    let x = c.place_of-x.result in
    let y = c.place_of-y.result in
    let z = c.place_of-z.result in
    let u : ℕ = unsigned_abs d0 in
    let v : ℕ = unsigned_abs d1 in
    let w : ℕ = unsigned_abs d2 in
    let on_x : c.mean.result ≡ (mean t u v w).x = c.mean.ensures.value ∙ ap (mixed_all x y z) c.corners_of-numbers.ensures.x ∙ nested_is (λ e. e.x) t x y z u v w at_x at_y at_z ∙ sym (mean_x t u v w) in
    let on_y : c.mean-2.result ≡ (mean t u v w).y = c.mean-2.ensures.value ∙ ap (mixed_all x y z) c.corners_of-numbers.ensures.y ∙ nested_is (λ e. e.y) t x y z u v w at_x at_y at_z ∙ sym (mean_y t u v w) in
    let on_z : c.mean-3.result ≡ (mean t u v w).z = c.mean-3.ensures.value ∙ ap (mixed_all x y z) c.corners_of-numbers.ensures.z ∙ nested_is (λ e. e.z) t x y z u v w at_x at_y at_z ∙ sym (mean_z t u v w) in
    let got_x = axis_is d0 c.shifted.result c.mean.result c.with_sign.result (mean t u v w).x (3 * (31 - c.table.inside.g)) (spacing t * spacing t * spacing t) f0
    (record { sfits = c.shifted.type_inv }) (record { sfits = c.with_sign.type_inv }) (record { sfits = c.mean.type_inv }) c.with_sign.ensures.value c.shifted.ensures.value on_x cube in
    let got_y = axis_is d1 c.shifted-2.result c.mean-2.result c.with_sign-2.result (mean t u v w).y (3 * (31 - c.table.inside.g)) (spacing t * spacing t * spacing t) f1
    (record { sfits = c.shifted-2.type_inv }) (record { sfits = c.with_sign-2.type_inv }) (record { sfits = c.mean-2.type_inv }) c.with_sign-2.ensures.value c.shifted-2.ensures.value on_y cube in
    let got_z = axis_is d2 c.shifted-3.result c.mean-3.result c.with_sign-3.result (mean t u v w).z (3 * (31 - c.table.inside.g)) (spacing t * spacing t * spacing t) f2
    (record { sfits = c.shifted-3.type_inv }) (record { sfits = c.with_sign-3.type_inv }) (record { sfits = c.mean-3.type_inv }) c.with_sign-3.ensures.value c.shifted-3.ensures.value on_z cube in
    λ i. record { x = got_x i; y = got_y i; z = got_z i }
