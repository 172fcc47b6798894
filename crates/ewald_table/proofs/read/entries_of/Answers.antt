use Rattle.std.proofs.Common.{◌≡◌, ℕ, ◌*◌, ◌<◌, List, [], ◌∷◌, ◌++◌, map, find, Option, true, false, sym, ap, ◌∙◌, arith}
use Rattle.std.specs.List.{range_with_len}
use Rattle.std.specs.Option.{option_map}
use Rattle.std.proofs.lemmas.List.FromFn.{map-range_with_len_more}
use Rattle.fixed_point.specs.declared.V3.{V3}
use Rattle.ewald_table.specs.TableFile.{count_of, entry_in, leaves_plane, points_of}
use Rattle.ewald_table.specs.declared.errors.TableErr.{TableErr}
use Rattle.ewald_table.specs.declared.errors.TableErr.TheVariants.{PlaneNotZero}
use Rattle.ewald_table.proofs.Ranges.{none_more, first_found}
use Rattle.ewald_table.proofs.read.entries_of.Goals as goal

pub returns-then-leaves_plane-clause-err : goal.returns-then-leaves_plane-clause-err
returns-then-leaves_plane-clause-err c =
    let bytes = c.args.bytes.now in
    let g = c.args.g in
    let index = c.loop-index.index in
    let fault : ℕ → Option TableErr = λ g. option_map (λ i. PlaneNotZero i) (find (λ i. leaves_plane g i (entry_in bytes i)) (range_with_len 0 (count_of g))) in
    let points : c.points-points.result ≡ points_of g = c.points-points.ensures.value in
    let cube : c.points-points.result * c.points-points.result * c.points-points.result ≡ count_of g = ap (λ n. n * n * n) points in
    let below : index < count_of g = omega (arith, cube, c.loop-index-test.true) in
    let here : leaves_plane g index (entry_in bytes index) ≡ true = ap (leaves_plane g index) (sym c.entry-entry.ensures) ∙ sym c.leaves_plane.ensures ∙ c.if-leaves_plane.true in
    ap fault (sym c.requires.grid)
    ∙ ap (option_map (λ i. PlaneNotZero i)) (first_found (λ i. leaves_plane g i (entry_in bytes i)) index (count_of g) below c.loop-index.invariant.1 here)

pub loop-index-preserved : goal.loop-index-preserved
loop-index-preserved c =
    let bytes = c.args.bytes.now in
    let g = c.args.g in
    let f = entry_in bytes in
    let index = c.loop-index.index in
    let pushed : c.push.new.self.items ≡ c.loop-index.entries.items ++ c.entry-entry.result ∷ [] = c.in_ok-push.ensures.items in
    let here : leaves_plane g index (entry_in bytes index) ≡ false = ap (leaves_plane g index) (sym c.entry-entry.ensures) ∙ sym c.leaves_plane.ensures ∙ c.if-leaves_plane.false in (
      pushed ∙ ap (λ (es : List V3). es ++ c.entry-entry.result ∷ []) c.loop-index.invariant.0 ∙ ap (λ (e : V3). map f (range_with_len 0 index) ++ e ∷ []) c.entry-entry.ensures
          ∙ sym (map-range_with_len_more f 0 index index (omega arith)),
      none_more (λ i. leaves_plane g i (entry_in bytes i)) index c.loop-index.invariant.1 here,
    )
