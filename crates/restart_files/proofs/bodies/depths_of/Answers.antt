use Rattle.std.proofs.Common.{◌≡◌, ℕ, List, [], ◌∷◌, ◌++◌, map, ap, sym, ◌∙◌, arith}
use Rattle.std.specs.List.{range_with_len}
use Rattle.std.proofs.lemmas.List.FromFn.{map-range_with_len_more}
use Rattle.restart_files.specs.RestartFile.{depth_in}
use Rattle.restart_files.proofs.bodies.depths_of.Goals as goal

pub loop-index-preserved : goal.loop-index-preserved
loop-index-preserved c =
    let f = depth_in c.args.bytes.now in
    let index = c.loop-index.index in
    let pushed : c.push.new.self.items ≡ c.loop-index.depths.items ++ c.depth_at.result ∷ [] = c.in_ok-push.ensures.items in
    let so_far : c.loop-index.depths.items ≡ map f (range_with_len 0 index) = c.loop-index.invariant in
    pushed ∙ ap (λ (xs : List ℕ). xs ++ c.depth_at.result ∷ []) so_far ∙ ap (λ (n : ℕ). map f (range_with_len 0 index) ++ n ∷ []) c.depth_at.ensures
    ∙ sym (map-range_with_len_more f 0 index index (omega arith))
