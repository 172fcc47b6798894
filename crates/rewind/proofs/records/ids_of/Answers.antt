use Rattle.std.proofs.Common.{◌≡◌, ◌∷◌, ◌++◌, ◌+◌, ◌*◌, [], ℕ, map, sym, ◌∙◌, arith}
use Rattle.std.specs.List.{range_with_len}
use Rattle.std.proofs.lemmas.List.FromFn.{map-range_with_len_more}
use Rattle.fixed_point.specs.Bytes.{word64_at}
use Rattle.rewind.proofs.records.ids_of.Goals as goal

pub loop-i-preserved : goal.loop-i-preserved
loop-i-preserved c =
    let f : ℕ → ℕ = λ i. word64_at c.args.bytes.now (c.args.at + 4 + 8 * i) in
    let i : ℕ = c.loop-i.i in
    let pushed : c.push.new.self.items ≡ c.loop-i.ids.items ++ c.word64.result ∷ [] = c.in_ok-push.ensures.items in
    let so_far : c.loop-i.ids.items ≡ map f (range_with_len 0 i) = c.loop-i.invariant in
    let here : c.word64.result ≡ f i = c.word64.ensures in
    pushed ∙ (λ j. so_far j ++ here j ∷ []) ∙ sym (map-range_with_len_more f 0 i i (omega arith))
