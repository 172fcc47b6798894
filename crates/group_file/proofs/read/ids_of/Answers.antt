use Rattle.std.proofs.Common.{List, ℕ, ◌++◌, ◌∷◌, [], sym, ap, ◌∙◌, arith}
use Rattle.group_file.specs.GroupFile.{id_at, ids_at}
use Rattle.std.proofs.lemmas.List.FromFn.{map-range_with_len_more}
use Rattle.group_file.proofs.read.ids_of.Goals as goal

pub loop-k-preserved : goal.loop-k-preserved
loop-k-preserved c =
    c.in_ok-push.ensures.items ∙ ap (λ (xs : List ℕ). xs ++ c.id.result ∷ []) c.loop-k.invariant ∙ ap (λ (x : ℕ). ids_at c.args.bytes.now c.args.p c.loop-k.k ++ x ∷ []) c.id.ensures
    ∙ sym (map-range_with_len_more (id_at c.args.bytes.now c.args.p) 0 c.loop-k.k c.loop-k.k (omega arith))
