use Rattle.std.proofs.Common.{◌≡◌, ◌+◌, ◌++◌, ◌∷◌, [], List, length, ap, ◌∙◌, rules, ℕ}
use Rattle.std.proofs.lemmas.List.{length-append}
use Rattle.rewind.specs.Kept.{SpanData, cut}
use Rattle.rewind.proofs.Spans.{cut_more}
use Rattle.rewind.proofs.bins.Bins.push.Goals as goal

pub returns : goal.returns
returns c =
    let ids : List ℕ = c.self.inside.ids.items in
    let more : List ℕ = c.args.fast.now in
    let all : c.extend_from_slice.new.self.items ≡ ids ++ more = search rules in
    let from : c.len-from.result ≡ length ids = search rules in
    let to : c.len-to.result ≡ length ids + length more = (let e : c.len-to.result ≡ length c.extend_from_slice.new.self.items = search rules in e ∙ ap length all ∙ length-append ids more) in
    let s : SpanData = record { from = c.len-from.result; to = c.len-to.result } in
    let spans : c.push.new.self.items ≡ c.self.inside.spans.items ++ s ∷ [] = c.in_ok-push.ensures.items in
    (λ i. cut (all i) (spans i)) ∙ cut_more ids more c.self.inside.spans.items s c.self.invariant from to ∙ ap (λ xs. xs ++ more ∷ []) c.self.view_is
