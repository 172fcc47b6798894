use Rattle.std.proofs.Common.{◌++◌, cond, [], map, ap, sym, ◌∙◌}
use Rattle.std.proofs.lemmas.List.{map-append}
use Rattle.std.proofs.lemmas.Simd.{map-map}
use Rattle.nbody_model.specs.Evolve.{is_empty}
use Rattle.rank_curve_laws.specs.Along.{keys_along}
use Rattle.rank_laws.specs.Machine.{Sums, ask, fresh, list_after, to_all}
use Rattle.rank_laws.specs.Whole.{rules_of}
use Rattle.rank_exchange.specs.Messages.{filled}
use Rattle.rank_exchange.specs.Moments.{state_at}
use Rattle.rank_exchange.proofs.rank.Rank.sent_after.Goals as goal

pub returns : goal.returns
returns c = λ m h e.
    c.in_ok-append.ensures.items
    ∙ ap (λ t. t ++ c.in_ok-sums.sums.items) (c.in_ok-sent.ensures m.whole (m.along ∙ ap keys_along h.bounds) ∙ (λ i. map (λ d. filled m.whole (ask (rules_of m.whole) (h.rank.most.number i) d)) (e i))
    ∙ sym (map-map (filled m.whole) (ask (rules_of m.whole) m.rank) (fresh (rules_of m.whole) m.rank (state_at m))))
    ∙ ap (λ t. map (filled m.whole) (map (ask (rules_of m.whole) m.rank) (fresh (rules_of m.whole) m.rank (state_at m))) ++ t) (c.in_ok-sums.ensures m h)
    ∙ sym (map-append (filled m.whole) (map (ask (rules_of m.whole) m.rank) (fresh (rules_of m.whole) m.rank (state_at m))) (cond (is_empty (list_after (rules_of m.whole) m.rank (state_at m))) (to_all (rules_of m.whole) Sums m.rank) []))
