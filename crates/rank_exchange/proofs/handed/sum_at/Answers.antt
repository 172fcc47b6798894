use Rattle.std.proofs.Common.{ap, ◌∙◌, sym, arith}
use Rattle.rank_exchange.specs.declared.keyed.Keyed.{Keyed}
use Rattle.rank_exchange.proofs.HandedOut.{not_there, one_key}
use Rattle.rank_exchange.proofs.handed.sum_at.Goals as goal

pub returns-then-at-entries : goal.returns-then-at-entries
returns-then-at-entries c = sym (not_there c.args.entries.now c.args.key c.place_of-at.result c.requires c.place_of-at.ensures (λ d l e. omega (arith, l, c.if-at-entries.true)))

pub returns-then-entry-key : goal.returns-then-entry-key
returns-then-entry-key c =
    ap (λ (e : Keyed). e.sum) (c.entry_at-entry.ensures c.entry_at-entry.result)
    ∙ sym (one_key c.args.entries.now c.requires c.place_of-at.result c.args.key c.entry_at-entry.result (omega (arith, c.place_of-at.ensures.within, c.if-at-entries.false)) (ap (λ (e : Keyed). e.key) (sym (c.entry_at-entry.ensures c.entry_at-entry.result)) ∙ c.if-entry-key.true))

pub returns : goal.returns
returns c = sym (not_there c.args.entries.now c.args.key c.place_of-at.result c.requires c.place_of-at.ensures (λ d l e. c.if-entry-key.false (ap (λ (e : Keyed). e.key) (c.entry_at-entry.ensures d) ∙ e)))
