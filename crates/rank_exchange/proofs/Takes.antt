-- What a message carries says what a rank makes of it.
use Rattle.std.proofs.Common.{Vec, Global, ◌≡◌, ℕ, List, ap, sym, ◌∙◌, subst}
use Rattle.std.specs.Prelude.{Option}
use Rattle.cell_space.specs.Cells.{CellData}
use Rattle.rank_laws.specs.Contents.{Contents, EntryData, Given, Listed, Summed, contents, members_sent, parts_sent, reply_sent, sums_sent, table_sent, wanted}
use Rattle.rank_laws.specs.Machine.{Table, Sums, Want, Members, Parts, Ask, Reply}
use Rattle.rank_exchange.specs.declared.contents.Load.{Load}
use Rattle.rank_exchange.specs.declared.contents.Load.TheVariants as loads
use Rattle.rank_exchange.specs.Messages.{contents_of}
use Rattle.rank_exchange.specs.Moments.{Arrival}
use Rattle.rank_exchange.specs.Ranks.{Brings, Meets, RankData}
use Rattle.rank_exchange.proofs.Carried.{carries_ask, carries_members, carries_parts, carries_reply, carries_sums, carries_table, carries_want}

module _ (a : Arrival) (load : Load) (q : ℕ) (v : RankData) (h : Brings a (contents_of load) q v) where
  carried : (l : Load) → load ≡ l → contents_of l ≡ contents a.moment.whole a.message
  carried l e = subst (λ t. contents_of t ≡ contents a.moment.whole a.message) e h.carries

  pub brings_table : (es : Vec EntryData Global) → load ≡ loads.Entries es → Meets a Table v × (es.items ≡ table_sent a.moment.whole a.message.from a.moment.rank)
  brings_table es e = let p = carries_table a.moment.whole a.message es.items (carried (loads.Entries es) e) in (record { rank = h.rank; kind = p.0 }, p.1 ∙ ap (table_sent a.moment.whole a.message.from) a.to)

  pub brings_sums : (es : Vec Summed Global) → load ≡ loads.Sums es → Meets a Sums v × (es.items ≡ sums_sent a.moment.whole a.message.from a.moment.rank)
  brings_sums es e = let p = carries_sums a.moment.whole a.message es.items (carried (loads.Sums es) e) in (record { rank = h.rank; kind = p.0 }, p.1 ∙ ap (sums_sent a.moment.whole a.message.from) a.to)

  pub brings_want : (cs : Vec CellData Global) → load ≡ loads.Cells cs → Meets a Want v × (cs.items ≡ wanted a.moment.whole q)
  brings_want cs e = let p = carries_want a.moment.whole a.message cs.items (carried (loads.Cells cs) e) in (record { rank = h.rank; kind = p.0 }, p.1 ∙ ap (wanted a.moment.whole) h.sender)

  pub brings_members : (es : Vec Listed Global) → load ≡ loads.Members es → Meets a Members v × (es.items ≡ members_sent a.moment.whole q a.moment.rank)
  brings_members es e = let p = carries_members a.moment.whole a.message es.items (carried (loads.Members es) e) in (record { rank = h.rank; kind = p.0 }, p.1 ∙ (λ i. members_sent a.moment.whole (h.sender i) (a.to i)))

  pub brings_parts : (es : Vec Given Global) → load ≡ loads.Shares es → Meets a Parts v × (es.items ≡ parts_sent a.moment.whole a.message.from a.moment.rank)
  brings_parts es e = let p = carries_parts a.moment.whole a.message es.items (carried (loads.Shares es) e) in (record { rank = h.rank; kind = p.0 }, p.1 ∙ ap (parts_sent a.moment.whole a.message.from) a.to)

  pub brings_ask : (c : CellData) → load ≡ loads.Cell c → Meets a Ask v × (a.message.cell ≡ c)
  brings_ask c e = let p = carries_ask a.moment.whole a.message c (carried (loads.Cell c) e) in (record { rank = h.rank; kind = p.0 }, p.1)

  pub brings_reply : (o : Option EntryData) → load ≡ loads.Answer o → Meets a Reply v × (o ≡ reply_sent a.moment.whole a.message.cell)
  brings_reply o e = let p = carries_reply a.moment.whole a.message o (carried (loads.Answer o) e) in (record { rank = h.rank; kind = p.0 }, p.1)
