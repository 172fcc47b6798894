-- A cell that was asked for stands, and what its home answers is known of it.
use Rattle.std.proofs.Common.{◌≡◌, ℕ, true, ap, sym, ◌∙◌, subst}
use Rattle.std.specs.Prelude.{Option}
use Rattle.cell_space.specs.Cells.{CellData}
use Rattle.hilbert_keys.specs.Curve.{first_key}
use Rattle.rank_laws.specs.Contents.{EntryData}
use Rattle.rank_laws.specs.Machine.{Rank, is_one}
use Rattle.rank_walk.specs.declared.told.Known.{Known}
use Rattle.rank_walk.specs.declared.walker.Walker.{Walker}
use Rattle.rank_walk.specs.Seats.{IsKnown, Seat, Stands}
use Rattle.rank_walk.specs.Slots.{cells_in}
use Rattle.rank_walk.specs.Walkers.{Awaits, IsWalker}
use Rattle.rank_walk.proofs.Growth.{StandsAt, stands_at}
use Rattle.rank_walk.proofs.Unasked.{flag_stands}
use Rattle.rank_exchange.specs.Posts.{Answers}
use Rattle.rank_exchange.specs.Walks.{AwaitsAnswer}

asked_stands : (z : Seat) (s : Rank) (v : Walker) → IsWalker z s v → (c : CellData) → is_one c s.asked ≡ true → Stands c z
asked_stands z s v h c e =
    let a : StandsAt v.heard.slots.items c = stands_at v.heard.slots.items c (flag_stands (cells_in v.heard.slots.items) v.heard.asked.items c (h.kept.asked c ∙ e)) in
    subst (λ d. Stands d z) a.cell (h.heard.table.each a.place a.low).standing

pub answered : (z : Seat) (s : Rank) (v : Walker) (c : CellData) (e : Option EntryData) → AwaitsAnswer z s v c e → Answers z c e
answered z s v c e a = record { whole = a.seat.whole; softenings = a.softenings; standing = asked_stands z s v a.walker c a.asked; is = a.answer }

pub awaits : (z : Seat) (s : Rank) (v : Walker) (c : CellData) (e : Option EntryData) → AwaitsAnswer z s v c e → (first : ℕ) → first ≡ first_key c → (k : Known) → IsKnown z c k → Awaits z s v c first k
awaits z s v c e a first f k known = record {
  seat = a.seat;
  walker = a.walker;
  asked = a.asked;
  new = a.new;
  number = f ∙ sym (ap (λ t. t.first c) a.along);
  known = known;
}
