-- A reply that comes to a rank was asked for, and hasn't come before.
use Rattle.std.proofs.Common.{◌≡◌, ℕ, ◌+◌, ◌<◌, ◌≤◌, Bool, true, false, cond, ◌||◌, List, ◌∷◌, map, sum_by, refl, ap, ◌∙◌, arith, subst}
use Rattle.std.proofs.lemmas.Bool.{cond-true}
use Rattle.std.proofs.lemmas.List.Sums.{sum_by-append, sum_by-cons}
use Rattle.cell_space.specs.Cells.{CellData, same_cell}
use Rattle.cell_space.proofs.Cells.{same_cell-exact}
use Rattle.model_laws.proofs.Sums.{sum_by-mapped}
use Rattle.rank_laws.specs.Homes.{home}
use Rattle.rank_laws.specs.Machine.{Kind, Message, Rank, Reply, Rules, is_one, kept, machine}
use Rattle.rank_laws.specs.Runs.{IsFair, received, unsent}
use Rattle.rank_laws.specs.Whole.{ranks_of, rules_of}
use Rattle.rank_laws.proofs.Fairness.{rules_fair}
use Rattle.rank_laws.proofs.Machine.{IsGood, IsSteady, left}
use Rattle.rank_laws.proofs.Protocol.{over-part, share}
use Rattle.rank_laws.proofs.Taken.{first, mark, message_once, reply, reply_marked, sum-le}
use Rattle.rank_laws.proofs.Waiting.{often, often_some}
use Rattle.rank_exchange.specs.Moments.{Arrival, Moment, state_at}
use Rattle.rank_exchange.proofs.Moves.{arrived, state_arrived}
use Rattle.rank_exchange.proofs.Senders.{is_kept}

-- its cell was asked for, and no reply on it came before
pub record IsAwaited (a : Arrival) : Type 0 where
  pub asked : is_one a.message.cell (state_at a.moment).asked ≡ true
  pub new : is_one a.message.cell (state_at a.moment).replies ≡ false

module _ (m : Moment) (c : CellData) where
  abbrev rules : Rules
  rules = rules_of m.whole

  abbrev s : Rank
  s = state_at m

  abbrev weight : Message → ℕ
  weight = mark (reply rules m.rank c)

  -- of the replies on one cell that came there is one at most
  once : often same_cell same_cell-exact c s.replies ≤ 1
  once =
      let fair : IsFair rules = rules_fair m.whole m.is_whole in
      let kept = is_kept rules fair m.events m.world m.run in
      omega (
        arith,
        sum-le (λ d. cond (same_cell c d) 1 0) (λ d. weight (reply rules m.rank d)) (reply_marked rules fair m.rank c) s.replies,
        sum_by-mapped weight (λ d. reply rules m.rank d) s.replies,
        sum_by-append weight (map (λ d. reply rules m.rank d) s.replies) s.got,
        kept.every weight,
        over-part (machine rules) (share (machine rules) (unsent rules) (received rules) (left rules) (IsSteady rules) (IsGood rules) (first rules fair) weight) m.world.states m.rank (omega (arith, kept.size, m.within)),
        message_once rules fair Reply (home m.whole.keys c) m.rank c,
      )

module _ (a : Arrival) (e : a.message.kind ≡ Reply) where
  abbrev c : CellData
  c = a.message.cell

  abbrev old : Rank
  old = state_at a.moment

  -- the rank with the reply
  with_it : state_at (arrived a) ≡ record old { replies = c ∷ old.replies }
  with_it = state_arrived a ∙ ap (kept (rules_of a.moment.whole) a.message old) e

  itself : same_cell c c ≡ true
  itself = (same_cell-exact c c).1 refl

  steady : IsSteady (rules_of a.moment.whole) a.moment.rank (record old { replies = c ∷ old.replies })
  steady = subst (IsSteady (rules_of a.moment.whole) a.moment.rank) with_it
      ((is_kept (rules_of a.moment.whole) (rules_fair a.moment.whole a.moment.is_whole) (arrived a).events (arrived a).world (arrived a).run).local a.moment.rank a.moment.within)

  is_new : is_one c old.replies ≡ false
  is_new = by (is_one c old.replies) refl
    where
      by : (b : Bool) → is_one c old.replies ≡ b → b ≡ false
      by false f = refl
      by true f = absurd (omega (
        arith,
        once (arrived a) c,
        ap (λ t. sum_by (λ d. cond {A = ℕ} (same_cell c d) 1 0) t.replies) with_it,
        sum_by-cons (λ d. cond {A = ℕ} (same_cell c d) 1 0) c old.replies,
        cond-true {A = ℕ} (same_cell c c) 1 0 itself,
        often_some same_cell same_cell-exact c old.replies f,
      ))

  pub reply_awaited : IsAwaited a
  reply_awaited = record { asked = steady.answered c (ap (λ b. b || is_one c old.replies) itself); new = is_new }
