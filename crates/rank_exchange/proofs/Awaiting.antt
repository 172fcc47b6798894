-- What the code keeps of a rank once it has heard a reply.
use Rattle.std.proofs.Common.{◌≡◌, true, false, ◌∷◌, ap, sym, ◌∙◌, subst}
use Rattle.std.specs.Prelude.{Option, None, Some}
use Rattle.std.proofs.lemmas.Bool.{false≢true}
use Rattle.rank_laws.specs.Machine.{Rank, Reply, is_one}
use Rattle.rank_laws.specs.Contents.{EntryData, reply_sent}
use Rattle.rank_laws.specs.Whole.{rules_of}
use Rattle.rank_walk.specs.declared.walker.Walker.{Walker}
use Rattle.rank_walk.specs.Walkers.{IsWalker, replied}
use Rattle.rank_exchange.specs.Moments.{Arrival, state_at}
use Rattle.rank_exchange.specs.Ranks.{IsRank, Keeps, KeepsWalk, Meets, RankData, seat_at}
use Rattle.rank_exchange.specs.Walks.{AwaitsAnswer}
use Rattle.rank_exchange.proofs.Ranked.{at_kind}
use Rattle.rank_exchange.proofs.Replied.{reply_awaited}
use Rattle.rank_exchange.proofs.Seated.{seated}
use Rattle.rank_exchange.proofs.Doing.{rank_walked}

module _ (a : Arrival) (v : RankData) (h : Meets a Reply v) where
  no_walker : KeepsWalk (seat_at a.moment) (state_at a.moment) None → ⊥
  no_walker k = false≢true (sym (ap (is_one a.message.cell) k.asked) ∙ (reply_awaited a h.kind).asked)

  pub has_walker : v.walker ≡ None → ⊥
  has_walker e = no_walker (subst (KeepsWalk (seat_at a.moment) (state_at a.moment)) e h.rank.most.walk)

  module _ (o : Walker) (f : v.walker ≡ Some o) where
    kept_for : KeepsWalk (seat_at a.moment) (state_at a.moment) (Some o)
    kept_for = subst (KeepsWalk (seat_at a.moment) (state_at a.moment)) f h.rank.most.walk

    pub awaits_reply : (e : Option EntryData) → e ≡ reply_sent a.moment.whole a.message.cell → AwaitsAnswer (seat_at a.moment) (state_at a.moment) o a.message.cell e
    awaits_reply e g = record {
      seat = seated a.moment;
      softenings = a.moment.softenings;
      along = a.moment.along;
      walker = kept_for.1;
      asked = (reply_awaited a h.kind).asked;
      new = (reply_awaited a h.kind).new;
      answer = g;
    }

    pub keeps_replied : (u : Walker) → IsWalker (seat_at a.moment) (replied (state_at a.moment) a.message.cell) u → Keeps a (record v { walker = Some u })
    keeps_replied u w =
        let s : Rank = state_at a.moment in
        at_kind (rules_of a.moment.whole) (state_at a.moment) a.message Reply (λ t. IsRank a.moment.whole a.moment.rank t (record v { walker = Some u })) h.kind
        (rank_walked a.moment.whole a.moment.rank (state_at a.moment) v s.walked s.list s.done s.asked (a.message.cell ∷ s.replies) (Some u) (kept_for.0, w) h.rank)
