use Rattle.std.proofs.Common.{refl, sym, subst}
use Rattle.rank_exchange.specs.Moments.{state_at}
use Rattle.rank_exchange.specs.Ranks.{KeepsWalk, seat_at}
use Rattle.rank_exchange.proofs.walk.walk.Goals as goal

pub walk_by_rule-requires-clause-rank : goal.walk_by_rule-requires-clause-rank
walk_by_rule-requires-clause-rank c = (seat_at c.requires.0, (c.requires.1.post, (state_at c.requires.0, (c.in_ok-at.ensures (seat_at c.requires.0) (state_at c.requires.0) c.requires.1.post (subst (KeepsWalk (seat_at c.requires.0) (state_at c.requires.0)) (sym c.take.ensures.value) c.requires.1.kept)))))

pub returns-clause-state : goal.returns-clause-state
returns-clause-state c = λ m n. (refl, c.in_ok-walked.ensures.state (seat_at m) n.post (state_at m) (c.in_ok-at.ensures (seat_at m) (state_at m) n.post (subst (KeepsWalk (seat_at m) (state_at m)) (sym c.take.ensures.value) n.kept)))

pub returns-clause-size : goal.returns-clause-size
returns-clause-size c = λ m n. c.in_ok-walked.ensures.size (seat_at m) n.post (state_at m) (c.in_ok-at.ensures (seat_at m) (state_at m) n.post (subst (KeepsWalk (seat_at m) (state_at m)) (sym c.take.ensures.value) n.kept))

pub returns-clause-asks : goal.returns-clause-asks
returns-clause-asks c = λ m n. c.in_ok-walked.ensures.asks (seat_at m) n.post (state_at m) (c.in_ok-at.ensures (seat_at m) (state_at m) n.post (subst (KeepsWalk (seat_at m) (state_at m)) (sym c.take.ensures.value) n.kept))
