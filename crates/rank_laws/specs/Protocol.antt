-- A machine of ranks with a mail: which events may happen, their numbers, and what one changes.
use Rattle.std.specs.Prelude.{◌≡◌, ℕ, ◌+◌, ◌-◌, Bool, true, false, List, [], ◌∷◌, ◌++◌, length, filter, Option, Some, None, slice_get, slice_set, slice_index_or, nat_lt, if◌then◌else◌}
use Rattle.std.specs.List.{remove, range_with_len}
use Rattle.std.proofs.Common.{◌&&◌}

-- what a rank does by itself, and what a message does to a rank
pub record Protocol (S M : Type 0) : Type 0 where
  -- how many ranks there are, and the state of a rank before any event
  pub ranks : ℕ
  pub blank : S
  -- a rank in a state can act; its state after that; what it sends
  pub acts : ℕ → S → Bool
  pub act : ℕ → S → S
  pub sends : ℕ → S → List M
  -- a message's receiver; a receiver in a state takes it; its state after that; what it sends back
  pub to : M → ℕ
  pub accepts : M → S → Bool
  pub take : M → S → S
  pub answers : M → List M

-- the state of each rank, and the messages that are under way, the oldest first
pub record World (S M : Type 0) : Type 0 where
  pub states : List S
  pub mail : List M

-- an event: a rank acts, or the message at a place of the mail comes to its receiver
pub data Move : Type 0 where
  Acts : (rank : ℕ) → Move
  Comes : (place : ℕ) → Move

module _ {S M : Type 0} (p : Protocol S M) where
  abbrev pub state : World S M → ℕ → S
  state w r = slice_index_or w.states r p.blank

  -- a message comes: only its receiver changes, it leaves the mail, and its answers are put last
  abbrev pub comes : World S M → ℕ → Option M → World S M
  comes w k None = w
  comes w k (Some m) = record { states = slice_set w.states (p.to m) (p.take m (state w (p.to m))); mail = remove w.mail k ++ p.answers m }

  -- one event: where a rank acts, only that rank changes, and what it sends is put last into the mail
  abbrev pub happens : World S M → Move → World S M
  happens w (Acts r) = record { states = slice_set w.states r (p.act r (state w r)); mail = w.mail ++ p.sends r (state w r) }
  happens w (Comes k) = comes w k (slice_get w.mail k)

  abbrev pub may_come : World S M → Option M → Bool
  may_come w None = false
  may_come w (Some m) = p.accepts m (state w (p.to m))

  -- an event is enabled
  abbrev pub may : World S M → Move → Bool
  may w (Acts r) = nat_lt r p.ranks && p.acts r (state w r)
  may w (Comes k) = may_come w (slice_get w.mail k)

  -- the ranks that can act, ascending, and the places of the messages that may come, the oldest first
  abbrev pub acting : World S M → List ℕ
  acting w = filter (λ r. p.acts r (state w r)) (range_with_len 0 p.ranks)

  abbrev pub coming : World S M → List ℕ
  coming w = filter (λ k. may_come w (slice_get w.mail k)) (range_with_len 0 (length w.mail))

  -- how many events are enabled
  unfoldable pub enabled : World S M → ℕ
  enabled w = length (acting w) + length (coming w)

  -- the enabled event of a number, counted from 0: the actions first, then the messages
  unfoldable pub numbered : World S M → ℕ → Move
  numbered w n = if nat_lt n (length (acting w)) then Acts (slice_index_or (acting w) n 0) else Comes (slice_index_or (coming w) (n - length (acting w)) 0)

  -- these events happen one after another, each while it is enabled
  abbrev pub IsRun : World S M → List Move → World S M → Type 0
  IsRun w [] z = w ≡ z
  IsRun w (e ∷ es) z = (may w e ≡ true) × IsRun (happens w e) es z

  -- the message that an event delivers, if it delivers one
  abbrev pub listed : Option M → List M
  listed None = []
  listed (Some m) = m ∷ []

  abbrev pub comes_by : World S M → Move → List M
  comes_by w (Acts r) = []
  comes_by w (Comes k) = listed (slice_get w.mail k)

  -- the messages that these events deliver, in their order
  abbrev pub delivered : World S M → List Move → List M
  delivered w [] = []
  delivered w (e ∷ es) = comes_by w e ++ delivered (happens w e) es
