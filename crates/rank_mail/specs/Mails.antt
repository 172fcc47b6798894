-- Messages under way, of which some have to wait.
use Rattle.std.specs.Prelude.{◌≡◌, ℕ, Bool, true, false, if◌then◌else◌, List, take, slice_index_or, slice_get, Some}
use Rattle.std.specs.List.{count_by, remove}
use Rattle.rank_laws.specs.Told.{is_ask}
use Rattle.rank_exchange.specs.Messages.{MessageData}

-- messages, the oldest first, and of each rank whether it is ready
pub record MailData : Type 0 where
  pub messages : List MessageData
  pub ready : List Bool

-- a message may come: only an ask may have to wait, until its receiver is ready
abbrev pub may_come : List Bool → MessageData → Bool
may_come ready m = if is_ask m.kind then slice_index_or ready m.to false else true

-- how many of some messages may come
abbrev pub how_many : List Bool → List MessageData → ℕ
how_many ready ms = count_by (may_come ready) ms

-- a message was taken out of some: of those that may come it was the one of a number, counted from 0
pub record IsTaken (ready : List Bool) (k : ℕ) (old : List MessageData) (m : MessageData) (new : List MessageData) : Type 0 where
  pub place : ℕ
  pub there : slice_get old place ≡ Some m
  pub comes : may_come ready m ≡ true
  pub number : how_many ready (take place old) ≡ k
  pub left : new ≡ remove old place

-- the mail after a message was taken out of it
pub record HasTaken (k : ℕ) (old : MailData) (m : MessageData) (new : MailData) : Type 0 where
  pub taken : IsTaken old.ready k old.messages m new.messages
  pub ready : new.ready ≡ old.ready
