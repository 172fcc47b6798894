-- Messages in blocks.
use Rattle.std.specs.Prelude.{◌≡◌, ◌<◌, ℕ, ◌+◌, ◌-◌, ◌^◌, Bool, List, length, take, slice_index_or}
use Rattle.std.specs.List.{AllByRecursion, flat_map, sum_by}
use Rattle.rank_exchange.specs.Messages.{MessageData}
use Rattle.rank_mail.specs.Mails.{how_many}

-- some messages, and how many of them may come
pub record BlockData : Type 0 where
  pub messages : List MessageData
  pub coming : ℕ

-- those of all blocks
abbrev pub messages_in : List BlockData → List MessageData
messages_in bs = flat_map (λ b. b.messages) bs

abbrev pub coming_in : List BlockData → ℕ
coming_in bs = sum_by (λ b. b.coming) bs

-- a block knows how many of its messages may come
abbrev pub IsCounted : List Bool → BlockData → Type 0
IsCounted ready b = b.coming ≡ how_many ready b.messages

-- so do all; this is how many may come of all messages, and how many these are, no more than memory holds
pub record AreCounted (ready : List Bool) (bs : List BlockData) (coming many : ℕ) : Type 0 where
  pub each : AllByRecursion (IsCounted ready) bs
  pub come : coming ≡ coming_in bs
  pub all : many ≡ length (messages_in bs)
  pub few : many < 2 ^ 63

-- of the messages of all blocks that may come the one of number k is that of number `left` of the block at a place
pub record IsWithin (bs : List BlockData) (k at left : ℕ) : Type 0 where
  pub within : at < length bs
  pub before : coming_in (take at bs) + left ≡ k
  pub below : (d : BlockData) → left < (slice_index_or bs at d).coming

-- there is a block, and the last one has room for a message
pub record HasRoom (bs : List BlockData) : Type 0 where
  pub some : 0 < length bs
  pub last : (d : BlockData) → length (slice_index_or bs (length bs - 1) d).messages < 256
