-- What messages are to a contract: kind, sender, receiver and contents.
use Rattle.std.specs.Prelude.{◌≡◌, ◌<◌, ℕ, List, map}
use Rattle.std.specs.List.{AllByRecursion}
use Rattle.cell_space.specs.Cells.{CellData}
use Rattle.nbody_model.specs.declared.field.EventKind.{EventKind}
use Rattle.rank_laws.specs.Machine.{Kind, Message, Reply, message}
use Rattle.rank_laws.specs.Whole.{Whole, ranks_of}
use Rattle.rank_laws.specs.Contents.{Contents, OfTable, OfSums, OfWant, OfMembers, OfParts, OfAsk, OfReply, contents}
use Rattle.rank_laws.specs.Told.{told_kind}
use Rattle.rank_exchange.specs.declared.contents.Load.{Load}
use Rattle.rank_exchange.specs.declared.contents.Load.TheVariants.{Entries, Sums, Cells, Members, Shares, Cell, Answer}

-- a message as it travels
pub record MessageData : Type 0 where
  pub kind : EventKind
  pub from : ℕ
  pub to : ℕ
  pub contents : Contents

-- a message of the machine with its contents, which the whole fixes
abbrev pub filled : Whole → Message → MessageData
filled w m = record { kind = told_kind m.kind; from = m.from; to = m.to; contents = contents w m }

-- one message of a kind from a rank to each of some others
abbrev pub AreToEach : Whole → Kind → ℕ → List ℕ → List MessageData → Type 0
AreToEach w k r to out = out ≡ map (λ q. filled w (message k r q)) to

-- ranks that there are
abbrev pub AreRanks : Whole → List ℕ → Type 0
AreRanks w to = AllByRecursion (λ q. q < ranks_of w) to

-- the answer of a home to a rank that asks for a cell
abbrev pub reply_to : ℕ → ℕ → CellData → Message
reply_to h r c = record { kind = Reply; from = h; to = r; cell = c }

-- what a message carries
abbrev pub contents_of : Load → Contents
contents_of (Entries v) = OfTable v.items
contents_of (Sums v) = OfSums v.items
contents_of (Cells v) = OfWant v.items
contents_of (Members v) = OfMembers v.items
contents_of (Shares v) = OfParts v.items
contents_of (Cell c) = OfAsk c
contents_of (Answer e) = OfReply e
