-- What an event of the machine is told as: its kind, the ranks and its size.
use Rattle.std.specs.Prelude.{ℕ, Bool, true, false, length, Option, Some, None as Nothing, slice_get, if◌then◌else◌}
use Rattle.nbody_model.specs.declared.field.Event.{Event}
use Rattle.nbody_model.specs.declared.field.EventKind.{EventKind}
use Rattle.nbody_model.specs.declared.field.EventKind.TheVariants.{Build as ToldBuild, Walk as ToldWalk, Add as ToldAdd, Share as ToldShare, Table as ToldTable, Ask as ToldAsk, Reply as ToldReply, Sums as ToldSums, Want as ToldWant, Members as ToldMembers, Parts as ToldParts}
use Rattle.rank_laws.specs.Protocol.{World, Move, Acts, Comes, state}
use Rattle.rank_laws.specs.Machine.{Kind, Table, Sums, Want, Members, Parts, Ask, Reply, Message, Rank, Action, Build, Walk, Add, Share, None, action, done_after, machine}
use Rattle.rank_laws.specs.Whole.{Whole, rules_of, counted_in}
use Rattle.rank_laws.specs.Contents.{own_nodes, wanted, contents, size_of}

-- the size of an action: own nodes; interactions counted in this walk; cells
abbrev pub size_by : Whole → ℕ → Rank → Action → ℕ
size_by w r s Build = length (own_nodes w r)
size_by w r s Walk = length (counted_in w r (done_after (rules_of w) r s))
size_by w r s Add = length (wanted w r)
size_by w r s Share = length (wanted w r)
size_by w r s None = 0

-- a rank that can do nothing does not act, so what is said of it is never told; the same holds of an empty place of the mail
abbrev pub told_action : Action → EventKind
told_action Build = ToldBuild
told_action Walk = ToldWalk
told_action Add = ToldAdd
told_action Share = ToldShare
told_action None = ToldShare

abbrev pub told_kind : Kind → EventKind
told_kind Table = ToldTable
told_kind Sums = ToldSums
told_kind Want = ToldWant
told_kind Members = ToldMembers
told_kind Parts = ToldParts
told_kind Ask = ToldAsk
told_kind Reply = ToldReply

abbrev pub told_act : Whole → ℕ → Rank → Action → Event
told_act w r s a = record { kind = told_action a; «from» = r; to = r; size = size_by w r s a }

abbrev pub told_message : Whole → Option Message → Event
told_message w Nothing = record { kind = ToldTable; «from» = 0; to = 0; size = 0 }
told_message w (Some m) = record { kind = told_kind m.kind; «from» = m.from; to = m.to; size = size_of (contents w m) }

-- an event of the machine in a state, as it is told
abbrev pub told : Whole → World Rank Message → Move → Event
told w m (Acts r) = told_act w r (state (machine (rules_of w)) m r) (action (rules_of w) r (state (machine (rules_of w)) m r))
told w m (Comes k) = told_message w (slice_get m.mail k)

-- ---- told events by their kinds

abbrev pub is_ask : EventKind → Bool
is_ask ToldAsk = true
is_ask ToldBuild = false
is_ask ToldWalk = false
is_ask ToldAdd = false
is_ask ToldShare = false
is_ask ToldTable = false
is_ask ToldReply = false
is_ask ToldSums = false
is_ask ToldWant = false
is_ask ToldMembers = false
is_ask ToldParts = false

abbrev pub is_reply : EventKind → Bool
is_reply ToldReply = true
is_reply ToldBuild = false
is_reply ToldWalk = false
is_reply ToldAdd = false
is_reply ToldShare = false
is_reply ToldTable = false
is_reply ToldAsk = false
is_reply ToldSums = false
is_reply ToldWant = false
is_reply ToldMembers = false
is_reply ToldParts = false

abbrev pub is_walk : EventKind → Bool
is_walk ToldWalk = true
is_walk ToldBuild = false
is_walk ToldAdd = false
is_walk ToldShare = false
is_walk ToldTable = false
is_walk ToldAsk = false
is_walk ToldReply = false
is_walk ToldSums = false
is_walk ToldWant = false
is_walk ToldMembers = false
is_walk ToldParts = false

-- what an event counts, if it is a walk
abbrev pub walked_size : Event → ℕ
walked_size e = if is_walk e.kind then e.size else 0
