-- What messages contain: a function of the whole and of a message's kind, sender, receiver and cell, whatever events came
-- before. What a rank keeps for itself is what it would send to itself.
use Rattle.std.specs.Prelude.{ℕ, ◌==◌, Bool, ◌||◌, ◌&&◌, not, nat_lt, List, [], length, map, filter, Option, Some, None, if◌then◌else◌}
use Rattle.std.specs.List.{flat_map, list_any}
use Rattle.fixed_point.specs.declared.V3.{V3}
use Rattle.fixed_point.specs.Vectors.{sum_of}
use Rattle.cell_space.specs.Cells.{Position, CellData, below, cell_at, child, contains, corner, same_cell}
use Rattle.nbody_model.specs.Bodies.{BodyData}
use Rattle.nbody_model.specs.Nodes.{is_leaf, is_node, members, positions_of}
use Rattle.nbody_model.specs.Force.{cells_around, pair_force, force_on, share_of}
use Rattle.node_moments.specs.Sums.{RawData, raw_of}
use Rattle.force_sharing.specs.Sharing.{Member, body_of}
use Rattle.rank_laws.specs.Homes.{home, in_span}
use Rattle.rank_laws.specs.Machine.{Kind, Table, Sums, Want, Members, Parts, Ask, Reply, Message, cells_of}
use Rattle.rank_laws.specs.Whole.{Whole, ranks, own, in_order, counted}

-- ---- entries: what is told of a cell

-- sums over some bodies in a cell, and the numbers of the cell's children that have any of them
pub record EntryData : Type 0 where
  pub raw : RawData
  pub children : List ℕ

-- the children of a cell in which there are positions; a cell of level 32 has none
abbrev pub filled : List Position → CellData → List ℕ
filled ps c = if nat_lt c.level 32 then filter (λ k. is_node ps (child c k)) (below 8) else []

abbrev pub entry_of : Whole → List BodyData → CellData → EntryData
entry_of w bodies c = record { raw = raw_of w.gravity.setup.soft c (members bodies c); children = filled (positions_of bodies) c }

-- a cell lies strictly inside a leaf
abbrev pub inside_leaf : List Position → CellData → Bool
inside_leaf ps c = list_any (λ l. is_leaf ps (cell_at l (corner c))) (below c.level)

-- the nodes of a rank's tree of its own bodies: the cells around them that don't lie strictly inside a leaf, in order
unfoldable pub own_nodes : Whole → ℕ → List CellData
own_nodes w r = in_order w.keys (filter (λ c. not (inside_leaf (positions_of (own w r)) c)) (flat_map (λ b. cells_around b.motion.pos) (own w r)))

-- a rank tells another of an own node: the other is its home, or it is a leaf that has the other in its span
abbrev pub is_told : Whole → ℕ → ℕ → CellData → Bool
is_told w r q c = home w.keys c == q || (is_leaf (positions_of (own w r)) c && in_span w.keys q c)

-- `table` from r to q
abbrev pub table_sent : Whole → ℕ → ℕ → List EntryData
table_sent w r q = map (entry_of w (own w r)) (filter (is_told w r q) (own_nodes w r))

-- `reply` on a cell: the entry of all bodies, or nothing where it has no member
abbrev pub reply_sent : Whole → CellData → Option EntryData
reply_sent w c = if is_node (positions_of w.bodies) c then Some (entry_of w w.bodies c) else None

-- ---- sums of forces on cells

-- what the interactions that rank r counts do to a cell
unfoldable pub part_on : Whole → ℕ → CellData → V3
part_on w r c = sum_of (force_on (pair_force w.gravity w.bodies) c) (counted w r)

-- the cells of home q that take part in an interaction counted by r, in order
unfoldable pub touched : Whole → ℕ → ℕ → List CellData
touched w r q = in_order w.keys (filter (λ c. home w.keys c == q) (flat_map cells_of (counted w r)))

-- a cell with what was done to it
pub record Summed : Type 0 where
  pub cell : CellData
  pub sum : V3

-- `sums` from r to q
abbrev pub sums_sent : Whole → ℕ → ℕ → List Summed
sums_sent w r q = map (λ c. record { cell = c; sum = part_on w r c }) (touched w r q)

-- what stands in such a list at a cell
abbrev pub sum_at : CellData → List Summed → V3
sum_at c es = sum_of (λ e. e.sum) (filter (λ e. same_cell c e.cell) es)

-- the total of a cell at a home
unfoldable pub total_at : Whole → ℕ → CellData → V3
total_at w h c = sum_of (λ r. sum_at c (sums_sent w r h)) (ranks w)

-- ---- members of cells

-- `want` from h, to every rank: the cells of home h that take part in an interaction, in order
unfoldable pub wanted : Whole → ℕ → List CellData
wanted w h = in_order w.keys (flat_map (λ r. touched w r h) (ranks w))

abbrev pub member_of : BodyData → Member
member_of b = (b.id, b.mass)

-- a cell with the id and the mass of a body in it
pub record Listed : Type 0 where
  pub cell : CellData
  pub member : Member

-- `members` from q to h: for each wanted cell the own bodies in it
abbrev pub members_sent : Whole → ℕ → ℕ → List Listed
members_sent w q h = flat_map (λ c. map (λ b. record { cell = c; member = member_of b }) (members (own w q) c)) (wanted w h)

-- what stands in such a list at a cell
abbrev pub members_in : CellData → List Listed → List Member
members_in c es = map (λ e. e.member) (filter (λ e. same_cell c e.cell) es)

-- what a home collects of the members of a cell
unfoldable pub collected : Whole → ℕ → CellData → List Member
collected w h c = flat_map (λ q. members_in c (members_sent w q h)) (ranks w)

-- ---- shares

-- the share of a body at a home in the total of a cell
abbrev pub share_at : Whole → ℕ → CellData → BodyData → V3
share_at w h c b = share_of (map body_of (collected w h c)) (total_at w h c) (body_of (member_of b))

-- the cells that are shared at a home and contain a body
abbrev pub shared_around : Whole → ℕ → BodyData → List CellData
shared_around w h b = filter (λ c. contains c b.motion.pos) (wanted w h)

-- what a body gets at a home
unfoldable pub part_for : Whole → ℕ → BodyData → V3
part_for w h b = sum_of (λ c. share_at w h c b) (shared_around w h b)

-- the id of a body with what it got
pub record Given : Type 0 where
  pub id : ℕ
  pub sum : V3

-- `parts` from h to q: each body of q that got a share at h
abbrev pub parts_sent : Whole → ℕ → ℕ → List Given
parts_sent w h q = map (λ b. record { id = b.id; sum = part_for w h b }) (filter (λ b. list_any (λ c. contains c b.motion.pos) (wanted w h)) (own w q))

-- what stands in such a list at an id
abbrev pub given_to : ℕ → List Given → V3
given_to id es = sum_of (λ e. e.sum) (filter (λ e. id == e.id) es)

-- what the owner of a body gathers for it
unfoldable pub gathered : Whole → BodyData → V3
gathered w b = sum_of (λ h. given_to b.id (parts_sent w h (w.owner b.id))) (ranks w)

-- ---- the contents of a message

pub data Contents : Type 0 where
  OfTable : List EntryData → Contents
  OfSums : List Summed → Contents
  OfWant : List CellData → Contents
  OfMembers : List Listed → Contents
  OfParts : List Given → Contents
  OfAsk : CellData → Contents
  OfReply : Option EntryData → Contents

abbrev pub contents_by : Whole → Message → Kind → Contents
contents_by w m Table = OfTable (table_sent w m.from m.to)
contents_by w m Sums = OfSums (sums_sent w m.from m.to)
contents_by w m Want = OfWant (wanted w m.from)
contents_by w m Members = OfMembers (members_sent w m.from m.to)
contents_by w m Parts = OfParts (parts_sent w m.from m.to)
contents_by w m Ask = OfAsk m.cell
contents_by w m Reply = OfReply (reply_sent w m.cell)

abbrev pub contents : Whole → Message → Contents
contents w m = contents_by w m m.kind

abbrev pub entries_in : Option EntryData → ℕ
entries_in (Some e) = 1
entries_in None = 0

-- the size of a message: how many entries, cells, pairs of a cell and a body, or bodies it has; 1 for an ask
abbrev pub size_of : Contents → ℕ
size_of (OfTable es) = length es
size_of (OfSums es) = length es
size_of (OfWant cs) = length cs
size_of (OfMembers es) = length es
size_of (OfParts es) = length es
size_of (OfAsk c) = 1
size_of (OfReply e) = entries_in e
