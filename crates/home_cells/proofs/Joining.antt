-- What one entry tells, and two answers together, as the code has them.
use Rattle.std.proofs.Common.{◌≡◌, ℕ, ◌%◌, ◌^◌, Bool, true, false, cond, ◌&&◌, ltb, List, [], ◌∷◌, refl, ap, sym, ◌∙◌, Option, Some, None}
use Rattle.std.specs.Prelude.{slice_index_or}
use Rattle.cell_space.specs.Cells.{CellData, contains, digit, place, same_cell}
use Rattle.node_moments.specs.Sums.{RawData, raw_of}
use Rattle.node_moments.specs.Conditions.{IsOfNode}
use Rattle.node_moments.specs.Joined.{Joins, joined}
use Rattle.node_moments.specs.Shifted.{shifted}
use Rattle.node_moments.proofs.Joined.{joined_sums}
use Rattle.octree_build.proofs.Edges.{at_each}
use Rattle.octree_build.proofs.Parts.{sum_cell}
use Rattle.rank_laws.specs.Whole.{Whole}
use Rattle.rank_laws.specs.Contents.{EntryData}
use Rattle.rank_entry_laws.specs.Given.{at_one, is_around, seen_from}
use Rattle.home_cells.specs.Tables.{IsMarkOf}
use Rattle.home_cells.specs.Found.{IsHomeTable, MayJoin, part}
use Rattle.home_cells.proofs.Replies.{IsEntryOf, all_entries, node_of}

-- the sums of the entry with a number are those of a node
pub node_with : (w : Whole) (es : List EntryData) (c : CellData) → IsHomeTable w es c → (n : ℕ) → IsMarkOf es n → (d : EntryData) → IsOfNode (slice_index_or es (n % 2 ^ 25) d).raw
node_with w es c t n m d = node_of w t.table.whole t.table.softenings (slice_index_or es (n % 2 ^ 25) d) (at_each (IsEntryOf w) d es (n % 2 ^ 25) m.within (all_entries w es c t))

-- an entry with nothing in it, for places that no list has
pub empty : EntryData
empty = record { raw = record { cell = record { level = 0; x = 0; y = 0; z = 0 }; count = 0; mass = 0; mx = []; mxx = []; lo = []; hi = []; eps = 0 }; children = [] }

module _ (c : CellData) (e : EntryData) (raw : RawData) (is : raw ≡ e.raw) (other : false ≡ same_cell raw.cell c) where
  apart : same_cell e.raw.cell c ≡ false
  apart = sym (other ∙ ap (λ (r : RawData). same_cell r.cell c) is)

  abbrev around : RawData → Bool
  around r = ltb r.cell.level c.level && (at_one r && contains c (place r.lo))

  pub part_seen : (x : EntryData) → true ≡ (ltb raw.cell.level c.level && (at_one raw && contains c (place raw.lo))) → x.raw ≡ shifted raw c → x.children ≡ cond (ltb c.level 32) (digit (place raw.lo) c.level ∷ []) [] → ◌≡◌ {A = Option EntryData} (Some x) (part c e)
  part_seen x a p q =
      let s : x ≡ seen_from c e = λ i. record { raw = (p ∙ ap (λ (r : RawData). shifted r c) is) i; children = (q ∙ ap (λ (r : RawData). cond (ltb c.level 32) (digit (place r.lo) c.level ∷ []) []) is) i } in
      let b : is_around c e ≡ true = sym (a ∙ ap around is) in
      ap (λ t. Some t) s ∙ sym (λ i. cond (apart i) (Some e) (cond (b i) (Some (seen_from c e)) None))

  pub part_away : false ≡ (ltb raw.cell.level c.level && (at_one raw && contains c (place raw.lo))) → ◌≡◌ {A = Option EntryData} None (part c e)
  part_away a =
      let b : is_around c e ≡ false = sym (a ∙ ap around is) in
      sym (λ i. cond (apart i) (Some e) (cond (b i) (Some (seen_from c e)) None))

module _ (a b : EntryData) (m : MayJoin (Some a) (Some b)) where
  first : a.raw ≡ raw_of m.soft m.cell m.first.members
  first = m.first.sums a refl

  second : b.raw ≡ raw_of m.soft m.cell m.second.members
  second = m.second.sums b refl

  first_cell : a.raw.cell ≡ m.cell
  first_cell = sum_cell m.soft m.cell m.first.members a.raw first

  second_cell : b.raw.cell ≡ m.cell
  second_cell = sum_cell m.soft m.cell m.second.members b.raw second

  pub cells : a.raw.cell ≡ b.raw.cell
  cells = first_cell ∙ sym second_cell

  pub joins : (r : RawData) → Joins a.raw b.raw r → r ≡ joined a.raw b.raw
  joins r j =
      let u : a.raw ≡ raw_of m.soft a.raw.cell m.first.members = first ∙ ap (λ t. raw_of m.soft t m.first.members) (sym first_cell) in
      let v : b.raw ≡ raw_of m.soft b.raw.cell m.second.members = second ∙ ap (λ t. raw_of m.soft t m.second.members) (sym second_cell) in
      j m.soft m.first.members m.second.members u v ∙ sym (joined_sums m.soft a.raw b.raw m.first.members m.second.members cells u v)
