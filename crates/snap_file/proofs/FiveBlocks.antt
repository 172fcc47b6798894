-- Five blocks written one behind the other, found again by their names.
use Rattle.std.proofs.Common.{◌≡◌, ℕ, zero, suc, ◌+◌, ◌<◌, ◌^◌, List, [], ◌∷◌, ◌++◌, length, slice_index_or, take, false, All, Some, refl, ap, arith}
use Rattle.fixed_point.specs.Bytes.{framed}
use Rattle.snapshot_blocks.specs.declared.block.Block.{Block}
use Rattle.snapshot_blocks.specs.Written.{Part, IsPart, written, placed}
use Rattle.snapshot_blocks.proofs.ReadBack.{IsBack, block_back, lists_written}
use Rattle.nbody_model.specs.SnapshotText.{head_name, position_name, momentum_name, id_name, mass_name}
use Rattle.snap_file.specs.Snapshots.{ColumnTexts, NoRepeatBelow, AreBlocks, AreColumns, contents_named, repeats}

unfoldable pub part : List ℕ → List ℕ → Part
part name contents = record { name = name; contents = contents }

-- the parts of a snapshot with these contents
unfoldable pub parts_of : List ℕ → ColumnTexts → List Part
parts_of h t = part head_name h ∷ part position_name t.positions ∷ part momentum_name t.momenta ∷ part id_name t.ids ∷ part mass_name t.masses ∷ []

pub blocks_of : List ℕ → ColumnTexts → List Block
blocks_of h t = placed 0 (parts_of h t)

-- the contents are short enough for their frames
pub record AreShort (h : List ℕ) (t : ColumnTexts) : Type 0 where
  pub head : length h + 8 < 2 ^ 32
  pub positions : length t.positions + 8 < 2 ^ 32
  pub momenta : length t.momenta + 8 < 2 ^ 32
  pub ids : length t.ids + 8 < 2 ^ 32
  pub masses : length t.masses + 8 < 2 ^ 32

are_parts : (h : List ℕ) (t : ColumnTexts) → AreShort h t → All IsPart (parts_of h t)
unfolding parts_of part
are_parts h t s zero d l = record { four = refl; short = s.head }
are_parts h t s (suc zero) d l = record { four = refl; short = s.positions }
are_parts h t s (suc (suc zero)) d l = record { four = refl; short = s.momenta }
are_parts h t s (suc (suc (suc zero))) d l = record { four = refl; short = s.ids }
are_parts h t s (suc (suc (suc (suc zero)))) d l = record { four = refl; short = s.masses }
are_parts h t s (suc (suc (suc (suc (suc k))))) d l = absurd (omega (arith, l))

-- no block of a snapshot repeats a name
clean_at : (h : List ℕ) (t : ColumnTexts) (k : ℕ) (d : Block) → k < 5 → repeats (take k (blocks_of h t)) (slice_index_or (blocks_of h t) k d) ≡ false
unfolding blocks_of parts_of part
clean_at h t zero d l = refl
clean_at h t (suc zero) d l = refl
clean_at h t (suc (suc zero)) d l = refl
clean_at h t (suc (suc (suc zero))) d l = refl
clean_at h t (suc (suc (suc (suc zero)))) d l = refl
clean_at h t (suc (suc (suc (suc (suc k))))) d l = absurd (omega (arith, l))

none_repeats : (h : List ℕ) (t : ColumnTexts) → NoRepeatBelow (blocks_of h t) 5
unfolding blocks_of parts_of part
none_repeats h t = record { clean = λ k d l. clean_at h t k d l }

pub are_blocks : (h : List ℕ) (t : ColumnTexts) → AreShort h t → AreBlocks (written (parts_of h t)) (blocks_of h t)
unfolding blocks_of parts_of part
are_blocks h t s = record { spelled = lists_written (parts_of h t) (are_parts h t s); once = none_repeats h t }

-- what is found by each name
pub record AreFound (bytes h : List ℕ) (t : ColumnTexts) : Type 0 where
  pub head : contents_named bytes head_name (blocks_of h t) ≡ Some h
  pub columns : AreColumns bytes (blocks_of h t) t

pub are_found : (h : List ℕ) (t : ColumnTexts) → AreShort h t → AreFound (written (parts_of h t)) h t
unfolding blocks_of parts_of part
are_found h t s =
    let bytes : List ℕ = written (parts_of h t) in
    let r5 : List ℕ = [] in
    let r4 : List ℕ = framed mass_name t.masses ++ r5 in
    let r3 : List ℕ = framed id_name t.ids ++ r4 in
    let r2 : List ℕ = framed momentum_name t.momenta ++ r3 in
    let r1 : List ℕ = framed position_name t.positions ++ r2 in
    let p1 : ℕ = 0 + 24 + length h in
    let p2 : ℕ = p1 + 24 + length t.positions in
    let p3 : ℕ = p2 + 24 + length t.momenta in
    let p4 : ℕ = p3 + 24 + length t.ids in
    let b0 : IsBack bytes head_name h r1 0 = block_back bytes head_name h r1 0 refl refl s.head in
    let b1 : IsBack bytes position_name t.positions r2 p1 = block_back bytes position_name t.positions r2 p1 b0.next refl s.positions in
    let b2 : IsBack bytes momentum_name t.momenta r3 p2 = block_back bytes momentum_name t.momenta r3 p2 b1.next refl s.momenta in
    let b3 : IsBack bytes id_name t.ids r4 p3 = block_back bytes id_name t.ids r4 p3 b2.next refl s.ids in
    let b4 : IsBack bytes mass_name t.masses r5 p4 = block_back bytes mass_name t.masses r5 p4 b3.next refl s.masses in
    record {
      head = ap Some b0.contents_are;
      columns = record { positions = ap Some b1.contents_are; momenta = ap Some b2.contents_are; ids = ap Some b3.contents_are; masses = ap Some b4.contents_are };
    }
