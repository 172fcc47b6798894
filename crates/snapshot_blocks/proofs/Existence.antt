-- All bytes are blocks or have a first fault.
use Rattle.std.proofs.Common.{◌≡◌, ◌⊎◌, ℕ, zero, suc, ◌+◌, ◌<◌, ◌≤◌, List, [], ◌∷◌, length, slice_range, Option, Some, None, inl, inr, refl, arith, eq-or-lt_of_le}
use Rattle.std.proofs.lemmas.Bool.Decides.{nat_tests}
use Rattle.fixed_point.specs.Bytes.{word32_at}
use Rattle.snapshot_blocks.specs.declared.block.Block.{Block}
use Rattle.snapshot_blocks.specs.declared.block.BlockKind.{BlockKind}
use Rattle.snapshot_blocks.specs.Blocks.{fault_at, StandsAt, Fill, HasReading}

block_at : List ℕ → ℕ → Block
block_at bytes p = record { name = slice_range bytes (p + 4) (p + 8); at = p + 20; len = word32_at bytes (p + 16) }

-- where no condition applies, a block stands
stands : (bytes : List ℕ) (p : ℕ) → p < length bytes → fault_at bytes p ≡ None → StandsAt bytes p (block_at bytes p)
unfolding block_at
stands bytes p l e = record {
  name_frame = grind (arith, nat_tests);
  name = refl;
  skip = grind (arith, nat_tests);
  name_end = grind (arith, nat_tests);
  first = refl;
  at = refl;
  last = grind (arith, nat_tests);
  within = grind (arith, nat_tests);
}

-- blocks up to the end, or up to a place where a condition applies
Reading : List ℕ → ℕ → Type 0
Reading bytes p =
    ((blocks : List Block) × Fill bytes p (length bytes) blocks)
    ⊎ ((q : ℕ) × (blocks : List Block) × (fault : ℕ × BlockKind) × Fill bytes p q blocks × (q < length bytes) × (fault_at bytes q ≡ Some fault))

with_block : (bytes : List ℕ) (p : ℕ) (block : Block) → StandsAt bytes p block → Reading bytes (p + 24 + block.len) → Reading bytes p
unfolding Reading
with_block bytes p block s (inl r) = inl (block ∷ r.0, (s, r.1))
with_block bytes p block s (inr r) = inr (r.0, block ∷ r.1, r.2, (s, r.3), r.4, r.5)

from_here : (bytes : List ℕ) (p : ℕ) (fault : Option (ℕ × BlockKind)) → fault_at bytes p ≡ fault → p < length bytes
    → (StandsAt bytes p (block_at bytes p) → Reading bytes p) → Reading bytes p
unfolding Reading
from_here bytes p (Some x) e l f = inr (p, [], x, refl, l, e)
from_here bytes p None e l f = f (stands bytes p l e)

read_from : (fuel : ℕ) (bytes : List ℕ) (p : ℕ) → p ≤ length bytes → length bytes ≤ p + fuel → Reading bytes p
unfolding Reading block_at
read_from zero bytes p l h = inl ([], omega (arith, l, h))
read_from (suc fuel) bytes p l h =
    elim (eq-or-lt_of_le l) as (λ _. Reading bytes p) [
      | inl e ↦ inl ([], e)
      | inr b ↦ from_here bytes p (fault_at bytes p) refl b (λ s.
          with_block bytes p (block_at bytes p) s (read_from fuel bytes (p + 24 + word32_at bytes (p + 16)) s.within (omega (arith, h))))
    ]

named : (bytes : List ℕ) → Reading bytes 0 → HasReading bytes
unfolding Reading
named bytes (inl r) = inl r
named bytes (inr r) =
    inr (record { at = r.2.0; kind = r.2.1 }, record { place = r.0; blocks = r.1; before = r.3; inside = r.4; is = r.5 })

pub has_reading : (bytes : List ℕ) → HasReading bytes
has_reading bytes = named bytes (read_from (length bytes) bytes 0 (omega arith) (omega arith))
