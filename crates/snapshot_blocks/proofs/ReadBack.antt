-- Blocks read back from the bytes that they were written as.
use Rattle.std.proofs.Common.{◌≡◌, ℕ, ◌+◌, ◌-◌, ◌<◌, ◌≤◌, ◌^◌, List, [], ◌∷◌, ◌++◌, length, slice_range, take, drop, All, refl, sym, ap, subst, ◌∙◌, append_assoc, append-nil, arith, suc, suc-le-suc, zero-add, length-append, length-drop, take_at}
use Rattle.fixed_point.specs.Bytes.{bytes32, framed}
use Rattle.fixed_point.proofs.ReadBack.{word32_back, behind}
use Rattle.snapshot_blocks.specs.declared.block.Block.{Block}
use Rattle.snapshot_blocks.specs.Blocks.{StandsAt, Fill}
use Rattle.snapshot_blocks.specs.Written.{Part, IsPart, written, placed, ListsWritten}

parts_of_frame : (name contents rest : List ℕ) → framed name contents ++ rest
    ≡ bytes32 8 ++ (name ++ (bytes32 (length contents + 8) ++ (bytes32 8 ++ (bytes32 (length contents) ++ (contents ++ (bytes32 (length contents) ++ rest))))))
unfolding framed
parts_of_frame name contents rest = simp append_assoc

pub framed_length : (name contents : List ℕ) → length name ≡ 4 → length (framed name contents) ≡ 24 + length contents
unfolding framed
framed_length name contents e = grind (arith, length-append)

pub block_of : ℕ → List ℕ → List ℕ → Block
block_of p name contents = record { name = name; at = p + 20; len = length contents }

-- a slice that stands at a place
slice_back : (bytes part rest : List ℕ) (p q : ℕ) → drop p bytes ≡ part ++ rest → q ≡ p + length part → slice_range bytes p q ≡ part
slice_back bytes part rest p q e f =
    let len : q - p ≡ length part = omega (arith, f) in
    ap (λ n. take n (drop p bytes)) len ∙ ap (take (length part)) e ∙ take_at part rest (length part) refl

pub record IsBack (bytes name contents rest : List ℕ) (p : ℕ) : Type 0 where
  pub stands : StandsAt bytes p (block_of p name contents)
  pub next : drop (p + 24 + length contents) bytes ≡ rest
  pub contents_are : slice_range bytes (p + 20) (p + 20 + length contents) ≡ contents

room : (bytes part rest : List ℕ) (p n : ℕ) → drop p bytes ≡ part ++ rest → length part ≡ n → 0 < n → p + n ≤ length bytes
room bytes part rest p n e f l =
    let dropped : length (drop p bytes) ≡ length bytes - p = length-drop p bytes in
    let whole : length (drop p bytes) ≡ n + length rest = ap length e ∙ length-append part rest ∙ ap (λ k. k + length rest) f in
    omega (arith, dropped, whole, l)

-- a block that was written at a place
pub block_back : (bytes name contents rest : List ℕ) (p : ℕ) → drop p bytes ≡ framed name contents ++ rest → length name ≡ 4
    → length contents + 8 < 2 ^ 32 → IsBack bytes name contents rest p
unfolding block_of
block_back bytes name contents rest p e four few =
    let len = length contents in
    let t6 : List ℕ = bytes32 len ++ rest in
    let t5 : List ℕ = contents ++ t6 in
    let t4 : List ℕ = bytes32 len ++ t5 in
    let t3 : List ℕ = bytes32 8 ++ t4 in
    let t2 : List ℕ = bytes32 (len + 8) ++ t3 in
    let t1 : List ℕ = name ++ t2 in
    let at0 : drop p bytes ≡ bytes32 8 ++ t1 = e ∙ parts_of_frame name contents rest in
    let at4 : drop (p + 4) bytes ≡ name ++ t2 = behind bytes (bytes32 8) t1 p (p + 4) at0 refl in
    let at8 : drop (p + 8) bytes ≡ t2 = behind bytes name t2 (p + 4) (p + 8) at4 (omega (arith, four)) in
    let at12 : drop (p + 12) bytes ≡ t3 = behind bytes (bytes32 (len + 8)) t3 (p + 8) (p + 12) at8 (omega arith) in
    let at16 : drop (p + 16) bytes ≡ t4 = behind bytes (bytes32 8) t4 (p + 12) (p + 16) at12 (omega arith) in
    let at20 : drop (p + 20) bytes ≡ t5 = behind bytes (bytes32 len) t5 (p + 16) (p + 20) at16 (omega arith) in
    let close : drop (p + 20 + len) bytes ≡ t6 = behind bytes contents t6 (p + 20) (p + 20 + len) at20 refl in
    let after : drop (p + 24 + len) bytes ≡ rest = behind bytes (bytes32 len) rest (p + 20 + len) (p + 24 + len) close (omega arith) in
    record {
      stands = record {
        name_frame = word32_back bytes t1 p 8 at0 (omega arith);
        name = sym (slice_back bytes name t2 (p + 4) (p + 8) at4 (omega (arith, four)));
        skip = word32_back bytes t3 (p + 8) (len + 8) at8 few;
        name_end = word32_back bytes t4 (p + 12) 8 at12 (omega arith);
        first = word32_back bytes t5 (p + 16) len at16 (omega (arith, few));
        at = refl;
        last = word32_back bytes rest (p + 20 + len) len close (omega (arith, few));
        within = omega (arith, room bytes (framed name contents) rest p (24 + len) e (framed_length name contents four) (omega arith));
      };
      next = after;
      contents_are = slice_back bytes contents t6 (p + 20) (p + 20 + len) at20 refl;
    }

first_part : (part : Part) (parts : List Part) → All IsPart (part ∷ parts) → IsPart part
first_part part parts a = a 0 part (omega arith)

other_parts : (part : Part) (parts : List Part) → All IsPart (part ∷ parts) → All IsPart parts
other_parts part parts a = λ k d l. a (suc k) d (suc-le-suc l)

fill_written : (bytes : List ℕ) (p : ℕ) (parts : List Part) (rest : List ℕ) → drop p bytes ≡ written parts ++ rest → All IsPart parts
    → Fill bytes p (p + length (written parts)) (placed p parts)
unfolding block_of
fill_written bytes p [] rest e a = omega arith
fill_written bytes p (part ∷ parts) rest e a =
    let back : IsBack bytes part.name part.contents (written parts ++ rest) p =
    block_back bytes part.name part.contents (written parts ++ rest) p (e ∙ append_assoc (framed part.name part.contents) (written parts) rest) (first_part part parts a).four (first_part part parts a).short in
    let ends : p + 24 + length part.contents + length (written parts) ≡ p + length (written (part ∷ parts)) =
    omega (arith, length-append (framed part.name part.contents) (written parts), framed_length part.name part.contents (first_part part parts a).four) in (
      back.stands,
      subst (λ q. Fill bytes (p + 24 + length part.contents) q (placed (p + 24 + length part.contents) parts)) ends
          (fill_written bytes (p + 24 + length part.contents) parts rest back.next (other_parts part parts a)),
    )

pub lists_written : ListsWritten
lists_written parts a =
    subst (λ q. Fill (written parts) 0 q (placed 0 parts)) (zero-add (length (written parts)))
    (fill_written (written parts) 0 parts [] (sym (append-nil (written parts))) a)
