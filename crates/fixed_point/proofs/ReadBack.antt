-- Numbers read back from the bytes that they were written as.
use Rattle.std.proofs.Common.{◌≡◌, ℕ, ℤ, ◌+◌, ◌<◌, ◌^◌, List, [], ◌∷◌, ◌++◌, length, get_or, slice_index, drop, refl, sym, ap, ◌∙◌, arith, get_or-drop, drop-drop, drop_at, Fits, SFits, to_z-of_z, of_z}
use Rattle.std.specs.Int.{w32, w64, from_le_bytes, cast_unsigned, cast_signed}
use Rattle.std.proofs.Math.Facts.{Fits-of_z}
use Rattle.std.proofs.lemmas.Nat.{from_le_bytes-to_le_bytes_4, from_le_bytes-to_le_bytes_8}
use Rattle.fixed_point.specs.Bytes.{bytes32, bytes64, signed_bytes64, word32_at, word64_at, signed64_at}

-- what stands at a place, read at the front of what begins there
front : (bytes rest : List ℕ) (p i : ℕ) → drop p bytes ≡ rest → slice_index bytes (p + i) ≡ slice_index rest i
front bytes rest p i e = sym (get_or-drop p bytes i 0) ∙ ap (λ xs. get_or xs i 0) e

front_first : (bytes rest : List ℕ) (p : ℕ) → drop p bytes ≡ rest → slice_index bytes p ≡ slice_index rest 0
front_first bytes rest p e = ap (slice_index bytes) (omega arith) ∙ front bytes rest p 0 e

word32_moved : (bytes rest : List ℕ) (p : ℕ) → drop p bytes ≡ rest → word32_at bytes p ≡ word32_at rest 0
unfolding word32_at
word32_moved bytes rest p e =
    ap (λ x. from_le_bytes w32 (x ∷ slice_index bytes (p + 1) ∷ slice_index bytes (p + 2) ∷ slice_index bytes (p + 3) ∷ [])) (front_first bytes rest p e)
    ∙ ap (λ x. from_le_bytes w32 (slice_index rest 0 ∷ x ∷ slice_index bytes (p + 2) ∷ slice_index bytes (p + 3) ∷ [])) (front bytes rest p 1 e)
    ∙ ap (λ x. from_le_bytes w32 (slice_index rest 0 ∷ slice_index rest 1 ∷ x ∷ slice_index bytes (p + 3) ∷ [])) (front bytes rest p 2 e)
    ∙ ap (λ x. from_le_bytes w32 (slice_index rest 0 ∷ slice_index rest 1 ∷ slice_index rest 2 ∷ x ∷ [])) (front bytes rest p 3 e)

word32_first : (n : ℕ) (rest : List ℕ) → word32_at (bytes32 n ++ rest) 0 ≡ from_le_bytes w32 (bytes32 n)
unfolding word32_at
word32_first n rest = refl

-- a number below 2^32 that stands at a place
pub word32_back : (bytes rest : List ℕ) (p n : ℕ) → drop p bytes ≡ bytes32 n ++ rest → n < 2 ^ 32 → word32_at bytes p ≡ n
word32_back bytes rest p n e l = word32_moved bytes (bytes32 n ++ rest) p e ∙ word32_first n rest ∙ from_le_bytes-to_le_bytes_4 n l

word64_moved : (bytes rest : List ℕ) (p : ℕ) → drop p bytes ≡ rest → word64_at bytes p ≡ word64_at rest 0
unfolding word64_at
word64_moved bytes rest p e =
    let a : slice_index bytes p ≡ slice_index rest 0 = front_first bytes rest p e in
    let b : slice_index bytes (p + 1) ≡ slice_index rest 1 = front bytes rest p 1 e in
    let c : slice_index bytes (p + 2) ≡ slice_index rest 2 = front bytes rest p 2 e in
    let d : slice_index bytes (p + 3) ≡ slice_index rest 3 = front bytes rest p 3 e in
    let f : slice_index bytes (p + 4) ≡ slice_index rest 4 = front bytes rest p 4 e in
    let g : slice_index bytes (p + 5) ≡ slice_index rest 5 = front bytes rest p 5 e in
    let h : slice_index bytes (p + 6) ≡ slice_index rest 6 = front bytes rest p 6 e in
    let i : slice_index bytes (p + 7) ≡ slice_index rest 7 = front bytes rest p 7 e in
    λ j. from_le_bytes w64 (a j ∷ b j ∷ c j ∷ d j ∷ f j ∷ g j ∷ h j ∷ i j ∷ [])

word64_first : (n : ℕ) (rest : List ℕ) → word64_at (bytes64 n ++ rest) 0 ≡ from_le_bytes w64 (bytes64 n)
unfolding word64_at
word64_first n rest = refl

-- a number below 2^64 that stands at a place
pub word64_back : (bytes rest : List ℕ) (p n : ℕ) → drop p bytes ≡ bytes64 n ++ rest → n < 2 ^ 64 → word64_at bytes p ≡ n
word64_back bytes rest p n e l = word64_moved bytes (bytes64 n ++ rest) p e ∙ word64_first n rest ∙ from_le_bytes-to_le_bytes_8 n l

unsigned_small : (z : ℤ) → SFits w64 z → of_z w64 z < 2 ^ 64
unsigned_small z f =
    let fits : Fits w64 (of_z w64 z) = Fits-of_z {w = w64} {z = z} f in
    fits.fits

-- a signed number of 64 bits that stands at a place
pub signed64_back : (bytes rest : List ℕ) (p : ℕ) (z : ℤ) → drop p bytes ≡ signed_bytes64 z ++ rest → SFits w64 z → signed64_at bytes p ≡ z
signed64_back bytes rest p z e f = ap (cast_signed w64) (word64_back bytes rest p (cast_unsigned w64 z) e (unsigned_small z f)) ∙ to_z-of_z f

-- what stands behind a part that stands at a place
pub behind : {A : Type 0} (whole part rest : List A) (p q : ℕ) → drop p whole ≡ part ++ rest → q ≡ p + length part → drop q whole ≡ rest
behind whole part rest p q e f = ap (λ n. drop n whole) f ∙ sym (drop-drop (length part) p whole) ∙ ap (drop (length part)) e ∙ drop_at part rest (length part) refl
