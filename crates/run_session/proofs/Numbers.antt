-- Numbers that are taken modulo a power of two before they are written.
use Rattle.std.proofs.Common.{◌≡◌, ℕ, ◌%◌, ◌/◌, ◌^◌, ◌∷◌, [], List, ap, arith}
use Rattle.nbody_model.specs.Bodies.{BodyData}
use Rattle.nbody_model.specs.SnapshotText.{snapshot_text, head_text, head_name, snapshot_tag, counts_text, column_text, position_name, position_text, momentum_name, momentum_text, id_name, id_text, mass_name, mass_text}
use Rattle.std.specs.Prelude.{replicate, ◌++◌}
use Rattle.fixed_point.specs.Bytes.{bytes32, bytes64, framed}

low_byte : (n : ℕ) → n % 2 ^ 32 % 256 ≡ n % 256
low_byte n = omega arith

second_byte : (n : ℕ) → n % 2 ^ 32 / 256 % 256 ≡ n / 256 % 256
second_byte n = omega arith

third_byte : (n : ℕ) → n % 2 ^ 32 / 65536 % 256 ≡ n / 65536 % 256
third_byte n = omega arith

fourth_byte : (n : ℕ) → n % 2 ^ 32 / 16777216 % 256 ≡ n / 16777216 % 256
fourth_byte n = omega arith

bytes32_low : (n : ℕ) → bytes32 (n % 2 ^ 32) ≡ bytes32 n
bytes32_low n = λ i. low_byte n i ∷ second_byte n i ∷ third_byte n i ∷ fourth_byte n i ∷ []

-- a snapshot has its number modulo 2^32
pub number_low : (B : List BodyData) (tick n : ℕ) → snapshot_text B tick (n % 2 ^ 32) ≡ snapshot_text B tick n
unfolding snapshot_text head_text
number_low B tick n =
    ap (λ number. framed head_name (snapshot_tag ++ counts_text B ++ bytes64 tick ++ number ++ replicate 212 0) ++ column_text position_name position_text B ++ column_text momentum_name momentum_text B ++ column_text id_name id_text B ++ column_text mass_name mass_text B) (bytes32_low n)
