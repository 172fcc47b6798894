-- A number of sixteen bytes, as two of eight.
use Rattle.std.proofs.Common.{◌≡◌, ℕ, ◌+◌, ◌*◌, ◌/◌, ◌%◌, ◌<◌, ◌^◌, List, [], ◌∷◌, ◌++◌, drop, refl, sym, ap, ◌∙◌, arith}
use Rattle.std.proofs.Math.Nat.{div-div-eq-div-mul}
use Rattle.fixed_point.specs.Bytes.{bytes64, bytes128, word64_at}
use Rattle.fixed_point.proofs.ReadBack.{behind, word64_back}
use Rattle.restart_files.specs.RestartFile.{word128_at}

low : ℕ → ℕ
low n = n % 18446744073709551616

high : ℕ → ℕ
high n = n / 18446744073709551616

low_bytes : (n : ℕ) → bytes64 (n % 18446744073709551616) ≡ n % 256 ∷ n / 256 % 256 ∷ n / 65536 % 256 ∷ n / 16777216 % 256 ∷ n / 4294967296 % 256 ∷ n / 1099511627776 % 256 ∷ n / 281474976710656 % 256 ∷ n / 72057594037927936 % 256 ∷ []
low_bytes n =
    let a : n % 18446744073709551616 % 256 ≡ n % 256 = omega arith in
    let b : n % 18446744073709551616 / 256 % 256 ≡ n / 256 % 256 = omega arith in
    let c : n % 18446744073709551616 / 65536 % 256 ≡ n / 65536 % 256 = omega arith in
    let d : n % 18446744073709551616 / 16777216 % 256 ≡ n / 16777216 % 256 = omega arith in
    let e : n % 18446744073709551616 / 4294967296 % 256 ≡ n / 4294967296 % 256 = omega arith in
    let f : n % 18446744073709551616 / 1099511627776 % 256 ≡ n / 1099511627776 % 256 = omega arith in
    let g : n % 18446744073709551616 / 281474976710656 % 256 ≡ n / 281474976710656 % 256 = omega arith in
    let h : n % 18446744073709551616 / 72057594037927936 % 256 ≡ n / 72057594037927936 % 256 = omega arith in
    λ i. a i ∷ b i ∷ c i ∷ d i ∷ e i ∷ f i ∷ g i ∷ h i ∷ []

shifted : (n k : ℕ) → n / 18446744073709551616 / k % 256 ≡ n / (18446744073709551616 * k) % 256
shifted n k = ap (λ m. m % 256) (div-div-eq-div-mul n 18446744073709551616 k)

halves : (n : ℕ) → bytes128 n ≡ bytes64 (n % 18446744073709551616) ++ bytes64 (n / 18446744073709551616)
halves n =
    let b = sym (shifted n 256) in
    let c = sym (shifted n 65536) in
    let d = sym (shifted n 16777216) in
    let e = sym (shifted n 4294967296) in
    let f = sym (shifted n 1099511627776) in
    let g = sym (shifted n 281474976710656) in
    let h = sym (shifted n 72057594037927936) in
    (λ i. sym (low_bytes n) i ++ (n / 18446744073709551616 % 256 ∷ b i ∷ c i ∷ d i ∷ e i ∷ f i ∷ g i ∷ h i ∷ []))

pub word128_back : (bytes rest : List ℕ) (p n : ℕ) → drop p bytes ≡ bytes128 n ++ rest → n < 2 ^ 128 → word128_at bytes p ≡ n
unfolding word128_at
word128_back bytes rest p n e l =
    let low : ℕ = n % 18446744073709551616 in
    let high : ℕ = n / 18446744073709551616 in
    let here : drop p bytes ≡ bytes64 low ++ (bytes64 high ++ rest) = e ∙ ap (λ xs. xs ++ rest) (halves n) in
    let there : drop (p + 8) bytes ≡ bytes64 high ++ rest = behind bytes (bytes64 low) (bytes64 high ++ rest) p (p + 8) here refl in
    let first : word64_at bytes p ≡ low = word64_back bytes (bytes64 high ++ rest) p low here (omega arith) in
    let second : word64_at bytes (p + 8) ≡ high = word64_back bytes rest (p + 8) high there (omega (arith, l)) in
    omega (arith, first, second)
