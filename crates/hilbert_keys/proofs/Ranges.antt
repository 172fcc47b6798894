-- The keys of a cell are one range, and those of its children part it.
use Rattle.std.proofs.Common.{◌≡◌, ℕ, suc, ◌+◌, ◌-◌, ◌*◌, ◌/◌, ◌^◌, ◌<◌, ◌≤◌, Bool, true, false, not, ◌&&◌, ltb, nat_le, List, slice_index, refl, ap, sym, ◌∙◌, arith, ◌⊎◌, inl, inr}
use Rattle.std.proofs.lemmas.Bool.{cases_lt, lt-ltb, le-ltb, le-leb, lt-leb}
use Rattle.cell_space.specs.Cells.{Position, InBox, CellData, IsCorner, corner, contains, place}
use Rattle.hilbert_keys.specs.Curve.{key, keys_in, number_of, first_key, last_key, child_along, IsCell}
use Rattle.hilbert_keys.specs.Steps.{seen}
use Rattle.hilbert_keys.specs.Laws.{RangesOfChildren}
use Rattle.hilbert_keys.proofs.Curves.{cell_range, number_is, child_along_is}
use Rattle.hilbert_keys.proofs.Widths.{quotient_is, some_keys}

pub corner_place : (l : ℕ) (xs : List ℕ) → IsCorner l xs → place xs ≡ corner (seen l xs)
corner_place l xs i = λ j. record { x = sym i.whole_x j; y = sym i.whole_y j; z = sym i.whole_z j }

pub cell_is : (l : ℕ) (xs : List ℕ) → IsCorner l xs → slice_index xs 0 < 2 ^ 32 → slice_index xs 1 < 2 ^ 32 → slice_index xs 2 < 2 ^ 32 → IsCell (seen l xs)
cell_is l xs i a b d = record { shallow = i.shallow; in_box = record { below_x = omega (arith, i.whole_x, a); below_y = omega (arith, i.whole_y, b); below_z = omega (arith, i.whole_z, d) } }

-- the code's range
pub begins_at : (c : CellData) (k w : ℕ) → c.level ≤ 32 → k ≡ key (corner c) → w ≡ keys_in c.level → k / w * w ≡ first_key c
begins_at c k w h e f = (λ i. e i / f i * f i) ∙ ap (λ t. t * keys_in c.level) (number_is c.level (corner c) h)

pub ends_at_last : (c : CellData) (k w : ℕ) → c.level ≤ 32 → k ≡ key (corner c) → w ≡ keys_in c.level → k / w * w + w - 1 ≡ last_key c
ends_at_last c k w h e f = λ i. begins_at c k w h e f i + f i - 1

both_false : (b : Bool) → (b && false) ≡ false
both_false true = refl
both_false false = refl

range_tests : (k n w : ℕ) → 0 < w → (ltb k (n + w) && not (ltb k n)) ≡ (nat_le n k && nat_le k (n + w - 1))
range_tests k n w p = by (cases_lt k n) (cases_lt k (n + w))
  where
    by : (k < n) ⊎ (n ≤ k) → (k < n + w) ⊎ (n + w ≤ k) → (ltb k (n + w) && not (ltb k n)) ≡ (nat_le n k && nat_le k (n + w - 1))
    by (inl u) v = (λ i. ltb k (n + w) && not (lt-ltb k n u i)) ∙ both_false (ltb k (n + w)) ∙ sym (λ i. lt-leb n k u i && nat_le k (n + w - 1))
    by (inr u) (inl v) = (λ i. lt-ltb k (n + w) v i && not (le-ltb k n u i)) ∙ sym (λ i. le-leb n k u i && le-leb k (n + w - 1) (omega (arith, v)) i)
    by (inr u) (inr v) = (λ i. le-ltb k (n + w) v i && not (ltb k n)) ∙ sym ((λ i. nat_le n k && lt-leb k (n + w - 1) (omega (arith, v, p)) i) ∙ both_false (nat_le n k))

pub lies_between : (c : CellData) → IsCell c → (p : Position) → InBox p → contains c p ≡ (nat_le (first_key c) (key p) && nat_le (key p) (last_key c))
lies_between c i p b = cell_range c i p b ∙ quotient_is (key p) (keys_in c.level) (number_of c) (some_keys c.level) ∙ range_tests (key p) (first_key c) (keys_in c.level) (some_keys c.level)

-- a child has an eighth of its cell's keys
eighth : (l : ℕ) → l < 32 → keys_in l ≡ 8 * keys_in (l + 1)
eighth l h =
    let s : 32 - (l + 1) ≡ 31 - l = omega arith in
    let t : 32 - l ≡ suc (31 - l) = omega (arith, h) in
    let e : keys_in l ≡ 8 * 8 ^ (31 - l) = ap (λ n. 8 ^ n) t ∙ omega arith in
    e ∙ ap (λ n. 8 * 8 ^ n) (sym s)

child_first : (c : CellData) → IsCell c → c.level < 32 → (w : ℕ) → w < 8 → first_key (child_along c w) ≡ first_key c + w * keys_in (c.level + 1)
child_first c i h w l =
    let n : number_of (child_along c w) ≡ 8 * number_of c + w = (child_along_is c i h w l).1 in
    let e : number_of c * keys_in c.level ≡ number_of c * (8 * keys_in (c.level + 1)) = ap (λ t. number_of c * t) (eighth c.level h) in
    let m : first_key (child_along c w) ≡ (8 * number_of c + w) * keys_in (c.level + 1) = ap (λ t. t * keys_in (c.level + 1)) n in
    let f : (8 * number_of c + w) * keys_in (c.level + 1) ≡ number_of c * (8 * keys_in (c.level + 1)) + w * keys_in (c.level + 1) = omega arith in
    omega (arith, m, f, e)

pub ranges : (c : CellData) → IsCell c → c.level < 32 → RangesOfChildren c
ranges c i h =
    let k : ℕ = keys_in (c.level + 1) in
    let p : 0 < k = some_keys (c.level + 1) in
    let e : keys_in c.level ≡ 8 * keys_in (c.level + 1) = eighth c.level h in
    record {
      begins = child_first c i h 0 (omega arith) ∙ omega arith;
      goes_on = λ w l.
          let a : first_key (child_along c (w + 1)) ≡ first_key c + (w + 1) * k = child_first c i h (w + 1) (omega (arith, l)) in
          let b : first_key (child_along c w) ≡ first_key c + w * k = child_first c i h w (omega (arith, l)) in
          let s : (w + 1) * k ≡ w * k + k = omega arith in
          omega (arith, a, b, s, p);
      ends = omega (arith, child_first c i h 7 (omega arith), e);
    }
