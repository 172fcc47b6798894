-- Where cells stand in their order.
use Rattle.std.proofs.Common.{◌≡◌, ℕ, ◌+◌, ◌*◌, ◌^◌, ◌<◌, ◌≤◌, Bool, true, false, ltb, eqb, ◌&&◌, ◌||◌, refl, ap, ◌∙◌, sym, arith, [], ◌∷◌, List}
use Rattle.std.proofs.lemmas.Bool.{ltb-true, eqb-true}
use Rattle.std.proofs.lemmas.Bool.Decides.{nat_tests}
use Rattle.cell_space.specs.Cells.{CellData}
use Rattle.hilbert_keys.specs.Curve.{IsCell, first_key, keys_in, number_of}
use Rattle.hilbert_keys.proofs.Curves.{keys_fit}
use Rattle.hilbert_keys.proofs.Widths.{some_keys}
use Rattle.rank_laws.specs.Whole.{goes_first}
use Rattle.rank_curve_laws.specs.Along.{keys_along}
use Rattle.rank_curve_laws.proofs.Keys.{are_told}
use Rattle.rank_exchange.specs.Sums.{place_of}

pub first_small : (c : CellData) → IsCell c → first_key c < 2 ^ 96
first_small c h = let k : 0 < keys_in c.level = some_keys c.level in let f : number_of c * keys_in c.level + keys_in c.level ≤ 2 ^ 96 = keys_fit c h.shallow in omega (arith, k, f)

pub fits : (c : CellData) → IsCell c → c.level * 2 ^ 96 + first_key c < 2 ^ 128
fits c h = let l : c.level ≤ 32 = h.shallow in omega (arith, first_small c h, l)

-- two numbers with a greater and a smaller part
parts : (a b x y : ℕ) → x < 2 ^ 96 → y < 2 ^ 96 → a * 2 ^ 96 + x ≡ b * 2 ^ 96 + y → (a ≡ b) × (x ≡ y)
parts a b x y h k e = (omega (arith, h, k, e), omega (arith, h, k, e))

self_less : (n : ℕ) → ltb n n ≡ false
self_less n = grind (arith, nat_tests)

not_first : (bounds : List ℕ) (c d : CellData) → c.level ≡ d.level → first_key c ≡ first_key d → goes_first (keys_along bounds) c d ≡ false
not_first bounds c d e f = ap (λ t. ltb t d.level || (eqb c.level d.level && ltb (first_key c) (first_key d))) e ∙ ap (λ t. t || (eqb c.level d.level && ltb (first_key c) (first_key d))) (self_less d.level)
    ∙ ap (λ t. eqb c.level d.level && ltb t (first_key d)) f ∙ ap (λ t. eqb c.level d.level && t) (self_less (first_key d)) ∙ nothing (eqb c.level d.level)
  where
    nothing : (b : Bool) → (b && false) ≡ false
    nothing true = refl
    nothing false = refl

-- cells at one place are one
pub place_tells : (c d : CellData) → IsCell c → IsCell d → place_of c ≡ place_of d → c ≡ d
unfolding place_of
place_tells c d h k e =
    let p : (c.level ≡ d.level) × (first_key c ≡ first_key d) = parts c.level d.level (first_key c) (first_key d) (first_small c h) (first_small d k) e in
    are_told (0 ∷ []) c d h k (not_first (0 ∷ []) c d p.0 p.1) (not_first (0 ∷ []) d c (sym p.0) (sym p.1))

-- a number of two parts that is less has no greater part that is more, nor an equal one with a smaller part that is more
in_parts : (a b x y : ℕ) → x < 2 ^ 96 → y < 2 ^ 96 → a * 2 ^ 96 + x < b * 2 ^ 96 + y → (ltb b a || (eqb b a && ltb y x)) ≡ false
in_parts a b x y h k e = by (ltb b a) (eqb b a) (ltb y x) refl refl refl
  where
    by : (p q r : Bool) → ltb b a ≡ p → eqb b a ≡ q → ltb y x ≡ r → (p || (q && r)) ≡ false
    by true q r u v w = let l : b < a = ltb-true b a u in absurd (omega (arith, h, k, e, l))
    by false true true u v w = let l : y < x = ltb-true y x w in let m : b ≡ a = eqb-true b a v in absurd (omega (arith, h, k, e, l, m))
    by false true false u v w = refl
    by false false r u v w = refl

-- a cell goes before another by its place
pub place_orders : (bounds : List ℕ) (c d : CellData) → IsCell c → IsCell d → place_of c < place_of d → goes_first (keys_along bounds) d c ≡ false
unfolding place_of
place_orders bounds c d h k e = in_parts c.level d.level (first_key c) (first_key d) (first_small c h) (first_small d k) e
