-- The least and the greatest coordinates of a node's members lie in each cell around it.
use Rattle.std.proofs.Common.{◌≡◌, ℕ, ◌+◌, ◌-◌, ◌*◌, ◌/◌, ◌<◌, ◌≤◌, ◌^◌, true, List, ◌∷◌, ap, sym, ◌∙◌, refl, arith, inl}
use Rattle.std.proofs.Math.Nat.{div-mul-le_self, lt-div-mul-add}
use Rattle.std.proofs.lemmas.Nat.{pow_pos, div-mul-add}
use Rattle.cell_space.specs.Cells.{InBox, CellData, contains, cell_at, width_of, place}
use Rattle.cell_space.proofs.Cells.{contains-exact}
use Rattle.nbody_model.specs.Bodies.{BodyData}
use Rattle.model_laws.proofs.Among.{Among}
use Rattle.node_moments.specs.Sums.{raw_of, least, greatest, at_x, at_y, at_z}
use Rattle.node_moments.proofs.Extremes.{min_of, min_low, max_of, max_high}

-- a number between two with one upper part has that part
between : (w k n : ℕ) → 0 < w → k * w ≤ n → n < k * w + w → n / w ≡ k
between w k n p l h = let e : k * w + (n - k * w) ≡ n = omega (arith, l) in ap (λ t. t / w) (sym e) ∙ div-mul-add k w (n - k * w) (omega (arith, l, h))

parts : (w k n : ℕ) → 0 < w → n / w ≡ k → (k * w ≤ n) × (n < k * w + w)
parts w k n p e = let a : n / w * w ≤ n = div-mul-le_self n w in let b : n < n / w * w + w = lt-div-mul-add p in let c : n / w * w ≡ k * w = ap (λ t. t * w) e in (omega (arith, a, c), omega (arith, b, c))

least_part : (f : BodyData → ℕ) (w k : ℕ) (m : BodyData) (ms : List BodyData) → 0 < w → k * w < 2 ^ 32 → ((b : BodyData) → Among b (m ∷ ms) → f b / w ≡ k) → least f (m ∷ ms) / w ≡ k
least_part f w k m ms p h a =
    let low : k * w ≤ least f (m ∷ ms) = min_low f 4294967295 (k * w) (m ∷ ms) (omega (arith, h)) (λ b i. (parts w k (f b) p (a b i)).0) in
    let top : least f (m ∷ ms) ≤ f m = min_of f 4294967295 m (m ∷ ms) (inl refl) in
    between w k (least f (m ∷ ms)) p low (omega (arith, top, (parts w k (f m) p (a m (inl refl))).1))

greatest_part : (f : BodyData → ℕ) (w k : ℕ) (m : BodyData) (ms : List BodyData) → 0 < w → ((b : BodyData) → Among b (m ∷ ms) → f b / w ≡ k) → greatest f (m ∷ ms) / w ≡ k
greatest_part f w k m ms p a =
    let high : greatest f (m ∷ ms) ≤ k * w + w - 1 = max_high f 0 (k * w + w - 1) (m ∷ ms) (omega arith) (λ b i. let u = (parts w k (f b) p (a b i)).1 in omega (arith, u)) in
    let top : f m ≤ greatest f (m ∷ ms) = max_of f 0 m (m ∷ ms) (inl refl) in
    between w k (greatest f (m ∷ ms)) p (omega (arith, top, (parts w k (f m) p (a m (inl refl))).0)) (omega (arith, high, p))

low_at : (soft : List ℕ) (c : CellData) (ms : List BodyData) → place (raw_of soft c ms).lo ≡ record { x = least at_x ms; y = least at_y ms; z = least at_z ms }
unfolding raw_of
low_at soft c ms = refl

high_at : (soft : List ℕ) (c : CellData) (ms : List BodyData) → place (raw_of soft c ms).hi ≡ record { x = greatest at_x ms; y = greatest at_y ms; z = greatest at_z ms }
unfolding raw_of
high_at soft c ms = refl

pub record Spans (soft : List ℕ) (c d : CellData) (ms : List BodyData) : Type 0 where
  pub low : contains d (place (raw_of soft c ms).lo) ≡ true
  pub high : contains d (place (raw_of soft c ms).hi) ≡ true

corner_of : (w k n : ℕ) → 0 < w → n < 2 ^ 32 → n / w ≡ k → k * w < 2 ^ 32
corner_of w k n p h e = omega (arith, h, (parts w k n p e).0)

-- where some bodies lie in d, so do their least and their greatest coordinates
pub spans_within : (soft : List ℕ) (c d : CellData) (m : BodyData) (ms : List BodyData) → InBox m.motion.pos → ((b : BodyData) → Among b (m ∷ ms) → contains d b.motion.pos ≡ true) → Spans soft c d (m ∷ ms)
spans_within soft c d m ms box a =
    let w : ℕ = width_of d.level in
    let p : 0 < width_of d.level = pow_pos (32 - d.level) in
    let at : (b : BodyData) → Among b (m ∷ ms) → cell_at d.level b.motion.pos ≡ d = λ b i. (contains-exact d b.motion.pos).0 (a b i) in
    let x : (b : BodyData) → Among b (m ∷ ms) → at_x b / w ≡ d.x = λ b i. ap (λ t. t.x) (at b i) in
    let y : (b : BodyData) → Among b (m ∷ ms) → at_y b / w ≡ d.y = λ b i. ap (λ t. t.y) (at b i) in
    let z : (b : BodyData) → Among b (m ∷ ms) → at_z b / w ≡ d.z = λ b i. ap (λ t. t.z) (at b i) in
    let lx : least at_x (m ∷ ms) / w ≡ d.x = least_part at_x w d.x m ms p (corner_of w d.x (at_x m) p box.below_x (x m (inl refl))) x in
    let ly : least at_y (m ∷ ms) / w ≡ d.y = least_part at_y w d.y m ms p (corner_of w d.y (at_y m) p box.below_y (y m (inl refl))) y in
    let lz : least at_z (m ∷ ms) / w ≡ d.z = least_part at_z w d.z m ms p (corner_of w d.z (at_z m) p box.below_z (z m (inl refl))) z in
    let hx : greatest at_x (m ∷ ms) / w ≡ d.x = greatest_part at_x w d.x m ms p x in
    let hy : greatest at_y (m ∷ ms) / w ≡ d.y = greatest_part at_y w d.y m ms p y in
    let hz : greatest at_z (m ∷ ms) / w ≡ d.z = greatest_part at_z w d.z m ms p z in
    record {
      low = ap (contains d) (low_at soft c (m ∷ ms)) ∙ (contains-exact d (record { x = least at_x (m ∷ ms); y = least at_y (m ∷ ms); z = least at_z (m ∷ ms) })).1 (λ i. record { level = d.level; x = lx i; y = ly i; z = lz i });
      high = ap (contains d) (high_at soft c (m ∷ ms)) ∙ (contains-exact d (record { x = greatest at_x (m ∷ ms); y = greatest at_y (m ∷ ms); z = greatest at_z (m ∷ ms) })).1 (λ i. record { level = d.level; x = hx i; y = hy i; z = hz i });
    }
