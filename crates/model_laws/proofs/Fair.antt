-- The opening rule doesn't look at the order of its cells.
use Rattle.std.proofs.Common.{◌≡◌, ℕ, ◌+◌, ◌-◌, ◌*◌, ◌/◌, ◌%◌, ◌^◌, ◌<◌, ◌≤◌, cond, ltb, List, [], ◌∷◌, sum_by, ap, sym, ◌∙◌, arith, ◌⊎◌, inl, inr, pos, negsuc}
use Rattle.std.specs.Prelude.{unsigned_abs}
use Rattle.std.specs.List.{AllByRecursion}
use Rattle.std.proofs.lemmas.List.Sums.{sum_by-cons}
use Rattle.std.proofs.lemmas.Nat.{div_below, mod_below, mul-le}
use Rattle.std.proofs.Math.Nat.{zero-div}
use Rattle.std.proofs.lemmas.Bool.{cases_lt, cases_eq, cases_order, lt-ltb, le-ltb}
use Rattle.fixed_point.specs.Fixed.{wrapped}
use Rattle.cell_space.specs.Cells.{Position, CellData, contains, InBox}
use Rattle.nbody_model.specs.Bodies.{BodyData}
use Rattle.nbody_model.specs.Nodes.{members}
use Rattle.nbody_model.specs.Setups.{SetupData}
use Rattle.nbody_model.specs.Moments.{MomentsData, mass_of, centre_of, moments}
use Rattle.nbody_model.specs.OpeningRule.{way, square, side, accept}
use Rattle.nbody_model.specs.Covers.{opening_of}
use Rattle.model_laws.specs.Laws.{IsSound}
use Rattle.model_laws.proofs.Among.{each-filter, each-weaker, each-map}

abbrev turn : ℕ → ℕ → ℕ
turn a b = (b + 2 ^ 32 - a) % 2 ^ 32

abbrev size_of : ℕ → ℕ
size_of d = unsigned_abs (cond (ltb d (2 ^ 31)) (pos d) (negsuc (2 ^ 32 - 1 - d)))

size_low : (d : ℕ) → d < 2 ^ 31 → size_of d ≡ d
size_low d h = ap (λ b. unsigned_abs (cond b (pos d) (negsuc (2 ^ 32 - 1 - d)))) (lt-ltb d (2 ^ 31) h)

size_high : (d : ℕ) → 2 ^ 31 ≤ d → d < 2 ^ 32 → size_of d ≡ 2 ^ 32 - d
size_high d h k = ap (λ b. unsigned_abs (cond b (pos d) (negsuc (2 ^ 32 - 1 - d)))) (le-ltb d (2 ^ 31) h) ∙ omega arith

turned_from : (c d : ℕ) → c < 2 ^ 32 → d < 2 ^ 32 → (c ≡ 0) × (d ≡ 0) ⊎ (c + d ≡ 2 ^ 32) → (c < 2 ^ 31) ⊎ (2 ^ 31 ≤ c) → (d < 2 ^ 31) ⊎ (2 ^ 31 ≤ d) → size_of c ≡ size_of d
turned_from c d h k (inl e) x y = ap size_of (e.0 ∙ sym e.1)
turned_from c d h k (inr e) (inl x) (inl y) = absurd (omega arith)
turned_from c d h k (inr e) (inl x) (inr y) = size_low c x ∙ omega arith ∙ sym (size_high d y k)
turned_from c d h k (inr e) (inr x) (inl y) = size_high c x h ∙ omega arith ∙ sym (size_low d y)
turned_from c d h k (inr e) (inr x) (inr y) = size_high c x h ∙ omega arith ∙ sym (size_high d y k)

turn_cases : (a b : ℕ) → a < 2 ^ 32 → b < 2 ^ 32 → (a ≡ b) ⊎ ((a < b) ⊎ (b < a)) → (turn a b ≡ 0) × (turn b a ≡ 0) ⊎ (turn a b + turn b a ≡ 2 ^ 32)
turn_cases a b h k (inl e) = inl (omega arith, omega arith)
turn_cases a b h k (inr (inl l)) = let u : turn a b ≡ b - a = omega arith in let v : turn b a ≡ 2 ^ 32 - (b - a) = omega arith in inr (omega arith)
turn_cases a b h k (inr (inr l)) = let u : turn b a ≡ a - b = omega arith in let v : turn a b ≡ 2 ^ 32 - (a - b) = omega arith in inr (omega arith)

-- the wrapped way is as long both ways round
wrapped_size : (a b : ℕ) → a < 2 ^ 32 → b < 2 ^ 32 → unsigned_abs (wrapped a b) ≡ unsigned_abs (wrapped b a)
wrapped_size a b h k =
    turned_from (turn a b) (turn b a) (mod_below (b + 2 ^ 32 - a) (2 ^ 32) (omega arith)) (mod_below (a + 2 ^ 32 - b) (2 ^ 32) (omega arith)) (turn_cases a b h k (cases_order a b))
    (cases_lt (turn a b) (2 ^ 31)) (cases_lt (turn b a) (2 ^ 31))

pub square_turned : (p q : Position) → InBox p → InBox q → square (way p q) ≡ square (way q p)
square_turned p q u v =
    let x : unsigned_abs (wrapped p.x q.x) ≡ unsigned_abs (wrapped q.x p.x) = wrapped_size p.x q.x u.below_x v.below_x in
    let y : unsigned_abs (wrapped p.y q.y) ≡ unsigned_abs (wrapped q.y p.y) = wrapped_size p.y q.y u.below_y v.below_y in
    let z : unsigned_abs (wrapped p.z q.z) ≡ unsigned_abs (wrapped q.z p.z) = wrapped_size p.z q.z u.below_z v.below_z in
    cc

-- a mean of coordinates is one
mean_sum : (axis : BodyData → ℕ) (ms : List BodyData) → AllByRecursion (λ b. axis b < 2 ^ 32) ms → sum_by (λ b. b.mass * axis b) ms ≤ mass_of ms * (2 ^ 32 - 1)
mean_sum axis [] a = omega arith
mean_sum axis (m ∷ ms) a =
    let here : m.mass * axis m ≤ m.mass * (2 ^ 32 - 1) = mul-le m.mass (axis m) m.mass (2 ^ 32 - 1) (omega arith) (omega (arith, a.0)) in
    omega (arith, sum_by-cons (λ b. b.mass * axis b) m ms, sum_by-cons (λ b. b.mass) m ms, mean_sum axis ms a.1, here)

mean_below : (n m : ℕ) → n ≤ m * (2 ^ 32 - 1) → (m ≡ 0) ⊎ (m ≡ 0 → ⊥) → n / m < 2 ^ 32
mean_below n m h (inl e) = let z : n ≡ 0 = omega arith in let q : n / m ≡ 0 = ap (λ t. t / m) z ∙ zero-div m in omega arith
mean_below n m h (inr ne) = div_below n m (2 ^ 32) (omega arith) (omega arith)

mean_in : (axis : BodyData → ℕ) (ms : List BodyData) → AllByRecursion (λ b. axis b < 2 ^ 32) ms → sum_by (λ b. b.mass * axis b) ms / mass_of ms < 2 ^ 32
mean_in axis ms a = mean_below (sum_by (λ b. b.mass * axis b) ms) (mass_of ms) (mean_sum axis ms a) (cases_eq (mass_of ms) 0)

pub centre_in : (ms : List BodyData) → AllByRecursion (λ b. InBox b.motion.pos) ms → InBox (centre_of ms)
centre_in ms a = record {
  below_x = mean_in (λ b. b.motion.pos.x) ms (each-weaker (λ b. InBox b.motion.pos) (λ b. b.motion.pos.x < 2 ^ 32) (λ b h. h.below_x) ms a);
  below_y = mean_in (λ b. b.motion.pos.y) ms (each-weaker (λ b. InBox b.motion.pos) (λ b. b.motion.pos.y < 2 ^ 32) (λ b h. h.below_y) ms a);
  below_z = mean_in (λ b. b.motion.pos.z) ms (each-weaker (λ b. InBox b.motion.pos) (λ b. b.motion.pos.z < 2 ^ 32) (λ b h. h.below_z) ms a);
}

accept_turned : (s : SetupData) (A B : MomentsData) → InBox A.centre → InBox B.centre → accept s A B ≡ accept s B A
unfolding accept
accept_turned s A B u v =
    let sides : side A + side B ≡ side B + side A = omega arith in
    let far : square (way A.centre B.centre) ≡ square (way B.centre A.centre) = square_turned A.centre B.centre u v in
    λ i. ltb (sides i * sides i * 65536) (s.theta * s.theta * far i)

pub moments_in : (s : SetupData) (B : List BodyData) (c : CellData) → AllByRecursion (λ b. InBox b.motion.pos) B → InBox ((moments s B c).centre)
unfolding moments
moments_in s B c a = centre_in (members B c) (each-filter (λ b. InBox b.motion.pos) (λ b. contains c b.motion.pos) B a)

pub opening_sound : (s : SetupData) (B : List BodyData) → AllByRecursion (λ b. InBox b.motion.pos) B → IsSound (opening_of s B)
opening_sound s B a = record {
  fair = λ c d. accept_turned s (moments s B c) (moments s B d) (moments_in s B c a) (moments_in s B d a);
  in_box = each-map (λ b. InBox b.motion.pos) InBox (λ b. b.motion.pos) (λ b h. h) B a;
}
