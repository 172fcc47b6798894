-- The centre of a node lies in it, and a leaf is a point: its centre is its members' position, and it has no second moments.
use Rattle.std.proofs.Common.{◌≡◌, ℕ, ◌+◌, ◌-◌, ◌*◌, ◌/◌, ◌%◌, ◌<◌, ◌≤◌, Bool, true, false, cond, List, [], ◌∷◌, sum_by, fold, refl, ap, sym, ◌∙◌, arith, ◌⊎◌, inl, inr, ℤ, pos, ◌+ℤ◌, ◌-ℤ◌, ◌*ℤ◌}
use Rattle.std.specs.List.{filter, list_all, AllByRecursion}
use Rattle.std.proofs.lemmas.Int.{ints}
use Rattle.std.proofs.lemmas.Nat.{div-add-mod', mod_below, mul-le, div_below, pow_pos}
use Rattle.std.proofs.Math.IntN.{*ℤ-zero, zero-*ℤ}
use Rattle.std.proofs.lemmas.Bool.{cases_lt}
use Rattle.std.proofs.lemmas.List.Sums.{sum_by-cons}
use Rattle.fixed_point.specs.Vectors.{int_sum_by}
use Rattle.cell_space.specs.Cells.{Position, CellData, contains, cell_at, width_of, same_place}
use Rattle.cell_space.proofs.Cells.{contains-exact, same_place-exact}
use Rattle.nbody_model.specs.Bodies.{BodyData}
use Rattle.nbody_model.specs.Nodes.{members, positions_of, at_one_place, is_leaf, is_node}
use Rattle.nbody_model.specs.Setups.{SetupData}
use Rattle.nbody_model.specs.Moments.{Symmetric, mass_of, centre_of, moment_of, quad_of, moments}
use Rattle.model_laws.specs.Laws.{AreBodies, IsPoint}
use Rattle.model_laws.proofs.Among.{Among, Witness, any-witness, among-kept, among-all}
use Rattle.model_laws.proofs.Cancel.{BodyAt, body_at, heavy_filter}
use Rattle.model_laws.proofs.Signed.{total_by, total-on, total-zero}

-- ---- a mean lies between bounds

mean_low : (axis : BodyData → ℕ) (low : ℕ) (ms : List BodyData) → AllByRecursion (λ b. low ≤ axis b) ms → mass_of ms * low ≤ sum_by (λ b. b.mass * axis b) ms
mean_low axis low [] a = omega arith
mean_low axis low (m ∷ ms) a =
    let here : m.mass * low ≤ m.mass * axis m = mul-le m.mass low m.mass (axis m) (omega arith) a.0 in
    omega (arith, sum_by-cons (λ b. b.mass * axis b) m ms, ap (λ n. n * low) (sum_by-cons (λ b. b.mass) m ms), mean_low axis low ms a.1, here)

mean_high : (axis : BodyData → ℕ) (high : ℕ) (ms : List BodyData) → AllByRecursion (λ b. axis b ≤ high) ms → sum_by (λ b. b.mass * axis b) ms ≤ mass_of ms * high
mean_high axis high [] a = omega arith
mean_high axis high (m ∷ ms) a =
    let here : m.mass * axis m ≤ m.mass * high = mul-le m.mass (axis m) m.mass high (omega arith) a.0 in
    omega (arith, sum_by-cons (λ b. b.mass * axis b) m ms, ap (λ n. n * high) (sum_by-cons (λ b. b.mass) m ms), mean_high axis high ms a.1, here)

-- a quotient between two bounds
quotient_low : (n m low : ℕ) → 0 < m → m * low ≤ n → low ≤ n / m
quotient_low n m low h k =
    let e : n / m * m + n % m ≡ n = div-add-mod' n m in
    let r : n % m < m = mod_below n m h in
    below_from (n / m < low) (λ l. let t : (n / m + 1) * m ≤ low * m = mul-le (n / m + 1) m low m (omega arith) (omega arith) in let s : (n / m + 1) * m ≡ n / m * m + m = omega arith in let c : low * m ≡ m * low = omega arith in omega arith) (cases_lt (n / m) low)
  where
    below_from : (P : Type 0) → (P → ⊥) → P ⊎ (low ≤ n / m) → low ≤ n / m
    below_from P f (inl p) = absurd (f p)
    below_from P f (inr p) = p

pub quotient_high : (n m high : ℕ) → 0 < m → n ≤ m * high → n / m ≤ high
quotient_high n m high h k = let s : (high + 1) * m ≡ m * high + m = omega arith in let t : n / m < high + 1 = div_below n m (high + 1) h (omega arith) in omega arith

pub mean_between : (axis : BodyData → ℕ) (low high : ℕ) (ms : List BodyData) → 0 < mass_of ms → AllByRecursion (λ b. low ≤ axis b) ms → AllByRecursion (λ b. axis b ≤ high) ms → (low ≤ sum_by (λ b. b.mass * axis b) ms / mass_of ms) × (sum_by (λ b. b.mass * axis b) ms / mass_of ms ≤ high)
mean_between axis low high ms h a b = (quotient_low (sum_by (λ b. b.mass * axis b) ms) (mass_of ms) low h (mean_low axis low ms a), quotient_high (sum_by (λ b. b.mass * axis b) ms) (mass_of ms) high h (mean_high axis high ms b))

all_among : (P : BodyData → Type 0) (xs : List BodyData) → ((x : BodyData) → Among x xs → P x) → AllByRecursion P xs
all_among P [] h = tt
all_among P (x ∷ xs) h = (h x (inl refl), all_among P xs (λ y k. h y (inr k)))

-- ---- the centre lies in its node

-- the numbers with one upper part
pub same_upper : (n k w : ℕ) → 0 < w → n / w ≡ k → (k * w ≤ n) × (n ≤ k * w + w - 1)
same_upper n k w h e = let d : n / w * w + n % w ≡ n = div-add-mod' n w in let r : n % w < w = mod_below n w h in let q : n / w * w ≡ k * w = ap (λ t. t * w) e in (omega arith, omega arith)

upper_same : (n k w : ℕ) → 0 < w → k * w ≤ n → n ≤ k * w + w - 1 → n / w ≡ k
upper_same n k w h a b =
    let low : k ≤ n / w = quotient_low n w k h (let c : w * k ≡ k * w = omega arith in omega arith) in
    let s : (k + 1) * w ≡ k * w + w = omega arith in
    let high : n / w < k + 1 = div_below n w (k + 1) h (omega arith) in
    omega arith

centre_axis : (axis : BodyData → ℕ) (k w : ℕ) (ms : List BodyData) → 0 < w → 0 < mass_of ms → ((b : BodyData) → Among b ms → axis b / w ≡ k) → sum_by (λ b. b.mass * axis b) ms / mass_of ms / w ≡ k
centre_axis axis k w ms h some e =
    let m : (k * w ≤ sum_by (λ b. b.mass * axis b) ms / mass_of ms) × (sum_by (λ b. b.mass * axis b) ms / mass_of ms ≤ k * w + w - 1) =
    mean_between axis (k * w) (k * w + w - 1) ms some (all_among (λ b. k * w ≤ axis b) ms (λ b j. (same_upper (axis b) k w h (e b j)).0)) (all_among (λ b. axis b ≤ k * w + w - 1) ms (λ b j. (same_upper (axis b) k w h (e b j)).1)) in
    upper_same (sum_by (λ b. b.mass * axis b) ms / mass_of ms) k w h m.0 m.1

pub member_in : (B : List BodyData) (c : CellData) (b : BodyData) → Among b (members B c) → cell_at c.level b.motion.pos ≡ c
member_in B c b h = (contains-exact c b.motion.pos).0 (among-kept (λ b. contains c b.motion.pos) b B h).1

pub centre_contained : (B : List BodyData) (c : CellData) → 0 < mass_of (members B c) → contains c (centre_of (members B c)) ≡ true
centre_contained B c some =
    let w : ℕ = width_of c.level in
    let x : (centre_of (members B c)).x / w ≡ c.x = centre_axis (λ b. b.motion.pos.x) c.x w (members B c) (pow_pos (32 - c.level)) some (λ b h. ap (λ t. t.x) (member_in B c b h)) in
    let y : (centre_of (members B c)).y / w ≡ c.y = centre_axis (λ b. b.motion.pos.y) c.y w (members B c) (pow_pos (32 - c.level)) some (λ b h. ap (λ t. t.y) (member_in B c b h)) in
    let z : (centre_of (members B c)).z / w ≡ c.z = centre_axis (λ b. b.motion.pos.z) c.z w (members B c) (pow_pos (32 - c.level)) some (λ b h. ap (λ t. t.z) (member_in B c b h)) in
    (contains-exact c (centre_of (members B c))).1 (λ i. record { level = c.level; x = x i; y = y i; z = z i })

-- ---- a leaf is a point

kept_map_step : (t : Position → Bool) (b : BodyData) (ys : List BodyData) (zs : List Position) (s : Bool) → positions_of ys ≡ zs → positions_of (cond s (b ∷ ys) ys) ≡ cond s (b.motion.pos ∷ zs) zs
kept_map_step t b ys zs true e = ap (λ u. b.motion.pos ∷ u) e
kept_map_step t b ys zs false e = e

pub member_positions : (B : List BodyData) (c : CellData) → positions_of (members B c) ≡ filter (contains c) (positions_of B)
member_positions [] c = refl
member_positions (b ∷ bs) c = kept_map_step (contains c) b (members bs c) (filter (contains c) (positions_of bs)) (contains c b.motion.pos) (member_positions bs c)

one_place : (ms : List BodyData) (p : Position) → at_one_place (p ∷ positions_of ms) ≡ true → (b : BodyData) → Among b ms → b.motion.pos ≡ p
one_place ms p h b k = sym ((same_place-exact p b.motion.pos).0 (all_from ms (same_place p) h b k))
  where
    all_from : (ms : List BodyData) (t : Position → Bool) → list_all t (positions_of ms) ≡ true → (b : BodyData) → Among b ms → t b.motion.pos ≡ true
    all_from ms t h b k = among-all t b.motion.pos (positions_of ms) h (among_pos b ms k)
      where
        among_pos : (b : BodyData) (ms : List BodyData) → Among b ms → Among b.motion.pos (positions_of ms)
        among_pos b [] k = absurd k
        among_pos b (m ∷ ms) (inl e) = inl (ap (λ t. t.motion.pos) e)
        among_pos b (m ∷ ms) (inr j) = inr (among_pos b ms j)

-- all of these bodies are at p
abbrev pub AllAt : Position → List BodyData → Type 0
AllAt p ms = (b : BodyData) → Among b ms → b.motion.pos ≡ p

mean_same : (axis : BodyData → ℕ) (n : ℕ) (ms : List BodyData) → 0 < mass_of ms → ((b : BodyData) → Among b ms → axis b ≡ n) → sum_by (λ b. b.mass * axis b) ms / mass_of ms ≡ n
mean_same axis n ms h e =
    let m : (n ≤ sum_by (λ b. b.mass * axis b) ms / mass_of ms) × (sum_by (λ b. b.mass * axis b) ms / mass_of ms ≤ n) =
    mean_between axis n n ms h (all_among (λ b. n ≤ axis b) ms (λ b k. omega (arith, e b k))) (all_among (λ b. axis b ≤ n) ms (λ b k. omega (arith, e b k))) in
    omega (arith, m.0, m.1)

pub centre_at : (p : Position) (ms : List BodyData) → 0 < mass_of ms → AllAt p ms → centre_of ms ≡ p
centre_at p ms h e =
    let x : (centre_of ms).x ≡ p.x = mean_same (λ b. b.motion.pos.x) p.x ms h (λ b k. ap (λ t. t.x) (e b k)) in
    let y : (centre_of ms).y ≡ p.y = mean_same (λ b. b.motion.pos.y) p.y ms h (λ b k. ap (λ t. t.y) (e b k)) in
    let z : (centre_of ms).z ≡ p.z = mean_same (λ b. b.motion.pos.z) p.z ms h (λ b k. ap (λ t. t.z) (e b k)) in
    λ i. record { x = x i; y = y i; z = z i }

int_sum_from : {X : Type 0} (f : X → ℤ) (xs : List X) (n : ℤ) → fold (λ total x. total +ℤ f x) n xs ≡ n +ℤ total_by f xs
int_sum_from f [] n = omega (arith, ints)
int_sum_from f (x ∷ xs) n = int_sum_from f xs (n +ℤ f x) ∙ omega (arith, ints)

pub int_sum-total : {X : Type 0} (f : X → ℤ) (xs : List X) → int_sum_by f xs ≡ total_by f xs
int_sum-total f xs = int_sum_from f xs (pos 0) ∙ omega (arith, ints)

moment_zero : (d e : BodyData → ℤ) (ms : List BodyData) → ((b : BodyData) → Among b ms → d b ≡ pos 0) → moment_of d e ms ≡ pos 0
moment_zero d e ms h =
    int_sum-total (λ b. pos b.mass *ℤ (d b *ℤ e b)) ms
    ∙ total-on (λ b. pos b.mass *ℤ (d b *ℤ e b)) (λ b. pos 0) ms (λ b k. ap (λ t. pos b.mass *ℤ (t *ℤ e b)) (h b k) ∙ ap (λ t. pos b.mass *ℤ t) (zero-*ℤ (e b)) ∙ *ℤ-zero (pos b.mass))
    ∙ total-zero ms

abbrev pub none : Symmetric
none = record { xx = pos 0; yy = pos 0; zz = pos 0; xy = pos 0; xz = pos 0; yz = pos 0 }

pub quad_zero : (p : Position) (ms : List BodyData) → AllAt p ms → quad_of p ms ≡ none
quad_zero p ms e =
    let dx : BodyData → ℤ = λ b. pos b.motion.pos.x -ℤ pos p.x in
    let dy : BodyData → ℤ = λ b. pos b.motion.pos.y -ℤ pos p.y in
    let dz : BodyData → ℤ = λ b. pos b.motion.pos.z -ℤ pos p.z in
    let x : (b : BodyData) → Among b ms → dx b ≡ pos 0 = λ b k. let u : b.motion.pos.x ≡ p.x = ap (λ t. t.x) (e b k) in omega (arith, ints) in
    let y : (b : BodyData) → Among b ms → dy b ≡ pos 0 = λ b k. let u : b.motion.pos.y ≡ p.y = ap (λ t. t.y) (e b k) in omega (arith, ints) in
    let z : (b : BodyData) → Among b ms → dz b ≡ pos 0 = λ b k. let u : b.motion.pos.z ≡ p.z = ap (λ t. t.z) (e b k) in omega (arith, ints) in
    λ i. record {
      xx = moment_zero dx dx ms x i;
      yy = moment_zero dy dy ms y i;
      zz = moment_zero dz dz ms z i;
      xy = moment_zero dx dy ms x i;
      xz = moment_zero dx dz ms x i;
      yz = moment_zero dy dz ms y i;
    }

-- bodies at one place, and which
record OnePlace (ms : List BodyData) : Type 0 where
  p : Position
  all : AllAt p ms

place_of : (ms : List BodyData) → 0 < mass_of ms → at_one_place (positions_of ms) ≡ true → OnePlace ms
place_of [] some h = absurd (omega (arith, some))
place_of (b ∷ bs) some h = record { p = b.motion.pos; all = every }
  where
    every : (c : BodyData) → Among c (b ∷ bs) → c.motion.pos ≡ b.motion.pos
    every c (inl e) = ap (λ t. t.motion.pos) e
    every c (inr k) = one_place bs b.motion.pos h c k

-- a node has mass
pub node_mass : (B : List BodyData) → AllByRecursion (λ b. 1 ≤ b.mass) B → (c : CellData) → is_node (positions_of B) c ≡ true → 0 < mass_of (members B c)
unfolding is_node
node_mass B heavy c h =
    let w : Witness (contains c) (positions_of B) = any-witness (contains c) (positions_of B) h in
    let b : BodyAt w.it B = body_at w.it B w.«in» in
    heavy_filter (λ b. contains c b.motion.pos) B b.it heavy b.«in» (ap (contains c) b.at ∙ w.passes)

pub centre_inside : (s : SetupData) (B : List BodyData) → AreBodies B → (c : CellData) → is_node (positions_of B) c ≡ true → contains c ((moments s B c).centre) ≡ true
unfolding moments
centre_inside s B a c h = centre_contained B c (node_mass B a.heavy c h)

leaf_place : (B : List BodyData) → AreBodies B → (c : CellData) → is_node (positions_of B) c ≡ true → is_leaf (positions_of B) c ≡ true → OnePlace (members B c)
unfolding is_leaf
leaf_place B a c h k = place_of (members B c) (node_mass B a.heavy c h) (ap at_one_place (member_positions B c) ∙ k)

pub leaf_point : (s : SetupData) (B : List BodyData) → AreBodies B → (c : CellData) → is_node (positions_of B) c ≡ true → is_leaf (positions_of B) c ≡ true → IsPoint (moments s B c) (members B c)
unfolding moments
leaf_point s B a c h k =
    let o : OnePlace (members B c) = leaf_place B a c h k in
    let e : centre_of (members B c) ≡ o.p = centre_at o.p (members B c) (node_mass B a.heavy c h) o.all in
    record {
      centred = all_among (λ b. b.motion.pos ≡ centre_of (members B c)) (members B c) (λ b j. o.all b j ∙ sym e);
      round = ap (λ p. quad_of p (members B c)) e ∙ quad_zero o.p (members B c) o.all;
    }
