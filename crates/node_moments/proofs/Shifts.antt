-- Sums from one corner, by those from another.
use Rattle.std.proofs.Common.{◌≡◌, ℕ, ◌+◌, ◌-◌, ◌*◌, ◌≤◌, ◌^◌, true, List, [], ◌∷◌, refl, ap, sym, ◌∙◌, subst, arith, inl, inr}
use Rattle.std.specs.List.{AllByRecursion}
use Rattle.std.proofs.lemmas.Nat.{mul-le}
use Rattle.std.proofs.lemmas.List.Sums.{sum_by-cons}
use Rattle.cell_space.specs.Cells.{Position, CellData, InBox, contains, corner, width_of, place}
use Rattle.nbody_model.specs.Bodies.{BodyData}
use Rattle.nbody_model.specs.Setups.{SetupData}
use Rattle.nbody_model.specs.Nodes.{members}
use Rattle.nbody_model.specs.Moments.{mass_of}
use Rattle.model_laws.proofs.Among.{Among, each-among}
use Rattle.model_laws.proofs.Centres.{member_in}
use Rattle.model_laws.proofs.Pairs.{all_among}
use Rattle.node_moments.specs.Sums.{RawData, IsRaw, raw_of, first, second, from_x, from_y, from_z, at_x, at_y, at_z, least}
use Rattle.node_moments.specs.Shifted.{first_from, second_from, added, shifted}
use Rattle.node_moments.specs.Conditions.{IsSumOf, IsOfNode}
use Rattle.node_moments.proofs.One.{above_corner, above_corners}
use Rattle.node_moments.proofs.Centred.{all_first}
use Rattle.node_moments.proofs.Extremes.{min_of}
use Rattle.node_moments.proofs.Nodes.{member_of}

one_second : (m p q a b : ℕ) → a ≤ p → b ≤ q → m * (p * q) ≡ m * ((p - a) * (q - b)) + (a * (m * (q - b)) + b * (m * (p - a)) + m * (a * b))
one_second m p q a b h k =
    let e : p - a + a ≡ p = omega (arith, h) in
    let f : q - b + b ≡ q = omega (arith, k) in
    ap (λ t. m * (t * q)) (sym e) ∙ ap (λ t. m * ((p - a + a) * t)) (sym f) ∙ omega arith

all_second : (p q : BodyData → ℕ) (a b : ℕ) (ms : List BodyData) → AllByRecursion (λ m. a ≤ p m) ms → AllByRecursion (λ m. b ≤ q m) ms
    → second p q ms ≡ second (λ m. p m - a) (λ m. q m - b) ms + added (mass_of ms) a b (first (λ m. p m - a) ms) (first (λ m. q m - b) ms)
all_second p q a b [] h k = omega arith
all_second p q a b (m ∷ ms) h k =
    omega (
      arith,
      one_second m.mass (p m) (q m) a b h.0 k.0,
      all_second p q a b ms h.1 k.1,
      sum_by-cons (λ m. m.mass * (p m * q m)) m ms,
      sum_by-cons (λ m. m.mass * ((p m - a) * (q m - b))) m ms,
      ap (λ t. t * (a * b)) (sum_by-cons (λ m. m.mass) m ms),
      ap (λ t. a * t) (sum_by-cons (λ m. m.mass * (q m - b)) m ms),
      ap (λ t. b * t) (sum_by-cons (λ m. m.mass * (p m - a)) m ms),
    )

shift_first : (p : BodyData → ℕ) (a d : ℕ) (ms : List BodyData) → AllByRecursion (λ m. a ≤ p m) ms → AllByRecursion (λ m. d ≤ p m) ms → first_from (first (λ m. p m - a) ms) (mass_of ms) a d ≡ first (λ m. p m - d) ms
shift_first p a d ms h k = omega (arith, all_first p a ms h, all_first p d ms k)

shift_second : (p q : BodyData → ℕ) (a b d e : ℕ) (ms : List BodyData) → AllByRecursion (λ m. a ≤ p m) ms → AllByRecursion (λ m. b ≤ q m) ms → AllByRecursion (λ m. d ≤ p m) ms → AllByRecursion (λ m. e ≤ q m) ms
    → second_from (second (λ m. p m - a) (λ m. q m - b) ms) (mass_of ms) (first (λ m. p m - a) ms) (first (λ m. q m - b) ms) a b d e ≡ second (λ m. p m - d) (λ m. q m - e) ms
shift_second p q a b d e ms h k i j =
    ap (λ t. second (λ m. p m - a) (λ m. q m - b) ms + added (mass_of ms) a b (first (λ m. p m - a) ms) (first (λ m. q m - b) ms) - added (mass_of ms) d e t (first_from (first (λ m. q m - b) ms) (mass_of ms) b e)) (shift_first p a d ms h i)
    ∙ ap (λ t. second (λ m. p m - a) (λ m. q m - b) ms + added (mass_of ms) a b (first (λ m. p m - a) ms) (first (λ m. q m - b) ms) - added (mass_of ms) d e (first (λ m. p m - d) ms) t) (shift_first q b e ms k j)
    ∙ ap (λ t. t - added (mass_of ms) d e (first (λ m. p m - d) ms) (first (λ m. q m - e) ms)) (sym (all_second p q a b ms h k) ∙ all_second p q d e ms i j)
    ∙ less_again (second (λ m. p m - d) (λ m. q m - e) ms) (added (mass_of ms) d e (first (λ m. p m - d) ms) (first (λ m. q m - e) ms))
  where
    less_again : (n k : ℕ) → n + k - k ≡ n
    less_again n k = omega arith

-- the corner of a cell is at most each coordinate
record Above (c : CellData) (ms : List BodyData) : Type 0 where
  x : AllByRecursion (λ m. (corner c).x ≤ at_x m) ms
  y : AllByRecursion (λ m. (corner c).y ≤ at_y m) ms
  z : AllByRecursion (λ m. (corner c).z ≤ at_z m) ms

shifted_raw : (soft : List ℕ) (c d : CellData) (ms : List BodyData) → Above c ms → Above d ms → shifted (raw_of soft c ms) d ≡ raw_of soft d ms
unfolding raw_of
shifted_raw soft c d ms u v =
    let p : Position = corner c in
    let q : Position = corner d in
    let r : RawData = raw_of soft d ms in
    λ i. record {
      cell = d;
      count = r.count;
      mass = r.mass;
      mx = shift_first at_x p.x q.x ms u.x v.x i ∷ shift_first at_y p.y q.y ms u.y v.y i ∷ shift_first at_z p.z q.z ms u.z v.z i ∷ [];
      mxx = shift_second at_x at_x p.x p.x q.x q.x ms u.x u.x v.x v.x i ∷ shift_second at_y at_y p.y p.y q.y q.y ms u.y u.y v.y v.y i ∷ shift_second at_z at_z p.z p.z q.z q.z ms u.z u.z v.z v.z i ∷ shift_second at_x at_y p.x p.y q.x q.y ms u.x u.y v.x v.y i ∷ shift_second at_x at_z p.x p.z q.x q.z ms u.x u.z v.x v.z i ∷ shift_second at_y at_z p.y p.z q.y q.z ms u.y u.z v.y v.z i ∷ [];
      lo = r.lo;
      hi = r.hi;
      eps = r.eps;
    }

above_old : (B : List BodyData) (c : CellData) → Above c (members B c)
above_old B c =
    let w : ℕ = width_of c.level in
    record {
      x = all_among (λ b. (corner c).x ≤ at_x b) (members B c) (λ b h. above_corner b.motion.pos.x c.x w (ap (λ t. t.x) (member_in B c b h)));
      y = all_among (λ b. (corner c).y ≤ at_y b) (members B c) (λ b h. above_corner b.motion.pos.y c.y w (ap (λ t. t.y) (member_in B c b h)));
      z = all_among (λ b. (corner c).z ≤ at_z b) (members B c) (λ b h. above_corner b.motion.pos.z c.z w (ap (λ t. t.z) (member_in B c b h)));
    }

low_place : (soft : List ℕ) (c : CellData) (ms : List BodyData) → place (raw_of soft c ms).lo ≡ record { x = least at_x ms; y = least at_y ms; z = least at_z ms }
unfolding raw_of
low_place soft c ms = refl

above_new : (d : CellData) (ms : List BodyData) (p : Position) → p ≡ record { x = least at_x ms; y = least at_y ms; z = least at_z ms } → contains d p ≡ true → Above d ms
above_new d ms p e h =
    let u = above_corners d p h in
    record {
      x = all_among (λ b. (corner d).x ≤ at_x b) ms (λ b j. omega (arith, u.0, ap (λ t. t.x) e, min_of at_x 4294967295 b ms j));
      y = all_among (λ b. (corner d).y ≤ at_y b) ms (λ b j. omega (arith, u.1, ap (λ t. t.y) e, min_of at_y 4294967295 b ms j));
      z = all_among (λ b. (corner d).z ≤ at_z b) ms (λ b j. omega (arith, u.2, ap (λ t. t.z) e, min_of at_z 4294967295 b ms j));
    }

pub shifts : (s : SetupData) (B : List BodyData) (r : RawData) (d : CellData) → IsSumOf s B r → contains d (place r.lo) ≡ true → shifted r d ≡ raw_of s.soft d (members B r.cell)
shifts s B r d h l =
    ap (λ t. shifted t d) h.is
    ∙ shifted_raw s.soft r.cell d (members B r.cell) (above_old B r.cell) (above_new d (members B r.cell) (place r.lo) (ap (λ t. place t.lo) h.is ∙ low_place s.soft r.cell (members B r.cell)) l)

-- ---- how large they are

first_within : (f : BodyData → ℕ) (n : ℕ) (ms : List BodyData) → ((b : BodyData) → Among b ms → f b ≤ n) → first f ms ≤ mass_of ms * n
first_within f n [] h = omega arith
first_within f n (m ∷ ms) h =
    let here : m.mass * f m ≤ m.mass * n = mul-le m.mass (f m) m.mass n (omega arith) (h m (inl refl)) in
    omega (arith, sum_by-cons (λ b. b.mass * f b) m ms, ap (λ t. t * n) (sum_by-cons (λ b. b.mass) m ms), first_within f n ms (λ b j. h b (inr j)), here)

second_within : (f g : BodyData → ℕ) (ms : List BodyData) → ((b : BodyData) → Among b ms → f b ≤ 2 ^ 32) → ((b : BodyData) → Among b ms → g b ≤ 2 ^ 32) → second f g ms ≤ mass_of ms * 2 ^ 64
second_within f g ms h k = first_within (λ b. f b * g b) (2 ^ 64) ms (λ b j. let u : f b * g b ≤ 2 ^ 32 * 2 ^ 32 = mul-le (f b) (g b) (2 ^ 32) (2 ^ 32) (h b j) (k b j) in omega (arith, u))

-- sums that members may have
abbrev pub Kept : RawData → Type 0
Kept r = IsRaw r.count r.mass r.mx r.mxx

raw_kept : (soft : List ℕ) (c d : CellData) (ms : List BodyData) → ((b : BodyData) → Among b ms → InBox b.motion.pos) → Kept (raw_of soft c ms) → Kept (raw_of soft d ms)
unfolding raw_of
raw_kept soft c d ms box k =
    let x : (b : BodyData) → Among b ms → from_x d b ≤ 2 ^ 32 = λ b j. omega (arith, (box b j).below_x) in
    let y : (b : BodyData) → Among b ms → from_y d b ≤ 2 ^ 32 = λ b j. omega (arith, (box b j).below_y) in
    let z : (b : BodyData) → Among b ms → from_z d b ≤ 2 ^ 32 = λ b j. omega (arith, (box b j).below_z) in
    record {
      few = k.few;
      light = k.light;
      first_x = first_within (from_x d) (2 ^ 32) ms x;
      first_y = first_within (from_y d) (2 ^ 32) ms y;
      first_z = first_within (from_z d) (2 ^ 32) ms z;
      second_xx = second_within (from_x d) (from_x d) ms x x;
      second_yy = second_within (from_y d) (from_y d) ms y y;
      second_zz = second_within (from_z d) (from_z d) ms z z;
      second_xy = second_within (from_x d) (from_y d) ms x y;
      second_xz = second_within (from_x d) (from_z d) ms x z;
      second_yz = second_within (from_y d) (from_z d) ms y z;
    }

pub shift_kept : (r : RawData) (d : CellData) → IsOfNode r → contains d (place r.lo) ≡ true → Kept r → Kept (shifted r d)
shift_kept r d h l k =
    let ms : List BodyData = members h.all r.cell in
    let s : List ℕ = h.setup.soft in
    let old : Kept (raw_of s r.cell ms) = subst Kept h.sums.is k in
    let new : Kept (raw_of s d ms) = raw_kept s r.cell d ms (λ b j. each-among (λ b. InBox b.motion.pos) b h.all h.sums.bodies.in_box (member_of h.all r.cell b j)) old in
    subst Kept (sym (shifts h.setup h.all r d h.sums l)) new

-- sums, part by part
pub by_sums : (a b : RawData) → a.cell ≡ b.cell → a.count ≡ b.count → a.mass ≡ b.mass → a.mx ≡ b.mx → a.mxx ≡ b.mxx → a.lo ≡ b.lo → a.hi ≡ b.hi → a.eps ≡ b.eps → a ≡ b
by_sums a b c d e f g h j k = λ i. record { cell = c i; count = d i; mass = e i; mx = f i; mxx = g i; lo = h i; hi = j i; eps = k i }

pub equal_kept : (a b : RawData) → a ≡ b → Kept b → Kept a
equal_kept a b e h = subst Kept (sym e) h
