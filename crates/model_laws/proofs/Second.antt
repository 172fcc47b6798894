-- The second moments of a node are at most its mass times its side squared.
use Rattle.std.proofs.Common.{◌≡◌, ℕ, ◌+◌, ◌-◌, ◌*◌, ◌/◌, ◌<◌, ◌≤◌, Bool, true, false, cond, List, [], ◌∷◌, sum_by, refl, ap, sym, subst, ◌∙◌, arith, ℤ, pos, ◌-ℤ◌, ◌*ℤ◌}
use Rattle.std.specs.Prelude.{unsigned_abs}
use Rattle.std.proofs.lemmas.Int.{ints, unsigned_abs-mul}
use Rattle.std.proofs.lemmas.Nat.{mul-le, pow_pos}
use Rattle.std.proofs.lemmas.List.Sums.{sum_by-cons}
use Rattle.cell_space.specs.Cells.{Position, CellData, cell_at, width_of}
use Rattle.cell_space.proofs.Cells.{contains-exact}
use Rattle.nbody_model.specs.Bodies.{BodyData}
use Rattle.nbody_model.specs.Setups.{SetupData}
use Rattle.nbody_model.specs.Nodes.{members, positions_of, is_node, is_leaf}
use Rattle.nbody_model.specs.Moments.{mass_of, centre_of, moment_of, quad_of, moments}
use Rattle.nbody_model.specs.OpeningRule.{side}
use Rattle.model_laws.specs.Laws.{AreBodies, IsWithinEach}
use Rattle.model_laws.proofs.Among.{Among}
use Rattle.model_laws.proofs.Bounds.{total_within}
use Rattle.model_laws.proofs.Centres.{int_sum-total, member_in, same_upper, centre_inside, leaf_point}

-- numbers with one upper part are less than a width apart
apart_within : (n m k w : ℕ) → 0 < w → n / w ≡ k → m / w ≡ k → unsigned_abs (pos n -ℤ pos m) ≤ w
apart_within n m k w h e f =
    let a : (k * w ≤ n) × (n ≤ k * w + w - 1) = same_upper n k w h e in
    let b : (k * w ≤ m) × (m ≤ k * w + w - 1) = same_upper m k w h f in
    omega (arith, ints, a.0, a.1, b.0, b.1)

weighed : (f : BodyData → ℕ) (n : ℕ) (ms : List BodyData) → sum_by (λ b. b.mass * n) ms ≡ mass_of ms * n
weighed f n [] = omega arith
weighed f n (m ∷ ms) = omega (arith, sum_by-cons (λ b. b.mass * n) m ms, ap (λ t. t * n) (sum_by-cons (λ b. b.mass) m ms), weighed f n ms)

moment_within : (d e : BodyData → ℤ) (w : ℕ) (ms : List BodyData) → ((b : BodyData) → Among b ms → unsigned_abs (d b) ≤ w) → ((b : BodyData) → Among b ms → unsigned_abs (e b) ≤ w) → unsigned_abs (moment_of d e ms) ≤ mass_of ms * (w * w)
moment_within d e w ms h k =
    let one : (b : BodyData) → Among b ms → unsigned_abs (pos b.mass *ℤ (d b *ℤ e b)) ≤ b.mass * (w * w) = λ b j.
    let u : unsigned_abs (d b) * unsigned_abs (e b) ≤ w * w = mul-le (unsigned_abs (d b)) (unsigned_abs (e b)) w w (h b j) (k b j) in
    let v : b.mass * (unsigned_abs (d b) * unsigned_abs (e b)) ≤ b.mass * (w * w) = mul-le b.mass (unsigned_abs (d b) * unsigned_abs (e b)) b.mass (w * w) (omega arith) u in
    let s : unsigned_abs (pos b.mass *ℤ (d b *ℤ e b)) ≡ b.mass * (unsigned_abs (d b) * unsigned_abs (e b)) = unsigned_abs-mul (pos b.mass) (d b *ℤ e b) ∙ ap (λ t. b.mass * t) (unsigned_abs-mul (d b) (e b)) in
    omega arith in
    subst (λ t. unsigned_abs t ≤ mass_of ms * (w * w)) (sym (int_sum-total (λ b. pos b.mass *ℤ (d b *ℤ e b)) ms))
    (omega (arith, total_within (λ b. pos b.mass *ℤ (d b *ℤ e b)) (λ b. b.mass * (w * w)) ms one, weighed (λ b. b.mass) (w * w) ms))

node_within : (B : List BodyData) (c : CellData) → cell_at c.level (centre_of (members B c)) ≡ c → IsWithinEach (mass_of (members B c) * (width_of c.level * width_of c.level)) (quad_of (centre_of (members B c)) (members B c))
node_within B c e =
    let ms : List BodyData = members B c in
    let p : Position = centre_of ms in
    let w : ℕ = width_of c.level in
    let dx : BodyData → ℤ = λ b. pos b.motion.pos.x -ℤ pos p.x in
    let dy : BodyData → ℤ = λ b. pos b.motion.pos.y -ℤ pos p.y in
    let dz : BodyData → ℤ = λ b. pos b.motion.pos.z -ℤ pos p.z in
    let x : (b : BodyData) → Among b ms → unsigned_abs (dx b) ≤ w = λ b k. apart_within b.motion.pos.x p.x c.x w (pow_pos (32 - c.level)) (ap (λ t. t.x) (member_in B c b k)) (ap (λ t. t.x) e) in
    let y : (b : BodyData) → Among b ms → unsigned_abs (dy b) ≤ w = λ b k. apart_within b.motion.pos.y p.y c.y w (pow_pos (32 - c.level)) (ap (λ t. t.y) (member_in B c b k)) (ap (λ t. t.y) e) in
    let z : (b : BodyData) → Among b ms → unsigned_abs (dz b) ≤ w = λ b k. apart_within b.motion.pos.z p.z c.z w (pow_pos (32 - c.level)) (ap (λ t. t.z) (member_in B c b k)) (ap (λ t. t.z) e) in
    record {
      on_xx = moment_within dx dx w ms x x;
      on_yy = moment_within dy dy w ms y y;
      on_zz = moment_within dz dz w ms z z;
      on_xy = moment_within dx dy w ms x y;
      on_xz = moment_within dx dz w ms x z;
      on_yz = moment_within dy dz w ms y z;
    }

zero_within : (n : ℕ) → IsWithinEach n (record { xx = pos 0; yy = pos 0; zz = pos 0; xy = pos 0; xz = pos 0; yz = pos 0 })
zero_within n = record { on_xx = omega (arith, ints); on_yy = omega (arith, ints); on_zz = omega (arith, ints); on_xy = omega (arith, ints); on_xz = omega (arith, ints); on_yz = omega (arith, ints) }

second_cases : (s : SetupData) (B : List BodyData) → AreBodies B → (c : CellData) → is_node (positions_of B) c ≡ true → (b : Bool) → is_leaf (positions_of B) c ≡ b → IsWithinEach (mass_of (members B c) * (cond b 0 (width_of c.level) * cond b 0 (width_of c.level))) (moments s B c).quad
unfolding moments
second_cases s B a c h true e = subst (IsWithinEach (mass_of (members B c) * (0 * 0))) (sym (leaf_point s B a c h e).round) (zero_within (mass_of (members B c) * (0 * 0)))
second_cases s B a c h false e = node_within B c ((contains-exact c (centre_of (members B c))).0 (centre_inside s B a c h))

pub second_bounded : (s : SetupData) (B : List BodyData) → AreBodies B → (c : CellData) → is_node (positions_of B) c ≡ true → IsWithinEach ((moments s B c).mass * (side (moments s B c) * side (moments s B c))) (moments s B c).quad
unfolding moments
second_bounded s B a c h = second_cases s B a c h (is_leaf (positions_of B) c) refl
