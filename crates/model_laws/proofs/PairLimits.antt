-- Each interaction's force is bounded.
use Rattle.std.proofs.Common.{◌≡◌, ℕ, zero, suc, ◌+◌, ◌-◌, ◌*◌, ◌^◌, ◌%◌, ◌<◌, ◌≤◌, max, Bool, true, false, cond, ltb, ◌&&◌, List, [], ◌∷◌, map, sum_by, fold, refl, ap, sym, subst, ◌∙◌, arith, ◌⊎◌, inl, inr, ℤ, pos, negsuc, ◌+ℤ◌, Option, Some, None}
use Rattle.std.specs.Prelude.{unsigned_abs}
use Rattle.std.specs.List.{AllByRecursion}
use Rattle.std.proofs.lemmas.Int.{ints}
use Rattle.std.proofs.lemmas.Nat.{mul-le, mod_below}
use Rattle.std.proofs.lemmas.Bool.{cases_lt, or_cases, and_parts, ltb-true, lt-ltb, le-ltb}
use Rattle.std.proofs.lemmas.List.Sums.{sum_by-cons}
use Rattle.fixed_point.specs.declared.V3.{V3}
use Rattle.fixed_point.specs.Vectors.{origin, IsAtMost}
use Rattle.fixed_point.specs.Fixed.{IsRoot, root, wrapped}
use Rattle.fixed_point.proofs.Roots.{IsRoot-root}
use Rattle.cell_space.specs.Cells.{Position, CellData, contains, before, same_place, InBox, AreDisjoint, width_of}
use Rattle.nbody_model.specs.Bodies.{BodyData}
use Rattle.nbody_model.specs.Setups.{SetupData, IsSetup}
use Rattle.nbody_model.specs.Tables.{Gravity, TableData}
use Rattle.nbody_model.specs.Nodes.{members, positions_of, is_node, is_leaf}
use Rattle.nbody_model.specs.Moments.{MomentsData, mass_of, soft_of, moments}
use Rattle.nbody_model.specs.OpeningRule.{way, square, side, accept}
use Rattle.nbody_model.specs.Correction.{correction}
use Rattle.nbody_model.specs.Scaling.{◌·◌, ◌÷◌}
use Rattle.nbody_model.specs.PairForce.{mono, quadrupole, images, pair}
use Rattle.nbody_model.specs.Covers.{Opening, opening_of, final, cover, chain, interactions}
use Rattle.nbody_model.specs.Force.{pair_force}
use Rattle.model_laws.specs.Laws.{IsSound, AreBodies, IsWithinEach, IsPairOfNodes, CorrectsLittle}
use Rattle.model_laws.proofs.Among.{Among, Witness, each-among, any-witness, among-filter, among-kept}
use Rattle.model_laws.proofs.Sums.{sum_by-zero}
use Rattle.model_laws.proofs.Walk.{box_of, filter_sum}
use Rattle.model_laws.proofs.Same.{final_fair}
use Rattle.model_laws.proofs.ChainFacts.{at_final, chain-last}
use Rattle.model_laws.proofs.Cancel.{CoverOf, interaction-cover, BodyAt, body_at}
use Rattle.model_laws.proofs.Fair.{opening_sound}
use Rattle.model_laws.proofs.Second.{second_bounded}
use Rattle.model_laws.proofs.Pairs.{pairs_of_nodes}
use Rattle.model_laws.proofs.PairBounds.{times_size, quot_within, axis_within, mono_within, quadrupole_within}

-- ---- an interaction is final

final_twice : (b : Bool) → ◌≡◌ {A = ℕ} (cond b (cond b 0 1) 0) 0
final_twice true = refl
final_twice false = refl

cover_final : (o : Opening) (p q : Position) → InBox p → InBox q → same_place p q ≡ false → final o (cover o p q).0 (cover o p q).1 ≡ true
cover_final o p q u v differ = from (final o (cover o p q).0 (cover o p q).1) refl
  where
    none : ◌≡◌ {A = ℕ} (cond (final o (cover o p q).0 (cover o p q).1) 0 1) 0
    none = sym (chain-last o p q (λ x. cond (final o x.0 x.1) 0 1) u v differ) ∙ sum_by-zero (at_final o (λ x. cond (final o x.0 x.1) 0 1)) (λ x. final_twice (final o x.0 x.1)) (chain o p q)

    from : (b : Bool) → final o (cover o p q).0 (cover o p q).1 ≡ b → b ≡ true
    from true e = refl
    from false e = absurd (let k : ◌≡◌ {A = ℕ} (cond (final o (cover o p q).0 (cover o p q).1) 0 1) 1 = ap {B = ℕ} (λ b. cond b 0 1) e in let n : ◌≡◌ {A = ℕ} (cond (final o (cover o p q).0 (cover o p q).1) 0 1) 0 = none in omega arith)

turned_final : (o : Opening) → IsSound o → (y : CellData × CellData) (b : Bool) → final o y.0 y.1 ≡ true → final o (cond b (y.1, y.0) y).0 (cond b (y.1, y.0) y).1 ≡ true
turned_final o s y true e = final_fair o s.fair y.1 y.0 ∙ e
turned_final o s y false e = e

pub interaction_final : (o : Opening) → IsSound o → (x : CellData × CellData) → Among x (interactions o) → final o x.0 x.1 ≡ true
interaction_final o s x h =
    let c : CoverOf o x = interaction-cover o x h in
    let y : CellData × CellData = cover o c.p c.q in
    subst (λ z. final o z.0 z.1 ≡ true) (sym c.is) (turned_final o s y (before y.1 y.0) (cover_final o c.p c.q (box_of o s c.p c.in_p) (box_of o s c.q c.in_q) c.differ))

-- ---- sizes

wrapped_cases : (d : ℕ) → d < 2 ^ 32 → (d < 2 ^ 31) ⊎ (2 ^ 31 ≤ d) → unsigned_abs (cond (ltb d (2 ^ 31)) (pos d) (negsuc (2 ^ 32 - 1 - d))) ≤ 2 ^ 31
wrapped_cases d h (inl l) = let e : unsigned_abs (cond (ltb d (2 ^ 31)) (pos d) (negsuc (2 ^ 32 - 1 - d))) ≡ d = ap (λ b. unsigned_abs (cond b (pos d) (negsuc (2 ^ 32 - 1 - d)))) (lt-ltb d (2 ^ 31) l) in omega arith
wrapped_cases d h (inr l) = let e : unsigned_abs (cond (ltb d (2 ^ 31)) (pos d) (negsuc (2 ^ 32 - 1 - d))) ≡ suc (2 ^ 32 - 1 - d) = ap (λ b. unsigned_abs (cond b (pos d) (negsuc (2 ^ 32 - 1 - d)))) (le-ltb d (2 ^ 31) l) in omega arith

wrapped_within : (a b : ℕ) → unsigned_abs (wrapped a b) ≤ 2 ^ 31
wrapped_within a b = wrapped_cases ((b + 2 ^ 32 - a) % 2 ^ 32) (mod_below (b + 2 ^ 32 - a) (2 ^ 32) (omega arith)) (cases_lt ((b + 2 ^ 32 - a) % 2 ^ 32) (2 ^ 31))

pub way_within : (p q : Position) → IsAtMost (2 ^ 31) (way p q)
way_within p q = record { on_x = wrapped_within p.x q.x; on_y = wrapped_within p.y q.y; on_z = wrapped_within p.z q.z }

pub square_within : (p q : Position) → square (way p q) ≤ 3 * 2 ^ 62
square_within p q =
    let x : unsigned_abs (wrapped p.x q.x) * unsigned_abs (wrapped p.x q.x) ≤ 2 ^ 31 * 2 ^ 31 = mul-le (unsigned_abs (wrapped p.x q.x)) (unsigned_abs (wrapped p.x q.x)) (2 ^ 31) (2 ^ 31) (wrapped_within p.x q.x) (wrapped_within p.x q.x) in
    let y : unsigned_abs (wrapped p.y q.y) * unsigned_abs (wrapped p.y q.y) ≤ 2 ^ 31 * 2 ^ 31 = mul-le (unsigned_abs (wrapped p.y q.y)) (unsigned_abs (wrapped p.y q.y)) (2 ^ 31) (2 ^ 31) (wrapped_within p.y q.y) (wrapped_within p.y q.y) in
    let z : unsigned_abs (wrapped p.z q.z) * unsigned_abs (wrapped p.z q.z) ≤ 2 ^ 31 * 2 ^ 31 = mul-le (unsigned_abs (wrapped p.z q.z)) (unsigned_abs (wrapped p.z q.z)) (2 ^ 31) (2 ^ 31) (wrapped_within p.z q.z) (wrapped_within p.z q.z) in
    omega arith

-- the greatest softening among some
fold_up : (f : BodyData → ℕ) (ms : List BodyData) (n : ℕ) → n ≤ fold max n (map f ms)
fold_up f [] n = omega arith
fold_up f (m ∷ ms) n = let h : max n (f m) ≤ fold max (max n (f m)) (map f ms) = fold_up f ms (max n (f m)) in omega arith

fold_low : (f : BodyData → ℕ) (low : ℕ) (ms : List BodyData) (n : ℕ) (b : BodyData) → Among b ms → low ≤ f b → low ≤ fold max n (map f ms)
fold_low f low [] n b h k = absurd h
fold_low f low (m ∷ ms) n b (inl e) k = let h : max n (f m) ≤ fold max (max n (f m)) (map f ms) = fold_up f ms (max n (f m)) in omega (arith, ap f e)
fold_low f low (m ∷ ms) n b (inr h) k = fold_low f low ms (max n (f m)) b h k

fold_high : (f : BodyData → ℕ) (high : ℕ) (ms : List BodyData) (n : ℕ) → n ≤ high → ((b : BodyData) → Among b ms → f b ≤ high) → fold max n (map f ms) ≤ high
fold_high f high [] n h k = h
fold_high f high (m ∷ ms) n h k = fold_high f high ms (max n (f m)) (omega (arith, k m (inl refl))) (λ b j. k b (inr j))

-- ---- masses

either_mass : (a b : Bool) (m : ℕ) → (a ≡ true → b ≡ true → ⊥) → cond a m 0 + cond b m 0 ≤ m
either_mass true true m h = absurd (h refl refl)
either_mass true false m h = omega arith
either_mass false true m h = omega arith
either_mass false false m h = omega arith

two_masses : (t u : BodyData → Bool) (B : List BodyData) → ((b : BodyData) → t b ≡ true → u b ≡ true → ⊥) → sum_by (λ b. cond (t b) b.mass 0) B + sum_by (λ b. cond (u b) b.mass 0) B ≤ mass_of B
two_masses t u [] h = omega arith
two_masses t u (b ∷ bs) h = omega (arith, sum_by-cons (λ b. cond (t b) b.mass 0) b bs, sum_by-cons (λ b. cond (u b) b.mass 0) b bs, sum_by-cons (λ b. b.mass) b bs, two_masses t u bs h, either_mass (t b) (u b) b.mass (h b))

pub disjoint_masses : (B : List BodyData) (a b : CellData) → AreDisjoint a b → mass_of (members B a) + mass_of (members B b) ≤ mass_of B
disjoint_masses B a b d =
    omega (
      arith,
      filter_sum (λ i. contains a i.motion.pos) (λ b. b.mass) B,
      filter_sum (λ i. contains b i.motion.pos) (λ b. b.mass) B,
      two_masses (λ i. contains a i.motion.pos) (λ i. contains b i.motion.pos) B (λ i. d.apart i.motion.pos),
    )

-- two numbers that add up to at most 2 n have a product of at most n squared
product_low : (a b n x : ℕ) → a + x ≡ n → b ≤ n + x → a * b ≤ n * n
product_low a b n x e h =
    let p : a * b ≤ a * (n + x) = mul-le a b a (n + x) (omega arith) h in
    let q : a * (n + x) ≡ a * (a + x + x) = ap (λ t. a * (t + x)) (sym e) in
    let r : n * n ≡ (a + x) * (a + x) = ap (λ t. t * t) (sym e) in
    omega arith

pub product_most : (a b n : ℕ) → a + b ≤ n + n → (a < n) ⊎ (n ≤ a) → a * b ≤ n * n
product_most a b n h (inl l) = product_low a b n (n - a) (omega arith) (omega arith)
product_most a b n h (inr l) = let p : b * a ≤ n * n = product_low b a n (n - b) (omega arith) (omega arith) in let q : a * b ≡ b * a = omega arith in omega arith

-- ---- the sides of a final pair

accepted_sides : (a b t q : ℕ) → t ≤ 256 → (a + b) * (a + b) * 65536 < t * t * q → a * a + b * b ≤ q
accepted_sides a b t q h k =
    let u : t * t ≤ 256 * 256 = mul-le t t 256 256 h h in
    let v : t * t * q ≤ 65536 * q = mul-le (t * t) q 65536 q (omega arith) (omega arith) in
    let w : (a + b) * (a + b) ≡ a * a + b * b + 2 * (a * b) = omega arith in
    omega (arith, v, w, k)

leaf_side : (s : SetupData) (B : List BodyData) (c : CellData) → is_leaf (positions_of B) c ≡ true → side (moments s B c) ≡ 0
unfolding moments
leaf_side s B c e = ap (λ t. cond t 0 (width_of c.level)) e

pub accept_sides : (s : SetupData) (A B : MomentsData) → s.theta ≤ 256 → accept s A B ≡ true → side A * side A + side B * side B ≤ square (way A.centre B.centre)
unfolding accept
accept_sides s A B h e = accepted_sides (side A) (side B) s.theta (square (way A.centre B.centre)) h (ltb-true ((side A + side B) * (side A + side B) * 65536) (s.theta * s.theta * square (way A.centre B.centre)) e)

final_sides : (s : SetupData) (B : List BodyData) (a b : CellData) → s.theta ≤ 256 → final (opening_of s B) a b ≡ true →
    side (moments s B a) * side (moments s B a) + side (moments s B b) * side (moments s B b) ≤ square (way (moments s B a).centre (moments s B b).centre)
final_sides s B a b h e = from (or_cases (is_leaf (positions_of B) a && is_leaf (positions_of B) b) (accept s (moments s B a) (moments s B b)) e)
  where
    from : ((is_leaf (positions_of B) a && is_leaf (positions_of B) b) ≡ true) ⊎ (accept s (moments s B a) (moments s B b) ≡ true) →
        side (moments s B a) * side (moments s B a) + side (moments s B b) * side (moments s B b) ≤ square (way (moments s B a).centre (moments s B b).centre)
    from (inl k) =
        let u : (is_leaf (positions_of B) a ≡ true) × (is_leaf (positions_of B) b ≡ true) = and_parts (is_leaf (positions_of B) a) (is_leaf (positions_of B) b) k in
        let x : side (moments s B a) * side (moments s B a) ≡ 0 * 0 = ap (λ n. n * n) (leaf_side s B a u.0) in
        let y : side (moments s B b) * side (moments s B b) ≡ 0 * 0 = ap (λ n. n * n) (leaf_side s B b u.1) in
        omega (arith, x, y)
    from (inr k) = accept_sides s (moments s B a) (moments s B b) h k

-- ---- the force of a final pair

pub joint_terms : (ma mb na nb a2 b2 q r2 : ℕ) → na ≤ ma * a2 → nb ≤ mb * b2 → a2 + b2 ≤ q → ma * mb ≤ 2 ^ 62 → q ≤ r2 → ma * nb + mb * na ≤ 2 ^ 62 * r2
joint_terms ma mb na nb a2 b2 q r2 h k l m n =
    let u : ma * nb ≤ ma * (mb * b2) = mul-le ma nb ma (mb * b2) (omega arith) k in
    let v : mb * na ≤ mb * (ma * a2) = mul-le mb na mb (ma * a2) (omega arith) h in
    let w : ma * mb * (a2 + b2) ≤ 2 ^ 62 * r2 = mul-le (ma * mb) (a2 + b2) (2 ^ 62) r2 m (omega arith) in
    let x : ma * mb * (a2 + b2) ≡ ma * (mb * b2) + mb * (ma * a2) = omega arith in
    omega (arith, u, v, w, x)

pub joint_axis : (ma mb : ℕ) (qa qb : ℤ) (t : ℕ) → ma * unsigned_abs qb + mb * unsigned_abs qa ≤ t → unsigned_abs (ma · qb +ℤ mb · qa) ≤ t
joint_axis ma mb qa qb t h = sum_within (ma · qb) (mb · qa) (ma * unsigned_abs qb) (mb * unsigned_abs qa) t (omega (arith, times_size ma qb)) (omega (arith, times_size mb qa)) h
  where
    sum_within : (y z : ℤ) (f g t : ℕ) → unsigned_abs y ≤ f → unsigned_abs z ≤ g → f + g ≤ t → unsigned_abs (y +ℤ z) ≤ t
    sum_within y z f g t h k l = omega (arith, ints)

-- what bounds a pair
pub record IsModerate (g : Gravity) (A B : MomentsData) : Type 0 where
  pub gravity : g.setup.gravity ≤ 2 ^ 32
  pub light : A.mass * B.mass ≤ 2 ^ 62
  pub soft_low : 256 ≤ max A.eps B.eps
  pub soft_high : max A.eps B.eps ≤ 2 ^ 30
  pub quad_first : IsWithinEach (A.mass * (side A * side A)) A.quad
  pub quad_second : IsWithinEach (B.mass * (side B * side B)) B.quad
  pub sides : side A * side A + side B * side B ≤ square (way A.centre B.centre)
  pub little : (strength : ℕ) → strength ≤ 2 ^ 94 → IsAtMost (2 ^ 31) (images strength g.table (way A.centre B.centre))

pub three_within : (x y z : ℤ) → unsigned_abs x ≤ 2 ^ 78 → unsigned_abs y ≤ 2 ^ 85 → unsigned_abs z ≤ 2 ^ 31 → unsigned_abs (x +ℤ y +ℤ z) ≤ 2 ^ 86
three_within x y z h k l = omega (arith, ints)

pub pair_within : (g : Gravity) (A B : MomentsData) → IsModerate g A B → IsAtMost (2 ^ 86) (pair g A B)
unfolding pair
pair_within g A B m =
    let d : V3 = way A.centre B.centre in
    let eps : ℕ = max A.eps B.eps in
    let r2 : ℕ = square d + eps * eps in
    let r : ℕ = root r2 in
    let strength : ℕ = g.setup.gravity * A.mass * B.mass in
    let far : square d ≤ 3 * 2 ^ 62 = square_within A.centre B.centre in
    let low : 256 * 256 ≤ eps * eps = mul-le 256 256 eps eps m.soft_low m.soft_low in
    let high : eps * eps ≤ 2 ^ 30 * 2 ^ 30 = mul-le eps eps (2 ^ 30) (2 ^ 30) m.soft_high m.soft_high in
    let is : IsRoot r2 r = IsRoot-root r2 (omega arith) in
    let some : 0 < r = positive r (omega (arith, is.above, low)) in
    let axes : (unsigned_abs d.x ≤ r) × (unsigned_abs d.y ≤ r) × (unsigned_abs d.z ≤ r) = axis_within (unsigned_abs d.x) (unsigned_abs d.y) (unsigned_abs d.z) (eps * eps) r is in
    let at : IsAtMost r d = record { on_x = axes.0; on_y = axes.1; on_z = axes.2 } in
    let strong : strength ≤ 2 ^ 94 = (let u : g.setup.gravity * (A.mass * B.mass) ≤ 2 ^ 32 * 2 ^ 62 = mul-le g.setup.gravity (A.mass * B.mass) (2 ^ 32) (2 ^ 62) m.gravity m.light in let v : g.setup.gravity * A.mass * B.mass ≡ g.setup.gravity * (A.mass * B.mass) = omega arith in omega arith) in
    let wide : 2 ^ 16 ≤ r2 = omega arith in
    let joint : (qa qb : ℤ) → unsigned_abs qa ≤ A.mass * (side A * side A) → unsigned_abs qb ≤ B.mass * (side B * side B) → unsigned_abs (A.mass · qb +ℤ B.mass · qa) ≤ 2 ^ 62 * r2 = λ qa qb h k.
    joint_axis A.mass B.mass qa qb (2 ^ 62 * r2) (joint_terms A.mass B.mass (unsigned_abs qa) (unsigned_abs qb) (side A * side A) (side B * side B) (square d) r2 h k m.sides m.light (omega arith)) in
    let one : IsAtMost (2 ^ 78) (mono strength r2 r d) = mono_within strength r2 r d strong wide some at in
    let two : IsAtMost (2 ^ 85) (quadrupole g.setup.gravity A B r2 r d) = quadrupole_within g.setup.gravity A B r2 r d m.gravity wide some at (record {
      on_xx = joint A.quad.xx B.quad.xx m.quad_first.on_xx m.quad_second.on_xx;
      on_yy = joint A.quad.yy B.quad.yy m.quad_first.on_yy m.quad_second.on_yy;
      on_zz = joint A.quad.zz B.quad.zz m.quad_first.on_zz m.quad_second.on_zz;
      on_xy = joint A.quad.xy B.quad.xy m.quad_first.on_xy m.quad_second.on_xy;
      on_xz = joint A.quad.xz B.quad.xz m.quad_first.on_xz m.quad_second.on_xz;
      on_yz = joint A.quad.yz B.quad.yz m.quad_first.on_yz m.quad_second.on_yz;
    }) in
    let three : IsAtMost (2 ^ 31) (images strength g.table d) = m.little strength strong in
    record {
      on_x = three_within (mono strength r2 r d).x (quadrupole g.setup.gravity A B r2 r d).x (images strength g.table d).x one.on_x two.on_x three.on_x;
      on_y = three_within (mono strength r2 r d).y (quadrupole g.setup.gravity A B r2 r d).y (images strength g.table d).y one.on_y two.on_y three.on_y;
      on_z = three_within (mono strength r2 r d).z (quadrupole g.setup.gravity A B r2 r d).z (images strength g.table d).z one.on_z two.on_z three.on_z;
    }
  where
    positive : (r : ℕ) → 1 < (r + 1) * (r + 1) → 0 < r
    positive zero h = absurd (omega arith)
    positive (suc r) h = omega arith

-- ---- the interactions of bodies

soft_at : (s : SetupData) → IsSetup s → (b : BodyData) → b.kind ≤ 5 → (256 ≤ soft_of s b) × (soft_of s b ≤ 2 ^ 30)
soft_at s h b k = ((h.softenings.each b.kind (omega arith)).low, (h.softenings.each b.kind (omega arith)).high)

node_body : (B : List BodyData) (c : CellData) → is_node (positions_of B) c ≡ true → Witness (λ b. contains c b.motion.pos) B
unfolding is_node
node_body B c h =
    let w : Witness (contains c) (positions_of B) = any-witness (contains c) (positions_of B) h in
    let b : BodyAt w.it B = body_at w.it B w.«in» in
    record { it = b.it; «in» = b.«in»; passes = ap (contains c) b.at ∙ w.passes }

eps_at : (s : SetupData) → IsSetup s → (B : List BodyData) → AllByRecursion (λ b. b.kind ≤ 5) B → (c : CellData) → is_node (positions_of B) c ≡ true → (256 ≤ (moments s B c).eps) × ((moments s B c).eps ≤ 2 ^ 30)
unfolding moments
eps_at s h B kinds c n =
    let w : Witness (λ b. contains c b.motion.pos) B = node_body B c n in
    let there : Among w.it (members B c) = among-filter (λ b. contains c b.motion.pos) w.it B w.«in» w.passes in
    let kind : w.it.kind ≤ 5 = each-among (λ b. b.kind ≤ 5) w.it B kinds w.«in» in (
      fold_low (soft_of s) 256 (members B c) 0 w.it there (soft_at s h w.it kind).0,
      fold_high (soft_of s) (2 ^ 30) (members B c) 0 (omega arith) (λ b k. (soft_at s h b (each-among (λ b. b.kind ≤ 5) b B kinds (among-kept (λ b. contains c b.motion.pos) b B k).0)).1),
    )

zero_most : (n : ℕ) → IsAtMost n origin
zero_most n = record { on_x = omega (arith, ints); on_y = omega (arith, ints); on_z = omega (arith, ints) }

pub image_axis : (strength : ℕ) (z : ℤ) → strength ≤ 2 ^ 94 → unsigned_abs z ≤ 2 ^ 31 → unsigned_abs (strength · z ÷ 2 ^ 94) ≤ 2 ^ 31
image_axis strength z h k = let u : strength * unsigned_abs z ≤ 2 ^ 94 * 2 ^ 31 = mul-le strength (unsigned_abs z) (2 ^ 94) (2 ^ 31) h k in quot_within (strength · z) (2 ^ 94) (2 ^ 31) (omega arith) (omega (arith, times_size strength z))

pub images_little : (table : Option TableData) → CorrectsLittle table → (d : V3) → IsAtMost (2 ^ 31) d → (strength : ℕ) → strength ≤ 2 ^ 94 → IsAtMost (2 ^ 31) (images strength table d)
images_little None c d near strength h = zero_most (2 ^ 31)
images_little (Some t) c d near strength h =
    let m : IsAtMost (2 ^ 31) (correction t d) = c d near in
    record { on_x = image_axis strength (correction t d).x h m.on_x; on_y = image_axis strength (correction t d).y h m.on_y; on_z = image_axis strength (correction t d).z h m.on_z }

pub mass_is : (s : SetupData) (B : List BodyData) (c : CellData) → (moments s B c).mass ≡ mass_of (members B c)
unfolding moments
mass_is s B c = refl

moderate : (g : Gravity) (B : List BodyData) → IsSetup g.setup → AreBodies B → AllByRecursion (λ b. b.kind ≤ 5) B → CorrectsLittle g.table → (x : CellData × CellData) → IsPairOfNodes (opening_of g.setup B) x → final (opening_of g.setup B) x.0 x.1 ≡ true → IsModerate g (moments g.setup B x.0) (moments g.setup B x.1)
moderate g B h a kinds c x n e =
    let u : (256 ≤ (moments g.setup B x.0).eps) × ((moments g.setup B x.0).eps ≤ 2 ^ 30) = eps_at g.setup h B kinds x.0 n.first in
    let v : (256 ≤ (moments g.setup B x.1).eps) × ((moments g.setup B x.1).eps ≤ 2 ^ 30) = eps_at g.setup h B kinds x.1 n.second in
    let ma : ℕ = (moments g.setup B x.0).mass in
    let mb : ℕ = (moments g.setup B x.1).mass in
    let both : ma + mb ≤ 2 ^ 31 + 2 ^ 31 = omega (arith, disjoint_masses B x.0 x.1 n.apart, a.valid.light, mass_is g.setup B x.0, mass_is g.setup B x.1) in
    let most : ma * mb ≤ 2 ^ 31 * 2 ^ 31 = product_most ma mb (2 ^ 31) both (cases_lt ma (2 ^ 31)) in
    record {
      gravity = h.gravity_high;
      light = omega arith;
      soft_low = omega (arith, u.0);
      soft_high = omega (arith, u.1, v.1);
      quad_first = second_bounded g.setup B a x.0 n.first;
      quad_second = second_bounded g.setup B a x.1 n.second;
      sides = final_sides g.setup B x.0 x.1 h.theta_high e;
      little = images_little g.table c (way (moments g.setup B x.0).centre (moments g.setup B x.1).centre) (way_within (moments g.setup B x.0).centre (moments g.setup B x.1).centre);
    }

all_from : (P : CellData × CellData → Type 0) (xs : List (CellData × CellData)) → ((x : CellData × CellData) → Among x xs → P x) → AllByRecursion P xs
all_from P [] h = tt
all_from P (x ∷ xs) h = (h x (inl refl), all_from P xs (λ y k. h y (inr k)))

-- each interaction's force is below 2^87
pub pairs_bounded : (g : Gravity) (B : List BodyData) → IsSetup g.setup → AreBodies B → AllByRecursion (λ b. b.kind ≤ 5) B → CorrectsLittle g.table → AllByRecursion (λ x. IsAtMost (2 ^ 86) (pair_force g B x)) (interactions (opening_of g.setup B))
unfolding pair_force
pairs_bounded g B h a kinds c =
    let o : Opening = opening_of g.setup B in
    let s : IsSound o = opening_sound g.setup B a.in_box in
    all_from (λ x. IsAtMost (2 ^ 86) (pair_force g B x)) (interactions o) (λ x k.
    pair_within g (moments g.setup B x.0) (moments g.setup B x.1) (moderate g B h a kinds c x (each-among (IsPairOfNodes o) x (interactions o) (pairs_of_nodes o s).interactions_each k) (interaction_final o s x k)))

pub interactions_final : (o : Opening) → IsSound o → AllByRecursion (λ x. final o x.0 x.1 ≡ true) (interactions o)
interactions_final o s = all_from (λ x. final o x.0 x.1 ≡ true) (interactions o) (interaction_final o s)
