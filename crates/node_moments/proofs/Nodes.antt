-- The moments of a node, by the sums over its members.
use Rattle.std.proofs.Common.{◌≡◌, ℕ, ◌+◌, ◌-◌, ◌/◌, ◌<◌, ◌≤◌, ◌^◌, true, List, [], ◌∷◌, slice_index, refl, ap, sym, ◌∙◌, subst, arith, inl, pos, ◌-ℤ◌}
use Rattle.std.specs.List.{AllByRecursion, filter}
use Rattle.cell_space.specs.Cells.{Position, CellData, InBox, contains, corner, width_of}
use Rattle.nbody_model.specs.Bodies.{BodyData}
use Rattle.nbody_model.specs.Setups.{SetupData, AreSoftenings, IsSoftening}
use Rattle.nbody_model.specs.Nodes.{members, positions_of, at_one_place, is_node, is_leaf}
use Rattle.nbody_model.specs.Moments.{MomentsData, mass_of, centre_of, quad_of, moment_of, moments}
use Rattle.model_laws.specs.Laws.{AreBodies}
use Rattle.model_laws.proofs.Among.{Among, among-kept, each-among}
use Rattle.model_laws.proofs.Centres.{member_in, member_positions, node_mass, centre_inside, mean_between}
use Rattle.model_laws.proofs.PairLimits.{mass_is}
use Rattle.model_laws.proofs.Pairs.{all_among}
use Rattle.model_laws.proofs.Second.{second_bounded}
use Rattle.node_moments.specs.Sums.{RawData, raw_of, first, second, greatest, from_x, from_y, from_z, at_x, at_y, at_z}
use Rattle.node_moments.specs.Computed.{moments_by, about}
use Rattle.node_moments.specs.Conditions.{IsSumOf, IsOfNode, IsMoments}
use Rattle.node_moments.proofs.One.{above_corner}
use Rattle.node_moments.proofs.Centred.{mean_from, moment_from}
use Rattle.node_moments.proofs.Extremes.{is_one, leaf_by, max_high, some_of}

leaf_some : (ms : List BodyData) → 0 < mass_of ms → ((b : BodyData) → Among b ms → InBox b.motion.pos) → is_one ms ≡ at_one_place (positions_of ms)
leaf_some [] some h = absurd (omega (arith, some))
leaf_some (m ∷ ms) some h =
    let i : InBox m.motion.pos = h m (inl refl) in
    leaf_by m ms (omega (arith, i.below_x)) (omega (arith, i.below_y)) (omega (arith, i.below_z))

pub member_of : (B : List BodyData) (c : CellData) (b : BodyData) → Among b (members B c) → Among b B
member_of B c b h = (among-kept (λ b. contains c b.motion.pos) b B h).0

sums_of_node : (s : SetupData) (B : List BodyData) (c : CellData) → AreBodies B → is_node (positions_of B) c ≡ true → moments_by (raw_of s.soft c (members B c)) ≡ moments s B c
unfolding raw_of moments is_leaf
sums_of_node s B c a n =
    let ms : List BodyData = members B c in
    let some : 0 < mass_of ms = node_mass B a.heavy c n in
    let box : (b : BodyData) → Among b ms → InBox b.motion.pos = λ b h. each-among (λ b. InBox b.motion.pos) b B a.in_box (member_of B c b h) in
    let w : ℕ = width_of c.level in
    let up_x : AllByRecursion (λ b. (corner c).x ≤ at_x b) ms = all_among (λ b. (corner c).x ≤ at_x b) ms (λ b h. above_corner b.motion.pos.x c.x w (ap (λ t. t.x) (member_in B c b h))) in
    let up_y : AllByRecursion (λ b. (corner c).y ≤ at_y b) ms = all_among (λ b. (corner c).y ≤ at_y b) ms (λ b h. above_corner b.motion.pos.y c.y w (ap (λ t. t.y) (member_in B c b h))) in
    let up_z : AllByRecursion (λ b. (corner c).z ≤ at_z b) ms = all_among (λ b. (corner c).z ≤ at_z b) ms (λ b h. above_corner b.motion.pos.z c.z w (ap (λ t. t.z) (member_in B c b h))) in
    let dx : ℕ = first (from_x c) ms / mass_of ms in
    let dy : ℕ = first (from_y c) ms / mass_of ms in
    let dz : ℕ = first (from_z c) ms / mass_of ms in
    let cx : (corner c).x + dx ≡ (centre_of ms).x = mean_from at_x (corner c).x ms some up_x in
    let cy : (corner c).y + dy ≡ (centre_of ms).y = mean_from at_y (corner c).y ms some up_y in
    let cz : (corner c).z + dz ≡ (centre_of ms).z = mean_from at_z (corner c).z ms some up_z in
    let mid : Position = record { x = (corner c).x + dx; y = (corner c).y + dy; z = (corner c).z + dz } in
    let centre : mid ≡ centre_of ms = λ i. record { x = cx i; y = cy i; z = cz i } in
    let leaf : is_one ms ≡ at_one_place (filter (contains c) (positions_of B)) = leaf_some ms some box ∙ ap at_one_place (member_positions B c) in
    let m : (p q : BodyData → ℕ) (u v d e : ℕ) → AllByRecursion (λ b. u ≤ p b) ms → AllByRecursion (λ b. v ≤ q b) ms
    → about (second (λ b. p b - u) (λ b. q b - v) ms) (mass_of ms) d e (first (λ b. p b - u) ms) (first (λ b. q b - v) ms) ≡ moment_of (λ b. pos (p b) -ℤ pos (u + d)) (λ b. pos (q b) -ℤ pos (v + e)) ms = λ p q u v d e h k. moment_from p q u v d e ms h k in
    let quad : (moments_by (raw_of s.soft c ms)).quad ≡ quad_of mid ms = λ i. record {
      xx = m at_x at_x (corner c).x (corner c).x dx dx up_x up_x i;
      yy = m at_y at_y (corner c).y (corner c).y dy dy up_y up_y i;
      zz = m at_z at_z (corner c).z (corner c).z dz dz up_z up_z i;
      xy = m at_x at_y (corner c).x (corner c).y dx dy up_x up_y i;
      xz = m at_x at_z (corner c).x (corner c).z dx dz up_x up_z i;
      yz = m at_y at_z (corner c).y (corner c).z dy dz up_y up_z i;
    } in
    let turned : (moments_by (raw_of s.soft c ms)).quad ≡ quad_of (centre_of ms) ms = quad ∙ ap (λ p. quad_of p ms) centre in
    λ i. record {
      cell = c;
      leaf = leaf i;
      mass = mass_of ms;
      centre = centre i;
      quad = turned i;
      eps = greatest (λ b. slice_index s.soft b.kind) ms;
    }

cell_of_raw : (soft : List ℕ) (c : CellData) (ms : List BodyData) → (raw_of soft c ms).mass ≡ mass_of ms
unfolding raw_of
cell_of_raw soft c ms = refl

pub moments_are : (s : SetupData) (B : List BodyData) (r : RawData) → IsSumOf s B r → moments_by r ≡ moments s B r.cell
moments_are s B r h = ap moments_by h.is ∙ sums_of_node s B r.cell h.bodies h.node

pub some_mass : (r : RawData) → IsOfNode r → 0 < r.mass
some_mass r h =
    let e : r.mass ≡ mass_of (members h.all r.cell) = ap (λ t. t.mass) h.sums.is ∙ cell_of_raw h.setup.soft r.cell (members h.all r.cell) in
    let u : 0 < mass_of (members h.all r.cell) = node_mass h.all h.sums.bodies.heavy r.cell h.sums.node in
    omega (arith, e, u)

centre_in_box : (s : SetupData) (B : List BodyData) (c : CellData) → AreBodies B → is_node (positions_of B) c ≡ true → InBox (moments s B c).centre
unfolding moments
centre_in_box s B c a n =
    let ms : List BodyData = members B c in
    let some : 0 < mass_of ms = node_mass B a.heavy c n in
    let box : (b : BodyData) → Among b ms → InBox b.motion.pos = λ b h. each-among (λ b. InBox b.motion.pos) b B a.in_box (member_of B c b h) in
    let x = (mean_between at_x 0 4294967295 ms some (all_among (λ b. 0 ≤ at_x b) ms (λ b h. omega arith)) (all_among (λ b. at_x b ≤ 4294967295) ms (λ b h. omega (arith, (box b h).below_x)))).1 in
    let y = (mean_between at_y 0 4294967295 ms some (all_among (λ b. 0 ≤ at_y b) ms (λ b h. omega arith)) (all_among (λ b. at_y b ≤ 4294967295) ms (λ b h. omega (arith, (box b h).below_y)))).1 in
    let z = (mean_between at_z 0 4294967295 ms some (all_among (λ b. 0 ≤ at_z b) ms (λ b h. omega arith)) (all_among (λ b. at_z b ≤ 4294967295) ms (λ b h. omega (arith, (box b h).below_z)))).1 in
    record { below_x = omega (arith, x); below_y = omega (arith, y); below_z = omega (arith, z) }

pub centre_small : (r : RawData) → IsOfNode r → InBox (moments_by r).centre
centre_small r h = subst (λ m. InBox m.centre) (sym (moments_are h.setup h.all r h.sums)) (centre_in_box h.setup h.all r.cell h.sums.bodies h.sums.node)

soft_range : (soft : List ℕ) (ms : List BodyData) → AreSoftenings soft → 0 < mass_of ms → ((b : BodyData) → Among b ms → b.kind ≤ 5) → IsSoftening (greatest (λ b. slice_index soft b.kind) ms)
soft_range soft [] a some k = absurd (omega (arith, some))
soft_range soft (m ∷ ms) a some k = record {
  low = omega (arith, (a.each m.kind (omega (arith, k m (inl refl)))).low, some_of (λ b. slice_index soft b.kind) m ms);
  high = max_high (λ b. slice_index soft b.kind) 0 (2 ^ 30) (m ∷ ms) (omega arith) (λ b j. (a.each b.kind (omega (arith, k b j))).high);
}

soft_of_node : (s : SetupData) (B : List BodyData) (c : CellData) → AreBodies B → is_node (positions_of B) c ≡ true → AreSoftenings s.soft → AllByRecursion (λ b. b.kind ≤ 5) B → IsSoftening (moments s B c).eps
unfolding moments
soft_of_node s B c a n soft k = soft_range s.soft (members B c) soft (node_mass B a.heavy c n) (λ b h. each-among (λ b. b.kind ≤ 5) b B k (member_of B c b h))

cell_is : (s : SetupData) (B : List BodyData) (c : CellData) → (moments s B c).cell ≡ c
unfolding moments
cell_is s B c = refl

keep : (s : SetupData) (B : List BodyData) (r : RawData) → IsSumOf s B r → r.mass ≤ 2 ^ 32 → IsMoments (moments s B r.cell)
keep s B r h light =
    let e : r.mass ≡ mass_of (members B r.cell) = ap (λ t. t.mass) h.is ∙ cell_of_raw s.soft r.cell (members B r.cell) in
    record {
      heavy = omega (arith, mass_is s B r.cell, node_mass B h.bodies.heavy r.cell h.node);
      light = omega (arith, mass_is s B r.cell, e, light);
      softening = soft_of_node s B r.cell h.bodies h.node h.softenings h.kinds;
      inside = ap (λ c. contains c (moments s B r.cell).centre) (cell_is s B r.cell) ∙ centre_inside s B h.bodies r.cell h.node;
      small = second_bounded s B h.bodies r.cell h.node;
    }

pub keeps : (r : RawData) → IsOfNode r → r.mass ≤ 2 ^ 32 → IsMoments (moments_by r)
keeps r h light = subst IsMoments (sym (moments_are h.setup h.all r h.sums)) (keep h.setup h.all r h.sums light)

-- moments, part by part
pub by_parts : (m n : MomentsData) → m.cell ≡ n.cell → m.leaf ≡ n.leaf → m.mass ≡ n.mass → m.centre ≡ n.centre → m.quad ≡ n.quad → m.eps ≡ n.eps → m ≡ n
by_parts m n a b c d e f = λ i. record { cell = a i; leaf = b i; mass = c i; centre = d i; quad = e i; eps = f i }

pub equal_keeps : (m n : MomentsData) → m ≡ n → IsMoments n → IsMoments m
equal_keeps m n e h = subst IsMoments (sym e) h
