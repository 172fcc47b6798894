-- Forces don't look at momenta.
use Rattle.std.proofs.Common.{◌≡◌, ℕ, ◌+◌, ◌*◌, ◌-◌, ◌/◌, max, Bool, true, false, cond, ℤ, pos, ◌+ℤ◌, ◌-ℤ◌, ◌*ℤ◌, nat_lt, unsigned_abs, List, [], ◌∷◌, map, fold, filter, sum_by, count_by, refl, ap, sym, ◌∙◌}
use Rattle.std.proofs.lemmas.List.Folds.{fold-map}
use Rattle.std.specs.Int.{int_div_euclid, int_rem_euclid}
use Rattle.fixed_point.specs.declared.V3.{V3}
use Rattle.fixed_point.specs.Vectors.{int_sum_by, sum_of}
use Rattle.cell_space.specs.Cells.{Position, CellData, contains}
use Rattle.nbody_model.specs.Bodies.{BodyData, has, only}
use Rattle.nbody_model.specs.Setups.{SetupData}
use Rattle.nbody_model.specs.Tables.{Gravity}
use Rattle.nbody_model.specs.Nodes.{positions_of, members, at_one_place, is_leaf}
use Rattle.nbody_model.specs.Moments.{MomentsData, mass_of, centre_of, moment_of, quad_of, soft_of, greatest_soft, moments}
use Rattle.nbody_model.specs.OpeningRule.{accept}
use Rattle.nbody_model.specs.PairForce.{pair}
use Rattle.nbody_model.specs.Covers.{opening_of, interactions}
use Rattle.nbody_model.specs.Force.{pair_force, force_on, node_total, is_served_before, left_of, small_share, share, share_of, cells_around, force_at, forces}
use Rattle.nbody_model.specs.Steps.{kicked_by}
use Rattle.model_laws.specs.Still.{still, MomentaDontMatter, KicksMoveNothing, PartsInPlace}

filtered_step : {X Y : Type 0} (h : X → Y) (x : X) (ys : List Y) (zs : List X) (b : Bool) → ys ≡ map h zs → cond b (h x ∷ ys) ys ≡ map h (cond b (x ∷ zs) zs)
filtered_step h x ys zs true e = λ i. h x ∷ e i
filtered_step h x ys zs false e = e

filter-mapped : {X Y : Type 0} (t : Y → Bool) (h : X → Y) (xs : List X) → filter t (map h xs) ≡ map h (filter (λ x. t (h x)) xs)
filter-mapped t h [] = refl
filter-mapped t h (x ∷ xs) = filtered_step h x (filter t (map h xs)) (filter (λ y. t (h y)) xs) (t (h x)) (filter-mapped t h xs)

pub map-mapped : {X Y Z : Type 0} (f : Y → Z) (h : X → Y) (xs : List X) → map f (map h xs) ≡ map (λ x. f (h x)) xs
map-mapped f h [] = refl
map-mapped f h (x ∷ xs) = λ i. f (h x) ∷ map-mapped f h xs i

pub map-same : {X Y : Type 0} (f g : X → Y) → ((x : X) → f x ≡ g x) → (xs : List X) → map f xs ≡ map g xs
map-same f g e [] = refl
map-same f g e (x ∷ xs) = λ i. e x i ∷ map-same f g e xs i

-- ---- moments

members_still : (B : List BodyData) (c : CellData) → members (map still B) c ≡ map still (members B c)
members_still B c = filter-mapped (λ b. contains c b.motion.pos) still B

pub positions_still : (B : List BodyData) → positions_of (map still B) ≡ positions_of B
positions_still B = map-mapped (λ b. b.motion.pos) still B

mass_still : (ms : List BodyData) → mass_of (map still ms) ≡ mass_of ms
mass_still ms = fold-map (λ a b. a + b.mass) still 0 ms

centre_still : (ms : List BodyData) → centre_of (map still ms) ≡ centre_of ms
centre_still ms = λ i. record {
  x = fold-map (λ a b. a + b.mass * b.motion.pos.x) still 0 ms i / mass_still ms i;
  y = fold-map (λ a b. a + b.mass * b.motion.pos.y) still 0 ms i / mass_still ms i;
  z = fold-map (λ a b. a + b.mass * b.motion.pos.z) still 0 ms i / mass_still ms i;
}

moment_still : (d e : BodyData → ℤ) → ((b : BodyData) → d (still b) ≡ d b) → ((b : BodyData) → e (still b) ≡ e b) → (ms : List BodyData) → moment_of d e (map still ms) ≡ moment_of d e ms
moment_still d e f g ms = fold-map (λ a b. a +ℤ (pos b.mass *ℤ (d b *ℤ e b))) still (pos 0) ms ∙ (λ i. int_sum_by (λ b. pos b.mass *ℤ (f b i *ℤ g b i)) ms)

quad_still : (c : Position) (ms : List BodyData) → quad_of c (map still ms) ≡ quad_of c ms
quad_still c ms =
    let dx : BodyData → ℤ = λ b. pos b.motion.pos.x -ℤ pos c.x in
    let dy : BodyData → ℤ = λ b. pos b.motion.pos.y -ℤ pos c.y in
    let dz : BodyData → ℤ = λ b. pos b.motion.pos.z -ℤ pos c.z in
    λ i. record {
      xx = moment_still dx dx (λ b. refl) (λ b. refl) ms i;
      yy = moment_still dy dy (λ b. refl) (λ b. refl) ms i;
      zz = moment_still dz dz (λ b. refl) (λ b. refl) ms i;
      xy = moment_still dx dy (λ b. refl) (λ b. refl) ms i;
      xz = moment_still dx dz (λ b. refl) (λ b. refl) ms i;
      yz = moment_still dy dz (λ b. refl) (λ b. refl) ms i;
    }

soft_still : (s : SetupData) (ms : List BodyData) → greatest_soft s (map still ms) ≡ greatest_soft s ms
soft_still s ms = ap (fold max 0) (map-mapped (soft_of s) still ms)

-- what a list of members has
abbrev told_of : SetupData → CellData → Bool → List BodyData → MomentsData
told_of s c leaf ms = record { cell = c; leaf = leaf; mass = mass_of ms; centre = centre_of ms; quad = quad_of (centre_of ms) ms; eps = greatest_soft s ms }

told_still : (s : SetupData) (c : CellData) (leaf : Bool) (ms : List BodyData) → told_of s c leaf (map still ms) ≡ told_of s c leaf ms
told_still s c leaf ms =
    (λ i. record { cell = c; leaf = leaf; mass = mass_of (map still ms); centre = centre_of (map still ms); quad = quad_still (centre_of (map still ms)) ms i; eps = greatest_soft s (map still ms) }) ∙
    (λ i. record { cell = c; leaf = leaf; mass = mass_still ms i; centre = centre_still ms i; quad = quad_of (centre_still ms i) ms; eps = soft_still s ms i })

moments_still : (s : SetupData) (B : List BodyData) (c : CellData) → moments s (map still B) c ≡ moments s B c
unfolding moments is_leaf
moments_still s B c =
    (λ i. told_of s c (at_one_place (filter (contains c) (positions_still B i))) (members_still B c i)) ∙
    told_still s c (is_leaf (positions_of B) c) (members B c)

-- ---- openings and totals

opening_still : (s : SetupData) (B : List BodyData) → opening_of s (map still B) ≡ opening_of s B
opening_still s B = λ i. record { positions = positions_still B i; accept = λ a b. accept s (moments_still s B a i) (moments_still s B b i) }

acting_still : (s : SetupData) (B : List BodyData) → interactions (opening_of s (map still B)) ≡ interactions (opening_of s B)
acting_still s B = ap interactions (opening_still s B)

pair_still : (g : Gravity) (B : List BodyData) (x : CellData × CellData) → pair_force g (map still B) x ≡ pair_force g B x
unfolding pair_force
pair_still g B x = λ i. pair g (moments_still g.setup B x.0 i) (moments_still g.setup B x.1 i)

total_still : (g : Gravity) (B : List BodyData) (c : CellData) → node_total g (map still B) c ≡ node_total g B c
unfolding node_total
total_still g B c = λ i. sum_of (force_on (λ x. pair_still g B x i) c) (acting_still g.setup B i)

-- ---- shares and forces

left_still : (s : ℕ) (ms : List BodyData) → left_of s (map still ms) ≡ left_of s ms
left_still s ms =
    (λ i. s - fold-map (λ a b. a + s * b.mass / mass_of (map still ms)) still 0 ms i) ∙
    (λ i. s - sum_by (λ b. s * b.mass / mass_still ms i) ms)

served_still : (s M : ℕ) (b : BodyData) (ms : List BodyData) → count_by (is_served_before s M (still b)) (map still ms) ≡ count_by (is_served_before s M b) ms
served_still s M b ms = fold-map (λ n a. n + cond (is_served_before s M b a) 1 0) still 0 ms

small_share_still : (s : ℕ) (ms : List BodyData) (b : BodyData) → small_share s (map still ms) (still b) ≡ small_share s ms b
unfolding small_share
small_share_still s ms b =
    (λ i. s * b.mass / mass_of (map still ms) + cond (nat_lt (served_still s (mass_of (map still ms)) b ms i) (left_still s ms i)) 1 0) ∙
    (λ i. s * b.mass / mass_still ms i + cond (nat_lt (count_by (is_served_before s (mass_still ms i) b) ms) (left_of s ms)) 1 0)

share_still : (ms : List BodyData) (N : ℤ) (b : BodyData) → share (map still ms) N (still b) ≡ share ms N b
unfolding share
share_still ms N b =
    (λ i. int_div_euclid N (pos (mass_of (map still ms))) *ℤ pos b.mass +ℤ pos (small_share_still (unsigned_abs (int_rem_euclid N (pos (mass_of (map still ms))))) ms b i)) ∙
    (λ i. int_div_euclid N (pos (mass_still ms i)) *ℤ pos b.mass +ℤ pos (small_share (unsigned_abs (int_rem_euclid N (pos (mass_still ms i)))) ms b))

shares_still : (ms : List BodyData) (N : V3) (b : BodyData) → share_of (map still ms) N (still b) ≡ share_of ms N b
shares_still ms N b = λ i. record { x = share_still ms N.x b i; y = share_still ms N.y b i; z = share_still ms N.z b i }

cell_still : (g : Gravity) (B : List BodyData) (b : BodyData) (c : CellData) → share_of (members (map still B) c) (node_total g (map still B) c) (still b) ≡ share_of (members B c) (node_total g B c) b
cell_still g B b c =
    (λ i. share_of (members_still B c i) (total_still g B c i) (still b)) ∙
    shares_still (members B c) (node_total g B c) b

force_still : (g : Gravity) (B : List BodyData) (b : BodyData) → force_at g (map still B) (still b) ≡ force_at g B b
unfolding force_at
force_still g B b = λ i. sum_of (λ c. cell_still g B b c i) (cells_around b.motion.pos)

forces_still : (g : Gravity) (B : List BodyData) → forces g (map still B) ≡ forces g B
unfolding forces
forces_still g B = map-mapped (force_at g (map still B)) still B ∙ map-same (λ b. force_at g (map still B) (still b)) (force_at g B) (force_still g B) B

-- ---- the laws

pub momenta_dont_matter : MomentaDontMatter
momenta_dont_matter g B C e = record {
  all = sym (forces_still g B) ∙ ap (forces g) e ∙ forces_still g C;
  each = λ b c d. sym (force_still g B b) ∙ (λ i. force_at g (e i) (d i)) ∙ force_still g C c;
  acting = sym (acting_still g.setup B) ∙ (λ i. interactions (opening_of g.setup (e i))) ∙ acting_still g.setup C;
}

kicked_step : (h : ℕ) (v : BodyData → V3) (b : BodyData) (t : Bool) → still (cond t (record b { motion = record { pos = b.motion.pos; mom = kicked_by h b.motion.mom (v b) } }) b) ≡ still b
kicked_step h v b true = refl
kicked_step h v b false = refl

pub kicks_move_nothing : KicksMoveNothing
kicks_move_nothing h P v B =
    map-mapped still (λ b. cond (has P b.id) (record b { motion = record { pos = b.motion.pos; mom = kicked_by h b.motion.mom (v b) } }) b) B ∙
    map-same (λ b. still (cond (has P b.id) (record b { motion = record { pos = b.motion.pos; mom = kicked_by h b.motion.mom (v b) } }) b)) still (λ b. kicked_step h v b (has P b.id)) B

only_still : (P : List ℕ) (B : List BodyData) → map still (only B P) ≡ only (map still B) P
only_still P B = sym (filter-mapped (λ b. has P b.id) still B)

pub parts_in_place : PartsInPlace
parts_in_place P B C e = only_still P B ∙ (λ i. only (e i) P) ∙ sym (only_still P C)
