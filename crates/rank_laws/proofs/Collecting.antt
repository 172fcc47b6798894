-- The home of a cell collects its members, and shares by them as by the members themselves.
use Rattle.std.proofs.Common.{◌≡◌, ℕ, ◌*◌, ◌/◌, ◌<◌, Bool, true, false, cond, eqb, ◌&&◌, List, [], ◌∷◌, ◌++◌, map, sum_by, count_by, refl, ap, sym, subst, ◌∙◌, arith, ℤ, pos, unsigned_abs}
use Rattle.std.specs.Bool.{Decides}
use Rattle.std.specs.Int.{int_rem_euclid}
use Rattle.std.specs.List.{filter, flat_map}
use Rattle.std.specs.List.Sorted.{IsPermutation}
use Rattle.std.proofs.lemmas.Bool.{cond-true, cond-false, and_parts, and_from, eqb-true, eq-eqb}
use Rattle.std.proofs.lemmas.List.Sums.{sum_by-cons}
use Rattle.std.proofs.lemmas.List.{map-append}
use Rattle.std.proofs.lemmas.List.Elements.{filter-append}
use Rattle.std.proofs.lemmas.List.Sorted.{IsPermutation-refl, IsPermutation-sym, IsPermutation-trans, IsPermutation-cons, IsPermutation-middle, sum_by-IsPermutation}
use Rattle.fixed_point.specs.declared.V3.{V3}
use Rattle.cell_space.specs.Cells.{CellData, same_cell, contains, below}
use Rattle.cell_space.proofs.Cells.{same_cell-exact}
use Rattle.nbody_model.specs.Bodies.{BodyData}
use Rattle.nbody_model.specs.Nodes.{members}
use Rattle.nbody_model.specs.Moments.{mass_of}
use Rattle.nbody_model.specs.Force.{share, small_share, share_of, is_served_before}
use Rattle.model_laws.proofs.Sums.{sum_by-same, sum_by-flat_map, sum_by-mapped}
use Rattle.model_laws.proofs.Counts.{times, without}
use Rattle.model_laws.proofs.Walk.{filter_sum}
use Rattle.force_sharing.specs.Sharing.{Member, body_of}
use Rattle.rank_laws.specs.Homes.{home}
use Rattle.rank_laws.specs.Machine.{is_one}
use Rattle.rank_laws.specs.Whole.{ranks, Whole, IsWhole, ranks_of, own}
use Rattle.rank_laws.specs.Contents.{touched, wanted, member_of, Listed, members_sent, members_in, collected}
use Rattle.rank_laws.proofs.Homes.{filters_add_up}
use Rattle.rank_laws.proofs.Trees.{flat_map-same}
use Rattle.rank_laws.proofs.Fairness.{in_order-times, in_order-same}
use Rattle.rank_laws.proofs.Counted.{sum_range}

-- ---- lists in which each element stands as often are permutations of each other

module _ {X : Type 0} (same : X → X → Bool) (exact : (x y : X) → Decides (same x y) (x ≡ y)) where
  put_first : (x : X) (ys : List X) → 0 < times same exact x ys → IsPermutation ys (x ∷ without same exact x ys)
  put_first x [] h = absurd (omega (arith, h))
  put_first x (y ∷ ys) h = by (same y x) refl (λ k. put_first x ys k)
    where
      by : (b : Bool) → same y x ≡ b → (0 < times same exact x ys → IsPermutation ys (x ∷ without same exact x ys)) → IsPermutation (y ∷ ys) (x ∷ cond b ys (y ∷ without same exact x ys))
      by true e rest = subst (λ t. IsPermutation (y ∷ ys) (t ∷ ys)) ((exact y x).0 e) (IsPermutation-refl (y ∷ ys))
      by false e rest =
          let k : 0 < times same exact x ys = omega (arith, h, sum_by-cons (λ z. cond (same z x) 1 0) y ys, cond-false {A = ℕ} (same y x) 1 0 e) in
          IsPermutation-trans _ _ _ (IsPermutation-cons y ys (x ∷ without same exact x ys) (rest k)) (IsPermutation-middle (y ∷ []) x (without same exact x ys))

  pub permuted : (xs ys : List X) → ((z : X) → times same exact z xs ≡ times same exact z ys) → IsPermutation xs ys
  permuted [] [] h = IsPermutation-refl []
  permuted [] (y ∷ ys) h = absurd (omega (arith, h y, sum_by-cons (λ z. cond (same z y) 1 0) y ys, cond-true {A = ℕ} (same y y) 1 0 ((exact y y).1 refl)))
  permuted (x ∷ xs) ys h =
      let there : 0 < times same exact x ys = omega (arith, h x, sum_by-cons (λ z. cond (same z x) 1 0) x xs, cond-true {A = ℕ} (same x x) 1 0 ((exact x x).1 refl)) in
      let p : IsPermutation ys (x ∷ without same exact x ys) = put_first x ys there in
      let q : IsPermutation xs (without same exact x ys) = permuted xs (without same exact x ys) (λ z.
      omega (arith, h z, sum_by-cons (λ y. cond (same y z) 1 0) x xs, sum_by-cons (λ y. cond (same y z) 1 0) x (without same exact x ys), sum_by-IsPermutation (λ y. cond (same y z) 1 0) ys (x ∷ without same exact x ys) p)) in
      IsPermutation-trans _ _ _ (IsPermutation-cons x xs (without same exact x ys) q) (IsPermutation-sym _ _ p)

abbrev pub same_member : Member → Member → Bool
same_member a b = eqb a.0 b.0 && eqb a.1 b.1

pub same_member-exact : (a b : Member) → Decides (same_member a b) (a ≡ b)
same_member-exact a b = (
  λ e. let u : (eqb a.0 b.0 ≡ true) × (eqb a.1 b.1 ≡ true) = and_parts (eqb a.0 b.0) (eqb a.1 b.1) e in
      let x : a.0 ≡ b.0 = eqb-true a.0 b.0 u.0 in let y : a.1 ≡ b.1 = eqb-true a.1 b.1 u.1 in λ i. (x i, y i),
  λ e. and_from (eqb a.0 b.0) (eqb a.1 b.1) (eq-eqb a.0 b.0 (ap (λ t. t.0) e)) (eq-eqb a.1 b.1 (ap (λ t. t.1) e)),
)

-- ---- what comes for one cell

abbrev listed : CellData → BodyData → Listed
listed c b = record { cell = c; member = member_of b }

in_one : (c d : CellData) (bs : List BodyData) (b : Bool) → same_cell c d ≡ b → members_in c (map (listed d) bs) ≡ cond b (map member_of bs) []
in_one c d [] true e = refl
in_one c d [] false e = refl
in_one c d (m ∷ bs) true e = ap (λ t. map (λ (e : Listed). e.member) (cond t (listed d m ∷ filter (λ (e : Listed). same_cell c e.cell) (map (listed d) bs)) (filter (λ (e : Listed). same_cell c e.cell) (map (listed d) bs)))) e ∙ ap (λ t. member_of m ∷ t) (in_one c d bs true e)
in_one c d (m ∷ bs) false e = ap (λ t. map (λ (e : Listed). e.member) (cond t (listed d m ∷ filter (λ (e : Listed). same_cell c e.cell) (map (listed d) bs)) (filter (λ (e : Listed). same_cell c e.cell) (map (listed d) bs)))) e ∙ in_one c d bs false e

members_in-append : (c : CellData) (xs ys : List Listed) → members_in c (xs ++ ys) ≡ members_in c xs ++ members_in c ys
members_in-append c xs ys = ap (map (λ (e : Listed). e.member)) (filter-append (λ (e : Listed). same_cell c e.cell) xs ys) ∙ map-append (λ (e : Listed). e.member) (filter (λ (e : Listed). same_cell c e.cell) xs) (filter (λ (e : Listed). same_cell c e.cell) ys)

module _ (h : CellData → List BodyData) (c : CellData) where
  abbrev entries : List CellData → List Listed
  entries ds = flat_map (λ d. map (listed d) (h d)) ds

  step : (d : CellData) (ds : List CellData) (b : Bool) → same_cell c d ≡ b → members_in c (entries (d ∷ ds)) ≡ cond b (map member_of (h d)) [] ++ members_in c (entries ds)
  step d ds b e = members_in-append c (map (listed d) (h d)) (entries ds) ∙ ap (λ t. t ++ members_in c (entries ds)) (in_one c d (h d) b e)

  none_in : (ds : List CellData) → sum_by (λ d. cond {A = ℕ} (same_cell c d) 1 0) ds ≡ 0 → members_in c (entries ds) ≡ []
  none_in [] e = refl
  none_in (d ∷ ds) e = by (same_cell c d) refl (λ k. none_in ds k)
    where
      by : (b : Bool) → same_cell c d ≡ b → (sum_by (λ d. cond {A = ℕ} (same_cell c d) 1 0) ds ≡ 0 → members_in c (entries ds) ≡ []) → members_in c (entries (d ∷ ds)) ≡ []
      by true k rest = absurd (omega (arith, e, sum_by-cons (λ d. cond (same_cell c d) 1 0) d ds, cond-true {A = ℕ} (same_cell c d) 1 0 k))
      by false k rest = step d ds false k ∙ rest (omega (arith, e, sum_by-cons (λ d. cond (same_cell c d) 1 0) d ds, cond-false {A = ℕ} (same_cell c d) 1 0 k))

  append_none : {X : Type 0} (xs : List X) → xs ++ [] ≡ xs
  append_none [] = refl
  append_none (x ∷ xs) = ap (λ t. x ∷ t) (append_none xs)

  pub once_in : (ds : List CellData) → sum_by (λ d. cond {A = ℕ} (same_cell c d) 1 0) ds ≡ 1 → members_in c (entries ds) ≡ map member_of (h c)
  once_in [] e = absurd (omega (arith, e))
  once_in (d ∷ ds) e = by (same_cell c d) refl (λ k. once_in ds k)
    where
      by : (b : Bool) → same_cell c d ≡ b → (sum_by (λ d. cond {A = ℕ} (same_cell c d) 1 0) ds ≡ 1 → members_in c (entries ds) ≡ map member_of (h c)) → members_in c (entries (d ∷ ds)) ≡ map member_of (h c)
      by true k rest =
          step d ds true k
          ∙ ap (λ t. map member_of (h d) ++ t) (none_in ds (omega (arith, e, sum_by-cons (λ d. cond (same_cell c d) 1 0) d ds, cond-true {A = ℕ} (same_cell c d) 1 0 k)))
          ∙ append_none (map member_of (h d))
          ∙ ap (λ t. map member_of (h t)) (sym ((same_cell-exact c d).0 k))
      by false k rest = step d ds false k ∙ rest (omega (arith, e, sum_by-cons (λ d. cond (same_cell c d) 1 0) d ds, cond-false {A = ℕ} (same_cell c d) 1 0 k))

-- ---- what comes from all owners

pub times_wanted : (w : Whole) (h : ℕ) (c : CellData) → sum_by (λ d. cond {A = ℕ} (same_cell c d) 1 0) (wanted w h) ≡ cond (is_one c (wanted w h)) 1 0
unfolding wanted
times_wanted w h c = in_order-times w.keys c (flat_map (λ r. touched w r h) (ranks w)) ∙ ap {B = ℕ} (λ b. cond b 1 0) (sym (in_order-same w.keys c (flat_map (λ r. touched w r h) (ranks w))))

collected_is : (w : Whole) (h : ℕ) (c : CellData) → is_one c (wanted w h) ≡ true → collected w h c ≡ flat_map (λ q. map member_of (members (own w q) c)) (ranks w)
unfolding collected
collected_is w h c e = flat_map-same (λ q. members_in c (members_sent w q h)) (λ q. map member_of (members (own w q) c)) (ranks w) (λ q k. once_in (members (own w q)) c (wanted w h) (times_wanted w h c ∙ cond-true {A = ℕ} (is_one c (wanted w h)) 1 0 e))

pub collected_sum : (w : Whole) → IsWhole w → (h : ℕ) (c : CellData) → is_one c (wanted w h) ≡ true → (f : Member → ℕ) → sum_by f (collected w h c) ≡ sum_by (λ b. f (member_of b)) (members w.bodies c)
collected_sum w whole h c e f =
    ap (sum_by f) (collected_is w h c e)
    ∙ sum_by-flat_map f (λ q. map member_of (members (own w q) c)) (ranks w)
    ∙ sum_range (λ q. sum_by f (map member_of (members (own w q) c))) (ranks_of w)
    ∙ sum_by-same (λ q. sum_by f (map member_of (members (own w q) c))) (λ q. sum_by (λ b. cond (contains c b.motion.pos) (f (member_of b)) 0) (own w q))
    (λ q. sum_by-mapped f member_of (members (own w q) c) ∙ filter_sum (λ b. contains c b.motion.pos) (λ b. f (member_of b)) (own w q)) (below (ranks_of w))
    ∙ filters_add_up (λ (b : BodyData). w.owner b.id) (ranks_of w) (λ b. whole.owned b.id) (λ b. cond (contains c b.motion.pos) (f (member_of b)) 0) w.bodies
    ∙ sym (filter_sum (λ b. contains c b.motion.pos) (λ b. f (member_of b)) w.bodies)

pub are_collected : (w : Whole) → IsWhole w → (c : CellData) → is_one c (wanted w (home w.keys c)) ≡ true → IsPermutation (map member_of (members w.bodies c)) (collected w (home w.keys c) c)
are_collected w whole c e = permuted same_member same_member-exact (map member_of (members w.bodies c)) (collected w (home w.keys c) c) (λ z.
    sum_by-mapped (λ m. cond (same_member m z) 1 0) member_of (members w.bodies c)
    ∙ sym (collected_sum w whole (home w.keys c) c e (λ m. cond (same_member m z) 1 0)))

-- ---- shares by them

share_alike : (ms : List Member) (bs : List BodyData) → ((f : BodyData → ℕ) → ((b : BodyData) → f (body_of (member_of b)) ≡ f b) → sum_by f (map body_of ms) ≡ sum_by f bs) → (N : ℤ) (b : BodyData) → share (map body_of ms) N (body_of (member_of b)) ≡ share bs N b
unfolding share small_share
share_alike ms bs alike N b =
    let M : mass_of (map body_of ms) ≡ mass_of bs = alike (λ b. b.mass) (λ b. refl) in
    let floors : (s all : ℕ) → sum_by (λ a. s * a.mass / all) (map body_of ms) ≡ sum_by (λ a. s * a.mass / all) bs = λ s all. alike (λ a. s * a.mass / all) (λ b. refl) in
    let counts : (s all : ℕ) → count_by (is_served_before s all b) (map body_of ms) ≡ count_by (is_served_before s all b) bs = λ s all. alike (λ a. cond (is_served_before s all b a) 1 0) (λ b. refl) in
    let s : ℕ = unsigned_abs (int_rem_euclid N (pos (mass_of bs))) in
    rw (M, floors s (mass_of bs), counts s (mass_of bs)) refl

pub shares_alike : (w : Whole) → IsWhole w → (h : ℕ) (c : CellData) → is_one c (wanted w h) ≡ true → (N : V3) (b : BodyData) → share_of (map body_of (collected w h c)) N (body_of (member_of b)) ≡ share_of (members w.bodies c) N b
shares_alike w whole h c e N b =
    let alike : (f : BodyData → ℕ) → ((b : BodyData) → f (body_of (member_of b)) ≡ f b) → sum_by f (map body_of (collected w h c)) ≡ sum_by f (members w.bodies c) =
    λ f same. sum_by-mapped f body_of (collected w h c) ∙ collected_sum w whole h c e (λ m. f (body_of m)) ∙ sum_by-same (λ b. f (body_of (member_of b))) f same (members w.bodies c) in
    let x : share (map body_of (collected w h c)) N.x (body_of (member_of b)) ≡ share (members w.bodies c) N.x b = share_alike (collected w h c) (members w.bodies c) alike N.x b in
    let y : share (map body_of (collected w h c)) N.y (body_of (member_of b)) ≡ share (members w.bodies c) N.y b = share_alike (collected w h c) (members w.bodies c) alike N.y b in
    let z : share (map body_of (collected w h c)) N.z (body_of (member_of b)) ≡ share (members w.bodies c) N.z b = share_alike (collected w h c) (members w.bodies c) alike N.z b in
    λ i. record { x = x i; y = y i; z = z i }
