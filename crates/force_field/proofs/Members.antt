-- The members of a node, and a body's share among them.
use Rattle.std.proofs.Common.{◌≡◌, ℕ, zero, suc, ◌+◌, ◌*◌, ◌/◌, ◌%◌, ◌<◌, ◌≤◌, ◌^◌, Bool, true, false, cond, ltb, List, [], ◌∷◌, ◌++◌, length, map, take, drop, get_or, ap, sym, ◌∙◌, arith, ℤ, pos, unsigned_abs, take-append-drop}
use Rattle.std.specs.List.{filter, count_by, AllByRecursion}
use Rattle.std.specs.List.Sorted.{IsStrictlyIncreasing}
use Rattle.std.proofs.lemmas.Bool.{cond-true, cond-false, le-ltb}
use Rattle.std.proofs.lemmas.Nat.{div_below}
use Rattle.std.proofs.Math.Nat.{mod-le}
use Rattle.std.proofs.lemmas.List.{get_or-map, get_or-append-add, length-map, drop_more, length-append}
use Rattle.std.proofs.lemmas.List.Elements.{filter-append, All-from_recursion}
use Rattle.std.proofs.lemmas.List.Sums.{length-filter, count_by-le-length}
use Rattle.fixed_point.specs.declared.V3.{V3}
use Rattle.fixed_point.specs.Vectors.{origin}
use Rattle.cell_space.specs.Cells.{CellData, contains}
use Rattle.nbody_model.specs.Bodies.{BodyData}
use Rattle.nbody_model.specs.Nodes.{members}
use Rattle.nbody_model.specs.Moments.{mass_of}
use Rattle.nbody_model.specs.Force.{share, share_of, small_share, left_of, is_served_before}
use Rattle.model_laws.specs.Laws.{AreBodies}
use Rattle.model_laws.proofs.Among.{among-filter}
use Rattle.model_laws.proofs.Sums.{sum_by-mapped}
use Rattle.model_laws.proofs.Shares.{Ascending, ascending-from, ascending-filter}
use Rattle.model_laws.proofs.Bounds.{share_bounded}
use Rattle.model_laws.proofs.Cancel.{heavy_filter}
use Rattle.force_sharing.specs.Sharing.{Member, AreMembers, shares_of}
use Rattle.force_sharing.proofs.Alone.{look_alone}
use Rattle.force_field.specs.declared.shares.Workspace.{Workspace}
use Rattle.force_field.specs.Shared.{IsReady}
use Rattle.force_field.proofs.At.{among-at}
use Rattle.force_field.proofs.Sums.{inside-light}

-- where an element stands in a filter
pub filter-place : {X : Type 0} (t : X → Bool) (xs : List X) (i : ℕ) (d : X) → i < length xs → t (get_or xs i d) ≡ true → get_or (filter t xs) (count_by t (take i xs)) d ≡ get_or xs i d
filter-place t xs i d lt there =
    let rest = filter t (drop (i + 1) xs) in
    let at : filter t (drop i xs) ≡ get_or xs i d ∷ rest = ap (filter t) (drop_more xs i d lt) ∙ cond-true (t (get_or xs i d)) (get_or xs i d ∷ rest) rest there in
    let parts : filter t xs ≡ filter t (take i xs) ++ (get_or xs i d ∷ rest) = ap (filter t) (sym (take-append-drop i xs)) ∙ filter-append t (take i xs) (drop i xs) ∙ ap (λ ys. filter t (take i xs) ++ ys) at in
    let place : count_by t (take i xs) ≡ length (filter t (take i xs)) + 0 = omega (arith, length-filter t (take i xs)) in
    ap (λ ys. get_or ys (count_by t (take i xs)) d) parts
    ∙ ap (λ k. get_or (filter t (take i xs) ++ (get_or xs i d ∷ rest)) k d) place
    ∙ get_or-append-add (filter t (take i xs)) (get_or xs i d ∷ rest) 0 d

pub filter-room : {X : Type 0} (t : X → Bool) (xs : List X) (i : ℕ) (d : X) → i < length xs → t (get_or xs i d) ≡ true → count_by t (take i xs) < length (filter t xs)
filter-room t xs i d lt there =
    let rest = filter t (drop (i + 1) xs) in
    let at : filter t (drop i xs) ≡ get_or xs i d ∷ rest = ap (filter t) (drop_more xs i d lt) ∙ cond-true (t (get_or xs i d)) (get_or xs i d ∷ rest) rest there in
    let parts : filter t xs ≡ filter t (take i xs) ++ (get_or xs i d ∷ rest) = ap (filter t) (sym (take-append-drop i xs)) ∙ filter-append t (take i xs) (drop i xs) ∙ ap (λ ys. filter t (take i xs) ++ ys) at in
    omega (arith, ap length parts, length-append (filter t (take i xs)) (get_or xs i d ∷ rest), length-filter t (take i xs))

-- a body's id and mass
abbrev pub member_of : BodyData → Member
member_of b = (b.id, b.mass)

increasing : (ms : List BodyData) → Ascending ms → IsStrictlyIncreasing (map (λ m. m.0) (map member_of ms))
increasing [] a k h = absurd (omega (arith, h))
increasing (m ∷ []) a k h = absurd (omega (arith, h))
increasing (m ∷ n ∷ ms) a zero h = a.0.0
increasing (m ∷ n ∷ ms) a (suc k) h =
    let e : suc k + 1 ≡ suc (k + 1) = omega arith in
    rw e (increasing (n ∷ ms) a.1 k (omega (arith, h)))

heavy-kept : (t : BodyData → Bool) (B : List BodyData) → AllByRecursion (λ b. 1 ≤ b.mass) B → AllByRecursion (λ m. 1 ≤ m.1) (map member_of (filter t B))
heavy-kept t [] a = tt
heavy-kept t (b ∷ bs) a = kept (t b) (heavy-kept t bs a.1)
  where
    kept : (u : Bool) → AllByRecursion (λ m. 1 ≤ m.1) (map member_of (filter t bs)) → AllByRecursion (λ m. 1 ≤ m.1) (map member_of (cond u (b ∷ filter t bs) (filter t bs)))
    kept true h = (a.0, h)
    kept false h = h

-- the members of a node keep what sharing asks for
pub are-members : (B : List BodyData) (c : CellData) (i : ℕ) (b : BodyData) → AreBodies B → i < length B → contains c (get_or B i b).motion.pos ≡ true → AreMembers (map member_of (members B c))
are-members B c i b all lt there =
    let long : length (map member_of (members B c)) ≡ length (members B c) = length-map (members B c) member_of in
    let few : length (members B c) ≤ length B = omega (arith, length-filter (λ b. contains c b.motion.pos) B, count_by-le-length (λ b. contains c b.motion.pos) B) in
    record {
      some = omega (arith, long, filter-room (λ b. contains c b.motion.pos) B i b lt there);
      ascending = increasing (members B c) (ascending-filter (λ b. contains c b.motion.pos) B (ascending-from B all.valid.ascending));
      heavy = All-from_recursion (λ (m : Member). 1 ≤ m.1) (map member_of (members B c)) (heavy-kept (λ b. contains c b.motion.pos) B all.heavy);
      few = omega (arith, long, few, all.valid.few);
      light = omega (arith, sum_by-mapped (λ (m : Member). m.1) member_of (members B c), inside-light c B, all.valid.light);
    }

some-mass : (B : List BodyData) (c : CellData) (i : ℕ) (b : BodyData) → AreBodies B → i < length B → contains c (get_or B i b).motion.pos ≡ true → 0 < mass_of (members B c)
some-mass B c i b all lt there = heavy_filter (λ b. contains c b.motion.pos) B (get_or B i b) all.heavy (among-at B i b lt) there

-- the share that stands at a body's place
pub share-there : (B : List BodyData) (c : CellData) (i place : ℕ) (b : BodyData) (N : ℤ) → i < length B → contains c (get_or B i b).motion.pos ≡ true → place ≡ count_by (λ b. contains c b.motion.pos) (take i B) →
    get_or (shares_of (map member_of (members B c)) N) place (pos 0) ≡ share (members B c) N (get_or B i b)
share-there B c i place b N lt there e =
    let ms = members B c in
    ap (λ xs. get_or xs place (pos 0)) (look_alone ms N)
    ∙ get_or-map (share ms N) ms place b (pos 0) (omega (arith, e, filter-room (λ b. contains c b.motion.pos) B i b lt there))
    ∙ ap (share ms N) (ap (λ k. get_or ms k b) e ∙ filter-place (λ b. contains c b.motion.pos) B i b lt there)

none_served : (n : ℕ) → ltb n 0 ≡ false
none_served n = le-ltb n 0 (omega arith)

zero_over : (M : ℕ) → 0 < M → 0 / M ≡ 0
zero_over M h = omega (arith, div_below 0 M 1 h (omega (arith, h)))

zero_rest : (M : ℕ) → 0 % M ≡ 0
zero_rest M = omega (arith, mod-le 0 M)

none_more : (n left : ℕ) → left ≡ 0 → ◌≡◌ {A = ℕ} (cond (ltb n left) 1 0) 0
none_more n left e = ap {B = ℕ} (λ l. cond (ltb n l) 1 0) e ∙ cond-false {A = ℕ} (ltb n 0) 1 0 (none_served n)

small_none : (ms : List BodyData) (b : BodyData) → 0 < mass_of ms → small_share 0 ms b ≡ 0
unfolding small_share
small_none ms b h =
    let times : 0 * b.mass ≡ 0 = omega arith in
    let part : 0 * b.mass / mass_of ms ≡ 0 = ap (λ t. t / mass_of ms) times ∙ zero_over (mass_of ms) h in
    let more : ◌≡◌ {A = ℕ} (cond (ltb (count_by (is_served_before 0 (mass_of ms) b) ms) (left_of 0 ms)) 1 0) 0 = none_more (count_by (is_served_before 0 (mass_of ms) b) ms) (left_of 0 ms) (omega arith) in
    omega (arith, part, more)

no_part : (ms : List BodyData) (b : BodyData) → 0 < mass_of ms → 0 / mass_of ms * b.mass + small_share (0 % mass_of ms) ms b ≡ 0
no_part ms b h =
    ap (λ t. t * b.mass + small_share (0 % mass_of ms) ms b) (zero_over (mass_of ms) h)
    ∙ ap (λ t. 0 * b.mass + small_share t ms b) (zero_rest (mass_of ms))
    ∙ omega (arith, small_none ms b h)

-- of nothing nobody gets a share
pub share-none : (ms : List BodyData) (b : BodyData) → 0 < mass_of ms → share ms (pos 0) b ≡ pos 0
unfolding share
share-none ms b h = ap pos (no_part ms b h)

pub shares-none : (B : List BodyData) (c : CellData) (i : ℕ) (b : BodyData) (total : V3) → AreBodies B → i < length B → contains c (get_or B i b).motion.pos ≡ true → total ≡ origin → origin ≡ share_of (members B c) total (get_or B i b)
shares-none B c i b total all lt there e =
    let none : pos 0 ≡ share (members B c) (pos 0) (get_or B i b) = sym (share-none (members B c) (get_or B i b) (some-mass B c i b all lt there)) in
    (λ k. record { x = none k; y = none k; z = none k }) ∙ ap (λ t. share_of (members B c) t (get_or B i b)) (sym e)

pub share-small : (B : List BodyData) (c : CellData) (i : ℕ) (b : BodyData) (N : ℤ) → AreBodies B → i < length B → contains c (get_or B i b).motion.pos ≡ true → unsigned_abs N ≤ 2 ^ 107 → unsigned_abs (share (members B c) N (get_or B i b)) ≤ 2 ^ 108
share-small B c i b N all lt there h =
    omega (arith, share_bounded (members B c) N (get_or B i b) (some-mass B c i b all lt there) (among-filter (λ b. contains c b.motion.pos) (get_or B i b) B (among-at B i b lt) there), h, inside-light c B, all.valid.light)

-- a body is among the members as often as before, with room for all
pub place-within : (B : List BodyData) (c : CellData) (i place : ℕ) (b : BodyData) (w : Workspace) → i < length B → contains c (get_or B i b).motion.pos ≡ true → IsReady B c i place w → place < length w.members.items
place-within B c i place b w lt there ready = omega (arith, ap length ready.members_are, length-map (members B c) member_of, ready.place_is, filter-room (λ b. contains c b.motion.pos) B i b lt there)

pub members-room : (B : List BodyData) (c : CellData) (i place : ℕ) (w : Workspace) → IsReady B c i place w → length w.members.items ≤ w.scratch
members-room B c i place w ready = omega (arith, ap length ready.members_are, length-map (members B c) member_of, length-filter (λ b. contains c b.motion.pos) B, count_by-le-length (λ b. contains c b.motion.pos) B, ready.room)
