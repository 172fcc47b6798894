-- Where the members of the children of a cell begin and end.
use Rattle.std.proofs.Common.{◌≡◌, ℕ, zero, suc, ◌+◌, ◌-◌, ◌*◌, ◌^◌, ◌<◌, ◌≤◌, Bool, true, false, cond, not, eqb, ltb, List, [], ◌∷◌, ◌++◌, map, length, refl, ap, sym, ◌∙◌, subst, arith, ◌⊎◌, inl, inr, take, drop, ◌&&◌, pos}
use Rattle.std.specs.Prelude.{slice_index_or}
use Rattle.std.specs.List.{filter, flat_map, count_by, AllByRecursion}
use Rattle.std.proofs.lemmas.List.Sums.{sum_by-cons}
use Rattle.std.proofs.lemmas.Bool.{eqb-true, lt-ltb, le-ltb, cases_lt}
use Rattle.cell_space.specs.Cells.{InBox, CellData, contains, cell_at}
use Rattle.cell_space.proofs.Cells.{contains-exact}
use Rattle.hilbert_keys.specs.Curve.{keys_in, number_of, first_key, child_along, IsCell}
use Rattle.hilbert_keys.proofs.Curves.{cell_range, child_along_is, keys_fit}
use Rattle.hilbert_keys.proofs.Turns.{under}
use Rattle.hilbert_keys.proofs.Widths.{quotient_is, eights}
use Rattle.std.proofs.lemmas.Nat.{mul-le}
use Rattle.std.proofs.lemmas.List.{take_more, append_assoc}
use Rattle.std.proofs.lemmas.List.Concat.{flat_map-append}
use Rattle.nbody_model.specs.Bodies.{BodyData}
use Rattle.nbody_model.specs.Nodes.{positions_of, members, is_node}
use Rattle.model_laws.proofs.Among.{Among, Witness, any-witness, any-among, among-filter, among-map}
use Rattle.model_laws.proofs.Cancel.{BodyAt, body_at}
use Rattle.octree_build.specs.Trees.{key_at, Rises, low_of, high_of}
use Rattle.octree_build.specs.Slots.{AreKeyed, slot_of, listed, edge_key, edge, keys_below, SlotData, IsChildAt, IsOpening, listed_before, slots_below}
use Rattle.octree_build.proofs.Runs.{members_range}

-- ---- counts and places of a rising list

pub count_at_most : {X : Type 0} (t : X → Bool) (xs : List X) → count_by t xs ≤ length xs
count_at_most t [] = omega arith
count_at_most t (x ∷ xs) = by (t x) (sum_by-cons (λ x. cond (t x) 1 0) x xs) (count_at_most t xs)
  where
    by : (b : Bool) → count_by t (x ∷ xs) ≡ cond b 1 0 + count_by t xs → count_by t xs ≤ length xs → count_by t (x ∷ xs) ≤ length (x ∷ xs)
    by true e r = omega (arith, e, r)
    by false e r = omega (arith, e, r)

none_there : {X : Type 0} (f : X → ℕ) (n m : ℕ) (xs : List X) → n ≤ m → AllByRecursion (λ y. m ≤ f y) xs → count_by (λ x. ltb (f x) n) xs ≡ 0
none_there f n m [] h a = refl
none_there f n m (x ∷ xs) h a = let k : m ≤ f x = a.0 in omega (arith, sum_by-cons (λ x. cond (ltb (f x) n) 1 0) x xs, ap {B = ℕ} (λ b. cond b 1 0) (le-ltb (f x) n (omega arith)), none_there f n m xs h a.1)

pub at_each : {X : Type 0} (P : X → Type 0) (d : X) (xs : List X) (i : ℕ) → i < length xs → AllByRecursion P xs → P (slice_index_or xs i d)
at_each P d [] i h a = absurd (omega (arith, h))
at_each P d (x ∷ xs) zero h a = a.0
at_each P d (x ∷ xs) (suc i) h a = at_each P d xs i (omega (arith, h)) a.1

module _ {X : Type 0} (f : X → ℕ) (n : ℕ) (d : X) where
  abbrev cnt : List X → ℕ
  cnt xs = count_by (λ x. ltb (f x) n) xs

  -- an element before the count is below n
  pub below_count : (xs : List X) (i : ℕ) → Rises f xs → i < cnt xs → f (slice_index_or xs i d) < n
  below_count [] i r h = absurd (omega (arith, h))
  below_count (x ∷ xs) i r h = by (cases_lt (f x) n) i h (λ j k. below_count xs j r.1 k)
    where
      by : (f x < n) ⊎ (n ≤ f x) → (i : ℕ) → i < cnt (x ∷ xs) → ((j : ℕ) → j < cnt xs → f (slice_index_or xs j d) < n) → f (slice_index_or (x ∷ xs) i d) < n
      by (inl l) zero h rest = l
      by (inl l) (suc i) h rest = rest i (omega (arith, h, sum_by-cons (λ x. cond (ltb (f x) n) 1 0) x xs, ap {B = ℕ} (λ b. cond b 1 0) (lt-ltb (f x) n l)))
      by (inr l) i h rest = absurd (omega (arith, h, sum_by-cons (λ x. cond (ltb (f x) n) 1 0) x xs, ap {B = ℕ} (λ b. cond b 1 0) (le-ltb (f x) n l), none_there f n (f x) xs l r.0))

  -- an element from the count on isn't
  pub from_count : (xs : List X) (i : ℕ) → Rises f xs → cnt xs ≤ i → i < length xs → n ≤ f (slice_index_or xs i d)
  from_count [] i r h k = absurd (omega (arith, k))
  from_count (x ∷ xs) i r h k = by (cases_lt (f x) n) i h k (λ j u v. from_count xs j r.1 u v)
    where
      by : (f x < n) ⊎ (n ≤ f x) → (i : ℕ) → cnt (x ∷ xs) ≤ i → i < length (x ∷ xs) → ((j : ℕ) → cnt xs ≤ j → j < length xs → n ≤ f (slice_index_or xs j d)) → n ≤ f (slice_index_or (x ∷ xs) i d)
      by (inl l) zero h k rest = absurd (omega (arith, h, sum_by-cons (λ x. cond (ltb (f x) n) 1 0) x xs, ap {B = ℕ} (λ b. cond b 1 0) (lt-ltb (f x) n l)))
      by (inl l) (suc i) h k rest = rest i (omega (arith, h, sum_by-cons (λ x. cond (ltb (f x) n) 1 0) x xs, ap {B = ℕ} (λ b. cond b 1 0) (lt-ltb (f x) n l))) (omega (arith, k))
      by (inr l) zero h k rest = l
      by (inr l) (suc i) h k rest = let a : f x ≤ f (slice_index_or xs i d) = at_each (λ y. f x ≤ f y) d xs i (omega (arith, k)) r.0 in omega (arith, l, a)

-- more are below more
pub count_more : {X : Type 0} (f : X → ℕ) (n m : ℕ) → n ≤ m → (xs : List X) → count_by (λ x. ltb (f x) n) xs ≤ count_by (λ x. ltb (f x) m) xs
count_more f n m h [] = omega arith
count_more f n m h (x ∷ xs) = by (cases_lt (f x) n) (count_more f n m h xs)
  where
    by : (f x < n) ⊎ (n ≤ f x) → count_by (λ x. ltb (f x) n) xs ≤ count_by (λ x. ltb (f x) m) xs → count_by (λ x. ltb (f x) n) (x ∷ xs) ≤ count_by (λ x. ltb (f x) m) (x ∷ xs)
    by (inl l) r = omega (arith, r, sum_by-cons (λ x. cond (ltb (f x) n) 1 0) x xs, sum_by-cons (λ x. cond (ltb (f x) m) 1 0) x xs, ap {B = ℕ} (λ b. cond b 1 0) (lt-ltb (f x) n l), ap {B = ℕ} (λ b. cond b 1 0) (lt-ltb (f x) m (omega (arith, l, h))))
    by (inr l) r = omega (arith, r, sum_by-cons (λ x. cond (ltb (f x) n) 1 0) x xs, sum_by-cons (λ x. cond (ltb (f x) m) 1 0) x xs, ap {B = ℕ} (λ b. cond b 1 0) (le-ltb (f x) n l))

-- ---- the same of keys

pub rises_keys : (S : List BodyData) → Rises key_at S → Rises (λ k. k) (map key_at S)
rises_keys [] r = tt
rises_keys (b ∷ S) r = (each S r.0, rises_keys S r.1)
  where
    each : (S : List BodyData) → AllByRecursion (λ y. key_at b ≤ key_at y) S → AllByRecursion (λ k. key_at b ≤ k) (map key_at S)
    each [] a = tt
    each (x ∷ xs) a = (a.0, each xs a.1)

pub count_keys : (n : ℕ) (S : List BodyData) → count_by (λ k. ltb k n) (map key_at S) ≡ count_by (λ b. ltb (key_at b) n) S
count_keys n [] = refl
count_keys n (b ∷ S) = omega (arith, sum_by-cons (λ k. cond (ltb k n) 1 0) (key_at b) (map key_at S), sum_by-cons (λ b. cond (ltb (key_at b) n) 1 0) b S, count_keys n S)

-- a scan that stands at i goes on while the key there is below the bound
pub goes_on : (keys : List ℕ) (bound i : ℕ) (d : ℕ) → Rises (λ k. k) keys → i < length keys → slice_index_or keys i d < bound → i + 1 ≤ keys_below keys bound
unfolding keys_below
goes_on keys bound i d r h l = by (cases_lt i (count_by (λ k. ltb k bound) keys))
  where
    by : (i < count_by (λ k. ltb k bound) keys) ⊎ (count_by (λ k. ltb k bound) keys ≤ i) → i + 1 ≤ count_by (λ k. ltb k bound) keys
    by (inl u) = omega (arith, u)
    by (inr u) = absurd (omega (arith, l, from_count (λ k. k) bound d keys i r u h))

pub stops : (keys : List ℕ) (bound i : ℕ) (d : ℕ) → Rises (λ k. k) keys → i < length keys → bound ≤ slice_index_or keys i d → keys_below keys bound ≤ i
unfolding keys_below
stops keys bound i d r h l = by (cases_lt i (count_by (λ k. ltb k bound) keys))
  where
    by : (i < count_by (λ k. ltb k bound) keys) ⊎ (count_by (λ k. ltb k bound) keys ≤ i) → count_by (λ k. ltb k bound) keys ≤ i
    by (inl u) = absurd (omega (arith, l, below_count (λ k. k) bound d keys i r u))
    by (inr u) = u

-- ---- a cell's range

-- the body at a place of a cell's range lies in the cell
pub lies_in : (S : List BodyData) (c : CellData) → IsCell c → AllByRecursion (λ b. InBox b.motion.pos) S → Rises key_at S → (d : BodyData) (i : ℕ) → low_of S c ≤ i → i < high_of S c → contains c (slice_index_or S i d).motion.pos ≡ true
lies_in S c k a r d i l h =
    let s : i < length S = omega (arith, h, count_at_most (λ b. ltb (key_at b) (first_key c + keys_in c.level)) S) in
    let b : BodyData = slice_index_or S i d in
    let low : first_key c ≤ key_at b = from_count key_at (first_key c) d S i r l s in
    let high : key_at b < first_key c + keys_in c.level = below_count key_at (first_key c + keys_in c.level) d S i r h in
    cell_range c k b.motion.pos (at_each (λ b. InBox b.motion.pos) d S i s a)
    ∙ quotient_is (key_at b) (keys_in c.level) (number_of c) (eights (32 - c.level))
    ∙ (λ j. lt-ltb (key_at b) (first_key c + keys_in c.level) high j && not (le-ltb (key_at b) (first_key c) low j))

-- where nobody is between, the cell has no member; where somebody is, it has
pub empty_between : (S : List BodyData) (c : CellData) → IsCell c → AllByRecursion (λ b. InBox b.motion.pos) S → Rises key_at S → high_of S c ≤ low_of S c → is_node (positions_of S) c ≡ false
unfolding is_node
empty_between S c k a r h = by (is_node (positions_of S) c) refl
  where
    by : (b : Bool) → is_node (positions_of S) c ≡ b → b ≡ false
    by false e = refl
    by true e = absurd (
        let w : Witness (contains c) (positions_of S) = any-witness (contains c) (positions_of S) e in
        let b : BodyAt w.it S = body_at w.it S w.«in» in
        let m : Among b.it (members S c) = among-filter (λ b. contains c b.motion.pos) b.it S b.«in» (ap (contains c) b.at ∙ w.passes) in
        let z : high_of S c - low_of S c ≡ 0 = omega (arith, h) in
        let none : members S c ≡ [] = members_range S a r c k ∙ ap (λ t. take t (drop (low_of S c) S)) z in
        subst (λ t. Among b.it t) none m)

pub among-at : {X : Type 0} (d : X) (xs : List X) (i : ℕ) → i < length xs → Among (slice_index_or xs i d) xs
among-at d [] i h = absurd (omega (arith, h))
among-at d (x ∷ xs) zero h = inl refl
among-at d (x ∷ xs) (suc i) h = inr (among-at d xs i (omega (arith, h)))

blank : BodyData
blank = record { id = 0; kind = 0; mass = 0; motion = record { pos = record { x = 0; y = 0; z = 0 }; mom = record { x = pos 0; y = pos 0; z = pos 0 } } }

pub some_between : (S : List BodyData) (c : CellData) → IsCell c → AllByRecursion (λ b. InBox b.motion.pos) S → Rises key_at S → low_of S c < high_of S c → is_node (positions_of S) c ≡ true
unfolding is_node
some_between S c k a r h =
    let i : ℕ = low_of S c in
    let s : i < length S = omega (arith, h, count_at_most (λ b. ltb (key_at b) (first_key c + keys_in c.level)) S) in
    let b : BodyData = slice_index_or S i blank in
    any-among (contains c) b.motion.pos (positions_of S) (among-map (λ b. b.motion.pos) b S (among-at blank S i s)) (lies_in S c k a r blank i (omega arith) h)

-- ---- the ranges of the children

-- the first key of a child, and what comes after its last
pub child_low : (S : List BodyData) (c : CellData) → IsCell c → c.level < 32 → (w : ℕ) → w < 8 → low_of S (child_along c w) ≡ edge S c w
child_low S c k h w l = let e : number_of (child_along c w) ≡ 8 * number_of c + w = (child_along_is c k h w l).1 in ap (λ t. count_by (λ b. ltb (key_at b) (t * keys_in (c.level + 1))) S) e

pub child_high : (S : List BodyData) (c : CellData) → IsCell c → c.level < 32 → (w : ℕ) → w < 8 → high_of S (child_along c w) ≡ edge S c (w + 1)
child_high S c k h w l =
    let e : number_of (child_along c w) ≡ 8 * number_of c + w = (child_along_is c k h w l).1 in
    let m : ℕ = keys_in (c.level + 1) in
    let u : (8 * number_of c + w) * m + m ≡ (8 * number_of c + (w + 1)) * m = omega arith in
    ap (λ t. count_by (λ b. ltb (key_at b) (t * m + m)) S) e ∙ ap (λ t. count_by (λ b. ltb (key_at b) t) S) u

eight_parts : (l : ℕ) → l < 32 → keys_in l ≡ 8 * keys_in (l + 1)
eight_parts l h = let e : 32 - l ≡ suc (32 - (l + 1)) = omega (arith, h) in ap (λ t. 8 ^ t) e ∙ omega arith

pub edge_first : (S : List BodyData) (c : CellData) → c.level < 32 → low_of S c ≡ edge S c 0
edge_first S c h = let m : ℕ = keys_in (c.level + 1) in let u : number_of c * keys_in c.level ≡ (8 * number_of c + 0) * m = ap (λ t. number_of c * t) (eight_parts c.level h) ∙ omega arith in ap (λ t. count_by (λ b. ltb (key_at b) t) S) u

pub edge_last : (S : List BodyData) (c : CellData) → c.level < 32 → high_of S c ≡ edge S c 8
edge_last S c h = let m : ℕ = keys_in (c.level + 1) in let u : number_of c * keys_in c.level + keys_in c.level ≡ (8 * number_of c + 8) * m = (λ i. number_of c * eight_parts c.level h i + eight_parts c.level h i) ∙ omega arith in ap (λ t. count_by (λ b. ltb (key_at b) t) S) u

-- ---- what one child adds

pub below_is : (keys : List ℕ) (S : List BodyData) (n : ℕ) → AreKeyed keys S → keys_below keys n ≡ count_by (λ b. ltb (key_at b) n) S
unfolding keys_below
below_is keys S n a = ap (λ t. count_by (λ k. ltb k n) t) a.are ∙ count_keys n S

pub order_is : (keys : List ℕ) (S : List BodyData) → AreKeyed keys S → Rises (λ k. k) keys
order_is keys S a = subst (λ t. Rises (λ k. k) t) (sym a.are) (rises_keys S a.rises)

pub ends_high : (keys : List ℕ) (S : List BodyData) (level at bound : ℕ) (d : CellData) → AreKeyed keys S → IsChildAt S level at bound d → keys_below keys bound ≡ high_of S d
ends_high keys S level at bound d a k = below_is keys S bound a ∙ ap (λ t. count_by (λ b. ltb (key_at b) t) S) k.end

pub from_low : (keys : List ℕ) (S : List BodyData) (level at bound : ℕ) (d : CellData) → AreKeyed keys S → IsChildAt S level at bound d → at ≤ keys_below keys bound
from_low keys S level at bound d a k = omega (arith, k.low, ends_high keys S level at bound d a k, count_more key_at (first_key d) (first_key d + keys_in d.level) (omega arith) S)

append_nil : {X : Type 0} (xs : List X) → xs ≡ xs ++ []
append_nil [] = refl
append_nil (x ∷ xs) = ap (λ t. x ∷ t) (append_nil xs)

pub lists_none : (keys : List ℕ) (S : List BodyData) (level at bound end : ℕ) (d : CellData) (xs : List SlotData) → AreKeyed keys S → IsChildAt S level at bound d → end ≡ keys_below keys bound → at ≡ end → (end ≡ high_of S d) × (xs ≡ xs ++ listed S d)
lists_none keys S level at bound end d xs a k e q =
    let h : end ≡ high_of S d = e ∙ ends_high keys S level at bound d a k in
    (h, append_nil xs ∙ ap (λ b. xs ++ cond b (slot_of S d ∷ []) []) (sym (empty_between S d k.cell a.in_box a.rises (omega (arith, h, q, k.low)))))

pub lists_one : (keys : List ℕ) (S : List BodyData) (level at bound end : ℕ) (d : CellData) (e : CellData) (b : BodyData) (xs : List SlotData) → AreKeyed keys S → IsChildAt S level at bound d → end ≡ keys_below keys bound → at < end → b ≡ slice_index_or S at b → e ≡ cell_at level b.motion.pos → (end ≡ high_of S d) × (xs ++ record { cell = e; low = at; high = end } ∷ [] ≡ xs ++ listed S d)
lists_one keys S level at bound end d e b xs a k f l g h =
    let u : end ≡ high_of S d = f ∙ ends_high keys S level at bound d a k in
    let v : contains d (slice_index_or S at b).motion.pos ≡ true = lies_in S d k.cell a.in_box a.rises b at (omega (arith, k.low)) (omega (arith, u, l)) in
    let w : e ≡ d = h ∙ (λ i. cell_at (sym k.there i) (g i).motion.pos) ∙ (contains-exact d (slice_index_or S at b).motion.pos).0 v in
    let n : is_node (positions_of S) d ≡ true = some_between S d k.cell a.in_box a.rises (omega (arith, u, l, k.low)) in
    (u, (λ i. xs ++ record { cell = w i; low = k.low i; high = u i } ∷ []) ∙ ap (λ b. xs ++ cond b (slot_of S d ∷ []) []) (sym n))

-- ---- the children in order

abbrev eights_list : List ℕ
eights_list = 0 ∷ 1 ∷ 2 ∷ 3 ∷ 4 ∷ 5 ∷ 6 ∷ 7 ∷ []

pub place_at : (w : ℕ) → w < 8 → slice_index_or eights_list w 0 ≡ w
place_at w h = eqb-true (slice_index_or eights_list w 0) w (under (λ w. eqb (slice_index_or eights_list w 0) w) 8 refl w h)

listed_more : (S : List BodyData) (c : CellData) (w : ℕ) → w < 8 → listed_before S c (w + 1) ≡ listed_before S c w ++ listed S (child_along c w)
listed_more S c w h =
    let f : ℕ → List SlotData = λ k. listed S (child_along c k) in
    ap (flat_map f) (take_more eights_list w 0 h)
    ∙ flat_map-append f (take w eights_list) (slice_index_or eights_list w 0 ∷ [])
    ∙ ap (λ t. flat_map f (take w eights_list) ++ t) (sym (append_nil (f (slice_index_or eights_list w 0))))
    ∙ ap (λ k. flat_map f (take w eights_list) ++ f k) (place_at w h)

module _ (S : List BodyData) (c : CellData) (i : IsCell c) (s : c.level < 32) where
  abbrev keys_of : ℕ
  keys_of = keys_in (c.level + 1)

  key_more : (w : ℕ) → edge_key c w + keys_of ≡ edge_key c (w + 1)
  key_more w = omega arith

  pub child_there : (w at bound width : ℕ) (start items : List SlotData) → w < 8 → IsOpening S c w at bound start items → width ≡ keys_of → IsChildAt S (c.level + 1) at (bound + width) (child_along c w)
  child_there w at bound width start items h o e =
      let d = child_along_is c i s w h in
      record {
        cell = d.0;
        there = refl;
        low = o.next ∙ sym (child_low S c i s w h);
        end = (λ j. o.key j + e j) ∙ ap (λ t. t * keys_of + keys_of) (sym d.1);
      }

  pub opens_next : (w at bound width end : ℕ) (start items more : List SlotData) → w < 8 → IsOpening S c w at bound start items → width ≡ keys_of → end ≡ high_of S (child_along c w) → more ≡ items ++ listed S (child_along c w) → IsOpening S c (w + 1) end (bound + width) start more
  opens_next w at bound width end start items more h o e f g = record {
    next = f ∙ child_high S c i s w h;
    key = (λ j. o.key j + e j) ∙ key_more w;
    list = g ∙ ap (λ t. t ++ listed S (child_along c w)) o.list ∙ append_assoc start (listed_before S c w) (listed S (child_along c w)) ∙ ap (λ t. start ++ t) (sym (listed_more S c w h));
  }

  key_order : (w v : ℕ) → w ≤ v → edge_key c w ≤ edge_key c v
  key_order w v h = mul-le (8 * number_of c + w) keys_of (8 * number_of c + v) keys_of (omega arith) (omega arith)

  last_key_is : edge_key c 8 ≡ number_of c * keys_in c.level + keys_in c.level
  last_key_is = let e : keys_in c.level ≡ 8 * keys_of = eight_parts c.level s in omega (arith, ap (λ t. number_of c * t) e, e)

  -- no key overflows, and no child ends behind the cell
  pub bound_fits : (w at bound width : ℕ) (start items : List SlotData) → w < 8 → IsOpening S c w at bound start items → width ≡ keys_of → bound + width ≤ 2 ^ 96
  bound_fits w at bound width start items h o e = omega (arith, o.key, e, key_more w, key_order (w + 1) 8 (omega arith), last_key_is, keys_fit c i.shallow)

  pub ends_within : (keys : List ℕ) (high w at bound width : ℕ) (start items : List SlotData) → AreKeyed keys S → high ≡ high_of S c → w < 8 → IsOpening S c w at bound start items → width ≡ keys_of → keys_below keys (bound + width) ≤ high
  ends_within keys high w at bound width start items a q h o e =
      let u : bound + width ≡ edge_key c (w + 1) = (λ j. o.key j + e j) ∙ key_more w in
      let v : keys_below keys (bound + width) ≡ edge S c (w + 1) = below_is keys S (bound + width) a ∙ ap (λ t. count_by (λ b. ltb (key_at b) t) S) u in
      omega (arith, v, q, edge_last S c s, count_more key_at (edge_key c (w + 1)) (edge_key c 8) (key_order (w + 1) 8 (omega arith)) S)

  pub opens : (low from : ℕ) (start : List SlotData) → low ≡ low_of S c → from ≡ first_key c → IsOpening S c 0 low from start start
  opens low from start a b = record {
    next = a ∙ edge_first S c s;
    key = b ∙ (let e : keys_in c.level ≡ 8 * keys_of = eight_parts c.level s in ap (λ t. number_of c * t) e ∙ omega arith);
    list = append_nil start;
  }

listed_all : (S : List BodyData) (c : CellData) (xs : List ℕ) → flat_map (λ k. listed S (child_along c k)) xs ≡ map (slot_of S) (filter (is_node (positions_of S)) (map (child_along c) xs))
listed_all S c [] = refl
listed_all S c (x ∷ xs) = by (is_node (positions_of S) (child_along c x)) (listed_all S c xs)
  where
    by : (b : Bool) → flat_map (λ k. listed S (child_along c k)) xs ≡ map (slot_of S) (filter (is_node (positions_of S)) (map (child_along c) xs)) → cond b (slot_of S (child_along c x) ∷ []) [] ++ flat_map (λ k. listed S (child_along c k)) xs ≡ map (slot_of S) (cond b (child_along c x ∷ filter (is_node (positions_of S)) (map (child_along c) xs)) (filter (is_node (positions_of S)) (map (child_along c) xs)))
    by true r = ap (λ t. slot_of S (child_along c x) ∷ t) r
    by false r = r

pub opened_all : (S : List BodyData) (c : CellData) (w at bound : ℕ) (start items : List SlotData) → w ≡ 8 → IsOpening S c w at bound start items → items ≡ start ++ slots_below S c
unfolding slots_below
opened_all S c w at bound start items e o = o.list ∙ ap (λ w. start ++ listed_before S c w) e ∙ ap (λ t. start ++ t) (listed_all S c (0 ∷ 1 ∷ 2 ∷ 3 ∷ 4 ∷ 5 ∷ 6 ∷ 7 ∷ []))
