-- What all ranks give for a cell, together, and what a walk reads of it.
use Rattle.std.proofs.Common.{◌≡◌, ℕ, zero, suc, ◌+◌, ◌<◌, ◌≤◌, Bool, true, false, cond, ◌||◌, eqb, ltb, List, [], ◌∷◌, ◌++◌, map, sum_by, refl, ap, sym, subst, ◌∙◌, arith, ◌⊎◌, inl, inr, Option, Some, None}
use Rattle.std.specs.List.{filter, flat_map, list_any, range_with_len}
use Rattle.std.specs.List.Sorted.{IsPermutation}
use Rattle.std.proofs.lemmas.List.Sorted.{IsPermutation-refl, IsPermutation-trans, IsPermutation-cons, IsPermutation-middle, IsPermutation-append, IsPermutation-sym, sum_by-IsPermutation}
use Rattle.std.proofs.lemmas.Bool.{false≢true, eqb-true, eq-eqb, ne_eqb, lt-ltb, ltb-true, cases_eq}
use Rattle.std.proofs.lemmas.List.Sums.{sum_by-cons}
use Rattle.std.proofs.lemmas.List.{map-append, append-nil}
use Rattle.std.proofs.Math.Bool.{or-false}
use Rattle.std.proofs.lemmas.List.Elements.{filter-append}
use Rattle.cell_space.specs.Cells.{Position, CellData, contains, child, below}
use Rattle.cell_space.proofs.Cells.{both_equal, child_within}
use Rattle.nbody_model.specs.Bodies.{BodyData}
use Rattle.nbody_model.specs.Nodes.{positions_of, members, is_node}
use Rattle.nbody_model.specs.Moments.{moments}
use Rattle.model_laws.proofs.Among.{Among, Witness, any-witness, any-among, any-append, among-kept, among-filter}
use Rattle.node_moments.specs.Sums.{raw_of}
use Rattle.node_moments.specs.Joined.{joined}
use Rattle.node_moments.specs.Conditions.{IsSumOf}
use Rattle.node_moments.proofs.Joined.{joined_raw}
use Rattle.node_moments.proofs.Nodes.{moments_are}
use Rattle.node_moments.proofs.Order.{sums_free}
use Rattle.rank_laws.specs.Whole.{Whole, IsWhole, own, ranks, ranks_of}
use Rattle.rank_laws.specs.Contents.{EntryData, filled, entry_of}
use Rattle.rank_laws.proofs.ByIds.{filter_on}
use Rattle.rank_entry_laws.specs.Given.{HasSoftenings, in_either, together, given_by, HomesKnowCells, EntriesAreRead}
use Rattle.rank_entry_laws.proofs.Given.{gives_own, under_eight}

-- ---- what is said of two lists of bodies, together, is what is said of both

-- a cell is a node of two lists where it is one of either
node_both : (A B : List BodyData) (c : CellData) → is_node (positions_of (A ++ B)) c ≡ (is_node (positions_of A) c || is_node (positions_of B) c)
unfolding is_node
node_both A B c = ap (list_any (contains c)) (map-append (λ (b : BodyData). b.motion.pos) A B) ∙ any-append (contains c) (positions_of A) (positions_of B)

members_both : (A B : List BodyData) (c : CellData) → members (A ++ B) c ≡ members A c ++ members B c
members_both A B c = filter-append (λ (b : BodyData). contains c b.motion.pos) A B

-- a cell that is no node has no members
members_none : (B : List BodyData) (c : CellData) → is_node (positions_of B) c ≡ false → members B c ≡ []
unfolding is_node
members_none [] c e = refl
members_none (b ∷ B) c e = by (contains c b.motion.pos) refl e (λ k. members_none B c k)
  where
    by : (t : Bool) → contains c b.motion.pos ≡ t → (t || list_any (contains c) (positions_of B)) ≡ false → (list_any (contains c) (positions_of B) ≡ false → members B c ≡ []) → cond t (b ∷ members B c) (members B c) ≡ []
    by true u k rest = absurd (false≢true (sym k))
    by false u k rest = rest k

-- nor have its children
child_none : (B : List BodyData) (c : CellData) (k : ℕ) → c.level < 32 → k < 8 → is_node (positions_of B) c ≡ false → is_node (positions_of B) (child c k) ≡ false
unfolding is_node
child_none B c k s h e = by (is_node (positions_of B) (child c k)) refl
  where
    by : (t : Bool) → is_node (positions_of B) (child c k) ≡ t → t ≡ false
    by false u = refl
    by true u = absurd (let w : Witness (contains (child c k)) (positions_of B) = any-witness (contains (child c k)) (positions_of B) u in
        false≢true (sym e ∙ any-among (contains c) w.it (positions_of B) w.«in» (child_within c k w.it s h w.passes)))

-- a number below n stands in a filter where it passes
there : (k m : ℕ) → k < m → Among k (below m)
there k zero l = absurd (omega (arith, l))
there k (suc m) l = pick (cases_eq k m) (λ u. there k m u)
  where
    pick : (k ≡ m) ⊎ (k ≡ m → ⊥) → (k < m → Among k (below m)) → Among k (below (suc m))
    pick (inl e) rest = inl e
    pick (inr e) rest = inr (rest (omega (arith, l, e)))

stands : (t : ℕ → Bool) (n k : ℕ) → k < n → list_any (λ j. eqb j k) (filter t (below n)) ≡ t k
stands t n k h = both_equal (list_any (λ j. eqb j k) (filter t (below n))) (t k)
    (λ e. let w : Witness (λ j. eqb j k) (filter t (below n)) = any-witness (λ j. eqb j k) (filter t (below n)) e in
    ap t (sym (eqb-true w.it k w.passes)) ∙ (among-kept t w.it (below n) w.«in»).1)
    (λ e. any-among (λ j. eqb j k) k (filter t (below n)) (among-filter t k (below n) (there k n h) e) (eq-eqb k k refl))

sets_both : (A B : List BodyData) (c : CellData) → in_either (filled (positions_of A) c) (filled (positions_of B) c) ≡ filled (positions_of (A ++ B)) c
sets_both A B c = by (ltb c.level 32)
  where
    by : (t : Bool) → in_either (cond t (filter (λ k. is_node (positions_of A) (child c k)) (below 8)) []) (cond t (filter (λ k. is_node (positions_of B) (child c k)) (below 8)) []) ≡ cond t (filter (λ k. is_node (positions_of (A ++ B)) (child c k)) (below 8)) []
    by true = filter_on (λ k. list_any (λ j. eqb j k) (filter (λ k. is_node (positions_of A) (child c k)) (below 8)) || list_any (λ j. eqb j k) (filter (λ k. is_node (positions_of B) (child c k)) (below 8))) (λ k. is_node (positions_of (A ++ B)) (child c k)) (below 8)
        (λ k h. (λ i. stands (λ k. is_node (positions_of A) (child c k)) 8 k (under_eight k 8 h) i || stands (λ k. is_node (positions_of B) (child c k)) 8 k (under_eight k 8 h) i) ∙ sym (node_both A B (child c k)))
    by false = refl

sets_of : (P Q : List Position) (c : CellData) → ((k : ℕ) → c.level < 32 → k < 8 → is_node P (child c k) ≡ is_node Q (child c k)) → filled P c ≡ filled Q c
sets_of P Q c h = by (ltb c.level 32) refl
  where
    by : (t : Bool) → ltb c.level 32 ≡ t → cond t (filter (λ k. is_node P (child c k)) (below 8)) [] ≡ cond t (filter (λ k. is_node Q (child c k)) (below 8)) []
    by true e = filter_on (λ k. is_node P (child c k)) (λ k. is_node Q (child c k)) (below 8) (λ k l. h k (ltb-true c.level 32 e) (under_eight k 8 l))
    by false e = refl

module _ (w : Whole) (A B : List BodyData) (c : CellData) where
  abbrev told : List BodyData → Option EntryData
  told X = cond (is_node (positions_of X) c) (Some (entry_of w X c)) None

  both_told : together (Some (entry_of w A c)) (Some (entry_of w B c)) ≡ Some (entry_of w (A ++ B) c)
  both_told =
      let r : joined (raw_of w.gravity.setup.soft c (members A c)) (raw_of w.gravity.setup.soft c (members B c)) ≡ raw_of w.gravity.setup.soft c (members (A ++ B) c) = joined_raw w.gravity.setup.soft c (members A c) (members B c) ∙ ap (raw_of w.gravity.setup.soft c) (sym (members_both A B c)) in
      λ i. Some (record { raw = r i; children = sets_both A B c i })

  left_told : is_node (positions_of B) c ≡ false → entry_of w A c ≡ entry_of w (A ++ B) c
  left_told e =
      let m : members A c ≡ members (A ++ B) c = sym (append-nil (members A c)) ∙ ap (λ t. members A c ++ t) (sym (members_none B c e)) ∙ sym (members_both A B c) in
      λ i. record { raw = raw_of w.gravity.setup.soft c (m i); children = sets_of (positions_of A) (positions_of (A ++ B)) c (λ k l h. sym (node_both A B (child c k) ∙ ap (λ b. is_node (positions_of A) (child c k) || b) (child_none B c k l h e) ∙ or-false (is_node (positions_of A) (child c k)))) i }

  right_told : is_node (positions_of A) c ≡ false → entry_of w B c ≡ entry_of w (A ++ B) c
  right_told e =
      let m : members B c ≡ members (A ++ B) c = ap (λ t. t ++ members B c) (sym (members_none A c e)) ∙ sym (members_both A B c) in
      λ i. record { raw = raw_of w.gravity.setup.soft c (m i); children = sets_of (positions_of B) (positions_of (A ++ B)) c (λ k l h. sym (node_both A B (child c k) ∙ ap (λ b. b || is_node (positions_of B) (child c k)) (child_none A c k l h e))) i }

  two_told : (a b : Bool) → is_node (positions_of A) c ≡ a → is_node (positions_of B) c ≡ b → together (cond a (Some (entry_of w A c)) None) (cond b (Some (entry_of w B c)) None) ≡ cond (a || b) (Some (entry_of w (A ++ B) c)) None
  two_told true true u v = both_told
  two_told true false u v = ap (λ t. Some t) (left_told v)
  two_told false true u v = ap (λ t. Some t) (right_told u)
  two_told false false u v = refl

  tells_both : together (told A) (told B) ≡ told (A ++ B)
  tells_both = two_told (is_node (positions_of A) c) (is_node (positions_of B) c) refl refl ∙ ap (λ b. cond b (Some (entry_of w (A ++ B) c)) None) (sym (node_both A B c))

-- ---- the bodies of all ranks are all bodies, in another order

module _ (w : Whole) where
  abbrev own_of : List BodyData → ℕ → List BodyData
  own_of bs q = filter (λ (b : BodyData). eqb (w.owner b.id) q) bs

  -- a rank that doesn't own a body is handed none more
  unowned : (b : BodyData) (bs : List BodyData) (f n : ℕ) → w.owner b.id < f → flat_map (own_of (b ∷ bs)) (range_with_len f n) ≡ flat_map (own_of bs) (range_with_len f n)
  unowned b bs f zero h = refl
  unowned b bs f (suc n) h =
      ap (λ t. cond t (b ∷ own_of bs f) (own_of bs f) ++ flat_map (own_of (b ∷ bs)) (range_with_len (f + 1) n)) (ne_eqb (w.owner b.id) f (λ e. omega (arith, e, h)))
      ∙ ap (λ t. own_of bs f ++ t) (unowned b bs (f + 1) n (omega (arith, h)))

  put : (b : BodyData) (bs : List BodyData) (f n : ℕ) → f ≤ w.owner b.id → w.owner b.id < f + n → IsPermutation (flat_map (own_of (b ∷ bs)) (range_with_len f n)) (b ∷ flat_map (own_of bs) (range_with_len f n))
  put b bs f zero h k = absurd (omega (arith, h, k))
  put b bs f (suc n) h k = by (cases_eq (w.owner b.id) f) (λ u. put b bs (f + 1) n u (omega (arith, k)))
    where
      by : (w.owner b.id ≡ f) ⊎ (w.owner b.id ≡ f → ⊥) → (f + 1 ≤ w.owner b.id → IsPermutation (flat_map (own_of (b ∷ bs)) (range_with_len (f + 1) n)) (b ∷ flat_map (own_of bs) (range_with_len (f + 1) n))) →
          IsPermutation (own_of (b ∷ bs) f ++ flat_map (own_of (b ∷ bs)) (range_with_len (f + 1) n)) (b ∷ (own_of bs f ++ flat_map (own_of bs) (range_with_len (f + 1) n)))
      by (inl e) rest = same (ap (λ t. cond t (b ∷ own_of bs f) (own_of bs f) ++ flat_map (own_of (b ∷ bs)) (range_with_len (f + 1) n)) (eq-eqb (w.owner b.id) f e) ∙ ap (λ t. b ∷ (own_of bs f ++ t)) (unowned b bs (f + 1) n (omega (arith, e))))
        where
          same : {X : Type 0} {xs ys : List X} → xs ≡ ys → IsPermutation xs ys
          same {X} {xs} {ys} q = subst (λ t. IsPermutation xs t) q (IsPermutation-refl xs)
      by (inr e) rest =
          let none : own_of (b ∷ bs) f ≡ own_of bs f = ap (λ t. cond t (b ∷ own_of bs f) (own_of bs f)) (ne_eqb (w.owner b.id) f e) in
          let p : IsPermutation (flat_map (own_of (b ∷ bs)) (range_with_len (f + 1) n)) (b ∷ flat_map (own_of bs) (range_with_len (f + 1) n)) = rest (omega (arith, h, e)) in
          subst (λ t. IsPermutation (t ++ flat_map (own_of (b ∷ bs)) (range_with_len (f + 1) n)) (b ∷ (own_of bs f ++ flat_map (own_of bs) (range_with_len (f + 1) n)))) (sym none)
          (IsPermutation-trans _ _ _ (IsPermutation-append (own_of bs f) (own_of bs f) (flat_map (own_of (b ∷ bs)) (range_with_len (f + 1) n)) (b ∷ flat_map (own_of bs) (range_with_len (f + 1) n)) (IsPermutation-refl (own_of bs f)) p) (IsPermutation-middle (own_of bs f) b (flat_map (own_of bs) (range_with_len (f + 1) n))))

  none_own : (f n : ℕ) → flat_map (own_of []) (range_with_len f n) ≡ []
  none_own f zero = refl
  none_own f (suc n) = none_own (f + 1) n

  all_own : (n : ℕ) → ((id : ℕ) → w.owner id < n) → (bs : List BodyData) → IsPermutation (flat_map (own_of bs) (range_with_len 0 n)) bs
  all_own n few [] = subst (λ t. IsPermutation t []) (sym (none_own 0 n)) (IsPermutation-refl [])
  all_own n few (b ∷ bs) = IsPermutation-trans _ _ _ (put b bs 0 n (omega arith) (omega (arith, few b.id))) (IsPermutation-cons b (flat_map (own_of bs) (range_with_len 0 n)) bs (all_own n few bs))

-- ---- and what is said of them

node_free : (A B : List BodyData) → IsPermutation A B → (c : CellData) → is_node (positions_of A) c ≡ is_node (positions_of B) c
unfolding is_node
node_free A B p c = both_equal (list_any (contains c) (positions_of A)) (list_any (contains c) (positions_of B)) (over A B p) (over B A (IsPermutation-sym A B p))
  where
    over : (X Y : List BodyData) → IsPermutation X Y → list_any (contains c) (positions_of X) ≡ true → list_any (contains c) (positions_of Y) ≡ true
    over X Y q e = any_in Y (omega (arith, any_some X e, sum_by-IsPermutation (λ (b : BodyData). cond {A = ℕ} (contains c b.motion.pos) 1 0) X Y q))
      where
        any_some : (Z : List BodyData) → list_any (contains c) (positions_of Z) ≡ true → 1 ≤ sum_by (λ (b : BodyData). cond {A = ℕ} (contains c b.motion.pos) 1 0) Z
        any_some [] e = absurd (false≢true e)
        any_some (b ∷ Z) e = at (contains c b.motion.pos) refl e (λ k. any_some Z k)
          where
            at : (t : Bool) → contains c b.motion.pos ≡ t → (t || list_any (contains c) (positions_of Z)) ≡ true → (list_any (contains c) (positions_of Z) ≡ true → 1 ≤ sum_by (λ (b : BodyData). cond {A = ℕ} (contains c b.motion.pos) 1 0) Z) → 1 ≤ sum_by (λ (b : BodyData). cond {A = ℕ} (contains c b.motion.pos) 1 0) (b ∷ Z)
            at true u k rest = omega (arith, sum_by-cons (λ (b : BodyData). cond {A = ℕ} (contains c b.motion.pos) 1 0) b Z, ap {B = ℕ} (λ t. cond t 1 0) u)
            at false u k rest = omega (arith, sum_by-cons (λ (b : BodyData). cond {A = ℕ} (contains c b.motion.pos) 1 0) b Z, rest k)

        any_in : (Z : List BodyData) → 1 ≤ sum_by (λ (b : BodyData). cond {A = ℕ} (contains c b.motion.pos) 1 0) Z → list_any (contains c) (positions_of Z) ≡ true
        any_in [] e = absurd (omega (arith, e))
        any_in (b ∷ Z) e = at (contains c b.motion.pos) refl (λ k. any_in Z k)
          where
            at : (t : Bool) → contains c b.motion.pos ≡ t → (1 ≤ sum_by (λ (b : BodyData). cond {A = ℕ} (contains c b.motion.pos) 1 0) Z → list_any (contains c) (positions_of Z) ≡ true) → (t || list_any (contains c) (positions_of Z)) ≡ true
            at true u rest = refl
            at false u rest = rest (omega (arith, e, sum_by-cons (λ (b : BodyData). cond {A = ℕ} (contains c b.motion.pos) 1 0) b Z, ap {B = ℕ} (λ t. cond t 1 0) u))

said_alike : (w : Whole) (A B : List BodyData) → IsPermutation A B → (c : CellData) → cond (is_node (positions_of A) c) (Some (entry_of w A c)) None ≡ cond (is_node (positions_of B) c) (Some (entry_of w B c)) None
said_alike w A B p c =
    ap (λ t. cond t (Some (entry_of w A c)) None) (node_free A B p c)
    ∙ ap (λ t. cond (is_node (positions_of B) c) (Some t) None) (λ i. record { raw = sums_free w.gravity.setup.soft A B p c c i; children = sets_of (positions_of A) (positions_of B) c (λ k l h. node_free A B p (child c k)) i })

module _ (w : Whole) (whole : IsWhole w) (h : HasSoftenings w) (c : CellData) (low : c.level ≤ 32) where
  add_up : (rs : List ℕ) → given_by w c rs ≡ cond (is_node (positions_of (flat_map (own w) rs)) c) (Some (entry_of w (flat_map (own w) rs) c)) None
  unfolding is_node
  add_up [] = refl
  add_up (r ∷ rs) = (λ i. together (gives_own w whole h r c low i) (add_up rs i)) ∙ tells_both w (own w r) (flat_map (own w) rs) c

pub homes_know : HomesKnowCells
homes_know w whole h c low = add_up w whole h c low (ranks w) ∙ said_alike w (flat_map (own w) (ranks w)) w.bodies (all_own w (ranks_of w) whole.owned w.bodies) c

-- ---- what a walk reads

sum_of_all : (w : Whole) → IsWhole w → HasSoftenings w → (c : CellData) → is_node (positions_of w.bodies) c ≡ true → IsSumOf w.gravity.setup w.bodies (raw_of w.gravity.setup.soft c (members w.bodies c))
unfolding raw_of
sum_of_all w whole h c n = record { bodies = whole.bodies; kinds = h.kinds; softenings = h.softenings; node = n; is = refl }

cell_of_all : (w : Whole) (c : CellData) → (raw_of w.gravity.setup.soft c (members w.bodies c)).cell ≡ c
unfolding raw_of
cell_of_all w c = refl

pub entries_read : EntriesAreRead
entries_read w whole h c n = record {
  moments = moments_are w.gravity.setup w.bodies (raw_of w.gravity.setup.soft c (members w.bodies c)) (sum_of_all w whole h c n) ∙ ap (moments w.gravity.setup w.bodies) (cell_of_all w c);
  children = λ l. ap (λ t. map (child c) (cond t (filter (λ k. is_node (positions_of w.bodies) (child c k)) (below 8)) [])) (lt-ltb c.level 32 l);
}
