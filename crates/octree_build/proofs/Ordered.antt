-- The cells of a tree ascend by level, and in a level along the curve.
use Rattle.std.proofs.Common.{◌≡◌, ℕ, zero, suc, ◌+◌, ◌*◌, ◌<◌, ◌≤◌, Bool, true, false, cond, List, [], ◌∷◌, ◌++◌, length, map, take, drop, filter, refl, ap, sym, ◌∙◌, subst, arith, ◌⊎◌, inl, inr}
use Rattle.std.specs.Prelude.{slice_index_or}
use Rattle.std.specs.List.{flat_map, AllByRecursion}
use Rattle.std.proofs.lemmas.List.{take-append-drop, append_assoc, append-nil, take_more}
use Rattle.std.proofs.lemmas.List.Concat.{flat_map-append}
use Rattle.cell_space.specs.Cells.{Position, CellData, root_cell}
use Rattle.hilbert_keys.specs.Curve.{IsCell, number_of, child_along, children_along}
use Rattle.hilbert_keys.proofs.Curves.{child_along_is}
use Rattle.nbody_model.specs.Nodes.{is_node, is_leaf}
use Rattle.model_laws.proofs.Among.{Among, each-among, each-append, each-filter}
use Rattle.model_laws.proofs.Leaves.{shallow}
use Rattle.model_laws.proofs.Pairs.{all_among}
use Rattle.octree_build.specs.Trees.{opened, top, IsGrown, first_child}
use Rattle.octree_build.specs.Laws.{ComesBefore, AreInOrder}
use Rattle.octree_build.proofs.Once.{FromOpened, Opened, from_opened, have_nodes, among-append}
use Rattle.octree_build.proofs.Edges.{among-at}
use Rattle.octree_build.proofs.Opens.{drop_at}

joined_order : (xs ys : List CellData) → AreInOrder xs → AreInOrder ys → ((x y : CellData) → Among x xs → Among y ys → ComesBefore x y) → AreInOrder (xs ++ ys)
joined_order [] ys a b h = b
joined_order (x ∷ xs) ys a b h = (each-append (ComesBefore x) xs ys a.0 (all_among (ComesBefore x) ys (λ y i. h x y (inl refl) i)), joined_order xs ys a.1 b (λ u y i j. h u y (inr i) j))

filter_order : (t : CellData → Bool) (xs : List CellData) → AreInOrder xs → AreInOrder (filter t xs)
filter_order t [] a = tt
filter_order t (x ∷ xs) a = by (t x) (each-filter (ComesBefore x) t xs a.0) (filter_order t xs a.1)
  where
    by : (b : Bool) → AllByRecursion (ComesBefore x) (filter t xs) → AreInOrder (filter t xs) → AreInOrder (cond b (x ∷ filter t xs) (filter t xs))
    by true u v = (u, v)
    by false u v = v

-- the elements before one come before it
before_middle : (xs ys : List CellData) (c : CellData) → AreInOrder (xs ++ c ∷ ys) → (b : CellData) → Among b xs → ComesBefore b c
before_middle [] ys c a b h = absurd h
before_middle (x ∷ xs) ys c a b (inl e) = subst (λ t. ComesBefore t c) (sym e) (each-among (ComesBefore x) c (xs ++ c ∷ ys) a.0 (there xs))
  where
    there : (xs : List CellData) → Among c (xs ++ c ∷ ys)
    there [] = inl refl
    there (x ∷ xs) = inr (there xs)
before_middle (x ∷ xs) ys c a b (inr h) = before_middle xs ys c a.1 b h

from_flat : {X Y : Type 0} (f : X → List Y) (P : Type 0) (y : Y) (xs : List X) → Among y (flat_map f xs) → ((x : X) → Among x xs → Among y (f x) → P) → P
from_flat f P y [] h k = absurd h
from_flat f P y (x ∷ xs) h k = by (among-append y (f x) (flat_map f xs) h) (λ u. from_flat f P y xs u (λ z i j. k z (inr i) j))
  where
    by : Among y (f x) ⊎ Among y (flat_map f xs) → (Among y (flat_map f xs) → P) → P
    by (inl u) rest = k x (inl refl) u
    by (inr u) rest = rest u

-- ---- what two cells are opened to

record IsBelow (c x : CellData) : Type 0 where
  level : x.level ≡ c.level + 1
  low : 8 * number_of c ≤ number_of x
  high : number_of x < 8 * number_of c + 8

is_below : (ps : List Position) (c x : CellData) → IsCell c → Among x (opened ps c) → IsBelow c x
is_below ps c x i h = by (from_opened ps c x h)
  where
    by : FromOpened ps c x → IsBelow c x
    by (Opened f s w k u n) =
        let e : number_of x ≡ 8 * number_of c + w = ap number_of u ∙ (child_along_is c i s w k).1 in
        record { level = ap (λ t. t.level) u; low = omega (arith, e); high = omega (arith, e, k) }

opened_after : (ps : List Position) (b c x y : CellData) → IsCell b → IsCell c → ComesBefore b c → Among x (opened ps b) → Among y (opened ps c) → ComesBefore x y
opened_after ps b c x y i j h u v = by h (is_below ps b x i u) (is_below ps c y j v)
  where
    by : ComesBefore b c → IsBelow b x → IsBelow c y → ComesBefore x y
    by (inl l) p q = inl (omega (arith, l, p.level, q.level))
    by (inr e) p q = inr (omega (arith, e.0, p.level, q.level), omega (arith, e.1, p.high, q.low))

abbrev up : ℕ → ℕ → List ℕ
up w zero = []
up w (suc n) = w ∷ up (w + 1) n

module _ (c : CellData) (i : IsCell c) (s : c.level < 32) where
  step : (v w : ℕ) → v < w → w < 8 → ComesBefore (child_along c v) (child_along c w)
  step v w h l = inr (refl, omega (arith, h, (child_along_is c i s v (omega (arith, h, l))).1, (child_along_is c i s w l).1))

  each_after : (v n w : ℕ) → v < w → w + n ≡ 8 → AllByRecursion (ComesBefore (child_along c v)) (map (child_along c) (up w n))
  each_after v zero w h e = tt
  each_after v (suc n) w h e = (step v w h (omega (arith, e)), each_after v n (w + 1) (omega (arith, h)) (omega (arith, e)))

  up_order : (n w : ℕ) → w + n ≡ 8 → AreInOrder (map (child_along c) (up w n))
  up_order zero w e = tt
  up_order (suc n) w e = (each_after w n (w + 1) (omega arith) (omega (arith, e)), up_order n (w + 1) (omega (arith, e)))

  along_order : AreInOrder (children_along c)
  along_order = up_order 8 0 refl

opened_order : (ps : List Position) (c : CellData) → IsCell c → AreInOrder (opened ps c)
unfolding opened
opened_order ps c i = by (is_leaf ps c) refl
  where
    by : (b : Bool) → is_leaf ps c ≡ b → AreInOrder (cond b [] (filter (is_node ps) (children_along c)))
    by true e = tt
    by false e = filter_order (is_node ps) (children_along c) (along_order c i (shallow (record { positions = ps; accept = λ a b. false }) c e))

-- ---- the whole list

take_in : {X : Type 0} (n : ℕ) (xs ys : List X) → n ≤ length xs → take n (xs ++ ys) ≡ take n xs
take_in zero xs ys h = refl
take_in (suc n) [] ys h = absurd (omega (arith, h))
take_in (suc n) (x ∷ xs) ys h = ap (λ t. x ∷ t) (take_in n xs ys (omega (arith, h)))

at_in : {X : Type 0} (d : X) (n : ℕ) (xs ys : List X) → n < length xs → slice_index_or (xs ++ ys) n d ≡ slice_index_or xs n d
at_in d n [] ys h = absurd (omega (arith, h))
at_in d zero (x ∷ xs) ys h = refl
at_in d (suc n) (x ∷ xs) ys h = at_in d n xs ys (omega (arith, h))

taken_among : {X : Type 0} (x : X) (n : ℕ) (xs : List X) → Among x (take n xs) → Among x xs
taken_among x zero xs h = absurd h
taken_among x (suc n) [] h = absurd h
taken_among x (suc n) (y ∷ ys) (inl e) = inl e
taken_among x (suc n) (y ∷ ys) (inr h) = inr (taken_among x n ys h)

module _ (ps : List Position) (cells : List CellData) (g : IsGrown ps cells) (later : (i : ℕ) → i < length cells → i < first_child ps cells i) where
  abbrev first_ones : ℕ → List CellData
  first_ones i = top ps ++ flat_map (opened ps) (take i cells)

  abbrev at : ℕ → CellData
  at i = slice_index_or cells i root_cell

  is_cell : (c : CellData) → Among c cells → IsCell c
  is_cell c h = each-among IsCell c cells (have_nodes ps cells g).each h

  split : (i : ℕ) → cells ≡ first_ones i ++ flat_map (opened ps) (drop i cells)
  split i =
      g.grown
      ∙ ap (λ t. top ps ++ flat_map (opened ps) t) (sym (take-append-drop i cells))
      ∙ ap (λ t. top ps ++ t) (flat_map-append (opened ps) (take i cells) (drop i cells))
      ∙ sym (append_assoc (top ps) (flat_map (opened ps) (take i cells)) (flat_map (opened ps) (drop i cells)))

  -- the first ones are those before place i, the one there, and some more
  middle : (i : ℕ) → i < length cells → first_ones i ≡ take i cells ++ (at i ∷ drop (suc i) (first_ones i))
  middle i h =
      let l : i < length (first_ones i) = later i h in
      let a : take i cells ≡ take i (first_ones i) = ap (take i) (split i) ∙ take_in i (first_ones i) (flat_map (opened ps) (drop i cells)) (omega (arith, l)) in
      let b : at i ≡ slice_index_or (first_ones i) i root_cell = ap (λ t. slice_index_or t i root_cell) (split i) ∙ at_in root_cell i (first_ones i) (flat_map (opened ps) (drop i cells)) l in
      sym (take-append-drop i (first_ones i)) ∙ (λ j. sym a j ++ drop_at root_cell (first_ones i) i l j) ∙ ap (λ t. take i cells ++ (t ∷ drop (suc i) (first_ones i))) (sym b)

  from_top : (x : CellData) → Among x (top ps) → x.level ≡ 0
  from_top x h = by (is_node ps root_cell) h
    where
      by : (b : Bool) → Among x (cond b (root_cell ∷ []) []) → x.level ≡ 0
      by true (inl e) = ap (λ t. t.level) e
      by true (inr e) = absurd e
      by false e = absurd e

  top_order : AreInOrder (top ps)
  top_order = by (is_node ps root_cell)
    where
      by : (b : Bool) → AreInOrder (cond b (root_cell ∷ []) [])
      by true = (tt, tt)
      by false = tt

  grown_order : (i : ℕ) → i ≤ length cells → AreInOrder (first_ones i)
  grown_order zero h = subst AreInOrder (sym (append-nil (top ps))) top_order
  grown_order (suc i) h =
      let l : i < length cells = omega (arith, h) in
      let q : i + 1 ≡ suc i = omega arith in
      let r : AreInOrder (first_ones i) = grown_order i (omega (arith, h)) in
      let here : IsCell (at i) = is_cell (at i) (among-at root_cell cells i l) in
      let e : first_ones (suc i) ≡ first_ones i ++ opened ps (at i) =
      ap first_ones (sym q)
      ∙ ap (λ t. top ps ++ t) (ap (flat_map (opened ps)) (take_more cells i root_cell l) ∙ flat_map-append (opened ps) (take i cells) (at i ∷ []) ∙ ap (λ t. flat_map (opened ps) (take i cells) ++ t) (append-nil (opened ps (at i))))
      ∙ sym (append_assoc (top ps) (flat_map (opened ps) (take i cells)) (opened ps (at i))) in
      subst AreInOrder (sym e) (joined_order (first_ones i) (opened ps (at i)) r (opened_order ps (at i) here) (λ x y u v. one i l r x y here u v))
    where
      one : (i : ℕ) → i < length cells → AreInOrder (first_ones i) → (x y : CellData) → IsCell (at i) → Among x (first_ones i) → Among y (opened ps (at i)) → ComesBefore x y
      one i l r x y here u v = by (among-append x (top ps) (flat_map (opened ps) (take i cells)) u)
        where
          by : Among x (top ps) ⊎ Among x (flat_map (opened ps) (take i cells)) → ComesBefore x y
          by (inl t) = inl (omega (arith, from_top x t, (is_below ps (at i) y here v).level))
          by (inr t) = from_flat (opened ps) (ComesBefore x y) x (take i cells) t (λ b k z.
              opened_after ps b (at i) x y (is_cell b (taken_among b i cells k)) here (before_middle (take i cells) (drop (suc i) (first_ones i)) (at i) (subst AreInOrder (middle i l) r) b k) z v)

  pub in_order : AreInOrder cells
  in_order = subst AreInOrder (sym (g.grown ∙ ap (λ t. top ps ++ flat_map (opened ps) t) (sym (all cells)))) (grown_order (length cells) (omega arith))
    where
      all : (xs : List CellData) → take (length xs) xs ≡ xs
      all [] = refl
      all (x ∷ xs) = ap (λ t. x ∷ t) (all xs)
