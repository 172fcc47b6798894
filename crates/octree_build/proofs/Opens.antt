-- One cell more is opened.
use Rattle.std.proofs.Common.{◌≡◌, ℕ, zero, suc, ◌+◌, ◌-◌, ◌<◌, ◌≤◌, List, [], ◌∷◌, ◌++◌, map, length, refl, ap, sym, ◌∙◌, subst, arith, inl, inr, take, drop, sum_by, Ok, Err, Result}
use Rattle.std.specs.Prelude.{slice_index_or, OnOk}
use Rattle.std.specs.List.{flat_map, AllByRecursion}
use Rattle.std.proofs.lemmas.List.{take_more, append_assoc, map-append, length-append}
use Rattle.std.proofs.lemmas.List.Concat.{flat_map-append}
use Rattle.std.proofs.lemmas.List.Sums.{sum_by-cons, sum_by-append}
use Rattle.cell_space.specs.Cells.{Position, CellData}
use Rattle.hilbert_keys.specs.Curve.{turn_of, child_at, IsCell}
use Rattle.hilbert_keys.proofs.Curves.{child_is_cell}
use Rattle.nbody_model.specs.Bodies.{BodyData}
use Rattle.nbody_model.specs.Nodes.{positions_of}
use Rattle.model_laws.proofs.Among.{Among, each-append}
use Rattle.model_laws.proofs.Pairs.{all_among}
use Rattle.octree_build.specs.Trees.{low_of, high_of, opened, top}
use Rattle.octree_build.specs.Slots.{SlotData, slot_of, cells_in, IsNode, IsGrowing, size_in, waiting, AreSlots, IsStep}
use Rattle.octree_build.proofs.Once.{FromOpened, Opened, from_opened}

take_front : {X : Type 0} (xs ys : List X) (i : ℕ) → i ≤ length xs → take i (xs ++ ys) ≡ take i xs
take_front xs ys zero h = refl
take_front [] ys (suc i) h = absurd (omega (arith, h))
take_front (x ∷ xs) ys (suc i) h = ap (λ t. x ∷ t) (take_front xs ys i (omega (arith, h)))

drop_front : {X : Type 0} (xs ys : List X) (i : ℕ) → i ≤ length xs → drop i (xs ++ ys) ≡ drop i xs ++ ys
drop_front xs ys zero h = refl
drop_front [] ys (suc i) h = absurd (omega (arith, h))
drop_front (x ∷ xs) ys (suc i) h = drop_front xs ys i (omega (arith, h))

pub drop_at : {X : Type 0} (d : X) (xs : List X) (i : ℕ) → i < length xs → drop i xs ≡ slice_index_or xs i d ∷ drop (suc i) xs
drop_at d [] i h = absurd (omega (arith, h))
drop_at d (x ∷ xs) zero h = refl
drop_at d (x ∷ xs) (suc i) h = drop_at d xs i (omega (arith, h))

append_nil : {X : Type 0} (xs : List X) → xs ++ [] ≡ xs
append_nil [] = refl
append_nil (x ∷ xs) = ap (λ t. x ∷ t) (append_nil xs)

cells_of_slots : (S : List BodyData) (cs : List CellData) → cells_in (map (slot_of S) cs) ≡ cs
cells_of_slots S [] = refl
cells_of_slots S (c ∷ cs) = ap (λ t. c ∷ t) (cells_of_slots S cs)

-- ---- the step, over plain lists
module _ (S : List BodyData) (slots : List SlotData) (i : ℕ) (d : CellData) (g : IsGrowing S slots i) (h : i < length (cells_in slots)) where
  abbrev ps : List Position
  ps = positions_of S

  abbrev cells : List CellData
  cells = cells_in slots

  abbrev here : CellData
  here = slice_index_or cells i d

  abbrev more : List SlotData
  more = slots ++ map (slot_of S) (opened ps here)

  more_cells : cells_in more ≡ cells ++ opened ps here
  more_cells = map-append (λ s. s.cell) slots (map (slot_of S) (opened ps here)) ∙ ap (λ t. cells ++ t) (cells_of_slots S (opened ps here))

  here_is : IsNode ps here
  here_is = at_place cells i h g.nodes
    where
      at_place : (xs : List CellData) (i : ℕ) → i < length xs → AllByRecursion (IsNode ps) xs → IsNode ps (slice_index_or xs i d)
      at_place [] i h a = absurd (omega (arith, h))
      at_place (x ∷ xs) zero h a = a.0
      at_place (x ∷ xs) (suc i) h a = at_place xs i (omega (arith, h)) a.1

  opened_nodes : AllByRecursion (IsNode ps) (opened ps here)
  opened_nodes = all_among (IsNode ps) (opened ps here) (λ x k. by x (from_opened ps here x k))
    where
      by : (x : CellData) → FromOpened ps here x → IsNode ps x
      by x (Opened f s w l u n) = record { cell = subst (λ t. IsCell t) (sym u) (child_is_cell here (child_at (turn_of here) w) here_is.cell s); node = n }

  taken : take (i + 1) (cells_in more) ≡ take i cells ++ here ∷ []
  taken = ap (take (i + 1)) more_cells ∙ take_front cells (opened ps here) (i + 1) (omega (arith, h)) ∙ take_more cells i d h

  pub grows : IsGrowing S more (i + 1)
  grows = record {
    ranges = (λ j. g.ranges j ++ map (slot_of S) (opened ps here)) ∙ sym (map-append (slot_of S) cells (opened ps here)) ∙ ap (map (slot_of S)) (sym more_cells);
    nodes = subst (λ t. AllByRecursion (IsNode ps) t) (sym more_cells) (each-append (IsNode ps) cells (opened ps here) g.nodes opened_nodes);
    grown = more_cells ∙ ap (λ t. t ++ opened ps here) g.grown ∙ append_assoc (top ps) (flat_map (opened ps) (take i cells)) (opened ps here)
        ∙ ap (λ t. top ps ++ t) (ap (λ t. flat_map (opened ps) (take i cells) ++ t) (sym (append_nil (opened ps here))) ∙ sym (flat_map-append (opened ps) (take i cells) (here ∷ [])) ∙ ap (flat_map (opened ps)) (sym taken));
  }

  sizes : (n : ℕ) → ((x : CellData) → Among x (opened ps here) → 33 - x.level ≡ n) → (xs : List CellData) → ((x : CellData) → Among x xs → 33 - x.level ≡ n) → sum_by (λ x. size_in ps (33 - x.level) x) xs ≡ sum_by (size_in ps n) xs
  sizes n e [] k = refl
  sizes n e (x ∷ xs) k = omega (arith, sum_by-cons (λ x. size_in ps (33 - x.level) x) x xs, sum_by-cons (size_in ps n) x xs, ap (λ n. size_in ps n x) (k x (inl refl)), sizes n e xs (λ y l. k y (inr l)))

  size_here : size_in ps (33 - here.level) here ≡ suc (sum_by (λ x. size_in ps (33 - x.level) x) (opened ps here))
  unfolding size_in
  size_here =
      let n : ℕ = 32 - here.level in
      let e : 33 - here.level ≡ suc (32 - here.level) = omega (arith, here_is.cell.shallow) in
      let k : (x : CellData) → Among x (opened ps here) → 33 - x.level ≡ 32 - here.level = λ x l. level x (from_opened ps here x l) in
      ap (λ t. size_in ps t here) e ∙ ap suc (sym (sizes (32 - here.level) k (opened ps here) k))
    where
      level : (x : CellData) → FromOpened ps here x → 33 - x.level ≡ 32 - here.level
      level x (Opened f s w l u n) = let v : x.level ≡ here.level + 1 = ap (λ t. t.level) u in omega (arith, v)

  pub waits_less : waiting S more (i + 1) < waiting S slots i
  unfolding waiting
  waits_less =
      let f : CellData → ℕ = λ c. size_in ps (33 - c.level) c in
      let n : suc i ≡ i + 1 = omega arith in
      let a : drop (i + 1) (cells_in more) ≡ drop (i + 1) cells ++ opened ps here = ap (drop (i + 1)) more_cells ∙ drop_front cells (opened ps here) (i + 1) (omega (arith, h)) in
      let b : drop i cells ≡ here ∷ drop (i + 1) cells = drop_at d cells i h ∙ ap (λ t. here ∷ drop t cells) n in
      omega (arith, ap (sum_by f) a, ap (sum_by f) b, sum_by-append f (drop (i + 1) cells) (opened ps here), sum_by-cons f here (drop (i + 1) cells), size_here)

take_nil : (i : ℕ) → take {A = CellData} i [] ≡ []
take_nil zero = refl
take_nil (suc i) = refl

-- what stands in a slot
pub at_slot : (S : List BodyData) (slots : List SlotData) → slots ≡ map (slot_of S) (cells_in slots) → AllByRecursion (IsNode (positions_of S)) (cells_in slots) → (x : SlotData) (k : ℕ) → k < length slots → x ≡ slice_index_or slots k x → (x.low ≡ low_of S x.cell) × (x.high ≡ high_of S x.cell) × IsNode (positions_of S) x.cell
at_slot S slots e a x k h q = by slots k h q e a
  where
    tail_of : List SlotData → List SlotData
    tail_of [] = []
    tail_of (y ∷ ys) = ys

    by : (ys : List SlotData) (k : ℕ) → k < length ys → x ≡ slice_index_or ys k x → ys ≡ map (slot_of S) (cells_in ys) → AllByRecursion (IsNode (positions_of S)) (cells_in ys) → (x.low ≡ low_of S x.cell) × (x.high ≡ high_of S x.cell) × IsNode (positions_of S) x.cell
    by [] k h q e a = absurd (omega (arith, h))
    by (y ∷ ys) zero h q e a =
        let u : y ≡ slot_of S y.cell = ap (λ zs. slice_index_or zs 0 y) e in
        let v : x ≡ slot_of S x.cell = q ∙ u ∙ ap (λ t. slot_of S t.cell) (sym q) in
        (ap (λ t. t.low) v, ap (λ t. t.high) v, subst (λ t. IsNode (positions_of S) t.cell) (sym q) a.0)
    by (y ∷ ys) (suc k) h q e a = by ys k (omega (arith, h)) q (ap tail_of e) a.1

pub slot_is : (S : List BodyData) (slots : List SlotData) (i : ℕ) → IsGrowing S slots i → (x : SlotData) (k : ℕ) → k < length slots → x ≡ slice_index_or slots k x → (x.low ≡ low_of S x.cell) × (x.high ≡ high_of S x.cell) × IsNode (positions_of S) x.cell
slot_is S slots i g x k h q = at_slot S slots g.ranges g.nodes x k h q

-- at the end all are opened
pub all_grown : (S : List BodyData) (slots : List SlotData) (i : ℕ) → IsGrowing S slots i → length slots ≤ i → AreSlots S slots
all_grown S slots i g h = record { ranges = g.ranges; nodes = g.nodes; grown = record { grown = g.grown ∙ ap (λ t. top (positions_of S) ++ flat_map (opened (positions_of S)) t) (all (cells_in slots) i (omega (arith, h, length-map slots))) } }
  where
    length-map : (xs : List SlotData) → length (cells_in xs) ≡ length xs
    length-map [] = refl
    length-map (x ∷ xs) = let e : length (cells_in xs) ≡ length xs = length-map xs in omega (arith, e)

    all : (xs : List CellData) (i : ℕ) → length xs ≤ i → take i xs ≡ xs
    all [] i h = take_nil i
    all (x ∷ xs) zero h = absurd (omega (arith, h))
    all (x ∷ xs) (suc i) h = ap (λ t. x ∷ t) (all xs i (omega (arith, h)))

pub cell_at_place : (x : SlotData) (slots : List SlotData) (k : ℕ) → k < length slots → slice_index_or (cells_in slots) k x.cell ≡ (slice_index_or slots k x).cell
cell_at_place x [] k h = absurd (omega (arith, h))
cell_at_place x (y ∷ ys) zero h = refl
cell_at_place x (y ∷ ys) (suc k) h = cell_at_place x ys k (omega (arith, h))

pub as_many : (xs : List SlotData) → length (cells_in xs) ≡ length xs
as_many [] = refl
as_many (x ∷ xs) = let e : length (cells_in xs) ≡ length xs = as_many xs in omega (arith, e)

pub steps_on : (S : List BodyData) (slots new : List SlotData) (i : ℕ) (x : SlotData) (c : CellData) → IsGrowing S slots i → i < length slots → x ≡ slice_index_or slots i x → c ≡ x.cell → new ≡ slots ++ map (slot_of S) (opened (positions_of S) c) → IsStep S slots new i
steps_on S slots new i x c g h q u e =
    let k : i < length (cells_in slots) = omega (arith, h, as_many slots) in
    let w : c ≡ slice_index_or (cells_in slots) i x.cell = u ∙ ap (λ t. t.cell) q ∙ sym (cell_at_place x slots i h) in
    let v : new ≡ slots ++ map (slot_of S) (opened (positions_of S) (slice_index_or (cells_in slots) i x.cell)) = e ∙ ap (λ t. slots ++ map (slot_of S) (opened (positions_of S) t)) w in
    record {
      growing = subst (λ t. IsGrowing S t (i + 1)) (sym v) (grows S slots i x.cell g k);
      longer = omega (arith, ap length e, length-append slots (map (slot_of S) (opened (positions_of S) c)));
      kept = λ m l. ap (λ t. take m (cells_in t)) v ∙ ap (take m) (more_cells S slots i x.cell g k) ∙ take_front (cells_in slots) (opened (positions_of S) (slice_index_or (cells_in slots) i x.cell)) m (omega (arith, l, as_many slots));
      less = subst (λ t. waiting S t (i + 1) < waiting S slots i) (sym v) (waits_less S slots i x.cell g k);
    }

-- of an answer that may fail: what follows where it doesn't
pub on_ok : {T E : Type 0} (r : Result T E) (P Q : Type 0) → (P → Q) → OnOk r P → OnOk r Q
on_ok (Ok v) P Q h p = h p
on_ok (Err e) P Q h p = p
