-- What is needed to open a cell.
use Rattle.std.proofs.Common.{◌≡◌, ℕ, zero, suc, ◌-◌, ◌*◌, ◌/◌, ◌<◌, ◌≤◌, Bool, true, false, cond, eqb, List, [], ◌∷◌, ◌++◌, map, length, refl, ap, sym, ◌∙◌, arith, pos}
use Rattle.std.specs.Prelude.{slice_index_or}
use Rattle.std.specs.List.{filter}
use Rattle.std.proofs.Math.Nat.{div-mul-le_self}
use Rattle.cell_space.specs.Cells.{CellData}
use Rattle.hilbert_keys.specs.Curve.{keys_in, children_along}
use Rattle.nbody_model.specs.Bodies.{BodyData}
use Rattle.nbody_model.specs.Nodes.{positions_of, is_node, is_leaf}
use Rattle.model_laws.proofs.Leaves.{shallow}
use Rattle.octree_build.specs.Trees.{key_at, low_of, high_of, opened}
use Rattle.octree_build.specs.Slots.{AreKeyed, IsNode, SlotData, slot_of, slots_below, IsToOpen}
use Rattle.octree_build.proofs.LeafTests.{some_there, within_all, leaf_test, least_is}

pub whole_part : (n w : ℕ) → n / w * w ≤ n
whole_part n w = div-mul-le_self n w

pub map_at : (d : BodyData) (S : List BodyData) (i : ℕ) → i < length S → (e : ℕ) → slice_index_or (map key_at S) i e ≡ key_at (slice_index_or S i d)
map_at d [] i h e = absurd (omega (arith, h))
map_at d (b ∷ S) zero h e = refl
map_at d (b ∷ S) (suc i) h e = map_at d S i (omega (arith, h)) e

length_keys : (S : List BodyData) → length (map key_at S) ≡ length S
length_keys [] = refl
length_keys (b ∷ S) = let e : length (map key_at S) ≡ length S = length_keys S in omega (arith, e)

pub blank : BodyData
blank = record { id = 0; kind = 0; mass = 0; motion = record { pos = record { x = 0; y = 0; z = 0 }; mom = record { x = pos 0; y = pos 0; z = pos 0 } } }

append_nil : {X : Type 0} (xs : List X) → xs ≡ xs ++ []
append_nil [] = refl
append_nil (x ∷ xs) = ap (λ t. x ∷ t) (append_nil xs)

no_accept : CellData → CellData → Bool
no_accept x y = false

module _ (keys : List ℕ) (S : List BodyData) (c : CellData) (low high : ℕ) (k : AreKeyed keys S) (n : IsNode (positions_of S) c) (a : low ≡ low_of S c) (b : high ≡ high_of S c) where
  pub some : low < high
  some = omega (arith, a, b, some_there S c n k.in_box k.rises blank)

  pub within : high ≤ length S
  within = omega (arith, b, within_all S c n k.in_box k.rises blank)

  pub within_keys : high ≤ length keys
  within_keys = omega (arith, within, ap length k.are, length_keys S)

  at_key : (i e : ℕ) → i < length S → slice_index_or keys i e ≡ key_at (slice_index_or S i blank)
  at_key i e h = ap (λ t. slice_index_or t i e) k.are ∙ map_at blank S i h e

  pub leaf_if : (e : ℕ) → eqb (slice_index_or keys low e) (slice_index_or keys (high - 1) e) ≡ is_leaf (positions_of S) c
  leaf_if e = (λ i. eqb (at_key low e (omega (arith, some, within)) i) (at_key (high - 1) e (omega (arith, some, within)) i)) ∙ (λ i. eqb (key_at (slice_index_or S (a i) blank)) (key_at (slice_index_or S (b i - 1) blank))) ∙ leaf_test S c n k.in_box k.rises blank

  pub opens_none : (slots : List SlotData) → is_leaf (positions_of S) c ≡ true → slots ≡ slots ++ map (slot_of S) (opened (positions_of S) c)
  unfolding opened
  opens_none slots e = append_nil slots ∙ ap (λ t. slots ++ map (slot_of S) (cond t [] (filter (is_node (positions_of S)) (children_along c)))) (sym e)

  pub opens_all : is_leaf (positions_of S) c ≡ false → slots_below S c ≡ map (slot_of S) (opened (positions_of S) c)
  unfolding opened slots_below
  opens_all e = ap (λ t. map (slot_of S) (cond t [] (filter (is_node (positions_of S)) (children_along c)))) (sym e)

  pub not_deepest : is_leaf (positions_of S) c ≡ false → c.level < 32
  not_deepest e = shallow (record { positions = positions_of S; accept = no_accept }) c e

  pub to_open : (level from : ℕ) → level ≡ c.level → ((e : ℕ) → from ≡ slice_index_or keys low e / keys_in level * keys_in level) → IsToOpen S level low high from c
  to_open level from l f = record {
    cell = n.cell;
    there = sym l;
    begins = a;
    ends = b;
    key = f 0 ∙ ap (λ t. t / keys_in level * keys_in level) (at_key low 0 (omega (arith, some, within))) ∙ (λ i. key_at (slice_index_or S (a i) blank) / keys_in (l i) * keys_in (l i)) ∙ least_is S c n k.in_box k.rises blank;
  }
