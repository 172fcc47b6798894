-- What is known of a cell by the answer of its home.
use Rattle.std.proofs.Common.{◌≡◌, ℕ, ◌<◌, eqb, Bool, true, false, cond, ◌||◌, List, [], ◌∷◌, refl, ap, sym, ◌∙◌, subst}
use Rattle.std.specs.Prelude.{Option, Some, None, is_some}
use Rattle.std.specs.Int.{bit_at}
use Rattle.std.specs.List.{filter, list_any}
use Rattle.std.proofs.lemmas.Bool.{false≢true, lt-ltb}
use Rattle.std.proofs.lemmas.Nat.Bits.{bit_at-zero}
use Rattle.cell_space.specs.Cells.{CellData, Position, below, child, contains, root_cell, same_cell}
use Rattle.cell_space.proofs.Cells.{child_within, same_cell-exact}
use Rattle.nbody_model.specs.Bodies.{BodyData}
use Rattle.nbody_model.specs.Moments.{MomentsData, centre_of, greatest_soft, mass_of, moments, quad_of}
use Rattle.nbody_model.specs.Nodes.{at_one_place, is_leaf, is_node, members, positions_of}
use Rattle.nbody_model.specs.Setups.{SetupData}
use Rattle.model_laws.proofs.Among.{Witness, any-witness, any-among}
use Rattle.node_moments.specs.Conditions.{IsOfNode, IsSumOf}
use Rattle.node_moments.specs.Sums.{raw_of}
use Rattle.rank_laws.specs.Contents.{EntryData, entry_of}
use Rattle.rank_laws.specs.Whole.{Whole, opening}
use Rattle.home_cells.specs.Entries.{numbers_in}
use Rattle.home_cells.proofs.Together.{stands}
use Rattle.rank_walk.specs.declared.told.Known.{Known}
use Rattle.rank_walk.specs.Seats.{IsKnown, Seat, TellsBelow, has_child, moments_of}
use Rattle.rank_walk.specs.Slots.{empty_moments}
use Rattle.rank_exchange.specs.Posts.{Answers}

-- an answer that is there is that of a node
some_node : (w : Whole) (c : CellData) (e : EntryData) (b : Bool) → is_node (positions_of w.bodies) c ≡ b → Some e ≡ cond b (Some (entry_of w w.bodies c)) None → (b ≡ true) × (e ≡ entry_of w w.bodies c)
some_node w c e true n h = (refl, ap (λ o. or_it o) h)
  where
    or_it : Option EntryData → EntryData
    or_it None = e
    or_it (Some d) = d
some_node w c e false n h = absurd (false≢true (ap is_some (sym h)))

no_node : (w : Whole) (c : CellData) (b : Bool) → is_node (positions_of w.bodies) c ≡ b → None ≡ cond b (Some (entry_of w w.bodies c)) None → b ≡ false
no_node w c true n h = absurd (false≢true (ap is_some h))
no_node w c false n h = refl

cell_of_raw : (w : Whole) (c : CellData) → (raw_of w.gravity.setup.soft c (members w.bodies c)).cell ≡ c
unfolding raw_of
cell_of_raw w c = refl

module _ (z : Seat) (c : CellData) (e : EntryData) (a : Answers z c (Some e)) where
  found : (is_node (positions_of z.whole.bodies) c ≡ true) × (e ≡ entry_of z.whole z.whole.bodies c)
  found = some_node z.whole c e (is_node (positions_of z.whole.bodies) c) refl a.is

  pub cell_is : e.raw.cell ≡ c
  cell_is = ap (λ (t : EntryData). t.raw.cell) found.1 ∙ cell_of_raw z.whole c

  pub sum_of : IsSumOf z.whole.gravity.setup z.whole.bodies e.raw
  sum_of = record {
    bodies = a.whole.bodies;
    kinds = a.softenings.kinds;
    softenings = a.softenings.softenings;
    node = ap (is_node (positions_of z.whole.bodies)) cell_is ∙ found.0;
    is = ap (λ (t : EntryData). t.raw) found.1 ∙ ap (λ d. raw_of z.whole.gravity.setup.soft d (members z.whole.bodies d)) (sym cell_is);
  }

  pub of_node : IsOfNode e.raw
  of_node = record { setup = z.whole.gravity.setup; all = z.whole.bodies; sums = sum_of }

  below_are : (n : ℕ) → numbers_in n ≡ e.children → TellsBelow c n z
  unfolding is_node
  below_are n f = λ l k u.
      let here : numbers_in n ≡ filter (λ k. is_node (positions_of z.whole.bodies) (child c k)) (below 8) =
      f ∙ ap (λ (t : EntryData). t.children) found.1 ∙ ap (λ b. cond b (filter (λ k. is_node (positions_of z.whole.bodies) (child c k)) (below 8)) []) (lt-ltb c.level 32 l) in
      sym (stands (λ k. eqb (bit_at n k) 1) 8 k u) ∙ ap (list_any (λ j. eqb j k)) here ∙ stands (λ k. is_node (positions_of z.whole.bodies) (child c k)) 8 k u

  -- as the code tells it
  pub known_some : (k : Known) → ((s : SetupData) (B : List BodyData) → IsSumOf s B e.raw → k.moments ≡ Some (moments s B e.raw.cell)) → numbers_in k.below ≡ e.children → IsKnown z c k
  known_some k f g = record {
    moments = ap (λ o. held_of o) (f z.whole.gravity.setup z.whole.bodies sum_of) ∙ ap (moments z.whole.gravity.setup z.whole.bodies) cell_is;
    below = below_are k.below g;
  }
    where
      held_of : Option MomentsData → MomentsData
      held_of None = empty_moments
      held_of (Some m) = m

-- ---- nothing is answered

filter_none : (c : CellData) (xs : List BodyData) → list_any (contains c) (positions_of xs) ≡ false → members xs c ≡ []
filter_none c [] h = refl
filter_none c (x ∷ xs) h = by (contains c x.motion.pos) refl h (λ k. filter_none c xs k)
  where
    by : (b : Bool) → contains c x.motion.pos ≡ b → (contains c x.motion.pos || list_any (contains c) (positions_of xs)) ≡ false → (list_any (contains c) (positions_of xs) ≡ false → members xs c ≡ []) → members (x ∷ xs) c ≡ []
    by true e k rest = absurd (false≢true (sym k ∙ ap (λ b. b || list_any (contains c) (positions_of xs)) e))
    by false e k rest = ap (λ b. cond b (x ∷ members xs c) (members xs c)) e ∙ rest (ap (λ b. b || list_any (contains c) (positions_of xs)) (sym e) ∙ k)

filter_empty : (t : Position → Bool) (ps : List Position) → list_any t ps ≡ false → filter t ps ≡ []
filter_empty t [] h = refl
filter_empty t (p ∷ ps) h = by (t p) refl h (λ k. filter_empty t ps k)
  where
    by : (b : Bool) → t p ≡ b → (t p || list_any t ps) ≡ false → (list_any t ps ≡ false → filter t ps ≡ []) → filter t (p ∷ ps) ≡ []
    by true e k rest = absurd (false≢true (sym k ∙ ap (λ b. b || list_any t ps) e))
    by false e k rest = ap (λ b. cond b (p ∷ filter t ps) (filter t ps)) e ∙ rest (ap (λ b. b || list_any t ps) (sym e) ∙ k)

module _ (z : Seat) (c : CellData) (a : Answers z c None) where
  none : is_node (positions_of z.whole.bodies) c ≡ false
  none = no_node z.whole c (is_node (positions_of z.whole.bodies) c) refl a.is

  pub at_root : c ≡ root_cell
  at_root = (same_cell-exact c root_cell).0 (ap (λ b. b || same_cell c root_cell) (sym none) ∙ a.standing)

  no_members : members z.whole.bodies c ≡ []
  unfolding is_node
  no_members = filter_none c z.whole.bodies none

  no_positions : filter (contains c) (positions_of z.whole.bodies) ≡ []
  unfolding is_node
  no_positions = filter_empty (contains c) (positions_of z.whole.bodies) none

  empty : empty_moments ≡ moments_of z c
  unfolding moments is_leaf
  empty = sym (λ i. record {
    cell = at_root i;
    leaf = at_one_place (no_positions i);
    mass = mass_of (no_members i);
    centre = centre_of (no_members i);
    quad = quad_of (centre_of (no_members i)) (no_members i);
    eps = greatest_soft z.whole.gravity.setup (no_members i);
  })

  no_child : c.level < 32 → (k : ℕ) → k < 8 → (b : Bool) → has_child z c k ≡ b → b ≡ false
  unfolding is_node
  no_child l k u true e =
      let p : Witness (contains (child c k)) (opening z.whole).positions = any-witness (contains (child c k)) (opening z.whole).positions e in
      absurd (false≢true (sym none ∙ any-among (contains c) p.it (opening z.whole).positions p.«in» (child_within c k p.it l u p.passes)))
  no_child l k u false e = refl

  -- as the code tells it
  pub known_none : (k : Known) → k ≡ record { moments = None; below = 0 } → IsKnown z c k
  known_none k e = subst (IsKnown z c) (sym e) (record {
    moments = empty;
    below = λ l k u. ap (λ n. eqb n 1) (bit_at-zero k) ∙ sym (no_child l k u (has_child z c k) refl);
  })
