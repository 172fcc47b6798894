-- What the two closures of a law say of two nodes of a tree.
use Rattle.std.proofs.Common.{◌≡◌, ◌+◌, ◌^◌, ◌≤◌, Bool, true, false, ◌&&◌, ◌||◌, refl, ap, sym, subst, ◌∙◌, arith, inl, inr}
use Rattle.std.specs.Fn.{Shared, FnReturnsAtPair}
use Rattle.fixed_point.specs.declared.V3.{V3}
use Rattle.cell_space.specs.Cells.{CellData, AreDisjoint, before}
use Rattle.nbody_model.specs.Moments.{MomentsData, moments, mass_of}
use Rattle.nbody_model.specs.Nodes.{members}
use Rattle.nbody_model.specs.Covers.{leaf, final}
use Rattle.model_laws.proofs.PairLimits.{disjoint_masses}
use Rattle.octree_build.specs.Trees.{TreeData, IsTree}
use Rattle.pair_law.specs.Laws.{AreApart, AreInOrder, Two, MayAct, IsLaw}
use Rattle.dual_walk.specs.declared.pairs.Pair.{Pair}
use Rattle.dual_walk.specs.Courses.{Course, Follows, opening_by, force_by, moments_in, cell_in}
use Rattle.dual_walk.specs.Steps.{IsInOrder, cells_at}
use Rattle.dual_walk.specs.Verdicts.{IsTaken, AreWhole}

cell_of_moments : (w : Course) (c : CellData) → (moments_in w c).cell ≡ c
unfolding moments
cell_of_moments w c = refl

pub leaf_of_moments : (w : Course) (c : CellData) → (moments_in w c).leaf ≡ leaf (opening_by w) c
unfolding moments
leaf_of_moments w c = refl

mass_of_moments : (w : Course) (c : CellData) → (moments_in w c).mass ≡ mass_of (members w.bodies c)
unfolding moments
mass_of_moments w c = refl

force_is : (w : Course) (y : CellData × CellData) → w.law.force (moments_in w y.0) (moments_in w y.1) ≡ force_by w y
unfolding force_by
force_is w y = refl

module _ (w : Course) (t : TreeData) (tree : IsTree w.setup w.bodies t) (x : Pair) (h : IsInOrder t.nodes x) where
  abbrev pub left : MomentsData
  left = moments_in w (cell_in t.nodes x.a)

  abbrev pub right : MomentsData
  right = moments_in w (cell_in t.nodes x.b)

  light : left.mass + right.mass ≤ 2 ^ 32
  light =
      omega (
        arith,
        mass_of_moments w (cell_in t.nodes x.a),
        mass_of_moments w (cell_in t.nodes x.b),
        disjoint_masses w.bodies (cell_in t.nodes x.a) (cell_in t.nodes x.b) h.apart,
        tree.over.bodies.valid.light,
      )

  pub apart : AreApart left right
  apart = record {
    disjoint = subst (λ c. AreDisjoint c right.cell) (sym (cell_of_moments w (cell_in t.nodes x.a))) (subst (AreDisjoint (cell_in t.nodes x.a)) (sym (cell_of_moments w (cell_in t.nodes x.b))) h.apart);
    light = light;
  }

  pub in_order : AreInOrder left right
  in_order = record { apart = apart; turned = (λ i. before (cell_of_moments w (cell_in t.nodes x.b) i) (cell_of_moments w (cell_in t.nodes x.a) i)) ∙ h.turned }

  pub apart_at : (a b : MomentsData) → a ≡ left → b ≡ right → AreApart a b
  apart_at a b e u = subst (λ z. AreApart z b) (sym e) (subst (AreApart left) (sym u) apart)

  pub order_at : (a b : MomentsData) → a ≡ left → b ≡ right → AreInOrder a b
  order_at a b e u = subst (λ z. AreInOrder z b) (sym e) (subst (AreInOrder left) (sym u) in_order)

  or_false : (a b : Bool) → a ≡ false → (a || b) ≡ b
  or_false a b e = ap (λ z. z || b) e

  module _ {A F : Type 0} (asks : Shared A Two Bool) (pulls : Shared F Two V3) (accept : A) (force : F) (follows : Follows asks pulls accept force w) where
    -- what the first closure answers
    pub accept_at : (a b : MomentsData) (r : Bool) → a ≡ left → b ≡ right → FnReturnsAtPair asks accept a b r → (leaf (opening_by w) (cell_in t.nodes x.a) && leaf (opening_by w) (cell_in t.nodes x.b)) ≡ false →
        r ≡ final (opening_by w) (cell_in t.nodes x.a) (cell_in t.nodes x.b)
    accept_at a b r e u k open' =
        follows.answers.accepts k.first k.second r (apart_at k.first.now k.second.now (k.shows.0 ∙ e) (k.shows.1 ∙ u)) k.says.met
        ∙ (λ i. w.law.accept ((k.shows.0 ∙ e) i) ((k.shows.1 ∙ u) i))
        ∙ sym (or_false _ (w.law.accept left right) open')

    pub may_from : (a b : MomentsData) (r : Bool) → a ≡ left → b ≡ right → FnReturnsAtPair asks accept a b r → r ≡ true → MayAct asks accept left right
    may_from a b r e u k y = inr (subst (λ z. FnReturnsAtPair asks accept z right true) e (subst (λ z. FnReturnsAtPair asks accept a z true) u (subst (FnReturnsAtPair asks accept a b) y k)))

    pub may_leaves : (leaf (opening_by w) (cell_in t.nodes x.a) && leaf (opening_by w) (cell_in t.nodes x.b)) ≡ true → MayAct asks accept left right
    may_leaves e = inl ((λ i. leaf_of_moments w (cell_in t.nodes x.a) i && leaf_of_moments w (cell_in t.nodes x.b) i) ∙ e)

    pub law_again : (accept' : A) (force' : F) → accept' ≡ accept → force' ≡ force → IsLaw asks pulls accept' force'
    law_again accept' force' e u = subst (λ z. IsLaw asks pulls z force') (sym e) (subst (IsLaw asks pulls accept) (sym u) follows.law)

    pub may_again : (accept' : A) (a b : MomentsData) → accept' ≡ accept → a ≡ left → b ≡ right → MayAct asks accept left right → MayAct asks accept' a b
    may_again accept' a b e u v k = subst (λ z. MayAct asks z a b) (sym e) (subst (λ z. MayAct asks accept z b) (sym u) (subst (MayAct asks accept left) (sym v) k))

    -- what the second closure answers
    pub taken_at : (force' : F) (a b : MomentsData) (f : V3) → force' ≡ force → a ≡ left → b ≡ right → FnReturnsAtPair pulls force' a b f → AreWhole w t.nodes x → w.mine (cell_in t.nodes x.a) ≡ true → IsTaken w t.nodes x f
    taken_at force' a b f q e u k' whole mine =
        let k : FnReturnsAtPair pulls force a b f = subst (λ z. FnReturnsAtPair pulls z a b f) q k' in
        let o : AreInOrder k.first.now k.second.now = order_at k.first.now k.second.now (k.shows.0 ∙ e) (k.shows.1 ∙ u) in
        record {
          whole = whole;
          mine = mine;
          is = follows.answers.forces k.first k.second f o k.says.met ∙ (λ i. w.law.force ((k.shows.0 ∙ e) i) ((k.shows.1 ∙ u) i)) ∙ by;
          small = follows.law.small k.first k.second f o k.says.met;
        }
      where
        by : w.law.force left right ≡ force_by w (cells_at t.nodes x)
        by = force_is w (cells_at t.nodes x)
