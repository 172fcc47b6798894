-- What a walk does at a pair, by what the law says of it.
use Rattle.std.proofs.Common.{◌≡◌, ◌≢◌, ℕ, ◌+◌, ◌-◌, ◌^◌, Bool, true, false, cond, not, ◌&&◌, List, [], refl, ap, sym, subst, ◌∙◌, arith, inl, inr, append-nil}
use Rattle.std.proofs.lemmas.Bool.{false≢true}
use Rattle.fixed_point.specs.declared.V3.{V3}
use Rattle.fixed_point.specs.Vectors.{IsAtMost, IsBelow}
use Rattle.cell_space.specs.Cells.{CellData, AreDisjoint, before}
use Rattle.cell_space.proofs.Cells.{same_cell-exact}
use Rattle.cell_space.proofs.Orders.{before-itself, before-trans}
use Rattle.nbody_model.specs.Covers.{leaf, final, orient}
use Rattle.model_laws.specs.InOrder.{is_visit, is_find}
use Rattle.model_laws.proofs.Same.{final_fair}
use Rattle.octree_build.specs.Trees.{TreeData, IsTree}
use Rattle.dual_walk.specs.declared.pairs.Pair.{Pair}
use Rattle.dual_walk.specs.Places.{moved}
use Rattle.dual_walk.specs.Courses.{Course, opening_by, is_asked, cell_in}
use Rattle.dual_walk.specs.Steps.{pair, cells_at, asked_weight, IsListed, IsInOrder, Pushes, Looks}
use Rattle.dual_walk.specs.Verdicts.{IsDropped, IsTaken}
use Rattle.dual_walk.proofs.Bridge.{IsTurned, sound}
use Rattle.dual_walk.proofs.Opened.{apart_from, differ, given_final, opens_none}

find_false : (w : Course) (y : CellData × CellData) (f : Bool) → is_find (opening_by w) y ≡ false → (is_find (opening_by w) y && f) ≡ false
find_false w y f e = ap (λ b. b && f) e

module _ (w : Course) (t : TreeData) (tree : IsTree w.setup w.bodies t) (x : Pair) (h : IsListed w t.nodes x) where
  abbrev at : ℕ → CellData
  at k = cell_in t.nodes k

  abbrev both : CellData × CellData
  both = cells_at t.nodes x

  -- a node and itself
  same_visit : x.a ≡ x.b → is_visit both ≡ false
  same_visit e = ap not ((same_cell-exact (at x.a) (at x.b)).1 (ap at e))

  pub same_asked : x.a ≡ x.b → asked_weight w both ≡ 0
  same_asked e = ap {B = ℕ} (λ b. cond (b && is_asked w both) 1 0) (same_visit e)

  pub same_looks : (old new : List Pair) (places : List V3) → x.a ≡ x.b → Pushes w t.nodes x old new → Looks w t.nodes x old new places places 0
  same_looks old new places e p = record {
    pushes = p;
    taken = inr (record { is = (λ i. (same_visit e i && final (opening_by w) (at x.a) (at x.b)) && w.mine (orient both).0); same = refl; counted = refl });
  }

  module _ (fair : IsTurned w) (ne : x.a ≢ x.b) (first : Pair) (e : first ≡ cond (before (at x.b) (at x.a)) (pair x.b x.a) x) where
    turned_cells : cells_at t.nodes first ≡ orient both
    turned_cells = ap (cells_at t.nodes) e ∙ by (before (at x.b) (at x.a))
      where
        by : (b : Bool) → cells_at t.nodes (cond b (pair x.b x.a) x) ≡ cond b (both.1, both.0) both
        by true = refl
        by false = refl

    strict : (b : Bool) → before (at x.b) (at x.a) ≡ b → before (at (cond b (pair x.b x.a) x).b) (at (cond b (pair x.b x.a) x).a) ≡ false
    strict false q = q
    strict true q = no (before (at x.a) (at x.b)) refl
      where
        no : (b : Bool) → before (at x.a) (at x.b) ≡ b → b ≡ false
        no false r = refl
        no true r = absurd (false≢true (sym (before-itself (at x.a)) ∙ before-trans (at x.a) (at x.b) (at x.a) r q))

    flipped : (a b : CellData) → AreDisjoint a b → AreDisjoint b a
    flipped a b d = record { apart = λ p u v. d.apart p v u }

    ordered : (b : Bool) → before (at x.b) (at x.a) ≡ b → IsInOrder t.nodes (cond b (pair x.b x.a) x)
    ordered true q = record { first = h.second; second = h.first; apart = flipped (at x.a) (at x.b) (apart_from w t tree x h ne); turned = strict true q }
    ordered false q = record { first = h.first; second = h.second; apart = apart_from w t tree x h ne; turned = strict false q }

    pub in_order : IsInOrder t.nodes first
    in_order = subst (IsInOrder t.nodes) (sym e) (ordered (before (at x.b) (at x.a)) refl)

    pub first_differ : first.a ≢ first.b
    first_differ q = by (before (at x.b) (at x.a)) (ap (λ y. y.a) (sym e) ∙ q ∙ ap (λ y. y.b) e)
      where
        by : (b : Bool) → (cond b (pair x.b x.a) x).a ≡ (cond b (pair x.b x.a) x).b → ⊥
        by true r = ne (sym r)
        by false r = ne r

    visit : is_visit both ≡ true
    visit = ap not (differ w t tree x h ne)

    and_turned : (a b : Bool) → (a && b) ≡ (b && a)
    and_turned true true = refl
    and_turned true false = refl
    and_turned false true = refl
    and_turned false false = refl

    asked_same : is_asked w (cells_at t.nodes first) ≡ is_asked w both
    asked_same = ap (is_asked w) turned_cells ∙ by (before (at x.b) (at x.a))
      where
        by : (b : Bool) → is_asked w (cond b (both.1, both.0) both) ≡ is_asked w both
        by true = ap not (and_turned (leaf (opening_by w) (at x.b)) (leaf (opening_by w) (at x.a)))
        by false = refl

    -- how often the law is asked
    pub first_asked : (n m : ℕ) → m ≡ n + cond (is_asked w (cells_at t.nodes first)) 1 0 → m ≡ n + asked_weight w both
    first_asked n m q = q ∙ ap {B = ℕ} (λ b. n + cond b 1 0) asked_same ∙ ap {B = ℕ} (λ b. n + cond (b && is_asked w both) 1 0) (sym visit)

    final_same : final (opening_by w) (at first.a) (at first.b) ≡ final (opening_by w) (at x.a) (at x.b)
    final_same = (λ i. final (opening_by w) (turned_cells i).0 (turned_cells i).1) ∙ by (before (at x.b) (at x.a))
      where
        by : (b : Bool) → final (opening_by w) (cond b (both.1, both.0) both).0 (cond b (both.1, both.0) both).1 ≡ final (opening_by w) (at x.a) (at x.b)
        by true = final_fair (opening_by w) (sound w t tree fair).fair (at x.b) (at x.a)
        by false = refl

    pub still_open : final (opening_by w) (at first.a) (at first.b) ≡ false → final (opening_by w) (at x.a) (at x.b) ≡ false
    still_open q = sym final_same ∙ q

    -- two nodes that are opened
    pub opens_looks : (old new : List Pair) (places : List V3) → final (opening_by w) (at first.a) (at first.b) ≡ false → Pushes w t.nodes x old new → Looks w t.nodes x old new places places 0
    opens_looks old new places q p = record {
      pushes = p;
      taken = inr (record { is = (λ i. (visit i && still_open q i) && w.mine (orient both).0); same = refl; counted = refl });
    }

    nothing : (old : List Pair) → final (opening_by w) (at first.a) (at first.b) ≡ true → Pushes w t.nodes x old old
    nothing old q = record { more = []; opens = opens_none w t tree x (given_final w both (differ w t tree x h ne) (sym final_same ∙ q)); list = sym (append-nil old) }

    whole_find : final (opening_by w) (at first.a) (at first.b) ≡ true → is_find (opening_by w) both ≡ true
    whole_find q = λ i. visit i && (sym final_same ∙ q) i

    mine_same : w.mine (at first.a) ≡ w.mine (orient both).0
    mine_same = ap (λ y. w.mine y.0) turned_cells

    -- two nodes whose interaction is another's
    pub drops_looks : (old : List Pair) (places : List V3) → IsDropped w t.nodes first → Looks w t.nodes x old old places places 0
    drops_looks old places d = record {
      pushes = nothing old d.whole;
      taken = inr (record { is = (λ i. whole_find d.whole i && (sym mine_same ∙ d.other) i); same = refl; counted = refl });
    }

    -- two nodes whose interaction is mine
    pub takes_looks : (old : List Pair) (places new : List V3) (f : V3) → IsTaken w t.nodes first f → new ≡ moved places first.a first.b f → Looks w t.nodes x old old places new 1
    takes_looks old places new f k q = record {
      pushes = nothing old k.whole;
      taken = inl (record {
        is = (λ i. whole_find k.whole i && (sym mine_same ∙ k.mine) i);
        turned = first;
        cells = turned_cells;
        first = in_order.first;
        second = in_order.second;
        differ = first_differ;
        small = subst (IsAtMost (2 ^ 87 - 1)) k.is k.small;
        moved = q ∙ ap (moved places first.a first.b) k.is;
        counted = refl;
      });
    }

    -- its force may be added
    pub small_force : (f : V3) → IsTaken w t.nodes first f → IsBelow (2 ^ 112) f
    small_force f k = record { on_x = omega (arith, k.small.on_x); on_y = omega (arith, k.small.on_y); on_z = omega (arith, k.small.on_z) }
