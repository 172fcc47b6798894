-- A child's sums from the corner of its parent, and the moments of sums.
use Rattle.std.proofs.Common.{◌≡◌, ℕ, true, List, [], ◌∷◌, refl, ap, sym, ◌∙◌, subst, arith, inl}
use Rattle.std.specs.List.Sorted.{IsPermutation}
use Rattle.std.proofs.lemmas.List.Sorted.{sum_by-IsPermutation, All-permutation, length_permutation}
use Rattle.std.proofs.lemmas.List.Elements.{recursion_from_All, All-from_recursion}
use Rattle.cell_space.specs.Cells.{CellData, InBox, contains, place}
use Rattle.nbody_model.specs.Bodies.{BodyData}
use Rattle.nbody_model.specs.Setups.{SetupData}
use Rattle.nbody_model.specs.Nodes.{positions_of, members, is_node}
use Rattle.model_laws.proofs.Among.{Among, Witness, any-witness, among-filter, among-kept, each-among}
use Rattle.model_laws.proofs.Cancel.{BodyAt, body_at}
use Rattle.node_moments.specs.Sums.{RawData, raw_of}
use Rattle.node_moments.specs.Conditions.{IsSumOf, IsOfNode}
use Rattle.node_moments.proofs.Order.{sums_free}
use Rattle.node_moments.proofs.Within.{Spans, spans_within}
use Rattle.octree_build.specs.Trees.{IsOver}
use Rattle.octree_build.specs.Sums.{AreLimited, IsChildSum, sum_in}
use Rattle.octree_build.proofs.Placed.{rises_along}
use Rattle.octree_build.proofs.Alike.{node_alike}
use Rattle.octree_build.proofs.Parts.{sum_cell}

-- bodies in the order of the curve keep the limits
pub limited : (soft : List ℕ) (B S : List BodyData) → IsOver soft B S → AreLimited S
limited soft B S o =
    let p : IsPermutation B S = o.along.permuted in
    record {
      rises = rises_along S o.along.ordered;
      in_box = recursion_from_All (λ b. InBox b.motion.pos) S (All-permutation (λ b. InBox b.motion.pos) B S p (All-from_recursion (λ b. InBox b.motion.pos) B o.bodies.in_box));
      few = omega (arith, length_permutation B S p, o.bodies.valid.few);
      light = omega (arith, sum_by-IsPermutation (λ b. b.mass) B S p, o.bodies.valid.light);
    }

pub sum_of : (s : SetupData) (B S : List BodyData) (r : RawData) (c : CellData) → IsOver s.soft B S → is_node (positions_of S) c ≡ true → r ≡ sum_in s.soft S c → IsSumOf s B r
sum_of s B S r c o n e =
    let at : r.cell ≡ c = sum_cell s.soft c (members S c) r e in
    record {
      bodies = o.bodies;
      kinds = o.kinds;
      softenings = o.softenings;
      node = ap (λ t. is_node (positions_of B) t) at ∙ node_alike c B S o.along.permuted ∙ n;
      is = e ∙ sym (sums_free s.soft B S o.along.permuted c c) ∙ ap (λ t. raw_of s.soft t (members B t)) (sym at);
    }

-- some setup with these softening lengths
abbrev pub setup_with : List ℕ → SetupData
setup_with soft = record { time_max = 0; low_bin = 1; top_bin = 1; theta = 0; eta = 1; gravity = 0; velocity_shift = 0; soft = soft }

module _ (soft : List ℕ) (S : List BodyData) (c d : CellData) (r : RawData) (h : IsChildSum soft S c d r) where
  abbrev whole : List BodyData
  whole = h.whole.whole

  pub seen_sum : IsSumOf (setup_with soft) whole r
  seen_sum = sum_of (setup_with soft) whole S r d h.whole.over h.node h.sum

  pub seen_node : IsOfNode r
  seen_node = record { setup = setup_with soft; all = whole; sums = seen_sum }

  spans : Spans soft d c (members S d)
  unfolding is_node
  spans = by (members S d) refl
    where
      w : Witness (contains d) (positions_of S)
      w = any-witness (contains d) (positions_of S) h.node

      b : BodyAt w.it S
      b = body_at w.it S w.«in»

      some : Among b.it (members S d)
      some = among-filter (λ b. contains d b.motion.pos) b.it S b.«in» (ap (contains d) b.at ∙ w.passes)

      each : (x : BodyData) → Among x (members S d) → contains c x.motion.pos ≡ true
      each x i = h.inside x.motion.pos (among-kept (λ b. contains d b.motion.pos) x S i).1

      box : (x : BodyData) → Among x (members S d) → InBox x.motion.pos
      box x i = each-among (λ b. InBox b.motion.pos) x S (limited soft whole S h.whole.over).in_box (among-kept (λ b. contains d b.motion.pos) x S i).0

      by : (ms : List BodyData) → members S d ≡ ms → Spans soft d c ms
      by [] e = absurd (subst (Among b.it) e some)
      by (m ∷ ms) e = spans_within soft d c m ms (box m (subst (Among m) (sym e) (inl refl))) (λ x i. each x (subst (Among x) (sym e) i))

  pub seen_low : contains c (place r.lo) ≡ true
  seen_low = ap (λ t. contains c (place t.lo)) h.sum ∙ spans.low

  pub seen_high : contains c (place r.hi) ≡ true
  seen_high = ap (λ t. contains c (place t.hi)) h.sum ∙ spans.high

  pub seen_is : (x : RawData) → x ≡ raw_of soft c (members whole r.cell) → x ≡ raw_of soft c (members S d)
  seen_is x e = e ∙ ap (λ t. raw_of soft c (members whole t)) (sum_cell soft d (members S d) r h.sum) ∙ sums_free soft whole S h.whole.over.along.permuted c d
