-- Interactions and visited pairs are pairs of nodes with nothing in common, and none stands twice.
use Rattle.std.proofs.Common.{◌≡◌, ◌≤◌, Bool, true, false, cond, List, [], ◌∷◌, map, refl, ap, sym, ◌∙◌, arith, inl, inr}
use Rattle.std.specs.List.{list_any, flat_map, count_by, AllByRecursion}
use Rattle.std.proofs.lemmas.Bool.{false≢true}
use Rattle.cell_space.specs.Cells.{Position, CellData, contains, before, same_place}
use Rattle.cell_space.proofs.Orders.{Placed, Same, Earlier, Later, placed}
use Rattle.nbody_model.specs.Nodes.{is_node}
use Rattle.nbody_model.specs.Covers.{Opening, orient, same_pair, distinct, of_two, over_two, chain, cover, interactions, visited}
use Rattle.model_laws.specs.Laws.{IsSound, IsPairOfNodes, ArePairsOfNodes}
use Rattle.model_laws.proofs.Among.{Among, each-map, each-flat_map, any-among}
use Rattle.model_laws.proofs.Counts.{times-distinct}
use Rattle.model_laws.proofs.Turned.{same_pair-exact}
use Rattle.model_laws.proofs.ChainFacts.{IsOnChain, chain-on}
use Rattle.model_laws.proofs.Walk.{box_of, cover-on}

-- what holds of each element of a list holds of each distinct one
distinct_step : {X : Type 0} (P : X → Type 0) (x : X) (ys : List X) (b : Bool) → P x → AllByRecursion P ys → AllByRecursion P (cond b ys (x ∷ ys))
distinct_step P x ys true h a = a
distinct_step P x ys false h a = (h, a)

each-distinct : {X : Type 0} (same : X → X → Bool) (P : X → Type 0) (xs : List X) → AllByRecursion P xs → AllByRecursion P (distinct same xs)
each-distinct same P [] a = tt
each-distinct same P (x ∷ xs) a = distinct_step P x (distinct same xs) (list_any (same x) xs) a.0 (each-distinct same P xs a.1)

pub all_among : {X : Type 0} (P : X → Type 0) (xs : List X) → ((x : X) → Among x xs → P x) → AllByRecursion P xs
all_among P [] h = tt
all_among P (x ∷ xs) h = (h x (inl refl), all_among P xs (λ y k. h y (inr k)))

-- and what holds of each pair that is listed for two bodies
two_cases : (P : CellData × CellData → Type 0) (xs : List (CellData × CellData)) (b : Bool) → (b ≡ false → AllByRecursion P xs) → AllByRecursion P (cond b [] xs)
two_cases P xs true h = tt
two_cases P xs false h = h refl

each-two : (P : CellData × CellData → Type 0) (f : Position → Position → List (CellData × CellData)) (ps : List Position) → ((p q : Position) → Among p ps → Among q ps → same_place p q ≡ false → AllByRecursion P (f p q)) → AllByRecursion P (over_two f ps)
each-two P f ps h =
    each-flat_map (λ p. Among p ps) P (λ p. flat_map (of_two f p) ps)
    (λ p u. each-flat_map (λ q. Among q ps) P (of_two f p) (λ q v. two_cases P (f p q) (same_place p q) (h p q u v)) ps (all_among (λ q. Among q ps) ps (λ q k. k)))
    ps (all_among (λ p. Among p ps) ps (λ p k. k))

-- a pair on a chain of two bodies, turned
turned_pair : (o : Opening) (p q : Position) → Among p o.positions → Among q o.positions → (x : CellData × CellData) (b : Bool) → before x.1 x.0 ≡ b → IsOnChain p q x → Placed x.0 x.1 → IsPairOfNodes o (cond b (x.1, x.0) x)
unfolding is_node
turned_pair o p q in_p in_q x true e c (Same h) = absurd (c.apart p c.first (ap (λ t. contains t p) (sym h) ∙ c.first))
turned_pair o p q in_p in_q x true e c (Earlier h k) = absurd (false≢true (sym k ∙ e))
turned_pair o p q in_p in_q x true e c (Later h k) = record {
  first = any-among (contains x.1) q o.positions in_q c.second;
  second = any-among (contains x.0) p o.positions in_p c.first;
  apart = record { apart = λ t u v. c.apart t v u };
  turned = h;
}
turned_pair o p q in_p in_q x false e c w = record {
  first = any-among (contains x.0) p o.positions in_p c.first;
  second = any-among (contains x.1) q o.positions in_q c.second;
  apart = record { apart = c.apart };
  turned = e;
}

pair_of : (o : Opening) (p q : Position) → Among p o.positions → Among q o.positions → (x : CellData × CellData) → IsOnChain p q x → IsPairOfNodes o (orient x)
pair_of o p q in_p in_q x c = turned_pair o p q in_p in_q x (before x.1 x.0) refl c (placed x.0 x.1)

once-from : (zs : List (CellData × CellData)) (z : CellData × CellData) → count_by (λ x. same_pair x z) (distinct same_pair zs) ≤ 1
once-from zs z = omega (arith, times-distinct same_pair same_pair-exact z zs, cond_le (list_any (same_pair z) zs))
  where
    cond_le : (b : Bool) → cond b 1 0 ≤ 1
    cond_le true = omega arith
    cond_le false = omega arith

pub pairs_of_nodes : (o : Opening) → IsSound o → ArePairsOfNodes o
unfolding interactions visited
pairs_of_nodes o s = record {
  interactions_each = each-distinct same_pair (IsPairOfNodes o) (over_two (λ p q. orient (cover o p q) ∷ []) o.positions)
      (each-two (IsPairOfNodes o) (λ p q. orient (cover o p q) ∷ []) o.positions (λ p q u v d. (pair_of o p q u v (cover o p q) (cover-on o p q (box_of o s p u) (box_of o s q v) d), tt)));
  interactions_once = once-from (over_two (λ p q. orient (cover o p q) ∷ []) o.positions);
  visited_each = each-distinct same_pair (IsPairOfNodes o) (over_two (λ p q. map orient (chain o p q)) o.positions)
      (each-two (IsPairOfNodes o) (λ p q. map orient (chain o p q)) o.positions (λ p q u v d. each-map (IsOnChain p q) (IsPairOfNodes o) orient (pair_of o p q u v) (chain o p q) (chain-on o p q (box_of o s p u) (box_of o s q v))));
  visited_once = once-from (over_two (λ p q. map orient (chain o p q)) o.positions);
}
