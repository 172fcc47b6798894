-- The nodes of one body among those of all.
use Rattle.std.proofs.Common.{◌≡◌, ℕ, ◌+◌, ◌*◌, ◌/◌, ◌%◌, ◌<◌, ◌≤◌, List, length, take, drop, get_or, [], ◌∷◌, ◌++◌, inl, inr, ap, subst, ◌∙◌, arith, length-drop, length-take-le}
use Rattle.std.proofs.lemmas.Bool.{cases_lt}
use Rattle.std.proofs.lemmas.List.{get_or-take, get_or-drop, get_or_append_left, get_or_push, length_push}
use Rattle.nbody_model.specs.Bodies.{BodyData}
use Rattle.nbody_model.specs.Setups.{SetupData}
use Rattle.force_field.specs.declared.nodes.Node.{Node}
use Rattle.force_field.specs.Around.{IsNodeAround, AreNodesAround, AreNodesOf}

pub part_of_all : (s : SetupData) (B : List BodyData) (b : BodyData) (i n m : ℕ) (nodes : List Node) → m ≡ 33 * i → n ≡ 33 → 33 * i + 33 ≤ length nodes → AreNodesOf s B nodes → AreNodesAround s B (get_or B i b) (take n (drop m nodes))
part_of_all s B b i n m nodes at many within all =
    let long : length (take n (drop m nodes)) ≡ n = length-take-le n (drop m nodes) (omega (arith, length-drop m nodes, at, many, within)) in
    record {
      all = long ∙ many;
      each = λ l lt d.
          let e : get_or (take n (drop m nodes)) l d ≡ get_or nodes (33 * i + l) d =
          get_or-take n (drop m nodes) l d (omega (arith, lt, many)) ∙ get_or-drop m nodes l d ∙ ap (λ t. get_or nodes t d) (omega (arith, at)) in
          rw e (all.each i l (omega (arith, within, all.all)) lt b d);
    }

-- what the nodes are that are made so far
pub record AreMade (s : SetupData) (B : List BodyData) (k : ℕ) (nodes : List Node) : Type 0 where
  pub all : length nodes ≡ k
  pub each : (m : ℕ) → m < k → (b : BodyData) (d : Node) → IsNodeAround s B (get_or B (m / 33) b) (m % 33) (get_or nodes m d)

pub more_made : (s : SetupData) (B : List BodyData) (k : ℕ) (nodes : List Node) (n : Node) → AreMade s B k nodes → ((b : BodyData) → IsNodeAround s B (get_or B (k / 33) b) (k % 33) n) → AreMade s B (k + 1) (nodes ++ n ∷ [])
more_made s B k nodes n made next = record {
  all = length_push nodes n ∙ ap (λ t. t + 1) made.all;
  each = λ m lt b d. elim (cases_lt m k) [
    | inl low ↦ rw (get_or_append_left nodes (n ∷ []) d m (omega (arith, low, made.all))) (made.each m low b d)
    | inr high ↦ (let e : m ≡ k = omega (arith, lt, high) in rw (e, get_or_push nodes n d k made.all) (next b))
  ];
}

pub all_made : (s : SetupData) (B : List BodyData) (k : ℕ) (nodes : List Node) → k ≡ 33 * length B → AreMade s B k nodes → AreNodesOf s B nodes
all_made s B k nodes e made = record {
  all = made.all ∙ e;
  each = λ i l lt low b d.
      let place : (33 * i + l) / 33 ≡ i = omega (arith, low) in
      let level : (33 * i + l) % 33 ≡ l = omega (arith, low) in
      let h : IsNodeAround s B (get_or B ((33 * i + l) / 33) b) ((33 * i + l) % 33) (get_or nodes (33 * i + l) d) = made.each (33 * i + l) (omega (arith, lt, low, e)) b d in
      subst (λ t. IsNodeAround s B (get_or B i b) t (get_or nodes (33 * i + l) d)) level (subst (λ t. IsNodeAround s B (get_or B t b) ((33 * i + l) % 33) (get_or nodes (33 * i + l) d)) place h);
}
