-- The first member of a cell, and what its sums are of.
use Rattle.std.proofs.Common.{◌≡◌, ℕ, ◌+◌, ◌<◌, ◌≤◌, Bool, true, ◌==◌, List, [], ◌∷◌, ◌++◌, length, take, drop, get_or, ap, sym, ◌∙◌, arith, take-append-drop}
use Rattle.std.specs.List.{AllByRecursion}
use Rattle.std.proofs.lemmas.Bool.{cond-true}
use Rattle.std.proofs.lemmas.List.{get_or-map, length-map, drop_more, get_or_default}
use Rattle.std.proofs.lemmas.List.Elements.{filter-append}
use Rattle.std.proofs.lemmas.List.Folds.{list_any_at}
use Rattle.cell_space.specs.Cells.{CellData, contains, cell_at}
use Rattle.nbody_model.specs.Bodies.{BodyData}
use Rattle.nbody_model.specs.Setups.{SetupData, AreSoftenings}
use Rattle.nbody_model.specs.Nodes.{members, positions_of, is_node}
use Rattle.nbody_model.specs.Moments.{MomentsData, moments}
use Rattle.model_laws.specs.Laws.{AreBodies}
use Rattle.node_moments.specs.Sums.{RawData, raw_of}
use Rattle.node_moments.specs.Conditions.{IsSumOf}
use Rattle.model_laws.specs.Firsts.{leads, is_first}
use Rattle.force_field.specs.Around.{IsNodeAround}
use Rattle.force_field.proofs.Sums.{inside, raw-cell}

-- the first member that stands at the place k leads them all
members-from : (c : CellData) (B : List BodyData) (k : ℕ) (b : BodyData) → k < length B → b ≡ get_or B k b → contains c b.motion.pos ≡ true → inside c (take k B) ≡ [] → members B c ≡ b ∷ inside c (drop (k + 1) B)
members-from c B k b lt read there none =
    ap (inside c) (sym (take-append-drop k B))
    ∙ filter-append (λ b. contains c b.motion.pos) (take k B) (drop k B)
    ∙ ap (λ t. t ++ inside c (drop k B)) none
    ∙ ap (inside c) (drop_more B k b lt ∙ ap (λ t. t ∷ drop (k + 1) B) (sym read))
    ∙ cond-true (contains c b.motion.pos) (b ∷ inside c (drop (k + 1) B)) (inside c (drop (k + 1) B)) there

pub leader-is : (c : CellData) (B : List BodyData) (k : ℕ) (b j : BodyData) → k < length B → b ≡ get_or B k b → contains c (get_or B k b).motion.pos ≡ true → inside c (take k B) ≡ [] → (b.id == j.id) ≡ is_first B c j
leader-is c B k b j lt read there none = ap (λ ms. leads ms j) (sym (members-from c B k b lt read (ap (λ (b : BodyData). contains c b.motion.pos) read ∙ there) none))

-- a cell with a body is a node
pub node-of : (c : CellData) (B : List BodyData) (i : ℕ) (b : BodyData) → i < length B → contains c (get_or B i b).motion.pos ≡ true → is_node (positions_of B) c ≡ true
unfolding is_node
node-of c B i b lt there =
    list_any_at (contains c) (positions_of B) i b.motion.pos (omega (arith, lt, length-map B (λ (b : BodyData). b.motion.pos))) (ap (contains c) (get_or-map (λ (b : BodyData). b.motion.pos) B i b b.motion.pos lt) ∙ there)

-- the sums over its members
pub sums-are : (s : SetupData) (B : List BodyData) (r : RawData) (c : CellData) (soft : List ℕ) (i : ℕ) (b : BodyData) → soft ≡ s.soft → AreBodies B → AllByRecursion (λ b. b.kind ≤ 5) B → AreSoftenings s.soft → i < length B → contains c (get_or B i b).motion.pos ≡ true →
    r ≡ raw_of soft c (members B c) → IsSumOf s B r
sums-are s B r c soft i b set all kinds lengths lt there e =
    let same : r.cell ≡ c = raw-cell soft c (members B c) r e in
    record {
      bodies = all;
      kinds = kinds;
      softenings = lengths;
      node = ap (is_node (positions_of B)) same ∙ node-of c B i b lt there;
      is = e ∙ ap (λ t. raw_of t c (members B c)) set ∙ ap (λ t. raw_of s.soft t (members B t)) (sym same);
    }

-- all that a node around a body is, from the sums over its members and its first member
pub node-around : (s : SetupData) (B : List BodyData) (c : CellData) (soft : List ℕ) (r : RawData) (i k l : ℕ) (b j b2 : BodyData) (m : MomentsData) (f : Bool) → i < length B → k ≤ i → b ≡ get_or B i b → j ≡ get_or B k j → c ≡ cell_at l b.motion.pos →
    contains c (get_or B k j).motion.pos ≡ true → inside c (take k B) ≡ [] → r ≡ raw_of soft c (members B c) → m ≡ moments s B r.cell → b2 ≡ get_or B i b2 → f ≡ (j.id == b2.id) → (d : BodyData) → IsNodeAround s B (get_or B i d) l (record { moments = m; first = f })
node-around s B c soft r i k l b j b2 m f lt le read head at there none sums is again e d =
    let same : get_or B i d ≡ b = get_or_default B i d b lt ∙ sym read in
    rw same (record {
      moments_are = is ∙ ap (moments s B) (raw-cell soft c (members B c) r sums ∙ at);
      first_is = e ∙ ap (λ (t : BodyData). j.id == t.id) (again ∙ get_or_default B i b2 b lt ∙ sym read) ∙ leader-is c B k j b (omega (arith, lt, le)) head there none ∙ ap (λ t. is_first B t b) at;
    })
