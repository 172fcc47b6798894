-- Sets of children as bits.
use Rattle.std.proofs.Common.{◌≡◌, ℕ, ◌+◌, ◌*◌, ◌%◌, ◌^◌, ◌<◌, Bool, true, false, cond, eqb, ◌||◌, List, [], ◌∷◌, take, get_or, length, bit_or, w8, refl, ap, sym, ◌∙◌, arith, ◌⊎◌, inl, inr}
use Rattle.std.specs.Int.{bit_at}
use Rattle.std.specs.List.{filter, list_any}
use Rattle.std.proofs.Math.Bool.{or-false}
use Rattle.std.proofs.lemmas.Bool.{cases_eq, eq-eqb, ne_eqb, eqb-true, or_right, and_from, and_parts, lt-ltb, le-ltb}
use Rattle.std.proofs.lemmas.List.{take_more}
use Rattle.std.proofs.lemmas.Nat.Bits.{bit_at_set_same, bit_at_set_other}
use Rattle.cell_space.specs.Cells.{CellData, below, child, contains, digit}
use Rattle.cell_space.proofs.Cells.{both_equal, contains_child}
use Rattle.nbody_model.specs.Bodies.{BodyData}
use Rattle.nbody_model.specs.Nodes.{positions_of, members, is_node}
use Rattle.model_laws.proofs.Among.{Among, Witness, any-witness, any-among, any-append, among-kept, among-filter}
use Rattle.octree_build.proofs.Alike.{node_alike}
use Rattle.rank_laws.specs.Contents.{filled}
use Rattle.rank_laws.proofs.ByIds.{filter_on}
use Rattle.rank_entry_laws.proofs.OwnTree.{BodyIn, body_in, node_from}
use Rattle.rank_entry_laws.proofs.Given.{under_eight}
use Rattle.home_cells.specs.Entries.{numbers_in}

-- ---- one bit more

any_more : {X : Type 0} (t : X → Bool) (xs : List X) (i : ℕ) (d : X) → i < length xs → list_any t (take (i + 1) xs) ≡ (list_any t (take i xs) || t (get_or xs i d))
any_more t xs i d h = ap (list_any t) (take_more xs i d h) ∙ any-append t (take i xs) (get_or xs i d ∷ []) ∙ ap (λ b. list_any t (take i xs) || b) (or-false (t (get_or xs i d)))

or_true_right : (x : Bool) → (x || true) ≡ true
or_true_right true = refl
or_true_right false = refl

one_bit : (bits n k : ℕ) → n < 8 → eqb (bit_at (bit_or bits (1 * 2 ^ n % 2 ^ 8)) k) 1 ≡ (eqb (bit_at bits k) 1 || eqb n k)
one_bit bits n k h = by (cases_eq k n)
  where
    by : (k ≡ n) ⊎ (k ≡ n → ⊥) → eqb (bit_at (bit_or bits (1 * 2 ^ n % 2 ^ 8)) k) 1 ≡ (eqb (bit_at bits k) 1 || eqb n k)
    by (inl e) = eq-eqb (bit_at (bit_or bits (1 * 2 ^ n % 2 ^ 8)) k) 1 (ap (bit_at (bit_or bits (1 * 2 ^ n % 2 ^ 8))) e ∙ bit_at_set_same w8 bits n h) ∙ sym (or_right (eqb (bit_at bits k) 1) (eqb n k) (eq-eqb n k (sym e)))
    by (inr e) = ap (λ t. eqb t 1) (bit_at_set_other w8 bits n h k e) ∙ sym (ap (λ b. eqb (bit_at bits k) 1 || b) (ne_eqb n k (λ q. e (sym q))) ∙ or-false (eqb (bit_at bits k) 1))

pub bits_more : (ms : List BodyData) (level i bits n : ℕ) (d : BodyData) (k : ℕ) → i < length ms → k < 8 → n < 8 → n ≡ digit (get_or ms i d).motion.pos level → eqb (bit_at bits k) 1 ≡ list_any (λ b. eqb (digit b.motion.pos level) k) (take i ms) → eqb (bit_at (bit_or bits (1 * 2 ^ n % 2 ^ 8)) k) 1 ≡ list_any (λ b. eqb (digit b.motion.pos level) k) (take (i + 1) ms)
bits_more ms level i bits n d k h l m e rest =
    one_bit bits n k m
    ∙ (λ j. rest j || eqb (e j) k)
    ∙ sym (any_more (λ b. eqb (digit b.motion.pos level) k) ms i d h)

-- ---- the children of a cell by its members

kid_test : (S : List BodyData) (c : CellData) (k : ℕ) → c.level < 32 → k < 8 → list_any (λ b. eqb (digit b.motion.pos c.level) k) (members S c) ≡ is_node (positions_of S) (child c k)
kid_test S c k l h = both_equal (list_any (λ b. eqb (digit b.motion.pos c.level) k) (members S c)) (is_node (positions_of S) (child c k))
    (λ e.
    let v : Witness (λ b. eqb (digit b.motion.pos c.level) k) (members S c) = any-witness (λ b. eqb (digit b.motion.pos c.level) k) (members S c) e in
    let m : Among v.it S × (contains c v.it.motion.pos ≡ true) = among-kept (λ b. contains c b.motion.pos) v.it S v.«in» in
    node_from S (child c k) v.it m.0 (contains_child c k v.it.motion.pos l h ∙ and_from (eqb k (digit v.it.motion.pos c.level)) (contains c v.it.motion.pos) (eq-eqb k (digit v.it.motion.pos c.level) (sym (eqb-true (digit v.it.motion.pos c.level) k v.passes))) m.1))
    (λ e.
    let b : BodyIn S (child c k) = body_in S (child c k) e in
    let u : (eqb k (digit b.body.motion.pos c.level) ≡ true) × (contains c b.body.motion.pos ≡ true) = and_parts (eqb k (digit b.body.motion.pos c.level)) (contains c b.body.motion.pos) (sym (contains_child c k b.body.motion.pos l h) ∙ b.inside) in
    any-among (λ x. eqb (digit x.motion.pos c.level) k) b.body (members S c) (among-filter (λ x. contains c x.motion.pos) b.body S b.one u.1) (eq-eqb (digit b.body.motion.pos c.level) k (sym (eqb-true k (digit b.body.motion.pos c.level) u.0))))

module _ (B S : List BodyData) (c : CellData) where
  pub filled_none : c.level ≡ 32 → numbers_in 0 ≡ filled (positions_of B) c
  filled_none e = sym (ap (λ b. cond b (filter (λ k. is_node (positions_of B) (child c k)) (below 8)) []) (le-ltb c.level 32 (omega (arith, e))))

  pub filled_by : (bits : ℕ) → Rattle.std.specs.List.Sorted.IsPermutation B S → c.level < 32 → ((k : ℕ) → k < 8 → eqb (bit_at bits k) 1 ≡ list_any (λ b. eqb (digit b.motion.pos c.level) k) (members S c)) → numbers_in bits ≡ filled (positions_of B) c
  filled_by bits p l e =
      filter_on (λ k. eqb (bit_at bits k) 1) (λ k. is_node (positions_of B) (child c k)) (below 8) (λ k m. e k (under_eight k 8 m) ∙ kid_test S c k l (under_eight k 8 m) ∙ sym (node_alike (child c k) B S p))
      ∙ sym (ap (λ b. cond b (filter (λ k. is_node (positions_of B) (child c k)) (below 8)) []) (lt-ltb c.level 32 l))
