-- Leaves: no leaf contains two different places, and a cell of level 32 is a leaf.
use Rattle.std.proofs.Common.{◌≡◌, ◌<◌, ◌≤◌, Bool, true, false, ◌&&◌, List, [], ◌∷◌, refl, sym, ◌∙◌, ◌⊎◌, inl, inr}
use Rattle.std.specs.List.{filter, list_all}
use Rattle.std.proofs.lemmas.Bool.{false≢true, and_from, cases_lt}
use Rattle.cell_space.specs.Cells.{Position, CellData, contains, same_place}
use Rattle.cell_space.proofs.Cells.{same_place-exact, deepest_one}
use Rattle.nbody_model.specs.Nodes.{at_one_place, is_leaf, is_node}
use Rattle.nbody_model.specs.Covers.{Opening, leaf}
use Rattle.nbody_model.specs.Walks.{has_member}
use Rattle.model_laws.proofs.Among.{Among, among-filter, among-kept, among-all, any-among}

pub both_like : (r p q : Position) → same_place r p ≡ true → same_place r q ≡ true → same_place p q ≡ true
both_like r p q a b = (same_place-exact p q).1 (sym ((same_place-exact r p).0 a) ∙ (same_place-exact r q).0 b)

shared : (p q : Position) (xs : List Position) → at_one_place xs ≡ true → Among p xs → Among q xs → same_place p q ≡ true
shared p q [] e h k = absurd h
shared p q (r ∷ rs) e h k = both_like r p q (like p h) (like q k)
  where
    like : (t : Position) → (t ≡ r) ⊎ Among t rs → same_place r t ≡ true
    like t (inl u) = (same_place-exact r t).1 (sym u)
    like t (inr u) = among-all (same_place r) t rs e u

pub not_both : (a b : Bool) → (a ≡ true → b ≡ true → ⊥) → (a && b) ≡ false
not_both true true h = absurd (h refl refl)
not_both true false h = refl
not_both false b h = refl

-- no leaf contains two different places
pub leaf_apart : (o : Opening) (p q : Position) → Among p o.positions → Among q o.positions → same_place p q ≡ false → (c : CellData) → leaf o c ≡ true → (contains c p && contains c q) ≡ false
unfolding is_leaf
leaf_apart o p q in_p in_q differ c e = not_both (contains c p) (contains c q)
    (λ a b. false≢true (sym differ ∙ shared p q (filter (contains c) o.positions) e (among-filter (contains c) p o.positions in_p a) (among-filter (contains c) q o.positions in_q b)))

all_from : (t : Position → Bool) (xs : List Position) → ((x : Position) → Among x xs → t x ≡ true) → list_all t xs ≡ true
all_from t [] h = refl
all_from t (x ∷ xs) h = and_from (t x) (list_all t xs) (h x (inl refl)) (all_from t xs (λ y k. h y (inr k)))

pub one_place-from : (xs : List Position) → ((p q : Position) → Among p xs → Among q xs → same_place p q ≡ true) → at_one_place xs ≡ true
one_place-from [] h = refl
one_place-from (x ∷ xs) h = all_from (same_place x) xs (λ y k. h x y (inl refl) (inr k))

-- a cell of level 32 is a leaf
pub deep_leaf : (o : Opening) (c : CellData) → 32 ≤ c.level → leaf o c ≡ true
unfolding is_leaf
deep_leaf o c h = one_place-from (filter (contains c) o.positions) (λ p q a b. deepest_one c h p q (among-kept (contains c) p o.positions a).1 (among-kept (contains c) q o.positions b).1)

shallow_from : (o : Opening) (c : CellData) → leaf o c ≡ false → (c.level < 32) ⊎ (32 ≤ c.level) → c.level < 32
shallow_from o c e (inl h) = h
shallow_from o c e (inr h) = absurd (false≢true (sym e ∙ deep_leaf o c h))

-- so a cell that is no leaf has children
pub shallow : (o : Opening) (c : CellData) → leaf o c ≡ false → c.level < 32
shallow o c e = shallow_from o c e (cases_lt c.level 32)

pub no_member : (o : Opening) (p : Position) → Among p o.positions → (d : CellData) → has_member o d ≡ false → contains d p ≡ false
unfolding is_node
no_member o p h d none = no_case (contains d p) refl
  where
    no_case : (b : Bool) → contains d p ≡ b → b ≡ false
    no_case true e = absurd (false≢true (sym none ∙ any-among (contains d) p o.positions h e))
    no_case false e = refl
