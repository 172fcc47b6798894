-- Sums by ascending keys, looked up.
use Rattle.std.proofs.Common.{◌≡◌, ℕ, ◌<◌, ◌≤◌, Bool, true, false, cond, eqb, List, [], ◌∷◌, length, get_or, zero, suc, refl, ap, ◌∙◌, sym, arith, ◌⊎◌, inl, inr}
use Rattle.std.specs.List.{filter, AllByRecursion}
use Rattle.std.proofs.lemmas.Bool.{cases_lt, eqb-true, eq-eqb}
use Rattle.fixed_point.specs.Vectors.{origin, sum_of}
use Rattle.rank_exchange.specs.declared.keyed.Keyed.{Keyed}
use Rattle.rank_exchange.specs.Keyed.{Climbs, keys_in, sum_at}
use Rattle.rank_exchange.specs.Handed.{IsPlace}
use Rattle.rank_exchange.proofs.AddedUp.{plus_origin}

behind : (k : ℕ) (es : List Keyed) → AllByRecursion (λ j. k < j) (keys_in es) → (i : ℕ) (d : Keyed) → i < length es → k < (get_or es i d).key
behind k [] a i d h = absurd (omega (arith, h))
behind k (e ∷ es) a zero d h = a.0
behind k (e ∷ es) a (suc i) d h = behind k es a.1 i d (omega (arith, h))

-- keys ascend with their places
pub climbs_at : (es : List Keyed) → Climbs (keys_in es) → (i j : ℕ) (d : Keyed) → i ≤ j → j < length es → (get_or es i d).key ≤ (get_or es j d).key
climbs_at [] a i j d h l = absurd (omega (arith, l))
climbs_at (e ∷ es) a zero zero d h l = omega arith
climbs_at (e ∷ es) a zero (suc j) d h l = let k : e.key < (get_or es j d).key = behind e.key es a.0 j d (omega (arith, l)) in omega (arith, k)
climbs_at (e ∷ es) a (suc i) zero d h l = absurd (omega (arith, h))
climbs_at (e ∷ es) a (suc i) (suc j) d h l = climbs_at es a.1 i j d (omega (arith, h)) (omega (arith, l))

pub no_key : (es : List Keyed) (key : ℕ) → ((i : ℕ) (d : Keyed) → i < length es → (get_or es i d).key ≡ key → ⊥) → filter (λ (e : Keyed). eqb key e.key) es ≡ []
no_key [] key h = refl
no_key (e ∷ es) key h = by (eqb key e.key) refl (no_key es key (λ i d l. h (suc i) d (omega (arith, l))))
  where
    by : (b : Bool) → eqb key e.key ≡ b → filter (λ (e : Keyed). eqb key e.key) es ≡ [] → cond b (e ∷ filter (λ (e : Keyed). eqb key e.key) es) (filter (λ (e : Keyed). eqb key e.key) es) ≡ []
    by true u rest = absurd (h 0 e (omega arith) (sym (eqb-true key e.key u)))
    by false u rest = rest

pub one_key : (es : List Keyed) → Climbs (keys_in es) → (i key : ℕ) (d : Keyed) → i < length es → (get_or es i d).key ≡ key → sum_at key es ≡ (get_or es i d).sum
one_key [] a i key d l e = absurd (omega (arith, l))
one_key (x ∷ es) a zero key d l e =
    let none : filter (λ (y : Keyed). eqb key y.key) es ≡ [] = no_key es key (λ j f m u. let k : x.key < (get_or es j f).key = behind x.key es a.0 j f m in omega (arith, k, u, e)) in
    ap (λ b. sum_of (λ (y : Keyed). y.sum) (cond b (x ∷ filter (λ (y : Keyed). eqb key y.key) es) (filter (λ (y : Keyed). eqb key y.key) es))) (eq-eqb key x.key (sym e))
    ∙ ap (λ t. sum_of (λ (y : Keyed). y.sum) (x ∷ t)) none
    ∙ plus_origin x.sum
one_key (x ∷ es) a (suc i) key d l e =
    let k : x.key < (get_or es i d).key = behind x.key es a.0 i d (omega (arith, l)) in
    ap (λ b. sum_of (λ (y : Keyed). y.sum) (cond b (x ∷ filter (λ (y : Keyed). eqb key y.key) es) (filter (λ (y : Keyed). eqb key y.key) es))) (other (eqb key x.key) refl k)
    ∙ one_key es a.1 i key d (omega (arith, l)) e
  where
    other : (b : Bool) → eqb key x.key ≡ b → x.key < (get_or es i d).key → b ≡ false
    other true u k = absurd (omega (arith, eqb-true key x.key u, k, e))
    other false u k = refl

-- where no key at a place is the key, nothing stands at it
pub not_there : (es : List Keyed) (key at : ℕ) → Climbs (keys_in es) → IsPlace es key at → ((d : Keyed) → at < length es → (get_or es at d).key ≡ key → ⊥) → sum_at key es ≡ origin
not_there es key at a p n = ap (sum_of (λ (e : Keyed). e.sum)) (no_key es key (λ i d l u. by i d l u))
  where
    by : (i : ℕ) (d : Keyed) → i < length es → (get_or es i d).key ≡ key → ⊥
    by i d l u = cases (cases_lt i at)
      where
        cases : (i < at) ⊎ (at ≤ i) → ⊥
        cases (inl k) = let b : (get_or es i d).key < key = p.before i d k in omega (arith, b, u)
        cases (inr k) =
            let m : (get_or es at d).key ≤ (get_or es i d).key = climbs_at es a at i d k l in
            let f : key ≤ (get_or es at d).key = p.«from» at d (omega arith) (omega (arith, k, l)) in
            n d (omega (arith, k, l)) (omega (arith, m, f, u))
