-- Keys of shares, a rank and an id below it; tests over lists.
use Rattle.std.proofs.Common.{◌≡◌, ℕ, ◌+◌, ◌*◌, ◌/◌, ◌%◌, ◌^◌, ◌<◌, Bool, true, false, cond, eqb, ◌&&◌, ◌||◌, List, [], ◌∷◌, map, refl, ap, ◌∙◌, sym, arith, ℤ, pos, inl, inr}
use Rattle.std.specs.List.{list_any}
use Rattle.std.proofs.lemmas.Bool.{eqb-true, eqb-false, eq-eqb, ne_eqb, false≢true}
use Rattle.model_laws.proofs.Among.{Among}
use Rattle.model_laws.proofs.Signed.{total_by, total-zero}

-- ---- lists and tests

pub any_mapped : {X Y : Type 0} (t : Y → Bool) (f : X → Y) (xs : List X) → list_any t (map f xs) ≡ list_any (λ x. t (f x)) xs
any_mapped t f [] = refl
any_mapped t f (x ∷ xs) = ap (λ b. t (f x) || b) (any_mapped t f xs)

pub any_on : {X : Type 0} (t u : X → Bool) (xs : List X) → ((x : X) → Among x xs → t x ≡ u x) → list_any t xs ≡ list_any u xs
any_on t u [] e = refl
any_on t u (x ∷ xs) e = ap (λ b. b || list_any t xs) (e x (inl refl)) ∙ ap (λ b. u x || b) (any_on t u xs (λ y i. e y (inr i)))

pub any_same : {X : Type 0} (t u : X → Bool) (xs : List X) → ((x : X) → t x ≡ u x) → list_any t xs ≡ list_any u xs
any_same t u xs e = any_on t u xs (λ x i. e x)

pub alike : (a b : Bool) → (a ≡ true → b ≡ true) → (b ≡ true → a ≡ true) → a ≡ b
alike true b f g = sym (f refl)
alike false true f g = g refl
alike false false f g = refl

pub both : (a b : Bool) → (a && b) ≡ true → (a ≡ true) × (b ≡ true)
both true b e = (refl, e)
both false b e = absurd (false≢true e)

pub swap : (p q : Bool) (v : ℤ) → cond p (cond q v (pos 0)) (pos 0) ≡ cond q (cond p v (pos 0)) (pos 0)
swap true true v = refl
swap true false v = refl
swap false true v = refl
swap false false v = refl

pub cond_total : {X : Type 0} (b : Bool) (f : X → ℤ) (xs : List X) → total_by (λ x. cond b (f x) (pos 0)) xs ≡ cond b (total_by f xs) (pos 0)
cond_total true f xs = refl
cond_total false f xs = total-zero xs

-- ---- keys

abbrev pub key_of : ℕ → ℕ → ℕ
key_of q id = q * 2 ^ 64 + id

pub same_keys : (p q a b : ℕ) → a < 2 ^ 64 → b < 2 ^ 64 → eqb (key_of p a) (key_of q b) ≡ (eqb p q && eqb a b)
same_keys p q a b h k = by (eqb p q) (eqb a b) refl refl
  where
    by : (s t : Bool) → eqb p q ≡ s → eqb a b ≡ t → eqb (key_of p a) (key_of q b) ≡ (eqb p q && eqb a b)
    by true true u v = eq-eqb (key_of p a) (key_of q b) (let e : p ≡ q = eqb-true p q u in let f : a ≡ b = eqb-true a b v in omega (arith, e, f)) ∙ sym (ap (λ x. x && eqb a b) u ∙ v)
    by true false u v = ne_eqb (key_of p a) (key_of q b) (λ e. let f : p ≡ q = eqb-true p q u in eqb-false a b v (omega (arith, e, f))) ∙ sym (ap (λ x. x && eqb a b) u ∙ v)
    by false t u v = ne_eqb (key_of p a) (key_of q b) (λ e. eqb-false p q u (omega (arith, e, h, k))) ∙ sym (ap (λ x. x && eqb a b) u)

pub one_rank_keys : (q a b : ℕ) → eqb (key_of q a) (key_of q b) ≡ eqb a b
one_rank_keys q a b = by (eqb a b) refl
  where
    by : (t : Bool) → eqb a b ≡ t → eqb (key_of q a) (key_of q b) ≡ eqb a b
    by true v = eq-eqb (key_of q a) (key_of q b) (let f : a ≡ b = eqb-true a b v in omega (arith, f)) ∙ sym v
    by false v = ne_eqb (key_of q a) (key_of q b) (λ e. eqb-false a b v (omega (arith, e))) ∙ sym v

pub rank_in : (q id : ℕ) → id < 2 ^ 64 → key_of q id / 2 ^ 64 ≡ q
rank_in q id h = omega (arith, h)

pub id_in : (q id : ℕ) → id < 2 ^ 64 → key_of q id % 2 ^ 64 ≡ id
id_in q id h = omega (arith, h)

pub in_two : (k q : ℕ) → k / 2 ^ 64 ≡ q → k ≡ key_of q (k % 2 ^ 64)
in_two k q e = omega (arith, e)

pub low_small : (k : ℕ) → k % 2 ^ 64 < 2 ^ 64
low_small k = omega arith
