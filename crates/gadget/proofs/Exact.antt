-- Readings in stages: each gives at most one value or one refusal, and never both.
use Rattle.std.proofs.Common.{◌≡◌, ◌⊎◌, Option, Some, None, inl, inr, refl, sym, ap, subst, ◌∙◌}

-- a stage refuses in one way at most, or gives at most one value, and never both
pub record IsExact {E V : Type 0} (Refuses : E → Type 0) (Gives : V → Type 0) : Type 0 where
  pub one_refusal : (a b : E) → Refuses a → Refuses b → a ≡ b
  pub one_value : (v w : V) → Gives v → Gives w → v ≡ w
  pub apart : (a : E) (v : V) → Refuses a → Gives v → ⊥

-- a stage, and one behind it that goes by its value: the refusals, and the values
abbrev pub Either : {E V : Type 0} → (E → Type 0) → (V → Type 0) → (V → E → Type 0) → E → Type 0
Either {E} {V} First Gives Second e = First e ⊎ ((v : V) × Gives v × Second v e)

abbrev pub Both : {V W : Type 0} → (V → Type 0) → (V → W → Type 0) → V × W → Type 0
Both Gives Next x = Gives x.0 × Next x.0 x.1

-- two that are exact are one that is
pub both_exact : {E V W : Type 0} (First : E → Type 0) (Gives : V → Type 0) (Second : V → E → Type 0) (Next : V → W → Type 0) → IsExact First Gives → ((v : V) → IsExact (Second v) (Next v)) → IsExact (Either First Gives Second) (Both Gives Next)
both_exact {E} {V} {W} First Gives Second Next h k = record {
  one_refusal = one;
  one_value = λ x y p q. same x y p q;
  apart = never;
}
  where
    one : (a b : E) → Either First Gives Second a → Either First Gives Second b → a ≡ b
    one a b (inl p) (inl q) = h.one_refusal a b p q
    one a b (inl p) (inr q) = absurd (h.apart a q.0 p q.1)
    one a b (inr p) (inl q) = absurd (h.apart b p.0 q p.1)
    one a b (inr p) (inr q) = (k q.0).one_refusal a b (subst (λ v. Second v a) (h.one_value p.0 q.0 p.1 q.1) p.2) q.2

    same : (x y : V × W) → Both Gives Next x → Both Gives Next y → x ≡ y
    same x y p q =
        let first : x.0 ≡ y.0 = h.one_value x.0 y.0 p.0 q.0 in
        let second : x.1 ≡ y.1 = (k y.0).one_value x.1 y.1 (subst (λ v. Next v x.1) first p.1) q.1 in
        λ i. (first i, second i)

    never : (a : E) (x : V × W) → Either First Gives Second a → Both Gives Next x → ⊥
    never a x (inl p) q = h.apart a x.0 p q.0
    never a x (inr p) q = (k x.0).apart a x.1 (subst (λ v. Second v a) (h.one_value p.0 x.0 p.1 q.0) p.2) q.1

-- a stage refuses in one way at most
abbrev pub OneWay : {E : Type 0} → (E → Type 0) → Type 0
OneWay {E} Refuses = (a b : E) → Refuses a → Refuses b → a ≡ b

pub either_one : {E V : Type 0} (First : E → Type 0) (Gives : V → Type 0) (Second : V → E → Type 0) → IsExact First Gives → ((v : V) → OneWay (Second v)) → OneWay (Either First Gives Second)
either_one First Gives Second h k a b (inl p) (inl q) = h.one_refusal a b p q
either_one First Gives Second h k a b (inl p) (inr q) = absurd (h.apart a q.0 p q.1)
either_one First Gives Second h k a b (inr p) (inl q) = absurd (h.apart b p.0 q p.1)
either_one First Gives Second h k a b (inr p) (inr q) = k q.0 a b (subst (λ v. Second v a) (h.one_value p.0 q.0 p.1 q.1) p.2) q.2

some_one : {A : Type 0} {x y : A} {o : Option A} → o ≡ Some x → o ≡ Some y → x ≡ y
some_one e f = cc

none_some : {A : Type 0} {x : A} {o : Option A} → o ≡ None → o ≡ Some x → ⊥
none_some e f = cc

-- a check that finds a fault or none
pub check_exact : {E : Type 0} (fault : Option E) → IsExact (λ (e : E). fault ≡ Some e) (λ (u : Unit {0}). fault ≡ None)
check_exact fault = record {
  one_refusal = λ a b e f. some_one e f;
  one_value = λ u v e f. refl;
  apart = λ a u e f. none_some f e;
}

-- something that is there or isn't, where an error stands for the second
pub find_exact : {E V : Type 0} (found : Option V) (err : E) → IsExact (λ (e : E). (found ≡ None) × (e ≡ err)) (λ (v : V). found ≡ Some v)
find_exact found err = record {
  one_refusal = λ a b e f. e.1 ∙ sym f.1;
  one_value = λ v w e f. some_one e f;
  apart = λ a v e f. none_some e.0 f;
}

-- an exact stage of other errors
pub mapped : {E F V : Type 0} (Refuses : E → Type 0) (Gives : V → Type 0) (called : E → F) → IsExact Refuses Gives → IsExact (λ (f : F). (e : E) × (f ≡ called e) × Refuses e) Gives
mapped Refuses Gives called h = record {
  one_refusal = λ a b p q. p.1 ∙ ap called (h.one_refusal p.0 q.0 p.2 q.2) ∙ sym q.1;
  one_value = h.one_value;
  apart = λ a v p q. h.apart p.0 v p.2 q;
}

-- less refuses, and less is given
pub narrower : {E V : Type 0} (Refuses Less : E → Type 0) (Gives Fewer : V → Type 0) → ((e : E) → Less e → Refuses e) → ((v : V) → Fewer v → Gives v) → IsExact Refuses Gives → IsExact Less Fewer
narrower Refuses Less Gives Fewer f g h = record {
  one_refusal = λ a b p q. h.one_refusal a b (f a p) (f b q);
  one_value = λ v w p q. h.one_value v w (g v p) (g w q);
  apart = λ a v p q. h.apart a v (f a p) (g v q);
}
