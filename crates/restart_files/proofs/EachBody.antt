-- Bodies without a fault, and the first that has one.
use Rattle.std.proofs.Common.{◌≡◌, ◌⊎◌, ℕ, zero, suc, ◌+◌, ◌<◌, ◌≤◌, ◌==◌, ◌&&◌, Bool, true, false, cond, not, nat_le, nat_lt, List, Option, Some, None, refl, ap, subst, ◌∙◌, inl, inr, arith, zero-add}
use Rattle.std.specs.List.{range_with_len}
use Rattle.std.specs.Option.{option_or}
use Rattle.std.proofs.lemmas.Bool.{cases_lt}
use Rattle.std.proofs.lemmas.Bool.Decides.{nat_tests}
use Rattle.fixed_point.specs.Bytes.{word32_at}
use Rattle.restart_files.specs.declared.errors.RestartErr.{RestartErr}
use Rattle.restart_files.specs.RestartFile.{NoFaultBelow, bodies_fault, body_fault, body_place, count_in, deepest_in, depth_in, first_among, has_wrong_depth, has_wrong_id, has_wrong_kind, version_in}

-- ---- the first fault of a range

none_at : (f : ℕ → Option RestartErr) (a n : ℕ) → ((i : ℕ) → i < n → f (a + i) ≡ None) → first_among f (range_with_len a n) ≡ None
none_at f a zero h = refl
none_at f a (suc n) h =
    let here : f a ≡ None = ap f (omega arith) ∙ h 0 (omega arith) in
    ap (λ o. option_or o (first_among f (range_with_len (a + 1) n))) here
    ∙ none_at f (a + 1) n (λ i l. let e : a + 1 + i ≡ a + suc i = omega arith in ap f e ∙ h (suc i) (omega (arith, l)))

first_at : (f : ℕ → Option RestartErr) (e : RestartErr) (a n k : ℕ) → k < n → ((i : ℕ) → i < k → f (a + i) ≡ None) → f (a + k) ≡ Some e → first_among f (range_with_len a n) ≡ Some e
first_at f e a zero k l h s = absurd (omega arith)
first_at f e a (suc n) zero l h s =
    let here : f a ≡ Some e = ap f (omega arith) ∙ s in
    ap (λ o. option_or o (first_among f (range_with_len (a + 1) n))) here
first_at f e a (suc n) (suc k) l h s =
    let here : f a ≡ None = ap f (omega arith) ∙ h 0 (omega arith) in
    ap (λ o. option_or o (first_among f (range_with_len (a + 1) n))) here
    ∙ first_at f e (a + 1) n k (omega (arith, l)) (λ i m. let e : a + 1 + i ≡ a + suc i = omega arith in ap f e ∙ h (suc i) (omega (arith, m)))
    (let e : a + 1 + k ≡ a + suc k = omega arith in ap f e ∙ s)

pub one_more : (bytes : List ℕ) (n : ℕ) → NoFaultBelow bytes n → body_fault bytes n ≡ None → NoFaultBelow bytes (n + 1)
one_more bytes n h e i l = by (cases_lt i n)
  where
    by : (i < n) ⊎ (n ≤ i) → body_fault bytes i ≡ None
    by (inl m) = h i m
    by (inr m) = let same : n ≡ i = omega arith in subst (λ i. body_fault bytes i ≡ None) same e

pub none_wrong : (bytes : List ℕ) → NoFaultBelow bytes (count_in bytes) → bodies_fault bytes ≡ None
none_wrong bytes h = none_at (body_fault bytes) 0 (count_in bytes) (λ i l. ap (body_fault bytes) (zero-add i) ∙ h i l)

pub first_wrong : (bytes : List ℕ) (e : RestartErr) (k : ℕ) → k < count_in bytes → NoFaultBelow bytes k → body_fault bytes k ≡ Some e → bodies_fault bytes ≡ Some e
first_wrong bytes e k l h s = first_at (body_fault bytes) e 0 (count_in bytes) k l (λ i m. ap (body_fault bytes) (zero-add i) ∙ h i m) (ap (body_fault bytes) (zero-add k) ∙ s)

-- ---- a body without a fault

pub split : {E : Type 0} (t : Bool) (e : E) (rest : Option E) → cond t (Some e) rest ≡ None → (t ≡ false) × (rest ≡ None)
split true e rest f = absurd cc
split false e rest f = (refl, f)

pub record IsSound (bytes : List ℕ) (i : ℕ) : Type 0 where
  pub id : has_wrong_id bytes i ≡ false
  pub kind : has_wrong_kind bytes i ≡ false
  pub depth : has_wrong_depth bytes i ≡ false

pub sound_of : (bytes : List ℕ) (i : ℕ) → body_fault bytes i ≡ None → IsSound bytes i
unfolding body_fault
sound_of bytes i e =
    let a = split (has_wrong_id bytes i) _ _ e in
    let b = split (has_wrong_kind bytes i) _ _ a.1 in
    let c = split (has_wrong_depth bytes i) _ _ b.1 in
    record { id = a.0; kind = b.0; depth = c.0 }

in_range : (kind : ℕ) → not (nat_le 1 kind && nat_le kind 5) ≡ false → (1 ≤ kind) × (kind ≤ 5)
in_range kind e = (grind (arith, nat_tests), grind (arith, nat_tests))

pub kind_of : (bytes : List ℕ) (i : ℕ) → body_fault bytes i ≡ None → (1 ≤ word32_at bytes (body_place bytes i + 8)) × (word32_at bytes (body_place bytes i + 8) ≤ 5)
kind_of bytes i e = in_range (word32_at bytes (body_place bytes i + 8)) (sound_of bytes i e).kind

shallow : (version deepest depth : ℕ) → version ≡ 2 → (version == 2 && nat_lt deepest depth) ≡ false → depth ≤ deepest
shallow version deepest depth v e = grind (arith, nat_tests)

pub depth_of : (bytes : List ℕ) (i : ℕ) → version_in bytes ≡ 2 → body_fault bytes i ≡ None → depth_in bytes i ≤ deepest_in bytes
depth_of bytes i v e = shallow (version_in bytes) (deepest_in bytes) (depth_in bytes i) v (sound_of bytes i e).depth
