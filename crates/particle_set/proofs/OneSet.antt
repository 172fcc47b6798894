-- Rows are at most one set, and rows that are a set have no refusal.
use Rattle.std.proofs.Common.{◌≡◌, ◌⊎◌, ℕ, zero, suc, ◌+◌, ◌<◌, ◌≤◌, ◌==◌, true, false, cond, List, [], ◌∷◌, map, All, IsPermutation, sum_by, inl, inr, refl, sym, ap, subst, ◌∙◌, arith, lt_trans, le_of_suc-le-suc, slice_index}
use Rattle.std.specs.List.Sorted.{IsStrictlyIncreasing}
use Rattle.std.proofs.lemmas.Bool.{cases_eq}
use Rattle.std.proofs.lemmas.Bool.Decides.{nat_tests}
use Rattle.std.proofs.lemmas.List.{length-map}
use Rattle.std.proofs.lemmas.List.Elements.{All-head, All-tail}
use Rattle.std.proofs.lemmas.List.Sums.{sum_by-cons}
use Rattle.std.proofs.lemmas.List.Sorted.{IsPermutation-sym, IsPermutation-trans, All-permutation, sum_by-IsPermutation, length_permutation}
use Rattle.nbody_model.specs.Bodies.{BodyData}
use Rattle.particle_set.specs.declared.row.Row.{Row}
use Rattle.particle_set.specs.declared.row.SetErr.{SetErr}
use Rattle.particle_set.specs.declared.row.SetErr.TheVariants.{TooMany, Repeated, ZeroMass, MassTotal, MomRange, Memory}
use Rattle.particle_set.specs.Rows.{IsSetOf, IsFirstRefusal, IsRefusalByMemory, HasMass, HasMomentum, body_of}

-- the body is one of these
unfoldable pub IsIn : BodyData → List BodyData → Type 0
IsIn x [] = ⊥
IsIn x (y ∷ ys) = (x ≡ y) ⊎ IsIn x ys

unfoldable pub Rises : List BodyData → Type 0
Rises [] = Unit {0}
Rises (b ∷ bs) = ((x : BodyData) → IsIn x bs → b.id < x.id) × Rises bs

later : (n : ℕ) (ns : List ℕ) → IsStrictlyIncreasing (n ∷ ns) → IsStrictlyIncreasing ns
later n ns h k l =
    let e : suc k + 1 ≡ suc (k + 1) = omega arith in
    let u : slice_index (n ∷ ns) (suc k) < slice_index (n ∷ ns) (suc k + 1) = h (suc k) (omega (arith, l)) in
    rw e at u

above : (b c x : BodyData) (bs : List BodyData) → b.id < c.id → ((x : BodyData) → IsIn x bs → c.id < x.id) → IsIn x (c ∷ bs) → b.id < x.id
unfolding IsIn
above b c x bs l r (inl e) = subst (λ y. b.id < y.id) (sym e) l
above b c x bs l r (inr h) = lt_trans l (r x h)

rises : (bs : List BodyData) → IsStrictlyIncreasing (map (λ b. b.id) bs) → Rises bs
unfolding Rises IsIn
rises [] h = tt
rises (b ∷ []) h = (λ x i. absurd i, tt)
rises (b ∷ c ∷ bs) h =
    let rest : Rises (c ∷ bs) = rises (c ∷ bs) (later b.id (map (λ b. b.id) (c ∷ bs)) h) in
    (λ x i. above b c x bs (h 0 (omega arith)) rest.0 i, rest)

all_in : (bs : List BodyData) → All (λ x. IsIn x bs) bs
unfolding IsIn
all_in [] k d l = absurd (omega (arith, l))
all_in (b ∷ bs) zero d l = inl refl
all_in (b ∷ bs) (suc k) d l = inr (all_in bs k d (le_of_suc-le-suc l))

at_member : (P : BodyData → Type 0) (bs : List BodyData) (x : BodyData) → All P bs → IsIn x bs → P x
unfolding IsIn
at_member P [] x a i = absurd i
at_member P (b ∷ bs) x a (inl e) = subst P (sym e) (All-head P b bs a)
at_member P (b ∷ bs) x a (inr i) = at_member P bs x (All-tail P b bs a) i

same_first : (b c : BodyData) (bs cs : List BodyData) → Rises (b ∷ bs) → Rises (c ∷ cs) → IsIn b (c ∷ cs) → IsIn c (b ∷ bs) → b ≡ c
unfolding Rises IsIn
same_first b c bs cs r s (inl e) j = e
same_first b c bs cs r s (inr i) (inl e) = sym e
same_first b c bs cs r s (inr i) (inr j) = absurd (omega (arith, r.0 c j, s.0 b i))

in_rest : (b c x : BodyData) (cs : List BodyData) → b ≡ c → b.id < x.id → IsIn x (c ∷ cs) → IsIn x cs
unfolding IsIn
in_rest b c x cs e l (inl f) = absurd (omega (arith, l, ap (λ y. y.id) (f ∙ sym e)))
in_rest b c x cs e l (inr i) = i

-- lists that rise and have the same members are the same
one_order : (bs cs : List BodyData) → Rises bs → Rises cs → ((x : BodyData) → IsIn x bs → IsIn x cs) → ((x : BodyData) → IsIn x cs → IsIn x bs) → bs ≡ cs
unfolding Rises IsIn
one_order [] [] r s f g = refl
one_order [] (c ∷ cs) r s f g = absurd (g c (inl refl))
one_order (b ∷ bs) [] r s f g = absurd (f b (inl refl))
one_order (b ∷ bs) (c ∷ cs) r s f g =
    let same : b ≡ c = same_first b c bs cs r s (f b (inl refl)) (g c (inl refl)) in
    let rest : bs ≡ cs = one_order bs cs r.1 s.1
    (λ x i. in_rest b c x cs same (r.0 x i) (f x (inr i)))
    (λ x i. in_rest c b x bs (sym same) (s.0 x i) (g x (inr i))) in
    ap (λ y. y ∷ bs) same ∙ ap (λ ys. c ∷ ys) rest

pub one_set : (rows : List Row) (B C : List BodyData) → IsSetOf rows B → IsSetOf rows C → B ≡ C
one_set rows B C h k =
    let moves : IsPermutation B C = IsPermutation-trans B (map body_of rows) C (IsPermutation-sym (map body_of rows) B h.bodies) k.bodies in
    one_order B C (rises B h.valid.ascending) (rises C k.valid.ascending)
    (λ x i. at_member (λ y. IsIn y C) B x (All-permutation (λ y. IsIn y C) C B (IsPermutation-sym B C moves) (all_in C)) i)
    (λ x i. at_member (λ y. IsIn y B) C x (All-permutation (λ y. IsIn y B) B C moves (all_in B)) i)

-- ---- rows that are a set have no refusal

sum-bodies : (g : BodyData → ℕ) (rows : List Row) → sum_by g (map body_of rows) ≡ sum_by (λ r. g (body_of r)) rows
sum-bodies g [] = refl
sum-bodies g (r ∷ rows) = omega (arith, sum_by-cons g (body_of r) (map body_of rows), sum_by-cons (λ r. g (body_of r)) r rows, sum-bodies g rows)

sum-set : (g : BodyData → ℕ) (rows : List Row) (B : List BodyData) → IsSetOf rows B → sum_by (λ r. g (body_of r)) rows ≡ sum_by g B
sum-set g rows B h = sym (sum-bodies g rows) ∙ sym (sum_by-IsPermutation g (map body_of rows) B h.bodies)

counts_none : (id : ℕ) (bs : List BodyData) → ((x : BodyData) → IsIn x bs → id < x.id) → sum_by (λ b. cond (b.id == id) 1 0) bs ≡ 0
unfolding IsIn
counts_none id [] h = refl
counts_none id (b ∷ bs) h =
    let above : id < b.id = h b (inl refl) in
    let test : (b.id == id) ≡ false = grind (arith, nat_tests) in
    sum_by-cons (λ b. cond (b.id == id) 1 0) b bs ∙ ap (λ t. cond t 1 0 + sum_by (λ b. cond (b.id == id) 1 0) bs) test
    ∙ ap (λ n. 0 + n) (counts_none id bs (λ x i. h x (inr i)))

counts_one : (id : ℕ) (bs : List BodyData) → Rises bs → sum_by (λ b. cond (b.id == id) 1 0) bs ≤ 1
unfolding Rises
counts_one id [] r = omega arith
counts_one id (b ∷ bs) r =
    let head : sum_by (λ b. cond (b.id == id) 1 0) (b ∷ bs) ≡ cond (b.id == id) 1 0 + sum_by (λ b. cond (b.id == id) 1 0) bs = sum_by-cons (λ b. cond (b.id == id) 1 0) b bs in
    elim (cases_eq b.id id) as (λ _. sum_by (λ b. cond (b.id == id) 1 0) (b ∷ bs) ≤ 1) [
      | inl e ↦
          let none : sum_by (λ b. cond (b.id == id) 1 0) bs ≡ 0 = counts_none id bs (λ x i. subst (λ n. n < x.id) e (r.0 x i)) in
          let test : (b.id == id) ≡ true = grind (arith, nat_tests) in
          let one : ◌≡◌ {A = ℕ} (cond (b.id == id) 1 0) 1 = ap (λ t. cond t 1 0) test in
          omega (arith, head, none, one)
      | inr n ↦
          let test : (b.id == id) ≡ false = grind (arith, nat_tests) in
          let none : ◌≡◌ {A = ℕ} (cond (b.id == id) 1 0) 0 = ap (λ t. cond t 1 0) test in
          omega (arith, head, none, counts_one id bs r.1)
    ]

pub no_refusal : (rows : List Row) (B : List BodyData) (e : SetErr) → IsSetOf rows B → IsFirstRefusal rows e → IsRefusalByMemory e
no_refusal rows B (TooMany n) h f =
    omega (arith, f.0, f.1, length_permutation (map body_of rows) B h.bodies, length-map rows body_of, h.valid.few)
no_refusal rows B (Repeated id) h f =
    let a = f.1.among in
    omega (arith, a.4.0.twice, sum-set (λ b. cond (b.id == a.1.id) 1 0) rows B h, counts_one a.1.id B (rises B h.valid.ascending))
no_refusal rows B (ZeroMass id) h f =
    let a = f.2.among in
    let m : HasMass a.1 = subst HasMass a.3 (h.massive a.0 a.1 a.2) in
    omega (arith, m.low, a.4.0.zero_mass)
no_refusal rows B (MassTotal sum) h f = omega (arith, f.3, f.4, sum-set (λ b. b.mass) rows B h, h.valid.light)
no_refusal rows B (MomRange id) h f =
    let a = f.4.among in
    a.4.0.out_of_range (subst HasMomentum a.3 (h.in_range a.0 a.1 a.2))
no_refusal rows B Memory h f = tt
