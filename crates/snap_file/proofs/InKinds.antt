-- Bodies by their kinds: at each place the kind that the counts say, and the same bodies in another order.
use Rattle.std.proofs.Common.{◌≡◌, ℕ, zero, suc, ◌+◌, ◌-◌, ◌<◌, ◌≤◌, Bool, true, false, cond, nat_lt, ◌==◌, List, [], ◌∷◌, ◌++◌, length, get_or, All, IsPermutation, sum, refl, sym, ap, subst, ◌∙◌, append_assoc, arith, length-append, ltb-true, ltb-false, eqb-true, le_of_suc-le-suc}
use Rattle.std.proofs.lemmas.List.{get_or_append_left, get_or-append_right}
use Rattle.std.proofs.lemmas.List.Elements.{All-head, All-tail}
use Rattle.std.proofs.lemmas.List.Sorted.{IsPermutation-refl, IsPermutation-trans, IsPermutation-cons, IsPermutation-middle}
use Rattle.nbody_model.specs.Bodies.{BodyData}
use Rattle.nbody_model.specs.SnapshotText.{of_kind, by_kind}
use Rattle.snap_file.specs.Kinds.{kind_at}
use Rattle.particle_set.specs.Stored.{IsStorable}
use Rattle.snap_file.proofs.Writes.{length-by_kind}

-- each body of the list has this kind
AreOfKind : ℕ → List BodyData → Type 0
AreOfKind k a = (i : ℕ) (d : BodyData) → i < length a → (get_or a i d).kind ≡ k

first_of_kind : (k : ℕ) (b : BodyData) (bs : List BodyData) → b.kind ≡ k → AreOfKind k bs → AreOfKind k (b ∷ bs)
unfolding AreOfKind
first_of_kind k b bs e h zero d l = e
first_of_kind k b bs e h (suc i) d l = h i d (le_of_suc-le-suc l)

more_of_kind : (k : ℕ) (b : BodyData) (bs : List BodyData) (t : Bool) → (b.kind == k) ≡ t → AreOfKind k bs → AreOfKind k (cond t (b ∷ bs) bs)
more_of_kind k b bs true e h = first_of_kind k b bs (eqb-true b.kind k e) h
more_of_kind k b bs false e h = h

all_of_kind : (B : List BodyData) (k : ℕ) → AreOfKind k (of_kind B k)
unfolding AreOfKind
all_of_kind [] k = λ i d l. absurd (omega (arith, l))
all_of_kind (b ∷ B) k = more_of_kind k b (of_kind B k) (b.kind == k) refl (all_of_kind B k)

one_at : (a rest : List BodyData) (k p q i other : ℕ) (d : BodyData) (t : Bool) → nat_lt i q ≡ t → AreOfKind k a → p ≤ i → q ≡ p + length a
    → (q ≤ i → other ≡ (get_or rest (i - q) d).kind) → cond t k other ≡ (get_or (a ++ rest) (i - p) d).kind
unfolding AreOfKind
one_at a rest k p q i other d true e h l f g =
    let inside : i - p < length a = omega (arith, ltb-true i q e, l, f) in
    sym (h (i - p) d inside) ∙ ap (λ b. b.kind) (sym (get_or_append_left a rest d (i - p) inside))
one_at a rest k p q i other d false e h l f g =
    let past : q ≤ i = ltb-false i q e in
    let left : i - p - length a ≡ i - q = omega (arith, past, f) in
    g past ∙ ap (λ n. (get_or rest n d).kind) (sym left) ∙ ap (λ b. b.kind) (sym (get_or-append_right a rest (length a) (i - p) d refl (omega (arith, past, f))))

last_kind : (e : List BodyData) (i : ℕ) (d : BodyData) → AreOfKind 5 e → i < length e → (get_or e i d).kind ≡ 5
unfolding AreOfKind
last_kind e i d h l = h i d l

-- the counts of bodies by kind
unfoldable pub counts_of : List BodyData → List ℕ
counts_of B = 0 ∷ length (of_kind B 1) ∷ length (of_kind B 2) ∷ length (of_kind B 3) ∷ length (of_kind B 4) ∷ length (of_kind B 5) ∷ []

pub sum_of_counts : (B : List BodyData) → sum (counts_of B) ≡ length (by_kind B)
unfolding counts_of
sum_of_counts B = omega (arith, length-by_kind B)

to_right : (a b c d e : List BodyData) → a ++ b ++ c ++ d ++ e ≡ a ++ (b ++ (c ++ (d ++ e)))
to_right a b c d e = simp append_assoc

-- the body at a place has the kind that the counts say
pub kind_back : (B : List BodyData) (i : ℕ) (z : BodyData) → i < length (by_kind B) → kind_at (counts_of B) i ≡ (get_or (by_kind B) i z).kind
unfolding counts_of by_kind
kind_back B i z l =
    let a : List BodyData = of_kind B 1 in
    let b : List BodyData = of_kind B 2 in
    let c : List BodyData = of_kind B 3 in
    let d : List BodyData = of_kind B 4 in
    let e : List BodyData = of_kind B 5 in
    let q1 : ℕ = length a in
    let q2 : ℕ = q1 + length b in
    let q3 : ℕ = q2 + length c in
    let q4 : ℕ = q3 + length d in
    let all : length (a ++ b ++ c ++ d ++ e) ≡ q4 + length e = simp length-append refl in
    one_at a (b ++ (c ++ (d ++ e))) 1 0 q1 i _ z (nat_lt i q1) refl (all_of_kind B 1) (omega arith) (omega arith) (λ p1.
    one_at b (c ++ (d ++ e)) 2 q1 q2 i _ z (nat_lt i q2) refl (all_of_kind B 2) p1 refl (λ p2.
    one_at c (d ++ e) 3 q2 q3 i _ z (nat_lt i q3) refl (all_of_kind B 3) p2 refl (λ p3.
    one_at d e 4 q3 q4 i 5 z (nat_lt i q4) refl (all_of_kind B 4) p3 refl (λ p4.
    sym (last_kind e (i - q4) z (all_of_kind B 5) (omega (arith, l, all, p4)))))))
    ∙ ap (λ n. (get_or (a ++ (b ++ (c ++ (d ++ e)))) n z).kind) (omega arith)
    ∙ ap (λ bs. (get_or bs i z).kind) (sym (to_right a b c d e))

-- a body put among those of its kind
put : ℕ → BodyData → List BodyData → List BodyData → List BodyData → List BodyData → List BodyData → List BodyData
put k x a b c d e = cond (k == 1) (x ∷ a) a ++ cond (k == 2) (x ∷ b) b ++ cond (k == 3) (x ∷ c) c ++ cond (k == 4) (x ∷ d) d ++ cond (k == 5) (x ∷ e) e

moved : (x : BodyData) (front back whole all : List BodyData) → whole ≡ front ++ x ∷ back → all ≡ front ++ back → IsPermutation whole (x ∷ all)
moved x front back whole all e f =
    subst (λ ys. IsPermutation ys (x ∷ all)) (sym e) (subst (λ ys. IsPermutation (front ++ x ∷ back) (x ∷ ys)) (sym f) (IsPermutation-middle front x back))

put_moves : (k : ℕ) (x : BodyData) (a b c d e : List BodyData) → 1 ≤ k → k ≤ 5 → IsPermutation (put k x a b c d e) (x ∷ (a ++ b ++ c ++ d ++ e))
unfolding put
put_moves zero x a b c d e l h = absurd (omega (arith, l))
put_moves (suc zero) x a b c d e l h = moved x [] (a ++ b ++ c ++ d ++ e) _ _ refl refl
put_moves (suc (suc zero)) x a b c d e l h = moved x a (b ++ c ++ d ++ e) _ _ (simp append_assoc) (simp append_assoc)
put_moves (suc (suc (suc zero))) x a b c d e l h = moved x (a ++ b) (c ++ d ++ e) _ _ (simp append_assoc) (simp append_assoc)
put_moves (suc (suc (suc (suc zero)))) x a b c d e l h = moved x (a ++ b ++ c) (d ++ e) _ _ (simp append_assoc) (simp append_assoc)
put_moves (suc (suc (suc (suc (suc zero))))) x a b c d e l h = moved x (a ++ b ++ c ++ d) e _ _ refl refl
put_moves (suc (suc (suc (suc (suc (suc k)))))) x a b c d e l h = absurd (omega (arith, h))

-- by kind the bodies are the same ones
pub by_kind_moves : (B : List BodyData) → All IsStorable B → IsPermutation (by_kind B) B
unfolding by_kind put
by_kind_moves [] s = IsPermutation-refl []
by_kind_moves (b ∷ B) s =
    let here : IsStorable b = All-head IsStorable b B s in
    IsPermutation-trans (by_kind (b ∷ B)) (b ∷ by_kind B) (b ∷ B)
    (put_moves b.kind b (of_kind B 1) (of_kind B 2) (of_kind B 3) (of_kind B 4) (of_kind B 5) here.kind_low here.kind_high)
    (IsPermutation-cons b (by_kind B) B (by_kind_moves B (All-tail IsStorable b B s)))
