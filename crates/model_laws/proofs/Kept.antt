-- What a drift and a kick leave of the momenta.
use Rattle.std.proofs.Common.{◌≡◌, ℕ, zero, suc, ◌+◌, ◌≤◌, Bool, true, false, cond, List, [], ◌∷◌, map, length, sum_by, refl, ap, sym, ◌∙◌, arith, ℤ, pos, ◌+ℤ◌, ◌*ℤ◌, neg_ℤ}
use Rattle.std.specs.List.{filter}
use Rattle.std.proofs.lemmas.Int.{ints}
use Rattle.std.proofs.Math.IntN.{suc_ℤ-*ℤ, zero-*ℤ, *ℤ-zero}
use Rattle.std.proofs.lemmas.List.Sums.{sum_by-cons, length-filter, count_by-le-length}
use Rattle.std.proofs.lemmas.List.Kept.{IsStrictlyIncreasing-filter}
use Rattle.std.proofs.lemmas.Bool.{false≢true}
use Rattle.fixed_point.specs.declared.V3.{V3}
use Rattle.fixed_point.specs.Vectors.{origin, plus, negative, sum_of}
use Rattle.cell_space.specs.Cells.{InBox}
use Rattle.nbody_model.specs.Bodies.{BodyData, has, only, total}
use Rattle.nbody_model.specs.Setups.{SetupData}
use Rattle.nbody_model.specs.Tables.{Gravity}
use Rattle.nbody_model.specs.Force.{force_at, forces}
use Rattle.nbody_model.specs.Steps.{drifted, drift, kicked_by, kicked_bodies, change}
use Rattle.model_laws.specs.Laws.{AreBodies}
use Rattle.model_laws.proofs.Among.{each-filter}
use Rattle.model_laws.proofs.Cancel.{forces_cancel}
use Rattle.model_laws.proofs.Signed.{total_by, totals_by, total-same, total-plus, total-zero, total-filter, total-mapped, sum_of-totals}

-- ---- the drift

drifted_mom : (s : SetupData) (ticks : ℕ) (b : BodyData) (t : Bool) → (cond t (drifted s ticks b) b).motion.mom ≡ b.motion.mom
drifted_mom s ticks b true = refl
drifted_mom s ticks b false = refl

pub drift_momenta : (s : SetupData) (P : List ℕ) (ticks : ℕ) (B : List BodyData) → map (λ b. b.motion.mom) (drift s P ticks B) ≡ map (λ b. b.motion.mom) B
drift_momenta s P ticks [] = refl
drift_momenta s P ticks (b ∷ bs) =
    let here : (cond (has P b.id) (drifted s ticks b) b).motion.mom ≡ b.motion.mom = drifted_mom s ticks b (has P b.id) in
    let rest : map (λ b. b.motion.mom) (drift s P ticks bs) ≡ map (λ b. b.motion.mom) bs = drift_momenta s P ticks bs in
    λ i. here i ∷ rest i

-- ---- the kick

scaled_total : {X : Type 0} (h : ℕ) (f : X → ℤ) (xs : List X) → total_by (λ x. pos h *ℤ f x) xs ≡ pos h *ℤ total_by f xs
scaled_total zero f xs = total-same (λ x. pos 0 *ℤ f x) (λ x. pos 0) (λ x. zero-*ℤ (f x)) xs ∙ total-zero xs ∙ sym (zero-*ℤ (total_by f xs))
scaled_total (suc h) f xs =
    total-same (λ x. pos (suc h) *ℤ f x) (λ x. pos h *ℤ f x +ℤ f x) (λ x. suc_ℤ-*ℤ (pos h) (f x)) xs
    ∙ total-plus (λ x. pos h *ℤ f x) f xs
    ∙ ap (λ t. t +ℤ total_by f xs) (scaled_total h f xs)
    ∙ sym (suc_ℤ-*ℤ (pos h) (total_by f xs))

kicked_body : ℕ → (BodyData → V3) → BodyData → BodyData
kicked_body h v b = record b { motion = record { pos = b.motion.pos; mom = kicked_by h b.motion.mom (v b) } }

kicked_mom : (get : V3 → ℤ) (h : ℕ) → ((p w : V3) → get (kicked_by h p w) ≡ get p +ℤ (pos h *ℤ get w)) → (v : BodyData → V3) (b : BodyData) (t : Bool) →
    get (cond t (kicked_body h v b) b).motion.mom ≡ get b.motion.mom +ℤ cond t (pos h *ℤ get (v b)) (pos 0)
unfolding kicked_body
kicked_mom get h e v b true = e b.motion.mom (v b)
kicked_mom get h e v b false = omega (arith, ints)

kick_axis : (get : V3 → ℤ) (h : ℕ) → ((p w : V3) → get (kicked_by h p w) ≡ get p +ℤ (pos h *ℤ get w)) → (P : List ℕ) (v : BodyData → V3) (B : List BodyData) → total_by (λ b. get (v b)) (only B P) ≡ pos 0 →
    total_by (λ b. get b.motion.mom) (kicked_bodies h P v B) ≡ total_by (λ b. get b.motion.mom) B
unfolding kicked_body
kick_axis get h e P v B none =
    total-mapped (λ b. get b.motion.mom) (λ b. cond (has P b.id) (kicked_body h v b) b) B
    ∙ total-same (λ b. get (cond (has P b.id) (kicked_body h v b) b).motion.mom) (λ b. get b.motion.mom +ℤ cond (has P b.id) (pos h *ℤ get (v b)) (pos 0)) (λ b. kicked_mom get h e v b (has P b.id)) B
    ∙ total-plus (λ b. get b.motion.mom) (λ b. cond (has P b.id) (pos h *ℤ get (v b)) (pos 0)) B
    ∙ ap (λ t. total_by (λ b. get b.motion.mom) B +ℤ t)
    (sym (total-filter (λ b. has P b.id) (λ b. pos h *ℤ get (v b)) B) ∙ scaled_total h (λ b. get (v b)) (only B P) ∙ ap (λ t. pos h *ℤ t) none ∙ *ℤ-zero (pos h))
    ∙ omega (arith, ints)

-- a kick whose changes add up to zero keeps the total
pub kick_total : (h : ℕ) (P : List ℕ) (v : BodyData → V3) (B : List BodyData) → sum_of v (only B P) ≡ origin → total (kicked_bodies h P v B) ≡ total B
kick_total h P v B none =
    let e : totals_by v (only B P) ≡ origin = sym (sum_of-totals v (only B P)) ∙ none in
    let x : total_by (λ b. b.motion.mom.x) (kicked_bodies h P v B) ≡ total_by (λ b. b.motion.mom.x) B = kick_axis (λ w. w.x) h (λ p w. refl) P v B (ap (λ w. w.x) e) in
    let y : total_by (λ b. b.motion.mom.y) (kicked_bodies h P v B) ≡ total_by (λ b. b.motion.mom.y) B = kick_axis (λ w. w.y) h (λ p w. refl) P v B (ap (λ w. w.y) e) in
    let z : total_by (λ b. b.motion.mom.z) (kicked_bodies h P v B) ≡ total_by (λ b. b.motion.mom.z) B = kick_axis (λ w. w.z) h (λ p w. refl) P v B (ap (λ w. w.z) e) in
    sum_of-totals (λ b. b.motion.mom) (kicked_bodies h P v B) ∙ (λ i. record { x = x i; y = y i; z = z i }) ∙ sym (sum_of-totals (λ b. b.motion.mom) B)

drift_sum : (B C : List BodyData) → map (λ b. b.motion.mom) B ≡ map (λ b. b.motion.mom) C → total B ≡ total C
drift_sum B C e =
    let axis : (get : V3 → ℤ) → total_by (λ b. get b.motion.mom) B ≡ total_by (λ b. get b.motion.mom) C = λ get. sym (total-mapped get (λ b. b.motion.mom) B) ∙ ap (total_by get) e ∙ total-mapped get (λ b. b.motion.mom) C in
    sum_of-totals (λ b. b.motion.mom) B ∙ (λ i. record { x = axis (λ w. w.x) i; y = axis (λ w. w.y) i; z = axis (λ w. w.z) i }) ∙ sym (sum_of-totals (λ b. b.motion.mom) C)

pub drift_total : (s : SetupData) (P : List ℕ) (ticks : ℕ) (B : List BodyData) → total (drift s P ticks B) ≡ total B
drift_total s P ticks B = drift_sum (drift s P ticks B) B (drift_momenta s P ticks B)

-- ---- the changes of a kick add up to zero

filter-twice_step : {X : Type 0} (p f : X → Bool) (x : X) (ys zs : List X) (s t : Bool) → p x ≡ s → f x ≡ t → (f x ≡ true → p x ≡ true) → filter f ys ≡ zs → filter f (cond s (x ∷ ys) ys) ≡ cond t (x ∷ zs) zs
filter-twice_step p f x ys zs true true u v h e = ap (λ b. cond b (x ∷ filter f ys) (filter f ys)) v ∙ ap (λ t. x ∷ t) e
filter-twice_step p f x ys zs true false u v h e = ap (λ b. cond b (x ∷ filter f ys) (filter f ys)) v ∙ e
filter-twice_step p f x ys zs false true u v h e = absurd (false≢true (sym u ∙ h v))
filter-twice_step p f x ys zs false false u v h e = e

filter-twice : {X : Type 0} (p f : X → Bool) → ((x : X) → f x ≡ true → p x ≡ true) → (xs : List X) → filter f (filter p xs) ≡ filter f xs
filter-twice p f h [] = refl
filter-twice p f h (x ∷ xs) = filter-twice_step p f x (filter p xs) (filter f xs) (p x) (f x) refl refl (h x) (filter-twice p f h xs)

ids_step : (P : List ℕ) (b : BodyData) (ys : List BodyData) (zs : List ℕ) (t : Bool) → map (λ b. b.id) ys ≡ zs → map (λ b. b.id) (cond t (b ∷ ys) ys) ≡ cond t (b.id ∷ zs) zs
ids_step P b ys zs true e = ap (λ t. b.id ∷ t) e
ids_step P b ys zs false e = e

ids_only : (P : List ℕ) (B : List BodyData) → map (λ b. b.id) (only B P) ≡ filter (has P) (map (λ b. b.id) B)
ids_only P [] = refl
ids_only P (b ∷ bs) = ids_step P b (only bs P) (filter (has P) (map (λ b. b.id) bs)) (has P b.id) (ids_only P bs)

mass_only_step : (b : BodyData) (ys : List BodyData) (t : Bool) (n : ℕ) → sum_by (λ b. b.mass) ys ≤ n → sum_by (λ b. b.mass) (cond t (b ∷ ys) ys) ≤ b.mass + n
mass_only_step b ys true n h = omega (arith, sum_by-cons (λ b. b.mass) b ys, h)
mass_only_step b ys false n h = omega (arith, h)

mass_only : (P : List ℕ) (B : List BodyData) → sum_by (λ b. b.mass) (only B P) ≤ sum_by (λ b. b.mass) B
mass_only P [] = omega arith
mass_only P (b ∷ bs) = omega (arith, mass_only_step b (only bs P) (has P b.id) (sum_by (λ b. b.mass) bs) (mass_only P bs), sum_by-cons (λ b. b.mass) b bs)

length_only : (P : List ℕ) (B : List BodyData) → length (only B P) ≤ length B
length_only P B = omega (arith, length-filter (λ b. has P b.id) B, count_by-le-length (λ b. has P b.id) B)

-- a part of bodies are bodies
pub only_bodies : (P : List ℕ) (B : List BodyData) → AreBodies B → AreBodies (only B P)
only_bodies P B a = record {
  valid = record {
    ascending = rw (ids_only P B) (IsStrictlyIncreasing-filter (has P) (map (λ b. b.id) B) a.valid.ascending);
    few = omega (arith, length_only P B, a.valid.few);
    light = omega (arith, mass_only P B, a.valid.light);
  };
  heavy = each-filter (λ b. 1 ≤ b.mass) (λ b. has P b.id) B a.heavy;
  in_box = each-filter (λ b. InBox b.motion.pos) (λ b. has P b.id) B a.in_box;
}

force_axis : (get : V3 → ℤ) → ((v : V3) → v ≡ origin → get v ≡ pos 0) → ((f : V3 → V3) (vs : List V3) → get (totals_by f vs) ≡ total_by (λ v. get (f v)) vs) → (g : Gravity) (B : List BodyData) → AreBodies B → total_by (λ b. get (force_at g B b)) B ≡ pos 0
unfolding forces
force_axis get zeroed axes g B a =
    sym (total-mapped get (force_at g B) B)
    ∙ sym (axes (λ f. f) (map (force_at g B) B))
    ∙ zeroed (totals_by (λ f. f) (map (force_at g B) B)) (sym (sum_of-totals (λ f. f) (map (force_at g B) B)) ∙ forces_cancel g B a)

neg_total : {X : Type 0} (f : X → ℤ) (xs : List X) → total_by (λ x. neg_ℤ (f x)) xs ≡ neg_ℤ (total_by f xs)
neg_total f [] = omega (arith, ints)
neg_total f (x ∷ xs) = omega (arith, ints, neg_total f xs)

change_axis : (get : V3 → ℤ) → ((v w : V3) → get (plus v (negative w)) ≡ get v +ℤ neg_ℤ (get w)) → (t : Bool) (v w : V3) → get (cond t (plus v (negative w)) v) ≡ get v +ℤ cond t (neg_ℤ (get w)) (pos 0)
change_axis get e true v w = e v w
change_axis get e false v w = omega (arith, ints)

changes_axis : (get : V3 → ℤ) → ((v w : V3) → get (plus v (negative w)) ≡ get v +ℤ neg_ℤ (get w)) → (g : Gravity) (P F : List ℕ) (B : List BodyData) → ((id : ℕ) → has F id ≡ true → has P id ≡ true) →
    total_by (λ b. get (force_at g (only B P) b)) (only B P) ≡ pos 0 → total_by (λ b. get (force_at g (only B F) b)) (only B F) ≡ pos 0 → total_by (λ b. get (change g P F B b)) (only B P) ≡ pos 0
unfolding change
changes_axis get e g P F B sub slow quick =
    total-same (λ b. get (change g P F B b)) (λ b. get (force_at g (only B P) b) +ℤ cond (has F b.id) (neg_ℤ (get (force_at g (only B F) b))) (pos 0)) (λ b. change_axis get e (has F b.id) (force_at g (only B P) b) (force_at g (only B F) b)) (only B P)
    ∙ total-plus (λ b. get (force_at g (only B P) b)) (λ b. cond (has F b.id) (neg_ℤ (get (force_at g (only B F) b))) (pos 0)) (only B P)
    ∙ ap (λ t. t +ℤ total_by (λ b. cond (has F b.id) (neg_ℤ (get (force_at g (only B F) b))) (pos 0)) (only B P)) slow
    ∙ ap (λ t. pos 0 +ℤ t)
    (sym (total-filter (λ b. has F b.id) (λ b. neg_ℤ (get (force_at g (only B F) b))) (only B P))
    ∙ ap (total_by (λ b. neg_ℤ (get (force_at g (only B F) b)))) (filter-twice (λ b. has P b.id) (λ b. has F b.id) (λ b. sub b.id) B)
    ∙ neg_total (λ b. get (force_at g (only B F) b)) (only B F)
    ∙ ap neg_ℤ quick)
    ∙ omega (arith, ints)

pub changes_cancel : (g : Gravity) (P F : List ℕ) (B : List BodyData) → AreBodies B → ((id : ℕ) → has F id ≡ true → has P id ≡ true) → sum_of (change g P F B) (only B P) ≡ origin
changes_cancel g P F B a sub =
    let p : AreBodies (only B P) = only_bodies P B a in
    let f : AreBodies (only B F) = only_bodies F B a in
    let x : total_by (λ b. (change g P F B b).x) (only B P) ≡ pos 0 =
    changes_axis (λ v. v.x) (λ v w. refl) g P F B sub (force_axis (λ v. v.x) (λ v e. ap (λ t. t.x) e) (λ f vs. refl) g (only B P) p) (force_axis (λ v. v.x) (λ v e. ap (λ t. t.x) e) (λ f vs. refl) g (only B F) f) in
    let y : total_by (λ b. (change g P F B b).y) (only B P) ≡ pos 0 =
    changes_axis (λ v. v.y) (λ v w. refl) g P F B sub (force_axis (λ v. v.y) (λ v e. ap (λ t. t.y) e) (λ f vs. refl) g (only B P) p) (force_axis (λ v. v.y) (λ v e. ap (λ t. t.y) e) (λ f vs. refl) g (only B F) f) in
    let z : total_by (λ b. (change g P F B b).z) (only B P) ≡ pos 0 =
    changes_axis (λ v. v.z) (λ v w. refl) g P F B sub (force_axis (λ v. v.z) (λ v e. ap (λ t. t.z) e) (λ f vs. refl) g (only B P) p) (force_axis (λ v. v.z) (λ v e. ap (λ t. t.z) e) (λ f vs. refl) g (only B F) f) in
    sum_of-totals (change g P F B) (only B P) ∙ (λ i. record { x = x i; y = y i; z = z i })

pub kick_keeps : (g : Gravity) (P F : List ℕ) (B : List BodyData) → AreBodies B → ((id : ℕ) → has F id ≡ true → has P id ≡ true) → (h : ℕ) → total (kicked_bodies h P (change g P F B) B) ≡ total B
kick_keeps g P F B a sub h = kick_total h P (change g P F B) B (changes_cancel g P F B a sub)
