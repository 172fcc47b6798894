-- What steps leave of the bodies can be written into a file, as they could be before.
use Rattle.std.proofs.Common.{◌≡◌, ◌<◌, ◌≤◌, ℕ, zero, suc, ◌+◌, ◌^◌, Bool, true, false, cond, not, ◌==◌, ℤ, pos, negsuc, unsigned_abs, List, [], ◌∷◌, length, map, sum_by, All, Option, Some, None, refl, ap, sym, ◌∙◌, subst, arith, mod-lt, le_of_suc-le-suc}
use Rattle.std.specs.List.{AllByRecursion}
use Rattle.std.specs.List.Sorted.{IsStrictlyIncreasing}
use Rattle.std.specs.Int.{int_rem_euclid}
use Rattle.std.proofs.lemmas.Bool.{eqb-true, leb-true}
use Rattle.std.proofs.lemmas.Int.{ints}
use Rattle.std.proofs.lemmas.List.{length-map}
use Rattle.std.proofs.lemmas.List.Elements.{All-head, All-tail}
use Rattle.std.proofs.lemmas.List.Folds.{fold-map}
use Rattle.fixed_point.specs.declared.V3.{V3}
use Rattle.fixed_point.specs.Fixed.{kicked, IsMomentum}
use Rattle.nbody_model.specs.Bodies.{BodyData, IsInRange, IsValid, has, only}
use Rattle.nbody_model.specs.Setups.{SetupData}
use Rattle.nbody_model.specs.Tables.{Rules}
use Rattle.nbody_model.specs.Steps.{at_each, drifted, drift, change, kicked_by, kicked_bodies, is_momentum, axis_out, first_out}
use Rattle.nbody_model.specs.Evolve.{Kicked, Progress, tell, MomRange, Going, Refused, record_of, kick, evolve}
use Rattle.model_laws.specs.Preserved.{Holds, IsPreserved}
use Rattle.model_laws.proofs.Preserved.{evolves}
use Rattle.particle_set.specs.Stored.{IsStorable}

-- the ids and masses are those of B, and a file has room for each number
pub record AreSafe (B now : List BodyData) : Type 0 where
  pub ids : map (λ b. b.id) now ≡ map (λ b. b.id) B
  pub masses : map (λ b. b.mass) now ≡ map (λ b. b.mass) B
  pub each : AllByRecursion IsStorable now

-- ---- lists

one_by_one : {X : Type 0} (P : X → Type 0) (xs : List X) → All P xs → AllByRecursion P xs
one_by_one P [] a = tt
one_by_one P (x ∷ xs) a = (All-head P x xs a, one_by_one P xs (All-tail P x xs a))

pub together : {X : Type 0} (P : X → Type 0) (xs : List X) → AllByRecursion P xs → All P xs
together P [] a k d l = absurd (omega (arith, l))
together P (x ∷ xs) a zero d l = a.0
together P (x ∷ xs) a (suc k) d l = together P xs a.1 k d (le_of_suc-le-suc l)

pub safe_first : (B : List BodyData) → All IsStorable B → AreSafe B B
safe_first B a = record { ids = refl; masses = refl; each = one_by_one IsStorable B a }

-- they are as many, in the same order, and as light
pub still_valid : (B now : List BodyData) → AreSafe B now → IsValid B → IsValid now
still_valid B now s v =
    let lengths : length now ≡ length B = sym (length-map now (λ b. b.id)) ∙ ap length s.ids ∙ length-map B (λ b. b.id) in
    let light : sum_by (λ b. b.mass) now ≡ sum_by (λ b. b.mass) B = sym (fold-map (λ a m. a + m) (λ b. b.mass) 0 now) ∙ ap (sum_by (λ m. m)) s.masses ∙ fold-map (λ a m. a + m) (λ b. b.mass) 0 B in
    record {
      ascending = subst IsStrictlyIncreasing (sym s.ids) v.ascending;
      few = subst (λ n. n ≤ 1048576) (sym lengths) v.few;
      light = subst (λ n. n ≤ 2 ^ 32) (sym light) v.light;
    }

-- ---- some bodies change, and keep id and mass

same_number : (get : BodyData → ℕ) (t : Bool) (c b : BodyData) → get c ≡ get b → get (cond t c b) ≡ get b
same_number get true c b e = e
same_number get false c b e = refl

each_same : (get : BodyData → ℕ) (P : List ℕ) (f : BodyData → BodyData) → ((b : BodyData) → get (f b) ≡ get b) → (B : List BodyData) → map get (at_each P f B) ≡ map get B
each_same get P f e [] = refl
each_same get P f e (b ∷ B) = λ i. same_number get (has P b.id) (f b) b (e b) i ∷ each_same get P f e B i

-- ---- the drift

below_width : (z : ℤ) → unsigned_abs (int_rem_euclid z (pos (2 ^ 32))) < 2 ^ 32
below_width (pos a) = mod-lt a (omega arith)
below_width (negsuc a) = omega arith

drifted_fits : (s : SetupData) (ticks : ℕ) (b : BodyData) → IsStorable b → IsStorable (drifted s ticks b)
drifted_fits s ticks b h = record {
  kind_low = h.kind_low;
  kind_high = h.kind_high;
  heavy = h.heavy;
  light = h.light;
  id = h.id;
  in_box = record { below_x = below_width _; below_y = below_width _; below_z = below_width _ };
  momentum = h.momentum;
}

either_fits : (t : Bool) (c b : BodyData) → IsStorable c → IsStorable b → IsStorable (cond t c b)
either_fits true c b h g = h
either_fits false c b h g = g

drift_fits : (s : SetupData) (P : List ℕ) (ticks : ℕ) (B : List BodyData) → AllByRecursion IsStorable B → AllByRecursion IsStorable (drift s P ticks B)
drift_fits s P ticks [] a = tt
drift_fits s P ticks (b ∷ B) a = (either_fits (has P b.id) (drifted s ticks b) b (drifted_fits s ticks b a.0) a.0, drift_fits s P ticks B a.1)

-- ---- the kick

in_size : (p : ℤ) → unsigned_abs p ≤ 2 ^ 62 → IsMomentum p
in_size p h = (omega (arith, ints), omega (arith, ints))

momentum_in : (p : ℤ) → is_momentum p ≡ true → IsMomentum p
momentum_in p e = in_size p (leb-true (unsigned_abs p) (2 ^ 62) e)

all_three : (x y z : Bool) → cond {A = Option ℕ} (not x) (Some 0) (cond (not y) (Some 1) (cond (not z) (Some 2) None)) ≡ None → (x ≡ true) × (y ≡ true) × (z ≡ true)
all_three true true true e = (refl, refl, refl)
all_three true true false e = absurd cc
all_three true false z e = absurd cc
all_three false y z e = absurd cc

in_range : (p : V3) → axis_out p ≡ None → IsInRange p
in_range p e =
    let h = all_three (is_momentum p.x) (is_momentum p.y) (is_momentum p.z) e in
    record { on_x = momentum_in p.x h.0; on_y = momentum_in p.y h.1; on_z = momentum_in p.z h.2 }

-- no body of a list is out of range: neither the first nor a later one
neither_out : (o : Option ℕ) (id : ℕ) (later : Option (ℕ × ℕ)) → ◌≡◌ {A = Option (ℕ × ℕ)} (elim o [ Some axis ↦ Some (id, axis) | None ↦ later ]) None → (o ≡ None) × (later ≡ None)
neither_out None id later e = (refl, e)
neither_out (Some axis) id later e = absurd cc

-- a body after a kick
pushed : ℕ → (BodyData → V3) → BodyData → BodyData
pushed h v b = record b { motion = record { pos = b.motion.pos; mom = kicked_by h b.motion.mom (v b) } }

pushed_fits : (h : ℕ) (v : BodyData → V3) (b : BodyData) → IsStorable b → IsInRange (kicked_by h b.motion.mom (v b)) → IsStorable (pushed h v b)
unfolding pushed
pushed_fits h v b s r = record { kind_low = s.kind_low; kind_high = s.kind_high; heavy = s.heavy; light = s.light; id = s.id; in_box = s.in_box; momentum = r }

-- of a body that may be kicked, in front of the others
kicked_one : (h : ℕ) (P : List ℕ) (v : BodyData → V3) (b : BodyData) (rest : List BodyData) (t : Bool) → has P b.id ≡ t → IsStorable b → first_out (cond (has P b.id) (cond t (pushed h v b) b ∷ rest) rest) ≡ None →
    IsStorable (cond t (pushed h v b) b) × (first_out rest ≡ None)
unfolding pushed
kicked_one h P v b rest true e s n =
    let m : first_out (pushed h v b ∷ rest) ≡ None = sym (ap (λ u. first_out (cond u (pushed h v b ∷ rest) rest)) e) ∙ n in
    let o = neither_out (axis_out (kicked_by h b.motion.mom (v b))) b.id (first_out rest) m in
    (pushed_fits h v b s (in_range (kicked_by h b.motion.mom (v b)) o.0), o.1)
kicked_one h P v b rest false e s n = (s, sym (ap (λ u. first_out (cond u (b ∷ rest) rest)) e) ∙ n)

same_place : (P : List ℕ) (c b : BodyData) (t : Bool) → c.id ≡ b.id → has P (cond t c b).id ≡ has P b.id
same_place P c b true e = ap (has P) e
same_place P c b false e = refl

kick_fits : (h : ℕ) (P : List ℕ) (v : BodyData → V3) (B : List BodyData) → AllByRecursion IsStorable B → first_out (only (kicked_bodies h P v B) P) ≡ None → AllByRecursion IsStorable (kicked_bodies h P v B)
unfolding pushed
kick_fits h P v [] a n = tt
kick_fits h P v (b ∷ B) a n =
    let c : BodyData = cond (has P b.id) (pushed h v b) b in
    let rest : List BodyData = only (kicked_bodies h P v B) P in
    let m : first_out (cond (has P b.id) (c ∷ rest) rest) ≡ None = sym (ap (λ u. first_out (cond u (c ∷ rest) rest)) (same_place P (pushed h v b) b (has P b.id) refl)) ∙ n in
    let o = kicked_one h P v b rest (has P b.id) refl a.0 m in
    (o.0, kick_fits h P v B a.1 o.1)

-- a kick by nothing
no_kick : (p v : ℤ) → kicked p 0 v ≡ p
no_kick p v = omega (arith, ints)

still_fits : (h : ℕ) (P : List ℕ) (v : BodyData → V3) → h ≡ 0 → (B : List BodyData) → AllByRecursion IsStorable B → AllByRecursion IsStorable (kicked_bodies h P v B)
unfolding pushed
still_fits h P v e [] a = tt
still_fits h P v e (b ∷ B) a =
    let same : (p c : ℤ) → p ≡ kicked p h c = λ p c. sym (no_kick p c) ∙ ap (λ n. kicked p n c) (sym e) in
    let m = b.motion.mom in
    let w = v b in
    let r : IsInRange (kicked_by h m w) = record { on_x = subst IsMomentum (same m.x w.x) a.0.momentum.on_x; on_y = subst IsMomentum (same m.y w.y) a.0.momentum.on_y; on_z = subst IsMomentum (same m.z w.z) a.0.momentum.on_z } in
    (either_fits (has P b.id) (pushed h v b) b (pushed_fits h v b a.0 r) a.0, still_fits h P v e B a.1)

unrefused : (t : Bool) (h : ℕ) (P : List ℕ) (v : BodyData → V3) (B : List BodyData) → (h == 0) ≡ t → cond t None (first_out (only (kicked_bodies h P v B) P)) ≡ None → AllByRecursion IsStorable B → AllByRecursion IsStorable (kicked_bodies h P v B)
unrefused true h P v B e n a = still_fits h P v (eqb-true h 0 e) B a
unrefused false h P v B e n a = kick_fits h P v B a n

-- ---- a whole step

safe_after_kick : (B : List BodyData) (h : ℕ) (P : List ℕ) (v : BodyData → V3) (now : List BodyData) → AreSafe B now → cond (h == 0) None (first_out (only (kicked_bodies h P v now) P)) ≡ None → AreSafe B (kicked_bodies h P v now)
unfolding pushed
safe_after_kick B h P v now s n = record {
  ids = each_same (λ b. b.id) P (pushed h v) (λ b. refl) now ∙ s.ids;
  masses = each_same (λ b. b.mass) P (pushed h v) (λ b. refl) now ∙ s.masses;
  each = unrefused (h == 0) h P v now refl n s.each;
}

kick_ends : (B : List BodyData) (p q : Progress) (bin tick : ℕ) (out : Option (ℕ × ℕ)) → AreSafe B p.bodies → (out ≡ None → AreSafe B q.bodies) →
    Holds (λ x. AreSafe B x.bodies) (elim out [ Some first ↦ Refused p (MomRange tick bin first.0 first.1) | None ↦ Going q ])
kick_ends B p q bin tick None h g = g refl
kick_ends B p q bin tick (Some first) h g = h

pub preserved : (r : Rules) (B : List BodyData) → IsPreserved r (λ p. AreSafe B p.bodies)
unfolding kick
preserved r B = record {
  binned = λ F p s. s;
  asked = λ C p s. s;
  rested = λ tick p s. s;
  drifted = λ P ticks p s. record {
    ids = each_same (λ b. b.id) P (drifted r.gravity.setup ticks) (λ b. refl) p.bodies ∙ s.ids;
    masses = each_same (λ b. b.mass) P (drifted r.gravity.setup ticks) (λ b. refl) p.bodies ∙ s.masses;
    each = drift_fits r.gravity.setup P ticks p.bodies s.each;
  };
  kicked = λ bin tick h P F p part s.
      let C = kicked_bodies h P (change r.gravity P F p.bodies) p.bodies in
      kick_ends B p (tell (Kicked (record_of r tick bin P F p.bodies C)) (record p { bodies = C })) bin tick
      (cond (h == 0) None (first_out (only C P))) s (λ n. safe_after_kick B h P (change r.gravity P F p.bodies) p.bodies s n);
}

pub evolve_safe : (r : Rules) (stop : Option ℕ) (bin : ℕ) (P : List ℕ) (t : ℕ) (B : List BodyData) (p : Progress) → AreSafe B p.bodies → Holds (λ q. AreSafe B q.bodies) (evolve r stop bin P t p)
evolve_safe r stop bin P t B p s = evolves r (λ q. AreSafe B q.bodies) (preserved r B) stop bin P t p s
