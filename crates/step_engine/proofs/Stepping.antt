-- A step by its stages.
use Rattle.std.proofs.Common.{◌≡◌, ◌≢◌, ◌≤◌, ◌==◌, ◌&&◌, ◌+◌, ◌-◌, ◌^◌, ℕ, zero, suc, Bool, true, false, cond, not, List, [], ◌∷◌, ◌++◌, append_assoc, length, slice_index, add-one, Option, None, Result, Ok, Err, refl, ap, sym, ◌∙◌, subst, arith}
use Rattle.std.proofs.lemmas.Bool.{ne_eqb, eq-eqb}
use Rattle.std.proofs.lemmas.Nat.{pow_pos}
use Rattle.nbody_model.specs.Bodies.{BodyData, only}
use Rattle.nbody_model.specs.Tables.{Gravity, Rules, ExpansionData}
use Rattle.nbody_model.specs.Factors.{kick_factor}
use Rattle.nbody_model.specs.Steps.{fast}
use Rattle.nbody_model.specs.Evolve.{Happening, Asked, Binned, Progress, tell, StepRange, Stepped, Going, Refused, Resting, ◌>>=◌, inside, is_empty, is_less, ask_if, rest, between, step_by, evolve}
use Rattle.model_laws.specs.Preserved.{IsPart}
use Rattle.model_laws.specs.Conserved.{IsConserved}
use Rattle.kick_drift.specs.Parts.{ids_at, AreAscending}
use Rattle.step_engine.specs.declared.halt.Halt.{Halt}
use Rattle.step_engine.specs.declared.halt.Halt.TheVariants as halts
use Rattle.step_engine.specs.Told.{Finder}
use Rattle.step_engine.specs.Stands.{Now, IsAt}
use Rattle.step_engine.specs.Stages.{rules, two_finer, first_kick, inner, last, asks_fast, from_kick, from_ask}
use Rattle.step_engine.specs.Ends.{NoYes, trail_of, IsRefused, Makes}
use Rattle.step_engine.proofs.Times.{twice}
use Rattle.step_engine.proofs.Joins.{joined, halted, same, More, OnlyAdds, all_there, conserved_on}
use Rattle.step_engine.proofs.Leaves.{Leads, wanting}
use Rattle.step_engine.specs.Taken.{Tale}
use Rattle.step_engine.proofs.Deepening.{deepened, passed}
use Rattle.step_engine.specs.Deeper.{DeepensBy}
use Rattle.step_engine.proofs.Keeps.{same_places, ascending_on}
use Rattle.step_engine.proofs.Adds.{kick_adds, close_adds, rest_adds, evolve_adds, between_adds}

-- as many kicks at most as a step of a bin makes
abbrev pub most_of : ℕ → ℕ
most_of bin = 2 ^ (bin + 1) - 2

pub next_power : (bin : ℕ) → 2 ^ (bin + 1) ≡ 2 ^ bin + 2 ^ bin
next_power bin = let e : bin + 1 - 1 ≡ bin = omega arith in twice (bin + 1) (omega arith) ∙ ap (λ n. 2 ^ n + 2 ^ n) e

half_most : (bin : ℕ) → 1 ≤ bin → most_of (bin - 1) ≡ 2 ^ bin - 2
half_most bin h = let e : bin - 1 + 1 ≡ bin = omega arith in ap (λ n. 2 ^ n - 2) e

pub adds_on : (s : Stepped) (f : Progress → Stepped) (base : List Happening) → OnlyAdds f → More base (trail_of s) → More base (trail_of (s >>= f))
adds_on (Going p) f base k m = let n = k p in record { more = m.more ++ n.more; is = n.is ∙ ap (λ xs. xs ++ n.more) m.is ∙ append_assoc base m.more n.more }
adds_on (Refused p e) f base k m = m
adds_on (Resting p u Fs) f base k m = m

pub ask_adds : (b : Bool) (F : List ℕ) (q : Progress) → More q.trail (ask_if b F q).trail
ask_adds true F q = record { more = Asked (only q.bodies F) ∷ []; is = refl }
ask_adds false F q = all_there q.trail

pub empty_ids : (B : List BodyData) (ps : List ℕ) → is_empty (ids_at B ps) ≡ is_empty ps
empty_ids B [] = refl
empty_ids B (p ∷ ps) = refl

module _ (passes : Finder) where
  -- ---- the two finer steps

  -- the second of two steps by what stands there
  moved : {T : Type 0} (n most f t : ℕ) (X : Gravity → List ℕ → Option ℕ → Progress → Stepped) (part : List ℕ) (answer : Result T Halt) (A B C Z : Now) → B.gravity ≡ A.gravity → IsConserved A.bodies B.bodies [] →
      Makes {T = T} passes n most f t (X B.gravity (ids_at B.bodies part)) answer C Z → Makes {T = T} passes n most f t (X A.gravity (ids_at A.bodies part)) answer C Z
  moved n most f t X part answer A B C Z g k m =
      subst (λ Q. Makes passes n most f t (X A.gravity Q) answer C Z) (same_places A.bodies B.bodies part k) (subst (λ h. Makes passes n most f t (X h (ids_at B.bodies part)) answer C Z) g m)

  pub two_first : {T U : Type 0} (e : Option ExpansionData) (bin : ℕ) (F : List ℕ) (t : ℕ) (h : Halt) (g : Gravity) (A Z : Now) → 1 ≤ bin →
      Makes {T = T} passes (bin - 1) (most_of (bin - 1)) t (t + 2 ^ (bin - 1)) (λ stop p. evolve (rules g e) stop (bin - 1) F t p) (Err h) A Z → Makes {T = U} passes (bin - 1) (2 ^ (bin + 1) - 4) t (t + 2 ^ bin) (two_finer (rules g e) bin F t) (Err h) A Z
  two_first {T = T} {U = U} e bin F t h g A Z some one =
      let r = rules g e in
      let n = bin - 1 in
      let half = 2 ^ (bin - 1) in
      let w = twice bin some in
      let next = next_power bin in
      let m = half_most bin some in
      let pos : 1 ≤ half = pow_pos (bin - 1) in
      halted passes {T = T} {U = U} n (most_of n) (2 ^ (bin + 1) - 4) t (t + half) t (t + 2 ^ bin) (λ stop p. evolve r stop n F t p >>= (λ q. rest stop (t + half) q)) (λ stop q. evolve r stop n F (t + half) q) h A Z (omega arith) (omega (arith, w)) (omega (arith, m, next, w, pos)) (evolve_adds r n F (t + half))
      (halted passes {T = T} {U = T} n (most_of n) (most_of n) t (t + half) t (t + half) (λ stop p. evolve r stop n F t p) (λ stop q. rest stop (t + half) q) h A Z (omega arith) (omega arith) (omega arith) (rest_adds r (t + half)) one)

  pub two_rest : {T U V : Type 0} (e : Option ExpansionData) (bin : ℕ) (F : List ℕ) (t u : ℕ) (x : T) (h : Halt) (g : Gravity) (A B Z : Now) → 1 ≤ bin → u ≡ t + 2 ^ (bin - 1) →
      Makes {T = T} passes (bin - 1) (most_of (bin - 1)) t (t + 2 ^ (bin - 1)) (λ stop p. evolve (rules g e) stop (bin - 1) F t p) (Ok x) A B → Makes {T = U} passes (bin - 1) 0 (u - 1) (u + 1) (λ stop p. rest stop u p) (Err h) B Z →
      Makes {T = V} passes (bin - 1) (2 ^ (bin + 1) - 4) t (t + 2 ^ bin) (two_finer (rules g e) bin F t) (Err h) A Z
  two_rest {U = U} {V = V} e bin F t u x h g A B Z some at one two =
      let r = rules g e in
      let n = bin - 1 in
      let half = 2 ^ (bin - 1) in
      let w = twice bin some in
      let next = next_power bin in
      let m = half_most bin some in
      let pos : 1 ≤ half = pow_pos (bin - 1) in
      let two' : Makes {T = U} passes n 0 (t + half - 1) (t + half + 1) (λ stop p. rest stop (t + half) p) (Err h) B Z = subst (λ v. Makes {T = U} passes n 0 (v - 1) (v + 1) (λ stop p. rest stop v p) (Err h) B Z) at two in
      halted passes {T = U} {U = V} n (most_of n + 0) (2 ^ (bin + 1) - 4) t (t + half + 1) t (t + 2 ^ bin) (λ stop p. evolve r stop n F t p >>= (λ q. rest stop (t + half) q)) (λ stop q. evolve r stop n F (t + half) q) h A Z (omega arith) (omega (arith, w, pos)) (omega (arith, m, next, w, pos)) (evolve_adds r n F (t + half))
      (joined passes n (most_of n) 0 t (t + half) (t + half - 1) (t + half + 1) (λ stop p. evolve r stop n F t p) (λ stop q. rest stop (t + half) q) x (Err h) A B Z (omega (arith, pos)) (omega arith) (omega (arith, pos)) one two')

  pub two_whole : {T U V : Type 0} (e : Option ExpansionData) (bin : ℕ) (fast : List ℕ) (t u : ℕ) (x : T) (y : U) (answer : Result V Halt) (A B C Z : Now) → 1 ≤ bin → u ≡ t + 2 ^ (bin - 1) →
      Makes {T = T} passes (bin - 1) (most_of (bin - 1)) t (t + 2 ^ (bin - 1)) (λ stop p. evolve (rules A.gravity e) stop (bin - 1) (ids_at A.bodies fast) t p) (Ok x) A B →
      Makes {T = U} passes (bin - 1) 0 (u - 1) (u + 1) (λ stop p. rest stop u p) (Ok y) B C →
      Makes {T = V} passes (bin - 1) (most_of (bin - 1)) u (u + 2 ^ (bin - 1)) (λ stop p. evolve (rules B.gravity e) stop (bin - 1) (ids_at B.bodies fast) u p) answer C Z →
      Makes {T = V} passes (bin - 1) (2 ^ (bin + 1) - 4) t (t + 2 ^ bin) (two_finer (rules A.gravity e) bin (ids_at A.bodies fast) t) answer A Z
  two_whole {T = T} {U = U} {V = V} e bin fast t u x y answer A B C Z some at one two three =
      let r = rules A.gravity e in
      let F = ids_at A.bodies fast in
      let n = bin - 1 in
      let half = 2 ^ (bin - 1) in
      let w = twice bin some in
      let next = next_power bin in
      let m = half_most bin some in
      let pos : 1 ≤ half = pow_pos (bin - 1) in
      let two' : Makes {T = U} passes n 0 (t + half - 1) (t + half + 1) (λ stop p. rest stop (t + half) p) (Ok y) B C = subst (λ v. Makes {T = U} passes n 0 (v - 1) (v + 1) (λ stop p. rest stop v p) (Ok y) B C) at two in
      let three' : Makes {T = V} passes n (most_of n) (t + half) (t + half + half) (λ stop p. evolve r stop n F (t + half) p) answer C Z =
      moved n (most_of n) (t + half) (t + half + half) (λ g Q stop p. evolve (rules g e) stop n Q (t + half) p) fast answer A B C Z one.gravity one.conserved
      (subst (λ v. Makes {T = V} passes n (most_of n) v (v + half) (λ stop p. evolve (rules B.gravity e) stop n (ids_at B.bodies fast) v p) answer C Z) at three) in
      let end : t + half + half ≡ t + 2 ^ bin = omega (arith, w) in
      let count : most_of n + 0 + most_of n ≡ 2 ^ (bin + 1) - 4 = omega (arith, m, next, w, pos) in
      subst (λ v. Makes passes n v t (t + 2 ^ bin) (two_finer r bin F t) answer A Z) count
      (subst (λ v. Makes passes n (most_of n + 0 + most_of n) t v (two_finer r bin F t) answer A Z) end
      (joined passes n (most_of n + 0) (most_of n) t (t + half + 1) (t + half) (t + half + half) (λ stop p. evolve r stop n F t p >>= (λ q. rest stop (t + half) q)) (λ stop q. evolve r stop n F (t + half) q) y answer A C Z (omega arith) (omega (arith, pos)) (omega arith)
      (joined passes n (most_of n) 0 t (t + half) (t + half - 1) (t + half + 1) (λ stop p. evolve r stop n F t p) (λ stop q. rest stop (t + half) q) x (Ok y) A B C (omega (arith, pos)) (omega arith) (omega (arith, pos)) one two') three'))

  -- ---- between the kicks

  pub staying : {T : Type 0} (n most f t : ℕ) (x : T) (A : Now) → IsConserved A.bodies A.bodies [] → Makes {T = T} passes n most f t (λ stop p. Going p) (Ok x) A A
  staying n most f t x A k = record {
    gravity = refl;
    fixed = refl;
    conserved = k;
    cause = record { faults = refl; yes = refl; depth = refl };
    few = omega arith;
    counted = λ c. c;
    shows = λ a before p w stop o. w;
  }

  inner_is : (r : Rules) (bin : ℕ) (F : List ℕ) (t : ℕ) (stop : Option ℕ) (p : Progress) → is_empty F ≡ false → inner r bin F t stop p ≡ inside (F ∷ []) (two_finer r bin F t stop p)
  unfolding between
  inner_is r bin F t stop p e = ap (λ b. cond b (Going p) (inside (F ∷ []) (two_finer r bin F t stop p))) e

  inner_none : (r : Rules) (bin : ℕ) (F : List ℕ) (t : ℕ) (stop : Option ℕ) (p : Progress) → is_empty F ≡ true → inner r bin F t stop p ≡ Going p
  unfolding between
  inner_none r bin F t stop p e = ap (λ b. cond b (Going p) (inside (F ∷ []) (two_finer r bin F t stop p))) e

  pub between_none : {T : Type 0} (n most f u : ℕ) (r : Rules) (bin : ℕ) (fast : List ℕ) (t : ℕ) (x : T) (A : Now) → IsConserved A.bodies A.bodies [] → is_empty fast ≡ true → Makes {T = T} passes n most f u (inner r bin (ids_at A.bodies fast) t) (Ok x) A A
  between_none n most f u r bin fast t x A k e =
      same passes n most f u (inner r bin (ids_at A.bodies fast) t) (λ stop p. Going p) (Ok x) A A (λ stop p b. inner_none r bin (ids_at A.bodies fast) t stop p (empty_ids A.bodies fast ∙ e)) (staying n most f u x A k)

  pub between_made : {T : Type 0} (most f u : ℕ) (r : Rules) (bin : ℕ) (fast : List ℕ) (t : ℕ) (x : T) (A Z : Now) → 1 ≤ bin → is_empty fast ≡ false →
      Makes {T = T} passes (bin - 1) most f u (two_finer r bin (ids_at A.bodies fast) t) (Ok x) A Z → Makes {T = T} passes bin most f u (inner r bin (ids_at A.bodies fast) t) (Ok x) A Z
  between_made most f u r bin fast t x A Z some e m =
      let F = ids_at A.bodies fast in
      let n : bin - 1 + 1 ≡ bin = omega arith in
      same passes bin most f u (inner r bin F t) (λ stop p. inside (F ∷ []) (two_finer r bin F t stop p)) (Ok x) A Z (λ stop p b. inner_is r bin F t stop p (empty_ids A.bodies fast ∙ e))
      (subst (λ k. Makes passes k most f u (λ stop p. inside (F ∷ []) (two_finer r bin F t stop p)) (Ok x) A Z) n (passed passes (bin - 1) most f u (F ∷ []) (two_finer r bin F t) x A Z m))

  pub between_halted : {T : Type 0} (most f u : ℕ) (r : Rules) (bin : ℕ) (fast : List ℕ) (t : ℕ) (h : Halt) (A Z : Now) (D : List ℕ) → 1 ≤ bin → is_empty fast ≡ false → AreAscending A.bodies fast → DeepensBy h fast Z.depth D →
      Makes {T = T} passes (bin - 1) most f u (two_finer r bin (ids_at A.bodies fast) t) (Err h) A Z → Makes {T = T} passes bin most f u (inner r bin (ids_at A.bodies fast) t) (Err h) A (record Z { depth = D })
  between_halted {T = T} most f u r bin fast t h A Z D some e a d m =
      let F = ids_at A.bodies fast in
      let n : bin - 1 + 1 ≡ bin = omega arith in
      same passes {T = T} bin most f u (inner r bin F t) (λ stop p. inside (F ∷ []) (two_finer r bin F t stop p)) (Err h) A (record Z { depth = D }) (λ stop p b. inner_is r bin F t stop p (empty_ids A.bodies fast ∙ e))
      (subst (λ k. Makes {T = T} passes k most f u (λ stop p. inside (F ∷ []) (two_finer r bin F t stop p)) (Err h) A (record Z { depth = D })) n
      (subst (λ Q. Makes {T = T} passes (bin - 1 + 1) most f u (λ stop p. inside (Q ∷ []) (two_finer r bin F t stop p)) (Err h) A (record Z { depth = D })) (same_places A.bodies Z.bodies fast m.conserved)
      (deepened passes {T = T} (bin - 1) most f u fast (two_finer r bin F t) h A Z D (ascending_on A.bodies Z.bodies fast m.conserved a) d m)))

  -- ---- from the first kick on

  total_of : (bin : ℕ) → 1 ≤ bin → 1 + (2 ^ (bin + 1) - 4) + 1 ≡ most_of bin
  total_of bin some = let pos : 1 ≤ 2 ^ (bin - 1) = pow_pos (bin - 1) in omega (arith, next_power bin, twice bin some, pos)

  pub kick_halts : {T U : Type 0} (e : Option ExpansionData) (bin : ℕ) (P F : List ℕ) (t : ℕ) (h : Halt) (g : Gravity) (A Z : Now) → 1 ≤ bin → IsPart F P → Makes {T = T} passes bin 1 t t (first_kick (rules g e) bin P F t) (Err h) A Z →
      Makes {T = U} passes bin (most_of bin) t (t + 2 ^ bin) (from_kick (rules g e) bin P F t) (Err h) A Z
  kick_halts {T = T} {U = U} e bin P F t h g A Z some part one =
      let r = rules g e in
      let count = total_of bin some in
      halted passes {T = T} {U = U} bin 1 (most_of bin) t t t (t + 2 ^ bin) (λ stop p. first_kick r bin P F t stop p >>= inner r bin F t stop) (last r bin P F t) h A Z (omega arith) (omega arith) (omega (arith, count)) (close_adds r bin P F t part)
      (halted passes {T = T} {U = T} bin 1 1 t t t t (first_kick r bin P F t) (inner r bin F t) h A Z (omega arith) (omega arith) (omega arith) (between_adds r (bin - 1) bin F t) one)

  pub kick_goes : {T U : Type 0} (e : Option ExpansionData) (bin : ℕ) (whole fast : List ℕ) (t : ℕ) (x : T) (answer : Result U Halt) (A B Z : Now) → Makes {T = T} passes bin 1 t t (first_kick (rules A.gravity e) bin (ids_at A.bodies whole) (ids_at A.bodies fast) t) (Ok x) A B →
      Makes {T = U} passes bin (2 ^ (bin + 1) - 4) t (t + 2 ^ bin) (inner (rules B.gravity e) bin (ids_at B.bodies fast) t) answer B Z →
      Makes {T = U} passes bin (1 + (2 ^ (bin + 1) - 4)) t (t + 2 ^ bin) (λ stop p. first_kick (rules A.gravity e) bin (ids_at A.bodies whole) (ids_at A.bodies fast) t stop p >>= inner (rules A.gravity e) bin (ids_at A.bodies fast) t stop) answer A Z
  kick_goes e bin whole fast t x answer A B Z one two =
      let r = rules A.gravity e in
      let P = ids_at A.bodies whole in
      let F = ids_at A.bodies fast in
      joined passes bin 1 (2 ^ (bin + 1) - 4) t t t (t + 2 ^ bin) (first_kick r bin P F t) (inner r bin F t) x answer A B Z (omega arith) (omega arith) (omega arith) one
      (moved bin (2 ^ (bin + 1) - 4) t (t + 2 ^ bin) (λ g Q. inner (rules g e) bin Q t) fast answer A B B Z one.gravity one.conserved two)

  pub inner_halts : {T U V : Type 0} (e : Option ExpansionData) (bin : ℕ) (whole fast : List ℕ) (t : ℕ) (x : T) (h : Halt) (A B Z : Now) → 1 ≤ bin → IsPart (ids_at A.bodies fast) (ids_at A.bodies whole) →
      Makes {T = T} passes bin 1 t t (first_kick (rules A.gravity e) bin (ids_at A.bodies whole) (ids_at A.bodies fast) t) (Ok x) A B →
      Makes {T = U} passes bin (2 ^ (bin + 1) - 4) t (t + 2 ^ bin) (inner (rules B.gravity e) bin (ids_at B.bodies fast) t) (Err h) B Z →
      Makes {T = V} passes bin (most_of bin) t (t + 2 ^ bin) (from_kick (rules A.gravity e) bin (ids_at A.bodies whole) (ids_at A.bodies fast) t) (Err h) A Z
  inner_halts {U = U} {V = V} e bin whole fast t x h A B Z some part one two =
      let r = rules A.gravity e in
      let P = ids_at A.bodies whole in
      let F = ids_at A.bodies fast in
      let count = total_of bin some in
      halted passes {T = U} {U = V} bin (1 + (2 ^ (bin + 1) - 4)) (most_of bin) t (t + 2 ^ bin) t (t + 2 ^ bin) (λ stop p. first_kick r bin P F t stop p >>= inner r bin F t stop) (last r bin P F t) h A Z (omega arith) (omega arith) (omega (arith, count)) (close_adds r bin P F t part)
      (kick_goes e bin whole fast t x (Err h) A B Z one two)

  pub step_ends : {T U V : Type 0} (e : Option ExpansionData) (bin : ℕ) (whole fast : List ℕ) (t : ℕ) (x : T) (y : U) (answer : Result V Halt) (A B C Z : Now) → 1 ≤ bin →
      Makes {T = T} passes bin 1 t t (first_kick (rules A.gravity e) bin (ids_at A.bodies whole) (ids_at A.bodies fast) t) (Ok x) A B →
      Makes {T = U} passes bin (2 ^ (bin + 1) - 4) t (t + 2 ^ bin) (inner (rules B.gravity e) bin (ids_at B.bodies fast) t) (Ok y) B C →
      Makes {T = V} passes bin 1 (t + 2 ^ bin) (t + 2 ^ bin) (last (rules C.gravity e) bin (ids_at C.bodies whole) (ids_at C.bodies fast) t) answer C Z →
      Makes {T = V} passes bin (most_of bin) t (t + 2 ^ bin) (from_kick (rules A.gravity e) bin (ids_at A.bodies whole) (ids_at A.bodies fast) t) answer A Z
  step_ends {V = V} e bin whole fast t x y answer A B C Z some one two three =
      let r = rules A.gravity e in
      let P = ids_at A.bodies whole in
      let F = ids_at A.bodies fast in
      let end = t + 2 ^ bin in
      let g : C.gravity ≡ A.gravity = two.gravity ∙ one.gravity in
      let k : IsConserved A.bodies C.bodies [] = conserved_on A.bodies B.bodies C.bodies one.conserved two.conserved in
      let three' : Makes {T = V} passes bin 1 end end (last r bin P F t) answer C Z =
      moved bin 1 end end (λ h Q. last (rules h e) bin Q F t) whole answer A C C Z g k
      (subst (λ Q. Makes {T = V} passes bin 1 end end (last (rules C.gravity e) bin (ids_at C.bodies whole) Q t) answer C Z) (same_places A.bodies C.bodies fast k) three) in
      subst (λ n. Makes passes bin n t end (from_kick r bin P F t) answer A Z) (total_of bin some)
      (joined passes bin (1 + (2 ^ (bin + 1) - 4)) 1 t end end end (λ stop p. first_kick r bin P F t stop p >>= inner r bin F t stop) (last r bin P F t) y answer A C Z (omega arith) (omega arith) (omega arith) (kick_goes e bin whole fast t x (Ok y) A B C one two) three')

  -- ---- from the forces of the fast part on

  kick_adds_all : (r : Rules) (bin : ℕ) (P F : List ℕ) (t : ℕ) → IsPart F P → OnlyAdds (from_kick r bin P F t None)
  kick_adds_all r bin P F t part q =
      adds_on (first_kick r bin P F t None q >>= inner r bin F t None) (last r bin P F t None) q.trail (close_adds r bin P F t part)
      (adds_on (first_kick r bin P F t None q) (inner r bin F t None) q.trail (between_adds r (bin - 1) bin F t) (kick_adds r bin P F t (kick_factor r.expansion t (t + 2 ^ (bin - 1))) part q))

  pub ask_halts : {T U : Type 0} (e : Option ExpansionData) (bin : ℕ) (P F : List ℕ) (t : ℕ) (h : Halt) (g : Gravity) (A Z : Now) → IsPart F P → Makes {T = T} passes bin 0 t t (asks_fast F) (Err h) A Z → Makes {T = U} passes bin (most_of bin) t (t + 2 ^ bin) (from_ask (rules g e) bin P F t) (Err h) A Z
  ask_halts {T = T} {U = U} e bin P F t h g A Z part one =
      halted passes {T = T} {U = U} bin 0 (most_of bin) t t t (t + 2 ^ bin) (asks_fast F) (from_kick (rules g e) bin P F t) h A Z (omega arith) (omega arith) (omega arith) (kick_adds_all (rules g e) bin P F t part) one

  pub ask_goes : {T U : Type 0} (e : Option ExpansionData) (bin : ℕ) (whole fast : List ℕ) (t : ℕ) (x : T) (answer : Result U Halt) (A B Z : Now) → Makes {T = T} passes bin 0 t t (asks_fast (ids_at A.bodies fast)) (Ok x) A B →
      Makes {T = U} passes bin (most_of bin) t (t + 2 ^ bin) (from_kick (rules B.gravity e) bin (ids_at B.bodies whole) (ids_at B.bodies fast) t) answer B Z →
      Makes {T = U} passes bin (most_of bin) t (t + 2 ^ bin) (from_ask (rules A.gravity e) bin (ids_at A.bodies whole) (ids_at A.bodies fast) t) answer A Z
  ask_goes {U = U} e bin whole fast t x answer A B Z one two =
      let r = rules A.gravity e in
      let P = ids_at A.bodies whole in
      let F = ids_at A.bodies fast in
      let count : 0 + most_of bin ≡ most_of bin = omega arith in
      subst (λ n. Makes {T = U} passes bin n t (t + 2 ^ bin) (from_ask r bin P F t) answer A Z) count
      (joined passes bin 0 (most_of bin) t t t (t + 2 ^ bin) (asks_fast F) (from_kick r bin P F t) x answer A B Z (omega arith) (omega arith) (omega arith) one
      (moved bin (most_of bin) t (t + 2 ^ bin) (λ h Q. from_kick (rules h e) bin Q F t) whole answer A B B Z one.gravity one.conserved
      (subst (λ Q. Makes {T = U} passes bin (most_of bin) t (t + 2 ^ bin) (from_kick (rules B.gravity e) bin (ids_at B.bodies whole) Q t) answer B Z) (same_places A.bodies B.bodies fast one.conserved) two)))

  -- ---- the whole step

  -- the step from the moment its fast part is told
  abbrev from_told : Rules → ℕ → List ℕ → List ℕ → ℕ → Option ℕ → Progress → Stepped
  from_told r bin P F t stop q = ((Going (ask_if (not (is_empty F) && is_less F P) F q) >>= first_kick r bin P F t stop) >>= inner r bin F t stop) >>= last r bin P F t stop

  -- the step with a fast part
  abbrev step_with : Rules → ℕ → List ℕ → ℕ → Option ℕ → Progress → List ℕ → Stepped
  step_with r bin P t stop p F = cond (bin == r.gravity.setup.low_bin && not (is_empty F)) (Refused p (StepRange t (slice_index F 0))) (from_told r bin P F t stop (tell (Binned F) p))

  evolve_is : (r : Rules) (stop : Option ℕ) (bin : ℕ) (P : List ℕ) (t : ℕ) (p : Progress) → 1 ≤ bin → evolve r stop bin P t p ≡ step_by r stop (evolve r stop (bin - 1)) bin P t p
  unfolding evolve
  evolve_is r stop zero P t p h = absurd (omega (arith, h))
  evolve_is r stop (suc c) P t p h = let e : c ≡ suc c - 1 = omega arith in λ i. step_by r stop (evolve r stop (e i)) (add-one c i) P t p

  step_is : (r : Rules) (stop : Option ℕ) (bin : ℕ) (P : List ℕ) (t : ℕ) (p : Progress) → step_by r stop (evolve r stop (bin - 1)) bin P t p ≡ step_with r bin P t stop p (fast r.gravity bin (only p.bodies P))
  unfolding step_by
  step_is r stop bin P t p = refl

  evolve_with : (r : Rules) (stop : Option ℕ) (bin : ℕ) (P F : List ℕ) (t : ℕ) (p : Progress) (B : List BodyData) → 1 ≤ bin → F ≡ fast r.gravity bin (only B P) → p.bodies ≡ B → evolve r stop bin P t p ≡ step_with r bin P t stop p F
  evolve_with r stop bin P F t p B some f b =
      evolve_is r stop bin P t p some ∙ step_is r stop bin P t p ∙ ap (step_with r bin P t stop p) (ap (λ C. fast r.gravity bin (only C P)) b ∙ sym f)

  evolve_told : (r : Rules) (stop : Option ℕ) (bin : ℕ) (P F : List ℕ) (t : ℕ) (p : Progress) (B : List BodyData) → 1 ≤ bin → F ≡ fast r.gravity bin (only B P) → p.bodies ≡ B → (bin == r.gravity.setup.low_bin && not (is_empty F)) ≡ false →
      evolve r stop bin P t p ≡ Going (tell (Binned F) p) >>= from_told r bin P F t stop
  evolve_told r stop bin P F t p B some f b goes =
      evolve_with r stop bin P F t p B some f b ∙ ap (λ c. cond c (Refused p (StepRange t (slice_index F 0))) (from_told r bin P F t stop (tell (Binned F) p))) goes

  and_false : (b : Bool) → (b && false) ≡ false
  and_false true = refl
  and_false false = refl

  and_true : (b : Bool) → (b && true) ≡ b
  and_true true = refl
  and_true false = refl

  told_all : (r : Rules) (bin : ℕ) (P F : List ℕ) (t : ℕ) (stop : Option ℕ) (q : Progress) → length F ≡ length P → from_told r bin P F t stop q ≡ from_kick r bin P F t stop q
  told_all r bin P F t stop q e =
      let none : (not (is_empty F) && is_less F P) ≡ false = ap (λ b. not (is_empty F) && not b) (eq-eqb (length F) (length P) e) ∙ and_false (not (is_empty F)) in
      ap (λ b. ((Going (ask_if b F q) >>= first_kick r bin P F t stop) >>= inner r bin F t stop) >>= last r bin P F t stop) none

  told_some : (r : Rules) (bin : ℕ) (P F : List ℕ) (t : ℕ) (stop : Option ℕ) (q : Progress) → length F ≢ length P → from_told r bin P F t stop q ≡ from_ask r bin P F t stop q
  told_some r bin P F t stop q e =
      let asked : (not (is_empty F) && is_less F P) ≡ not (is_empty F) = ap (λ b. not (is_empty F) && not b) (ne_eqb (length F) (length P) e) ∙ and_true (not (is_empty F)) in
      ap (λ b. ((Going (ask_if b F q) >>= first_kick r bin P F t stop) >>= inner r bin F t stop) >>= last r bin P F t stop) asked

  told_adds : (r : Rules) (bin : ℕ) (P F : List ℕ) (t : ℕ) → IsPart F P → OnlyAdds (from_told r bin P F t None)
  told_adds r bin P F t part q =
      let asked = Going (ask_if (not (is_empty F) && is_less F P) F q) in
      adds_on ((asked >>= first_kick r bin P F t None) >>= inner r bin F t None) (last r bin P F t None) q.trail (close_adds r bin P F t part)
      (adds_on (asked >>= first_kick r bin P F t None) (inner r bin F t None) q.trail (between_adds r (bin - 1) bin F t)
      (adds_on asked (first_kick r bin P F t None) q.trail (kick_adds r bin P F t (kick_factor r.expansion t (t + 2 ^ (bin - 1))) part) (ask_adds (not (is_empty F) && is_less F P) F q)))

  pub evolve_wants : {T : Type 0} (r : Rules) (bin : ℕ) (P : List ℕ) (t : ℕ) (A Z : Now) → Leads (most_of bin) A Z → Z.took ≡ A.took → Z.faults ≡ A.faults → Makes {T = T} passes bin (most_of bin) t (t + 2 ^ bin) (λ stop p. evolve r stop bin P t p) (Err halts.Memory) A Z
  evolve_wants {T = T} r bin P t A Z l k f = wanting passes T bin (most_of bin) t (t + 2 ^ bin) (λ stop p. evolve r stop bin P t p) A Z l (evolve_adds r bin P t) k f

  refused_shown : (a : List ℕ) (before : Tale) (r : Rules) (bin : ℕ) (P F : List ℕ) (t : ℕ) (p : Progress) (A : Now) → (bin == r.gravity.setup.low_bin && not (is_empty F)) ≡ true → IsAt passes a before NoYes p A →
      IsRefused passes a before (StepRange t (slice_index F 0)) (step_with r bin P t None p F) A
  refused_shown a before r bin P F t p A e w = subst (λ c. IsRefused passes a before (StepRange t (slice_index F 0)) (cond c (Refused p (StepRange t (slice_index F 0))) (from_told r bin P F t None (tell (Binned F) p))) A) (sym e) (refl, w)

  pub evolve_refused : {T : Type 0} (r : Rules) (bin : ℕ) (P F : List ℕ) (t id : ℕ) (A : Now) → 1 ≤ bin → IsConserved A.bodies A.bodies [] → F ≡ fast r.gravity bin (only A.bodies P) → (bin == r.gravity.setup.low_bin && not (is_empty F)) ≡ true → id ≡ slice_index F 0 →
      Makes {T = T} passes bin (most_of bin) t (t + 2 ^ bin) (λ stop p. evolve r stop bin P t p) (Err (halts.StepRange t id)) A A
  evolve_refused r bin P F t id A some k f e first = record {
    gravity = refl;
    fixed = refl;
    conserved = k;
    cause = record { faults = refl; yes = refl; depth = refl };
    few = omega arith;
    counted = λ c. c;
    shows = λ a before p w.
        subst (λ n. IsRefused passes a before (StepRange t n) (evolve r None bin P t p) A) (sym first)
        (subst (λ s. IsRefused passes a before (StepRange t (slice_index F 0)) s A) (sym (evolve_with r None bin P F t p A.bodies some f w.bodies)) (refused_shown a before r bin P F t p A e w));
  }

  pub tell_halts : {T U : Type 0} (r : Rules) (bin : ℕ) (P F : List ℕ) (t : ℕ) (h : Halt) (A Z : Now) → 1 ≤ bin → IsPart F P → F ≡ fast r.gravity bin (only A.bodies P) → (bin == r.gravity.setup.low_bin && not (is_empty F)) ≡ false →
      Makes {T = T} passes bin 0 t t (λ stop p. Going (tell (Binned F) p)) (Err h) A Z → Makes {T = U} passes bin (most_of bin) t (t + 2 ^ bin) (λ stop p. evolve r stop bin P t p) (Err h) A Z
  tell_halts {T = T} {U = U} r bin P F t h A Z some part f goes one =
      same passes {T = U} bin (most_of bin) t (t + 2 ^ bin) (λ stop p. evolve r stop bin P t p) (λ stop p. Going (tell (Binned F) p) >>= from_told r bin P F t stop) (Err h) A Z (λ stop p b. evolve_told r stop bin P F t p A.bodies some f b goes)
      (halted passes {T = T} {U = U} bin 0 (most_of bin) t t t (t + 2 ^ bin) (λ stop p. Going (tell (Binned F) p)) (from_told r bin P F t) h A Z (omega arith) (omega arith) (omega arith) (told_adds r bin P F t part) one)

  told_made : {T U : Type 0} (r : Rules) (bin : ℕ) (P F : List ℕ) (t : ℕ) (x : T) (answer : Result U Halt) (A B Z : Now) → 1 ≤ bin → F ≡ fast r.gravity bin (only A.bodies P) → (bin == r.gravity.setup.low_bin && not (is_empty F)) ≡ false →
      Makes {T = T} passes bin 0 t t (λ stop p. Going (tell (Binned F) p)) (Ok x) A B → Makes {T = U} passes bin (most_of bin) t (t + 2 ^ bin) (from_told r bin P F t) answer B Z → Makes {T = U} passes bin (most_of bin) t (t + 2 ^ bin) (λ stop p. evolve r stop bin P t p) answer A Z
  told_made {U = U} r bin P F t x answer A B Z some f goes one two =
      let count : 0 + most_of bin ≡ most_of bin = omega arith in
      same passes bin (most_of bin) t (t + 2 ^ bin) (λ stop p. evolve r stop bin P t p) (λ stop p. Going (tell (Binned F) p) >>= from_told r bin P F t stop) answer A Z (λ stop p b. evolve_told r stop bin P F t p A.bodies some f b goes)
      (subst (λ n. Makes {T = U} passes bin n t (t + 2 ^ bin) (λ stop p. Going (tell (Binned F) p) >>= from_told r bin P F t stop) answer A Z) count
      (joined passes bin 0 (most_of bin) t t t (t + 2 ^ bin) (λ stop p. Going (tell (Binned F) p)) (from_told r bin P F t) x answer A B Z (omega arith) (omega arith) (omega arith) one two))

  pub evolve_all : {T U : Type 0} (r : Rules) (bin : ℕ) (P F : List ℕ) (t : ℕ) (x : T) (answer : Result U Halt) (A B Z : Now) → 1 ≤ bin → F ≡ fast r.gravity bin (only A.bodies P) → (bin == r.gravity.setup.low_bin && not (is_empty F)) ≡ false → length F ≡ length P →
      Makes {T = T} passes bin 0 t t (λ stop p. Going (tell (Binned F) p)) (Ok x) A B → Makes {T = U} passes bin (most_of bin) t (t + 2 ^ bin) (from_kick r bin P F t) answer B Z → Makes {T = U} passes bin (most_of bin) t (t + 2 ^ bin) (λ stop p. evolve r stop bin P t p) answer A Z
  evolve_all r bin P F t x answer A B Z some f goes e one two =
      told_made r bin P F t x answer A B Z some f goes one (same passes bin (most_of bin) t (t + 2 ^ bin) (from_told r bin P F t) (from_kick r bin P F t) answer B Z (λ stop p b. told_all r bin P F t stop p e) two)

  pub evolve_some : {T U : Type 0} (r : Rules) (bin : ℕ) (P F : List ℕ) (t : ℕ) (x : T) (answer : Result U Halt) (A B Z : Now) → 1 ≤ bin → F ≡ fast r.gravity bin (only A.bodies P) → (bin == r.gravity.setup.low_bin && not (is_empty F)) ≡ false → length F ≢ length P →
      Makes {T = T} passes bin 0 t t (λ stop p. Going (tell (Binned F) p)) (Ok x) A B → Makes {T = U} passes bin (most_of bin) t (t + 2 ^ bin) (from_ask r bin P F t) answer B Z → Makes {T = U} passes bin (most_of bin) t (t + 2 ^ bin) (λ stop p. evolve r stop bin P t p) answer A Z
  evolve_some r bin P F t x answer A B Z some f goes e one two =
      told_made r bin P F t x answer A B Z some f goes one (same passes bin (most_of bin) t (t + 2 ^ bin) (from_told r bin P F t) (from_ask r bin P F t) answer B Z (λ stop p b. told_some r bin P F t stop p e) two)
