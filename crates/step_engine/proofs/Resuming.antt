-- What is left of a base step at a resting point, by its parts.
use Rattle.std.proofs.Common.{◌≡◌, ◌≢◌, ◌≤◌, ◌<◌, ◌==◌, inl, inr, ◌+◌, ◌-◌, ◌^◌, ℕ, zero, suc, Bool, true, false, cond, nat_le, List, [], ◌∷◌, ◌++◌, length, map, fold, Option, Some, None, Result, Ok, Err, refl, ap, sym, ◌∙◌, subst, arith}
use Rattle.std.specs.List.{range_with_len}
use Rattle.std.proofs.lemmas.Bool.{ne_eqb, eq-eqb, le-leb}
use Rattle.std.proofs.lemmas.List.Sums.{fold-append}
use Rattle.std.proofs.lemmas.Nat.{pow_pos}
use Rattle.nbody_model.specs.Bodies.{BodyData}
use Rattle.nbody_model.specs.Tables.{Rules, ExpansionData}
use Rattle.nbody_model.specs.States.{StateData, low_zeros, began, unfinished, unfinished_fast, fast_parts}
use Rattle.nbody_model.specs.Continue.{round, continue}
use Rattle.nbody_model.specs.Evolve.{Happening, Progress, Stepped, Going, ◌>>=◌, inside, ask_if, rest, close, evolve}
use Rattle.model_laws.specs.Preserved.{IsPart}
use Rattle.model_laws.specs.Conserved.{IsConserved, start_of}
use Rattle.kick_drift.specs.Parts.{ids_at}
use Rattle.step_engine.specs.declared.halt.Halt.{Halt}
use Rattle.step_engine.specs.declared.halt.Halt.TheVariants as halts
use Rattle.step_engine.specs.Taken.{Tale}
use Rattle.step_engine.specs.Told.{Finder}
use Rattle.step_engine.specs.Stands.{Now}
use Rattle.step_engine.specs.Ends.{trail_of, IsOutside, Shows, Makes}
use Rattle.step_engine.specs.Stages.{rules}
use Rattle.step_engine.specs.Resumed.{DeepensEach, IsFrom, middle_of, end_of_bin, rounds_end, whole_places, quick_places, quick_parts, second_finer, finer_left, round_left, round_of, first_asked, rounds_left}
use Rattle.step_engine.proofs.Times.{twice}
use Rattle.step_engine.proofs.Ticks.{came_to, not_middle, end_is, end_first}
use Rattle.step_engine.proofs.Layers.{deep_is, quick_is_part, quick_parts_are}
use Rattle.step_engine.proofs.Keeps.{same_places, same_length}
use Rattle.step_engine.proofs.Outer.{outer_goes, outer_halts}
use Rattle.step_engine.proofs.Joins.{joined, halted, same, More, OnlyAdds, all_there}
use Rattle.step_engine.proofs.Leaves.{Leads, wanting}
use Rattle.step_engine.proofs.Adds.{close_adds, rest_adds, evolve_adds}
use Rattle.step_engine.proofs.Deepening.{deep_trail}
use Rattle.step_engine.proofs.Stepping.{most_of, next_power, adds_on, ask_adds}

-- ---- the stages of a round, by its tests

own_is : (r : Rules) (u bin : ℕ) (F : List ℕ) (stop : Option ℕ) (p : Progress) → bin ≡ low_zeros u + 1 → second_finer r u bin F stop p ≡ evolve r stop (bin - 1) F (middle_of bin u) p
own_is r u bin F stop p e = ap (λ b. cond b (Going p) (rest stop (middle_of bin u) p) >>= (λ q. evolve r stop (bin - 1) F (middle_of bin u) q)) (eq-eqb bin (low_zeros u + 1) e)

later_is : (r : Rules) (u bin : ℕ) (F : List ℕ) (stop : Option ℕ) (p : Progress) → bin ≢ low_zeros u + 1 → second_finer r u bin F stop p ≡ rest stop (middle_of bin u) p >>= (λ q. evolve r stop (bin - 1) F (middle_of bin u) q)
later_is r u bin F stop p e = ap (λ b. cond b (Going p) (rest stop (middle_of bin u) p) >>= (λ q. evolve r stop (bin - 1) F (middle_of bin u) q)) (ne_eqb bin (low_zeros u + 1) e)

early_is : (r : Rules) (u bin : ℕ) (F : List ℕ) (Gs : List (List ℕ)) (stop : Option ℕ) (p : Progress) → u ≤ middle_of bin u → finer_left r u bin F Gs stop p ≡ inside Gs (second_finer r u bin F stop p)
early_is r u bin F Gs stop p e = ap (λ b. cond b (inside Gs (second_finer r u bin F stop p)) (Going p)) (le-leb u (middle_of bin u) e)

-- ---- rounds only add

second_step : (r : Rules) (u bin : ℕ) (F : List ℕ) (q : Progress) (t : Bool) → More q.trail (trail_of (cond t (Going q) (rest None (middle_of bin u) q)))
second_step r u bin F q true = all_there q.trail
second_step r u bin F q false = rest_adds r (middle_of bin u) q

second_adds : (r : Rules) (u bin : ℕ) (F : List ℕ) → OnlyAdds (second_finer r u bin F None)
second_adds r u bin F q =
    adds_on (cond (bin == low_zeros u + 1) (Going q) (rest None (middle_of bin u) q)) (λ x. evolve r None (bin - 1) F (middle_of bin u) x) q.trail (evolve_adds r (bin - 1) F (middle_of bin u)) (second_step r u bin F q (bin == low_zeros u + 1))

finer_step : (q : Progress) (Gs : List (List ℕ)) (s : Stepped) (t : Bool) → More q.trail (trail_of s) → More q.trail (trail_of (cond t (inside Gs s) (Going q)))
finer_step q Gs s true m = record { more = m.more; is = deep_trail (λ g fixed B a es z. Unit {0}) Gs s ∙ m.is }
finer_step q Gs s false m = all_there q.trail

finer_adds : (r : Rules) (u bin : ℕ) (F : List ℕ) (Gs : List (List ℕ)) → OnlyAdds (finer_left r u bin F Gs None)
finer_adds r u bin F Gs q = finer_step q Gs (second_finer r u bin F None q) (nat_le u (middle_of bin u)) (second_adds r u bin F q)

left_adds : (r : Rules) (u bin : ℕ) (P F : List ℕ) (Gs : List (List ℕ)) → IsPart F P → OnlyAdds (round_left r u bin P F Gs None)
left_adds r u bin P F Gs part q = adds_on (finer_left r u bin F Gs None q) (λ x. close r bin P F (began bin u) x) q.trail (close_adds r bin P F (began bin u) part) (finer_adds r u bin F Gs q)

round_adds : (r : Rules) (top u : ℕ) (B : List BodyData) (ds : List ℕ) (bin : ℕ) → OnlyAdds (λ p. round_of r top u B ds None bin p)
round_adds r top u B ds bin = left_adds r u bin (ids_at B (whole_places top ds bin)) (ids_at B (quick_places top ds bin)) (quick_parts B top ds bin) (quick_is_part B top ds bin)

fold_adds : (base : List Happening) (f : ℕ → Progress → Stepped) → ((c : ℕ) → OnlyAdds (f c)) → (s : Stepped) (cs : List ℕ) → More base (trail_of s) → More base (trail_of (fold (λ step c. step >>= (λ q. f c q)) s cs))
fold_adds base f k s [] m = m
fold_adds base f k s (c ∷ cs) m = fold_adds base f k (s >>= (λ q. f c q)) cs (adds_on s (f c) base (k c) m)

rounds_adds : (r : Rules) (top u : ℕ) (B : List BodyData) (ds : List ℕ) (bin : ℕ) → OnlyAdds (rounds_left r top u B ds bin None)
rounds_adds r top u B ds bin q =
    fold_adds q.trail (λ c x. round_of r top u B ds None c x) (round_adds r top u B ds) (first_asked top u B ds None q) (range_with_len (low_zeros u + 1) (bin - low_zeros u)) (ask_adds true (ids_at B (quick_places top ds (low_zeros u + 1))) q)

-- ---- one round more

range_last : (a n j : ℕ) → a + n ≡ j → range_with_len a (suc n) ≡ range_with_len a n ++ j ∷ []
range_last a zero j e = let here : a ≡ j = omega (arith, e) in ap (λ k. k ∷ []) here
range_last a (suc n) j e = ap (λ l. a ∷ l) (range_last (a + 1) n j (omega (arith, e)))

rounds_more : (r : Rules) (top u : ℕ) (B : List BodyData) (ds : List ℕ) (bin : ℕ) (stop : Option ℕ) (p : Progress) → low_zeros u < bin →
    rounds_left r top u B ds bin stop p ≡ rounds_left r top u B ds (bin - 1) stop p >>= (λ q. round_of r top u B ds stop bin q)
rounds_more r top u B ds bin stop p h =
    let v = low_zeros u in
    let f : Stepped → ℕ → Stepped = λ step c. step >>= (λ q. round_of r top u B ds stop c q) in
    let s = first_asked top u B ds stop p in
    let more : bin - v ≡ suc (bin - 1 - v) = omega (arith, h) in
    let last : v + 1 + (bin - 1 - v) ≡ bin = omega (arith, h) in
    ap (λ n. fold f s (range_with_len (v + 1) n)) more ∙ ap (fold f s) (range_last (v + 1) (bin - 1 - v) bin last) ∙ fold-append f s (range_with_len (v + 1) (bin - 1 - v)) (bin ∷ [])

rounds_none : (r : Rules) (top u : ℕ) (B : List BodyData) (ds : List ℕ) (bin : ℕ) (stop : Option ℕ) (p : Progress) → bin ≡ low_zeros u → rounds_left r top u B ds bin stop p ≡ first_asked top u B ds stop p
rounds_none r top u B ds bin stop p e =
    let v = low_zeros u in
    let none : bin - v ≡ 0 = omega (arith, e) in
    ap (λ n. fold (λ step c. step >>= (λ q. round_of r top u B ds stop c q)) (first_asked top u B ds stop p) (range_with_len (v + 1) n)) none

-- ---- the rest of a base step is its rounds

round_is : (r : Rules) (stop : Option ℕ) (σ : StateData) (B : List BodyData) (ds : List ℕ) (c : ℕ) (q : Progress) → σ.bodies ≡ B → σ.depths ≡ ds → length ds ≡ length B → round r stop σ c q ≡ round_of r r.gravity.setup.top_bin σ.tick B ds stop c q
unfolding round
round_is r stop σ B ds c q b d e =
    let s = r.gravity.setup in
    let whole : unfinished s σ c ≡ ids_at B (whole_places s.top_bin ds c) = deep_is σ B (s.top_bin - c) ds b d e in
    let quick : unfinished_fast s σ c ≡ ids_at B (quick_places s.top_bin ds c) = deep_is σ B (s.top_bin - c + 1) ds b d e in
    let parts : fast_parts s σ c ≡ quick_parts B s.top_bin ds c = quick_parts_are s σ B ds c b d e in
    λ i. round_left r σ.tick c (whole i) (quick i) (parts i) stop q

rounds_are : (r : Rules) (stop : Option ℕ) (σ : StateData) (B : List BodyData) (ds : List ℕ) → σ.bodies ≡ B → σ.depths ≡ ds → length ds ≡ length B →
    continue r stop σ (start_of σ.bodies) ≡ rounds_left r r.gravity.setup.top_bin σ.tick B ds r.gravity.setup.top_bin stop (start_of B)
unfolding continue
rounds_are r stop σ B ds b d e =
    let s = r.gravity.setup in
    let v = low_zeros σ.tick in
    let first : unfinished_fast s σ (v + 1) ≡ ids_at B (quick_places s.top_bin ds (v + 1)) = deep_is σ B (s.top_bin - (v + 1) + 1) ds b d e in
    λ i. fold (λ step c. step >>= (λ q. round_is r stop σ B ds c q b d e i)) (Going (ask_if true (first i) (start_of (b i)))) (range_with_len (v + 1) (s.top_bin - v))

pub continue_is : (r : Rules) (stop : Option ℕ) (σ : StateData) (top u : ℕ) (B : List BodyData) (ds : List ℕ) → r.gravity.setup.top_bin ≡ top → σ.tick ≡ u → σ.bodies ≡ B → σ.depths ≡ ds → length ds ≡ length B →
    continue r stop σ (start_of σ.bodies) ≡ rounds_left r top u B ds top stop (start_of B)
continue_is r stop σ top u B ds t f b d e = rounds_are r stop σ B ds b d e ∙ (λ i. rounds_left r (t i) (f i) B ds (t i) stop (start_of B))

-- ---- the same places later

parts_still : (A M : List BodyData) (top : ℕ) (ds : List ℕ) (bin : ℕ) → IsConserved A M [] → quick_parts M top ds bin ≡ quick_parts A top ds bin
parts_still A M top ds bin k = λ i. map (λ c. same_places A M (quick_places top ds c) k i) (range_with_len bin (top + 1 - bin))

module _ (passes : Finder) where
  -- ---- a longer time, and more kicks

  narrow : (f t f' t' : ℕ) (stop : Option ℕ) → f' ≤ f → t ≤ t' → IsOutside f' t' stop → IsOutside f t stop
  narrow f t f' t' None h k o = tt
  narrow f t f' t' (Some u) h k (inl o) = inl (omega (arith, o, h))
  narrow f t f' t' (Some u) h k (inr o) = inr (omega (arith, o, k))

  wide_shown : {T : Type 0} (a : List ℕ) (before : Tale) (n f t f' t' : ℕ) (X : Option ℕ → Stepped) (answer : Result T Halt) (Z : Now) → f' ≤ f → t ≤ t' → Shows passes a before n f t X answer Z → Shows passes a before n f' t' X answer Z
  wide_shown a before n f t f' t' X (Ok x) Z h k s = λ stop o. s stop (narrow f t f' t' stop h k o)
  wide_shown a before n f t f' t' X (Err (halts.MomRange tick bin id axis)) Z h k s = s
  wide_shown a before n f t f' t' X (Err (halts.StepRange tick id)) Z h k s = s
  wide_shown a before n f t f' t' X (Err (halts.Rest u)) Z h k s = (omega (arith, s.0, h), omega (arith, s.1, k), s.2)
  wide_shown a before n f t f' t' X (Err halts.OutFault) Z h k s = s
  wide_shown a before n f t f' t' X (Err halts.Memory) Z h k s = s

  pub widened : {T : Type 0} (n most f t most' f' t' : ℕ) (X : Option ℕ → Progress → Stepped) (answer : Result T Halt) (A Z : Now) → f' ≤ f → t ≤ t' → most ≤ most' → Makes passes n most f t X answer A Z → Makes passes n most' f' t' X answer A Z
  widened n most f t most' f' t' X answer A Z h k l one = record {
    gravity = one.gravity;
    fixed = one.fixed;
    conserved = one.conserved;
    cause = one.cause;
    few = omega (arith, one.few, l);
    counted = one.counted;
    shows = λ a before p w. wide_shown a before n f t f' t' (λ stop. X stop p) answer Z h k (one.shows a before p w);
  }

  -- ---- the second finer step

  half_count : (bin : ℕ) → 1 ≤ bin → most_of (bin - 1) ≡ 2 ^ bin - 2
  half_count bin some = let n : bin - 1 + 1 ≡ bin = omega (arith, some) in ap (λ k. 2 ^ k - 2) n

  pub finer_own : {T : Type 0} (r : Rules) (bin : ℕ) (F : List ℕ) (u m from : ℕ) (answer : Result T Halt) (A Z : Now) → 1 ≤ bin → bin ≡ low_zeros u + 1 → m ≡ middle_of bin u → u ≤ middle_of bin u → IsFrom u bin from →
      Makes {T = T} passes (bin - 1) (most_of (bin - 1)) m (m + 2 ^ (bin - 1)) (λ stop p. evolve r stop (bin - 1) F m p) answer A Z → Makes {T = T} passes (bin - 1) (2 ^ bin - 2) from (end_of_bin bin u) (second_finer r u bin F) answer A Z
  finer_own {T = T} r bin F u m from answer A Z some own at reached is one =
      let middle = middle_of bin u in
      let one' : Makes {T = T} passes (bin - 1) (most_of (bin - 1)) middle (middle + 2 ^ (bin - 1)) (λ stop p. evolve r stop (bin - 1) F middle p) answer A Z = subst (λ v. Makes {T = T} passes (bin - 1) (most_of (bin - 1)) v (v + 2 ^ (bin - 1)) (λ stop p. evolve r stop (bin - 1) F v p) answer A Z) at one in
      same passes (bin - 1) (2 ^ bin - 2) from (end_of_bin bin u) (second_finer r u bin F) (λ stop p. evolve r stop (bin - 1) F middle p) answer A Z (λ stop p b. own_is r u bin F stop p own)
      (widened (bin - 1) (most_of (bin - 1)) middle (middle + 2 ^ (bin - 1)) (2 ^ bin - 2) from (end_of_bin bin u) (λ stop p. evolve r stop (bin - 1) F middle p) answer A Z (omega (arith, is.own own, reached)) (omega (arith, twice bin some)) (omega (arith, half_count bin some)) one')

  pub finer_rests : {T U : Type 0} (r : Rules) (bin : ℕ) (F : List ℕ) (u m from : ℕ) (h : Halt) (A Z : Now) → 1 ≤ bin → bin ≤ 64 → bin ≢ low_zeros u + 1 → m ≡ middle_of bin u → u ≤ middle_of bin u → IsFrom u bin from →
      Makes {T = T} passes (bin - 1) 0 (m - 1) (m + 1) (λ stop p. rest stop m p) (Err h) A Z → Makes {T = U} passes (bin - 1) (2 ^ bin - 2) from (end_of_bin bin u) (second_finer r u bin F) (Err h) A Z
  finer_rests {T = T} {U = U} r bin F u m from h A Z some few other at reached is one =
      let middle = middle_of bin u in
      let apart = not_middle bin u some few other in
      let later : u < middle = omega (arith, reached, apart) in
      let pos : 1 ≤ 2 ^ (bin - 1) = pow_pos (bin - 1) in
      let one' : Makes {T = T} passes (bin - 1) 0 (middle - 1) (middle + 1) (λ stop p. rest stop middle p) (Err h) A Z = subst (λ v. Makes {T = T} passes (bin - 1) 0 (v - 1) (v + 1) (λ stop p. rest stop v p) (Err h) A Z) at one in
      same passes {T = U} (bin - 1) (2 ^ bin - 2) from (end_of_bin bin u) (second_finer r u bin F) (λ stop p. rest stop middle p >>= (λ q. evolve r stop (bin - 1) F middle q)) (Err h) A Z (λ stop p b. later_is r u bin F stop p other)
      (halted passes {T = T} {U = U} (bin - 1) 0 (2 ^ bin - 2) (middle - 1) (middle + 1) from (end_of_bin bin u) (λ stop p. rest stop middle p) (λ stop q. evolve r stop (bin - 1) F middle q) h A Z (omega (arith, is.later later)) (omega (arith, twice bin some, pos)) (omega arith) (evolve_adds r (bin - 1) F middle) one')

  pub finer_later : {T U : Type 0} (r : Rules) (bin : ℕ) (F : List ℕ) (u m from : ℕ) (x : T) (answer : Result U Halt) (A B Z : Now) → 1 ≤ bin → bin ≤ 64 → bin ≢ low_zeros u + 1 → m ≡ middle_of bin u → u ≤ middle_of bin u → IsFrom u bin from →
      Makes {T = T} passes (bin - 1) 0 (m - 1) (m + 1) (λ stop p. rest stop m p) (Ok x) A B → Makes {T = U} passes (bin - 1) (most_of (bin - 1)) m (m + 2 ^ (bin - 1)) (λ stop p. evolve r stop (bin - 1) F m p) answer B Z →
      Makes {T = U} passes (bin - 1) (2 ^ bin - 2) from (end_of_bin bin u) (second_finer r u bin F) answer A Z
  finer_later {T = T} {U = U} r bin F u m from x answer A B Z some few other at reached is one two =
      let middle = middle_of bin u in
      let apart = not_middle bin u some few other in
      let later : u < middle = omega (arith, reached, apart) in
      let pos : 1 ≤ 2 ^ (bin - 1) = pow_pos (bin - 1) in
      let one' : Makes {T = T} passes (bin - 1) 0 (middle - 1) (middle + 1) (λ stop p. rest stop middle p) (Ok x) A B = subst (λ v. Makes {T = T} passes (bin - 1) 0 (v - 1) (v + 1) (λ stop p. rest stop v p) (Ok x) A B) at one in
      let two' : Makes {T = U} passes (bin - 1) (most_of (bin - 1)) middle (middle + 2 ^ (bin - 1)) (λ stop p. evolve r stop (bin - 1) F middle p) answer B Z = subst (λ v. Makes {T = U} passes (bin - 1) (most_of (bin - 1)) v (v + 2 ^ (bin - 1)) (λ stop p. evolve r stop (bin - 1) F v p) answer B Z) at two in
      same passes (bin - 1) (2 ^ bin - 2) from (end_of_bin bin u) (second_finer r u bin F) (λ stop p. rest stop middle p >>= (λ q. evolve r stop (bin - 1) F middle q)) answer A Z (λ stop p b. later_is r u bin F stop p other)
      (widened (bin - 1) (0 + most_of (bin - 1)) (middle - 1) (middle + 2 ^ (bin - 1)) (2 ^ bin - 2) from (end_of_bin bin u) (λ stop p. rest stop middle p >>= (λ q. evolve r stop (bin - 1) F middle q)) answer A Z (omega (arith, is.later later)) (omega (arith, twice bin some)) (omega (arith, half_count bin some))
      (joined passes (bin - 1) 0 (most_of (bin - 1)) (middle - 1) (middle + 1) middle (middle + 2 ^ (bin - 1)) (λ stop p. rest stop middle p) (λ stop q. evolve r stop (bin - 1) F middle q) x answer A B Z (omega arith) (omega (arith, pos)) (omega arith) one' two'))

  -- ---- a round

  finer_inside : {T : Type 0} (n most f t : ℕ) (r : Rules) (u bin : ℕ) (F : List ℕ) (Gs : List (List ℕ)) (answer : Result T Halt) (A Z : Now) → u ≤ middle_of bin u → Makes {T = T} passes n most f t (λ stop p. inside Gs (second_finer r u bin F stop p)) answer A Z →
      Makes {T = T} passes n most f t (finer_left r u bin F Gs) answer A Z
  finer_inside n most f t r u bin F Gs answer A Z h one = same passes n most f t (finer_left r u bin F Gs) (λ stop p. inside Gs (second_finer r u bin F stop p)) answer A Z (λ stop p b. early_is r u bin F Gs stop p h) one

  pub finer_goes : {T : Type 0} (r : Rules) (top u : ℕ) (ds : List ℕ) (bin : ℕ) (F : List ℕ) (from : ℕ) (x : T) (A Z : Now) → u ≤ middle_of bin u → Makes {T = T} passes (bin - 1) (2 ^ bin - 2) from (end_of_bin bin u) (second_finer r u bin F) (Ok x) A Z →
      Makes {T = T} passes top (2 ^ bin - 2) from (end_of_bin bin u) (finer_left r u bin F (quick_parts A.bodies top ds bin)) (Ok x) A Z
  finer_goes r top u ds bin F from x A Z h one =
      let Gs = quick_parts A.bodies top ds bin in
      finer_inside top (2 ^ bin - 2) from (end_of_bin bin u) r u bin F Gs (Ok x) A Z h (outer_goes passes (bin - 1) top (2 ^ bin - 2) from (end_of_bin bin u) Gs (second_finer r u bin F) x A Z one)

  pub finer_halts : {T : Type 0} (r : Rules) (top u : ℕ) (ds : List ℕ) (bin : ℕ) (F : List ℕ) (from : ℕ) (h : Halt) (A Z : Now) (D : List ℕ) → 1 ≤ bin → bin ≤ top → u ≤ middle_of bin u → length ds ≡ length A.bodies → DeepensEach h (top + 1 - bin) ds Z.depth D →
      Makes {T = T} passes (bin - 1) (2 ^ bin - 2) from (end_of_bin bin u) (second_finer r u bin F) (Err h) A Z → Makes {T = T} passes top (2 ^ bin - 2) from (end_of_bin bin u) (finer_left r u bin F (quick_parts A.bodies top ds bin)) (Err h) A (record Z { depth = D })
  finer_halts {T = T} r top u ds bin F from h A Z D some within reached e d one =
      let X : List (List ℕ) → Option ℕ → Progress → Stepped = λ Gs stop p. inside Gs (second_finer r u bin F stop p) in
      let end = end_of_bin bin u in
      let N : Now = record Z { depth = D } in
      let n : bin - 1 + (top + 1 - bin) ≡ top = omega (arith, some, within) in
      let few : bin ≤ top + 1 = omega (arith, within) in
      let outer = outer_halts passes {T = T} (bin - 1) (2 ^ bin - 2) from end top ds bin (second_finer r u bin F) h A Z D (e ∙ sym (same_length A.bodies Z.bodies one.conserved)) few d one in
      finer_inside {T = T} top (2 ^ bin - 2) from end r u bin F (quick_parts A.bodies top ds bin) (Err h) A N reached
      (subst (λ k. Makes {T = T} passes k (2 ^ bin - 2) from end (X (quick_parts A.bodies top ds bin)) (Err h) A N) n
      (subst (λ Gs. Makes {T = T} passes (bin - 1 + (top + 1 - bin)) (2 ^ bin - 2) from end (X Gs) (Err h) A N) (parts_still A.bodies Z.bodies top ds bin one.conserved) outer))

  -- with places that are those of the depths
  named_round : {T : Type 0} (r : Rules) (top u : ℕ) (B : List BodyData) (ds part fast : List ℕ) (bin most from : ℕ) (answer : Result T Halt) (A Z : Now) → part ≡ whole_places top ds bin → fast ≡ quick_places top ds bin →
      Makes {T = T} passes top most from (end_of_bin bin u) (round_left r u bin (ids_at B part) (ids_at B fast) (quick_parts B top ds bin)) answer A Z → Makes {T = T} passes top most from (end_of_bin bin u) (λ stop p. round_of r top u B ds stop bin p) answer A Z
  named_round {T = T} r top u B ds part fast bin most from answer A Z e f one =
      subst (λ (X : Option ℕ → Progress → Stepped). Makes {T = T} passes top most from (end_of_bin bin u) X answer A Z) (λ i. round_left r u bin (ids_at B (e i)) (ids_at B (f i)) (quick_parts B top ds bin)) one

  pub round_halts : {T U : Type 0} (r : Rules) (top u : ℕ) (ds part fast : List ℕ) (bin from : ℕ) (h : Halt) (A Z : Now) → part ≡ whole_places top ds bin → fast ≡ quick_places top ds bin →
      Makes {T = T} passes top (2 ^ bin - 2) from (end_of_bin bin u) (finer_left r u bin (ids_at A.bodies fast) (quick_parts A.bodies top ds bin)) (Err h) A Z → Makes {T = U} passes top (2 ^ bin - 1) from (end_of_bin bin u) (λ stop p. round_of r top u A.bodies ds stop bin p) (Err h) A Z
  round_halts {T = T} {U = U} r top u ds part fast bin from h A Z e f one =
      let P = ids_at A.bodies part in
      let F = ids_at A.bodies fast in
      let is_part : IsPart F P = subst (λ ps. IsPart F (ids_at A.bodies ps)) (sym e) (subst (λ ps. IsPart (ids_at A.bodies ps) (ids_at A.bodies (whole_places top ds bin))) (sym f) (quick_is_part A.bodies top ds bin)) in
      named_round {T = U} r top u A.bodies ds part fast bin (2 ^ bin - 1) from (Err h) A Z e f
      (halted passes {T = T} {U = U} top (2 ^ bin - 2) (2 ^ bin - 1) from (end_of_bin bin u) from (end_of_bin bin u) (finer_left r u bin F (quick_parts A.bodies top ds bin)) (λ stop q. close r bin P F (began bin u) q) h A Z (omega arith) (omega arith) (omega arith) (close_adds r bin P F (began bin u) is_part) one)

  pub round_made : {T U : Type 0} (e : Option ExpansionData) (top u : ℕ) (ds part fast : List ℕ) (bin from t : ℕ) (x : T) (answer : Result U Halt) (A B Z : Now) → 1 ≤ bin → part ≡ whole_places top ds bin → fast ≡ quick_places top ds bin → t ≡ began bin u → IsFrom u bin from →
      Makes {T = T} passes top (2 ^ bin - 2) from (end_of_bin bin u) (finer_left (rules A.gravity e) u bin (ids_at A.bodies fast) (quick_parts A.bodies top ds bin)) (Ok x) A B →
      Makes {T = U} passes top 1 (t + 2 ^ bin) (t + 2 ^ bin) (λ stop p. close (rules B.gravity e) bin (ids_at B.bodies part) (ids_at B.bodies fast) t p) answer B Z →
      Makes {T = U} passes top (2 ^ bin - 1) from (end_of_bin bin u) (λ stop p. round_of (rules A.gravity e) top u A.bodies ds stop bin p) answer A Z
  round_made {T = T} {U = U} e top u ds part fast bin from t x answer A B Z some p f at is one two =
      let r = rules A.gravity e in
      let P = ids_at A.bodies part in
      let F = ids_at A.bodies fast in
      let end = end_of_bin bin u in
      let whole : ids_at B.bodies part ≡ P = same_places A.bodies B.bodies part one.conserved in
      let quick : ids_at B.bodies fast ≡ F = same_places A.bodies B.bodies fast one.conserved in
      let two' : Makes {T = U} passes top 1 end end (λ stop q. close r bin P F (began bin u) q) answer B Z =
      subst (λ (X : Option ℕ → Progress → Stepped). Makes {T = U} passes top 1 end end X answer B Z) (λ i stop q. close (rules (one.gravity i) e) bin (whole i) (quick i) (began bin u) q)
      (subst (λ v. Makes {T = U} passes top 1 (v + 2 ^ bin) (v + 2 ^ bin) (λ stop p. close (rules B.gravity e) bin (ids_at B.bodies part) (ids_at B.bodies fast) v p) answer B Z) at two) in
      let pos : 1 ≤ 2 ^ (bin - 1) = pow_pos (bin - 1) in
      let count : 2 ^ bin - 2 + 1 ≡ 2 ^ bin - 1 = omega (arith, twice bin some, pos) in
      named_round {T = U} r top u A.bodies ds part fast bin (2 ^ bin - 1) from answer A Z p f
      (subst (λ n. Makes {T = U} passes top n from end (round_left r u bin P F (quick_parts A.bodies top ds bin)) answer A Z) count
      (joined passes top (2 ^ bin - 2) 1 from end end end (finer_left r u bin F (quick_parts A.bodies top ds bin)) (λ stop q. close r bin P F (began bin u) q) x answer A B Z is.end (omega arith) (omega arith) one two'))

  pub round_wants : {T : Type 0} (r : Rules) (top u : ℕ) (ds : List ℕ) (bin from : ℕ) (A : Now) → Leads (2 ^ bin - 1) A A → Makes {T = T} passes top (2 ^ bin - 1) from (end_of_bin bin u) (λ stop p. round_of r top u A.bodies ds stop bin p) (Err halts.Memory) A A
  round_wants {T = T} r top u ds bin from A l = wanting passes T top (2 ^ bin - 1) from (end_of_bin bin u) (λ stop p. round_of r top u A.bodies ds stop bin p) A A l (round_adds r top u A.bodies ds bin) refl refl

  -- ---- the rounds

  pub rounds_first : {T : Type 0} (r : Rules) (top u : ℕ) (ds : List ℕ) (bin : ℕ) (answer : Result T Halt) (A Z : Now) → bin ≡ low_zeros u → Makes {T = T} passes top 0 u u (first_asked top u A.bodies ds) answer A Z →
      Makes {T = T} passes top (2 ^ (bin + 1)) u (rounds_end u bin) (rounds_left r top u A.bodies ds bin) answer A Z
  rounds_first {T = T} r top u ds bin answer A Z e one =
      same passes top (2 ^ (bin + 1)) u (rounds_end u bin) (rounds_left r top u A.bodies ds bin) (first_asked top u A.bodies ds) answer A Z (λ stop p b. rounds_none r top u A.bodies ds bin stop p e)
      (widened top 0 u u (2 ^ (bin + 1)) u (rounds_end u bin) (first_asked top u A.bodies ds) answer A Z (omega arith) (omega (arith, end_first u bin e)) (omega arith) one)

  pub rounds_halt : {T : Type 0} (r : Rules) (top u : ℕ) (ds : List ℕ) (bin : ℕ) (h : Halt) (A Z : Now) → low_zeros u < bin → Makes {T = T} passes top (2 ^ (bin - 1 + 1)) u (rounds_end u (bin - 1)) (rounds_left r top u A.bodies ds (bin - 1)) (Err h) A Z →
      Makes {T = T} passes top (2 ^ (bin + 1)) u (rounds_end u bin) (rounds_left r top u A.bodies ds bin) (Err h) A Z
  rounds_halt {T = T} r top u ds bin h A Z above one =
      let from = came_to u bin above in
      let n : bin - 1 + 1 ≡ bin = omega (arith, above) in
      let less : 2 ^ (bin - 1 + 1) ≡ 2 ^ bin = ap (λ k. 2 ^ k) n in
      same passes {T = T} top (2 ^ (bin + 1)) u (rounds_end u bin) (rounds_left r top u A.bodies ds bin) (λ stop p. rounds_left r top u A.bodies ds (bin - 1) stop p >>= (λ q. round_of r top u A.bodies ds stop bin q)) (Err h) A Z (λ stop p b. rounds_more r top u A.bodies ds bin stop p above)
      (halted passes {T = T} {U = T} top (2 ^ (bin - 1 + 1)) (2 ^ (bin + 1)) u (rounds_end u (bin - 1)) u (rounds_end u bin) (rounds_left r top u A.bodies ds (bin - 1)) (λ stop q. round_of r top u A.bodies ds stop bin q) h A Z (omega arith) (omega (arith, from.before, end_is u bin above)) (omega (arith, less, next_power bin)) (round_adds r top u A.bodies ds bin) one)

  pub rounds_on : {T U : Type 0} (e : Option ExpansionData) (top u : ℕ) (ds : List ℕ) (bin : ℕ) (x : T) (answer : Result U Halt) (A B Z : Now) → low_zeros u < bin → Makes {T = T} passes top (2 ^ (bin - 1 + 1)) u (rounds_end u (bin - 1)) (rounds_left (rules A.gravity e) top u A.bodies ds (bin - 1)) (Ok x) A B →
      ((from : ℕ) → IsFrom u bin from → Makes {T = U} passes top (2 ^ bin - 1) from (end_of_bin bin u) (λ stop p. round_of (rules B.gravity e) top u B.bodies ds stop bin p) answer B Z) →
      Makes {T = U} passes top (2 ^ (bin + 1)) u (rounds_end u bin) (rounds_left (rules A.gravity e) top u A.bodies ds bin) answer A Z
  rounds_on {T = T} {U = U} e top u ds bin x answer A B Z above one two =
      let r = rules A.gravity e in
      let came = came_to u bin above in
      let end = end_of_bin bin u in
      let n : bin - 1 + 1 ≡ bin = omega (arith, above) in
      let less : 2 ^ (bin - 1 + 1) ≡ 2 ^ bin = ap (λ k. 2 ^ k) n in
      let whole = same_places A.bodies B.bodies (whole_places top ds bin) one.conserved in
      let quick = same_places A.bodies B.bodies (quick_places top ds bin) one.conserved in
      let parts = parts_still A.bodies B.bodies top ds bin one.conserved in
      let two' : Makes {T = U} passes top (2 ^ bin - 1) came.from end (λ stop p. round_of r top u A.bodies ds stop bin p) answer B Z =
      subst (λ (X : Option ℕ → Progress → Stepped). Makes {T = U} passes top (2 ^ bin - 1) came.from end X answer B Z) (λ i stop p. round_left (rules (one.gravity i) e) u bin (whole i) (quick i) (parts i) stop p) (two came.from came.is) in
      same passes top (2 ^ (bin + 1)) u (rounds_end u bin) (rounds_left r top u A.bodies ds bin) (λ stop p. rounds_left r top u A.bodies ds (bin - 1) stop p >>= (λ q. round_of r top u A.bodies ds stop bin q)) answer A Z (λ stop p b. rounds_more r top u A.bodies ds bin stop p above)
      (widened top (2 ^ (bin - 1 + 1) + (2 ^ bin - 1)) u end (2 ^ (bin + 1)) u (rounds_end u bin) (λ stop p. rounds_left r top u A.bodies ds (bin - 1) stop p >>= (λ q. round_of r top u A.bodies ds stop bin q)) answer A Z (omega arith) (omega (arith, end_is u bin above)) (omega (arith, less, next_power bin))
      (joined passes top (2 ^ (bin - 1 + 1)) (2 ^ bin - 1) u (rounds_end u (bin - 1)) came.from end (rounds_left r top u A.bodies ds (bin - 1)) (λ stop q. round_of r top u A.bodies ds stop bin q) x answer A B Z came.after came.before came.close one two'))

  pub rounds_want : {T : Type 0} (r : Rules) (top u : ℕ) (ds : List ℕ) (bin most : ℕ) (A : Now) → Leads most A A → Makes {T = T} passes top most u (rounds_end u bin) (rounds_left r top u A.bodies ds bin) (Err halts.Memory) A A
  rounds_want {T = T} r top u ds bin most A l = wanting passes T top most u (rounds_end u bin) (rounds_left r top u A.bodies ds bin) A A l (rounds_adds r top u A.bodies ds bin) refl refl
