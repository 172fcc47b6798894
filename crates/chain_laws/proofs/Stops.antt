-- The rest of a base step, stopped again at a resting point, beside the same rest that isn't stopped.
use Rattle.std.proofs.Common.{◌≡◌, ◌<◌, ◌≤◌, ◌⊎◌, inl, inr, ℕ, zero, suc, ◌+◌, ◌-◌, ◌*◌, ◌/◌, ◌%◌, ◌^◌, Bool, true, false, cond, ◌==◌, nat_le, List, [], ◌∷◌, ◌++◌, length, map, fold, Option, Some, None, refl, ap, sym, ◌∙◌, subst, arith, pow-suc, mul_assoc, le_of_lt}
use Rattle.std.specs.List.{range_with_len}
use Rattle.std.specs.Int.Count.{count_trailing_zeros, under}
use Rattle.std.proofs.lemmas.Bool.{eqb-true, le-leb, lt-leb, ne_eqb}
use Rattle.std.proofs.lemmas.List.{length-append}
use Rattle.std.proofs.lemmas.Nat.{pow_pos}
use Rattle.nbody_model.specs.Setups.{SetupData}
use Rattle.nbody_model.specs.Tables.{Rules}
use Rattle.nbody_model.specs.Evolve.{Rested, Progress, tell, Refusal, Stepped, Going, Refused, Resting, ◌>>=◌, inside, ask_if, rest, close, evolve}
use Rattle.nbody_model.specs.States.{StateData, low_zeros, began, unfinished, unfinished_fast, fast_parts}
use Rattle.nbody_model.specs.Continue.{round, continue}
use Rattle.model_laws.specs.Rests.{rest_of_step, head_or, rest_of_steps, IsStoppedAt, Agrees}
use Rattle.model_laws.specs.Nests.{Tells}
use Rattle.model_laws.proofs.Nests.{fold_rests}
use Rattle.model_laws.proofs.Rests.{bind_same, Moves, close_moves, evolve_agrees, doubled, half_of, began_at, low_of, rest_own, rest_late, less_one, shape, shaped}

-- ---- two ticks inside the same unfinished evolve

-- both lie inside the same span of 2^c ticks
pub record AreInside (u w c : ℕ) : Type 0 where
  pub m : ℕ
  pub after : m * 2 ^ c < u
  pub before : u < (m + 1) * 2 ^ c
  pub after_too : m * 2 ^ c < w
  pub before_too : w < (m + 1) * 2 ^ c

record Half (m : ℕ) : Type 0 where
  k : ℕ
  is : (m ≡ 2 * k) ⊎ (m ≡ 2 * k + 1)

half : (m : ℕ) → Half m
half m = by (m % 2) refl
  where
    by : (r : ℕ) → m % 2 ≡ r → Half m
    by zero e = record { k = m / 2; is = inl (omega (arith, e)) }
    by (suc r) e = record { k = m / 2; is = inr (omega (arith, e)) }

scaled : (m n c : ℕ) → m ≡ n → m * 2 ^ c ≡ n * 2 ^ c
scaled m n c e = ap (λ k. k * 2 ^ c) e

-- and inside the span of the bin above
wider : (u w c : ℕ) → AreInside u w c → AreInside u w (c + 1)
wider u w c a = by (half a.m).k (half a.m).is
  where
    by : (k : ℕ) → (a.m ≡ 2 * k) ⊎ (a.m ≡ 2 * k + 1) → AreInside u w (c + 1)
    by k (inl e) =
        let f = scaled a.m (2 * k) c e in
        let g = doubled k c in
        let x = doubled (k + 1) c in
        let p = pow_pos c in
        record { m = k; after = omega (arith, f, g, a.after); before = omega (arith, f, g, x, p, a.before); after_too = omega (arith, f, g, a.after_too); before_too = omega (arith, f, g, x, p, a.before_too) }
    by k (inr e) =
        let f = scaled a.m (2 * k + 1) c e in
        let g = doubled k c in
        let x = doubled (k + 1) c in
        let p = pow_pos c in
        record { m = k; after = omega (arith, f, g, p, a.after); before = omega (arith, f, g, x, p, a.before); after_too = omega (arith, f, g, p, a.after_too); before_too = omega (arith, f, g, x, p, a.before_too) }

wider_by : (u w c j : ℕ) → AreInside u w c → AreInside u w (c + j)
wider_by u w c zero a = subst (AreInside u w) (omega arith) a
wider_by u w c (suc j) a = subst (AreInside u w) (omega arith) (wider_by u w (c + 1) j (wider u w c a))

-- the rest of the evolve of the bin above is the same from both
same_rest : (r : Rules) (u w c : ℕ) (P F : List ℕ) → AreInside u w c → low_zeros u < c → low_zeros w < c → (p : Progress) → rest_of_step r u (c + 1) P F p ≡ rest_of_step r w (c + 1) P F p
same_rest r u w c P F a lu lw p = by (half a.m).k (half a.m).is
  where
    by : (k : ℕ) → (a.m ≡ 2 * k) ⊎ (a.m ≡ 2 * k + 1) → rest_of_step r u (c + 1) P F p ≡ rest_of_step r w (c + 1) P F p
    by k (inl e) =
        let f = scaled a.m (2 * k) c e in
        let g = doubled k c in
        let x = doubled (k + 1) c in
        let t = k * 2 ^ (c + 1) in
        let y = pow_pos c in
        let bu : began (c + 1) u ≡ t = began_at (c + 1) k u (omega (arith, f, g, a.after)) (omega (arith, f, g, x, y, a.before)) in
        let bw : began (c + 1) w ≡ t = began_at (c + 1) k w (omega (arith, f, g, a.after_too)) (omega (arith, f, g, x, y, a.before_too)) in
        shaped r u c P F t false true bu (ne_eqb (c + 1) (low_zeros u + 1) (omega (arith, lu))) (le-leb u (t + 2 ^ (c + 1 - 1)) (omega (arith, f, g, half_of c, a.before))) p ∙
        sym (shaped r w c P F t false true bw (ne_eqb (c + 1) (low_zeros w + 1) (omega (arith, lw))) (le-leb w (t + 2 ^ (c + 1 - 1)) (omega (arith, f, g, half_of c, a.before_too))) p)
    by k (inr e) =
        let f = scaled a.m (2 * k + 1) c e in
        let g = doubled k c in
        let x = doubled (k + 1) c in
        let t = k * 2 ^ (c + 1) in
        let y = pow_pos c in
        let bu : began (c + 1) u ≡ t = began_at (c + 1) k u (omega (arith, f, g, y, a.after)) (omega (arith, f, g, x, y, a.before)) in
        let bw : began (c + 1) w ≡ t = began_at (c + 1) k w (omega (arith, f, g, y, a.after_too)) (omega (arith, f, g, x, y, a.before_too)) in
        shaped r u c P F t false false bu (ne_eqb (c + 1) (low_zeros u + 1) (omega (arith, lu))) (lt-leb u (t + 2 ^ (c + 1 - 1)) (omega (arith, f, g, half_of c, a.after))) p ∙
        sym (shaped r w c P F t false false bw (ne_eqb (c + 1) (low_zeros w + 1) (omega (arith, lw))) (lt-leb w (t + 2 ^ (c + 1 - 1)) (omega (arith, f, g, half_of c, a.after_too))) p)

rest_steps_same : (r : Rules) (u w c : ℕ) (P : List ℕ) (Fs : List (List ℕ)) → AreInside u w c → low_zeros u < c → low_zeros w < c → (s : Stepped) → rest_of_steps r u P (c + 1) Fs s ≡ rest_of_steps r w P (c + 1) Fs s
rest_steps_same r u w c P [] a lu lw s = refl
rest_steps_same r u w c P (F ∷ Fs) a lu lw s =
    ap (rest_of_steps r u P (c + 1 + 1) Fs) (bind_same s (λ p. rest_of_step r u (c + 1) (head_or P Fs) F p) (λ p. rest_of_step r w (c + 1) (head_or P Fs) F p) (same_rest r u w c (head_or P Fs) F a lu lw)) ∙
    rest_steps_same r u w (c + 1) P Fs (wider u w c a) (omega (arith, lu)) (omega (arith, lw)) (s >>= (λ p. rest_of_step r w (c + 1) (head_or P Fs) F p))

-- ---- the rest of evolves inside others

pub head_past : (P F : List ℕ) (Gs Fs : List (List ℕ)) → head_or P (Gs ++ F ∷ Fs) ≡ head_or F Gs
head_past P F [] Fs = refl
head_past P F (G ∷ Gs) Fs = refl

rest_append : (r : Rules) (w : ℕ) (P F : List ℕ) (Fs : List (List ℕ)) (b : ℕ) (Gs : List (List ℕ)) (s : Stepped) →
    rest_of_steps r w P b (Gs ++ F ∷ Fs) s ≡ rest_of_steps r w P (b + length Gs + 1) Fs (rest_of_steps r w F b Gs s >>= (λ p. rest_of_step r w (b + length Gs) (head_or P Fs) F p))
rest_append r w P F Fs b [] s =
    let e : b ≡ b + 0 = omega arith in
    λ i. rest_of_steps r w P (e i + 1) Fs (s >>= (λ p. rest_of_step r w (e i) (head_or P Fs) F p))
rest_append r w P F Fs b (G ∷ Gs) s =
    let e : b + 1 + length Gs ≡ b + suc (length Gs) = omega arith in
    (λ i. rest_of_steps r w P (b + 1) (Gs ++ F ∷ Fs) (s >>= (λ p. rest_of_step r w b (head_past P F Gs Fs i) G p))) ∙
    rest_append r w P F Fs (b + 1) Gs (s >>= (λ p. rest_of_step r w b (head_or F Gs) G p)) ∙
    (λ i. rest_of_steps r w P (e i + 1) Fs (rest_of_steps r w F (b + 1) Gs (s >>= (λ p. rest_of_step r w b (head_or F Gs) G p)) >>= (λ p. rest_of_step r w (e i) (head_or P Fs) F p)))

-- ---- one round

-- the rest of an unfinished evolve that may stop, inside those with the fast parts Gs
abbrev pub stop_step : Rules → Option ℕ → ℕ → ℕ → List ℕ → List ℕ → List (List ℕ) → Progress → Stepped
stop_step r stop u bin P F Gs p =
    let t = began bin u in
    let middle = t + 2 ^ (bin - 1) in
    let ready : Stepped = cond (bin == low_zeros u + 1) (Going p) (rest stop middle p) in
    let finer = inside Gs (ready >>= (λ q. evolve r stop (bin - 1) F middle q)) in
    let reached : Stepped = cond (nat_le u middle) finer (Going p) in
    reached >>= (λ q. close r bin P F t q)

record IsStoppedIn (r : Rules) (u w c : ℕ) (P F : List ℕ) (Fs : List (List ℕ)) (q : Progress) (tick : ℕ) (Hs : List (List ℕ)) (whole : Stepped) : Type 0 where
  Gs : List (List ℕ)
  parts : Hs ≡ Gs ++ F ∷ Fs
  at : tick ≡ w
  both : AreInside u w c
  count : low_zeros w + length Gs + 1 ≡ c
  goes : whole ≡ rest_of_steps r w F (low_zeros w + 1) Gs (Going q) >>= (λ p. rest_of_step r w c P F p)

abbrev AgreesIn : Rules → ℕ → ℕ → ℕ → List ℕ → List ℕ → List (List ℕ) → Stepped → Stepped → Type 0
AgreesIn r u w c P F Fs (Going p) whole = whole ≡ Going p
AgreesIn r u w c P F Fs (Refused p e) whole = whole ≡ Refused p e
AgreesIn r u w c P F Fs (Resting q tick Hs) whole = IsStoppedIn r u w c P F Fs q tick Hs whole

same_moves : (r : Rules) (u w c : ℕ) (P F : List ℕ) (Fs : List (List ℕ)) (s : Stepped) → Moves s → AgreesIn r u w c P F Fs s s
same_moves r u w c P F Fs (Going p) m = refl
same_moves r u w c P F Fs (Refused p e) m = refl
same_moves r u w c P F Fs (Resting p tick Hs) m = absurd m

-- the unfinished evolve of bin k + 1 began at m · 2^(k + 1), before u
record IsSpan (u k m t : ℕ) : Type 0 where
  starts : t ≡ m * 2 ^ (k + 1)
  after : m * 2 ^ (k + 1) < u
  before : u < (m + 1) * 2 ^ (k + 1)
  small : k < 64

-- its second finer step
finer_agrees : (r : Rules) (u w k m t : ℕ) (P F : List ℕ) (Fs : List (List ℕ)) → IsSpan u k m t → (B1 B0 : Stepped) → Agrees r w (k + 1 - 1) (2 * m + 1) F B1 B0 →
    AgreesIn r u w (k + 1) P F Fs (inside (F ∷ Fs) B1 >>= (λ q. close r (k + 1) P F t q)) (B0 >>= (λ q. close r (k + 1) P F t q))
finer_agrees r u w k m t P F Fs x (Going p) B0 a =
    subst (λ s. AgreesIn r u w (k + 1) P F Fs (close r (k + 1) P F t p) (s >>= (λ q. close r (k + 1) P F t q))) (sym a) (same_moves r u w (k + 1) P F Fs (close r (k + 1) P F t p) (close_moves r (k + 1) P F t p))
finer_agrees r u w k m t P F Fs x (Refused p e) B0 a = ap (λ s. s >>= (λ q. close r (k + 1) P F t q)) a
finer_agrees r u w k m t P F Fs x (Resting q tick Gs) B0 a =
    let d = doubled m k in
    let g = doubled (m + 1) k in
    let h = half_of k in
    let lo = scaled_pow (2 * m + 1) k in
    let hi = scaled_pow (2 * m + 1 + 1) k in
    let y = pow_pos k in
    let after : m * 2 ^ (k + 1) < w = omega (arith, a.after, lo, d, y) in
    let before : w < (m + 1) * 2 ^ (k + 1) = omega (arith, a.before, hi, g) in
    let began_here : began (k + 1) w ≡ t = began_at (k + 1) m w (le_of_lt after) before ∙ sym x.starts in
    let late : t + 2 ^ (k + 1 - 1) < w = omega (arith, x.starts, d, h, lo, a.after) in
    record {
      Gs = Gs;
      parts = refl;
      at = a.at;
      both = record { m = m; after = x.after; before = x.before; after_too = after; before_too = before };
      count = omega (arith, a.count);
      goes =
          ap (λ s. s >>= (λ q. close r (k + 1) P F t q)) a.goes ∙
          bind_same (rest_of_steps r w F (low_zeros w + 1) Gs (Going q)) (λ q. close r (k + 1) P F t q) (λ q. rest_of_step r w (k + 1) P F q) (λ q. sym (rest_late r w k P F t began_here late q));
    }
  where
    scaled_pow : (n k : ℕ) → n * 2 ^ (k + 1 - 1) ≡ n * 2 ^ k
    scaled_pow n k = ap (λ y. n * y) (half_of k)

-- by whether it stands at its own resting point, and whether that still lies ahead
abbrev stop_shape : Rules → ℕ → ℕ → List ℕ → List ℕ → List (List ℕ) → ℕ → Bool → Bool → Progress → Stepped
stop_shape r w k P F Gs t own early p =
    cond early (inside Gs (cond own (Going p) (rest (Some w) (t + 2 ^ (k + 1 - 1)) p) >>= (λ q. evolve r (Some w) (k + 1 - 1) F (t + 2 ^ (k + 1 - 1)) q))) (Going p) >>=
    (λ q. close r (k + 1) P F t q)

finer_at : (r : Rules) (u w k m t : ℕ) (P F : List ℕ) (Fs : List (List ℕ)) → IsSpan u k m t → (p : Progress) →
    AgreesIn r u w (k + 1) P F Fs (inside (F ∷ Fs) (evolve r (Some w) (k + 1 - 1) F (t + 2 ^ (k + 1 - 1)) p) >>= (λ q. close r (k + 1) P F t q)) (evolve r None (k + 1 - 1) F (t + 2 ^ (k + 1 - 1)) p >>= (λ q. close r (k + 1) P F t q))
finer_at r u w k m t P F Fs x p =
    let middle = t + 2 ^ (k + 1 - 1) in
    let e : middle ≡ (2 * m + 1) * 2 ^ (k + 1 - 1) = omega (arith, x.starts, doubled m k, half_of k, ap (λ y. m * y) (half_of k)) in
    finer_agrees r u w k m t P F Fs x (evolve r (Some w) (k + 1 - 1) F middle p) (evolve r None (k + 1 - 1) F middle p) (evolve_agrees r w (k + 1 - 1) (2 * m + 1) F middle p (omega (arith, x.small)) e)

resting_at : (r : Rules) (u w k m t : ℕ) (P F : List ℕ) (Fs : List (List ℕ)) → IsSpan u k m t → (told : Progress) (b : Bool) → (w == t + 2 ^ (k + 1 - 1)) ≡ b →
    AgreesIn r u w (k + 1) P F Fs (inside (F ∷ Fs) (cond b (Resting told (t + 2 ^ (k + 1 - 1)) []) (Going told) >>= (λ q. evolve r (Some w) (k + 1 - 1) F (t + 2 ^ (k + 1 - 1)) q)) >>= (λ q. close r (k + 1) P F t q))
    (evolve r None (k + 1 - 1) F (t + 2 ^ (k + 1 - 1)) told >>= (λ q. close r (k + 1) P F t q))
resting_at r u w k m t P F Fs x told false e = finer_at r u w k m t P F Fs x told
resting_at r u w k m t P F Fs x told true e =
    let middle = t + 2 ^ (k + 1 - 1) in
    let here : w ≡ middle = eqb-true w middle e in
    let d = doubled m k in
    let g = doubled (m + 1) k in
    let at : w ≡ (2 * m + 1) * 2 ^ k = omega (arith, here, x.starts, d, half_of k) in
    let low : low_zeros w ≡ k = ap low_zeros at ∙ low_of 64 k m x.small in
    let y = pow_pos k in
    let after : m * 2 ^ (k + 1) < w = omega (arith, at, d, y) in
    let before : w < (m + 1) * 2 ^ (k + 1) = omega (arith, at, g, y) in
    let began_here : began (k + 1) w ≡ t = began_at (k + 1) m w (le_of_lt after) before ∙ sym x.starts in
    record {
      Gs = [];
      parts = refl;
      at = sym here;
      both = record { m = m; after = x.after; before = x.before; after_too = after; before_too = before };
      count = omega (arith, low);
      goes = (λ i. evolve r None (less_one k i) F middle told >>= (λ q. close r (k + 1) P F t q)) ∙ sym (rest_own r w k P F t began_here (sym low) here told);
    }

shape_agrees : (r : Rules) (u w k m t : ℕ) (P F : List ℕ) (Fs : List (List ℕ)) → IsSpan u k m t → (own early : Bool) (p : Progress) → AgreesIn r u w (k + 1) P F Fs (stop_shape r w k P F (F ∷ Fs) t own early p) (shape r k P F t own early p)
shape_agrees r u w k m t P F Fs x own false p = same_moves r u w (k + 1) P F Fs (close r (k + 1) P F t p) (close_moves r (k + 1) P F t p)
shape_agrees r u w k m t P F Fs x true true p = finer_at r u w k m t P F Fs x p
shape_agrees r u w k m t P F Fs x false true p = resting_at r u w k m t P F Fs x (tell (Rested (t + 2 ^ (k + 1 - 1))) p) (w == t + 2 ^ (k + 1 - 1)) refl

round_agrees : (r : Rules) (u w k : ℕ) (P F : List ℕ) (Fs : List (List ℕ)) → AreInside u u (k + 1) → k < 64 → (p : Progress) → AgreesIn r u w (k + 1) P F Fs (stop_step r (Some w) u (k + 1) P F (F ∷ Fs) p) (rest_of_step r u (k + 1) P F p)
round_agrees r u w k P F Fs a small p =
    let t = began (k + 1) u in
    let x : IsSpan u k a.m t = record { starts = began_at (k + 1) a.m u (le_of_lt a.after) a.before; after = a.after; before = a.before; small = small } in
    shape_agrees r u w k a.m t P F Fs x (k + 1 == low_zeros u + 1) (nat_le u (t + 2 ^ (k + 1 - 1))) p

-- ---- all rounds

abbrev pub rounds : Rules → Option ℕ → ℕ → List ℕ → ℕ → List (List ℕ) → Stepped → Stepped
rounds r stop u P bin [] s = s
rounds r stop u P bin (F ∷ Fs) s = rounds r stop u P (bin + 1) Fs (s >>= (λ p. stop_step r stop u bin (head_or P Fs) F (F ∷ Fs) p))

rounds_refused : (r : Rules) (stop : Option ℕ) (u : ℕ) (P : List ℕ) (bin : ℕ) (Fs : List (List ℕ)) (p : Progress) (e : Refusal) → rounds r stop u P bin Fs (Refused p e) ≡ Refused p e
rounds_refused r stop u P bin [] p e = refl
rounds_refused r stop u P bin (F ∷ Fs) p e = rounds_refused r stop u P (bin + 1) Fs p e

rounds_resting : (r : Rules) (stop : Option ℕ) (u : ℕ) (P : List ℕ) (bin : ℕ) (Fs : List (List ℕ)) (p : Progress) (tick : ℕ) (Hs : List (List ℕ)) → rounds r stop u P bin Fs (Resting p tick Hs) ≡ Resting p tick Hs
rounds_resting r stop u P bin [] p tick Hs = refl
rounds_resting r stop u P bin (F ∷ Fs) p tick Hs = rounds_resting r stop u P (bin + 1) Fs p tick Hs

rest_refused : (r : Rules) (u : ℕ) (P : List ℕ) (bin : ℕ) (Fs : List (List ℕ)) (p : Progress) (e : Refusal) → rest_of_steps r u P bin Fs (Refused p e) ≡ Refused p e
rest_refused r u P bin [] p e = refl
rest_refused r u P bin (F ∷ Fs) p e = rest_refused r u P (bin + 1) Fs p e

-- stopped at the tick w inside these evolves, in the same base step as u, the whole is their rest
pub record IsStoppedAgain (r : Rules) (u w top : ℕ) (P : List ℕ) (q : Progress) (tick : ℕ) (Hs : List (List ℕ)) (whole : Stepped) : Type 0 where
  pub both : AreInside u w top
  pub stopped : IsStoppedAt r w top both.m P q tick Hs whole

abbrev pub AgreesAgain : Rules → ℕ → ℕ → ℕ → List ℕ → Stepped → Stepped → Type 0
AgreesAgain r u w top P (Going p) whole = whole ≡ Going p
AgreesAgain r u w top P (Refused p e) whole = whole ≡ Refused p e
AgreesAgain r u w top P (Resting q tick Hs) whole = IsStoppedAgain r u w top P q tick Hs whole

stopped_in : (r : Rules) (u w k : ℕ) (P F : List ℕ) (Fs : List (List ℕ)) (q : Progress) (tick : ℕ) (Hs : List (List ℕ)) (whole : Stepped) → low_zeros u < k + 1 →
    IsStoppedIn r u w (k + 1) (head_or P Fs) F Fs q tick Hs whole → IsStoppedAgain r u w (k + 1 + length Fs) P q tick Hs (rest_of_steps r u P (k + 1 + 1) Fs whole)
stopped_in r u w k P F Fs q tick Hs whole low a =
    let v = low_zeros w in
    let X = rest_of_steps r w F (v + 1) a.Gs (Going q) >>= (λ p. rest_of_step r w (k + 1) (head_or P Fs) F p) in
    let e : v + 1 + length a.Gs ≡ k + 1 = omega (arith, a.count) in
    let inside = wider_by u w (k + 1) (length Fs) a.both in
    let len : length Hs ≡ length a.Gs + suc (length Fs) = ap length a.parts ∙ length-append a.Gs (F ∷ Fs) in
    record {
      both = inside;
      stopped = record {
        at = a.at;
        after = inside.after_too;
        before = inside.before_too;
        count = omega (arith, a.count, len);
        inner = omega (arith, a.count);
        goes =
            ap (rest_of_steps r u P (k + 1 + 1) Fs) a.goes ∙
            rest_steps_same r u w (k + 1) P Fs a.both low (omega (arith, a.count)) X ∙
            (λ i. rest_of_steps r w P (sym e i + 1) Fs (rest_of_steps r w F (v + 1) a.Gs (Going q) >>= (λ p. rest_of_step r w (sym e i) (head_or P Fs) F p))) ∙
            sym (rest_append r w P F Fs (v + 1) a.Gs (Going q)) ∙
            (λ i. rest_of_steps r w P (v + 1) (sym a.parts i) (Going q));
      };
    }

rounds_agree : (r : Rules) (u w : ℕ) (P : List ℕ) (k : ℕ) (Fs : List (List ℕ)) → AreInside u u (k + 1) → low_zeros u < k + 1 → k + length Fs ≤ 64 → (p : Progress) →
    AgreesAgain r u w (k + length Fs) P (rounds r (Some w) u P (k + 1) Fs (Going p)) (rest_of_steps r u P (k + 1) Fs (Going p))
rounds_agree r u w P k [] a low small p = refl
rounds_agree r u w P k (F ∷ Fs) a low small p = by (stop_step r (Some w) u (k + 1) (head_or P Fs) F (F ∷ Fs) p) (rest_of_step r u (k + 1) (head_or P Fs) F p) (round_agrees r u w k (head_or P Fs) F Fs a (omega (arith, small)) p)
    (rounds_agree r u w P (k + 1) Fs (wider u u (k + 1) a) (omega (arith, low)) (omega (arith, small)))
  where
    len : k + 1 + length Fs ≡ k + suc (length Fs)
    len = omega arith

    by : (s whole : Stepped) → AgreesIn r u w (k + 1) (head_or P Fs) F Fs s whole → ((q : Progress) → AgreesAgain r u w (k + 1 + length Fs) P (rounds r (Some w) u P (k + 1 + 1) Fs (Going q)) (rest_of_steps r u P (k + 1 + 1) Fs (Going q))) →
        AgreesAgain r u w (k + suc (length Fs)) P (rounds r (Some w) u P (k + 1 + 1) Fs s) (rest_of_steps r u P (k + 1 + 1) Fs whole)
    by (Going q) whole e later = subst (λ z. AgreesAgain r u w (k + suc (length Fs)) P (rounds r (Some w) u P (k + 1 + 1) Fs (Going q)) (rest_of_steps r u P (k + 1 + 1) Fs z)) (sym e)
        (subst (λ top. AgreesAgain r u w top P (rounds r (Some w) u P (k + 1 + 1) Fs (Going q)) (rest_of_steps r u P (k + 1 + 1) Fs (Going q))) len (later q))
    by (Refused q x) whole e later =
        subst (λ z. AgreesAgain r u w (k + suc (length Fs)) P z (rest_of_steps r u P (k + 1 + 1) Fs whole)) (sym (rounds_refused r (Some w) u P (k + 1 + 1) Fs q x)) (ap (rest_of_steps r u P (k + 1 + 1) Fs) e ∙ rest_refused r u P (k + 1 + 1) Fs q x)
    by (Resting q tick Hs) whole e later =
        subst (λ z. AgreesAgain r u w (k + suc (length Fs)) P z (rest_of_steps r u P (k + 1 + 1) Fs whole)) (sym (rounds_resting r (Some w) u P (k + 1 + 1) Fs q tick Hs))
        (subst (λ top. IsStoppedAgain r u w top P q tick Hs (rest_of_steps r u P (k + 1 + 1) Fs whole)) len (stopped_in r u w k P F Fs q tick Hs whole low e))

-- ---- continue is its rounds

parts_told : (s : SetupData) (σ : StateData) (P : List ℕ) (c : ℕ) (Fs : List (List ℕ)) → Tells s σ P c Fs → map (unfinished_fast s σ) (range_with_len c (length Fs)) ≡ Fs
parts_told s σ P c [] n = refl
parts_told s σ P c (F ∷ Fs) n = λ i. n.0 i ∷ parts_told s σ P (c + 1) Fs n.2 i

round_stop : (r : Rules) (stop : Option ℕ) (σ : StateData) (bin : ℕ) (P F : List ℕ) (Gs : List (List ℕ)) → unfinished_fast r.gravity.setup σ bin ≡ F → unfinished r.gravity.setup σ bin ≡ P → fast_parts r.gravity.setup σ bin ≡ Gs →
    (p : Progress) → round r stop σ bin p ≡ stop_step r stop σ.tick bin P F Gs p
unfolding round
round_stop r stop σ bin P F Gs e f g p = λ i. stop_step r stop σ.tick bin (f i) (e i) (g i) p

fold_rounds : (r : Rules) (stop : Option ℕ) (σ : StateData) (P : List ℕ) (c : ℕ) (Fs : List (List ℕ)) → Tells r.gravity.setup σ P c Fs → c + length Fs ≡ r.gravity.setup.top_bin + 1 → (s : Stepped) →
    fold (λ step bin. step >>= (λ q. round r stop σ bin q)) s (range_with_len c (length Fs)) ≡ rounds r stop σ.tick P c Fs s
fold_rounds r stop σ P c [] n e s = refl
fold_rounds r stop σ P c (F ∷ Fs) n e s =
    let len : r.gravity.setup.top_bin + 1 - c ≡ length (F ∷ Fs) = omega (arith, e) in
    let parts : fast_parts r.gravity.setup σ c ≡ F ∷ Fs = ap (λ k. map (unfinished_fast r.gravity.setup σ) (range_with_len c k)) len ∙ parts_told r.gravity.setup σ P c (F ∷ Fs) n in
    ap (λ t. fold (λ step bin. step >>= (λ q. round r stop σ bin q)) t (range_with_len (c + 1) (length Fs)))
    (bind_same s (λ q. round r stop σ c q) (λ q. stop_step r stop σ.tick c (head_or P Fs) F (F ∷ Fs) q) (round_stop r stop σ c (head_or P Fs) F (F ∷ Fs) n.0 n.1 parts)) ∙
    fold_rounds r stop σ P (c + 1) Fs n.2 (omega (arith, e)) (s >>= (λ q. stop_step r stop σ.tick c (head_or P Fs) F (F ∷ Fs) q))

-- the rest of a base step is its rounds, behind the force that it asks first
pub continue_rounds : (r : Rules) (stop : Option ℕ) (σ : StateData) (P : List ℕ) (Fs : List (List ℕ)) → Tells r.gravity.setup σ P (low_zeros σ.tick + 1) Fs → low_zeros σ.tick + length Fs ≡ r.gravity.setup.top_bin → (p : Progress) →
    rounds r stop σ.tick P (low_zeros σ.tick + 1) Fs (Going (ask_if true (unfinished_fast r.gravity.setup σ (low_zeros σ.tick + 1)) p)) ≡ continue r stop σ p
unfolding continue
continue_rounds r stop σ P Fs told count p =
    let s = r.gravity.setup in
    let v = low_zeros σ.tick in
    let z = ask_if true (unfinished_fast s σ (v + 1)) p in
    let len : length Fs ≡ s.top_bin - v = omega (arith, count) in
    sym (fold_rounds r stop σ P (v + 1) Fs told (omega (arith, count)) (Going z)) ∙ ap (λ k. fold (λ step bin. step >>= (λ q. round r stop σ bin q)) (Going z) (range_with_len (v + 1) k)) len

-- a resting point is an odd multiple
record OddPart (u v : ℕ) : Type 0 where
  x : ℕ
  is : u ≡ (2 * x + 1) * 2 ^ v

odd_part : (k u : ℕ) → count_trailing_zeros k u < k → OddPart u (count_trailing_zeros k u)
unfolding count_trailing_zeros
odd_part zero u h = absurd (omega (arith, h))
odd_part (suc k) u h = by (u % 2) refl h (odd_part k (u / 2))
  where
    by : (d : ℕ) → u % 2 ≡ d → under d (count_trailing_zeros k (u / 2)) < suc k → (count_trailing_zeros k (u / 2) < k → OddPart (u / 2) (count_trailing_zeros k (u / 2))) → OddPart u (under d (count_trailing_zeros k (u / 2)))
    by zero e h f =
        let o = f (omega (arith, h)) in
        let c = count_trailing_zeros k (u / 2) in
        let p : (2 * o.x + 1) * 2 ^ suc c ≡ (2 * o.x + 1) * 2 ^ c * 2 = ap (λ y. (2 * o.x + 1) * y) (pow-suc 2 c) ∙ sym (mul_assoc (2 * o.x + 1) (2 ^ c) 2) in
        record { x = o.x; is = omega (arith, e, o.is, p) }
    by (suc d) e h f = record { x = u / 2; is = omega (arith, e) }

inside_first : (u : ℕ) → low_zeros u < 64 → AreInside u u (low_zeros u + 1)
inside_first u h =
    let o = odd_part 64 u h in
    let v = low_zeros u in
    let d = doubled o.x v in
    let g = doubled (o.x + 1) v in
    let y = pow_pos v in
    let is : u ≡ (2 * o.x + 1) * 2 ^ v = o.is in
    let after : o.x * 2 ^ (v + 1) < u = omega (arith, is, d, y) in
    let before : u < (o.x + 1) * 2 ^ (v + 1) = omega (arith, is, g, y) in
    record { m = o.x; after = after; before = before; after_too = after; before_too = before }

-- the rest of a base step, where the depths tell its fast parts, stopped again or not
pub continue_agrees : (r : Rules) (w : ℕ) (σ : StateData) (P : List ℕ) (Fs : List (List ℕ)) → Tells r.gravity.setup σ P (low_zeros σ.tick + 1) Fs → low_zeros σ.tick + length Fs ≡ r.gravity.setup.top_bin → r.gravity.setup.top_bin ≤ 64 → low_zeros σ.tick < r.gravity.setup.top_bin →
    (p : Progress) → AgreesAgain r σ.tick w r.gravity.setup.top_bin P (continue r (Some w) σ p) (continue r None σ p)
unfolding continue
continue_agrees r w σ P Fs told count small inner p =
    let s = r.gravity.setup in
    let u = σ.tick in
    let v = low_zeros u in
    let z = ask_if true (unfinished_fast s σ (v + 1)) p in
    let len : length Fs ≡ s.top_bin - v = omega (arith, count) in
    let rest : rest_of_steps r u P (v + 1) Fs (Going z) ≡ fold (λ step bin. step >>= (λ q. round r None σ bin q)) (Going z) (range_with_len (v + 1) (s.top_bin - v)) =
    sym (fold_rests r σ P (v + 1) Fs told (Going z)) ∙ ap (λ k. fold (λ step bin. step >>= (λ q. round r None σ bin q)) (Going z) (range_with_len (v + 1) k)) len in
    let a = rounds_agree r u w P v Fs (inside_first u (omega (arith, inner, small))) (omega arith) (omega (arith, count, small)) z in
    subst (λ top. AgreesAgain r u w top P (fold (λ step bin. step >>= (λ q. round r (Some w) σ bin q)) (Going z) (range_with_len (v + 1) (s.top_bin - v))) (fold (λ step bin. step >>= (λ q. round r None σ bin q)) (Going z) (range_with_len (v + 1) (s.top_bin - v)))) count
    (subst (λ y. AgreesAgain r u w (v + length Fs) P y (fold (λ step bin. step >>= (λ q. round r None σ bin q)) (Going z) (range_with_len (v + 1) (s.top_bin - v)))) (continue_rounds r (Some w) σ P Fs told count p)
    (subst (λ y. AgreesAgain r u w (v + length Fs) P (rounds r (Some w) u P (v + 1) Fs (Going z)) y) rest a))
