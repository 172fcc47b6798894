-- How a step that was stopped at a resting point goes on: the rest of each unfinished evolve, the least bin first, with
-- its bodies and its fast part as the step itself had them.
use Rattle.std.specs.Prelude.{◌≡◌, ◌<◌, ◌≤◌, ℕ, ◌+◌, ◌-◌, ◌*◌, ◌^◌, ◌==◌, nat_le, List, [], ◌∷◌, length, Some, None, if◌then◌else◌}
use Rattle.nbody_model.specs.Tables.{Rules}
use Rattle.nbody_model.specs.Evolve.{Progress, Stepped, Going, Refused, Resting, ◌>>=◌, rest, close, evolve}
use Rattle.nbody_model.specs.States.{low_zeros, began}

-- the rest of the evolve of the bodies P in a bin with the fast part F, from the resting point of tick u on
abbrev pub rest_of_step : Rules → ℕ → ℕ → List ℕ → List ℕ → Progress → Stepped
rest_of_step r u bin P F p =
    let t = began bin u in
    let middle = t + 2 ^ (bin - 1) in
    let ready : Stepped = if bin == low_zeros u + 1 then Going p else rest None middle p in
    let finer = ready >>= (λ q. evolve r None (bin - 1) F middle q) in
    let reached : Stepped = if nat_le u middle then finer else Going p in
    reached >>= (λ q. close r bin P F t q)

-- the first of a list, or else P
abbrev pub head_or : List ℕ → List (List ℕ) → List ℕ
head_or P [] = P
head_or P (F ∷ Fs) = F

-- the rest of the evolves with these fast parts, of a bin and those above it: the bodies of each are the fast part of
-- the next, and those of the last are P
abbrev pub rest_of_steps : Rules → ℕ → List ℕ → ℕ → List (List ℕ) → Stepped → Stepped
rest_of_steps r u P bin [] s = s
rest_of_steps r u P bin (F ∷ Fs) s = rest_of_steps r u P (bin + 1) Fs (s >>= (λ p. rest_of_step r u bin (head_or P Fs) F p))

-- a step in a bin from n · 2^bin on that was stopped at the tick u reached q there, inside the evolves with the fast
-- parts Fs: u lies inside the step, these are the evolves of the bins above its zero bits, and the same step, if it isn't
-- stopped, is their rest
pub record IsStoppedAt (r : Rules) (u bin n : ℕ) (P : List ℕ) (q : Progress) (tick : ℕ) (Fs : List (List ℕ)) (whole : Stepped) : Type 0 where
  pub at : tick ≡ u
  pub after : n * 2 ^ bin < u
  pub before : u < (n + 1) * 2 ^ bin
  pub count : low_zeros u + length Fs ≡ bin
  pub inner : low_zeros u < bin
  pub goes : whole ≡ rest_of_steps r u P (low_zeros u + 1) Fs (Going q)

-- what a step that may stop at u has to do with the same step that doesn't
abbrev pub Agrees : Rules → ℕ → ℕ → ℕ → List ℕ → Stepped → Stepped → Type 0
Agrees r u bin n P (Going p) whole = whole ≡ Going p
Agrees r u bin n P (Refused p e) whole = whole ≡ Refused p e
Agrees r u bin n P (Resting q tick Fs) whole = IsStoppedAt r u bin n P q tick Fs whole

-- stopped or not, a step is the same up to the resting point, and goes on from there by its rest
abbrev pub StepsGoOn : Type 0
StepsGoOn = (r : Rules) (u bin n : ℕ) (P : List ℕ) (p : Progress) → bin ≤ 64 →
    Agrees r u bin n P (evolve r (Some u) bin P (n * 2 ^ bin) p) (evolve r None bin P (n * 2 ^ bin) p)
