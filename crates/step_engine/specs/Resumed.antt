-- What is left of a base step at a resting point, by the depths of the bodies and their places.
use Rattle.std.specs.Prelude.{◌≡◌, ◌<◌, ◌≤◌, ⊤, ℕ, ◌+◌, ◌-◌, ◌^◌, ◌==◌, nat_le, true, List, [], ◌∷◌, length, map, fold, min, slice_index, Option, IfSome, if◌then◌else◌}
use Rattle.std.specs.List.{AllByRecursion, range_with_len}
use Rattle.nbody_model.specs.Bodies.{BodyData}
use Rattle.nbody_model.specs.Setups.{SetupData}
use Rattle.nbody_model.specs.Tables.{ExpansionData, Reaches, Rules}
use Rattle.nbody_model.specs.States.{low_zeros, began}
use Rattle.nbody_model.specs.Evolve.{Progress, Stepped, Going, ◌>>=◌, inside, ask_if, rest, close, evolve}
use Rattle.kick_drift.specs.Parts.{ids_at}
use Rattle.step_engine.specs.declared.halt.Halt.{Halt}
use Rattle.step_engine.specs.declared.halt.Halt.TheVariants as halts

-- a resting point at a tick inside a base step of these bodies, with these depths
pub record IsInside (s : SetupData) (B : List BodyData) (depths : List ℕ) (tick : ℕ) : Type 0 where
  pub some : 1 ≤ length B
  pub each : length depths ≡ length B
  pub not_finest : s.low_bin ≤ low_zeros tick
  pub not_whole : low_zeros tick < s.top_bin
  pub shallow : AllByRecursion (λ d. d ≤ s.top_bin - low_zeros tick) depths

-- the base step that holds a tick ends within all limits
pub record EndsInTime (e : Option ExpansionData) (s : SetupData) (tick : ℕ) : Type 0 where
  pub short : s.top_bin ≤ 20
  pub early : began s.top_bin tick ≤ 2 ^ 40
  pub spans : IfSome e (λ table. Reaches table (began s.top_bin tick + 2 ^ s.top_bin))

-- ---- places by depths

-- the places of the depths that are at least n, where the first one stands at a place
abbrev pub deep_from : ℕ → ℕ → List ℕ → List ℕ
deep_from n place [] = []
deep_from n place (d ∷ depths) = if nat_le n d then place ∷ deep_from n (place + 1) depths else deep_from n (place + 1) depths

-- the places of the bodies of the unfinished evolve of a bin, and those of its fast part
abbrev pub whole_places : ℕ → List ℕ → ℕ → List ℕ
whole_places top depths bin = deep_from (top - bin) 0 depths

abbrev pub quick_places : ℕ → List ℕ → ℕ → List ℕ
quick_places top depths bin = deep_from (top - bin + 1) 0 depths

-- the fast parts of the unfinished evolves from a bin up to the top bin
abbrev pub quick_parts : List BodyData → ℕ → List ℕ → ℕ → List (List ℕ)
quick_parts B top depths bin = map (λ c. ids_at B (quick_places top depths c)) (range_with_len bin (top + 1 - bin))

-- each of these depths grows by the other one at its place, but by so much at most
pub record IsDeeperBy (most : ℕ) (outer old new : List ℕ) : Type 0 where
  pub long : length new ≡ length old
  pub each : (i : ℕ) → i < length old → slice_index new i ≡ slice_index old i + min (slice_index outer i) most

-- a rest has as many depths as the other list, and none is too large to grow
abbrev pub HasRoomBy : Halt → List ℕ → List ℕ → Type 0
HasRoomBy (halts.Rest tick) outer depth = (length depth ≡ length outer) × AllByRecursion (λ d. d ≤ 20) depth
HasRoomBy (halts.MomRange tick bin id axis) outer depth = ⊤
HasRoomBy (halts.StepRange tick id) outer depth = ⊤
HasRoomBy halts.OutFault outer depth = ⊤
HasRoomBy halts.Memory outer depth = ⊤

-- depths grow by a rest alone
abbrev pub DeepensEach : Halt → ℕ → List ℕ → List ℕ → List ℕ → Type 0
DeepensEach (halts.Rest tick) most outer old new = IsDeeperBy most outer old new
DeepensEach (halts.MomRange tick bin id axis) most outer old new = new ≡ old
DeepensEach (halts.StepRange tick id) most outer old new = new ≡ old
DeepensEach halts.OutFault most outer old new = new ≡ old
DeepensEach halts.Memory most outer old new = new ≡ old

-- ---- the rounds

-- the middle of the unfinished evolve of a bin at a tick, and its end
abbrev pub middle_of : ℕ → ℕ → ℕ
middle_of bin tick = began bin tick + 2 ^ (bin - 1)

abbrev pub end_of_bin : ℕ → ℕ → ℕ
end_of_bin bin tick = began bin tick + 2 ^ bin

-- the second finer step, with the resting point before it unless that is the one where the step rests
abbrev pub second_finer : Rules → ℕ → ℕ → List ℕ → Option ℕ → Progress → Stepped
second_finer r tick bin F stop p =
    (if bin == low_zeros tick + 1 then Going p else rest stop (middle_of bin tick) p) >>= (λ q. evolve r stop (bin - 1) F (middle_of bin tick) q)

-- the same inside unfinished evolves with the fast parts Gs, unless it was under way
abbrev pub finer_left : Rules → ℕ → ℕ → List ℕ → List (List ℕ) → Option ℕ → Progress → Stepped
finer_left r tick bin F Gs stop p = if nat_le tick (middle_of bin tick) then inside Gs (second_finer r tick bin F stop p) else Going p

-- the rest of the unfinished evolve of a bin with the bodies P and the fast part F
abbrev pub round_left : Rules → ℕ → ℕ → List ℕ → List ℕ → List (List ℕ) → Option ℕ → Progress → Stepped
round_left r tick bin P F Gs stop p = finer_left r tick bin F Gs stop p >>= (λ q. close r bin P F (began bin tick) q)

-- the same by the depths of the bodies B
abbrev pub round_of : Rules → ℕ → ℕ → List BodyData → List ℕ → Option ℕ → ℕ → Progress → Stepped
round_of r top tick B depths stop bin p =
    round_left r tick bin (ids_at B (whole_places top depths bin)) (ids_at B (quick_places top depths bin)) (quick_parts B top depths bin) stop p

-- the force that is asked first
abbrev pub first_asked : ℕ → ℕ → List BodyData → List ℕ → Option ℕ → Progress → Stepped
first_asked top tick B depths stop p = Going (ask_if true (ids_at B (quick_places top depths (low_zeros tick + 1))) p)

-- the rest of the unfinished evolves up to a bin
abbrev pub rounds_left : Rules → ℕ → ℕ → List BodyData → List ℕ → ℕ → Option ℕ → Progress → Stepped
rounds_left r top tick B depths bin stop p =
    fold (λ step c. step >>= (λ q. round_of r top tick B depths stop c q)) (first_asked top tick B depths stop p) (range_with_len (low_zeros tick + 1) (bin - low_zeros tick))

-- a part of a round may count from a tick on
pub record IsFrom (tick bin from : ℕ) : Type 0 where
  pub own : bin ≡ low_zeros tick + 1 → from ≤ tick
  pub later : tick < middle_of bin tick → from < middle_of bin tick
  pub end : from ≤ end_of_bin bin tick

-- when the rounds up to a bin end; before the first one it is the resting point
abbrev pub rounds_end : ℕ → ℕ → ℕ
rounds_end tick bin = if bin == low_zeros tick then tick else end_of_bin bin tick
