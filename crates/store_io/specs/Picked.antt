-- Whatever state a schedule is in, it picks one of those that it was asked for.
use Rattle.std.proofs.Common.{ℕ, zero, suc, ◌+◌, ◌*◌, ◌-◌, ◌/◌, ◌<◌, ◌≤◌, ◌^◌, min, List, [], ◌∷◌, arith, lit<}
use Rattle.std.proofs.lemmas.Nat.{div_below, mod_below, mul-le}
use Rattle.store_io.specs.Picks.{first_of_list, last_of, drawn, drawn_state}

-- an answer is below the number of those to pick from, in every state
abbrev pub PicksBelow : (List ℕ → ℕ → ℕ) → Type 0
PicksBelow answer = (state : List ℕ) (n : ℕ) → 1 ≤ n → answer state n < n

pub list_picks_below : PicksBelow first_of_list
list_picks_below [] n some = omega arith
list_picks_below (x ∷ xs) n some = omega arith

pub last_picks_below : PicksBelow last_of
last_picks_below state n some = omega arith

pub seed_picks_below : PicksBelow drawn
seed_picks_below [] n some = omega arith
seed_picks_below (s ∷ rest) n some =
    let high : drawn_state s / 2 ^ 32 < 2 ^ 32 = div_below (drawn_state s) (2 ^ 32) (2 ^ 32) (lit< tt) (mod_below _ (2 ^ 64) (lit< tt)) in
    div_below _ (2 ^ 32) n (lit< tt) (omega (arith, mul-le (drawn_state s / 2 ^ 32 + 1) n (2 ^ 32) n (omega (arith, high)) (omega arith)))
