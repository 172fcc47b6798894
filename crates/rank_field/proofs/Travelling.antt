-- The messages in the mail of a machine go to its ranks.
use Rattle.std.proofs.Common.{◌≡◌, ℕ, zero, suc, ◌<◌, List, [], ◌∷◌, length, map, get_or, refl, arith}
use Rattle.std.specs.Prelude.{Some, slice_get}
use Rattle.rank_laws.specs.Protocol.{World}
use Rattle.rank_laws.specs.Machine.{Message, Rank, machine}
use Rattle.rank_laws.specs.Runs.{received, unsent}
use Rattle.rank_laws.specs.Whole.{Whole, ranks_of, rules_of}
use Rattle.rank_laws.proofs.Fairness.{rules_fair}
use Rattle.rank_laws.proofs.Machine.{IsGood, IsSteady, left}
use Rattle.rank_laws.proofs.Protocol.{each-get}
use Rattle.rank_laws.proofs.Taken.{first}
use Rattle.rank_exchange.specs.Messages.{MessageData, filled}
use Rattle.rank_exchange.proofs.Senders.{is_kept}
use Rattle.rank_field.specs.Machines.{RunsTo}

-- a message of the machine as it travels, to one of the ranks
pub record Travels (w : Whole) (m : Message) (v : MessageData) : Type 0 where
  pub filled_in : v ≡ filled w m
  pub to_in : m.to < ranks_of w

module _ (w : Whole) (z : World Rank Message) where
  pub goes_to : RunsTo w z → (k : ℕ) (m : Message) → slice_get z.mail k ≡ Some m → m.to < ranks_of w
  goes_to h k m e =
      (each-get (machine (rules_of w)) (unsent (rules_of w)) (received (rules_of w)) (left (rules_of w)) (IsSteady (rules_of w)) (IsGood (rules_of w)) (first (rules_of w) (rules_fair w h.is_whole)) z.mail k m
      (is_kept (rules_of w) (rules_fair w h.is_whole) h.events z h.run).good e).to_in

  pub found : (ms : List Message) (k : ℕ) (d : MessageData) → k < length ms → (m : Message) × (slice_get ms k ≡ Some m) × (get_or (map (filled w) ms) k d ≡ filled w m)
  found [] k d h = absurd (omega (arith, h))
  found (m ∷ ms) zero d h = (m, refl, refl)
  found (m ∷ ms) (suc k) d h = found ms k d (omega (arith, h))
