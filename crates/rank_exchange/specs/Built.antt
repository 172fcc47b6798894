-- What a rank builds of its own bodies.
use Rattle.std.specs.Prelude.{◌≡◌, ℕ, List, length, map}
use Rattle.nbody_model.specs.Bodies.{BodyData}
use Rattle.rank_laws.specs.Machine.{Table, message}
use Rattle.rank_laws.specs.Whole.{Whole, IsWhole, own}
use Rattle.rank_laws.specs.Contents.{EntryData, own_nodes, table_sent}
use Rattle.rank_curve_laws.specs.Along.{keys_along}
use Rattle.rank_entry_laws.specs.Given.{HasSoftenings}
use Rattle.rank_exchange.specs.Messages.{MessageData, filled}

-- the own bodies of a rank, of cells with their keys along the curve by these bounds, of kinds with these softening lengths
pub record AreOfRank (w : Whole) (r : ℕ) (bodies : List BodyData) (lengths bounds : List ℕ) : Type 0 where
  pub whole : IsWhole w
  pub softenings : HasSoftenings w
  pub own : bodies ≡ own w r
  pub soft : w.gravity.setup.soft ≡ lengths
  pub keys : w.keys ≡ keys_along bounds

-- how many own nodes there are, the tables for some ranks, and the entries that the rank has for itself
pub record IsBuilt (w : Whole) (r : ℕ) (to : List ℕ) (many : ℕ) (messages : List MessageData) (entries : List EntryData) : Type 0 where
  pub size : many ≡ length (own_nodes w r)
  pub sent : messages ≡ map (λ q. filled w (message Table r q)) to
  pub kept : entries ≡ table_sent w r r
