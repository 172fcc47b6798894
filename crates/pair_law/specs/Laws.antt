-- What a law of pairs asks of its two closures.
use Rattle.std.specs.Prelude.{◌≡◌, ◌≤◌, ◌+◌, ◌-◌, ◌^◌, Bool, true, false, ◌&&◌, ◌⊎◌, IsTrue}
use Rattle.std.specs.Borrow.{Bor}
use Rattle.std.specs.Fn.{Shared, FnReturnsAtPair}
use Rattle.fixed_point.specs.declared.V3.{V3}
use Rattle.fixed_point.specs.Vectors.{IsAtMost}
use Rattle.cell_space.specs.Cells.{AreDisjoint, InBox, before}
use Rattle.nbody_model.specs.Moments.{MomentsData}
use Rattle.nbody_model.specs.OpeningRule.{accept as accepted}
use Rattle.nbody_model.specs.PairForce.{pair}
use Rattle.nbody_model.specs.Tables.{Gravity}
use Rattle.pair_law.specs.Conditions.{is_final}

-- two nodes have nothing in common, and a mass of at most 2^32 together
pub record AreApart (a b : MomentsData) : Type 0 where
  pub disjoint : AreDisjoint a.cell b.cell
  pub light : a.mass + b.mass ≤ 2 ^ 32

-- and the first isn't the one of greater corner
pub record AreInOrder (a b : MomentsData) : Type 0 where
  pub apart : AreApart a b
  pub turned : before b.cell a.cell ≡ false

-- references to two nodes, as a closure takes them
abbrev pub Two : Type 0
Two = Bor MomentsData × (Bor MomentsData × Unit {0})

abbrev pub two : Bor MomentsData → Bor MomentsData → Two
two a b = (a, (b, tt))

-- two nodes act on each other as wholes: both are leaves, or a closure may answer that the pair is accepted
abbrev pub MayAct : {A : Type 0} → Shared A Two Bool → A → MomentsData → MomentsData → Type 0
MayAct asks accept a b = IsTrue (a.leaf && b.leaf) ⊎ FnReturnsAtPair asks accept a b true

-- the first closure may be asked about each two nodes that are apart, and the second for the force on the first of each
-- two in order that act on each other as wholes; that force is below 2^87 on each axis; the two nodes fix each answer,
-- that of the first closure in whatever order they come
pub record IsLaw {A F : Type 0} (asks : Shared A Two Bool) (pulls : Shared F Two V3) (accept : A) (force : F) : Type 0 where
  pub may_ask : (a b : Bor MomentsData) → AreApart a.now b.now → asks.pre accept (two a b)
  pub one_answer : (a b c d : Bor MomentsData) (r s : Bool) → AreApart a.now b.now → a.now ≡ c.now → b.now ≡ d.now →
      asks.post accept (two a b) r → asks.post accept (two c d) s → r ≡ s
  pub fair : (a b c d : Bor MomentsData) (r s : Bool) → InBox a.now.centre → InBox b.now.centre → a.now ≡ d.now → b.now ≡ c.now →
      asks.post accept (two a b) r → asks.post accept (two c d) s → r ≡ s
  pub may_pull : (a b : Bor MomentsData) → AreInOrder a.now b.now → MayAct asks accept a.now b.now → pulls.pre force (two a b)
  pub one_force : (a b c d : Bor MomentsData) (f g : V3) → AreInOrder a.now b.now → a.now ≡ c.now → b.now ≡ d.now →
      pulls.post force (two a b) f → pulls.post force (two c d) g → f ≡ g
  pub small : (a b : Bor MomentsData) (f : V3) → AreInOrder a.now b.now → pulls.post force (two a b) f → IsAtMost (2 ^ 87 - 1) f

-- two closures answer by the opening rule of a setup and the forces of a gravity
pub record AnswersBy {A F : Type 0} (asks : Shared A Two Bool) (pulls : Shared F Two V3) (accept : A) (force : F) (g : Gravity) : Type 0 where
  pub may_ask : (a b : Bor MomentsData) → asks.pre accept (two a b)
  pub accepts : (a b : Bor MomentsData) (r : Bool) → asks.post accept (two a b) r → r ≡ accepted g.setup a.now b.now
  pub may_pull : (a b : Bor MomentsData) → a.now.mass + b.now.mass ≤ 2 ^ 32 → IsTrue (is_final g.setup a.now b.now) → pulls.pre force (two a b)
  pub forces : (a b : Bor MomentsData) (f : V3) → pulls.post force (two a b) f → f ≡ pair g a.now b.now
  pub small : (a b : Bor MomentsData) (f : V3) → pulls.post force (two a b) f → IsAtMost (2 ^ 86) f

-- ---- the answers as functions

-- whether a pair is accepted, and the force on its first node
pub record PairLaw : Type 0 where
  pub accept : MomentsData → MomentsData → Bool
  pub force : MomentsData → MomentsData → V3

-- these are the answers of two closures; whether a pair is accepted doesn't hang on its order
pub record Answers {A F : Type 0} (asks : Shared A Two Bool) (pulls : Shared F Two V3) (accept : A) (force : F) (law : PairLaw) : Type 0 where
  pub accepts : (a b : Bor MomentsData) (r : Bool) → AreApart a.now b.now → asks.post accept (two a b) r → r ≡ law.accept a.now b.now
  pub forces : (a b : Bor MomentsData) (f : V3) → AreInOrder a.now b.now → pulls.post force (two a b) f → f ≡ law.force a.now b.now
  pub turned : (a b : MomentsData) → InBox a.centre → InBox b.centre → law.accept a b ≡ law.accept b a
