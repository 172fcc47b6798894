-- How many answers words and files have.
use Rattle.std.specs.Prelude.{◌≡◌, ℕ, List, true}
use Rattle.gadget.specs.declared.status.Status.{Status}
use Rattle.gadget.specs.declared.status.Status.TheVariants.{Stopped, Memory, ReadFault, WriteFault, ConsoleFault}
use Rattle.gadget.specs.declared.outcome.Outcome.{Outcome}
use Rattle.run_session.specs.Worlds.{World}
use Rattle.gadget.specs.Commands.{Asked}
use Rattle.gadget.specs.Outcomes.{status_of, text_of}
use Rattle.gadget.specs.Answers.{Does, Edge}

-- words and files decide such an answer: it is no want of memory, no fault and no stop
abbrev pub IsDecided : Status → Type 0
IsDecided Memory = ⊥
IsDecided (Stopped steps tick) = ⊥
IsDecided (ReadFault name) = ⊥
IsDecided (WriteFault name) = ⊥
IsDecided ConsoleFault = ⊥
IsDecided status = Unit {0}

-- two outcomes have one status and one text, and leave the same files
pub record IsOneAnswer (Y Z : World) (o q : Outcome) : Type 0 where
  pub status : status_of o ≡ status_of q
  pub text : text_of o ≡ text_of q
  pub files : (name : List ℕ) → Y.files name ≡ Z.files name

-- two calls find the same files, which are told
pub record FindOneFolder (d e : Edge) : Type 0 where
  pub first : d.tells ≡ true
  pub second : e.tells ≡ true
  pub files : e.old.files ≡ d.old.files

-- two calls have one schedule, in one state
pub record HaveOneOrder (d e : Edge) : Type 0 where
  pub order : e.order ≡ d.order
  pub state : e.old.state ≡ d.old.state

-- of the same words over the same files, by one schedule in one state: where two outcomes are both decided they are one
abbrev pub AnswersAreExact : Type 0
AnswersAreExact = (asked : Asked) (d e : Edge) (o q : Outcome) → FindOneFolder d e → HaveOneOrder d e → Does asked d o → Does asked e q → IsDecided (status_of o) → IsDecided (status_of q) → IsOneAnswer d.new e.new o q
