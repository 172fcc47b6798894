-- Why a run can't go on.
use Rattle.std.specs.Prelude.{◌≡◌, ◌≤◌, ℕ, List, IfSome, false, Option, Some, None, Result, Ok, Err}
use Rattle.std.specs.List.{Contains}
use Rattle.store_io.specs.Causes.{Call, Rose}
use Rattle.run_session.specs.declared.failure.Failure.{Failure}
use Rattle.run_session.specs.declared.failure.Failure.TheVariants.{WriteFault, Memory}

-- where all went well, no fault was counted, and the last call that failed is as before
pub record IsQuiet (before now : ℕ) (last_before last_now : Option Call) : Type 0 where
  pub faults : now ≡ before
  pub last : last_now ≡ last_before

-- a file can't be written only where the count of faults rose, and the call that failed last is then one that writes this
-- file; want of memory is free
abbrev pub HasFailed : ℕ → ℕ → Option Call → Failure → Type 0
HasFailed before now last (WriteFault name) = Rose before now × IfSome last (λ c. c ≡ (name, false))
HasFailed before now last Memory = before ≤ now

abbrev pub FilesCause : {T : Type 0} → Result T Failure → ℕ → ℕ → Option Call → Option Call → Type 0
FilesCause (Ok x) before now last last_now = IsQuiet before now last last_now
FilesCause (Err e) before now last last_now = HasFailed before now last_now e

-- the file that couldn't be written; none, where memory was wanting
abbrev pub fault_of : Failure → Option (List ℕ)
fault_of (WriteFault name) = Some name
fault_of Memory = None

-- if a file couldn't be written, it is one of these
abbrev pub IsAmong : List (List ℕ) → Option (List ℕ) → Type 0
IsAmong names fault = IfSome fault (Contains names)

abbrev pub Blames : List (List ℕ) → Failure → Type 0
Blames names e = IsAmong names (fault_of e)
