-- Breadth first over a web: what was seen, what is on the list, how far the list is worked off.
use Rattle.std.specs.Prelude.{◌≡◌, ◌<◌, ◌≤◌, ◌==◌, ℕ, ◌+◌, Bool, true, false, not, cond, List, ◌++◌, length, get_or, take}
use Rattle.std.specs.List.{AllByRecursion, count_by}
use Rattle.groups.specs.Groups.{Web, IsJoined, IsHead}

-- 1 where a place was seen
abbrev pub mark : List Bool → ℕ → ℕ
mark seen k = cond (get_or seen k false) 1 0

-- how often a place is on a list
unfoldable pub times : ℕ → List ℕ → ℕ
times k list = count_by (λ j. j == k) list

-- how many places weren't seen
unfoldable pub free : List Bool → ℕ
free seen = count_by not seen

-- each of these is below n
abbrev pub AllBelow : ℕ → List ℕ → Type 0
AllBelow n list = AllByRecursion (λ k. k < n) list

-- those of `out` that weren't seen were marked and pushed
pub record IsTaken (out : List ℕ) (old seen : List Bool) (before list : List ℕ) : Type 0 where
  pub pushed : List ℕ
  pub is : list ≡ before ++ pushed
  pub «from» : AllByRecursion (λ k. 1 ≤ times k out) pushed
  pub marks : (k : ℕ) → mark seen k ≡ mark old k + times k pushed
  pub taken : AllByRecursion (λ k. mark seen k ≡ 1) out
  pub as_long : length seen ≡ length old
  pub count : length list + free seen ≡ length before + free old

-- what is seen stays within: a link doesn't lead out of it, nor into it
abbrev pub IsClosed : Web → List Bool → Type 0
IsClosed w seen = (j k : ℕ) → j < w.size → k < w.size → w.link j k ≡ true → mark seen j ≡ mark seen k

-- the list from p on, worked off up to the cursor: joined to p, each marked once, and whatever is linked to those
-- before the cursor is marked
pub record IsSpread (w : Web) (p : ℕ) (old seen : List Bool) (list : List ℕ) (cursor : ℕ) : Type 0 where
  pub as_long : length seen ≡ w.size
  pub joined : AllByRecursion (λ k. (k < w.size) × IsJoined w p k) list
  pub first : 1 ≤ times p list
  pub marks : (k : ℕ) → mark seen k ≡ mark old k + times k list
  pub closed : AllByRecursion (λ j. (k : ℕ) → k < w.size → w.link j k ≡ true → mark seen k ≡ 1) (take cursor list)
  pub within : cursor ≤ length list
  pub count : length list + free seen ≡ free old

-- the whole class of p: on the list, and marked
pub record IsClass (w : Web) (p : ℕ) (old seen : List Bool) (list : List ℕ) : Type 0 where
  pub as_long : length seen ≡ w.size
  pub joined : AllByRecursion (λ k. (k < w.size) × IsJoined w p k) list
  pub whole : (k : ℕ) → IsJoined w p k → times k list ≡ 1
  pub marks : (k : ℕ) → mark seen k ≡ mark old k + times k list
  pub closed : IsClosed w seen

-- p was written at each place of the list, and nowhere else
pub record IsWritten (p : ℕ) (list old new : List ℕ) : Type 0 where
  pub as_long : length new ≡ length old
  pub on : (k d : ℕ) → 1 ≤ times k list → get_or new k d ≡ p
  pub off : (k d : ℕ) → times k list ≡ 0 → get_or new k d ≡ get_or old k d

-- each place below p was seen, and each that was seen has its head
pub record IsDone (w : Web) (p : ℕ) (seen : List Bool) (heads : List ℕ) : Type 0 where
  pub as_long : length seen ≡ w.size
  pub as_many : length heads ≡ w.size
  pub closed : IsClosed w seen
  pub behind : (k : ℕ) → k < p → mark seen k ≡ 1
  pub headed : (k d : ℕ) → mark seen k ≡ 1 → IsHead w k (get_or heads k d)
