-- Which calls of a store in memory are to fail.
use Rattle.std.specs.Prelude.{ℕ, ◌-◌, ◌^◌, ◌==◌, nat_lt, reverse, find, Option, None, option_map, if◌then◌else◌}
use Rattle.store_io.specs.Causes.{Call}
use Rattle.store_io.specs.declared.fault_plan.FaultPlan.{FaultPlan}
use Rattle.store_io.specs.declared.fault_plan.LastCall.{LastCall}

-- how many bytes an append keeps at the call with this number, where that call is to fail;
-- the later of two entries counts
abbrev pub planned_at : FaultPlan → ℕ → Option ℕ
planned_at plan call = option_map (λ entry. entry.kept) (find (λ entry. entry.call == call) (reverse plan.entries.items))

-- the same for the next call; the call with the last number never fails
abbrev pub planned_next : FaultPlan → Option ℕ
planned_next plan = if nat_lt plan.calls (2 ^ 64 - 1) then planned_at plan plan.calls else None

abbrev pub call_of : Option LastCall → Option Call
call_of last = option_map (λ call. (call.name, call.reads)) last
