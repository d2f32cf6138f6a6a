-- Which calls of an object in memory fail.
use Rattle.std.specs.Prelude.{ℕ, ◌-◌, Bool, ◌&&◌, ◌==◌, if◌then◌else◌, List, map}
use Rattle.std.specs.List.{list_any}
use Rattle.dsm_base.specs.declared.plan.CallKind.{CallKind}
use Rattle.dsm_base.specs.declared.plan.PlannedFault.{PlannedFault}

-- the kinds of call, numbered
abbrev pub call_number : CallKind → ℕ
call_number CallKind.Read = 0
call_number CallKind.Put = 1
call_number CallKind.Clear = 2
call_number CallKind.Room = 3
call_number CallKind.Write = 4
call_number CallKind.Mark = 5
call_number CallKind.Marked = 6

-- whether two kinds of call are the same
abbrev pub same_call : CallKind → CallKind → Bool
same_call call other = call_number call == call_number other

-- whether a planned fault is that of the next call of this kind
abbrev pub is_next : CallKind → PlannedFault → Bool
is_next call fault = same_call fault.call call && (fault.left == 1)

-- whether the next call of this kind fails
abbrev pub is_due : CallKind → List PlannedFault → Bool
is_due call plan = list_any (is_next call) plan

-- a planned fault after a call of this kind: one call less is left before it
abbrev pub counted_one : CallKind → PlannedFault → PlannedFault
counted_one call fault = if same_call fault.call call then record fault { left = fault.left - 1 } else fault

-- the plan after a call of this kind
abbrev pub counted : CallKind → List PlannedFault → List PlannedFault
counted call plan = map (counted_one call) plan
