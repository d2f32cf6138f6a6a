-- The entries of a schedule: their forms, their order, and what a text of them says.
use Rattle.std.specs.Prelude.{ℕ, Bool, true, false, ◌&&◌, ◌==◌, not, nat_lt, nat_le, if◌then◌else◌, List, [], ◌∷◌, ◌++◌, Option, Some, None, option_map, option_and_then, option_to_list, Result, Ok, Err, codes}
use Rattle.std.specs.List.{list_any}
use Rattle.std.specs.Result.{result_ok}
use Rattle.std.specs.Str.{bytes_eq}
use Rattle.dsm_base.specs.declared.act.Act.{Act}
use Rattle.dsm_base.specs.declared.act.SchedErr.{SchedErr}
use Rattle.dsm_base.specs.declared.names.Proc.{Proc}
use Rattle.dsm_sched.specs.Words.{Row}
use Rattle.dsm_sched.specs.Entries.{◌>>=◌, EntryKind, is_count, one_number, two_numbers, counted_number, counted_numbers, entry_at, said_by_text}
use Rattle.dsm_sched.specs.declared.schedule.Entry.{Entry}
use Rattle.dsm_sched.specs.declared.schedule.Schedule.{Schedule}
use Rattle.dsm_sched.specs.declared.schedule.form.Form.{Form}
use Rattle.dsm_sched.specs.declared.schedule.form.Kind.{Kind}
use Rattle.dsm_sched.specs.Schedules.{unit_count, units_by}

-- Forms.

-- kinds of entries of crashes
abbrev pub crash_kind : List ℕ → Option Kind
crash_kind name =
    if bytes_eq name (codes "crash") then Some Kind.Crash
    else (if bytes_eq name (codes "torn") then Some Kind.Torn
    else (if bytes_eq name (codes "restart") then Some Kind.Restart else None))

-- and of images
abbrev pub image_kind : List ℕ → Option Kind
image_kind name =
    if bytes_eq name (codes "ckpt") then Some Kind.Ckpt
    else (if bytes_eq name (codes "block") then Some Kind.Block else crash_kind name)

-- the kind of entry that a name begins
abbrev pub kind_of : List ℕ → Option Kind
kind_of name =
    if bytes_eq name (codes "step") then Some Kind.Step
    else (if bytes_eq name (codes "deliver") then Some Kind.Deliver
    else (if bytes_eq name (codes "finish") then Some Kind.Finish else image_kind name))

-- `step P [C]`, `deliver P Q [C]`, `ckpt P`, `block P [C]`, `crash P`, `torn P K`, `restart P` or `finish K`
abbrev pub form_by : List (List ℕ) → Kind → Option Form
form_by arguments Kind.Step = option_map (λ numbers. Form.Step numbers.0 numbers.1) (counted_number arguments)
form_by arguments Kind.Deliver = option_map (λ numbers. Form.Deliver numbers.0 numbers.1 numbers.2) (counted_numbers arguments)
form_by arguments Kind.Finish = option_map Form.Finish (one_number arguments)
form_by arguments Kind.Ckpt = option_map Form.Ckpt (one_number arguments)
form_by arguments Kind.Block = option_map (λ numbers. Form.Block numbers.0 numbers.1) (counted_number arguments)
form_by arguments Kind.Crash = option_map Form.Crash (one_number arguments)
form_by arguments Kind.Torn = option_map (λ numbers. Form.Torn numbers.0 numbers.1) (two_numbers arguments)
form_by arguments Kind.Restart = option_map Form.Restart (one_number arguments)

-- the form of an entry
abbrev pub form_of : List (List ℕ) → Option Form
form_of [] = None
form_of (name ∷ arguments) = option_and_then (form_by arguments) (kind_of name)

-- Ranges.

-- the processor of a number, where it is one
abbrev pub proc_in : ℕ → ℕ → Option Proc
proc_in procs number = if nat_lt number procs then Some record { 0 = number } else None

-- a delivery between two of them that differ
abbrev pub deliver_in : ℕ → ℕ → ℕ → Option Act
deliver_in procs from to =
    option_and_then (λ from. option_and_then (λ to. if not (from.0 == to.0) then Some (Act.Deliver from to) else None) (proc_in procs to)) (proc_in procs from)

-- a crash that leaves at most a whole block
abbrev pub torn_in : ℕ → ℕ → ℕ → Option Act
torn_in procs proc kept = option_and_then (λ proc. if nat_le kept 512 then Some (Act.Torn proc kept) else None) (proc_in procs proc)

-- so many units, where that is a number of units
abbrev pub counted : Option Act → ℕ → Option Entry
counted None count = None
counted (Some act) count = if is_count count then Some (Entry.Unit act count) else None

-- the entry of a form, where its numbers are in their ranges
abbrev pub entry_in : ℕ → Form → Option Entry
entry_in procs (Form.Step proc count) = counted (option_map Act.Step (proc_in procs proc)) count
entry_in procs (Form.Deliver from to count) = counted (deliver_in procs from to) count
entry_in procs (Form.Finish rounds) = if is_count rounds then Some (Entry.Finish rounds) else None
entry_in procs (Form.Ckpt proc) = counted (option_map Act.Ckpt (proc_in procs proc)) 1
entry_in procs (Form.Block proc count) = counted (option_map Act.Block (proc_in procs proc)) count
entry_in procs (Form.Crash proc) = counted (option_map Act.Crash (proc_in procs proc)) 1
entry_in procs (Form.Torn proc kept) = counted (torn_in procs proc kept) 1
entry_in procs (Form.Restart proc) = counted (option_map Act.Restart (proc_in procs proc)) 1

-- Crashes, by the entries before an entry, the newest first.

-- whether an entry is a crash of this processor
abbrev pub crashes : ℕ → Entry → Bool
crashes proc (Entry.Unit (Act.Crash crashed) count) = crashed.0 == proc
crashes proc (Entry.Unit (Act.Torn crashed kept) count) = crashed.0 == proc
crashes proc _ = false

-- whether it is a crash of any
abbrev pub is_crash : Entry → Bool
is_crash (Entry.Unit (Act.Crash crashed) count) = true
is_crash (Entry.Unit (Act.Torn crashed kept) count) = true
is_crash _ = false

-- whether it restarts this processor
abbrev pub restarts : ℕ → Entry → Bool
restarts proc (Entry.Unit (Act.Restart restarted) count) = restarted.0 == proc
restarts proc _ = false

-- a processor is down where it has crashed since its last restart
abbrev pub is_down : ℕ → List Entry → Bool
is_down proc [] = false
is_down proc (entry ∷ before) = if crashes proc entry then true else (if restarts proc entry then false else is_down proc before)

-- whether an entry restarts a processor that isn't down
abbrev pub is_vain : List Entry → Entry → Bool
is_vain before (Entry.Unit (Act.Restart proc) count) = not (is_down proc.0 before)
is_vain before _ = false

-- an entry behind others: no second crash, and no restart of a processor that isn't down
abbrev pub placed : ℕ → List Entry → Entry → Result Entry SchedErr
placed line before entry =
    if is_crash entry && list_any is_crash before then Err (SchedErr.SecondCrash line)
    else (if is_vain before entry then Err (SchedErr.NoCrash line) else Ok entry)

-- Texts.

-- what a row says for so many processors, behind the entries before it
abbrev pub said_at : ℕ → List Entry → Row → Result Entry SchedErr
said_at procs before row = entry_at row.line (form_of row.words) (entry_in procs) >>= placed row.line before

-- what rows say, each behind the entries that were said before it
abbrev pub said_behind : ℕ → List Entry → List Row → List (Result Entry SchedErr)
said_behind procs before [] = []
said_behind procs before (row ∷ rows) =
    said_at procs before row ∷ said_behind procs (option_to_list (result_ok (said_at procs before row)) ++ before) rows

-- schedules, as texts of entries
abbrev pub schedule_kind : EntryKind Entry
schedule_kind = record { says = λ procs rows. said_behind procs [] rows; units = unit_count }

-- what a text says as a schedule: how many processors there are, and the entries
abbrev pub schedule_said : List ℕ → Result (ℕ × List Entry) SchedErr
schedule_said text = said_by_text schedule_kind text

-- the units of a schedule, one by one
abbrev pub units_of : Schedule → List Act
units_of schedule = units_by schedule.procs schedule.entries
