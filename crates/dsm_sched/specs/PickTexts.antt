-- The entries of a list of picks: their forms, and what a text of them says.
use Rattle.std.specs.Prelude.{ℕ, if◌then◌else◌, List, [], ◌∷◌, map, Option, Some, None, option_map, Result, codes}
use Rattle.std.specs.Str.{bytes_eq}
use Rattle.dsm_base.specs.declared.act.SchedErr.{SchedErr}
use Rattle.dsm_base.specs.declared.names.Proc.{Proc}
use Rattle.dsm_sched.specs.Words.{Row}
use Rattle.dsm_sched.specs.Entries.{EntryKind, one_number, counted_number, entry_at, said_by_text}
use Rattle.dsm_sched.specs.declared.picks.PickEntry.{PickEntry}
use Rattle.dsm_sched.specs.declared.picks.Picks.{Picks}
use Rattle.dsm_sched.specs.declared.picks.entry.Form.{Form}
use Rattle.dsm_sched.specs.Picks.{is_entry, entry_units, picked_by}

-- what stands behind `pick`: a processor, and how many picks
abbrev pub pick_form : List (List ℕ) → Option Form
pick_form arguments = option_map (λ numbers. Form.Pick numbers.0 numbers.1) (counted_number arguments)

-- what stands behind `all`: how many rounds
abbrev pub all_form : List (List ℕ) → Option Form
all_form arguments = option_map Form.All (one_number arguments)

-- an entry is `pick P [C]` or `all K`
abbrev pub form_of : List (List ℕ) → Option Form
form_of [] = None
form_of (name ∷ arguments) =
    if bytes_eq name (codes "pick") then pick_form arguments else (if bytes_eq name (codes "all") then all_form arguments else None)

-- the entry with the numbers of a form
abbrev pub entry_of : Form → PickEntry
entry_of (Form.Pick proc count) = PickEntry.Pick record { 0 = proc } count
entry_of (Form.All rounds) = PickEntry.All rounds

-- it, where its numbers are in their ranges
abbrev pub entry_in : ℕ → Form → Option PickEntry
entry_in procs form = if is_entry procs (entry_of form) then Some (entry_of form) else None

-- what a row says for so many processors
abbrev pub pick_at : ℕ → Row → Result PickEntry SchedErr
pick_at procs row = entry_at row.line (form_of row.words) (entry_in procs)

-- lists of picks, as texts of entries
abbrev pub picks_kind : EntryKind PickEntry
picks_kind = record { says = λ procs rows. map (pick_at procs) rows; units = entry_units }

-- what a text says as a list of picks: how many processors there are, and the entries
abbrev pub picks_said : List ℕ → Result (ℕ × List PickEntry) SchedErr
picks_said text = said_by_text picks_kind text

-- the picks one by one
abbrev pub picked : Picks → List Proc
picked picks = picked_by picks.procs picks.entries
