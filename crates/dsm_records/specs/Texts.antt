-- The text of a trace: a line for each unit, and a line for each of its records.
use Rattle.std.specs.Prelude.{ℕ, List, [], ◌∷◌, ◌++◌, length, codes}
use Rattle.std.specs.Fmt.{decimal, signed_decimal}
use Rattle.dsm_base.specs.declared.names.Mode.{Mode}
use Rattle.dsm_base.specs.declared.label.Label.{Label}
use Rattle.dsm_base.specs.Output.{fault_name}
use Rattle.dsm_lines.specs.declared.list.Line.{Line}
use Rattle.dsm_msg.specs.declared.message.Body.{Body}
use Rattle.dsm_msg.specs.declared.message.Body.TheOpen as layer
use Rattle.dsm_msg.specs.declared.message.Body.TheViews.{out-Body}
use Rattle.dsm_msg.specs.Spelling.{Layer}
use Rattle.dsm_net.specs.declared.trace.Rec.{Rec}
use Rattle.dsm_net.specs.declared.trace.Group.{Group}

-- words with a space between each two
abbrev pub spaced : List (List ℕ) → List ℕ
spaced [] = []
spaced (word ∷ []) = word
spaced (word ∷ next ∷ others) = word ++ (codes " " ++ spaced (next ∷ others))

-- the word for a mode
abbrev pub mode_name : Mode → List ℕ
mode_name Mode.Shared = codes "shared"
mode_name Mode.Excl = codes "excl"

-- the numbers of lines, each behind a space
abbrev pub line_numbers : List Line → List ℕ
line_numbers [] = []
line_numbers (line ∷ others) = (codes " " ++ decimal line.number) ++ line_numbers others

-- lines by their numbers
abbrev pub lines_text : List Line → List ℕ
lines_text lines = codes "lines" ++ line_numbers lines

-- what a turn showed, with the lines that it brought
abbrev pub label_text : Label → List Line → List ℕ
label_text Label.Quiet lines = codes "quiet"
label_text (Label.Load cell value) lines = spaced (codes "load" ∷ decimal cell.0 ∷ signed_decimal value ∷ [])
label_text (Label.Store cell value) lines = spaced (codes "store" ∷ decimal cell.0 ∷ signed_decimal value ∷ [])
label_text (Label.Ask lock mode) lines = spaced (codes "ask" ∷ decimal lock.0 ∷ mode_name mode ∷ [])
label_text (Label.Take lock mode version) lines =
    spaced (codes "take" ∷ decimal lock.0 ∷ mode_name mode ∷ decimal version ∷ lines_text lines ∷ [])
label_text (Label.Give lock) lines = spaced (codes "give" ∷ decimal lock.0 ∷ [])
label_text (Label.Arrive bar) lines = spaced (codes "arrive" ∷ decimal bar.0 ∷ [])
label_text (Label.Cross bar epoch) lines =
    spaced (codes "cross" ∷ decimal bar.0 ∷ decimal epoch ∷ lines_text lines ∷ [])
label_text (Label.Line text) lines = spaced (codes "line" ∷ text ∷ [])
label_text Label.End lines = codes "end"
label_text (Label.Stop fault line) lines = spaced (codes "stop" ∷ fault_name fault ∷ decimal line ∷ [])

-- what a message said, by its kind
abbrev pub layer_text : Layer → List ℕ
layer_text (layer.Req lock mode «have») =
    spaced (codes "req" ∷ decimal lock.0 ∷ mode_name mode ∷ decimal «have» ∷ [])
layer_text (layer.Grant lock mode turn version lines) =
    spaced (codes "grant" ∷ decimal lock.0 ∷ mode_name mode ∷ decimal version ∷ lines_text lines ∷ [])
layer_text (layer.Release lock mode version lines) =
    spaced (codes "release" ∷ decimal lock.0 ∷ mode_name mode ∷ decimal version ∷ lines_text lines ∷ [])
layer_text (layer.Arrive bar epoch lines) =
    spaced (codes "arrive" ∷ decimal bar.0 ∷ decimal epoch ∷ lines_text lines ∷ [])
layer_text (layer.Opened bar epoch lines) =
    spaced (codes "open" ∷ decimal bar.0 ∷ decimal epoch ∷ lines_text lines ∷ [])
layer_text layer.Note = codes "note"
layer_text layer.Ack = codes "ack"
layer_text (layer.Resync bodies) = spaced (codes "resync" ∷ decimal (length bodies) ∷ [])
layer_text (layer.Report report) = codes "report"
layer_text (layer.Pruned turn versions crossings) = codes "pruned"

-- what a message said
abbrev pub body_text : Body → List ℕ
body_text body = layer_text (out-Body body)

-- what happened to an image, or to a processor with its image
abbrev pub image_text : Rec → List ℕ
image_text (Rec.Begun proc turn blocks) =
    spaced (codes "begun" ∷ decimal proc.0 ∷ decimal turn ∷ decimal blocks ∷ [])
image_text (Rec.Wrote proc block) = spaced (codes "wrote" ∷ decimal proc.0 ∷ decimal block ∷ [])
image_text (Rec.Torn proc block kept) =
    spaced (codes "torn" ∷ decimal proc.0 ∷ decimal block ∷ decimal kept ∷ [])
image_text (Rec.Marked proc turn) = spaced (codes "marked" ∷ decimal proc.0 ∷ decimal turn ∷ [])
image_text (Rec.GaveUp proc) = spaced (codes "gaveup" ∷ decimal proc.0 ∷ [])
image_text (Rec.Crashed proc) = spaced (codes "crashed" ∷ decimal proc.0 ∷ [])
image_text (Rec.Reloaded proc turn) = spaced (codes "reloaded" ∷ decimal proc.0 ∷ decimal turn ∷ [])
image_text (Rec.Replayed proc turn) = spaced (codes "replayed" ∷ decimal proc.0 ∷ decimal turn ∷ [])
image_text other = []

-- what happened; an empty word at the end leaves its space
abbrev pub record_text : Rec → List ℕ
record_text (Rec.Turn proc turn label lines) =
    spaced (codes "turn" ∷ decimal proc.0 ∷ decimal turn ∷ [] ∷ []) ++ label_text label lines
record_text (Rec.Sent number msg) =
    spaced (codes "sent" ∷ decimal number ∷ decimal msg.from.0 ∷ decimal msg.to.0 ∷ body_text msg.body ∷ [])
record_text (Rec.Delivered number) = spaced (codes "delivered" ∷ decimal number ∷ [])
record_text (Rec.Dropped number) = spaced (codes "dropped" ∷ decimal number ∷ [])
record_text (Rec.Out proc turn text) = spaced (codes "out" ∷ decimal proc.0 ∷ decimal turn ∷ [])
record_text other = image_text other

-- a text as a line
abbrev pub as_line : List ℕ → List ℕ
as_line text = text ++ 10 ∷ []

-- a line for each record
abbrev pub records_text : List Rec → List ℕ
records_text [] = []
records_text (one ∷ others) = as_line (record_text one) ++ records_text others

-- the unit's number, and its records
abbrev pub group_text : Group → List ℕ
group_text group = as_line (spaced (codes "unit" ∷ decimal group.unit ∷ [])) ++ records_text group.records

-- the lines of all groups
abbrev pub trace_text : List Group → List ℕ
trace_text [] = []
trace_text (group ∷ others) = group_text group ++ trace_text others
