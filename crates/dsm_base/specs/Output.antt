-- The lines that a run prints.
use Rattle.std.specs.Prelude.{ℕ, ◌≤◌, List, [], ◌∷◌, ◌++◌, length, Option, Some, None, codes}
use Rattle.std.specs.List.{AllByRecursion}
use Rattle.std.specs.Fmt.{decimal}
use Rattle.dsm_base.specs.declared.names.Fault.{Fault}
use Rattle.dsm_base.specs.declared.label.Label.{Label}
use Rattle.dsm_base.specs.Plain.{Turn}

-- from a space to a tilde
abbrev pub IsPrintable : ℕ → Type 0
IsPrintable byte = (0x20 ≤ byte) × (byte ≤ 0x7E)

-- each byte is printable
abbrev pub ArePrintable : List ℕ → Type 0
ArePrintable text = AllByRecursion IsPrintable text

-- the text of a line has at most 256 bytes, all of them printable
abbrev pub IsLine : List ℕ → Type 0
IsLine text = (length text ≤ 256) × ArePrintable text

-- the word for a fault
abbrev pub fault_name : Fault → List ℕ
fault_name Fault.Overflow = codes "overflow"
fault_name Fault.DivZero = codes "divzero"
fault_name Fault.Shift = codes "shift"
fault_name Fault.Index = codes "index"
fault_name Fault.Depth = codes "depth"
fault_name Fault.Unbound = codes "unbound"
fault_name Fault.Held = codes "held"
fault_name Fault.NotHeld = codes "notheld"

-- the text of the line of a label: what is printed, or the fault and its line in the source
abbrev pub line_text : Label → Option (List ℕ)
line_text (Label.Line text) = Some text
line_text (Label.Stop fault line) = Some (codes "fault " ++ fault_name fault ++ codes " line " ++ decimal line)
line_text _ = None

-- the line of a text of p
abbrev pub printed_line : ℕ → List ℕ → List ℕ
printed_line p text = codes "P" ++ decimal p ++ codes ": " ++ text ++ 10 ∷ []

-- the line of a text of p, where there is one
abbrev pub printed_of : ℕ → Option (List ℕ) → List ℕ
printed_of p None = []
printed_of p (Some text) = printed_line p text

-- the lines of a run in its order; the run has its newest turn first
abbrev pub printed_lines : List Turn → List ℕ
printed_lines [] = []
printed_lines (turn ∷ before) = printed_lines before ++ printed_of turn.proc (line_text turn.label)
