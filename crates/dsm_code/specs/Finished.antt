-- What a labelled step leaves, by the instruction that it is the step of.
use Rattle.std.specs.Prelude.{◌+◌, ◌-◌, nat_lt, ℤ, if◌then◌else◌, List, [], ◌∷◌, length, drop, Option, Some, None}
use Rattle.dsm_base.specs.Steps.{Over, ended}
use Rattle.dsm_code.specs.declared.instruction.Instr.{Instr}
use Rattle.dsm_code.specs.declared.parts.Row.{Row}
use Rattle.dsm_code.specs.Instructions.{top, below_index, stored}
use Rattle.dsm_code.specs.Programs.{function_at, row_at, print_at, values_in}
use Rattle.dsm_code.specs.Machine.{State, Frame, over, onward, after_load, entered, back_in}

-- main ends the thread
abbrev pub returned : State → ℤ → List Frame → State
returned s value [] = over s ended
returned s value (caller ∷ outer) = back_in s value caller outer

-- of an instruction
abbrev pub finished : State → ℤ → Instr → State
finished s answer (Instr.Load target way line) = after_load s target way answer
finished s answer (Instr.Store target bound line) = onward s (stored target s.operands)
finished s answer (Instr.GoBack count) = record s { place = s.place - count }
finished s answer (Instr.Enter number line) = if nat_lt (length s.outer + 1) 256 then entered s number (function_at s.program number) else s
finished s answer Instr.Leave = returned s (top s.operands) s.outer
finished s answer (Instr.Ask target mode line) = onward s s.operands
finished s answer (Instr.Take target mode line) = onward s (below_index target s.operands)
finished s answer (Instr.Give target line) = onward s (below_index target s.operands)
finished s answer (Instr.Arrive bar) = onward s s.operands
finished s answer (Instr.Cross bar) = onward s s.operands
finished s answer (Instr.Print number) = onward s (drop (values_in (print_at s.program number)) s.operands)
finished s answer _ = s

abbrev pub finished_at : State → ℤ → Option Row → State
finished_at s answer None = s
finished_at s answer (Some row) = finished s answer row.instr

-- of a state
abbrev pub finished_in : State → ℤ → Option Over → State
finished_in s answer None = finished_at s answer (row_at s.program s.function s.place)
finished_in s answer (Some way) = s
