-- Which parts are code.
use Rattle.std.specs.Prelude.{ℕ, ◌+◌, ◌-◌, ◌^◌, ◌==◌, nat_lt, nat_le, Bool, true, false, ◌&&◌, List, [], ◌∷◌, length, slice_get, sum_by, Option, Some, None}
use Rattle.std.specs.List.{list_all}
use Rattle.std.specs.Option.{option_flatten}
use Rattle.dsm_code.specs.declared.instruction.Instr.{Instr}
use Rattle.dsm_code.specs.declared.parts.Row.{Row}
use Rattle.dsm_code.specs.declared.parts.SlotName.{SlotName}
use Rattle.dsm_code.specs.declared.parts.PrintPart.{PrintPart}
use Rattle.dsm_code.specs.Instructions.{index_count, loaded_count, is_below, is_free, is_take, is_cross, is_stop}
use Rattle.dsm_code.specs.Programs.{Program, Function, function_at, print_at, values_in}

-- how many operands an instruction takes
abbrev pub takes : Program → Instr → ℕ
takes program (Instr.Push n) = 0
takes program Instr.Discard = 1
takes program (Instr.LoadSlot x way) = 0
takes program (Instr.StoreSlot x) = 1
takes program (Instr.TestIndex array line) = 1
takes program (Instr.LoadOwn target way line) = index_count target
takes program (Instr.StoreOwn target line) = 1 + index_count target
takes program (Instr.Load target way line) = index_count target
takes program (Instr.Store target bound line) = 1 + index_count target
takes program (Instr.Unary op line) = 1
takes program (Instr.StepBy op line) = 1
takes program (Instr.Binary op line) = 2
takes program Instr.ToTruth = 1
takes program (Instr.GoOn count) = 0
takes program (Instr.SkipIfZero count) = 1
takes program (Instr.GoBack count) = 0
takes program (Instr.Enter number line) = (function_at program number).params
takes program Instr.Leave = 1
takes program (Instr.Ask target mode line) = index_count target
takes program (Instr.Take target mode line) = index_count target
takes program (Instr.Give target line) = index_count target
takes program (Instr.Arrive bar) = 0
takes program (Instr.Cross bar) = 0
takes program (Instr.Print number) = values_in (print_at program number)

-- how many it leaves in their place
abbrev pub gives : Instr → ℕ
gives (Instr.Push n) = 1
gives (Instr.LoadSlot x way) = loaded_count way 0
gives (Instr.StoreSlot x) = 1
gives (Instr.TestIndex array line) = 1
gives (Instr.LoadOwn target way line) = loaded_count way (index_count target)
gives (Instr.StoreOwn target line) = 1
gives (Instr.Load target way line) = loaded_count way (index_count target)
gives (Instr.Store target bound line) = 1
gives (Instr.Unary op line) = 1
gives (Instr.StepBy op line) = 1
gives (Instr.Binary op line) = 1
gives Instr.ToTruth = 1
gives (Instr.Enter number line) = 1
gives (Instr.Ask target mode line) = index_count target
gives _ = 0

-- the number of operands behind an instruction, by that before it
abbrev pub depth_after : Program → ℕ → Instr → ℕ
depth_after program depth instr = depth - takes program instr + gives instr

-- an instruction names only what there is
abbrev pub has_names : Program → Function → Instr → Bool
has_names program f (Instr.LoadSlot x way) = nat_lt x f.slots
has_names program f (Instr.StoreSlot x) = nat_lt x f.slots
has_names program f (Instr.LoadOwn target way line) = is_below program.private_cells target
has_names program f (Instr.StoreOwn target line) = is_below program.private_cells target
has_names program f (Instr.Load target way line) = is_below program.cells target
has_names program f (Instr.Store target bound line) = is_below program.cells target
has_names program f (Instr.Enter number line) = nat_lt number (length program.functions)
has_names program f (Instr.Ask target mode line) = is_below program.locks target
has_names program f (Instr.Take target mode line) = is_below program.locks target
has_names program f (Instr.Give target line) = is_below program.locks target
has_names program f (Instr.Arrive bar) = nat_lt bar.0 program.bars
has_names program f (Instr.Cross bar) = nat_lt bar.0 program.bars
has_names program f (Instr.Print number) = nat_lt number (length program.prints)
has_names program f _ = true

-- a row has so many operands, within what the program has
abbrev pub has_depth : Program → ℕ → ℕ → Row → Bool
has_depth program depth place row = (row.depth == depth) && (nat_le depth program.deepest && nat_lt place (2 ^ 32))

abbrev pub is_such : (Instr → Bool) → Program → ℕ → ℕ → Option Row → Bool
is_such kind program depth place None = false
is_such kind program depth place (Some row) = kind row.instr && has_depth program depth place row

-- at a place there is an instruction of a kind, with so many operands
abbrev pub is_there : (Instr → Bool) → Program → Function → ℕ → ℕ → Bool
is_there kind program f depth place = is_such kind program depth place (slice_get f.rows place)

-- Where an instruction leads there is one that has the operands which it leaves. A take stands right behind its ask and a crossing right behind its arrival, and nothing else leads there.
abbrev pub leads_on : Program → Function → ℕ → ℕ → Instr → Bool
leads_on program f place depth (Instr.GoOn count) = is_there is_free program f depth (place + 1 + count)
leads_on program f place depth (Instr.SkipIfZero count) =
    is_there is_free program f depth (place + 1) && is_there is_free program f depth (place + 1 + count)
leads_on program f place depth (Instr.GoBack count) = nat_le count place && is_there is_free program f depth (place - count)
leads_on program f place depth Instr.Leave = true
leads_on program f place depth (Instr.Ask target mode line) = is_there (is_take target mode) program f depth (place + 1)
leads_on program f place depth (Instr.Arrive bar) = is_there (is_cross bar) program f depth (place + 1)
leads_on program f place depth _ = is_there is_free program f depth (place + 1)

-- the names are those of slots of the function, and are there exactly where a step has a label
abbrev pub is_slot_name : ℕ → SlotName → Bool
is_slot_name slots name = nat_lt name.slot slots

abbrev pub are_names : ℕ → Bool → Option (List SlotName) → Bool
are_names slots true None = false
are_names slots true (Some names) = list_all (is_slot_name slots) names
are_names slots false None = true
are_names slots false (Some names) = false

abbrev pub are_known : Function → ℕ → Instr → Bool
are_known f place instr = are_names f.slots (is_stop instr) (option_flatten (slice_get f.names place))

-- an instruction finds its operands and what it names, and leads on
abbrev pub is_fine : Program → Function → ℕ → Row → Bool
is_fine program f place row =
    let after = depth_after program row.depth row.instr in
    nat_le (takes program row.instr) row.depth && (nat_le after program.deepest
    && (has_names program f row.instr && (leads_on program f place after row.instr && are_known f place row.instr)))

-- the instructions from a place on
abbrev pub all_fine_from : Program → Function → ℕ → List Row → Bool
all_fine_from program f place [] = true
all_fine_from program f place (row ∷ rows) = is_fine program f place row && all_fine_from program f (place + 1) rows

-- a function begins without operands
abbrev pub is_sound : Program → Function → Bool
is_sound program f = is_there is_free program f 0 0 && (nat_le f.params f.slots && (nat_le f.slots program.widest && all_fine_from program f 0 f.rows))

abbrev pub all_sound : Program → Bool
all_sound program = list_all (is_sound program) program.functions

-- from a space to a tilde
abbrev pub is_printable : ℕ → Bool
is_printable byte = nat_le 0x20 byte && nat_le byte 0x7E

abbrev pub is_print_part : PrintPart → Bool
is_print_part (PrintPart.Text text) = list_all is_printable text
is_print_part PrintPart.Value = true

-- how many bytes a part makes at most: a value makes at most 20
abbrev pub part_bytes : PrintPart → ℕ
part_bytes (PrintPart.Text text) = length text
part_bytes PrintPart.Value = 20

-- the parts of a print make a line: at most 256 bytes, all of them printable
abbrev pub is_print : List PrintPart → Bool
is_print parts = nat_le (sum_by part_bytes parts) 256 && list_all is_print_part parts

-- there are at most 65,536 shared cells, 256 locks and 64 barriers
abbrev pub are_few : Program → Bool
are_few program = nat_le program.cells 65536 && (nat_le program.locks 256 && nat_le program.bars 64)

-- main takes the processor and how many there are
abbrev pub has_main : Program → Bool
has_main program = nat_lt program.main (length program.functions) && ((function_at program program.main).params == 2)

-- the parts of a program are code
abbrev pub is_valid : Program → Bool
is_valid program = has_main program && (are_few program && (list_all is_print program.prints && all_sound program))
