-- What the tests of code tell.
use Rattle.std.proofs.Common.{◌≡◌, ℕ, zero, suc, ◌+◌, ◌<◌, ◌≤◌, ◌^◌, Bool, true, false, ◌&&◌, List, [], ◌∷◌, length, get_or, Option, Some, None, refl, sym, ap, subst, arith}
use Rattle.std.specs.Prelude.{slice_get, ◌==◌, nat_lt, nat_le, sum_by, IfSome}
use Rattle.std.specs.List.{list_all, All}
use Rattle.std.proofs.lemmas.Bool.{and_parts, lt-ltb, ltb-true, ltb-false, leb-true, eqb-true}
use Rattle.std.proofs.lemmas.Option.{same_Some, slice_get_past}
use Rattle.std.proofs.lemmas.List.Elements.{All-nil, All-cons}
use Rattle.dsm_base.specs.Output.{ArePrintable}
use Rattle.dsm_code.specs.declared.instruction.Instr.{Instr}
use Rattle.dsm_code.specs.declared.parts.Row.{Row}
use Rattle.dsm_code.specs.declared.parts.PrintPart.{PrintPart}
use Rattle.dsm_code.specs.declared.instruction.Target.{Target}
use Rattle.dsm_code.specs.Instructions.{is_below, is_small, is_free}
use Rattle.dsm_code.specs.Programs.{Program, Function, numbered, function_at, row_at, print_at}
use Rattle.dsm_code.specs.Valid.{takes, depth_after, has_names, has_depth, is_such, is_there, leads_on, are_known, is_fine, all_fine_from, is_sound, all_sound, is_printable, is_print_part, part_bytes, is_print, are_few, has_main, is_valid}
use Rattle.dsm_code.specs.Typed.{IsFine}
use Rattle.dsm_code.specs.Prints.{WritesPrintable, IsPrint}

-- an instruction of a kind at a place
pub record IsThere (kind : Instr → Bool) (program : Program) (f : Function) (depth place : ℕ) : Type 0 where
  pub row : Row
  pub is : slice_get f.rows place ≡ Some row
  pub such : kind row.instr ≡ true
  pub depth_is : row.depth ≡ depth
  pub low : depth ≤ program.deepest
  pub small : place < 2 ^ 32

such_facts : (kind : Instr → Bool) (program : Program) (f : Function) (depth place : ℕ) (o : Option Row) → slice_get f.rows place ≡ o
    → is_such kind program depth place o ≡ true → IsThere kind program f depth place
such_facts kind program f depth place None is h = cc (h)
such_facts kind program f depth place (Some row) is h =
    let all = and_parts (kind row.instr) (has_depth program depth place row) h in
    let rest = and_parts (row.depth == depth) (nat_le depth program.deepest && nat_lt place (2 ^ 32)) all.1 in
    let bounds = and_parts (nat_le depth program.deepest) (nat_lt place (2 ^ 32)) rest.1 in
    record {
      row = row;
      is = is;
      such = all.0;
      depth_is = eqb-true row.depth depth rest.0;
      low = leb-true depth program.deepest bounds.0;
      small = ltb-true place (2 ^ 32) bounds.1;
    }

pub there_facts : (kind : Instr → Bool) (program : Program) (f : Function) (depth place : ℕ) → is_there kind program f depth place ≡ true
    → IsThere kind program f depth place
there_facts kind program f depth place h = such_facts kind program f depth place (slice_get f.rows place) refl h

-- an instruction that finds its operands and what it names, and leads on
pub record Fine (program : Program) (f : Function) (place : ℕ) (row : Row) : Type 0 where
  pub operands : takes program row.instr ≤ row.depth
  pub low : depth_after program row.depth row.instr ≤ program.deepest
  pub names : has_names program f row.instr ≡ true
  pub on : leads_on program f place (depth_after program row.depth row.instr) row.instr ≡ true

fine_facts : (program : Program) (f : Function) (place : ℕ) (row : Row) → is_fine program f place row ≡ true → Fine program f place row
fine_facts program f place row h =
    let after = depth_after program row.depth row.instr in
    let known = are_known f place row.instr in
    let on = leads_on program f place after row.instr in
    let names = has_names program f row.instr in
    let a = and_parts (nat_le (takes program row.instr) row.depth) (nat_le after program.deepest && (names && (on && known))) h in
    let b = and_parts (nat_le after program.deepest) (names && (on && known)) a.1 in
    let c = and_parts names (on && known) b.1 in
    let d = and_parts on known c.1 in
    record {
      operands = leb-true (takes program row.instr) row.depth a.0;
      low = leb-true after program.deepest b.0;
      names = c.0;
      on = d.0;
    }

fine_from : (program : Program) (f : Function) (base : ℕ) (rows : List Row) (k : ℕ) (row : Row) → all_fine_from program f base rows ≡ true → slice_get rows k ≡ Some row
    → is_fine program f (base + k) row ≡ true
fine_from program f base [] k row h is = cc (is)
fine_from program f base (first ∷ rows) zero row h is =
    let both = and_parts (is_fine program f base first) (all_fine_from program f (base + 1) rows) h in
    let at : base ≡ base + 0 = omega arith in
    subst (λ p. is_fine program f p row ≡ true) at (subst (λ r. is_fine program f base r ≡ true) (same_Some first row is) both.0)
fine_from program f base (first ∷ rows) (suc k) row h is =
    let both = and_parts (is_fine program f base first) (all_fine_from program f (base + 1) rows) h in
    let at : base + 1 + k ≡ base + suc k = omega arith in
    subst (λ p. is_fine program f p row ≡ true) at (fine_from program f (base + 1) rows k row both.1 is)

pub record IsSound (program : Program) (f : Function) : Type 0 where
  pub start : is_there is_free program f 0 0 ≡ true
  pub params : f.params ≤ f.slots
  pub slots : f.slots ≤ program.widest
  pub fine : (place : ℕ) (row : Row) → slice_get f.rows place ≡ Some row → Fine program f place row

sound_facts : (program : Program) (f : Function) → is_sound program f ≡ true → IsSound program f
sound_facts program f h =
    let a = and_parts (is_there is_free program f 0 0) (nat_le f.params f.slots && (nat_le f.slots program.widest && all_fine_from program f 0 f.rows)) h in
    let b = and_parts (nat_le f.params f.slots) (nat_le f.slots program.widest && all_fine_from program f 0 f.rows) a.1 in
    let c = and_parts (nat_le f.slots program.widest) (all_fine_from program f 0 f.rows) b.1 in
    record {
      start = a.0;
      params = leb-true f.params f.slots b.0;
      slots = leb-true f.slots program.widest c.0;
      fine = λ place row is.
          let at : 0 + place ≡ place = omega arith in
          fine_facts program f place row (subst (λ p. is_fine program f p row ≡ true) at (fine_from program f 0 f.rows place row c.1 is));
    }

sound_at : (program : Program) (functions : List Function) (number : ℕ) → list_all (is_sound program) functions ≡ true → number < length functions
    → is_sound program (numbered (slice_get functions number)) ≡ true
sound_at program [] number h within = absurd (omega arith)
sound_at program (f ∷ functions) zero h within = (and_parts (is_sound program f) (list_all (is_sound program) functions) h).0
sound_at program (f ∷ functions) (suc number) h within =
    sound_at program functions number (and_parts (is_sound program f) (list_all (is_sound program) functions) h).1 (omega (arith, within))

pub record IsValid (program : Program) : Type 0 where
  pub main : program.main < length program.functions
  pub main_params : (function_at program program.main).params ≡ 2
  pub cells : program.cells ≤ 65536
  pub locks : program.locks ≤ 256
  pub prints : list_all is_print program.prints ≡ true
  pub sound : (number : ℕ) → number < length program.functions → IsSound program (function_at program number)

pub valid_facts : (program : Program) → is_valid program ≡ true → IsValid program
valid_facts program h =
    let two = (function_at program program.main).params == 2 in
    let prints = list_all is_print program.prints in
    let b = and_parts (has_main program) (are_few program && (prints && all_sound program)) h in
    let a = and_parts (nat_lt program.main (length program.functions)) two b.0 in
    let c = and_parts (are_few program) (prints && all_sound program) b.1 in
    let d = and_parts prints (all_sound program) c.1 in
    let few = and_parts (nat_le program.cells 65536) (nat_le program.locks 256 && nat_le program.bars 64) c.0 in
    let fewer = and_parts (nat_le program.locks 256) (nat_le program.bars 64) few.1 in
    record {
      main = ltb-true program.main (length program.functions) a.0;
      main_params = eqb-true (function_at program program.main).params 2 a.1;
      cells = leb-true program.cells 65536 few.0;
      locks = leb-true program.locks 256 fewer.0;
      prints = d.0;
      sound = λ number within. sound_facts program (function_at program number) (sound_at program program.functions number d.1 within);
    }

-- a function past the last has no code
past_last : (program : Program) (number place : ℕ) (row : Row) → length program.functions ≤ number → row_at program number place ≡ Some row → ⊥
past_last program number place row past is =
    let none : slice_get program.functions number ≡ None = slice_get_past program.functions number past in
    let empty : slice_get (numbered None).rows place ≡ Some row = subst (λ o. slice_get (numbered o).rows place ≡ Some row) none is in
    cc (empty)

-- an instruction of any function
pub row_fine : (program : Program) (number place : ℕ) (row : Row) → is_valid program ≡ true → row_at program number place ≡ Some row
    → Fine program (function_at program number) place row
row_fine program number place row valid is = of (nat_lt number (length program.functions)) refl
  where
    of : (known : Bool) → nat_lt number (length program.functions) ≡ known → Fine program (function_at program number) place row
    of true lt = ((valid_facts program valid).sound number (ltb-true number (length program.functions) lt)).fine place row is
    of false ge = absurd (past_last program number place row (ltb-false number (length program.functions) ge) is)

below_more : (a b : ℕ) (target : Target) → a ≤ b → is_below a target ≡ true → is_below b target ≡ true
below_more a b (Target.One n) le h = lt-ltb n b (omega (arith, le, ltb-true n a h))
below_more a b (Target.Member array) le h = lt-ltb (array.first + array.size) (b + 1) (omega (arith, le, ltb-true (array.first + array.size) (a + 1) h))

-- the numbers of cells and locks are small
small_names : (program : Program) (f : Function) (i : Instr) → program.cells ≤ 65536 → program.locks ≤ 65536 → has_names program f i ≡ true → is_small i ≡ true
small_names program f (Instr.Load target way line) cells locks h = below_more program.cells 65536 target cells h
small_names program f (Instr.Store target bound line) cells locks h = below_more program.cells 65536 target cells h
small_names program f (Instr.Ask target mode line) cells locks h = below_more program.locks 65536 target locks h
small_names program f (Instr.Take target mode line) cells locks h = below_more program.locks 65536 target locks h
small_names program f (Instr.Give target line) cells locks h = below_more program.locks 65536 target locks h
small_names program f _ cells locks h = refl

-- as the code has it
pub row_is_fine : (program : Program) (number place : ℕ) (o : Option Row) → is_valid program ≡ true → o ≡ row_at program number place
    → IfSome o (IsFine program (function_at program number))
row_is_fine program number place None valid is = tt
row_is_fine program number place (Some row) valid is =
    let fine = row_fine program number place row valid (sym is) in
    let facts = valid_facts program valid in
    let small = small_names program (function_at program number) row.instr facts.cells (omega (arith, facts.locks)) fine.names in
    record { operands = fine.operands; low = fine.low; names = fine.names; small = small }

-- Room for slots.

module _ (program : Program) (valid : is_valid program ≡ true) (number : ℕ) where
  few_of : (known : Bool) → nat_lt number (length program.functions) ≡ known
      → ((function_at program number).params ≤ program.widest) × ((function_at program number).slots ≤ program.widest)
  few_of true lt =
      let sound = (valid_facts program valid).sound number (ltb-true number (length program.functions) lt) in
      (omega (arith, sound.params, sound.slots), sound.slots)
  few_of false ge =
      let past : slice_get program.functions number ≡ None = slice_get_past program.functions number (ltb-false number (length program.functions) ge) in
      let none : Function = numbered None in
      let same : function_at program number ≡ none = ap numbered past in
      rw same (omega arith, omega arith)

  pub few_params : (count : ℕ) → count ≡ (function_at program number).params → count ≤ program.widest
  few_params count is = omega (arith, is, (few_of (nat_lt number (length program.functions)) refl).0)

  pub few_slots : (count : ℕ) → count ≡ (function_at program number).slots → count ≤ program.widest
  few_slots count is = omega (arith, is, (few_of (nat_lt number (length program.functions)) refl).1)

pub main_wide : (program : Program) → is_valid program ≡ true → 2 ≤ program.widest
main_wide program valid =
    let facts = valid_facts program valid in
    let sound = facts.sound program.main facts.main in
    omega (arith, facts.main_params, sound.params, sound.slots)

-- Prints.

text_printable : (text : List ℕ) → list_all is_printable text ≡ true → ArePrintable text
text_printable [] h = tt
text_printable (byte ∷ text) h =
    let both = and_parts (is_printable byte) (list_all is_printable text) h in
    let bounds = and_parts (nat_le 0x20 byte) (nat_le byte 0x7E) both.0 in
    ((leb-true 0x20 byte bounds.0, leb-true byte 0x7E bounds.1), text_printable text both.1)

part_printable : (part : PrintPart) → is_print_part part ≡ true → WritesPrintable part
part_printable (PrintPart.Text text) h = text_printable text h
part_printable PrintPart.Value h = tt

parts_printable : (parts : List PrintPart) → list_all is_print_part parts ≡ true → All WritesPrintable parts
parts_printable [] h = All-nil WritesPrintable
parts_printable (part ∷ parts) h =
    let both = and_parts (is_print_part part) (list_all is_print_part parts) h in
    All-cons WritesPrintable part parts (part_printable part both.0) (parts_printable parts both.1)

print_facts : (parts : List PrintPart) → is_print parts ≡ true → IsPrint parts
print_facts parts h =
    let both = and_parts (nat_le (sum_by part_bytes parts) 256) (list_all is_print_part parts) h in
    record { short = leb-true (sum_by part_bytes parts) 256 both.0; printable = parts_printable parts both.1 }

prints_at : (prints : List (List PrintPart)) (number : ℕ) → list_all is_print prints ≡ true → is_print (get_or prints number []) ≡ true
prints_at [] number h = refl
prints_at (parts ∷ prints) zero h = (and_parts (is_print parts) (list_all is_print prints) h).0
prints_at (parts ∷ prints) (suc number) h = prints_at prints number (and_parts (is_print parts) (list_all is_print prints) h).1

-- the parts of each print make a line
pub print_is_line : (program : Program) (number : ℕ) (parts : List PrintPart) → is_valid program ≡ true → parts ≡ print_at program number → IsPrint parts
print_is_line program number parts valid is =
    subst IsPrint (sym is) (print_facts (print_at program number) (prints_at program.prints number (valid_facts program valid).prints))
