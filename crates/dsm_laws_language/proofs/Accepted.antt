-- Accepted programs are closed.
use Rattle.std.proofs.Common.{◌≡◌, ℕ, true, List, [], Ok, length, refl, arith}
use Rattle.std.specs.Prelude.{IsTrue}
use Rattle.std.proofs.lemmas.Bool.{le-leb}
use Rattle.std.proofs.Math.Logic.{∥∥₁_elim}
use Rattle.std.proofs.Props.{props}
use Rattle.dsm_base.specs.declared.setup.Piece.{Piece}
use Rattle.dsm_syntax.specs.declared.tree.Sharing.{Sharing}
use Rattle.dsm_syntax.specs.Tree as t
use Rattle.dsm_syntax.specs.Sound.{is_sound_program}
use Rattle.dsm_check.specs.declared.checked.Checked.{Checked}
use Rattle.dsm_check.specs.Resolved as r
use Rattle.dsm_check.specs.Environments.{Entry, meaning, total, cells_in, locks_in, barriers_in, functions_in}
use Rattle.dsm_check.specs.Numbers.{is_numbered}
use Rattle.dsm_check.specs.FileNames.{file_names, main_of, main_name}
use Rattle.dsm_check.specs.Bindings.{pieces_of}
use Rattle.dsm_check.specs.Bodies.{functions_of}
use Rattle.dsm_check.specs.Programs.{Program, checked}
use Rattle.dsm_check.specs.Accepted.{IsAccepted}
use Rattle.dsm_check.specs.CheckedViews.{program_of}
use Rattle.dsm_check.proofs.Successes.{then_in}
use Rattle.dsm_check.proofs.Numberings.{limits}
use Rattle.dsm_laws_language.specs.Closed.{is_closed, has_limits}
use Rattle.dsm_laws_language.proofs.Tests.{both, ok_in}
use Rattle.dsm_laws_language.proofs.Names.{functions_named, file_closed, means_closed, main_closed}
use Rattle.dsm_laws_language.proofs.Statements.{bodies_closed}

-- the program of a file's parts
abbrev program_with : List Entry → ℕ → List Piece → List r.Function → Program
program_with names main pieces functions = record {
  names = names;
  main = main;
  shared_cells = total (cells_in Sharing.Shared) names;
  private_cells = total (cells_in Sharing.Private) names;
  locks = total locks_in names;
  barriers = total barriers_in names;
  pieces = pieces;
  functions = functions;
}

limits_kept : (names : List Entry) (main : ℕ) (pieces : List Piece) (functions : List r.Function) → is_numbered names ≡ true
    → total functions_in names ≡ length functions → has_limits (program_with names main pieces functions) ≡ true
limits_kept names main pieces functions numbered count =
    let most = limits names numbered in
    both (le-leb _ 65536 most.shared) (both (le-leb _ 16384 most.private) (both (le-leb _ 256 most.locks)
    (both (le-leb _ 64 most.barriers) (le-leb (length functions) 256 (omega (arith, count, most.functions))))))

parts_closed : (items : List t.Item) (names : List Entry) (main : ℕ) (pieces : List Piece) (functions : List r.Function)
    → is_numbered names ≡ true → is_sound_program items ≡ true → file_names items ≡ Ok names → main_of (meaning names main_name) ≡ Ok main
    → functions_of names items ≡ Ok functions → is_closed (program_with names main pieces functions) ≡ true
parts_closed items names main pieces functions numbered sound e1 e2 e4 =
    let program = program_with names main pieces functions in
    let step = functions_named names items names functions e1 e4 in
    let all = file_closed program names numbered step.0 (record { shared = omega arith; private = omega arith; locks = omega arith; bars = omega arith }) in
    both (main_closed program 0 (meaning names main_name) main (means_closed program 0 names main_name all) e2)
    (both (limits_kept names main pieces functions numbered step.1) (bodies_closed program names all [] items functions sound e4 refl))

accepted_items : (items : List t.Item) (program : Program) → is_numbered program.names ≡ true → is_sound_program items ≡ true → checked items ≡ Ok program
    → is_closed program ≡ true
accepted_items items program numbered sound h =
    then_in (file_names items) _ program h (λ names e1 h1.
    then_in (main_of (meaning names main_name)) _ program h1 (λ main e2 h2.
    then_in (pieces_of names items) _ program h2 (λ pieces e3 h3.
    then_in (functions_of names items) _ program h3 (λ functions e4 h4.
    ok_in (λ p. is_numbered p.names ≡ true → is_closed p ≡ true) _ program h4
    (λ is. parts_closed items names main pieces functions is sound e1 e2 e4) numbered))))

pub accepted_closed : (checked : Checked) → IsTrue (is_closed (program_of checked))
accepted_closed checked =
    ∥∥₁_elim checked.accepted (hlevel props) (λ (a : IsAccepted (program_of checked)). accepted_items a.0 (program_of checked) checked.names.numbered a.1 a.2)
