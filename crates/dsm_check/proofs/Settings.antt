-- The pieces of an accepted program.
use Rattle.std.proofs.Common.{◌≡◌, ℕ, ◌+◌, ◌*◌, ◌≤◌, ◌<◌, true, ◌&&◌, ltb, leb, eqb, not, List, [], ◌∷◌, ◌++◌, Option, Some, None, IfSome, Ok, Err, refl, subst, if◌then◌else◌, arith}
use Rattle.std.specs.Prelude.{IsTrue}
use Rattle.std.specs.List.{list_all}
use Rattle.std.proofs.lemmas.Bool.{ltb-true, leb-true}
use Rattle.std.proofs.lemmas.Bool.Decides.{nat_tests}
use Rattle.std.proofs.Math.Logic.{∥∥₁_elim}
use Rattle.std.proofs.Props.{props}
use Rattle.dsm_base.specs.declared.setup.Piece.{Piece}
use Rattle.dsm_syntax.specs.declared.errors.ProgErr.TheVariants as err
use Rattle.dsm_syntax.specs.declared.tree.Name.{Name}
use Rattle.dsm_syntax.specs.declared.tree.Sharing.{Sharing}
use Rattle.dsm_syntax.specs.declared.tree.Bind.{Bind}
use Rattle.dsm_syntax.specs.declared.tree.BindEach.{BindEach}
use Rattle.dsm_syntax.specs.declared.tree.BindBarrier.{BindBarrier}
use Rattle.dsm_syntax.specs.Tree as t
use Rattle.dsm_check.specs.declared.names.Named.{Named}
use Rattle.dsm_check.specs.declared.resolved.Array.{Array}
use Rattle.dsm_check.specs.Environments.{Entry, meaning, extent, total, cells_in, locks_in, barriers_in}
use Rattle.dsm_check.specs.Numbers.{is_numbered, IsThere}
use Rattle.dsm_check.specs.Bindings.{first_bound, bound, lock_piece, lock_pieces, barrier_piece, is_range, is_rhythm, as_locks, as_size, as_index, as_shared, as_barrier, locks_of, barrier_of, shared_of, with_bind, with_bind_each, with_bind_barrier, with_binding, pieces_of}
use Rattle.dsm_check.specs.Checks.{Check, used, natural}
use Rattle.dsm_base.specs.Setups.{is_proc_count, are_counts, is_piece, are_apart, is_setup}
use Rattle.dsm_check.specs.FileNames.{file_names, main_of, main_name}
use Rattle.dsm_check.specs.Bodies.{functions_of}
use Rattle.dsm_check.specs.Programs.{Program, checked}
use Rattle.dsm_check.specs.Accepted.{IsAccepted}
use Rattle.dsm_check.proofs.Apart.{ArePieces, IsFree, free, one, row, lock_piece_is, both}
use Rattle.dsm_check.proofs.Successes.{then_ok, then_in, if_ok, each_keeps, both_true}
use Rattle.dsm_check.proofs.Numberings.{there, limits}

bound_ok : (pieces : List Piece) (line cell count : ℕ) (added after : List Piece) → bound pieces line cell count added ≡ Ok after
    → IsFree pieces cell count × (pieces ++ added ≡ after)
bound_ok pieces line cell count added after h = by (first_bound pieces cell count) refl h
  where
    by : (found : Option ℕ) → first_bound pieces cell count ≡ found
        → elim found as (λ _. Check (List Piece)) [ None ↦ Ok (pieces ++ added) | Some taken ↦ Err (err.BindOverlap taken line) ] ≡ Ok after
        → IsFree pieces cell count × (pieces ++ added ≡ after)
    by None e h = (free pieces cell count e, cc)
    by (Some taken) e h = cc

-- What names stand for.

used_ok : (names : List Entry) (name : Name) (named : Named) → IsTrue (is_numbered names) → used names name ≡ Ok named → IsThere names named
used_ok names name named numbered h = by (meaning names name.text) (there names name.text numbered) h
  where
    by : (found : Option Named) → IfSome found (IsThere names)
        → elim found as (λ _. Check Named) [ None ↦ Err (err.Unknown name.text name.line) | Some named ↦ Ok named ] ≡ Ok named → IsThere names named
    by None fits h = cc
    by (Some other) fits h = let same : other ≡ named = cc in let P : Named → Type 0 = IsThere names in subst P same fits

locks_there : (names : List Entry) (name : Name) (named : Named) (locks : ℕ × Option ℕ) → IsThere names named → as_locks name named ≡ Ok locks
    → locks.0 + extent locks.1 ≤ total locks_in names
locks_there names name (Named.Locks first size) locks there h =
    let same : (first, size) ≡ locks = cc in
    let P : ℕ × Option ℕ → Type 0 = λ l. l.0 + extent l.1 ≤ total locks_in names in subst P same there.0
locks_there names name (Named.Cells sharing first size) locks there h = cc
locks_there names name (Named.Barrier number) locks there h = cc
locks_there names name (Named.Function number returns params) locks there h = cc
locks_there names name (Named.Variable slot) locks there h = cc

shared_there : (names : List Entry) (name : Name) (named : Named) (cells : Array) → IsThere names named → as_shared name named ≡ Ok cells
    → cells.first + cells.size ≤ total (cells_in Sharing.Shared) names
shared_there names name (Named.Cells Sharing.Shared first size) cells there h =
    let same : record { first = first; size = extent size } ≡ cells = cc in
    let P : Array → Type 0 = λ a. a.first + a.size ≤ total (cells_in Sharing.Shared) names in subst P same there.0
shared_there names name (Named.Cells Sharing.Private first size) cells there h = cc
shared_there names name (Named.Locks first size) cells there h = cc
shared_there names name (Named.Barrier number) cells there h = cc
shared_there names name (Named.Function number returns params) cells there h = cc
shared_there names name (Named.Variable slot) cells there h = cc

barrier_there : (names : List Entry) (name : Name) (named : Named) (barrier : ℕ) → IsThere names named → as_barrier name named ≡ Ok barrier
    → barrier < total barriers_in names
barrier_there names name (Named.Barrier number) barrier there h =
    let same : number ≡ barrier = cc in
    let P : ℕ → Type 0 = λ n. n < total barriers_in names in subst P same there.0
barrier_there names name (Named.Cells sharing first size) barrier there h = cc
barrier_there names name (Named.Locks first size) barrier there h = cc
barrier_there names name (Named.Function number returns params) barrier there h = cc
barrier_there names name (Named.Variable slot) barrier there h = cc

a_barrier : (locks barriers cells barrier first : ℕ) (bind : BindBarrier) → barrier < barriers → first + natural bind.count ≤ cells → is_rhythm bind ≡ true
    → is_piece locks barriers cells (barrier_piece barrier first bind) ≡ true
a_barrier locks barriers cells barrier first bind few within rhythm = grind (arith, nat_tests)

counts : (procs locks bars cells : ℕ) → IsTrue (is_proc_count procs) → locks ≤ 256 → bars ≤ 64 → cells ≤ 65536 → are_counts procs locks bars cells ≡ true
counts procs locks bars cells fits h1 h2 h3 = grind (arith, nat_tests)

-- Each binding keeps what is known of the pieces.

module _ (names : List Entry) (numbered : IsTrue (is_numbered names)) where
  abbrev Kept : List Piece → Type 0
  Kept = ArePieces (total locks_in names) (total barriers_in names) (total (cells_in Sharing.Shared) names)

  locks_ok : (name : Name) (locks : ℕ × Option ℕ) → locks_of names name ≡ Ok locks → locks.0 + extent locks.1 ≤ total locks_in names
  locks_ok name locks h =
      let named = then_ok (used names name) (as_locks name) locks h in
      locks_there names name named.0 locks (used_ok names name named.0 numbered named.1) named.2

  shared_ok : (name : Name) (cells : Array) → shared_of names name ≡ Ok cells → cells.first + cells.size ≤ total (cells_in Sharing.Shared) names
  shared_ok name cells h =
      let named = then_ok (used names name) (as_shared name) cells h in
      shared_there names name named.0 cells (used_ok names name named.0 numbered named.1) named.2

  barrier_ok : (name : Name) (barrier : ℕ) → barrier_of names name ≡ Ok barrier → barrier < total barriers_in names
  barrier_ok name barrier h =
      let named = then_ok (used names name) (as_barrier name) barrier h in
      barrier_there names name named.0 barrier (used_ok names name named.0 numbered named.1) named.2

  range_ok : (cells : Array) (first count : ℕ) → is_range cells first count ≡ true → first + count ≤ cells.size
  range_ok cells first count h = grind (arith, nat_tests)

  bind_last : (pieces : List Piece) (bind : Bind) (after : List Piece) (locks : ℕ × Option ℕ) (index : ℕ) (cells : Array)
      → locks.0 + extent locks.1 ≤ total locks_in names → cells.first + cells.size ≤ total (cells_in Sharing.Shared) names
      → (if ltb index (extent locks.1) && is_range cells (natural bind.first) (natural bind.count)
      then bound pieces bind.line (cells.first + natural bind.first) (natural bind.count) (lock_piece (locks.0 + index) (cells.first + natural bind.first) (natural bind.count) ∷ [])
      else Err (err.BindRange bind.line)) ≡ Ok after
      → Kept pieces → Kept after
  bind_last pieces bind after locks index cells few within h before =
      let first = cells.first + natural bind.first in
      let count = natural bind.count in
      let piece = lock_piece (locks.0 + index) first count in
      let passed = if_ok (ltb index (extent locks.1) && is_range cells (natural bind.first) count) (bound pieces bind.line first count (piece ∷ [])) (err.BindRange bind.line) after h in
      let tests = both_true (ltb index (extent locks.1)) (is_range cells (natural bind.first) count) passed.0 in
      let range = range_ok cells (natural bind.first) count tests.1 in
      let below = ltb-true index (extent locks.1) tests.0 in
      let added = bound_ok pieces bind.line first count (piece ∷ []) after passed.1 in
      let is_lock : locks.0 + index < total locks_in names = omega (arith, below, few) in
      subst Kept added.1 (one (total locks_in names) (total barriers_in names) (total (cells_in Sharing.Shared) names) pieces piece before
      (lock_piece_is (total locks_in names) (total barriers_in names) (total (cells_in Sharing.Shared) names) (locks.0 + index) first count is_lock (omega (arith, range, within))) added.0)

  bind_keeps : (pieces : List Piece) (bind : Bind) (after : List Piece) → with_bind names pieces bind ≡ Ok after → Kept pieces → Kept after
  bind_keeps pieces bind after h before =
      then_in (locks_of names bind.lock) _ after h (λ locks e1 h1.
      then_in (as_index bind.lock locks.1 bind.index) _ after h1 (λ index e2 h2.
      then_in (shared_of names bind.data) _ after h2 (λ cells e3 h3.
      bind_last pieces bind after locks index cells (locks_ok bind.lock locks e1) (shared_ok bind.data cells e3) h3 before)))

  each_last : (pieces : List Piece) (bind : BindEach) (after : List Piece) (locks : ℕ × Option ℕ) (size : ℕ) (cells : Array)
      → locks.0 + size ≤ total locks_in names → cells.first + cells.size ≤ total (cells_in Sharing.Shared) names
      → (if not (eqb (natural bind.count) 0) && leb (size * natural bind.count) cells.size
      then bound pieces bind.line cells.first (size * natural bind.count) (lock_pieces locks.0 cells.first (natural bind.count) size)
      else Err (err.BindRange bind.line)) ≡ Ok after
      → Kept pieces → Kept after
  each_last pieces bind after locks size cells few within h before =
      let count = natural bind.count in
      let row_of_all = lock_pieces locks.0 cells.first count size in
      let passed = if_ok (not (eqb count 0) && leb (size * count) cells.size) (bound pieces bind.line cells.first (size * count) row_of_all) (err.BindRange bind.line) after h in
      let tests = both_true (not (eqb count 0)) (leb (size * count) cells.size) passed.0 in
      let range = leb-true (size * count) cells.size tests.1 in
      let added = bound_ok pieces bind.line cells.first (size * count) row_of_all after passed.1 in
      subst Kept added.1 (row (total locks_in names) (total barriers_in names) (total (cells_in Sharing.Shared) names) locks.0 cells.first count size pieces before
      few (omega (arith, range, within)) added.0)

  size_ok : (name : Name) (size : Option ℕ) (n : ℕ) → as_size name size ≡ Ok n → n ≡ extent size
  size_ok name None n h = cc
  size_ok name (Some size) n h = cc

  bind_each_keeps : (pieces : List Piece) (bind : BindEach) (after : List Piece) → with_bind_each names pieces bind ≡ Ok after → Kept pieces → Kept after
  bind_each_keeps pieces bind after h before =
      then_in (locks_of names bind.locks) _ after h (λ locks e1 h1.
      then_in (as_size bind.locks locks.1) _ after h1 (λ size e2 h2.
      then_in (shared_of names bind.data) _ after h2 (λ cells e3 h3.
      each_last pieces bind after locks size cells (omega (arith, size_ok bind.locks locks.1 size e2, locks_ok bind.locks locks e1)) (shared_ok bind.data cells e3) h3 before)))

  barrier_last : (pieces : List Piece) (bind : BindBarrier) (after : List Piece) (barrier : ℕ) (cells : Array)
      → barrier < total barriers_in names → cells.first + cells.size ≤ total (cells_in Sharing.Shared) names
      → (if is_range cells (natural bind.first) (natural bind.count) && is_rhythm bind
      then bound pieces bind.line (cells.first + natural bind.first) (natural bind.count) (barrier_piece barrier (cells.first + natural bind.first) bind ∷ [])
      else Err (err.BindRange bind.line)) ≡ Ok after
      → Kept pieces → Kept after
  barrier_last pieces bind after barrier cells few within h before =
      let first = cells.first + natural bind.first in
      let count = natural bind.count in
      let piece = barrier_piece barrier first bind in
      let passed = if_ok (is_range cells (natural bind.first) count && is_rhythm bind) (bound pieces bind.line first count (piece ∷ [])) (err.BindRange bind.line) after h in
      let tests = both_true (is_range cells (natural bind.first) count) (is_rhythm bind) passed.0 in
      let range = range_ok cells (natural bind.first) count tests.0 in
      let added = bound_ok pieces bind.line first count (piece ∷ []) after passed.1 in
      subst Kept added.1 (one (total locks_in names) (total barriers_in names) (total (cells_in Sharing.Shared) names) pieces piece before
      (a_barrier (total locks_in names) (total barriers_in names) (total (cells_in Sharing.Shared) names) barrier first bind few (omega (arith, range, within)) tests.1) added.0)

  bind_barrier_keeps : (pieces : List Piece) (bind : BindBarrier) (after : List Piece) → with_bind_barrier names pieces bind ≡ Ok after → Kept pieces → Kept after
  bind_barrier_keeps pieces bind after h before =
      then_in (barrier_of names bind.barrier) _ after h (λ barrier e1 h1.
      then_in (shared_of names bind.data) _ after h1 (λ cells e2 h2.
      barrier_last pieces bind after barrier cells (barrier_ok bind.barrier barrier e1) (shared_ok bind.data cells e2) h2 before))

  same_pieces : (pieces after : List Piece) (now : Check (List Piece)) → now ≡ Ok pieces → now ≡ Ok after → Kept pieces → Kept after
  same_pieces pieces after now unchanged h before = let same : pieces ≡ after = cc in subst Kept same before

  item_keeps : (pieces : List Piece) (item : t.Item) (after : List Piece) → with_binding names pieces item ≡ Ok after → Kept pieces → Kept after
  item_keeps pieces (t.bind bind) after h before = bind_keeps pieces bind after h before
  item_keeps pieces (t.bind_each bind) after h before = bind_each_keeps pieces bind after h before
  item_keeps pieces (t.bind_barrier bind) after h before = bind_barrier_keeps pieces bind after h before
  item_keeps pieces (t.cells sharing cells) after h before = same_pieces pieces after (Ok pieces) refl h before
  item_keeps pieces (t.locks locks) after h before = same_pieces pieces after (Ok pieces) refl h before
  item_keeps pieces (t.barriers barriers) after h before = same_pieces pieces after (Ok pieces) refl h before
  item_keeps pieces (t.function function) after h before = same_pieces pieces after (Ok pieces) refl h before

  -- the pieces of a program whose names are numbered
  pub kept : (items : List t.Item) (pieces : List Piece) → pieces_of names items ≡ Ok pieces
      → ArePieces (total locks_in names) (total barriers_in names) (total (cells_in Sharing.Shared) names) pieces
  kept items pieces h =
      each_keeps Kept (with_binding names) item_keeps [] items pieces h (record { each = refl; apart = refl })

-- An accepted program is set up as it has to be.

set_up : (items : List t.Item) (program : Program) (procs : ℕ) → IsTrue (is_numbered program.names) → IsTrue (is_proc_count procs)
    → checked items ≡ Ok program → IsTrue (is_setup procs program.locks program.barriers program.shared_cells program.pieces)
set_up items program procs numbered fits h =
    then_in (file_names items) _ program h (λ names e1 h1.
    then_in (main_of (meaning names main_name)) _ program h1 (λ main e2 h2.
    then_in (pieces_of names items) _ program h2 (λ pieces e3 h3.
    then_in (functions_of names items) _ program h3 (λ functions e4 h4.
    let made : Program = record {
      names = names;
      main = main;
      shared_cells = total (cells_in Sharing.Shared) names;
      private_cells = total (cells_in Sharing.Private) names;
      locks = total locks_in names;
      barriers = total barriers_in names;
      pieces = pieces;
      functions = functions;
    } in
    let same : made ≡ program = cc in
    let P : Program → Type 0 = λ p. IsTrue (is_numbered p.names) → IsTrue (is_setup procs p.locks p.barriers p.shared_cells p.pieces) in
    subst P same (λ all_numbered. whole procs names fits all_numbered pieces (kept names all_numbered items pieces e3)) numbered))))
  where
    whole : (procs : ℕ) (names : List Entry) → IsTrue (is_proc_count procs) → IsTrue (is_numbered names) → (pieces : List Piece)
        → ArePieces (total locks_in names) (total barriers_in names) (total (cells_in Sharing.Shared) names) pieces
        → IsTrue (is_setup procs (total locks_in names) (total barriers_in names) (total (cells_in Sharing.Shared) names) pieces)
    whole procs names fits all_numbered pieces are =
        let most = limits names all_numbered in
        both (are_counts procs (total locks_in names) (total barriers_in names) (total (cells_in Sharing.Shared) names)) _
        (counts procs (total locks_in names) (total barriers_in names) (total (cells_in Sharing.Shared) names) fits most.locks most.barriers most.shared)
        (both (list_all (is_piece (total locks_in names) (total barriers_in names) (total (cells_in Sharing.Shared) names)) pieces) (are_apart pieces) are.each are.apart)

pub setting : (program : Program) (procs : ℕ) → IsTrue (is_numbered program.names) → IsTrue (is_proc_count procs)
    → ∥ IsAccepted program ∥₁ → IsTrue (is_setup procs program.locks program.barriers program.shared_cells program.pieces)
setting program procs numbered fits accepted =
    ∥∥₁_elim accepted (hlevel props) (λ (a : IsAccepted program). set_up a.0 program procs numbered fits a.2)
