-- The copy of a processor that lines alone bring up to date. A line is any number that cells are given by a function.
use Rattle.std.specs.Prelude.{ℕ, ℤ, ◌-◌, ◌==◌, if◌then◌else◌, List, [], ◌∷◌}
use Rattle.dsm_base.specs.declared.label.Label.{Label}
use Rattle.dsm_base.specs.declared.setup.Setup.{Setup}
use Rattle.dsm_base.specs.Threads.{Semantics}
use Rattle.dsm_base.specs.Plain.{Turn, labels_of, memory_after}
use Rattle.dsm_laws_runs.specs.Versions.{memory_at}
use Rattle.dsm_laws_runs.specs.Barriers.{memory_in}
use Rattle.dsm_laws_runs.specs.Newer.{is_brought, is_arrived, with_newer}
use Rattle.dsm_laws_runs.specs.Copies.{OwnTurn, newest_copy}

-- what a turn of p after a run makes of its copy: a take lays over it the lines of its lock that are newer than the copy's version, a crossing the lines of others to which
-- they stored in the epoch that ends, and a store sets its cell
abbrev pub copy_with_lines : {S : Type 0} → (ℕ → ℕ) → Setup → (ℕ → S) → Semantics S → List Turn → ℕ → Label → (ℕ → ℤ) → ℕ → ℤ
copy_with_lines line_at setup first threads run p (Label.Take lock mode version) copy =
    with_newer (is_brought line_at setup first threads run p lock.0 version) (memory_at first threads run lock.0 version) copy
copy_with_lines line_at setup first threads run p (Label.Cross bar epoch) copy =
    with_newer (is_arrived line_at setup run p bar.0 (epoch - 1)) (memory_in setup (λ q. labels_of q run) bar.0 epoch) copy
copy_with_lines line_at setup first threads run p label copy = memory_after copy label

-- the turns of p in a run, each with the copy that it leaves so
abbrev pub turns_by_lines : {S : Type 0} → (ℕ → ℕ) → Setup → (ℕ → S) → Semantics S → ℕ → List Turn → List OwnTurn
turns_by_lines line_at setup first threads p [] = []
turns_by_lines line_at setup first threads p (turn ∷ before) =
    let older = turns_by_lines line_at setup first threads p before in
    if turn.proc == p
    then record { label = turn.label; copy = copy_with_lines line_at setup first threads before p turn.label (newest_copy older) } ∷ older
    else older

-- the copy that p has after a run; zeros at first
abbrev pub copy_by_lines : {S : Type 0} → (ℕ → ℕ) → Setup → (ℕ → S) → Semantics S → ℕ → List Turn → ℕ → ℤ
copy_by_lines line_at setup first threads p run = newest_copy (turns_by_lines line_at setup first threads p run)
