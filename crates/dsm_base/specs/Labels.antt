-- Labels that name only cells, locks and barriers of so many, and labels that print lines.
use Rattle.std.specs.Prelude.{ℕ, ◌<◌}
use Rattle.dsm_base.specs.declared.label.Label.{Label}
use Rattle.dsm_base.specs.Output.{IsLine}

-- a store goes to one of so many cells
abbrev pub WritesCells : ℕ → Label → Type 0
WritesCells count (Label.Store cell value) = cell.0 < count
WritesCells count _ = Unit {0}

-- a lock that is taken or given back is one of so many
abbrev pub TakesLocks : ℕ → Label → Type 0
TakesLocks count (Label.Take lock mode version) = lock.0 < count
TakesLocks count (Label.Give lock) = lock.0 < count
TakesLocks count _ = Unit {0}

-- a barrier that is come to or crossed is one of so many
abbrev pub PassesBarriers : ℕ → Label → Type 0
PassesBarriers count (Label.Arrive bar) = bar.0 < count
PassesBarriers count (Label.Cross bar epoch) = bar.0 < count
PassesBarriers count _ = Unit {0}

-- what is printed is a line
abbrev pub PrintsLine : Label → Type 0
PrintsLine (Label.Line text) = IsLine text
PrintsLine _ = Unit {0}
