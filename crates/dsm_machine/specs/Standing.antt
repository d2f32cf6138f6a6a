-- Machines right before a labelled step.
use Rattle.std.specs.Prelude.{◌≡◌, ℕ, List}
use Rattle.dsm_base.specs.Steps.{Move, goes, asks}
use Rattle.dsm_code.specs.Machine as m
use Rattle.dsm_machine.specs.declared.machine.Machine.{Machine}
use Rattle.dsm_machine.specs.States.{state_in, IsFit}

-- a step wants something
abbrev pub Asks : {S : Type 0} → Move S → Type 0
Asks (goes t) = ⊥
Asks (asks want after) = Unit {0}

-- a machine that is right before a labelled step or over, with the text of the line that it wants
pub record IsStanding (machine : Machine) (line : List ℕ) : Type 0 where
  pub fit : IsFit machine
  pub stands : Asks (m.step (state_in machine))
  pub text : line ≡ m.text (state_in machine)
