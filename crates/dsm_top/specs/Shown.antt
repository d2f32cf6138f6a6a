-- What flags of `run` ask for.
use Rattle.std.specs.Prelude.{Bool, true, false, List, [], ◌++◌, ℕ, reverse, codes}
use Rattle.dsm_base.specs.declared.setup.Setup.{Setup}
use Rattle.dsm_net.specs.declared.trace.Group.{Group}
use Rattle.dsm_net.specs.Net.{Net}
use Rattle.dsm_records.specs.Texts.{as_line, trace_text}
use Rattle.dsm_state.specs.States.{state_text}
use Rattle.dsm_top.specs.declared.shown.Asked.{Asked}

-- a line `--`, and behind it a text, where that is asked for
abbrev pub piece_if : Bool → List ℕ → List ℕ
piece_if true text = as_line (codes "--") ++ text
piece_if false text = []

-- the text of the trace, and behind it that of the state; the trace has its newest group first
abbrev pub shown_by : {S : Type 0} → Asked → Setup → Net S → List Group → List ℕ
shown_by asked setup net trace =
    piece_if asked.trace (trace_text (reverse trace))
    ++ piece_if asked.state (state_text setup net (reverse trace))
