-- How often barriers are come to and crossed.
use Rattle.std.specs.Prelude.{◌≡◌, ℕ, ◌+◌, Bool, false, ◌==◌, if◌then◌else◌}
use Rattle.dsm_base.specs.declared.label.Want.{Want}
use Rattle.dsm_base.specs.Threads.{Semantics}
use Rattle.dsm_base.specs.Plain.{PlainState}

-- whether a want is to cross a barrier
abbrev pub wants_cross : ℕ → Want → Bool
wants_cross bar (Want.Cross crossed) = crossed.0 == bar
wants_cross bar _ = false

-- a processor has come to a barrier once more than it has crossed it where its thread wants to cross it, and else as often
abbrev pub IsInStep : {S : Type 0} → Semantics S → PlainState S → ℕ → ℕ → Type 0
IsInStep threads s p bar =
    s.arrived p bar ≡ (if wants_cross bar (threads.want (s.threads p)) then s.crossed p bar + 1 else s.crossed p bar)
