-- What a pick tells, and who keeps a processor waiting, in increasing order.
use Rattle.std.specs.Prelude.{◌≡◌, ◌≢◌, ℕ, zero, suc, ◌||◌, ◌==◌, if◌then◌else◌, nat_lt, List, [], ◌∷◌, ◌++◌, Option, Some, None}
use Rattle.dsm_base.specs.declared.names.Proc.{Proc}
use Rattle.dsm_base.specs.declared.names.Mode.{Mode}
use Rattle.dsm_base.specs.declared.label.Want.{Want}
use Rattle.dsm_base.specs.declared.setup.Setup.{Setup}
use Rattle.dsm_base.specs.Holders.{are_compatible}
use Rattle.dsm_base.specs.Plain.{PlainState, plain_turn, plain_after}
use Rattle.dsm_base.specs.Threads.{Semantics}
use Rattle.dsm_base.specs.declared.holders.Holder.{Holder}
use Rattle.dsm_plain.specs.declared.waiting.Picked.{Picked}
use Rattle.dsm_base.specs.Labels.{PrintsLine}

-- q, who holds a lock so, where p may not take it in this mode beside q
abbrev pub as_blocker : ℕ → Mode → ℕ → Option Mode → List Holder
as_blocker p mode q None = []
as_blocker p mode q (Some held) =
    if (q == p) || are_compatible mode held then [] else record { proc = record { 0 = q }; mode = held } ∷ []

-- the holders of a lock among the first processors beside whom p may not take it in this mode
abbrev pub blockers : ℕ → (ℕ → ℕ → Option Mode) → ℕ → ℕ → Mode → List Holder
blockers zero held p lock mode = []
blockers (suc n) held p lock mode = blockers n held p lock mode ++ as_blocker p mode n (held n lock)

-- those among the first processors who haven't come to a barrier for its next epoch
abbrev pub late : ℕ → (ℕ → ℕ → ℕ) → ℕ → ℕ → List Proc
late zero arrived epoch bar = []
late (suc n) arrived epoch bar = late n arrived epoch bar ++ (if nat_lt epoch (arrived n bar) then [] else record { 0 = n } ∷ [])

-- why there is no turn: holders keep p from a lock that it wants to take
abbrev pub IsBlocked : {S : Type 0} → Setup → PlainState S → ℕ → Want → List Holder → Type 0
IsBlocked setup s p (Want.Take lock mode) holders = (holders ≢ []) × (holders ≡ blockers setup.procs s.held p lock.0 mode)
IsBlocked setup s p _ holders = ⊥

-- why there is no turn: some haven't come to a barrier that p wants to cross
abbrev pub IsAhead : {S : Type 0} → Setup → PlainState S → ℕ → Want → List Proc → Type 0
IsAhead setup s p (Want.Cross bar) procs = (procs ≢ []) × (procs ≡ late setup.procs s.arrived (s.crossed p bar.0) bar.0)
IsAhead setup s p _ procs = ⊥

-- p makes its turn, or has none: the state is as before, and the answer says why
abbrev pub IsPick : {S : Type 0} → Setup → Semantics S → PlainState S → ℕ → PlainState S → Picked → Type 0
IsPick setup threads old p new (Picked.Did label) = (plain_turn setup threads old p ≡ Some label) × (new ≡ plain_after threads old p label)
IsPick setup threads old p new (Picked.Blocked holders) =
    (plain_turn setup threads old p ≡ None) × (new ≡ old) × IsBlocked setup old p (threads.want (old.threads p)) holders
IsPick setup threads old p new (Picked.Missing procs) =
    (plain_turn setup threads old p ≡ None) × (new ≡ old) × IsAhead setup old p (threads.want (old.threads p)) procs
IsPick setup threads old p new Picked.Over =
    (plain_turn setup threads old p ≡ None) × (new ≡ old) × (threads.want (old.threads p) ≡ Want.Over)

-- where a turn was made that prints, it prints a line
abbrev pub TurnPrintsLine : Picked → Type 0
TurnPrintsLine (Picked.Did label) = PrintsLine label
TurnPrintsLine _ = Unit {0}
