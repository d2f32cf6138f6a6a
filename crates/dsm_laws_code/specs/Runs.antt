-- When threads of one kind run as those of another.
use Rattle.std.specs.Prelude.{◌≡◌, List, [], ◌∷◌}
use Rattle.dsm_base.specs.declared.label.Label.{Label}
use Rattle.dsm_base.specs.Threads.{Semantics, AnswersTo, state_after}

-- each of these labels, the newest first, answers what the thread wants
abbrev pub AllAnswer : {S : Type 0} → Semantics S → S → List Label → Type 0
AllAnswer threads first [] = Unit {0}
AllAnswer threads first (label ∷ before) = AnswersTo (threads.want (state_after threads first before)) label × AllAnswer threads first before

-- after whatever labels have answered, both want the same, and a line that is wanted has the same text
abbrev pub RunsAs : {S T : Type 0} → Semantics S → S → Semantics T → T → Type 0
RunsAs threads first others start =
    (labels : List Label) → AllAnswer others start labels →
    (threads.want (state_after threads first labels) ≡ others.want (state_after others start labels))
    × (threads.text (state_after threads first labels) ≡ others.text (state_after others start labels))
