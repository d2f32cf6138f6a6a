-- Machines that go on by themselves up to a step that shows something: threads of a tree and threads of code are two uses.
use Rattle.std.specs.Prelude.{ℕ, zero, suc, ℤ, pos, List}
use Rattle.dsm_base.specs.declared.names.Fault.{Fault}
use Rattle.dsm_base.specs.declared.label.Want.{Want}
use Rattle.dsm_base.specs.declared.label.Label.{Label}
use Rattle.dsm_base.specs.Threads.{Semantics}

-- a step: it goes on without a label, or it wants something and goes on with the answer
pub data Move (S : Type 0) : Type 0 where
  goes : S → Move S
  asks : Want → (ℤ → S) → Move S

-- the rest of the steps without a label, where there is one more
abbrev pub goes_on : {S : Type 0} → (S → S) → S → Move S → S
goes_on rest s (goes next) = rest next
goes_on rest s (asks want next) = s

-- at most n steps without a label
abbrev pub settle : {S : Type 0} → (S → Move S) → ℕ → S → S
settle step zero s = s
settle step (suc n) s = goes_on (settle step n) s (step s)

-- all steps without a label that come next; there are at most as many as the weight says
unfoldable pub settled : {S : Type 0} → (S → Move S) → (S → ℕ) → S → S
settled step weight s = settle step (weight s) s

-- what is wanted, once no step without a label comes first
abbrev pub want_of : {S : Type 0} → Move S → Want
want_of (goes next) = Want.Over
want_of (asks want next) = want

-- the state once the step is answered
abbrev pub next_of : {S : Type 0} → S → ℤ → Move S → S
next_of s answer (goes next) = s
next_of s answer (asks want next) = next answer

-- what a label answers: a load its value
abbrev pub answer_of : Label → ℤ
answer_of (Label.Load cell value) = value
answer_of _ = pos 0

-- how a thread comes to be over: by its end, or for a fault at a line of the source
pub data Over : Type 0 where
  ended : Over
  stopped : Fault → ℕ → Over

-- a machine: its step, a number that each step without a label lessens, the text of the line that it wants, and a state that is over
pub record Machine (S : Type 0) : Type 0 where
  pub step : S → Move S
  pub weight : S → ℕ
  pub text : S → List ℕ
  pub over : S → Over → S

-- The state right after a label, before the steps without a label that come next. The variables after a step are those of this
-- state: behind the last line of a loop's body its counter isn't raised yet. A stop and an end make the thread over.
abbrev pub completed : {S : Type 0} → Machine S → S → Label → S
completed machine s (Label.Stop fault line) = machine.over s (stopped fault line)
completed machine s Label.End = machine.over s ended
completed machine s label = next_of s (answer_of label) (machine.step s)

-- the state right before the next labelled step
abbrev pub ready : {S : Type 0} → Machine S → S → S
ready machine s = settled machine.step machine.weight s

-- how the machine goes on as a thread: behind each label it makes all steps without a label that come next
abbrev pub semantics_of : {S : Type 0} → Machine S → Semantics S
semantics_of machine = record {
  want = λ s. want_of (machine.step s);
  text = machine.text;
  after = λ s label. ready machine (completed machine s label);
}
