-- How threads go on, whatever they are made of.
use Rattle.std.specs.Prelude.{◌≡◌, ◌≢◌, ℕ, ℤ, pos, ◌<◌, List, [], ◌∷◌}
use Rattle.dsm_base.specs.declared.names.Lock.{Lock}
use Rattle.dsm_base.specs.declared.names.Bar.{Bar}
use Rattle.dsm_base.specs.declared.names.Mode.{Mode}
use Rattle.dsm_base.specs.declared.names.Fault.{Fault}
use Rattle.dsm_base.specs.declared.label.Want.{Want}
use Rattle.dsm_base.specs.declared.label.Label.{Label}
use Rattle.dsm_base.specs.declared.setup.Setup.{Setup}

-- what a thread in a state wants next, the text of a line that it wants, and its state after a label
pub record Semantics (S : Type 0) : Type 0 where
  pub want : S → Want
  pub text : S → List ℕ
  pub after : S → Label → S

-- a kind of thread: the state that each thread of it is in, and how such states go on
pub record Kind (T S : Type 0) : Type 0 where
  pub state : T → S
  pub semantics : Semantics S

-- a thread has gone on by a label
abbrev pub GoesOn : {T S : Type 0} → Kind T S → T → Label → T → Type 0
GoesOn kind old label new = kind.state new ≡ kind.semantics.after (kind.state old) label

-- the labels that complete a want; the answer is the value of a load
abbrev pub Completes : Want → ℤ → Label → Type 0
Completes Want.Quiet answer label = label ≡ Label.Quiet
Completes (Want.Load cell line) answer label = label ≡ Label.Load cell answer
Completes (Want.Store cell value line) answer label = label ≡ Label.Store cell value
Completes (Want.Ask lock mode line) answer label = label ≡ Label.Ask lock mode
Completes (Want.Take lock mode) answer label = (version : ℕ) × (label ≡ Label.Take lock mode version)
Completes (Want.Give lock line) answer label = label ≡ Label.Give lock
Completes (Want.Arrive bar) answer label = label ≡ Label.Arrive bar
Completes (Want.Cross bar) answer label = (epoch : ℕ) × (label ≡ Label.Cross bar epoch)
Completes Want.Line answer label = (text : List ℕ) × (label ≡ Label.Line text)
Completes Want.End answer label = label ≡ Label.End
Completes (Want.Stop fault line) answer label = label ≡ Label.Stop fault line
Completes Want.Over answer label = ⊥

-- the wants in place of which a thread may stop
abbrev pub MayStop : Want → Type 0
MayStop (Want.Load cell line) = Unit {0}
MayStop (Want.Store cell value line) = Unit {0}
MayStop (Want.Ask lock mode line) = Unit {0}
MayStop (Want.Give lock line) = Unit {0}
MayStop (Want.Stop fault line) = Unit {0}
MayStop _ = ⊥

-- the wants that a step completes: all but that of a thread that is over
abbrev pub MayBeDone : Want → Type 0
MayBeDone Want.Over = ⊥
MayBeDone _ = Unit {0}

-- the line of the source at which a want may stop
abbrev pub line_of : Want → ℕ
line_of (Want.Load cell line) = line
line_of (Want.Store cell value line) = line
line_of (Want.Ask lock mode line) = line
line_of (Want.Give lock line) = line
line_of (Want.Stop fault line) = line
line_of _ = 0

-- how a label answers what a thread wants: it stops at the line of that want, or completes it
abbrev pub AnswersTo : Want → Label → Type 0
AnswersTo want (Label.Stop fault line) = MayStop want × (line ≡ line_of want)
AnswersTo want (Label.Load cell value) = MayBeDone want × Completes want value (Label.Load cell value)
AnswersTo want label = MayBeDone want × Completes want (pos 0) label

-- the state after some labels, the newest first
abbrev pub state_after : {S : Type 0} → Semantics S → S → List Label → S
state_after threads state [] = state
state_after threads state (label ∷ before) = threads.after (state_after threads state before) label

-- a want names cells, locks and barriers of the setup
abbrev pub Names : Setup → Want → Type 0
Names setup (Want.Load cell line) = cell.0 < setup.cells
Names setup (Want.Store cell value line) = cell.0 < setup.cells
Names setup (Want.Ask lock mode line) = lock.0 < setup.locks
Names setup (Want.Take lock mode) = lock.0 < setup.locks
Names setup (Want.Give lock line) = lock.0 < setup.locks
Names setup (Want.Arrive bar) = bar.0 < setup.bars
Names setup (Want.Cross bar) = bar.0 < setup.bars
Names setup _ = Unit {0}

-- whatever labels come, each want names cells, locks and barriers of the setup
abbrev pub StaysWithin : {S : Type 0} → Setup → Semantics S → S → Type 0
StaysWithin setup threads state =
    (labels : List Label) → Names setup (threads.want (state_after threads state labels))

-- a thread takes a lock right after it has asked for it, and crosses a barrier right after it has come to it, and at no other time
pub record AsksFirst {S : Type 0} (threads : Semantics S) (first : S) : Type 0 where
  pub no_take : (lock : Lock) (mode : Mode) → threads.want first ≢ Want.Take lock mode
  pub no_cross : (bar : Bar) → threads.want first ≢ Want.Cross bar
  pub takes : (labels : List Label) (lock : Lock) (mode : Mode) (line : ℕ) →
      threads.want (state_after threads first labels) ≡ Want.Ask lock mode line →
      threads.want (threads.after (state_after threads first labels) (Label.Ask lock mode)) ≡ Want.Take lock mode
  pub crosses : (labels : List Label) (bar : Bar) →
      threads.want (state_after threads first labels) ≡ Want.Arrive bar →
      threads.want (threads.after (state_after threads first labels) (Label.Arrive bar)) ≡ Want.Cross bar
  pub took : (labels : List Label) (answer : ℤ) (label : Label) (lock : Lock) (mode : Mode) →
      Completes (threads.want (state_after threads first labels)) answer label →
      threads.want (threads.after (state_after threads first labels) label) ≡ Want.Take lock mode →
      label ≡ Label.Ask lock mode
  pub crossed : (labels : List Label) (answer : ℤ) (label : Label) (bar : Bar) →
      Completes (threads.want (state_after threads first labels)) answer label →
      threads.want (threads.after (state_after threads first labels) label) ≡ Want.Cross bar →
      label ≡ Label.Arrive bar
  pub stops : (labels : List Label) (fault : Fault) (line : ℕ) →
      threads.want (threads.after (state_after threads first labels) (Label.Stop fault line)) ≡ Want.Over
  pub ends : (labels : List Label) →
      threads.want (threads.after (state_after threads first labels) Label.End) ≡ Want.Over
