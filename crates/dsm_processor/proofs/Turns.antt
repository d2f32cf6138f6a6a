-- What holds of the label of a turn, and what a turn leaves.
use Rattle.std.proofs.Common.{◌≡◌, ◌<◌, ◌+◌, ℕ, Bool, true, false, if◌then◌else◌, List, [], ◌∷◌, ◌++◌, Option, Some, None, refl, ap, subst}
use Rattle.std.specs.Prelude.{IfSome, is_some, option_map}
use Rattle.std.proofs.lemmas.List.Elements.{All-nil}
use Rattle.dsm_base.specs.declared.names.Lock.{Lock}
use Rattle.dsm_base.specs.declared.names.Mode.{Mode}
use Rattle.dsm_base.specs.declared.names.Fault.{Fault}
use Rattle.dsm_base.specs.declared.label.Want.{Want}
use Rattle.dsm_base.specs.declared.label.Label.{Label}
use Rattle.dsm_base.specs.declared.setup.Object.{Object}
use Rattle.dsm_base.specs.declared.setup.Piece.{Piece}
use Rattle.dsm_base.specs.declared.setup.Setup.{Setup}
use Rattle.dsm_base.specs.Access.{Rights, piece_of, may_load, may_store, may_store_piece}
use Rattle.dsm_base.specs.Plain.{Surroundings, label_of}
use Rattle.dsm_base.specs.Threads.{Semantics, AnswersTo, StaysWithin, Names, state_after}
use Rattle.dsm_lines.specs.declared.list.Line.{Line}
use Rattle.dsm_lines.specs.Places.{lines}
use Rattle.dsm_net.specs.Processor.{Own, Processor}
use Rattle.dsm_net.specs.Inputs.{Input, input_for}
use Rattle.dsm_net.specs.Turns.{OwnTurn, own_turn, turn_with, own_view}
use Rattle.dsm_net.specs.Effects.{body_of, release_of}
use Rattle.dsm_processor.specs.Copy.{given_lines}
use Rattle.dsm_processor.specs.Names.{BodyNames, LabelNames}
use Rattle.dsm_processor.specs.Node.{number_for, input_lines, label_for, release_with, body_with}
use Rattle.dsm_processor.proofs.Numbered.{are_numbered}
use Rattle.dsm_processor.proofs.Rising.{where_are_lines}

-- a label of this want: it names what is of the setup, and answers the want
pub record IsLabelFor (setup : Setup) (want : Want) (label : Label) : Type 0 where
  pub names : LabelNames setup label
  pub answers : AnswersTo want label

some_is : {A : Type 0} (x y : A) → Some x ≡ Some y → x ≡ y
some_is x y e = cc

-- a cell that may be stored to is in a piece
bound_where : (p : ℕ) (rights : Rights) (piece : Option Piece) → may_store_piece p rights piece ≡ true → is_some piece ≡ true
bound_where p rights None may = cc
bound_where p rights (Some piece) may = refl

-- where a want may be refused
one_of : (setup : Setup) (want : Want) (passes : Bool) (allowed refused label : Label) → IsLabelFor setup want allowed → IsLabelFor setup want refused → Some (if passes then allowed else refused) ≡ Some label → IsLabelFor setup want label
one_of setup want passes allowed refused label is_allowed is_refused e =
    subst (IsLabelFor setup want) (some_is _ label e) (elim passes as (λ b. IsLabelFor setup want (if b then allowed else refused)) [ true ↦ is_allowed | false ↦ is_refused ])

-- the label that a thread makes of what it wants
pub label_is_for : (setup : Setup) (p : ℕ) (seen : Surroundings) (text : List ℕ) (want : Want) (label : Label) → Names setup want → label_of setup.bindings p seen text want ≡ Some label → IsLabelFor setup want label
label_is_for setup p seen text Want.Quiet label within e =
    subst (IsLabelFor setup Want.Quiet) (some_is Label.Quiet label e) record { names = record { stored = tt; asked = tt; locks = tt; bars = tt }; answers = (tt, refl) }
label_is_for setup p seen text (Want.Load cell line) label within e =
    one_of setup (Want.Load cell line) (may_load setup.bindings p seen.rights cell.0) (Label.Load cell (seen.memory cell.0)) (Label.Stop Fault.Unbound line) label
    record { names = record { stored = tt; asked = tt; locks = tt; bars = tt }; answers = (tt, refl) }
    record { names = record { stored = tt; asked = tt; locks = tt; bars = tt }; answers = (tt, refl) } e
label_is_for setup p seen text (Want.Store cell value line) label within e =
    by (may_store setup.bindings p seen.rights cell.0) refl e
  where
    by : (passes : Bool) → may_store setup.bindings p seen.rights cell.0 ≡ passes → Some (if passes then Label.Store cell value else Label.Stop Fault.Unbound line) ≡ Some label → IsLabelFor setup (Want.Store cell value line) label
    by true may e =
        subst (IsLabelFor setup (Want.Store cell value line)) (some_is _ label e)
        record { names = record { stored = bound_where p seen.rights (piece_of setup.bindings cell.0) may; asked = tt; locks = tt; bars = tt }; answers = (tt, refl) }
    by false may e =
        subst (IsLabelFor setup (Want.Store cell value line)) (some_is _ label e)
        record { names = record { stored = tt; asked = tt; locks = tt; bars = tt }; answers = (tt, refl) }
label_is_for setup p seen text (Want.Ask lock mode line) label within e =
    one_of setup (Want.Ask lock mode line) (is_some (seen.rights.held lock.0)) (Label.Stop Fault.Held line) (Label.Ask lock mode) label
    record { names = record { stored = tt; asked = tt; locks = tt; bars = tt }; answers = (tt, refl) }
    record { names = record { stored = tt; asked = within; locks = tt; bars = tt }; answers = (tt, refl) } e
label_is_for setup p seen text (Want.Take lock mode) label within e =
    subst (IsLabelFor setup (Want.Take lock mode)) (some_is _ label e) record { names = record { stored = tt; asked = tt; locks = within; bars = tt }; answers = (tt, (seen.versions lock.0, refl)) }
label_is_for setup p seen text (Want.Give lock line) label within e =
    one_of setup (Want.Give lock line) (is_some (seen.rights.held lock.0)) (Label.Give lock) (Label.Stop Fault.NotHeld line) label
    record { names = record { stored = tt; asked = tt; locks = within; bars = tt }; answers = (tt, refl) }
    record { names = record { stored = tt; asked = tt; locks = tt; bars = tt }; answers = (tt, refl) } e
label_is_for setup p seen text (Want.Arrive bar) label within e =
    subst (IsLabelFor setup (Want.Arrive bar)) (some_is _ label e) record { names = record { stored = tt; asked = tt; locks = tt; bars = within }; answers = (tt, refl) }
label_is_for setup p seen text (Want.Cross bar) label within e =
    subst (IsLabelFor setup (Want.Cross bar)) (some_is _ label e) record { names = record { stored = tt; asked = tt; locks = tt; bars = within }; answers = (tt, (seen.rights.crossed bar.0 + 1, refl)) }
label_is_for setup p seen text Want.Line label within e =
    subst (IsLabelFor setup Want.Line) (some_is _ label e) record { names = record { stored = tt; asked = tt; locks = tt; bars = tt }; answers = (tt, (text, refl)) }
label_is_for setup p seen text Want.End label within e =
    subst (IsLabelFor setup Want.End) (some_is _ label e) record { names = record { stored = tt; asked = tt; locks = tt; bars = tt }; answers = (tt, refl) }
label_is_for setup p seen text (Want.Stop fault line) label within e =
    subst (IsLabelFor setup (Want.Stop fault line)) (some_is _ label e) record { names = record { stored = tt; asked = tt; locks = tt; bars = tt }; answers = (tt, refl) }
label_is_for setup p seen text Want.Over label within e = cc

-- the thread still names what is of the setup
pub stays_after : {S : Type 0} (setup : Setup) (threads : Semantics S) (state : S) (label : Label) → StaysWithin setup threads state → StaysWithin setup threads (threads.after state label)
stays_after setup threads state label stays labels = subst (λ s. Names setup (threads.want s)) (one_first labels) (stays (labels ++ label ∷ []))
  where
    one_first : (later : List Label) → state_after threads state (later ++ label ∷ []) ≡ state_after threads (threads.after state label) later
    one_first [] = refl
    one_first (one ∷ later) = ap (λ s. threads.after s one) (one_first later)

-- The turn of a processor, by the number that has come for what its thread wants.

module _ {S : Type 0} (setup : Setup) (threads : Semantics S) (me : ℕ) (own : Own S) where
  made_with : (input : Option Input)
      → turn_with setup threads me own input
      ≡ option_map (λ one. record { label = one; lines = input_lines input }) (label_for setup threads me own (option_map (λ (one : Input). one.number) input) (threads.want own.thread))
  made_with None = refl
  made_with (Some input) = refl

module _ {S : Type 0} (setup : Setup) (threads : Semantics S) (me : ℕ) (s : Processor S) where
  abbrev pub turn_of : Label → OwnTurn
  turn_of label = record { label = label; lines = input_lines (input_for s (threads.want s.own.thread)) }

  pub turn_is : own_turn setup threads me s ≡ option_map turn_of (label_for setup threads me s.own (number_for s (threads.want s.own.thread)) (threads.want s.own.thread))
  turn_is = made_with setup threads me s.own (input_for s (threads.want s.own.thread))

-- What a turn tells.

-- by its lines that go to others
pub body_is : {S : Type 0} (setup : Setup) (own : Own S) (label : Label) → body_with own.versions own.held own.crossed label (given_lines setup.bindings own.dirty own.copy label) ≡ body_of setup own label
body_is setup own (Label.Give lock) = by (own.held lock.0)
  where
    by : (held : Option Mode) → release_with own.versions lock held (given_lines setup.bindings own.dirty own.copy (Label.Give lock)) ≡ release_of setup own lock held
    by None = refl
    by (Some Mode.Shared) = refl
    by (Some Mode.Excl) = refl
body_is setup own (Label.Ask lock mode) = refl
body_is setup own Label.Quiet = refl
body_is setup own (Label.Load cell value) = refl
body_is setup own (Label.Store cell value) = refl
body_is setup own (Label.Take lock mode version) = refl
body_is setup own (Label.Arrive bar) = refl
body_is setup own (Label.Cross bar epoch) = refl
body_is setup own (Label.Line text) = refl
body_is setup own Label.End = refl
body_is setup own (Label.Stop fault line) = refl

release_names : {S : Type 0} (setup : Setup) (own : Own S) (lock : Lock) (held : Option Mode) → lock.0 < setup.locks → IfSome (release_of setup own lock held) (BodyNames setup)
release_names setup own lock None within = tt
release_names setup own lock (Some Mode.Shared) within = (within, All-nil (λ (line : Line). line.number < lines setup.bindings))
release_names setup own lock (Some Mode.Excl) within = (within, are_numbered setup.bindings own.dirty own.copy (Object.Lock lock))

-- it names a lock of the setup, and lines of it
pub body_names : {S : Type 0} (setup : Setup) (own : Own S) (label : Label) → LabelNames setup label → IfSome (body_of setup own label) (BodyNames setup)
body_names setup own (Label.Ask lock mode) names = names.asked
body_names setup own (Label.Give lock) names = release_names setup own lock (own.held lock.0) names.locks
body_names setup own Label.Quiet names = tt
body_names setup own (Label.Load cell value) names = tt
body_names setup own (Label.Store cell value) names = tt
body_names setup own (Label.Take lock mode version) names = tt
body_names setup own (Label.Arrive bar) names = (names.bars, where_are_lines setup.bindings own.dirty own.copy (Object.Bar bar))
body_names setup own (Label.Cross bar epoch) names = tt
body_names setup own (Label.Line text) names = tt
body_names setup own Label.End names = tt
body_names setup own (Label.Stop fault line) names = tt

-- the label that a processor makes of what its thread wants
pub label_for_is : {S : Type 0} (setup : Setup) (threads : Semantics S) (me : ℕ) (own : Own S) (number : Option ℕ) (want : Want) (label : Label) → Names setup want
    → label_for setup threads me own number want ≡ Some label → IsLabelFor setup want label
label_for_is setup threads me own None want label within e = cc
label_for_is setup threads me own (Some number) want label within e =
    label_is_for setup me (own_view own number) (threads.text own.thread) want label within e
