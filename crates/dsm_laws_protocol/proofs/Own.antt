-- What a turn leaves of a processor's own, at one lock, and how its label comes about.
use Rattle.std.specs.Prelude.{◌≡◌, ℕ, ◌+◌, ◌==◌, Bool, true, false, if◌then◌else◌, List, ◌∷◌, length, find, Option, Some, None, option_map}
use Rattle.std.proofs.Common.{arith, refl, sym, ap, ◌∙◌, subst, inl, inr}
use Rattle.std.proofs.lemmas.Bool.Decides.{eqb_tells}
use Rattle.dsm_base.specs.declared.names.Lock.{Lock}
use Rattle.dsm_base.specs.declared.names.Mode.{Mode}
use Rattle.dsm_base.specs.declared.label.Label.{Label}
use Rattle.dsm_base.specs.declared.label.Want.{Want}
use Rattle.dsm_base.specs.declared.setup.Setup.{Setup}
use Rattle.dsm_base.specs.Access.{is_exclusive}
use Rattle.dsm_base.specs.Threads.{Semantics, AsksFirst, state_after}
use Rattle.dsm_base.specs.Plain.{label_of, held_after}
use Rattle.dsm_lines.specs.declared.of_objects.MailGrant.{MailGrant}
use Rattle.dsm_net.specs.Processor.{Own, Processor}
use Rattle.dsm_net.specs.Inputs.{Input, is_grant_for, input_of_grant, input_for}
use Rattle.dsm_net.specs.Turns.{OwnTurn, own_view, turn_with, own_turn, own_versions_after, own_after}
use Rattle.dsm_laws_runs.proofs.Turns.{Outcome}
use Rattle.dsm_laws_protocol.specs.Courses.{Move, is_excl, have_by, held_by, move_of, moves_of, Follows, IsCourse}
use Rattle.dsm_laws_protocol.proofs.Families.{turned_true, turned_false}
use Rattle.dsm_laws_protocol.proofs.Courses.{IsGiving, giving, claim_held}
use Rattle.dsm_laws_protocol.proofs.Threads.{is_other, Answer, ByTake, ByAsk, ByGive, ByOther, answered, outcome_of, IsMade, follows}

pub held_move : (held : ℕ → Option Mode) (lock : ℕ) (moves : List Move) (label : Label) → held lock ≡ held_by moves → held_after held label lock ≡ held_by (move_of lock label ∷ moves)
held_move held lock moves Label.Quiet e = e
held_move held lock moves (Label.Load cell value) e = e
held_move held lock moves (Label.Store cell value) e = e
held_move held lock moves (Label.Ask other mode) e = elim (eqb_tells other.0 lock) [ inl (t, _) ↦ rw t e | inr (t, _) ↦ rw t e ]
held_move held lock moves (Label.Take other mode version) e = elim (eqb_tells other.0 lock) [ inl (t, _) ↦ rw (t, turned_true other.0 lock t) refl | inr (t, _) ↦ rw (t, turned_false lock other.0 t) e ]
held_move held lock moves (Label.Give other) e = elim (eqb_tells other.0 lock) [ inl (t, _) ↦ rw (t, turned_true other.0 lock t) refl | inr (t, _) ↦ rw (t, turned_false lock other.0 t) e ]
held_move held lock moves (Label.Arrive bar) e = e
held_move held lock moves (Label.Cross bar epoch) e = e
held_move held lock moves (Label.Line text) e = e
held_move held lock moves Label.End e = e
held_move held lock moves (Label.Stop fault line) e = e

pub exclusive_same : (o : Option Mode) (mode : Mode) → o ≡ Some mode → is_exclusive o ≡ is_excl mode
exclusive_same o Mode.Shared e = rw e refl
exclusive_same o Mode.Excl e = rw e refl

-- the version that the own copy has
pub version_move : (versions : ℕ → ℕ) (held : ℕ → Option Mode) (lock : ℕ) (moves : List Move) (label : Label) → IsCourse moves → Follows moves (move_of lock label) → held lock ≡ held_by moves → versions lock ≡ have_by moves →
    own_versions_after versions held label lock ≡ have_by (move_of lock label ∷ moves)
version_move versions held lock moves (Label.Give other) h f e v =
    elim (eqb_tells other.0 lock) [
      | inl (t, i) ↦ (
          let g : IsGiving moves = giving moves (rw t at f) in
          let x : is_exclusive (held lock) ≡ is_excl g.claim.mode = exclusive_same (held lock) g.claim.mode (e ∙ claim_held moves g.claim h g.is_claim g.is_taken) in
          let y : is_exclusive (held other.0) ≡ is_excl g.claim.mode = ap (λ l. is_exclusive (held l)) i ∙ x in
          rw (t, g.is_claim) (plain (is_excl g.claim.mode) y t i))
      | inr (t, _) ↦ rw t (apart (is_exclusive (held other.0)) refl t)
    ]
  where
    plain : (b : Bool) → is_exclusive (held other.0) ≡ b → (other.0 == lock) ≡ true → other.0 ≡ lock → own_versions_after versions held (Label.Give other) lock ≡ (if b then have_by moves + 1 else have_by moves)
    plain true x t i = rw (x, turned_true other.0 lock t) (ap (λ l. versions l + 1) i ∙ ap (λ n. n + 1) v)
    plain false x t i = rw x v

    apart : (b : Bool) → is_exclusive (held other.0) ≡ b → (other.0 == lock) ≡ false → own_versions_after versions held (Label.Give other) lock ≡ have_by moves
    apart true x t = rw (x, turned_false lock other.0 t) v
    apart false x t = rw x v
version_move versions held lock moves (Label.Take other mode version) h f e v =
    elim (eqb_tells other.0 lock) [ inl (t, _) ↦ rw (t, turned_true other.0 lock t) refl | inr (t, _) ↦ rw (t, turned_false lock other.0 t) v ]
version_move versions held lock moves (Label.Ask other mode) h f e v = elim (eqb_tells other.0 lock) [ inl (t, _) ↦ rw t v | inr (t, _) ↦ rw t v ]
version_move versions held lock moves _ h f e v = v

-- what a processor has of its own, by its course
pub record IsOwn {S : Type 0} (threads : Semantics S) (first : S) (own : Own S) (course : List Label) : Type 0 where
  pub thread : own.thread ≡ state_after threads first course
  pub turns : own.turns ≡ length course
  pub held : (lock : ℕ) → own.held lock ≡ held_by (moves_of lock course)
  pub versions : (lock : ℕ) → own.versions lock ≡ have_by (moves_of lock course)
  pub made : IsMade threads first course

-- how a turn comes about
pub record IsOwnTurn {S : Type 0} (setup : Setup) (threads : Semantics S) (p : ℕ) (s : Processor S) (turn : OwnTurn) : Type 0 where
  pub input : Input
  pub is_input : input_for s (threads.want s.own.thread) ≡ Some input
  pub is_label : label_of setup.bindings p (own_view s.own input.number) (threads.text s.own.thread) (threads.want s.own.thread) ≡ Some turn.label
  pub is_lines : turn.lines ≡ input.lines

module _ {S : Type 0} (setup : Setup) (threads : Semantics S) (p : ℕ) (s : Processor S) (turn : OwnTurn) where
  label_seen : (input : Input) (label : Option Label) → option_map (λ (l : Label). record { label = l; lines = input.lines }) label ≡ Some turn → label ≡ Some turn.label
  label_seen input None e = cc
  label_seen input (Some label) e = let k : record { label = label; lines = input.lines } ≡ turn = cc in ap (λ (t : OwnTurn). Some t.label) k

  lines_seen : (input : Input) (label : Option Label) → option_map (λ (l : Label). record { label = l; lines = input.lines }) label ≡ Some turn → turn.lines ≡ input.lines
  lines_seen input None e = cc
  lines_seen input (Some label) e = let k : record { label = label; lines = input.lines } ≡ turn = cc in ap (λ (t : OwnTurn). t.lines) (sym k)

  pub own_turn_is : own_turn setup threads p s ≡ Some turn → IsOwnTurn setup threads p s turn
  own_turn_is e = go (input_for s (threads.want s.own.thread)) refl e
    where
      go : (o : Option Input) → input_for s (threads.want s.own.thread) ≡ o → turn_with setup threads p s.own o ≡ Some turn → IsOwnTurn setup threads p s turn
      go None i k = cc
      go (Some input) i k = record {
        input = input;
        is_input = i;
        is_label = label_seen input (label_of setup.bindings p (own_view s.own input.number) (threads.text s.own.thread) (threads.want s.own.thread)) k;
        is_lines = lines_seen input (label_of setup.bindings p (own_view s.own input.number) (threads.text s.own.thread) (threads.want s.own.thread)) k;
      }

-- a grant that answers what a thread wants to take
pub record IsFoundFor {S : Type 0} (s : Processor S) (lock : Lock) (version : ℕ) : Type 0 where
  pub grant : MailGrant
  pub is_found : find (is_grant_for (s.own.turns + 1) lock.0) s.mail.grants ≡ Some grant
  pub is_version : version ≡ grant.version

take_input : {S : Type 0} (s : Processor S) (lock : Lock) (mode : Mode) (want : Want) (input : Input) → want ≡ Want.Take lock mode → input_for s want ≡ Some input → IsFoundFor s lock input.number
take_input s lock mode want input w e = go (find (is_grant_for (s.own.turns + 1) lock.0) s.mail.grants) refl (rw w at e)
  where
    go : (o : Option MailGrant) → find (is_grant_for (s.own.turns + 1) lock.0) s.mail.grants ≡ o → option_map input_of_grant o ≡ Some input → IsFoundFor s lock input.number
    go None i k = cc
    go (Some grant) i k = let same : input_of_grant grant ≡ input = cc in record { grant = grant; is_found = i; is_version = ap (λ (x : Input). x.number) (sym same) }

module _ {S : Type 0} (setup : Setup) (threads : Semantics S) (first : S) (p : ℕ) (s : Processor S) (turn : OwnTurn) (is : IsOwnTurn setup threads p s turn) where
  -- a take is made by a grant
  pub take_found : (lock : Lock) (mode : Mode) (version : ℕ) → turn.label ≡ Label.Take lock mode version → IsFoundFor s lock version
  take_found lock mode version e = go (answered setup.bindings p (own_view s.own is.input.number) (threads.text s.own.thread) (threads.want s.own.thread) turn.label is.is_label)
    where
      go : Answer (threads.want s.own.thread) s.own.held turn.label → IsFoundFor s lock version
      go (ByTake other m v w l) =
          let k : Label.Take other m v ≡ Label.Take lock mode version = sym l ∙ e in
          let a : other ≡ lock = cc in
          let n : IsFoundFor s other is.input.number = take_input s other m (threads.want s.own.thread) is.input w is.is_input in
          let b : Some (Label.Take other m is.input.number) ≡ Some turn.label = rw w at is.is_label in
          let d : Label.Take other m is.input.number ≡ Label.Take lock mode version = (let x : Label.Take other m is.input.number ≡ turn.label = cc in x ∙ e) in
          let c : is.input.number ≡ version = cc in
          subst (λ x. IsFoundFor s x version) a (subst (IsFoundFor s other) c n)
      go (ByAsk other m line w l free) = absurd (let k : Label.Ask other m ≡ Label.Take lock mode version = sym l ∙ e in cc)
      go (ByGive other n l some) = absurd (let k : Label.Give other ≡ Label.Take lock mode version = sym l ∙ e in cc)
      go (ByOther n o) = absurd (let k : false ≡ true = sym (ap is_other e) ∙ o in cc)

  module _ (course : List Label) (own : IsOwn threads first s.own course) (ask_first : AsksFirst threads first) (lawful : (lock : ℕ) → IsCourse (moves_of lock course)) where
    -- its label follows what the processor did before
    pub label_follows : (lock : ℕ) → Follows (moves_of lock course) (move_of lock turn.label)
    label_follows lock =
        follows threads first ask_first lock course own.made (lawful lock) s.own.held (own.held lock) turn.label
        (subst (λ x. Answer (threads.want x) s.own.held turn.label) own.thread
        (answered setup.bindings p (own_view s.own is.input.number) (threads.text s.own.thread) (threads.want s.own.thread) turn.label is.is_label))

    -- and it leaves what its course tells
    pub own_goes_on : IsOwn threads first (own_after setup threads s.own turn) (turn.label ∷ course)
    own_goes_on = record {
      thread = ap (λ x. threads.after x turn.label) own.thread;
      turns = let k = own.turns in omega arith;
      held = λ lock. held_move s.own.held lock (moves_of lock course) turn.label (own.held lock);
      versions = λ lock. version_move s.own.versions s.own.held lock (moves_of lock course) turn.label (lawful lock) (label_follows lock) (own.held lock) (own.versions lock);
      made = (
        own.made,
        subst (λ x. Outcome (threads.want x) turn.label) own.thread
            (outcome_of setup.bindings p (own_view s.own is.input.number) (threads.text s.own.thread) (threads.want s.own.thread) turn.label is.is_label),
      );
    }
