-- What a unit leaves under way: what there was, and behind it what was sent.
use Rattle.std.specs.Prelude.{◌≡◌, ℕ, ◌+◌, Bool, true, false, ◌&&◌, ◌==◌, if◌then◌else◌, nat_lt, List, [], ◌∷◌, ◌++◌, filter, Some, None}
use Rattle.std.proofs.Common.{refl, sym, ap, ap₂, ◌∙◌, inl, inr, subst, append_assoc, append-nil}
use Rattle.std.proofs.lemmas.Bool.Decides.{eqb_tells}
use Rattle.std.proofs.lemmas.List.{map-append}
use Rattle.dsm_base.specs.declared.lists.PendingLine.{PendingLine}
use Rattle.dsm_base.specs.Family.{update, update_at}
use Rattle.dsm_msg.specs.declared.message.Msg.{Msg}
use Rattle.dsm_net.specs.declared.trace.Letter.{Letter}
use Rattle.dsm_net.specs.Processor.{Processor}
use Rattle.dsm_net.specs.Effects.{Effect}
use Rattle.dsm_net.specs.Net.{Net}
use Rattle.dsm_net.specs.Units.{Made, with_message_to, with_messages, with_line_out, with_lines_out, with_processor, with_effect}
use Rattle.dsm_laws_protocol.specs.Worlds.{grants_in, grants_said, said}
use Rattle.dsm_laws_protocol.proofs.Kept.{IsKept, lines_out_kept, effect_kept}

-- these are the processors, and all are up
abbrev pub AreUp : {S : Type 0} → Net S → (ℕ → Processor S) → Type 0
AreUp net processors = (p : ℕ) → net.processors p ≡ Some (processors p)

-- a message of p to q
abbrev pub goes : ℕ → ℕ → Msg → Bool
goes p q msg = (p == msg.from.0) && (q == msg.to.0)

-- these processors are up still
pub up_kept : {S : Type 0} (processors : ℕ → Processor S) (made now : Made S) → IsKept made now → AreUp made.net processors → AreUp now.net processors
up_kept processors made now kept up q = ap (λ f. f q) kept.processors ∙ up q

pub up_updated : {S : Type 0} (net : Net S) (processors : ℕ → Processor S) (p : ℕ) (s : Processor S) → AreUp net processors → AreUp (record net { processors = update net.processors p (Some s) }) (update processors p s)
up_updated net processors p s up q = elim (eqb_tells q p) [ inl (t, _) ↦ rw t refl | inr (t, _) ↦ rw t (up q) ]

module _ {S : Type 0} (processors : ℕ → Processor S) where
  one_said : (channels : ℕ → ℕ → List Letter) (letter : Letter) (p q : ℕ) →
      said (update_at channels letter.msg.from.0 letter.msg.to.0 (channels letter.msg.from.0 letter.msg.to.0 ++ letter ∷ []) p q) ≡ said (channels p q) ++ (if goes p q letter.msg then letter.msg ∷ [] else [])
  one_said channels letter p q =
      elim (eqb_tells p letter.msg.from.0) [
        | inl (t, i) ↦ elim (eqb_tells q letter.msg.to.0) [
          | inl (u, j) ↦ rw (t, u) (map-append (λ (l : Letter). l.msg) (channels letter.msg.from.0 letter.msg.to.0) (letter ∷ []) ∙ ap₂ (λ a b. said (channels a b) ++ letter.msg ∷ []) (sym i) (sym j))
          | inr (u, _) ↦ rw (t, u) (ap (λ a. said (channels a q)) (sym i) ∙ sym (append-nil (said (channels p q))))
        ]
        | inr (t, _) ↦ rw t (sym (append-nil (said (channels p q))))
      ]

  front : (b : Bool) (msg : Msg) (msgs : List Msg) → (if b then msg ∷ [] else []) ++ msgs ≡ (if b then msg ∷ msgs else msgs)
  front true msg msgs = refl
  front false msg msgs = refl

  -- what is sent comes behind what is under way
  pub sent_said : (msgs : List Msg) (made : Made S) → AreUp made.net processors → (p q : ℕ) → said ((with_messages made msgs).net.channels p q) ≡ said (made.net.channels p q) ++ filter (goes p q) msgs
  sent_said [] made up p q = sym (append-nil (said (made.net.channels p q)))
  sent_said (msg ∷ msgs) made up p q =
      subst (λ o. said ((with_messages (with_message_to made msg o) msgs).net.channels p q) ≡ said (made.net.channels p q) ++ filter (goes p q) (msg ∷ msgs)) (sym (up msg.to.0)) (
      sent_said msgs (with_message_to made msg (Some (processors msg.to.0))) up p q
      ∙ ap (λ xs. xs ++ filter (goes p q) msgs) (one_said made.net.channels record { number = made.net.sent + 1; msg = msg } p q)
      ∙ append_assoc (said (made.net.channels p q)) (if goes p q msg then msg ∷ [] else []) (filter (goes p q) msgs)
      ∙ ap (λ xs. said (made.net.channels p q) ++ xs) (front (goes p q msg) msg (filter (goes p q) msgs)))

-- lines that go out change no channel
line_out_channels : {S : Type 0} (p : ℕ) (line : PendingLine) (made : Made S) → (with_line_out made p line).net.channels ≡ made.net.channels
line_out_channels p line made = go (nat_lt (made.net.out p) line.turn) refl
  where
    go : (b : Bool) → nat_lt (made.net.out p) line.turn ≡ b → (with_line_out made p line).net.channels ≡ made.net.channels
    go true e = rw e refl
    go false e = rw e refl

pub lines_out_channels : {S : Type 0} (p : ℕ) (lines : List PendingLine) (made : Made S) → (with_lines_out made p lines).net.channels ≡ made.net.channels
lines_out_channels p [] made = refl
lines_out_channels p (line ∷ lines) made = lines_out_channels p lines (with_line_out made p line) ∙ line_out_channels p line made

pub grants_append : (lock : ℕ) (xs ys : List Msg) → grants_said lock (xs ++ ys) ≡ grants_said lock xs ++ grants_said lock ys
grants_append lock [] ys = refl
grants_append lock (x ∷ xs) ys = ap (λ zs. grants_in lock x.body ++ zs) (grants_append lock xs ys) ∙ sym (append_assoc (grants_in lock x.body) (grants_said lock xs) (grants_said lock ys))

-- the processors and channels once an effect on p has come over those there were
pub record IsAfter {S : Type 0} (processors : ℕ → Processor S) (channels : ℕ → ℕ → List Letter) (p : ℕ) (effect : Effect S) (net : Net S) : Type 0 where
  pub up : AreUp net (update processors p effect.processor)
  pub under_way : (a b : ℕ) → said (net.channels a b) ≡ said (channels a b) ++ filter (goes a b) effect.sends

-- an effect without a replay that ends, and without a Note
pub record IsPlain {S : Type 0} (effect : Effect S) : Type 0 where
  pub no_replay : effect.replayed ≡ false
  pub no_note : effect.note ≡ None

module _ {S : Type 0} (made : Made S) (processors : ℕ → Processor S) (up : AreUp made.net processors) (from p : ℕ) (effect : Effect S) (plain : IsPlain effect) where
  abbrev first : Made S
  first = with_processor made p effect.processor

  abbrev came : Made S
  came = with_lines_out first from effect.carried

  first_up : AreUp first.net (update processors p effect.processor)
  first_up = up_updated made.net processors p effect.processor up

  came_up : AreUp came.net (update processors p effect.processor)
  came_up = up_kept (update processors p effect.processor) first came (lines_out_kept from effect.carried first) first_up

  pub effect_after : IsAfter processors made.net.channels p effect (with_effect made from p effect).net
  effect_after = record {
    up = up_kept (update processors p effect.processor) first (with_effect made from p effect) (effect_kept made from p effect) first_up;
    under_way = rw (plain.no_replay, plain.no_note) (λ a b. ap (λ f. said (f a b)) (lines_out_channels p effect.outs (with_messages came effect.sends))
        ∙ sent_said (update processors p effect.processor) effect.sends came came_up a b
        ∙ ap (λ f. said (f a b) ++ filter (goes a b) effect.sends) (lines_out_channels from effect.carried first));
  }
