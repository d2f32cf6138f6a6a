-- What a home grants: the messages to each processor, and the grants in its own mailbox.
use Rattle.std.specs.Prelude.{◌≡◌, ℕ, false, ◌==◌, not, List, [], ◌∷◌, ◌++◌, map, filter}
use Rattle.std.proofs.Common.{arith, refl, ap, ◌∙◌, append-nil}
use Rattle.std.proofs.lemmas.List.Elements.{filter-append}
use Rattle.dsm_base.specs.declared.names.Lock.{Lock}
use Rattle.dsm_base.specs.declared.setup.Setup.{Setup}
use Rattle.dsm_lines.specs.declared.of_objects.MailGrant.{MailGrant}
use Rattle.dsm_msg.specs.declared.message.Msg.{Msg}
use Rattle.dsm_home.specs.declared.waiting.Waiting.{Waiting}
use Rattle.dsm_home.specs.LockStates.{grants_of}
use Rattle.dsm_net.specs.Processor.{Processor}
use Rattle.dsm_net.specs.Grants.{own_grant, grant_message, is_of, home_after_grants}
use Rattle.dsm_laws_protocol.specs.Situations.{waits_of}
use Rattle.dsm_laws_protocol.specs.Worlds.{grants_said, mail_for}
use Rattle.dsm_laws_protocol.proofs.Channels.{goes}

module _ {S : Type 0} (setup : Setup) (me : ℕ) (s : Processor S) (lock : Lock) where
  -- the messages by which the lock is granted to these
  abbrev pub messages_for : List Waiting → List Msg
  messages_for ones = map (grant_message setup me s lock) (filter (λ one. not (is_of me one)) ones)

  pub sent_to : (q : ℕ) (ones : List Waiting) → (q == me) ≡ false → grants_said lock.0 (filter (goes me q) (messages_for ones)) ≡ map (own_grant setup s lock) (waits_of q ones)
  sent_to q [] ne = refl
  sent_to q (one ∷ ones) ne = grind (arith, sent_to q ones ne)

  pub none_to_me : (ones : List Waiting) → filter (goes me me) (messages_for ones) ≡ []
  none_to_me [] = refl
  none_to_me (one ∷ ones) = grind (arith, none_to_me ones)

  pub none_from : (p q : ℕ) (ones : List Waiting) → (p == me) ≡ false → filter (goes p q) (messages_for ones) ≡ []
  none_from p q [] ne = refl
  none_from p q (one ∷ ones) ne = grind (arith, none_from p q ones ne)

  -- they are about this lock alone
  pub none_other : (other q : ℕ) (ones : List Waiting) → (lock.0 == other) ≡ false → grants_said other (filter (goes me q) (messages_for ones)) ≡ []
  none_other other q [] ne = refl
  none_other other q (one ∷ ones) ne = grind (arith, none_other other q ones ne)

  -- the own grants among these
  own_kept : (ones : List Waiting) → mail_for lock.0 (map (own_grant setup s lock) (filter (is_of me) ones)) ≡ map (own_grant setup s lock) (waits_of me ones)
  own_kept [] = refl
  own_kept (one ∷ ones) = grind (arith, own_kept ones)

  own_other : (other : ℕ) (ones : List Waiting) → (lock.0 == other) ≡ false → mail_for other (map (own_grant setup s lock) (filter (is_of me) ones)) ≡ []
  own_other other [] ne = refl
  own_other other (one ∷ ones) ne = grind (arith, own_other other ones ne)

  pub mail_now : mail_for lock.0 (home_after_grants setup me s lock).mail.grants ≡ mail_for lock.0 s.mail.grants ++ map (own_grant setup s lock) (waits_of me (grants_of (s.locks lock.0)))
  mail_now =
      filter-append (λ (grant : MailGrant). grant.lock.0 == lock.0) s.mail.grants (map (own_grant setup s lock) (filter (is_of me) (grants_of (s.locks lock.0))))
      ∙ ap (λ grants. mail_for lock.0 s.mail.grants ++ grants) (own_kept (grants_of (s.locks lock.0)))

  pub mail_other : (other : ℕ) → (lock.0 == other) ≡ false → mail_for other (home_after_grants setup me s lock).mail.grants ≡ mail_for other s.mail.grants
  mail_other other ne =
      filter-append (λ (grant : MailGrant). grant.lock.0 == other) s.mail.grants (map (own_grant setup s lock) (filter (is_of me) (grants_of (s.locks lock.0))))
      ∙ ap (λ grants. mail_for other s.mail.grants ++ grants) (own_other other (grants_of (s.locks lock.0)) ne) ∙ append-nil (mail_for other s.mail.grants)
