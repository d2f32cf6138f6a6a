-- Whatever a turn tells, and whom: what is reached then.
use Rattle.std.specs.Prelude.{◌≡◌, ℕ, suc, ◌+◌, ◌≤◌, true, List, [], ◌∷◌, length, Option, Some}
use Rattle.std.proofs.Common.{arith, refl, sym, ap, ap₂, ◌∙◌, subst, inl, inr}
use Rattle.std.proofs.lemmas.Bool.Decides.{eqb_tells}
use Rattle.std.proofs.lemmas.List.{length-map}
use Rattle.dsm_base.specs.declared.names.Bar.{Bar}
use Rattle.dsm_base.specs.declared.names.Lock.{Lock}
use Rattle.dsm_base.specs.declared.names.Mode.{Mode}
use Rattle.dsm_base.specs.declared.label.Label.{Label}
use Rattle.dsm_base.specs.declared.setup.Object.{Object}
use Rattle.dsm_base.specs.declared.setup.Setup.{Setup}
use Rattle.dsm_base.specs.Threads.{Semantics}
use Rattle.dsm_lines.specs.declared.list.Line.{Line}
use Rattle.dsm_msg.specs.declared.message.Body.{Body}
use Rattle.dsm_home.specs.LockStates.{version_made}
use Rattle.dsm_net.specs.Processor.{Own, Processor}
use Rattle.dsm_net.specs.Turns.{dirty_lines}
use Rattle.dsm_net.specs.Messages.{home_of, manager_of}
use Rattle.dsm_net.specs.Effects.{may_bring, with_release, release_of, body_of, effect_of_body, effect_of_telling}
use Rattle.dsm_laws_protocol.specs.Courses.{Move, gives, still, Claim, move_of, moves_of, claim_of, have_by, held_by, Follows, IsCourse}
use Rattle.dsm_laws_protocol.specs.Due.{asked, gave, arrived, have_of}
use Rattle.dsm_laws_protocol.specs.Worlds.{World}
use Rattle.dsm_laws_protocol.proofs.Families.{if_same, same_number}
use Rattle.dsm_laws_protocol.proofs.Courses.{upto_all, IsGiving, giving, claim_held}
use Rattle.dsm_laws_protocol.proofs.Due.{cons_parts}
use Rattle.dsm_laws_protocol.proofs.Handling.{IsDue, IsReturn, give_counts, give_lawful}
use Rattle.dsm_laws_protocol.proofs.Reached.{IsReached, after_turn}
use Rattle.dsm_laws_protocol.proofs.Making.{IsMaking, own_made, own_due, own_reached, own_asked, own_came, silent_reached, telling_reached}

-- what is told when a hold ends
pub record IsGivenBack {S : Type 0} (setup : Setup) (own : Own S) (lock : Lock) (moves : List Move) : Type 0 where
  pub mode : Mode
  pub version : ℕ
  pub lines : List Line
  pub is_body : release_of setup own lock (own.held lock.0) ≡ Some (Body.Release lock mode version lines)
  pub claim : Claim
  pub is_claim : claim_of moves ≡ Some claim
  pub is_mode : claim.mode ≡ mode
  pub is_version : version ≡ version_made mode (have_by moves)
  pub brings : may_bring mode lines ≡ true

given_back : {S : Type 0} (setup : Setup) (own : Own S) (lock : Lock) (moves : List Move) → own.held lock.0 ≡ held_by moves → own.versions lock.0 ≡ have_by moves → IsCourse moves → Follows moves gives → IsGivenBack setup own lock moves
given_back {S} setup own lock moves held versions course follows =
    let g : IsGiving moves = giving moves follows in
    go g.claim g.is_claim g.claim.mode refl (held ∙ claim_held moves g.claim course g.is_claim g.is_taken)
  where
    go : (claim : Claim) → claim_of moves ≡ Some claim → (mode : Mode) → claim.mode ≡ mode → own.held lock.0 ≡ Some claim.mode → IsGivenBack setup own lock moves
    go claim c Mode.Shared m e = record {
      mode = Mode.Shared;
      version = own.versions lock.0;
      lines = [];
      is_body = ap (release_of setup own lock) (e ∙ ap Some m);
      claim = claim;
      is_claim = c;
      is_mode = m;
      is_version = versions;
      brings = refl;
    }
    go claim c Mode.Excl m e = record {
      mode = Mode.Excl;
      version = own.versions lock.0 + 1;
      lines = dirty_lines setup own (Object.Lock lock);
      is_body = ap (release_of setup own lock) (e ∙ ap Some m);
      claim = claim;
      is_claim = c;
      is_mode = m;
      is_version = ap (λ n. n + 1) versions;
      brings = refl;
    }

module _ {S : Type 0} (setup : Setup) (first : ℕ → S) (threads : Semantics S) (w : World S) (h : IsReached setup first threads w) where
  follows_give : (p : ℕ) (lock : Lock) (now : Processor S) → IsMaking setup first threads w h p (Label.Give lock) now → Follows (moves_of lock.0 (w.courses p)) gives
  follows_give p lock now is = subst (Follows (moves_of lock.0 (w.courses p))) (if_same lock.0 gives still) (is.follows lock.0)

  back : (p : ℕ) (lock : Lock) (now : Processor S) → IsMaking setup first threads w h p (Label.Give lock) now → IsGivenBack setup (w.processors p).own lock (moves_of lock.0 (w.courses p))
  back p lock now is = given_back setup (w.processors p).own lock (moves_of lock.0 (w.courses p)) ((h.owns p).held lock.0) ((h.owns p).versions lock.0) ((h.lawful lock.0).courses p) (follows_give p lock now is)

  -- p gives back a lock of its own
  own_gave : (p : ℕ) (lock : Lock) (now : Processor S) (mode : Mode) (version : ℕ) (lines : List Line) (claim : Claim) → home_of setup lock.0 ≡ p → IsMaking setup first threads w h p (Label.Give lock) now →
      claim_of (moves_of lock.0 (w.courses p)) ≡ Some claim → claim.mode ≡ mode → version ≡ version_made mode (have_by (moves_of lock.0 (w.courses p))) → may_bring mode lines ≡ true →
      IsReached setup first threads (after_turn setup first threads w h p (Label.Give lock) (effect_of_body setup p now p now.own.turns (Body.Release lock mode version lines)).processor (effect_of_body setup p now p now.own.turns (Body.Release lock mode version lines)).sends)
  own_gave p lock now mode version lines claim i =
      subst (λ p. IsMaking setup first threads w h p (Label.Give lock) now →
      claim_of (moves_of lock.0 (w.courses p)) ≡ Some claim → claim.mode ≡ mode → version ≡ version_made mode (have_by (moves_of lock.0 (w.courses p))) → may_bring mode lines ≡ true →
      IsReached setup first threads (after_turn setup first threads w h p (Label.Give lock) (effect_of_body setup p now p now.own.turns (Body.Release lock mode version lines)).processor (effect_of_body setup p now p now.own.turns (Body.Release lock mode version lines)).sends)) i (λ is c m v brings.
      (let home : ℕ = home_of setup lock.0 in
      let w1 : World S = own_made setup first threads w h home (Label.Give lock) now in
      let due : IsDue setup w1 is.lawful home now.own.turns lock now gives = own_due setup first threads w h lock (Label.Give lock) now gives is (if_same lock.0 gives still) (λ other ne. rw ne refl) in
      let moves_now : moves_of lock.0 (w1.courses home) ≡ gives ∷ moves_of lock.0 (w.courses home) =
      ap (moves_of lock.0) (if_same home (Label.Give lock ∷ w.courses home) (w.courses home)) ∙ ap (λ x. x ∷ moves_of lock.0 (w.courses home)) (if_same lock.0 gives still) in
      let count : length (moves_of lock.0 (w1.courses home)) ≤ now.own.turns =
      (let a : length (moves_of lock.0 (w1.courses home)) ≡ suc (length (moves_of lock.0 (w.courses home))) = ap length moves_now in let b : length (moves_of lock.0 (w.courses home)) ≡ length (w.courses home) = length-map (w.courses home) (move_of lock.0) in let t = is.own.turns in omega arith) in
      let before_is : due.next_is.before ≡ moves_of lock.0 (w.courses home) =
      (cons_parts (sym due.next_is.is_next ∙ upto_all now.own.turns (moves_of lock.0 (w1.courses home)) count ∙ moves_now)).1 in
      let return : IsReturn setup w1 is.lawful home now.own.turns lock now mode version lines = record {
        due = due;
        claim = claim;
        is_claim = ap claim_of before_is ∙ c;
        is_mode = m;
        is_version = v ∙ ap (λ xs. version_made mode (have_by xs)) (sym before_is);
        brings = brings;
        is_processor = is.is_processor;
      } in
      rw (give_counts setup w1 is.lawful home now.own.turns lock now mode version lines return)
      (own_reached setup first threads w h home (Label.Give lock) now lock (with_release setup now home now.own.turns lock mode version lines) record {
        is = is;
        is_home = refl;
        no_other = λ q ne. rw ne refl;
        own = refl;
        peers = refl;
        lawful = give_lawful setup w1 is.lawful home now.own.turns lock now mode version lines return;
      })))

  abbrev Reaches : ℕ → Label → Processor S → Option Body → Type 0
  Reaches p label now body = IsReached setup first threads (after_turn setup first threads w h p label (effect_of_telling setup p now body).processor (effect_of_telling setup p now body).sends)

  count_of : (p : ℕ) (label : Label) (now : Processor S) → IsMaking setup first threads w h p label now → now.own.turns ≡ length (w.courses p) + 1
  count_of p label now is = let t = is.own.turns in omega arith

  ask_reached : (p : ℕ) (lock : Lock) (mode : Mode) (now : Processor S) → IsMaking setup first threads w h p (Label.Ask lock mode) now → Reaches p (Label.Ask lock mode) now (body_of setup (w.processors p).own (Label.Ask lock mode))
  ask_reached p lock mode now is =
      elim (eqb_tells (home_of setup lock.0) p) [
        | inl (t, i) ↦ rw t (own_asked setup first threads w h p lock mode now ((w.processors p).own.versions lock.0) i is)
        | inr (t, _) ↦ rw t (telling_reached setup first threads w h p (Label.Ask lock mode) now is (home_of setup lock.0) (Body.Req lock mode ((w.processors p).own.versions lock.0)) (asked lock mode (have_of lock.0 (w.courses p))) record {
          apart = t;
          is_word = rw (same_number (home_of setup lock.0)) refl;
          no_other = λ q ne. rw ne refl;
          tells = ap₂ (λ n v. record { turn = n; body = asked lock mode v } ∷ []) (count_of p (Label.Ask lock mode) now is) ((h.owns p).versions lock.0);
          fits = tt;
          no_grant = λ other. refl;
        })
      ]

  give_reached : (p : ℕ) (lock : Lock) (now : Processor S) → IsMaking setup first threads w h p (Label.Give lock) now → Reaches p (Label.Give lock) now (body_of setup (w.processors p).own (Label.Give lock))
  give_reached p lock now is =
      let b : IsGivenBack setup (w.processors p).own lock (moves_of lock.0 (w.courses p)) = back p lock now is in
      subst (Reaches p (Label.Give lock) now) (sym b.is_body) (elim (eqb_tells (home_of setup lock.0) p) [
        | inl (t, i) ↦ rw t (own_gave p lock now b.mode b.version b.lines b.claim i is b.is_claim b.is_mode b.is_version b.brings)
        | inr (t, _) ↦ rw t (telling_reached setup first threads w h p (Label.Give lock) now is (home_of setup lock.0) (Body.Release lock b.mode b.version b.lines) (gave lock b.claim.mode (version_made b.claim.mode (have_of lock.0 (w.courses p)))) record {
          apart = t;
          is_word = rw (same_number (home_of setup lock.0), b.is_claim) refl;
          no_other = λ q ne. rw ne refl;
          tells = ap₂ (λ n word. record { turn = n; body = word } ∷ []) (count_of p (Label.Give lock) now is)
              (ap (gave lock b.mode) b.is_version ∙ ap (λ m. gave lock m (version_made m (have_of lock.0 (w.courses p)))) (sym b.is_mode));
          fits = b.brings;
          no_grant = λ other. refl;
        })
      ])

  arrive_reached : (p : ℕ) (bar : Bar) (now : Processor S) → IsMaking setup first threads w h p (Label.Arrive bar) now → Reaches p (Label.Arrive bar) now (body_of setup (w.processors p).own (Label.Arrive bar))
  arrive_reached p bar now is =
      let epoch : ℕ = (w.processors p).own.crossed bar.0 in
      let lines : List Line = dirty_lines setup (w.processors p).own (Object.Bar bar) in
      elim (eqb_tells (manager_of setup bar.0) p) [
        | inl (t, i) ↦ rw t (own_came setup first threads w h p bar now epoch lines i is)
        | inr (t, _) ↦ rw t (telling_reached setup first threads w h p (Label.Arrive bar) now is (manager_of setup bar.0) (Body.Arrive bar epoch lines) (arrived bar) record {
          apart = t;
          is_word = rw (same_number (manager_of setup bar.0)) refl;
          no_other = λ q ne. rw ne refl;
          tells = ap (λ n. record { turn = n; body = arrived bar } ∷ []) (count_of p (Label.Arrive bar) now is);
          fits = tt;
          no_grant = λ other. refl;
        })
      ]

  -- any turn
  pub made_reached : (p : ℕ) (label : Label) (now : Processor S) → IsMaking setup first threads w h p label now → Reaches p label now (body_of setup (w.processors p).own label)
  made_reached p (Label.Ask lock mode) now is = ask_reached p lock mode now is
  made_reached p (Label.Give lock) now is = give_reached p lock now is
  made_reached p (Label.Arrive bar) now is = arrive_reached p bar now is
  made_reached p label now is = silent_reached setup first threads w h p label now is (λ q. refl)
