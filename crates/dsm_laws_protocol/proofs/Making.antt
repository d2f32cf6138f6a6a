-- A turn that a processor makes: what is reached then.
use Rattle.std.specs.Prelude.{◌≡◌, ℕ, suc, ◌+◌, ◌≤◌, ◌<◌, Bool, true, false, ◌==◌, nat_lt, List, [], ◌∷◌, ◌++◌, length, filter, find, Some, None}
use Rattle.std.proofs.Common.{arith, refl, sym, ap, ◌∙◌, subst, inl, inr, append-nil}
use Rattle.std.proofs.Math.Path.{fun_ext}
use Rattle.std.proofs.lemmas.Bool.Decides.{eqb_tells}
use Rattle.std.proofs.lemmas.List.{length-map}
use Rattle.dsm_base.specs.declared.names.Bar.{Bar}
use Rattle.dsm_base.specs.declared.names.Lock.{Lock}
use Rattle.dsm_base.specs.declared.names.Mode.{Mode}
use Rattle.dsm_base.specs.declared.label.Label.{Label}
use Rattle.dsm_base.specs.declared.setup.Setup.{Setup}
use Rattle.dsm_base.specs.Family.{update}
use Rattle.dsm_base.specs.Threads.{Semantics, AsksFirst}
use Rattle.dsm_lines.specs.declared.list.Line.{Line}
use Rattle.dsm_lines.specs.declared.of_objects.MailGrant.{MailGrant}
use Rattle.dsm_msg.specs.declared.message.Body.{Body}
use Rattle.dsm_msg.specs.declared.message.Msg.{Msg}
use Rattle.dsm_net.specs.Processor.{Own, Peer, Processor}
use Rattle.dsm_net.specs.Inputs.{is_grant_for}
use Rattle.dsm_net.specs.Turns.{OwnTurn}
use Rattle.dsm_net.specs.Messages.{home_of, manager_of, message}
use Rattle.dsm_net.specs.Grants.{home_after_grants, grant_messages}
use Rattle.dsm_net.specs.Openings.{manager_after_openings, opening_messages}
use Rattle.dsm_net.specs.Effects.{counts, with_last, with_request, with_arrived, effect_of_body, processor_after}
use Rattle.dsm_laws_protocol.specs.Courses.{upto, Move, asks, still, move_of, moves_of, claim_of, made_by, Follows, IsCourse}
use Rattle.dsm_laws_protocol.specs.Due.{due, Word, word_for}
use Rattle.dsm_laws_protocol.specs.Flows.{words_in, IsFlow}
use Rattle.dsm_laws_protocol.specs.Worlds.{World, grants_in, grants_said, AreLawful}
use Rattle.dsm_laws_protocol.proofs.Families.{if_same, same_number, turned_false}
use Rattle.dsm_laws_protocol.proofs.Courses.{upto_all, upto_grown}
use Rattle.dsm_laws_protocol.proofs.Due.{due_grown, due_all}
use Rattle.dsm_laws_protocol.proofs.Channels.{goes}
use Rattle.dsm_laws_protocol.proofs.Granting.{none_to_me}
use Rattle.dsm_laws_protocol.proofs.Homes.{IsNextMove, next_as}
use Rattle.dsm_laws_protocol.proofs.Flows.{AreQuiet, quiet_filter, turn_kept, turn_sent, others_sent}
use Rattle.dsm_laws_protocol.proofs.Worlds.{with_new, with_label, with_handled, with_sent, IsSameUpto, raised_at, raised, granted_lawful}
use Rattle.dsm_laws_protocol.proofs.Journeys.{turned_lawful, sent_lawful, unchanged_lawful}
use Rattle.dsm_laws_protocol.proofs.Handling.{IsDue, ask_counts, ask_lawful}
use Rattle.dsm_laws_protocol.proofs.Own.{IsOwn, IsOwnTurn, IsFoundFor, take_found, label_follows, own_goes_on}
use Rattle.dsm_laws_protocol.proofs.Reached.{IsFit, AreSent, IsReached, after_turn, turn_reached, grants_quiet, grants_sent}
use Rattle.dsm_laws_protocol.proofs.Opening.{openings_quiet, openings_sent, no_opening_to_me, no_grants_opened}
use Rattle.dsm_laws_protocol.proofs.Deliveries.{last_change, last_of_three, still_same}

module _ {S : Type 0} (setup : Setup) (first : ℕ → S) (threads : Semantics S) (w : World S) (h : IsReached setup first threads w) where
  -- a turn of p with this label leaves p so, before it tells anyone
  pub record IsMaking (p : ℕ) (label : Label) (now : Processor S) : Type 0 where
    pub is_processor : p < setup.procs
    pub own : IsOwn threads (first p) now.own (label ∷ w.courses p)
    pub peers : now.peers ≡ (w.processors p).peers
    pub follows : (lock : ℕ) → Follows (moves_of lock (w.courses p)) (move_of lock label)
    pub lawful : AreLawful setup (with_label (with_new w p now) p label)

  -- every turn that a thread makes is such a one
  pub making : (p : ℕ) (turn : OwnTurn) → p < setup.procs → AsksFirst threads (first p) → IsOwnTurn setup threads p (w.processors p) turn → IsMaking p turn.label (processor_after setup threads (w.processors p) turn)
  making p turn is_processor ask_first is =
      let s : Processor S = w.processors p in
      let courses : (lock : ℕ) → IsCourse (moves_of lock (w.courses p)) = λ lock. (h.lawful lock).courses p in
      let follows : (lock : ℕ) → Follows (moves_of lock (w.courses p)) (move_of lock turn.label) = label_follows setup threads (first p) p s turn is (w.courses p) (h.owns p) ask_first courses in
      let found : (lock : Lock) (mode : Mode) (version : ℕ) → turn.label ≡ Label.Take lock mode version → IsFoundFor s lock version = take_found setup threads (first p) p s turn is in
      record {
        is_processor = is_processor;
        own = own_goes_on setup threads (first p) p s turn is (w.courses p) (h.owns p) ask_first courses;
        peers = refl;
        follows = follows;
        lawful = turned_lawful setup w p turn.label (processor_after setup threads s turn) record {
          locks = refl;
          mail = ap (λ n. filter (λ (grant : MailGrant). nat_lt (n + 1) grant.turn) s.mail.grants) (h.owns p).turns;
          follows = follows;
          grant = λ lock mode version e. (found lock mode version e).grant;
          found = λ lock mode version e. subst (λ n. find (is_grant_for (n + 1) lock.0) s.mail.grants ≡ Some (found lock mode version e).grant) (h.owns p).turns (found lock mode version e).is_found;
          is_version = λ lock mode version e. (found lock mode version e).is_version;
        } h.lawful;
      }

  -- at each lock the label is the next move, once it is made
  own_next : (p : ℕ) (label : Label) (turn lock : ℕ) → turn ≡ suc (length (w.courses p)) → IsNextMove (moves_of lock (label ∷ w.courses p)) (w.handled p p) turn (move_of lock label)
  own_next p label turn lock e =
      let k : w.handled p p ≡ length (w.courses p) = h.own_handled p in
      let l : length (moves_of lock (w.courses p)) ≡ length (w.courses p) = length-map (w.courses p) (move_of lock) in
      let same : upto (w.handled p p) (moves_of lock (label ∷ w.courses p)) ≡ moves_of lock (w.courses p) =
      upto_grown (w.handled p p) (move_of lock label) (moves_of lock (w.courses p)) (omega arith) ∙ upto_all (w.handled p p) (moves_of lock (w.courses p)) (omega arith) in
      record {
        before = moves_of lock (w.courses p);
        later = omega arith;
        within = omega arith;
        is_next = upto_all turn (moves_of lock (label ∷ w.courses p)) (omega arith);
        same_claim = ap claim_of (sym same);
        same_made = ap made_by (sym same);
      }

  none_due : (p : ℕ) (label : Label) → word_for setup p (w.courses p) label ≡ None → due (word_for setup p) (w.handled p p) (upto (length (w.courses p) + 1) (label ∷ w.courses p)) ≡ []
  none_due p label none =
      let k : w.handled p p ≡ length (w.courses p) = h.own_handled p in
      ap (due (word_for setup p) (w.handled p p)) (upto_all (length (w.courses p) + 1) (label ∷ w.courses p) (omega arith))
      ∙ due_grown (word_for setup p) (w.handled p p) label (w.courses p) (omega arith)
      ∙ rw (none, due_all (word_for setup p) (w.handled p p) (w.courses p) (omega arith)) refl

  module _ (p : ℕ) (label : Label) (now : Processor S) (is : IsMaking p label now) where
    abbrev after : Processor S → List Msg → World S
    after new sends = after_turn setup first threads w h p label new sends

    abbrev made : World S
    made = with_label (with_new w p now) p label

    courses_now : made.courses p ≡ label ∷ w.courses p
    courses_now = if_same p (label ∷ w.courses p) (w.courses p)

    -- where p tells itself nothing, it has handled one turn more
    own_raised : (channels : ℕ → ℕ → List Msg) → word_for setup p (w.courses p) label ≡ None → AreLawful setup (record made { channels = channels }) → AreLawful setup (with_handled (record made { channels = channels }) p p (length (w.courses p) + 1))
    own_raised channels none lawful =
        let k : w.handled p p ≡ length (w.courses p) = h.own_handled p in
        raised setup (record made { channels = channels }) p p (length (w.courses p) + 1) (omega arith)
        (subst (λ c. length (w.courses p) + 1 ≤ length c) (sym courses_now) (omega arith))
        (subst (λ c. due (word_for setup p) (w.handled p p) (upto (length (w.courses p) + 1) c) ≡ []) (sym courses_now) (none_due p label none)) lawful

    last_kept : (a : ℕ) → (now.peers a).last ≤ w.handled p a
    last_kept a = let k : (now.peers a).last ≡ ((w.processors p).peers a).last = ap (λ f. (f a).last) is.peers in let l = h.last a p in omega arith

    -- a turn that tells nobody anything
    pub silent_reached : ((q : ℕ) → word_for setup q (w.courses p) label ≡ None) → IsReached setup first threads (after now [])
    silent_reached none = turn_reached setup first threads w h p label now [] record {
      is_processor = is.is_processor;
      own = is.own;
      last_own = let k = h.own_handled p in let l = last_kept p in omega arith;
      last_same = λ a there. last_kept a;
      flow = λ b ne. subst (IsFlow setup b (label ∷ w.courses p) (w.handled b p)) (sym (append-nil (w.channels p b))) (turn_kept setup b (w.courses p) (w.handled b p) (w.channels p b) label (h.flows p b ne) (none b));
      sent = tt;
      no_self = refl;
      lawful = subst (λ f. AreLawful setup (with_handled (record made { channels = f }) p p (length (w.courses p) + 1))) (fun_ext (λ a. fun_ext (λ b. sym (append-nil (w.channels a b))))) (own_raised w.channels (none p) is.lawful);
    }

    -- a turn that tells a home of another processor
    pub record IsTelling (keeper : ℕ) (body : Body) (word : Word) : Type 0 where
      pub apart : (keeper == p) ≡ false
      pub is_word : word_for setup keeper (w.courses p) label ≡ Some word
      pub no_other : (q : ℕ) → (keeper == q) ≡ false → word_for setup q (w.courses p) label ≡ None
      pub tells : words_in now.own.turns body ≡ record { turn = length (w.courses p) + 1; body = word } ∷ []
      pub fits : IsFit body
      pub no_grant : (lock : ℕ) → grants_in lock body ≡ []

    pub telling_reached : (keeper : ℕ) (body : Body) (word : Word) → IsTelling keeper body word → IsReached setup first threads (after now (message p now keeper body ∷ []))
    telling_reached keeper body word tell = turn_reached setup first threads w h p label now (message p now keeper body ∷ []) record {
      is_processor = is.is_processor;
      own = is.own;
      last_own = let k = h.own_handled p in let l = last_kept p in omega arith;
      last_same = λ a there. last_kept a;
      flow = flow;
      sent = (record { from = refl; fits = tell.fits; from_home = λ lock ne. tell.no_grant lock }, tt);
      no_self = rw (same_number p, turned_false p keeper tell.apart) refl;
      lawful = own_raised (with_sent made (message p now keeper body ∷ [])).channels (tell.no_other p tell.apart) (sent_lawful setup made (message p now keeper body ∷ []) none is.lawful);
    }
      where
        none : (lock a b : ℕ) → grants_said lock (filter (goes a b) (message p now keeper body ∷ [])) ≡ []
        none lock a b = go (goes a b (message p now keeper body)) refl
          where
            go : (t : Bool) → goes a b (message p now keeper body) ≡ t → grants_said lock (filter (goes a b) (message p now keeper body ∷ [])) ≡ []
            go true e = rw e (ap (λ gs. gs ++ []) (tell.no_grant lock))
            go false e = rw e refl

        flow : (b : ℕ) → (p == b) ≡ false → IsFlow setup b (label ∷ w.courses p) (w.handled b p) (w.channels p b ++ filter (goes p b) (message p now keeper body ∷ []))
        flow b ne =
            elim (eqb_tells b keeper) [
              | inl (t, i) ↦ rw (same_number p, t) (turn_sent setup b (w.courses p) (w.handled b p) (w.channels p b) label (message p now keeper body) word (h.flows p b ne)
                  (subst (λ x. word_for setup x (w.courses p) label ≡ Some word) (sym i) tell.is_word) (let k = is.own.turns in omega arith) tell.tells)
              | inr (t, _) ↦ rw (same_number p, t) (subst (IsFlow setup b (label ∷ w.courses p) (w.handled b p)) (sym (append-nil (w.channels p b)))
                  (turn_kept setup b (w.courses p) (w.handled b p) (w.channels p b) label (h.flows p b ne) (tell.no_other b (turned_false keeper b t))))
            ]

  -- A turn that tells p itself, which is the lock's home.

  abbrev pub own_made : ℕ → Label → Processor S → World S
  own_made p label now = with_label (with_new w p now) p label

  -- the home grants what it may once it has handled its own body
  granted_turn : (p : ℕ) (label : Label) (now : Processor S) (lock : Lock) (queued : Processor S) → home_of setup lock.0 ≡ p → AreLawful setup (with_handled (with_new (own_made p label now) p queued) p p (length (w.courses p) + 1)) →
      AreLawful setup (after_turn setup first threads w h p label (home_after_grants setup p queued lock) (grant_messages setup p queued lock))
  granted_turn p label now lock queued i =
      subst (λ p. AreLawful setup (with_handled (with_new (own_made p label now) p queued) p p (length (w.courses p) + 1)) →
      AreLawful setup (after_turn setup first threads w h p label (home_after_grants setup p queued lock) (grant_messages setup p queued lock))) i (λ lawful.
      (let home : ℕ = home_of setup lock.0 in
      let w2 : World S = with_handled (with_new (own_made home label now) home queued) home home (length (w.courses home) + 1) in
      subst (λ f. AreLawful setup (record (after_turn setup first threads w h home label (home_after_grants setup home queued lock) (grant_messages setup home queued lock)) { processors = f }))
      (fun_ext (last_of_three w.processors home now queued (home_after_grants setup home queued lock)))
      (granted_lawful setup w2 lock queued (if_same home queued (update w.processors home now home)) (h.none home) lawful)))

  -- what is known once p has handled its own body
  pub record IsOwnBody (p : ℕ) (label : Label) (now : Processor S) (lock : Lock) (queued : Processor S) : Type 0 where
    pub is : IsMaking p label now
    pub is_home : home_of setup lock.0 ≡ p
    pub no_other : (q : ℕ) → (p == q) ≡ false → word_for setup q (w.courses p) label ≡ None
    pub own : queued.own ≡ now.own
    pub peers : queued.peers ≡ (with_last now p now.own.turns).peers
    pub lawful : AreLawful setup (with_handled (with_new (own_made p label now) p queued) p p now.own.turns)

  pub own_reached : (p : ℕ) (label : Label) (now : Processor S) (lock : Lock) (queued : Processor S) → IsOwnBody p label now lock queued →
      IsReached setup first threads (after_turn setup first threads w h p label (home_after_grants setup p queued lock) (grant_messages setup p queued lock))
  own_reached p label now lock queued body =
      let turns : now.own.turns ≡ suc (length (w.courses p)) = body.is.own.turns in
      let count : now.own.turns ≡ length (w.courses p) + 1 = omega arith in
      turn_reached setup first threads w h p label (home_after_grants setup p queued lock) (grant_messages setup p queued lock) record {
        is_processor = body.is.is_processor;
        own = subst (λ own. IsOwn threads (first p) own (label ∷ w.courses p)) (sym body.own) body.is.own;
        last_own = let k : (queued.peers p).last ≡ now.own.turns = ap (λ f. (f p).last) body.peers ∙ ap (λ (x : Peer). x.last) (if_same p (record (now.peers p) { last = now.own.turns }) (now.peers p)) in omega arith;
        last_same = λ a there. (let k : (queued.peers a).last ≡ ((w.processors p).peers a).last = ap (λ f. (f a).last) body.peers ∙ rw there refl ∙ ap (λ f. (f a).last) body.is.peers in let l = h.last a p in omega arith);
        flow = λ b ne. others_sent setup b (label ∷ w.courses p) (w.handled b p) (filter (goes p b) (grant_messages setup p queued lock)) (w.channels p b)
            (turn_kept setup b (w.courses p) (w.handled b p) (w.channels p b) label (h.flows p b ne) (body.no_other b ne))
            (quiet_filter (goes p b) (suc (length (w.courses p))) (grant_messages setup p queued lock) (subst (λ n. AreQuiet n (grant_messages setup p queued lock)) (ap (λ (x : Own S). x.turns) body.own ∙ turns) (grants_quiet setup p queued lock)));
        sent = grants_sent setup p queued lock body.is_home;
        no_self = none_to_me setup p queued lock _;
        lawful = granted_turn p label now lock queued body.is_home (subst (λ n. AreLawful setup (with_handled (with_new (own_made p label now) p queued) p p n)) count body.lawful);
      }

  -- the next move at each lock, as the home itself handles it
  pub own_due : (lock : Lock) (label : Label) (now : Processor S) (next : Move) → (is : IsMaking (home_of setup lock.0) label now) → move_of lock.0 label ≡ next → ((other : ℕ) → (lock.0 == other) ≡ false → move_of other label ≡ still) →
      IsDue setup (own_made (home_of setup lock.0) label now) is.lawful (home_of setup lock.0) now.own.turns lock now next
  own_due lock label now next is here others =
      let p : ℕ = home_of setup lock.0 in
      let same : label ∷ w.courses p ≡ (own_made p label now).courses p = sym (if_same p (label ∷ w.courses p) (w.courses p)) in
      record {
        is_home = if_same p now (w.processors p);
        last = let k : (now.peers p).last ≡ ((w.processors p).peers p).last = ap (λ f. (f p).last) is.peers in let l = h.last p p in let m = h.own_handled p in let t = is.own.turns in omega arith;
        next_is = next_as (subst (λ c. IsNextMove (moves_of lock.0 c) (w.handled p p) now.own.turns (move_of lock.0 label)) same (own_next p label now.own.turns lock.0 is.own.turns)) here;
        others = λ other apart there. subst (λ c. IsSameUpto (moves_of other c) (w.handled p p) now.own.turns) same
            (still_same (moves_of other (label ∷ w.courses p)) (w.handled p p) now.own.turns (next_as (own_next p label now.own.turns other is.own.turns) (others other apart)));
      }

  -- p asks for a lock of its own
  pub own_asked : (p : ℕ) (lock : Lock) (mode : Mode) (now : Processor S) (own : ℕ) → home_of setup lock.0 ≡ p → IsMaking p (Label.Ask lock mode) now →
      IsReached setup first threads (after_turn setup first threads w h p (Label.Ask lock mode) (effect_of_body setup p now p now.own.turns (Body.Req lock mode own)).processor (effect_of_body setup p now p now.own.turns (Body.Req lock mode own)).sends)
  own_asked p lock mode now own i =
      subst (λ p. IsMaking p (Label.Ask lock mode) now →
      IsReached setup first threads (after_turn setup first threads w h p (Label.Ask lock mode) (effect_of_body setup p now p now.own.turns (Body.Req lock mode own)).processor (effect_of_body setup p now p now.own.turns (Body.Req lock mode own)).sends)) i (λ is.
      (let home : ℕ = home_of setup lock.0 in
      let w1 : World S = own_made home (Label.Ask lock mode) now in
      let due : IsDue setup w1 is.lawful home now.own.turns lock now (asks mode) = own_due lock (Label.Ask lock mode) now (asks mode) is (if_same lock.0 (asks mode) still) (λ other ne. rw ne refl) in
      rw (ask_counts setup w1 is.lawful home now.own.turns lock now mode own due)
      (own_reached home (Label.Ask lock mode) now lock (with_request now home now.own.turns lock mode own) record {
        is = is;
        is_home = refl;
        no_other = λ q ne. rw ne refl;
        own = refl;
        peers = refl;
        lawful = ask_lawful setup w1 is.lawful home now.own.turns lock now mode own due;
      })))

  -- A turn that tells p itself, which is a barrier's manager, that it has come there: no lock is touched.

  pub record IsOwnArrival (p : ℕ) (now queued : Processor S) (sends : List Msg) : Type 0 where
    pub own : queued.own ≡ now.own
    pub last_own : (queued.peers p).last ≤ length (w.courses p) + 1
    pub last_same : (a : ℕ) → (a == p) ≡ false → (queued.peers a).last ≤ w.handled p a
    pub locks : queued.locks ≡ now.locks
    pub mail : queued.mail.grants ≡ now.mail.grants
    pub quiet : AreQuiet (suc (length (w.courses p))) sends
    pub sent : AreSent setup p sends
    pub no_self : filter (goes p p) sends ≡ []
    pub no_grants : (lock a b : ℕ) → grants_said lock (filter (goes a b) sends) ≡ []

  own_arrived : (p : ℕ) (bar : Bar) (now queued : Processor S) (sends : List Msg) → manager_of setup bar.0 ≡ p → IsMaking p (Label.Arrive bar) now → IsOwnArrival p now queued sends →
      IsReached setup first threads (after_turn setup first threads w h p (Label.Arrive bar) queued sends)
  own_arrived p bar now queued sends i is come = turn_reached setup first threads w h p (Label.Arrive bar) queued sends record {
    is_processor = is.is_processor;
    own = subst (λ own. IsOwn threads (first p) own (Label.Arrive bar ∷ w.courses p)) (sym come.own) is.own;
    last_own = come.last_own;
    last_same = come.last_same;
    flow = λ b ne. others_sent setup b (Label.Arrive bar ∷ w.courses p) (w.handled b p) (filter (goes p b) sends) (w.channels p b)
        (turn_kept setup b (w.courses p) (w.handled b p) (w.channels p b) (Label.Arrive bar) (h.flows p b ne) (rw (i, ne) refl))
        (quiet_filter (goes p b) (suc (length (w.courses p))) sends come.quiet);
    sent = come.sent;
    no_self = come.no_self;
    lawful = subst (λ f. AreLawful setup (record (after_turn setup first threads w h p (Label.Arrive bar) queued sends) { processors = f }))
        (fun_ext (last_change w.processors p now queued)) (sent_lawful setup raised_world sends come.no_grants raised_now);
  }
    where
      made : World S
      made = own_made p (Label.Arrive bar) now

      changed : World S
      changed = with_new made p queued

      raised_world : World S
      raised_world = with_handled changed p p (length (w.courses p) + 1)

      changed_now : AreLawful setup changed
      changed_now = unchanged_lawful setup made p queued
          (come.locks ∙ ap (λ (x : Processor S). x.locks) (sym (if_same p now (w.processors p))))
          (come.mail ∙ ap (λ (x : Processor S). x.mail.grants) (sym (if_same p now (w.processors p)))) is.lawful

      still_there : (lock : ℕ) → IsSameUpto (moves_of lock (changed.courses p)) (w.handled p p) (length (w.courses p) + 1)
      still_there lock = subst (λ c. IsSameUpto (moves_of lock c) (w.handled p p) (length (w.courses p) + 1)) (sym (if_same p (Label.Arrive bar ∷ w.courses p) (w.courses p)))
          (still_same (moves_of lock (Label.Arrive bar ∷ w.courses p)) (w.handled p p) (length (w.courses p) + 1) (own_next p (Label.Arrive bar) (length (w.courses p) + 1) lock (omega arith)))

      raised_now : AreLawful setup raised_world
      raised_now lock = raised_at setup changed p p (length (w.courses p) + 1) lock (λ home. still_there lock) (changed_now lock)

  pub own_came : (p : ℕ) (bar : Bar) (now : Processor S) (epoch : ℕ) (lines : List Line) → manager_of setup bar.0 ≡ p → IsMaking p (Label.Arrive bar) now →
      IsReached setup first threads (after_turn setup first threads w h p (Label.Arrive bar) (effect_of_body setup p now p now.own.turns (Body.Arrive bar epoch lines)).processor (effect_of_body setup p now p now.own.turns (Body.Arrive bar epoch lines)).sends)
  own_came p bar now epoch lines i is = go (counts now p now.own.turns (Body.Arrive bar epoch lines)) refl
    where
      arrived : Processor S
      arrived = with_arrived now p now.own.turns bar lines

      turns : now.own.turns ≡ suc (length (w.courses p))
      turns = is.own.turns

      last_before : (a : ℕ) → (now.peers a).last ≤ w.handled p a
      last_before a = let k : (now.peers a).last ≡ ((w.processors p).peers a).last = ap (λ f. (f a).last) is.peers in let l = h.last a p in omega arith

      go : (b : Bool) → counts now p now.own.turns (Body.Arrive bar epoch lines) ≡ b →
          IsReached setup first threads (after_turn setup first threads w h p (Label.Arrive bar) (effect_of_body setup p now p now.own.turns (Body.Arrive bar epoch lines)).processor (effect_of_body setup p now p now.own.turns (Body.Arrive bar epoch lines)).sends)
      go true e = rw e (own_arrived p bar now (manager_after_openings setup p arrived bar) (opening_messages setup p arrived bar) i is record {
        own = refl;
        last_own = let k : (arrived.peers p).last ≡ now.own.turns = ap (λ (x : Peer). x.last) (if_same p (record (now.peers p) { last = now.own.turns }) (now.peers p)) in let t = turns in omega arith;
        last_same = λ a there. (let k : (arrived.peers a).last ≡ (now.peers a).last = rw there refl in let l = last_before a in omega arith);
        locks = refl;
        mail = refl;
        quiet = subst (λ n. AreQuiet n (opening_messages setup p arrived bar)) turns (openings_quiet setup p arrived bar);
        sent = openings_sent setup p arrived bar;
        no_self = no_opening_to_me setup p arrived bar;
        no_grants = no_grants_opened setup p arrived bar;
      })
      go false e = rw e (own_arrived p bar now now [] i is record {
        own = refl;
        last_own = let k = last_before p in let l = h.own_handled p in omega arith;
        last_same = λ a there. last_before a;
        locks = refl;
        mail = refl;
        quiet = tt;
        sent = tt;
        no_self = refl;
        no_grants = λ lock a b. refl;
      })
