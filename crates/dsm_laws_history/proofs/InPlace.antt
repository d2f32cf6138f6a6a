-- The opening of a barrier is in the mailbox of each processor that hasn't crossed it yet, or under way there.
use Rattle.std.specs.Prelude.{◌≡◌, ◌⊎◌, ℕ, ◌+◌, ◌<◌, ◌≤◌, Bool, true, false, ◌||◌, ◌==◌, not, nat_lt, if◌then◌else◌, List, [], ◌∷◌, ◌++◌, map, filter, find, Option, Some, None}
use Rattle.std.specs.List.{range_with_len, AllByRecursion}
use Rattle.std.proofs.Common.{arith, refl, sym, ap, ap₂, ◌∙◌, subst, inl, inr, true≢false, append_assoc, append-nil}
use Rattle.std.proofs.lemmas.Bool.Decides.{eqb_tells, nat_tests}
use Rattle.std.proofs.lemmas.Grind.{common_steps}
use Rattle.std.proofs.lemmas.List.Folds.{list_any-append}
use Rattle.dsm_base.specs.declared.names.Bar.{Bar}
use Rattle.dsm_base.specs.declared.names.Lock.{Lock}
use Rattle.dsm_base.specs.declared.names.Mode.{Mode}
use Rattle.dsm_base.specs.declared.act.Act.{Act}
use Rattle.dsm_base.specs.declared.label.Label.{Label}
use Rattle.dsm_base.specs.declared.label.Want.{Want}
use Rattle.dsm_base.specs.declared.setup.Setup.{Setup}
use Rattle.dsm_base.specs.Family.{update, update_at}
use Rattle.dsm_base.specs.Threads.{Semantics}
use Rattle.dsm_base.specs.Plain.{PlainState, Turn, after_run, labels_of, plain_turn}
use Rattle.dsm_lines.specs.declared.list.Line.{Line}
use Rattle.dsm_lines.specs.declared.of_objects.MailOpening.{MailOpening}
use Rattle.dsm_lines.specs.declared.of_objects.Opening.{Opening}
use Rattle.dsm_msg.specs.declared.message.Body.{Body}
use Rattle.dsm_msg.specs.declared.message.Msg.{Msg}
use Rattle.dsm_home.specs.declared.waiting.Waiting.{Waiting}
use Rattle.dsm_home.specs.LockStates.{grants_of}
use Rattle.dsm_barrier.specs.BarrierStates.{BarrierState, arrived_in, with_arrival, have_all_come, opening_for, openings_of}
use Rattle.dsm_net.specs.declared.trace.Group.{Group}
use Rattle.dsm_net.specs.Processor.{Own, Processor}
use Rattle.dsm_net.specs.Inputs.{is_opening_of}
use Rattle.dsm_net.specs.Turns.{OwnTurn, own_view}
use Rattle.dsm_net.specs.Messages.{manager_of, keeper_of, message, with_carry}
use Rattle.dsm_net.specs.Grants.{grant_message, is_of}
use Rattle.dsm_net.specs.Openings.{own_opening, opening_message, is_to, openings_now, opening_messages}
use Rattle.dsm_net.specs.Effects.{Effect, only, counts, with_request, with_release, with_arrived, effect_of, effect_of_body, release_of, body_of, processor_after, effect_of_openings, effect_of_telling_to, effect_of_telling}
use Rattle.dsm_net.specs.Net.{Net}
use Rattle.dsm_net.specs.Fits.{FitsUnits, run_of}
use Rattle.dsm_net.specs.Story.{history}
use Rattle.dsm_laws_runs.specs.OwnPart.{arrived_of, crossed_of}
use Rattle.dsm_laws_runs.specs.Versions.{AllAskFirst}
use Rattle.dsm_laws_runs.specs.Epochs.{wants_cross, IsInStep}
use Rattle.dsm_laws_runs.proofs.OwnPart.{own_arrived, own_crossed}
use Rattle.dsm_laws_runs.proofs.Epochs.{goes_over, crosses_as_wanted, in_step}
use Rattle.dsm_laws_protocol.specs.Due.{arrived, word_for}
use Rattle.dsm_laws_protocol.specs.Flows.{words_in, IsFlow}
use Rattle.dsm_laws_protocol.specs.Holding.{AreWithin}
use Rattle.dsm_laws_protocol.specs.Steps.{Step, steps_of, turns_of}
use Rattle.dsm_laws_protocol.specs.Worlds.{World}
use Rattle.dsm_laws_protocol.proofs.Channels.{goes}
use Rattle.dsm_laws_protocol.proofs.Families.{if_same, same_number, turned_false, turned_true}
use Rattle.dsm_laws_protocol.proofs.Flows.{told_came}
use Rattle.dsm_laws_protocol.proofs.Own.{IsOwnTurn}
use Rattle.dsm_laws_protocol.proofs.Quiet.{came_label}
use Rattle.dsm_laws_protocol.proofs.Reached.{IsReached, after_turn, after_delivery}
use Rattle.dsm_laws_protocol.proofs.Reaching.{start_world, Keeps, Holds, trace_holds}
use Rattle.dsm_laws_history.specs.Openings.{epochs_of, epochs_in, epochs_said, IsInPlace, OpeningsAreInPlace}
use Rattle.dsm_laws_history.proofs.Lines.{is_in, in_range}
use Rattle.dsm_laws_history.proofs.Truth.{all_append, all_weaker}
use Rattle.dsm_laws_history.proofs.Effects.{same_numbers}
use Rattle.dsm_laws_history.proofs.Reached.{HasHistory}
use Rattle.dsm_laws_history.proofs.PlainTurns.{is_turn, IsOpened, opened_by, want_of_cross, cross_of_label}
use Rattle.dsm_laws_history.proofs.Histories.{has_history}
use Rattle.dsm_laws_history.proofs.Agreement.{steps_are}

-- Epochs of openings.

epochs_append : (bar : ℕ) (xs ys : List MailOpening) → epochs_of bar (xs ++ ys) ≡ epochs_of bar xs ++ epochs_of bar ys
epochs_append bar [] ys = refl
epochs_append bar (x ∷ xs) ys = grind (arith, epochs_append bar xs ys)

said_append : (bar : ℕ) (xs ys : List Msg) → epochs_said bar (xs ++ ys) ≡ epochs_said bar xs ++ epochs_said bar ys
said_append bar [] ys = refl
said_append bar (x ∷ xs) ys = ap (λ zs. epochs_in bar x.body ++ zs) (said_append bar xs ys) ∙ sym (append_assoc (epochs_in bar x.body) (epochs_said bar xs) (epochs_said bar ys))

epochs_filter : (P : ℕ → Type 0) (test : MailOpening → Bool) (bar : ℕ) (xs : List MailOpening) → AllByRecursion P (epochs_of bar xs) → AllByRecursion P (epochs_of bar (filter test xs))
epochs_filter P test bar [] = λ h. tt
epochs_filter P test bar (x ∷ xs) = go (epochs_filter P test bar xs) (test x) refl (x.bar.0 == bar) refl
  where
    go : (AllByRecursion P (epochs_of bar xs) → AllByRecursion P (epochs_of bar (filter test xs))) → (b : Bool) → test x ≡ b → (c : Bool) → (x.bar.0 == bar) ≡ c →
        AllByRecursion P (epochs_of bar (x ∷ xs)) → AllByRecursion P (epochs_of bar (filter test (x ∷ xs)))
    go more true t true e h = rw t (let k : P x.epoch × AllByRecursion P (epochs_of bar xs) = rw e at h in rw e (k.0, more k.1))
    go more true t false e h = rw t (let k : AllByRecursion P (epochs_of bar xs) = rw e at h in rw e (more k))
    go more false t true e h = rw t (let k : P x.epoch × AllByRecursion P (epochs_of bar xs) = rw e at h in more k.1)
    go more false t false e h = rw t (let k : AllByRecursion P (epochs_of bar xs) = rw e at h in more k)

-- an opening that is found is among them
found_epoch : (P : ℕ → Type 0) (bar epoch : ℕ) (xs : List MailOpening) (x : MailOpening) → find (is_opening_of bar epoch) xs ≡ Some x → AllByRecursion P (epochs_of bar xs) → P epoch
found_epoch P bar epoch [] x = λ e h. cc
found_epoch P bar epoch (y ∷ xs) x = go (found_epoch P bar epoch xs x) (y.bar.0 == bar) refl (y.epoch == epoch) refl
  where
    go : (find (is_opening_of bar epoch) xs ≡ Some x → AllByRecursion P (epochs_of bar xs) → P epoch) → (b : Bool) → (y.bar.0 == bar) ≡ b → (c : Bool) → (y.epoch == epoch) ≡ c →
        find (is_opening_of bar epoch) (y ∷ xs) ≡ Some x → AllByRecursion P (epochs_of bar (y ∷ xs)) → P epoch
    go more true b true c e h = let k : P y.epoch × AllByRecursion P (epochs_of bar xs) = rw b at h in subst P (same_numbers y.epoch epoch c) k.0
    go more true b false c e h = let k : P y.epoch × AllByRecursion P (epochs_of bar xs) = rw b at h in more (rw (b, c) at e) k.1
    go more false b c i e h = more (rw b at e) (rw b at h)

in_procs : (setup : Setup) (r : ℕ) → r < setup.procs → is_in r (range_with_len 0 setup.procs) ≡ true
in_procs setup r lt = in_range r 0 setup.procs ∙ grind (arith, nat_tests, common_steps)

-- a member of a family beside one that is replaced
apart_same : {A : Type 0} (f : ℕ → A) (p q : ℕ) (a : A) → (q == p) ≡ false → update f p a q ≡ f q
apart_same f p q a e = rw e refl

-- What an effect does to a barrier.

-- no opening is made
record Stays {S : Type 0} (bar : ℕ) (s : Processor S) (effect : Effect S) : Type 0 where
  opened : (effect.processor.barriers bar).opened ≡ (s.barriers bar).opened
  mail : epochs_of bar effect.processor.mail.openings ≡ epochs_of bar s.mail.openings
  sends : (test : Msg → Bool) → epochs_said bar (filter test effect.sends) ≡ []

-- it opens once more, with an opening for each
record Opens {S : Type 0} (setup : Setup) (me bar : ℕ) (s : Processor S) (effect : Effect S) : Type 0 where
  opened : (effect.processor.barriers bar).opened ≡ (s.barriers bar).opened + 1
  own : List ℕ
  mail : epochs_of bar effect.processor.mail.openings ≡ epochs_of bar s.mail.openings ++ own
  own_is : me < setup.procs → is_in ((s.barriers bar).opened + 1) own ≡ true
  own_all : AllByRecursion (λ epoch. epoch ≡ (s.barriers bar).opened + 1) own
  sent_is : (r : ℕ) → r < setup.procs → (r == me) ≡ false → is_in ((s.barriers bar).opened + 1) (epochs_said bar (filter (goes me r) effect.sends)) ≡ true
  sent_all : (test : Msg → Bool) → AllByRecursion (λ epoch. epoch ≡ (s.barriers bar).opened + 1) (epochs_said bar (filter test effect.sends))
  from_me : (a b : ℕ) → (a == me) ≡ false → epochs_said bar (filter (goes a b) effect.sends) ≡ []

-- bodies other than openings
abbrev IsNoOpening : Body → Type 0
IsNoOpening (Body.Opened bar epoch lines) = ⊥
IsNoOpening _ = Unit {0}

-- which barrier a body may open
abbrev MayOpen : ℕ → Body → Type 0
MayOpen bar (Body.Arrive other epoch lines) = other.0 ≡ bar
MayOpen bar _ = ⊥

-- what a turn tells is no opening
abbrev IsNoneTold : Option Body → Type 0
IsNoneTold None = Unit {0}
IsNoneTold (Some body) = IsNoOpening body

-- which barrier it may open here
abbrev MayOpenTold : Setup → ℕ → ℕ → Option Body → Type 0
MayOpenTold setup me bar None = ⊥
MayOpenTold setup me bar (Some body) = MayOpen bar body × (keeper_of setup body ≡ Some me)

no_epochs : (bar : ℕ) (body : Body) → IsNoOpening body → epochs_in bar body ≡ []
no_epochs bar (Body.Opened other epoch lines) is = absurd is
no_epochs bar _ is = refl

module _ {S : Type 0} (setup : Setup) (me : ℕ) where
  grants_say : (s : Processor S) (lock : Lock) (bar : ℕ) (test : Msg → Bool) (ones : List Waiting) → epochs_said bar (filter test (map (grant_message setup me s lock) ones)) ≡ []
  grants_say s lock bar test [] = refl
  grants_say s lock bar test (one ∷ ones) = go (test (grant_message setup me s lock one)) refl (grants_say s lock bar test ones)
    where
      go : (b : Bool) → test (grant_message setup me s lock one) ≡ b → epochs_said bar (filter test (map (grant_message setup me s lock) ones)) ≡ [] →
          epochs_said bar (filter test (map (grant_message setup me s lock) (one ∷ ones))) ≡ []
      go true e more = rw e more
      go false e more = rw e more

  -- Openings of this barrier, of one state of it.

  module _ (s : Processor S) (bar : Bar) (state : BarrierState) where
    abbrev made : List ℕ → List Opening
    made ps = map (opening_for setup.procs bar state) ps

    abbrev IsNext : ℕ → Type 0
    IsNext epoch = epoch ≡ state.opened + 1

    own_next : (ps : List ℕ) → AllByRecursion IsNext (epochs_of bar.0 (map own_opening (filter (is_to me) (made ps))))
    own_next [] = tt
    own_next (p ∷ ps) = go (p == me) refl (own_next ps)
      where
        go : (b : Bool) → (p == me) ≡ b → AllByRecursion IsNext (epochs_of bar.0 (map own_opening (filter (is_to me) (made ps)))) → AllByRecursion IsNext (epochs_of bar.0 (map own_opening (filter (is_to me) (made (p ∷ ps)))))
        go true e more = rw (e, same_number bar.0) (refl, more)
        go false e more = rw e more

    own_there : (ps : List ℕ) → is_in me ps ≡ true → is_in (state.opened + 1) (epochs_of bar.0 (map own_opening (filter (is_to me) (made ps)))) ≡ true
    own_there [] is = cc
    own_there (p ∷ ps) is = go (p == me) refl is (own_there ps)
      where
        go : (b : Bool) → (p == me) ≡ b → ((p == me) || is_in me ps) ≡ true → (is_in me ps ≡ true → is_in (state.opened + 1) (epochs_of bar.0 (map own_opening (filter (is_to me) (made ps)))) ≡ true) →
            is_in (state.opened + 1) (epochs_of bar.0 (map own_opening (filter (is_to me) (made (p ∷ ps))))) ≡ true
        go true e is more = rw (e, same_number bar.0, same_number (state.opened + 1)) refl
        go false e is more = rw e (more (rw e at is))

    sent_next : (test : Msg → Bool) (ps : List ℕ) → AllByRecursion IsNext (epochs_said bar.0 (filter test (map (opening_message me s) (filter (λ one. not (is_to me one)) (made ps)))))
    sent_next test [] = tt
    sent_next test (p ∷ ps) = go (p == me) refl (test (opening_message me s (opening_for setup.procs bar state p))) refl (sent_next test ps)
      where
        go : (b : Bool) → (p == me) ≡ b → (c : Bool) → test (opening_message me s (opening_for setup.procs bar state p)) ≡ c →
            AllByRecursion IsNext (epochs_said bar.0 (filter test (map (opening_message me s) (filter (λ one. not (is_to me one)) (made ps))))) →
            AllByRecursion IsNext (epochs_said bar.0 (filter test (map (opening_message me s) (filter (λ one. not (is_to me one)) (made (p ∷ ps))))))
        go true e c t more = rw e more
        go false e true t more = rw (e, t, same_number bar.0) (refl, more)
        go false e false t more = rw (e, t) more

    sent_there : (r : ℕ) → (r == me) ≡ false → (ps : List ℕ) → is_in r ps ≡ true →
        is_in (state.opened + 1) (epochs_said bar.0 (filter (goes me r) (map (opening_message me s) (filter (λ one. not (is_to me one)) (made ps))))) ≡ true
    sent_there r ne [] is = cc
    sent_there r ne (p ∷ ps) is = go (p == r) refl (p == me) refl is (sent_there r ne ps)
      where
        clash : (p == r) ≡ true → (p == me) ≡ true → ⊥
        clash a b = true≢false (sym (rw (sym (same_numbers p r a) ∙ same_numbers p me b) (same_number me)) ∙ ne)

        go : (b : Bool) → (p == r) ≡ b → (c : Bool) → (p == me) ≡ c → ((p == r) || is_in r ps) ≡ true →
            (is_in r ps ≡ true → is_in (state.opened + 1) (epochs_said bar.0 (filter (goes me r) (map (opening_message me s) (filter (λ one. not (is_to me one)) (made ps))))) ≡ true) →
            is_in (state.opened + 1) (epochs_said bar.0 (filter (goes me r) (map (opening_message me s) (filter (λ one. not (is_to me one)) (made (p ∷ ps)))))) ≡ true
        go true a true b is more = absurd (clash a b)
        go true a false b is more = rw (b, same_number me, turned_true p r a, same_number bar.0, same_number (state.opened + 1)) refl
        go false a true b is more = rw b (more (rw a at is))
        go false a false b is more = rw (b, same_number me, turned_false r p a) (more (rw a at is))

    none_from_other : (a b : ℕ) → (a == me) ≡ false → (ones : List Opening) → epochs_said bar.0 (filter (goes a b) (map (opening_message me s) ones)) ≡ []
    none_from_other a b ne [] = refl
    none_from_other a b ne (one ∷ ones) = rw ne (none_from_other a b ne ones)

  -- Openings of another barrier.

  module _ (s : Processor S) (bar : ℕ) (other : Bar) (ne : (other.0 == bar) ≡ false) (state : BarrierState) where
    own_of_other : (ps : List ℕ) → epochs_of bar (map own_opening (filter (is_to me) (map (opening_for setup.procs other state) ps))) ≡ []
    own_of_other [] = refl
    own_of_other (p ∷ ps) = go (p == me) refl (own_of_other ps)
      where
        go : (b : Bool) → (p == me) ≡ b → epochs_of bar (map own_opening (filter (is_to me) (map (opening_for setup.procs other state) ps))) ≡ [] →
            epochs_of bar (map own_opening (filter (is_to me) (map (opening_for setup.procs other state) (p ∷ ps)))) ≡ []
        go true e more = rw (e, ne) more
        go false e more = rw e more

    sent_of_other : (test : Msg → Bool) (ps : List ℕ) → epochs_said bar (filter test (map (opening_message me s) (filter (λ one. not (is_to me one)) (map (opening_for setup.procs other state) ps)))) ≡ []
    sent_of_other test [] = refl
    sent_of_other test (p ∷ ps) = go (p == me) refl (test (opening_message me s (opening_for setup.procs other state p))) refl (sent_of_other test ps)
      where
        go : (b : Bool) → (p == me) ≡ b → (c : Bool) → test (opening_message me s (opening_for setup.procs other state p)) ≡ c →
            epochs_said bar (filter test (map (opening_message me s) (filter (λ one. not (is_to me one)) (map (opening_for setup.procs other state) ps)))) ≡ [] →
            epochs_said bar (filter test (map (opening_message me s) (filter (λ one. not (is_to me one)) (map (opening_for setup.procs other state) (p ∷ ps))))) ≡ []
        go true e c t more = rw e more
        go false e true t more = rw (e, t, ne) more
        go false e false t more = rw (e, t) more

  -- An arrival.

  module _ (s : Processor S) (from turn : ℕ) (other : Bar) (lines : List Line) where
    abbrev arrives : Processor S
    arrives = with_arrived s from turn other lines

    abbrev state : BarrierState
    state = arrives.barriers other.0

    state_is : state ≡ with_arrival (s.barriers other.0) from (arrived_in turn lines)
    state_is = if_same other.0 (with_arrival (s.barriers other.0) from (arrived_in turn lines)) (s.barriers other.0)

    opened_is : state.opened ≡ (s.barriers other.0).opened
    opened_is = ap (λ (b : BarrierState). b.opened) state_is

    all_stay : (bar : ℕ) → (other.0 == bar) ≡ false → Stays bar s (effect_of_openings setup me arrives other)
    all_stay bar ne = record {
      opened = rw (turned_false bar other.0 ne) refl;
      mail = go (have_all_come setup.procs state) refl;
      sends = λ test. said_none test (have_all_come setup.procs state) refl;
    }
      where
        go : (b : Bool) → have_all_come setup.procs state ≡ b → epochs_of bar (s.mail.openings ++ map own_opening (filter (is_to me) (openings_now setup arrives other))) ≡ epochs_of bar s.mail.openings
        go true e = rw e (epochs_append bar s.mail.openings _ ∙ ap (λ xs. epochs_of bar s.mail.openings ++ xs) (own_of_other arrives bar other ne state (range_with_len 0 setup.procs)) ∙ append-nil (epochs_of bar s.mail.openings))
        go false e = rw e (ap (epochs_of bar) (append-nil s.mail.openings))

        said_none : (test : Msg → Bool) (b : Bool) → have_all_come setup.procs state ≡ b → epochs_said bar (filter test (opening_messages setup me arrives other)) ≡ []
        said_none test true e = rw e (sent_of_other arrives bar other ne state test (range_with_len 0 setup.procs))
        said_none test false e = rw e refl

    here_stays : have_all_come setup.procs state ≡ false → Stays other.0 s (effect_of_openings setup me arrives other)
    here_stays e = record {
      opened = ap (λ (b : BarrierState). b.opened) (if_same other.0 _ state) ∙ rw e opened_is;
      mail = rw e (ap (epochs_of other.0) (append-nil s.mail.openings));
      sends = λ test. rw e refl;
    }

    here_opens : have_all_come setup.procs state ≡ true → Opens setup me other.0 s (effect_of_openings setup me arrives other)
    here_opens e = record {
      opened = ap (λ (b : BarrierState). b.opened) (if_same other.0 _ state) ∙ rw e (ap (λ n. n + 1) opened_is);
      own = epochs_of other.0 (map own_opening (filter (is_to me) (openings_of setup.procs other state)));
      mail = rw e (epochs_append other.0 s.mail.openings _);
      own_is = λ lt. ap (λ n. is_in (n + 1) (epochs_of other.0 (map own_opening (filter (is_to me) (openings_of setup.procs other state))))) (sym opened_is)
          ∙ own_there arrives other state (range_with_len 0 setup.procs) (in_procs setup me lt);
      own_all = all_weaker _ _ (λ epoch k. k ∙ ap (λ n. n + 1) opened_is) _ (own_next arrives other state (range_with_len 0 setup.procs));
      sent_is = λ r lt ne. rw e (ap (λ n. is_in (n + 1) (epochs_said other.0 (filter (goes me r) (map (opening_message me arrives) (filter (λ one. not (is_to me one)) (openings_of setup.procs other state)))))) (sym opened_is)
          ∙ sent_there arrives other state r ne (range_with_len 0 setup.procs) (in_procs setup r lt));
      sent_all = λ test. rw e (all_weaker _ _ (λ epoch k. k ∙ ap (λ n. n + 1) opened_is) _ (sent_next arrives other state test (range_with_len 0 setup.procs)));
      from_me = λ a b ne. none_from_other arrives other state a b ne (filter (λ one. not (is_to me one)) (openings_now setup arrives other));
    }

    here : Stays other.0 s (effect_of_openings setup me arrives other) ⊎ Opens setup me other.0 s (effect_of_openings setup me arrives other)
    here = go (have_all_come setup.procs state) refl
      where
        go : (b : Bool) → have_all_come setup.procs state ≡ b → Stays other.0 s (effect_of_openings setup me arrives other) ⊎ Opens setup me other.0 s (effect_of_openings setup me arrives other)
        go true e = inr (here_opens e)
        go false e = inl (here_stays e)

  nothing_stays : (s : Processor S) (bar : ℕ) → Stays bar s (only s [])
  nothing_stays s bar = record { opened = refl; mail = refl; sends = λ test. refl }

  -- A body that is no opening.
  abbrev Done : ℕ → Processor S → Body → Effect S → Type 0
  Done bar s body effect = Stays bar s effect ⊎ (MayOpen bar body × Opens setup me bar s effect)

  counted_done : (s : Processor S) (from turn bar : ℕ) (body : Body) → IsNoOpening body → Done bar s body (effect_of setup me s from turn body)
  counted_done s from turn bar (Body.Req lock mode version) is =
      let queued : Processor S = with_request s from turn lock mode version in
      inl record { opened = refl; mail = refl; sends = λ test. grants_say queued lock bar test (filter (λ one. not (is_of me one)) (grants_of (queued.locks lock.0))) }
  counted_done s from turn bar (Body.Release lock mode version lines) is =
      let queued : Processor S = with_release setup s from turn lock mode version lines in
      inl record { opened = refl; mail = refl; sends = λ test. grants_say queued lock bar test (filter (λ one. not (is_of me one)) (grants_of (queued.locks lock.0))) }
  counted_done s from turn bar (Body.Arrive other epoch lines) is = elim (eqb_tells other.0 bar) [
    | inl (_, i) ↦ subst (λ b. Done b s (Body.Arrive other epoch lines) (effect_of_openings setup me (with_arrived s from turn other lines) other)) i (either (here s from turn other lines))
    | inr (t, _) ↦ inl (all_stay s from turn other lines bar t)
  ]
    where
      either : Stays other.0 s (effect_of_openings setup me (with_arrived s from turn other lines) other) ⊎ Opens setup me other.0 s (effect_of_openings setup me (with_arrived s from turn other lines) other) →
          Done other.0 s (Body.Arrive other epoch lines) (effect_of_openings setup me (with_arrived s from turn other lines) other)
      either (inl stays) = inl stays
      either (inr opens) = inr (refl, opens)
  counted_done s from turn bar (Body.Opened other epoch lines) is = absurd is
  counted_done s from turn bar _ is = inl record { opened = refl; mail = refl; sends = λ test. refl }

  body_done : (s : Processor S) (from turn bar : ℕ) (body : Body) → IsNoOpening body → Done bar s body (effect_of_body setup me s from turn body)
  body_done s from turn bar body is = go (counts s from turn body) refl
    where
      go : (b : Bool) → counts s from turn body ≡ b → Done bar s body (effect_of_body setup me s from turn body)
      go true e = rw e (counted_done s from turn bar body is)
      go false e = rw e (inl (nothing_stays s bar))

  -- What a turn tells.
  abbrev Told : ℕ → Processor S → Option Body → Effect S → Type 0
  Told bar s body effect = Stays bar s effect ⊎ (MayOpenTold setup me bar body × Opens setup me bar s effect)

  told_done : (s : Processor S) (bar : ℕ) (body : Option Body) → IsNoneTold body → Told bar s body (effect_of_telling setup me s body)
  told_done s bar None is = inl (nothing_stays s bar)
  told_done s bar (Some body) is = to_keeper (keeper_of setup body) refl
    where
      sent : (keeper : ℕ) (test : Msg → Bool) → epochs_said bar (filter test (message me s keeper body ∷ [])) ≡ []
      sent keeper test = go (test (message me s keeper body)) refl
        where
          go : (b : Bool) → test (message me s keeper body) ≡ b → epochs_said bar (filter test (message me s keeper body ∷ [])) ≡ []
          go true e = rw e (ap (λ xs. xs ++ []) (no_epochs bar body is))
          go false e = rw e refl

      to_keeper : (keeper : Option ℕ) → keeper_of setup body ≡ keeper → Told bar s (Some body) (effect_of_telling_to setup me s body keeper)
      to_keeper None k = inl (nothing_stays s bar)
      to_keeper (Some keeper) k = go (keeper == me) refl
        where
          done : Done bar s body (effect_of_body setup me s me s.own.turns body) → keeper ≡ me → Told bar s (Some body) (effect_of_body setup me s me s.own.turns body)
          done (inl stays) i = inl stays
          done (inr both) i = inr ((both.0, k ∙ ap Some i), both.1)

          go : (b : Bool) → (keeper == me) ≡ b → Told bar s (Some body) (effect_of_telling_to setup me s body (Some keeper))
          go true e = rw e (done (body_done s me s.own.turns bar body is) (same_numbers keeper me e))
          go false e = rw e (inl record { opened = refl; mail = refl; sends = sent keeper })

-- what a turn tells is no opening
none_told : {S : Type 0} (setup : Setup) (me : ℕ) (own : Own S) (label : Label) → IsNoneTold (body_of setup own label)
none_told setup me own (Label.Ask lock mode) = tt
none_told setup me own (Label.Give lock) = gives (own.held lock.0)
  where
    gives : (o : Option Mode) → IsNoneTold (release_of setup own lock o)
    gives None = tt
    gives (Some Mode.Shared) = tt
    gives (Some Mode.Excl) = tt
none_told setup me own (Label.Arrive bar) = tt
none_told setup me own _ = tt

-- only an arrival at a barrier may open it
opens_by : {S : Type 0} (setup : Setup) (me bar : ℕ) (own : Own S) (label : Label) → MayOpenTold setup me bar (body_of setup own label) → (goes_over bar label ≡ false) × (manager_of setup bar ≡ me)
opens_by setup me bar own (Label.Arrive reached) may = (refl, ap (manager_of setup) (sym may.0) ∙ some_same (manager_of setup reached.0) me may.1)
  where
    some_same : (a b : ℕ) → Some a ≡ Some b → a ≡ b
    some_same a b e = cc
opens_by setup me bar own (Label.Ask lock mode) may = absurd may.0
opens_by setup me bar own (Label.Give lock) may = absurd (gives (own.held lock.0) may)
  where
    gives : (o : Option Mode) → MayOpenTold setup me bar (release_of setup own lock o) → ⊥
    gives None may = may
    gives (Some Mode.Shared) may = may.0
    gives (Some Mode.Excl) may = may.0
opens_by setup me bar own _ may = absurd may

is_in_left : (n : ℕ) (xs ys : List ℕ) → is_in n xs ≡ true → is_in n (xs ++ ys) ≡ true
is_in_left n xs ys is = list_any-append (λ m. m == n) xs ys ∙ rw is refl

is_in_right : (n : ℕ) (xs ys : List ℕ) → is_in n ys ≡ true → is_in n (xs ++ ys) ≡ true
is_in_right n xs ys is = list_any-append (λ m. m == n) xs ys ∙ rw is (either (is_in n xs))
  where
    either : (b : Bool) → (b || true) ≡ true
    either b = grind arith

all_left : (P : ℕ → Type 0) (xs ys : List ℕ) → AllByRecursion P (xs ++ ys) → AllByRecursion P xs
all_left P [] ys h = tt
all_left P (x ∷ xs) ys h = (h.0, all_left P xs ys h.1)

all_right : (P : ℕ → Type 0) (xs ys : List ℕ) → AllByRecursion P (xs ++ ys) → AllByRecursion P ys
all_right P [] ys h = h
all_right P (x ∷ xs) ys h = all_right P xs ys h.1

none_left : (xs ys : List ℕ) → xs ++ ys ≡ [] → (xs ≡ []) × (ys ≡ [])
none_left [] ys e = (refl, e)
none_left (x ∷ xs) ys e = (cc, cc)

module _ {S : Type 0} (setup : Setup) (first : ℕ → S) (threads : Semantics S) (ask_first : AllAskFirst setup first threads) where
  abbrev opened_at : World S → ℕ → ℕ
  opened_at w bar = ((w.processors (manager_of setup bar)).barriers bar).opened

  -- the openings that there are for q
  abbrev epochs_for : World S → ℕ → ℕ → List ℕ
  epochs_for w bar q = epochs_of bar (w.processors q).mail.openings ++ epochs_said bar (w.channels (manager_of setup bar) q)

  record IsPlaced (w : World S) (bar q : ℕ) : Type 0 where
    no_more : crossed_of (w.courses q) bar ≤ opened_at w bar
    is_there : crossed_of (w.courses q) bar < opened_at w bar → is_in (crossed_of (w.courses q) bar + 1) (epochs_for w bar q) ≡ true
    none_later : AllByRecursion (λ epoch. epoch ≤ opened_at w bar) (epochs_for w bar q)

  record ArePlaced (w : World S) : Type 0 where
    each : (bar q : ℕ) → q < setup.procs → IsPlaced w bar q
    by_manager : (bar a b : ℕ) → (a == manager_of setup bar) ≡ false → epochs_said bar (w.channels a b) ≡ []

  start_placed : ArePlaced (start_world setup first threads ask_first (HasHistory setup first threads))
  start_placed = record {
    each = λ bar q lt. record { no_more = omega arith; is_there = λ lt. absurd (omega arith); none_later = tt };
    by_manager = λ bar a b ne. refl;
  }

  -- where nothing changes
  kept : (w now : World S) (bar q : ℕ) → opened_at now bar ≡ opened_at w bar → crossed_of (now.courses q) bar ≡ crossed_of (w.courses q) bar → epochs_for now bar q ≡ epochs_for w bar q → IsPlaced w bar q → IsPlaced now bar q
  kept w now bar q o c e is = record {
    no_more = let k = is.no_more in omega (arith, o, c);
    is_there = λ lt. ap₂ (λ n xs. is_in (n + 1) xs) c e ∙ is.is_there (omega (arith, o, c, lt));
    none_later = subst (λ xs. AllByRecursion (λ epoch. epoch ≤ opened_at now bar) xs) (sym e) (all_weaker _ _ (λ epoch k. omega (arith, k, o)) (epochs_for w bar q) is.none_later);
  }

  -- where the barrier has opened once more, which all have come for
  opens_now : (w now : World S) (bar q arrivals : ℕ) → opened_at now bar ≡ opened_at w bar + 1 → crossed_of (now.courses q) bar ≡ crossed_of (w.courses q) bar → opened_at now bar ≤ arrivals → arrivals ≤ crossed_of (now.courses q) bar + 1 →
      is_in (opened_at w bar + 1) (epochs_for now bar q) ≡ true → AllByRecursion (λ epoch. epoch ≤ opened_at w bar + 1) (epochs_for now bar q) → IsPlaced w bar q → IsPlaced now bar q
  opens_now w now bar q arrivals o c early late there all is = record {
    no_more = let k = is.no_more in omega (arith, o, c);
    is_there = λ lt. ap (λ n. is_in n (epochs_for now bar q)) (let k = is.no_more in omega (arith, o, c, early, late, lt)) ∙ there;
    none_later = all_weaker _ _ (λ epoch k. omega (arith, k, o)) (epochs_for now bar q) all;
  }

  -- nobody has come to a barrier more than once more than it has crossed it
  late_by_one : (run : List Turn) (p bar : ℕ) → IsInStep threads (after_run first threads run) p bar → arrived_of (labels_of p run) bar ≤ crossed_of (labels_of p run) bar + 1
  late_by_one run p bar step =
      at_most (wants_cross bar (threads.want ((after_run first threads run).threads p))) (arrived_of (labels_of p run) bar) (crossed_of (labels_of p run) bar)
      (ap (λ f. f bar) (sym (own_arrived first threads run p)) ∙ step ∙ ap (λ n. if wants_cross bar (threads.want ((after_run first threads run).threads p)) then n + 1 else n) (ap (λ f. f bar) (own_crossed first threads run p)))
    where
      at_most : (b : Bool) (a c : ℕ) → a ≡ (if b then c + 1 else c) → a ≤ c + 1
      at_most b a c e = grind arith

  weaken : (n : ℕ) (xs : List ℕ) → AllByRecursion (λ epoch. epoch ≡ n) xs → AllByRecursion (λ epoch. epoch ≤ n) xs
  weaken n xs all = all_weaker _ _ (λ epoch k. omega (arith, k)) xs all

  more_allowed : (n : ℕ) (xs : List ℕ) → AllByRecursion (λ epoch. epoch ≤ n) xs → AllByRecursion (λ epoch. epoch ≤ n + 1) xs
  more_allowed n xs all = all_weaker _ _ (λ epoch k. omega (arith, k)) xs all

  module _ (w : World S) (steps : List Step) (h : IsReached setup first threads w) (is : HasHistory setup first threads w steps) (placed : ArePlaced w) where
    abbrev run : List Turn
    run = turns_of steps

    -- A turn.

    module _ (p : ℕ) (lt : p < setup.procs) (turn : OwnTurn) (own : IsOwnTurn setup threads p (w.processors p) turn) where
      abbrev s : Processor S
      s = w.processors p

      abbrev moved : Processor S
      moved = processor_after setup threads s turn

      abbrev told : Effect S
      told = effect_of_telling setup p moved (body_of setup s.own turn.label)

      abbrev after : World S
      after = after_turn setup first threads w h p turn.label told.processor told.sends

      abbrev plain : PlainState S
      plain = after_run first threads run

      plain_label : plain_turn setup threads plain p ≡ Some turn.label
      plain_label = (is_turn setup first threads ask_first w steps h is p lt turn own).is_label

      module _ (after_is : HasHistory setup first threads after (record { proc = p; turn = turn } ∷ steps)) (bar : ℕ) where
        abbrev m : ℕ
        m = manager_of setup bar

        tells : Told setup p bar moved (body_of setup s.own turn.label) told
        tells = told_done setup p moved bar (body_of setup s.own turn.label) (none_told setup p s.own turn.label)

        channel_now : (a q : ℕ) → epochs_said bar (after.channels a q) ≡ epochs_said bar (w.channels a q) ++ epochs_said bar (filter (goes a q) told.sends)
        channel_now a q = said_append bar (w.channels a q) (filter (goes a q) told.sends)

        courses_other : (q : ℕ) → (q == p) ≡ false → after.courses q ≡ w.courses q
        courses_other q ne = apart_same w.courses p q (turn.label ∷ w.courses p) ne

        courses_own : after.courses p ≡ turn.label ∷ w.courses p
        courses_own = if_same p (turn.label ∷ w.courses p) (w.courses p)

        crossed_still : goes_over bar turn.label ≡ false → (q : ℕ) → crossed_of (after.courses q) bar ≡ crossed_of (w.courses q) bar
        crossed_still none q = elim (eqb_tells q p) [
          | inl (_, i) ↦ subst (λ r. crossed_of (after.courses r) bar ≡ crossed_of (w.courses r) bar) (sym i) (ap (λ c. crossed_of c bar) courses_own ∙ stays turn.label none)
          | inr (t, _) ↦ ap (λ c. crossed_of c bar) (courses_other q t)
        ]
          where
            stays : (label : Label) → goes_over bar label ≡ false → crossed_of (label ∷ w.courses p) bar ≡ crossed_of (w.courses p) bar
            stays (Label.Cross crossed epoch) none = rw (turned_false bar crossed.0 none) refl
            stays label none = refl

        mail_moved : AllByRecursion (λ epoch. epoch ≤ opened_at w bar) (epochs_of bar moved.mail.openings)
        mail_moved = epochs_filter (λ epoch. epoch ≤ opened_at w bar) (λ (opening : MailOpening). nat_lt (s.own.turns + 1) opening.turn) bar s.mail.openings
            (all_left _ (epochs_of bar s.mail.openings) (epochs_said bar (w.channels m p)) (placed.each bar p lt).none_later)

        -- no opening is made
        module _ (stays : Stays bar moved told) where
          opened_same : opened_at after bar ≡ opened_at w bar
          opened_same = elim (eqb_tells m p) [
            | inl (_, i) ↦ ap (λ r. ((after.processors r).barriers bar).opened) i ∙ ap (λ (x : Processor S). (x.barriers bar).opened) (if_same p told.processor s)
                ∙ stays.opened ∙ ap (λ r. ((w.processors r).barriers bar).opened) (sym i)
            | inr (t, _) ↦ ap (λ (x : Processor S). (x.barriers bar).opened) (apart_same w.processors p m told.processor t)
          ]

          said_same : (a q : ℕ) → epochs_said bar (after.channels a q) ≡ epochs_said bar (w.channels a q)
          said_same a q = channel_now a q ∙ ap (λ xs. epochs_said bar (w.channels a q) ++ xs) (stays.sends (goes a q)) ∙ append-nil (epochs_said bar (w.channels a q))

          other_kept : (q : ℕ) → (q == p) ≡ false → q < setup.procs → IsPlaced after bar q
          other_kept q ne less = kept w after bar q opened_same (ap (λ c. crossed_of c bar) (courses_other q ne))
              (ap₂ (λ (x : Processor S) ys. epochs_of bar x.mail.openings ++ ys) (apart_same w.processors p q told.processor ne) (said_same m q)) (placed.each bar q less)

          own_epochs : epochs_for after bar p ≡ epochs_of bar moved.mail.openings ++ epochs_said bar (w.channels m p)
          own_epochs = ap₂ (λ (x : Processor S) ys. epochs_of bar x.mail.openings ++ ys) (if_same p told.processor s) (said_same m p) ∙ ap (λ xs. xs ++ epochs_said bar (w.channels m p)) stays.mail

          own_later : AllByRecursion (λ epoch. epoch ≤ opened_at after bar) (epochs_for after bar p)
          own_later = subst (λ xs. AllByRecursion (λ epoch. epoch ≤ opened_at after bar) xs) (sym own_epochs) (all_weaker _ _ (λ epoch k. omega (arith, k, opened_same)) _
              (all_append _ (epochs_of bar moved.mail.openings) (epochs_said bar (w.channels m p)) mail_moved
              (all_right _ (epochs_of bar s.mail.openings) (epochs_said bar (w.channels m p)) (placed.each bar p lt).none_later)))

          early : opened_at w bar ≤ arrived_of (labels_of p run) bar
          early = ((is.truths m).barriers bar).no_early p lt

          step : IsInStep threads plain p bar
          step = in_step setup first threads ask_first run is.is_run p lt bar

          crossed_is : crossed_of (w.courses p) bar ≡ crossed_of (labels_of p run) bar
          crossed_is = ap (λ c. crossed_of c bar) (is.courses p)

          own_placed : (b : Bool) → goes_over bar turn.label ≡ b → IsPlaced after bar p
          own_placed false none = record {
            no_more = let k = (placed.each bar p lt).no_more in let c = crossed_still none p in omega (arith, opened_same);
            is_there = λ less. absurd (let c = crossed_still none p in let a = settled in omega (arith, opened_same, early, crossed_is, less));
            none_later = own_later;
          }
            where
              not_wanted : wants_cross bar (threads.want (plain.threads p)) ≡ false
              not_wanted = crosses_as_wanted setup plain p _ _ turn.label plain_label bar ∙ none

              settled : arrived_of (labels_of p run) bar ≡ crossed_of (labels_of p run) bar
              settled = ap (λ f. f bar) (sym (own_arrived first threads run p)) ∙ step ∙ rw not_wanted (ap (λ f. f bar) (own_crossed first threads run p))
          own_placed true over = record {
            no_more = let c = crossed_next in let f = found in omega (arith, opened_same);
            is_there = λ less. absurd (let c = crossed_next in let l = late_by_one run p bar step in omega (arith, opened_same, early, crossed_is, less));
            none_later = own_later;
          }
            where
              by_label : (label : Label) → turn.label ≡ label → goes_over bar label ≡ true → (reached : Bar) × (epoch : ℕ) × (reached.0 ≡ bar) × (turn.label ≡ Label.Cross reached epoch)
              by_label (Label.Cross reached epoch) l over = (reached, epoch, same_numbers reached.0 bar over, l)
              by_label _ l over = cc

              cross : (reached : Bar) × (epoch : ℕ) × (reached.0 ≡ bar) × (turn.label ≡ Label.Cross reached epoch)
              cross = by_label turn.label refl over

              found : crossed_of (w.courses p) bar + 1 ≤ opened_at w bar
              found =
                  let want = threads.want s.own.thread in
                  let wanted : want ≡ Want.Cross cross.0 = cross_of_label setup.bindings p (own_view s.own own.input.number) (threads.text s.own.thread) want cross.0 cross.1 (own.is_label ∙ ap Some cross.3) in
                  let by : IsOpened s cross.0 own.input = opened_by s cross.0 want own.input wanted own.is_input in
                  let all : AllByRecursion (λ epoch. epoch ≤ opened_at w bar) (epochs_of cross.0.0 s.mail.openings) =
                  subst (λ b. AllByRecursion (λ epoch. epoch ≤ opened_at w bar) (epochs_of b s.mail.openings)) (sym cross.2) (all_left _ (epochs_of bar s.mail.openings) (epochs_said bar (w.channels m p)) (placed.each bar p lt).none_later) in
                  let k : s.own.crossed cross.0.0 + 1 ≤ opened_at w bar = found_epoch (λ epoch. epoch ≤ opened_at w bar) cross.0.0 (s.own.crossed cross.0.0 + 1) s.mail.openings by.opening by.is_found all in
                  subst (λ n. n + 1 ≤ opened_at w bar) (ap (λ f. f cross.0.0) (is.owns p).crossed ∙ ap (crossed_of (labels_of p run)) cross.2 ∙ sym crossed_is) k

              crossed_next : crossed_of (after.courses p) bar ≡ crossed_of (w.courses p) bar + 1
              crossed_next =
                  let want = threads.want s.own.thread in
                  let labelled = own.is_label ∙ ap Some cross.3 in
                  let wanted : want ≡ Want.Cross cross.0 = cross_of_label setup.bindings p (own_view s.own own.input.number) (threads.text s.own.thread) want cross.0 cross.1 labelled in
                  let same : Label.Cross cross.0 cross.1 ≡ Label.Cross cross.0 (s.own.crossed cross.0.0 + 1) = want_of_cross setup.bindings p (own_view s.own own.input.number) (threads.text s.own.thread) want (Label.Cross cross.0 cross.1) labelled cross.0 wanted in
                  let number : cross.1 ≡ s.own.crossed cross.0.0 + 1 = cc in
                  ap (λ c. crossed_of c bar) (courses_own ∙ ap (λ l. l ∷ w.courses p) cross.3)
                  ∙ subst (λ b. update (crossed_of (w.courses p)) cross.0.0 cross.1 b ≡ cross.1) cross.2 (if_same cross.0.0 cross.1 (crossed_of (w.courses p) cross.0.0))
                  ∙ number ∙ ap (λ n. n + 1) (ap (λ f. f cross.0.0) (is.owns p).crossed ∙ ap (crossed_of (labels_of p run)) cross.2 ∙ sym crossed_is)

          stays_placed : (q : ℕ) → q < setup.procs → IsPlaced after bar q
          stays_placed q less = elim (eqb_tells q p) [
            | inl (_, i) ↦ subst (IsPlaced after bar) (sym i) (own_placed (goes_over bar turn.label) refl)
            | inr (t, _) ↦ other_kept q t less
          ]

        -- the barrier opens
        module _ (over : goes_over bar turn.label ≡ false) (manages : manager_of setup bar ≡ p) (opens : Opens setup p bar moved told) where
          opened_more : opened_at after bar ≡ opened_at w bar + 1
          opened_more =
              ap (λ r. ((after.processors r).barriers bar).opened) manages ∙ ap (λ (x : Processor S). (x.barriers bar).opened) (if_same p told.processor s)
              ∙ opens.opened ∙ ap (λ r. ((w.processors r).barriers bar).opened + 1) (sym manages)

          opened_moved : (moved.barriers bar).opened + 1 ≡ opened_at w bar + 1
          opened_moved = ap (λ r. ((w.processors r).barriers bar).opened + 1) (sym manages)

          next_all : (xs : List ℕ) → AllByRecursion (λ epoch. epoch ≡ (moved.barriers bar).opened + 1) xs → AllByRecursion (λ epoch. epoch ≤ opened_at w bar + 1) xs
          next_all xs all = all_weaker _ _ (λ epoch k. omega (arith, k, opened_moved)) xs all

          said_all : (q : ℕ) → AllByRecursion (λ epoch. epoch ≤ opened_at w bar) (epochs_said bar (w.channels m q)) → AllByRecursion (λ epoch. epoch ≤ opened_at w bar + 1) (epochs_said bar (after.channels m q))
          said_all q all = subst (λ xs. AllByRecursion (λ epoch. epoch ≤ opened_at w bar + 1) xs) (sym (channel_now m q))
              (all_append _ (epochs_said bar (w.channels m q)) (epochs_said bar (filter (goes m q) told.sends)) (more_allowed (opened_at w bar) _ all) (next_all _ (opens.sent_all (goes m q))))

          arrivals_late : (q : ℕ) → q < setup.procs → (opened_at after bar ≤ arrived_of (after.courses q) bar) × (arrived_of (after.courses q) bar ≤ crossed_of (after.courses q) bar + 1)
          arrivals_late q less = subst (λ c. (opened_at after bar ≤ arrived_of c bar) × (arrived_of c bar ≤ crossed_of c bar + 1)) (sym (after_is.courses q))
              (((after_is.truths m).barriers bar).no_early q less, late_by_one (record { proc = p; label = turn.label } ∷ run) q bar (in_step setup first threads ask_first (record { proc = p; label = turn.label } ∷ run) after_is.is_run q less bar))

          own_opens : IsPlaced after bar p
          own_opens = opens_now w after bar p (arrived_of (after.courses p) bar) opened_more (crossed_still over p) (arrivals_late p lt).0 (arrivals_late p lt).1
              (subst (λ xs. is_in (opened_at w bar + 1) xs ≡ true) (sym epochs_are) (is_in_left (opened_at w bar + 1) _ (epochs_said bar (after.channels m p))
              (is_in_right (opened_at w bar + 1) (epochs_of bar moved.mail.openings) opens.own (ap (λ n. is_in n opens.own) (sym opened_moved) ∙ opens.own_is lt))))
              (subst (λ xs. AllByRecursion (λ epoch. epoch ≤ opened_at w bar + 1) xs) (sym epochs_are)
              (all_append _ (epochs_of bar moved.mail.openings ++ opens.own) (epochs_said bar (after.channels m p))
              (all_append _ (epochs_of bar moved.mail.openings) opens.own (more_allowed (opened_at w bar) _ mail_moved) (next_all _ opens.own_all))
              (said_all p (all_right _ (epochs_of bar s.mail.openings) (epochs_said bar (w.channels m p)) (placed.each bar p lt).none_later))))
              (placed.each bar p lt)
            where
              epochs_are : epochs_for after bar p ≡ (epochs_of bar moved.mail.openings ++ opens.own) ++ epochs_said bar (after.channels m p)
              epochs_are = ap (λ xs. xs ++ epochs_said bar (after.channels m p)) (ap (λ (x : Processor S). epochs_of bar x.mail.openings) (if_same p told.processor s) ∙ opens.mail)

          other_opens : (q : ℕ) → (q == p) ≡ false → q < setup.procs → IsPlaced after bar q
          other_opens q ne less = opens_now w after bar q (arrived_of (after.courses q) bar) opened_more (crossed_still over q) (arrivals_late q less).0 (arrivals_late q less).1
              (is_in_right (opened_at w bar + 1) (epochs_of bar (after.processors q).mail.openings) (epochs_said bar (after.channels m q))
              (subst (λ xs. is_in (opened_at w bar + 1) xs ≡ true) (sym (channel_now m q)) (is_in_right (opened_at w bar + 1) (epochs_said bar (w.channels m q)) _
              (subst (λ r. is_in (opened_at w bar + 1) (epochs_said bar (filter (goes r q) told.sends)) ≡ true) (sym manages)
              (ap (λ n. is_in n (epochs_said bar (filter (goes p q) told.sends))) (sym opened_moved) ∙ opens.sent_is q less ne)))))
              (all_append _ (epochs_of bar (after.processors q).mail.openings) (epochs_said bar (after.channels m q))
              (more_allowed (opened_at w bar) _ (subst (λ (x : Processor S). AllByRecursion (λ epoch. epoch ≤ opened_at w bar) (epochs_of bar x.mail.openings)) (sym (mail_other ne)) (all_left _ (epochs_of bar (w.processors q).mail.openings) (epochs_said bar (w.channels m q)) (placed.each bar q less).none_later)))
              (said_all q (all_right _ (epochs_of bar (w.processors q).mail.openings) (epochs_said bar (w.channels m q)) (placed.each bar q less).none_later)))
              (placed.each bar q less)
            where
              mail_other : (q == p) ≡ false → after.processors q ≡ w.processors q
              mail_other ne = apart_same w.processors p q told.processor ne

          opens_placed : (q : ℕ) → q < setup.procs → IsPlaced after bar q
          opens_placed q less = elim (eqb_tells q p) [
            | inl (_, i) ↦ subst (IsPlaced after bar) (sym i) own_opens
            | inr (t, _) ↦ other_opens q t less
          ]

          opens_by_manager : (a b : ℕ) → (a == m) ≡ false → epochs_said bar (after.channels a b) ≡ []
          opens_by_manager a b ne = channel_now a b ∙ ap₂ (λ xs ys. xs ++ ys) (placed.by_manager bar a b ne) (opens.from_me a b (subst (λ r. (a == r) ≡ false) manages ne))

        turn_each : (q : ℕ) → q < setup.procs → IsPlaced after bar q
        turn_each = go tells
          where
            go : Told setup p bar moved (body_of setup s.own turn.label) told → (q : ℕ) → q < setup.procs → IsPlaced after bar q
            go (inl stays) = stays_placed stays
            go (inr both) = let by = opens_by setup p bar s.own turn.label both.0 in opens_placed by.0 by.1 both.1

        turn_by_manager : (a b : ℕ) → (a == m) ≡ false → epochs_said bar (after.channels a b) ≡ []
        turn_by_manager a b ne = go tells
          where
            go : Told setup p bar moved (body_of setup s.own turn.label) told → epochs_said bar (after.channels a b) ≡ []
            go (inl stays) = said_same stays a b ∙ placed.by_manager bar a b ne
            go (inr both) = let by = opens_by setup p bar s.own turn.label both.0 in opens_by_manager by.0 by.1 both.1 a b ne

      turn_placed : HasHistory setup first threads after (record { proc = p; turn = turn } ∷ steps) → ArePlaced after
      turn_placed after_is = record { each = λ bar q less. turn_each after_is bar q less; by_manager = λ bar a b ne. turn_by_manager after_is bar a b ne }

    -- A delivery.

    module _ (p q : ℕ) (ne : (p == q) ≡ false) (msg : Msg) (others : List Msg) (oldest : w.channels p q ≡ msg ∷ others) where
      abbrev heard : Processor S
      heard = with_carry (w.processors q) p msg.carry

      abbrev done : Body → Effect S
      done body = effect_of_body setup q heard p msg.carry.turn body

      abbrev delivered : Body → World S
      delivered body = after_delivery setup first threads w h p q msg.carry.turn others (done body).processor (done body).sends

      module _ (body : Body) (is_body : msg.body ≡ body) (after_is : HasHistory setup first threads (delivered body) steps) (bar : ℕ) where
        abbrev manager : ℕ
        manager = manager_of setup bar

        abbrev popped : ℕ → ℕ → List Msg
        popped a b = update_at w.channels p q others a b

        said_oldest : epochs_said bar (w.channels p q) ≡ epochs_in bar body ++ epochs_said bar others
        said_oldest = ap (epochs_said bar) oldest ∙ ap (λ b. epochs_in bar b ++ epochs_said bar others) is_body

        channel_then : (a b : ℕ) → epochs_said bar ((delivered body).channels a b) ≡ epochs_said bar (popped a b) ++ epochs_said bar (filter (goes a b) (done body).sends)
        channel_then a b = said_append bar (popped a b) (filter (goes a b) (done body).sends)

        popped_elsewhere : (a b : ℕ) → (a == p) ≡ false → popped a b ≡ w.channels a b
        popped_elsewhere a b apart = rw apart refl

        popped_to_other : (a b : ℕ) → (b == q) ≡ false → popped a b ≡ w.channels a b
        popped_to_other a b apart = elim (eqb_tells a p) [
          | inl (t, i) ↦ rw (t, apart) (ap (λ r. w.channels r b) (sym i))
          | inr (t, _) ↦ rw t refl
        ]

        -- where the message is no opening of the barrier, what is under way tells the same epochs
        module _ (none : epochs_in bar body ≡ []) where
          popped_same : (a b : ℕ) → epochs_said bar (popped a b) ≡ epochs_said bar (w.channels a b)
          popped_same a b = elim (eqb_tells a p) [
            | inl (t, i) ↦ elim (eqb_tells b q) [
              | inl (u, j) ↦ rw (t, u) (sym (ap₂ (λ x y. epochs_said bar (w.channels x y)) i j ∙ said_oldest ∙ ap (λ xs. xs ++ epochs_said bar others) none))
              | inr (u, _) ↦ ap (epochs_said bar) (popped_to_other a b u)
            ]
            | inr (t, _) ↦ ap (epochs_said bar) (popped_elsewhere a b t)
          ]

          module _ (stays : Stays bar heard (done body)) where
            said_still : (a b : ℕ) → epochs_said bar ((delivered body).channels a b) ≡ epochs_said bar (w.channels a b)
            said_still a b = channel_then a b ∙ ap₂ (λ xs ys. xs ++ ys) (popped_same a b) (stays.sends (goes a b)) ∙ append-nil (epochs_said bar (w.channels a b))

            opened_still : opened_at (delivered body) bar ≡ opened_at w bar
            opened_still = elim (eqb_tells manager q) [
              | inl (_, i) ↦ ap (λ r. (((delivered body).processors r).barriers bar).opened) i ∙ ap (λ (x : Processor S). (x.barriers bar).opened) (if_same q (done body).processor (w.processors q))
                  ∙ stays.opened ∙ ap (λ r. ((w.processors r).barriers bar).opened) (sym i)
              | inr (t, _) ↦ ap (λ (x : Processor S). (x.barriers bar).opened) (apart_same w.processors q manager (done body).processor t)
            ]

            mail_still : (r : ℕ) → epochs_of bar ((delivered body).processors r).mail.openings ≡ epochs_of bar (w.processors r).mail.openings
            mail_still r = elim (eqb_tells r q) [
              | inl (_, i) ↦ ap (λ x. epochs_of bar ((delivered body).processors x).mail.openings) i ∙ ap (λ (x : Processor S). epochs_of bar x.mail.openings) (if_same q (done body).processor (w.processors q))
                  ∙ stays.mail ∙ ap (λ x. epochs_of bar (w.processors x).mail.openings) (sym i)
              | inr (t, _) ↦ ap (λ (x : Processor S). epochs_of bar x.mail.openings) (apart_same w.processors q r (done body).processor t)
            ]

            still_placed : (r : ℕ) → r < setup.procs → IsPlaced (delivered body) bar r
            still_placed r less = kept w (delivered body) bar r opened_still refl (ap₂ (λ xs ys. xs ++ ys) (mail_still r) (said_still manager r)) (placed.each bar r less)

          module _ (manages : manager_of setup bar ≡ q) (opens : Opens setup q bar heard (done body)) where
            opened_then : opened_at (delivered body) bar ≡ opened_at w bar + 1
            opened_then =
                ap (λ r. (((delivered body).processors r).barriers bar).opened) manages ∙ ap (λ (x : Processor S). (x.barriers bar).opened) (if_same q (done body).processor (w.processors q))
                ∙ opens.opened ∙ ap (λ r. ((w.processors r).barriers bar).opened + 1) (sym manages)

            opened_heard : (heard.barriers bar).opened + 1 ≡ opened_at w bar + 1
            opened_heard = ap (λ r. ((w.processors r).barriers bar).opened + 1) (sym manages)

            due_all : (xs : List ℕ) → AllByRecursion (λ epoch. epoch ≡ (heard.barriers bar).opened + 1) xs → AllByRecursion (λ epoch. epoch ≤ opened_at w bar + 1) xs
            due_all xs all = all_weaker _ _ (λ epoch k. omega (arith, k, opened_heard)) xs all

            said_later : (r : ℕ) → r < setup.procs → AllByRecursion (λ epoch. epoch ≤ opened_at w bar + 1) (epochs_said bar ((delivered body).channels manager r))
            said_later r less = subst (λ xs. AllByRecursion (λ epoch. epoch ≤ opened_at w bar + 1) xs) (sym (channel_then manager r))
                (all_append _ (epochs_said bar (popped manager r)) (epochs_said bar (filter (goes manager r) (done body).sends))
                (more_allowed (opened_at w bar) _ (subst (λ xs. AllByRecursion (λ epoch. epoch ≤ opened_at w bar) xs) (sym (popped_same manager r)) (all_right _ (epochs_of bar (w.processors r).mail.openings) (epochs_said bar (w.channels manager r)) (placed.each bar r less).none_later)))
                (due_all _ (opens.sent_all (goes manager r))))

            mail_before : (r : ℕ) → r < setup.procs → AllByRecursion (λ epoch. epoch ≤ opened_at w bar + 1) (epochs_of bar (w.processors r).mail.openings)
            mail_before r less = more_allowed (opened_at w bar) _ (all_left _ (epochs_of bar (w.processors r).mail.openings) (epochs_said bar (w.channels manager r)) (placed.each bar r less).none_later)

            in_time : (r : ℕ) → r < setup.procs → (opened_at (delivered body) bar ≤ arrived_of (w.courses r) bar) × (arrived_of (w.courses r) bar ≤ crossed_of (w.courses r) bar + 1)
            in_time r less = subst (λ c. (opened_at (delivered body) bar ≤ arrived_of c bar) × (arrived_of c bar ≤ crossed_of c bar + 1)) (sym (is.courses r))
                (((after_is.truths manager).barriers bar).no_early r less, late_by_one run r bar (in_step setup first threads ask_first run is.is_run r less bar))

            manager_mail : epochs_of bar ((delivered body).processors q).mail.openings ≡ epochs_of bar (w.processors q).mail.openings ++ opens.own
            manager_mail = ap (λ (x : Processor S). epochs_of bar x.mail.openings) (if_same q (done body).processor (w.processors q)) ∙ opens.mail

            at_manager : q < setup.procs → IsPlaced (delivered body) bar q
            at_manager less = opens_now w (delivered body) bar q (arrived_of (w.courses q) bar) opened_then refl (in_time q less).0 (in_time q less).1
                (is_in_left (opened_at w bar + 1) _ (epochs_said bar ((delivered body).channels manager q))
                (subst (λ xs. is_in (opened_at w bar + 1) xs ≡ true) (sym manager_mail) (is_in_right (opened_at w bar + 1) (epochs_of bar (w.processors q).mail.openings) opens.own
                (ap (λ n. is_in n opens.own) (sym opened_heard) ∙ opens.own_is less))))
                (all_append _ (epochs_of bar ((delivered body).processors q).mail.openings) (epochs_said bar ((delivered body).channels manager q))
                (subst (λ xs. AllByRecursion (λ epoch. epoch ≤ opened_at w bar + 1) xs) (sym manager_mail) (all_append _ (epochs_of bar (w.processors q).mail.openings) opens.own (mail_before q less) (due_all _ opens.own_all)))
                (said_later q less))
                (placed.each bar q less)

            at_others : (r : ℕ) → (r == q) ≡ false → r < setup.procs → IsPlaced (delivered body) bar r
            at_others r apart less = opens_now w (delivered body) bar r (arrived_of (w.courses r) bar) opened_then refl (in_time r less).0 (in_time r less).1
                (is_in_right (opened_at w bar + 1) (epochs_of bar ((delivered body).processors r).mail.openings) (epochs_said bar ((delivered body).channels manager r))
                (subst (λ xs. is_in (opened_at w bar + 1) xs ≡ true) (sym (channel_then manager r)) (is_in_right (opened_at w bar + 1) (epochs_said bar (popped manager r)) _
                (subst (λ m. is_in (opened_at w bar + 1) (epochs_said bar (filter (goes m r) (done body).sends)) ≡ true) (sym manages)
                (ap (λ n. is_in n (epochs_said bar (filter (goes q r) (done body).sends))) (sym opened_heard) ∙ opens.sent_is r less apart)))))
                (all_append _ (epochs_of bar ((delivered body).processors r).mail.openings) (epochs_said bar ((delivered body).channels manager r))
                (subst (λ (x : Processor S). AllByRecursion (λ epoch. epoch ≤ opened_at w bar + 1) (epochs_of bar x.mail.openings)) (sym (processor_other apart)) (mail_before r less))
                (said_later r less))
                (placed.each bar r less)
              where
                processor_other : (r == q) ≡ false → (delivered body).processors r ≡ w.processors r
                processor_other apart = apart_same w.processors q r (done body).processor apart

            opened_placed : (r : ℕ) → r < setup.procs → IsPlaced (delivered body) bar r
            opened_placed r less = elim (eqb_tells r q) [
              | inl (_, i) ↦ subst (IsPlaced (delivered body) bar) (sym i) (at_manager (subst (λ x. x < setup.procs) i less))
              | inr (t, _) ↦ at_others r t less
            ]

            opened_by_manager : (a b : ℕ) → (a == manager) ≡ false → epochs_said bar ((delivered body).channels a b) ≡ []
            opened_by_manager a b apart = channel_then a b ∙ ap₂ (λ xs ys. xs ++ ys) (popped_same a b ∙ placed.by_manager bar a b apart) (opens.from_me a b (subst (λ m. (a == m) ≡ false) manages apart))

        -- what has come of a delivery
        record Comes : Type 0 where
          each : (r : ℕ) → r < setup.procs → IsPlaced (delivered body) bar r
          by_manager : (a b : ℕ) → (a == manager) ≡ false → epochs_said bar ((delivered body).channels a b) ≡ []

        comes_still : epochs_in bar body ≡ [] → Stays bar heard (done body) → Comes
        comes_still none stays = record { each = still_placed none stays; by_manager = λ a b apart. said_still none stays a b ∙ placed.by_manager bar a b apart }

        comes_opened : epochs_in bar body ≡ [] → manager_of setup bar ≡ q → Opens setup q bar heard (done body) → Comes
        comes_opened none manages opens = record { each = opened_placed none manages opens; by_manager = opened_by_manager none manages opens }

      -- the receiver of an arrival is the manager
      arrival_manager : (reached : Bar) (epoch : ℕ) (lines : List Line) → msg.body ≡ Body.Arrive reached epoch lines → manager_of setup reached.0 ≡ q
      arrival_manager reached epoch lines e =
          let told_it = told_came setup q (w.courses p) (w.handled q p) msg (arrived reached) others (subst (IsFlow setup q (w.courses p) (w.handled q p)) oldest (h.flows p q ne)) (ap (words_in msg.carry.turn) e) in
          by_word told_it.first.before told_it.first.label told_it.first.is_body (came_label setup q told_it.first.before told_it.first.label reached told_it.first.is_body)
        where
          by_word : (before : List Label) (label : Label) → word_for setup q before label ≡ Some (arrived reached) → label ≡ Label.Arrive reached → manager_of setup reached.0 ≡ q
          by_word before label word l = go (manager_of setup reached.0 == q) refl (ap (word_for setup q before) (sym l) ∙ word)
            where
              go : (b : Bool) → (manager_of setup reached.0 == q) ≡ b → word_for setup q before (Label.Arrive reached) ≡ Some (arrived reached) → manager_of setup reached.0 ≡ q
              go true i k = same_numbers (manager_of setup reached.0) q i
              go false i k = let n : None ≡ Some (arrived reached) = rw i at k in cc

      -- an opening comes from its manager, or is of another barrier
      opening_comes : (other : Bar) (epoch : ℕ) (lines : List Line) (e : msg.body ≡ Body.Opened other epoch lines) (after_is : HasHistory setup first threads (delivered (Body.Opened other epoch lines)) steps) (bar : ℕ) → Comes (Body.Opened other epoch lines) e after_is bar
      opening_comes other epoch lines e after_is bar = record {
        each = λ r less. kept w now bar r opened_same refl (epochs_same r) (placed.each bar r less);
        by_manager = λ a b apart. said_then a b ∙ by_other a b apart;
      }
        where
          now : World S
          now = delivered (Body.Opened other epoch lines)

          more : List ℕ
          more = epochs_in bar (Body.Opened other epoch lines)

          said_then : (a b : ℕ) → epochs_said bar (now.channels a b) ≡ epochs_said bar (update_at w.channels p q others a b)
          said_then a b = ap (epochs_said bar) (append-nil (update_at w.channels p q others a b))

          opened_same : opened_at now bar ≡ opened_at w bar
          opened_same = elim (eqb_tells (manager_of setup bar) q) [
            | inl (_, i) ↦ ap (λ r. ((now.processors r).barriers bar).opened) i
                ∙ ap (λ (x : Processor S). (x.barriers bar).opened) (if_same q (done (Body.Opened other epoch lines)).processor (w.processors q)) ∙ ap (λ r. ((w.processors r).barriers bar).opened) (sym i)
            | inr (t, _) ↦ ap (λ (x : Processor S). (x.barriers bar).opened) (apart_same w.processors q (manager_of setup bar) (done (Body.Opened other epoch lines)).processor t)
          ]

          said_before : epochs_said bar (w.channels p q) ≡ more ++ epochs_said bar others
          said_before = said_oldest (Body.Opened other epoch lines) e after_is bar

          mail_then : epochs_of bar (now.processors q).mail.openings ≡ epochs_of bar (w.processors q).mail.openings ++ more
          mail_then = ap (λ (x : Processor S). epochs_of bar x.mail.openings) (if_same q (done (Body.Opened other epoch lines)).processor (w.processors q)) ∙ epochs_append bar (w.processors q).mail.openings _

          epochs_same : (r : ℕ) → epochs_for now bar r ≡ epochs_for w bar r
          epochs_same r = elim (eqb_tells r q) [
            | inl (_, i) ↦ subst (λ x. epochs_for now bar x ≡ epochs_for w bar x) (sym i) here
            | inr (t, _) ↦ ap₂ (λ (x : Processor S) ys. epochs_of bar x.mail.openings ++ ys) (apart_same w.processors q r (done (Body.Opened other epoch lines)).processor t) (said_then (manager_of setup bar) r ∙ ap (epochs_said bar) (popped_to_other (Body.Opened other epoch lines) e after_is bar (manager_of setup bar) r t))
          ]
            where
              here : epochs_for now bar q ≡ epochs_for w bar q
              here = elim (eqb_tells (manager_of setup bar) p) [
                | inl (_, i) ↦
                    ap₂ (λ xs ys. xs ++ ys) mail_then (said_then (manager_of setup bar) q ∙ ap (λ a. epochs_said bar (update_at w.channels p q others a q)) i ∙ ap (epochs_said bar) (popped_here w.channels))
                    ∙ append_assoc (epochs_of bar (w.processors q).mail.openings) more (epochs_said bar others)
                    ∙ ap (λ xs. epochs_of bar (w.processors q).mail.openings ++ xs) (sym said_before ∙ ap (λ a. epochs_said bar (w.channels a q)) (sym i))
                | inr (t, _) ↦
                    ap₂ (λ xs ys. xs ++ ys) (mail_then ∙ ap (λ xs. epochs_of bar (w.processors q).mail.openings ++ xs) (none_of_it t) ∙ append-nil (epochs_of bar (w.processors q).mail.openings))
                    (said_then (manager_of setup bar) q ∙ ap (epochs_said bar) (popped_elsewhere (Body.Opened other epoch lines) e after_is bar (manager_of setup bar) q t))
              ]
                where
                  popped_here : (channels : ℕ → ℕ → List Msg) → update_at channels p q others p q ≡ others
                  popped_here channels = ap (λ f. f q) (if_same p (update (channels p) q others) (channels p)) ∙ if_same q others (channels p q)

                  none_of_it : (manager_of setup bar == p) ≡ false → more ≡ []
                  none_of_it t = (none_left more (epochs_said bar others) (sym said_before ∙ placed.by_manager bar p q (turned_false p (manager_of setup bar) t))).0

          by_other : (a b : ℕ) → (a == manager_of setup bar) ≡ false → epochs_said bar (update_at w.channels p q others a b) ≡ []
          by_other a b apart = elim (eqb_tells a p) [
            | inl (t, i) ↦ elim (eqb_tells b q) [
              | inl (u, j) ↦ rw (t, u) (none_left more (epochs_said bar others) (sym said_before ∙ placed.by_manager bar p q (subst (λ x. (x == manager_of setup bar) ≡ false) i apart))).1
              | inr (u, _) ↦ ap (epochs_said bar) (popped_to_other (Body.Opened other epoch lines) e after_is bar a b u) ∙ placed.by_manager bar a b apart
            ]
            | inr (t, _) ↦ ap (epochs_said bar) (popped_elsewhere (Body.Opened other epoch lines) e after_is bar a b t) ∙ placed.by_manager bar a b apart
          ]

      body_comes : (body : Body) (e : msg.body ≡ body) (after_is : HasHistory setup first threads (delivered body) steps) (bar : ℕ) → Comes body e after_is bar
      body_comes (Body.Opened other epoch lines) e after_is bar = opening_comes other epoch lines e after_is bar
      body_comes (Body.Arrive reached epoch lines) e after_is bar = go (body_done setup q heard p msg.carry.turn bar (Body.Arrive reached epoch lines) tt)
        where
          go : Done setup q bar heard (Body.Arrive reached epoch lines) (done (Body.Arrive reached epoch lines)) → Comes (Body.Arrive reached epoch lines) e after_is bar
          go (inl stays) = comes_still (Body.Arrive reached epoch lines) e after_is bar refl stays
          go (inr both) = comes_opened (Body.Arrive reached epoch lines) e after_is bar refl (ap (manager_of setup) (sym both.0) ∙ arrival_manager reached epoch lines e) both.1
      body_comes (Body.Req lock mode version) e after_is bar = go (body_done setup q heard p msg.carry.turn bar (Body.Req lock mode version) tt)
        where
          go : Done setup q bar heard (Body.Req lock mode version) (done (Body.Req lock mode version)) → Comes (Body.Req lock mode version) e after_is bar
          go (inl stays) = comes_still (Body.Req lock mode version) e after_is bar refl stays
          go (inr both) = absurd both.0
      body_comes (Body.Release lock mode version lines) e after_is bar = go (body_done setup q heard p msg.carry.turn bar (Body.Release lock mode version lines) tt)
        where
          go : Done setup q bar heard (Body.Release lock mode version lines) (done (Body.Release lock mode version lines)) → Comes (Body.Release lock mode version lines) e after_is bar
          go (inl stays) = comes_still (Body.Release lock mode version lines) e after_is bar refl stays
          go (inr both) = absurd both.0
      body_comes body e after_is bar = comes_still body e after_is bar refl record { opened = refl; mail = refl; sends = λ test. refl }

      delivery_placed : HasHistory setup first threads (delivered msg.body) steps → ArePlaced (delivered msg.body)
      delivery_placed after_is = record {
        each = λ bar r less. (body_comes msg.body refl after_is bar).each r less;
        by_manager = λ bar a b apart. (body_comes msg.body refl after_is bar).by_manager a b apart;
      }

  -- After all units.

  record Has (w : World S) (steps : List Step) : Type 0 where
    history_is : HasHistory setup first threads w steps
    placed : ArePlaced w

  has_placed : Keeps setup first threads ask_first Has
  has_placed = record {
    start = record { history_is = (has_history setup first threads ask_first).start; placed = start_placed };
    turn = λ w steps h p lt turn own is. (
        let now = (has_history setup first threads ask_first).turn w steps h p lt turn own is.history_is in
        record { history_is = now; placed = turn_placed w steps h is.history_is is.placed p lt turn own now });
    delivery = λ w steps h p q ne msg others oldest is. (
        let now = (has_history setup first threads ask_first).delivery w steps h p q ne msg others oldest is.history_is in
        record { history_is = now; placed = delivery_placed w steps h is.history_is is.placed p q ne msg others oldest now });
  }

  module _ (acts : List Act) (trace : List Group) (fits : FitsUnits setup first threads acts trace) (within : AreWithin setup acts) where
    abbrev net : Net S
    net = (run_of setup first threads fits.done).net

    holds : Holds setup first threads ask_first Has net (steps_of trace)
    holds = trace_holds setup first threads ask_first Has has_placed acts trace fits within

    same_some : (a b : Processor S) → Some a ≡ Some b → a ≡ b
    same_some a b e = cc

    pub openings_are_in_place : OpeningsAreInPlace setup (history trace) net
    openings_are_in_place bar q m s less at_m at_q =
        let world : World S = holds.world in
        let manager : ℕ = manager_of setup bar in
        let it : IsPlaced world bar q = holds.kept.placed.each bar q less in
        let course : world.courses q ≡ labels_of q (history trace) = holds.kept.history_is.courses q ∙ ap (labels_of q) (steps_are trace) in
        let m_is : world.processors manager ≡ m = same_some (world.processors manager) m (sym (holds.is_net.up manager) ∙ at_m) in
        let s_is : world.processors q ≡ s = same_some (world.processors q) s (sym (holds.is_net.up q) ∙ at_q) in
        let in_place : IsInPlace (history trace) bar q (opened_at world bar) (epochs_for world bar q) = record {
          no_more = subst (λ c. crossed_of c bar ≤ opened_at world bar) course it.no_more;
          is_there = subst (λ c. crossed_of c bar < opened_at world bar → is_in (crossed_of c bar + 1) (epochs_for world bar q) ≡ true) course it.is_there;
        } in
        subst (λ msgs. IsInPlace (history trace) bar q (m.barriers bar).opened (epochs_of bar s.mail.openings ++ epochs_said bar msgs)) (sym (holds.is_net.under_way manager q))
        (subst (λ (x : Processor S). IsInPlace (history trace) bar q (m.barriers bar).opened (epochs_of bar x.mail.openings ++ epochs_said bar (world.channels manager q))) s_is
        (subst (λ (x : Processor S). IsInPlace (history trace) bar q (x.barriers bar).opened (epochs_for world bar q)) m_is in_place))
