-- What a processor does with a body, or tells in a turn, is true where what it had and heard is.
use Rattle.std.specs.Prelude.{◌≡◌, ℕ, ◌+◌, ◌-◌, ◌<◌, Bool, true, false, ◌&&◌, ◌==◌, not, if◌then◌else◌, nat_lt, List, [], ◌∷◌, ◌++◌, map, filter, length, drop, Option, Some, None}
use Rattle.std.specs.List.{range_with_len, AllByRecursion}
use Rattle.std.proofs.Common.{arith, refl, sym, ap, ap₂, ◌∙◌, subst, inl, inr, true≢false}
use Rattle.std.proofs.lemmas.Bool.Decides.{eqb_tells}
use Rattle.dsm_base.specs.declared.names.Bar.{Bar}
use Rattle.dsm_base.specs.declared.names.Lock.{Lock}
use Rattle.dsm_base.specs.declared.names.Mode.{Mode}
use Rattle.dsm_base.specs.declared.holders.Holder.{Holder}
use Rattle.dsm_base.specs.declared.setup.Setup.{Setup}
use Rattle.dsm_base.specs.Access.{piece_of}
use Rattle.dsm_base.specs.Family.{update}
use Rattle.dsm_base.specs.Threads.{Semantics}
use Rattle.dsm_base.specs.Plain.{Turn}
use Rattle.dsm_base.proofs.Families.{all_at}
use Rattle.dsm_lines.specs.declared.list.Line.{Line}
use Rattle.dsm_lines.specs.declared.of_objects.MailGrant.{MailGrant}
use Rattle.dsm_lines.specs.declared.of_objects.MailOpening.{MailOpening}
use Rattle.dsm_lines.specs.declared.of_objects.Opening.{Opening}
use Rattle.dsm_lines.specs.Copies.{newer_lines}
use Rattle.dsm_msg.specs.declared.message.Body.{Body}
use Rattle.dsm_msg.specs.declared.message.Msg.{Msg}
use Rattle.dsm_home.specs.declared.waiting.Waiting.{Waiting}
use Rattle.dsm_home.specs.LockStates.{fits_beside, holder_of, front_of, behind_front, grants_of, lock_after_grants, lock_after_release, version_made, mode_among}
use Rattle.dsm_barrier.specs.declared.arrived.Arrived.{Arrived}
use Rattle.dsm_barrier.specs.BarrierStates.{BarrierState, arrivals_of, arrived_in, with_arrival, have_all_come, oldest, lines_of_others, brought_to, opening_for, once_opened, opened_where_due}
use Rattle.dsm_net.specs.Processor.{HomeLines, Processor}
use Rattle.dsm_net.specs.Messages.{keeper_of}
use Rattle.dsm_net.specs.Grants.{own_grant, grant_message, is_of, home_after_grants, grant_messages}
use Rattle.dsm_net.specs.Openings.{own_opening, opening_message, is_to, openings_now}
use Rattle.dsm_net.specs.Effects.{Effect, only, may_bring, is_mode, may_give, counts, waiting_of, with_version, with_request, with_release, with_arrived, effect_of_openings, effect_of, effect_of_body, effect_of_telling_to, effect_of_telling}
use Rattle.dsm_laws_runs.specs.Pieces.{is_of_lock}
use Rattle.dsm_laws_runs.specs.Versions.{IsCellOf, memory_at}
use Rattle.dsm_laws_runs.specs.Newer.{is_newer}
use Rattle.dsm_laws_runs.proofs.OwnTurns.{other_lock}
use Rattle.dsm_laws_runs.proofs.Newer.{unchanged, newer_by_stamp}
use Rattle.dsm_laws_history.specs.NewerLines.{line_at, lines_between, lines_of_arrival, version_before, IsVersion, AreNewer, IsArrival, IsOpening, IsTrue, AreOfVersion}
use Rattle.dsm_laws_history.specs.BarrierLines.{AreArrivals, IsOfArrivals}
use Rattle.dsm_laws_history.proofs.Lines.{lock_bound, lines_same, overlaid_chosen, stamps_chosen}
use Rattle.dsm_laws_history.proofs.Marks.{stamp_made}
use Rattle.dsm_laws_history.proofs.Truth.{all_append, others_same, IsTrueOf, IsTrueMessage}

-- who is granted a lock has waited for it, and so have those who still wait
front_all : (P : Waiting → Type 0) (holders : List Holder) (queue : List Waiting) → AllByRecursion P queue → AllByRecursion P (front_of holders queue) × AllByRecursion P (behind_front holders queue)
front_all P holders [] h = (tt, tt)
front_all P holders (one ∷ others) h = go (fits_beside holders one.mode) refl (front_all P (holders ++ holder_of one ∷ []) others h.1)
  where
    go : (b : Bool) → fits_beside holders one.mode ≡ b → AllByRecursion P (front_of (holders ++ holder_of one ∷ []) others) × AllByRecursion P (behind_front (holders ++ holder_of one ∷ []) others) →
        AllByRecursion P (front_of holders (one ∷ others)) × AllByRecursion P (behind_front holders (one ∷ others))
    go true e more = rw e ((h.0, more.0), more.1)
    go false e more = rw e (tt, h)

pub both_are : (b c : Bool) → (b && c) ≡ true → (b ≡ true) × (c ≡ true)
both_are b c e = (grind arith, grind arith)

pub same_numbers : (a b : ℕ) → (a == b) ≡ true → a ≡ b
same_numbers a b e = elim (eqb_tells a b) [ inl (_, i) ↦ i | inr (f, _) ↦ absurd (true≢false (sym e ∙ f)) ]

module _ {S : Type 0} (setup : Setup) (first : ℕ → S) (threads : Semantics S) (run : List Turn) where
  abbrev pub True : ℕ → Processor S → Type 0
  True p s = IsTrueOf setup first threads run p s

  abbrev pub AllTrue : List Msg → Type 0
  AllTrue msgs = AllByRecursion (IsTrueMessage setup first threads run) msgs

  -- an effect that leaves and sends what is true
  pub record IsTrueEffect (p : ℕ) (effect : Effect S) : Type 0 where
    pub processor : True p effect.processor
    pub sends : AllTrue effect.sends

  -- A home grants a lock.

  module _ (me : ℕ) (s : Processor S) (lock : Lock) (h : True me s) where
    abbrev Waits : Waiting → Type 0
    Waits one = IsVersion run one.proc.0 one.turn lock.0 one.«have»

    abbrev version : ℕ
    version = (s.locks lock.0).version

    home : AreOfVersion setup first threads run lock.0 version s.lines
    home = h.homes lock.0

    newer_true : (one : Waiting) → Waits one → AreNewer setup first threads run one.proc.0 one.turn lock.0 version (newer_lines setup.bindings s.lines.stamps s.lines.values lock one.«have»)
    newer_true one k = record {
      in_course = k.in_course;
      is_made = home.is_made;
      are_lines = lines_same setup lock (λ line. nat_lt one.«have» (s.lines.stamps line)) (is_newer (line_at setup.bindings) setup first threads run lock.0 (version_before run one.proc.0 one.turn lock.0) version)
          s.lines.values (memory_at first threads run lock.0 version)
          (λ cell is. ap₂ nat_lt k.is_version (home.stamps cell is) ∙ sym (newer_by_stamp (line_at setup.bindings) setup first threads run lock.0 (version_before run one.proc.0 one.turn lock.0) version (line_at setup.bindings cell)))
          home.values;
    }

    fronts : AllByRecursion Waits (grants_of (s.locks lock.0)) × AllByRecursion Waits (behind_front (s.locks lock.0).holders (s.locks lock.0).queue)
    fronts = front_all Waits (s.locks lock.0).holders (s.locks lock.0).queue (h.waits lock.0)

    own_true : (ones : List Waiting) → AllByRecursion Waits ones →
        AllByRecursion (λ (grant : MailGrant). AreNewer setup first threads run me grant.turn grant.lock.0 grant.version grant.lines) (map (own_grant setup s lock) (filter (is_of me) ones))
    own_true [] all = tt
    own_true (one ∷ ones) all = go (is_of me one) refl (own_true ones all.1)
      where
        go : (b : Bool) → is_of me one ≡ b → AllByRecursion (λ (grant : MailGrant). AreNewer setup first threads run me grant.turn grant.lock.0 grant.version grant.lines) (map (own_grant setup s lock) (filter (is_of me) ones)) →
            AllByRecursion (λ (grant : MailGrant). AreNewer setup first threads run me grant.turn grant.lock.0 grant.version grant.lines) (map (own_grant setup s lock) (filter (is_of me) (one ∷ ones)))
        go true e more = rw e (subst (λ p. AreNewer setup first threads run p one.turn lock.0 version (newer_lines setup.bindings s.lines.stamps s.lines.values lock one.«have»)) (same_numbers one.proc.0 me e) (newer_true one all.0), more)
        go false e more = rw e more

    sent_true : (ones : List Waiting) → AllByRecursion Waits ones → AllTrue (map (grant_message setup me s lock) (filter (λ one. not (is_of me one)) ones))
    sent_true [] all = tt
    sent_true (one ∷ ones) all = go (is_of me one) refl (sent_true ones all.1)
      where
        go : (b : Bool) → is_of me one ≡ b → AllTrue (map (grant_message setup me s lock) (filter (λ one. not (is_of me one)) ones)) → AllTrue (map (grant_message setup me s lock) (filter (λ one. not (is_of me one)) (one ∷ ones)))
        go true e more = rw e more
        go false e more = rw e (newer_true one all.0, more)

    waits_now : (other : ℕ) → AllByRecursion (λ (one : Waiting). IsVersion run one.proc.0 one.turn other one.«have») (update s.locks lock.0 (lock_after_grants (s.locks lock.0)) other).queue
    waits_now other =
        elim (eqb_tells other lock.0) [
          | inl (t, i) ↦ rw t (subst (λ l. AllByRecursion (λ (one : Waiting). IsVersion run one.proc.0 one.turn l one.«have») (behind_front (s.locks lock.0).holders (s.locks lock.0).queue)) (sym i) fronts.1)
          | inr (t, _) ↦ rw t (h.waits other)
        ]

    homes_now : (other : ℕ) → AreOfVersion setup first threads run other (update s.locks lock.0 (lock_after_grants (s.locks lock.0)) other).version s.lines
    homes_now other =
        elim (eqb_tells other lock.0) [
          | inl (t, i) ↦ rw t (subst (λ l. AreOfVersion setup first threads run l version s.lines) (sym i) home)
          | inr (t, _) ↦ rw t (h.homes other)
        ]

    pub granted_true : IsTrueEffect me (only (home_after_grants setup me s lock) (grant_messages setup me s lock))
    granted_true = record {
      processor = record {
        mail = all_append _ s.mail.grants (map (own_grant setup s lock) (filter (is_of me) (grants_of (s.locks lock.0)))) h.mail (own_true (grants_of (s.locks lock.0)) fronts.0);
        waits = waits_now;
        homes = homes_now;
        openings = h.openings;
        barriers = h.barriers;
      };
      sends = sent_true (grants_of (s.locks lock.0)) fronts.0;
    }

  -- A manager opens a barrier.

  one_more : (p bar epoch : ℕ) (ones : List Arrived) (one : Arrived) → AreArrivals setup run p bar epoch ones → IsArrival setup run p bar (epoch + length ones) one.lines → AreArrivals setup run p bar epoch (ones ++ one ∷ [])
  one_more p bar epoch [] one all is = (subst (λ n. IsArrival setup run p bar n one.lines) (omega arith) is, tt)
  one_more p bar epoch (first ∷ ones) one all is = (all.0, one_more p bar (epoch + 1) ones one all.1 (subst (λ n. IsArrival setup run p bar n one.lines) (omega arith) is))

  rest_of : (p bar epoch : ℕ) (ones : List Arrived) → AreArrivals setup run p bar epoch ones → AreArrivals setup run p bar (epoch + 1) (drop 1 ones)
  rest_of p bar epoch [] all = tt
  rest_of p bar epoch (first ∷ ones) all = all.1

  oldest_of : (p bar epoch : ℕ) (ones : List Arrived) → AreArrivals setup run p bar epoch ones → nat_lt 0 (length ones) ≡ true → IsArrival setup run p bar epoch (oldest ones).lines
  oldest_of p bar epoch [] all some = cc
  oldest_of p bar epoch (first ∷ ones) all some = all.0

  abbrev AreOpenings : List Opening → Type 0
  AreOpenings ones = AllByRecursion (λ (one : Opening). IsOpening setup run one.to.0 one.bar.0 one.epoch one.lines) ones

  module _ (me : ℕ) (s : Processor S) (bar : Bar) (h : True me s) where
    abbrev barrier : BarrierState
    barrier = s.barriers bar.0

    of_arrivals : IsOfArrivals setup run bar.0 barrier
    of_arrivals = h.barriers bar.0

    module _ (all : have_all_come setup.procs barrier ≡ true) where
      came : (q : ℕ) → q < setup.procs → IsArrival setup run q bar.0 barrier.opened (brought_to barrier q)
      came q lt = oldest_of q bar.0 barrier.opened (barrier.waiting q) (of_arrivals.waiting q) (all_at setup.procs (λ p. nat_lt 0 (length (barrier.waiting p))) q lt all)

      back : (n : ℕ) → n + 1 - 1 ≡ n
      back n = omega arith

      opening_true : (p : ℕ) → IsOpening setup run p bar.0 (barrier.opened + 1) (lines_of_others (brought_to barrier) setup.procs p)
      opening_true p = record {
        is_later = omega arith;
        all_came = λ q lt. (let k = (came q lt).has_come in omega arith);
        are_lines = others_same setup.procs p (brought_to barrier) (lines_of_arrival setup run bar.0 (barrier.opened + 1 - 1))
            (λ q lt. (came q lt).are_lines ∙ ap (λ n. lines_of_arrival setup run bar.0 n q) (sym (back barrier.opened)));
      }

      openings_true : (ps : List ℕ) → AreOpenings (map (opening_for setup.procs bar barrier) ps)
      openings_true [] = tt
      openings_true (p ∷ ps) = (opening_true p, openings_true ps)

      opened_once : IsOfArrivals setup run bar.0 (once_opened barrier)
      opened_once = record {
        no_early = λ q lt. (let k = (came q lt).has_come in omega arith);
        waiting = λ q. rest_of q bar.0 barrier.opened (barrier.waiting q) (of_arrivals.waiting q);
      }

    due_true : AreOpenings (openings_now setup s bar)
    due_true = go (have_all_come setup.procs barrier) refl
      where
        go : (b : Bool) → have_all_come setup.procs barrier ≡ b → AreOpenings (openings_now setup s bar)
        go true e = rw e (openings_true e (range_with_len 0 setup.procs))
        go false e = rw e tt

    barrier_true : IsOfArrivals setup run bar.0 (opened_where_due setup.procs barrier)
    barrier_true = go (have_all_come setup.procs barrier) refl
      where
        go : (b : Bool) → have_all_come setup.procs barrier ≡ b → IsOfArrivals setup run bar.0 (opened_where_due setup.procs barrier)
        go true e = rw e (opened_once e)
        go false e = rw e of_arrivals

    own_openings : (ones : List Opening) → AreOpenings ones → AllByRecursion (λ (opening : MailOpening). IsOpening setup run me opening.bar.0 opening.epoch opening.lines) (map own_opening (filter (is_to me) ones))
    own_openings [] all = tt
    own_openings (one ∷ ones) all = go (is_to me one) refl (own_openings ones all.1)
      where
        go : (b : Bool) → is_to me one ≡ b → AllByRecursion (λ (opening : MailOpening). IsOpening setup run me opening.bar.0 opening.epoch opening.lines) (map own_opening (filter (is_to me) ones)) →
            AllByRecursion (λ (opening : MailOpening). IsOpening setup run me opening.bar.0 opening.epoch opening.lines) (map own_opening (filter (is_to me) (one ∷ ones)))
        go true e more = rw e (subst (λ p. IsOpening setup run p one.bar.0 one.epoch one.lines) (same_numbers one.to.0 me e) all.0, more)
        go false e more = rw e more

    sent_openings : (ones : List Opening) → AreOpenings ones → AllTrue (map (opening_message me s) (filter (λ one. not (is_to me one)) ones))
    sent_openings [] all = tt
    sent_openings (one ∷ ones) all = go (is_to me one) refl (sent_openings ones all.1)
      where
        go : (b : Bool) → is_to me one ≡ b → AllTrue (map (opening_message me s) (filter (λ one. not (is_to me one)) ones)) → AllTrue (map (opening_message me s) (filter (λ one. not (is_to me one)) (one ∷ ones)))
        go true e more = rw e more
        go false e more = rw e (all.0, more)

    pub opened_true : IsTrueEffect me (effect_of_openings setup me s bar)
    opened_true = record {
      processor = record {
        mail = h.mail;
        waits = h.waits;
        homes = h.homes;
        openings = all_append _ s.mail.openings (map own_opening (filter (is_to me) (openings_now setup s bar))) h.openings (own_openings (openings_now setup s bar) due_true);
        barriers = λ other. elim (eqb_tells other bar.0) [
          | inl (t, i) ↦ rw t (subst (λ b. IsOfArrivals setup run b (opened_where_due setup.procs barrier)) (sym i) barrier_true)
          | inr (t, _) ↦ rw t (h.barriers other)
        ];
      };
      sends = sent_openings (openings_now setup s bar) due_true;
    }

  -- A body comes.

  nothing_true : (me : ℕ) (s : Processor S) → True me s → IsTrueEffect me (only s [])
  nothing_true me s h = record { processor = h; sends = tt }

  module _ (me : ℕ) (s : Processor S) (h : True me s) (from turn : ℕ) where
    request_true : (lock : Lock) (mode : Mode) (own : ℕ) → IsVersion run from (turn + 1) lock.0 own → True me (with_request s from turn lock mode own)
    request_true lock mode own k = record {
      mail = h.mail;
      waits = λ other. elim (eqb_tells other lock.0) [
        | inl (t, i) ↦ rw t (subst (λ l. AllByRecursion (λ (one : Waiting). IsVersion run one.proc.0 one.turn l one.«have») ((s.locks lock.0).queue ++ waiting_of from turn mode own ∷ [])) (sym i)
            (all_append _ (s.locks lock.0).queue (waiting_of from turn mode own ∷ []) (h.waits lock.0) (k, tt)))
        | inr (t, _) ↦ rw t (h.waits other)
      ];
      homes = λ other. elim (eqb_tells other lock.0) [
        | inl (t, i) ↦ rw t (subst (λ l. AreOfVersion setup first threads run l (s.locks lock.0).version s.lines) (sym i) (h.homes lock.0))
        | inr (t, _) ↦ rw t (h.homes other)
      ];
      openings = h.openings;
      barriers = h.barriers;
    }

    -- the home's lines once those of an exclusive hold have come
    module _ (lock : Lock) (version : ℕ) (made : AreNewer setup first threads run from turn lock.0 (version + 1) (lines_between setup first threads run lock.0 version (version + 1))) where
      abbrev brought : List Line
      brought = lines_between setup first threads run lock.0 version (version + 1)

      abbrev now : HomeLines
      now = with_version setup.bindings s.lines (version + 1) brought

      abbrev newer : ℕ → Bool
      newer = is_newer (line_at setup.bindings) setup first threads run lock.0 version (version + 1)

      value_now : (cell : ℕ) → now.values cell ≡ (if is_of_lock lock.0 (piece_of setup.bindings cell) && newer (line_at setup.bindings cell) then memory_at first threads run lock.0 (version + 1) cell else s.lines.values cell)
      value_now cell = overlaid_chosen setup lock newer (memory_at first threads run lock.0 (version + 1)) s.lines.values cell

      here : AreOfVersion setup first threads run lock.0 version s.lines → AreOfVersion setup first threads run lock.0 (version + 1) now
      here was = record {
        is_made = made.is_made;
        values = λ cell is. value_now cell ∙ rw is (go cell is (newer (line_at setup.bindings cell)) refl);
        stamps = λ cell is. stamps_chosen setup lock (version + 1) newer (memory_at first threads run lock.0 (version + 1)) s.lines.stamps cell (lock_bound lock.0 (piece_of setup.bindings cell) is)
            ∙ rw is (ap (λ n. if newer (line_at setup.bindings cell) then version + 1 else n) (was.stamps cell is)
            ∙ sym (stamp_made (line_at setup.bindings) setup first threads run lock.0 version (line_at setup.bindings cell)));
      }
        where
          go : (cell : ℕ) → IsCellOf setup lock.0 cell → (b : Bool) → newer (line_at setup.bindings cell) ≡ b → (if newer (line_at setup.bindings cell) then memory_at first threads run lock.0 (version + 1) cell else s.lines.values cell) ≡ memory_at first threads run lock.0 (version + 1) cell
          go cell is true e = rw e refl
          go cell is false e = rw e (was.values cell is ∙ unchanged (line_at setup.bindings) setup first threads run lock.0 version (version + 1) cell is (omega arith) made.is_made e)

      there : (other at : ℕ) → (other == lock.0) ≡ false → AreOfVersion setup first threads run other at s.lines → AreOfVersion setup first threads run other at now
      there other at ne was = record {
        is_made = was.is_made;
        values = λ cell is. value_now cell ∙ rw (not_here cell is) (was.values cell is);
        stamps = λ cell is. stamps_chosen setup lock (version + 1) newer (memory_at first threads run lock.0 (version + 1)) s.lines.stamps cell (lock_bound other (piece_of setup.bindings cell) is) ∙ rw (not_here cell is) (was.stamps cell is);
      }
        where
          not_here : (cell : ℕ) → IsCellOf setup other cell → is_of_lock lock.0 (piece_of setup.bindings cell) ≡ false
          not_here cell is = other_lock setup other lock.0 cell (λ e. true≢false (sym (same e) ∙ ne)) is
            where
              same : other ≡ lock.0 → (other == lock.0) ≡ true
              same e = grind arith

    -- a lock of which a hold in this mode ended
    release_true : (lock : Lock) (mode : Mode) (version : ℕ) (lines : List Line) → IsTrue setup first threads run from me turn (Body.Release lock mode version lines) →
        version ≡ version_made mode (s.locks lock.0).version → may_bring mode lines ≡ true → True me (with_release setup s from turn lock mode version lines)
    release_true lock mode version lines is is_next brings = record {
      mail = h.mail;
      waits = λ other. elim (eqb_tells other lock.0) [
        | inl (t, i) ↦ rw t (subst (λ l. AllByRecursion (λ (one : Waiting). IsVersion run one.proc.0 one.turn l one.«have») (s.locks lock.0).queue) (sym i) (h.waits lock.0))
        | inr (t, _) ↦ rw t (h.waits other)
      ];
      homes = λ other. homes_now mode lines is.0 is.1 is_next brings other;
      openings = h.openings;
      barriers = h.barriers;
    }
      where
        one_less : (a b v : ℕ) → v ≡ a + 1 → v ≡ b + 1 → a ≡ b
        one_less a b v e f = omega arith

        homes_now : (mode : Mode) (lines : List Line) → version ≡ version_made mode (version_before run from turn lock.0) → AreNewer setup first threads run from turn lock.0 version lines → version ≡ version_made mode (s.locks lock.0).version →
            may_bring mode lines ≡ true → (other : ℕ) →
            AreOfVersion setup first threads run other (update s.locks lock.0 (lock_after_release (s.locks lock.0) from mode) other).version (with_version setup.bindings s.lines version lines)
        homes_now Mode.Shared [] e newer v b other = elim (eqb_tells other lock.0) [
          | inl (t, i) ↦ rw t (subst (λ l. AreOfVersion setup first threads run l (s.locks lock.0).version s.lines) (sym i) (h.homes lock.0))
          | inr (t, _) ↦ rw t (h.homes other)
        ]
        homes_now Mode.Shared (line ∷ lines) e newer v b other = cc
        homes_now Mode.Excl lines e newer v b other =
            let at : ℕ = (s.locks lock.0).version in
            let same : version_before run from turn lock.0 ≡ at = one_less (version_before run from turn lock.0) at version e v in
            let is_lines : lines ≡ lines_between setup first threads run lock.0 at (at + 1) = newer.are_lines ∙ ap₂ (lines_between setup first threads run lock.0) same v in
            let made : AreNewer setup first threads run from turn lock.0 (at + 1) (lines_between setup first threads run lock.0 at (at + 1)) =
            subst (AreNewer setup first threads run from turn lock.0 (at + 1)) is_lines (subst (λ n. AreNewer setup first threads run from turn lock.0 n lines) v newer) in
            subst (λ n. AreOfVersion setup first threads run other (update s.locks lock.0 (lock_after_release (s.locks lock.0) from Mode.Excl) other).version (with_version setup.bindings s.lines n lines)) (sym v)
            (subst (λ ls. AreOfVersion setup first threads run other (update s.locks lock.0 (lock_after_release (s.locks lock.0) from Mode.Excl) other).version (with_version setup.bindings s.lines (at + 1) ls)) (sym is_lines)
            (elim (eqb_tells other lock.0) [
              | inl (t, i) ↦ rw t (subst (λ l. AreOfVersion setup first threads run l (at + 1) (with_version setup.bindings s.lines (at + 1) (lines_between setup first threads run lock.0 at (at + 1)))) (sym i) (here lock at made (h.homes lock.0)))
              | inr (t, _) ↦ rw t (there lock at made other (s.locks other).version t (h.homes other))
            ]))

    -- an arrival of the sender's next epoch
    arrived_true : (bar : Bar) (epoch : ℕ) (lines : List Line) → epoch ≡ arrivals_of (s.barriers bar.0) from → IsArrival setup run from bar.0 epoch lines → True me (with_arrived s from turn bar lines)
    arrived_true bar epoch lines e is = record {
      mail = h.mail;
      waits = h.waits;
      homes = h.homes;
      openings = h.openings;
      barriers = λ other. elim (eqb_tells other bar.0) [
        | inl (t, i) ↦ rw t (subst (λ b. IsOfArrivals setup run b (with_arrival (s.barriers bar.0) from (arrived_in turn lines))) (sym i) here)
        | inr (t, _) ↦ rw t (h.barriers other)
      ];
    }
      where
        was : IsOfArrivals setup run bar.0 (s.barriers bar.0)
        was = h.barriers bar.0

        here : IsOfArrivals setup run bar.0 (with_arrival (s.barriers bar.0) from (arrived_in turn lines))
        here = record {
          no_early = was.no_early;
          waiting = λ q. elim (eqb_tells q from) [
            | inl (t, i) ↦ rw t (subst (λ r. AreArrivals setup run r bar.0 (s.barriers bar.0).opened ((s.barriers bar.0).waiting from ++ arrived_in turn lines ∷ [])) (sym i)
                (one_more from bar.0 (s.barriers bar.0).opened ((s.barriers bar.0).waiting from) (arrived_in turn lines) (was.waiting from) (subst (λ n. IsArrival setup run from bar.0 n lines) e is)))
            | inr (t, _) ↦ rw t (was.waiting q)
          ];
        }

    counted_true : (body : Body) → counts s from turn body ≡ true → IsTrue setup first threads run from me turn body → IsTrueEffect me (effect_of setup me s from turn body)
    counted_true (Body.Req lock mode own) c is = granted_true me (with_request s from turn lock mode own) lock (request_true lock mode own is)
    counted_true (Body.Release lock mode version lines) c is =
        let give = (both_are (nat_lt (s.peers from).last turn) (may_give (s.locks lock.0) from mode version lines) c).1 in
        let rest = (both_are (is_mode mode (mode_among (s.locks lock.0).holders from)) ((version == version_made mode (s.locks lock.0).version) && may_bring mode lines) give).1 in
        let both = both_are (version == version_made mode (s.locks lock.0).version) (may_bring mode lines) rest in
        granted_true me (with_release setup s from turn lock mode version lines) lock (release_true lock mode version lines is (same_numbers version (version_made mode (s.locks lock.0).version) both.0) both.1)
    counted_true (Body.Grant lock mode take version lines) c is = record {
      processor = record { mail = all_append _ s.mail.grants _ h.mail (is, tt); waits = h.waits; homes = h.homes; openings = h.openings; barriers = h.barriers };
      sends = tt;
    }
    counted_true (Body.Arrive bar epoch lines) c is =
        let test : (epoch == arrivals_of (s.barriers bar.0) from) ≡ true = (both_are (nat_lt (s.peers from).last turn) (epoch == arrivals_of (s.barriers bar.0) from) c).1 in
        opened_true me (with_arrived s from turn bar lines) bar (arrived_true bar epoch lines (same_numbers epoch (arrivals_of (s.barriers bar.0) from) test) is.is_arrival)
    counted_true (Body.Opened bar epoch lines) c is = record {
      processor = record { mail = h.mail; waits = h.waits; homes = h.homes; openings = all_append _ s.mail.openings _ h.openings (is, tt); barriers = h.barriers };
      sends = tt;
    }
    counted_true body c is = nothing_true me s h

    pub body_true : (body : Body) → IsTrue setup first threads run from me turn body → IsTrueEffect me (effect_of_body setup me s from turn body)
    body_true body is = go (counts s from turn body) refl
      where
        go : (b : Bool) → counts s from turn body ≡ b → IsTrueEffect me (effect_of_body setup me s from turn body)
        go true e = rw e (counted_true body e is)
        go false e = rw e (nothing_true me s h)

  -- A turn tells a body.

  abbrev pub IsToldTrue : ℕ → ℕ → Option Body → Type 0
  IsToldTrue p turn None = Unit {0}
  IsToldTrue p turn (Some body) = (to : ℕ) → IsTrue setup first threads run p to turn body

  pub told_true : (p : ℕ) (s : Processor S) (body : Option Body) → True p s → IsToldTrue p s.own.turns body → IsTrueEffect p (effect_of_telling setup p s body)
  told_true p s None h is = nothing_true p s h
  told_true p s (Some body) h is = to_keeper (keeper_of setup body)
    where
      to_keeper : (keeper : Option ℕ) → IsTrueEffect p (effect_of_telling_to setup p s body keeper)
      to_keeper None = nothing_true p s h
      to_keeper (Some keeper) = go (keeper == p) refl
        where
          go : (b : Bool) → (keeper == p) ≡ b → IsTrueEffect p (effect_of_telling_to setup p s body (Some keeper))
          go true e = rw e (body_true p s h p s.own.turns body (is p))
          go false e = rw e record { processor = h; sends = (is keeper, tt) }
