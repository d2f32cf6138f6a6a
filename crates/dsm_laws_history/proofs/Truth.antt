-- What processors and messages have of versions and lines stays true in a longer run.
use Rattle.std.specs.Prelude.{◌≡◌, ℕ, zero, suc, ◌+◌, ◌-◌, ◌<◌, ◌≤◌, Bool, true, false, ◌&&◌, ◌==◌, not, if◌then◌else◌, nat_lt, List, [], ◌∷◌, ◌++◌, length, filter}
use Rattle.std.specs.List.{flat_map, range_with_len, AllByRecursion}
use Rattle.std.proofs.Common.{arith, refl, sym, ap, ap₂, ◌∙◌, subst, le_trans}
use Rattle.std.proofs.Math.Path.{fun_ext}
use Rattle.dsm_base.specs.declared.setup.Object.{Object}
use Rattle.dsm_base.specs.declared.setup.Setup.{Setup}
use Rattle.dsm_base.specs.Threads.{Semantics}
use Rattle.dsm_base.specs.Access.{piece_of}
use Rattle.dsm_base.specs.Plain.{Turn, IsPlainRun, after_run, labels_of}
use Rattle.dsm_lines.specs.declared.list.Line.{Line}
use Rattle.dsm_lines.specs.declared.of_objects.MailGrant.{MailGrant}
use Rattle.dsm_lines.specs.declared.of_objects.MailOpening.{MailOpening}
use Rattle.dsm_msg.specs.declared.message.Body.{Body}
use Rattle.dsm_msg.specs.declared.message.Msg.{Msg}
use Rattle.dsm_home.specs.declared.waiting.Waiting.{Waiting}
use Rattle.dsm_home.specs.LockStates.{version_made}
use Rattle.dsm_lines.specs.Copies.{lines_where}
use Rattle.dsm_barrier.specs.declared.arrived.Arrived.{Arrived}
use Rattle.dsm_barrier.specs.Joined.{in_order}
use Rattle.dsm_barrier.specs.BarrierStates.{BarrierState, others_than, lines_of_others}
use Rattle.dsm_net.specs.Processor.{HomeLines, Processor}
use Rattle.dsm_laws_runs.specs.OwnPart.{arrived_of, own_versions_of}
use Rattle.dsm_laws_runs.specs.Versions.{AllAskFirst}
use Rattle.dsm_laws_runs.specs.Barriers.{is_owned, memory_in}
use Rattle.dsm_laws_runs.specs.Newer.{stores_to, stamp_of, is_stored_in}
use Rattle.dsm_laws_runs.proofs.Each.{for_each}
use Rattle.dsm_laws_runs.proofs.OwnPart.{own_arrived, labels_mine, labels_other}
use Rattle.dsm_laws_runs.proofs.Barriers.{arrived_rises}
use Rattle.dsm_laws_runs.proofs.Versions.{version_rises}
use Rattle.dsm_laws_runs.proofs.Memory.{memory_at_turn}
use Rattle.dsm_laws_runs.proofs.Newer.{newer_turn}
use Rattle.dsm_laws_epochs.proofs.EpochLines.{settled, values_settled}
use Rattle.dsm_laws_protocol.specs.Courses.{upto}
use Rattle.dsm_laws_protocol.proofs.Courses.{upto_grown}
use Rattle.dsm_laws_history.specs.NewerLines.{line_at, lines_between, lines_of_arrival, version_before, IsVersion, AreNewer, IsArrival, IsOpening, IsTrue, AreOfVersion}
use Rattle.dsm_laws_history.specs.BarrierLines.{AreArrivals, IsOfArrivals}
use Rattle.dsm_laws_history.proofs.BarrierLines.{object_bound, owned_owner, stored_owned, bar_lines_same}

-- Lists.

module _ {X : Type 0} where
  pub all_weaker : (P Q : X → Type 0) → ((x : X) → P x → Q x) → (xs : List X) → AllByRecursion P xs → AllByRecursion Q xs
  all_weaker P Q weaker [] h = tt
  all_weaker P Q weaker (x ∷ xs) h = (weaker x h.0, all_weaker P Q weaker xs h.1)

  pub all_append : (P : X → Type 0) (xs ys : List X) → AllByRecursion P xs → AllByRecursion P ys → AllByRecursion P (xs ++ ys)
  all_append P [] ys h g = g
  all_append P (x ∷ xs) ys h g = (h.0, all_append P xs ys h.1 g)

  pub all_filter : (P : X → Type 0) (test : X → Bool) (xs : List X) → AllByRecursion P xs → AllByRecursion P (filter test xs)
  all_filter P test [] h = tt
  all_filter P test (x ∷ xs) h = go (test x) refl (all_filter P test xs h.1)
    where
      go : (b : Bool) → test x ≡ b → AllByRecursion P (filter test xs) → AllByRecursion P (filter test (x ∷ xs))
      go true e more = rw e (h.0, more)
      go false e more = rw e more

-- what is brought by the processors but one is the same where it is the same of each of the setup
all_range : (P : ℕ → Type 0) (a n : ℕ) → ((q : ℕ) → q < a + n → P q) → AllByRecursion P (range_with_len a n)
all_range P a zero h = tt
all_range P a (suc n) h = (h a (omega arith), all_range P (a + 1) n (λ q lt. h q (omega arith)))

flat_same : {A : Type 0} (f g : ℕ → List A) (qs : List ℕ) → AllByRecursion (λ q. f q ≡ g q) qs → flat_map f qs ≡ flat_map g qs
flat_same f g [] all = refl
flat_same f g (q ∷ qs) all = ap₂ (λ xs ys. xs ++ ys) all.0 (flat_same f g qs all.1)

pub others_same : (procs p : ℕ) (f g : ℕ → List Line) → ((q : ℕ) → q < procs → f q ≡ g q) → lines_of_others f procs p ≡ lines_of_others g procs p
others_same procs p f g same = ap in_order (flat_same f g (others_than procs p)
    (all_filter (λ q. f q ≡ g q) (λ q. not (q == p)) (range_with_len 0 procs) (all_range (λ q. f q ≡ g q) 0 procs (λ q lt. same q (omega arith)))))

-- Versions before a turn.

pub labels_grow : (p : ℕ) (turn : Turn) (run : List Turn) → length (labels_of p run) ≤ length (labels_of p (turn ∷ run))
labels_grow p turn run = for_each (λ p. length (labels_of p run) ≤ length (labels_of p (turn ∷ run))) turn.proc p
    (rw (labels_mine turn.proc turn run refl) (omega arith))
    (λ ne. rw (labels_other p turn run ne) (omega arith))

pub before_grows : (turn : Turn) (run : List Turn) (p k lock : ℕ) → k ≤ length (labels_of p run) + 1 → version_before (turn ∷ run) p k lock ≡ version_before run p k lock
before_grows turn run p k lock le = for_each (λ p. k ≤ length (labels_of p run) + 1 → version_before (turn ∷ run) p k lock ≡ version_before run p k lock) turn.proc p
    (λ le. ap (λ labels. own_versions_of (upto (k - 1) labels) lock) (labels_mine turn.proc turn run refl)
    ∙ ap (λ labels. own_versions_of labels lock) (upto_grown (k - 1) turn.label (labels_of turn.proc run) (omega arith)))
    (λ ne le. ap (λ labels. own_versions_of (upto (k - 1) labels) lock) (labels_other p turn run ne))
    le

pub version_grows : (turn : Turn) (run : List Turn) (p k lock version : ℕ) → IsVersion run p k lock version → IsVersion (turn ∷ run) p k lock version
version_grows turn run p k lock version h = record {
  in_course = let l = h.in_course in let g = labels_grow p turn run in omega arith;
  is_version = h.is_version ∙ sym (before_grows turn run p k lock h.in_course);
}

module _ {S : Type 0} (setup : Setup) (first : ℕ → S) (threads : Semantics S) where
  -- What is true of a processor.

  pub record IsTrueOf (run : List Turn) (p : ℕ) (s : Processor S) : Type 0 where
    pub mail : AllByRecursion (λ (grant : MailGrant). AreNewer setup first threads run p grant.turn grant.lock.0 grant.version grant.lines) s.mail.grants
    pub waits : (lock : ℕ) → AllByRecursion (λ (one : Waiting). IsVersion run one.proc.0 one.turn lock one.«have») (s.locks lock).queue
    pub homes : (lock : ℕ) → AreOfVersion setup first threads run lock (s.locks lock).version s.lines
    pub openings : AllByRecursion (λ (opening : MailOpening). IsOpening setup run p opening.bar.0 opening.epoch opening.lines) s.mail.openings
    pub barriers : (bar : ℕ) → IsOfArrivals setup run bar (s.barriers bar)

  abbrev pub IsTrueMessage : List Turn → Msg → Type 0
  IsTrueMessage run msg = IsTrue setup first threads run msg.from.0 msg.to.0 msg.carry.turn msg.body

  -- In a longer run.

  module _ (turn : Turn) (run : List Turn) where
    pub lines_grow : (lock from to : ℕ) → to ≤ (after_run first threads run).versions lock → lines_between setup first threads (turn ∷ run) lock from to ≡ lines_between setup first threads run lock from to
    lines_grow lock from to le =
        ap₂ (λ test memory. lines_where setup.bindings test memory (Object.Lock record { 0 = lock }))
        (fun_ext (λ line. newer_turn (line_at setup.bindings) setup first threads turn run lock from to line le)) (memory_at_turn first threads turn run lock to le)

    pub newer_grow : (p k lock version : ℕ) (lines : List Line) → AreNewer setup first threads run p k lock version lines → AreNewer setup first threads (turn ∷ run) p k lock version lines
    newer_grow p k lock version lines h = record {
      in_course = let l = h.in_course in let g = labels_grow p turn run in omega arith;
      is_made = le_trans h.is_made (version_rises first threads turn run lock);
      are_lines = h.are_lines ∙ sym (lines_grow lock (version_before (turn ∷ run) p k lock) version h.is_made
          ∙ ap (λ from. lines_between setup first threads run lock from version) (before_grows turn run p k lock h.in_course));
    }

    stamp_grows : (lock version line : ℕ) → version ≤ (after_run first threads run).versions lock →
        stamp_of (line_at setup.bindings) setup first threads (turn ∷ run) lock version line ≡ stamp_of (line_at setup.bindings) setup first threads run lock version line
    stamp_grows lock version line le = old (stores_to (line_at setup.bindings) setup lock line turn.label) ((after_run first threads run).versions lock) (stamp_of (line_at setup.bindings) setup first threads run lock version line) le
      where
        old : (b : Bool) (now rest : ℕ) → version ≤ now → (if b && nat_lt now version then now + 1 else rest) ≡ rest
        old b now rest le = grind arith

    pub home_grows : (lock version : ℕ) (home : HomeLines) → AreOfVersion setup first threads run lock version home → AreOfVersion setup first threads (turn ∷ run) lock version home
    home_grows lock version home h = record {
      is_made = le_trans h.is_made (version_rises first threads turn run lock);
      values = λ cell is. h.values cell is ∙ ap (λ memory. memory cell) (sym (memory_at_turn first threads turn run lock version h.is_made));
      stamps = λ cell is. h.stamps cell is ∙ sym (stamp_grows lock version (line_at setup.bindings cell) h.is_made);
    }

    -- Of what was told of barriers all is settled.

    module _ (ask_first : AllAskFirst setup first threads) (is_run : IsPlainRun setup first threads (turn ∷ run)) where
      arrived_grows : (p bar : ℕ) → arrived_of (labels_of p run) bar ≤ arrived_of (labels_of p (turn ∷ run)) bar
      arrived_grows p bar = for_each (λ p. arrived_of (labels_of p run) bar ≤ arrived_of (labels_of p (turn ∷ run)) bar) turn.proc p
          (rw (labels_mine turn.proc turn run refl) (arrived_rises turn.label (labels_of turn.proc run) bar))
          (λ ne. rw (labels_other p turn run ne) (omega arith))

      has_come : (p bar n : ℕ) → n ≤ arrived_of (labels_of p run) bar → n ≤ (after_run first threads run).arrived p bar
      has_come p bar n le = let k : (after_run first threads run).arrived p bar ≡ arrived_of (labels_of p run) bar = ap (λ f. f bar) (own_arrived first threads run p) in omega arith

      arrival_same : (p bar epoch : ℕ) → epoch < arrived_of (labels_of p run) bar → lines_of_arrival setup (turn ∷ run) bar epoch p ≡ lines_of_arrival setup run bar epoch p
      arrival_same p bar epoch lt =
          bar_lines_same setup record { 0 = bar } (is_stored_in (line_at setup.bindings) setup bar p epoch (labels_of p (turn ∷ run))) (is_stored_in (line_at setup.bindings) setup bar p epoch (labels_of p run))
          (memory_in setup (λ q. labels_of q (turn ∷ run)) bar (epoch + 1)) (memory_in setup (λ q. labels_of q run) bar (epoch + 1))
          (λ cell is. settled (line_at setup.bindings) setup first threads ask_first bar p epoch (line_at setup.bindings cell) (turn ∷ []) run is_run (let k = has_come p bar (epoch + 1) (omega arith) in omega arith))
          (λ cell is stored.
          (let owned : is_owned bar p (piece_of setup.bindings cell) ≡ true = stored_owned setup bar p epoch cell (labels_of p run) (object_bound (Object.Bar record { 0 = bar }) (piece_of setup.bindings cell) is) stored in
          values_settled setup first threads (turn ∷ []) run bar (epoch + 1) cell
          (subst (λ owner. epoch + 1 ≤ (after_run first threads run).arrived owner bar) (sym (owned_owner bar p (piece_of setup.bindings cell) owned)) (has_come p bar (epoch + 1) (omega arith)))))

      pub arrival_grows : (p bar epoch : ℕ) (lines : List Line) → IsArrival setup run p bar epoch lines → IsArrival setup (turn ∷ run) p bar epoch lines
      arrival_grows p bar epoch lines h = record {
        has_come = let a = h.has_come in let b = arrived_grows p bar in omega arith;
        are_lines = h.are_lines ∙ sym (arrival_same p bar epoch h.has_come);
      }

      pub opening_grows : (p bar epoch : ℕ) (lines : List Line) → IsOpening setup run p bar epoch lines → IsOpening setup (turn ∷ run) p bar epoch lines
      opening_grows p bar epoch lines h = record {
        is_later = h.is_later;
        all_came = λ q lt. (let a = h.all_came q lt in let b = arrived_grows q bar in omega arith);
        are_lines = h.are_lines ∙ sym (others_same setup.procs p (lines_of_arrival setup (turn ∷ run) bar (epoch - 1)) (lines_of_arrival setup run bar (epoch - 1))
            (λ q lt. arrival_same q bar (epoch - 1) (let a = h.all_came q lt in let b = h.is_later in omega arith)));
      }

      waiting_grows : (p bar epoch : ℕ) (ones : List Arrived) → AreArrivals setup run p bar epoch ones → AreArrivals setup (turn ∷ run) p bar epoch ones
      waiting_grows p bar epoch [] h = tt
      waiting_grows p bar epoch (one ∷ ones) h = (arrival_grows p bar epoch one.lines h.0, waiting_grows p bar (epoch + 1) ones h.1)

      arrivals_grow : (bar : ℕ) (barrier : BarrierState) → IsOfArrivals setup run bar barrier → IsOfArrivals setup (turn ∷ run) bar barrier
      arrivals_grow bar barrier h = record {
        no_early = λ q lt. (let a = h.no_early q lt in let b = arrived_grows q bar in omega arith);
        waiting = λ q. waiting_grows q bar barrier.opened (barrier.waiting q) (h.waiting q);
      }

      in_course_grows : (p turn_number bar epoch : ℕ) → turn_number ≤ length (labels_of p run) → epoch ≡ arrived_of (upto (turn_number - 1) (labels_of p run)) bar →
          epoch ≡ arrived_of (upto (turn_number - 1) (labels_of p (turn ∷ run))) bar
      in_course_grows p number bar epoch le e = for_each (λ p. number ≤ length (labels_of p run) → epoch ≡ arrived_of (upto (number - 1) (labels_of p run)) bar →
          epoch ≡ arrived_of (upto (number - 1) (labels_of p (turn ∷ run))) bar) turn.proc p
          (λ le e. e ∙ ap (λ labels. arrived_of labels bar) (sym (upto_grown (number - 1) turn.label (labels_of turn.proc run) (omega arith)) ∙ ap (upto (number - 1)) (sym (labels_mine turn.proc turn run refl))))
          (λ ne le e. e ∙ ap (λ labels. arrived_of (upto (number - 1) labels) bar) (sym (labels_other p turn run ne)))
          le e

      pub truth_grows : (p : ℕ) (s : Processor S) → IsTrueOf run p s → IsTrueOf (turn ∷ run) p s
      truth_grows p s h = record {
        mail = all_weaker _ _ (λ (grant : MailGrant) g. newer_grow p grant.turn grant.lock.0 grant.version grant.lines g) s.mail.grants h.mail;
        waits = λ lock. all_weaker _ _ (λ (one : Waiting) g. version_grows turn run one.proc.0 one.turn lock one.«have» g) (s.locks lock).queue (h.waits lock);
        homes = λ lock. home_grows lock (s.locks lock).version s.lines (h.homes lock);
        openings = all_weaker _ _ (λ (opening : MailOpening) g. opening_grows p opening.bar.0 opening.epoch opening.lines g) s.mail.openings h.openings;
        barriers = λ bar. arrivals_grow bar (s.barriers bar) (h.barriers bar);
      }

      pub body_grows : (from to k : ℕ) (body : Body) → IsTrue setup first threads run from to k body → IsTrue setup first threads (turn ∷ run) from to k body
      body_grows from to k (Body.Req lock mode version) h = version_grows turn run from (k + 1) lock.0 version h
      body_grows from to k (Body.Release lock mode version lines) h = (
        h.0 ∙ ap (version_made mode) (sym (before_grows turn run from k lock.0 h.1.in_course)),
        newer_grow from k lock.0 version lines h.1,
      )
      body_grows from to k (Body.Grant lock mode take version lines) h = newer_grow to take lock.0 version lines h
      body_grows from to k (Body.Arrive bar epoch lines) h = record {
        in_course = let l = h.in_course in let g = labels_grow from turn run in omega arith;
        is_epoch = in_course_grows from k bar.0 epoch h.in_course h.is_epoch;
        is_arrival = arrival_grows from bar.0 epoch lines h.is_arrival;
      }
      body_grows from to k (Body.Opened bar epoch lines) h = opening_grows to bar.0 epoch lines h
      body_grows from to k _ h = tt
