-- The turn of a processor is that of the machine of one memory, brings the lines that it should, and leaves its copy as it should.
use Rattle.std.specs.Prelude.{◌≡◌, ◌≢◌, ℕ, ℤ, ◌+◌, ◌-◌, ◌<◌, ◌≤◌, Bool, true, false, ◌||◌, ◌==◌, nat_lt, List, [], ◌∷◌, length, find, Option, Some, None, option_map}
use Rattle.std.specs.List.{AllByRecursion}
use Rattle.std.proofs.Common.{arith, refl, sym, ap, ap₂, ◌∙◌, subst}
use Rattle.std.proofs.lemmas.List.{length-map}
use Rattle.dsm_base.specs.declared.names.Cell.{Cell}
use Rattle.dsm_base.specs.declared.names.Lock.{Lock}
use Rattle.dsm_base.specs.declared.names.Bar.{Bar}
use Rattle.dsm_base.specs.declared.names.Mode.{Mode}
use Rattle.dsm_base.specs.declared.label.Label.{Label}
use Rattle.dsm_base.specs.declared.label.Want.{Want}
use Rattle.dsm_base.specs.declared.setup.Object.{Object}
use Rattle.dsm_base.specs.declared.setup.Piece.{Piece}
use Rattle.dsm_base.specs.declared.setup.Setup.{Setup}
use Rattle.dsm_base.specs.Access.{piece_of, may_load}
use Rattle.dsm_base.specs.Holders.{are_compatible}
use Rattle.dsm_base.specs.Threads.{Semantics, state_after}
use Rattle.dsm_base.specs.Plain.{Surroundings, label_of, PlainState, Turn, IsPlainTurn, after_run, labels_of, seen_by, plain_turn, plain_turn_of, can_take, can_cross, may_stand_beside, memory_after}
use Rattle.dsm_base.specs.Agrees.{is_between, is_between_of, is_between_at}
use Rattle.dsm_base.proofs.Families.{all_from}
use Rattle.dsm_lines.specs.declared.list.Line.{Line}
use Rattle.dsm_lines.specs.declared.of_objects.MailGrant.{MailGrant}
use Rattle.dsm_lines.specs.declared.of_objects.MailOpening.{MailOpening}
use Rattle.dsm_lines.specs.Copies.{overlaid}
use Rattle.dsm_net.specs.Processor.{Processor}
use Rattle.dsm_net.specs.Inputs.{Input, is_grant_for, is_opening_of, input_of_grant, input_of_opening, input_for}
use Rattle.dsm_net.specs.Turns.{OwnTurn, own_view}
use Rattle.dsm_net.specs.Messages.{home_of}
use Rattle.dsm_laws_runs.specs.OwnPart.{arrived_of, own_versions_of}
use Rattle.dsm_laws_runs.specs.Versions.{AllAskFirst, memory_at}
use Rattle.dsm_laws_runs.specs.Newer.{is_newer}
use Rattle.dsm_laws_runs.specs.Epochs.{IsInStep}
use Rattle.dsm_laws_runs.specs.Copies.{newest_copy, memories_of, Renews}
use Rattle.dsm_laws_runs.proofs.OwnPart.{own_thread, own_held, own_arrived, own_crossed}
use Rattle.dsm_laws_runs.proofs.Epochs.{in_step}
use Rattle.dsm_laws_runs.proofs.CopiesKept.{copies_own}
use Rattle.dsm_laws_runs.proofs.Agreements.{agrees_with}
use Rattle.dsm_laws_runs.proofs.Newer.{newer_take}
use Rattle.dsm_laws_protocol.specs.Courses.{takes, still, move_of, moves_of, made_by, held_by, Follows, IsCourse}
use Rattle.dsm_laws_protocol.specs.Situations.{is_apart, is_waiting, is_granted, has_taken, IsGrant, Situation, StandsIn, IsLawful}
use Rattle.dsm_laws_protocol.specs.Steps.{Step, turns_of}
use Rattle.dsm_laws_protocol.specs.Worlds.{World, grants_said, situation_at}
use Rattle.dsm_laws_protocol.proofs.Families.{if_same, total_same}
use Rattle.dsm_laws_protocol.proofs.Courses.{upto_all, held_has, newest_claim, whole_handled}
use Rattle.dsm_laws_protocol.proofs.Turns.{found_fresh, some_fresh}
use Rattle.dsm_laws_protocol.proofs.Rights.{IsTakeable, takeable, beside, newest}
use Rattle.dsm_laws_protocol.proofs.Journeys.{found_for}
use Rattle.dsm_laws_protocol.proofs.Threads.{is_other, Answer, ByTake, ByAsk, ByGive, ByOther, answered}
use Rattle.dsm_laws_protocol.proofs.Own.{IsOwnTurn, label_follows}
use Rattle.dsm_laws_protocol.proofs.Reached.{IsReached}
use Rattle.dsm_laws_history.specs.NewerLines.{line_at, lines_between, lines_of_crossing, Brings, AreNewer, IsOpening}
use Rattle.dsm_laws_history.proofs.Lines.{overlaid_chosen}
use Rattle.dsm_laws_history.proofs.BarrierLines.{crossing_renews}
use Rattle.dsm_laws_history.proofs.Labels.{IsSameSight, IsFreeToGo, plain_label}
use Rattle.dsm_laws_history.proofs.OwnParts.{versions_total}
use Rattle.dsm_laws_history.proofs.Effects.{both_are, same_numbers}
use Rattle.dsm_laws_history.proofs.Reached.{HasCopy, HasHistory}

-- what is found passes the test, and has what all have
pub found_has : {X : Type 0} (P : X → Type 0) (test : X → Bool) (xs : List X) (x : X) → AllByRecursion P xs → find test xs ≡ Some x → P x × (test x ≡ true)
found_has P test [] x all e = cc
found_has {X} P test (y ∷ xs) x all e = go (test y) refl (found_has P test xs x all.1)
  where
    go : (b : Bool) → test y ≡ b → (find test xs ≡ Some x → P x × (test x ≡ true)) → P x × (test x ≡ true)
    go true t more = let s : Some y ≡ Some x = rw t at e in let k : y ≡ x = cc in (subst P k all.0, ap test (sym k) ∙ t)
    go false t more = more (rw t at e)

-- a grant that answers a want
pub record IsAnswered {S : Type 0} (s : Processor S) (lock : Lock) (input : Input) : Type 0 where
  pub grant : MailGrant
  pub is_found : find (is_grant_for (s.own.turns + 1) lock.0) s.mail.grants ≡ Some grant
  pub is_input : input ≡ input_of_grant grant

pub answered_by : {S : Type 0} (s : Processor S) (lock : Lock) (mode : Mode) (want : Want) (input : Input) → want ≡ Want.Take lock mode → input_for s want ≡ Some input → IsAnswered s lock input
answered_by s lock mode want input w e = go (find (is_grant_for (s.own.turns + 1) lock.0) s.mail.grants) refl (rw w at e)
  where
    go : (o : Option MailGrant) → find (is_grant_for (s.own.turns + 1) lock.0) s.mail.grants ≡ o → option_map input_of_grant o ≡ Some input → IsAnswered s lock input
    go None i k = cc
    go (Some grant) i k = record { grant = grant; is_found = i; is_input = let same : input_of_grant grant ≡ input = cc in sym same }

-- an opening that answers a want
pub record IsOpened {S : Type 0} (s : Processor S) (bar : Bar) (input : Input) : Type 0 where
  pub opening : MailOpening
  pub is_found : find (is_opening_of bar.0 (s.own.crossed bar.0 + 1)) s.mail.openings ≡ Some opening
  pub is_input : input ≡ input_of_opening opening

pub opened_by : {S : Type 0} (s : Processor S) (bar : Bar) (want : Want) (input : Input) → want ≡ Want.Cross bar → input_for s want ≡ Some input → IsOpened s bar input
opened_by s bar want input w e = go (find (is_opening_of bar.0 (s.own.crossed bar.0 + 1)) s.mail.openings) refl (rw w at e)
  where
    go : (o : Option MailOpening) → find (is_opening_of bar.0 (s.own.crossed bar.0 + 1)) s.mail.openings ≡ o → option_map input_of_opening o ≡ Some input → IsOpened s bar input
    go None i k = cc
    go (Some opening) i k = record { opening = opening; is_found = i; is_input = let same : input_of_opening opening ≡ input = cc in sym same }

-- only a take and a crossing need lines
other_lines : {S : Type 0} (s : Processor S) (want : Want) (input : Input) → ((lock : Lock) (mode : Mode) → want ≢ Want.Take lock mode) → ((bar : Bar) → want ≢ Want.Cross bar) → input_for s want ≡ Some input → input.lines ≡ []
other_lines s (Want.Take lock mode) input no_take no_cross e = absurd (no_take lock mode refl)
other_lines s (Want.Cross bar) input no_take no_cross e = absurd (no_cross bar refl)
other_lines s want input no_take no_cross e = let k : record { number = 0; lines = [] } ≡ input = cc in ap (λ (i : Input). i.lines) (sym k)

-- who wants to cross a barrier has the label of that crossing, and nobody else has
pub want_of_cross : (pieces : List Piece) (p : ℕ) (seen : Surroundings) (text : List ℕ) (want : Want) (label : Label) → label_of pieces p seen text want ≡ Some label → (bar : Bar) → want ≡ Want.Cross bar → label ≡ Label.Cross bar (seen.rights.crossed bar.0 + 1)
want_of_cross pieces p seen text want label e bar w = let k : Some (Label.Cross bar (seen.rights.crossed bar.0 + 1)) ≡ Some label = rw w at e in cc

pub cross_of_label : (pieces : List Piece) (p : ℕ) (seen : Surroundings) (text : List ℕ) (want : Want) (bar : Bar) (epoch : ℕ) → label_of pieces p seen text want ≡ Some (Label.Cross bar epoch) → want ≡ Want.Cross bar
cross_of_label pieces p seen text want bar epoch e = grind arith

-- the mode of the grant that is found is that in which the lock is taken
taken_mode : (procs : ℕ) (s : Situation) (h : IsLawful procs s) (q : ℕ) (grant : MailGrant) (mode : Mode) (version : ℕ) → find (λ one. one.turn == length (s.moves q) + 1) (s.grants q) ≡ Some grant → Follows (s.moves q) (takes mode version) → grant.mode ≡ mode
taken_mode procs s h q grant mode version e follows = go (h.stands q)
  where
    go : StandsIn s q → grant.mode ≡ mode
    go (is_apart c m w f) = absurd (some_fresh (length (s.moves q)) grant (s.grants q) e f)
    go (is_waiting claim own c m w l f) = absurd (some_fresh (length (s.moves q)) grant (s.grants q) e f)
    go (has_taken claim c m w g u f) = absurd (some_fresh (length (s.moves q)) grant (s.grants q) e f)
    go (is_granted claim c m w l f) =
        let is : IsGrant claim s.state.version grant = found_fresh (length (s.moves q)) claim s.state.version grant (s.grants q) e f.each in
        let t : (number : ℕ) × (takes mode version ≡ takes claim.mode number) = newest_claim (s.moves q) claim (takes mode version) (rw (whole_handled (s.handled q) (s.moves q) claim (h.within q) c l) at c) l follows in
        let k : mode ≡ claim.mode = (let x = t.1 in cc) in
        is.is_mode ∙ sym k

module _ {S : Type 0} (setup : Setup) (first : ℕ → S) (threads : Semantics S) (ask_first : AllAskFirst setup first threads) (w : World S) (steps : List Step) (h : IsReached setup first threads w) (is : HasHistory setup first threads w steps)
    (p : ℕ) (lt : p < setup.procs) (turn : OwnTurn) (own : IsOwnTurn setup threads p (w.processors p) turn) where
  abbrev s : Processor S
  s = w.processors p

  abbrev run : List Turn
  run = turns_of steps

  abbrev plain : PlainState S
  plain = after_run first threads run

  abbrev want : Want
  want = threads.want s.own.thread

  thread_same : plain.threads p ≡ s.own.thread
  thread_same = own_thread first threads run p ∙ ap (state_after threads (first p)) (sym (is.courses p)) ∙ sym (h.owns p).thread

  pub held_same : (q : ℕ) → (w.processors q).own.held ≡ plain.held q
  held_same q = (is.owns q).held ∙ sym (own_held first threads run q)

  -- A take.

  pub record IsTaking (lock : Lock) (mode : Mode) (grant : MailGrant) : Type 0 where
    pub possible : can_take setup.procs plain.held p lock.0 mode ≡ true
    pub is_version : grant.version ≡ plain.versions lock.0
    pub are_lines : grant.lines ≡ lines_between setup first threads run lock.0 (own_versions_of (labels_of p run) lock.0) grant.version

  module _ (lock : Lock) (mode : Mode) (grant : MailGrant) (found : find (is_grant_for (s.own.turns + 1) lock.0) s.mail.grants ≡ Some grant) (takes_it : Follows (moves_of lock.0 (w.courses p)) (takes mode own.input.number)) where
    abbrev situation : Situation
    situation = situation_at setup w lock.0

    lawful : IsLawful setup.procs situation
    lawful = h.lawful lock.0

    in_situation : find (λ (one : MailGrant). one.turn == length (situation.moves p) + 1) (situation.grants p) ≡ Some grant
    in_situation = subst (λ n. find (λ (one : MailGrant). one.turn == n + 1) (situation.grants p) ≡ Some grant) ((h.owns p).turns ∙ sym (length-map (w.courses p) (move_of lock.0)))
        (found_for (s.own.turns + 1) lock.0 grant s.mail.grants (grants_said lock.0 (w.channels (home_of setup lock.0) p)) found)

    take : IsTakeable setup.procs situation lawful p grant
    take = takeable setup.procs situation lawful p grant in_situation

    is_mode : grant.mode ≡ mode
    is_mode = taken_mode setup.procs situation lawful p grant mode own.input.number in_situation takes_it

    newest_is : newest setup.procs situation ≡ plain.versions lock.0
    newest_is =
        total_same setup.procs _ _ (λ q. ap (λ labels. made_by (moves_of lock.0 labels)) (is.courses q))
        ∙ sym (versions_total setup first threads lock.0 run is.is_run (λ q. subst (λ labels. IsCourse (moves_of lock.0 labels)) (is.courses q) (lawful.courses q)))

    stands : (q : ℕ) (o : Option Mode) → plain.held q lock.0 ≡ o → (b : Bool) → (q == p) ≡ b → ((q == p) || may_stand_beside mode (plain.held q lock.0)) ≡ true
    stands q o e true t = rw t refl
    stands q None e false t = rw (t, e) refl
    stands q (Some n) e false t =
        let held : held_by (situation.moves q) ≡ Some n = sym ((h.owns q).held lock.0) ∙ ap (λ f. f lock.0) (held_same q) ∙ e in
        rw (t, e) (subst (λ m. may_stand_beside m (Some n) ≡ true) is_mode (fits grant.mode n (beside setup.procs situation lawful p q grant n t take (held_has (situation.moves q) n (lawful.courses q) held))))
      where
        fits : (m n : Mode) → are_compatible m n ≡ true → may_stand_beside m (Some n) ≡ true
        fits m n c = grind arith

    taking : IsTaking lock mode grant
    taking = record {
      possible = all_from setup.procs (λ q. (q == p) || may_stand_beside mode (plain.held q lock.0)) (λ q less. stands q (plain.held q lock.0) refl (q == p) refl);
      is_version = take.is_newest ∙ newest_is;
      are_lines =
          (let has = found_has (λ (g : MailGrant). AreNewer setup first threads run p g.turn g.lock.0 g.version g.lines) (is_grant_for (s.own.turns + 1) lock.0) s.mail.grants grant (is.truths p).mail found in
          let test = both_are (grant.turn == s.own.turns + 1) (grant.lock.0 == lock.0) has.1 in
          let is_turn : grant.turn ≡ s.own.turns + 1 = same_numbers grant.turn (s.own.turns + 1) test.0 in
          let is_lock : grant.lock.0 ≡ lock.0 = same_numbers grant.lock.0 lock.0 test.1 in
          let count : length (labels_of p run) ≤ grant.turn - 1 = (let k = (is.owns p).turns in omega arith) in
          let newer : AreNewer setup first threads run p grant.turn lock.0 grant.version grant.lines = subst (λ l. AreNewer setup first threads run p grant.turn l grant.version grant.lines) is_lock has.0 in
          newer.are_lines ∙ ap (λ labels. lines_between setup first threads run lock.0 (own_versions_of labels lock.0) grant.version) (upto_all (grant.turn - 1) (labels_of p run) count));
    }

  -- Any turn.

  follows : (lock : ℕ) → Follows (moves_of lock (w.courses p)) (move_of lock turn.label)
  follows = label_follows setup threads (first p) p s turn own (w.courses p) (h.owns p) (ask_first.asks p lt) (λ lock. (h.lawful lock).courses p)

  take_label : (lock : Lock) (mode : Mode) → want ≡ Want.Take lock mode → Label.Take lock mode own.input.number ≡ turn.label
  take_label lock mode e = let k : Some (Label.Take lock mode own.input.number) ≡ Some turn.label = rw e at own.is_label in cc

  follows_take : (lock : Lock) (mode : Mode) → want ≡ Want.Take lock mode → Follows (moves_of lock.0 (w.courses p)) (takes mode own.input.number)
  follows_take lock mode e = subst (Follows (moves_of lock.0 (w.courses p))) (if_same lock.0 (takes mode own.input.number) still) (subst (λ label. Follows (moves_of lock.0 (w.courses p)) (move_of lock.0 label)) (sym (take_label lock mode e)) (follows lock.0))

  -- what a take finds
  pub record IsTaken (lock : Lock) (mode : Mode) : Type 0 where
    pub possible : can_take setup.procs plain.held p lock.0 mode ≡ true
    pub is_version : own.input.number ≡ plain.versions lock.0
    pub are_lines : own.input.lines ≡ lines_between setup first threads run lock.0 (own_versions_of (labels_of p run) lock.0) own.input.number

  taken : (lock : Lock) (mode : Mode) → want ≡ Want.Take lock mode → IsTaken lock mode
  taken lock mode e =
      let by : IsAnswered s lock own.input = answered_by s lock mode want own.input e own.is_input in
      let it : IsTaking lock mode by.grant = taking lock mode by.grant by.is_found (follows_take lock mode e) in
      let n : own.input.number ≡ by.grant.version = ap (λ (i : Input). i.number) by.is_input in
      record {
        possible = it.possible;
        is_version = n ∙ it.is_version;
        are_lines = ap (λ (i : Input). i.lines) by.is_input ∙ it.are_lines ∙ ap (lines_between setup first threads run lock.0 (own_versions_of (labels_of p run) lock.0)) (sym n);
      }

  -- what a crossing finds
  record IsCrossed (bar : Bar) : Type 0 where
    possible : can_cross setup.procs plain.arrived (plain.crossed p bar.0) bar.0 ≡ true
    are_lines : own.input.lines ≡ lines_of_crossing setup run bar.0 (plain.crossed p bar.0 + 1) p

  crossed_same : s.own.crossed ≡ plain.crossed p
  crossed_same = (is.owns p).crossed ∙ sym (own_crossed first threads run p)

  crossing : (bar : Bar) → want ≡ Want.Cross bar → IsCrossed bar
  crossing bar e =
      let by : IsOpened s bar own.input = opened_by s bar want own.input e own.is_input in
      let has = found_has (λ (o : MailOpening). IsOpening setup run p o.bar.0 o.epoch o.lines) (is_opening_of bar.0 (s.own.crossed bar.0 + 1)) s.mail.openings by.opening (is.truths p).openings by.is_found in
      let test = both_are (by.opening.bar.0 == bar.0) (by.opening.epoch == s.own.crossed bar.0 + 1) has.1 in
      let is_bar : by.opening.bar.0 ≡ bar.0 = same_numbers by.opening.bar.0 bar.0 test.0 in
      let is_epoch : by.opening.epoch ≡ plain.crossed p bar.0 + 1 = same_numbers by.opening.epoch (s.own.crossed bar.0 + 1) test.1 ∙ ap (λ f. f bar.0 + 1) crossed_same in
      let opening : IsOpening setup run p bar.0 (plain.crossed p bar.0 + 1) by.opening.lines =
      subst (λ n. IsOpening setup run p bar.0 n by.opening.lines) is_epoch (subst (λ b. IsOpening setup run p b by.opening.epoch by.opening.lines) is_bar has.0) in
      record {
        possible = all_from setup.procs (λ q. nat_lt (plain.crossed p bar.0) (plain.arrived q bar.0))
            (λ q less. over (plain.crossed p bar.0) (plain.arrived q bar.0) (let k = opening.all_came q less in let a : plain.arrived q bar.0 ≡ arrived_of (labels_of q run) bar.0 = ap (λ f. f bar.0) (own_arrived first threads run q) in omega arith));
        are_lines = ap (λ (i : Input). i.lines) by.is_input ∙ opening.are_lines;
      }
    where
      over : (n m : ℕ) → n + 1 ≤ m → nat_lt n m ≡ true
      over n m le = grind arith

  -- who wants to load has crossed what it came to
  not_between : (cell : Cell) (line : ℕ) → want ≡ Want.Load cell line → is_between setup.bindings plain p cell.0 ≡ false
  not_between cell line e = at (piece_of setup.bindings cell.0)
    where
      crossed_all : (bar : ℕ) → plain.arrived p bar ≡ plain.crossed p bar
      crossed_all bar = let k : IsInStep threads plain p bar = in_step setup first threads ask_first run is.is_run p lt bar in
          let wanted : threads.want (plain.threads p) ≡ Want.Load cell line = ap threads.want thread_same ∙ e in
          rw wanted at k

      none : (m n : ℕ) → n ≡ m → nat_lt m n ≡ false
      none m n e = grind arith

      at_object : (object : Object) → is_between_at (plain.arrived p) (plain.crossed p) object ≡ false
      at_object (Object.Lock lock) = refl
      at_object (Object.Bar bar) = none (plain.crossed p bar.0) (plain.arrived p bar.0) (crossed_all bar.0)

      at : (o : Option Piece) → is_between_of (plain.arrived p) (plain.crossed p) o ≡ false
      at None = refl
      at (Some piece) = at_object piece.object

  abbrev copies : HasCopy setup first threads run p s.own.copy
  copies = is.copies p lt

  loads_same : (cell : Cell) (line : ℕ) → want ≡ Want.Load cell line → may_load setup.bindings p (seen_by plain p).rights cell.0 ≡ true → s.own.copy cell.0 ≡ plain.memory cell.0
  loads_same cell line e may = ap (λ f. f cell.0) copies.is_copy ∙ (agrees_with setup first threads run p copies.turns copies.has).same_copy cell.0 may (not_between cell line e)

  same_sight : IsSameSight setup.bindings p (own_view s.own own.input.number) (seen_by plain p) want
  same_sight = record {
    rights = ap₂ (λ held crossed. record { held = held; crossed = crossed }) (held_same p) crossed_same;
    memory = loads_same;
    versions = λ lock mode e. (taken lock mode e).is_version;
  }

  free_to_go : IsFreeToGo setup.procs plain p want
  free_to_go = record { takes = λ lock mode e. (taken lock mode e).possible; crosses = λ bar e. (crossing bar e).possible }

  pub is_plain : plain_turn setup threads plain p ≡ Some turn.label
  is_plain = subst (λ x. plain_turn_of setup plain p (threads.text x) (threads.want x) ≡ Some turn.label) (sym thread_same)
      (plain_label setup p (own_view s.own own.input.number) plain (threads.text s.own.thread) want turn.label same_sight free_to_go own.is_label)

  -- What it brings.

  no_lines : ((lock : Lock) (mode : Mode) → want ≢ Want.Take lock mode) → ((bar : Bar) → want ≢ Want.Cross bar) → turn.lines ≡ []
  no_lines no_take no_cross = own.is_lines ∙ other_lines s want own.input no_take no_cross own.is_input

  -- who makes another turn than a crossing didn't want to cross
  wants_no_cross : (label : Label) → turn.label ≡ label → ((bar : Bar) (epoch : ℕ) → label ≢ Label.Cross bar epoch) → (bar : Bar) → want ≢ Want.Cross bar
  wants_no_cross label l none bar e =
      none bar (s.own.crossed bar.0 + 1) (sym l ∙ want_of_cross setup.bindings p (own_view s.own own.input.number) (threads.text s.own.thread) want turn.label own.is_label bar e)

  cross_lines : (bar : Bar) (epoch : ℕ) → turn.label ≡ Label.Cross bar epoch → turn.lines ≡ lines_of_crossing setup run bar.0 epoch p
  cross_lines bar epoch l =
      let labelled : label_of setup.bindings p (own_view s.own own.input.number) (threads.text s.own.thread) want ≡ Some (Label.Cross bar epoch) = own.is_label ∙ ap Some l in
      let wanted : want ≡ Want.Cross bar = cross_of_label setup.bindings p (own_view s.own own.input.number) (threads.text s.own.thread) want bar epoch labelled in
      let same : Label.Cross bar epoch ≡ Label.Cross bar (s.own.crossed bar.0 + 1) = want_of_cross setup.bindings p (own_view s.own own.input.number) (threads.text s.own.thread) want (Label.Cross bar epoch) labelled bar wanted in
      let number : epoch ≡ s.own.crossed bar.0 + 1 = cc in
      own.is_lines ∙ (crossing bar wanted).are_lines ∙ ap (λ n. lines_of_crossing setup run bar.0 n p) (sym (number ∙ ap (λ f. f bar.0 + 1) crossed_same))

  brings_other : (label : Label) → turn.label ≡ label → is_other label ≡ true → ((lock : Lock) (mode : Mode) → want ≢ Want.Take lock mode) → Brings setup first threads run p label turn.lines
  brings_other (Label.Take lock mode version) l o no_take = cc
  brings_other (Label.Cross bar epoch) l o no_take = cross_lines bar epoch l
  brings_other Label.Quiet l o no_take = no_lines no_take (wants_no_cross Label.Quiet l (λ bar epoch e. cc))
  brings_other (Label.Load cell value) l o no_take = no_lines no_take (wants_no_cross (Label.Load cell value) l (λ bar epoch e. cc))
  brings_other (Label.Store cell value) l o no_take = no_lines no_take (wants_no_cross (Label.Store cell value) l (λ bar epoch e. cc))
  brings_other (Label.Ask lock mode) l o no_take = no_lines no_take (wants_no_cross (Label.Ask lock mode) l (λ bar epoch e. cc))
  brings_other (Label.Give lock) l o no_take = no_lines no_take (wants_no_cross (Label.Give lock) l (λ bar epoch e. cc))
  brings_other (Label.Arrive bar) l o no_take = no_lines no_take (wants_no_cross (Label.Arrive bar) l (λ other epoch e. cc))
  brings_other (Label.Line text) l o no_take = no_lines no_take (wants_no_cross (Label.Line text) l (λ bar epoch e. cc))
  brings_other Label.End l o no_take = no_lines no_take (wants_no_cross Label.End l (λ bar epoch e. cc))
  brings_other (Label.Stop fault line) l o no_take = no_lines no_take (wants_no_cross (Label.Stop fault line) l (λ bar epoch e. cc))

  pub brings : Brings setup first threads run p turn.label turn.lines
  brings = go (answered setup.bindings p (own_view s.own own.input.number) (threads.text s.own.thread) want turn.label own.is_label)
    where
      go : Answer want s.own.held turn.label → Brings setup first threads run p turn.label turn.lines
      go (ByTake lock mode version e l) = subst (λ label. Brings setup first threads run p label turn.lines) (take_label lock mode e) (own.is_lines ∙ (taken lock mode e).are_lines)
      go (ByAsk lock mode line e l f) = subst (λ label. Brings setup first threads run p label turn.lines) (sym l) (no_lines (λ other m k. let x : Want.Ask lock mode line ≡ Want.Take other m = sym e ∙ k in cc) (λ bar k. let x : Want.Ask lock mode line ≡ Want.Cross bar = sym e ∙ k in cc))
      go (ByGive lock n l f) = subst (λ label. Brings setup first threads run p label turn.lines) (sym l) (no_lines n (wants_no_cross (Label.Give lock) l (λ bar epoch e. cc)))
      go (ByOther n o) = brings_other turn.label refl o n

  -- What it leaves of the copy.

  renewed : (label : Label) (lines : List Line) → plain_turn setup threads plain p ≡ Some label → Brings setup first threads run p label lines →
      Renews setup (memories_of setup first threads run) p label (newest_copy copies.turns) (overlaid setup.bindings (memory_after (newest_copy copies.turns) label) lines)
  renewed (Label.Take lock mode version) lines e b =
      newer_take (line_at setup.bindings) setup first threads run p copies.turns copies.has lock mode version record { is_processor = lt; is_label = e } (overlaid setup.bindings (newest_copy copies.turns) lines)
      (λ cell. ap (λ ls. overlaid setup.bindings (newest_copy copies.turns) ls cell) b
      ∙ overlaid_chosen setup lock (is_newer (line_at setup.bindings) setup first threads run lock.0 (own_versions_of (labels_of p run) lock.0) version) (memory_at first threads run lock.0 version) (newest_copy copies.turns) cell)
  renewed (Label.Cross bar epoch) lines e b =
      subst (λ ls. Renews setup (memories_of setup first threads run) p (Label.Cross bar epoch) (newest_copy copies.turns) (overlaid setup.bindings (newest_copy copies.turns) ls)) (sym b)
      (crossing_renews setup first threads run p copies.turns copies.has bar epoch record { is_processor = lt; is_label = e })
  renewed label lines e b = λ cell. ap (λ ls. overlaid setup.bindings (memory_after (newest_copy copies.turns) label) ls cell) b

  pub is_turn : IsPlainTurn setup threads plain record { proc = p; label = turn.label }
  is_turn = record { is_processor = lt; is_label = is_plain }

  pub copy_now : HasCopy setup first threads (record { proc = p; label = turn.label } ∷ run) p (overlaid setup.bindings (memory_after s.own.copy turn.label) turn.lines)
  copy_now =
      let now : ℕ → ℤ = overlaid setup.bindings (memory_after (newest_copy copies.turns) turn.label) turn.lines in
      record {
        turns = record { label = turn.label; copy = now } ∷ copies.turns;
        has = copies_own setup first threads p record { proc = p; label = turn.label } run copies.turns copies.has is_turn refl now (renewed turn.label turn.lines is_plain brings);
        is_copy = ap (λ copy. overlaid setup.bindings (memory_after copy turn.label) turn.lines) copies.is_copy;
      }
