-- Runs over one memory.
use Rattle.std.specs.Prelude.{◌≡◌, ℕ, ℤ, Bool, true, false, ◌==◌, if◌then◌else◌, List, [], ◌∷◌, Some, None}
use Rattle.std.proofs.Common.{refl, sym, ap, ◌∙◌, subst}
use Rattle.dsm_base.specs.declared.label.Label.{Label}
use Rattle.dsm_base.specs.declared.label.Want.{Want}
use Rattle.dsm_base.specs.declared.setup.Setup.{Setup}
use Rattle.dsm_base.specs.Family.{update}
use Rattle.dsm_base.specs.Threads.{Semantics, AnswersTo}
use Rattle.dsm_base.specs.Plain.{PlainState, Turn, seen_by, plain_after, is_possible, label_of, plain_turn_of, plain_turn, after_run, IsPlainRun}
use Rattle.dsm_base.specs.Agrees.{AgreesWith, HasMemory}
use Rattle.dsm_laws_code.specs.Runs.{RunsAs}
use Rattle.dsm_laws_same.proofs.Beside.{both, both_first, AreBeside, beside_first, beside_on, same_want, same_text, answers}
use Rattle.dsm_laws_same.specs.Images.{plain_by}

pub updated : {A B : Type 0} (g : A → B) (f : ℕ → A) (p : ℕ) (a : A) (b : B) → g a ≡ b → (q : ℕ) → g (update f p a q) ≡ update (λ r. g (f r)) p b q
updated g f p a b e q = go (q == p)
  where
    go : (test : Bool) → g (if test then a else f q) ≡ (if test then b else g (f q))
    go true = e
    go false = refl

possible_same : {P S : Type 0} (g : P → S) (procs : ℕ) (s : PlainState P) (p : ℕ) (want : Want) → is_possible procs (plain_by g s) p want ≡ is_possible procs s p want
possible_same g procs s p (Want.Take lock mode) = refl
possible_same g procs s p (Want.Cross bar) = refl
possible_same g procs s p _ = refl

turn_same : {P S : Type 0} (g : P → S) (setup : Setup) (s : PlainState P) (p : ℕ) (text : List ℕ) (want : Want) → plain_turn_of setup (plain_by g s) p text want ≡ plain_turn_of setup s p text want
turn_same g setup s p text want = ap (λ test. if test then label_of setup.bindings p (seen_by s p) text want else None) (possible_same g setup.procs s p want)

answers_plain : {S : Type 0} (setup : Setup) (s : PlainState S) (p : ℕ) (text : List ℕ) (want : Want) (label : Label) → plain_turn_of setup s p text want ≡ Some label → AnswersTo want label
answers_plain setup s p text want label is = go (is_possible setup.procs s p want) is
  where
    go : (test : Bool) → (if test then label_of setup.bindings p (seen_by s p) text want else None) ≡ Some label → AnswersTo want label
    go true e = answers setup.bindings p (seen_by s p) text want label e
    go false e = absurd cc

-- Any states in the place of others.

module _ {P S : Type 0} (g : P → S) (pairs : Semantics P) (threads : Semantics S) (after : (x : P) (label : Label) → g (pairs.after x label) ≡ threads.after (g x) label) (first : ℕ → P) where
  pub after_same : (run : List Turn) → after_run (λ p. g (first p)) threads run ≡ plain_by g (after_run first pairs run)
  after_same [] = refl
  after_same (turn ∷ before) =
      let s : PlainState P = after_run first pairs before in
      ap (λ one. plain_after threads one turn.proc turn.label) (after_same before)
      ∙ (λ i. record (plain_by g (plain_after pairs s turn.proc turn.label)) {
        threads = λ q. sym (updated g s.threads turn.proc (pairs.after (s.threads turn.proc) turn.label) (threads.after (g (s.threads turn.proc)) turn.label) (after (s.threads turn.proc) turn.label) q) i;
      })

module _ {S T : Type 0} (threads : Semantics S) (others : Semantics T) (first : ℕ → S) (start : ℕ → T) where
  abbrev beside_after : List Turn → PlainState (S × T)
  beside_after run = after_run (both_first first start) (both threads others) run

  first_after : (run : List Turn) → after_run first threads run ≡ plain_by (λ s. s.0) (beside_after run)
  first_after run = after_same (λ (s : S × T). s.0) (both threads others) threads (λ x label. refl) (both_first first start) run

  second_after : (run : List Turn) → after_run start others run ≡ plain_by (λ s. s.1) (beside_after run)
  second_after run = after_same (λ (s : S × T). s.1) (both threads others) others (λ x label. refl) (both_first first start) run

  -- what is so of the copy beside the one is so beside the other
  pub agrees : (setup : Setup) (run : List Turn) (p : ℕ) (labels : List Label) (copy : ℕ → ℤ) → AgreesWith setup first threads run p labels copy → AgreesWith setup start others run p labels copy
  agrees setup run p labels copy h = record {
    same_labels = h.same_labels;
    same_copy =
        let of_both : HasMemory setup.bindings (beside_after run) p copy = subst (λ s. HasMemory setup.bindings s p copy) (first_after run) h.same_copy in
        subst (λ s. HasMemory setup.bindings s p copy) (sym (second_after run)) of_both;
  }

  module _ (setup : Setup) (like : (p : ℕ) → RunsAs threads (first p) others (start p)) where
    -- the turn of the one kind is that of the other where both are beside each other
    first_turn : (s : PlainState (S × T)) (p : ℕ) → AreBeside threads others (s.threads p) → plain_turn setup threads (plain_by (λ one. one.0) s) p ≡ plain_turn setup (both threads others) s p
    first_turn s p beside =
        turn_same (λ (one : S × T). one.0) setup s p (threads.text (s.threads p).0) (threads.want (s.threads p).0)
        ∙ (λ i. plain_turn_of setup s p (same_text threads others (s.threads p) beside i) (same_want threads others (s.threads p) beside i))

    second_turn : (s : PlainState (S × T)) (p : ℕ) → plain_turn setup others (plain_by (λ one. one.1) s) p ≡ plain_turn setup (both threads others) s p
    second_turn s p = turn_same (λ (one : S × T). one.1) setup s p (others.text (s.threads p).1) (others.want (s.threads p).1)

    all_beside : (run : List Turn) → IsPlainRun setup (both_first first start) (both threads others) run → (p : ℕ) → AreBeside threads others ((beside_after run).threads p)
    all_beside [] is_run p = beside_first threads others (first p) (start p) (like p)
    all_beside (turn ∷ before) is_run p = go (p == turn.proc) (all_beside before is_run.0 turn.proc) (all_beside before is_run.0 p)
      where
        s : PlainState (S × T)
        s = beside_after before

        go : (test : Bool) → AreBeside threads others (s.threads turn.proc) → AreBeside threads others (s.threads p)
            → AreBeside threads others (if test then (both threads others).after (s.threads turn.proc) turn.label else s.threads p)
        go true mine rest = beside_on threads others (s.threads turn.proc) turn.label mine
            (answers_plain setup s turn.proc (others.text (s.threads turn.proc).1) (others.want (s.threads turn.proc).1) turn.label is_run.1.is_label)
        go false mine rest = rest

    of_second : (run : List Turn) → IsPlainRun setup start others run → IsPlainRun setup (both_first first start) (both threads others) run
    of_second [] is_run = tt
    of_second (turn ∷ before) is_run = (
      of_second before is_run.0,
      record {
        is_processor = is_run.1.is_processor;
        is_label = sym (second_turn (beside_after before) turn.proc) ∙ (ap (λ s. plain_turn setup others s turn.proc) (sym (second_after before)) ∙ is_run.1.is_label);
      },
    )

    of_first : (run : List Turn) → IsPlainRun setup first threads run → IsPlainRun setup (both_first first start) (both threads others) run
    of_first [] is_run = tt
    of_first (turn ∷ before) is_run =
        let rest = of_first before is_run.0 in (
          rest,
          record {
            is_processor = is_run.1.is_processor;
            is_label =
                sym (first_turn (beside_after before) turn.proc (all_beside before rest turn.proc)) ∙ (ap (λ s. plain_turn setup threads s turn.proc) (sym (first_after before)) ∙ is_run.1.is_label);
          },
        )

    to_first : (run : List Turn) → IsPlainRun setup (both_first first start) (both threads others) run → IsPlainRun setup first threads run
    to_first [] is_run = tt
    to_first (turn ∷ before) is_run = (
      to_first before is_run.0,
      record {
        is_processor = is_run.1.is_processor;
        is_label =
            ap (λ s. plain_turn setup threads s turn.proc) (first_after before) ∙ (first_turn (beside_after before) turn.proc (all_beside before is_run.0 turn.proc) ∙ is_run.1.is_label);
      },
    )

    to_second : (run : List Turn) → IsPlainRun setup (both_first first start) (both threads others) run → IsPlainRun setup start others run
    to_second [] is_run = tt
    to_second (turn ∷ before) is_run = (
      to_second before is_run.0,
      record {
        is_processor = is_run.1.is_processor;
        is_label = ap (λ s. plain_turn setup others s turn.proc) (second_after before) ∙ (second_turn (beside_after before) turn.proc ∙ is_run.1.is_label);
      },
    )

    -- the runs of both are the same
    pub runs : (run : List Turn) → IsPlainRun setup first threads run → IsPlainRun setup start others run
    runs run is_run = to_second run (of_first run is_run)

    pub runs_back : (run : List Turn) → IsPlainRun setup start others run → IsPlainRun setup first threads run
    runs_back run is_run = to_first run (of_second run is_run)
