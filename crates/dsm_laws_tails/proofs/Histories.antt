-- How a history goes on: by a turn, by turns that settle, and by turns that are lost.
use Rattle.std.specs.Prelude.{◌≡◌, ◌≢◌, ℕ, ◌≤◌, List, [], ◌∷◌, ◌++◌}
use Rattle.std.proofs.Common.{arith, refl, sym, ap, ◌∙◌, append_assoc, append-nil}
use Rattle.dsm_base.specs.declared.label.Label.{Label}
use Rattle.dsm_base.specs.declared.setup.Setup.{Setup}
use Rattle.dsm_base.specs.Threads.{Semantics}
use Rattle.dsm_base.specs.Plain.{Turn, IsPlainRun, IsPlainTurn, after_run, labels_of}
use Rattle.dsm_laws_runs.specs.Versions.{AllAskFirst}
use Rattle.dsm_laws_runs.specs.Swap.{IsRunLike}
use Rattle.dsm_laws_runs.proofs.Each.{for_each}
use Rattle.dsm_laws_runs.proofs.OwnPart.{no_labels}
use Rattle.dsm_laws_tails.specs.Shuffles.{HasLabel, AreIndependent, IsShuffle, CanShuffle}
use Rattle.dsm_laws_tails.specs.Fronts.{turns_by, AreWith}
use Rattle.dsm_laws_tails.specs.Histories.{turns_of_tails, whole_of, IsHistory, IsHistoryLike}
use Rattle.dsm_laws_tails.proofs.Places.{has_nothing, has_later, has_earlier, labels_join}
use Rattle.dsm_laws_tails.proofs.Shuffles.{shuffled}
use Rattle.dsm_laws_tails.proofs.Fronts.{labels_by, labels_by_other, tail_of, tails_shuffle}

-- what a run begins with is one
pub older_run : {S : Type 0} (setup : Setup) (first : ℕ → S) (threads : Semantics S) (more before : List Turn) → IsPlainRun setup first threads (more ++ before) → IsPlainRun setup first threads before
older_run setup first threads [] before is_run = is_run
older_run setup first threads (turn ∷ more) before is_run = older_run setup first threads more before is_run.0

with_none : (procs : ℕ) (tails others : ℕ → List Label) (p : ℕ) (tail : List Label) → AreWith tails p tail others → (procs ≤ p → tail ≡ []) → ((q : ℕ) → procs ≤ q → tails q ≡ []) →
    (q : ℕ) → procs ≤ q → others q ≡ []
with_none procs tails others p tail are own none q = for_each (λ q. procs ≤ q → others q ≡ []) p q (λ past. are.own ∙ own past) (λ ne past. are.same q ne ∙ none q past)

-- a processor's turns are its settled ones and its tail
pub course_is : (setup : Setup) (settled : List Turn) (tails : ℕ → List Label) (p : ℕ) → (setup.procs ≤ p → tails p ≡ []) → labels_of p (whole_of setup settled tails) ≡ tails p ++ labels_of p settled
course_is setup settled tails p none = labels_join p (turns_of_tails setup.procs tails) settled ∙ ap (λ tail. tail ++ labels_of p settled) (tail_of setup.procs tails p none)

-- a part of an empty list is empty
part_none : (newer older : List Label) → [] ≡ newer ++ older → (newer ≡ []) × (older ≡ [])
part_none [] older e = (refl, sym e)
part_none (label ∷ newer) older e = absurd (cc e)

module _ {S : Type 0} (setup : Setup) (first : ℕ → S) (threads : Semantics S) where
  -- a history from any order
  pub history_of : (settled : List Turn) (tails : ℕ → List Label) (turns : List Turn) → CanShuffle setup first threads settled tails turns → IsHistoryLike setup first threads settled tails (turns ++ settled)
  history_of settled tails turns can =
      let like : IsRunLike setup first threads (whole_of setup settled tails) (turns ++ settled) =
      shuffled setup first threads can.ask_first settled tails turns (turns_of_tails setup.procs tails) can (tails_shuffle setup.procs tails none) in
      record { history = record { ask_first = can.ask_first; independent = can.independent; no_others = none; is_run = like.is_run }; like = like }
    where
      none : (p : ℕ) → setup.procs ≤ p → tails p ≡ []
      none p past = sym (can.is_shuffle p) ∙ less (labels_of p turns) (labels_of p settled) (sym (labels_join p turns settled) ∙ no_labels first threads setup (turns ++ settled) can.is_run p past)
        where
          less : (xs ys : List Label) → xs ++ ys ≡ [] → xs ≡ []
          less xs ys e = (part_none xs ys (sym e)).0

  -- at the start there are no turns
  pub starts : AllAskFirst setup first threads → IsHistory setup first threads [] (λ p. [])
  starts ask_first = (history_of [] (λ p. []) [] (record {
    ask_first = ask_first;
    independent = λ p q lt ne one other older others has_one has_other. absurd (has_nothing one older has_one);
    is_shuffle = λ p. refl;
    is_run = tt;
  })).history

  module _ (settled : List Turn) (tails : ℕ → List Label) (is : IsHistory setup first threads settled tails) where
    abbrev whole : List Turn
    whole = whole_of setup settled tails

    pub can_shuffle : CanShuffle setup first threads settled tails (turns_of_tails setup.procs tails)
    can_shuffle = record { ask_first = is.ask_first; independent = is.independent; is_shuffle = tails_shuffle setup.procs tails is.no_others; is_run = is.is_run }

    -- any order of the tails
    pub in_any_order : (turns : List Turn) → IsShuffle tails turns → IsRunLike setup first threads (turns ++ settled) whole
    in_any_order turns is_shuffle = shuffled setup first threads is.ask_first settled tails (turns_of_tails setup.procs tails) turns can_shuffle is_shuffle

    -- a turn of p after all of it
    pub goes_on : (p : ℕ) (label : Label) (others : ℕ → List Label) → AreWith tails p (label ∷ tails p) others →
        IsPlainTurn setup threads (after_run first threads whole) (record { proc = p; label = label }) → AreIndependent setup settled others →
        IsHistoryLike setup first threads settled others (record { proc = p; label = label } ∷ whole)
    goes_on p label others are is_turn independent = history_of settled others (record { proc = p; label = label } ∷ turns_of_tails setup.procs tails) (record {
      ask_first = is.ask_first;
      independent = independent;
      is_shuffle = λ q. for_each (λ q. labels_of q (record { proc = p; label = label } ∷ turns_of_tails setup.procs tails) ≡ others q) p q
          (mine p label (turns_of_tails setup.procs tails) ∙ ap (λ tail. label ∷ tail) (can_shuffle.is_shuffle p) ∙ sym are.own)
          (λ ne. other p q label (turns_of_tails setup.procs tails) ne ∙ can_shuffle.is_shuffle q ∙ sym (are.same q ne));
      is_run = (is.is_run, is_turn);
    })
      where
        mine : (p : ℕ) (label : Label) (turns : List Turn) → labels_of p (record { proc = p; label = label } ∷ turns) ≡ label ∷ labels_of p turns
        mine p label turns = grind arith

        other : (p q : ℕ) (label : Label) (turns : List Turn) → p ≢ q → labels_of q (record { proc = p; label = label } ∷ turns) ≡ labels_of q turns
        other p q label turns ne = grind arith

    -- p's tail in two parts
    module _ (p : ℕ) (newer older : List Label) (is_tail : tails p ≡ newer ++ older) (others : ℕ → List Label) where
      no_part : setup.procs ≤ p → (newer ≡ []) × (older ≡ [])
      no_part past = part_none newer older (sym (is.no_others p past) ∙ is_tail)

      module _ (are : AreWith tails p newer others) where
        none_newer : (q : ℕ) → setup.procs ≤ q → others q ≡ []
        none_newer = with_none setup.procs tails others p newer are (λ past. (no_part past).0) is.no_others

        older_first : IsShuffle tails (turns_of_tails setup.procs others ++ turns_by p older)
        older_first q =
            labels_join q (turns_of_tails setup.procs others) (turns_by p older)
            ∙ rw (tails_shuffle setup.procs others none_newer q)
            (for_each (λ q. others q ++ labels_of q (turns_by p older) ≡ tails q) p q (rw (labels_by p older, are.own) (sym is_tail))
            (λ ne. rw (labels_by_other p q older ne, are.same q ne) (append-nil (tails q))))

        pub settled_like : IsRunLike setup first threads (whole_of setup (turns_by p older ++ settled) others) whole
        settled_like = rw (← append_assoc (turns_of_tails setup.procs others) (turns_by p older) settled) (in_any_order (turns_of_tails setup.procs others ++ turns_by p older) older_first)

        -- a label of what is left was one of a tail, with the same labels before it
        abbrev Was : ℕ → Label → List Label → Type 0
        Was q label before = (before' : List Label) × HasLabel (tails q) label before' × (before' ++ labels_of q settled ≡ before ++ labels_of q (turns_by p older ++ settled))

        was : (q : ℕ) (label : Label) (before : List Label) → HasLabel (others q) label before → Was q label before
        was q label before = for_each (λ q. HasLabel (others q) label before → Was q label before) p q
            (λ has. (
              before ++ older,
              rw is_tail (has_earlier newer older label before (rw are.own at has)),
              append_assoc before older (labels_of p settled) ∙ rw (labels_join p (turns_by p older) settled, labels_by p older) refl,
            ))
            (λ ne has. (before, rw (are.same q ne) at has, rw (labels_join q (turns_by p older) settled, labels_by_other p q older ne) refl))

        -- the older part settles
        pub settles : IsHistoryLike setup first threads (turns_by p older ++ settled) others whole
        settles = record {
          history = record {
            ask_first = is.ask_first;
            independent = λ q r lt ne one other before more has_one has_other.
                let one_was = was q one before has_one in
                let other_was = was r other more has_other in
                rw one_was.2 at (is.independent q r lt ne one other one_was.0 other_was.0 one_was.1 other_was.1);
            no_others = none_newer;
            is_run = settled_like.is_run;
          };
          like = settled_like;
        }

      module _ (are : AreWith tails p older others) where
        none_older : (q : ℕ) → setup.procs ≤ q → others q ≡ []
        none_older = with_none setup.procs tails others p older are (λ past. (no_part past).1) is.no_others

        newer_last : IsShuffle tails (turns_by p newer ++ turns_of_tails setup.procs others)
        newer_last q =
            labels_join q (turns_by p newer) (turns_of_tails setup.procs others)
            ∙ rw (tails_shuffle setup.procs others none_older q)
            (for_each (λ q. labels_of q (turns_by p newer) ++ others q ≡ tails q) p q (rw (labels_by p newer, are.own) (sym is_tail))
            (λ ne. rw (labels_by_other p q newer ne, are.same q ne) refl))

        -- the newer part may be put last
        pub last_like : IsRunLike setup first threads (turns_by p newer ++ whole_of setup settled others) whole
        last_like = rw (← append_assoc (turns_by p newer) (turns_of_tails setup.procs others) settled) (in_any_order (turns_by p newer ++ turns_of_tails setup.procs others) newer_last)

        had : (q : ℕ) (label : Label) (before : List Label) → HasLabel (others q) label before → HasLabel (tails q) label before
        had q label before = for_each (λ q. HasLabel (others q) label before → HasLabel (tails q) label before) p q
            (λ has. rw is_tail (has_later newer older label before (rw are.own at has))) (λ ne has. rw (are.same q ne) at has)

        -- or is lost
        pub loses : IsHistory setup first threads settled others
        loses = record {
          ask_first = is.ask_first;
          independent = λ q r lt ne one other before more has_one has_other. is.independent q r lt ne one other before more (had q one before has_one) (had r other more has_other);
          no_others = none_older;
          is_run = older_run setup first threads (turns_by p newer) (whole_of setup settled others) last_like.is_run;
        }
