-- Own copies as a history goes on.
use Rattle.std.specs.Prelude.{◌≡◌, ◌≢◌, ℕ, zero, suc, ◌<◌, ◌≤◌, nat_lt, if◌then◌else◌, List, [], ◌∷◌, ◌++◌, length}
use Rattle.std.proofs.Common.{arith, refl, sym, ap, ◌∙◌, subst, ⊎_elim}
use Rattle.std.proofs.lemmas.Bool.{cases_lt}
use Rattle.dsm_base.specs.declared.label.Label.{Label}
use Rattle.dsm_base.specs.declared.setup.Setup.{Setup}
use Rattle.dsm_base.specs.Threads.{Semantics}
use Rattle.dsm_base.specs.Plain.{Turn, IsPlainRun}
use Rattle.dsm_laws_runs.specs.Versions.{AllAskFirst}
use Rattle.dsm_laws_runs.specs.Swap.{IsRunLike}
use Rattle.dsm_laws_runs.specs.Copies.{OwnTurn, HasCopies}
use Rattle.dsm_laws_runs.proofs.CopiesKept.{copies_alike, copies_less_other, copies_less_own}
use Rattle.dsm_laws_tails.specs.Fronts.{upto, past, turns_by, AreWith}
use Rattle.dsm_laws_tails.specs.Histories.{turns_of_tails, whole_of, IsHistory}
use Rattle.dsm_laws_tails.specs.Shuffles.{HasLabel, AreIndependent}
use Rattle.dsm_laws_tails.proofs.Places.{has_nothing}
use Rattle.dsm_laws_tails.proofs.Fronts.{past_upto}
use Rattle.dsm_laws_tails.proofs.Histories.{last_like}

-- without the newest turns of one processor
module _ {S : Type 0} (setup : Setup) (first : ℕ → S) (threads : Semantics S) where
  less_other : (p q : ℕ) → p ≢ q → (newer : List Label) (before : List Turn) (turns : List OwnTurn) → HasCopies setup first threads (turns_by p newer ++ before) q turns → HasCopies setup first threads before q turns
  less_other p q ne [] before turns has = has
  less_other p q ne (label ∷ newer) before turns has =
      less_other p q ne newer before turns (copies_less_other setup first threads q (record { proc = p; label = label }) (turns_by p newer ++ before) turns has ne)

  less_own : (p : ℕ) (newer : List Label) (before : List Turn) (newest oldest : List OwnTurn) → length newest ≡ length newer → HasCopies setup first threads (turns_by p newer ++ before) p (newest ++ oldest) →
      HasCopies setup first threads before p oldest
  less_own p [] before [] oldest same has = has
  less_own p [] before (own ∷ newest) oldest same has = absurd (none (length newest) same)
    where
      none : (n : ℕ) → suc n ≡ 0 → ⊥
      none n e = omega arith
  less_own p (label ∷ newer) before [] oldest same has = absurd (none (length newer) same)
    where
      none : (n : ℕ) → 0 ≡ suc n → ⊥
      none n e = omega arith
  less_own p (label ∷ newer) before (own ∷ newest) oldest same has =
      less_own p newer before newest oldest (less (length newest) (length newer) same)
      (copies_less_own setup first threads p (record { proc = p; label = label }) (turns_by p newer ++ before) own (newest ++ oldest) has refl)
    where
      less : (n m : ℕ) → suc n ≡ suc m → n ≡ m
      less n m e = omega arith

-- Tails of processors of the setup: those of others are none, and the whole is the same.

abbrev cut : ℕ → (ℕ → List Label) → ℕ → List Label
cut procs tails q = if nat_lt q procs then tails q else []

cut_none : (procs : ℕ) (tails : ℕ → List Label) (q : ℕ) → procs ≤ q → cut procs tails q ≡ []
cut_none procs tails q past = grind arith

cut_same : (procs : ℕ) (tails : ℕ → List Label) (q : ℕ) → q < procs → cut procs tails q ≡ tails q
cut_same procs tails q lt = grind arith

cut_turns : (procs : ℕ) (tails : ℕ → List Label) (n : ℕ) → n ≤ procs → turns_of_tails n (cut procs tails) ≡ turns_of_tails n tails
cut_turns procs tails zero le = refl
cut_turns procs tails (suc n) le =
    ap (λ tail. turns_by n tail ++ turns_of_tails n (cut procs tails)) (cut_same procs tails n (omega arith))
    ∙ ap (λ turns. turns_by n (tails n) ++ turns) (cut_turns procs tails n (omega arith))

cut_whole : (setup : Setup) (settled : List Turn) (tails : ℕ → List Label) → whole_of setup settled (cut setup.procs tails) ≡ whole_of setup settled tails
cut_whole setup settled tails = ap (λ turns. turns ++ settled) (cut_turns setup.procs tails setup.procs (omega arith))

cut_has : (procs : ℕ) (tails : ℕ → List Label) (q : ℕ) (label : Label) (older : List Label) → HasLabel (cut procs tails q) label older → HasLabel (tails q) label older
cut_has procs tails q label older has =
    ⊎_elim (λ lt. rw (cut_same procs tails q lt) at has) (λ past. absurd (has_nothing label older (rw (cut_none procs tails q past) at has))) (cases_lt q procs)

cut_with : (procs : ℕ) (tails : ℕ → List Label) (p k : ℕ) (others : ℕ → List Label) → AreWith tails p (upto k (tails p)) others → AreWith (cut procs tails) p (upto k (cut procs tails p)) (cut procs others)
cut_with procs tails p k others are = record {
  own = ⊎_elim
      (λ lt. cut_same procs others p lt ∙ are.own ∙ ap (λ tail. upto k tail) (sym (cut_same procs tails p lt)))
      (λ past. cut_none procs others p past ∙ ap (λ tail. upto k tail) (sym (cut_none procs tails p past)))
      (cases_lt p procs);
  same = λ q ne. ap (λ tail. if nat_lt q procs then tail else []) (are.same q ne);
}

-- all but the oldest k turns of p's tail are lost
module _ {S : Type 0} (setup : Setup) (first : ℕ → S) (threads : Semantics S) (settled : List Turn) (tails : ℕ → List Label) (free : AreIndependent setup settled tails) (p k : ℕ) (others : ℕ → List Label) (are : AreWith tails p (upto k (tails p)) others) where
  abbrev newest : List Label
  newest = past k (cut setup.procs tails p)

  lost_last : AllAskFirst setup first threads → IsPlainRun setup first threads (whole_of setup settled tails) →
      IsRunLike setup first threads (turns_by p newest ++ whole_of setup settled (cut setup.procs others)) (whole_of setup settled (cut setup.procs tails))
  lost_last ask_first is_run =
      let history : IsHistory setup first threads settled (cut setup.procs tails) = record {
        ask_first = ask_first;
        independent = λ q r lt ne one other older later has theirs.
            free q r lt ne one other older later (cut_has setup.procs tails q one older has) (cut_has setup.procs tails r other later theirs);
        no_others = cut_none setup.procs tails;
        is_run = rw (cut_whole setup settled tails) is_run;
      } in
      last_like setup first threads settled (cut setup.procs tails) history p newest (upto k (cut setup.procs tails p)) (sym (past_upto k (cut setup.procs tails p)))
      (cut setup.procs others) (cut_with setup.procs tails p k others are)

  with_newest : (q : ℕ) (turns : List OwnTurn) → HasCopies setup first threads (whole_of setup settled tails) q turns →
      HasCopies setup first threads (turns_by p newest ++ whole_of setup settled others) q turns
  with_newest q turns has =
      subst (λ whole. HasCopies setup first threads (turns_by p newest ++ whole) q turns) (cut_whole setup settled others)
      (copies_alike setup first threads q (whole_of setup settled (cut setup.procs tails)) (turns_by p newest ++ whole_of setup settled (cut setup.procs others)) turns
      (lost_last has.ask_first has.is_run)
      (subst (λ whole. HasCopies setup first threads whole q turns) (sym (cut_whole setup settled tails)) has))

  pub loses_other : (q : ℕ) → p ≢ q → (turns : List OwnTurn) → HasCopies setup first threads (whole_of setup settled tails) q turns → HasCopies setup first threads (whole_of setup settled others) q turns
  loses_other q ne turns has = less_other setup first threads p q ne newest (whole_of setup settled others) turns (with_newest q turns has)

  pub loses_own : (newer older : List OwnTurn) → length newer ≡ length (past k (tails p)) → HasCopies setup first threads (whole_of setup settled tails) p (newer ++ older) →
      HasCopies setup first threads (whole_of setup settled others) p older
  loses_own newer older same has =
      less_own setup first threads p newest (whole_of setup settled others) newer older
      (same ∙ ap (λ tail. length (past k tail)) (sym (cut_same setup.procs tails p has.is_processor))) (with_newest p (newer ++ older) has)
