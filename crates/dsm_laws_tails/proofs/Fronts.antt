-- Parts of lists, and the labels of turns that are made of tails.
use Rattle.std.specs.Prelude.{◌≡◌, ◌≢◌, ℕ, zero, suc, ◌≤◌, nat_lt, if◌then◌else◌, List, [], ◌∷◌, ◌++◌}
use Rattle.std.proofs.Common.{arith, refl, ap, ◌∙◌, append-nil}
use Rattle.dsm_base.specs.declared.label.Label.{Label}
use Rattle.dsm_base.specs.Plain.{labels_of}
use Rattle.dsm_laws_runs.proofs.Each.{for_each}
use Rattle.dsm_laws_tails.specs.Fronts.{upto, past, turns_by}
use Rattle.dsm_laws_tails.specs.Shuffles.{IsShuffle}
use Rattle.dsm_laws_tails.specs.Histories.{turns_of_tails}
use Rattle.dsm_laws_tails.proofs.Places.{labels_join}

-- a list is what is newer than the oldest k, and those
pub past_upto : {A : Type 0} (k : ℕ) (xs : List A) → past k xs ++ upto k xs ≡ xs
past_upto k [] = refl
past_upto k (x ∷ before) = grind (arith, past_upto k before)

pub labels_by : (p : ℕ) (labels : List Label) → labels_of p (turns_by p labels) ≡ labels
labels_by p [] = refl
labels_by p (label ∷ before) = grind (arith, labels_by p before)

pub labels_by_other : (p q : ℕ) (labels : List Label) → p ≢ q → labels_of q (turns_by p labels) ≡ []
labels_by_other p q [] ne = refl
labels_by_other p q (label ∷ before) ne = grind (arith, labels_by_other p q before ne)

pub by_join : (p : ℕ) (newer older : List Label) → turns_by p (newer ++ older) ≡ turns_by p newer ++ turns_by p older
by_join p [] older = refl
by_join p (label ∷ newer) older = ap (λ turns. record { proc = p; label = label } ∷ turns) (by_join p newer older)

-- The tails of all, one after another.

below_mine : (p : ℕ) (tail : List Label) → tail ++ (if nat_lt p p then tail else []) ≡ (if nat_lt p (suc p) then tail else [])
below_mine p tail = grind (arith, append-nil tail)

below_other : (p q : ℕ) (tail : List Label) → p ≢ q → (if nat_lt q p then tail else []) ≡ (if nat_lt q (suc p) then tail else [])
below_other p q tail ne = grind arith

below_none : (q : ℕ) (tail : List Label) → [] ≡ (if nat_lt q 0 then tail else [])
below_none q tail = grind arith

pub labels_below : (procs : ℕ) (tails : ℕ → List Label) (q : ℕ) → labels_of q (turns_of_tails procs tails) ≡ (if nat_lt q procs then tails q else [])
labels_below zero tails q = below_none q (tails q)
labels_below (suc p) tails q =
    labels_join q (turns_by p (tails p)) (turns_of_tails p tails)
    ∙ rw (labels_below p tails q)
    (for_each (λ q. labels_of q (turns_by p (tails p)) ++ (if nat_lt q p then tails q else []) ≡ (if nat_lt q (suc p) then tails q else [])) p q
    (rw (labels_by p (tails p)) (below_mine p (tails p)))
    (λ ne. rw (labels_by_other p q (tails p) ne) (below_other p q (tails q) ne)))

-- one that is no processor has no tail
pub tail_of : (procs : ℕ) (tails : ℕ → List Label) (q : ℕ) → (procs ≤ q → tails q ≡ []) → labels_of q (turns_of_tails procs tails) ≡ tails q
tail_of procs tails q none = labels_below procs tails q ∙ grind (arith, none)

pub tails_shuffle : (procs : ℕ) (tails : ℕ → List Label) → ((q : ℕ) → procs ≤ q → tails q ≡ []) → IsShuffle tails (turns_of_tails procs tails)
tails_shuffle procs tails none q = tail_of procs tails q (none q)
