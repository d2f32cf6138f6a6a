-- Older parts of the tails: each version that is made in them is as the whole has it, whether threads ask first or not.
-- Whoever makes one in its tail holds the lock alone, and by independence no other has used the lock's cells in its own.
use Rattle.std.specs.Prelude.{◌≡◌, ◌≢◌, ℕ, ℤ, zero, suc, ◌+◌, ◌<◌, ◌≤◌, Bool, true, false, ◌&&◌, ◌==◌, not, nat_lt, if◌then◌else◌, List, [], ◌∷◌, ◌++◌, ◌⊎◌, Option, Some, None, is_some}
use Rattle.std.proofs.Common.{arith, refl, sym, ap, ◌∙◌, ⊎_elim, inl, inr, append_assoc, append-nil, subst}
use Rattle.std.proofs.lemmas.Bool.{cases_Bool, cases_eq}
use Rattle.dsm_base.specs.declared.names.Lock.{Lock}
use Rattle.dsm_base.specs.declared.names.Mode.{Mode}
use Rattle.dsm_base.specs.declared.label.Label.{Label}
use Rattle.dsm_base.specs.declared.setup.Setup.{Setup}
use Rattle.dsm_base.specs.Access.{piece_of, is_exclusive}
use Rattle.dsm_base.specs.Threads.{Semantics}
use Rattle.dsm_base.specs.Plain.{PlainState, Turn, IsPlainRun, after_run, labels_of, plain_turn, memory_after, held_after, may_stand_beside}
use Rattle.dsm_laws_runs.specs.Newer.{stores_to, is_newer}
use Rattle.dsm_laws_runs.specs.OwnPart.{held_of}
use Rattle.dsm_laws_runs.specs.Pieces.{is_of_lock}
use Rattle.dsm_laws_runs.specs.Versions.{SameAt, makes_version, memory_at}
use Rattle.dsm_laws_runs.proofs.Access.{stores_hold}
use Rattle.dsm_laws_runs.proofs.Each.{for_each}
use Rattle.dsm_laws_runs.proofs.Exclusion.{exclusive_alone}
use Rattle.dsm_laws_runs.proofs.Memory.{memory_at_kept, memory_at_more}
use Rattle.dsm_laws_runs.proofs.Newer.{newer_turn}
use Rattle.dsm_laws_runs.proofs.OwnPart.{own_held}
use Rattle.dsm_laws_runs.proofs.Swap.{memory_at_if}
use Rattle.dsm_laws_runs.proofs.Versions.{version_step, version_kept, version_never_falls}
use Rattle.dsm_laws_tails.specs.Fronts.{upto, past, turns_by, AreWith}
use Rattle.dsm_laws_tails.specs.Histories.{turns_of_tails}
use Rattle.dsm_laws_tails.specs.Shuffles.{HasLabel, AreIndependent}
use Rattle.dsm_laws_tails.proofs.Places.{has_nothing, has_newest, has_later, newest_or_older, labels_join}
use Rattle.dsm_laws_tails.proofs.Fronts.{past_upto, labels_by, labels_by_other, by_join, labels_below}
use Rattle.dsm_laws_tails.proofs.Histories.{older_run}

-- Labels beside one lock.

-- whether a label stores to one of its cells
abbrev stores_at : Setup → ℕ → Label → Bool
stores_at setup lock (Label.Store cell value) = is_of_lock lock (piece_of setup.bindings cell.0)
stores_at setup lock _ = false

-- no label of a tail, whose processor had made these before it, makes a version or stores to one of its cells
abbrev Leaves : Setup → ℕ → List Label → List Label → Type 0
Leaves setup lock own tail =
    (label : Label) (older : List Label) → HasLabel tail label older → (makes_version lock (held_of (older ++ own)) label ≡ false) × (stores_at setup lock label ≡ false)

kept_memory : (setup : Setup) (lock : ℕ) (memory : ℕ → ℤ) (label : Label) → stores_at setup lock label ≡ false → SameAt setup lock (memory_after memory label) memory
kept_memory setup lock memory (Label.Store stored value) none cell is = grind (arith, cases_eq cell stored.0)
kept_memory setup lock memory _ none cell is = refl

same_memory : (setup : Setup) (lock : ℕ) (memory other : ℕ → ℤ) (label : Label) → SameAt setup lock memory other → SameAt setup lock (memory_after memory label) (memory_after other label)
same_memory setup lock memory other (Label.Store stored value) same cell is = grind (arith, cases_eq cell stored.0, same cell is)
same_memory setup lock memory other _ same cell is = same cell is

stores_none : (line_at : ℕ → ℕ) (setup : Setup) (lock line : ℕ) (label : Label) → stores_at setup lock label ≡ false → stores_to line_at setup lock line label ≡ false
stores_none line_at setup lock line (Label.Store stored value) none = grind arith
stores_none line_at setup lock line _ none = refl

makes_exclusive : (lock : ℕ) (held : ℕ → Option Mode) (label : Label) → makes_version lock held label ≡ true → is_exclusive (held lock) ≡ true
makes_exclusive lock held label e = grind arith

exclusive_some : (held : Option Mode) → is_exclusive held ≡ true → is_some held ≡ true
exclusive_some held e = grind arith

none_exclusive : (held : Option Mode) → held ≡ None → is_exclusive held ≡ true → ⊥
none_exclusive held e is = grind arith

none_some : (held : Option Mode) → held ≡ None → is_some held ≡ true → ⊥
none_some held e is = grind arith

isnt_some : (held : Option Mode) → is_some held ≡ false → held ≡ None
isnt_some held e = grind arith

choice : (b c : Bool) (now other then_now then_other : ℤ) → b ≡ c → now ≡ other → then_now ≡ then_other → (if b then now else then_now) ≡ (if c then other else then_other)
choice b c now other then_now then_other e is was = grind arith

-- a label after which a lock is held exclusively that wasn't takes it so
newly : (held : ℕ → Option Mode) (lock : ℕ) (label : Label) → is_exclusive (held lock) ≡ false → is_exclusive (held_after held label lock) ≡ true →
    (taken : Lock) × (version : ℕ) × (label ≡ Label.Take taken Mode.Excl version) × (taken.0 ≡ lock)
newly held lock (Label.Take taken Mode.Excl version) was is = (taken, version, refl, grind (arith, cases_eq lock taken.0))
newly held lock (Label.Take taken Mode.Shared version) was is = absurd (grind (arith, cases_eq lock taken.0))
newly held lock (Label.Give given) was is = absurd (grind (arith, cases_eq lock given.0))
newly held lock _ was is = absurd (cc (was, is))

-- and one after which a lock isn't held that was gives it back
no_longer : (held : ℕ → Option Mode) (lock : ℕ) (label : Label) → is_some (held lock) ≡ true → held_after held label lock ≡ None → (given : Lock) × (label ≡ Label.Give given) × (given.0 ≡ lock)
no_longer held lock (Label.Take taken mode version) was is = absurd (grind (arith, cases_eq lock taken.0))
no_longer held lock (Label.Give given) was is = (given, refl, grind (arith, cases_eq lock given.0))
no_longer held lock _ was is = absurd (none_some (held lock) is was)

record TakesIt (lock : ℕ) (labels : List Label) : Type 0 where
  taken : Lock
  version : ℕ
  older : List Label
  has : HasLabel labels (Label.Take taken Mode.Excl version) older
  is_it : taken.0 ≡ lock

took_it : (lock : ℕ) (own labels : List Label) → held_of own lock ≡ None → is_exclusive (held_of (labels ++ own) lock) ≡ true → TakesIt lock labels
took_it lock own [] none is = absurd (none_exclusive (held_of own lock) none is)
took_it lock own (label ∷ before) none is =
    ⊎_elim
    (λ was. let it = took_it lock own before none was in
    record { taken = it.taken; version = it.version; older = it.older; has = has_later (label ∷ []) before (Label.Take it.taken Mode.Excl it.version) it.older it.has; is_it = it.is_it })
    (λ not_yet. let it = newly (held_of (before ++ own)) lock label not_yet is in
    record { taken = it.0; version = it.1; older = before; has = record { newer = []; is = ap (λ one. one ∷ before) it.2 }; is_it = it.3 })
    (cases_Bool (is_exclusive (held_of (before ++ own) lock)))

record GivesIt (lock : ℕ) (own labels : List Label) : Type 0 where
  given : Lock
  older : List Label
  has : HasLabel labels (Label.Give given) older
  is_it : given.0 ≡ lock
  held : is_some (held_of (older ++ own) lock) ≡ true

gave_it : (lock : ℕ) (own more older : List Label) → is_some (held_of (older ++ own) lock) ≡ true → held_of ((more ++ older) ++ own) lock ≡ None → GivesIt lock own (more ++ older)
gave_it lock own [] older was none = absurd (none_some (held_of (older ++ own) lock) none was)
gave_it lock own (label ∷ more) older was none =
    ⊎_elim
    (λ held. let it = no_longer (held_of ((more ++ older) ++ own)) lock label held none in
    record { given = it.0; older = more ++ older; has = record { newer = []; is = ap (λ one. one ∷ (more ++ older)) it.1 }; is_it = it.2; held = held })
    (λ free. let it = gave_it lock own more older was (isnt_some (held_of ((more ++ older) ++ own) lock) free) in
    record { given = it.given; older = it.older; has = has_later (label ∷ []) (more ++ older) (Label.Give it.given) it.older it.has; is_it = it.is_it; held = it.held })
    (cases_Bool (is_some (held_of ((more ++ older) ++ own) lock)))

-- in a tail, where the lock was held before one of its labels and isn't at the end
gave_in : (lock : ℕ) (own tail : List Label) (one : Label) (older : List Label) → HasLabel tail one older → is_some (held_of (older ++ own) lock) ≡ true → held_of (tail ++ own) lock ≡ None → GivesIt lock own tail
gave_in lock own tail one older has held none =
    let split : tail ≡ (has.newer ++ (one ∷ [])) ++ older = has.is ∙ sym (append_assoc has.newer (one ∷ []) older) in
    subst (λ tail. GivesIt lock own tail) (sym split)
    (gave_it lock own (has.newer ++ (one ∷ [])) older held (subst (λ tail. held_of (tail ++ own) lock ≡ None) split none))

-- a label before one of a list is one of it
has_still : (labels : List Label) (label : Label) (older : List Label) → HasLabel labels label older → (other : Label) (before : List Label) → HasLabel older other before → HasLabel labels other before
has_still labels label older has other before was = record {
  newer = has.newer ++ (label ∷ was.newer);
  is = has.is ∙ ap (λ rest. has.newer ++ (label ∷ rest)) was.is ∙ sym (append_assoc has.newer (label ∷ was.newer) (other ∷ before));
}

rests_one : (held : Option Mode) (lock : ℕ) → is_some held ≡ true → ((lock == lock) && not (may_stand_beside Mode.Excl held)) ≡ false → ⊥
rests_one held lock some free = grind arith

rests : (held : ℕ → Option Mode) (lock given taken : ℕ) → given ≡ lock → taken ≡ lock → is_some (held lock) ≡ true → ((given == taken) && not (may_stand_beside Mode.Excl (held given))) ≡ false → ⊥
rests held lock given taken is_given is_taken some free = rests_one (held lock) lock some (rw (is_given, is_taken) at free)

-- a tail makes a version, or none of its labels does
record MakesIt (lock : ℕ) (own tail : List Label) : Type 0 where
  label : Label
  older : List Label
  has : HasLabel tail label older
  makes : makes_version lock (held_of (older ++ own)) label ≡ true

abbrev MakesNone : ℕ → List Label → List Label → Type 0
MakesNone lock own tail = (label : Label) (older : List Label) → HasLabel tail label older → makes_version lock (held_of (older ++ own)) label ≡ false

makes_or_not : (lock : ℕ) (own tail : List Label) → MakesIt lock own tail ⊎ MakesNone lock own tail
makes_or_not lock own [] = inr (λ label older has. absurd (has_nothing label older has))
makes_or_not lock own (label ∷ before) =
    ⊎_elim
    (λ is. inl (record { label = label; older = before; has = has_newest label before; makes = is }))
    (λ none. ⊎_elim
    (λ it. inl (record { label = it.label; older = it.older; has = has_later (label ∷ []) before it.label it.older it.has; makes = it.makes }))
    (λ never. inr (λ other older has. ⊎_elim (λ newest. rw (newest.0, newest.1) none) (λ was. never other older was) (newest_or_older label before other older has)))
    (makes_or_not lock own before))
    (cases_Bool (makes_version lock (held_of (before ++ own)) label))

-- two lists of turns leave the same of a lock
record AlikeAt {S : Type 0} (line_at : ℕ → ℕ) (setup : Setup) (first : ℕ → S) (threads : Semantics S) (lock : ℕ) (run other : List Turn) : Type 0 where
  versions : (after_run first threads run).versions lock ≡ (after_run first threads other).versions lock
  memory : SameAt setup lock (after_run first threads run).memory (after_run first threads other).memory
  made : (version : ℕ) → SameAt setup lock (memory_at first threads run lock version) (memory_at first threads other lock version)
  newer : (from to line : ℕ) → is_newer line_at setup first threads run lock from to line ≡ is_newer line_at setup first threads other lock from to line

-- each version of a lock that is made in a part is as the whole has it
pub record HasVersionsOf {S : Type 0} (line_at : ℕ → ℕ) (setup : Setup) (first : ℕ → S) (threads : Semantics S) (lock : ℕ) (part whole : List Turn) : Type 0 where
  pub fewer : (after_run first threads part).versions lock ≤ (after_run first threads whole).versions lock
  pub made : (version : ℕ) → version ≤ (after_run first threads part).versions lock → SameAt setup lock (memory_at first threads part lock version) (memory_at first threads whole lock version)
  pub lines : (from to line : ℕ) → to ≤ (after_run first threads part).versions lock → is_newer line_at setup first threads part lock from to line ≡ is_newer line_at setup first threads whole lock from to line

-- the tail of one alone

abbrev only_of : ℕ → List Label → ℕ → List Label
only_of p tail q = if q == p then tail else []

only_part : (tails : ℕ → List Label) (p q : ℕ) → (newer : List Label) × (tails q ≡ newer ++ only_of p (tails p) q)
only_part tails p q = for_each (λ q. (newer : List Label) × (tails q ≡ newer ++ only_of p (tails p) q)) p q ([], all) (λ ne. (tails q, none ne))
  where
    all : tails p ≡ [] ++ only_of p (tails p) p
    all = grind arith

    none : p ≢ q → tails q ≡ tails q ++ only_of p (tails p) q
    none ne = grind (arith, append-nil (tails q))

left_part : (tails : ℕ → List Label) (p k : ℕ) (others : ℕ → List Label) → AreWith tails p (upto k (tails p)) others → (q : ℕ) → (newer : List Label) × (tails q ≡ newer ++ others q)
left_part tails p k others are q =
    for_each (λ q. (newer : List Label) × (tails q ≡ newer ++ others q)) p q
    (past k (tails p), sym (past_upto k (tails p)) ∙ ap (λ older. past k (tails p) ++ older) (sym are.own))
    (λ ne. ([], sym (are.same q ne)))

turns_only : (p : ℕ) (tail : List Label) (n : ℕ) → turns_of_tails n (only_of p tail) ≡ (if nat_lt p n then turns_by p tail else [])
turns_only p tail zero = grind arith
turns_only p tail (suc n) = rw (turns_only p tail n) (for_each (λ n. turns_by n (only_of p tail n) ++ (if nat_lt p n then turns_by p tail else []) ≡ (if nat_lt p (suc n) then turns_by p tail else [])) p n mine (λ ne. other n ne))
  where
    mine : turns_by p (only_of p tail p) ++ (if nat_lt p p then turns_by p tail else []) ≡ (if nat_lt p (suc p) then turns_by p tail else [])
    mine = grind (arith, append-nil (turns_by p tail))

    other : (n : ℕ) → p ≢ n → turns_by n (only_of p tail n) ++ (if nat_lt p n then turns_by p tail else []) ≡ (if nat_lt p (suc n) then turns_by p tail else [])
    other n ne = grind arith

only_one : (p procs : ℕ) (tail : List Label) → (procs ≤ p → tail ≡ []) → (if nat_lt p procs then turns_by p tail else []) ≡ turns_by p tail
only_one p procs [] none = grind arith
only_one p procs (label ∷ before) none = grind (arith, none)

module _ {S : Type 0} (line_at : ℕ → ℕ) (setup : Setup) (first : ℕ → S) (threads : Semantics S) (lock : ℕ) where
  abbrev after : List Turn → PlainState S
  after run = after_run first threads run

  abbrev Alike : List Turn → List Turn → Type 0
  Alike run other = AlikeAt line_at setup first threads lock run other

  abbrev newer : List Turn → ℕ → ℕ → ℕ → Bool
  newer run from to line = is_newer line_at setup first threads run lock from to line

  labels_on : (q : ℕ) (tail : List Label) (before : List Turn) → labels_of q (turns_by q tail ++ before) ≡ tail ++ labels_of q before
  labels_on q tail before = labels_join q (turns_by q tail) before ∙ ap (λ own. own ++ labels_of q before) (labels_by q tail)

  labels_off : (q r : ℕ) (tail : List Label) (before : List Turn) → q ≢ r → labels_of r (turns_by q tail ++ before) ≡ labels_of r before
  labels_off q r tail before ne = labels_join r (turns_by q tail) before ∙ ap (λ own. own ++ labels_of r before) (labels_by_other q r tail ne)

  held_on : (q : ℕ) (tail : List Label) (before : List Turn) → (after (turns_by q tail ++ before)).held q ≡ held_of (tail ++ labels_of q before)
  held_on q tail before = own_held first threads (turns_by q tail ++ before) q ∙ ap held_of (labels_on q tail before)

  alike_then : (one other third : List Turn) → Alike one other → Alike other third → Alike one third
  alike_then one other third there on = record {
    versions = there.versions ∙ on.versions;
    memory = λ cell is. there.memory cell is ∙ on.memory cell is;
    made = λ version cell is. there.made version cell is ∙ on.made version cell is;
    newer = λ from to line. there.newer from to line ∙ on.newer from to line;
  }

  alike_back : (one other : List Turn) → Alike one other → Alike other one
  alike_back one other there = record {
    versions = sym there.versions;
    memory = λ cell is. sym (there.memory cell is);
    made = λ version cell is. sym (there.made version cell is);
    newer = λ from to line. sym (there.newer from to line);
  }

  alike_itself : (run : List Turn) → Alike run run
  alike_itself run = record { versions = refl; memory = λ cell is. refl; made = λ version cell is. refl; newer = λ from to line. refl }

  -- a tail that leaves the lock alone

  leaves_turn : (turn : Turn) (before : List Turn) → makes_version lock ((after before).held turn.proc) turn.label ≡ false → stores_at setup lock turn.label ≡ false → Alike (turn ∷ before) before
  leaves_turn turn before kept none = record {
    versions = version_kept (after before).versions ((after before).held turn.proc) turn.label lock kept;
    memory = kept_memory setup lock (after before).memory turn.label none;
    made = λ version cell is. ap (λ memory. memory cell) (memory_at_kept first threads turn before lock kept version);
    newer = λ from to line. rw (stores_none line_at setup lock line turn.label none) refl;
  }

  left_alone : (q : ℕ) (tail : List Label) (before : List Turn) → Leaves setup lock (labels_of q before) tail → Alike (turns_by q tail ++ before) before
  left_alone q [] before leaves = alike_itself before
  left_alone q (label ∷ older) before leaves =
      let is = leaves label older (has_newest label older) in
      alike_then (turns_by q (label ∷ older) ++ before) (turns_by q older ++ before) before
      (leaves_turn (record { proc = q; label = label }) (turns_by q older ++ before) (rw (held_on q older before) is.0) is.1)
      (left_alone q older before (λ other others has. leaves other others (has_later (label ∷ []) older other others has)))

  -- the same tail on two

  turn_on : (turn : Turn) (run other : List Turn) → Alike run other → (after run).held turn.proc ≡ (after other).held turn.proc → Alike (turn ∷ run) (turn ∷ other)
  turn_on turn run other like held = record {
    versions = version_step (after run).versions ((after run).held turn.proc) turn.label lock ∙ rw (held, like.versions) refl ∙ sym (version_step (after other).versions ((after other).held turn.proc) turn.label lock);
    memory = same_memory setup lock (after run).memory (after other).memory turn.label like.memory;
    made = λ version cell is.
        memory_at_if first threads turn run lock version cell
        ∙ choice (makes_version lock ((after run).held turn.proc) turn.label && ((after run).versions lock + 1 == version)) (makes_version lock ((after other).held turn.proc) turn.label && ((after other).versions lock + 1 == version))
        ((after run).memory cell) ((after other).memory cell) (memory_at first threads run lock version cell) (memory_at first threads other lock version cell)
        (rw (held, like.versions) refl) (like.memory cell is) (like.made version cell is)
        ∙ sym (memory_at_if first threads turn other lock version cell);
    newer = λ from to line. rw (like.versions, like.newer from to line) refl;
  }

  tail_on : (q : ℕ) (tail : List Label) (run other : List Turn) → Alike run other → labels_of q run ≡ labels_of q other → Alike (turns_by q tail ++ run) (turns_by q tail ++ other)
  tail_on q [] run other like same = like
  tail_on q (label ∷ older) run other like same =
      turn_on (record { proc = q; label = label }) (turns_by q older ++ run) (turns_by q older ++ other) (tail_on q older run other like same)
      (held_on q older run ∙ ap (λ own. held_of (older ++ own)) same ∙ sym (held_on q older other))

  -- a tail that makes no version
  unmade : (q : ℕ) (tail : List Label) (before : List Turn) → MakesNone lock (labels_of q before) tail → (after (turns_by q tail ++ before)).versions lock ≡ (after before).versions lock
  unmade q [] before never = refl
  unmade q (label ∷ older) before never =
      version_kept (after (turns_by q older ++ before)).versions ((after (turns_by q older ++ before)).held q) label lock (rw (held_on q older before) (never label older (has_newest label older)))
      ∙ unmade q older before (λ other others has. never other others (has_later (label ∷ []) older other others has))

  -- any number of turns more
  newer_more : (from to line : ℕ) (more before : List Turn) → to ≤ (after before).versions lock → newer (more ++ before) from to line ≡ newer before from to line
  newer_more from to line [] before le = refl
  newer_more from to line (turn ∷ more) before le =
      let le' : to ≤ (after (more ++ before)).versions lock = omega (arith, version_never_falls first threads more before lock) in
      newer_turn line_at setup first threads turn (more ++ before) lock from to line le' ∙ newer_more from to line more before le

  abbrev InPart : List Turn → List Turn → Type 0
  InPart part whole = HasVersionsOf line_at setup first threads lock part whole

  -- with turns more in the whole
  closes : (part full more : List Turn) → Alike part full → InPart part (more ++ full)
  closes part full more like = record {
    fewer = rw like.versions (version_never_falls first threads more full lock);
    made = λ version le cell is. like.made version cell is ∙ sym (ap (λ memory. memory cell) (memory_at_more first threads more full lock version (rw like.versions at le)));
    lines = λ from to line le. like.newer from to line ∙ sym (newer_more from to line more full (rw like.versions at le));
  }

  -- and with turns more in both, where those of the part make no version
  passes : (mine part more full : List Turn) → (after (mine ++ part)).versions lock ≡ (after part).versions lock → InPart part full → InPart (mine ++ part) (more ++ full)
  passes mine part more full same is = record {
    fewer = omega (arith, same, is.fewer, version_never_falls first threads more full lock);
    made = λ version le cell is_cell.
        let made : version ≤ (after part).versions lock = rw same at le in
        ap (λ memory. memory cell) (memory_at_more first threads mine part lock version made)
        ∙ is.made version made cell is_cell
        ∙ sym (ap (λ memory. memory cell) (memory_at_more first threads more full lock version (omega (arith, is.fewer))));
    lines = λ from to line le.
        let made : to ≤ (after part).versions lock = rw same at le in
        newer_more from to line mine part made ∙ is.lines from to line made ∙ sym (newer_more from to line more full (omega (arith, is.fewer)));
  }

  store_exclusive : (run : List Turn) (q : ℕ) (label : Label) → plain_turn setup threads (after run) q ≡ Some label → stores_at setup lock label ≡ true → is_exclusive ((after run).held q lock) ≡ true
  store_exclusive run q (Label.Store cell value) is e = stores_hold setup threads (after run) q cell value is lock e
  store_exclusive run q _ is e = absurd (cc e)

  module _ (settled : List Turn) where
    -- settled turns, and the tails of the processors below a bound
    abbrev below : ℕ → (ℕ → List Label) → List Turn
    below n tails = turns_of_tails n tails ++ settled

    labels_below_it : (q n : ℕ) (tails : ℕ → List Label) → labels_of q (below n tails) ≡ (if nat_lt q n then tails q else []) ++ labels_of q settled
    labels_below_it q n tails = labels_join q (turns_of_tails n tails) settled ∙ ap (λ own. own ++ labels_of q settled) (labels_below n tails q)

    not_yet : (q n : ℕ) (tails : ℕ → List Label) → n ≤ q → labels_of q (below n tails) ≡ labels_of q settled
    not_yet q n tails le = labels_below_it q n tails ∙ none (tails q) (labels_of q settled)
      where
        none : (tail own : List Label) → (if nat_lt q n then tail else []) ++ own ≡ own
        none tail own = grind arith

    by_then : (q n : ℕ) (tails : ℕ → List Label) → q < n → labels_of q (below n tails) ≡ tails q ++ labels_of q settled
    by_then q n tails lt = labels_below_it q n tails ∙ all (tails q) (labels_of q settled)
      where
        all : (tail own : List Label) → (if nat_lt q n then tail else []) ++ own ≡ tail ++ own
        all tail own = grind arith

    next_below : (n : ℕ) (tails : ℕ → List Label) → below (suc n) tails ≡ turns_by n (tails n) ++ below n tails
    next_below n tails = append_assoc (turns_by n (tails n)) (turns_of_tails n tails) settled

    -- tails that leave the lock alone
    all_left_alone : (n : ℕ) (tails : ℕ → List Label) → ((q : ℕ) → q < n → Leaves setup lock (labels_of q settled) (tails q)) → Alike (below n tails) settled
    all_left_alone zero tails leave = alike_itself settled
    all_left_alone (suc q) tails leave =
        rw (next_below q tails)
        (alike_then (turns_by q (tails q) ++ below q tails) (below q tails) settled
        (left_alone q (tails q) (below q tails) (rw (not_yet q q tails (omega arith)) (leave q (omega arith))))
        (all_left_alone q tails (λ r lt. leave r (omega arith))))

    module _ (tails : ℕ → List Label) (free : AreIndependent setup settled tails) (is_run : IsPlainRun setup first threads (below setup.procs tails)) where
      fewer_run : (m n : ℕ) → n ≤ m → IsPlainRun setup first threads (below m tails) → IsPlainRun setup first threads (below n tails)
      fewer_run zero n le run = subst (λ n. IsPlainRun setup first threads (below n tails)) (none n le) run
        where
          none : (n : ℕ) → n ≤ 0 → 0 ≡ n
          none n le = omega arith
      fewer_run (suc m) n le run =
          ⊎_elim
          (λ e. subst (λ n. IsPlainRun setup first threads (below n tails)) (sym e) run)
          (λ ne. fewer_run m n (omega arith) (older_run setup first threads (turns_by m (tails m)) (below m tails) (rw (next_below m tails) at run)))
          (cases_eq n (suc m))

      -- up to a label of a tail
      run_at : (q : ℕ) → q < setup.procs → (label : Label) (older : List Label) → HasLabel (tails q) label older → IsPlainRun setup first threads (record { proc = q; label = label } ∷ (turns_by q older ++ below q tails))
      run_at q lt label older has =
          older_run setup first threads (turns_by q has.newer) (record { proc = q; label = label } ∷ (turns_by q older ++ below q tails))
          (rw (next_below q tails, has.is, by_join q has.newer (label ∷ older), append_assoc (turns_by q has.newer) (turns_by q (label ∷ older)) (below q tails)) at
          (fewer_run setup.procs (suc q) (omega arith) is_run))

      held_at : (q : ℕ) (older : List Label) → (after (turns_by q older ++ below q tails)).held q ≡ held_of (older ++ labels_of q settled)
      held_at q older = held_on q older (below q tails) ∙ ap (λ own. held_of (older ++ own)) (not_yet q q tails (omega arith))

      -- two don't both hold the lock exclusively at labels of their tails
      not_both : (q r : ℕ) → q < r → r < setup.procs → (one : Label) (older : List Label) → HasLabel (tails q) one older → is_exclusive (held_of (older ++ labels_of q settled) lock) ≡ true →
          (other : Label) (others : List Label) → HasLabel (tails r) other others → is_exclusive (held_of (others ++ labels_of r settled) lock) ≡ true → ⊥
      not_both q r lt procs one older has held other others has_other held_other =
          let ne : q ≢ r = λ e. omega arith in
          let at_one : IsPlainRun setup first threads (turns_by q older ++ below q tails) = (run_at q (omega arith) one older has).0 in
          let at_other : IsPlainRun setup first threads (turns_by r others ++ below r tails) = (run_at r procs other others has_other).0 in
          let free_then : held_of (labels_of r settled) lock ≡ None =
          ap (λ held. held lock) (sym (own_held first threads (turns_by q older ++ below q tails) r ∙ ap held_of (labels_off q r older (below q tails) ne ∙ not_yet r q tails (omega arith))))
          ∙ exclusive_alone setup first threads (turns_by q older ++ below q tails) at_one q r lock ne (rw (held_at q older) held) in
          let taken = took_it lock (labels_of r settled) others free_then held_other in
          let free_at_last : held_of (tails q ++ labels_of q settled) lock ≡ None =
          ap (λ held. held lock) (sym (own_held first threads (turns_by r others ++ below r tails) q ∙ ap held_of (labels_off r q others (below r tails) (λ e. ne (sym e)) ∙ by_then q r tails lt)))
          ∙ exclusive_alone setup first threads (turns_by r others ++ below r tails) at_other r q lock (λ e. ne (sym e)) (rw (held_at r others) held_other) in
          let given = gave_in lock (labels_of q settled) (tails q) one older has (exclusive_some (held_of (older ++ labels_of q settled) lock) held) free_at_last in
          rests (held_of (given.older ++ labels_of q settled)) lock given.given.0 taken.taken.0 given.is_it taken.is_it given.held
          (free q r (omega arith) ne (Label.Give given.given) (Label.Take taken.taken Mode.Excl taken.version) given.older taken.older given.has
          (has_still (tails r) other others has_other (Label.Take taken.taken Mode.Excl taken.version) taken.older taken.has))

      -- where a tail makes a version, those before it leave the lock alone
      others_leave : (q r : ℕ) → q < r → r < setup.procs → MakesIt lock (labels_of r settled) (tails r) → Leaves setup lock (labels_of q settled) (tails q)
      others_leave q r lt procs it label older has =
          let never : is_exclusive (held_of (older ++ labels_of q settled) lock) ≡ true → ⊥ =
          λ held. not_both q r lt procs label older has held it.label it.older it.has (makes_exclusive lock (held_of (it.older ++ labels_of r settled)) it.label it.makes) in (
            ⊎_elim (λ is. absurd (never (makes_exclusive lock (held_of (older ++ labels_of q settled)) label is))) (λ none. none) (cases_Bool (makes_version lock (held_of (older ++ labels_of q settled)) label)),
            ⊎_elim
                (λ is. absurd (never (rw (held_at q older) at (store_exclusive (turns_by q older ++ below q tails) q label (run_at q (omega arith) label older has).1.is_label is))))
                (λ none. none)
                (cases_Bool (stores_at setup lock label)),
          )

      module _ (parts : ℕ → List Label) (is_part : (q : ℕ) → (newer : List Label) × (tails q ≡ newer ++ parts q)) where
        part_of : (q : ℕ) (label : Label) (older : List Label) → HasLabel (parts q) label older → HasLabel (tails q) label older
        part_of q label older has = rw (is_part q).1 (has_later (is_part q).0 (parts q) label older has)

        two_parts : (r : ℕ) → turns_by r (tails r) ++ below r tails ≡ turns_by r (is_part r).0 ++ (turns_by r (parts r) ++ below r tails)
        two_parts r =
            ap (λ tail. turns_by r tail ++ below r tails) (is_part r).1
            ∙ ap (λ turns. turns ++ below r tails) (by_join r (is_part r).0 (parts r))
            ∙ append_assoc (turns_by r (is_part r).0) (turns_by r (parts r)) (below r tails)

        next_made : (r : ℕ) → r < setup.procs → MakesIt lock (labels_of r settled) (parts r) → InPart (turns_by r (parts r) ++ below r parts) (turns_by r (tails r) ++ below r tails)
        next_made r procs it =
            let made : MakesIt lock (labels_of r settled) (tails r) = record { label = it.label; older = it.older; has = part_of r it.label it.older it.has; makes = it.makes } in
            let leave : (q : ℕ) → q < r → Leaves setup lock (labels_of q settled) (tails q) = λ q lt. others_leave q r lt procs made in
            let like : Alike (below r parts) (below r tails) =
            alike_then (below r parts) settled (below r tails)
            (all_left_alone r parts (λ q lt label older has. leave q lt label older (part_of q label older has)))
            (alike_back (below r tails) settled (all_left_alone r tails leave)) in
            rw (two_parts r)
            (closes (turns_by r (parts r) ++ below r parts) (turns_by r (parts r) ++ below r tails) (turns_by r (is_part r).0)
            (tail_on r (parts r) (below r parts) (below r tails) like (not_yet r r parts (omega arith) ∙ sym (not_yet r r tails (omega arith)))))

        in_part : (n : ℕ) → n ≤ setup.procs → InPart (below n parts) (below n tails)
        in_part zero le = record { fewer = omega arith; made = λ version made cell is. refl; lines = λ from to line made. refl }
        in_part (suc r) le =
            rw (next_below r parts, next_below r tails)
            (⊎_elim (λ it. next_made r (omega arith) it)
            (λ never. passes (turns_by r (parts r)) (below r parts) (turns_by r (tails r)) (below r tails)
            (unmade r (parts r) (below r parts) (rw (not_yet r r parts (omega arith)) never)) (in_part r (omega arith)))
            (makes_or_not lock (labels_of r settled) (parts r)))

      -- all of one tail, and none of the others
      pub alone : (p : ℕ) → (setup.procs ≤ p → tails p ≡ []) → InPart (turns_by p (tails p) ++ settled) (below setup.procs tails)
      alone p none = rw (← is_alone) (in_part (only_of p (tails p)) (λ q. only_part tails p q) setup.procs (omega arith))
        where
          is_alone : below setup.procs (only_of p (tails p)) ≡ turns_by p (tails p) ++ settled
          is_alone = ap (λ turns. turns ++ settled) (turns_only p (tails p) setup.procs ∙ only_one p setup.procs (tails p) none)

      -- all of the others, and the oldest turns of one
      pub left : (p k : ℕ) (others : ℕ → List Label) → AreWith tails p (upto k (tails p)) others → InPart (below setup.procs others) (below setup.procs tails)
      left p k others are = in_part others (λ q. left_part tails p k others are q) setup.procs (omega arith)
