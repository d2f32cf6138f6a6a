-- Two neighbouring turns of different processors change places, where the later one doesn't rest on the earlier one.
use Rattle.std.specs.Prelude.{◌≡◌, ◌≢◌, ℕ, ℤ, ◌+◌, ◌<◌, ◌≤◌, nat_lt, Bool, true, false, ◌&&◌, ◌||◌, ◌==◌, not, if◌then◌else◌, List, ◌∷◌, Option, Some, None, is_some}
use Rattle.std.proofs.Common.{arith, refl, sym, ◌∙◌}
use Rattle.std.proofs.lemmas.Bool.{cases_eq}
use Rattle.std.proofs.Math.Path.{fun_ext}
use Rattle.dsm_base.specs.declared.names.Lock.{Lock}
use Rattle.dsm_base.specs.declared.names.Bar.{Bar}
use Rattle.dsm_base.specs.declared.names.Cell.{Cell}
use Rattle.dsm_base.specs.declared.names.Mode.{Mode}
use Rattle.dsm_base.specs.declared.label.Label.{Label}
use Rattle.dsm_base.specs.declared.label.Want.{Want}
use Rattle.dsm_base.specs.declared.setup.Setup.{Setup}
use Rattle.dsm_base.specs.Family.{update}
use Rattle.dsm_base.specs.Access.{is_exclusive}
use Rattle.dsm_base.specs.Threads.{Semantics}
use Rattle.dsm_base.specs.Plain.{PlainState, Turn, after_run, plain_after, plain_turn, plain_turn_of, memory_after, held_after, versions_after, arrived_after, crossed_after, can_take, can_cross, may_stand_beside, labels_of}
use Rattle.dsm_laws_runs.specs.Versions.{SameAt, makes_version, memory_at}
use Rattle.dsm_laws_runs.specs.Swap.{rests_on, clashes, IsRunLike, AreNeighbours, IsFree}
use Rattle.dsm_base.proofs.Families.{all_at, all_from}
use Rattle.dsm_laws_runs.proofs.OwnPart.{other_thread, other_held, other_crossed}
use Rattle.dsm_laws_runs.proofs.Turns.{takes_of, crosses_of}
use Rattle.dsm_laws_runs.proofs.Asking.{takes_when_free}
use Rattle.dsm_laws_runs.proofs.Exclusion.{beside_of, exclusive_alone, taken_beside}
use Rattle.dsm_laws_runs.proofs.Versions.{version_step, version_kept}
use Rattle.dsm_laws_runs.proofs.OtherTurn.{kept_memory}
use Rattle.dsm_laws_runs.proofs.Clashes.{neighbours_apart}

-- a state in which p's turn is the same as in another: what the label depends on is the same, and what was possible is possible
pub record SameFor {S : Type 0} (procs : ℕ) (s t : PlainState S) (p : ℕ) (label : Label) : Type 0 where
  pub held : t.held p ≡ s.held p
  pub crossed : t.crossed p ≡ s.crossed p
  pub loads : (cell : Cell) (value : ℤ) → label ≡ Label.Load cell value → t.memory cell.0 ≡ s.memory cell.0
  pub takes : (lock : Lock) (mode : Mode) (version : ℕ) → label ≡ Label.Take lock mode version → t.versions lock.0 ≡ s.versions lock.0
  pub can_take : (lock : Lock) (mode : Mode) (version : ℕ) → label ≡ Label.Take lock mode version → can_take procs t.held p lock.0 mode ≡ true → can_take procs s.held p lock.0 mode ≡ true
  pub can_cross : (bar : Bar) (epoch : ℕ) → label ≡ Label.Cross bar epoch → can_cross procs t.arrived (t.crossed p bar.0) bar.0 ≡ true → can_cross procs s.arrived (s.crossed p bar.0) bar.0 ≡ true

pub same_turn : {S : Type 0} (setup : Setup) (s t : PlainState S) (p : ℕ) (text : List ℕ) (want : Want) (label : Label) → SameFor setup.procs s t p label →
    plain_turn_of setup t p text want ≡ Some label → plain_turn_of setup s p text want ≡ Some label
same_turn setup s t p text want label same e = grind (arith, same.held, same.crossed, same.loads, same.takes, same.can_take, same.can_cross)

-- What a label leaves as it is, where the next one doesn't rest on it and they don't clash.

pub clashes_back : (x y : Label) → clashes x y ≡ clashes y x
clashes_back x y = grind arith

kept_cell : (memory : ℕ → ℤ) (x : Label) (cell : Cell) (value : ℤ) → clashes x (Label.Load cell value) ≡ false → memory_after memory x cell.0 ≡ memory cell.0
kept_cell memory x cell value e = grind arith

kept_version : (versions : ℕ → ℕ) (held : ℕ → Option Mode) (arrived : ℕ → ℕ) (x : Label) (lock : Lock) (mode : Mode) (version : ℕ) → rests_on held arrived x (Label.Take lock mode version) ≡ false →
    versions_after versions held x lock.0 ≡ versions lock.0
kept_version versions held arrived x lock mode version e = grind arith

-- a hold beside which a lock can be taken after a turn was one beside which it could be taken before it
stands_before : (held : ℕ → Option Mode) (arrived : ℕ → ℕ) (x : Label) (lock : Lock) (mode : Mode) (version : ℕ) → rests_on held arrived x (Label.Take lock mode version) ≡ false →
    ((taken : Lock) (other : Mode) (now : ℕ) → x ≡ Label.Take taken other now → held taken.0 ≡ None) →
    may_stand_beside mode (held_after held x lock.0) ≡ true → may_stand_beside mode (held lock.0) ≡ true
stands_before held arrived x lock mode version e free may = grind (arith, free)

-- a hold beside which a lock can be taken stays so, where the lock could be taken beside that take
stands_after : (held : ℕ → Option Mode) (y : Label) (lock : Lock) (mode : Mode) →
    ((taken : Lock) (other : Mode) (now : ℕ) → y ≡ Label.Take taken other now → taken.0 ≡ lock.0 → may_stand_beside other (Some mode) ≡ true) →
    may_stand_beside mode (held lock.0) ≡ true → may_stand_beside mode (held_after held y lock.0) ≡ true
stands_after held (Label.Take taken other now) lock mode beside may = grind (arith, beside taken other now refl)
stands_after held (Label.Give given) lock mode beside may = grind arith
stands_after held _ lock mode beside may = may

-- who has come often enough for a crossing with a turn had come often enough before it
came_before : (held : ℕ → Option Mode) (arrived : ℕ → ℕ) (x : Label) (bar : Bar) (epoch crossed : ℕ) → rests_on held arrived x (Label.Cross bar epoch) ≡ false → epoch ≡ crossed + 1 →
    crossed < arrived_after arrived x bar.0 → crossed < arrived bar.0
came_before held arrived x bar epoch crossed e is less = grind arith

arrivals_rise : (arrived : ℕ → ℕ) (y : Label) (bar : ℕ) → arrived bar ≤ arrived_after arrived y bar
arrivals_rise arrived y bar = grind arith

-- The tests of all processors in two states.

can_take_same : (procs : ℕ) (f g : ℕ → ℕ → Option Mode) (p lock : ℕ) (mode : Mode) → ((r : ℕ) → may_stand_beside mode (f r lock) ≡ true → may_stand_beside mode (g r lock) ≡ true) →
    can_take procs f p lock mode ≡ true → can_take procs g p lock mode ≡ true
can_take_same procs f g p lock mode stands e =
    all_from procs (λ r. (r == p) || may_stand_beside mode (g r lock))
    (λ r lt. grind (arith, stands r, all_at procs (λ r. (r == p) || may_stand_beside mode (f r lock)) r lt e))

can_cross_same : (procs : ℕ) (f g : ℕ → ℕ → ℕ) (epoch bar : ℕ) → ((r : ℕ) → epoch < f r bar → epoch < g r bar) → can_cross procs f epoch bar ≡ true → can_cross procs g epoch bar ≡ true
can_cross_same procs f g epoch bar less e =
    all_from procs (λ r. nat_lt epoch (g r bar)) (λ r lt. grind (arith, less r, all_at procs (λ r. nat_lt epoch (f r bar)) r lt e))

-- The earlier turn is p's, the later one q's.
module _ {S : Type 0} (setup : Setup) (threads : Semantics S) (s : PlainState S) (p q : ℕ) (x y : Label) (apart : p ≢ q) (clash : clashes x y ≡ false) where
  -- the later turn can be made first
  later_first : rests_on (s.held p) (s.arrived p) x y ≡ false → ((bar : Bar) (epoch : ℕ) → y ≡ Label.Cross bar epoch → epoch ≡ s.crossed q bar.0 + 1) →
      ((taken : Lock) (other : Mode) (now : ℕ) → x ≡ Label.Take taken other now → s.held p taken.0 ≡ None) → SameFor setup.procs s (plain_after threads s p x) q y
  later_first rests next free = record {
    held = other_held threads s q p x (λ e. apart (sym e));
    crossed = other_crossed threads s q p x (λ e. apart (sym e));
    loads = λ cell value is. kept_cell s.memory x cell value (rw is at clash);
    takes = λ lock mode version is. kept_version s.versions (s.held p) (s.arrived p) x lock mode version (rw is at rests);
    can_take = λ lock mode version is. can_take_same setup.procs (plain_after threads s p x).held s.held q lock.0 mode
        (λ r. grind (arith, stands_before (s.held p) (s.arrived p) x lock mode version (rw is at rests) free));
    can_cross = λ bar epoch is e. can_cross_same setup.procs (plain_after threads s p x).arrived s.arrived (s.crossed q bar.0) bar.0
        (λ r. grind (arith, came_before (s.held p) (s.arrived p) x bar epoch (s.crossed q bar.0) (rw is at rests) (next bar epoch is)))
        (rw (other_crossed threads s q p x (λ e. apart (sym e))) at e);
  }

  -- the earlier turn can be made second
  earlier_second : ((lock : Lock) (mode : Mode) (version : ℕ) → x ≡ Label.Take lock mode version → is_exclusive (s.held q lock.0) ≡ false) →
      ((lock : Lock) (mode : Mode) (version : ℕ) → x ≡ Label.Take lock mode version → (taken : Lock) (other : Mode) (now : ℕ) → y ≡ Label.Take taken other now → taken.0 ≡ lock.0 → may_stand_beside other (Some mode) ≡ true) →
      SameFor setup.procs (plain_after threads s q y) s p x
  earlier_second free beside = record {
    held = sym (other_held threads s p q y apart);
    crossed = sym (other_crossed threads s p q y apart);
    loads = λ cell value is. sym (kept_cell s.memory y cell value (clashes_back y (Label.Load cell value) ∙ (rw is at clash)));
    takes = λ lock mode version is. sym (version_kept s.versions (s.held q) y lock.0 (grind (arith, free lock mode version is)));
    can_take = λ lock mode version is. can_take_same setup.procs s.held (plain_after threads s q y).held p lock.0 mode
        (λ r. grind (arith, stands_after (s.held q) y lock mode (beside lock mode version is)));
    can_cross = λ bar epoch is e. can_cross_same setup.procs s.arrived (plain_after threads s q y).arrived ((plain_after threads s q y).crossed p bar.0) bar.0
        (λ r. grind (arith, arrivals_rise (s.arrived q) y bar.0))
        (rw (other_crossed threads s p q y apart) e);
  }

-- The state after both.

-- two members of a family change, each by itself
family_swap : {A : Type 0} (f : ℕ → A) (g h : A → A) (p q : ℕ) → p ≢ q → update (update f q (h (f q))) p (g (update f q (h (f q)) p)) ≡ update (update f p (g (f p))) q (h (update f p (g (f p)) q))
family_swap f g h p q ne = fun_ext (λ i. grind arith)

memory_swap : (memory : ℕ → ℤ) (x y : Label) → clashes x y ≡ false → memory_after (memory_after memory y) x ≡ memory_after (memory_after memory x) y
memory_swap memory x y e = fun_ext (λ i. grind arith)

versions_swap : (versions : ℕ → ℕ) (held other : ℕ → Option Mode) (x y : Label) →
    versions_after (versions_after versions other y) held x ≡ versions_after (versions_after versions held x) other y
versions_swap versions held other x y =
    fun_ext (λ lock. grind (arith, version_step versions held x lock, version_step versions other y lock, version_step (versions_after versions other y) held x lock, version_step (versions_after versions held x) other y lock))

pub same_state : {S : Type 0} (threads : Semantics S) (s : PlainState S) (p q : ℕ) (x y : Label) → p ≢ q → clashes x y ≡ false →
    plain_after threads (plain_after threads s q y) p x ≡ plain_after threads (plain_after threads s p x) q y
same_state threads s p q x y apart clash = λ i. record {
  threads = family_swap s.threads (λ state. threads.after state x) (λ state. threads.after state y) p q apart i;
  memory = memory_swap s.memory x y clash i;
  versions = versions i;
  held = family_swap s.held (λ held. held_after held x) (λ held. held_after held y) p q apart i;
  arrived = family_swap s.arrived (λ arrived. arrived_after arrived x) (λ arrived. arrived_after arrived y) p q apart i;
  crossed = family_swap s.crossed (λ crossed. crossed_after crossed x) (λ crossed. crossed_after crossed y) p q apart i;
}
  where
    versions : (plain_after threads (plain_after threads s q y) p x).versions ≡ (plain_after threads (plain_after threads s p x) q y).versions
    versions = rw (other_held threads s p q y apart, other_held threads s q p x (λ e. apart (sym e))) (versions_swap s.versions (s.held p) (s.held q) x y)

-- The cells of a lock at its versions.

makes_exclusive : (lock : ℕ) (held : ℕ → Option Mode) (label : Label) → makes_version lock held label ≡ true → is_exclusive (held lock) ≡ true
makes_exclusive lock held label e = grind arith

exclusive_some : (held : Option Mode) → is_exclusive held ≡ true → is_some held ≡ true
exclusive_some held e = grind arith

pub memory_at_if : {S : Type 0} (first : ℕ → S) (threads : Semantics S) (turn : Turn) (before : List Turn) (lock version cell : ℕ) →
    memory_at first threads (turn ∷ before) lock version cell
    ≡ (if makes_version lock ((after_run first threads before).held turn.proc) turn.label && ((after_run first threads before).versions lock + 1 == version)
    then (after_run first threads before).memory cell else memory_at first threads before lock version cell)
memory_at_if first threads turn before lock version cell = grind arith

same_choice : (one other : Bool) (now after_one after_other version : ℕ) (value with_one with_other rest : ℤ) → (one ≡ true → other ≡ false) → (one ≡ false → after_one ≡ now) → (other ≡ false → after_other ≡ now) →
    (other ≡ true → with_one ≡ value) → (one ≡ true → with_other ≡ value) →
    (if one && (after_other + 1 == version) then with_other else if other && (now + 1 == version) then value else rest)
    ≡ (if other && (after_one + 1 == version) then with_one else if one && (now + 1 == version) then value else rest)
same_choice one other now after_one after_other version value with_one with_other rest alone kept_one kept_other same_one same_other = grind arith

-- where both turns are takes of one lock, the later mode stands beside the earlier
taken_both : {S : Type 0} (setup : Setup) (threads : Semantics S) (s : PlainState S) (p q : ℕ) (x : Label) → p < setup.procs → p ≢ q → (lock : Lock) (mode : Mode) (version : ℕ) → x ≡ Label.Take lock mode version →
    (taken : Lock) (other : Mode) (now : ℕ) → taken.0 ≡ lock.0 → plain_turn setup threads (plain_after threads s p x) q ≡ Some (Label.Take taken other now) → may_stand_beside other (Some mode) ≡ true
taken_both setup threads s p q x lt apart lock mode version is taken other now same turn =
    let may : may_stand_beside other ((plain_after threads s p x).held p taken.0) ≡ true =
    beside_of setup.procs (plain_after threads s p x).held q taken.0 other p lt apart (takes_of setup (plain_after threads s p x) q _ _ taken other now turn).possible in
    let holds : (plain_after threads s p x).held p taken.0 ≡ Some mode = grind arith in
    rw holds at may

-- each processor makes the same turns
swapped_labels : (earlier later : Turn) (before : List Turn) → earlier.proc ≢ later.proc → (p : ℕ) → labels_of p (earlier ∷ later ∷ before) ≡ labels_of p (later ∷ earlier ∷ before)
swapped_labels earlier later before apart p = grind arith

module _ {S : Type 0} (setup : Setup) (first : ℕ → S) (threads : Semantics S) (before : List Turn) (earlier later : Turn) (near : AreNeighbours setup first threads before earlier later) where
  abbrev start : PlainState S
  start = after_run first threads before

  back : later.proc ≢ earlier.proc
  back e = near.apart (sym e)

  clash : clashes earlier.label later.label ≡ false
  clash = neighbours_apart setup first threads before earlier later near

  module _ (free : IsFree first threads before earlier later) where
    later_turn : plain_turn setup threads start later.proc ≡ Some later.label
    later_turn =
        same_turn setup start (plain_after threads start earlier.proc earlier.label) later.proc _ _ later.label
        (later_first setup threads start earlier.proc later.proc earlier.label later.label near.apart clash free
        (λ bar epoch is. rw (← (other_crossed threads start later.proc earlier.proc earlier.label back))
        (crosses_of setup (plain_after threads start earlier.proc earlier.label) later.proc _ _ bar epoch (rw is at near.is_run.1.is_label)).is_epoch)
        (λ taken mode version is. takes_when_free setup first threads near.ask_first before near.is_run.0.0 earlier.proc near.is_run.0.1.is_processor taken mode version (rw is at near.is_run.0.1.is_label)))
        (rw (other_thread threads start later.proc earlier.proc earlier.label back) at near.is_run.1.is_label)

    earlier_turn : plain_turn setup threads (plain_after threads start later.proc later.label) earlier.proc ≡ Some earlier.label
    earlier_turn =
        same_turn setup (plain_after threads start later.proc later.label) start earlier.proc _ _ earlier.label
        (earlier_second setup threads start earlier.proc later.proc earlier.label later.label near.apart clash
        (λ lock mode version is. taken_beside setup first threads before near.is_run.0.0 earlier.proc lock mode version (rw is at near.is_run.0.1.is_label) later.proc back)
        (λ lock mode version is taken other now takes same.
        taken_both setup threads start earlier.proc later.proc earlier.label near.is_run.0.1.is_processor near.apart lock mode version is taken other now same (rw takes at near.is_run.1.is_label)))
        (rw (other_thread threads start earlier.proc later.proc later.label near.apart) near.is_run.0.1.is_label)

    -- the cells of a lock at a version, which at most one of the two turns makes
    same_at : (lock version : ℕ) → SameAt setup lock (memory_at first threads (earlier ∷ later ∷ before) lock version) (memory_at first threads (later ∷ earlier ∷ before) lock version)
    same_at lock version cell is =
        memory_at_if first threads earlier (later ∷ before) lock version cell
        ∙ rw (
          memory_at_if first threads later before lock version cell,
          memory_at_if first threads later (earlier ∷ before) lock version cell,
          memory_at_if first threads earlier before lock version cell,
          other_held threads start earlier.proc later.proc later.label near.apart,
          other_held threads start later.proc earlier.proc earlier.label back,
        )
        (same_choice one other (start.versions lock) ((plain_after threads start earlier.proc earlier.label).versions lock) ((plain_after threads start later.proc later.label).versions lock) version
        (start.memory cell) ((plain_after threads start earlier.proc earlier.label).memory cell) ((plain_after threads start later.proc later.label).memory cell) (memory_at first threads before lock version cell)
        alone
        (version_kept start.versions (start.held earlier.proc) earlier.label lock)
        (version_kept start.versions (start.held later.proc) later.label lock)
        (λ made. kept_memory setup first threads before near.is_run.0.0 later.proc earlier.proc earlier.label back near.is_run.0.1.is_label lock
        (exclusive_some _ (makes_exclusive lock (start.held later.proc) later.label made)) cell is)
        (λ made. kept_memory setup first threads before near.is_run.0.0 earlier.proc later.proc later.label near.apart later_turn lock
        (exclusive_some _ (makes_exclusive lock (start.held earlier.proc) earlier.label made)) cell is))
      where
        one : Bool
        one = makes_version lock (start.held earlier.proc) earlier.label

        other : Bool
        other = makes_version lock (start.held later.proc) later.label

        alone : makes_version lock (start.held earlier.proc) earlier.label ≡ true → makes_version lock (start.held later.proc) later.label ≡ false
        alone made = grind (
          arith,
          makes_exclusive lock (start.held earlier.proc) earlier.label made,
          makes_exclusive lock (start.held later.proc) later.label,
          exclusive_alone setup first threads before near.is_run.0.0 earlier.proc later.proc lock near.apart,
        )

    pub change_places : IsRunLike setup first threads (earlier ∷ later ∷ before) (later ∷ earlier ∷ before)
    change_places = record {
      is_run = ((near.is_run.0.0, record { is_processor = near.is_run.1.is_processor; is_label = later_turn }), record { is_processor = near.is_run.0.1.is_processor; is_label = earlier_turn });
      same_labels = swapped_labels earlier later before near.apart;
      same_state = same_state threads start earlier.proc later.proc earlier.label later.label near.apart clash;
      same_versions = same_at;
    }

-- Back: a turn that can be made first rests on none of another.

lock_rests_not : (held : ℕ → Option Mode) (given taken : Lock) (mode : Mode) → (given.0 ≡ taken.0 → may_stand_beside mode (held given.0) ≡ true) →
    ((given.0 == taken.0) && not (may_stand_beside mode (held given.0))) ≡ false
lock_rests_not held given taken mode may = grind (arith, cases_eq given.0 taken.0, may)

bar_rests_not : (arrived : ℕ → ℕ) (reached bar : Bar) (epoch crossed : ℕ) → epoch ≡ crossed + 1 → nat_lt crossed (arrived bar.0) ≡ true → ((reached.0 == bar.0) && nat_lt (arrived bar.0) epoch) ≡ false
bar_rests_not arrived reached bar epoch crossed is less = grind arith

pub first_rests_not : {S : Type 0} (setup : Setup) (threads : Semantics S) (s : PlainState S) (p q : ℕ) → p < setup.procs → p ≢ q → (x y : Label) → plain_turn setup threads s q ≡ Some y →
    rests_on (s.held p) (s.arrived p) x y ≡ false
first_rests_not setup threads s p q lt ne (Label.Give given) (Label.Take taken mode version) turn =
    lock_rests_not (s.held p) given taken mode (λ e. rw e (beside_of setup.procs s.held q taken.0 mode p lt ne (takes_of setup s q _ _ taken mode version turn).possible))
first_rests_not setup threads s p q lt ne (Label.Arrive reached) (Label.Cross bar epoch) turn =
    let cross = crosses_of setup s q _ _ bar epoch turn in
    bar_rests_not (s.arrived p) reached bar epoch (s.crossed q bar.0) cross.is_epoch (all_at setup.procs (λ r. nat_lt (s.crossed q bar.0) (s.arrived r bar.0)) p lt cross.possible)
first_rests_not setup threads s p q lt ne _ _ turn = refl
