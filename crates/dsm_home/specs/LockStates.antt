-- The state of a lock at its home, and what a request, a release and the grants make of it.
use Rattle.std.specs.Prelude.{ℕ, ◌+◌, Bool, true, ◌&&◌, ◌==◌, not, if◌then◌else◌, List, [], ◌∷◌, ◌++◌, map, filter, Option, Some, None, is_some, find}
use Rattle.dsm_base.specs.declared.names.Mode.{Mode}
use Rattle.dsm_base.specs.declared.holders.Holder.{Holder}
use Rattle.dsm_base.specs.Holders.{are_compatible}
use Rattle.dsm_home.specs.declared.waiting.Waiting.{Waiting}

-- who holds the lock, or was granted it; who waits, the first at the front; and how many exclusive holds were given back
pub record LockState : Type 0 where
  pub holders : List Holder
  pub queue : List Waiting
  pub version : ℕ

-- nobody holds it or waits for it, and it has version 0
abbrev pub start_lock : LockState
start_lock = record { holders = []; queue = []; version = 0 }

-- whether one more may hold the lock in this mode
abbrev pub fits_beside : List Holder → Mode → Bool
fits_beside [] mode = true
fits_beside (holder ∷ holders) mode = are_compatible holder.mode mode && fits_beside holders mode

-- who waits becomes who holds
abbrev pub holder_of : Waiting → Holder
holder_of waiting = record { proc = waiting.proc; mode = waiting.mode }

-- the front of the queue that may be granted beside the holders, one after the other
abbrev pub front_of : List Holder → List Waiting → List Waiting
front_of holders [] = []
front_of holders (waiting ∷ others) =
    if fits_beside holders waiting.mode
    then waiting ∷ front_of (holders ++ holder_of waiting ∷ []) others
    else []

-- the queue behind that front
abbrev pub behind_front : List Holder → List Waiting → List Waiting
behind_front holders [] = []
behind_front holders (waiting ∷ others) =
    if fits_beside holders waiting.mode
    then behind_front (holders ++ holder_of waiting ∷ []) others
    else waiting ∷ others

-- who is granted the lock now
abbrev pub grants_of : LockState → List Waiting
grants_of lock = front_of lock.holders lock.queue

-- the lock once it is granted to all to whom it may be
abbrev pub lock_after_grants : LockState → LockState
lock_after_grants lock = record lock {
  holders = lock.holders ++ map holder_of (grants_of lock);
  queue = behind_front lock.holders lock.queue;
}

-- the lock with one more request at the end of its queue
abbrev pub lock_with_request : LockState → Waiting → LockState
lock_with_request lock waiting = record lock { queue = lock.queue ++ waiting ∷ [] }

-- those who hold it but this one
abbrev pub without_holder : ℕ → List Holder → List Holder
without_holder p holders = filter (λ holder. not (holder.proc.0 == p)) holders

-- the version that a hold leaves: an exclusive one makes a new version
abbrev pub version_made : Mode → ℕ → ℕ
version_made Mode.Shared version = version
version_made Mode.Excl version = version + 1

-- the lock once a processor has given it back
abbrev pub lock_after_release : LockState → ℕ → Mode → LockState
lock_after_release lock p mode = record lock {
  holders = without_holder p lock.holders;
  version = version_made mode lock.version;
}

-- the mode in which a processor holds the lock, or was granted it
abbrev pub mode_among : List Holder → ℕ → Option Mode
mode_among [] p = None
mode_among (holder ∷ holders) p = if holder.proc.0 == p then Some holder.mode else mode_among holders p

-- whether a processor waits for the lock
abbrev pub waits_for : LockState → ℕ → Bool
waits_for lock p = is_some (find (λ waiting. waiting.proc.0 == p) lock.queue)
