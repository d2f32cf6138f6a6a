-- The processors and locks for which an image has one entry each, and what reading such entries gives.
use Rattle.std.specs.Prelude.{ℕ, ◌%◌, Bool, ◌&&◌, not, ◌==◌, nat_lt, List, [], ◌∷◌, filter, map, Option, Some, Ok}
use Rattle.std.specs.List.{range_with_len}
use Rattle.dsm_base.specs.declared.names.Proc.{Proc}
use Rattle.dsm_base.specs.declared.names.Lock.{Lock}
use Rattle.dsm_fields.specs.Reading.{Read, then_with}
use Rattle.dsm_image_parts.specs.declared.scope.Scope.{Scope}

-- a lock whose home is this processor
abbrev pub is_home : Scope → ℕ → ℕ → Bool
is_home scope proc lock = nat_lt proc scope.procs && ((lock % scope.procs) == proc)

-- a barrier whose manager is this processor
abbrev pub is_manager : Scope → ℕ → ℕ → Bool
is_manager scope proc bar = nat_lt proc scope.procs && ((bar % scope.procs) == proc)

abbrev pub numbered_proc : ℕ → Proc
numbered_proc number = record { 0 = number }

abbrev pub numbered_lock : ℕ → Lock
numbered_lock number = record { 0 = number }

-- the other processors, rising
abbrev pub others : Scope → ℕ → List Proc
others scope me = filter (λ proc. not (proc.0 == me)) (map numbered_proc (range_with_len 0 scope.procs))

-- the locks whose home is this processor, rising
abbrev pub home_locks : Scope → ℕ → List Lock
home_locks scope me = filter (λ lock. is_home scope me lock.0) (map numbered_lock (range_with_len 0 scope.locks))

-- an entry for each of these keys, each judged by its key and the one before it
unfoldable pub each_at : {K A : Type 0} → (K → Option A → List ℕ → Read A) → Option A → List K → List ℕ → Read (List A)
each_at item_at last [] bytes = Ok ([], bytes)
each_at item_at last (key ∷ keys) bytes =
    then_with (item_at key last bytes) (λ item bytes.
    then_with (each_at item_at (Some item) keys bytes) (λ items bytes.
    Ok (item ∷ items, bytes)))
