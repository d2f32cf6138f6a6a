-- The threads' states in a machine, by their numbers.
use Rattle.std.proofs.Common.{◌≡◌, ℕ, zero, suc, ◌<◌, List, [], ◌∷◌, sym, ap, ◌∙◌, subst, map, length, get_or, set, arith}
use Rattle.std.specs.List.{All}
use Rattle.std.proofs.lemmas.List.{map-set, length-map, get_or-map, get_or_default}
use Rattle.std.proofs.lemmas.List.Elements.{All-get_or}
use Rattle.dsm_base.specs.Family.{update, family_of}
use Rattle.dsm_base.proofs.Families.{family_of_set}
use Rattle.dsm_semantics.specs.States.{State}
use Rattle.dsm_interpreter.specs.declared.thread.PlainThread.{PlainThread}
use Rattle.dsm_interpreter.specs.Threads.{state_of}

-- what holds of all holds of the one that was found
pub found_has : {A : Type 0} (P : A → Type 0) (items : List A) (i p : ℕ) (item : A) → item ≡ get_or items i item → i ≡ p → p < length items → All P items → P item
found_has P items i p item found same within all =
    subst P (sym found) (All-get_or P items i item (subst (λ n. n < length items) (sym same) within) all)

-- and it is a member of the family
pub found_at : {A : Type 0} (default : ℕ → A) (items : List A) (i p : ℕ) (item : A) → item ≡ get_or items i item → i ≡ p → p < length items → family_of default items p ≡ item
found_at default items i p item found same within =
    get_or_default items p (default p) item within ∙ ap (λ n. get_or items n item) (sym same) ∙ sym found

-- the state of the thread that was found
pub state_found : (first : ℕ → State) (threads : List PlainThread) (i p : ℕ) (thread : PlainThread) → thread ≡ get_or threads i thread → i ≡ p → p < length threads
    → family_of first (map state_of threads) p ≡ state_of thread
state_found first threads i p thread found same within =
    get_or-map state_of threads p thread (first p) within ∙ ap (λ n. state_of (get_or threads n thread)) (sym same) ∙ ap state_of (sym found)

-- one state replaced is one member replaced
pub states_put : (first : ℕ → State) (threads : List PlainThread) (i p : ℕ) (thread : PlainThread) (state : State) → i ≡ p → p < length threads → state_of thread ≡ state
    → family_of first (map state_of (set threads i thread)) ≡ update (family_of first (map state_of threads)) p state
states_put first threads i p thread state same within is =
    ap (family_of first) (map-set state_of threads i thread)
    ∙ family_of_set first (map state_of threads) i (state_of thread) (subst (λ n. i < n) (sym (length-map threads state_of)) (subst (λ n. n < length threads) (sym same) within))
    ∙ ap (λ n. update (family_of first (map state_of threads)) n (state_of thread)) same
    ∙ ap (update (family_of first (map state_of threads)) p) is

-- what holds of all states holds of each
pub states_have : (P : State → Type 0) (default : State) (threads : List PlainThread) (p : ℕ) → p < length threads → All (λ thread. P (state_of thread)) threads
    → P (get_or (map state_of threads) p default)
states_have P default [] p h all = absurd (omega arith)
states_have P default (thread ∷ threads) zero h all = all 0 thread (omega arith)
states_have P default (thread ∷ threads) (suc p) h all = states_have P default threads p (omega arith) (λ k d below. all (suc k) d (omega arith))
