use Rattle.std.proofs.Common.{◌∙◌, ℕ, ◌<◌, ap, sym, subst, arith}
use Rattle.dsm_test_stores.proofs.fronts.a_mute_store_keeps_its_marked_slot.Goals as goal

-- a mark leaves the room that was made
pub write-requires-clause-room : goal.write-requires-clause-room
write-requires-clause-room g c =
    subst (λ (n : ℕ). 0 < n) (sym (ap (λ (room : ℕ → ℕ). room 2) c.in_ok-mark.ensures.room ∙ c.in_ok-room.ensures.room.made)) (omega arith)
