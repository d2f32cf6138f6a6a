use Rattle.std.proofs.Common.{◌≡◌, ◌==◌, ◌&&◌, ℕ, Bool, true, false, nat_lt, Some, None, ◌∙◌, sym, ap, arith}
use Rattle.std.specs.List.{position}
use Rattle.std.proofs.lemmas.Bool.Decides.{nat_tests}
use Rattle.dsm_net.specs.Inputs.{is_grant_for}
use Rattle.dsm_processor.specs.Mailbox.{later_grants}
use Rattle.dsm_processor.proofs.Places.{find_none, find_some, filter_removed}
use Rattle.dsm_processor.proofs.mailbox.take_grant.Goals as goal

-- what is for this turn isn't for a later one
not_later : (of_lock : Bool) (turn other : ℕ) → ((other == turn) && of_lock) ≡ true → nat_lt turn other ≡ false
not_later true turn other same = grind (arith, nat_tests)
not_later false turn other same = grind (arith, nat_tests)

pub returns-in_err-place-clause-grant : goal.returns-in_err-place-clause-grant
returns-in_err-place-clause-grant c =
    let none : position (is_grant_for c.args.turn c.args.lock.0) c.args.grants.now.items ≡ None = cc (c.in_err-place.ensures, c.as_slice.ensures.value) in
    rw c.from_residual.ensures (sym (find_none (is_grant_for c.args.turn c.args.lock.0) c.args.grants.now.items none))

pub returns-clause-grant : goal.returns-clause-grant
returns-clause-grant c =
    let some : position (is_grant_for c.args.turn c.args.lock.0) c.args.grants.now.items ≡ Some c.in_ok-place.place = cc (c.in_ok-place.ensures, c.as_slice.ensures.value) in
    sym (find_some (is_grant_for c.args.turn c.args.lock.0) c.args.grants.now.items c.in_ok-place.place c.remove.result some c.remove.ensures.value)

pub returns-clause-later : goal.returns-clause-later
returns-clause-later c =
    let some : position (is_grant_for c.args.turn c.args.lock.0) c.args.grants.now.items ≡ Some c.in_ok-place.place = cc (c.in_ok-place.ensures, c.as_slice.ensures.value) in
    ap (later_grants c.args.turn) c.remove.ensures.items
    ∙ filter_removed (is_grant_for c.args.turn c.args.lock.0) (λ grant. nat_lt c.args.turn grant.turn) (λ grant same. not_later (grant.lock.0 == c.args.lock.0) c.args.turn grant.turn same) c.args.grants.now.items c.in_ok-place.place c.remove.result some
