use Rattle.std.proofs.Common.{◌≢◌, ◌∙◌, [], sym, ap, length, true≢false}
use Rattle.dsm_base.specs.Rights.{held_of}
use Rattle.dsm_plain.specs.Machine.{machine_of, semantics_of, want_at, rights_at}
use Rattle.dsm_plain.specs.Waiting.{blockers}
use Rattle.dsm_plain.proofs.Waits.{can_if_none, cannot_if_some, is_blocked}
use Rattle.dsm_plain.proofs.machine.Plain.take.Goals as goal

pub turn-requires-clause-possible : goal.turn-requires-clause-possible
turn-requires-clause-possible c =
    let plain = c.args.self.now in
    let held = (machine_of plain).held in
    let are = c.in_ok-holders.ensures ∙ ap (λ items. blockers (length items) (λ p. held_of (rights_at items p)) c.args.proc.0 c.args.lock.0 c.args.mode) c.as_slice.ensures.value
    ∙ ap (λ n. blockers n held c.args.proc.0 c.args.lock.0 c.args.mode) c.requires.whole.rights in
    can_if_none held c.args.proc.0 c.args.lock.0 c.args.mode plain.setup.procs (sym are ∙ c.is_empty.ensures.0 c.if-is_empty.true)

pub returns-else-is_empty-clause-picked : goal.returns-else-is_empty-clause-picked
returns-else-is_empty-clause-picked c =
    let plain = c.args.self.now in
    let held = (machine_of plain).held in
    let p = c.args.proc.0 in
    let are = c.in_ok-holders.ensures ∙ ap (λ items. blockers (length items) (λ p. held_of (rights_at items p)) p c.args.lock.0 c.args.mode) c.as_slice.ensures.value
    ∙ ap (λ n. blockers n held p c.args.lock.0 c.args.mode) c.requires.whole.rights in
    let some : c.in_ok-holders.holders ≢ [] = λ none. true≢false (sym (c.is_empty.ensures.1 none) ∙ c.if-is_empty.false) in
    let cannot = cannot_if_some held p c.args.lock.0 c.args.mode plain.setup.procs (λ none. some (are ∙ none)) in
    is_blocked plain.setup (machine_of plain) p ((semantics_of plain).text ((machine_of plain).threads p)) (want_at plain p) c.args.lock c.args.mode c.in_ok-holders.holders c.requires.want some cannot are
