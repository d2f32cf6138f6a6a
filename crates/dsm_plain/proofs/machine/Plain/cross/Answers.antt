use Rattle.std.proofs.Common.{◌≢◌, ◌<◌, ◌∙◌, [], sym, ap, subst, length, true≢false}
use Rattle.dsm_base.specs.Rights.{arrived_of, crossed_of}
use Rattle.dsm_plain.specs.Machine.{machine_of, semantics_of, want_at, rights_at, no_rights}
use Rattle.dsm_plain.specs.Waiting.{late}
use Rattle.dsm_plain.proofs.States.{found_at}
use Rattle.dsm_plain.proofs.Waits.{cross_if_none, no_cross_if_some, is_ahead}
use Rattle.dsm_plain.proofs.machine.Plain.cross.Goals as goal

pub turn-requires-clause-possible : goal.turn-requires-clause-possible
turn-requires-clause-possible c =
    let plain = c.args.self.now in
    let arrived = (machine_of plain).arrived in
    let p = c.args.proc.0 in
    let bar = c.args.bar.0 in
    let within = subst (λ n. p < n) (sym c.requires.whole.rights) c.requires.processor in
    let epoch = c.crossings_at-epoch.ensures ∙ ap (λ s. crossed_of s bar) (sym (found_at (λ p. no_rights) plain.rights.items c.index.result p c.index-2.result.now c.index-2.ensures c.index.ensures within)) in
    let are = c.in_ok-missing.ensures ∙ ap (λ items. late (length items) (λ p. arrived_of (rights_at items p)) c.crossings_at-epoch.result bar) c.as_slice.ensures.value
    ∙ ap (λ n. late n arrived c.crossings_at-epoch.result bar) c.requires.whole.rights ∙ ap (λ e. late plain.setup.procs arrived e bar) epoch in
    cross_if_none arrived ((machine_of plain).crossed p bar) bar plain.setup.procs (sym are ∙ c.is_empty.ensures.0 c.if-is_empty.true)

pub returns-else-is_empty-clause-picked : goal.returns-else-is_empty-clause-picked
returns-else-is_empty-clause-picked c =
    let plain = c.args.self.now in
    let arrived = (machine_of plain).arrived in
    let p = c.args.proc.0 in
    let bar = c.args.bar.0 in
    let within = subst (λ n. p < n) (sym c.requires.whole.rights) c.requires.processor in
    let epoch = c.crossings_at-epoch.ensures ∙ ap (λ s. crossed_of s bar) (sym (found_at (λ p. no_rights) plain.rights.items c.index.result p c.index-2.result.now c.index-2.ensures c.index.ensures within)) in
    let are = c.in_ok-missing.ensures ∙ ap (λ items. late (length items) (λ p. arrived_of (rights_at items p)) c.crossings_at-epoch.result bar) c.as_slice.ensures.value
    ∙ ap (λ n. late n arrived c.crossings_at-epoch.result bar) c.requires.whole.rights ∙ ap (λ e. late plain.setup.procs arrived e bar) epoch in
    let some : c.in_ok-missing.missing ≢ [] = λ none. true≢false (sym (c.is_empty.ensures.1 none) ∙ c.if-is_empty.false) in
    let cannot = no_cross_if_some arrived ((machine_of plain).crossed p bar) bar plain.setup.procs (λ none. some (are ∙ none)) in
    is_ahead plain.setup (machine_of plain) p ((semantics_of plain).text ((machine_of plain).threads p)) (want_at plain p) c.args.bar c.in_ok-missing.missing c.requires.want some cannot are
