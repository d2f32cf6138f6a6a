-- The small threads name what is of the setup, and take a lock right after they have asked for it.
use Rattle.std.proofs.Common.{◌≡◌, ◌<◌, ◌==◌, ℕ, ℤ, Bool, true, false, if◌then◌else◌, List, [], ◌∷◌, refl, sym, ap, ◌∙◌, subst}
use Rattle.dsm_base.specs.declared.names.Lock.{Lock}
use Rattle.dsm_base.specs.declared.names.Bar.{Bar}
use Rattle.dsm_base.specs.declared.names.Mode.{Mode}
use Rattle.dsm_base.specs.declared.label.Want.{Want}
use Rattle.dsm_base.specs.declared.label.Label.{Label}
use Rattle.dsm_base.specs.declared.setup.Setup.{Setup}
use Rattle.dsm_base.specs.Threads.{Completes, Names, StaysWithin, AsksFirst, state_after}
use Rattle.dsm_test_network.specs.declared.thread.Role.{Role}
use Rattle.dsm_test_network.specs.declared.thread.Place.{Place}
use Rattle.dsm_test_network.specs.declared.thread.Thread.{Thread}
use Rattle.dsm_test_network.specs.declared.thread.Threads.{Threads}
use Rattle.dsm_test_network.specs.Thread.{mode_of, place_taken, place_worked, next_place, want_at, after_label, semantics, first, first_by}

-- a role works with one of so many cells
abbrev pub IsRoleIn : ℕ → Role → Type 0
IsRoleIn cells (Role.Writes cell value) = cell.0 < cells
IsRoleIn cells (Role.Reads cell) = cell.0 < cells
IsRoleIn cells Role.Passes = Unit {0}

names_worked : (setup : Setup) (role : Role) → IsRoleIn setup.cells role → Names setup (want_at role Place.Working)
names_worked setup (Role.Writes cell value) within = within
names_worked setup (Role.Reads cell) within = within
names_worked setup Role.Passes within = tt

-- every want names the first lock or the role's cell
names_at : (setup : Setup) → 0 < setup.locks → (role : Role) → IsRoleIn setup.cells role → (place : Place) → Names setup (want_at role place)
names_at setup locks role within Place.Asking = locks
names_at setup locks role within Place.Taking = locks
names_at setup locks role within Place.Working = names_worked setup role within
names_at setup locks role within Place.Printing = tt
names_at setup locks role within Place.Giving = locks
names_at setup locks role within Place.Ending = tt
names_at setup locks role within Place.Over = tt

pub stays_within : (setup : Setup) → 0 < setup.locks → (thread : Thread) → ((labels : List Label) → IsRoleIn setup.cells (state_after semantics thread labels).role) → StaysWithin setup semantics thread
stays_within setup locks thread within labels =
    names_at setup locks (state_after semantics thread labels).role (within labels) (state_after semantics thread labels).place

role_kept : (thread : Thread) (label : Label) → (after_label thread label).role ≡ thread.role
role_kept thread Label.Quiet = refl
role_kept thread (Label.Load cell value) = refl
role_kept thread (Label.Store cell value) = refl
role_kept thread (Label.Ask lock mode) = refl
role_kept thread (Label.Take lock mode version) = refl
role_kept thread (Label.Give lock) = refl
role_kept thread (Label.Arrive bar) = refl
role_kept thread (Label.Cross bar epoch) = refl
role_kept thread (Label.Line text) = refl
role_kept thread Label.End = refl
role_kept thread (Label.Stop fault line) = refl

roles_kept : (thread : Thread) (labels : List Label) → (state_after semantics thread labels).role ≡ thread.role
roles_kept thread [] = refl
roles_kept thread (label ∷ before) = role_kept (state_after semantics thread before) label ∙ roles_kept thread before

-- threads of roles in the setup stay within it
pub stays : (setup : Setup) (maker : Threads) → 0 < setup.locks → IsRoleIn setup.cells maker.role → IsRoleIn setup.cells maker.others → (me : ℕ) → StaysWithin setup semantics (first_by maker me)
stays setup maker locks one others me =
    stays_within setup locks (first_by maker me) (λ labels. subst (IsRoleIn setup.cells) (sym (roles_kept (first_by maker me) labels)) (by (me == maker.one.0)))
  where
    by : (b : Bool) → IsRoleIn setup.cells (if b then maker.role else maker.others)
    by true = one
    by false = others

asks_worked : (role : Role) (lock : Lock) (mode : Mode) (line : ℕ) → want_at role Place.Working ≡ Want.Ask lock mode line → ⊥
asks_worked (Role.Writes cell value) lock mode line e = cc
asks_worked (Role.Reads cell) lock mode line e = cc
asks_worked Role.Passes lock mode line e = cc

takes_at : (role : Role) (place : Place) (lock : Lock) (mode : Mode) (line : ℕ) → want_at role place ≡ Want.Ask lock mode line → want_at role (next_place role place) ≡ Want.Take lock mode
takes_at role Place.Asking lock mode line e = cc
takes_at role Place.Taking lock mode line e = cc
takes_at role Place.Working lock mode line e = absurd (asks_worked role lock mode line e)
takes_at role Place.Printing lock mode line e = cc
takes_at role Place.Giving lock mode line e = cc
takes_at role Place.Ending lock mode line e = cc
takes_at role Place.Over lock mode line e = cc

arrives_worked : (role : Role) (bar : Bar) → want_at role Place.Working ≡ Want.Arrive bar → ⊥
arrives_worked (Role.Writes cell value) bar e = cc
arrives_worked (Role.Reads cell) bar e = cc
arrives_worked Role.Passes bar e = cc

never_arrives : (role : Role) (place : Place) (bar : Bar) → want_at role place ≡ Want.Arrive bar → ⊥
never_arrives role Place.Asking bar e = cc
never_arrives role Place.Taking bar e = cc
never_arrives role Place.Working bar e = arrives_worked role bar e
never_arrives role Place.Printing bar e = cc
never_arrives role Place.Giving bar e = cc
never_arrives role Place.Ending bar e = cc
never_arrives role Place.Over bar e = cc

crosses_worked : (role : Role) (bar : Bar) → want_at role Place.Working ≡ Want.Cross bar → ⊥
crosses_worked (Role.Writes cell value) bar e = cc
crosses_worked (Role.Reads cell) bar e = cc
crosses_worked Role.Passes bar e = cc

never_crosses : (role : Role) (place : Place) (bar : Bar) → want_at role place ≡ Want.Cross bar → ⊥
never_crosses role Place.Asking bar e = cc
never_crosses role Place.Taking bar e = cc
never_crosses role Place.Working bar e = crosses_worked role bar e
never_crosses role Place.Printing bar e = cc
never_crosses role Place.Giving bar e = cc
never_crosses role Place.Ending bar e = cc
never_crosses role Place.Over bar e = cc

-- who takes next has just asked
takes_worked : (role : Role) (lock : Lock) (mode : Mode) → want_at role Place.Working ≡ Want.Take lock mode → ⊥
takes_worked (Role.Writes cell value) lock mode e = cc
takes_worked (Role.Reads cell) lock mode e = cc
takes_worked Role.Passes lock mode e = cc

taking_at : (role : Role) (place : Place) (lock : Lock) (mode : Mode) → want_at role place ≡ Want.Take lock mode → place ≡ Place.Taking
taking_at role Place.Asking lock mode e = cc
taking_at role Place.Taking lock mode e = refl
taking_at role Place.Working lock mode e = absurd (takes_worked role lock mode e)
taking_at role Place.Printing lock mode e = cc
taking_at role Place.Giving lock mode e = cc
taking_at role Place.Ending lock mode e = cc
taking_at role Place.Over lock mode e = cc

taken_next : (role : Role) → place_taken role ≡ Place.Taking → ⊥
taken_next (Role.Writes cell value) e = cc
taken_next (Role.Reads cell) e = cc
taken_next Role.Passes e = cc

worked_next : (role : Role) → place_worked role ≡ Place.Taking → ⊥
worked_next (Role.Writes cell value) e = cc
worked_next (Role.Reads cell) e = cc
worked_next Role.Passes e = cc

asking_next : (role : Role) (place : Place) → next_place role place ≡ Place.Taking → place ≡ Place.Asking
asking_next role Place.Asking e = refl
asking_next role Place.Taking e = absurd (taken_next role e)
asking_next role Place.Working e = absurd (worked_next role e)
asking_next role Place.Printing e = cc
asking_next role Place.Giving e = cc
asking_next role Place.Ending e = cc
asking_next role Place.Over e = cc

after_taking : (thread : Thread) (label : Label) → (after_label thread label).place ≡ Place.Taking → next_place thread.role thread.place ≡ Place.Taking
after_taking thread Label.Quiet e = e
after_taking thread (Label.Load cell value) e = e
after_taking thread (Label.Store cell value) e = e
after_taking thread (Label.Ask lock mode) e = e
after_taking thread (Label.Take lock mode version) e = e
after_taking thread (Label.Give lock) e = e
after_taking thread (Label.Arrive bar) e = e
after_taking thread (Label.Cross bar epoch) e = e
after_taking thread (Label.Line text) e = e
after_taking thread Label.End e = cc
after_taking thread (Label.Stop fault line) e = cc

took_at : (thread : Thread) (answer : ℤ) (label : Label) (lock : Lock) (mode : Mode) → Completes (want_at thread.role thread.place) answer label
    → want_at (after_label thread label).role (after_label thread label).place ≡ Want.Take lock mode → label ≡ Label.Ask lock mode
took_at thread answer label lock mode is e =
    let next : (after_label thread label).place ≡ Place.Taking = taking_at (after_label thread label).role (after_label thread label).place lock mode e in
    let asking : thread.place ≡ Place.Asking = asking_next thread.role thread.place (after_taking thread label next) in
    let asked : label ≡ Label.Ask record { 0 = 0 } (mode_of thread.role) = subst (λ place. Completes (want_at thread.role place) answer label) asking is in
    let takes : Want.Take record { 0 = 0 } (mode_of thread.role) ≡ Want.Take lock mode =
    ap (λ role. want_at role Place.Taking) (sym (role_kept thread label)) ∙ ap (λ place. want_at (after_label thread label).role place) (sym next) ∙ e in
    cc

pub asks_first : (maker : Threads) (me : ℕ) → AsksFirst semantics (first_by maker me)
asks_first maker me = record {
  no_take = λ lock mode e. cc;
  no_cross = λ bar e. cc;
  takes = λ labels lock mode line e.
      takes_at (state_after semantics (first_by maker me) labels).role (state_after semantics (first_by maker me) labels).place lock mode line e;
  crosses = λ labels bar e.
      absurd (never_arrives (state_after semantics (first_by maker me) labels).role (state_after semantics (first_by maker me) labels).place bar e);
  took = λ labels answer label lock mode is e. took_at (state_after semantics (first_by maker me) labels) answer label lock mode is e;
  crossed = λ labels answer label bar is e.
      absurd (never_crosses (after_label (state_after semantics (first_by maker me) labels) label).role (after_label (state_after semantics (first_by maker me) labels) label).place bar e);
  stops = λ labels fault line. refl;
  ends = λ labels. refl;
}
