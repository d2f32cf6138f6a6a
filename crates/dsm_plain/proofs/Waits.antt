-- Nobody keeps a processor waiting exactly where its turn is possible.
use Rattle.std.proofs.Common.{◌≡◌, ◌≢◌, ℕ, zero, suc, ◌&&◌, ◌||◌, ◌==◌, Bool, true, false, if◌then◌else◌, nat_lt, List, [], ◌∷◌, ◌++◌, Option, Some, None, refl, sym, ap, ◌∙◌, subst}
use Rattle.dsm_base.specs.declared.names.Mode.{Mode}
use Rattle.dsm_base.specs.declared.names.Proc.{Proc}
use Rattle.dsm_base.specs.declared.names.Lock.{Lock}
use Rattle.dsm_base.specs.declared.names.Bar.{Bar}
use Rattle.dsm_base.specs.declared.label.Want.{Want}
use Rattle.dsm_base.specs.declared.setup.Setup.{Setup}
use Rattle.dsm_base.specs.Family.{all_below}
use Rattle.dsm_base.specs.Plain.{PlainState, may_stand_beside, can_take, can_cross, label_of, seen_by, plain_turn_of}
use Rattle.dsm_base.specs.declared.holders.Holder.{Holder}
use Rattle.dsm_plain.specs.Waiting.{as_blocker, blockers, late, IsBlocked, IsAhead}

append_none : {A : Type 0} (xs ys : List A) → xs ++ ys ≡ [] → (xs ≡ []) × (ys ≡ [])
append_none [] ys h = (refl, h)
append_none (x ∷ xs) ys h = cc

module _ (held : ℕ → ℕ → Option Mode) (p lock : ℕ) (mode : Mode) where
  abbrev may_beside : ℕ → Bool
  may_beside q = (q == p) || may_stand_beside mode (held q lock)

  or_true : (test : Bool) → (test || true) ≡ true
  or_true true = refl
  or_true false = refl

  abbrev the_holder : ℕ → Mode → Bool → List Holder
  the_holder q m test = if test then [] else record { proc = record { 0 = q }; mode = m } ∷ []

  none_blocks : (q : ℕ) (hold : Option Mode) → as_blocker p mode q hold ≡ [] → ((q == p) || may_stand_beside mode hold) ≡ true
  none_blocks q None h = or_true (q == p)
  none_blocks q (Some m) h = by ((q == p) || may_stand_beside mode (Some m)) h
    where
      by : (test : Bool) → the_holder q m test ≡ [] → test ≡ true
      by true h = refl
      by false h = cc

  pass_blocks : (q : ℕ) (hold : Option Mode) → ((q == p) || may_stand_beside mode hold) ≡ true → as_blocker p mode q hold ≡ []
  pass_blocks q None h = refl
  pass_blocks q (Some m) h = ap (the_holder q m) h

  pub can_if_none : (n : ℕ) → blockers n held p lock mode ≡ [] → can_take n held p lock mode ≡ true
  can_if_none zero h = refl
  can_if_none (suc n) h =
      let parts = append_none (blockers n held p lock mode) (as_blocker p mode n (held n lock)) h in
      ap (λ test. test && all_below n may_beside) (none_blocks n (held n lock) parts.1) ∙ can_if_none n parts.0

  none_if_can : (n : ℕ) → can_take n held p lock mode ≡ true → blockers n held p lock mode ≡ []
  none_if_can zero h = refl
  none_if_can (suc n) h = by (may_beside n) refl (all_below n may_beside) (none_if_can n) h
    where
      by : (test : Bool) → may_beside n ≡ test → (rest : Bool) → (rest ≡ true → blockers n held p lock mode ≡ []) → (test && rest) ≡ true
          → blockers n held p lock mode ++ as_blocker p mode n (held n lock) ≡ []
      by true is rest before h = ap (λ xs. xs ++ as_blocker p mode n (held n lock)) (before h) ∙ pass_blocks n (held n lock) is
      by false is rest before h = cc

  pub cannot_if_some : (n : ℕ) → (blockers n held p lock mode ≡ [] → ⊥) → can_take n held p lock mode ≡ false
  cannot_if_some n some = by (can_take n held p lock mode) refl
    where
      by : (test : Bool) → can_take n held p lock mode ≡ test → test ≡ false
      by true is = absurd (some (none_if_can n is))
      by false is = refl

module _ (arrived : ℕ → ℕ → ℕ) (epoch bar : ℕ) where
  abbrev has_come : ℕ → Bool
  has_come q = nat_lt epoch (arrived q bar)

  abbrev missing : ℕ → Bool → List Proc
  missing q test = if test then [] else record { 0 = q } ∷ []

  none_missing : (q : ℕ) (test : Bool) → missing q test ≡ [] → test ≡ true
  none_missing q true h = refl
  none_missing q false h = cc

  pub cross_if_none : (n : ℕ) → late n arrived epoch bar ≡ [] → can_cross n arrived epoch bar ≡ true
  cross_if_none zero h = refl
  cross_if_none (suc n) h =
      let parts = append_none (late n arrived epoch bar) (missing n (has_come n)) h in
      ap (λ test. test && all_below n has_come) (none_missing n (has_come n) parts.1) ∙ cross_if_none n parts.0

  none_if_cross : (n : ℕ) → can_cross n arrived epoch bar ≡ true → late n arrived epoch bar ≡ []
  none_if_cross zero h = refl
  none_if_cross (suc n) h = by (has_come n) refl (all_below n has_come) (none_if_cross n) h
    where
      by : (test : Bool) → has_come n ≡ test → (rest : Bool) → (rest ≡ true → late n arrived epoch bar ≡ []) → (test && rest) ≡ true
          → late n arrived epoch bar ++ missing n (has_come n) ≡ []
      by true is rest before h = ap (λ xs. xs ++ missing n (has_come n)) (before h) ∙ ap (missing n) is
      by false is rest before h = cc

  pub no_cross_if_some : (n : ℕ) → (late n arrived epoch bar ≡ [] → ⊥) → can_cross n arrived epoch bar ≡ false
  no_cross_if_some n some = by (can_cross n arrived epoch bar) refl
    where
      by : (test : Bool) → can_cross n arrived epoch bar ≡ test → test ≡ false
      by true is = absurd (some (none_if_cross n is))
      by false is = refl

-- who wants to take a lock and can't is blocked
pub is_blocked : {S : Type 0} (setup : Setup) (s : PlainState S) (p : ℕ) (text : List ℕ) (want : Want) (lock : Lock) (mode : Mode) (holders : List Holder)
    → want ≡ Want.Take lock mode → holders ≢ [] → can_take setup.procs s.held p lock.0 mode ≡ false → holders ≡ blockers setup.procs s.held p lock.0 mode
    → (plain_turn_of setup s p text want ≡ None) × (s ≡ s) × IsBlocked setup s p want holders
is_blocked setup s p text want lock mode holders is some cannot are =
    subst (λ w. (plain_turn_of setup s p text w ≡ None) × (s ≡ s) × IsBlocked setup s p w holders) (sym is)
    (ap (λ test. if test then label_of setup.bindings p (seen_by s p) text (Want.Take lock mode) else None) cannot, refl, (some, are))

-- who wants to cross a barrier and can't is ahead
pub is_ahead : {S : Type 0} (setup : Setup) (s : PlainState S) (p : ℕ) (text : List ℕ) (want : Want) (bar : Bar) (procs : List Proc)
    → want ≡ Want.Cross bar → procs ≢ [] → can_cross setup.procs s.arrived (s.crossed p bar.0) bar.0 ≡ false → procs ≡ late setup.procs s.arrived (s.crossed p bar.0) bar.0
    → (plain_turn_of setup s p text want ≡ None) × (s ≡ s) × IsAhead setup s p want procs
is_ahead setup s p text want bar procs is some cannot are =
    subst (λ w. (plain_turn_of setup s p text w ≡ None) × (s ≡ s) × IsAhead setup s p w procs) (sym is)
    (ap (λ test. if test then label_of setup.bindings p (seen_by s p) text (Want.Cross bar) else None) cannot, refl, (some, are))
