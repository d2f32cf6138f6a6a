-- The holders of a lock and who waits for it, seen by processor, and which holds go together.
use Rattle.std.specs.Prelude.{◌≡◌, ℕ, ◌==◌, Bool, true, false, ◌&&◌, List, [], ◌∷◌, ◌++◌, map}
use Rattle.std.proofs.Common.{arith, refl, ap, subst, inl, inr, true≢false}
use Rattle.std.proofs.lemmas.Bool.Decides.{eqb_tells}
use Rattle.dsm_base.specs.declared.names.Mode.{Mode}
use Rattle.dsm_base.specs.declared.holders.Holder.{Holder}
use Rattle.dsm_base.specs.Holders.{are_compatible}
use Rattle.dsm_home.specs.declared.waiting.Waiting.{Waiting}
use Rattle.dsm_home.specs.LockStates.{fits_beside, holder_of, without_holder}
use Rattle.dsm_laws_protocol.specs.Situations.{modes_of, waits_of, hold_together}

abbrev pub waiting_modes : List Waiting → List Mode
waiting_modes queue = map (λ waiting. waiting.mode) queue

-- Seen by processor.

pub modes_append : (q : ℕ) (xs ys : List Holder) → modes_of q (xs ++ ys) ≡ modes_of q xs ++ modes_of q ys
modes_append q [] ys = refl
modes_append q (x ∷ xs) ys =
    elim (eqb_tells x.proc.0 q) [
      | inl (t, _) ↦ rw t (ap (λ ms. x.mode ∷ ms) (modes_append q xs ys))
      | inr (t, _) ↦ rw t (modes_append q xs ys)
    ]

pub waits_append : (q : ℕ) (xs ys : List Waiting) → waits_of q (xs ++ ys) ≡ waits_of q xs ++ waits_of q ys
waits_append q [] ys = refl
waits_append q (x ∷ xs) ys =
    elim (eqb_tells x.proc.0 q) [
      | inl (t, _) ↦ rw t (ap (λ ws. x ∷ ws) (waits_append q xs ys))
      | inr (t, _) ↦ rw t (waits_append q xs ys)
    ]

-- who is granted the lock holds it in the mode in which it waited
pub modes_granted : (q : ℕ) (ws : List Waiting) → modes_of q (map holder_of ws) ≡ waiting_modes (waits_of q ws)
modes_granted q [] = refl
modes_granted q (w ∷ ws) =
    elim (eqb_tells w.proc.0 q) [
      | inl (t, _) ↦ rw t (ap (λ ms. w.mode ∷ ms) (modes_granted q ws))
      | inr (t, _) ↦ rw t (modes_granted q ws)
    ]

pub modes_without : (q : ℕ) (hs : List Holder) → modes_of q (without_holder q hs) ≡ []
modes_without q [] = refl
modes_without q (h ∷ hs) =
    elim (eqb_tells h.proc.0 q) [
      | inl (t, _) ↦ rw t (modes_without q hs)
      | inr (t, _) ↦ rw (t, t) (modes_without q hs)
    ]

pub modes_without_other : (p q : ℕ) (hs : List Holder) → (q == p) ≡ false → modes_of q (without_holder p hs) ≡ modes_of q hs
modes_without_other p q [] ne = refl
modes_without_other p q (h ∷ hs) ne = grind (arith, modes_without_other p q hs ne)

-- Modes beside each other.

shared_turned : (m n : Mode) → are_compatible m n ≡ true → are_compatible n m ≡ true
shared_turned m n e = grind arith

both : (a b : Bool) → (a && b) ≡ true → (a ≡ true) × (b ≡ true)
both a b e = grind arith

pub beside_one : (xs : List Holder) (h : Holder) (m : Mode) → fits_beside xs m ≡ true → are_compatible h.mode m ≡ true → fits_beside (xs ++ h ∷ []) m ≡ true
beside_one [] h m e s = grind arith
beside_one (x ∷ xs) h m e s = grind (arith, beside_one xs h m)

pub together_one : (xs : List Holder) (h : Holder) → hold_together xs ≡ true → fits_beside xs h.mode ≡ true → hold_together (xs ++ h ∷ []) ≡ true
together_one [] h e c = refl
together_one (x ∷ xs) h e c = grind (arith, together_one xs h, beside_one xs h x.mode, shared_turned x.mode h.mode)

without_beside : (p : ℕ) (hs : List Holder) (m : Mode) → fits_beside hs m ≡ true → fits_beside (without_holder p hs) m ≡ true
without_beside p [] m e = refl
without_beside p (h ∷ hs) m e = grind (arith, without_beside p hs m)

pub without_together : (p : ℕ) (hs : List Holder) → hold_together hs ≡ true → hold_together (without_holder p hs) ≡ true
without_together p [] e = refl
without_together p (h ∷ hs) e = grind (arith, without_together p hs, without_beside p hs h.mode)

-- a hold that is compatible with the holders is so with each
pub beside_each : (q : ℕ) (hs : List Holder) (m n : Mode) (ns : List Mode) → fits_beside hs m ≡ true → modes_of q hs ≡ n ∷ ns → are_compatible n m ≡ true
beside_each q [] m n ns e is = absurd (true≢false (cc))
beside_each q (h ∷ hs) m n ns e is =
    elim (eqb_tells h.proc.0 q) [
      | inl (t, _) ↦ (let k : h.mode ∷ modes_of q hs ≡ n ∷ ns = rw t at is in let s : h.mode ≡ n = cc in subst (λ x. are_compatible x m ≡ true) s (both (are_compatible h.mode m) (fits_beside hs m) e).0)
      | inr (t, _) ↦ beside_each q hs m n ns (both (are_compatible h.mode m) (fits_beside hs m) e).1 (rw t at is)
    ]

-- two that hold a lock both hold it shared
pub both_shared : (p q : ℕ) (hs : List Holder) (m n : Mode) (ms ns : List Mode) → hold_together hs ≡ true → (p == q) ≡ false → modes_of p hs ≡ m ∷ ms → modes_of q hs ≡ n ∷ ns → are_compatible m n ≡ true
both_shared p q [] m n ms ns e ne a b = absurd (true≢false (cc))
both_shared p q (h ∷ hs) m n ms ns e ne a b = grind (arith, both_shared p q hs m n ms ns, beside_each p hs h.mode m ms, beside_each q hs h.mode n ns, shared_turned)
