-- One member of a family and the others, by the test that tells them apart.
use Rattle.std.specs.Prelude.{◌≡◌, ◌≢◌, ℕ, zero, suc, ◌+◌, ◌<◌, ◌==◌, true, false, if◌then◌else◌}
use Rattle.std.proofs.Common.{arith, refl, sym, ap, ◌∙◌, subst, inl, inr}
use Rattle.std.proofs.lemmas.Bool.Decides.{eqb_tells}
use Rattle.dsm_base.specs.Family.{update}
use Rattle.dsm_laws_protocol.specs.Situations.{total}

pub same_number : (n : ℕ) → (n == n) ≡ true
same_number n = grind arith

pub if_same : {A : Type 0} (n : ℕ) (a b : A) → (if n == n then a else b) ≡ a
if_same n a b = grind arith

pub turned_false : (a b : ℕ) → (b == a) ≡ false → (a == b) ≡ false
turned_false a b e = grind arith

pub turned_true : (a b : ℕ) → (a == b) ≡ true → (b == a) ≡ true
turned_true a b e = grind arith

pub apart_false : (a b : ℕ) → a ≢ b → (b == a) ≡ false
apart_false a b n = elim (eqb_tells b a) [ inl (_, i) ↦ absurd (n (sym i)) | inr (e, _) ↦ e ]

-- what holds of a changed member and of the others holds of all
pub one_changed : {P : ℕ → Type 0} (p : ℕ) → ((p == p) ≡ true → P p) → ((q : ℕ) → (q == p) ≡ false → P q) → (q : ℕ) → P q
one_changed {P} p here others q =
    elim (eqb_tells q p) [
      | inl (t, i) ↦ subst P (sym i) (here (rw i at t))
      | inr (t, _) ↦ others q t
    ]

-- a member replaced by itself
pub back_same : {A : Type 0} (f : ℕ → A) (p : ℕ) (a : A) → a ≡ f p → (q : ℕ) → update f p a q ≡ f q
back_same f p a e q = elim (eqb_tells q p) [ inl (t, i) ↦ rw t (e ∙ ap f (sym i)) | inr (t, _) ↦ rw t refl ]

-- what holds at a lock and at all others holds at all
pub at_locks : {P : ℕ → Type 0} (l : ℕ) → P l → ((lock : ℕ) → (l == lock) ≡ false → P lock) → (lock : ℕ) → P lock
at_locks {P} l here others lock = elim (eqb_tells l lock) [ inl (_, i) ↦ subst P i here | inr (e, _) ↦ others lock e ]

-- Sums of a family.

pub total_same : (n : ℕ) (f g : ℕ → ℕ) → ((q : ℕ) → f q ≡ g q) → total n f ≡ total n g
total_same zero f g h = refl
total_same (suc n) f g h = let a = h n in let b = total_same n f g h in omega arith

total_below : (n : ℕ) (f g : ℕ → ℕ) → ((q : ℕ) → q < n → g q ≡ f q) → total n g ≡ total n f
total_below zero f g h = refl
total_below (suc n) f g h = let a = h n (omega arith) in let b = total_below n f g (λ q lt. h q (omega arith)) in omega arith

-- one member is one more
pub total_more : (n : ℕ) (f g : ℕ → ℕ) (p : ℕ) → p < n → g p ≡ f p + 1 → ((q : ℕ) → (q == p) ≡ false → g q ≡ f q) → total n g ≡ total n f + 1
total_more zero f g p lt e h = absurd (omega arith)
total_more (suc n) f g p lt e h =
    elim (eqb_tells n p) [
      | inl (t, i) ↦ (let k : total n g ≡ total n f = total_below n f g (λ q less. h q (grind arith)) in let m : g n ≡ f n + 1 = rw i e in omega arith)
      | inr (t, i) ↦ (let k : total n g ≡ total n f + 1 = total_more n f g p (omega arith) e h in let m = h n t in omega arith)
    ]
