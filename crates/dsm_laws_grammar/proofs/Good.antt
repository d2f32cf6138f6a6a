-- What a reader has that reads from the left and looks one token ahead. It takes tokens that go on to a value, also where
-- it refuses; and it does the same before any other tokens that begin with the one that it saw last, also with more levels.
use Rattle.std.proofs.Common.{◌≡◌, ◌≤◌, ◌<◌, length, length-append, ℕ, zero, suc, Bool, true, false, cond, List, [], ◌∷◌, ◌++◌, Option, Some, refl, sym, ap, ◌∙◌, subst, arith, append_assoc}
use Rattle.dsm_syntax.specs.declared.sign.Sign.{Sign}
use Rattle.dsm_syntax.specs.declared.word.Word.{Word}
use Rattle.dsm_syntax.specs.Lexemes.{Lexeme, sign, word}
use Rattle.dsm_syntax.specs.Reading.{Read, ok, unexpected, too_high, Reader, and_then, look, tail, is_sign, is_word, after_sign, ended_by}
use Rattle.dsm_laws_grammar.proofs.Fronts.{look_append, Looks, is_sign_look, of_sign, is_that_sign, is_word_look, of_word, is_that_word}

-- the values of at most a height, with their tokens
abbrev pub Language : Type 0 → Type 1
Language A = ℕ → A → List Lexeme → Type 0

-- what may come after a value
abbrev pub Follow : Type 0 → Type 1
Follow A = A → Option Lexeme → Type 0

abbrev pub Free : {A : Type 0} → A → Option Lexeme → Type 0
Free a next = Unit {0}

-- trees that the grammar has, by their one spelling
pub record Spelled {A : Type 0} (spell : A → List Lexeme) (Fits : A → Type 0) (height : A → ℕ) (d : ℕ) (a : A) (w : List Lexeme) : Type 0 where
  pub is : spell a ≡ w
  pub fits : Fits a
  pub low : height a ≤ d

-- the tokens of some value begin so
pub record Begins {A : Type 0} (L : Language A) (d : ℕ) (pre : List Lexeme) : Type 0 where
  pub value : A
  pub more : List Lexeme
  pub is : L d value (pre ++ more)

-- and go on with this token, if the value may be as high as `most`
pub record BeginsPast {A : Type 0} (L : Language A) (d : ℕ) (pre : List Lexeme) (next : Option Lexeme) : Type 0 where
  pub token : Lexeme
  pub next_is : next ≡ Some token
  pub most : ℕ
  pub enough : d ≤ most
  pub value : A
  pub more : List Lexeme
  pub is : L most value (pre ++ token ∷ more)

pub record Takes {A : Type 0} (L : Language A) (F : Follow A) (P : ℕ → Reader A) (d : ℕ) (ts : List Lexeme) (a : A) (rest : List Lexeme) : Type 0 where
  pub pre : List Lexeme
  pub split : ts ≡ pre ++ rest
  pub is : L d a pre
  pub next : F a (look rest)
  pub again : (m : ℕ) (r : List Lexeme) → d ≤ m → look r ≡ look rest → P m (pre ++ r) ≡ ok a r

pub record Refuses {A : Type 0} (L : Language A) (P : ℕ → Reader A) (d : ℕ) (ts : List Lexeme) (rest : List Lexeme) : Type 0 where
  pub pre : List Lexeme
  pub split : ts ≡ pre ++ rest
  pub begun : Begins L d pre
  pub again : (m : ℕ) (r : List Lexeme) → d ≤ m → look r ≡ look rest → P m (pre ++ r) ≡ unexpected r

pub record Nests {A : Type 0} (L : Language A) (P : ℕ → Reader A) (d : ℕ) (ts : List Lexeme) (rest : List Lexeme) : Type 0 where
  pub pre : List Lexeme
  pub split : ts ≡ pre ++ rest
  pub begun : Begins L d pre
  pub past : BeginsPast L d pre (look rest)
  pub again : (r : List Lexeme) → look r ≡ look rest → P d (pre ++ r) ≡ too_high r

abbrev pub Outcome : {A : Type 0} → Language A → Follow A → (ℕ → Reader A) → ℕ → List Lexeme → Read A → Type 0
Outcome L F P d ts (ok a rest) = Takes L F P d ts a rest
Outcome L F P d ts (unexpected rest) = Refuses L P d ts rest
Outcome L F P d ts (too_high rest) = Nests L P d ts rest

pub record Good {A : Type 0} (L : Language A) (F : Follow A) (P : ℕ → Reader A) (d : ℕ) (ts : List Lexeme) : Type 0 where
  pub outcome : Outcome L F P d ts (P d ts)

-- Readers of no token.

pub good_ok : {A : Type 0} {L : Language A} {F : Follow A} {d : ℕ} {ts : List Lexeme} (a : A) → L d a [] → F a (look ts) → Good L F (λ m. ok a) d ts
good_ok a is next = record { outcome = record { pre = []; split = refl; is = is; next = next; again = λ m r le lk. refl } }

pub good_unexpected : {A : Type 0} {L : Language A} {F : Follow A} {d : ℕ} {ts : List Lexeme} → Begins L d [] → Good L F (λ m. unexpected) d ts
good_unexpected begun = record { outcome = record { pre = []; split = refl; begun = begun; again = λ m r le lk. refl } }

pub good_too_high : {A : Type 0} {L : Language A} {F : Follow A} {P : ℕ → Reader A} {d : ℕ} {ts : List Lexeme} →
    Begins L d [] → BeginsPast L d [] (look ts) → ((r : List Lexeme) → look r ≡ look ts → P d r ≡ too_high r) → Good L F P d ts
good_too_high {L = L} {F = F} {P = P} {d = d} {ts = ts} begun past same =
    record { outcome = subst (Outcome L F P d ts) (sym (same ts refl)) (record { pre = []; split = refl; begun = begun; past = past; again = same }) }

-- some value there is always
pub begun_of : {A : Type 0} {L : Language A} {F : Follow A} {P : ℕ → Reader A} {d : ℕ} {ts : List Lexeme} → Good L F P d ts → Begins L d []
begun_of {L = L} {F = F} {P = P} {d = d} {ts = ts} good = of (P d ts) good.outcome
  where
    of : (r : Read _) → Outcome L F P d ts r → Begins L d []
    of (ok a rest) g = record { value = a; more = g.pre; is = g.is }
    of (unexpected rest) g = record { value = g.begun.value; more = g.pre ++ g.begun.more; is = g.begun.is }
    of (too_high rest) g = record { value = g.begun.value; more = g.pre ++ g.begun.more; is = g.begun.is }

-- Other words for the same.

-- a reader that does the same before tokens that begin alike
pub good_as : {A : Type 0} {L : Language A} {F : Follow A} {P Q : ℕ → Reader A} {d : ℕ} {ts : List Lexeme} →
    Good L F P d ts → ((m : ℕ) (s : List Lexeme) → d ≤ m → look s ≡ look ts → Q m s ≡ P m s) → Good L F Q d ts
good_as {L = L} {F = F} {P = P} {Q = Q} {d = d} {ts = ts} good same =
    record { outcome = subst (Outcome L F Q d ts) (sym (same d ts (omega arith) refl)) (of (P d ts) good.outcome) }
  where
    to : (pre r rest : List Lexeme) → ts ≡ pre ++ rest → look r ≡ look rest → look (pre ++ r) ≡ look ts
    to pre r rest split lk = look_append pre r rest lk ∙ ap look (sym split)

    of : (r : Read _) → Outcome L F P d ts r → Outcome L F Q d ts r
    of (ok a rest) g = record {
      pre = g.pre;
      split = g.split;
      is = g.is;
      next = g.next;
      again = λ m r le lk. same m (g.pre ++ r) le (to g.pre r rest g.split lk) ∙ g.again m r le lk;
    }
    of (unexpected rest) g = record {
      pre = g.pre;
      split = g.split;
      begun = g.begun;
      again = λ m r le lk. same m (g.pre ++ r) le (to g.pre r rest g.split lk) ∙ g.again m r le lk;
    }
    of (too_high rest) g = record {
      pre = g.pre;
      split = g.split;
      begun = g.begun;
      past = g.past;
      again = λ r lk. same d (g.pre ++ r) (omega arith) (to g.pre r rest g.split lk) ∙ g.again r lk;
    }

-- a language that has more
pub good_weaken : {A : Type 0} {L K : Language A} {F G : Follow A} {P : ℕ → Reader A} {d : ℕ} {ts : List Lexeme} →
    ((m : ℕ) (a : A) (w : List Lexeme) → d ≤ m → L m a w → K m a w) → ((a : A) (next : Option Lexeme) → F a next → G a next) → Good L F P d ts → Good K G P d ts
good_weaken {L = L} {K = K} {F = F} {G = G} {P = P} {d = d} {ts = ts} more wider good = record { outcome = of (P d ts) good.outcome }
  where
    begins : (pre : List Lexeme) → Begins L d pre → Begins K d pre
    begins pre b = record { value = b.value; more = b.more; is = more d b.value (pre ++ b.more) (omega arith) b.is }

    of : (r : Read _) → Outcome L F P d ts r → Outcome K G P d ts r
    of (ok a rest) g =
        record { pre = g.pre; split = g.split; is = more d a g.pre (omega arith) g.is; next = wider a (look rest) g.next; again = g.again }
    of (unexpected rest) g = record { pre = g.pre; split = g.split; begun = begins g.pre g.begun; again = g.again }
    of (too_high rest) g = record {
      pre = g.pre;
      split = g.split;
      begun = begins g.pre g.begun;
      past = let p = g.past in record {
        token = p.token;
        next_is = p.next_is;
        most = p.most;
        enough = p.enough;
        value = p.value;
        more = p.more;
        is = more p.most p.value (g.pre ++ p.token ∷ p.more) p.enough p.is;
      };
      again = g.again;
    }

-- the value made into another
pub good_map : {A B : Type 0} {L : Language B} {F : Follow B} {P : ℕ → Reader A} {d : ℕ} {ts : List Lexeme} (f : A → B) →
    Good (λ m a. L m (f a)) (λ a. F (f a)) P d ts → Good L F (λ m s. and_then (P m s) (λ a. ok (f a))) d ts
good_map {A = A} {B = B} {L = L} {F = F} {P = P} {d = d} {ts = ts} f good = record { outcome = of (P d ts) good.outcome }
  where
    made : Read A → Read B
    made r = and_then r (λ a. ok (f a))

    of : (r : Read A) → Outcome (λ m a. L m (f a)) (λ a. F (f a)) P d ts r → Outcome L F (λ m s. and_then (P m s) (λ a. ok (f a))) d ts (and_then r (λ a. ok (f a)))
    of (ok a rest) g = record { pre = g.pre; split = g.split; is = g.is; next = g.next; again = λ m r le lk. ap (λ x. and_then x (λ a. ok (f a))) (g.again m r le lk) }
    of (unexpected rest) g = record {
      pre = g.pre;
      split = g.split;
      begun = record { value = f g.begun.value; more = g.begun.more; is = g.begun.is };
      again = λ m r le lk. ap (λ x. and_then x (λ a. ok (f a))) (g.again m r le lk);
    }
    of (too_high rest) g = record {
      pre = g.pre;
      split = g.split;
      begun = record { value = f g.begun.value; more = g.begun.more; is = g.begun.is };
      past = let p = g.past in record {
        token = p.token;
        next_is = p.next_is;
        most = p.most;
        enough = p.enough;
        value = f p.value;
        more = p.more;
        is = p.is;
      };
      again = λ r lk. ap (λ x. and_then x (λ a. ok (f a))) (g.again r lk);
    }

-- a reader of one level more
pub good_up : {A : Type 0} {L : Language A} {F : Follow A} {P Q : ℕ → Reader A} {d : ℕ} {ts : List Lexeme} →
    Good (λ m. L (suc m)) F P d ts → ((m : ℕ) (s : List Lexeme) → d ≤ m → look s ≡ look ts → Q (suc m) s ≡ P m s) → Good L F Q (suc d) ts
good_up {A = A} {L = L} {F = F} {P = P} {Q = Q} {d = d} {ts = ts} good same =
    record { outcome = subst (Outcome L F Q (suc d) ts) (sym (same d ts (omega arith) refl)) (of (P d ts) good.outcome) }
  where
    to : (pre r rest : List Lexeme) → ts ≡ pre ++ rest → look r ≡ look rest → look (pre ++ r) ≡ look ts
    to pre r rest split lk = look_append pre r rest lk ∙ ap look (sym split)

    goes : (pre rest : List Lexeme) (x : List Lexeme → Read A) → ts ≡ pre ++ rest → ((m : ℕ) (r : List Lexeme) → d ≤ m → look r ≡ look rest → P m (pre ++ r) ≡ x r)
        → (m : ℕ) (r : List Lexeme) → suc d ≤ m → look r ≡ look rest → Q m (pre ++ r) ≡ x r
    goes pre rest x split again zero r le lk = absurd (omega arith)
    goes pre rest x split again (suc m) r le lk = same m (pre ++ r) (omega arith) (to pre r rest split lk) ∙ again m r (omega arith) lk

    of : (r : Read A) → Outcome (λ m. L (suc m)) F P d ts r → Outcome L F Q (suc d) ts r
    of (ok a rest) g = record { pre = g.pre; split = g.split; is = g.is; next = g.next; again = goes g.pre rest (ok a) g.split g.again }
    of (unexpected rest) g = record {
      pre = g.pre;
      split = g.split;
      begun = record { value = g.begun.value; more = g.begun.more; is = g.begun.is };
      again = goes g.pre rest unexpected g.split g.again;
    }
    of (too_high rest) g = record {
      pre = g.pre;
      split = g.split;
      begun = record { value = g.begun.value; more = g.begun.more; is = g.begun.is };
      past = let p = g.past in record {
        token = p.token;
        next_is = p.next_is;
        most = suc p.most;
        enough = let e = p.enough in omega arith;
        value = p.value;
        more = p.more;
        is = p.is;
      };
      again = λ r lk. same d (g.pre ++ r) (omega arith) (to g.pre r rest g.split lk) ∙ g.again r lk;
    }

-- Sequences.

-- behind a token
pub good_after : {A : Type 0} {L : Language A} {F : Follow A} {P Q : ℕ → Reader A} {d : ℕ} {ts : List Lexeme} (x : Lexeme) →
    Good (λ m a w. L m a (x ∷ w)) F P d ts → ((m : ℕ) (s : List Lexeme) → d ≤ m → Q m (x ∷ s) ≡ P m s) → Good L F Q d (x ∷ ts)
good_after {A = A} {L = L} {F = F} {P = P} {Q = Q} {d = d} {ts = ts} x good same =
    record { outcome = subst (Outcome L F Q d (x ∷ ts)) (sym (same d ts (omega arith))) (of (P d ts) good.outcome) }
  where
    of : (r : Read A) → Outcome (λ m a w. L m a (x ∷ w)) F P d ts r → Outcome L F Q d (x ∷ ts) r
    of (ok a rest) g =
        record { pre = x ∷ g.pre; split = ap (λ w. x ∷ w) g.split; is = g.is; next = g.next; again = λ m r le lk. same m (g.pre ++ r) le ∙ g.again m r le lk }
    of (unexpected rest) g = record {
      pre = x ∷ g.pre;
      split = ap (λ w. x ∷ w) g.split;
      begun = record { value = g.begun.value; more = g.begun.more; is = g.begun.is };
      again = λ m r le lk. same m (g.pre ++ r) le ∙ g.again m r le lk;
    }
    of (too_high rest) g = record {
      pre = x ∷ g.pre;
      split = ap (λ w. x ∷ w) g.split;
      begun = record { value = g.begun.value; more = g.begun.more; is = g.begun.is };
      past = let p = g.past in record {
        token = p.token;
        next_is = p.next_is;
        most = p.most;
        enough = p.enough;
        value = p.value;
        more = p.more;
        is = p.is;
      };
      again = λ r lk. same d (g.pre ++ r) (omega arith) ∙ g.again r lk;
    }

-- one after the other; what the first one takes goes on to a whole
pub good_then : {A B : Type 0} {K : Language A} {F : Follow A} {L : Language B} {G : Follow B} {P : ℕ → Reader A} {Q : ℕ → A → Reader B} {d : ℕ} {ts : List Lexeme} →
    Good K F P d ts
    → ((m : ℕ) (a : A) (u : List Lexeme) → d ≤ m → K m a u → Begins L m u)
    → ((a : A) (u rest : List Lexeme) → ts ≡ u ++ rest → K d a u → F a (look rest) → Good (λ m b v. L m b (u ++ v)) G (λ m. Q m a) d rest)
    → Good L G (λ m s. and_then (P m s) (Q m)) d ts
good_then {A = A} {B = B} {K = K} {F = F} {L = L} {G = G} {P = P} {Q = Q} {d = d} {ts = ts} first least second = record { outcome = of (P d ts) first.outcome }
  where
    Both : ℕ → Reader B
    Both m s = and_then (P m s) (Q m)

    begins : (pre : List Lexeme) → Begins K d pre → Begins L d pre
    begins pre b =
        let c = least d b.value (pre ++ b.more) (omega arith) b.is in
        record { value = c.value; more = b.more ++ c.more; is = subst (L d c.value) (append_assoc pre b.more c.more) c.is }

    past : (pre : List Lexeme) (next : Option Lexeme) → BeginsPast K d pre next → BeginsPast L d pre next
    past pre next p =
        let c = least p.most p.value (pre ++ p.token ∷ p.more) p.enough p.is in record {
          token = p.token;
          next_is = p.next_is;
          most = p.most;
          enough = p.enough;
          value = c.value;
          more = p.more ++ c.more;
          is = subst (L p.most c.value) (append_assoc pre (p.token ∷ p.more) c.more) c.is;
        }

    on : (a : A) (mid : List Lexeme) (g : Takes K F P d ts a mid) (r : Read B) → Outcome (λ m b v. L m b (g.pre ++ v)) G (λ m. Q m a) d mid r
        → Outcome L G (λ m s. and_then (P m s) (Q m)) d ts r
    on a mid g = so
      where
        regroup : (pre rest : List Lexeme) → mid ≡ pre ++ rest → ts ≡ (g.pre ++ pre) ++ rest
        regroup pre rest e = g.split ∙ ap (λ l. g.pre ++ l) e ∙ sym (append_assoc g.pre pre rest)

        begins_on : (pre : List Lexeme) → Begins (λ m b v. L m b (g.pre ++ v)) d pre → Begins L d (g.pre ++ pre)
        begins_on pre b = record { value = b.value; more = b.more; is = subst (L d b.value) (sym (append_assoc g.pre pre b.more)) b.is }

        again : (pre rest r : List Lexeme) (m : ℕ) → mid ≡ pre ++ rest → d ≤ m → look r ≡ look rest → Both m ((g.pre ++ pre) ++ r) ≡ Q m a (pre ++ r)
        again pre rest r m e le lk =
            let one : P m (g.pre ++ (pre ++ r)) ≡ ok a (pre ++ r) = g.again m (pre ++ r) le (look_append pre r rest lk ∙ ap look (sym e)) in
            ap (Both m) (append_assoc g.pre pre r) ∙ ap (λ x. and_then x (Q m)) one

        so : (r : Read B) → Outcome (λ m b v. L m b (g.pre ++ v)) G (λ m. Q m a) d mid r → Outcome L G (λ m s. and_then (P m s) (Q m)) d ts r
        so (ok b rest) h = record {
          pre = g.pre ++ h.pre;
          split = regroup h.pre rest h.split;
          is = h.is;
          next = h.next;
          again = λ m r le lk. again h.pre rest r m h.split le lk ∙ h.again m r le lk;
        }
        so (unexpected rest) h = record {
          pre = g.pre ++ h.pre;
          split = regroup h.pre rest h.split;
          begun = begins_on h.pre h.begun;
          again = λ m r le lk. again h.pre rest r m h.split le lk ∙ h.again m r le lk;
        }
        so (too_high rest) h = record {
          pre = g.pre ++ h.pre;
          split = regroup h.pre rest h.split;
          begun = begins_on h.pre h.begun;
          past = let p = h.past in record {
            token = p.token;
            next_is = p.next_is;
            most = p.most;
            enough = p.enough;
            value = p.value;
            more = p.more;
            is = subst (L p.most p.value) (sym (append_assoc g.pre h.pre (p.token ∷ p.more))) p.is;
          };
          again = λ r lk. again h.pre rest r d h.split (omega arith) lk ∙ h.again r lk;
        }

    of : (r : Read A) → Outcome K F P d ts r → Outcome L G (λ m s. and_then (P m s) (Q m)) d ts (and_then r (Q d))
    of (ok a mid) g = on a mid g (Q d a mid) (second a g.pre mid g.split g.is g.next).outcome
    of (unexpected rest) g = record { pre = g.pre; split = g.split; begun = begins g.pre g.begun; again = λ m r le lk. ap (λ x. and_then x (Q m)) (g.again m r le lk) }
    of (too_high rest) g = record { pre = g.pre; split = g.split; begun = begins g.pre g.begun; past = past g.pre (look rest) g.past; again = λ r lk. ap (λ x. and_then x (Q d)) (g.again r lk) }

-- the same where the first one's values are trees
pub good_next : {A B : Type 0} {spell : A → List Lexeme} {Fits : A → Type 0} {height : A → ℕ} {F : Follow A} {L : Language B} {G : Follow B} {P : ℕ → Reader A} {Q : ℕ → A → Reader B} {d : ℕ} {ts : List Lexeme} →
    Good (Spelled spell Fits height) F P d ts
    → ((m : ℕ) (a : A) → d ≤ m → Fits a → height a ≤ m → Begins L m (spell a))
    → ((a : A) (rest : List Lexeme) → ts ≡ spell a ++ rest → Fits a → height a ≤ d → F a (look rest) → Good (λ m b v. L m b (spell a ++ v)) G (λ m. Q m a) d rest)
    → Good L G (λ m s. and_then (P m s) (Q m)) d ts
good_next {A = A} {spell = spell} {L = L} {G = G} {Q = Q} {d = d} {ts = ts} first least second = good_then first
    (λ m a u le k. subst (Begins L m) k.is (least m a le k.fits k.low))
    (λ a u rest at k next. subst (λ u. Good (λ m b v. L m b (u ++ v)) G (λ m. Q m a) d rest) k.is
    (second a rest (at ∙ ap (λ u. u ++ rest) (sym k.is)) k.fits k.low next))

-- by what comes next
pub good_if : {A : Type 0} {L : Language A} {F : Follow A} {P Q : ℕ → Reader A} {d : ℕ} {ts : List Lexeme} (test : List Lexeme → Bool) → Looks test
    → (test ts ≡ true → Good L F P d ts) → (test ts ≡ false → Good L F Q d ts) → Good L F (λ m s. cond (test s) (P m s) (Q m s)) d ts
good_if {A = A} {L = L} {F = F} {P = P} {Q = Q} {d = d} {ts = ts} test looks passes fails = of (test ts) refl
  where
    of : (b : Bool) → test ts ≡ b → Good L F (λ m s. cond (test s) (P m s) (Q m s)) d ts
    of true e = good_as (passes e) (λ m s le lk. ap (λ b. cond b (P m s) (Q m s)) (looks s ts lk ∙ e))
    of false e = good_as (fails e) (λ m s le lk. ap (λ b. cond b (P m s) (Q m s)) (looks s ts lk ∙ e))

-- behind a sign that has to come
pub good_sign : {A : Type 0} {L : Language A} {F : Follow A} {P : ℕ → Reader A} {d : ℕ} {ts : List Lexeme} (s : Sign) →
    ((rest : List Lexeme) → Good (λ m a w. L m a (sign s ∷ w)) F P d rest) → Good L F (λ m. after_sign s (P m)) d ts
good_sign {A = A} {L = L} {F = F} {P = P} {d = d} {ts = ts} s good = of (is_sign s ts) refl
  where
    of : (b : Bool) → is_sign s ts ≡ b → Good L F (λ m. after_sign s (P m)) d ts
    of true e = subst (Good L F (λ m. after_sign s (P m)) d) (sym (of_sign s ts e))
        (good_after (sign s) (good (tail ts)) (λ m r le. ap (λ b. cond b (P m r) (unexpected (sign s ∷ r))) (is_that_sign s r)))
    of false e =
        let some = begun_of (good []) in
        good_as (good_unexpected (record { value = some.value; more = sign s ∷ some.more; is = some.is }))
        (λ m r le lk. ap (λ b. cond b (P m (tail r)) (unexpected r)) (is_sign_look s r ts lk ∙ e))

-- behind a word that has to come
pub good_word : {A : Type 0} {L : Language A} {F : Follow A} {P : ℕ → Reader A} {d : ℕ} {ts : List Lexeme} (w : Word) →
    ((rest : List Lexeme) → Good (λ m a v. L m a (word w ∷ v)) F P d rest) → Good L F (λ m s. cond (is_word w s) (P m (tail s)) (unexpected s)) d ts
good_word {A = A} {L = L} {F = F} {P = P} {d = d} {ts = ts} w good = of (is_word w ts) refl
  where
    of : (b : Bool) → is_word w ts ≡ b → Good L F (λ m s. cond (is_word w s) (P m (tail s)) (unexpected s)) d ts
    of true e = subst (Good L F (λ m s. cond (is_word w s) (P m (tail s)) (unexpected s)) d) (sym (of_word w ts e))
        (good_after (word w) (good (tail ts)) (λ m r le. ap (λ b. cond b (P m r) (unexpected (word w ∷ r))) (is_that_word w r)))
    of false e =
        let some = begun_of (good []) in
        good_as (good_unexpected (record { value = some.value; more = word w ∷ some.more; is = some.is }))
        (λ m r le lk. ap (λ b. cond b (P m (tail r)) (unexpected r)) (is_word_look w r ts lk ∙ e))

-- behind a sign or a word that comes
pub good_behind_sign : {A : Type 0} {L : Language A} {F : Follow A} {P : ℕ → Reader A} {d : ℕ} {ts : List Lexeme} (s : Sign) → is_sign s ts ≡ true
    → Good (λ m a w. L m a (sign s ∷ w)) F P d (tail ts) → Good L F (λ m r. P m (tail r)) d ts
good_behind_sign {L = L} {F = F} {P = P} {d = d} {ts = ts} s e good =
    subst (Good L F (λ m r. P m (tail r)) d) (sym (of_sign s ts e)) (good_after (sign s) good (λ m r le. refl))

pub good_behind_word : {A : Type 0} {L : Language A} {F : Follow A} {P : ℕ → Reader A} {d : ℕ} {ts : List Lexeme} (w : Word) → is_word w ts ≡ true
    → Good (λ m a v. L m a (word w ∷ v)) F P d (tail ts) → Good L F (λ m r. P m (tail r)) d ts
good_behind_word {L = L} {F = F} {P = P} {d = d} {ts = ts} w e good =
    subst (Good L F (λ m r. P m (tail r)) d) (sym (of_word w ts e)) (good_after (word w) good (λ m r le. refl))

-- a last sign
pub good_end : {A : Type 0} {L : Language A} {F : Follow A} {d : ℕ} {ts : List Lexeme} (s : Sign) (a : A) → L d a (sign s ∷ []) → ((next : Option Lexeme) → F a next) → Good L F (λ m. ended_by s a) d ts
good_end s a is free = good_sign s (λ rest. good_ok a is (free (look rest)))

-- what is left is no longer than what there was
pub no_longer : {A : Type 0} {L : Language A} {F : Follow A} {P : ℕ → Reader A} {d : ℕ} {ts : List Lexeme} → Good L F P d ts → (a : A) (rest : List Lexeme) → P d ts ≡ ok a rest → length rest ≤ length ts
no_longer {L = L} {F = F} {P = P} {d = d} {ts = ts} good a rest e =
    let g = subst (Outcome L F P d ts) e good.outcome in
    omega (arith, ap length g.split, length-append g.pre rest)

-- and shorter where something was taken
pub shorter : {A : Type 0} {L : Language A} {F : Follow A} {P : ℕ → Reader A} {d : ℕ} {ts : List Lexeme} → Good L F P d ts → ((a : A) (w : List Lexeme) → L d a w → 1 ≤ length w)
    → (a : A) (rest : List Lexeme) → P d ts ≡ ok a rest → length rest < length ts
shorter {L = L} {F = F} {P = P} {d = d} {ts = ts} good long a rest e =
    let g = subst (Outcome L F P d ts) e good.outcome in
    omega (arith, ap length g.split, length-append g.pre rest, long a g.pre g.is)
