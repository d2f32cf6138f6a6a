-- Readers of several values, one after the other.
use Rattle.std.proofs.Common.{◌≡◌, ◌≤◌, ◌<◌, ℕ, zero, suc, Bool, true, false, List, [], ◌∷◌, ◌++◌, length, flat_map, Option, Err, refl, sym, ap, ◌∙◌, subst, arith, append_assoc, append-nil, length-append}
use Rattle.std.specs.List.{AllByRecursion}
use Rattle.dsm_syntax.specs.declared.refusal.Refusal.{Refusal}
use Rattle.dsm_syntax.specs.Gives.{Gives}
use Rattle.dsm_syntax.specs.Lexemes.{Lexeme}
use Rattle.dsm_syntax.specs.Heights.{highest}
use Rattle.dsm_syntax.specs.Reading.{Read, ok, unexpected, too_high, Reader, and_then, look, repeated, gathered}
use Rattle.dsm_laws_grammar.proofs.Fronts.{look_append, Looks}
use Rattle.dsm_laws_grammar.proofs.Good.{Language, Follow, Spelled, Begins, BeginsPast, Takes, Outcome, Good}

-- a refusal stays one
pub gives_none : {A B C D : Type 0} (read : Read A) (more : A → Reader B) (see : C → A) (see' : D → B) (why : Refusal) (left : List Lexeme)
    → Gives see read (Err why) left → Gives see' (and_then read more) (Err why) left
gives_none read more see see' Refusal.Unexpected left h = ap (λ r. and_then r more) h
gives_none read more see see' Refusal.TooHigh left h = ap (λ r. and_then r more) h
gives_none read more see see' Refusal.Memory left h = tt

-- nothing comes that goes on
abbrev pub Stopped : {A : Type 0} → (List Lexeme → Bool) → A → Option Lexeme → Type 0
Stopped goes_on all next = (r : List Lexeme) → look r ≡ next → goes_on r ≡ false

-- as often as can be
abbrev pub all_of : {A : Type 0} → (List Lexeme → Bool) → (ℕ → Reader A) → ℕ → Reader (List A)
all_of goes_on member m tokens = repeated goes_on (member m) (length tokens) tokens

abbrev pub AllOf : {A : Type 0} → (A → List Lexeme) → (A → Type 0) → (A → ℕ) → Language (List A)
AllOf spell Fits height = Spelled (flat_map spell) (AllByRecursion Fits) (highest height)

pub stops : {A : Type 0} (goes_on : List Lexeme → Bool) (member : Reader A) (k : ℕ) (ts : List Lexeme) → goes_on ts ≡ false → repeated goes_on member k ts ≡ ok [] ts
stops goes_on member zero ts e = refl
stops goes_on member (suc k) ts e = rw e refl

pub turns : {A : Type 0} (goes_on : List Lexeme → Bool) (member : Reader A) (k : ℕ) (ts : List Lexeme) → goes_on ts ≡ true
    → repeated goes_on member (suc k) ts ≡ and_then (member ts) (λ a rest. and_then (repeated goes_on member k rest) (λ others. ok (a ∷ others)))
turns goes_on member k ts e = rw e refl

module _ {A : Type 0} (spell : A → List Lexeme) (Fits : A → Type 0) (height : A → ℕ) (F : Follow A) (goes_on : List Lexeme → Bool) (member : ℕ → Reader A) where
  abbrev Every : Language (List A)
  Every = AllOf spell Fits height

  module _ (looks : Looks goes_on) (ends : goes_on [] ≡ false) (long : (a : A) → Fits a → 1 ≤ length (spell a)) (d : ℕ)
      (good : (ts : List Lexeme) → goes_on ts ≡ true → Good (Spelled spell Fits height) F member d ts) where
    -- the same before other tokens, with enough turns
    abbrev Again : List Lexeme → Option Lexeme → (List Lexeme → Read (List A)) → ℕ → Type 0
    Again pre next x m = (k : ℕ) (r : List Lexeme) → length (pre ++ r) ≤ k → look r ≡ next → repeated goes_on (member m) k (pre ++ r) ≡ x r

    record Took (ts : List Lexeme) (all : List A) (rest : List Lexeme) : Type 0 where
      pre : List Lexeme
      split : ts ≡ pre ++ rest
      is : Every d all pre
      next : Stopped goes_on all (look rest)
      again : (m : ℕ) → d ≤ m → Again pre (look rest) (ok all) m

    record Refused (ts rest : List Lexeme) : Type 0 where
      pre : List Lexeme
      split : ts ≡ pre ++ rest
      begun : Begins Every d pre
      again : (m : ℕ) → d ≤ m → Again pre (look rest) unexpected m

    record Nested (ts rest : List Lexeme) : Type 0 where
      pre : List Lexeme
      split : ts ≡ pre ++ rest
      begun : Begins Every d pre
      past : BeginsPast Every d pre (look rest)
      again : Again pre (look rest) too_high d

    abbrev Answered : List Lexeme → Read (List A) → Type 0
    Answered ts (ok all rest) = Took ts all rest
    Answered ts (unexpected rest) = Refused ts rest
    Answered ts (too_high rest) = Nested ts rest

    some_of : (l : List Lexeme) → goes_on l ≡ true → 1 ≤ length l
    some_of [] e = absurd cc
    some_of (x ∷ l) e = omega arith

    -- a turn before other tokens
    again_on : (m : ℕ) (a : A) (u pre mid rest : List Lexeme) (x : List Lexeme → Read (List A)) → goes_on (u ++ mid) ≡ true → 1 ≤ length u → mid ≡ pre ++ rest
        → ((s : List Lexeme) → look s ≡ look mid → member m (u ++ s) ≡ ok a s) → Again pre (look rest) x m
        → Again (u ++ pre) (look rest) (λ r. and_then (x r) (λ others. ok (a ∷ others))) m
    again_on m a u pre mid rest x on some split one again zero r le lk = absurd (omega (arith, length-append (u ++ pre) r, length-append u pre))
    again_on m a u pre mid rest x on some split one again (suc k) r le lk =
        let seen : look (pre ++ r) ≡ look mid = look_append pre r rest lk ∙ ap look (sym split) in
        let here : goes_on ((u ++ pre) ++ r) ≡ true = looks ((u ++ pre) ++ r) (u ++ mid) (ap look (append_assoc u pre r) ∙ look_append u (pre ++ r) mid seen) ∙ on in
        let taken : member m ((u ++ pre) ++ r) ≡ ok a (pre ++ r) = ap (member m) (append_assoc u pre r) ∙ one (pre ++ r) seen in
        turns goes_on (member m) k ((u ++ pre) ++ r) here
        ∙ ap (λ y. and_then y (λ a rest. and_then (repeated goes_on (member m) k rest) (λ others. ok (a ∷ others)))) taken
        ∙ ap (λ y. and_then y (λ others. ok (a ∷ others))) (again k r (omega (arith, length-append (u ++ pre) r, length-append u pre, length-append pre r)) lk)

    -- a member that is refused
    again_here : (m : ℕ) (ts pre rest : List Lexeme) (x : List Lexeme → Read A) (z : List Lexeme → Read (List A)) → goes_on ts ≡ true → ts ≡ pre ++ rest
        → ((r : List Lexeme) → look r ≡ look rest → member m (pre ++ r) ≡ x r) → ((r : List Lexeme) (f : A → Reader (List A)) → and_then (x r) f ≡ z r) → Again pre (look rest) z m
    again_here m ts pre rest x z on split one passes k r le lk = of k le
      where
        here : goes_on (pre ++ r) ≡ true
        here = looks (pre ++ r) ts (look_append pre r rest lk ∙ ap look (sym split)) ∙ on

        of : (k : ℕ) → length (pre ++ r) ≤ k → repeated goes_on (member m) k (pre ++ r) ≡ z r
        of zero le = absurd (omega (arith, some_of (pre ++ r) here))
        of (suc k) le =
            turns goes_on (member m) k (pre ++ r) here
            ∙ ap (λ y. and_then y (λ a rest. and_then (repeated goes_on (member m) k rest) (λ others. ok (a ∷ others)))) (one r lk)
            ∙ passes r (λ a rest. and_then (repeated goes_on (member m) k rest) (λ others. ok (a ∷ others)))

    alone : (m : ℕ) (a : A) (w : List Lexeme) → Spelled spell Fits height m a w → Every m (a ∷ []) w
    alone m a w h = record { is = append-nil (spell a) ∙ h.is; fits = (h.fits, tt); low = let l = h.low in omega arith }

    longer : (m : ℕ) (a : A) (all : List A) (u v : List Lexeme) → d ≤ m → Spelled spell Fits height d a u → Every m all v → Every m (a ∷ all) (u ++ v)
    longer m a all u v le h g = record { is = ap (λ l. l ++ flat_map spell all) h.is ∙ ap (λ l. u ++ l) g.is; fits = (h.fits, g.fits); low = let l = h.low in let k = g.low in omega arith }

    step : (ts : List Lexeme) → ((mid : List Lexeme) → length mid < length ts → (k : ℕ) → length mid ≤ k → Answered mid (repeated goes_on (member d) k mid))
        → (k : ℕ) → length ts ≤ k → Answered ts (repeated goes_on (member d) k ts)
    step ts shorter k enough = of (goes_on ts) refl k enough
      where
        regroup : (u mid pre rest : List Lexeme) → ts ≡ u ++ mid → mid ≡ pre ++ rest → ts ≡ (u ++ pre) ++ rest
        regroup u mid pre rest at e = at ∙ ap (λ l. u ++ l) e ∙ sym (append_assoc u pre rest)

        at : (u mid : List Lexeme) → goes_on ts ≡ true → ts ≡ u ++ mid → goes_on (u ++ mid) ≡ true
        at u mid e split = ap goes_on (sym split) ∙ e

        taken : {a : A} (u : List Lexeme) → Spelled spell Fits height d a u → 1 ≤ length u
        taken {a} u h = omega (arith, ap length h.is, long a h.fits)

        begins : {a : A} (u pre : List Lexeme) → Spelled spell Fits height d a u → Begins Every d pre → Begins Every d (u ++ pre)
        begins {a} u pre h b = record {
          value = a ∷ b.value;
          more = b.more;
          is = subst (Every d (a ∷ b.value)) (sym (append_assoc u pre b.more)) (longer d a b.value u (pre ++ b.more) (omega arith) h b.is);
        }

        on : (a : A) (mid : List Lexeme) → goes_on ts ≡ true → (g : Takes (Spelled spell Fits height) F member d ts a mid) (r : Read (List A)) → Answered mid r
            → Answered ts (and_then r (λ others. ok (a ∷ others)))
        on a mid e g (ok all rest) h = record {
          pre = g.pre ++ h.pre;
          split = regroup g.pre mid h.pre rest g.split h.split;
          is = longer d a all g.pre h.pre (omega arith) g.is h.is;
          next = h.next;
          again = λ m le. again_on m a g.pre h.pre mid rest (ok all) (at g.pre mid e g.split) (taken g.pre g.is) h.split (λ s lk. g.again m s le lk) (h.again m le);
        }
        on a mid e g (unexpected rest) h = record {
          pre = g.pre ++ h.pre;
          split = regroup g.pre mid h.pre rest g.split h.split;
          begun = begins g.pre h.pre g.is h.begun;
          again = λ m le. again_on m a g.pre h.pre mid rest unexpected (at g.pre mid e g.split) (taken g.pre g.is) h.split (λ s lk. g.again m s le lk) (h.again m le);
        }
        on a mid e g (too_high rest) h = record {
          pre = g.pre ++ h.pre;
          split = regroup g.pre mid h.pre rest g.split h.split;
          begun = begins g.pre h.pre g.is h.begun;
          past = let p = h.past in record {
            token = p.token;
            next_is = p.next_is;
            most = p.most;
            enough = p.enough;
            value = a ∷ p.value;
            more = p.more;
            is = subst (Every p.most (a ∷ p.value)) (sym (append_assoc g.pre h.pre (p.token ∷ p.more))) (longer p.most a p.value g.pre (h.pre ++ p.token ∷ p.more) p.enough g.is p.is);
          };
          again = again_on d a g.pre h.pre mid rest too_high (at g.pre mid e g.split) (taken g.pre g.is) h.split (λ s lk. g.again d s (omega arith) lk) h.again;
        }

        first : goes_on ts ≡ true → (k : ℕ) (r : Read A) → Outcome (Spelled spell Fits height) F member d ts r
            → ((mid u : List Lexeme) → ts ≡ u ++ mid → 1 ≤ length u → Answered mid (repeated goes_on (member d) k mid))
            → Answered ts (and_then r (λ a rest. and_then (repeated goes_on (member d) k rest) (λ others. ok (a ∷ others))))
        first e k (ok a mid) g others = on a mid e g (repeated goes_on (member d) k mid) (others mid g.pre g.split (omega (arith, ap length g.is.is, long a g.is.fits)))
        first e k (unexpected rest) g others = record {
          pre = g.pre;
          split = g.split;
          begun = let b = g.begun in record { value = b.value ∷ []; more = b.more; is = alone d b.value (g.pre ++ b.more) b.is };
          again = λ m le. again_here m ts g.pre rest unexpected unexpected e g.split (λ r lk. g.again m r le lk) (λ r f. refl);
        }
        first e k (too_high rest) g others = record {
          pre = g.pre;
          split = g.split;
          begun = let b = g.begun in record { value = b.value ∷ []; more = b.more; is = alone d b.value (g.pre ++ b.more) b.is };
          past = let p = g.past in record {
            token = p.token;
            next_is = p.next_is;
            most = p.most;
            enough = p.enough;
            value = p.value ∷ [];
            more = p.more;
            is = alone p.most p.value (g.pre ++ p.token ∷ p.more) p.is;
          };
          again = again_here d ts g.pre rest too_high too_high e g.split (λ r lk. g.again r lk) (λ r f. refl);
        }

        of : (b : Bool) → goes_on ts ≡ b → (k : ℕ) → length ts ≤ k → Answered ts (repeated goes_on (member d) k ts)
        of false e k enough = subst (Answered ts) (sym (stops goes_on (member d) k ts e)) (record {
          pre = [];
          split = refl;
          is = record { is = refl; fits = tt; low = omega arith };
          next = λ r lk. looks r ts lk ∙ e;
          again = λ m le k r len lk. stops goes_on (member m) k r (looks r ts lk ∙ e);
        })
        of true e zero enough = absurd (omega (arith, some_of ts e))
        of true e (suc k) enough = subst (Answered ts) (sym (turns goes_on (member d) k ts e))
            (first e k (member d ts) (good ts e).outcome
            (λ mid u split some. shorter mid (omega (arith, ap length split, length-append u mid)) k (omega (arith, ap length split, length-append u mid))))

    claim : (n : ℕ) (ts : List Lexeme) → length ts ≤ n → (k : ℕ) → length ts ≤ k → Answered ts (repeated goes_on (member d) k ts)
    claim zero ts small k enough = step ts (λ mid less k le. absurd (omega arith)) k enough
    claim (suc n) ts small k enough = step ts (λ mid less k le. claim n mid (omega arith) k le) k enough

  -- it is good where its member is
  pub good_repeated : (looks : Looks goes_on) (ends : goes_on [] ≡ false) (long : (a : A) → Fits a → 1 ≤ length (spell a)) (d : ℕ)
      (good : (ts : List Lexeme) → goes_on ts ≡ true → Good (Spelled spell Fits height) F member d ts) (ts : List Lexeme)
      → Good (AllOf spell Fits height) (Stopped goes_on) (all_of goes_on member) d ts
  good_repeated looks ends long d good ts = record { outcome = of (repeated goes_on (member d) (length ts) ts) (claim looks ends long d good (length ts) ts (omega arith) (length ts) (omega arith)) }
    where
      of : (r : Read (List A)) → Answered looks ends long d good ts r → Outcome Every (Stopped goes_on) (all_of goes_on member) d ts r
      of (ok all rest) g = record { pre = g.pre; split = g.split; is = g.is; next = g.next; again = λ m r le lk. g.again m le (length (g.pre ++ r)) r (omega arith) lk }
      of (unexpected rest) g = record { pre = g.pre; split = g.split; begun = g.begun; again = λ m r le lk. g.again m le (length (g.pre ++ r)) r (omega arith) lk }
      of (too_high rest) g = record { pre = g.pre; split = g.split; begun = g.begun; past = g.past; again = λ r lk. g.again (length (g.pre ++ r)) r (omega arith) lk }

  module _ (looks : Looks goes_on) (ends : goes_on [] ≡ false) (long : (a : A) → Fits a → 1 ≤ length (spell a)) (d : ℕ)
      (good : (ts : List Lexeme) → goes_on ts ≡ true → Good (Spelled spell Fits height) F member d ts) where
    -- more turns change nothing
    pub enough_turns : (k : ℕ) (ts : List Lexeme) → length ts ≤ k → repeated goes_on (member d) k ts ≡ all_of goes_on member d ts
    enough_turns k ts le = of (repeated goes_on (member d) (length ts) ts) (claim looks ends long d good (length ts) ts (omega arith) (length ts) (omega arith))
      where
        of : (r : Read (List A)) → Answered looks ends long d good ts r → repeated goes_on (member d) k ts ≡ r
        of (ok all rest) g = ap (repeated goes_on (member d) k) g.split ∙ g.again d (omega arith) k rest (omega (arith, ap length g.split)) refl
        of (unexpected rest) g = ap (repeated goes_on (member d) k) g.split ∙ g.again d (omega arith) k rest (omega (arith, ap length g.split)) refl
        of (too_high rest) g = ap (repeated goes_on (member d) k) g.split ∙ g.again k rest (omega (arith, ap length g.split)) refl

    -- a turn
    pub all_turns : (ts : List Lexeme) → goes_on ts ≡ true
        → all_of goes_on member d ts ≡ and_then (member d ts) (λ a rest. and_then (all_of goes_on member d rest) (λ others. ok (a ∷ others)))
    all_turns [] e = absurd cc
    all_turns (x ∷ ts) e = turns goes_on (member d) (length ts) (x ∷ ts) e ∙ of (member d (x ∷ ts)) (good (x ∷ ts) e).outcome
      where
        of : (r : Read A) → Outcome (Spelled spell Fits height) F member d (x ∷ ts) r
            → and_then r (λ a rest. and_then (repeated goes_on (member d) (length ts) rest) (λ others. ok (a ∷ others)))
            ≡ and_then r (λ a rest. and_then (all_of goes_on member d rest) (λ others. ok (a ∷ others)))
        of (ok a rest) g = ap (λ y. and_then y (λ others. ok (a ∷ others)))
            (enough_turns (length ts) rest (omega (arith, ap length g.split, length-append g.pre rest, ap length g.is.is, long a g.is.fits)))
        of (unexpected rest) g = refl
        of (too_high rest) g = refl

    -- The loop that gathers the members.
    pub gathers : (taken : List A) (a : A) (ts rest : List Lexeme) → goes_on ts ≡ true → member d ts ≡ ok a rest
        → gathered taken (all_of goes_on member d) ts ≡ gathered (taken ++ a ∷ []) (all_of goes_on member d) rest
    gathers taken a ts rest e one =
        ap (λ y. and_then y (λ others. ok (taken ++ others))) (all_turns ts e ∙ ap (λ y. and_then y (λ a rest. and_then (all_of goes_on member d rest) (λ others. ok (a ∷ others)))) one)
        ∙ of (all_of goes_on member d rest)
      where
        of : (r : Read (List A)) → and_then (and_then r (λ others. ok (a ∷ others))) (λ others. ok (taken ++ others)) ≡ and_then r (λ others. ok ((taken ++ a ∷ []) ++ others))
        of (ok all rest) = ap (λ l. ok l rest) (sym (append_assoc taken (a ∷ []) all))
        of (unexpected rest) = refl
        of (too_high rest) = refl

    pub gathers_none : {B C : Type 0} (taken : List A) (ts : List Lexeme) (see : B → A) (see' : C → List A) (why : Refusal) (left : List Lexeme) → goes_on ts ≡ true
        → Gives see (member d ts) (Err why) left → Gives see' (gathered taken (all_of goes_on member d) ts) (Err why) left
    gathers_none taken ts see see' why left e one =
        subst (λ r. Gives see' r (Err why) left) (sym (ap (λ y. and_then y (λ others. ok (taken ++ others))) (all_turns ts e)))
        (gives_none (and_then (member d ts) (λ a rest. and_then (all_of goes_on member d rest) (λ others. ok (a ∷ others)))) (λ others. ok (taken ++ others)) (λ all. all) see' why left
        (gives_none (member d ts) (λ a rest. and_then (all_of goes_on member d rest) (λ others. ok (a ∷ others))) see (λ all. all) why left one))

  pub gathered_all : (taken : List A) (d : ℕ) (ts : List Lexeme) → goes_on ts ≡ false → gathered taken (all_of goes_on member d) ts ≡ ok taken ts
  gathered_all taken d ts e =
      ap (λ y. and_then y (λ others. ok (taken ++ others))) (stops goes_on (member d) (length ts) ts e) ∙ ap (λ l. ok l ts) (append-nil taken)

-- What is spelled is read, where N is what may come after a member.
module _ {A : Type 0} (spell : A → List Lexeme) (Fits : A → Type 0) (N : List Lexeme → Type 0) (goes_on : List Lexeme → Bool) (member : Reader A)
    (reads : (a : A) (rest : List Lexeme) → Fits a → N rest → member (spell a ++ rest) ≡ ok a rest)
    (leads : (a : A) (rest : List Lexeme) → Fits a → goes_on (spell a ++ rest) ≡ true)
    (follows : (a : A) (rest : List Lexeme) → Fits a → N (spell a ++ rest)) where
  pub repeated_reads : (all : List A) (k : ℕ) (rest : List Lexeme) → AllByRecursion Fits all → length all ≤ k → N rest → goes_on rest ≡ false
      → repeated goes_on member k (flat_map spell all ++ rest) ≡ ok all rest
  repeated_reads [] k rest fits le next e = stops goes_on member k rest e
  repeated_reads (a ∷ all) zero rest fits le next e = absurd (omega arith)
  repeated_reads (a ∷ all) (suc k) rest fits le next e =
      let others = flat_map spell all ++ rest in
      let ahead : N others = ahead_of all fits.1 in
      ap (repeated goes_on member (suc k)) (append_assoc (spell a) (flat_map spell all) rest)
      ∙ turns goes_on member k (spell a ++ others) (leads a others fits.0)
      ∙ ap (λ y. and_then y (λ a rest. and_then (repeated goes_on member k rest) (λ others. ok (a ∷ others)))) (reads a others fits.0 ahead)
      ∙ ap (λ y. and_then y (λ others. ok (a ∷ others))) (repeated_reads all k rest fits.1 (omega arith) next e)
    where
      ahead_of : (all : List A) → AllByRecursion Fits all → N (flat_map spell all ++ rest)
      ahead_of [] f = next
      ahead_of (b ∷ all) f = subst N (sym (append_assoc (spell b) (flat_map spell all) rest)) (follows b (flat_map spell all ++ rest) f.0)

  module _ (long : (a : A) → Fits a → 1 ≤ length (spell a)) where
    no_longer : (all : List A) → AllByRecursion Fits all → length all ≤ length (flat_map spell all)
    no_longer [] f = omega arith
    no_longer (a ∷ all) f = omega (arith, length-append (spell a) (flat_map spell all), long a f.0, no_longer all f.1)

    pub all_reads : (all : List A) (rest : List Lexeme) → AllByRecursion Fits all → N rest → goes_on rest ≡ false
        → repeated goes_on member (length (flat_map spell all ++ rest)) (flat_map spell all ++ rest) ≡ ok all rest
    all_reads all rest fits next e =
        repeated_reads all (length (flat_map spell all ++ rest)) rest fits (omega (arith, no_longer all fits, length-append (flat_map spell all) rest)) next e

-- each is as low as the highest
pub all_low : {A : Type 0} (Fits : A → Type 0) (height : A → ℕ) (d : ℕ) (all : List A) → AllByRecursion Fits all → highest height all ≤ d → AllByRecursion (λ a. Fits a × (height a ≤ d)) all
all_low Fits height d [] fits low = tt
all_low Fits height d (a ∷ all) fits low = ((fits.0, omega arith), all_low Fits height d all fits.1 (omega arith))
