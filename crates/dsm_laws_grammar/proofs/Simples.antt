-- Statements with no statement in them.
use Rattle.std.proofs.Common.{◌≡◌, ◌≤◌, ◌<◌, ◌⊎◌, inl, inr, ℕ, suc, ◌+◌, max, Bool, true, false, cond, List, [], ◌∷◌, ◌++◌, Option, Some, refl, sym, ap, ◌∙◌, subst, arith}
use Rattle.std.specs.Prelude.{nat_lt}
use Rattle.std.proofs.lemmas.Bool.{le-ltb, cases_lt}
use Rattle.dsm_syntax.specs.declared.sign.Sign.{Sign}
use Rattle.dsm_syntax.specs.declared.word.Word.{Word}
use Rattle.dsm_syntax.specs.Tree.{Place, Statement}
use Rattle.dsm_syntax.specs.Tree as t
use Rattle.dsm_syntax.specs.declared.kind.StatementKind.{StatementKind}
use Rattle.dsm_syntax.specs.Lexemes.{Lexeme, word, sign, word_at}
use Rattle.dsm_laws_grammar.specs.Grammar.{spell_name, spell_place, spell_statement, FitsPlace, FitsStatement, ends_open}
use Rattle.dsm_syntax.specs.Heights.{height_place, height_statement}
use Rattle.dsm_syntax.specs.Reading.{ok, too_high, Reader, and_then, look, tail, ended_by, list_of}
use Rattle.dsm_syntax.specs.Tokens.{read_name}
use Rattle.dsm_laws_grammar.specs.Expressions.{place}
use Rattle.dsm_laws_grammar.specs.Statements.{deeper, variable, argument, lock, barrier, print, declaration, expression_statement, return_at}
use Rattle.dsm_laws_grammar.proofs.Fronts.{cons_of}
use Rattle.dsm_laws_grammar.proofs.Good.{Language, Follow, Free, Spelled, Begins, BeginsPast, Good, good_ok, good_too_high, good_as, good_weaken, good_map, good_next, good_after, good_end}
use Rattle.dsm_laws_grammar.proofs.Singles.{single_name, good_alone}
use Rattle.dsm_laws_grammar.proofs.Lists.{good_list}
use Rattle.dsm_laws_grammar.proofs.Expressions.{place_good}
use Rattle.dsm_laws_grammar.proofs.Values.{good_value, good_unless}
use Rattle.dsm_laws_grammar.proofs.Firsts.{StatementOf, NoElse, StartsWith, example}
use Rattle.dsm_laws_grammar.proofs.Variables.{variables_good, deeper_goes}
use Rattle.dsm_laws_grammar.proofs.Heads.{argument_good, part_good}

-- Tools.

-- statements by the levels below them
abbrev pub Above : Language Statement
Above m = StatementOf (suc m)

pub closed : (s : Statement) → ends_open s ≡ false → (next : Option Lexeme) → NoElse s next
closed s e next h = absurd cc

-- there is always one
pub least : (d : ℕ) → Begins Above d []
least d = record { value = t.empty; more = sign Sign.Semicolon ∷ []; is = record { is = refl; fits = tt; low = omega arith } }

pub past : (d : ℕ) (x : Lexeme) → StartsWith x → BeginsPast Above d [] (Some x)
past d x s = record {
  token = x;
  next_is = refl;
  most = max d (height_statement s.value);
  enough = omega arith;
  value = s.value;
  more = s.more;
  is = record { is = s.is; fits = s.fits; low = omega arith };
}

-- behind a token that comes
pub good_token : {A : Type 0} {L : Language A} {F : Follow A} {P : ℕ → Reader A} {d : ℕ} {ts : List Lexeme} (x : Lexeme) → look ts ≡ Some x
    → Good (λ m a w. L m a (x ∷ w)) F P d (tail ts) → Good L F (λ m s. P m (tail s)) d ts
good_token {L = L} {F = F} {P = P} {d = d} {ts = ts} x at good =
    subst (Good L F (λ m s. P m (tail s)) d) (sym (cons_of ts x at)) (good_after x good (λ m s le. refl))

-- and has something below it
pub good_deeper : {P : ℕ → Reader Statement} {d : ℕ} {ts : List Lexeme} (x : Lexeme) → look ts ≡ Some x → StartsWith x
    → (1 ≤ d → Good (λ m a w. Above m a (x ∷ w)) NoElse P d (tail ts)) → Good Above NoElse (λ m. deeper m (P m)) d ts
good_deeper {P = P} {d = d} {ts = ts} x at some good = of (cases_lt 0 d)
  where
    of : (0 < d) ⊎ (d ≤ 0) → Good Above NoElse (λ m. deeper m (P m)) d ts
    of (inl pos) = good_as (good_token x at (good pos)) (λ m s le lk. deeper_goes m (P m) s (omega arith))
    of (inr flat) = good_too_high (least d) (subst (BeginsPast Above d []) (sym at) (past d x some)) (λ r lk. ap (λ b. cond b (P d (tail r)) (too_high r)) (le-ltb 0 d flat))

deeper_then : {A B : Type 0} (m : ℕ) (more : Reader A) (f : A → Reader B) (ts : List Lexeme) → and_then (deeper m more ts) f ≡ deeper m (λ r. and_then (more r) f) ts
deeper_then {A} {B} m more f ts = of (nat_lt 0 m)
  where
    of : (b : Bool) → and_then (cond b (more (tail ts)) (too_high ts)) f ≡ cond b (and_then (more (tail ts)) f) (too_high ts)
    of true = refl
    of false = refl

-- Kind by kind.

pub empty_good : (d : ℕ) (ts : List Lexeme) → look ts ≡ Some (sign Sign.Semicolon) → Good Above NoElse (λ m s. ok t.empty (tail s)) d ts
empty_good d ts at = good_token (sign Sign.Semicolon) at (good_ok t.empty (record { is = refl; fits = tt; low = omega arith }) (closed t.empty refl (look (tail ts))))

pub break_good : (line d : ℕ) (ts : List Lexeme) → look ts ≡ Some (word_at Word.Break line) → Good Above NoElse (λ m s. ended_by Sign.Semicolon (t.break line) (tail s)) d ts
break_good line d ts at = good_token (word_at Word.Break line) at (good_end Sign.Semicolon (t.break line) (record { is = refl; fits = tt; low = omega arith }) (closed (t.break line) refl))

pub continue_good : (line d : ℕ) (ts : List Lexeme) → look ts ≡ Some (word_at Word.Continue line) → Good Above NoElse (λ m s. ended_by Sign.Semicolon (t.continue line) (tail s)) d ts
continue_good line d ts at = good_token (word_at Word.Continue line) at (good_end Sign.Semicolon (t.continue line) (record { is = refl; fits = tt; low = omega arith }) (closed (t.continue line) refl))

pub return_good : (line d : ℕ) (ts : List Lexeme) → look ts ≡ Some (word_at Word.Return line) → Good Above NoElse (λ m s. return_at m line (tail s)) d ts
return_good line d ts at = good_token (word_at Word.Return line) at (good_next (good_unless Sign.Semicolon d (tail ts))
    (λ m value le fits low. record { value = t.return line value; more = sign Sign.Semicolon ∷ []; is = record { is = refl; fits = fits; low = omega arith } })
    (λ value rest at fits low next. good_end Sign.Semicolon (t.return line value) (record { is = refl; fits = fits; low = omega arith }) (closed (t.return line value) refl)))

pub expression_statement_good : (d : ℕ) (ts : List Lexeme) → Good Above NoElse expression_statement d ts
expression_statement_good d ts = good_value (least d)
    (λ m e le fits low. record { value = t.expression e; more = sign Sign.Semicolon ∷ []; is = record { is = refl; fits = fits; low = omega arith } })
    (λ e rest fits low. good_end Sign.Semicolon (t.expression e) (record { is = refl; fits = fits; low = omega arith }) (closed (t.expression e) refl)) ts

pub declaration_good : (d : ℕ) (ts : List Lexeme) → look ts ≡ Some (word Word.Int) → Good Above NoElse declaration d ts
declaration_good d ts at = of (cases_lt 0 d)
  where
    of : (0 < d) ⊎ (d ≤ 0) → Good Above NoElse declaration d ts
    of (inl pos) = good_next (variables_good d pos ts)
        (λ m all le fits low. record { value = t.variables all; more = sign Sign.Semicolon ∷ []; is = record { is = refl; fits = fits; low = omega arith } })
        (λ all rest at fits low next. good_end Sign.Semicolon (t.variables all) (record { is = refl; fits = fits; low = omega arith }) (closed (t.variables all) refl))
    of (inr flat) = good_too_high (least d) (subst (BeginsPast Above d []) (sym at) (past d (word Word.Int) (example StatementKind.Variables))) high
      where
        behind : (r : List Lexeme) → declaration d (word Word.Int ∷ r) ≡ too_high (word Word.Int ∷ r)
        behind r = ap (λ b. and_then (cond b (list_of (variable d) r) (too_high (word Word.Int ∷ r))) (λ all. ended_by Sign.Semicolon (t.variables all))) (le-ltb 0 d flat)

        high : (r : List Lexeme) → look r ≡ look ts → declaration d r ≡ too_high r
        high r lk = let e = cons_of r (word Word.Int) (lk ∙ at) in ap (declaration d) e ∙ behind (tail r) ∙ ap too_high (sym e)

-- a word, and the place of a lock
record IsLock (w : Word) (make : Place → Statement) : Type 0 where
  spelled : (p : Place) → spell_statement (make p) ≡ word w ∷ sign Sign.ParenOpen ∷ (spell_place p ++ sign Sign.ParenClose ∷ sign Sign.Semicolon ∷ [])
  fits : (p : Place) → FitsPlace p → FitsStatement (make p)
  high : (p : Place) → height_statement (make p) ≡ height_place p + 1
  shut : (p : Place) → ends_open (make p) ≡ false

lock_good : (w : Word) (make : Place → Statement) → IsLock w make → StartsWith (word w) → (d : ℕ) (ts : List Lexeme) → look ts ≡ Some (word w)
    → Good Above NoElse (λ m s. and_then (lock m s) (λ p. ok (make p))) d ts
lock_good w make is some d ts at = good_as
    (good_deeper {P = λ m r. and_then (argument (place m) r) (λ p. ok (make p))} (word w) at some (λ pos. good_map make (good_weaken
    (λ m p v le h. record { is = is.spelled p ∙ ap (λ l. word w ∷ l) h.is; fits = is.fits p h.fits; low = let l = h.low in omega (arith, is.high p) })
    (λ p next f. closed (make p) (is.shut p) next) (argument_good (place_good d pos) (tail ts)))))
    (λ m s le lk. deeper_then m (argument (place m)) (λ p. ok (make p)) s)

pub acquire_good : (d : ℕ) (ts : List Lexeme) → look ts ≡ Some (word Word.Acquire) → Good Above NoElse (λ m s. and_then (lock m s) (λ p. ok (t.acquire p))) d ts
acquire_good = lock_good Word.Acquire t.acquire (record { spelled = λ p. refl; fits = λ p f. f; high = λ p. refl; shut = λ p. refl }) (example StatementKind.Acquire)

pub acquire_shared_good : (d : ℕ) (ts : List Lexeme) → look ts ≡ Some (word Word.AcquireShared) → Good Above NoElse (λ m s. and_then (lock m s) (λ p. ok (t.acquire_shared p))) d ts
acquire_shared_good = lock_good Word.AcquireShared t.acquire_shared (record { spelled = λ p. refl; fits = λ p f. f; high = λ p. refl; shut = λ p. refl }) (example StatementKind.AcquireShared)

pub release_good : (d : ℕ) (ts : List Lexeme) → look ts ≡ Some (word Word.Release) → Good Above NoElse (λ m s. and_then (lock m s) (λ p. ok (t.release p))) d ts
release_good = lock_good Word.Release t.release (record { spelled = λ p. refl; fits = λ p f. f; high = λ p. refl; shut = λ p. refl }) (example StatementKind.Release)

pub barrier_good : (d : ℕ) (ts : List Lexeme) → look ts ≡ Some (word Word.Barrier) → Good Above NoElse (λ m s. and_then (barrier m s) (λ n. ok (t.barrier n))) d ts
barrier_good d ts at = good_as
    (good_deeper {P = λ m r. and_then (argument read_name r) (λ n. ok (t.barrier n))} (word Word.Barrier) at (example StatementKind.Barrier) (λ pos. good_map t.barrier (good_weaken
    (λ m n v le h. record { is = ap (λ l. word Word.Barrier ∷ l) h.is; fits = tt; low = omega arith })
    (λ n next f. closed (t.barrier n) refl next) (argument_good name_good (tail ts)))))
    (λ m s le lk. deeper_then m (argument read_name) (λ n. ok (t.barrier n)) s)
  where
    name_good : (ts : List Lexeme) → Good (Spelled spell_name (λ n. Unit {0}) (λ n. 0)) Free (λ m. read_name) d ts
    name_good ts = good_alone single_name (λ n. record { is = refl; fits = tt; low = omega arith }) ts

pub print_good : (d : ℕ) (ts : List Lexeme) → look ts ≡ Some (word Word.Print) → Good Above NoElse (λ m s. print m (tail s)) d ts
print_good d ts at = good_token (word Word.Print) at (good_map t.print (good_weaken
    (λ m all v le h. record { is = ap (λ l. word Word.Print ∷ l) h.is; fits = h.fits; low = let l = h.low in omega arith })
    (λ all next f. closed (t.print all) refl next) (argument_good (good_list (part_good d)) (tail ts))))
