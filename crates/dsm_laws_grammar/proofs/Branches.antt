-- An `if`, with and without an `else`, and loops.
use Rattle.std.proofs.Common.{◌≡◌, ◌≤◌, ℕ, Bool, true, false, List, [], ◌∷◌, ◌++◌, Some, refl, sym, ap, ◌∙◌, arith}
use Rattle.std.proofs.lemmas.List.{append-nil}
use Rattle.dsm_syntax.specs.declared.sign.Sign.{Sign}
use Rattle.dsm_syntax.specs.declared.word.Word.{Word}
use Rattle.dsm_syntax.specs.Tree.{Expression, Statement}
use Rattle.dsm_syntax.specs.Tree as t
use Rattle.dsm_syntax.specs.declared.kind.StatementKind.{StatementKind}
use Rattle.dsm_syntax.specs.Lexemes.{Lexeme, word, sign}
use Rattle.dsm_laws_grammar.specs.Grammar.{spell_test, spell_statement, Fits, FitsStatement, ends_open}
use Rattle.dsm_syntax.specs.Heights.{height, height_statement}
use Rattle.dsm_syntax.specs.Reading.{look, tail, is_word}
use Rattle.dsm_laws_grammar.specs.Statements.{deeper, Head, if_of, else_of, while_of, for_of, statement}
use Rattle.dsm_laws_grammar.proofs.Fronts.{is_word_look}
use Rattle.dsm_laws_grammar.proofs.Good.{Good, good_ok, good_weaken, good_map, good_next, good_if, good_behind_word}
use Rattle.dsm_laws_grammar.proofs.Firsts.{StatementOf, NoElse, example}
use Rattle.dsm_laws_grammar.proofs.Heads.{test_good, spell_head, spell_head_on, head_good}
use Rattle.dsm_laws_grammar.proofs.Simples.{Above, good_deeper}

-- the statements a level lower are read as the grammar has them
abbrev pub GoodAt : ℕ → Type 0
GoodAt d = (ts : List Lexeme) → Good StatementOf NoElse statement d ts

module _ (d : ℕ) (good : 1 ≤ d → GoodAt d) where
  else_good : 1 ≤ d → (e : Expression) (body : Statement) → Fits e → height e ≤ d → FitsStatement body → height_statement body ≤ d → (ts : List Lexeme) → NoElse body (look ts)
      → Good (λ m s v. Above m s (word Word.If ∷ (spell_test e ++ (spell_statement body ++ v)))) NoElse (λ m. else_of m (statement m) e body) d ts
  else_good pos e body fits low fits_body low_body ts quiet = good_if (is_word Word.Else) (is_word_look Word.Else)
      (λ comes. good_behind_word Word.Else comes (good_map (t.either e body) (good_weaken
      (λ m other w le h. record {
        is = ap (λ l. word Word.If ∷ (spell_test e ++ (spell_statement body ++ word Word.Else ∷ l))) h.is;
        fits = (fits, fits_body, shut comes (ends_open body) refl, h.fits);
        low = let l = h.low in omega arith;
      })
      (λ other next f. f) (good pos (tail ts)))))
      (λ none. good_ok (t.when e body)
      (record { is = ap (λ l. word Word.If ∷ (spell_test e ++ l)) (sym (append-nil (spell_statement body))); fits = (fits, fits_body); low = omega arith })
      (λ h r lk. is_word_look Word.Else r ts lk ∙ none))
    where
      shut : is_word Word.Else ts ≡ true → (b : Bool) → ends_open body ≡ b → ends_open body ≡ false
      shut comes true h = absurd (let never = quiet h ts refl in cc)
      shut comes false h = h

  pub if_good : (ts : List Lexeme) → look ts ≡ Some (word Word.If) → Good Above NoElse (λ m. deeper m (if_of m (statement m))) d ts
  if_good ts at = good_deeper (word Word.If) at (example StatementKind.If) (λ pos. good_next (test_good d pos (tail ts))
      (λ m e le fits low. record { value = t.when e t.empty; more = sign Sign.Semicolon ∷ []; is = record { is = refl; fits = (fits, tt); low = omega arith } })
      (λ e rest at fits low next. good_next (good pos rest)
      (λ m body le fits_body low_body. record {
        value = t.when e body;
        more = [];
        is = record { is = ap (λ l. word Word.If ∷ (spell_test e ++ l)) (sym (append-nil (spell_statement body))); fits = (fits, fits_body); low = omega arith };
      })
      (λ body rest at fits_body low_body quiet. else_good pos e body fits low fits_body low_body rest quiet)))

  pub while_good : (ts : List Lexeme) → look ts ≡ Some (word Word.While) → Good Above NoElse (λ m. deeper m (while_of m (statement m))) d ts
  while_good ts at = good_deeper (word Word.While) at (example StatementKind.While) (λ pos. good_next (test_good d pos (tail ts))
      (λ m e le fits low. record { value = t.while e t.empty; more = sign Sign.Semicolon ∷ []; is = record { is = refl; fits = (fits, tt); low = omega arith } })
      (λ e rest at fits low next. good_map (t.while e) (good_weaken
      (λ m body w le h. record { is = ap (λ l. word Word.While ∷ (spell_test e ++ l)) h.is; fits = (fits, h.fits); low = let l = h.low in omega arith })
      (λ body next f. f) (good pos rest))))

  pub for_good : (ts : List Lexeme) → look ts ≡ Some (word Word.For) → Good Above NoElse (λ m. deeper m (for_of m (statement m))) d ts
  for_good ts at = good_deeper (word Word.For) at (example StatementKind.For) (λ pos. good_next (head_good d pos (tail ts))
      (λ m h le fits low. record {
        value = whole h t.empty;
        more = sign Sign.Semicolon ∷ [];
        is = record { is = ap (λ l. word Word.For ∷ l) (sym (spell_head_on h (sign Sign.Semicolon ∷ []))); fits = (fits.0, fits.1, fits.2, tt); low = omega arith };
      })
      (λ h rest at fits low next. good_map (whole h) (good_weaken
      (λ m body w le g. record {
        is = ap (λ l. word Word.For ∷ l) (sym (spell_head_on h (spell_statement body)) ∙ ap (λ l. spell_head h ++ l) g.is);
        fits = (fits.0, fits.1, fits.2, g.fits);
        low = let l = g.low in omega arith;
      })
      (λ body next f. f) (good pos rest))))
    where
      whole : Head → Statement → Statement
      whole h body = t.for h.start h.test h.step body
