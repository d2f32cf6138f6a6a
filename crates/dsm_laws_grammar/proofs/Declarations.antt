-- Data, locks and barriers.
use Rattle.std.proofs.Common.{◌≡◌, ℕ, List, [], ◌∷◌, ◌++◌, Some, None, refl, ap, ◌∙◌, arith, append_assoc}
use Rattle.dsm_syntax.specs.declared.sign.Sign.{Sign}
use Rattle.dsm_syntax.specs.declared.word.Word.{Word}
use Rattle.dsm_syntax.specs.declared.tree.Name.{Name}
use Rattle.dsm_syntax.specs.declared.tree.Declarator.{Declarator}
use Rattle.dsm_syntax.specs.declared.tree.Sharing.{Sharing}
use Rattle.dsm_syntax.specs.Tree as t
use Rattle.dsm_syntax.specs.Tree.{Item}
use Rattle.dsm_syntax.specs.Lexemes.{Lexeme, named, word, sign}
use Rattle.dsm_laws_grammar.specs.Grammar.{spell_size, spell_declarator, spell_name, spell_list, spell_more, spell_item, Listed, HasSome, FitsItem}
use Rattle.dsm_syntax.specs.Heights.{height_item}
use Rattle.dsm_syntax.specs.Reading.{tail, is_sign}
use Rattle.dsm_syntax.specs.Tokens.{read_name}
use Rattle.dsm_laws_grammar.specs.Items.{size, declarator_of, declarator, locks, barriers, shared_data, private_data}
use Rattle.dsm_laws_grammar.proofs.Fronts.{is_sign_look}
use Rattle.dsm_laws_grammar.proofs.Good.{Language, Free, Spelled, Good, good_ok, good_weaken, good_map, good_then, good_next, good_if, good_word, good_behind_sign, good_end}
use Rattle.dsm_laws_grammar.proofs.Singles.{single_name, single_number, good_single, good_alone}
use Rattle.dsm_laws_grammar.proofs.Lists.{good_list, good_more}

-- what is no node and always fits
abbrev pub Flat : {A : Type 0} → (A → List Lexeme) → Language A
Flat spell = Spelled spell (λ a. Unit {0}) (λ a. 0)

abbrev pub ItemOf : Language Item
ItemOf = Spelled spell_item FitsItem height_item

pub good_size : (d : ℕ) (ts : List Lexeme) → Good (Flat spell_size) Free (λ m. size) d ts
good_size d ts = good_if (is_sign Sign.BracketOpen) (is_sign_look Sign.BracketOpen)
    (λ e. good_behind_sign Sign.BracketOpen e (good_single single_number
    (λ n rest. good_end Sign.BracketClose (Some n) (record { is = refl; fits = tt; low = omega arith }) (λ next. tt)) (tail ts)))
    (λ e. good_ok None (record { is = refl; fits = tt; low = omega arith }) tt)

pub good_declarator_of : (name : Name) (d : ℕ) (ts : List Lexeme) → Good (λ m a v. Flat spell_declarator m a (named name ∷ v)) Free (λ m. declarator_of name) d ts
good_declarator_of name d ts = good_map (λ size. record { name = name; size = size })
    (good_weaken (λ m a w le h. record { is = ap (λ l. named name ∷ l) h.is; fits = tt; low = omega arith }) (λ a next f. f) (good_size d ts))

pub good_declarator : (d : ℕ) (ts : List Lexeme) → Good (Flat spell_declarator) Free (λ m. declarator) d ts
good_declarator d ts = good_single single_name (λ name rest. good_declarator_of name d rest) ts

pub good_name : (d : ℕ) (ts : List Lexeme) → Good (Flat spell_name) Free (λ m. read_name) d ts
good_name d ts = good_alone single_name (λ name. record { is = refl; fits = tt; low = omega arith }) ts

pub has_some : {A : Type 0} (P : A → Type 0) (all : List A) → Listed P all → HasSome all
has_some P [] h = h
has_some P (a ∷ all) h = tt

pub good_locks : (d : ℕ) (ts : List Lexeme) → Good (λ m a v. ItemOf m a (word Word.LockType ∷ v)) Free (λ m. locks) d ts
good_locks d ts = good_next (good_list (good_declarator d) ts)
    (λ m all le fits low. record { value = t.locks all; more = sign Sign.Semicolon ∷ []; is = whole m all fits })
    (λ all rest at fits low next. good_end Sign.Semicolon (t.locks all) (whole d all fits) (λ next. tt))
  where
    whole : (m : ℕ) (all : List Declarator) → Listed (λ a. Unit {0}) all → ItemOf m (t.locks all) (word Word.LockType ∷ (spell_list spell_declarator all ++ sign Sign.Semicolon ∷ []))
    whole m all fits = record { is = refl; fits = has_some (λ a. Unit {0}) all fits; low = omega arith }

pub good_barriers : (d : ℕ) (ts : List Lexeme) → Good (λ m a v. ItemOf m a (word Word.BarrierType ∷ v)) Free (λ m. barriers) d ts
good_barriers d ts = good_next (good_list (good_name d) ts)
    (λ m all le fits low. record { value = t.barriers all; more = sign Sign.Semicolon ∷ []; is = whole m all fits })
    (λ all rest at fits low next. good_end Sign.Semicolon (t.barriers all) (whole d all fits) (λ next. tt))
  where
    whole : (m : ℕ) (all : List Name) → Listed (λ a. Unit {0}) all → ItemOf m (t.barriers all) (word Word.BarrierType ∷ (spell_list spell_name all ++ sign Sign.Semicolon ∷ []))
    whole m all fits = record { is = refl; fits = has_some (λ a. Unit {0}) all fits; low = omega arith }

pub good_shared_data : (d : ℕ) (ts : List Lexeme) → Good (λ m a v. ItemOf m a (word Word.Shared ∷ v)) Free (λ m. shared_data) d ts
good_shared_data d ts = good_word Word.Int (λ ts. good_next (good_list (good_declarator d) ts)
    (λ m all le fits low. record { value = t.cells Sharing.Shared all; more = sign Sign.Semicolon ∷ []; is = whole m all fits })
    (λ all rest at fits low next. good_end Sign.Semicolon (t.cells Sharing.Shared all) (whole d all fits) (λ next. tt)))
  where
    whole : (m : ℕ) (all : List Declarator) → Listed (λ a. Unit {0}) all
        → ItemOf m (t.cells Sharing.Shared all) (word Word.Shared ∷ word Word.Int ∷ (spell_list spell_declarator all ++ sign Sign.Semicolon ∷ []))
    whole m all fits = record { is = refl; fits = has_some (λ a. Unit {0}) all fits; low = omega arith }

pub good_private_data : (name : Name) (d : ℕ) (ts : List Lexeme) → Good (λ m a v. ItemOf m a (word Word.Int ∷ named name ∷ v)) Free (λ m. private_data name) d ts
good_private_data name d ts = good_then (good_declarator_of name d ts)
    (λ m first u le h. record { value = t.cells Sharing.Private (first ∷ []); more = sign Sign.Semicolon ∷ []; is = whole m first [] u h.is })
    (λ first u rest at h next. good_next (good_more (good_declarator d) rest)
    (λ m others le fits low. record { value = t.cells Sharing.Private (first ∷ others); more = sign Sign.Semicolon ∷ []; is = whole m first others u h.is })
    (λ others rest at fits low next. good_end Sign.Semicolon (t.cells Sharing.Private (first ∷ others)) (whole d first others u h.is) (λ next. tt)))
  where
    whole : (m : ℕ) (first : Declarator) (others : List Declarator) (u : List Lexeme) → spell_declarator first ≡ named name ∷ u
        → ItemOf m (t.cells Sharing.Private (first ∷ others)) (word Word.Int ∷ named name ∷ (u ++ (spell_more spell_declarator others ++ sign Sign.Semicolon ∷ [])))
    whole m first others u e = record {
      is = ap (λ l. word Word.Int ∷ l) (append_assoc (spell_declarator first) (spell_more spell_declarator others) (sign Sign.Semicolon ∷ [])
          ∙ ap (λ l. l ++ (spell_more spell_declarator others ++ sign Sign.Semicolon ∷ [])) e);
      fits = tt;
      low = omega arith;
    }
