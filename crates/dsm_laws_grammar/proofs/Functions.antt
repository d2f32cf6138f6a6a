-- Functions.
use Rattle.std.proofs.Common.{◌≤◌, ℕ, List, [], ◌∷◌, ◌++◌, refl, ap, arith}
use Rattle.dsm_syntax.specs.declared.sign.Sign.{Sign}
use Rattle.dsm_syntax.specs.declared.word.Word.{Word}
use Rattle.dsm_syntax.specs.declared.tree.Name.{Name}
use Rattle.dsm_syntax.specs.declared.tree.Returns.{Returns}
use Rattle.dsm_syntax.specs.Tree as t
use Rattle.dsm_syntax.specs.Tree.{Item, Params, Statements}
use Rattle.dsm_syntax.specs.Lexemes.{Lexeme, named, word, sign}
use Rattle.dsm_laws_grammar.specs.Grammar.{spell_param, spell_params, spell_returns, FitsParams}
use Rattle.dsm_syntax.specs.Reading.{is_sign, is_word}
use Rattle.dsm_laws_grammar.specs.Statements.{body}
use Rattle.dsm_laws_grammar.specs.Items.{param, params, function_of, int_item, void_item}
use Rattle.dsm_laws_grammar.proofs.Fronts.{is_sign_look, is_word_look}
use Rattle.dsm_laws_grammar.proofs.Good.{Language, Free, Spelled, Good, good_ok, good_weaken, good_map, good_next, good_if, good_sign, good_word, good_behind_word}
use Rattle.dsm_laws_grammar.proofs.Singles.{single_name, good_single, good_alone}
use Rattle.dsm_laws_grammar.proofs.Lists.{good_list}
use Rattle.dsm_laws_grammar.proofs.Bodies.{good_body}
use Rattle.dsm_laws_grammar.proofs.Declarations.{Flat, ItemOf, has_some, good_private_data}

pub good_param : (d : ℕ) (ts : List Lexeme) → Good (Flat spell_param) Free (λ m. param) d ts
good_param d ts = good_word Word.Int (good_alone single_name (λ name. record { is = refl; fits = tt; low = omega arith }))

abbrev ParamsOf : Language Params
ParamsOf = Spelled spell_params FitsParams (λ p. 0)

pub good_params : (d : ℕ) (ts : List Lexeme) → Good ParamsOf Free (λ m. params) d ts
good_params d ts = good_if (is_word Word.Void) (is_word_look Word.Void)
    (λ e. good_behind_word Word.Void e (good_ok t.void_params (record { is = refl; fits = tt; low = omega arith }) tt))
    (λ e. good_if (is_word Word.Int) (is_word_look Word.Int)
    (λ e. good_map t.named_params (good_weaken
    (λ m names w le h. record { is = h.is; fits = has_some (λ a. Unit {0}) names h.fits; low = omega arith }) (λ a next f. tt) (good_list (good_param d) ts)))
    (λ e. good_ok t.no_params (record { is = refl; fits = tt; low = omega arith }) tt))

module _ (returns : Returns) (name : Name) where
  abbrev whole_of : Params → Statements → Item
  whole_of params body = t.function (record { returns = returns; name = name; params = params; body = body })

  pub good_function_of : (d : ℕ) → 1 ≤ d → (ts : List Lexeme) → Good (λ m a v. ItemOf m a (spell_returns returns ∷ named name ∷ v)) Free (λ m. function_of m returns name) d ts
  good_function_of d pos ts = good_sign Sign.ParenOpen (λ ts. good_next (good_params d ts)
      (λ m params le fits low. record {
        value = whole_of params t.none;
        more = sign Sign.ParenClose ∷ sign Sign.BraceOpen ∷ sign Sign.BraceClose ∷ [];
        is = record { is = refl; fits = (fits, tt); low = omega arith };
      })
      (λ params rest at fits low next. good_sign Sign.ParenClose (λ rest. good_map (whole_of params) (good_weaken
      (λ m body w le h. record {
        is = ap (λ l. spell_returns returns ∷ named name ∷ sign Sign.ParenOpen ∷ (spell_params params ++ sign Sign.ParenClose ∷ l)) h.is;
        fits = (fits, h.fits);
        low = h.low;
      })
      (λ a next f. f) (good_body d pos rest)))))

pub good_int_item : (d : ℕ) → 1 ≤ d → (ts : List Lexeme) → Good (λ m a v. ItemOf m a (word Word.Int ∷ v)) Free int_item d ts
good_int_item d pos ts = good_single single_name (λ name rest. good_if (is_sign Sign.ParenOpen) (is_sign_look Sign.ParenOpen)
    (λ e. good_function_of Returns.Int name d pos rest) (λ e. good_private_data name d rest)) ts

pub good_void_item : (d : ℕ) → 1 ≤ d → (ts : List Lexeme) → Good (λ m a v. ItemOf m a (word Word.Void ∷ v)) Free void_item d ts
good_void_item d pos ts = good_single single_name (λ name rest. good_function_of Returns.Void name d pos rest) ts
