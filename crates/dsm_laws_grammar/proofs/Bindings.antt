-- Bindings.
use Rattle.std.proofs.Common.{ℕ, pos, List, ◌∷◌, refl, arith}
use Rattle.dsm_syntax.specs.declared.sign.Sign.{Sign}
use Rattle.dsm_syntax.specs.declared.word.Word.{Word}
use Rattle.dsm_syntax.specs.Tree as t
use Rattle.dsm_syntax.specs.Tree.{Item}
use Rattle.dsm_syntax.specs.Lexemes.{Lexeme, named, numeral, sign, word_at}
use Rattle.dsm_laws_grammar.specs.Grammar as g
use Rattle.dsm_laws_grammar.specs.Grammar.{spell_size, spell_item, FitsItem}
use Rattle.dsm_laws_grammar.specs.Items.{end_of_binding, bind, bind_each, bind_barrier}
use Rattle.dsm_laws_grammar.proofs.Good.{Language, Free, Good, good_next, good_sign, good_end}
use Rattle.dsm_laws_grammar.proofs.Singles.{single_name, single_number, good_single, good_signed}
use Rattle.dsm_laws_grammar.proofs.Declarations.{ItemOf, good_size}

good_ending : {L : Language Item} {d : ℕ} (item : Item) → L d item g.end_of_binding → (ts : List Lexeme) → Good L Free (λ m. end_of_binding item) d ts
good_ending item is ts = good_sign Sign.ParenClose (λ rest. good_end Sign.Semicolon item is (λ next. tt))

pub good_bind : (line d : ℕ) (ts : List Lexeme) → Good (λ m a v. ItemOf m a (word_at Word.Bind line ∷ v)) Free (λ m. bind line) d ts
good_bind line d ts = good_sign Sign.ParenOpen (good_single single_name
    (λ lock rest. good_next (good_size d rest)
    (λ m index le fits low. record {
      value = t.bind (record { line = line; lock = lock; index = index; «data» = single_name.some; first = pos 0; count = pos 0 });
      more = sign Sign.Comma ∷ named single_name.some ∷ sign Sign.Comma ∷ numeral (pos 0) ∷ sign Sign.Comma ∷ numeral (pos 0) ∷ g.end_of_binding;
      is = record { is = refl; fits = tt; low = omega arith };
    })
    (λ index rest at fits low next. good_signed Sign.Comma single_name
    (λ cells. good_signed Sign.Comma single_number
    (λ first. good_signed Sign.Comma single_number
    (λ count. good_ending (t.bind (record { line = line; lock = lock; index = index; «data» = cells; first = first; count = count }))
    (record { is = refl; fits = tt; low = omega arith })))) rest)))

pub good_bind_each : (line d : ℕ) (ts : List Lexeme) → Good (λ m a v. ItemOf m a (word_at Word.BindEach line ∷ v)) Free (λ m. bind_each line) d ts
good_bind_each line d ts = good_sign Sign.ParenOpen (good_single single_name
    (λ locks. good_signed Sign.Comma single_name
    (λ cells. good_signed Sign.Comma single_number
    (λ count. good_ending (t.bind_each (record { line = line; locks = locks; «data» = cells; count = count }))
    (record { is = refl; fits = tt; low = omega arith })))))

pub good_bind_barrier : (line d : ℕ) (ts : List Lexeme) → Good (λ m a v. ItemOf m a (word_at Word.BindBarrier line ∷ v)) Free (λ m. bind_barrier line) d ts
good_bind_barrier line d ts = good_sign Sign.ParenOpen (good_single single_name
    (λ barrier. good_signed Sign.Comma single_name
    (λ cells. good_signed Sign.Comma single_number
    (λ first. good_signed Sign.Comma single_number
    (λ count. good_signed Sign.Comma single_number
    (λ owner. good_signed Sign.Comma single_number
    (λ phase. good_signed Sign.Comma single_number
    (λ period. good_ending (t.bind_barrier (record {
      line = line;
      barrier = barrier;
      «data» = cells;
      first = first;
      count = count;
      owner = owner;
      phase = phase;
      period = period;
    }))
    (record { is = refl; fits = tt; low = omega arith })))))))))
