-- Items and whole programs.
use Rattle.std.proofs.Common.{◌≡◌, ◌≤◌, ◌<◌, nat_eq, Err, ℕ, true, false, List, [], ◌∷◌, ◌++◌, length, refl, sym, ap, ◌∙◌, subst, arith}
use Rattle.dsm_syntax.specs.declared.word.Word.{Word}
use Rattle.dsm_syntax.specs.declared.word.Word.TheVariants as words
use Rattle.dsm_syntax.specs.declared.tree.Sharing.TheVariants as sharing
use Rattle.dsm_syntax.specs.Tree as t
use Rattle.dsm_syntax.specs.Tree.{Item}
use Rattle.dsm_syntax.specs.declared.refusal.Refusal.{Refusal}
use Rattle.dsm_syntax.specs.Gives.{Gives}
use Rattle.dsm_syntax.specs.Lexemes.{Lexeme, word, word_at}
use Rattle.dsm_laws_grammar.specs.Grammar.{spell_item, FitsItem}
use Rattle.dsm_syntax.specs.Heights.{height_item}
use Rattle.dsm_syntax.specs.Reading.{Read, ok, unexpected, look, tail, gathered}
use Rattle.dsm_laws_grammar.specs.Items.{item, goes_on, items}
use Rattle.dsm_laws_grammar.proofs.Fronts.{Looks, nil_of, cons_of}
use Rattle.dsm_laws_grammar.proofs.Good.{Free, Begins, Good, good_as, good_after, good_unexpected, shorter}
use Rattle.dsm_laws_grammar.proofs.Singles.{single_name}
use Rattle.dsm_laws_grammar.proofs.Repeats.{Stopped, AllOf, good_repeated, gathers, gathers_none}
use Rattle.dsm_laws_grammar.proofs.Declarations.{ItemOf, good_locks, good_barriers, good_shared_data}
use Rattle.dsm_laws_grammar.proofs.Bindings.{good_bind, good_bind_each, good_bind_barrier}
use Rattle.dsm_laws_grammar.proofs.Functions.{good_int_item, good_void_item}

least : (d : ℕ) → Begins ItemOf d []
least d = record { value = t.barriers (single_name.some ∷ []); more = spell_item (t.barriers (single_name.some ∷ [])); is = record { is = refl; fits = tt; low = omega arith } }

-- no item begins so
refused : (d : ℕ) (ts : List Lexeme) → ((m : ℕ) (s : List Lexeme) → look s ≡ look ts → item m s ≡ unexpected s) → Good ItemOf Free item d ts
refused d ts same = good_as (good_unexpected (least d)) (λ m s le lk. same m s lk)

refused_at : (d : ℕ) (x : Lexeme) (rest : List Lexeme) → ((m : ℕ) (s : List Lexeme) → item m (x ∷ s) ≡ unexpected (x ∷ s)) → Good ItemOf Free item d (x ∷ rest)
refused_at d x rest same = refused d (x ∷ rest) (λ m s lk. let e = cons_of s x lk in ap (item m) e ∙ same m (tail s) ∙ ap unexpected (sym e))

pub good_item : (d : ℕ) → 1 ≤ d → (ts : List Lexeme) → Good ItemOf Free item d ts
good_item d some [] = refused d [] (λ m s lk. let e = nil_of s lk in ap (item m) e ∙ ap unexpected (sym e))
good_item d some (word words.Shared ∷ rest) = good_after (word Word.Shared) (good_shared_data d rest) (λ m s le. refl)
good_item d some (word words.Int ∷ rest) = good_after (word Word.Int) (good_int_item d some rest) (λ m s le. refl)
good_item d some (word words.Void ∷ rest) = good_after (word Word.Void) (good_void_item d some rest) (λ m s le. refl)
good_item d some (word words.LockType ∷ rest) = good_after (word Word.LockType) (good_locks d rest) (λ m s le. refl)
good_item d some (word words.BarrierType ∷ rest) = good_after (word Word.BarrierType) (good_barriers d rest) (λ m s le. refl)
good_item d some (word_at words.Bind line ∷ rest) = good_after (word_at Word.Bind line) (good_bind line d rest) (λ m s le. refl)
good_item d some (word_at words.BindEach line ∷ rest) = good_after (word_at Word.BindEach line) (good_bind_each line d rest) (λ m s le. refl)
good_item d some (word_at words.BindBarrier line ∷ rest) = good_after (word_at Word.BindBarrier line) (good_bind_barrier line d rest) (λ m s le. refl)
good_item d some (x ∷ rest) = refused_at d x rest (λ m s. refl)

pub goes_on_looks : Looks goes_on
goes_on_looks [] [] e = refl
goes_on_looks [] (y ∷ s) e = absurd cc
goes_on_looks (x ∷ r) [] e = absurd cc
goes_on_looks (x ∷ r) (y ∷ s) e = refl

pub item_long : (i : Item) → FitsItem i → 1 ≤ length (spell_item i)
item_long (t.cells sharing.Shared all) f = omega arith
item_long (t.cells sharing.Private all) f = omega arith
item_long _ f = omega arith

not_empty : (ts : List Lexeme) → nat_eq (length ts) 0 ≡ false → goes_on ts ≡ true
not_empty [] e = absurd cc
not_empty (x ∷ ts) e = refl

pub good_items : (d : ℕ) → 1 ≤ d → (ts : List Lexeme) → Good (AllOf spell_item FitsItem height_item) (Stopped goes_on) items d ts
good_items d some ts = good_as (good_repeated spell_item FitsItem height_item Free goes_on item goes_on_looks refl item_long d (λ ts e. good_item d some ts) ts) (λ m s le lk. refl)

-- The code's loop over items.
module _ (d : ℕ) (some : 1 ≤ d) where
  pub items_turn : {read : Read (List Item)} {all : List Item} {i : Item} {rest : List Lexeme} (taken : List Item) (ts : List Lexeme) → read ≡ gathered taken (items d) ts → nat_eq (length ts) 0 ≡ false
      → item d ts ≡ ok i rest → all ≡ taken ++ i ∷ [] → read ≡ gathered all (items d) rest
  items_turn {read} {all} {i} {rest} taken ts so e one pushed =
      so ∙ gathers spell_item FitsItem height_item Free goes_on item goes_on_looks refl item_long d (λ ts e. good_item d some ts) taken i ts rest (not_empty ts e) one
      ∙ ap (λ l. gathered l (items d) rest) (sym pushed)

  pub items_none : {B C : Type 0} {read : Read (List Item)} (taken : List Item) (ts left : List Lexeme) (why : Refusal) (see : B → Item) (see' : C → List Item) → read ≡ gathered taken (items d) ts
      → nat_eq (length ts) 0 ≡ false → Gives see (item d ts) (Err why) left → Gives see' read (Err why) left
  items_none {B} {C} {read} taken ts left why see see' so e one = subst (λ r. Gives see' r (Err why) left) (sym so)
      (gathers_none spell_item FitsItem height_item Free goes_on item goes_on_looks refl item_long d (λ ts e. good_item d some ts) taken ts see see' why left (not_empty ts e) one)

  pub item_shorter : {i : Item} {rest : List Lexeme} (ts : List Lexeme) → item d ts ≡ ok i rest → length rest < length ts
  item_shorter {i} {rest} ts one = shorter (good_item d some ts) (λ i w h. omega (arith, ap length h.is, item_long i h.fits)) i rest one
