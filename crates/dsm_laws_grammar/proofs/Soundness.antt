-- A tree is sound where its tokens are.
use Rattle.std.proofs.Common.{◌≡◌, Bool, true, false, ◌&&◌, if◌then◌else◌, ℕ, ℤ, List, [], ◌∷◌, ◌++◌, Option, Some, None, refl, ◌∙◌}
use Rattle.dsm_syntax.specs.declared.sign.Sign.{Sign}
use Rattle.dsm_syntax.specs.declared.token.Token.{Token}
use Rattle.dsm_syntax.specs.declared.token.TokenKind.{TokenKind}
use Rattle.dsm_syntax.specs.declared.token.TokenKind.TheVariants as kinds
use Rattle.dsm_syntax.specs.declared.tree.Declarator.{Declarator}
use Rattle.dsm_syntax.specs.declared.tree.Sharing.TheVariants as sharing
use Rattle.dsm_syntax.specs.Sound.{all_are, is_sound_number, is_sound_string, is_sound_kind, are_sound, is_sound_option, is_sound_place, is_sound, are_sound_arguments, is_sound_variable, is_sound_part, is_sound_start, is_sound_statement, are_sound_statements, is_sound_declarator, is_sound_item, is_sound_program}
use Rattle.dsm_syntax.specs.Tree as t
use Rattle.dsm_syntax.specs.Lexemes.{Lexeme, numeral, quoted, word, sign, word_at, sign_at, is_placed_word, is_placed_sign, lexeme_at, lexeme_of, lexemes}
use Rattle.dsm_laws_grammar.specs.Grammar.{spell_returns, spell_initial, spell_params, spell_list, spell_more, spell_option, spell_place, spell, spell_arguments, spell_more_arguments, spell_variable, spell_part, spell_start, spell_statement, spell_statements, spell_size, spell_declarator, spell_item, spell_program}

-- no number below 0, and no string that may not be
abbrev pub is_sound_lexeme : Lexeme → Bool
is_sound_lexeme (numeral value) = is_sound_number value
is_sound_lexeme (quoted held) = is_sound_string held
is_sound_lexeme _ = true

abbrev pub Sound : List Lexeme → Type 0
Sound w = all_are is_sound_lexeme w ≡ true

both : (a b : Bool) → a ≡ true → b ≡ true → (a && b) ≡ true
both a b p q = rw (p, q) refl

left : (a b : Bool) → (a && b) ≡ true → a ≡ true
left true b p = refl
left false b p = p

right : (a b : Bool) → (a && b) ≡ true → b ≡ true
right true b p = p
right false b p = absurd cc

front : (u v : List Lexeme) → Sound (u ++ v) → Sound u
front [] v h = refl
front (x ∷ u) v h = both (is_sound_lexeme x) (all_are is_sound_lexeme u) (left (is_sound_lexeme x) (all_are is_sound_lexeme (u ++ v)) h)
    (front u v (right (is_sound_lexeme x) (all_are is_sound_lexeme (u ++ v)) h))

behind : (u v : List Lexeme) → Sound (u ++ v) → Sound v
behind [] v h = h
behind (x ∷ u) v h = behind u v (right (is_sound_lexeme x) (all_are is_sound_lexeme (u ++ v)) h)

pub of_tokens : (tokens : List Token) → are_sound tokens ≡ true → Sound (lexemes tokens)
of_tokens [] h = refl
of_tokens (token ∷ tokens) h =
    both (is_sound_lexeme (lexeme_of token)) (all_are is_sound_lexeme (lexemes tokens))
    (same token.kind token.line ∙ left (is_sound_kind token.kind) (are_sound tokens) h) (of_tokens tokens (right (is_sound_kind token.kind) (are_sound tokens) h))
  where
    same : (k : TokenKind) (line : ℕ) → is_sound_lexeme (lexeme_at k line) ≡ is_sound_kind k
    same (kinds.Name text) line = refl
    same (kinds.Number value) line = refl
    same (kinds.Str held) line = refl
    same (kinds.Word w) line = of (is_placed_word w)
      where
        of : (b : Bool) → is_sound_lexeme (if b then word_at w line else word w) ≡ true
        of true = refl
        of false = refl
    same (kinds.Sign s) line = of (is_placed_sign s)
      where
        of : (b : Bool) → is_sound_lexeme (if b then sign_at s line else sign s) ≡ true
        of true = refl
        of false = refl

-- a list's members
module _ {A : Type 0} (spell_one : A → List Lexeme) (test : A → Bool) (one : (a : A) → Sound (spell_one a) → test a ≡ true) where
  sound_more : (all : List A) → Sound (spell_more spell_one all) → all_are test all ≡ true
  sound_more [] h = refl
  sound_more (a ∷ all) h = both (test a) (all_are test all) (one a (front (spell_one a) (spell_more spell_one all) h)) (sound_more all (behind (spell_one a) (spell_more spell_one all) h))

  sound_list : (all : List A) → Sound (spell_list spell_one all) → all_are test all ≡ true
  sound_list [] h = refl
  sound_list (a ∷ all) h = both (test a) (all_are test all) (one a (front (spell_one a) (spell_more spell_one all) h)) (sound_more all (behind (spell_one a) (spell_more spell_one all) h))

  sound_option : (a : Option A) → Sound (spell_option spell_one a) → is_sound_option test a ≡ true
  sound_option None h = refl
  sound_option (Some a) h = one a h

  -- with something behind
  sound_option_before : (a : Option A) (w : List Lexeme) → Sound (spell_option spell_one a ++ w) → is_sound_option test a ≡ true
  sound_option_before a w h = sound_option a (front (spell_option spell_one a) w h)

mutual
  sound_place : (p : t.Place) → Sound (spell_place p) → is_sound_place p ≡ true
  sound_place (t.single name) h = refl
  sound_place (t.element name index) h = sound index (front (spell index) (sign Sign.BracketClose ∷ []) h)

  sound : (e : t.Expression) → Sound (spell e) → is_sound e ≡ true
  sound (t.number value) h = left (is_sound_number value) true h
  sound (t.at place) h = sound_place place h
  sound (t.paren e) h = sound e (front (spell e) (sign Sign.ParenClose ∷ []) h)
  sound (t.call name arguments) h = sound_arguments arguments (front (spell_arguments arguments) (sign Sign.ParenClose ∷ []) h)
  sound (t.unary op line e) h = sound e h
  sound (t.prefix op line place) h = sound_place place h
  sound (t.postfix place op line) h = sound_place place (front (spell_place place) _ h)
  sound (t.binary a op line b) h = both (is_sound a) (is_sound b) (sound a (front (spell a) _ h)) (sound b (behind (spell a) _ h))
  sound (t.choice test line a b) h =
      let rest = behind (spell test) _ h in
      both (is_sound test && is_sound a) (is_sound b) (both (is_sound test) (is_sound a) (sound test (front (spell test) _ h)) (sound a (front (spell a) _ rest))) (sound b (behind (spell a) _ rest))
  sound (t.assign place op line e) h = both (is_sound_place place) (is_sound e) (sound_place place (front (spell_place place) _ h)) (sound e (behind (spell_place place) _ h))

  sound_arguments : (all : t.Expressions) → Sound (spell_arguments all) → are_sound_arguments all ≡ true
  sound_arguments t.nil h = refl
  sound_arguments (t.cons e rest) h = both (is_sound e) (are_sound_arguments rest) (sound e (front (spell e) _ h)) (sound_more_arguments rest (behind (spell e) _ h))

  sound_more_arguments : (all : t.Expressions) → Sound (spell_more_arguments all) → are_sound_arguments all ≡ true
  sound_more_arguments t.nil h = refl
  sound_more_arguments (t.cons e rest) h = both (is_sound e) (are_sound_arguments rest) (sound e (front (spell e) _ h)) (sound_more_arguments rest (behind (spell e) _ h))

sound_variable : (v : t.Variable) → Sound (spell_variable v) → is_sound_variable v ≡ true
sound_variable v h = sound_option (λ initial. spell_initial initial) (λ initial. is_sound initial.value) (λ initial h. sound initial.value h) v.initial h

sound_part : (p : t.Part) → Sound (spell_part p) → is_sound_part p ≡ true
sound_part (t.part_text held) h = left (is_sound_string held) true h
sound_part (t.part_value e) h = sound e h

sound_start : (s : t.ForStart) → Sound (spell_start s) → is_sound_start s ≡ true
sound_start t.start_nothing h = refl
sound_start (t.start_variables all) h = sound_list spell_variable is_sound_variable sound_variable all h
sound_start (t.start_expression e) h = sound e h

mutual
  sound_statement : (s : t.Statement) → Sound (spell_statement s) → is_sound_statement s ≡ true
  sound_statement (t.block body) h = sound_statements body (front (spell_statements body) _ h)
  sound_statement t.empty h = refl
  sound_statement (t.variables all) h = sound_list spell_variable is_sound_variable sound_variable all (front (spell_list spell_variable all) _ h)
  sound_statement (t.expression e) h = sound e (front (spell e) _ h)
  sound_statement (t.when test body) h =
      both (is_sound test) (is_sound_statement body) (sound test (front (spell test) _ (front (spell test ++ sign Sign.ParenClose ∷ []) _ h)))
      (sound_statement body (behind (spell test ++ sign Sign.ParenClose ∷ []) _ h))
  sound_statement (t.either test body other) h =
      let rest = behind (spell test ++ sign Sign.ParenClose ∷ []) _ h in
      both (is_sound test && is_sound_statement body) (is_sound_statement other)
      (both (is_sound test) (is_sound_statement body) (sound test (front (spell test) _ (front (spell test ++ sign Sign.ParenClose ∷ []) _ h))) (sound_statement body (front (spell_statement body) _ rest)))
      (sound_statement other (behind (spell_statement body) _ rest))
  sound_statement (t.while test body) h =
      both (is_sound test) (is_sound_statement body) (sound test (front (spell test) _ (front (spell test ++ sign Sign.ParenClose ∷ []) _ h)))
      (sound_statement body (behind (spell test ++ sign Sign.ParenClose ∷ []) _ h))
  sound_statement (t.for start test step body) h =
      let after_start = behind (spell_start start) _ h in
      let after_test = behind (spell_option spell test) _ after_start in
      both (is_sound_start start && is_sound_option is_sound test && is_sound_option is_sound step) (is_sound_statement body)
      (both (is_sound_start start && is_sound_option is_sound test) (is_sound_option is_sound step)
      (both (is_sound_start start) (is_sound_option is_sound test) (sound_start start (front (spell_start start) _ h))
      (sound_option_before spell is_sound sound test _ after_start))
      (sound_option_before spell is_sound sound step _ after_test))
      (sound_statement body (behind (spell_option spell step) _ after_test))
  sound_statement (t.break line) h = refl
  sound_statement (t.continue line) h = refl
  sound_statement (t.return line value) h = sound_option_before spell is_sound sound value _ h
  sound_statement (t.acquire place) h = sound_place place (front (spell_place place) _ h)
  sound_statement (t.acquire_shared place) h = sound_place place (front (spell_place place) _ h)
  sound_statement (t.release place) h = sound_place place (front (spell_place place) _ h)
  sound_statement (t.barrier name) h = refl
  sound_statement (t.print parts) h = sound_list spell_part is_sound_part sound_part parts (front (spell_list spell_part parts) _ h)

  sound_statements : (all : t.Statements) → Sound (spell_statements all) → are_sound_statements all ≡ true
  sound_statements t.none h = refl
  sound_statements (t.then s rest) h =
      both (is_sound_statement s) (are_sound_statements rest) (sound_statement s (front (spell_statement s) _ h)) (sound_statements rest (behind (spell_statement s) _ h))

sound_size : (size : Option ℤ) → Sound (spell_size size) → is_sound_option is_sound_number size ≡ true
sound_size None h = refl
sound_size (Some n) h = left (is_sound_number n) true h

sound_declarators : (all : List Declarator) (w : List Lexeme) → Sound (spell_list spell_declarator all ++ w) → all_are is_sound_declarator all ≡ true
sound_declarators all w h = sound_list spell_declarator is_sound_declarator (λ d h. sound_size d.size h) all (front (spell_list spell_declarator all) w h)

sound_item : (i : t.Item) → Sound (spell_item i) → is_sound_item i ≡ true
sound_item (t.cells sharing.Shared all) h = sound_declarators all _ h
sound_item (t.cells sharing.Private all) h = sound_declarators all _ h
sound_item (t.locks all) h = sound_declarators all _ h
sound_item (t.barriers all) h = refl
sound_item (t.bind b) h =
    let index = is_sound_option is_sound_number b.index in
    let first = is_sound_number b.first in
    let count = is_sound_number b.count in
    let rest = behind (spell_size b.index) _ h in
    both (index && first) count (both index first (sound_size b.index (front (spell_size b.index) _ h)) (left first (count && true) rest))
    (left count true (right first (count && true) rest))
sound_item (t.bind_each b) h = left (is_sound_number b.count) true h
sound_item (t.bind_barrier b) h =
    numbers (is_sound_number b.first) (is_sound_number b.count) (is_sound_number b.owner) (is_sound_number b.phase) (is_sound_number b.period) h
  where
    numbers : (a b c d e : Bool) → (a && (b && (c && (d && (e && true))))) ≡ true → (a && b && c && d && e) ≡ true
    numbers true true true true true h = refl
    numbers true true true true false h = absurd cc
    numbers true true true false e h = absurd cc
    numbers true true false d e h = absurd cc
    numbers true false c d e h = absurd cc
    numbers false b c d e h = absurd cc
sound_item (t.function f) h = sound_statements f.body (front (spell_statements f.body) _ (behind (spell_params f.params) _ (right (is_sound_lexeme (spell_returns f.returns)) _ h)))

pub sound_program : (all : List t.Item) → Sound (spell_program all) → is_sound_program all ≡ true
sound_program [] h = refl
sound_program (i ∷ all) h = both (is_sound_item i) (is_sound_program all) (sound_item i (front (spell_item i) _ h)) (sound_program all (behind (spell_item i) _ h))
