-- Tokens of a text are sound.
use Rattle.std.proofs.Common.{◌≡◌, ℕ, ◌+◌, Bool, true, false, ◌&&◌, List, [], ◌∷◌, ◌++◌, length, pos, refl, sym, ap, ◌∙◌, subst}
use Rattle.std.specs.Prelude.{IsTrue}
use Rattle.std.specs.List.{AllByRecursion}
use Rattle.dsm_syntax.specs.declared.token.Token.{Token}
use Rattle.dsm_syntax.specs.declared.token.TokenKind.{TokenKind}
use Rattle.dsm_syntax.specs.Bytes.{is_string_byte, lines_in}
use Rattle.dsm_syntax.specs.Pieces.{Piece, blank, line_comment, block_comment, token, IsPiece, IsToken, AllAre}
use Rattle.dsm_syntax.specs.Texts.{Item, token_of, tokens_of, AreItems, Spells}
use Rattle.dsm_syntax.specs.Sound.{all_are, is_sound_number, is_sound_kind, is_sound_string, are_sound}

both : (a b : Bool) → IsTrue a → IsTrue b → IsTrue (a && b)
both true b h g = g
both false b h g = absurd cc

all_sound : (held : List ℕ) → AllAre is_string_byte held → IsTrue (is_sound_string held)
all_sound [] h = refl
all_sound (b ∷ held) h = both (is_string_byte b) (is_sound_string held) h.0 (all_sound held h.1)

kind_sound : (kind : TokenKind) (bytes : List ℕ) → IsToken kind bytes → IsTrue (is_sound_kind kind)
kind_sound (TokenKind.Name name) bytes h = refl
kind_sound (TokenKind.Number value) bytes h = subst (λ v. IsTrue (is_sound_number v)) (sym h.2) refl
kind_sound (TokenKind.Str held) bytes h = all_sound held h.1
kind_sound (TokenKind.Word word) bytes h = refl
kind_sound (TokenKind.Sign sign) bytes h = refl

append_sound : (tokens more : List Token) → IsTrue (are_sound tokens) → IsTrue (are_sound more) → IsTrue (are_sound (tokens ++ more))
append_sound [] more h g = g
append_sound (t ∷ tokens) more h g = of (is_sound_kind t.kind) (λ i. append_sound tokens more i g) h
  where
    of : (b : Bool) → (IsTrue (are_sound tokens) → IsTrue (are_sound (tokens ++ more))) → IsTrue (b && are_sound tokens) → IsTrue (b && are_sound (tokens ++ more))
    of true more_sound h = more_sound h
    of false more_sound h = absurd cc

piece_sound : (at line : ℕ) (item : Item) → IsPiece item.piece item.bytes → IsTrue (are_sound (token_of at line item))
piece_sound at line item h = of item.piece h
  where
    of : (p : Piece) → IsPiece p item.bytes → IsTrue (are_sound (token_of at line (record item { piece = p })))
    of blank h = refl
    of line_comment h = refl
    of block_comment h = refl
    of (token kind) h = both (is_sound_kind kind) true (kind_sound kind item.bytes h) refl

items_sound : (at line : ℕ) (items : List Item) (rest : List ℕ) → AreItems items rest → IsTrue (are_sound (tokens_of at line items))
items_sound at line [] rest h = refl
items_sound at line (item ∷ items) rest h =
    append_sound (token_of at line item) (tokens_of (at + length item.bytes) (line + lines_in item.bytes) items) (piece_sound at line item h.0) (items_sound (at + length item.bytes) (line + lines_in item.bytes) items rest h.2)

pub spelled_sound : (text : List ℕ) (tokens : List Token) → Spells tokens text → IsTrue (are_sound tokens)
spelled_sound text tokens h = subst (λ t. IsTrue (are_sound t)) (sym h.2) (items_sound 0 1 h.0 [] h.1.each)
