-- A text whose end leaves something open goes on to be right.
use Rattle.std.proofs.Common.{ℕ, ◌+◌, ◌≤◌, false, List, [], ◌∷◌, ◌++◌, length, refl, sym, ap, ◌∙◌, arith, lit<, append_assoc, length-append}
use Rattle.std.proofs.lemmas.Bool.{and_right}
use Rattle.std.proofs.lemmas.List.{append-nil}
use Rattle.dsm_syntax.specs.declared.token.Token.{Token}
use Rattle.dsm_syntax.specs.declared.token.TokenKind.TheVariants as kind
use Rattle.dsm_syntax.specs.Bytes.{lines_in}
use Rattle.dsm_syntax.specs.Pieces.{Piece, line_comment, block_comment, token, IsOpen, IsPiece, Ends}
use Rattle.dsm_syntax.specs.Texts.{Item, written, token_of, tokens_of, IsCut, IsLexed}
use Rattle.dsm_syntax.specs.OpenEnds.{IsOpenEnd, EndsOpen, string, comment, star, slash}
use Rattle.dsm_syntax.proofs.Closings.{ends_with_star, goes, goes_more, open_of}
use Rattle.dsm_syntax.proofs.Cuts.{cut_more, tokens_more}
use Rattle.dsm_syntax.proofs.Continuations.{cut_on}

-- a comment may hold one more star
one_more_star : (w : List ℕ) → IsOpen w → IsOpen (w ++ 42 ∷ [])
one_more_star w h = open_of (w ++ 42 ∷ []) (goes_more w false 42 (goes w h) (lit< tt) (and_right (ends_with_star false w) false refl))

-- the rest and what is missing are one piece
by_piece : (text : List ℕ) (items : List Item) (rest missing : List ℕ) (p : Piece) → length text + length missing ≤ 262144 → 1 ≤ length rest → IsCut text items rest → IsPiece p (rest ++ missing) → Ends p (rest ++ missing) []
    → length (tokens_of 0 1 items) + length (token_of (length (written items)) (1 + lines_in (written items)) (record { piece = p; bytes = rest ++ missing })) ≤ 65536 → (tokens : List Token) × IsLexed (text ++ missing) tokens
by_piece text items rest missing p room some c t e n = (
  tokens_of 0 1 (items ++ item ∷ []),
  record {
    short = omega (arith, length-append text missing);
    spelled = (items ++ item ∷ [], cut_more (text ++ missing) items item (rest ++ missing) [] (cut_on text items rest missing some c) (sym (append-nil (rest ++ missing))) t e, refl);
    few = omega (arith, ap length (tokens_more items item), length-append (tokens_of 0 1 items) (token_of (length (written items)) (1 + lines_in (written items)) item), n);
  },
)
  where
    item : Item
    item = record { piece = p; bytes = rest ++ missing }

of_end : (text missing : List ℕ) (items : List Item) (rest : List ℕ) → IsCut text items rest → length (tokens_of 0 1 items) ≤ 65536 → length text + length missing ≤ 262144 → IsOpenEnd (length (tokens_of 0 1 items)) rest missing → (tokens : List Token) × IsLexed (text ++ missing) tokens
of_end text _ items rest c n room (string few o) = by_piece text items rest (34 ∷ []) (token (kind.Str o.0)) room (omega (arith, ap length o.1)) c (ap (λ t. t ++ 34 ∷ []) o.1, o.2) tt (omega arith)
of_end text _ items rest c n room (comment o) = by_piece text items rest (42 ∷ 47 ∷ []) block_comment room (omega (arith, ap length o.1)) c (o.0, ap (λ t. t ++ 42 ∷ 47 ∷ []) o.1, one_more_star o.0 o.2) tt (omega arith)
of_end text _ items rest c n room (star held e o) = by_piece text items rest (47 ∷ []) block_comment room (omega (arith, ap length e)) c (held, ap (λ t. t ++ 47 ∷ []) e ∙ ap (λ t. 47 ∷ 42 ∷ t) (append_assoc held (42 ∷ []) (47 ∷ [])), o) tt (omega arith)
of_end text _ items rest c n room (slash e) = by_piece text items rest (47 ∷ []) line_comment room (omega (arith, ap length e)) c ([], ap (λ t. t ++ 47 ∷ []) e, tt) tt (omega arith)

pub completed : (text missing : List ℕ) → EndsOpen text missing → (tokens : List Token) × IsLexed (text ++ missing) tokens
completed text missing h = of_end text missing h.items h.rest h.cut h.few h.room h.end
