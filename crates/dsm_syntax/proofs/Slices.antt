-- The tokens of a text stand in it, one after the other.
use Rattle.std.proofs.Common.{◌≡◌, ℕ, ◌+◌, ◌-◌, ◌≤◌, List, [], ◌∷◌, ◌++◌, length, take, drop, Result, Ok, Err, refl, sym, ap, ◌∙◌, subst, arith, append_assoc, length-append, length-drop}
use Rattle.std.specs.Prelude.{IfOk}
use Rattle.std.specs.List.{AllByRecursion, slice_range}
use Rattle.std.proofs.lemmas.List.{append-nil, take_at, drop_at, take_all, take-append-drop, drop-append-le, drop-drop}
use Rattle.dsm_syntax.specs.declared.errors.ProgErr.{ProgErr}
use Rattle.dsm_syntax.specs.declared.token.Token.{Token}
use Rattle.dsm_syntax.specs.Bytes.{lines_in}
use Rattle.dsm_syntax.specs.Pieces.{Piece, blank, line_comment, block_comment, token, IsPiece}
use Rattle.dsm_syntax.specs.Texts.{Item, written, AreItems, tokens_of, Spells}
use Rattle.dsm_syntax.specs.Places.{slice_of, IsSpace, AreSpaces, StandsAfter, AreInPlace, joined}
use Rattle.dsm_syntax.proofs.Cuts.{lines_in-append, written_more}
use Rattle.dsm_syntax.proofs.Outcomes.{Told}

-- ---- slices

-- a part between two others
slice_at : (v w x : List ℕ) (a b : ℕ) → a ≡ length v → b ≡ length v + length w → slice_range (v ++ (w ++ x)) a b ≡ w
slice_at v w x a b e f = ap (take (b - a)) (drop_at v (w ++ x) a (sym e)) ∙ take_at w x (b - a) (omega arith)

-- a part up to a place, and what stands there
slice_more : (text : List ℕ) (from at : ℕ) (v w x : List ℕ) → text ≡ v ++ (w ++ x) → from ≤ at → at ≡ length v → slice_range text from (at + length w) ≡ slice_range text from at ++ w
slice_more text from at v w x e l f =
    ap (λ t. slice_range t from (at + length w)) whole ∙ ap (take (at + length w - from)) (split (v ++ w) x (omega (arith, length-append v w))) ∙ take_at (drop from (v ++ w)) x (at + length w - from) (omega (arith, length-drop from (v ++ w), length-append v w))
    ∙ split v w (omega arith)
    ∙ ap (λ t. t ++ w) (sym (ap (λ t. slice_range t from at) e ∙ ap (take (at - from)) (split v (w ++ x) (omega arith)) ∙ take_at (drop from v) (w ++ x) (at - from) (omega (arith, length-drop from v))))
  where
    whole : text ≡ (v ++ w) ++ x
    whole = e ∙ sym (append_assoc v w x)

    split : (p q : List ℕ) → from ≤ length p → drop from (p ++ q) ≡ drop from p ++ q
    split p q l = drop-append-le from p q l

-- ---- blank space and comments

no_space : AreSpaces []
no_space = ([], refl, tt)

all_more : (items : List Item) (item : Item) → AllByRecursion IsSpace items → IsSpace item → AllByRecursion IsSpace (items ++ item ∷ [])
all_more [] item a s = (s, tt)
all_more (i ∷ items) item a s = (a.0, all_more items item a.1 s)

more_space : (bytes : List ℕ) (item : Item) → AreSpaces bytes → IsSpace item → AreSpaces (bytes ++ item.bytes)
more_space bytes item a s = (a.0 ++ item ∷ [], ap (λ v. v ++ item.bytes) a.1 ∙ sym (written_more a.0 item), all_more a.0 item a.2 s)

-- ---- all tokens

-- `before` is what stands before the items
record IsUpTo (text before : List ℕ) (from : ℕ) (items : List Item) : Type 0 where
  whole : text ≡ before ++ written items
  behind : from ≤ length before
  between : AreSpaces (slice_range text from (length before))
  each : AreItems items []

next : (text before : List ℕ) (from : ℕ) (item : Item) (items : List Item) → IsUpTo text before from (item ∷ items) → IsSpace item → IsUpTo text (before ++ item.bytes) from items
next text before from item items h s = record {
  whole = h.whole ∙ sym (append_assoc before item.bytes (written items));
  behind = let x = h.behind in omega (arith, length-append before item.bytes);
  between = subst AreSpaces (sym (ap (slice_range text from) (length-append before item.bytes) ∙ slice_more text from (length before) before item.bytes (written items) h.whole h.behind refl)) (more_space _ item h.between s);
  each = h.each.2;
}

placed : (text before : List ℕ) (from at line : ℕ) (items : List Item) → IsUpTo text before from items → at ≡ length before → line ≡ 1 + lines_in before → AreInPlace text from (tokens_of at line items)
placed text before from at line [] h e f =
    let whole = h.whole ∙ append-nil before in
    subst AreSpaces (take_all (length before - from) (drop from text) (omega (arith, length-drop from text, ap length whole))) h.between
placed text before from at line (item ∷ items) h e f = of item.piece refl (λ from' k. placed text (before ++ item.bytes) from' (at + length item.bytes) (line + lines_in item.bytes) items k (omega (arith, length-append before item.bytes)) (omega (arith, lines_in-append before item.bytes)))
  where
    piece : (p : Piece) → item.piece ≡ p → IsPiece p item.bytes
    piece p g = subst (λ q. IsPiece q item.bytes) g h.each.0

    space : (p : Piece) → item.piece ≡ p → IsSpace (record { piece = p; bytes = item.bytes }) → IsSpace item
    space p g s = subst (λ q. IsSpace (record { piece = q; bytes = item.bytes })) (sym g) s

    of : (p : Piece) → item.piece ≡ p → ((from' : ℕ) → IsUpTo text (before ++ item.bytes) from' items → AreInPlace text from' (tokens_of (at + length item.bytes) (line + lines_in item.bytes) items)) → AreInPlace text from (tokens_of at line (record { piece = p; bytes = item.bytes } ∷ items))
    of blank g ih = ih from (next text before from item items h (space blank g (piece blank g)))
    of line_comment g ih = ih from (next text before from item items h (space line_comment g (piece line_comment g)))
    of block_comment g ih = ih from (next text before from item items h (space block_comment g (piece block_comment g)))
    of (token k) g ih = (stands, ih (at + length item.bytes) after)
      where
        stands : StandsAfter text from (record { kind = k; at = at; len = length item.bytes; line = line })
        stands = record {
          behind = let x = h.behind in omega arith;
          within = omega (arith, ap length h.whole, length-append before (item.bytes ++ written items), length-append item.bytes (written items));
          between = subst (λ n. AreSpaces (slice_range text from n)) (sym e) h.between;
          slice = subst (λ v. IsPiece (token k) v) (sym (ap (λ t. slice_range t at (at + length item.bytes)) h.whole ∙ slice_at before item.bytes (written items) at (at + length item.bytes) e (omega arith))) (piece (token k) g);
          line = f ∙ ap (λ v. 1 + lines_in v) (sym (ap (take at) h.whole ∙ take_at before (item.bytes ++ written items) at (sym e)));
        }

        after : IsUpTo text (before ++ item.bytes) (at + length item.bytes) items
        after = record {
          whole = h.whole ∙ sym (append_assoc before item.bytes (written items));
          behind = omega (arith, length-append before item.bytes);
          between = subst AreSpaces (sym (ap (λ n. take n (drop (at + length item.bytes) text)) nothing)) no_space;
          each = h.each.2;
        }
          where
            nothing : length (before ++ item.bytes) - (at + length item.bytes) ≡ 0
            nothing = omega (arith, length-append before item.bytes)

pub in_place : (text : List ℕ) (tokens : List Token) → Spells tokens text → AreInPlace text 0 tokens
in_place text tokens s = subst (AreInPlace text 0) (sym s.2) (placed text [] 0 0 1 s.0 (record { whole = s.1.whole ∙ append-nil (written s.0); behind = omega arith; between = no_space; each = s.1.each }) refl refl)

pub told_in_place : (text : List ℕ) (result : Result (List Token) ProgErr) → Told text result → IfOk result (λ tokens. AreInPlace text 0 tokens)
told_in_place text (Ok tokens) h = in_place text tokens h.spelled
told_in_place text (Err e) h = tt

-- ---- joined

-- a part and what follows it
part : (text : List ℕ) (a b : ℕ) → a ≤ b → slice_range text a b ++ drop b text ≡ drop a text
part text a b l =
    let e : a + (b - a) ≡ b = omega arith in
    ap (λ t. slice_range text a b ++ t) (ap (λ n. drop n text) (sym e) ∙ sym (drop-drop (b - a) a text)) ∙ take-append-drop (b - a) (drop a text)

joined_from : (text : List ℕ) (from : ℕ) (tokens : List Token) → AreInPlace text from tokens → joined text from tokens ≡ drop from text
joined_from text from [] h = refl
joined_from text from (t ∷ tokens) h =
    append_assoc (slice_range text from t.at) (slice_of text t) _
    ∙ ap (λ v. slice_range text from t.at ++ (slice_of text t ++ v)) (joined_from text (t.at + t.len) tokens h.1)
    ∙ ap (λ v. slice_range text from t.at ++ v) (part text t.at (t.at + t.len) (omega arith))
    ∙ part text from t.at h.0.behind

pub joined_is : (text : List ℕ) (tokens : List Token) → Spells tokens text → joined text 0 tokens ≡ text
joined_is text tokens s = joined_from text 0 tokens (in_place text tokens s)
