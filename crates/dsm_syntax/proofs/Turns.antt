-- One turn of the loop that reads a text.
use Rattle.std.proofs.Common.{◌≡◌, ℕ, ◌+◌, ◌-◌, ◌<◌, ◌≤◌, ◌⊎◌, inl, inr, min, List, [], ◌∷◌, ◌++◌, length, take, drop, Option, Some, None, Result, Ok, Err, refl, sym, ap, ◌∙◌, subst, arith, length-append, length-drop}
use Rattle.std.specs.Prelude.{IfOk}
use Rattle.std.proofs.lemmas.List.{take_at, take_rest, drop_at, drop_all, drop-drop}
use Rattle.dsm_syntax.specs.declared.errors.ProgErr.{ProgErr}
use Rattle.dsm_syntax.specs.declared.errors.ProgErr.TheVariants as err
use Rattle.dsm_syntax.specs.declared.errors.Which.TheVariants as which
use Rattle.dsm_syntax.specs.declared.front.Front.{Front}
use Rattle.dsm_syntax.specs.declared.front.Shape.{Shape}
use Rattle.dsm_syntax.specs.declared.front.Shape.TheVariants as s
use Rattle.dsm_syntax.specs.declared.token.Token.{Token}
use Rattle.dsm_syntax.specs.declared.token.TokenKind.{TokenKind}
use Rattle.dsm_syntax.specs.Bytes.{lines_in}
use Rattle.dsm_syntax.specs.Faults.{IsFault}
use Rattle.dsm_syntax.specs.Texts.{Item, written, token_of, tokens_of, IsCut, IsLexed, IsRefused, long_text, fault, many_tokens}
use Rattle.dsm_syntax.specs.Fronts.{front_of, kind_of, listed, IsUnlisted}
use Rattle.dsm_syntax.proofs.Readings.{piece_of}
use Rattle.dsm_syntax.proofs.Decisions.{Stands, IsRead, read}
use Rattle.dsm_syntax.proofs.Cuts.{some_bytes, lines_in-append, written_more, cut_more, tokens_more}

-- what is read takes a byte, and none that isn't there
pub within : (line : ℕ) (text : List ℕ) (result : Result Front ProgErr) → 1 ≤ length text → result ≡ front_of line text → IfOk result (λ front. (1 ≤ front.len) × (front.len ≤ length text))
within line [] result l e = absurd (omega arith)
within line (b ∷ text) (Err f) l e = tt
within line (b ∷ text) (Ok front) l e =
    let s : Stands front.shape front.len (b ∷ text) = subst (IsRead line (b ∷ text)) (sym e) (read line b text) in
    (omega (arith, s.long, some_bytes (piece_of front.shape s.bytes) s.bytes s.piece), omega (arith, s.long, ap length s.whole, length-append s.bytes s.rest))

-- the text is cut into items up to a place, in this line and with these tokens
pub record Reaches (text : List ℕ) (at line : ℕ) (tokens : List Token) : Type 0 where
  pub items : List Item
  pub cut : IsCut text items (drop at text)
  pub place : at ≡ length (written items)
  pub lines : line ≡ 1 + lines_in (written items)
  pub found : tokens ≡ tokens_of 0 1 items

pub begin : (text : List ℕ) → Reaches text 0 1 []
begin text = record { items = []; cut = record { whole = refl; each = tt }; place = refl; lines = refl; found = refl }

-- the token of a shape is that of its piece
token_of_shape : (at line : ℕ) (shape : Shape) (bytes : List ℕ) → listed (kind_of shape bytes) at (length bytes) line ≡ token_of at line (record { piece = piece_of shape bytes; bytes = bytes })
token_of_shape at line s.Blank bytes = refl
token_of_shape at line s.LineComment bytes = refl
token_of_shape at line s.BlockComment bytes = refl
token_of_shape at line s.Name bytes = refl
token_of_shape at line (s.Word word) bytes = refl
token_of_shape at line (s.Number value) bytes = refl
token_of_shape at line s.Str bytes = refl
token_of_shape at line (s.Sign sign) bytes = refl

-- what is read from a place on
pub read_at : (text : List ℕ) (at line : ℕ) (result : Result Front ProgErr) → at < length text → result ≡ front_of line (take (length text - at) (drop at text)) → IsRead line (drop at text) result
read_at text at line result l e = of (drop at text) refl (e ∙ ap (front_of line) (take_rest text at))
  where
    of : (rest : List ℕ) → drop at text ≡ rest → result ≡ front_of line rest → IsRead line rest result
    of [] f e = absurd (omega (arith, ap length f, length-drop at text))
    of (b ∷ rest) f e = subst (IsRead line (b ∷ rest)) (sym e) (read line b rest)

pub turn : (text : List ℕ) (at line : ℕ) (tokens new : List Token) (front : Front) (bytes : List ℕ) → Reaches text at line tokens → Stands front.shape front.len (drop at text) → bytes ≡ take front.len (drop at text)
    → new ≡ tokens ++ listed (kind_of front.shape bytes) at front.len line → Reaches text (at + front.len) (line + lines_in bytes) new
turn text at line tokens new front bytes r s b n =
    record {
      items = r.items ++ item ∷ [];
      cut = subst (IsCut text (r.items ++ item ∷ [])) after (cut_more text r.items item (drop at text) s.rest r.cut s.whole s.piece s.ends);
      place = omega (arith, r.place, s.long, ap length (written_more r.items item), length-append (written r.items) s.bytes);
      lines = omega (arith, r.lines, ap lines_in (written_more r.items item), lines_in-append (written r.items) s.bytes, ap lines_in is);
      found = n ∙ ap (λ t. t ++ listed (kind_of front.shape bytes) at front.len line) r.found ∙ ap (λ t. tokens_of 0 1 r.items ++ t) same ∙ sym (tokens_more r.items item);
    }
  where
    item : Item
    item = record { piece = piece_of front.shape s.bytes; bytes = s.bytes }

    is : bytes ≡ s.bytes
    is = b ∙ ap (take front.len) s.whole ∙ take_at s.bytes s.rest front.len (sym s.long)

    after : s.rest ≡ drop (at + front.len) text
    after = sym (drop_at s.bytes s.rest front.len (sym s.long)) ∙ ap (drop front.len) (sym s.whole) ∙ drop-drop front.len at text

    same : listed (kind_of front.shape bytes) at front.len line ≡ token_of (length (written r.items)) (1 + lines_in (written r.items)) item
    same =
        ap (λ v. listed (kind_of front.shape v) at front.len line) is
        ∙ ap (λ v. listed (kind_of front.shape s.bytes) at v line) s.long
        ∙ token_of_shape at line front.shape s.bytes
        ∙ ap (λ v. token_of v line item) r.place
        ∙ ap (λ v. token_of (length (written r.items)) v item) r.lines

-- a fault at a place that is reached
pub refused_there : (text : List ℕ) (at line : ℕ) (tokens : List Token) (e : ProgErr) → length text ≤ 262144 → Reaches text at line tokens → length tokens ≤ 65536 → IsFault line (drop at text) e → IsRefused text e
refused_there text at line tokens e s r n f =
    fault r.items (drop at text) e s r.cut (omega (arith, ap length r.found)) (subst (λ l. IsFault l (drop at text) e) r.lines f)

-- one token too many at a place that is reached
pub refused_more : (text : List ℕ) (at line : ℕ) (tokens : List Token) (front : Front) (bytes : List ℕ) (shown : Option TokenKind) (e : ProgErr) → length text ≤ 262144 → Reaches text at line tokens → Stands front.shape front.len (drop at text)
    → bytes ≡ take front.len (drop at text) → length tokens ≤ 65536 → shown ≡ kind_of front.shape bytes → IsUnlisted tokens shown e → IsRefused text e
refused_more text at line tokens front bytes None e s r t b n k u = absurd u
refused_more text at line tokens front bytes (Some kind) e s r t b n k u =
    subst (IsRefused text) (sym u.1) (many_tokens next.items (drop (at + front.len) text) s next.cut (omega (arith, u.0, ap length next.found, length-append tokens (listed (kind_of front.shape bytes) at front.len line), ap (λ o. length (listed o at front.len line)) k)))
  where
    next : Reaches text (at + front.len) (line + lines_in bytes) (tokens ++ listed (kind_of front.shape bytes) at front.len line)
    next = turn text at line tokens _ front bytes r t b refl

-- the end of the text is reached
pub lexed_at_end : (text : List ℕ) (at line : ℕ) (tokens : List Token) → length text ≤ 262144 → Reaches text at line tokens → length tokens ≤ 65536 → length text ≤ at → IsLexed text tokens
lexed_at_end text at line tokens s r n e = record { short = s; spelled = (r.items, subst (IsCut text r.items) (drop_all at text e) r.cut, r.found); few = n }

pub refused_long : (text : List ℕ) (n : ℕ) → 262144 < length text → n ≡ min (length text) 4294967295 → IsRefused text (err.Limit which.Text n)
refused_long text n h e = subst (λ m. IsRefused text (err.Limit which.Text m)) (sym e) (long_text h)

-- why a token isn't added
pub told_more : (text : List ℕ) (at line : ℕ) (tokens : List Token) (front : Front) (bytes : List ℕ) (shown : Option TokenKind) (e : ProgErr) → length text ≤ 262144 → Reaches text at line tokens → Stands front.shape front.len (drop at text)
    → bytes ≡ take front.len (drop at text) → length tokens ≤ 65536 → shown ≡ kind_of front.shape bytes → (e ≡ err.Memory) ⊎ IsUnlisted tokens shown e → (e ≡ err.Memory) ⊎ IsRefused text e
told_more text at line tokens front bytes shown e s r t b n k (inl m) = inl m
told_more text at line tokens front bytes shown e s r t b n k (inr u) = inr (refused_more text at line tokens front bytes shown e s r t b n k u)
