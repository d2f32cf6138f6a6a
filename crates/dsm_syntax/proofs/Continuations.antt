-- Refused texts that go on.
use Rattle.std.proofs.Common.{◌≡◌, ℕ, ◌+◌, ◌-◌, ◌*◌, ◌<◌, ◌≤◌, ◌⊎◌, inl, inr, Bool, true, false, List, [], ◌∷◌, ◌++◌, length, drop, refl, sym, ap, ◌∙◌, subst, arith, slice_index, append_assoc, length-append}
use Rattle.std.specs.Prelude.{fold}
use Rattle.std.specs.Char.{is_ascii_digit}
use Rattle.std.proofs.lemmas.Bool.{cases_lt}
use Rattle.std.proofs.lemmas.Bool.Decides.{nat_tests}
use Rattle.std.proofs.lemmas.Grind.{fold-append}
use Rattle.std.proofs.lemmas.List.{append-nil}
use Rattle.dsm_syntax.specs.declared.errors.ProgErr.{ProgErr}
use Rattle.dsm_syntax.specs.declared.errors.ProgErr.TheVariants as err
use Rattle.dsm_syntax.specs.declared.errors.Which.TheVariants as which
use Rattle.dsm_syntax.specs.declared.token.TokenKind.TheVariants as kind
use Rattle.dsm_syntax.specs.Bytes.{is_name_byte, is_blank, lines_in}
use Rattle.dsm_syntax.specs.Signs.{sign_text}
use Rattle.dsm_syntax.specs.Pieces.{Piece, blank, line_comment, block_comment, token, AllAre, Stops, IsName, IsNumber, IsLongestSign, BeginsComment, IsPiece, Ends, decimal}
use Rattle.dsm_syntax.specs.Faults.{IsOpenString, IsOpenComment, IsFault, stray, glued, broken_string, open_string, byte_in_line, byte_in_block, open_comment, too_large, too_long}
use Rattle.dsm_syntax.specs.Texts.{Item, written, AreItems, token_of, tokens_of, IsCut, IsRefused, fault, many_tokens}
use Rattle.dsm_syntax.proofs.Classes.{name_byte_is_letter, Split, split, all_append}
use Rattle.dsm_syntax.proofs.Tables.{front_of_sign}
use Rattle.dsm_syntax.proofs.Decisions.{Decided, decided}
use Rattle.dsm_syntax.proofs.Cuts.{cut_more, tokens_more, some_bytes}

-- ---- what follows a piece that something follows

-- what is longer than a front goes on with the next byte
longer_front : (v s : List ℕ) (c : ℕ) (rest after : List ℕ) → v ++ c ∷ rest ≡ s ++ after → length v < length s → (t : List ℕ) × (s ≡ (v ++ c ∷ []) ++ t)
longer_front v [] c rest after e l = absurd (omega arith)
longer_front [] (d ∷ s) c rest after e l = (s, ap (λ (n : ℕ). n ∷ s) (sym (ap (λ t. slice_index t 0) e)))
longer_front (x ∷ v) (d ∷ s) c rest after e l =
    let k = longer_front v s c rest after (ap (drop 1) e) (omega arith) in
    (k.0, ap (λ (n : ℕ). n ∷ s) (sym (ap (λ t. slice_index t 0) e)) ∙ ap (λ t. x ∷ t) k.1)

-- no longer sign stands there, however the text goes on
longest_on : (v : List ℕ) (c : ℕ) (rest more : List ℕ) → IsLongestSign v (c ∷ rest) → IsLongestSign v (c ∷ (rest ++ more))
longest_on v c rest more l sign after e = of (cases_lt (length v) (length (sign_text sign)))
  where
    of : (length v < length (sign_text sign)) ⊎ (length (sign_text sign) ≤ length v) → length (sign_text sign) ≤ length v
    of (inr h) = h
    of (inl h) =
        let k = longer_front v (sign_text sign) c (rest ++ more) after e h in
        let u = front_of_sign sign (v ++ c ∷ []) k.0 k.1 (omega (arith, length-append v (c ∷ []))) in
        absurd (omega (arith, l u.0 rest (sym (append_assoc v (c ∷ []) rest) ∙ ap (λ t. t ++ rest) (sym u.1)), ap length u.1, length-append v (c ∷ [])))

-- whether a comment begins is told by two bytes
by_two : (x y : ℕ) (r t : List ℕ) → BeginsComment (x ∷ y ∷ r) → BeginsComment (x ∷ y ∷ t)
by_two x y r t h = (t, of h.1)
  where
    of : {rest : List ℕ} → (x ∷ y ∷ r ≡ 47 ∷ 47 ∷ rest) ⊎ (x ∷ y ∷ r ≡ 47 ∷ 42 ∷ rest) → (x ∷ y ∷ t ≡ 47 ∷ 47 ∷ t) ⊎ (x ∷ y ∷ t ≡ 47 ∷ 42 ∷ t)
    of {rest} (inl e) = inl (λ k. slice_index (e k) 0 ∷ slice_index (e k) 1 ∷ t)
    of {rest} (inr e) = inr (λ k. slice_index (e k) 0 ∷ slice_index (e k) 1 ∷ t)

no_comment_on : (v : List ℕ) (c : ℕ) (rest more : List ℕ) → 1 ≤ length v → ¬ BeginsComment (v ++ c ∷ rest) → ¬ BeginsComment (v ++ c ∷ (rest ++ more))
no_comment_on [] c rest more l n h = absurd (omega arith)
no_comment_on (x ∷ []) c rest more l n h = n (by_two x c (rest ++ more) rest h)
no_comment_on (x ∷ y ∷ v) c rest more l n h = n (by_two x y (v ++ c ∷ (rest ++ more)) (v ++ c ∷ rest) h)

ends_on : (p : Piece) (w r more : List ℕ) → IsPiece p w → 1 ≤ length r → Ends p w r → Ends p w (r ++ more)
ends_on p w [] more t l e = absurd (omega arith)
ends_on blank w (c ∷ r) more t l e = tt
ends_on line_comment w (c ∷ r) more t l e = e
ends_on block_comment w (c ∷ r) more t l e = tt
ends_on (token (kind.Name name)) w (c ∷ r) more t l e = e
ends_on (token (kind.Word word)) w (c ∷ r) more t l e = e
ends_on (token (kind.Number value)) w (c ∷ r) more t l e = e
ends_on (token (kind.Str held)) w (c ∷ r) more t l e = tt
ends_on (token (kind.Sign sign)) w (c ∷ r) more t l e = (longest_on w c r more e.0, no_comment_on w c r more (some_bytes (token (kind.Sign sign)) w t) e.1)

items_on : (items : List Item) (rest more : List ℕ) → 1 ≤ length rest → AreItems items rest → AreItems items (rest ++ more)
items_on [] rest more l t = tt
items_on (item ∷ items) rest more l t =
    (t.0, subst (λ r. Ends item.piece item.bytes r) (append_assoc (written items) rest more) (ends_on item.piece item.bytes (written items ++ rest) more t.0 (omega (arith, length-append (written items) rest)) t.1), items_on items rest more l t.2)

-- where something is left, what was cut stays so
pub cut_on : (text : List ℕ) (items : List Item) (rest more : List ℕ) → 1 ≤ length rest → IsCut text items rest → IsCut (text ++ more) items (rest ++ more)
cut_on text items rest more l t = record { whole = ap (λ v. v ++ more) t.whole ∙ append_assoc (written items) rest more; each = items_on items rest more l t.each }

-- ---- faults that go on

abbrev pub FaultOn : ℕ → List ℕ → Type 0
FaultOn line text = (e : ProgErr) × IsFault line text e

follow : (v : List ℕ) (b : ℕ) (rest more text : List ℕ) → text ≡ v ++ b ∷ rest → text ++ more ≡ v ++ b ∷ (rest ++ more)
follow v b rest more text e = ap (λ t. t ++ more) e ∙ append_assoc v (b ∷ rest) more

decimal_grows : (w : List ℕ) (n : ℕ) → n ≤ fold (λ value digit. 10 * value + (digit - 48)) n w
decimal_grows [] n = omega arith
decimal_grows (b ∷ w) n = omega (arith, decimal_grows w (10 * n + (b - 48)))

decimal-append : (v w : List ℕ) → decimal v ≤ decimal (v ++ w)
decimal-append v w = let e = fold-append (λ value digit. 10 * value + (digit - 48)) 0 v w in omega (arith, e, decimal_grows w (decimal v))

-- a number that is too large stays so with more digits
more_digits : (v w : List ℕ) → IsNumber v → 9223372036854775807 < decimal v → AllAre is_ascii_digit w → IsNumber (v ++ w)
more_digits [] w n l a = absurd n
more_digits (b ∷ []) w n l a = absurd (small (b - 48) (digit_below b n) l)
  where
    digit_below : (b : ℕ) → is_ascii_digit b ≡ true → b - 48 ≤ 9
    digit_below b h = grind (arith, nat_tests)

    small : (d : ℕ) → d ≤ 9 → 9223372036854775807 < 10 * 0 + d → ⊥
    small d h l = omega arith
more_digits (b ∷ c ∷ v) w n l a = (n.0, all_append is_ascii_digit (b ∷ c ∷ v) w n.1 a)

large_on : (line : ℕ) (v more : List ℕ) → IsNumber v → 9223372036854775807 < decimal v → FaultOn line (v ++ more)
large_on line v more n l = of s.rest (ap (λ t. v ++ t) s.whole ∙ sym (append_assoc v s.front s.rest)) s.stops
  where
    s : Split is_ascii_digit more
    s = split is_ascii_digit more

    n' : IsNumber (v ++ s.front)
    n' = more_digits v s.front n l s.all

    l' : 9223372036854775807 < decimal (v ++ s.front)
    l' = omega (arith, decimal-append v s.front, l)

    of : (rest : List ℕ) → v ++ more ≡ (v ++ s.front) ++ rest → Stops is_ascii_digit rest → FaultOn line (v ++ more)
    of [] e t = (err.LiteralTooLarge line, too_large (v ++ s.front) [] e n' tt l')
    of (b ∷ rest) e t = next (is_name_byte b) refl
      where
        next : (u : Bool) → is_name_byte b ≡ u → FaultOn line (v ++ more)
        next true f = (err.BadByte line, glued (v ++ s.front) b rest e n' (inl (name_byte_is_letter b f t)))
        next false f = (err.LiteralTooLarge line, too_large (v ++ s.front) (b ∷ rest) e n' f l')

more_name : (v w : List ℕ) → IsName v → AllAre is_name_byte w → IsName (v ++ w)
more_name [] w n a = absurd n
more_name (b ∷ v) w n a = (n.0, all_append is_name_byte v w n.1 a)

long_on : (line : ℕ) (v more : List ℕ) → IsName v → 64 < length v → FaultOn line (v ++ more)
long_on line v more n l =
    let s = split is_name_byte more in
    (_, too_long (v ++ s.front) s.rest (ap (λ t. v ++ t) s.whole ∙ sym (append_assoc v s.front s.rest)) (more_name v s.front n s.all) s.stops (omega (arith, l, length-append v s.front)))

-- a fault that isn't the end's stays one, and one of the end is a string or a comment
pub fault_on : (line : ℕ) (text more : List ℕ) (e : ProgErr) → IsFault line text e → FaultOn line (text ++ more) ⊎ (IsOpenString text ⊎ IsOpenComment text)
fault_on line text more _ (stray b rest w h) = inl (_, stray b (rest ++ more) (ap (λ t. t ++ more) w) h)
fault_on line text more _ (glued digits b rest w n h) = inl (_, glued digits b (rest ++ more) (follow digits b rest more text w) n h)
fault_on line text more _ (broken_string held b rest w a h q) = inl (_, broken_string held b (rest ++ more) (follow (34 ∷ held) b rest more text w) a h q)
fault_on line text more _ (open_string o) = inr (inl o)
fault_on line text more _ (byte_in_line held b rest w a h) = inl (_, byte_in_line held b (rest ++ more) (follow (47 ∷ 47 ∷ held) b rest more text w) a h)
fault_on line text more _ (byte_in_block held b rest w o h) = inl (_, byte_in_block held b (rest ++ more) (follow (47 ∷ 42 ∷ held) b rest more text w) o h)
fault_on line text more _ (open_comment o) = inr (inr o)
fault_on line text more _ (too_large digits [] w n s l) = inl (subst (FaultOn line) (ap (λ t. t ++ more) (sym (append-nil digits) ∙ sym w)) (large_on line digits more n l))
fault_on line text more _ (too_large digits (b ∷ rest) w n s l) = inl (_, too_large digits (b ∷ (rest ++ more)) (follow digits b rest more text w) n s l)
fault_on line text more _ (too_long name [] w n s l) = inl (subst (FaultOn line) (ap (λ t. t ++ more) (sym (append-nil name) ∙ sym w)) (long_on line name more n l))
fault_on line text more _ (too_long name (b ∷ rest) w n s l) = inl (_, too_long name (b ∷ (rest ++ more)) (follow name b rest more text w) n s l)

-- ---- one token too many

-- what begins neither as blank space nor as a comment is a token
abbrev IsTokenPiece : Piece → Type 0
IsTokenPiece blank = ⊥
IsTokenPiece line_comment = ⊥
IsTokenPiece block_comment = ⊥
IsTokenPiece (token k) = Unit {0}

head_of : (text bytes rest : List ℕ) (b : ℕ) (held : List ℕ) → text ≡ bytes ++ rest → bytes ≡ b ∷ held → slice_index text 0 ≡ b
head_of text bytes rest b held e f = ap (λ t. slice_index t 0) e ∙ ap (λ t. slice_index (t ++ rest) 0) f

is_token_piece : (p : Piece) (text bytes rest : List ℕ) → text ≡ bytes ++ rest → IsPiece p bytes → is_blank (slice_index text 0) ≡ false → ¬ BeginsComment text → IsTokenPiece p
is_token_piece blank text bytes rest e t f n = let x : is_blank (slice_index text 0) ≡ true = ap is_blank (head_of text bytes rest t.0 [] e t.1) ∙ t.2 in cc
is_token_piece line_comment text bytes rest e t f n = n (t.0 ++ rest, inl (e ∙ ap (λ v. v ++ rest) t.1))
is_token_piece block_comment text bytes rest e t f n = n ((t.0 ++ 42 ∷ 47 ∷ []) ++ rest, inr (e ∙ ap (λ v. v ++ rest) t.1))
is_token_piece (token k) text bytes rest e t f n = tt

-- after 65,536 tokens a text that begins a token, right or wrong, is refused
pub refused_at_token : (text : List ℕ) (items : List Item) (b : ℕ) (rest : List ℕ) → length text ≤ 262144 → IsCut text items (b ∷ rest) → length (tokens_of 0 1 items) ≡ 65536 → is_blank b ≡ false → ¬ BeginsComment (b ∷ rest) → (e : ProgErr) × IsRefused text e
refused_at_token text items b rest s c n f h = of (decided (1 + lines_in (written items)) b rest)
  where
    of : Decided (1 + lines_in (written items)) (b ∷ rest) → (e : ProgErr) × IsRefused text e
    of (inr g) = (g.0, fault items (b ∷ rest) g.0 s c (omega arith) g.1)
    of (inl p) = (err.Limit which.Tokens 65537, many_tokens (items ++ item ∷ []) p.rest s (cut_more text items item (b ∷ rest) p.rest c p.whole p.piece p.ends) (omega (arith, n, ap length (tokens_more items item), length-append (tokens_of 0 1 items) (token_of (length (written items)) (1 + lines_in (written items)) item), one p.kind (is_token_piece p.kind (b ∷ rest) p.bytes p.rest p.whole p.piece f h))))
      where
        item : Item
        item = record { piece = p.kind; bytes = p.bytes }

        one : (q : Piece) → IsTokenPiece q → length (token_of (length (written items)) (1 + lines_in (written items)) (record { piece = q; bytes = p.bytes })) ≡ 1
        one blank t = absurd t
        one line_comment t = absurd t
        one block_comment t = absurd t
        one (token k) t = refl
