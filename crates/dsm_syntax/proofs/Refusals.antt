-- A refused text stays refused however it goes on, unless its end leaves something open.
use Rattle.std.proofs.Common.{◌≡◌, ◌≢◌, ℕ, zero, suc, ◌+◌, ◌<◌, ◌≤◌, ◌⊎◌, inl, inr, Bool, true, false, List, [], ◌∷◌, ◌++◌, length, refl, sym, ap, ◌∙◌, subst, arith, slice_index, append_assoc, length-append}
use Rattle.std.specs.Prelude.{not, ◌&&◌, ◌||◌, ◌==◌}
use Rattle.std.specs.Char.{is_ascii_digit}
use Rattle.std.proofs.lemmas.Bool.{and_left, cases_lt, cases_eq}
use Rattle.std.proofs.lemmas.Bool.Decides.{nat_tests}
use Rattle.std.proofs.lemmas.List.{append-nil}
use Rattle.dsm_syntax.specs.declared.errors.ProgErr.{ProgErr}
use Rattle.dsm_syntax.specs.declared.sign.Sign.{Sign}
use Rattle.dsm_syntax.specs.declared.sign.Sign.TheVariants as sign
use Rattle.dsm_syntax.specs.declared.token.TokenKind.{TokenKind}
use Rattle.dsm_syntax.specs.declared.token.TokenKind.TheVariants as kind
use Rattle.dsm_syntax.specs.Bytes.{is_letter, is_blank, lines_in}
use Rattle.dsm_syntax.specs.Signs.{sign_text}
use Rattle.dsm_syntax.specs.Words.{word_text}
use Rattle.dsm_syntax.specs.Pieces.{Piece, blank, line_comment, block_comment, token, IsName, IsNumber, IsOpen, BeginsComment, IsToken, Ends}
use Rattle.dsm_syntax.specs.Faults.{IsFault, IsOpenString, IsOpenComment, byte_in_block, open_comment}
use Rattle.dsm_syntax.specs.Texts.{Item, written, AreItems, token_of, tokens_of, IsCut, IsRefused, long_text, fault, many_tokens}
use Rattle.dsm_syntax.specs.OpenEnds.{IsOpenEnd, EndsOpen, string, comment, star, slash}
use Rattle.dsm_syntax.proofs.Classes.{letter_not_blank, digit_not_blank}
use Rattle.dsm_syntax.proofs.Tables.{begins_sign, each_sign, word_is_name}
use Rattle.dsm_syntax.proofs.Closings.{ends_with_star, goes, goes_more, open_of, before_star}
use Rattle.dsm_syntax.proofs.Readings.{digits_of}
use Rattle.dsm_syntax.proofs.Cuts.{some_bytes, some_rest, written-append}
use Rattle.dsm_syntax.proofs.Continuations.{FaultOn, cut_on, fault_on, refused_at_token}

-- ---- the last token that is allowed, and the one after it

abbrev weight : Piece → ℕ
weight blank = 0
weight line_comment = 0
weight block_comment = 0
weight (token k) = 1

abbrev amount : List Item → ℕ
amount [] = 0
amount (item ∷ items) = weight item.piece + amount items

amount_is : (at line : ℕ) (items : List Item) → length (tokens_of at line items) ≡ amount items
amount_is at line [] = refl
amount_is at line (item ∷ items) =
    omega (arith, length-append (token_of at line item) (tokens_of (at + length item.bytes) (line + lines_in item.bytes) items), one item.piece, amount_is (at + length item.bytes) (line + lines_in item.bytes) items)
  where
    one : (p : Piece) → length (token_of at line (record { piece = p; bytes = item.bytes })) ≡ weight p
    one blank = refl
    one line_comment = refl
    one block_comment = refl
    one (token k) = refl

amount-append : (a b : List Item) → amount (a ++ b) ≡ amount a + amount b
amount-append [] b = omega arith
amount-append (item ∷ a) b = omega (arith, amount-append a b)

-- the token after so many others
record Nth (items : List Item) (n : ℕ) : Type 0 where
  before : List Item
  kind : TokenKind
  bytes : List ℕ
  after : List Item
  whole : items ≡ before ++ record { piece = token kind; bytes = bytes } ∷ after
  count : amount before ≡ n

skipped : (item : Item) (items : List Item) (n m : ℕ) → Nth items n → weight item.piece + n ≡ m → Nth (item ∷ items) m
skipped item items n m t e = record { before = item ∷ t.before; kind = t.kind; bytes = t.bytes; after = t.after; whole = ap (λ l. item ∷ l) t.whole; count = let x = t.count in omega arith }

nth : (items : List Item) (n : ℕ) → n < amount items → Nth items n
nth [] n h = absurd (omega arith)
nth (item ∷ items) n h = of item.piece refl n h (λ m k. nth items m k)
  where
    of : (p : Piece) → item.piece ≡ p → (n : ℕ) → n < weight item.piece + amount items → ((m : ℕ) → m < amount items → Nth items m) → Nth (item ∷ items) n
    of blank e n h ih = skipped item items n n (ih n (omega (arith, h, ap weight e))) (omega (arith, ap weight e))
    of line_comment e n h ih = skipped item items n n (ih n (omega (arith, h, ap weight e))) (omega (arith, ap weight e))
    of block_comment e n h ih = skipped item items n n (ih n (omega (arith, h, ap weight e))) (omega (arith, ap weight e))
    of (token k) e zero h ih = record { before = []; kind = k; bytes = item.bytes; after = items; whole = ap (λ (p : Piece). record { piece = p; bytes = item.bytes } ∷ items) e; count = refl }
    of (token k) e (suc n) h ih = skipped item items n (suc n) (ih n (omega (arith, h, ap weight e))) (omega (arith, ap weight e))

-- the items before, and what they leave
parted : (a b : List Item) (rest : List ℕ) → AreItems (a ++ b) rest → AreItems a (written b ++ rest) × AreItems b rest
parted [] b rest t = (tt, t)
parted (item ∷ a) b rest t =
    let k = parted a b rest t.2 in
    ((t.0, subst (λ r. Ends item.piece item.bytes r) (ap (λ v. v ++ rest) (written-append a b) ∙ append_assoc (written a) (written b) rest) t.1, k.0), k.1)

cut_before : (text : List ℕ) (a b : List Item) (rest : List ℕ) → IsCut text (a ++ b) rest → IsCut text a (written b ++ rest)
cut_before text a b rest t = record { whole = t.whole ∙ ap (λ v. v ++ rest) (written-append a b) ∙ append_assoc (written a) (written b) rest; each = (parted a b rest t.each).0 }

-- ---- how a token begins

-- neither as blank space nor as a comment, whatever follows, unless it is a slash
record BeginsToken (bytes : List ℕ) : Type 0 where
  blank : is_blank (slice_index bytes 0) ≡ false
  comment : (more : List ℕ) → (¬ BeginsComment (bytes ++ more)) ⊎ (bytes ≡ 47 ∷ [])

no_slash : (b : ℕ) (text : List ℕ) → b ≢ 47 → ¬ BeginsComment (b ∷ text)
no_slash b text h c = of c.1
  where
    of : {rest : List ℕ} → (b ∷ text ≡ 47 ∷ 47 ∷ rest) ⊎ (b ∷ text ≡ 47 ∷ 42 ∷ rest) → ⊥
    of {rest} (inl e) = h (ap (λ t. slice_index t 0) e)
    of {rest} (inr e) = h (ap (λ t. slice_index t 0) e)

begins_other : (b : ℕ) (bytes : List ℕ) → is_blank b ≡ false → b ≢ 47 → BeginsToken (b ∷ bytes)
begins_other b bytes f h = record { blank = f; comment = λ more. inl (no_slash b (bytes ++ more) h) }

begins_name : (bytes : List ℕ) → IsName bytes → BeginsToken bytes
begins_name [] n = absurd n
begins_name (b ∷ bytes) n = begins_other b bytes (letter_not_blank b n.0) (λ e. let x : is_letter b ≡ false = ap is_letter e in let y = n.0 in cc)

begins_number : (bytes : List ℕ) → IsNumber bytes → BeginsToken bytes
begins_number [] n = absurd n
begins_number (b ∷ bytes) n =
    let d = (digits_of (b ∷ bytes) n).0 in
    begins_other b bytes (digit_not_blank b d) (λ e. let x : is_ascii_digit b ≡ false = ap is_ascii_digit e in cc)

-- a slash is followed by neither a slash nor a star
abbrev is_apart : List ℕ → Bool
is_apart [] = true
is_apart (a ∷ []) = true
is_apart (a ∷ b ∷ text) = not ((a == 47) && ((b == 47) || (b == 42)))

sign_is_apart : (sign : Sign) → is_apart (sign_text sign) ≡ true
sign_is_apart sign.ParenOpen = refl
sign_is_apart _ = refl

begins_by_sign : (bytes : List ℕ) → begins_sign bytes ≡ true → is_apart bytes ≡ true → BeginsToken bytes
begins_by_sign [] f g = absurd cc
begins_by_sign (a ∷ []) f g = record { blank = grind (arith, nat_tests); comment = λ more. of more (cases_eq a 47) }
  where
    of : (more : List ℕ) → (a ≡ 47) ⊎ (a ≡ 47 → ⊥) → (¬ BeginsComment (a ∷ more)) ⊎ (a ∷ [] ≡ 47 ∷ [])
    of more (inl e) = inr (ap (λ (n : ℕ). n ∷ []) e)
    of more (inr h) = inl (no_slash a more h)
begins_by_sign (a ∷ b ∷ bytes) f g = record { blank = grind (arith, nat_tests); comment = λ more. inl (λ c. never more c.1) }
  where
    tested : (x y : ℕ) → a ≡ x → b ≡ y → not ((x == 47) && ((y == 47) || (y == 42))) ≡ true
    tested x y e h = ap (λ (n : ℕ). not ((n == 47) && ((y == 47) || (y == 42)))) (sym e) ∙ ap (λ (n : ℕ). not ((a == 47) && ((n == 47) || (n == 42)))) (sym h) ∙ g

    never : (more : List ℕ) → {rest : List ℕ} → (a ∷ b ∷ (bytes ++ more) ≡ 47 ∷ 47 ∷ rest) ⊎ (a ∷ b ∷ (bytes ++ more) ≡ 47 ∷ 42 ∷ rest) → ⊥
    never more {rest} (inl e) = let x = tested 47 47 (ap (λ t. slice_index t 0) e) (ap (λ t. slice_index t 1) e) in cc
    never more {rest} (inr e) = let x = tested 47 42 (ap (λ t. slice_index t 0) e) (ap (λ t. slice_index t 1) e) in cc

begins_token : (k : TokenKind) (bytes : List ℕ) → IsToken k bytes → BeginsToken bytes
begins_token (kind.Name name) bytes t = subst BeginsToken (sym t.0) (begins_name name t.1)
begins_token (kind.Word word) bytes t = subst BeginsToken (sym t) (begins_name (word_text word) (word_is_name word))
begins_token (kind.Number value) bytes t = begins_number bytes t.0
begins_token (kind.Str held) bytes t = subst BeginsToken (sym t.0) (begins_other 34 (held ++ 34 ∷ []) refl (λ e. absurd (omega arith)))
begins_token (kind.Sign sign) bytes t = subst BeginsToken (sym t) (begins_by_sign (sign_text sign) (each_sign sign).begins (sign_is_apart sign))

-- ---- every refusal

abbrev Refused : List ℕ → Type 0
Refused text = (e : ProgErr) × IsRefused text e

-- the text goes on to be refused, or its end leaves something open
abbrev GoesOn : List ℕ → List ℕ → Type 0
GoesOn text more = Refused (text ++ more) ⊎ ((missing : List ℕ) × EndsOpen text missing)

-- a token that is one too many, at the end of a text
last_on : (text : List ℕ) (items : List Item) (k : TokenKind) (bytes more : List ℕ) → 1 ≤ length more → length (text ++ more) ≤ 262144 → IsCut text items bytes → IsToken k bytes → length (tokens_of 0 1 items) ≡ 65536 → GoesOn text more
last_on text items k [] more l s c t n = absurd (omega (arith, some_bytes (token k) [] t))
last_on text items k (b ∷ bytes) more l s c t n = of ((begins_token k (b ∷ bytes) t).comment more)
  where
    of : (¬ BeginsComment (b ∷ (bytes ++ more))) ⊎ (b ∷ bytes ≡ 47 ∷ []) → GoesOn text more
    of (inl h) = inl (refused_at_token (text ++ more) items b (bytes ++ more) s (cut_on text items (b ∷ bytes) more (omega arith) c) n (begins_token k (b ∷ bytes) t).blank h)
    of (inr h) = inr (47 ∷ [], record { items = items; rest = b ∷ bytes; cut = c; few = omega arith; end = slash h; room = omega (arith, length-append text more) })

many_on : (text : List ℕ) (items : List Item) (rest more : List ℕ) → 1 ≤ length more → length (text ++ more) ≤ 262144 → IsCut text items rest → length (tokens_of 0 1 items) ≡ 65537 → GoesOn text more
many_on text items (b ∷ rest) more l s c n = inl (_, many_tokens items (b ∷ (rest ++ more)) s (cut_on text items (b ∷ rest) more (omega arith) c) n)
many_on text items [] more l s c n = of (nth items 65536 (omega (arith, n, amount_is 0 1 items)))
  where
    item : TokenKind → List ℕ → Item
    item k bytes = record { piece = token k; bytes = bytes }

    count : (a : List Item) → amount a ≡ 65536 → length (tokens_of 0 1 a) ≡ 65536
    count a e = amount_is 0 1 a ∙ e

    -- the token is followed by others, or by none
    by_after : (a : List Item) (k : TokenKind) (bytes : List ℕ) (after : List Item) → items ≡ a ++ item k bytes ∷ after → amount a ≡ 65536 → GoesOn text more
    by_after a k bytes [] e f =
        let cut = cut_before text a (item k bytes ∷ []) [] (subst (λ l. IsCut text l []) e c) in
        let each = (parted a (item k bytes ∷ []) [] (subst (λ l. AreItems l []) e c.each)).1 in
        let bare : (bytes ++ []) ++ [] ≡ bytes = append-nil (bytes ++ []) ∙ append-nil bytes in
        last_on text a k bytes more l s (subst (IsCut text a) bare cut) each.0 (count a f)
    by_after a k bytes (i ∷ after) e f =
        let regrouped : items ≡ (a ++ item k bytes ∷ []) ++ i ∷ after = e ∙ sym (append_assoc a (item k bytes ∷ []) (i ∷ after)) in
        let cut = cut_before text (a ++ item k bytes ∷ []) (i ∷ after) [] (subst (λ l. IsCut text l []) regrouped c) in
        let each = (parted (a ++ item k bytes ∷ []) (i ∷ after) [] (subst (λ l. AreItems l []) regrouped c.each)).1 in
        inl (_, many_tokens (a ++ item k bytes ∷ []) _ s (cut_on text (a ++ item k bytes ∷ []) _ more (omega (arith, some_bytes i.piece i.bytes each.0, length-append (i.bytes ++ written after) [], length-append i.bytes (written after))) cut) (omega (arith, amount_is 0 1 (a ++ item k bytes ∷ []), amount-append a (item k bytes ∷ []), f)))

    of : Nth items 65536 → GoesOn text more
    of t = by_after t.before t.kind t.bytes t.after t.whole t.count

some_len : (rest : List ℕ) → (rest ≡ [] → ⊥) → 1 ≤ length rest
some_len [] h = absurd (h refl)
some_len (b ∷ rest) h = omega arith

-- one byte more in a comment that has begun
one_byte_on : (line : ℕ) (rest held : List ℕ) (c : ℕ) → rest ≡ 47 ∷ 42 ∷ held → IsOpen held → FaultOn line (rest ++ c ∷ []) ⊎ ((before : List ℕ) × (held ≡ before ++ 42 ∷ []))
one_byte_on line rest held c e o = of (ends_with_star false held) refl (cases_lt c 128)
  where
    whole : rest ++ c ∷ [] ≡ 47 ∷ 42 ∷ (held ++ c ∷ [])
    whole = ap (λ t. t ++ c ∷ []) e

    ended : ((held ≡ []) × (false ≡ true)) ⊎ ((before : List ℕ) × (held ≡ before ++ 42 ∷ [])) → (before : List ℕ) × (held ≡ before ++ 42 ∷ [])
    ended (inl f) = absurd (let x = f.1 in cc)
    ended (inr f) = f

    of : (v : Bool) → ends_with_star false held ≡ v → (c < 128) ⊎ (128 ≤ c) → FaultOn line (rest ++ c ∷ []) ⊎ ((before : List ℕ) × (held ≡ before ++ 42 ∷ []))
    of true f l = inr (ended (before_star held false f))
    of false f (inl l) = inl (_, open_comment (held ++ c ∷ [], whole, open_of (held ++ c ∷ []) (goes_more held false c (goes held o) l (and_left (ends_with_star false held) (c == 47) f))))
    of false f (inr l) = inl (_, byte_in_block held c [] whole o l)

faulty_on : (text : List ℕ) (items : List Item) (rest : List ℕ) (d : ℕ) (more : List ℕ) (e : ProgErr) → length (text ++ d ∷ more) ≤ 262144 → IsCut text items rest → length (tokens_of 0 1 items) ≤ 65536 → IsFault (1 + lines_in (written items)) rest e → GoesOn text (d ∷ more)
faulty_on text items rest d more e s c n f = of (fault_on (1 + lines_in (written items)) rest (d ∷ more) e f)
  where
    some : 1 ≤ length rest
    some = some_len rest (some_rest (1 + lines_in (written items)) rest e f)

    cut : IsCut (text ++ d ∷ more) items (rest ++ d ∷ more)
    cut = cut_on text items rest (d ∷ more) some c

    faulty : FaultOn (1 + lines_in (written items)) (rest ++ d ∷ more) → GoesOn text (d ∷ more)
    faulty g = inl (g.0, fault items (rest ++ d ∷ more) g.0 s cut n g.1)

    opens : (missing : List ℕ) → IsOpenEnd (length (tokens_of 0 1 items)) rest missing → length missing ≤ length (d ∷ more) → GoesOn text (d ∷ more)
    opens missing o l = inr (missing, record { items = items; rest = rest; cut = c; few = n; end = o; room = omega (arith, length-append text (d ∷ more)) })

    by_string : IsOpenString rest → (length (tokens_of 0 1 items) < 65536) ⊎ (65536 ≤ length (tokens_of 0 1 items)) → GoesOn text (d ∷ more)
    by_string o (inl few) = opens (34 ∷ []) (string few o) (omega arith)
    by_string o (inr all) =
        inl (refused_at_token (text ++ d ∷ more) items 34 (o.0 ++ d ∷ more) s (subst (IsCut (text ++ d ∷ more) items) (ap (λ t. t ++ d ∷ more) o.1) cut) (omega arith) refl (no_slash 34 (o.0 ++ d ∷ more) (λ e. absurd (omega arith))))

    by_comment : (m : List ℕ) → more ≡ m → IsOpenComment rest → GoesOn text (d ∷ more)
    by_comment [] e o = last (one_byte_on (1 + lines_in (written items)) rest o.0 d o.1 o.2)
      where
        last : FaultOn (1 + lines_in (written items)) (rest ++ d ∷ []) ⊎ ((before : List ℕ) × (o.0 ≡ before ++ 42 ∷ [])) → GoesOn text (d ∷ more)
        last (inl g) = faulty (subst (λ m. FaultOn (1 + lines_in (written items)) (rest ++ d ∷ m)) (sym e) g)
        last (inr g) = opens (47 ∷ []) (star g.0 (o.1 ∙ ap (λ t. 47 ∷ 42 ∷ t) g.1) (subst IsOpen g.1 o.2)) (omega arith)
    by_comment (x ∷ m) e o = opens (42 ∷ 47 ∷ []) (comment o) (omega (arith, ap length e))

    of : FaultOn (1 + lines_in (written items)) (rest ++ d ∷ more) ⊎ (IsOpenString rest ⊎ IsOpenComment rest) → GoesOn text (d ∷ more)
    of (inl g) = faulty g
    of (inr (inl o)) = by_string o (cases_lt (length (tokens_of 0 1 items)) 65536)
    of (inr (inr o)) = by_comment more refl o

goes_on : (text more : List ℕ) (e : ProgErr) → IsRefused text e → GoesOn text more
goes_on text [] e r = inl (e, subst (λ t. IsRefused t e) (sym (append-nil text)) r)
goes_on text (d ∷ more) e r = of (cases_lt 262144 (length (text ++ d ∷ more))) e r
  where
    of : (262144 < length (text ++ d ∷ more)) ⊎ (length (text ++ d ∷ more) ≤ 262144) → (e : ProgErr) → IsRefused text e → GoesOn text (d ∷ more)
    of (inl h) e r = inl (_, long_text h)
    of (inr h) _ (long_text k) = absurd (omega (arith, length-append text (d ∷ more)))
    of (inr h) _ (fault items rest e s c n f) = faulty_on text items rest d more e h c n f
    of (inr h) _ (many_tokens items rest s c n) = many_on text items rest (d ∷ more) (omega arith) h c n

pub refused_on : (text more : List ℕ) (e : ProgErr) → IsRefused text e → ((missing : List ℕ) → EndsOpen text missing → ⊥) → (f : ProgErr) × IsRefused (text ++ more) f
refused_on text more e r h = of (goes_on text more e r)
  where
    of : GoesOn text more → (f : ProgErr) × IsRefused (text ++ more) f
    of (inl g) = g
    of (inr g) = absurd (h g.0 g.1)
