-- Messages have an exact reader, and what follows for the answers.
use Rattle.std.proofs.Common.{cond, ◌≡◌, ◌≢◌, ◌∙◌, ℕ, ◌+◌, ◌-◌, ◌<◌, Bool, true, false, List, [], ◌∷◌, ◌++◌, length, take, Result, Ok, Err, refl, sym, ap, subst, arith, true≢false, eqb-true}
use Rattle.std.specs.Prelude.{◌==◌}
use Rattle.std.proofs.lemmas.Bool.{eq-eqb, ne_eqb}
use Rattle.std.proofs.lemmas.List.{append-nil, length-append}
use Rattle.dsm_base.specs.BigEndian.{IsBytes}
use Rattle.dsm_msg.specs.declared.error.MsgErr.{MsgErr}
use Rattle.dsm_msg.specs.declared.error.MsgErr.TheVariants as errors
use Rattle.dsm_msg.specs.declared.message.Carry.{Carry}
use Rattle.dsm_msg.specs.declared.message.Msg.{Msg}
use Rattle.dsm_msg.specs.declared.message.Body.{Body}
use Rattle.dsm_fields.specs.Fields.{Field, byte, bytes_of, Any, Breaks}
use Rattle.dsm_msg.specs.Spelling.{carry_fields, body_fields, message_fields, spelling, IsMessage, kind_of, is_kind, is_proc, is_other}
use Rattle.dsm_fields.specs.Reading.{Cut, Broken, Read, then_with, kept, byte_at}
use Rattle.dsm_msg.specs.Reading.{carry_at, body_at, message_at}
use Rattle.dsm_msg.specs.Answers.{answer_of, fault_of, IsAnswer, OrMemory}
use Rattle.dsm_fields.proofs.Exact.{Exact, same_read}
use Rattle.dsm_fields.proofs.Chain.{At, chain}
use Rattle.dsm_fields.proofs.Numbers.{byte_exact, some_byte}
use Rattle.dsm_fields.proofs.Steps.{step, put, rest_of, known}
use Rattle.dsm_msg.proofs.Grammar.{carry_exact}
use Rattle.dsm_msg.proofs.Bodies.{of_kind, body_exact, kind_in_range}

abbrev no_carry : Carry
no_carry = record { turn = 0; seen = 0; records = []; lines = [] }

abbrev made : ℕ → ℕ → Carry → Body → Msg
made from to carry body = record { from = record { 0 = from }; to = record { 0 = to }; carry = carry; body = body }

abbrev OfKind : ℕ → Msg → Type 0
OfKind kind = At Any (λ m. kind_of m.body) kind

start : (kind from to : ℕ) (carry : Carry) (body : Body) → kind_of body ≡ kind → OfKind kind (made from to carry body)
start kind from to carry body e = record { is = tt; same = e }

pub message_exact : Exact Any message_fields message_at
unfolding message_at
message_exact =
    chain (λ k. is_kind k ≡ true) (λ k. byte k true ∷ []) (kept is_kind byte_at) Any (λ m. kind_of m.body)
    (λ m. byte m.from.0 (is_proc m.from.0) ∷ byte m.to.0 (is_other m.from.0 m.to.0) ∷ (carry_fields m.carry ++ body_fields m.body))
    (λ kind bytes. then_with (kept is_proc byte_at bytes) (λ from bytes. then_with (kept (is_other from) byte_at bytes) (λ to bytes. then_with (carry_at bytes) (λ carry bytes. then_with (body_at kind bytes) (λ body bytes. Ok (made from to carry body, bytes))))))
    (some_byte is_kind (λ _. true) (λ k. is_kind k ≡ true) 1 refl (λ n is e. is) (λ n e. e) (λ n e. refl))
    (λ kind is fit.
    let some = of_kind kind is in
    step (byte_exact is_proc)
    (λ from. known (λ m. byte m.to.0 (is_other m.from.0 m.to.0) ∷ (carry_fields m.carry ++ body_fields m.body))
    (λ m at. ap (λ (f : ℕ). byte m.to.0 (is_other f m.to.0) ∷ (carry_fields m.carry ++ body_fields m.body)) at.same)
    (step (byte_exact (is_other from))
    (λ to. step carry_exact
    (λ carry. rest_of (At (At (At (OfKind kind) (λ m. m.from.0) from) (λ m. m.to.0) to) (λ m. m.carry) carry) (λ m. m.body) (made from to carry) (body_exact kind is)
    (λ body e. put (put (put (start kind from to carry body e)))) (λ body. refl) (λ m at. at.is.is.is.same) (λ m at. rw (← at.same, ← at.is.same, ← at.is.is.same) refl))
    (λ carry. (made from to carry some.0, put (put (put (start kind from to carry some.0 some.1))))))
    (λ to. (made from to no_carry some.0, put (put (start kind from to no_carry some.0 some.1))))))
    (λ from. (made from 0 no_carry some.0, put (start kind from 0 no_carry some.0 some.1))))
    (λ kind is. let some = of_kind kind is in (made 0 0 no_carry some.0, start kind 0 0 no_carry some.0 some.1))
    (λ m is. kind_in_range m.body)

-- ---- the first field

not_empty : (left : ℕ) → message_at [] ≡ Err (Broken left) → ⊥
unfolding message_at byte_at
not_empty left e = absurd cc

bad_kind : (kind : ℕ) (rest : List ℕ) → is_kind kind ≡ false → message_at (kind ∷ rest) ≡ Err (Broken (length (kind ∷ rest)))
unfolding message_at byte_at
bad_kind kind rest e = rw e refl

-- a message that breaks at its first field has no kind
first_breaks : (kind : ℕ) (more : List ℕ) (front : List Field) (value : Msg) (field : Field) (back : List Field) (rest : List ℕ)
    → message_fields value ≡ front ++ field ∷ back → kind ∷ more ≡ bytes_of front ++ rest → length rest ≡ length (kind ∷ more) → (front ≡ []) × (field ≡ byte (kind_of value.body) true)
first_breaks kind more [] value field back rest parts goes same = (refl, cc)
first_breaks kind more (one ∷ front) value field back rest parts goes same =
    let is : one ≡ byte (kind_of value.body) true = cc in
    let longer : length (kind ∷ more) ≡ length (one.bytes ++ bytes_of front) + length rest = ap length goes ∙ length-append (one.bytes ++ bytes_of front) rest in
    let wide : length one.bytes ≡ 1 = ap (λ (f : Field). length f.bytes) is in
    absurd (omega (arith, longer, same, wide, length-append one.bytes (bytes_of front)))

no_kind : (kind : ℕ) (more : List ℕ) → Breaks Any message_fields (kind ∷ more) (length (kind ∷ more)) → is_kind kind ≡ false
no_kind kind more b =
    let first = first_breaks kind more b.front b.value b.field b.reaches.back b.rest b.reaches.parts b.reaches.goes (sym b.at) in
    let rest_is : kind ∷ more ≡ b.rest = b.reaches.goes ∙ ap (λ (w : List Field). bytes_of w ++ b.rest) first.0 in
    decide (is_kind kind) refl (λ is.
    let some = of_kind kind is in
    let m = made 0 0 no_carry some.0 in
    let taken : kind_of some.0 ∷ [] ≡ take (length b.field.bytes) b.rest =
    ap (λ (k : ℕ). k ∷ []) some.1 ∙ rw (first.1, ← rest_is) refl in
    absurd (true≢false (b.none m (byte (kind_of some.0) true) _ tt (ap (λ (w : List Field). w ++ message_fields m) (sym first.0)) taken)))
  where
    decide : (b : Bool) → is_kind kind ≡ b → (is_kind kind ≡ true → is_kind kind ≡ false) → is_kind kind ≡ false
    decide true e f = f e
    decide false e f = e

-- ---- the answers

faulty : (kind : ℕ) (more : List ℕ) (left : ℕ) (same : Bool) → (left == length (kind ∷ more)) ≡ same → Breaks Any message_fields (kind ∷ more) left
    → IsAnswer (Err (cond same (errors.BadKind kind) (errors.BadField (length (kind ∷ more) - left)))) (kind ∷ more)
faulty kind more left true same b =
    let is : left ≡ length (kind ∷ more) = eqb-true _ _ same in
    record { rest = more; parts = refl; no_kind = no_kind kind more (subst (Breaks Any message_fields (kind ∷ more)) is b) }
faulty kind more left false same b =
    let long : length (kind ∷ more) ≡ length (bytes_of b.front) + length b.rest = ap length b.reaches.goes ∙ length-append (bytes_of b.front) b.rest in
    let differs : left ≢ length (kind ∷ more) = λ e. true≢false (sym (eq-eqb _ _ e) ∙ same) in
    record { left = left; breaks = b; ends = omega (arith, long, b.at); behind = omega (arith, long, b.at, differs) }

at_fault : (bytes : List ℕ) (left : ℕ) → IsBytes bytes → message_at bytes ≡ Err (Broken left) → IsAnswer (Err (fault_of bytes left)) bytes
at_fault [] left small e = absurd (not_empty left e)
at_fault (kind ∷ more) left small e = faulty kind more left (left == length (kind ∷ more)) refl (message_exact.broke (kind ∷ more) left small e)

fits_read : (bytes : List ℕ) (read : Read Msg) → IsBytes bytes → message_at bytes ≡ read → IsAnswer (answer_of bytes read) bytes
fits_read bytes (Ok (msg, [])) small e =
    let t = message_exact.took bytes msg [] small e in
    record { message = t.fit; spelled = t.parts ∙ append-nil (spelling msg) }
fits_read bytes (Ok (msg, byte ∷ rest)) small e =
    let t = message_exact.took bytes msg (byte ∷ rest) small e in
    record { msg = msg; message = t.fit; rest = byte ∷ rest; parts = t.parts; counts = refl; some = omega arith }
fits_read bytes (Err (Cut left)) small e = record { left = left; cut = message_exact.cut bytes left small e }
fits_read bytes (Err (Broken left)) small e = at_fault bytes left small e

-- what reading gives fits the bytes
pub answer_fits : (bytes : List ℕ) → IsBytes bytes → IsAnswer (answer_of bytes (message_at bytes)) bytes
answer_fits bytes small = fits_read bytes (message_at bytes) small refl

rest_of_read : (bytes : List ℕ) (msg : Msg) (rest : List ℕ) → 0 < length rest → answer_of bytes (Ok (msg, rest)) ≡ Err (errors.Rest (length rest))
rest_of_read bytes msg [] some = absurd (omega (arith, some))
rest_of_read bytes msg (byte ∷ rest) some = refl

kind_fault : (kind : ℕ) (rest : List ℕ) → fault_of (kind ∷ rest) (length (kind ∷ rest)) ≡ errors.BadKind kind
kind_fault kind rest = rw (eq-eqb (length (kind ∷ rest)) (length (kind ∷ rest)) refl) refl

field_fault : (bytes : List ℕ) (place left : ℕ) → place + left ≡ length bytes → 0 < place → fault_of bytes left ≡ errors.BadField place
field_fault [] place left e behind = absurd (omega (arith, e))
field_fault (kind ∷ more) place left e behind =
    let differs : (left == length (kind ∷ more)) ≡ false = ne_eqb _ _ (λ same. absurd (omega (arith, e, same, behind))) in
    let is : length (kind ∷ more) - left ≡ place = omega (arith, e) in
    rw differs (ap (λ (n : ℕ). errors.BadField n) is)

-- what fits the bytes is what reading gives
pub only_answer : (answer : Result Msg MsgErr) (bytes : List ℕ) → IsBytes bytes → IsAnswer answer bytes → answer_of bytes (message_at bytes) ≡ answer
only_answer (Ok msg) bytes small fits =
    let read : message_at bytes ≡ Ok (msg, []) = ap message_at (fits.spelled ∙ sym (append-nil (spelling msg))) ∙ message_exact.again msg [] tt fits.message in
    ap (answer_of bytes) read
only_answer (Err errors.Short) bytes small fits = ap (answer_of bytes) (message_exact.ends bytes fits.left small fits.cut)
only_answer (Err (errors.BadKind kind)) bytes small fits =
    let read : message_at bytes ≡ Err (Broken (length (kind ∷ fits.rest))) = ap message_at fits.parts ∙ bad_kind kind fits.rest fits.no_kind in
    ap (answer_of bytes) read ∙ ap (λ (w : List ℕ). let answer : Result Msg MsgErr = Err (fault_of w (length (kind ∷ fits.rest))) in answer) fits.parts ∙ ap (λ (e : MsgErr). let answer : Result Msg MsgErr = Err e in answer) (kind_fault kind fits.rest)
only_answer (Err (errors.BadField place)) bytes small fits =
    ap (answer_of bytes) (message_exact.breaks bytes fits.left small fits.breaks) ∙ ap (λ (e : MsgErr). let answer : Result Msg MsgErr = Err e in answer) (field_fault bytes place fits.left fits.ends fits.behind)
only_answer (Err (errors.Rest count)) bytes small fits =
    let read : message_at bytes ≡ Ok (fits.msg, fits.rest) = ap message_at fits.parts ∙ message_exact.again fits.msg fits.rest tt fits.message in
    ap (answer_of bytes) read ∙ rest_of_read bytes fits.msg fits.rest (subst (λ (n : ℕ). 0 < n) fits.counts fits.some) ∙ ap (λ (n : ℕ). let answer : Result Msg MsgErr = Err (errors.Rest n) in answer) (sym fits.counts)
only_answer (Err errors.Memory) bytes small fits = absurd fits

-- no spelling begins another's
pub no_prefix : (a b : Msg) (rest : List ℕ) → IsMessage a → IsMessage b → spelling a ++ rest ≡ spelling b → (a ≡ b) × (rest ≡ [])
no_prefix a b rest fita fitb e =
    same_read (message_at (spelling a ++ rest)) a b rest [] (message_exact.again a rest tt fita)
    (ap message_at (e ∙ sym (append-nil (spelling b))) ∙ message_exact.again b [] tt fitb)

-- ---- out of memory, or else

pub or_weaker : {P Q : Type 0} (result : Result Msg MsgErr) → (P → Q) → OrMemory result P → OrMemory result Q
or_weaker (Ok msg) f p = f p
or_weaker (Err errors.Short) f p = f p
or_weaker (Err (errors.BadKind kind)) f p = f p
or_weaker (Err (errors.BadField place)) f p = f p
or_weaker (Err (errors.Rest count)) f p = f p
or_weaker (Err errors.Memory) f p = tt
