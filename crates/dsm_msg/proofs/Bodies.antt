-- Each kind of body has an exact reader.
use Rattle.std.proofs.Common.{replicate, ◌≡◌, ◌∙◌, ℕ, zero, suc, ◌≤◌, true, List, [], ◌∷◌, ◌++◌, length, Option, None, option_map, Ok, Err, refl, sym, ap, subst, arith, true≢false}
use Rattle.std.specs.Prelude.{nat_le}
use Rattle.std.proofs.lemmas.List.{length-replicate}
use Rattle.dsm_base.specs.declared.names.Mode.{Mode}
use Rattle.dsm_base.specs.declared.names.Mode.TheVariants.{Shared}
use Rattle.dsm_base.specs.declared.lists.LockNumber.{LockNumber}
use Rattle.dsm_base.specs.declared.lists.BarNumber.{BarNumber}
use Rattle.dsm_lines.specs.declared.list.Line.{Line}
use Rattle.dsm_msg.specs.declared.message.Report.{Report}
use Rattle.dsm_msg.specs.declared.message.TurnBody.{TurnBody}
use Rattle.dsm_msg.specs.declared.message.Body.{Body}
use Rattle.dsm_msg.specs.declared.message.Body.TheVariants as bodies
use Rattle.dsm_msg.specs.declared.message.Body.TheOpen as layer
use Rattle.dsm_msg.specs.declared.message.Body.TheViews.{out-Body, roll-Body, roll-out-Body}
use Rattle.dsm_fields.specs.Fields.{Any, Field, number, byte, mode_number, is_over, entries, counted}
use Rattle.dsm_msg.specs.Spelling.{Layer, line_fields, lock_number_fields, bar_number_fields, turn_body_fields, report_fields, asking_fields, layer_fields, body_fields, kind_of, kind_of_layer, may_give, is_kind, is_asking}
use Rattle.dsm_fields.specs.Reading.{Read, then_with, kept, number_at, byte_at, mode_at, counted_at, entries_at}
use Rattle.dsm_msg.specs.Reading.{line_at, lock_number_at, bar_number_at, turn_body_at, req_at, grant_body_at, given_at, release_at, arrive_at, opened_at, asking_at, resync_at, report_body_at, pruned_at, body_at}
use Rattle.std.proofs.lemmas.Bool.{leb-true}
use Rattle.std.proofs.lemmas.Bool.Decides.{nat_tests}
use Rattle.dsm_fields.proofs.Exact.{Exact, done, both_true}
use Rattle.dsm_fields.proofs.Chain.{At, chain}
use Rattle.dsm_fields.proofs.Formats.{Has, reworded, of_part, listed, counted_list}
use Rattle.dsm_msg.proofs.Layers.{out_req, out_grant, out_release, out_arrive, out_opened, out_note, out_ack, out_resync, out_report, out_pruned}
use Rattle.dsm_fields.proofs.Numbers.{number_exact, any_number, any_byte, some_byte, mode_exact}
use Rattle.dsm_fields.proofs.Steps.{step, put, rest_of, known}
use Rattle.dsm_msg.proofs.Grammar.{no_line, line_exact, lines_exact, lock_number_exact, bar_number_exact, report_exact}

abbrev pub IsKind : ℕ → Body → Type 0
IsKind kind body = kind_of body ≡ kind

-- ---- readers in steps, put together otherwise

read_one : {A P Z : Type 0} (r : Read A) (make : A → P) (last : P → Z)
    → then_with (then_with r (λ a rest. let read : Read P = Ok (make a, rest) in read)) (λ p rest. let read : Read Z = Ok (last p, rest) in read) ≡ then_with r (λ a rest. Ok (last (make a), rest))
read_one (Ok x) make last = refl
read_one (Err fault) make last = refl

read_two : {A B P Z : Type 0} (r : Read A) (s : A → List ℕ → Read B) (make : A → B → P) (last : P → Z)
    → then_with (then_with r (λ a rest. then_with (s a rest) (λ b rest. let read : Read P = Ok (make a b, rest) in read))) (λ p rest. let read : Read Z = Ok (last p, rest) in read)
    ≡ then_with r (λ a rest. then_with (s a rest) (λ b rest. Ok (last (make a b), rest)))
read_two (Ok x) s make last = read_one (s x.0 x.1) (make x.0) last
read_two (Err fault) s make last = refl

read_three : {A B C P Z : Type 0} (r : Read A) (s : A → List ℕ → Read B) (t : A → B → List ℕ → Read C) (make : A → B → C → P) (last : P → Z)
    → then_with (then_with r (λ a rest. then_with (s a rest) (λ b rest. then_with (t a b rest) (λ c rest. let read : Read P = Ok (make a b c, rest) in read)))) (λ p rest. let read : Read Z = Ok (last p, rest) in read)
    ≡ then_with r (λ a rest. then_with (s a rest) (λ b rest. then_with (t a b rest) (λ c rest. Ok (last (make a b c), rest))))
read_three (Ok x) s t make last = read_two (s x.0 x.1) (t x.0) (make x.0) last
read_three (Err fault) s t make last = refl

read_four : {A B C D P Z : Type 0} (r : Read A) (s : A → List ℕ → Read B) (t : A → B → List ℕ → Read C) (u : A → B → C → List ℕ → Read D) (make : A → B → C → D → P) (last : P → Z)
    → then_with (then_with r (λ a rest. then_with (s a rest) (λ b rest. then_with (t a b rest) (λ c rest. then_with (u a b c rest) (λ d rest. let read : Read P = Ok (make a b c d, rest) in read))))) (λ p rest. let read : Read Z = Ok (last p, rest) in read)
    ≡ then_with r (λ a rest. then_with (s a rest) (λ b rest. then_with (t a b rest) (λ c rest. then_with (u a b c rest) (λ d rest. Ok (last (make a b c d), rest)))))
read_four (Ok x) s t u make last = read_three (s x.0 x.1) (t x.0) (u x.0) (make x.0) last
read_four (Err fault) s t u make last = refl

read_five : {A B C D E P Z : Type 0} (r : Read A) (s : A → List ℕ → Read B) (t : A → B → List ℕ → Read C) (u : A → B → C → List ℕ → Read D) (v : A → B → C → D → List ℕ → Read E) (make : A → B → C → D → E → P) (last : P → Z)
    → then_with (then_with r (λ a rest. then_with (s a rest) (λ b rest. then_with (t a b rest) (λ c rest. then_with (u a b c rest) (λ d rest. then_with (v a b c d rest) (λ e rest. let read : Read P = Ok (make a b c d e, rest) in read)))))) (λ p rest. let read : Read Z = Ok (last p, rest) in read)
    ≡ then_with r (λ a rest. then_with (s a rest) (λ b rest. then_with (t a b rest) (λ c rest. then_with (u a b c rest) (λ d rest. then_with (v a b c d rest) (λ e rest. Ok (last (make a b c d e), rest))))))
read_five (Ok x) s t u v make last = read_four (s x.0 x.1) (t x.0) (u x.0) (v x.0) (make x.0) last
read_five (Err fault) s t u v make last = refl

-- read as the other reader reads
reads_so : {A : Type 0} {Is : A → Type 0} {fields : A → List Field} {f g : List ℕ → Read A} → ((bytes : List ℕ) → f bytes ≡ g bytes) → Exact Is fields f → Exact Is fields g
reads_so {A} {Is} {fields} same e = subst (Exact Is fields) (λ i bytes. same bytes i) e

-- a body made of parts
record Makes {P : Type 0} (kind : ℕ) (make : P → Body) (from : Body → P) : Type 0 where
  is : (p : P) → kind_of (make p) ≡ kind
  back : (p : P) → from (make p) ≡ p
  one : (b : Body) → kind_of b ≡ kind → b ≡ make (from b)

body_of : {P : Type 0} {kind : ℕ} {make : P → Body} {from : Body → P} {fp : P → List Field} {rp : List ℕ → Read P} (fields : Body → List Field)
    → Makes kind make from → ((b : Body) → IsKind kind b → fields b ≡ fp (from b)) → Exact Any fp rp → Exact (IsKind kind) fields (λ bytes. then_with (rp bytes) (λ p rest. Ok (make p, rest)))
body_of {P} {kind} {make} {from} {fp} {rp} fields makes same e =
    known fields same (of_part Any fp rp (IsKind kind) from make e (λ p is. makes.is p) makes.back (λ b is. tt) makes.one)

-- a body is its layer
whole : (body : Body) (x : Layer) (made : Body) → out-Body body ≡ x → out-Body made ≡ x → body ≡ made
whole body x made one two = sym (roll-out-Body body) ∙ ap roll-Body (one ∙ sym two) ∙ roll-out-Body made

-- the lines that a hold gives back
abbrev given_fields : Mode → List Line → List Field
given_fields mode lines = number 4 (length lines) (may_give mode (length lines)) ∷ entries line_fields None lines

given_exact : (mode : Mode) → Exact Any (given_fields mode) (given_at mode)
unfolding given_at
given_exact mode =
    chain Any (λ n. number 4 n (may_give mode n) ∷ []) (kept (may_give mode) (number_at 4)) Any length (entries line_fields None) (λ count bytes. entries_at line_at None count bytes) (number_exact 4 (may_give mode))
    (λ count is fit. reworded (Has count) (At Any length count) (entries line_fields None) (entries line_fields None) (entries_at line_at None count)
    (λ a len. record { is = tt; same = len }) (λ a at. at.same) (λ a at. refl) (listed no_line line_fields line_at line_exact count None))
    (λ count is. (replicate count no_line, record { is = tt; same = length-replicate count no_line }))
    (λ z is. tt)

-- ---- kind 1

record Reqs : Type 0 where
  lock : ℕ
  mode : Mode
  have : ℕ

abbrev req_fields : Reqs → List Field
req_fields p = number 2 p.lock true ∷ byte (mode_number p.mode) true ∷ number 4 p.have true ∷ []

abbrev req_body : Reqs → Body
req_body p = bodies.Req (record { 0 = p.lock }) p.mode p.have

abbrev req_parts : Layer → Reqs
req_parts (layer.Req lock mode have) = record { lock = lock.0; mode = mode; have = have }
req_parts other = record { lock = 0; mode = Shared; have = 0 }

req_one : (x : Layer) → kind_of_layer x ≡ 1 → x ≡ (let p = req_parts x in layer.Req (record { 0 = p.lock }) p.mode p.have)
req_one (layer.Req lock mode have) e = refl
req_one other e = absurd (omega (arith, e))

req_same : (x : Layer) → kind_of_layer x ≡ 1 → layer_fields x ≡ req_fields (req_parts x)
req_same (layer.Req lock mode have) e = refl
req_same other e = absurd (omega (arith, e))

req_asks : (x : Layer) → kind_of_layer x ≡ 1 → asking_fields x ≡ req_fields (req_parts x)
req_asks (layer.Req lock mode have) e = refl
req_asks other e = absurd (omega (arith, e))

req_makes : Makes 1 req_body (λ b. req_parts (out-Body b))
req_makes = record {
  is = λ p. ap kind_of_layer (out_req (record { 0 = p.lock }) p.mode p.have);
  back = λ p. ap req_parts (out_req (record { 0 = p.lock }) p.mode p.have);
  one = λ b e. whole b _ (req_body (req_parts (out-Body b))) (req_one (out-Body b) e) (let p = req_parts (out-Body b) in out_req (record { 0 = p.lock }) p.mode p.have);
}

abbrev req_parts_at : List ℕ → Read Reqs
req_parts_at bytes = then_with (number_at 2 bytes) (λ lock bytes. then_with (mode_at bytes) (λ mode bytes. then_with (number_at 4 bytes) (λ have bytes. Ok (record { lock = lock; mode = mode; have = have }, bytes))))

req_parts_exact : Exact Any req_fields req_parts_at
req_parts_exact =
    let made : ℕ → Mode → ℕ → Reqs = (λ lock mode have. record { lock = lock; mode = mode; have = have }) in
    step (any_number 2)
    (λ lock. step (mode_exact)
    (λ mode. step (any_number 4)
    (λ have. done (At (At (At Any (λ p. p.lock) lock) (λ p. p.mode) mode) (λ p. p.have) have) (made lock mode have) (put (put (put tt))) (λ p at. rw (← at.same, ← at.is.same, ← at.is.is.same) refl))
    (λ have. (made lock mode have, put (put (put tt)))))
    (λ mode. (made lock mode 0, put (put tt))))
    (λ lock. (made lock Shared 0, put tt))

req_reads : (bytes : List ℕ) → then_with (req_parts_at bytes) (λ p rest. Ok (req_body p, rest)) ≡ req_at bytes
unfolding req_at
req_reads bytes =
    let made : ℕ → Mode → ℕ → Reqs = (λ lock mode have. record { lock = lock; mode = mode; have = have }) in
    read_three (number_at 2 bytes) (λ lock rest. mode_at rest) (λ lock mode rest. number_at 4 rest) made (λ p. req_body p)

req_exact : Exact (IsKind 1) body_fields req_at
req_exact = reads_so req_reads (body_of body_fields req_makes (λ b e. req_same (out-Body b) e) req_parts_exact)

req_asking : Exact (IsKind 1) (λ b. asking_fields (out-Body b)) req_at
req_asking = reads_so req_reads (body_of (λ b. asking_fields (out-Body b)) req_makes (λ b e. req_asks (out-Body b) e) req_parts_exact)

-- ---- kind 2

record Granteds : Type 0 where
  lock : ℕ
  mode : Mode
  turn : ℕ
  version : ℕ
  lines : List Line

abbrev grant_fields : Granteds → List Field
grant_fields p = number 2 p.lock true ∷ byte (mode_number p.mode) true ∷ number 4 p.turn true ∷ number 4 p.version true ∷ counted line_fields p.lines

abbrev grant_body : Granteds → Body
grant_body p = bodies.Grant (record { 0 = p.lock }) p.mode p.turn p.version p.lines

abbrev grant_parts : Layer → Granteds
grant_parts (layer.Grant lock mode turn version lines) = record { lock = lock.0; mode = mode; turn = turn; version = version; lines = lines }
grant_parts other = record { lock = 0; mode = Shared; turn = 0; version = 0; lines = [] }

grant_one : (x : Layer) → kind_of_layer x ≡ 2 → x ≡ (let p = grant_parts x in layer.Grant (record { 0 = p.lock }) p.mode p.turn p.version p.lines)
grant_one (layer.Grant lock mode turn version lines) e = refl
grant_one other e = absurd (omega (arith, e))

grant_same : (x : Layer) → kind_of_layer x ≡ 2 → layer_fields x ≡ grant_fields (grant_parts x)
grant_same (layer.Grant lock mode turn version lines) e = refl
grant_same other e = absurd (omega (arith, e))

grant_makes : Makes 2 grant_body (λ b. grant_parts (out-Body b))
grant_makes = record {
  is = λ p. ap kind_of_layer (out_grant (record { 0 = p.lock }) p.mode p.turn p.version p.lines);
  back = λ p. ap grant_parts (out_grant (record { 0 = p.lock }) p.mode p.turn p.version p.lines);
  one = λ b e. whole b _ (grant_body (grant_parts (out-Body b))) (grant_one (out-Body b) e) (let p = grant_parts (out-Body b) in out_grant (record { 0 = p.lock }) p.mode p.turn p.version p.lines);
}

abbrev grant_parts_at : List ℕ → Read Granteds
grant_parts_at bytes = then_with (number_at 2 bytes) (λ lock bytes. then_with (mode_at bytes) (λ mode bytes. then_with (number_at 4 bytes) (λ turn bytes. then_with (number_at 4 bytes) (λ version bytes. then_with (counted_at line_at bytes) (λ lines bytes. Ok (record { lock = lock; mode = mode; turn = turn; version = version; lines = lines }, bytes))))))

grant_parts_exact : Exact Any grant_fields grant_parts_at
grant_parts_exact =
    let made : ℕ → Mode → ℕ → ℕ → List Line → Granteds = (λ lock mode turn version lines. record { lock = lock; mode = mode; turn = turn; version = version; lines = lines }) in
    step (any_number 2)
    (λ lock. step (mode_exact)
    (λ mode. step (any_number 4)
    (λ turn. step (any_number 4)
    (λ version. rest_of (At (At (At (At Any (λ p. p.lock) lock) (λ p. p.mode) mode) (λ p. p.turn) turn) (λ p. p.version) version) (λ p. p.lines) (made lock mode turn version) (lines_exact) (λ a is. put (put (put (put tt)))) (λ a. refl) (λ p at. tt) (λ p at. rw (← at.same, ← at.is.same, ← at.is.is.same, ← at.is.is.is.same) refl))
    (λ version. (made lock mode turn version [], put (put (put (put tt))))))
    (λ turn. (made lock mode turn 0 [], put (put (put tt)))))
    (λ mode. (made lock mode 0 0 [], put (put tt))))
    (λ lock. (made lock Shared 0 0 [], put tt))

grant_reads : (bytes : List ℕ) → then_with (grant_parts_at bytes) (λ p rest. Ok (grant_body p, rest)) ≡ grant_body_at bytes
unfolding grant_body_at
grant_reads bytes =
    let made : ℕ → Mode → ℕ → ℕ → List Line → Granteds = (λ lock mode turn version lines. record { lock = lock; mode = mode; turn = turn; version = version; lines = lines }) in
    read_five (number_at 2 bytes) (λ lock rest. mode_at rest) (λ lock mode rest. number_at 4 rest) (λ lock mode turn rest. number_at 4 rest) (λ lock mode turn version rest. counted_at line_at rest) made (λ p. grant_body p)

grant_exact : Exact (IsKind 2) body_fields grant_body_at
grant_exact = reads_so grant_reads (body_of body_fields grant_makes (λ b e. grant_same (out-Body b) e) grant_parts_exact)

-- ---- kind 4

record Arriveds : Type 0 where
  bar : ℕ
  epoch : ℕ
  lines : List Line

abbrev arrive_fields : Arriveds → List Field
arrive_fields p = byte p.bar true ∷ number 4 p.epoch true ∷ counted line_fields p.lines

abbrev arrive_body : Arriveds → Body
arrive_body p = bodies.Arrive (record { 0 = p.bar }) p.epoch p.lines

abbrev arrive_parts : Layer → Arriveds
arrive_parts (layer.Arrive bar epoch lines) = record { bar = bar.0; epoch = epoch; lines = lines }
arrive_parts other = record { bar = 0; epoch = 0; lines = [] }

arrive_one : (x : Layer) → kind_of_layer x ≡ 4 → x ≡ (let p = arrive_parts x in layer.Arrive (record { 0 = p.bar }) p.epoch p.lines)
arrive_one (layer.Arrive bar epoch lines) e = refl
arrive_one other e = absurd (omega (arith, e))

arrive_same : (x : Layer) → kind_of_layer x ≡ 4 → layer_fields x ≡ arrive_fields (arrive_parts x)
arrive_same (layer.Arrive bar epoch lines) e = refl
arrive_same other e = absurd (omega (arith, e))

arrive_asks : (x : Layer) → kind_of_layer x ≡ 4 → asking_fields x ≡ arrive_fields (arrive_parts x)
arrive_asks (layer.Arrive bar epoch lines) e = refl
arrive_asks other e = absurd (omega (arith, e))

arrive_makes : Makes 4 arrive_body (λ b. arrive_parts (out-Body b))
arrive_makes = record {
  is = λ p. ap kind_of_layer (out_arrive (record { 0 = p.bar }) p.epoch p.lines);
  back = λ p. ap arrive_parts (out_arrive (record { 0 = p.bar }) p.epoch p.lines);
  one = λ b e. whole b _ (arrive_body (arrive_parts (out-Body b))) (arrive_one (out-Body b) e) (let p = arrive_parts (out-Body b) in out_arrive (record { 0 = p.bar }) p.epoch p.lines);
}

abbrev arrive_parts_at : List ℕ → Read Arriveds
arrive_parts_at bytes = then_with (byte_at bytes) (λ bar bytes. then_with (number_at 4 bytes) (λ epoch bytes. then_with (counted_at line_at bytes) (λ lines bytes. Ok (record { bar = bar; epoch = epoch; lines = lines }, bytes))))

arrive_parts_exact : Exact Any arrive_fields arrive_parts_at
arrive_parts_exact =
    let made : ℕ → ℕ → List Line → Arriveds = (λ bar epoch lines. record { bar = bar; epoch = epoch; lines = lines }) in
    step (any_byte)
    (λ bar. step (any_number 4)
    (λ epoch. rest_of (At (At Any (λ p. p.bar) bar) (λ p. p.epoch) epoch) (λ p. p.lines) (made bar epoch) (lines_exact) (λ a is. put (put tt)) (λ a. refl) (λ p at. tt) (λ p at. rw (← at.same, ← at.is.same) refl))
    (λ epoch. (made bar epoch [], put (put tt))))
    (λ bar. (made bar 0 [], put tt))

arrive_reads : (bytes : List ℕ) → then_with (arrive_parts_at bytes) (λ p rest. Ok (arrive_body p, rest)) ≡ arrive_at bytes
unfolding arrive_at
arrive_reads bytes =
    let made : ℕ → ℕ → List Line → Arriveds = (λ bar epoch lines. record { bar = bar; epoch = epoch; lines = lines }) in
    read_three (byte_at bytes) (λ bar rest. number_at 4 rest) (λ bar epoch rest. counted_at line_at rest) made (λ p. arrive_body p)

arrive_exact : Exact (IsKind 4) body_fields arrive_at
arrive_exact = reads_so arrive_reads (body_of body_fields arrive_makes (λ b e. arrive_same (out-Body b) e) arrive_parts_exact)

arrive_asking : Exact (IsKind 4) (λ b. asking_fields (out-Body b)) arrive_at
arrive_asking = reads_so arrive_reads (body_of (λ b. asking_fields (out-Body b)) arrive_makes (λ b e. arrive_asks (out-Body b) e) arrive_parts_exact)

-- ---- kind 5

record Openeds : Type 0 where
  bar : ℕ
  epoch : ℕ
  lines : List Line

abbrev opened_fields : Openeds → List Field
opened_fields p = byte p.bar true ∷ number 4 p.epoch true ∷ counted line_fields p.lines

abbrev opened_body : Openeds → Body
opened_body p = bodies.Opened (record { 0 = p.bar }) p.epoch p.lines

abbrev opened_parts : Layer → Openeds
opened_parts (layer.Opened bar epoch lines) = record { bar = bar.0; epoch = epoch; lines = lines }
opened_parts other = record { bar = 0; epoch = 0; lines = [] }

opened_one : (x : Layer) → kind_of_layer x ≡ 5 → x ≡ (let p = opened_parts x in layer.Opened (record { 0 = p.bar }) p.epoch p.lines)
opened_one (layer.Opened bar epoch lines) e = refl
opened_one other e = absurd (omega (arith, e))

opened_same : (x : Layer) → kind_of_layer x ≡ 5 → layer_fields x ≡ opened_fields (opened_parts x)
opened_same (layer.Opened bar epoch lines) e = refl
opened_same other e = absurd (omega (arith, e))

opened_makes : Makes 5 opened_body (λ b. opened_parts (out-Body b))
opened_makes = record {
  is = λ p. ap kind_of_layer (out_opened (record { 0 = p.bar }) p.epoch p.lines);
  back = λ p. ap opened_parts (out_opened (record { 0 = p.bar }) p.epoch p.lines);
  one = λ b e. whole b _ (opened_body (opened_parts (out-Body b))) (opened_one (out-Body b) e) (let p = opened_parts (out-Body b) in out_opened (record { 0 = p.bar }) p.epoch p.lines);
}

abbrev opened_parts_at : List ℕ → Read Openeds
opened_parts_at bytes = then_with (byte_at bytes) (λ bar bytes. then_with (number_at 4 bytes) (λ epoch bytes. then_with (counted_at line_at bytes) (λ lines bytes. Ok (record { bar = bar; epoch = epoch; lines = lines }, bytes))))

opened_parts_exact : Exact Any opened_fields opened_parts_at
opened_parts_exact =
    let made : ℕ → ℕ → List Line → Openeds = (λ bar epoch lines. record { bar = bar; epoch = epoch; lines = lines }) in
    step (any_byte)
    (λ bar. step (any_number 4)
    (λ epoch. rest_of (At (At Any (λ p. p.bar) bar) (λ p. p.epoch) epoch) (λ p. p.lines) (made bar epoch) (lines_exact) (λ a is. put (put tt)) (λ a. refl) (λ p at. tt) (λ p at. rw (← at.same, ← at.is.same) refl))
    (λ epoch. (made bar epoch [], put (put tt))))
    (λ bar. (made bar 0 [], put tt))

opened_reads : (bytes : List ℕ) → then_with (opened_parts_at bytes) (λ p rest. Ok (opened_body p, rest)) ≡ opened_at bytes
unfolding opened_at
opened_reads bytes =
    let made : ℕ → ℕ → List Line → Openeds = (λ bar epoch lines. record { bar = bar; epoch = epoch; lines = lines }) in
    read_three (byte_at bytes) (λ bar rest. number_at 4 rest) (λ bar epoch rest. counted_at line_at rest) made (λ p. opened_body p)

opened_exact : Exact (IsKind 5) body_fields opened_at
opened_exact = reads_so opened_reads (body_of body_fields opened_makes (λ b e. opened_same (out-Body b) e) opened_parts_exact)

-- ---- kind 10

record Pruneds : Type 0 where
  turn : ℕ
  versions : List LockNumber
  crossings : List BarNumber

abbrev pruned_fields : Pruneds → List Field
pruned_fields p = number 4 p.turn true ∷ (counted lock_number_fields p.versions ++ counted bar_number_fields p.crossings)

abbrev pruned_body : Pruneds → Body
pruned_body p = bodies.Pruned p.turn p.versions p.crossings

abbrev pruned_parts : Layer → Pruneds
pruned_parts (layer.Pruned turn versions crossings) = record { turn = turn; versions = versions; crossings = crossings }
pruned_parts other = record { turn = 0; versions = []; crossings = [] }

pruned_one : (x : Layer) → kind_of_layer x ≡ 10 → x ≡ (let p = pruned_parts x in layer.Pruned p.turn p.versions p.crossings)
pruned_one (layer.Pruned turn versions crossings) e = refl
pruned_one other e = absurd (omega (arith, e))

pruned_same : (x : Layer) → kind_of_layer x ≡ 10 → layer_fields x ≡ pruned_fields (pruned_parts x)
pruned_same (layer.Pruned turn versions crossings) e = refl
pruned_same other e = absurd (omega (arith, e))

pruned_makes : Makes 10 pruned_body (λ b. pruned_parts (out-Body b))
pruned_makes = record {
  is = λ p. ap kind_of_layer (out_pruned p.turn p.versions p.crossings);
  back = λ p. ap pruned_parts (out_pruned p.turn p.versions p.crossings);
  one = λ b e. whole b _ (pruned_body (pruned_parts (out-Body b))) (pruned_one (out-Body b) e) (let p = pruned_parts (out-Body b) in out_pruned p.turn p.versions p.crossings);
}

abbrev pruned_parts_at : List ℕ → Read Pruneds
pruned_parts_at bytes = then_with (number_at 4 bytes) (λ turn bytes. then_with (counted_at lock_number_at bytes) (λ versions bytes. then_with (counted_at bar_number_at bytes) (λ crossings bytes. Ok (record { turn = turn; versions = versions; crossings = crossings }, bytes))))

pruned_parts_exact : Exact Any pruned_fields pruned_parts_at
pruned_parts_exact =
    let made : ℕ → List LockNumber → List BarNumber → Pruneds = (λ turn versions crossings. record { turn = turn; versions = versions; crossings = crossings }) in
    step (any_number 4)
    (λ turn. step (counted_list (record { lock = record { 0 = 0 }; number = 0 }) lock_number_fields lock_number_at (any_number 4) lock_number_exact)
    (λ versions. rest_of (At (At Any (λ p. p.turn) turn) (λ p. p.versions) versions) (λ p. p.crossings) (made turn versions) (counted_list (record { bar = record { 0 = 0 }; number = 0 }) bar_number_fields bar_number_at (any_number 4) bar_number_exact) (λ a is. put (put tt)) (λ a. refl) (λ p at. tt) (λ p at. rw (← at.same, ← at.is.same) refl))
    (λ versions. (made turn versions [], put (put tt))))
    (λ turn. (made turn [] [], put tt))

pruned_reads : (bytes : List ℕ) → then_with (pruned_parts_at bytes) (λ p rest. Ok (pruned_body p, rest)) ≡ pruned_at bytes
unfolding pruned_at
pruned_reads bytes =
    let made : ℕ → List LockNumber → List BarNumber → Pruneds = (λ turn versions crossings. record { turn = turn; versions = versions; crossings = crossings }) in
    read_three (number_at 4 bytes) (λ turn rest. counted_at lock_number_at rest) (λ turn versions rest. counted_at bar_number_at rest) made (λ p. pruned_body p)

pruned_exact : Exact (IsKind 10) body_fields pruned_at
pruned_exact = reads_so pruned_reads (body_of body_fields pruned_makes (λ b e. pruned_same (out-Body b) e) pruned_parts_exact)

-- ---- kind 3

record Releaseds : Type 0 where
  lock : ℕ
  mode : Mode
  version : ℕ
  lines : List Line

abbrev release_fields : Releaseds → List Field
release_fields p = number 2 p.lock true ∷ byte (mode_number p.mode) true ∷ number 4 p.version true ∷ given_fields p.mode p.lines

abbrev release_body : Releaseds → Body
release_body p = bodies.Release (record { 0 = p.lock }) p.mode p.version p.lines

abbrev release_parts : Layer → Releaseds
release_parts (layer.Release lock mode version lines) = record { lock = lock.0; mode = mode; version = version; lines = lines }
release_parts other = record { lock = 0; mode = Shared; version = 0; lines = [] }

release_one : (x : Layer) → kind_of_layer x ≡ 3 → x ≡ (let p = release_parts x in layer.Release (record { 0 = p.lock }) p.mode p.version p.lines)
release_one (layer.Release lock mode version lines) e = refl
release_one other e = absurd (omega (arith, e))

release_same : (x : Layer) → kind_of_layer x ≡ 3 → layer_fields x ≡ release_fields (release_parts x)
release_same (layer.Release lock mode version lines) e = refl
release_same other e = absurd (omega (arith, e))

release_asks : (x : Layer) → kind_of_layer x ≡ 3 → asking_fields x ≡ release_fields (release_parts x)
release_asks (layer.Release lock mode version lines) e = refl
release_asks other e = absurd (omega (arith, e))

release_makes : Makes 3 release_body (λ b. release_parts (out-Body b))
release_makes = record {
  is = λ p. ap kind_of_layer (out_release (record { 0 = p.lock }) p.mode p.version p.lines);
  back = λ p. ap release_parts (out_release (record { 0 = p.lock }) p.mode p.version p.lines);
  one = λ b e. whole b _ (release_body (release_parts (out-Body b))) (release_one (out-Body b) e) (let p = release_parts (out-Body b) in out_release (record { 0 = p.lock }) p.mode p.version p.lines);
}

abbrev release_parts_at : List ℕ → Read Releaseds
release_parts_at bytes = then_with (number_at 2 bytes) (λ lock bytes. then_with (mode_at bytes) (λ mode bytes. then_with (number_at 4 bytes) (λ version bytes. then_with (given_at mode bytes) (λ lines bytes. Ok (record { lock = lock; mode = mode; version = version; lines = lines }, bytes)))))

release_parts_exact : Exact Any release_fields release_parts_at
release_parts_exact =
    let made : ℕ → Mode → ℕ → List Line → Releaseds = (λ lock mode version lines. record { lock = lock; mode = mode; version = version; lines = lines }) in
    step (any_number 2)
    (λ lock. step (mode_exact)
    (λ mode. step (any_number 4)
    (λ version. known (λ p. given_fields p.mode p.lines) (λ p at. ap (λ (m : Mode). given_fields m p.lines) at.is.same)
    (rest_of (At (At (At Any (λ p. p.lock) lock) (λ p. p.mode) mode) (λ p. p.version) version) (λ p. p.lines) (made lock mode version) (given_exact mode) (λ a is. put (put (put tt))) (λ a. refl) (λ p at. tt) (λ p at. rw (← at.same, ← at.is.same, ← at.is.is.same) refl)))
    (λ version. (made lock mode version [], put (put (put tt)))))
    (λ mode. (made lock mode 0 [], put (put tt))))
    (λ lock. (made lock Shared 0 [], put tt))

release_reads : (bytes : List ℕ) → then_with (release_parts_at bytes) (λ p rest. Ok (release_body p, rest)) ≡ release_at bytes
unfolding release_at
release_reads bytes =
    let made : ℕ → Mode → ℕ → List Line → Releaseds = (λ lock mode version lines. record { lock = lock; mode = mode; version = version; lines = lines }) in
    read_four (number_at 2 bytes) (λ lock rest. mode_at rest) (λ lock mode rest. number_at 4 rest) (λ lock mode version rest. given_at mode rest) made (λ p. release_body p)

release_exact : Exact (IsKind 3) body_fields release_at
release_exact = reads_so release_reads (body_of body_fields release_makes (λ b e. release_same (out-Body b) e) release_parts_exact)

release_asking : Exact (IsKind 3) (λ b. asking_fields (out-Body b)) release_at
release_asking = reads_so release_reads (body_of (λ b. asking_fields (out-Body b)) release_makes (λ b e. release_asks (out-Body b) e) release_parts_exact)

-- ---- the other kinds

note_one : (x : Layer) → kind_of_layer x ≡ 6 → x ≡ layer.Note
note_one layer.Note e = refl
note_one other e = absurd (omega (arith, e))

ack_one : (x : Layer) → kind_of_layer x ≡ 7 → x ≡ layer.Ack
ack_one layer.Ack e = refl
ack_one other e = absurd (omega (arith, e))

abbrev note_at : List ℕ → Read Body
note_at bytes = Ok (bodies.Note, bytes)

abbrev ack_at : List ℕ → Read Body
ack_at bytes = Ok (bodies.Ack, bytes)

note_exact : Exact (IsKind 6) body_fields note_at
note_exact = known body_fields (λ b e. ap layer_fields (note_one (out-Body b) e))
    (done (IsKind 6) bodies.Note (ap kind_of_layer out_note) (λ b e. whole b layer.Note bodies.Note (note_one (out-Body b) e) out_note))

ack_exact : Exact (IsKind 7) body_fields ack_at
ack_exact = known body_fields (λ b e. ap layer_fields (ack_one (out-Body b) e))
    (done (IsKind 7) bodies.Ack (ap kind_of_layer out_ack) (λ b e. whole b layer.Ack bodies.Ack (ack_one (out-Body b) e) out_ack))

abbrev report_part : Layer → Report
report_part (layer.Report report) = report
report_part other = record { grants = []; openings = []; records = []; versions = []; arrivals = []; locks = []; bars = [] }

report_one : (x : Layer) → kind_of_layer x ≡ 9 → x ≡ layer.Report (report_part x)
report_one (layer.Report report) e = refl
report_one other e = absurd (omega (arith, e))

report_same : (x : Layer) → kind_of_layer x ≡ 9 → layer_fields x ≡ report_fields (report_part x)
report_same (layer.Report report) e = refl
report_same other e = absurd (omega (arith, e))

abbrev report_body : Report → Body
report_body report = bodies.Report report

report_makes : Makes 9 report_body (λ b. report_part (out-Body b))
report_makes = record {
  is = λ r. ap kind_of_layer (out_report r);
  back = λ r. ap report_part (out_report r);
  one = λ b e. whole b _ (report_body (report_part (out-Body b))) (report_one (out-Body b) e) (out_report (report_part (out-Body b)));
}

report_body_exact : Exact (IsKind 9) body_fields report_body_at
unfolding report_body_at
report_body_exact = body_of body_fields report_makes (λ b e. report_same (out-Body b) e) report_exact

-- ---- bodies of each kind

kinds : (x : Layer) → is_kind (kind_of_layer x) ≡ true
kinds (layer.Req lock mode have) = refl
kinds (layer.Grant lock mode turn version lines) = refl
kinds (layer.Release lock mode version lines) = refl
kinds (layer.Arrive bar epoch lines) = refl
kinds (layer.Opened bar epoch lines) = refl
kinds layer.Note = refl
kinds layer.Ack = refl
kinds (layer.Resync list) = refl
kinds (layer.Report report) = refl
kinds (layer.Pruned turn versions crossings) = refl

abbrev pub Body_of : ℕ → Type 0
Body_of kind = (b : Body) × IsKind kind b

-- some body of each kind
some_body : (kind : ℕ) → 1 ≤ kind → kind ≤ 10 → Body_of kind
some_body zero low high = absurd (omega (arith, low))
some_body (suc zero) low high = (req_body (record { lock = 0; mode = Shared; have = 0 }), ap kind_of_layer (out_req (record { 0 = 0 }) Shared 0))
some_body (suc (suc zero)) low high = (grant_body (record { lock = 0; mode = Shared; turn = 0; version = 0; lines = [] }), ap kind_of_layer (out_grant (record { 0 = 0 }) Shared 0 0 []))
some_body (suc (suc (suc zero))) low high = (release_body (record { lock = 0; mode = Shared; version = 0; lines = [] }), ap kind_of_layer (out_release (record { 0 = 0 }) Shared 0 []))
some_body (suc (suc (suc (suc zero)))) low high = (arrive_body (record { bar = 0; epoch = 0; lines = [] }), ap kind_of_layer (out_arrive (record { 0 = 0 }) 0 []))
some_body (suc (suc (suc (suc (suc zero))))) low high = (opened_body (record { bar = 0; epoch = 0; lines = [] }), ap kind_of_layer (out_opened (record { 0 = 0 }) 0 []))
some_body (suc (suc (suc (suc (suc (suc zero)))))) low high = (bodies.Note, ap kind_of_layer out_note)
some_body (suc (suc (suc (suc (suc (suc (suc zero))))))) low high = (bodies.Ack, ap kind_of_layer out_ack)
some_body (suc (suc (suc (suc (suc (suc (suc (suc zero)))))))) low high = (bodies.Resync [], ap kind_of_layer (out_resync []))
some_body (suc (suc (suc (suc (suc (suc (suc (suc (suc zero))))))))) low high = (report_body (report_part layer.Note), ap kind_of_layer (out_report (report_part layer.Note)))
some_body (suc (suc (suc (suc (suc (suc (suc (suc (suc (suc zero)))))))))) low high = (pruned_body (record { turn = 0; versions = []; crossings = [] }), ap kind_of_layer (out_pruned 0 [] []))
some_body (suc (suc (suc (suc (suc (suc (suc (suc (suc (suc (suc kind))))))))))) low high = absurd (omega (arith, high))

in_range : (kind : ℕ) → is_kind kind ≡ true → (1 ≤ kind) × (kind ≤ 10)
in_range kind e = let both = both_true (nat_le 1 kind) (nat_le kind 10) e in (leb-true 1 kind both.0, leb-true kind 10 both.1)

pub of_kind : (kind : ℕ) → is_kind kind ≡ true → Body_of kind
of_kind kind e = let range = in_range kind e in some_body kind range.0 range.1

-- ---- a resync

asking_exact_of : (kind : ℕ) → is_asking kind ≡ true → 1 ≤ kind → kind ≤ 10 → Exact (IsKind kind) (λ b. asking_fields (out-Body b)) (asking_at kind)
asking_exact_of zero e low high = absurd (omega (arith, low))
asking_exact_of (suc zero) e low high = req_asking
asking_exact_of (suc (suc zero)) e low high = absurd (true≢false (sym e))
asking_exact_of (suc (suc (suc zero))) e low high = release_asking
asking_exact_of (suc (suc (suc (suc zero)))) e low high = arrive_asking
asking_exact_of (suc (suc (suc (suc (suc zero))))) e low high = absurd (true≢false (sym e))
asking_exact_of (suc (suc (suc (suc (suc (suc zero)))))) e low high = absurd (true≢false (sym e))
asking_exact_of (suc (suc (suc (suc (suc (suc (suc zero))))))) e low high = absurd (true≢false (sym e))
asking_exact_of (suc (suc (suc (suc (suc (suc (suc (suc zero)))))))) e low high = absurd (true≢false (sym e))
asking_exact_of (suc (suc (suc (suc (suc (suc (suc (suc (suc zero))))))))) e low high = absurd (true≢false (sym e))
asking_exact_of (suc (suc (suc (suc (suc (suc (suc (suc (suc (suc zero)))))))))) e low high = absurd (true≢false (sym e))
asking_exact_of (suc (suc (suc (suc (suc (suc (suc (suc (suc (suc (suc kind))))))))))) e low high = absurd (omega (arith, high))

asks : (kind : ℕ) → is_asking kind ≡ true → is_kind kind ≡ true
asks kind e = grind (arith, nat_tests)

abbrev turn_made : ℕ → Body → TurnBody
turn_made turn body = record { turn = turn; body = body }

turn_body_exact : (last : Option TurnBody) → Exact Any (turn_body_fields last) (turn_body_at last)
unfolding turn_body_at
turn_body_exact last =
    step (number_exact 4 (is_over (option_map (λ b. b.turn) last)))
    (λ turn. chain (λ kind. is_kind kind ≡ true) (λ kind. byte kind (is_asking kind) ∷ []) (kept is_asking byte_at) (At Any (λ b. b.turn) turn) (λ b. kind_of b.body) (λ b. asking_fields (out-Body b.body))
    (λ kind bytes. then_with (asking_at kind bytes) (λ body rest. Ok (turn_made turn body, rest)))
    (some_byte is_asking is_asking (λ kind. is_kind kind ≡ true) 1 refl (λ n is e. e) asks (λ n e. e))
    (λ kind is fit. let range = in_range kind is in
    rest_of (At (At Any (λ b. b.turn) turn) (λ b. kind_of b.body) kind) (λ b. b.body) (turn_made turn)
    (asking_exact_of kind (both_true (is_asking kind) true fit).0 range.0 range.1)
    (λ body e. record { is = put tt; same = e }) (λ body. refl) (λ b at. at.same) (λ b at. rw (← at.is.same) refl))
    (λ kind is. let some = of_kind kind is in (turn_made turn some.0, record { is = put tt; same = some.1 }))
    (λ b at. kinds (out-Body b.body)))
    (λ turn. (turn_made turn bodies.Note, put tt))

abbrev resync_part : Layer → List TurnBody
resync_part (layer.Resync list) = list
resync_part other = []

resync_one : (x : Layer) → kind_of_layer x ≡ 8 → x ≡ layer.Resync (resync_part x)
resync_one (layer.Resync list) e = refl
resync_one other e = absurd (omega (arith, e))

resync_same : (x : Layer) → kind_of_layer x ≡ 8 → layer_fields x ≡ counted turn_body_fields (resync_part x)
resync_same (layer.Resync list) e = refl
resync_same other e = absurd (omega (arith, e))

abbrev resync_body : List TurnBody → Body
resync_body list = bodies.Resync list

resync_makes : Makes 8 resync_body (λ b. resync_part (out-Body b))
resync_makes = record {
  is = λ l. ap kind_of_layer (out_resync l);
  back = λ l. ap resync_part (out_resync l);
  one = λ b e. whole b _ (resync_body (resync_part (out-Body b))) (resync_one (out-Body b) e) (out_resync (resync_part (out-Body b)));
}

resync_exact : Exact (IsKind 8) body_fields resync_at
unfolding resync_at
resync_exact = body_of body_fields resync_makes (λ b e. resync_same (out-Body b) e) (counted_list (turn_made 0 bodies.Note) turn_body_fields turn_body_at (any_number 4) turn_body_exact)

-- ---- a body of any kind

body_exact_of : (kind : ℕ) → 1 ≤ kind → kind ≤ 10 → Exact (IsKind kind) body_fields (body_at kind)
unfolding body_at
body_exact_of zero low high = absurd (omega (arith, low))
body_exact_of (suc zero) low high = req_exact
body_exact_of (suc (suc zero)) low high = grant_exact
body_exact_of (suc (suc (suc zero))) low high = release_exact
body_exact_of (suc (suc (suc (suc zero)))) low high = arrive_exact
body_exact_of (suc (suc (suc (suc (suc zero))))) low high = opened_exact
body_exact_of (suc (suc (suc (suc (suc (suc zero)))))) low high = note_exact
body_exact_of (suc (suc (suc (suc (suc (suc (suc zero))))))) low high = ack_exact
body_exact_of (suc (suc (suc (suc (suc (suc (suc (suc zero)))))))) low high = resync_exact
body_exact_of (suc (suc (suc (suc (suc (suc (suc (suc (suc zero))))))))) low high = report_body_exact
body_exact_of (suc (suc (suc (suc (suc (suc (suc (suc (suc (suc zero)))))))))) low high = pruned_exact
body_exact_of (suc (suc (suc (suc (suc (suc (suc (suc (suc (suc (suc kind))))))))))) low high = absurd (omega (arith, high))

pub body_exact : (kind : ℕ) → is_kind kind ≡ true → Exact (IsKind kind) body_fields (body_at kind)
body_exact kind e = let range = in_range kind e in body_exact_of kind range.0 range.1

pub kind_in_range : (b : Body) → is_kind (kind_of b) ≡ true
kind_in_range b = kinds (out-Body b)
