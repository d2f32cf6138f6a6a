-- A body that goes to a home or manager has an exact reader, and so has an outbox.
use Rattle.std.proofs.Common.{replicate, ◌≡◌, ◌∙◌, ℕ, ◌≤◌, Bool, true, false, List, [], ◌∷◌, ◌++◌, length, Option, None, option_map, Ok, refl, sym, ap, subst, arith, eqb-true}
use Rattle.std.specs.Prelude.{◌==◌, ◌||◌}
use Rattle.std.proofs.lemmas.Bool.Decides.{nat_tests}
use Rattle.dsm_base.specs.declared.names.Proc.{Proc}
use Rattle.dsm_base.specs.declared.names.Mode.{Mode}
use Rattle.dsm_base.specs.declared.names.Mode.TheVariants.{Shared}
use Rattle.dsm_base.specs.declared.setup.Object.{Object}
use Rattle.dsm_lines.specs.declared.list.Line.{Line}
use Rattle.dsm_msg.specs.declared.message.TurnBody.{TurnBody}
use Rattle.dsm_msg.specs.declared.message.Body.{Body}
use Rattle.dsm_msg.specs.declared.message.Body.TheVariants as bodies
use Rattle.dsm_msg.specs.declared.message.Body.TheOpen as layer
use Rattle.dsm_msg.specs.declared.message.Body.TheViews.{out-Body, roll-Body, roll-out-Body}
use Rattle.dsm_msg.specs.Spelling.{Layer, kind_of, kind_of_layer, is_kind, is_asking, may_give}
use Rattle.dsm_msg.proofs.Layers.{out_req, out_release, out_arrive}
use Rattle.dsm_msg.proofs.Bodies.{IsKind, of_kind, kind_in_range}
use Rattle.dsm_fields.specs.Fields.{Any, Field, byte, number, mode_number, is_over}
use Rattle.dsm_fields.specs.Reading.{Read, then_with, kept, number_at, byte_at}
use Rattle.dsm_fields.proofs.Exact.{Exact, done, both_true}
use Rattle.dsm_fields.proofs.Chain.{At, chain}
use Rattle.dsm_fields.proofs.Numbers.{bool_cases, number_exact, any_number, byte_exact, some_byte, mode_exact}
use Rattle.dsm_fields.proofs.Steps.{step, put, rest_of, known}
use Rattle.dsm_image_parts.specs.declared.scope.Scope.{Scope}
use Rattle.dsm_image_parts.specs.declared.entries.Outbox.{Outbox}
use Rattle.dsm_image_parts.specs.Spelling.{listed_with, listed, line_fields, lines_fields, is_lock_at, is_bar_at, asking_fields, sent_fields, outbox_fields, IsTo}
use Rattle.dsm_image_parts.specs.Reading.{listed_with_at, listed_at, line_at, req_at, release_at, arrive_at, asking_at, sent_at, outbox_at}
use Rattle.dsm_image_parts.proofs.Grammar.{listed_with_exact, listed_exact, no_line, line_exact, lines_exact}

-- a body is its layer
whole : (body : Body) (x : Layer) (made : Body) → out-Body body ≡ x → out-Body made ≡ x → body ≡ made
whole body x made one two = sym (roll-out-Body body) ∙ ap roll-Body (one ∙ sym two) ∙ roll-out-Body made

abbrev asked_of : Scope → ℕ → Body → List Field
asked_of scope to b = asking_fields scope to (out-Body b)

-- ---- a request

record Reqs : Type 0 where
  lock : ℕ
  mode : Mode
  have : ℕ

abbrev req_parts : Layer → Reqs
req_parts (layer.Req lock mode have) = record { lock = lock.0; mode = mode; have = have }
req_parts other = record { lock = 0; mode = Shared; have = 0 }

abbrev req_of : Body → Reqs
req_of b = req_parts (out-Body b)

abbrev req_made : ℕ → Mode → ℕ → Body
req_made lock mode have = bodies.Req (record { 0 = lock }) mode have

req_one : (x : Layer) → kind_of_layer x ≡ 1 → x ≡ (let p = req_parts x in layer.Req (record { 0 = p.lock }) p.mode p.have)
req_one (layer.Req lock mode have) e = refl
req_one other e = absurd (omega (arith, e))

abbrev req_rest : Scope → ℕ → Reqs → List Field
req_rest scope to p = number 2 p.lock (is_lock_at scope to p.lock) ∷ byte (mode_number p.mode) true ∷ number 4 p.have true ∷ []

req_same : (scope : Scope) (to : ℕ) (x : Layer) → kind_of_layer x ≡ 1 → asking_fields scope to x ≡ req_rest scope to (req_parts x)
req_same scope to (layer.Req lock mode have) e = refl
req_same scope to other e = absurd (omega (arith, e))

abbrev ReqKnown : ℕ → Mode → ℕ → Body → Type 0
ReqKnown lock mode have = At (At (At (IsKind 1) (λ b. (req_of b).lock) lock) (λ b. (req_of b).mode) mode) (λ b. (req_of b).have) have

req_known : (lock : ℕ) (mode : Mode) (have : ℕ) → ReqKnown lock mode have (req_made lock mode have)
req_known lock mode have =
    let opened = out_req (record { 0 = lock }) mode have in
    record {
      is = record {
        is = record { is = ap kind_of_layer opened; same = ap (λ (x : Layer). (req_parts x).lock) opened };
        same = ap (λ (x : Layer). (req_parts x).mode) opened;
      };
      same = ap (λ (x : Layer). (req_parts x).have) opened;
    }

req_whole : (lock : ℕ) (mode : Mode) (have : ℕ) (b : Body) → ReqKnown lock mode have b → b ≡ req_made lock mode have
req_whole lock mode have b at =
    let p = req_of b in
    whole b _ (req_made p.lock p.mode p.have) (req_one (out-Body b) at.is.is.is) (out_req (record { 0 = p.lock }) p.mode p.have)
    ∙ (λ i. req_made (at.is.is.same i) (at.is.same i) (at.same i))

req_exact : (scope : Scope) (to : ℕ) → Exact (IsKind 1) (asked_of scope to) (req_at scope to)
unfolding req_at
req_exact scope to =
    known (asked_of scope to) (λ b e. req_same scope to (out-Body b) e)
    (step (number_exact 2 (is_lock_at scope to))
    (λ lock. step mode_exact
    (λ mode. step (any_number 4)
    (λ have. done (ReqKnown lock mode have) (req_made lock mode have) (req_known lock mode have) (req_whole lock mode have))
    (λ have. (req_made lock mode have, req_known lock mode have)))
    (λ mode. (req_made lock mode 0, (req_known lock mode 0).is)))
    (λ lock. (req_made lock Shared 0, (req_known lock Shared 0).is.is)))

-- ---- a release

record Releases : Type 0 where
  lock : ℕ
  mode : Mode
  version : ℕ
  lines : List Line

abbrev release_parts : Layer → Releases
release_parts (layer.Release lock mode version lines) = record { lock = lock.0; mode = mode; version = version; lines = lines }
release_parts other = record { lock = 0; mode = Shared; version = 0; lines = [] }

abbrev release_of : Body → Releases
release_of b = release_parts (out-Body b)

abbrev release_made : ℕ → Mode → ℕ → List Line → Body
release_made lock mode version lines = bodies.Release (record { 0 = lock }) mode version lines

release_one : (x : Layer) → kind_of_layer x ≡ 3 → x ≡ (let p = release_parts x in layer.Release (record { 0 = p.lock }) p.mode p.version p.lines)
release_one (layer.Release lock mode version lines) e = refl
release_one other e = absurd (omega (arith, e))

abbrev given_fields : Scope → ℕ → Mode → List Line → List Field
given_fields scope lock mode lines = listed_with (may_give mode) (line_fields scope (Object.Lock (record { 0 = lock }))) lines

abbrev release_rest : Scope → ℕ → Releases → List Field
release_rest scope to p =
    number 2 p.lock (is_lock_at scope to p.lock) ∷ byte (mode_number p.mode) true ∷ number 4 p.version true ∷ given_fields scope p.lock p.mode p.lines

release_same : (scope : Scope) (to : ℕ) (x : Layer) → kind_of_layer x ≡ 3 → asking_fields scope to x ≡ release_rest scope to (release_parts x)
release_same scope to (layer.Release lock mode version lines) e = refl
release_same scope to other e = absurd (omega (arith, e))

abbrev ReleaseKnown : ℕ → Mode → ℕ → Body → Type 0
ReleaseKnown lock mode version = At (At (At (IsKind 3) (λ b. (release_of b).lock) lock) (λ b. (release_of b).mode) mode) (λ b. (release_of b).version) version

release_known : (lock : ℕ) (mode : Mode) (version : ℕ) (lines : List Line) → ReleaseKnown lock mode version (release_made lock mode version lines)
release_known lock mode version lines =
    let opened = out_release (record { 0 = lock }) mode version lines in
    record {
      is = record {
        is = record { is = ap kind_of_layer opened; same = ap (λ (x : Layer). (release_parts x).lock) opened };
        same = ap (λ (x : Layer). (release_parts x).mode) opened;
      };
      same = ap (λ (x : Layer). (release_parts x).version) opened;
    }

release_whole : (lock : ℕ) (mode : Mode) (version : ℕ) (b : Body) → ReleaseKnown lock mode version b → b ≡ release_made lock mode version (release_of b).lines
release_whole lock mode version b at =
    let p = release_of b in
    whole b _ (release_made p.lock p.mode p.version p.lines) (release_one (out-Body b) at.is.is.is) (out_release (record { 0 = p.lock }) p.mode p.version p.lines)
    ∙ (λ i. release_made (at.is.is.same i) (at.is.same i) (at.same i) p.lines)

release_exact : (scope : Scope) (to : ℕ) → Exact (IsKind 3) (asked_of scope to) (release_at scope to)
unfolding release_at
release_exact scope to =
    known (asked_of scope to) (λ b e. release_same scope to (out-Body b) e)
    (step (number_exact 2 (is_lock_at scope to))
    (λ lock. step mode_exact
    (λ mode. step (any_number 4)
    (λ version. known (λ b. given_fields scope (release_of b).lock (release_of b).mode (release_of b).lines)
    (λ b at i. given_fields scope (at.is.is.same i) (at.is.same i) (release_of b).lines)
    (rest_of (ReleaseKnown lock mode version) (λ b. (release_of b).lines) (release_made lock mode version)
    (listed_with_exact no_line (may_give mode) (line_fields scope (Object.Lock (record { 0 = lock }))) (line_at scope (Object.Lock (record { 0 = lock }))) (line_exact scope (Object.Lock (record { 0 = lock }))))
    (λ lines is. release_known lock mode version lines) (λ lines. ap (λ (x : Layer). (release_parts x).lines) (out_release (record { 0 = lock }) mode version lines)) (λ b at. tt) (release_whole lock mode version)))
    (λ version. (release_made lock mode version [], release_known lock mode version [])))
    (λ mode. (release_made lock mode 0 [], (release_known lock mode 0 []).is)))
    (λ lock. (release_made lock Shared 0 [], (release_known lock Shared 0 []).is.is)))

-- ---- an arrival

record Arrives : Type 0 where
  bar : ℕ
  epoch : ℕ
  lines : List Line

abbrev arrive_parts : Layer → Arrives
arrive_parts (layer.Arrive bar epoch lines) = record { bar = bar.0; epoch = epoch; lines = lines }
arrive_parts other = record { bar = 0; epoch = 0; lines = [] }

abbrev arrive_of : Body → Arrives
arrive_of b = arrive_parts (out-Body b)

abbrev arrive_made : ℕ → ℕ → List Line → Body
arrive_made bar epoch lines = bodies.Arrive (record { 0 = bar }) epoch lines

arrive_one : (x : Layer) → kind_of_layer x ≡ 4 → x ≡ (let p = arrive_parts x in layer.Arrive (record { 0 = p.bar }) p.epoch p.lines)
arrive_one (layer.Arrive bar epoch lines) e = refl
arrive_one other e = absurd (omega (arith, e))

abbrev bar_lines : Scope → ℕ → List Line → List Field
bar_lines scope bar lines = lines_fields scope (Object.Bar (record { 0 = bar })) lines

abbrev arrive_rest : Scope → ℕ → Arrives → List Field
arrive_rest scope to p = byte p.bar (is_bar_at scope to p.bar) ∷ number 4 p.epoch true ∷ bar_lines scope p.bar p.lines

arrive_same : (scope : Scope) (to : ℕ) (x : Layer) → kind_of_layer x ≡ 4 → asking_fields scope to x ≡ arrive_rest scope to (arrive_parts x)
arrive_same scope to (layer.Arrive bar epoch lines) e = refl
arrive_same scope to other e = absurd (omega (arith, e))

abbrev ArriveKnown : ℕ → ℕ → Body → Type 0
ArriveKnown bar epoch = At (At (IsKind 4) (λ b. (arrive_of b).bar) bar) (λ b. (arrive_of b).epoch) epoch

arrive_known : (bar epoch : ℕ) (lines : List Line) → ArriveKnown bar epoch (arrive_made bar epoch lines)
arrive_known bar epoch lines =
    let opened = out_arrive (record { 0 = bar }) epoch lines in
    record {
      is = record { is = ap kind_of_layer opened; same = ap (λ (x : Layer). (arrive_parts x).bar) opened };
      same = ap (λ (x : Layer). (arrive_parts x).epoch) opened;
    }

arrive_whole : (bar epoch : ℕ) (b : Body) → ArriveKnown bar epoch b → b ≡ arrive_made bar epoch (arrive_of b).lines
arrive_whole bar epoch b at =
    let p = arrive_of b in
    whole b _ (arrive_made p.bar p.epoch p.lines) (arrive_one (out-Body b) at.is.is) (out_arrive (record { 0 = p.bar }) p.epoch p.lines)
    ∙ (λ i. arrive_made (at.is.same i) (at.same i) p.lines)

arrive_exact : (scope : Scope) (to : ℕ) → Exact (IsKind 4) (asked_of scope to) (arrive_at scope to)
unfolding arrive_at
arrive_exact scope to =
    known (asked_of scope to) (λ b e. arrive_same scope to (out-Body b) e)
    (step (byte_exact (is_bar_at scope to))
    (λ bar. step (any_number 4)
    (λ epoch. known (λ b. bar_lines scope (arrive_of b).bar (arrive_of b).lines)
    (λ b at. ap (λ (n : ℕ). bar_lines scope n (arrive_of b).lines) at.is.same)
    (rest_of (ArriveKnown bar epoch) (λ b. (arrive_of b).lines) (arrive_made bar epoch) (lines_exact scope (Object.Bar (record { 0 = bar })))
    (λ lines is. arrive_known bar epoch lines) (λ lines. ap (λ (x : Layer). (arrive_parts x).lines) (out_arrive (record { 0 = bar }) epoch lines)) (λ b at. tt) (arrive_whole bar epoch)))
    (λ epoch. (arrive_made bar epoch [], arrive_known bar epoch [])))
    (λ bar. (arrive_made bar 0 [], (arrive_known bar 0 []).is)))

-- ---- a body of a kind that asks for something

abbrev AskingExact : Scope → ℕ → ℕ → Type 0
AskingExact scope to kind = Exact (IsKind kind) (asked_of scope to) (asking_at scope to kind)

asking_exact : (scope : Scope) (to kind : ℕ) → is_asking kind ≡ true → AskingExact scope to kind
asking_exact scope to kind e =
    bool_cases (kind == 1) (AskingExact scope to kind)
    (λ first. subst (AskingExact scope to) (sym (eqb-true kind 1 first)) (req_exact scope to))
    (λ not_first. bool_cases (kind == 3) (AskingExact scope to kind)
    (λ third. subst (AskingExact scope to) (sym (eqb-true kind 3 third)) (release_exact scope to))
    (λ not_third.
    let fourth : (kind == 4) ≡ true = rw (not_first, not_third) at e in
    subst (AskingExact scope to) (sym (eqb-true kind 4 fourth)) (arrive_exact scope to)))

asks : (kind : ℕ) → is_asking kind ≡ true → is_kind kind ≡ true
asks kind e = grind (arith, nat_tests)

abbrev turn_made : ℕ → Body → TurnBody
turn_made turn body = record { turn = turn; body = body }

pub sent_exact : (scope : Scope) (to at : ℕ) (last : Option TurnBody) → Exact Any (sent_fields scope to at last) (sent_at scope to at last)
unfolding sent_at
sent_exact scope to at last =
    step (number_exact 4 (is_over (option_map (λ b. b.turn) last)))
    (λ turn. chain (λ kind. is_kind kind ≡ true) (λ kind. byte kind (is_asking kind) ∷ []) (kept is_asking byte_at) (At Any (λ b. b.turn) turn) (λ b. kind_of b.body) (λ b. asked_of scope to b.body)
    (λ kind bytes. then_with (asking_at scope to kind bytes) (λ body rest. Ok (turn_made turn body, rest)))
    (some_byte is_asking is_asking (λ kind. is_kind kind ≡ true) 1 refl (λ n is e. e) asks (λ n e. e))
    (λ kind is fit. rest_of (At (At Any (λ b. b.turn) turn) (λ b. kind_of b.body) kind) (λ b. b.body) (turn_made turn)
    (asking_exact scope to kind (both_true (is_asking kind) true fit).0)
    (λ body e. record { is = put tt; same = e }) (λ body. refl) (λ b at. at.same) (λ b at. rw (← at.is.same) refl))
    (λ kind is. let some = of_kind kind is in (turn_made turn some.0, record { is = put tt; same = some.1 }))
    (λ b at. kind_in_range b.body))
    (λ turn. (turn_made turn bodies.Note, put tt))

pub outbox_exact : (scope : Scope) (to : Proc) (at : ℕ) (last : Option Outbox) → Exact (IsTo to) (outbox_fields scope at last) (outbox_at scope to)
unfolding outbox_at
outbox_exact scope to at last =
    known (outbox_fields scope at last) (λ item is. ap (λ (p : Proc). listed (sent_fields scope p.0) item.bodies) is)
    (rest_of (IsTo to) (λ item. item.bodies) (λ list. record { proc = to; bodies = list })
    (listed_exact (turn_made 0 bodies.Note) (sent_fields scope to.0) (sent_at scope to.0) (sent_exact scope to.0))
    (λ list is. refl) (λ list. refl) (λ item is. tt) (λ item is. rw (← is) refl))
