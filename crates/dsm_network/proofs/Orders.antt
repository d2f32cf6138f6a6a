-- The messages that processors send keep each range and order, so that they can be read from their bytes.
use Rattle.std.proofs.Common.{◌≡◌, ◌+◌, ◌<◌, ◌≤◌, ◌==◌, ℕ, ℤ, Bool, true, false, ◌&&◌, not, if◌then◌else◌, List, [], ◌∷◌, ◌++◌, length, get_or, filter, Option, Some, None, refl, sym, ap, ◌∙◌, subst, arith}
use Rattle.std.specs.Prelude.{nat_lt, nat_le, IfSome}
use Rattle.std.specs.List.{All}
use Rattle.std.specs.Option.{option_map}
use Rattle.std.proofs.lemmas.Bool.Decides.{nat_tests}
use Rattle.std.proofs.lemmas.Grind.{common_steps}
use Rattle.std.proofs.lemmas.List.Elements.{All-nil, All-cons, All-map, All-weaker, All-filter, filter_passes}
use Rattle.dsm_base.specs.declared.names.Bar.{Bar}
use Rattle.dsm_base.specs.declared.names.Lock.{Lock}
use Rattle.dsm_base.specs.declared.names.Mode.{Mode}
use Rattle.dsm_base.specs.declared.label.Label.{Label}
use Rattle.dsm_base.specs.declared.setup.Object.{Object}
use Rattle.dsm_base.specs.declared.setup.Piece.{Piece}
use Rattle.dsm_base.specs.declared.setup.Setup.{Setup}
use Rattle.dsm_base.specs.Threads.{Semantics}
use Rattle.dsm_lines.specs.declared.list.Line.{Line}
use Rattle.dsm_lines.specs.declared.of_objects.Opening.{Opening}
use Rattle.dsm_lines.specs.LineLists.{are_lines_from, are_lines}
use Rattle.dsm_lines.specs.Copies.{lines_where}
use Rattle.dsm_lines.proofs.Cells.{is_below}
use Rattle.dsm_msg.specs.declared.message.Body.{Body}
use Rattle.dsm_msg.specs.declared.message.Msg.{Msg}
use Rattle.dsm_fields.specs.Fields.{Field, byte, is_over, entries, are_kept}
use Rattle.dsm_msg.proofs.Layers.{out_req, out_grant, out_release, out_arrive, out_opened}
use Rattle.dsm_msg.specs.Spelling.{Layer, layer_fields, value_fields, line_fields, body_fields, carry_fields, kind_of, is_other, IsInOrder}
use Rattle.dsm_home.specs.LockStates.{grants_of}
use Rattle.dsm_net.specs.Processor.{Own, Processor}
use Rattle.dsm_net.specs.Messages.{keeper_of, message, with_carry}
use Rattle.dsm_net.specs.Grants.{is_of, grant_message, grant_messages, home_after_grants}
use Rattle.dsm_net.specs.Openings.{is_to, openings_now, opening_message, opening_messages, manager_after_openings}
use Rattle.dsm_net.specs.Effects.{Effect, only, counts, with_request, with_release, with_arrived, effect_of_grants, effect_of_openings, effect_of, effect_of_body, effect_of_message, release_of, body_of, effect_of_telling_to, effect_of_telling, effect_of_turn, processor_after}
use Rattle.dsm_net.specs.Turns.{OwnTurn}
use Rattle.dsm_processor.specs.Names.{BodyNames, IsSendOf}
use Rattle.dsm_processor.specs.Node.{effects_of}
use Rattle.dsm_processor.specs.declared.node.Effects.{Effects}
use Rattle.dsm_processor.proofs.Rising.{where_are_lines}
use Rattle.dsm_network.specs.World.{IsSendable}
use Rattle.dsm_network.specs.Effects.{AreSendable}
use Rattle.dsm_network.proofs.BarrierLines.{AllHaveLines, of_arrival, opened_lines}

-- Lines.

both_assoc : (a b c : Bool) → (a && (b && c)) ≡ ((a && b) && c)
both_assoc true b c = refl
both_assoc false b c = refl

kept_append : (front behind : List Field) → are_kept (front ++ behind) ≡ (are_kept front && are_kept behind)
kept_append [] behind = refl
kept_append (field ∷ front) behind =
    ap (λ b. field.keeps && b) (kept_append front behind) ∙ both_assoc field.keeps (are_kept front) (are_kept behind)

kept_values : (last : Option ℤ) (values : List ℤ) → are_kept (entries value_fields last values) ≡ true
kept_values last [] = refl
kept_values last (value ∷ values) = kept_values (Some value) values

at_most : (a b : ℕ) → a ≤ b → nat_le a b ≡ true
at_most a b h = grind (arith, nat_tests)

kept_line : (last : Option Line) (line : Line) (behind : List Field) → is_over (option_map (λ one. one.number) last) line.number ≡ true → 1 ≤ length line.values → length line.values ≤ 8
    → are_kept behind ≡ true → are_kept (line_fields last line ++ behind) ≡ true
kept_line last line behind over some few rest =
    kept_append (line_fields last line) behind ∙ rw (over, at_most 1 (length line.values) some, at_most (length line.values) 8 few, kept_values None line.values, rest) refl

line_parts : (width least number : ℕ) (rest : Bool) → ((nat_lt 0 width && nat_le width 8) && (nat_le least number && rest)) ≡ true → (1 ≤ width) × (width ≤ 8) × (least ≤ number) × (rest ≡ true)
line_parts width least number rest all =
    (grind (arith, nat_tests, common_steps), grind (arith, nat_tests, common_steps), grind (arith, nat_tests, common_steps), grind (arith, nat_tests, common_steps))

kept_from : (last : Option Line) (least : ℕ) (lines : List Line) → ((number : ℕ) → least ≤ number → is_over (option_map (λ one. one.number) last) number ≡ true)
    → are_lines_from least lines ≡ true → are_kept (entries line_fields last lines) ≡ true
kept_from last least [] over are = refl
kept_from last least (line ∷ lines) over are =
    let parts = line_parts (length line.values) least line.number (are_lines_from (line.number + 1) lines) are in
    kept_line last line (entries line_fields (Some line) lines) (over line.number parts.2) parts.0 parts.1
    (kept_from (Some line) (line.number + 1) lines (λ next le. is_below line.number next (omega (arith, le))) parts.3)

-- a list of lines keeps the order of its entries
kept_lines : (lines : List Line) → are_lines lines ≡ true → are_kept (entries line_fields None lines) ≡ true
kept_lines lines are = kept_from None 0 lines (λ number le. refl) are

-- so do the lines of an object that pass a test
kept_where : (pieces : List Piece) (test : ℕ → Bool) (memory : ℕ → ℤ) (object : Object) → are_kept (entries line_fields None (lines_where pieces test memory object)) ≡ true
kept_where pieces test memory object =
    kept_lines (lines_where pieces test memory object) (where_are_lines pieces test memory object)

-- Messages.

-- a body keeps each range and order
abbrev pub IsKept : Body → Type 0
IsKept body = are_kept (body_fields body) ≡ true

kept_request : (lock : Lock) (mode : Mode) (version : ℕ) → IsKept (Body.Req lock mode version)
kept_request lock mode version = ap (λ (x : Layer). are_kept (layer_fields x)) (out_req lock mode version)

kept_grant : (lock : Lock) (mode : Mode) (turn version : ℕ) (lines : List Line) → are_kept (entries line_fields None lines) ≡ true → IsKept (Body.Grant lock mode turn version lines)
kept_grant lock mode turn version lines kept =
    ap (λ (x : Layer). are_kept (layer_fields x)) (out_grant lock mode turn version lines) ∙ kept

kept_shared : (lock : Lock) (version : ℕ) → IsKept (Body.Release lock Mode.Shared version [])
kept_shared lock version = ap (λ (x : Layer). are_kept (layer_fields x)) (out_release lock Mode.Shared version [])

kept_exclusive : (lock : Lock) (version : ℕ) (lines : List Line) → are_kept (entries line_fields None lines) ≡ true → IsKept (Body.Release lock Mode.Excl version lines)
kept_exclusive lock version lines kept =
    ap (λ (x : Layer). are_kept (layer_fields x)) (out_release lock Mode.Excl version lines) ∙ kept

kept_arrival : (bar : Bar) (epoch : ℕ) (lines : List Line) → are_lines lines ≡ true → IsKept (Body.Arrive bar epoch lines)
kept_arrival bar epoch lines are =
    ap (λ (x : Layer). are_kept (layer_fields x)) (out_arrive bar epoch lines) ∙ kept_lines lines are

kept_opening : (bar : Bar) (epoch : ℕ) (lines : List Line) → are_lines lines ≡ true → IsKept (Body.Opened bar epoch lines)
kept_opening bar epoch lines are =
    ap (λ (x : Layer). are_kept (layer_fields x)) (out_opened bar epoch lines) ∙ kept_lines lines are

-- an arrival brings a list of lines
abbrev pub BringsLines : Body → Type 0
BringsLines (Body.Arrive bar epoch lines) = are_lines lines ≡ true
BringsLines _ = Unit {0}

pub brings_lines : (setup : Setup) (body : Body) → BodyNames setup body → BringsLines body
brings_lines setup (Body.Arrive bar epoch lines) names = names.1
brings_lines setup _ names = tt

-- a message of one processor to another, which brings nothing along and has a body that keeps its order
pub record IsFit (me : ℕ) (msg : Msg) : Type 0 where
  pub from : msg.from.0 ≡ me
  pub other : (msg.to.0 == me) ≡ false
  pub records : msg.carry.records ≡ []
  pub lines : msg.carry.lines ≡ []
  pub body : IsKept msg.body

small : (p procs : ℕ) → p < procs → procs ≤ 16 → nat_lt p 16 ≡ true
small p procs within few = is_below p 16 (omega arith)

-- such a message keeps each range and order
kept_message : (msg : Msg) → nat_lt msg.from.0 16 ≡ true → is_other msg.from.0 msg.to.0 ≡ true → msg.carry.records ≡ [] → msg.carry.lines ≡ [] → IsKept msg.body → IsInOrder msg
kept_message msg from to records lines body =
    (λ i. are_kept (byte (kind_of msg.body) true ∷ byte msg.from.0 (from i) ∷ byte msg.to.0 (to i)
    ∷ (carry_fields (record msg.carry { records = records i; lines = lines i }) ++ body_fields msg.body)))
    ∙ body

pub fit_sendable : (setup : Setup) (me : ℕ) (msg : Msg) → setup.procs ≤ 16 → me < setup.procs → IsFit me msg → IsSendOf setup me msg → IsSendable setup msg
fit_sendable setup me msg few within fit send =
    let from : msg.from.0 < setup.procs = omega (arith, fit.from, within) in
    let receiver : nat_lt msg.to.0 16 ≡ true = small msg.to.0 setup.procs send.to few in
    let other : is_other msg.from.0 msg.to.0 ≡ true =
    (λ i. receiver i && not (msg.to.0 == fit.from i)) ∙ ap (λ b. not b) fit.other in
    record {
      from = from;
      to = send.to;
      names = send.names;
      kept = send.kept;
      in_order = kept_message msg (small msg.from.0 setup.procs from few) other fit.records fit.lines fit.body;
    }

-- Effects.

-- all that an effect sends is fit, and sent at once
pub record AreFit {S : Type 0} (me : ℕ) (effect : Effect S) : Type 0 where
  pub sends : All (IsFit me) effect.sends
  pub rebuilt : effect.rebuilt ≡ []
  pub note : effect.note ≡ None

fit_only : {S : Type 0} (me : ℕ) (s : Processor S) (sends : List Msg) → All (IsFit me) sends → AreFit me (only s sends)
fit_only me s sends fit = record { sends = fit; rebuilt = refl; note = refl }

fit_none : {S : Type 0} (me : ℕ) (s : Processor S) → AreFit me (only s [])
fit_none me s = fit_only me s [] (All-nil (IsFit me))

is_false : (b : Bool) → not b ≡ true → b ≡ false
is_false true e = cc
is_false false e = refl

-- the grants of a lock
fit_grants : {S : Type 0} (setup : Setup) (me : ℕ) (s : Processor S) (lock : Lock) → s.tail.records ≡ [] → s.tail.lines ≡ [] → AreFit me (effect_of_grants setup me s lock)
fit_grants setup me s lock records lines =
    fit_only me (home_after_grants setup me s lock) (grant_messages setup me s lock)
    (All-map (IsFit me) (grant_message setup me s lock) (filter (λ one. not (is_of me one)) (grants_of (s.locks lock.0)))
    (All-weaker (λ one. not (is_of me one) ≡ true) (λ one. IsFit me (grant_message setup me s lock one))
    (λ one other. record {
      from = refl;
      other = is_false (one.proc.0 == me) other;
      records = records;
      lines = lines;
      body = kept_grant lock one.mode one.turn (s.locks lock.0).version _ (kept_where setup.bindings (λ line. nat_lt one.«have» (s.lines.stamps line)) s.lines.values (Object.Lock lock));
    })
    (filter (λ one. not (is_of me one)) (grants_of (s.locks lock.0)))
    (filter_passes (λ one. not (is_of me one)) (grants_of (s.locks lock.0)))))

fit_opening : {S : Type 0} (me : ℕ) (s : Processor S) (one : Opening) → not (is_to me one) ≡ true → are_lines one.lines ≡ true → s.tail.records ≡ [] → s.tail.lines ≡ [] → IsFit me (opening_message me s one)
fit_opening me s one other are records lines = record {
  from = refl;
  other = is_false (one.to.0 == me) other;
  records = records;
  lines = lines;
  body = kept_opening one.bar one.epoch one.lines are;
}

-- the openings of a barrier
fit_openings : {S : Type 0} (setup : Setup) (me : ℕ) (s : Processor S) (bar : Bar) → AllHaveLines (s.barriers bar.0) → s.tail.records ≡ [] → s.tail.lines ≡ [] → AreFit me (effect_of_openings setup me s bar)
fit_openings setup me s bar waits records lines =
    let due = openings_now setup s bar in
    fit_only me (manager_after_openings setup me s bar) (opening_messages setup me s bar)
    (All-map (IsFit me) (opening_message me s) (filter (λ one. not (is_to me one)) due)
    (λ k d within. fit_opening me s (get_or (filter (λ one. not (is_to me one)) due) k d) (filter_passes (λ one. not (is_to me one)) due k d within)
    (All-filter (λ one. not (is_to me one)) (λ one. are_lines one.lines ≡ true) due (opened_lines setup.procs bar (s.barriers bar.0) waits) k d within) records lines))

-- what waits at each barrier are lists of lines
abbrev pub HasLinesWaiting : {S : Type 0} → Processor S → Type 0
HasLinesWaiting s = (bar : ℕ) → AllHaveLines (s.barriers bar)

-- what a body does that counts
fit_effect : {S : Type 0} (setup : Setup) (me : ℕ) (s : Processor S) (from turn : ℕ) (body : Body) → HasLinesWaiting s → BringsLines body → s.tail.records ≡ [] → s.tail.lines ≡ [] → AreFit me (effect_of setup me s from turn body)
fit_effect setup me s from turn (Body.Req lock mode «have») waits brings records lines =
    fit_grants setup me (with_request s from turn lock mode «have») lock records lines
fit_effect setup me s from turn (Body.Release lock mode version given) waits brings records lines =
    fit_grants setup me (with_release setup s from turn lock mode version given) lock records lines
fit_effect setup me s from turn (Body.Arrive bar epoch given) waits brings records lines =
    fit_openings setup me (with_arrived s from turn bar given) bar (of_arrival s.barriers bar.0 from turn given (waits bar.0) brings) records lines
fit_effect setup me s from turn (Body.Grant lock mode take version given) waits brings records lines = fit_none me _
fit_effect setup me s from turn (Body.Opened bar epoch given) waits brings records lines = fit_none me _
fit_effect setup me s from turn body waits brings records lines = fit_none me s

-- one of two effects
fit_either : {S : Type 0} (me : ℕ) (b : Bool) (x y : Effect S) → AreFit me x → AreFit me y → AreFit me (if b then x else y)
fit_either me true x y first second = first
fit_either me false x y first second = second

-- what a body does that comes
fit_body : {S : Type 0} (setup : Setup) (me : ℕ) (s : Processor S) (from turn : ℕ) (body : Body) → HasLinesWaiting s → BringsLines body → s.tail.records ≡ [] → s.tail.lines ≡ [] → AreFit me (effect_of_body setup me s from turn body)
fit_body setup me s from turn body waits brings records lines =
    fit_either me (counts s from turn body) (effect_of setup me s from turn body) (only s [])
    (fit_effect setup me s from turn body waits brings records lines) (fit_none me s)

-- what a message does
pub fit_message : {S : Type 0} (setup : Setup) (me : ℕ) (s : Processor S) (msg : Msg) → HasLinesWaiting s → BringsLines msg.body → s.tail.records ≡ [] → s.tail.lines ≡ [] → AreFit me (effect_of_message setup me s msg)
fit_message setup me s msg waits brings records lines =
    let fit = fit_body setup me (with_carry s msg.from.0 msg.carry) msg.from.0 msg.carry.turn msg.body waits brings records lines in
    record { sends = fit.sends; rebuilt = fit.rebuilt; note = fit.note }

-- a body that is told keeps each range and order, and brings a list of lines where it is an arrival
abbrev IsTold : Body → Type 0
IsTold body = IsKept body × BringsLines body

told_release : {S : Type 0} (setup : Setup) (own : Own S) (lock : Lock) (held : Option Mode) (body : Body) → release_of setup own lock held ≡ Some body → IsTold body
told_release setup own lock None body is = cc
told_release setup own lock (Some Mode.Shared) body is =
    let same : Body.Release lock Mode.Shared (own.versions lock.0) [] ≡ body = cc in subst IsTold same (kept_shared lock (own.versions lock.0), tt)
told_release setup own lock (Some Mode.Excl) body is =
    let same : Body.Release lock Mode.Excl (own.versions lock.0 + 1) (lines_where setup.bindings own.dirty own.copy (Object.Lock lock)) ≡ body = cc in
    subst IsTold same (kept_exclusive lock (own.versions lock.0 + 1) _ (kept_where setup.bindings own.dirty own.copy (Object.Lock lock)), tt)

-- what a turn tells
told_by : {S : Type 0} (setup : Setup) (own : Own S) (label : Label) (body : Body) → body_of setup own label ≡ Some body → IsTold body
told_by setup own (Label.Ask lock mode) body is =
    let same : Body.Req lock mode (own.versions lock.0) ≡ body = cc in subst IsTold same (kept_request lock mode (own.versions lock.0), tt)
told_by setup own (Label.Give lock) body is = told_release setup own lock (own.held lock.0) body is
told_by setup own (Label.Arrive bar) body is =
    let given = lines_where setup.bindings own.dirty own.copy (Object.Bar bar) in
    let are : are_lines given ≡ true = where_are_lines setup.bindings own.dirty own.copy (Object.Bar bar) in
    let same : Body.Arrive bar (own.crossed bar.0) given ≡ body = cc in
    subst IsTold same (kept_arrival bar (own.crossed bar.0) given are, are)
told_by setup own Label.Quiet body is = cc
told_by setup own (Label.Load cell value) body is = cc
told_by setup own (Label.Store cell value) body is = cc
told_by setup own (Label.Take lock mode version) body is = cc
told_by setup own (Label.Cross bar epoch) body is = cc
told_by setup own (Label.Line text) body is = cc
told_by setup own Label.End body is = cc
told_by setup own (Label.Stop fault line) body is = cc

fit_told_to : {S : Type 0} (setup : Setup) (me : ℕ) (s : Processor S) (body : Body) (keeper : Option ℕ) → IsTold body → HasLinesWaiting s → s.tail.records ≡ [] → s.tail.lines ≡ [] → AreFit me (effect_of_telling_to setup me s body keeper)
fit_told_to setup me s body None told waits records lines = fit_none me s
fit_told_to setup me s body (Some keeper) told waits records lines = by (keeper == me) refl
  where
    by : (b : Bool) → (keeper == me) ≡ b → AreFit me (if b then effect_of_body setup me s me s.own.turns body else only s (message me s keeper body ∷ []))
    by true is = fit_body setup me s me s.own.turns body waits told.1 records lines
    by false is = fit_only me s (message me s keeper body ∷ [])
        (All-cons (IsFit me) (message me s keeper body) [] (record { from = refl; other = is; records = records; lines = lines; body = told.0 }) (All-nil (IsFit me)))

fit_told : {S : Type 0} (setup : Setup) (me : ℕ) (s : Processor S) (told : Option Body) → ((body : Body) → told ≡ Some body → IsTold body) → HasLinesWaiting s → s.tail.records ≡ [] → s.tail.lines ≡ [] → AreFit me (effect_of_telling setup me s told)
fit_told setup me s None is waits records lines = fit_none me s
fit_told setup me s (Some body) is waits records lines = fit_told_to setup me s body (keeper_of setup body) (is body refl) waits records lines

-- what a turn does
pub fit_turn : {S : Type 0} (setup : Setup) (threads : Semantics S) (me : ℕ) (s : Processor S) (turn : OwnTurn) → HasLinesWaiting s → s.tail.records ≡ [] → s.tail.lines ≡ [] → AreFit me (effect_of_turn setup threads me s turn)
fit_turn setup threads me s turn waits records lines =
    let fit = fit_told setup me (processor_after setup threads s turn) (body_of setup s.own turn.label) (told_by setup s.own turn.label) waits records lines in
    record { sends = fit.sends; rebuilt = fit.rebuilt; note = fit.note }

-- what such an effect sends can be sent
pub fit_sends : {S : Type 0} (setup : Setup) (me : ℕ) (effect : Effect S) (effects : Effects) → setup.procs ≤ 16 → me < setup.procs → AreFit me effect → effects ≡ effects_of effect
    → All (IsSendOf setup me) effects.sends → AreSendable setup effects
fit_sends setup me effect effects few within fit are send =
    let same : All (IsSendOf setup me) effect.sends = subst (λ (e : Effects). All (IsSendOf setup me) e.sends) are send in
    subst (AreSendable setup) (sym are) (record {
      sends = λ k d below. fit_sendable setup me _ few within (fit.sends k d below) (same k d below);
      rebuilt = subst (All (IsSendable setup)) (sym fit.rebuilt) (All-nil (IsSendable setup));
      note = subst (λ note. IfSome note (IsSendable setup)) (sym fit.note) tt;
    })
