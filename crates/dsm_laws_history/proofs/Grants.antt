-- Each take is answered by a grant that was delivered, or by the processor's own desk.
use Rattle.std.specs.Prelude.{◌≡◌, ◌⊎◌, ℕ, ◌+◌, Bool, true, false, ◌==◌, not, List, [], ◌∷◌, ◌++◌, length, map, filter, nat_lt, Option, Some, None}
use Rattle.std.specs.List.{AllByRecursion}
use Rattle.std.proofs.Common.{refl, sym, ap, ◌∙◌, subst, inl, inr}
use Rattle.std.proofs.lemmas.Bool.Decides.{eqb_tells}
use Rattle.dsm_base.specs.declared.act.Act.{Act}
use Rattle.dsm_base.specs.declared.lists.PendingLine.{PendingLine}
use Rattle.dsm_base.specs.declared.names.Lock.{Lock}
use Rattle.dsm_base.specs.declared.names.Mode.{Mode}
use Rattle.dsm_base.specs.declared.label.Label.{Label}
use Rattle.dsm_base.specs.declared.setup.Setup.{Setup}
use Rattle.dsm_base.specs.Family.{update, update_at}
use Rattle.dsm_base.specs.Threads.{Semantics}
use Rattle.dsm_lines.specs.declared.list.Line.{Line}
use Rattle.dsm_lines.specs.declared.of_objects.MailGrant.{MailGrant}
use Rattle.dsm_lines.specs.declared.of_objects.Opening.{Opening}
use Rattle.dsm_msg.specs.declared.message.Body.{Body}
use Rattle.dsm_msg.specs.declared.message.Msg.{Msg}
use Rattle.dsm_home.specs.declared.waiting.Waiting.{Waiting}
use Rattle.dsm_home.specs.LockStates.{grants_of}
use Rattle.dsm_net.specs.declared.trace.Letter.{Letter}
use Rattle.dsm_net.specs.declared.trace.Rec.{Rec}
use Rattle.dsm_net.specs.declared.trace.Group.{Group}
use Rattle.dsm_net.specs.Processor.{Own, Processor, start_processor}
use Rattle.dsm_net.specs.Inputs.{Input, is_grant_for}
use Rattle.dsm_net.specs.Turns.{OwnTurn, own_view, own_turn}
use Rattle.dsm_net.specs.Messages.{home_of, manager_of, with_carry}
use Rattle.dsm_net.specs.Grants.{own_grant, grant_message, is_of}
use Rattle.dsm_net.specs.Openings.{opening_message, is_to, openings_now}
use Rattle.dsm_net.specs.Effects.{Effect, counts, with_request, with_release, with_arrived, effect_of, effect_of_body, effect_of_message, release_of, body_of, processor_after, effect_of_telling_to, effect_of_telling, effect_of_turn}
use Rattle.dsm_net.specs.Net.{Net}
use Rattle.dsm_net.specs.Units.{Outcome, Made, with_letter, with_message, with_message_to, with_messages, with_lines_out, with_line_out, with_processor, with_effect, step_with, step_of, delivery_of, unit_of}
use Rattle.dsm_net.specs.Fits.{Done, FitsUnits, with_unit, run_of}
use Rattle.dsm_laws_protocol.proofs.Channels.{IsPlain}
use Rattle.dsm_laws_protocol.proofs.Kept.{effect_kept}
use Rattle.dsm_laws_protocol.proofs.Threads.{is_other, Answer, ByTake, ByAsk, ByGive, ByOther, answered}
use Rattle.dsm_laws_protocol.proofs.Own.{IsOwnTurn, own_turn_is}
use Rattle.dsm_laws_protocol.proofs.Reaching.{body_plain, telling_plain}
use Rattle.dsm_laws_history.specs.Granted.{StandsIn, IsIn, WasGranted, TakesAreGranted, AllTakesAreGranted}
use Rattle.dsm_laws_history.proofs.Truth.{all_append, all_filter, all_weaker}
use Rattle.dsm_laws_history.proofs.Effects.{both_are, same_numbers}
use Rattle.dsm_laws_history.proofs.PlainTurns.{found_has, IsAnswered, answered_by}

-- Records.

stands_left : (one : Rec) (xs ys : List Rec) → StandsIn one xs → StandsIn one (xs ++ ys)
stands_left one [] ys h = absurd h
stands_left one (x ∷ xs) ys (inl e) = inl e
stands_left one (x ∷ xs) ys (inr h) = inr (stands_left one xs ys h)

stands_right : (one : Rec) (xs ys : List Rec) → StandsIn one ys → StandsIn one (xs ++ ys)
stands_right one [] ys h = h
stands_right one (x ∷ xs) ys h = inr (stands_right one xs ys h)

-- what stands in a unit so far, or in the trace before it
abbrev Known : List Rec → List Group → Rec → Type 0
Known records before one = StandsIn one records ⊎ IsIn one before

known_left : (one : Rec) (xs ys : List Rec) (before : List Group) → Known xs before one → Known (xs ++ ys) before one
known_left one xs ys before (inl h) = inl (stands_left one xs ys h)
known_left one xs ys before (inr h) = inr h

takes_append : (setup : Setup) (before : List Group) (xs ys : List Rec) → TakesAreGranted setup before xs → TakesAreGranted setup before ys → TakesAreGranted setup before (xs ++ ys)
takes_append setup before [] ys h g = g
takes_append setup before (Rec.Turn p turn (Label.Take lock mode version) lines ∷ xs) ys h g = (h.0, takes_append setup before xs ys h.1 g)
takes_append setup before (one ∷ xs) ys h g = takes_append setup before xs ys h g

-- Where grants come from.

-- a grant to p in a message that was sent and delivered
record WasBrought (known : Rec → Type 0) (p turn : ℕ) (lock : Lock) (version : ℕ) (lines : List Line) : Type 0 where
  number : ℕ
  msg : Msg
  mode : Mode
  is_sent : known (Rec.Sent number msg)
  is_delivered : known (Rec.Delivered number)
  is_to : msg.to.0 ≡ p
  is_grant : msg.body ≡ Body.Grant lock mode turn version lines

abbrev IsFrom : Setup → (Rec → Type 0) → ℕ → MailGrant → Type 0
IsFrom setup known p grant = (home_of setup grant.lock.0 ≡ p) ⊎ WasBrought known p grant.turn grant.lock grant.version grant.lines

from_more : (setup : Setup) (known more : Rec → Type 0) → ((one : Rec) → known one → more one) → (p : ℕ) (grant : MailGrant) → IsFrom setup known p grant → IsFrom setup more p grant
from_more setup known more weaker p grant (inl e) = inl e
from_more setup known more weaker p grant (inr b) = inr record {
  number = b.number;
  msg = b.msg;
  mode = b.mode;
  is_sent = weaker (Rec.Sent b.number b.msg) b.is_sent;
  is_delivered = weaker (Rec.Delivered b.number) b.is_delivered;
  is_to = b.is_to;
  is_grant = b.is_grant;
}

-- requests and releases go to the home of their lock
abbrev IsRouted : Setup → ℕ → Body → Type 0
IsRouted setup to (Body.Req lock mode version) = home_of setup lock.0 ≡ to
IsRouted setup to (Body.Release lock mode version lines) = home_of setup lock.0 ≡ to
IsRouted setup to _ = Unit {0}

record IsLetter (setup : Setup) (known : Rec → Type 0) (to : ℕ) (letter : Letter) : Type 0 where
  is_sent : known (Rec.Sent letter.number letter.msg)
  is_to : letter.msg.to.0 ≡ to
  routed : IsRouted setup to letter.msg.body

letter_more : (setup : Setup) (known more : Rec → Type 0) → ((one : Rec) → known one → more one) → (to : ℕ) (letter : Letter) → IsLetter setup known to letter → IsLetter setup more to letter
letter_more setup known more weaker to letter h = record { is_sent = weaker (Rec.Sent letter.number letter.msg) h.is_sent; is_to = h.is_to; routed = h.routed }

-- Effects.

record IsTraced {S : Type 0} (setup : Setup) (known : Rec → Type 0) (p : ℕ) (effect : Effect S) : Type 0 where
  mail : AllByRecursion (IsFrom setup known p) effect.processor.mail.grants
  sends : AllByRecursion (λ (msg : Msg). IsRouted setup msg.to.0 msg.body) effect.sends

-- what comes to a processor: a body for its home, or a grant for it
abbrev HasCome : Setup → (Rec → Type 0) → ℕ → Body → Type 0
HasCome setup known me (Body.Grant lock mode take version lines) = IsFrom setup known me record { turn = take; lock = lock; mode = mode; version = version; lines = lines }
HasCome setup known me body = IsRouted setup me body

-- what a turn tells
abbrev IsOwnBody : Option Body → Type 0
IsOwnBody None = Unit {0}
IsOwnBody (Some (Body.Req lock mode own)) = Unit {0}
IsOwnBody (Some (Body.Release lock mode version lines)) = Unit {0}
IsOwnBody (Some (Body.Arrive bar epoch lines)) = Unit {0}
IsOwnBody (Some _) = ⊥

module _ {S : Type 0} (setup : Setup) (known : Rec → Type 0) (me : ℕ) where
  own_from : (s : Processor S) (lock : Lock) → home_of setup lock.0 ≡ me → (ones : List Waiting) → AllByRecursion (IsFrom setup known me) (map (own_grant setup s lock) ones)
  own_from s lock home [] = tt
  own_from s lock home (one ∷ ones) = (inl home, own_from s lock home ones)

  sent_routed : (s : Processor S) (lock : Lock) (ones : List Waiting) → AllByRecursion (λ (msg : Msg). IsRouted setup msg.to.0 msg.body) (map (grant_message setup me s lock) ones)
  sent_routed s lock [] = tt
  sent_routed s lock (one ∷ ones) = (tt, sent_routed s lock ones)

  opened_routed : (s : Processor S) (ones : List Opening) → AllByRecursion (λ (msg : Msg). IsRouted setup msg.to.0 msg.body) (map (opening_message me s) ones)
  opened_routed s [] = tt
  opened_routed s (one ∷ ones) = (tt, opened_routed s ones)

  module _ (s : Processor S) (mail : AllByRecursion (IsFrom setup known me) s.mail.grants) (from turn : ℕ) where
    counted_traced : (body : Body) → HasCome setup known me body → IsTraced setup known me (effect_of setup me s from turn body)
    counted_traced (Body.Req lock mode own) come =
        let queued : Processor S = with_request s from turn lock mode own in
        record {
          mail = all_append _ s.mail.grants (map (own_grant setup queued lock) (filter (is_of me) (grants_of (queued.locks lock.0)))) mail (own_from queued lock come (filter (is_of me) (grants_of (queued.locks lock.0))));
          sends = sent_routed queued lock (filter (λ one. not (is_of me one)) (grants_of (queued.locks lock.0)));
        }
    counted_traced (Body.Release lock mode version lines) come =
        let queued : Processor S = with_release setup s from turn lock mode version lines in
        record {
          mail = all_append _ s.mail.grants (map (own_grant setup queued lock) (filter (is_of me) (grants_of (queued.locks lock.0)))) mail (own_from queued lock come (filter (is_of me) (grants_of (queued.locks lock.0))));
          sends = sent_routed queued lock (filter (λ one. not (is_of me one)) (grants_of (queued.locks lock.0)));
        }
    counted_traced (Body.Grant lock mode take version lines) come =
        record { mail = all_append _ s.mail.grants (record { turn = take; lock = lock; mode = mode; version = version; lines = lines } ∷ []) mail (come, tt); sends = tt }
    counted_traced (Body.Arrive bar epoch lines) come =
        let arrived : Processor S = with_arrived s from turn bar lines in
        record { mail = mail; sends = opened_routed arrived (filter (λ one. not (is_to me one)) (openings_now setup arrived bar)) }
    counted_traced _ come = record { mail = mail; sends = tt }

    body_traced : (body : Body) → HasCome setup known me body → IsTraced setup known me (effect_of_body setup me s from turn body)
    body_traced body come = go (counts s from turn body) refl
      where
        go : (b : Bool) → counts s from turn body ≡ b → IsTraced setup known me (effect_of_body setup me s from turn body)
        go true c = rw c (counted_traced body come)
        go false c = rw c record { mail = mail; sends = tt }

  module _ (s : Processor S) (mail : AllByRecursion (IsFrom setup known me) s.mail.grants) where
    told_at : (keeper : ℕ) (body : Body) → IsRouted setup keeper body → ((keeper ≡ me) → HasCome setup known me body) → IsTraced setup known me (effect_of_telling_to setup me s body (Some keeper))
    told_at keeper body routed own = elim (eqb_tells keeper me) [
      | inl (t, i) ↦ rw t (body_traced s mail me s.own.turns body (own i))
      | inr (t, _) ↦ rw t record { mail = mail; sends = (routed, tt) }
    ]

    told_traced : (body : Option Body) → IsOwnBody body → IsTraced setup known me (effect_of_telling setup me s body)
    told_traced None is = record { mail = mail; sends = tt }
    told_traced (Some (Body.Req lock mode own)) is = told_at (home_of setup lock.0) (Body.Req lock mode own) refl (λ e. e)
    told_traced (Some (Body.Release lock mode version lines)) is = told_at (home_of setup lock.0) (Body.Release lock mode version lines) refl (λ e. e)
    told_traced (Some (Body.Arrive bar epoch lines)) is = told_at (manager_of setup bar.0) (Body.Arrive bar epoch lines) tt (λ e. tt)
    told_traced (Some _) is = absurd is

-- Parts of a unit.

module _ {S : Type 0} (setup : Setup) (before : List Group) where
  abbrev AreLetters : (Rec → Type 0) → Net S → Type 0
  AreLetters known net = (a b : ℕ) → AllByRecursion (IsLetter setup known b) (net.channels a b)

  -- nothing is lost, letters stay what they are, and no take is added
  record Grows (made now : Made S) : Type 0 where
    stands : (one : Rec) → Known made.records before one → Known now.records before one
    letters : AreLetters (Known made.records before) made.net → AreLetters (Known now.records before) now.net
    takes : TakesAreGranted setup before made.records → TakesAreGranted setup before now.records

  grows_same : (made : Made S) → Grows made made
  grows_same made = record { stands = λ one h. h; letters = λ l. l; takes = λ t. t }

  grows_both : (a b c : Made S) → Grows a b → Grows b c → Grows a c
  grows_both a b c h g = record { stands = λ one k. g.stands one (h.stands one k); letters = λ l. g.letters (h.letters l); takes = λ t. g.takes (h.takes t) }

  letters_kept : (made : Made S) (more : List Rec) → AreLetters (Known made.records before) made.net → AreLetters (Known (made.records ++ more) before) made.net
  letters_kept made more l a b = all_weaker _ _ (λ (letter : Letter) k. letter_more setup (Known made.records before) (Known (made.records ++ more) before) (λ one h. known_left one made.records more before h) b letter k) (made.net.channels a b) (l a b)

  line_grows : (made : Made S) (p : ℕ) (line : PendingLine) → Grows made (with_line_out made p line)
  line_grows made p line = go (nat_lt (made.net.out p) line.turn) refl
    where
      go : (b : Bool) → nat_lt (made.net.out p) line.turn ≡ b → Grows made (with_line_out made p line)
      go true e = rw e record {
        stands = λ one h. known_left one made.records (Rec.Out record { 0 = p } line.turn line.text ∷ []) before h;
        letters = λ l. letters_kept made (Rec.Out record { 0 = p } line.turn line.text ∷ []) l;
        takes = λ t. takes_append setup before made.records (Rec.Out record { 0 = p } line.turn line.text ∷ []) t tt;
      }
      go false e = rw e (grows_same made)

  lines_grow : (lines : List PendingLine) (made : Made S) (p : ℕ) → Grows made (with_lines_out made p lines)
  lines_grow [] made p = grows_same made
  lines_grow (line ∷ lines) made p = grows_both made (with_line_out made p line) (with_lines_out made p (line ∷ lines)) (line_grows made p line) (lines_grow lines (with_line_out made p line) p)

  message_grows : (made : Made S) (msg : Msg) (receiver : Option (Processor S)) → IsRouted setup msg.to.0 msg.body → Grows made (with_message_to made msg receiver)
  message_grows made msg None routed = record {
    stands = λ one h. known_left one made.records (Rec.Sent (made.net.sent + 1) msg ∷ Rec.Dropped (made.net.sent + 1) ∷ []) before h;
    letters = λ l. letters_kept made (Rec.Sent (made.net.sent + 1) msg ∷ Rec.Dropped (made.net.sent + 1) ∷ []) l;
    takes = λ t. takes_append setup before made.records (Rec.Sent (made.net.sent + 1) msg ∷ Rec.Dropped (made.net.sent + 1) ∷ []) t tt;
  }
  message_grows made msg (Some receiver) routed = record {
    stands = λ one h. known_left one made.records (Rec.Sent (made.net.sent + 1) msg ∷ []) before h;
    letters = λ l a b. with_one (letters_kept made (Rec.Sent (made.net.sent + 1) msg ∷ []) l) a b;
    takes = λ t. takes_append setup before made.records (Rec.Sent (made.net.sent + 1) msg ∷ []) t tt;
  }
    where
      with_one : AreLetters (Known (made.records ++ (Rec.Sent (made.net.sent + 1) msg ∷ [])) before) made.net → AreLetters (Known (made.records ++ (Rec.Sent (made.net.sent + 1) msg ∷ [])) before) (with_letter made.net msg)
      with_one l a b = elim (eqb_tells a msg.from.0) [
        | inl (t, i) ↦ elim (eqb_tells b msg.to.0) [
          | inl (u, j) ↦ rw (t, u) (subst (λ to. AllByRecursion (IsLetter setup (Known (made.records ++ (Rec.Sent (made.net.sent + 1) msg ∷ [])) before) to) (made.net.channels msg.from.0 msg.to.0 ++ record { number = made.net.sent + 1; msg = msg } ∷ [])) (sym j)
              (all_append _ (made.net.channels msg.from.0 msg.to.0) (record { number = made.net.sent + 1; msg = msg } ∷ []) (l msg.from.0 msg.to.0)
              (record { is_sent = inl (stands_right (Rec.Sent (made.net.sent + 1) msg) made.records (Rec.Sent (made.net.sent + 1) msg ∷ []) (inl refl)); is_to = refl; routed = routed }, tt)))
          | inr (u, _) ↦ rw (t, u) (l msg.from.0 b)
        ]
        | inr (t, _) ↦ rw t (l a b)
      ]

  messages_grow : (msgs : List Msg) (made : Made S) → AllByRecursion (λ (msg : Msg). IsRouted setup msg.to.0 msg.body) msgs → Grows made (with_messages made msgs)
  messages_grow [] made all = grows_same made
  messages_grow (msg ∷ msgs) made all =
      grows_both made (with_message made msg) (with_messages made (msg ∷ msgs)) (message_grows made msg (made.net.processors msg.to.0) all.0) (messages_grow msgs (with_message made msg) all.1)

  effect_grows : (made : Made S) (from p : ℕ) (effect : Effect S) → IsPlain effect → AllByRecursion (λ (msg : Msg). IsRouted setup msg.to.0 msg.body) effect.sends → Grows (with_processor made p effect.processor) (with_effect made from p effect)
  effect_grows made from p effect plain all =
      let first : Made S = with_processor made p effect.processor in
      let came : Made S = with_lines_out first from effect.carried in
      let sent : Made S = with_messages came effect.sends in
      rw (plain.no_replay, plain.no_note) (grows_both first came (with_lines_out sent p effect.outs) (lines_grow effect.carried first from)
      (grows_both came sent (with_lines_out sent p effect.outs) (messages_grow effect.sends came all) (lines_grow effect.outs sent p)))

-- Units.

is_in_unit : (one : Rec) (unit : ℕ) (records : List Rec) (before : List Group) → Known records before one → IsIn one (with_unit unit records before)
is_in_unit one unit [] before (inl h) = absurd h
is_in_unit one unit [] before (inr h) = h
is_in_unit one unit (x ∷ records) before h = h

module _ {S : Type 0} (setup : Setup) (first : ℕ → S) (threads : Semantics S) where
  record Has (known : Rec → Type 0) (net : Net S) : Type 0 where
    letters : (a b : ℕ) → AllByRecursion (IsLetter setup known b) (net.channels a b)
    mail : (p : ℕ) (s : Processor S) → net.processors p ≡ Some s → AllByRecursion (IsFrom setup known p) s.mail.grants

  record UnitHas (before : List Group) (made : Made S) : Type 0 where
    has : Has (Known made.records before) made.net
    takes : TakesAreGranted setup before made.records

  some_same : (a b : Processor S) → Some a ≡ Some b → a ≡ b
  some_same a b e = cc

  module _ (before : List Group) (net : Net S) (h : Has (λ one. IsIn one before) net) where
    old : (records : List Rec) (p : ℕ) (s : Processor S) → net.processors p ≡ Some s → AllByRecursion (IsFrom setup (Known records before) p) s.mail.grants
    old records p s e = all_weaker _ _ (λ (g : MailGrant) k. from_more setup (λ one. IsIn one before) (Known records before) (λ one x. inr x) p g k) s.mail.grants (h.mail p s e)

    old_letters : (records : List Rec) (channels : ℕ → ℕ → List Letter) → ((a b : ℕ) → AllByRecursion (IsLetter setup (λ one. IsIn one before) b) (channels a b)) → (a b : ℕ) → AllByRecursion (IsLetter setup (Known records before) b) (channels a b)
    old_letters records channels all a b = all_weaker _ _ (λ (l : Letter) k. letter_more setup (λ one. IsIn one before) (Known records before) (λ one x. inr x) b l k) (channels a b) (all a b)

    unchanged_has : UnitHas before record { net = net; records = [] }
    unchanged_has = record {
      has = record { letters = old_letters [] net.channels h.letters; mail = λ p s e. old [] p s e };
      takes = tt;
    }

    -- a unit of p with one record and then an effect
    effect_has : (made : Made S) (from p : ℕ) (effect : Effect S) → IsPlain effect → made.net.processors ≡ net.processors → ((a b : ℕ) → AllByRecursion (IsLetter setup (λ one. IsIn one before) b) (made.net.channels a b)) →
        IsTraced setup (Known made.records before) p effect → TakesAreGranted setup before made.records → UnitHas before (with_effect made from p effect)
    effect_has made from p effect plain same letters traced takes =
        let first : Made S = with_processor made p effect.processor in
        let grows : Grows setup before first (with_effect made from p effect) = effect_grows setup before made from p effect plain traced.sends in
        let stands : (one : Rec) → Known made.records before one → Known (with_effect made from p effect).records before one = λ one k. grows.stands one (known_left one made.records [] before k) in
        record {
          has = record {
            letters = grows.letters (old_letters first.records made.net.channels letters);
            mail = λ q s e. at q s (sym (ap (λ f. f q) (effect_kept made from p effect).processors) ∙ e) stands;
          };
          takes = grows.takes (takes_append setup before made.records [] takes tt);
        }
      where
        at : (q : ℕ) (s : Processor S) → update made.net.processors p (Some effect.processor) q ≡ Some s → ((one : Rec) → Known made.records before one → Known (with_effect made from p effect).records before one) →
            AllByRecursion (IsFrom setup (Known (with_effect made from p effect).records before) q) s.mail.grants
        at q s e stands = elim (eqb_tells q p) [
          | inl (t, i) ↦ subst (λ (x : Processor S). AllByRecursion (IsFrom setup (Known (with_effect made from p effect).records before) q) x.mail.grants) (some_same effect.processor s (rw t at e))
              (subst (λ r. AllByRecursion (IsFrom setup (Known (with_effect made from p effect).records before) r) effect.processor.mail.grants) (sym i)
              (all_weaker _ _ (λ (g : MailGrant) k. from_more setup (Known made.records before) (Known (with_effect made from p effect).records before) stands p g k) effect.processor.mail.grants traced.mail))
          | inr (t, _) ↦ old (with_effect made from p effect).records q s (ap (λ f. f q) (sym same) ∙ rw t at e)
        ]

    own_body : (own : Own S) (label : Label) → IsOwnBody (body_of setup own label)
    own_body own (Label.Ask lock mode) = tt
    own_body own (Label.Give lock) = gives (own.held lock.0)
      where
        gives : (o : Option Mode) → IsOwnBody (release_of setup own lock o)
        gives None = tt
        gives (Some Mode.Shared) = tt
        gives (Some Mode.Excl) = tt
    own_body own (Label.Arrive bar) = tt
    own_body own _ = tt

    module _ (p : ℕ) (s : Processor S) (e : net.processors p ≡ Some s) (turn : OwnTurn) (own : IsOwnTurn setup threads p s turn) where
      same_lock : (a b : Lock) → a.0 ≡ b.0 → a ≡ b
      same_lock a b i = ap (λ n. record { 0 = n }) i

      -- a take is answered by a grant that came from somewhere
      take_granted : (lock : Lock) (mode : Mode) (version : ℕ) → turn.label ≡ Label.Take lock mode version → (home_of setup lock.0 ≡ p) ⊎ WasGranted before p (s.own.turns + 1) lock version turn.lines
      take_granted lock mode version l = go (answered setup.bindings p (own_view s.own own.input.number) (threads.text s.own.thread) (threads.want s.own.thread) turn.label own.is_label)
        where
          by_grant : (grant : MailGrant) → grant.lock ≡ lock → grant.turn ≡ s.own.turns + 1 → grant.version ≡ version → grant.lines ≡ turn.lines → IsFrom setup (λ one. IsIn one before) p grant →
              (home_of setup lock.0 ≡ p) ⊎ WasGranted before p (s.own.turns + 1) lock version turn.lines
          by_grant grant is_lock is_turn is_version are_lines (inl home) = inl (ap (λ (x : Lock). home_of setup x.0) (sym is_lock) ∙ home)
          by_grant grant is_lock is_turn is_version are_lines (inr b) = inr record {
            number = b.number;
            msg = b.msg;
            mode = b.mode;
            is_sent = b.is_sent;
            is_delivered = b.is_delivered;
            is_to = b.is_to;
            is_grant = b.is_grant ∙ (λ i. Body.Grant (is_lock i) b.mode (is_turn i) (is_version i) (are_lines i));
          }

          go : Answer (threads.want s.own.thread) s.own.held turn.label → (home_of setup lock.0 ≡ p) ⊎ WasGranted before p (s.own.turns + 1) lock version turn.lines
          go (ByTake other m v w is) =
              let by : IsAnswered s other own.input = answered_by s other m (threads.want s.own.thread) own.input w own.is_input in
              let has = found_has (IsFrom setup (λ one. IsIn one before) p) (is_grant_for (s.own.turns + 1) other.0) s.mail.grants by.grant (h.mail p s e) by.is_found in
              let test = both_are (by.grant.turn == s.own.turns + 1) (by.grant.lock.0 == other.0) has.1 in
              let now : Some (Label.Take other m own.input.number) ≡ Some turn.label = rw w at own.is_label in
              let k : Label.Take other m own.input.number ≡ Label.Take lock mode version = (let x : Label.Take other m own.input.number ≡ turn.label = cc in x ∙ l) in
              let o : other ≡ lock = cc in
              let n : own.input.number ≡ version = cc in
              by_grant by.grant (same_lock by.grant.lock other (same_numbers by.grant.lock.0 other.0 test.1) ∙ o) (same_numbers by.grant.turn (s.own.turns + 1) test.0)
              (ap (λ (i : Input). i.number) (sym by.is_input) ∙ n) (ap (λ (i : Input). i.lines) (sym by.is_input) ∙ sym own.is_lines) has.0
          go (ByAsk other m line w is free) = absurd (let k : Label.Ask other m ≡ Label.Take lock mode version = sym is ∙ l in cc)
          go (ByGive other n is some) = absurd (let k : Label.Give other ≡ Label.Take lock mode version = sym is ∙ l in cc)
          go (ByOther n o) = absurd (let k : false ≡ true = sym (ap is_other l) ∙ o in cc)

      turn_takes : (label : Label) → turn.label ≡ label → TakesAreGranted setup before (Rec.Turn record { 0 = p } (s.own.turns + 1) label turn.lines ∷ [])
      turn_takes (Label.Take lock mode version) l = (take_granted lock mode version l, tt)
      turn_takes _ l = tt

    turn_has : (p : ℕ) (s : Processor S) → net.processors p ≡ Some s → (turn : Option OwnTurn) → own_turn setup threads p s ≡ turn → UnitHas before (step_with setup threads net p s turn)
    turn_has p s e None is = unchanged_has
    turn_has p s e (Some turn) is =
        let moved : Processor S = processor_after setup threads s turn in
        let made : Made S = record { net = net; records = Rec.Turn record { 0 = p } (s.own.turns + 1) turn.label turn.lines ∷ [] } in
        let plain = telling_plain setup p moved (body_of setup s.own turn.label) in
        let traced : IsTraced setup (Known made.records before) p (effect_of_telling setup p moved (body_of setup s.own turn.label)) =
        told_traced setup (Known made.records before) p moved (all_filter _ _ s.mail.grants (old made.records p s e)) (body_of setup s.own turn.label) (own_body s.own turn.label) in
        effect_has made p p (effect_of_turn setup threads p s turn) record { no_replay = plain.no_replay; no_note = plain.no_note } refl h.letters
        record { mail = traced.mail; sends = traced.sends } (turn_takes p s e turn (own_turn_is setup threads p s turn is) turn.label refl)

    step_has : (p : ℕ) (o : Option (Processor S)) → net.processors p ≡ o → UnitHas before (step_of setup threads net p o)
    step_has p None e = unchanged_has
    step_has p (Some s) e = turn_has p s e (own_turn setup threads p s) refl

    popped : (p q : ℕ) (others : List Letter) → AllByRecursion (IsLetter setup (λ one. IsIn one before) q) others → (a b : ℕ) → AllByRecursion (IsLetter setup (λ one. IsIn one before) b) (update_at net.channels p q others a b)
    popped p q others all a b = elim (eqb_tells a p) [
      | inl (t, i) ↦ elim (eqb_tells b q) [
        | inl (u, j) ↦ rw (t, u) (subst (λ y. AllByRecursion (IsLetter setup (λ one. IsIn one before) y) others) (sym j) all)
        | inr (u, _) ↦ rw (t, u) (h.letters p b)
      ]
      | inr (t, _) ↦ rw t (h.letters a b)
    ]

    -- a message that is delivered brings what it brings
    come : (q : ℕ) (letter : Letter) (body : Body) → letter.msg.body ≡ body → IsLetter setup (λ one. IsIn one before) q letter → HasCome setup (Known (Rec.Delivered letter.number ∷ []) before) q body
    come q letter (Body.Grant lock mode take version lines) b is = inr record {
      number = letter.number;
      msg = letter.msg;
      mode = mode;
      is_sent = inr is.is_sent;
      is_delivered = inl (inl refl);
      is_to = is.is_to;
      is_grant = b;
    }
    come q letter body b is = subst (IsRouted setup q) b is.routed

    delivery_has : (p q : ℕ) (letters : List Letter) → net.channels p q ≡ letters → (o : Option (Processor S)) → net.processors q ≡ o → UnitHas before (delivery_of setup net p q letters o)
    delivery_has p q [] c o e = unchanged_has
    delivery_has p q (letter ∷ others) c None e = unchanged_has
    delivery_has p q (letter ∷ others) c (Some s) e =
        let all : AllByRecursion (IsLetter setup (λ one. IsIn one before) q) (letter ∷ others) = subst (AllByRecursion (IsLetter setup (λ one. IsIn one before) q)) c (h.letters p q) in
        let heard : Processor S = with_carry s letter.msg.from.0 letter.msg.carry in
        let made : Made S = record { net = record net { channels = update_at net.channels p q others }; records = Rec.Delivered letter.number ∷ [] } in
        let plain = body_plain setup q heard letter.msg.from.0 letter.msg.carry.turn letter.msg.body in
        let traced : IsTraced setup (Known made.records before) q (effect_of_body setup q heard letter.msg.from.0 letter.msg.carry.turn letter.msg.body) =
        body_traced setup (Known made.records before) q heard (old made.records q s e) letter.msg.from.0 letter.msg.carry.turn letter.msg.body (come q letter letter.msg.body refl all.0) in
        effect_has made p q (effect_of_message setup q s letter.msg) record { no_replay = plain.no_replay; no_note = plain.no_note } refl (popped p q others all.1)
        record { mail = traced.mail; sends = traced.sends } tt

    unit_has : (act : Act) (outcome : Outcome) → UnitHas before (unit_of setup threads net act outcome)
    unit_has (Act.Step p) outcome = step_has p.0 (net.processors p.0) refl
    unit_has (Act.Deliver p q) outcome = delivery_has p.0 q.0 (net.channels p.0 q.0) refl (net.processors q.0) refl
    unit_has _ outcome = unchanged_has

  -- After all units.

  record RunHas (past : List Done) : Type 0 where
    has : Has (λ one. IsIn one (run_of setup first threads past).groups) (run_of setup first threads past).net
    takes : AllTakesAreGranted setup (run_of setup first threads past).groups

  all_takes : (unit : ℕ) (records : List Rec) (before : List Group) → AllTakesAreGranted setup before → TakesAreGranted setup before records → AllTakesAreGranted setup (with_unit unit records before)
  all_takes unit [] before all takes = all
  all_takes unit (x ∷ records) before all takes = (all, takes)

  run_has : (past : List Done) → RunHas past
  run_has [] = record {
    has = record {
      letters = λ a b. tt;
      mail = λ p s e. subst (λ (x : Processor S). AllByRecursion (IsFrom setup (λ one. IsIn one []) p) x.mail.grants) (some_same (start_processor (first p)) s e) tt;
    };
    takes = tt;
  }
  run_has (done ∷ past) =
      let ran = run_of setup first threads past in
      let was : RunHas past = run_has past in
      let made : Made S = unit_of setup threads ran.net done.act done.outcome in
      let unit : UnitHas ran.groups made = unit_has ran.groups ran.net was.has done.act done.outcome in
      let more : (one : Rec) → Known made.records ran.groups one → IsIn one (with_unit (length past + 1) made.records ran.groups) = λ one k. is_in_unit one (length past + 1) made.records ran.groups k in
      record {
        has = record {
          letters = λ a b. all_weaker _ _ (λ (l : Letter) k. letter_more setup (Known made.records ran.groups) (λ one. IsIn one (with_unit (length past + 1) made.records ran.groups)) more b l k) (made.net.channels a b) (unit.has.letters a b);
          mail = λ p s e. all_weaker _ _ (λ (g : MailGrant) k. from_more setup (Known made.records ran.groups) (λ one. IsIn one (with_unit (length past + 1) made.records ran.groups)) more p g k) s.mail.grants (unit.has.mail p s e);
        };
        takes = all_takes (length past + 1) made.records ran.groups was.takes unit.takes;
      }

  pub takes_granted : (acts : List Act) (trace : List Group) → FitsUnits setup first threads acts trace → AllTakesAreGranted setup trace
  takes_granted acts trace fits = subst (AllTakesAreGranted setup) fits.is_trace (run_has fits.done).takes
