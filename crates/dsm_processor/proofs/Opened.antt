-- A manager once an arrival has come that counts, and the openings that it sends for it.
use Rattle.std.proofs.Common.{◌≡◌, ◌<◌, ◌≤◌, ℕ, Bool, true, false, ◌==◌, ◌&&◌, not, nat_lt, List, ◌++◌, map, filter, sym, subst, ◌∙◌, inl, inr, arith}
use Rattle.std.proofs.lemmas.Bool.Decides.{eqb_tells, nat_tests}
use Rattle.dsm_base.specs.declared.names.Bar.{Bar}
use Rattle.dsm_base.specs.declared.setup.Setup.{Setup}
use Rattle.dsm_base.specs.Family.{update}
use Rattle.dsm_base.proofs.Families.{update_same}
use Rattle.dsm_lines.specs.declared.list.Line.{Line}
use Rattle.dsm_lines.specs.declared.of_objects.Opening.{Opening}
use Rattle.dsm_msg.specs.declared.message.Body.{Body}
use Rattle.dsm_msg.specs.declared.message.Msg.{Msg}
use Rattle.dsm_barrier.specs.BarrierStates.{BarrierState, counts, arrivals_of, arrived_in, with_arrival, opened_where_due, openings_due}
use Rattle.dsm_net.specs.Processor.{Processor, Peer}
use Rattle.dsm_net.specs.Messages.{message}
use Rattle.dsm_net.specs.Openings.{own_opening, opening_message, is_to}
use Rattle.dsm_net.specs.Effects.{with_last, with_arrived, effect_of_openings}
use Rattle.dsm_processor.proofs.Granted.{change_twice}

pub same_tests : (a b : ℕ) → a ≡ b → (a == b) ≡ true
same_tests a b same = grind arith

-- whether an opening is for a processor
pub is_for : (one : Opening) (p : ℕ) → one.to.0 ≡ p → is_to p one ≡ true
is_for one p same = grind arith

pub not_for : (one : Opening) (p : ℕ) → (one.to.0 ≡ p → ⊥) → is_to p one ≡ false
not_for one p differs = grind arith

-- an arrival that counts over one turn counts over an earlier one
pub counts_over : (state : BarrierState) (least last from turn epoch : ℕ) → least ≤ last → counts state last from turn epoch ≡ true → counts state least from turn epoch ≡ true
counts_over state least last from turn epoch le = go (epoch == arrivals_of state from)
  where
    go : (b : Bool) → (nat_lt last turn && b) ≡ true → (nat_lt least turn && b) ≡ true
    go true h = grind (arith, nat_tests)
    go false h = grind (arith, nat_tests)

pub counts_newer : (state : BarrierState) (last from turn epoch : ℕ) → counts state last from turn epoch ≡ true → last < turn
counts_newer state last from turn epoch = go (epoch == arrivals_of state from)
  where
    go : (b : Bool) → (nat_lt last turn && b) ≡ true → last < turn
    go true h = grind (arith, nat_tests)
    go false h = grind (arith, nat_tests)

-- the last turn that counts of each processor is at least that of its last arrival
pub last_kept : (last : ℕ → ℕ) (peers now : ℕ → Peer) (from : ℕ) (peer : Peer) → now ≡ update peers from peer → (peers from).last ≤ peer.last → ((p : ℕ) → last p ≤ (peers p).last) → (p : ℕ) → last p ≤ (now p).last
last_kept last peers now from peer is grows all p = subst (λ (f : ℕ → Peer). last p ≤ (f p).last) (sym is) (elim (eqb_tells p from) [
  | inl (t, i) ↦ rw t (subst (λ q. last q ≤ peer.last) (sym i) (let l = all from in omega (arith, l, grows)))
  | inr (t, _) ↦ rw t (all p)
])

pub last_moved : (last moved : ℕ → ℕ) (peers now : ℕ → Peer) (from turn : ℕ) → moved ≡ update last from turn → now ≡ update peers from (record (peers from) { last = turn }) → ((p : ℕ) → last p ≤ (peers p).last) → (p : ℕ) → moved p ≤ (now p).last
last_moved last moved peers now from turn is_moved is all p =
    subst (λ (f : ℕ → Peer). moved p ≤ (f p).last) (sym is) (subst (λ (f : ℕ → ℕ). f p ≤ (update peers from (record (peers from) { last = turn }) p).last) (sym is_moved) (elim (eqb_tells p from) [
      | inl (t, _) ↦ rw t (omega arith)
      | inr (t, _) ↦ rw t (all p)
    ]))

module _ {S : Type 0} (setup : Setup) (me : ℕ) (s now : Processor S) (from turn : ℕ) (bar : Bar) (lines : List Line) (openings : List Opening)
    (is_now : now ≡ record (with_last s from turn) { barriers = update s.barriers bar.0 (opened_where_due setup.procs (with_arrival (s.barriers bar.0) from (arrived_in turn lines))) })
    (are_openings : openings ≡ openings_due setup.procs bar (with_arrival (s.barriers bar.0) from (arrived_in turn lines))) where
  abbrev arrived : Processor S
  arrived = with_arrived s from turn bar lines

  same_state : arrived.barriers bar.0 ≡ with_arrival (s.barriers bar.0) from (arrived_in turn lines)
  same_state = update_same s.barriers bar.0 (with_arrival (s.barriers bar.0) from (arrived_in turn lines))

  pub opening_sends_are : (sends : List Msg) → sends ≡ map (opening_message me now) (filter (λ one. not (is_to me one)) openings) → sends ≡ (effect_of_openings setup me arrived bar).sends
  opening_sends_are sends are =
      are
      ∙ (λ i. map (opening_message me (is_now i)) (filter (λ one. not (is_to me one)) (are_openings i)))
      ∙ (λ i. map (λ (one : Opening). message me arrived one.to.0 (Body.Opened one.bar one.epoch one.lines)) (filter (λ one. not (is_to me one)) (openings_due setup.procs bar (sym same_state i))))

  pub opened_processor_is : (after : Processor S)
      → after ≡ record now { mail = record now.mail { openings = now.mail.openings ++ map own_opening (filter (is_to me) openings) } }
      → after ≡ (effect_of_openings setup me arrived bar).processor
  opened_processor_is after is =
      is
      ∙ (λ i. record (is_now i) { mail = record (is_now i).mail { openings = (is_now i).mail.openings ++ map own_opening (filter (is_to me) (are_openings i)) } })
      ∙ (λ i. record (with_last s from turn) {
        barriers = change_twice s.barriers bar.0 (with_arrival (s.barriers bar.0) from (arrived_in turn lines)) (opened_where_due setup.procs) i;
        mail = record s.mail {
          openings = s.mail.openings ++ map own_opening (filter (is_to me) (openings_due setup.procs bar (sym same_state i)));
        };
      })
