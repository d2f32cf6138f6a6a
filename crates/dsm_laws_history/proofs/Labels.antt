-- The label that a processor makes by what it sees is the label of its turn over one memory.
use Rattle.std.specs.Prelude.{◌≡◌, ℕ, Bool, true, false, if◌then◌else◌, List, Some}
use Rattle.std.proofs.Common.{refl, sym, ap, ◌∙◌}
use Rattle.dsm_base.specs.declared.names.Cell.{Cell}
use Rattle.dsm_base.specs.declared.names.Lock.{Lock}
use Rattle.dsm_base.specs.declared.names.Bar.{Bar}
use Rattle.dsm_base.specs.declared.names.Mode.{Mode}
use Rattle.dsm_base.specs.declared.names.Fault.{Fault}
use Rattle.dsm_base.specs.declared.label.Label.{Label}
use Rattle.dsm_base.specs.declared.label.Want.{Want}
use Rattle.dsm_base.specs.declared.setup.Piece.{Piece}
use Rattle.dsm_base.specs.declared.setup.Setup.{Setup}
use Rattle.dsm_base.specs.Access.{may_load}
use Rattle.dsm_base.specs.Plain.{Surroundings, label_of, PlainState, seen_by, can_take, can_cross, is_possible, plain_turn_of}

-- two see the same of what a want reads
pub record IsSameSight (pieces : List Piece) (p : ℕ) (own seen : Surroundings) (want : Want) : Type 0 where
  pub rights : own.rights ≡ seen.rights
  pub memory : (cell : Cell) (line : ℕ) → want ≡ Want.Load cell line → may_load pieces p seen.rights cell.0 ≡ true → own.memory cell.0 ≡ seen.memory cell.0
  pub versions : (lock : Lock) (mode : Mode) → want ≡ Want.Take lock mode → own.versions lock.0 ≡ seen.versions lock.0

-- they come to the same label
pub label_same : (pieces : List Piece) (p : ℕ) (own seen : Surroundings) (text : List ℕ) (want : Want) → IsSameSight pieces p own seen want → label_of pieces p own text want ≡ label_of pieces p seen text want
label_same pieces p own seen text Want.Quiet same = refl
label_same pieces p own seen text (Want.Load cell line) same = rw same.rights (go (may_load pieces p seen.rights cell.0) refl)
  where
    go : (b : Bool) → may_load pieces p seen.rights cell.0 ≡ b →
        Some (if may_load pieces p seen.rights cell.0 then Label.Load cell (own.memory cell.0) else Label.Stop Fault.Unbound line)
        ≡ Some (if may_load pieces p seen.rights cell.0 then Label.Load cell (seen.memory cell.0) else Label.Stop Fault.Unbound line)
    go true c = rw (c, same.memory cell line refl c) refl
    go false c = rw c refl
label_same pieces p own seen text (Want.Store cell value line) same = rw same.rights refl
label_same pieces p own seen text (Want.Ask lock mode line) same = rw same.rights refl
label_same pieces p own seen text (Want.Take lock mode) same = ap (λ version. Some (Label.Take lock mode version)) (same.versions lock mode refl)
label_same pieces p own seen text (Want.Give lock line) same = rw same.rights refl
label_same pieces p own seen text (Want.Arrive bar) same = refl
label_same pieces p own seen text (Want.Cross bar) same = rw same.rights refl
label_same pieces p own seen text Want.Line same = refl
label_same pieces p own seen text Want.End same = refl
label_same pieces p own seen text (Want.Stop fault line) same = refl
label_same pieces p own seen text Want.Over same = refl

-- a want that need not wait for the others
pub record IsFreeToGo {S : Type 0} (procs : ℕ) (s : PlainState S) (p : ℕ) (want : Want) : Type 0 where
  pub takes : (lock : Lock) (mode : Mode) → want ≡ Want.Take lock mode → can_take procs s.held p lock.0 mode ≡ true
  pub crosses : (bar : Bar) → want ≡ Want.Cross bar → can_cross procs s.arrived (s.crossed p bar.0) bar.0 ≡ true

pub possible : {S : Type 0} (procs : ℕ) (s : PlainState S) (p : ℕ) (want : Want) → IsFreeToGo procs s p want → is_possible procs s p want ≡ true
possible procs s p (Want.Take lock mode) free = free.takes lock mode refl
possible procs s p (Want.Cross bar) free = free.crosses bar refl
possible procs s p _ free = refl

pub plain_label : {S : Type 0} (setup : Setup) (p : ℕ) (own : Surroundings) (s : PlainState S) (text : List ℕ) (want : Want) (label : Label) → IsSameSight setup.bindings p own (seen_by s p) want → IsFreeToGo setup.procs s p want →
    label_of setup.bindings p own text want ≡ Some label → plain_turn_of setup s p text want ≡ Some label
plain_label setup p own s text want label same free e = rw (possible setup.procs s p want free) (sym (label_same setup.bindings p own (seen_by s p) text want same) ∙ e)
