-- What follows for the answers from the reader of all fields being exact.
use Rattle.std.proofs.Common.{◌≡◌, ◌∙◌, ℕ, ◌+◌, ◌-◌, ◌<◌, List, [], ◌∷◌, ◌++◌, length, Result, Ok, Err, refl, sym, ap, subst, arith}
use Rattle.std.proofs.lemmas.List.{append-nil, length-append}
use Rattle.dsm_base.specs.BigEndian.{IsBytes}
use Rattle.dsm_base.specs.declared.errors.LoadErr.{LoadErr}
use Rattle.dsm_base.specs.declared.errors.LoadErr.TheVariants as errors
use Rattle.dsm_fields.specs.Fields.{bytes_of}
use Rattle.dsm_fields.specs.Reading.{Cut, Broken, Read}
use Rattle.dsm_fields.proofs.Exact.{ok_is}
use Rattle.dsm_code.specs.Programs.{Program}
use Rattle.dsm_saved.specs.declared.saved.Saved.{Saved}
use Rattle.dsm_saved.specs.Reading.{saved_at}
use Rattle.dsm_saved.specs.Answers.{IsSaved, saved_bytes, Begins, IsBad, cut, broken, behind, Spells, IsAnswer, OrMemory, answer_of}
use Rattle.dsm_saved.proofs.Grammar.{saved_exact}

abbrev Answer : Type 0
Answer = Result Saved LoadErr

abbrev misplaced : ℕ → Answer
misplaced place = Err (errors.BadImage place)

pub or_weaker : {A : Type 0} {P Q : Type 0} (result : Result A LoadErr) → (P → Q) → OrMemory result P → OrMemory result Q
or_weaker (Ok value) f p = f p
or_weaker (Err (errors.Damaged kept found)) f p = f p
or_weaker (Err (errors.BadImage place)) f p = f p
or_weaker (Err errors.StoreFault) f p = f p
or_weaker (Err errors.Memory) f p = tt

-- how many bytes are left
left_in : (front back : List ℕ) (size left : ℕ) → length (front ++ back) ≡ size → left ≡ length back → size - left + left ≡ size
left_in front back size left len is = omega (arith, len, is, length-append front back)

module _ (program : Program) (bytes : List ℕ) (small : IsBytes bytes) where
  -- what was read
  read_begins : (saved : Saved) (rest : List ℕ) → saved_at program bytes ≡ Ok (saved, rest) → Begins program bytes saved rest
  read_begins saved rest read =
      let took = (saved_exact program).took bytes saved rest small read in
      record { is = record { shaped = took.is; fit = took.fit }; parts = took.parts }

  read_bad : (read : Read Saved) (place : ℕ) → saved_at program bytes ≡ read → answer_of (length bytes) read ≡ misplaced place → IsBad program bytes place
  read_bad (Ok (saved, [])) place read end = absurd cc
  read_bad (Ok (saved, byte ∷ rest)) place read end =
      let begins = read_begins saved (byte ∷ rest) read in
      let same : length bytes - length (byte ∷ rest) ≡ place = cc in
      subst (IsBad program bytes) same (behind saved (byte ∷ rest) begins (omega arith) (left_in (saved_bytes program saved) (byte ∷ rest) (length bytes) (length (byte ∷ rest)) (sym (ap length begins.parts)) refl))
  read_bad (Err (Cut left)) place read end =
      let c = (saved_exact program).cut bytes left small read in
      let same : length bytes - left ≡ place = cc in
      subst (IsBad program bytes) same (cut left c (left_in (bytes_of c.front) c.rest (length bytes) left (sym (ap length c.reaches.goes)) c.at))
  read_bad (Err (Broken left)) place read end =
      let b = (saved_exact program).broke bytes left small read in
      let same : length bytes - left ≡ place = cc in
      subst (IsBad program bytes) same (broken left b (left_in (bytes_of b.front) b.rest (length bytes) left (sym (ap length b.reaches.goes)) b.at))

  read_spells : (read : Read Saved) (saved : Saved) → saved_at program bytes ≡ read → answer_of (length bytes) read ≡ Ok saved → Spells program bytes saved
  read_spells (Ok (other, [])) saved read end =
      let same : other ≡ saved = cc in
      let begins = read_begins other [] read in
      subst (Spells program bytes) same (record { is = begins.is; spelled = begins.parts ∙ append-nil (saved_bytes program other) })
  read_spells (Ok (other, byte ∷ rest)) saved read end = absurd cc
  read_spells (Err (Cut left)) saved read end = absurd cc
  read_spells (Err (Broken left)) saved read end = absurd cc

  read_other : (read : Read Saved) (e : LoadErr) → answer_of (length bytes) read ≡ Err e → ((place : ℕ) → e ≡ errors.BadImage place → ⊥) → ⊥
  read_other (Ok (other, [])) e end never = absurd cc
  read_other (Ok (other, byte ∷ rest)) e end never = never (length bytes - length (byte ∷ rest)) cc
  read_other (Err (Cut left)) e end never = never (length bytes - left) cc
  read_other (Err (Broken left)) e end never = never (length bytes - left) cc

  fits_of : (answer : Answer) → answer ≡ answer_of (length bytes) (saved_at program bytes) → IsAnswer program answer bytes
  fits_of (Ok saved) is = read_spells (saved_at program bytes) saved refl (sym is)
  fits_of (Err (errors.BadImage place)) is = read_bad (saved_at program bytes) place refl (sym is)
  fits_of (Err (errors.Damaged kept found)) is = read_other (saved_at program bytes) (errors.Damaged kept found) (sym is) (λ place e. cc (e))
  fits_of (Err errors.StoreFault) is = read_other (saved_at program bytes) errors.StoreFault (sym is) (λ place e. cc (e))
  fits_of (Err errors.Memory) is = read_other (saved_at program bytes) errors.Memory (sym is) (λ place e. cc (e))

  -- the answer of the code fits
  pub answer_fits : (answer : Answer) → OrMemory answer (answer ≡ answer_of (length bytes) (saved_at program bytes)) → OrMemory answer (IsAnswer program answer bytes)
  answer_fits answer said = or_weaker answer (fits_of answer) said

  -- ---- what fits is what reading gives

  place_is : (place left size : ℕ) → place + left ≡ size → place ≡ size - left
  place_is place left size e = omega (arith, e)

  rest_answer : (size : ℕ) (saved : Saved) (rest : List ℕ) → 0 < length rest → answer_of size (Ok (saved, rest)) ≡ misplaced (size - length rest)
  rest_answer size saved [] some = absurd (omega (arith, some))
  rest_answer size saved (byte ∷ rest) some = refl

  begins_read : (saved : Saved) (rest : List ℕ) → Begins program bytes saved rest → saved_at program bytes ≡ Ok (saved, rest)
  begins_read saved rest b = ap (saved_at program) b.parts ∙ (saved_exact program).again saved rest b.is.shaped b.is.fit

  bad_is : (place : ℕ) → IsBad program bytes place → misplaced place ≡ answer_of (length bytes) (saved_at program bytes)
  bad_is place (cut left c ends) =
      ap misplaced (place_is place left (length bytes) ends) ∙ sym (ap (answer_of (length bytes)) ((saved_exact program).ends bytes left small c))
  bad_is place (broken left b ends) =
      ap misplaced (place_is place left (length bytes) ends) ∙ sym (ap (answer_of (length bytes)) ((saved_exact program).breaks bytes left small b))
  bad_is place (behind saved rest begins some ends) =
      ap misplaced (place_is place (length rest) (length bytes) ends) ∙ sym (rest_answer (length bytes) saved rest some) ∙ sym (ap (answer_of (length bytes)) (begins_read saved rest begins))

  answer_is : (answer : Answer) → IsAnswer program answer bytes → answer ≡ answer_of (length bytes) (saved_at program bytes)
  answer_is (Ok saved) fits =
      let begins : Begins program bytes saved [] = record { is = fits.is; parts = fits.spelled ∙ sym (append-nil (saved_bytes program saved)) } in
      sym (ap (answer_of (length bytes)) (begins_read saved [] begins))
  answer_is (Err (errors.BadImage place)) fits = bad_is place fits
  answer_is (Err (errors.Damaged kept found)) fits = absurd fits
  answer_is (Err errors.StoreFault) fits = absurd fits
  answer_is (Err errors.Memory) fits = absurd fits

  pub same_answer : (answer other : Answer) → answer ≡ answer_of (length bytes) (saved_at program bytes) → IsAnswer program other bytes → answer ≡ other
  same_answer answer other is fits = is ∙ sym (answer_is other fits)

-- two saved threads with the same bytes are the same
pub same_saved : (program : Program) (a b : Saved) → IsSaved program a → IsSaved program b → saved_bytes program a ≡ saved_bytes program b → a ≡ b
same_saved program a b isa isb e =
    let one = (saved_exact program).again a [] isa.shaped isa.fit in
    let two = (saved_exact program).again b [] isb.shaped isb.fit in
    ap (λ (x : Saved × List ℕ). x.0) (ok_is (a, []) (b, []) (sym one ∙ ap (λ (w : List ℕ). saved_at program (w ++ [])) e ∙ two))
