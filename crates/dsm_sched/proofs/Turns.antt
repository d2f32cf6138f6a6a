-- The units of `finish`, and those of an entry, by their numbers.
use Rattle.std.specs.Prelude.{◌≡◌, ◌<◌, ◌≤◌, ℕ, zero, suc, ◌+◌, ◌*◌, ◌/◌, ◌%◌, length, map, replicate, Some, slice_get}
use Rattle.std.specs.List.{flat_map, range_with_len}
use Rattle.std.proofs.Common.{◌∙◌, ap, sym, refl, arith, get_or}
use Rattle.std.proofs.lemmas.List.{get_or-map, length-map, length-replicate, get_or-replicate}
use Rattle.std.proofs.lemmas.Option.{slice_get-get_or, slice_get_within}
use Rattle.std.proofs.lemmas.Nat.{div_below}
use Rattle.dsm_base.specs.declared.act.Act.{Act}
use Rattle.dsm_sched.specs.declared.schedule.Entry.{Entry}
use Rattle.dsm_sched.specs.Schedules.{others_of, deliver_to, turn_of, round_of, units_of_entry, unit_count}
use Rattle.dsm_sched.proofs.Pieces.{length-pieces, get_or-pieces, within_pieces, AreOfSize}
use Rattle.dsm_sched.proofs.Others.{length-others, lower_at, upper_at}

length-turn : (procs proc : ℕ) → proc < procs → length (turn_of procs proc) ≡ procs
length-turn procs proc h =
    let others : length (others_of procs proc) + 1 ≡ procs = length-others proc 0 procs (omega arith) (omega arith) in
    let same : length (map (deliver_to proc) (others_of procs proc)) ≡ length (others_of procs proc) = length-map (others_of procs proc) (deliver_to proc) in
    omega (arith, others, same)

turns_of_size : (procs : ℕ) → AreOfSize (turn_of procs) procs 0 procs
turns_of_size procs i low high = length-turn procs i (omega arith)

pub length-round : (procs : ℕ) → length (round_of procs) ≡ procs * procs
length-round procs = length-pieces (turn_of procs) procs 0 procs (turns_of_size procs)

-- a unit of a processor's turn is one of the round
turn_at : (procs proc j : ℕ) (act : Act) → proc < procs → j < procs → get_or (turn_of procs proc) j act ≡ act → slice_get (round_of procs) (proc * procs + j) ≡ Some act
turn_at procs proc j act h k is =
    let here : 0 + proc ≡ proc = omega arith in
    let within : proc * procs + j < length (round_of procs) = rw length-round (within_pieces proc procs j procs h k) in
    slice_get-get_or (round_of procs) (proc * procs + j) act within
    ∙ ap Some (get_or-pieces (turn_of procs) procs 0 procs proc j act (turns_of_size procs) h k ∙ ap (λ p. get_or (turn_of procs p) j act) here ∙ is)

-- it is a delivery, but the first
delivery : (procs proc j to : ℕ) (act : Act) → j < length (others_of procs proc) → get_or (others_of procs proc) j 0 ≡ to → get_or (turn_of procs proc) (suc j) act ≡ deliver_to proc to
delivery procs proc j to act within is = get_or-map (deliver_to proc) (others_of procs proc) j 0 act within ∙ ap (deliver_to proc) is

abbrev at_number : ℕ → ℕ → Act → Type 0
at_number procs number act = slice_get (round_of procs) number ≡ Some act

split_number : (procs number : ℕ) → 0 < procs → number / procs * procs + number % procs ≡ number
split_number procs number some = omega arith

some_procs : (procs number : ℕ) → number < procs * procs → 0 < procs
some_procs zero number h = absurd (omega arith)
some_procs (suc procs) number h = omega arith

module _ (procs number : ℕ) (h : number < procs * procs) where
  abbrev proc : ℕ
  proc = number / procs

  abbrev place : ℕ
  place = number % procs

  some : 0 < procs
  some = some_procs procs number h

  pub proc_below : number / procs < procs
  proc_below = div_below number procs procs some h

  place_below : number % procs < procs
  place_below = omega (arith, some)

  others_are : length (others_of procs (number / procs)) + 1 ≡ procs
  others_are = length-others (number / procs) 0 procs (omega arith) (omega (arith, proc_below))

  pub step_at : number % procs ≡ 0 → slice_get (round_of procs) number ≡ Some (Act.Step record { 0 = number / procs })
  step_at first =
      let is : get_or (turn_of procs (number / procs)) (number % procs) (Act.Step record { 0 = number / procs }) ≡ Act.Step record { 0 = number / procs } = rw first refl in
      ap (slice_get (round_of procs)) (sym (split_number procs number some))
      ∙ turn_at procs (number / procs) (number % procs) (Act.Step record { 0 = number / procs }) proc_below place_below is

  deliver_at : (j to : ℕ) → number % procs ≡ suc j → get_or (others_of procs (number / procs)) j 0 ≡ to → slice_get (round_of procs) number ≡ Some (deliver_to (number / procs) to)
  deliver_at j to later other =
      let within : j < length (others_of procs (number / procs)) = omega (arith, others_are, place_below, later) in
      let is : get_or (turn_of procs (number / procs)) (number % procs) (deliver_to (number / procs) to) ≡ deliver_to (number / procs) to =
      ap (λ n. get_or (turn_of procs (number / procs)) n (deliver_to (number / procs) to)) later ∙ delivery procs (number / procs) j to (deliver_to (number / procs) to) within other in
      ap (slice_get (round_of procs)) (sym (split_number procs number some))
      ∙ turn_at procs (number / procs) (number % procs) (deliver_to (number / procs) to) proc_below place_below is

  pub deliver_below : (j : ℕ) → number % procs ≡ suc j → suc j ≤ number / procs → slice_get (round_of procs) number ≡ Some (deliver_to (number / procs) j)
  deliver_below j later low = deliver_at j j later (lower_at (number / procs) 0 procs j 0 (omega arith) (omega (arith, proc_below)) ∙ omega arith)

  pub deliver_above : (j : ℕ) → number % procs ≡ suc j → number / procs < suc j → slice_get (round_of procs) number ≡ Some (deliver_to (number / procs) (suc j))
  deliver_above j later high = deliver_at j (suc j) later (upper_at (number / procs) 0 procs j 0 (omega arith) (omega arith) (omega (arith, place_below, later)) ∙ omega arith)

-- The units of an entry.

pub length-units : (procs : ℕ) (entry : Entry) → length (units_of_entry procs entry) ≡ unit_count procs entry
length-units procs (Entry.Unit act count) = length-replicate count act
length-units procs (Entry.Finish rounds) = length-pieces (λ _. round_of procs) (procs * procs) 0 rounds (λ i low high. length-round procs)

pub counted_at : (act : Act) (count number : ℕ) → number < count → slice_get (replicate count act) number ≡ Some act
counted_at act count number h =
    let within : number < length (replicate count act) = rw length-replicate h in
    slice_get-get_or (replicate count act) number act within ∙ ap Some (get_or-replicate count number act act h)

same_some : (a b : Act) → Some a ≡ Some b → a ≡ b
same_some a b e = cc

pub finish_at : (procs rounds number : ℕ) (act : Act) → 0 < procs * procs → number < rounds * (procs * procs) → slice_get (round_of procs) (number % (procs * procs)) ≡ Some act
    → slice_get (flat_map (λ _. round_of procs) (range_with_len 0 rounds)) number ≡ Some act
finish_at procs rounds number act some h is =
    let size = procs * procs in
    let all : AreOfSize (λ _. round_of procs) (procs * procs) 0 rounds = λ i low high. length-round procs in
    let row : number / (procs * procs) < rounds = div_below number (procs * procs) rounds some h in
    let place : number % (procs * procs) < procs * procs = omega (arith, some) in
    let within : number % (procs * procs) < length (round_of procs) = slice_get_within (round_of procs) (number % (procs * procs)) act is in
    let there : get_or (round_of procs) (number % (procs * procs)) act ≡ act = same_some _ _ (sym (slice_get-get_or (round_of procs) (number % (procs * procs)) act within) ∙ is) in
    let few : number / (procs * procs) * (procs * procs) + number % (procs * procs) < length (flat_map (λ _. round_of procs) (range_with_len 0 rounds)) =
    rw (length-pieces (λ _. round_of procs) (procs * procs) 0 rounds all) (within_pieces (number / (procs * procs)) rounds (number % (procs * procs)) (procs * procs) row place) in
    ap (slice_get (flat_map (λ _. round_of procs) (range_with_len 0 rounds))) (sym (split_number (procs * procs) number some))
    ∙ slice_get-get_or (flat_map (λ _. round_of procs) (range_with_len 0 rounds)) (number / (procs * procs) * (procs * procs) + number % (procs * procs)) act few
    ∙ ap Some (get_or-pieces (λ _. round_of procs) (procs * procs) 0 rounds (number / (procs * procs)) (number % (procs * procs)) act all row place ∙ there)
