-- What a course tells of its parts, and of who has the lock.
use Rattle.std.specs.Prelude.{◌≡◌, ℕ, suc, ◌+◌, ◌≤◌, ◌<◌, Bool, true, false, if◌then◌else◌, nat_lt, List, [], ◌∷◌, ◌++◌, length, map, Option, Some, None}
use Rattle.std.proofs.Common.{arith, refl, sym, ap, ◌∙◌, inl, inr, subst, true≢false}
use Rattle.std.proofs.lemmas.Bool.Decides.{leb_tells}
use Rattle.std.proofs.lemmas.List.{length-map}
use Rattle.dsm_base.specs.declared.names.Mode.{Mode}
use Rattle.dsm_laws_protocol.specs.Courses.{upto, past, Move, asks, takes, gives, still, Claim, claim_of, is_exclusive_claim, has_ask, has_ask_behind, made_by, have_by, held_by, May, Follows, IsCourse}

module _ {A : Type 0} where
  pub upto_grown : (k : ℕ) (x : A) (xs : List A) → k ≤ length xs → upto k (x ∷ xs) ≡ upto k xs
  upto_grown k x xs le = grind arith

  pub past_grown : (k : ℕ) (x : A) (xs : List A) → k ≤ length xs → past k (x ∷ xs) ≡ x ∷ past k xs
  past_grown k x xs le = grind arith

  pub upto_all : (k : ℕ) (xs : List A) → length xs ≤ k → upto k xs ≡ xs
  upto_all k [] le = refl
  upto_all k (x ∷ xs) le = grind arith

  pub past_all : (k : ℕ) (xs : List A) → length xs ≤ k → past k xs ≡ []
  past_all k [] le = refl
  past_all k (x ∷ xs) le = grind arith

  pub upto_length : (k : ℕ) (xs : List A) → k ≤ length xs → length (upto k xs) ≡ k
  upto_length k [] le = omega arith
  upto_length k (x ∷ xs) le = grind (arith, upto_length k xs)

  pub past_upto : (k : ℕ) (xs : List A) → past k xs ++ upto k xs ≡ xs
  past_upto k [] = refl
  past_upto k (x ∷ xs) = grind (arith, past_upto k xs)

  pub upto_upto : (j k : ℕ) (xs : List A) → j ≤ k → upto j (upto k xs) ≡ upto j xs
  upto_upto j k [] le = refl
  upto_upto j k (x ∷ xs) le = grind (arith, upto_upto j k xs le)

-- the claim was version_made within the course
pub claim_within : (moves : List Move) (claim : Claim) → claim_of moves ≡ Some claim → claim.turn ≤ length moves
claim_within [] claim e = cc
claim_within (asks mode ∷ before) claim e = let k : claim.turn ≡ length before + 1 = ap (λ o. elim o as (λ _. ℕ) [ None ↦ 0 | Some c ↦ c.turn ]) (sym e) in omega arith
claim_within (takes mode version ∷ before) claim e = let k = claim_within before claim e in omega arith
claim_within (gives ∷ before) claim e = cc
claim_within (still ∷ before) claim e = let k = claim_within before claim e in omega arith

-- an ask beyond some turn that isn't the newest is seen there
pub ask_past : (k t : ℕ) (mode : _) (moves before : List Move) → k < t → t ≤ length moves → upto t moves ≡ asks mode ∷ before → has_ask (past k moves) ≡ true
ask_past k t mode [] before lt le e = cc
ask_past k t mode (asks other ∷ moves) before lt le e = grind (arith, ask_past k t mode moves before lt)
ask_past k t mode (takes other version ∷ moves) before lt le e = grind (arith, ask_past k t mode moves before lt)
ask_past k t mode (gives ∷ moves) before lt le e = grind (arith, ask_past k t mode moves before lt)
ask_past k t mode (still ∷ moves) before lt le e = grind (arith, ask_past k t mode moves before lt)

-- less is beyond a later turn
pub asks_later : (j k : ℕ) (moves : List Move) → j ≤ k → has_ask (past j moves) ≡ false → has_ask (past k moves) ≡ false
asks_later j k [] le e = refl
asks_later j k (asks mode ∷ moves) le e = grind (arith, asks_later j k moves le)
asks_later j k (takes mode version ∷ moves) le e = grind (arith, asks_later j k moves le)
asks_later j k (gives ∷ moves) le e = grind (arith, asks_later j k moves le)
asks_later j k (still ∷ moves) le e = grind (arith, asks_later j k moves le)

pub asks_behind_later : (j k : ℕ) (moves : List Move) → j ≤ k → has_ask_behind (past j moves) ≡ false → has_ask_behind (past k moves) ≡ false
asks_behind_later j k [] le e = refl
asks_behind_later j k (move ∷ moves) le e = grind (arith, asks_later j k moves le)

-- who has just asked has nothing else to do than to take the lock
pub newest_claim : (moves : List Move) (claim : Claim) (next : Move) → claim_of moves ≡ Some claim → length moves ≡ claim.turn → Follows moves next → (version : ℕ) × (next ≡ takes claim.mode version)
newest_claim [] claim next e l f = cc
newest_claim (asks mode ∷ before) claim next e l f =
    let k : mode ≡ claim.mode = ap (λ o. elim o as (λ _. Mode) [ None ↦ mode | Some c ↦ c.mode ]) e in (f.0, f.1 ∙ ap (λ x. takes x f.0) k)
newest_claim (takes mode version ∷ before) claim next e l f = absurd (let k = claim_within before claim e in omega arith)
newest_claim (gives ∷ before) claim next e l f = cc
newest_claim (still ∷ before) claim next e l f = absurd (let k = claim_within before claim e in omega arith)

-- a claim that is handled and as old as the course is that of the whole course
pub whole_handled : (k : ℕ) (moves : List Move) (claim : Claim) → k ≤ length moves → claim_of (upto k moves) ≡ Some claim → length moves ≡ claim.turn → upto k moves ≡ moves
whole_handled k moves claim le e l =
    let w = claim_within (upto k moves) claim e in
    let u = upto_length k moves le in
    upto_all k moves (omega arith)

-- a claim is there from its turn on
pub claim_before : (k : ℕ) (moves : List Move) (claim : Claim) → claim.turn ≤ k → claim_of moves ≡ Some claim → claim_of (upto k moves) ≡ Some claim
claim_before k [] claim le e = cc
claim_before k (asks mode ∷ before) claim le e =
    let t : claim.turn ≡ length before + 1 = ap (λ o. elim o as (λ _. ℕ) [ None ↦ 0 | Some c ↦ c.turn ]) (sym e) in rw (upto_all k (asks mode ∷ before) (omega arith)) e
claim_before k (takes mode version ∷ before) claim le e = grind (arith, claim_before k before claim le)
claim_before k (gives ∷ before) claim le e = cc
claim_before k (still ∷ before) claim le e = grind (arith, claim_before k before claim le)

-- where nothing was asked beyond, an exclusive claim was one already
pub exclusive_beyond : (k : ℕ) (moves : List Move) → has_ask (past k moves) ≡ false → is_exclusive_claim (claim_of (upto k moves)) ≡ false → is_exclusive_claim (claim_of moves) ≡ false
exclusive_beyond k [] h e = refl
exclusive_beyond k (asks mode ∷ before) h e = grind arith
exclusive_beyond k (takes mode version ∷ before) h e = grind (arith, exclusive_beyond k before)
exclusive_beyond k (gives ∷ before) h e = refl
exclusive_beyond k (still ∷ before) h e = grind (arith, exclusive_beyond k before)

made_beyond : (k : ℕ) (moves : List Move) → has_ask (past k moves) ≡ false → is_exclusive_claim (claim_of (upto k moves)) ≡ false → made_by moves ≡ made_by (upto k moves)
made_beyond k [] h e = refl
made_beyond k (asks mode ∷ before) h e = grind arith
made_beyond k (takes mode version ∷ before) h e = grind (arith, made_beyond k before)
made_beyond k (gives ∷ before) h e = grind (arith, made_beyond k before, exclusive_beyond k before)
made_beyond k (still ∷ before) h e = grind (arith, made_beyond k before)

-- where no exclusive claim is handled, no version was version_made beyond
pub made_same : (k : ℕ) (moves : List Move) → has_ask_behind (past k moves) ≡ false → is_exclusive_claim (claim_of (upto k moves)) ≡ false → made_by moves ≡ made_by (upto k moves)
made_same k [] h e = refl
made_same k (asks mode ∷ before) h e = grind (arith, made_beyond k before)
made_same k (takes mode version ∷ before) h e = grind (arith, made_beyond k before)
made_same k (gives ∷ before) h e = grind (arith, made_beyond k before, exclusive_beyond k before)
made_same k (still ∷ before) h e = grind (arith, made_beyond k before)

pub course_upto : (k : ℕ) (moves : List Move) → IsCourse moves → IsCourse (upto k moves)
course_upto k [] h = tt
course_upto k (move ∷ before) h = go (nat_lt (length before) k) refl (course_upto k before h.0)
  where
    go : (b : Bool) → nat_lt (length before) k ≡ b → IsCourse (upto k before) → IsCourse (upto k (move ∷ before))
    go true e more = rw e h
    go false e more = rw e more

may_ask : (claim : Option Claim) (mode : Mode) → May claim (asks mode) → claim ≡ None
may_ask None mode h = refl
may_ask (Some claim) mode h = absurd h

-- who asks has no claim
pub asks_unclaimed : (before : List Move) (mode : Mode) → Follows before (asks mode) → claim_of before ≡ None
asks_unclaimed [] mode h = refl
asks_unclaimed (asks other ∷ before) mode h = let k : asks mode ≡ takes other h.0 = h.1 in cc
asks_unclaimed (takes other version ∷ before) mode h = may_ask (claim_of before) mode h
asks_unclaimed (gives ∷ before) mode h = refl
asks_unclaimed (still ∷ before) mode h = may_ask (claim_of before) mode h

-- an ask that is beyond is the newest
pub ask_newest : (k t : ℕ) (mode : Mode) (moves before : List Move) → has_ask_behind (past k moves) ≡ false → k < t → t ≤ length moves → upto t moves ≡ asks mode ∷ before → t ≡ length moves
ask_newest k t mode [] before h lt le e = cc
ask_newest k t mode (move ∷ moves) before h lt le e =
    elim (leb_tells t (length moves)) [
      | inl (_, less) ↦ (
          let a : has_ask (past k moves) ≡ true = ask_past k t mode moves before lt less (rw (upto_grown t move moves less) at e) in
          let b : has_ask (past k moves) ≡ false = rw (past_grown k move moves (omega arith)) at h in
          absurd (true≢false (sym a ∙ b)))
      | inr (_, more) ↦ omega arith
    ]

-- at its turn a claim is the newest
pub claim_asks : (moves : List Move) (claim : Claim) → claim_of moves ≡ Some claim → (before : List Move) × (upto claim.turn moves ≡ asks claim.mode ∷ before)
claim_asks [] claim e = cc
claim_asks (asks mode ∷ before) claim e =
    let t : claim.turn ≡ length before + 1 = ap (λ o. elim o as (λ _. ℕ) [ None ↦ 0 | Some c ↦ c.turn ]) (sym e) in
    let m : mode ≡ claim.mode = ap (λ o. elim o as (λ _. Mode) [ None ↦ mode | Some c ↦ c.mode ]) e in
    (before, upto_all claim.turn (asks mode ∷ before) (omega arith) ∙ ap (λ x. asks x ∷ before) m)
claim_asks (takes mode version ∷ before) claim e = let w = claim_within before claim e in let r : (rest : List Move) × (upto claim.turn before ≡ asks claim.mode ∷ rest) = claim_asks before claim e in (r.0, upto_grown claim.turn (takes mode version) before w ∙ r.1)
claim_asks (gives ∷ before) claim e = cc
claim_asks (still ∷ before) claim e = let w = claim_within before claim e in let r : (rest : List Move) × (upto claim.turn before ≡ asks claim.mode ∷ rest) = claim_asks before claim e in (r.0, upto_grown claim.turn still before w ∙ r.1)

-- a claim that isn't the newest turn is handled
pub claim_handled : (k : ℕ) (moves : List Move) (claim : Claim) → has_ask_behind (past k moves) ≡ false → claim_of moves ≡ Some claim → claim.turn < length moves → claim.turn ≤ k
claim_handled k moves claim h e lt =
    let r : (rest : List Move) × (upto claim.turn moves ≡ asks claim.mode ∷ rest) = claim_asks moves claim e in
    elim (leb_tells claim.turn k) [ inl (_, le) ↦ le | inr (_, more) ↦ absurd (let n = ask_newest k claim.turn claim.mode moves r.0 h more (omega arith) r.1 in omega arith) ]

pub upto_map : {A B : Type 0} (f : A → B) (k : ℕ) (xs : List A) → upto k (map f xs) ≡ map f (upto k xs)
upto_map f k [] = refl
upto_map f k (x ∷ xs) = subst (λ n. (if nat_lt n k then f x ∷ map f xs else upto k (map f xs)) ≡ map f (upto k (x ∷ xs))) (sym (length-map xs f)) (go (nat_lt (length xs) k) refl (upto_map f k xs))
  where
    go : (b : Bool) → nat_lt (length xs) k ≡ b → upto k (map f xs) ≡ map f (upto k xs) → (if nat_lt (length xs) k then f x ∷ map f xs else upto k (map f xs)) ≡ map f (upto k (x ∷ xs))
    go true e more = rw e refl
    go false e more = rw e more

-- Who has the lock.

-- the processor has the lock: it has taken it, and not given it back
pub record HasLock (moves : List Move) (mode : Mode) : Type 0 where
  pub claim : Claim
  pub is_claim : claim_of moves ≡ Some claim
  pub is_taken : claim.turn < length moves
  pub is_mode : claim.mode ≡ mode

may_not_take : (claim : Option Claim) (mode : Mode) (version : ℕ) → May claim (takes mode version) → ⊥
may_not_take None mode version h = absurd h
may_not_take (Some claim) mode version h = absurd h

-- who takes has just asked
take_claim : (before : List Move) (mode : Mode) (version : ℕ) → Follows before (takes mode version) → claim_of before ≡ Some record { turn = length before; mode = mode }
take_claim [] mode version f = absurd f
take_claim (asks other ∷ before) mode version f =
    let k : takes mode version ≡ takes other f.0 = f.1 in
    let m : other ≡ mode = cc in
    let n : length before + 1 ≡ suc (length before) = omega arith in
    λ i. Some record { turn = n i; mode = m i }
take_claim (takes other number ∷ before) mode version f = absurd (may_not_take (claim_of before) mode version f)
take_claim (gives ∷ before) mode version f = absurd f
take_claim (still ∷ before) mode version f = absurd (may_not_take (claim_of before) mode version f)

-- who holds a lock has it
pub held_has : (moves : List Move) (mode : Mode) → IsCourse moves → held_by moves ≡ Some mode → HasLock moves mode
held_has [] mode h e = cc
held_has (takes other version ∷ before) mode h e =
    record { claim = record { turn = length before; mode = other }; is_claim = take_claim before other version h.1; is_taken = omega arith; is_mode = let k : other ≡ mode = cc in k }
held_has (gives ∷ before) mode h e = cc
held_has (asks other ∷ before) mode h e =
    let has : HasLock before mode = held_has before mode h.0 e in
    let none : claim_of before ≡ None = asks_unclaimed before other h.1 in
    absurd (let k : None ≡ Some has.claim = sym none ∙ has.is_claim in cc)
held_has (still ∷ before) mode h e =
    let has : HasLock before mode = held_has before mode h.0 e in
    let lt : has.claim.turn < length before = has.is_taken in
    record { claim = has.claim; is_claim = has.is_claim; is_taken = omega arith; is_mode = has.is_mode }

not_still : (mode : Mode) (version : ℕ) → still ≡ takes mode version → ⊥
not_still mode version e = cc

-- who has a claim that isn't the newest turn holds the lock
pub claim_held : (moves : List Move) (claim : Claim) → IsCourse moves → claim_of moves ≡ Some claim → claim.turn < length moves → held_by moves ≡ Some claim.mode
claim_held [] claim h e lt = cc
claim_held (takes other version ∷ before) claim h e lt = let k : Some record { turn = length before; mode = other } ≡ Some claim = sym (take_claim before other version h.1) ∙ e in ap (λ o. elim o as (λ _. Option Mode) [ None ↦ None | Some c ↦ Some c.mode ]) k
claim_held (gives ∷ before) claim h e lt = cc
claim_held (asks other ∷ before) claim h e lt = absurd (let t : claim.turn ≡ length before + 1 = ap (λ o. elim o as (λ _. ℕ) [ None ↦ 0 | Some c ↦ c.turn ]) (sym e) in omega arith)
claim_held (still ∷ before) claim h e lt =
    elim (leb_tells (claim.turn + 1) (length before)) [
      | inl (_, le) ↦ claim_held before claim h.0 e (let l = le in omega arith)
      | inr (_, more) ↦ absurd (let w = claim_within before claim e in let k : (version : ℕ) × (still ≡ takes claim.mode version) = newest_claim before claim still e (omega arith) h.1 in not_still claim.mode k.0 k.1)
    ]

-- who gives a lock back has it
pub record IsGiving (before : List Move) : Type 0 where
  pub claim : Claim
  pub is_claim : claim_of before ≡ Some claim
  pub is_taken : claim.turn < length before

may_give : (before : List Move) (move : Move) (claim : Option Claim) → claim_of before ≡ claim → claim_of (move ∷ before) ≡ claim_of before → May claim gives → IsGiving (move ∷ before)
may_give before move None c e h = absurd h
may_give before move (Some claim) c e h = record { claim = claim; is_claim = e ∙ c; is_taken = let w = claim_within before claim c in omega arith }

pub giving : (before : List Move) → Follows before gives → IsGiving before
giving [] f = absurd f
giving (asks mode ∷ before) f = let k : gives ≡ takes mode f.0 = f.1 in cc
giving (takes mode version ∷ before) f = may_give before (takes mode version) (claim_of before) refl refl f
giving (gives ∷ before) f = absurd f
giving (still ∷ before) f = may_give before still (claim_of before) refl refl f

-- Versions.

taken_now : (moves : List Move) (claim : Claim) (mode : Mode) (version : ℕ) (rest : List Move) → claim.turn + 1 ≡ length moves → upto (claim.turn + 1) moves ≡ takes mode version ∷ rest → moves ≡ takes mode version ∷ rest
taken_now moves claim mode version rest n e = sym (upto_all (claim.turn + 1) moves (omega arith)) ∙ e

-- from its take on the version stays, until the lock is given back
pub version_kept : (moves : List Move) (claim : Claim) (mode : Mode) (version : ℕ) (rest : List Move) → IsCourse moves → claim_of moves ≡ Some claim → claim.turn < length moves →
    upto (claim.turn + 1) moves ≡ takes mode version ∷ rest → have_by moves ≡ version
version_kept [] claim mode version rest h c lt e = cc
version_kept (asks other ∷ before) claim mode version rest h c lt e =
    absurd (let t : claim.turn ≡ length before + 1 = ap (λ o. elim o as (λ _. ℕ) [ None ↦ 0 | Some x ↦ x.turn ]) (sym c) in omega arith)
version_kept (takes other number ∷ before) claim mode version rest h c lt e =
    elim (leb_tells (claim.turn + 1) (length before)) [
      | inl (_, less) ↦ absurd (twice before claim other number h.1 c less)
      | inr (_, more) ↦ let k : takes other number ∷ before ≡ takes mode version ∷ rest = taken_now (takes other number ∷ before) claim mode version rest (let w = claim_within before claim c in omega arith) e in cc
    ]
  where
    may_not : (claim : Option Claim) (mode : Mode) (version : ℕ) → May claim (takes mode version) → ⊥
    may_not None mode version h = absurd h
    may_not (Some claim) mode version h = absurd h

    -- nobody takes twice
    twice : (before : List Move) (claim : Claim) (mode : Mode) (version : ℕ) → Follows before (takes mode version) → claim_of before ≡ Some claim → claim.turn + 1 ≤ length before → ⊥
    twice [] claim mode version f c le = absurd f
    twice (asks other ∷ before) claim mode version f c le = let t : claim.turn ≡ length before + 1 = ap (λ o. elim o as (λ _. ℕ) [ None ↦ 0 | Some x ↦ x.turn ]) (sym c) in omega arith
    twice (takes other number ∷ before) claim mode version f c le = may_not (claim_of before) mode version f
    twice (gives ∷ before) claim mode version f c le = absurd f
    twice (still ∷ before) claim mode version f c le = may_not (claim_of before) mode version f
version_kept (gives ∷ before) claim mode version rest h c lt e = cc
version_kept (still ∷ before) claim mode version rest h c lt e =
    elim (leb_tells (claim.turn + 1) (length before)) [
      | inl (_, less) ↦ version_kept before claim mode version rest h.0 c (let l = less in omega arith) (sym (upto_grown (claim.turn + 1) still before less) ∙ e)
      | inr (_, more) ↦ let k : still ∷ before ≡ takes mode version ∷ rest = taken_now (still ∷ before) claim mode version rest (let w = claim_within before claim c in omega arith) e in cc
    ]
