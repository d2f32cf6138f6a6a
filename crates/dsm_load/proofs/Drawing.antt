-- Entries that are drawn one after the other.
use Rattle.std.proofs.Common.{◌≡◌, ℕ, ◌+◌, ◌/◌, ◌^◌, List, [], ◌∷◌, ◌++◌, refl, sym, ◌∙◌, ap, append_assoc, add-one, arith}
use Rattle.std.proofs.lemmas.List.{append-nil}
use Rattle.std.proofs.lemmas.List.FromFn.{map-range_with_len_more}
use Rattle.dsm_base.specs.declared.act.Act.{Act}
use Rattle.dsm_sched.specs.declared.schedule.Entry.{Entry}
use Rattle.dsm_load.specs.Draws.{next_state, state_after, drawn}
use Rattle.dsm_load.specs.Jobs.{act_of, once, victim, drawn_entries, job_of, AppendsDrawn}

-- before the first draw the state is the seed
pub state-none : (seed : ℕ) → state_after seed 0 ≡ seed
unfolding state_after
state-none seed = refl

pub state-more : (seed draws : ℕ) → state_after seed (draws + 1) ≡ next_state (state_after seed draws)
unfolding state_after
state-more seed draws = rw add-one refl

pub drawn-none : (seed from : ℕ) → drawn_entries seed from 0 ≡ []
unfolding drawn_entries
drawn-none seed from = refl

pub drawn-more : (seed from count : ℕ) → drawn_entries seed from (count + 1) ≡ drawn_entries seed from count ++ once (act_of (drawn seed (from + count))) ∷ []
unfolding drawn_entries
drawn-more seed from count = map-range_with_len_more (λ k. once (act_of (drawn seed k))) from count (from + count) refl

-- nothing was drawn yet
pub appends-none : (seed from : ℕ) (before : List Entry) (state : ℕ) → state ≡ state_after seed from → AppendsDrawn seed from 0 before before state
appends-none seed from before state is_state = record {
  entries = sym (ap (λ (xs : List Entry). before ++ xs) (drawn-none seed from) ∙ append-nil before);
  state = is_state ∙ ap (state_after seed) (omega arith);
}

-- one entry more was drawn
pub appends-more : (seed from count : ℕ) (before now more : List Entry) (state next number : ℕ) (act : Act) → AppendsDrawn seed from count before now state
    → next ≡ next_state state → number ≡ next_state state / 2 ^ 33 → act ≡ act_of number → more ≡ now ++ once act ∷ []
    → AppendsDrawn seed from (count + 1) before more next
appends-more seed from count before now more state next number act drawn_so_far is_next is_number is_act is_more =
    let after : next_state state ≡ state_after seed (from + count + 1) =
    sym (state-more seed (from + count) ∙ ap next_state (sym drawn_so_far.state)) in
    let sum : from + count + 1 ≡ from + (count + 1) = omega arith in
    let drawn_here : act ≡ act_of (drawn seed (from + count)) = is_act ∙ ap act_of (is_number ∙ ap (λ n. n / 2 ^ 33) after) in
    record {
      entries =
          is_more
          ∙ ap (λ (xs : List Entry). xs ++ once act ∷ []) drawn_so_far.entries
          ∙ append_assoc before (drawn_entries seed from count) (once act ∷ [])
          ∙ ap (λ a. before ++ (drawn_entries seed from count ++ once a ∷ [])) drawn_here
          ∙ ap (λ (xs : List Entry). before ++ xs) (sym (drawn-more seed from count));
      state = is_next ∙ after ∙ ap (state_after seed) sum;
    }

-- all entries of a job, one part after the other
pub job-made : (seed : ℕ) (start first crashed second restarted third all : List Entry) (a b c : ℕ)
    → start ≡ [] → AppendsDrawn seed 0 20000 start first a → crashed ≡ first ++ once (Act.Crash (victim seed)) ∷ []
    → AppendsDrawn seed 20000 50 crashed second b → restarted ≡ second ++ once (Act.Restart (victim seed)) ∷ []
    → AppendsDrawn seed 20050 19950 restarted third c → all ≡ third ++ Entry.Finish 10000 ∷ [] → all ≡ job_of seed
job-made seed start first crashed second restarted third all a b c none one crash two restart three finish =
    let crashes : List Entry = once (Act.Crash (victim seed)) ∷ [] in
    let restarts : List Entry = once (Act.Restart (victim seed)) ∷ [] in
    let to_first : first ≡ drawn_entries seed 0 20000 = one.entries ∙ ap (λ (xs : List Entry). xs ++ drawn_entries seed 0 20000) none in
    let to_second : second ≡ drawn_entries seed 0 20000 ++ (crashes ++ drawn_entries seed 20000 50) =
    two.entries ∙ ap (λ (xs : List Entry). xs ++ drawn_entries seed 20000 50) (crash ∙ ap (λ (xs : List Entry). xs ++ crashes) to_first)
    ∙ append_assoc (drawn_entries seed 0 20000) crashes (drawn_entries seed 20000 50) in
    let to_third : third ≡ (drawn_entries seed 0 20000 ++ (crashes ++ drawn_entries seed 20000 50)) ++ (restarts ++ drawn_entries seed 20050 19950) =
    three.entries ∙ ap (λ (xs : List Entry). xs ++ drawn_entries seed 20050 19950) (restart ∙ ap (λ (xs : List Entry). xs ++ restarts) to_second)
    ∙ append_assoc (drawn_entries seed 0 20000 ++ (crashes ++ drawn_entries seed 20000 50)) restarts (drawn_entries seed 20050 19950) in
    finish ∙ ap (λ (xs : List Entry). xs ++ Entry.Finish 10000 ∷ []) to_third
