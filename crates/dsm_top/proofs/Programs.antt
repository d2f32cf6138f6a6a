-- What the tokens of a text tell of it.
use Rattle.std.specs.Prelude.{◌≡◌, ◌≢◌, ◌⊎◌, ℕ, List, Result, Ok, Err, IfOk, IfErr}
use Rattle.std.proofs.Common.{inl, inr, subst, sym, refl}
use Rattle.dsm_base.specs.declared.act.SchedErr.{SchedErr}
use Rattle.dsm_syntax.specs.declared.token.Token.{Token}
use Rattle.dsm_syntax.specs.declared.errors.ProgErr.{ProgErr}
use Rattle.dsm_syntax.specs.Texts.{IsLexed, IsRefused as IsTextRefused}
use Rattle.dsm_syntax.specs.Tree.{Item}
use Rattle.dsm_syntax.specs.Lexemes.{lexemes}
use Rattle.dsm_parse.specs.Programs.{IsProgramOf}
use Rattle.dsm_parse.specs.Refusals.{IsRefused as AreTokensRefused}
use Rattle.dsm_check.specs.declared.checked.Checked.{Checked}
use Rattle.dsm_check.specs.CheckedViews.{program_of}
use Rattle.dsm_check.specs.Programs.{checked}
use Rattle.dsm_top.specs.declared.status.Status.{Status}
use Rattle.dsm_sched.specs.Entries.{Gives}
use Rattle.dsm_sched.specs.declared.picks.PickEntry.{PickEntry}
use Rattle.dsm_sched.specs.declared.schedule.Entry.{Entry}
use Rattle.dsm_sched.specs.PickTexts.{picks_said}
use Rattle.dsm_sched.specs.Built.{built_said}
use Rattle.dsm_top.specs.Accepted.{IsProgramText, IsScheduleText}
use Rattle.dsm_top.specs.Statuses.{status_of_program, status_of_schedule}
use Rattle.dsm_top.specs.Refusals.{RefusesSchedule, RefusesProgram, RefusesPicks, IsUnchecked, by_tokens, by_tree, by_rules}
use Rattle.dsm_top.specs.Prepared.{Span, GivesProgram, RefusesIn}

pub gives_refusal : (text : List ℕ) (error : ProgErr) → (error ≢ ProgErr.Memory → IsUnchecked text error) → GivesProgram text (Err error)
gives_refusal text ProgErr.Memory is = tt
gives_refusal text error is = is (λ memory. cc)

pub no_tokens : (text : List ℕ) (error : ProgErr) → (error ≡ ProgErr.Memory) ⊎ IsTextRefused text error → GivesProgram text (Err error)
no_tokens text error (inl memory) = gives_refusal text error (λ not_memory. absurd (not_memory memory))
no_tokens text error (inr refused) = gives_refusal text error (λ not_memory. by_tokens refused)

pub no_tree : (text : List ℕ) (tokens : List Token) (error : ProgErr) → IsLexed text tokens → AreTokensRefused tokens error → GivesProgram text (Err error)
no_tree text tokens error lexed refused = gives_refusal text error (λ not_memory. by_tree tokens lexed not_memory refused)

pub no_rules : (text : List ℕ) (tokens : List Token) (items : List Item) (error : ProgErr) → IsLexed text tokens → IsProgramOf (lexemes tokens) items → (error ≡ ProgErr.Memory) ⊎ (checked items ≡ Err error)
    → GivesProgram text (Err error)
no_rules text tokens items error lexed spelled (inl memory) = gives_refusal text error (λ not_memory. absurd (not_memory memory))
no_rules text tokens items error lexed spelled (inr refused) = gives_refusal text error (λ not_memory. by_rules tokens items lexed spelled refused)

-- an answer of the rules is one for the text
pub rules_say : (text : List ℕ) (tokens : List Token) (items : List Item) (answer : Result Checked ProgErr) → IsLexed text tokens → IsProgramOf (lexemes tokens) items
    → IfOk answer (λ program. checked items ≡ Ok (program_of program)) → IfErr answer (λ error. (error ≡ ProgErr.Memory) ⊎ (checked items ≡ Err error)) → GivesProgram text answer
rules_say text tokens items (Ok program) lexed spelled accepted refused =
    record { tokens = tokens; lexed = lexed; items = items; spelled = spelled; is_checked = accepted }
rules_say text tokens items (Err error) lexed spelled accepted refused = no_rules text tokens items error lexed spelled refused

-- Statuses of readers' errors.

pub program_status : (error : ProgErr) → (error ≡ ProgErr.Memory → ⊥) → Status.ProgramRefused error ≡ status_of_program error
program_status ProgErr.Memory other = absurd (other refl)
program_status error other = refl

pub schedule_status : (error : SchedErr) → (error ≡ SchedErr.Memory → ⊥) → Status.ScheduleRefused error ≡ status_of_schedule error
schedule_status SchedErr.Memory other = absurd (other refl)
schedule_status error other = refl

-- a text that was read in a part of a call, and for which its reader answers an error
module _ (span : Span) (name slice text : List ℕ) (same : slice ≡ text) where
  pub refuses_program : (error : ProgErr) → IsProgramText span.files name text → GivesProgram slice (Err error) → RefusesIn span (λ given. RefusesProgram given name) (status_of_program error)
  refuses_program ProgErr.Memory is_read gives given part = tt
  refuses_program error is_read gives given part = record {
    text = text;
    is_read = subst (λ held. IsProgramText held name text) (sym part.same) is_read;
    is_unchecked = subst (λ bytes. IsUnchecked bytes error) same gives;
  }

  pub refuses_schedule : {X : Type 0} (view : X → ℕ × List Entry) (error : SchedErr) → IsScheduleText span.files name text → Gives view (Err error) (built_said slice) → RefusesIn span (λ given. RefusesSchedule given name) (status_of_schedule error)
  refuses_schedule view SchedErr.Memory is_read gives given part = tt
  refuses_schedule view error is_read gives given part = record {
    text = text;
    is_read = subst (λ held. IsScheduleText held name text) (sym part.same) is_read;
    is_refused = subst (λ bytes. built_said bytes ≡ Err error) same gives;
  }

  pub refuses_picks : {X : Type 0} (view : X → ℕ × List PickEntry) (error : SchedErr) → IsScheduleText span.files name text → Gives view (Err error) (picks_said slice) → RefusesIn span (λ given. RefusesPicks given name) (status_of_schedule error)
  refuses_picks view SchedErr.Memory is_read gives given part = tt
  refuses_picks view error is_read gives given part = record {
    text = text;
    is_read = subst (λ held. IsScheduleText held name text) (sym part.same) is_read;
    is_refused = subst (λ bytes. picks_said bytes ≡ Err error) same gives;
  }
