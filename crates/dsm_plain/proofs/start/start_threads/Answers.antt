use Rattle.std.proofs.Common.{◌≡◌, ◌+◌, ◌∙◌, List, [], ◌∷◌, ◌++◌, sym, ap, subst, map, length}
use Rattle.std.specs.List.{All}
use Rattle.std.proofs.lemmas.List.{map-append, length-map, length-append}
use Rattle.dsm_base.specs.Family.{family_of}
use Rattle.dsm_base.proofs.Families.{family_of_push, all_push}
use Rattle.dsm_check.specs.CheckedViews.{program_of}
use Rattle.dsm_semantics.specs.Programs.{first_states}
use Rattle.dsm_interpreter.specs.declared.thread.PlainThread.{PlainThread}
use Rattle.dsm_interpreter.specs.Threads.{state_of}
use Rattle.dsm_plain.specs.Machine.{IsThreadOf}
use Rattle.dsm_plain.proofs.start.start_threads.Goals as goal

pub loop-me-preserved : goal.loop-me-preserved
loop-me-preserved c =
    let program = program_of c.args.checked.now in
    let threads = c.loop-me.threads.items in
    let thread = c.in_ok-start_thread.field-0 in
    let before = c.loop-me.invariant in
    let pushed : c.push.new.self.items ≡ threads ++ thread ∷ [] = c.in_ok-push.ensures.items in
    let first = first_states program c.args.procs in
    let is_next : state_of thread ≡ first (length (map state_of threads)) =
    c.in_ok-start_thread.ensures.state ∙ ap first (sym (length-map threads state_of ∙ before.count)) in
    record {
      count = ap length pushed ∙ length-append threads (thread ∷ []) ∙ ap (λ n. n + 1) before.count;
      states = λ i. ap (λ items. family_of first (map state_of items) i) pushed ∙ ap (λ states. family_of first states i) (map-append state_of threads (thread ∷ []))
          ∙ family_of_push first (map state_of threads) (state_of thread) is_next before.states i;
      ready = let P : List PlainThread → Type 0 = All (IsThreadOf program) in
          subst P (sym pushed) (all_push (IsThreadOf program) threads thread before.ready c.in_ok-start_thread.ensures.ready);
    }
