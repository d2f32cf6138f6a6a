use Rattle.std.proofs.Common.{◌≡◌, ◌++◌, map, length}
use Rattle.std.specs.List.{prefix_len}
use Rattle.dsm_sched.specs.Words.{words_of, is_blank}
use Rattle.dsm_sched.proofs.WordsOf.{parted}
use Rattle.dsm_sched.proofs.words.words.Given as goal

-- the words so far and those of the rest are those of the line, and the rest begins with no blank
abbrev pub invariant-loop-rest : goal.invariant-loop-rest
invariant-loop-rest l = record {
  split : map (λ word. word.now) l.words.items ++ parted l.rest ≡ words_of l.fn.line;
  begun : prefix_len is_blank l.rest ≡ 0;
}

abbrev pub decreases-loop-rest : goal.decreases-loop-rest
decreases-loop-rest l = length l.rest
