use Rattle.std.proofs.Common.{◌≡◌, ◌++◌, length, map}
use Rattle.dsm_home.specs.LockStates.{front_of, behind_front, holder_of}
use Rattle.dsm_home.proofs.lock.grant_front.Given as goal

-- what is granted so far, with what the rest makes of it, is all
abbrev pub invariant-loop-queue : goal.invariant-loop-queue
invariant-loop-queue l =
    record {
      front : l.front ++ front_of (map holder_of l.granted) l.queue ≡ front_of (map holder_of l.fn.granted) l.fn.queue;
      holders : map holder_of l.granted ≡ map holder_of l.fn.granted ++ map holder_of l.front;
      queue : behind_front (map holder_of l.granted) l.queue ≡ behind_front (map holder_of l.fn.granted) l.fn.queue;
    }

abbrev pub decreases-loop-queue : goal.decreases-loop-queue
decreases-loop-queue l = length l.queue
