-- What the world holds: the processors, the messages under way, what is out, and the images.
use Rattle.std.specs.Prelude.{ℕ, List, [], Option, Some, None}
use Rattle.dsm_net.specs.declared.trace.Letter.{Letter}
use Rattle.dsm_net.specs.Processor.{Processor, start_processor}

-- an image under way: the processor as it was, the blocks of its bytes, and how many of them are written
pub record Begun (S : Type 0) : Type 0 where
  pub image : Processor S
  pub blocks : ℕ
  pub written : ℕ

-- the marked image of a processor, and the one under way
pub record Images (S : Type 0) : Type 0 where
  pub marked : Option (Processor S)
  pub begun : Option (Begun S)

-- all there is: the processors, what is under way between them, what came out, and the images
pub record Net (S : Type 0) : Type 0 where
  pub processors : ℕ → Option (Processor S)  -- none where it is down
  pub channels : ℕ → ℕ → List Letter  -- by sender and receiver, the oldest first
  pub sent : ℕ  -- how many messages were sent
  pub out : ℕ → ℕ  -- by processor: the turn of its last line out
  pub images : ℕ → Images S

-- before the first unit
abbrev pub start_net : {S : Type 0} → (ℕ → S) → Net S
start_net first = record {
  processors = λ p. Some (start_processor (first p));
  channels = λ p q. [];
  sent = 0;
  out = λ p. 0;
  images = λ p. record { marked = None; begun = None };
}
