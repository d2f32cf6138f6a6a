-- How each word is written.
use Rattle.std.specs.Prelude.{ℕ, List, codes}
use Rattle.dsm_syntax.specs.declared.word.Word.{Word}
use Rattle.dsm_syntax.specs.declared.word.Word.TheVariants as w

-- how a word is written
abbrev pub word_text : Word → List ℕ
word_text w.Int = codes "int"
word_text w.Void = codes "void"
word_text w.Shared = codes "shared"
word_text w.LockType = codes "lock_t"
word_text w.BarrierType = codes "barrier_t"
word_text w.Bind = codes "bind"
word_text w.BindEach = codes "bindeach"
word_text w.BindBarrier = codes "bindb"
word_text w.If = codes "if"
word_text w.Else = codes "else"
word_text w.While = codes "while"
word_text w.For = codes "for"
word_text w.Break = codes "break"
word_text w.Continue = codes "continue"
word_text w.Return = codes "return"
word_text w.Acquire = codes "acquire"
word_text w.AcquireShared = codes "acquire_shared"
word_text w.Release = codes "release"
word_text w.Barrier = codes "barrier"
word_text w.Print = codes "print"
