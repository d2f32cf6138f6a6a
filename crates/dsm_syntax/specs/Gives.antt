-- What a reader in the code answers.
use Rattle.std.specs.Prelude.{◌≡◌, List, Result, Ok, Err}
use Rattle.dsm_syntax.specs.declared.refusal.Refusal.{Refusal}
use Rattle.dsm_syntax.specs.Lexemes.{Lexeme}
use Rattle.dsm_syntax.specs.Reading.{Read, ok, unexpected, too_high}

-- the answer shows what is read, with the tokens that are left; a refused token is the first of them; out of memory is free
abbrev pub Gives : {A B : Type 0} → (B → A) → Read A → Result B Refusal → List Lexeme → Type 0
Gives see read (Ok found) left = read ≡ ok (see found) left
Gives see read (Err Refusal.Unexpected) left = read ≡ unexpected left
Gives see read (Err Refusal.TooHigh) left = read ≡ too_high left
Gives see read (Err Refusal.Memory) left = Unit {0}
