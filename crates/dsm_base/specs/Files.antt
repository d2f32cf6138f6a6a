-- What is read from files.
use Rattle.std.specs.Prelude.{◌≡◌, ℕ, ◌+◌, ◌≤◌, if◌then◌else◌, List, [], ◌∷◌, ◌++◌, length, take, Option, Some, None, IfSome}
use Rattle.std.specs.Str.{bytes_eq}
use Rattle.dsm_base.specs.declared.files.NamedFile.{NamedFile}

-- the contents of the first file of a name
abbrev pub contents_of : List NamedFile → List ℕ → Option (List ℕ)
contents_of [] name = None
contents_of (file ∷ files) name = if bytes_eq file.name name then Some file.contents else contents_of files name

-- bytes of a file were appended: at most one too many, which tells that there are more than wanted, and those of that name where the files tell
pub record Reads (holds : Option (List ℕ → Option (List ℕ))) (name : List ℕ) (most : ℕ) (before now : List ℕ) : Type 0 where
  pub bytes : List ℕ
  pub appended : now ≡ before ++ bytes
  pub bounded : length bytes ≤ most + 1
  pub told : IfSome holds (λ contents. IfSome (contents name) (λ whole. bytes ≡ take (most + 1) whole))
  pub found : IfSome holds (λ contents. contents name ≡ None → ⊥)
