-- Statements are read as their grammar has them.
use Rattle.std.proofs.Common.{◌≤◌, ℕ, zero, suc, List, refl, ap, arith}
use Rattle.dsm_syntax.specs.declared.kind.StatementKind.{StatementKind}
use Rattle.dsm_syntax.specs.Lexemes.{Lexeme}
use Rattle.dsm_syntax.specs.Reading.{look}
use Rattle.dsm_syntax.specs.Kinds.{kind}
use Rattle.dsm_laws_grammar.specs.Statements.{statement_by, statement}
use Rattle.dsm_laws_grammar.proofs.Good.{Good, good_as, good_up}
use Rattle.dsm_laws_grammar.proofs.Firsts.{StatementOf, NoElse, Kinded, kinded}
use Rattle.dsm_laws_grammar.proofs.Simples.{Above, empty_good, break_good, continue_good, return_good, expression_statement_good, declaration_good, acquire_good, acquire_shared_good, release_good, barrier_good, print_good}
use Rattle.dsm_laws_grammar.proofs.Branches.{GoodAt, if_good, while_good, for_good}
use Rattle.dsm_laws_grammar.proofs.Blocks.{block_good}

-- The levels below a statement.
module _ (d : ℕ) (good : 1 ≤ d → GoodAt d) where
  kind_good : (k : StatementKind) (ts : List Lexeme) → Kinded k (look ts) → Good Above NoElse (λ m. statement_by m (statement m) k) d ts
  kind_good StatementKind.Block ts at = block_good d good ts at
  kind_good StatementKind.Empty ts at = empty_good d ts at
  kind_good StatementKind.Variables ts at = declaration_good d ts at
  kind_good StatementKind.If ts at = if_good d good ts at
  kind_good StatementKind.While ts at = while_good d good ts at
  kind_good StatementKind.For ts at = for_good d good ts at
  kind_good (StatementKind.Break line) ts at = break_good line d ts at
  kind_good (StatementKind.Continue line) ts at = continue_good line d ts at
  kind_good (StatementKind.Return line) ts at = return_good line d ts at
  kind_good StatementKind.Acquire ts at = acquire_good d ts at
  kind_good StatementKind.AcquireShared ts at = acquire_shared_good d ts at
  kind_good StatementKind.Release ts at = release_good d ts at
  kind_good StatementKind.Barrier ts at = barrier_good d ts at
  kind_good StatementKind.Print ts at = print_good d ts at
  kind_good StatementKind.Expression ts at = expression_statement_good d ts

  level_good : (ts : List Lexeme) → Good StatementOf NoElse statement (suc d) ts
  level_good ts = good_up (good_as (kind_good (kind (look ts)) ts (kinded (look ts)))
      (λ m s le lk. ap (λ next. statement_by m (statement m) (kind next) s) lk)) (λ m s le lk. refl)

pub statement_good : (d : ℕ) → 1 ≤ d → GoodAt d
statement_good zero one = absurd (omega arith)
statement_good (suc d) one = level_good d (statement_good d)
