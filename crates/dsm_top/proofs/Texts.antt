-- Each text is one program that the rules accept, or is refused for one reason.
use Rattle.std.specs.Prelude.{◌≡◌, ◌⊎◌, ℕ, List, Result, Ok, Err}
use Rattle.std.proofs.Common.{refl, sym, ap, ◌∙◌, inl, inr}
use Rattle.dsm_syntax.specs.declared.errors.ProgErr.{ProgErr}
use Rattle.dsm_syntax.specs.Tree.{Item}
use Rattle.dsm_laws_grammar.specs.TextPrograms.{IsProgramText, IsNoProgram, no_tokens, no_tree}
use Rattle.dsm_check.specs.Programs.{Program, checked}
use Rattle.dsm_top.specs.Accepted.{IsChecked}
use Rattle.dsm_top.specs.Refusals.{IsUnchecked, by_tokens, by_tree, by_rules}

-- the tree of a program that is accepted
pub program_text : {text : List ℕ} {program : Program} → (is : IsChecked text program) → IsProgramText text is.items
program_text is = record { tokens = is.tokens; lexed = is.lexed; program = is.spelled }

-- a text that the rules refuse has a tree
record IsRuledOut (text : List ℕ) (e : ProgErr) : Type 0 where
  items : List Item
  is_program : IsProgramText text items
  is_refused : checked items ≡ Err e

-- a text is refused by its grammars, or by the rules
why : {text : List ℕ} {e : ProgErr} → IsUnchecked text e → IsNoProgram text e ⊎ IsRuledOut text e
why (by_tokens refused) = inl (no_tokens refused)
why (by_tree tokens lexed not_memory refused) = inl (no_tree tokens lexed not_memory refused)
why (by_rules tokens items lexed spelled refused) =
    inr record { items = items; is_program = record { tokens = tokens; lexed = lexed; program = spelled }; is_refused = refused }

unchecked : {text : List ℕ} {e : ProgErr} → IsNoProgram text e → IsUnchecked text e
unchecked (no_tokens refused) = by_tokens refused
unchecked (no_tree tokens lexed not_memory refused) = by_tree tokens lexed not_memory refused

-- what the rules say of a text with a tree
ruled : (text : List ℕ) (items : List Item) (said : Result Program ProgErr) → checked items ≡ said → IsProgramText text items
    → ((program : Program) × IsChecked text program) ⊎ ((e : ProgErr) × IsUnchecked text e)
ruled text items (Ok program) said is = inl (program, record { tokens = is.tokens; lexed = is.lexed; items = items; spelled = is.program; is_checked = said })
ruled text items (Err e) said is = inr (e, by_rules is.tokens items is.lexed is.program said)

pub each : (text : List ℕ) → ((items : List Item) × IsProgramText text items) ⊎ ((e : ProgErr) × IsNoProgram text e)
    → ((program : Program) × IsChecked text program) ⊎ ((e : ProgErr) × IsUnchecked text e)
each text (inl found) = ruled text found.0 (checked found.0) refl found.1
each text (inr refused) = inr (refused.0, unchecked refused.1)

module _ (not_both : (text : List ℕ) (items : List Item) (e : ProgErr) → IsProgramText text items → IsNoProgram text e → ⊥)
    (one : (text : List ℕ) (items others : List Item) → IsProgramText text items → IsProgramText text others → items ≡ others) where
  -- a program that is accepted isn't refused
  pub apart : (text : List ℕ) (program : Program) (e : ProgErr) → IsChecked text program → IsUnchecked text e → ⊥
  apart text program e is refused = by (why refused)
    where
      by : IsNoProgram text e ⊎ IsRuledOut text e → ⊥
      by (inl refusal) = not_both text is.items e (program_text is) refusal
      by (inr out) =
          let same : Ok program ≡ Err e = sym is.is_checked ∙ (ap checked (one text is.items out.items (program_text is) out.is_program) ∙ out.is_refused) in
          cc

  -- and it is one
  pub one_program : (text : List ℕ) (program other : Program) → IsChecked text program → IsChecked text other → program ≡ other
  one_program text program other is also =
      let same : Ok program ≡ Ok other = sym is.is_checked ∙ (ap checked (one text is.items also.items (program_text is) (program_text also)) ∙ also.is_checked) in
      cc

  -- a text is refused for one reason
  pub one_refusal : ((text : List ℕ) (e f : ProgErr) → IsNoProgram text e → IsNoProgram text f → e ≡ f)
      → (text : List ℕ) (e f : ProgErr) → IsUnchecked text e → IsUnchecked text f → e ≡ f
  one_refusal grammars text e f refused also = by (why refused) (why also)
    where
      by : IsNoProgram text e ⊎ IsRuledOut text e → IsNoProgram text f ⊎ IsRuledOut text f → e ≡ f
      by (inl refusal) (inl other) = grammars text e f refusal other
      by (inl refusal) (inr out) = absurd (not_both text out.items e out.is_program refusal)
      by (inr out) (inl refusal) = absurd (not_both text out.items f out.is_program refusal)
      by (inr out) (inr other) =
          let same : Err e ≡ Err f = sym out.is_refused ∙ (ap checked (one text out.items other.items out.is_program other.is_program) ∙ other.is_refused) in
          cc
