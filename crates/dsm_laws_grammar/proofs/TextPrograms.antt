-- Each text is one program, or is refused for one reason.
use Rattle.std.proofs.Common.{◌≡◌, ◌≢◌, ◌⊎◌, inl, inr, ℕ, List, subst}
use Rattle.dsm_syntax.specs.declared.errors.ProgErr.{ProgErr}
use Rattle.dsm_syntax.specs.declared.errors.ProgErr.TheVariants as err
use Rattle.dsm_syntax.specs.declared.token.Token.{Token}
use Rattle.dsm_syntax.specs.Tree.{Item}
use Rattle.dsm_syntax.specs.Texts.{IsLexed, IsRefused as IsTextRefused}
use Rattle.dsm_syntax.specs.Lexemes.{lexemes}
use Rattle.dsm_syntax.proofs.Outcomes as tokens
use Rattle.dsm_laws_grammar.specs.Programs.{IsProgramOf}
use Rattle.dsm_laws_grammar.specs.Refusals.{IsRefused as AreTokensRefused}
use Rattle.dsm_laws_grammar.specs.TextPrograms.{IsProgramText, IsNoProgram, no_tokens, no_tree}
use Rattle.dsm_laws_grammar.proofs.Exact.{one_program}
use Rattle.dsm_laws_grammar.proofs.Outcomes as trees

-- what a text with these tokens is
of_tokens : (text : List ℕ) (all : List Token) → IsLexed text all
    → ((items : List Item) × IsProgramOf (lexemes all) items) ⊎ ((e : ProgErr) × (e ≢ err.Memory) × AreTokensRefused all e)
    → ((items : List Item) × IsProgramText text items) ⊎ ((e : ProgErr) × IsNoProgram text e)
of_tokens text all lexed (inl p) = inl (p.0, record { tokens = all; lexed = lexed; program = p.1 })
of_tokens text all lexed (inr r) = inr (r.0, no_tree all lexed r.1 r.2)

of_text : (text : List ℕ) → ((all : List Token) × IsLexed text all) ⊎ ((e : ProgErr) × IsTextRefused text e)
    → ((items : List Item) × IsProgramText text items) ⊎ ((e : ProgErr) × IsNoProgram text e)
of_text text (inl t) = of_tokens text t.0 t.1 (trees.outcome t.0)
of_text text (inr r) = inr (r.0, no_tokens r.1)

pub each_text : (text : List ℕ) → ((items : List Item) × IsProgramText text items) ⊎ ((e : ProgErr) × IsNoProgram text e)
each_text text = of_text text (tokens.outcome text)

-- a text has one list of tokens
one_list : (text : List ℕ) (all others : List Token) → IsLexed text all → IsLexed text others → all ≡ others
one_list text all others p q = tokens.one_spelling text all others p.spelled q.spelled

pub not_both : (text : List ℕ) (items : List Item) (e : ProgErr) → IsProgramText text items → IsNoProgram text e → ⊥
not_both text items e p (no_tokens r) = tokens.lexed_or_refused text p.tokens e p.lexed r
not_both text items e p (no_tree all lexed some r) =
    trees.not_both all items e some (subst (λ l. IsProgramOf (lexemes l) items) (one_list text p.tokens all p.lexed lexed) p.program) r

pub one_program_text : (text : List ℕ) (items others : List Item) → IsProgramText text items → IsProgramText text others → items ≡ others
one_program_text text items others p q =
    one_program (lexemes q.tokens) items others (subst (λ l. IsProgramOf (lexemes l) items) (one_list text p.tokens q.tokens p.lexed q.lexed) p.program) q.program

pub one_reason : (text : List ℕ) (e f : ProgErr) → IsNoProgram text e → IsNoProgram text f → e ≡ f
one_reason text e f (no_tokens r) (no_tokens s) = tokens.one_refusal text e f r s
one_reason text e f (no_tokens r) (no_tree all lexed some s) = absurd (tokens.lexed_or_refused text all e lexed r)
one_reason text e f (no_tree all lexed some r) (no_tokens s) = absurd (tokens.lexed_or_refused text all f lexed s)
one_reason text e f (no_tree all lexed some r) (no_tree others there other s) =
    trees.one_refusal others e f some other (subst (λ l. AreTokensRefused l e) (one_list text all others lexed there) r) s
