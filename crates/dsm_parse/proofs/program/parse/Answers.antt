use Rattle.std.proofs.Common.{◌≡◌, true, sym, ◌∙◌, subst}
use Rattle.std.proofs.lemmas.Result.{err_from_is_err_and}
use Rattle.dsm_syntax.specs.Views.{view_items}
use Rattle.dsm_syntax.specs.Sound.{are_sound}
use Rattle.dsm_syntax.specs.Lexemes.{lexemes}
use Rattle.dsm_laws_grammar.specs.Programs.{IsProgramOf}
use Rattle.dsm_laws_grammar.specs.Refusals.{IsRefused}
use Rattle.dsm_laws_grammar.proofs.Exact.{one_program}
use Rattle.dsm_laws_grammar.proofs.Soundness.{Sound, of_tokens, sound_program}
use Rattle.dsm_laws_grammar.proofs.Whole.{not_refused, one_refusal}
use Rattle.dsm_parse.proofs.program.parse.Goals as goal

pub returns-in_err-items-clause-each_program : goal.returns-in_err-items-clause-each_program
returns-in_err-items-clause-each_program c all p =
    let e = err_from_is_err_and c.from_residual.result c.from_residual.ensures.1 in
    rw (e.1, e.2) (not_refused c.args.tokens.now all c.in_err-items.field-0.0 p (subst (λ l. IsRefused l c.in_err-items.field-0.0) c.as_slice.ensures.value c.in_err-items.ensures.refused))

pub returns-in_err-items-clause-each_fault : goal.returns-in_err-items-clause-each_fault
returns-in_err-items-clause-each_fault c fault some r =
    let e = err_from_is_err_and c.from_residual.result c.from_residual.ensures.1 in
    rw (e.1, e.2) (one_refusal c.args.tokens.now fault c.in_err-items.field-0.0 some r (subst (λ l. IsRefused l c.in_err-items.field-0.0) c.as_slice.ensures.value c.in_err-items.ensures.refused))

pub new-requires : goal.new-requires
new-requires c =
    let p = c.in_ok-items.ensures.found in
    let sound = subst (λ l. are_sound l ≡ true) (sym c.as_slice.ensures.value) c.as_slice.ensures.sound in
    record {
      sound = sound_program (view_items c.in_ok-items.items.items) (subst Sound (sym p.spelled) (of_tokens c.as_slice.result.now sound));
      low = p.low;
    }

pub returns-clause-each_program : goal.returns-clause-each_program
returns-clause-each_program c all p =
    c.new.ensures ∙ one_program (lexemes c.args.tokens.now) (view_items c.in_ok-items.items.items) all (subst (λ l. IsProgramOf (lexemes l) (view_items c.in_ok-items.items.items)) c.as_slice.ensures.value c.in_ok-items.ensures.found) p

pub returns-clause-each_fault : goal.returns-clause-each_fault
returns-clause-each_fault c e some r =
    some (not_refused c.args.tokens.now (view_items c.in_ok-items.items.items) e (subst (λ l. IsProgramOf (lexemes l) (view_items c.in_ok-items.items.items)) c.as_slice.ensures.value c.in_ok-items.ensures.found) r)
