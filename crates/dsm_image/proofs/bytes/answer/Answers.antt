use Rattle.std.proofs.Common.{◌≡◌, ◌∙◌, ℕ, length, replicate, Result, Ok, ap, subst, arith}
use Rattle.std.proofs.lemmas.Result.{err_from_is_err_and}
use Rattle.dsm_base.specs.BigEndian.{IsBytes}
use Rattle.dsm_base.specs.declared.errors.LoadErr.{LoadErr}
use Rattle.dsm_image.specs.declared.image.Image.{Image}
use Rattle.dsm_image_parts.specs.declared.scope.Scope.{Scope}
use Rattle.dsm_image.specs.Frame.{IsFirstOther}
use Rattle.dsm_image.specs.Reading.{front_at}
use Rattle.dsm_image.specs.Answers.{front_answer}
use Rattle.dsm_image_parts.specs.Spelling.{scope_of}
use Rattle.dsm_image.proofs.Answering.{closed_fits, front_fits, image_fits, other_zeros_fit}
use Rattle.dsm_image.proofs.bytes.answer.Goals as goal

pub returns-in_err-front : goal.returns-in_err-front
returns-in_err-front c =
    let p = err_from_is_err_and c.from_residual.result c.from_residual.ensures.1 in
    rw (p.1, p.2) (closed_fits (scope_of c.args.setup.now) c.in_err-front.field-0.0 c.args.bytes.now c.in_err-front.ensures)

pub returns-in_err-image : goal.returns-in_err-image
returns-in_err-image c =
    let p = err_from_is_err_and c.from_residual-in_err-image.result c.from_residual-in_err-image.ensures.1 in
    let small : IsBytes c.args.bytes.now = (λ i. omega (arith, c.type_inv.bytes i)) in
    rw (p.1, p.2) (front_fits (scope_of c.args.setup.now) c.in_ok-front.front.now c.in_ok-front.behind.now c.args.bytes.now c.in_err-image.field-0.0 small c.in_ok-front.ensures (rw c.in_ok-scope.ensures at c.in_err-image.ensures))

pub returns-in-None : goal.returns-in-None
returns-in-None c =
    let small : IsBytes c.args.bytes.now = (λ i. omega (arith, c.type_inv.bytes i)) in
    image_fits (scope_of c.args.setup.now) c.in_ok-front.front.now c.in_ok-front.behind.now c.args.bytes.now c.in_ok-image.image small c.in_ok-front.ensures (rw c.in_ok-scope.ensures at c.in_ok-image.ensures)
    (c.in-None.ensures ∙ ap (λ (n : ℕ). replicate n 0) c.zero_count.ensures)

abbrev read_as : Image → Result Image LoadErr → Type 0
read_as image answer = Ok image ≡ answer

pub returns : goal.returns
returns c =
    let small : IsBytes c.args.bytes.now = (λ i. omega (arith, c.type_inv.bytes i)) in
    let front = c.in_ok-front.front.now in
    let said = subst (λ (scope : Scope). read_as c.in_ok-image.image (front_answer (length front) (front_at scope (length front) front))) c.in_ok-scope.ensures c.in_ok-image.ensures in
    let first = subst (λ (n : ℕ). IsFirstOther c.in-Some.at c.in_ok-front.behind.now (replicate n 0)) c.zero_count.ensures c.in-Some.ensures in
    other_zeros_fit (scope_of c.args.setup.now) c.in_ok-front.front.now c.in_ok-front.behind.now c.args.bytes.now c.in_ok-image.image c.in-Some.at c.saturating_add-in-Some.result c.bad_image.result small c.in_ok-front.ensures said first
    (λ lt. omega (arith, lt, c.saturating_add.ensures, c.saturating_add-in-Some.ensures)) c.bad_image.ensures
