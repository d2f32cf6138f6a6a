use Rattle.std.proofs.Common.{◌≡◌, ◌∙◌, ◌++◌, ap, append_assoc}
use Rattle.std.proofs.lemmas.Result.{on_ok_weaker}
use Rattle.std.specs.Prelude.{List, ℕ, codes}
use Rattle.dsm_top.specs.Messages.{numbered}
use Rattle.dsm_top.proofs.message.write_owner.Goals as goal

-- three pieces behind one another
three : (out one two last : List ℕ) → ((out ++ one) ++ two) ++ last ≡ out ++ (one ++ (two ++ last))
three out one two last = append_assoc (out ++ one) two last ∙ append_assoc out one (two ++ last)

pub returns : goal.returns
returns c =
    let owner = numbered (codes "owner ") c.args.owner in
    let procs = numbered (codes " with ") c.args.procs in
    on_ok_weaker c.text.result (λ e. e ∙ ap (λ x. x ++ codes " processors") (c.in_ok-write_number-2.ensures ∙ (λ k. c.in_ok-write_number.ensures k ++ numbered (codes " with ") (c.from.ensures k))) ∙ three c.args.out.now owner procs (codes " processors")) c.text.ensures
