use Rattle.dsm_syntax.proofs.Sounds.{spelled_sound}
use Rattle.dsm_syntax.proofs.lexer.list.Goals as goal

pub new-requires : goal.new-requires
new-requires c = spelled_sound c.args.text.now c.in-Ok.tokens c.in-Ok.ensures.spelled
