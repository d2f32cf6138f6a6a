use Rattle.dsm_top.proofs.message.write_program_error.Goals as goal

pub returns-in-Unknown : goal.returns-in-Unknown
returns-in-Unknown c = rw c.in-Unknown.is c.write_named.ensures

pub returns-in-WrongKind : goal.returns-in-WrongKind
returns-in-WrongKind c = rw c.in-WrongKind.is c.write_named-in-WrongKind.ensures

pub returns-in-BindRange : goal.returns-in-BindRange
returns-in-BindRange c = rw c.in-BindRange.is c.write_at-in-BindRange.ensures

pub returns-in-OutsideLoop : goal.returns-in-OutsideLoop
returns-in-OutsideLoop c = rw c.in-OutsideLoop.is c.write_at-in-OutsideLoop.ensures
