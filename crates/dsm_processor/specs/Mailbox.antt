-- The mailbox.
use Rattle.std.specs.Prelude.{ℕ, nat_lt, List, [], filter, Option, Some, None}
use Rattle.dsm_lines.specs.declared.list.Line.{Line}
use Rattle.dsm_lines.specs.declared.of_objects.MailGrant.{MailGrant}
use Rattle.dsm_lines.specs.declared.of_objects.MailOpening.{MailOpening}
use Rattle.dsm_net.specs.Processor.{Mail}

-- nothing has come
abbrev pub no_mail : Mail
no_mail = record { grants = []; openings = [] }

-- the grants for turns after this one
abbrev pub later_grants : ℕ → List MailGrant → List MailGrant
later_grants turn grants = filter (λ grant. nat_lt turn grant.turn) grants

-- the openings for turns after this one
abbrev pub later_openings : ℕ → List MailOpening → List MailOpening
later_openings turn openings = filter (λ opening. nat_lt turn opening.turn) openings

-- the lines that a grant brings; without one there are none
abbrev pub lines_in : Option MailGrant → List Line
lines_in None = []
lines_in (Some grant) = grant.lines

-- the lines that an opening brings; without one there are none
abbrev pub lines_at : Option MailOpening → List Line
lines_at None = []
lines_at (Some opening) = opening.lines
