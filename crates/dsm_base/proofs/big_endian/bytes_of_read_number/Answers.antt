use Rattle.dsm_base.proofs.BigEndian.{read_number}
use Rattle.dsm_base.proofs.big_endian.bytes_of_read_number.Goals as goal

pub returns : goal.returns
returns c = read_number
