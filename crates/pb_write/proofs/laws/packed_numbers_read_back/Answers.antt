use Rattle.pb_write.proofs.WriteLaws.{packed_read}
use Rattle.pb_write.proofs.laws.packed_numbers_read_back.Goals as goal

pub returns : goal.returns
returns c numbers can = packed_read numbers can
