use Rattle.std.specs.Int.{w32}
use Rattle.arrow_meta.specs.Values.{signed_in}
use Rattle.arrow_decode.proofs.NumberLaws.{ints_in-numbers}
use Rattle.arrow_decode.proofs.fixed.numbers_i32.Goals as goal

pub returns : goal.returns
returns c = ints_in-numbers c.in_ok-found.found (signed_in w32 4 c.args.count c.args.buffer.now) c.args.valid c.in_ok-found.ensures
