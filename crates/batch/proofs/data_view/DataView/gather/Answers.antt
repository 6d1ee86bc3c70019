-- In each arm the values at the places lent are the column of the values at the places.
use Rattle.std.proofs.Common.{None}
use Rattle.sub_types.specs.Nullable.{bool_value, int_value, dec_value, bytes_value}
use Rattle.batch.proofs.ValueLaws.{map-picked}
use Rattle.batch.proofs.data_view.DataView.gather.Goals as goal

pub returns-in_ok-gather-in-Bool-clause-values : goal.returns-in_ok-gather-in-Bool-clause-values
returns-in_ok-gather-in-Bool-clause-values c =
    rw (c.in_ok-gather-in-Bool.ensures, c.in-Bool.is) (map-picked bool_value None c.args.at.now c.in-Bool.part)

pub returns-in_ok-gather-in-I8-clause-values : goal.returns-in_ok-gather-in-I8-clause-values
returns-in_ok-gather-in-I8-clause-values c =
    rw (c.in_ok-gather-in-I8.ensures, c.in-I8.is) (map-picked int_value None c.args.at.now c.in-I8.part)

pub returns-in_ok-gather-in-I16-clause-values : goal.returns-in_ok-gather-in-I16-clause-values
returns-in_ok-gather-in-I16-clause-values c =
    rw (c.in_ok-gather-in-I16.ensures, c.in-I16.is) (map-picked int_value None c.args.at.now c.in-I16.part)

pub returns-in_ok-gather-in-I32-clause-values : goal.returns-in_ok-gather-in-I32-clause-values
returns-in_ok-gather-in-I32-clause-values c =
    rw (c.in_ok-gather-in-I32.ensures, c.in-I32.is) (map-picked int_value None c.args.at.now c.in-I32.part)

pub returns-in_ok-gather-in-I64-clause-values : goal.returns-in_ok-gather-in-I64-clause-values
returns-in_ok-gather-in-I64-clause-values c =
    rw (c.in_ok-gather-in-I64.ensures, c.in-I64.is) (map-picked int_value None c.args.at.now c.in-I64.part)

pub returns-in_ok-gather-in-I128-clause-values : goal.returns-in_ok-gather-in-I128-clause-values
returns-in_ok-gather-in-I128-clause-values c =
    rw (c.in_ok-gather-in-I128.ensures, c.in-I128.is) (map-picked dec_value None c.args.at.now c.in-I128.part)

pub returns-in_ok-gather-in-Bytes-clause-values : goal.returns-in_ok-gather-in-Bytes-clause-values
returns-in_ok-gather-in-Bytes-clause-values c =
    rw (c.in_ok-gather-in-Bytes.ensures, c.in-Bytes.is) (map-picked bytes_value None c.args.at.now c.in-Bytes.part)
