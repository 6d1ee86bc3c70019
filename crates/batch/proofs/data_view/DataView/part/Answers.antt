-- In each arm a part of the values lent is the values of the part.
use Rattle.std.proofs.Common.{sym}
use Rattle.sub_types.specs.Nullable.{bool_value, int_value, dec_value, bytes_value}
use Rattle.sub_types.specs.PartLaws.{part-map}
use Rattle.batch.proofs.data_view.DataView.part.Goals as goal

pub returns-in-Bool-clause-values : goal.returns-in-Bool-clause-values
returns-in-Bool-clause-values c = rw (c.part.ensures, c.in-Bool.is) (sym (part-map bool_value c.in-Bool.part c.args.from c.args.to))

pub returns-in-I8-clause-values : goal.returns-in-I8-clause-values
returns-in-I8-clause-values c = rw (c.part-in-I8.ensures, c.in-I8.is) (sym (part-map int_value c.in-I8.part c.args.from c.args.to))

pub returns-in-I16-clause-values : goal.returns-in-I16-clause-values
returns-in-I16-clause-values c = rw (c.part-in-I16.ensures, c.in-I16.is) (sym (part-map int_value c.in-I16.part c.args.from c.args.to))

pub returns-in-I32-clause-values : goal.returns-in-I32-clause-values
returns-in-I32-clause-values c = rw (c.part-in-I32.ensures, c.in-I32.is) (sym (part-map int_value c.in-I32.part c.args.from c.args.to))

pub returns-in-I64-clause-values : goal.returns-in-I64-clause-values
returns-in-I64-clause-values c = rw (c.part-in-I64.ensures, c.in-I64.is) (sym (part-map int_value c.in-I64.part c.args.from c.args.to))

pub returns-in-I128-clause-values : goal.returns-in-I128-clause-values
returns-in-I128-clause-values c = rw (c.part-in-I128.ensures, c.in-I128.is) (sym (part-map dec_value c.in-I128.part c.args.from c.args.to))

pub returns-in-Bytes-clause-values : goal.returns-in-Bytes-clause-values
returns-in-Bytes-clause-values c = rw (c.part-in-Bytes.ensures, c.in-Bytes.is) (sym (part-map bytes_value c.in-Bytes.part c.args.from c.args.to))
