use Rattle.batch_places.proofs.ValueLaws.{kind_is, row_below, value_added}
use Rattle.batch_places.proofs.gather.add_value.Goals as goal

pub append-requires-clause-alike : goal.append-requires-clause-alike
append-requires-clause-alike c = kind_is c.args.run.now c.args.index c.index-column.result.now c.args.builder.now.ty c.index-column.ensures c.requires.alike

pub append-requires-clause-within : goal.append-requires-clause-within
append-requires-clause-within c = row_below c.args.run.now c.args.index c.args.row c.index-column.result.now c.args.builder.now.ty c.index-column.ensures c.requires.alike c.requires.within

pub returns-clause-values : goal.returns-clause-values
returns-clause-values c =
    value_added c.args.run.now c.args.index c.args.row c.index-column.result.now c.args.builder.now.ty c.args.builder.now.values c.append.new.self.values c.index-column.ensures c.requires.alike c.requires.within c.in_ok-append.ensures.ok
