-- A batch with no columns.
use Rattle.std.proofs.Common.{◌≡◌, [], length, arith}
use Rattle.std.proofs.lemmas.Bool.Decides.{nat_tests}
use Rattle.std.proofs.lemmas.List.{nil_from_length}
use Rattle.sub_query.proofs.RowLaws.{no_columns}
use Rattle.sub_query.proofs.worth_of.first_at.Goals as goal

pub returns-then-is_empty : goal.returns-then-is_empty
returns-then-is_empty c =
    let zero : length c.args.batch.now.columns.items ≡ 0 = grind (arith, nat_tests, c.args.batch.now.columns.ok.0, c.is_empty.ensures) in
    let none : c.args.batch.now.columns.items ≡ [] = nil_from_length c.args.batch.now.columns.items zero in
    no_columns c.args.batch.now c.args.row c.requires none
