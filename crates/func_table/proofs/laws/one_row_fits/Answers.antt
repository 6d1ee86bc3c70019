use Rattle.std.proofs.Common.{ap}
use Rattle.std.specs.Option.{option_map}
use Rattle.func_table.specs.Entry.{fits}
use Rattle.func_table.specs.Table.{table}
use Rattle.func_table.proofs.ApartLaws.{one_row_fits}
use Rattle.func_table.proofs.ListLaws.{only_found}
use Rattle.func_table.proofs.laws.one_row_fits.Goals as goal

pub returns-clause-at_most : goal.returns-clause-at_most
returns-clause-at_most c = one_row_fits

pub returns-clause-found : goal.returns-clause-found
returns-clause-found c = λ file name kinds class entry here fit.
    ap (option_map (λ one. one.row)) (only_found (fits file name kinds class) table entry (one_row_fits file name kinds class) here fit)
