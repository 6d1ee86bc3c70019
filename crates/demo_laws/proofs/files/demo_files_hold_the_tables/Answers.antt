use Rattle.demo_laws.proofs.FilesOpened.{orders_table, lines_table, opens}
use Rattle.demo_laws.proofs.files.demo_files_hold_the_tables.Goals as goal

pub returns : goal.returns
returns c = record { orders = orders_table; lines = lines_table; opened = opens }
