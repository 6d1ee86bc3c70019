use Rattle.fb_bytes.proofs.LawProofs.{root_law, table_law, tables_law, item_law, structs_law, text_law, absence_law}
use Rattle.fb_bytes.proofs.laws.laid_reads_back.Goals as goal

pub returns : goal.returns
returns c = record {
  root = root_law;
  table = table_law;
  tables = tables_law;
  item = item_law;
  structs = structs_law;
  text = text_law;
  absence = absence_law;
}
