use Rattle.std.proofs.Common.{◌≡◌, ◌≤◌, ◌++◌, map, drop}
use Rattle.std.specs.List.{filter_map, enumerate_from}
use Rattle.arrow_meta.specs.Dictionary.{column_dictionary, column_dictionaries}
use Rattle.arrow_decode.specs.Seen.{dictionary_seen}
use Rattle.arrow_read.specs.Told.{IfTold}
use Rattle.arrow_read.specs.Sound.{index_place, index_places}
use Rattle.arrow_read.specs.Extents.{blocks_seen}
use Rattle.arrow_read.proofs.dictionaries.dictionaries.Given as goal

-- the dictionaries so far and those of the columns that are left are all
abbrev pub invariant-loop-i : goal.invariant-loop-i
invariant-loop-i g l = record {
  bytes : g.R.Reader.bytes l.reader ≡ g.R.Reader.bytes l.initial.reader;
  faults : g.R.Reader.faults l.initial.reader ≤ g.R.Reader.faults l.reader;
  dictionaries : IfTold (g.R.Reader.bytes l.initial.reader) (λ told.
      column_dictionaries (blocks_seen told l.blocks) l.columns
      ≡ map dictionary_seen l.found.items ++ filter_map (column_dictionary (blocks_seen told l.blocks)) (enumerate_from l.i (drop l.i l.columns)));
  indexed : index_places l.columns ≡ map (λ dictionary. dictionary.column) l.found.items ++ filter_map index_place (enumerate_from l.i (drop l.i l.columns));
}
