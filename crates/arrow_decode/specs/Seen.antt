-- A raw batch and its dictionaries, as the definitions see them.
use Rattle.std.specs.Prelude.{ℕ, List, map, true}
use Rattle.arrow_meta.specs.declared.field.Layout.{Layout}
use Rattle.sub_types.specs.declared.kind.Kind.{Kind}
use Rattle.sub_types.specs.declared.kind.Ty.{Ty}
use Rattle.arrow_meta.specs.Batch.{Wanted}
use Rattle.arrow_meta.specs.Dictionary.{ColumnDictionary}
use Rattle.arrow_meta.specs.Table.{dictionary_of}
use Rattle.arrow_decode.specs.declared.dictionary.DictColumn.{DictColumn}

-- the dictionary of a column
abbrev pub dictionary_seen : DictColumn → ColumnDictionary
dictionary_seen dictionary = record { column = dictionary.column; values = dictionary.values }

-- a wanted column with its dictionary
abbrev pub wanted_with : List DictColumn → ℕ × Kind × Layout → Wanted
wanted_with dictionaries wanted =
    record { column = wanted.0; kind = wanted.1; layout = wanted.2; dictionary = dictionary_of (map dictionary_seen dictionaries) wanted.0 }

-- the type of a wanted column, in which nulls may stand
abbrev pub wanted_type : ℕ × Kind × Layout → Ty
wanted_type wanted = record { kind = wanted.1; nullable = true }
