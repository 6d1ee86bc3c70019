-- What the calls that read metadata give, as the definitions see it.
use Rattle.std.specs.Prelude.{ℤ, List, Bool, Option, Result, Ok, Err, Vec, map}
use Rattle.std.specs.List.{range_with_len}
use Rattle.std.specs.declared.alloc.Global.{Global}
use Rattle.fb_bytes.specs.Reading.{VectorAt}
use Rattle.arrow_meta.specs.declared.error.MetaError.{MetaError}
use Rattle.arrow_meta.specs.declared.columns.Schema.{Schema}
use Rattle.arrow_meta.specs.declared.field.FieldMeta.{FieldMeta}
use Rattle.arrow_meta.specs.declared.meta.Block.{Block}
use Rattle.arrow_meta.specs.declared.meta.RecordMeta.{RecordMeta}
use Rattle.arrow_meta.specs.declared.read.footer.FieldRead.{FieldRead}
use Rattle.sub_types.specs.ResultSteps.{◌>>=◌, collect}
use Rattle.arrow_meta.specs.Footer.{Field, Footer, each_of, field_at, columns_from}
use Rattle.arrow_meta.specs.Message.{DictionaryMeta}

-- a field whose name is lent
abbrev pub field_read : Result FieldRead MetaError → Result Field MetaError
field_read (Ok field) = Ok (record { name = field.name.now; nullable = field.nullable; shape = field.shape })
field_read (Err e) = Err e

-- the fields that a vector leads to, if each can be read
abbrev pub items_of : VectorAt → Result (List Field) MetaError
items_of vector = collect (map (field_at vector) (range_with_len 0 vector.count))

-- the same of a vector that may be absent
abbrev pub fields_of : Option VectorAt → Result (List Field) MetaError
fields_of fields = collect (each_of field_at fields)

-- a schema with the blocks of dictionaries and of record batches
abbrev pub footer_seen : Schema × Vec Block Global × Vec Block Global → Footer
footer_seen read = record { columns = read.0.columns; dictionaries = read.1.items; records = read.2.items }

-- a dictionary's id, whether a block adds to those before, and its values
abbrev pub dictionary_seen : ℤ × Bool × RecordMeta → DictionaryMeta
dictionary_seen read = record { id = read.0; is_delta = read.1; values = read.2 }

-- the columns of fields
abbrev pub columns_of : Result (List Field) MetaError → Result (List FieldMeta) MetaError
columns_of fields = fields >>= columns_from 0
