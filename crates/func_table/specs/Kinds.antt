-- The short names of kinds, the keys that are made of them, and when kinds are the same or equal.
use Rattle.std.specs.Prelude.{ℕ, Bool, List, ◌++◌, ◌&&◌, ◌==◌, codes, map}
use Rattle.std.specs.List.{join_with_byte}
use Rattle.std.specs.Str.{bytes_eq}
use Rattle.sub_types.specs.declared.kind.Kind.{Kind}
use Rattle.sub_types.specs.declared.kind.Kind.TheVariants as kinds

-- the short name of a kind
abbrev pub short_name : Kind → List ℕ
short_name kinds.Bool = codes "bool"
short_name kinds.I8 = codes "i8"
short_name kinds.I16 = codes "i16"
short_name kinds.I32 = codes "i32"
short_name kinds.I64 = codes "i64"
short_name kinds.Text = codes "str"
short_name kinds.Binary = codes "vbin"
short_name kinds.Date = codes "date"
short_name kinds.Timestamp = codes "ts"
short_name (kinds.Decimal precision scale) = codes "dec"

-- the scale and the precision of a decimal
abbrev pub scale_of : Kind → ℕ
scale_of (kinds.Decimal precision scale) = scale
scale_of _ = 0

abbrev pub precision_of : Kind → ℕ
precision_of (kinds.Decimal precision scale) = precision
precision_of _ = 0

-- kinds of one name, and of one scale where they are decimals
abbrev pub is_same : Kind → Kind → Bool
is_same a b = bytes_eq (short_name a) (short_name b) && scale_of a == scale_of b

-- kinds that are the same, and of one precision where they are decimals
abbrev pub is_equal : Kind → Kind → Bool
is_equal a b = is_same a b && precision_of a == precision_of b

-- the key of a function: its name, a colon, and the short names of its arguments with underscores between them
abbrev pub key_of : List ℕ → List (List ℕ) → List ℕ
key_of name arguments = name ++ codes ":" ++ join_with_byte 95 arguments

-- the key of a function at arguments of these kinds
abbrev pub key_of_kinds : List ℕ → List Kind → List ℕ
key_of_kinds name kinds = key_of name (map short_name kinds)
