-- Which kinds are cast to which (Substrait `Cast`).
use Rattle.std.specs.Prelude.{Bool, true, false, ◌||◌, nat_le}
use Rattle.sub_types.specs.declared.kind.Kind.{Kind}
use Rattle.sub_types.specs.declared.kind.Kind.TheVariants as kinds
use Rattle.func_table.specs.Kinds.{is_equal}

-- whole numbers of 8 to 64 bits
abbrev pub is_whole : Kind → Bool
is_whole kinds.I8 = true
is_whole kinds.I16 = true
is_whole kinds.I32 = true
is_whole kinds.I64 = true
is_whole _ = false

-- what a whole number is cast to beside its own kind
abbrev pub is_cast_of_whole : Kind → Bool
is_cast_of_whole (kinds.Decimal precision scale) = true
is_cast_of_whole kinds.Text = true
is_cast_of_whole kind = is_whole kind

-- what a kind is cast to beside itself: a text to whole numbers, a decimal to one of no smaller scale, a date to a timestamp
abbrev pub is_cast_of : Kind → Kind → Bool
is_cast_of kinds.I8 kind = is_cast_of_whole kind
is_cast_of kinds.I16 kind = is_cast_of_whole kind
is_cast_of kinds.I32 kind = is_cast_of_whole kind
is_cast_of kinds.I64 kind = is_cast_of_whole kind
is_cast_of kinds.Text kind = is_whole kind
is_cast_of (kinds.Decimal precision scale) (kinds.Decimal wide_precision wide_scale) = nat_le scale wide_scale
is_cast_of kinds.Date kinds.Timestamp = true
is_cast_of _ _ = false

-- a kind is cast to itself and to these
abbrev pub can_cast : Kind → Kind → Bool
can_cast from to = is_equal from to || is_cast_of from to
