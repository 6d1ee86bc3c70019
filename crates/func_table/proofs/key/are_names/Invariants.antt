use Rattle.std.proofs.Common.{◌≡◌, map, drop}
use Rattle.std.specs.List.{join_with_byte}
use Rattle.std.specs.Str.{bytes_eq}
use Rattle.func_table.specs.Kinds.{short_name}
use Rattle.func_table.proofs.KeyLaws.{parted}
use Rattle.func_table.proofs.key.are_names.Given as goal

-- what is left are the names that are left
abbrev pub invariant-loop-kind : goal.invariant-loop-kind
invariant-loop-kind l = bytes_eq l.bytes (join_with_byte 95 (map short_name l.kinds)) ≡ bytes_eq l.rest (parted (map short_name (drop l.kind-index l.others)))
