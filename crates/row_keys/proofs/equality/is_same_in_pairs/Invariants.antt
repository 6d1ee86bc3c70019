use Rattle.std.proofs.Common.{◌≡◌, drop}
use Rattle.plan_denote.specs.Distinct.{is_same_row}
use Rattle.row_keys.specs.Keys.{key_of}
use Rattle.row_keys.proofs.equality.is_same_in_pairs.Given as goal

-- the columns that are left decide as all do
abbrev pub invariant-loop-k : goal.invariant-loop-k
invariant-loop-k l = is_same_row (key_of (drop l.k l.a_columns) l.a l.i) (key_of (drop l.k l.b_columns) l.b l.j) ≡ is_same_row (key_of l.fn.a_columns l.fn.a l.fn.i) (key_of l.fn.b_columns l.fn.b l.fn.j)
