use Rattle.std.proofs.Common.{◌≡◌, ◌+◌, ◌%◌, ◌^◌, ◌++◌, map, length}
use Rattle.std.specs.List.{slice_range}
use Rattle.col_text.proofs.ends.Ends.extend_each.Given as goal

-- those so far are added
abbrev pub invariant-loop-i : goal.invariant-loop-i
invariant-loop-i l = record {
  added : l.self ≡ l.initial.self ++ map (λ end. (end + l.shift) % 2 ^ 64) (slice_range l.more l.from l.i);
  counted : l.count ≡ length l.initial.self;
}
