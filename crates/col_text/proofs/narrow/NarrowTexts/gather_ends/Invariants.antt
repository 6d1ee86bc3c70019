use Rattle.std.proofs.Common.{◌≡◌, ◌<◌, ◌^◌, length, take}
use Rattle.std.specs.Vec.{vec_len, vec_capacity}
use Rattle.std.specs.List.{concat}
use Rattle.col_text.specs.Text.{ends_of, picked}
use Rattle.col_text.proofs.narrow.NarrowTexts.gather_ends.Given as goal

-- the ends so far, as long as they are below 2^32, and room for all
abbrev pub invariant-loop-i : goal.invariant-loop-i
invariant-loop-i l = record {
  ends : l.end < 2 ^ 32 → l.ends.items ≡ ends_of 0 (picked l.self (take l.i-index l.at));
  end : l.end < 2 ^ 32 → l.end ≡ length (concat (picked l.self (take l.i-index l.at)));
  counted : vec_len l.ends ≡ l.i-index;
  room : vec_capacity l.ends ≡ length l.at;
}
