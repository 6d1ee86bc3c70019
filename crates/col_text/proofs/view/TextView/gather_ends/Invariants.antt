use Rattle.std.proofs.Common.{◌≡◌, take, length}
use Rattle.std.specs.List.{concat}
use Rattle.col_text.specs.Text.{ends_of, texts_at}
use Rattle.col_text.proofs.view.TextView.gather_ends.Given as goal

abbrev pub invariant-loop-i : goal.invariant-loop-i
invariant-loop-i l = record {
  ends : l.ends ≡ ends_of 0 (texts_at l.self (take l.i-index l.at));
  end : l.end ≡ length (concat (texts_at l.self (take l.i-index l.at)));
}
