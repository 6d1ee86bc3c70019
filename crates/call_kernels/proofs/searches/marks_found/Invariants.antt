-- The rows before this one are settled, and the search goes on where it begins.
use Rattle.std.proofs.Common.{◌≡◌, ◌-◌, ◌≤◌, [], length}
use Rattle.sub_types.specs.Slots.{slots}
use Rattle.col_text.specs.Text.{offset_of}
use Rattle.call_kernels.specs.Searches.{AreMarked}
use Rattle.call_kernels.proofs.searches.marks_found.Given as goal

abbrev pub invariant-loop-place : goal.invariant-loop-place
invariant-loop-place l = (l.row ≤ length l.column) × (l.at ≡ offset_of (slots [] l.column) l.row) × AreMarked l.pattern (slots [] l.column) l.row l.bits

abbrev pub decreases-loop-place : goal.decreases-loop-place
decreases-loop-place l = length l.column - l.row
