use Rattle.std.proofs.Common.{ℕ, ◌<◌, IsOk}
use Rattle.arrow_meta.specs.Footer.{field_at}
use Rattle.arrow_meta.proofs.read.footer.check_fields.Given as goal

-- each field so far can be read
abbrev pub invariant-loop-i : goal.invariant-loop-i
invariant-loop-i l = (k : ℕ) → k < l.i → IsOk (field_at l.fields k)
