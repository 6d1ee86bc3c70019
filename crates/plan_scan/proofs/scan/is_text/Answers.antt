use Rattle.std.proofs.Common.{◌≡◌, sym, refl, Bool, true, false, List, ℕ, ◌↔◌, IsTrue}
use Rattle.std.specs.Str.{IsUtf8, is_utf8}
use Rattle.std.proofs.lemmas.Bool.{false_from_ne_true}
use Rattle.std.proofs.lemmas.Str.{IsUtf8-from_is_utf8, is_utf8-from_IsUtf8}
use Rattle.plan_scan.proofs.scan.is_text.Goals as goal

same_test : (b : Bool) (bytes : List ℕ) → (IsTrue b ↔ IsUtf8 bytes) → b ≡ is_utf8 bytes
same_test true bytes e = sym (is_utf8-from_IsUtf8 bytes (e.0 refl))
same_test false bytes e = sym (false_from_ne_true (is_utf8 bytes) (λ is. let h : IsTrue false = e.1 (IsUtf8-from_is_utf8 bytes is) in cc))

pub returns : goal.returns
returns c = same_test c.is_utf8.result c.args.bytes.now c.is_utf8.ensures
