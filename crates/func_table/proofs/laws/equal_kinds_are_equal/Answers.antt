use Rattle.std.proofs.Common.{subst, ◌≡◌, true}
use Rattle.sub_types.specs.declared.kind.Kind.{Kind}
use Rattle.func_table.specs.Kinds.{is_equal}
use Rattle.func_table.proofs.KindLaws.{equal_kinds, is_equal-same}
use Rattle.func_table.proofs.laws.equal_kinds_are_equal.Goals as goal

pub returns : goal.returns
returns c = λ a b. (equal_kinds a b, λ same. subst (λ (k : Kind). is_equal a k ≡ true) same (is_equal-same a))
