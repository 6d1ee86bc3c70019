-- The parts of a join of two columns of numbers on each side.
use Rattle.std.proofs.Common.{◌≡◌, zero, suc, refl, sym, subst, arith}
use Rattle.std.specs.List.{All, AllByRecursion}
use Rattle.sub_types.specs.Kind.{IsKind}
use Rattle.sub_types.specs.declared.kind.Ty.{Ty}
use Rattle.plan_pipes.specs.TypeMeaning.{IsKeyOver}
use Rattle.rel_specs.specs.declared.join.JoinSpec.{JoinSpec}
use Rattle.hash_join.specs.Built.{IsJoinable}
use Rattle.hash_join_tests.specs.Typed.{number, numbers}

are_kinds : All (λ (ty : Ty). IsKind ty.kind) numbers
are_kinds zero d below = tt
are_kinds (suc zero) d below = tt
are_kinds (suc (suc k)) d below = absurd (omega arith)

pub key_fits : IsKeyOver numbers numbers (0, 0)
key_fits = record { first = number; second = number; in_left = refl; in_right = refl; equal = refl }

pub joinable : (spec : JoinSpec) → spec.left.items ≡ numbers → spec.right.items ≡ numbers → AllByRecursion (IsKeyOver numbers numbers) spec.keys.items → IsJoinable spec
joinable spec left right keys = record {
  left_kinds = subst (λ types. All (λ (ty : Ty). IsKind ty.kind) types) (sym left) are_kinds;
  right_kinds = subst (λ types. All (λ (ty : Ty). IsKind ty.kind) types) (sym right) are_kinds;
  keys = subst (λ types. AllByRecursion (IsKeyOver types spec.right.items) spec.keys.items) (sym left)
      (subst (λ types. AllByRecursion (IsKeyOver numbers types) spec.keys.items) (sym right) keys);
}
