-- The parts of a join of two columns of numbers on each side.
use Rattle.std.proofs.Common.{true, ◌≡◌, zero, suc, [], ◌∷◌, refl, sym, subst, arith}
use Rattle.std.specs.List.{All, AllByRecursion}
use Rattle.sub_types.specs.Kind.{IsKind}
use Rattle.sub_types.specs.declared.kind.Kind.TheVariants as kinds
use Rattle.sub_types.specs.declared.kind.Ty.{Ty}
use Rattle.plan_pipes.specs.TypeMeaning.{IsKeyOver}
use Rattle.rel_specs.specs.declared.join.JoinSpec.{JoinSpec}
use Rattle.hash_join.specs.Built.{IsJoinable}

abbrev pub number : Ty
number = record { kind = kinds.I64; nullable = true }

are_kinds : All (λ (ty : Ty). IsKind ty.kind) (number ∷ number ∷ [])
are_kinds zero d below = tt
are_kinds (suc zero) d below = tt
are_kinds (suc (suc k)) d below = absurd (omega arith)

pub key_fits : IsKeyOver (number ∷ number ∷ []) (number ∷ number ∷ []) (0, 0)
key_fits = record { first = number; second = number; in_left = refl; in_right = refl; equal = refl }

pub joinable : (spec : JoinSpec) → spec.left.items ≡ number ∷ number ∷ [] → spec.right.items ≡ number ∷ number ∷ [] → AllByRecursion (IsKeyOver (number ∷ number ∷ []) (number ∷ number ∷ [])) spec.keys.items → IsJoinable spec
joinable spec left right keys = record {
  left_kinds = subst (λ types. All (λ (ty : Ty). IsKind ty.kind) types) (sym left) are_kinds;
  right_kinds = subst (λ types. All (λ (ty : Ty). IsKind ty.kind) types) (sym right) are_kinds;
  keys = subst (λ types. AllByRecursion (IsKeyOver types spec.right.items) spec.keys.items) (sym left)
      (subst (λ types. AllByRecursion (IsKeyOver (number ∷ number ∷ []) types) spec.keys.items) (sym right) keys);
}
