-- The tests of kinds.
use Rattle.std.proofs.Common.{◌≡◌, ◌==◌, refl, true}
use Rattle.std.specs.Cmp.Derive.{both_true}
use Rattle.std.proofs.lemmas.Bool.{and_parts, eqb-true, eq-eqb}
use Rattle.sub_types.specs.declared.kind.Kind.{Kind}
use Rattle.sub_types.specs.declared.kind.Kind.TheVariants as kinds
use Rattle.func_table.specs.Kinds.{is_equal}

pub equal_kinds : (a b : Kind) → is_equal a b ≡ true → a ≡ b
equal_kinds kinds.Bool kinds.Bool e = refl
equal_kinds kinds.I8 kinds.I8 e = refl
equal_kinds kinds.I16 kinds.I16 e = refl
equal_kinds kinds.I32 kinds.I32 e = refl
equal_kinds kinds.I64 kinds.I64 e = refl
equal_kinds kinds.Text kinds.Text e = refl
equal_kinds kinds.Binary kinds.Binary e = refl
equal_kinds kinds.Date kinds.Date e = refl
equal_kinds kinds.Timestamp kinds.Timestamp e = refl
equal_kinds (kinds.Decimal p s) (kinds.Decimal q t) e =
    let parts = and_parts (s == t) (p == q) e in
    let scales = eqb-true s t parts.0 in
    let precisions = eqb-true p q parts.1 in
    cc
equal_kinds _ _ e = cc

pub is_equal-same : (a : Kind) → is_equal a a ≡ true
is_equal-same kinds.Bool = refl
is_equal-same kinds.I8 = refl
is_equal-same kinds.I16 = refl
is_equal-same kinds.I32 = refl
is_equal-same kinds.I64 = refl
is_equal-same kinds.Text = refl
is_equal-same kinds.Binary = refl
is_equal-same kinds.Date = refl
is_equal-same kinds.Timestamp = refl
is_equal-same (kinds.Decimal p s) = both_true (eq-eqb s s refl) (eq-eqb p p refl)
