-- Decimals whose numbers are put together as they are.
use Rattle.std.specs.Prelude.{◌≡◌, ℕ, List, [], ◌∷◌}
use Rattle.sub_types.specs.declared.kind.Kind.{Kind}
use Rattle.func_table.specs.Kinds.{scale_of}
use Rattle.kernels.specs.declared.op.ArithOp.{ArithOp}
use Rattle.kernels.specs.declared.op.ArithOp.TheVariants.{Add, Subtract, Multiply, Divide, Modulus}

-- two kinds of this scale
abbrev pub HaveScale : ℕ → List Kind → Type 0
HaveScale scale (first ∷ second ∷ []) = (scale_of first ≡ scale) × (scale_of second ≡ scale)
HaveScale scale _ = ⊥

-- products always, sums and differences of decimals that have the result's scale
abbrev pub ArePlain : ArithOp → ℕ → List Kind → Type 0
ArePlain Add scale given = HaveScale scale given
ArePlain Subtract scale given = HaveScale scale given
ArePlain Multiply scale given = Unit {0}
ArePlain Divide scale given = ⊥
ArePlain Modulus scale given = ⊥
