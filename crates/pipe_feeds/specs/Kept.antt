-- The streams that pipelines gathered, in pieces, until a later one takes them.
use Rattle.std.specs.Prelude.{◌≡◌, List, [], ◌∷◌, Option, Some, None}
use Rattle.sub_types.specs.declared.kind.Ty.{Ty}
use Rattle.sub_types.specs.Stream.{Stream}
use Rattle.batch.specs.declared.batch.Piece.{Piece}
use Rattle.plan_denote.specs.Rows.{Row}
use Rattle.set_rels.specs.Inputs.{stream_of}
pub use Rattle.pipe_ends.specs.Given.{IsInput}

-- this holds of pieces that were not taken
abbrev pub IsKept : {T : Type 0} → (T → List Piece → Type 0) → T → Option (List Piece) → Type 0
IsKept P t None = Unit {0}
IsKept P t (Some pieces) = P t pieces

-- the same of each, in order
abbrev pub AreKept : {T : Type 0} → (T → List Piece → Type 0) → List T → List (Option (List Piece)) → Type 0
AreKept P [] [] = Unit {0}
AreKept P (t ∷ ts) (kept ∷ all) = IsKept P t kept × AreKept P ts all
AreKept P _ _ = ⊥

-- pieces are stored with these types, and their rows fit them
abbrev pub AreTypedAs : List (List Ty) → List (Option (List Piece)) → Type 0
AreTypedAs = AreKept IsInput

-- pieces together are these streams
abbrev pub AreStreams : List (Stream Row) → List (Option (List Piece)) → Type 0
AreStreams = AreKept (λ stream pieces. stream_of pieces ≡ stream)

-- one may have been taken
abbrev pub IsLeftOne : Option (List Piece) → Option (List Piece) → Type 0
IsLeftOne old None = Unit {0}
IsLeftOne old (Some pieces) = old ≡ Some pieces

-- some may have been taken
abbrev pub IsLeft : List (Option (List Piece)) → List (Option (List Piece)) → Type 0
IsLeft [] [] = Unit {0}
IsLeft (old ∷ olds) (new ∷ news) = IsLeftOne old new × IsLeft olds news
IsLeft _ _ = ⊥

-- what was not taken
abbrev pub whole : List Piece → Option (Option (List Piece))
whole pieces = Some (Some pieces)
