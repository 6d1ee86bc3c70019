-- What stands of the streams that pipelines gathered where some are taken and where one is added.
use Rattle.std.proofs.Common.{◌≡◌, ◌∙◌, ◌<◌, ℕ, zero, suc, List, [], ◌∷◌, ◌++◌, Option, Some, None, length, get_or, slice_index_or, slice_set, refl, sym, ap, subst}
use Rattle.std.specs.Prelude.{slice_get}
use Rattle.std.proofs.lemmas.Option.{slice_get-get_or}
use Rattle.batch.specs.declared.batch.Piece.{Piece}
use Rattle.pipe_ends.specs.Given.{IsInput}
use Rattle.sub_types.specs.declared.kind.Ty.{Ty}
use Rattle.sub_types.specs.Stream.{Stream}
use Rattle.plan_denote.specs.Rows.{Row}
use Rattle.set_rels.specs.Inputs.{stream_of}
use Rattle.pipe_feeds.specs.Kept.{IsKept, AreKept, AreStreams, IsLeftOne, IsLeft, whole}

abbrev All : Type 0
All = List (Option (List Piece))

-- one that stands is as it was
left_one : (old : Option (List Piece)) → IsLeftOne old old
left_one None = tt
left_one (Some pieces) = refl

pub left_same : (all : All) → IsLeft all all
left_same [] = tt
left_same (old ∷ olds) = (left_one old, left_same olds)

next_one : (a b c : Option (List Piece)) → IsLeftOne a b → IsLeftOne b c → IsLeftOne a c
next_one a b None first second = tt
next_one a None (Some pieces) first second = absurd (cc)
next_one a (Some was) (Some pieces) first second = first ∙ second

pub left_next : (a b c : All) → IsLeft a b → IsLeft b c → IsLeft a c
left_next [] [] c first second = second
left_next [] (y ∷ ys) c first second = absurd first
left_next (x ∷ xs) [] c first second = absurd first
left_next (x ∷ xs) (y ∷ ys) [] first second = absurd second
left_next (x ∷ xs) (y ∷ ys) (z ∷ zs) first second = (next_one x y z first.0 second.0, left_next xs ys zs first.1 second.1)

-- one is taken
pub left_set : (all : All) (at : ℕ) → IsLeft all (slice_set all at None)
left_set [] at = tt
left_set (old ∷ olds) zero = (tt, left_same olds)
left_set (old ∷ olds) (suc at) = (left_one old, left_set olds at)

is_left : (old : Option (List Piece)) (pieces : List Piece) → IsLeftOne old (Some pieces) → old ≡ Some pieces
is_left old pieces is = is

none_there : {A : Type 0} (x : A) → None ≡ Some x → ⊥
none_there x e = cc

pub left_at : (old new : All) (at : ℕ) (pieces : List Piece) → IsLeft old new → slice_get new at ≡ whole pieces → slice_get old at ≡ whole pieces
left_at [] [] at pieces left is = is
left_at [] (y ∷ ys) at pieces left is = absurd left
left_at (x ∷ xs) [] at pieces left is = absurd left
left_at (x ∷ xs) (None ∷ ys) zero pieces left is = absurd (cc)
left_at (x ∷ xs) (Some one ∷ ys) zero pieces left is = ap (λ old. Some old) left.0 ∙ is
left_at (x ∷ xs) (y ∷ ys) (suc at) pieces left is = left_at xs ys at pieces left.1 is

module _ {T : Type 0} (P : T → List Piece → Type 0) where
  kept_one : (t : T) (old new : Option (List Piece)) → IsKept P t old → IsLeftOne old new → IsKept P t new
  kept_one t old None is left = tt
  kept_one t old (Some pieces) is left = subst (IsKept P t) left is

  pub kept_left : (ts : List T) (old new : All) → AreKept P ts old → IsLeft old new → AreKept P ts new
  kept_left [] [] [] are left = tt
  kept_left [] [] (y ∷ ys) are left = absurd left
  kept_left [] (x ∷ xs) new are left = absurd are
  kept_left (t ∷ ts) [] new are left = absurd are
  kept_left (t ∷ ts) (x ∷ xs) [] are left = absurd left
  kept_left (t ∷ ts) (x ∷ xs) (y ∷ ys) are left = (kept_one t x y are.0 left.0, kept_left ts xs ys are.1 left.1)

  some_kept : (t : T) (kept : Option (List Piece)) (pieces : List Piece) → IsKept P t kept → Some kept ≡ whole pieces → P t pieces
  some_kept t None pieces is e = absurd (cc)
  some_kept t (Some one) pieces is e = let same : one ≡ pieces = cc in subst (P t) same is

  pub kept_at : (ts : List T) (all : All) (at : ℕ) (pieces : List Piece) (d : T) → AreKept P ts all → slice_get all at ≡ whole pieces → P (slice_index_or ts at d) pieces
  kept_at [] [] at pieces d are is = absurd (cc)
  kept_at [] (x ∷ xs) at pieces d are is = absurd are
  kept_at (t ∷ ts) [] at pieces d are is = absurd are
  kept_at (t ∷ ts) (x ∷ xs) zero pieces d are is = some_kept t x pieces are.0 is
  kept_at (t ∷ ts) (x ∷ xs) (suc at) pieces d are is = kept_at ts xs at pieces d are.1 is

  pub kept_more : (ts : List T) (all : All) (t : T) (pieces : List Piece) → AreKept P ts all → P t pieces → AreKept P (ts ++ t ∷ []) (all ++ Some pieces ∷ [])
  kept_more [] [] t pieces are is = (is, tt)
  kept_more [] (x ∷ xs) t pieces are is = absurd are
  kept_more (u ∷ ts) [] t pieces are is = absurd are
  kept_more (u ∷ ts) (x ∷ xs) t pieces are is = (are.0, kept_more ts xs t pieces are.1 is)

-- what stands at a place that is read
pub read_whole : (all : All) (at : ℕ) (pieces : List Piece) (d : Option (List Piece)) → at < length all → Some pieces ≡ get_or all at d → slice_get all at ≡ whole pieces
read_whole all at pieces d below is = slice_get-get_or all at d below ∙ ap (λ one. Some one) (sym is)

-- one stream more, as it is added
pub typed_more : (old new : List (List Ty)) (olds news : All) (types : List Ty) (pieces : List Piece) → new ≡ old ++ types ∷ [] → news ≡ olds ++ Some pieces ∷ [] → AreKept IsInput old olds → IsInput types pieces → AreKept IsInput new news
typed_more old new olds news types pieces added also are is = rw added (rw also (kept_more IsInput old olds types pieces are is))

pub streams_more : (streams : List (Stream Row)) (olds news : All) (stream : Stream Row) (pieces : List Piece) → news ≡ olds ++ Some pieces ∷ [] → AreStreams streams olds → stream_of pieces ≡ stream → AreStreams (streams ++ stream ∷ []) news
streams_more streams olds news stream pieces also are is = rw also (kept_more (λ (one : Stream Row) pieces. stream_of pieces ≡ one) streams olds stream pieces are is)
