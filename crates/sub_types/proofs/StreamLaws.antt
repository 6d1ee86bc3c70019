-- The laws of streams.
use Rattle.std.proofs.Common.{◌≡◌, ◌∙◌, sym, ap, refl, List, [], ◌∷◌, ◌++◌, Option, Some, None, Result, map, append_assoc}
use Rattle.std.proofs.lemmas.List.{map-append}
use Rattle.std.specs.List.{flat_map}
use Rattle.sub_types.specs.declared.fault.Fault.{Fault}
use Rattle.sub_types.specs.Stream.{Stream, ended, followed_by, glue, each_stream, each, stream_of}

-- a stream of these rows and this end
abbrev stream : {R : Type 0} → List R → Option Fault → Stream R
stream rows end = record { rows = rows; end = end }

assoc_parts : {R : Type 0} (a b : List R) (end next : Option Fault) (c : Stream R) → followed_by (followed_by (stream a end) (stream b next)) c ≡ followed_by (stream a end) (followed_by (stream b next) c)
assoc_parts a b (Some fault) next c = refl
assoc_parts a b None (Some fault) c = refl
assoc_parts a b None None c = ap (λ rows. stream rows c.end) (append_assoc a b c.rows)

pub followed_by_assoc : {R : Type 0} (a b c : Stream R) → followed_by (followed_by a b) c ≡ followed_by a (followed_by b c)
followed_by_assoc a b c = assoc_parts a.rows b.rows a.end b.end c

pub glue-append : {R : Type 0} (a b : List (Stream R)) → glue (a ++ b) ≡ followed_by (glue a) (glue b)
glue-append [] b = refl
glue-append (s ∷ a) b = ap (followed_by s) (glue-append a b) ∙ sym (followed_by_assoc s (glue a) (glue b))

pub glue-flat : {R : Type 0} (pieces : List (List (Stream R))) → glue (map glue pieces) ≡ glue (flat_map (λ piece. piece) pieces)
glue-flat [] = refl
glue-flat (piece ∷ pieces) = ap (followed_by (glue piece)) (glue-flat pieces) ∙ sym (glue-append piece (flat_map (λ p. p) pieces))

map_parts : {R S : Type 0} (f : R → Stream S) (a b : List R) (end next : Option Fault) → each_stream f (followed_by (stream a end) (stream b next)) ≡ followed_by (each_stream f (stream a end)) (each_stream f (stream b next))
map_parts f a b (Some fault) next = sym (followed_by_assoc (glue (map f a)) (ended (Some fault)) (each_stream f (stream b next)))
map_parts f a b None next =
    ap (λ s. followed_by s (ended next)) (ap glue (map-append f a b) ∙ glue-append (map f a) (map f b))
    ∙ followed_by_assoc (glue (map f a)) (glue (map f b)) (ended next)
    ∙ sym (followed_by_assoc (glue (map f a)) (ended None) (each_stream f (stream b next)))

-- over the rows of one stream and then of the next
pub each_stream-followed_by : {R S : Type 0} (f : R → Stream S) (a b : Stream R) → each_stream f (followed_by a b) ≡ followed_by (each_stream f a) (each_stream f b)
each_stream-followed_by f a b = map_parts f a.rows b.rows a.end b.end

pub each_stream-glue : {R S : Type 0} (f : R → Stream S) (pieces : List (Stream R)) → each_stream f (glue pieces) ≡ glue (map (each_stream f) pieces)
each_stream-glue f [] = refl
each_stream-glue f (s ∷ pieces) = each_stream-followed_by f s (glue pieces) ∙ ap (followed_by (each_stream f s)) (each_stream-glue f pieces)

pub each-glue : {R S : Type 0} (f : R → Result (List S) Fault) (pieces : List (Stream R)) → each f (glue pieces) ≡ glue (map (each f) pieces)
each-glue f pieces = each_stream-glue (λ row. stream_of (f row)) pieces
