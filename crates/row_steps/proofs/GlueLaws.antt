-- Streams one after the other.
use Rattle.std.proofs.Common.{◌≡◌, ◌∙◌, List, [], ◌∷◌, Option, Some, None, map, length, refl, sym, ap}
use Rattle.std.proofs.lemmas.List.{append-nil}
use Rattle.sub_types.proofs.StreamLaws.{followed_by_assoc}
use Rattle.sub_types.specs.declared.fault.Fault.{Fault}
use Rattle.sub_types.specs.Stream.{Stream, rows_alone, ended, followed_by, glue, each_stream}

pub none_first : {R : Type 0} (s : Stream R) → followed_by (ended None) s ≡ s
none_first s = refl

by_end : {R : Type 0} (rows : List R) (end : Option Fault) → followed_by (record { rows = rows; end = end }) (rows_alone []) ≡ record { rows = rows; end = end }
by_end rows None = ap (λ all. record { rows = all; end = None }) (append-nil rows)
by_end rows (Some fault) = refl

pub none_last : {R : Type 0} (s : Stream R) → followed_by s (rows_alone []) ≡ s
none_last s = by_end s.rows s.end

pub one_more : {R : Type 0} (done s : Stream R) (left : List (Stream R)) → followed_by done (glue (s ∷ left)) ≡ followed_by (followed_by done s) (glue left)
one_more done s left = sym (followed_by_assoc done s (glue left))

pub one_row_more : {R S : Type 0} (f : R → Stream S) (done : Stream S) (x : R) (xs : List R) (end : Option Fault)
    → followed_by done (each_stream f (record { rows = x ∷ xs; end = end })) ≡ followed_by (followed_by done (f x)) (each_stream f (record { rows = xs; end = end }))
one_row_more f done x xs end = ap (followed_by done) (followed_by_assoc (f x) (glue (map f xs)) (ended end)) ∙ sym (followed_by_assoc done (f x) (each_stream f (record { rows = xs; end = end })))

pub nothing : {R : Type 0} (rows : List R) → length rows ≡ 0 → rows ≡ []
nothing [] is = refl
nothing (row ∷ rows) is = absurd (cc)
