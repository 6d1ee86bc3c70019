-- Files written piece by piece.
use Rattle.std.proofs.Common.{◌≡◌, ◌∙◌, sym, ap, refl, ℕ, List, [], ◌++◌, Bool, true, false, cond, Option, Some, None, unwrap_or, append_assoc, is_some}
use Rattle.std.specs.Option.{option_map}
use Rattle.std.specs.Ordering.{nat_cmp, is_eq, eq_by_cmp}
use Rattle.std.specs.Cmp.Lexicographic.{slice_cmp, nat_list_cmp_total}
use Rattle.std.specs.Cmp.{eq_by_cmp_equiv}
use Rattle.std.specs.FinMap.{get, insert, get-insert, same_map, slice_cmp-IsAntisymmetric, nat_cmp-IsAntisymmetric}
use Rattle.world.specs.Files.{Files, written, appended, Has}

tie : (name : List ℕ) → eq_by_cmp (slice_cmp nat_cmp) name name ≡ true
tie name = (eq_by_cmp_equiv nat_list_cmp_total).refl name

-- a file that was set is found
pub get-insert_same : (files : Files) (name bytes : List ℕ) → get (insert files name bytes) name ≡ Some bytes
get-insert_same files name bytes = get-insert nat_list_cmp_total files name bytes name ∙ ap (λ b. cond b (Some bytes) (get files name)) (tie name)

-- the last of two settings counts
pub insert-insert : (files : Files) (name first last : List ℕ) → insert (insert files name first) name last ≡ insert files name last
insert-insert files name first last = same_map nat_list_cmp_total (slice_cmp-IsAntisymmetric nat_cmp-IsAntisymmetric) _ _ at
  where
    pick : (b : Bool) (rest : Option (List ℕ)) → cond b (Some last) (cond b (Some first) rest) ≡ cond b (Some last) rest
    pick true rest = refl
    pick false rest = refl

    at : (q : List ℕ) → get (insert (insert files name first) name last) q ≡ get (insert files name last) q
    at q =
        get-insert nat_list_cmp_total (insert files name first) name last q
        ∙ ap (cond (eq_by_cmp (slice_cmp nat_cmp) q name) (Some last)) (get-insert nat_list_cmp_total files name first q)
        ∙ pick (eq_by_cmp (slice_cmp nat_cmp) q name) (get files q)
        ∙ sym (get-insert nat_list_cmp_total files name last q)

pub written-written : (files : Option Files) (name first last : List ℕ) → written (written files name first) name last ≡ written files name last
unfolding written
written-written None name first last = refl
written-written (Some files) name first last = ap Some (insert-insert files name first last)

-- a piece behind what was written
pub appended-written : (files : Option Files) (name bytes piece : List ℕ) → appended (written files name bytes) name piece ≡ written files name (bytes ++ piece)
unfolding written appended
appended-written None name bytes piece = refl
appended-written (Some files) name bytes piece =
    ap (λ found. Some (insert (insert files name bytes) name (unwrap_or found [] ++ piece))) (get-insert_same files name bytes)
    ∙ ap Some (insert-insert files name bytes (bytes ++ piece))

-- a file that was written is there
pub Has-written : (files : Option Files) (name bytes : List ℕ) → Has (written files name bytes) name
unfolding written Has
Has-written None name bytes = tt
Has-written (Some files) name bytes = ap is_some (get-insert_same files name bytes)

pub ruleset writing = (written-written, appended-written, Has-written)
