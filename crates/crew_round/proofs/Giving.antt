-- One labour of a list gives its outcomes.
use Rattle.std.proofs.Common.{◌≡◌, ℕ, ◌+◌, ◌<◌, List, ◌++◌, length, map, drop, set, get_or, append_assoc, arith, sym, ap, ◌∙◌}
use Rattle.std.specs.List.{flat_map}
use Rattle.std.proofs.lemmas.List.{map-set, get_or-map, set-get_or, drop-set-lt, drop_more}

-- an element that is changed, but not to a function, changes nothing to that function
pub set_map : {X Y : Type 0} (f : X → Y) (xs : List X) (i : ℕ) (d y : X) → i < length xs → f y ≡ f (get_or xs i d) → map f (set xs i y) ≡ map f xs
set_map f xs i d y below same = map-set f xs i y ∙ ap (set (map f xs) i) (same ∙ sym (get_or-map f xs i d (f d) below)) ∙ set-get_or (map f xs) i (f d)

pub give_step : {L Out : Type 0} (results : L → List Out) (ls : List L) (i : ℕ) (d y : L) (outs outs' given all : List Out) → i < length ls
    → given ≡ results (get_or ls i d) → outs' ≡ outs ++ given → outs ++ flat_map results (drop i ls) ≡ all → outs' ++ flat_map results (drop (i + 1) (set ls i y)) ≡ all
give_step results ls i d y outs outs' given all below gave more e =
    ap (λ t. outs' ++ flat_map results t) (drop-set-lt (i + 1) ls i y (omega arith))
    ∙ ap (λ o. o ++ flat_map results (drop (i + 1) ls)) (more ∙ ap (λ o. outs ++ o) gave)
    ∙ append_assoc outs (results (get_or ls i d)) (flat_map results (drop (i + 1) ls))
    ∙ ap (λ t. outs ++ flat_map results t) (sym (drop_more ls i d below))
    ∙ e
