-- What counts of outcomes is what their streams are one after the other.
use Rattle.std.proofs.Common.{◌≡◌, List, [], ◌∷◌, ◌++◌, map, Option, Some, None, append-nil, refl, sym, ap, ◌∙◌}
use Rattle.std.specs.Option.{option_map}
use Rattle.std.specs.List.{flat_map}
use Rattle.sub_types.specs.Stream.{Stream, glue, followed_by}
use Rattle.round_end.specs.declared.outcome.Outcome.{Outcome}
use Rattle.round_end.specs.declared.outcome.Outcome.TheVariants.{Made, Ended, ReadFault}
use Rattle.round_end.specs.Decided.{Decided, decided, made_before, stream_of_outcome}

module _ {M R : Type 0} (rows : M → List R) (unread : Stream R) where
  abbrev stream_of_decided : Decided M → Stream R
  stream_of_decided d = record { rows = flat_map rows d.made; end = d.end }

  later : (made : M) (rest : Stream R) (found : Option (Decided M)) (d : Decided M) → option_map (made_before (made ∷ [])) found ≡ Some d
      → ((e : Decided M) → found ≡ Some e → rest ≡ stream_of_decided e) → followed_by (stream_of_outcome rows unread (Made made)) rest ≡ stream_of_decided d
  later made rest None d is from = absurd cc
  later made rest (Some e) d is from =
      let same : made_before (made ∷ []) e ≡ d = cc in
      ap (followed_by (stream_of_outcome rows unread (Made made))) (from e refl) ∙ ap stream_of_decided same

  -- the law by which the streams are put together: nothing behind the first failure counts
  pub glued : (outs : List (Outcome M)) (d : Decided M) → decided outs ≡ Some d → glue (map (stream_of_outcome rows unread) outs) ≡ record { rows = flat_map rows d.made; end = d.end }
  glued [] d is = let same : record { made = []; end = None } ≡ d = cc in ap stream_of_decided same
  glued (Made made ∷ outs) d is = later made (glue (map (stream_of_outcome rows unread) outs)) (decided outs) d is (glued outs)
  glued (Ended made fault ∷ outs) d is =
      let same : record { made = made ∷ []; end = Some fault } ≡ d = cc in
      ap (λ (rs : List R). record { rows = rs; end = Some fault }) (sym (append-nil (rows made))) ∙ ap stream_of_decided same
  glued (ReadFault ∷ outs) d is = absurd cc
