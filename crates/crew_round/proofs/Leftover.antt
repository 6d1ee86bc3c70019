-- What working the rest comes to, item by item and at the end.
use Rattle.std.proofs.Common.{◌≡◌, ℕ, ◌≤◌, List, [], ◌∷◌, ◌++◌, map, sum_by, All, Contains, append_assoc, arith, refl, sym, ap, ◌∙◌, subst}
use Rattle.std.specs.List.{flat_map}
use Rattle.std.proofs.lemmas.List.{append-nil, map_push}
use Rattle.std.proofs.lemmas.List.Sums.{sum_by_push}
use Rattle.std.proofs.lemmas.List.Concat.{flat_map-append}
use Rattle.std.proofs.lemmas.List.Elements.{All-push, All-weaker, All-nil, Contains-append_left, Contains-push}
use Rattle.hand_off.specs.Hand.{RestView, IsSameBag}
use Rattle.hand_off.proofs.Popping.{popped_all}
use Rattle.crew.specs.Labours.{LabourView}
use Rattle.crew_round.specs.Rest.{RestPoint, rest_point, Advanced, IsWorkedOff, IsWorkedByLast}

longer : {X : Type 0} (start a b more : List X) (x : X) → b ≡ a ++ x ∷ [] → a ≡ start ++ more → b ≡ start ++ (more ++ x ∷ [])
longer start a b more x e is = e ∙ ap (λ l. l ++ x ∷ []) is ∙ append_assoc start more (x ∷ [])

module _ {T Out About : Type 0} (item_number : T → ℕ) (out_number : Out → ℕ) (fits : About → T → Out → Type 0) where
  abbrev Advances : RestPoint T Out About → RestPoint T Out About → Type 0
  Advances = Advanced item_number out_number fits

  abbrev Fits : About → List T → Out → Type 0
  Fits about items out = (item : T) × Contains items item × fits about item out

  pub advanced_none : (start : RestPoint T Out About) → Advances start start
  advanced_none start = record {
    about = refl;
    loaded = refl;
    failures = omega arith;
    offered = refl;
    items = [];
    taken = sym (append-nil start.rest.taken);
    noted = sym (append-nil start.left);
    outs = [];
    results = sym (append-nil start.labour.results);
    are_of = record { numbers = refl; fit = All-nil (Fits start.labour.about []) };
  }

  pub advanced_one : (start a b : RestPoint T Out About) (item : T) (n : ℕ)
      → b.labour.about ≡ a.labour.about → b.labour.loaded ≡ a.labour.loaded → a.labour.failures ≤ b.labour.failures
      → b.rest.offered ≡ a.rest.offered → b.rest.taken ≡ a.rest.taken ++ item ∷ [] → b.left ≡ a.left ++ n ∷ [] → n ≡ item_number item
      → (w : (out : Out) × (b.labour.results ≡ a.labour.results ++ out ∷ []) × fits a.labour.about item out) → out_number w.0 ≡ item_number item
      → Advances start a → Advances start b
  advanced_one start a b item n about loaded failures offered taken left same w number k = record {
    about = about ∙ k.about;
    loaded = loaded ∙ k.loaded;
    failures = omega (arith, k.failures, failures);
    offered = offered ∙ k.offered;
    items = k.items ++ item ∷ [];
    taken = longer start.rest.taken a.rest.taken b.rest.taken k.items item taken k.taken;
    noted = left ∙ ap (λ xs. xs ++ n ∷ []) k.noted ∙ append_assoc start.left (map item_number k.items) (n ∷ [])
        ∙ ap (λ xs. start.left ++ xs) (ap (λ m. map item_number k.items ++ m ∷ []) same ∙ sym (map_push item_number k.items item));
    outs = k.outs ++ w.0 ∷ [];
    results = longer start.labour.results a.labour.results b.labour.results k.outs w.0 w.1 k.results;
    are_of = record {
      numbers = map_push out_number k.outs w.0 ∙ (λ i. k.are_of.numbers i ++ number i ∷ []) ∙ sym (map_push item_number k.items item);
      fit = All-push (Fits start.labour.about (k.items ++ item ∷ [])) k.outs w.0
          (All-weaker (Fits start.labour.about k.items) (Fits start.labour.about (k.items ++ item ∷ [])) (λ o f. (f.0, Contains-append_left k.items (item ∷ []) f.0 f.1, f.2)) k.outs k.are_of.fit)
          (item, Contains-push k.items item, subst (λ c. fits c item w.0) k.about w.2);
    };
  }

  pub worked_off : (rest now : RestView T) (old new : LabourView Out About) (left : List ℕ) → Advances (rest_point rest old []) (rest_point now new left) → IsSameBag now.offered now.taken
      → IsWorkedOff item_number out_number fits rest old new left
  worked_off rest now old new left k bag = record {
    loaded = k.loaded;
    failures = k.failures;
    items = k.items;
    all = λ f. ap (sum_by f) (sym k.offered) ∙ bag f ∙ ap (sum_by f) k.taken;
    noted = k.noted;
    outs = k.outs;
    results = k.results;
    are_of = k.are_of;
  }

  pub worked_by_last : {L : Type 0} (see : L → LabourView Out About) (rest : RestView T) (old rest_of new : List L) (last after : L) (left : List ℕ)
      → old ≡ rest_of ++ last ∷ [] → new ≡ rest_of ++ after ∷ [] → IsWorkedOff item_number out_number fits rest (see last) (see after) left
      → IsWorkedByLast item_number out_number fits see rest old new left
  worked_by_last {L} see rest old rest_of new last after left o n k =
      let loaded : L → List ℕ = λ l. (see l).loaded in
      let failures : L → ℕ = λ l. (see l).failures in
      let results : L → List Out = λ l. (see l).results in
      record {
        loaded = ap (map loaded) n ∙ map_push loaded rest_of after ∙ ap (λ xs. map loaded rest_of ++ xs ∷ []) k.loaded ∙ sym (map_push loaded rest_of last) ∙ ap (map loaded) (sym o);
        failures = omega (arith, ap (sum_by failures) o, ap (sum_by failures) n, sum_by_push failures rest_of last, sum_by_push failures rest_of after, k.failures);
        items = k.items;
        all = k.all;
        noted = k.noted;
        outs = k.outs;
        results = ap (flat_map results) n ∙ flat_map-append results rest_of (after ∷ []) ∙ ap (λ xs. flat_map results rest_of ++ xs) (append-nil (results after) ∙ k.results)
            ∙ sym (append_assoc (flat_map results rest_of) (results last) k.outs)
            ∙ ap (λ xs. xs ++ k.outs) (ap (λ xs. flat_map results rest_of ++ xs) (sym (append-nil (results last))) ∙ sym (flat_map-append results rest_of (last ∷ [])) ∙ ap (flat_map results) (sym o));
        numbers = k.are_of.numbers;
        fit = λ a all. subst (λ (c : About). All (Fits c k.items) k.outs) (popped_all (λ (l : L). (see l).about ≡ a) old rest_of last o all).1 k.are_of.fit;
      }
