-- What is added, one for each.
use Rattle.std.proofs.Common.{◌≡◌, ◌∙◌, List, [], ◌∷◌, ◌++◌, Result, Ok, Err, OnOk, OnErr, append_assoc, refl, sym, ap, subst}
use Rattle.std.specs.List.{AllZip}
use Rattle.std.proofs.lemmas.List.{append-nil}
use Rattle.sub_types.specs.declared.memory.NoMemory.{NoMemory}
use Rattle.open_blocks.specs.Taken.{Adds}

module _ {X Y : Type 0} (P : X → Y → Type 0) where
  zip_append : (xs more_xs : List X) (ys more_ys : List Y) → AllZip P xs ys → AllZip P more_xs more_ys → AllZip P (xs ++ more_xs) (ys ++ more_ys)
  zip_append [] more_xs [] more_ys h more = more
  zip_append [] more_xs (y ∷ ys) more_ys h more = absurd h
  zip_append (x ∷ xs) more_xs [] more_ys h more = absurd h
  zip_append (x ∷ xs) more_xs (y ∷ ys) more_ys h more = (h.0, zip_append xs more_xs ys more_ys h.1 more)

  -- one more
  pub adds_one : (x : X) (y : Y) (old new : List Y) → new ≡ old ++ y ∷ [] → P x y → Adds P (x ∷ []) old new
  adds_one x y old new pushed is = record { more = y ∷ []; added = pushed; each_is = (is, tt) }

  pub adds_none : (old : List Y) → Adds P [] old old
  adds_none old = record { more = []; added = sym (append-nil old); each_is = tt }

  pub adds_more : (done next : List X) (old mid new : List Y) → Adds P done old mid → Adds P next mid new → Adds P (done ++ next) old new
  adds_more done next old mid new first second = record {
    more = first.more ++ second.more;
    added = second.added ∙ ap (λ front. front ++ second.more) first.added ∙ append_assoc old first.more second.more;
    each_is = zip_append done next first.more second.more first.each_is second.each_is;
  }

  -- of these some were added, unless that failed, and these are left
  pub record SoFar (all left : List X) (old new : List Y) (so_far : Result (Unit {0}) NoMemory) : Type 0 where
    pub done : List X
    pub split : all ≡ done ++ left
    pub has : OnOk so_far (Adds P done old new)

  pub none_so_far : (all : List X) (old : List Y) → SoFar all all old old (Ok tt)
  none_so_far all old = record { done = []; split = refl; has = adds_none old }

  has_more : (done : List X) (one : X) (old mid new : List Y) (so_far after : Result (Unit {0}) NoMemory)
      → OnOk so_far (Adds P done old mid) → OnErr so_far (after ≡ so_far) → OnOk after (Adds P (one ∷ []) mid new)
      → OnOk after (Adds P (done ++ one ∷ []) old new)
  has_more done one old mid new so_far (Err e) has stays read = tt
  has_more done one old mid new (Err e) (Ok u) has stays read = absurd (cc)
  has_more done one old mid new (Ok v) (Ok u) has stays read = adds_more done (one ∷ []) old mid new has read

  -- one more
  pub one_so_far : (all left : List X) (one : X) (rest : List X) (old mid new : List Y) (so_far after : Result (Unit {0}) NoMemory)
      → left ≡ one ∷ rest → SoFar all left old mid so_far → OnErr so_far (after ≡ so_far) → OnOk after (Adds P (one ∷ []) mid new)
      → SoFar all rest old new after
  one_so_far all left one rest old mid new so_far after next before stays read = record {
    done = before.done ++ one ∷ [];
    split = before.split ∙ ap (λ (l : List X). before.done ++ l) next ∙ sym (append_assoc before.done (one ∷ []) rest);
    has = has_more before.done one old mid new so_far after before.has stays read;
  }

  -- all were added
  pub all_so_far : (all left : List X) (old new : List Y) (so_far : Result (Unit {0}) NoMemory) → left ≡ [] → SoFar all left old new so_far
      → OnOk so_far (Adds P all old new)
  all_so_far all left old new so_far none before =
      subst (λ (done : List X). OnOk so_far (Adds P done old new)) (sym (before.split ∙ ap (λ (l : List X). before.done ++ l) none ∙ append-nil before.done)) before.has

  -- behind nothing
  pub all_added : (xs : List X) (old new : List Y) → old ≡ [] → Adds P xs old new → AllZip P xs new
  all_added xs old new empty adds = subst (AllZip P xs) (sym (adds.added ∙ ap (λ (front : List Y). front ++ adds.more) empty)) adds.each_is

  zip_of : (xs : List X) (old new : List Y) (so_far : Result (Unit {0}) NoMemory) → old ≡ [] → OnOk so_far (Adds P xs old new) → OnOk so_far (AllZip P xs new)
  zip_of xs old new (Ok u) empty adds = all_added xs old new empty adds
  zip_of xs old new (Err e) empty adds = tt

  -- all were added behind nothing
  pub all_zip : (all left : List X) (old new : List Y) (so_far : Result (Unit {0}) NoMemory) → left ≡ [] → old ≡ [] → SoFar all left old new so_far → OnOk so_far (AllZip P all new)
  all_zip all left old new so_far none empty before = zip_of all old new so_far empty (all_so_far all left old new so_far none before)
