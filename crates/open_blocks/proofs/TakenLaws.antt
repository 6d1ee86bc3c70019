-- Files that were taken apart, one after the other.
use Rattle.std.proofs.Common.{◌≡◌, ◌∙◌, ℕ, ◌+◌, List, [], ◌++◌, length, length-append, map, append_assoc, refl, sym, ap, subst, arith}
use Rattle.std.proofs.lemmas.List.{append-nil, map-append}
use Rattle.table_open.specs.declared.file.OpenFile.{OpenFile}
use Rattle.open_blocks.specs.declared.apart.Apart.{Apart}
use Rattle.open_blocks.specs.Apart.{AreAdded, ArePartsOf, HasNone, HasRoom}

-- more behind more
together : {A B : Type 0} (f : A → B) (first second : List A) (old mid new : List B) → mid ≡ old ++ map f first → new ≡ mid ++ map f second → new ≡ old ++ map f (first ++ second)
together f first second old mid new before after =
    after ∙ ap (λ front. front ++ map f second) before ∙ append_assoc old (map f first) (map f second) ∙ ap (λ all. old ++ all) (sym (map-append f first second))

module _ {R : Type 0} where
  pub added_none : (apart : Apart R) → AreAdded [] apart apart
  added_none apart = record {
    heads = sym (append-nil (map (λ file. file.head) apart.files.items));
    wanted = sym (append-nil (map (λ file. file.wanted.items) apart.files.items));
    numbers = sym (append-nil apart.numbers.items);
    readers = sym (append-nil apart.readers.items);
    files_len = omega arith;
    numbers_len = omega arith;
    readers_len = omega arith;
    files_room = refl;
    numbers_room = refl;
    readers_room = refl;
  }

  pub added_more : (first second : List (OpenFile R)) (old mid new : Apart R) → AreAdded first old mid → AreAdded second mid new → AreAdded (first ++ second) old new
  added_more first second old mid new before after =
      let both = length-append first second in
      record {
        heads = together (λ (file : OpenFile R). file.head) first second _ _ _ before.heads after.heads;
        wanted = together (λ (file : OpenFile R). file.wanted.items) first second _ _ _ before.wanted after.wanted;
        numbers = together (λ (file : OpenFile R). file.file) first second _ _ _ before.numbers after.numbers;
        readers = together (λ (file : OpenFile R). file.reader) first second _ _ _ before.readers after.readers;
        files_len = omega (arith, before.files_len, after.files_len, both);
        numbers_len = omega (arith, before.numbers_len, after.numbers_len, both);
        readers_len = omega (arith, before.readers_len, after.readers_len, both);
        files_room = after.files_room ∙ before.files_room;
        numbers_room = after.numbers_room ∙ before.numbers_room;
        readers_room = after.readers_room ∙ before.readers_room;
      }

  -- of these files some were taken apart, and these are left, for which there is room
  pub record TakenSoFar (all left : List (OpenFile R)) (old new : Apart R) : Type 0 where
    pub done : List (OpenFile R)
    pub split : all ≡ done ++ left
    pub added : AreAdded done old new

  pub none_taken : (all : List (OpenFile R)) (old : Apart R) → TakenSoFar all all old old
  none_taken all old = record { done = []; split = refl; added = added_none old }

  pub more_taken : (all next left : List (OpenFile R)) (old mid new : Apart R) → TakenSoFar all (next ++ left) old mid → AreAdded next mid new → TakenSoFar all left old new
  more_taken all next left old mid new before more = record {
    done = before.done ++ next;
    split = before.split ∙ sym (append_assoc before.done next left);
    added = added_more before.done next old mid new before.added more;
  }

  pub all_taken : (all left : List (OpenFile R)) (old new : Apart R) → left ≡ [] → TakenSoFar all left old new → AreAdded all old new
  all_taken all left old new none so_far =
      subst (λ (files : List (OpenFile R)). AreAdded files old new) (sym (so_far.split ∙ ap (λ (l : List (OpenFile R)). so_far.done ++ l) none ∙ append-nil so_far.done)) so_far.added

  pub less_room : (count more rest : ℕ) (files : List (OpenFile R)) (old new : Apart R) → HasRoom count old → AreAdded files old new → length files ≡ more → count ≡ more + rest → HasRoom rest new
  less_room count more rest files old new room added many split = record {
    files = omega (arith, room.files, added.files_len, added.files_room, many, split);
    numbers = omega (arith, room.numbers, added.numbers_len, added.numbers_room, many, split);
    readers = omega (arith, room.readers, added.readers_len, added.readers_room, many, split);
  }

  -- behind nothing they are those files
  pub parts_of : (files : List (OpenFile R)) (old new : Apart R) → HasNone old → AreAdded files old new → ArePartsOf files new.files.items new.numbers.items new.readers.items
  parts_of files old new none added = record {
    heads = added.heads ∙ ap (λ front. map (λ file. file.head) front ++ map (λ (file : OpenFile R). file.head) files) none.files;
    wanted = added.wanted ∙ ap (λ front. map (λ file. file.wanted.items) front ++ map (λ (file : OpenFile R). file.wanted.items) files) none.files;
    numbers_are = added.numbers ∙ ap (λ front. front ++ map (λ (file : OpenFile R). file.file) files) none.numbers;
    readers_are = added.readers ∙ ap (λ front. front ++ map (λ (file : OpenFile R). file.reader) files) none.readers;
  }
