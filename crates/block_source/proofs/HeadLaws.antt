-- Files with their readers, one more.
use Rattle.std.proofs.Common.{◌≡◌, ℕ, ◌<◌, ◌≤◌, List, [], ◌∷◌, ◌++◌, length, get_or, Option, Some, None, slice_get, slice_index_or, arith, sym, ap, subst, ◌∙◌, ⊎_elim}
use Rattle.std.proofs.Math.Seq.{get_or-append_seam}
use Rattle.std.proofs.lemmas.Bool.{cases_lt}
use Rattle.std.proofs.lemmas.List.{get_or_append_left, length-append}
use Rattle.std.proofs.lemmas.Option.{slice_get-get_or, slice_get_within, get_or_from_slice_get}

module _ {F : Type 0} (P : F → List ℕ → Type 0) where
  abbrev AreTheirs : List F → List (Option (List ℕ)) → Type 0
  AreTheirs files bytes = (file : ℕ) (one : F) → slice_get files file ≡ Some one → (told : List ℕ) → slice_index_or bytes file None ≡ Some told → P one told

  pub heads_push : (files : List F) (bytes : List (Option (List ℕ))) (one : F) (told : Option (List ℕ)) → length files ≡ length bytes → AreTheirs files bytes → ((b : List ℕ) → told ≡ Some b → P one b)
      → AreTheirs (files ++ one ∷ []) (bytes ++ told ∷ [])
  heads_push files bytes one told same heads head file o is b at =
      let below = slice_get_within (files ++ one ∷ []) file o is in
      let found = get_or_from_slice_get (files ++ one ∷ []) file o o is in
      ⊎_elim
      (λ (low : file < length files).
      let here : slice_get files file ≡ Some o = slice_get-get_or files file o low ∙ ap Some (sym (get_or_append_left files (one ∷ []) o file low) ∙ found) in
      heads file o here b (sym (get_or_append_left bytes (told ∷ []) None file (omega (arith, low, same))) ∙ at))
      (λ (high : length files ≤ file).
      let last : file ≡ length files = omega (arith, high, below, length-append files (one ∷ [])) in
      let is_one : one ≡ o = sym (get_or-append_seam files one [] o) ∙ ap (λ k. get_or (files ++ one ∷ []) k o) (sym last) ∙ found in
      let place : file ≡ length bytes = omega (arith, last, same) in
      let is_told : told ≡ Some b = sym (get_or-append_seam bytes told [] None) ∙ ap (λ k. get_or (bytes ++ told ∷ []) k None) (sym place) ∙ at in
      subst (λ x. P x b) is_one (head b is_told))
      (cases_lt file (length files))
