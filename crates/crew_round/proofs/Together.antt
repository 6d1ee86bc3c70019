-- What workers that met the end have together.
use Rattle.std.proofs.Common.{◌≡◌, ℕ, ◌<◌, ◌≤◌, true, List, length, map, reverse, sum_by, All, Contains, Option, Some, None, IfSome, IsSome, arith, sym, ap, subst, ◌∙◌, ◌⊎◌, inl, inr, ⊎_elim, get_or}
use Rattle.std.specs.List.{flat_map}
use Rattle.std.proofs.lemmas.Bool.{false≢true}
use Rattle.std.proofs.lemmas.List.{length-map, length-reverse}
use Rattle.std.proofs.lemmas.List.Sums.{get_or-le-sum_by}
use Rattle.std.proofs.lemmas.List.Elements.{All-weaker, All-contains, Contains-get_or}
use Rattle.run_core.specs.Counts.{times}
use Rattle.run_core.specs.Receipts.{Lists, lists_of, total, OffersOwn, FinishesOwn}
use Rattle.run_core.specs.declared.receipt.Receipt.{Receipt}
use Rattle.scan_claims.specs.Claims.{ClaimTable, SeatView}
use Rattle.hand_off.specs.Hand.{Hand, PassView}
use Rattle.hand_off.specs.Work.{IsSound, IsWorked}
use Rattle.hand_off.proofs.Gains.{rose_later}
use Rattle.crew.specs.Labours.{LabourView}
use Rattle.crew.specs.Workers.{lists_in, Shows, IsEnded}
use Rattle.crew.specs.declared.worker.Worker.{Worker}
use Rattle.crew_round.specs.Ended.{failures_of, results_of, HaveEnded}
use Rattle.crew_round.proofs.Counted.{sum_same, sum_ones, some_any, sum_back, all_back, contains_back, all_flat, contains_flat, times_flat}

in_receipt : (P : Lists → Type 0) (o : Option Receipt) → IfSome o (λ r. P (lists_of r)) → IsSome o → P (lists_in o)
in_receipt P None shows some = absurd (false≢true some)
in_receipt P (Some r) shows some = shows

module _ {T Out About L : Type 0} (item_number : T → ℕ) (out_number : Out → ℕ) (right failed : About → T → Type 0) (fits : About → T → Out → Type 0) (see : L → LabourView Out About) where
  abbrev ShowsAll : Worker T L → Type 0
  ShowsAll w = Shows item_number out_number right failed fits w.seat w.pass (see w.labour) (lists_in w.receipt)

  -- what is sound to one worker is sound to all together
  sound_together : (about a : About) (own all : ℕ) (item : T) → about ≡ a → own ≤ all → IsSound right failed about 0 own item → IsSound right failed a 0 all item
  sound_together about a own all item same le s =
      (subst (λ (c : About). right c item) same s.0, λ f. rose_later 0 0 own all (omega arith) le (s.1 (subst (λ (c : About). failed c item) (sym same) f)))

  -- the values that workers have, taken from the last to the first
  abbrev seats_of : List (Worker T L) → List SeatView
  seats_of ws = reverse (map (λ w. w.seat) ws)

  abbrev passes_of : List (Worker T L) → List (PassView T)
  passes_of ws = reverse (map (λ w. w.pass) ws)

  abbrev lists : List (Worker T L) → List Lists
  lists ws = reverse (map (λ w. lists_in w.receipt) ws)

  abbrev labours_of : List (Worker T L) → List L
  labours_of ws = reverse (map (λ w. w.labour) ws)

  -- a sum over receipts is the sum of what they show
  totals : (list : Lists → List ℕ) (x : ℕ) (f : Worker T L → ℕ) (ws : List (Worker T L)) → All (λ w. times x (list (lists_in w.receipt)) ≡ f w) ws → total list x (lists ws) ≡ sum_by f ws
  totals list x f ws same =
      sum_back (λ (w : Worker T L). lists_in w.receipt) (λ r. times x (list r)) ws ∙ sum_same (λ w. times x (list (lists_in w.receipt))) f ws same

  failures_within : (ws : List (Worker T L)) (k : ℕ) (d : Worker T L) → k < length ws → (see (get_or ws k d).labour).failures ≤ failures_of see (labours_of ws)
  failures_within ws k d below =
      omega (arith, get_or-le-sum_by (λ (w : Worker T L). (see w.labour).failures) ws k d below, sum_back (λ (w : Worker T L). w.labour) (λ l. (see l).failures) ws)

  about_of : (a : About) (ws : List (Worker T L)) (k : ℕ) (d : Worker T L) → k < length ws → All (λ l. (see l).about ≡ a) (labours_of ws) → (see (get_or ws k d).labour).about ≡ a
  about_of a ws k d below all =
      All-contains (λ l. (see l).about ≡ a) (labours_of ws) (get_or ws k d).labour all (contains_back (λ (w : Worker T L). w.labour) ws (get_or ws k d) (Contains-get_or ws k d below))

  all_sound : (ws : List (Worker T L)) → All ShowsAll ws → (a : About) → All (λ l. (see l).about ≡ a) (labours_of ws)
      → All (IsSound right failed a 0 (failures_of see (labours_of ws))) (flat_map (λ p. p.offered) (passes_of ws))
  all_sound ws shows a all =
      let Sound : T → Type 0 = IsSound right failed a 0 (failures_of see (labours_of ws)) in
      all_flat (λ (p : PassView T). p.offered) Sound (passes_of ws)
      (all_back (λ (w : Worker T L). w.pass) (λ p. All Sound p.offered) ws
      (λ k d below.
      let w = get_or ws k d in
      All-weaker (IsSound right failed (see w.labour).about 0 (see w.labour).failures) Sound
      (λ item s. sound_together (see w.labour).about a (see w.labour).failures (failures_of see (labours_of ws)) item (about_of a ws k d below all) (failures_within ws k d below) s)
      w.pass.offered (shows k d below).sound))

  all_worked : (ws : List (Worker T L)) → All ShowsAll ws → (a : About) → All (λ l. (see l).about ≡ a) (labours_of ws)
      → All (λ out. (item : T) × (Contains (flat_map (λ p. p.taken) (passes_of ws)) item ⊎ IsSound right failed a 0 (failures_of see (labours_of ws)) item) × fits a item out) (results_of see (labours_of ws))
  all_worked ws shows a all =
      let Sound : T → Type 0 = IsSound right failed a 0 (failures_of see (labours_of ws)) in
      let Worked : Out → Type 0 = λ out. (item : T) × (Contains (flat_map (λ (p : PassView T). p.taken) (passes_of ws)) item ⊎ Sound item) × fits a item out in
      all_flat (λ (l : L). (see l).results) Worked (labours_of ws)
      (all_back (λ (w : Worker T L). w.labour) (λ l. All Worked (see l).results) ws
      (λ k d below.
      let w = get_or ws k d in
      let about = about_of a ws k d below all in
      All-weaker (IsWorked right failed fits (see w.labour).about w.pass.taken 0 (see w.labour).failures) Worked
      (λ out p. (
        p.0,
        ⊎_elim
            (λ (c : Contains w.pass.taken p.0).
            inl (contains_flat (λ (q : PassView T). q.taken) (passes_of ws) w.pass p.0 (contains_back (λ (v : Worker T L). v.pass) ws w (Contains-get_or ws k d below)) c))
            (λ (s : IsSound right failed (see w.labour).about 0 (see w.labour).failures p.0).
            inr (sound_together (see w.labour).about a (see w.labour).failures (failures_of see (labours_of ws)) p.0 about (failures_within ws k d below) s))
            p.1,
        subst (λ (c : About). fits c p.0 out) about p.2,
      ))
      (see w.labour).results (shows k d below).worked))

  -- workers that met the end, each with a receipt
  pub have_ended : (claims : ClaimTable) (hand : Hand) (ws : List (Worker T L)) → 0 < length ws → length ws ≡ claims.seats → length ws ≡ hand.passes
      → All (IsEnded item_number out_number right failed fits see claims hand) ws → All (λ w. IsSome w.receipt) ws
      → HaveEnded item_number out_number right failed fits see claims hand (reverse (map (λ w. w.seat) ws)) (reverse (map (λ w. w.pass) ws)) (reverse (map (λ w. lists_in w.receipt) ws)) (reverse (map (λ w. w.labour) ws))
  have_ended claims hand ws some seats passes ended receipts =
      let shows : All ShowsAll ws = λ k d below.
      let w = get_or ws k d in
      in_receipt (Shows item_number out_number right failed fits w.seat w.pass (see w.labour)) w.receipt (ended k d below).receipt (receipts k d below) in
      let Ended : SeatView → Type 0 = λ s. s.ended ≡ true in
      let numbers : (x : ℕ) → sum_by (λ s. times x s.numbers) (seats_of ws) ≡ sum_by (λ w. times x w.seat.numbers) ws = λ x. sum_back (λ (w : Worker T L). w.seat) (λ s. times x s.numbers) ws in
      record {
        workers = length-reverse (map (λ (w : Worker T L). lists_in w.receipt) ws) ∙ length-map ws (λ w. lists_in w.receipt) ∙ sym (length-reverse (map (λ (w : Worker T L). w.labour) ws) ∙ length-map ws (λ w. w.labour));
        seats_of = all_back (λ (w : Worker T L). w.seat) (λ s. s.of ≡ claims) ws (λ k d below. (ended k d below).placed.seat_of);
        seat_shares = sum_back (λ (w : Worker T L). w.seat) (λ s. s.share) ws ∙ sum_same (λ w. w.seat.share) (λ w. 1) ws (λ k d below. (ended k d below).placed.seat_share) ∙ sum_ones ws ∙ seats;
        ended = some_any Ended (seats_of ws) (omega (arith, some, length-reverse (map (λ (w : Worker T L). w.seat) ws), length-map ws (λ w. w.seat))) (all_back (λ (w : Worker T L). w.seat) Ended ws (λ k d below. (shows k d below).ended));
        passes_of = all_back (λ (w : Worker T L). w.pass) (λ p. p.of ≡ hand) ws (λ k d below. (ended k d below).placed.pass_of);
        pass_shares = sum_back (λ (w : Worker T L). w.pass) (λ p. p.share) ws ∙ sum_same (λ w. w.pass.share) (λ w. 1) ws (λ k d below. (ended k d below).placed.pass_share) ∙ sum_ones ws ∙ passes;
        claimed = λ x. totals (λ r. r.claimed) x (λ w. times x w.seat.numbers) ws (λ k d below. ap (times x) (shows k d below).claimed) ∙ sym (numbers x);
        loaded = λ x.
            sum_back (λ (w : Worker T L). w.labour) (λ l. times x (see l).loaded) ws
            ∙ sum_same (λ w. times x (see w.labour).loaded) (λ w. times x w.seat.numbers) ws (λ k d below. ap (times x) (shows k d below).loaded)
            ∙ sym (numbers x);
        offered = λ x.
            totals (λ r. r.offered) x (λ w. times x (map item_number w.pass.offered)) ws (λ k d below. ap (times x) (shows k d below).offered)
            ∙ sym (times_flat (λ (p : PassView T). p.offered) item_number x (passes_of ws) ∙ sum_back (λ (w : Worker T L). w.pass) (λ p. times x (map item_number p.offered)) ws);
        taken = λ x.
            totals (λ r. r.taken) x (λ w. times x (map item_number w.pass.taken)) ws (λ k d below. ap (times x) (shows k d below).taken)
            ∙ sym (times_flat (λ (p : PassView T). p.taken) item_number x (passes_of ws) ∙ sum_back (λ (w : Worker T L). w.pass) (λ p. times x (map item_number p.taken)) ws);
        finished = λ x.
            totals (λ r. r.finished) x (λ w. times x (map out_number (see w.labour).results)) ws (λ k d below. ap (times x) (shows k d below).finished)
            ∙ sym (times_flat (λ (l : L). (see l).results) out_number x (labours_of ws) ∙ sum_back (λ (w : Worker T L). w.labour) (λ l. times x (map out_number (see l).results)) ws);
        offers_own = all_back (λ (w : Worker T L). lists_in w.receipt) OffersOwn ws (λ k d below. (shows k d below).offers_own);
        finishes_own = all_back (λ (w : Worker T L). lists_in w.receipt) FinishesOwn ws (λ k d below. (shows k d below).finishes_own);
        sound = all_sound ws shows;
        worked = all_worked ws shows;
      }
