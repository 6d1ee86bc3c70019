-- What one item more does to what a worker gained.
use Rattle.std.specs.Prelude.{Result, Ok, Err, OnErr}
use Rattle.std.proofs.Common.{◌≡◌, ℕ, ◌≤◌, List, [], ◌∷◌, ◌++◌, length, map, sum_by, All, Contains, append_assoc, arith, refl, sym, ap, ◌∙◌, subst, inl, inr, ⊎_elim}
use Rattle.std.proofs.lemmas.List.{append-nil, map_push, length_push}
use Rattle.std.proofs.lemmas.List.Sums.{sum_by-cons}
use Rattle.std.proofs.lemmas.List.Elements.{All-push, All-weaker, All-nil, Contains-append_left, Contains-push}
use Rattle.world.specs.Counts.{Rose}
use Rattle.run_core.specs.Counts.{times}
use Rattle.run_core.specs.Receipts.{Lists, no_lists}
use Rattle.run_core.proofs.Counting.{times_push}
use Rattle.scan_claims.specs.Claims.{SeatView}
use Rattle.hand_off.specs.Hand.{Hand, PassView, QueueHeld, TakesOffered}
use Rattle.hand_off.specs.Work.{Point, point, Grew, HoldsSoFar, IsSound, IsWorked, Came}
use Rattle.hand_off.proofs.Bags.{settled, balanced}

grown : {X : Type 0} (old mid : List X) (new more : List X) → Grew old mid → new ≡ mid ++ more → Grew old new
grown old mid new more g e = (g.0 ++ more, e ∙ ap (λ l. l ++ more) g.1 ∙ append_assoc old g.0 more)

same_grown : {X : Type 0} (old mid : List X) (new : List X) → Grew old mid → new ≡ mid → Grew old new
same_grown old mid new g e = (g.0, e ∙ g.1)

-- one element more, at the end of all that was gained
gained : {X : Type 0} (old mid new all : List X) (x : X) → new ≡ mid ++ x ∷ [] → mid ≡ old ++ all → new ≡ old ++ (all ++ x ∷ [])
gained old mid new all x e is = e ∙ ap (λ l. l ++ x ∷ []) is ∙ append_assoc old all (x ∷ [])

noted : {X : Type 0} (number : X → ℕ) (old new : List ℕ) (all : List X) (x : X) (n : ℕ) → new ≡ old ++ n ∷ [] → old ≡ map number all → number x ≡ n → new ≡ map number (all ++ x ∷ [])
noted number old new all x n e is same = e ∙ ap (λ l. l ++ n ∷ []) is ∙ ap (λ (k : ℕ). map number all ++ k ∷ []) (sym same) ∙ sym (map_push number all x)

length-bag : {X : Type 0} (xs : List X) → sum_by (λ (x : X). 1) xs ≡ length xs
length-bag [] = refl
length-bag (x ∷ xs) = omega (arith, sum_by-cons (λ y. 1) x xs, length-bag xs)

pub rose_later : (start before now later : ℕ) → start ≤ before → now ≤ later → Rose before now → Rose start later
rose_later start before now later a b rose = omega arith

-- what holds so far, further on
module _ {T Out About : Type 0} where
  pub holds_on : (start a b : Point T Out About) → HoldsSoFar start a → HoldsSoFar a b → HoldsSoFar start b
  holds_on start a b h m = record {
    seat = (m.seat.0 ∙ h.seat.0, m.seat.1 ∙ h.seat.1);
    pass = (m.pass.0 ∙ h.pass.0, m.pass.1 ∙ h.pass.1);
    about = m.about ∙ h.about;
    numbers = grown start.seat.numbers a.seat.numbers b.seat.numbers m.numbers.0 h.numbers m.numbers.1;
    offered = grown start.pass.offered a.pass.offered b.pass.offered m.offered.0 h.offered m.offered.1;
    taken = grown start.pass.taken a.pass.taken b.pass.taken m.taken.0 h.taken m.taken.1;
    loaded = grown start.loaded a.loaded b.loaded m.loaded.0 h.loaded m.loaded.1;
    results = grown start.results a.results b.results m.results.0 h.results m.results.1;
    failures = omega (arith, h.failures, m.failures);
  }

  -- at the start it holds
  pub holds_now : (p : Point T Out About) → HoldsSoFar p p
  holds_now p = record {
    seat = (refl, refl);
    pass = (refl, refl);
    about = refl;
    numbers = ([], sym (append-nil p.seat.numbers));
    offered = ([], sym (append-nil p.pass.offered));
    taken = ([], sym (append-nil p.pass.taken));
    loaded = ([], sym (append-nil p.loaded));
    results = ([], sym (append-nil p.results));
    failures = omega arith;
  }

  -- it doesn't speak of receipts
  pub holds_anyway : (s s' : SeatView) (p p' : PassView T) (a a' : About) (l l' : List ℕ) (o o' : List Out) (f f' : ℕ) (r r' q q' : Lists) → HoldsSoFar (point s p a l o f r) (point s' p' a' l' o' f' r') → HoldsSoFar (point s p a l o f q) (point s' p' a' l' o' f' q')
  holds_anyway s s' p p' a a' l l' o o' f f' r r' q q' h = record {
    seat = h.seat;
    pass = h.pass;
    about = h.about;
    numbers = h.numbers;
    offered = h.offered;
    taken = h.taken;
    loaded = h.loaded;
    results = h.results;
    failures = h.failures;
  }

  -- what holds so far where a call failed
  pub err_holds : {X E : Type 0} (r : Result X E) (a mid b : Point T Out About) → ((start : Point T Out About) → HoldsSoFar start mid → HoldsSoFar start b) → HoldsSoFar a mid
      → OnErr r ((start : Point T Out About) → HoldsSoFar start a → HoldsSoFar start b)
  err_holds (Ok x) a mid b on m = tt
  err_holds (Err e) a mid b on m = λ start h. on start (holds_on start a mid h m)

module _ {T Out About : Type 0} (item_number : T → ℕ) (out_number : Out → ℕ) (right failed : About → T → Type 0) (fits : About → T → Out → Type 0) where
  abbrev Sound : About → ℕ → ℕ → T → Type 0
  Sound = IsSound right failed

  abbrev Worked : About → List T → ℕ → ℕ → Out → Type 0
  Worked = IsWorked right failed fits

  abbrev Comes : Point T Out About → Point T Out About → ℕ → Type 0
  Comes = Came item_number out_number right failed fits

  sound_later : (about now : About) (start before mid later : ℕ) (item : T) → now ≡ about → start ≤ before → mid ≤ later → Sound now before mid item → Sound about start later item
  sound_later about now start before mid later item same a b s =
      (subst (λ c. right c item) same s.0, λ f. rose_later start before mid later a b (s.1 (subst (λ c. failed c item) (sym same) f)))

  -- what was gained before stays as good
  all_sound : (about : About) (start mid later : ℕ) (items : List T) → mid ≤ later → All (Sound about start mid) items → All (Sound about start later) items
  all_sound about start mid later items b s = All-weaker (Sound about start mid) (Sound about start later) (λ item p. sound_later about about start start mid later item refl (omega arith) b p) items s

  all_worked : (about : About) (taken more : List T) (start mid later : ℕ) (outs : List Out) → mid ≤ later → All (Worked about taken start mid) outs → All (Worked about (taken ++ more) start later) outs
  all_worked about taken more start mid later outs b w =
      All-weaker (Worked about taken start mid) (Worked about (taken ++ more) start later)
      (λ out p. (p.0, ⊎_elim (λ (c : Contains taken p.0). inl (Contains-append_left taken more p.0 c)) (λ (s : Sound about start mid p.0). inr (sound_later about about start start mid later p.0 refl (omega arith) b s)) p.1, p.2)) outs w

  worked_later : (about : About) (taken : List T) (start mid later : ℕ) (outs : List Out) → mid ≤ later → All (Worked about taken start mid) outs → All (Worked about taken start later) outs
  worked_later about taken start mid later outs b w =
      All-weaker (Worked about taken start mid) (Worked about taken start later)
      (λ out p. (p.0, ⊎_elim (λ (c : Contains taken p.0). inl c) (λ (s : Sound about start mid p.0). inr (sound_later about about start start mid later p.0 refl (omega arith) b s)) p.1, p.2)) outs w

  -- a pass with all shares that finds the queue empty is not ahead
  pub stays : (start a : Point T Out About) (ahead : ℕ) → Comes start a ahead → QueueHeld 0 a.pass → Comes start a 0
  stays start a ahead k held = record {
    holds = k.holds;
    claimed = k.claimed;
    loaded = k.loaded;
    offered = k.offered;
    offered_are = k.offered_are;
    offered_noted = k.offered_noted;
    sound = k.sound;
    taken = k.taken;
    taken_are = k.taken_are;
    taken_noted = k.taken_noted;
    outs = k.outs;
    outs_are = k.outs_are;
    outs_noted = k.outs_noted;
    worked = k.worked;
    own = k.own;
    balance = k.balance;
    alone = λ all even.
        let before = k.alone all even in
        let whole : a.pass.share ≡ a.pass.of.passes = k.holds.pass.1 ∙ all ∙ sym (ap (λ (h : Hand). h.passes) k.holds.pass.0) in
        let same = settled a.pass.offered a.pass.taken a.pass.share a.pass.of.passes held.0 held.2 whole held.1 (λ _. 1) in
        (before.0, omega (arith, same, length-bag a.pass.offered, length-bag a.pass.taken));
  }

  -- nothing is claimed yet
  pub begins : (start : Point T Out About) → start.receipt ≡ no_lists → Comes start start 0
  begins start none =
      let claimed : start.receipt.claimed ≡ [] = ap (λ (r : Lists). r.claimed) none in
      let offered : start.receipt.offered ≡ [] = ap (λ (r : Lists). r.offered) none in
      let taken : start.receipt.taken ≡ [] = ap (λ (r : Lists). r.taken) none in
      let finished : start.receipt.finished ≡ [] = ap (λ (r : Lists). r.finished) none in
      record {
        holds = holds_now start;
        claimed = sym (ap (λ xs. start.seat.numbers ++ xs) claimed ∙ append-nil start.seat.numbers);
        loaded = sym (ap (λ xs. start.loaded ++ xs) claimed ∙ append-nil start.loaded);
        offered = [];
        offered_are = sym (append-nil start.pass.offered);
        offered_noted = offered;
        sound = All-nil (Sound start.about start.failures start.failures);
        taken = [];
        taken_are = sym (append-nil start.pass.taken);
        taken_noted = taken;
        outs = [];
        outs_are = sym (append-nil start.results);
        outs_noted = finished;
        worked = All-nil (Worked start.about [] start.failures start.failures);
        own = λ x. omega (arith, ap (times x) offered, ap (times x) claimed);
        balance = λ x. omega (arith, ap (times x) offered, ap (times x) claimed, ap (times x) taken, ap (times x) finished);
        alone = λ all even. (offered ∙ sym claimed, omega arith);
      }

  -- an item was taken and worked
  pub record TakesOne (a b : Point T Out About) (item : T) (out : Out) : Type 0 where
    pub seat : b.seat ≡ a.seat
    pub pass : (b.pass.of ≡ a.pass.of) × (b.pass.share ≡ a.pass.share)
    pub offered : b.pass.offered ≡ a.pass.offered
    pub taken : b.pass.taken ≡ a.pass.taken ++ item ∷ []
    pub about : b.about ≡ a.about
    pub loaded : b.loaded ≡ a.loaded
    pub results : b.results ≡ a.results ++ out ∷ []
    pub failures : a.failures ≤ b.failures
    pub fit : fits a.about item out
    pub receipt : b.receipt ≡ record a.receipt { taken = a.receipt.taken ++ item_number item ∷ []; finished = a.receipt.finished ++ item_number item ∷ [] }
    pub was_offered : TakesOffered b.pass

  pub takes_moves : (a b : Point T Out About) (item : T) (out : Out) → TakesOne a b item out → HoldsSoFar a b
  takes_moves a b item out f = record {
    seat = (ap (λ (s : SeatView). s.of) f.seat, ap (λ (s : SeatView). s.share) f.seat);
    pass = f.pass;
    about = f.about;
    numbers = ([], ap (λ (s : SeatView). s.numbers) f.seat ∙ sym (append-nil a.seat.numbers));
    offered = ([], f.offered ∙ sym (append-nil a.pass.offered));
    taken = (item ∷ [], f.taken);
    loaded = ([], f.loaded ∙ sym (append-nil a.loaded));
    results = (out ∷ [], f.results);
    failures = f.failures;
  }

  pub takes_one : ((about : About) (item : T) (out : Out) → fits about item out → out_number out ≡ item_number item) → (start a b : Point T Out About) (item : T) (out : Out) (ahead : ℕ)
      → ahead ≤ 1 → Comes start a ahead → TakesOne a b item out → Comes start b 0
  takes_one same_number start a b item out ahead few k f =
      let fit : fits start.about item out = subst (λ c. fits c item out) k.holds.about f.fit in
      let claimed : b.receipt.claimed ≡ a.receipt.claimed = ap (λ (r : Lists). r.claimed) f.receipt in
      let offered : b.receipt.offered ≡ a.receipt.offered = ap (λ (r : Lists). r.offered) f.receipt in
      let taken : b.receipt.taken ≡ a.receipt.taken ++ item_number item ∷ [] = ap (λ (r : Lists). r.taken) f.receipt in
      let finished : b.receipt.finished ≡ a.receipt.finished ++ item_number item ∷ [] = ap (λ (r : Lists). r.finished) f.receipt in
      record {
        holds = holds_on start a b k.holds (takes_moves a b item out f);
        claimed = ap (λ (s : SeatView). s.numbers) f.seat ∙ k.claimed ∙ ap (λ xs. start.seat.numbers ++ xs) (sym claimed);
        loaded = f.loaded ∙ k.loaded ∙ ap (λ xs. start.loaded ++ xs) (sym claimed);
        offered = k.offered;
        offered_are = f.offered ∙ k.offered_are;
        offered_noted = offered ∙ k.offered_noted;
        sound = all_sound start.about start.failures a.failures b.failures k.offered f.failures k.sound;
        taken = k.taken ++ item ∷ [];
        taken_are = gained start.pass.taken a.pass.taken b.pass.taken k.taken item f.taken k.taken_are;
        taken_noted = noted item_number a.receipt.taken b.receipt.taken k.taken item (item_number item) taken k.taken_noted refl;
        outs = k.outs ++ out ∷ [];
        outs_are = gained start.results a.results b.results k.outs out f.results k.outs_are;
        outs_noted = noted out_number a.receipt.finished b.receipt.finished k.outs out (item_number item) finished k.outs_noted (same_number a.about item out f.fit);
        worked = All-push (Worked start.about (k.taken ++ item ∷ []) start.failures b.failures) k.outs out
            (all_worked start.about k.taken (item ∷ []) start.failures a.failures b.failures k.outs f.failures k.worked)
            (item, inl (Contains-push k.taken item), fit);
        own = λ x. omega (arith, k.own x, ap (times x) offered, ap (times x) claimed);
        balance = λ x. omega (arith, k.balance x, ap (times x) offered, ap (times x) claimed, ap (times x) taken, ap (times x) finished, times_push x a.receipt.taken (item_number item), times_push x a.receipt.finished (item_number item));
        alone = λ all even.
            let before = k.alone all even in
            let whole : b.pass.share ≡ b.pass.of.passes = f.pass.1 ∙ k.holds.pass.1 ∙ all ∙ sym (ap (λ (h : Hand). h.passes) (f.pass.0 ∙ k.holds.pass.0)) in
            let most = f.was_offered whole (λ _. 1) in (
              offered ∙ before.0 ∙ sym claimed,
              omega (arith, most, before.1, length-bag b.pass.taken, length-bag b.pass.offered, ap length f.offered, ap length f.taken, length_push a.pass.taken item),
            );
      }

  -- a number was claimed and loaded, and its item offered
  pub record OffersOne (a b : Point T Out About) (n : ℕ) (item : T) : Type 0 where
    pub seat : (b.seat.of ≡ a.seat.of) × (b.seat.share ≡ a.seat.share)
    pub numbers : b.seat.numbers ≡ a.seat.numbers ++ n ∷ []
    pub pass : (b.pass.of ≡ a.pass.of) × (b.pass.share ≡ a.pass.share)
    pub offered : b.pass.offered ≡ a.pass.offered ++ item ∷ []
    pub taken : b.pass.taken ≡ a.pass.taken
    pub about : b.about ≡ a.about
    pub loaded : b.loaded ≡ a.loaded ++ n ∷ []
    pub results : b.results ≡ a.results
    pub failures : a.failures ≤ b.failures
    pub number : item_number item ≡ n
    pub sound : Sound a.about a.failures b.failures item
    pub receipt : b.receipt ≡ record a.receipt { claimed = a.receipt.claimed ++ n ∷ []; offered = a.receipt.offered ++ n ∷ [] }

  pub offers_moves : (a b : Point T Out About) (n : ℕ) (item : T) → OffersOne a b n item → HoldsSoFar a b
  offers_moves a b n item f = record {
    seat = f.seat;
    pass = f.pass;
    about = f.about;
    numbers = (n ∷ [], f.numbers);
    offered = (item ∷ [], f.offered);
    taken = ([], f.taken ∙ sym (append-nil a.pass.taken));
    loaded = (n ∷ [], f.loaded);
    results = ([], f.results ∙ sym (append-nil a.results));
    failures = f.failures;
  }

  pub offers_one : (start a b : Point T Out About) (n : ℕ) (item : T) → Comes start a 0 → OffersOne a b n item → Comes start b 1
  offers_one start a b n item k f =
      let claimed : b.receipt.claimed ≡ a.receipt.claimed ++ n ∷ [] = ap (λ (r : Lists). r.claimed) f.receipt in
      let offered : b.receipt.offered ≡ a.receipt.offered ++ n ∷ [] = ap (λ (r : Lists). r.offered) f.receipt in
      let taken : b.receipt.taken ≡ a.receipt.taken = ap (λ (r : Lists). r.taken) f.receipt in
      let finished : b.receipt.finished ≡ a.receipt.finished = ap (λ (r : Lists). r.finished) f.receipt in
      record {
        holds = holds_on start a b k.holds (offers_moves a b n item f);
        claimed = gained start.seat.numbers a.seat.numbers b.seat.numbers a.receipt.claimed n f.numbers k.claimed ∙ ap (λ xs. start.seat.numbers ++ xs) (sym claimed);
        loaded = gained start.loaded a.loaded b.loaded a.receipt.claimed n f.loaded k.loaded ∙ ap (λ xs. start.loaded ++ xs) (sym claimed);
        offered = k.offered ++ item ∷ [];
        offered_are = gained start.pass.offered a.pass.offered b.pass.offered k.offered item f.offered k.offered_are;
        offered_noted = noted item_number a.receipt.offered b.receipt.offered k.offered item n offered k.offered_noted f.number;
        sound = All-push (Sound start.about start.failures b.failures) k.offered item
            (all_sound start.about start.failures a.failures b.failures k.offered f.failures k.sound)
            (sound_later start.about a.about start.failures a.failures b.failures b.failures item k.holds.about k.holds.failures (omega arith) f.sound);
        taken = k.taken;
        taken_are = f.taken ∙ k.taken_are;
        taken_noted = taken ∙ k.taken_noted;
        outs = k.outs;
        outs_are = f.results ∙ k.outs_are;
        outs_noted = finished ∙ k.outs_noted;
        worked = worked_later start.about k.taken start.failures a.failures b.failures k.outs f.failures k.worked;
        own = λ x. omega (arith, k.own x, ap (times x) offered, ap (times x) claimed, times_push x a.receipt.offered n, times_push x a.receipt.claimed n);
        balance = λ x. omega (arith, k.balance x, ap (times x) offered, ap (times x) claimed, ap (times x) taken, ap (times x) finished, times_push x a.receipt.offered n, times_push x a.receipt.claimed n);
        alone = λ all even.
            let before = k.alone all even in
            (offered ∙ ap (λ xs. xs ++ n ∷ []) before.0 ∙ sym claimed, omega (arith, before.1, ap length f.offered, ap length f.taken, length_push a.pass.offered item));
      }

  -- a number was claimed and loaded, and its item handed back by a full queue and worked
  pub record KeepsOne (capacity : ℕ) (a b : Point T Out About) (n : ℕ) (item : T) (out : Out) : Type 0 where
    pub seat : (b.seat.of ≡ a.seat.of) × (b.seat.share ≡ a.seat.share)
    pub numbers : b.seat.numbers ≡ a.seat.numbers ++ n ∷ []
    pub pass : b.pass ≡ a.pass
    pub about : b.about ≡ a.about
    pub loaded : b.loaded ≡ a.loaded ++ n ∷ []
    pub results : b.results ≡ a.results ++ out ∷ []
    pub failures : a.failures ≤ b.failures
    pub number : item_number item ≡ n
    pub sound : Sound a.about a.failures b.failures item
    pub fit : fits a.about item out
    pub receipt : b.receipt ≡ record a.receipt { claimed = a.receipt.claimed ++ n ∷ []; finished = a.receipt.finished ++ n ∷ [] }
    pub room : 1 ≤ capacity
    pub full : QueueHeld capacity a.pass

  pub keeps_moves : (capacity : ℕ) (a b : Point T Out About) (n : ℕ) (item : T) (out : Out) → KeepsOne capacity a b n item out → HoldsSoFar a b
  keeps_moves capacity a b n item out f = record {
    seat = f.seat;
    pass = (ap (λ (p : PassView T). p.of) f.pass, ap (λ (p : PassView T). p.share) f.pass);
    about = f.about;
    numbers = (n ∷ [], f.numbers);
    offered = ([], ap (λ (p : PassView T). p.offered) f.pass ∙ sym (append-nil a.pass.offered));
    taken = ([], ap (λ (p : PassView T). p.taken) f.pass ∙ sym (append-nil a.pass.taken));
    loaded = (n ∷ [], f.loaded);
    results = (out ∷ [], f.results);
    failures = f.failures;
  }

  pub keeps_one : ((about : About) (item : T) (out : Out) → fits about item out → out_number out ≡ item_number item) → (capacity : ℕ) (start a b : Point T Out About) (n : ℕ) (item : T) (out : Out)
      → Comes start a 0 → KeepsOne capacity a b n item out → Comes start b 0
  keeps_one same_number capacity start a b n item out k f =
      let fit : fits start.about item out = subst (λ c. fits c item out) k.holds.about f.fit in
      let claimed : b.receipt.claimed ≡ a.receipt.claimed ++ n ∷ [] = ap (λ (r : Lists). r.claimed) f.receipt in
      let offered : b.receipt.offered ≡ a.receipt.offered = ap (λ (r : Lists). r.offered) f.receipt in
      let taken : b.receipt.taken ≡ a.receipt.taken = ap (λ (r : Lists). r.taken) f.receipt in
      let finished : b.receipt.finished ≡ a.receipt.finished ++ n ∷ [] = ap (λ (r : Lists). r.finished) f.receipt in
      record {
        holds = holds_on start a b k.holds (keeps_moves capacity a b n item out f);
        claimed = gained start.seat.numbers a.seat.numbers b.seat.numbers a.receipt.claimed n f.numbers k.claimed ∙ ap (λ xs. start.seat.numbers ++ xs) (sym claimed);
        loaded = gained start.loaded a.loaded b.loaded a.receipt.claimed n f.loaded k.loaded ∙ ap (λ xs. start.loaded ++ xs) (sym claimed);
        offered = k.offered;
        offered_are = ap (λ (p : PassView T). p.offered) f.pass ∙ k.offered_are;
        offered_noted = offered ∙ k.offered_noted;
        sound = all_sound start.about start.failures a.failures b.failures k.offered f.failures k.sound;
        taken = k.taken;
        taken_are = ap (λ (p : PassView T). p.taken) f.pass ∙ k.taken_are;
        taken_noted = taken ∙ k.taken_noted;
        outs = k.outs ++ out ∷ [];
        outs_are = gained start.results a.results b.results k.outs out f.results k.outs_are;
        outs_noted = noted out_number a.receipt.finished b.receipt.finished k.outs out n finished k.outs_noted (same_number a.about item out f.fit ∙ f.number);
        worked = All-push (Worked start.about k.taken start.failures b.failures) k.outs out
            (worked_later start.about k.taken start.failures a.failures b.failures k.outs f.failures k.worked)
            (item, inr (sound_later start.about a.about start.failures a.failures b.failures b.failures item k.holds.about k.holds.failures (omega arith) f.sound), fit);
        own = λ x. omega (arith, k.own x, ap (times x) offered, ap (times x) claimed, times_push x a.receipt.claimed n);
        balance = λ x. omega (arith, k.balance x, ap (times x) offered, ap (times x) claimed, ap (times x) taken, ap (times x) finished, times_push x a.receipt.finished n, times_push x a.receipt.claimed n);
        alone = λ all even.
            let before = k.alone all even in
            let whole : a.pass.share ≡ a.pass.of.passes = k.holds.pass.1 ∙ all ∙ sym (ap (λ (h : Hand). h.passes) k.holds.pass.0) in
            let held = balanced a.pass.offered a.pass.taken a.pass.share a.pass.of.passes f.full.0 f.full.2 whole (λ _. 1) in
            absurd (omega (arith, held, before.1, f.full.1, f.room, length-bag a.pass.offered, length-bag a.pass.taken, length-bag f.full.0));
      }

  -- the seat met the end, and the rest is as it was
  pub still : (start : Point T Out About) (s s' : SeatView) (p p' : PassView T) (about : About) (loaded : List ℕ) (results : List Out) (failures : ℕ) (r r' : Lists) (ahead : ℕ)
      → s'.of ≡ s.of → s'.share ≡ s.share → s'.numbers ≡ s.numbers → p' ≡ p → r' ≡ r
      → Comes start (point s p about loaded results failures r) ahead → Comes start (point s' p' about loaded results failures r') ahead
  still start s s' p p' about loaded results failures r r' ahead of share numbers same_pass same_receipt k =
      let seated : Comes start (point s' p about loaded results failures r) ahead = record {
        holds = record {
          seat = (of ∙ k.holds.seat.0, share ∙ k.holds.seat.1);
          pass = k.holds.pass;
          about = k.holds.about;
          numbers = same_grown start.seat.numbers s.numbers s'.numbers k.holds.numbers numbers;
          offered = k.holds.offered;
          taken = k.holds.taken;
          loaded = k.holds.loaded;
          results = k.holds.results;
          failures = k.holds.failures;
        };
        claimed = numbers ∙ k.claimed;
        loaded = k.loaded;
        offered = k.offered;
        offered_are = k.offered_are;
        offered_noted = k.offered_noted;
        sound = k.sound;
        taken = k.taken;
        taken_are = k.taken_are;
        taken_noted = k.taken_noted;
        outs = k.outs;
        outs_are = k.outs_are;
        outs_noted = k.outs_noted;
        worked = k.worked;
        own = k.own;
        balance = k.balance;
        alone = k.alone;
      } in
      subst (λ (q : PassView T × Lists). Comes start (point s' q.0 about loaded results failures q.1) ahead) (λ i. (sym same_pass i, sym same_receipt i)) seated
