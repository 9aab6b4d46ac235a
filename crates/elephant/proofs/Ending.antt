-- A new entry's plan, by what the code finds: its checks are those of what the entry meets, and its stores are the file's, the
-- entry's and the settling, as many as are counted. So where no check holds the stores made are the first of the plan's.
use mathlib.Core.Bool.{Bool, true, false, ◌&&◌, not, cond}
use mathlib.Core.List.{List, [], ◌∷◌, ◌++◌, append-nil}
use mathlib.Core.Path.{◌≡◌, refl, sym, ap, ◌∙◌}
use Prim.Native.Nat.{ℕ, ◌+◌, ◌≤◌, ◌<◌}
use native.Mathlib.Omega.{arith}
use lib.ListN.{get_or, length, length-append}
use borrow.Author.Tests.{ltb-false}
use Rattle.std.specs.Prelude.{Option, Some, None, is_some, Result, Ok, Err}
use Rattle.paper.specs.Scan as F
use Rattle.paper.specs.Record.{heading_record}
use Rattle.paper.specs.Layout.{boxed}
use Rattle.paper.specs.Table.{sized, rooms, lay, frees, room}
use Rattle.paper.specs.Check.{Place, Check, check, passed, refused, verdict}
use Rattle.paper.specs.Entry.{Holder}
use Rattle.paper.specs.Block.{blocks}
use Rattle.paper.specs.Store.{Store, puts, run}
use Rattle.paper.specs.Effect.{Plan, Planned, Making, new_file, placing, needed, borne, is_found, displacing, full_up, still_peopled, no_room, link_taken}
use Rattle.laws.proofs.Tests.{clash}
use Rattle.laws.proofs.Lists.{Every}
use Rattle.laws.proofs.Lay.{rooms-lay}
use Rattle.laws.proofs.Runs.{rooms-run}
use Rattle.demands.proofs.Sound.Right.{Right, sound-right}
use Rattle.demands.proofs.SoundKept.Filed.{roomy, length-file}
use Rattle.records.specs.Shown.{holder_shown}
use Rattle.words.specs.Shown.{begin_meant}
use Rattle.words.specs.declared.begin.Begin.{Begin}
use Rattle.words.specs.declared.begin.Begin.TheVariants.{Own, Take, Give}
use Rattle.scans.specs.Shown.{found_shown}
use Rattle.effects.specs.Listed.{free_rooms}
use Rattle.effects.specs.Stage.{Made, clear_stores}
use Rattle.effects.specs.Counts.{count_stores, count_moves}
use Rattle.effects.proofs.Recounts.{count-length}
use Rattle.effects.proofs.Papers.{free-room, new-file, text-stores-length, clear-stores-length}
use Rattle.answers.specs.Shown.{place_meant, refusal_meant, told, verdict_shown, shown, stored, answer_of}
use Rattle.answers.specs.declared.Answer.{Answer}
use Rattle.answers.specs.declared.Refusal.{Refusal}
use Rattle.placing.specs.Placing.{met, entry_checks, lost_texts, lost_stores, entry_stores}
use Rattle.placing.specs.declared.File.{File}
use Rattle.placing.specs.declared.Meets.{Meets}
use Rattle.elephant.specs.Done.{Did}
use Rattle.elephant.specs.Filing.{file_count, file_stores, first_of, needed_by, rest_by, stores_by, making_of, taken_by, late_checks, all_checks, ending, Names, fresh, standing, Ready}
use Rattle.elephant.specs.declared.filing.Making as code
use Rattle.elephant.proofs.Verdicts.{passed-by, refused-by, first_passes, front-refuses, front-passes, did-refused, did-stored}
use Rattle.placing.proofs.Holding.{Before, before-none, before-file}
use Rattle.placing.proofs.Meeting.{full-met, displaced-loses, placed-settled}

-- ---- how many

pub file-count : (h : Option (List ℕ)) (text : List ℕ) → length text ≤ 24000 → file_count h text ≤ 1001
file-count (Some h) text l = omega arith
file-count None text l = omega arith

-- .. and one free record past them is listed
file-listed : (h : Option (List ℕ)) (text : List ℕ) → file_count h text < blocks (length text) + 2
file-listed (Some h) text = omega arith
file-listed None text = omega arith

pub stores-length : (h : Option (List ℕ)) (r text : List ℕ) → length (file_stores h r text) ≡ file_count h text
stores-length (Some h) r text = rw (text-stores-length (get_or r 0 0) r 1 text) (omega arith)
stores-length None r text = refl

entry_length : (t : List ℕ) (m : Meets) (entry r : List ℕ)
    → length (entry_stores t m entry r) ≡ count_moves (rooms t) m.moves + rest_by m.lost
entry_length t m entry r = go m.lost
  where
    u : List ℕ
    u = lay t m.room.0 entry

    counts : length (count_stores u m.moves) ≡ count_moves (rooms t) m.moves
    counts = count-length u m.moves ∙ ap (λ (n : ℕ). count_moves n m.moves) (rooms-lay t m.room.0 entry)

    go : (f : Option File) → length (puts m.room.0 entry ∷ (count_stores u m.moves ++ lost_stores f r)) ≡ count_moves (rooms t) m.moves + rest_by f
    go (Some f) =
        rw (length-append (count_stores u m.moves) (clear_stores f.heading.0 r f.count.0), counts, clear-stores-length f.heading.0 r f.count.0)
        (omega arith)
    go None = ap (λ (ss : List Store). length (puts m.room.0 entry ∷ ss)) (append-nil (count_stores u m.moves)) ∙ omega (arith, counts)

pub first-stores : (t r : List ℕ) (h : Option (List ℕ)) (text : List ℕ) → sized t ≡ true → length text ≤ 24000
    → r ≡ free_rooms t (blocks (length text) + 2) → file_stores h r text ≡ first_of t h text
first-stores t r (Some h) text z l e =
    let k : ℕ = blocks (length text) + 2 in
    rw (e, free-room t k 0 z (omega arith) (omega arith)) (sym (new-file t h text k z l (omega arith)))
first-stores t r None text z l e = refl

-- ---- the verdict

-- what refuses after 19 decides as the checks that it is of
late-shown : (f : Result (Unit {0}) Refusal) → told f ≡ verdict_shown (verdict (late_checks f))
unfolding verdict
late-shown (Ok u) = refl
late-shown (Err f) = refl

pub late-alike : (cs : List Check) (f : Result (Unit {0}) Refusal) → told f ≡ verdict_shown (verdict cs) → verdict (late_checks f) ≡ verdict cs
unfolding verdict
late-alike cs (Ok u) e = sym (passed-by (verdict cs) u e)
late-alike cs (Err f) e = sym (refused-by (verdict cs) (refusal_meant f) e)

-- 16 to 19 and what refuses after them, where the link is not taken: by the refusal of 17 to 19
module _ (t : List ℕ) (to : Begin) (place : Place) (d : Holder) (m : Meets) (n : ℕ) (late : Result (Unit {0}) Refusal)
    (x : taken_by to (is_some m.displaced) ≡ false) where
  not_taken : verdict (all_checks t to place d m n late) ≡ verdict (entry_checks t place d m n ++ late_checks late)
  not_taken = first_passes (check (taken_by to (is_some m.displaced)) 16 place) _ x

  pub told-first : (h : Refusal) → Err (refusal_meant h) ≡ verdict_shown (verdict (entry_checks t place d m n)) → (r : Result (Unit {0}) Refusal)
      → r ≡ Err h → told r ≡ verdict_shown (verdict (all_checks t to place d m n late))
  told-first h e r q =
      let w = refused-by _ (refusal_meant h) e in
      ap told q ∙ sym (ap verdict_shown (not_taken ∙ front-refuses (entry_checks t place d m n) (late_checks late) (refusal_meant h) w))

  pub told-late : (u : Unit {0}) → Ok u ≡ verdict_shown (verdict (entry_checks t place d m n))
      → told late ≡ verdict_shown (verdict (all_checks t to place d m n late))
  told-late u e =
      late-shown late
      ∙ sym (ap verdict_shown (not_taken ∙ front-passes (entry_checks t place d m n) (late_checks late) (passed-by _ u e)))

-- ---- the plan

-- what is displaced, and the free records needed, by where the name was found
is-displaced : (t : List ℕ) (f : F.Found) (d : Holder) (k free : ℕ) → is_found f ≡ is_some (met t (found_shown f) d k free).displaced
is-displaced t (F.at e) d k free = refl
is-displaced t F.nowhere d k free = refl

needed-by : (t : List ℕ) (m : Making) (f : F.Found) (d : Holder) (k free : ℕ)
    → needed m f ≡ needed_by (length m.first) (is_some (met t (found_shown f) d k free).displaced)
needed-by t m (F.at e) d k free = refl
needed-by t m F.nowhere d k free = refl

needed-least : (n : ℕ) (b : Bool) → n ≤ needed_by n b
needed-least n true = omega arith
needed-least n false = omega arith

and-true : (b : Bool) → (b && true) ≡ b
and-true true = refl
and-true false = refl

and-false : (b : Bool) → (b && false) ≡ false
and-false true = refl
and-false false = refl

-- where no check refuses, none holds
passes-all : (cs : List Check) → verdict cs ≡ passed → Every (λ c. c.when ≡ false) cs
unfolding verdict
passes-all [] e = tt
passes-all (c ∷ cs) e = go c.when refl e (passes-all cs)
  where
    go : (b : Bool) → c.when ≡ b → cond b (refused c.refusal) (verdict cs) ≡ passed → (verdict cs ≡ passed → Every (λ c. c.when ≡ false) cs)
        → (c.when ≡ false) × Every (λ c. c.when ≡ false) cs
    go true q z r = clash (cc)
    go false q z r = (q, r z)

module _
    (t r name text : List ℕ) (m : code.Making) (heading : Option (List ℕ)) (late : Result (Unit {0}) Refusal)
    (w : Ready t r name text m heading) (free : ℕ) (is_free : free ≡ get_or r (file_count heading text) 0) where
  abbrev making : Making
  making = making_of t m name heading text

  abbrev d : Holder
  d = holder_shown m.directory.holder

  abbrev place : Place
  place = place_meant m.place

  abbrev meets : Meets
  meets = met t (found_shown (borne boxed t making)) d m.named.0 free

  first-length : length making.first ≡ file_count heading text
  first-length = ap length (sym (first-stores t r heading text w.size w.few w.free)) ∙ stores-length heading r text

  free-there : room t (length making.first) ≡ free
  free-there =
      rw first-length
      (sym (is_free
      ∙ rw w.free (free-room t (blocks (length text) + 2) (file_count heading text) w.size (file-listed heading text)
      (omega (arith, file-count heading text w.few)))))

  abbrev checks : List Check
  checks = full_up boxed t making ∷ still_peopled place (displacing t (borne boxed t making) making.entry) ∷ no_room boxed t making ∷ late_checks late

  checks-met : checks ≡ entry_checks t place d meets (needed_by (file_count heading text) (is_some meets.displaced)) ++ late_checks late
  checks-met =
      ap (λ (b : Bool).
      check (not (is_found (borne boxed t making)) && b) 17 place ∷ still_peopled place (displacing t (borne boxed t making) making.entry)
      ∷ no_room boxed t making
      ∷ late_checks late)
      (full-met t w.size w.sound d w.held)
      ∙ rw (
        is-displaced t (borne boxed t making) d m.named.0 free,
        displaced-loses t w.size w.sound m.code.0 d m.named.0 name w.short w.small (borne boxed t making) free refl,
        needed-by t making (borne boxed t making) d m.named.0 free,
        first-length,
      )

  -- 16 before them
  taken-met : verdict (link_taken boxed t (begin_meant m.to) making ++ checks)
      ≡ verdict (all_checks t m.to place d meets (needed_by (file_count heading text) (is_some meets.displaced)) late)
  unfolding verdict
  taken-met = go m.to
    where
      go : (b : Begin) → verdict (link_taken boxed t (begin_meant b) making ++ checks)
          ≡ verdict (all_checks t b place d meets (needed_by (file_count heading text) (is_some meets.displaced)) late)
      go Own = rw (and-false (is_some meets.displaced)) (ap verdict checks-met)
      go (Take n) = rw (and-false (is_some meets.displaced)) (ap verdict checks-met)
      go (Give n) =
          rw (and-true (is_some meets.displaced))
          (ap (λ (b : Bool). verdict (check b 16 place ∷ checks)) (is-displaced t (borne boxed t making) d m.named.0 free)
          ∙ ap (λ (cs : List Check). verdict (check (is_some meets.displaced) 16 place ∷ cs)) checks-met)

  -- the stores before the entry, where there is room for them
  before : length making.first ≤ length (frees t) → Before t making.first m.named.0
  before l = go w.names
    where
      c : Right t
      c = sound-right t w.size w.sound

      go : Names t heading m.named.0 → Before t making.first m.named.0
      go (fresh type lev kind life n e z) =
          let head : List ℕ = heading_record type lev kind life n in
          let s : length (new_file t head text) ≤ length (frees t) = rw e at l in
          rw (e, z) (before-file t type lev kind life n text c (roomy t type lev kind life n text (omega (arith, length-file t head text))))
      go (standing e q) = rw e (before-none t c m.named.0 q)

  -- .. and for the entry, where it displaces none
  module _ (l : needed_by (file_count heading text) (is_some meets.displaced) ≤ length (frees t)) where
    enough : length making.first ≤ length (frees t)
    enough = rw first-length (omega (arith, needed-least (file_count heading text) (is_some meets.displaced)))

    left : borne boxed t making ≡ F.nowhere → length making.first < length (frees t)
    left e =
        let q : is_some meets.displaced ≡ false = sym (is-displaced t (borne boxed t making) d m.named.0 free) ∙ ap is_found e in
        rw first-length (omega (arith, rw q at l))

    stores-met : (texts : List ℕ) → placing t making (borne boxed t making)
        ≡ file_stores heading r text ++ entry_stores (run t (file_stores heading r text)) meets making.entry (lost_texts t meets.lost texts)
    stores-met texts =
        placed-settled t w.size w.sound m.code.0 d m.named.0 name w.short w.small making refl (before enough) w.held
        (borne boxed t making) refl left texts
        ∙ rw (free-there, first-stores t r heading text w.size w.few w.free)

  abbrev ends : Plan
  ends =
      record {
        checks = link_taken boxed t (begin_meant m.to) making ++ checks;
        stores = placing t making (borne boxed t making);
        displaced = is_found (borne boxed t making);
        reply = [];
      }

  abbrev planned : Planned
  planned = ending t (begin_meant m.to) making (late_checks late)

  module _ (k : ℕ) (x : Meets) (e : x ≡ meets) where
    abbrev all : List Check
    all = all_checks t m.to place d x (needed_by (file_count heading text) (is_some x.displaced)) late

    pub ends-refused : (h : Refusal) → Err (refusal_meant h) ≡ verdict_shown (verdict all) → (s : Result Answer Refusal) → s ≡ Err h
        → Did t k planned (answer_of s) t
    unfolding ending
    ends-refused h q s y =
        let z = refused-by (verdict all) (refusal_meant h) q in
        let v : verdict ends.checks ≡ refused (refusal_meant h) = rw (taken-met, ← e) z in
        rw y (did-refused t k ends (refusal_meant h) v)

    pub ends-stored : (o : Unit {0}) → Ok o ≡ verdict_shown (verdict all) → (u entry texts : List ℕ) (l : ℕ) → entry ≡ making.entry
        → Made t u k l (file_stores heading r text ++ entry_stores (run t (file_stores heading r text)) x entry (lost_texts t x.lost texts))
        → Did t k planned (shown (stored (stores_by (rooms t) (file_count heading text) x) k (is_some x.displaced))) u
    unfolding ending
    ends-stored o h u entry texts l y made =
        let z : verdict all ≡ passed = passed-by (verdict all) o h in
        let v : verdict ends.checks ≡ passed = rw (taken-met, ← e) z in
        let fits : needed_by (file_count heading text) (is_some meets.displaced) ≤ length (frees t) = ltb-false _ _ (rw e at (passes-all _ z).1.1.1.0) in
        let files : List Store = file_stores heading r text in
        let rest : List Store = entry_stores (run t files) x entry (lost_texts t x.lost texts) in
        let s : ends.stores ≡ files ++ rest = rw (y, e) (stores-met fits texts) in
        let n : length ends.stores ≡ stores_by (rooms t) (file_count heading text) x =
        ap length s
        ∙ rw (length-append, stores-length heading r text, entry_length (run t files) x entry (lost_texts t x.lost texts), rooms-run t files) in
        let b : ends.displaced ≡ is_some x.displaced = rw e (is-displaced t (borne boxed t making) d m.named.0 free) in
        rw (← n, ← b) (did-stored t u k l ends v refl (rw s made))
