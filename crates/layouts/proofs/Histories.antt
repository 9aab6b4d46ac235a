-- Any sequence of calls, cuts and mends among them, shows the same on a legible table and on its conversion, and leaves a table and its conversion:
-- by induction, since each call does and leaves a legible table. Then document 01's layout and document 02's, from one to the other and back.
use mathlib.Core.Bool.{true}
use mathlib.Core.List.{List, [], ◌∷◌}
use mathlib.Core.Path.{◌≡◌, refl}
use Prim.Native.Nat.{ℕ}
use Rattle.paper.specs.Layout.{Layout, old, six}
use Rattle.paper.specs.Table.{sized}
use Rattle.paper.specs.Sound.{sound}
use Rattle.paper.specs.Answer.{requested}
use Rattle.paper.specs.Convert.{converted, converting}
use Rattle.layouts.specs.Calls.{Call, asks, mends, called, after, shown}
use Rattle.layouts.proofs.Lawful.{Bytes, Lawful, old-lawful, six-lawful}
use Rattle.layouts.proofs.Converted.{Legible}
use Rattle.layouts.proofs.SoundReads.{old-legible, six-legible}
use Rattle.layouts.proofs.Answers.{Follows, requests-follow, mends-follow, converts, converts-back, answers-alike}

module _ {A B : Layout} (a : Lawful A) (b : Lawful B) where
  call-follows : (t : List ℕ) → Legible A t → (c : Call) → Follows A B (called A t c) (called B (converted A B t) c)
  call-follows t h (asks line text reply user stop) = requests-follow a b t h line text reply user stop
  call-follows t h (mends stop) = mends-follow a b t h stop

  pub shown-alike : (t : List ℕ) → Legible A t → (cs : List Call) → shown B (converted A B t) cs ≡ shown A t cs
  unfolding shown
  shown-alike t h [] = refl
  shown-alike t h (c ∷ cs) =
      let f = call-follows t h c in
      rw (f.table, f.answer, f.reply, shown-alike (called A t c).table f.legible cs)

  pub after-converted : (t : List ℕ) → Legible A t → (cs : List Call) → after B (converted A B t) cs ≡ converted A B (after A t cs)
  unfolding after
  after-converted t h [] = refl
  after-converted t h (c ∷ cs) = let f = call-follows t h c in rw f.table (after-converted (called A t c).table f.legible cs)

  pub after-legible : (t : List ℕ) → Legible A t → (cs : List Call) → Legible A (after A t cs)
  unfolding after
  after-legible t h [] = h
  after-legible t h (c ∷ cs) = after-legible (called A t c).table (call-follows t h c).legible cs

-- ---- document 01's names and document 02's

-- "Converting a sound old table and back loses nothing"
pub six-and-back : (t : List ℕ) → sized t ≡ true → sound old t ≡ true
    → converting six old (converting old six t).table ≡ record { number = 0; table = t }
six-and-back t z e = converts-back old-lawful six-lawful t (old-legible t e) z e

pub old-and-back : (t : List ℕ) → Bytes t → sized t ≡ true → sound six t ≡ true
    → converting old six (converting six old t).table ≡ record { number = 0; table = t }
old-and-back t h z e = converts-back six-lawful old-lawful t (six-legible t h e) z e

-- ".. and every request answers as on the old table, with the converted table after it, stores included"
pub as-on-the-old : (t : List ℕ) → sized t ≡ true → sound old t ≡ true → (line text reply : List ℕ) (user stop : ℕ)
    → Follows old six (requested old t line text reply user stop) (requested six (converting old six t).table line text reply user stop)
as-on-the-old t z e = answers-alike old-lawful six-lawful t (old-legible t e) z e

-- .. over any sequence of calls, cuts and mends among them
pub ever-as-on-the-old : (t : List ℕ) → sized t ≡ true → sound old t ≡ true → (cs : List Call)
    → (shown six (converting old six t).table cs ≡ shown old t cs) × (after six (converting old six t).table cs ≡ converted old six (after old t cs))
ever-as-on-the-old t z e cs =
    rw (converts old six t z e)
    (shown-alike old-lawful six-lawful t (old-legible t e) cs, after-converted old-lawful six-lawful t (old-legible t e) cs)
