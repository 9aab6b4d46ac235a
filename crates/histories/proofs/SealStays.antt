-- The sealed sheet: two runs of one history from two sound tables that differ in the text of a file whose heading inhibits reading show
-- the same answers and replies, call by call; so nobody learns a byte of it by reply, number, counts or stores.
-- the two tables, record by record; walks, listings and other texts; each plan
pub mod Veils
pub mod Walks
pub mod Plans
-- the stores, and then each call
pub mod Stays
pub mod Outcomes
use mathlib.Core.Bool.{true, false}
use mathlib.Core.List.{List, [], ◌∷◌}
use mathlib.Core.Path.{◌≡◌, refl}
use Prim.Native.Nat.{ℕ}
use Rattle.paper.specs.Record.{heading_code}
use Rattle.paper.specs.Layout.{boxed}
use Rattle.paper.specs.Table.{sized, rec}
use Rattle.paper.specs.Code.{no_read}
use Rattle.paper.specs.Sound.{sound}
use Rattle.demands.proofs.Sound.Clauses.{sound-clauses}
use Rattle.demands.proofs.Sound.Right.{sound-right}
use Rattle.histories.specs.History.{Call, called, after, heads, shown}
use Rattle.histories.proofs.Calls.Mendable.{Mendable, sound-mendable, called-mendable}
use Rattle.histories.proofs.SealStays.Veils.{Veil}
use Rattle.histories.proofs.SealStays.Stays.{Hidden, veiled, hidden-veil, gone-equal}
use Rattle.histories.proofs.SealStays.Outcomes.{called-agree}

-- what two histories show and leave
record Alike (h : ℕ) (cs : List Call) (t s : List ℕ) : Type 0 where
  shows : shown s cs ≡ shown t cs
  tables : Hidden h (after t cs) (after s cs)

alike : (h : ℕ) (cs : List Call) (t s : List ℕ) → Mendable t → Mendable s → Hidden h t s → Alike h cs t s
unfolding shown after
alike h [] t s m m₁ q = record { shows = refl; tables = q }
alike h (c ∷ cs) t s m m₁ q =
    let a = called-agree h t s c m m₁ q in
    let r = alike h cs (called t c).table (called s c).table (called-mendable t c m) (called-mendable s c m₁) a.tables in
    record { shows = rw (a.answer, a.reply, r.shows); tables = r.tables }

-- two sound tables, record for record the same but for the bytes 8-31 of text records of heading h, whose own code inhibits reading: any
-- calls, cut or whole, show the same answers and replies, and leave two tables that again differ there at most
pub seal-stays : (t s : List ℕ) (h : ℕ) (cs : List Call) → sized t ≡ true → sound boxed t ≡ true → sound boxed s ≡ true → Veil h t s
    → heads h t ≡ true → no_read (heading_code (rec t h)) ≡ true
    → (shown s cs ≡ shown t cs) × Veil h (after t cs) (after s cs)
seal-stays t s h cs a b b₁ v k n =
    let m = sound-mendable t (sound-right t a b) in
    let m₁ = sound-mendable s (sound-right s (rw v.long a) b₁) in
    let r = alike h cs t s m m₁ (veiled v (λ _. n)) in
    (r.shows, hidden-veil h (after t cs) (after s cs) r.tables)

-- .. and once the heading is gone and the table sound, nowhere
pub seal-gone : (t s : List ℕ) (h : ℕ) → sized t ≡ true → sound boxed t ≡ true → Veil h t s → heads h t ≡ false → s ≡ t
seal-gone t s h a b v n = gone-equal h t s v (sound-clauses t a b) n
