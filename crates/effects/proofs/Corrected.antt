-- A heading corrected by two numbers is the definition's where these are its counts: the bytes laid are those of the numbers, and the rest
-- is as it was. The stage lays each heading as it was found, since those before it left it so.
use mathlib.Core.Bool.{Bool, true, false, ◌&&◌, cond}
use mathlib.Core.List.{List, [], ◌∷◌, append_assoc}
use mathlib.Core.Path.{◌≡◌, refl, ap, ◌∙◌}
use Prim.Native.Nat.{ℕ, ◌+◌, ◌*◌, ◌-◌, ◌/◌, ◌%◌, ◌<◌}
use native.Mathlib.Omega.{arith}
use lib.Dec.{eqb}
use lib.ListN.{get_or, length, take, drop, take-append-drop}
use lib.Seq.{sets, sets-eq, drop-drop}
use borrow.Author.Tests.{ne_eqb}
use Rattle.paper.specs.Count.{says, namings, holdings, counts_right, recounted, untrue}
use Rattle.paper.specs.Number.{bytes_of}
use Rattle.paper.specs.Record.{byte, two, is_kind, directory}
use Rattle.paper.specs.Store.{puts, fills}
use Rattle.paper.specs.Table.{rooms, rec}
use Rattle.records.specs.Counts.{tells}
use Rattle.laws.proofs.Lay.{length-rec, byte-rec}
use Rattle.laws.proofs.Numbers.{number-two}
use Rattle.records.proofs.Said.{says-number}
use Rattle.laws.proofs.Recounts.{length-recounted}
use Rattle.effects.specs.Corrected.{told, corrects}
use Rattle.effects.specs.Counted.{Counted}
use Rattle.effects.proofs.Counted.{counted-more, rec-ahead}

-- ---- one heading

module _ (n m : ℕ) (r : List ℕ) (l : length r ≡ 32) where
  pub told-file : directory r ≡ false → sets r 12 (bytes_of 2 n) ≡ told n m r
  unfolding told bytes_of
  told-file d =
      sets-eq (n % 256 ∷ n / 256 % 256 ∷ []) r 12 (omega arith)
      ∙ append_assoc (take 12 r) (n % 256 ∷ n / 256 % 256 ∷ []) (drop 14 r)
      ∙ rw (d, ← (drop-drop 2 14 r), take-append-drop 2 (drop 14 r))

  pub told-directory : directory r ≡ true → sets (sets r 12 (bytes_of 2 n)) 14 (bytes_of 2 m) ≡ told n m r
  unfolding told bytes_of
  told-directory d =
      sets-eq (n % 256 ∷ n / 256 % 256 ∷ m % 256 ∷ m / 256 % 256 ∷ []) r 12 (omega arith)
      ∙ append_assoc (take 12 r) (n % 256 ∷ n / 256 % 256 ∷ m % 256 ∷ m / 256 % 256 ∷ []) (drop 16 r)
      ∙ rw d

-- the two bytes of a record of a table are a number, or not
pub says-two : (t : List ℕ) (i j n : ℕ) → i < rooms t → j < 31 → ((k : ℕ) → get_or t k 0 < 256) → n < 65536
    → says n j (rec t i) ≡ eqb (two (rec t i) j) n
says-two t i j n l m b s =
    let low : byte (rec t i) j < 256 = rw (byte-rec t i j (omega arith)) (b (i * 32 + j)) in
    let high : byte (rec t i) (j + 1) < 256 = rw (byte-rec t i (j + 1) (omega arith)) (b (i * 32 + (j + 1))) in
    rw (number-two (rec t i) j) (says-number (rec t i) j (length-rec t i l) m n low high s)

-- the store, or none
module _ (n m i : ℕ) (r : List ℕ) where
  pub corrects-other : (byte r 0 ≡ 1 → ⊥) → corrects n m i r ≡ []
  unfolding corrects
  corrects-other k = rw (ne_eqb (byte r 0) 1 k)

  pub corrects-none : tells n m r ≡ true → corrects n m i r ≡ []
  unfolding corrects
  corrects-none e = rw e (go (is_kind 1 r))
    where
      go : (b : Bool) → cond (b && false) (puts i (told n m r) ∷ []) [] ≡ []
      go true = refl
      go false = refl

  pub corrects-one : byte r 0 ≡ 1 → tells n m r ≡ false → corrects n m i r ≡ puts i (told n m r) ∷ []
  unfolding corrects
  corrects-one k e = rw (k, e)

-- it is the definition's
pub corrects-untrue : (t : List ℕ) (i : ℕ) → corrects (namings t i) (holdings t i) i (rec t i)
    ≡ cond (untrue t i) (puts i (recounted t i (rec t i)) ∷ []) []
unfolding corrects told tells counts_right recounted
corrects-untrue t i = refl

-- ---- one more heading of the stage: those before it left it as it was

-- what the stage lays in record i
abbrev pub corrected : List ℕ → ℕ → List ℕ
corrected t i = recounted t i (rec t i)

module _ (t u : List ℕ) (k l m i : ℕ) (x : Counted t u k l m (fills (untrue t) (corrected t) i)) (b : i < rooms t) where
  ahead : rec u i ≡ rec t i
  ahead =
      ap (λ (v : List ℕ). rec v i) x.table
      ∙ rec-ahead (untrue t) (corrected t) t (k - l) i i
      (λ j h. length-recounted t j (rec t j) (length-rec t j (omega arith))) (omega arith) b

  pub corrected-more : (v : List ℕ) (n a d : ℕ) → a ≡ namings t i → d ≡ holdings t i → Counted u v k m n (corrects a d i (rec u i))
      → Counted t v k l n (fills (untrue t) (corrected t) (i + 1))
  corrected-more v n a d ea ed y =
      let e : corrects a d i (rec u i) ≡ cond (untrue t i) (puts i (corrected t i) ∷ []) [] = rw (ea, ed, ahead) (corrects-untrue t i) in
      counted-more (untrue t) (corrected t) t u v k l m n i x (rw e at y)
