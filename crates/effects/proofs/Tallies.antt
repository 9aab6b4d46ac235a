-- Records counted: one more record is one more for the one that it is counted for, and leaves every other count.
-- So after the last record each count is of those that the test says.
use mathlib.Core.Bool.{Bool, true, false, ◌&&◌, cond}
use mathlib.Core.List.{List}
use mathlib.Core.Logic.{◌≢◌, ◌⊎◌, inl, inr, by_cases}
use mathlib.Core.Path.{◌≡◌, refl, sym, ◌∙◌}
use Prim.Native.Nat.{ℕ, ◌+◌, ◌≤◌, ◌<◌, min}
use native.Mathlib.Omega.{arith}
use native.Mathlib.Decide.{ℕ_discrete, dec_lt}
use lib.Dec.{eqb}
use lib.ListN.{get_or, set, length, replicate, get_or-replicate, get_or-eq_default, length-replicate}
use lib.Seq.{get_or-set_same, get_or-set_other}
use borrow.Author.Tests.{eq-eqb, ne_eqb}
use Rattle.std.proofs.Common.{Some}
use Rattle.paper.specs.Scan.{count_below}
use Rattle.paper.specs.Count.{namings, holdings}
use Rattle.paper.specs.Entry.{in_directory, stands, crowd}
use Rattle.paper.specs.Record.{names}
use Rattle.paper.specs.Table.{sized, rooms, rec}
use Rattle.laws.proofs.Counts.{count-more}
use Rattle.laws.proofs.Tests.{truth}
use Rattle.effects.proofs.Places.{sized-most}
use Rattle.records.specs.Numbered.{Numbered}
use Rattle.records.specs.declared.bytes.Room.{Room}
use Rattle.records.proofs.Numbered.{numbered-same, numbered_more}
use Rattle.effects.specs.Tally.{Tells, namings_left}

module _ (is : ℕ → ℕ → Bool) where
  abbrev pub counts : ℕ → ℕ → ℕ
  counts n h = count_below (λ j. is j h) n

  pub tally-none : (n : ℕ) → n ≡ 2048 → Numbered (counts 0) (replicate n 0)
  unfolding count_below
  tally-none n e = rw e (record { at = λ h l. get_or-replicate 2048 h 0 0 l; long = refl })

  -- the record is counted for none, or for one that no table has
  pub tally-past : (a : List ℕ) (i : ℕ) → ((h : ℕ) → h < 2048 → is i h ≡ false) → Numbered (counts i) a → Numbered (counts (i + 1)) a
  tally-past a i none n = numbered-same (counts i) (counts (i + 1)) a n (λ h l. count-more (λ j. is j h) i ∙ rw (none h l))

  -- .. for record k
  pub tally-one : (a : List ℕ) (i k v : ℕ) (r : Room) → r.0 ≡ k → k < 2048 → Tells (Some r) (is i) → v ≡ get_or a k 0 + 1 → Numbered (counts i) a
      → Numbered (counts (i + 1)) (set a k v)
  tally-one a i k v r q l x e n =
      numbered_more (counts i) (counts (i + 1)) a k v n l
      (e ∙ rw (n.at k l, count-more (λ j. is j k) i, x k l, eq-eqb r.0 k q))
      (λ h b d. count-more (λ j. is j h) i ∙ rw (x h b, ne_eqb r.0 h (λ (z : r.0 ≡ h). d (sym z ∙ q))))

-- a number that is one more is at most one more than it was
pub few-more : (a : List ℕ) (i k v : ℕ) → k < length a → v ≡ get_or a k 0 + 1 → ((h : ℕ) → get_or a h 0 ≤ i) → (h : ℕ)
    → get_or (set a k v) h 0 ≤ i + 1
few-more a i k v l e m h =
    by_cases (ℕ_discrete h k)
    (λ (q : h ≡ k). rw (q, get_or-set_same a k v 0 l) (omega (arith, m k)))
    (λ (q : h ≢ k). rw (get_or-set_other a k h v 0 q) (omega (arith, m h)))

pub few-none : (n h : ℕ) → get_or (replicate n 0) h 0 ≤ 0
few-none n h =
    by_cases (dec_lt h n)
    (λ (l : h < n). rw (get_or-replicate {A = ℕ} n h 0 0 l) (omega arith))
    (λ (l : ¬ (h < n)). rw (get_or-eq_default {A = ℕ} (replicate n 0) 0 {n = h} (rw length-replicate (omega arith))) (omega arith))

-- of a table that is not sized no record is counted
pub none-counted : Numbered (λ _. 0) (replicate 2048 0)
none-counted = record { at = λ h l. get_or-replicate 2048 h 0 0 l; long = refl }

-- the records of a sized table, which are at most 2,048; of any other, none
module _ (t a : List ℕ) (n : ℕ) (e : n ≡ cond (sized t) (rooms t) 0) where
  all-tallied : (is : ℕ → ℕ → Bool) → Numbered (counts is (min n 2048)) a → Numbered (cond (sized t) (counts is (rooms t)) (λ _. 0)) a
  unfolding count_below
  all-tallied is x = go (truth (sized t))
    where
      go : (sized t ≡ true) ⊎ (sized t ≡ false) → Numbered (cond (sized t) (counts is (rooms t)) (λ _. 0)) a
      go (inl s) =
          let m : rooms t ≤ 2048 = sized-most t s in
          let k : n ≡ rooms t = rw s at e in
          let q : min n 2048 ≡ rooms t = omega arith in
          rw s (rw q at x)
      go (inr s) = rw s (rw (rw s at e) at x)

  pub names-tallied : Numbered (counts (λ i h. names h (rec t i)) (min n 2048)) a → Numbered (cond (sized t) (namings t) (λ _. 0)) a
  unfolding namings
  names-tallied = all-tallied (λ i h. names h (rec t i))

  pub left-tallied : (gone : List ℕ) → Numbered (counts (λ i h. names h (rec t i) && eqb (get_or gone i 0) 0) (min n 2048)) a
      → Numbered (cond (sized t) (namings_left gone t) (λ _. 0)) a
  unfolding namings_left
  left-tallied gone = all-tallied (λ i h. names h (rec t i) && eqb (get_or gone i 0) 0)

  pub holds-tallied : Numbered (counts (λ i d. stands (in_directory d) (rec t i)) (min n 2048)) a
      → Numbered (cond (sized t) (holdings t) (λ _. 0)) a
  unfolding crowd
  holds-tallied = all-tallied (λ i d. stands (in_directory d) (rec t i))
