-- One more record put into the order: it was not marked, so it is not among the first n, and cleared after them it is what one more mark
-- takes away. As many are marked as are in the order, so there is room for it.
use mathlib.Core.Bool.{true, cond}
use mathlib.Core.List.{List, [], ◌∷◌, ◌++◌, append-nil}
use mathlib.Core.Logic.{◌≢◌, by_cases}
use mathlib.Core.Path.{◌≡◌, refl, sym, ap, ◌∙◌}
use Prim.Native.Nat.{ℕ, ◌+◌, ◌-◌, ◌<◌, ◌≤◌, min}
use native.Mathlib.Omega.{arith}
use native.Mathlib.Decide.{ℕ_discrete, dec_lt}
use lib.ListN.{length, take, get_or, set, length-set}
use lib.Seq.{take_at, take_all, get_or-set_same, get_or-set_other}
use Rattle.paper.specs.Record.{blank}
use Rattle.paper.specs.Scan.{count_below, join_below}
use Rattle.paper.specs.Store.{Store, clear, run}
use Rattle.paper.specs.Table.{rooms, rec, lay}
use Rattle.judge_laws.specs.Mask.{stays, goes, without}
use Rattle.judge_laws.proofs.Mask.{length_without, rooms-without, whole-without}
use Rattle.laws.proofs.Counts.{count-more-at, count_most}
use Rattle.laws.proofs.Lay.{Whole, length-blank, ext-table, length-lay, lay-same, lay-other}
use Rattle.laws.proofs.Lists.{join-cong, join_more, length-each}
use Rattle.effects.proofs.Gathers.{join-split}
use Rattle.laws.proofs.Runs.{run-append}
use Rattle.demands.proofs.Mending.Wipe.{rec-wiped}
use Rattle.effects.specs.Counted.{Counted}
use Rattle.mending.specs.Found.{ordered, Found}

-- one more record
pub ordered-more : (order : List ℕ) (n : ℕ) → ordered order (n + 1) ≡ ordered order n ++ (clear (get_or order n 0) ∷ [])
ordered-more order n = join_more (λ m. clear (get_or order m 0) ∷ []) n

ordered-none : (order : List ℕ) → ordered order 0 ≡ []
unfolding join_below
ordered-none order = refl

-- cleared in turn, as many as the stop number allows
pub ordered-cut : (order t : List ℕ) (k n : ℕ) → Counted t (run t (ordered order (min n k))) k 0 n (ordered order n)
ordered-cut order t k n = record { table = ap (run t) (sym cut); count = omega (arith, long n) }
  where
    long : (m : ℕ) → length (ordered order m) ≡ m
    long m = length-each (λ i. clear (get_or order i 0)) m

    some : k < n → take k (ordered order n) ≡ ordered order k
    some l =
        let e : n ≡ k + (n - k) = omega arith in
        ap (λ (m : ℕ). take k (ordered order m)) e
        ∙ ap (take k) (join-split (λ m. clear (get_or order m 0) ∷ []) k (n - k))
        ∙ take_at (ordered order k) _ k (long k)

    cut : take (k - 0) (ordered order n) ≡ ordered order (min n k)
    cut =
        by_cases (dec_lt k n)
        (λ (l : k < n). let a : k - 0 ≡ k = omega arith in let b : min n k ≡ k = omega arith in rw (a, b) (some l))
        (λ (l : ¬ (k < n)).
        let b : min n k ≡ n = omega arith in rw b (take_all (k - 0) (ordered order n) (omega (arith, long n))))

pub cleared-none : (order t : List ℕ) → t ≡ run t (ordered order 0)
unfolding run join_below
cleared-none order t = refl

pub cleared-more : (order t u v : List ℕ) (i : ℕ) → u ≡ run t (ordered order i) → v ≡ lay u (get_or order i 0) blank
    → v ≡ run t (ordered order (i + 1))
unfolding run
cleared-more order t u v i e f = f ∙ rw (e, ordered-more order i) (sym (run-append t (ordered order i) (clear (get_or order i 0) ∷ [])))

ordered-set : (order : List ℕ) (n i : ℕ) → n < length order → ordered (set order n i) (n + 1) ≡ ordered order n ++ (clear i ∷ [])
ordered-set order n i l = ordered-more (set order n i) n ∙ rw (get_or-set_same order n i 0 l, before)
  where
    before : ordered (set order n i) n ≡ ordered order n
    before = join-cong _ _ n (λ m b. ap (λ (x : ℕ). clear x ∷ []) (get_or-set_other order n m i 0 (omega arith)))

-- a table by its marks
pub rec-without : (gone t : List ℕ) (i : ℕ) → i < rooms t → rec (without gone t) i ≡ cond (goes gone i) blank (rec t i)
unfolding without
rec-without gone t i l = rec-wiped t (goes gone) i l

module _ (t gone : List ℕ) (i : ℕ) (w : Whole t) (l : i < rooms t) (m : i < length gone) where
  other : (j : ℕ) → j ≢ i → get_or (set gone i 1) j 0 ≡ get_or gone j 0
  other j d = get_or-set_other gone i j 1 0 d

  without_more : without (set gone i 1) t ≡ lay (without gone t) i blank
  without_more =
      ext-table (without (set gone i 1) t) (lay (without gone t) i blank)
      (length_without (set gone i 1) t ∙ sym (length-lay (without gone t) i blank ∙ length_without gone t)) (whole-without (set gone i 1) t w) at-record
    where
      at-record : (j : ℕ) → j < rooms (without (set gone i 1) t) → rec (without (set gone i 1) t) j ≡ rec (lay (without gone t) i blank) j
      at-record j b =
          let k : j < rooms t = rw (rooms-without (set gone i 1) t) at b in
          by_cases (ℕ_discrete j i)
          (λ (q : j ≡ i). rw q
          (rec-without (set gone i 1) t i l ∙ rw (get_or-set_same gone i 1 0 m)
          (sym (lay-same (without gone t) i blank length-blank (rw (rooms-without gone t) l)))))
          (λ (q : j ≢ i).
          rec-without (set gone i 1) t j k ∙ rw (other j q)
          (sym (lay-other (without gone t) i blank j length-blank q (rw (rooms-without gone t) k) ∙ rec-without gone t j k)))

  count-marks : stays gone i ≡ true → count_below (goes (set gone i 1)) (rooms t) ≡ count_below (goes gone) (rooms t) + 1
  count-marks s =
      count-more-at (goes gone) (goes (set gone i 1)) (rooms t) i l (rw s) (rw (get_or-set_same gone i 1 0 m)) (λ j b q. rw (other j q))

module _ (t gone order : List ℕ) (n i : ℕ) (stores : List Store) (w : Whole t) (most : rooms t ≤ 2048) (f : Found t gone order n stores)
    (l : i < rooms t) (s : stays gone i ≡ true) where
  marks-long : i < length gone
  marks-long = omega (arith, f.marks)

  pub found-room : n < 2048
  found-room =
      let a = count-marks t gone i w l marks-long s in
      let b = count_most (goes (set gone i 1)) (rooms t) in
      omega (arith, f.count)

  pub found-more : Found t (set gone i 1) (set order n i) (n + 1) (stores ++ (clear i ∷ []))
  unfolding run
  found-more =
      record {
        made = ordered-set order n i (omega (arith, f.places, found-room)) ∙ rw f.made;
        table = without_more t gone i w l marks-long ∙ rw f.table (sym (run-append t stores (clear i ∷ [])));
        count = rw (count-marks t gone i w l marks-long s) (rw (← f.count));
        marks = length-set gone i 1 ∙ f.marks;
        places = length-set order n i ∙ f.places;
      }

-- nothing more
pub found_none : (t gone order : List ℕ) (n : ℕ) (stores : List Store) → Found t gone order n stores → Found t gone order n (stores ++ [])
found_none t gone order n stores f = rw append-nil f

-- what is in the order is what its stores say
pub found-own : (t gone order : List ℕ) (n : ℕ) (stores : List Store) → Found t gone order n stores → Found t gone order n (ordered order n)
found-own t gone order n stores f = rw f.made f

pub found_as : (t gone order : List ℕ) (n : ℕ) (a b : List Store) → a ≡ b → Found t gone order n a → Found t gone order n b
found_as t gone order n a b e f = rw (← e) f

pub found-most : (t gone order : List ℕ) (n : ℕ) (stores : List Store) → rooms t ≤ 2048 → Found t gone order n stores → n ≤ 2048
found-most t gone order n stores most f = let b = count_most (goes gone) (rooms t) in omega (arith, f.count)

-- the table without what more is found, after the stores that clear it
pub found_after : (t gone gone' order order' : List ℕ) (n n' : ℕ) (stage : List Store) → Found t gone order n (ordered order n)
    → Found t gone' order' n' (ordered order n ++ stage) → without gone' t ≡ run (without gone t) stage
found_after t gone gone' order order' n n' stage f g = g.table ∙ run-append t (ordered order n) stage ∙ rw f.table
