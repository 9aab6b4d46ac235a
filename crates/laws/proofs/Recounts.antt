-- Counts written anew: bytes 12-13, and in a directory 14-15, say them, and every other byte is as it was. So a heading whose counts
-- are right is as it was, and after `recounts` each heading is its own recounting and every other record stays.
use mathlib.Core.Bool.{Bool, true, false, ◌&&◌, ◌||◌, not, cond}
use mathlib.Core.List.{List, [], ◌++◌}
use mathlib.Core.Logic.{◌⊎◌, inl, inr}
use mathlib.Core.Path.{◌≡◌, refl, sym, ap, ◌∙◌}
use Prim.Native.Nat.{ℕ, ◌<◌}
use native.Mathlib.Omega.{arith}
use lib.ListN.{length, get_or, take, drop, take-append-drop, length-append, length-take, length-drop}
use lib.Seq.{get_or-take, drop-drop, take_at, drop_at}
use borrow.Author.Tests.{eqb-true, not-true}
use Rattle.paper.specs.Number.{bytes_of}
use Rattle.paper.specs.Record.{byte, is_kind, directory}
use Rattle.paper.specs.Table.{rooms, rec}
use Rattle.paper.specs.Name.{same}
use Rattle.paper.specs.Store.{Store, run}
use Rattle.paper.specs.Count.{namings, holdings, says, counts_right, recounted, untrue, recounts}
use Rattle.laws.proofs.Tests.{truth, and_left, and_right, and_both}
use Rattle.laws.proofs.Numbers.{length-bytes}
use Rattle.laws.proofs.Entries.{same_true, same_refl}
use Rattle.laws.proofs.Lists.{Every, every-imp}
use Rattle.laws.proofs.Lay.{length-rec}
use Rattle.laws.proofs.Runs.{Lays}
use Rattle.laws.proofs.Fills.{rec-filled, every-fills, fills-none}

-- ---- one record

-- the bytes before the counts
pub front-byte : (x r : List ℕ) → take 12 r ≡ take 12 x → (j : ℕ) → j < 12 → byte r j ≡ byte x j
front-byte x r e j l = sym (get_or-take 12 r j 0 l) ∙ ap (λ (s : List ℕ). get_or s j 0) e ∙ get_or-take 12 x j 0 l

pub front-directory : (x r : List ℕ) → take 12 r ≡ take 12 x → directory r ≡ directory x
front-directory x r e = rw (front-byte x r e 0 (omega arith), front-byte x r e 1 (omega arith))

seam : (a b c : List ℕ) → length a ≡ 12 → length b ≡ 2 → drop 14 (a ++ (b ++ c)) ≡ c
seam a b c la lb = sym (drop-drop 2 12 (a ++ (b ++ c))) ∙ ap (drop 2) (drop_at a (b ++ c) 12 la) ∙ drop_at b c 2 lb

module _ (t : List ℕ) (i : ℕ) (r : List ℕ) (l : length r ≡ 32) where
  -- the second count, or what stands in its place
  second : List ℕ
  second = cond (directory r) (bytes_of 2 (holdings t i)) (take 2 (drop 14 r))

  length-second : length second ≡ 2
  unfolding second
  length-second = go (directory r)
    where
      go : (d : Bool) → length (cond d (bytes_of 2 (holdings t i)) (take 2 (drop 14 r))) ≡ 2
      go true = length-bytes 2 _
      go false = simp (length-take, length-drop) (omega arith)

  length_front : length (take 12 r) ≡ 12
  length_front = simp length-take (omega arith)

  is : recounted t i r ≡ take 12 r ++ (bytes_of 2 (namings t i) ++ (second ++ drop 16 r))
  unfolding recounted second
  is = refl

  past : drop 14 (recounted t i r) ≡ second ++ drop 16 r
  past = rw is (seam (take 12 r) (bytes_of 2 (namings t i)) (second ++ drop 16 r) length_front (length-bytes 2 _))

  pub length-recounted : length (recounted t i r) ≡ 32
  length-recounted = rw is (simp (length-append, length-take, length-drop, length-second, length-bytes) (omega arith))

  -- every byte but the counts
  pub recounted-front : take 12 (recounted t i r) ≡ take 12 r
  recounted-front = rw is (take_at (take 12 r) _ 12 length_front)

  pub recounted-file : directory r ≡ false → take 2 (drop 14 (recounted t i r)) ≡ take 2 (drop 14 r)
  recounted-file e = rw (past, take_at second (drop 16 r) 2 length-second) (unfold second in rw e)

  pub recounted-back : drop 16 (recounted t i r) ≡ drop 16 r
  recounted-back = sym (drop-drop 2 14 (recounted t i r)) ∙ ap (drop 2) past ∙ drop_at second (drop 16 r) 2 length-second

  pub recounted-kind : byte (recounted t i r) 0 ≡ byte r 0
  recounted-kind = front-byte r (recounted t i r) recounted-front 0 (omega arith)

  -- the counts
  pub recounted-right : counts_right t i (recounted t i r) ≡ true
  unfolding counts_right
  recounted-right =
      and_both (says (namings t i) 12 (recounted t i r)) _ first
      (rw (front-directory r (recounted t i r) recounted-front, past, take_at second (drop 16 r) 2 length-second) (unfold second in go (directory r)))
    where
      first : says (namings t i) 12 (recounted t i r) ≡ true
      first =
          rw (
            is,
            drop_at (take 12 r) (bytes_of 2 (namings t i) ++ (second ++ drop 16 r)) 12 length_front,
            take_at (bytes_of 2 (namings t i)) (second ++ drop 16 r) 2 (length-bytes 2 _),
          )
          (same_refl (bytes_of 2 (namings t i)))

      go : (d : Bool) → (not d || same (cond d (bytes_of 2 (holdings t i)) (take 2 (drop 14 r))) (bytes_of 2 (holdings t i))) ≡ true
      go true = same_refl (bytes_of 2 (holdings t i))
      go false = refl

  split : take 12 r ++ (take 2 (drop 12 r) ++ (take 2 (drop 14 r) ++ drop 16 r)) ≡ r
  split = rw (← (drop-drop 2 14 r), take-append-drop 2 (drop 14 r), ← (drop-drop 2 12 r), take-append-drop 2 (drop 12 r)) (take-append-drop 12 r)

  -- where the counts are right it is as it was
  pub recounted-same : counts_right t i r ≡ true → recounted t i r ≡ r
  unfolding recounted counts_right
  recounted-same e =
      rw (← (same_true (take 2 (drop 12 r)) (bytes_of 2 (namings t i)) (and_left (says (namings t i) 12 r) _ e)))
      (go (directory r) (and_right (says (namings t i) 12 r) (not (directory r) || says (holdings t i) 14 r) e))
    where
      go : (d : Bool) → (not d || says (holdings t i) 14 r) ≡ true
          → take 12 r ++ (take 2 (drop 12 r) ++ (cond d (bytes_of 2 (holdings t i)) (take 2 (drop 14 r)) ++ drop 16 r)) ≡ r
      go true h = rw (← (same_true (take 2 (drop 14 r)) (bytes_of 2 (holdings t i)) h)) split
      go false h = split

-- ---- a table

module _ (t : List ℕ) where
  size : (i : ℕ) → i < rooms t → length (recounted t i (rec t i)) ≡ 32
  size i l = length-recounted t i (rec t i) (length-rec t i l)

  -- each heading is its own recounting
  pub rec-recounts : (i : ℕ) → i < rooms t → rec (run t (recounts t)) i ≡ cond (is_kind 1 (rec t i)) (recounted t i (rec t i)) (rec t i)
  rec-recounts i l =
      rec-filled t (untrue t) (λ j. recounted t j (rec t j)) size i l ∙ go (is_kind 1 (rec t i)) (truth (counts_right t i (rec t i)))
    where
      go : (h : Bool) → (counts_right t i (rec t i) ≡ true) ⊎ (counts_right t i (rec t i) ≡ false)
          → cond (h && not (counts_right t i (rec t i))) (recounted t i (rec t i)) (rec t i) ≡ cond h (recounted t i (rec t i)) (rec t i)
      go false c = refl
      go true (inl c) = rw c (sym (recounted-same t i (rec t i) (length-rec t i l) c))
      go true (inr c) = rw c

  -- each store is a heading's own recounting
  abbrev pub Recount : ℕ → List ℕ → Type 0
  Recount i r = (r ≡ recounted t i (rec t i)) × ((byte (rec t i) 0 ≡ 1) × (counts_right t i (rec t i) ≡ false))

  pub every-recounts : Every (Lays Recount (rooms t)) (recounts t)
  every-recounts =
      every-imp _ _ (recounts t) one (every-fills (untrue t) (λ i. recounted t i (rec t i)) (rooms t) size)
    where
      one : (x : Store) → Lays (λ i r. (r ≡ recounted t i (rec t i)) × (untrue t i ≡ true)) (rooms t) x → Lays Recount (rooms t) x
      one x h =
          record {
            within = h.within;
            size = h.size;
            holds = (
              h.holds.0,
              (eqb-true _ _ (and_left (is_kind 1 (rec t x.at)) _ h.holds.1), not-true _ (and_right (is_kind 1 (rec t x.at)) _ h.holds.1)),
            );
          }

  -- where every heading's counts are right there is nothing to write
  pub recounts-none : ((i : ℕ) → i < rooms t → byte (rec t i) 0 ≡ 1 → counts_right t i (rec t i) ≡ true) → recounts t ≡ []
  recounts-none h = fills-none (untrue t) _ (rooms t) (λ i l. go i l (is_kind 1 (rec t i)) refl)
    where
      go : (i : ℕ) → i < rooms t → (b : Bool) → is_kind 1 (rec t i) ≡ b → (b && not (counts_right t i (rec t i))) ≡ false
      go i l true e = rw (h i l (eqb-true _ _ e))
      go i l false e = refl
