-- Headings alike but for their counts: every test of mending reads them alike, and counted anew they are equal.
-- A table's counts go by its entries alone, so tables alike in every record come to the same table when their counts are corrected.
use mathlib.Core.Bool.{Bool, true, false, cond}
use mathlib.Core.List.{List, ◌++◌}
use mathlib.Core.Logic.{by_cases}
use mathlib.Core.Path.{◌≡◌, refl, sym, ◌∙◌}
use Prim.Native.Nat.{ℕ, ◌<◌}
use native.Mathlib.Omega.{arith}
use native.Mathlib.Decide.{dec_lt}
use lib.ListN.{length, take, drop}
use borrow.Author.Tests.{eqb-true, eq-eqb}
use Rattle.paper.specs.Number.{bytes_of}
use Rattle.paper.specs.Record.{byte, is_kind, directory, names, blank}
use Rattle.paper.specs.Table.{rooms, rec}
use Rattle.paper.specs.Entry.{Holder, in_directory, stands, crowd}
use Rattle.paper.specs.Store.{run}
use Rattle.paper.specs.Count.{namings, holdings, counts_right, recounted, recounts}
use Rattle.paper.specs.Sound.{counts_true}
use Rattle.paper.specs.Mend.{keeps_text}
use Rattle.laws.proofs.Tests.{not-both, false-by}
use Rattle.laws.proofs.Entries.{names-kind, stands-true}
use Rattle.laws.proofs.Counts.{count-cong}
use Rattle.laws.proofs.Lay.{Whole, length-rec, rec-past, ext-table}
use Rattle.laws.proofs.Runs.{length_run, rooms-run}
use Rattle.laws.proofs.Recounts.{front-byte, front-directory, recounted-front, recounted-file, recounted-back, recounted-right, rec-recounts}
use Rattle.laws.proofs.Sound.{every_true, every_here}
use Rattle.demands.proofs.Mending.Part.{ButCounts, Alike, equal, counts}

-- ---- one record

module _ (x r : List ℕ) (b : ButCounts x r) where
  pub but-byte : (j : ℕ) → j < 12 → byte r j ≡ byte x j
  but-byte = front-byte x r b.front

  pub but-kind : byte r 0 ≡ byte x 0
  but-kind = but-byte 0 (omega arith)

  pub but-directory : directory r ≡ directory x
  but-directory = front-directory x r b.front

  pub but-keeps : keeps_text r ≡ keeps_text x
  unfolding keeps_text
  but-keeps = rw (but-kind, but-byte 1 (omega arith), but-byte 5 (omega arith))

  -- counted anew they are equal
  pub but-recounted : (t : List ℕ) (i : ℕ) → recounted t i r ≡ recounted t i x
  unfolding recounted
  but-recounted t i = rw (but-directory, b.front, b.back) (go (directory x) refl)
    where
      go : (d : Bool) → directory x ≡ d → take 12 x ++ (bytes_of 2 (namings t i) ++ (cond d (bytes_of 2 (holdings t i)) (take 2 (drop 14 r)) ++ drop 16 x))
          ≡ take 12 x ++ (bytes_of 2 (namings t i) ++ (cond d (bytes_of 2 (holdings t i)) (take 2 (drop 14 x)) ++ drop 16 x))
      go true e = refl
      go false e = rw (b.file e)

  pub but-sym : ButCounts r x
  but-sym =
      record {
        kind = but-kind ∙ b.kind;
        front = sym b.front;
        file = λ e. sym (b.file (sym but-directory ∙ e));
        back = sym b.back;
      }

pub alike-sym : (x r : List ℕ) → Alike x r → Alike r x
alike-sym x r (equal e) = equal (sym e)
alike-sym x r (counts b) = counts (but-sym x r b)

pub alike-trans : (x y z : List ℕ) → Alike x y → Alike y z → Alike x z
alike-trans x y z (equal e) b = rw (← e) b
alike-trans x y z (counts a) (equal e) = rw e (counts a)
alike-trans x y z (counts a) (counts b) =
    counts (record {
      kind = a.kind;
      front = b.front ∙ a.front;
      file = λ e. b.file (but-directory x y a ∙ e) ∙ a.file e;
      back = b.back ∙ a.back;
    })

pub alike-kind : (x r : List ℕ) → Alike x r → byte r 0 ≡ byte x 0
alike-kind x r (equal e) = rw e
alike-kind x r (counts b) = but-kind x r b

pub alike-byte : (x r : List ℕ) → Alike x r → (j : ℕ) → j < 12 → byte r j ≡ byte x j
alike-byte x r (equal e) j l = rw e
alike-byte x r (counts b) j l = but-byte x r b j l

pub alike-keeps : (x r : List ℕ) → Alike x r → keeps_text r ≡ keeps_text x
alike-keeps x r (equal e) = rw e
alike-keeps x r (counts b) = but-keeps x r b

-- what is no heading is the same
pub alike_same : (x r : List ℕ) → Alike x r → is_kind 1 x ≡ false → r ≡ x
alike_same x r (equal e) n = e
alike_same x r (counts b) n = absurd (not-both (eq-eqb _ _ b.kind) n)

-- a free record is like no other
pub is-blank : (r : List ℕ) → Alike blank r → r ≡ blank
is-blank r a = alike_same blank r a (unfold blank in refl)

-- a test of entries reads them alike
pub alike-entry : (test : List ℕ → Bool) → ((r : List ℕ) → test r ≡ true → byte r 0 ≡ 2) → (x r : List ℕ) → Alike x r → test r ≡ test x
alike-entry test k x r (equal e) = rw e
alike-entry test k x r (counts b) =
    let kr : byte r 0 ≡ 1 = but-kind x r b ∙ b.kind in
    let kx : byte x 0 ≡ 1 = b.kind in
    false-by (test r) (λ e. omega (arith, k r e)) ∙ sym (false-by (test x) (λ e. omega (arith, k x e)))

pub alike-names : (h : ℕ) (x r : List ℕ) → Alike x r → names h r ≡ names h x
alike-names h = alike-entry (names h) (names-kind h)

pub alike-stands : (d : Holder) (x r : List ℕ) → Alike x r → stands d r ≡ stands d x
alike-stands d = alike-entry (stands d) (λ r e. (stands-true d r e).kind)

-- counted anew it is as it was but for the counts
pub but-recount : (t : List ℕ) (i : ℕ) (r : List ℕ) → length r ≡ 32 → byte r 0 ≡ 1 → ButCounts r (recounted t i r)
but-recount t i r l k =
    record { kind = k; front = recounted-front t i r l; file = recounted-file t i r l; back = recounted-back t i r l }

-- ---- tables

-- after `recounts` every record is alike
pub recounts-each : (t : List ℕ) (i : ℕ) → i < rooms t → Alike (rec t i) (rec (run t (recounts t)) i)
recounts-each t i l = rw (rec-recounts t i l) (go (is_kind 1 (rec t i)) refl)
  where
    go : (b : Bool) → is_kind 1 (rec t i) ≡ b → Alike (rec t i) (cond b (recounted t i (rec t i)) (rec t i))
    go true e = counts (but-recount t i (rec t i) (length-rec t i l) (eqb-true _ _ e))
    go false e = equal refl

-- tables alike in every record: the same entries
module _ (u v : List ℕ) (e : length v ≡ length u) (h : (i : ℕ) → i < rooms u → Alike (rec u i) (rec v i)) where
  pub namings-alike : (n : ℕ) → namings v n ≡ namings u n
  unfolding namings
  namings-alike n = rw e (count-cong _ _ (rooms u) (λ i l. alike-names n (rec u i) (rec v i) (h i l)))

  pub crowd-alike : (d : Holder) → crowd v d ≡ crowd u d
  unfolding crowd
  crowd-alike d = rw e (count-cong _ _ (rooms u) (λ i l. alike-stands d (rec u i) (rec v i) (h i l)))

  pub recounted-alike : (i : ℕ) (r : List ℕ) → recounted v i r ≡ recounted u i r
  unfolding recounted
  recounted-alike i r = rw (namings-alike i, crowd-alike (in_directory i))

  pub counts-alike : (i : ℕ) (r : List ℕ) → counts_right v i r ≡ counts_right u i r
  unfolding counts_right
  counts-alike i r = rw (namings-alike i, crowd-alike (in_directory i))

  -- their counts corrected, they are equal
  pub recounts-alike : Whole u → run v (recounts v) ≡ run u (recounts u)
  recounts-alike w = ext-table (run v (recounts v)) (run u (recounts u)) (rw (length_run v _, length_run u _) e) (rw (length_run v _, e) w) at-record
    where
      one : (i : ℕ) → Alike (rec u i) (rec v i)
          → cond (is_kind 1 (rec v i)) (recounted v i (rec v i)) (rec v i) ≡ cond (is_kind 1 (rec u i)) (recounted u i (rec u i)) (rec u i)
      one i (equal q) = rw (q, recounted-alike i (rec u i))
      one i (counts b) = rw (but-kind (rec u i) (rec v i) b, b.kind, recounted-alike i (rec v i)) (but-recounted (rec u i) (rec v i) b u i)

      at-record : (i : ℕ) → i < rooms (run v (recounts v)) → rec (run v (recounts v)) i ≡ rec (run u (recounts u)) i
      at-record i l =
          let lv : i < rooms v = rw (rooms-run v _) at l in
          let lu : i < rooms u = rw e at lv in
          rec-recounts v i lv ∙ one i (h i lu) ∙ sym (rec-recounts u i lu)

-- and past the table both have nothing
pub alike-past : (u v : List ℕ) → Whole u → length v ≡ length u → ((i : ℕ) → i < rooms u → Alike (rec u i) (rec v i)) → (i : ℕ) → Alike (rec u i) (rec v i)
alike-past u v w e h i =
    by_cases (dec_lt i (rooms u)) (h i)
    (λ (n : ¬ (i < rooms u)). equal (rec-past v i (rw e w) (rw e (omega arith)) ∙ sym (rec-past u i w (omega arith))))

-- ---- after `recounts` the counts are true

pub counts-at : (t : List ℕ) → counts_true t ≡ true → (i : ℕ) → i < rooms t → byte (rec t i) 0 ≡ 1 → counts_right t i (rec t i) ≡ true
unfolding counts_true
counts-at t = every_true 1 (counts_right t) t

pub counts-here : (t : List ℕ) → ((i : ℕ) → i < rooms t → byte (rec t i) 0 ≡ 1 → counts_right t i (rec t i) ≡ true) → counts_true t ≡ true
unfolding counts_true
counts-here t = every_here 1 (counts_right t) t

pub recounts-true : (t : List ℕ) → counts_true (run t (recounts t)) ≡ true
recounts-true t = counts-here (run t (recounts t)) (λ i l k. at i (rw (rooms-run t _) at l) k)
  where
    at : (i : ℕ) → i < rooms t → byte (rec (run t (recounts t)) i) 0 ≡ 1 → counts_right (run t (recounts t)) i (rec (run t (recounts t)) i) ≡ true
    at i l k =
        let kind : byte (rec t i) 0 ≡ 1 = sym (alike-kind (rec t i) (rec (run t (recounts t)) i) (recounts-each t i l)) ∙ k in
        counts-alike t (run t (recounts t)) (length_run t _) (recounts-each t) i (rec (run t (recounts t)) i)
        ∙ rw (rec-recounts t i l, kind) (recounted-right t i (rec t i) (length-rec t i l))
