-- "Green exactly when every sheet was filed and read back with reply 0 and each text read back equals the text sent; otherwise red with the
-- number, from 1, of the first sheet that failed and its filing or reading reply": the lamp's three stages end in one of four ways.
use mathlib.Core.List.{List, []}
use mathlib.Core.Path.{◌≡◌, refl}
use Prim.Native.Nat.{ℕ, suc, ◌≤◌, ◌<◌}
use native.Mathlib.Omega.{arith}
use lib.ListN.{length}
use Rattle.paper.specs.Layout.{boxed}
use Rattle.paper.specs.Answer.{requested}
use Rattle.paper.specs.Check.{verdict}
use Rattle.paper.specs.Scan.{join_below}
use Rattle.laws.proofs.Tests.{not-both}
use Rattle.laws.proofs.Scans.{any_false}
use Rattle.demands.proofs.Parts.{bringing}
use Rattle.job.specs.Sheet.{count, sheet, job}
use Rattle.job.specs.Refusal.{each, admission}
use Rattle.job.specs.Filing.{Filing, filing_by}
use Rattle.job.specs.Reading.{Reading, rds_line, read_back, reading_by, reading}
use Rattle.job.specs.Lamp.{Lit, green, red, refusal, after_reading, after_filing, lit}
use Rattle.job_demands.proofs.Bringing.{read_again}
use Rattle.job_demands.proofs.Admitting as A
use Rattle.job_demands.proofs.Admitting.{test, tests, Fails, Passes, Admitted, admitted}
use Rattle.job_demands.proofs.Turns as T
use Rattle.job_demands.proofs.Turns.{Below, Turn, turn, filed_at, Files, FilingEnds, filing-ends, read_at, Brings, ReadingEnds, reading-ends}

module _ (t sheets texts back chain : List ℕ) (u k : ℕ) where
  -- the table, and the stores made, once the first n sheets are filed, and once all are
  abbrev pub after_first : ℕ → Turn
  after_first = turn t sheets texts chain u k

  abbrev pub after : Turn
  after = after_first (count sheets)

  -- no test of the lamp's own fails
  abbrev pub Admits : Type 0
  Admits = Passes (count sheets) (tests sheets texts back)

  -- sheet i, filed in its turn, is answered 0
  abbrev pub IsFiled : ℕ → Type 0
  IsFiled = Files t sheets texts chain u k

  -- sheet i, read back once all are filed, is answered 0 and brings the text sent
  abbrev pub IsRead : ℕ → Type 0
  IsRead = Brings after.table sheets texts back chain u

  pub data Shown (l : Lit) : Type 0 where
    -- refused, before any store: test m is the first that a sheet fails, and sheet i the first that fails it
    refused : (m i : ℕ) → Fails (count sheets) (tests sheets texts back) m i
        → l ≡ record { answer = refusal (suc i) (suc m); table = t; back = back } → Shown l
    -- red in filing: sheet i is the first that is not answered 0
    unfiled : (i : ℕ) → i < count sheets → Admits → Below i IsFiled → (IsFiled i → ⊥)
        → l.answer ≡ red 1 (suc i) (filed_at t sheets texts chain u k i).answer.number (after_first (suc i)).made
        → l.table ≡ (after_first (suc i)).table → l.back ≡ back → Shown l
    -- red in reading: sheet i is the first that does not bring the text sent
    unread : (i : ℕ) → i < count sheets → Admits → Below (count sheets) IsFiled → Below i IsRead → (IsRead i → ⊥)
        → l.answer ≡ red 2 (suc i) (read_at after.table sheets texts back chain u i).answer.number after.made
        → l.table ≡ after.table → Shown l
    -- green: every sheet is filed and brings the text sent
    whole : Admits → Below (count sheets) IsFiled → Below (count sheets) IsRead → l.answer ≡ green after.made → l.table ≡ after.table
        → Shown l

  read-shown : Admits → Below (count sheets) IsFiled → (r : Reading) → ReadingEnds after.table sheets texts back chain u r
      → Shown (after_reading after.made r)
  read-shown a f r (T.whole h b q) = rw q (whole a f h refl refl)
  read-shown a f r (T.stops i l h g b q) = rw q (unread i l a f h g refl refl)

  filed-shown : Admits → (f : Filing) → FilingEnds t sheets texts chain u k f
      → Shown (after_filing back (λ t₁. reading t₁ chain back u 1 (job sheets texts)) f)
  filed-shown a f (T.whole h q) = rw q (read-shown a h _ (reading-ends after.table sheets texts back chain u))
  filed-shown a f (T.stops i l h g q) = rw q (unfiled i l a h g refl refl refl)

  -- every job, on every table, for every user and stop number
  pub shown : Shown (lit t sheets texts back chain u k)
  unfolding lit
  shown = go (admitted sheets texts back)
    where
      go : Admitted sheets texts back (admission sheets texts back) → Shown (lit t sheets texts back chain u k)
      go (A.admits h q) = rw q (filed-shown h _ (filing-ends t sheets texts chain u k))
      go (A.refuses m i f q) = rw q (refused m i f refl)

  -- every sheet was filed and read back with reply 0, and each text read back equals the text sent
  pub record Whole : Type 0 where
    pub admits : Admits
    pub files : Below (count sheets) IsFiled
    pub reads : Below (count sheets) IsRead

  -- the light is green, red or refused
  pub lights : (lit t sheets texts back chain u k).answer.light ≤ 2
  lights = go (lit t sheets texts back chain u k) shown
    where
      go : (l : Lit) → Shown l → l.answer.light ≤ 2
      go l (refused m i f q) = rw q (omega arith)
      go l (unfiled i b a f g q x y) = rw q (omega arith)
      go l (unread i b a f r g q x) = rw q (omega arith)
      go l (whole a f r q x) = rw q (omega arith)

  -- "Green exactly when": the one way, with the table that is left, and the other
  pub green-so : (lit t sheets texts back chain u k).answer.light ≡ 0 → Whole × ((lit t sheets texts back chain u k).table ≡ after.table)
  green-so e = go (lit t sheets texts back chain u k) e shown
    where
      go : (l : Lit) → l.answer.light ≡ 0 → Shown l → Whole × (l.table ≡ after.table)
      go l e (refused m i f q) = let z = rw q at e in let o : ⊥ = omega arith in absurd o
      go l e (unfiled i b a f g q x y) = let z = rw q at e in let o : ⊥ = omega arith in absurd o
      go l e (unread i b a f r g q x) = let z = rw q at e in let o : ⊥ = omega arith in absurd o
      go l e (whole a f r q x) = (record { admits = a; files = f; reads = r }, x)

  pub green-by : Whole → (lit t sheets texts back chain u k).answer ≡ green after.made
  green-by w = go (lit t sheets texts back chain u k) shown
    where
      go : (l : Lit) → Shown l → l.answer ≡ green after.made
      go l (refused m i f q) =
          let none = any_false (test (tests sheets texts back) m) (count sheets) i f.first.below (w.admits m) in
          absurd (not-both f.first.passes none)
      go l (unfiled i b a f g q x y) = absurd (g (w.files i b))
      go l (unread i b a f r g q x) = absurd (g (w.reads i b))
      go l (whole a f r q x) = q

  -- green means read back: each sheet of a green job is read from the table that is left, by every RDS of its name, with any text lent and
  -- any stop number, into any buffer that is long enough
  pub green-reads : (lit t sheets texts back chain u k).answer.light ≡ 0 → (i : ℕ) → i < count sheets → (text b : List ℕ) (j : ℕ)
      → length (sheet sheets texts i).text ≤ length b
      → requested boxed (lit t sheets texts back chain u k).table (rds_line chain (sheet sheets texts i).link) text b u j
      ≡ bringing (lit t sheets texts back chain u k).table (sheet sheets texts i).text b
  unfolding read_back
  green-reads e i l text b j m =
      let g = green-so e in
      let r = g.0.reads i l in
      rw g.1 (read_again after.table chain (sheet sheets texts i).link [] back (sheet sheets texts i).text u 0 r.0 r.1 text b j m)

-- "A job without sheets is green and stores nothing."
pub no-sheets : (t texts back chain : List ℕ) (u k : ℕ) → lit t [] texts back chain u k ≡ record { answer = green 0; table = t; back = back }
unfolding lit admission each join_below verdict job filing_by reading_by
no-sheets t texts back chain u k = refl
