-- The sheets in their turn: what is left of the job, from the table, its index and the stops that are left, ends as the whole job does.
-- Each turn takes one sheet off the front, and one request's answer is that of its definition.
use mathlib.Core.Bool.{Bool, true, false}
use mathlib.Core.List.{List, []}
use mathlib.Core.Path.{◌≡◌, sym, ap, ◌∙◌}
use Prim.Native.Nat.{ℕ, ◌+◌, ◌-◌, ◌≤◌, ◌<◌}
use native.Mathlib.Omega.{arith}
use native.Mathlib.Numerals.{add-one}
use lib.ListN.{take, drop}
use borrow.Author.Tests.{ne_eqb}
use Rattle.paper.specs.Layout.{boxed}
use Rattle.paper.specs.Table.{rec}
use Rattle.paper.specs.Check.{Verdict, passed, refused}
use Rattle.paper.specs.Answer.{Outcome, requested}
use Rattle.paper.specs.Index.{admission, kept_by, keeping}
use Rattle.demands.proofs.Answered.{answered}
use Rattle.demands.proofs.Long.{line-cut}
use Rattle.answers.specs.Shown.{shown}
use Rattle.answers.specs.declared.Answer.{Answer}
use Rattle.answers.specs.Promised.{Keeps}
use Rattle.job.specs.Sheet.{Sheet, count, link_of, length_of, start, sheet, job}
use Rattle.job.specs.Told.{Indexed, beside, of_indexed}
use Rattle.job.specs.Filing as F
use Rattle.job.specs.Filing.{wrs_line, filing_by, kept_filed, kept_filing}
use Rattle.job.specs.Reading as R
use Rattle.job.specs.Reading.{rds_line, brings, brought, reading_by, kept_read, kept_reading}
use Rattle.job_demands.proofs.Turns.{left-some, left-none}
use Rattle.lamp.specs.Runs.{sheet_of, Asked}

-- a sheet by its link and its text, as the code finds them
pub sheet-at : (sheets texts link text : List ℕ) (at n i : ℕ) → link ≡ link_of (rec sheets i) → text ≡ take n (drop at texts)
    → n ≡ length_of (rec sheets i) → at ≡ start sheets i → sheet_of link text ≡ sheet sheets texts i
unfolding sheet
sheet-at sheets texts link text at n i a b c d = rw (a, b, c, d)

-- ---- one request, by a line cut one byte past what the box reads

keeping-cut : (t x line text reply : List ℕ) (u k : ℕ) → keeping t x (take 257 line) text reply u k ≡ keeping t x line text reply u k
unfolding keeping
keeping-cut t x line text reply u k = rw (line-cut t line text reply u k)

keeping-stores : (t x line text reply : List ℕ) (u k : ℕ) → (keeping t x line text reply u k).outcome.answer.stores ≤ k
unfolding keeping
keeping-stores t x line text reply u k = go (admission t x u)
  where
    go : (v : Verdict) → (kept_by t x reply (requested boxed t line text reply u k) v).outcome.answer.stores ≤ k
    go passed = (answered t line text reply u k).stores
    go (refused f) = omega arith

pub asked-filed : (t x chain link text line : List ℕ) (u k : ℕ) (r : Answer) (v y w : List ℕ) → line ≡ take 257 (wrs_line chain link)
    → Keeps (keeping t x line text [] u k) r v y w → Asked (kept_filed (beside t x) chain u k (sheet_of link text)) k r v y
unfolding kept_filed
asked-filed t x chain link text line u k r v y w e p =
    let q : keeping t x line text [] u k ≡ keeping t x (wrs_line chain link) text [] u k = rw e (keeping-cut t x (wrs_line chain link) text [] u k) in
    let n : r ≡ shown (keeping t x (wrs_line chain link) text [] u k).outcome.answer = rw q at p.promised.answer in
    record {
      answer = n;
      table = rw q at p.promised.table;
      index = rw q at p.index;
      most = rw n (keeping-stores t x (wrs_line chain link) text [] u k);
    }

pub keeps-read : (t x chain back link line : List ℕ) (u : ℕ) (r : Answer) (v y w : List ℕ) → line ≡ take 257 (rds_line chain link)
    → Keeps (keeping t x line [] back u 0) r v y w → Keeps (kept_read (beside t x) chain back u (sheet_of link [])) r v y w
unfolding kept_read
keeps-read t x chain back link line u r v y w e p =
    let q : keeping t x line [] back u 0 ≡ keeping t x (rds_line chain link) [] back u 0 = rw e (keeping-cut t x (rds_line chain link) [] back u 0) in
    rw q at p

-- a reading goes by the sheet's link alone
pub read-sheet : (s : Indexed) (chain back : List ℕ) (u : ℕ) (link text : List ℕ) (z : Sheet) (r : Answer) (v y w : List ℕ) → sheet_of link text ≡ z
    → Keeps (kept_read s chain back u (sheet_of link [])) r v y w → Keeps (kept_read s chain back u z) r v y w
unfolding kept_read
read-sheet s chain back u link text z r v y w e p = rw (← e) p

-- what is compared is the sheet's text
pub text-sheet : (number bytes : ℕ) (w link text : List ℕ) (y : Sheet) (b : Bool) → sheet_of link text ≡ y
    → b ≡ brings number bytes w text → b ≡ brings number bytes w y.text
text-sheet number bytes w link text y b e q = rw (← e) q

-- a filing starts with no store made
pub filing-starts : (s : Indexed) (chain : List ℕ) (u k : ℕ) (xs : List Sheet)
    → kept_filing s chain u k 1 0 xs ≡ kept_filing s chain u k (0 + 1) (k - k) (drop 0 xs)
filing-starts s chain u k xs = let z : k - k ≡ 0 = omega arith in rw z

module _ (sheets texts chain : List ℕ) (u i : ℕ) (l : i < count sheets) where
  -- ---- filing, with k stores allowed in all and so many left

  module _ (s : Indexed) (v y : List ℕ) (k left : ℕ) (m : left ≤ k) (r : Answer) (a : Asked (kept_filed s chain u left (sheet sheets texts i)) left r v y) where
    filing-next : kept_filing s chain u left (i + 1) (k - left) (drop i (job sheets texts))
        ≡ F.after_asked (i + 1) (k - left) (λ s₁ n. kept_filing s₁ chain u (left - n) (i + 1 + 1) (k - left + n) (drop (i + 1) (job sheets texts)))
        (of_indexed (kept_filed s chain u left (sheet sheets texts i)))
    unfolding filing_by
    filing-next = rw (left-some sheets texts i l, add-one (i + 1), add-one i)

    number : (kept_filed s chain u left (sheet sheets texts i)).outcome.answer.number ≡ r.number
    number = sym (ap (λ (x : Answer). x.number) a.answer)

    stores : (kept_filed s chain u left (sheet sheets texts i)).outcome.answer.stores ≡ r.stores
    stores = sym (ap (λ (x : Answer). x.stores) a.answer)

    sum : k - left + r.stores ≡ k - (left - r.stores)
    sum = omega (arith, a.most)

    pub filing-stops : (r.number ≡ 0 → ⊥) → kept_filing s chain u left (i + 1) (k - left) (drop i (job sheets texts))
        ≡ F.failed (i + 1) r.number (beside v y) (k - (left - r.stores))
    filing-stops n = filing-next ∙ rw (number, ne_eqb r.number 0 n, stores, sum, ← a.table, ← a.index)

    pub filing-goes : r.number ≡ 0 → kept_filing s chain u left (i + 1) (k - left) (drop i (job sheets texts))
        ≡ kept_filing (beside v y) chain u (left - r.stores) (i + 1 + 1) (k - (left - r.stores)) (drop (i + 1) (job sheets texts))
    filing-goes n = filing-next ∙ rw (number, n, stores, sum, ← a.table, ← a.index)

  -- ---- reading

  module _ (s : Indexed) (v y back w : List ℕ) (r : Answer) (a : Keeps (kept_read s chain back u (sheet sheets texts i)) r v y w) where
    abbrev o : Outcome
    o = (kept_read s chain back u (sheet sheets texts i)).outcome

    reading-next : kept_reading s chain back u (i + 1) (drop i (job sheets texts))
        ≡ R.after_asked (i + 1) (sheet sheets texts i) (λ s₁ b. kept_reading s₁ chain b u (i + 1 + 1) (drop (i + 1) (job sheets texts)))
        (of_indexed (kept_read s chain back u (sheet sheets texts i)))
    unfolding reading_by
    reading-next = rw (left-some sheets texts i l, add-one (i + 1), add-one i)

    number_read : r.number ≡ o.answer.number
    number_read = ap (λ (x : Answer). x.number) a.promised.answer

    answer : brought (sheet sheets texts i) o ≡ brings r.number r.bytes w (sheet sheets texts i).text
    unfolding brought
    answer =
        let b : r.bytes ≡ o.answer.bytes = ap (λ (x : Answer). x.bytes) a.promised.answer in
        rw (number_read, b, a.promised.reply)

    pub reading-stops : brings r.number r.bytes w (sheet sheets texts i).text ≡ false
        → kept_reading s chain back u (i + 1) (drop i (job sheets texts)) ≡ R.failed (i + 1) r.number (beside v y) w
    reading-stops e = reading-next ∙ rw (answer, e, number_read, ← a.promised.table, ← a.index, ← a.promised.reply)

    pub reading-goes : brings r.number r.bytes w (sheet sheets texts i).text ≡ true
        → kept_reading s chain back u (i + 1) (drop i (job sheets texts)) ≡ kept_reading (beside v y) chain w u (i + 1 + 1) (drop (i + 1) (job sheets texts))
    reading-goes e = reading-next ∙ rw (answer, e, ← a.promised.table, ← a.index, ← a.promised.reply)

-- ---- the end

module _ (sheets texts chain : List ℕ) (u i : ℕ) (l : i ≡ count sheets) where
  pub filing-ends : (s : Indexed) (k j made : ℕ) → kept_filing s chain u k j made (drop i (job sheets texts)) ≡ F.whole s made
  unfolding filing_by
  filing-ends s k j made = rw (l, left-none sheets texts)

  pub reading-ends : (s : Indexed) (back : List ℕ) (j : ℕ) → kept_reading s chain back u j (drop i (job sheets texts)) ≡ R.whole s back
  unfolding reading_by
  reading-ends s back j = rw (l, left-none sheets texts)
