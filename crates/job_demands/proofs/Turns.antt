-- The sheets in their turn: filing goes on while each is answered 0, on the table and with the stops that the ones before it left; reading
-- goes on while each brings its text. Both by the sheets that are left, from the front: where they end is the first that failed.
use mathlib.Core.Bool.{Bool, true, false}
use mathlib.Core.List.{List, [], ◌∷◌}
use mathlib.Core.Logic.{◌≢◌, by_cases}
use mathlib.Core.Path.{◌≡◌, refl, sym, ◌∙◌}
use Prim.Native.Nat.{ℕ, zero, suc, ◌+◌, ◌-◌, ◌≤◌, ◌<◌}
use native.Mathlib.Omega.{arith}
use native.Mathlib.Decide.{ℕ_discrete}
use lib.ListN.{length, take, drop, drop_of_length-le}
use lib.Seq.{drop-cons}
use lib.Dec.{eqb}
use borrow.Author.Tests.{eqb-true, eqb-false, eq-eqb}
use Rattle.paper.specs.Answer.{Outcome}
use Rattle.paper.specs.Name.{same}
use Rattle.laws.proofs.Tests.{not-both, and_parts, and_both}
use Rattle.laws.proofs.Entries.{same_true, eq-same}
use Rattle.demands.proofs.Answered.{answered}
use Rattle.laws.proofs.Lists.{length-each, get_d-each}
use Rattle.job.specs.Sheet.{Sheet, count, sheet, job}
use Rattle.job.specs.Filing as F
use Rattle.job.specs.Filing.{Filing, filed, filing_by, filing}
use Rattle.job.specs.Reading as R
use Rattle.job.specs.Reading.{Reading, rds_line, read_back, brought, reading_by, reading}
use Rattle.job_demands.proofs.Still.{still}
use Rattle.job_demands.proofs.Bringing.{Alike, buffer-length}

-- every number below n
abbrev pub Below : ℕ → (ℕ → Type 0) → Type 0
Below n P = (i : ℕ) → i < n → P i

below_more : (P : ℕ → Type 0) (n : ℕ) → Below n P → P n → Below (suc n) P
below_more P n h p i l =
    by_cases (ℕ_discrete i n) (λ (q : i ≡ n). rw q p) (λ (q : i ≢ n). h i (omega arith))

-- the sheets that are left
module _ (sheets texts : List ℕ) where
  pub left-some : (i : ℕ) → i < count sheets → drop i (job sheets texts) ≡ sheet sheets texts i ∷ drop (suc i) (job sheets texts)
  unfolding job
  left-some i l =
      drop-cons (job sheets texts) i (sheet sheets texts 0) (rw (length-each (sheet sheets texts) (count sheets)) l)
      ∙ rw (get_d-each (sheet sheets texts) (count sheets) i (sheet sheets texts 0) l)

  pub left-none : drop (count sheets) (job sheets texts) ≡ []
  unfolding job
  left-none =
      let l : length (job sheets texts) ≤ count sheets = rw (length-each (sheet sheets texts) (count sheets)) (omega arith) in
      drop_of_length-le (job sheets texts) l

-- ---- filing

-- the table, and all the stores made
pub record Turn : Type 0 where
  pub table : List ℕ
  pub made : ℕ

-- after one more answer
abbrev next : Turn → Outcome → Turn
next s o = record { table = o.table; made = s.made + o.answer.stores }

module _ (t sheets texts chain : List ℕ) (u k : ℕ) where
  -- once the first n sheets are filed
  unfoldable pub turn : ℕ → Turn
  turn zero = record { table = t; made = 0 }
  turn (suc n) = next (turn n) (filed (turn n).table chain u (k - (turn n).made) (sheet sheets texts n))

  -- sheet i filed in its turn
  abbrev pub filed_at : ℕ → Outcome
  filed_at i = filed (turn i).table chain u (k - (turn i).made) (sheet sheets texts i)

  -- "answered 0"
  abbrev pub Files : ℕ → Type 0
  Files i = (filed_at i).answer.number ≡ 0

  pub data FilingEnds (f : Filing) : Type 0 where
    whole : Below (count sheets) Files → f ≡ F.whole (turn (count sheets)).table (turn (count sheets)).made → FilingEnds f
    stops : (i : ℕ) → i < count sheets → Below i Files → (Files i → ⊥)
        → f ≡ F.failed (suc i) (filed_at i).answer.number (turn (suc i)).table (turn (suc i)).made → FilingEnds f

  -- the sheets from i on are filed
  abbrev filed_from : ℕ → Filing
  filed_from i = filing (turn i).table chain u (k - (turn i).made) (suc i) (turn i).made (drop i (job sheets texts))

  filing-from : (m i : ℕ) → i + m ≡ count sheets → Below i Files → FilingEnds (filed_from i)
  unfolding filing_by turn
  filing-from zero i e h = let q : i ≡ count sheets = omega arith in rw (q, left-none sheets texts) (whole (rw q at h) refl)
  filing-from (suc m) i e h = go (eqb (filed_at i).answer.number 0) refl (λ g. filing-from m (suc i) (omega arith) g)
    where
      l : i < count sheets
      l = omega arith

      go : (b : Bool) → eqb (filed_at i).answer.number 0 ≡ b → (Below (suc i) Files → FilingEnds (filed_from (suc i))) → FilingEnds (filed_from i)
      go true q r =
          let z : k - ((turn i).made + (filed_at i).answer.stores) ≡ k - (turn i).made - (filed_at i).answer.stores = omega arith in
          rw (left-some sheets texts i l, q) (rw z at (r (below_more Files i h (eqb-true (filed_at i).answer.number 0 q))))
      go false q r = rw (left-some sheets texts i l, q) (stops i l h (eqb-false (filed_at i).answer.number 0 q) refl)

  pub filing-ends : FilingEnds (filing t chain u k 1 0 (job sheets texts))
  unfolding turn
  filing-ends = let z : k - 0 ≡ k = omega arith in rw z at (filing-from (count sheets) 0 (omega arith) (λ i l. let o : ⊥ = omega arith in absurd o))

-- ---- reading

-- "read back with reply 0 and each text read back equals the text sent"
abbrev pub Brought : Sheet → Outcome → Type 0
Brought x o = (o.answer.number ≡ 0) × (take o.answer.bytes o.reply ≡ x.text)

brought-so : (x : Sheet) (o : Outcome) → brought x o ≡ true → Brought x o
unfolding brought
brought-so x o e =
    let f = and_parts (eqb o.answer.number 0) (same (take o.answer.bytes o.reply) x.text) e in
    (eqb-true o.answer.number 0 f.0, same_true (take o.answer.bytes o.reply) x.text f.1)

so-brought : (x : Sheet) (o : Outcome) → Brought x o → brought x o ≡ true
unfolding brought
so-brought x o b =
    and_both (eqb o.answer.number 0) (same (take o.answer.bytes o.reply) x.text) (eq-eqb o.answer.number 0 b.0)
    (eq-same (take o.answer.bytes o.reply) x.text b.1)

-- outcomes alike bring the same
alike-brought : (x : Sheet) (o p : Outcome) → Alike o p → brought x o ≡ brought x p
unfolding brought
alike-brought x o p a = rw (a.text, a.answer)

module _ (t sheets texts back chain : List ℕ) (u : ℕ) where
  -- sheet i read back into the lent buffer
  abbrev pub read_at : ℕ → Outcome
  read_at i = read_back t chain back u (sheet sheets texts i)

  abbrev pub Brings : ℕ → Type 0
  Brings i = Brought (sheet sheets texts i) (read_at i)

  pub data ReadingEnds (r : Reading) : Type 0 where
    whole : Below (count sheets) Brings → (b : List ℕ) → r ≡ R.whole t b → ReadingEnds r
    stops : (i : ℕ) → i < count sheets → Below i Brings → (Brings i → ⊥) → (b : List ℕ)
        → r ≡ R.failed (suc i) (read_at i).answer.number t b → ReadingEnds r

  -- the sheets from i on are read back over the front of b
  abbrev read_from : ℕ → List ℕ → Reading
  read_from i b = reading t chain b u (suc i) (drop i (job sheets texts))

  reading-from : (m i : ℕ) (b : List ℕ) → length b ≡ length back → i + m ≡ count sheets → Below i Brings → ReadingEnds (read_from i b)
  unfolding reading_by read_back
  reading-from zero i b n e h =
      let q : i ≡ count sheets = omega arith in
      rw (q, left-none sheets texts) (whole (rw q at h) b refl)
  reading-from (suc m) i b n e h = go (brought (sheet sheets texts i) o) refl (λ c f g. reading-from m (suc i) c f (omega arith) g)
    where
      l : i < count sheets
      l = omega arith

      o : Outcome
      o = read_back t chain b u (sheet sheets texts i)

      a : Alike o (read_at i)
      a = buffer-length t chain (sheet sheets texts i).link [] b back u 0 n

      kept : o.table ≡ t
      kept = still t (rds_line chain (sheet sheets texts i).link) [] b u

      same-brought : brought (sheet sheets texts i) o ≡ brought (sheet sheets texts i) (read_at i)
      same-brought = alike-brought (sheet sheets texts i) o (read_at i) a

      go : (v : Bool) → brought (sheet sheets texts i) o ≡ v
          → ((c : List ℕ) → length c ≡ length back → Below (suc i) Brings → ReadingEnds (read_from (suc i) c)) → ReadingEnds (read_from i b)
      go true q r =
          let f : length o.reply ≡ length back = (answered t (rds_line chain (sheet sheets texts i).link) [] b u 0).size ∙ n in
          let g : Brings i = brought-so (sheet sheets texts i) (read_at i) (sym same-brought ∙ q) in
          rw (left-some sheets texts i l, q, kept) (r o.reply f (below_more Brings i h g))
      go false q r =
          rw (left-some sheets texts i l, q, kept)
          (stops i l h (λ g. not-both (so-brought (sheet sheets texts i) (read_at i) g) (sym same-brought ∙ q)) o.reply (rw a.answer))

  pub reading-ends : ReadingEnds (reading t chain back u 1 (job sheets texts))
  reading-ends = reading-from (count sheets) 0 back refl (omega arith) (λ i l. let o : ⊥ = omega arith in absurd o)
