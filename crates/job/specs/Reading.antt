-- ".. and if none, reads each back whole into a third lent buffer, up to the first that fails."
use Rattle.std.specs.Prelude.{Bool, ◌&&◌, cond, List, [], ◌∷◌, ℕ, suc, eqb, take}
use Rattle.paper.specs.Layout.{boxed}
use Rattle.paper.specs.Answer.{Outcome, requested}
use Rattle.paper.specs.Index.{Kept, keeping}
use Rattle.paper.specs.Name.{same}
use Rattle.job.specs.Sheet.{Sheet}
use Rattle.job.specs.Told.{Indexed, Told, of_table, of_indexed}
use Rattle.job.specs.Filing.{below}

-- `RDS chain:link`
unfoldable pub rds_line : List ℕ → List ℕ → List ℕ
rds_line chain link = 82 ∷ 68 ∷ 83 ∷ 32 ∷ below chain link

-- "reply 0", and so many bytes at the front of the buffer are "the text sent"
abbrev pub brings : (number bytes : ℕ) (back text : List ℕ) → Bool
brings number bytes back text = eqb number 0 && same (take bytes back) text

-- "read back with reply 0 and each text read back equals the text sent"
unfoldable pub brought : Sheet → Outcome → Bool
brought x o = brings o.answer.number o.answer.bytes o.reply x.text

-- how a reading ends: the state and the buffer; or the first sheet that failed too, with its reply number
pub data ReadingOf (S : Type 0) : Type 0 where
  whole : (state : S) (back : List ℕ) → ReadingOf S
  failed : (sheet number : ℕ) (state : S) (back : List ℕ) → ReadingOf S

-- sheet i is answered: more where it brought the text sent
abbrev pub after_asked : {S : Type 0} → ℕ → Sheet → (S → List ℕ → ReadingOf S) → Told S → ReadingOf S
after_asked i x more o =
    cond (brought x o.outcome) (more o.state o.outcome.reply)
    (failed i o.outcome.answer.number o.state o.outcome.reply)

-- the sheets read back, the first of them sheet i
unfoldable pub reading_by : {S : Type 0} → (S → List ℕ → Sheet → Told S) → S → (back : List ℕ) (i : ℕ) → List Sheet → ReadingOf S
reading_by read s back i [] = whole s back
reading_by read s back i (x ∷ xs) = after_asked i x (λ s₁ back₁. reading_by read s₁ back₁ (suc i) xs) (read s back x)

-- ---- on a table alone

-- one sheet read back over the front of what the last one left: no text, and no store to make
unfoldable pub read_back : (t chain back : List ℕ) (u : ℕ) → Sheet → Outcome
read_back t chain back u x = requested boxed t (rds_line chain x.link) [] back u 0

abbrev pub Reading : Type 0
Reading = ReadingOf (List ℕ)

abbrev pub after_read : ℕ → Sheet → (List ℕ → List ℕ → Reading) → Outcome → Reading
after_read i x more o = after_asked i x more (of_table o)

abbrev pub reading : (t chain back : List ℕ) (u i : ℕ) → List Sheet → Reading
reading t chain back u i = reading_by (λ t₁ b x. of_table (read_back t₁ chain b u x)) t back i

-- ---- on a table with its index

unfoldable pub kept_read : Indexed → (chain back : List ℕ) (u : ℕ) → Sheet → Kept
kept_read s chain back u x = keeping s.table s.index (rds_line chain x.link) [] back u 0

abbrev pub kept_reading : Indexed → (chain back : List ℕ) (u i : ℕ) → List Sheet → ReadingOf Indexed
kept_reading s chain back u i = reading_by (λ s₁ b x. of_indexed (kept_read s₁ chain b u x)) s back i
