-- "The fixture files every sheet in order, as `WRS M chain:link`, into one directory named by a chain, one stop number for the job,
-- stops at the first that isn't answered 0".
use Rattle.std.specs.Prelude.{cond, List, [], ◌∷◌, ◌++◌, ℕ, suc, ◌+◌, ◌-◌, eqb}
use Rattle.paper.specs.Layout.{boxed}
use Rattle.paper.specs.Answer.{Outcome, requested}
use Rattle.paper.specs.Index.{Kept, keeping}
use Rattle.job.specs.Sheet.{Sheet}
use Rattle.job.specs.Told.{Indexed, Told, of_table, of_indexed}

-- a chain's name and a link, joined by a colon
abbrev pub below : List ℕ → List ℕ → List ℕ
below chain link = chain ++ 58 ∷ link

-- `WRS M chain:link`
unfoldable pub wrs_line : List ℕ → List ℕ → List ℕ
wrs_line chain link = 87 ∷ 82 ∷ 83 ∷ 32 ∷ 77 ∷ 32 ∷ below chain link

-- how a filing ends: the state and all the stores made; or the first sheet that failed too, with its reply number
pub data FilingOf (S : Type 0) : Type 0 where
  whole : (state : S) (stores : ℕ) → FilingOf S
  failed : (sheet number : ℕ) (state : S) (stores : ℕ) → FilingOf S

-- sheet i is answered, with so many stores made before it: more where the number is 0
abbrev pub after_asked : {S : Type 0} → (i made : ℕ) → (S → ℕ → FilingOf S) → Told S → FilingOf S
after_asked i made more o =
    cond (eqb o.outcome.answer.number 0) (more o.state o.outcome.answer.stores)
    (failed i o.outcome.answer.number o.state (made + o.outcome.answer.stores))

-- the sheets filed, the first of them sheet i: each gets the stores that the ones before it left of k
unfoldable pub filing_by : {S : Type 0} → (S → ℕ → Sheet → Told S) → S → (k i made : ℕ) → List Sheet → FilingOf S
filing_by file s k i made [] = whole s made
filing_by file s k i made (x ∷ xs) =
    after_asked i made (λ s₁ n. filing_by file s₁ (k - n) (suc i) (made + n) xs) (file s k x)

-- ---- on a table alone

-- one sheet filed, with k stores left; a WRS writes no reply
unfoldable pub filed : (t chain : List ℕ) (u k : ℕ) → Sheet → Outcome
filed t chain u k x = requested boxed t (wrs_line chain x.link) x.text [] u k

abbrev pub Filing : Type 0
Filing = FilingOf (List ℕ)

abbrev pub after_filed : (i made : ℕ) → (List ℕ → ℕ → Filing) → Outcome → Filing
after_filed i made more o = after_asked i made more (of_table o)

abbrev pub filing : (t chain : List ℕ) (u k i made : ℕ) → List Sheet → Filing
filing t chain u = filing_by (λ t₁ k x. of_table (filed t₁ chain u k x)) t

-- ---- on a table with its index

unfoldable pub kept_filed : Indexed → List ℕ → (u k : ℕ) → Sheet → Kept
kept_filed s chain u k x = keeping s.table s.index (wrs_line chain x.link) x.text [] u k

abbrev pub kept_filing : Indexed → List ℕ → (u k i made : ℕ) → List Sheet → FilingOf Indexed
kept_filing s chain u = filing_by (λ s₁ k x. of_indexed (kept_filed s₁ chain u k x)) s
