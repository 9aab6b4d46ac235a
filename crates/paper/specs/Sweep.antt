-- Document 02, l: "A sweep clears exactly what no chain of entries from any user's base files reaches, whatever the codes on it".
use Rattle.std.specs.Prelude.{Bool, false, ◌&&◌, ◌||◌, not, List, [], ◌∷◌, ◌++◌, ℕ, zero, suc}
use Rattle.paper.specs.Scan.{any_below}
use Rattle.paper.specs.Record.{is_kind, holder_of, names, heading_of}
use Rattle.paper.specs.Layout.{boxed}
use Rattle.paper.specs.Table.{sized, rooms, rec}
use Rattle.paper.specs.Check.{whole, check, Verdict, passed, verdict}
use Rattle.paper.specs.Sound.{is_base, sound}
use Rattle.paper.specs.Store.{Store, clears, run}
use Rattle.paper.specs.Count.{recounts}
use Rattle.paper.specs.Answer.{mend_run}
use Rattle.paper.specs.Index.{is_true, Kept, kept_by}

-- heading h is reached by a chain of at most n entries: an entry names it that is a base file's, or whose directory is reached by one less
unfoldable pub reached_in : ℕ → List ℕ → ℕ → Bool
reached_in zero t h = false
reached_in (suc n) t h =
    is_kind 1 (rec t h) && any_below (λ i. names h (rec t i) && (is_base (rec t i) || reached_in n t (holder_of (rec t i)))) (rooms t)

-- a "chain of entries from any user's base files reaches" it: a chain of any length, for each of its headings takes a record
unfoldable pub reached : List ℕ → ℕ → Bool
reached t h = reached_in (rooms t) t h

-- an entry, not a base file's, whose directory is not reached; a heading that is not; text of such a heading
abbrev pub lost_entry : List ℕ → ℕ → Bool
lost_entry t i = is_kind 2 (rec t i) && not (is_base (rec t i) || reached t (holder_of (rec t i)))

abbrev pub lost_heading : List ℕ → ℕ → Bool
lost_heading t i = is_kind 1 (rec t i) && not (reached t i)

abbrev pub lost_text : List ℕ → ℕ → Bool
lost_text t i = is_kind 3 (rec t i) && not (reached t (heading_of (rec t i)))

-- "entries, then headings, then text, each by record number"
unfoldable pub sweep_clears : List ℕ → List Store
sweep_clears t = clears (lost_entry t) (rooms t) ++ (clears (lost_heading t) (rooms t) ++ clears (lost_text t) (rooms t))

-- the table without them
unfoldable pub live : List ℕ → List ℕ
live t = run t (sweep_clears t)

-- ".. then corrects counts"
unfoldable pub sweep_stores : List ℕ → List Store
sweep_stores t = sweep_clears t ++ recounts (live t)

unfoldable pub swept : List ℕ → List ℕ
swept t = run t (sweep_stores t)

-- "Refusals: 1, 2 and 26 as for a request"
unfoldable pub sweepable : (table index : List ℕ) → Verdict
sweepable t x =
    verdict
    (check (not (sized t)) 1 (whole 0)
    ∷ check (not (sound boxed t)) 2 (whole 0)
    ∷ check (not (is_true t x)) 26 (whole 0)
    ∷ [])

-- "It is a call like mending, with a stop number and the same answer"; "Granted, it leaves the index true"
unfoldable pub sweeping : (table index : List ℕ) (stop : ℕ) → Kept
sweeping t x k = kept_by t x [] (mend_run t k (sweep_stores t) passed) (sweepable t x)
