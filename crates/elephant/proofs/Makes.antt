-- CRD and WRS by where their walks end: each is refused there, or goes on as its plan does.
-- The walk of the code shows the paper's, so that the case it chooses is the plan's.
use mathlib.Core.List.{List, [], ◌∷◌}
use mathlib.Core.Path.{◌≡◌, refl}
use Prim.Native.Nat.{ℕ}
use lib.ListN.{length}
use Rattle.paper.specs.Record.{heading_record}
use Rattle.paper.specs.Layout.{boxed}
use Rattle.paper.specs.Table.{rec}
use Rattle.paper.specs.Declaration.{Part, or_else}
use Rattle.paper.specs.Walk as W
use Rattle.paper.specs.Walk.{to_directory}
use Rattle.paper.specs.Effect.{Planned, Making, making, filing, read_inhibited, not_simple, end_of, crd_plan, wrs_plan}
use Rattle.words.specs.Place.{word_at}
use Rattle.words.specs.declared.begin.Begin.TheVariants.{Own}
use Rattle.std.specs.Prelude.{Option, Some, None, MatchOption, Result, Ok, Err}
use Rattle.std.specs.Option.{unwrap_or}
use Rattle.records.specs.Part.{meant_part}
use Rattle.walk.specs.Shown.{meant, begins, chain_at}
use Rattle.walk.specs.declared.state.State.{State}
use Rattle.answers.specs.Shown.{refusal_meant, answer_of}
use Rattle.answers.specs.declared.Answer.{Answer}
use Rattle.answers.specs.declared.Refusal.{Refusal}
use Rattle.elephant.specs.Done.{Did}
use Rattle.elephant.specs.Walks.{word_of, walked_by}
use Rattle.elephant.specs.Filing.{copied_to, late_of}
use Rattle.elephant.specs.declared.place.Chain.{Chain}
use Rattle.elephant.proofs.Ends.{own, holder-stops, holder-reaches}

-- a part that may be given, or another number
pub or-else : (p : Option ℕ) (n : ℕ) → unwrap_or p n ≡ or_else (meant_part p) n
or-else (Some x) n = refl
or-else None n = refl

pub or-given : (p : Option ℕ) (n r : ℕ) → MatchOption p (r ≡ n) (λ x. r ≡ x) → r ≡ or_else (meant_part p) n
or-given (Some x) n r e = e
or-given None n r e = e

-- the new file of each
abbrev directory_in : List ℕ → List ℕ → ℕ → Part → Part → W.State → Making
directory_in t line p level code d =
    filing boxed t 1 (word_at line p) d (or_else code 0) (heading_record 0 (or_else level 0) (or_else code 0) 1 0) []

abbrev sheet_in : List ℕ → List ℕ → ℕ → Part → Part → List ℕ → ℕ → W.State → Making
sheet_in t line p level code text life d =
    filing boxed t 2 (word_at line p) d (or_else code 0) (heading_record 1 (or_else level 0) (or_else code 0) life (length text)) text

-- .. and of a copy
abbrev pub cpy_at : List ℕ → List ℕ → Chain → ℕ → Part → Part → Part → W.State → W.State → Planned
cpy_at t line old new life level code f d =
    making boxed t (copied_to t (word_at line new) d (W.file t f) life level code)
    (read_inhibited (end_of 1 (word_of line old)) f ∷ []) (not_simple (end_of 1 (word_of line old)) t f ∷ [])
    (late_of (end_of 1 (word_of line old)) level (rec t (W.file t f)))

module _ (t line : List ℕ) (u p k : ℕ) (level code : Part) where
  abbrev walked : W.Walked
  walked = to_directory boxed t 1 (begins u Own) (chain_at line p Own)

  pub crd-stops : (h : Refusal) → Err (refusal_meant h) ≡ walked_by 1 walked → (r : Result Answer Refusal) → r ≡ Err h
      → Did t k (crd_plan boxed t u (word_at line p) level code) (answer_of r) t
  unfolding crd_plan
  crd-stops h e r q = holder-stops t line u 1 (own p) (λ s. making boxed t (directory_in t line p level code s) [] [] []) k h e r q

  pub crd-reaches : (d : State) → Ok d ≡ walked_by 1 walked → (r : Answer) (x : List ℕ)
      → Did t k (making boxed t (directory_in t line p level code (meant d)) [] [] []) r x → Did t k (crd_plan boxed t u (word_at line p) level code) r x
  unfolding crd_plan
  crd-reaches d e r x w = holder-reaches t line u 1 (own p) (λ s. making boxed t (directory_in t line p level code s) [] [] []) k d e r x w

  module _ (text : List ℕ) (life : ℕ) where
    pub wrs-stops : (h : Refusal) → Err (refusal_meant h) ≡ walked_by 2 walked → (r : Result Answer Refusal) → r ≡ Err h
        → Did t k (wrs_plan boxed t u text life level code (word_at line p)) (answer_of r) t
    unfolding wrs_plan
    wrs-stops h e r q = holder-stops t line u 2 (own p) (λ s. making boxed t (sheet_in t line p level code text life s) [] [] []) k h e r q

    pub wrs-reaches : (d : State) → Ok d ≡ walked_by 2 walked → (r : Answer) (x : List ℕ)
        → Did t k (making boxed t (sheet_in t line p level code text life (meant d)) [] [] []) r x
        → Did t k (wrs_plan boxed t u text life level code (word_at line p)) r x
    unfolding wrs_plan
    wrs-reaches d e r x w = holder-reaches t line u 2 (own p) (λ s. making boxed t (sheet_in t line p level code text life s) [] [] []) k d e r x w
