-- A sheet that stands in the directory that the walk reaches is read back whole: it is found, nothing inhibits it, its file is simple
-- and the buffer is long enough, so no check holds. Where the walk stops, the reading answers with its number.
use mathlib.Core.List.{List, [], ◌∷◌, ◌++◌}
use mathlib.Core.Path.{◌≡◌, refl}
use Prim.Native.Nat.{ℕ, ◌≤◌}
use native.Mathlib.Omega.{arith}
use lib.ListN.{length, drop}
use borrow.Author.Tests.{le-ltb, le-leb}
use Rattle.paper.specs.Layout.{boxed}
use Rattle.paper.specs.Declaration.{not_given}
use Rattle.paper.specs.Line.{Word}
use Rattle.paper.specs.Check.{at_link, refusal_at, verdict}
use Rattle.paper.specs.Request.{Request, request, asked}
use Rattle.paper.specs.Walk.{State, start, look, reached, stopped, to_directory, ended}
use Rattle.paper.specs.Store.{run}
use Rattle.paper.specs.Effect.{chain_of, rds_plan}
use Rattle.paper.specs.Answer.{Outcome, refusing, ran, single, granted, requested}
use Rattle.demands.proofs.Sound.Right.{Right, right-sound}
use Rattle.demands.proofs.Request.Course.{admits}
use Rattle.demands.proofs.Parts.{part-whole}
use Rattle.job_demands.proofs.Kept.{Stood}
use Rattle.job_demands.proofs.Walks.{last_of}

-- what was read is tried on a sound table
pub sound-admits : (t line text reply : List ℕ) (u k : ℕ) (r : Request) → Right t → u ≤ 999999 → asked line text ≡ request r
    → requested boxed t line text reply u k ≡ granted boxed t text reply u k r
sound-admits t line text reply u k r c = let z = right-sound t c in admits t line text reply u k r z.0 z.1

-- the text is written to the front of the buffer, and the table stays
pub record Wrote (t buffer text : List ℕ) (o : Outcome) : Type 0 where
  pub number : o.answer.number ≡ 0
  pub bytes : o.answer.bytes ≡ length text
  pub table : o.table ≡ t
  pub reply : o.reply ≡ text ++ drop (length text) buffer

module _ (t reply : List ℕ) (u k : ℕ) (w : Word) (pre : List (List ℕ)) (n : List ℕ) (e : chain_of w ≡ pre ++ n ∷ []) where
  pub rds-writes : (text : List ℕ) (d : State) → to_directory boxed t 1 (start u) (pre ++ n ∷ []) ≡ reached d → Stood t d.holder n text
      → length text ≤ length reply → Wrote t reply text (single t reply k (ran k (rds_plan boxed t u reply w not_given not_given)))
  unfolding rds_plan ended look verdict run
  rds-writes text d q s l =
      rw (
        e,
        q,
        last_of pre n,
        s.found,
        s.code,
        s.simple,
        s.unmarked,
        s.reads,
        part-whole text,
        le-ltb (length reply) (length text) l,
        le-ltb (length text) 0 (omega arith),
        le-leb 0 k (omega arith),
      )
      (record { number = refl; bytes = refl; table = refl; reply = refl })

  -- the walk stops: so does the reading, with its number
  pub rds-stops : (number link : ℕ) → to_directory boxed t 1 (start u) (pre ++ n ∷ []) ≡ stopped number link
      → single t reply k (ran k (rds_plan boxed t u reply w not_given not_given)) ≡ refusing t reply (refusal_at number (at_link 1 link))
  unfolding rds_plan ended
  rds-stops number link q = rw (e, q)
