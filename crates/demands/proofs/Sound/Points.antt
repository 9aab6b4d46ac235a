-- What a record points to: an entry's directory, the heading that it names and a text's heading are headings.
-- Where those stay, what points to them does; and what is no heading, no entry names.
use mathlib.Core.Bool.{true, false}
use mathlib.Core.List.{List}
use mathlib.Core.Logic.{◌⊎◌, inl, inr, ◌≢◌}
use mathlib.Core.Path.{◌≡◌, subst}
use Prim.Native.Nat.{ℕ, ◌<◌}
use Rattle.paper.specs.Record.{byte, directory, simple, holder_of, heading_of, names}
use Rattle.paper.specs.Table.{rooms, rec}
use Rattle.paper.specs.Entry.{named}
use Rattle.paper.specs.Sound.{is_base, holder_there}
use Rattle.laws.proofs.Tests.{and_left, or_cases, or_left, or_right, false-by}
use Rattle.laws.proofs.Scans.{any_none}
use Rattle.laws.proofs.Entries.{names-kind, names-heading, typed-kind}
use Rattle.demands.proofs.Sound.Clauses.{SoundBut}

-- an entry's directory is there where every heading stays
pub holder-stays : (t f : List ℕ) → ((h : ℕ) → byte (rec t h) 0 ≡ 1 → rec f h ≡ rec t h) → (i : ℕ) (r : List ℕ)
    → holder_there t i r ≡ true → holder_there f i r ≡ true
holder-stays t f stays i r e = go (or_cases (is_base r) (directory (rec t (holder_of r))) e)
  where
    go : (is_base r ≡ true) ⊎ (directory (rec t (holder_of r)) ≡ true) → holder_there f i r ≡ true
    go (inl b) = or_left (is_base r) _ b
    go (inr d) = or_right (is_base r) _ (rw (stays (holder_of r) (typed-kind 0 (rec t (holder_of r)) d)) d)

module _ (o : ℕ) (t : List ℕ) (c : SoundBut o t) where
  -- a text's heading is one
  pub text-points : (i : ℕ) → i < rooms t → byte (rec t i) 0 ≡ 3 → byte (rec t (heading_of (rec t i))) 0 ≡ 1
  text-points i l k = typed-kind 1 (rec t (heading_of (rec t i))) (and_left (simple (rec t (heading_of (rec t i)))) _ (c.texts i l k))

  -- what is no heading is named by no entry
  pub no-heading-unnamed : (h : ℕ) → byte (rec t h) 0 ≢ 1 → named t h ≡ false
  unfolding named
  no-heading-unnamed h d =
      any_none (λ i. names h (rec t i)) (rooms t)
      (λ i l. false-by _ (λ e. d (subst (λ (x : ℕ). byte (rec t x) 0 ≡ 1) (names-heading h (rec t i) e) (c.targets i l (names-kind h (rec t i) e)))))
