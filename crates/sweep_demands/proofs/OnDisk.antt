-- What a disk may hold when the power fails in a sweep: entries and headings in any order, then text, counts at any time. Each record is as it was
-- or as the sweep leaves it, and text is written only when every heading that is lost is cleared; so the text of each heading left is left.
use mathlib.Core.Bool.{true, false}
use mathlib.Core.List.{List}
use mathlib.Core.Logic.{◌⊎◌, inl, inr}
use mathlib.Core.Path.{◌≡◌, sym, ◌∙◌}
use Prim.Native.Nat.{ℕ, ◌<◌}
use native.Mathlib.Omega.{arith}
use lib.ListN.{length}
use Rattle.paper.specs.Record.{byte, heading_of, blank}
use Rattle.paper.specs.Table.{rooms, rec}
use Rattle.paper.specs.Mend.{mended}
use Rattle.paper.specs.Sweep.{reached, lost_heading, live, swept}
use Rattle.laws.proofs.Tests.{truth, true-by}
use Rattle.laws.proofs.Lay.{Whole, within, kind-blank}
use Rattle.demands.proofs.Sound.Right.{Right}
use Rattle.demands.proofs.Mending.Part.{equal, Less}
use Rattle.demands.proofs.Mending.Counts.{alike-kind, alike_same}
use Rattle.demands.proofs.Mending.Debris.{sound-keeps}
use Rattle.demands.proofs.Mending.Again.{Tidy, tidy-less, tidy-over}
use Rattle.sweep_demands.proofs.Live.{lost, heading-live, live-less, live-each}
use Rattle.sweep_demands.proofs.Again.{cut-any}
use Rattle.sweep_demands.proofs.Lesser.{TextsStay}
use Rattle.sweep_demands.proofs.Sound.{mended-right}
use Rattle.sweep_demands.proofs.Calls.{Exactly, exactly-by}

-- x is what a disk may hold in a sweep of t, "entries and headings, then text"
pub record Caught (t x : List ℕ) : Type 0 where
  pub long : length x ≡ length t
  pub each : (i : ℕ) → i < rooms t → (rec x i ≡ rec t i) ⊎ (rec x i ≡ rec (swept t) i)
  pub order : ((i : ℕ) → i < rooms t → byte (rec t i) 0 ≡ 3 → rec x i ≡ rec t i) ⊎ ((i : ℕ) → i < rooms t → lost_heading t i ≡ true → rec x i ≡ blank)

module _ (t x : List ℕ) (r : Right t) (g : Caught t x) where
  w : Whole t
  w = r.clauses.whole

  e : Exactly t (swept t)
  e = exactly-by t w

  tidy : (i : ℕ) → i < rooms t → Tidy (rec t i) (rec (live t) i) (rec x i)
  tidy i l = go (g.each i l) (truth (lost t i))
    where
      go : (rec x i ≡ rec t i) ⊎ (rec x i ≡ rec (swept t) i) → (lost t i ≡ true) ⊎ (lost t i ≡ false) → Tidy (rec t i) (rec (live t) i) (rec x i)
      go (inl q) b = inl (equal q)
      go (inr q) (inl b) = inr (q ∙ e.free i l b, live-each t w i l ∙ rw b)
      go (inr q) (inr b) = inl (rw q (e.others i l b))

  less : Less t x
  less = tidy-less (live t) t x (live-less t w) g.long tidy

  over : Less x (live t)
  over = tidy-over (live t) t x (live-less t w) g.long tidy

  -- once every heading that is lost is cleared, a heading there is reached
  there : ((i : ℕ) → i < rooms t → lost_heading t i ≡ true → rec x i ≡ blank) → (h : ℕ) → h < rooms t → byte (rec x h) 0 ≡ 1 → reached t h ≡ true
  there o h l z = go (g.each h l) (truth (lost t h))
    where
      go : (rec x h ≡ rec t h) ⊎ (rec x h ≡ rec (swept t) h) → (lost t h ≡ true) ⊎ (lost t h ≡ false) → reached t h ≡ true
      go (inl q) b =
          let k : byte (rec t h) 0 ≡ 1 = rw q at z in
          true-by (reached t h) (λ n. let y : ⊥ = omega (arith, kind-blank (rec x h) (o h l (rw (k, n)))) in y)
      go (inr q) (inl b) = let y : ⊥ = omega (arith, kind-blank (rec x h) (q ∙ e.free h l b)) in absurd y
      go (inr q) (inr b) =
          let k : byte (rec t h) 0 ≡ 1 = sym (alike-kind (rec t h) (rec (swept t) h) (e.others h l b)) ∙ (rw q at z) in
          heading-live t h k b

  texts : TextsStay t x
  texts i l q z = go g.order
    where
      go : ((i : ℕ) → i < rooms t → byte (rec t i) 0 ≡ 3 → rec x i ≡ rec t i) ⊎ ((i : ℕ) → i < rooms t → lost_heading t i ≡ true → rec x i ≡ blank)
          → rec x i ≡ rec t i
      go (inl o) = o i l q
      go (inr o) = at (g.each i l)
        where
          in-t : heading_of (rec t i) < rooms t
          in-t = rw g.long at (within x (heading_of (rec t i)) (rw g.long w) (λ (y : byte (rec x (heading_of (rec t i))) 0 ≡ 0). omega arith))

          stays : lost t i ≡ false
          stays = rw (q, there o (heading_of (rec t i)) in-t z)

          at : (rec x i ≡ rec t i) ⊎ (rec x i ≡ rec (swept t) i) → rec x i ≡ rec t i
          at (inl y) = y
          at (inr y) = y ∙ alike_same (rec t i) (rec (swept t) i) (e.others i l stays) (rw q)

  -- mended, it is sound; and swept again it ends as one uncut
  pub disk-right : Right (mended x)
  disk-right = mended-right t r x less texts

  pub disk-again : swept (mended x) ≡ swept t
  disk-again = cut-any t x w less over (sound-keeps t r)
