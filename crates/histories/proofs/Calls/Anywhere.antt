-- Stores of whole records at any place: past the table they change nothing, so each record is as it was or one that was laid there.
-- So what a plan would store is told before it is asked whether there is room.
use mathlib.Core.List.{List, [], ◌∷◌}
use mathlib.Core.Logic.{◌⊎◌, inl, inr, ◌≢◌, by_cases}
use mathlib.Core.Path.{◌≡◌, refl, sym, ◌∙◌}
use Prim.Native.Nat.{ℕ, ◌*◌, ◌≤◌, ◌<◌}
use native.Mathlib.Omega.{arith}
use native.Mathlib.Decide.{ℕ_discrete, dec_lt}
use lib.ListN.{length}
use lib.Seq.{length-sets, ext_get_or}
use Rattle.paper.specs.Table.{rooms, rec, lay}
use Rattle.paper.specs.Block.{block, blocks}
use Rattle.paper.specs.Store.{Store, run}
use Rattle.paper.specs.Effect.{new_file}
use Rattle.laws.proofs.Lists.{Every, every-imp, every-each}
use Rattle.laws.proofs.Fields.{length-text}
use Rattle.laws.proofs.Lay.{Whole, sets-before, rec-past, lay-same, lay-other, rooms-lay, length-lay}
use Rattle.laws.proofs.Runs.{Lays}
use Rattle.laws.proofs.Blocks.{block-most}

-- a whole record
abbrev pub Fits : Store → Type 0
Fits x = length x.bytes ≡ 32

pub lays-fit : (P : ℕ → List ℕ → Type 0) (n : ℕ) (ss : List Store) → Every (Lays P n) ss → Every Fits ss
lays-fit P n ss = every-imp (Lays P n) Fits ss (λ x l. l.size)

pub lay-past : (t : List ℕ) (a : ℕ) (r : List ℕ) → Whole t → rooms t ≤ a → lay t a r ≡ t
unfolding lay
lay-past t a r w l = ext_get_or 0 (lay t a r) t (length-sets t (a * 32) r) (λ i m. sets-before r t (a * 32) i (omega (arith, length-sets t (a * 32) r, m)))

module _ (t : List ℕ) (w : Whole t) (a : ℕ) (r : List ℕ) (size : length r ≡ 32) where
  pub rec-apart : (i : ℕ) → i ≢ a → rec (lay t a r) i ≡ rec t i
  rec-apart i q =
      by_cases (dec_lt i (rooms t)) (lay-other t a r i size q)
      (λ (m : ¬ (i < rooms t)). rec-past (lay t a r) i (rw (length-lay t a r) w) (rw (rooms-lay t a r) (omega arith)) ∙ sym (rec-past t i w (omega arith)))

  lay-either : (i : ℕ) → (rec (lay t a r) i ≡ rec t i) ⊎ ((i ≡ a) × (rec (lay t a r) i ≡ r))
  lay-either i =
      by_cases (dec_lt a (rooms t))
      (λ (l : a < rooms t).
      by_cases (ℕ_discrete i a) (λ (q : i ≡ a). inr (q, rw q (lay-same t a r size l))) (λ (q : i ≢ a). inl (rec-apart i q)))
      (λ (l : ¬ (a < rooms t)). inl (rw (lay-past t a r w (omega arith))))

-- after any such stores a record is as it was, or satisfies what holds of each store there
pub fit-each : (P : ℕ → List ℕ → Type 0) (ss : List Store) (t : List ℕ) → Whole t → Every Fits ss → Every (λ x. P x.at x.bytes) ss
    → (i : ℕ) → (rec (run t ss) i ≡ rec t i) ⊎ P i (rec (run t ss) i)
unfolding run
fit-each P [] t w f h i = inl refl
fit-each P (x ∷ ss) t w f h i =
    go (lay-either t w x.at x.bytes f.0 i)
    (fit-each P ss (lay t x.at x.bytes) (rw (length-lay t x.at x.bytes) w) f.1 h.1 i)
  where
    u : List ℕ
    u = lay t x.at x.bytes

    go : (rec u i ≡ rec t i) ⊎ ((i ≡ x.at) × (rec u i ≡ x.bytes)) → (rec (run u ss) i ≡ rec u i) ⊎ P i (rec (run u ss) i)
        → (rec (run u ss) i ≡ rec t i) ⊎ P i (rec (run u ss) i)
    go y (inr p) = inr p
    go (inl y) (inl e) = inl (e ∙ y)
    go (inr y) (inl e) = inr (rw (e, y.1, y.0) h.0)

-- a new file's records
pub file-fits : (t head body : List ℕ) → length head ≡ 32 → Every Fits (new_file t head body)
unfolding new_file
file-fits t head body e = (e, every-each Fits _ (blocks (length body)) (λ p _. length-text _ p (block body p) (block-most body p)))
