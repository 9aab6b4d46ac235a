-- What follows an entry displaced or cleared is counts, and then clearings of debris: the lost file's heading, and its text, which belongs
-- to no simple file once the heading is cleared.
use mathlib.Core.Bool.{Bool, true, false}
use mathlib.Core.List.{List, [], ◌∷◌, ◌++◌, append-nil}
use mathlib.Core.Logic.{◌⊎◌, inl, inr, ◌≢◌}
use mathlib.Core.Path.{◌≡◌, refl, ◌∙◌}
use Prim.Native.Nat.{ℕ, suc, ◌<◌}
use native.Mathlib.Omega.{arith}
use lib.ListN.{length}
use Rattle.paper.specs.Record.{byte, heading_named, blank}
use Rattle.paper.specs.Table.{rooms, rec, lay, text_room}
use Rattle.paper.specs.Entry.{named}
use Rattle.paper.specs.Block.{blocks_of}
use Rattle.paper.specs.Store.{Store, puts, run}
use Rattle.paper.specs.Count.{recounts}
use Rattle.paper.specs.Effect.{freed, with_counts, lost, settled}
use Rattle.laws.proofs.Tests.{truth}
use Rattle.laws.proofs.Lists.{Every, every_append, every-both, every-each}
use Rattle.laws.proofs.Lay.{Whole, lay-other, length-blank, within, kinds-apart}
use Rattle.laws.proofs.Runs.{Lays, run-each, run-append, rooms-run, cleared-there}
use Rattle.demands.proofs.Sound.Clauses.{Sound}
use Rattle.demands.proofs.SoundKept.Freed.{text-found}
use Rattle.demands.proofs.Mending.Debris.{keeps-none, Loose, head, body}
use Rattle.demands.proofs.PowerCut.Cut.{Litters, Sweeps, counted, run-counted, rooms-counted, entered, over, Shaped, phased, recounts-sweep, counted_is, counted-stores}

-- what is not free is left by stores of debris
stays : (t : List ℕ) (pre : List Store) → Whole t → Every (Litters t) pre
    → (k i : ℕ) → byte (rec t i) 0 ≡ suc k → rec (run t pre) i ≡ rec t i
unfolding blank
stays t pre w lit k i q = go (run-each _ t pre lit i (within t i w (omega arith)))
  where
    go : (rec (run t pre) i ≡ rec t i) ⊎ ((rec t i ≡ blank) × Loose t (rec (run t pre) i)) → rec (run t pre) i ≡ rec t i
    go (inl e) = e
    go (inr z) = let y : 0 ≡ suc k = rw z.0 at q in let b : ⊥ = omega arith in absurd b

module _ (t : List ℕ) (c : Sound t) (pre : List Store) (lit : Every (Litters t) pre) (e : ℕ) (r : List ℕ)
    (ke : byte (rec t e) 0 ≡ 2) (lr : length r ≡ 32) where
  m : List ℕ
  m = counted t pre (puts e r)

  rooms-m : rooms m ≡ rooms t
  unfolding m
  rooms-m = rooms-counted t pre (puts e r)

  in_e : e < rooms t
  in_e = within t e c.whole (omega arith)

  other : (i : ℕ) → i < rooms t → i ≢ e → rec m i ≡ rec (run t pre) i
  unfolding m
  other i l d = lay-other (run t pre) e r i lr d (rw (rooms-run t pre) l)

  stays-m : (k i : ℕ) → i ≢ e → byte (rec t i) 0 ≡ suc k → rec m i ≡ rec t i
  stays-m k i d q = other i (within t i c.whole (omega arith)) d ∙ stays t pre c.whole lit k i q

  h : ℕ
  h = heading_named (rec t e)

  kh : byte (rec t h) 0 ≡ 1
  unfolding h
  kh = c.targets e in_e ke

  in-h : h < rooms t
  in-h = within t h c.whole (omega (arith, kh))

  -- the table once the counts are corrected, and once the file is cleared
  n : List ℕ
  n = run m (recounts m)

  f : List ℕ
  f = run n (freed t h)

  rooms-n : rooms n ≡ rooms t
  unfolding n
  rooms-n = rooms-run m (recounts m) ∙ rooms-m

  at-text : (p : ℕ) → p < blocks_of t h → text_room t h p < rooms t
  at-text p b = (text-found 65535 t h c kh p b).0

  -- each record of the file is free at the end
  clearings : Every (Lays (λ _ x. x ≡ blank) (rooms n)) (freed t h)
  unfolding freed
  clearings = (
    record { within = rw rooms-n in-h; size = length-blank; holds = refl },
    every-each _ _ (blocks_of t h) (λ p b. record { within = rw rooms-n (at-text p b); size = length-blank; holds = refl }),
  )

  free : Every (λ x. rec f x.at ≡ blank) (freed t h)
  unfolding f
  free = cleared-there n (freed t h) clearings

  blank-h : rec f h ≡ blank
  unfolding freed
  blank-h = free.0

  loose : Every (λ x. (x.bytes ≡ blank) × ((x.at < rooms m) × Loose f (rec m x.at))) (freed t h)
  unfolding freed
  loose = ((refl, (rw rooms-m in-h, head (rw at-h kh))), every-each _ _ (blocks_of t h) (λ p b. (refl, (rw rooms-m (at-text p b), one p b))))
    where
      at-h : rec m h ≡ rec t h
      at-h = stays-m 0 h (kinds-apart t h e 1 2 kh ke (omega arith)) kh

      one : (p : ℕ) → p < blocks_of t h → Loose f (rec m (text_room t h p))
      one p b =
          let i : ℕ = text_room t h p in
          let g = text-found 65535 t h c kh p b in
          let s : rec m i ≡ rec t i = stays-m 2 i (kinds-apart t i e 3 2 g.1.kind ke (omega arith)) g.1.kind in
          rw s (body g.1.kind (rw (g.1.heading, blank-h) keeps-none))

  sweeps : Every (Sweeps f m) (recounts m ++ freed t h)
  sweeps =
      every_append (Sweeps f m) (recounts m) (freed t h) (recounts-sweep f m)
      (every-both _ _ (Sweeps f m) (freed t h)
      (λ x z g. record { within = g.1.0; size = rw g.0 length-blank; holds = inr (g.0, (z, g.1.1)) }) free loose)

-- what follows is nothing, or the lost file freed
module _ (t : List ℕ) (e : ℕ) (r : List ℕ) where
  abbrev still-named : Bool
  still-named = named (lay t e r) (heading_named (rec t e))

  settled-none : still-named ≡ true → settled t e r ≡ []
  unfolding settled lost
  settled-none n = rw n

  settled-freed : still-named ≡ false → settled t e r ≡ freed t (heading_named (rec t e))
  unfolding settled lost
  settled-freed n = rw n

-- an entry overwritten or cleared, after stores of debris
pub losing-shaped : (t : List ℕ) → Sound t → (pre : List Store) → Every (Litters t) pre
    → (e : ℕ) (r : List ℕ) → byte (rec t e) 0 ≡ 2 → length r ≡ 32 → Shaped t (with_counts t (pre ++ puts e r ∷ []) ++ settled t e r)
losing-shaped t c pre lit e r ke lr =
    phased pre (puts e r) (recounts m₁ ++ settled t e r) (counted-stores t pre (puts e r) (settled t e r)) lit
    (record { within = in_e t c pre lit e r ke lr; size = lr; holds = over ke })
    (rw (counted-stores t pre (puts e r) (settled t e r), run-counted t pre (puts e r) (recounts m₁ ++ settled t e r)) (go (truth (still-named t e r))))
  where
    m₁ : List ℕ
    m₁ = counted t pre (puts e r)

    go : (still-named t e r ≡ true) ⊎ (still-named t e r ≡ false)
        → Every (Sweeps (run m₁ (recounts m₁ ++ settled t e r)) m₁) (recounts m₁ ++ settled t e r)
    go (inl q) = rw (settled-none t e r q, append-nil) (recounts-sweep (run m₁ (recounts m₁)) m₁)
    go (inr q) =
        rw (settled-freed t e r q, run-append m₁ (recounts m₁) (freed t (heading_named (rec t e))))
        (unfold h f n m in sweeps t c pre lit e r ke lr)

-- a new entry in a free record, after stores of debris
pub adding-shaped : (t : List ℕ) (pre : List Store) → Every (Litters t) pre → (i : ℕ) (r : List ℕ) → i < rooms t → length r ≡ 32 → byte r 0 ≡ 2
    → Shaped t (with_counts t (pre ++ puts i r ∷ []))
adding-shaped t pre lit i r l b k =
    phased pre (puts i r) (recounts (counted t pre (puts i r))) (counted_is t pre (puts i r)) lit
    (record { within = l; size = b; holds = entered k }) (recounts-sweep _ (counted t pre (puts i r)))
